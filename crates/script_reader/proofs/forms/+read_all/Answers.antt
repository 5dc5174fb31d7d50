use Rattle.std.proofs.Common.{[]}
use Rattle.std.specs.Option.{option_map_or}
use Rattle.script_reader.specs.Spelling.{words}
use Rattle.script_reader.specs.Forms.{mapped}
use Rattle.script_reader.proofs.Alone.{fault_first, no_place}
use Rattle.script_reader.proofs.forms.+read_all.Goals as goal

pub returns-in-Some-clause-value : goal.returns-in-Some-clause-value
returns-in-Some-clause-value t c =
    let n = no_place c.args.version c.args.places.now c.in-Some.field-0.now c.args.said.now c.in-empty.len_below in
    rw c.in-Some.is (cc)

pub returns-in-Err-clause-value : goal.returns-in-Err-clause-value
returns-in-Err-clause-value t c =
    let f = fault_first c.args.version c.args.places.now c.next_word.result.0.now
    (option_map_or (λ r. words r.now) c.next_word.result.1 []) c.args.said.now c.read_at.new.said c.in-Err.fault
    (mapped (λ u. c.read_all-in-Err.new.said) c.read_all-in-Err.result)
    c.in-len1-up.len_at_least c.in-Err.ensures.kept c.in-Err.ensures.value c.read_all-in-Err.ensures.value in
    rw (c.first_fault.ensures c.read_all-in-Err.new.said, c.in-Some-rest.is, c.next_word.ensures) f
