use Rattle.std.proofs.Common.{◌≤◌, sym, subst, arith}
use Rattle.plain_table.specs.declared.events.Space.{Space}
use Rattle.plain_table.specs.declared.events.Space.TheVariants.{External, Trusted}
use Rattle.plain_table.specs.Table.{Sizes, limit_in}
use Rattle.entry_word.specs.Image.{sizes_of}
use Rattle.entry_word.specs.declared.image.Shape.{Shape}
use Rattle.word_laws.specs.Small.{AreSmall}
use Rattle.worked_calls.proofs.crowd_tests.crowd_in_a_cycle.Goals as goal

abbrev crowd : Sizes
crowd = record { seg = 4; ext = 4; tru = 1; objects = 8 }

some_index : (p : Space) → 1 ≤ limit_in crowd p
some_index External = omega arith
some_index Trusted = omega arith

few_indexes : (p : Space) → limit_in crowd p ≤ 65536
few_indexes External = omega arith
few_indexes Trusted = omega arith

small_crowd : AreSmall crowd
small_crowd = record { seg = omega arith; some = some_index; few = few_indexes; objects = omega arith }

pub returns-clause-small : goal.returns-clause-small
returns-clause-small g c = subst (λ (s : Shape). AreSmall (sizes_of s)) (sym c.in_ok-image-2.ensures.shape) small_crowd
