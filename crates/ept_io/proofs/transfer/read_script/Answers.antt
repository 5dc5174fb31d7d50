use Rattle.std.proofs.Common.{rules, ◌≡◌, ◌++◌, ◌∙◌, ◌≤◌, length, take, length-append, length-take-le, refl}
use Rattle.ept_io.specs.Calls.InCalls.{none}
use Rattle.ept_io.proofs.Pieces.{Gave-nil, Gave-then, one_more_call}
use Rattle.ept_io.proofs.transfer.read_script.Goals as goal

-- nothing is given yet
pub loop-bytes-init : goal.loop-bytes-init
loop-bytes-init g c = record {
  within = search rules;
  given = rw c.new-bytes.ensures.items (Gave-nil _);
  reads = rw c.new-bytes.ensures.items none;
  no_fault = refl;
  steady = λ is_steady. is_steady;
}

-- the source gave the bytes that were kept, and then those of the last read
pub loop-bytes-preserved : goal.loop-bytes-preserved
loop-bytes-preserved g c =
    let read = c.in-Ok-2.ensures in
    let items : c.extend_from_slice.new.self.items ≡ c.loop-bytes.bytes.items ++ take c.in-Ok-2.n c.read.new.buf =
    search rules in
    let some : 1 ≤ c.in-Ok-2.n = search rules in
    record {
      within = search rules;
      given = rw items (Gave-then _ _ _ _ _ c.loop-bytes.invariant.given read.bytes);
      reads = rw items (one_more_call _ _ _ _ _ _ _ c.loop-bytes.invariant.reads some read.count read.gave);
      no_fault = read.no_fault ∙ c.loop-bytes.invariant.no_fault;
      steady = λ is_steady. (read.steady (c.loop-bytes.invariant.steady is_steady)).1;
    }

pub returns-in-Ok-clause-given : goal.returns-in-Ok-clause-given
returns-in-Ok-clause-given g c =
    (_, Gave-then _ _ _ _ _ c.loop-bytes.invariant.given c.in-Ok.ensures.bytes)

pub returns-then-is_err-clause-given : goal.returns-then-is_err-clause-given
returns-then-is_err-clause-given g c =
    (_, Gave-then _ _ _ _ _ c.loop-bytes.invariant.given c.in-Ok-2.ensures.bytes)

pub returns-then-is_err-clause-reads_to_no_memory :
    goal.returns-then-is_err-clause-reads_to_no_memory
returns-then-is_err-clause-reads_to_no_memory g c is =
    let read = c.in-Ok-2.ensures in
    let some : 1 ≤ c.in-Ok-2.n = search rules in
    let within : length (c.loop-bytes.bytes.items ++ take c.in-Ok-2.n c.read.new.buf) ≤ c.args.limit =
    rw (length-append, length-take-le c.in-Ok-2.n _ read.count) (search rules) in
    (_, within, one_more_call _ _ _ _ _ _ _ c.loop-bytes.invariant.reads some read.count read.gave)
