use Rattle.std.proofs.Common.{◌≡◌, ◌∙◌, ◌+◌, length, refl, sym, subst, arith}
use Rattle.code_steps.specs.Seats.{view}
use Rattle.code_run.specs.Workers.{ReadCalls}
use Rattle.code_run.proofs.Calls.{read_again, read_good, read_bad}
use Rattle.code_run.proofs.workers.read_calls.Goals as goal
use Rattle.code_run.proofs.workers.read_calls.Goals.{in-Pair+then-not-is_pair_of_run, in-Pair+else-not-is_pair_of_run, in-Again}

pub loop-r-preserved : goal.loop-r-preserved
loop-r-preserved c =
    let e = c.read.ensures in
    let i = c.loop-r.invariant in
    let place = e.caller.0.1 in
    let was = i.caller.0.1 in
    let entries : length (view c.read.new.s).seen ≡ 4 = let a = place.sized in let b = was.sized in let d = i.entries in omega arith in
    let entries_shown : length (view c.loop-r.seat).shown ≡ 4 = was.shown ∙ i.entries in
    record {
      caller = e.caller;
      entries = entries;
      read = elim c.match-read.branch [
        | in-Pair+then-not-is_pair_of_run w ↦ subst (ReadCalls (view c.args.seat) (c.loop-r.r + 1) (view c.read.new.s)) (sym w.counts-is) (read_bad (view c.args.seat) (view c.loop-r.seat) (view c.read.new.s) c.loop-r.r w.in-Pair.seq w.in-Pair.seq c.loop-r.counts i.read i.entries entries_shown e.same w.in-Pair.ensures.shown w.in-Pair.ensures.learned.0 w.in-Pair.code w.in-Pair.entry w.in-Pair.seq w.in-Pair.ensures.cause refl w.in-Pair.ensures.learned.1 (sym w.is_pair_of_run.ensures ∙ w.if-not-is_pair_of_run.true))
        | in-Pair+else-not-is_pair_of_run w ↦ subst (ReadCalls (view c.args.seat) (c.loop-r.r + 1) (view c.read.new.s)) (sym w.counts-is) (read_good (view c.args.seat) (view c.loop-r.seat) (view c.read.new.s) c.loop-r.r w.in-Pair.seq w.in-Pair.seq c.loop-r.counts i.read i.entries entries_shown e.same w.in-Pair.ensures.shown w.in-Pair.ensures.learned.0 w.in-Pair.code w.in-Pair.entry w.in-Pair.seq w.in-Pair.ensures.cause refl w.in-Pair.ensures.learned.1 (sym w.is_pair_of_run.ensures ∙ w.if-not-is_pair_of_run.false))
        | in-Again w ↦ subst (ReadCalls (view c.args.seat) (c.loop-r.r + 1) (view c.read.new.s)) (sym w.counts-is) (read_again (view c.args.seat) (view c.loop-r.seat) (view c.read.new.s) c.loop-r.r w.in-Again.first w.in-Again.second c.loop-r.counts i.read i.entries entries_shown e.same w.in-Again.ensures.shown w.in-Again.ensures.learned w.in-Again.ensures.cause)
      ];
    }
