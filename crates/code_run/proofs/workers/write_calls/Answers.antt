use Rattle.std.proofs.Common.{◌≡◌, ℕ, ◌∙◌, ◌+◌, ◌-◌, ◌%◌, ◌*◌, ◌^◌, length, sym, ap, subst, arith, refl, [], ◌∷◌, append-nil}
use Rattle.code_steps.specs.Seats.{view}
use Rattle.code_steps.specs.Lists.{Pair, store_of}
use Rattle.code_steps.specs.declared.calls.Wrote.TheVariants.{Done, Busy, Spent}
use Rattle.code_run.specs.Calls.{pair_of}
use Rattle.code_run.specs.Workers.{WroteCalls}
use Rattle.code_run.proofs.Calls.{wrote_more, busy_moved, busy_long, done_touched}
use Rattle.code_run.proofs.workers.write_calls.Goals as goal
use Rattle.code_run.proofs.workers.write_calls.Goals.{in-Done, in-Busy, in-Spent}

pub loop-r-preserved : goal.loop-r-preserved
loop-r-preserved c =
    let e = c.write.ensures in
    let i = c.loop-r.invariant in
    let place = e.caller.0.1 in
    let was = i.caller.0.1 in
    let entries : length (view c.write.new.s).seen ≡ 4 = let a = place.sized in let b = was.sized in let d = i.entries in omega arith in
    let entries_shown : length (view c.loop-r.seat).shown ≡ 4 = was.shown ∙ i.entries in
    let code : c.from-code.result ≡ 2 * c.loop-r.r + c.args.writer = c.from-code.ensures in
    record {
      caller = e.caller;
      entries = entries;
      wrote = elim c.match-write.branch [
        | in-Done w ↦ let t = w.in-Done.ensures.learned in let pair : (c.from-code.result, 2 ^ 32 + c.from-code.result) ≡ pair_of c.args.writer c.loop-r.r = ap (λ (n : ℕ). (n, 2 ^ 32 + n)) code in subst (WroteCalls (view c.args.seat) c.args.writer (c.loop-r.r + 1) (view c.write.new.s)) (sym w.counts-is)
            (wrote_more (view c.args.seat) (view c.loop-r.seat) (view c.write.new.s) c.args.writer c.loop-r.r 0 0 c.loop-r.counts (Done w.in-Done.seq) (store_of (c.loop-r.r % 4) w.in-Done.seq (c.from-code.result, 2 ^ 32 + c.from-code.result) ∷ []) _ w.in-Done.ensures.cause refl (ap (λ (p : Pair). store_of (c.loop-r.r % 4) w.in-Done.seq p ∷ []) pair) refl refl i.wrote entries_shown e.same w.in-Done.ensures.shown t.own
            (record { at = refl; code = code; entry = ap (λ n. 2 ^ 32 + n) code }, tt) (omega arith) (omega arith) (done_touched (c.loop-r.r % 4) w.in-Done.seq (c.from-code.result, 2 ^ 32 + c.from-code.result) ((w.in-Done.seq - 2) ∷ (w.in-Done.seq - 2) ∷ [])) (omega arith) (omega arith) _ refl (omega arith) (omega arith))
        | in-Busy w ↦ let t = w.in-Busy.ensures.learned in let long = busy_long w.in-Busy.expected w.in-Busy.found in let moved = busy_moved w.in-Busy.expected w.in-Busy.found w.in-Busy.ensures.cause in subst (WroteCalls (view c.args.seat) c.args.writer (c.loop-r.r + 1) (view c.write.new.s)) (sym w.counts-is)
            (wrote_more (view c.args.seat) (view c.loop-r.seat) (view c.write.new.s) c.args.writer c.loop-r.r 1 0 c.loop-r.counts (Busy w.in-Busy.expected w.in-Busy.found) [] _ w.in-Busy.ensures.cause refl refl refl refl i.wrote entries_shown e.same w.in-Busy.ensures.shown (t.own ∙ sym (append-nil _))
            tt (omega arith) (omega arith) (omega arith) (omega arith) (omega arith) _ (omega arith) refl (omega arith))
        | in-Spent w ↦ let t = w.in-Spent.ensures.learned in subst (WroteCalls (view c.args.seat) c.args.writer (c.loop-r.r + 1) (view c.write.new.s)) (sym w.counts-is)
            (wrote_more (view c.args.seat) (view c.loop-r.seat) (view c.write.new.s) c.args.writer c.loop-r.r 0 1 c.loop-r.counts Spent [] _ w.in-Spent.ensures.cause refl refl refl refl i.wrote entries_shown e.same w.in-Spent.ensures.shown (t.own ∙ sym (append-nil _))
            tt (omega arith) (omega arith) (omega arith) (omega arith) (omega arith) _ (omega arith) (omega arith) refl)
      ];
    }
