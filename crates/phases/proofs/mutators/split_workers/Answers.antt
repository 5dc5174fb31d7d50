-- Each turn gives out one number more.
use Rattle.std.proofs.Common.{◌≡◌, ◌<◌, [], ◌∷◌, ◌++◌, length, slice_index_or, length-append, sym, ap, subst, ◌∙◌, arith}
use Rattle.std.proofs.lemmas.List.{get_or_default}
use Rattle.entry_base.specs.Sessions.{view}
use Rattle.phases.specs.declared.mutators.Worker.{Worker}
use Rattle.phases.specs.Sessions.{GaveOut, IsGiven}
use Rattle.phases.specs.Workers.{MayCall}
use Rattle.phases.proofs.Given.{GaveOut-more, IsGiven-new}
use Rattle.phases.proofs.Pushes.{placed_pushed}
use Rattle.phases.proofs.mutators.split_workers.Goals as goal

pub loop-number-preserved : goal.loop-number-preserved
loop-number-preserved c =
    let i = c.loop-number.invariant in
    let s = c.split-session.ensures in
    let n = c.loop-number.number in
    let worker : Worker = record { session = c.split-session.result; replies = c.in_ok-replies.replies } in
    let items : c.push_reserved.new.self.items ≡ c.loop-number.workers.items ++ worker ∷ [] = c.push_reserved.ensures.items in
    let below : n < length c.args.calls.now = let t = c.loop-number-test.true in let l = c.len.ensures in let e = c.loop-number.auto.number-end in omega arith in
    let calls : slice_index_or c.args.calls.now n [] ≡ c.index-calls-number.result = get_or_default c.args.calls.now n [] c.index-calls-number.result below ∙ sym c.index-calls-number.is in
    let given = IsGiven-new (view c.args.first.now) (view c.loop-number.first) (view c.split-session.result) 0 n n i.gave s.right in
    record {
      caller = s.callers.0;
      gave = GaveOut-more (view c.args.first.now) (view c.loop-number.first) (view c.split-session.new.self) 0 n n i.gave (omega arith) (c.requires.numbers.0 n (let f = c.requires.few in omega (arith, f, below))) s.left;
      long = let l = ap length items in let m = length-append c.loop-number.workers.items (worker ∷ []) in let k = i.long in omega arith;
      room = let a = i.room in let b = c.push_reserved.ensures.capacity in omega arith;
      may = placed_pushed (λ k w. MayCall c.args.shared.now (slice_index_or c.args.calls.now k []) w) c.loop-number.workers.items c.push_reserved.new.self.items n worker items i.long i.may
          (record {
            caller = s.callers.1;
            mutator = let k = given.number in let f = c.requires.few in omega (arith, k, f, below);
            empty = c.in_ok-replies.ensures.items;
            room = let a = c.in_ok-replies.ensures.capacity in let b = c.len.ensures in let f = ap length calls in omega arith;
            valid = c.requires.valid n [] below;
            few = c.requires.short n [] below;
          });
      given = placed_pushed (λ k w. IsGiven (view c.args.first.now) k (view w.session)) c.loop-number.workers.items c.push_reserved.new.self.items n worker items i.long i.given given;
    }

pub returns-clause-gave : goal.returns-clause-gave
returns-clause-gave c =
    subst (λ n. GaveOut (view c.args.first.now) 0 n (view c.loop-number.first)) (let t = c.loop-number-test.false in let e = c.loop-number.auto.number-end in omega arith) c.loop-number.invariant.gave

pub returns-clause-may : goal.returns-clause-may
returns-clause-may c =
    let all : c.loop-number.number ≡ length c.args.calls.now = let t = c.loop-number-test.false in let e = c.loop-number.auto.number-end in omega arith in
    record { lists = c.loop-number.invariant.long ∙ all; each = λ i d low. c.loop-number.invariant.may i d (let l = c.loop-number.invariant.long in omega (arith, low, l)) }

pub returns-clause-given : goal.returns-clause-given
returns-clause-given c = λ i d low. c.loop-number.invariant.given i d (let t = c.loop-number-test.false in let e = c.loop-number.auto.number-end in omega arith)
