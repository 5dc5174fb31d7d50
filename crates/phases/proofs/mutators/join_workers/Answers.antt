-- Each turn takes one session more in.
use Rattle.std.proofs.Common.{◌≡◌, ◌∙◌, ◌++◌, ◌∷◌, [], List, length, map, sym, ap, subst, arith, append-nil, append_assoc}
use Rattle.std.proofs.lemmas.List.{length-map, map-append, nil_from_length}
use Rattle.plain_table.specs.declared.reports.Reply.{Reply}
use Rattle.entry_base.specs.declared.view.View.{View}
use Rattle.entry_base.specs.Sessions.{view, IsOf}
use Rattle.phases.specs.declared.mutators.Worker.{Worker}
use Rattle.phases.specs.Sessions.{TookIn}
use Rattle.phases.proofs.Joins.{all_there}
use Rattle.phases.proofs.Pushes.{place_below}
use Rattle.phases.proofs.Taken.{TookIn-more}
use Rattle.phases.proofs.mutators.join_workers.Goals as goal

pub loop-worker-preserved : goal.loop-worker-preserved
loop-worker-preserved c =
    let i = c.loop-worker.invariant in
    let worker = c.in-Some.worker in
    let sessions = map-append (λ (w : Worker). view w.session) c.loop-worker.yielded (worker ∷ []) in
    let replies = map-append (λ (w : Worker). w.replies.items) c.loop-worker.yielded (worker ∷ []) in
    record {
      all = append_assoc c.loop-worker.yielded (worker ∷ []) _ ∙ (ap (λ l. c.loop-worker.yielded ++ l) (sym c.in-Some.ensures.steps.0) ∙ i.all);
      caller = c.join.ensures.caller;
      took = subst (λ (us : List View). TookIn (view c.args.first.now) us (view c.join.new.self)) (sym sessions)
          (TookIn-more (view c.args.first.now) (map (λ (w : Worker). view w.session) c.loop-worker.yielded) (view c.loop-worker.first) (view worker.session) (view c.join.new.self) i.took c.join.ensures.joined);
      replied = c.push_reserved.ensures.items ∙ (ap (λ (l : List (List Reply)). l ++ c.from_vec.result ∷ []) i.replied
          ∙ (ap (λ (r : List Reply). map (λ (w : Worker). w.replies.items) c.loop-worker.yielded ++ r ∷ []) c.from_vec.ensures ∙ sym replies));
      room = let a = i.room in let b = c.push_reserved.ensures.capacity in omega arith;
    }

pub join-requires : goal.join-requires
join-requires c =
    let i = c.loop-worker.invariant in
    let all = ap (λ l. c.loop-worker.yielded ++ l) (sym c.in-Some.ensures.steps.0) ∙ i.all in
    record { callers = (i.caller, all_there (λ (w : Worker). IsOf c.args.shared.now w.session) c.loop-worker.yielded c.in-Some.worker _ c.args.workers.items all c.requires.callers) }

pub push_reserved-requires : goal.push_reserved-requires
push_reserved-requires c =
    let i = c.loop-worker.invariant in
    let all = ap (λ l. c.loop-worker.yielded ++ l) (sym c.in-Some.ensures.steps.0) ∙ i.all in
    let below = place_below c.loop-worker.yielded _ c.args.workers.items c.in-Some.worker all in
    let many = ap length i.replied in
    let same = length-map c.loop-worker.yielded (λ (w : Worker). w.replies.items) in
    let room = i.room in
    omega arith

pub returns-clause-took : goal.returns-clause-took
returns-clause-took c =
    let v = c.loop-worker.invariant in
    let same : c.loop-worker.yielded ≡ c.args.workers.items = sym (append-nil c.loop-worker.yielded) ∙ (ap (λ l. c.loop-worker.yielded ++ l) (sym (nil_from_length c.loop-worker.worker-iterator.rest.items (let z = c.in-None.ensures.steps.0 in omega arith))) ∙ v.all) in
    subst (λ (ws : List Worker). TookIn (view c.args.first.now) (map (λ (w : Worker). view w.session) ws) (view c.loop-worker.first)) same v.took

pub returns-clause-replies : goal.returns-clause-replies
returns-clause-replies c =
    let v = c.loop-worker.invariant in
    let same : c.loop-worker.yielded ≡ c.args.workers.items = sym (append-nil c.loop-worker.yielded) ∙ (ap (λ l. c.loop-worker.yielded ++ l) (sym (nil_from_length c.loop-worker.worker-iterator.rest.items (let z = c.in-None.ensures.steps.0 in omega arith))) ∙ v.all) in
    subst (λ (ws : List Worker). c.loop-worker.replies.items ≡ map (λ (w : Worker). w.replies.items) ws) same v.replied
