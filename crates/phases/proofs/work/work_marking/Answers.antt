-- The workers are taken in as they are after they ran.
use Rattle.std.proofs.Common.{◌≡◌, ◌<◌, ℕ, List, All, length, map, slice_index_or, sym, ap, subst, ◌∙◌, arith}
use Rattle.std.proofs.lemmas.List.{with_items_is}
use Rattle.entry_base.specs.declared.chunks.Chunk.{Chunk}
use Rattle.entry_base.specs.Lists.{total}
use Rattle.entry_base.specs.Sessions.{view}
use Rattle.phases.specs.declared.markers.Marking.{Marking}
use Rattle.phases.specs.declared.mutators.Worker.{Worker}
use Rattle.phases.specs.Markings.{EachOnce, HasEnded, HasMarked, HaveEnded}
use Rattle.phases.specs.Sessions.{TookIn}
use Rattle.phases.specs.Workers.{HaveAllCalled}
use Rattle.phases.proofs.Marked.{HasEnded-all}
use Rattle.phases.proofs.Taken.{TookIn-append}
use Rattle.phases.proofs.work.work_marking.Goals as goal

pub join_markings-requires-clause-ended : goal.join_markings-requires-clause-ended
join_markings-requires-clause-ended g c =
    let value = c.as_mut_slice-2.ensures.value in
    let lists : length c.run_both.new.markings ≡ length c.args.markings.items = c.run_both.ensures.lists ∙ ap length value in
    let each = subst (λ (ms : List Marking). (i : ℕ) (d : Marking) → i < length ms → HasMarked c.args.shared.now c.args.pool.now (slice_index_or ms i d) (slice_index_or c.run_both.new.markings i d)) value c.run_both.ensures.marked in
    subst (All (HasEnded c.args.shared.now c.args.pool.now)) (sym (with_items_is c.args.markings c.run_both.new.markings (let l = c.as_mut_slice-2.ensures.len in let k = c.run_both.ensures.lists in omega (arith, l, k))))
    (HasEnded-all c.args.shared.now c.args.pool.now c.args.markings.items c.run_both.new.markings c.requires.marking lists each)

pub returns-clause-worked : goal.returns-clause-worked
returns-clause-worked g c =
    let value = c.as_mut_slice.ensures.value in
    let values = c.as_mut_slice-2.ensures.value in
    let workers = with_items_is c.args.workers c.run_both.new.workers (let l = c.as_mut_slice.ensures.len in let k = c.run_both.ensures.called.lists in omega (arith, l, k)) in
    let markings = with_items_is c.args.markings c.run_both.new.markings (let l = c.as_mut_slice-2.ensures.len in let k = c.run_both.ensures.lists in omega (arith, l, k)) in
    record {
      after = c.run_both.new.workers;
      all = record {
        called = subst (λ (ws : List Worker). HaveAllCalled c.args.shared.now c.args.calls.now ws c.run_both.new.workers) value c.run_both.ensures.called;
        replied = c.join_workers.ensures.replies ∙ ap (map (λ (x : Worker). x.replies.items)) workers;
      };
      marked = c.run_both.new.markings;
      lists = c.run_both.ensures.lists ∙ ap length values;
      each = subst (λ (ms : List Marking). (i : ℕ) (d : Marking) → i < length ms → HasMarked c.args.shared.now c.args.pool.now (slice_index_or ms i d) (slice_index_or c.run_both.new.markings i d)) values c.run_both.ensures.marked;
      once = subst (λ (ms : List Marking). (chunks : List Chunk) → HaveEnded chunks ms → EachOnce chunks ms) markings c.join_markings.ensures.once;
      counted = c.join_markings.ensures.scans ∙ ap (total (λ (m : Marking). m.dealt.scans)) markings;
      took = TookIn-append (view c.args.first.now) (map (λ (x : Worker). view x.session) c.run_both.new.workers) (view c.join_workers.new.first) (map (λ (m : Marking). view m.session) c.run_both.new.markings) (view c.join_markings.new.first)
          (subst (λ (ws : List Worker). TookIn (view c.args.first.now) (map (λ (x : Worker). view x.session) ws) (view c.join_workers.new.first)) workers c.join_workers.ensures.took)
          (subst (λ (ms : List Marking). TookIn (view c.join_workers.new.first) (map (λ (m : Marking). view m.session) ms) (view c.join_markings.new.first)) markings c.join_markings.ensures.took);
    }
