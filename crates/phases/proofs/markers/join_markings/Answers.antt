use Rattle.std.proofs.Common.{◌≡◌, ◌∙◌, ◌++◌, ◌∷◌, [], length, map, sym, ap, subst, arith}
use Rattle.std.proofs.lemmas.List.{length-append, map-append}
use Rattle.entry_base.specs.Lists.{total}
use Rattle.entry_base.specs.Sessions.{view}
use Rattle.entry_base.proofs.Sums.{total_append}
use Rattle.phases.specs.declared.markers.Marking.{Marking}
use Rattle.phases.specs.Markings.{EachOnce, HasEnded, HaveEnded}
use Rattle.phases.specs.Sessions.{TookIn}
use Rattle.phases.proofs.Joins.{all_there, joined_once}
use Rattle.phases.proofs.Taken.{TookIn-more}
use Rattle.phases.proofs.markers.join_markings.Goals as goal

pub overflow_add-result : goal.overflow_add-result
overflow_add-result c =
    let is : c.args.markings.items ≡ c.pop.new.self.items ++ c.in-Some.last ∷ [] = c.in-Some.ensures.items in
    let few = (all_there (HasEnded c.args.shared.now c.args.pool.now) c.pop.new.self.items c.in-Some.last [] c.args.markings.items (sym is) c.requires.ended).few in
    let others = c.join_before-scans.ensures.few in
    let long = ap length is in
    let count = length-append c.pop.new.self.items (c.in-Some.last ∷ []) in
    let most = c.requires.few in
    omega (arith, few, others, long, count, most)

pub returns-clause-took : goal.returns-clause-took
returns-clause-took c =
    let is : c.args.markings.items ≡ c.pop.new.self.items ++ c.in-Some.last ∷ [] = c.in-Some.ensures.items in
    subst (λ us. TookIn (view c.args.first.now) us (view c.join.new.self)) (sym (ap (map (λ (m : Marking). view m.session)) is ∙ map-append (λ (m : Marking). view m.session) c.pop.new.self.items (c.in-Some.last ∷ [])))
    (TookIn-more (view c.args.first.now) (map (λ (m : Marking). view m.session) c.pop.new.self.items) (view c.join_before-scans.new.first) (view c.in-Some.last.session) (view c.join.new.self)
    c.join_before-scans.ensures.took c.join.ensures.joined)

pub returns-clause-scans : goal.returns-clause-scans
returns-clause-scans c =
    let is : c.args.markings.items ≡ c.pop.new.self.items ++ c.in-Some.last ∷ [] = c.in-Some.ensures.items in
    let sum = ap (total (λ (m : Marking). m.dealt.scans)) is in
    let parts = total_append (λ (m : Marking). m.dealt.scans) c.pop.new.self.items (c.in-Some.last ∷ []) in
    let others = c.join_before-scans.ensures.scans in
    omega (arith, sum, parts, others)

pub returns-clause-once : goal.returns-clause-once
returns-clause-once c = λ chunks ended.
    let is : c.args.markings.items ≡ c.pop.new.self.items ++ c.in-Some.last ∷ [] = c.in-Some.ensures.items in
    let thief = c.join_before-scans.new.thief in
    subst (EachOnce chunks) (sym is) (joined_once chunks c.pop.new.self.items c.in-Some.last thief.seat.me.0 c.join_before-scans.ensures.joined thief.whole (subst (HaveEnded chunks) is ended))
