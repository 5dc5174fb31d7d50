use Rattle.std.proofs.Common.{◌≡◌, ◌∙◌, ◌++◌, ◌∷◌, [], map, sym, ap, subst, arith, append_assoc}
use Rattle.std.proofs.lemmas.List.{length-append, map-append}
use Rattle.entry_base.specs.Sessions.{view}
use Rattle.entry_base.proofs.Sums.{total_append}
use Rattle.chunk_pool.specs.Claims.{both}
use Rattle.chunk_pool.specs.Thieves.{claims_of}
use Rattle.phases.specs.declared.markers.Marking.{Marking}
use Rattle.phases.specs.Markings.{HasEnded, all_joined}
use Rattle.phases.specs.Sessions.{TookIn}
use Rattle.phases.proofs.Joins.{all_joined-push, all_there}
use Rattle.phases.proofs.Taken.{TookIn-more}
use Rattle.phases.proofs.markers.join_before.Goals as goal

pub loop-marking-preserved : goal.loop-marking-preserved
loop-marking-preserved c =
    let i = c.loop-marking.invariant in
    let m = c.in-Some.marking in
    let yielded = c.loop-marking.yielded in
    let rest = c.next.new.self.rest.items in
    let all : yielded ++ m ∷ rest ≡ c.args.markings.items = ap (λ l. yielded ++ l) (sym c.in-Some.ensures.steps.0) ∙ i.all in
    let few = (all_there (HasEnded c.args.shared.now c.args.pool.now) yielded m rest c.args.markings.items all c.requires.ended).few in
    let sum = total_append (λ (x : Marking). x.dealt.scans) yielded (m ∷ []) in
    let long = length-append yielded (m ∷ []) in
    let was = i.scans in
    let was_few = i.few in
    record {
      all = append_assoc yielded (m ∷ []) rest ∙ all;
      caller = c.join.ensures.caller;
      thief = c.join-in-loop-marking.ensures.thief;
      took = subst (λ us. TookIn (view c.args.first.now) us (view c.join.new.self)) (sym (map-append (λ (x : Marking). view x.session) yielded (m ∷ [])))
          (TookIn-more (view c.args.first.now) (map (λ (x : Marking). view x.session) yielded) (view c.loop-marking.first) (view m.session) (view c.join.new.self) i.took c.join.ensures.joined);
      joined = c.join-in-loop-marking.ensures.joined
          ∙ (ap (λ t. both t (claims_of m.thief)) i.joined
          ∙ (sym (all_joined-push (claims_of c.args.thief.now) (map (λ (x : Marking). claims_of x.thief) yielded) (claims_of m.thief)) ∙ ap (all_joined (claims_of c.args.thief.now)) (sym (map-append (λ (x : Marking). claims_of x.thief) yielded (m ∷ [])))));
      scans = omega (arith, sum, was);
      few = omega (arith, few, long, was_few);
    }
