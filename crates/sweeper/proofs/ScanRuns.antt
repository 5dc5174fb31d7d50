-- The scan of one object at the pause: its visits, one after the other, and then its scan.
use Rattle.std.proofs.Common.{◌≡◌, ◌⊎◌, ◌<◌, ℕ, true, false, List, [], ◌∷◌, ◌++◌, slice_set, Option, Some, sym, ap, subst, ◌∙◌, inl, inr}
use Rattle.std.specs.List.{All}
use Rattle.std.proofs.lemmas.List.Elements.{All-nil, All-append}
use Rattle.std.proofs.lemmas.Option.{same_Some}
use Rattle.plain_table.specs.declared.events.Act.TheVariants.{Scan}
use Rattle.plain_table.specs.declared.events.Event.{Event}
use Rattle.plain_table.specs.declared.events.Field.{Field}
use Rattle.plain_table.specs.declared.reports.Reply.TheVariants as reply
use Rattle.plain_table.specs.Places.{object_of}
use Rattle.plain_table.specs.Cycle.{Cycle, IsOld}
use Rattle.plain_table.specs.Table.{Table, Sizes}
use Rattle.plain_table.specs.Words.{header_place, header_word}
use Rattle.plain_table.specs.Rows.{IsSafe, AreSafe}
use Rattle.plain_table.specs.History.{after}
use Rattle.plain_table.specs.Reachable.{Reaches}
use Rattle.plain_table.specs.Shapes.{event}
use Rattle.plain_table.specs.Scans.{Rest, Visit, Ends, Turn, Begins, AreFieldsOf}
use Rattle.plain_table.specs.Shows.{Shows}
use Rattle.plain_table.specs.Sound.{IsSound}
use Rattle.plain_table.specs.Sweeps.{meeting, MayScanAtMeet}
use Rattle.plain_table.proofs.CallsMade.{after-append}
use Rattle.sweeper.specs.Small.{AreSmall}
use Rattle.word_laws.specs.Small as sizes
use Rattle.word_laws.specs.Runs.{IsRun}
use Rattle.table_laws.specs.Pauses.{IsVisitAct}
use Rattle.table_laws.proofs.PauseActs.{pause-visits}
use Rattle.table_laws.proofs.PauseKeeps.{IsCalm, calm-after, kept-after}
use Rattle.word_laws.proofs.Runs.{IsRun-join}
use Rattle.word_laws.proofs.PauseRuns.{scan-runs}
use Rattle.sweeper.proofs.Visits.{IsVisited}

-- some fields of an object are visited, and those are safe
pub record IsPartly (linked : List ℕ) (s : Table) (o : ℕ) (all fields : List Field) (Done : Field → Type 0) (now : List ℕ) : Type 0 where
  pub events : List Event
  pub run : IsRun linked (Visit o all) (Visit o fields) now s events
  pub acts : All (λ (e : Event). IsVisitAct e.act) events
  pub safe : (f : Field) → Done f → (d : Cycle) → (after s events).cycle ≡ Some d → (id : ℕ) → s.bound f ≡ Some id → IsSafe (after s events) d f id

pub partly-none : (linked : List ℕ) (s : Table) (o : ℕ) (all : List Field) (words : List ℕ) → Shows words s → IsPartly linked s o all all (λ f. ⊥) words
partly-none linked s o all words shows = record {
  events = [];
  run = record { legal = tt; own = All-nil (λ (e : Event). e.by ≡ meeting); shows = shows; scans = Ends (Visit o all) s };
  acts = All-nil (λ (e : Event). IsVisitAct e.act);
  safe = λ f none d eq id bound. absurd none;
}

pub partly-more : (linked : List ℕ) (s : Table) (c : Cycle) → IsSound s → s.cycle ≡ Some c → (o : ℕ) (all fields : List Field) (f : Field) (Done : Field → Type 0) (mid now : List ℕ)
    (before : IsPartly linked s o all (f ∷ fields) Done mid) → IsVisited linked (after s before.events) o f fields now →
    IsPartly linked s o all fields (λ g. Done g ⊎ (g ≡ f)) now
partly-more linked s c h is o all fields f Done mid now before visit =
    let mid_table = after s before.events in
    let calm = calm-after before.events s (pause-visits before.events before.acts) in
    record {
      events = before.events ++ visit.events;
      run = IsRun-join linked (Visit o all) (Visit o (f ∷ fields)) (Visit o fields) mid now s before.events visit.events before.run visit.run;
      acts = All-append (λ (e : Event). IsVisitAct e.act) before.events visit.events before.acts visit.acts;
      safe = λ g done d eq id bound.
          let kept = kept-after before.events s c h is (pause-visits before.events before.acts) before.run.legal in
          let later = kept-after visit.events mid_table kept.cycle kept.sound kept.is (pause-visits visit.events visit.acts) visit.run.legal in
          let at_end : (after mid_table visit.events).cycle ≡ Some d = ap (λ (t : Table). t.cycle) (sym (after-append s before.events visit.events)) ∙ eq in
          let same : later.cycle ≡ d = same_Some later.cycle d (sym later.is ∙ at_end) in
          let still : mid_table.bound g ≡ Some id = ap (λ (b : Field → Option ℕ). b g) calm.bound ∙ bound in
          let there : IsSafe (after mid_table visit.events) d g id = elim done [
            | inl old ↦ subst (λ (x : Cycle). IsSafe (after mid_table visit.events) x g id) same (later.safe g id still (before.safe g old kept.cycle kept.is id bound))
            | inr now_f ↦
                subst (λ (k : Field). IsSafe (after mid_table visit.events) d k id) (sym now_f)
                (visit.safe d at_end id (subst (λ (k : Field). mid_table.bound k ≡ Some id) now_f still))
          ] in
          subst (λ (t : Table). IsSafe t d g id) (sym (after-append s before.events visit.events)) there;
    }

pub AreSmall-calm : (s t : Table) → IsCalm s t → AreSmall s → AreSmall t
AreSmall-calm s t calm small = subst sizes.AreSmall (sym calm.sizes) small

-- a scan that begins is one from rest
begun : (linked : List ℕ) (s : Table) (o : ℕ) (all : List Field) (now : List ℕ) (es : List Event) → MayScanAtMeet linked s o → AreFieldsOf o all →
    IsRun linked (Visit o all) Rest now s es → IsRun linked Rest Rest now s es
begun linked s o all now es may fields run = record {
  legal = run.legal;
  own = run.own;
  shows = run.shows;
  scans = Turn Rest (Visit o all) s es Rest (Begins o all may fields) run.scans;
}

-- the whole scan of an object
pub object-run : (linked : List ℕ) (s : Table) (c : Cycle) → IsSound s → s.cycle ≡ Some c → AreSmall s → (o : ℕ) (all : List Field) (Done : Field → Type 0) (mid : List ℕ) →
    o < s.sizes.objects → IsOld c o → MayScanAtMeet linked s o → AreFieldsOf o all → ((f : Field) → object_of f ≡ o → Done f) →
    (visits : IsPartly linked s o all [] Done mid) → ((d : Cycle) → (after s visits.events).cycle ≡ Some d → d.scans o ≡ false) →
    IsRun linked Rest Rest (slice_set mid (header_place o) (header_word true true)) s (visits.events ++ event meeting (Scan o) reply.Ok ∷ [])
object-run linked s c h is small o all Done mid within old may fields complete visits unscanned =
    let kept = kept-after visits.events s c h is (pause-visits visits.events visits.acts) visits.run.legal in
    let t = after s visits.events in
    let calm = calm-after visits.events s (pause-visits visits.events visits.acts) in
    let old_after : IsOld kept.cycle o =
    subst (λ v. Reaches kept.cycle.refs kept.cycle.globals v o) (sym kept.steady.vars)
    (subst (λ g. Reaches kept.cycle.refs g c.vars o) (sym kept.steady.globals) (subst (λ r. Reaches r c.globals c.vars o) (sym kept.steady.refs) old)) in
    let safe : AreSafe t kept.cycle o = λ f id of bound. visits.safe f (complete f of) kept.cycle kept.is id (sym (ap (λ (b : Field → Option ℕ). b f) calm.bound) ∙ bound) in
    let within_after : o < t.sizes.objects = subst (λ (z : Sizes). o < z.objects) (sym calm.sizes) within in
    let small_after : AreSmall t = AreSmall-calm s t calm small in
    let last = scan-runs linked t kept.cycle kept.sound kept.is small_after mid visits.run.shows o [] within_after old_after (unscanned kept.cycle kept.is) safe in
    begun linked s o all (slice_set mid (header_place o) (header_word true true)) (visits.events ++ event meeting (Scan o) reply.Ok ∷ []) may fields
    (IsRun-join linked (Visit o all) (Visit o []) Rest mid (slice_set mid (header_place o) (header_word true true)) s visits.events (event meeting (Scan o) reply.Ok ∷ []) visits.run last)
