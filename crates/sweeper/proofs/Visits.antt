-- The visits of an object's fields at the pause, and that each bound field is safe after its visit.
use Rattle.std.proofs.Common.{◌≡◌, ℕ, false, List, [], ◌∷◌, ◌++◌, Option, Some, IsTrue, IsSome, refl, sym, ap, subst, ◌∙◌, inl}
use Rattle.std.specs.Prelude.{is_some}
use Rattle.std.specs.List.{All}
use Rattle.std.proofs.lemmas.List.Elements.{All-nil, All-append}
use Rattle.plain_table.specs.declared.events.Cell.{Cell}
use Rattle.plain_table.specs.declared.events.Event.{Event}
use Rattle.plain_table.specs.declared.events.Space.TheVariants.{External, Trusted}
use Rattle.plain_table.specs.declared.events.Space.{Space}
use Rattle.std.specs.Option.{option_map}
use Rattle.plain_table.specs.declared.events.Field.{Field}
use Rattle.plain_table.specs.declared.events.Field.TheVariants as field
use Rattle.plain_table.specs.Index.{index_of}
use Rattle.plain_table.specs.Places.{space_of, object_of}
use Rattle.plain_table.specs.Cycle.{Cycle, IsOld, is_from, moves_from}
use Rattle.plain_table.specs.Table.{Table, limit_of}
use Rattle.plain_table.specs.Finish.{id_at}
use Rattle.plain_table.specs.Rows.{IsSafe, IsPlaced}
use Rattle.plain_table.specs.History.{after}
use Rattle.plain_table.specs.Scans.{Visit, Move, Ends, Turn, Stays, NeedNotMove}
use Rattle.plain_table.specs.Sweeps.{meeting}
use Rattle.std.proofs.lemmas.Option.{same_Some}
use Rattle.plain_table.specs.Shows.{Shows}
use Rattle.plain_table.specs.Sound.{IsSound}
use Rattle.plain_table.proofs.Options.{is_some-option_map}
use Rattle.plain_table.proofs.CallsMade.{after-append}
use Rattle.plain_table.proofs.CycleParts.{CycleSound-is}
use Rattle.sweeper.specs.Small.{AreSmall}
use Rattle.word_laws.specs.Runs.{IsRun, base_of, marked_after}
use Rattle.table_laws.specs.Pauses.{IsVisitAct}
use Rattle.table_laws.proofs.PauseActs.{mark-visits, pause-visits}
use Rattle.table_laws.proofs.PauseKeeps.{calm-after, kept-after}
use Rattle.word_laws.proofs.Runs.{IsRun-join, mark-runs}

-- a field is visited: the run to the next field, and the field is safe where it is bound
pub record IsVisited (linked : List ℕ) (s : Table) (o : ℕ) (f : Field) (fields : List Field) (now : List ℕ) : Type 0 where
  pub events : List Event
  pub run : IsRun linked (Visit o (f ∷ fields)) (Visit o fields) now s events
  pub acts : All (λ (e : Event). IsVisitAct e.act) events
  pub safe : (d : Cycle) → (after s events).cycle ≡ Some d → (id : ℕ) → s.bound f ≡ Some id → IsSafe (after s events) d f id

module _ (linked : List ℕ) (s : Table) (c : Cycle) (h : IsSound s) (is : s.cycle ≡ Some c) (small : AreSmall s) (words : List ℕ) (shows : Shows words s)
    (o : ℕ) (f : Field) (fields : List Field) (of : object_of f ≡ o) (old : IsOld c o) where
  own : (id : ℕ) → s.bound f ≡ Some id → id_at s (space_of f) (index_of (s.words f)) ≡ Some id
  own id bound = (CycleSound-is s c h is).bound.own f id (inl (subst (IsOld c) (sym of) old)) bound

  cell-there : (id : ℕ) → s.bound f ≡ Some id → IsSome (s.cells (space_of f) (index_of (s.words f)))
  cell-there id bound =
      sym (is_some-option_map (λ (cell : Cell). cell.id) (s.cells (space_of f) (index_of (s.words f)))) ∙ ap is_some (own id bound)

  -- safety after a run, from the mark and the place
  pub safe-after : (es : List Event) → All (λ (e : Event). IsVisitAct e.act) es → (d : Cycle) → IsTrue (d.marks (space_of f) (index_of (s.words f))) →
      IsPlaced d f (index_of (s.words f)) → (id : ℕ) → s.bound f ≡ Some id → IsSafe (after s es) d f id
  safe-after es acts d marked placed id bound =
      let calm = calm-after es s (pause-visits es acts) in
      let words_same : (after s es).words f ≡ s.words f = ap (λ (w : Field → ℕ). w f) calm.words in
      let own_after : id_at (after s es) (space_of f) (index_of ((after s es).words f)) ≡ Some id =
      ap (λ w. id_at (after s es) (space_of f) (index_of w)) words_same
      ∙ ap (λ (cells : Space → ℕ → Option Cell). option_map (λ (cell : Cell). cell.id) (cells (space_of f) (index_of (s.words f)))) calm.cells ∙ own id bound in (
        own_after,
        subst (λ w. IsTrue (d.marks (space_of f) (index_of w))) (sym words_same) marked,
        subst (λ w. IsPlaced d f (index_of w)) (sym words_same) placed,
      )

-- the trusted field
pub visit-trusted : (linked : List ℕ) (s : Table) (c : Cycle) (h : IsSound s) (is : s.cycle ≡ Some c) (small : AreSmall s) (words : List ℕ) (shows : Shows words s) (o : ℕ) (fields : List Field) → IsOld c o →
    IsVisited linked s o (field.Trusted o) fields (marked_after words (base_of s Trusted) (limit_of s Trusted) (index_of (s.words (field.Trusted o))))
visit-trusted linked s c h is small words shows o fields old =
    let runs = mark-runs linked s c h is small words shows o (field.Trusted o) fields refl old in
    record {
      events = runs.0;
      run = runs.1;
      acts = mark-visits Trusted (index_of (s.words (field.Trusted o))) runs.0 runs.2;
      safe = λ d eq id bound.
          safe-after linked s c h is small words shows o (field.Trusted o) fields refl old runs.0 (mark-visits Trusted (index_of (s.words (field.Trusted o))) runs.0 runs.2) d
          (runs.3 (cell-there linked s c h is small words shows o (field.Trusted o) fields refl old id bound) d eq) tt id bound;
    }

-- what follows the mark of an external field: nothing, an evacuation entry, or an abort; its cell is placed after it
pub record IsMoveRun (linked : List ℕ) (s : Table) (o number w : ℕ) (fields : List Field) (now : List ℕ) : Type 0 where
  pub events : List Event
  pub run : IsRun linked (Move o fields number w) (Visit o fields) now s events
  pub acts : All (λ (e : Event). IsVisitAct e.act) events
  pub placed : (d : Cycle) → (after s events).cycle ≡ Some d → IsSome (s.cells External (index_of w)) → IsPlaced d (field.External number) (index_of w)

pub visit-external : (linked : List ℕ) (s : Table) (c : Cycle) (h : IsSound s) (is : s.cycle ≡ Some c) (small : AreSmall s) (words : List ℕ) (shows : Shows words s) (o number : ℕ) (fields : List Field) (now : List ℕ)
    (of : object_of (field.External number) ≡ o) (old : IsOld c o) →
    IsMoveRun linked (after s (mark-runs linked s c h is small words shows o (field.External number) fields of old).0) o number (s.words (field.External number)) fields now →
    IsVisited linked s o (field.External number) fields now
visit-external linked s c h is small words shows o number fields now of old move =
    let f = field.External number in
    let runs = mark-runs linked s c h is small words shows o f fields of old in
    let marks = mark-visits External (index_of (s.words f)) runs.0 runs.2 in
    let calm = calm-after runs.0 s (pause-visits runs.0 marks) in
    let acts = All-append (λ (e : Event). IsVisitAct e.act) runs.0 move.events marks move.acts in
    record {
      events = runs.0 ++ move.events;
      run = IsRun-join linked (Visit o (f ∷ fields)) (Move o fields number (s.words f)) (Visit o fields) (marked_after words (base_of s External) (limit_of s External) (index_of (s.words f))) now s runs.0 move.events runs.1 move.run;
      acts = acts;
      safe = λ d eq id bound.
          let kept = kept-after runs.0 s c h is (pause-visits runs.0 marks) runs.1.legal in
          let later = kept-after move.events (after s runs.0) kept.cycle kept.sound kept.is (pause-visits move.events move.acts) move.run.legal in
          let at_end : (after (after s runs.0) move.events).cycle ≡ Some d = ap (λ (t : Table). t.cycle) (sym (after-append s runs.0 move.events)) ∙ eq in
          let same : later.cycle ≡ d = same_Some later.cycle d (sym later.is ∙ at_end) in
          let there = cell-there linked s c h is small words shows o f fields of old id bound in
          let marked : IsTrue (kept.cycle.marks External (index_of (s.words f))) = runs.3 there kept.cycle kept.is in
          let still : IsTrue (d.marks External (index_of (s.words f))) = subst (λ (x : Cycle). IsTrue (x.marks External (index_of (s.words f)))) same (later.steady.marks External (index_of (s.words f)) marked) in
          let there_after : IsSome ((after s runs.0).cells External (index_of (s.words f))) =
          ap (λ (cells : Space → ℕ → Option Cell). is_some (cells External (index_of (s.words f)))) calm.cells ∙ there in
          safe-after linked s c h is small words shows o f fields of old (runs.0 ++ move.events) acts d still (move.placed d at_end there_after) id bound;
    }

-- the cell need not move
pub stays-run : (linked : List ℕ) (s : Table) (o number w : ℕ) (fields : List Field) (words : List ℕ) → Shows words s → NeedNotMove s w →
    ((d : Cycle) → s.cycle ≡ Some d → IsSome (s.cells External (index_of w)) → is_from (moves_from d) (index_of w) ≡ false) →
    IsMoveRun linked s o number w fields words
stays-run linked s o number w fields words shows need placed = record {
  events = [];
  run = record {
    legal = tt;
    own = All-nil (λ (e : Event). e.by ≡ meeting);
    shows = shows;
    scans = Turn (Move o fields number w) (Visit o fields) s [] (Visit o fields) (Stays o number w fields need) (Ends (Visit o fields) s);
  };
  acts = All-nil (λ (e : Event). IsVisitAct e.act);
  placed = λ d eq some. inl (placed d eq some);
}
