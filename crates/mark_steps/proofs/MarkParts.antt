-- A mark is a part of a scan: it passes over a word that names no cell, or makes the mark.
use Rattle.std.proofs.Common.{◌≡◌, ℕ, ◌≤◌, ◌==◌, nat_le, Bool, true, false, List, [], ◌∷◌, ◌++◌, refl, sym, ap, subst, ◌∙◌, inl, inr, arith}
use Rattle.std.specs.Prelude.{◌||◌}
use Rattle.std.proofs.lemmas.Bool.Decides.{nat_tests}
use Rattle.plain_table.specs.declared.events.Event.{Event}
use Rattle.plain_table.specs.declared.events.Field.{Field}
use Rattle.plain_table.specs.declared.events.Space.{Space}
use Rattle.plain_table.specs.History.{after}
use Rattle.plain_table.specs.Index.{index_of}
use Rattle.plain_table.specs.Places.{space_of}
use Rattle.plain_table.specs.Scans.{Visit, Marks, Passes, IsReadConcurrently, marked_at}
use Rattle.plain_table.specs.Table.{Table, Sizes, limit_in}
use Rattle.entry_base.specs.declared.view.Opening.{Opening}
use Rattle.entry_base.specs.declared.view.View.{View}
use Rattle.entry_base.specs.Histories.{IsPhaseHistory}
use Rattle.entry_base.specs.Openings.{IsBase, sizes_in}
use Rattle.mark_rule.specs.Marking.{NoneThere, is_out}
use Rattle.mark_rule.proofs.WordLoads.{out_empty}
use Rattle.call_base.specs.Called.{Called}
use Rattle.call_base.specs.ScanParts.{ScanPart}
use Rattle.call_base.proofs.HistoriesStay.{lawful_front, sizes_after, sound_after, stood_later}
use Rattle.call_base.proofs.ScanParts.{part_event, part_still, part_turn}
use Rattle.mark_steps.specs.declared.answers.Mark.{Mark}
use Rattle.mark_steps.specs.declared.answers.Mark.TheVariants as mark
use Rattle.mark_steps.specs.Marks.{IsMarkCause, mark_events}
use Rattle.mark_steps.specs.Words.{Saw}

-- a word that can name no cell names none
pub out_none : (key : Opening) (h : List Event) (p : Space) (w : ℕ) → IsPhaseHistory key h → is_out (limit_in (sizes_in key) p) w ≡ true → NoneThere key h p (index_of w)
out_none key h p w lawful out b base =
    out_empty (after b h) p w (sound_after key h lawful b base) (ap (λ (z : Sizes). is_out (limit_in z p) w) (sizes_after key h lawful b base) ∙ out)

right_true : (b : Bool) → (b || true) ≡ true
right_true true = refl
right_true false = refl

pub out_beyond : (limit w : ℕ) → limit ≤ index_of w → is_out limit w ≡ true
out_beyond limit w past = let t : nat_le limit (index_of w) ≡ true = grind (arith, nat_tests) in ap (λ (b : Bool). (index_of w == 0) || b) t ∙ right_true (index_of w == 0)

pub out_first : (limit w : ℕ) → index_of w ≡ 0 → is_out limit w ≡ true
out_first limit w first = let t : (index_of w == 0) ≡ true = grind (arith, nat_tests) in ap (λ (b : Bool). b || nat_le limit (index_of w)) t

-- at a later moment of the phase a word that was seen may still be read
pub read_later : (v : View) (f : Field) (word : ℕ) (rest : List Event) → Saw v f word → IsPhaseHistory v.opening (v.seen ++ rest) → (b : Table) → IsBase v.opening b → IsReadConcurrently (after b (v.seen ++ rest)) f word
read_later v f word rest saw lawful b base = stood_later f word v.opening v.seen rest lawful b base (saw.stood b base)

module _ (v w : View) (o : ℕ) (f : Field) (word : ℕ) (saw : Saw v f word) (lawful : IsPhaseHistory v.opening w.seen) (fields : List Field) where
  none_part : Called v [] w → NoneThere v.opening w.seen (space_of f) (index_of word) → ScanPart v (Visit o (f ∷ fields)) w (marked_at o fields f word) []
  none_part c none = part_turn v w _ _ _ [] (part_still v w (Visit o (f ∷ fields)) c)
      (λ b base. Passes o f word fields
      (subst (λ h. IsReadConcurrently (after b h) f word) (sym c.seen) (read_later v f word c.grown saw (subst (IsPhaseHistory v.opening) c.seen lawful) b base))
      (none b base))

  pub mark_part : (said : Mark) → Called v (mark_events v (space_of f) (index_of word) said) w → IsMarkCause v (space_of f) (index_of word) said w
      → ScanPart v (Visit o (f ∷ fields)) w (marked_at o fields f word) []
  mark_part mark.NoCell c (inl past) = none_part c (out_none v.opening w.seen (space_of f) word lawful (out_beyond (limit_in (sizes_in v.opening) (space_of f)) word past))
  mark_part mark.NoCell c (inr none) = none_part c none
  mark_part mark.Set c cause = part_event v w _ _ _ c (λ front back is b base.
      Marks o f word fields (read_later v f word front saw (lawful_front v.opening (v.seen ++ front) _ (subst (IsPhaseHistory v.opening) is lawful)) b base))
  mark_part mark.Already c cause = part_event v w _ _ _ c (λ front back is b base.
      Marks o f word fields (read_later v f word front saw (lawful_front v.opening (v.seen ++ front) _ (subst (IsPhaseHistory v.opening) is lawful)) b base))
