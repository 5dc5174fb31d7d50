-- What holds at one moment of a phase and is kept by each of its events holds at each later moment; and at each moment the table
-- is sound, in the phase of the opening.
use Rattle.std.proofs.Common.{◌≡◌, ℕ, List, [], ◌∷◌, ◌++◌, Option, Some, None, IsSome, IsSomeAnd, refl, sym, ap, subst, ◌∙◌, inl, inr}
use Rattle.std.proofs.lemmas.Bool.Decides.{eqb_tells}
use Rattle.std.proofs.lemmas.Grind.{not_there}
use Rattle.plain_table.specs.declared.events.Event.{Event}
use Rattle.plain_table.specs.declared.events.Field.{Field}
use Rattle.plain_table.specs.declared.events.Space.{Space}
use Rattle.plain_table.specs.Cycle.{Cycle, HasStood, start_in}
use Rattle.plain_table.specs.History.{IsLegalHistory, after, next}
use Rattle.plain_table.specs.Scans.{IsReadConcurrently}
use Rattle.plain_table.specs.Sound.{IsSound}
use Rattle.plain_table.specs.Table.{Table}
use Rattle.plain_table.proofs.CallsMade.{after-append}
use Rattle.plain_table.proofs.Options.{IsSomeAnd-some, IsSome-value}
use Rattle.table_laws.specs.Steady.{CyclesSteady, IsSteady}
use Rattle.table_laws.proofs.SoundHistories.{IsSound-after}
use Rattle.table_laws.proofs.Soundness.{events-sound}
use Rattle.table_laws.proofs.Steadiness.{events-steady}
use Rattle.word_laws.specs.Small.{AreSmall}
use Rattle.word_laws.proofs.AreaReads.{AreaWordsTell-shown}
use Rattle.entry_base.specs.declared.view.Opening.{Opening}
use Rattle.entry_base.specs.Histories.{IsPhaseHistory}
use Rattle.entry_base.specs.Lists.{Each}
use Rattle.entry_base.specs.Numbers.{IsPhaseEvent}
use Rattle.entry_base.specs.Openings.{IsBase, IsOpenable, sizes_in, start_of}
use Rattle.entry_base.proofs.Sums.{each_last}

pub legal_rest : (s : Table) (es fs : List Event) → IsLegalHistory s (es ++ fs) → IsLegalHistory (after s es) fs
legal_rest s [] fs legal = legal
legal_rest s (e ∷ es) fs legal = legal_rest (next s e) es fs legal.1

pub legal_front : (s : Table) (es fs : List Event) → IsLegalHistory s (es ++ fs) → IsLegalHistory s es
legal_front s [] fs legal = tt
legal_front s (e ∷ es) fs legal = (legal.0, legal_front (next s e) es fs legal.1)

events_front : (es fs : List Event) → Each IsPhaseEvent (es ++ fs) → Each IsPhaseEvent es
events_front [] fs events = tt
events_front (e ∷ es) fs events = (events.0, events_front es fs events.1)

-- the beginning of a history of the phase is one
pub lawful_front : (key : Opening) (es fs : List Event) → IsPhaseHistory key (es ++ fs) → IsPhaseHistory key es
lawful_front key es fs lawful = record { legal = λ b base. legal_front b es fs (lawful.legal b base); events = events_front es fs lawful.events }

module _ (P : Table → Type 0) (stays : (s : Table) (e : Event) → IsSteady s e (next s e) → P s → P (next s e)) where
  stays_after : (s : Table) (es : List Event) → IsSound s → IsLegalHistory s es → Each IsPhaseEvent es → P s → P (after s es)
  stays_after s [] sound legal events holds = holds
  stays_after s (e ∷ es) sound legal events holds =
      stays_after (next s e) es (events-sound s e sound legal.0) legal.1 events.1 (stays s e (events-steady s e sound legal.0 events.0.1) holds)

  pub stays_later : (key : Opening) (h rest : List Event) → IsPhaseHistory key (h ++ rest) → (b : Table) → IsBase key b → P (after b h) → P (after b (h ++ rest))
  stays_later key h rest lawful b base holds =
      let legal = lawful.legal b base in
      subst P (sym (after-append b h rest))
      (stays_after (after b h) rest (IsSound-after events-sound h b base.sound (legal_front b h rest legal)) (legal_rest b h rest legal) (each_last IsPhaseEvent h rest lawful.events) holds)

pub sound_after : (key : Opening) (h : List Event) → IsPhaseHistory key h → (b : Table) → IsBase key b → IsSound (after b h)
sound_after key h lawful b base = IsSound-after events-sound h b base.sound (lawful.legal b base)

-- the sizes are those of the opening, and so is the start of the area
pub sizes_after : (key : Opening) (h : List Event) → IsPhaseHistory key h → (b : Table) → IsBase key b → (after b h).sizes ≡ sizes_in key
sizes_after key h lawful b base = stays_later (λ s. s.sizes ≡ sizes_in key) (λ s e steady is. steady.sizes ∙ is) key [] h lawful b base base.shows.sizes

same_start : (x y : Option Cycle) → CyclesSteady x y → start_in y ≡ start_in x
same_start None None h = refl
same_start (Some c) (Some d) h = h.start
same_start None (Some d) h = absurd h
same_start (Some c) None h = absurd h

same_option : (x y : Option ℕ) → ((x ≡ y → ⊥) → ⊥) → x ≡ y
same_option None None no_other = refl
same_option None (Some b) no_other = absurd (no_other (λ is. absurd (cc)))
same_option (Some a) None no_other = absurd (no_other (λ is. absurd (cc)))
same_option (Some a) (Some b) no_other = elim (eqb_tells a b) [
  | inl same ↦ ap Some same.1
  | inr other ↦ absurd (no_other (λ is. other.1 (cc)))
]

pub start_after : (key : Opening) → ∥ IsOpenable key ∥₁ → (h : List Event) → IsPhaseHistory key h → (b : Table) → IsBase key b → start_in (after b h).cycle ≡ start_of key
start_after key openable h lawful b base =
    same_option (start_in (after b h).cycle) (start_of key) (λ other. not_there openable (λ o. other
    (stays_later (λ s. start_in s.cycle ≡ start_of key) (λ s e steady is. same_start s.cycle (next s e).cycle steady.cycle ∙ is) key [] h lawful b base
    (AreaWordsTell-shown key.words b base.sound (subst AreSmall (sym base.shows.sizes) o.small) base.shows.words).start)))

-- a cell stays, and so does a word that stood in a field in the cycle
pub cells_later : (p : Space) (i : ℕ) (key : Opening) (h rest : List Event) → IsPhaseHistory key (h ++ rest) → (b : Table) → IsBase key b
    → IsSome ((after b h).cells p i) → IsSome ((after b (h ++ rest)).cells p i)
cells_later p i = stays_later (λ s. IsSome (s.cells p i)) (λ s e steady stands.
    let c = IsSome-value (s.cells p i) stands in
    IsSomeAnd-some ((next s e).cells p i) _ (steady.cells.stay p i c.0 c.1))

stood_on : (f : Field) (w : ℕ) (x y : Option Cycle) → CyclesSteady x y → IsSomeAnd x (λ c. HasStood c f w) → IsSomeAnd y (λ c. HasStood c f w)
stood_on f w None y steady stood = absurd stood
stood_on f w (Some c) None steady stood = absurd steady
stood_on f w (Some c) (Some d) steady (inl at_start) = inl (ap (λ (words : Field → ℕ). words f) steady.words ∙ at_start)
stood_on f w (Some c) (Some d) steady (inr came) = inr (steady.came f w came)

pub stood_later : (f : Field) (w : ℕ) (key : Opening) (h rest : List Event) → IsPhaseHistory key (h ++ rest) → (b : Table) → IsBase key b
    → IsReadConcurrently (after b h) f w → IsReadConcurrently (after b (h ++ rest)) f w
stood_later f w = stays_later (λ s. IsReadConcurrently s f w) (λ s e steady stood. stood_on f w s.cycle (next s e).cycle steady.cycle stood)
