-- Facts stay: no event other than the start and the finish of a cycle ends a fact of the table, and no change of
-- words that is steady ends one of the words.
use Rattle.std.proofs.Common.{◌≡◌, ◌≢◌, ◌⊎◌, ℕ, ◌<◌, false, List, slice_index, Option, Some, None, IsTrue, IsSome, IsSomeAnd, IfSome, refl, sym, ap, ◌∙◌, subst, inl, inr, arith}
use Rattle.std.proofs.lemmas.Bool.{cases_Bool}
use Rattle.plain_table.specs.declared.events.Event.{Event}
use Rattle.plain_table.specs.declared.events.Cell.{Cell}
use Rattle.plain_table.specs.declared.events.Space.{Space}
use Rattle.plain_table.specs.declared.events.Space.TheVariants.{Trusted}
use Rattle.plain_table.specs.declared.events.Field.{Field}
use Rattle.plain_table.specs.Index.{index_of}
use Rattle.plain_table.specs.Places.{object_of}
use Rattle.plain_table.specs.Reachable.{Reaches}
use Rattle.plain_table.specs.Cycle.{Cycle, IsOld, IsTouched}
use Rattle.plain_table.specs.Table.{Table, Sizes, limit_in}
use Rattle.plain_table.specs.Rows.{IsPlaced}
use Rattle.table_laws.specs.Steady.{CycleSteady, CyclesSteady, IsSteady}
use Rattle.plain_table.specs.Words.{freelist_place, entry_place, object_word, no_access_word}
use Rattle.plain_table.specs.Shows.{IsShaded}
use Rattle.plain_table.proofs.Options.{IfSome-is}
use Rattle.table_laws.proofs.SafeStays.{IsPlaced-stays}
use Rattle.entry_base.specs.declared.view.Fact.{Fact}
use Rattle.entry_base.specs.declared.view.Fact.TheVariants as fact
use Rattle.entry_base.specs.Ranks.{takes_in, Rises}
use Rattle.entry_base.specs.Facts.{TableKnows, WordsKnow, IsKnown}
use Rattle.word_laws.specs.CoverLaws.{IsClear}
use Rattle.free_chain.specs.Rank.{rank}

module _ (P Q : Cycle → Type 0) where
  pub InCycle-steady : (x y : Option Cycle) → CyclesSteady x y → ((c d : Cycle) → x ≡ Some c → y ≡ Some d → CycleSteady c d → P c → Q d) → IsSomeAnd x P → IsSomeAnd y Q
  InCycle-steady None None h f k = k
  InCycle-steady (Some c) (Some d) h f k = f c d refl refl h k
  InCycle-steady None (Some d) h f k = absurd h
  InCycle-steady (Some c) None h f k = absurd h

  pub IfSome-steady : (x y : Option Cycle) → CyclesSteady x y → ((c d : Cycle) → x ≡ Some c → y ≡ Some d → CycleSteady c d → P c → Q d) → IfSome x P → IfSome y Q
  IfSome-steady None None h f k = k
  IfSome-steady (Some c) (Some d) h f k = f c d refl refl h k
  IfSome-steady None (Some d) h f k = absurd h
  IfSome-steady (Some c) None h f k = absurd h

pub IsOld-steady : (c d : Cycle) (o : ℕ) → CycleSteady c d → IsOld c o → IsOld d o
IsOld-steady c d o h old =
    subst (λ r. Reaches r d.globals d.vars o) (sym h.refs) (subst (λ g. Reaches c.refs g d.vars o) (sym h.globals) (subst (λ v. Reaches c.refs c.globals v o) (sym h.vars) old))

-- and back: what is old is settled at the start
pub IsOld-back : (c d : Cycle) (o : ℕ) → CycleSteady c d → IsOld d o → IsOld c o
IsOld-back c d o h old =
    subst (λ r. Reaches r c.globals c.vars o) h.refs (subst (λ g. Reaches d.refs g c.vars o) h.globals (subst (λ v. Reaches d.refs d.globals v o) h.vars old))

IsTouched-steady : (c d : Cycle) (f : Field) (w : ℕ) → CycleSteady c d → IsTouched c f w → IsTouched d f w
IsTouched-steady c d f w h k = elim k [
  | inl stood ↦ inl (IsOld-steady c d (object_of f) h stood.0, ap (λ m. m f) h.words ∙ stood.1, stood.2)
  | inr came ↦ inr (h.came f w came)
]

abbrev Stay : Option Cell → Option Cell → Type 0
Stay o now = (c : Cell) → o ≡ Some c → IsSomeAnd now (λ d. (d.id ≡ c.id) × (d.tag ≡ c.tag))

tag_stays : (o now : Option Cell) (tag : ℕ) → Stay o now → IsSomeAnd o (λ c. c.tag ≡ tag) → IsSomeAnd now (λ c. c.tag ≡ tag)
tag_stays None now tag f k = absurd k
tag_stays (Some c) None tag f k = absurd (f c refl)
tag_stays (Some c) (Some d) tag f k = (f c refl).1 ∙ k

both_stay : (o now : Option Cell) (tag value : ℕ) → Stay o now → ((c : Cell) → o ≡ Some c → IsSomeAnd now (λ d. d.value ≡ c.value)) → IsSomeAnd o (λ c. (c.tag ≡ tag) × (c.value ≡ value)) → IsSomeAnd now (λ c. (c.tag ≡ tag) × (c.value ≡ value))
both_stay None now tag value f g k = absurd k
both_stay (Some c) None tag value f g k = absurd (f c refl)
both_stay (Some c) (Some d) tag value f g k = ((f c refl).1 ∙ k.0, g c refl ∙ k.1)

pub some_stays : (o now : Option Cell) → Stay o now → IsSome o → IsSome now
some_stays None now f k = absurd (cc)
some_stays (Some c) None f k = absurd (f c refl)
some_stays (Some c) (Some d) f k = refl

none_or_some : (o : Option Cell) → (o ≡ None) ⊎ IsSome o
none_or_some None = inl refl
none_or_some (Some c) = inr refl

module _ (s : Table) (e : Event) (t : Table) (h : IsSteady s e t) where
  pub table_stays : (f : Fact) → TableKnows s f → TableKnows t f
  table_stays (fact.Cell p i tag) k = tag_stays (s.cells p i) (t.cells p i) tag (h.cells.stay p i) k
  table_stays (fact.Trusted i tag value) k = both_stay (s.cells Trusted i) (t.cells Trusted i) tag value (h.cells.stay Trusted i) (h.cells.values i) k
  table_stays (fact.Settled i) k = (some_stays (s.cells Trusted i) (t.cells Trusted i) (h.cells.stay Trusted i) k.0, λ b. unfresh b)
    where
      unfresh : (b : ℕ) → t.fresh b Trusted i ≡ false
      unfresh b = elim (cases_Bool (t.fresh b Trusted i)) [
        | inr is ↦ is
        | inl is ↦ elim (h.fresh b Trusted i is) [
          | inl was ↦ absurd (let n = k.1 b in cc)
          | inr none ↦ absurd (let some = k.0 in cc)
        ]
      ]
  table_stays (fact.Used p n) k = λ i from below. h.used p i (k i from below)
  table_stays (fact.Count n) k = let up = h.count in omega arith
  table_stays (fact.Traced o) k = InCycle-steady _ _ s.cycle t.cycle h.cycle (λ c d is will st traced. elim traced [
    | inl old ↦ inl (IsOld-steady c d o st old)
    | inr born ↦ inr (st.born o born)
  ]) k
  table_stays fact.Aborted k = InCycle-steady _ _ s.cycle t.cycle h.cycle (λ c d is will st aborted. st.aborted aborted) k
  table_stays (fact.Touched f w) k = InCycle-steady _ _ s.cycle t.cycle h.cycle (λ c d is will st touched. IsTouched-steady c d f w st touched) k
  table_stays (fact.Marked p i) k = InCycle-steady _ _ s.cycle t.cycle h.cycle (λ c d is will st marked. st.marks p i marked) k
  table_stays (fact.Visited p i) k = InCycle-steady _ _ s.cycle t.cycle h.cycle (λ c d is will st visited some. elim (none_or_some (s.cells p i)) [
    | inl none ↦ IfSome-is t.cycle (λ d. IsTrue (d.marks p i)) d will (h.cells.made_marked p i none some)
    | inr was ↦ st.marks p i (visited was)
  ]) k
  table_stays (fact.Placed f w) k = InCycle-steady _ _ s.cycle t.cycle h.cycle (λ c d is will st placed id bound word. elim (h.fields f) [
    | inl same ↦ IsPlaced-stays c d f (index_of w) st (placed id (sym same.1 ∙ bound) (sym same.0 ∙ word))
    | inr other ↦ elim other [
      | inl none ↦ absurd (let b = bound in cc)
      | inr just ↦ subst (λ x. IsPlaced d f (index_of x)) word (h.safe c d is will f id bound (inr just)).2
    ]
  ]) k
  table_stays (fact.Read f w) k = InCycle-steady _ _ s.cycle t.cycle h.cycle (λ c d is will st read. elim (h.fields f) [
    | inl same ↦ elim read [
      | inl word ↦ inl (same.0 ∙ word)
      | inr safe ↦ inr (λ id bound. h.safe c d is will f id bound (inl (safe id (sym same.1 ∙ bound))))
    ]
    | inr other ↦ elim other [
      | inl none ↦ inr (λ id bound. absurd (cc))
      | inr just ↦ inr (λ id bound. h.safe c d is will f id bound (inr just))
    ]
  ]) k
  table_stays (fact.Joined short long numbers) k = k
  table_stays (fact.Shaded o) k = tt
  table_stays (fact.Entry p i w) k = tt
  table_stays (fact.Freelist p w n) k = tt
  table_stays (fact.Link p i w) k = tt
  table_stays (fact.Linked p i) k = tt
  table_stays (fact.Reference o n w) k = tt

-- what a steady change of the shown words leaves
pub record WordsSteady (z : Sizes) (log longer : List Event) (s t : Table) (shown later : List ℕ) : Type 0 where
  pub shaded : (o : ℕ) → o < z.objects → IsShaded shown o → IsShaded later o
  pub entries : (p : Space) (i : ℕ) → IsSome (s.cells p i) →
      (slice_index later (entry_place z p i) ≡ slice_index shown (entry_place z p i)) ⊎ IfSome t.cycle (λ d. IsTrue (d.marks p i))
  pub free : (p : Space) (i : ℕ) → i < limit_in z p → t.used p i ≡ false → slice_index shown (entry_place z p i) ≢ no_access_word →
      slice_index later (entry_place z p i) ≡ slice_index shown (entry_place z p i)
  pub freelists : (p : Space) → Rises (slice_index shown (freelist_place p)) (takes_in p log) (slice_index later (freelist_place p)) (takes_in p longer)
  pub refs : (o k : ℕ) → o < z.objects → IfSome t.cycle (λ d. (t.refs o k ≡ s.refs o k) ⊎ IsClear later (t.refs o k))

-- and of the present words
abbrev pub StaysLinked : Sizes → List ℕ → List ℕ → Type 0
StaysLinked z words now =
    (p : Space) (i : ℕ) → i < limit_in z p → slice_index words (entry_place z p i) ≢ no_access_word → slice_index now (entry_place z p i) ≢ no_access_word

pub Rises-trans : (w n v m u l : ℕ) → Rises w n v m → Rises v m u l → Rises w n u l
Rises-trans w n v m u l (inl (vw, mn)) k = subst (λ x. Rises x n u l) vw (subst (λ x. Rises v x u l) mn k)
Rises-trans w n v m u l (inr (up, le, more)) (inl (uv, lm)) =
    inr (subst (λ x. rank w < rank x) (sym uv) up, omega (arith, le, lm), λ some. omega (arith, more some, lm))
Rises-trans w n v m u l (inr (up, le, more)) (inr (up2, le2, more2)) =
    inr (omega (arith, up, up2), omega (arith, le, le2), λ some. omega (arith, more some, le2))

clear_stays : (z : Sizes) (shown later : List ℕ) (x : Option ℕ) → ((o : ℕ) → o < z.objects → IsShaded shown o → IsShaded later o)
    → ((q : ℕ) → x ≡ Some q → q < z.objects) → IsClear shown x → IsClear later x
clear_stays z shown later None up within k = tt
clear_stays z shown later (Some q) up within k = up q (within q refl) k

module _ (z : Sizes) (log longer : List Event) (s : Table) (e : Event) (t : Table) (shown later words now : List ℕ)
    (h : IsSteady s e t) (ws : WordsSteady z log longer s t shown later) (ahead : StaysLinked z words now)
    (within : (o k q : ℕ) → s.refs o k ≡ Some q → q < z.objects) where
  words_stay : (f : Fact) → WordsKnow z log s shown words f → WordsKnow z longer t later now f
  words_stay (fact.Shaded o) k = (k.0, ws.shaded o k.0 k.1)
  words_stay (fact.Entry p i w) k = (
    some_stays (s.cells p i) (t.cells p i) (h.cells.stay p i) k.0,
    IfSome-steady _ _ s.cycle t.cycle h.cycle (λ c d is will st known. elim (ws.entries p i k.0) [
      | inl same ↦ elim known [ inl word ↦ inl (same ∙ word) | inr marked ↦ inr (st.marks p i marked) ]
      | inr marked ↦ inr (IfSome-is t.cycle (λ d. IsTrue (d.marks p i)) d will marked)
    ]) k.1,
  )
  words_stay (fact.Freelist p w n) k = Rises-trans w n _ _ _ _ k (ws.freelists p)
  words_stay (fact.Link p i w) k = elim k [
    | inl used ↦ inl (h.used p i used)
    | inr (below, word, some) ↦ elim (cases_Bool (t.used p i)) [
      | inl used ↦ inl used
      | inr free ↦ inr (below, ws.free p i below free (λ na. some (sym word ∙ na)) ∙ word, some)
    ]
  ]
  words_stay (fact.Linked p i) k = (k.0, ahead p i k.0 k.1)
  words_stay (fact.Reference o n w) k = (
    k.0,
    IfSome-steady _ _ s.cycle t.cycle h.cycle (λ c d is will st known. elim (IfSome-is t.cycle (λ d. (t.refs o n ≡ s.refs o n) ⊎ IsClear later (t.refs o n)) d will (ws.refs o n k.0)) [
      | inl same ↦ elim known [
        | inl word ↦ inl (ap object_word same ∙ word)
        | inr clear ↦ inr (subst (IsClear later) (sym same) (clear_stays z shown later (s.refs o n) ws.shaded (within o n) clear))
      ]
      | inr clear ↦ inr clear
    ]) k.1,
  )
  words_stay (fact.Cell p i tag) k = tt
  words_stay (fact.Trusted i tag value) k = tt
  words_stay (fact.Settled i) k = tt
  words_stay (fact.Used p n) k = tt
  words_stay (fact.Count n) k = tt
  words_stay (fact.Traced o) k = tt
  words_stay fact.Aborted k = tt
  words_stay (fact.Touched f w) k = tt
  words_stay (fact.Marked p i) k = tt
  words_stay (fact.Visited p i) k = tt
  words_stay (fact.Placed f w) k = tt
  words_stay (fact.Read f w) k = tt
  words_stay (fact.Joined short long numbers) k = tt

  pub fact_stays : (f : Fact) → IsKnown z log s shown words f → IsKnown z longer t later now f
  fact_stays f k = (table_stays s e t h f k.0, words_stay f k.1)
