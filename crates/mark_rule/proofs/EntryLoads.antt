-- The loads of an entry that a touched word names: its tag bits tell whether a cell stands there. Where none does, there is
-- nothing to mark or to move; where a marked one does, the load for a mark is the event of the mark.
use Rattle.std.proofs.Common.{◌≡◌, ◌⊎◌, ℕ, ◌+◌, ◌*◌, ◌%◌, ◌^◌, ◌<◌, ◌==◌, if◌then◌else◌, Bool, true, false, List, [], ◌∷◌, get_or, set, slice_index, Some, IsTrue, IfSome, true≢false, refl, sym, ap, subst, ◌∙◌, inl, inr, arith}
use Rattle.std.proofs.lemmas.Bool.{cases_Bool}
use Rattle.std.proofs.lemmas.Bool.Decides.{eqb_tells, nat_tests}
use mathlib.Core.Option.{some}
use lib.ListN.{get_elem?}
use Rattle.atomic_table.specs.Table.{Me}
use Rattle.plain_table.specs.declared.events.Cell.{Cell}
use Rattle.plain_table.specs.declared.events.Field.{Field}
use Rattle.plain_table.specs.declared.events.Space.{Space}
use Rattle.plain_table.specs.declared.events.Space.TheVariants.{Trusted}
use Rattle.plain_table.specs.Cycle.{Cycle, IsOld}
use Rattle.plain_table.specs.History.{after}
use Rattle.plain_table.specs.Index.{index_of}
use Rattle.plain_table.specs.Places.{object_of, space_of}
use Rattle.plain_table.specs.Table.{Table, limit_in}
use Rattle.plain_table.specs.Words.{cell_word, entry_place}
use Rattle.plain_table.proofs.CycleParts.{CycleSound-is}
use Rattle.plain_table.proofs.Options.{IfSome-is, IsSomeAnd-some, IsSome-some, IsSome-value}
use Rattle.word_laws.specs.ReadLaws.{has_mark, tag_bits}
use Rattle.entry_base.specs.declared.view.Fact.TheVariants as fact
use Rattle.entry_base.specs.declared.view.Opening.{Opening}
use Rattle.entry_base.specs.declared.view.View.{View}
use Rattle.entry_base.specs.Callers.{IsCaller}
use Rattle.entry_base.specs.Facts.{IsKnown}
use Rattle.entry_base.specs.Lists.{Each, Has}
use Rattle.entry_base.specs.Openings.{IsBase, sizes_in}
use Rattle.entry_base.specs.Rule.{Kept}
use Rattle.entry_base.specs.Tied.{Parts, IsTied}
use Rattle.entry_base.proofs.OneByOne.{caller_same}
use Rattle.entry_base.proofs.Steps.{Given, Keeps, given, keeps_by}
use Rattle.entry_base.proofs.Sums.{each_has}
use Rattle.entry_base.proofs.TiedParts.{tied_stays}
use Rattle.mark_rule.specs.Marking.{EntryLoaded, IsMarkedWord, MarkLoaded, MayRead, entry_facts}
use Rattle.mark_rule.proofs.EmptyIndexes.{nothing_there}
use Rattle.entry_base.proofs.EntryTells.{CellStands, stands_none, stands_some}
use Rattle.mark_rule.proofs.FactLoads.{learner, loads_facts}
use Rattle.entry_base.proofs.HandTells.{hand_tells}
use Rattle.mark_rule.proofs.Headers.{IfSome-by}
use Rattle.mark_rule.proofs.MarkEvents.{IsMarkOf, kept_mark, marker}

marked_or_not : (found : ℕ) → IsMarkedWord found ⊎ (IsMarkedWord found → ⊥)
marked_or_not found = elim (eqb_tells (tag_bits found) 0) [
  | inl none ↦ inr (λ m. m.0 none.1)
  | inr tagged ↦ elim (cases_Bool (has_mark found)) [
    | inl marked ↦ inl (tagged.1, marked)
    | inr clear ↦ inr (λ m. true≢false (sym m.1 ∙ clear))
  ]
]

-- the word of a cell that is not marked has no bit from the marking bit on
low_word : (n : ℕ) (cell : Cell) → n ≡ cell_word cell false → cell.tag < 256 → cell.value < 2 ^ 48 → n % 2 ^ 62 ≡ n
low_word n cell is tag value = by_shown cell.shown is
  where
    by_shown : (shown : Bool) → n ≡ (if shown then 0 else 2 ^ 59) + (cell.value + 2 ^ 48 * cell.tag + 0) → n % 2 ^ 62 ≡ n
    by_shown true e = omega (arith, e, tag, value)
    by_shown false e = omega (arith, e, tag, value)

module _ (key : Opening) (v : View) (f : Field) (w : ℕ) (caller : IsCaller key v) (below : index_of w < limit_in (sizes_in key) (space_of f)) (touched : Has v.facts (fact.Touched f w))
    (may : MayRead v f) where
  module _ (words : List ℕ) (views : List View) (id : ℕ) (k : Kept key words views) (at : get_elem? views id ≡ some v) where
    abbrev place : ℕ
    place = entry_place (sizes_in key) (space_of f) (index_of w)

    abbrev found : ℕ
    found = get_or words place 0

    -- the word that the fact of the entry speaks of is the shown one, or the cell is marked
    abbrev IsEntry : Cycle → Type 0
    IsEntry c = (slice_index k.shown place ≡ found % 2 ^ 62) ⊎ IsTrue (c.marks (space_of f) (index_of w))

    module _ (s : Table) (g : Given key k.log k.shown words v s) where
      cycle : (c : Cycle) × (s.cycle ≡ Some c)
      cycle = IsSome-value s.cycle (IsSomeAnd-some s.cycle _ (each_has _ v.facts (fact.Touched f w) g.known touched).0)

      may_move : (space_of f ≡ Trusted) ⊎ IsOld cycle.0 (object_of f)
      may_move = elim may [
        | inl trusted ↦ inl trusted
        | inr hand ↦
            let t = hand_tells key words views id v k at (object_of f) caller hand s g in
            let same : t.cycle ≡ cycle.0 = cc (t.under_way, cycle.1) in
            inr (subst (λ c. IsOld c (object_of f)) same t.old)
      ]

      entry_known : (b : Bool) → (tag_bits found == 0) ≡ b
          → Each (IsKnown (sizes_in key) k.log s k.shown words) (if b then fact.Visited (space_of f) (index_of w) ∷ fact.Placed f w ∷ [] else fact.Entry (space_of f) (index_of w) (found % 2 ^ 62) ∷ [])
      entry_known true is =
          nothing_there (sizes_in key) k.log s k.shown words cycle.0 cycle.1 (CycleSound-is s cycle.0 g.sound cycle.1) f w
          (stands_none key words views k v s g (space_of f) (index_of w) below (let t : tag_bits found ≡ 0 = grind (arith, nat_tests) in t)) may_move
      entry_known false is = ((tt, (IsSome-some (s.cells (space_of f) (index_of w)) c.cell c.stands, IfSome-by s.cycle cycle.0 IsEntry cycle.1 known)), tt)
        where
          c : CellStands s (space_of f) (index_of w) found (slice_index k.shown place)
          c = stands_some key words views k v s g (space_of f) (index_of w) below (grind (arith, nat_tests))

          known : IsEntry cycle.0
          known = elim (cases_Bool (has_mark found)) [
            | inl marked ↦ inr (sym (IfSome-is s.cycle _ cycle.0 cycle.1 c.word.mark) ∙ marked)
            | inr clear ↦
                let good = g.sound.cells.tags (space_of f) (index_of w) c.cell c.stands in
                inl (c.shown_too ∙ sym (low_word found c.cell (c.word.whole ∙ ap (cell_word c.cell) clear) good.0.1 good.1))
          ]

      mark_of : IsMarkedWord found → IsMarkOf s (space_of f) (index_of w) true found
      mark_of is =
          let c = stands_some key words views k v s g (space_of f) (index_of w) below is.0 in
          record { cell = c.cell; stands = c.stands; word = c.word.whole ∙ ap (cell_word c.cell) is.1; was = subst (λ x. IfSome s.cycle (λ d. x ≡ d.marks (space_of f) (index_of w))) is.1 c.word.mark }

    looked : (u : View) × Kept key (set words place found) (set views id u) × EntryLoaded v f w found u
    looked =
        let more = entry_facts f w found in
        let done = loads_facts key words views id v k at more place caller.opened (λ s g. entry_known s g (tag_bits found == 0) refl) in (
          learner key words views id v k at more,
          done.0,
          record {
            loaded = done.1;
            none = λ zero_tag b base.
                let g = given key words views id v k at b (subst (λ (o : Opening). IsBase o b) caller.opened base) in
                stands_none key words views k v (after b k.log) g (space_of f) (index_of w) below zero_tag;
            some = λ tagged b base.
                let g = given key words views id v k at b (subst (λ (o : Opening). IsBase o b) caller.opened base) in
                let c = stands_some key words views k v (after b k.log) g (space_of f) (index_of w) below tagged in
                IsSome-some ((after b k.log).cells (space_of f) (index_of w)) c.cell c.stands;
          },
        )

    marked_or_looked : (u : View) × Kept key (set words place found) (set views id u) × MarkLoaded v f w found u
    marked_or_looked = elim (marked_or_not found) [
      | inl is ↦
          let marks = λ (s : Table) (g : Given key k.log k.shown words v s). mark_of s g is in
          let done = kept_mark key words views id v k at f w true found (space_of f) refl caller below touched marks in
          (marker key words views id v k at f w true found (space_of f) refl caller below touched marks, done.0, record { marked = λ _. done.1; unmarked = λ not_marked. absurd (not_marked is) })
      | inr is_not ↦ (looked.0, looked.1, record { marked = λ is. absurd (is_not is); unmarked = λ _. looked.2 })
    ]

-- a load at a place, which keeps the rule and tells R
abbrev LoadsAt : Opening → ℕ → View → (ℕ → View → Type 0) → ℕ → Type 0
LoadsAt key id v R i = (words : List ℕ) (views : List View) → Kept key words views → get_elem? views id ≡ some v
    → (u : View) × Kept key (set words i (get_or words i 0)) (set views id u) × R (get_or words i 0) u

-- and one of the entry, whose space is given by another name than that of the field
at_entry : (key : Opening) (slots id : ℕ) (me : Me (Unit {0}) View) (f : Field) (word : ℕ) (p : Space) (R : ℕ → View → Type 0)
    → space_of f ≡ p → IsCaller key me.0 → index_of word < limit_in (sizes_in me.0.opening) p
    → (index_of word < limit_in (sizes_in key) (space_of f) → LoadsAt key id me.0 R (entry_place (sizes_in key) (space_of f) (index_of word)))
    → Keeps key slots id me (entry_place (sizes_in key) p (index_of word)) (λ n. n) R
at_entry key slots id me f word p R is caller below step =
    subst (λ q. index_of word < limit_in (sizes_in key) q → Keeps key slots id me (entry_place (sizes_in key) q (index_of word)) (λ n. n) R) is
    (λ low. keeps_by key slots id me (entry_place (sizes_in key) (space_of f) (index_of word)) (λ n. n) R (step low))
    (subst (λ (o : Opening). index_of word < limit_in (sizes_in o) p) caller.opened below)

pub loads_entry : (key : Opening) (slots id : ℕ) (me : Me (Unit {0}) View) (f : Field) (word : ℕ) (p : Space) → space_of f ≡ p → IsCaller key me.0
    → index_of word < limit_in (sizes_in me.0.opening) p → Has me.0.facts (fact.Touched f word) → MayRead me.0 f
    → Keeps key slots id me (entry_place (sizes_in key) p (index_of word)) (λ n. n) (λ found w. EntryLoaded me.0 f word found w)
loads_entry key slots id me f word p is caller below touched may =
    at_entry key slots id me f word p (λ found w. EntryLoaded me.0 f word found w) is caller below
    (λ low words views k at. looked key me.0 f word caller low touched may words views id k at)

pub finds_mark : (key : Opening) (slots id : ℕ) (me : Me (Unit {0}) View) (f : Field) (word : ℕ) (p : Space) → space_of f ≡ p → IsCaller key me.0
    → index_of word < limit_in (sizes_in me.0.opening) p → Has me.0.facts (fact.Touched f word) → MayRead me.0 f
    → Keeps key slots id me (entry_place (sizes_in key) p (index_of word)) (λ n. n) (λ found w. MarkLoaded me.0 f word found w)
finds_mark key slots id me f word p is caller below touched may =
    at_entry key slots id me f word p (λ found w. MarkLoaded me.0 f word found w) is caller below
    (λ low words views k at. marked_or_looked key me.0 f word caller low touched may words views id k at)

pub mark_loaded_tied : (x : Parts) (v : View) (f : Field) (word found : ℕ) (w : View) → IsTied x v → MarkLoaded v f word found w → IsTied x w
mark_loaded_tied x v f word found w tied t = elim (marked_or_not found) [
  | inl is ↦ let m = t.marked is in tied_stays v w x m.same.opening m.same.number m.same.numbers m.own.vars m.own.pending tied
  | inr is_not ↦ let l = (t.unmarked is_not).loaded in tied_stays v w x l.same.opening l.same.number l.same.numbers l.own.vars l.own.pending tied
]

pub mark_loaded_calls : (key : Opening) (v : View) (f : Field) (word found : ℕ) (w : View) → IsCaller key v → MarkLoaded v f word found w → IsCaller key w
mark_loaded_calls key v f word found w caller t = elim (marked_or_not found) [
  | inl is ↦ let m = t.marked is in caller_same key v w caller m.same m.extends.lawful m.own.vars m.own.pending m.hands
  | inr is_not ↦ let l = (t.unmarked is_not).loaded in caller_same key v w caller l.same l.looks.lawful l.own.vars l.own.pending l.hands
]
