-- Looks: below the limit the word of the entry tells what the look answers, and the tag of a cell that stands there; past the
-- limit no cell stands, so the look answers a fault.
use Rattle.std.proofs.Common.{◌≡◌, ◌≢◌, ◌≤◌, ◌<◌, ◌==◌, if◌then◌else◌, Bool, true, false, ◌∷◌, [], ◌++◌, ℕ, List, set, slice_index, Option, Some, None, IsSomeAnd, refl, sym, ap, subst, ◌∙◌, inl, arith, ne_eqb}
use Rattle.std.proofs.lemmas.Bool.Decides.{nat_tests}
use mathlib.Core.Option.{some}
use lib.ListN.{get_elem?}
use Rattle.atomic_table.specs.Table.{Me}
use Rattle.plain_table.specs.declared.events.Act.TheVariants as act
use Rattle.plain_table.specs.declared.events.Cell.{Cell}
use Rattle.plain_table.specs.declared.events.Event.{Event}
use Rattle.plain_table.specs.declared.events.Space.{Space}
use Rattle.plain_table.specs.declared.reports.Reply.{Reply}
use Rattle.plain_table.specs.declared.reports.Reply.TheVariants as reply
use Rattle.plain_table.specs.Index.{index_of}
use Rattle.plain_table.specs.Rows.{look, seen_under}
use Rattle.plain_table.specs.Table.{Table, Sizes, limit_in}
use Rattle.plain_table.specs.Words.{entry_place}
use Rattle.word_laws.specs.ReadLaws.{EntryTells, tag_bits}
use Rattle.word_laws.proofs.LookReads.{cell-none, seen_under-word}
use Rattle.entry_base.specs.declared.view.Fact.{Fact}
use Rattle.entry_base.specs.declared.view.Fact.TheVariants as fact
use Rattle.entry_base.specs.declared.view.Opening.{Opening}
use Rattle.entry_base.specs.declared.view.View.{View}
use Rattle.entry_base.specs.Callers.{IsCaller, event_of}
use Rattle.entry_base.specs.Facts.{IsKnown}
use Rattle.entry_base.specs.Learned.{Answered}
use Rattle.entry_base.specs.Lists.{Each, Has}
use Rattle.entry_base.specs.Openings.{sizes_in}
use Rattle.entry_base.specs.Rule.{Kept}
use Rattle.entry_base.proofs.QuietSteps.{kept_event}
use Rattle.entry_base.proofs.Steps.{Given, Keeps, keeps_by, loads}
use Rattle.entry_rule.specs.Looks.{LookedAt, LookedBeyond, look_reply}
use Rattle.entry_rule.proofs.FoundEntries.{answered, answered_view}
use Rattle.entry_base.proofs.EntryTells.{entry_tells}

-- what the word of an entry tells of the cell there: its tag, where the tag bits are not 0
abbrev cell_facts : Space → ℕ → ℕ → List Fact
cell_facts p i tag = if tag == 0 then [] else fact.Cell p i tag ∷ []

has_cell : (p : Space) (i tag : ℕ) (facts : List Fact) → tag ≢ 0 → Has (cell_facts p i tag ++ facts) (fact.Cell p i tag)
has_cell p i tag facts some_tag =
    subst (λ (b : Bool). Has ((if b then [] else fact.Cell p i tag ∷ []) ++ facts) (fact.Cell p i tag)) (sym (ne_eqb tag 0 some_tag)) (inl refl)

cell_known : (z : Sizes) (log : List Event) (s : Table) (shown words : List ℕ) (p : Space) (i word : ℕ) → EntryTells s p i word
    → Each (IsKnown z log s shown words) (cell_facts p i (tag_bits word))
cell_known z log s shown words p i word tells = go (tag_bits word == 0) refl
  where
    known : (found : Option Cell) → s.cells p i ≡ found → tag_bits word ≢ 0 → IsSomeAnd found (λ c. c.tag ≡ tag_bits word)
    known None is some_tag = absurd (some_tag (tells.none is))
    known (Some c) is some_tag = sym (tells.cell c is).tag

    go : (b : Bool) → (tag_bits word == 0) ≡ b → Each (IsKnown z log s shown words) (if b then [] else fact.Cell p i (tag_bits word) ∷ [])
    go true is = tt
    go false is = ((known (s.cells p i) refl (grind (arith, nat_tests)), tt), tt)

module _ (key : Opening) (words : List ℕ) (views : List View) (id : ℕ) (v : View) (p : Space) (word first last : ℕ) (k : Kept key words views)
    (at : get_elem? views id ≡ some v) (caller : IsCaller key v) where
  -- a look that answers right in each table that the rule speaks of
  module _ (said : Reply) (more : List Fact) (right : (s : Table) → Given key k.log k.shown words v s → said ≡ look s p word first last)
      (known : (s : Table) → Given key k.log k.shown words v s → (log : List Event) → Each (IsKnown (sizes_in key) log s k.shown words) more) where
    abbrev e : Event
    e = event_of v (act.Look p word first last) said

    kept_answer : Kept key words (set views id (answered_view v k.log e more)) × Answered v e (answered_view v k.log e more)
    kept_answer =
        let done = kept_event key words views id v k at more e (answered_view v k.log e more) refl caller.own tt tt (λ q. refl) refl refl refl refl refl (λ s g. (
          (tt, right s g),
          record { variables = g.owns.variables; pending = g.owns.pending; owed = g.owns.owed; fresh = g.owns.fresh },
          known s g (k.log ++ e ∷ []),
        )) in
        (done.0, answered v k.log e more (done.1 caller.opened))

  abbrev found : ℕ
  found = slice_index words (entry_place (sizes_in key) p (index_of word))

  module _ (s : Table) (g : Given key k.log k.shown words v s) where
    answers : 1 ≤ first → index_of word < limit_in (sizes_in key) p → look_reply word first last found ≡ look s p word first last
    answers ranged below =
        let tells = entry_tells key words views k v s g p (index_of word) below in
        ap (λ (r : Reply). if index_of word == 0 then reply.Null else r) (sym (seen_under-word s p (index_of word) found first last tells ranged))

    faults : limit_in (sizes_in key) p ≤ index_of word → reply.Fault ≡ look s p word first last
    faults past =
        let least = k.few.some p in
        let later : index_of word ≢ 0 = omega (arith, past, least) in
        let empty = cell-none s p (index_of word) g.sound (subst (λ (z : Sizes). limit_in z p ≤ index_of word) (sym g.sizes) past) in
        sym (ap (λ (test : Bool). if test then reply.Null else seen_under (s.cells p (index_of word)) first last) (ne_eqb (index_of word) 0 later)
        ∙ ap (λ (o : Option Cell). seen_under o first last) empty)

  kept_at : 1 ≤ first → index_of word < limit_in (sizes_in key) p → (w : View) × Kept key words (set views id w) × LookedAt v p word first last found w
  kept_at ranged below =
      let tag = tag_bits found in
      let more = cell_facts p (index_of word) tag in
      let done = kept_answer (look_reply word first last found) more (λ s g. answers s g ranged below)
      (λ s g log. cell_known (sizes_in key) log s k.shown words p (index_of word) found (entry_tells key words views k v s g p (index_of word) below)) in (
        answered_view v k.log (event_of v (act.Look p word first last) (look_reply word first last found)) more,
        done.0,
        record { answered = done.1; knows = has_cell p (index_of word) tag v.facts },
      )

  kept_beyond : limit_in (sizes_in key) p ≤ index_of word → (w : View) × Kept key words (set views id w) × LookedBeyond v p word first last w
  kept_beyond past =
      let done = kept_answer reply.Fault [] (λ s g. faults s g past) (λ s g log. tt) in
      (answered_view v k.log (event_of v (act.Look p word first last) reply.Fault) [], done.0, done.1)

pub looks_at : (key : Opening) (slots id : ℕ) (me : Me (Unit {0}) View) (p : Space) (word first last : ℕ) → IsCaller key me.0 → 1 ≤ first → index_of word < limit_in (sizes_in me.0.opening) p → Keeps key slots id me (entry_place (sizes_in key) p (index_of word)) (λ n. n) (λ found w. LookedAt me.0 p word first last found w)
looks_at key slots id me p word first last caller ranged below =
    keeps_by key slots id me (entry_place (sizes_in key) p (index_of word)) (λ n. n) (λ found w. LookedAt me.0 p word first last found w) (λ words views k at.
    let done = kept_at key words views id me.0 p word first last k at caller ranged (subst (λ (o : Opening). index_of word < limit_in (sizes_in o) p) caller.opened below) in
    (done.0, loads key words (set views id done.0) (entry_place (sizes_in key) p (index_of word)) done.1, done.2))

pub looks_beyond : (key : Opening) (slots id : ℕ) (me : Me (Unit {0}) View) (p : Space) (word first last : ℕ) → IsCaller key me.0 → limit_in (sizes_in me.0.opening) p ≤ index_of word → Keeps key slots id me 4 (λ n. n) (λ found w. LookedBeyond me.0 p word first last w)
looks_beyond key slots id me p word first last caller past =
    keeps_by key slots id me 4 (λ n. n) (λ found w. LookedBeyond me.0 p word first last w) (λ words views k at.
    let done = kept_beyond key words views id me.0 p word first last k at caller (subst (λ (o : Opening). limit_in (sizes_in o) p ≤ index_of word) caller.opened past) in
    (done.0, loads key words (set views id done.0) 4 done.1, done.2))
