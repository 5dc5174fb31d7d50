-- An abort: bit 32 of the area word says that the compaction is aborted. It is made where the view knows that no index below
-- the start of the area is free.
use Rattle.std.proofs.Common.{◌≡◌, ◌+◌, ◌*◌, ◌^◌, ◌<◌, ◌≤◌, ℕ, Bool, true, false, if◌then◌else◌, List, [], ◌∷◌, ◌++◌, get_or, set, bit_or, Option, Some, None, unwrap_or, IsTrue, IsSomeAnd, refl, sym, ap, subst, ◌∙◌, inl, inr, arith}
use Rattle.std.specs.Prelude.{nat_lt}
use Rattle.std.specs.Int.Bits.{or_shifted_r}
use Rattle.std.proofs.lemmas.Bool.Decides.{nat_tests}
use Rattle.std.proofs.lemmas.Nat.{or_block}
use mathlib.Core.Option.{some}
use lib.ListN.{get_elem?}
use Rattle.atomic_table.specs.Table.{Me}
use Rattle.plain_table.specs.declared.events.Act.TheVariants as act
use Rattle.plain_table.specs.declared.events.Event.{Event}
use Rattle.plain_table.specs.declared.events.Space.TheVariants.{External}
use Rattle.plain_table.specs.declared.reports.Reply.TheVariants as reply
use Rattle.plain_table.specs.Cycle.{Cycle, start_in, aborted_in}
use Rattle.plain_table.specs.History.{IsLegal, next}
use Rattle.plain_table.specs.Rows.{only_below, free_below}
use Rattle.plain_table.specs.Shows.{Shows}
use Rattle.plain_table.specs.Table.{Table, Sizes, least_free}
use Rattle.plain_table.specs.Words.{area_place, area_word}
use Rattle.plain_table.proofs.FreeReads.{least_free-some}
use Rattle.plain_table.proofs.Options.{IsSomeAnd-by}
use Rattle.plain_table.proofs.WordPlaces.{freelist-apart-area}
use Rattle.table_laws.proofs.Steadiness.{events-steady}
use Rattle.word_laws.specs.Small.{AreSmall}
use Rattle.word_laws.proofs.AreaReads.{AreaWordsTell-shown}
use Rattle.word_laws.proofs.CountWords.{AreaWordsFollow-row}
use Rattle.entry_base.specs.declared.view.Fact.TheVariants as fact
use Rattle.entry_base.specs.declared.view.Opening.{Opening}
use Rattle.entry_base.specs.declared.view.View.{View}
use Rattle.entry_base.specs.Callers.{IsCaller, event_of}
use Rattle.entry_base.specs.Lists.{Has}
use Rattle.entry_base.specs.Openings.{sizes_in, start_of}
use Rattle.entry_base.specs.Rule.{Kept}
use Rattle.entry_base.proofs.Changes.{LowChanges, kept_low}
use Rattle.entry_base.proofs.Classes.{references_same}
use Rattle.entry_base.proofs.OwnsStay.{owns_same}
use Rattle.entry_base.proofs.Steps.{Given, Keeps, keeps_by}
use Rattle.entry_base.proofs.Sums.{each_has}
use Rattle.entry_rule.specs.Entries.{Aborts}

-- the bit is set, whether it was or not
abort_bit : (was : Bool) (n : ℕ) → n < 2 ^ 32 → bit_or (n + (if was then 2 ^ 32 else 0)) (2 ^ 32) ≡ n + 2 ^ 32
abort_bit was n low = go was
  where
    by_high : (high : ℕ) → bit_or high 1 ≡ 1 → bit_or (high * 2 ^ 32 + n) (2 ^ 32) ≡ n + 2 ^ 32
    by_high high one = or_block 32 high 1 n 0 low (omega arith) ∙ (let rest : bit_or n 0 ≡ 0 + n = or_shifted_r 0 32 n low in omega (arith, one, rest))

    go : (b : Bool) → bit_or (n + (if b then 2 ^ 32 else 0)) (2 ^ 32) ≡ n + 2 ^ 32
    go true = let same : n + 2 ^ 32 ≡ 1 * 2 ^ 32 + n = omega arith in ap (λ m. bit_or m (2 ^ 32)) same ∙ by_high 1 refl
    go false = let same : n + 0 ≡ 0 * 2 ^ 32 + n = omega arith in ap (λ m. bit_or m (2 ^ 32)) same ∙ by_high 0 refl

-- the area word after an abort
abort_word : (cycle : Option Cycle) (start : ℕ) → start_in cycle ≡ Some start → start < 2 ^ 32 → bit_or (area_word cycle) (2 ^ 32) ≡ area_word (aborted_in cycle)
abort_word None start begins low = absurd (cc)
abort_word (Some c) start begins low =
    ap (λ o. bit_or (unwrap_or o 0 + (if c.aborted then 2 ^ 32 else 0)) (2 ^ 32)) begins ∙ (abort_bit c.aborted start low ∙ ap (λ o. unwrap_or o 0 + 2 ^ 32) (sym begins))

is_aborted : (cycle : Option Cycle) (start : ℕ) → start_in cycle ≡ Some start → IsSomeAnd (aborted_in cycle) (λ d. IsTrue d.aborted)
is_aborted None start begins = absurd (cc)
is_aborted (Some c) start begins = refl

-- where all indexes below a start are used, no free one is below it
none_below : (s : Table) (start : ℕ) → ((i : ℕ) → 1 ≤ i → i < start → IsTrue (s.used External i)) → free_below s start ≡ None
none_below s start used = go (least_free s External) refl
  where
    pick : (i : ℕ) → least_free s External ≡ Some i → (below : Bool) → nat_lt i start ≡ below → (if below then Some i else None) ≡ None
    pick i is false test = refl
    pick i is true test =
        let free = least_free-some s External i is in
        let low : i < start = grind (arith, nat_tests) in
        let taken = used i (omega (arith, free.1)) low in
        let unused = free.0 in
        absurd (cc)

    go : (found : Option ℕ) → least_free s External ≡ found → only_below start found ≡ None
    go None is = refl
    go (Some i) is = pick i is (nat_lt i start) refl

module _ (key : Opening) (words : List ℕ) (views : List View) (id : ℕ) (v : View) (start n : ℕ) (k : Kept key words views) (at : get_elem? views id ≡ some v)
    (caller : IsCaller key v) (area : start_of v.opening ≡ Some start) (full : Has v.facts (fact.Used External n)) (from : start ≤ n) where
  abbrev z : Sizes
  z = sizes_in key

  abbrev e : Event
  e = event_of v act.Abort reply.Ok

  abbrev word : ℕ
  word = bit_or (get_or words area_place 0) (2 ^ 32)

  abbrev ended : View
  ended = record v { seen = k.log ++ e ∷ []; facts = fact.Aborted ∷ v.facts }

  step : (s : Table) → Given key k.log k.shown words v s → LowChanges z k.log e k.shown words area_place word ended (fact.Aborted ∷ []) s
  step s g =
      let begins : start_in s.cycle ≡ Some start = g.start ∙ (ap start_of (sym caller.opened) ∙ area) in
      let used = (each_has _ v.facts (fact.Used External n) g.known full).0 in
      let is : IsLegal s e = (IsSomeAnd-by (start_in s.cycle) start _ begins (none_below s start (λ i one below. used i one (omega (arith, below, from)))), refl) in
      let steady = events-steady s e g.sound is tt in
      let small : AreSmall s.sizes = subst AreSmall (sym g.sizes) k.few in
      let within = (AreaWordsTell-shown k.shown s g.sound small g.shows).within start begins in
      let low : start < 2 ^ 32 = omega (arith, within, small.few External) in
      let same : word ≡ area_word (aborted_in s.cycle) = ap (λ m. bit_or m (2 ^ 32)) (k.near.low area_place (omega arith) ∙ g.shows.area) ∙ abort_word s.cycle start begins low in
      let own = owns_same s e (next s e) v steady.cells (record { vars = refl; ticket = refl; owed = refl; fresh = refl }) g.owns in
      record {
        legal = is;
        shows = subst (λ m. Shows (set k.shown area_place m) (next s e)) (sym same) (AreaWordsFollow-row k.shown s e g.shows is refl);
        refs = references_same s (next s e) (set k.shown area_place word) (λ o m. refl);
        owns = record { variables = own.variables; pending = own.pending; owed = own.owed; fresh = own.fresh };
        tells = ((is_aborted s.cycle start begins, tt), tt);
      }

  pub kept_abort : Kept key (set words area_place word) (set views id ended) × Aborts v ended
  kept_abort =
      let done = kept_low key words views id v ended k at (fact.Aborted ∷ []) e refl caller.own tt (λ q. refl) refl refl refl refl refl
      area_place word (omega arith) (λ o same. omega (arith, same)) freelist-apart-area step in (
        done.0,
        record {
          same = record { opening = refl; number = refl; numbers = refl; cut = refl; knows = λ f has. inr has };
          own = record { vars = refl; pending = refl; owed = refl; fresh = refl };
          hands = refl;
          extends = done.1 caller.opened;
          knows = inl refl;
        },
      )

pub aborts : (key : Opening) (slots id : ℕ) (me : Me (Unit {0}) View) (start n : ℕ) → IsCaller key me.0 → start_of me.0.opening ≡ Some start → Has me.0.facts (fact.Used External n) → start ≤ n → Keeps key slots id me 1 (λ x. bit_or x (2 ^ 32)) (λ found w. Aborts me.0 w)
aborts key slots id me start n caller area full from = keeps_by key slots id me 1 (λ x. bit_or x (2 ^ 32)) (λ found w. Aborts me.0 w) (λ words views k at.
    let done = kept_abort key words views id me.0 start n k at caller area full from in
    (_, done.0, done.1))
