-- A compare and exchange of the count of objects keeps the rule, where the view lists the 128 variables, as that of each session
-- does: it makes an object, or it finds that more are made.
use Rattle.std.proofs.Common.{◌≡◌, ℕ, ◌+◌, ◌*◌, ◌<◌, ◌==◌, true, nat_lt, if◌then◌else◌, List, [], ◌∷◌, ◌++◌, Some, get_or, set, length, slice_set, get_or-set_same, refl, sym, ap, subst, ◌∙◌, inl, inr, arith}
use Rattle.std.proofs.lemmas.Bool.Decides.{eqb_tells, nat_tests}
use prog.Atomic.{either}
use mathlib.Core.Option.{some}
use lib.ListN.{get_elem?}
use Rattle.atomic_table.specs.Table.{Me}
use Rattle.plain_table.specs.declared.events.Act.TheVariants as act
use Rattle.plain_table.specs.declared.events.Event.{Event}
use Rattle.plain_table.specs.declared.reports.Reply.TheVariants as reply
use Rattle.plain_table.specs.Cycle.{born_in}
use Rattle.plain_table.specs.History.{IsLegal, next}
use Rattle.plain_table.specs.Rows.{with_object}
use Rattle.plain_table.specs.Shows.{Shows}
use Rattle.plain_table.specs.Table.{Table, Sizes}
use Rattle.plain_table.specs.Words.{count_place}
use Rattle.plain_table.proofs.WordPlaces.{freelist_place-below}
use Rattle.word_laws.proofs.CountWords.{CountWordsFollow-row}
use Rattle.entry_base.specs.declared.view.Fact.TheVariants as fact
use Rattle.entry_base.specs.declared.view.Opening.{Opening}
use Rattle.entry_base.specs.declared.view.View.{View}
use Rattle.entry_base.specs.Callers.{IsCaller, event_of}
use Rattle.entry_base.specs.Lists.{Has}
use Rattle.entry_base.specs.Openings.{sizes_in}
use Rattle.entry_base.specs.Owns.{Owns}
use Rattle.entry_base.specs.Rule.{Kept}
use Rattle.entry_base.proofs.Changes.{LowChanges, kept_low}
use Rattle.entry_base.proofs.Classes.{references_same}
use Rattle.entry_base.proofs.Steps.{Given, Keeps, keeps_by, loads}
use Rattle.object_rule.specs.Objects.{NewObject, MadeObject}
use Rattle.object_rule.proofs.CountLoads.{count_word, kept_count}
use Rattle.object_rule.proofs.Held.{owns_variable}

module _ (key : Opening) (words : List ℕ) (views : List View) (id : ℕ) (v : View) (k : Kept key words views) (at : get_elem? views id ≡ some v)
    (var n : ℕ) (caller : IsCaller key v) (mutator : v.number < 8) (many : length v.vars ≡ 128) (few : var < 16) (below : n < (sizes_in v.opening).objects)
    (won : get_or words count_place 0 ≡ n) where
  abbrev e : Event
  e = event_of v (act.New var) (reply.Obj n)

  abbrev maker : View
  maker = record v { seen = k.log ++ e ∷ []; vars = slice_set v.vars (16 * v.number + var) (n + 1) }

  module _ (s : Table) (g : Given key k.log k.shown words v s) where
    count_is : s.count ≡ n
    count_is = sym (count_word key words views id v k at caller.opened s g) ∙ won

    room : nat_lt s.count s.sizes.objects ≡ true
    room =
        let is = count_is in
        let same = ap (λ (z : Sizes). z.objects) g.sizes in
        let less = subst (λ o. n < (sizes_in o).objects) caller.opened below in
        grind (arith, nat_tests)

    made : next s e ≡ with_object s v.number var
    made = ap (λ b. if b then with_object s v.number var else s) room

    legal : IsLegal s e
    legal = ((mutator, few), ap reply.Obj (sym count_is) ∙ sym (ap (λ b. if b then reply.Obj s.count else reply.HeapFull) room))

    changes : LowChanges (sizes_in key) k.log e k.shown words count_place (n + 1) maker [] s
    changes = record {
      legal = legal;
      shows = subst (λ c. Shows (set k.shown count_place (c + 1)) (next s e)) count_is (CountWordsFollow-row k.shown s e var n g.shows legal refl refl);
      refs = λ o m. references_same s (next s e) (set k.shown count_place (n + 1)) (λ a b. ap (λ (t : Table). t.refs a b) made) o m;
      owns = subst (λ t. Owns t maker) (sym made)
          (owns_variable s v var few (Some s.count) (s.count + 1) (born_in s.cycle s.count) (n + 1) (k.log ++ e ∷ [])
          (get_or-set_same v.vars (16 * v.number + var) (n + 1) 0 (omega (arith, many, mutator, few)) ∙ ap (λ c. c + 1) (sym count_is)) g.owns);
      tells = tt;
    }

  kept_new : (w : View) × Kept key (set words count_place (n + 1)) (set views id w) × MadeObject v var n w
  kept_new =
      let done = kept_low key words views id v maker k at [] e refl caller.own tt (λ p. refl) refl refl refl refl refl count_place (n + 1)
      (omega arith) (λ o same. omega (arith, same)) (λ p same. omega (arith, same, freelist_place-below p)) changes in (
        maker,
        done.0,
        record {
          same = record { opening = refl; number = refl; numbers = refl; cut = refl; knows = λ f has. has };
          rest = (refl, refl, refl, refl);
          vars = refl;
          extends = done.1 caller.opened;
        },
      )

module _ (key : Opening) (words : List ℕ) (views : List View) (id : ℕ) (v : View) (k : Kept key words views) (at : get_elem? views id ≡ some v)
    (var n : ℕ) (caller : IsCaller key v) (mutator : v.number < 8) (many : length v.vars ≡ 128) (few : var < 16) (below : n < (sizes_in v.opening).objects)
    (known : Has v.facts (fact.Count n)) where
  abbrev found : ℕ
  found = get_or words count_place 0

  kept_exchange : (w : View) × Kept key (set words count_place (either (found == n) (n + 1) found)) (set views id w) × NewObject v var n found w
  kept_exchange = elim (eqb_tells found n) [
    | inl won ↦ let done = kept_new key words views id v k at var n caller mutator many few below won.1 in (
      done.0,
      subst (λ x. Kept key (set words count_place x) (set views id done.0)) (sym (ap (λ b. either b (n + 1) found) won.0)) done.1,
      record { won = λ is. done.2; lost = λ other. absurd (other won.1) },
    )
    | inr lost ↦
        let done = kept_count key words views id v k at caller.opened in
        let least = done.2.loaded.rises n known in
        let other = lost.1 in (
          done.0,
          subst (λ x. Kept key (set words count_place x) (set views id done.0)) (sym (ap (λ b. either b (n + 1) found) lost.0)) (loads key words (set views id done.0) count_place done.1),
          record { won = λ is. absurd (other is); lost = λ is. record { seen = done.2; more = omega arith } },
        )
  ]

pub makes_object : (key : Opening) (slots id : ℕ) (me : Me (Unit {0}) View) (var n : ℕ) → IsCaller key me.0 → me.0.number < 8 → length me.0.vars ≡ 128 → var < 16 → n < (sizes_in me.0.opening).objects → Has me.0.facts (fact.Count n) → Keeps key slots id me 3 (λ x. either (x == n) (n + 1) x) (λ found w. NewObject me.0 var n found w)
makes_object key slots id me var n caller mutator many few below known =
    keeps_by key slots id me 3 (λ x. either (x == n) (n + 1) x) (λ found w. NewObject me.0 var n found w) (λ words views k at.
    kept_exchange key words views id me.0 k at var n caller mutator many few below known)
