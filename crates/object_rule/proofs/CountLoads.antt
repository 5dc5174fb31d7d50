-- A load of the count of objects keeps the rule, and tells its seat that at least so many are made; where the count is the limit,
-- the load can be the event of a new object that finds the heap full.
use Rattle.std.proofs.Common.{◌≡◌, ℕ, ◌<◌, ◌≤◌, false, nat_lt, if◌then◌else◌, List, [], ◌∷◌, ◌++◌, get_or, set, refl, sym, ap, subst, ◌∙◌, inl, inr, arith}
use Rattle.std.proofs.lemmas.Bool.Decides.{eqb_tells, nat_tests}
use mathlib.Core.Option.{some}
use lib.ListN.{get_elem?}
use Rattle.atomic_table.specs.Table.{Me}
use Rattle.plain_table.specs.declared.events.Act.TheVariants as act
use Rattle.plain_table.specs.declared.events.Event.{Event}
use Rattle.plain_table.specs.declared.reports.Reply.TheVariants as reply
use Rattle.plain_table.specs.History.{IsLegal, next}
use Rattle.plain_table.specs.Rows.{with_object}
use Rattle.plain_table.specs.Table.{Table, Sizes}
use Rattle.plain_table.specs.Words.{count_place}
use Rattle.entry_base.specs.declared.view.Fact.TheVariants as fact
use Rattle.entry_base.specs.declared.view.Opening.{Opening}
use Rattle.entry_base.specs.declared.view.View.{View}
use Rattle.entry_base.specs.Callers.{IsCaller, event_of}
use Rattle.entry_base.specs.Histories.{IsPhaseHistory}
use Rattle.entry_base.specs.Openings.{sizes_in}
use Rattle.entry_base.specs.Owns.{Owns}
use Rattle.entry_base.specs.Rule.{Kept}
use Rattle.entry_base.proofs.QuietSteps.{kept_look, kept_event}
use Rattle.entry_base.proofs.Steps.{Given, Keeps, given, keeps_by, loads}
use Rattle.entry_base.proofs.Sums.{each_has}
use Rattle.object_rule.specs.Objects.{CountLoaded, CountSeen, CountForNew}

module _ (key : Opening) (words : List ℕ) (views : List View) (id : ℕ) (v : View) (k : Kept key words views) (at : get_elem? views id ≡ some v) (opened : v.opening ≡ key) where
  abbrev found : ℕ
  found = get_or words count_place 0

  -- the word is the count
  pub count_word : (s : Table) → Given key k.log k.shown words v s → found ≡ s.count
  count_word s g = k.near.low count_place (omega arith) ∙ g.shows.count

  -- the view after the load, which has seen a history
  abbrev counter : List Event → View
  counter seen = record v { seen = seen; facts = fact.Count found ∷ v.facts }

  count_loaded : (seen : List Event) → CountLoaded v found (counter seen)
  count_loaded seen =
      let g = given key words views id v k at k.base k.is_base in
      let is = count_word _ g in record {
        same = record { opening = refl; number = refl; numbers = refl; cut = refl; knows = λ f has. inr has };
        own = record { vars = refl; pending = refl; owed = refl; fresh = refl };
        hands = refl;
        knows = inl refl;
        low =
            let few = g.sound.objects.few in
            let same = ap (λ (z : Sizes). z.objects) g.sizes in
            let most : found ≤ (sizes_in key).objects = omega arith in
            subst (λ o. found ≤ (sizes_in o).objects) (sym opened) most;
        rises = λ count has. let low = (each_has _ v.facts (fact.Count count) g.known has).0 in omega arith;
      }

  pub kept_count : (w : View) × Kept key words (set views id w) × CountSeen v found w
  kept_count =
      let done = kept_look key words views id v k at (fact.Count found ∷ []) (λ s g. (((let is = count_word s g in omega arith), tt), tt)) in
      (counter k.log, done.0, record { loaded = count_loaded k.log; looks = done.1 opened })

  -- the heap is full
  module _ (var : ℕ) (caller : IsCaller key v) (mutator : v.number < 8) (few : var < 16) (full : found ≡ (sizes_in key).objects) where
    abbrev e : Event
    e = event_of v (act.New var) reply.HeapFull

    no_room : (s : Table) → Given key k.log k.shown words v s → nat_lt s.count s.sizes.objects ≡ false
    no_room s g = let is = count_word s g in let same = ap (λ (z : Sizes). z.objects) g.sizes in grind (arith, nat_tests)

    stays : (s : Table) → Given key k.log k.shown words v s → next s e ≡ s
    stays s g = ap (λ room. if room then with_object s v.number var else s) (no_room s g)

    legal : (s : Table) → Given key k.log k.shown words v s → IsLegal s e
    legal s g = ((mutator, few), sym (ap (λ room. if room then reply.Obj s.count else reply.HeapFull) (no_room s g)))

    kept_full : (w : View) × Kept key words (set views id w) × CountForNew v var found w
    kept_full =
        let done = kept_event key words views id v k at (fact.Count found ∷ []) e (counter (k.log ++ e ∷ [])) refl caller.own tt refl (λ p. refl) refl refl refl refl refl
        (λ s g. (
          legal s g,
          subst (λ t. Owns t (counter (k.log ++ e ∷ []))) (sym (stays s g))
              (record { variables = g.owns.variables; pending = g.owns.pending; owed = g.owns.owed; fresh = g.owns.fresh }),
          (((let is = count_word s g in subst (λ (t : Table). found ≤ t.count) (sym (stays s g)) (omega arith)), tt), tt),
        )) in (
          counter (k.log ++ e ∷ []),
          done.0,
          record {
            loaded = count_loaded (k.log ++ e ∷ []);
            full = λ is. done.1 opened;
            left = λ other. absurd (other (full ∙ ap (λ o. (sizes_in o).objects) (sym opened)));
          },
        )

pub loads_count : (key : Opening) (slots id : ℕ) (me : Me (Unit {0}) View) → IsCaller key me.0 → Keeps key slots id me 3 (λ n. n) (λ found w. CountSeen me.0 found w)
loads_count key slots id me caller = keeps_by key slots id me 3 (λ n. n) (λ found w. CountSeen me.0 found w) (λ words views k at.
    let done = kept_count key words views id me.0 k at caller.opened in
    (done.0, loads key words (set views id done.0) 3 done.1, done.2))

pub loads_count_for_new : (key : Opening) (slots id : ℕ) (me : Me (Unit {0}) View) (var : ℕ) → IsCaller key me.0 → me.0.number < 8 → var < 16 → Keeps key slots id me 3 (λ n. n) (λ found w. CountForNew me.0 var found w)
loads_count_for_new key slots id me var caller mutator few = keeps_by key slots id me 3 (λ n. n) (λ found w. CountForNew me.0 var found w) (λ words views k at.
    let done = count_or_full words views k at in
    (done.0, loads key words (set views id done.0) 3 done.1, done.2))
  where
    count_or_full : (words : List ℕ) (views : List View) (k : Kept key words views) → get_elem? views id ≡ some me.0
        → (w : View) × Kept key words (set views id w) × CountForNew me.0 var (get_or words 3 0) w
    count_or_full words views k at = elim (eqb_tells (get_or words 3 0) (sizes_in key).objects) [
      | inl is ↦ kept_full key words views id me.0 k at caller.opened var caller mutator few is.1
      | inr other ↦ let done = kept_count key words views id me.0 k at caller.opened in (
        done.0,
        done.1,
        record {
          loaded = done.2.loaded;
          full = λ is. absurd (other.1 (is ∙ ap (λ o. (sizes_in o).objects) caller.opened));
          left = λ less. done.2.looks;
        },
      )
    ]

pub for_new_lawful : (v : View) (var found : ℕ) (w : View) → CountForNew v var found w → IsPhaseHistory v.opening w.seen
for_new_lawful v var found w is = elim (eqb_tells found (sizes_in v.opening).objects) [
  | inl same ↦ (is.full same.1).lawful
  | inr other ↦ (is.left other.1).lawful
]
