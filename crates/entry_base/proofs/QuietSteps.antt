-- Steps that change no word: a load without an event, which only tells facts, and a load with an event that writes no word.
use Rattle.std.proofs.Common.{◌≡◌, ℕ, ◌+◌, List, [], ◌∷◌, ◌++◌, set, Option, refl, ap, subst, inl, inr}
use mathlib.Core.Option.{some}
use lib.ListN.{get_elem?}
use Rattle.plain_table.specs.declared.events.Act.TheVariants.{Link}
use Rattle.plain_table.specs.declared.events.Event.{Event}
use Rattle.plain_table.specs.declared.events.Space.{Space}
use Rattle.plain_table.specs.declared.events.Spot.TheVariants.{Ref}
use Rattle.plain_table.specs.Table.{Table}
use Rattle.plain_table.specs.History.{IsLegal, next}
use Rattle.table_laws.specs.Steady.{IsDuringPhase}
use Rattle.word_laws.specs.WordLaws.{WritesNothing}
use Rattle.table_laws.proofs.Steadiness.{events-steady}
use Rattle.word_laws.proofs.QuietWords.{WordsStay-all}
use Rattle.entry_base.specs.declared.view.Opening.{Opening}
use Rattle.entry_base.specs.declared.view.View.{View}
use Rattle.entry_base.specs.declared.view.Fact.{Fact}
use Rattle.entry_base.specs.Lists.{Each, count_in}
use Rattle.entry_base.specs.Hands.{grey}
use Rattle.entry_base.specs.Ranks.{takes_of}
use Rattle.entry_base.specs.Facts.{IsKnown}
use Rattle.entry_base.specs.Numbers.{HasNumber}
use Rattle.entry_base.specs.Owns.{Owns}
use Rattle.entry_base.specs.Rule.{Kept}
use Rattle.entry_base.specs.Openings.{sizes_in}
use Rattle.entry_base.specs.Callers.{Looks, Extends}
use Rattle.entry_base.proofs.Steps.{Given, Adds, takes_same, sees, adds}
use Rattle.entry_base.proofs.Classes.{covered_event, references_same, still}
use Rattle.word_laws.specs.CoverLaws.{HasSameReferences}

module _ (key : Opening) (words : List ℕ) (views : List View) (id : ℕ) (v : View) (k : Kept key words views) (at : get_elem? views id ≡ some v) (more : List Fact) where
  -- a load without an event, which tells facts
  abbrev pub looker : View
  looker = record v { seen = k.log; facts = more ++ v.facts }

  pub kept_look : ((s : Table) → Given key k.log k.shown words v s → Each (IsKnown (sizes_in key) k.log s k.shown words) more)
      → Kept key words (set views id looker) × (v.opening ≡ key → Looks v looker)
  kept_look tells =
      sees key words words views id v looker k at k.shown more refl refl refl k.near (λ p i below usable. usable) (λ o. refl) (inr refl) refl (λ s g. record {
        shows = g.shows;
        covered = g.covered;
        steady = still (sizes_in key) k.log k.log s s k.shown (λ o n. refl) (λ p. refl);
        owns = record { variables = g.owns.variables; pending = g.owns.pending; owed = g.owns.owed; fresh = g.owns.fresh };
        tells = tells s g;
      })

  -- and one with an event that writes no word
  module _ (e : Event) (w : View) (by : e.by ≡ v.number) (own : HasNumber v v.number) (during : IsDuringPhase e.act) (nothing : WritesNothing e.act e.said)
      (takes : (p : Space) → takes_of p e.act e.said ≡ 0) (seen : w.seen ≡ k.log ++ e ∷ []) (numbers : w.numbers ≡ v.numbers)
      (cut : w.cut ≡ v.cut) (facts : w.facts ≡ more ++ v.facts) (hands : w.hands ≡ v.hands) where
    no_link : (o n : ℕ) (var : Option ℕ) → e.act ≡ Link (Ref o n) var → ⊥
    no_link o n var is = subst (λ a. WritesNothing a e.said) is nothing

    pub kept_event : ((s : Table) → Given key k.log k.shown words v s → IsLegal s e × Owns (next s e) w × Each (IsKnown (sizes_in key) (k.log ++ e ∷ []) (next s e) k.shown words) more)
        → Kept key words (set views id w) × (v.opening ≡ key → Extends v e w)
    kept_event step = adds key words words views id v w k at k.shown more numbers cut facts k.near (λ p i below usable. usable)
        (λ o. ap (λ (h : List ℕ). count_in o h + grey (sizes_in key) k.shown o) hands) e by own during seen add
      where
        add : (s : Table) → Given key k.log k.shown words v s → Adds (sizes_in key) k.log e k.shown k.shown words w more s
        add s g =
            let is = step s g in
            let steady = events-steady s e g.sound is.0 during in
            let same : HasSameReferences s (next s e) = λ o n. elim (steady.references o n) [ inl t ↦ t | inr t ↦ absurd (no_link o n t.0 t.1) ] in
            record {
              legal = is.0;
              shows = WordsStay-all k.shown s e g.shows is.0 nothing;
              covered = covered_event s e k.shown k.shown g.sound during (λ o low. refl) (λ o n low. references_same s (next s e) k.shown same o n) g.covered;
              steady = still (sizes_in key) k.log (k.log ++ e ∷ []) s (next s e) k.shown same (λ p. takes_same p k.log e (takes p));
              owns = is.1;
              tells = is.2;
            }
