-- An evacuation entry: an index below the area that the caller took is filled with the number of a field of an object of its
-- hands, which is old. The field is visited from then on, so that no cell moves without it.
use Rattle.std.proofs.Common.{◌≡◌, ◌<◌, ◌≤◌, ℕ, true, List, [], ◌∷◌, ◌++◌, set, Option, Some, None, IsTrue, IsSomeAnd, refl, ap, subst, sym, ◌∙◌, inl, inr, arith}
use mathlib.Core.Option.{some}
use lib.ListN.{get_elem?}
use Rattle.atomic_table.specs.Table.{Me}
use Rattle.plain_table.specs.declared.events.Act.TheVariants as act
use Rattle.plain_table.specs.declared.events.Event.{Event}
use Rattle.plain_table.specs.declared.events.Field.TheVariants as field
use Rattle.plain_table.specs.declared.events.Space.TheVariants.{External}
use Rattle.plain_table.specs.declared.reports.Reply.TheVariants as reply
use Rattle.plain_table.specs.Cycle.{Cycle, start_in, evacuated_in}
use Rattle.plain_table.specs.Finish.{id_at}
use Rattle.plain_table.specs.History.{IsLegal, next}
use Rattle.plain_table.specs.Index.{index_of}
use Rattle.plain_table.specs.Places.{object_of}
use Rattle.plain_table.specs.Rows.{IsPlaced}
use Rattle.plain_table.specs.Shows.{Shows}
use Rattle.plain_table.specs.Table.{Table, Sizes, limit_in}
use Rattle.plain_table.specs.Words.{entry_place, evacuation_word}
use Rattle.plain_table.proofs.Options.{IsSomeAnd-by, IsSome-none, is_some-option_map}
use Rattle.plain_table.proofs.PlaceReads.{put_at-same}
use Rattle.word_laws.proofs.CellWords.{EvacuationWordsFollow-row}
use Rattle.entry_base.specs.declared.view.Fact.TheVariants as fact
use Rattle.entry_base.specs.declared.view.Opening.{Opening}
use Rattle.entry_base.specs.declared.view.View.{View}
use Rattle.entry_base.specs.Callers.{IsCaller, event_of}
use Rattle.entry_base.specs.Lists.{Has, count_in}
use Rattle.entry_base.specs.Openings.{sizes_in, start_of}
use Rattle.entry_base.specs.Owns.{claim_of, without_claim}
use Rattle.entry_base.specs.Rule.{Kept}
use Rattle.entry_base.proofs.Changes.{EntryChanges, kept_entry}
use Rattle.entry_base.proofs.OwnsStay.{claims_left}
use Rattle.entry_base.proofs.Steps.{Given, Keeps, keeps_by}
use Rattle.entry_base.proofs.Sums.{each_has}
use Rattle.entry_rule.specs.Entries.{Evacuated}
use Rattle.entry_base.proofs.HandTells.{hand_old}

-- a field that has got an evacuation entry is placed
placed_in : (s : Table) (cycle : Option Cycle) (P : Cycle → Type 0) (i number word : ℕ) → IsSomeAnd cycle P
    → IsSomeAnd (evacuated_in cycle i number) (λ d. (n : ℕ) → s.bound (field.External number) ≡ Some n → s.words (field.External number) ≡ word → IsPlaced d (field.External number) (index_of word))
placed_in s None P i number word h = absurd h
placed_in s (Some c) P i number word h = λ n bound holds. inr (put_at-same c.visited number true)

module _ (key : Opening) (words : List ℕ) (views : List View) (id : ℕ) (v : View) (i number word start : ℕ) (k : Kept key words views) (at : get_elem? views id ≡ some v)
    (caller : IsCaller key v) (took : Has v.owed (claim_of v External i)) (area : start_of v.opening ≡ Some start) (before : i < start)
    (hand : 1 ≤ count_in (object_of (field.External number)) v.hands) (inside : i < limit_in (sizes_in v.opening) External) where
  abbrev z : Sizes
  z = sizes_in key

  abbrev e : Event
  e = event_of v (act.Evac i number) reply.Ok

  abbrev moved : View
  moved = record v { seen = k.log ++ e ∷ []; owed = without_claim v.number External i v.owed; facts = fact.Placed (field.External number) word ∷ v.facts }

  step : (s : Table) → Given key k.log k.shown words v s → EntryChanges z k.log e k.shown words External i (evacuation_word number) moved (fact.Placed (field.External number) word ∷ []) s
  step s g =
      let owed : IsTrue (s.owed v.number External i) = (each_has _ v.owed (claim_of v External i) g.owns.owed took).1 in
      let old = hand_old key words views id v k at (object_of (field.External number)) caller hand s g in
      let is : IsLegal s e = ((owed, IsSomeAnd-by (start_in s.cycle) start (λ first. i < first) (g.start ∙ (ap start_of (sym caller.opened) ∙ area)) before, old), refl) in
      let claim = g.sound.used.claims v.number External i owed in
      record {
        legal = is;
        shows = subst (λ (x : Sizes). Shows (set k.shown (entry_place x External i) (evacuation_word number)) (next s e)) g.sizes
            (EvacuationWordsFollow-row k.shown s e i number g.sound.used g.shows is refl);
        used = claim.0;
        -- no cell stood there
        marked = λ stood. absurd (IsSome-none (id_at s External i) claim.2 (is_some-option_map _ (s.cells External i) ∙ stood));
        owns = record {
          variables = g.owns.variables;
          pending = g.owns.pending;
          owed = claims_left _ s.owed v.number External i v.owed g.owns.owed;
          fresh = g.owns.fresh;
        };
        tells = ((placed_in s s.cycle _ i number word old, tt), tt);
      }

  pub kept_evacuation : Kept key (set words (entry_place z External i) (evacuation_word number)) (set views id moved) × Evacuated v i number word moved
  kept_evacuation =
      let done = kept_entry key words views id v moved k at (fact.Placed (field.External number) word ∷ []) e refl caller.own tt (λ q. refl) refl refl refl refl refl
      External i (evacuation_word number) (subst (λ o. i < limit_in (sizes_in o) External) caller.opened inside) (λ none. omega (arith, none)) (λ o m var link. cc) step in (
        done.0,
        record {
          same = record { opening = refl; number = refl; numbers = refl; cut = refl; knows = λ f has. inr has };
          rest = (refl, refl, refl, refl);
          owed = refl;
          extends = done.1 caller.opened;
          knows = inl refl;
        },
      )

pub evacuates : (key : Opening) (slots id : ℕ) (me : Me (Unit {0}) View) (i number word start : ℕ) → IsCaller key me.0 → Has me.0.owed (claim_of me.0 External i) → start_of me.0.opening ≡ Some start → i < start → 1 ≤ count_in (object_of (field.External number)) me.0.hands → i < limit_in (sizes_in me.0.opening) External → Keeps key slots id me (entry_place (sizes_in key) External i) (λ x. evacuation_word number) (λ found w. Evacuated me.0 i number word w)
evacuates key slots id me i number word start caller took area before hand inside = keeps_by key slots id me (entry_place (sizes_in key) External i) (λ x. evacuation_word number) (λ found w. Evacuated me.0 i number word w) (λ words views k at.
    let done = kept_evacuation key words views id me.0 i number word start k at caller took area before hand inside in
    (_, done.0, done.1))
