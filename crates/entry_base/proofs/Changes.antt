-- A step with an event that changes one word: an entry of a used index, or a word before the entries that is no header and
-- no freelist word. What is left to show for a kind is said of one sound table, in `EntryChanges` and `LowChanges`.
use Rattle.std.proofs.Common.{◌≡◌, ◌≢◌, ◌⊎◌, ℕ, ◌+◌, ◌*◌, ◌<◌, List, [], ◌∷◌, ◌++◌, set, length, get_or-set_other, Option, IsTrue, IsSome, IfSome, ap, subst, ◌∙◌, inl, inr, arith}
use mathlib.Core.Option.{some}
use lib.ListN.{get_elem?}
use Rattle.plain_table.specs.declared.events.Act.TheVariants.{Link}
use Rattle.plain_table.specs.declared.events.Event.{Event}
use Rattle.plain_table.specs.declared.events.Space.{Space}
use Rattle.plain_table.specs.declared.events.Spot.TheVariants.{Ref}
use Rattle.plain_table.specs.History.{IsLegal, next}
use Rattle.plain_table.specs.Shows.{Shows}
use Rattle.plain_table.specs.Table.{Table, Sizes, limit_in}
use Rattle.plain_table.specs.Words.{entry_place, freelist_place, header_place, no_access_word, words_in_all}
use Rattle.plain_table.proofs.SpacesShown.{cell-below}
use Rattle.plain_table.proofs.WordPlaces.{entry_place-below, entry_place-from}
use Rattle.table_laws.specs.Steady.{IsDuringPhase}
use Rattle.table_laws.proofs.Steadiness.{events-steady}
use Rattle.word_laws.specs.CoverLaws.{HasSameReferences, IsClear}
use Rattle.word_laws.proofs.NearWords.{IsNear-set}
use Rattle.entry_base.specs.declared.view.Fact.{Fact}
use Rattle.entry_base.specs.declared.view.Opening.{Opening}
use Rattle.entry_base.specs.declared.view.View.{View}
use Rattle.entry_base.specs.Callers.{Extends}
use Rattle.entry_base.specs.Facts.{IsKnown}
use Rattle.entry_base.specs.Hands.{grey}
use Rattle.entry_base.specs.Lists.{Each, count_in}
use Rattle.entry_base.specs.Numbers.{HasNumber}
use Rattle.entry_base.specs.Openings.{sizes_in}
use Rattle.entry_base.specs.Owns.{Owns}
use Rattle.entry_base.specs.Ranks.{takes_of}
use Rattle.entry_base.specs.Rule.{Kept}
use Rattle.entry_base.proofs.Classes.{covered_event, entry_steady, linked_entry, linked_low, low_steady, references_same}
use Rattle.entry_base.proofs.Greys.{grey_low}
use Rattle.entry_base.proofs.Steps.{Given, Adds, adds, given, takes_same}

-- what is left to show of a change of the entry at an index, whose word becomes n
pub record EntryChanges (z : Sizes) (log : List Event) (e : Event) (shown words : List ℕ) (p : Space) (i n : ℕ) (w : View) (more : List Fact) (s : Table) : Type 0 where
  pub legal : IsLegal s e
  pub shows : Shows (set shown (entry_place z p i) n) (next s e)
  pub used : IsTrue ((next s e).used p i)
  -- a cell that stood there is marked
  pub marked : IsSome (s.cells p i) → IfSome (next s e).cycle (λ d. IsTrue (d.marks p i))
  pub owns : Owns (next s e) w
  pub tells : Each (IsKnown z (log ++ e ∷ []) (next s e) (set shown (entry_place z p i) n) (set words (entry_place z p i) n)) more

-- and of a change of a word before the entries
pub record LowChanges (z : Sizes) (log : List Event) (e : Event) (shown words : List ℕ) (place n : ℕ) (w : View) (more : List Fact) (s : Table) : Type 0 where
  pub legal : IsLegal s e
  pub shows : Shows (set shown place n) (next s e)
  -- a reference that changes comes to hold nothing or a shaded object
  pub refs : (o k : ℕ) → IfSome (next s e).cycle (λ d. ((next s e).refs o k ≡ s.refs o k) ⊎ IsClear (set shown place n) ((next s e).refs o k))
  pub owns : Owns (next s e) w
  pub tells : Each (IsKnown z (log ++ e ∷ []) (next s e) (set shown place n) (set words place n)) more

module _ (key : Opening) (words : List ℕ) (views : List View) (id : ℕ) (v w : View) (k : Kept key words views) (at : get_elem? views id ≡ some v)
    (more : List Fact) (e : Event) (by : e.by ≡ v.number) (own : HasNumber v v.number) (during : IsDuringPhase e.act)
    (takes : (p : Space) → takes_of p e.act e.said ≡ 0) (seen : w.seen ≡ k.log ++ e ∷ []) (numbers : w.numbers ≡ v.numbers)
    (cut : w.cut ≡ v.cut) (facts : w.facts ≡ more ++ v.facts) (hands : w.hands ≡ v.hands) where
  abbrev z : Sizes
  z = sizes_in key

  wide : length k.shown ≡ words_in_all z
  wide = let first = given key words views id v k at k.base k.is_base in first.shows.whole ∙ ap words_in_all first.sizes

  same_hands : (later : List ℕ) → ((o : ℕ) → grey z later o ≡ grey z k.shown o) → (o : ℕ) → count_in o w.hands + grey z k.shown o ≡ count_in o v.hands + grey z later o
  same_hands later same o = let a = same o in let b : count_in o w.hands ≡ count_in o v.hands = ap (count_in o) hands in omega arith

  module _ (p : Space) (i n : ℕ) (below : i < limit_in z p) (usable : n ≢ no_access_word) (unlinked : (o m : ℕ) (var : Option ℕ) → e.act ≢ Link (Ref o m) var)
      (step : (s : Table) → Given key k.log k.shown words v s → EntryChanges z k.log e k.shown words p i n w more s) where
    abbrev place : ℕ
    place = entry_place z p i

    apart : (o : ℕ) → o < z.objects → header_place o ≢ place
    apart o made same = let f = entry_place-from z p i in omega (arith, made, same, f)

    add : (s : Table) → Given key k.log k.shown words v s → Adds z k.log e k.shown (set k.shown place n) (set words place n) w more s
    add s g =
        let h = step s g in
        let steady = events-steady s e g.sound h.legal during in
        let same : HasSameReferences s (next s e) = λ o m. elim (steady.references o m) [ inl t ↦ t | inr t ↦ absurd (unlinked o m t.0 t.1) ] in
        record {
          legal = h.legal;
          shows = h.shows;
          covered = covered_event s e k.shown (set k.shown place n) g.sound during
              (λ o made. get_or-set_other k.shown place (header_place o) n 0 (apart o (subst (λ (x : Sizes). o < x.objects) g.sizes made)))
              (λ o m low. references_same s (next s e) (set k.shown place n) same o m) g.covered;
          steady = entry_steady z k.log (k.log ++ e ∷ []) s (next s e) k.shown p i n below h.used h.marked
              (λ q j some. subst (λ (x : Sizes). j < limit_in x q) g.sizes (cell-below s q j g.sound some)) same (λ q. takes_same q k.log e (takes q));
          owns = h.owns;
          tells = h.tells;
        }

    pub kept_entry : Kept key (set words place n) (set views id w) × (v.opening ≡ key → Extends v e w)
    kept_entry = adds key words (set words place n) views id v w k at (set k.shown place n) more numbers cut facts
        (IsNear-set z words k.shown place n k.near)
        (linked_entry z words place n (let a = entry_place-below z p i below in let b = wide in let c = k.near.whole in omega arith) usable)
        (same_hands (set k.shown place n) (grey_low z k.shown place n (λ o made. apart o made)))
        e by own during seen add

  module _ (place n : ℕ) (low : place < 32 + 8 * z.objects) (no_header : (o : ℕ) → header_place o ≢ place) (no_list : (p : Space) → freelist_place p ≢ place)
      (step : (s : Table) → Given key k.log k.shown words v s → LowChanges z k.log e k.shown words place n w more s) where
    add_low : (s : Table) → Given key k.log k.shown words v s → Adds z k.log e k.shown (set k.shown place n) (set words place n) w more s
    add_low s g =
        let h = step s g in record {
          legal = h.legal;
          shows = h.shows;
          covered = covered_event s e k.shown (set k.shown place n) g.sound during
              (λ o made. get_or-set_other k.shown place (header_place o) n 0 (no_header o)) (λ o m below. h.refs o m) g.covered;
          steady = low_steady z k.log (k.log ++ e ∷ []) s (next s e) k.shown place n low no_header no_list (λ o m below. h.refs o m) (λ q. takes_same q k.log e (takes q));
          owns = h.owns;
          tells = h.tells;
        }

    pub kept_low : Kept key (set words place n) (set views id w) × (v.opening ≡ key → Extends v e w)
    kept_low = adds key words (set words place n) views id v w k at (set k.shown place n) more numbers cut facts
        (IsNear-set z words k.shown place n k.near) (linked_low z words place n low)
        (same_hands (set k.shown place n) (grey_low z k.shown place n (λ o made. no_header o)))
        e by own during seen add_low
