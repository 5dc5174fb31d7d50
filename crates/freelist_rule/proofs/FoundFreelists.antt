-- What the freelist word of a space that is found among the present words says of the table after the history, and of the
-- words that the view knew before.
use Rattle.std.proofs.Common.{◌≡◌, ℕ, ◌/◌, ◌%◌, ◌^◌, ◌<◌, List, ◌∷◌, ◌++◌, slice_index, refl, sym, ap, subst, ◌∙◌, inl, inr, arith}
use mathlib.Core.Option.{some}
use lib.ListN.{get_elem?}
use Rattle.plain_table.specs.declared.events.Event.{Event}
use Rattle.plain_table.specs.declared.events.Space.{Space}
use Rattle.plain_table.specs.History.{after}
use Rattle.plain_table.specs.Table.{Table, Sizes, limit_in, limit_of}
use Rattle.plain_table.specs.Words.{entry_place, freelist_place}
use Rattle.plain_table.proofs.FreeReads.{least_free-some}
use Rattle.plain_table.proofs.WordPlaces.{freelist_place-below}
use Rattle.word_laws.specs.WordLaws.{FreelistTells}
use Rattle.word_laws.proofs.FreelistReads.{FreelistsTell-shown}
use Rattle.entry_base.specs.declared.view.Fact.{Fact}
use Rattle.entry_base.specs.declared.view.Fact.TheVariants as fact
use Rattle.entry_base.specs.declared.view.Opening.{Opening}
use Rattle.entry_base.specs.declared.view.View.{View}
use Rattle.entry_base.specs.Lists.{Has}
use Rattle.entry_base.specs.Openings.{sizes_in}
use Rattle.entry_base.specs.Ranks.{takes_in, Rises}
use Rattle.entry_base.specs.Rule.{Kept}
use Rattle.entry_base.proofs.Steps.{Given, given}
use Rattle.entry_base.proofs.Sums.{each_has, has_append}
use Rattle.freelist_rule.specs.Freelists.{IsFreelistIn, FreelistLoaded}

module _ (key : Opening) (words : List ℕ) (views : List View) (id : ℕ) (v : View) (k : Kept key words views) (at : get_elem? views id ≡ some v) (p : Space) where
  abbrev found : ℕ
  found = slice_index words (freelist_place p)

  -- it stands among the words that show the table
  pub found_shown : found ≡ slice_index k.shown (freelist_place p)
  found_shown = k.near.low (freelist_place p) (let low = freelist_place-below p in omega arith)

  module _ (s : Table) (g : Given key k.log k.shown words v s) where
    pub limit_same : limit_of s p ≡ limit_in (sizes_in key) p
    limit_same = ap (λ (z : Sizes). limit_in z p) g.sizes

    pub limit_few : limit_of s p < 2 ^ 32
    limit_few = let few = k.few.few p in omega (arith, few, limit_same)

    pub found_tells : (committed : ℕ) × FreelistTells s p (λ i. slice_index k.shown (entry_place s.sizes p i)) (found % 2 ^ 32) (found / 2 ^ 32) committed
    found_tells =
        let read = FreelistsTell-shown k.shown s p (g.sound.used.first p) g.shows limit_few in (
          read.0,
          subst (λ w. FreelistTells s p (λ i. slice_index k.shown (entry_place s.sizes p i)) (w % 2 ^ 32) (w / 2 ^ 32) read.0) (sym found_shown) read.1,
        )

  -- one of the tables after the history
  pub first : Given key k.log k.shown words v (after k.base k.log)
  first = given key words views id v k at k.base k.is_base

  pub found_freelist : v.opening ≡ key → IsFreelistIn v p found
  found_freelist opened =
      let s = after k.base k.log in
      let tells = (found_tells s first).1 in
      let limit : limit_of s p ≡ limit_in (sizes_in v.opening) p = limit_same s first ∙ ap (λ o. limit_in (sizes_in o) p) (sym opened) in
      let seg : s.sizes.seg ≡ (sizes_in v.opening).seg = ap (λ (z : Sizes). z.seg) first.sizes ∙ ap (λ o. (sizes_in o).seg) (sym opened) in
      let within = tells.within in
      record {
        some = λ left.
            let head = tells.some left in
            ((least_free-some s p (found % 2 ^ 32) head.0).1, omega (arith, head.1, within, limit));
        none = λ empty. let end = tells.end empty in omega (arith, end, within, limit);
        room = λ empty below.
            let end = tells.end empty in
            let room = tells.room (omega (arith, end, below, limit)) in
            omega (arith, room, end, limit, seg);
      }

  -- it has risen from each word that the view knows
  pub found_rises : (word takes : ℕ) → Has v.facts (fact.Freelist p word takes) → Rises word takes found (takes_in p k.log)
  found_rises word takes known =
      subst (λ x. Rises word takes x (takes_in p k.log)) (sym found_shown) (each_has _ v.facts (fact.Freelist p word takes) first.known known).1

  -- the view that knows it, with a history that has taken no more, and knows other facts besides
  abbrev pub loader : List Event → List Fact → View
  loader log more = record v { seen = log; facts = fact.Freelist p found (takes_in p log) ∷ more ++ v.facts }

  pub found_loaded : (log : List Event) (more : List Fact) → takes_in p log ≡ takes_in p k.log → v.opening ≡ key → FreelistLoaded v p found (loader log more)
  found_loaded log more same opened = record {
    same = record { opening = refl; number = refl; numbers = refl; cut = refl; knows = λ x has. inr (has_append more v.facts x has) };
    own = record { vars = refl; pending = refl; owed = refl; fresh = refl };
    hands = refl;
    knows = inl refl;
    rises = λ word takes has. subst (Rises word takes found) (sym same) (found_rises word takes has);
    within = found_freelist opened;
  }
