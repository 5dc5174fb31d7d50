-- What a seat with all parts has seen, and what a view learns.
use Rattle.std.proofs.Common.{◌≡◌, ℕ, ◌<◌, false, List, [], ◌∷◌, ◌++◌, length, set, refl, sym, ap, ◌∙◌, arith, ext_get_or}
use mathlib.Core.Option.{none, some}
use lib.ListN.{get_elem?}
use Rattle.atomic_table.specs.Table.{Allows, Me, step}
use Rattle.code_steps.specs.declared.view.View.{View}
use Rattle.code_steps.specs.declared.view.Store.{Store}
use Rattle.code_steps.specs.Lists.{Pair, total, list_at, all_stores, EndsWith, IsSeenStore}
use Rattle.code_steps.specs.Views.{spent, IsWhole, OwnsSeen}
use Rattle.code_steps.specs.Seats.{ShowLast}
use Rattle.code_steps.specs.Rule.{sequence_word, code_word, entry_word, holds_at, Knows, Kept, Ruled}
use Rattle.code_steps.specs.Steps.{learned}
use Rattle.code_steps.proofs.Totals.{alone}
use Rattle.code_steps.proofs.Prefixes.{each_map, starts_read}
use Rattle.code_steps.proofs.Weights.{seen_whole}
use Rattle.code_steps.proofs.Steps.{allows, loads, quiet, holds_free}

module _ (words : List ℕ) (views : List View) (id : ℕ) (v : View) (k : Kept words views) (at : get_elem? views id ≡ some v) (all : v.parts ≡ 16) (free : v.holds ≡ false) where
  kn : Knows k.start k.lists words v
  kn = k.knows id v at (omega arith)

  -- the other views weigh nothing
  only : (f : View → ℕ) → f spent ≡ 0 → total f views ≡ f v
  only f nothing = alone (λ u. u.parts) f views id v at (k.parts ∙ sym all) (λ j u there no_part. ap f (k.idle j u there no_part) ∙ nothing)

  own_all : (h : Store → ℕ) → total h v.own ≡ total h (all_stores 0 k.start k.lists)
  own_all h = sym (only (λ u. total h u.own) refl) ∙ k.stores h

  each_list : (i : ℕ) → i < length k.lists → list_at k.lists i ≡ list_at v.seen i
  each_list i low = seen_whole k.start k.lists v.seen v.own own_all kn.own i low (kn.some i low) (kn.seen i)

  lists_seen : k.lists ≡ v.seen
  lists_seen = ext_get_or [] k.lists v.seen (sym kn.sizes.0) each_list

  nobody : (i : ℕ) → total (holds_at i) views ≡ 0
  nobody i = only (holds_at i) refl ∙ holds_free v i free

  stores : (weight : Store → ℕ) → total weight v.own ≡ total weight (all_stores 0 v.start v.seen)
  stores h = own_all h ∙ (λ j. total h (all_stores 0 (sym kn.begins j) (lists_seen j)))

  last : (i : ℕ) → i < length v.seen → EndsWith v.start (list_at v.seen i) (sequence_word words i) (code_word words i, entry_word words i)
  last i low =
      let s = k.shows i (let a = kn.sizes.0 in omega arith) in
      let none_holds = nobody i in
      let pair = s.pair none_holds in record {
        before = s.ends.before;
        is = sym (each_list i (let a = kn.sizes.0 in omega arith)) ∙ (s.ends.is ∙ (λ j. s.ends.before ++ (sym pair.0 j, sym pair.1 j) ∷ []));
        place = let a = s.word in let b = s.ends.place in let c = kn.begins in omega arith;
      }

  pub is_whole : IsWhole v
  is_whole = record { stores = stores; ends = λ i low. ((code_word words i, entry_word words i), sequence_word words i, last i low, kn.shown i) }

  pub shows_last : ShowLast words v
  shows_last = record { size = let a = k.size in let b = kn.sizes.0 in omega arith; last = last }

owns_seen : (opening : ℕ) (lists : List (List Pair)) (words : List ℕ) (v : View) → Knows opening lists words v → OwnsSeen v
owns_seen opening lists words v k = each_map (IsSeenStore opening lists v.seen) (IsSeenStore v.start v.seen v.seen) v.own (λ x s. record {
  place = s.place;
  seq = let a = s.seq in let b = k.begins in omega arith;
  past = s.past;
  within = s.within;
  pair = sym (starts_read (list_at lists x.at) (list_at v.seen x.at) s.place (0, 0) (k.seen x.at) s.within) ∙ s.pair;
}) k.own

-- a load that tells what holds of the view
pub learns : (slots id : ℕ) (me : Me (Unit {0}) View) (i : ℕ) → 0 < me.0.parts → me.0.holds ≡ false
    → Allows {S = Unit {0}} {V = View} Ruled slots id me i (λ n. n) (learned (step slots i 0 0 none) me)
learns slots id me i alive free = allows slots id me i (λ n. n) (learned (step slots i 0 0 none) me) (λ words views k at.
    let v = me.0 in
    let kn = k.knows id v at alive in
    (v, loads words (set views id v) i (quiet words views id v v k at alive refl free free refl kn), (refl, record { own = owns_seen k.start k.lists words v kn; common = kn.common; whole = λ all. is_whole words views id v k at all free }, refl)))
