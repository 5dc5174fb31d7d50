-- What every kind of step shares: one view is changed, and the words of one entry.
use Rattle.std.proofs.Common.{◌≡◌, ◌≢◌, ℕ, ◌+◌, ◌%◌, ◌<◌, ◌==◌, Bool, true, false, if◌then◌else◌, List, length, get_or, set, refl, sym, ap, subst, ⊎_elim, arith}
use Rattle.std.proofs.lemmas.Bool.Decides.{nat_tests}
use Rattle.std.proofs.lemmas.List.{set-get_or}
use mathlib.Core.Option.{some}
use lib.ListN.{get_elem?}
use Rattle.atomic_table.specs.Table.{Allows, Me, keeps}
use Rattle.atomic_table.proofs.Lists.{at_set}
use Rattle.code_steps.specs.declared.view.View.{View}
use Rattle.code_steps.specs.declared.view.Store.{Store}
use Rattle.code_steps.specs.Lists.{Pair, total, list_at, all_stores}
use Rattle.code_steps.specs.Views.{spent}
use Rattle.code_steps.specs.Rule.{sequence_word, holds_at, Shows, Knows, Kept, Ruled}
use Rattle.code_steps.proofs.Totals.{total_set, both_among}
use Rattle.code_steps.proofs.Prefixes.{at_each}
use Rattle.code_steps.proofs.Frame.{SameWords, Changes, shows_same, frame}

-- what holds of each view holds after one is set
pub views_set : (P : ℕ → View → Type 0) (views : List View) (id : ℕ) (w : View)
    → ((j : ℕ) (u : View) → j ≢ id → get_elem? views j ≡ some u → P j u) → P id w → (j : ℕ) (u : View) → get_elem? (set views id w) j ≡ some u → P j u
views_set P views id w others mine j u at =
    ⊎_elim
    (λ (t : (j ≡ id) × (w ≡ u)). subst (λ (p : ℕ × View). P p.0 p.1) (λ i. (sym t.0 i, t.1 i)) mine)
    (λ (t : (j ≢ id) × (get_elem? views j ≡ some u)). others j u t.0 t.1)
    (at_set views id j w u at)

pub allows : (slots id : ℕ) (me : Me (Unit {0}) View) (i : ℕ) (f : ℕ → ℕ) (tells : ℕ → Me (Unit {0}) View → Type 0)
    → ((words : List ℕ) (views : List View) → Kept words views → get_elem? views id ≡ some me.0 → (w : View) × Kept (set words i (f (get_or words i 0))) (set views id w) × tells (get_or words i 0) (w, me.1))
    → Allows {S = Unit {0}} {V = View} Ruled slots id me i f tells
allows slots id me i f tells step s k homes at fits = let r = step s.words s.views k at in (r.0, keeps, tt, r.1, r.2)

-- a load changes no word
pub loads : (words : List ℕ) (views : List View) (i : ℕ) → Kept words views → Kept (set words i (get_or words i 0)) views
loads words views i k = subst (λ ws. Kept ws views) (sym (set-get_or words i 0)) k

-- who holds, and who does not
pub holds_here : (v : View) (i : ℕ) → v.holds ≡ true → v.at ≡ i → holds_at i v ≡ 1
holds_here v i holds at = let t : (v.at == i) ≡ true = grind (arith, nat_tests) in (λ j. if holds j then (if t j then 1 else 0) else 0)

pub holds_free : (v : View) (i : ℕ) → v.holds ≡ false → holds_at i v ≡ 0
holds_free v i free = ap (λ (b : Bool). if b then (if v.at == i then 1 else 0) else 0) free

pub holds_else : (v : View) (i : ℕ) → v.at ≢ i → holds_at i v ≡ 0
holds_else v i ne = let t : (v.at == i) ≡ false = grind (arith, nat_tests) in go v.holds t
  where
    go : (b : Bool) → (v.at == i) ≡ false → holds_at i record v { holds = b } ≡ 0
    go true t = ap (λ (b : Bool). if b then 1 else 0) t
    go false t = refl

module _ (words now : List ℕ) (views : List View) (id : ℕ) (v w : View) (longer : List (List Pair)) (i : ℕ) (k : Kept words views) (at : get_elem? views id ≡ some v) where
  -- the holders of an entry after the step
  pub holders_now : (j : ℕ) → total (holds_at j) (set views id w) + holds_at j v ≡ total (holds_at j) views + holds_at j w
  holders_now j = total_set (holds_at j) views id v w at

  -- a step of one seat at entry i
  pub steps : 0 < v.parts → Changes k.lists longer words now i → length now ≡ length words → w.parts ≡ v.parts
      → ((j : ℕ) → j ≢ i → holds_at j w ≡ holds_at j v)
      → (i < length k.lists → Shows k.start (list_at longer i) now i (total (holds_at i) (set views id w)))
      → ((j : ℕ) → j ≢ i → list_at longer j ≡ list_at k.lists j)
      → ((h : Store → ℕ) → total h w.own + total h (all_stores 0 k.start k.lists) ≡ total h v.own + total h (all_stores 0 k.start longer))
      → ((j : ℕ) (u : View) → j ≢ id → get_elem? views j ≡ some u → u.holds ≡ true → u.at ≢ i)
      → Knows k.start longer now w
      → Kept now (set views id w)
  steps alive change size parts holds here others stores free mine = record {
    start = k.start;
    lists = longer;
    even = k.even;
    size = let a = k.size in let b = change.count in omega arith;
    shows = shows;
    parts = let a = total_set (λ (u : View). u.parts) views id v w at in let b = k.parts in omega arith;
    stores = λ h. let a = total_set (λ (u : View). total h u.own) views id v w at in let b = k.stores h in let c = stores h in omega arith;
    idle = views_set (λ j u. u.parts ≡ 0 → u ≡ spent) views id w (λ j u ne e. k.idle j u e) (λ none. absurd (omega arith));
    knows = views_set (λ j u. 0 < u.parts → Knows k.start longer now u) views id w (λ j u ne e some_part. frame k.start k.lists longer words now i u change (λ held. free j u ne e held) (k.knows j u e some_part)) (λ _. mine);
  }
    where
      shows : (j : ℕ) → j < length longer → Shows k.start (list_at longer j) now j (total (holds_at j) (set views id w))
      shows j low = at_each (λ n. n < length longer → Shows k.start (list_at longer n) now n (total (holds_at n) (set views id w))) i (λ l. here (let a = change.count in omega arith)) elsewhere j low
        where
          elsewhere : (n : ℕ) → n ≢ i → n < length longer → Shows k.start (list_at longer n) now n (total (holds_at n) (set views id w))
          elsewhere n ne l =
              let a = holders_now n in
              let b = holds n ne in
              shows_same k.start (list_at longer n) words now n (total (holds_at n) views) (total (holds_at n) (set views id w)) (change.elsewhere n ne) (omega arith)
              (subst (λ l. Shows k.start l words n (total (holds_at n) views)) (sym (others n ne)) (k.shows n (let c = change.count in omega arith)))

  -- where a seat holds the entry, no other does
  pub alone_there : holds_at i v ≡ 1 → i < length k.lists → (j : ℕ) (u : View) → j ≢ id → get_elem? views j ≡ some u → u.holds ≡ true → u.at ≢ i
  alone_there one low j u ne there held same =
      let a = both_among (holds_at i) views id j v u (λ e. ne (sym e)) at there in
      let b = holds_here u i held same in
      let c = (k.shows i low).one in
      absurd (omega arith)

  -- where the sequence is even, no seat holds the entry
  pub none_there : sequence_word words i % 2 ≡ 0 → i < length k.lists → total (holds_at i) views ≡ 0
  none_there even low =
      let s = k.shows i low in
      let a = s.ends.place in
      let b = s.word in
      let c = s.one in
      let d = k.even in
      omega arith

pub same_words : (words : List ℕ) (i : ℕ) → SameWords words words i
same_words words i = record { sequence = refl; code = refl; entry = refl }

-- a step of a seat that holds nothing, which changes no word and stores nothing
pub quiet : (words : List ℕ) (views : List View) (id : ℕ) (v w : View) (k : Kept words views) → get_elem? views id ≡ some v → 0 < v.parts → w.parts ≡ v.parts → v.holds ≡ false → w.holds ≡ false → w.own ≡ v.own
    → Knows k.start k.lists words w → Kept words (set views id w)
quiet words views id v w k at alive parts free free_now own mine = record {
  start = k.start;
  lists = k.lists;
  even = k.even;
  size = k.size;
  shows = λ j low. let a = total_set (holds_at j) views id v w at in let b = holds_free v j free in let c = holds_free w j free_now in
      shows_same k.start (list_at k.lists j) words words j (total (holds_at j) views) (total (holds_at j) (set views id w)) (same_words words j) (omega arith) (k.shows j low);
  parts = let a = total_set (λ (u : View). u.parts) views id v w at in let b = k.parts in omega arith;
  stores = λ h. let a = total_set (λ (u : View). total h u.own) views id v w at in let b = k.stores h in let c : total h w.own ≡ total h v.own = ap (total h) own in omega arith;
  idle = views_set (λ j u. u.parts ≡ 0 → u ≡ spent) views id w (λ j u ne e. k.idle j u e) (λ none. absurd (omega arith));
  knows = views_set (λ j u. 0 < u.parts → Knows k.start k.lists words u) views id w (λ j u ne e some_part. k.knows j u e some_part) (λ _. mine);
}
