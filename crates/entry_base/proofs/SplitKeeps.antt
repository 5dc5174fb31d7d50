-- A split and a cut keep the rule.
use Rattle.std.proofs.Common.{◌≡◌, ◌≢◌, ℕ, ◌+◌, ◌≤◌, ◌==◌, if◌then◌else◌, Bool, true, false, List, [], ◌∷◌, ◌++◌, set, refl, sym, ap, subst, ◌∙◌, ⊎_elim, arith}
use Rattle.std.proofs.lemmas.Bool.Decides.{nat_tests}
use mathlib.Core.Option.{some}
use lib.ListN.{get_elem?}
use Rattle.atomic_table.specs.Table.{Splits}
use Rattle.atomic_table.proofs.Lists.{at_snoc}
use Rattle.plain_table.specs.Table.{Table}
use Rattle.entry_base.specs.declared.view.Opening.{Opening}
use Rattle.entry_base.specs.declared.view.View.{View}
use Rattle.entry_base.specs.declared.view.Claim.{Claim}
use Rattle.entry_base.specs.Lists.{Each, total, count_in, without_one, AreIn, without_all}
use Rattle.entry_base.specs.Hands.{cut_off, loose}
use Rattle.entry_base.specs.Numbers.{HasNumber, Stands}
use Rattle.entry_base.specs.Owns.{Owns}
use Rattle.entry_base.specs.Rule.{Kept, Ruled}
use Rattle.entry_base.specs.Views.{claims_but, giver, newcomer, cutter, chunk_view}
use Rattle.entry_base.proofs.CutsStay.{chunk_cuts, cuts_part, split_cuts}
use Rattle.entry_base.proofs.Sums.{total_set, total_append, views_set, each_map, count_self, count_without}

pub count_all : (ns ms : List ℕ) → AreIn ns ms → (m : ℕ) → count_in m (without_all ns ms) + count_in m ns ≡ count_in m ms
count_all [] ms h m = omega arith
count_all (n ∷ ns) ms h m =
    let one : 1 ≤ count_in n ms = some_in (h n) in
    let a = count_without n ms m one in
    let r = count_all ns (without_one n ms) (λ x. let b = count_without n ms x one in let c = h x in omega arith) m in
    omega arith
  where
    some_in : count_in n (n ∷ ns) ≤ count_in n ms → 1 ≤ count_in n ms
    some_in le = let t : (n == n) ≡ true = grind (arith, nat_tests) in let e : count_in n (n ∷ ns) ≡ 1 + count_in n ns = ap (λ (b : Bool). (if b then 1 else 0) + count_in n ns) t in omega arith

-- another number stays
other_left : (n m : ℕ) (ms : List ℕ) → n ≢ m → 1 ≤ count_in m ms → 1 ≤ count_in m (without_one n ms)
other_left n m [] ne le = le
other_left n m (x ∷ xs) ne le = go (n == x) refl (other_left n m xs ne)
  where
    go : (b : Bool) → (n == x) ≡ b → (1 ≤ count_in m xs → 1 ≤ count_in m (without_one n xs)) → 1 ≤ count_in m (if b then xs else x ∷ without_one n xs)
    go true e rest = let f : (m == x) ≡ false = grind (arith, nat_tests) in let z : count_in m (x ∷ xs) ≡ 0 + count_in m xs = ap (λ (b : Bool). (if b then 1 else 0) + count_in m xs) f in omega arith
    go false e rest = first (m == x) le
      where
        first : (b : Bool) → 1 ≤ (if b then 1 else 0) + count_in m xs → 1 ≤ (if b then 1 else 0) + count_in m (without_one n xs)
        first true l = omega arith
        first false l = let r = rest (omega arith) in omega arith

claims_given : (v : View) (P : Claim → Type 0) (n : ℕ) (ts : List Claim) → Each (λ t. HasNumber v t.number × P t) ts → Each (λ t. (1 ≤ count_in t.number (without_one n v.numbers)) × P t) (claims_but n ts)
claims_given v P n [] h = tt
claims_given v P n (t ∷ ts) h = go (n == t.number) refl (claims_given v P n ts h.1)
  where
    go : (b : Bool) → (n == t.number) ≡ b → Each (λ t. (1 ≤ count_in t.number (without_one n v.numbers)) × P t) (claims_but n ts)
        → Each (λ t. (1 ≤ count_in t.number (without_one n v.numbers)) × P t) (if b then claims_but n ts else t ∷ claims_but n ts)
    go true e rest = rest
    go false e rest = ((other_left n t.number v.numbers (grind (arith, nat_tests)) h.0.0, h.0.1), rest)

-- what holds of each view of a list with one changed and one more
pub views_cut : (P : View → Type 0) (views : List View) (id : ℕ) (left right : View) → ((j : ℕ) (u : View) → get_elem? views j ≡ some u → P u) → P left → P right
    → (j : ℕ) (u : View) → get_elem? (set views id left ++ right ∷ []) j ≡ some u → P u
views_cut P views id left right all l r j u at =
    ⊎_elim
    (λ (t : get_elem? (set views id left) j ≡ some u). views_set (λ i x. P x) views id left (λ i x ne there. all i x there) l j u t)
    (λ (e : right ≡ u). subst P e r)
    (at_snoc (set views id left) right u j at)

-- a part of a view, with the numbers `left` and `right` of it
module _ (key : Opening) (words : List ℕ) (views : List View) (id : ℕ) (v left right : View) (k : Kept key words views) (at : get_elem? views id ≡ some v)
    (numbers : (n : ℕ) → count_in n left.numbers + count_in n right.numbers ≡ count_in n v.numbers)
    (hands : (o : ℕ) → count_in o left.hands + count_in o right.hands ≡ count_in o v.hands)
    (cuts : (o : ℕ) → loose o left + loose o right + cut_off o v ≤ loose o v + cut_off o left + cut_off o right)
    (seen : (left.seen ≡ v.seen) × (right.seen ≡ v.seen)) (facts : (left.facts ≡ v.facts) × (right.facts ≡ v.facts))
    (owns : (s : Table) → Owns s v → Owns s left × Owns s right) where
  sum_cut : (f : View → ℕ) → f left + f right ≡ f v → total f (set views id left ++ right ∷ []) ≡ total f views
  sum_cut f same = let a = total_append f (set views id left) (right ∷ []) in let b = total_set f views id v left at in omega arith

  quiet_part : (w : View) → ((n : ℕ) → count_in n w.numbers ≤ count_in n v.numbers) → w.seen ≡ v.seen → Stands k.log w
  quiet_part w less same_seen = let st = k.numbers.stands id v at in record {
    rest = st.rest;
    seen = st.seen ∙ ap (λ l. l ++ st.rest) (sym same_seen);
    quiet = each_map _ _ st.rest (λ e none_there. let l = less e.by in omega arith) st.quiet;
  }

  pub kept_cut : Kept key words (set views id left ++ right ∷ [])
  kept_cut = record {
    log = k.log;
    shown = k.shown;
    base = k.base;
    is_base = k.is_base;
    few = k.few;
    near = k.near;
    numbers = record {
      one = λ n le. sum_cut (λ x. count_in n x.numbers) (numbers n) ∙ k.numbers.one n le;
      none = λ n lt. sum_cut (λ x. count_in n x.numbers) (numbers n) ∙ k.numbers.none n lt;
      events = k.numbers.events;
      stands = views_cut (Stands k.log) views id left right k.numbers.stands
          (quiet_part left (λ n. let a = numbers n in omega arith) seen.0) (quiet_part right (λ n. let a = numbers n in omega arith) seen.1);
    };
    hands = λ o. sum_cut (λ x. count_in o x.hands) (hands o) ∙ k.hands o;
    cuts = cuts_part views id v left right at k.cuts cuts;
    states = λ b base.
        let st = (k.states b base).state in record {
          follows = (k.states b base).follows;
          state = record {
            sizes = st.sizes;
            phase = st.phase;
            start = st.start;
            sound = st.sound;
            shows = st.shows;
            covered = st.covered;
            owns = views_cut (λ u. Owns _ u) views id left right st.owns (owns _ (st.owns id v at)).0 (owns _ (st.owns id v at)).1;
            known = views_cut (λ u. Each _ u.facts) views id left right st.known
                (subst (Each _) (sym facts.0) (st.known id v at)) (subst (Each _) (sym facts.1) (st.known id v at));
          };
        };
  }

pub splits : (key : Opening) (id : ℕ) (v : View) (n : ℕ) (objects : List ℕ) → HasNumber v v.number → HasNumber v n → n ≢ v.number → AreIn objects v.hands → Splits {S = Unit {0}} {V = View} (Ruled key) id v (giver n objects v) (newcomer n objects v)
splits key id v n objects own has ne are s k at = kept_cut key s.words s.views id v (giver n objects v) (newcomer n objects v) k at
    (λ m. count_without n v.numbers m has) (count_all objects v.hands are)
    (λ o. split_cuts o v.number n v (giver n objects v) (newcomer n objects v) (other_left n v.number v.numbers ne own) (let c = count_self n [] in omega arith) refl) (refl, refl) (refl, refl)
    (λ t o. (
      record {
        variables = λ b i hb few low. o.variables b i (less b hb) few low;
        pending = λ b d hb few. o.pending b d (less b hb) few;
        owed = claims_given v (λ c. _) n v.owed o.owed;
        fresh = claims_given v (λ c. _) n v.fresh o.fresh;
      },
      record {
        variables = λ b i hb few low. o.variables b i (mine b hb) few low;
        pending = λ b d hb few. o.pending b d (mine b hb) few;
        owed = tt;
        fresh = tt;
      },
    ))
  where
    less : (b : ℕ) → 1 ≤ count_in b (without_one n v.numbers) → HasNumber v b
    less b h = let a = count_without n v.numbers b has in omega arith

    mine : (b : ℕ) → 1 ≤ count_in b (n ∷ []) → HasNumber v b
    mine b h = let a = count_without n v.numbers b has in omega arith

pub cuts : (key : Opening) (id : ℕ) (v : View) (objects : List ℕ) → HasNumber v v.number → AreIn objects v.hands → Splits {S = Unit {0}} {V = View} (Ruled key) id v (cutter objects v) (chunk_view objects v)
cuts key id v objects own are s k at = kept_cut key s.words s.views id v (cutter objects v) (chunk_view objects v) k at
    (λ m. omega arith) (count_all objects v.hands are)
    (λ o. chunk_cuts o v.number objects v (cutter objects v) (chunk_view objects v) own refl refl refl) (refl, refl) (refl, refl)
    (λ t o. (
      record { variables = o.variables; pending = o.pending; owed = o.owed; fresh = o.fresh },
      record {
        variables = λ b i hb few low. absurd (omega (arith, hb));
        pending = λ b d hb few. absurd (omega (arith, hb));
        owed = tt;
        fresh = tt;
      },
    ))
