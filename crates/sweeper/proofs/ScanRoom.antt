-- The scan of an object leaves the number of white objects as its shading did.
use Rattle.std.proofs.Common.{◌≡◌, ◌≢◌, ◌+◌, ◌*◌, ◌<◌, ◌==◌, ℕ, false, List, length, sym, ap, subst, ◌∙◌, inl, inr, arith, ne_eqb, get_or-set_same, get_or-set_other}
use Rattle.std.proofs.lemmas.Bool.Decides.{eqb_tells}
use Rattle.plain_table.specs.Table.{Sizes}
use Rattle.plain_table.proofs.FreeLists.{count_below-same}
use Rattle.sweeper.specs.Marking.{all_visited, object_scanned, IsObjectScanned}
use Rattle.sweeper.specs.Shading.{header_of, is_white, white_in, named_at, Shades}
use Rattle.sweeper.proofs.VisitedWords.{all_visited-low}

module _ (old mid now list listed : List ℕ) (len end : ℕ) (z : Sizes) (o : ℕ) (few : o < z.objects) (many : length list ≡ z.objects) (shaded : header_of old o ≡ 1)
    (inside : 32 + 8 * o < length (all_visited mid z o)) (sh : Shades old mid list listed len end (named_at old (33 + 8 * o) 4)) (is : now ≡ object_scanned mid z o) where
  grey : header_of mid o ≢ 0
  grey = elim (sh.headers o (omega (arith, few, many))) [
    | inl same ↦ λ e. omega (arith, e, same, shaded)
    | inr w ↦ λ e. omega (arith, w.0, shaded)
  ]

  white-same : (q : ℕ) → q < z.objects → is_white (object_scanned mid z o) q ≡ is_white mid q
  white-same q below = elim (eqb_tells q o) [
    | inl e ↦
        let three : header_of (object_scanned mid z o) o ≡ 3 = get_or-set_same (all_visited mid z o) (32 + 8 * o) 3 0 inside in
        let first : is_white (object_scanned mid z o) o ≡ false = ne_eqb (header_of (object_scanned mid z o) o) 0 (λ zero. omega (arith, zero, three)) in
        let second : is_white mid o ≡ false = ne_eqb (header_of mid o) 0 grey in
        subst (λ k. is_white (object_scanned mid z o) k ≡ is_white mid k) (sym e.1) (first ∙ sym second)
    | inr e ↦
        ap (λ w. w == 0)
        (get_or-set_other (all_visited mid z o) (32 + 8 * o) (32 + 8 * q) 3 0 (λ bad. e.1 (omega (arith, bad)))
        ∙ all_visited-low mid z o (32 + 8 * q) (omega (arith, below)) (λ bad. omega (arith, bad)) (λ bad. omega (arith, bad)))
  ]

  pub IsObjectScanned-by : IsObjectScanned old now list listed len end z o
  IsObjectScanned-by = record {
    mid = mid;
    shading = sh;
    words = is;
    room =
        let same = count_below-same (is_white mid) (is_white (object_scanned mid z o)) (length list) (λ q below. white-same q (omega (arith, below, many))) in
        let whole : white_in now (length list) ≡ white_in (object_scanned mid z o) (length list) = ap (λ (ws : List ℕ). white_in ws (length list)) is in
        omega (arith, sh.room, same, whole);
  }
