-- What a copy of a map holds: the map's entries, one by one, as the keys ascend in both.
use Rattle.std.specs.Prelude.{◌≡◌, Option, Some, None}
use Rattle.std.proofs.Common.{refl, ap, ◌∙◌}
use Rattle.std.specs.declared.cmp.Ordering.{Ordering}
use Rattle.std.specs.BTreeMap.{BTreeMap, IsEmpty, IsOrdered, InsertsAll, get, is_at}
use Rattle.std.specs.Cmp.{IsTotalOrder}
use Rattle.std.specs.Map.{keys_of, lookup}
use Rattle.std.specs.Option.{option_or}
use Rattle.std.specs.Ordering.{eq_by_cmp}
use Rattle.std.proofs.lemmas.Cmp.{eq_by_cmp_equiv}
use Rattle.std.proofs.lemmas.Map.Keys.{IsDistinct-from_sorted}
use Rattle.std.proofs.lemmas.Map.Lookups.{CmpEqualImpliesEq, btree_map_from_get}
use Rattle.std.proofs.lemmas.Map.Made.{update_all_distinct}

option_or-None : {A : Type 0} (found : Option A) → option_or found None ≡ found
option_or-None (Some v) = refl
option_or-None None = refl

pub entries-copied : {K A : Type 0} {R : K → K → Ordering} → IsTotalOrder R → CmpEqualImpliesEq R → (empty old new : BTreeMap K A) →
    IsEmpty empty → IsOrdered R old → InsertsAll R empty old.entries new → new.entries ≡ old.entries
entries-copied {K} {A} {R} o exact empty old new none sorted adds = btree_map_from_get o new old adds.1 sorted (λ q.
    adds.0 q
    ∙ update_all_distinct (eq_by_cmp_equiv o) (eq_by_cmp R) (λ _ _. refl) (get R empty) old.entries q (IsDistinct-from_sorted R (keys_of old.entries) sorted)
    ∙ ap (λ es. option_or (get R old q) (lookup (is_at (R q)) es)) none
    ∙ option_or-None (get R old q)) exact
