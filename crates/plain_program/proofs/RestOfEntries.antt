-- A loop that finds each element so far to be good: all elements are good, if those that are left are.
use Rattle.std.specs.Prelude.{◌≡◌, List, [], ◌∷◌}
use Rattle.std.specs.List.{All}
use Rattle.std.proofs.Common.{sym, subst}
use Rattle.std.proofs.lemmas.List.Elements.{All-nil, All-cons}

abbrev pub RestDecides : {X : Type 0} → (X → Type 0) → List X → List X → Type 0
RestDecides P all rest = All P rest → All P all

pub RestDecides-turn : {X : Type 0} (P : X → Type 0) (all rest next : List X) (x : X) → RestDecides P all rest → rest ≡ x ∷ next → P x → RestDecides P all next
RestDecides-turn P all rest next x decides e good others = decides (subst (All P) (sym e) (All-cons P x next good others))

pub All-from_RestDecides : {X : Type 0} (P : X → Type 0) (all rest : List X) → RestDecides P all rest → rest ≡ [] → All P all
All-from_RestDecides P all rest decides e = decides (subst (All P) (sym e) (All-nil P))

pub RestDecides-start : {X : Type 0} (P : X → Type 0) (all rest : List X) → rest ≡ all → RestDecides P all rest
RestDecides-start P all rest e good = subst (All P) e good
