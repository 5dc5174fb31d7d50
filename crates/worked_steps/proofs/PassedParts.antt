-- A word 0 passes its field, and its reference.
use Rattle.std.proofs.Common.{◌≡◌, ℕ, ◌∷◌, refl, sym, subst, inl, inr, arith}
use Rattle.plain_table.specs.declared.events.Field.{Field}
use Rattle.plain_table.specs.Index.{index_of}
use Rattle.plain_table.specs.Places.{space_of}
use Rattle.entry_base.specs.declared.view.Fact.{Fact}
use Rattle.entry_base.specs.declared.view.Fact.TheVariants as fact
use Rattle.entry_base.specs.declared.view.View.{View}
use Rattle.entry_base.specs.Lists.{Has}
use Rattle.entry_base.specs.Passed.{PassedField, PassedReference}
use Rattle.call_base.proofs.PassedParts.{WillNotMove-placed}
use Rattle.mark_rule.specs.Marking.{WordLoaded, ReferenceLoaded}

pub PassedField-zero : (v : View) (limit : ℕ) (f : Field) (found : ℕ) (w : View) → WordLoaded v limit f found w → found ≡ 0 → PassedField w f
PassedField-zero v limit f found w l zero_word =
    let z : WordLoaded v limit f 0 w = subst (λ n. WordLoaded v limit f n w) zero_word l in
    let has : (x : Fact) → Has (fact.Read f 0 ∷ fact.Visited (space_of f) (index_of 0) ∷ fact.Placed f 0 ∷ v.facts) x → Has w.facts x = λ x h. subst (λ fs. Has fs x) (sym z.loaded.facts) h in
    record { word = 0; read = has _ (inl refl); visited = has _ (inr (inl refl)); placed = WillNotMove-placed w f 0 (has _ (inr (inr (inl refl)))) }

pub PassedReference-zero : (v : View) (o k found : ℕ) (w : View) → ReferenceLoaded v o k found w → found ≡ 0 → PassedReference w o k
PassedReference-zero v o k found w l zero_word =
    let z : ReferenceLoaded v o k 0 w = subst (λ n. ReferenceLoaded v o k n w) zero_word l in
    record { word = 0; read = subst (λ fs. Has fs (fact.Reference o k 0)) (sym z.loaded.facts) (inl refl); shaded = λ q is. absurd (omega (arith, is)) }
