-- What was passed stays passed, and an object all of whose three fields and four references were passed is passed.
use Rattle.std.proofs.Common.{◌≡◌, ◌⊎◌, ℕ, ◌+◌, ◌*◌, ◌<◌, ◌≤◌, Option, Some, None, IfSome, sym, subst, inl, inr, arith}
use Rattle.plain_table.specs.declared.events.Field.{Field}
use Rattle.plain_table.specs.declared.events.Field.TheVariants as field
use Rattle.plain_table.specs.Index.{index_of}
use Rattle.plain_table.proofs.ObjectFields.{each_field, each_reference}
use Rattle.entry_base.specs.declared.view.Fact.TheVariants as fact
use Rattle.entry_base.specs.declared.view.View.{View}
use Rattle.entry_base.specs.Callers.{SameCaller}
use Rattle.entry_base.specs.Lists.{Has, count_in}
use Rattle.entry_base.specs.Openings.{start_of}
use Rattle.entry_base.specs.Passed.{IsPassed, PassedField, PassedReference, WillNotMove, field_of}

pub WillNotMove-stays : (v w : View) → SameCaller v w → (f : Field) (word : ℕ) → WillNotMove v f word → WillNotMove w f word
WillNotMove-stays v w same (field.External number) word h = subst (λ o. IfSome (start_of o) (λ start. (index_of word < start) ⊎ Has w.facts fact.Aborted ⊎ Has w.facts (fact.Placed (field.External number) word))) (sym same.opening) (go (start_of v.opening) h)
  where
    go : (o : Option ℕ) → IfSome o (λ start. (index_of word < start) ⊎ Has v.facts fact.Aborted ⊎ Has v.facts (fact.Placed (field.External number) word)) → IfSome o (λ start. (index_of word < start) ⊎ Has w.facts fact.Aborted ⊎ Has w.facts (fact.Placed (field.External number) word))
    go None h = tt
    go (Some start) (inl below) = inl below
    go (Some start) (inr (inl aborted)) = inr (inl (same.knows _ aborted))
    go (Some start) (inr (inr placed)) = inr (inr (same.knows _ placed))
WillNotMove-stays v w same (field.Trusted number) word h = tt

-- a field that is known as placed with the word will not move without it
pub WillNotMove-placed : (v : View) (f : Field) (word : ℕ) → Has v.facts (fact.Placed f word) → WillNotMove v f word
WillNotMove-placed v (field.External number) word has = go (start_of v.opening)
  where
    go : (o : Option ℕ) → IfSome o (λ start. (index_of word < start) ⊎ Has v.facts fact.Aborted ⊎ Has v.facts (fact.Placed (field.External number) word))
    go None = tt
    go (Some start) = inr (inr has)
WillNotMove-placed v (field.Trusted number) word has = tt

pub PassedField-stays : (v w : View) → SameCaller v w → (f : Field) → PassedField v f → PassedField w f
PassedField-stays v w same f p = record { word = p.word; read = same.knows _ p.read; visited = same.knows _ p.visited; placed = WillNotMove-stays v w same f p.word p.placed }

pub PassedReference-stays : (v w : View) → SameCaller v w → (o k : ℕ) → PassedReference v o k → PassedReference w o k
PassedReference-stays v w same o k p = record { word = p.word; read = same.knows _ p.read; shaded = λ q is. same.knows _ (p.shaded q is) }

pub IsPassed-parts : (v : View) (o : ℕ) → 1 ≤ count_in o v.hands → PassedField v (field_of o 0) → PassedField v (field_of o 1) → PassedField v (field_of o 2)
    → PassedReference v o 0 → PassedReference v o 1 → PassedReference v o 2 → PassedReference v o 3 → IsPassed v o
IsPassed-parts v o hands a b c d e f g = record {
  hands = hands;
  fields = each_field (PassedField v) o (subst (λ n. PassedField v (field.External n)) (let e : 2 * o ≡ 2 * o + 0 = omega arith in e) a) b c;
  references = each_reference (PassedReference v o) d e f g;
}
