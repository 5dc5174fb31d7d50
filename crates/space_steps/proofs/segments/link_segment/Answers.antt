use Rattle.std.proofs.Common.{◌≡◌, ℕ, ◌+◌, ◌<◌, ◌≤◌, ◌==◌, Bool, true, false, [], refl, sym, subst, arith}
use Rattle.std.proofs.lemmas.Bool.Decides.{nat_tests}
use Rattle.plain_table.specs.declared.events.Space.{Space}
use Rattle.entry_base.specs.declared.view.Fact.TheVariants as fact
use Rattle.entry_base.specs.declared.view.View.{View}
use Rattle.entry_base.specs.Callers.{SameCaller}
use Rattle.entry_base.specs.Lists.{Has}
use Rattle.call_base.proofs.CallsInOrder.{called_looks, called_trans, leaves_trans}
use Rattle.space_steps.proofs.segments.link_segment.Goals as goal

linked_on : (v w : View) (p : Space) (head index : ℕ) → SameCaller v w → Has w.facts (fact.Linked p index)
    → ((i : ℕ) → head ≤ i → i < index → Has v.facts (fact.Linked p i)) → (i : ℕ) → head ≤ i → i < index + 1 → Has w.facts (fact.Linked p i)
linked_on v w p head index s last before i low high = go (i == index) refl
  where
    go : (t : Bool) → (i == index) ≡ t → Has w.facts (fact.Linked p i)
    go true is = let same : i ≡ index = grind (arith, nat_tests) in subst (λ j. Has w.facts (fact.Linked p j)) (sym same) last
    go false is = s.knows _ (before i low (grind (arith, nat_tests)))

pub loop-index-preserved : goal.loop-index-preserved
loop-index-preserved c =
    let i = c.loop-index.invariant in
    let l = c.link_entry.ensures.learned in record {
      caller = c.link_entry.ensures.caller;
      called = called_trans _ _ _ [] [] i.called (called_looks _ _ i.caller.1.own l.same l.looks);
      leaves = leaves_trans _ _ _ i.leaves (record { own = l.own; hands = l.hands });
      linked = linked_on _ _ _ _ _ l.same l.knows i.linked;
    }
