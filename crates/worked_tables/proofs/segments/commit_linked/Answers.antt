use Rattle.std.proofs.Common.{◌≡◌, ◌<◌, ◌≤◌, ℕ, inl, inr, sym, subst, arith}
use Rattle.std.proofs.lemmas.Bool.Decides.{eqb_tells}
use Rattle.plain_table.specs.declared.events.Space.TheVariants.{External}
use Rattle.entry_base.specs.declared.view.Fact.TheVariants as fact
use Rattle.entry_base.specs.Lists.{Has}
use Rattle.entry_base.specs.Sessions.{view}
use Rattle.worked_tables.proofs.segments.commit_linked.Goals as goal

-- what holds of four numbers holds of each from the first of them on below 8
from_four : (P : ℕ → Type 0) (i : ℕ) → 4 ≤ i → i < 8 → P 4 → P 5 → P 6 → P 7 → P i
from_four P i low high a b c d = elim (eqb_tells i 4) [
  | inl e ↦ subst P (sym e.1) a
  | inr m ↦ elim (eqb_tells i 5) [
    | inl e ↦ subst P (sym e.1) b
    | inr n ↦ elim (eqb_tells i 6) [
      | inl e ↦ subst P (sym e.1) c
      | inr o ↦
          let x = m.1 in
          let y = n.1 in
          let z = o.1 in
          let e : i ≡ 7 = omega arith in
          subst P (sym e) d
    ]
  ]
]

pub commit_step-requires-clause-linked : goal.commit_step-requires-clause-linked
commit_step-requires-clause-linked c = λ i low high.
    let r = c.requires in
    let e = r.shape in
    let h : i < 8 = omega arith in
    from_four (λ n. Has (view c.args.s.now).facts (fact.Linked External n)) i low h r.fourth r.fifth r.sixth r.seventh
