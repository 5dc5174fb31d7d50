use Rattle.std.proofs.Common.{◌≡◌, ℕ, Bool, true, Some, sym, ap, subst, ◌∙◌}
use Rattle.std.specs.Prelude.{IsTrue, ◌↔◌}
use Rattle.std.specs.Option.{option_map}
use Rattle.plain_program.specs.Entries.{has}
use Rattle.plain_table.specs.Finish.{CanFinish, IsReachable}
use Rattle.plain_table.specs.declared.events.Field.{Field}
use Rattle.plain_program.specs.KeptFields.{IsFieldKept}
use Rattle.plain_program.specs.Kept.{Kept, shown, shown_cycle}
use Rattle.plain_program.proofs.KeptFields.{finishes-then, finishes-else, finishes-in}
use Rattle.plain_program.proofs.state.State.may_finish.Goals as goal
use Rattle.plain_program.proofs.state.State.may_finish.Goals.{then-are_scanned, else-are_scanned}

pub returns-after-are_scanned : goal.returns-after-are_scanned
returns-after-are_scanned c =
    let s = shown c.args.self.now in
    let cycle = shown_cycle c.in-Some.cycle in
    let keys = c.in_ok-reached-in-Some.reached.keys in
    let done = c.if-are_scanned.result in
    let under_way : s.cycle ≡ Some cycle = ap (λ (k : Kept). option_map shown_cycle k.cycle) (sym c.self.view_is) ∙ ap (option_map shown_cycle) c.in-Some.is in
    let reaches : (o : ℕ) → IsTrue (has keys o) ↔ IsReachable s o =
    subst (λ (k : Kept). (o : ℕ) → IsTrue (has keys o) ↔ IsReachable (shown k) o) c.self.view_is c.in_ok-reached-in-Some.ensures in
    let finishes : IsTrue done ↔ CanFinish s cycle =
    elim c.if-are_scanned.branch [
      | then-are_scanned w ↦ finishes-then s cycle keys reaches (c.are_scanned.ensures.0 w.if-are_scanned.true) done
          (subst (λ (b : Bool). IsTrue b ↔ ((f : Field) → IsFieldKept s cycle keys f)) (sym w.result-is) w.are_kept.ensures)
      | else-are_scanned w ↦ finishes-else s cycle keys reaches done (cc) (λ scanned. let e : c.are_scanned.result ≡ true = c.are_scanned.ensures.1 scanned in absurd (cc))
    ] in
    finishes-in s cycle s.cycle done under_way finishes
