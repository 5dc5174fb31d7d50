use Rattle.std.proofs.Common.{refl}
use Rattle.plain_table.specs.Scans.{Says}
use Rattle.call_base.proofs.CallsInOrder.{called_extends}
use Rattle.call_base.proofs.ScanParts.{part_event}
use Rattle.mark_steps.proofs.scans.scanned.Goals as goal

pub returns-clause-called : goal.returns-clause-called
returns-clause-called c =
    let t = c.scan_step.ensures.learned in
    called_extends _ _ _ refl c.requires.caller.1.own t.same t.extends

pub returns-clause-part : goal.returns-clause-part
returns-clause-part c = part_event _ _ _ _ _ (returns-clause-called c) (λ front back is b base. Says c.args.object)
