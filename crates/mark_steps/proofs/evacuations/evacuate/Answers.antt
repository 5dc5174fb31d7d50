use Rattle.std.proofs.Common.{◌<◌, ◌*◌, ◌+◌, ◌∙◌, IfSome, sym, subst, inl}
use Rattle.plain_table.specs.Index.{index_of}
use Rattle.entry_base.specs.Sessions.{view}
use Rattle.call_base.proofs.CallsInOrder.{called_none}
use Rattle.mark_steps.proofs.EvacuationParts.{stays_part}
use Rattle.mark_steps.proofs.SeenWords.{lawful_of, openable_of}
use Rattle.mark_steps.proofs.evacuations.evacuate.Goals as goal

pub returns-in-None-clause-part : goal.returns-in-None-clause-part
returns-in-None-clause-part c fields =
    stays_part _ _ c.args.object (2 * c.args.object + c.args.f) c.args.word (openable_of _ _ c.args.shared.now.openable c.requires.caller.1) (lawful_of _ _ c.requires.caller.1) (called_none (view c.args.s.now)) fields
    (inl (subst (λ o. IfSome o (λ start. index_of c.args.word < start)) (sym (sym c.area.ensures ∙ c.in-None.is)) tt))
