use Rattle.std.proofs.Common.{rules}
use Rattle.plain_table.specs.declared.events.Act.TheVariants as act
use Rattle.plain_table.specs.declared.events.Space.TheVariants.{External}
use Rattle.plain_table.specs.declared.reports.Reply.TheVariants as reply
use Rattle.entry_base.specs.Sessions.{view}
use Rattle.entry_rule.specs.Entries.{Put}
use Rattle.call_base.proofs.OneEvent.{called_once}
use Rattle.access_steps.proofs.inits.put.Goals as goal

pub returns-clause-called : goal.returns-clause-called
returns-clause-called c =
    let u = view c.args.s.now in
    let w = view c.put_external.new.s in
    let put : Put u External c.args.ticket.index c.args.tag c.args.value w = search rules in
    called_once u w (act.Put External c.args.ticket.index c.args.tag c.args.value) reply.Ok c.requires.caller.1.own put.same put.extends
