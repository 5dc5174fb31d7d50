use Rattle.std.proofs.Common.{ap, ◌∙◌, rules}
use Rattle.plain_table.specs.Index.{word_of}
use Rattle.entry_base.specs.Sessions.{view}
use Rattle.object_rule.specs.Fields.{BoundTrusted}
use Rattle.trusted_steps.proofs.EntryFills.{BindsNew-ok, BindsNew-taken}
use Rattle.trusted_steps.proofs.EventCauses.{IsBoundAtEvent-free, IsBoundAtEvent-taken}
use Rattle.trusted_steps.proofs.fills.bind_new.Goals as goal
use Rattle.entry_rule.specs.Entries.{PutTrusted}

pub returns-then-found-eq0-clause-binds : goal.returns-then-found-eq0-clause-binds
returns-then-found-eq0-clause-binds c =
    let v = view c.args.s.now in
    let x = view c.put_trusted.new.s in
    let y = view c.bind_trusted-found.new.s in
    let put : PutTrusted v c.args.ticket.index c.args.tag c.args.value x = search rules in
    let bound : BoundTrusted x c.args.object c.word_of.result c.args.tag c.args.value c.bind_trusted-found.result y = search rules in
    BindsNew-ok v x y c.args.object c.args.ticket.index c.args.tag c.args.value c.word_of.result c.bind_trusted-found.result
    c.requires.caller.1.own c.put_trusted.ensures.caller.1.own put bound (c.word_of.ensures ∙ ap word_of c.index-index.ensures) c.if-found-eq0.true

pub returns-else-found-eq0-clause-binds : goal.returns-else-found-eq0-clause-binds
returns-else-found-eq0-clause-binds c =
    let v = view c.args.s.now in
    let x = view c.put_trusted.new.s in
    let y = view c.bind_trusted-found.new.s in
    let put : PutTrusted v c.args.ticket.index c.args.tag c.args.value x = search rules in
    let bound : BoundTrusted x c.args.object c.word_of.result c.args.tag c.args.value c.bind_trusted-found.result y = search rules in
    BindsNew-taken v x y c.args.object c.args.ticket.index c.args.tag c.args.value c.word_of.result c.bind_trusted-found.result
    c.requires.caller.1.own c.put_trusted.ensures.caller.1.own put bound (c.word_of.ensures ∙ ap word_of c.index-index.ensures) c.if-found-eq0.false

pub returns-then-found-eq0-clause-answer : goal.returns-then-found-eq0-clause-answer
returns-then-found-eq0-clause-answer c =
    let bound = c.bind_trusted-found.ensures.learned in
    IsBoundAtEvent-free (view c.put_trusted.new.s) (view c.bind_trusted-found.new.s) c.args.object c.word_of.result c.bind_trusted-found.result bound.same bound.extends c.if-found-eq0.true

pub returns-else-found-eq0-clause-answer : goal.returns-else-found-eq0-clause-answer
returns-else-found-eq0-clause-answer c =
    let bound = c.bind_trusted-found.ensures.learned in
    IsBoundAtEvent-taken (view c.put_trusted.new.s) (view c.bind_trusted-found.new.s) c.args.object c.word_of.result c.bind_trusted-found.result bound.same bound.extends c.if-found-eq0.false
