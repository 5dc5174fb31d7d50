use Rattle.std.proofs.Common.{refl, subst, sym}
use Rattle.plain_table.specs.declared.scripts.Op.TheVariants as op
use Rattle.plain_table.specs.declared.events.Spot.TheVariants.{Global}
use Rattle.entry_base.specs.Sessions.{view}
use Rattle.call_base.specs.Called.{Made}
use Rattle.graph_steps.specs.Graph.{IsAtSpot}
use Rattle.graph_steps.proofs.ObjectCalls.{got_at_spot, made_get}
use Rattle.graph_steps.proofs.globals.fetch_global.Goals as goal

pub returns-clause-made : goal.returns-clause-made
returns-clause-made c =
    let v = view c.args.s.now in
    let w = view c.get_global.new.s in
    subst (λ r. Made v (op.GetG c.args.into c.args.g) r w) (sym c.reply_of.ensures)
    (made_get v w c.args.into c.requires.variable c.requires.mutator c.args.s.now.tied.many c.requires.caller.1.own (op.GetG c.args.into c.args.g) (Global c.args.g) c.get_global.result
    (λ cycle held ticket suits. refl) c.get_global.ensures.learned)

pub returns-clause-found : goal.returns-clause-found
returns-clause-found c =
    let w = view c.get_global.new.s in
    subst (IsAtSpot w (Global c.args.g)) (sym c.reply_of.ensures) (got_at_spot (view c.args.s.now) w c.args.into (Global c.args.g) c.get_global.result c.get_global.ensures.learned)
