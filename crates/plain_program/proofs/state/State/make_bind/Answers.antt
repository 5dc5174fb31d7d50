use Rattle.std.proofs.Common.{rules, refl}
use Rattle.plain_program.proofs.Makes.{makes_unbound, refuses_taken}
use Rattle.plain_program.proofs.state.State.make_bind.Goals as goal

pub returns-then-not-is_taken : goal.returns-then-not-is_taken
returns-then-not-is_taken c = (
  refuses_taken c.args.self.now c.args.by c.args.field c.args.word c.word-found.result c.args.said c.is_taken.result
      c.word-found.ensures c.if-found-eq0.false c.is_taken.ensures c.if-not-is_taken.true,
  refl,
)

pub returns : goal.returns
returns c =
    makes_unbound c.args.self.now c.remove_fresh.new.self c.args.by c.args.field c.args.word c.word-found.result c.space_of.result c.index_of.result c.args.said
    (search rules) c.word-found.ensures c.if-found-eq0.false (c.is_taken.ensures.0 c.if-not-is_taken.false) c.space_of.ensures c.index_of.ensures c.remove_fresh.ensures.table c.remove_fresh.ensures.spent
