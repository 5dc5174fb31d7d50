use Rattle.std.proofs.Common.{◌≡◌, ◌<◌, ◌+◌, slice_index, slice_set, sym, ◌∙◌, arith}
use Rattle.std.proofs.lemmas.Grind.{get_or_default_zero}
use Rattle.plain_table.specs.declared.scripts.Op.TheVariants as op
use Rattle.plain_table.specs.declared.reports.Reply.TheVariants as reply
use Rattle.plain_table.specs.Words.{count_place}
use Rattle.mutator_calls.specs.Objects.{Rewrites}
use Rattle.mutator_calls.proofs.Kept.{IsLawful-made}
use Rattle.mutator_calls.proofs.ObjectCalls.{IsReady-new, Makes-new, Rewrites-both}
use Rattle.mutator_calls.proofs.Written.{count-few}
use Rattle.mutator_calls.proofs.heap.Mutator.new_object.Goals as goal

module _ (c : goal.After-hold) where
  count-at : slice_index c.args.self.now.image.words.items count_place ≡ c.index-count.result.now
  count-at =
      let m = c.args.self.now in
      let long = c.requires.ready.lawful.2.words.whole in
      sym (c.index-count.ensures ∙ get_or_default_zero m.image.words.items 3 c.index-count.result.now (omega (arith, long)))

  room : c.index-count.result.now < c.args.self.now.image.shape.objects
  room = let few = count-few c.args.self.now c.requires.ready in omega (arith, few, count-at, c.if-count-from.false, c.from.ensures)

  written : Rewrites c.args.self.now c.hold.new.self (slice_set c.args.self.now.image.words.items count_place (c.index-count.result.now + 1))
      (slice_set c.args.self.now.image.vars.items c.args.var (c.index-count.result.now + 1))
  written =
      Rewrites-both c.args.self.now c.write.new.self c.hold.new.self (slice_set c.args.self.now.image.words.items count_place (c.index-count.result.now + 1))
      c.args.var (c.index-count.result.now + 1) c.write.ensures c.hold.ensures

pub returns-clause-makes : goal.returns-clause-makes
returns-clause-makes c =
    Makes-new c.args.self.now c.hold.new.self c.args.var c.index-count.result.now c.requires.ready (count-at c) (room c) (written c) c.requires.variable

pub returns-clause-ready : goal.returns-clause-ready
returns-clause-ready c =
    IsReady-new c.args.self.now c.hold.new.self c.args.var c.index-count.result.now c.requires.ready (count-at c) (room c) (written c)
    (IsLawful-made c.args.self.now c.hold.new.self (op.New c.args.var) (reply.Obj c.index-count.result.now) c.requires.ready (returns-clause-makes c))
