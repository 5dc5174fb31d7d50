use Rattle.std.proofs.Common.{rules, All, ap, subst}
use Rattle.std.proofs.lemmas.List.Elements.{All-push}
use Rattle.entry_base.specs.Sessions.{view, IsChunkOf}
use Rattle.worked_pools.proofs.CutHands.{AreIn-cut}
use Rattle.worked_pools.proofs.chunks.cut_each.Goals as goal

pub loop-object-preserved : goal.loop-object-preserved
loop-object-preserved c = record {
  caller = search rules;
  hands = AreIn-cut c.args.objects.now c.loop-object.object-index c.push.new.self.items (view c.loop-object.s).hands (view c.cut.new.self).hands c.loop-object-test.true (search rules) c.loop-object.invariant.hands (ap (λ v. v.hands) c.cut.ensures.left);
  count = search rules;
  chunks = subst (All (IsChunkOf c.args.shared.now)) (search rules) (All-push (IsChunkOf c.args.shared.now) c.loop-object.chunks.items c.cut.result c.loop-object.invariant.chunks c.cut.ensures.caller.1);
}
