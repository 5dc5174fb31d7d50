use Rattle.std.proofs.Common.{rules, ap, ◌∙◌}
use Rattle.entry_base.specs.declared.view.View.{View}
use Rattle.entry_base.specs.Sessions.{view}
use Rattle.entry_base.proofs.OneByOne.{same_trans}
use Rattle.worked_markers.proofs.HandsPushed.{AreIn-push}
use Rattle.worked_markers.proofs.many.cut_own.Goals as goal

pub loop-preserved : goal.loop-preserved
loop-preserved g c =
    let shaded = c.shade_own-object.ensures in
    record {
      caller = shaded.caller;
      same = same_trans _ _ _ c.loop.invariant.same shaded.same;
      hands = AreIn-push c.shade_own-object.result c.loop.objects.items c.push.new.self.items (view c.loop.s).hands (view c.shade_own-object.new.s).hands c.loop.invariant.hands (search rules) shaded.hands;
    }

pub returns-clause-opening : goal.returns-clause-opening
returns-clause-opening g c = ap (λ (v : View). v.opening) c.cut.ensures.left ∙ c.loop.invariant.same.opening

pub returns-clause-number : goal.returns-clause-number
returns-clause-number g c = ap (λ (v : View). v.number) c.cut.ensures.left ∙ c.loop.invariant.same.number

pub returns-clause-numbers : goal.returns-clause-numbers
returns-clause-numbers g c = ap (λ (v : View). v.numbers) c.cut.ensures.left ∙ c.loop.invariant.same.numbers
