use Rattle.std.proofs.Common.{rules, All, subst, ◌∙◌}
use Rattle.std.proofs.lemmas.List.Elements.{All-push}
use Rattle.entry_base.specs.Sessions.{IsChunkOf}
use Rattle.worked_markers.proofs.many.eight_chunks.Goals as goal

pub loop-number-preserved : goal.loop-number-preserved
loop-number-preserved g c =
    let cut = c.cut_own.ensures in
    record {
      caller = cut.caller;
      opened = cut.opening ∙ c.loop-number.invariant.opened;
      numbered = cut.number ∙ c.loop-number.invariant.numbered;
      all = cut.numbers ∙ c.loop-number.invariant.all;
      count = search rules;
      chunks = subst (All (IsChunkOf c.args.shared.now)) (search rules) (All-push (IsChunkOf c.args.shared.now) c.loop-number.chunks.items c.in_ok-cut_own.field-0 c.loop-number.invariant.chunks c.in_ok-cut_own.ensures.chunk);
    }
