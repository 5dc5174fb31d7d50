use Rattle.std.proofs.Common.{◌∙◌, arith}
use Rattle.entry_base.proofs.WalkStep.{walk_more, walk_past}
use Rattle.entry_base.proofs.closing.end_of_list.Goals as goal
use Rattle.entry_base.proofs.closing.end_of_list.Goals.{then-place-words, else-place-words}

pub loop-link-preserved : goal.loop-link-preserved
loop-link-preserved c =
    let i = c.loop-link.invariant in
    let t = c.loop-link-test.true in
    elim c.if-place-words.branch [
      | then-place-words w ↦ record { low = let e = w.at-is in omega arith; walked = walk_more c.args.words.now c.args.first c.args.len c.loop-link._link c.loop-link.at c.if-place-words.at (omega arith) w.at-is ∙ i.walked }
      | else-place-words w ↦ record { low = let e = w.at-is in omega arith; walked = walk_more c.args.words.now c.args.first c.args.len c.loop-link._link c.loop-link.at c.if-place-words.at (omega arith) (walk_past c.args.words.now c.args.first c.loop-link.at c.if-place-words.at w.if-place-words.false w.at-is) ∙ i.walked }
    ]
