use Rattle.std.proofs.Common.{[], ◌∷◌}
use Rattle.plain_table.specs.Scans.{Visit}
use Rattle.entry_base.specs.Passed.{field_of}
use Rattle.call_base.proofs.ScanParts.{part_still, part_trans}
use Rattle.marker.proofs.scans.pass_trusted.Goals as goal

pub returns-clause-part : goal.returns-clause-part
returns-clause-part c fields =
    part_trans _ _ _ _ _ _ [] [] (part_still _ _ (Visit c.args.object (field_of c.args.object 2 ∷ fields)) c.word_at-word.ensures.called) (c.mark.ensures.part fields)
