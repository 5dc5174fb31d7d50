use Rattle.freelist_rule.specs.Segments.{LinkedEntry}
use Rattle.freelist_rule.proofs.segments.link_entry.Given as goal

abbrev pub ghosts-link_entry_as : goal.ghosts-link_entry_as
ghosts-link_entry_as a = record { learns = λ found v w. LinkedEntry v a.space a.index w }
