use Rattle.std.proofs.Common.{◌%◌, ◌^◌}
use Rattle.entry_base.specs.Learned.{Loaded}
use Rattle.freelist_rule.specs.Freelists.{link_facts}
use Rattle.freelist_rule.proofs.freelists.load_link.Given as goal

abbrev pub ghosts-load_link_as : goal.ghosts-load_link_as
ghosts-load_link_as a = record { learns = λ found v w. Loaded v (link_facts a.space (a.word % 2 ^ 32) found) w }
