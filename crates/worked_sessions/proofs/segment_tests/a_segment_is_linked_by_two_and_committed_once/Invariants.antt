use Rattle.worked_sessions.proofs.segment_tests.a_segment_is_linked_by_two_and_committed_once.Given as goal

abbrev pub ghosts-link_and_commit : goal.ghosts-link_and_commit
ghosts-link_and_commit g a = record { name = a.blank.name; parts = a.blank.parts }
