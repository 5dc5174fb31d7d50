use Rattle.worked_sessions.proofs.thread_tests.two_threads_link_a_whole_segment_and_one_commits_it.Given as goal

abbrev pub ghosts-link_at_once : goal.ghosts-link_at_once
ghosts-link_at_once g a = record { name = a.blank.name; parts = a.blank.parts }
