use Rattle.worked_cycles.proofs.thread_tests.two_threads_mark_a_cell_and_one_exchange_wins.Given as goal

abbrev pub ghosts-mark_at_once : goal.ghosts-mark_at_once
ghosts-mark_at_once g a = record { name = a.blank.name; parts = a.blank.parts }
