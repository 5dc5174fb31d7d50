use Rattle.worked_sessions.proofs.thread_tests.two_threads_take_one_index_or_two.Given as goal

abbrev pub ghosts-both_take-L-Ledger : goal.ghosts-both_take-L-Ledger
ghosts-both_take-L-Ledger g a = record { name = a.one.1.name; parts = a.one.1.parts }

abbrev pub ghosts-both_take-M-Ledger : goal.ghosts-both_take-M-Ledger
ghosts-both_take-M-Ledger g a = record { name = a.two.1.name; parts = a.two.1.parts }
