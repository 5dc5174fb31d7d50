use Rattle.worked_sessions.proofs.entry_tests.a_take_with_a_stale_word_answers_the_word_found.Given as goal

abbrev pub ghosts-split_and_miss : goal.ghosts-split_and_miss
ghosts-split_and_miss g a = record { name = a.blank.name; parts = a.blank.parts }
