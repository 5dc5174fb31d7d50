use Rattle.worked_calls.proofs.space_tests.takes_answer_the_least_index_until_the_space_is_full.Given as goal

abbrev pub ghosts-take_all : goal.ghosts-take_all
ghosts-take_all g a = record { name = a.blank.name; parts = a.blank.parts }
