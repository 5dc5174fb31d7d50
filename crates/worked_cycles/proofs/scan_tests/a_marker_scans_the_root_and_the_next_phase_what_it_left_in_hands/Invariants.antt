use Rattle.worked_cycles.proofs.scan_tests.a_marker_scans_the_root_and_the_next_phase_what_it_left_in_hands.Given as goal

abbrev pub ghosts-scan_in_two_phases : goal.ghosts-scan_in_two_phases
ghosts-scan_in_two_phases g a = record { name = a.blank.name; parts = a.blank.parts }
