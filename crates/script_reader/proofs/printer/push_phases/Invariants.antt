-- After the first phases their lines stand in the text.
use Rattle.std.proofs.Common.{◌≡◌, ◌++◌, string_bytes, take}
use Rattle.std.specs.List.{flat_map}
use Rattle.script_reader.specs.Canonical.{phase_text}
use Rattle.script_reader.proofs.printer.push_phases.Given as goal

abbrev pub invariant-loop-phase : goal.invariant-loop-phase
invariant-loop-phase l =
    string_bytes l.text ≡ string_bytes l.initial.text ++ flat_map phase_text (take l.phase-index l.phases)
