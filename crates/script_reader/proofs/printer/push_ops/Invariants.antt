-- After the first operations their lines stand in the text.
use Rattle.std.proofs.Common.{◌≡◌, ◌++◌, string_bytes, take}
use Rattle.std.specs.List.{flat_map}
use Rattle.script_reader.specs.Canonical.{op_line}
use Rattle.script_reader.proofs.printer.push_ops.Given as goal

abbrev pub invariant-loop-op : goal.invariant-loop-op
invariant-loop-op l =
    string_bytes l.text ≡ string_bytes l.initial.text ++ flat_map (op_line l.mutator) (take l.op-index l.ops)
