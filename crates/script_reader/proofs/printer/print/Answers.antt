use Rattle.script_reader.proofs.printer.print.Goals as goal

pub push_phases-requires : goal.push_phases-requires
push_phases-requires c =
    (c.args.script.now.version, c.args.script.now.limits.mutators, rw c.as_slice.ensures c.requires.each)
