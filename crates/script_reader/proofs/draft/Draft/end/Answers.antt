use Rattle.std.proofs.Common.{◌≡◌, [], ◌∷◌, ◌++◌}
use Rattle.plain_table.specs.declared.scripts.Meet.TheVariants.{End}
use Rattle.script_reader.specs.Grammar.{phase_of}
use Rattle.script_reader.proofs.Drafts.{script-valid}
use Rattle.script_reader.proofs.draft.Draft.end.Goals as goal

pub returns-clause-valid : goal.returns-clause-valid
returns-clause-valid c =
    let e : c.args.self.phases ++ phase_of c.args.self.counts.mutators c.args.self.calls End ∷ [] ≡ c.push.new.self = cc (c.in_ok-push.ensures.ok, c.in_ok-calls.ensures) in
    rw (← e) (script-valid c.args.limits c.args.self c.requires.limits c.requires.draft c.requires.line)
