use Rattle.std.proofs.Common.{◌≡◌, [], ◌∷◌, ◌++◌}
use Rattle.script_reader.specs.Grammar.{phase_of, cycle_after}
use Rattle.script_reader.proofs.Drafts.{draft-meet}
use Rattle.script_reader.proofs.draft.Draft.with_meet.Goals as goal

pub returns-clause-valid : goal.returns-clause-valid
returns-clause-valid c =
    let k : cycle_after c.args.self.counts.in_cycle c.args.meet ≡ c.is_cycle_after.result = cc in
    let e : c.args.self.phases ++ phase_of c.args.self.counts.mutators c.args.self.calls c.args.meet ∷ [] ≡ c.push.new.self = cc (c.in_ok-push.ensures.ok, c.in_ok-calls.ensures) in
    let n : [] ≡ c.new.result = cc in
    rw (← k, ← e, ← n)
    (draft-meet c.args.limits c.args.self c.args.meet c.requires.draft c.requires.meet.0 c.requires.meet.1)
