use Rattle.std.proofs.Common.{◌≡◌, ◌-◌, rules, inl, arith}
use Rattle.entry_base.specs.Openings.{phase_of}
use Rattle.entry_base.specs.Owns.{IsHeld}
use Rattle.entry_base.specs.Sessions.{view}
use Rattle.object_rule.proofs.Held.{mutator-held}
use Rattle.graph_steps.proofs.references.shade_target.Goals as goal

pub shade-requires-clause-seen : goal.shade-requires-clause-seen
shade-requires-clause-seen c =
    let v = view c.args.s.now in
    let some = c.if-word-ne0.true in
    let held : IsHeld v (c.args.word - 1) = c.requires.held (c.args.word - 1) (omega (arith, some)) in
    let phase : phase_of v.opening ≡ 1 = search rules in
    inl (record { mutator = mutator-held v (c.args.word - 1) c.args.s.now.tied.many held; held = held; in_cycle = phase })
