use Rattle.std.proofs.Common.{◌≡◌, ◌-◌, ◌+◌, sym, ◌∙◌, arith}
use Rattle.std.proofs.lemmas.Grind.{get_or_default_zero}
use Rattle.mutator_calls.proofs.Seen.{object-few}
use Rattle.mutator_calls.proofs.heap.Mutator.held.Goals as goal

pub returns-else-word-eq0-clause-few : goal.returns-else-word-eq0-clause-few
returns-else-word-eq0-clause-few c =
    let m = c.args.self.now in
    let long = c.requires.ready.lawful.2.variables.0 in
    let small = c.requires.variable in
    let read = get_or_default_zero m.image.vars.items c.args.var c.index-word.result.now (omega (arith, small, long)) in
    let word : c.index-word.result.now ≡ (c.index-word.result.now - 1) + 1 = omega (arith, c.if-word-eq0.false) in
    object-few m c.requires.ready c.args.var c.requires.variable (c.index-word.result.now - 1)
    (sym read ∙ sym c.index-word.ensures ∙ word)
