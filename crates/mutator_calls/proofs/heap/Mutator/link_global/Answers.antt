use Rattle.std.proofs.Common.{ℕ, slice_set, sym, subst, ◌∙◌}
use Rattle.plain_table.specs.declared.scripts.Op.TheVariants as op
use Rattle.plain_table.specs.declared.reports.Reply.TheVariants as reply
use Rattle.mutator_calls.specs.Objects.{Rewrites}
use Rattle.mutator_calls.proofs.LinkCalls.{IsReady-global, Makes-link_global}
use Rattle.mutator_calls.proofs.heap.Mutator.link_global.Goals as goal

pub returns-clause-makes : goal.returns-clause-makes
returns-clause-makes c = λ s h.
    let m = c.args.self.now in
    Makes-link_global m c.write.new.self c.args.g c.in-Some.word c.requires.place
    (subst (λ (place : ℕ). Rewrites m c.write.new.self (slice_set m.image.words.items place c.in-Some.word) m.image.vars.items) c.global_place.ensures c.write.ensures)
    s h c.args.target c.requires.target (sym c.in-Some.is ∙ c.target.ensures.tables s h)

pub returns-clause-ready : goal.returns-clause-ready
returns-clause-ready c =
    let m = c.args.self.now in
    IsReady-global m c.write.new.self c.args.g c.in-Some.word c.requires.place
    (subst (λ (place : ℕ). Rewrites m c.write.new.self (slice_set m.image.words.items place c.in-Some.word) m.image.vars.items) c.global_place.ensures c.write.ensures)
    (op.SetG c.args.g c.args.target) reply.Ok c.requires.ready (returns-clause-makes c)
