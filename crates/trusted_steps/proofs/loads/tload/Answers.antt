use Rattle.std.proofs.Common.{ℕ, IfSome, rules, ◌∙◌, sym, subst}
use Rattle.plain_table.specs.declared.events.Space.TheVariants.{Trusted}
use Rattle.plain_table.specs.declared.scripts.Op.TheVariants as op
use Rattle.entry_base.specs.Sessions.{view}
use Rattle.call_base.specs.Called.{LeavesOwn, Made}
use Rattle.access_steps.specs.Accesses.{IsLookAtEvent, reply_of}
use Rattle.trusted_steps.proofs.TrustedCalls.{Made-tload, Made-tload_empty}
use Rattle.trusted_steps.specs.Causes.{HeldWord}
use Rattle.trusted_steps.proofs.EventCauses.{HeldWord-named}
use Rattle.trusted_steps.proofs.loads.tload.Goals as goal

pub returns-in-None-clause-made : goal.returns-in-None-clause-made
returns-in-None-clause-made c = Made-tload_empty (view c.args.s.now) c.args.var c.args.range.first c.args.range.last c.requires.range (sym c.held.ensures ∙ c.in-None.is)

pub returns-in-Some-clause-made : goal.returns-in-Some-clause-made
returns-in-Some-clause-made c =
    let leaves : LeavesOwn (view c.args.s.now) (view c.look.new.s) = search rules in
    subst (λ said. Made (view c.args.s.now) (op.TLoad c.args.var c.args.range.first c.args.range.last) said (view c.look.new.s)) (sym c.reply_of.ensures.reply)
    (Made-tload (view c.args.s.now) (view c.name_trusted-word.new.s) (view c.look.new.s) c.args.var c.in-Some.object c.name_trusted-word.result c.args.range.first c.args.range.last
    (reply_of c.look.result) c.requires.range (sym c.held.ensures ∙ c.in-Some.is) c.requires.caller.1.own
    c.name_trusted-word.ensures.learned.named.answered leaves c.look.ensures.called c.look.ensures.ends)

pub returns-in-Some-clause-answer : goal.returns-in-Some-clause-answer
returns-in-Some-clause-answer c =
    let u = view c.args.s.now in
    let w = view c.look.new.s in
    let word = c.name_trusted-word.result in
    subst (λ x. IfSome x (λ object. (n : ℕ) × HeldWord u object n w × IsLookAtEvent w Trusted n c.args.range.first c.args.range.last c.reply_of.result)) (sym (sym c.held.ensures ∙ c.in-Some.is)) (
      word,
      HeldWord-named u (view c.name_trusted-word.new.s) w c.in-Some.object word _ c.name_trusted-word.ensures.learned c.look.ensures.called,
      subst (IsLookAtEvent w Trusted word c.args.range.first c.args.range.last) (sym c.reply_of.ensures.reply) c.look.ensures.answer,
    )
