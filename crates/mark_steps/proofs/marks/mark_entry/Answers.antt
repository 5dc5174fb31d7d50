use Rattle.std.proofs.Common.{arith, true, false}
use Rattle.entry_base.specs.Passed.{field_of}
use Rattle.entry_base.specs.Sessions.{view}
use Rattle.mark_steps.proofs.MarkTurns.{below_as, clear_word, exchange_called, exchange_cause, exchanged_as, load_called, load_cause, marked_word, no_mark_word, none_called}
use Rattle.mark_steps.proofs.marks.mark_entry.Goals as goal

pub returns-then-entry-eq0-clause-called : goal.returns-then-entry-eq0-clause-called
returns-then-entry-eq0-clause-called c =
    let test = c.if-entry-eq0.true in
    none_called _ (field_of c.args.object c.args.f) c.args.word c.load_mark-entry.result _ c.requires.caller.1.own (below_as (view c.args.s.now) (field_of c.args.object c.args.f) _ _ c.requires.spaced c.requires.inside) c.load_mark-entry.ensures.learned (omega (arith, test))

pub returns-then-entry-eq1-clause-called : goal.returns-then-entry-eq1-clause-called
returns-then-entry-eq1-clause-called c =
    load_called _ (field_of c.args.object c.args.f) c.args.word c.load_mark-entry.result _ c.requires.caller.1.own (below_as (view c.args.s.now) (field_of c.args.object c.args.f) _ _ c.requires.spaced c.requires.inside) c.load_mark-entry.ensures.learned
    (marked_word c.load_mark-entry.result (let t = c.if-entry-eq0.false in λ e. absurd (omega (arith, t, e))) (let t = c.if-entry-eq1.true in omega (arith, t)))

pub returns-then-entry-eq1-clause-cause : goal.returns-then-entry-eq1-clause-cause
returns-then-entry-eq1-clause-cause c =
    load_cause _ (field_of c.args.object c.args.f) c.args.word c.load_mark-entry.result _ c.requires.caller.1.own (below_as (view c.args.s.now) (field_of c.args.object c.args.f) _ _ c.requires.spaced c.requires.inside) c.load_mark-entry.ensures.learned
    (marked_word c.load_mark-entry.result (let t = c.if-entry-eq0.false in λ e. absurd (omega (arith, t, e))) (let t = c.if-entry-eq1.true in omega (arith, t)))

pub returns-then-mark_step-entry-clause-called : goal.returns-then-mark_step-entry-clause-called
returns-then-mark_step-entry-clause-called c =
    exchange_called _ (field_of c.args.object c.args.f) c.args.word c.load_mark-entry.result _ c.requires.caller.1.own (below_as (view c.args.s.now) (field_of c.args.object c.args.f) _ _ c.requires.spaced c.requires.inside) c.load_mark-entry.ensures.learned
    (let t = c.if-entry-eq0.false in λ e. absurd (omega (arith, t, e))) (no_mark_word c.load_mark-entry.result (let t = c.if-entry-eq1.false in λ e. absurd (omega (arith, t, e)))) _ _ _ (exchanged_as _ (field_of c.args.object c.args.f) _ _ _ _ _ c.requires.spaced c.mark_step.ensures.learned)

pub returns-else-mark_step-entry-clause-called : goal.returns-else-mark_step-entry-clause-called
returns-else-mark_step-entry-clause-called c =
    exchange_called _ (field_of c.args.object c.args.f) c.args.word c.load_mark-entry.result _ c.requires.caller.1.own (below_as (view c.args.s.now) (field_of c.args.object c.args.f) _ _ c.requires.spaced c.requires.inside) c.load_mark-entry.ensures.learned
    (let t = c.if-entry-eq0.false in λ e. absurd (omega (arith, t, e))) (no_mark_word c.load_mark-entry.result (let t = c.if-entry-eq1.false in λ e. absurd (omega (arith, t, e)))) _ _ _ (exchanged_as _ (field_of c.args.object c.args.f) _ _ _ _ _ c.requires.spaced c.mark_step.ensures.learned)

pub returns-then-mark_step-entry-clause-cause : goal.returns-then-mark_step-entry-clause-cause
returns-then-mark_step-entry-clause-cause c =
    exchange_cause _ (field_of c.args.object c.args.f) c.args.word c.load_mark-entry.result _ c.requires.caller.1.own (below_as (view c.args.s.now) (field_of c.args.object c.args.f) _ _ c.requires.spaced c.requires.inside) c.load_mark-entry.ensures.learned
    (let t = c.if-entry-eq0.false in λ e. absurd (omega (arith, t, e))) (no_mark_word c.load_mark-entry.result (let t = c.if-entry-eq1.false in λ e. absurd (omega (arith, t, e)))) _ _ _ (exchanged_as _ (field_of c.args.object c.args.f) _ _ _ _ _ c.requires.spaced c.mark_step.ensures.learned)
    false (clear_word c.mark_step.result (let t = c.if-mark_step-entry.true in omega (arith, t)))

pub returns-else-mark_step-entry-clause-cause : goal.returns-else-mark_step-entry-clause-cause
returns-else-mark_step-entry-clause-cause c =
    exchange_cause _ (field_of c.args.object c.args.f) c.args.word c.load_mark-entry.result _ c.requires.caller.1.own (below_as (view c.args.s.now) (field_of c.args.object c.args.f) _ _ c.requires.spaced c.requires.inside) c.load_mark-entry.ensures.learned
    (let t = c.if-entry-eq0.false in λ e. absurd (omega (arith, t, e))) (no_mark_word c.load_mark-entry.result (let t = c.if-entry-eq1.false in λ e. absurd (omega (arith, t, e)))) _ _ _ (exchanged_as _ (field_of c.args.object c.args.f) _ _ _ _ _ c.requires.spaced c.mark_step.ensures.learned)
    true (c.mark_step.ensures.learned.found_marked (let t = c.if-mark_step-entry.false in λ e. absurd (omega (arith, t, e))))
