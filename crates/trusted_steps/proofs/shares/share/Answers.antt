use Rattle.std.proofs.Common.{ℕ, IfSome, ◌∙◌, sym, subst}
use Rattle.entry_base.specs.Sessions.{view, held_in}
use Rattle.trusted_steps.proofs.SharedMarks.{Made-share, Made-share_from, Made-share_to}
use Rattle.trusted_steps.specs.Causes.{HeldWord, IsShareAtEvent}
use Rattle.trusted_steps.proofs.shares.share.Goals as goal

pub returns-in-None-clause-made : goal.returns-in-None-clause-made
returns-in-None-clause-made c = Made-share_from (view c.args.s.now) c.args.from c.args.to c.requires.range.0 (sym c.held.ensures ∙ c.in-None.is)

pub returns-in-None-held-clause-made : goal.returns-in-None-held-clause-made
returns-in-None-held-clause-made c =
    Made-share_to (view c.args.s.now) c.args.from c.args.to c.in-Some.source c.requires.range.0 c.requires.range.1 (sym c.held.ensures ∙ c.in-Some.is)
    (sym c.held-in-Some.ensures ∙ c.in-None-held.is)

pub returns-in-Some-held-clause-made : goal.returns-in-Some-held-clause-made
returns-in-Some-held-clause-made c =
    Made-share (view c.args.s.now) (view c.share_entry.new.s) c.args.from c.args.to c.in-Some.source c.in-Some-held.target c.share_entry.result c.requires.range.0 c.requires.range.1
    (sym c.held.ensures ∙ c.in-Some.is) (sym c.held-in-Some.ensures ∙ c.in-Some-held.is) c.share_entry.ensures.shares c.share_entry.ensures.leaves

pub returns-in-Some-held-clause-answer : goal.returns-in-Some-held-clause-answer
returns-in-Some-held-clause-answer c =
    let u = view c.args.s.now in
    let w = view c.share_entry.new.s in
    subst (λ x. IfSome x (λ source. IfSome (held_in u c.args.to) (λ target. (word : ℕ) × HeldWord u source word w × IsShareAtEvent w target word c.share_entry.result))) (sym (sym c.held.ensures ∙ c.in-Some.is))
    (subst (λ x. IfSome x (λ target. (word : ℕ) × HeldWord u c.in-Some.source word w × IsShareAtEvent w target word c.share_entry.result)) (sym (sym c.held-in-Some.ensures ∙ c.in-Some-held.is)) c.share_entry.ensures.answer)
