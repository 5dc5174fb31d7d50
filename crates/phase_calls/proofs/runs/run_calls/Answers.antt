-- Each turn makes one call more.
use Rattle.std.proofs.Common.{◌≡◌, ◌+◌, List, [], ◌∷◌, ◌++◌, length, get_or, take, refl, sym, ap, subst, ◌∙◌, arith, length-append}
use Rattle.std.proofs.lemmas.List.{take_more, take_all}
use Rattle.plain_table.specs.declared.scripts.Op.{Op}
use Rattle.plain_table.specs.declared.scripts.Op.TheVariants.{New}
use Rattle.plain_table.specs.declared.reports.Reply.{Reply}
use Rattle.entry_base.specs.Sessions.{view}
use Rattle.phase_calls.specs.Calls.{MakesInTurn}
use Rattle.phase_calls.proofs.LinksInOrder.{MakesInTurn-none, MakesInTurn-push}
use Rattle.phase_calls.proofs.runs.run_calls.Goals as goal

pub loop-call-init : goal.loop-call-init
loop-call-init g c = (
  c.requires.caller,
  refl,
  subst (λ (said : List Reply). MakesInTurn (view c.args.s.now) [] said (view c.args.s.now)) (sym c.requires.room.0) (MakesInTurn-none (view c.args.s.now)),
  ap length c.requires.room.0,
  refl,
)

pub loop-call-preserved : goal.loop-call-preserved
loop-call-preserved g c =
    let before = c.loop-call.invariant in
    let call = get_or c.args.calls.now c.loop-call.call-index (New 0) in
    let more = MakesInTurn-push (view c.args.s.now) (view c.loop-call.s) (view c.make_call-said.new.s) (take c.loop-call.call-index c.args.calls.now)
    c.loop-call.replies.items call c.make_call-said.result before.2 c.make_call-said.ensures.makes in
    let longer : take (c.loop-call.call-index + 1) c.args.calls.now ≡ take c.loop-call.call-index c.args.calls.now ++ call ∷ [] =
    take_more c.args.calls.now c.loop-call.call-index (New 0) c.loop-call-test.true in
    let listed = ap length c.push_reserved.ensures.items in
    let one_more = length-append c.loop-call.replies.items (c.make_call-said.result ∷ []) in
    let many = before.3 in
    let number = before.4 in (
      c.make_call-said.ensures.caller,
      c.make_call-said.ensures.makes.made.called.same.number ∙ before.1,
      subst (λ (calls : List Op). MakesInTurn (view c.args.s.now) calls c.push_reserved.new.self.items (view c.make_call-said.new.s)) (sym longer)
          (subst (λ (said : List Reply). MakesInTurn (view c.args.s.now) (take c.loop-call.call-index c.args.calls.now ++ call ∷ []) said (view c.make_call-said.new.s))
          (sym {A = List Reply} c.push_reserved.ensures.items) more),
      omega (arith, listed, one_more, many),
      omega (arith, number),
    )

pub returns-clause-makes : goal.returns-clause-makes
returns-clause-makes g c =
    subst (λ (calls : List Op). MakesInTurn (view c.args.s.now) calls c.loop-call.replies.items (view c.loop-call.s))
    (take_all c.loop-call.call-index c.args.calls.now c.loop-call-test.false) c.loop-call.invariant.2
