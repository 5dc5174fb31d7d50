use Rattle.std.proofs.Common.{◌+◌, ◌^◌, ◌==◌, ◌∙◌, refl}
use prog.Atomic.{either}
use Rattle.plain_table.specs.Index.{index_of}
use Rattle.entry_base.specs.Passed.{field_of}
use Rattle.entry_base.proofs.Steps.{learned_at}
use Rattle.entry_base.proofs.OneByOne.{caller_same}
use Rattle.entry_base.proofs.TiedParts.{tied_stays}
use Rattle.mark_rule.specs.Marking.{MarkExchanged}
use Rattle.mark_rule.proofs.EntryMarks.{marks}
use Rattle.mark_rule.proofs.marks.mark_step_as.Goals as goal

pub compare_exchange-requires : goal.compare_exchange-requires
compare_exchange-requires g c =
    let r = c.requires in
    let sized = c.args.shared.now.sized in
    let limits = c.args.shared.now.limits in
    let made = c.args.shared.now.made in (
      r.caller.0,
      c.entry_place.ensures.inside,
      learned_at _ _ _ c.args.s.now.seat.me _ _ (λ n. either (n == c.args.entry) (c.args.entry + 2 ^ 62) n) _ (λ found w. MarkExchanged c.args.s.now.seat.me.0 c.args.space (index_of c.args.word) c.args.entry found w) _ (c.entry_place.ensures.place) (λ n. refl) (λ n w learned. (r.picked n c.args.s.now.seat.me.0 w).1 learned)
          (marks _ _ _ c.args.s.now.seat.me (field_of c.args.object c.args.f) c.args.word c.args.entry c.args.space r.spaced r.caller.1 r.inside r.touched r.loaded r.unmarked),
    )

pub invariant_of-s : goal.invariant_of-s
invariant_of-s g c =
    let r = c.requires in
    let t : MarkExchanged c.args.s.now.seat.me.0 c.args.space (index_of c.args.word) c.args.entry c.compare_exchange.result c.compare_exchange.new.seat.me.0 = (r.picked _ c.args.s.now.seat.me.0 _).0 c.compare_exchange.ensures.2.0 in
    record {
      bare = c.compare_exchange.ensures.2.1 ∙ c.args.s.now.bare;
      tied = tied_stays c.args.s.now.seat.me.0 _ _ (t.marked.same).opening (t.marked.same).number (t.marked.same).numbers (t.marked.own.vars) (t.marked.own.pending) c.args.s.now.tied;
    }

pub returns-clause-caller : goal.returns-clause-caller
returns-clause-caller g c =
    let r = c.requires in
    let t : MarkExchanged c.args.s.now.seat.me.0 c.args.space (index_of c.args.word) c.args.entry c.compare_exchange.result c.compare_exchange.new.seat.me.0 = (r.picked _ c.args.s.now.seat.me.0 _).0 c.compare_exchange.ensures.2.0 in
    (c.compare_exchange.ensures.0 ∙ r.caller.0, caller_same _ c.args.s.now.seat.me.0 _ r.caller.1 (t.marked.same) (t.marked.extends.lawful) (t.marked.own.vars) (t.marked.own.pending) (t.marked.hands))
