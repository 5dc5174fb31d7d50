use Rattle.std.proofs.Common.{rules, ◌≡◌, length, sym, ◌∙◌, subst, arith, length-set, ext_get_or}
use Rattle.std.specs.Slots.{slots_items}
use Rattle.code_steps.specs.Seats.{view, ShowLast}
use Rattle.code_steps.proofs.Closing.{words_read, closes}
use Rattle.code_steps.proofs.table.CodeTable.finish.Goals as goal

pub loop-i-preserved : goal.loop-i-preserved
loop-i-preserved c = record { room = search (rules, length-set); done = search (rules, words_read) }

pub returns-clause-last : goal.returns-clause-last
returns-clause-last c =
    let end = closes c.args.seat.seat.id (view c.args.seat) (slots_items c.close_with-closed.result.words) (slots_items c.close_with-closed.result.slots) c.requires.parts c.requires.caller.1 c.close_with-closed.ensures.values.2 in
    let i = c.loop-i.invariant in
    let sized = c.requires.caller.0.1.sized in
    let e = end.1.size in
    let roomy = c.args.self.roomy in
    let long : length c.loop-i.room.items ≡ length (slots_items c.close_with-closed.result.words) = i.room ∙ (roomy ∙ (sized ∙ sym e)) in
    let same : c.loop-i.room.items ≡ slots_items c.close_with-closed.result.words = ext_get_or 0 c.loop-i.room.items (slots_items c.close_with-closed.result.words) long (λ k l. i.done k (let t = c.loop-i-test.false in let n = c.len-i-end.ensures in let r = i.room in omega arith)) in
    subst (λ ws. ShowLast ws (view c.args.seat)) (sym same) end.1

pub returns-clause-whole : goal.returns-clause-whole
returns-clause-whole c = (closes c.args.seat.seat.id (view c.args.seat) (slots_items c.close_with-closed.result.words) (slots_items c.close_with-closed.result.slots) c.requires.parts c.requires.caller.1 c.close_with-closed.ensures.values.2).0
