use Rattle.std.proofs.Common.{◌≡◌, ◌∙◌, sym, ap, subst, arith, length}
use Rattle.std.proofs.lemmas.List.{with_items_is}
use Rattle.std.specs.Vec.{with_items}
use Rattle.std.specs.Slots.{slots_items}
use Rattle.entry_base.specs.Sessions.{view}
use Rattle.entry_base.specs.Openings.{opening_of, sizes_in}
use Rattle.entry_base.specs.Callers.{IsClosed}
use Rattle.entry_base.specs.Closing.{IsTableClosed}
use Rattle.entry_base.specs.Hands.{LeavesToScan}
use Rattle.entry_base.proofs.LastImage.{Last, last_of, last_long, read_more, read_all, ends_opened}
use Rattle.entry_base.proofs.table.Shared.finish.Goals as goal

pub loop-i-preserved : goal.loop-i-preserved
loop-i-preserved c =
    read_more (slots_items c.close_with-closed.result.words) c.loop-i.words.items _ c.loop-i.i c.word.result c.loop-i.invariant
    (let t = c.loop-i-test.true in let l = c.len-i-end.ensures in omega arith) c.word.ensures

pub returns : goal.returns
returns c =
    let key = opening_of c.args.self.table.shared.key in
    let l : Last key (slots_items c.close_with-closed.result.words) (view c.args.session) = last_of key c.args.session.seat.id (view c.args.session) (slots_items c.close_with-closed.result.words) (slots_items c.close_with-closed.result.slots) c.close_with-closed.ensures.values.2 in
    let roomy = c.args.self.roomy in
    let sized = c.args.self.sized in
    let tied = c.args.session.tied in
    let read : c.loop-i.words.items ≡ slots_items c.close_with-closed.result.words = read_all (slots_items c.close_with-closed.result.words) c.loop-i.words.items _ c.loop-i.i c.loop-i.invariant
    (let t = c.loop-i-test.false in let n = c.len-i-end.ensures in omega arith) (last_long key _ _ l ∙ (sym sized ∙ sym roomy.words)) in
    let shaped : sizes_in (opening_of c.args.self.room) ≡ sizes_in key = ap sizes_in roomy.opened in
    let image = opening_of (record c.args.self.room { words = with_items c.loop-i.words c.close_table.new.words; vars = with_items c.args.self.room.vars c.copy_vars.new.to; pending = with_items c.args.self.room.pending c.copy_pending.new.to }) in
    let ends : IsClosed (view c.args.session).opening (view c.args.session).seen image × LeavesToScan (view c.args.session) image = ends_opened key (slots_items c.close_with-closed.result.words) c.close_table.new.words (view c.args.session) l c.requires.caller.1.opened c.requires.all tied.many tied.eight
    (subst (λ z. IsTableClosed z (slots_items c.close_with-closed.result.words) c.close_table.new.words) shaped
    (subst (λ ws. IsTableClosed (sizes_in (opening_of c.args.self.room)) ws c.close_table.new.words) (c.as_mut_slice.ensures.value ∙ read) c.close_table.ensures))
    _ (ap (λ k. k.shape) roomy.opened)
    (with_items_is c.loop-i.words c.close_table.new.words (let a = c.close_table.ensures.trusted.long in let b = c.close_table.ensures.external.long in let d = c.as_mut_slice.ensures.len in let e = ap length c.as_mut_slice.ensures.value in omega arith))
    (with_items_is c.args.self.room.vars c.copy_vars.new.to (let a = ap length (c.copy_vars.ensures ∙ tied.vars) in let b = tied.many in let d = roomy.vars in omega arith) ∙ (c.copy_vars.ensures ∙ tied.vars))
    (with_items_is c.args.self.room.pending c.copy_pending.new.to (let a = ap length (c.copy_pending.ensures ∙ tied.pending) in let b = tied.eight in let d = roomy.pending in omega arith) ∙ (c.copy_pending.ensures ∙ tied.pending)) in
    record {
      closed = ends.0;
      left = ends.1;
      lawful = (ends.0.openable.base, ends.0.openable.is_base.sound, ends.0.openable.is_base.shows, ends.0.openable.is_base.covered);
    }
