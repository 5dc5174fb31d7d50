use Rattle.std.proofs.Common.{◌∙◌, refl, replicate, false, sym, ap, subst, arith}
use Rattle.entry_base.specs.Openings.{opening_of}
use Rattle.entry_base.specs.Tied.{IsTied}
use Rattle.entry_base.proofs.TiedParts.{blank, tied_giver, tied_newcomer, splits_as, split_leaves}
use Rattle.entry_base.proofs.sessions.Session.split_as.Goals as goal

pub split_seat-seat-requires : goal.split_seat-seat-requires
split_seat-seat-requires g c =
    let r = c.requires in
    let sized = c.args.shared.now.sized in
    (r.caller.0, omega arith, splits_as (opening_of c.args.shared.now.table.shared.key) c.args.self.now.seat.id c.args.self.now.seat.me.0 g.N.Giving.number c.args.number g.N.Giving.owed c.args.owed.now r.picked.0 r.picked.1 r.caller.1.own r.number.0 r.number.1 r.owed)

pub invariant_of-self : goal.invariant_of-self
invariant_of-self g c =
    let r = c.requires in
    let e = c.split_seat-seat.ensures in
    let leaves = split_leaves (opening_of c.args.shared.now.table.shared.key) c.args.self.now.seat.me.0 c.split_seat-seat.new.seat.me.0 c.split_seat-seat.result.me.0 g.N.Giving.number c.args.number g.N.Giving.owed c.args.owed.now r.picked.0 r.picked.1 r.caller.1 r.number.0 r.number.1 r.owed (ap (λ m. m.0) e.2) (ap (λ m. m.0) e.4) in
    record {
      bare = ap (λ m. m.1) e.2 ∙ c.args.self.now.bare;
      tied = subst (IsTied _) (sym leaves.left_is) (tied_giver c.args.number (omega (arith, r.number.2)) c.args.owed.now c.args.self.now.seat.me.0 _ c.args.self.now.tied r.number.0);
    }

pub returns-clause-callers : goal.returns-clause-callers
returns-clause-callers g c =
    let r = c.requires in
    let e = c.split_seat-seat.ensures in
    let leaves = split_leaves (opening_of c.args.shared.now.table.shared.key) c.args.self.now.seat.me.0 c.split_seat-seat.new.seat.me.0 c.split_seat-seat.result.me.0 g.N.Giving.number c.args.number g.N.Giving.owed c.args.owed.now r.picked.0 r.picked.1 r.caller.1 r.number.0 r.number.1 r.owed (ap (λ m. m.0) e.2) (ap (λ m. m.0) e.4) in
    ((e.0 ∙ r.caller.0, leaves.left_calls), (e.3 ∙ r.caller.0, leaves.right_calls))

pub invariant_of-result : goal.invariant_of-result
invariant_of-result g c =
    let r = c.requires in
    let e = c.split_seat-seat.ensures in
    let leaves = split_leaves (opening_of c.args.shared.now.table.shared.key) c.args.self.now.seat.me.0 c.split_seat-seat.new.seat.me.0 c.split_seat-seat.result.me.0 g.N.Giving.number c.args.number g.N.Giving.owed c.args.owed.now r.picked.0 r.picked.1 r.caller.1 r.number.0 r.number.1 r.owed (ap (λ m. m.0) e.2) (ap (λ m. m.0) e.4) in
    record {
      bare = ap (λ m. m.1) e.4;
      tied = subst (IsTied _) (sym leaves.right_is) (tied_newcomer c.args.number (omega (arith, r.number.2)) c.args.owed.now c.args.self.now.seat.me.0 _ c.args.self.now.tied r.number.0 (replicate 13 false) refl (blank 13));
    }
