use Rattle.std.proofs.Common.{◌∙◌, ap, subst, arith}
use Rattle.entry_base.specs.Openings.{opening_of}
use Rattle.entry_base.specs.Views.{both}
use Rattle.entry_base.specs.Learned.{Met}
use Rattle.entry_base.proofs.JoinedEvents.{joined, joined_calls}
use Rattle.entry_base.proofs.JoinKeeps.{joins}
use Rattle.entry_base.proofs.Meets.{learns}
use Rattle.entry_base.proofs.TiedParts.{tied_both}
use Rattle.entry_base.proofs.sessions.Session.join.Goals as goal

pub join_seat-requires : goal.join_seat-requires
join_seat-requires c =
    let r = c.requires in
    let sized = c.args.shared.now.sized in
    let mine = c.args.self.now.tied in
    let theirs = c.args.other.tied in (
      r.callers.0.0,
      r.callers.1.0,
      c.args.other.bare,
      omega arith,
      joins (opening_of c.args.shared.now.table.shared.key) c.args.self.now.seat.id c.args.self.now.seat.me.0 c.args.other.seat.id c.args.other.seat.me.0
          (record { vars = mine.many; pending = mine.eight }) (record { vars = theirs.many; pending = theirs.eight }),
    )

pub load-requires : goal.load-requires
load-requires c =
    let r = c.requires in
    let sized = c.args.shared.now.sized in
    let e = c.join_seat.ensures in
    (e.0 ∙ r.callers.0.0, omega arith, learns (opening_of c.args.shared.now.table.shared.key) _ _ c.join_seat.new.seat.me 0 (ap (λ m. m.0.opening) e.2 ∙ r.callers.0.1.opened))

pub invariant_of-self : goal.invariant_of-self
invariant_of-self c =
    let e = c.join_seat.ensures in
    let l : Met (both c.args.self.now.seat.me.0 c.args.other.seat.me.0) c.load.new.seat.me.0 = subst (λ v. Met v c.load.new.seat.me.0) (ap (λ m. m.0) e.2) c.load.ensures.2.0 in
    record {
      bare = c.load.ensures.2.1 ∙ (ap (λ m. m.1) e.2 ∙ c.args.self.now.bare);
      tied = tied_both c.args.self.now.seat.me.0 c.args.other.seat.me.0 c.load.new.seat.me.0 _ _ c.args.self.now.tied c.args.other.tied l.loaded.same l.loaded.own l.once _ _ _ c.pick_numbers.ensures c.pick_vars.ensures c.pick_pending.ensures;
    }

pub returns-clause-joined : goal.returns-clause-joined
returns-clause-joined c =
    let e = c.join_seat.ensures in
    joined c.args.self.now.seat.me.0 c.args.other.seat.me.0 c.load.new.seat.me.0 (subst (λ v. Met v c.load.new.seat.me.0) (ap (λ m. m.0) e.2) c.load.ensures.2.0)

pub returns-clause-caller : goal.returns-clause-caller
returns-clause-caller c =
    let e = c.join_seat.ensures in
    let r = c.requires in (
      c.load.ensures.0 ∙ (e.0 ∙ r.callers.0.0),
      joined_calls (opening_of c.args.shared.now.table.shared.key) c.args.self.now.seat.me.0 c.args.other.seat.me.0 c.load.new.seat.me.0 r.callers.0.1 r.callers.1.1
          (joined c.args.self.now.seat.me.0 c.args.other.seat.me.0 c.load.new.seat.me.0 (subst (λ v. Met v c.load.new.seat.me.0) (ap (λ m. m.0) e.2) c.load.ensures.2.0)),
    )
