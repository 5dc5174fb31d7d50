use Rattle.std.proofs.Common.{◌∙◌, ap, subst, arith}
use Rattle.entry_base.specs.Openings.{opening_of}
use Rattle.entry_base.specs.Views.{absorber}
use Rattle.entry_base.specs.Learned.{Met}
use Rattle.entry_base.proofs.JoinKeeps.{absorbs}
use Rattle.entry_base.proofs.Meets.{learns}
use Rattle.entry_base.proofs.TiedParts.{tied_stays}
use Rattle.entry_base.proofs.JoinedEvents.{absorbed, absorbed_calls}
use Rattle.entry_base.proofs.sessions.Session.absorb.Goals as goal

pub join_seat-requires : goal.join_seat-requires
join_seat-requires c =
    let r = c.requires in
    let sized = c.args.shared.now.sized in
    (r.caller.0, r.chunk.0, c.args.chunk.bare, omega arith, absorbs (opening_of c.args.shared.now.table.shared.key) c.args.self.now.seat.id c.args.self.now.seat.me.0 c.args.chunk.seat.id c.args.chunk.seat.me.0 r.chunk.1.numbers)

pub load-requires : goal.load-requires
load-requires c =
    let r = c.requires in
    let sized = c.args.shared.now.sized in
    let e = c.join_seat.ensures in
    (e.0 ∙ r.caller.0, omega arith, learns (opening_of c.args.shared.now.table.shared.key) _ _ c.join_seat.new.seat.me 0 (ap (λ m. m.0.opening) e.2 ∙ r.caller.1.opened))

pub invariant_of-self : goal.invariant_of-self
invariant_of-self c =
    let e = c.join_seat.ensures in
    let l : Met (absorber c.args.self.now.seat.me.0 c.args.chunk.seat.me.0) c.load.new.seat.me.0 = subst (λ v. Met v c.load.new.seat.me.0) (ap (λ m. m.0) e.2) c.load.ensures.2.0 in
    record {
      bare = c.load.ensures.2.1 ∙ (ap (λ m. m.1) e.2 ∙ c.args.self.now.bare);
      tied = tied_stays c.args.self.now.seat.me.0 c.load.new.seat.me.0 _ l.loaded.same.opening l.loaded.same.number l.loaded.same.numbers l.loaded.own.vars l.loaded.own.pending c.args.self.now.tied;
    }

pub returns-clause-absorbed : goal.returns-clause-absorbed
returns-clause-absorbed c =
    let e = c.join_seat.ensures in
    absorbed c.args.self.now.seat.me.0 c.args.chunk.seat.me.0 c.load.new.seat.me.0 c.requires.chunk.1.numbers (subst (λ v. Met v c.load.new.seat.me.0) (ap (λ m. m.0) e.2) c.load.ensures.2.0)

pub returns-clause-caller : goal.returns-clause-caller
returns-clause-caller c =
    let e = c.join_seat.ensures in
    let r = c.requires in (
      c.load.ensures.0 ∙ (e.0 ∙ r.caller.0),
      absorbed_calls (opening_of c.args.shared.now.table.shared.key) c.args.self.now.seat.me.0 c.args.chunk.seat.me.0 c.load.new.seat.me.0 r.caller.1 r.chunk.1.hands
          (absorbed c.args.self.now.seat.me.0 c.args.chunk.seat.me.0 c.load.new.seat.me.0 r.chunk.1.numbers (subst (λ v. Met v c.load.new.seat.me.0) (ap (λ m. m.0) e.2) c.load.ensures.2.0)),
    )
