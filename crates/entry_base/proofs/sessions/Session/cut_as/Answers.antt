use Rattle.std.proofs.Common.{◌≡◌, ◌∙◌, sym, ap, subst, arith, List, ℕ}
use Rattle.entry_base.specs.Openings.{opening_of}
use Rattle.entry_base.specs.Callers.{IsCaller}
use Rattle.entry_base.specs.Sessions.{IsPart}
use Rattle.entry_base.specs.Views.{chunk_view, cutter}
use Rattle.entry_base.proofs.TiedParts.{cut_calls, cuts_as, tied_stays}
use Rattle.entry_base.proofs.sessions.Session.cut_as.Goals as goal

pub split_seat-seat-requires : goal.split_seat-seat-requires
split_seat-seat-requires g c =
    let r = c.requires in
    let sized = c.args.shared.now.sized in
    (r.caller.0, omega arith, cuts_as (opening_of c.args.shared.now.table.shared.key) c.args.self.now.seat.id c.args.self.now.seat.me.0 g.N.Giving.owed c.args.objects.items r.picked r.caller.1.own r.objects)

pub invariant_of-self : goal.invariant_of-self
invariant_of-self g c =
    let e = c.split_seat-seat.ensures in
    let is : c.split_seat-seat.new.seat.me.0 ≡ cutter g.N.Giving.owed c.args.self.now.seat.me.0 = ap (λ m. m.0) e.2 in
    record {
      bare = ap (λ m. m.1) e.2 ∙ c.args.self.now.bare;
      tied = tied_stays c.args.self.now.seat.me.0 _ _ (ap (λ v. v.opening) is) (ap (λ v. v.number) is) (ap (λ v. v.numbers) is) (ap (λ v. v.vars) is) (ap (λ v. v.pending) is) c.args.self.now.tied;
    }

pub invariant_of-result : goal.invariant_of-result
invariant_of-result g c =
    let e = c.split_seat-seat.ensures in
    record {
      bare = ap (λ m. m.1) e.4;
      whole = ap (λ m. m.0.hands) e.4 ∙ c.requires.picked;
    }

pub returns-clause-caller : goal.returns-clause-caller
returns-clause-caller g c =
    let r = c.requires in
    let e = c.split_seat-seat.ensures in
    let key = opening_of c.args.shared.now.table.shared.key in
    let v = c.args.self.now.seat.me.0 in
    let both_can = cut_calls key c.args.objects.items v r.caller.1 r.objects in
    let left : c.split_seat-seat.new.seat.me.0 ≡ cutter c.args.objects.items v = ap (λ m. m.0) e.2 ∙ ap (λ (l : List ℕ). cutter l v) r.picked in
    let right : c.split_seat-seat.result.me.0 ≡ chunk_view c.args.objects.items v = ap (λ m. m.0) e.4 ∙ ap (λ (l : List ℕ). chunk_view l v) r.picked in
    ((e.0 ∙ r.caller.0, subst (IsCaller key) (sym left) both_can.0), (e.3 ∙ r.caller.0, subst (IsPart key) (sym right) both_can.1))
