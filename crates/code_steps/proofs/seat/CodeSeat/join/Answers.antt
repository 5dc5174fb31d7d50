use Rattle.std.proofs.Common.{◌≡◌, ℕ, ◌∙◌, sym, ap, subst, length, arith}
use Rattle.code_steps.specs.declared.view.View.{View}
use Rattle.code_steps.specs.Lists.{StartsWith, list_at, total}
use Rattle.code_steps.specs.Views.{both, known_at}
use Rattle.code_steps.specs.Seats.{HasPlace}
use Rattle.code_steps.proofs.JoinKeeps.{joins, both_place, begins_both, both_known}
use Rattle.code_steps.proofs.Whole.{learns}
use Rattle.code_steps.proofs.seat.CodeSeat.join.Goals as goal

pub join_seat-requires : goal.join_seat-requires
join_seat-requires c =
    let r = c.requires in
    let sized = r.0.0.1.sized in
    let low = r.0.0.1.at in
    (r.0.0.0, r.1.0.0, c.args.other.bare, omega arith, joins _ c.args.self.now.seat.me.0 _ c.args.other.seat.me.0 r.0.0.1.some r.0.1 r.1.0.1.some r.1.1)

pub load-requires : goal.load-requires
load-requires c =
    let r = c.requires in
    let sized = r.0.0.1.sized in
    let low = r.0.0.1.at in
    let e = c.join_seat.ensures in
    let some = r.0.0.1.some in
    let parts : c.join_seat.new.seat.me.0.parts ≡ (both c.args.self.now.seat.me.0 c.args.other.seat.me.0).parts = ap (λ m. m.0.parts) e.2 in
    (e.0 ∙ r.0.0.0, omega arith, learns _ _ c.join_seat.new.seat.me 1 (omega arith) (ap (λ m. m.0.holds) e.2 ∙ r.0.1))

pub returns-clause-caller : goal.returns-clause-caller
returns-clause-caller c =
    let r = c.requires in
    let e = c.join_seat.ensures in
    let l = c.load.ensures in
    let is : c.load.new.seat.me.0 ≡ both c.args.self.now.seat.me.0 c.args.other.seat.me.0 = l.2.0 ∙ ap (λ m. m.0) e.2 in
    ((l.0 ∙ (e.0 ∙ r.0.0.0), subst (HasPlace _) (sym is) (both_place _ c.args.self.now.seat.me.0 c.args.other.seat.me.0 r.0.0.1 r.1.0.1)), ap (λ (v : View). v.holds) is ∙ r.0.1)

pub returns-clause-joined : goal.returns-clause-joined
returns-clause-joined c = c.load.ensures.2.0 ∙ ap (λ m. m.0) c.join_seat.ensures.2

pub returns-clause-seen : goal.returns-clause-seen
returns-clause-seen c =
    let r = c.requires in
    let e = c.join_seat.ensures in
    let l = c.load.ensures in
    let was : c.join_seat.new.seat.me.0 ≡ both c.args.self.now.seat.me.0 c.args.other.seat.me.0 = ap (λ m. m.0) e.2 in
    let same : length c.args.self.now.seat.me.0.seen ≡ length c.args.other.seat.me.0.seen = let a = r.0.0.1.sized in let b = r.1.0.1.sized in omega arith in
    let common : (i : ℕ) → StartsWith (list_at (both c.args.self.now.seat.me.0 c.args.other.seat.me.0).seen i) (list_at (both c.args.self.now.seat.me.0 c.args.other.seat.me.0).common i) = subst (λ (v : View). (i : ℕ) → StartsWith (list_at v.seen i) (list_at v.common i)) was l.2.1.common in
    subst (λ (v : View). (i : ℕ) → StartsWith (list_at v.seen i) (list_at c.args.self.now.seat.me.0.seen i) × StartsWith (list_at v.seen i) (list_at c.args.other.seat.me.0.seen i)) (sym (l.2.0 ∙ was))
    (begins_both c.args.self.now.seat.me.0 c.args.other.seat.me.0 same common)

pub returns-clause-known : goal.returns-clause-known
returns-clause-known c = λ i weight.
    let r = c.requires in
    let is : c.load.new.seat.me.0 ≡ both c.args.self.now.seat.me.0 c.args.other.seat.me.0 = c.load.ensures.2.0 ∙ ap (λ m. m.0) c.join_seat.ensures.2 in
    ap (λ (v : View). total weight (known_at v i)) is ∙ both_known _ c.args.self.now.seat.me.0 c.args.other.seat.me.0 i weight r.0.0.1 r.1.0.1
