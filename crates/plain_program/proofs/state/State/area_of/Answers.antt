use Rattle.std.proofs.Common.{ℕ, ◌+◌, ◌*◌, ◌/◌, ◌≤◌, Option, sym, subst, arith}
use Rattle.std.specs.Prelude.{IfSome}
use Rattle.std.proofs.Math.Nat.{div-le_self}
use Rattle.plain_table.specs.declared.events.Space.TheVariants.{External}
use Rattle.plain_program.specs.Kept.{shown}
use Rattle.plain_table.proofs.AreaStarts.{area_start-le, greatest_below-lt, segments-le}
use Rattle.plain_program.proofs.UsedCounts.{count_below-segments}
use Rattle.plain_program.proofs.state.State.area_of.Goals as goal

pub overflow_add-greatest : goal.overflow_add-greatest
overflow_add-greatest c =
    let s = shown c.args.self.now in
    let below = greatest_below-lt (s.used External) (s.sizes.seg * s.sizes.ext) c.in_ok-greatest.greatest (sym c.in_ok-greatest.ensures) in
    omega (arith, below, div-le_self c.in_ok-greatest.greatest c.segment-seg.result, c.segment-seg.ensures.all)

pub decide-requires-clause-room : goal.decide-requires-clause-room
decide-requires-clause-room c =
    let s = shown c.args.self.now in
    let most = segments-le (s.used External) c.segment-seg.result s.sizes.seg s.sizes.ext c.in_ok-greatest.greatest c.segment-seg.ensures.entries c.segment-seg.ensures.some
    (sym c.in_ok-greatest.ensures) in
    omega (arith, most, c.segment-seg.ensures.all)

pub decide-requires-clause-used : goal.decide-requires-clause-used
decide-requires-clause-used c =
    let s = shown c.args.self.now in
    let counted = count_below-segments (s.used External) (s.sizes.seg * s.sizes.ext) c.in_ok-greatest.greatest c.segment-seg.result c.segment-seg.ensures.some
    (sym c.in_ok-greatest.ensures) in
    (omega (arith, counted.0, c.used_count.ensures), omega (arith, counted.1, c.used_count.ensures))

pub returns-clause-within : goal.returns-clause-within
returns-clause-within c =
    let s = shown c.args.self.now in
    let most = segments-le (s.used External) c.segment-seg.result s.sizes.seg s.sizes.ext c.in_ok-greatest.greatest c.segment-seg.ensures.entries c.segment-seg.ensures.some
    (sym c.in_ok-greatest.ensures) in
    subst (λ (start : Option ℕ). IfSome start (λ first. first ≤ 65536)) (sym c.decide.ensures.rule)
    (area_start-le c.args.policy (1 + c.in_ok-greatest.greatest / c.segment-seg.result) c.used_count.result c.segment-seg.result 65536
    (omega (arith, most, c.segment-seg.ensures.all)))
