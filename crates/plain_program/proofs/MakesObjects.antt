-- What the code of the events of objects found and set makes the event's step.
use Rattle.std.proofs.Common.{◌≡◌, ℕ, ◌+◌, ◌<◌, nat_lt, Bool, true, Option, Some, None, arith, lt-ltb, sym, ◌∙◌, ap}
use Rattle.std.specs.Prelude.{if◌then◌else◌}
use Rattle.std.specs.Option.{option_map_or}
use Rattle.plain_table.specs.declared.events.Act.TheVariants.{New, Drop, Get, Link}
use Rattle.plain_table.specs.declared.events.Spot.{Spot}
use Rattle.plain_table.specs.declared.reports.Reply.{Reply}
use Rattle.plain_table.specs.declared.reports.Reply.TheVariants as reply
use Rattle.plain_table.specs.Places.{put_pair}
use Rattle.plain_table.specs.Cycle.{born_in}
use Rattle.plain_table.specs.Table.{Table}
use Rattle.plain_table.specs.Rows.{IsSpotOf, IsFull, at_spot, object_in, with_object, with_linked}
use Rattle.plain_table.specs.Shapes.{event}
use Rattle.plain_program.specs.Kept.{Kept, shown}
use Rattle.plain_program.specs.Steps.{Steps}

pub makes_new : (old k1 k2 new : Kept) (b var o n : ℕ) (said : Reply) → b < 8 → var < 16 → o ≡ old.count → n ≡ old.limits.objects → o < n →
    said ≡ reply.Obj o →
    shown k1 ≡ record (shown old) { vars = put_pair (shown old).vars b var (Some o) } →
    shown k2 ≡ record (shown k1) { count = (shown k1).count + 1 } →
    shown new ≡ record (shown k2) { cycle = born_in (shown k2).cycle o } →
    k1.spent ≡ old.spent → k2.spent ≡ k1.spent → new.spent ≡ k2.spent → Steps true old new (event b (New var) said)
makes_new old k1 k2 new b var o n said mutator variable counted most less is e1 e2 e3 s1 s2 s3 =
    let below : old.count < old.limits.objects = omega arith in
    let room : nat_lt old.count old.limits.objects ≡ true = lt-ltb old.count old.limits.objects below in
    let made : ℕ → Table = λ (x : ℕ). record (shown old) {
      vars = put_pair (shown old).vars b var (Some x);
      count = old.count + 1;
      cycle = born_in (shown old).cycle x;
    } in (
      ((mutator, variable), is ∙ ap reply.Obj counted ∙ sym (ap (λ (test : Bool). if test then reply.Obj old.count else reply.HeapFull) room)),
      e3 ∙ ap (λ (t : Table). record t { cycle = born_in t.cycle o }) (
          e2 ∙ ap (λ (t : Table). record t { count = t.count + 1 }) e1)
          ∙ ap made counted
          ∙ sym (ap (λ (test : Bool). if test then with_object (shown old) b var else shown old) room),
      s3 ∙ s2 ∙ s1,
    )

pub makes_drop : (old new : Kept) (b var : ℕ) (said : Reply) → b < 8 → var < 16 → said ≡ reply.Ok →
    shown new ≡ record (shown old) { vars = put_pair (shown old).vars b var None } →
    new.spent ≡ old.spent → Steps true old new (event b (Drop var) said)
makes_drop old new b var said mutator variable is e s = (((mutator, variable), is), e, s)

pub makes_get : (old new : Kept) (b var : ℕ) (spot : Spot) (object : Option ℕ) (said : Reply) → b < 8 → var < 16 → IsSpotOf (shown old) b spot →
    object ≡ at_spot (shown old) spot → said ≡ option_map_or reply.Obj object reply.Nothing →
    shown new ≡ record (shown old) { vars = put_pair (shown old).vars b var object } →
    new.spent ≡ old.spent → Steps true old new (event b (Get var spot) said)
makes_get old new b var spot object said mutator variable at found is e s = (
  ((mutator, variable, at), is ∙ ap (λ (x : Option ℕ). option_map_or reply.Obj x reply.Nothing) found),
  e ∙ ap (λ (x : Option ℕ). record (shown old) { vars = put_pair (shown old).vars b var x }) found,
  s,
)

pub makes_link : (old new : Kept) (b : ℕ) (spot : Spot) (var object : Option ℕ) (said : Reply) → IsSpotOf (shown old) b spot → IsFull (shown old) b var →
    object ≡ object_in (shown old) b var → said ≡ reply.Ok →
    shown new ≡ with_linked (shown old) spot object →
    new.spent ≡ old.spent → Steps true old new (event b (Link spot var) said)
makes_link old new b spot var object said at full found is e s =
    (((at, full), is), e ∙ ap (λ (x : Option ℕ). with_linked (shown old) spot x) found, s)
