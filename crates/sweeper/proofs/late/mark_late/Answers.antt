use Rattle.std.proofs.Common.{◌≡◌, ◌≤◌, ◌+◌, ℕ, List, length, sym, ap, subst, ◌∙◌, arith}
use Rattle.plain_table.specs.Cycle.{Cycle}
use Rattle.plain_table.specs.Table.{Sizes, Table}
use Rattle.sweeper.specs.Late.{AreOwed, IsLateStart}
use Rattle.plain_table.specs.Sweeps.{Was_linked}
use Rattle.sweeper.specs.Shading.{white_in}
use Rattle.entry_word.specs.Image.{sizes_of}
use Rattle.sweeper.proofs.LateSteps.{late-room, global-few, variable-few, marking-roots, NothingOwed-late, IsLateEnd-late}
use Rattle.sweeper.proofs.late.mark_late.Goals as goal

first-room : (w vars shaded l1 : List ℕ) (z : Sizes) (s : Table) (c : Cycle) → IsLateStart w vars z s c → AreOwed w shaded → length l1 ≡ s.sizes.objects → length shaded + white_in w (length l1) ≤ length l1
first-room w vars shaded l1 z s c start owed many = subst (λ n. length shaded + white_in w n ≤ n) (sym many) (late-room w vars shaded z s c start owed)

next-room : (len end : ℕ) (w now l1 l2 : List ℕ) → len + white_in w (length l1) ≤ length l1 → end + white_in now (length l1) ≡ len + white_in w (length l1) → length l2 ≡ length l1 → end + white_in now (length l2) ≤ length l2
next-room len end w now l1 l2 before same long =
    let fits : end + white_in now (length l1) ≤ length l1 = omega (arith, before, same) in
    subst (λ n. end + white_in now n ≤ n) (sym long) fits

pub list_first-requires : goal.list_first-requires
list_first-requires c =
    let some = c.requires.some in
    let room = late-room c.args.words.now c.args.variables.now c.args.shaded.now (sizes_of c.args.shape) some.0 some.1 some.2 c.requires.owed in
    let objects : some.0.sizes.objects ≡ c.args.shape.objects = ap (λ (z : Sizes). z.objects) some.2.shown.same in
    omega (arith, room, objects, c.requires.many)

pub shade_words-len-requires-clause-objects : goal.shade_words-len-requires-clause-objects
shade_words-len-requires-clause-objects c = λ k less.
    let some = c.requires.some in
    let small = global-few c.args.words.now c.args.variables.now c.args.shaded.now (sizes_of c.args.shape) some.0 some.1 some.2 c.requires.owed k less in
    let objects : some.0.sizes.objects ≡ c.args.shape.objects = ap (λ (z : Sizes). z.objects) some.2.shown.same in
    omega (arith, small, objects, c.requires.many, c.list_first.auto.list)

pub shade_words-len-requires-clause-room : goal.shade_words-len-requires-clause-room
shade_words-len-requires-clause-room c =
    let some = c.requires.some in
    let room = late-room c.args.words.now c.args.variables.now c.args.shaded.now (sizes_of c.args.shape) some.0 some.1 some.2 c.requires.owed in
    let objects : some.0.sizes.objects ≡ c.args.shape.objects = ap (λ (z : Sizes). z.objects) some.2.shown.same in
    let many : length c.list_first.new.list ≡ some.0.sizes.objects = c.list_first.auto.list ∙ c.requires.many ∙ sym objects in
    subst (λ n. length c.args.shaded.now + white_in c.args.words.now n ≤ n) (sym many) room

pub shade_variables-end-requires-clause-objects : goal.shade_variables-end-requires-clause-objects
shade_variables-end-requires-clause-objects c = λ k less.
    let some = c.requires.some in
    let small = variable-few c.args.words.now c.args.variables.now c.args.shaded.now (sizes_of c.args.shape) some.0 some.1 some.2 c.requires.owed k less in
    let objects : some.0.sizes.objects ≡ c.args.shape.objects = ap (λ (z : Sizes). z.objects) some.2.shown.same in
    omega (arith, small, objects, c.requires.many, c.list_first.auto.list, c.shade_words-len.auto.list)

pub shade_variables-end-requires-clause-room : goal.shade_variables-end-requires-clause-room
shade_variables-end-requires-clause-room c =
    let some = c.requires.some in
    let many : length c.list_first.new.list ≡ some.0.sizes.objects = c.list_first.auto.list ∙ c.requires.many ∙ sym (ap (λ (z : Sizes). z.objects) some.2.shown.same) in
    let first = first-room c.args.words.now c.args.variables.now c.args.shaded.now c.list_first.new.list (sizes_of c.args.shape) some.0 some.1 some.2 c.requires.owed many in
    next-room (length c.args.shaded.now) c.shade_words-len.result c.args.words.now c.shade_words-len.new.words c.list_first.new.list c.shade_words-len.new.list first c.shade_words-len.ensures.room c.shade_words-len.ensures.list_long

pub scan_all-requires-clause-some : goal.scan_all-requires-clause-some
scan_all-requires-clause-some c =
    let some = c.requires.some in
    let objects : some.0.sizes.objects ≡ c.args.shape.objects = ap (λ (z : Sizes). z.objects) some.2.shown.same in
    let many : length c.list_first.new.list ≡ some.0.sizes.objects = c.list_first.auto.list ∙ c.requires.many ∙ sym objects in (
      c.args.shaded.now,
      some.0,
      some.1,
      some.2.shown.same,
      marking-roots c.args.words.now c.args.variables.now c.args.shaded.now (sizes_of c.args.shape) some.0 some.1 some.2 c.requires.owed c.args.shaded.now c.list_first.new.list c.shade_words-len.new.words c.shade_words-len.new.list
          c.shade_variables-end.new.words c.shade_variables-end.new.list c.shade_words-len.result c.shade_variables-end.result many c.list_first.ensures (λ o there. Was_linked o there) c.shade_words-len.ensures c.shade_variables-end.ensures,
    )

pub scan_all-requires-clause-room : goal.scan_all-requires-clause-room
scan_all-requires-clause-room c =
    let some = c.requires.some in
    let many : length c.list_first.new.list ≡ some.0.sizes.objects = c.list_first.auto.list ∙ c.requires.many ∙ sym (ap (λ (z : Sizes). z.objects) some.2.shown.same) in
    let first = first-room c.args.words.now c.args.variables.now c.args.shaded.now c.list_first.new.list (sizes_of c.args.shape) some.0 some.1 some.2 c.requires.owed many in
    let second = next-room (length c.args.shaded.now) c.shade_words-len.result c.args.words.now c.shade_words-len.new.words c.list_first.new.list c.shade_words-len.new.list first c.shade_words-len.ensures.room c.shade_words-len.ensures.list_long in
    next-room c.shade_words-len.result c.shade_variables-end.result c.shade_words-len.new.words c.shade_variables-end.new.words c.shade_words-len.new.list c.shade_variables-end.new.list second c.shade_variables-end.ensures.room c.shade_variables-end.ensures.list_long

pub returns-clause-tables : goal.returns-clause-tables
returns-clause-tables c = λ s cycle linked start due.
    let objects : s.sizes.objects ≡ c.args.shape.objects = ap (λ (z : Sizes). z.objects) start.shown.same in
    let many : length c.list_first.new.list ≡ s.sizes.objects = c.list_first.auto.list ∙ c.requires.many ∙ sym objects in
    let first = marking-roots c.args.words.now c.args.variables.now c.args.shaded.now (sizes_of c.args.shape) s cycle start c.requires.owed linked c.list_first.new.list c.shade_words-len.new.words c.shade_words-len.new.list
    c.shade_variables-end.new.words c.shade_variables-end.new.list c.shade_words-len.result c.shade_variables-end.result many c.list_first.ensures due c.shade_words-len.ensures c.shade_variables-end.ensures in
    let last = c.scan_all.ensures.marked linked s cycle start.shown.same first in
    IsLateEnd-late c.args.words.now c.args.variables.now c.args.shaded.now (sizes_of c.args.shape) s cycle start c.requires.owed linked c.list_first.new.list c.shade_words-len.new.words c.shade_words-len.new.list
    c.shade_variables-end.new.words c.shade_variables-end.new.list c.shade_words-len.result c.shade_variables-end.result many c.list_first.ensures due c.shade_words-len.ensures c.shade_variables-end.ensures
    c.scan_all.new.words c.scan_all.new.list c.scan_all.result last

pub returns-clause-nothing : goal.returns-clause-nothing
returns-clause-nothing c =
    let some = c.requires.some in
    let objects : some.0.sizes.objects ≡ c.args.shape.objects = ap (λ (z : Sizes). z.objects) some.2.shown.same in
    let many : length c.list_first.new.list ≡ some.0.sizes.objects = c.list_first.auto.list ∙ c.requires.many ∙ sym objects in
    let first = marking-roots c.args.words.now c.args.variables.now c.args.shaded.now (sizes_of c.args.shape) some.0 some.1 some.2 c.requires.owed c.args.shaded.now c.list_first.new.list c.shade_words-len.new.words c.shade_words-len.new.list
    c.shade_variables-end.new.words c.shade_variables-end.new.list c.shade_words-len.result c.shade_variables-end.result many c.list_first.ensures (λ o there. Was_linked o there) c.shade_words-len.ensures c.shade_variables-end.ensures in
    let last = c.scan_all.ensures.marked c.args.shaded.now some.0 some.1 some.2.shown.same first in
    NothingOwed-late c.args.words.now c.args.variables.now c.args.shaded.now (sizes_of c.args.shape) some.0 some.1 some.2 c.requires.owed c.args.shaded.now c.list_first.new.list c.shade_words-len.new.words c.shade_words-len.new.list
    c.shade_variables-end.new.words c.shade_variables-end.new.list c.shade_words-len.result c.shade_variables-end.result many c.list_first.ensures (λ o there. Was_linked o there) c.shade_words-len.ensures c.shade_variables-end.ensures
    c.scan_all.new.words c.scan_all.new.list c.scan_all.result last
