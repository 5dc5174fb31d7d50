use Rattle.std.proofs.Common.{◌≡◌, ◌≤◌, ◌+◌, sym, subst, arith}
use Rattle.sweeper.specs.Marking.{IsMarking}
use Rattle.sweeper.specs.Shading.{white_in}
use Rattle.entry_word.specs.Image.{sizes_of}
use Rattle.sweeper.proofs.MarkSteps.{marking-scanned}
use Rattle.sweeper.proofs.NextFits.{IsNextFit-marking}
use Rattle.sweeper.proofs.marking.scan_all.Goals as goal

pub scan_object-end-requires-clause-whole : goal.scan_object-end-requires-clause-whole
scan_object-end-requires-clause-whole c =
    let some = c.requires.some in
    (IsNextFit-marking some.0 c.args.words.now c.loop-next.words c.loop-next.list c.loop-next.next c.loop-next.end some.1 some.2 (sizes_of c.args.shape)
    (c.loop-next.invariant.marked some.0 some.1 some.2 some.3 some.4) some.3 c.loop-next-test.true).whole

pub scan_object-end-requires-clause-object : goal.scan_object-end-requires-clause-object
scan_object-end-requires-clause-object c =
    let some = c.requires.some in
    (IsNextFit-marking some.0 c.args.words.now c.loop-next.words c.loop-next.list c.loop-next.next c.loop-next.end some.1 some.2 (sizes_of c.args.shape)
    (c.loop-next.invariant.marked some.0 some.1 some.2 some.3 some.4) some.3 c.loop-next-test.true).few

pub scan_object-end-requires-clause-shaded : goal.scan_object-end-requires-clause-shaded
scan_object-end-requires-clause-shaded c =
    let some = c.requires.some in
    (IsNextFit-marking some.0 c.args.words.now c.loop-next.words c.loop-next.list c.loop-next.next c.loop-next.end some.1 some.2 (sizes_of c.args.shape)
    (c.loop-next.invariant.marked some.0 some.1 some.2 some.3 some.4) some.3 c.loop-next-test.true).shaded

pub scan_object-end-requires-clause-references : goal.scan_object-end-requires-clause-references
scan_object-end-requires-clause-references c =
    let some = c.requires.some in
    (IsNextFit-marking some.0 c.args.words.now c.loop-next.words c.loop-next.list c.loop-next.next c.loop-next.end some.1 some.2 (sizes_of c.args.shape)
    (c.loop-next.invariant.marked some.0 some.1 some.2 some.3 some.4) some.3 c.loop-next-test.true).references

pub loop-next-preserved : goal.loop-next-preserved
loop-next-preserved c =
    let x = c.scan_object-end.ensures in
    let less = c.loop-next-test.true in
    record {
      marked = λ linked s cycle same m0.
          marking-scanned linked c.args.words.now c.loop-next.words c.scan_object-end.new.words c.loop-next.list c.scan_object-end.new.list c.loop-next.next c.loop-next.end c.scan_object-end.result s cycle (sizes_of c.args.shape)
          (c.loop-next.invariant.marked linked s cycle same m0) same less x;
      room =
          let long = x.shading.list_long in
          subst (λ n. c.scan_object-end.result + white_in c.scan_object-end.new.words n ≤ n) (sym long) (omega (arith, x.room, c.loop-next.invariant.room));
      order = omega (arith, less, x.shading.grown);
    }

pub returns-clause-marked : goal.returns-clause-marked
returns-clause-marked c = λ linked s cycle same m0.
    let end : c.loop-next.end ≡ c.loop-next.next = omega arith in
    subst (λ e. IsMarking linked c.args.words.now c.loop-next.words c.loop-next.list c.loop-next.next e s cycle) end (c.loop-next.invariant.marked linked s cycle same m0)
