use Rattle.std.proofs.Common.{◌≡◌, ◌+◌, ◌*◌, ◌/◌, ◌≤◌, ℕ, refl, sym, ap, subst, ◌∙◌, arith}
use Rattle.sweeper.specs.Pass.{entries_from, greatest_after}
use Rattle.sweeper.proofs.SpaceSweeps.{committed-le, IsSpaceSwept-pass}
use Rattle.sweeper.proofs.pass.sweep_space.Goals as goal

some : (seg ext limit : ℕ) → limit ≡ seg * ext → 1 ≤ seg → 1 ≤ ext → 1 ≤ limit
some seg ext limit size one more = grind arith

within : (entry : ℕ → ℕ) (from seg ext limit g : ℕ) → limit ≡ seg * ext → 1 ≤ seg → 1 ≤ ext → g ≡ greatest_after entry from limit → (1 + g / seg) * seg ≤ limit
within entry from seg ext limit g size one more is =
    let there = committed-le entry from seg ext (some seg ext (seg * ext) refl one more) one in
    subst (λ n. (1 + g / seg) * seg ≤ n) (sym size)
    (subst (λ k. (1 + k / seg) * seg ≤ seg * ext) (sym (is ∙ ap (greatest_after entry from) size)) there)

positive : (seg q : ℕ) → 1 ≤ seg → 1 ≤ (1 + q) * seg
positive seg q one = grind arith

few : (seg q n : ℕ) → 1 ≤ seg → (1 + q) * seg ≤ n → 1 + q ≤ n
few seg q n one most = grind arith

pub overflow_add-segs : goal.overflow_add-segs
overflow_add-segs c =
    let most = within (entries_from c.args.words.now c.args.span.base) c.args.span.from c.args.seg c.args.ext c.args.span.limit c.greatest.result c.requires.size c.requires.seg c.requires.ext c.greatest.ensures in
    let less : 1 + c.greatest.result / c.args.seg ≤ c.args.span.limit = few c.args.seg (c.greatest.result / c.args.seg) c.args.span.limit c.requires.seg most in
    omega (arith, less)

pub overflow_mul-segs : goal.overflow_mul-segs
overflow_mul-segs c =
    let most = within (entries_from c.args.words.now c.args.span.base) c.args.span.from c.args.seg c.args.ext c.args.span.limit c.greatest.result c.requires.size c.requires.seg c.requires.ext c.greatest.ensures in
    omega (arith, most)

pub sweep_entries-pass-requires-clause-within : goal.sweep_entries-pass-requires-clause-within
sweep_entries-pass-requires-clause-within c =
    within (entries_from c.args.words.now c.args.span.base) c.args.span.from c.args.seg c.args.ext c.args.span.limit c.greatest.result c.requires.size c.requires.seg c.requires.ext c.greatest.ensures

pub returns : goal.returns
returns c =
    let old = c.args.words.now in
    let entry = entries_from old c.args.span.base in
    IsSpaceSwept-pass old c.sweep_entries-pass.new.words c.args.span.base c.args.span.limit c.args.span.from c.args.seg c.args.list (1 + c.greatest.result / c.args.seg) c.freelist_word.result c.sweep_entries-pass.result
    c.requires.inside (some c.args.seg c.args.ext c.args.span.limit c.requires.size c.requires.seg c.requires.ext) c.requires.list c.requires.null
    (ap (λ k. 1 + k / c.args.seg) c.greatest.ensures)
    (within entry c.args.span.from c.args.seg c.args.ext c.args.span.limit c.greatest.result c.requires.size c.requires.seg c.requires.ext c.greatest.ensures)
    (positive c.args.seg (c.greatest.result / c.args.seg) c.requires.seg)
    c.freelist_word.ensures c.sweep_entries-pass.ensures.words c.sweep_entries-pass.ensures.tally
