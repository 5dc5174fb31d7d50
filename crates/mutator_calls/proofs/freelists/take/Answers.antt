use Rattle.std.proofs.Common.{◌≡◌, ◌≢◌, ◌/◌, ◌%◌, ◌^◌, ◌<◌, ℕ, List, Some, slice_index, slice_set, sym, ap, subst, ◌∙◌, arith, ◌-◌}
use Rattle.plain_table.specs.declared.events.Space.{Space}
use Rattle.plain_table.specs.Table.{Sizes, limit_in}
use Rattle.plain_table.specs.Words.{entry_place, freelist_place, freelist_word}
use Rattle.free_chain.specs.Chain.{link_of}
use Rattle.word_laws.specs.SegmentLaws.{IsCommitted}
use Rattle.entry_word.specs.Image.{sizes_of}
use Rattle.mutator_calls.specs.Words.{TakesIndex}
use Rattle.mutator_calls.proofs.ValidShapes.{AreSmall-valid}
use Rattle.mutator_calls.proofs.Takes.{TakesIndex-committed, TakesIndex-full, TakesIndex-popped, head-within, popped, segment-room}
use Rattle.mutator_calls.proofs.freelists.take.Goals as goal

-- a pop, by its two clauses
TakesIndex-pop : (old words now : List ℕ) (p : Space) (sizes : Sizes) (result : ℕ) →
    TakesIndex old (popped sizes p words) sizes p (Some (slice_index words (freelist_place p) % 2 ^ 32)) →
    result ≡ slice_index words (freelist_place p) % 2 ^ 32 →
    now ≡ slice_set words (freelist_place p) (freelist_word (link_of (slice_index words (entry_place sizes p result))) (slice_index words (freelist_place p) / 2 ^ 32 - 1)) →
    TakesIndex old now sizes p (Some result)
TakesIndex-pop old words now p sizes result takes same is =
    let here = is ∙ ap (λ i. slice_set words (freelist_place p) (freelist_word (link_of (slice_index words (entry_place sizes p i))) (slice_index words (freelist_place p) / 2 ^ 32 - 1))) same in
    subst (λ i. TakesIndex old now sizes p (Some i)) (sym same) (subst (λ ws. TakesIndex old ws sizes p (Some (slice_index words (freelist_place p) % 2 ^ 32))) (sym here) takes)

pub pop-requires-clause-within : goal.pop-requires-clause-within
pop-requires-clause-within c =
    let p = c.args.space in
    let words = c.args.words.now in
    let some : slice_index words (freelist_place p) / 2 ^ 32 ≢ 0 =
    λ none. omega (arith, c.if-len-gt0.true, c.len.ensures, ap (λ n. slice_index words n / 2 ^ 32) c.freelist_place.ensures, none) in
    head-within (sizes_of c.args.shape) p (AreSmall-valid c.args.shape c.requires.shape) words c.requires.shown.0 c.requires.shown.1 some

pub returns-then-len-gt0 : goal.returns-then-len-gt0
returns-then-len-gt0 c =
    let p = c.args.space in
    let words = c.args.words.now in
    let sizes = sizes_of c.args.shape in
    let some : slice_index words (freelist_place p) / 2 ^ 32 ≢ 0 =
    λ none. omega (arith, c.if-len-gt0.true, c.len.ensures, ap (λ n. slice_index words n / 2 ^ 32) c.freelist_place.ensures, none) in
    TakesIndex-pop words words c.pop.new.words p sizes c.pop.result
    (TakesIndex-popped sizes p (AreSmall-valid c.args.shape c.requires.shape) words c.requires.shown some) c.pop.ensures.head c.pop.ensures.words

pub returns-then-end-limit : goal.returns-then-end-limit
returns-then-end-limit c =
    let p = c.args.space in
    let words = c.args.words.now in
    let none : slice_index words (freelist_place p) / 2 ^ 32 ≡ 0 =
    omega (arith, c.if-len-gt0.false, c.len.ensures, ap (λ n. slice_index words n / 2 ^ 32) c.freelist_place.ensures) in
    TakesIndex-full (sizes_of c.args.shape) p (AreSmall-valid c.args.shape c.requires.shape) words c.requires.shown none
    (omega (arith, c.if-end-limit.true, c.head-end.ensures, ap (λ n. slice_index words n % 2 ^ 32) c.freelist_place.ensures, c.limit.ensures.count))

pub commit-requires-clause-room : goal.commit-requires-clause-room
commit-requires-clause-room c =
    let p = c.args.space in
    let words = c.args.words.now in
    let sizes = sizes_of c.args.shape in
    let none : slice_index words (freelist_place p) / 2 ^ 32 ≡ 0 =
    omega (arith, c.if-len-gt0.false, c.len.ensures, ap (λ n. slice_index words n / 2 ^ 32) c.freelist_place.ensures) in
    let head : c.head-end.result ≡ slice_index words (freelist_place p) % 2 ^ 32 = c.head-end.ensures ∙ ap (λ n. slice_index words n % 2 ^ 32) c.freelist_place.ensures in
    let below : slice_index words (freelist_place p) % 2 ^ 32 < limit_in sizes p = omega (arith, head, c.if-end-limit.false, c.limit.ensures.count) in
    let room = segment-room sizes p (AreSmall-valid c.args.shape c.requires.shape) words c.requires.shown.0 c.requires.shown.1 none below in
    omega (arith, room, head)

pub returns : goal.returns
returns c =
    let p = c.args.space in
    let words = c.args.words.now in
    let sizes = sizes_of c.args.shape in
    let none : slice_index words (freelist_place p) / 2 ^ 32 ≡ 0 =
    omega (arith, c.if-len-gt0.false, c.len.ensures, ap (λ n. slice_index words n / 2 ^ 32) c.freelist_place.ensures) in
    let head : c.head-end.result ≡ slice_index words (freelist_place p) % 2 ^ 32 = c.head-end.ensures ∙ ap (λ n. slice_index words n % 2 ^ 32) c.freelist_place.ensures in
    let below : slice_index words (freelist_place p) % 2 ^ 32 < limit_in sizes p = omega (arith, head, c.if-end-limit.false, c.limit.ensures.count) in
    let committed = c.commit.new.words in
    let is = subst (λ n. IsCommitted sizes p n words committed) head c.commit.ensures in
    TakesIndex-pop words committed c.pop-2.new.words p sizes c.pop-2.result
    (TakesIndex-committed sizes p (AreSmall-valid c.args.shape c.requires.shape) words c.requires.shown committed none below is) c.pop-2.ensures.head c.pop-2.ensures.words
