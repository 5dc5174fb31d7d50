use Rattle.std.proofs.Common.{◌≡◌, ◌<◌, length, slice_index, arith}
use Rattle.std.proofs.lemmas.List.{get_or_read}
use Rattle.mutator_calls.proofs.Tallies.{IsTotal-tallied}
use Rattle.mutator_calls.proofs.heap.Mutator.totals.Goals as goal

pub returns : goal.returns
returns c = λ s sees.
    let words = c.args.self.now.image.words.items in
    let whole = sees.shows.words.whole in
    let inside : 3 < length words = omega (arith, whole) in
    let count : c.index.result.now ≡ slice_index words 3 = get_or_read words 3 c.index.result.now inside c.index.ensures 0 in
    IsTotal-tallied c.args.self.now.image c.requires.ready.shape s sees c.tally_space-external.result c.tally_space-trusted.result c.index.result.now
    c.tally_space-external.ensures c.tally_space-trusted.ensures count
