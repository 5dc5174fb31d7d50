use Rattle.std.proofs.Common.{◌≡◌, ◌≢◌, ◌+◌, ◌*◌, ◌<◌, ℕ, slice_index}
use Rattle.sweeper.specs.Begin.{first_header}
use Rattle.sweeper.specs.Roots.{is_held}
use Rattle.sweeper.proofs.begins.set_headers.Given as goal

abbrev pub invariant-loop-object : goal.invariant-loop-object
invariant-loop-object l = record {
  headers : (o : ℕ) → o < l.object → slice_index l.words (32 + 8 * o) ≡ first_header l.count (is_held l.held o) o;
  rest : (place : ℕ) → ((o : ℕ) → o < l.object → place ≢ 32 + 8 * o) → slice_index l.words place ≡ slice_index l.fn.words place;
}
