use Rattle.std.proofs.Common.{List, ℕ, subst}
use Rattle.plain_table.specs.declared.events.Space.TheVariants.{External}
use Rattle.entry_word.specs.Image.{sizes_of}
use Rattle.mutator_calls.specs.Words.{LooksAt}
use Rattle.mutator_calls.proofs.heap.Mutator.look_external.Goals as goal

pub returns : goal.returns
returns c =
    subst (λ (ws : List ℕ). LooksAt ws (sizes_of c.args.self.now.image.shape) External c.args.word c.args.range.first c.args.range.last c.look.result)
    c.deref.ensures.value c.look.ensures
