-- The word of an external field that has an evacuation entry, after a finish: that of the target of the index that it names,
-- where there is one, and else the word that it had.
use Rattle.std.proofs.Common.{◌≡◌, ℕ, true, Option, Some, None, ap, ◌∙◌}
use Rattle.std.specs.Option.{option_map_or}
use Rattle.std.proofs.lemmas.Bool.{cond-true}
use Rattle.plain_table.specs.declared.events.Field.{Field}
use Rattle.plain_table.specs.declared.events.Field.TheVariants as field
use Rattle.plain_table.specs.Index.{index_of, word_of}
use Rattle.plain_table.specs.Cycle.{Cycle}
use Rattle.plain_table.specs.Finish.{target, rewritten}

module _ (c : Cycle) (words : Field → ℕ) (n : ℕ) (visited : c.visited n ≡ true) where
  rewritten-by : (found : Option ℕ) → target c words (index_of (words (field.External n))) ≡ found →
      rewritten c words (field.External n) ≡ option_map_or word_of found (words (field.External n))
  rewritten-by found is =
      cond-true (c.visited n) (option_map_or word_of (target c words (index_of (words (field.External n)))) (words (field.External n))) (words (field.External n)) visited
      ∙ ap (λ o. option_map_or word_of o (words (field.External n))) is

  pub rewritten-some : (t : ℕ) → target c words (index_of (words (field.External n))) ≡ Some t → rewritten c words (field.External n) ≡ word_of t
  rewritten-some t is = rewritten-by (Some t) is

  pub rewritten-none : target c words (index_of (words (field.External n))) ≡ None → rewritten c words (field.External n) ≡ words (field.External n)
  rewritten-none is = rewritten-by None is
