-- The table that a state shows once what a sweep made has taken its place.
use Rattle.std.proofs.Common.{◌≡◌, ℕ, ◌==◌, false, [], Option, Some, refl, sym, ◌∙◌, ap}
use Rattle.std.specs.Prelude.{◌||◌, is_some}
use Rattle.std.specs.Option.{option_map}
use Rattle.plain_table.specs.declared.events.Space.{Space}
use Rattle.plain_table.specs.declared.events.Space.TheVariants.{External, Trusted}
use Rattle.plain_table.specs.declared.events.Field.{Field}
use Rattle.plain_table.specs.declared.events.Field.TheVariants as field
use Rattle.plain_program.specs.Entries.{at, has, has_pair, word_at}
use Rattle.plain_table.specs.Cycle.{Cycle}
use Rattle.plain_table.specs.Table.{Table}
use Rattle.plain_table.specs.Finish.{rewritten, swept, ticket_kept, finished}
use Rattle.plain_table.specs.Rows.{finished_in}
use Rattle.plain_program.specs.Kept.{Kept, KeptCycle, by_space, by_field, shown, shown_cycle}
use Rattle.plain_program.specs.KeptSwept.{KeptSwept, IsSwept, swept_kept}

-- the parts that a sweep makes, by the space of each
pub IsSwept-by_space : (s : Table) (c : Cycle) (made : KeptSwept) →
    ((i : ℕ) → at made.external_cells i ≡ swept s c External i) → ((i : ℕ) → at made.trusted_cells i ≡ swept s c Trusted i) →
    ((i : ℕ) → has made.external_used i ≡ (i == 0 || is_some (swept s c External i))) →
    ((i : ℕ) → has made.trusted_used i ≡ (i == 0 || is_some (swept s c Trusted i))) →
    ((number : ℕ) → word_at made.external_words number ≡ rewritten c s.words (field.External number)) →
    ((b : ℕ) → at made.tickets b ≡ ticket_kept s c (s.ticket b)) → IsSwept s c made
IsSwept-by_space s c made external_cells trusted_cells external_used trusted_used words tickets =
    record { cells = cells; used = used; words = words; tickets = tickets }
  where
    cells : (p : Space) (i : ℕ) → by_space (at made.external_cells) (at made.trusted_cells) p i ≡ swept s c p i
    cells External i = external_cells i
    cells Trusted i = trusted_cells i

    used : (p : Space) (i : ℕ) → by_space (has made.external_used) (has made.trusted_used) p i ≡ (i == 0 || is_some (swept s c p i))
    used External i = external_used i
    used Trusted i = trusted_used i

no_claim : (b : ℕ) (p : Space) (i : ℕ) → by_space (has_pair [] b) (has_pair [] b) p i ≡ false
no_claim b External i = refl
no_claim b Trusted i = refl

words_past : (k : Kept) (c : Cycle) (made : KeptSwept) → IsSwept (shown k) c made → (f : Field) →
    by_field (word_at made.external_words) (word_at k.trusted_words) f ≡ rewritten c (shown k).words f
words_past k c made h (field.External number) = h.words number
words_past k c made h (field.Trusted number) = refl

shown-swept_kept : (k : Kept) (c : Cycle) (made : KeptSwept) → IsSwept (shown k) c made → shown (swept_kept k made) ≡ finished (shown k) c
shown-swept_kept k c made h = λ j. record (finished (shown k) c) {
  cells = λ p i. h.cells p i j;
  used = λ p i. h.used p i j;
  owed = λ b p i. no_claim b p i j;
  fresh = λ b p i. no_claim b p i j;
  words = λ f. words_past k c made h f j;
  ticket = λ b. h.tickets b j;
}

pub finishes : (old new : Kept) (k : KeptCycle) (made : KeptSwept) → old.cycle ≡ Some k → IsSwept (shown old) (shown_cycle k) made →
    new ≡ swept_kept old made → shown new ≡ finished_in (shown old) (shown old).cycle
finishes old new k made is h past =
    ap shown past ∙ shown-swept_kept old (shown_cycle k) made h
    ∙ sym (ap (λ (cycle : Option KeptCycle). finished_in (shown old) (option_map shown_cycle cycle)) is)
