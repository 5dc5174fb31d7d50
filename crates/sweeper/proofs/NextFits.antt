-- The next object of a marking, its header and its references.
use Rattle.std.proofs.Common.{◌≡◌, ◌+◌, ◌*◌, ◌<◌, ◌≤◌, ℕ, List, length, slice_index, Option, Some, None, refl, sym, ap, subst, ◌∙◌, arith}
use Rattle.plain_table.specs.Cycle.{Cycle}
use Rattle.plain_table.specs.Table.{Table, Sizes}
use Rattle.plain_table.specs.Words.{object_word, words_in_all}
use Rattle.plain_table.specs.History.{after}
use Rattle.sweeper.specs.Marking.{IsMarking}
use Rattle.sweeper.specs.Shading.{header_of}
use Rattle.table_laws.proofs.PauseKeeps.{IsCalm, IsKeptBy, calm-after, kept-after}

pub record IsNextFit (words list : List ℕ) (next : ℕ) (z : Sizes) : Type 0 where
  pub whole : length words ≡ words_in_all z
  pub few : slice_index list next < z.objects
  pub shaded : header_of words (slice_index list next) ≡ 1
  pub references : (k : ℕ) → k < 4 → slice_index words (33 + 8 * slice_index list next + k) ≤ length list

pub IsNextFit-marking : (linked old words list : List ℕ) (next end : ℕ) (s : Table) (c : Cycle) (z : Sizes) → IsMarking linked old words list next end s c → s.sizes ≡ z → next < end → IsNextFit words list next z
IsNextFit-marking linked old words list next end s c z m same less = record {
  whole = m.run.shows.whole ∙ ap words_in_all (calm.sizes ∙ same);
  few = subst (λ (y : Sizes). slice_index list next < y.objects) same few;
  shaded = grey.1;
  references = references;
}
  where
    calm : IsCalm s (after s m.events)
    calm = calm-after m.events s m.acts

    kept : IsKeptBy s c (after s m.events)
    kept = kept-after m.events s c m.sound m.cycle m.acts m.run.legal

    grey : (slice_index list next < s.count) × (header_of words (slice_index list next) ≡ 1)
    grey = m.queue.each next (omega arith) less

    few : slice_index list next < s.sizes.objects
    few = omega (arith, grey.0, m.sound.objects.few)

    few_after : slice_index list next < (after s m.events).sizes.objects
    few_after = subst (λ (y : Sizes). slice_index list next < y.objects) (sym calm.sizes) few

    references : (k : ℕ) → k < 4 → slice_index words (33 + 8 * slice_index list next + k) ≤ length list
    references k four = by ((after s m.events).refs (slice_index list next) k) refl
      where
        word : slice_index words (33 + 8 * slice_index list next + k) ≡ object_word ((after s m.events).refs (slice_index list next) k)
        word = m.run.shows.references (slice_index list next) k few_after four

        by : (found : Option ℕ) → (after s m.events).refs (slice_index list next) k ≡ found → slice_index words (33 + 8 * slice_index list next + k) ≤ length list
        by None is = let zero_word : slice_index words (33 + 8 * slice_index list next + k) ≡ 0 = word ∙ ap object_word is in omega (arith, zero_word)
        by (Some q) is =
            let some_word : slice_index words (33 + 8 * slice_index list next + k) ≡ q + 1 = word ∙ ap object_word is in
            let sound = kept.sound.objects.references (slice_index list next) k q is in
            let inside : q < s.sizes.objects = omega (arith, sound.2, calm.count, m.sound.objects.few) in
            omega (arith, some_word, inside, m.many)
