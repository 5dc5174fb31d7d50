use Rattle.std.proofs.Common.{ℕ, map, length, ◌*◌, ◌/◌, List, [], get_or, ap, ◌∙◌, sym, arith}
use Rattle.std.specs.Simd.Lanes.{mask_l}
use Rattle.std.proofs.lemmas.List.{get_or-drop}
use Rattle.sweeper.specs.Bits.{bit}
use Rattle.sweeper.proofs.Masks.{put_after, one_after, nth_chunk, mask_test, mask_below}
use Rattle.sweeper.proofs.lanes.bit_mask.Goals as goal

pub loop-lanes-preserved : goal.loop-lanes-preserved
loop-lanes-preserved c =
    let ws = c.args.words.now in
    let a = c.loop-lanes.at in
    let i = c.loop-lanes.lanes-index in
    let k = length ws / 8 in
    record {
      at = omega (arith, c.loop-lanes.invariant.at);
      mask = put_after (λ w. bit w c.args.place) ws c.loop-lanes.mask c.bits_in.result a 8 c.loop-lanes.invariant.mask (c.bits_in.ensures ∙ ap (λ (xs : List ℕ). mask_l (map (λ w. bit w c.args.place) xs)) (ap (λ (xs : List (List ℕ)). get_or xs i []) c.as_chunks.ensures.front ∙ nth_chunk 8 k i a ws (omega (arith, c.as_chunks.ensures.front_len, c.loop-lanes-test.true)) (omega (arith, c.loop-lanes.invariant.at)))) (omega arith) c.requires.many;
    }

pub loop-word-preserved : goal.loop-word-preserved
loop-word-preserved c =
    let ws = c.args.words.now in
    let a = c.loop-word.at in
    record {
      at = omega (arith, c.loop-word.invariant.at);
      mask = one_after c.args.place ws c.loop-word.mask a c.loop-word.invariant.mask (omega (arith, c.loop-word.invariant.at, c.as_chunks.ensures.back_len, c.loop-word-test.true)) c.requires.many _
          (ap (λ (xs : List ℕ). get_or xs c.loop-word.word-index 0) c.as_chunks.ensures.back ∙ (get_or-drop (length ws / 8 * 8) ws c.loop-word.word-index 0 ∙ ap (λ (k : ℕ). get_or ws k 0) (sym c.loop-word.invariant.at)));
    }

pub returns-clause-bits : goal.returns-clause-bits
returns-clause-bits c i l = mask_test (λ w. bit w c.args.place) c.args.words.now c.loop-word.mask c.loop-word.at i c.loop-word.invariant.mask (omega (arith, c.loop-word.invariant.at, c.as_chunks.ensures.back_len, c.loop-word-test.false, c.loop-word.auto.word-index-end)) l

pub returns-clause-past : goal.returns-clause-past
returns-clause-past c = mask_below (λ w. bit w c.args.place) c.args.words.now c.loop-word.mask c.loop-word.at c.loop-word.invariant.mask (omega (arith, c.loop-word.invariant.at, c.as_chunks.ensures.back_len, c.loop-word-test.false, c.loop-word.auto.word-index-end))
