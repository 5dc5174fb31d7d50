use Rattle.std.proofs.Common.{◌+◌, ◌*◌, ◌<◌, length, slice_index, slice_set, ap, ◌∙◌, sym, inl, inr, arith, get_or-set_same, get_or-set_other}
use Rattle.std.proofs.lemmas.Bool.Decides.{eqb_tells}
use Rattle.sweeper.specs.Begin.{first_header}
use Rattle.sweeper.specs.Roots.{is_held}
use Rattle.sweeper.proofs.begins.set_headers.Goals as goal

pub loop-object-preserved : goal.loop-object-preserved
loop-object-preserved c =
    let words = c.loop-object.words in
    let n = c.loop-object.object in
    let w = c.first_header.result in
    let inside : 32 + 8 * n < length words = omega arith in
    record {
      headers = λ o less. elim (eqb_tells o n) [
        | inl same ↦ ap (λ k. slice_index (slice_set words (32 + 8 * n) w) (32 + 8 * k)) same.1 ∙ get_or-set_same words (32 + 8 * n) w 0 inside
            ∙ c.first_header.ensures ∙ ap (λ k. first_header c.args.count (is_held c.args.held.now k) k) (sym same.1)
        | inr apart ↦ get_or-set_other words (32 + 8 * n) (32 + 8 * o) w 0 (λ eq. apart.1 (omega (arith, eq))) ∙ c.loop-object.invariant.headers o (omega (arith, less, apart.1))
      ];
      rest = λ place off. get_or-set_other words (32 + 8 * n) place w 0 (off n (omega arith)) ∙ c.loop-object.invariant.rest place (λ o less. off o (omega (arith, less)));
    }

pub returns : goal.returns
returns c =
    let end = c.loop-object-test.false in
    record {
      long = c.loop-object.auto.words;
      headers = λ o less. c.loop-object.invariant.headers o (omega (arith, less, end));
      rest = λ place off. c.loop-object.invariant.rest place (λ o less. off o (omega (arith, less, c.loop-object.auto.object-end)));
    }
