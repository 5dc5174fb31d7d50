use Rattle.std.proofs.Common.{◌≡◌, ◌∙◌, ◌∷◌, [], ℕ, ap, sym, subst, arith, map, length, string_bytes, true, false, Ok, Err, ⊎_elim, true≢false, nat_eq}
use Rattle.std.specs.Cmp.Lexicographic.{same_text}
use Rattle.code_run.proofs.OneWord.{one_word, parsed, equal_texts}
use Rattle.code_run.proofs.main_call.calls_of.Goals as goal

pub returns-in_default-clause-none : goal.returns-in_default-clause-none
returns-in_default-clause-none c = λ n is.
    let one = one_word string_bytes c.args.args.now c.index-args-0.result c.if-args-ne1.false c.index-args-0.is ∙ ap (λ w. w ∷ []) (sym c.as_str-word.ensures.value) in
    c.in_default.not-Ok n (parsed _ c.as_str-word.result.now n c.parse.result one is c.parse.ensures.value.0)

pub returns-then-n-eq0-clause-none : goal.returns-then-n-eq0-clause-none
returns-then-n-eq0-clause-none c = λ n is.
    let one = one_word string_bytes c.args.args.now c.index-args-0.result c.if-args-ne1.false c.index-args-0.is ∙ ap (λ w. w ∷ []) (sym c.as_str-word.ensures.value) in
    let gave = parsed _ c.as_str-word.result.now n c.parse.result one is c.parse.ensures.value.0 in
    let was = c.in-Ok.is in
    let same : c.in-Ok.n ≡ n = cc in
    let low = is.low in
    let high = is.high in
    ⊎_elim (λ (zero_n : c.in-Ok.n ≡ 0). absurd (omega arith)) (λ t. let above = t.1 in absurd (omega arith)) c.then-n-eq0.either

pub returns-then-eq-clause-some : goal.returns-then-eq-clause-some
returns-then-eq-clause-some c =
    let one = one_word string_bytes c.args.args.now c.index-args-0.result c.if-args-ne1.false c.index-args-0.is ∙ ap (λ w. w ∷ []) (sym c.as_str-word.ensures.value) in
    let low = c.if-n-eq0.false in
    let high = c.if-n-gt1000.false in
    record {
      low = omega arith;
      high = omega arith;
      word = one ∙ ap (λ w. w ∷ []) (sym (same_text _ _ c.if-eq.ensures) ∙ c.format.ensures.text);
    }

pub returns-else-eq-clause-none : goal.returns-else-eq-clause-none
returns-else-eq-clause-none c = λ n is.
    let one = one_word string_bytes c.args.args.now c.index-args-0.result c.if-args-ne1.false c.index-args-0.is ∙ ap (λ w. w ∷ []) (sym c.as_str-word.ensures.value) in
    let gave = parsed _ c.as_str-word.result.now n c.parse.result one is c.parse.ensures.value.0 in
    let was = c.in-Ok.is in
    let same : c.in-Ok.n ≡ n = cc in
    true≢false (sym (equal_texts c.format.result.now c.as_str-word.result.now _ one is.word (c.format.ensures.text ∙ ap Rattle.std.proofs.Common.decimal same)) ∙ (sym c.eq.ensures ∙ c.if-eq.false))
