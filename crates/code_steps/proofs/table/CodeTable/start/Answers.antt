use Rattle.std.proofs.Common.{[], ◌∷◌, ◌≡◌, ◌∙◌, length, sym, subst, ap}
use Rattle.code_steps.specs.Rule.{Kept}
use Rattle.code_steps.specs.Views.{first_view, opening_view, words_of}
use Rattle.code_steps.specs.Seats.{HasPlace}
use Rattle.code_steps.proofs.OpenKeeps.{opens, first_opens, opening_place}
use Rattle.code_steps.proofs.table.CodeTable.start.Goals as goal

pub of_words-requires : goal.of_words-requires
of_words-requires c =
    let r = c.requires in
    let words : c.as_slice.result.now ≡ words_of c.args.seq c.args.pairs.now = c.as_slice.ensures.value ∙ c.in-Ok.ensures in
    let view : first_view c.in-Ok.words.items ≡ opening_view c.args.seq c.args.pairs.now = ap first_view c.in-Ok.ensures ∙ first_opens c.args.seq c.args.pairs.now r.pairs.0 in
    subst (λ ws. Kept ws (first_view c.in-Ok.words.items ∷ [])) (sym words) (subst (λ v. Kept (words_of c.args.seq c.args.pairs.now) (v ∷ [])) (sym view) (opens c.args.seq c.args.pairs.now r.even r.pairs.0))

pub returns-in-Ok-of_words-clause-opening : goal.returns-in-Ok-of_words-clause-opening
returns-in-Ok-of_words-clause-opening c =
    let view : first_view c.in-Ok.words.items ≡ opening_view c.args.seq c.args.pairs.now = ap first_view c.in-Ok.ensures ∙ first_opens c.args.seq c.args.pairs.now c.requires.pairs.0 in
    ap (λ m. m.0) c.in-Ok-of_words.ensures.4 ∙ view

pub returns-in-Ok-of_words-clause-seat : goal.returns-in-Ok-of_words-clause-seat
returns-in-Ok-of_words-clause-seat c =
    let r = c.requires in
    let e = c.in-Ok-of_words.ensures in
    let view : c.in-Ok-of_words.seat.me.0 ≡ opening_view c.args.seq c.args.pairs.now = ap (λ m. m.0) e.4 ∙ (ap first_view c.in-Ok.ensures ∙ first_opens c.args.seq c.args.pairs.now r.pairs.0) in
    let words : c.as_slice.result.now ≡ words_of c.args.seq c.args.pairs.now = c.as_slice.ensures.value ∙ c.in-Ok.ensures in
    let count : c.in-Ok-of_words.table.shared.table_id.words ≡ length (words_of c.args.seq c.args.pairs.now) = e.0 ∙ ap length words in
    ((e.2, subst (HasPlace _) (sym view) (subst (λ n. HasPlace n (opening_view c.args.seq c.args.pairs.now)) (sym count) (opening_place c.args.seq c.args.pairs.now r.even r.pairs.0))), ap (λ v. v.holds) view)
