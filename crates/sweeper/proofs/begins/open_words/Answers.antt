use Rattle.std.proofs.Common.{◌≡◌, ◌+◌, ◌*◌, length, slice_set, ◌∙◌, inl, arith, get_or-set_same, get_or-set_other, length-set}
use Rattle.sweeper.proofs.begins.open_words.Goals as goal

pub returns : goal.returns
returns c =
    let old = c.args.words.now in
    let mid = c.unmark.new.words in
    let heads = c.set_headers.new.words in
    let area = c.area_word.result in
    let many = length c.args.held.now in
    let u = c.unmark.ensures in
    let h = c.set_headers.ensures in
    let long : length heads ≡ length old = h.long ∙ u.long in
    let one = slice_set heads 1 area in
    let long_one : length one ≡ length old = length-set heads 1 area ∙ long in
    let last = get_or-set_other one 4 in
    let first = get_or-set_other heads 1 in
    record {
      long = length-set one 4 1 ∙ long_one;
      area = last 1 1 0 (λ e. omega (arith, e)) ∙ get_or-set_same heads 1 area 0 (omega (arith, long)) ∙ c.area_word.ensures;
      phase = get_or-set_same one 4 1 0 (omega (arith, long_one));
      headers = λ o less. last (32 + 8 * o) 1 0 (λ e. omega (arith, e)) ∙ first (32 + 8 * o) area 0 (λ e. omega (arith, e)) ∙ h.headers o less;
      entries = λ k less.
          last (32 + 8 * many + k) 1 0 (λ e. omega (arith, e)) ∙ first (32 + 8 * many + k) area 0 (λ e. omega (arith, e))
          ∙ h.rest (32 + 8 * many + k) (λ o below e. omega (arith, below, e)) ∙ u.entries k less;
      rest = λ place below off_1 off_4 off.
          last place 1 0 off_4 ∙ first place area 0 off_1 ∙ h.rest place off ∙ u.rest place (inl below);
    }
