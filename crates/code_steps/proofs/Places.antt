-- A seat keeps its place in the table.
use Rattle.std.proofs.Common.{◌≡◌, ℕ, ◌%◌, ◌<◌, [], ◌∷◌, length, sym, ap, ◌∙◌, arith}
use Rattle.code_steps.specs.declared.view.View.{View}
use Rattle.code_steps.specs.Seats.{HasPlace}
use Rattle.code_steps.specs.Steps.{LoadedSequence, Claimed, Released}
use Rattle.code_steps.proofs.Prefixes.{grown_long}

pub place_loaded : (words : ℕ) (v w : View) (i found : ℕ) → HasPlace words v → i < length v.seen → LoadedSequence v i found w → HasPlace words w
place_loaded words v w i found p low l =
    let a : length w.seen ≡ length v.seen = ap length l.seen ∙ grown_long v.seen i l.more in
    let b : length w.shown ≡ length v.shown = ap length l.shown ∙ grown_long v.shown i (found ∷ []) in record {
      some = let c = p.some in let d = l.same.parts in omega arith;
      sized = let c = p.sized in omega arith;
      shown = b ∙ (p.shown ∙ sym a);
      earlier = ap length l.same.earlier ∙ (p.earlier ∙ sym a);
      even = ap (λ (n : ℕ). n % 2) l.same.start ∙ p.even;
      at = let c = l.at in omega arith;
    }

pub place_claimed : (words : ℕ) (v w : View) (i old found : ℕ) → HasPlace words v → Claimed v i old found w → HasPlace words w
place_claimed words v w i old found p l =
    let a : length w.seen ≡ length v.seen = ap length l.seen in
    let b : length w.shown ≡ length v.shown = ap length l.shown ∙ grown_long v.shown i (found ∷ []) in record {
      some = let c = p.some in let d = l.same.parts in omega arith;
      sized = let c = p.sized in omega arith;
      shown = b ∙ (p.shown ∙ sym a);
      earlier = ap length l.same.earlier ∙ (p.earlier ∙ sym a);
      even = ap (λ (n : ℕ). n % 2) l.same.start ∙ p.even;
      at = let c = l.at in let d = p.at in omega arith;
    }

pub place_released : (words : ℕ) (v w : View) (i seq : ℕ) → HasPlace words v → Released v i seq w → HasPlace words w
place_released words v w i seq p l =
    let a : length w.seen ≡ length v.seen = ap length l.stored.seen ∙ grown_long v.seen i _ in
    let b : length w.shown ≡ length v.shown = ap length l.shown in record {
      some = let c = p.some in let d = l.same.parts in omega arith;
      sized = let c = p.sized in omega arith;
      shown = b ∙ (p.shown ∙ sym a);
      earlier = ap length l.same.earlier ∙ (p.earlier ∙ sym a);
      even = ap (λ (n : ℕ). n % 2) l.same.start ∙ p.even;
      at = let c = l.at in let d = p.at in omega arith;
    }
