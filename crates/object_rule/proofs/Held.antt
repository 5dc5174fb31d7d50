-- What a variable of a view's own number holds, in the view and in the table; and after one of them is set in both.
use Rattle.std.proofs.Common.{◌≡◌, ℕ, ◌+◌, ◌*◌, ◌<◌, ◌≤◌, List, length, Option, Some, None, IfSome, slice_index, slice_set, get_or-set_other, sym, ap, subst, ◌∙◌, inl, inr, arith}
use Rattle.std.proofs.lemmas.Bool.{cases_lt}
use Rattle.std.proofs.lemmas.List.{get_or_past}
use Rattle.plain_table.specs.declared.events.Event.{Event}
use Rattle.plain_table.specs.Cycle.{Cycle}
use Rattle.plain_table.specs.Places.{put_pair}
use Rattle.plain_table.specs.Rows.{Holds}
use Rattle.plain_table.specs.Sound.{IsSound}
use Rattle.plain_table.specs.Table.{Table, Sizes}
use Rattle.plain_table.specs.Words.{object_word}
use Rattle.plain_table.proofs.PlaceReads.{read_pair}
use Rattle.entry_base.specs.declared.view.Opening.{Opening}
use Rattle.entry_base.specs.declared.view.View.{View}
use Rattle.entry_base.specs.Callers.{AreVariables, ArePublishable, AreWithin, IsCaller}
use Rattle.entry_base.specs.Histories.{IsPhaseHistory}
use Rattle.entry_base.specs.Numbers.{HasNumber}
use Rattle.entry_base.specs.Openings.{sizes_in}
use Rattle.entry_base.specs.Owns.{Owns, HoldsIn, IsHeld}
use Rattle.entry_base.specs.Tied.{Parts, IsTied}
use Rattle.entry_base.proofs.OneByOne.{caller_stays, variables_set}
use Rattle.entry_base.proofs.TiedParts.{tied_variable}
use Rattle.object_rule.specs.Objects.{IsTarget, SetVariable}

-- the object of a word
pub object_word-is : (found : Option ℕ) (o : ℕ) → object_word found ≡ o + 1 → found ≡ Some o
object_word-is None o is = absurd (omega (arith, is))
object_word-is (Some q) o is = ap Some (omega (arith, is))

-- where a variable of a view's number holds an object, the number is a mutator's, since no other has variables
pub mutator-held : (v : View) (o : ℕ) → length v.vars ≡ 128 → IsHeld v o → v.number < 8
mutator-held v o many (var, (few, is)) = elim (cases_lt v.number 8) [
  | inl low ↦ low
  | inr past ↦ absurd (let none : slice_index v.vars (16 * v.number + var) ≡ 0 = get_or_past v.vars (16 * v.number + var) 0 (omega (arith, many, past)) in omega (arith, none, is))
]

-- and so where a link has a target
pub mutator-target : (v : View) (target : Option ℕ) (word : ℕ) → length v.vars ≡ 128 → IsTarget v target word → IfSome target (λ var. v.number < 8)
mutator-target v None word many aims = tt
mutator-target v (Some var) word many (q, holds, is) = mutator-held v q many (var, holds)

-- the word of an object that is made is within the limit
pub object_word-low : (s : Table) (z : Sizes) (x : Option ℕ) → s.sizes ≡ z → IsSound s → ((q : ℕ) → x ≡ Some q → q < s.count) → object_word x ≤ z.objects
object_word-low s z x sizes sound made = go x made
  where
    few : s.count ≤ z.objects
    few = let most = sound.objects.few in let same = ap (λ (y : Sizes). y.objects) sizes in omega arith

    go : (y : Option ℕ) → ((q : ℕ) → y ≡ Some q → q < s.count) → object_word y ≤ z.objects
    go None low = omega arith
    go (Some q) low = let l = low q (λ i. Some q) in let f = few in omega arith

module _ (s : Table) (v : View) (owns : Owns s v) (own : HasNumber v v.number) (mutator : v.number < 8) where
  pub variable_held : (var o : ℕ) → HoldsIn v var o → s.vars v.number var ≡ Some o
  variable_held var o (few, is) = object_word-is (s.vars v.number var) o (sym (owns.variables v.number var own mutator few) ∙ is)

  pub object_held : (o : ℕ) → IsHeld v o → Holds s v.number o
  object_held o (var, held) = (var, held.0, variable_held var o held)

  pub object_made : IsSound s → (o : ℕ) → IsHeld v o → o < s.sizes.objects
  object_made sound o held =
      let holds = object_held o held in
      let low = (sound.objects.variables v.number holds.0 o holds.2).2 in
      let few = sound.objects.few in
      omega arith

-- a variable of the view's number is set, in the table to an object or to nothing, and in the view to the word of that; and an
-- object may be made, and the history go on
module _ (s : Table) (v : View) (var : ℕ) (few : var < 16) (x : Option ℕ) (count : ℕ) (cycle : Option Cycle) (word : ℕ) (seen : List Event)
    (here : slice_index (slice_set v.vars (16 * v.number + var) word) (16 * v.number + var) ≡ object_word x) where
  variables_follow : (b i : ℕ) → i < 16 → slice_index v.vars (16 * b + i) ≡ object_word (s.vars b i)
      → slice_index (slice_set v.vars (16 * v.number + var) word) (16 * b + i) ≡ object_word (put_pair s.vars v.number var x b i)
  variables_follow b i low was = elim (read_pair x s.vars v.number var b i) [
    | inl r ↦
        let number = r.0.0 in
        let same = r.0.1 in
        let place : 16 * b + i ≡ 16 * v.number + var = omega (arith, number, same) in
        ap (slice_index (slice_set v.vars (16 * v.number + var) word)) place ∙ here ∙ ap object_word (sym r.1)
    | inr r ↦
        get_or-set_other v.vars (16 * v.number + var) (16 * b + i) word 0 (λ same. r.0 (omega (arith, same, few, low), omega (arith, same, few, low)))
        ∙ was ∙ ap object_word (sym r.1)
  ]

  pub owns_variable : Owns s v → Owns (record s { vars = put_pair s.vars v.number var x; count = count; cycle = cycle }) (record v { seen = seen; vars = slice_set v.vars (16 * v.number + var) word })
  owns_variable owns = record {
    variables = λ b i has mutator low. variables_follow b i low (owns.variables b i has mutator low);
    pending = owns.pending;
    owed = owns.owed;
    fresh = owns.fresh;
  }

-- a seat whose variable was set is still a caller, and its session has at run time what its view has
module _ (v w : View) (var word : ℕ) (is : SetVariable v var word w) where
  pub set_calls : (key : Opening) → IsCaller key v → IsPhaseHistory v.opening w.seen → word ≤ (sizes_in key).objects → IsCaller key w
  set_calls key caller lawful low =
      caller_stays key v w caller is.same lawful
      (subst (AreVariables key) (sym is.vars) (variables_set key v.vars (16 * v.number + var) word caller.variables low))
      (subst (ArePublishable key) (sym is.rest.0) caller.pending)
      (subst (AreWithin key) (sym is.rest.3) caller.hands)

  pub set_tied : (x : Parts) → IsTied x v → IsTied (record x { vars = slice_set x.vars (16 * x.number + var) word }) w
  set_tied x tied =
      subst (λ n. IsTied (record x { vars = slice_set x.vars (16 * n + var) word }) w) (sym tied.number)
      (tied_variable v w x (16 * v.number + var) word is.same.opening is.same.number is.same.numbers is.vars is.rest.0 tied)
