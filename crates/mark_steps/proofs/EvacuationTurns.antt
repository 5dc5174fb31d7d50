-- The ways through an evacuation: what it leaves, and that the field will not move without its entry.
use Rattle.std.proofs.Common.{◌≡◌, ◌≢◌, ℕ, ◌%◌, ◌^◌, ◌<◌, ◌==◌, Bool, true, false, if◌then◌else◌, List, [], ◌∷◌, Option, Some, None, IfSome, IsTrue, IsSomeAnd, slice_index, refl, sym, ap, subst, ◌∙◌, inl, inr, arith}
use Rattle.std.specs.Prelude.{◌⊎◌, ◌&&◌}
use Rattle.std.proofs.lemmas.Bool.Decides.{nat_tests}
use Rattle.plain_table.specs.declared.events.Act.{Act}
use Rattle.plain_table.specs.declared.events.Act.TheVariants as act
use Rattle.plain_table.specs.declared.events.Event.{Event}
use Rattle.plain_table.specs.declared.events.Field.TheVariants as field
use Rattle.plain_table.specs.declared.events.Space.TheVariants.{External}
use Rattle.plain_table.specs.declared.reports.Reply.{Reply}
use Rattle.plain_table.specs.declared.reports.Reply.TheVariants as reply
use Rattle.plain_table.specs.Cycle.{Cycle, aborted_in, start_in}
use Rattle.plain_table.specs.History.{after}
use Rattle.plain_table.specs.Index.{index_of}
use Rattle.plain_table.specs.Places.{same_space}
use Rattle.plain_table.specs.Words.{area_place}
use Rattle.plain_table.proofs.CallsMade.{after-append}
use Rattle.entry_base.specs.declared.view.Claim.{Claim}
use Rattle.entry_base.specs.declared.view.Fact.TheVariants as fact
use Rattle.entry_base.specs.declared.view.Opening.{Opening}
use Rattle.entry_base.specs.declared.view.View.{View}
use Rattle.entry_base.specs.Callers.{Looks, SameCaller, event_of}
use Rattle.entry_base.specs.Facts.{TableKnows}
use Rattle.entry_base.specs.Histories.{IsPhaseHistory}
use Rattle.entry_base.specs.Lists.{Has}
use Rattle.entry_base.specs.Openings.{IsOpenable, start_of}
use Rattle.entry_base.specs.Owns.{without_claim}
use Rattle.entry_base.specs.Passed.{WillNotMove}
use Rattle.entry_base.proofs.Sums.{each_has}
use Rattle.entry_rule.specs.Entries.{Evacuated}
use Rattle.space_steps.specs.declared.tickets.Ticket.{Ticket}
use Rattle.space_steps.specs.Tickets.{OwesIndex}
use Rattle.call_base.specs.Called.{Called, EndsWith, LeavesOwn}
use Rattle.call_base.proofs.CallsInOrder.{EndsWith-last, called_then}
use Rattle.call_base.proofs.HistoriesStay.{start_after}
use Rattle.mark_steps.specs.Evacuations.{Adds, IsAborted, OneThenOne}

-- an area begins at an index other than 0
pub start_some : (key : Opening) (start : ℕ) → start_of key ≡ Some start → start ≢ 0
start_some key start is = go (slice_index key.words area_place % 2 ^ 32 == 0) refl is
  where
    go : (b : Bool) → (slice_index key.words area_place % 2 ^ 32 == 0) ≡ b → (if b then None else Some (slice_index key.words area_place % 2 ^ 32)) ≡ Some start → start ≢ 0
    go true zero_word none = absurd (cc)
    go false some_word some =
        let ne : slice_index key.words area_place % 2 ^ 32 ≢ 0 = grind (arith, nat_tests) in
        let same : slice_index key.words area_place % 2 ^ 32 ≡ start = cc in
        λ zero_start. ne (same ∙ zero_start)

-- where nothing moves, and where the index is below the area
pub unmoved_none : (w : View) (number word : ℕ) → start_of w.opening ≡ None → WillNotMove w (field.External number) word
unmoved_none w number word none = subst (λ (o : Option ℕ). IfSome o (λ start. (index_of word < start) ⊎ Has w.facts fact.Aborted ⊎ Has w.facts (fact.Placed (field.External number) word))) (sym none) tt

module _ (w : View) (number word start : ℕ) (area : start_of w.opening ≡ Some start) where
  unmoved : (index_of word < start) ⊎ Has w.facts fact.Aborted ⊎ Has w.facts (fact.Placed (field.External number) word) → WillNotMove w (field.External number) word
  unmoved h = subst (λ (o : Option ℕ). IfSome o (λ first. (index_of word < first) ⊎ Has w.facts fact.Aborted ⊎ Has w.facts (fact.Placed (field.External number) word))) (sym area) h

  pub unmoved_below : index_of word < start → WillNotMove w (field.External number) word
  unmoved_below below = unmoved (inl below)

  pub unmoved_aborted : Has w.facts fact.Aborted → WillNotMove w (field.External number) word
  unmoved_aborted aborted = unmoved (inr (inl aborted))

  pub unmoved_placed : Has w.facts (fact.Placed (field.External number) word) → WillNotMove w (field.External number) word
  unmoved_placed placed = unmoved (inr (inr placed))

-- the claim that was taken is given up again
same_number : (n : ℕ) → (n == n) ≡ true
same_number n = grind (arith, nat_tests)

claim_same : (b i : ℕ) → ((b == b) && same_space External External && (i == i)) ≡ true
claim_same b i = ap (λ (x : Bool). x && true && (i == i)) (same_number b) ∙ same_number i

pub claim_back : (b i : ℕ) (claims : List Claim) → without_claim b External i claims ≡ claims → without_claim b External i (record { number = b; space = External; index = i } ∷ claims) ≡ claims
claim_back b i claims rest = ap (λ (x : Bool). if x then without_claim b External i claims else record { number = b; space = External; index = i } ∷ without_claim b External i claims) (claim_same b i) ∙ rest

pub placed_leaves : (v x w : View) (t : Ticket) (number word : ℕ) → x.number ≡ v.number → OwesIndex v External t x → Evacuated x t.index number word w → LeavesOwn v w
placed_leaves v x w t number word same owes e = record {
  own = record {
    vars = e.rest.0 ∙ owes.rest.0;
    pending = e.rest.1 ∙ owes.rest.1;
    owed = e.owed ∙ (ap (λ b. without_claim b External t.index x.owed) same ∙ (ap (without_claim v.number External t.index) owes.owed ∙ claim_back v.number t.index v.owed owes.fresh_claim));
    fresh = e.rest.2 ∙ owes.rest.2;
  };
  hands = e.rest.3 ∙ owes.rest.3;
}

-- two events after a call without one
pub adds_two : (u v w : View) (first second : Act) (got said : Reply) → Called u [] v → OneThenOne v first got second said w
    → Adds u (event_of u first got ∷ event_of u second said ∷ []) w
adds_two u v w first second got said c two = (
  called_then u two.mid w (event_of u first got ∷ []) (λ b. record { by = b; act = second; said = said } ∷ [])
      (called_then u v two.mid [] (λ b. record { by = b; act = first; said = got } ∷ []) c two.before) two.then_one,
  subst (λ b. EndsWith (event_of u first got ∷ record { by = b; act = second; said = said } ∷ []) w.seen) (two.before.same.number ∙ c.same.number)
      (EndsWith-last (event_of u first got ∷ []) (event_of two.mid second said) two.ends.0 w.seen two.ends.1),
)

-- where the compaction is known as aborted, it is
pub aborted_known : (v w : View) → SameCaller v w → Looks v w → Has w.facts fact.Aborted → IsAborted v.opening w.seen
aborted_known v w same looks has b base = each_has (TableKnows (after b w.seen)) w.facts fact.Aborted (looks.sure b base).knows has

-- and after an abort it is
aborted_by : (x : Option Cycle) (start : ℕ) → start_in (aborted_in x) ≡ Some start → IsSomeAnd (aborted_in x) (λ c. IsTrue c.aborted)
aborted_by None start is = absurd (cc)
aborted_by (Some c) start is = refl

pub aborted_after : (key : Opening) (seen : List Event) (n start : ℕ) → ∥ IsOpenable key ∥₁ → start_of key ≡ Some start → IsPhaseHistory key seen
    → EndsWith (record { by = n; act = act.Abort; said = reply.Ok } ∷ []) seen → IsAborted key seen
aborted_after key seen n start openable area lawful ends t base =
    let e : Event = record { by = n; act = act.Abort; said = reply.Ok } in
    let same = ap (after t) ends.1 ∙ after-append t ends.0 (e ∷ []) in
    subst (λ s. IsSomeAnd s.cycle (λ c. IsTrue c.aborted)) (sym same)
    (aborted_by (after t ends.0).cycle start (ap (λ s. start_in s.cycle) (sym same) ∙ (start_after key openable seen lawful t base ∙ area)))
