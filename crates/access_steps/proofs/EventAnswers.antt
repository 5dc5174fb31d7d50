-- What the last event of a call answers, by the table right before it.
use Rattle.std.proofs.Common.{◌≡◌, ◌≢◌, ℕ, List, [], ◌∷◌, Option, Some, None, refl, sym, ap, subst, subst₂, ◌∙◌, arith}
use Rattle.std.proofs.lemmas.Bool.Decides.{nat_tests}
use Rattle.std.specs.Option.{option_map_or}
use Rattle.plain_table.specs.declared.events.Act.TheVariants as act
use Rattle.plain_table.specs.declared.events.Event.{Event}
use Rattle.plain_table.specs.declared.events.Field.TheVariants as field
use Rattle.plain_table.specs.declared.events.Space.{Space}
use Rattle.plain_table.specs.declared.events.Space.TheVariants.{External}
use Rattle.plain_table.specs.declared.reports.Reply.{Reply}
use Rattle.plain_table.specs.declared.reports.Reply.TheVariants as reply
use Rattle.plain_table.specs.History.{IsLegal, IsLegalHistory, after}
use Rattle.plain_table.specs.Index.{index_of}
use Rattle.plain_table.specs.Rows.{HasCell, look, value_at}
use Rattle.plain_table.specs.Shapes.{event}
use Rattle.plain_table.specs.Table.{Table, least_free}
use Rattle.entry_base.specs.declared.view.Opening.{Opening}
use Rattle.entry_base.specs.declared.view.View.{View}
use Rattle.entry_base.specs.Callers.{event_of}
use Rattle.entry_base.specs.Histories.{IsPhaseHistory}
use Rattle.entry_base.specs.Learned.{Answered}
use Rattle.object_rule.specs.Fields.{Bound, bind_reply}
use Rattle.call_base.specs.Called.{EndsWith, HeldAtLast}
use Rattle.call_base.proofs.OneEvent.{IsLegalHistory-last, held_at_last}
use Rattle.access_steps.specs.Accesses.{IsLookAtEvent, IsStoreAtEvent, IsSwapAtEvent, IsWordAtEvent}
use Rattle.access_steps.specs.Inits.{IsInitAtEvent}

-- the last event was legal in the table right before it
pub HeldAtLast-ends : (key : Opening) (seen : List Event) (e : Event) (P : Table → Type 0) → EndsWith (e ∷ []) seen → IsPhaseHistory key seen
    → ((t : Table) → IsLegal t e → P t) → HeldAtLast key seen P
HeldAtLast-ends key seen e P ends lawful holds = record {
  front = ends.0;
  last = e;
  ends = ends.1;
  held = λ b is. holds (after b ends.0) (IsLegalHistory-last b ends.0 e (subst (IsLegalHistory b) ends.1 (lawful.legal b is)));
}

pub IsLookAtEvent-looked : (v w : View) (p : Space) (word first last low high : ℕ) (known said : Reply) → low ≡ first → high ≡ last → known ≡ said
    → Answered v (event_of v (act.Look p word low high) known) w → IsLookAtEvent w p word first last said
IsLookAtEvent-looked v w p word first last low high known said at_first at_last is answered =
    subst (λ key. HeldAtLast key w.seen (λ t. said ≡ look t p word first last)) (sym answered.same.opening)
    (held_at_last v w (event_of v (act.Look p word low high) known) (λ t. said ≡ look t p word first last) answered.extends
    (λ t sound sizes legal. sym is ∙ (legal.1 ∙ (ap (λ n. look t p word n high) at_first ∙ ap (λ n. look t p word first n) at_last))))

pub IsStoreAtEvent-stored : (v w : View) (word first last low high value : ℕ) → low ≡ first → high ≡ last → Answered v (event_of v (act.Set word low high value) reply.Ok) w
    → IsStoreAtEvent w word first last reply.Ok
IsStoreAtEvent-stored v w word first last low high value at_first at_last answered =
    subst (λ key. HeldAtLast key w.seen (λ t. HasCell t word first last)) (sym answered.same.opening)
    (held_at_last v w (event_of v (act.Set word low high value) reply.Ok) (λ t. HasCell t word first last) answered.extends
    (λ t sound sizes legal. subst₂ (HasCell t word) at_first at_last legal.0.0))

same_value : (old found : ℕ) → reply.Value old ≡ reply.Value found → old ≡ found
same_value old found is = cc

pub IsSwapAtEvent-swapped : (v w : View) (word first last low high value old : ℕ) → low ≡ first → high ≡ last
    → Answered v (event_of v (act.Swap word low high value) (reply.Value old)) w → IsSwapAtEvent w word first last (reply.Value old)
IsSwapAtEvent-swapped v w word first last low high value old at_first at_last answered =
    subst (λ key. HeldAtLast key w.seen (λ t. HasCell t word first last × (old ≡ value_at (t.cells External (index_of word))))) (sym answered.same.opening)
    (held_at_last v w (event_of v (act.Swap word low high value) (reply.Value old)) (λ t. HasCell t word first last × (old ≡ value_at (t.cells External (index_of word)))) answered.extends
    (λ t sound sizes legal. (subst₂ (HasCell t word) at_first at_last legal.0.0, same_value old (value_at (t.cells External (index_of word))) legal.1)))

pub IsWordAtEvent-named : (v w : View) (number word : ℕ) → Answered v (event_of v (act.Name (field.External number)) (reply.Word word)) w → IsWordAtEvent w number (reply.Word word)
IsWordAtEvent-named v w number word answered =
    subst (λ key. HeldAtLast key w.seen (λ t. reply.Word word ≡ reply.Word (t.words (field.External number)))) (sym answered.same.opening)
    (held_at_last v w (event_of v (act.Name (field.External number)) (reply.Word word)) (λ t. reply.Word word ≡ reply.Word (t.words (field.External number))) answered.extends
    (λ t sound sizes legal. legal.1))

-- and so by any number that is the field's
pub IsWordAtEvent-number : (w : View) (number other : ℕ) (said : Reply) → Some number ≡ Some other → IsWordAtEvent w number said → IsWordAtEvent w other said
IsWordAtEvent-number w number other said is named = let same : number ≡ other = cc in subst (λ n. IsWordAtEvent w n said) same named

-- a take that finds the space full
pub least_free-full : (found : Option ℕ) → reply.Full ≡ option_map_or reply.Index found reply.Full → found ≡ None
least_free-full None is = refl
least_free-full (Some i) is = absurd (cc)

pub IsInitAtEvent-full : (w : View) (b number : ℕ) → EndsWith (event b (act.Take External) reply.Full ∷ []) w.seen → IsPhaseHistory w.opening w.seen → IsInitAtEvent w number reply.Full
IsInitAtEvent-full w b number ends lawful = HeldAtLast-ends w.opening w.seen (event b (act.Take External) reply.Full) _ ends lawful (λ t legal. least_free-full (least_free t External) legal.1)

-- a bind that finds the field free, or a word in it
pub bind_reply-found : (found word : ℕ) → bind_reply found ≡ bind_reply word → word ≡ found
bind_reply-found found word is = grind (arith, nat_tests)

module _ (x y : View) (number word found : ℕ) (bound : Bound x (field.External number) word found y) where
  found_here : (P : Table → Type 0) → ((t : Table) → t.words (field.External number) ≡ found → P t) → HeldAtLast y.opening y.seen P
  found_here P holds = subst (λ key. HeldAtLast key y.seen P) (sym bound.same.opening)
      (held_at_last x y (event_of x (act.Bind (field.External number) word) (bind_reply found)) P bound.extends
      (λ t sound sizes legal. holds t (bind_reply-found found (t.words (field.External number)) legal.1)))

  pub IsInitAtEvent-free : found ≡ 0 → IsInitAtEvent y number reply.Ok
  IsInitAtEvent-free free = found_here (λ t. t.words (field.External number) ≡ 0) (λ t is. is ∙ free)

  pub IsInitAtEvent-taken : found ≢ 0 → IsInitAtEvent y number (reply.Taken found)
  IsInitAtEvent-taken taken = found_here (λ t. (found ≢ 0) × (t.words (field.External number) ≡ found)) (λ t is. (taken, is))
