-- A new object: tries, until one wins or the heap is full.
use Rattle.std.proofs.Common.{◌≡◌, ◌≢◌, ℕ, ◌+◌, ◌*◌, ◌<◌, ◌≤◌, ◌⊎◌, nat_lt, Bool, true, false, if◌then◌else◌, [], ◌∷◌, Some, length, slice_set, refl, sym, ap, ap₂, subst, ◌∙◌, inl, inr, arith}
use Rattle.std.proofs.lemmas.Bool.Decides.{nat_tests}
use Rattle.plain_table.specs.declared.scripts.Op.TheVariants as op
use Rattle.plain_table.specs.declared.events.Act.TheVariants as act
use Rattle.plain_table.specs.declared.reports.Reply.{Reply}
use Rattle.plain_table.specs.declared.reports.Reply.TheVariants as reply
use Rattle.plain_table.specs.Sound.{IsSound}
use Rattle.plain_table.specs.Table.{Table}
use Rattle.entry_base.specs.declared.view.Fact.TheVariants as fact
use Rattle.entry_base.specs.declared.view.View.{View}
use Rattle.entry_base.specs.Callers.{Extends, event_of}
use Rattle.entry_base.specs.Lists.{Has}
use Rattle.entry_base.specs.Numbers.{HasNumber}
use Rattle.entry_base.specs.Openings.{sizes_in}
use Rattle.entry_base.proofs.OneByOne.{own_trans}
use Rattle.object_rule.specs.Objects.{CountForNew, NewObject}
use Rattle.call_base.specs.Called.{Called, HeldAtLast, LeavesOwn, Made}
use Rattle.call_base.proofs.CallsInOrder.{called_looks, called_trans}
use Rattle.call_base.proofs.HeldVariables.{made_sets_by}
use Rattle.call_base.proofs.OneEvent.{called_after, ends_after, held_at_last, made_after}
use Rattle.graph_steps.specs.Graph.{IsNewAtEvent, IsNewReply}

-- tries to make an object made no event so far, and at least so many are made
pub record TriedTo (v : View) (least : ℕ) (w : View) : Type 0 where
  pub called : Called v [] w
  pub leaves : LeavesOwn v w
  pub known : (least ≡ 0) ⊎ Has w.facts (fact.Count least)
  pub low : least ≤ (sizes_in v.opening).objects

-- the reply of the row of a new object, in a sound table
new_reply : (t : Table) (said : Reply) → IsSound t → said ≡ (if nat_lt t.count t.sizes.objects then reply.Obj t.count else reply.HeapFull) → IsNewReply t said
new_reply t said sound is = go (nat_lt t.count t.sizes.objects) refl is
  where
    go : (b : Bool) → nat_lt t.count t.sizes.objects ≡ b → said ≡ (if b then reply.Obj t.count else reply.HeapFull) → IsNewReply t said
    go true less made = inl (grind (arith, nat_tests), made)
    go false more full = inr ((let few = sound.objects.few in let m : t.sizes.objects ≤ t.count = grind (arith, nat_tests) in omega (arith, few, m)), full)

-- so the step with the event says it of its reply
new_at_event : (v w : View) (var : ℕ) (said : Reply) → w.opening ≡ v.opening → Extends v (event_of v (act.New var) said) w → IsNewAtEvent w said
new_at_event v w var said opening extends = subst (λ o. HeldAtLast o w.seen (λ t. IsNewReply t said)) (sym opening)
    (held_at_last v w (event_of v (act.New var) said) (λ t. IsNewReply t said) extends (λ t sound sizes legal. new_reply t said sound legal.1))

-- a load after tries
module _ (u v w : View) (var least count : ℕ) (own : HasNumber v v.number) (tried : TriedTo u least v) (loaded : CountForNew v var count w) where
  leaves : LeavesOwn u w
  leaves = record { own = own_trans u v w tried.leaves.own loaded.loaded.own; hands = loaded.loaded.hands ∙ tried.leaves.hands }

  -- that found the heap full
  module _ (is : count ≡ (sizes_in v.opening).objects) where
    pub made_full : Made u (op.New var) reply.HeapFull w
    made_full = made_after u v w (op.New var) (act.New var) reply.HeapFull own tried.called loaded.loaded.same leaves.own.vars leaves.own.pending (loaded.full is)
        (λ cycle held ticket suits. refl) (λ held. refl) (λ ticket. refl)

    pub full_at : IsNewAtEvent w reply.HeapFull
    full_at = new_at_event v w var reply.HeapFull loaded.loaded.same.opening (loaded.full is)

  -- and an exchange after it
  module _ (x : View) (found : ℕ) (below : count < (sizes_in v.opening).objects) (own_w : HasNumber w w.number) (new : NewObject w var count found x) where
    looked : Called u [] w
    looked = called_trans u v w [] [] tried.called (called_looks v w own loaded.loaded.same (loaded.left (λ same. omega (arith, same, below))))

    pub made_new : found ≡ count → var < 16 → u.number < 8 → length u.vars ≡ 128 → Made u (op.New var) (reply.Obj count) x
    made_new won few mutator many =
        let m = new.won won in
        let called = called_after u w x (act.New var) (reply.Obj count) own_w looked m.same m.extends in
        let place : 16 * w.number + var ≡ 16 * u.number + var = ap (λ n. 16 * n + var) looked.same.number in
        made_sets_by u x var (count + 1) (Some count) few mutator many refl called.same (m.vars ∙ ap₂ (λ l i. slice_set l i (count + 1)) leaves.own.vars place)
        (op.New var) (reply.Obj count) (event_of u (act.New var) (reply.Obj count) ∷ []) (m.rest.0 ∙ leaves.own.pending) called
        (ends_after u w x (act.New var) (reply.Obj count) looked m.extends) (λ cycle held ticket suits. refl) (λ held. refl) (λ ticket. refl)

    pub new_at : found ≡ count → IsNewAtEvent x (reply.Obj count)
    new_at won = let m = new.won won in new_at_event w x var (reply.Obj count) m.same.opening m.extends

    -- a missed one has found more
    pub tried_more : found ≢ count → TriedTo u found x
    tried_more missed =
        let m = new.lost missed in
        let same = ap (λ o. (sizes_in o).objects) looked.same.opening in
        let low = m.seen.loaded.low in record {
          called = called_trans u w x [] [] looked (called_looks w x own_w m.seen.loaded.same m.seen.looks);
          leaves = record { own = own_trans u w x leaves.own m.seen.loaded.own; hands = m.seen.loaded.hands ∙ leaves.hands };
          known = inr m.seen.loaded.knows;
          low = omega (arith, same, low);
        }
