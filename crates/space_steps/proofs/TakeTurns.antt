-- The turns of a take: loads of the freelist word, tries to take its head, and commits, one after another.
use Rattle.std.proofs.Common.{◌≡◌, ◌≢◌, ◌⊎◌, ℕ, ◌+◌, ◌-◌, ◌*◌, ◌/◌, ◌%◌, ◌^◌, ◌<◌, ◌≤◌, ◌==◌, if◌then◌else◌, Bool, true, false, List, [], ◌∷◌, ◌++◌, refl, sym, ap, subst, ◌∙◌, inl, inr, arith}
use Rattle.std.specs.Prelude.{not, nat_le}
use Rattle.std.proofs.lemmas.Bool.Decides.{nat_tests}
use Rattle.std.specs.List.{filter}
use Rattle.plain_table.specs.declared.events.Act.{Act}
use Rattle.plain_table.specs.declared.events.Act.TheVariants as act
use Rattle.plain_table.specs.declared.events.Event.{Event}
use Rattle.plain_table.specs.declared.events.Space.{Space}
use Rattle.plain_table.specs.declared.events.Space.TheVariants.{External, Trusted}
use Rattle.plain_table.specs.declared.reports.Reply.{Reply}
use Rattle.plain_table.specs.declared.reports.Reply.TheVariants as reply
use Rattle.plain_table.specs.Belongs.{events_by}
use Rattle.plain_table.specs.Table.{limit_in}
use Rattle.free_chain.specs.Rank.{rank}
use Rattle.entry_base.specs.declared.view.Fact.{Fact}
use Rattle.entry_base.specs.declared.view.Fact.TheVariants as fact
use Rattle.entry_base.specs.declared.view.View.{View}
use Rattle.entry_base.specs.Callers.{SameCaller, Looks, Extends, event_of}
use Rattle.entry_base.specs.Learned.{Loaded}
use Rattle.entry_base.specs.Lists.{Has}
use Rattle.entry_base.specs.Numbers.{HasNumber}
use Rattle.entry_base.specs.Openings.{sizes_in}
use Rattle.entry_base.specs.Owns.{claim_of, without_claim}
use Rattle.entry_base.specs.Ranks.{takes_in, takes_of}
use Rattle.entry_base.proofs.OneByOne.{own_trans, same_trans}
use Rattle.call_base.specs.Called.{Called, EndsWith, LeavesOwn}
use Rattle.call_base.proofs.CallsInOrder.{called_none, called_looks, called_extends, called_trans, leaves_trans, own_number, EndsWith-last}
use Rattle.freelist_rule.specs.Freelists.{FreelistLoaded, IsFreelistIn, IsOutOfRoom, IsSpent, TookHead, MissedHead}
use Rattle.space_steps.specs.declared.tickets.Taken.{Taken}
use Rattle.space_steps.specs.declared.tickets.Taken.TheVariants as taken
use Rattle.space_steps.specs.declared.tickets.Ticket.{Ticket}
use Rattle.space_steps.specs.Segments.{HasRisen}
use Rattle.space_steps.specs.Takes.{HasFewTries, MovedOn, TookIndex, taken_by_others, taken_reply}
use Rattle.space_steps.specs.Tickets.{OwesIndex}

pub takes_in-append : (p : Space) (es fs : List Event) → takes_in p (es ++ fs) ≡ takes_in p es + takes_in p fs
takes_in-append p [] fs = omega arith
takes_in-append p (e ∷ es) fs = let r = takes_in-append p es fs in omega arith

-- a history that grew has no fewer takes
pub takes_grow : (v w : View) (own : List Event) (p : Space) → Called v own w → takes_in p v.seen ≤ takes_in p w.seen
takes_grow v w own p c = let a = takes_in-append p v.seen c.grown in let b = ap (takes_in p) c.seen in omega arith

takes_one : (v w : View) (p : Space) (e : Event) → takes_of p e.act e.said ≡ 1 → Extends v e w → takes_in p v.seen < takes_in p w.seen
takes_one v w p e one x =
    let a = ap (takes_in p) x.seen in
    let b = takes_in-append p (v.seen ++ x.between) (e ∷ []) in
    let c = takes_in-append p v.seen x.between in
    omega arith

-- the events of a caller stay those of its number
pub same_event : (u v : View) → SameCaller u v → (a : Act) (r : Reply) → event_of v a r ≡ event_of u a r
same_event u v s a r = ap (λ (n : ℕ). record { by = n; act = a; said = r }) s.number

-- an event after a call without one
pub called_event : (u v w : View) (a : Act) (r : Reply) → HasNumber u u.number → Called u [] v → SameCaller v w → Extends v (event_of v a r) w
    → Called u (event_of u a r ∷ []) w × EndsWith (event_of u a r ∷ []) w.seen
called_event u v w a r own before s x =
    let is = same_event u v before.same a r in
    let added = called_extends v w (event_of v a r) refl (own_number u v before.same own) s x in (
      called_trans u v w [] (event_of u a r ∷ []) before (subst (λ e. Called v (e ∷ []) w) is added),
      subst (λ e. EndsWith (e ∷ []) w.seen) is (EndsWith-last [] (event_of v a r) (v.seen ++ x.between) w.seen x.seen),
    )

pub takes_of-take : (p : Space) (i : ℕ) → takes_of p (act.Take p) (reply.Index i) ≡ 1
takes_of-take External i = refl
takes_of-take Trusted i = refl

module _ (v x y : View) (p : Space) (more : List Fact) (own : HasNumber v v.number) (load : Loaded v more x) where
  loaded_before : Called v [] x
  loaded_before = called_looks v x own load.same load.looks

  -- a try that took the head
  pub try_took : (a : Act) (t : Ticket) → takes_of p a (reply.Index t.index) ≡ 1 → t.number ≡ y.number → t.space ≡ p → TookHead x p a t.index y → TookIndex v p a t y
  try_took a t one number space took =
      let both = called_event v x y a (reply.Index t.index) own loaded_before took.same took.extends in record {
        called = both.0;
        ends = both.1;
        owes = record {
          number = number ∙ (took.same.number ∙ load.same.number);
          space = space;
          inside = (took.inside.0, subst (λ o. t.index < limit_in (sizes_in o) p) load.same.opening took.inside.1);
          owed = took.owed ∙ (ap (λ l. claim_of x p t.index ∷ l) load.own.owed ∙ ap (λ (n : ℕ). record { number = n; space = p; index = t.index } ∷ v.owed) load.same.number);
          fresh_claim = subst (λ n. without_claim n p t.index v.owed ≡ v.owed) load.same.number
              (subst (λ l. without_claim x.number p t.index l ≡ l) load.own.owed took.fresh_claim);
          rest = (took.rest.0 ∙ load.own.vars, took.rest.1 ∙ load.own.pending, took.rest.2 ∙ load.own.fresh, took.rest.3 ∙ load.hands);
          knows = took.knows;
        };
      }

  pub try_counts : (a : Act) (i : ℕ) → takes_of p a (reply.Index i) ≡ 1 → TookHead x p a i y → takes_in p v.seen < takes_in p y.seen
  try_counts a i one took = let up = takes_grow v x _ p loaded_before in let more = takes_one x y p (event_of x a (reply.Index i)) one took.extends in omega arith

  -- and one that missed it
  pub try_missed : (word found : ℕ) → MissedHead x p word found y → MovedOn v p word y
  try_missed word found missed = record {
    called = called_trans v x y [] [] loaded_before (called_looks x y (own_number v x load.same own) missed.same missed.looks);
    leaves = record { own = own_trans v x y load.own missed.own; hands = missed.hands ∙ load.hands };
    risen = (found, _, missed.knows, missed.rises);
  }

  pub miss_counts : (word found : ℕ) → Has v.facts (fact.Freelist p word (takes_in p v.seen)) → MissedHead x p word found y → takes_in p v.seen < takes_in p y.seen
  miss_counts word found known missed = missed.more (takes_in p v.seen) (load.same.knows _ known)

-- a take so far, after a load of the freelist word: where the word ends it, the load was its event
pub record TakesOn (v : View) (p : Space) (a : Act) (said : Reply) (IsOver : Type 0) (word before now : ℕ) (w : View) : Type 0 where
  pub over : IsOver → Called v (event_of v a said ∷ []) w × EndsWith (event_of v a said ∷ []) w.seen
  pub on : (IsOver → ⊥) → Called v [] w
  pub leaves : LeavesOwn v w
  pub same : SameCaller v w
  pub within : IsFreelistIn w p word
  pub knows : Has w.facts (fact.Freelist p word (takes_in p w.seen))
  pub bound : now + takes_in p v.seen ≤ before + takes_in p w.seen

freelist_in : (u w : View) (p : Space) (word : ℕ) → SameCaller u w → IsFreelistIn u p word → IsFreelistIn w p word
freelist_in u w p word s is = record {
  some = subst (λ o. word / 2 ^ 32 ≢ 0 → (word % 2 ^ 32 ≢ 0) × (word % 2 ^ 32 < limit_in (sizes_in o) p)) (sym s.opening) is.some;
  none = subst (λ o. word / 2 ^ 32 ≡ 0 → word % 2 ^ 32 ≤ limit_in (sizes_in o) p) (sym s.opening) is.none;
  room = subst (λ o. word / 2 ^ 32 ≡ 0 → word % 2 ^ 32 < limit_in (sizes_in o) p → word % 2 ^ 32 + (sizes_in o).seg ≤ limit_in (sizes_in o) p) (sym s.opening) is.room;
}

pub spent_same : (u w : View) (p : Space) (word : ℕ) → SameCaller u w → IsSpent w p word → IsSpent u p word
spent_same u w p word s is = (is.0, subst (λ o. limit_in (sizes_in o) p ≤ word % 2 ^ 32) s.opening is.1)

pub spent_stays : (u w : View) (p : Space) (word : ℕ) → SameCaller u w → IsSpent u p word → IsSpent w p word
spent_stays u w p word s is = (is.0, subst (λ o. limit_in (sizes_in o) p ≤ word % 2 ^ 32) (sym s.opening) is.1)

-- a load after turns without an event
pub take_loads : (v u w : View) (p : Space) (a : Act) (said : Reply) (IsOver : Type 0) (word before now : ℕ) → HasNumber v v.number
    → Called v [] u → LeavesOwn v u → now + takes_in p v.seen ≤ before + takes_in p u.seen
    → IsOver ⊎ (IsOver → ⊥) → FreelistLoaded u p word w → (IsOver → Extends u (event_of u a said) w) → ((IsOver → ⊥) → Looks u w)
    → TakesOn v p a said IsOver word before now w
take_loads v u w p a said IsOver word before now own called leaves bound either load full left = record {
  over = λ is. called_event v u w a said own called load.same (full is);
  on = λ no_end. called_trans v u w [] [] called (called_looks u w (own_number v u called.same own) load.same (left no_end));
  leaves = leaves_trans v u w leaves (record { own = load.own; hands = load.hands });
  same = same_trans v u w called.same load.same;
  within = freelist_in u w p word load.same load.within;
  knows = load.knows;
  bound = (let g = no_fewer in omega arith);
}
  where
    no_fewer : takes_in p u.seen ≤ takes_in p w.seen
    no_fewer = elim either [
      | inl is ↦ takes_grow u w _ p (called_extends u w (event_of u a said) refl (own_number v u called.same own) load.same (full is))
      | inr no_end ↦ takes_grow u w [] p (called_looks u w (own_number v u called.same own) load.same (left no_end))
    ]

-- the takes of a part of a history are those of one number and of all others
takes_parted : (p : Space) (b : ℕ) (es : List Event) → takes_in p es ≡ takes_in p (events_by b es) + taken_by_others p b es
takes_parted p b [] = refl
takes_parted p b (e ∷ es) = go (e.by == b) (takes_parted p b es)
  where
    go : (t : Bool) → takes_in p es ≡ takes_in p (events_by b es) + taken_by_others p b es
        → takes_of p e.act e.said + takes_in p es ≡ takes_in p (if t then e ∷ events_by b es else events_by b es) + takes_in p (if not t then e ∷ filter (λ f. not (f.by == b)) es else filter (λ f. not (f.by == b)) es)
    go true rest = omega (arith, rest)
    go false rest = omega (arith, rest)

pub takes_of-few : (p : Space) (t : Taken) → takes_of p (act.Take p) (taken_reply t) ≤ 1
takes_of-few External (taken.At t) = omega arith
takes_of-few Trusted (taken.At t) = omega arith
takes_of-few p taken.Full = omega arith
takes_of-few p taken.NoRoom = omega arith

pub takes_of-below : (start : ℕ) (t : Taken) → takes_of External (act.Below start) (taken_reply t) ≤ 1
takes_of-below start (taken.At t) = omega arith
takes_of-below start taken.Full = omega arith
takes_of-below start taken.NoRoom = omega arith

-- so a take tries at most once more than others took in between
pub tries_few : (v w : View) (p : Space) (a : Act) (said : Reply) (before now : ℕ) → takes_of p a said ≤ 1 → Called v (event_of v a said ∷ []) w
    → now + takes_in p v.seen ≤ before + takes_in p w.seen → HasFewTries v p before now w
tries_few v w p a said before now few c bound =
    let all = ap (takes_in p) c.seen in
    let b = takes_in-append p v.seen c.grown in
    let d = takes_parted p v.number c.grown in
    let e = ap (takes_in p) c.mine in
    (c.grown, c.seen, omega arith)

-- whether a word ends a take
pub spent_or_not : (v : View) (p : Space) (word : ℕ) → IsSpent v p word ⊎ (IsSpent v p word → ⊥)
spent_or_not v p word = go (word / 2 ^ 32 == 0) (nat_le (limit_in (sizes_in v.opening) p) (word % 2 ^ 32)) refl refl
  where
    go : (a b : Bool) → (word / 2 ^ 32 == 0) ≡ a → nat_le (limit_in (sizes_in v.opening) p) (word % 2 ^ 32) ≡ b → IsSpent v p word ⊎ (IsSpent v p word → ⊥)
    go true true is under = inl (grind (arith, nat_tests), grind (arith, nat_tests))
    go true false is under = inr (λ spent. let e = spent.1 in grind (arith, nat_tests))
    go false b is under = inr (λ spent. let e = spent.0 in grind (arith, nat_tests))

pub room_or_not : (start word : ℕ) → IsOutOfRoom start word ⊎ (IsOutOfRoom start word → ⊥)
room_or_not start word = go (word / 2 ^ 32 == 0) (nat_le start (word % 2 ^ 32)) refl refl
  where
    go : (a b : Bool) → (word / 2 ^ 32 == 0) ≡ a → nat_le start (word % 2 ^ 32) ≡ b → IsOutOfRoom start word ⊎ (IsOutOfRoom start word → ⊥)
    go true b is under = inl (inl (grind (arith, nat_tests)))
    go false true is under = inl (inr (grind (arith, nat_tests)))
    go false false is under = inr (λ out. elim out [ inl e ↦ grind (arith, nat_tests) | inr e ↦ grind (arith, nat_tests) ])

-- a turn of a take: it moved on, and loaded the freelist word again
module _ (v w x : View) (p : Space) (a : Act) (said : Reply) (word before now after : ℕ) (own : HasNumber v v.number)
    (called : Called v [] w) (leaves : LeavesOwn v w) (bound : now + takes_in p v.seen ≤ before + takes_in p w.seen) where
  counted : after + takes_in p w.seen ≤ now + takes_in p x.seen → after + takes_in p v.seen ≤ before + takes_in p x.seen
  counted more = omega arith

  pub turn_moves : (IsOver : Type 0) (later : ℕ) (y : View) → MovedOn w p word x → after + takes_in p w.seen ≤ now + takes_in p x.seen
      → IsOver ⊎ (IsOver → ⊥) → FreelistLoaded x p later y → (IsOver → Extends x (event_of x a said) y) → ((IsOver → ⊥) → Looks x y)
      → TakesOn v p a said IsOver later before after y
  turn_moves IsOver later y moved more either load full left =
      take_loads v x y p a said IsOver later before after own (called_trans v w x [] [] called moved.called) (leaves_trans v w x leaves moved.leaves) (counted more) either load full left

  pub turn_takes : (t : Ticket) → TookIndex w p a t x → after + takes_in p w.seen ≤ now + takes_in p x.seen → takes_of p a (reply.Index t.index) ≤ 1
      → Called v (event_of v a (reply.Index t.index) ∷ []) x × EndsWith (event_of v a (reply.Index t.index) ∷ []) x.seen × OwesIndex v p t x × HasFewTries v p before after x
  turn_takes t took more few =
      let is = same_event v w called.same a (reply.Index t.index) in
      let c = called_trans v w x [] (event_of v a (reply.Index t.index) ∷ []) called (subst (λ e. Called w (e ∷ []) x) is took.called) in
      let o = took.owes in (
        c,
        subst (λ e. EndsWith (e ∷ []) x.seen) is took.ends,
        record {
          number = o.number ∙ called.same.number;
          space = o.space;
          inside = (o.inside.0, subst (λ k. t.index < limit_in (sizes_in k) p) called.same.opening o.inside.1);
          owed = o.owed ∙ (ap (λ l. claim_of w p t.index ∷ l) leaves.own.owed ∙ ap (λ (n : ℕ). record { number = n; space = p; index = t.index } ∷ v.owed) called.same.number);
          fresh_claim = subst (λ n. without_claim n p t.index v.owed ≡ v.owed) called.same.number
              (subst (λ l. without_claim w.number p t.index l ≡ l) leaves.own.owed o.fresh_claim);
          rest = (o.rest.0 ∙ leaves.own.vars, o.rest.1 ∙ leaves.own.pending, o.rest.2 ∙ leaves.own.fresh, o.rest.3 ∙ leaves.hands);
          knows = o.knows;
        },
        tries_few v x p a (reply.Index t.index) before after few c (counted more),
      )

-- and its measure
pub rank_rises : (x y : View) (p : Space) (word later : ℕ) → HasRisen p word x → FreelistLoaded x p later y → rank word < rank later
rank_rises x y p word later risen load = elim (load.rises risen.0 risen.1 risen.2) [
  | inl same ↦ (let r = ap rank same.0 in let up = risen.3 in omega (arith, r, up))
  | inr up ↦ (let more = up.0 in let less = risen.3 in omega (arith, more, less))
]

pub rank_low : (word : ℕ) → word < 2 ^ 64 → rank word < 2 ^ 34
rank_low word small = go (word / 2 ^ 32 == 0)
  where
    go : (b : Bool) → 2 * (word % 2 ^ 32) + (if b then 0 else 1) < 2 ^ 34
    go true = omega arith
    go false = omega arith

pub no_step : (v : View) → Called v [] v × LeavesOwn v v
no_step v = (called_none v, record { own = record { vars = refl; pending = refl; owed = refl; fresh = refl }; hands = refl })

pub measure_falls : (word later : ℕ) → later < 2 ^ 64 → rank word < rank later → 2 ^ 34 - rank later < 2 ^ 34 - rank word
measure_falls word later small up = let low = rank_low later small in omega (arith, low, up)

pub same_after : {v w x : View} → Called v [] w → Called w [] x → SameCaller v x
same_after {v} {w} {x} a b = same_trans v w x a.same b.same
