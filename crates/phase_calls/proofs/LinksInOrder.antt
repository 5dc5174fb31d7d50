-- What calls link, one after another; and calls that link nothing and leave the hands alone.
use Rattle.std.proofs.Common.{◌≡◌, ℕ, ◌<◌, List, [], ◌∷◌, ◌++◌, Option, Some, None, refl, sym, ap, subst, subst₂, ◌∙◌, inl, inr, append_assoc}
use Rattle.std.specs.Prelude.{◌⊎◌, ◌≢◌, ◌↔◌, IfSome}
use Rattle.std.specs.Option.{option_map_or, option_to_list}
use Rattle.plain_table.specs.declared.events.Event.{Event}
use Rattle.plain_table.specs.declared.reports.Reply.{Reply}
use Rattle.plain_table.specs.declared.reports.Reply.TheVariants as reply
use Rattle.plain_table.specs.declared.scripts.Op.{Op}
use Rattle.plain_table.specs.declared.scripts.Op.TheVariants as op
use Rattle.plain_table.specs.Cycle.{Cycle}
use Rattle.plain_table.specs.Shapes.{Held, IsShape, OwnTicket, held_after, held_next, own_after}
use Rattle.plain_table.proofs.CallsMade.{MakesCalls-push, held_after-append, own_after-append}
use Rattle.tag_set.specs.Range.{TagRange}
use Rattle.entry_base.specs.declared.view.Fact.TheVariants as fact
use Rattle.entry_base.specs.declared.view.View.{View}
use Rattle.entry_base.specs.Callers.{SameCaller}
use Rattle.entry_base.specs.Lists.{Has}
use Rattle.entry_base.specs.Openings.{phase_of}
use Rattle.entry_base.specs.Sessions.{held_in}
use Rattle.entry_base.proofs.Sums.{has_append}
use Rattle.call_base.specs.Called.{Made, Suits}
use Rattle.call_base.proofs.CallsInOrder.{called_none, called_trans}
use Rattle.call_base.proofs.HeldVariables.{held_suits}
use Rattle.graph_steps.specs.Graph.{HoldsReply, IsUnheld, target_in}
use Rattle.phase_calls.specs.Calls.{Links, Makes, MakesInTurn, linked_at, linked_by}
use Rattle.phase_calls.proofs.LinkedObjects.{Has-append_cases, Has-append_left}
use Rattle.phase_calls.proofs.ShapeEvents.{linked_between, linked_by-shape, linked_of}

pub linked_by-append : (held : Held) (es fs : List Event) → linked_by held (es ++ fs) ≡ linked_by held es ++ linked_by (held_after held es) fs
linked_by-append held [] fs = refl
linked_by-append held (e ∷ es) fs =
    ap (λ (rest : List ℕ). linked_at held e.act ++ rest) (linked_by-append (held_next held e.act e.said) es fs)
    ∙ sym (append_assoc (linked_at held e.act) (linked_by (held_next held e.act e.said) es) (linked_by (held_after (held_next held e.act e.said) es) fs))

-- events that link nothing, where the hands are as before
pub Links-nothing : (v w : View) (own : List Event) → w.hands ≡ v.hands →
    ((cycle : Option Cycle) (held : Held) (ticket : OwnTicket) → Suits v cycle held ticket → linked_by held own ≡ []) → Links v own w
Links-nothing v w own hands nothing = record {
  hands = λ cycle held ticket suits o there. inl (subst (λ (os : List ℕ). Has os o) hands there);
  shaded = λ cycle held ticket suits phase o there. absurd (subst (λ (os : List ℕ). Has os o) (nothing cycle held ticket suits) there);
}

pub Links-none : (v : View) → Links v [] v
Links-none v = Links-nothing v v [] refl (λ cycle held ticket suits. refl)

-- events after events
pub Links-push : (u v w : View) (es fs : List Event) → SameCaller u v → SameCaller v w →
    ((cycle : Option Cycle) (held : Held) (ticket : OwnTicket) → Suits u cycle held ticket → Suits v cycle (held_after held es) (own_after ticket es)) →
    Links u es v → Links v fs w → Links u (es ++ fs) w
Links-push u v w es fs before after suits first second = record {
  hands = λ cycle held ticket is o there.
      elim (second.hands cycle (held_after held es) (own_after ticket es) (suits cycle held ticket is) o there) [
        | inl old ↦ elim (first.hands cycle held ticket is o old) [
          | inl older ↦ inl older
          | inr linked ↦ inr (subst (λ (os : List ℕ). Has os o) (sym (linked_by-append held es fs)) (Has-append_left (linked_by held es) _ o linked))
        ]
        | inr linked ↦ inr (subst (λ (os : List ℕ). Has os o) (sym (linked_by-append held es fs)) (has_append (linked_by held es) _ o linked))
      ];
  shaded = λ cycle held ticket is phase o there.
      elim (Has-append_cases (linked_by held es) (linked_by (held_after held es) fs) o (subst (λ (os : List ℕ). Has os o) (linked_by-append held es fs) there)) [
        | inl linked ↦ after.knows (fact.Shaded o) (first.shaded cycle held ticket is phase o linked)
        | inr linked ↦ second.shaded cycle (held_after held es) (own_after ticket es) (suits cycle held ticket is) (ap phase_of before.opening ∙ phase) o linked
      ];
}

pub MakesInTurn-none : (v : View) → MakesInTurn v [] [] v
MakesInTurn-none v = record {
  made = record { own = []; called = called_none v; makes = λ cycle held ticket suits. refl; suits = λ cycle held ticket suits. suits };
  links = Links-none v;
}

-- one call more
pub MakesInTurn-push : (u v w : View) (calls : List Op) (replies : List Reply) (call : Op) (said : Reply) → MakesInTurn u calls replies v →
    Makes v call said w → MakesInTurn u (calls ++ call ∷ []) (replies ++ said ∷ []) w
MakesInTurn-push u v w calls replies call said a b = record {
  made = record {
    own = a.made.own ++ b.made.own;
    called = called_trans u v w a.made.own b.made.own a.made.called b.made.called;
    makes = λ cycle held own suits. MakesCalls-push u.number cycle held own calls replies a.made.own call said b.made.own (a.made.makes cycle held own suits)
        (subst (λ n. IsShape n cycle (held_after held a.made.own) (own_after own a.made.own).ticket call said b.made.own) a.made.called.same.number
        (b.made.shape cycle (held_after held a.made.own) (own_after own a.made.own) (a.made.suits cycle held own suits)));
    suits = λ cycle held own suits.
        subst₂ (λ h t. Suits w cycle h t) (sym (held_after-append held a.made.own b.made.own)) (sym (own_after-append own a.made.own b.made.own))
        (b.made.suits cycle (held_after held a.made.own) (own_after own a.made.own) (a.made.suits cycle held own suits));
  };
  links = Links-push u v w a.made.own b.made.own a.made.called.same b.made.called.same a.made.suits a.links b.links;
}

-- what a variable holds leaves the hands alone
pub hands-holds : (v : View) (var : ℕ) (said : Reply) (w : View) → HoldsReply v var said w → w.hands ≡ v.hands
hands-holds v var (reply.Obj q) w holds = holds.rest.3
hands-holds v var reply.Nothing w holds = holds.rest.3
hands-holds v var _ w holds = holds.hands

module _ (v w : View) (call : Op) (said : Reply) where
  -- a call that links no reference, found by the name of its operation
  pub Makes-known : (known : Op) → call ≡ known → ((held : Held) → linked_of held known ≡ []) → Made v known said w → w.hands ≡ v.hands → Makes v call said w
  Makes-known known is nothing made hands = subst (λ (op : Op). Makes v op said w) (sym is) (record {
    made = made;
    links = Links-nothing v w made.own hands
        (λ cycle held ticket suits. linked_by-shape v.number cycle held ticket.ticket known said made.own (made.shape cycle held ticket suits) ∙ nothing held);
  })

  -- under a tag that was known to be one
  pub Makes-tagged : (known : ℕ → Op) (byte tag : ℕ) → call ≡ known byte → tag ≡ byte → ((held : Held) → linked_of held (known tag) ≡ []) →
      Made v (known tag) said w → w.hands ≡ v.hands → Makes v call said w
  Makes-tagged known byte tag is same = Makes-known (known tag) (is ∙ ap known (sym same))

  -- under a range that was known to be one
  pub Makes-ranged : (known : ℕ → ℕ → Op) (first last : ℕ) (range : TagRange) → call ≡ known first last →
      (range.first ≡ first) × (range.last ≡ last) → ((held : Held) → linked_of held (known range.first range.last) ≡ []) →
      Made v (known range.first range.last) said w → w.hands ≡ v.hands → Makes v call said w
  Makes-ranged known first last range is same =
      Makes-known (known range.first range.last) (is ∙ ap (λ n. known n last) (sym same.0) ∙ ap (known range.first) (sym same.1))

-- a link: what its target's variable holds is linked exactly where both variables hold something
linked_between-has : (found there : Option ℕ) (o : ℕ) → Has (linked_between found there) o → (found ≢ None) × (there ≡ Some o)
linked_between-has None there o linked = absurd linked
linked_between-has (Some object) None o linked = absurd linked
linked_between-has (Some object) (Some q) o (inl is) = (λ e. absurd (cc), ap Some is)
linked_between-has (Some object) (Some q) o (inr none) = absurd none

has-linked_between : (found there : Option ℕ) (q : ℕ) → found ≢ None → there ≡ Some q → Has (linked_between found there) q
has-linked_between None there q held is = absurd (held refl)
has-linked_between (Some object) there q held is = subst (λ (x : Option ℕ). Has (option_to_list x) q) (sym is) (inl refl)

-- it answers ok, or empty where a named variable holds nothing. The object that came into the hands, if any, is then linked, and what
-- is linked in a cycle is known as shaded
module _ (v w : View) (var k : ℕ) (said : Reply) (few : var < 16) (kinds : (said ≡ reply.Empty) ⊎ (said ≡ reply.Ok)) where
  came_by : (target : Option ℕ) → IfSome target (λ t. t < 16) → (q : ℕ) →
      ((said ≡ reply.Empty) ↔ ((held_in v var ≡ None) ⊎ IsUnheld v target)) → said ≡ reply.Ok → target_in v target ≡ Some q →
      (cycle : Option Cycle) (held : Held) (ticket : OwnTicket) → Suits v cycle held ticket → Has (linked_of held (op.Link var k target)) q
  came_by None low q empty ok is cycle held ticket suits = absurd (cc)
  came_by (Some t) low q empty ok is cycle held ticket suits =
      has-linked_between (held var) (held t) q
      (λ (none : held var ≡ None).
      let said_empty = empty.1 (inl (sym (held_suits v var few cycle held ticket suits) ∙ none)) in
      let apart : reply.Ok ≡ reply.Empty = sym ok ∙ said_empty in absurd (cc))
      (held_suits v t low cycle held ticket suits ∙ is)

  shaded_by : (target : Option ℕ) → IfSome target (λ t. t < 16) → ((said ≡ reply.Empty) ↔ ((held_in v var ≡ None) ⊎ IsUnheld v target)) →
      (said ≡ reply.Ok → phase_of v.opening ≡ 1 → IfSome (target_in v target) (λ q. Has w.facts (fact.Shaded q))) →
      (cycle : Option Cycle) (held : Held) (ticket : OwnTicket) → Suits v cycle held ticket → phase_of v.opening ≡ 1 →
      (o : ℕ) → Has (linked_of held (op.Link var k target)) o → Has w.facts (fact.Shaded o)
  shaded_by None low empty covered cycle held ticket suits phase o linked = absurd linked
  shaded_by (Some t) low empty covered cycle held ticket suits phase o linked =
      let both = linked_between-has (held var) (held t) o linked in
      let here = sym (held_suits v t low cycle held ticket suits) ∙ both.1 in
      elim kinds [
        | inl none ↦ elim (empty.0 none) [
          | inl unheld ↦ absurd (both.0 (held_suits v var few cycle held ticket suits ∙ unheld))
          | inr unheld ↦ let apart : Some o ≡ None = sym here ∙ unheld in absurd (cc)
        ]
        | inr ok ↦ subst (λ (x : Option ℕ). IfSome x (λ q. Has w.facts (fact.Shaded q))) here (covered ok phase)
      ]

  pub Makes-link : (call : Op) (target shaded : Option ℕ) → call ≡ op.Link var k target → IfSome target (λ t. t < 16) → Made v (op.Link var k target) said w →
      w.hands ≡ option_map_or (λ q. q ∷ v.hands) shaded v.hands →
      ((said ≡ reply.Empty) ↔ ((held_in v var ≡ None) ⊎ IsUnheld v target)) →
      IfSome shaded (λ q. (said ≡ reply.Ok) × (target_in v target ≡ Some q) × (phase_of v.opening ≡ 1)) →
      (said ≡ reply.Ok → phase_of v.opening ≡ 1 → IfSome (target_in v target) (λ q. Has w.facts (fact.Shaded q))) → Makes v call said w
  Makes-link call target shaded is low made hands empty came covered = subst (λ (op : Op). Makes v op said w) (sym is) (record {
    made = made;
    links = record {
      hands = λ cycle held ticket suits o there. by shaded came o (subst (λ (os : List ℕ). Has os o) hands there) cycle held ticket suits;
      shaded = λ cycle held ticket suits phase o linked. shaded_by target low empty covered cycle held ticket suits phase o
          (subst (λ (os : List ℕ). Has os o) (links cycle held ticket suits) linked);
    };
  })
    where
      links : (cycle : Option Cycle) (held : Held) (ticket : OwnTicket) → Suits v cycle held ticket → linked_by held made.own ≡ linked_of held (op.Link var k target)
      links cycle held ticket suits = linked_by-shape v.number cycle held ticket.ticket (op.Link var k target) said made.own (made.shape cycle held ticket suits)

      by : (shaded : Option ℕ) → IfSome shaded (λ q. (said ≡ reply.Ok) × (target_in v target ≡ Some q) × (phase_of v.opening ≡ 1)) →
          (o : ℕ) → Has (option_map_or (λ q. q ∷ v.hands) shaded v.hands) o →
          (cycle : Option Cycle) (held : Held) (ticket : OwnTicket) → Suits v cycle held ticket → Has v.hands o ⊎ Has (linked_by held made.own) o
      by None came o there cycle held ticket suits = inl there
      by (Some q) came o (inl new) cycle held ticket suits =
          inr (subst (λ (os : List ℕ). Has os o) (sym (links cycle held ticket suits))
          (subst (λ (n : ℕ). Has (linked_of held (op.Link var k target)) n) new (came_by target low q empty came.0 came.1 cycle held ticket suits)))
      by (Some q) came o (inr old) cycle held ticket suits = inl old
