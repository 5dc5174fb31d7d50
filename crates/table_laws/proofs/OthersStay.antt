-- Steadiness of what others have: an event changes the variables, the ticket, the claims and the fresh indexes of its own
-- number alone.
use Rattle.std.proofs.Common.{◌≡◌, ◌≢◌, ℕ, Bool, true, false, Option, Some, None, refl, sym, ap, ◌∙◌, inl, inr}
use Rattle.std.specs.Prelude.{nat_lt, ◌==◌, if◌then◌else◌}
use Rattle.plain_table.specs.declared.events.Act.{Act}
use Rattle.plain_table.specs.declared.events.Act.TheVariants.{New, Drop, Get, Link, Take, Below, Put, Bind, Publish, Evac, Start, Finish}
use Rattle.plain_table.specs.declared.events.Event.{Event}
use Rattle.plain_table.specs.declared.events.Space.{Space}
use Rattle.plain_table.specs.declared.events.Space.TheVariants.{External, Trusted}
use Rattle.plain_table.specs.declared.events.Spot.TheVariants.{Global, Ref}
use Rattle.plain_table.specs.declared.reports.Reply.{Reply}
use Rattle.plain_table.specs.Index.{index_of}
use Rattle.plain_table.specs.Places.{space_of, put_at, put_pair, put_claim}
use Rattle.plain_table.specs.Table.{Table, least_free}
use Rattle.plain_table.specs.Rows.{row, free_below, tickets_after, with_object, with_bound, with_unbound}
use Rattle.plain_table.specs.History.{IsLegal}
use Rattle.plain_table.specs.Sound.{IsSound}
use Rattle.table_laws.specs.Steady.{IsDuringPhase, OthersSteady}
use Rattle.plain_table.proofs.PlaceReads.{read_pair, put_at-other}
use Rattle.table_laws.proofs.ClaimReads.{put_claim-others}
use Rattle.plain_table.proofs.Branches.{if_either, with_taken_either}

pub put_pair-others : (vars : ℕ → ℕ → Option ℕ) (b v : ℕ) (x : Option ℕ) (c u : ℕ) → c ≢ b → put_pair vars b v x c u ≡ vars c u
put_pair-others vars b v x c u apart = elim (read_pair x vars b v c u) [ inl r ↦ absurd (apart (sym r.0.0)) | inr r ↦ r.1 ]

pub tickets_after-others : (s : Table) (b : ℕ) (p : Space) (i c : ℕ) → c ≢ b → tickets_after s b p i c ≡ s.ticket c
tickets_after-others s b External i c apart = refl
tickets_after-others s b Trusted i c apart = by_test (s.fresh b Trusted i)
  where
    by_test : (test : Bool) → (if test then put_at s.ticket b (Some i) else s.ticket) c ≡ s.ticket c
    by_test true = put_at-other s.ticket b c (Some i) (λ e. apart (sym e))
    by_test false = refl

-- all of it is left alone
pub OthersSteady-same : (s : Table) (e : Event) (t : Table) → t.vars ≡ s.vars → t.ticket ≡ s.ticket → t.owed ≡ s.owed →
    t.fresh ≡ s.fresh → OthersSteady s e t
OthersSteady-same s e t vars ticket owed fresh = record {
  variables = λ b v apart. ap (λ f. f b v) vars;
  tickets = λ b apart. ap (λ f. f b) ticket;
  owed = λ b p i apart. ap (λ f. f b p i) owed;
  fresh = λ b p i apart. ap (λ f. f b p i) fresh;
}

-- a variable of the number changes
pub OthersSteady-variable : (s : Table) (e : Event) (t : Table) (v : ℕ) (x : Option ℕ) → t.vars ≡ put_pair s.vars e.by v x →
    t.ticket ≡ s.ticket → t.owed ≡ s.owed → t.fresh ≡ s.fresh → OthersSteady s e t
OthersSteady-variable s e t v x vars ticket owed fresh = record {
  variables = λ b u apart. ap (λ f. f b u) vars ∙ put_pair-others s.vars e.by v x b u apart;
  tickets = λ b apart. ap (λ f. f b) ticket;
  owed = λ b p i apart. ap (λ f. f b p i) owed;
  fresh = λ b p i apart. ap (λ f. f b p i) fresh;
}

-- a claim of the number changes
pub OthersSteady-claim : (s : Table) (e : Event) (t : Table) (p : Space) (i : ℕ) (x : Bool) → t.vars ≡ s.vars →
    t.ticket ≡ s.ticket → t.owed ≡ put_claim s.owed e.by p i x → t.fresh ≡ s.fresh → OthersSteady s e t
OthersSteady-claim s e t p i x vars ticket owed fresh = record {
  variables = λ b v apart. ap (λ f. f b v) vars;
  tickets = λ b apart. ap (λ f. f b) ticket;
  owed = λ b q j apart. ap (λ f. f b q j) owed ∙ put_claim-others s.owed e.by p i x b q j apart;
  fresh = λ b q j apart. ap (λ f. f b q j) fresh;
}

pub OthersSteady-row : (s : Table) (b : ℕ) (a : Act) (said : Reply) → IsSound s → IsLegal s (record { by = b; act = a; said = said }) → IsDuringPhase a →
    OthersSteady s (record { by = b; act = a; said = said }) (row s b a).next
OthersSteady-row s b (New var) said h k during =
    if_either (OthersSteady s (record { by = b; act = New var; said = said })) (nat_lt s.count s.sizes.objects) (with_object s b var) s
    (OthersSteady-variable _ _ _ var (Some s.count) refl refl refl refl) (OthersSteady-same _ _ _ refl refl refl refl)
OthersSteady-row s b (Drop var) said h k during = OthersSteady-variable _ _ _ var None refl refl refl refl
OthersSteady-row s b (Get var spot) said h k during = OthersSteady-variable _ _ _ var _ refl refl refl refl
OthersSteady-row s b (Link (Global g) var) said h k during = OthersSteady-same _ _ _ refl refl refl refl
OthersSteady-row s b (Link (Ref object n) var) said h k during = OthersSteady-same _ _ _ refl refl refl refl
OthersSteady-row s b (Take p) said h k during =
    with_taken_either (OthersSteady s (record { by = b; act = Take p; said = said })) s b p (least_free s p)
    (OthersSteady-same _ _ _ refl refl refl refl) (λ i. OthersSteady-claim _ _ _ p i true refl refl refl refl)
OthersSteady-row s b (Below start) said h k during =
    with_taken_either (OthersSteady s (record { by = b; act = Below start; said = said })) s b External (free_below s start)
    (OthersSteady-same _ _ _ refl refl refl refl) (λ i. OthersSteady-claim _ _ _ External i true refl refl refl refl)
OthersSteady-row s b (Put p i tag value) said h k during = record {
  variables = λ c v apart. refl;
  tickets = λ c apart. refl;
  owed = λ c q j apart. put_claim-others s.owed b p i false c q j apart;
  fresh = λ c q j apart. put_claim-others s.fresh b p i true c q j apart;
}
OthersSteady-row s b (Bind f w) said h k during =
    if_either (OthersSteady s (record { by = b; act = Bind f w; said = said })) (s.words f == 0) (with_bound s b f w) (with_unbound s b f w)
    (record {
      variables = λ c v apart. refl;
      tickets = λ c apart. tickets_after-others s b (space_of f) (index_of w) c apart;
      owed = λ c q j apart. refl;
      fresh = λ c q j apart. put_claim-others s.fresh b (space_of f) (index_of w) false c q j apart;
    })
    (record {
      variables = λ c v apart. refl;
      tickets = λ c apart. refl;
      owed = λ c q j apart. refl;
      fresh = λ c q j apart. put_claim-others s.fresh b (space_of f) (index_of w) false c q j apart;
    })
OthersSteady-row s b (Publish i) said h k during = record {
  variables = λ c v apart. refl;
  tickets = λ c apart. put_at-other s.ticket b c None (λ e. apart (sym e));
  owed = λ c q j apart. refl;
  fresh = λ c q j apart. refl;
}
OthersSteady-row s b (Evac i number) said h k during = OthersSteady-claim _ _ _ External i false refl refl refl refl
OthersSteady-row s b (Start policy) said h k during = absurd during
OthersSteady-row s b Finish said h k during = absurd during
OthersSteady-row s b _ said h k during = OthersSteady-same _ _ _ refl refl refl refl
