-- Precision: each cell that a finish keeps is marked, and each mark has its cause since the start of the cycle. A cause
-- once there stays, since words only come into fields, and what stood there at the start is not forgotten.
use Rattle.std.proofs.Common.{◌≡◌, ℕ, ◌==◌, true, List, [], ◌∷◌, Option, Some, None, option_map, sym, ◌∙◌, inl, inr, IsTrue, IsSome, IsSomeAnd, subst, subst₂}
use Rattle.std.specs.Prelude.{◌⊎◌, nat_lt}
use Rattle.plain_table.specs.declared.events.Act.{Act}
use Rattle.plain_table.specs.declared.events.Act.TheVariants.{New, Drop, Get, Link, Take, Below, Abort, Put, Bind, Name, Look, Set, Swap, Forge, Publish, Mark, Evac, Scan, Start, Finish}
use Rattle.plain_table.specs.declared.events.Event.{Event}
use Rattle.plain_table.specs.declared.events.Space.{Space}
use Rattle.plain_table.specs.declared.events.Space.TheVariants.{External, Trusted}
use Rattle.plain_table.specs.declared.events.Field.{Field}
use Rattle.plain_table.specs.declared.events.Field.TheVariants as field
use Rattle.plain_table.specs.Index.{index_of}
use Rattle.plain_table.specs.Cycle.{Cycle, with_mark, with_birth, with_scan, with_word, with_entry, with_abort, marked_in, touched_in}
use Rattle.plain_table.specs.Table.{Table, least_free}
use Rattle.plain_table.specs.Finish.{IsKept, place, started}
use Rattle.plain_table.specs.Rows.{row, IsNamed, object_in, free_below, with_object, with_bound, with_unbound}
use Rattle.plain_table.specs.History.{IsLegalHistory, next, after}
use Rattle.table_laws.specs.Steady.{IsDuringPhase}
use Rattle.table_laws.specs.Causes.{Writes, AreDuringPhase, HasCause}
use Rattle.table_laws.specs.Laws.{FinishesArePrecise}
use Rattle.plain_table.proofs.PlaceReads.{read_entry, put_field-grows}
use Rattle.plain_table.proofs.Options.{IsSome-value}
use Rattle.table_laws.proofs.FinishMoves.{place-marked}
use Rattle.plain_table.proofs.Branches.{if_either, with_taken_either, with_linked_either}

-- a cycle is under way in which the index is marked, and one in which a word that stood in a field of the space names it
abbrev pub IsMarkedIn : Option Cycle → Space → ℕ → Type 0
IsMarkedIn cycle p i = IsSomeAnd cycle (λ c. IsTrue (c.marks p i))

abbrev pub IsNamedIn : Option Cycle → Space → ℕ → Type 0
IsNamedIn cycle p i = IsSomeAnd cycle (λ c. IsNamed c p i)

-- a cycle goes on at an index: it is marked only where it was, or where P holds, and stays named
record GoesOn (old new : Option Cycle) (p : Space) (i : ℕ) (P : Type 0) : Type 0 where
  marks : IsMarkedIn new p i → IsMarkedIn old p i ⊎ P
  names : IsNamedIn old p i → IsNamedIn new p i

module _ (p : Space) (i : ℕ) where
  module _ {P : Type 0} where
    GoesOn-same : (cycle : Option Cycle) → GoesOn cycle cycle p i P
    GoesOn-same cycle = record { marks = λ h. inl h; names = λ h. h }

    GoesOn-changed : (cycle : Option Cycle) (change : Cycle → Cycle) → ((c : Cycle) → IsTrue ((change c).marks p i) → IsTrue (c.marks p i) ⊎ P) →
        ((c : Cycle) → IsNamed c p i → IsNamed (change c) p i) → GoesOn cycle (option_map change cycle) p i P
    GoesOn-changed None change marks names = GoesOn-same None
    GoesOn-changed (Some c) change marks names = record { marks = marks c; names = names c }

    GoesOn-marked : (cycle : Option Cycle) (q : Space) (j : ℕ) → ((q ≡ p) × (j ≡ i) → P) → GoesOn cycle (marked_in cycle q j) p i P
    GoesOn-marked cycle q j writes =
        GoesOn-changed cycle (with_mark q j)
        (λ c h. elim (read_entry true c.marks q j p i) [ inl r ↦ inr (writes r.0) | inr r ↦ inl (sym r.1 ∙ h) ])
        (λ c h. h)

    GoesOn-touched : (cycle : Option Cycle) (g : Field) (v : ℕ) → GoesOn cycle (touched_in cycle g v) p i P
    GoesOn-touched cycle g v =
        GoesOn-changed cycle (with_word g v) (λ c h. inl h)
        (λ c h. (h.0, h.1, h.2, h.3, elim h.4 [ inl old ↦ inl old | inr new ↦ inr (put_field-grows c.came g v h.0 h.1 new) ]))

  -- a mark event is allowed only at an index that is named
  named_at_mark : (cycle : Option Cycle) (q : Space) (j : ℕ) (stands : Type 0) → IsSomeAnd cycle (λ c. stands × IsNamed c q j) →
      (q ≡ p) × (j ≡ i) → IsNamedIn cycle p i
  named_at_mark None q j stands h same = absurd h
  named_at_mark (Some c) q j stands h same = subst₂ (λ (r : Space) (k : ℕ). IsNamed c r k) same.0 same.1 h.1

  -- after an event concurrent with others an index is marked only where it was, or the event writes there, or a word
  -- that stood in a field names it
  GoesOn-row : (s : Table) (b : ℕ) (a : Act) → IsDuringPhase a → (row s b a).allowed →
      GoesOn s.cycle (row s b a).next.cycle p i (Writes a p i ⊎ IsNamedIn s.cycle p i)
  GoesOn-row s b (New var) during k =
      if_either (λ t. GoesOn s.cycle t.cycle p i (Writes (New var) p i ⊎ IsNamedIn s.cycle p i)) (nat_lt s.count s.sizes.objects) (with_object s b var) s
      (GoesOn-changed s.cycle (with_birth s.count) (λ c h. inl h) (λ c h. h)) (GoesOn-same s.cycle)
  GoesOn-row s b (Drop var) during k = GoesOn-same s.cycle
  GoesOn-row s b (Get var spot) during k = GoesOn-same s.cycle
  GoesOn-row s b (Link spot var) during k =
      with_linked_either (λ t. GoesOn s.cycle t.cycle p i (Writes (Link spot var) p i ⊎ IsNamedIn s.cycle p i)) s spot (object_in s b var)
      (λ g. GoesOn-same s.cycle) (λ object n. GoesOn-same s.cycle)
  GoesOn-row s b (Take q) during k =
      with_taken_either (λ t. GoesOn s.cycle t.cycle p i (Writes (Take q) p i ⊎ IsNamedIn s.cycle p i)) s b q (least_free s q)
      (GoesOn-same s.cycle) (λ j. GoesOn-same s.cycle)
  GoesOn-row s b (Below start) during k =
      with_taken_either (λ t. GoesOn s.cycle t.cycle p i (Writes (Below start) p i ⊎ IsNamedIn s.cycle p i)) s b External (free_below s start)
      (GoesOn-same s.cycle) (λ j. GoesOn-same s.cycle)
  GoesOn-row s b Abort during k = GoesOn-changed s.cycle with_abort (λ c h. inl h) (λ c h. h)
  GoesOn-row s b (Put q j tag value) during k = GoesOn-marked s.cycle q j (λ same. inl same)
  GoesOn-row s b (Bind f word) during k =
      if_either (λ t. GoesOn s.cycle t.cycle p i (Writes (Bind f word) p i ⊎ IsNamedIn s.cycle p i)) (s.words f == 0) (with_bound s b f word) (with_unbound s b f word)
      (GoesOn-touched s.cycle f word) (GoesOn-same s.cycle)
  GoesOn-row s b (Name f) during k = GoesOn-same s.cycle
  GoesOn-row s b (Look q word first last) during k = GoesOn-same s.cycle
  GoesOn-row s b (Set word first last value) during k = GoesOn-marked s.cycle External (index_of word) (λ same. inl (sym same.0, same.1))
  GoesOn-row s b (Swap word first last value) during k = GoesOn-marked s.cycle External (index_of word) (λ same. inl (sym same.0, same.1))
  GoesOn-row s b (Forge number word) during k = GoesOn-touched s.cycle (field.External number) word
  GoesOn-row s b (Publish j) during k = GoesOn-marked s.cycle Trusted j (λ same. inl (sym same.0, same.1))
  GoesOn-row s b (Mark q j) during k =
      GoesOn-marked s.cycle q j (λ same. inr (named_at_mark s.cycle q j (IsSome (s.cells q j)) k same))
  GoesOn-row s b (Evac j number) during k = GoesOn-changed s.cycle (with_entry j number) (λ c h. inl h) (λ c h. h)
  GoesOn-row s b (Scan o) during k = GoesOn-changed s.cycle (with_scan o) (λ c h. inl h) (λ c h. h)
  GoesOn-row s b (Start policy) during k = absurd during
  GoesOn-row s b Finish during k = absurd during

  IsNamedIn-after : (es : List Event) (s : Table) → IsLegalHistory s es → AreDuringPhase es → IsNamedIn s.cycle p i → IsNamedIn (after s es).cycle p i
  IsNamedIn-after [] s legal during h = h
  IsNamedIn-after (e ∷ es) s legal during h =
      IsNamedIn-after es (next s e) legal.1 during.1 ((GoesOn-row s e.by e.act during.0 legal.0.0).names h)

  -- a mark after a history stood before it, or has its cause
  IsMarkedIn-after : (es : List Event) (s : Table) → IsLegalHistory s es → AreDuringPhase es → IsMarkedIn (after s es).cycle p i →
      IsMarkedIn s.cycle p i ⊎ HasCause s es p i
  IsMarkedIn-after [] s legal during h = inl h
  IsMarkedIn-after (e ∷ es) s legal during h = elim (IsMarkedIn-after es (next s e) legal.1 during.1 h) [
    | inl mark ↦ elim ((GoesOn-row s e.by e.act during.0 legal.0.0).marks mark) [
      | inl old ↦ inl old
      | inr (inl writes) ↦ inr (inl (inl writes))
      | inr (inr named) ↦ inr (inr (IsNamedIn-after (e ∷ es) s legal during named))
    ]
    | inr (inl written) ↦ inr (inl (inr written))
    | inr (inr named) ↦ inr (inr named)
  ]

-- a cell that is kept is marked
pub IsKept-marked : (c : Cycle) (words : Field → ℕ) (p : Space) (i : ℕ) → IsKept c words p i → IsTrue (c.marks p i)
IsKept-marked c words p i h = let to = IsSome-value (place c words p i) h in place-marked c words p i to.0 to.1

pub finishes-precise : FinishesArePrecise
finishes-precise s policy es p i legal during c now kept =
    let t = after (started s policy) es in
    let marked : IsMarkedIn t.cycle p i = subst (λ (cycle : Option Cycle). IsMarkedIn cycle p i) (sym now) (IsKept-marked c t.words p i kept) in
    elim (IsMarkedIn-after p i es (started s policy) legal during marked) [
      | inl old ↦ absurd (cc)
      | inr cause ↦ cause
    ]
