-- What an image shows after an event of a table that it showed: the parts that the event leaves alone follow from its
-- steadiness, and what is left to show is said by each lemma's premises.
use Rattle.std.proofs.Common.{◌≡◌, ◌⊎◌, ℕ, ◌+◌, ◌*◌, ◌<◌, ◌≤◌, List, length, slice_index, Option, Some, None, refl, sym, ap, subst, ◌∙◌, inl, arith}
use Rattle.std.specs.Prelude.{slice_index_or, IfSome, IsSomeAnd}
use Rattle.plain_table.specs.declared.events.Cell.{Cell}
use Rattle.plain_table.specs.declared.events.Event.{Event}
use Rattle.plain_table.specs.declared.events.Space.TheVariants.{Trusted}
use Rattle.plain_table.specs.declared.events.Act.{Act}
use Rattle.plain_table.specs.declared.events.Act.TheVariants.{Start}
use Rattle.plain_table.specs.declared.scripts.Policy.{Policy}
use Rattle.plain_table.specs.Cycle.{Cycle}
use Rattle.plain_table.specs.Table.{Table, Sizes}
use Rattle.plain_table.specs.Words.{header_place, object_word}
use Rattle.plain_table.specs.History.{IsLegal, next}
use Rattle.plain_table.specs.Sound.{IsSound}
use Rattle.plain_table.specs.Shows.{Image, ImageShows, IsCovered, IsPending, IsShaded, PendingCell, Shows}
use Rattle.plain_table.proofs.Options.{IsSomeAnd-is, IsSomeAnd-by, IsSome-value, IsSomeAnd-some}
use Rattle.table_laws.specs.Steady.{IsDuringPhase, IsSteady}
use Rattle.table_laws.proofs.Soundness.{events-sound}
use Rattle.table_laws.proofs.Steadiness.{events-steady}
use Rattle.word_laws.proofs.CoverSteps.{IsStep-next}
use Rattle.word_laws.proofs.CoveredWords.{CoveredWordsStay-step}
use Rattle.entry_word.specs.Image.{image_of, sizes_of}
use Rattle.mutator_calls.specs.declared.heap.Mutator.{Mutator}
use Rattle.mutator_calls.specs.Calls.{IsReady, Sees}
use Rattle.mutator_calls.specs.Words.{IsShownAs, IsShownBySome}

-- the variables and the pending cells of an image, as a table has them
abbrev pub HasVariables : List ℕ → (ℕ → ℕ → Option ℕ) → Type 0
HasVariables variables vars = (length variables ≡ 128) × ((b v : ℕ) → b < 8 → v < 16 → slice_index variables (16 * b + v) ≡ object_word (vars b v))

abbrev pub HasPending : List (Option PendingCell) → Table → (ℕ → Option ℕ) → Type 0
HasPending pending s ticket = (length pending ≡ 8) × ((b : ℕ) (d : Option PendingCell) → b < 8 → IsPending s (ticket b) (slice_index_or pending b d))

not-start : (a : Act) → IsDuringPhase a → (policy : Policy) → a ≡ Start policy → ⊥
not-start a during policy is = subst IsDuringPhase is during

module _ (image : Image) (s : Table) (e : Event) (h : Sees image s) (legal : IsLegal s e) (during : IsDuringPhase e.act) where
  pub sound-next : IsSound (next s e)
  sound-next = events-sound s e h.sound legal

  pub steady-next : IsSteady s e (next s e)
  steady-next = events-steady s e h.sound legal during

  -- a pending cell has its index, tag and value after the event
  IsPending-next : (found : Option ℕ) (p : Option PendingCell) → IsPending s found p → IsPending (next s e) found p
  IsPending-next None p was = was
  IsPending-next (Some i) p was =
      let cell = IsSome-value (s.cells Trusted i) (IsSomeAnd-some (s.cells Trusted i) (λ (c : Cell). p ≡ Some (record { index = i; tag = c.tag; value = c.value })) was) in
      let is = IsSomeAnd-is (s.cells Trusted i) (λ (c : Cell). p ≡ Some (record { index = i; tag = c.tag; value = c.value })) cell.0 cell.1 was in
      let stays = steady-next.cells.stay Trusted i cell.0 cell.1 in
      let now = IsSome-value ((next s e).cells Trusted i) (IsSomeAnd-some ((next s e).cells Trusted i) (λ (d : Cell). (d.id ≡ cell.0.id) × (d.tag ≡ cell.0.tag)) stays) in
      let tag = (IsSomeAnd-is ((next s e).cells Trusted i) (λ (d : Cell). (d.id ≡ cell.0.id) × (d.tag ≡ cell.0.tag)) now.0 now.1 stays).1 in
      let value = IsSomeAnd-is ((next s e).cells Trusted i) (λ (d : Cell). d.value ≡ cell.0.value) now.0 now.1 (steady-next.cells.values i cell.0 cell.1) in
      IsSomeAnd-by ((next s e).cells Trusted i) now.0 (λ (c : Cell). p ≡ Some (record { index = i; tag = c.tag; value = c.value })) now.1
      (is ∙ ap (λ t. Some (record { index = i; tag = t; value = cell.0.value })) (sym tag) ∙ ap (λ v. Some (record { index = i; tag = now.0.tag; value = v })) (sym value))

  pub HasPending-next : (ticket : ℕ → Option ℕ) → HasPending image.pending s ticket → HasPending image.pending (next s e) ticket
  HasPending-next ticket was = (was.0, λ b d few. IsPending-next (ticket b) (slice_index_or image.pending b d) (was.1 b d few))

  -- no header and no reference changes
  pub IsCovered-next : (later : List ℕ) →
      ((o : ℕ) → o < s.sizes.objects → slice_index later (header_place o) ≡ slice_index image.words (header_place o)) →
      ((o k : ℕ) → (next s e).refs o k ≡ s.refs o k) → IsCovered later (next s e)
  IsCovered-next later headers refs =
      CoveredWordsStay-step image.words later s (next s e) (IsStep-next s e h.sound (not-start e.act during)) headers (each (next s e).cycle) h.covered
    where
      each : (cycle : Option Cycle) → IfSome cycle (λ d. (o k : ℕ) → o < s.sizes.objects → ((next s e).refs o k ≡ s.refs o k) ⊎ IfSome ((next s e).refs o k) (IsShaded later))
      each None = tt
      each (Some c) = λ o k few. inl (refs o k)

  -- all that is left to show after an event
  pub Sees-next : (now : Image) → now.sizes ≡ image.sizes → Shows now.words (next s e) → IsCovered now.words (next s e) →
      HasVariables now.variables (next s e).vars → HasPending now.pending (next s e) (next s e).ticket → Sees now (next s e)
  Sees-next now sizes shows covered variables pending = record {
    sound = sound-next;
    shows = record {
      sizes = steady-next.sizes ∙ h.shows.sizes ∙ sym sizes;
      words = shows;
      variables = variables;
      pending = pending;
    };
    covered = covered;
  }

  -- the words change, and no header among them; references, variables and tickets stay
  pub Sees-words : (later : List ℕ) → Shows later (next s e) →
      ((o : ℕ) → o < s.sizes.objects → slice_index later (header_place o) ≡ slice_index image.words (header_place o)) →
      (next s e).refs ≡ s.refs → (next s e).vars ≡ s.vars → (next s e).ticket ≡ s.ticket →
      Sees (record image { words = later }) (next s e)
  Sees-words later shows headers refs vars ticket =
      Sees-next (record image { words = later }) refl shows
      (IsCovered-next later headers (λ o k. ap (λ (rs : ℕ → ℕ → Option ℕ). rs o k) refs))
      (subst (HasVariables image.variables) (sym vars) h.shows.variables)
      (subst (HasPending image.pending (next s e)) (sym ticket) (HasPending-next s.ticket h.shows.pending))

-- the words of a mutator that is ready, as its private functions ask for them
pub shown-as : (m : Mutator) (s : Table) → Sees (image_of m.image) s → IsShownAs m.image.words.items (sizes_of m.image.shape) s
shown-as m s h = record { sound = h.sound; same = h.shows.sizes; shows = h.shows.words }

pub shown-some : (m : Mutator) → IsReady m → IsShownBySome m.image.words.items (sizes_of m.image.shape)
shown-some m ready =
    let s = ready.lawful.0 in
    (s, shown-as m s (record { sound = ready.lawful.1; shows = ready.lawful.2; covered = ready.lawful.3 }))

-- a variable that holds an object holds one within the limit
pub object-few : (m : Mutator) → IsReady m → (var : ℕ) → var < 16 → (o : ℕ) → slice_index m.image.vars.items var ≡ o + 1 →
    (o < m.image.shape.objects) × (o < 16384)
object-few m ready var small o is =
    let s = ready.lawful.0 in
    let at : 16 * 0 + var ≡ var = omega arith in
    let held : o + 1 ≡ object_word (s.vars 0 var) =
    sym is ∙ ap (slice_index m.image.vars.items) (sym at) ∙ ready.lawful.2.variables.1 0 var (omega arith) small in
    let few = ready.lawful.1.objects.few in
    let most : s.sizes.objects ≡ m.image.shape.objects = ap (λ (z : Sizes). z.objects) ready.lawful.2.sizes in
    by (s.vars 0 var) refl held few most
  where
    by : (found : Option ℕ) → ready.lawful.0.vars 0 var ≡ found → o + 1 ≡ object_word found → ready.lawful.0.count ≤ ready.lawful.0.sizes.objects →
        ready.lawful.0.sizes.objects ≡ m.image.shape.objects → (o < m.image.shape.objects) × (o < 16384)
    by None eq word few most = absurd (omega (arith, word))
    by (Some q) eq word few most =
        let made = (ready.lawful.1.objects.variables 0 var q eq).2 in
        let same : o ≡ q = omega (arith, word) in
        let objects = ready.shape.objects in
        (omega (arith, made, same, few, most), omega (arith, made, same, few, most, objects))
