-- A bind to a field of an object that a variable of the caller holds: its word is written where the field is 0, and else the
-- field's own word is found. What is left to show for a kind of bind is why it is legal, and what the caller owns after it.
use Rattle.std.proofs.Common.{◌≡◌, ◌≢◌, ◌⊎◌, ℕ, ◌^◌, ◌<◌, ◌==◌, if◌then◌else◌, Bool, true, false, List, [], ◌∷◌, ◌++◌, set, slice_index, Option, refl, ap, arith, ne_eqb}
use Rattle.std.proofs.lemmas.Bool.Decides.{nat_tests}
use mathlib.Core.Option.{some}
use lib.ListN.{get_elem?}
use prog.Atomic.{either}
use Rattle.plain_table.specs.declared.events.Act.TheVariants as act
use Rattle.plain_table.specs.declared.events.Event.{Event}
use Rattle.plain_table.specs.declared.events.Field.{Field}
use Rattle.plain_table.specs.declared.reports.Reply.TheVariants as reply
use Rattle.plain_table.specs.History.{IsLegal, next}
use Rattle.plain_table.specs.Places.{object_of}
use Rattle.plain_table.specs.Rows.{IsFreshBind, IsSharedBind, with_bound, with_unbound}
use Rattle.plain_table.specs.Table.{Table}
use Rattle.plain_table.specs.Words.{field_place}
use Rattle.plain_table.proofs.Branches.{if_either}
use Rattle.plain_table.proofs.WordPlaces.{field_place-from, freelist_place-below, header-apart-field}
use Rattle.word_laws.proofs.FieldWords.{FieldWordsFollow-row}
use Rattle.entry_word.specs.declared.image.Pending.{Pending}
use Rattle.entry_base.specs.declared.view.Claim.{Claim}
use Rattle.entry_base.specs.declared.view.Opening.{Opening}
use Rattle.entry_base.specs.declared.view.View.{View}
use Rattle.entry_base.specs.Callers.{IsCaller, Extends, event_of}
use Rattle.entry_base.specs.Openings.{sizes_in}
use Rattle.entry_base.specs.Owns.{IsHeld, Owns}
use Rattle.entry_base.specs.Rule.{Kept}
use Rattle.entry_base.proofs.Changes.{LowChanges, kept_low}
use Rattle.entry_base.proofs.Classes.{references_same}
use Rattle.entry_base.proofs.QuietSteps.{kept_event}
use Rattle.entry_base.proofs.Steps.{Given, Keeps, given, keeps_by, loads}
use Rattle.object_rule.specs.Fields.{bind_reply}
use Rattle.object_rule.proofs.Held.{object_held, object_made}
use Rattle.object_rule.proofs.HeldFields.{place_below, word_is, word_small}

-- a bind by the word that it finds, and the view after it, by the tickets and the claims that it leaves
abbrev pub bind_event : View → Field → ℕ → ℕ → Event
bind_event v f w n = event_of v (act.Bind f w) (bind_reply n)

abbrev pub bound_view : View → List (Option Pending) → List Claim → List Event → View
bound_view v pending fresh es = record v { seen = es; pending = pending; fresh = fresh }

-- what a kind of bind has to show of a sound table
pub record BindFits (v : View) (f : Field) (w : ℕ) (pending : ℕ → List (Option Pending)) (fresh : List Claim) (s : Table) : Type 0 where
  pub may : IsFreshBind s v.number f w ⊎ IsSharedBind s f w
  pub owns : (n : ℕ) (es : List Event) → n ≡ s.words f → Owns (next s (bind_event v f w n)) (bound_view v (pending n) fresh es)

module _ (key : Opening) (v : View) (f : Field) (w : ℕ) (pending : ℕ → List (Option Pending)) (fresh : List Claim) (caller : IsCaller key v) (mutator : v.number < 8)
    (held : IsHeld v (object_of f)) (fits : w < 2 ^ 32)
    (step : (log : List Event) (shown words : List ℕ) (s : Table) → Given key log shown words v s → BindFits v f w pending fresh s) where
  module _ (words : List ℕ) (views : List View) (id : ℕ) (k : Kept key words views) (at : get_elem? views id ≡ some v) where
    abbrev found : ℕ
    found = slice_index words (field_place f)

    abbrev e : Event
    e = bind_event v f w found

    abbrev bound : View
    bound = bound_view v (pending found) fresh (k.log ++ e ∷ [])

    module _ (s : Table) (g : Given key k.log k.shown words v s) where
      found_is : found ≡ s.words f
      found_is = word_is key k.log k.shown words v f caller mutator held s g k.near

      legal : IsLegal s e
      legal = ((object_held s v g.owns caller.own mutator (object_of f) held, fits, (step k.log k.shown words s g).may), ap bind_reply found_is)

      owns : Owns (next s e) bound
      owns = (step k.log k.shown words s g).owns found (k.log ++ e ∷ []) found_is

    -- the field is 0
    module _ (free : found ≡ 0) where
      change : (s : Table) → Given key k.log k.shown words v s → LowChanges (sizes_in key) k.log e k.shown words (field_place f) w bound [] s
      change s g = record {
        legal = legal s g;
        shows = FieldWordsFollow-row k.shown s e f w (object_made s v g.owns caller.own mutator g.sound (object_of f) held) g.shows (legal s g) (refl, refl, ap bind_reply free);
        refs = references_same s (next s e) (set k.shown (field_place f) w)
            (λ o m. if_either (λ t. t.refs o m ≡ s.refs o m) (s.words f == 0) (with_bound s v.number f w) (with_unbound s v.number f w) refl refl);
        owns = owns s g;
        tells = tt;
      }

      kept_bound : Kept key (set words (field_place f) w) (set views id bound) × (v.opening ≡ key → Extends v e bound)
      kept_bound = kept_low key words views id v bound k at [] e refl caller.own tt (λ p. refl) refl refl refl refl refl (field_place f) w
          (place_below key k.log k.shown words v f caller mutator held _ (given key words views id v k at k.base k.is_base))
          (λ o. header-apart-field o f) (λ p same. omega (arith, same, freelist_place-below p, field_place-from f)) change

    -- or it holds a word
    kept_taken : found ≢ 0 → Kept key words (set views id bound) × (v.opening ≡ key → Extends v e bound)
    kept_taken some_word = kept_event key words views id v k at [] e bound refl caller.own tt
        (found, ap (λ (b : Bool). if b then reply.Ok else reply.Taken found) (ne_eqb found 0 some_word)) (λ p. refl) refl refl refl refl refl
        (λ s g. (legal s g, owns s g, tt))

    found_small : found < 2 ^ 32
    found_small = word_small key k.log k.shown words v f caller mutator held _ (given key words views id v k at k.base k.is_base) k.near

  pub binds_field : (slots id : ℕ) (rest : List (ℕ × Unit {0})) (R : ℕ → View → Type 0)
      → ((n : ℕ) (es : List Event) → n < 2 ^ 32 → Extends v (bind_event v f w n) (bound_view v (pending n) fresh es) → R n (bound_view v (pending n) fresh es))
      → Keeps key slots id (v, rest) (field_place f) (λ n. either (n == 0) w n) R
  binds_field slots id rest R tells = keeps_by key slots id (v, rest) (field_place f) (λ n. either (n == 0) w n) R (λ words views k at. go words views k at (slice_index words (field_place f) == 0) refl)
    where
      go : (words : List ℕ) (views : List View) (k : Kept key words views) → get_elem? views id ≡ some v → (b : Bool) → (slice_index words (field_place f) == 0) ≡ b
          → (u : View) × Kept key (set words (field_place f) (either b w (slice_index words (field_place f)))) (set views id u) × R (slice_index words (field_place f)) u
      go words views k at true none_there =
          let done = kept_bound words views id k at (grind (arith, nat_tests)) in
          (_, done.0, tells _ _ (found_small words views id k at) (done.1 caller.opened))
      go words views k at false some_there =
          let done = kept_taken words views id k at (grind (arith, nat_tests)) in
          (_, loads key words _ (field_place f) done.0, tells _ _ (found_small words views id k at) (done.1 caller.opened))
