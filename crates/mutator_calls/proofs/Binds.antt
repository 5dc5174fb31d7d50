-- A bind of an external field by the word that it finds there: the word is written where the field was 0.
use Rattle.std.proofs.Common.{◌≡◌, ℕ, Bool, sym, ap, subst, ◌∙◌, inl, inr, arith, eq-eqb, ne_eqb}
use Rattle.std.specs.Prelude.{if◌then◌else◌, List, slice_index, slice_set}
use Rattle.std.proofs.lemmas.Bool.Decides.{eqb_tells}
use Rattle.plain_table.specs.declared.events.Act.TheVariants.{Bind}
use Rattle.plain_table.specs.declared.events.Field.{Field}
use Rattle.plain_table.specs.declared.events.Space.TheVariants.{External}
use Rattle.plain_table.specs.declared.reports.Reply.{Reply}
use Rattle.plain_table.specs.declared.reports.Reply.TheVariants as reply
use Rattle.plain_table.specs.Index.{index_of}
use Rattle.plain_table.specs.Places.{object_of, space_of}
use Rattle.plain_table.specs.Table.{Table}
use Rattle.plain_table.specs.Words.{field_place}
use Rattle.plain_table.specs.Rows.{tickets_after}
use Rattle.plain_table.specs.Shapes.{event}
use Rattle.plain_table.specs.Shows.{Image}
use Rattle.mutator_calls.specs.Calls.{Sees}
use Rattle.mutator_calls.specs.Inits.{bound_by, bound_said}
use Rattle.mutator_calls.proofs.TrustedBinds.{FollowsTo, FollowsTo-bound, FollowsTo-taken, MayBind}

module _ (image : Image) (s : Table) (h : Sees image s) (f : Field) (w : ℕ) (may : MayBind s f w) where
  pub field-shown : slice_index image.words (field_place f) ≡ s.words f
  field-shown =
      let made = (h.sound.objects.variables 0 may.0.0 (object_of f) may.0.2).2 in
      let most = h.sound.objects.few in
      h.shows.words.fields f (omega (arith, made, most))

  pub FollowsTo-bind : space_of f ≡ External → (said : Reply) → said ≡ bound_said (s.words f) →
      FollowsTo (record image { words = bound_by (field_place f) w image.words }) s (event 0 (Bind f w) said) s.ticket
  FollowsTo-bind external said is = elim (eqb_tells (s.words f) 0) [
    | inl none ↦
        let test = eq-eqb (slice_index image.words (field_place f)) 0 (field-shown ∙ none.1) in
        let words = ap (λ (b : Bool). if b then slice_set image.words (field_place f) w else image.words) test in
        let ok = is ∙ ap (λ (b : Bool). if b then reply.Ok else reply.Taken (s.words f)) (eq-eqb (s.words f) 0 none.1) in
        subst (λ (ws : List ℕ). FollowsTo (record image { words = ws }) s (event 0 (Bind f w) said) s.ticket) (sym words)
        (subst (λ (r : Reply). FollowsTo (record image { words = slice_set image.words (field_place f) w }) s (event 0 (Bind f w) r) s.ticket) (sym ok)
        (FollowsTo-bound image s h f w may none.1 (ap (λ p. tickets_after s 0 p (index_of w)) external)))
    | inr some ↦
        let test = ne_eqb (slice_index image.words (field_place f)) 0 (λ e. some.1 (sym field-shown ∙ e)) in
        let words = ap (λ (b : Bool). if b then slice_set image.words (field_place f) w else image.words) test in
        let taken = is ∙ ap (λ (b : Bool). if b then reply.Ok else reply.Taken (s.words f)) (ne_eqb (s.words f) 0 some.1) in
        subst (λ (ws : List ℕ). FollowsTo (record image { words = ws }) s (event 0 (Bind f w) said) s.ticket) (sym words)
        (subst (λ (r : Reply). FollowsTo image s (event 0 (Bind f w) r) s.ticket) (sym taken) (FollowsTo-taken image s h f w may some.1))
  ]
