-- The mark of a trusted cell whose word was seen: a cell stands there, so there is a mark.
use Rattle.std.proofs.Common.{arith, ◌≡◌, ℕ, ◌<◌, [], ◌∷◌, IsSome, sym, subst, inl, inr, zero, suc, ◌==◌, false, if◌then◌else◌, ◌++◌, refl, ◌≢◌, Bool}
use Rattle.std.proofs.lemmas.Bool.{cases_lt}
use Rattle.std.proofs.lemmas.Bool.Decides.{nat_tests}
use Rattle.std.proofs.lemmas.Grind.{not_there}
use Rattle.plain_table.specs.declared.events.Act.TheVariants as act
use Rattle.plain_table.specs.declared.events.Field.TheVariants as field
use Rattle.plain_table.specs.declared.events.Space.TheVariants.{Trusted}
use Rattle.plain_table.specs.declared.reports.Reply.TheVariants as reply
use Rattle.plain_table.specs.History.{after}
use Rattle.plain_table.specs.Index.{index_of}
use Rattle.plain_table.specs.Table.{limit_in}
use Rattle.plain_table.proofs.Options.{IsSome-none}
use Rattle.entry_base.specs.declared.view.Fact.{Fact}
use Rattle.entry_base.specs.declared.view.Fact.TheVariants as fact
use Rattle.entry_base.specs.declared.view.View.{View}
use Rattle.entry_base.specs.Callers.{event_of}
use Rattle.entry_base.specs.Facts.{TableKnows}
use Rattle.entry_base.specs.Histories.{IsPhaseHistory}
use Rattle.entry_base.specs.Lists.{Has}
use Rattle.entry_base.specs.Openings.{IsBase, IsOpenable, phase_of, sizes_in}
use Rattle.entry_base.proofs.Sums.{each_has}
use Rattle.object_rule.specs.Fields.{NamedTrusted, named_facts}
use Rattle.mark_rule.specs.Marking.{NoneThere}
use Rattle.call_base.specs.Called.{Called, EndsWith}
use Rattle.call_base.proofs.HistoriesStay.{cells_later}
use Rattle.mark_steps.specs.declared.answers.Mark.{Mark}
use Rattle.mark_steps.specs.declared.answers.Mark.TheVariants as mark
use Rattle.mark_steps.specs.Marks.{IsMarkCause, IsMarkedAfter, mark_events}
use Rattle.mark_steps.specs.Words.{SawShared}
use Rattle.mark_steps.proofs.MarkParts.{out_beyond, out_none}

-- its index is below the limit
pub shared_below : (v : View) (o word : ℕ) → ∥ IsOpenable v.opening ∥₁ → IsPhaseHistory v.opening v.seen → SawShared v o word → index_of word < limit_in (sizes_in v.opening) Trusted
shared_below v o word openable lawful saw = elim (cases_lt (index_of word) (limit_in (sizes_in v.opening) Trusted)) [
  | inl below ↦ below
  | inr past ↦ absurd (not_there openable (λ t.
      IsSome-none ((after t.base v.seen).cells Trusted (index_of word))
      (out_none v.opening v.seen Trusted word lawful (out_beyond (limit_in (sizes_in v.opening) Trusted) word past) t.base t.is_base)
      (saw.stands t.base t.is_base)))
]

module _ (v w : View) (o word : ℕ) (openable : ∥ IsOpenable v.opening ∥₁) (lawful : IsPhaseHistory v.opening w.seen) (saw : SawShared v o word) where
  stands_none : Called v [] w → IsMarkCause v Trusted (index_of word) mark.NoCell w → ⊥
  stands_none c cause = not_there openable (λ t.
      let none : NoneThere v.opening w.seen Trusted (index_of word) = elim cause [
        | inl past ↦ out_none v.opening w.seen Trusted word lawful (out_beyond (limit_in (sizes_in v.opening) Trusted) word past)
        | inr gone ↦ gone
      ] in
      let later : IsSome ((after t.base w.seen).cells Trusted (index_of word)) =
      subst (λ h. IsSome ((after t.base h).cells Trusted (index_of word))) (sym c.seen)
      (cells_later Trusted (index_of word) v.opening v.seen c.grown (subst (IsPhaseHistory v.opening) c.seen lawful) t.base t.is_base (saw.stands t.base t.is_base)) in
      IsSome-none ((after t.base w.seen).cells Trusted (index_of word)) (none t.base t.is_base) later)

  pub shared_called : (said : Mark) → Called v (mark_events v Trusted (index_of word) said) w → IsMarkCause v Trusted (index_of word) said w → Called v (event_of v (act.Mark Trusted (index_of word)) reply.Ok ∷ []) w
  shared_called mark.NoCell c cause = absurd (stands_none c cause)
  shared_called mark.Set c cause = c
  shared_called mark.Already c cause = c

  pub shared_ends : (said : Mark) → Called v (mark_events v Trusted (index_of word) said) w → IsMarkCause v Trusted (index_of word) said w → EndsWith (mark_events v Trusted (index_of word) said) w.seen
      → EndsWith (event_of v (act.Mark Trusted (index_of word)) reply.Ok ∷ []) w.seen
  shared_ends mark.NoCell c cause ends = absurd (stands_none c cause)
  shared_ends mark.Set c cause ends = ends
  shared_ends mark.Already c cause ends = ends

  pub shared_marked : (said : Mark) → Called v (mark_events v Trusted (index_of word) said) w → IsMarkCause v Trusted (index_of word) said w → IsMarkedAfter w Trusted (index_of word) said
      → Has w.facts (fact.Marked Trusted (index_of word))
  shared_marked mark.NoCell c cause known = absurd (stands_none c cause)
  shared_marked mark.Set c cause known = known
  shared_marked mark.Already c cause known = known

-- a word that was named in a trusted field in a cycle was seen
pub saw_named : (v w : View) (o found : ℕ) → NamedTrusted v o found w → found ≢ 0 → phase_of v.opening ≢ 0 → SawShared w o found
saw_named v w o zero named some cycle = absurd (some refl)
saw_named v w o (suc n) named some cycle = record {
  touched = knows (inr touched);
  stands = λ b base.
      let at : IsBase v.opening b = subst (λ k. IsBase k b) named.named.answered.same.opening base in
      (each_has (TableKnows (after b w.seen)) w.facts (fact.Settled (index_of (suc n))) (named.named.answered.extends.sure b at).knows (knows (inl refl))).0;
}
  where
    touched : Has ((if phase_of v.opening == 0 then [] else fact.Touched (field.Trusted o) (suc n) ∷ []) ++ v.facts) (fact.Touched (field.Trusted o) (suc n))
    touched = subst (λ (t : Bool). Has ((if t then [] else fact.Touched (field.Trusted o) (suc n) ∷ []) ++ v.facts) (fact.Touched (field.Trusted o) (suc n)))
        (sym (let t : (phase_of v.opening == 0) ≡ false = grind (arith, nat_tests) in t)) (inl refl)

    knows : {x : Fact} → Has (named_facts v.opening o (suc n) ++ v.facts) x → Has w.facts x
    knows {x} has = subst (λ fs. Has fs x) (sym named.facts) has
