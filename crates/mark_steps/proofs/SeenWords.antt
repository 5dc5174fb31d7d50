-- What a session saw by a load of a field, and what stays seen.
use Rattle.std.proofs.Common.{◌≢◌, ℕ, zero, suc, Bool, List, [], ◌∷◌, ◌++◌, IsTrue, refl, sym, subst, ◌∙◌, inl, inr}
use Rattle.plain_table.specs.declared.events.Event.{Event}
use Rattle.plain_table.specs.declared.events.Field.{Field}
use Rattle.plain_table.specs.Index.{index_of}
use Rattle.plain_table.specs.Places.{space_of}
use Rattle.plain_table.specs.Cycle.{HasStood}
use Rattle.plain_table.specs.History.{after}
use Rattle.plain_table.specs.Scans.{IsReadConcurrently}
use Rattle.plain_table.specs.Table.{Table, limit_in}
use Rattle.plain_table.proofs.CycleParts.{CycleSound-is}
use Rattle.plain_table.proofs.Options.{IsSomeAnd-by, IsSomeAnd-some, IsSome-value}
use Rattle.entry_base.specs.declared.view.Fact.{Fact}
use Rattle.entry_base.specs.declared.view.Fact.TheVariants as fact
use Rattle.entry_base.specs.declared.view.Opening.{Opening}
use Rattle.entry_base.specs.declared.view.View.{View}
use Rattle.entry_base.specs.Callers.{IsCaller}
use Rattle.entry_base.specs.Facts.{TableKnows}
use Rattle.entry_base.specs.Histories.{IsPhaseHistory}
use Rattle.entry_base.specs.Lists.{Has}
use Rattle.entry_base.specs.Openings.{IsBase, IsOpenable, sizes_in}
use Rattle.entry_base.proofs.Sums.{each_has}
use Rattle.mark_rule.specs.Marking.{WordLoaded, is_out, out_facts, word_facts}
use Rattle.call_base.specs.Called.{Called}
use Rattle.call_base.proofs.HistoriesStay.{stood_later}
use Rattle.mark_steps.specs.Words.{Saw}

pub lawful_of : (key : Opening) (v : View) → IsCaller key v → IsPhaseHistory v.opening v.seen
lawful_of key v caller = subst (λ o. IsPhaseHistory o v.seen) (sym caller.opened) caller.lawful

-- there is a table that the phase of the view may have begun in
pub openable_of : (key : Opening) (v : View) → ∥ IsOpenable key ∥₁ → IsCaller key v → ∥ IsOpenable v.opening ∥₁
openable_of key v openable caller = subst (λ o. ∥ IsOpenable o ∥₁) (sym caller.opened) openable

-- and after a call
pub lawful_after : (key : Opening) (v w : View) (own : List Event) → Called v own w → IsCaller key w → IsPhaseHistory v.opening w.seen
lawful_after key v w own c caller = subst (λ o. IsPhaseHistory o w.seen) c.same.opening (lawful_of key w caller)

-- a view of the same table
pub opened_lawful : (key : Opening) (v w : View) → IsCaller key v → IsCaller key w → IsPhaseHistory v.opening w.seen
opened_lawful key v w caller later = subst (λ o. IsPhaseHistory o w.seen) (later.opened ∙ sym caller.opened) (lawful_of key w later)

has_front : (xs ys : List Fact) (x : Fact) → Has xs x → Has (xs ++ ys) x
has_front [] ys x h = absurd h
has_front (y ∷ xs) ys x (inl e) = inl e
has_front (y ∷ xs) ys x (inr h) = inr (has_front xs ys x h)

read_there : (limit : ℕ) (f : Field) (w : ℕ) → Has (word_facts limit f w) (fact.Read f w)
read_there limit f zero = inl refl
read_there limit f (suc n) = inl refl

touched_there : (limit : ℕ) (f : Field) (w : ℕ) → w ≢ 0 → Has (word_facts limit f w) (fact.Touched f w)
touched_there limit f zero some = absurd (some refl)
touched_there limit f (suc n) some = inr (inl refl)

out_there : (b : Bool) (f : Field) (w : ℕ) → IsTrue b → Has (out_facts b f w) (fact.Visited (space_of f) (index_of w)) × Has (out_facts b f w) (fact.Placed f w)
out_there b f w is = subst (λ x. Has (out_facts x f w) (fact.Visited (space_of f) (index_of w)) × Has (out_facts x f w) (fact.Placed f w)) (sym is) (inl refl, inr (inl refl))

outs_there : (limit : ℕ) (f : Field) (w : ℕ) → IsTrue (is_out limit w) → Has (word_facts limit f w) (fact.Visited (space_of f) (index_of w)) × Has (word_facts limit f w) (fact.Placed f w)
outs_there limit f zero is = let h = out_there (is_out limit 0) f 0 is in (inr h.0, inr h.1)
outs_there limit f (suc n) is = let h = out_there (is_out limit (suc n)) f (suc n) is in (inr (inr h.0), inr (inr h.1))

module _ (v w : View) (f : Field) (found : ℕ) (l : WordLoaded v (limit_in (sizes_in v.opening) (space_of f)) f found w) where
  abbrev limit : ℕ
  limit = limit_in (sizes_in v.opening) (space_of f)

  has : (x : Fact) → Has (word_facts limit f found) x → Has w.facts x
  has x h = subst (λ fs. Has fs x) (sym l.loaded.facts) (has_front (word_facts limit f found) v.facts x h)

  stood_at : (b : Table) → IsBase v.opening b → IsReadConcurrently (after b w.seen) f found
  stood_at b base =
      let s : Table = after b w.seen in
      let sure = l.loaded.looks.sure b base in
      let c = IsSome-value s.cycle (IsSomeAnd-some s.cycle _ (each_has (TableKnows s) w.facts (fact.Read f found) sure.knows (has _ (read_there limit f found)))) in
      IsSomeAnd-by s.cycle c.0 _ c.1 (subst (λ (n : ℕ). HasStood c.0 f n) (l.stands b base) ((CycleSound-is s c.0 sure.sound c.1).touched.stood f))

  pub saw_loaded : Saw w f found
  saw_loaded = record {
    read = has _ (read_there limit f found);
    touched = λ some. has _ (touched_there limit f found some);
    out = λ is. let h = outs_there limit f found (subst (λ o. IsTrue (is_out (limit_in (sizes_in o) (space_of f)) found)) l.loaded.same.opening is) in (has _ h.0, has _ h.1);
    stood = λ b base. stood_at b (subst (λ o. IsBase o b) l.loaded.same.opening base);
  }

-- what was seen stays seen
pub Saw-stays : (v w : View) (own : List Event) (f : Field) (word : ℕ) → Called v own w → IsPhaseHistory v.opening w.seen → Saw v f word → Saw w f word
Saw-stays v w own f word c lawful saw = record {
  read = c.same.knows _ saw.read;
  touched = λ some. c.same.knows _ (saw.touched some);
  out = λ is. let h = saw.out (subst (λ o. IsTrue (is_out (limit_in (sizes_in o) (space_of f)) word)) c.same.opening is) in (c.same.knows _ h.0, c.same.knows _ h.1);
  stood = λ b base.
      let at : IsBase v.opening b = subst (λ o. IsBase o b) c.same.opening base in
      subst (λ h. IsReadConcurrently (after b h) f word) (sym c.seen)
      (stood_later f word v.opening v.seen c.grown (subst (IsPhaseHistory v.opening) c.seen lawful) b at (saw.stood b at));
}
