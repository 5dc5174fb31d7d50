-- A load of the area word, which is no event. Where bit 32 is set a cycle is under way, and its compaction is aborted.
use Rattle.std.proofs.Common.{◌≡◌, ◌≢◌, ◌/◌, ◌^◌, ◌==◌, if◌then◌else◌, ◌∷◌, [], ℕ, Bool, true, false, List, get_or, set, slice_index, Option, Some, None, IsTrue, IsSomeAnd, IfSome, refl, sym, subst, ◌∙◌, arith}
use Rattle.std.proofs.lemmas.Bool.Decides.{nat_tests}
use mathlib.Core.Option.{some}
use lib.ListN.{get_elem?}
use Rattle.atomic_table.specs.Table.{Me}
use Rattle.plain_table.specs.declared.events.Event.{Event}
use Rattle.plain_table.specs.Cycle.{Cycle}
use Rattle.plain_table.specs.History.{after}
use Rattle.plain_table.specs.Table.{Table, Sizes}
use Rattle.plain_table.specs.Words.{area_place}
use Rattle.word_laws.specs.ReadLaws.{AreaTells}
use Rattle.word_laws.specs.Small.{AreSmall}
use Rattle.word_laws.proofs.AreaReads.{AreaWordsTell-shown}
use Rattle.entry_base.specs.declared.view.Fact.TheVariants as fact
use Rattle.entry_base.specs.declared.view.Opening.{Opening}
use Rattle.entry_base.specs.declared.view.View.{View}
use Rattle.entry_base.specs.Callers.{IsCaller}
use Rattle.entry_base.specs.Facts.{IsKnown}
use Rattle.entry_base.specs.Lists.{Each}
use Rattle.entry_base.specs.Openings.{IsBase, sizes_in}
use Rattle.entry_base.specs.Rule.{Kept}
use Rattle.entry_base.proofs.QuietSteps.{kept_look}
use Rattle.entry_base.proofs.Steps.{Given, Keeps, given, keeps_by, loads}
use Rattle.entry_base.proofs.Sums.{has_append}
use Rattle.entry_rule.specs.Entries.{AreaLoaded, area_facts}

-- the bit is set only in a cycle, whose compaction is then aborted
aborted_by : (cycle : Option Cycle) (word : ℕ) → IfSome cycle (λ c. c.aborted ≡ (word / 2 ^ 32 == 1)) → (cycle ≡ None → word ≡ 0) → (word / 2 ^ 32 == 1) ≡ true → IsSomeAnd cycle (λ c. IsTrue c.aborted)
aborted_by None word aborts idle set = absurd (let none : word ≡ 0 = idle refl in let one : word / 2 ^ 32 ≡ 1 = grind (arith, nat_tests) in omega (arith, none, one))
aborted_by (Some c) word aborts idle set = aborts ∙ set

-- and where it is clear the compaction of a cycle is not
unaborted : (cycle : Option Cycle) (word : ℕ) → IfSome cycle (λ c. c.aborted ≡ (word / 2 ^ 32 == 1)) → word / 2 ^ 32 ≢ 1 → IfSome cycle (λ c. c.aborted ≡ false)
unaborted None word aborts unset = tt
unaborted (Some c) word aborts unset = aborts ∙ (let t : (word / 2 ^ 32 == 1) ≡ false = grind (arith, nat_tests) in t)

facts_by : (z : Sizes) (log : List Event) (s : Table) (shown words : List ℕ) (found : ℕ) → AreaTells s found → (set : Bool) → (found / 2 ^ 32 == 1) ≡ set
    → Each (IsKnown z log s shown words) (if set then fact.Aborted ∷ [] else [])
facts_by z log s shown words found area false is = tt
facts_by z log s shown words found area true is = ((aborted_by s.cycle found area.aborted area.idle is, tt), tt)

module _ (key : Opening) (words : List ℕ) (views : List View) (id : ℕ) (v : View) (k : Kept key words views) (at : get_elem? views id ≡ some v) (caller : IsCaller key v) where
  abbrev found : ℕ
  found = get_or words area_place 0

  area_tells : (s : Table) → Given key k.log k.shown words v s → AreaTells s found
  area_tells s g =
      let small : AreSmall s.sizes = subst AreSmall (sym g.sizes) k.few in
      let same : found ≡ slice_index k.shown area_place = k.near.low area_place (omega arith) in
      subst (AreaTells s) (sym same) (AreaWordsTell-shown k.shown s g.sound small g.shows)

  tells : (s : Table) → Given key k.log k.shown words v s → Each (IsKnown (sizes_in key) k.log s k.shown words) (area_facts found)
  tells s g = facts_by (sizes_in key) k.log s k.shown words found (area_tells s g) (found / 2 ^ 32 == 1) refl

  pub kept_load : (w : View) × Kept key (set words area_place found) (set views id w) × AreaLoaded v found w
  kept_load =
      let done = kept_look key words views id v k at (area_facts found) tells in (
        _,
        loads key words _ area_place done.0,
        record {
          loaded = record {
            same = record { opening = refl; number = refl; numbers = refl; cut = refl; knows = λ f has. has_append (area_facts found) v.facts f has };
            own = record { vars = refl; pending = refl; owed = refl; fresh = refl };
            looks = done.1 caller.opened;
            hands = refl;
            facts = refl;
          };
          clear = λ unset b base.
              let g = given key words views id v k at b (subst (λ (o : Opening). IsBase o b) caller.opened base) in
              unaborted (after b k.log).cycle found (area_tells (after b k.log) g).aborted unset;
        },
      )

pub loads_area : (key : Opening) (slots id : ℕ) (me : Me (Unit {0}) View) → IsCaller key me.0 → Keeps key slots id me 1 (λ n. n) (λ found w. AreaLoaded me.0 found w)
loads_area key slots id me caller = keeps_by key slots id me 1 (λ n. n) (λ found w. AreaLoaded me.0 found w) (λ words views k at. kept_load key words views id me.0 k at caller)
