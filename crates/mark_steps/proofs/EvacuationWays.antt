-- The ways through an evacuation whose loads found a cell in the area: the area word says that the compaction is aborted, or an
-- index below the area is taken, or none is free.
use Rattle.std.proofs.Common.{◌≡◌, ◌≢◌, ℕ, zero, suc, ◌+◌, ◌*◌, ◌/◌, ◌^◌, ◌<◌, ◌≤◌, ◌==◌, if◌then◌else◌, Bool, true, false, List, [], ◌∷◌, ◌++◌, Some, IfSome, refl, sym, ap, subst, inl, inr, arith, append-nil}
use Rattle.std.proofs.lemmas.Bool.Decides.{nat_tests}
use Rattle.plain_table.specs.declared.events.Act.TheVariants as act
use Rattle.plain_table.specs.declared.events.Field.{Field}
use Rattle.plain_table.specs.declared.events.Field.TheVariants as field
use Rattle.plain_table.specs.declared.events.Space.TheVariants.{External}
use Rattle.plain_table.specs.declared.reports.Reply.TheVariants as reply
use Rattle.plain_table.specs.Index.{index_of}
use Rattle.plain_table.specs.Places.{space_of}
use Rattle.plain_table.specs.Scans.{Move, Visit}
use Rattle.plain_table.specs.Table.{limit_in}
use Rattle.word_laws.specs.ReadLaws.{tag_bits}
use Rattle.entry_base.specs.declared.view.Fact.TheVariants as fact
use Rattle.entry_base.specs.declared.view.View.{View}
use Rattle.entry_base.specs.Histories.{IsPhaseHistory}
use Rattle.entry_base.specs.Lists.{Has, StartsWith}
use Rattle.entry_base.specs.Numbers.{HasNumber}
use Rattle.entry_base.specs.Openings.{IsOpenable, sizes_in, start_of}
use Rattle.entry_base.specs.Passed.{WillNotMove, field_of}
use Rattle.entry_base.proofs.Sums.{starts_trans}
use Rattle.entry_rule.specs.Entries.{AreaLoaded, IsUnaborted}
use Rattle.mark_rule.specs.Marking.{EntryLoaded, NoneThere, SomeThere}
use Rattle.call_base.specs.Called.{Called}
use Rattle.call_base.specs.ScanParts.{ScanPart}
use Rattle.call_base.proofs.CallsInOrder.{called_looks, called_trans, own_number}
use Rattle.mark_steps.specs.declared.answers.Evacuated.{Evacuated}
use Rattle.mark_steps.specs.declared.answers.Evacuated.TheVariants as evacuated
use Rattle.mark_steps.specs.Evacuations.{HasToMove, IsAborted, IsEvacuatedBy, IsPlacedBy, StaysThere, WasUnaborted}
use Rattle.mark_steps.proofs.EvacuationParts.{aborted_part, failed_part, placed_part}
use Rattle.mark_steps.proofs.EvacuationTurns.{aborted_after, aborted_known, adds_two, unmoved_aborted, unmoved_placed}

-- an external field of an object, by its number
pub field_is : (o n : ℕ) → n < 2 → field_of o n ≡ field.External (2 * o + n)
field_is o zero few = ap field.External (let e : 2 * o ≡ 2 * o + 0 = omega arith in e)
field_is o (suc zero) few = refl
field_is o (suc (suc n)) few = absurd (omega (arith, few))

pub external_space : (o n : ℕ) → n < 2 → space_of (field_of o n) ≡ External
external_space o n few = ap space_of (field_is o n few)

-- nothing has to move for an index below the area
pub below_stays : (v w : View) (start i : ℕ) → start_of v.opening ≡ Some start → i < start → StaysThere v i w
below_stays v w start i area below = inl (subst (λ x. IfSome x (λ first. i < first)) (sym area) below)

-- or where the load finds no cell
module _ (v w : View) (f : Field) (word found : ℕ) (external : space_of f ≡ External) (own : HasNumber v v.number) (e : EntryLoaded v f word found w) where
  pub entry_called : Called v [] w
  entry_called = called_looks v w own e.loaded.same e.loaded.looks

  pub none_stays : tag_bits found ≡ 0 → StaysThere v (index_of word) w
  none_stays untagged = inr (inr (subst (λ p. NoneThere v.opening w.seen p (index_of word)) external (e.none untagged)))

module _ (v x u : View) (f : Field) (number word start found got : ℕ) (external : space_of f ≡ External) (own : HasNumber v v.number) (e : EntryLoaded v f word found x) (tagged : tag_bits found ≢ 0)
    (a : AreaLoaded x got u) (area : start_of v.opening ≡ Some start) (inside : start ≤ index_of word) (below : index_of word < limit_in (sizes_in v.opening) External) where
  abbrev i : ℕ
  i = index_of word

  pub area_called : Called v [] u
  area_called = called_trans v x u [] [] (entry_called v x f word found external own e) (called_looks x u (own_number v x e.loaded.same own) a.loaded.same a.loaded.looks)

  stood : SomeThere v.opening x.seen External i
  stood = subst (λ p. SomeThere v.opening x.seen p i) external (e.some tagged)

  from_entry : StartsWith u.seen x.seen
  from_entry = (a.loaded.looks.between, a.loaded.looks.seen)

  moves : (w : View) → StartsWith w.seen u.seen → HasToMove v start i w
  moves w on = record {
    area = area;
    inside = inside;
    found = record {
      below = below;
      load = x.seen;
      since = (e.loaded.looks.between, e.loaded.looks.seen);
      until = starts_trans w.seen u.seen x.seen on from_entry;
      stood = stood;
    };
  }

  -- the area word says that the compaction is aborted
  module _ (set : got / 2 ^ 32 ≡ 1) where
    pub known_aborted : Has u.facts fact.Aborted
    known_aborted = subst (λ fs. Has fs fact.Aborted) (sym a.loaded.facts) (go (got / 2 ^ 32 == 1) (let t : (got / 2 ^ 32 == 1) ≡ true = grind (arith, nat_tests) in t))
      where
        go : (b : Bool) → b ≡ true → Has ((if b then fact.Aborted ∷ [] else []) ++ x.facts) fact.Aborted
        go true is = inl refl
        go false is = absurd (cc)

    is_aborted : IsAborted v.opening u.seen
    is_aborted = subst (λ k. IsAborted k u.seen) e.loaded.same.opening (aborted_known x u a.loaded.same a.loaded.looks known_aborted)

    pub aborted_made : IsEvacuatedBy v number i evacuated.Aborted u
    aborted_made = (start, moves u ([], sym (append-nil u.seen)), is_aborted, inl area_called)

    pub aborted_scans : (o : ℕ) (fields : List Field) → ∥ IsOpenable v.opening ∥₁ → IsPhaseHistory v.opening u.seen → ScanPart v (Move o fields number word) u (Visit o fields) []
    aborted_scans o fields openable lawful = aborted_part v u o number word openable lawful area_called fields is_aborted

  -- it says that it is not
  module _ (w : View) (unset : got / 2 ^ 32 ≢ 1) (openable : ∥ IsOpenable v.opening ∥₁) (lawful : IsPhaseHistory v.opening w.seen) where
    unaborted : IsUnaborted v.opening u.seen
    unaborted = subst (λ k. IsUnaborted k u.seen) e.loaded.same.opening (a.clear unset)

    was_unaborted : StartsWith w.seen u.seen → WasUnaborted v w
    was_unaborted on = (u.seen, (area_called.grown, area_called.seen), on, unaborted)

    pub placed_made : (said : Evacuated) → IsPlacedBy u start number word said w → IsEvacuatedBy v number i said w
    placed_made evacuated.NotNeeded placed = absurd placed
    placed_made evacuated.Aborted placed =
        let two = placed.0 in
        let on = starts_trans w.seen two.mid.seen u.seen (two.then_one.grown, two.then_one.seen) (two.before.grown, two.before.seen) in
        (start, moves w on, aborted_after v.opening w.seen two.mid.number start openable area lawful two.ends, inr (was_unaborted on, adds_two v u w (act.Below start) act.Abort reply.NoRoom reply.Ok area_called two))
    placed_made (evacuated.Placed index) placed =
        let two = placed.0 in
        let on = starts_trans w.seen two.mid.seen u.seen (two.then_one.grown, two.then_one.seen) (two.before.grown, two.before.seen) in
        (start, moves w on, was_unaborted on, placed.1, adds_two v u w (act.Below start) (act.Evac index number) (reply.Index index) reply.Ok area_called two)

    pub placed_scans : (o : ℕ) (fields : List Field) (said : Evacuated) → IsPlacedBy u start number word said w → ScanPart v (Move o fields number word) w (Visit o fields) []
    placed_scans o fields evacuated.NotNeeded placed = absurd placed
    placed_scans o fields evacuated.Aborted placed =
        failed_part v u w o number word start openable area_called area inside x.seen from_entry.0 from_entry.1 stood fields placed.0
    placed_scans o fields (evacuated.Placed index) placed =
        placed_part v u w o number word start openable area_called area inside x.seen from_entry.0 from_entry.1 stood fields index placed.0

-- the field will not move without its entry, or nothing moves any more
pub placed_unmoved : (u w : View) (start number word : ℕ) (said : Evacuated) → start_of w.opening ≡ Some start → IsPlacedBy u start number word said w → WillNotMove w (field.External number) word
placed_unmoved u w start number word evacuated.NotNeeded area placed = absurd placed
placed_unmoved u w start number word evacuated.Aborted area placed = unmoved_aborted w number word start area placed.1
placed_unmoved u w start number word (evacuated.Placed index) area placed = unmoved_placed w number word start area placed.2
