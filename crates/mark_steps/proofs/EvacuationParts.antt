-- An evacuation is a part of a scan: the cell need not move; or an index below the area is taken and filled; or none is free, and
-- the compaction is aborted.
use Rattle.std.proofs.Common.{◌≡◌, ℕ, ◌<◌, ◌≤◌, nat_le, true, false, List, [], ◌∷◌, ◌++◌, Option, Some, None, IfSome, IsSome, refl, sym, ap, subst, ◌∙◌, inl, inr, arith, append_assoc}
use Rattle.std.proofs.lemmas.Bool.Decides.{nat_tests}
use Rattle.plain_table.specs.declared.events.Act.TheVariants as act
use Rattle.plain_table.specs.declared.events.Event.{Event}
use Rattle.plain_table.specs.declared.events.Field.{Field}
use Rattle.plain_table.specs.declared.events.Space.TheVariants.{External}
use Rattle.plain_table.specs.declared.reports.Reply.TheVariants as reply
use Rattle.plain_table.specs.Cycle.{is_from}
use Rattle.plain_table.specs.History.{after}
use Rattle.plain_table.specs.Index.{index_of}
use Rattle.plain_table.specs.Scans.{Visit, Move, Fill, GiveUp, Stays, Takes, Fills, Fails, Aborts, IsInArea, NeedNotMove}
use Rattle.plain_table.specs.Table.{Table, limit_in}
use Rattle.entry_base.specs.declared.view.View.{View}
use Rattle.entry_base.specs.Histories.{IsPhaseHistory}
use Rattle.entry_base.specs.Openings.{IsBase, IsOpenable, sizes_in, start_of}
use Rattle.mark_rule.specs.Marking.{SomeThere}
use Rattle.call_base.specs.Called.{Called}
use Rattle.call_base.specs.ScanParts.{ScanPart}
use Rattle.call_base.proofs.HistoriesStay.{cells_later, lawful_front, start_after}
use Rattle.call_base.proofs.ScanParts.{part_event, part_still, part_trans, part_turn}
use Rattle.mark_steps.specs.Evacuations.{IsAborted, OneThenOne, StaysThere}
use Rattle.mark_steps.proofs.MarkParts.{out_beyond, out_none}

below_area : (start : Option ℕ) (i : ℕ) → IfSome start (λ first. i < first) → is_from start i ≡ false
below_area None i below = refl
below_area (Some first) i below = let t : nat_le first i ≡ false = grind (arith, nat_tests) in t

module _ (v w : View) (o number word : ℕ) (openable : ∥ IsOpenable v.opening ∥₁) (lawful : IsPhaseHistory v.opening w.seen) (c : Called v [] w) (fields : List Field) where
  still : ((b : Table) → IsBase v.opening b → NeedNotMove (after b w.seen) word) → ScanPart v (Move o fields number word) w (Visit o fields) []
  still need = part_turn v w _ _ _ [] (part_still v w (Move o fields number word) c) (λ b base. Stays o number word fields (need b base))

  pub stays_part : StaysThere v (index_of word) w → ScanPart v (Move o fields number word) w (Visit o fields) []
  stays_part there = still (λ b base. elim there [
    | inl below ↦ inl (ap (λ x. is_from x (index_of word)) (start_after v.opening openable w.seen lawful b base) ∙ below_area (start_of v.opening) (index_of word) below)
    | inr (inl past) ↦ inr (inl (out_none v.opening w.seen External word lawful (out_beyond (limit_in (sizes_in v.opening) External) word past) b base))
    | inr (inr none) ↦ inr (inl (none b base))
  ])

  pub aborted_part : IsAborted v.opening w.seen → ScanPart v (Move o fields number word) w (Visit o fields) []
  aborted_part aborted = still (λ b base. inr (inr (aborted b base)))

-- after loads by which a cell was found in the area
module _ (v u w : View) (o number word start : ℕ) (openable : ∥ IsOpenable v.opening ∥₁) (c : Called v [] u) (area : start_of v.opening ≡ Some start) (inside : start ≤ index_of word)
    (load more : List Event) (seen : u.seen ≡ load ++ more) (stood : SomeThere v.opening load External (index_of word)) (fields : List Field) where
  in_area : (front : List Event) → IsPhaseHistory v.opening (u.seen ++ front) → (b : Table) → IsBase v.opening b → IsInArea (after b (u.seen ++ front)) word
  in_area front lawful b base = (
    ap (λ x. is_from x (index_of word)) (start_after v.opening openable (u.seen ++ front) lawful b base ∙ area) ∙ (let t : nat_le start (index_of word) ≡ true = grind (arith, nat_tests) in t),
    subst (λ h. IsSome ((after b h).cells External (index_of word))) (sym whole)
        (cells_later External (index_of word) v.opening load (more ++ front) (subst (IsPhaseHistory v.opening) whole lawful) b base (stood b base)),
  )
    where
      whole : u.seen ++ front ≡ load ++ (more ++ front)
      whole = ap (λ h. h ++ front) seen ∙ append_assoc load more front

  same_opening : u.opening ≡ v.opening
  same_opening = c.same.opening

  begin : ScanPart v (Move o fields number word) u (Move o fields number word) []
  begin = part_still v u (Move o fields number word) c

  area_at : (x : View) (e : Event) → IsPhaseHistory u.opening x.seen → (front back : List Event) → x.seen ≡ (u.seen ++ front) ++ e ∷ back → (b : Table) → IsBase u.opening b → IsInArea (after b (u.seen ++ front)) word
  area_at x e lawful front back is b base =
      in_area front (lawful_front v.opening (u.seen ++ front) (e ∷ back) (subst (IsPhaseHistory v.opening) is (subst (λ k. IsPhaseHistory k x.seen) same_opening lawful))) b (subst (λ k. IsBase k b) same_opening base)

  pub placed_part : (i : ℕ) → OneThenOne u (act.Below start) (reply.Index i) (act.Evac i number) reply.Ok w → ScanPart v (Move o fields number word) w (Visit o fields) []
  placed_part i two = part_trans v u w _ _ _ [] [] begin (part_trans u two.mid w _ (Fill o fields number i) _ [] []
      (part_event u two.mid _ _ _ two.before (λ front back is b base. Takes o number word start i fields (area_at two.mid _ two.lawful front back is b base)))
      (part_event two.mid w _ _ _ two.then_one (λ front back is b base. Fills o number i fields)))

  pub failed_part : OneThenOne u (act.Below start) reply.NoRoom act.Abort reply.Ok w → ScanPart v (Move o fields number word) w (Visit o fields) []
  failed_part two = part_trans v u w _ _ _ [] [] begin (part_trans u two.mid w _ (GiveUp o fields) _ [] []
      (part_event u two.mid _ _ _ two.before (λ front back is b base. Fails o number word start fields (area_at two.mid _ two.lawful front back is b base)))
      (part_event two.mid w _ _ _ two.then_one (λ front back is b base. Aborts o fields)))
