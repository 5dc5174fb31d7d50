-- A put: an index that was taken is filled with the marked word of a new cell.
use Rattle.std.proofs.Common.{◌≡◌, ℕ, ◌^◌, ◌<◌, Bool, true, Some, refl, inl, inr}
use Rattle.std.specs.Prelude.{IsTrue}
use Rattle.plain_table.specs.declared.events.Act.TheVariants.{Put}
use Rattle.plain_table.specs.declared.events.Cell.{Cell}
use Rattle.plain_table.specs.declared.events.Space.{Space}
use Rattle.plain_table.specs.declared.events.Space.TheVariants.{External}
use Rattle.plain_table.specs.declared.reports.Reply.TheVariants as reply
use Rattle.plain_table.specs.Places.{put_claim, same_space}
use Rattle.plain_table.specs.Table.{Table}
use Rattle.plain_table.specs.Rows.{IsTag, MayFill, with_cell}
use Rattle.plain_table.specs.History.{IsLegal}
use Rattle.plain_table.specs.Shapes.{event}
use Rattle.plain_table.specs.Shows.{Image}
use Rattle.plain_table.proofs.PlaceReads.{put_entry-same, read_claim}
use Rattle.mutator_calls.specs.Calls.{Sees}
use Rattle.mutator_calls.specs.Inits.{filled_by}
use Rattle.mutator_calls.proofs.Marks.{Sees-cell}

-- what is set at a claim
pub put_claim-same : (f : ℕ → Space → ℕ → Bool) (b : ℕ) (p : Space) (i : ℕ) (x : Bool) → put_claim f b p i x b p i ≡ x
put_claim-same f b p i x = elim (read_claim f b p i x b p i) [ inl r ↦ r.1 | inr r ↦ absurd (r.0 ((refl, refl), refl)) ]

module _ (image : Image) (s : Table) (h : Sees image s) (p : Space) (i tag value : ℕ) (owed : IsTrue (s.owed 0 p i)) (is_tag : IsTag tag)
    (few : value < 2 ^ 48) (may : MayFill s p i) where
  pub IsLegal-put : IsLegal s (event 0 (Put p i tag value) reply.Ok)
  IsLegal-put = ((owed, is_tag, few, may), refl)

  pub Sees-put : Sees (record image { words = filled_by s.sizes p i tag value image.words }) (with_cell s 0 p i tag value)
  Sees-put =
      let cell : Cell = record { id = s.next; tag = tag; value = value; shown = same_space p External } in
      Sees-cell image s h (event 0 (Put p i tag value) reply.Ok) IsLegal-put tt p i cell (refl, refl) (put_entry-same s.cells p i (Some cell)) refl refl refl

  -- the number is about to bind it
  pub fresh-put : IsTrue ((with_cell s 0 p i tag value).fresh 0 p i)
  fresh-put = put_claim-same s.fresh 0 p i true
