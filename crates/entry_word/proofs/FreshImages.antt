-- A fresh image shows the opening of every table with its sizes, and is lawful.
use Rattle.std.proofs.Common.{◌≡◌, ℕ, List, length, slice_index, replicate, Option, None, subst, sym, ap, ◌∙◌, refl, inl, inr, arith}
use Rattle.std.specs.Prelude.{slice_index_or}
use Rattle.std.proofs.lemmas.Bool.{cases_lt}
use Rattle.std.proofs.lemmas.List.{get_or_past, get_or-replicate, length-replicate}
use Rattle.plain_table.specs.declared.scripts.Limits.{Limits}
use Rattle.plain_table.specs.Ranges.{IsInRange}
use Rattle.plain_table.specs.Table.{Sizes, opening}
use Rattle.plain_table.specs.Shows.{Image, PendingCell, IsFreshImage, IsLawful}
use Rattle.plain_table.specs.Openings.{FreshImagesShowTheOpening}
use Rattle.entry_word.specs.declared.image.Shape.{Shape}
use Rattle.entry_word.specs.Fresh.{AreFreshWords}
use Rattle.entry_word.specs.Image.{IsValidShape, ShowsOpening, sizes_of}

-- limits with these sizes, of one mutator and no marker
abbrev limits_of : Sizes → Limits
limits_of sizes = record { seg = sizes.seg; ext = sizes.ext; tru = sizes.tru; objects = sizes.objects; mutators = 1; markers = 0 }

IsInRange-limits_of : (shape : Shape) (sizes : Sizes) → IsValidShape shape → sizes_of shape ≡ sizes → IsInRange (limits_of sizes)
IsInRange-limits_of shape sizes valid same =
    subst (λ (z : Sizes). IsInRange (limits_of z)) same record {
      seg = valid.seg;
      ext = valid.ext;
      tru = valid.tru;
      objects = valid.objects;
      mutators = (omega arith, omega arith);
      markers = omega arith;
    }

pub ShowsOpening-fresh : (shape : Shape) (image : Image) → IsValidShape shape → image.sizes ≡ sizes_of shape → IsFreshImage image →
    FreshImagesShowTheOpening → ShowsOpening image
ShowsOpening-fresh shape image valid is fresh law limits same =
    (law (limits_of (opening limits).sizes) image (IsInRange-limits_of shape (opening limits).sizes valid (sym is ∙ sym same)) (sym same) fresh).0

pub IsLawful-fresh : (shape : Shape) (image : Image) → IsValidShape shape → image.sizes ≡ sizes_of shape → IsFreshImage image →
    FreshImagesShowTheOpening → IsLawful image
IsLawful-fresh shape image valid is fresh law =
    (law (limits_of image.sizes) image (IsInRange-limits_of shape image.sizes valid (sym is)) refl fresh).1

-- an image of fresh words, of variables that hold nothing, and of nothing that is pending
pub IsFreshImage-made : (image : Image) → AreFreshWords image.words image.sizes → image.variables ≡ replicate 128 0 → image.pending ≡ replicate 8 None →
    IsFreshImage image
IsFreshImage-made image words variables pending = record {
  whole = words.whole;
  zeros = words.zeros;
  external = words.external;
  trusted = words.trusted;
  variables = (ap length variables, λ i. ap (λ (xs : List ℕ). slice_index xs i) variables ∙ nothing 128 i);
  pending = (ap length pending, λ i d few. ap (λ (xs : List (Option PendingCell)). slice_index_or xs i d) pending ∙ get_or-replicate 8 i None d few);
}
  where
    nothing : (n i : ℕ) → slice_index (replicate n 0) i ≡ 0
    nothing n i = elim (cases_lt i n) [
      | inl less ↦ get_or-replicate n i 0 0 less
      | inr past ↦ get_or_past (replicate n 0) i 0 (omega (arith, past, length-replicate {A = ℕ} n 0))
    ]
