-- Images as the model sees them: the sizes, words, variables and pending cells of `Shows.antt` of `plain_table`.
use Rattle.std.specs.Prelude.{◌≡◌, ◌*◌, ◌≤◌, map}
use Rattle.std.specs.Option.{option_map}
use Rattle.plain_table.specs.declared.scripts.Limits.{Limits}
use Rattle.plain_table.specs.Ranges.{IsSegment}
use Rattle.plain_table.specs.Table.{Sizes, opening}
use Rattle.plain_table.specs.Shows.{PendingCell, ImageShows}
use Rattle.plain_table.specs.Shows.{Image as ShownImage}
use Rattle.entry_word.specs.declared.image.Shape.{Shape}
use Rattle.entry_word.specs.declared.image.Pending.{Pending}
use Rattle.entry_word.specs.declared.image.Image.{Image}

-- the sizes of a table in range, as those of limits are
pub record IsValidShape (shape : Shape) : Type 0 where
  pub seg : IsSegment shape.seg
  pub ext : (1 ≤ shape.ext) × (shape.seg * shape.ext ≤ 65536)
  pub tru : (1 ≤ shape.tru) × (shape.seg * shape.tru ≤ 65536)
  pub objects : (1 ≤ shape.objects) × (shape.objects ≤ 16384)

abbrev pub sizes_of : Shape → Sizes
sizes_of shape = record { seg = shape.seg; ext = shape.ext; tru = shape.tru; objects = shape.objects }

abbrev pub pending_of : Pending → PendingCell
pending_of p = record { index = p.index; tag = p.tag; value = p.value }

abbrev pub image_of : Image → ShownImage
image_of i = record {
  sizes = sizes_of i.shape;
  words = i.words.items;
  variables = i.vars.items;
  pending = map (option_map pending_of) i.pending.items;
}

-- the image shows the table before anything happened, whatever limits with its sizes that table has
abbrev pub ShowsOpening : ShownImage → Type 0
ShowsOpening image = (limits : Limits) → (opening limits).sizes ≡ image.sizes → ImageShows image (opening limits)
