-- The laws of the opening: it is sound, and an image with the contents of a fresh one shows it. They stand with the
-- definitions, since whoever makes an image cites them.
use Rattle.std.specs.Prelude.{◌≡◌}
use Rattle.plain_table.specs.declared.scripts.Limits.{Limits}
use Rattle.plain_table.specs.Ranges.{IsInRange}
use Rattle.plain_table.specs.Table.{opening}
use Rattle.plain_table.specs.Sound.{IsSound}
use Rattle.plain_table.specs.Shows.{Image, ImageShows, IsFreshImage, IsLawful}

-- the opening is sound
abbrev pub OpeningsAreSound : Type 0
OpeningsAreSound = (limits : Limits) → IsInRange limits → IsSound (opening limits)

-- an image with the contents of a fresh one shows the opening of a table with its sizes, and is lawful
abbrev pub FreshImagesShowTheOpening : Type 0
FreshImagesShowTheOpening =
    (limits : Limits) (image : Image) → IsInRange limits → image.sizes ≡ (opening limits).sizes → IsFreshImage image →
    ImageShows image (opening limits) × IsLawful image
