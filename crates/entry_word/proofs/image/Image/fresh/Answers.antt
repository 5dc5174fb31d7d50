-- The parts are those of a fresh image, and so by the law it shows the opening and is lawful.
use Rattle.std.proofs.Common.{◌≡◌, List, Option, None, map, replicate, refl, ap, ◌∙◌}
use Rattle.std.specs.Option.{option_map}
use Rattle.plain_table.specs.Shows.{IsFreshImage}
use Rattle.plain_table.proofs.OpeningShows.{IsLawful-fresh as shows_opening}
use Rattle.entry_word.specs.declared.image.Image.{Image}
use Rattle.entry_word.specs.declared.image.Pending.{Pending}
use Rattle.entry_word.specs.Image.{image_of, pending_of, sizes_of}
use Rattle.entry_word.specs.Fresh.{AreFreshWords}
use Rattle.entry_word.proofs.FreshImages.{IsFreshImage-made, IsLawful-fresh, ShowsOpening-fresh}
use Rattle.entry_word.proofs.image.Image.fresh.Goals as goal

none-pending : (pending : List (Option Pending)) → pending ≡ replicate 8 None → map (option_map pending_of) pending ≡ replicate 8 None
none-pending pending is = ap (map (option_map pending_of)) is ∙ refl

fresh : (image : Image) → AreFreshWords image.words.items (sizes_of image.shape) → image.vars.items ≡ replicate 128 0 →
    image.pending.items ≡ replicate 8 None → IsFreshImage (image_of image)
fresh image words vars pending = IsFreshImage-made (image_of image) words vars (none-pending image.pending.items pending)

pub returns-clause-contents : goal.returns-clause-contents
returns-clause-contents c =
    fresh record { shape = c.args.shape; words = c.in_ok-words.words; vars = c.in-Ok.vars; pending = c.in-Ok-from_array.pending }
    c.in_ok-words.ensures (c.in-Ok.ensures.items_if_clones_equal (λ y is. is)) c.in-Ok-from_array.ensures.items

pub returns-clause-opening : goal.returns-clause-opening
returns-clause-opening c =
    let image : Image = record { shape = c.args.shape; words = c.in_ok-words.words; vars = c.in-Ok.vars; pending = c.in-Ok-from_array.pending } in
    ShowsOpening-fresh c.args.shape (image_of image) c.requires refl
    (fresh image c.in_ok-words.ensures (c.in-Ok.ensures.items_if_clones_equal (λ y is. is)) c.in-Ok-from_array.ensures.items)
    shows_opening

pub returns-clause-lawful : goal.returns-clause-lawful
returns-clause-lawful c =
    let image : Image = record { shape = c.args.shape; words = c.in_ok-words.words; vars = c.in-Ok.vars; pending = c.in-Ok-from_array.pending } in
    IsLawful-fresh c.args.shape (image_of image) c.requires refl
    (fresh image c.in_ok-words.ensures (c.in-Ok.ensures.items_if_clones_equal (λ y is. is)) c.in-Ok-from_array.ensures.items)
    shows_opening
