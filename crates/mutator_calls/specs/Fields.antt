-- The places of fields.
use Rattle.std.specs.Prelude.{◌≡◌, ℕ, ◌<◌}
use Rattle.plain_table.specs.declared.events.Field.{Field}
use Rattle.plain_table.specs.Places.{object_of}
use Rattle.plain_table.specs.Words.{field_place}
use Rattle.entry_word.specs.declared.image.Shape.{Shape}

-- a field of an object within the limit stands at the place
abbrev pub IsFieldOf : Shape → ℕ → Type 0
IsFieldOf shape place = (f : Field) × (object_of f < shape.objects) × (place ≡ field_place f)
