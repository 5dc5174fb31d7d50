-- A valid shape is small.
use Rattle.std.proofs.Common.{arith}
use Rattle.entry_word.specs.declared.image.Shape.{Shape}
use Rattle.entry_word.specs.Image.{IsValidShape}
use Rattle.sweeper.specs.Whole.{IsSmallShape}

pub IsSmallShape-valid : (shape : Shape) → IsValidShape shape → IsSmallShape shape
IsSmallShape-valid shape h = let seg = h.seg in record { seg = omega (arith, seg); ext = h.ext; tru = h.tru; objects = h.objects.1 }
