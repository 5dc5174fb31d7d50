-- The sizes of a valid shape are small.
use Rattle.std.proofs.Common.{arith}
use Rattle.plain_table.specs.declared.scripts.Limits.{Limits}
use Rattle.word_laws.specs.Small.{AreSmall}
use Rattle.word_laws.proofs.SmallSizes.{AreSmall-opening}
use Rattle.entry_word.specs.declared.image.Shape.{Shape}
use Rattle.entry_word.specs.Image.{IsValidShape, sizes_of}

pub AreSmall-valid : (shape : Shape) → IsValidShape shape → AreSmall (sizes_of shape)
AreSmall-valid shape h =
    let limits : Limits = record { seg = shape.seg; ext = shape.ext; tru = shape.tru; objects = shape.objects; mutators = 1; markers = 0 } in
    AreSmall-opening limits (record {
      seg = h.seg;
      ext = h.ext;
      tru = h.tru;
      objects = h.objects;
      mutators = (omega arith, omega arith);
      markers = omega arith;
    })
