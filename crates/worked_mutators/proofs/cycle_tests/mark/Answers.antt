use Rattle.std.proofs.Common.{◌∙◌, sym, ap, subst, arith}
use Rattle.entry_word.specs.declared.image.Shape.{Shape}
use Rattle.entry_word.specs.Image.{IsValidShape}
use Rattle.worked_mutators.proofs.cycle_tests.mark.Goals as goal

pub returns-clause-ready : goal.returns-clause-ready
returns-clause-ready c =
    let shape = c.late_mark.ensures.shape in
    record {
      shape = subst IsValidShape (sym shape) c.requires.ready.shape;
      lawful = c.late_mark.ensures.lawful;
      room = c.requires.ready.room ∙ ap (λ (sh : Shape). sh.objects) (sym shape);
      few = omega arith;
      owed = record {
        listed = λ o made shaded white. absurd (white (c.late_mark.ensures.scanned.shaded o made shaded));
        owed = λ o there. absurd (omega (arith, there.1));
        differ = λ i j order less. absurd (omega (arith, less));
      };
      area = λ one. c.late_mark.ensures.room;
    }
