use Rattle.std.proofs.Common.{[], ◌∷◌, refl, sym}
use Rattle.plain_table.specs.declared.events.Act.TheVariants.{Name, Look}
use Rattle.plain_table.specs.declared.events.Field.TheVariants as field
use Rattle.plain_table.specs.declared.events.Space.TheVariants.{Trusted}
use Rattle.plain_table.specs.declared.scripts.Op.TheVariants as op
use Rattle.plain_table.specs.declared.reports.Reply.TheVariants as reply
use Rattle.plain_table.specs.Shapes.{IsLoad, event}
use Rattle.mutator_calls.proofs.Seen.{shown-as}
use Rattle.mutator_calls.proofs.Fields.{Holds-variable, WithObject-some}
use Rattle.mutator_calls.proofs.Quiet.{Makes-load}
use Rattle.mutator_calls.proofs.heap.Mutator.tload.Goals as goal

pub returns-in-Some : goal.returns-in-Some
returns-in-Some c =
    let m = c.args.self.now in
    let o = c.in-Some.object in
    let w = c.trusted_word.result in
    let said = c.look_trusted.result in
    let first = c.args.range.first in
    let last = c.args.range.last in
    record {
      makes = λ s h.
          let held = sym (c.in-Some.ensures.tables s h) in
          let events = event 0 (Name (field.Trusted o)) (reply.Word w) ∷ event 0 (Look Trusted w first last) said ∷ [] in
          Makes-load m s h (op.TLoad c.args.var first last) said (field.Trusted o) Trusted w first last
          (Holds-variable s c.args.var o (field.Trusted o) c.requires.place held refl) (c.trusted_word.ensures s h) (c.look_trusted.ensures s (shown-as m s h))
          (WithObject-some (s.vars 0) c.args.var o said events (λ q. IsLoad 0 Trusted (field.Trusted q) first last said events) held (w, refl));
    }
