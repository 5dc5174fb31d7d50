use Rattle.std.proofs.Common.{◌≡◌, ℕ, Some, slice_set, sym, subst, ◌∙◌}
use Rattle.plain_table.specs.Table.{Table}
use Rattle.entry_word.specs.Image.{image_of}
use Rattle.mutator_calls.specs.Calls.{Sees}
use Rattle.mutator_calls.specs.Objects.{Rewrites, target_word}
use Rattle.mutator_calls.proofs.LinkCalls.{IsReady-link, Makes-link}
use Rattle.plain_table.specs.Words.{reference_place}
use Rattle.mutator_calls.proofs.heap.Mutator.link.Goals as goal

module _ (c : goal.After-write) where
  target_is : (s : Table) → Sees (image_of c.args.self.now.image) s → Some c.in-Some-target.word ≡ target_word s c.args.target
  target_is s h = sym c.in-Some-target.is ∙ c.target.ensures.tables s h

  there : (s : Table) → Sees (image_of c.args.self.now.image) s → s.vars 0 c.args.var ≡ Some c.in-Some.object
  there s h = sym (c.in-Some.ensures.tables s h)

  written : Rewrites c.shade_object.new.self c.write.new.self
      (slice_set c.shade_object.new.self.image.words.items (reference_place c.in-Some.object c.args.k) c.in-Some-target.word) c.shade_object.new.self.image.vars.items
  written =
      subst (λ (place : ℕ). Rewrites c.shade_object.new.self c.write.new.self (slice_set c.shade_object.new.self.image.words.items place c.in-Some-target.word) c.shade_object.new.self.image.vars.items)
      c.reference_place.ensures c.write.ensures

pub returns-clause-makes : goal.returns-clause-makes
returns-clause-makes c =
    Makes-link c.args.self.now c.shade_object.new.self c.in-Some-target.word c.shade_object.ensures c.requires.ready c.args.target c.requires.target (target_is c)
    c.write.new.self c.args.var c.args.k c.in-Some.object c.requires.place.0 c.requires.place.1 c.in-Some.ensures.few.0 (there c) (written c)

pub returns-clause-ready : goal.returns-clause-ready
returns-clause-ready c =
    IsReady-link c.args.self.now c.shade_object.new.self c.in-Some-target.word c.shade_object.ensures c.requires.ready c.args.target c.requires.target (target_is c)
    c.write.new.self c.args.var c.args.k c.in-Some.object c.requires.place.0 c.requires.place.1 c.in-Some.ensures.few.0 (there c) (written c)
