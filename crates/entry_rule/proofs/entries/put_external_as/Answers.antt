use Rattle.std.proofs.Common.{◌∙◌, arith}
use Rattle.plain_table.specs.declared.events.Space.TheVariants.{External}
use Rattle.entry_base.proofs.OneByOne.{caller_same}
use Rattle.entry_base.proofs.TiedParts.{tied_stays}
use Rattle.entry_rule.specs.Entries.{new_word, Put}
use Rattle.entry_rule.proofs.EntryPuts.{puts}
use Rattle.entry_rule.proofs.WordsWritten.{written_at}
use Rattle.entry_rule.proofs.entries.put_external_as.Goals as goal

pub swap-requires : goal.swap-requires
swap-requires g c =
    let r = c.requires in
    let sized = c.args.shared.now.sized in
    let limits = c.args.shared.now.limits in
    let made = c.args.shared.now.made in (
      r.caller.0,
      c.entry_place.ensures.inside,
      written_at _ _ _ c.args.s.now.seat.me _ _ (new_word External c.args.tag c.args.value) _ (λ found w. Put c.args.s.now.seat.me.0 External c.args.index c.args.tag c.args.value w) _ (c.entry_place.ensures.place) (omega arith) (λ n w learned. (r.picked n c.args.s.now.seat.me.0 w).1 learned)
          (puts _ _ _ c.args.s.now.seat.me External c.args.index c.args.tag c.args.value r.caller.1 r.owed r.tagged.0 r.tagged.1 r.inside r.may),
    )

pub invariant_of-s : goal.invariant_of-s
invariant_of-s g c =
    let r = c.requires in
    let t : Put c.args.s.now.seat.me.0 External c.args.index c.args.tag c.args.value c.swap.new.seat.me.0 = (r.picked _ c.args.s.now.seat.me.0 _).0 c.swap.ensures.2.0 in
    record {
      bare = c.swap.ensures.2.1 ∙ c.args.s.now.bare;
      tied = tied_stays c.args.s.now.seat.me.0 _ _ (t.same).opening (t.same).number (t.same).numbers (t.rest.0) (t.rest.1) c.args.s.now.tied;
    }

pub returns-clause-caller : goal.returns-clause-caller
returns-clause-caller g c =
    let r = c.requires in
    let t : Put c.args.s.now.seat.me.0 External c.args.index c.args.tag c.args.value c.swap.new.seat.me.0 = (r.picked _ c.args.s.now.seat.me.0 _).0 c.swap.ensures.2.0 in
    (c.swap.ensures.0 ∙ r.caller.0, caller_same _ c.args.s.now.seat.me.0 _ r.caller.1 (t.same) (t.extends.lawful) (t.rest.0) (t.rest.1) (t.rest.2))
