use Rattle.std.proofs.Common.{◌∙◌, arith}
use Rattle.plain_table.specs.declared.events.Space.TheVariants.{Trusted}
use Rattle.entry_base.proofs.OneByOne.{caller_same}
use Rattle.entry_base.proofs.TiedParts.{tied_stays}
use Rattle.entry_rule.specs.Entries.{new_word, PutTrusted}
use Rattle.entry_rule.proofs.EntryPuts.{puts_trusted}
use Rattle.entry_rule.proofs.WordsWritten.{written_at}
use Rattle.entry_rule.proofs.entries.put_trusted_as.Goals as goal

pub swap-requires : goal.swap-requires
swap-requires g c =
    let r = c.requires in
    let sized = c.args.shared.now.sized in
    let limits = c.args.shared.now.limits in
    let made = c.args.shared.now.made in (
      r.caller.0,
      c.entry_place.ensures.inside,
      written_at _ _ _ c.args.s.now.seat.me _ _ (new_word Trusted c.args.tag c.args.value) _ (λ found w. PutTrusted c.args.s.now.seat.me.0 c.args.index c.args.tag c.args.value w) _ (c.entry_place.ensures.place) (omega arith) (λ n w learned. (r.picked n c.args.s.now.seat.me.0 w).1 learned)
          (puts_trusted _ _ _ c.args.s.now.seat.me c.args.index c.args.tag c.args.value r.caller.1 r.owed r.tagged.0 r.tagged.1 r.inside),
    )

pub invariant_of-s : goal.invariant_of-s
invariant_of-s g c =
    let r = c.requires in
    let t : PutTrusted c.args.s.now.seat.me.0 c.args.index c.args.tag c.args.value c.swap.new.seat.me.0 = (r.picked _ c.args.s.now.seat.me.0 _).0 c.swap.ensures.2.0 in
    record {
      bare = c.swap.ensures.2.1 ∙ c.args.s.now.bare;
      tied = tied_stays c.args.s.now.seat.me.0 _ _ (t.put.same).opening (t.put.same).number (t.put.same).numbers (t.put.rest.0) (t.put.rest.1) c.args.s.now.tied;
    }

pub returns-clause-caller : goal.returns-clause-caller
returns-clause-caller g c =
    let r = c.requires in
    let t : PutTrusted c.args.s.now.seat.me.0 c.args.index c.args.tag c.args.value c.swap.new.seat.me.0 = (r.picked _ c.args.s.now.seat.me.0 _).0 c.swap.ensures.2.0 in
    (c.swap.ensures.0 ∙ r.caller.0, caller_same _ c.args.s.now.seat.me.0 _ r.caller.1 (t.put.same) (t.put.extends.lawful) (t.put.rest.0) (t.put.rest.1) (t.put.rest.2))
