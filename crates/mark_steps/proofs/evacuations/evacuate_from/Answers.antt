use Rattle.std.proofs.Common.{◌≡◌, ◌≢◌, ◌*◌, ◌+◌, ap, inl, inr, arith}
use Rattle.plain_table.specs.declared.events.Space.TheVariants.{External}
use Rattle.plain_table.specs.Index.{index_of}
use Rattle.plain_table.specs.Table.{limit_in}
use Rattle.word_laws.specs.ReadLaws.{tag_bits}
use Rattle.entry_base.specs.Openings.{sizes_in}
use Rattle.entry_base.specs.Passed.{field_of}
use Rattle.entry_base.specs.Sessions.{view}
use Rattle.entry_base.proofs.OneByOne.{hands_within_limit}
use Rattle.call_base.proofs.CallsInOrder.{called_none}
use Rattle.mark_steps.proofs.EvacuationParts.{stays_part}
use Rattle.mark_steps.proofs.EvacuationWays.{aborted_made, aborted_scans, area_called, below_stays, entry_called, external_space, none_stays, placed_made, placed_scans}
use Rattle.mark_steps.proofs.SeenWords.{lawful_after, lawful_of, openable_of, opened_lawful}
use Rattle.mark_steps.proofs.evacuations.evacuate_from.Goals as goal
use Rattle.mark_steps.proofs.evacuations.evacuate_from.Goals.{then-index-start-via-then-index-start, then-index-start-via-else-index-start+then-index-limit}

pub returns-then-index-start-clause-part : goal.returns-then-index-start-clause-part
returns-then-index-start-clause-part c fields =
    stays_part _ _ c.args.object (2 * c.args.object + c.args.f) c.args.word (openable_of _ _ c.args.shared.now.openable c.requires.caller.1) (lawful_of _ _ c.requires.caller.1) (called_none (view c.args.s.now)) fields
    (elim c.then-index-start.branch [
      | then-index-start-via-then-index-start w ↦ below_stays (view c.args.s.now) (view c.args.s.now) c.args.start (index_of c.args.word) c.requires.area (let t = w.if-index-start.true in omega (arith, t))
      | then-index-start-via-else-index-start+then-index-limit w ↦
          let l = w.limit.ensures.limit in
          let above = w.if-index-limit.true in
          let same = ap (λ o. limit_in (sizes_in o) External) c.requires.caller.1.opened in
          inr (inl (omega (arith, l, above, same)))
    ])

pub returns-then-entry-eq0-clause-made : goal.returns-then-entry-eq0-clause-made
returns-then-entry-eq0-clause-made c =
    let external = external_space c.args.object c.args.f c.requires.few in
    let e = c.load_entry-entry.ensures.learned in
    let t = c.if-entry-eq0.true in
    let untagged : tag_bits c.load_entry-entry.result ≡ 0 = omega (arith, t) in (
      entry_called _ _ (field_of c.args.object c.args.f) c.args.word c.load_entry-entry.result external c.requires.caller.1.own e,
      none_stays _ _ (field_of c.args.object c.args.f) c.args.word c.load_entry-entry.result external c.requires.caller.1.own e untagged,
    )

pub returns-then-entry-eq0-clause-part : goal.returns-then-entry-eq0-clause-part
returns-then-entry-eq0-clause-part c fields =
    let made = returns-then-entry-eq0-clause-made c in
    stays_part _ _ c.args.object (2 * c.args.object + c.args.f) c.args.word (openable_of _ _ c.args.shared.now.openable c.requires.caller.1)
    (lawful_after _ _ _ _ made.0 c.load_entry-entry.ensures.caller.1) made.0 fields made.1

pub overflow_mul-object : goal.overflow_mul-object
overflow_mul-object c =
    let low = hands_within_limit _ (view c.args.s.now) c.args.object c.requires.caller.1 c.requires.hands in
    let made = c.args.shared.now.made in
    let few = c.args.shared.now.few in
    omega (arith, low, made, few)

pub overflow_add-object : goal.overflow_add-object
overflow_add-object c =
    let low = hands_within_limit _ (view c.args.s.now) c.args.object c.requires.caller.1 c.requires.hands in
    let made = c.args.shared.now.made in
    let few = c.args.shared.now.few in
    let two = c.requires.few in
    omega (arith, low, made, few, two)

pub returns-then-load_area-eq1-clause-made : goal.returns-then-load_area-eq1-clause-made
returns-then-load_area-eq1-clause-made c =
    let l = c.limit.ensures.limit in
    let within = c.if-index-limit.false in
    let same = ap (λ o. limit_in (sizes_in o) External) c.requires.caller.1.opened in
    let from = c.if-index-start.false in
    let set = c.if-load_area-eq1.true in
    aborted_made (view c.args.s.now) _ _ (field_of c.args.object c.args.f) (2 * c.args.object + c.args.f) c.args.word c.args.start c.load_entry-entry.result c.load_area.result
    (external_space c.args.object c.args.f c.requires.few) c.requires.caller.1.own c.load_entry-entry.ensures.learned
    (let t = c.if-entry-eq0.false in λ e. absurd (omega (arith, t, e))) c.load_area.ensures.learned c.requires.area (omega (arith, from)) (omega (arith, l, within, same)) (omega (arith, set))

pub returns-then-load_area-eq1-clause-part : goal.returns-then-load_area-eq1-clause-part
returns-then-load_area-eq1-clause-part c fields =
    let l = c.limit.ensures.limit in
    let within = c.if-index-limit.false in
    let same = ap (λ o. limit_in (sizes_in o) External) c.requires.caller.1.opened in
    let from = c.if-index-start.false in
    let set = c.if-load_area-eq1.true in
    let external = external_space c.args.object c.args.f c.requires.few in
    let tagged : tag_bits c.load_entry-entry.result ≢ 0 = (let t = c.if-entry-eq0.false in λ e. absurd (omega (arith, t, e))) in
    let called = area_called (view c.args.s.now) _ _ (field_of c.args.object c.args.f) (2 * c.args.object + c.args.f) c.args.word c.args.start c.load_entry-entry.result c.load_area.result
    external c.requires.caller.1.own c.load_entry-entry.ensures.learned tagged c.load_area.ensures.learned c.requires.area (omega (arith, from)) (omega (arith, l, within, same)) in
    aborted_scans (view c.args.s.now) _ _ (field_of c.args.object c.args.f) (2 * c.args.object + c.args.f) c.args.word c.args.start c.load_entry-entry.result c.load_area.result
    external c.requires.caller.1.own c.load_entry-entry.ensures.learned tagged c.load_area.ensures.learned c.requires.area (omega (arith, from)) (omega (arith, l, within, same)) (omega (arith, set)) c.args.object fields
    (openable_of _ _ c.args.shared.now.openable c.requires.caller.1) (lawful_after _ _ _ _ called c.load_area.ensures.caller.1)

pub returns-clause-made : goal.returns-clause-made
returns-clause-made c =
    let l = c.limit.ensures.limit in
    let within = c.if-index-limit.false in
    let same = ap (λ o. limit_in (sizes_in o) External) c.requires.caller.1.opened in
    let from = c.if-index-start.false in
    placed_made (view c.args.s.now) _ _ (field_of c.args.object c.args.f) (2 * c.args.object + c.args.f) c.args.word c.args.start c.load_entry-entry.result c.load_area.result
    (external_space c.args.object c.args.f c.requires.few) c.requires.caller.1.own c.load_entry-entry.ensures.learned
    (let t = c.if-entry-eq0.false in λ e. absurd (omega (arith, t, e))) c.load_area.ensures.learned c.requires.area (omega (arith, from)) (omega (arith, l, within, same))
    _ (let t = c.if-load_area-eq1.false in λ e. absurd (omega (arith, t, e))) (openable_of _ _ c.args.shared.now.openable c.requires.caller.1)
    (opened_lawful _ _ _ c.requires.caller.1 c.place.ensures.caller.1) c.place.result c.place.ensures.placed

pub returns-clause-part : goal.returns-clause-part
returns-clause-part c fields =
    let l = c.limit.ensures.limit in
    let within = c.if-index-limit.false in
    let same = ap (λ o. limit_in (sizes_in o) External) c.requires.caller.1.opened in
    let from = c.if-index-start.false in
    placed_scans (view c.args.s.now) _ _ (field_of c.args.object c.args.f) (2 * c.args.object + c.args.f) c.args.word c.args.start c.load_entry-entry.result c.load_area.result
    (external_space c.args.object c.args.f c.requires.few) c.requires.caller.1.own c.load_entry-entry.ensures.learned
    (let t = c.if-entry-eq0.false in λ e. absurd (omega (arith, t, e))) c.load_area.ensures.learned c.requires.area (omega (arith, from)) (omega (arith, l, within, same))
    _ (let t = c.if-load_area-eq1.false in λ e. absurd (omega (arith, t, e))) (openable_of _ _ c.args.shared.now.openable c.requires.caller.1)
    (opened_lawful _ _ _ c.requires.caller.1 c.place.ensures.caller.1) c.args.object fields c.place.result c.place.ensures.placed
