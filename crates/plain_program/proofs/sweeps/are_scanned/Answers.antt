use Rattle.std.proofs.Common.{◌≡◌, ℕ, true, refl}
use Rattle.std.specs.Prelude.{◌||◌}
use Rattle.std.proofs.lemmas.List.Elements.{All-contains}
use Rattle.std.proofs.lemmas.Map.Iter.{rest_all}
use Rattle.plain_program.specs.Kept.{shown_cycle}
use Rattle.plain_program.proofs.EntryLists.{has_iff}
use Rattle.plain_program.proofs.RestOfEntries.{All-from_RestDecides}
use Rattle.plain_program.proofs.sweeps.are_scanned.Goals as goal

pub returns : goal.returns
returns c =
    let cycle = shown_cycle c.args.cycle.now in
    let P = λ (o : ℕ). (cycle.scans o || cycle.born o) ≡ true in
    let keys = c.args.reached.now.keys in
    let nothing = rest_all (λ k. k.now) c.loop-object.object-iterator c.next.new.self c.next.result c.in-None.is c.next.ensures.steps in
    let all = All-from_RestDecides P keys c.loop-object.object-iterator c.loop-object.invariant nothing in
    (λ _ o is. All-contains P keys o all ((has_iff keys o).0 is), λ _. refl)
