-- A phase that was worked whole, and closed.
use Rattle.std.proofs.Common.{◌≡◌, ◌⊎◌, ℕ, ◌<◌, List, [], sym, subst, inl, inr, arith}
use Rattle.std.proofs.lemmas.Bool.{cases_lt}
use Rattle.std.specs.List.{Contains}
use Rattle.plain_table.specs.declared.scripts.Limits.{Limits}
use Rattle.plain_table.specs.declared.scripts.Op.{Op}
use Rattle.plain_table.specs.Belongs.{IsScannedIn}
use Rattle.plain_table.specs.History.{after}
use Rattle.plain_table.specs.Sweeps.{linked_after}
use Rattle.plain_table.specs.Table.{Sizes, Table}
use Rattle.entry_base.specs.declared.view.Opening.{Opening}
use Rattle.entry_base.specs.declared.view.View.{View}
use Rattle.entry_base.specs.Callers.{IsClosed}
use Rattle.entry_base.specs.Hands.{LeavesToScan, grey}
use Rattle.entry_base.specs.Lists.{Has, count_in}
use Rattle.entry_base.specs.Openings.{IsBase, opening_of, sizes_in}
use Rattle.entry_base.proofs.Sums.{each_map, has_count}
use Rattle.phase_calls.proofs.LinkedObjects.{Has-contains}
use Rattle.phases.specs.declared.phases.PhaseOut.{PhaseOut}
use Rattle.phases.specs.Phases.{Ran}
use Rattle.phases.specs.Workers.{Worked}
use Rattle.phases.proofs.Lists.{count-has}
use Rattle.phases.proofs.Scanned.{WasScanned-after, grey-some, header-scanned}

module _ (limits : Limits) (key : Opening) (calls : List (List Op)) (owed : List ℕ) (out : PhaseOut) (w : View) (opened : w.opening ≡ key)
    (work : Worked limits key calls owed out.replies out.scans w) (closed : IsClosed w.opening w.seen (opening_of out.image)) (left : LeavesToScan w (opening_of out.image))
    (listed : (o : ℕ) → count_in o out.shaded.items ≡ grey (sizes_in (opening_of out.image)) out.image.words.items o) where
  abbrev image : Opening
  image = opening_of out.image

  closed_here : IsClosed key w.seen image
  closed_here = subst (λ k. IsClosed k w.seen image) opened closed

  -- what a scan in the history says of the words
  not_to_scan : (s : Table) → IsBase key s → (o : ℕ) → IsScannedIn limits w.seen o → grey (sizes_in image) out.image.words.items o ≡ 0
  not_to_scan s base o (k, e, low, at, (by, is)) = elim (cases_lt 0 (grey (sizes_in image) out.image.words.items o)) [
    | inl some ↦
        let last = closed_here.shows s base in
        let here = grey-some (sizes_in image) out.image.words.items o some in
        let within : o < (after s w.seen).sizes.objects = subst (λ (x : Sizes). o < x.objects) (sym last.shows.sizes) here.0 in
        let was = WasScanned-after s w.seen e o base.sound (closed_here.lawful.legal s base) (each_map _ _ w.seen (λ f during. during.1) closed_here.lawful.events)
        (Has-contains w.seen e (k, low, at)) is in
        let three = header-scanned out.image.words.items (after s w.seen) o last.shows.words within was in
        absurd (let one = here.1 in omega (arith, one, three))
    | inr none ↦ omega (arith, none)
  ]

  waits : limits.markers ≡ 0 → (o : ℕ) → Has owed o → Has out.shaded.items o
  waits none o has =
      let c = count-has o w.hands (work.waits none o has) in
      let h = left.held o in
      let l = listed o in
      has_count o out.shaded.items (omega (arith, c, h, l))

  due : (s : Table) → IsBase key s → (o : ℕ) → Has out.shaded.items o → Contains (linked_after s [] w.seen) o ⊎ ((limits.markers ≡ 0) × Has owed o)
  due s base o has =
      let c = count-has o out.shaded.items has in
      let l = listed o in
      let h = left.hands o in
      elim (cases_lt 0 (count_in o w.hands)) [
        | inl held ↦ work.held s base o (has_count o w.hands held)
        | inr none ↦
            let dealt = work.cut o (has_count o w.cut (omega (arith, c, l, h, none))) in
            absurd (let z = not_to_scan s base o (work.marked dealt.0 o dealt.1) in omega (arith, c, l, z))
      ]

  pub ran : Ran limits key calls owed out
  ran = record {
    history = w.seen;
    closed = closed_here;
    calls_made = work.calls_made;
    lists = work.lists;
    scans = work.scans_made;
    numbers = work.numbers;
    counted = work.counted;
    marked = work.marked;
    waits = waits;
    shaded = listed;
    due = due;
    linked = λ s base phase o there. left.shaded o (work.linked s base phase o there);
  }
