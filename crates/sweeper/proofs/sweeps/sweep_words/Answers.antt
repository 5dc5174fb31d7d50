use Rattle.std.proofs.Common.{◌≡◌, ◌+◌, ◌*◌, ℕ, List, slice_index, refl, sym, ap, subst, ◌∙◌, inr, arith}
use Rattle.plain_table.specs.Cycle.{Cycle}
use Rattle.plain_table.specs.Table.{Sizes, Table, limit_of}
use Rattle.plain_table.specs.declared.events.Space.TheVariants.{External, Trusted}
use Rattle.plain_table.specs.Sweeps.{IsSweep}
use Rattle.plain_table.specs.Finish.{finished}
use Rattle.plain_table.specs.declared.events.Field.TheVariants as field
use Rattle.plain_table.proofs.WordPlaces.{field_place-below}
use Rattle.sweeper.specs.Moves.{external_base}
use Rattle.sweeper.specs.Pass.{Tally, MarksTell, entries_from}
use Rattle.sweeper.specs.Ready.{IsSpaceSwept}
use Rattle.entry_word.specs.Image.{sizes_of}
use Rattle.sweeper.specs.Whole.{IsShown, IsResolved, IsTidied}
use Rattle.sweeper.proofs.Resolved.{compaction-is}
use Rattle.sweeper.proofs.Finished.{Shows-finished, IsSweep-finished, trusted-ready}
use Rattle.sweeper.proofs.GreatestMark.{MarksTell-ready}
use Rattle.sweeper.proofs.sweeps.sweep_words.Goals as goal

-- entry 0 of the trusted space is still null after the moves and the sweep of the external space
null-kept : (s : Table) (c : Cycle) (w0 w1 w2 : List ℕ) (sizes : Sizes) (from segs : ℕ) (tally : Tally) → IsShown s c w0 sizes → IsResolved s c w0 w1 from →
    IsSpaceSwept w1 w2 (32 + 8 * sizes.objects) (sizes.seg * sizes.ext) from sizes.seg 0 segs tally →
    slice_index w2 (32 + 8 * sizes.objects + sizes.seg * sizes.ext) ≡ 0
null-kept s c w0 w1 w2 sizes from segs tally h resolved swept =
    swept.rest (32 + 8 * sizes.objects + sizes.seg * sizes.ext) (λ eq. omega (arith, eq)) (inr (omega arith))
    ∙ subst (λ (z : Sizes). slice_index w1 (32 + 8 * z.objects + z.seg * z.ext) ≡ 0) h.same
    (resolved.rest (32 + 8 * s.sizes.objects + s.sizes.seg * s.sizes.ext) (inr (omega arith)) (λ n few eq. omega (arith, eq, field_place-below (field.External n) s.sizes.objects few))
    ∙ ap (slice_index w0) (omega arith) ∙ h.shows.trusted.1.null)

marks-external : (s : Table) (c : Cycle) (w0 w1 : List ℕ) (sizes : Sizes) (from : ℕ) → IsShown s c w0 sizes → IsResolved s c w0 w1 from →
    MarksTell (entries_from w1 (32 + 8 * sizes.objects)) from (sizes.seg * sizes.ext)
marks-external s c w0 w1 sizes from h resolved =
    subst (λ (z : Sizes). MarksTell (entries_from w1 (32 + 8 * z.objects)) from (sizes.seg * sizes.ext)) h.same
    (MarksTell-ready s c h.sound External (entries_from w1 (external_base s)) from resolved.ready (sizes.seg * sizes.ext))

marks-trusted : (s : Table) (c : Cycle) (w0 w1 w2 : List ℕ) (sizes : Sizes) (from segs : ℕ) (tally : Tally) → IsShown s c w0 sizes → IsResolved s c w0 w1 from →
    IsSpaceSwept w1 w2 (32 + 8 * sizes.objects) (sizes.seg * sizes.ext) from sizes.seg 0 segs tally →
    MarksTell (entries_from w2 (32 + 8 * sizes.objects + sizes.seg * sizes.ext)) (sizes.seg * sizes.tru) (sizes.seg * sizes.tru)
marks-trusted s c w0 w1 w2 sizes from segs tally h resolved swept =
    let external = subst (λ (z : Sizes). IsSpaceSwept w1 w2 (32 + 8 * z.objects) (z.seg * z.ext) from z.seg 0 segs tally) (sym h.same) swept in
    let ready = trusted-ready s c h.sound h.cycle h.small w0 w1 w2 from segs tally h.shows resolved external in
    subst (λ (z : Sizes). MarksTell (entries_from w2 (32 + 8 * z.objects + z.seg * z.ext)) (z.seg * z.tru) (z.seg * z.tru)) h.same
    (MarksTell-ready s c h.sound Trusted (entries_from w2 (external_base s + limit_of s External)) (limit_of s Trusted) ready (limit_of s Trusted))

pub sweep_space-external-requires-clause-marks : goal.sweep_space-external-requires-clause-marks
sweep_space-external-requires-clause-marks c =
    let shown = c.requires.shown in
    marks-external shown.0 shown.1 c.args.words.now c.resolve-from.new.words (sizes_of c.args.shape) c.resolve-from.result shown.2 (c.resolve-from.ensures shown.0 shown.1 shown.2)

pub sweep_space-trusted-requires-clause-marks : goal.sweep_space-trusted-requires-clause-marks
sweep_space-trusted-requires-clause-marks c =
    let shown = c.requires.shown in
    marks-trusted shown.0 shown.1 c.args.words.now c.resolve-from.new.words c.sweep_space-external.new.words (sizes_of c.args.shape) c.resolve-from.result c.sweep_space-external.result.segs c.sweep_space-external.result.pass
    shown.2 (c.resolve-from.ensures shown.0 shown.1 shown.2) c.sweep_space-external.ensures

pub sweep_space-trusted-requires-clause-null : goal.sweep_space-trusted-requires-clause-null
sweep_space-trusted-requires-clause-null c =
    let shown = c.requires.shown in
    null-kept shown.0 shown.1 c.args.words.now c.resolve-from.new.words c.sweep_space-external.new.words (sizes_of c.args.shape) c.resolve-from.result c.sweep_space-external.result.segs c.sweep_space-external.result.pass
    shown.2 (c.resolve-from.ensures shown.0 shown.1 shown.2) c.sweep_space-external.ensures

pub returns : goal.returns
returns c = λ s cycle h.
    let w0 = c.args.words.now in
    let w1 = c.resolve-from.new.words in
    let w2 = c.sweep_space-external.new.words in
    let w3 = c.sweep_space-trusted.new.words in
    let w4 = c.tidy.new.words in
    let from = c.resolve-from.result in
    let ext = c.sweep_space-external.result in
    let tru = c.sweep_space-trusted.result in
    let resolved = c.resolve-from.ensures s cycle h in
    let external = subst (λ (z : Sizes). IsSpaceSwept w1 w2 (32 + 8 * z.objects) (z.seg * z.ext) from z.seg 0 ext.segs ext.pass) (sym h.same) c.sweep_space-external.ensures in
    let trusted = subst (λ (z : Sizes). IsSpaceSwept w2 w3 (32 + 8 * z.objects + z.seg * z.ext) (z.seg * z.tru) (z.seg * z.tru) z.seg 2 tru.segs tru.pass) (sym h.same) c.sweep_space-trusted.ensures in
    let tidied = subst (λ (z : Sizes). IsTidied w3 w4 z.objects) (sym h.same) c.tidy.ensures in (
      Shows-finished s cycle h.sound h.cycle h.small w0 w1 w2 w3 w4 from ext.segs tru.segs ext.pass tru.pass h.shows resolved external trusted tidied,
      subst (IsSweep s cycle (finished s cycle)) (sym c.report.ensures)
          (IsSweep-finished s cycle h.sound h.cycle h.small w0 w1 w2 w3 w4 from ext.segs tru.segs ext.pass tru.pass h.shows resolved external trusted tidied _ refl refl refl refl refl refl
          (c.compaction-compaction.ensures ∙ compaction-is s cycle w0 (sizes_of c.args.shape) h)),
    )
