use Rattle.std.proofs.Common.{◌≡◌, ◌+◌, ◌*◌, ◌<◌, ℕ, List, Option, Some, None, map, length, get_or, slice_index, refl, sym, ap, subst, ◌∙◌, arith}
use Rattle.std.specs.Prelude.{slice_index_or, nat_lt, ◌&&◌, Bool, true, false, if◌then◌else◌}
use Rattle.word_laws.specs.Kinds.{is_marked_word}
use Rattle.sweeper.specs.Small.{AreSmall}
use Rattle.std.specs.Option.{option_map}
use Rattle.std.specs.Vec.{with_items}
use Rattle.std.proofs.Math.ListN.{length-map}
use Rattle.std.proofs.lemmas.List.{with_items_is, get_or-map}
use Rattle.plain_table.specs.Table.{Sizes}
use Rattle.plain_table.specs.Finish.{finished}
use Rattle.plain_table.specs.Shows.{Image, PendingCell, Shows}
use Rattle.plain_table.specs.Sweeps.{IsSweep}
use Rattle.plain_table.specs.declared.reports.SweepReport.{SweepReport}
use Rattle.table_laws.proofs.FinishSound.{IsSound-finish}
use Rattle.entry_word.specs.declared.image.Pending.{Pending}
use Rattle.entry_word.specs.declared.image.Shape.{Shape}
use Rattle.entry_word.specs.Image.{image_of, pending_of}
use Rattle.sweeper.specs.Images.{pending_kept, AreKept, IsAllScanned, SweepsImage}
use Rattle.entry_word.specs.Image.{sizes_of}
use Rattle.sweeper.specs.Whole.{IsSmallShape, SweepsAll}
use Rattle.sweeper.proofs.ValidShapes.{IsSmallShape-valid}
use Rattle.sweeper.proofs.SweptImages.{CanFinish-image, ImageShows-swept, cycle-some, AreSmall-shape, kept_by}
use Rattle.sweeper.proofs.images.sweep.Goals as goal

abbrev pending_list : List (Option Pending) → List (Option PendingCell)
pending_list items = map (option_map pending_of) items

abbrev image_by : Shape → List ℕ → List ℕ → List (Option Pending) → Image
image_by shape words vars pending = record { sizes = sizes_of shape; words = words; variables = vars; pending = pending_list pending }

-- an image whose parts are swept
swept-parts : (shape : Shape) (words swept vars : List ℕ) (pending kept : List (Option Pending)) (report : SweepReport) →
    IsSmallShape shape → IsAllScanned (image_by shape words vars pending) →
    AreKept pending kept words (32 + 8 * shape.objects + shape.seg * shape.ext) (shape.seg * shape.tru) → SweepsAll words swept (sizes_of shape) report →
    SweepsImage (image_by shape words vars pending) (image_by shape swept vars kept) report
swept-parts shape words swept vars pending kept report small scanned keeps sweeps s c h is shows covered =
    record {
      may = CanFinish-image image s c h is shows covered scanned;
      shows = ImageShows-swept image s c h is few shows now refl refl done.0 long each;
      reported = done.1;
    }
  where
    image : Image
    image = image_by shape words vars pending

    now : Image
    now = image_by shape swept vars kept

    few : AreSmall s
    few = AreSmall-shape shape s small shows.sizes

    done : Shows swept (finished s c) × IsSweep s c (finished s c) report
    done = sweeps s c (record { sound = h; cycle = is; small = few; same = shows.sizes; shows = shows.words })

    long : length (pending_list kept) ≡ length (pending_list pending)
    long = length-map kept (option_map pending_of) ∙ keeps.long ∙ sym (length-map pending (option_map pending_of))

    kept_as : (z : Sizes) → Option PendingCell → Option PendingCell
    kept_as z None = None
    kept_as z (Some d) = if nat_lt d.index (z.seg * z.tru) && is_marked_word (slice_index words (32 + 8 * z.objects + z.seg * z.ext + d.index)) then Some d else None

    maps : (p : Option Pending) → option_map pending_of (pending_kept words (32 + 8 * shape.objects + shape.seg * shape.ext) (shape.seg * shape.tru) p) ≡ kept_as (sizes_of shape) (option_map pending_of p)
    maps None = refl
    maps (Some p) = choose (nat_lt p.index (shape.seg * shape.tru) && is_marked_word (slice_index words (32 + 8 * shape.objects + shape.seg * shape.ext + p.index)))
      where
        choose : (test : Bool) → option_map pending_of (if test then Some p else None) ≡ (if test then Some (pending_of p) else None)
        choose true = refl
        choose false = refl

    same : (d : Option PendingCell) → kept_as s.sizes d ≡ kept_by image s c h is few shows d
    same None = refl
    same (Some d) = refl

    each : (b : ℕ) (d : Option PendingCell) → b < length (pending_list pending) → slice_index_or (pending_list kept) b d ≡ kept_by image s c h is few shows (slice_index_or (pending_list pending) b d)
    each b d below =
        let inside : b < length pending = omega (arith, below, length-map pending (option_map pending_of)) in
        get_or-map (option_map pending_of) kept b None d (omega (arith, inside, keeps.long))
        ∙ ap (option_map pending_of) (keeps.each b None inside)
        ∙ maps (get_or pending b None)
        ∙ ap (λ (z : Sizes). kept_as z (option_map pending_of (get_or pending b None))) (sym shows.sizes)
        ∙ ap (kept_as s.sizes) (sym (get_or-map (option_map pending_of) pending b None d inside))
        ∙ same (get_or (pending_list pending) b d)

pub drop_pending-requires-clause-shape : goal.drop_pending-requires-clause-shape
drop_pending-requires-clause-shape c = IsSmallShape-valid c.args.image.now.shape c.requires.shape

pub sweep_words-requires-clause-shape : goal.sweep_words-requires-clause-shape
sweep_words-requires-clause-shape c = IsSmallShape-valid c.args.image.now.shape c.requires.shape

pub returns-clause-tables : goal.returns-clause-tables
returns-clause-tables c =
    let image = c.args.image.now in
    let old = image_of image in
    let words = c.sweep_words.new.words in
    let kept = c.drop_pending.new.pending in
    let words_long : length words ≡ image.words.len = c.sweep_words.auto.words ∙ c.deref_mut-2.ensures.len in
    let kept_long : length kept ≡ image.pending.len = c.drop_pending.ensures.long ∙ c.deref_mut.ensures.len in
    let words_is : (with_items image.words words).items ≡ words = with_items_is image.words words words_long in
    let kept_is : (with_items image.pending kept).items ≡ kept = with_items_is image.pending kept kept_long in
    let limit = image.shape.seg * image.shape.tru in
    let base = 32 + 8 * image.shape.objects + image.shape.seg * image.shape.ext in
    let keeps = subst (λ (ws : List ℕ). AreKept image.pending.items kept ws base limit) c.deref.ensures.value
    (subst (λ (items : List (Option Pending)). AreKept items kept c.deref.result.now base limit) c.deref_mut.ensures.value c.drop_pending.ensures) in
    let sweeps = subst (λ (ws : List ℕ). SweepsAll ws words (sizes_of image.shape) c.sweep_words.result) c.deref_mut-2.ensures.value c.sweep_words.ensures in
    let core = swept-parts image.shape image.words.items words image.vars.items image.pending.items kept c.sweep_words.result (IsSmallShape-valid c.args.image.now.shape c.requires.shape) c.requires.scanned keeps sweeps in
    subst (λ (ws : List ℕ). SweepsImage old (image_by image.shape ws image.vars.items (with_items image.pending kept).items) c.sweep_words.result) (sym words_is)
    (subst (λ (items : List (Option Pending)). SweepsImage old (image_by image.shape words image.vars.items items) c.sweep_words.result) (sym kept_is) core)

pub returns-clause-lawful : goal.returns-clause-lawful
returns-clause-lawful c =
    let lawful = c.requires.lawful in
    let s = lawful.0 in
    let cycle = cycle-some c.args.image.now.words.items s lawful.2.words c.requires.cycle in
    let swept = returns-clause-tables c s cycle.0 lawful.1 cycle.1 lawful.2 lawful.3 in
    (finished s cycle.0, IsSound-finish s cycle.0 lawful.1 cycle.1 swept.may, swept.shows, tt)

pub returns-clause-outside : goal.returns-clause-outside
returns-clause-outside c =
    let lawful = c.requires.lawful in
    let s = lawful.0 in
    let cycle = cycle-some c.args.image.now.words.items s lawful.2.words c.requires.cycle in
    let swept = returns-clause-tables c s cycle.0 lawful.1 cycle.1 lawful.2 lawful.3 in
    swept.shows.words.phase
