use Rattle.std.proofs.Common.{◌≡◌, ℕ, List, length, map, slice_index, sym, ap, subst, ◌∙◌}
use Rattle.std.specs.Option.{option_map}
use Rattle.std.specs.Vec.{with_items}
use Rattle.std.proofs.lemmas.List.{with_items_is}
use Rattle.plain_table.specs.Sweeps.{Was_linked}
use Rattle.plain_table.specs.Shows.{IsLawful}
use Rattle.entry_word.specs.Image.{image_of, pending_of}
use Rattle.sweeper.specs.Images.{IsAllScanned}
use Rattle.sweeper.specs.Late.{IsLateFrom, LateSome, LateMarks, NothingOwed}
use Rattle.entry_word.specs.Image.{sizes_of}
use Rattle.sweeper.proofs.ValidShapes.{IsSmallShape-valid}
use Rattle.sweeper.proofs.LateImages.{LateMarks-image, IsLateStart-image, IsLawful-late, cycle-late}
use Rattle.sweeper.proofs.SweptImages.{cycle-some}
use Rattle.sweeper.proofs.late.late_mark.Goals as goal

pub mark_late-requires-clause-shape : goal.mark_late-requires-clause-shape
mark_late-requires-clause-shape c = IsSmallShape-valid c.args.image.now.shape c.requires.shape

pub mark_late-requires-clause-some : goal.mark_late-requires-clause-some
mark_late-requires-clause-some c =
    let image = c.args.image.now in
    let lawful = c.requires.lawful in
    let s = lawful.0 in
    let cycle = cycle-some image.words.items s lawful.2.words c.requires.cycle in
    let start = IsLateStart-image image.shape image.words.items image.vars.items (map (option_map pending_of) image.pending.items) (IsSmallShape-valid c.args.image.now.shape c.requires.shape) s cycle.0 lawful.1 cycle.1 lawful.2 lawful.3 in
    subst (λ (ws : List ℕ). LateSome ws c.deref.result.now (sizes_of image.shape)) (sym c.deref_mut.ensures.value)
    (subst (λ (vs : List ℕ). LateSome image.words.items vs (sizes_of image.shape)) (sym c.deref.ensures.value) (s, cycle.0, start))

pub returns-clause-tables : goal.returns-clause-tables
returns-clause-tables c =
    let image = c.args.image.now in
    let now = c.mark_late.new.words in
    let pending = map (option_map pending_of) image.pending.items in
    let long : length now ≡ image.words.len = c.mark_late.auto.words ∙ c.deref_mut.ensures.len in
    let words_is : (with_items image.words now).items ≡ now = with_items_is image.words now long in
    let from = subst (λ (vs : List ℕ). IsLateFrom image.words.items now vs c.args.shaded.now (sizes_of image.shape) c.mark_late.result) c.deref.ensures.value
    (subst (λ (ws : List ℕ). IsLateFrom ws now c.deref.result.now c.args.shaded.now (sizes_of image.shape) c.mark_late.result) c.deref_mut.ensures.value c.mark_late.ensures.tables) in
    subst (λ (ws : List ℕ). LateMarks (image_of image) (record { sizes = sizes_of image.shape; words = ws; variables = image.vars.items; pending = pending }) c.args.shaded.now c.mark_late.result) (sym words_is)
    (LateMarks-image image.shape image.words.items image.vars.items pending (IsSmallShape-valid c.args.image.now.shape c.requires.shape) now c.args.shaded.now c.mark_late.result from)

pub returns-clause-scanned : goal.returns-clause-scanned
returns-clause-scanned c =
    let image = c.args.image.now in
    let now = c.mark_late.new.words in
    let pending = map (option_map pending_of) image.pending.items in
    let long : length now ≡ image.words.len = c.mark_late.auto.words ∙ c.deref_mut.ensures.len in
    let words_is : (with_items image.words now).items ≡ now = with_items_is image.words now long in
    let nothing = subst (λ (vs : List ℕ). NothingOwed now vs) c.deref.ensures.value c.mark_late.ensures.nothing in
    subst (λ (ws : List ℕ). IsAllScanned (record { sizes = sizes_of image.shape; words = ws; variables = image.vars.items; pending = pending })) (sym words_is)
    (record { shaded = nothing.shaded; globals = nothing.globals; variables = nothing.variables })

pub returns-clause-lawful : goal.returns-clause-lawful
returns-clause-lawful c =
    let image = c.args.image.now in
    let now = c.mark_late.new.words in
    let pending = map (option_map pending_of) image.pending.items in
    let long : length now ≡ image.words.len = c.mark_late.auto.words ∙ c.deref_mut.ensures.len in
    let words_is : (with_items image.words now).items ≡ now = with_items_is image.words now long in
    let lawful = c.requires.lawful in
    let s = lawful.0 in
    let cycle = cycle-some image.words.items s lawful.2.words c.requires.cycle in
    let start = IsLateStart-image image.shape image.words.items image.vars.items pending (IsSmallShape-valid c.args.image.now.shape c.requires.shape) s cycle.0 lawful.1 cycle.1 lawful.2 lawful.3 in
    let from = subst (λ (vs : List ℕ). IsLateFrom image.words.items now vs c.args.shaded.now (sizes_of image.shape) c.mark_late.result) c.deref.ensures.value
    (subst (λ (ws : List ℕ). IsLateFrom ws now c.deref.result.now c.args.shaded.now (sizes_of image.shape) c.mark_late.result) c.deref_mut.ensures.value c.mark_late.ensures.tables) in
    let end = from s cycle.0 c.args.shaded.now start (λ o there. Was_linked o there) in
    subst (λ (ws : List ℕ). IsLawful (record { sizes = sizes_of image.shape; words = ws; variables = image.vars.items; pending = pending })) (sym words_is)
    (IsLawful-late image.shape image.words.items image.vars.items pending (IsSmallShape-valid c.args.image.now.shape c.requires.shape) now c.args.shaded.now c.args.shaded.now c.mark_late.result s cycle.0 lawful.1 cycle.1 lawful.2 end)

pub returns-clause-cycle : goal.returns-clause-cycle
returns-clause-cycle c =
    let image = c.args.image.now in
    let now = c.mark_late.new.words in
    let pending = map (option_map pending_of) image.pending.items in
    let long : length now ≡ image.words.len = c.mark_late.auto.words ∙ c.deref_mut.ensures.len in
    let words_is : (with_items image.words now).items ≡ now = with_items_is image.words now long in
    let lawful = c.requires.lawful in
    let s = lawful.0 in
    let cycle = cycle-some image.words.items s lawful.2.words c.requires.cycle in
    let start = IsLateStart-image image.shape image.words.items image.vars.items pending (IsSmallShape-valid c.args.image.now.shape c.requires.shape) s cycle.0 lawful.1 cycle.1 lawful.2 lawful.3 in
    let from = subst (λ (vs : List ℕ). IsLateFrom image.words.items now vs c.args.shaded.now (sizes_of image.shape) c.mark_late.result) c.deref.ensures.value
    (subst (λ (ws : List ℕ). IsLateFrom ws now c.deref.result.now c.args.shaded.now (sizes_of image.shape) c.mark_late.result) c.deref_mut.ensures.value c.mark_late.ensures.tables) in
    let end = from s cycle.0 c.args.shaded.now start (λ o there. Was_linked o there) in
    ap (λ (ws : List ℕ). slice_index ws 4) words_is
    ∙ cycle-late image.shape image.words.items image.vars.items pending (IsSmallShape-valid c.args.image.now.shape c.requires.shape) now c.args.shaded.now c.args.shaded.now c.mark_late.result s cycle.0 lawful.1 cycle.1 lawful.2 end
