use Rattle.std.proofs.Common.{slice_index, ◌≡◌, ◌+◌, ◌*◌, ℕ, Bool, List, length, map, refl, sym, subst, ◌∙◌, ap}
use Rattle.std.specs.Option.{option_map}
use Rattle.std.specs.Vec.{with_items}
use Rattle.std.proofs.lemmas.List.{with_items_is}
use Rattle.plain_table.specs.declared.events.Act.TheVariants.{Start}
use Rattle.plain_table.specs.Finish.{started}
use Rattle.table_laws.proofs.Soundness.{IsSound-row}
use Rattle.sweeper.specs.Begin.{IsOpened, Begins}
use Rattle.entry_word.specs.Image.{image_of, pending_of}
use Rattle.sweeper.specs.Roots.{AreHeld, members_below, is_held}
use Rattle.sweeper.specs.Usage.{DecidesArea}
use Rattle.entry_word.specs.Image.{sizes_of}
use Rattle.sweeper.specs.declared.area.Area.{Area}
use Rattle.sweeper.proofs.ValidShapes.{IsSmallShape-valid}
use Rattle.sweeper.specs.Late.{AreOwed}
use Rattle.sweeper.proofs.Begun.{AreOwed-begun, IsBegun-parts, cycle-none}
use Rattle.sweeper.proofs.begins.begin.Goals as goal

pub area_start-start-requires-clause-shape : goal.area_start-start-requires-clause-shape
area_start-start-requires-clause-shape c = IsSmallShape-valid c.args.image.now.shape c.requires.shape

pub returns-clause-tables : goal.returns-clause-tables
returns-clause-tables c =
    let image = c.args.image.now in
    let shape = image.shape in
    let opened = c.open_words.new.words in
    let entries = shape.seg * shape.ext + shape.seg * shape.tru in
    let start = c.area_start-start.result in
    let roots = c.in_ok-roots.roots in
    let area : Area = record { start = start; roots = roots; work = c.in_ok-work.work } in
    let opened_long : length opened ≡ image.words.len = c.open_words.auto.words ∙ c.deref_mut.ensures.len in
    let words_is : (with_items image.words opened).items ≡ opened = with_items_is image.words opened opened_long in
    let held = c.in_ok-held.held.items in
    let are = subst (λ (vs : List ℕ). AreHeld held image.words.items vs shape.objects) c.deref-2.ensures.value
    (subst (λ (ws : List ℕ). AreHeld held ws c.deref-2.result.now shape.objects) c.deref.ensures.value c.in_ok-held.ensures) in
    let lists = subst (λ (hs : List Bool). roots.items ≡ members_below (is_held hs) (length hs)) c.deref-3.ensures.value c.in_ok-roots.ensures in
    let decides = subst (λ (ws : List ℕ). DecidesArea ws (sizes_of shape) c.args.policy start) c.deref-4.ensures.value c.area_start-start.ensures in
    let opens = subst (λ (hs : List Bool). IsOpened image.words.items opened hs entries start) c.deref-5.ensures.value
    (subst (λ (ws : List ℕ). IsOpened ws opened c.deref-5.result.now entries start) c.deref_mut.ensures.value c.open_words.ensures) in
    let core = IsBegun-parts shape image.words.items opened image.vars.items (map (option_map pending_of) image.pending.items) held c.args.policy area (IsSmallShape-valid c.args.image.now.shape c.requires.shape) are lists decides opens in
    subst (λ (ws : List ℕ). Begins (image_of image) (record { sizes = sizes_of shape; words = ws; variables = image.vars.items; pending = map (option_map pending_of) image.pending.items }) c.args.policy area)
    (sym words_is) core

pub returns-clause-lawful : goal.returns-clause-lawful
returns-clause-lawful c =
    let lawful = c.requires.lawful in
    let s = lawful.0 in
    let none = cycle-none c.args.image.now.words.items s lawful.2.words c.requires.outside in
    let begun = returns-clause-tables c s lawful.1 none lawful.2 in
    (started s c.args.policy, IsSound-row s 12 (Start c.args.policy) lawful.1 (refl, none), begun.shows, begun.covered)

pub returns-clause-owed : goal.returns-clause-owed
returns-clause-owed c =
    let image = c.args.image.now in
    let shape = image.shape in
    let opened = c.open_words.new.words in
    let entries = shape.seg * shape.ext + shape.seg * shape.tru in
    let start = c.area_start-start.result in
    let roots = c.in_ok-roots.roots in
    let area : Area = record { start = start; roots = roots; work = c.in_ok-work.work } in
    let opened_long : length opened ≡ image.words.len = c.open_words.auto.words ∙ c.deref_mut.ensures.len in
    let words_is : (with_items image.words opened).items ≡ opened = with_items_is image.words opened opened_long in
    let held = c.in_ok-held.held.items in
    let are = subst (λ (vs : List ℕ). AreHeld held image.words.items vs shape.objects) c.deref-2.ensures.value
    (subst (λ (ws : List ℕ). AreHeld held ws c.deref-2.result.now shape.objects) c.deref.ensures.value c.in_ok-held.ensures) in
    let lists = subst (λ (hs : List Bool). roots.items ≡ members_below (is_held hs) (length hs)) c.deref-3.ensures.value c.in_ok-roots.ensures in
    let decides = subst (λ (ws : List ℕ). DecidesArea ws (sizes_of shape) c.args.policy start) c.deref-4.ensures.value c.area_start-start.ensures in
    let opens = subst (λ (hs : List Bool). IsOpened image.words.items opened hs entries start) c.deref-5.ensures.value
    (subst (λ (ws : List ℕ). IsOpened ws opened c.deref-5.result.now entries start) c.deref_mut.ensures.value c.open_words.ensures) in
    let lawful = c.requires.lawful in
    let none = cycle-none image.words.items lawful.0 lawful.2.words c.requires.outside in
    subst (λ (ws : List ℕ). AreOwed ws roots.items) (sym words_is)
    (AreOwed-begun shape image.words.items opened image.vars.items (map (option_map pending_of) image.pending.items) held c.args.policy area (IsSmallShape-valid c.args.image.now.shape c.requires.shape) are lists decides opens
    lawful.0 lawful.1 none lawful.2)

pub returns-clause-cycle : goal.returns-clause-cycle
returns-clause-cycle c =
    let image = c.args.image.now in
    let opened = c.open_words.new.words in
    let opened_long : length opened ≡ image.words.len = c.open_words.auto.words ∙ c.deref_mut.ensures.len in
    let words_is : (with_items image.words opened).items ≡ opened = with_items_is image.words opened opened_long in
    ap (λ (ws : List ℕ). slice_index ws 4) words_is ∙ c.open_words.ensures.phase
