-- An exchange of a value: where a look finds a cell, the word with the cell's tag and the new value shows the table after a
-- store or an exchange there.
use Rattle.std.proofs.Common.{◌≡◌, ℕ, ◌+◌, ◌*◌, ◌^◌, ◌<◌, Bool, true, List, [], ◌∷◌, slice_index, slice_set, Option, Some, IsTrue, is_some, refl, sym, ap, subst, ◌∙◌, inl, inr, arith, length, ◌≤◌}
use Rattle.std.specs.Prelude.{if◌then◌else◌}
use Rattle.std.specs.Option.{option_map}
use Rattle.std.specs.Global.{Vec}
use Rattle.plain_table.specs.declared.events.Act.TheVariants.{Set}
use Rattle.plain_table.specs.declared.events.Cell.{Cell}
use Rattle.plain_table.specs.declared.events.Event.{Event}
use Rattle.plain_table.specs.declared.events.Space.TheVariants.{External}
use Rattle.plain_table.specs.declared.reports.Reply.{Reply}
use Rattle.plain_table.specs.declared.reports.Reply.TheVariants as reply
use Rattle.plain_table.specs.Index.{index_of}
use Rattle.plain_table.specs.Table.{Table, Sizes, limit_in}
use Rattle.plain_table.specs.Rows.{is_asked, look, with_value}
use Rattle.plain_table.specs.History.{IsLegal}
use Rattle.plain_table.specs.Shapes.{IsMiss, event}
use Rattle.plain_table.specs.Words.{cell_word, entry_place, header_place, words_in_all}
use Rattle.plain_table.specs.Shows.{IsLawful, Shows}
use Rattle.plain_table.proofs.Options.{IsSome-value, IsSomeAnd-some}
use Rattle.plain_table.proofs.PlaceReads.{put_entry-same}
use Rattle.plain_table.proofs.SpacesShown.{cell-below}
use Rattle.plain_table.proofs.WordPlaces.{entry_place-below, entry_place-from}
use Rattle.word_laws.specs.ReadLaws.{tag_bits}
use Rattle.word_laws.proofs.CellWords.{CellWordsFollow-row}
use Rattle.entry_word.specs.declared.image.Shape.{Shape}
use Rattle.entry_word.specs.Image.{IsValidShape, image_of, sizes_of}
use Rattle.mutator_calls.specs.declared.heap.Mutator.{Mutator}
use Rattle.mutator_calls.specs.Calls.{IsReady, Sees}
use Rattle.mutator_calls.specs.Words.{IsShownAs, LooksAt}
use Rattle.mutator_calls.specs.Exchanges.{Exchanges, Follows, exchanged, valued_word}
use Rattle.mutator_calls.proofs.Seen.{Sees-words, shown-as}
use Rattle.mutator_calls.proofs.Kept.{HandsOver-after}
use Rattle.mutator_calls.proofs.Looks.{entry-tells, look-cases, look-value}
use Rattle.mutator_calls.proofs.Written.{IsKept-words, IsReady-words, KeepsHeaders, KeepsHeaders-same, KeepsHeaders-set, with_words}

-- where a look at a word of the external space finds a value
module _ (words : List ℕ) (shape : Shape) (s : Table) (w first last v : ℕ) (valid : IsValidShape shape) (h : IsShownAs words (sizes_of shape) s)
    (found : reply.Value v ≡ look s External w first last) where
  cell_there : (c : Cell) × (s.cells External (index_of w) ≡ Some c)
  cell_there =
      IsSome-value (s.cells External (index_of w))
      (IsSomeAnd-some (s.cells External (index_of w)) (λ (c : Cell). IsTrue (is_asked first last c.tag)) (look-value s External w first last v found).0)

  pub found-below : index_of w < limit_in (sizes_of shape) External
  found-below =
      subst (λ (z : Sizes). index_of w < limit_in z External) h.same
      (cell-below s External (index_of w) h.sound (ap (λ (o : Option Cell). is_some o) cell_there.1))

  pub found-within : entry_place (sizes_of shape) External (index_of w) < length words
  found-within =
      let whole = h.shows.whole ∙ ap (λ (z : Sizes). words_in_all z) h.same in
      let below = entry_place-below (sizes_of shape) External (index_of w) found-below in
      omega (arith, whole, below)

  tag_there : tag_bits (slice_index words (entry_place (sizes_of shape) External (index_of w))) ≡ cell_there.0.tag
  tag_there = ((entry-tells words shape s External (index_of w) valid h found-below).cell cell_there.0 cell_there.1).tag

  pub found-tag : 1 ≤ tag_bits (slice_index words (entry_place (sizes_of shape) External (index_of w)))
  found-tag = let tag = (h.sound.cells.tags External (index_of w) cell_there.0 cell_there.1).0.0 in let same = tag_there in omega (arith, tag, same)

  -- the word that is written is that of the cell with the new value
  valued-cell : (value : ℕ) → valued_word (slice_index words (entry_place (sizes_of shape) External (index_of w))) value ≡ cell_word (record cell_there.0 { value = value }) true
  valued-cell value =
      let none : value + 2 ^ 48 * cell_there.0.tag + 2 ^ 62 ≡ 0 + (value + 2 ^ 48 * cell_there.0.tag + 2 ^ 62) = omega arith in
      ap (λ (tag : ℕ). value + 2 ^ 48 * tag + 2 ^ 62) tag_there
      ∙ none
      ∙ ap (λ (b : Bool). (if b then 0 else 2 ^ 59) + (value + 2 ^ 48 * cell_there.0.tag + 2 ^ 62))
      (sym (h.sound.cells.seen (index_of w) cell_there.0 cell_there.1))

  Shows-valued : (value : ℕ) → value < 2 ^ 48 →
      Shows (slice_set words (entry_place (sizes_of shape) External (index_of w)) (valued_word (slice_index words (entry_place (sizes_of shape) External (index_of w))) value))
      (with_value s (index_of w) value)
  Shows-valued value small =
      subst (λ (x : ℕ). Shows (slice_set words (entry_place (sizes_of shape) External (index_of w)) x) (with_value s (index_of w) value)) (sym (valued-cell value))
      (subst (λ (z : Sizes). Shows (slice_set words (entry_place z External (index_of w)) (cell_word (record cell_there.0 { value = value }) true)) (with_value s (index_of w) value)) h.same
      (CellWordsFollow-row words s (event 0 (Set w first last value) reply.Ok) External (index_of w) (record cell_there.0 { value = value })
      h.sound.used h.shows (((look-value s External w first last v found).0, small), refl) (refl, refl)
      (put_entry-same s.cells External (index_of w) (option_map (λ (c : Cell). record c { value = value }) (s.cells External (index_of w)))
      ∙ ap (option_map (λ (c : Cell). record c { value = value })) cell_there.1)))

-- the exchange of a mutator
module _ (m : Mutator) (words : Vec ℕ) (w first last value : ℕ) (found : Reply) (valid : IsValidShape m.image.shape) (small : value < 2 ^ 48)
    (looks : LooksAt m.image.words.items (sizes_of m.image.shape) External w first last found)
    (is : words.items ≡ exchanged m.image.words.items (entry_place (sizes_of m.image.shape) External (index_of w)) value found) where
  missed : IsMiss found → words.items ≡ m.image.words.items
  missed (inl null) = is ∙ ap (exchanged m.image.words.items (entry_place (sizes_of m.image.shape) External (index_of w)) value) null
  missed (inr fault) = is ∙ ap (exchanged m.image.words.items (entry_place (sizes_of m.image.shape) External (index_of w)) value) fault

  written : (v : ℕ) → found ≡ reply.Value v → words.items ≡ slice_set m.image.words.items (entry_place (sizes_of m.image.shape) External (index_of w))
      (valued_word (slice_index m.image.words.items (entry_place (sizes_of m.image.shape) External (index_of w))) value)
  written v value_is = is ∙ ap (exchanged m.image.words.items (entry_place (sizes_of m.image.shape) External (index_of w)) value) value_is

  KeepsHeaders-exchanged : (s : Table) → Sees (image_of m.image) s → KeepsHeaders m.image.shape.objects m.image.words.items words.items
  KeepsHeaders-exchanged s h = elim (look-cases s External w first last found (looks s (shown-as m s h))) [
    | inl miss ↦ KeepsHeaders-same m.image.shape.objects m.image.words.items words.items (missed miss)
    | inr hit ↦
        let from = entry_place-from (sizes_of m.image.shape) External (index_of w) in
        KeepsHeaders-set m.image.shape.objects m.image.words.items words.items (entry_place (sizes_of m.image.shape) External (index_of w)) _ (written hit.0 hit.1)
        (omega (arith, from)) (λ o few e. omega (arith, from, few, e))
  ]

  Follows-missed : (s : Table) → Sees (image_of m.image) s → IsMiss found → Follows m (with_words m words) s s
  Follows-missed s h miss = record {
    sees = subst (λ (ws : List ℕ). Sees (record (image_of m.image) { words = ws }) s) (sym (missed miss)) h;
    handed = λ linked was. HandsOver-after m (with_words m words) (IsKept-words m words (KeepsHeaders-exchanged s h)) linked s [] h.sound
        (ap (λ (z : Sizes). z.objects) h.shows.sizes) tt tt was;
  }

  Follows-written : (s : Table) (h : Sees (image_of m.image) s) (v : ℕ) → found ≡ reply.Value v → reply.Value v ≡ look s External w first last →
      Follows m (with_words m words) s (with_value s (index_of w) value)
  Follows-written s h v value_is seen = record {
    sees = subst (λ (ws : List ℕ). Sees (record (image_of m.image) { words = ws }) (with_value s (index_of w) value)) (sym (written v value_is))
        (Sees-words (image_of m.image) s set h legal tt _
        (Shows-valued m.image.words.items m.image.shape s w first last v valid (shown-as m s h) seen value small)
        (λ o few. ap (λ (ws : List ℕ). slice_index ws (header_place o)) (sym (written v value_is))
        ∙ (KeepsHeaders-exchanged s h).headers o (subst (λ (z : Sizes). o < z.objects) h.shows.sizes few))
        refl refl refl);
    handed = λ linked was. HandsOver-after m (with_words m words) (IsKept-words m words (KeepsHeaders-exchanged s h)) linked s (set ∷ []) h.sound
        (ap (λ (z : Sizes). z.objects) h.shows.sizes) (legal, tt) (tt, tt) was;
  }
    where
      set : Event
      set = event 0 (Set w first last value) reply.Ok

      legal : IsLegal s (event 0 (Set w first last value) reply.Ok)
      legal = (((look-value s External w first last v seen).0, small), refl)

  pub Exchanges-made : (s : Table) → Sees (image_of m.image) s → Exchanges m (with_words m words) s w first last value found
  Exchanges-made s h = record {
    looks = looks s (shown-as m s h);
    outcome = elim (look-cases s External w first last found (looks s (shown-as m s h))) [
      | inl miss ↦ inl (miss, Follows-missed s h miss)
      | inr hit ↦
          let seen = sym hit.1 ∙ looks s (shown-as m s h) in
          let there = look-value s External w first last hit.0 seen in
          inr (hit.0, hit.1, record { cell = there.0; was = there.1; follows = Follows-written s h hit.0 hit.1 seen })
    ];
  }

  pub IsReady-exchanged : IsReady m → IsReady (with_words m words)
  IsReady-exchanged ready =
      IsReady-words m words (KeepsHeaders-exchanged s seen) ready (elim (Exchanges-made s seen).outcome [
        | inl miss ↦ lawful s miss.1.sees
        | inr hit ↦ lawful (with_value s (index_of w) value) hit.2.follows.sees
      ])
    where
      s : Table
      s = ready.lawful.0

      seen : Sees (image_of m.image) ready.lawful.0
      seen = record { sound = ready.lawful.1; shows = ready.lawful.2; covered = ready.lawful.3 }

      lawful : (t : Table) → Sees (image_of (with_words m words).image) t → IsLawful (image_of (with_words m words).image)
      lawful t h = (t, h.sound, h.shows, h.covered)
