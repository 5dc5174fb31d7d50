-- Runs at the pause: an evacuation entry for a cell of the area, the abort where no index below it is free, and the scan of an
-- object.
use Rattle.std.proofs.Common.{◌≡◌, ◌+◌, ◌/◌, ◌%◌, ◌^◌, ◌<◌, ◌==◌, ℕ, true, false, List, [], ◌∷◌, slice_index, slice_set, Option, Some, None, refl, sym, ap, subst, ◌∙◌, arith, lt-ltb, eq-eqb}
use Rattle.std.specs.Prelude.{nat_lt, unwrap_or, IsSomeAnd}
use Rattle.std.specs.Option.{option_map_or}
use Rattle.std.proofs.lemmas.Bool.{cond-true}
use Rattle.std.proofs.lemmas.List.Elements.{All-nil, All-cons}
use Rattle.plain_table.specs.declared.events.Act.TheVariants.{Below, Evac, Abort, Scan}
use Rattle.plain_table.specs.declared.events.Event.{Event}
use Rattle.plain_table.specs.declared.events.Space.TheVariants.{External}
use Rattle.plain_table.specs.declared.events.Field.{Field}
use Rattle.plain_table.specs.declared.events.Field.TheVariants as field
use Rattle.plain_table.specs.declared.reports.Reply.TheVariants as reply
use Rattle.plain_table.specs.Places.{object_of}
use Rattle.plain_table.specs.Cycle.{Cycle, IsOld, start_in, aborted_in}
use Rattle.plain_table.specs.Table.{Table, limit_of, least_free}
use Rattle.plain_table.specs.Words.{free_word, evacuation_word, freelist_word, header_place, header_word, area_word}
use Rattle.plain_table.specs.Rows.{with_taken, only_below, free_below, AreSafe}
use Rattle.plain_table.specs.History.{IsLegal, next}
use Rattle.plain_table.specs.Shapes.{event}
use Rattle.plain_table.specs.Scans.{Rest, Visit, Move, Fill, GiveUp, Ends, Make, Takes, Fills, Fails, Aborts, Says, IsInArea}
use Rattle.plain_table.specs.Shows.{Shows}
use Rattle.plain_table.specs.Sound.{IsSound}
use Rattle.plain_table.specs.Sweeps.{meeting}
use Rattle.plain_table.proofs.Options.{IsSomeAnd-by}
use Rattle.word_laws.proofs.CellWords.{EvacuationWordsFollow-row}
use Rattle.word_laws.proofs.CountWords.{AreaWordsFollow-row}
use Rattle.word_laws.proofs.FreelistReads.{FreelistsTell-shown}
use Rattle.word_laws.proofs.FreelistWords.{FreelistWordsFollow-row}
use Rattle.word_laws.proofs.HeaderWords.{ScanWordsFollow-row}
use Rattle.word_laws.specs.Small.{AreSmall}
use Rattle.word_laws.specs.Runs.{IsRun, base_of}
use Rattle.word_laws.proofs.Runs.{IsOwnEvent}

module _ (linked : List ℕ) (s : Table) (c : Cycle) (h : IsSound s) (is : s.cycle ≡ Some c) (small : AreSmall s.sizes) (words : List ℕ) (shows : Shows words s) (o : ℕ) (fields : List Field) where
  -- the words after an evacuation entry at the head of the freelist
  abbrev pub evacuated : (number head link len : ℕ) → List ℕ
  evacuated number head link len = slice_set (slice_set words 0 (freelist_word link len)) (base_of s External + head) (evacuation_word number)

  module _ (number w start head link len : ℕ) (begins : c.start ≡ Some start) (in_area : IsInArea s w) (old : IsOld c (object_of (field.External number)))
      (len_is : slice_index words 0 / 2 ^ 32 ≡ len + 1) (head_is : slice_index words 0 % 2 ^ 32 ≡ head) (below : head < start)
      (link_is : slice_index words (base_of s External + head) ≡ free_word link) where
    abbrev first : Event
    first = event meeting (Below start) (reply.Index head)

    abbrev second : Event
    second = event meeting (Evac head number) reply.Ok

    abbrev taken : Table
    taken = with_taken s meeting External (Some head)

    few : limit_of s External < 2 ^ 32
    few = omega (arith, small.few External)

    least : least_free s External ≡ Some head
    least =
        let tells = FreelistsTell-shown words s External (h.used.first External) shows few in
        (tells.1.some (λ none. omega (arith, none, len_is))).0 ∙ ap Some head_is

    found : free_below s start ≡ Some head
    found = ap (only_below start) least ∙ cond-true (nat_lt head start) (Some head) None (lt-ltb head start below)

    legal_first : IsLegal s (event meeting (Below start) (reply.Index head))
    legal_first = (ap start_in is ∙ begins, sym (ap (λ (o : Option ℕ). option_map_or reply.Index o reply.NoRoom) found))

    pub after_first : next s (event meeting (Below start) (reply.Index head)) ≡ taken
    after_first = ap (with_taken s meeting External) found

    shows_first : Shows (slice_set words 0 (freelist_word link len)) taken
    shows_first =
        subst (Shows (slice_set words 0 (freelist_word link len))) after_first
        (FreelistWordsFollow-row words s (event meeting (Below start) (reply.Index head)) External head link len (h.used.first External) shows few legal_first refl refl len_is link_is)

    legal_second : IsLegal taken (event meeting (Evac head number) reply.Ok)
    legal_second = (
      (
        cond-true (head == head) true (s.owed meeting External head) (eq-eqb head head refl),
        subst (λ (cycle : Option Cycle). IsSomeAnd (start_in cycle) (λ start. head < start)) (sym is) (subst (λ (o : Option ℕ). IsSomeAnd o (λ start. head < start)) (sym begins) below),
        IsSomeAnd-by s.cycle c (λ c. IsOld c (object_of (field.External number))) is old,
      ),
      refl,
    )

    -- the table after the take is sound, as after each legal event
    pub evacuate-runs : IsSound taken → IsRun linked (Move o fields number w) (Visit o fields) (evacuated number head link len) s
        (event meeting (Below start) (reply.Index head) ∷ event meeting (Evac head number) reply.Ok ∷ [])
    evacuate-runs sound_taken = record {
      legal = (legal_first, (subst (λ (t : Table). IsLegal t (event meeting (Evac head number) reply.Ok)) (sym after_first) legal_second, tt));
      own = All-cons IsOwnEvent (event meeting (Below start) (reply.Index head)) (event meeting (Evac head number) reply.Ok ∷ []) refl (All-cons IsOwnEvent (event meeting (Evac head number) reply.Ok) [] refl (All-nil IsOwnEvent));
      shows = subst (λ (t : Table). Shows (evacuated number head link len) (next t (event meeting (Evac head number) reply.Ok))) (sym after_first)
          (EvacuationWordsFollow-row (slice_set words 0 (freelist_word link len)) taken (event meeting (Evac head number) reply.Ok) head number sound_taken.used shows_first legal_second refl);
      scans = Make (Move o fields number w) (Fill o fields number head) s first (second ∷ []) (Visit o fields) refl (Takes o number w start head fields in_area)
          (Make (Fill o fields number head) (Visit o fields) (next s first) second [] (Visit o fields) refl (Fills o number head fields)
          (Ends (Visit o fields) (next (next s first) second)));
    }

  -- the object is scanned, where its bound fields are safe
  pub scan-runs : o < s.sizes.objects → IsOld c o → c.scans o ≡ false → AreSafe s c o →
      IsRun linked (Visit o []) Rest (slice_set words (header_place o) (header_word true true)) s (event meeting (Scan o) reply.Ok ∷ [])
  scan-runs within old unscanned safe = record {
    legal = (legal, tt);
    own = All-cons IsOwnEvent (event meeting (Scan o) reply.Ok) [] refl (All-nil IsOwnEvent);
    shows = ScanWordsFollow-row words s (event meeting (Scan o) reply.Ok) o within shows legal refl;
    scans = Make (Visit o []) Rest s (event meeting (Scan o) reply.Ok) [] Rest refl (Says o) (Ends Rest (next s (event meeting (Scan o) reply.Ok)));
  }
    where
      legal : IsLegal s (event meeting (Scan o) reply.Ok)
      legal = (IsSomeAnd-by s.cycle c (λ c. IsOld c o × (c.scans o ≡ false) × AreSafe s c o) is (old, unscanned, safe), refl)

  -- where no index below the area is free, the compaction is aborted
  module _ (number w start : ℕ) (begins : c.start ≡ Some start) (in_area : IsInArea s w) (full : free_below s start ≡ None) where
    legal_below : IsLegal s (event meeting (Below start) reply.NoRoom)
    legal_below = (ap start_in is ∙ begins, sym (ap (λ (o : Option ℕ). option_map_or reply.Index o reply.NoRoom) full))

    pub after_below : next s (event meeting (Below start) reply.NoRoom) ≡ s
    after_below = ap (with_taken s meeting External) full

    legal_abort : IsLegal s (event meeting Abort reply.Ok)
    legal_abort = (subst (λ (cycle : Option Cycle). IsSomeAnd (start_in cycle) (λ start. free_below s start ≡ None)) (sym is) (subst (λ (o : Option ℕ). IsSomeAnd o (λ start. free_below s start ≡ None)) (sym begins) full), refl)

    pub abort-runs : IsRun linked (Move o fields number w) (Visit o fields) (slice_set words 1 (start + 2 ^ 32)) s
        (event meeting (Below start) reply.NoRoom ∷ event meeting Abort reply.Ok ∷ [])
    abort-runs = record {
      legal = (legal_below, (subst (λ (t : Table). IsLegal t (event meeting Abort reply.Ok)) (sym after_below) legal_abort, tt));
      own = All-cons IsOwnEvent (event meeting (Below start) reply.NoRoom) (event meeting Abort reply.Ok ∷ []) refl (All-cons IsOwnEvent (event meeting Abort reply.Ok) [] refl (All-nil IsOwnEvent));
      shows = subst (λ (t : Table). Shows (slice_set words 1 (start + 2 ^ 32)) (next t (event meeting Abort reply.Ok))) (sym after_below) shown;
      scans = Make (Move o fields number w) (GiveUp o fields) s (event meeting (Below start) reply.NoRoom) (event meeting Abort reply.Ok ∷ []) (Visit o fields) refl (Fails o number w start fields in_area)
          (Make (GiveUp o fields) (Visit o fields) (next s (event meeting (Below start) reply.NoRoom)) (event meeting Abort reply.Ok) [] (Visit o fields) refl (Aborts o fields)
          (Ends (Visit o fields) (next (next s (event meeting (Below start) reply.NoRoom)) (event meeting Abort reply.Ok))));
    }
      where
        word_is : area_word (aborted_in s.cycle) ≡ start + 2 ^ 32
        word_is = ap (λ (cycle : Option Cycle). area_word (aborted_in cycle)) is ∙ ap (λ (o : Option ℕ). unwrap_or o 0 + 2 ^ 32) begins

        shown : Shows (slice_set words 1 (start + 2 ^ 32)) (next s (event meeting Abort reply.Ok))
        shown = subst (λ w. Shows (slice_set words 1 w) (next s (event meeting Abort reply.Ok))) word_is (AreaWordsFollow-row words s (event meeting Abort reply.Ok) shows legal_abort refl)
