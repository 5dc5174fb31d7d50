-- Late marking of an image, from that of its words and variables.
use Rattle.std.proofs.Common.{◌≡◌, ℕ, List, slice_index, Option, Some, None, sym, ap, subst, ◌∙◌}
use Rattle.std.specs.Prelude.{IsSomeAnd, slice_index_or}
use Rattle.plain_table.specs.declared.events.Cell.{Cell}
use Rattle.plain_table.specs.declared.events.Space.{Space}
use Rattle.plain_table.specs.declared.events.Space.TheVariants.{Trusted}
use Rattle.plain_table.specs.Cycle.{Cycle}
use Rattle.plain_table.specs.Table.{Table}
use Rattle.plain_table.specs.Words.{object_word, phase_word}
use Rattle.plain_table.specs.History.{after}
use Rattle.plain_table.specs.Shows.{Image, PendingCell, IsPending, ImageShows, IsCovered, IsCoveredIn, IsLawful}
use Rattle.plain_table.specs.Sound.{IsSound}
use Rattle.plain_table.proofs.Options.{IfSome-is}
use Rattle.entry_word.specs.declared.image.Shape.{Shape}
use Rattle.sweeper.specs.Late.{IsLateStart, IsLateEnd, IsLateFrom, LateMarks}
use Rattle.entry_word.specs.Image.{sizes_of}
use Rattle.sweeper.specs.Whole.{IsSmallShape}
use Rattle.table_laws.proofs.PauseKeeps.{IsCalm, IsKeptBy, calm-after, kept-after}
use Rattle.sweeper.proofs.SweptImages.{AreSmall-shape}

module _ (shape : Shape) (words vars : List ℕ) (pending : List (Option PendingCell)) (small : IsSmallShape shape) where
  abbrev image : List ℕ → Image
  image ws = record { sizes = sizes_of shape; words = ws; variables = vars; pending = pending }

  pub IsLateStart-image : (s : Table) (c : Cycle) → IsSound s → s.cycle ≡ Some c → ImageShows (image words) s → IsCovered words s → IsLateStart words vars (sizes_of shape) s c
  IsLateStart-image s c h is shows covered = record {
    shown = record { sound = h; cycle = is; small = AreSmall-shape shape s small shows.sizes; same = shows.sizes; shows = shows.words };
    covered = IfSome-is s.cycle (IsCoveredIn words s) c is covered;
    variables = shows.variables;
  }

  module _ (now shaded linked : List ℕ) (n : ℕ) (s : Table) (c : Cycle) (h : IsSound s) (is : s.cycle ≡ Some c) (shows : ImageShows (image words) s) (e : IsLateEnd words now shaded linked n s c) where
    calm : IsCalm s (after s e.events)
    calm = calm-after e.events s e.acts

    kept : IsKeptBy s c (after s e.events)
    kept = kept-after e.events s c h is e.acts e.run.legal

    pending-calm : (found : Option ℕ) (p : Option PendingCell) → IsPending s found p → IsPending (after s e.events) found p
    pending-calm None p was = was
    pending-calm (Some i) p was =
        subst (λ (cells : Space → ℕ → Option Cell). IsSomeAnd (cells Trusted i) (λ cell. p ≡ Some (record { index = i; tag = cell.tag; value = cell.value }))) (sym calm.cells) was

    pub ImageShows-late : ImageShows (image now) (after s e.events)
    ImageShows-late = record {
      sizes = calm.sizes ∙ shows.sizes;
      words = e.run.shows;
      variables = (shows.variables.0, λ b v small_b small_v. shows.variables.1 b v small_b small_v ∙ ap (λ (vs : ℕ → ℕ → Option ℕ). object_word (vs b v)) (sym calm.vars));
      pending = (
        shows.pending.0,
        λ b d few.
            subst (λ (tickets : ℕ → Option ℕ). IsPending (after s e.events) (tickets b) (slice_index_or pending b d)) (sym calm.ticket)
            (pending-calm (s.ticket b) (slice_index_or pending b d) (shows.pending.1 b d few)),
      );
    }

    pub IsLawful-late : IsLawful (image now)
    IsLawful-late = (after s e.events, kept.sound, ImageShows-late, e.covered)

    pub cycle-late : slice_index now 4 ≡ 1
    cycle-late = e.run.shows.phase ∙ ap phase_word kept.is

  pub LateMarks-image : (now shaded : List ℕ) (n : ℕ) → IsLateFrom words now vars shaded (sizes_of shape) n → LateMarks (image words) (image now) shaded n
  LateMarks-image now shaded n from s c linked h is shows covered due =
      let e = from s c linked (IsLateStart-image s c h is shows covered) due in
      record {
        events = e.events;
        legal = e.run.legal;
        own = e.run.own;
        scans = e.run.scans;
        pause = λ handed. record { own = e.run.own; scans = e.run.scans; complete = e.complete handed };
        shows = ImageShows-late now shaded linked n s c h is shows e;
        covered = e.covered;
        counted = e.counted;
      }
