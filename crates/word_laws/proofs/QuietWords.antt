-- Events that write no word: the words show the table after them as they showed the one before.
use Rattle.std.proofs.Common.{◌≡◌, ◌==◌, ℕ, Bool, true, false, List, Option, Some, None}
use Rattle.std.specs.Prelude.{if◌then◌else◌, nat_lt}
use Rattle.std.specs.Option.{option_map_or}
use Rattle.plain_table.specs.declared.events.Act.{Act}
use Rattle.plain_table.specs.declared.events.Act.TheVariants.{New, Drop, Get, Take, Below, Bind, Name, Look}
use Rattle.plain_table.specs.declared.events.Space.{Space}
use Rattle.plain_table.specs.declared.events.Space.TheVariants.{External}
use Rattle.plain_table.specs.declared.events.Field.{Field}
use Rattle.plain_table.specs.declared.reports.Reply.{Reply}
use Rattle.plain_table.specs.declared.reports.Reply.TheVariants as reply
use Rattle.plain_table.specs.Table.{Table, least_free}
use Rattle.plain_table.specs.Rows.{row, free_below, with_object, with_taken, with_bound, with_unbound}
use Rattle.plain_table.specs.Shows.{Shows}
use Rattle.word_laws.specs.WordLaws.{WritesNothing, WordsStay}
use Rattle.word_laws.proofs.ShownParts.{ShownParts-Shows, Shows-ShownParts}

module _ (words : List ℕ) (s : Table) (shows : Shows words s) where
  -- whatever becomes of variables and of fresh cells
  Shows-quiet : (vars : ℕ → ℕ → Option ℕ) (fresh : ℕ → Space → ℕ → Bool) → Shows words (record s { vars = vars; fresh = fresh })
  Shows-quiet vars fresh = Shows-ShownParts _ _ (ShownParts-Shows _ _ shows)

  Shows-heap_full : (b var : ℕ) (said : Reply) (room : Bool) → said ≡ (if room then reply.Obj s.count else reply.HeapFull) → said ≡ reply.HeapFull →
      Shows words (if room then with_object s b var else s)
  Shows-heap_full b var said true is full = absurd (cc)
  Shows-heap_full b var said false is full = shows

  Shows-full : (b : ℕ) (p : Space) (said : Reply) (found : Option ℕ) → said ≡ option_map_or reply.Index found reply.Full → said ≡ reply.Full →
      Shows words (with_taken s b p found)
  Shows-full b p said None is full = shows
  Shows-full b p said (Some i) is full = absurd (cc)

  Shows-no_room : (b : ℕ) (said : Reply) (found : Option ℕ) → said ≡ option_map_or reply.Index found reply.NoRoom → said ≡ reply.NoRoom →
      Shows words (with_taken s b External found)
  Shows-no_room b said None is full = shows
  Shows-no_room b said (Some i) is full = absurd (cc)

  Shows-taken : (b : ℕ) (f : Field) (w found : ℕ) (said : Reply) (empty : Bool) → said ≡ (if empty then reply.Ok else reply.Taken (s.words f)) →
      said ≡ reply.Taken found → Shows words (if empty then with_bound s b f w else with_unbound s b f w)
  Shows-taken b f w found said true is taken = absurd (cc)
  Shows-taken b f w found said false is taken = Shows-quiet _ _

  WordsStay-row : (b : ℕ) (a : Act) (said : Reply) → said ≡ (row s b a).reply → WritesNothing a said → Shows words (row s b a).next
  WordsStay-row b (New var) said is full = Shows-heap_full b var said (nat_lt s.count s.sizes.objects) is full
  WordsStay-row b (Drop var) said is quiet = Shows-quiet _ _
  WordsStay-row b (Get var spot) said is quiet = Shows-quiet _ _
  WordsStay-row b (Take p) said is full = Shows-full b p said (least_free s p) is full
  WordsStay-row b (Below start) said is full = Shows-no_room b said (free_below s start) is full
  WordsStay-row b (Bind f w) said is taken = Shows-taken b f w taken.0 said (s.words f == 0) is taken.1
  WordsStay-row b (Name f) said is quiet = shows
  WordsStay-row b (Look p w first last) said is quiet = shows
  WordsStay-row b _ said is wrong = absurd wrong

pub WordsStay-all : WordsStay
WordsStay-all words s e shows legal quiet = WordsStay-row words s shows e.by e.act e.said legal.1 quiet
