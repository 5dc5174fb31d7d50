-- Colours and hands: each object that is shaded and not scanned stands in the hands of one view, once, and no other object
-- stands in any.
use Rattle.std.specs.Prelude.{◌≡◌, ℕ, ◌+◌, ◌≤◌, ◌==◌, nat_lt, if◌then◌else◌, List, [], ◌∷◌, slice_index}
use Rattle.plain_table.specs.Table.{Sizes}
use Rattle.plain_table.specs.Words.{header_place}
use Rattle.plain_table.specs.Shows.{IsShaded}
use Rattle.entry_base.specs.declared.view.Fact.TheVariants as fact
use Rattle.entry_base.specs.declared.view.Opening.{Opening}
use Rattle.entry_base.specs.declared.view.View.{View}
use Rattle.entry_base.specs.Lists.{total, count_in, Has}
use Rattle.entry_base.specs.Openings.{sizes_in}

-- 1 where the object's header says shaded and not scanned
abbrev pub grey : Sizes → List ℕ → ℕ → ℕ
grey z words o = if nat_lt o z.objects then (if slice_index words (header_place o) == 1 then 1 else 0) else 0

abbrev pub HandsKept : Sizes → List ℕ → List View → Type 0
HandsKept z words views = (o : ℕ) → total (λ v. count_in o v.hands) views ≡ grey z words o

-- a count that is taken only where the list has no number, and one only where it has some
abbrev pub where_none : List ℕ → ℕ → ℕ
where_none [] n = n
where_none (m ∷ ms) n = 0

abbrev pub where_some : List ℕ → ℕ → ℕ
where_some [] n = 0
where_some (m ∷ ms) n = n

-- how often an object stands in the hands of a view without a number, as a chunk has, and how often a session cut it off
abbrev pub loose : ℕ → View → ℕ
loose o v = where_none v.numbers (count_in o v.hands)

abbrev pub cut_off : ℕ → View → ℕ
cut_off o v = where_some v.numbers (count_in o v.cut)

-- what chunks have, sessions cut off
abbrev pub CutsKept : List View → Type 0
CutsKept views = (o : ℕ) → total (loose o) views ≤ total (cut_off o) views

-- what is still to be scanned in the image of a phase that ended with this view: an object that is shaded and not scanned stands
-- in the hands, or was cut off in a chunk; those of the hands are so; and what was known as shaded is
pub record LeavesToScan (v : View) (closed : Opening) : Type 0 where
  pub hands : (o : ℕ) → grey (sizes_in closed) closed.words o ≤ count_in o v.hands + count_in o v.cut
  pub held : (o : ℕ) → count_in o v.hands ≤ grey (sizes_in closed) closed.words o
  pub shaded : (o : ℕ) → Has v.facts (fact.Shaded o) → IsShaded closed.words o
