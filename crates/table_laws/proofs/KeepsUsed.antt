-- Each legal event but a finish keeps the group of used indexes: 0 is used, the used indexes are below the limit, and no
-- index stands twice among the cells, the claims and the evacuation entries.
use Rattle.std.proofs.Common.{◌≡◌, ℕ, Bool, false, Option, Some, None, IsTrue, IsSomeAnd, option_map, refl, sym, ap, subst}
use Rattle.std.specs.Prelude.{nat_lt, ◌==◌}
use Rattle.plain_table.specs.declared.events.Act.{Act}
use Rattle.plain_table.specs.declared.events.Act.TheVariants.{New, Drop, Get, Link, Take, Below, Abort, Put, Bind, Name, Look, Set, Swap, Forge, Publish, Mark, Evac, Scan, Start, Finish}
use Rattle.plain_table.specs.declared.events.Space.{Space}
use Rattle.plain_table.specs.declared.events.Space.TheVariants.{External, Trusted}
use Rattle.plain_table.specs.declared.events.Field.TheVariants as field
use Rattle.plain_table.specs.Index.{index_of}
use Rattle.plain_table.specs.Places.{object_of, put_claim}
use Rattle.plain_table.specs.Cycle.{Cycle, IsOld, with_mark, with_birth, with_scan, with_word, with_abort, evacuated_in}
use Rattle.plain_table.specs.Table.{Table, limit_of, least_free}
use Rattle.plain_table.specs.Finish.{id_at}
use Rattle.plain_table.specs.Rows.{row, with_object, with_taken, with_bound, with_unbound, object_in, free_below}
use Rattle.plain_table.specs.Sound.{UsedSound, IsSound, entries_in}
use Rattle.table_laws.proofs.Acts.{IsNoFinish}
use Rattle.plain_table.proofs.FreeReads.{least_free-some, free_below-some}
use Rattle.table_laws.proofs.IdsAt.{id_at-with_cell, id_at-with_value, id_at-with_published}
use Rattle.table_laws.proofs.UsedPlaces.{UsedSound-take, UsedSound-put, UsedSound-evac}
use Rattle.plain_table.proofs.Branches.{if_either, with_linked_either}

-- the group, of a table
abbrev Used : Table → Type 0
Used s = UsedSound (limit_of s) s.used (id_at s) s.owed (entries_in s.cycle)

-- other names for the ids and the entries
UsedSound-is : {limit : Space → ℕ} {used : Space → ℕ → Bool} {ids : Space → ℕ → Option ℕ} {owed : ℕ → Space → ℕ → Bool} {evac : ℕ → Option ℕ}
    (new_ids : Space → ℕ → Option ℕ) (new_evac : ℕ → Option ℕ) → new_ids ≡ ids → new_evac ≡ evac →
    UsedSound limit used ids owed evac → UsedSound limit used new_ids owed new_evac
UsedSound-is {limit} {used} {ids} {owed} {evac} new_ids new_evac e f h =
    subst (λ (x : ℕ → Option ℕ). UsedSound limit used new_ids owed x) (sym f)
    (subst (λ (x : Space → ℕ → Option ℕ). UsedSound limit used x owed evac) (sym e) h)

UsedSound-with_taken : (s : Table) (b : ℕ) (p : Space) (found : Option ℕ) → ((i : ℕ) → found ≡ Some i → least_free s p ≡ Some i) →
    Used s → Used (with_taken s b p found)
UsedSound-with_taken s b p None is h = h
UsedSound-with_taken s b p (Some i) is h =
    let free = least_free-some s p i (is i refl) in UsedSound-take h b p i free.0 free.1 free.2

-- entries after a change that leaves them alone
entries_in-changed : (cycle : Option Cycle) (change : Cycle → Cycle) → ((c : Cycle) → (change c).evac ≡ c.evac) →
    entries_in (option_map change cycle) ≡ entries_in cycle
entries_in-changed None change same = refl
entries_in-changed (Some c) change same = same c

UsedSound-evacuated : (s : Table) (b i number : ℕ) (cycle : Option Cycle) (P : Cycle → Type 0) → IsSomeAnd cycle P → IsTrue (s.owed b External i) →
    UsedSound (limit_of s) s.used (id_at s) s.owed (entries_in cycle) →
    UsedSound (limit_of s) s.used (id_at s) (put_claim s.owed b External i false) (entries_in (evacuated_in cycle i number))
UsedSound-evacuated s b i number None P k mine h = absurd k
UsedSound-evacuated s b i number (Some c) P k mine h = UsedSound-evac h b i number mine

pub UsedSound-row : (s : Table) (b : ℕ) (a : Act) → IsSound s → (row s b a).allowed → IsNoFinish a →
    UsedSound (limit_of (row s b a).next) (row s b a).next.used (id_at (row s b a).next) (row s b a).next.owed (entries_in (row s b a).next.cycle)
UsedSound-row s b (New var) h k _ =
    if_either Used (nat_lt s.count s.sizes.objects) (with_object s b var) s
    (UsedSound-is _ _ refl (entries_in-changed s.cycle (with_birth s.count) (λ c. refl)) h.used) h.used
UsedSound-row s b (Drop var) h k _ = h.used
UsedSound-row s b (Get var spot) h k _ = h.used
UsedSound-row s b (Link spot var) h k _ = with_linked_either Used s spot (object_in s b var) (λ g. h.used) (λ object k. h.used)
UsedSound-row s b (Take p) h k _ = UsedSound-with_taken s b p (least_free s p) (λ i e. e) h.used
UsedSound-row s b (Below start) h k _ = UsedSound-with_taken s b External (free_below s start) (λ i e. free_below-some s start i e) h.used
UsedSound-row s b Abort h k _ = UsedSound-is _ _ refl (entries_in-changed s.cycle with_abort (λ c. refl)) h.used
UsedSound-row s b (Put p i tag value) h k _ =
    UsedSound-is _ _ (id_at-with_cell s b p i tag value) (entries_in-changed s.cycle (with_mark p i) (λ c. refl)) (UsedSound-put h.used b p i s.next k.0)
UsedSound-row s b (Bind f word) h k _ =
    if_either Used (s.words f == 0) (with_bound s b f word) (with_unbound s b f word)
    (UsedSound-is _ _ refl (entries_in-changed s.cycle (with_word f word) (λ c. refl)) h.used) h.used
UsedSound-row s b (Name f) h k _ = h.used
UsedSound-row s b (Look p word first last) h k _ = h.used
UsedSound-row s b (Set word first last value) h k _ =
    UsedSound-is _ _ (id_at-with_value s (index_of word) value) (entries_in-changed s.cycle (with_mark External (index_of word)) (λ c. refl)) h.used
UsedSound-row s b (Swap word first last value) h k _ =
    UsedSound-is _ _ (id_at-with_value s (index_of word) value) (entries_in-changed s.cycle (with_mark External (index_of word)) (λ c. refl)) h.used
UsedSound-row s b (Forge number word) h k _ = UsedSound-is _ _ refl (entries_in-changed s.cycle (with_word (field.External number) word) (λ c. refl)) h.used
UsedSound-row s b (Publish i) h k _ = UsedSound-is _ _ (id_at-with_published s b i) (entries_in-changed s.cycle (with_mark Trusted i) (λ c. refl)) h.used
UsedSound-row s b (Mark p i) h k _ = UsedSound-is _ _ refl (entries_in-changed s.cycle (with_mark p i) (λ c. refl)) h.used
UsedSound-row s b (Evac i number) h k _ = UsedSound-evacuated s b i number s.cycle (λ c. IsOld c (object_of (field.External number))) k.2 k.0 h.used
UsedSound-row s b (Scan o) h k _ = UsedSound-is _ _ refl (entries_in-changed s.cycle (with_scan o) (λ c. refl)) h.used
UsedSound-row s b (Start policy) h k _ = UsedSound-is _ _ refl (sym (ap entries_in k.1)) h.used
UsedSound-row s b Finish h k not = absurd not
