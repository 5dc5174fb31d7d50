-- What a `State` keeps: its limits, the entries of its maps and sets, its two counts, what it keeps of a cycle, and
-- whether it is spent; and the plain table that these show. Of a cycle it keeps what the cycle has, and of its start a
-- copy of the objects and words of that moment.
use Rattle.std.specs.Prelude.{◌≡◌, ℕ, ◌-◌, ◌^◌, Bool, false, List, Option, None}
use Rattle.std.specs.Option.{option_map}
use Rattle.plain_table.specs.declared.scripts.Limits.{Limits}
use Rattle.plain_table.specs.declared.events.Act.{Act}
use Rattle.plain_table.specs.declared.events.Act.TheVariants.{Put}
use Rattle.plain_table.specs.declared.events.Cell.{Cell}
use Rattle.plain_table.specs.declared.events.Space.{Space}
use Rattle.plain_table.specs.declared.events.Space.TheVariants.{External, Trusted}
use Rattle.plain_table.specs.declared.events.Field.{Field}
use Rattle.plain_table.specs.declared.events.Field.TheVariants as field
use Rattle.plain_program.specs.Entries.{at, at_pair, has, has_pair, word_at}
use Rattle.plain_table.specs.Cycle.{Cycle}
use Rattle.plain_table.specs.Table.{Table}

-- the objects and words at the start of a cycle
pub record KeptOrigin : Type 0 where
  -- references by object and number, variables by mutator and number
  pub references : List ((ℕ × ℕ) × ℕ)
  pub globals : List (ℕ × ℕ)
  pub variables : List ((ℕ × ℕ) × ℕ)
  pub external_words : List (ℕ × ℕ)
  pub trusted_words : List (ℕ × ℕ)

-- what is kept of a cycle
pub record KeptCycle : Type 0 where
  pub start : Option ℕ
  pub aborted : Bool
  pub external_marks : List ℕ
  pub trusted_marks : List ℕ
  -- the field of each evacuation entry, and the fields that have one
  pub entries : List (ℕ × ℕ)
  pub visited : List ℕ
  pub born : List ℕ
  pub scans : List ℕ
  -- pairs of a field's number and a word
  pub external_came : List (ℕ × ℕ)
  pub trusted_came : List (ℕ × ℕ)
  pub origin : KeptOrigin

pub record Kept : Type 0 where
  pub limits : Limits
  pub external_cells : List (ℕ × Cell)
  pub trusted_cells : List (ℕ × Cell)
  pub external_used : List ℕ
  pub trusted_used : List ℕ
  -- the claims of a space are pairs of a number and an index
  pub external_owed : List (ℕ × ℕ)
  pub trusted_owed : List (ℕ × ℕ)
  pub external_fresh : List (ℕ × ℕ)
  pub trusted_fresh : List (ℕ × ℕ)
  -- a field that is not named here holds the word 0
  pub external_words : List (ℕ × ℕ)
  pub trusted_words : List (ℕ × ℕ)
  pub external_bound : List (ℕ × ℕ)
  pub trusted_bound : List (ℕ × ℕ)
  pub tickets : List (ℕ × ℕ)
  -- the references by object and number, and the variables by mutator and number
  pub references : List ((ℕ × ℕ) × ℕ)
  pub globals : List (ℕ × ℕ)
  pub variables : List ((ℕ × ℕ) × ℕ)
  pub cycle : Option KeptCycle
  pub count : ℕ
  pub next : ℕ
  pub spent : Bool

-- one of two maps, by the space or by the field
abbrev pub by_space : {A : Type 0} → (ℕ → A) → (ℕ → A) → Space → ℕ → A
by_space external trusted External i = external i
by_space external trusted Trusted i = trusted i

abbrev pub by_field : {A : Type 0} → (ℕ → A) → (ℕ → A) → Field → A
by_field external trusted (field.External number) = external number
by_field external trusted (field.Trusted number) = trusted number

abbrev pub shown_cycle : KeptCycle → Cycle
shown_cycle k = record {
  start = k.start;
  aborted = k.aborted;
  marks = by_space (has k.external_marks) (has k.trusted_marks);
  evac = at k.entries;
  visited = has k.visited;
  born = has k.born;
  scans = has k.scans;
  came = by_field (has_pair k.external_came) (has_pair k.trusted_came);
  refs = at_pair k.origin.references;
  globals = at k.origin.globals;
  vars = at_pair k.origin.variables;
  words = by_field (word_at k.origin.external_words) (word_at k.origin.trusted_words);
}

-- a cycle that starts with this area over these objects and words
abbrev pub begun : Option ℕ → KeptOrigin → Cycle
begun start origin = record {
  start = start;
  aborted = false;
  marks = λ p i. false;
  evac = λ i. None;
  visited = λ number. false;
  born = λ o. false;
  scans = λ o. false;
  came = λ f w. false;
  refs = at_pair origin.references;
  globals = at origin.globals;
  vars = at_pair origin.variables;
  words = by_field (word_at origin.external_words) (word_at origin.trusted_words);
}

-- the plain table that a state shows
abbrev pub shown : Kept → Table
shown k = record {
  sizes = record { seg = k.limits.seg; ext = k.limits.ext; tru = k.limits.tru; objects = k.limits.objects };
  cells = by_space (at k.external_cells) (at k.trusted_cells);
  used = by_space (has k.external_used) (has k.trusted_used);
  owed = λ b. by_space (has_pair k.external_owed b) (has_pair k.trusted_owed b);
  fresh = λ b. by_space (has_pair k.external_fresh b) (has_pair k.trusted_fresh b);
  words = by_field (word_at k.external_words) (word_at k.trusted_words);
  bound = by_field (at k.external_bound) (at k.trusted_bound);
  ticket = at k.tickets;
  refs = at_pair k.references;
  globals = at k.globals;
  vars = at_pair k.variables;
  count = k.count;
  next = k.next;
  cycle = option_map shown_cycle k.cycle;
}

-- a put that finds no further id
abbrev pub IsLastPut : Kept → Act → Type 0
IsLastPut k (Put p i tag value) = k.next ≡ 2 ^ 64 - 1
IsLastPut k _ = ⊥
