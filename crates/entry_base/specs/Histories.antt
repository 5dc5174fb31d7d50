-- What a contract says of a history that a session has seen, and of the facts that the session knows: they are true of the
-- table after it, from whichever table the phase began in.
use Rattle.std.specs.Prelude.{◌≡◌, List}
use Rattle.plain_table.specs.declared.events.Event.{Event}
use Rattle.plain_table.specs.Cycle.{start_in}
use Rattle.plain_table.specs.History.{IsLegalHistory, after}
use Rattle.plain_table.specs.Sound.{IsSound}
use Rattle.plain_table.specs.Table.{Table}
use Rattle.plain_table.specs.Words.{phase_word}
use Rattle.entry_base.specs.declared.view.Fact.{Fact}
use Rattle.entry_base.specs.declared.view.Opening.{Opening}
use Rattle.entry_base.specs.Facts.{TableKnows}
use Rattle.entry_base.specs.Lists.{Each}
use Rattle.entry_base.specs.Numbers.{IsPhaseEvent}
use Rattle.entry_base.specs.Openings.{IsBase, phase_of, sizes_in, start_of}

-- a history of the phase: legal from each table that the phase may have begun in, by numbers up to 12, and with neither the
-- start nor the finish of a cycle
pub record IsPhaseHistory (key : Opening) (h : List Event) : Type 0 where
  pub legal : (b : Table) → IsBase key b → IsLegalHistory b h
  pub events : Each IsPhaseEvent h

-- the facts are true of a table, which is sound, and in the phase of the opening
pub record AreTrueOf (key : Opening) (facts : List Fact) (s : Table) : Type 0 where
  pub sizes : s.sizes ≡ sizes_in key
  pub sound : IsSound s
  pub phase : phase_word s.cycle ≡ phase_of key
  pub start : start_in s.cycle ≡ start_of key
  pub knows : Each (TableKnows s) facts

-- and so of the table after the history
abbrev pub AreTrueAfter : Opening → List Event → List Fact → Type 0
AreTrueAfter key h facts = (b : Table) → IsBase key b → AreTrueOf key facts (after b h)
