-- What a session saw: words of fields, and what references hold.
use Rattle.std.specs.Prelude.{◌≡◌, ◌≢◌, ℕ, List, Option, IsTrue, IsSome}
use Rattle.plain_table.specs.declared.events.Event.{Event}
use Rattle.plain_table.specs.declared.events.Field.{Field}
use Rattle.plain_table.specs.declared.events.Field.TheVariants as field
use Rattle.plain_table.specs.declared.events.Space.TheVariants.{Trusted}
use Rattle.plain_table.specs.History.{after}
use Rattle.plain_table.specs.Index.{index_of}
use Rattle.plain_table.specs.Places.{space_of}
use Rattle.plain_table.specs.Scans.{IsReadConcurrently}
use Rattle.plain_table.specs.Table.{Table, limit_in}
use Rattle.entry_base.specs.declared.view.Fact.TheVariants as fact
use Rattle.entry_base.specs.declared.view.Opening.{Opening}
use Rattle.entry_base.specs.declared.view.View.{View}
use Rattle.entry_base.specs.Lists.{Has}
use Rattle.entry_base.specs.Openings.{IsBase, sizes_in}
use Rattle.mark_rule.specs.Marking.{is_out}

-- the view saw the word in the field of an object of its hands: it stood there in this cycle, whichever table the phase began in;
-- and where the word can name no cell, there is nothing to mark or to move for it
pub record Saw (v : View) (f : Field) (w : ℕ) : Type 0 where
  pub read : Has v.facts (fact.Read f w)
  pub touched : w ≢ 0 → Has v.facts (fact.Touched f w)
  pub out : IsTrue (is_out (limit_in (sizes_in v.opening) (space_of f)) w) → Has v.facts (fact.Visited (space_of f) (index_of w)) × Has v.facts (fact.Placed f w)
  pub stood : (b : Table) → IsBase v.opening b → IsReadConcurrently (after b v.seen) f w

-- the view saw the word, which isn't 0, in the trusted field of an object, in this cycle: a cell stands at its index
pub record SawShared (v : View) (o w : ℕ) : Type 0 where
  pub touched : Has v.facts (fact.Touched (field.Trusted o) w)
  pub stands : (b : Table) → IsBase v.opening b → IsSome ((after b v.seen).cells Trusted (index_of w))

-- a reference holds an object, or nothing, at this moment
abbrev pub RefersTo : Opening → List Event → ℕ → ℕ → Option ℕ → Type 0
RefersTo key h o k held = (b : Table) → IsBase key b → (after b h).refs o k ≡ held
