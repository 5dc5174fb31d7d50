-- The steps of a `State`: it makes an event exactly where that is legal in the table that it shows, and shows the next
-- table then; it takes no other event. A state that is spent, for want of memory or of a further id, makes none any
-- more.
use Rattle.std.specs.Prelude.{◌≡◌, Bool, true, false}
use Rattle.plain_table.specs.declared.events.Event.{Event}
use Rattle.plain_table.specs.History.{IsLegal, next}
use Rattle.plain_program.specs.Kept.{Kept, shown, IsLastPut}

-- what a state makes of an event: the next table where it is legal, and nothing where it is not
abbrev pub Steps : Bool → Kept → Kept → Event → Type 0
Steps true old new e = IsLegal (shown old) e × (shown new ≡ next (shown old) e) × (new.spent ≡ old.spent)
Steps false old new e = (IsLegal (shown old) e → ⊥) × (new ≡ old)

-- a state can make an event: it is not spent, the event is legal, and there is an id for it
abbrev pub CanStep : Kept → Event → Type 0
CanStep k e = (k.spent ≡ false) × IsLegal (shown k) e × (IsLastPut k e.act → ⊥)
