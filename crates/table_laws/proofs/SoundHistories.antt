-- Soundness over histories: each table after a legal history of a sound table is sound, and so is each one after a
-- legal history of an opening.
use Rattle.std.specs.Prelude.{List, [], ◌∷◌}
use Rattle.plain_table.specs.declared.events.Event.{Event}
use Rattle.plain_table.specs.Table.{Table, opening}
use Rattle.plain_table.specs.History.{IsLegalHistory, next, after}
use Rattle.plain_table.specs.Sound.{IsSound}
use Rattle.plain_table.specs.Openings.{OpeningsAreSound}
use Rattle.table_laws.specs.Laws.{EventsKeepSoundness, HistoriesAreSound}

pub IsSound-after : EventsKeepSoundness → (es : List Event) (s : Table) → IsSound s → IsLegalHistory s es → IsSound (after s es)
IsSound-after keeps [] s sound legal = sound
IsSound-after keeps (e ∷ es) s sound legal = IsSound-after keeps es (next s e) (keeps s e sound legal.0) legal.1

pub histories-sound : EventsKeepSoundness → OpeningsAreSound → HistoriesAreSound
histories-sound keeps opens limits es range legal = IsSound-after keeps es (opening limits) (opens limits range) legal
