-- Acts other than the finish of a cycle.
use Rattle.plain_table.specs.declared.events.Act.{Act}
use Rattle.plain_table.specs.declared.events.Act.TheVariants.{Finish}

abbrev pub IsNoFinish : Act → Type 0
IsNoFinish Finish = ⊥
IsNoFinish _ = Unit {0}
