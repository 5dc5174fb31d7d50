-- What printing and reading have to do with each other, and the script of version 2 that says what another says.
use Rattle.std.specs.Prelude.{◌≡◌, Ok}
use Rattle.plain_table.specs.declared.scripts.Script.{Script}
use Rattle.script_reader.specs.Grammar.{script_of}
use Rattle.script_reader.specs.Valid.{IsValidScript}
use Rattle.script_reader.specs.Canonical.{canonical_of}

-- the canonical text of a valid script spells that script
abbrev pub PrintedIsReadBack : Type 0
PrintedIsReadBack = (script : Script) → IsValidScript script → script_of (canonical_of script) ≡ Ok script

-- the same limits and phases, in version 2
abbrev pub upgraded : Script → Script
upgraded script = record script { version = 2 }

-- a valid script is valid in version 2
abbrev pub UpgradedIsValid : Type 0
UpgradedIsValid = (script : Script) → IsValidScript script → IsValidScript (upgraded script)
