-- The header of a script: `ept A seg=K ext=E tru=T objects=N mutators=M markers=R`, with the version A, which is 1 or 2,
-- and six small numbers in their ranges.
use Rattle.std.specs.Prelude.{ℕ, ◌/◌, ◌==◌, nat_le, nat_eq, ◌&&◌, ◌||◌, if◌then◌else◌, Bool, List, [], ◌∷◌, length, codes, drop, Option, Some, None}
use Rattle.std.specs.Option.{option_and_then, option_map}
use Rattle.std.specs.List.{starts_with}
use Rattle.std.specs.Str.{bytes_eq}
use Rattle.plain_table.specs.declared.scripts.Limits.{Limits}
use Rattle.script_reader.specs.declared.header.Header.{Header}
use Rattle.script_reader.specs.Spelling.{words, small_of, when}

-- the small number after a name and `=`
abbrev pub named : List ℕ → List ℕ → Option ℕ
named name word = if starts_with nat_eq word name then small_of (drop (length name) word) else None

-- 4, 16, 64 or 256 entries a segment, and from 1 to 65,536 / seg segments of each space
abbrev pub are_segments : ℕ → ℕ → ℕ → Bool
are_segments seg ext tru =
    (seg == 4 || seg == 16 || seg == 64 || seg == 256)
    && (nat_le 1 ext && nat_le ext (65536 / seg)) && (nat_le 1 tru && nat_le tru (65536 / seg))

-- from 1 to 16,384 objects, from 1 to 8 mutators, and at most 4 markers
abbrev pub are_others : ℕ → ℕ → ℕ → Bool
are_others objects mutators markers =
    (nat_le 1 objects && nat_le objects 16384) && (nat_le 1 mutators && nat_le mutators 8) && nat_le markers 4

-- limits in their ranges
abbrev pub are_limits : Limits → Bool
are_limits l = are_segments l.seg l.ext l.tru && are_others l.objects l.mutators l.markers

-- the limits with these numbers, where they are in their ranges
abbrev pub limits_with : ℕ → ℕ → ℕ → ℕ → ℕ → ℕ → Limits
limits_with k e t n m r = record { seg = k; ext = e; tru = t; objects = n; mutators = m; markers = r }

abbrev pub limits_within : Limits → Option Limits
limits_within limits = if are_limits limits then Some limits else None

-- the six words after the version
abbrev pub limits_of_numbers : List ℕ → List ℕ → List ℕ → List ℕ → List ℕ → List ℕ → Option Limits
limits_of_numbers seg ext tru objects mutators markers =
    option_and_then (λ k. option_and_then (λ e. option_and_then (λ t. option_and_then (λ n. option_and_then (λ m.
    option_and_then (λ r. limits_within (limits_with k e t n m r))
    (named (codes "markers=") markers)) (named (codes "mutators=") mutators)) (named (codes "objects=") objects))
    (named (codes "tru=") tru)) (named (codes "ext=") ext)) (named (codes "seg=") seg)

-- the version is 1 or 2
abbrev pub version_of : List ℕ → Option ℕ
version_of word = option_and_then (λ version. when (version == 1 || version == 2) (Some version)) (small_of word)

abbrev pub header_with : ℕ → Limits → Header
header_with version limits = record { version = version; limits = limits }

abbrev pub header_of_words : List (List ℕ) → Option Header
header_of_words (ept ∷ version ∷ seg ∷ ext ∷ tru ∷ objects ∷ mutators ∷ markers ∷ []) =
    if bytes_eq ept (codes "ept")
    then option_and_then (λ v. option_map (header_with v) (limits_of_numbers seg ext tru objects mutators markers))
    (version_of version)
    else None
header_of_words _ = None

-- what a line says as a header: the version and the limits that it names
abbrev pub header_of : List ℕ → Option Header
header_of line = header_of_words (words line)
