-- The canonical text of a script: the header, and for each phase the operations of mutator 0, of mutator 1 and so on,
-- a line each, and then the line of its meet.
use Rattle.std.specs.Prelude.{ℕ, zero, suc, false, ◌+◌, ◌/◌, ◌%◌, ◌==◌, if◌then◌else◌, List, [], ◌∷◌, ◌++◌, Option, Some, None, codes}
use Rattle.std.specs.List.{flat_map}
use Rattle.std.specs.Fmt.{decimal, digit_glyph}
use Rattle.plain_table.specs.declared.scripts.Limits.{Limits}
use Rattle.plain_table.specs.declared.scripts.Op.{Op}
use Rattle.plain_table.specs.declared.scripts.Op.TheVariants as op
use Rattle.plain_table.specs.declared.scripts.Meet.{Meet}
use Rattle.plain_table.specs.declared.scripts.Meet.TheVariants.{Plain, Start, Finish, End}
use Rattle.plain_table.specs.declared.scripts.Policy.{Policy}
use Rattle.plain_table.specs.declared.scripts.Policy.TheVariants.{Auto, Always, Never}
use Rattle.plain_table.specs.declared.scripts.Phase.{Phase}
use Rattle.plain_table.specs.declared.scripts.Script.{Script}

-- the last k hexadecimal digits of a number, in lower case (unfolded only where it is read back or written)
unfoldable pub hex : ℕ → ℕ → List ℕ
hex zero n = []
hex (suc k) n = hex k (n / 16) ++ digit_glyph false (n % 16) ∷ []

-- the words of places: a variable's letter, a target, a tag, a range of tags, an index word and a value
abbrev pub letter : ℕ → List ℕ
letter v = (97 + v) ∷ []

abbrev pub target_word : Option ℕ → List ℕ
target_word None = codes "-"
target_word (Some v) = letter v

abbrev pub tag_word : ℕ → List ℕ
tag_word t = hex 2 t

abbrev pub range_word : ℕ → ℕ → List ℕ
range_word first last = if first == last then tag_word first else tag_word first ++ codes "-" ++ tag_word last

abbrev pub index_word : ℕ → List ℕ
index_word w = hex 8 w

abbrev pub value_word : ℕ → List ℕ
value_word x = hex 12 x

-- the words of an operation
abbrev pub op_words : Op → List (List ℕ)
op_words (op.New v) = codes "new" ∷ letter v ∷ []
op_words (op.Drop v) = codes "drop" ∷ letter v ∷ []
op_words (op.Link v k t) = codes "link" ∷ letter v ∷ decimal k ∷ target_word t ∷ []
op_words (op.Fetch u v k) = codes "fetch" ∷ letter u ∷ letter v ∷ decimal k ∷ []
op_words (op.SetG g t) = codes "setg" ∷ decimal g ∷ target_word t ∷ []
op_words (op.GetG v g) = codes "getg" ∷ letter v ∷ decimal g ∷ []
op_words (op.Init v f t x) = codes "init" ∷ letter v ∷ decimal f ∷ tag_word t ∷ value_word x ∷ []
op_words (op.Load v f first last) = codes "load" ∷ letter v ∷ decimal f ∷ range_word first last ∷ []
op_words (op.Store v f first last x) = codes "store" ∷ letter v ∷ decimal f ∷ range_word first last ∷ value_word x ∷ []
op_words (op.Swap v f first last x) = codes "swap" ∷ letter v ∷ decimal f ∷ range_word first last ∷ value_word x ∷ []
op_words (op.Name v f) = codes "name" ∷ letter v ∷ decimal f ∷ []
op_words (op.Forge v f w) = codes "forge" ∷ letter v ∷ decimal f ∷ index_word w ∷ []
op_words (op.Raw w first last) = codes "raw" ∷ index_word w ∷ range_word first last ∷ []
op_words (op.RawSet w first last x) = codes "rawset" ∷ index_word w ∷ range_word first last ∷ value_word x ∷ []
op_words (op.TNew v t x) = codes "tnew" ∷ letter v ∷ tag_word t ∷ value_word x ∷ []
op_words (op.TPub v) = codes "tpub" ∷ letter v ∷ []
op_words (op.TLoad v first last) = codes "tload" ∷ letter v ∷ range_word first last ∷ []
op_words (op.TRaw w first last) = codes "traw" ∷ index_word w ∷ range_word first last ∷ []
op_words (op.Share v u) = codes "share" ∷ letter v ∷ letter u ∷ []

-- words, each after a space
abbrev pub spaced : List (List ℕ) → List ℕ
spaced words = flat_map (λ word. 32 ∷ word) words

-- the line of an operation of mutator m, and those of several
abbrev pub op_line : ℕ → Op → List ℕ
op_line m op = (codes "m" ++ decimal m) ++ spaced (op_words op) ++ codes "\n"

abbrev pub ops_text : ℕ → List Op → List ℕ
ops_text m ops = flat_map (op_line m) ops

-- those of mutator m, of the next one and so on
abbrev pub lists_text : ℕ → List (List Op) → List ℕ
lists_text m [] = []
lists_text m (ops ∷ lists) = ops_text m ops ++ lists_text (m + 1) lists

-- the line of a meet
abbrev pub policy_word : Policy → List ℕ
policy_word Auto = codes "auto"
policy_word Always = codes "always"
policy_word Never = codes "never"

abbrev pub meet_text : Meet → List ℕ
meet_text Plain = codes "meet\n"
meet_text (Start policy) = codes "start " ++ policy_word policy ++ codes "\n"
meet_text Finish = codes "finish\n"
meet_text End = codes "end\n"

-- the lines of a phase
abbrev pub phase_text : Phase → List ℕ
phase_text phase = lists_text 0 phase.calls ++ meet_text phase.meet

-- the header
abbrev pub header_words : ℕ → Limits → List (List ℕ)
header_words version l =
    decimal version ∷ (codes "seg=" ++ decimal l.seg) ∷ (codes "ext=" ++ decimal l.ext) ∷ (codes "tru=" ++ decimal l.tru)
    ∷ (codes "objects=" ++ decimal l.objects) ∷ (codes "mutators=" ++ decimal l.mutators)
    ∷ (codes "markers=" ++ decimal l.markers) ∷ []

abbrev pub header_text : ℕ → Limits → List ℕ
header_text version l = codes "ept" ++ spaced (header_words version l) ++ codes "\n"

-- the canonical text
abbrev pub canonical_of : Script → List ℕ
canonical_of s = header_text s.version s.limits ++ flat_map phase_text s.phases
