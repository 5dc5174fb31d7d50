-- The forms of operations: the name of each form, its places, what a word says at a place or why it says nothing
-- there, and the operation that the places say. One row a form in each table.
use Rattle.std.specs.Prelude.{ℕ, nat_lt, nat_le, if◌then◌else◌, List, [], ◌∷◌, codes, Option, Some, None, Result, Ok, Err}
use Rattle.std.specs.Option.{option_map}
use Rattle.std.specs.Str.{bytes_eq}
use Rattle.plain_table.specs.declared.scripts.Op.{Op}
use Rattle.plain_table.specs.declared.scripts.Op.TheVariants as op
use Rattle.script_reader.specs.declared.refusals.Fault.{Fault}
use Rattle.script_reader.specs.declared.refusals.Fault.TheVariants.{BadLine, BadTag, BadNumber, OutOfRange, BadMeet, TooMany}
use Rattle.script_reader.specs.declared.forms.Form.{Form}
use Rattle.script_reader.specs.declared.forms.Form.TheVariants as form
use Rattle.script_reader.specs.declared.forms.Place.{Place}
use Rattle.script_reader.specs.declared.forms.Place.TheVariants as place
use Rattle.script_reader.specs.declared.forms.Said.{Said}
use Rattle.script_reader.specs.Spelling.{variable_of, small_of, tag_of, range_of, index_word_of, value_of}

-- the names
abbrev pub form_of : List ℕ → Option Form
form_of name =
    if bytes_eq name (codes "new") then Some form.New
    else (if bytes_eq name (codes "drop") then Some form.Drop
    else (if bytes_eq name (codes "link") then Some form.Link
    else (if bytes_eq name (codes "fetch") then Some form.Fetch
    else (if bytes_eq name (codes "setg") then Some form.SetG
    else (if bytes_eq name (codes "getg") then Some form.GetG
    else (if bytes_eq name (codes "init") then Some form.Init
    else (if bytes_eq name (codes "load") then Some form.Load
    else (if bytes_eq name (codes "store") then Some form.Store
    else (if bytes_eq name (codes "swap") then Some form.Swap
    else (if bytes_eq name (codes "name") then Some form.Name
    else (if bytes_eq name (codes "forge") then Some form.Forge
    else (if bytes_eq name (codes "raw") then Some form.Raw
    else (if bytes_eq name (codes "rawset") then Some form.RawSet
    else (if bytes_eq name (codes "tnew") then Some form.TNew
    else (if bytes_eq name (codes "tpub") then Some form.TPub
    else (if bytes_eq name (codes "tload") then Some form.TLoad
    else (if bytes_eq name (codes "traw") then Some form.TRaw
    else (if bytes_eq name (codes "share") then Some form.Share
    else None))))))))))))))))))

-- the places after the name. A form's second variable is `Other`; a target is a variable or `-`; a reference is a
-- small number below 4, a field one below 2, and a global one below 16
abbrev pub places_of : Form → List Place
places_of form.New = place.Variable ∷ []
places_of form.Drop = place.Variable ∷ []
places_of form.Link = place.Variable ∷ place.Reference ∷ place.Target ∷ []
places_of form.Fetch = place.Variable ∷ place.Other ∷ place.Reference ∷ []
places_of form.SetG = place.Global ∷ place.Target ∷ []
places_of form.GetG = place.Variable ∷ place.Global ∷ []
places_of form.Init = place.Variable ∷ place.Field ∷ place.Tag ∷ place.Value ∷ []
places_of form.Load = place.Variable ∷ place.Field ∷ place.Range ∷ []
places_of form.Store = place.Variable ∷ place.Field ∷ place.Range ∷ place.Value ∷ []
places_of form.Swap = place.Variable ∷ place.Field ∷ place.Range ∷ place.Value ∷ []
places_of form.Name = place.Variable ∷ place.Field ∷ []
places_of form.Forge = place.Variable ∷ place.Field ∷ place.Word ∷ []
places_of form.Raw = place.Word ∷ place.Range ∷ []
places_of form.RawSet = place.Word ∷ place.Range ∷ place.Value ∷ []
places_of form.TNew = place.Variable ∷ place.Tag ∷ place.Value ∷ []
places_of form.TPub = place.Variable ∷ []
places_of form.TLoad = place.Variable ∷ place.Range ∷ []
places_of form.TRaw = place.Word ∷ place.Range ∷ []
places_of form.Share = place.Variable ∷ place.Other ∷ []

-- the operation of a form whose places say this
abbrev pub op_of : Form → Said → Op
op_of form.New s = op.New s.variable
op_of form.Drop s = op.Drop s.variable
op_of form.Link s = op.Link s.variable s.reference s.target
op_of form.Fetch s = op.Fetch s.variable s.other s.reference
op_of form.SetG s = op.SetG s.global s.target
op_of form.GetG s = op.GetG s.variable s.global
op_of form.Init s = op.Init s.variable s.field s.tag s.value
op_of form.Load s = op.Load s.variable s.field s.first s.last
op_of form.Store s = op.Store s.variable s.field s.first s.last s.value
op_of form.Swap s = op.Swap s.variable s.field s.first s.last s.value
op_of form.Name s = op.Name s.variable s.field
op_of form.Forge s = op.Forge s.variable s.field s.word
op_of form.Raw s = op.Raw s.word s.first s.last
op_of form.RawSet s = op.RawSet s.word s.first s.last s.value
op_of form.TNew s = op.TNew s.variable s.tag s.value
op_of form.TPub s = op.TPub s.variable
op_of form.TLoad s = op.TLoad s.variable s.first s.last
op_of form.TRaw s = op.TRaw s.word s.first s.last
op_of form.Share s = op.Share s.variable s.other

-- a result's value changed
abbrev pub mapped : {A B : Type 0} → (A → B) → Result A Fault → Result B Fault
mapped f (Ok x) = Ok (f x)
mapped f (Err fault) = Err fault

-- what is said where a word has its spelling, and the fault where it has not
abbrev pub spelled : {A : Type 0} → Fault → Option A → (A → Said) → Result Said Fault
spelled fault None said = Err fault
spelled fault (Some x) said = Ok (said x)

-- a small number below a bound
abbrev pub number_below : ℕ → Option ℕ → Result ℕ Fault
number_below bound None = Err BadNumber
number_below bound (Some n) = if nat_lt n bound then Ok n else Err OutOfRange

abbrev pub ranged : ℕ → Option ℕ → (ℕ → Said) → Result Said Fault
ranged bound number said = mapped said (number_below bound number)

-- `-`, or a variable
abbrev pub target_of : List ℕ → Option (Option ℕ)
target_of word = if bytes_eq word (codes "-") then Some None else option_map Some (variable_of word)

-- what a word of a script of this version says at a place, besides what the other places say
abbrev pub read_at : ℕ → Place → List ℕ → Said → Result Said Fault
read_at version place.Variable word s = spelled BadLine (variable_of word) (λ v. record s { variable = v })
read_at version place.Other word s = spelled BadLine (variable_of word) (λ v. record s { other = v })
read_at version place.Target word s = spelled BadLine (target_of word) (λ t. record s { target = t })
read_at version place.Tag word s = spelled BadTag (tag_of version word) (λ t. record s { tag = t })
read_at version place.Range word s =
    spelled BadTag (range_of version word) (λ r. record s { first = r.first; last = r.last })
read_at version place.Word word s = spelled BadNumber (index_word_of word) (λ w. record s { word = w })
read_at version place.Value word s = spelled BadNumber (value_of word) (λ x. record s { value = x })
read_at version place.Reference word s = ranged 4 (small_of word) (λ k. record s { reference = k })
read_at version place.Field word s = ranged 2 (small_of word) (λ f. record s { field = f })
read_at version place.Global word s = ranged 16 (small_of word) (λ g. record s { global = g })

-- the mutator's number is below the number of mutators
abbrev pub read_mutator : ℕ → List ℕ → Said → Result Said Fault
read_mutator mutators word s = ranged mutators (small_of word) (λ m. record s { mutator = m })

-- the order in which the faults of a line are tested
abbrev pub order : Fault → ℕ
order BadLine = 1
order BadTag = 2
order BadNumber = 3
order OutOfRange = 4
order BadMeet = 5
order TooMany = 6

-- of a place's fault and the one of the places after it, where they have one, the one that is tested first
abbrev pub first_of : Fault → Result Said Fault → Fault
first_of fault (Ok said) = fault
first_of fault (Err other) = if nat_le (order fault) (order other) then fault else other

-- what one place says, and then those after it
abbrev pub read_on : Result Said Fault → Said → (Said → Result Said Fault) → Result Said Fault
read_on (Ok said) before onward = onward said
read_on (Err fault) before onward = Err (first_of fault (onward before))

-- what the words at these places say, just as many: each place's fault counts, and the one tested first is the answer
abbrev pub read_places : ℕ → List Place → List (List ℕ) → Said → Result Said Fault
read_places version [] [] s = Ok s
read_places version (place ∷ places) (word ∷ words) s =
    read_on (read_at version place word s) s (read_places version places words)
read_places version _ _ s = Err BadLine

-- before any place is read: no place of an operation is left so, since each form reads the places that it has
abbrev pub nothing_said : Said
nothing_said = record {
  mutator = 0;
  variable = 0;
  other = 0;
  target = None;
  reference = 0;
  field = 0;
  global = 0;
  tag = 15;
  first = 15;
  last = 15;
  word = 0;
  value = 0;
}
