-- Places of the table (an index of a space, a field, a variable or reference, a claim of a number on an index), and
-- what a map says after a change at one of them: the new value there, and the old one everywhere else. Which space and
-- which object a field belongs to is said here too.
use Rattle.std.specs.Prelude.{ℕ, ◌/◌, ◌==◌, Bool, true, false, ◌&&◌, if◌then◌else◌}
use Rattle.plain_table.specs.declared.events.Space.{Space}
use Rattle.plain_table.specs.declared.events.Space.TheVariants.{External, Trusted}
use Rattle.plain_table.specs.declared.events.Field.{Field}
use Rattle.plain_table.specs.declared.events.Field.TheVariants as field

abbrev pub same_space : Space → Space → Bool
same_space External External = true
same_space Trusted Trusted = true
same_space _ _ = false

abbrev pub same_field : Field → Field → Bool
same_field (field.External m) (field.External n) = m == n
same_field (field.Trusted m) (field.Trusted n) = m == n
same_field _ _ = false

-- the space that a field's word names an entry of
abbrev pub space_of : Field → Space
space_of (field.External number) = External
space_of (field.Trusted number) = Trusted

-- the object that has the field: two external fields and one trusted field each
abbrev pub object_of : Field → ℕ
object_of (field.External number) = number / 2
object_of (field.Trusted number) = number

abbrev pub put_at : {A : Type 0} → (ℕ → A) → ℕ → A → ℕ → A
put_at f i x j = if i == j then x else f j

abbrev pub put_pair : {A : Type 0} → (ℕ → ℕ → A) → ℕ → ℕ → A → ℕ → ℕ → A
put_pair f m i x n j = if (m == n) && (i == j) then x else f n j

abbrev pub put_entry : {A : Type 0} → (Space → ℕ → A) → Space → ℕ → A → Space → ℕ → A
put_entry f p i x q j = if same_space p q && (i == j) then x else f q j

abbrev pub put_field : {A : Type 0} → (Field → A) → Field → A → Field → A
put_field f place x other = if same_field place other then x else f other

abbrev pub put_claim : (ℕ → Space → ℕ → Bool) → ℕ → Space → ℕ → Bool → ℕ → Space → ℕ → Bool
put_claim f b p i x c q j = if (b == c) && same_space p q && (i == j) then x else f c q j
