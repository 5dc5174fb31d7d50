-- What an abort, a put and a bind leave of the words that they don't write: headers, the count, the phase and the field.
use Rattle.std.proofs.Common.{◌≡◌, ◌≢◌, ℕ, ◌+◌, ◌*◌, ◌%◌, ◌^◌, ◌<◌, ◌≤◌, ◌==◌, Bool, true, false, List, Some, refl, sym, subst, ◌∙◌, inl, inr, arith, get_or-set_other}
use Rattle.std.specs.Prelude.{if◌then◌else◌, Option, slice_index, slice_set}
use Rattle.plain_table.specs.declared.events.Field.{Field}
use Rattle.plain_table.specs.declared.events.Space.{Space}
use Rattle.plain_table.specs.declared.events.Space.TheVariants.{External}
use Rattle.plain_table.specs.declared.reports.Reply.{Reply}
use Rattle.plain_table.specs.Index.{word_of}
use Rattle.plain_table.specs.Table.{Sizes, Table, limit_in}
use Rattle.plain_table.specs.Words.{area_place, count_place, entry_place, field_place, header_place, phase_place}
use Rattle.plain_table.proofs.FreeReads.{least_free-some}
use Rattle.plain_table.proofs.WordPlaces.{entry_place-from, freelist_place-below}
use Rattle.mutator_calls.specs.Inits.{Fills, aborted_by, bound_by, filled_by, is_above, new_word}
use Rattle.mutator_calls.specs.Words.{IsShownAs, TakesIndex}
use Rattle.mutator_calls.proofs.Shares.{KeepsHeaders-field}
use Rattle.mutator_calls.proofs.Written.{KeepsHeaders, KeepsHeaders-same, KeepsHeaders-set, KeepsHeaders-trans}

pub aborted_by-other : (i : ℕ) (words : List ℕ) (place : ℕ) → area_place ≢ place → slice_index (aborted_by i words) place ≡ slice_index words place
aborted_by-other i words place apart = by (is_above (slice_index words area_place) i)
  where
    by : (test : Bool) → slice_index (if test then slice_set words area_place (slice_index words area_place % 2 ^ 32 + 2 ^ 32) else words) place ≡ slice_index words place
    by true = get_or-set_other words area_place place (slice_index words area_place % 2 ^ 32 + 2 ^ 32) 0 (λ e. apart (sym e))
    by false = refl

pub filled_by-low : (sizes : Sizes) (p : Space) (i tag value : ℕ) (words : List ℕ) (place : ℕ) → place < 32 + 8 * sizes.objects →
    slice_index (filled_by sizes p i tag value words) place ≡ slice_index words place
filled_by-low sizes p i tag value words place low =
    get_or-set_other words (entry_place sizes p i) place (new_word p tag value) 0 (λ same. omega (arith, same, low, entry_place-from sizes p i))

-- a field has its word still when it is bound
pub filled_by-field : (sizes : Sizes) (i tag value : ℕ) (old taken : List ℕ) (place : ℕ) (found : Option ℕ) → TakesIndex old taken sizes External found → 37 ≤ place → place < 32 + 8 * sizes.objects →
    slice_index (filled_by sizes External i tag value (aborted_by i taken)) place ≡ slice_index old place
filled_by-field sizes i tag value old taken place found takes from low =
    filled_by-low sizes External i tag value (aborted_by i taken) place low
    ∙ aborted_by-other i taken place (λ e. omega (arith, e, from))
    ∙ takes.rest place low (λ e. omega (arith, e, from))

-- an index that was taken is within the limit
pub index-within : (sizes : Sizes) (p : Space) (old taken : List ℕ) (i : ℕ) (s : Table) → IsShownAs old sizes s → TakesIndex old taken sizes p (Some i) → i < limit_in sizes p
index-within sizes p old taken i s shown takes =
    subst (λ z. i < limit_in z p) shown.same (least_free-some s p i (sym (takes.tables s shown).found_is)).2

-- headers, the count and the phase stay
pub KeepsHeaders-take : (sizes : Sizes) (p : Space) (old taken : List ℕ) (found : Option ℕ) → TakesIndex old taken sizes p found → KeepsHeaders sizes.objects old taken
KeepsHeaders-take sizes p old taken found takes = record {
  headers = λ o few. takes.rest (header_place o) (omega (arith, few)) (λ same. omega (arith, same, freelist_place-below p));
  count = takes.rest count_place (omega arith) (λ same. omega (arith, same, freelist_place-below p));
  phase = takes.rest phase_place (omega arith) (λ same. omega (arith, same, freelist_place-below p));
}

pub KeepsHeaders-abort : (objects i : ℕ) (words : List ℕ) → KeepsHeaders objects words (aborted_by i words)
KeepsHeaders-abort objects i words = record {
  headers = λ o few. aborted_by-other i words (header_place o) (λ same. omega (arith, same));
  count = aborted_by-other i words count_place (λ same. omega (arith, same));
  phase = aborted_by-other i words phase_place (λ same. omega (arith, same));
}

pub KeepsHeaders-put : (sizes : Sizes) (p : Space) (i tag value : ℕ) (words : List ℕ) → KeepsHeaders sizes.objects words (filled_by sizes p i tag value words)
KeepsHeaders-put sizes p i tag value words =
    KeepsHeaders-set sizes.objects words (filled_by sizes p i tag value words) (entry_place sizes p i) (new_word p tag value) refl (let from = entry_place-from sizes p i in omega (arith, from))
    (λ o few same. omega (arith, same, few, entry_place-from sizes p i))

pub KeepsHeaders-bind : (objects w : ℕ) (f : Field) (words : List ℕ) → KeepsHeaders objects words (bound_by (field_place f) w words)
KeepsHeaders-bind objects w f words = by (slice_index words (field_place f) == 0)
  where
    by : (test : Bool) → KeepsHeaders objects words (if test then slice_set words (field_place f) w else words)
    by true = KeepsHeaders-field objects words f w
    by false = KeepsHeaders-same objects words words refl

pub KeepsHeaders-fills : (sizes : Sizes) (f : Field) (tag value : ℕ) (said : Reply) (old now : List ℕ) → Fills old now sizes (field_place f) tag value said →
    KeepsHeaders sizes.objects old now
KeepsHeaders-fills sizes f tag value said old now fills = elim fills [
  | inl full ↦ KeepsHeaders-take sizes External old now _ full.0
  | inr filled ↦
      let i = filled.index in
      let taken = filled.taken in
      let aborted = aborted_by i taken in
      let put = filled_by sizes External i tag value aborted in
      subst (KeepsHeaders sizes.objects old) (sym filled.words)
      (KeepsHeaders-trans sizes.objects old taken (bound_by (field_place f) (word_of i) put) (KeepsHeaders-take sizes External old taken (Some i) filled.takes)
      (KeepsHeaders-trans sizes.objects taken aborted (bound_by (field_place f) (word_of i) put) (KeepsHeaders-abort sizes.objects i taken)
      (KeepsHeaders-trans sizes.objects aborted put (bound_by (field_place f) (word_of i) put) (KeepsHeaders-put sizes External i tag value aborted) (KeepsHeaders-bind sizes.objects (word_of i) f put))))
]
