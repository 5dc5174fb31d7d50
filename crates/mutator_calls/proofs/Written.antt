-- A mutator with other words, of which headers, the count and the phase are the same, and with other pending cells: what its
-- cycle keeps, that it is ready, and that it hands over what it handed over.
use Rattle.std.proofs.Common.{◌≡◌, ◌≢◌, ℕ, ◌<◌, ◌≤◌, List, slice_index, slice_set, Option, refl, ap, ◌∙◌, arith, get_or-set_other}
use Rattle.std.specs.Global.{Vec}
use Rattle.plain_table.specs.declared.events.Event.{Event}
use Rattle.plain_table.specs.declared.scripts.Op.{Op}
use Rattle.plain_table.specs.declared.reports.Reply.{Reply}
use Rattle.plain_table.specs.Table.{Table, Sizes}
use Rattle.plain_table.specs.Words.{count_place, header_place, phase_place}
use Rattle.plain_table.specs.History.{IsLegalHistory, after}
use Rattle.plain_table.specs.Shows.{IsLawful}
use Rattle.entry_word.specs.declared.image.Pending.{Pending}
use Rattle.entry_word.specs.Image.{image_of}
use Rattle.mutator_calls.specs.declared.heap.Mutator.{Mutator}
use Rattle.mutator_calls.specs.Calls.{HandsOver, IsReady, MakesEach, Sees}
use Rattle.mutator_calls.proofs.Kept.{AreDuringPhase, HandsOver-after, IsKept, IsLawful-made, IsReady-kept}

abbrev pub with_words : Mutator → Vec ℕ → Mutator
with_words m words = record m { image = record m.image { words = words } }

-- the words of headers, of the count and of the phase are the same
pub record KeepsHeaders (objects : ℕ) (old now : List ℕ) : Type 0 where
  pub headers : (o : ℕ) → o < objects → slice_index now (header_place o) ≡ slice_index old (header_place o)
  pub count : slice_index now count_place ≡ slice_index old count_place
  pub phase : slice_index now phase_place ≡ slice_index old phase_place

pub KeepsHeaders-same : (objects : ℕ) (old now : List ℕ) → now ≡ old → KeepsHeaders objects old now
KeepsHeaders-same objects old now is = record {
  headers = λ o few. ap (λ (ws : List ℕ). slice_index ws (header_place o)) is;
  count = ap (λ (ws : List ℕ). slice_index ws count_place) is;
  phase = ap (λ (ws : List ℕ). slice_index ws phase_place) is;
}

-- one word is changed that is none of these
pub KeepsHeaders-set : (objects : ℕ) (old now : List ℕ) (place w : ℕ) → now ≡ slice_set old place w → 32 ≤ place →
    ((o : ℕ) → o < objects → header_place o ≢ place) → KeepsHeaders objects old now
KeepsHeaders-set objects old now place w is from apart = record {
  headers = λ o few. stays (header_place o) (apart o few);
  count = stays count_place (λ e. omega (arith, e, from));
  phase = stays phase_place (λ e. omega (arith, e, from));
}
  where
    stays : (other : ℕ) → other ≢ place → slice_index now other ≡ slice_index old other
    stays other differs = ap (λ (ws : List ℕ). slice_index ws other) is ∙ get_or-set_other old place other w 0 differs

pub KeepsHeaders-trans : (objects : ℕ) (a b c : List ℕ) → KeepsHeaders objects a b → KeepsHeaders objects b c → KeepsHeaders objects a c
KeepsHeaders-trans objects a b c one two = record {
  headers = λ o few. two.headers o few ∙ one.headers o few;
  count = two.count ∙ one.count;
  phase = two.phase ∙ one.phase;
}

-- the objects that are made are within the limit
pub count-few : (m : Mutator) → IsReady m → slice_index m.image.words.items count_place ≤ m.image.shape.objects
count-few m ready =
    let count = ready.lawful.2.words.count in
    let few = ready.lawful.1.objects.few in
    let most : ready.lawful.0.sizes.objects ≡ m.image.shape.objects = ap (λ (z : Sizes). z.objects) ready.lawful.2.sizes in
    omega (arith, count, few, most)

module _ (m : Mutator) (words : Vec ℕ) (keeps : KeepsHeaders m.image.shape.objects m.image.words.items words.items) where
  pub IsKept-words : IsKept m (with_words m words)
  IsKept-words = record { shape = refl; list = refl; listed = refl; area = refl; headers = keeps.headers; phase = keeps.phase }

  pub IsReady-words : IsReady m → IsLawful (image_of (with_words m words).image) → IsReady (with_words m words)
  IsReady-words ready lawful = IsReady-kept m (with_words m words) IsKept-words keeps.count (count-few m ready) ready lawful

-- the mutator with other words and pending cells
abbrev pub with_parts : Mutator → Vec ℕ → Vec (Option Pending) → Mutator
with_parts m words pending = record m { image = record m.image { words = words; pending = pending } }

module _ (m : Mutator) (words : Vec ℕ) (pending : Vec (Option Pending)) (keeps : KeepsHeaders m.image.shape.objects m.image.words.items words.items) where
  IsKept-parts : IsKept m (with_parts m words pending)
  IsKept-parts = record { shape = refl; list = refl; listed = refl; area = refl; headers = keeps.headers; phase = keeps.phase }

  pub IsReady-parts : (call : Op) (said : Reply) → IsReady m → MakesEach m (with_parts m words pending) call said → IsReady (with_parts m words pending)
  IsReady-parts call said ready makes =
      IsReady-kept m (with_parts m words pending) IsKept-parts keeps.count (count-few m ready) ready
      (IsLawful-made m (with_parts m words pending) call said ready makes)

  pub HandsOver-parts : (linked : List ℕ) (s : Table) (es : List Event) → Sees (image_of m.image) s → IsLegalHistory s es → AreDuringPhase es →
      HandsOver m linked s → HandsOver (with_parts m words pending) linked (after s es)
  HandsOver-parts linked s es h legal during =
      HandsOver-after m (with_parts m words pending) IsKept-parts linked s es h.sound (ap (λ (z : Sizes). z.objects) h.shows.sizes) legal during
