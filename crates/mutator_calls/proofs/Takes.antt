-- A take from the freelist of a space: what its word tells, what a pop of the head leaves, and that a commit of the next
-- segment changes no table.
use Rattle.std.proofs.Common.{◌≡◌, ◌≢◌, ℕ, ◌+◌, ◌-◌, ◌/◌, ◌%◌, ◌^◌, ◌<◌, ◌≤◌, List, length, slice_index, slice_set, Option, Some, None, refl, sym, ap, subst, ◌∙◌, arith, length-set, get_or-set_other}
use Rattle.std.specs.Option.{option_map_or}
use Rattle.plain_table.specs.declared.events.Act.TheVariants.{Take}
use Rattle.plain_table.specs.declared.events.Space.{Space}
use Rattle.plain_table.specs.declared.reports.Reply.TheVariants as reply
use Rattle.plain_table.specs.Table.{Table, Sizes, limit_in, limit_of, least_free}
use Rattle.plain_table.specs.Words.{entry_place, free_word, freelist_place, freelist_word, header_place, next_free, words_in_all}
use Rattle.plain_table.specs.Rows.{with_taken}
use Rattle.plain_table.specs.Shapes.{event}
use Rattle.plain_table.specs.History.{IsLegal}
use Rattle.plain_table.specs.Shows.{Image, Shows}
use Rattle.plain_table.proofs.FreeReads.{least_free-some, next_free-le}
use Rattle.plain_table.proofs.WordPlaces.{freelist_place-below}
use Rattle.free_chain.specs.Chain.{link_of}
use Rattle.word_laws.specs.Small.{AreSmall}
use Rattle.word_laws.specs.WordLaws.{FreelistTells}
use Rattle.word_laws.specs.SegmentLaws.{IsCommitted}
use Rattle.word_laws.proofs.FreelistReads.{FreelistsTell-shown, FreelistTells-full}
use Rattle.word_laws.proofs.FreelistWords.{FreelistWordsFollow-row}
use Rattle.word_laws.proofs.CommittedWords.{CommittedWordsFollow-shown, IsCommitted-low}
use Rattle.mutator_calls.specs.Calls.{Sees}
use Rattle.mutator_calls.proofs.Seen.{Sees-words}
use Rattle.mutator_calls.specs.Words.{IsShownAs, IsShownBySome, IsTaken, TakesIndex}

-- the words after a take of the head
abbrev pub popped : Sizes → Space → List ℕ → List ℕ
popped sizes p words =
    slice_set words (freelist_place p)
    (freelist_word (link_of (slice_index words (entry_place sizes p (slice_index words (freelist_place p) % 2 ^ 32)))) (slice_index words (freelist_place p) / 2 ^ 32 - 1))

module _ (sizes : Sizes) (p : Space) (small : AreSmall sizes) (words : List ℕ) (s : Table) (shown : IsShownAs words sizes s) where
  limit-is : limit_of s p ≡ limit_in sizes p
  limit-is = ap (λ z. limit_in z p) shown.same

  limit-few : limit_of s p < 2 ^ 32
  limit-few = let few = small.few p in omega (arith, few, limit-is)

  pub head-tells : (committed : ℕ) × FreelistTells s p (λ i. slice_index words (entry_place s.sizes p i)) (slice_index words (freelist_place p) % 2 ^ 32) (slice_index words (freelist_place p) / 2 ^ 32) committed
  head-tells = FreelistsTell-shown words s p (shown.sound.used.first p) shown.shows limit-few

  pub whole-shown : length words ≡ words_in_all sizes
  whole-shown = shown.shows.whole ∙ ap words_in_all shown.same

  -- the head of a list that is not empty
  pub head-within : slice_index words (freelist_place p) / 2 ^ 32 ≢ 0 → slice_index words (freelist_place p) % 2 ^ 32 < limit_in sizes p
  head-within some =
      let known = head-tells.1 in
      let below = (known.some some).1 in
      let within = known.within in
      omega (arith, below, within, limit-is)

  -- the segment at the end of an empty list that is not at the limit
  pub segment-room : slice_index words (freelist_place p) / 2 ^ 32 ≡ 0 → slice_index words (freelist_place p) % 2 ^ 32 < limit_in sizes p →
      slice_index words (freelist_place p) % 2 ^ 32 + sizes.seg ≤ limit_in sizes p
  segment-room none below =
      let known = head-tells.1 in
      let end = known.end none in
      let room = known.room (omega (arith, end, below, limit-is)) in
      let seg : s.sizes.seg ≡ sizes.seg = ap (λ (z : Sizes). z.seg) shown.same in
      omega (arith, room, seg, end, limit-is)

  -- an empty list that ends at the limit
  pub IsTaken-full : slice_index words (freelist_place p) / 2 ^ 32 ≡ 0 → limit_in sizes p ≤ slice_index words (freelist_place p) % 2 ^ 32 → IsTaken words words p None s
  IsTaken-full none past =
      let least = FreelistTells-full s p _ _ _ _ head-tells.1 none (omega (arith, past, limit-is)) in
      record {
        found_is = sym least;
        shows = subst (λ found. Shows words (with_taken s 0 p found)) (sym least) shown.shows;
      }

  pub IsTaken-popped : slice_index words (freelist_place p) / 2 ^ 32 ≢ 0 → IsTaken words (popped sizes p words) p (Some (slice_index words (freelist_place p) % 2 ^ 32)) s
  IsTaken-popped some =
      let head = slice_index words (freelist_place p) % 2 ^ 32 in
      let len = slice_index words (freelist_place p) / 2 ^ 32 in
      let entry : ℕ → ℕ = λ i. slice_index words (entry_place s.sizes p i) in
      let known = head-tells.1 in
      let found = known.some some in
      let free = least_free-some s p head found.0 in
      let next = next_free (s.used p) (head + 1) head-tells.0 in
      let is = known.links head (omega (arith, free.1)) found.1 free.0 in
      let few : next < 2 ^ 32 = let le = next_free-le (s.used p) (head + 1) head-tells.0 in let within = known.within in omega (arith, le, within, limit-few) in
      let link : link_of (entry head) ≡ next = ap link_of is ∙ omega (arith, few) in
      let linked : entry head ≡ free_word (link_of (entry head)) = is ∙ ap free_word (sym link) in
      let follows = FreelistWordsFollow-row words s (event 0 (Take p) (reply.Index head)) p head (link_of (entry head)) (len - 1) (shown.sound.used.first p) shown.shows limit-few
      (tt, sym (ap (λ f. option_map_or reply.Index f reply.Full) found.0)) refl refl (omega (arith, some)) linked in
      record {
        found_is = sym found.0;
        shows = subst (λ z. Shows (popped z p words) (with_taken s 0 p (least_free s p))) shown.same follows;
      }

  -- a commit of the segment at the end of an empty list
  pub IsShownAs-committed : (committed : List ℕ) → slice_index words (freelist_place p) / 2 ^ 32 ≡ 0 → slice_index words (freelist_place p) % 2 ^ 32 < limit_in sizes p →
      IsCommitted sizes p (slice_index words (freelist_place p) % 2 ^ 32) words committed → IsShownAs committed sizes s
  IsShownAs-committed committed none below is =
      let head = slice_index words (freelist_place p) % 2 ^ 32 in
      record {
        sound = shown.sound;
        same = shown.same;
        shows = CommittedWordsFollow-shown words committed s p head shown.sound.used limit-few shown.shows (omega (arith, none)) (omega (arith, below, limit-is))
            (subst (λ z. IsCommitted z p head words committed) (sym shown.same) is);
      }

-- what a take leaves of the words before the entries
popped-low : (sizes : Sizes) (p : Space) (words : List ℕ) (place : ℕ) → place ≢ freelist_place p → slice_index (popped sizes p words) place ≡ slice_index words place
popped-low sizes p words place apart = get_or-set_other words (freelist_place p) place _ 0 apart

module _ (sizes : Sizes) (p : Space) (small : AreSmall sizes) (words : List ℕ) (shown : IsShownBySome words sizes) where
  pub TakesIndex-full : slice_index words (freelist_place p) / 2 ^ 32 ≡ 0 → limit_in sizes p ≤ slice_index words (freelist_place p) % 2 ^ 32 → TakesIndex words words sizes p None
  TakesIndex-full none past = record {
    long = refl;
    tables = λ s is. IsTaken-full sizes p small words s is none past;
    rest = λ place low apart. refl;
  }

  pub TakesIndex-popped : slice_index words (freelist_place p) / 2 ^ 32 ≢ 0 → TakesIndex words (popped sizes p words) sizes p (Some (slice_index words (freelist_place p) % 2 ^ 32))
  TakesIndex-popped some = record {
    long = length-set words (freelist_place p) _;
    tables = λ s is. IsTaken-popped sizes p small words s is some;
    rest = λ place low apart. popped-low sizes p words place apart;
  }

  -- the committed list has the whole segment
  pub committed-some : (committed : List ℕ) (head : ℕ) → IsCommitted sizes p head words committed → head < 2 ^ 32 →
      (slice_index committed (freelist_place p) / 2 ^ 32 ≢ 0) × (slice_index committed (freelist_place p) % 2 ^ 32 ≡ head)
  committed-some committed head is few =
      let list = is.list in
      let seg = small.seg in
      (λ none. omega (arith, list, seg, few, none), omega (arith, list, few))

  pub TakesIndex-committed : (committed : List ℕ) → slice_index words (freelist_place p) / 2 ^ 32 ≡ 0 → slice_index words (freelist_place p) % 2 ^ 32 < limit_in sizes p →
      IsCommitted sizes p (slice_index words (freelist_place p) % 2 ^ 32) words committed →
      TakesIndex words (popped sizes p committed) sizes p (Some (slice_index committed (freelist_place p) % 2 ^ 32))
  TakesIndex-committed committed none below is =
      let some = committed-some committed (slice_index words (freelist_place p) % 2 ^ 32) is (omega arith) in
      record {
        long = length-set committed (freelist_place p) _ ∙ is.whole;
        tables = λ s shows.
            let taken = IsTaken-popped sizes p small committed s (IsShownAs-committed sizes p small words s shows committed none below is) some.0 in
            record { found_is = taken.found_is; shows = taken.shows };
        rest = λ place low apart. popped-low sizes p committed place apart ∙ IsCommitted-low is place low apart;
      }

-- a take in an image: the references, variables and tickets stay
module _ (image : Image) (s : Table) (h : Sees image s) (p : Space) where
  pub IsLegal-take : (found : Option ℕ) → found ≡ least_free s p → IsLegal s (event 0 (Take p) (option_map_or reply.Index found reply.Full))
  IsLegal-take found is = (tt, ap (λ f. option_map_or reply.Index f reply.Full) is)

  pub with_taken-parts : (found : Option ℕ) →
      ((with_taken s 0 p found).refs ≡ s.refs) × ((with_taken s 0 p found).vars ≡ s.vars) × ((with_taken s 0 p found).ticket ≡ s.ticket)
  with_taken-parts None = (refl, refl, refl)
  with_taken-parts (Some i) = (refl, refl, refl)

  pub Sees-take : (later : List ℕ) (found : Option ℕ) → TakesIndex image.words later image.sizes p found →
      Sees (record image { words = later }) (with_taken s 0 p found)
  Sees-take later found takes =
      let taken = takes.tables s (record { sound = h.sound; same = h.shows.sizes; shows = h.shows.words }) in
      let parts = with_taken-parts (least_free s p) in
      let objects : s.sizes.objects ≡ image.sizes.objects = ap (λ (z : Sizes). z.objects) h.shows.sizes in
      subst (λ f. Sees (record image { words = later }) (with_taken s 0 p f)) (sym taken.found_is)
      (Sees-words image s (event 0 (Take p) (option_map_or reply.Index found reply.Full)) h (IsLegal-take found taken.found_is) tt later taken.shows
      (λ o few. takes.rest (header_place o) (omega (arith, few, objects)) (λ same. omega (arith, same, freelist_place-below p)))
      parts.0 parts.1 parts.2)
