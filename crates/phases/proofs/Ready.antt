-- Markers that are ready to run.
use Rattle.std.proofs.Common.{◌≡◌, ℕ, All, List, length, map, sym, ap, subst, arith}
use Rattle.std.proofs.lemmas.List.{get_or-map, length-map}
use Rattle.entry_base.specs.declared.chunks.Chunk.{Chunk}
use Rattle.entry_base.specs.declared.table.Shared.{Shared}
use Rattle.entry_base.specs.Openings.{sizes_in}
use Rattle.entry_base.specs.Sessions.{IsChunkOf, IsOf}
use Rattle.chunk_pool.specs.declared.pool.Pool.{Pool}
use Rattle.chunk_pool.specs.declared.pool.Thief.{Thief}
use Rattle.chunk_pool.specs.Claims.{fresh_claims}
use Rattle.chunk_pool.specs.Thieves.{claims_of, IsThiefOf}
use Rattle.marker.specs.Steals.{objects_of}
use Rattle.phases.specs.declared.markers.Marking.{Marking}
use Rattle.phases.specs.Markings.{AreReady, MayMark}

-- what holds of each of what a function gives
all_mapped : {A B : Type 0} (P : B → Type 0) (f : A → B) (xs : List A) (ys : List B) → map f xs ≡ ys → All P ys → All (λ x. P (f x)) xs
all_mapped P f xs ys is holds k d low =
    subst P (get_or-map f xs k d (f d) low) (subst (All P) (sym is) holds k (f d) (let long = length-map xs f in omega (arith, low, long)))

module _ (t : Shared) (pool : Pool) (chunks : List Chunk) (owed : List ℕ) (count : ℕ) (thieves : List Thief) (ms : List Marking) (dealt : objects_of chunks ≡ owed) (cut : All (IsChunkOf t) chunks)
    (many : length thieves ≡ count) (each : All (λ (x : Thief). IsThiefOf pool x × (claims_of x ≡ fresh_claims chunks count)) thieves) (got : map (λ (m : Marking). m.thief) ms ≡ thieves)
    (made : All (λ (m : Marking). IsOf t m.session × (m.marker ≡ t.objects)) ms) where
  thief_of : All (λ (m : Marking). IsThiefOf pool m.thief × (claims_of m.thief ≡ fresh_claims chunks count)) ms
  thief_of = all_mapped (λ (x : Thief). IsThiefOf pool x × (claims_of x ≡ fresh_claims chunks count)) (λ (m : Marking). m.thief) ms thieves got each

  may_mark : (m : Marking) → IsThiefOf pool m.thief × (claims_of m.thief ≡ fresh_claims chunks count) → IsOf t m.session × (m.marker ≡ t.objects) → MayMark t pool m
  may_mark m thief own = record {
    caller = own.0;
    thief = thief.0;
    chunks = subst (All (IsChunkOf t)) (sym (ap (λ v. v.given) thief.1)) cut;
    room = let key = ap (λ k. (sizes_in k).objects) own.0.1.opened in let same = own.1 in let objects = t.made.1 in omega (arith, key, same, objects);
  }

  pub AreReady-made : AreReady t pool owed count ms
  AreReady-made = record {
    chunks = chunks;
    objects_in = dealt;
    lists = let long = length-map ms (λ (m : Marking). m.thief) in let same = ap length got in omega (arith, long, same, many);
    may = λ k d low. may_mark _ (thief_of k d low) (made k d low);
    fresh = λ k d low. (thief_of k d low).1;
  }
