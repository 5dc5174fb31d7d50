-- What a marker does with the chunks that its thief takes: it scans their objects, and those that these shade.
use Rattle.std.specs.Prelude.{◌≡◌, ℕ, ◌+◌, ◌≤◌, List, [], ◌∷◌, ◌++◌, length}
use Rattle.plain_table.specs.Scans.{Rest}
use Rattle.entry_base.specs.declared.chunks.Chunk.{Chunk}
use Rattle.entry_base.specs.declared.view.View.{View}
use Rattle.entry_base.specs.Callers.{AreWithin, SameOwn}
use Rattle.entry_base.specs.Joins.{Absorbed}
use Rattle.entry_base.specs.Lists.{count_in}
use Rattle.entry_base.specs.Sessions.{hands_of}
use Rattle.call_base.specs.ScanParts.{ScanPart}
use Rattle.chunk_pool.specs.declared.claims.Claims.{Claims}
use Rattle.chunk_pool.specs.Claims.{with_end, Took}
use Rattle.marker.specs.declared.steals.Dealt.{Dealt}
use Rattle.marker.specs.Runs.{Runs}

-- the objects of chunks
abbrev pub objects_of : List Chunk → List ℕ
objects_of [] = []
objects_of (chunk ∷ chunks) = chunk.objects.items ++ objects_of chunks

-- these chunks were taken, one after another
abbrev pub TookAll : Claims → List Chunk → Claims → Type 0
TookAll t [] u = u ≡ t
TookAll t (chunk ∷ chunks) u = (mid : Claims) × Took t chunk mid × TookAll mid chunks u

-- the objects of a chunk came into the hands, and were run
pub record RunsChunk (v : View) (chunk : Chunk) (w : View) (scans : ℕ) : Type 0 where
  pub holder : View
  pub absorbed : Absorbed v (hands_of chunk) holder
  pub runs : Runs holder chunk.objects.items w scans

-- chunks were taken and run: each of their objects, and each that was shaded, has its scan; the counts are those of the chunks and
-- of the scans, and the hands are as before
pub record Steals (v : View) (t : Claims) (w : View) (u : Claims) (dealt : Dealt) : Type 0 where
  pub taken : List Chunk
  pub done : List ℕ
  pub shaded : List ℕ
  pub took : TookAll t taken u
  pub chunks : length taken ≡ dealt.chunks
  pub part : ScanPart v Rest w Rest done
  pub scans : length done ≡ dealt.scans
  pub all : (q : ℕ) → count_in q done ≡ count_in q (objects_of taken) + count_in q shaded
  pub low : AreWithin v.opening done
  pub once : (q : ℕ) → count_in q done ≤ 1
  pub own : SameOwn v w
  pub hands : (q : ℕ) → count_in q w.hands ≡ count_in q v.hands

-- and then a claim saw the end
pub record StealsAll (v : View) (t : Claims) (w : View) (u : Claims) (dealt : Dealt) : Type 0 where
  pub last : Claims
  pub steals : Steals v t w last dealt
  pub end : u ≡ with_end last
