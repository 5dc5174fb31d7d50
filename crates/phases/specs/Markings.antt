-- What the markers of a phase are given, what each has done, and what they leave.
use Rattle.std.specs.Prelude.{◌≡◌, ℕ, ◌<◌, ◌≤◌, true, All, List, [], ◌∷◌, length}
use Rattle.entry_base.specs.declared.chunks.Chunk.{Chunk}
use Rattle.entry_base.specs.declared.table.Shared.{Shared}
use Rattle.entry_base.specs.declared.view.View.{View}
use Rattle.entry_base.specs.Lists.{count_in, total}
use Rattle.entry_base.specs.Openings.{sizes_in}
use Rattle.entry_base.specs.Sessions.{view, IsChunkOf, IsOf}
use Rattle.chunk_pool.specs.declared.claims.Claims.{Claims}
use Rattle.chunk_pool.specs.declared.pool.Pool.{Pool}
use Rattle.chunk_pool.specs.Claims.{both, fresh_claims}
use Rattle.chunk_pool.specs.Thieves.{claims_of, IsThiefOf}
use Rattle.marker.specs.Steals.{objects_of, StealsAll}
use Rattle.phases.specs.declared.markers.Marking.{Marking}
use Rattle.phases.specs.Cuts.{CutOff}
use Rattle.phases.specs.Sessions.{GaveOut}

-- a session cut objects of its hands off, and then gave out the numbers of so many markers
pub record DealtOut (v : View) (objects : List ℕ) (count : ℕ) (w : View) : Type 0 where
  pub between : View
  pub cut_off : CutOff v objects between
  pub gave : GaveOut between 8 count w

-- a marker that may run: its thief claims chunks of the table, and its stack has room for all objects
pub record MayMark (t : Shared) (pool : Pool) (m : Marking) : Type 0 where
  pub caller : IsOf t m.session
  pub thief : IsThiefOf pool m.thief
  pub chunks : All (IsChunkOf t) (claims_of m.thief).given
  pub room : (sizes_in (view m.session).opening).objects ≤ m.marker

-- so many markers that may run, whose thieves are those of a pool of chunks with these objects, and have claimed nothing
pub record AreReady (t : Shared) (pool : Pool) (objects : List ℕ) (count : ℕ) (ms : List Marking) : Type 0 where
  pub chunks : List Chunk
  pub objects_in : objects_of chunks ≡ objects
  pub lists : length ms ≡ count
  pub may : All (MayMark t pool) ms
  pub fresh : All (λ (m : Marking). claims_of m.thief ≡ fresh_claims chunks count) ms

-- one that ran until its thief had seen the end
pub record HasMarked (t : Shared) (pool : Pool) (before after : Marking) : Type 0 where
  pub caller : IsOf t after.session
  pub thief : IsThiefOf pool after.thief
  pub steals : StealsAll (view before.session) (claims_of before.thief) (view after.session) (claims_of after.thief) after.dealt
  pub end : (claims_of after.thief).ended ≡ true

-- one that can be taken in
pub record HasEnded (t : Shared) (pool : Pool) (m : Marking) : Type 0 where
  pub caller : IsOf t m.session
  pub thief : IsThiefOf pool m.thief
  pub few : m.dealt.scans ≤ 16384

-- a thief is one of so many thieves of a pool of these chunks, and has seen the end
pub record SawEnd (chunks : List Chunk) (thieves : ℕ) (v : Claims) : Type 0 where
  pub given : v.given ≡ chunks
  pub made : v.thieves ≡ thieves
  pub one : v.joined ≡ 1
  pub end : v.ended ≡ true

-- the markers have all thieves of a pool of these chunks, and each has seen the end
pub record HaveEnded (chunks : List Chunk) (ms : List Marking) : Type 0 where
  pub some : 1 ≤ length ms
  pub each : All (λ (m : Marking). SawEnd chunks (length ms) (claims_of m.thief)) ms

-- each chunk was taken once, by one of the markers
abbrev pub EachOnce : List Chunk → List Marking → Type 0
EachOnce chunks ms = (k : ℕ) → k < length chunks → total (λ (m : Marking). count_in k (claims_of m.thief).taken) ms ≡ 1

-- a thief took in others one after another
abbrev pub all_joined : Claims → List Claims → Claims
all_joined v [] = v
all_joined v (u ∷ us) = all_joined (both v u) us
