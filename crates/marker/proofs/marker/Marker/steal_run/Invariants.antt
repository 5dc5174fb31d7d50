use Rattle.std.proofs.Common.{◌≡◌, ◌≤◌, ◌-◌, true, length}
use Rattle.entry_base.specs.Sessions.{view, IsOf}
use Rattle.chunk_pool.specs.Thieves.{claims_of, IsThiefOf}
use Rattle.marker.specs.Steals.{Steals}
use Rattle.marker.proofs.marker.Marker.steal_run.Given as goal

abbrev pub invariant-loop-chunk : goal.invariant-loop-chunk
invariant-loop-chunk l = record {
  caller : IsOf l.shared l.s;
  thief : IsThiefOf l.pool l.thief;
  given : (claims_of l.thief).given ≡ (claims_of l.fn.thief).given;
  steals : Steals (view l.fn.s) (claims_of l.fn.thief) (view l.s) (claims_of l.thief) l.dealt;
  few : l.dealt.chunks ≤ (claims_of l.thief).next;
  idle : (claims_of l.fn.thief).ended ≡ true → (claims_of l.thief ≡ claims_of l.fn.thief) × (view l.s ≡ view l.fn.s);
  room : l.self ≡ l.fn.self;
}

abbrev pub decreases-loop-chunk : goal.decreases-loop-chunk
decreases-loop-chunk l = length (claims_of l.thief).given - (claims_of l.thief).next
