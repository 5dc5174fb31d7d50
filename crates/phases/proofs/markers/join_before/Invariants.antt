use Rattle.std.proofs.Common.{◌≡◌, ◌++◌, ◌*◌, ◌≤◌, length, map}
use Rattle.entry_base.specs.Lists.{total}
use Rattle.entry_base.specs.Sessions.{view, IsOf}
use Rattle.chunk_pool.specs.Thieves.{claims_of, IsThiefOf}
use Rattle.phases.specs.declared.markers.Marking.{Marking}
use Rattle.phases.specs.Markings.{all_joined}
use Rattle.phases.specs.Sessions.{TookIn}
use Rattle.phases.proofs.markers.join_before.Given as goal

abbrev pub invariant-loop-marking : goal.invariant-loop-marking
invariant-loop-marking l = record {
  all : l.yielded ++ l.marking-iterator.rest.items ≡ l.fn.markings.items;
  caller : IsOf l.shared l.first;
  thief : IsThiefOf l.pool l.thief;
  took : TookIn (view l.fn.first) (map (λ (m : Marking). view m.session) l.yielded) (view l.first);
  joined : claims_of l.thief ≡ all_joined (claims_of l.fn.thief) (map (λ (m : Marking). claims_of m.thief) l.yielded);
  scans : l.scans ≡ total (λ (m : Marking). m.dealt.scans) l.yielded;
  few : l.scans ≤ 16384 * length l.yielded;
}
