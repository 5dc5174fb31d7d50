use Rattle.std.proofs.Common.{◌∙◌, All, refl, sym, ap, subst, arith}
use Rattle.entry_base.specs.Openings.{sizes_in}
use Rattle.entry_base.specs.Sessions.{view, IsChunkOf}
use Rattle.mark_steps.proofs.SeenWords.{openable_of, opened_lawful}
use Rattle.chunk_pool.specs.Thieves.{claims_of}
use Rattle.chunk_pool.proofs.Given.{given_all}
use Rattle.marker.proofs.ChunksTaken.{few_dealt, steals_begin, steals_turn}
use Rattle.marker.proofs.marker.Marker.steal_run.Goals as goal

pub loop-chunk-init : goal.loop-chunk-init
loop-chunk-init c = record {
  caller = c.requires.caller;
  thief = c.requires.thief;
  given = refl;
  steals = steals_begin (view c.args.s.now) (claims_of c.args.thief.now);
  few = omega arith;
  idle = λ ended. (refl, refl);
  room = refl;
}

pub run_chunk-requires-clause-chunk : goal.run_chunk-requires-clause-chunk
run_chunk-requires-clause-chunk c =
    let took = c.in-Some.ensures.took in
    given_all (IsChunkOf c.args.shared.now) (claims_of c.loop-chunk.thief).given took.number c.in-Some.chunk
    (subst (All (IsChunkOf c.args.shared.now)) (sym c.loop-chunk.invariant.given) c.requires.chunks) took.given

pub overflow_add-dealt-in-Some : goal.overflow_add-dealt-in-Some
overflow_add-dealt-in-Some c =
    let some = few_dealt (view c.args.s.now) (claims_of c.args.thief.now) (view c.loop-chunk.s) (claims_of c.loop-chunk.thief) c.loop-chunk.dealt c.loop-chunk.invariant.steals
    c.in-Some.chunk (view c.run_chunk.new.s) c.run_chunk.result c.run_chunk.ensures.runs c.loop-chunk.invariant.caller.1.own
    (openable_of _ _ c.args.shared.now.openable c.requires.caller.1) (opened_lawful _ _ _ c.requires.caller.1 c.run_chunk.ensures.caller.1) in
    let same = ap (λ k. (sizes_in k).objects) c.requires.caller.1.opened in
    let made = c.args.shared.now.made in
    let limit = c.args.shared.now.few in
    omega (arith, some, same, made, limit)

pub loop-chunk-preserved : goal.loop-chunk-preserved
loop-chunk-preserved c =
    let i = c.loop-chunk.invariant in
    let took = c.in-Some.ensures.took in
    let is = took.after in record {
      caller = c.run_chunk.ensures.caller;
      thief = c.in-Some.ensures.thief;
      given = ap (λ t. t.given) is ∙ i.given;
      steals = steals_turn (view c.args.s.now) (claims_of c.args.thief.now) (view c.loop-chunk.s) (claims_of c.loop-chunk.thief) c.loop-chunk.dealt i.steals
          c.in-Some.chunk (view c.run_chunk.new.s) c.run_chunk.result c.run_chunk.ensures.runs i.caller.1.own
          (openable_of _ _ c.args.shared.now.openable c.requires.caller.1) (opened_lawful _ _ _ c.requires.caller.1 c.run_chunk.ensures.caller.1) (claims_of c.next.new.self) took;
      few = (let next = ap (λ t. t.next) is in let later = took.later in let a = i.few in omega (arith, next, later, a));
      idle = λ ended. let open_still = took.before in let same = ap (λ t. t.ended) (i.idle ended).0 in absurd (cc);
      room = c.run_chunk.ensures.room ∙ i.room;
    }
