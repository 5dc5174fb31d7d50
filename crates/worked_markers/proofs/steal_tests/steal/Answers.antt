use Rattle.std.proofs.Common.{ℕ, List, refl, ap, subst, sym, All, length, ◌∙◌}
use Rattle.entry_base.specs.declared.chunks.Chunk.{Chunk}
use Rattle.entry_base.specs.Sessions.{IsChunkOf}
use Rattle.chunk_pool.specs.declared.claims.Claims.{Claims}
use Rattle.worked_markers.proofs.TakenChunks.{TookAll-same}
use Rattle.worked_markers.proofs.steal_tests.steal.Goals as goal

pub returns-clause-same : goal.returns-clause-same
returns-clause-same c = c.steal_run.ensures.steals.steals.part.called.same

pub returns-clause-thief : goal.returns-clause-thief
returns-clause-thief c =
    let all = c.steal_run.ensures.steals in
    let took = all.steals.took in
    let was = c.requires.thief in
    let given = ap (λ (t : Claims). t.given) all.end ∙ TookAll-same (List Chunk) (λ t. t.given) (λ k t. refl) _ _ _ took in
    record {
      thief = c.steal_run.ensures.thief;
      one = ap (λ (t : Claims). t.joined) all.end ∙ TookAll-same ℕ (λ t. t.joined) (λ k t. refl) _ _ _ took ∙ was.one;
      two = ap (λ (t : Claims). t.thieves) all.end ∙ TookAll-same ℕ (λ t. t.thieves) (λ k t. refl) _ _ _ took ∙ was.two;
      chunks = subst (All (IsChunkOf c.args.shared.now)) (sym given) was.chunks;
      eight = ap length given ∙ was.eight;
    }
