use Rattle.std.proofs.Common.{◌≡◌, List, [], ◌∷◌, Option, map, Some, ap, sym, ◌∙◌, subst, arith}
use Rattle.entry_base.specs.declared.chunks.Chunk.{Chunk}
use Rattle.atomic_table.specs.Table.{opening}
use Rattle.chunk_pool.specs.Claims.{first_claims}
use Rattle.chunk_pool.specs.Rule.{Kept}
use Rattle.chunk_pool.proofs.Keeps.{opens}
use Rattle.chunk_pool.proofs.pool.Pool.new.Goals as goal

pub new-requires : goal.new-requires
new-requires c =
    let seen : c.of.result.value.items ≡ c.args.chunks.items = ap (λ v. v.items) c.of.ensures in
    let slots : map Some c.of.result.value.items ≡ c.in-Ok.slots.items = ap (λ (xs : List Chunk). map Some xs) seen ∙ sym c.in-Ok.ensures in
    subst (λ (xs : List (Option Chunk)). Kept c.of.result.value.items c.args.thieves (opening (0 ∷ []) xs (first_claims c.of.result.value.items c.args.thieves))) slots
    (opens c.of.result.value.items c.args.thieves (let a = c.requires.few in let b = ap (λ v. v.len) c.of.ensures in omega arith) c.requires.thieves.0 c.requires.thieves.1)
