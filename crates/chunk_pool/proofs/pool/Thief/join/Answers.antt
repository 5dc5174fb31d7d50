use Rattle.std.proofs.Common.{◌≡◌, ℕ, ◌<◌, ◌≤◌, List, [], ◌∷◌, length, Option, None, ⊎_elim, ap, sym, ◌∙◌, subst, inl, inr, arith}
use Rattle.entry_base.specs.declared.chunks.Chunk.{Chunk}
use Rattle.entry_base.specs.Lists.{count_in}
use Rattle.entry_base.proofs.Sums.{count_append}
use Rattle.atomic_table.specs.Table.{Me}
use Rattle.chunk_pool.specs.declared.claims.Claims.{Claims}
use Rattle.chunk_pool.specs.Claims.{both}
use Rattle.chunk_pool.specs.Thieves.{AreEmptied}
use Rattle.chunk_pool.proofs.Keeps.{backs, joins, learns}
use Rattle.chunk_pool.proofs.pool.Thief.join.Goals as goal

abbrev Mine : Type 0
Mine = Me (Option Chunk) Claims

-- the slot that a thief emptied is still one of its own
emptied_both : (v u : Claims) (out : List (ℕ × Option Chunk)) → AreEmptied v out → AreEmptied (both v u) out
emptied_both v u out are = ⊎_elim
    (λ (e : out ≡ []). inl e)
    (λ (o : (k : ℕ) × (out ≡ (k, None) ∷ []) × (0 < count_in k v.taken)). inr (o.0, o.1, (let a = count_append o.0 v.taken u.taken in let b = o.2 in omega arith)))
    are

pub load-requires : goal.load-requires
load-requires c =
    let o = c.requires.thieves.1 in
    (o.table, (let w = c.args.pool.now.one_word in omega arith), backs _ _ _ _ c.args.other.seat.me o.live o.out)

pub join_seat-requires : goal.join_seat-requires
join_seat-requires c =
    let t = c.requires.thieves.0 in
    let o = c.requires.thieves.1 in
    let e = c.load.ensures in (
      t.table,
      e.0 ∙ o.table,
      ap (λ (m : Mine). m.1) e.2,
      (let w = c.args.pool.now.one_word in omega arith),
      joins _ _ _ c.args.self.now.seat.me.0 _ c.load.new.seat.me.0 t.live (subst (λ (m : Mine). 0 < m.0.joined) (sym e.2) o.live),
    )

pub load-requires-2 : goal.load-requires-2
load-requires-2 c =
    let t = c.requires.thieves.0 in
    let e = c.join_seat.ensures in
    (e.0 ∙ t.table, (let w = c.args.pool.now.one_word in omega arith), learns _ _ _ _ c.join_seat.new.seat.me (subst (λ (m : Mine). 0 < m.0.joined) (sym e.2) (let a = t.live in omega arith)))

pub returns-clause-thief : goal.returns-clause-thief
returns-clause-thief c =
    let t = c.requires.thieves.0 in
    let e = c.join_seat.ensures in
    let x = c.load-2.ensures in
    let is : c.load-2.new.seat.me ≡ (both c.args.self.now.seat.me.0 c.load.new.seat.me.0, c.args.self.now.seat.me.1) = x.2.0 ∙ e.2 in
    record {
      table = x.0 ∙ (e.0 ∙ t.table);
      slots = t.slots ∙ ap (λ (m : Mine). length m.0.given) (sym is);
      few = subst (λ (m : Mine). length m.0.given ≤ 512) (sym is) t.few;
      live = subst (λ (m : Mine). 0 < m.0.joined) (sym is) (let a = t.live in omega arith);
      out = subst (λ (m : Mine). AreEmptied m.0 m.1) (sym is) (emptied_both c.args.self.now.seat.me.0 c.load.new.seat.me.0 _ t.out);
    }
