use Rattle.std.proofs.Common.{◌≡◌, ℕ, ◌<◌, ◌≤◌, ◌∷◌, length, Option, None, Some, ap, sym, ◌∙◌, subst, inr, arith}
use Rattle.entry_base.specs.declared.chunks.Chunk.{Chunk}
use Rattle.entry_base.specs.Lists.{count_in}
use Rattle.atomic_table.specs.Table.{Me, rest}
use Rattle.chunk_pool.specs.declared.claims.Claims.{Claims}
use Rattle.chunk_pool.specs.Claims.{with_number}
use Rattle.chunk_pool.proofs.Keeps.{claims, count_last}
use Rattle.chunk_pool.proofs.pool.Thief.next.Goals as goal

pub fetch_add-number-requires : goal.fetch_add-number-requires
fetch_add-number-requires c =
    let t = c.requires.thief in
    (t.table, (let w = c.args.pool.now.one_word in omega arith), claims _ _ _ _ c.args.self.now.seat.me t.live (sym c.args.self.now.tied ∙ c.if-self.false) t.out)

pub exchange-requires : goal.exchange-requires
exchange-requires c =
    let t = c.requires.thief in
    let e = c.fetch_add-number.ensures in
    let won = e.2.0 (let a = t.slots in let b = c.args.pool.now.counted in let d = c.if-number-pool.true in omega arith) in
    let out = ap (λ (m : Me (Option Chunk) Claims). m.1) won.after in
    let y : Option Chunk = Some won.chunk in
    (e.0 ∙ t.table, (y, out ∙ (λ i. (c.fetch_add-number.result, y) ∷ ap rest (sym out) i)))

pub returns-then-number-pool-clause-thief : goal.returns-then-number-pool-clause-thief
returns-then-number-pool-clause-thief c =
    let t = c.requires.thief in
    let e = c.fetch_add-number.ensures in
    let x = c.exchange.ensures in
    let n : ℕ = c.fetch_add-number.result in
    let v : Claims = c.args.self.now.seat.me.0 in
    let won = e.2.0 (let a = t.slots in let b = c.args.pool.now.counted in let d = c.if-number-pool.true in omega arith) in
    let is : c.exchange.new.seat.me.0 ≡ with_number n v = ap (λ (m : Me (Option Chunk) Claims). m.0) x.3 ∙ ap (λ (m : Me (Option Chunk) Claims). m.0) won.after in
    record {
      table = x.0 ∙ (e.0 ∙ t.table);
      slots = t.slots ∙ ap (λ (w : Claims). length w.given) (sym is);
      few = subst (λ (w : Claims). length w.given ≤ 512) (sym is) t.few;
      live = subst (λ (w : Claims). 0 < w.joined) (sym is) t.live;
      out = inr (n, ap (λ (m : Me (Option Chunk) Claims). m.1) x.3 ∙ (λ i. (n, None) ∷ ap (λ (m : Me (Option Chunk) Claims). rest m.1) won.after i), subst (λ (w : Claims). 0 < count_in n w.taken) (sym is) (count_last n v.taken));
    }
