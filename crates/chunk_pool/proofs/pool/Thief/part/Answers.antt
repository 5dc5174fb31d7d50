use Rattle.std.proofs.Common.{arith}
use Rattle.chunk_pool.proofs.Keeps.{splits}
use Rattle.chunk_pool.proofs.pool.Thief.part.Goals as goal

pub split_seat-seat-requires : goal.split_seat-seat-requires
split_seat-seat-requires c =
    let t = c.requires.thief in
    (t.table, (let w = c.args.pool.now.one_word in omega arith), splits _ _ _ c.args.self.now.seat.me.0 c.requires.two)
