use Rattle.std.proofs.Common.{length, sym, arith, rules}
use Rattle.free_chain.specs.Chain.{is_used}
use Rattle.free_chain.proofs.NextFree.{next_free-is}
use Rattle.free_chain.proofs.next_free.Goals as goal

pub returns-then-not-used-index-clause-model : goal.returns-then-not-used-index-clause-model
returns-then-not-used-index-clause-model c =
    sym (next_free-is (is_used c.args.used.now) c.args.from (length c.args.used.now) c.loop-index.index record {
      above = omega arith;
      within = omega arith;
      passed = c.loop-index.invariant;
      free = λ less. search rules;
    })

pub returns-clause-model : goal.returns-clause-model
returns-clause-model c =
    sym (next_free-is (is_used c.args.used.now) c.args.from (length c.args.used.now) (length c.args.used.now) record {
      above = c.requires.start;
      within = omega arith;
      passed = search rules;
      free = λ less. absurd (omega (arith, less));
    })
