use Rattle.std.proofs.Common.{List, length, ap, sym, subst, ◌∙◌}
use Rattle.script_reader.specs.Valid.{IsValidScript, operations_of}
use Rattle.plain_table.specs.declared.scripts.Phase.{Phase}
use Rattle.script_generator.specs.Generated.{limits}
use Rattle.script_generator.proofs.Validity.{generated-valid, operations-generated, length-generated}
use Rattle.script_generator.proofs.generator.generate.Goals as goal

pub returns-clause-valid : goal.returns-clause-valid
returns-clause-valid c =
    subst (λ (phases : List Phase). IsValidScript (record { version = 1; limits = limits; phases = phases }))
    (sym c.in_ok-all_phases.ensures) (generated-valid c.args.seed)

pub returns-clause-operations : goal.returns-clause-operations
returns-clause-operations c = ap operations_of c.in_ok-all_phases.ensures ∙ operations-generated c.args.seed

pub returns-clause-meets : goal.returns-clause-meets
returns-clause-meets c = ap length c.in_ok-all_phases.ensures ∙ length-generated c.args.seed
