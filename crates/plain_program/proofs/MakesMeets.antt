-- What the code of a start and of a finish found and set makes the event's step.
use Rattle.std.proofs.Common.{◌≡◌, ℕ, true, false, Option, Some, None, ◌∙◌, ap}
use Rattle.plain_table.specs.declared.scripts.Policy.{Policy}
use Rattle.plain_table.specs.declared.events.Act.TheVariants.{Start, Finish}
use Rattle.plain_table.specs.declared.reports.Reply.{Reply}
use Rattle.plain_table.specs.declared.reports.Reply.TheVariants as reply
use Rattle.plain_table.specs.Table.{Table}
use Rattle.plain_table.specs.Finish.{CanFinish, area_of, started}
use Rattle.plain_table.specs.Rows.{InCycle, finished_in}
use Rattle.plain_table.specs.Shapes.{event}
use Rattle.plain_program.specs.Kept.{Kept, KeptOrigin, begun, shown}
use Rattle.plain_program.specs.Steps.{Steps}

-- the objects and words that a state keeps, as those of a cycle that starts now
abbrev pub origin_of : Kept → KeptOrigin
origin_of k = record {
  references = k.references;
  globals = k.globals;
  variables = k.variables;
  external_words = k.external_words;
  trusted_words = k.trusted_words;
}

pub started-begun : (old mid new : Kept) (policy : Policy) (start : Option ℕ) (origin : KeptOrigin) →
    start ≡ area_of (shown old) policy → origin ≡ origin_of old →
    shown mid ≡ record (shown old) { fresh = λ b p i. false } →
    shown new ≡ record (shown mid) { cycle = Some (begun start origin) } → shown new ≡ started (shown old) policy
started-begun old mid new policy start origin area kept e1 e2 =
    let past : Option ℕ → KeptOrigin → Table = λ (a : Option ℕ) (o : KeptOrigin). record (shown old) {
      fresh = λ b p i. false;
      cycle = Some (begun a o);
    } in
    e2 ∙ ap (λ (t : Table). record t { cycle = Some (begun start origin) }) e1
    ∙ ap (λ (a : Option ℕ). past a origin) area ∙ ap (past (area_of (shown old) policy)) kept

pub makes_start : (old new : Kept) (b : ℕ) (policy : Policy) (said : Reply) → b ≡ 12 → (shown old).cycle ≡ None → said ≡ reply.Ok →
    shown new ≡ started (shown old) policy → new.spent ≡ old.spent → Steps true old new (event b (Start policy) said)
makes_start old new b policy said meeting none is begins s = (((meeting, none), is), begins, s)

pub makes_finish : (old new : Kept) (b : ℕ) (said : Reply) → b ≡ 12 → InCycle (shown old) (CanFinish (shown old)) → said ≡ reply.Ok →
    shown new ≡ finished_in (shown old) (shown old).cycle → new.spent ≡ old.spent → Steps true old new (event b Finish said)
makes_finish old new b said meeting may is finishes s = (((meeting, may), is), finishes, s)
