-- The two acts that take an index: a take, and a take below the start of the area. Where the index is the least free one of its
-- space, and below the start, each is legal and takes it.
use Rattle.std.proofs.Common.{◌≡◌, ℕ, ◌<◌, Option, Some, None, refl, sym, ap, ◌∙◌, lt-ltb, nat_lt}
use Rattle.std.proofs.lemmas.Bool.{cond-true}
use Rattle.std.specs.Option.{option_map_or}
use Rattle.plain_table.specs.declared.events.Act.{Act}
use Rattle.plain_table.specs.declared.events.Act.TheVariants as act
use Rattle.plain_table.specs.declared.events.Space.{Space}
use Rattle.plain_table.specs.declared.events.Space.TheVariants.{External, Trusted}
use Rattle.plain_table.specs.declared.reports.Reply.TheVariants as reply
use Rattle.plain_table.specs.Cycle.{start_in}
use Rattle.plain_table.specs.History.{IsLegal, next}
use Rattle.plain_table.specs.Rows.{only_below, with_taken}
use Rattle.plain_table.specs.Table.{Table, least_free}
use Rattle.table_laws.specs.Steady.{IsDuringPhase}
use Rattle.word_laws.specs.WordLaws.{TakesFrom}
use Rattle.entry_base.specs.declared.view.Opening.{Opening}
use Rattle.entry_base.specs.declared.view.View.{View}
use Rattle.entry_base.specs.Callers.{event_of}
use Rattle.entry_base.specs.Openings.{start_of}
use Rattle.entry_base.specs.Ranks.{takes_of}

-- an act that takes an index of a space, where that is the least free one: a take, or a take below the start
pub record TakesIndex (key : Opening) (v : View) (p : Space) (a : Act) (i : ℕ) : Type 0 where
  pub during : IsDuringPhase a
  pub from : TakesFrom a p
  pub one : takes_of p a (reply.Index i) ≡ 1
  pub none : (q : Space) → (p ≡ q → ⊥) → takes_of q a (reply.Index i) ≡ 0
  pub found : (s : Table) → start_in s.cycle ≡ start_of key → least_free s p ≡ Some i
      → IsLegal s (event_of v a (reply.Index i)) × (next s (event_of v a (reply.Index i)) ≡ with_taken s v.number p (Some i))

pub takes_first : (key : Opening) (v : View) (p : Space) (i : ℕ) → TakesIndex key v p (act.Take p) i
takes_first key v p i = record {
  during = tt;
  from = refl;
  one = one p;
  none = none p;
  found = λ s start least. ((tt, sym (ap (λ o. option_map_or reply.Index o reply.Full) least)), ap (with_taken s v.number p) least);
}
  where
    one : (p : Space) → takes_of p (act.Take p) (reply.Index i) ≡ 1
    one External = refl
    one Trusted = refl

    none : (p q : Space) → (p ≡ q → ⊥) → takes_of q (act.Take p) (reply.Index i) ≡ 0
    none External External apart = absurd (apart refl)
    none Trusted Trusted apart = absurd (apart refl)
    none External Trusted apart = refl
    none Trusted External apart = refl

pub takes_first_below : (key : Opening) (v : View) (start i : ℕ) → start_of key ≡ Some start → i < start → TakesIndex key v External (act.Below start) i
takes_first_below key v start i area below = record {
  during = tt;
  from = refl;
  one = refl;
  none = none;
  found = λ s starts least.
      let found = ap (only_below start) least ∙ cond-true (nat_lt i start) (Some i) None (lt-ltb i start below) in
      ((starts ∙ area, sym (ap (λ (o : Option ℕ). option_map_or reply.Index o reply.NoRoom) found)), ap (with_taken s v.number External) found);
}
  where
    none : (q : Space) → (External ≡ q → ⊥) → takes_of q (act.Below start) (reply.Index i) ≡ 0
    none External apart = absurd (apart refl)
    none Trusted apart = refl
