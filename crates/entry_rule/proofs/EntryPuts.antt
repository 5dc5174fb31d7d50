-- A put: an index that the caller took is filled with the marked word of a new cell. A trusted cell keeps its value.
use Rattle.std.proofs.Common.{◌≡◌, ◌^◌, ◌<◌, ◌≤◌, ℕ, List, [], ◌∷◌, ◌++◌, set, Option, Some, None, IsTrue, IsSomeAnd, IfSome, refl, sym, ap, subst, ◌∙◌, inl, inr, arith}
use Rattle.std.specs.Prelude.{◌⊎◌}
use mathlib.Core.Option.{some}
use lib.ListN.{get_elem?}
use Rattle.atomic_table.specs.Table.{Me}
use Rattle.plain_table.specs.declared.events.Act.TheVariants as act
use Rattle.plain_table.specs.declared.events.Cell.{Cell}
use Rattle.plain_table.specs.declared.events.Event.{Event}
use Rattle.plain_table.specs.declared.events.Space.{Space}
use Rattle.plain_table.specs.declared.events.Space.TheVariants.{External, Trusted}
use Rattle.plain_table.specs.declared.reports.Reply.TheVariants as reply
use Rattle.plain_table.specs.Cycle.{Cycle, start_in}
use Rattle.plain_table.specs.Finish.{id_at}
use Rattle.plain_table.specs.History.{IsLegal, next, after}
use Rattle.plain_table.specs.Places.{same_space}
use Rattle.plain_table.specs.Rows.{IsTag, InCycle, MayFill}
use Rattle.plain_table.specs.Shows.{Shows}
use Rattle.plain_table.specs.Table.{Table, Sizes, limit_in}
use Rattle.plain_table.specs.Words.{entry_place}
use Rattle.plain_table.proofs.Options.{IsSomeAnd-by, IsSome-none}
use Rattle.plain_table.proofs.PlaceReads.{put_entry-same}
use Rattle.table_laws.proofs.CellsStay.{marked_in-here}
use Rattle.table_laws.proofs.Steadiness.{events-steady}
use Rattle.word_laws.proofs.CellWords.{CellWordsFollow-row}
use Rattle.entry_base.specs.declared.view.Fact.{Fact}
use Rattle.entry_base.specs.declared.view.Fact.TheVariants as fact
use Rattle.entry_base.specs.declared.view.Opening.{Opening}
use Rattle.entry_base.specs.declared.view.View.{View}
use Rattle.entry_base.specs.Callers.{IsCaller, event_of}
use Rattle.entry_base.specs.Facts.{IsKnown}
use Rattle.entry_base.specs.Lists.{Each, Has}
use Rattle.entry_base.specs.Openings.{sizes_in, start_of}
use Rattle.entry_base.specs.Owns.{claim_of, without_claim}
use Rattle.entry_base.specs.Rule.{Kept}
use Rattle.entry_base.proofs.Changes.{EntryChanges, kept_entry}
use Rattle.entry_base.proofs.OwnsStay.{pending_stays, claims_left, claims_kept, claim_here}
use Rattle.entry_base.proofs.Steps.{Given, Keeps, given, keeps_by}
use Rattle.entry_base.proofs.Sums.{each_has, each_map, has_append}
use Rattle.entry_rule.specs.Entries.{MayPut, new_word, Put, PutTrusted}
use Rattle.entry_base.proofs.Claims.{without_claim-absent}

-- an index may be filled where the view knows enough of it
in_area : (c : Cycle) (i : ℕ) (K : Type 0) (first : Option ℕ) → (K → IsTrue c.aborted) → IfSome first (λ start. (i < start) ⊎ K) → IfSome first (λ start. start ≤ i → IsTrue c.aborted)
in_area c i K None known may = tt
in_area c i K (Some start) known may = λ from. elim may [ inl low ↦ absurd (omega (arith, low, from)) | inr has ↦ known has ]

in_cycle : (cycle : Option Cycle) (i : ℕ) (K : Type 0) (first : Option ℕ) → start_in cycle ≡ first → (K → IsSomeAnd cycle (λ c. IsTrue c.aborted)) → IfSome first (λ start. (i < start) ⊎ K)
    → IfSome cycle (λ c. IfSome c.start (λ start. start ≤ i → IsTrue c.aborted))
in_cycle None i K first same known may = tt
in_cycle (Some c) i K first same known may = in_area c i K c.start known (subst (λ a. IfSome a (λ start. (i < start) ⊎ K)) (sym same) may)

may_fill : (s : Table) (v : View) (p : Space) (i : ℕ) → start_in s.cycle ≡ start_of v.opening → (Has v.facts fact.Aborted → InCycle s (λ c. IsTrue c.aborted)) → MayPut v p i → MayFill s p i
may_fill s v Trusted i same known may = tt
may_fill s v External i same known may = in_cycle s.cycle i (Has v.facts fact.Aborted) (start_of v.opening) same known may

-- a put that also tells facts of the cell that stands there after it
module _ (key : Opening) (words : List ℕ) (views : List View) (id : ℕ) (v : View) (p : Space) (i tag value : ℕ) (k : Kept key words views) (at : get_elem? views id ≡ some v)
    (caller : IsCaller key v) (took : Has v.owed (claim_of v p i)) (is_tag : IsTag tag) (few : value < 2 ^ 48) (inside : i < limit_in (sizes_in v.opening) p) (may : MayPut v p i)
    (more : List Fact) (sure : (log : List Event) (t : Table) (shown now : List ℕ) → IsSomeAnd (t.cells p i) (λ c. (c.tag ≡ tag) × (c.value ≡ value)) → Each (IsKnown (sizes_in key) log t shown now) more) where
  abbrev z : Sizes
  z = sizes_in key

  abbrev e : Event
  e = event_of v (act.Put p i tag value) reply.Ok

  abbrev filled : View
  filled = record v { seen = k.log ++ e ∷ []; owed = without_claim v.number p i v.owed; fresh = claim_of v p i ∷ v.fresh; facts = fact.Cell p i tag ∷ more ++ v.facts }

  owed : (s : Table) → Given key k.log k.shown words v s → IsTrue (s.owed v.number p i)
  owed s g = (each_has _ v.owed (claim_of v p i) g.owns.owed took).1

  step : (s : Table) → Given key k.log k.shown words v s → EntryChanges z k.log e k.shown words p i (new_word p tag value) filled (fact.Cell p i tag ∷ more) s
  step s g =
      let is : IsLegal s e = ((owed s g, is_tag, few, may_fill s v p i (g.start ∙ ap start_of (sym caller.opened)) (λ known. (each_has _ v.facts fact.Aborted g.known known).0) may), refl) in
      let steady = events-steady s e g.sound is tt in
      let cell : Cell = record { id = s.next; tag = tag; value = value; shown = same_space p External } in
      let stands : (next s e).cells p i ≡ Some cell = put_entry-same s.cells p i (Some cell) in
      record {
        legal = is;
        shows = subst (λ (x : Sizes). Shows (set k.shown (entry_place x p i) (new_word p tag value)) (next s e)) g.sizes
            (CellWordsFollow-row k.shown s e p i cell g.sound.used g.shows is (refl, refl) stands);
        used = (g.sound.used.claims v.number p i (owed s g)).0;
        marked = λ stood. marked_in-here s.cycle p i;
        owns = record {
          variables = g.owns.variables;
          pending = λ b d has low. pending_stays s e (next s e) (s.ticket b) _ steady.cells (g.owns.pending b d has low);
          owed = claims_left _ s.owed v.number p i v.owed g.owns.owed;
          fresh = ((caller.own, claim_here (λ b. b ≡ b) s.fresh v.number p i), claims_kept _ s.fresh v.number p i v.fresh g.owns.fresh);
        };
        tells = (
          (IsSomeAnd-by ((next s e).cells p i) cell _ stands refl, tt),
          sure _ (next s e) _ _ (IsSomeAnd-by ((next s e).cells p i) cell _ stands (refl, refl)),
        );
      }

  pub kept_put : Kept key (set words (entry_place z p i) (new_word p tag value)) (set views id filled) × Put v p i tag value filled
  kept_put =
      let done = kept_entry key words views id v filled k at (fact.Cell p i tag ∷ more) e refl caller.own tt (λ q. refl) refl refl refl refl refl
      p i (new_word p tag value) (subst (λ o. i < limit_in (sizes_in o) p) caller.opened inside) (λ none. omega (arith, none)) (λ o m var link. cc) step in (
        done.0,
        record {
          same = record { opening = refl; number = refl; numbers = refl; cut = refl; knows = λ f has. inr (has_append more v.facts f has) };
          rest = (refl, refl, refl);
          owed = refl;
          fresh = refl;
          fresh_claim =
              let s : Table = after k.base k.log in
              let g = given key words views id v k at k.base k.is_base in
              let empty = (g.sound.used.claims v.number p i (owed s g)).2 in
              without_claim-absent s.fresh v.number p i (λ is. IsSome-none (id_at s p i) empty (g.sound.fresh.cells v.number p i is)) v.fresh (each_map _ _ v.fresh (λ t has. has.1) g.owns.fresh);
          extends = done.1 caller.opened;
          knows = inl refl;
        },
      )

pub puts : (key : Opening) (slots id : ℕ) (me : Me (Unit {0}) View) (p : Space) (i tag value : ℕ) → IsCaller key me.0 → Has me.0.owed (claim_of me.0 p i) → IsTag tag → value < 2 ^ 48 → i < limit_in (sizes_in me.0.opening) p → MayPut me.0 p i → Keeps key slots id me (entry_place (sizes_in key) p i) (λ x. new_word p tag value) (λ found w. Put me.0 p i tag value w)
puts key slots id me p i tag value caller took is_tag few inside may = keeps_by key slots id me (entry_place (sizes_in key) p i) (λ x. new_word p tag value) (λ found w. Put me.0 p i tag value w) (λ words views k at.
    let done = kept_put key words views id me.0 p i tag value k at caller took is_tag few inside may [] (λ log t shown now stands. tt) in
    (_, done.0, done.1))

pub puts_trusted : (key : Opening) (slots id : ℕ) (me : Me (Unit {0}) View) (i tag value : ℕ) → IsCaller key me.0 → Has me.0.owed (claim_of me.0 Trusted i) → IsTag tag → value < 2 ^ 48 → i < limit_in (sizes_in me.0.opening) Trusted → Keeps key slots id me (entry_place (sizes_in key) Trusted i) (λ x. new_word Trusted tag value) (λ found w. PutTrusted me.0 i tag value w)
puts_trusted key slots id me i tag value caller took is_tag few inside = keeps_by key slots id me (entry_place (sizes_in key) Trusted i) (λ x. new_word Trusted tag value) (λ found w. PutTrusted me.0 i tag value w) (λ words views k at.
    let done = kept_put key words views id me.0 Trusted i tag value k at caller took is_tag few inside tt (fact.Trusted i tag value ∷ []) (λ log t shown now stands. ((stands, tt), tt)) in
    (_, done.0, record { put = done.1; stays = inr (inl refl) }))
