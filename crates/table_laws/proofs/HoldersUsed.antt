-- No second use: the index of a live holder is used, and no take answers it, since each answers a free index.
use Rattle.std.proofs.Common.{◌≡◌, ◌≢◌, ◌⊎◌, ℕ, true, Option, Some, None, sym, ap, ◌∙◌, inl, inr, is_some}
use Rattle.std.specs.Option.{option_map_or}
use Rattle.plain_table.specs.declared.events.Act.{Act}
use Rattle.plain_table.specs.declared.events.Act.TheVariants.{Take, Below}
use Rattle.plain_table.specs.declared.events.Event.{Event}
use Rattle.plain_table.specs.declared.events.Space.TheVariants.{External}
use Rattle.plain_table.specs.declared.events.Field.{Field}
use Rattle.plain_table.specs.declared.reports.Reply.{Reply}
use Rattle.plain_table.specs.declared.reports.Reply.TheVariants as reply
use Rattle.plain_table.specs.Index.{index_of}
use Rattle.plain_table.specs.Places.{space_of}
use Rattle.plain_table.specs.Table.{Table, least_free}
use Rattle.plain_table.specs.Holders.{IsLiveHolder}
use Rattle.plain_table.specs.Rows.{row, free_below}
use Rattle.plain_table.specs.History.{IsLegal}
use Rattle.plain_table.specs.Sound.{IsSound}
use Rattle.table_laws.specs.Laws.{HoldersKeepTheirIndex}
use Rattle.plain_table.proofs.FreeReads.{least_free-some, free_below-some}

-- a reply with an index is that of a search that found one
option_map_or-index : (found : Option ℕ) (other : Reply) (i : ℕ) → other ≢ reply.Index i → option_map_or reply.Index found other ≡ reply.Index i → found ≡ Some i
option_map_or-index None other i apart e = absurd (apart e)
option_map_or-index (Some j) other i apart e = (cc)

-- the index of a live holder is used
pub used-holder : (s : Table) (f : Field) (id : ℕ) → IsSound s → IsLiveHolder s f id → s.used (space_of f) (index_of (s.words f)) ≡ true
used-holder s f id h live =
    (h.used.cells (space_of f) (index_of (s.words f)) (ap (λ (o : Option ℕ). is_some o) (h.fields.own f id live.1 live.0))).0

-- so no search answers it
used-apart : (s : Table) (f : Field) (id : ℕ) → IsSound s → IsLiveHolder s f id → least_free s (space_of f) ≡ Some (index_of (s.words f)) → ⊥
used-apart s f id h live e =
    let used = used-holder s f id h live in
    let free = (least_free-some s (space_of f) (index_of (s.words f)) e).0 in
    absurd (cc)

not-taken : (s : Table) (f : Field) (id : ℕ) → IsSound s → IsLiveHolder s f id → (e : Event) → IsLegal s e →
    ((e.act ≡ Take (space_of f)) ⊎ ((start : ℕ) × (space_of f ≡ External) × (e.act ≡ Below start))) →
    e.said ≡ reply.Index (index_of (s.words f)) → ⊥
not-taken s f id h live e legal (inl act) said =
    used-apart s f id h live
    (option_map_or-index (least_free s (space_of f)) reply.Full (index_of (s.words f)) (λ k. absurd (cc))
    (ap (λ (a : Act). (row s e.by a).reply) (sym act) ∙ sym legal.1 ∙ said))
not-taken s f id h live e legal (inr (start, space, act)) said =
    used-apart s f id h live
    (ap (least_free s) space
    ∙ free_below-some s start (index_of (s.words f))
    (option_map_or-index (free_below s start) reply.NoRoom (index_of (s.words f)) (λ k. absurd (cc))
    (ap (λ (a : Act). (row s e.by a).reply) (sym act) ∙ sym legal.1 ∙ said)))

pub holders-used : HoldersKeepTheirIndex
holders-used s f id h live = (used-holder s f id h live, not-taken s f id h live)
