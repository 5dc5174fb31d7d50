-- Forging a word into an external field of an object that a variable of the caller holds keeps the rule: the field then names
-- no cell as its own.
use Rattle.std.proofs.Common.{◌≡◌, ℕ, ◌^◌, ◌<◌, List, [], ◌∷◌, ◌++◌, set, refl, arith}
use mathlib.Core.Option.{some}
use lib.ListN.{get_elem?}
use Rattle.atomic_table.specs.Table.{Me}
use Rattle.plain_table.specs.declared.events.Act.TheVariants as act
use Rattle.plain_table.specs.declared.events.Event.{Event}
use Rattle.plain_table.specs.declared.events.Field.{Field}
use Rattle.plain_table.specs.declared.events.Field.TheVariants as field
use Rattle.plain_table.specs.declared.reports.Reply.TheVariants as reply
use Rattle.plain_table.specs.History.{IsLegal, next}
use Rattle.plain_table.specs.Places.{object_of}
use Rattle.plain_table.specs.Table.{Table}
use Rattle.plain_table.specs.Words.{field_place}
use Rattle.plain_table.proofs.WordPlaces.{field_place-from, freelist_place-below, header-apart-field}
use Rattle.word_laws.proofs.FieldWords.{FieldWordsFollow-row}
use Rattle.entry_base.specs.declared.view.Opening.{Opening}
use Rattle.entry_base.specs.declared.view.View.{View}
use Rattle.entry_base.specs.Callers.{IsCaller, event_of}
use Rattle.entry_base.specs.Openings.{sizes_in}
use Rattle.entry_base.specs.Owns.{IsHeld}
use Rattle.entry_base.specs.Rule.{Kept}
use Rattle.entry_base.proofs.Changes.{LowChanges, kept_low}
use Rattle.entry_base.proofs.Classes.{references_same}
use Rattle.entry_base.proofs.Steps.{Given, Keeps, given, keeps_by}
use Rattle.object_rule.specs.Fields.{Forged}
use Rattle.object_rule.proofs.Held.{object_held, object_made}
use Rattle.object_rule.proofs.HeldFields.{place_below}

module _ (key : Opening) (words : List ℕ) (views : List View) (id : ℕ) (v : View) (k : Kept key words views) (at : get_elem? views id ≡ some v)
    (caller : IsCaller key v) (mutator : v.number < 8) (number word : ℕ) (held : IsHeld v (object_of (field.External number))) (fits : word < 2 ^ 32) where
  abbrev f : Field
  f = field.External number

  abbrev e : Event
  e = event_of v (act.Forge number word) reply.Ok

  abbrev forged : View
  forged = record v { seen = k.log ++ e ∷ [] }

  change : (s : Table) → Given key k.log k.shown words v s → LowChanges (sizes_in key) k.log e k.shown words (field_place f) word forged [] s
  change s g = record {
    legal = legal;
    shows = FieldWordsFollow-row k.shown s e f word (object_made s v g.owns caller.own mutator g.sound (object_of f) held) g.shows legal (refl, refl);
    refs = references_same s (next s e) (set k.shown (field_place f) word) (λ o m. refl);
    owns = record { variables = g.owns.variables; pending = g.owns.pending; owed = g.owns.owed; fresh = g.owns.fresh };
    tells = tt;
  }
    where
      legal : IsLegal s e
      legal = ((object_held s v g.owns caller.own mutator (object_of f) held, fits), refl)

  kept_forged : Kept key (set words (field_place f) word) (set views id forged) × Forged v number word forged
  kept_forged =
      let done = kept_low key words views id v forged k at [] e refl caller.own tt (λ p. refl) refl refl refl refl refl (field_place f) word
      (place_below key k.log k.shown words v f caller mutator held _ (given key words views id v k at k.base k.is_base))
      (λ o. header-apart-field o f) (λ p same. omega (arith, same, freelist_place-below p, field_place-from f)) change in (
        done.0,
        record {
          same = record { opening = refl; number = refl; numbers = refl; cut = refl; knows = λ x has. has };
          own = record { vars = refl; pending = refl; owed = refl; fresh = refl };
          hands = refl;
          extends = done.1 caller.opened;
        },
      )

pub forges : (key : Opening) (slots id : ℕ) (me : Me (Unit {0}) View) (number word : ℕ) → IsCaller key me.0 → me.0.number < 8 → IsHeld me.0 (object_of (field.External number)) → word < 2 ^ 32 → Keeps key slots id me (field_place (field.External number)) (λ x. word) (λ found w. Forged me.0 number word w)
forges key slots id me number word caller mutator held fits =
    keeps_by key slots id me (field_place (field.External number)) (λ x. word) (λ found w. Forged me.0 number word w) (λ words views k at.
    let done = kept_forged key words views id me.0 k at caller mutator number word held fits in (_, done.0, done.1))
