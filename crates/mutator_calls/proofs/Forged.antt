-- A forged field: the word at its place is the one that was written, and the field names no cell as its own.
use Rattle.std.proofs.Common.{◌≡◌, ℕ, ◌+◌, ◌*◌, ◌^◌, ◌<◌, List, [], ◌∷◌, Some, slice_index, slice_set, refl, sym, ap, subst, ◌∙◌, arith}
use Rattle.std.specs.Global.{Vec}
use Rattle.plain_table.specs.declared.events.Act.TheVariants.{Forge}
use Rattle.plain_table.specs.declared.scripts.Op.TheVariants as op
use Rattle.plain_table.specs.declared.reports.Reply.TheVariants as reply
use Rattle.plain_table.specs.Places.{object_of}
use Rattle.plain_table.specs.Table.{Table, Sizes}
use Rattle.plain_table.specs.History.{IsLegal, next}
use Rattle.plain_table.specs.Shapes.{event, external_field}
use Rattle.plain_table.specs.Words.{field_place, header_place}
use Rattle.plain_table.proofs.WordPlaces.{field_place-from, header-apart-field}
use Rattle.word_laws.proofs.FieldWords.{FieldWordsFollow-row}
use Rattle.entry_word.specs.Image.{image_of}
use Rattle.mutator_calls.specs.declared.heap.Mutator.{Mutator}
use Rattle.mutator_calls.specs.Calls.{IsReady, Makes, Sees}
use Rattle.mutator_calls.proofs.Seen.{Sees-words}
use Rattle.mutator_calls.proofs.Kept.{HandsOver-after, IsLawful-made}
use Rattle.mutator_calls.proofs.Fields.{Holds-variable, WithObject-some, field-few, object_of-external_field}
use Rattle.mutator_calls.proofs.Written.{IsKept-words, IsReady-words, KeepsHeaders, KeepsHeaders-set, with_words}

module _ (m : Mutator) (words : Vec ℕ) (var f o w : ℕ) (small : var < 16) (pair : f < 2) (made : o < m.image.shape.objects) (fits : w < 2 ^ 32)
    (is : words.items ≡ slice_set m.image.words.items (field_place (external_field o f)) w) where
  keeps : KeepsHeaders m.image.shape.objects m.image.words.items words.items
  keeps =
      let from = field_place-from (external_field o f) in
      KeepsHeaders-set m.image.shape.objects m.image.words.items words.items (field_place (external_field o f)) w is (omega (arith, from))
      (λ q few. header-apart-field q (external_field o f))

  few : object_of (external_field o f) < m.image.shape.objects
  few = let own = object_of-external_field o f pair in omega (arith, own, made)

  module _ (s : Table) (h : Sees (image_of m.image) s) (held : Some o ≡ s.vars 0 var) where
    legal : IsLegal s (event 0 (Forge (2 * o + f) w) reply.Ok)
    legal = ((Holds-variable s var o (external_field o f) small (sym held) (object_of-external_field o f pair), fits), refl)

    Sees-forged : Sees (image_of (with_words m words).image) (next s (event 0 (Forge (2 * o + f) w) reply.Ok))
    Sees-forged =
        subst (λ (ws : List ℕ). Sees (record (image_of m.image) { words = ws }) (next s (event 0 (Forge (2 * o + f) w) reply.Ok))) (sym is)
        (Sees-words (image_of m.image) s (event 0 (Forge (2 * o + f) w) reply.Ok) h legal tt (slice_set m.image.words.items (field_place (external_field o f)) w)
        (FieldWordsFollow-row m.image.words.items s (event 0 (Forge (2 * o + f) w) reply.Ok) (external_field o f) w
        (field-few m s h (external_field o f) few) h.shows.words legal (refl, refl))
        (λ q below. ap (λ (ws : List ℕ). slice_index ws (header_place q)) (sym is)
        ∙ keeps.headers q (subst (λ (z : Sizes). q < z.objects) h.shows.sizes below))
        refl refl refl)

    pub Makes-forge : Makes m (with_words m words) s (op.Forge var f w) reply.Ok
    Makes-forge = record {
      events = event 0 (Forge (2 * o + f) w) reply.Ok ∷ [];
      legal = (legal, tt);
      own = (refl, tt);
      shape = WithObject-some (s.vars 0) var o reply.Ok (event 0 (Forge (2 * o + f) w) reply.Ok ∷ [])
          (λ q. event 0 (Forge (2 * o + f) w) reply.Ok ∷ [] ≡ event 0 (Forge (2 * q + f) w) reply.Ok ∷ []) (sym held) refl;
      held = refl;
      ticket = refl;
      sees = Sees-forged;
      handed = λ linked was. HandsOver-after m (with_words m words) (IsKept-words m words keeps) linked s
          (event 0 (Forge (2 * o + f) w) reply.Ok ∷ []) h.sound (ap (λ (z : Sizes). z.objects) h.shows.sizes) (legal, tt) (tt, tt) was;
    }

  pub IsReady-forged : ((s : Table) → Sees (image_of m.image) s → Some o ≡ s.vars 0 var) → IsReady m → IsReady (with_words m words)
  IsReady-forged held ready =
      IsReady-words m words keeps ready
      (IsLawful-made m (with_words m words) (op.Forge var f w) reply.Ok ready (λ s h. Makes-forge s h (held s h)))
