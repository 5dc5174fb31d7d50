-- The exchange that links an entry of a segment that is not committed: the words that show the table have no access there,
-- as before, and the present ones are near them. It changes an entry from no access alone.
use Rattle.std.proofs.Common.{◌≡◌, ◌≢◌, ℕ, ◌+◌, ◌<◌, ◌==◌, Bool, true, false, List, [], ◌∷◌, length, slice_index, set, refl, sym, ap, ◌∙◌, inl, inr, arith, get_or-set_same}
use Rattle.std.proofs.lemmas.Bool.Decides.{nat_tests}
use mathlib.Core.Option.{some}
use lib.ListN.{get_elem?}
use prog.Atomic.{either}
use Rattle.atomic_table.specs.Table.{Me}
use Rattle.plain_table.specs.declared.events.Space.{Space}
use Rattle.plain_table.specs.Near.{IsNear}
use Rattle.plain_table.specs.Table.{Table, Sizes, limit_in}
use Rattle.plain_table.specs.Words.{entry_place, free_word, no_access_word, words_in_all}
use Rattle.plain_table.proofs.WordPlaces.{entry_place-below}
use Rattle.word_laws.proofs.NearWords.{IsNear-closed, LinkedEntriesStayNear-near}
use Rattle.entry_base.specs.declared.view.Fact.TheVariants as fact
use Rattle.entry_base.specs.declared.view.Opening.{Opening}
use Rattle.entry_base.specs.declared.view.View.{View}
use Rattle.entry_base.specs.Callers.{IsCaller}
use Rattle.entry_base.specs.Openings.{sizes_in}
use Rattle.entry_base.specs.Rule.{Kept}
use Rattle.entry_base.proofs.Classes.{linked_entry, still}
use Rattle.entry_base.proofs.FactsStay.{StaysLinked}
use Rattle.entry_base.proofs.Steps.{Given, Leaves, Keeps, keeps_by, loads, given, sees}
use Rattle.freelist_rule.specs.Segments.{LinkedEntry}

module _ (key : Opening) (words : List ℕ) (views : List View) (id : ℕ) (v : View) (k : Kept key words views) (at : get_elem? views id ≡ some v) (caller : IsCaller key v)
    (p : Space) (i : ℕ) (below : i < limit_in (sizes_in key) p) where
  abbrev z : Sizes
  z = sizes_in key

  abbrev place : ℕ
  place = entry_place z p i

  abbrev found : ℕ
  found = slice_index words place

  abbrev link_view : View
  link_view = record v { seen = k.log; facts = fact.Linked p i ∷ v.facts }

  -- either way the shown words stay, and the entry can be used
  linked : (now : List ℕ) → IsNear z now k.shown → StaysLinked z words now → slice_index now place ≢ no_access_word →
      Kept key now (set views id link_view) × LinkedEntry v p i link_view
  linked now near ahead usable =
      let done = sees key words now views id v link_view k at k.shown (fact.Linked p i ∷ []) refl refl refl near ahead (λ o. refl) (inr refl) refl left in (
        done.0,
        record {
          same = record { opening = refl; number = refl; numbers = refl; cut = refl; knows = λ x has. inr has };
          own = record { vars = refl; pending = refl; owed = refl; fresh = refl };
          hands = refl;
          looks = done.1 caller.opened;
          knows = inl refl;
        },
      )
    where
      left : (s : Table) → Given key k.log k.shown words v s → Leaves z k.log k.shown k.shown now link_view (fact.Linked p i ∷ []) s
      left s g = record {
        shows = g.shows;
        covered = g.covered;
        steady = still z k.log k.log s s k.shown (λ o n. refl) (λ q. refl);
        owns = record { variables = g.owns.variables; pending = g.owns.pending; owed = g.owns.owed; fresh = g.owns.fresh };
        tells = ((tt, (below, usable)), tt);
      }

  wide : place < length words
  wide =
      let first = given key words views id v k at k.base k.is_base in
      let whole : length k.shown ≡ words_in_all z = first.shows.whole ∙ ap words_in_all first.sizes in
      let within = entry_place-below z p i below in
      let same = k.near.whole in
      omega (arith, whole, within, same)

  usable_link : free_word (i + 1) ≢ no_access_word
  usable_link e = let few = k.few.few p in omega (arith, e, below, few)

  exchanged : (b : Bool) → (found == no_access_word) ≡ b → Kept key (set words place (either b (free_word (i + 1)) found)) (set views id link_view) × LinkedEntry v p i link_view
  exchanged true is =
      let closed : found ≡ no_access_word = grind (arith, nat_tests) in
      let near = LinkedEntriesStayNear-near z words k.shown p i k.near below (IsNear-closed p i k.near below closed) in
      let here = get_or-set_same words place (free_word (i + 1)) 0 wide in
      linked (set words place (free_word (i + 1))) near (linked_entry z words place (free_word (i + 1)) wide usable_link) (λ e. usable_link (sym here ∙ e))
  exchanged false is =
      let done = linked words k.near (λ q j less usable. usable) (grind (arith, nat_tests)) in
      (loads key words (set views id link_view) place done.0, done.1)

pub links_entry : (key : Opening) (slots id : ℕ) (me : Me (Unit {0}) View) (p : Space) (i : ℕ) → IsCaller key me.0 → i < limit_in (sizes_in me.0.opening) p →
    Keeps key slots id me (entry_place (sizes_in key) p i) (λ n. either (n == no_access_word) (free_word (i + 1)) n) (λ found w. LinkedEntry me.0 p i w)
links_entry key slots id me p i caller below =
    let limit : limit_in (sizes_in me.0.opening) p ≡ limit_in (sizes_in key) p = ap (λ o. limit_in (sizes_in o) p) caller.opened in
    let less : i < limit_in (sizes_in key) p = omega (arith, limit, below) in
    let place = entry_place (sizes_in key) p i in
    keeps_by key slots id me place (λ n. either (n == no_access_word) (free_word (i + 1)) n) (λ found w. LinkedEntry me.0 p i w) (λ words views k at.
    let done = exchanged key words views id me.0 k at caller p i less (slice_index words place == no_access_word) refl in
    (link_view key words views id me.0 k at caller p i less, done.0, done.1))
