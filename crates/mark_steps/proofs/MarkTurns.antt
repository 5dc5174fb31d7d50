-- The ways through a mark: the load finds no cell, or a marked one; or the exchange sets the mark, or finds it set.
use Rattle.std.proofs.Common.{◌≡◌, ◌≢◌, ℕ, ◌/◌, ◌%◌, ◌^◌, ◌<◌, Bool, true, false, [], ◌∷◌, ◌++◌, refl, sym, subst, ◌∙◌, arith, append_assoc}
use Rattle.std.proofs.lemmas.Bool.Decides.{nat_tests}
use Rattle.plain_table.specs.declared.events.Act.TheVariants as act
use Rattle.plain_table.specs.declared.events.Event.{Event}
use Rattle.plain_table.specs.declared.events.Field.{Field}
use Rattle.plain_table.specs.declared.events.Space.{Space}
use Rattle.plain_table.specs.declared.reports.Reply.TheVariants as reply
use Rattle.plain_table.specs.History.{IsLegalHistory, after}
use Rattle.plain_table.specs.Index.{index_of}
use Rattle.plain_table.specs.Places.{space_of}
use Rattle.plain_table.specs.Table.{limit_in}
use Rattle.plain_table.proofs.Options.{IsSomeAnd-is, IsSomeAnd-some, IsSome-value}
use Rattle.word_laws.specs.ReadLaws.{has_mark, tag_bits}
use Rattle.entry_base.specs.declared.view.View.{View}
use Rattle.entry_base.specs.Callers.{event_of}
use Rattle.entry_base.specs.Numbers.{HasNumber}
use Rattle.entry_base.specs.Openings.{sizes_in}
use Rattle.mark_rule.specs.Marking.{EntryLoaded, HasMarkAfter, IsMarkedWord, MarkExchanged, MarkLoaded, Marked, NoneThere, SomeThere}
use Rattle.call_base.specs.Called.{Called}
use Rattle.call_base.proofs.CallsInOrder.{called_extends, called_looks, called_then, own_number}
use Rattle.call_base.proofs.HistoriesStay.{legal_rest}
use Rattle.mark_steps.specs.Marks.{HadMark}

-- a cell stood where a mark was legal
mark_found : (v w : View) (p : Space) (i : ℕ) (had : Bool) (m : Marked v p i had w) → SomeThere v.opening m.before p i
mark_found v w p i had m b base =
    let s = after b m.before in
    let legal = (legal_rest b m.before (event_of v (act.Mark p i) reply.Ok ∷ []) (subst (IsLegalHistory b) m.last (m.extends.lawful.legal b base))).0 in
    let c = IsSome-value s.cycle (IsSomeAnd-some s.cycle _ legal.0) in
    (IsSomeAnd-is s.cycle _ c.0 c.1 legal.0).0

module _ (v : View) (f : Field) (word found : ℕ) (w : View) (own : HasNumber v v.number) (below : index_of word < limit_in (sizes_in v.opening) (space_of f)) (l : MarkLoaded v f word found w) where
  abbrev p : Space
  p = space_of f

  abbrev i : ℕ
  i = index_of word

  -- no cell stands there
  module _ (untagged : tag_bits found ≡ 0) where
    none : EntryLoaded v f word found w
    none = l.unmarked (λ m. m.0 untagged)

    pub none_called : Called v [] w
    none_called = called_looks v w own none.loaded.same none.loaded.looks

    pub none_cause : NoneThere v.opening w.seen p i
    none_cause = none.none untagged

  -- the load finds the mark
  module _ (is : IsMarkedWord found) where
    found_mark : Marked v p i true w
    found_mark = l.marked is

    pub load_called : Called v (event_of v (act.Mark p i) reply.Ok ∷ []) w
    load_called = called_extends v w (event_of v (act.Mark p i) reply.Ok) refl own found_mark.same found_mark.extends

    pub load_cause : HadMark v p i true w
    load_cause = record {
      found = record {
        below = below;
        load = found_mark.before;
        since = found_mark.since;
        until = (event_of v (act.Mark p i) reply.Ok ∷ [], found_mark.last);
        stood = mark_found v w p i true found_mark;
      };
      before = found_mark.before;
      last = found_mark.last;
      was = found_mark.was;
    }

  -- the exchange is made
  module _ (tagged : tag_bits found ≢ 0) (unmarked : IsMarkedWord found → ⊥) (entry got : ℕ) (u : View) (x : MarkExchanged w p i entry got u) where
    stands : EntryLoaded v f word found w
    stands = l.unmarked unmarked

    abbrev e : Event
    e = event_of v (act.Mark p i) reply.Ok

    marked : Marked w p i (has_mark got) u
    marked = x.marked

    pub exchange_called : Called v (e ∷ []) u
    exchange_called = called_then v w u [] (λ b. record { by = b; act = act.Mark p i; said = reply.Ok } ∷ []) (called_looks v w own stands.loaded.same stands.loaded.looks)
        (called_extends w u (event_of w (act.Mark p i) reply.Ok) refl (own_number v w stands.loaded.same own) marked.same marked.extends)

    last : u.seen ≡ marked.before ++ e ∷ []
    last = subst (λ b. u.seen ≡ marked.before ++ record { by = b; act = act.Mark p i; said = reply.Ok } ∷ []) stands.loaded.same.number marked.last

    pub exchange_cause : (had : Bool) → has_mark got ≡ had → HadMark v p i had u
    exchange_cause had is = record {
      found = record {
        below = below;
        load = w.seen;
        since = (stands.loaded.looks.between, stands.loaded.looks.seen);
        until = (marked.extends.between ++ event_of w (act.Mark p i) reply.Ok ∷ [], marked.extends.seen ∙ append_assoc w.seen marked.extends.between (event_of w (act.Mark p i) reply.Ok ∷ []));
        stood = stands.some tagged;
      };
      before = marked.before;
      last = last;
      was = subst (HasMarkAfter v.opening marked.before p i) is (subst (λ o. HasMarkAfter o marked.before p i (has_mark got)) stands.loaded.same.opening marked.was);
    }

-- the limit of the space of a field, and the bits of entry words
pub below_as : (v : View) (f : Field) (p : Space) (i : ℕ) → space_of f ≡ p → i < limit_in (sizes_in v.opening) p → i < limit_in (sizes_in v.opening) (space_of f)
below_as v f p i spaced below = subst (λ q. i < limit_in (sizes_in v.opening) q) (sym spaced) below

pub marked_word : (found : ℕ) → tag_bits found ≢ 0 → found / 2 ^ 62 % 2 ≡ 1 → IsMarkedWord found
marked_word found tagged bit = (tagged, (let t : has_mark found ≡ true = grind (arith, nat_tests) in t))

pub no_mark_word : (found : ℕ) → found / 2 ^ 62 % 2 ≢ 1 → IsMarkedWord found → ⊥
no_mark_word found bit is = bit (let t : has_mark found ≡ true = is.1 in grind (arith, nat_tests))

pub clear_word : (n : ℕ) → n < 2 ^ 62 → has_mark n ≡ false
clear_word n low = let ne : n / 2 ^ 62 % 2 ≢ 1 = λ e. absurd (omega (arith, low, e)) in let t : has_mark n ≡ false = grind (arith, nat_tests) in t

pub exchanged_as : (v : View) (f : Field) (p : Space) (i entry got : ℕ) (w : View) → space_of f ≡ p → MarkExchanged v p i entry got w → MarkExchanged v (space_of f) i entry got w
exchanged_as v f p i entry got w spaced x = subst (λ q. MarkExchanged v q i entry got w) (sym spaced) x
