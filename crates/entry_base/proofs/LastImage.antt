-- The image of a phase that ended.
use Rattle.std.proofs.Common.{◌≡◌, ℕ, ◌+◌, ◌*◌, ◌<◌, ◌≤◌, zero, suc, List, [], ◌∷◌, None, map, length, slice_index, get_or, Option, sym, ap, subst, ◌∙◌, refl, arith, ◌≢◌, set, below_more, get_or-set_other, get_or-set_same, length-set, ext_get_or}
use Rattle.std.proofs.lemmas.List.{length-map}
use mathlib.Core.Option.{some, some-injective, some-ne-none}
use Rattle.plain_table.specs.Words.{words_in_all}
use lib.ListN.{get_elem?}
use Rattle.atomic_table.specs.Table.{Final, Seen}
use Rattle.plain_table.specs.Table.{Table}
use Rattle.plain_table.specs.History.{IsLegalHistory, after}
use Rattle.word_laws.proofs.AreaReads.{AreaWordsTell-shown}
use Rattle.entry_base.specs.Lists.{Each, Has, count_in}
use Rattle.entry_base.specs.Hands.{LeavesToScan, grey}
use Rattle.plain_table.specs.Shows.{PendingCell, IsPending, Shows, IsCovered, IsShaded}
use Rattle.entry_base.specs.declared.view.Opening.{Opening}
use Rattle.entry_word.specs.declared.image.Pending.{Pending}
use Rattle.entry_word.specs.Image.{sizes_of}
use Rattle.entry_base.specs.declared.view.View.{View}
use Rattle.entry_base.specs.declared.view.Fact.TheVariants as fact
use Rattle.entry_base.specs.Facts.{IsKnown}
use Rattle.entry_base.specs.Numbers.{HasNumber, IsPhaseEvent}
use Rattle.entry_base.specs.Openings.{pending_cell, IsBase, sizes_in}
use Rattle.entry_base.specs.Rule.{Kept, Ruled, StateKept}
use Rattle.word_laws.specs.Small.{AreSmall}
use Rattle.entry_base.specs.Callers.{IsClosed}
use Rattle.entry_base.specs.Closing.{IsTableClosed}
use Rattle.entry_base.proofs.CutsStay.{hands_or_cut}
use Rattle.entry_base.proofs.Sums.{among, each_has}
use Rattle.entry_base.proofs.WholeHistory.{closes}
use Rattle.entry_base.proofs.ClosedWords.{closed_words}

-- read with the default of a cell that may be published, in place of one in an image
pending_back : (xs : List (Option Pending)) (b : ℕ) (d : Option PendingCell) → b < length xs → (d' : Option Pending) → get_or (map pending_cell xs) b d ≡ pending_cell (get_or xs b d')
pending_back xs b d low d' = go xs b low
  where
    go : (ys : List (Option Pending)) (i : ℕ) → i < length ys → get_or (map pending_cell ys) i d ≡ pending_cell (get_or ys i d')
    go [] i l = absurd (omega arith)
    go (y ∷ ys) zero l = refl
    go (y ∷ ys) (suc i) l = go ys i (omega arith)

-- the last state: its words, and the view of the closing session in it
pub record Last (key : Opening) (words : List ℕ) (v : View) : Type 0 where
  pub views : List View
  pub id : ℕ
  pub kept : Kept key words views
  pub at : get_elem? views id ≡ some v

pub last_of : (key : Opening) (id : ℕ) (v : View) (words : List ℕ) (slots : List (Unit {0})) → Final (Seen (Ruled key) id v) words slots → Last key words v
last_of key id v words slots f = record { views = f.0.views; id = id; kept = subst (λ ws. Kept key ws f.0.views) f.2 f.1.0; at = f.1.1 }

module _ (key : Opening) (words later : List ℕ) (v : View) (l : Last key words v) (all : (n : ℕ) → n ≤ 12 → HasNumber v n) (many : length v.vars ≡ 128) (eight : length v.pending ≡ 8)
    (done : IsTableClosed (sizes_in key) words later) (closed : Opening) (shape : closed.shape ≡ key.shape) (is_words : closed.words ≡ later) (is_vars : closed.vars ≡ v.vars) (is_pending : closed.pending ≡ v.pending) where
  whole : (l.kept.log ≡ v.seen) × Each IsPhaseEvent v.seen × ((b : Table) → IsBase key b → IsLegalHistory b v.seen × StateKept key v.seen l.kept.shown words l.views (after b v.seen))
  whole = closes key words l.views l.id v l.kept l.at all

  sizes : sizes_in closed ≡ sizes_in key
  sizes = ap sizes_of shape

  module _ (b : Table) (base : IsBase key b) where
    last : StateKept key v.seen l.kept.shown words l.views (after b v.seen)
    last = (whole.2 b base).1

    same : closed.words ≡ l.kept.shown
    same = is_words ∙ closed_words (sizes_in key) (after b v.seen) l.kept.shown words later last.sizes l.kept.few last.sound last.shows l.kept.near done

    last_base : IsBase closed (after b v.seen)
    last_base = let owns = last.owns l.id v l.at in record {
      sound = last.sound;
      shows = record {
        sizes = last.sizes ∙ sym sizes;
        words = subst (λ ws. Shows ws (after b v.seen)) (sym same) last.shows;
        variables = (ap length is_vars ∙ many, λ n i low less. ap (λ xs. slice_index xs (16 * n + i)) is_vars ∙ owns.variables n i (all n (omega arith)) low less);
        pending = (
          length-map closed.pending pending_cell ∙ (ap length is_pending ∙ eight),
          λ n d low. subst (IsPending (after b v.seen) ((after b v.seen).ticket n))
              (sym (pending_back closed.pending n d (let e = ap length is_pending in omega arith) None ∙ ap (λ (xs : List (Option Pending)). pending_cell (get_or xs n None)) is_pending))
              (owns.pending n None (all n (omega arith)) low),
        );
      };
      covered = subst (λ ws. IsCovered ws (after b v.seen)) (sym same) last.covered;
    }

  pub ends_closed : IsClosed key v.seen closed
  ends_closed =
      let base = l.kept.base in
      let is = l.kept.is_base in
      let st = last base is in
      let now = last_base base is in
      let small : AreSmall (sizes_in closed) = subst AreSmall (sym sizes) l.kept.few in record {
        sizes = sizes;
        lawful = record { legal = λ b base. (whole.2 b base).0; events = whole.1 };
        shows = last_base;
        openable = record { base = after base v.seen; is_base = now; small = small };
        phase = now.shows.words.phase ∙ st.phase;
        start = sym (AreaWordsTell-shown closed.words (after base v.seen) now.sound (subst AreSmall (sym now.shows.sizes) small) now.shows.words).start ∙ st.start;
      }

  -- what is left to scan
  pub leaves_to_scan : LeavesToScan v closed
  leaves_to_scan =
      let words_are : closed.words ≡ l.kept.shown = same l.kept.base l.kept.is_base in
      let greys : (o : ℕ) → grey (sizes_in closed) closed.words o ≡ grey (sizes_in key) l.kept.shown o = λ o i. grey (sizes i) (words_are i) o in record {
        hands = λ o. let a = greys o in let b = l.kept.hands o in let c = hands_or_cut l.kept.log l.views l.id v l.kept.numbers l.at all l.kept.cuts o in omega arith;
        held = λ o. let a = greys o in let b = l.kept.hands o in let c = among (λ (x : View). count_in o x.hands) l.views l.id v l.at in omega arith;
        shaded = λ o has. subst (λ ws. IsShaded ws o) (sym words_are)
            (each_has (IsKnown (sizes_in key) v.seen (after l.kept.base v.seen) l.kept.shown words) v.facts (fact.Shaded o) ((last l.kept.base l.kept.is_base).known l.id v l.at) has).1.1;
      }

-- what is known of the room and the session at the end
pub few_last : (key : Opening) (words : List ℕ) (v : View) → Last key words v → AreSmall (sizes_in key)
few_last key words v l = l.kept.few

pub got : (xs : List ℕ) (i x : ℕ) → get_elem? xs i ≡ some x → get_or xs i 0 ≡ x
got [] i x e = absurd (some-ne-none x (sym e))
got (y ∷ xs) zero x e = some-injective y x e
got (y ∷ xs) (suc i) x e = got xs i x e

-- the words read back
pub record ReadBack (from now : List ℕ) (count i : ℕ) : Type 0 where
  pub room : length now ≡ count
  pub done : (k : ℕ) → k < i → get_or now k 0 ≡ get_or from k 0

pub read_more : (from now : List ℕ) (count i x : ℕ) → ReadBack from now count i → i < count → get_elem? from i ≡ some x → ReadBack from (set now i x) count (i + 1)
read_more from now count i x r low is = record {
  room = length-set now i x ∙ r.room;
  done = below_more _ _
      (λ k l. let ne : k ≢ i = omega arith in get_or-set_other now i k x 0 ne ∙ r.done k l)
      (get_or-set_same now i x 0 (let l = r.room in omega arith) ∙ sym (got from i x is));
}

pub read_all : (from now : List ℕ) (count i : ℕ) → ReadBack from now count i → count ≤ i → length from ≡ count → now ≡ from
read_all from now count i r all long = ext_get_or 0 now from (r.room ∙ sym long) (λ k l. r.done k (let e = r.room in omega arith))

-- the last words of a table are as many as the first
pub last_long : (key : Opening) (words : List ℕ) (v : View) → Last key words v → length words ≡ words_in_all (sizes_in key)
last_long key words v l =
    let st = (l.kept.states l.kept.base l.kept.is_base).state in
    l.kept.near.whole ∙ (st.shows.whole ∙ ap words_in_all st.sizes)

pub ends_opened : (key : Opening) (words later : List ℕ) (v : View) (l : Last key words v) → v.opening ≡ key → ((n : ℕ) → n ≤ 12 → HasNumber v n) → length v.vars ≡ 128 → length v.pending ≡ 8
    → IsTableClosed (sizes_in key) words later → (closed : Opening) → closed.shape ≡ key.shape → closed.words ≡ later → closed.vars ≡ v.vars → closed.pending ≡ v.pending → IsClosed v.opening v.seen closed × LeavesToScan v closed
ends_opened key words later v l opened all many eight done closed shape is_words is_vars is_pending = (
  subst (λ k. IsClosed k v.seen closed) (sym opened) (ends_closed key words later v l all many eight done closed shape is_words is_vars is_pending),
  leaves_to_scan key words later v l all many eight done closed shape is_words is_vars is_pending,
)
