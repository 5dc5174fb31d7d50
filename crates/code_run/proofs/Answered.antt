-- One more answer after those of the earlier calls.
use Rattle.std.proofs.Common.{◌≡◌, ◌≢◌, ℕ, ◌+◌, ◌%◌, ◌<◌, ◌⊎◌, inl, inr, ◌==◌, Bool, true, false, if◌then◌else◌, List, [], ◌∷◌, ◌++◌, length, sym, ap, ◌∙◌, subst, arith, append_assoc, append-nil}
use Rattle.std.proofs.lemmas.Bool.Decides.{nat_tests}
use Rattle.std.specs.List.{flat_map, enumerate_from}
use Rattle.code_steps.specs.declared.view.View.{View}
use Rattle.code_steps.specs.declared.calls.CodeRead.{CodeRead}
use Rattle.code_steps.specs.declared.calls.CodeRead.TheVariants.{Pair as PairRead, Again}
use Rattle.code_steps.specs.Lists.{StartsWith, Each, list_at, grown_at}
use Rattle.code_steps.proofs.Prefixes.{same_or_not, grown_here, grown_else, each_map, starts_trans}
use Rattle.code_run.specs.Calls.{entry_of, shown_at, StandsIn, AllStandIn}

-- what each call gives, for one call more
pub flat_map_calls : {A B : Type 0} (g : ℕ × A → List B) (n : ℕ) (xs : List A) (x : A) → flat_map g (enumerate_from n (xs ++ x ∷ [])) ≡ flat_map g (enumerate_from n xs) ++ g (n + length xs, x)
flat_map_calls g n [] x = append-nil (g (n, x)) ∙ ap (λ (m : ℕ). g (m, x)) (let e : n ≡ n + 0 = omega arith in e)
flat_map_calls g n (y ∷ ys) x =
    let here : g (n + 1 + length ys, x) ≡ g (n + length (y ∷ ys), x) = ap (λ (m : ℕ). g (m, x)) (omega arith) in
    ap (λ l. g (n, y) ++ l) (flat_map_calls g (n + 1) ys x ∙ ap (λ l. flat_map g (enumerate_from (n + 1) ys) ++ l) here)
    ∙ sym (append_assoc (g (n, y)) (flat_map g (enumerate_from (n + 1) ys)) (g (n + length (y ∷ ys), x)))

pub each_calls : {A : Type 0} (P : ℕ × A → Type 0) (n : ℕ) (xs : List A) (x : A) → Each P (enumerate_from n xs) → P (n + length xs, x) → Each P (enumerate_from n (xs ++ x ∷ []))
each_calls P n [] x all last = (subst (λ (m : ℕ). P (m, x)) (let e : n + 0 ≡ n = omega arith in e) last, tt)
each_calls P n (y ∷ ys) x all last = (all.0, each_calls P (n + 1) ys x all.1 (subst (λ (m : ℕ). P (m, x)) (let e : n + length (y ∷ ys) ≡ n + 1 + length ys = omega arith in e) last))

-- the list of any entry, where that of entry k grew
pub list_at-grown_at : {A : Type 0} (ls : List (List A)) (i k : ℕ) (more : List A) → k < length ls → list_at (grown_at ls k more) i ≡ list_at ls i ++ (if k == i then more else [])
list_at-grown_at {A} ls i k more low = go (same_or_not i k)
  where
    go : (i ≡ k) ⊎ (i ≢ k) → list_at (grown_at ls k more) i ≡ list_at ls i ++ (if k == i then more else [])
    go (inl is) =
        let t : (k == i) ≡ true = grind (arith, nat_tests) in
        ap (λ (n : ℕ). list_at (grown_at ls k more) n) is
        ∙ (grown_here ls k more low
        ∙ (ap (λ (n : ℕ). list_at ls n ++ more) (sym is) ∙ ap (λ (b : Bool). list_at ls i ++ (if b then more else [])) (sym t)))
    go (inr ne) =
        let t : (k == i) ≡ false = grind (arith, nat_tests) in
        grown_else ls k i more ne
        ∙ (sym (append-nil (list_at ls i)) ∙ ap (λ (b : Bool). list_at ls i ++ (if b then more else [])) (sym t))

-- what was shown, for one call more
pub shown_more : {A : Type 0} (shown_by : A → List ℕ) (shown after : List (List ℕ)) (answers : List A) (x : A) (turn i : ℕ) → length answers ≡ turn → turn % 4 < length shown → after ≡ grown_at shown (turn % 4) (shown_by x)
    → list_at shown i ≡ shown_at shown_by i answers → list_at after i ≡ shown_at shown_by i (answers ++ x ∷ [])
shown_more shown_by shown after answers x turn i long low is was =
    let now : (0 + length answers) % 4 ≡ turn % 4 = ap (λ (n : ℕ). n % 4) (let e : 0 + length answers ≡ turn = omega arith in e) in
    ap (λ ls. list_at ls i) is
    ∙ (list_at-grown_at shown i (turn % 4) (shown_by x) low
    ∙ (ap (λ l. l ++ (if turn % 4 == i then shown_by x else [])) was
    ∙ (ap (λ (n : ℕ). shown_at shown_by i answers ++ (if n == i then shown_by x else [])) (sym now)
    ∙ sym (flat_map_calls (λ call. if entry_of call.0 == i then shown_by call.1 else []) 0 answers x))))

-- a pair that stands in a list stands in the longer one
stays : (v w : View) (turn : ℕ) (x : CodeRead) → w.start ≡ v.start → StartsWith (list_at w.seen (entry_of turn)) (list_at v.seen (entry_of turn)) → StandsIn v turn x → StandsIn w turn x
stays v w turn (PairRead code entry seq) same grows (l, begins, ends) =
    (l, starts_trans (list_at w.seen (entry_of turn)) (list_at v.seen (entry_of turn)) l grows begins, record { before = ends.before; is = ends.is; place = let a = ends.place in omega arith })
stays v w turn (Again first second) same grows stands = tt

pub all_stay : (v w : View) (answers : List CodeRead) → w.start ≡ v.start → ((i : ℕ) → StartsWith (list_at w.seen i) (list_at v.seen i)) → AllStandIn v answers → AllStandIn w answers
all_stay v w answers same grows all = each_map (λ call. StandsIn v call.0 call.1) (λ call. StandsIn w call.0 call.1) (enumerate_from 0 answers) (λ call stands. stays v w call.0 call.1 same (grows (entry_of call.0)) stands) all
