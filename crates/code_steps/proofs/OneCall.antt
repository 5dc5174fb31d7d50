-- The steps of a read and of a write, one after another.
use Rattle.std.proofs.Common.{◌≡◌, ◌≢◌, ℕ, ◌+◌, ◌-◌, ◌%◌, ◌==◌, Bool, true, if◌then◌else◌, arith, ◌≤◌, ◌<◌, List, [], ◌∷◌, ◌++◌, length, sym, ap, ◌∙◌, subst, append_assoc}
use Rattle.std.proofs.lemmas.Bool.Decides.{nat_tests}
use Rattle.code_steps.specs.declared.view.View.{View}
use Rattle.code_steps.specs.Lists.{Pair, Each, list_at, grown_at, EndsWith, store_of}
use Rattle.code_steps.specs.Views.{known_at}
use Rattle.code_steps.specs.Steps.{LoadedSequence, Claimed, Released, Stored}
use Rattle.code_steps.specs.Calls.{RiseFrom, Looked}
use Rattle.code_steps.proofs.Prefixes.{grown_here, grown_twice}

-- what is known after a load of the sequence
known_loaded : (v v1 : View) (at found : ℕ) → at < length v.shown → LoadedSequence v at found v1 → known_at v1 at ≡ known_at v at ++ found ∷ []
known_loaded v v1 at found low t =
    ap (λ (earlier : List (List ℕ)). list_at earlier at ++ list_at v1.shown at) t.same.earlier
    ∙ (ap (λ (l : List ℕ). list_at v.earlier at ++ l) (ap (λ shown. list_at shown at) t.shown ∙ grown_here v.shown at (found ∷ []) low)
    ∙ sym (append_assoc (list_at v.earlier at) (list_at v.shown at) (found ∷ [])))

-- a load of the sequence, of each number, and of the sequence again
module _ (v v1 v2 v3 v4 : View) (at first code entry second : ℕ) (low : at < length v.seen) (low_shown : at < length v.shown) (t1 : LoadedSequence v at first v1) (e2 : v2 ≡ record v1 { code = code }) (e3 : v3 ≡ record v2 { entry = entry }) (t4 : LoadedSequence v3 at second v4) where
  again : LoadedSequence (record v1 { code = code; entry = entry }) at second v4
  again = subst (λ (u : View). LoadedSequence u at second v4) (e3 ∙ ap (λ (u : View). record u { entry = entry }) e2) t4

  pub read_shown : v4.shown ≡ grown_at v.shown at (first ∷ second ∷ [])
  read_shown = again.shown ∙ (ap (λ shown. grown_at shown at (second ∷ [])) t1.shown ∙ grown_twice v.shown at (first ∷ []) (second ∷ []) low_shown)

  pub read_rises : RiseFrom (known_at v at) (first ∷ second ∷ [])
  read_rises = (t1.rises, (subst (Each (λ n. n ≤ second)) (known_loaded v v1 at first low_shown t1) again.rises, tt))

  pub read_looked : Looked v at v4
  read_looked = record { more = t1.more ++ again.more; seen = again.seen ∙ (ap (λ seen. grown_at seen at again.more) t1.seen ∙ grown_twice v.seen at t1.more again.more low); own = again.own ∙ t1.own }

  pub pair_shown : first ≡ second → v4.shown ≡ grown_at v.shown at (first ∷ first ∷ [])
  pair_shown same = read_shown ∙ ap (λ n. grown_at v.shown at (first ∷ n ∷ [])) (sym same)

  pub pair_ends : first ≡ second → first % 2 ≡ 0 → EndsWith v4.start (list_at v4.seen at) first (code, entry)
  pair_ends same even = subst (λ (n : ℕ). EndsWith v4.start (list_at v4.seen at) n (code, entry)) (sym same) (again.pair (sym t1.at) (sym same ∙ sym t1.first) (ap (λ (n : ℕ). n % 2) (sym same) ∙ even))

-- a load of the sequence and an exchange
claim_shown : (v v1 v2 : View) (at expected found : ℕ) → at < length v.shown → LoadedSequence v at expected v1 → Claimed v1 at expected found v2 → v2.shown ≡ grown_at v.shown at (expected ∷ found ∷ [])
claim_shown v v1 v2 at expected found low t1 t2 = t2.shown ∙ (ap (λ shown. grown_at shown at (found ∷ [])) t1.shown ∙ grown_twice v.shown at (expected ∷ []) (found ∷ []) low)

pub missed_shown : (v v1 v2 : View) (at expected found : ℕ) → at < length v.shown → LoadedSequence v at expected v1 → Claimed v1 at expected found v2 → expected % 2 ≢ 1
    → v2.shown ≡ grown_at v.shown at (if expected % 2 == 0 then expected ∷ found ∷ [] else expected ∷ [])
missed_shown v v1 v2 at expected found low t1 t2 even =
    let t : (expected % 2 == 0) ≡ true = grind (arith, nat_tests, even) in
    claim_shown v v1 v2 at expected found low t1 t2 ∙ ap (λ (b : Bool). grown_at v.shown at (if b then expected ∷ found ∷ [] else expected ∷ [])) (sym t)

pub claim_rises : (v v1 v2 : View) (at expected found : ℕ) → at < length v.shown → LoadedSequence v at expected v1 → Claimed v1 at expected found v2 → RiseFrom (known_at v at) (expected ∷ found ∷ [])
claim_rises v v1 v2 at expected found low t1 t2 = (t1.rises, (subst (Each (λ n. n ≤ found)) (known_loaded v v1 at expected low t1) t2.rises, tt))

-- and then a swap of each number, and the release
module _ (v v1 v2 v3 v4 v5 : View) (at expected found code entry seq : ℕ) (low : at < length v.seen) (low_shown : at < length v.shown) (t1 : LoadedSequence v at expected v1) (t2 : Claimed v1 at expected found v2) (e3 : v3 ≡ record v2 { code = code }) (e4 : v4 ≡ record v3 { entry = entry }) (t5 : Released v4 at seq v5) where
  done : Released (record v2 { code = code; entry = entry }) at seq v5
  done = subst (λ (u : View). Released u at seq v5) (e4 ∙ ap (λ (u : View). record u { entry = entry }) e3) t5

  pub write_shown : found ≡ expected → seq ≡ expected + 2 → v5.shown ≡ grown_at v.shown at ((seq - 2) ∷ (seq - 2) ∷ [])
  write_shown same next =
      let first : expected ≡ seq - 2 = omega arith in
      done.shown ∙ (claim_shown v v1 v2 at expected found low_shown t1 t2 ∙ (λ j. grown_at v.shown at (first j ∷ (same ∙ first) j ∷ [])))

  pub write_stored : Stored v at seq (code, entry) v5
  write_stored =
      let s = done.stored in
      let p : Pair = (code, entry) in
      let was : v2.seen ≡ grown_at v.seen at t1.more = t2.seen ∙ t1.seen in record {
        between = t1.more ++ s.between;
        seen = s.seen ∙ (ap (λ seen. grown_at seen at (s.between ++ p ∷ [])) was ∙ (grown_twice v.seen at t1.more (s.between ++ p ∷ []) low ∙ ap (grown_at v.seen at) (sym (append_assoc t1.more s.between (p ∷ [])))));
        ends = s.ends;
        own = s.own ∙ ap (λ own. own ++ store_of at seq p ∷ []) (t2.own ∙ t1.own);
      }
