-- What the four seats of a run know together, when they were joined.
use Rattle.std.proofs.Common.{◌≡◌, ℕ, zero, suc, ◌+◌, ◌*◌, ◌-◌, ◌^◌, ◌%◌, ◌/◌, ◌≤◌, ◌<◌, ◌==◌, nat_lt, Bool, true, false, if◌then◌else◌, [], ◌∷◌, ◌++◌, length, get_or, refl, sym, ap, ◌∙◌, subst, arith, ⊎_elim, length-append, append_assoc, append-nil}
use Rattle.std.proofs.lemmas.Bool.{cases_lt}
use Rattle.std.proofs.lemmas.Bool.Decides.{nat_tests}
use Rattle.code_steps.specs.declared.view.View.{View}
use Rattle.code_steps.specs.declared.view.Store.{Store}
use Rattle.code_steps.specs.Lists.{Pair, StartsWith, Each, total, list_at, in_turn, all_stores, IsSeenStore, EndsWith}
use Rattle.code_steps.specs.Views.{giver, both, IsWhole, OwnsSeen}
use Rattle.code_steps.specs.Calls.{shown_by_write, shown_by_read}
use Rattle.code_steps.proofs.Totals.{total_append}
use Rattle.code_steps.proofs.Prefixes.{starts_trans, starts_read, each_map, of_both_at, of_both_long}
use Rattle.code_run.specs.declared.workers.WriteCounts.{WriteCounts}
use Rattle.code_run.specs.declared.workers.ReadCounts.{ReadCounts}
use Rattle.code_run.specs.declared.run.CodeReport.{CodeReport}
use Rattle.code_run.specs.Calls.{is_bad, Answers, Answered, Counts, shown_at, shown_in_run, stores_of, AllStandIn}
use Rattle.code_run.specs.Runs.{opening_lists, IsOpen, IsStoreOf, IsStoreOfRun, of_code, Ran}
use Rattle.code_run.specs.Workers.{of_entry, moved, is_last, marks, WroteCalls, ReadCalls}
use Rattle.code_run.proofs.Calls.{other_code}
use Rattle.code_run.proofs.Answered.{all_stay}
use Rattle.code_run.proofs.Sums.{all_total, total_at, total_both, total_each_starts, total_ones, total_lengths, total_none, total_all_none, each_of_none, all_count, all_pairs}

-- one join
module _ (v u w : View) (is : w ≡ both v u) (same : length v.shown ≡ length u.shown) where
  own_joined : (h : Store → ℕ) → total h w.own ≡ total h v.own + total h u.own
  own_joined h = ap (λ (x : View). total h x.own) is ∙ total_append h v.own u.own

  shown_joined : (f : ℕ → ℕ) → all_total f w.shown ≡ all_total f v.shown + all_total f u.shown
  shown_joined f = ap (λ (x : View). all_total f x.shown) is ∙ total_both f v.shown u.shown same

  shown_joined_at : (i : ℕ) → list_at w.shown i ≡ list_at v.shown i ++ list_at u.shown i
  shown_joined_at i = ap (λ (x : View). list_at x.shown i) is ∙ of_both_at in_turn v.shown u.shown i refl same

  lengths_joined : total length w.shown ≡ total length v.shown + total length u.shown
  lengths_joined = let a = shown_joined (λ _. 1) in let b = total_lengths w.shown in let c = total_lengths v.shown in let d = total_lengths u.shown in omega arith

  marks_joined : (i : ℕ) → marks i w ≡ marks i v + marks i u
  marks_joined i =
      let a = own_joined (of_entry i) in
      let b : total moved (list_at w.shown i) ≡ total moved (list_at v.shown i ++ list_at u.shown i) = ap (λ (x : View). total moved (list_at x.shown i)) is ∙ ap (total moved) (of_both_at in_turn v.shown u.shown i refl same) in
      let c = total_append moved (list_at v.shown i) (list_at u.shown i) in
      omega arith

-- 0 for a store of the run
abbrev strange : Bool → Bool → Bool → ℕ
strange below at entry = if below then (if at then (if entry then 0 else 1) else 1) else 1

abbrev not_of_run : ℕ → Store → ℕ
not_of_run n x = strange (nat_lt x.code (2 * n)) (x.at == (x.code / 2) % 4) (x.entry == 2 ^ 32 + x.code)

of_run : (n w : ℕ) → w < 2 → (x : Store) → IsStoreOf w n x → not_of_run n x ≡ 0
of_run n w low x s =
    let code = s.code in
    let below = s.below in
    let at = s.at in
    let entry = s.entry in
    let half : x.code / 2 ≡ s.turn = omega arith in
    let a : nat_lt x.code (2 * n) ≡ true = let l : x.code < 2 * n = omega arith in grind (arith, nat_tests, l) in
    let b : (x.at == (x.code / 2) % 4) ≡ true = let e : x.at ≡ (x.code / 2) % 4 = at ∙ ap (λ (m : ℕ). m % 4) (sym half) in grind (arith, nat_tests, e) in
    let d : (x.entry == 2 ^ 32 + x.code) ≡ true = let e : x.entry ≡ 2 ^ 32 + x.code = entry ∙ ap (λ (m : ℕ). 2 ^ 32 + m) (sym code) in grind (arith, nat_tests, e) in
    (λ j. strange (a j) (b j) (d j))

is_of_run : (n : ℕ) (x : Store) → not_of_run n x ≡ 0 → IsStoreOfRun n x
is_of_run n x none = go (nat_lt x.code (2 * n)) refl (x.at == (x.code / 2) % 4) refl (x.entry == 2 ^ 32 + x.code) refl none
  where
    go : (a : Bool) → nat_lt x.code (2 * n) ≡ a → (b : Bool) → (x.at == (x.code / 2) % 4) ≡ b → (d : Bool) → (x.entry == 2 ^ 32 + x.code) ≡ d → strange a b d ≡ 0 → IsStoreOfRun n x
    go true a true b true d z =
        let below : x.code < 2 * n = grind (arith, nat_tests) in
        let at : x.at ≡ (x.code / 2) % 4 = grind (arith, nat_tests) in
        let entry : x.entry ≡ 2 ^ 32 + x.code = grind (arith, nat_tests) in
        let code : x.code ≡ 2 * (x.code / 2) + x.code % 2 = omega arith in
        (x.code % 2, omega arith, record { turn = x.code / 2; below = omega arith; at = at; code = code; entry = entry ∙ ap (λ (m : ℕ). 2 ^ 32 + m) code })
    go true a true b false d z = absurd (omega arith)
    go true a false b d' d z = absurd (omega arith)
    go false a b' b d' d z = absurd (omega arith)

good_store : (w n : ℕ) (x : Store) → IsStoreOf w n x → is_bad (x.code, x.entry) ≡ 0
good_store w n x s =
    let e : x.entry ≡ 2 ^ 32 + x.code = s.entry ∙ ap (λ (m : ℕ). 2 ^ 32 + m) (sym s.code) in
    let t : (x.entry == 2 ^ 32 + x.code) ≡ true = grind (arith, nat_tests, e) in
    ap (λ (b : Bool). if b then 0 else 1) t

not_moved : (m : ℕ) → m ≤ 0 → moved m ≡ 0
not_moved m low = let t : (m == 0) ≡ true = grind (arith, nat_tests) in ap (λ (b : Bool). if b then 0 else 1) t

not_last : (m : ℕ) → m ≤ 5000 → is_last m ≡ 0
not_last m low = let t : (m == 2 ^ 64 - 2) ≡ false = grind (arith, nat_tests) in ap (λ (b : Bool). if b then 1 else 0) t

opening_at : (i : ℕ) → i < 4 → list_at opening_lists i ≡ (0, 2 ^ 32) ∷ []
opening_at zero low = refl
opening_at (suc zero) low = refl
opening_at (suc (suc zero)) low = refl
opening_at (suc (suc (suc zero))) low = refl
opening_at (suc (suc (suc (suc i)))) low = absurd (omega arith)

module _ (old s a b c d t1 t2 t3 w xa xb xc xd : View) (n : ℕ) (wa wb : WriteCounts) (rc rd : ReadCounts) (most : n ≤ 1000) (opened : IsOpen old) (is_s : s ≡ giver (giver (giver (giver old))))
    (A : WroteCalls xa 0 n a wa) (B : WroteCalls xb 1 n b wb) (C : ReadCalls xc n c rc) (D : ReadCalls xd n d rd)
    (parts_before : (xa.parts ≡ 1) × (xb.parts ≡ 1) × (xc.parts ≡ 1) × (xd.parts ≡ 1)) (start_c : xc.start ≡ 0) (start_d : xd.start ≡ 0)
    (is1 : t1 ≡ both s a) (is2 : t2 ≡ both t1 b) (is3 : t3 ≡ both t2 c) (is4 : w ≡ both t3 d)
    (b1 : (i : ℕ) → StartsWith (list_at t1.seen i) (list_at s.seen i) × StartsWith (list_at t1.seen i) (list_at a.seen i))
    (b2 : (i : ℕ) → StartsWith (list_at t2.seen i) (list_at t1.seen i) × StartsWith (list_at t2.seen i) (list_at b.seen i))
    (b3 : (i : ℕ) → StartsWith (list_at t3.seen i) (list_at t2.seen i) × StartsWith (list_at t3.seen i) (list_at c.seen i))
    (b4 : (i : ℕ) → StartsWith (list_at w.seen i) (list_at t3.seen i) × StartsWith (list_at w.seen i) (list_at d.seen i))
    (shown_s : length s.shown ≡ 4) (shown_a : length a.shown ≡ 4) (shown_b : length b.shown ≡ 4) (shown_c : length c.shown ≡ 4) (shown_d : length d.shown ≡ 4) (shown_1 : length t1.shown ≡ 4) (shown_2 : length t2.shown ≡ 4) (shown_3 : length t3.shown ≡ 4)
    (seen_w : length w.seen ≡ 4) (seen_c : length c.seen ≡ 4) (seen_d : length d.seen ≡ 4)
    (whole : w.parts ≡ 16 → IsWhole w) (owns : OwnsSeen w) where
  abbrev report : CodeReport
  report = record { done = wa.done + wb.done; busy = wa.busy + wb.busy; pairs = rc.pairs + rd.pairs; again = rc.again + rd.again; bad = rc.bad + rd.bad }

  all_parts : w.parts ≡ 16
  all_parts =
      let p0 : s.parts ≡ old.parts - 1 - 1 - 1 - 1 = ap (λ (x : View). x.parts) is_s in
      let p1 : t1.parts ≡ s.parts + a.parts = ap (λ (x : View). x.parts) is1 in
      let p2 : t2.parts ≡ t1.parts + b.parts = ap (λ (x : View). x.parts) is2 in
      let p3 : t3.parts ≡ t2.parts + c.parts = ap (λ (x : View). x.parts) is3 in
      let p4 : w.parts ≡ t3.parts + d.parts = ap (λ (x : View). x.parts) is4 in
      let o = opened.parts in
      let pa = A.parts in let pb = B.parts in let pc = C.parts in let pd = D.parts in
      let xs = parts_before in
      omega arith

  start : w.start ≡ 0
  start = ap (λ (x : View). x.start) is4 ∙ (ap (λ (x : View). x.start) is3 ∙ (ap (λ (x : View). x.start) is2 ∙ (ap (λ (x : View). x.start) is1 ∙ (ap (λ (x : View). x.start) is_s ∙ opened.start))))

  all : IsWhole w
  all = whole all_parts

  -- the stores are those of the two writers
  stores_total : (h : Store → ℕ) → total h (all_stores 0 0 w.seen) ≡ total h a.own + total h b.own
  stores_total h =
      let o0 : total h s.own ≡ 0 = ap (λ (x : View). total h x.own) is_s ∙ ap (total h) opened.own in
      let o1 = own_joined s a t1 is1 (shown_s ∙ sym shown_a) h in
      let o2 = own_joined t1 b t2 is2 (shown_1 ∙ sym shown_b) h in
      let o3 = own_joined t2 c t3 is3 (shown_2 ∙ sym shown_c) h in
      let o4 = own_joined t3 d w is4 (shown_3 ∙ sym shown_d) h in
      let oc : total h c.own ≡ 0 = ap (total h) C.own in
      let od : total h d.own ≡ 0 = ap (total h) D.own in
      let e : total h (all_stores 0 w.start w.seen) ≡ total h (all_stores 0 0 w.seen) = ap (λ (m : ℕ). total h (all_stores 0 m w.seen)) start in
      let f = all.stores h in
      omega arith

  count : total (λ (_ : Store). 1) (all_stores 0 0 w.seen) ≡ wa.done + wb.done
  count = let e = stores_total (λ _. 1) in let f = total_ones a.own in let g = total_ones b.own in let h = A.count in let i = B.count in omega arith

  begins : (i : ℕ) → StartsWith (list_at w.seen i) (list_at old.seen i)
  begins i = subst (λ (x : View). StartsWith (list_at w.seen i) (list_at x.seen i)) is_s
      (starts_trans (list_at w.seen i) (list_at t3.seen i) (list_at s.seen i) (b4 i).0 (starts_trans (list_at t3.seen i) (list_at t2.seen i) (list_at s.seen i) (b3 i).0 (starts_trans (list_at t2.seen i) (list_at t1.seen i) (list_at s.seen i) (b2 i).0 (b1 i).0)))

  -- the sequence of the last pair of each list
  length_end : (i : ℕ) (p : Pair) (seq : ℕ) → EndsWith w.start (list_at w.seen i) seq p → seq + 2 ≡ 2 * length (list_at w.seen i)
  length_end i p seq e =
      let f = ap length e.is in
      let g = length-append e.before (p ∷ []) in
      let h = e.place in
      let z = start in
      omega arith

  some : (i : ℕ) → i < length w.seen → 1 ≤ length (list_at w.seen i)
  some i low = let e = all.ends i low in let f = length_end i e.0 e.1 e.2 in omega arith

  grown : total length w.seen ≡ total length old.seen + (wa.done + wb.done)
  grown =
      let e = all_count 0 0 w.seen some in
      let f = count in
      let g : total length old.seen ≡ 4 = ap (total length) opened.seen in
      let h = seen_w in
      omega arith

  -- no list has more pairs than all
  no_longer : (i : ℕ) → length (list_at w.seen i) ≤ 4 + (wa.done + wb.done)
  no_longer i =
      let e = total_at (λ _. 1) w.seen i in
      let f = total_ones (list_at w.seen i) in
      let g = total_lengths w.seen in
      let h = grown in
      let j : total length old.seen ≡ 4 = ap (total length) opened.seen in
      omega arith

  none_spent : wa.spent + wb.spent ≡ 0
  none_spent =
      let e = shown_joined s a t1 is1 (shown_s ∙ sym shown_a) is_last in
      let f = shown_joined t1 b t2 is2 (shown_1 ∙ sym shown_b) is_last in
      let g = shown_joined t2 c t3 is3 (shown_2 ∙ sym shown_c) is_last in
      let h = shown_joined t3 d w is4 (shown_3 ∙ sym shown_d) is_last in
      let sa = A.spent in
      let sb = B.spent in
      let shown_w : length w.shown ≡ 4 = ap (λ (x : View). length x.shown) is4 ∙ (of_both_long in_turn t3.shown d.shown (shown_3 ∙ sym shown_d) ∙ shown_3) in
      let none = total_all_none (λ m. m ≤ 5000) is_last not_last w.shown (λ i low.
      let x = all.ends i (let y = shown_w in let z = seen_w in omega arith) in
      let l = length_end i x.0 x.1 x.2 in
      let short = no_longer i in
      let ma = A.made in
      let mb = B.made in
      each_map (λ m. m ≤ x.1) (λ m. m ≤ 5000) (list_at w.shown i) (λ m le. omega arith) x.3) in
      omega arith

  none_bad : all_total is_bad w.seen ≡ 0
  none_bad =
      let first : (i : ℕ) → i < length w.seen → is_bad (get_or (list_at w.seen i) 0 (0, 0)) ≡ 0 = λ i low.
      let four : i < 4 = let z = seen_w in omega arith in
      let here : list_at old.seen i ≡ (0, 2 ^ 32) ∷ [] = ap (λ ls. list_at ls i) opened.seen ∙ opening_at i four in
      let long = ap length here in
      ap is_bad (starts_read (list_at w.seen i) (list_at old.seen i) 0 (0, 0) (begins i) (omega arith) ∙ ap (λ l. get_or l 0 (0, 0)) here) in
      let e = all_pairs is_bad 0 0 w.seen first in
      let f = stores_total (λ (x : Store). is_bad (x.code, x.entry)) in
      let g = total_none (IsStoreOf 0 n) (λ (x : Store). is_bad (x.code, x.entry)) (good_store 0 n) a.own A.own in
      let h = total_none (IsStoreOf 1 n) (λ (x : Store). is_bad (x.code, x.entry)) (good_store 1 n) b.own B.own in
      omega arith

  good : rc.bad + rd.bad ≡ 0
  good =
      let e = none_bad in
      let f = total_each_starts is_bad w.seen c.seen (seen_w ∙ sym seen_c) (λ i. starts_trans (list_at w.seen i) (list_at t3.seen i) (list_at c.seen i) (b4 i).0 (b3 i).1) in
      let g = total_each_starts is_bad w.seen d.seen (seen_w ∙ sym seen_d) (λ i. (b4 i).1) in
      let h = C.bad in
      let j = D.bad in
      let kc : rc.bad ≡ 0 = ⊎_elim (λ (l : 0 < rc.bad). let x = C.bad l in absurd (omega arith)) (λ (l : rc.bad ≤ 0). omega arith) (cases_lt 0 rc.bad) in
      let kd : rd.bad ≡ 0 = ⊎_elim (λ (l : 0 < rd.bad). let x = D.bad l in absurd (omega arith)) (λ (l : rd.bad ≤ 0). omega arith) (cases_lt 0 rd.bad) in
      omega arith

  once : (code : ℕ) → total (of_code code) (all_stores 0 0 w.seen) ≤ 1
  once code = ⊎_elim
      (λ (odd : 0 < code % 2).
      let e = stores_total (of_code code) in
      let f = B.once code in
      let g = total_none (IsStoreOf 0 n) (of_code code) (λ x h. other_code code x (λ is. let i = h.code in omega arith)) a.own A.own in
      omega arith)
      (λ (even : code % 2 ≤ 0).
      let e = stores_total (of_code code) in
      let f = A.once code in
      let g = total_none (IsStoreOf 1 n) (of_code code) (λ x h. other_code code x (λ is. let i = h.code in omega arith)) b.own B.own in
      omega arith)
      (cases_lt 0 (code % 2))

  of_both_writers : Each (IsStoreOfRun n) (all_stores 0 0 w.seen)
  of_both_writers =
      let e = stores_total (not_of_run n) in
      let f = total_none (IsStoreOf 0 n) (not_of_run n) (of_run n 0 (omega arith)) a.own A.own in
      let g = total_none (IsStoreOf 1 n) (not_of_run n) (of_run n 1 (omega arith)) b.own B.own in
      each_of_none (IsStoreOfRun n) (not_of_run n) (is_of_run n) (all_stores 0 0 w.seen) (omega arith)

  -- no own store and no sequence above 0 in a list that has its opening pair alone
  unmarked : (i : ℕ) → i < 4 → length (list_at w.seen i) ≤ 1 → marks i w ≡ 0
  unmarked i low short =
      let x = all.ends i (let z = seen_w in omega arith) in
      let l = length_end i x.0 x.1 x.2 in
      let e = total_none (IsSeenStore w.start w.seen w.seen) (of_entry i) (λ y h. go y h (y.at == i) refl) w.own owns in
      let f = total_none (λ m. m ≤ x.1) moved (λ m le. not_moved m (omega arith)) (list_at w.shown i) x.3 in
      omega arith
    where
      go : (y : Store) → IsSeenStore w.start w.seen w.seen y → (t : Bool) → (y.at == i) ≡ t → (if t then suc zero else zero) ≡ zero
      go y h true t =
          let same : y.at ≡ i = grind (arith, nat_tests) in
          let within : h.place < length (list_at w.seen i) = subst (λ (m : ℕ). h.place < length (list_at w.seen m)) same h.within in
          let past = h.past in
          absurd (omega arith)
      go y h false t = refl

  each : (i : ℕ) → i < 4 → i < n → 2 ≤ length (list_at w.seen i)
  each i low below = ⊎_elim
      (λ (long : 1 < length (list_at w.seen i)). omega arith)
      (λ (short : length (list_at w.seen i) ≤ 1).
      let e = unmarked i low short in
      let f = marks_joined s a t1 is1 (shown_s ∙ sym shown_a) i in
      let g = marks_joined t1 b t2 is2 (shown_1 ∙ sym shown_b) i in
      let h = marks_joined t2 c t3 is3 (shown_2 ∙ sym shown_c) i in
      let j = marks_joined t3 d w is4 (shown_3 ∙ sym shown_d) i in
      let k = A.marked i low below in
      absurd (omega arith))
      (cases_lt 1 (length (list_at w.seen i)))

  showed : total length old.shown + 2 * (wa.done + wb.done) + (wa.busy + wb.busy) + 2 * ((rc.pairs + rd.pairs) + (rc.again + rd.again)) ≤ total length w.shown
  showed =
      let e : total length s.shown ≡ total length old.shown = ap (λ (x : View). total length x.shown) is_s in
      let f = lengths_joined s a t1 is1 (shown_s ∙ sym shown_a) in
      let g = lengths_joined t1 b t2 is2 (shown_1 ∙ sym shown_b) in
      let h = lengths_joined t2 c t3 is3 (shown_2 ∙ sym shown_c) in
      let j = lengths_joined t3 d w is4 (shown_3 ∙ sym shown_d) in
      let sa = A.shown in let sb = B.shown in let sc = C.shown in let sd = D.shown in
      let mc = C.made in let md = D.made in
      omega arith

  abbrev answers : Answers
  answers = record { first = A.answers; second = B.answers; third = C.answers; fourth = D.answers }

  answered : Answered n answers
  answered = record { writes = (A.calls, B.calls); reads = (C.calls, D.calls); write_causes = (A.causes, B.causes); read_causes = (C.causes, D.causes) }

  counted : Counts answers report
  counted = let ca = A.counts in let cb = B.counts in let cc' = C.counts in let cd = D.counts in record {
    done = omega arith;
    busy = omega arith;
    pairs = omega arith;
    again = omega arith;
    bad = omega arith;
  }

  -- what each seat was shown, in the order in which they were joined
  shown_each : (i : ℕ) → list_at w.shown i ≡ list_at old.shown i ++ shown_in_run i answers
  shown_each i =
      let xs = shown_at shown_by_write i A.answers in
      let ys = shown_at shown_by_write i B.answers in
      let zs = shown_at shown_by_read i C.answers in
      let us = shown_at shown_by_read i D.answers in
      let e0 : list_at s.shown i ≡ list_at old.shown i = ap (λ (x : View). list_at x.shown i) is_s in
      let e1 : list_at t1.shown i ≡ list_at old.shown i ++ xs = shown_joined_at s a t1 is1 (shown_s ∙ sym shown_a) i ∙ (λ j. e0 j ++ A.showed i j) in
      let e2 : list_at t2.shown i ≡ (list_at old.shown i ++ xs) ++ ys = shown_joined_at t1 b t2 is2 (shown_1 ∙ sym shown_b) i ∙ (λ j. e1 j ++ B.showed i j) in
      let e3 : list_at t3.shown i ≡ ((list_at old.shown i ++ xs) ++ ys) ++ zs = shown_joined_at t2 c t3 is3 (shown_2 ∙ sym shown_c) i ∙ (λ j. e2 j ++ C.showed i j) in
      let e4 : list_at w.shown i ≡ (((list_at old.shown i ++ xs) ++ ys) ++ zs) ++ us = shown_joined_at t3 d w is4 (shown_3 ∙ sym shown_d) i ∙ (λ j. e3 j ++ D.showed i j) in
      e4
      ∙ (append_assoc ((list_at old.shown i ++ xs) ++ ys) zs us
      ∙ (ap (λ l. l ++ (zs ++ us)) (append_assoc (list_at old.shown i) xs ys)
      ∙ append_assoc (list_at old.shown i) (xs ++ ys) (zs ++ us)))

  own_each : w.own ≡ stores_of 0 A.answers ++ stores_of 1 B.answers
  own_each =
      let e0 : s.own ≡ [] = ap (λ (x : View). x.own) is_s ∙ opened.own in
      let e1 : t1.own ≡ stores_of 0 A.answers = ap (λ (x : View). x.own) is1 ∙ (λ j. e0 j ++ A.stored j) in
      let e2 : t2.own ≡ stores_of 0 A.answers ++ stores_of 1 B.answers = ap (λ (x : View). x.own) is2 ∙ (λ j. e1 j ++ B.stored j) in
      let e3 : t3.own ≡ stores_of 0 A.answers ++ stores_of 1 B.answers = ap (λ (x : View). x.own) is3 ∙ ((λ j. e2 j ++ C.own j) ∙ append-nil (stores_of 0 A.answers ++ stores_of 1 B.answers)) in
      ap (λ (x : View). x.own) is4 ∙ ((λ j. e3 j ++ D.own j) ∙ append-nil (stores_of 0 A.answers ++ stores_of 1 B.answers))

  read_each : AllStandIn w C.answers × AllStandIn w D.answers
  read_each = (
    all_stay c w C.answers (start ∙ sym (start_of xc c C.start start_c)) (λ i. starts_trans (list_at w.seen i) (list_at t3.seen i) (list_at c.seen i) (b4 i).0 (b3 i).1) C.stand,
    all_stay d w D.answers (start ∙ sym (start_of xd d D.start start_d)) (λ i. (b4 i).1) D.stand,
  )
    where
      start_of : (x y : View) → y.start ≡ x.start → x.start ≡ 0 → y.start ≡ 0
      start_of x y is opening = is ∙ opening

  ran_report : Ran old n report w
  ran_report = record {
    answers = answers;
    answered = answered;
    counts = counted;
    shown = shown_each;
    own = own_each;
    whole = all;
    read = read_each;
    parts = all_parts;
    writes = let e = none_spent in let f = A.made in let g = B.made in omega arith;
    reads = let f = C.made in let g = D.made in omega arith;
    bad = good;
    begins = begins;
    grown = grown;
    stores = of_both_writers;
    once = once;
    each = each;
    least = showed;
  }

  -- of each report that has these counts
  pub ran : (r : CodeReport) → r.done ≡ wa.done + wb.done → r.busy ≡ wa.busy + wb.busy → r.pairs ≡ rc.pairs + rd.pairs → r.again ≡ rc.again + rd.again → r.bad ≡ rc.bad + rd.bad → Ran old n r w
  ran r done busy pairs again bad =
      let same : report ≡ r = (λ i. record { done = sym done i; busy = sym busy i; pairs = sym pairs i; again = sym again i; bad = sym bad i }) in
      subst (λ (x : CodeReport). Ran old n x w) same ran_report
