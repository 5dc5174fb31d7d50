-- What a join tells its caller: both histories come first, and with each number come its events.
use Rattle.std.proofs.Common.{◌≡◌, ℕ, ◌+◌, ◌≤◌, ◌==◌, ◌/◌, nat_lt, Bool, true, false, if◌then◌else◌, List, [], ◌∷◌, ◌++◌, length, refl, sym, ap, subst, ◌∙◌, inl, inr, ⊎_elim, arith, append-nil}
use Rattle.std.proofs.lemmas.Bool.Decides.{eqb_tells}
use Rattle.plain_table.specs.declared.events.Event.{Event}
use Rattle.plain_table.specs.Belongs.{events_by}
use Rattle.entry_base.specs.declared.view.Opening.{Opening}
use Rattle.entry_base.specs.declared.view.View.{View}
use Rattle.entry_base.specs.declared.view.Fact.{Fact}
use Rattle.entry_base.specs.Lists.{StartsWith, Each, Has, count_in, longer, shorter}
use Rattle.entry_base.specs.Numbers.{HasNumber}
use Rattle.entry_base.specs.Facts.{GoesOn}
use Rattle.entry_base.specs.Views.{absorber, both, has_number, joined_fact}
use Rattle.entry_base.specs.Callers.{AreVariables, ArePublishable, AreWithin, IsCaller}
use Rattle.entry_base.specs.Histories.{IsPhaseHistory}
use Rattle.entry_base.specs.Learned.{Met}
use Rattle.entry_base.specs.Joins.{Absorbed, Joined, PutTogether}
use Rattle.entry_base.proofs.Sums.{each_append, each_map, each_pick, has_append, starts_trans, count_append}

pub events_append : (n : ℕ) (xs ys : List Event) → events_by n (xs ++ ys) ≡ events_by n xs ++ events_by n ys
events_append n [] ys = refl
events_append n (x ∷ xs) ys = go (x.by == n) (events_append n xs ys)
  where
    go : (b : Bool) → events_by n (xs ++ ys) ≡ events_by n xs ++ events_by n ys
        → (if b then x ∷ events_by n (xs ++ ys) else events_by n (xs ++ ys)) ≡ (if b then x ∷ events_by n xs else events_by n xs) ++ events_by n ys
    go true r = ap (λ l. x ∷ l) r
    go false r = r

-- none by the numbers of a list
pub events_none : (n : ℕ) (ns : List ℕ) (es : List Event) → 1 ≤ count_in n ns → Each (λ e. count_in e.by ns ≡ 0) es → events_by n es ≡ []
events_none n ns [] has quiet = refl
events_none n ns (x ∷ xs) has quiet = elim (eqb_tells x.by n) [
  | inl same ↦ absurd (let q = quiet.0 in let e = ap (λ m. count_in m ns) same.1 in omega arith)
  | inr ne ↦ ap (λ (b : Bool). if b then x ∷ events_by n xs else events_by n xs) ne.0 ∙ events_none n ns xs has quiet.1
]

pub events_after : (n : ℕ) (ns : List ℕ) (xs rest all : List Event) → all ≡ xs ++ rest → 1 ≤ count_in n ns → Each (λ e. count_in e.by ns ≡ 0) rest → events_by n all ≡ events_by n xs
events_after n ns xs rest all is has quiet = ap (events_by n) is ∙ (events_append n xs rest ∙ (ap (λ l. events_by n xs ++ l) (events_none n ns rest has quiet) ∙ append-nil (events_by n xs)))

-- the longer and the shorter history, and what came after the longer one
module _ (x y : View) (seen between : List Event) (later : seen ≡ x.seen ++ between) (is : GoesOn y.seen x.seen y.numbers)
    (quiet_x : Each (λ e. count_in e.by x.numbers ≡ 0) between) (quiet_y : Each (λ e. count_in e.by y.numbers ≡ 0) between) where
  long_starts : StartsWith seen x.seen
  long_starts = (between, later)

  short_starts : StartsWith seen y.seen
  short_starts = starts_trans seen x.seen y.seen (between, later) (is.0, is.1)

  long_events : (n : ℕ) → HasNumber x n → events_by n seen ≡ events_by n x.seen
  long_events n has = events_after n x.numbers x.seen between seen later has quiet_x

  short_events : (n : ℕ) → HasNumber y n → events_by n seen ≡ events_by n y.seen
  short_events n has = events_after n y.numbers x.seen between seen later has quiet_y ∙ events_after n y.numbers y.seen is.0 x.seen is.1 has is.2

-- x is the view in which v and u were put together, and w the one after the load that follows
module _ (v u x w : View) (opening : x.opening ≡ v.opening) (number : x.number ≡ v.number) (hands : x.hands ≡ v.hands ++ u.hands)
    (counts : (n : ℕ) → count_in n x.numbers ≡ count_in n v.numbers + count_in n u.numbers)
    (facts : x.facts ≡ joined_fact v u ∷ v.facts ++ u.facts) (put : x.seen ≡ longer v.seen u.seen) (l : Met x w) where
  seen_now : w.seen ≡ longer v.seen u.seen ++ l.loaded.looks.between
  seen_now = l.loaded.looks.seen ∙ ap (λ h. h ++ l.loaded.looks.between) put

  quiet_left : Each (λ e. count_in e.by v.numbers ≡ 0) l.loaded.looks.between
  quiet_left = each_map _ _ l.loaded.looks.between (λ e none. let c = counts e.by in omega arith) l.loaded.looks.quiet

  quiet_right : Each (λ e. count_in e.by u.numbers ≡ 0) l.loaded.looks.between
  quiet_right = each_map _ _ l.loaded.looks.between (λ e none. let c = counts e.by in omega arith) l.loaded.looks.quiet

  goes_on : GoesOn (shorter v.seen u.seen) (longer v.seen u.seen) (if nat_lt (length v.seen) (length u.seen) then v.numbers else u.numbers)
  goes_on = l.joined _ _ _ (subst (λ fs. Has fs (joined_fact v u)) (sym facts) (inl refl))

  has_left : (fs gs : List Fact) (f : Fact) → Has fs f → Has (fs ++ gs) f
  has_left [] gs f h = absurd h
  has_left (y ∷ fs) gs f h = ⊎_elim (λ (e : y ≡ f). inl e) (λ (t : Has fs f). inr (has_left fs gs f t)) h

  parts : (c : Bool) → nat_lt (length v.seen) (length u.seen) ≡ c
      → (StartsWith w.seen v.seen × StartsWith w.seen u.seen) × ((n : ℕ) → HasNumber v n → events_by n w.seen ≡ events_by n v.seen) × ((n : ℕ) → HasNumber u n → events_by n w.seen ≡ events_by n u.seen)
  parts true e =
      let is : GoesOn v.seen u.seen v.numbers = subst (λ (c : Bool). GoesOn (if c then v.seen else u.seen) (if c then u.seen else v.seen) (if c then v.numbers else u.numbers)) e goes_on in
      let later : w.seen ≡ u.seen ++ l.loaded.looks.between = seen_now ∙ ap (λ (c : Bool). (if c then u.seen else v.seen) ++ l.loaded.looks.between) e in (
        (short_starts u v w.seen _ later is quiet_right quiet_left, long_starts u v w.seen _ later is quiet_right quiet_left),
        short_events u v w.seen _ later is quiet_right quiet_left,
        long_events u v w.seen _ later is quiet_right quiet_left,
      )
  parts false e =
      let is : GoesOn u.seen v.seen u.numbers = subst (λ (c : Bool). GoesOn (if c then v.seen else u.seen) (if c then u.seen else v.seen) (if c then v.numbers else u.numbers)) e goes_on in
      let later : w.seen ≡ v.seen ++ l.loaded.looks.between = seen_now ∙ ap (λ (c : Bool). (if c then u.seen else v.seen) ++ l.loaded.looks.between) e in (
        (long_starts v u w.seen _ later is quiet_left quiet_right, short_starts v u w.seen _ later is quiet_left quiet_right),
        long_events v u w.seen _ later is quiet_left quiet_right,
        short_events v u w.seen _ later is quiet_left quiet_right,
      )

  pub together : PutTogether v u w
  together = let p = parts (nat_lt (length v.seen) (length u.seen)) refl in record {
    opening = l.loaded.same.opening ∙ opening;
    number = l.loaded.same.number ∙ number;
    hands = l.loaded.hands ∙ hands;
    knows = λ f has. l.loaded.same.knows f (subst (λ fs. Has fs f) (sym facts)
        (⊎_elim (λ (h : Has v.facts f). inr (has_left v.facts u.facts f h)) (λ (h : Has u.facts f). inr (has_append v.facts u.facts f h)) has));
    seen = p.0;
    mine = p.1;
    theirs = p.2;
    lawful = subst (λ o. IsPhaseHistory o w.seen) (sym l.loaded.same.opening) l.loaded.looks.lawful;
  }

pub joined : (v u w : View) → Met (both v u) w → Joined v u w
joined v u w l = record {
  together = together v u (both v u) w refl refl refl (λ n. count_append n v.numbers u.numbers) refl refl l;
  numbers = l.loaded.same.numbers;
  vars = l.loaded.own.vars;
  pending = l.loaded.own.pending;
  owed = l.loaded.own.owed;
  fresh = l.loaded.own.fresh;
  cut = l.loaded.same.cut;
}

pub absorbed : (v u w : View) → u.numbers ≡ [] → Met (absorber v u) w → Absorbed v u w
absorbed v u w none l = record {
  together = together v u (absorber v u) w refl refl refl (λ n. let z : count_in n u.numbers ≡ 0 = ap (count_in n) none in omega arith) refl refl l;
  numbers = l.loaded.same.numbers;
  vars = l.loaded.own.vars;
  pending = l.loaded.own.pending;
  owed = l.loaded.own.owed;
  fresh = l.loaded.own.fresh;
  cut = l.loaded.same.cut;
}

-- what is put together can call again
pub joined_calls : (key : Opening) (v u w : View) → IsCaller key v → IsCaller key u → Joined v u w → IsCaller key w
joined_calls key v u w is other j =
    let opened : w.opening ≡ key = j.together.opening ∙ is.opened in record {
      opened = opened;
      own = subst (λ n. 1 ≤ count_in n w.numbers) (sym j.together.number) (subst (λ l. 1 ≤ count_in v.number l) (sym j.numbers) (let c = count_append v.number v.numbers u.numbers in let o = is.own in omega arith));
      lawful = subst (λ o. IsPhaseHistory o w.seen) opened j.together.lawful;
      variables = subst (AreVariables key) (sym j.vars) (each_pick _ (λ i. has_number u (i / 16)) 0 v.vars u.vars is.variables other.variables);
      pending = subst (ArePublishable key) (sym j.pending) (each_pick _ (has_number u) 0 v.pending u.pending is.pending other.pending);
      hands = subst (AreWithin key) (sym j.together.hands) (each_append _ v.hands u.hands is.hands other.hands);
    }

pub absorbed_calls : (key : Opening) (v u w : View) → IsCaller key v → AreWithin key u.hands → Absorbed v u w → IsCaller key w
absorbed_calls key v u w is within j =
    let opened : w.opening ≡ key = j.together.opening ∙ is.opened in record {
      opened = opened;
      own = subst (λ n. 1 ≤ count_in n w.numbers) (sym j.together.number) (subst (λ l. 1 ≤ count_in v.number l) (sym j.numbers) is.own);
      lawful = subst (λ o. IsPhaseHistory o w.seen) opened j.together.lawful;
      variables = subst (AreVariables key) (sym j.vars) is.variables;
      pending = subst (ArePublishable key) (sym j.pending) is.pending;
      hands = subst (AreWithin key) (sym j.together.hands) (each_append _ v.hands u.hands is.hands within);
    }
