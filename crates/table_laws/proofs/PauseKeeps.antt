-- What no pause changes: its events change no cell and no word, nothing that fields own and that references, globals and
-- variables hold, no ticket, and in the cycle not the area and the roots at its start; and they keep what is due.
use Rattle.std.proofs.Common.{◌≡◌, ℕ, List, [], ◌∷◌, Option, Some, None, refl, sym, ap, subst, ◌∙◌, inl}
use Rattle.std.specs.Option.{option_map}
use Rattle.std.specs.List.{All}
use Rattle.std.proofs.lemmas.List.Elements.{All-head, All-tail}
use Rattle.std.proofs.lemmas.Option.{same_Some}
use Rattle.plain_table.specs.declared.events.Act.{Act}
use Rattle.plain_table.specs.declared.events.Act.TheVariants.{Mark, Below, Evac, Abort, Scan}
use Rattle.plain_table.specs.declared.events.Event.{Event}
use Rattle.plain_table.specs.declared.events.Space.TheVariants.{External}
use Rattle.plain_table.specs.declared.events.Field.{Field}
use Rattle.plain_table.specs.Reachable.{IsRoot}
use Rattle.plain_table.specs.Cycle.{Cycle, start_in, with_abort, with_entry, with_mark, with_scan}
use Rattle.plain_table.specs.Table.{Table}
use Rattle.plain_table.specs.Rows.{row, with_taken, free_below, IsSafe}
use Rattle.plain_table.specs.History.{IsLegalHistory, next, after}
use Rattle.plain_table.specs.Sound.{IsSound}
use Rattle.plain_table.specs.Sweeps.{IsDue, Was_root, Was_linked, Is_root, Is_referred}
use Rattle.table_laws.specs.Pauses.{IsPauseAct}
use Rattle.table_laws.specs.Steady.{IsDuringPhase, CycleSteady, CyclesSteady}
use Rattle.table_laws.proofs.Soundness.{events-sound}
use Rattle.table_laws.proofs.Steadiness.{events-steady}

-- what does not change in a cycle
pub record Fixed : Type 0 where
  pub start : Option ℕ
  pub globals : ℕ → Option ℕ
  pub vars : ℕ → ℕ → Option ℕ

abbrev pub fixed_of : Cycle → Fixed
fixed_of c = record { start = c.start; globals = c.globals; vars = c.vars }

pub record IsCalm (s t : Table) : Type 0 where
  pub sizes : t.sizes ≡ s.sizes
  pub cells : t.cells ≡ s.cells
  pub words : t.words ≡ s.words
  pub bound : t.bound ≡ s.bound
  pub ticket : t.ticket ≡ s.ticket
  pub refs : t.refs ≡ s.refs
  pub globals : t.globals ≡ s.globals
  pub vars : t.vars ≡ s.vars
  pub count : t.count ≡ s.count
  pub cycle : option_map fixed_of t.cycle ≡ option_map fixed_of s.cycle

pub IsCalm-refl : (s : Table) → IsCalm s s
IsCalm-refl s = record { sizes = refl; cells = refl; words = refl; bound = refl; ticket = refl; refs = refl; globals = refl; vars = refl; count = refl; cycle = refl }

pub IsCalm-join : (s t u : Table) → IsCalm s t → IsCalm t u → IsCalm s u
IsCalm-join s t u one two = record {
  sizes = two.sizes ∙ one.sizes;
  cells = two.cells ∙ one.cells;
  words = two.words ∙ one.words;
  bound = two.bound ∙ one.bound;
  ticket = two.ticket ∙ one.ticket;
  refs = two.refs ∙ one.refs;
  globals = two.globals ∙ one.globals;
  vars = two.vars ∙ one.vars;
  count = two.count ∙ one.count;
  cycle = two.cycle ∙ one.cycle;
}

pub IsCalm-sym : (s t : Table) → IsCalm s t → IsCalm t s
IsCalm-sym s t calm = record {
  sizes = sym calm.sizes;
  cells = sym calm.cells;
  words = sym calm.words;
  bound = sym calm.bound;
  ticket = sym calm.ticket;
  refs = sym calm.refs;
  globals = sym calm.globals;
  vars = sym calm.vars;
  count = sym calm.count;
  cycle = sym calm.cycle;
}

start_of : Option Fixed → Option ℕ
start_of None = None
start_of (Some f) = f.start

start-fixed : (cycle : Option Cycle) → start_in cycle ≡ start_of (option_map fixed_of cycle)
unfolding start_of
start-fixed None = refl
start-fixed (Some c) = refl

pub calm-start : (s t : Table) → IsCalm s t → start_in t.cycle ≡ start_in s.cycle
calm-start s t calm = start-fixed t.cycle ∙ ap start_of calm.cycle ∙ sym (start-fixed s.cycle)

calm-taken : (s : Table) (b : ℕ) (found : Option ℕ) → IsCalm s (with_taken s b External found)
calm-taken s b None = IsCalm-refl s
calm-taken s b (Some i) = record { sizes = refl; cells = refl; words = refl; bound = refl; ticket = refl; refs = refl; globals = refl; vars = refl; count = refl; cycle = refl }

-- a cycle that changed, and in it nothing fixed
fixed-changed : (change : Cycle → Cycle) → ((c : Cycle) → fixed_of (change c) ≡ fixed_of c) → (cycle : Option Cycle) →
    option_map fixed_of (option_map change cycle) ≡ option_map fixed_of cycle
fixed-changed change same None = refl
fixed-changed change same (Some c) = ap Some (same c)

calm-cycle : (s t : Table) (change : Cycle → Cycle) → ((c : Cycle) → fixed_of (change c) ≡ fixed_of c) → t.cycle ≡ option_map change s.cycle → t.sizes ≡ s.sizes → t.cells ≡ s.cells →
    t.words ≡ s.words → t.bound ≡ s.bound → t.ticket ≡ s.ticket → t.refs ≡ s.refs → t.globals ≡ s.globals → t.vars ≡ s.vars → t.count ≡ s.count → IsCalm s t
calm-cycle s t change same cycle sizes cells words bound ticket refs globals vars count = record {
  sizes = sizes;
  cells = cells;
  words = words;
  bound = bound;
  ticket = ticket;
  refs = refs;
  globals = globals;
  vars = vars;
  count = count;
  cycle = ap (option_map fixed_of) cycle ∙ fixed-changed change same s.cycle;
}

pub calm-row : (s : Table) (b : ℕ) (a : Act) → IsPauseAct a → IsCalm s (row s b a).next
calm-row s b (Mark p i) is = calm-cycle s (row s b (Mark p i)).next (with_mark p i) (λ c. refl) refl refl refl refl refl refl refl refl refl refl
calm-row s b (Below start) is = calm-taken s b (free_below s start)
calm-row s b (Evac i number) is = calm-cycle s (row s b (Evac i number)).next (with_entry i number) (λ c. refl) refl refl refl refl refl refl refl refl refl refl
calm-row s b Abort is = calm-cycle s (row s b Abort).next with_abort (λ c. refl) refl refl refl refl refl refl refl refl refl refl
calm-row s b (Scan o) is = calm-cycle s (row s b (Scan o)).next (with_scan o) (λ c. refl) refl refl refl refl refl refl refl refl refl refl
calm-row s b _ is = absurd is

-- what is due stays due
pub IsDue-calm : (s t : Table) (c d : Cycle) (linked : List ℕ) (o : ℕ) → IsCalm s t → d.globals ≡ c.globals → d.vars ≡ c.vars → IsDue s c linked o → IsDue t d linked o
IsDue-calm s t c d linked _ calm globals vars (Was_root o root) =
    Was_root o (subst (λ v. IsRoot d.globals v o) (sym vars) (subst (λ g. IsRoot g c.vars o) (sym globals) root))
IsDue-calm s t c d linked _ calm globals vars (Was_linked o there) = Was_linked o there
IsDue-calm s t c d linked _ calm globals vars (Is_root o root) =
    Is_root o (subst (λ v. IsRoot t.globals v o) (sym calm.vars) (subst (λ g. IsRoot g s.vars o) (sym calm.globals) root))
IsDue-calm s t c d linked _ calm globals vars (Is_referred o k q from there) =
    Is_referred o k q (IsDue-calm s t c d linked o calm globals vars from) (ap (λ (r : ℕ → ℕ → Option ℕ). r o k) calm.refs ∙ there)

-- over a run
pub calm-after : (es : List Event) (s : Table) → All (λ (e : Event). IsPauseAct e.act) es → IsCalm s (after s es)
calm-after [] s all = IsCalm-refl s
calm-after (e ∷ es) s all =
    IsCalm-join s (next s e) (after (next s e) es) (calm-row s e.by e.act (All-head (λ (e : Event). IsPauseAct e.act) e es all))
    (calm-after es (next s e) (All-tail (λ (e : Event). IsPauseAct e.act) e es all))

-- the cycle of a table after a steady event, and along a run
CyclesSteady-some : (cycle other : Option Cycle) (c : Cycle) → cycle ≡ Some c → CyclesSteady cycle other → (d : Cycle) × (other ≡ Some d) × CycleSteady c d
CyclesSteady-some None other c is steady = absurd (cc)
CyclesSteady-some (Some b) None c is steady = absurd steady
CyclesSteady-some (Some b) (Some d) c is steady = (d, refl, subst (λ (x : Cycle). CycleSteady x d) (same_Some b c is) steady)

pub CycleSteady-refl : (c : Cycle) → CycleSteady c c
CycleSteady-refl c = record {
  start = refl;
  refs = refl;
  globals = refl;
  vars = refl;
  words = refl;
  aborted = λ is. is;
  marks = λ p i is. is;
  evac = λ i number is. is;
  visited = λ number is. is;
  born = λ o is. is;
  scans = λ o is. is;
  came = λ f w is. is;
}

pub CycleSteady-join : (b c d : Cycle) → CycleSteady b c → CycleSteady c d → CycleSteady b d
CycleSteady-join b c d one two = record {
  start = two.start ∙ one.start;
  refs = two.refs ∙ one.refs;
  globals = two.globals ∙ one.globals;
  vars = two.vars ∙ one.vars;
  words = two.words ∙ one.words;
  aborted = λ is. two.aborted (one.aborted is);
  marks = λ p i is. two.marks p i (one.marks p i is);
  evac = λ i number is. two.evac i number (one.evac i number is);
  visited = λ number is. two.visited number (one.visited number is);
  born = λ o is. two.born o (one.born o is);
  scans = λ o is. two.scans o (one.scans o is);
  came = λ f w is. two.came f w (one.came f w is);
}

IsDuringPhase-pause : (a : Act) → IsPauseAct a → IsDuringPhase a
IsDuringPhase-pause (Mark p i) is = tt
IsDuringPhase-pause (Below start) is = tt
IsDuringPhase-pause (Evac i number) is = tt
IsDuringPhase-pause Abort is = tt
IsDuringPhase-pause (Scan o) is = tt
IsDuringPhase-pause _ is = absurd is

-- what a legal run of a pause keeps: soundness, the cycle's own parts, and the safety of bound fields
pub record IsKeptBy (s : Table) (c : Cycle) (t : Table) : Type 0 where
  pub cycle : Cycle
  pub is : t.cycle ≡ Some cycle
  pub sound : IsSound t
  pub steady : CycleSteady c cycle
  pub safe : (f : Field) (id : ℕ) → s.bound f ≡ Some id → IsSafe s c f id → IsSafe t cycle f id

pub kept-after : (es : List Event) (s : Table) (c : Cycle) → IsSound s → s.cycle ≡ Some c →
    All (λ (e : Event). IsPauseAct e.act) es → IsLegalHistory s es → IsKeptBy s c (after s es)
kept-after [] s c h is all legal = record { cycle = c; is = is; sound = h; steady = CycleSteady-refl c; safe = λ f id bound safe. safe }
kept-after (e ∷ es) s c h is all legal =
    let act = All-head (λ (e : Event). IsPauseAct e.act) e es all in
    let one = events-steady s e h legal.0 (IsDuringPhase-pause e.act act) in
    let calm = calm-row s e.by e.act act in
    let now = CyclesSteady-some s.cycle (next s e).cycle c is one.cycle in
    let rest = kept-after es (next s e) now.0 (events-sound s e h legal.0) now.1 (All-tail (λ (e : Event). IsPauseAct e.act) e es all) legal.1 in
    record {
      cycle = rest.cycle;
      is = rest.is;
      sound = rest.sound;
      steady = CycleSteady-join c now.0 rest.cycle now.2 rest.steady;
      safe = λ f id bound safe.
          let still : (next s e).bound f ≡ Some id = ap (λ (b : Field → Option ℕ). b f) calm.bound ∙ bound in
          rest.safe f id still (one.safe c now.0 is now.1 f id still (inl safe));
    }
