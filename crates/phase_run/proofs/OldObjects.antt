-- The first phase of a cycle: markers scan each root, and where nothing is linked to a reference, each object that is reachable at its
-- start. And with its meet the phase is a part of the history.
use Rattle.std.proofs.Common.{◌≡◌, ◌⊎◌, ℕ, suc, ◌/◌, ◌%◌, ◌<◌, ◌≤◌, ◌==◌, Bool, true, false, List, [], ◌∷◌, Option, Some, IsTrue, if◌then◌else◌, refl, sym, ap, subst, ◌∙◌, inl, inr, arith, eq-eqb}
use Rattle.std.specs.Prelude.{slice_index_or}
use Rattle.std.specs.List.{All, Contains}
use Rattle.std.proofs.lemmas.List.Elements.{All-head, All-tail}
use Rattle.plain_table.specs.declared.scripts.Limits.{Limits}
use Rattle.plain_table.specs.declared.scripts.Op.{Op}
use Rattle.plain_table.specs.declared.scripts.Policy.{Policy}
use Rattle.plain_table.specs.declared.events.Event.{Event}
use Rattle.plain_table.specs.Belongs.{IsMarker, IsScannedIn, LinkNoReference, events_by}
use Rattle.plain_table.specs.Reachable.{By_global, By_reference, By_variable, IsRoot, Reaches}
use Rattle.plain_table.specs.Cycle.{Cycle, IsOld}
use Rattle.plain_table.specs.Finish.{IsReachable, started}
use Rattle.plain_table.specs.Table.{Sizes, Table}
use Rattle.plain_table.specs.Sound.{IsSound}
use Rattle.plain_table.specs.Shows.{IsCoveredIn, IsShaded}
use Rattle.plain_table.specs.Shapes.{with_ticket}
use Rattle.plain_table.specs.History.{after}
use Rattle.plain_table.proofs.CycleParts.{CycleSound-is}
use Rattle.plain_table.proofs.Options.{IfSome-is}
use Rattle.table_laws.specs.Steady.{CycleSteady}
use Rattle.table_laws.proofs.Reach.{Reaches-fold}
use Rattle.entry_word.specs.Image.{image_of, sizes_of}
use Rattle.entry_base.specs.Lists.{Each, Has}
use Rattle.entry_base.specs.Openings.{opening_of}
use Rattle.entry_base.proofs.Sums.{has_count}
use Rattle.phase_calls.proofs.CallRows.{MakesCalls-acts}
use Rattle.phase_calls.proofs.LinkedObjects.{linked_after-none}
use Rattle.phase_calls.proofs.ShapeEvents.{AreOfCalls, IsCallAct, IsCallAct-scan}
use Rattle.sweeper.proofs.HeaderReads.{header-scanned}
use Rattle.mutator_calls.specs.declared.heap.Mutator.{Mutator}
use Rattle.mutator_calls.specs.Calls.{AreHanded, HandsOver, IsReady, Sees, owed_of}
use Rattle.phases.specs.declared.phases.PhaseOut.{PhaseOut}
use Rattle.phases.specs.Phases.{CanRun, Ran}
use Rattle.phase_run.specs.Meets.{IsStarted}
use Rattle.phase_run.proofs.Listed.{grey-one, header-any}
use Rattle.phase_run.proofs.PhaseHistories.{CyclesSteady-after, HasScan, HasScan-after, cycle_of, refs-after, scans_at}
use Rattle.phase_run.proofs.Works.{IsBase-seen, black-cases, during, legal-after, listed-before, scanned-after, sees-after}

-- the events of mutators are of acts of calls
AreOfCalls-tail : (b : ℕ) (e : Event) (es : List Event) → AreOfCalls (events_by b (e ∷ es)) → AreOfCalls (events_by b es)
AreOfCalls-tail b e es = by (e.by == b)
  where
    by : (own : Bool) → AreOfCalls (if own then e ∷ events_by b es else events_by b es) → AreOfCalls (events_by b es)
    by true acts = acts.1
    by false acts = acts

of_calls : (n : ℕ) (es : List Event) → ((b : ℕ) → b < n → AreOfCalls (events_by b es)) → Each (λ (e : Event). e.by < n → IsCallAct e.act) es
of_calls n [] acts = tt
of_calls n (e ∷ es) acts = (
  λ less. (subst (λ (own : Bool). AreOfCalls (if own then e ∷ events_by e.by es else events_by e.by es)) (eq-eqb e.by e.by refl) (acts e.by less)).0,
  of_calls n es (λ b less. AreOfCalls-tail b e es (acts b less)),
)

-- so each scan is a marker's
IsScannedIn-later : (limits : Limits) (e : Event) (es : List Event) (o : ℕ) → IsScannedIn limits es o → IsScannedIn limits (e ∷ es) o
IsScannedIn-later limits e es o has = let less = has.2 in (suc has.0, has.1, omega (arith, less), has.3, has.4)

IsScannedIn-scan : (limits : Limits) (es : List Event) (o : ℕ) → All (λ (e : Event). (e.by < limits.mutators) ⊎ IsMarker limits e.by) es →
    Each (λ (e : Event). e.by < limits.mutators → IsCallAct e.act) es → HasScan es o → IsScannedIn limits es o
IsScannedIn-scan limits [] o numbers acts has = absurd has
IsScannedIn-scan limits (e ∷ es) o numbers acts (inl is) = elim (All-head (λ (e : Event). (e.by < limits.mutators) ⊎ IsMarker limits e.by) e es numbers) [
  | inl mutator ↦ absurd (IsCallAct-scan e.act (acts.0 mutator) o is)
  | inr marker ↦ (0, e, omega arith, refl, (marker, is))
]
IsScannedIn-scan limits (e ∷ es) o numbers acts (inr later) =
    IsScannedIn-later limits e es o (IsScannedIn-scan limits es o (All-tail (λ (e : Event). (e.by < limits.mutators) ⊎ IsMarker limits e.by) e es numbers) acts.1 later)

root-made : (s : Table) (o : ℕ) → IsSound s → IsRoot s.globals s.vars o → o < s.count
root-made s o sound (inl (g, is)) = (sound.objects.roots g o is).1
root-made s o sound (inr (b, v, is)) = (sound.objects.variables b v o is).2

-- the cycle of a table right after its start
pub record HasBegun (s : Table) (c : Cycle) : Type 0 where
  is : s.cycle ≡ Some c
  unscanned : (o : ℕ) → c.scans o ≡ false
  unborn : (o : ℕ) → c.born o ≡ false
  roots : (o : ℕ) → IsRoot s.globals s.vars o → IsRoot c.globals c.vars o
  reached : (o : ℕ) → IsReachable s o → IsOld c o

HasBegun-started : (s : Table) (policy : Policy) → (c : Cycle) × HasBegun (started s policy) c
HasBegun-started s policy =
    (_, record { is = refl; unscanned = λ o. refl; unborn = λ o. refl; roots = λ o root. root; reached = λ o reach. reach })

pub begun_cycle : (s : Table) → IsStarted s → (c : Cycle) × HasBegun s c
begun_cycle s (before, policy, is) = subst (λ (t : Table). (c : Cycle) × HasBegun t c) (sym is) (HasBegun-started before policy)

module _ (limits : Limits) (old : Mutator) (calls : List (List Op)) (ready : IsReady old) (out : PhaseOut) (ran : Ran limits (opening_of old.image) calls (owed_of old) out)
    (s : Table) (linked : List ℕ) (sees : Sees (image_of old.image) s) (handed : HandsOver old linked s) (c : Cycle) (begun : HasBegun s c) where
  given : AreHanded old.image.words.items (owed_of old) linked s.count c
  given = IfSome-is s.cycle (AreHanded old.image.words.items (owed_of old) linked s.count) c begun.is handed

  -- each root is shaded and not scanned, so it is listed
  root-listed : (o : ℕ) → IsRoot s.globals s.vars o → Has (owed_of old) o
  root-listed o root =
      let shaded = given.roots o (begun.roots o root) in
      let made = root-made s o sees.sound root in
      let most = sees.sound.objects.few in
      let below : o < s.sizes.objects = omega (arith, made, most) in
      elim (header-any old.image.words.items s sees.shows.words o below) [
        | inl white ↦ absurd (omega (arith, white, shaded))
        | inr rest ↦ elim rest [
          | inl one ↦ listed-before limits old calls ready out ran s linked sees o made one.0
          | inr three ↦
              let black = header-scanned old.image.words.items s c sees.shows.words begun.is o below (ap (λ (w : ℕ). w / 2 % 2) three) in
              elim (black-cases s c o black.1 made) [
                | inl scanned ↦ let none = begun.unscanned o in absurd (cc)
                | inr born ↦ let none = begun.unborn o in absurd (cc)
              ]
        ]
      ]

  pub roots-scanned : 1 ≤ limits.markers → (o : ℕ) → IsRoot s.globals s.vars o → IsScannedIn limits ran.history o
  roots-scanned some o root = ran.marked some o (root-listed o root)

  abbrev t : Table
  t = after s ran.history

  now : Sees (image_of out.image) t
  now = sees-after limits old calls ready out ran s sees

  end : (d : Cycle) × (t.cycle ≡ Some d) × CycleSteady c d
  end = cycle_of s.cycle t.cycle c (CyclesSteady-after ran.history s sees.sound (legal-after limits old calls ready out ran s sees) (during limits old calls ready out ran)) begun.is

  abbrev d : Cycle
  d = end.0

  old-after : (q : ℕ) → IsReachable s q → IsOld d q
  old-after q reach =
      subst (λ (vs : ℕ → ℕ → Option ℕ). Reaches d.refs d.globals vs q) (sym end.2.vars)
      (subst (λ (gs : ℕ → Option ℕ). Reaches d.refs gs c.vars q) (sym end.2.globals)
      (subst (λ (rs : ℕ → ℕ → Option ℕ). Reaches rs c.globals c.vars q) (sym end.2.refs) (begun.reached q reach)))

  module _ (few : CanRun limits calls) (some : 1 ≤ limits.markers) (none : LinkNoReference ran.history) where
    marked : (q : ℕ) → HasScan ran.history q → IsScannedIn limits ran.history q
    marked q has =
        IsScannedIn-scan limits ran.history q ran.numbers
        (of_calls limits.mutators ran.history (λ b less. MakesCalls-acts b s.cycle (s.vars b) (with_ticket (s.ticket b)) (slice_index_or calls b []) (slice_index_or out.replies b []) (events_by b ran.history) (ran.calls_made s (IsBase-seen old s sees) b less))) has

    -- nothing was linked, so nothing is listed at the end
    nothing-listed : (q : ℕ) → Has out.shaded.items q → ⊥
    nothing-listed q has = elim (ran.due s (IsBase-seen old s sees) q has) [
      | inl fresh ↦ let at = subst (λ (ls : List ℕ). Contains ls q) (linked_after-none s ran.history none) fresh in let less = at.1 in omega (arith, less)
      | inr waited ↦ let zero_markers = waited.0 in omega (arith, zero_markers, some)
    ]

    -- what a scanned object refers to is scanned
    next-scanned : (m k q : ℕ) → IsScannedIn limits ran.history m → s.refs m k ≡ Some q → IsReachable s q → IsScannedIn limits ran.history q
    next-scanned m k q scanned holds reach =
        let legal = legal-after limits old calls ready out ran s sees in
        let phase = during limits old calls ready out ran in
        let holds_after : t.refs m k ≡ Some q = refs-after ran.history s sees.sound legal phase none m k ∙ holds in
        let made = now.sound.objects.references m k q holds_after in
        let made_m = made.0 in
        let made_q = made.2 in
        let most = now.sound.objects.few in
        let low_m : m < t.sizes.objects = omega (arith, made_m, most) in
        let low_q : q < t.sizes.objects = omega (arith, made_q, most) in
        let header = scanned-after limits old calls ready out ran s linked sees c d begun.is end.1 end.2 m made_m scanned in
        let covered : IsCoveredIn out.image.words.items t d = IfSome-is t.cycle (IsCoveredIn out.image.words.items t) d end.1 now.covered in
        let shaded : IsShaded out.image.words.items q = covered.references m k q low_m (ap (λ (w : ℕ). w / 2 % 2) header) holds_after in
        elim (header-any out.image.words.items t now.shows.words q low_q) [
          | inl white ↦ absurd (omega (arith, white, shaded))
          | inr rest ↦ elim rest [
            | inl one ↦
                let objects = ap (λ (z : Sizes). z.objects) now.shows.sizes in
                let grey = grey-one (sizes_of out.image.shape) out.image.words.items q (omega (arith, low_q, objects)) one.0 in
                let is = ran.shaded q in
                absurd (nothing-listed q (has_count q out.shaded.items (omega (arith, grey, is))))
            | inr three ↦
                let black = header-scanned out.image.words.items t d now.shows.words end.1 q low_q (ap (λ (w : ℕ). w / 2 % 2) three) in
                elim (black-cases t d q black.1 made_q) [
                  | inl scans ↦ elim (HasScan-after ran.history s q phase (subst (λ (cycle : Option Cycle). IsTrue (scans_at cycle q)) (sym end.1) scans)) [
                    | inl was ↦ let yes : c.scans q ≡ true = subst (λ (cycle : Option Cycle). IsTrue (scans_at cycle q)) begun.is was in let no = begun.unscanned q in absurd (cc)
                    | inr scan ↦ marked q scan
                  ]
                  | inr born ↦ let apart = (CycleSound-is t d now.sound end.1).traced.apart q (old-after q reach) in absurd (cc)
                ]
          ]
        ]

    pub old-scanned : (o : ℕ) → IsReachable s o → IsScannedIn limits ran.history o
    old-scanned o reach =
        (Reaches-fold (λ m. IsScannedIn limits ran.history m × IsReachable s m) o reach
        (λ g q e. (roots-scanned some q (inl (g, e)), By_global g q e))
        (λ b v q e. (roots-scanned some q (inr (b, v, e)), By_variable b v q e))
        (λ m k q has e. let far = By_reference m k q has.1 e in (next-scanned m k q has.0 e far, far))).0
