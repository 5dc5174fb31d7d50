-- By any history by which an outcome belongs to the script, no pause scans the object that is not due: the calls have no
-- choice, so the pause begins at one table, and what it is to scan there stays the same while it goes on.
use Rattle.std.proofs.Common.{◌≡◌, ◌≢◌, ℕ, zero, suc, Some, None, List, [], ◌∷◌, ◌++◌, refl, sym, ap, subst, ◌∙◌, arith, false, true, slice_index_or}
use Rattle.std.specs.Option.{option_map}
use Rattle.std.specs.List.{All}
use Rattle.std.proofs.lemmas.List.Elements.{All-append, All-cons, All-from_recursion, All-nil}
use Rattle.std.proofs.lemmas.Option.{same_Some}
use Rattle.plain_table.specs.declared.scripts.Meet.TheVariants as meet
use Rattle.plain_table.specs.declared.reports.PhaseReport.{PhaseReport}
use Rattle.plain_table.specs.declared.scripts.Phase.{Phase}
use Rattle.plain_table.specs.declared.scripts.Op.TheVariants as op
use Rattle.plain_table.specs.declared.scripts.Policy.{Policy}
use Rattle.plain_table.specs.declared.scripts.Policy.TheVariants.{Never}
use Rattle.plain_table.specs.declared.events.Act.TheVariants.{New, Drop, Link, Scan, Start, Finish}
use Rattle.plain_table.specs.declared.events.Event.{Event}
use Rattle.plain_table.specs.declared.events.Spot.TheVariants.{Ref}
use Rattle.plain_table.specs.declared.reports.MeetReport.{MeetReport}
use Rattle.plain_table.specs.declared.reports.MeetReport.TheVariants as report
use Rattle.plain_table.specs.declared.reports.Reply.{Reply}
use Rattle.plain_table.specs.declared.reports.Reply.TheVariants as reply
use Rattle.plain_table.specs.Table.{Table, opening}
use Rattle.plain_table.specs.History.{IsLegalHistory, after}
use Rattle.plain_table.specs.Shapes.{MakesCalls, event, with_ticket}
use Rattle.plain_table.specs.Scans.{IsReadAtMeet, Rest}
use Rattle.plain_table.specs.Sweeps.{IsDue, IsPause, MayScanAtMeet, MeetBelongs, linked_after, meeting}
use Rattle.plain_table.specs.Belongs.{Part, PhasesBelong, events_by, events_of, whole}
use Rattle.plain_table.proofs.Options.{IsSome-value, IsSomeAnd-is, IsSomeAnd-some}
use Rattle.worked_outcomes.specs.NotDue.{limits, linked, emptied, linking, emptying, ending}
use Rattle.worked_outcomes.specs.WorkedLaws.{PausesScanWhatIsDue}
use Rattle.worked_outcomes.proofs.ForcedCalls.{events-mine, legal-parts}
use Rattle.worked_outcomes.proofs.SingleCalls.{Follows, First, single, none-later, none-left, first-phase, no-phase}
use Rattle.worked_outcomes.proofs.ScansMay.{AllScanned, scanned-may}
use Rattle.table_laws.proofs.PauseKeeps.{Fixed, IsCalm, fixed_of}
use Rattle.worked_outcomes.proofs.AlongPauses.{along-calm}
use Rattle.worked_outcomes.proofs.NotDueProof.{pause, due-zero, belongs, legal-more}

-- not a scan of the second object
abbrev IsNoScan : Event → Type 0
IsNoScan e = e.act ≢ Scan 1

-- the calls of the two phases have no choice
linked-forced : (replies : List Reply) (es : List Event) →
    MakesCalls 0 None ((opening limits).vars 0) (with_ticket None) (op.New 0 ∷ op.New 1 ∷ op.Link 0 0 (Some 1) ∷ op.Drop 1 ∷ []) replies es →
    IsLegalHistory (opening limits) es → es ≡ linked
linked-forced replies es made legal =
    let z : Follows (opening limits) None ((opening limits).vars 0) (with_ticket None) [] (op.New 0 ∷ op.New 1 ∷ op.Link 0 0 (Some 1) ∷ op.Drop 1 ∷ []) es =
    record { later = es; replies = replies; is = refl; made = made; legal = legal } in
    let a = single (New 0) z (λ said first shape. shape) in
    let b = single (New 1) a (λ said first shape. shape) in
    let c = single (Link (Ref 0 0) (Some 1)) b (λ said first shape. shape) in
    let d = single (Drop 1) c (λ said first shape. shape) in
    z.is ∙ a.is ∙ ap (λ (x : List Event). event 0 (New 0) (reply.Obj 0) ∷ x)
    (b.is ∙ ap (λ (x : List Event). event 0 (New 1) (reply.Obj 1) ∷ x)
    (c.is ∙ ap (λ (x : List Event). event 0 (Link (Ref 0 0) (Some 1)) reply.Ok ∷ x)
    (d.is ∙ ap (λ (x : List Event). event 0 (Drop 1) reply.Ok ∷ x) (none-later d))))

-- the first part, and the table at the start of the second
abbrev first : List Event
first = linked ++ event meeting (Start Never) reply.Ok ∷ []

abbrev at_start : Table
at_start = after (opening limits) first

emptied-forced : (replies : List Reply) (es : List Event) →
    MakesCalls 0 at_start.cycle (at_start.vars 0) (with_ticket (at_start.ticket 0)) (op.Link 0 0 None ∷ []) replies es →
    IsLegalHistory at_start es → es ≡ emptied
emptied-forced replies es made legal =
    let z : Follows at_start at_start.cycle (at_start.vars 0) (with_ticket (at_start.ticket 0)) [] (op.Link 0 0 None ∷ []) es =
    record { later = es; replies = replies; is = refl; made = made; legal = legal } in
    let a = single (Link (Ref 0 0) None) z (λ said first shape. shape) in
    z.is ∙ a.is ∙ ap (λ (x : List Event). event 0 (Link (Ref 0 0) None) reply.Ok ∷ x) (none-later a)

-- what may be scanned in the pause is the first object
may-zero : (t : Table) → IsCalm pause t → (o : ℕ) → MayScanAtMeet [] t o → o ≡ 0
may-zero t calm o may =
    let found = IsSome-value t.cycle (IsSomeAnd-some t.cycle (λ c. IsDue t c [] o) may) in
    let fixed : Some (fixed_of found.0) ≡ option_map fixed_of pause.cycle = ap (option_map fixed_of) (sym found.1) ∙ calm.cycle in
    let globals : found.0.globals ≡ pause.globals = ap (λ (f : Fixed). f.globals) (same_Some _ _ fixed) in
    let vars : found.0.vars ≡ pause.vars = ap (λ (f : Fixed). f.vars) (same_Some _ _ fixed) in
    due-zero t found.0 globals vars calm.globals calm.vars calm.refs o (IsSomeAnd-is t.cycle (λ c. IsDue t c [] o) found.0 found.1 may)

no-scans : (es : List Event) → All (λ (e : Event). e.by ≡ meeting) es → AllScanned (λ o. o ≡ 0) meeting es → All IsNoScan es
no-scans [] own all k d within = absurd (omega arith)
no-scans (e ∷ es) own all zero d within = λ is. let second : ◌≡◌ {A = ℕ} 1 0 = all.0 1 (own 0 e (omega arith)) is in absurd (cc)
no-scans (e ∷ es) own all (suc k) d within = no-scans es (λ n d below. own (suc n) d (omega arith)) all.1 k d (omega arith)

no-scans-paused : (scans : List Event) → IsPause [] pause scans → All IsNoScan scans
no-scans-paused scans is =
    no-scans scans is.own
    (scanned-may (MayScanAtMeet []) IsReadAtMeet meeting (λ o. o ≡ 0) Rest pause scans Rest is.scans
    (along-calm IsReadAtMeet meeting (MayScanAtMeet []) (λ t. (o : ℕ) → MayScanAtMeet [] t o → o ≡ 0) Rest pause scans Rest is.scans is.own may-zero) tt)

-- each meet of the script
start-events : (links : List ℕ) (s : Table) (policy : Policy) (es : List Event) (r : MeetReport) →
    MeetBelongs links s (meet.Start policy) es r → es ≡ event meeting (Start policy) reply.Ok ∷ []
start-events links s policy es report.Plain h = absurd h
start-events links s policy es (report.Started area) h = h.0
start-events links s policy es (report.Swept sweep) h = absurd h
start-events links s policy es report.Ended h = absurd h

finish-events : (es : List Event) (r : MeetReport) → MeetBelongs [] pause meet.Finish es r → All IsNoScan es
finish-events es report.Plain h = absurd h
finish-events es (report.Started area) h = absurd h
finish-events es (report.Swept sweep) h =
    subst (All IsNoScan) (sym h.1)
    (All-append IsNoScan h.0 (event meeting Finish reply.Ok ∷ []) (no-scans-paused h.0 h.2)
    (All-cons IsNoScan (event meeting Finish reply.Ok) [] (λ e. absurd (cc)) (All-nil IsNoScan)))
finish-events es report.Ended h = absurd h

end-events : (links : List ℕ) (s : Table) (es : List Event) (r : MeetReport) → MeetBelongs links s meet.End es r → es ≡ []
end-events links s es report.Plain h = absurd h
end-events links s es (report.Started area) h = absurd h
end-events links s es (report.Swept sweep) h = absurd h
end-events links s es report.Ended h = h

-- the first part has no scan at all
first-none : All IsNoScan first
first-none =
    All-from_recursion IsNoScan first (λ e. absurd (cc), (λ e. absurd (cc), (λ e. absurd (cc), (λ e. absurd (cc), (λ e. absurd (cc), tt)))))

emptied-none : All IsNoScan emptied
emptied-none = All-from_recursion IsNoScan emptied (λ e. absurd (cc), tt)

-- the last phase makes no event
ending-none : (links : List ℕ) (s : Table) (phases : List Phase) (parts : List Part) (f : First limits false links s ending phases parts) → events_of f.part ≡ []
ending-none links s phases parts f =
    let mine = events-mine limits f.part.during refl refl f.here.numbers in
    let none : f.part.during ≡ [] =
    sym mine ∙ none-left s.cycle (s.vars 0) (with_ticket (s.ticket 0)) (slice_index_or f.report.replies 0 []) (events_by 0 f.part.during) (f.here.calls 0 (omega arith)) in
    ap (λ (es : List Event). es ++ f.part.meet) none
    ∙ end-events (linked_after s links f.part.during) (after s f.part.during) f.part.meet f.report.meet f.here.meet

-- from the second phase on
scans-none-later : (parts : List Part) (reports : List PhaseReport) → PhasesBelong limits true [] at_start (emptying ∷ ending ∷ []) parts reports →
    IsLegalHistory at_start (whole parts) → All IsNoScan (whole parts)
scans-none-later parts reports h legal =
    let f = first-phase limits true [] at_start emptying (ending ∷ []) parts reports h in
    let l = legal-parts at_start (events_of f.part) (whole f.parts_left) (subst (λ (ps : List Part). IsLegalHistory at_start (whole ps)) f.is legal) in
    let mine = events-mine limits f.part.during refl refl f.here.numbers in
    let during : f.part.during ≡ emptied =
    emptied-forced (slice_index_or f.report.replies 0 []) f.part.during
    (subst (MakesCalls 0 at_start.cycle (at_start.vars 0) (with_ticket (at_start.ticket 0)) (op.Link 0 0 None ∷ []) (slice_index_or f.report.replies 0 [])) mine
    (f.here.calls 0 (omega arith)))
    (legal-parts at_start f.part.during f.part.meet l.0).0 in
    let met : MeetBelongs [] pause meet.Finish f.part.meet f.report.meet =
    subst (λ (es : List Event). MeetBelongs (linked_after at_start [] es) (after at_start es) meet.Finish f.part.meet f.report.meet) during f.here.meet in
    let here : All IsNoScan (events_of f.part) =
    All-append IsNoScan f.part.during f.part.meet (subst (All IsNoScan) (sym during) emptied-none) (finish-events f.part.meet f.report.meet met) in
    let s = after at_start (events_of f.part) in
    let linked_then = linked_after at_start [] (events_of f.part) in
    let g = first-phase limits false linked_then s ending [] f.parts_left f.reports_left f.later in
    let none = no-phase limits false (linked_after s linked_then (events_of g.part)) (after s (events_of g.part)) g.parts_left g.reports_left g.later in
    let last : whole f.parts_left ≡ [] =
    ap whole (g.is ∙ ap (λ (ps : List Part). g.part ∷ ps) none)
    ∙ ap (λ (es : List Event). es ++ []) (ending-none linked_then s [] f.parts_left g) in
    subst (λ (ps : List Part). All IsNoScan (whole ps)) (sym f.is)
    (All-append IsNoScan (events_of f.part) (whole f.parts_left) here (subst (All IsNoScan) (sym last) (All-nil IsNoScan)))

scans-none : (parts : List Part) (reports : List PhaseReport) → PhasesBelong limits false [] (opening limits) (linking ∷ emptying ∷ ending ∷ []) parts reports →
    IsLegalHistory (opening limits) (whole parts) → All IsNoScan (whole parts)
scans-none parts reports h legal =
    let f = first-phase limits false [] (opening limits) linking (emptying ∷ ending ∷ []) parts reports h in
    let l = legal-parts (opening limits) (events_of f.part) (whole f.parts_left) (subst (λ (ps : List Part). IsLegalHistory (opening limits) (whole ps)) f.is legal) in
    let mine = events-mine limits f.part.during refl refl f.here.numbers in
    let during : f.part.during ≡ linked =
    linked-forced (slice_index_or f.report.replies 0 []) f.part.during
    (subst (MakesCalls 0 None ((opening limits).vars 0) (with_ticket None) (op.New 0 ∷ op.New 1 ∷ op.Link 0 0 (Some 1) ∷ op.Drop 1 ∷ []) (slice_index_or f.report.replies 0 [])) mine
    (f.here.calls 0 (omega arith)))
    (legal-parts (opening limits) f.part.during f.part.meet l.0).0 in
    let is : events_of f.part ≡ first =
    ap (λ (es : List Event). es ++ f.part.meet) during
    ∙ ap (λ (es : List Event). linked ++ es)
    (start-events (linked_after (opening limits) [] f.part.during) (after (opening limits) f.part.during) Never f.part.meet f.report.meet f.here.meet) in
    let later : PhasesBelong limits true [] at_start (emptying ∷ ending ∷ []) f.parts_left f.reports_left =
    subst (λ (es : List Event). PhasesBelong limits true (linked_after (opening limits) [] es) (after (opening limits) es) (emptying ∷ ending ∷ []) f.parts_left f.reports_left)
    is f.later in
    subst (λ (ps : List Part). All IsNoScan (whole ps)) (sym f.is)
    (All-append IsNoScan (events_of f.part) (whole f.parts_left) (subst (All IsNoScan) (sym is) first-none)
    (scans-none-later f.parts_left f.reports_left later (subst (λ (es : List Event). IsLegalHistory (after (opening limits) es) (whole f.parts_left)) is l.1)))

pub due-scanned : PausesScanWhatIsDue
due-scanned = (belongs, legal-more, λ parts outcome of. scans-none parts outcome.phases of.phases of.legal)
