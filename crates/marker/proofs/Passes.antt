-- Passing fields and references: parts of the scan, and the stack and the hands.
use Rattle.std.proofs.Common.{◌≡◌, ℕ, ◌+◌, ◌*◌, ◌<◌, ◌≤◌, if◌then◌else◌, Bool, true, false, IsTrue, List, [], ◌∷◌, length, ap, subst, arith}
use Rattle.plain_table.specs.declared.events.Field.{Field}
use Rattle.plain_table.specs.declared.events.Field.TheVariants as field
use Rattle.plain_table.specs.Scans.{Move, Rest, Visit, marked_at}
use Rattle.plain_table.proofs.ObjectFields.{AreFieldsOf-three, fields_of}
use Rattle.plain_table.specs.Scans.{Begins}
use Rattle.entry_base.specs.declared.view.Opening.{Opening}
use Rattle.entry_base.specs.declared.view.View.{View}
use Rattle.entry_base.specs.Callers.{IsCaller}
use Rattle.entry_base.specs.Lists.{AreIn, count_in}
use Rattle.entry_base.specs.Openings.{sizes_in}
use Rattle.entry_base.specs.Passed.{field_of}
use Rattle.entry_base.proofs.Sums.{each_in}
use Rattle.call_base.specs.Called.{Called}
use Rattle.call_base.specs.ScanParts.{ScanPart}
use Rattle.call_base.proofs.ScanParts.{part_none, part_still, part_trans, part_turn}
use Rattle.mark_steps.proofs.EvacuationWays.{field_is}
use Rattle.marker.proofs.Counts.{count_cons, length_few}

-- an external field is read, marked and evacuated
pub external_part : (v a b w : View) (o n word : ℕ) (fields : List Field) → n < 2 → Called v [] a → ScanPart a (Visit o (field_of o n ∷ fields)) b (marked_at o fields (field_of o n) word) []
    → ScanPart b (Move o fields (2 * o + n) word) w (Visit o fields) [] → ScanPart v (Visit o (field_of o n ∷ fields)) w (Visit o fields) []
external_part v a b w o n word fields few read mark evacuate =
    part_trans v a w _ _ _ [] [] (part_still v a (Visit o (field_of o n ∷ fields)) read)
    (part_trans a b w _ _ _ [] [] (subst (λ f. ScanPart a (Visit o (field_of o n ∷ fields)) b (marked_at o fields f word) []) (field_is o n few) mark) evacuate)

-- an object begins to be scanned
pub begins : (v : View) (o : ℕ) → ScanPart v Rest v (Visit o (field_of o 0 ∷ field_of o 1 ∷ field_of o 2 ∷ [])) []
begins v o =
    subst (λ n. ScanPart v Rest v (Visit o (field.External n ∷ field_of o 1 ∷ field_of o 2 ∷ [])) []) (let e : 2 * o + 0 ≡ 2 * o = omega arith in e)
    (part_turn v v Rest Rest _ [] (part_none v Rest) (λ b base. Begins o (fields_of o) tt (AreFieldsOf-three o)))

-- where the hands have an object more than the stack, each at most once, the stack has room for one more
pub has_room : (key : Opening) (w : View) (hands stack : List ℕ) (target object room : ℕ) → IsCaller key w → w.hands ≡ target ∷ hands → ((q : ℕ) → count_in q w.hands ≤ 1)
    → AreIn (object ∷ stack) hands → (sizes_in key).objects ≤ room → length stack < room
has_room key w hands stack target object room caller is once within enough =
    let few = length_few (sizes_in key).objects (object ∷ stack) (each_in _ (object ∷ stack) w.hands all caller.hands) (λ q. let a = all q in let b = once q in omega (arith, a, b)) in
    omega (arith, few, enough)
  where
    all : AreIn (object ∷ stack) w.hands
    all q = let a = within q in let b = ap (count_in q) is in let c = count_cons q target hands in omega (arith, a, b, c)

-- the hands after the shading of a white object
pub now_white : (target : ℕ) (white : Bool) (hands later : List ℕ) → later ≡ (if white then target ∷ hands else hands) → IsTrue white → later ≡ target ∷ hands
now_white target true hands later is white = is
now_white target false hands later is white = absurd (cc)
