-- What a marker does from rest to rest: the objects that it scans, and those that its references bring into the hands.
use Rattle.std.specs.Prelude.{◌≡◌, ℕ, ◌+◌, ◌≤◌, List, [], ◌∷◌, length}
use Rattle.plain_table.specs.Scans.{Rest}
use Rattle.entry_base.specs.declared.view.View.{View}
use Rattle.entry_base.specs.Callers.{AreWithin, SameOwn}
use Rattle.entry_base.specs.Lists.{AreIn, count_in}
use Rattle.call_base.specs.ScanParts.{ScanPart}

-- objects came into the hands by shading, and onto the stack
pub record Brings (v : View) (before : List ℕ) (w : View) (after : List ℕ) (came : List ℕ) : Type 0 where
  pub own : SameOwn v w
  pub hands : (q : ℕ) → count_in q w.hands ≡ count_in q v.hands + count_in q came
  pub stack : (q : ℕ) → count_in q after ≡ count_in q before + count_in q came

-- objects were scanned, from rest to rest, since a view with objects to scan: each of these, and each that came by shading, was
-- scanned or still stands on the stack; the hands are as before, without the first ones and with those on the stack
pub record Scanning (v : View) (from : List ℕ) (w : View) (stack : List ℕ) (scans : ℕ) : Type 0 where
  pub done : List ℕ
  pub came : List ℕ
  pub part : ScanPart v Rest w Rest done
  pub number : length done ≡ scans
  pub all : (q : ℕ) → count_in q done + count_in q stack ≡ count_in q from + count_in q came
  pub own : SameOwn v w
  pub hands : (q : ℕ) → count_in q w.hands + count_in q from ≡ count_in q v.hands + count_in q stack
  pub low : AreWithin v.opening done
  pub within : AreIn stack w.hands

-- a whole run: each given object, and each that was shaded, has its scan; the answer is the number of scans, and the hands are as
-- before without the given objects
pub record Runs (v : View) (from : List ℕ) (w : View) (scans : ℕ) : Type 0 where
  pub done : List ℕ
  pub shaded : List ℕ
  pub part : ScanPart v Rest w Rest done
  pub number : length done ≡ scans
  pub all : (q : ℕ) → count_in q done ≡ count_in q from + count_in q shaded
  pub low : AreWithin v.opening done
  pub once : (q : ℕ) → count_in q done ≤ 1
  pub own : SameOwn v w
  pub hands : (q : ℕ) → count_in q w.hands + count_in q from ≡ count_in q v.hands

-- one object was scanned, and has left the hands
pub record ScansObject (v : View) (before : List ℕ) (object : ℕ) (w : View) (after : List ℕ) : Type 0 where
  pub came : List ℕ
  pub part : ScanPart v Rest w Rest (object ∷ [])
  pub own : SameOwn v w
  pub hands : (q : ℕ) → count_in q w.hands + count_in q (object ∷ []) ≡ count_in q v.hands + count_in q came
  pub stack : (q : ℕ) → count_in q after ≡ count_in q before + count_in q came
