-- A step of a kind that writes one word, whatever it found, is made at any term for its place, writes any term for its word,
-- and tells what follows. So a function's body says which word it writes, and the answer says only which one it has to be.
use Rattle.std.proofs.Common.{◌≡◌, ℕ}
use Rattle.atomic_table.specs.Table.{Me}
use Rattle.entry_base.specs.declared.view.Opening.{Opening}
use Rattle.entry_base.specs.declared.view.View.{View}
use Rattle.entry_base.proofs.Steps.{Keeps, learned_at}

pub written_at : (key : Opening) (slots id : ℕ) (me : Me (Unit {0}) View) (i j n m : ℕ) (P Q : ℕ → View → Type 0) → j ≡ i → m ≡ n → ((found : ℕ) (w : View) → P found w → Q found w)
    → Keeps key slots id me i (λ x. n) P → Keeps key slots id me j (λ x. m) Q
written_at key slots id me i j n m P Q place word follows step = learned_at key slots id me i j (λ x. n) (λ x. m) P Q place (λ x. word) follows step
