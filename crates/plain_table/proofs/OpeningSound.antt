-- The table before anything happened is sound.
use Rattle.std.proofs.Common.{◌==◌, ◌<◌, ◌≤◌, ℕ, refl, inl, inr, arith, IsTrue, eqb-true, le-mul_of_pos_right}
use Rattle.plain_table.specs.declared.scripts.Limits.{Limits}
use Rattle.plain_table.specs.declared.events.Space.{Space}
use Rattle.plain_table.specs.declared.events.Space.TheVariants.{External, Trusted}
use Rattle.plain_table.specs.Ranges.{IsSegment, IsInRange}
use Rattle.plain_table.specs.Table.{opening, limit_of}
use Rattle.plain_table.specs.Openings.{OpeningsAreSound}

-- a segment has at least four entries
pub le-segment : (seg : ℕ) → IsSegment seg → 4 ≤ seg
le-segment seg is =
    elim is [
      | inl four ↦ omega (arith, four)
      | inr (inl sixteen) ↦ omega (arith, sixteen)
      | inr (inr (inl more)) ↦ omega (arith, more)
      | inr (inr (inr most)) ↦ omega (arith, most)
    ]

-- each space has at least one segment of indexes
pub le-limit_of : (limits : Limits) (p : Space) → IsInRange limits → limits.seg ≤ limit_of (opening limits) p
le-limit_of limits External range = le-mul_of_pos_right limits.seg range.ext.0
le-limit_of limits Trusted range = le-mul_of_pos_right limits.seg range.tru.0

-- index 0 is below the limit of each space
pub lt-limit_of : (limits : Limits) (p : Space) (i : ℕ) → IsInRange limits → IsTrue (i == 0) → i < limit_of (opening limits) p
lt-limit_of limits p i range zero =
    omega (arith, eqb-true i 0 zero, le-segment limits.seg range.seg, le-limit_of limits p range)

pub IsSound-opening : OpeningsAreSound
IsSound-opening limits range = record {
  used = record {
    first = λ p. refl;
    below = λ p i is. lt-limit_of limits p i range is;
    cells = λ p i is. absurd (cc);
    claims = λ b p i is. absurd (cc);
    entries = λ i is. absurd (cc);
    one_claim = λ b c p i is other. absurd (cc);
    claim_or_entry = λ b i is. refl;
  };
  fresh = record { cells = λ b p i is. absurd (cc); one_fresh = λ b c p i is other. absurd (cc) };
  ids = record { differ = λ p q i j n is other. absurd (cc); below = λ p i n is. absurd (cc) };
  cells = record { tags = λ p i c is. absurd (cc); seen = λ i c is. absurd (cc) };
  objects = record {
    few = omega arith;
    roots = λ g o is. absurd (cc);
    variables = λ b v o is. absurd (cc);
    references = λ o k q is. absurd (cc);
    contents = λ f some. absurd (some refl);
    bindings = λ f is. absurd (cc);
  };
  fields = record {
    own = λ f n reached is. absurd (cc);
    trusted = λ o reached some. absurd (some refl);
    settled = λ o b reached some. refl;
  };
  tickets = record {
    fresh_hidden = λ b i is. absurd (cc);
    hidden = λ b i is. absurd (cc);
    settled = λ b c i is. refl;
    one_ticket = λ b c i is other. absurd (cc);
    mutators = λ b i is. absurd (cc);
  };
  cycle = tt;
}
