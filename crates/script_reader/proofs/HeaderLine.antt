-- The header of valid limits names these limits.
use Rattle.std.proofs.Common.{◌≡◌, inl, inr, ℕ, ◌/◌, ◌^◌, ◌==◌, ◌<◌, ◌≤◌, nat_le, true, false, ◌||◌, List, [], ◌∷◌, ◌++◌, codes, Some, Result, Ok, refl, sym, ◌∙◌, ap, arith}
use Rattle.std.specs.List.{All, flat_map}
use Rattle.std.specs.Fmt.{decimal}
use Rattle.std.proofs.lemmas.Grind.{common_steps}
use Rattle.std.proofs.lemmas.Bool.Decides.{nat_tests}
use Rattle.std.proofs.lemmas.List.{append_assoc}
use Rattle.std.proofs.Math.Nat.{div-le_self}
use Rattle.script_reader.specs.declared.refusals.ScriptErr.{ScriptErr}
use Rattle.script_reader.specs.declared.header.Header.{Header}
use Rattle.script_reader.specs.declared.lines.Counts.{Counts}
use Rattle.plain_table.specs.declared.scripts.Limits.{Limits}
use Rattle.plain_table.specs.declared.scripts.Phase.{Phase}
use Rattle.plain_table.specs.declared.scripts.Script.{Script}
use Rattle.script_reader.specs.Spelling.{pieces, small_of}
use Rattle.script_reader.specs.Header.{are_limits, header_of, limits_of_numbers, version_of}
use Rattle.script_reader.specs.Grammar.{header_from, lines_from, opening, script_of}
use Rattle.script_reader.specs.Lines.{most_operations}
use Rattle.script_reader.specs.Valid.{IsVersion, IsValidLimits, IsValidPhase, operations_of}
use Rattle.script_reader.specs.Canonical.{header_text, header_words, phase_text, spaced}
use Rattle.script_reader.specs.Law.{PrintedIsReadBack}
use Rattle.script_reader.proofs.Splitting.{slice_split-full}
use Rattle.script_reader.proofs.Ink.{is_ink, are_ink, both, ink-append, words-spaced, pieces-spaced}
use Rattle.script_reader.proofs.ReadBack.{ink-decimal, read-decimal}
use Rattle.script_reader.proofs.Rereading.{lines-phases}

-- the numbers are small
pub record AreSmall (l : Limits) : Type 0 where
  pub seg : l.seg < 10 ^ 9
  pub ext : l.ext < 10 ^ 9
  pub tru : l.tru < 10 ^ 9
  pub objects : l.objects < 10 ^ 9
  pub mutators : l.mutators < 10 ^ 9
  pub markers : l.markers < 10 ^ 9

seg-low : (l : Limits) → IsValidLimits l → l.seg ≤ 256
seg-low l v = elim v.seg [ inl e ↦ omega arith | inr s ↦ elim s [ inl e ↦ omega arith | inr t ↦ elim t [ inl e ↦ omega arith | inr e ↦ omega arith ] ] ]

part-low : (n : ℕ) → 65536 / n ≤ 65536
part-low n = div-le_self 65536 n

are-small : (l : Limits) → IsValidLimits l → AreSmall l
are-small l v = record {
  seg = omega (arith, seg-low l v);
  ext = omega (arith, part-low l.seg, v.ext.1);
  tru = omega (arith, part-low l.seg, v.tru.1);
  objects = omega (arith, v.objects.1);
  mutators = omega (arith, v.mutators.1);
  markers = omega (arith, v.markers);
}

ink-named : (name : List ℕ) (n : ℕ) → is_ink name ≡ true → n < 10 ^ 9 → is_ink (name ++ decimal n) ≡ true
ink-named name n i h = ink-append name (decimal n) i (ink-decimal n (omega arith))

ink-header : (version : ℕ) (l : Limits) → version < 10 ^ 9 → AreSmall l → are_ink (header_words version l) ≡ true
ink-header version l small s =
    both (is_ink (decimal version)) _ (ink-decimal version (omega arith))
    (both (is_ink (codes "seg=" ++ decimal l.seg)) _ (ink-named (codes "seg=") l.seg refl s.seg)
    (both (is_ink (codes "ext=" ++ decimal l.ext)) _ (ink-named (codes "ext=") l.ext refl s.ext)
    (both (is_ink (codes "tru=" ++ decimal l.tru)) _ (ink-named (codes "tru=") l.tru refl s.tru)
    (both (is_ink (codes "objects=" ++ decimal l.objects)) _ (ink-named (codes "objects=") l.objects refl s.objects)
    (both (is_ink (codes "mutators=" ++ decimal l.mutators)) _ (ink-named (codes "mutators=") l.mutators refl s.mutators)
    (both (is_ink (codes "markers=" ++ decimal l.markers)) true (ink-named (codes "markers=") l.markers refl s.markers) refl))))))

low : (m n : ℕ) → m ≤ n → nat_le m n ≡ true
low m n h = grind (arith, common_steps, nat_tests)

is-seg : (l : Limits) → IsValidLimits l → (l.seg == 4 || l.seg == 16 || l.seg == 64 || l.seg == 256) ≡ true
is-seg l v = elim v.seg [ inl e ↦ rw e refl | inr s ↦ elim s [ inl e ↦ rw e refl | inr t ↦ elim t [ inl e ↦ rw e refl | inr e ↦ rw e refl ] ] ]

are-limits : (l : Limits) → IsValidLimits l → are_limits l ≡ true
are-limits l v =
    rw (
      is-seg l v,
      low 1 l.ext v.ext.0,
      low l.ext (65536 / l.seg) v.ext.1,
      low 1 l.tru v.tru.0,
      low l.tru (65536 / l.seg) v.tru.1,
      low 1 l.objects v.objects.0,
      low l.objects 16384 v.objects.1,
      low 1 l.mutators v.mutators.0,
      low l.mutators 8 v.mutators.1,
      low l.markers 4 v.markers,
    ) refl

numbers : (l : Limits) → IsValidLimits l → AreSmall l
    → limits_of_numbers (codes "seg=" ++ decimal l.seg) (codes "ext=" ++ decimal l.ext) (codes "tru=" ++ decimal l.tru)
    (codes "objects=" ++ decimal l.objects) (codes "mutators=" ++ decimal l.mutators)
    (codes "markers=" ++ decimal l.markers) ≡ Some l
numbers l v s =
    rw (
      read-decimal l.seg s.seg,
      read-decimal l.ext s.ext,
      read-decimal l.tru s.tru,
      read-decimal l.objects s.objects,
      read-decimal l.mutators s.mutators,
      read-decimal l.markers s.markers,
      are-limits l v,
    ) refl

low-version : (version : ℕ) → IsVersion version → version < 10 ^ 9
low-version version v = elim v [ inl one ↦ omega arith | inr two ↦ omega arith ]

read-version : (version : ℕ) → IsVersion version → version_of (decimal version) ≡ Some version
read-version version v =
    let e : small_of (decimal version) ≡ Some version = read-decimal version (low-version version v) in
    let t : (version == 1 || version == 2) ≡ true = elim v [ inl one ↦ rw one refl | inr two ↦ rw two refl ] in
    rw (e, t) refl

read-header : (h : Header) → IsVersion h.version → IsValidLimits h.limits
    → header_of (codes "ept" ++ spaced (header_words h.version h.limits)) ≡ Some h
read-header h a v =
    let s = are-small h.limits v in
    rw (
      words-spaced (codes "ept") (header_words h.version h.limits) refl (ink-header h.version h.limits (low-version h.version a) s),
      read-version h.version a,
      numbers h.limits v s,
    ) refl

text-header : (h : Header) (body : List ℕ) → IsVersion h.version → IsValidLimits h.limits
    → script_of (header_text h.version h.limits ++ body) ≡ lines_from h.limits (opening h) 2 (pieces body)
text-header h body a v =
    let line : List ℕ = codes "ept" ++ spaced (header_words h.version h.limits) in
    let p : pieces (header_text h.version h.limits ++ body) ≡ line ∷ pieces body =
    ap pieces (append_assoc line (10 ∷ []) body)
    ∙ pieces-spaced (codes "ept") (header_words h.version h.limits) body refl
    (ink-header h.version h.limits (low-version h.version a) (are-small h.limits v)) in
    let r : header_from 1 (line ∷ pieces body) ≡ lines_from h.limits (opening h) 2 (pieces body) =
    rw (slice_split-full (λ byte. byte == 10) body, read-header h a v) refl in
    ap (header_from 1) p ∙ r

pub read-back : PrintedIsReadBack
read-back s v =
    let header : Header = record { version = s.version; limits = s.limits } in
    let each : All (IsValidPhase s.version s.limits.mutators) (v.phases ++ v.last ∷ []) = rw v.split at v.each in
    let few : operations_of (v.phases ++ v.last ∷ []) ≤ most_operations = rw v.split at v.operations in
    let start : Counts = record { version = s.version; mutators = s.limits.mutators; in_cycle = false; operations = 0; meets = 0 } in
    let result : (p : List Phase) → Result Script ScriptErr = λ p. Ok (record { version = s.version; limits = s.limits; phases = p }) in
    text-header header (flat_map phase_text s.phases) v.version v.limits
    ∙ ap (λ phases. lines_from s.limits (opening header) 2 (pieces (flat_map phase_text phases))) v.split
    ∙ lines-phases s.limits [] start 2 v.phases v.last each v.limits.mutators.1 (omega arith) (omega (arith, v.meets))
    v.cycles v.ends
    ∙ ap result (sym v.split)
