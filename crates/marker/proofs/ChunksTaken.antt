-- Chunks that are taken and run, one after another: what is so at the start and after each one.
use Rattle.std.proofs.Common.{◌≡◌, ℕ, ◌+◌, ◌≤◌, List, [], ◌∷◌, ◌++◌, length, refl, ap, subst, ◌∙◌, arith}
use Rattle.std.proofs.lemmas.List.{length-append}
use Rattle.plain_table.specs.Scans.{Rest}
use Rattle.entry_base.specs.declared.chunks.Chunk.{Chunk}
use Rattle.entry_base.specs.declared.view.View.{View}
use Rattle.entry_base.specs.Callers.{AreWithin, SameOwn}
use Rattle.entry_base.specs.Histories.{IsPhaseHistory}
use Rattle.entry_base.specs.Joins.{Absorbed}
use Rattle.entry_base.specs.Lists.{AreIn, count_in}
use Rattle.entry_base.specs.Numbers.{HasNumber}
use Rattle.entry_base.specs.Openings.{IsOpenable, sizes_in}
use Rattle.entry_base.specs.Sessions.{hands_of}
use Rattle.entry_base.proofs.OneByOne.{own_trans}
use Rattle.entry_base.proofs.Sums.{count_append, each_append}
use Rattle.call_base.specs.ScanParts.{ScanPart}
use Rattle.marker.proofs.Absorptions.{called_absorbed}
use Rattle.call_base.proofs.ScanParts.{part_none, part_still, part_trans}
use Rattle.chunk_pool.specs.declared.claims.Claims.{Claims}
use Rattle.chunk_pool.specs.Claims.{Took}
use Rattle.marker.specs.declared.steals.Dealt.{Dealt}
use Rattle.marker.specs.Steals.{RunsChunk, Steals, TookAll, objects_of}
use Rattle.marker.proofs.Counts.{length_few}
use Rattle.marker.proofs.ScansOnce.{scans_once}

took_push : (t m u : Claims) (chunks : List Chunk) (chunk : Chunk) → TookAll t chunks m → Took m chunk u → TookAll t (chunks ++ chunk ∷ []) u
took_push t m u [] chunk none took = (u, subst (λ x. Took x chunk u) none took, refl)
took_push t m u (first ∷ chunks) chunk all took = (all.0, all.1, took_push all.0 m u chunks chunk all.2 took)

objects_push : (q : ℕ) (chunks : List Chunk) (chunk : Chunk) → count_in q (objects_of (chunks ++ chunk ∷ [])) ≡ count_in q (objects_of chunks) + count_in q chunk.objects.items
objects_push q [] chunk = let a = count_append q chunk.objects.items [] in omega arith
objects_push q (first ∷ chunks) chunk =
    let a = objects_push q chunks chunk in
    let b = count_append q first.objects.items (objects_of (chunks ++ chunk ∷ [])) in
    let c = count_append q first.objects.items (objects_of chunks) in
    omega arith

pub steals_begin : (v : View) (t : Claims) → Steals v t v t (record { chunks = 0; scans = 0 })
steals_begin v t = record {
  taken = [];
  done = [];
  shaded = [];
  took = refl;
  chunks = refl;
  part = part_none v Rest;
  scans = refl;
  all = λ q. refl;
  low = tt;
  once = λ q. omega arith;
  own = record { vars = refl; pending = refl; owed = refl; fresh = refl };
  hands = λ q. refl;
}

-- a chunk comes into the hands
module _ (w : View) (chunk : Chunk) (x : View) (a : Absorbed w (hands_of chunk) x) where
  hands_came : (q : ℕ) → count_in q x.hands ≡ count_in q w.hands + count_in q chunk.objects.items
  hands_came q = ap (count_in q) a.together.hands ∙ (count_append q w.hands (hands_of chunk).hands ∙ ap (λ hands. count_in q w.hands + count_in q hands) chunk.whole)

  pub objects_in : AreIn chunk.objects.items x.hands
  objects_in q = let c = hands_came q in omega (arith, c)

-- and is run, after others
module _ (v : View) (t : Claims) (w : View) (m : Claims) (dealt : Dealt) (so_far : Steals v t w m dealt) (chunk : Chunk) (y : View) (scans : ℕ) (ran : RunsChunk w chunk y scans)
    (own : HasNumber w w.number) (openable : ∥ IsOpenable v.opening ∥₁) (lawful : IsPhaseHistory v.opening y.seen) where
  opened : ran.holder.opening ≡ v.opening
  opened = ran.absorbed.together.opening ∙ so_far.part.called.same.opening

  came_own : SameOwn w ran.holder
  came_own = let a = ran.absorbed in record { vars = a.vars; pending = a.pending; owed = a.owed; fresh = a.fresh }

  part : ScanPart v Rest y Rest (so_far.done ++ ran.runs.done)
  part = part_trans v w y Rest Rest Rest so_far.done ran.runs.done so_far.part
      (part_trans w ran.holder y Rest Rest Rest [] ran.runs.done
      (part_still w ran.holder Rest (called_absorbed w (hands_of chunk) ran.holder own ran.absorbed)) ran.runs.part)

  low : AreWithin v.opening (so_far.done ++ ran.runs.done)
  low = each_append _ so_far.done ran.runs.done so_far.low (subst (λ o. AreWithin o ran.runs.done) opened ran.runs.low)

  once : (q : ℕ) → count_in q (so_far.done ++ ran.runs.done) ≤ 1
  once = scans_once v y Rest Rest (so_far.done ++ ran.runs.done) openable lawful part

  number : length (so_far.done ++ ran.runs.done) ≡ dealt.scans + scans
  number = let b = length-append so_far.done ran.runs.done in let c = so_far.scans in let d = ran.runs.number in omega (arith, b, c, d)

  pub steals_turn : (u : Claims) → Took m chunk u → Steals v t y u (record { chunks = dealt.chunks + 1; scans = dealt.scans + scans })
  steals_turn u took = record {
    taken = so_far.taken ++ chunk ∷ [];
    done = so_far.done ++ ran.runs.done;
    shaded = so_far.shaded ++ ran.runs.shaded;
    took = took_push t m u so_far.taken chunk so_far.took took;
    chunks = length-append so_far.taken (chunk ∷ []) ∙ ap (λ n. n + 1) so_far.chunks;
    part = part;
    scans = number;
    all = λ q.
        let b = so_far.all q in
        let c = ran.runs.all q in
        let d = count_append q so_far.done ran.runs.done in
        let e = objects_push q so_far.taken chunk in
        let f = count_append q so_far.shaded ran.runs.shaded in
        omega arith;
    low = low;
    once = once;
    own = own_trans v ran.holder y (own_trans v w ran.holder so_far.own came_own) ran.runs.own;
    hands = λ q. let b = so_far.hands q in let c = ran.runs.hands q in let d = hands_came w chunk ran.holder ran.absorbed q in omega arith;
  }

  -- no more scans than objects
  pub few_dealt : dealt.scans + scans ≤ (sizes_in v.opening).objects
  few_dealt = let few = length_few (sizes_in v.opening).objects (so_far.done ++ ran.runs.done) low once in let is = number in omega (arith, few, is)
