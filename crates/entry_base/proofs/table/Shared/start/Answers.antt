use Rattle.std.proofs.Common.{◌≡◌, ◌*◌, ◌==◌, ◌∙◌, if◌then◌else◌, slice_index, [], ◌∷◌, ℕ, List, Option, replicate, true, length, sym, ap, subst, subst₂, arith}
use Rattle.std.proofs.lemmas.List.{length-map}
use Rattle.std.proofs.lemmas.Grind.{get_or_default_zero, merely}
use Rattle.plain_table.specs.declared.events.Space.TheVariants.{External, Trusted}
use Rattle.plain_table.specs.Words.{words_in_all}
use Rattle.entry_word.specs.declared.image.Pending.{Pending}
use Rattle.entry_base.specs.Callers.{IsCaller}
use Rattle.entry_base.specs.Lists.{count_in}
use Rattle.entry_base.specs.Openings.{opening_of, pending_cell, sizes_in, IsBase, IsOpenable}
use Rattle.entry_base.specs.Rule.{Kept}
use Rattle.entry_base.specs.Tied.{IsTied}
use Rattle.entry_base.specs.Views.{first_view}
use Rattle.entry_base.proofs.OpenKeeps.{count_greys, opens, phase_bit}
use Rattle.entry_base.proofs.TiedParts.{first_calls, tied_first}
use Rattle.entry_base.proofs.table.Shared.start.Goals as goal

pub of_words-requires : goal.of_words-requires
of_words-requires c =
    let r = c.requires in
    let base : IsBase (opening_of c.args.image) r.lawful.0 = record { sound = r.lawful.1; shows = r.lawful.2; covered = r.lawful.3 } in
    subst (λ ws. Kept (opening_of c.args.image) ws (first_view (opening_of c.args.image) ∷ [])) (sym c.as_slice-3.ensures.value) (opens (opening_of c.args.image) r.lawful.0 base r.small)

pub overflow_mul-shared : goal.overflow_mul-shared
overflow_mul-shared c = let f = c.requires.small.few External in omega arith

pub overflow_mul-shared-2 : goal.overflow_mul-shared-2
overflow_mul-shared-2 c = let f = c.requires.small.few Trusted in omega arith

pub invariant_of-shared : goal.invariant_of-shared
invariant_of-shared c =
    let r = c.requires in
    let e = c.in-Ok.ensures in
    let long : c.in-Ok.table.shared.table_id.words ≡ length c.args.image.words.items = e.0 ∙ ap length c.as_slice-3.ensures.value in
    record {
      sized = long ∙ (r.lawful.2.words.whole ∙ (ap words_in_all r.lawful.2.sizes ∙ ap (λ k. words_in_all (sizes_in (opening_of k))) (sym e.5)));
      no_slots = e.1;
      roomy = record {
        opened = ap opening_of (sym e.5);
        words = sym long;
        vars = r.lawful.2.variables.0;
        pending = sym (length-map c.args.image.pending.items pending_cell) ∙ r.lawful.2.pending.0;
      };
      made = (ap (λ k. k.shape.seg) (sym e.5), ap (λ k. k.shape.objects) (sym e.5));
      limits = (ap (λ k. k.shape.seg * k.shape.ext) (sym e.5), ap (λ k. k.shape.seg * k.shape.tru) (sym e.5));
      openable = merely (subst (λ k. IsOpenable (opening_of k)) (sym e.5) (record {
        base = r.lawful.0;
        is_base = record { sound = r.lawful.1; shows = r.lawful.2; covered = r.lawful.3 };
        small = r.small;
      }));
      few = (r.small.few External, r.small.few Trusted, r.small.objects);
    }

pub invariant_of-session : goal.invariant_of-session
invariant_of-session c =
    let r = c.requires in
    let e = c.in-Ok.ensures in
    let key = opening_of c.args.image in
    let vars : c.array_of_vars-vars.result ≡ c.args.image.vars.items = c.array_of_vars-vars.ensures ∙ c.as_slice.ensures.value in
    let pending : c.array_of_pending-pending.result ≡ c.args.image.pending.items = c.array_of_pending-pending.ensures ∙ c.as_slice-2.ensures.value in
    let at : slice_index c.args.image.words.items 4 ≡ c.index.result.now = sym (c.index.ensures ∙ get_or_default_zero c.args.image.words.items 4 c.index.result.now (let l = r.lawful.2.words.whole in omega arith)) in
    let first = tied_first key (c.index.result.now == 1) c.args.area r.lawful.2.variables.0 (sym (length-map c.args.image.pending.items pending_cell) ∙ r.lawful.2.pending.0) (phase_bit r.lawful.0.cycle (slice_index c.args.image.words.items 4) r.lawful.2.words.phase ∙ ap (λ (n : ℕ). if n == 1 then 1 else 0) at) r.area in
    record {
      bare = ap (λ m. m.1) e.4;
      tied = subst (IsTied _) (sym (ap (λ m. m.0) e.4))
          (subst₂ (λ (p : List ℕ) (q : List (Option Pending)). IsTied (record { number = 12; numbers = replicate 13 true; vars = p; pending = q; in_cycle = c.index.result.now == 1; area = c.args.area }) (first_view key)) (sym vars) (sym pending) first);
    }

pub returns-clause-caller : goal.returns-clause-caller
returns-clause-caller c =
    let r = c.requires in
    let e = c.in-Ok.ensures in
    let base : IsBase (opening_of c.args.image) r.lawful.0 = record { sound = r.lawful.1; shows = r.lawful.2; covered = r.lawful.3 } in
    (e.2, subst₂ IsCaller (ap opening_of (sym e.5)) (sym (ap (λ m. m.0) e.4)) (first_calls (opening_of c.args.image) r.lawful.0 base))

pub returns-clause-hands : goal.returns-clause-hands
returns-clause-hands c = λ o.
    let e = c.in-Ok.ensures in
    ap (λ m. count_in o m.0.hands) e.4 ∙ (count_greys c.args.image.words.items (sizes_in (opening_of c.args.image)).objects o ∙ sym (c.requires.owed o))
