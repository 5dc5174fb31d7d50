-- The phase is that of the image: the table was opened with it.
use Rattle.std.proofs.Common.{◌≡◌, List, slice_index_or, sym, ap, subst, ◌∙◌}
use Rattle.plain_table.specs.declared.reports.Reply.{Reply}
use Rattle.plain_table.specs.declared.scripts.Op.{Op}
use Rattle.word_laws.specs.Small.{AreSmall}
use Rattle.word_laws.proofs.SmallSizes.{AreSmall-opening}
use Rattle.entry_base.specs.declared.view.Opening.{Opening}
use Rattle.entry_base.specs.declared.view.View.{View}
use Rattle.entry_base.specs.Hands.{grey}
use Rattle.entry_base.specs.Lists.{count_in}
use Rattle.entry_base.specs.Openings.{IsOpenable, opening_of, sizes_in}
use Rattle.entry_base.specs.Sessions.{opened_with, view}
use Rattle.entry_base.specs.Views.{first_view}
use Rattle.phases.specs.declared.phases.PhaseOut.{PhaseOut}
use Rattle.phases.specs.Sessions.{IsGiven}
use Rattle.phases.specs.Workers.{Worked}
use Rattle.phases.proofs.Closed.{ran}
use Rattle.phases.proofs.phases.run_phase.Goals as goal

pub work-requires-clause-openable : goal.work-requires-clause-openable
work-requires-clause-openable g c κs within =
    let lawful = c.requires.lawful in
    subst IsOpenable (sym c.in_ok-shared.ensures.opened) (record {
      base = lawful.0;
      is_base = record { sound = lawful.1; shows = lawful.2; covered = lawful.3 };
      small = subst AreSmall (sym c.requires.sizes) (AreSmall-opening c.args.limits.now c.requires.can.range);
    })

pub work-requires-clause-given : goal.work-requires-clause-given
work-requires-clause-given g c κs within = λ i d low.
    subst (λ (v : View). IsGiven v i (view (slice_index_or c.in-Ok-split_workers.workers.items i d).session)) (c.in_ok-shared.ensures.first ∙ ap first_view (sym c.in_ok-shared.ensures.opened))
    (c.in-Ok-split_workers.ensures.given i d low)

pub work-requires-clause-owed : goal.work-requires-clause-owed
work-requires-clause-owed g c κs within = λ o. subst (λ (k : Opening). count_in o c.args.owed.now ≡ grey (sizes_in k) k.words o) (sym c.in_ok-shared.ensures.opened) (c.requires.owed o)

pub returns : goal.returns
returns g c =
    let opened = c.in_ok-shared.ensures.opened in
    let w = view c.work.new.first in
    let out : PhaseOut = record { image = c.finish-image.result; replies = c.from_vec.result; shaded = c.shaded_objects-shaded.result; scans = c.in_ok-scans.scans } in
    record {
      ran = ran c.args.limits.now (opening_of c.args.image) c.args.phase.now.calls c.args.owed.now out w (c.in_ok-scans.ensures.caller.1.opened ∙ opened)
          (subst (λ (k : Opening). Worked c.args.limits.now k c.args.phase.now.calls c.args.owed.now c.from_vec.result c.in_ok-scans.scans w) opened
          (subst (λ (cs : List (List Op)). Worked c.args.limits.now (opened_with c.in_ok-shared.shared) cs c.args.owed.now c.from_vec.result c.in_ok-scans.scans w) c.as_slice-calls.ensures
          (subst (λ (rs : List (List Reply)). Worked c.args.limits.now (opened_with c.in_ok-shared.shared) c.as_slice-calls.result.now c.args.owed.now rs c.in_ok-scans.scans w) (sym c.from_vec.ensures) c.in_ok-scans.ensures.worked)))
          c.finish-image.ensures.closed c.finish-image.ensures.left c.shaded_objects-shaded.ensures.listed;
    }
