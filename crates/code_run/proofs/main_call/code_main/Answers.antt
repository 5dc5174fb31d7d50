use Rattle.std.proofs.Common.{rules, ◌∙◌, sym, true≢false}
use Rattle.code_run.proofs.OneWord.{line_fits}
use Rattle.code_run.proofs.main_call.code_main.Goals as goal

pub returns-in-Ok-write_all-clause-room : goal.returns-in-Ok-write_all-clause-room
returns-in-Ok-write_all-clause-room g c = λ n is room has fits.
    let short = line_fits _ n _ room c.as_slice.result.now _ _ _ is (search rules) c.run_codes-report.ensures.ran (c.as_slice.ensures.value ∙ c.print_line-line.ensures) fits in
    (search rules, (c.in-Ok-write_all.ensures.room room has short).2)

pub returns-clause-room : goal.returns-clause-room
returns-clause-room g c = λ n is room has fits.
    let short = line_fits _ n _ room c.as_slice.result.now _ _ _ is (search rules) c.run_codes-report.ensures.ran (c.as_slice.ensures.value ∙ c.print_line-line.ensures) fits in
    absurd (true≢false (sym (c.in-Err.ensures.room room has short).0))
