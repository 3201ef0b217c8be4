use Rattle.std.proofs.Common.{sym, ◌∙◌}
use Rattle.s38_run.proofs.EndLaws.{of_complete, of_stopped}
use Rattle.s38_run.proofs.jobs.serial.Goals as goal

pub returns-clause-going : goal.returns-clause-going
returns-clause-going g c e = of_complete c.run_on-run.result _ (sym c.end_of.ensures ∙ e) c.run_on-run.ensures.going

pub returns-clause-run : goal.returns-clause-run
returns-clause-run g c e = (of_complete c.run_on-run.result _ (sym c.end_of.ensures ∙ e) c.run_on-run.ensures.over).sound

pub returns-clause-picker : goal.returns-clause-picker
returns-clause-picker g c e = (of_complete c.run_on-run.result _ (sym c.end_of.ensures ∙ e) c.run_on-run.ensures.over).picker

pub returns-clause-ran : goal.returns-clause-ran
returns-clause-ran g c e = (of_complete c.run_on-run.result _ (sym c.end_of.ensures ∙ e) c.run_on-run.ensures.over).ran

pub returns-clause-stopped : goal.returns-clause-stopped
returns-clause-stopped g c e = c.run_on-run.ensures.stopped (of_stopped c.run_on-run.result (sym c.end_of.ensures ∙ e))
