use Rattle.s38_run.proofs.HistoryLaws.{one_history}
use Rattle.s38_run.proofs.laws.the_picks_decide.Goals as goal

pub returns : goal.returns
returns g c = one_history g.P.Picker.answer g.P.Picker.after c.args.picker.now
