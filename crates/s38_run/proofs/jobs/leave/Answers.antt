use Rattle.std.proofs.Common.{rules, ℕ}
use Rattle.std.specs.Prelude.{not, ◌==◌}
use Rattle.std.proofs.lemmas.Fn.{filter_same}
use Rattle.s38_run.proofs.jobs.leave.Goals as goal

pub returns : goal.returns
returns c = filter_same _ (λ (q : ℕ). not (c.args.process == q)) _ (λ x b f' t. search rules) _ _ c.retain.ensures.filtered
