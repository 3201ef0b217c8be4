use Rattle.std.proofs.Common.{◌≡◌, ℕ, length}
use Rattle.std.specs.Prelude.{Some, slice_get}
use Rattle.s38_code.specs.declared.deck.Job.{Job}
use Rattle.s38_code.specs.declared.made.CreateResult.{CreateResult}
use Rattle.s38_top.specs.Decks.{made_for}
use Rattle.s38_top.proofs.templates.made_of_jobs.Given as goal

abbrev pub invariant-loop-job : goal.invariant-loop-job
invariant-loop-job l = record {
  count : length l.made.items ≡ l.job-index;
  each : (k : ℕ) (job : Job) (one : CreateResult) → slice_get l.deck.jobs k ≡ Some job → slice_get l.made.items k ≡ Some one → made_for l.deck job ≡ Some one;
}
