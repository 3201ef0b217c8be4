use Rattle.s38_top.proofs.closing.restart_laws.Goals as goal

pub returns : goal.returns
returns c = record {
  restartable = c.what_is_durable_can_restart.ensures.histories;
  replies = c.a_crash_leaves_what_restarts.ensures.answered;
  numbers = c.a_crash_leaves_what_restarts.ensures.numbers;
  closed_to = c.what_a_run_leaves_restarts.ensures.left;
  closed_numbers = c.what_a_run_leaves_restarts.ensures.numbers;
}
