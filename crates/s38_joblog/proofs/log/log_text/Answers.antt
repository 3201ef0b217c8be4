use Rattle.std.proofs.Common.{◌∙◌}
use Rattle.s38_joblog.proofs.Grouping.{whole_log}
use Rattle.s38_joblog.proofs.log.log_text.Goals as goal

pub returns : goal.returns
returns c =
    c.into_bytes.ensures
    ∙ (c.in_ok-whole.ensures
    ∙ whole_log c.args.history.now c.args.jobs.now c.in_ok-texts.texts.items c.in_ok-texts.ensures.count c.in_ok-texts.ensures.lines)
