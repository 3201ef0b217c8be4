use Rattle.std.proofs.Common.{◌+◌}
use Rattle.s38_demo.proofs.GeneratedLaws.{jobs_more}
use Rattle.s38_demo.proofs.generated.add_post_jobs.Goals as goal

pub loop-number-preserved : goal.loop-number-preserved
loop-number-preserved c =
    jobs_more c.loop-number.text.items c.add_post_job.new.text.items _ c.loop-number.number (c.args.size + 1) c.loop-number-test.true c.in_ok-add_post_job.ensures c.loop-number.invariant
