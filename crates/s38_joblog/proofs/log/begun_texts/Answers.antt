use Rattle.std.proofs.Common.{◌≡◌, ◌+◌, ◌∷◌, ◌++◌, [], sym, ◌∙◌, ap, arith}
use Rattle.s38_joblog.specs.Log.{job_head_line}
use Rattle.s38_joblog.proofs.Grouping.{heads-more}
use Rattle.s38_joblog.proofs.log.begun_texts.Goals as goal

pub loop-k-preserved : goal.loop-k-preserved
loop-k-preserved c =
    let line : c.in_ok-text.text ≡ job_head_line (c.loop-k.k + 1) c.index-jobs-k.result = c.in_ok-text.ensures in
    let more : c.push.new.self.items ≡ c.loop-k.texts.items ++ c.in_ok-text.text ∷ [] = c.in_ok-push.ensures.items in
    more
    ∙ (ap (λ t. c.loop-k.texts.items ++ t ∷ []) line
    ∙ (ap (λ ts. ts ++ job_head_line (c.loop-k.k + 1) c.index-jobs-k.result ∷ []) c.loop-k.invariant
    ∙ sym (heads-more c.args.jobs.now c.loop-k.k c.index-jobs-k.result (omega arith) c.index-jobs-k.is)))
