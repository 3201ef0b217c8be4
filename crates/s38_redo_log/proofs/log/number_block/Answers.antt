use Rattle.std.proofs.Common.{◌+◌, ◌∙◌}
use Rattle.s38_redo_log.specs.Phases.{log_number_at}
use Rattle.s38_redo_log.proofs.Words.{words_more}
use Rattle.s38_redo_log.proofs.log.number_block.Goals as goal

pub loop-i-preserved : goal.loop-i-preserved
loop-i-preserved c = record {
  len = c.type_inv.bytes;
  so_far = words_more c.loop-i.bytes _ c.loop-i.i (λ k. log_number_at c.args.slots.now (c.args.first + k)) c.loop-i.invariant.so_far (c.set_word.ensures.here ∙ c.number_at.ensures) c.set_word.ensures.rest;
}
