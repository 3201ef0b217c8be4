use Rattle.std.proofs.Common.{◌∙◌, arith}
use Rattle.s38_redo_log.proofs.Words.{word_bytes, word_set}
use Rattle.s38_redo_log.proofs.coding.set_word.Goals as goal

pub returns-clause-here : goal.returns-clause-here
returns-clause-here c = word_set c.args.bytes.now c.args.at _ _ _ _ (omega arith) ∙ word_bytes c.to_be_bytes.result c.args.number (omega arith) c.to_be_bytes.ensures
