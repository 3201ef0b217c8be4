use Rattle.s38_words.proofs.MnemonicLaws.{each_is_read}
use Rattle.s38_words.proofs.operations.operations_are_read.Goals as goal

pub returns : goal.returns
returns c = each_is_read c.args.op
