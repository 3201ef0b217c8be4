use Rattle.s38_laws_checkpoint.proofs.puts.CostLaws.{closing_short}
use Rattle.s38_laws_checkpoint.proofs.puts.NextLaws.{left_closed, next_few}
use Rattle.s38_laws_checkpoint.proofs.puts.laws.each_object_is_closed_by_one_put.Goals as goal

pub returns-clause-next : goal.returns-clause-next
returns-clause-next c = λ s d m n gone rest ends stands all behind. next_few c.what_is_durable_follows.ensures s d ends m n stands gone rest all behind

pub returns-clause-left : goal.returns-clause-left
returns-clause-left c = λ s d m n ends stands named left. left_closed c.what_is_durable_follows.ensures s d ends m n stands named left

pub returns-clause-short : goal.returns-clause-short
returns-clause-short c = λ s short. closing_short s short
