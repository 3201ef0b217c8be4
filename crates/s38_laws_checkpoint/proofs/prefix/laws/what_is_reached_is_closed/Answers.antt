use Rattle.s38_laws_checkpoint.proofs.prefix.CloseLaws.{all_closed, represents_after}
use Rattle.s38_laws_checkpoint.proofs.prefix.WholeLaws.{content_represents}
use Rattle.s38_laws_checkpoint.proofs.prefix.laws.what_is_reached_is_closed.Goals as goal

pub returns-clause-reached : goal.returns-clause-reached
returns-clause-reached c = λ s d m n gone rest is stands named all behind. represents_after c.what_is_durable_follows.ensures s d is m n gone rest stands named all behind

pub returns-clause-closed : goal.returns-clause-closed
returns-clause-closed c = λ s d is. all_closed c.what_is_durable_follows.ensures s d is

pub returns-clause-content : goal.returns-clause-content
returns-clause-content c = λ s d is headers. content_represents s d is headers
