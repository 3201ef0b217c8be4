use Rattle.std.proofs.Common.{sym, ◌∙◌}
use Rattle.s38_template.proofs.Complete.{complete}
use Rattle.s38_template.proofs.Ends.{ok, same_Ok}
use Rattle.s38_template.proofs.read.one_deck.Goals as goal

pub returns : goal.returns
unfolding ok
returns c = λ text one other s t. same_Ok one other (sym (complete text one s) ∙ complete text other t)
