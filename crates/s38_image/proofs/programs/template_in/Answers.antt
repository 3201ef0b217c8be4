use Rattle.std.proofs.Common.{sym, subst}
use Rattle.std.specs.Prelude.{Result}
use Rattle.s38_code.specs.declared.deck.Deck.{Deck}
use Rattle.s38_codec.specs.Reading.{Gives}
use Rattle.s38_image.specs.Programs.{template_spelled_in}
use Rattle.s38_template.proofs.Complete.{complete}
use Rattle.s38_template.specs.declared.fault.DeckFault.{DeckFault}
use Rattle.s38_image.proofs.programs.template_in.Goals as goal

pub returns-in-Ok : goal.returns-in-Ok
returns-in-Ok c = subst (λ (r : Result Deck DeckFault). Gives (λ t. t) c.only_template.result (template_spelled_in r)) (sym (complete c.args.text.now c.in-Ok.deck c.in-Ok.ensures.found)) c.only_template.ensures
