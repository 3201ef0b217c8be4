use Rattle.std.proofs.Common.{◌≡◌, sym, ap, ◌∙◌}
use Rattle.std.specs.Prelude.{Some, Result, Ok, Err, IfOk}
use Rattle.std.proofs.lemmas.Option.{get_or_from_slice_get}
use Rattle.s38_base.specs.declared.fault.NoMemory.{NoMemory}
use Rattle.s38_code.specs.declared.made.CheckedTemplate.{CheckedTemplate}
use Rattle.s38_code.specs.declared.made.CreateResult.{CreateResult}
use Rattle.s38_code.specs.declared.deck.Deck.{Deck}
use Rattle.s38_code.specs.declared.deck.Job.{Job}
use Rattle.s38_top.specs.Decks.{made_for}
use Rattle.s38_top.proofs.templates.made_at.Goals as goal

carried : (deck : Deck) (job : Job) (r : Result CreateResult NoMemory) (x p : CreateResult) → p ≡ x → made_for deck job ≡ Some p → IfOk r (λ try_clone. try_clone ≡ x) → IfOk r (λ made. made_for deck job ≡ Some made)
carried deck job (Ok made) x p e is h = is ∙ ap Some (e ∙ sym h)
carried deck job (Err f) x p e is h = tt

pub returns : goal.returns
returns c =
    carried c.args.deck.now c.args.job.now c.try_clone.result _ c.requires.template.made
    (ap (λ (t : CheckedTemplate). t.made) (sym (get_or_from_slice_get c.args.templates.now c.args.at c.requires.template c.index-templates-at.result c.requires.there)))
    c.requires.is c.try_clone.ensures
