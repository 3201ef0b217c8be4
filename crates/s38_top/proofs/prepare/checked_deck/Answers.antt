use Rattle.std.proofs.Common.{ℕ, List, sym, ◌∙◌, ap, refl}
use Rattle.std.specs.Prelude.{slice_get}
use Rattle.s38_top.proofs.DeckLaws.{all_templates}
use Rattle.s38_top.proofs.CauseLaws.{bad_deck}
use Rattle.s38_top.proofs.prepare.checked_deck.Goals as goal

pub returns-in-Err-Bad-clause-cause : goal.returns-in-Err-Bad-clause-cause
returns-in-Err-Bad-clause-cause c =
    let bad = bad_deck c.args.text.now c.in-Err-Bad.field-0 c.in-Err-Bad.line c.in-Err-Bad.code c.in-Err-Bad.field-0-is c.in-Err-Bad.ensures.bad c.in-Err-Bad.ensures.none in
    λ command disk. rw c.in-Err-Bad.field-0-is (bad.0, (bad.1, refl))

pub checked_templates-requires : goal.checked_templates-requires
checked_templates-requires c = λ k lines h.
    all_templates c.in-Ok.deck.templates c.in-Ok.ensures.found.templates k lines (ap (λ (ts : List (List (List ℕ))). slice_get ts k) (sym c.as_slice.ensures.items) ∙ h)
