use Rattle.std.proofs.Common.{◌≡◌, take}
use Rattle.std.specs.Prelude.{map}
use Rattle.s38_top.specs.Decks.{checked_template}
use Rattle.s38_top.proofs.templates.checked_templates.Given as goal

abbrev pub invariant-loop-template : goal.invariant-loop-template
invariant-loop-template l = l.checked.items ≡ map checked_template (take l.template-index l.templates)
