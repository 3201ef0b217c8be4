use Rattle.std.proofs.Common.{◌≡◌, ◌++◌, take}
use Rattle.std.specs.List.{flat_map}
use Rattle.s38_template.specs.Printing.{printed_lines}
use Rattle.s38_template.proofs.print.add_templates.Given as goal

abbrev pub invariant-loop-template : goal.invariant-loop-template
invariant-loop-template l = l.text.items ≡ l.initial.text.items ++ flat_map printed_lines (take l.template-index l.templates)
