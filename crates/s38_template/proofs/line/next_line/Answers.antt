use Rattle.std.proofs.Common.{sym, ◌∙◌, ◌+◌}
use Rattle.std.proofs.lemmas.List.{take_rest}
use Rattle.s38_template.proofs.Texts.{line_to, plain_to}
use Rattle.s38_template.proofs.line.next_line.Goals as goal

pub returns-in-Some-clause-parts : goal.returns-in-Some-clause-parts
returns-in-Some-clause-parts c =
    let text = c.args.text.now in
    let at = c.in-Some.at in
    rw (take_rest text (at + 1)) (sym (line_to text at (sym c.odd_place.ensures.place ∙ c.in-Some.is) c.if-text-at-eq10.true).0)

pub returns-in-Some-clause-plain : goal.returns-in-Some-clause-plain
returns-in-Some-clause-plain c =
    let text = c.args.text.now in
    let at = c.in-Some.at in
    plain_to text at (c.in-Some.ensures.bound) (line_to text at (sym c.odd_place.ensures.place ∙ c.in-Some.is) c.if-text-at-eq10.true).1
