use Rattle.std.proofs.Common.{◌∙◌, ap, sym, ◌+◌}
use Rattle.std.proofs.lemmas.List.{take_rest}
use Rattle.std.specs.Option.{option_map}
use Rattle.s38_template.proofs.Texts.{around, cut_position}
use Rattle.s38_template.proofs.cut.cut.Goals as goal

pub returns-in-Some : goal.returns-in-Some
returns-in-Some c =
    let text = c.args.text.now in
    let at = c.in-Some.at in
    rw (take_rest text (at + 1)) (ap (option_map (around text)) (sym c.in-Some.is ∙ c.place_of.ensures.place) ∙ sym (cut_position c.args.separator text))

pub returns-in-None : goal.returns-in-None
returns-in-None c =
    let text = c.args.text.now in
    ap (option_map (around text)) (sym c.in-None.is ∙ c.place_of.ensures.place) ∙ sym (cut_position c.args.separator text)
