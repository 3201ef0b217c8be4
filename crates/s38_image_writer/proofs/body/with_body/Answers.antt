use Rattle.std.proofs.Common.{◌++◌, ◌∙◌, List, ap, sym}
use Rattle.std.specs.Option.{option_copied}
use Rattle.s38_base.specs.declared.page.Change.{Change}
use Rattle.s38_image_writer.proofs.PartLaws.{own_stream}
use Rattle.s38_image_writer.proofs.body.with_body.Goals as goal

pub returns-in-None-clause-parts : goal.returns-in-None-clause-parts
returns-in-None-clause-parts c =
    let none = sym c.of.ensures ∙ ap option_copied c.in-None.is in
    c.with_stream.ensures.parts ∙ ap (λ (t : List Change). c.args.parts.items ++ t) (sym (own_stream c.args.units.now c.args.number.0 c.args.last c.args.body.now none))
