use Rattle.s38_image_writer.proofs.PartLaws.{all_counted, body_long}
use Rattle.s38_image_writer.proofs.parts.part_count.Goals as goal

pub returns-clause-parts : goal.returns-clause-parts
returns-clause-parts c = λ units last s.
    all_counted units last c.args.object.now c.requires.kind (c.image_len.ensures.bytes units c.args.object.now.number.0 last s) c.as_bytes-name.ensures.name

pub returns-clause-body : goal.returns-clause-body
returns-clause-body c = λ units last s.
    body_long units last c.args.object.now c.requires.kind (c.image_len.ensures.bytes units c.args.object.now.number.0 last s)
