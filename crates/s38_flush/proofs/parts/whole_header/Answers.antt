use Rattle.std.proofs.Common.{◌∙◌, ap, length, sym, ℕ}
use Rattle.s38_base.specs.declared.id.Kind.{Kind}
use Rattle.s38_image.specs.Bodies.{body_bytes}
use Rattle.s38_image.specs.Images.{image_of}
use Rattle.s38_image.specs.Settled.{committed_image}
use Rattle.s38_image_writer.specs.Parts.{header_with}
use Rattle.s38_flush.proofs.parts.whole_header.Goals as goal

pub returns-clause-value : goal.returns-clause-value
returns-clause-value c = λ units last settles.
    let o = c.args.object.now in
    ap (λ (k : Kind). header_with o (length (body_bytes k (image_of (committed_image units last o))))) (sym c.requires.kind)
    ∙ ap (λ (n : ℕ). header_with o n) (c.image_len.ensures.bytes units o.number.0 last settles ∙ sym c.image_len.ensures.len)
    ∙ sym c.header_with.ensures.value
