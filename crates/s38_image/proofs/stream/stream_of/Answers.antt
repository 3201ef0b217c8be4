use Rattle.std.proofs.Common.{◌≡◌, ℕ, true, ap, sym, ◌∙◌}
use Rattle.s38_image.proofs.StreamReading.{stream_length, stream_pages}
use Rattle.s38_image.specs.Pages.{are_pages}
use Rattle.s38_image.proofs.stream.stream_of.Goals as goal

pub returns-clause-len : goal.returns-clause-len
returns-clause-len c =
    let pages = ap (λ (n : ℕ). are_pages c.args.number c.args.first n c.args.parts.now) (sym c.needed.ensures.value) ∙ sym c.are_pages.ensures ∙ c.if-not-are_pages.false in
    stream_length (λ v. v.items) c.args.number c.args.first c.args.len c.args.parts.now c.in_ok-bytes.bytes.items c.unfilled.result pages c.in_ok-bytes.ensures.whole c.in_ok-bytes.ensures.read c.unfilled.ensures

pub returns-clause-pages : goal.returns-clause-pages
returns-clause-pages c =
    let pages = ap (λ (n : ℕ). are_pages c.args.number c.args.first n c.args.parts.now) (sym c.needed.ensures.value) ∙ sym c.are_pages.ensures ∙ c.if-not-are_pages.false in
    stream_pages (λ v. v.items) c.args.number c.args.first c.args.len c.args.parts.now c.unfilled.result pages
    (stream_length (λ v. v.items) c.args.number c.args.first c.args.len c.args.parts.now c.in_ok-bytes.bytes.items c.unfilled.result pages c.in_ok-bytes.ensures.whole c.in_ok-bytes.ensures.read c.unfilled.ensures)
