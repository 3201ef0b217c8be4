use Rattle.std.proofs.Common.{◌≡◌, Bool, true, cond, Option, Some, None, ap, sym, ◌∙◌}
use Rattle.s38_image.proofs.BodyReading.{untagged_read}
use Rattle.s38_image.proofs.HeaderLaws.{header_is}
use Rattle.s38_image.specs.Fitting.{header_codec}
use Rattle.s38_image.specs.Headers.{header}
use Rattle.s38_image.proofs.assembly.header_from.Goals as goal

pub returns-then-not-are_untagged : goal.returns-then-not-are_untagged
returns-then-not-are_untagged c =
    untagged_read header (λ h. header_codec.fits h ≡ true) header_is c.args.front.now c.args.bytes.now c.in_ok-found.found (λ k. (c.type_inv.bytes k).fits) c.requires (c.in_ok-found.ensures)
    ∙ ap (λ (b : Bool). cond b (Some c.in_ok-found.found) None) (sym c.are_untagged.ensures ∙ c.if-not-are_untagged.true)

pub returns : goal.returns
returns c =
    untagged_read header (λ h. header_codec.fits h ≡ true) header_is c.args.front.now c.args.bytes.now c.in_ok-found.found (λ k. (c.type_inv.bytes k).fits) c.requires (c.in_ok-found.ensures)
    ∙ ap (λ (b : Bool). cond b (Some c.in_ok-found.found) None) (sym c.are_untagged.ensures ∙ c.if-not-are_untagged.false)
