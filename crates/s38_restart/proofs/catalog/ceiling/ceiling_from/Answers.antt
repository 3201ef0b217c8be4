use Rattle.std.proofs.Common.{◌≡◌, Bool, true, cond, Some, None, ap, sym, ◌∙◌}
use Rattle.s38_image.proofs.BodyReading.{untagged_read}
use Rattle.s38_image.specs.Faults.{ceiling_page}
use Rattle.s38_restart.proofs.catalog.CeilingLaws.{ceiling_codec, ceiling_is}
use Rattle.s38_restart.proofs.catalog.ceiling.ceiling_from.Goals as goal

pub returns-then-not-are_untagged : goal.returns-then-not-are_untagged
returns-then-not-are_untagged c =
    untagged_read ceiling_page (λ n. ceiling_codec.fits n ≡ true) ceiling_is c.args.front.now c.args.bytes.now c.in_ok-ceiling.ceiling (λ k. (c.type_inv.bytes k).fits) c.requires (c.in_ok-ceiling.ensures)
    ∙ ap (λ (b : Bool). cond b (Some c.in_ok-ceiling.ceiling) None) (sym c.are_untagged.ensures ∙ c.if-not-are_untagged.true)

pub returns : goal.returns
returns c =
    untagged_read ceiling_page (λ n. ceiling_codec.fits n ≡ true) ceiling_is c.args.front.now c.args.bytes.now c.in_ok-ceiling.ceiling (λ k. (c.type_inv.bytes k).fits) c.requires (c.in_ok-ceiling.ensures)
    ∙ ap (λ (b : Bool). cond b (Some c.in_ok-ceiling.ceiling) None) (sym c.are_untagged.ensures ∙ c.if-not-are_untagged.false)
