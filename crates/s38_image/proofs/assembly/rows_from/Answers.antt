use Rattle.std.proofs.Common.{◌≡◌, Bool, true, cond, Option, Some, None, ap, sym, ◌∙◌}
use Rattle.s38_image.proofs.BodyReading.{untagged_read}
use Rattle.s38_image.proofs.HeaderLaws.{rows_is}
use Rattle.s38_image.specs.Fitting.{rows_codec}
use Rattle.s38_image.specs.Headers.{rows}
use Rattle.s38_image.proofs.assembly.rows_from.Goals as goal

pub returns-then-not-are_untagged : goal.returns-then-not-are_untagged
returns-then-not-are_untagged c =
    untagged_read (rows c.args.count) (λ rs. (rows_codec c.args.count).fits rs ≡ true) (rows_is c.args.count) c.args.middle.now c.args.bytes.now c.in_ok-found.found (λ k. (c.type_inv.bytes k).fits) c.requires (c.in_ok-found.ensures)
    ∙ ap (λ (b : Bool). cond b (Some c.in_ok-found.found) None) (sym c.are_untagged.ensures ∙ c.if-not-are_untagged.true)

pub returns : goal.returns
returns c =
    untagged_read (rows c.args.count) (λ rs. (rows_codec c.args.count).fits rs ≡ true) (rows_is c.args.count) c.args.middle.now c.args.bytes.now c.in_ok-found.found (λ k. (c.type_inv.bytes k).fits) c.requires (c.in_ok-found.ensures)
    ∙ ap (λ (b : Bool). cond b (Some c.in_ok-found.found) None) (sym c.are_untagged.ensures ∙ c.if-not-are_untagged.false)
