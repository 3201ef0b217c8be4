use Rattle.std.proofs.Common.{◌≡◌, ℕ, Bool, cond, List, Some, None, ap, subst, sym, ◌∙◌}
use Rattle.s38_image.proofs.BodyReading.{body_read, some_image}
use Rattle.s38_image.specs.Bodies.{body}
use Rattle.s38_image.specs.Steps.{body_image, has_tags}
use Rattle.s38_image.proofs.body_images.body_from.Goals as goal

pub returns-then-not-has_tags : goal.returns-then-not-has_tags
returns-then-not-has_tags c =
    let k = c.args.kind in
    let tags = c.in_ok-tags.tags.items in
    let bytes = c.args.bytes.now in
    let b = c.in_ok-body.body in
    let n = c.in_ok-body.sequence in
    let read = subst (λ (t : List ℕ). (body k t).read bytes ≡ Some (body_image b n)) c.deref.ensures.value c.in_ok-body.ensures in
    let has = ap (λ (t : List ℕ). has_tags k b t) (sym c.deref-2.ensures.value) ∙ sym c.has_tags.ensures ∙ c.if-not-has_tags.true in
    body_read k c.args.parts.now tags bytes b n (λ i. (c.type_inv.bytes i).fits) c.requires.pages (c.in_ok-tags.ensures) read
    ∙ ap (λ (t : Bool). cond t (some_image (body_image b n)) None) has

pub returns : goal.returns
returns c =
    let k = c.args.kind in
    let tags = c.in_ok-tags.tags.items in
    let bytes = c.args.bytes.now in
    let b = c.in_ok-body.body in
    let n = c.in_ok-body.sequence in
    let read = subst (λ (t : List ℕ). (body k t).read bytes ≡ Some (body_image b n)) c.deref.ensures.value c.in_ok-body.ensures in
    let has = ap (λ (t : List ℕ). has_tags k b t) (sym c.deref-2.ensures.value) ∙ sym c.has_tags.ensures ∙ c.if-not-has_tags.false in
    body_read k c.args.parts.now tags bytes b n (λ i. (c.type_inv.bytes i).fits) c.requires.pages (c.in_ok-tags.ensures) read
    ∙ ap (λ (t : Bool). cond t (some_image (body_image b n)) None) has
