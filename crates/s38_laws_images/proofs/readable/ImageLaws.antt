-- An object is read again where its header, its rows and its body are.
use Rattle.std.proofs.Common.{◌≡◌, ℕ, ◌≤◌, length, refl, subst, sym, arith}
use Rattle.std.specs.Prelude.{nat_le}
use Rattle.s38_base.specs.Limits.{body_limit, furthest, most_rows}
use Rattle.s38_base.specs.declared.id.Kind.{Kind}
use Rattle.s38_codec.proofs.CodecLaws.{and_true}
use Rattle.s38_commits.specs.Units.{UnitMap}
use Rattle.s38_image.specs.Bodies.{body_bytes, body_tags}
use Rattle.s38_image.specs.Fitting.{FitsBody}
use Rattle.s38_image.specs.Headers.{longest_body}
use Rattle.s38_image.specs.Images.{image_of}
use Rattle.s38_image.specs.Settled.{committed_image}
use Rattle.s38_image_writer.proofs.PartLaws.{body_long}
use Rattle.s38_image_writer.specs.Parts.{CanSettle, own_bytes}
use Rattle.s38_laws_images.proofs.readable.ListLaws.{at_most}
use Rattle.s38_laws_images.specs.openings.Bodies.{IsBody}
use Rattle.s38_laws_images.specs.readable.Readable.{IsFront, IsReadable, IsReadableBody, kept_image}
use Rattle.s38_rules.specs.state.Held.{kind_of}
use Rattle.s38_rules.specs.store.Room.{image_len}
use Rattle.s38_rules.specs.store.Storable.{IsStorable}
use Rattle.s38_rules.specs.declared.object.Body.TheVariants as bodies
use Rattle.s38_rules.specs.declared.object.Body.{Body}
use Rattle.s38_rules.specs.declared.object.Object.{Object}

-- a body is no longer than its kind may be
short_body : (b : Body) → IsBody body_limit b → image_len b ≤ longest_body body_limit (kind_of b)
short_body bodies.Context is = omega arith
short_body (bodies.Program p) is = is
short_body (bodies.Profile special limit) is = omega arith
short_body (bodies.Space cells) is = is.image
short_body (bodies.Queue q) is = is.image
short_body (bodies.Index i) is = is.image
short_body (bodies.DataSpace d) is = is
short_body (bodies.Cursor c) is = omega arith
short_body (bodies.Port p) is = omega arith
short_body (bodies.Journal j) is = omega (arith, is)
short_body (bodies.Block b) is = omega arith

-- the length of what is printed of a body
abbrev pub IsLong : Body → Type 0
IsLong b = (units : UnitMap) (number last : ℕ) → CanSettle units number b → length (own_bytes units number last b) ≡ image_len b

pub image_is : (o : Object) → IsStorable o → IsBody body_limit o.body → IsFront o → IsReadableBody o.body → image_len o.body ≤ furthest → IsLong o.body → IsReadable o
image_is o storable limits front body bound long units last early settles =
    let k = o.id.kind in
    let n = o.number.0 in
    let len : length (body_bytes k (image_of (committed_image units last o))) ≡ image_len o.body = body_long units last o storable.kind (long units n last settles) in
    let short : image_len o.body ≤ longest_body body_limit k = subst (λ (v : Kind). image_len o.body ≤ longest_body body_limit v) storable.kind (short_body o.body limits) in
    let within : length (body_bytes k (image_of (committed_image units last o))) ≤ longest_body body_limit k = subst (λ (m : ℕ). m ≤ longest_body body_limit k) (sym len) short in
    let near : length (body_bytes k (image_of (committed_image units last o))) ≤ furthest = omega (arith, len, bound) in
    record {
      on_disk = refl;
      header = front.header (length (body_bytes k (image_of (committed_image units last o)))) near;
      within = and_true (nat_le (length o.rows) most_rows) _ (at_most (length o.rows) most_rows storable.rows) (at_most (length (body_bytes k (image_of (committed_image units last o)))) (longest_body body_limit k) within);
      rows = front.rows;
      body = subst (λ (v : Kind). FitsBody v (body_tags v (kept_image units n last o.body)) (kept_image units n last o.body)) storable.kind (body units n last early settles);
    }
