-- What a store keeps of a current object can be read again.
use Rattle.std.specs.Prelude.{◌≡◌, ◌^◌, ◌<◌, ◌≤◌, ℕ, true, length}
use Rattle.s38_base.specs.Limits.{body_limit, furthest}
use Rattle.s38_commits.specs.Units.{UnitMap}
use Rattle.s38_image.specs.Bodies.{BodyImage, body_tags}
use Rattle.s38_image.specs.Fitting.{FitsBody, IsImage, header_codec, rows_codec}
use Rattle.s38_image.specs.Settled.{committed_image, settled_body, settled_sequence}
use Rattle.s38_image_writer.specs.Parts.{CanSettle, header_with}
use Rattle.s38_laws_images.specs.openings.Bodies.{HoldsBody}
use Rattle.s38_laws_images.specs.readable.Forms.{HoldsForm}
use Rattle.s38_rules.specs.state.Held.{kind_of}
use Rattle.s38_rules.specs.store.Storable.{IsStorable}
use Rattle.s38_rules.specs.declared.object.Body.{Body}
use Rattle.s38_rules.specs.declared.object.Object.{Object}

-- header and rows are, however long the body is
pub record IsFront (o : Object) : Type 0 where
  pub header : (len : ℕ) → len ≤ furthest → header_codec.fits (header_with o len) ≡ true
  pub rows : (rows_codec (length o.rows)).fits o.rows ≡ true

-- what a store keeps of a body, with the units as they are and the last sequence of its journal space
abbrev pub kept_image : UnitMap → ℕ → ℕ → Body → BodyImage
kept_image units number last b = record { body = settled_body units number b; sequence = settled_sequence last b }

-- a body is, whatever units have changed that can be taken back, and whatever its journal space holds
abbrev pub IsReadableBody : Body → Type 0
IsReadableBody b = (units : UnitMap) (number last : ℕ) → last < 2 ^ 64 → CanSettle units number b
    → FitsBody (kind_of b) (body_tags (kind_of b) (kept_image units number last b)) (kept_image units number last b)

-- an object is
abbrev pub IsReadable : Object → Type 0
IsReadable o = (units : UnitMap) (last : ℕ) → last < 2 ^ 64 → CanSettle units o.number.0 o.body → IsImage body_limit (committed_image units last o)

-- ---- what makes that an object is

pub record IsFit (o : Object) : Type 0 where
  -- its body is of its kind, and it has not too many rows
  pub storable : IsStorable o
  -- its body keeps to its limits, and has its form
  pub limits : HoldsBody body_limit o
  pub form : HoldsForm o

-- as a whole, and beside its body
abbrev pub IsAgain : Object → Type 0
IsAgain o = IsReadable o × IsFront o
