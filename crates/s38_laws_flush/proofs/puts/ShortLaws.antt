-- What is kept after a step is short where the objects are.
use Rattle.std.proofs.Common.{◌≡◌, ◌≤◌, ℕ, arith}
use Rattle.std.specs.Prelude.{None, Some}
use Rattle.s38_base.specs.Limits.{body_limit}
use Rattle.s38_commits.specs.Units.{UnitMap}
use Rattle.s38_durable_state.specs.Durable.{body_after}
use Rattle.s38_image.specs.Settled.{settled_body, settled_journal}
use Rattle.s38_laws_images.specs.openings.Bodies.{IsBody}
use Rattle.s38_rules.specs.state.Parts.{journal_of}
use Rattle.s38_rules.specs.store.Room.{image_len}
use Rattle.s38_rules.specs.declared.object.Body.TheVariants as bodies
use Rattle.s38_rules.specs.declared.object.Body.{Body}
use Rattle.s38_flush.proofs.KeptLaws.{settled_len}

-- a body within the limit, but that of a journal space
pub body_short : (b : Body) → IsBody body_limit b → journal_of b ≡ None → image_len b ≤ body_limit
body_short bodies.Context is none = omega arith
body_short (bodies.Program p) is none = is
body_short (bodies.Profile special limit) is none = omega arith
body_short (bodies.Space cells) is none = is.image
body_short (bodies.Queue q) is none = is.image
body_short (bodies.Index index) is none = is.image
body_short (bodies.DataSpace d) is none = is
body_short (bodies.Cursor cursor) is none = omega arith
body_short (bodies.Port port) is none = omega arith
body_short (bodies.Journal j) is none = absurd (let e : Some j ≡ None = none in cc)
body_short (bodies.Block block) is none = omega arith

settled_journal_of : (units : UnitMap) (n : ℕ) (b : Body) → journal_of (settled_body units n b) ≡ None → journal_of b ≡ None
settled_journal_of units n (bodies.DataSpace d) none = none
settled_journal_of units n (bodies.Journal j) none = absurd (let e : Some (settled_journal j) ≡ None = none in cc)
settled_journal_of units n _ none = none

-- it is as long with every uncommitted change taken back
pub settled_short : (units : UnitMap) (n : ℕ) (b : Body) → IsBody body_limit b → journal_of (settled_body units n b) ≡ None → image_len (settled_body units n b) ≤ body_limit
settled_short units n b is none =
    let few = body_short b is (settled_journal_of units n b none) in
    let same = settled_len units n b in
    omega (arith, few, same)

-- what is said of a user has five bytes, and another body stays as it was
pub kept_after_short : (b old : Body) → (journal_of old ≡ None → image_len old ≤ body_limit) → journal_of (body_after b old) ≡ None → image_len (body_after b old) ≤ body_limit
kept_after_short (bodies.Profile special limit) old short none = omega arith
kept_after_short _ old short none = short none
