-- What was read can be printed.
use Rattle.std.proofs.Common.{◌≡◌, ℕ, zero, suc, ◌≤◌, List, length, refl, sym, subst, arith}
use Rattle.s38_base.specs.Limits.{most_rows}
use Rattle.s38_base.specs.declared.id.Kind.{Kind}
use Rattle.s38_base.specs.declared.id.Kind.TheVariants as kinds
use Rattle.s38_code.specs.declared.program.Program.{Program}
use Rattle.s38_codec.proofs.CodecLaws.{both_true}
use Rattle.s38_image.proofs.HeaderLaws.{at_most}
use Rattle.s38_image.specs.Bodies.{BodyImage, body_bytes, body_tags}
use Rattle.s38_image.specs.Fitting.{FitsBody, IsImage}
use Rattle.s38_image.specs.Headers.{longest_body}
use Rattle.s38_image.specs.Images.{image_of, stored_header}
use Rattle.s38_image.specs.declared.stored.Stored.{Stored}
use Rattle.s38_image_writer.proofs.LengthLaws.{text_long}
use Rattle.s38_rules.specs.store.Storable.{HasShortText, IsStorable}
use Rattle.s38_rules.specs.state.Held.{kind_of}
use Rattle.s38_rules.specs.declared.object.Body.{Body}
use Rattle.s38_rules.specs.declared.object.Body.TheVariants as bodies
use Rattle.std.specs.Prelude.{nat_le}

abbrev held : Body → ℕ → BodyImage
held b sequence = record { body = b; sequence = sequence }

-- what fits the format of a kind is of that kind
kind_fits : (k : Kind) (tags : List ℕ) (b : Body) (sequence : ℕ) → FitsBody k tags (held b sequence) → kind_of b ≡ k
kind_fits kinds.Context tags bodies.Context zero h = refl
kind_fits kinds.Context tags _ zero h = absurd h
kind_fits kinds.Context tags _ (suc n) h = absurd h
kind_fits kinds.Program tags (bodies.Program p) zero h = refl
kind_fits kinds.Program tags _ zero h = absurd h
kind_fits kinds.Program tags _ (suc n) h = absurd h
kind_fits kinds.Profile tags (bodies.Profile s limit) zero h = refl
kind_fits kinds.Profile tags _ zero h = absurd h
kind_fits kinds.Profile tags _ (suc n) h = absurd h
kind_fits kinds.Space tags (bodies.Space cs) zero h = refl
kind_fits kinds.Space tags _ zero h = absurd h
kind_fits kinds.Space tags _ (suc n) h = absurd h
kind_fits kinds.Queue tags (bodies.Queue q) zero h = refl
kind_fits kinds.Queue tags _ zero h = absurd h
kind_fits kinds.Queue tags _ (suc n) h = absurd h
kind_fits kinds.Index tags (bodies.Index i) zero h = refl
kind_fits kinds.Index tags _ zero h = absurd h
kind_fits kinds.Index tags _ (suc n) h = absurd h
kind_fits kinds.DataSpace tags (bodies.DataSpace d) n h = refl
kind_fits kinds.DataSpace tags _ n h = absurd h
kind_fits kinds.Cursor tags (bodies.Cursor c) zero h = refl
kind_fits kinds.Cursor tags _ zero h = absurd h
kind_fits kinds.Cursor tags _ (suc n) h = absurd h
kind_fits kinds.Port tags (bodies.Port p) zero h = refl
kind_fits kinds.Port tags _ zero h = absurd h
kind_fits kinds.Port tags _ (suc n) h = absurd h
kind_fits kinds.Journal tags (bodies.Journal j) zero h = refl
kind_fits kinds.Journal tags _ zero h = absurd h
kind_fits kinds.Journal tags _ (suc n) h = absurd h
kind_fits kinds.Block tags (bodies.Block b) zero h = refl
kind_fits kinds.Block tags _ zero h = absurd h
kind_fits kinds.Block tags _ (suc n) h = absurd h

short_program : (p : Program) (tags : List ℕ) (sequence limit : ℕ) → FitsBody kinds.Program tags (held (bodies.Program p) sequence) → length (body_bytes kinds.Program (held (bodies.Program p) sequence)) ≤ limit → limit ≤ 16777216 → HasShortText (bodies.Program p)
short_program p tags zero limit h le small = omega (arith, text_long p.template, le, small)
short_program p tags (suc n) limit h le small = absurd h

short_fits : (k : Kind) (tags : List ℕ) (b : Body) (sequence limit : ℕ) → FitsBody k tags (held b sequence) → length (body_bytes k (held b sequence)) ≤ longest_body limit k → limit ≤ 16777216 → HasShortText b
short_fits k tags (bodies.Program p) sequence limit h le small =
    let kind : k ≡ kinds.Program = sym (kind_fits k tags (bodies.Program p) sequence h) in
    let fits = subst (λ (v : Kind). FitsBody v tags (held (bodies.Program p) sequence)) kind h in
    let len = subst (λ (v : Kind). length (body_bytes v (held (bodies.Program p) sequence)) ≤ longest_body limit v) kind le in
    short_program p tags sequence limit fits len small
short_fits k tags _ sequence limit h le small = tt

pub read_printable : (limit : ℕ) (s : Stored) → limit ≤ 16777216 → IsImage limit s → IsStorable s.object
read_printable limit s small is =
    let k = s.object.id.kind in
    let h = stored_header s in
    let within = both_true (nat_le h.rows most_rows) (nat_le h.body (longest_body limit k)) is.within in
    let tags = body_tags k (image_of s) in
    record {
      kind = kind_fits k tags s.object.body s.sequence is.body;
      rows = at_most h.rows most_rows within.0;
      text = short_fits k tags s.object.body s.sequence limit is.body (at_most h.body (longest_body limit k) within.1) small;
    }
