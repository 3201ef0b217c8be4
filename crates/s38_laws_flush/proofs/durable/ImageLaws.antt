-- What is kept of an object whose header follows can be read again.
use Rattle.std.proofs.Common.{◌≡◌, ◌∙◌, ℕ, zero, suc, ◌≤◌, true, refl, sym, ap, subst, arith}
use Rattle.std.proofs.lemmas.Bool.Decides.{nat_tests}
use Rattle.std.specs.Prelude.{None, Option, Some, is_some, length, nat_le, ◌&&◌}
use Rattle.s38_base.specs.Limits.{body_limit, most_rows}
use Rattle.s38_base.specs.declared.id.Kind.TheVariants as kinds
use Rattle.s38_base.specs.declared.id.Kind.{Kind}
use Rattle.s38_codec.proofs.CodecLaws.{both_true}
use Rattle.s38_base.specs.declared.rights.Special.{Special}
use Rattle.s38_durable_state.specs.Durable.{body_after, whole_object, with_header_and_rows}
use Rattle.s38_image.proofs.HeaderLaws.{at_most}
use Rattle.s38_image.specs.Bodies.{BodyImage, body_bytes, body_tags}
use Rattle.s38_image.specs.Fitting.{FitsBody, IsImage}
use Rattle.s38_image.specs.Headers.{longest_body}
use Rattle.s38_image.specs.Images.{image_of}
use Rattle.s38_image.specs.declared.stored.Stored.{Stored}
use Rattle.s38_rules.specs.state.Held.{kind_of}
use Rattle.s38_rules.specs.state.Parts.{profile_of}
use Rattle.s38_rules.specs.state.State.{State}
use Rattle.s38_rules.specs.store.Storable.{IsStorable}
use Rattle.s38_rules.specs.declared.object.Body.TheVariants as bodies
use Rattle.s38_rules.specs.declared.object.Body.{Body}
use Rattle.s38_rules.specs.declared.object.Object.{Object}
use Rattle.s38_flush.proofs.KeptLaws.{user_followed}
use Rattle.s38_flush.specs.Stepping.{HasHeader}
use Rattle.s38_laws_images.specs.readable.Readable.{IsFront}
use Rattle.s38_laws_flush.proofs.durable.LongLaws.{read_long}

-- ---- users

pub user_by_kind : (b : Body) → kind_of b ≡ kinds.Profile → is_some (profile_of b) ≡ true
user_by_kind (bodies.Profile special limit) is = refl
user_by_kind _ is = absurd cc

abbrev pub image : Body → ℕ → BodyImage
image b sequence = record { body = b; sequence = sequence }

-- no sequence is said of a user
no_sequence : (b : Body) (sequence : ℕ) → FitsBody kinds.Profile (body_tags kinds.Profile (image b sequence)) (image b sequence) → sequence ≡ 0
no_sequence b zero fits = refl
no_sequence b (suc n) fits = absurd fits

-- the header of an image can be read
pub image_header : (x : Stored) → IsImage body_limit x → HasHeader x
image_header x image_is = record {
  fits = image_is.header;
  long = read_long x.object.id.kind (body_tags x.object.id.kind (image_of x)) x.object.body x.sequence image_is.body;
  rows = at_most _ _ (both_true (nat_le (length x.object.rows) most_rows) _ image_is.within).0;
  user = λ is. no_sequence x.object.body x.sequence (subst (λ (k : Kind). FitsBody k (body_tags k (image_of x)) (image_of x)) is image_is.body);
}

-- ---- others

most_body : (kind : Kind) → longest_body body_limit kind ≤ 16777216
most_body kinds.Journal = omega arith
most_body _ = omega arith

body_kept : (b old : Body) → profile_of b ≡ None → body_after b old ≡ old
body_kept (bodies.Profile special limit) old none = cc
body_kept _ old none = refl

module _ (s : State) (o : Object) (x : Stored) (front : IsFront o) (storable : IsStorable o) (old : IsImage body_limit x) (kind : x.object.id.kind ≡ o.id.kind) where
  abbrev new : BodyImage
  new = image (body_after o.body x.object.body) x.sequence

  abbrev len : ℕ
  len = length (body_bytes o.id.kind new)

  other_image : profile_of o.body ≡ None → IsImage body_limit (with_header_and_rows o x)
  other_image none = record {
    on_disk = refl;
    header = front.header len small;
    within = fits (length o.rows) len (longest_body body_limit o.id.kind) storable.rows within;
    rows = front.rows;
    body = subst (λ (i : BodyImage). FitsBody o.id.kind (body_tags o.id.kind i) i) (sym same) (subst (λ (k : Kind). FitsBody k (body_tags k (image_of x)) (image_of x)) kind old.body);
  }
    where
      same : new ≡ image_of x
      same = ap (λ (b : Body). image b x.sequence) (body_kept o.body x.object.body none)

      len_same : len ≡ length (body_bytes x.object.id.kind (image_of x))
      len_same = ap (λ (i : BodyImage). length (body_bytes o.id.kind i)) same ∙ sym (ap (λ (k : Kind). length (body_bytes k (image_of x))) kind)

      old_within : length (body_bytes x.object.id.kind (image_of x)) ≤ longest_body body_limit x.object.id.kind
      old_within = at_most _ _ (both_true (nat_le (length x.object.rows) most_rows) _ old.within).1

      within : len ≤ longest_body body_limit o.id.kind
      within = subst (λ (n : ℕ). n ≤ longest_body body_limit o.id.kind) (sym len_same) (subst (λ (k : Kind). length (body_bytes x.object.id.kind (image_of x)) ≤ longest_body body_limit k) kind old_within)

      small : len ≤ 16777216
      small = let most = most_body o.id.kind in let low = within in omega (arith, most, low)

      fits : (a b c : ℕ) → a ≤ most_rows → b ≤ c → (nat_le a most_rows && nat_le b c) ≡ true
      fits a b c few short =
          let one : nat_le a most_rows ≡ true = grind (arith, nat_tests, few) in
          let two : nat_le b c ≡ true = grind (arith, nat_tests, short) in
          rw (one, two) refl

  user_image : is_some (profile_of o.body) ≡ true → IsImage body_limit (whole_object s o) → IsImage body_limit (with_header_and_rows o x)
  user_image user image_is = subst (IsImage body_limit) (sym (user_followed s o x user none)) image_is
    where
      profile : (b : Body) → is_some (profile_of b) ≡ true → kind_of b ≡ kinds.Profile
      profile (bodies.Profile special limit) is = refl
      profile _ is = absurd cc

      is_profile : x.object.id.kind ≡ kinds.Profile
      is_profile = kind ∙ sym storable.kind ∙ profile o.body user

      none : x.sequence ≡ 0
      none = no_sequence x.object.body x.sequence (subst (λ (k : Kind). FitsBody k (body_tags k (image_of x)) (image_of x)) is_profile old.body)

  pub followed_image : (is_some (profile_of o.body) ≡ true → IsImage body_limit (whole_object s o)) → IsImage body_limit (with_header_and_rows o x)
  followed_image user = by (profile_of o.body) refl
    where
      by : (r : Option (Special × ℕ)) → profile_of o.body ≡ r → IsImage body_limit (with_header_and_rows o x)
      by None is = other_image is
      by (Some u) is = user_image (ap is_some is) (user (ap is_some is))
