-- What is kept of an object that is not forced whole, and stays as it is, stays too.
use Rattle.std.proofs.Common.{◌≡◌, ◌∙◌, ℕ, Bool, true, false, cond, List, refl, sym, ap, subst}
use Rattle.std.specs.List.{list_any}
use Rattle.std.specs.Option.{option_map}
use Rattle.std.specs.Prelude.{None, Option, Some}
use Rattle.s38_base.specs.declared.rights.Special.{Special}
use Rattle.s38_durable_state.specs.Durable.{Durable, body_after, durable_after, followed_or_whole, kept, kept_after, whole_object, with_header_and_rows}
use Rattle.s38_durable_state.specs.Following.{Follows, Header, NumbersRise, header_kept, image_header_in, image_header_of, user_said_in}
use Rattle.s38_image.specs.declared.stored.Stored.{Stored}
use Rattle.s38_laws_flush.proofs.durable.FoundLaws.{kept_after_step, kept_one, kept_there}
use Rattle.s38_rules.proofs.ChargeLaws.{found_number}
use Rattle.s38_rules.specs.store.Forcing.{Forced, is_whole}
use Rattle.s38_rules.specs.state.Held.{Held, object}
use Rattle.s38_rules.specs.state.Parts.{profile_of}
use Rattle.s38_rules.specs.state.State.{State}
use Rattle.s38_rules.specs.declared.object.Body.TheVariants as bodies
use Rattle.s38_rules.specs.declared.object.Body.{Body}
use Rattle.s38_rules.specs.declared.object.Object.{Object}
use Rattle.s38_flush.proofs.KeptLaws.{kept_number}

profile_is : (b : Body) (u : Special × ℕ) → profile_of b ≡ Some u → b ≡ bodies.Profile u.0 u.1
profile_is (bodies.Profile special limit) u h = cc
profile_is _ u h = cc

-- a body that is kept stays, where a user's is kept as it is
body_stays : (b old : Body) → ((u : Special × ℕ) → profile_of b ≡ Some u → profile_of old ≡ Some u) → body_after b old ≡ old
body_stays (bodies.Profile special limit) old user = sym (profile_is old (special, limit) (user (special, limit) refl))
body_stays _ old user = refl

same_header : (a b : Header) → Some a ≡ Some b → a ≡ b
same_header a b h = cc

nothing_mapped : (x : Option Stored) → option_map header_kept x ≡ None → x ≡ None
nothing_mapped None h = refl
nothing_mapped (Some x) h = cc

-- where what is kept goes with the objects, nothing is kept of a number that has no object on disk
pub nothing_off : (h : Held) (d : Durable) (n : ℕ) → Follows h d → image_header_in (object h n) ≡ None → kept d.objects n ≡ None
nothing_off h d n follows off = nothing_mapped (kept d.objects n) (follows.headers n ∙ off)

module _ (h : Held) (d : Durable) (follows : Follows h d) (n : ℕ) (o : Object) (found : object h n ≡ Some o) (on : o.on_disk ≡ true) (x : Stored) (is : kept d.objects n ≡ Some x) where
  header : header_kept x ≡ image_header_of o
  header = same_header (header_kept x) (image_header_of o) (sym (ap (option_map header_kept) is) ∙ follows.headers n ∙ ap image_header_in found ∙ rw on refl)

  user : (u : Special × ℕ) → profile_of o.body ≡ Some u → profile_of x.object.body ≡ Some u
  user u of = follows.users n u x (ap user_said_in found ∙ rw on of) is

  -- what goes with an object follows it as it is
  pub followed_same : with_header_and_rows o x ≡ x
  followed_same = λ i. record {
    object = record {
      number = record { 0 = (found_number n o h.objects found ∙ sym (kept_number n d.objects x is)) i };
      id = sym (ap (λ (a : Header). a.id) header) i;
      context = sym (ap (λ (a : Header). a.context) header) i;
      owner = sym (ap (λ (a : Header). a.standing.owner) header) i;
      public = sym (ap (λ (a : Header). a.standing.public) header) i;
      rows = sym (ap (λ (a : Header). a.standing.rows) header) i;
      on_disk = sym (follows.disk n x is) i;
      body = body_stays o.body x.object.body user i;
    };
    sequence = x.sequence;
  }

pub kept_still : (all : List Forced) (t u : State) (e : Durable) (n : ℕ) → NumbersRise u.held → Follows t.held e → list_any (is_whole n) all ≡ false → object u.held n ≡ object t.held n
    → kept (durable_after all e u).objects n ≡ kept e.objects n
kept_still all t u e n rising follows unforced same =
    kept_after_step all e u n rising ∙ ap (kept_one all u e.objects) same ∙ by (object t.held n) refl
  where
    disk : (o : Object) → object t.held n ≡ Some o → (b : Bool) → o.on_disk ≡ b → cond b (Some (kept_after all u (kept e.objects o.number.0) o)) None ≡ kept e.objects n
    disk o found false off = sym (nothing_off t.held e n follows (ap image_header_in found ∙ rw off refl))
    disk o found true on =
        let x = kept_there t.held e n o follows found on in
        subst (λ (k : ℕ). Some (cond (list_any (is_whole k) all) (whole_object u o) (followed_or_whole u o (kept e.objects k))) ≡ kept e.objects n) (sym (found_number n o t.held.objects found))
        (rw (unforced, x.1) (ap (λ (y : Stored). Some y) (followed_same t.held e follows n o found on x.0 x.1)))

    by : (y : Option Object) → object t.held n ≡ y → kept_one all u e.objects y ≡ kept e.objects n
    by None none = sym (nothing_off t.held e n follows (ap image_header_in none))
    by (Some o) found = disk o found o.on_disk refl
