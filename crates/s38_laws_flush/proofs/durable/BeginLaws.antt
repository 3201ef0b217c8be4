-- What a restart reads of a store goes with the state in which a run over it begins.
use Rattle.std.proofs.Common.{◌≡◌, ◌∙◌, ℕ, ◌+◌, ◌<◌, ◌≤◌, ◌==◌, Bool, true, false, cond, List, [], ◌∷◌, map, refl, sym, ap, subst, arith}
use Rattle.std.proofs.lemmas.Bool.Decides.{nat_tests}
use Rattle.std.proofs.lemmas.List.Elements.{All-map, recursion_from_All}
use Rattle.std.specs.List.{AllByRecursion}
use Rattle.std.specs.Option.{option_map}
use Rattle.std.specs.Prelude.{None, Option, Some}
use Rattle.s38_base.specs.Limits.{body_limit}
use Rattle.s38_base.specs.declared.rights.Special.{Special}
use Rattle.s38_code.specs.declared.deck.Job.{Job}
use Rattle.s38_code.specs.declared.made.CheckedTemplate.{CheckedTemplate}
use Rattle.s38_durable_state.specs.Durable.{Durable, kept}
use Rattle.s38_durable_state.specs.Following.{Counts, Follows, header_kept, image_header_in, object_number, user_said_in}
use Rattle.s38_restart.specs.catalog.Stores.{first_fault}
use Rattle.s38_image.specs.Fitting.{IsImage}
use Rattle.s38_image.specs.declared.stored.Stored.{Stored}
use Rattle.s38_image_writer.proofs.KindLaws.{read_printable}
use Rattle.s38_laws_images.proofs.openings.BeginLaws.{opening_right, opening_well}
use Rattle.s38_laws_images.specs.openings.Opening.{IsNumbered, IsOpening}
use Rattle.s38_restart.specs.Parts.{AreParts, all_parts}
use Rattle.s38_restart.specs.Restarted.{data_space_followed, imaged, restarted}
use Rattle.s38_rules.specs.state.Held.{Held, object, object_in}
use Rattle.s38_rules.specs.state.Parts.{data_part, over_body, profile_of}
use Rattle.s38_rules.specs.store.Room.{Room}
use Rattle.s38_rules.specs.declared.data_body.DataBody.{DataBody}
use Rattle.s38_rules.specs.declared.object.Body.TheVariants as bodies
use Rattle.s38_rules.specs.declared.object.Body.{Body}
use Rattle.s38_rules.specs.declared.object.Object.{Object}
use Rattle.s38_laws_flush.specs.durable.Beginning.{durable_in, origin_of}
use Rattle.s38_laws_flush.specs.durable.Kept.{AreNumbered, IsKeptOf}
use Rattle.s38_laws_flush.proofs.durable.FaultlessLaws.{read_images}

-- ---- what is restarted has what was read

pub followed_in : (h : Held) (ss : List Stored) (n : ℕ) → object_in (map (data_space_followed h) ss) n ≡ option_map (data_space_followed h) (kept ss n)
followed_in h [] n = refl
followed_in h (x ∷ ss) n = by (x.object.number.0 == n) (followed_in h ss n)
  where
    by : (b : Bool) → object_in (map (data_space_followed h) ss) n ≡ option_map (data_space_followed h) (kept ss n) → cond b (Some (data_space_followed h x)) (object_in (map (data_space_followed h) ss) n) ≡ option_map (data_space_followed h) (cond b (Some x) (kept ss n))
    by true rest = refl
    by false rest = rest

profile_stays : (f : DataBody → DataBody) (b : Body) → profile_of (over_body data_part f b) ≡ profile_of b
profile_stays f (bodies.DataSpace d) = refl
profile_stays f _ = refl

headers_read : (h : Held) (r : Option Stored) → ((x : Stored) → r ≡ Some x → x.object.on_disk ≡ true) → option_map header_kept r ≡ image_header_in (option_map (data_space_followed h) r)
headers_read h None disk = refl
headers_read h (Some x) disk = rw (disk x refl) refl

users_read : (h : Held) (r : Option Stored) (u : Special × ℕ) (x : Stored) → ((y : Stored) → r ≡ Some y → y.object.on_disk ≡ true) → user_said_in (option_map (data_space_followed h) r) ≡ Some u → r ≡ Some x → profile_of x.object.body ≡ Some u
users_read h None u x disk is there = cc
users_read h (Some y) u x disk is there = subst (λ (z : Stored). profile_of z.object.body ≡ Some u) (same y x there) (sym (profile_stays _ y.object.body) ∙ own y.object.on_disk (disk y refl) is)
  where
    same : (a b : Stored) → Some a ≡ Some b → a ≡ b
    same a b e = cc

    own : (b : Bool) → b ≡ true → cond b (profile_of (data_space_followed h y).body) None ≡ Some u → profile_of (data_space_followed h y).body ≡ Some u
    own true on e = e
    own false on e = cc

-- ---- numbers

none_zero : (os : List Object) → AllByRecursion IsNumbered os → object_in os 0 ≡ None
none_zero [] all = refl
none_zero (o ∷ os) all =
    let first : 1 ≤ o.number.0 = all.0 in
    let other : (o.number.0 == 0) ≡ false = grind (arith, nat_tests) in
    rw other (none_zero os all.1)

pub opening_numbered : (h : Held) → IsOpening h → AreNumbered h
opening_numbered h is = record {
  rising = is.lawful.rising;
  given = All-map (λ n. n < h.next) object_number h.objects is.lawful.given;
  none = none_zero h.objects (recursion_from_All IsNumbered h.objects is.numbered);
  first = is.next;
  within = is.within;
  low = is.ceiling;
}

-- ---- the beginning

module _ (m : _) (h : Held) (are : AreParts (all_parts m)) (fault : first_fault body_limit (all_parts m) ≡ None) (of : h ≡ restarted body_limit (all_parts m)) (is : IsOpening h) where
  abbrev d : Durable
  d = durable_in m

  images : (n : ℕ) (x : Stored) → kept d.objects n ≡ Some x → IsImage body_limit x
  images = read_images m are fault

  abbrev at_all : Held
  at_all = imaged d.objects

  found : (n : ℕ) → object (restarted body_limit (all_parts m)) n ≡ option_map (data_space_followed at_all) (kept d.objects n)
  found n = followed_in at_all d.objects n

  restarted_follows : Follows (restarted body_limit (all_parts m)) d
  restarted_follows = record {
    headers = λ n. headers_read at_all (kept d.objects n) (λ x at. (images n x at).on_disk) ∙ ap image_header_in (sym (found n));
    users = λ n u x user there. users_read at_all (kept d.objects n) u x (λ y at. (images n y at).on_disk) (sym (ap user_said_in (found n)) ∙ user) there;
    disk = λ n x there. (images n x there).on_disk;
  }

  pub begins_kept : (templates : List CheckedTemplate) (jobs : List Job) (room : Option Room) → Counts room d → IsKeptOf (origin_of h templates jobs room) d
  begins_kept templates jobs room counts =
      let well = opening_well room h templates jobs is in
      record {
        follows = subst (λ (k : Held). Follows k d) (sym of) restarted_follows;
        counts = counts;
        ceiling = sym (ap (λ (k : Held). k.ceiling) of);
        bodies = λ n x found. (read_printable body_limit x (omega arith) (images n x found)).kind;
        well = record { limit = well.limit; objects = well.objects };
        right = opening_right room h templates jobs is;
        numbered = opening_numbered h is;
      }
