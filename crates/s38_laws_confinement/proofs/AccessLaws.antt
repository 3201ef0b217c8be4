-- Where no way is open for users to a right on an object, changes of the objects that let in nobody leave it so: plain
-- ones, other standings that give nobody the right, and new objects.
use Rattle.std.proofs.Common.{◌++◌, ◌<◌, ◌==◌, ◌∙◌, ◌∷◌, ◌≡◌, ◌≢◌, ◌≤◌, List, [], ap, arith, cond, false, refl, subst, sym, true, ℕ}
use Rattle.std.proofs.lemmas.Bool.Decides.{nat_tests}
use Rattle.std.proofs.lemmas.Bool.{cond_both}
use Rattle.std.proofs.lemmas.List.Elements.{All-append, All-cons, All-filter, All-nil, All-weaker}
use Rattle.std.proofs.lemmas.List.Folds.{find-append}
use Rattle.std.proofs.lemmas.Nat.Bits.{bit_at-zero}
use Rattle.std.specs.Option.{option_map, option_or}
use Rattle.std.specs.Prelude.{None, Option, Some, not}
use Rattle.s38_base.specs.RightNames as rights
use Rattle.s38_base.specs.declared.id.Id.{Id}
use Rattle.s38_base.specs.declared.id.Kind.{Kind}
use Rattle.s38_rules.proofs.ChargeLaws.{object_changed, object_without}
use Rattle.s38_rules.specs.ask.Authority.{has_rights}
use Rattle.s38_rules.specs.families.Creation.{created, creation_changes, destroyed, is_of_kind, new_object}
use Rattle.s38_rules.specs.state.Headers.{public_in, rights_in_row, rows_in, special_in, special_of}
use Rattle.s38_rules.specs.state.Held.{Held, has_number, object, object_in, with_object, without}
use Rattle.s38_rules.specs.state.PrivateRows.{AreRows, row_of}
use Rattle.s38_rules.specs.state.Access.{Access, access_of, on_access, with_access}
use Rattle.s38_rules.specs.declared.creating.Creating.{Creating}
use Rattle.s38_rules.specs.declared.object.Body.{Body}
use Rattle.s38_rules.specs.declared.object.Object.{Object}
use Rattle.s38_laws_confinement.proofs.PlainWordLaws.{Keeps}
use Rattle.s38_laws_confinement.proofs.PointerLaws.{change_kept}
use Rattle.s38_laws_confinement.specs.NoWay.{HasNoWay, IsHarmless, Lacks, NoWay}
use Rattle.s38_laws_confinement.specs.OfPointers.{OfBody, OfObject, OfObjects}
use Rattle.s38_laws_confinement.specs.Plain.{IsAsBefore}

pub nat_same : (a b : ℕ) → (a == b) ≡ true → a ≡ b
nat_same a b h = grind (arith, nat_tests)

-- ---- what is there lets in nobody who was not let in before

-- whom the object is not
abbrev pub IsUnowned : Option Object → ℕ → Type 0
IsUnowned None user = Unit {0}
IsUnowned (Some x) user = x.owner.0 ≢ user

unowned : (found : Option Object) (user : ℕ) → ((x : Object) → found ≡ Some x → x.owner.0 ≢ user) → IsUnowned found user
unowned None user other = tt
unowned (Some x) user other = other x refl

-- the object in the place of another one, or of none, gives nobody the right who did not have it
pub record GivesNoMore (r : ℕ) (x y : Option Object) : Type 0 where
  pub owner : (user : ℕ) → IsUnowned x user → IsUnowned y user
  pub row : (user : ℕ) → AreRows (rows_in x) → Lacks r (rights_in_row x user) → Lacks r (rights_in_row y user)
  pub everybody : Lacks r (public_in x) → Lacks r (public_in y)
  pub rows : AreRows (rows_in x) → AreRows (rows_in y)

gives_same : (r : ℕ) (x : Option Object) → GivesNoMore r x x
gives_same r x = record { owner = λ user g. g; row = λ user a g. g; everybody = λ g. g; rows = λ a. a }

gives_none : (r : ℕ) (x : Option Object) → GivesNoMore r x None
gives_none r x = record { owner = λ user g. tt; row = λ user a g. bit_at-zero r; everybody = λ g. bit_at-zero r; rows = λ a. tt }

-- a user has no special authority that it did not have
abbrev pub SpecialStays : Option Object → Option Object → Type 0
SpecialStays x y = (needed : ℕ) → needed ≢ 0 → has_rights needed (special_in x) ≡ false → has_rights needed (special_in y) ≡ false

none_special : (x y : Option Object) → special_in y ≡ 0 → SpecialStays x y
none_special x y none needed some lacks =
    let off : (0 == needed) ≡ false = grind (arith, nat_tests) in
    ap (λ (n : ℕ). has_rights needed n) none ∙ off

-- a change of the objects by which the one of the number gives no more, no user has another special authority, and no
-- pointer opens a way
pub record Lessens (h k : Held) (o r : ℕ) : Type 0 where
  pub next : h.next ≤ k.next
  pub standing : GivesNoMore r (object h o) (object k o)
  pub special : (user : ℕ) → SpecialStays (object h user) (object k user)
  pub pointers : OfObjects (IsHarmless o r) h.objects → OfObjects (IsHarmless o r) k.objects

pub lessens_same : (h : Held) (o r : ℕ) → Lessens h h o r
lessens_same h o r = record { next = omega arith; standing = gives_same r (object h o); special = λ user needed some lacks. lacks; pointers = λ of. of }

pub lessens_then : (h j k : Held) (o r : ℕ) → Lessens h j o r → Lessens j k o r → Lessens h k o r
lessens_then h j k o r a b = record {
  next = omega (arith, a.next, b.next);
  standing = record {
    owner = λ user free. b.standing.owner user (a.standing.owner user free);
    row = λ user are none. b.standing.row user (a.standing.rows are) (a.standing.row user are none);
    everybody = λ none. b.standing.everybody (a.standing.everybody none);
    rows = λ are. b.standing.rows (a.standing.rows are);
  };
  special = λ user needed some lacks. b.special user needed some (a.special user needed some lacks);
  pointers = λ of. b.pointers (a.pointers of);
}

-- ---- what no way is, over such objects

-- no way is open, and the rows of the object are in order
pub record IsShut (h : Held) (users : List ℕ) (o r : ℕ) : Type 0 where
  pub way : NoWay h users o r
  pub rows : AreRows (rows_in (object h o))

user_closed : (h k : Held) (o r user : ℕ) → Lessens h k o r → AreRows (rows_in (object h o)) → HasNoWay h o r user → HasNoWay k o r user
user_closed h k o r user less are closed = record {
  owner = λ x found. subst (λ y. IsUnowned y user) found (less.standing.owner user (unowned (object h o) user closed.owner));
  row = less.standing.row user are closed.row;
  all = less.special user rights.allobj (λ e. cc) closed.all;
  profiles = less.special user rights.profile (λ e. cc) closed.profiles;
}

pub stays_shut : (h k : Held) (users : List ℕ) (o r : ℕ) → Lessens h k o r → IsShut h users o r → IsShut k users o r
stays_shut h k users o r less shut = record {
  way = record {
    given = omega (arith, less.next, shut.way.given);
    right = shut.way.right;
    nobody = All-weaker (HasNoWay h o r) (HasNoWay k o r) (λ user g. user_closed h k o r user less shut.rows g) users shut.way.nobody;
    everybody = less.standing.everybody shut.way.everybody;
    spaces = less.pointers shut.way.spaces;
  };
  rows = less.standing.rows shut.rows;
}

-- ---- plain changes, and other standings

more_by : (r : ℕ) (x y : Option Object) → IsAsBefore x y → GivesNoMore r x y
more_by r x None before = gives_none r x
more_by r None (Some y) before = absurd before
more_by r (Some x) (Some y) before = record {
  owner = λ user free. subst (λ (z : Access). z.owner.0 ≢ user) (sym before.standing) free;
  row = λ user a none. subst (λ (z : Access). Lacks r (row_of z.rows user)) (sym before.standing) none;
  everybody = λ none. subst (λ (z : Access). Lacks r z.public.0) (sym before.standing) none;
  rows = λ a. subst (λ (z : Access). AreRows z.rows) (sym before.standing) a;
}

special_by : (x y : Option Object) → IsAsBefore x y → SpecialStays x y
special_by x None before = none_special x None refl
special_by None (Some y) before = absurd before
special_by (Some x) (Some y) before = λ needed some lacks. ap (λ (n : ℕ). has_rights needed n) before.special ∙ lacks

pub kept_lessens : (h k : Held) (o r : ℕ) → Keeps (IsHarmless o r) h k → Lessens h k o r
kept_lessens h k o r kept = record {
  next = omega (arith, kept.next);
  standing = more_by r (object h o) (object k o) (kept.objects o);
  special = λ user. special_by (object h user) (object k user) (kept.objects user);
  pointers = kept.pointers;
}

restood_more : (r : ℕ) (f : Object → Object) (x : Option Object) → ((y : Object) → x ≡ Some y → GivesNoMore r (Some y) (Some (f y))) → GivesNoMore r x (option_map f x)
restood_more r f None each = gives_same r None
restood_more r f (Some y) each = each y refl

restood_special : (g : Access → Access) (x : Option Object) → SpecialStays x (option_map (λ y. with_access (g (access_of y)) y) x)
restood_special g None needed some lacks = lacks
restood_special g (Some y) needed some lacks = lacks

-- the object of a number has another owner or other rights: it is another one, or is not there, or gives nobody the right
pub access_lessens : (h : Held) (n : ℕ) (g : Access → Access) (o r : ℕ)
    → (n ≡ o → (x : Object) → object h o ≡ Some x → GivesNoMore r (Some x) (Some (with_access (g (access_of x)) x))) → Lessens h (on_access h n g) o r
access_lessens h n g o r here =
    let f : Object → Object = λ x. with_access (g (access_of x)) x in
    record {
      next = omega arith;
      standing = subst (GivesNoMore r (object h o)) (sym (object_changed n o f h.objects (λ x. refl)))
          (cond_both (n == o) (option_map f (object h o)) (object h o) (GivesNoMore r (object h o)) (λ q. restood_more r f (object h o) (here (nat_same n o q))) (λ q. gives_same r (object h o)));
      special = λ user. subst (SpecialStays (object h user)) (sym (object_changed n user f h.objects (λ x. refl)))
          (cond_both (n == user) (option_map f (object h user)) (object h user) (SpecialStays (object h user)) (λ q. restood_special g (object h user)) (λ q needed some lacks. lacks));
      pointers = λ of. change_kept (IsHarmless o r) n f h.objects (λ x here. here) of;
    }

-- an object of whatever kind is gone
pub destroyed_lessens : (h : Held) (kind : Kind) (n o r : ℕ) → Lessens h (destroyed h kind n) o r
destroyed_lessens h kind n o r = cond_both (is_of_kind kind (object h n)) (without h n) h (λ (k : Held). Lessens h k o r) (λ is. gone) (λ stays. lessens_same h o r)
  where
    gone : Lessens h (without h n) o r
    gone = record {
      next = omega arith;
      standing = subst (GivesNoMore r (object h o)) (sym (object_without n o h.objects))
          (cond_both (n == o) None (object h o) (GivesNoMore r (object h o)) (λ q. gives_none r (object h o)) (λ q. gives_same r (object h o)));
      special = λ user. subst (SpecialStays (object h user)) (sym (object_without n user h.objects))
          (cond_both (n == user) None (object h user) (SpecialStays (object h user)) (λ q. none_special (object h user) None refl) (λ q needed some lacks. lacks));
      pointers = λ of. All-filter (λ x. not (has_number n x)) (OfObject (IsHarmless o r)) h.objects of;
    }

-- ---- new objects

-- after the others an object is found by its own number alone
last_found : (P : Option Object → Type 0) (m : ℕ) (x : Object) (os : List Object) → P (object_in os m) → ((x.number.0 == m) ≡ true → P (Some x)) → P (object_in (os ++ x ∷ []) m)
last_found P m x os old new = subst P (sym (find-append (has_number m) os (x ∷ []))) (by (object_in os m) old)
  where
    by : (y : Option Object) → P y → P (option_or y (cond (x.number.0 == m) (Some x) None))
    by None old = cond_both (x.number.0 == m) (Some x) None P new (λ q. old)
    by (Some y) old = old

-- a new object, of a number above the object's, is no user's profile
added_lessens : (h : Held) (x : Object) (o r : ℕ) → o < h.next → x.number.0 ≡ h.next → special_of x.body ≡ 0 → OfObject (IsHarmless o r) x → Lessens h (with_object h x) o r
added_lessens h x o r given next none of = record {
  next = omega arith;
  standing = last_found (GivesNoMore r (object h o)) o x h.objects (gives_same r (object h o)) (λ q. let same = nat_same x.number.0 o q in absurd (omega (arith, given, next, same)));
  special = λ user. last_found (SpecialStays (object h user)) user x h.objects (λ needed some lacks. lacks) (λ q. none_special (object h user) (Some x) none);
  pointers = λ all. All-append (OfObject (IsHarmless o r)) h.objects (x ∷ []) all (All-cons (OfObject (IsHarmless o r)) x [] of (All-nil (OfObject (IsHarmless o r))));
}

pub creation_lessens : (h : Held) (owner : ℕ) (made : Creating) (body : Body) (o r : ℕ) → o < h.next → special_of body ≡ 0 → OfBody (IsHarmless o r) body
    → Lessens h (creation_changes h owner made body) o r
unfolding creation_changes
creation_lessens h owner made body o r given none of = by made.id
  where
    by : (id : Option Id) → Lessens h (created h owner made body id) o r
    by None = lessens_same h o r
    by (Some id) = added_lessens h (new_object h owner made id body) o r given refl none of
