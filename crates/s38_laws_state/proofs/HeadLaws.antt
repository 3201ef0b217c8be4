-- Objects fit one another where an object has another owner or other rights, another name or another context, is made
-- or is destroyed, as the rules let it.
use Rattle.std.proofs.Common.{◌<◌, ◌==◌, ◌∙◌, ◌∷◌, ◌≡◌, ◌≢◌, Bool, List, [], ap, arith, cond, false, not, refl, subst, sym, true, ℕ}
use Rattle.std.proofs.lemmas.Bool.Decides.{nat_tests}
use Rattle.std.proofs.lemmas.Bool.{cond_both}
use Rattle.std.proofs.lemmas.List.Elements.{All-head, All-tail}
use Rattle.std.specs.Prelude.{All, None, Option, Some, is_some, if◌then◌else◌}
use Rattle.s38_base.specs.Ids.{kind_code, same_kind}
use Rattle.s38_base.specs.Limits.{machine_context}
use Rattle.s38_base.specs.declared.id.Id.{Id}
use Rattle.s38_base.specs.declared.id.Kind.TheVariants as kinds
use Rattle.s38_base.specs.declared.id.Kind.{Kind}
use Rattle.s38_base.specs.declared.id.ObjNum.{ObjNum}
use Rattle.s38_objects.proofs.NameLaws.{in_that_context, named_like, none_first, none_rest}
use Rattle.s38_rules.proofs.ChargeLaws.{change_absent, found_number, number_of}
use Rattle.s38_rules.specs.families.Contexts.{is_at_home}
use Rattle.s38_rules.specs.families.Creation.{created, creation_changes, destroyed, is_another, is_of_kind, is_taken, is_taken_beside, new_object}
use Rattle.s38_rules.specs.families.Changes.{made_by}
use Rattle.s38_rules.specs.state.Held.{Held, context_in, found_in, has_number, home, is_named, is_there, kind_of, moved, object, object_in, renamed, without}
use Rattle.s38_rules.specs.state.Access.{Access, access_of, on_access, with_access}
use Rattle.s38_rules.specs.declared.creating.Creating.{Creating}
use Rattle.s38_rules.specs.declared.object.Body.{Body}
use Rattle.s38_rules.specs.declared.object.Object.{Object}
use Rattle.s38_laws_images.specs.openings.Fitting.{IsUser, is_context_or_gone}
use Rattle.s38_laws_state.proofs.FitLaws.{change_fits, gone_fits, made_fits}
use Rattle.s38_laws_state.proofs.FitTogetherLaws.{Fits}
use Rattle.s38_laws_state.proofs.RiseLaws.{Below, Rise, rise_given}

-- ---- kinds

-- the kind of a code
abbrev kind_from : ℕ → Kind
kind_from n =
    if n == 1 then kinds.Context else (if n == 2 then kinds.Program else (if n == 3 then kinds.Profile else (if n == 4 then kinds.Space else (if n == 5 then kinds.Queue else (if n == 6 then kinds.Index else (if n == 7 then kinds.DataSpace else (if n == 8 then kinds.Cursor else (if n == 9 then kinds.Port else (if n == 10 then kinds.Journal else (kinds.Block))))))))))

from_code : (k : Kind) → kind_from (kind_code k) ≡ k
from_code kinds.Context = refl
from_code kinds.Program = refl
from_code kinds.Profile = refl
from_code kinds.Space = refl
from_code kinds.Queue = refl
from_code kinds.Index = refl
from_code kinds.DataSpace = refl
from_code kinds.Cursor = refl
from_code kinds.Port = refl
from_code kinds.Journal = refl
from_code kinds.Block = refl

nat_same : (a b : ℕ) → (a == b) ≡ true → a ≡ b
nat_same a b h = grind (arith, nat_tests)

pub same_kinds : (a b : Kind) → same_kind a b ≡ true → b ≡ a
same_kinds a b h = sym (from_code b) ∙ ap kind_from (sym (nat_same (kind_code a) (kind_code b) h)) ∙ from_code a

-- an object is of one kind
pub one_kind : (a b : Kind) (x : Option Object) → is_of_kind a x ≡ true → is_of_kind b x ≡ true → b ≡ a
one_kind a b None h g = cc
one_kind a b (Some o) h g = sym (same_kinds b (kind_of o.body) g) ∙ same_kinds a (kind_of o.body) h

-- ---- what is found by its name

true_false : (b : Bool) → b ≡ true → b ≡ false → ⊥
true_false b h g = cc

some_same : (x y : Object) → Some x ≡ Some y → x ≡ y
some_same x y h = cc

-- what nothing is found by is the name of none
pub not_named : (context : ℕ) (id : Id) (os : List Object) (m : ℕ) (y : Object) → found_in os context id ≡ None → object_in os m ≡ Some y → is_named context id y ≡ false
not_named context id [] m y none at = cc
not_named context id (x ∷ os) m y none at = by (not_named context id os m y (none_rest (is_named context id x) x (found_in os context id) none)) (has_number m x) at
  where
    by : (object_in os m ≡ Some y → is_named context id y ≡ false) → (b : Bool) → cond b (Some x) (object_in os m) ≡ Some y → is_named context id y ≡ false
    by rest true q = subst (λ (o : Object). is_named context id o ≡ false) (some_same x y q) (none_first (is_named context id x) x (found_in os context id) none)
    by rest false q = rest q

pub below_found : (n : ℕ) (os : List Object) (context : ℕ) (id : Id) (o : Object) → Below n os → found_in os context id ≡ Some o → n < o.number.0
below_found n [] context id o below at = cc
below_found n (x ∷ os) context id o below at = by (below_found n os context id o below.1) (is_named context id x) at
  where
    by : (found_in os context id ≡ Some o → n < o.number.0) → (b : Bool) → cond b (Some x) (found_in os context id) ≡ Some o → n < o.number.0
    by rest true q = subst (λ (y : Object). n < y.number.0) (some_same x o q) below.0
    by rest false q = rest q

-- what is found by its name is found by its number too
pub found_object : (next : ℕ) (os : List Object) (context : ℕ) (id : Id) (o : Object) → Rise next os → found_in os context id ≡ Some o → (object_in os o.number.0 ≡ Some o) × (is_named context id o ≡ true)
found_object next [] context id o rise at = cc
found_object next (x ∷ os) context id o rise at = by (found_object next os context id o rise.2) (is_named context id x) refl at
  where
    itself : (n : ℕ) → (n == n) ≡ true
    itself n = grind (arith, nat_tests)

    apart : (a b : ℕ) → a < b → (a == b) ≡ false
    apart a b less = grind (arith, nat_tests, less)

    first : object_in (x ∷ os) x.number.0 ≡ Some x
    first = ap (λ b. cond b (Some x) (object_in os x.number.0)) (itself x.number.0)

    by : (found_in os context id ≡ Some o → (object_in os o.number.0 ≡ Some o) × (is_named context id o ≡ true)) → (b : Bool) → is_named context id x ≡ b → cond b (Some x) (found_in os context id) ≡ Some o
        → (object_in (x ∷ os) o.number.0 ≡ Some o) × (is_named context id o ≡ true)
    by later true is q =
        let same = some_same x o q in
        (subst (λ (y : Object). object_in (x ∷ os) y.number.0 ≡ Some y) same first, subst (λ (y : Object). is_named context id y ≡ true) same is)
    by later false is q =
        let rest = later q in
        (ap (λ b. cond b (Some x) (object_in os o.number.0)) (apart x.number.0 o.number.0 (below_found x.number.0 os context id o rise.1 q)) ∙ rest.0, rest.1)

-- a name that leads to no other object is free for this one
free_beside : (U : ℕ → Type 0) (h : Held) (n context : ℕ) (id : Id) → Fits U h → is_taken_beside h n context id ≡ false → is_there h context ≡ true → (m : ℕ) (y : Object) → object h m ≡ Some y → n ≢ m → is_named context id y ≡ false
free_beside U h n context id fits free there m y at away =
    by (found_in h.objects context id) refl (subst (λ b. is_another n (cond b (found_in h.objects context id) None) ≡ false) there free)
  where
    is_it : (o : Object) → is_another n (Some o) ≡ false → o.number.0 ≡ n
    is_it o g = nat_same o.number.0 n (turned (has_number n o) g)
      where
        turned : (b : Bool) → not b ≡ false → b ≡ true
        turned true k = refl
        turned false k = cc

    by : (r : Option Object) → found_in h.objects context id ≡ r → is_another n r ≡ false → is_named context id y ≡ false
    by None none g = not_named context id h.objects m y none at
    by (Some o) named g =
        let known = found_object h.next h.objects context id o fits.rise named in
        let own : object h n ≡ Some o = subst (λ (k : ℕ). object h k ≡ Some o) (is_it o g) known.0 in
        named_like o y context id known.1
        ∙ fits.told n m o y own at away (subst (λ (c : ℕ). is_there h c ≡ true) (sym (in_that_context o context id known.1)) there)

-- a name that leads to no object is free for a new one
free_new : (h : Held) (context : ℕ) (id : Id) → is_taken h context (Some id) ≡ false → is_there h context ≡ true → (m : ℕ) (y : Object) → object h m ≡ Some y → is_named context id y ≡ false
free_new h context id free there m y at =
    not_named context id h.objects m y (none_of (found_in h.objects context id) (subst (λ b. is_some (cond b (found_in h.objects context id) None) ≡ false) there free)) at
  where
    none_of : (r : Option Object) → is_some r ≡ false → r ≡ None
    none_of None g = refl
    none_of (Some o) g = cc

-- a number that is found was given
pub given_in : (next n : ℕ) (os : List Object) (o : Object) → All (λ x. number_of x < next) os → object_in os n ≡ Some o → o.number.0 < next
given_in next n [] o all at = cc
given_in next n (x ∷ os) o all at = by (given_in next n os o (All-tail (λ y. number_of y < next) x os all)) (has_number n x) at
  where
    by : (object_in os n ≡ Some o → o.number.0 < next) → (b : Bool) → cond b (Some x) (object_in os n) ≡ Some o → o.number.0 < next
    by rest true q = subst (λ (y : Object). y.number.0 < next) (some_same x o q) (All-head (λ y. number_of y < next) x os all)
    by rest false q = rest q

-- ---- the context into which an object is put

module _ (U : ℕ → Type 0) (h : Held) (fits : Fits U h) where
  -- a number that is there was given
  pub there_given : (n : ℕ) → is_there h n ≡ true → n < h.next
  there_given n there = by (object h n) refl there
    where
      by : (r : Option Object) → object h n ≡ r → is_some r ≡ true → n < h.next
      by None none g = cc
      by (Some o) at g = subst (λ (k : ℕ). k < h.next) (found_number n o h.objects at) (given_in h.next n h.objects o (rise_given h.next h.objects fits.rise) at)

  home_context : (c : ℕ) → is_context_or_gone (object h c) ≡ true → is_context_or_gone (object h (home h c).0) ≡ true
  home_context c context = by (is_there h c)
    where
      by : (b : Bool) → is_context_or_gone (object h (cond b c 0)) ≡ true
      by true = context
      by false = ap is_context_or_gone fits.unused

  home_given : (c : ℕ) → (home h c).0 < h.next
  home_given c = by (is_there h c) refl
    where
      by : (b : Bool) → is_there h c ≡ b → cond b c 0 < h.next
      by true there = there_given c there
      by false gone = fits.next

  -- where it is there, it is the one that was asked for
  home_there : (c : ℕ) → is_there h (home h c).0 ≡ true → (is_there h c ≡ true) × ((home h c).0 ≡ c)
  home_there c there = by (is_there h c) refl there
    where
      by : (b : Bool) → is_there h c ≡ b → is_there h (cond b c 0) ≡ true → (b ≡ true) × (cond b c 0 ≡ c)
      by true is g = (refl, refl)
      by false is g = absurd (true_false (is_there h 0) g (ap is_some fits.unused))

  -- ---- an object has another owner or other rights

  pub access_fits : (n : ℕ) (f : Access → Access) → ((o : Object) → object h n ≡ Some o → IsUser h (f (access_of o)).owner.0) → Fits U (on_access h n f)
  access_fits n f owner = by (object h n) refl
    where
      by : (r : Option Object) → object h n ≡ r → Fits U (on_access h n f)
      by None none = subst (λ (os : List Object). Fits U (record h { objects = os })) (sym (change_absent n (λ o. with_access (f (access_of o)) o) h.objects none)) fits
      by (Some x) at =
          let was = fits.each n x at in
          change_fits U h n (λ o. with_access (f (access_of o)) o) x at (λ o. refl) refl
          (record { owner = owner x at; context = was.context; given = was.given; home = was.home })
          (λ there m y to away. fits.told n m x y at to away there) fits

  -- ---- an object has another name

  pub named_fits : (n : ℕ) (id : Id) → is_taken_beside h n (context_in (object h n)).0 id ≡ false → Fits U (renamed h n id)
  named_fits n id free = by (object h n) refl free
    where
      by : (r : Option Object) → object h n ≡ r → is_taken_beside h n (context_in r).0 id ≡ false → Fits U (renamed h n id)
      by None none g = subst (λ (os : List Object). Fits U (record h { objects = os })) (sym (change_absent n (λ o. record o { id = id }) h.objects none)) fits
      by (Some x) at g =
          let was = fits.each n x at in
          change_fits U h n (λ o. record o { id = id }) x at (λ o. refl) refl
          (record { owner = was.owner; context = was.context; given = was.given; home = was.home })
          (λ there m y to away. free_beside U h n x.context.0 id fits g there m y to away) fits

  -- ---- an object is in another context

  pub moved_fits : (n c : ℕ) → is_at_home (object h n) ≡ false → is_context_or_gone (object h c) ≡ true → ((x : Object) → object h n ≡ Some x → is_taken_beside h n c x.id ≡ false) → Fits U (moved h n (home h c))
  moved_fits n c away context free = by (object h n) refl away
    where
      by : (r : Option Object) → object h n ≡ r → is_at_home r ≡ false → Fits U (moved h n (home h c))
      by None none g = subst (λ (os : List Object). Fits U (record h { objects = os })) (sym (change_absent n (λ o. record o { context = home h c }) h.objects none)) fits
      by (Some x) at g =
          let was = fits.each n x at in
          change_fits U h n (λ o. record o { context = home h c }) x at (λ o. refl) refl
          (record { owner = was.owner; context = home_context c context; given = home_given c; home = λ there. absurd (true_false (is_at_home (Some x)) there g) })
          (λ there m y to other.
          let real = home_there c there in
          subst (λ (k : ℕ). is_named k x.id y ≡ false) (sym real.1) (free_beside U h n c x.id fits (free x at) real.0 m y to other)) fits

  -- ---- an object is made

  pub created_fits : (owner c : ℕ) (made : Creating) (body : Body) → IsUser h owner → made.context ≡ home h c → is_context_or_gone (object h c) ≡ true
      → ((id : Id) → is_at_home (Some (new_object h owner made id body)) ≡ true → made.context.0 ≡ machine_context) → is_taken h made.context.0 made.id ≡ false → Fits U (made_by h owner made (Some body))
  unfolding creation_changes
  created_fits owner c made body user in_context context at_home free = by made.id free
    where
      by : (id : Option Id) → is_taken h made.context.0 id ≡ false → Fits U (created h owner made body id)
      by None g = fits
      by (Some id) g = made_fits U h (new_object h owner made id body) refl
          (record {
            owner = user;
            context = subst (λ (k : ObjNum). is_context_or_gone (object h k.0) ≡ true) (sym in_context) (home_context c context);
            given = subst (λ (k : ObjNum). k.0 < h.next) (sym in_context) (home_given c);
            home = at_home id;
          })
          (λ there m y to. free_new h made.context.0 id g there m y to) fits

  -- ---- an object is destroyed

  pub destroyed_fits : (kind : Kind) (n : ℕ) → (kind ≡ kinds.Context → n ≢ machine_context) → (kind ≡ kinds.Profile → is_of_kind kind (object h n) ≡ true → ((m : ℕ) (y : Object) → object h m ≡ Some y → y.owner.0 ≡ n → ⊥) × (U n → ⊥))
      → Fits U (destroyed h kind n)
  destroyed_fits kind n machine user =
      cond_both (is_of_kind kind (object h n)) (without h n) h (Fits U) (λ is. gone_fits U h n (kept is) (owners is) (unused is) fits) (λ other. fits)
    where
      kept : is_of_kind kind (object h n) ≡ true → n ≢ machine_context
      kept is same = machine (one_kind kinds.Context kind (object h machine_context) fits.machine (subst (λ (k : ℕ). is_of_kind kind (object h k) ≡ true) same is)) same

      owners : is_of_kind kind (object h n) ≡ true → (m : ℕ) (y : Object) → object h m ≡ Some y → y.owner.0 ≡ n → m ≡ n
      owners is m y at own =
          let profile = one_kind kinds.Profile kind (object h n) (subst (λ (k : ℕ). is_of_kind kinds.Profile (object h k) ≡ true) own (fits.each m y at).owner) is in
          absurd ((user profile is).0 m y at own)

      unused : is_of_kind kind (object h n) ≡ true → U n → ⊥
      unused is used = (user (one_kind kinds.Profile kind (object h n) (fits.users n used) is) is).1 used
