-- The objects of a store without a fault fit one another: each has an owner who is there, and is in a context or in
-- none.
use Rattle.std.proofs.Common.{◌≡◌, ℕ, ◌+◌, ◌<◌, ◌==◌, ◌&&◌, ◌||◌, Bool, true, false, cond, not, List, [], ◌∷◌, map, refl, sym, ap, subst, ◌∙◌, arith}
use Rattle.std.proofs.lemmas.Bool.Decides.{nat_tests}
use Rattle.std.specs.Prelude.{Option, Some, None, filter_map, is_some}
use Rattle.std.specs.List.{AllByRecursion}
use Rattle.std.specs.Option.{option_and_then}
use Rattle.s38_base.specs.Ids.{kind_code, same_kind}
use Rattle.s38_base.specs.Limits.{machine_context}
use Rattle.s38_base.specs.declared.id.Kind.TheVariants as kinds
use Rattle.s38_base.specs.declared.id.Kind.{Kind}
use Rattle.s38_base.specs.declared.id.ObjNum.{ObjNum}
use Rattle.s38_restart.proofs.catalog.LawfulLaws.{IsWhole}
use Rattle.s38_image.specs.Faults.{Group, group, group_has_number, group_is_on_disk, header_at, header_is_of_kind, header_is_of_other_kind, header_of_group, is_outside, sound}
use Rattle.s38_image.specs.Images.{object_of_parts}
use Rattle.s38_image.specs.declared.header.Header.{Header}
use Rattle.s38_image.specs.declared.stored.Stored.{Stored}
use Rattle.s38_restart.proofs.StoredLaws.{IsGiven, at_most, object_made, or_left, or_right, owner_there, read_by}
use Rattle.s38_laws_images.specs.openings.Fitting.{IsPlaced, IsUser, is_context_or_gone}
use Rattle.s38_restart.specs.Restarted.{data_space_followed}
use Rattle.s38_rules.specs.families.Contexts.{is_at_home}
use Rattle.s38_rules.specs.families.Creation.{is_of_kind}
use Rattle.s38_rules.specs.state.Held.{Held, has_number, kind_of, object, object_in}
use Rattle.s38_rules.specs.declared.object.Object.{Object}

-- ---- kinds

same_back : (a b : Kind) → same_kind a b ≡ same_kind b a
same_back a b = by (kind_code a) (kind_code b)
  where
    by : (m n : ℕ) → (m == n) ≡ (n == m)
    by m n = grind (arith, nat_tests)

-- in the place of a header there is an object of its kind
abbrev pub IsAsSaid : Option Object → Option Header → Type 0
IsAsSaid None None = Unit {0}
IsAsSaid (Some o) (Some h) = kind_of o.body ≡ h.id.kind
IsAsSaid None (Some h) = ⊥
IsAsSaid (Some o) None = ⊥

is_kind_said : (k : Kind) (x : Option Object) (y : Option Header) → IsAsSaid x y → header_is_of_kind k y ≡ true → is_of_kind k x ≡ true
is_kind_said k None None said is = cc
is_kind_said k (Some o) (Some h) said is = ap (same_kind k) said ∙ same_back k h.id.kind ∙ is
is_kind_said k None (Some h) said is = absurd said
is_kind_said k (Some o) None said is = absurd said

is_context_said : (x : Option Object) (y : Option Header) → IsAsSaid x y → header_is_of_other_kind kinds.Context y ≡ false → is_context_or_gone x ≡ true
is_context_said None None said is = refl
is_context_said (Some o) (Some h) said is = ap (same_kind kinds.Context) said ∙ same_back kinds.Context h.id.kind ∙ turned (same_kind h.id.kind kinds.Context) is
  where
    turned : (b : Bool) → not b ≡ false → b ≡ true
    turned true g = refl
    turned false g = cc
is_context_said None (Some h) said is = absurd said
is_context_said (Some o) None said is = absurd said

pub is_there_said : (x : Option Object) (y : Option Header) → IsAsSaid x y → is_some y ≡ true → is_some x ≡ true
is_there_said None None said is = is
is_there_said (Some o) y said is = refl
is_there_said None (Some h) said is = absurd said

-- ---- each object

module _ (all : List Group) (limit ceiling : ℕ) (h : Held) (kind : (g : Group) (w : IsWhole all limit ceiling g) → IsGiven g → kind_of (data_space_followed h w.stored).body ≡ (data_space_followed h w.stored).id.kind) where
  abbrev objects_of : List Group → List Object
  objects_of gs = map (data_space_followed h) (filter_map (sound all limit ceiling) gs)

  first_sound : (g : Group) (gs : List Group) (w : IsWhole all limit ceiling g) → objects_of (g ∷ gs) ≡ data_space_followed h w.stored ∷ objects_of gs
  first_sound g gs w = rw w.sound_is refl

  -- what a header says of a number is so
  pub said : (gs : List Group) → AllByRecursion (IsWhole all limit ceiling) gs → AllByRecursion IsGiven gs → (n : ℕ) → IsAsSaid (object_in (objects_of gs) n) (header_of_group gs n)
  said [] ws given n = tt
  said (g ∷ gs) ws given n =
      let w = ws.0 in
      let rest = said gs ws.1 given.1 n in
      subst (λ os. IsAsSaid (object_in os n) (header_of_group (g ∷ gs) n)) (sym (first_sound g gs w))
      (by w (kind g w given.0) (g.number == n) refl rest)
    where
      by : (w : IsWhole all limit ceiling g) → kind_of (data_space_followed h w.stored).body ≡ (data_space_followed h w.stored).id.kind → (b : Bool) → (g.number == n) ≡ b → IsAsSaid (object_in (objects_of gs) n) (header_of_group gs n)
          → IsAsSaid (object_in (data_space_followed h w.stored ∷ objects_of gs) n) (option_and_then header_at (cond b (Some g) (group gs n)))
      by w of true is rest =
          let number : has_number n (data_space_followed h w.stored) ≡ true = ap (λ (m : ℕ). m == n) w.object.number ∙ is in
          subst (λ c. IsAsSaid (cond c (Some (data_space_followed h w.stored)) (object_in (objects_of gs) n)) (header_at g)) (sym number)
          (subst (λ x. IsAsSaid (Some (data_space_followed h w.stored)) x) (sym w.header_is) (of ∙ ap (λ i. i.kind) w.object.id))
      by w of false is rest =
          let number : has_number n (data_space_followed h w.stored) ≡ false = ap (λ (m : ℕ). m == n) w.object.number ∙ is in
          subst (λ c. IsAsSaid (cond c (Some (data_space_followed h w.stored)) (object_in (objects_of gs) n)) (header_of_group gs n)) (sym number) rest

module _ (all : List Group) (limit ceiling : ℕ) (h held : Held) (next : held.next ≡ ceiling + 1) (kind : (g : Group) (w : IsWhole all limit ceiling g) → IsGiven g → kind_of (data_space_followed h w.stored).body ≡ (data_space_followed h w.stored).id.kind)
    (there : (n : ℕ) → IsAsSaid (object held n) (header_of_group all n)) where
  one_placed : (g : Group) (w : IsWhole all limit ceiling g) → IsGiven g → IsPlaced held (data_space_followed h w.stored)
  one_placed g w given =
      let read = read_by all limit ceiling g.number g (header_at g) (object_of_parts limit g.number g.parts) w.stored w.sound_is in
      let made_is = object_made limit g.number g.parts w.head w.stored w.header_is read in
      let owner : w.stored.object.owner ≡ w.head.owner = ap (λ (t : Stored). t.object.owner) made_is.is in
      let rest = or_right _ _ (or_right _ _ w.good) in
      let outside = or_left _ _ rest in
      let context = or_right _ _ rest in
      let low = or_left _ _ context in
      let other = or_right _ _ context in
      record {
        owner = subst (λ (u : ObjNum). IsUser held u.0) (sym owner) (is_kind_said kinds.Profile (object held w.head.owner.0) (header_of_group all w.head.owner.0) (there w.head.owner.0) (owner_there all limit ceiling g.number w.head w.good));
        context = subst (λ (c : ObjNum). is_context_or_gone (object held c.0) ≡ true) (sym w.object.context) (is_context_said (object held w.head.context.0) (header_of_group all w.head.context.0) (there w.head.context.0) other);
        given = subst (λ (m : ℕ). w.stored.object.context.0 < m) (sym next) (subst (λ (c : ObjNum). c.0 < ceiling + 1) (sym w.object.context) (at_most ceiling w.head.context.0 low));
        home = λ at. ap (λ (c : ObjNum). c.0) w.object.context ∙ inside w.head (at_home w (kind g w given) at) outside;
      }
    where
      at_home : (w : IsWhole all limit ceiling g) → kind_of (data_space_followed h w.stored).body ≡ (data_space_followed h w.stored).id.kind → is_at_home (Some (data_space_followed h w.stored)) ≡ true
          → (same_kind w.head.id.kind kinds.Context || same_kind w.head.id.kind kinds.Profile) ≡ true
      at_home w of at =
          let is : kind_of (data_space_followed h w.stored).body ≡ w.head.id.kind = of ∙ ap (λ i. i.kind) w.object.id in
          ap (λ b. b || same_kind w.head.id.kind kinds.Profile) (same_back w.head.id.kind kinds.Context) ∙ ap (λ b. same_kind kinds.Context w.head.id.kind || b) (same_back w.head.id.kind kinds.Profile)
          ∙ sym (ap (λ k. same_kind kinds.Context k || same_kind kinds.Profile k) is) ∙ at

      inside : (x : Header) → (same_kind x.id.kind kinds.Context || same_kind x.id.kind kinds.Profile) ≡ true → is_outside x ≡ false → x.context.0 ≡ machine_context
      inside x of none = same (x.context.0) (by (same_kind x.id.kind kinds.Context || same_kind x.id.kind kinds.Profile) (x.context.0 == machine_context) of none)
        where
          by : (a b : Bool) → a ≡ true → (a && not b) ≡ false → b ≡ true
          by true true p q = refl
          by true false p q = cc
          by false b p q = cc

          same : (n : ℕ) → (n == machine_context) ≡ true → n ≡ machine_context
          same n is = grind (arith, nat_tests)

  pub all_placed : (gs : List Group) → AllByRecursion (IsWhole all limit ceiling) gs → AllByRecursion IsGiven gs → AllByRecursion (IsPlaced held) (map (data_space_followed h) (filter_map (sound all limit ceiling) gs))
  all_placed [] ws given = tt
  all_placed (g ∷ gs) ws given =
      let w = ws.0 in
      rw w.sound_is (one_placed g w given.0, all_placed gs ws.1 given.1)

-- ---- the machine context

found_placed : (h : Held) (os : List Object) (n : ℕ) (o : Object) → AllByRecursion (IsPlaced h) os → object_in os n ≡ Some o → IsPlaced h o
found_placed h [] n o placed at = cc
found_placed h (x ∷ os) n o placed at = by (found_placed h os n o placed.1) (has_number n x) at
  where
    same : Some x ≡ Some o → x ≡ o
    same g = cc

    by : (object_in os n ≡ Some o → IsPlaced h o) → (b : Bool) → cond b (Some x) (object_in os n) ≡ Some o → IsPlaced h o
    by rest true q = subst (IsPlaced h) (same q) placed.0
    by rest false q = rest q

-- the first object has an owner, who is in the first object
pub machine_there : (h : Held) → AllByRecursion (IsPlaced h) h.objects → is_some (object h machine_context) ≡ true → is_of_kind kinds.Context (object h machine_context) ≡ true
machine_there h placed there = by (object h machine_context) refl there
  where
    owned : (o x : Object) → object h machine_context ≡ Some o → object h o.owner.0 ≡ Some x → same_kind kinds.Profile (kind_of x.body) ≡ true → same_kind kinds.Context (kind_of o.body) ≡ true
    owned o x at own profile =
        let is = found_placed h h.objects o.owner.0 x placed own in
        let context : x.context.0 ≡ machine_context = is.home (or_second (same_kind kinds.Context (kind_of x.body)) _ profile) in
        subst (λ r. is_context_or_gone r ≡ true) (ap (object h) context ∙ at) is.context
      where
        or_second : (a b : Bool) → b ≡ true → (a || b) ≡ true
        or_second true b g = refl
        or_second false b g = g

    owner_is : (o : Object) (r : Option Object) → object h machine_context ≡ Some o → object h o.owner.0 ≡ r → is_of_kind kinds.Profile r ≡ true → same_kind kinds.Context (kind_of o.body) ≡ true
    owner_is o None at own profile = cc
    owner_is o (Some x) at own profile = owned o x at own profile

    by : (r : Option Object) → object h machine_context ≡ r → is_some r ≡ true → is_of_kind kinds.Context r ≡ true
    by None at g = cc
    by (Some o) at g = owner_is o (object h o.owner.0) at refl (found_placed h h.objects machine_context o placed at).owner

-- a number with a header page has a header, where no group has a fault
pub header_there : (all : List Group) (limit ceiling n : ℕ) (gs : List Group) → AllByRecursion (IsWhole all limit ceiling) gs → group_is_on_disk gs n ≡ true → is_some (header_of_group gs n) ≡ true
header_there all limit ceiling n [] ws on = cc
header_there all limit ceiling n (g ∷ gs) ws on = by (header_there all limit ceiling n gs ws.1) (group_has_number n g) on
  where
    by : (group_is_on_disk gs n ≡ true → is_some (header_of_group gs n) ≡ true) → (b : Bool) → (b || group_is_on_disk gs n) ≡ true → is_some (option_and_then header_at (cond b (Some g) (group gs n))) ≡ true
    by rest true q = ap is_some ws.0.header_is
    by rest false q = rest q
