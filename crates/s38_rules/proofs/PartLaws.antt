-- What an object holds, once it was lent and left as something else, is a change of the object; for every kind.
use Rattle.std.proofs.Common.{◌≡◌, ℕ, ◌==◌, Bool, true, false, cond, List, [], ◌∷◌, refl, sym, ◌∙◌, ap}
use Rattle.std.specs.Prelude.{Option, Some, None}
use Rattle.std.specs.Option.{option_map}
use Rattle.s38_base.specs.declared.id.ObjNum.{ObjNum}
use Rattle.s38_rules.proofs.ChargeLaws.{KeepsNumber, object_changed}
use Rattle.s38_rules.specs.declared.object.Object.{Object}
use Rattle.s38_rules.specs.declared.object.Body.{Body}
use Rattle.s38_rules.specs.state.Held.{Held, change_in, has_number, object_in}
use Rattle.s38_rules.specs.state.Parts.{Part, over, over_body, over_object, over_part, part_at, part_in}
use Rattle.s38_rules.specs.state.LawfulParts.{IsPart}

body_written : {T : Type 0} (p : Part T) (f : T → T) (x : T) (b : Body) → p.of b ≡ Some x → over_body p (λ _. f x) b ≡ over_body p f b
body_written p f x b h = ap (over p (λ _. f x) b) h ∙ sym (ap (over p f b) h)

body_kept : {T : Type 0} (p : Part T) (f : T → T) (b : Body) → p.of b ≡ None → over_body p f b ≡ b
body_kept p f b h = ap (over p f b) h

body_same : {T : Type 0} (p : Part T) (lawful : IsPart T p) (x : T) (b : Body) → p.of b ≡ Some x → over_body p (λ _. x) b ≡ b
body_same p lawful x b h = ap (over p (λ _. x) b) h ∙ sym (lawful.back b x h)

change_written : {T : Type 0} (p : Part T) (os : List Object) (n : ℕ) (f : T → T) (x : T)
    → part_in p (object_in os n) ≡ Some x → change_in os n (over_object p (λ _. f x)) ≡ change_in os n (over_object p f)
change_written p [] n f x h = refl
change_written p (o ∷ os) n f x h =
    elim (has_number n o) as (λ b. part_in p (cond b (Some o) (object_in os n)) ≡ Some x
    → cond b (over_object p (λ _. f x) o ∷ os) (o ∷ change_in os n (over_object p (λ _. f x))) ≡ cond b (over_object p f o ∷ os) (o ∷ change_in os n (over_object p f))) [
      | true ↦ λ g. ap (λ (b : Body). record o { body = b } ∷ os) (body_written p f x o.body g)
      | false ↦ λ g. ap (λ (l : List Object). o ∷ l) (change_written p os n f x g)
    ] h

change_kept : {T : Type 0} (p : Part T) (os : List Object) (n : ℕ) (f : T → T) → part_in p (object_in os n) ≡ None → change_in os n (over_object p f) ≡ os
change_kept p [] n f h = refl
change_kept p (o ∷ os) n f h =
    elim (has_number n o) as (λ b. part_in p (cond b (Some o) (object_in os n)) ≡ None
    → cond b (over_object p f o ∷ os) (o ∷ change_in os n (over_object p f)) ≡ o ∷ os) [
      | true ↦ λ g. ap (λ (b : Body). record o { body = b } ∷ os) (body_kept p f o.body g)
      | false ↦ λ g. ap (λ (l : List Object). o ∷ l) (change_kept p os n f g)
    ] h

change_same : {T : Type 0} (p : Part T) (lawful : IsPart T p) (os : List Object) (n : ℕ) (x : T)
    → part_in p (object_in os n) ≡ Some x → change_in os n (over_object p (λ _. x)) ≡ os
change_same p lawful [] n x h = refl
change_same p lawful (o ∷ os) n x h =
    elim (has_number n o) as (λ b. part_in p (cond b (Some o) (object_in os n)) ≡ Some x
    → cond b (over_object p (λ _. x) o ∷ os) (o ∷ change_in os n (over_object p (λ _. x))) ≡ o ∷ os) [
      | true ↦ λ g. ap (λ (b : Body). record o { body = b } ∷ os) (body_same p lawful x o.body g)
      | false ↦ λ g. ap (λ (l : List Object). o ∷ l) (change_same p lawful os n x g)
    ] h

-- a part that is left as a function of what it was
pub part_written : {T : Type 0} (p : Part T) (h : Held) (n : ℕ) (f : T → T) (x : T) → part_at p h n ≡ Some x → over_part p h n (λ _. f x) ≡ over_part p h n f
part_written p h n f x there = ap (λ (os : List Object). record h { objects = os }) (change_written p h.objects n f x there)

-- where there is none, nothing is changed
pub part_kept : {T : Type 0} (p : Part T) (h : Held) (n : ℕ) (f : T → T) → part_at p h n ≡ None → over_part p h n f ≡ h
part_kept p h n f there = ap (λ (os : List Object). record h { objects = os }) (change_kept p h.objects n f there)

-- a part that is left as it was
pub part_same : {T : Type 0} (p : Part T) (lawful : IsPart T p) (h : Held) (n : ℕ) (x : T) → part_at p h n ≡ Some x → over_part p h n (λ _. x) ≡ h
part_same p lawful h n x there = ap (λ (os : List Object). record h { objects = os }) (change_same p lawful h.objects n x there)

-- ---- parts of two kinds, and a part that is changed twice

number_kept : (n : ℕ) (f : Object → Object) (o : Object) → KeepsNumber f → has_number n (f o) ≡ has_number n o
number_kept n f o keeps = ap (λ (k : ObjNum). k.0 == n) (keeps o)

change_commutes : (os : List Object) (n m : ℕ) (f g : Object → Object) → KeepsNumber f → KeepsNumber g → ((o : Object) → g (f o) ≡ f (g o))
    → change_in (change_in os n f) m g ≡ change_in (change_in os m g) n f
change_commutes [] n m f g kf kg same = refl
change_commutes (o ∷ os) n m f g kf kg same = by (change_commutes os n m f g kf kg same) (has_number n o) refl (has_number m o) refl
  where
    by : change_in (change_in os n f) m g ≡ change_in (change_in os m g) n f → (a : Bool) → has_number n o ≡ a → (b : Bool) → has_number m o ≡ b → change_in (change_in (o ∷ os) n f) m g ≡ change_in (change_in (o ∷ os) m g) n f
    by rest true a true b = rw (a, b, number_kept m f o kf, number_kept n g o kg, a, b) (ap (λ (x : Object). x ∷ os) (same o))
    by rest true a false b = rw (a, b, number_kept m f o kf, a, b) refl
    by rest false a true b = rw (a, b, number_kept n g o kg, a) refl
    by rest false a false b = rw (a, b, a) (ap (λ (l : List Object). o ∷ l) rest)

change_twice : (os : List Object) (n : ℕ) (f g both : Object → Object) → KeepsNumber f → ((o : Object) → g (f o) ≡ both o)
    → change_in (change_in os n f) n g ≡ change_in os n both
change_twice [] n f g both kf same = refl
change_twice (o ∷ os) n f g both kf same = by (change_twice os n f g both kf same) (has_number n o) refl
  where
    by : change_in (change_in os n f) n g ≡ change_in os n both → (a : Bool) → has_number n o ≡ a → change_in (change_in (o ∷ os) n f) n g ≡ change_in (o ∷ os) n both
    by rest true a = rw (a, number_kept n f o kf, a) (ap (λ (x : Object). x ∷ os) (same o))
    by rest false a = rw (a, a) (ap (λ (l : List Object). o ∷ l) rest)

-- what an object holds of one kind is not touched by a change of another kind
pub part_apart : {S T : Type 0} (p : Part S) (q : Part T) (f : T → T) → ((b : Body) → p.of (over_body q f b) ≡ p.of b) → (h : Held) (n m : ℕ) → part_at p (over_part q h n f) m ≡ part_at p h m
part_apart p q f same h n m =
    ap (part_in p) (object_changed n m (over_object q f) h.objects (λ o. refl)) ∙ by (n == m) (object_in h.objects m)
  where
    by : (c : Bool) (x : Option Object) → part_in p (cond c (option_map (over_object q f) x) x) ≡ part_in p x
    by true None = refl
    by true (Some o) = same o.body
    by false x = refl

-- and changes of two kinds may be made in either order
pub parts_commute : {S T : Type 0} (p : Part S) (q : Part T) (f : S → S) (g : T → T) → ((b : Body) → over_body q g (over_body p f b) ≡ over_body p f (over_body q g b)) → (h : Held) (n m : ℕ)
    → over_part q (over_part p h n f) m g ≡ over_part p (over_part q h m g) n f
parts_commute p q f g same h n m =
    ap (λ (os : List Object). record h { objects = os }) (change_commutes h.objects n m (over_object p f) (over_object q g) (λ o. refl) (λ o. refl) (λ o. ap (λ (b : Body). record o { body = b }) (same o.body)))

over_twice : {T : Type 0} (p : Part T) → IsPart T p → (f g both : T → T) (b : Body) (r : Option T) → p.of b ≡ r → ((x : T) → g (f x) ≡ both x) → over_body p g (over p f b r) ≡ over p both b r
over_twice p lawful f g both b None e same = ap (over p g b) e
over_twice p lawful f g both b (Some x) e same = ap (over p g (p.make (f x))) (lawful.got (f x)) ∙ ap p.make (same x)

-- a part that is changed and changed again
pub part_twice : {T : Type 0} (p : Part T) → IsPart T p → (f g both : T → T) → ((x : T) → g (f x) ≡ both x) → (h : Held) (n : ℕ) → over_part p (over_part p h n f) n g ≡ over_part p h n both
part_twice p lawful f g both same h n =
    ap (λ (os : List Object). record h { objects = os }) (change_twice h.objects n (over_object p f) (over_object p g) (over_object p both) (λ o. refl)
    (λ o. ap (λ (b : Body). record o { body = b }) (over_twice p lawful f g both o.body (p.of o.body) refl same)))

-- a part that is left as it was, if it is there
pub part_left : {T : Type 0} (p : Part T) → IsPart T p → (f : T → T) (h : Held) (n : ℕ) (r : Option T) → part_at p h n ≡ r → ((x : T) → r ≡ Some x → f x ≡ x) → over_part p h n f ≡ h
part_left p lawful f h n None e same = part_kept p h n f e
part_left p lawful f h n (Some x) e same =
    sym (part_written p h n f x e) ∙ ap (λ (y : _). over_part p h n (λ _. y)) (same x refl) ∙ part_same p lawful h n x e

-- what is the same of each body of a kind is the same of a body that holds something else
pub over_same : {T A : Type 0} (p : Part T) → IsPart T p → (g : Body → A) (a : A) → ((x : T) → g (p.make x) ≡ a) → (f : T → T) (b : Body) (x : Option T) → p.of b ≡ x → g (over p f b x) ≡ g b
over_same p lawful g a same f b None e = refl
over_same p lawful g a same f b (Some x) e = same (f x) ∙ sym (ap g (lawful.back b x e) ∙ same x)
