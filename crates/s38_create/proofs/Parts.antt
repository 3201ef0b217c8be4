-- What gives Some, None or Ok, from its parts.
use Rattle.std.proofs.Common.{◌≡◌, ◌⊎◌, ◌&&◌, inl, inr, Bool, true, false, not, cond, Option, Some, None, refl}
use Rattle.std.specs.Option.{option_map, option_and_then, option_or}

pub if-some : {A : Type 0} (b : Bool) (o : Option A) (x : A) → cond b o None ≡ Some x → (b ≡ true) × (o ≡ Some x)
if-some true o x h = (refl, h)
if-some false o x h = absurd (let e : None ≡ Some x = h in cc)

pub and_then-some : {A B : Type 0} (f : A → Option B) (o : Option A) (x : B) → option_and_then f o ≡ Some x → (y : A) × (o ≡ Some y) × (f y ≡ Some x)
and_then-some f None x h = absurd (let e : None ≡ Some x = h in cc)
and_then-some f (Some y) x h = (y, refl, h)

pub map-some : {A B : Type 0} (f : A → B) (o : Option A) (x : B) → option_map f o ≡ Some x → (y : A) × (o ≡ Some y) × (f y ≡ x)
map-some f None x h = absurd (let e : None ≡ Some x = h in cc)
map-some f (Some y) x h = (y, refl, cc)

pub or-some : {A : Type 0} (o p : Option A) (x : A) → option_or o p ≡ Some x → (o ≡ Some x) ⊎ (p ≡ Some x)
or-some None p x h = inr h
or-some (Some y) p x h = inl h

pub and-both : (a b : Bool) → (a && b) ≡ true → (a ≡ true) × (b ≡ true)
and-both true b h = (refl, h)
and-both false b h = absurd (let e : false ≡ true = h in cc)

-- where a test is passed, no cause is given
pub no-cause : {A : Type 0} (b : Bool) (x : A) (o : Option A) → cond (not b) (Some x) o ≡ None → (b ≡ true) × (o ≡ None)
no-cause true x o h = (refl, h)
no-cause false x o h = absurd (let e : Some x ≡ None = h in cc)
