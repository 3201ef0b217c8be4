-- What gives Some or Ok, from its parts.
use Rattle.std.proofs.Common.{◌≡◌, Bool, true, false, cond, Option, Some, None, Result, Ok, Err, refl}
use Rattle.std.specs.Option.{option_and_then}

pub if-some : {A : Type 0} (b : Bool) (o : Option A) (x : A) → cond b o None ≡ Some x → (b ≡ true) × (o ≡ Some x)
if-some true o x h = (refl, h)
if-some false o x h = absurd (let e : None ≡ Some x = h in cc)

pub and_then-some : {A B : Type 0} (f : A → Option B) (o : Option A) (x : B) → option_and_then f o ≡ Some x → (y : A) × (o ≡ Some y) × (f y ≡ Some x)
and_then-some f None x h = absurd (let e : None ≡ Some x = h in cc)
and_then-some f (Some y) x h = (y, refl, h)

pub if-ok : {A E : Type 0} (b : Bool) (r : Result A E) (e : E) (x : A) → cond b r (Err e) ≡ Ok x → (b ≡ true) × (r ≡ Ok x)
if-ok true r e x h = (refl, h)
if-ok false r e x h = absurd (let f : Err e ≡ Ok x = h in cc)

pub unless-ok : {A E : Type 0} (b : Bool) (r : Result A E) (e : E) (x : A) → cond b (Err e) r ≡ Ok x → (b ≡ false) × (r ≡ Ok x)
unless-ok true r e x h = absurd (let f : Err e ≡ Ok x = h in cc)
unless-ok false r e x h = (refl, h)
