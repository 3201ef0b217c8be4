-- The numbers of objects rise where one becomes another one, is made, or is gone.
use Rattle.std.proofs.Common.{◌+◌, ◌++◌, ◌<◌, ◌∷◌, Bool, List, [], arith, cond, false, not, subst, sym, true, ℕ}
use Rattle.std.proofs.lemmas.List.Elements.{All-cons, All-nil}
use Rattle.std.specs.Prelude.{All}
use Rattle.s38_base.specs.declared.id.ObjNum.{ObjNum}
use Rattle.s38_rules.proofs.ChargeLaws.{KeepsNumber, number_of}
use Rattle.s38_rules.specs.state.Held.{change_in, has_number, without_in}
use Rattle.s38_rules.specs.declared.object.Object.{Object}

-- a number is less than that of each object
abbrev pub Below : ℕ → List Object → Type 0
Below n [] = Unit {0}
Below n (o ∷ os) = (n < o.number.0) × Below n os

-- each number is less than those after it, and than the next one
abbrev pub Rise : ℕ → List Object → Type 0
Rise next [] = Unit {0}
Rise next (o ∷ os) = (o.number.0 < next) × Below o.number.0 os × Rise next os

below_changed : (k n : ℕ) (f : Object → Object) (os : List Object) → KeepsNumber f → Below k os → Below k (change_in os n f)
below_changed k n f [] keeps below = tt
below_changed k n f (o ∷ os) keeps below = by (below_changed k n f os keeps below.1) (has_number n o)
  where
    by : Below k (change_in os n f) → (b : Bool) → Below k (cond b (f o ∷ os) (o ∷ change_in os n f))
    by rest true = (subst (λ (m : ObjNum). k < m.0) (sym (keeps o)) below.0, below.1)
    by rest false = (below.0, rest)

pub rise_changed : (next n : ℕ) (f : Object → Object) (os : List Object) → KeepsNumber f → Rise next os → Rise next (change_in os n f)
rise_changed next n f [] keeps rise = tt
rise_changed next n f (o ∷ os) keeps rise = by (rise_changed next n f os keeps rise.2) (has_number n o)
  where
    by : Rise next (change_in os n f) → (b : Bool) → Rise next (cond b (f o ∷ os) (o ∷ change_in os n f))
    by rest true = (subst (λ (m : ObjNum). m.0 < next) (sym (keeps o)) rise.0, subst (λ (m : ObjNum). Below m.0 os) (sym (keeps o)) rise.1, rise.2)
    by rest false = (rise.0, below_changed o.number.0 n f os keeps rise.1, rest)

below_last : (k : ℕ) (x : Object) (os : List Object) → k < x.number.0 → Below k os → Below k (os ++ x ∷ [])
below_last k x [] under below = (under, tt)
below_last k x (o ∷ os) under below = (below.0, below_last k x os under below.1)

pub rise_last : (x : Object) (os : List Object) → Rise x.number.0 os → Rise (x.number.0 + 1) (os ++ x ∷ [])
rise_last x [] rise = (omega arith, tt, tt)
rise_last x (o ∷ os) rise = (omega (arith, rise.0), below_last o.number.0 x os rise.0 rise.1, rise_last x os rise.2)

below_without : (k n : ℕ) (os : List Object) → Below k os → Below k (without_in os n)
below_without k n [] below = tt
below_without k n (o ∷ os) below = by (below_without k n os below.1) (has_number n o)
  where
    by : Below k (without_in os n) → (b : Bool) → Below k (cond (not b) (o ∷ without_in os n) (without_in os n))
    by rest true = rest
    by rest false = (below.0, rest)

pub rise_without : (next n : ℕ) (os : List Object) → Rise next os → Rise next (without_in os n)
rise_without next n [] rise = tt
rise_without next n (o ∷ os) rise = by (rise_without next n os rise.2) (has_number n o)
  where
    by : Rise next (without_in os n) → (b : Bool) → Rise next (cond (not b) (o ∷ without_in os n) (without_in os n))
    by rest true = rest
    by rest false = (rise.0, below_without o.number.0 n os rise.1, rest)

pub rise_given : (next : ℕ) (os : List Object) → Rise next os → All (λ o. number_of o < next) os
rise_given next [] rise = All-nil (λ o. number_of o < next)
rise_given next (o ∷ os) rise = All-cons (λ x. number_of x < next) o os rise.0 (rise_given next os rise.2)
