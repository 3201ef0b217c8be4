-- What an object that may change hands has met, and what is granted and retracted of an object that is there.
use Rattle.std.proofs.Common.{◌≡◌, ℕ, ◌-◌, Bool, true, false, cond, List, [], ◌∷◌, None, Some, refl, ap, sym, bit_and, bit_or}
use Rattle.s38_base.specs.declared.id.ObjNum.{ObjNum}
use Rattle.s38_code.specs.declared.operand.Operand.{Operand}
use Rattle.s38_rules.specs.declared.object.Object.{Object}
use Rattle.s38_rules.specs.families.Grants.{with_granted, with_retracted, taker_rule, xfro_fails}
use Rattle.s38_rules.specs.families.AuthorityReads.{row_or_public}
use Rattle.s38_rules.specs.families.Grantees.{rights_of, user_at, with_rights}
use Rattle.s38_rules.specs.state.Held.{Held, change_in, has_number, object, object_in}
use Rattle.s38_rules.specs.ask.Operands.{is_given, rights_at, target}
use Rattle.s38_rules.specs.state.Access.{access_of, on_access, with_access}
use Rattle.s38_rules.proofs.RuleLaws.{first_none}

-- the new owner may own its pages
pub xfro_taken : (h : Held) (ops : List Operand) → xfro_fails h ops ≡ None → taker_rule h (target h ops 1) (target h ops 2) (object h (target h ops 1)) ≡ None
unfolding xfro_fails
xfro_taken h ops e = (first_none _ _ e).0

-- a change is told by what it makes of the object that is there
changed_alike : (n : ℕ) (f g : Object → Object) (os : List Object) → ((o : Object) → object_in os n ≡ Some o → f o ≡ g o) → change_in os n f ≡ change_in os n g
changed_alike n f g [] same = refl
changed_alike n f g (o ∷ os) same =
    elim (has_number n o) as (λ b. ((x : Object) → cond b (Some o) (object_in os n) ≡ Some x → f x ≡ g x) → cond b (f o ∷ os) (o ∷ change_in os n f) ≡ cond b (g o ∷ os) (o ∷ change_in os n g)) [
      | true ↦ λ alike. ap (λ x. x ∷ os) (alike o refl)
      | false ↦ λ alike. ap (λ xs. o ∷ xs) (changed_alike n f g os alike)
    ] same

rights_there : (b : Bool) (user : ObjNum) (o : Object) → rights_of b user (access_of o) ≡ row_or_public b (Some o) user.0
rights_there true user o = refl
rights_there false user o = refl

-- the rights that a user or everybody has from those of now on are told by those of the object that is there
rights_changed : (h : Held) (n : ℕ) (b : Bool) (user : ObjNum) (f : ℕ → ℕ)
    → on_access h n (λ s. with_rights b user (f (rights_of b user s)) s) ≡ on_access h n (with_rights b user (f (row_or_public b (object h n) user.0)))
rights_changed h n b user f =
    let alike = λ (o : Object) (found : object h n ≡ Some o).
    ap (λ r. with_access (with_rights b user (f r) (access_of o)) o) (rw found (rights_there b user o)) in
    ap (λ os. record h { objects = os }) (changed_alike n _ _ h.objects alike)

-- rights are added to those that there are
pub rights_added : (h : Held) (ops : List Operand)
    → on_access h (target h ops 1) (with_rights (is_given ops 2) (user_at h ops 2) (bit_or (row_or_public (is_given ops 2) (object h (target h ops 1)) (target h ops 2)) (rights_at ops 3))) ≡ on_access h (target h ops 1) (with_granted h ops)
rights_added h ops = sym (rights_changed h (target h ops 1) (is_given ops 2) (user_at h ops 2) (λ r. bit_or r (rights_at ops 3)))

-- rights are taken from those that there are
pub rights_taken : (h : Held) (ops : List Operand)
    → on_access h (target h ops 1) (with_rights (is_given ops 2) (user_at h ops 2) (bit_and (row_or_public (is_given ops 2) (object h (target h ops 1)) (target h ops 2)) (255 - rights_at ops 3))) ≡ on_access h (target h ops 1) (with_retracted h ops)
rights_taken h ops = sym (rights_changed h (target h ops 1) (is_given ops 2) (user_at h ops 2) (λ r. bit_and r (255 - rights_at ops 3)))
