-- What a change of address or name that does not fail has met.
use Rattle.std.proofs.Common.{◌≡◌, ℕ, true, false, cond, List, [], ◌∷◌, Option, None, Some, refl, ap}
use Rattle.s38_base.specs.declared.id.Id.{Id}
use Rattle.s38_code.specs.declared.operand.Operand.{Operand}
use Rattle.s38_rules.specs.declared.object.Object.{Object}
use Rattle.s38_rules.specs.families.Contexts.{is_name_beside, modadr_fails, rename_fails, rename_rule}
use Rattle.s38_rules.specs.families.Creation.{is_another, is_taken_beside}
use Rattle.s38_rules.specs.state.Held.{Held, context_in, found_in, home, is_there, object}
use Rattle.s38_rules.specs.ask.Operands.{id_at, target}
use Rattle.s38_rules.proofs.RuleLaws.{fails_none, first_none}

-- no other object of the new context has the identification
pub modadr_free : (h : Held) (ops : List Operand) → modadr_fails h ops ≡ None → is_name_beside h (target h ops 1) (target h ops 2) (object h (target h ops 1)) ≡ false
unfolding modadr_fails
modadr_free h ops e = fails_none _ _ _ (first_none _ _ (first_none _ _ e).1).1

none_found : (os : List Object) (id : Id) → found_in os 0 id ≡ None
none_found [] id = refl
none_found (o ∷ os) id = none_found os id

none_nowhere : (h : Held) (n : ℕ) (id : Id) → is_taken_beside h n 0 id ≡ false
none_nowhere h n id =
    elim (is_there h 0) as (λ b. is_another n (cond b (found_in h.objects 0 id) None) ≡ false) [
      | true ↦ ap (is_another n) (none_found h.objects id)
      | false ↦ refl
    ]

name_home : (h : Held) (n context : ℕ) (o : Option Object) → is_name_beside h n context o ≡ false → is_name_beside h n (home h context).0 o ≡ false
name_home h n context None e = refl
name_home h n context (Some o) e =
    elim (is_there h context) as (λ b. is_there h context ≡ b → is_taken_beside h n (cond b context 0) o.id ≡ false) [
      | true ↦ λ q. e
      | false ↦ λ q. none_nowhere h n o.id
    ] refl

-- nor has one of its home
pub home_free : (h : Held) (ops : List Operand) → modadr_fails h ops ≡ None → is_name_beside h (target h ops 1) (home h (target h ops 2)).0 (object h (target h ops 1)) ≡ false
home_free h ops e = name_home h (target h ops 1) (target h ops 2) (object h (target h ops 1)) (modadr_free h ops e)

free_by : (h : Held) (n : ℕ) (id : Id) → rename_rule h n (Some id) ≡ None → is_taken_beside h n (context_in (object h n)).0 id ≡ false
free_by h n id e = fails_none _ _ _ (first_none _ _ e).1

-- no other object of the context has the new identification
pub rename_free : (h : Held) (ops : List Operand) (id : Id) → rename_fails h ops ≡ None → id_at ops 2 ≡ Some id → is_taken_beside h (target h ops 1) (context_in (object h (target h ops 1))).0 id ≡ false
unfolding rename_fails
rename_free h ops id e at = free_by h (target h ops 1) id (rw at at e)
