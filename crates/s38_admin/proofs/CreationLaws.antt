-- What a creation, or a change of length, that does not fail has met.
use Rattle.std.proofs.Common.{◌≡◌, ◌∙◌, ℕ, ◌+◌, ◌/◌, Bool, true, List, [], length, None, refl, cond, ap, sym, arith, length-append, length-take}
use Rattle.std.proofs.lemmas.List.{length-replicate}
use Rattle.s38_base.specs.declared.exception.Exception.{Exception}
use Rattle.std.specs.Prelude.{Option}
use Rattle.s38_code.specs.declared.operand.Operand.{Operand}
use Rattle.s38_rules.specs.declared.creating.Creating.{Creating}
use Rattle.s38_rules.specs.families.Contexts.{crtctx_fails, new_context}
use Rattle.s38_rules.specs.families.Creation.{creation_fails}
use Rattle.s38_memory.specs.Tagged.{resized}
use Rattle.s38_rules.specs.declared.object.Body.TheVariants as bodies
use Rattle.s38_rules.specs.state.Held.{Held, pages_of, space_pages}
use Rattle.s38_rules.specs.ask.Operands.{count_at, target}
use Rattle.s38_rules.specs.families.Profiles.{crtup_fails, new_profile}
use Rattle.s38_rules.specs.families.Spaces.{crts_fails, is_space_length, length_at, length_rule, mods_fails, new_space, owner_pays, pages_for_length}
use Rattle.s38_rules.specs.state.State.{State}
use Rattle.s38_rules.specs.ask.Users.{user_of}
use Rattle.s38_rules.proofs.RuleLaws.{fails_none, first_none, not_false}

-- a space that may be made meets the rules of creation
pub crts_created : (s : State) (p : ℕ) (ops : List Operand) → crts_fails s p ops ≡ None
    → (own : Option Exception) × (creation_fails s.held (user_of s p) (new_space s ops) own ≡ None)
unfolding crts_fails
crts_created s p ops h = (length_rule s ops 5, h)

-- and so does a context
pub crtctx_created : (s : State) (p : ℕ) (ops : List Operand) → crtctx_fails s p ops ≡ None
    → (own : Option Exception) × (creation_fails s.held (user_of s p) (new_context s.held ops) own ≡ None)
unfolding crtctx_fails
crtctx_created s p ops h = (None, h)

-- and a profile
pub crtup_created : (s : State) (p : ℕ) (ops : List Operand) → crtup_fails s p ops ≡ None
    → (own : Option Exception) × (creation_fails s.held (user_of s p) (new_profile s.held ops) own ≡ None)
unfolding crtup_fails
crtup_created s p ops h = (None, h)

own_met : (h : Held) (owner : ℕ) (made : Creating) (own : Option Exception) → creation_fails h owner made own ≡ None → own ≡ None
unfolding creation_fails
own_met h owner made own none = (first_none _ _ (first_none _ _ none).1).0

long_by : (b : Bool) (limit n : ℕ) → is_space_length limit n ≡ b → b ≡ true → is_space_length limit (cond b n 0) ≡ true
long_by b limit n h good = rw good (h ∙ good)

length_long : (s : State) (ops : List Operand) (k : ℕ) → length_rule s ops k ≡ None → is_space_length s.limit (length_at s ops k) ≡ true
length_long s ops k h =
    let good : is_space_length s.limit (count_at s.held ops k) ≡ true = not_false _ (fails_none _ _ _ (first_none _ _ h).1) in
    long_by (is_space_length s.limit (count_at s.held ops k)) s.limit (count_at s.held ops k) refl good

-- a space that may be made has a length
pub crts_long : (s : State) (p : ℕ) (ops : List Operand) → crts_fails s p ops ≡ None → is_space_length s.limit (length_at s ops 5) ≡ true
unfolding crts_fails
crts_long s p ops h = length_long s ops 5 (own_met s.held (user_of s p) (new_space s ops) (length_rule s ops 5) h)

-- and so has one that may be changed
pub mods_long : (s : State) (ops : List Operand) → mods_fails s ops ≡ None → is_space_length s.limit (length_at s ops 2) ≡ true
unfolding mods_fails
mods_long s ops h = length_long s ops 2 (first_none _ _ h).0

-- its owner pays for it
pub mods_paid : (s : State) (ops : List Operand) → mods_fails s ops ≡ None → owner_pays s.held (target s.held ops 1) (pages_for_length (length_at s ops 2)) ≡ None
unfolding mods_fails
mods_paid s ops h = (first_none _ _ h).1

-- a new space takes the pages of its length
pub space_paid : (len : ℕ) → pages_for_length len ≡ pages_of (bodies.Space (resized len []))
space_paid len =
    let l : length (resized len []) ≡ len / 16 = simp (length-append, length-take, length-replicate) (omega arith) in
    ap (λ (n : ℕ). 1 + space_pages n) (sym l)
