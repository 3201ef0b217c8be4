-- The rows of profiles keep objects fitting one another.
use Rattle.std.proofs.Common.{◌==◌, ◌∷◌, ◌≡◌, ◌&&◌, ◌||◌, Bool, List, [], arith, cond, false, refl, subst, suc, true, zero, ℕ}
use Rattle.std.proofs.lemmas.Bool.Decides.{nat_tests}
use Rattle.std.specs.List.{list_any}
use Rattle.std.specs.Prelude.{None, Option, Some, slice_get}
use Rattle.s38_base.specs.Exceptions as exceptions
use Rattle.s38_base.specs.Ids.{same_kind}
use Rattle.s38_base.specs.declared.id.Kind.TheVariants as kinds
use Rattle.s38_base.specs.declared.op.Op.TheVariants.{Crtup, Desup}
use Rattle.s38_base.specs.declared.op.Op.{Op}
use Rattle.s38_code.specs.declared.program.Program.{Program}
use Rattle.s38_rules.proofs.RuleLaws.{fails_none}
use Rattle.s38_rules.proofs.VerdictLaws.{rule_met}
use Rattle.s38_rules.specs.ask.Authority.{is_profile}
use Rattle.s38_rules.specs.families.Creation.{is_of_kind}
use Rattle.s38_rules.specs.state.Held.{has_number, kind_of, object, object_in}
use Rattle.s38_rules.specs.ask.Operands.{target}
use Rattle.s38_rules.specs.families.Profiles.{crtup, crtup_fails, desup, desup_fails, is_live, is_needed, is_owner, is_profile_in, new_profile, officer, owns, profile_body, profiles_row}
use Rattle.s38_rules.specs.declared.object.Body.TheVariants as bodies
use Rattle.s38_rules.specs.declared.object.Body.{Body}
use Rattle.s38_rules.specs.declared.object.Object.{Object}
use Rattle.s38_rules.specs.declared.process.ProcessEntry.{ProcessEntry}
use Rattle.s38_laws_state.proofs.HeadLaws.{destroyed_fits}
use Rattle.s38_laws_state.proofs.FitRowLaws.{IsUsed, MayRow}
use Rattle.s38_laws_state.proofs.CreatedLaws.{true_false, made_at_home}

pub some_same : (x y : Object) → Some x ≡ Some y → x ≡ y
some_same x y h = cc

or_false : (a b : Bool) → (a || b) ≡ false → (a ≡ false) × (b ≡ false)
or_false true b h = cc
or_false false b h = (refl, h)

none_owns : (n : ℕ) (os : List Object) (m : ℕ) (y : Object) → list_any (owns n) os ≡ false → object_in os m ≡ Some y → y.owner.0 ≡ n → ⊥
none_owns n [] m y none at own = cc
none_owns n (x ∷ os) m y none at own =
    let both = or_false (owns n x) (list_any (owns n) os) none in
    by both.0 (none_owns n os m y both.1) (has_number m x) at
  where
    same : (a b : ℕ) → a ≡ b → (a == b) ≡ false → ⊥
    same a b is off = absurd (grind (arith, nat_tests))

    by : owns n x ≡ false → (object_in os m ≡ Some y → y.owner.0 ≡ n → ⊥) → (b : Bool) → cond b (Some x) (object_in os m) ≡ Some y → ⊥
    by off rest true q = same y.owner.0 n own (subst (λ (o : Object). owns n o ≡ false) (some_same x y q) off)
    by off rest false q = rest q own

none_at : (n : ℕ) (xs : List ProcessEntry) (k : ℕ) (x : ProcessEntry) → list_any (is_live n) xs ≡ false → slice_get xs k ≡ Some x → is_live n x ≡ false
none_at n [] k x none at = cc
none_at n (y ∷ ys) zero x none at = subst (λ (z : ProcessEntry). is_live n z ≡ false) (same y x at) (or_false (is_live n y) (list_any (is_live n) ys) none).0
  where
    same : (a b : ProcessEntry) → Some a ≡ Some b → a ≡ b
    same a b h = cc
none_at n (y ∷ ys) (suc k) x none at = none_at n ys k x (or_false (is_live n y) (list_any (is_live n) ys) none).1 at

none_live : (n : ℕ) (xs : List ProcessEntry) → list_any (is_live n) xs ≡ false → IsUsed xs n → ⊥
none_live n xs none used = true_false (is_live n used.process) live (none_at n xs used.at used.process none used.there)
  where
    itself : (n : ℕ) → (n == n) ≡ true
    itself n = grind (arith, nat_tests)

    live : is_live n used.process ≡ true
    live = rw (used.going, used.of, used.is) (itself n)

profile_there : (x : Option Object) → is_of_kind kinds.Profile x ≡ true → is_profile_in x ≡ true
profile_there None h = cc
profile_there (Some o) h = by o.body h
  where
    by : (b : Body) → same_kind kinds.Profile (kind_of b) ≡ true → is_profile b ≡ true
    by (bodies.Profile special limit) g = refl
    by bodies.Context g = cc
    by (bodies.Program x) g = cc
    by (bodies.Space x) g = cc
    by (bodies.Queue x) g = cc
    by (bodies.Index x) g = cc
    by (bodies.DataSpace x) g = cc
    by (bodies.Cursor x) g = cc
    by (bodies.Port x) g = cc
    by (bodies.Journal x) g = cc
    by (bodies.Block x) g = cc

desup_may : MayRow desup
unfolding desup_fails
desup_may s p d t fits e =
    destroyed_fits (IsUsed s.processes) s.held fits kinds.Profile n (λ is. absurd (other is))
    (λ same is. (λ m y at own. none_owns n s.held.objects m y (owned (profile_there (object s.held n) is) met.1.0) at own, none_live n s.processes met.1.1))
  where
    n : ℕ
    n = target s.held t.operands 1

    other : kinds.Profile ≡ kinds.Context → ⊥
    other g = cc

    met : ((n == officer) ≡ false) × ((is_owner s.held n ≡ false) × (list_any (is_live n) s.processes ≡ false))
    met =
        let one = or_false (n == officer) _ (fails_none (is_needed s n) exceptions.object_in_use 1 (rule_met desup s p d t e)) in
        (one.0, or_false (is_owner s.held n) (list_any (is_live n) s.processes) one.1)

    owned : is_profile_in (object s.held n) ≡ true → is_owner s.held n ≡ false → list_any (owns n) s.held.objects ≡ false
    owned profile none = by (is_profile_in (object s.held n)) (list_any (owns n) s.held.objects) profile none
      where
        by : (a b : Bool) → a ≡ true → (a && b) ≡ false → b ≡ false
        by true b h g = g
        by false b h g = cc

pub profiles_may : (op : Op) → MayRow (profiles_row op)
unfolding profiles_row crtup_fails
profiles_may Crtup = λ s p d t fits e. made_at_home s p (new_profile s.held t.operands) (profile_body t.operands) None fits refl (omega arith) (rule_met crtup s p d t e)
profiles_may Desup = desup_may
profiles_may _ = λ s p d t fits e. tt
