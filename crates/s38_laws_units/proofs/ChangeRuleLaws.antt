-- What the rules of a change say: the entry is free, and the commit block is there and journaled.
use Rattle.std.proofs.Common.{◌==◌, ◌∙◌, ◌≡◌, Bool, ap, cond, false, refl, subst, sym, true, ℕ}
use Rattle.std.specs.Prelude.{◌&&◌, None, Option, Some, is_some, not}
use Rattle.s38_base.specs.declared.exception.Exception.{Exception}
use Rattle.s38_commits.proofs.MapLaws.{nat_same}
use Rattle.s38_commits.specs.Units.{AreDisjoint, BlocksRise, UnitMap, owner, unit_of}
use Rattle.s38_rules.proofs.RuleLaws.{fails_none, first_none, not_false}
use Rattle.s38_rules.specs.families.Changing.{block_rule, block_rules, holding_rule, unit_rule}
use Rattle.s38_rules.specs.state.Held.{Held, kind_of, object}
use Rattle.s38_rules.specs.state.Journaling.{block_port, is_journaled_to}
use Rattle.s38_rules.specs.state.Parts.{block_of, block_part, part_at, part_in}
use Rattle.s38_rules.specs.state.State.{State}
use Rattle.s38_rules.specs.declared.object.Object.{Object}
use Rattle.s38_rules.specs.declared.object.Body.{Body}
use Rattle.s38_rules.specs.declared.object.Body.TheVariants as bodies
use Rattle.s38_base.specs.Exceptions as exceptions
use Rattle.s38_base.specs.Ids.{same_kind}
use Rattle.s38_base.specs.Signals.{fails, first}
use Rattle.s38_base.specs.declared.id.Kind.TheVariants as kinds
use Rattle.s38_laws_units.proofs.JoinLaws.{IsFree, free_none, free_own}
use Rattle.s38_laws_units.proofs.UnitLaws.{Both}

-- no unit of another block holds the entry
pub holding_free : (units : UnitMap) (p block space at : ℕ) (r : Option Both) → BlocksRise units → AreDisjoint units → owner units space at ≡ r → holding_rule p block r ≡ None → IsFree units block space at
holding_free units p block space at None rising apart is rule = free_none units block space at is
holding_free units p block space at (Some e) rising apart is rule = subst (λ (n : ℕ). IsFree units n space at) (own _ (e.0 == block) (e.1.process == p) refl rule) (free_own units e space at rising apart is)
  where
    own : (x : Exception) (a b : Bool) → (e.0 == block) ≡ a → cond (a && b) None (Some x) ≡ None → e.0 ≡ block
    own x true b is rule = nat_same e.0 block is
    own x false b is rule = cc

-- the commit block of a change is there, and the data space is journaled to its port
pub record IsBlock (h : Held) (block space : ℕ) : Type 0 where
  pub there : is_some (part_at block_part h block) ≡ true
  pub journaled : is_journaled_to h space (block_port h block) ≡ true

block_there : (x : Option Object) → block_rule x ≡ None → is_some (part_in block_part x) ≡ true
block_there None rule = cc
block_there (Some o) rule = by o.body (not_false _ (fails_none _ _ _ rule))
  where
    by : (b : Body) → same_kind kinds.Block (kind_of b) ≡ true → is_some (block_of b) ≡ true
    by (bodies.Block x) is = refl
    by _ is = cc

pub block_met : (s : State) (p block space : ℕ) → (block == 0) ≡ false → block_rules s p block space ≡ None → IsBlock s.held block space
block_met s p block space some rule =
    let asked = sym (ap (λ (b : Bool). cond b None (first (block_rule (object s.held block)) (first (fails (not (is_journaled_to s.held space (block_port s.held block))) exceptions.not_journaled 1) (unit_rule p (unit_of s.units block))))) some) ∙ rule in
    let both = first_none (block_rule (object s.held block)) _ asked in
    record { there = block_there (object s.held block) both.0; journaled = not_false _ (fails_none _ _ _ (first_none _ (unit_rule p (unit_of s.units block)) both.1).0) }
