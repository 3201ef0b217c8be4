-- The rows of contexts keep objects fitting one another.
use Rattle.std.proofs.Common.{◌==◌, ◌∷◌, ◌≡◌, ◌≢◌, Bool, List, [], arith, cond, false, refl, subst, sym, true, ℕ}
use Rattle.std.proofs.lemmas.Bool.Decides.{nat_tests}
use Rattle.std.proofs.lemmas.List.Elements.{Contains-append_left, Contains-append_right}
use Rattle.std.specs.List.{Contains}
use Rattle.std.specs.Prelude.{None, Option, Some}
use Rattle.s38_base.specs.Exceptions as exceptions
use Rattle.s38_base.specs.Limits.{machine_context}
use Rattle.s38_base.specs.RightNames as rights
use Rattle.s38_base.specs.declared.id.Id.{Id}
use Rattle.s38_base.specs.declared.id.Kind.TheVariants as kinds
use Rattle.s38_base.specs.declared.op.Op.TheVariants.{Crtctx, Desctx, Modadr, Rename}
use Rattle.s38_base.specs.declared.op.Op.{Op}
use Rattle.s38_base.specs.declared.words.Category.TheVariants.{Change}
use Rattle.s38_code.specs.declared.operand.Operand.{Operand}
use Rattle.s38_rules.proofs.RuleLaws.{fails_none, first_none}
use Rattle.s38_rules.proofs.VerdictLaws.{rule_met}
use Rattle.s38_rules.specs.families.Changes.{Named}
use Rattle.s38_rules.specs.families.Contexts.{contexts_row, crtctx, crtctx_fails, desctx, desctx_fails, is_name_beside, modadr, modadr_fails, modadr_needs, new_address, new_context, rename, rename_fails, rename_rule}
use Rattle.s38_rules.specs.families.Creation.{is_taken_beside}
use Rattle.s38_rules.specs.state.Held.{Held, object}
use Rattle.s38_rules.specs.ask.Needs.{on_object}
use Rattle.s38_rules.specs.ask.Operands.{id_at, is_given, place, target}
use Rattle.s38_rules.specs.declared.need.Claim.TheVariants.{Available}
use Rattle.s38_rules.specs.declared.need.Named.TheVariants.{Written}
use Rattle.s38_rules.specs.declared.need.Need.{Need}
use Rattle.s38_rules.specs.declared.need.PointerKind.TheVariants as pointer_kinds
use Rattle.s38_rules.specs.declared.need.Sought.TheVariants.{Any, Of}
use Rattle.s38_rules.specs.declared.object.Body.TheVariants as bodies
use Rattle.s38_rules.specs.declared.object.Object.{Object}
use Rattle.s38_laws_state.proofs.FitLaws.{head_fits}
use Rattle.s38_laws_state.proofs.HeadLaws.{destroyed_fits, moved_fits, named_fits}
use Rattle.s38_laws_state.proofs.WordLaws.{May}
use Rattle.s38_laws_state.proofs.FitRowLaws.{IsUsed, FitsIn, MayRow}
use Rattle.s38_laws_state.proofs.CreatedLaws.{context_met, first_of_one, made_at_home}

rename_may : MayRow rename
unfolding rename_fails
rename_may s p d t fits e = by (id_at t.operands 2) (rule_met rename s p d t e)
  where
    n : ℕ
    n = target s.held t.operands 1

    by : (id : Option Id) → rename_rule s.held n id ≡ None → May (FitsIn s) (head_fits (IsUsed s.processes)) s p (Named n id)
    by None met = fits
    by (Some id) met = named_fits (IsUsed s.processes) s.held fits n id (fails_none _ exceptions.duplicate_identification 2 (first_none _ _ met).1)

abbrev new_place : Need
new_place = record {
  place = 2;
  named = Written;
  pointer = pointer_kinds.System;
  sought = Of kinds.Context;
  rights = record { 0 = rights.insert };
  claim = Available;
  category = Some Change;
}

new_place_there : (h : Held) (ops : List Operand) → is_given ops 2 ≡ true → Contains (modadr_needs h ops) new_place
unfolding modadr_needs
new_place_there h ops given =
    Contains-append_right (on_object 1 Any rights.objmgt (Some Change)) _ new_place
    (Contains-append_left (new_address ops) _ new_place (subst (λ (b : Bool). Contains (cond b (new_place ∷ []) []) new_place) (sym given) (first_of_one new_place)))

modadr_may : MayRow modadr
unfolding modadr_fails
modadr_may s p d t fits e =
    let one = first_none _ _ (rule_met modadr s p d t e) in
    let two = first_none _ _ one.1 in
    moved_fits (IsUsed s.processes) s.held fits n c (fails_none _ exceptions.object_type_invalid 1 one.0)
    (context_met modadr s p d t new_place fits e (record { place = refl; named = refl; sought = λ o is. is }) (λ given. new_place_there s.held t.operands given))
    (λ x at. free x at (fails_none _ exceptions.duplicate_identification 1 two.1))
  where
    n : ℕ
    n = target s.held t.operands 1

    c : ℕ
    c = target s.held t.operands 2

    free : (x : Object) → object s.held n ≡ Some x → is_name_beside s.held n c (object s.held n) ≡ false → is_taken_beside s.held n c x.id ≡ false
    free x at none = subst (λ (r : Option Object). is_name_beside s.held n c r ≡ false) at none

desctx_may : MayRow desctx
unfolding desctx_fails
desctx_may s p d t fits e =
    destroyed_fits (IsUsed s.processes) s.held fits kinds.Context (target s.held t.operands 1)
    (λ is. apart (target s.held t.operands 1) (fails_none _ exceptions.object_in_use 1 (rule_met desctx s p d t e))) (λ is. absurd (other is))
  where
    other : kinds.Context ≡ kinds.Profile → ⊥
    other g = cc

    apart : (n : ℕ) → (n == machine_context) ≡ false → n ≢ machine_context
    apart n off same = absurd (grind (arith, nat_tests))

pub contexts_may : (op : Op) → MayRow (contexts_row op)
unfolding contexts_row crtctx_fails
contexts_may Crtctx = λ s p d t fits e. made_at_home s p (new_context s.held t.operands) bodies.Context None fits refl (omega arith) (rule_met crtctx s p d t e)
contexts_may Desctx = desctx_may
contexts_may Modadr = modadr_may
contexts_may Rename = rename_may
contexts_may _ = λ s p d t fits e. tt
