-- What the rules say of a creation: the new object, its context among them, fits the others.
use Rattle.std.proofs.Common.{◌+◌, ◌≤◌, ◌∙◌, ◌∷◌, ◌≡◌, ◌&&◌, Bool, List, [], ap, arith, cond, false, not, refl, subst, sym, true, ℕ}
use Rattle.std.specs.List.{Contains}
use Rattle.std.specs.Option.{option_map}
use Rattle.std.specs.Prelude.{None, Option, Some, is_some}
use Rattle.s38_base.specs.Exceptions as exceptions
use Rattle.s38_base.specs.Ids.{same_kind}
use Rattle.s38_base.specs.Limits.{machine_context}
use Rattle.s38_base.specs.Pointers.{object_of, target_of}
use Rattle.s38_base.specs.RightNames as rights
use Rattle.s38_base.specs.Signals.{first}
use Rattle.s38_base.specs.declared.exception.Exception.{Exception}
use Rattle.s38_base.specs.declared.id.Id.{Id}
use Rattle.s38_base.specs.declared.id.Kind.TheVariants as kinds
use Rattle.s38_base.specs.declared.id.ObjNum.{ObjNum}
use Rattle.s38_base.specs.declared.pointer.Pointer.{Pointer}
use Rattle.s38_base.specs.declared.words.Category.TheVariants.{Change}
use Rattle.s38_code.specs.declared.event.Request.{Request}
use Rattle.s38_code.specs.declared.operand.Operand.TheVariants as operands
use Rattle.s38_code.specs.declared.operand.Operand.{Operand}
use Rattle.s38_code.specs.declared.program.Program.{Program}
use Rattle.s38_laws_confinement.proofs.RightLaws.{permitted, used_parts}
use Rattle.s38_rules.proofs.RuleLaws.{fails_none, first_none}
use Rattle.s38_rules.specs.families.Changes.{made_by}
use Rattle.s38_rules.specs.families.Contexts.{is_at_home}
use Rattle.s38_rules.specs.families.Creation.{creation_fails, creation_limits, creation_needs, in_context, is_of_kind, is_taken, name_rule, new_object, number_rule, pages_rule}
use Rattle.s38_rules.specs.state.Held.{Held, charge_in, home, kind_of, object}
use Rattle.s38_rules.specs.families.Instruction.{Instruction}
use Rattle.s38_rules.specs.ask.Operands.{is_given, is_given_in, place, pointer_at, pointer_of, target}
use Rattle.s38_rules.specs.families.Programs.{crtpg, new_program, template_at, template_rule}
use Rattle.s38_rules.specs.state.State.{State}
use Rattle.s38_rules.specs.ask.Users.{user_of}
use Rattle.s38_rules.specs.step.Verdict.{refused_by}
use Rattle.s38_rules.specs.ask.AddressRules.{is_sought, object_rule}
use Rattle.s38_rules.specs.declared.creating.Creating.{Creating}
use Rattle.s38_rules.specs.declared.need.Claim.TheVariants.{Available}
use Rattle.s38_rules.specs.declared.need.Named.TheVariants.{Written}
use Rattle.s38_rules.specs.declared.need.Need.{Need}
use Rattle.s38_rules.specs.declared.need.PointerKind.TheVariants as pointer_kinds
use Rattle.s38_rules.specs.declared.need.Sought.TheVariants.{Container}
use Rattle.s38_rules.specs.declared.object.Body.TheVariants as bodies
use Rattle.s38_rules.specs.declared.object.Body.{Body}
use Rattle.s38_rules.specs.declared.object.Object.{Object}
use Rattle.s38_laws_images.specs.openings.Fitting.{IsUser, is_context_or_gone}
use Rattle.s38_laws_state.proofs.HeadLaws.{created_fits}
use Rattle.s38_laws_state.proofs.FitRowLaws.{IsUsed, FitsIn, pays}

pub true_false : (b : Bool) → b ≡ true → b ≡ false → ⊥
true_false b h g = cc

creation_met : (h : Held) (owner : ℕ) (made : Creating) (own : Option Exception) → 1 ≤ made.pages → creation_fails h owner made own ≡ None → IsUser h owner × (is_taken h made.context.0 made.id ≡ false)
unfolding creation_fails creation_limits
creation_met h owner made own some met =
    let one = first_none (name_rule h made) (first own (creation_limits h owner made.pages)) met in
    let two = first_none own (creation_limits h owner made.pages) one.1 in
    let three = first_none (pages_rule h owner (charge_in h.objects owner + made.pages) 0) (number_rule h) two.1 in
    (pays h owner (charge_in h.objects owner + made.pages) 0 (omega (arith, some)) three.0, fails_none _ exceptions.duplicate_identification made.place one.0)

given_there : (h : Held) (x : Option Operand) (used : Pointer) → pointer_of h x ≡ Some used → is_given_in x ≡ true
given_there h (Some (operands.Ptr p)) used is = refl
given_there h (Some (operands.InSpace base offset attr)) used is = refl
given_there h (Some (operands.Value attr bytes)) used is = cc
given_there h (Some (operands.Receiver attr)) used is = cc
given_there h (Some (operands.Whole number)) used is = cc
given_there h (Some (operands.Word word)) used is = cc
given_there h (Some (operands.Ident id)) used is = cc
given_there h (Some (operands.Text name)) used is = cc
given_there h (Some (operands.Attrs attrs)) used is = cc
given_there h (Some operands.Nothing) used is = cc
given_there h (Some operands.MachineContext) used is = cc
given_there h (Some operands.ContextList) used is = cc
given_there h None used is = cc

-- a need of a context
pub record SeeksContext (need : Need) : Type 0 where
  pub place : need.place ≡ 2
  pub named : need.named ≡ Written
  pub sought : (o : Object) → is_sought need.sought o ≡ true → same_kind kinds.Context (kind_of o.body) ≡ true

sought_met : (need : Need) (x : Option Object) → SeeksContext need → object_rule need x ≡ None → is_context_or_gone x ≡ true
sought_met need None seeks met = refl
sought_met need (Some o) seeks met = seeks.sought o (turned _ (fails_none _ exceptions.object_type_invalid need.place met))
  where
    turned : (b : Bool) → not b ≡ false → b ≡ true
    turned true g = refl
    turned false g = cc

-- what operand 2 names is a context, if it is there
pub context_met : (i : Instruction) (s : State) (p d : ℕ) (t : Request) (need : Need) → FitsIn s s.held → refused_by i s p d t ≡ None → SeeksContext need → (is_given t.operands 2 ≡ true → Contains (i.needs s p d t) need)
    → is_context_or_gone (object s.held (target s.held t.operands 2)) ≡ true
context_met i s p d t need fits met seeks there = by (pointer_at s.held t.operands 2) refl
  where
    by : (x : Option Pointer) → pointer_at s.held t.operands 2 ≡ x → is_context_or_gone (object s.held (target_of x)) ≡ true
    by None is = ap is_context_or_gone fits.unused
    by (Some used) is = sought_met need (object s.held (object_of used)) seeks
        (used_parts i s p d t need 1 used (permitted i s p d t met) (there (given_there s.held (place t.operands 2) used is)) seeks.place (omega arith) seeks.named is).1

pub both_first : (a b : Bool) → (a && b) ≡ true → a ≡ true
both_first true b h = refl
both_first false b h = cc

pub first_of_one : {A : Type 0} (x : A) → Contains (x ∷ []) x
first_of_one x = (0, omega arith, refl)

abbrev pub container : Need
container = record {
  place = 2;
  named = Written;
  pointer = pointer_kinds.System;
  sought = Container;
  rights = record { 0 = rights.insert };
  claim = Available;
  category = Some Change;
}

seeks_container : SeeksContext container
seeks_container = record { place = refl; named = refl; sought = λ o is. both_first _ _ is }

pub container_there : (ops : List Operand) → is_given ops 2 ≡ true → Contains (creation_needs ops) container
unfolding creation_needs
container_there ops given = subst (λ (b : Bool). Contains (cond b (container ∷ []) []) container) (sym given) (first_of_one container)

-- an object of no other kind than contexts and profiles is made in a context, or in none
pub made_in : (i : Instruction) (s : State) (p d : ℕ) (t : Request) (made : Creating) (body : Body) (own : Option Exception) → FitsIn s s.held → refused_by i s p d t ≡ None
    → (is_given t.operands 2 ≡ true → Contains (i.needs s p d t) container) → made.context ≡ home s.held (target s.held t.operands 2) → 1 ≤ made.pages
    → creation_fails s.held (user_of s p) made own ≡ None → ((id : Id) → is_at_home (Some (new_object s.held (user_of s p) made id body)) ≡ false) → FitsIn s (made_by s.held (user_of s p) made (Some body))
made_in i s p d t made body own fits met there in_context some creation away =
    let may = creation_met s.held (user_of s p) made own some creation in
    created_fits (IsUsed s.processes) s.held fits (user_of s p) (target s.held t.operands 2) made body may.0 in_context
    (context_met i s p d t container fits met seeks_container there) (λ id home. absurd (true_false _ home (away id))) may.1

-- a context or a profile is made in the machine context
pub made_at_home : (s : State) (p : ℕ) (made : Creating) (body : Body) (own : Option Exception) → FitsIn s s.held → made.context ≡ home s.held machine_context → 1 ≤ made.pages
    → creation_fails s.held (user_of s p) made own ≡ None → FitsIn s (made_by s.held (user_of s p) made (Some body))
made_at_home s p made body own fits in_context some creation =
    let may = creation_met s.held (user_of s p) made own some creation in
    created_fits (IsUsed s.processes) s.held fits (user_of s p) machine_context made body may.0 in_context (is_one (object s.held machine_context) fits.machine)
    (λ id at_home. ap (λ (n : ObjNum). n.0) in_context ∙ home_is (object s.held machine_context) fits.machine) may.1
  where
    is_one : (x : Option Object) → is_of_kind kinds.Context x ≡ true → is_context_or_gone x ≡ true
    is_one None h = cc
    is_one (Some o) h = h

    home_is : (x : Option Object) → is_of_kind kinds.Context x ≡ true → cond (is_some x) machine_context 0 ≡ machine_context
    home_is None h = cc
    home_is (Some o) h = refl

pub made_program : (s : State) (p d : ℕ) (t : Request) (x : Option Program) → FitsIn s s.held → refused_by crtpg s p d t ≡ None → creation_fails s.held (user_of s p) (new_program s.held t.operands) (template_rule (template_at s t.operands)) ≡ None
    → FitsIn s (made_by s.held (user_of s p) (new_program s.held t.operands) (option_map bodies.Program x))
made_program s p d t None fits met creation = fits
made_program s p d t (Some program) fits met creation =
    made_in crtpg s p d t (new_program s.held t.operands) (bodies.Program program) _ fits met (λ given. container_there t.operands given) refl (omega arith) creation (λ id. refl)
