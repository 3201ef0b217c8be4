-- Where no way to a right is open for the users that act, an instruction that no rule refuses opens none, whatever it
-- changes and gives.
use Rattle.std.proofs.Common.{◌<◌, ◌==◌, ◌∙◌, ◌≡◌, Bool, List, [], ap, arith, bit_or, cond, false, refl, subst, sym, true, ℕ}
use Rattle.std.proofs.lemmas.Bool.{cond_both, true≢false}
use Rattle.std.proofs.lemmas.List.Elements.{All-head, All-nil, All-weaker}
use Rattle.std.proofs.lemmas.List.Folds.{list_any_none}
use Rattle.std.proofs.lemmas.Nat.Bits.{bit_at_and}
use Rattle.std.specs.Int.{bit_at}
use Rattle.std.specs.Option.{option_map}
use Rattle.std.specs.Prelude.{◌-◌, ◌^◌, All, ◌&&◌, IfSome, None, Option, Some, bit_and, not}
use Rattle.s38_base.specs.Exceptions as exceptions
use Rattle.s38_base.specs.Pointers.{carried_in, offset_of, target_of}
use Rattle.s38_base.specs.RightNames as rights
use Rattle.s38_base.specs.Signals.{fails}
use Rattle.s38_base.specs.declared.id.Id.{Id}
use Rattle.s38_base.specs.declared.id.Kind.TheVariants as kinds
use Rattle.s38_base.specs.declared.id.ObjNum.{ObjNum}
use Rattle.s38_base.specs.declared.op.Op.TheVariants.{Crtcb, Crtcr, Crtctx, Crtds, Crtinx, Crtjp, Crtjs, Crtpg, Crtq, Crts, Crtup, Desup, Grant, Modup, Retract, Rslvsp, Setdp, Setspfp, Setsppfp, Xfro}
use Rattle.s38_base.specs.declared.op.Op.{Op}
use Rattle.s38_base.specs.declared.pointer.Pointer.TheVariants as pointers
use Rattle.s38_base.specs.declared.pointer.Pointer.{Pointer}
use Rattle.s38_code.specs.Operations.{classes, family_of, made_kind}
use Rattle.s38_code.specs.declared.event.Request.{Request}
use Rattle.s38_code.specs.declared.operand.Operand.{Operand}
use Rattle.s38_code.specs.declared.program.Program.{Program}
use Rattle.s38_rules.proofs.RowLaws.{row_read, rows_kept}
use Rattle.s38_rules.proofs.RuleLaws.{fails_none, first_none, not_false}
use Rattle.s38_rules.specs.ask.Authority.{available, has_special, is_governed, is_special, lacks_special, missing}
use Rattle.s38_rules.specs.families.Changes.{done, made_by}
use Rattle.s38_rules.specs.families.Computing.{receiver_at, shift_at}
use Rattle.s38_rules.specs.families.Locking.{locks_row}
use Rattle.s38_rules.specs.declared.object.Body.TheVariants as bodies
use Rattle.s38_rules.specs.families.Contexts.{contexts_row}
use Rattle.s38_rules.specs.families.Creation.{creation_gives, new_pointer}
use Rattle.s38_rules.specs.step.Effect.{effect}
use Rattle.s38_rules.specs.families.Grants.{grant, grant_changes, grant_needs, grants_row, retract_changes, xfro, xfro_changes, xfro_needs}
use Rattle.s38_rules.specs.families.Grantees.{rights_of, user_at, user_needs, with_rights}
use Rattle.s38_rules.specs.state.Held.{Held, object}
use Rattle.s38_rules.specs.families.Instruction.{Instruction}
use Rattle.s38_rules.specs.ask.Needs.{on_object}
use Rattle.s38_rules.specs.ask.Operands.{attr_at, is_given, pointer_at, rights_at, target}
use Rattle.s38_rules.specs.state.PrivateRows.{row_of}
use Rattle.s38_rules.specs.families.Profiles.{crtup, modup, profiles_row}
use Rattle.s38_rules.specs.families.Programs.{program_in, programs_row, template_at}
use Rattle.s38_rules.specs.families.DataSpaces.{data_spaces_row}
use Rattle.s38_rules.specs.families.Indexes.{indexes_row}
use Rattle.s38_rules.specs.families.Journals.{journals_row}
use Rattle.s38_rules.specs.families.Queues.{queues_row}
use Rattle.s38_rules.specs.families.Resolving.{carried_rights, num_of, pointer_to, resolved, resolving_row, rslvsp, rslvsp_fails, rslvsp_gives, setspfp_gives}
use Rattle.s38_rules.specs.families.Rows.{row, row_in}
use Rattle.s38_rules.specs.families.Spaces.{length_at, spaces_row}
use Rattle.s38_rules.specs.families.SpacePointers.{setdp, setdp_gives, setdp_needs, setsppfp, setsppfp_gives, setsppfp_needs}
use Rattle.s38_rules.specs.state.Access.{access_of, granted, on_access, owned_by, with_access}
use Rattle.s38_rules.specs.state.State.{State}
use Rattle.s38_rules.specs.ask.Users.{acting}
use Rattle.s38_rules.specs.step.Verdict.{refused_by}
use Rattle.s38_rules.specs.ask.RightsRules.{carried_for, granting_rule, rights_rule}
use Rattle.s38_rules.specs.ask.AddressRules.{is_pointer}
use Rattle.s38_rules.specs.declared.creating.Creating.{Creating}
use Rattle.s38_rules.specs.declared.need.Claim.TheVariants.{Available}
use Rattle.s38_rules.specs.declared.need.Located.{Located}
use Rattle.s38_rules.specs.declared.need.Named.TheVariants.{Written}
use Rattle.s38_rules.specs.declared.need.Need.{Need}
use Rattle.s38_rules.specs.declared.need.PointerKind.TheVariants as pointer_kinds
use Rattle.s38_rules.specs.declared.need.Sought.TheVariants.{Of}
use Rattle.s38_rules.specs.declared.object.Object.{Object}
use Rattle.s38_laws_confinement.proofs.PlainLaws.{delivered_keeps, plain_keeps}
use Rattle.s38_laws_confinement.proofs.PointerLaws.{pointer_kept, resized_of}
use Rattle.s38_laws_confinement.proofs.RightLaws.{IsPermitted, has_or, lacking, lacks_both, lacks_by, lacks_none, not_lacking, passed, permitted, subject_lacks, ungoverned, used_parts}
use Rattle.s38_laws_confinement.proofs.AccessLaws.{GivesNoMore, Lessens, access_lessens, creation_lessens, destroyed_lessens, kept_lessens, lessens_same, lessens_then, nat_same}
use Rattle.s38_laws_confinement.specs.NoWay.{HasNoWay, IsHarmless, Lacks, NoWay, space_right}
use Rattle.s38_laws_confinement.specs.OfPointers.{IsClosed, OfCell, OfOperand, OfPointer, OfVal, OfVals}
use Rattle.s38_laws_confinement.specs.Plain.{asks_plainly, is_plain, makes_pointer}

-- ---- a new object

new_harmless : (h : Held) (id : Option Id) (o r : ℕ) → OfPointer (IsHarmless o r) (new_pointer h id)
new_harmless h None o r = tt
new_harmless h (Some id) o r = record { carries = λ to. lacks_none r; lies = λ to space. refl }

-- a pointer to a new object carries nothing
created_harmless : (h : Held) (made : Creating) (o r : ℕ) → OfVal (IsHarmless o r) (creation_gives h made)
unfolding creation_gives
created_harmless h made o r = new_harmless h made.id o r

-- ---- RSLVSP

-- rights that are available do not have the one that is lacking
asked_lacks : (h : Held) (acts : List ℕ) (word n o r : ℕ) → NoWay h acts o r → n ≡ o
    → cond (word == rights.no_rights) None (missing 0 (bit_or rights.autptr word) (available h acts n rights.no_rights)) ≡ None → Lacks r word
asked_lacks h acts word n o r closed to rule =
    elim (word == rights.no_rights) as (λ b. (word == rights.no_rights) ≡ b → cond b None (missing 0 (bit_or rights.autptr word) (available h acts n rights.no_rights)) ≡ None → Lacks r word) [
      | true ↦ λ q e. subst (Lacks r) (sym (nat_same word rights.no_rights q)) (lacks_none r)
      | false ↦ λ q e. lacks_by word r (λ has. not_lacking 0 (bit_or rights.autptr word) (available h acts n rights.no_rights) r e (has_or rights.autptr word r has)
          (subst (λ i. Lacks r (available h acts i rights.no_rights)) (sym to) (lacking h acts o r rights.no_rights closed (lacks_none r))))
    ] refl rule

found_harmless : (h : Held) (acts : List ℕ) (word o r : ℕ) (found : Option Located) → NoWay h acts o r → carried_rights h acts word found ≡ None → OfPointer (IsHarmless o r) (pointer_to word found)
found_harmless h acts word o r None closed e = tt
found_harmless h acts word o r (Some l) closed e = record { carries = λ to. asked_lacks h acts word l.object.0 o r closed to e; lies = λ to space. refl }

-- what a pointer is to carry is available
resolved_harmless : (s : State) (p d : ℕ) (ops : List Operand) (o r : ℕ) → NoWay s.held (acting s p d) o r → rslvsp_fails s p d ops ≡ None → OfVal (IsHarmless o r) (rslvsp_gives s p d ops)
unfolding rslvsp_fails rslvsp_gives
resolved_harmless s p d ops o r closed e = found_harmless s.held (acting s p d) (rights_at ops 4) o r (resolved s p d ops) closed e

-- ---- SETSPFP

plain_harmless : (o r : ℕ) (x : Option Pointer) → OfPointer (IsHarmless o r) (option_map (λ p. pointers.System (num_of p) (record { 0 = rights.no_rights })) x)
plain_harmless o r None = tt
plain_harmless o r (Some p) = record { carries = λ to. lacks_none r; lies = λ to space. refl }

-- ---- SETSPPFP

first_byte_harmless : (o r : ℕ) (x : Option Pointer) → (target_of x ≡ o → r ≡ space_right → ⊥) → OfPointer (IsHarmless o r) (option_map (λ p. pointers.Space (num_of p) 0) x)
first_byte_harmless o r None refused = tt
first_byte_harmless o r (Some p) refused = record { carries = λ to. lacks_none r; lies = λ to space. absurd (refused to space) }

space_has : (r : ℕ) → r ≡ space_right → bit_at rights.space r ≡ 1
space_has r e = rw e refl

-- the right over the space is available
space_harmless : (s : State) (p d : ℕ) (t : Request) (o r : ℕ) → NoWay s.held (acting s p d) o r → All (OfOperand (IsHarmless o r)) t.operands → IsPermitted setsppfp s p d t
    → OfVal (IsHarmless o r) (setsppfp_gives s.held t.operands)
unfolding setsppfp_gives setsppfp_needs rights_rule
space_harmless s p d t o r closed asked may =
    let carried : ℕ = carried_for s.held t.operands 2 Written in
    let there : ℕ = available s.held (acting s p d) (target s.held t.operands 2) carried in
    let rule : missing 2 rights.space there ≡ None = All-head (λ need. rights_rule s.held (acting s p d) t.operands need ≡ None) _ [] may.rights in
    first_byte_harmless o r (pointer_at s.held t.operands 2) (λ to space. not_lacking 2 rights.space there r rule (space_has r space)
    (subject_lacks s.held (acting s p d) t.operands 2 Written o r closed asked to))

-- ---- SETDP

one_kind : (p : Pointer) → is_pointer pointer_kinds.Space p ≡ true → is_pointer pointer_kinds.System p ≡ true → ⊥
one_kind (pointers.System n carried) space system = cc
one_kind _ space system = cc

abbrev space_used : Need
space_used = record { place = 2; named = Written; pointer = pointer_kinds.Space; sought = Of kinds.Space; rights = record { 0 = rights.no_rights }; claim = Available; category = None }

-- a pointer to an item comes of a space pointer
item_harmless : (s : State) (p d : ℕ) (t : Request) (o r : ℕ) → NoWay s.held (acting s p d) o r → All (OfOperand (IsHarmless o r)) t.operands → IsPermitted setdp s p d t
    → OfVal (IsHarmless o r) (setdp_gives s.held t.operands)
unfolding setdp_gives setdp_needs
item_harmless s p d t o r closed asked may = by (pointer_at s.held t.operands 2) refl (pointer_kept (IsHarmless o r) s.held t.operands 2 closed.spaces asked)
  where
    by : (x : Option Pointer) → pointer_at s.held t.operands 2 ≡ x → OfPointer (IsHarmless o r) x
        → OfPointer (IsHarmless o r) (option_map (λ b. pointers.Item (num_of b) (offset_of b) (attr_at t.operands 3)) x)
    by None is harmless = tt
    by (Some base) is harmless =
        let parts = used_parts setdp s p d t space_used 1 base may (0, omega arith, refl) refl (omega arith) refl is in
        record { carries = λ to. lacks_none r; lies = λ to space. absurd (one_kind base parts.0 (harmless.lies to space)) }

-- ---- GRANT, RETRACT and XFRO

-- the rights of a user's row, or of everybody, become others that have no more of the right
rights_more : (r : ℕ) (given : Bool) (user : ObjNum) (new : ℕ → ℕ) (x : Object) → ((n : ℕ) → Lacks r n → Lacks r (new n))
    → GivesNoMore r (Some x) (Some (with_access (with_rights given user (new (rights_of given user (access_of x))) (access_of x)) x))
rights_more r true user new x lacks = record {
  owner = λ other free. free;
  row = λ other a none. subst (Lacks r) (sym (row_read x.rows user (record { 0 = new (row_of x.rows user.0) }) other a))
      (cond_both (user.0 == other) (new (row_of x.rows user.0)) (row_of x.rows other) (Lacks r)
      (λ q. lacks (row_of x.rows user.0) (subst (λ n. Lacks r (row_of x.rows n)) (sym (nat_same user.0 other q)) none)) (λ q. none));
  everybody = λ none. none;
  rows = λ a. rows_kept x.rows user (record { 0 = new (row_of x.rows user.0) }) a;
}
rights_more r false user new x lacks = record { owner = λ other free. free; row = λ other a none. none; everybody = λ none. lacks x.public.0 none; rows = λ a. a }

-- who does not govern an object gives of it only what is available
granting_lacks : (governed : Bool) (k given there r : ℕ) → governed ≡ false → granting_rule governed k given there ≡ None → Lacks r there → Lacks r given
granting_lacks true k given there r free rule none = cc
granting_lacks false k given there r free rule none =
    lacks_by given r (λ has. not_lacking k (bit_or rights.objmgt given) there r (first_none _ _ rule).0 (has_or rights.objmgt given r has) none)

rights_lessens : (h : Held) (n : ℕ) (given : Bool) (user : ObjNum) (new : ℕ → ℕ) (o r : ℕ) → (n ≡ o → (x : Object) → object h o ≡ Some x → (old : ℕ) → Lacks r old → Lacks r (new old))
    → Lessens h (on_access h n (λ z. with_rights given user (new (rights_of given user z)) z)) o r
rights_lessens h n given user new o r lacks =
    access_lessens h n (λ z. with_rights given user (new (rights_of given user z)) z) o r (λ same x found. rights_more r given user new x (lacks same x found))

grant_lessens : (s : State) (p d : ℕ) (t : Request) (o r : ℕ) → NoWay s.held (acting s p d) o r → All (OfOperand (IsHarmless o r)) t.operands → IsPermitted grant s p d t
    → Lessens s.held (done s p (grant_changes s.held t.operands)).held o r
unfolding grant_needs rights_rule
grant_lessens s p d t o r closed asked may =
    let ops = t.operands in
    let n = target s.held ops 1 in
    let there = available s.held (acting s p d) n (carried_in (pointer_at s.held ops 1)) in
    let rule : granting_rule (is_governed s.held n (acting s p d)) 1 (rights_at ops 3) there ≡ None =
    All-head (λ need. rights_rule s.held (acting s p d) ops need ≡ None) _ (user_needs ops 2) may.rights in
    rights_lessens s.held n (is_given ops 2) (user_at s.held ops 2) (λ old. bit_or old (rights_at ops 3)) o r (λ same x found old none. lacks_both old (rights_at ops 3) r none
    (granting_lacks (is_governed s.held n (acting s p d)) 1 (rights_at ops 3) there r (ap (λ m. is_governed s.held m (acting s p d)) same ∙ ungoverned s.held (acting s p d) o r x found closed) rule
    (subject_lacks s.held (acting s p d) ops 1 Written o r closed asked same)))

lacks_common : (r a b : ℕ) → Lacks r a → Lacks r (bit_and a b)
lacks_common r a b none = omega (arith, bit_at_and a b r, none)

retract_lessens : (s : State) (p : ℕ) (ops : List Operand) (o r : ℕ) → Lessens s.held (done s p (retract_changes s.held ops)).held o r
retract_lessens s p ops o r = rights_lessens s.held (target s.held ops 1) (is_given ops 2) (user_at s.held ops 2) (λ n. bit_and n (2 ^ 8 - 1 - rights_at ops 3)) o r
    (λ same x found n none. lacks_common r n (2 ^ 8 - 1 - rights_at ops 3) none)

-- who does not govern the object does not give it away
xfro_lessens : (s : State) (p d : ℕ) (t : Request) (o r : ℕ) → NoWay s.held (acting s p d) o r → IsPermitted xfro s p d t → Lessens s.held (done s p (xfro_changes s.held t.operands)).held o r
unfolding xfro_needs rights_rule
xfro_lessens s p d t o r closed may =
    let ops = t.operands in
    let n = target s.held ops 1 in
    let rule : fails (not (is_governed s.held n (acting s p d))) exceptions.ownership_required 1 ≡ None =
    All-head (λ need. rights_rule s.held (acting s p d) ops need ≡ None) _ (on_object 2 (Of kinds.Profile) rights.no_rights None) may.rights in
    let owned = not_false _ (fails_none _ _ _ rule) in
    access_lessens s.held n (λ z. owned_by (user_at s.held ops 2) (granted (user_at s.held ops 2) (record { 0 = rights.all_rights }) z)) o r
    (λ same x found. absurd (true≢false (sym owned ∙ ap (λ m. is_governed s.held m (acting s p d)) same ∙ ungoverned s.held (acting s p d) o r x found closed)))

-- ---- CRTUP and MODUP

-- the acting users lack the special authority over profiles
profile_lacked : (h : Held) (acting : List ℕ) (o r : ℕ) → NoWay h acting o r → lacks_special h acting rights.profile ≡ None → ⊥
unfolding lacks_special
profile_lacked h acting o r closed e =
    let none : is_special h acting rights.profile ≡ false =
    list_any_none (has_special h rights.profile) acting (All-weaker (HasNoWay h o r) (λ u. has_special h rights.profile u ≡ false) (λ u has. has.profiles) acting closed.nobody) in
    true≢false (sym (passed (is_special h acting rights.profile) None _ e).0 ∙ none)

-- ---- the rows

-- harm does not hang on the byte to which a space pointer points
pub harmless_closed : (o r : ℕ) → IsClosed (IsHarmless o r)
harmless_closed o r object offset other harmless = record { carries = harmless.carries; lies = harmless.lies }

program_lessens : (h : Held) (owner : ℕ) (made : Creating) (program : Option Program) (o r : ℕ) → o < h.next → Lessens h (made_by h owner made (option_map bodies.Program program)) o r
program_lessens h owner made None o r given = lessens_same h o r
program_lessens h owner made (Some program) o r given = creation_lessens h owner made (bodies.Program program) o r given refl tt

-- those that make an object or a pointer, destroy a user, or change who may do what
others_shut : (op : Op) (s : State) (p d : ℕ) (t : Request) (o r : ℕ) → (not (makes_pointer op) && is_plain ((row op).changes s p d t)) ≡ false → NoWay s.held (acting s p d) o r
    → All (OfOperand (IsHarmless o r)) t.operands → refused_by (row op) s p d t ≡ None → Lessens s.held (done s p ((row op).changes s p d t)).held o r × IfSome ((row op).gives s p d t) (OfVal (IsHarmless o r))
unfolding row_in family_of classes made_kind contexts_row profiles_row grants_row resolving_row programs_row spaces_row queues_row indexes_row data_spaces_row journals_row locks_row setspfp_gives
others_shut Crtctx s p d t o r other closed asked e = (creation_lessens s.held _ _ _ o r closed.given refl tt, created_harmless s.held _ o r)
others_shut Crtpg s p d t o r other closed asked e = (program_lessens s.held _ _ (program_in (template_at s t.operands)) o r closed.given, created_harmless s.held _ o r)
others_shut Crts s p d t o r other closed asked e =
    (creation_lessens s.held _ _ _ o r closed.given refl (resized_of (IsHarmless o r) (length_at s t.operands 5) [] (All-nil (OfCell (IsHarmless o r)))), created_harmless s.held _ o r)
others_shut Crtq s p d t o r other closed asked e = (creation_lessens s.held _ _ _ o r closed.given refl tt, created_harmless s.held _ o r)
others_shut Crtinx s p d t o r other closed asked e = (creation_lessens s.held _ _ _ o r closed.given refl tt, created_harmless s.held _ o r)
others_shut Crtds s p d t o r other closed asked e = (creation_lessens s.held _ _ _ o r closed.given refl tt, created_harmless s.held _ o r)
others_shut Crtcr s p d t o r other closed asked e = (creation_lessens s.held _ _ _ o r closed.given refl tt, created_harmless s.held _ o r)
others_shut Crtjs s p d t o r other closed asked e = (creation_lessens s.held _ _ _ o r closed.given refl tt, created_harmless s.held _ o r)
others_shut Crtjp s p d t o r other closed asked e = (creation_lessens s.held _ _ _ o r closed.given refl tt, created_harmless s.held _ o r)
others_shut Crtcb s p d t o r other closed asked e = (creation_lessens s.held _ _ _ o r closed.given refl tt, created_harmless s.held _ o r)
others_shut Crtup s p d t o r other closed asked e = absurd (profile_lacked s.held (acting s p d) o r closed (permitted crtup s p d t e).special)
others_shut Modup s p d t o r other closed asked e = absurd (profile_lacked s.held (acting s p d) o r closed (permitted modup s p d t e).special)
others_shut Desup s p d t o r other closed asked e = (destroyed_lessens s.held kinds.Profile (target s.held t.operands 1) o r, tt)
others_shut Grant s p d t o r other closed asked e = (grant_lessens s p d t o r closed asked (permitted grant s p d t e), tt)
others_shut Retract s p d t o r other closed asked e = (retract_lessens s p t.operands o r, tt)
others_shut Xfro s p d t o r other closed asked e = (xfro_lessens s p d t o r closed (permitted xfro s p d t e), tt)
others_shut Rslvsp s p d t o r other closed asked e = (lessens_same s.held o r, resolved_harmless s p d t.operands o r closed (permitted rslvsp s p d t e).fails)
others_shut Setspfp s p d t o r other closed asked e = (lessens_same s.held o r, plain_harmless o r (pointer_at s.held t.operands 2))
others_shut Setsppfp s p d t o r other closed asked e = (lessens_same s.held o r, space_harmless s p d t o r closed asked (permitted setsppfp s p d t e))
others_shut Setdp s p d t o r other closed asked e = (lessens_same s.held o r, item_harmless s p d t o r closed asked (permitted setdp s p d t e))
others_shut _ s p d t o r other closed asked e = cc

-- and what is asked plainly
row_shut : (s : State) (p d : ℕ) (t : Request) (o r : ℕ) → NoWay s.held (acting s p d) o r → All (OfOperand (IsHarmless o r)) t.operands → refused_by (row t.op) s p d t ≡ None
    → Lessens s.held (done s p ((row t.op).changes s p d t)).held o r × IfSome ((row t.op).gives s p d t) (OfVal (IsHarmless o r))
row_shut s p d t o r closed asked e = by (asks_plainly s p d t) refl
  where
    by : (b : Bool) → asks_plainly s p d t ≡ b → Lessens s.held (done s p ((row t.op).changes s p d t)).held o r × IfSome ((row t.op).gives s p d t) (OfVal (IsHarmless o r))
    by false other = others_shut t.op s p d t o r other closed asked e
    by true plainly =
        let kept = plain_keeps (IsHarmless o r) (harmless_closed o r) s p d t plainly closed.spaces asked in
        (kept_lessens s.held _ o r kept.0, kept.1)

-- what an effect leaves opens no way, and neither does what it gives
pub effect_lessens : (s : State) (p d : ℕ) (t : Request) (o r : ℕ) → NoWay s.held (acting s p d) o r → All (OfOperand (IsHarmless o r)) t.operands → refused_by (row t.op) s p d t ≡ None
    → Lessens s.held (effect (row t.op) s p d t).state.held o r × OfVals (IsHarmless o r) (effect (row t.op) s p d t).values
unfolding effect
effect_lessens s p d t o r closed asked e =
    let after = done s p ((row t.op).changes s p d t) in
    let shut = row_shut s p d t o r closed asked e in
    let last = delivered_keeps (IsHarmless o r) after (shift_at s.held t.op t.operands) (receiver_at t.op t.operands) ((row t.op).gives s p d t) shut.1 in
    (lessens_then s.held after.held _ o r shut.0 (kept_lessens after.held _ o r last.0), last.1)
