-- What is checked of a world leaves its state, so that later rules find what they would have found; and on which objects
-- rights are checked, rule by rule.
use Rattle.std.proofs.Common.{◌≡◌, ◌<◌, ◌≤◌, ◌-◌, ◌∙◌, ℕ, Bool, true, false, ◌&&◌, List, [], ◌∷◌, ◌++◌, length, get_or, take, drop, refl, sym, ap, subst, append-nil, arith}
use Rattle.std.proofs.Math.Seq.{take-length}
use Rattle.std.proofs.lemmas.Bool.Decides.{nat_tests}
use Rattle.std.proofs.lemmas.Bool.{and_parts}
use Rattle.std.specs.Prelude.{Option, Some, None, is_some, nat_lt, if◌then◌else◌}
use Rattle.s38_base.specs.declared.exception.Exception.{Exception}
use Rattle.s38_base.specs.declared.id.ObjNum.{ObjNum}
use Rattle.s38_base.specs.declared.rights.Rights.{Rights}
use Rattle.s38_code.specs.declared.operand.Operand.{Operand}
use Rattle.s38_rules.specs.declared.need.Claim.{Claim}
use Rattle.s38_rules.specs.declared.need.Claim.TheVariants.{Granting}
use Rattle.s38_rules.specs.declared.object.Object.{Object}
use Rattle.s38_rules.specs.state.Headers.{public_of}
use Rattle.s38_rules.specs.state.Held.{Held, is_there, object}
use Rattle.s38_rules.specs.state.State.{State}
use Rattle.s38_rules.specs.ask.Users.{acting}
use Rattle.s38_rules.specs.ask.RightsRules.{rights_rule}
use Rattle.s38_verdicts.specs.Asked.{checked_for, checked_on, is_checked, need_checks, needs_check, unless_failed}
use Rattle.s38_verdicts.specs.Resolved.{Each, IsResolved, needs_of}
use Rattle.s38_verdicts.specs.declared.resolved.Resolved.{Resolved}
use Rattle.s38_rights_cache.specs.Places.{AreChecked, IsSteady, is_live}
use Rattle.s38_rights_cache.specs.Worlds.{WorldState}
use Rattle.s38_rights_cache.proofs.AskLaws.{checked_none, checked_state, checked_then}

-- whether an object is there is known by the rights of everybody
pub there_by : (h : Held) (n : ℕ) (public : Option Rights) → public ≡ public_of (object h n) → is_some public ≡ is_there h n
there_by h n public is = ap is_some is ∙ by (object h n)
  where
    by : (x : Option Object) → is_some (public_of x) ≡ is_some x
    by None = refl
    by (Some x) = refl

-- needs that are resolved in a state are so in the same one
pub each_left : (s t : State) (ops : List Operand) (needs : List Resolved) → t ≡ s → Each (IsResolved s.held ops) needs → Each (IsResolved t.held ops) needs
each_left s t ops needs same each = subst (λ (u : State). Each (IsResolved u.held ops) needs) (sym same) each

-- ---- an object

pub checked_there : (s : State) (p d n : ℕ) → is_checked s p d n ≡ true → is_there s.held n ≡ true
checked_there s p d n is = (and_parts (is_there s.held n) (nat_lt 0 d) (and_parts (is_there s.held n && nat_lt 0 d) (is_live s p) is).0).0

pub checked_deep : (s : State) (p d n : ℕ) → is_checked s p d n ≡ true → 0 < d
checked_deep s p d n is =
    let deep = (and_parts (is_there s.held n) (nat_lt 0 d) (and_parts (is_there s.held n && nat_lt 0 d) (is_live s p) is).0).1 in
    grind (arith, nat_tests, deep)

pub checked_live : (s : State) (p d n : ℕ) → is_checked s p d n ≡ true → is_live s p ≡ true
checked_live s p d n is = (and_parts (is_there s.held n && nat_lt 0 d) (is_live s p) is).1

pub checked_now : (w t : WorldState) (p d : ℕ) (o : ObjNum) → is_checked w.state p d o.0 ≡ true → AreChecked w p d (o ∷ []) t → AreChecked w p d (checked_on w.state p d o) t
checked_now w t p d o is checked = subst (λ (b : Bool). AreChecked w p d (if b then o ∷ [] else []) t) (sym is) checked

pub unchecked_now : (w : WorldState) (p d : ℕ) (o : ObjNum) → is_checked w.state p d o.0 ≡ false → IsSteady w → AreChecked w p d (checked_on w.state p d o) w
unchecked_now w p d o is steady = subst (λ (b : Bool). AreChecked w p d (if b then o ∷ [] else []) w) (sym is) (checked_none w p d steady)

-- ---- a need

pub owner_checks : (w : WorldState) (p d : ℕ) (governed : Bool) (os : List ObjNum) → governed ≡ true → IsSteady w → AreChecked w p d (checked_for Granting governed os) w
owner_checks w p d governed os is steady = subst (λ (b : Bool). AreChecked w p d (checked_for Granting b os) w) (sym is) (checked_none w p d steady)

pub other_checks : (w t : WorldState) (p d : ℕ) (governed : Bool) (os : List ObjNum) → governed ≡ false → AreChecked w p d os t → AreChecked w p d (checked_for Granting governed os) t
other_checks w t p d governed os is checked = subst (λ (b : Bool). AreChecked w p d (checked_for Granting b os) t) (sym is) checked

-- a need is resolved
pub need_checked : (w t : WorldState) (p d : ℕ) (claim is : Claim) (governed : Bool) (os : List ObjNum) → claim ≡ is → AreChecked w p d (checked_for is governed os) t
    → AreChecked w p d (checked_for claim governed os) t
need_checked w t p d claim is governed os same checked = subst (λ (c : Claim). AreChecked w p d (checked_for c governed os) t) (sym same) checked

-- ---- rules

pub after_none : (w t : WorldState) (p d : ℕ) (rule : Option Exception) (os : List ObjNum) → rule ≡ None → AreChecked w p d os t → AreChecked w p d (unless_failed rule os) t
after_none w t p d rule os none checked = subst (λ (r : Option Exception). AreChecked w p d (unless_failed r os) t) (sym none) checked

pub after_failure : (w : WorldState) (p d : ℕ) (rule : Option Exception) (x : Exception) (os : List ObjNum) → rule ≡ Some x → IsSteady w → AreChecked w p d (unless_failed rule os) w
after_failure w p d rule x os fails steady = subst (λ (r : Option Exception). AreChecked w p d (unless_failed r os) w) (sym fails) (checked_none w p d steady)

-- the claim of the first need is not met
pub first_fails : (w t : WorldState) (p d : ℕ) (ops : List Operand) (need : Resolved) (more : List Resolved) (x : Exception)
    → rights_rule w.state.held (acting w.state p d) ops need.need ≡ Some x → AreChecked w p d (need_checks w.state p d ops need.need) t
    → AreChecked w p d (needs_check w.state p d ops (needs_of (need ∷ more))) t
first_fails w t p d ops need more x fails checked =
    subst (λ (r : Option Exception). AreChecked w p d (need_checks w.state p d ops need.need ++ unless_failed r (needs_check w.state p d ops (needs_of more))) t) (sym fails)
    (subst (λ (os : List ObjNum). AreChecked w p d os t) (sym (append-nil (need_checks w.state p d ops need.need))) checked)

-- it is met
pub first_met : (w x t : WorldState) (p d : ℕ) (ops : List Operand) (need : Resolved) (more : List Resolved)
    → rights_rule w.state.held (acting w.state p d) ops need.need ≡ None → AreChecked w p d (need_checks w.state p d ops need.need) x
    → AreChecked x p d (needs_check x.state p d ops (needs_of more)) t → AreChecked w p d (needs_check w.state p d ops (needs_of (need ∷ more))) t
first_met w x t p d ops need more met first rest =
    let later : AreChecked x p d (needs_check w.state p d ops (needs_of more)) t =
    subst (λ (s : State). AreChecked x p d (needs_check s p d ops (needs_of more)) t) (checked_state w x p d (need_checks w.state p d ops need.need) first) rest in
    subst (λ (r : Option Exception). AreChecked w p d (need_checks w.state p d ops need.need ++ unless_failed r (needs_check w.state p d ops (needs_of more))) t) (sym met)
    (checked_then w x t p d (need_checks w.state p d ops need.need) (needs_check w.state p d ops (needs_of more)) first later)

-- the same of the first of several needs
pub first_left : (w x t : WorldState) (p d : ℕ) (ops : List Operand) (needs : List Resolved) (default : Resolved) → 1 ≤ length needs
    → rights_rule w.state.held (acting w.state p d) ops (get_or needs 0 default).need ≡ None → AreChecked w p d (need_checks w.state p d ops (get_or needs 0 default).need) x
    → AreChecked x p d (needs_check x.state p d ops (needs_of (take (length needs - 1) (drop 1 needs)))) t → AreChecked w p d (needs_check w.state p d ops (needs_of needs)) t
first_left w x t p d ops [] default some met first rest = absurd (omega (arith, some))
first_left w x t p d ops (need ∷ more) default some met first rest =
    let count : length (need ∷ more) - 1 ≡ length more = omega arith in
    let left : take (length (need ∷ more) - 1) more ≡ more = ap (λ (k : ℕ). take k more) count ∙ take-length more in
    first_met w x t p d ops need more met first (subst (λ (rs : List Resolved). AreChecked x p d (needs_check x.state p d ops (needs_of rs)) t) left rest)
