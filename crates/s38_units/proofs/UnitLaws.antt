-- What a change that is logged leaves, how many units are open, and how units are taken back one
-- after another.
use Rattle.std.proofs.Common.{◌≡◌, ℕ, zero, suc, ◌==◌, ◌<◌, ◌≤◌, true, false, cond, List, [], ◌∷◌, refl, sym, ◌∙◌, ap, arith, get_or, length}
use Rattle.std.specs.Prelude.{Option, Some, None, Result, Ok, Err, OnOk, filter, if◌then◌else◌, take}
use Rattle.std.specs.Ordering.{nat_cmp}
use Rattle.std.specs.Map.{keys_of}
use Rattle.std.specs.BTreeMap.{is_at}
use Rattle.s38_commits.specs.declared.change.UnitChange.{UnitChange}
use Rattle.s38_base.specs.declared.fault.NoMemory.{NoMemory}
use Rattle.s38_commits.specs.Unit.{CommitUnit}
use Rattle.s38_commits.specs.Units.{BlocksRise, UnitMap, above, ended, next_block, unit_of}
use Rattle.s38_commits.proofs.WalkLaws.{ended_above, next_none, next_some}
use Rattle.s38_commits.proofs.MapLaws.{at_key}
use Rattle.s38_commits.proofs.FirstLaws.{first_none, first_some}
use Rattle.s38_rules.specs.families.Changing.{logged}
use Rattle.s38_rules.specs.state.Held.{Held}
use Rattle.s38_rules.specs.state.Journaling.{journal_for, open_units, unit_goes_to}
use Rattle.s38_rules.specs.state.State.{State}
use Rattle.s38_rules.specs.families.Units.{all_decommitted, all_undone, decommitted, decommitted_of, undone}
use Rattle.s38_units.specs.Blocks.{leads_to}
use Rattle.s38_units.specs.Logging.{objects_logged, units_logged}
use Rattle.s38_units.specs.Ends.{is_unit_of, taken_back}

some_none : {A : Type 0} (x : A) → Some x ≡ None → ⊥
some_none x h = cc

-- ---- changes logged

-- a change that is logged, or refused for want of memory
pub logged_ok : (s : State) (p block journal : ℕ) (change : UnitChange) (r : Result (Unit {0}) NoMemory) (h : Held) (units : UnitMap) → journal_for s.held change.space.0 ≡ Some journal
    → OnOk r (h ≡ objects_logged s.held s.units p block change journal) → OnOk r (units ≡ units_logged s.held s.units p block change journal)
    → OnOk r (record s { held = h; units = units } ≡ logged s p block change)
unfolding logged
logged_ok s p block journal change (Ok x) h units there objects joined = rw (there, objects, joined) refl
logged_ok s p block journal change (Err e) h units there objects joined = tt

-- ---- how many units are open

-- by the blocks alone
pub count_blocks : (h : Held) (units : UnitMap) (journal : ℕ) → length (filter (leads_to h journal) (keys_of units)) ≡ open_units h units journal
unfolding leads_to
count_blocks h [] journal = refl
count_blocks h (e ∷ es) journal =
    let rest = count_blocks h es journal in
    elim (leads_to h journal e.0) as (λ b. length (cond b (e.0 ∷ filter (leads_to h journal) (keys_of es)) (filter (leads_to h journal) (keys_of es)))
    ≡ length (cond b (e ∷ filter (unit_goes_to h journal) es) (filter (unit_goes_to h journal) es))) [
      | true ↦ ap suc rest
      | false ↦ rest
    ]

more_few : (a b : ℕ) → a ≤ b → a ≤ suc b
more_few a b few = omega (arith, few)

pub few_blocks : (h : Held) (journal : ℕ) (blocks : List ℕ) → length (filter (leads_to h journal) blocks) ≤ length blocks
few_blocks h journal [] = omega arith
few_blocks h journal (b ∷ bs) =
    let rest = few_blocks h journal bs in
    elim (leads_to h journal b) as (λ t. length (cond t (b ∷ filter (leads_to h journal) bs) (filter (leads_to h journal) bs)) ≤ suc (length bs)) [
      | true ↦ omega (arith, rest)
      | false ↦ more_few _ _ rest
    ]

-- ---- changes taken back

-- of the changes up to a place the newest is taken back first
pub undone_newest : (h : Held) (changes : List UnitChange) (k : ℕ) (change : UnitChange) → k < length changes → change ≡ get_or changes k change
    → all_undone (undone h change) (take k changes) ≡ all_undone h (take (suc k) changes)
unfolding all_undone
undone_newest h [] k change within is = absurd (omega (arith, within))
undone_newest h (c ∷ changes) zero change within is = rw (← is) refl
undone_newest h (c ∷ changes) (suc k) change within is =
    let inner : k < length changes = omega (arith, within) in
    ap (λ (x : Held). undone x c) (undone_newest h changes k change inner is)

-- without a unit of the block none ends
pub ended_none : (units : UnitMap) (block : ℕ) → unit_of units block ≡ None → ended units block ≡ units
ended_none [] block none = refl
ended_none (e ∷ es) block none =
    let rest = ended_none es block in
    let at : is_at (nat_cmp block) e.0 ≡ (e.0 == block) = at_key block e.0 in
    let found : cond (e.0 == block) (Some e.1) (unit_of es block) ≡ None = rw at at none in
    rw at
    (elim (e.0 == block) as (λ b. cond b (Some e.1) (unit_of es block) ≡ None → cond b es (e ∷ ended es block) ≡ e ∷ es) [
      | true ↦ λ q. absurd (some_none e.1 q)
      | false ↦ λ q. ap (λ (fs : UnitMap). e ∷ fs) (rest q)
    ] found)

-- ---- units taken back

taken_units : (s : State) (p block : ℕ) → above block (taken_back s p block).units ≡ above block s.units
taken_units s p block = by (unit_of s.units block)
  where
    by : (u : Option CommitUnit) → above block (if is_unit_of p u then decommitted s p block u else s).units ≡ above block s.units
    by None = refl
    by (Some u) =
        elim (u.process == p) as (λ b. above block (if b then decommitted s p block (Some u) else s).units ≡ above block s.units) [
          | true ↦ ended_above s.units block block (omega arith)
          | false ↦ refl
        ]

taken_is : (s : State) (p block : ℕ) (unit : CommitUnit) → unit_of s.units block ≡ Some unit → taken_back s p block ≡ decommitted_of s p (block, unit)
taken_is s p block unit there = rw there refl

taken_none : (s : State) (p block : ℕ) → unit_of s.units block ≡ None → taken_back s p block ≡ s
taken_none s p block none = rw none refl

-- all units but that of a block that ended before are left
pub taken_first : (s : State) (p : ℕ) → BlocksRise s.units → all_decommitted s p s.units ≡ all_decommitted (taken_back s p 0) p (above 0 (taken_back s p 0).units)
unfolding all_decommitted
taken_first s p rising = by (unit_of s.units 0) refl
  where
    by : (u : Option CommitUnit) → unit_of s.units 0 ≡ u → all_decommitted s p s.units ≡ all_decommitted (taken_back s p 0) p (above 0 (taken_back s p 0).units)
    by None is =
        ap (all_decommitted s p) (sym (first_none s.units rising is))
        ∙ ap (λ (t : State). all_decommitted t p (above 0 t.units)) (sym (taken_none s p 0 is))
    by (Some u) is =
        ap (all_decommitted s p) (first_some s.units u rising is)
        ∙ ap (λ (t : State). all_decommitted t p (above 0 s.units)) (sym (taken_is s p 0 u is))
        ∙ ap (all_decommitted (taken_back s p 0) p) (sym (taken_units s p 0))

pub taken_next : (s : State) (p after block : ℕ) → BlocksRise s.units → next_block s.units after ≡ Some block
    → all_decommitted s p (above after s.units) ≡ all_decommitted (taken_back s p block) p (above block (taken_back s p block).units)
unfolding all_decommitted
taken_next s p after block rising is =
    let next = next_some s.units after block rising is in
    ap (all_decommitted s p) next.above
    ∙ ap (λ (t : State). all_decommitted t p (above block s.units)) (sym (taken_is s p block next.unit next.stands))
    ∙ ap (all_decommitted (taken_back s p block) p) (sym (taken_units s p block))

pub taken_last : (s : State) (p after : ℕ) → next_block s.units after ≡ None → all_decommitted s p (above after s.units) ≡ s
unfolding all_decommitted
taken_last s p after none = ap (all_decommitted s p) (next_none s.units after none)

-- ---- what stays

stays_of : (s : State) (p : ℕ) (e : ℕ × CommitUnit) → (decommitted_of s p e).processes ≡ s.processes
stays_of s p e =
    elim (e.1.process == p) as (λ b. (if b then decommitted s p e.0 (Some e.1) else s).processes ≡ s.processes) [
      | true ↦ refl
      | false ↦ refl
    ]

-- the processes stay as they are
pub processes_stay : (s : State) (p : ℕ) (units : UnitMap) → (all_decommitted s p units).processes ≡ s.processes
unfolding all_decommitted
processes_stay s p [] = refl
processes_stay s p (e ∷ units) = processes_stay (decommitted_of s p e) p units ∙ stays_of s p e
