-- A unit that is begun for a change, and ended again where memory was refused.
use Rattle.std.proofs.Common.{◌≡◌, ℕ, Bool, true, false, cond, List, [], ◌∷◌, refl, sym, ◌∙◌, ap, subst}
use Rattle.std.specs.Prelude.{Option, Some, None, ◌||◌, find}
use Rattle.std.specs.Option.{IsSome, option_and_then, option_map, unwrap_or}
use Rattle.std.specs.List.{list_any}
use Rattle.std.specs.Map.{lookup, remove_entry, values_of}
use Rattle.std.specs.declared.cmp.Ordering.{Ordering}
use Rattle.std.specs.declared.cmp.Ordering.TheVariants.{Less, Equal, Greater}
use Rattle.std.specs.Ordering.{is_eq, match_ordering, nat_cmp}
use Rattle.std.specs.BTreeMap.{insert_entry, is_at}
use Rattle.s38_commits.specs.Changes.{has_change, has_change_in, note_refusal}
use Rattle.s38_commits.specs.Unit.{CommitUnit}
use Rattle.s38_commits.specs.Units.{UnitMap, ended, is_space_changed, is_unit_in, owner, refusal_in, unit_block, unit_of, with_empty_unit}
use Rattle.s38_commits.specs.declared.change.UnitChange.{UnitChange}
use Rattle.s38_commits.specs.declared.fault.UnitFault.{UnitFault}
use Rattle.s38_commits.specs.declared.fault.UnitFault.TheVariants.{NoMemory}
use Rattle.s38_commits.proofs.MapLaws.{at_key, nat_itself}

at_itself : (k : ℕ) → is_at (nat_cmp k) k ≡ true
at_itself k = at_key k k ∙ nat_itself k

some_none : {A : Type 0} (x : A) → Some x ≡ None → ⊥
some_none x h = cc

-- ---- a unit that is written at a block

written_there : (k : ℕ) (u : CommitUnit) (es : UnitMap) → unit_of (insert_entry nat_cmp es k u) k ≡ Some u
written_there k u [] = rw (at_itself k) refl
written_there k u (e ∷ es) =
    let rest = written_there k u es in
    elim (nat_cmp k e.0) as (λ o. nat_cmp k e.0 ≡ o → unit_of (match_ordering o ((k, u) ∷ e ∷ es) ((e.0, u) ∷ es) (e ∷ insert_entry nat_cmp es k u)) k ≡ Some u) [
      | Less ↦ λ is. rw (at_itself k) refl
      | Equal ↦ λ is. rw is refl
      | Greater ↦ λ is. rw is rest
    ] refl

-- a block that has no unit is not the first of those that have one
absent_rest : (k : ℕ) (e : ℕ × CommitUnit) (es : UnitMap) (o : Ordering) → nat_cmp k e.0 ≡ o → unit_of (e ∷ es) k ≡ None → cond (is_eq o) (Some e.1) (unit_of es k) ≡ None
absent_rest k e es o is none = rw is at none

gone_again : (k : ℕ) (u : CommitUnit) (es : UnitMap) → unit_of es k ≡ None → remove_entry (is_at (nat_cmp k)) (insert_entry nat_cmp es k u) ≡ es
gone_again k u [] none = rw (at_itself k) refl
gone_again k u (e ∷ es) none =
    let rest = gone_again k u es in
    elim (nat_cmp k e.0) as (λ o. nat_cmp k e.0 ≡ o → cond (is_eq o) (Some e.1) (unit_of es k) ≡ None →
    remove_entry (is_at (nat_cmp k)) (match_ordering o ((k, u) ∷ e ∷ es) ((e.0, u) ∷ es) (e ∷ insert_entry nat_cmp es k u)) ≡ e ∷ es) [
      | Less ↦ λ is q. rw (at_itself k) refl
      | Equal ↦ λ is q. absurd (some_none e.1 q)
      | Greater ↦ λ is q. rw is (ap (λ (fs : UnitMap). e ∷ fs) (rest q))
    ] refl (absent_rest k e es (nat_cmp k e.0) refl none)

-- a search that passes the written unit by
found_alike : (p : ℕ × CommitUnit → Bool) (k : ℕ) (u : CommitUnit) (es : UnitMap) → p (k, u) ≡ false → unit_of es k ≡ None → find p (insert_entry nat_cmp es k u) ≡ find p es
found_alike p k u [] off none = rw off refl
found_alike p k u (e ∷ es) off none =
    let rest = found_alike p k u es off in
    elim (nat_cmp k e.0) as (λ o. nat_cmp k e.0 ≡ o → cond (is_eq o) (Some e.1) (unit_of es k) ≡ None →
    find p (match_ordering o ((k, u) ∷ e ∷ es) ((e.0, u) ∷ es) (e ∷ insert_entry nat_cmp es k u)) ≡ find p (e ∷ es)) [
      | Less ↦ λ is q. rw off refl
      | Equal ↦ λ is q. absurd (some_none e.1 q)
      | Greater ↦ λ is q. ap (λ (r : Option (ℕ × CommitUnit)). cond (p e) (Some e) r) (rest q)
    ] refl (absent_rest k e es (nat_cmp k e.0) refl none)

-- ---- a unit that is begun

-- a unit without a change
abbrev pub empty_unit : ℕ → ℕ → CommitUnit
empty_unit process number = record { process = process; number = number; changes = [] }

pub begun_there : (units : UnitMap) (block process number : ℕ) → unit_of (with_empty_unit units block process number) block ≡ Some (empty_unit process number)
begun_there units block process number = written_there block (empty_unit process number) units

pub is_begun : (units new : UnitMap) (block process number : ℕ) → new ≡ with_empty_unit units block process number → IsSome (unit_of new block)
is_begun units new block process number is =
    subst (λ (o : Option CommitUnit). IsSome o) (sym (ap (λ (us : UnitMap). unit_of us block) is ∙ begun_there units block process number)) refl

pub begun_block_of : (units new : UnitMap) (block process number space at : ℕ) → new ≡ with_empty_unit units block process number → unit_of units block ≡ None → unit_block new space at ≡ unit_block units space at
begun_block_of units new block process number space at is none =
    ap (λ (us : UnitMap). unit_block us space at) is
    ∙ ap (λ (o : Option (ℕ × CommitUnit)). option_map (λ e. e.0) o) (found_alike (λ e. has_change space at e.1.changes) block (empty_unit process number) units refl none)

-- no other unit has a change of an entry after a unit without a change was begun
pub still_free : (units new : UnitMap) (block process number space at : ℕ) → new ≡ with_empty_unit units block process number → unit_of units block ≡ None →
    ((other : ℕ) → unit_block units space at ≡ Some other → other ≡ block) → (other : ℕ) → unit_block new space at ≡ Some other → other ≡ block
still_free units new block process number space at is none free other stands =
    free other (sym (begun_block_of units new block process number space at is none) ∙ stands)

-- begun, left as it was, and ended
pub ended_again : (units begun_in noted_in last : UnitMap) (block process number : ℕ) → unit_of units block ≡ None → begun_in ≡ with_empty_unit units block process number → noted_in ≡ begun_in → last ≡ ended noted_in block → last ≡ units
ended_again units begun_in noted_in last block process number none is same less =
    less ∙ ap (λ (us : UnitMap). ended us block) (same ∙ is) ∙ gone_again block (empty_unit process number) units none

-- a change that a unit without a change does not refuse wanted memory
pub only_memory : (units new : UnitMap) (block process number : ℕ) (change : UnitChange) (fault : UnitFault) → new ≡ with_empty_unit units block process number → note_refusal [] change ≡ None →
    fault ≡ unwrap_or (refusal_in new block change) NoMemory → fault ≡ NoMemory
only_memory units new block process number change fault is none told =
    told
    ∙ ap (λ (us : UnitMap). unwrap_or (refusal_in us block change) NoMemory) is
    ∙ ap (λ (o : Option CommitUnit). unwrap_or (option_and_then (λ unit. note_refusal unit.changes change) o) NoMemory) (begun_there units block process number)
    ∙ ap (λ (o : Option UnitFault). unwrap_or o NoMemory) none

-- ---- whether a data space is changed

-- whether some unit has a change of an entry of a data space
abbrev pub has_unit_in : ℕ → List CommitUnit → Bool
has_unit_in space [] = false
has_unit_in space (unit ∷ units) = has_change_in space unit.changes || has_unit_in space units

pub unit_in_values : (space : ℕ) (units : UnitMap) → has_unit_in space (values_of units) ≡ is_space_changed units space
unit_in_values space [] = refl
unit_in_values space (e ∷ es) = ap (λ b. has_change_in space e.1.changes || b) (unit_in_values space es)
