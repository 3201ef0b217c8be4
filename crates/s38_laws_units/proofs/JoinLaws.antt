-- Units that a change joins: the unit of its block, or a new one; and entries that one unit at most changes.
use Rattle.std.proofs.Common.{◌==◌, ◌∙◌, ◌∷◌, ◌≡◌, ◌⊎◌, Bool, List, [], ap, arith, cond, false, inl, inr, refl, subst, sym, true, ℕ}
use Rattle.std.proofs.lemmas.Bool.Decides.{nat_tests}
use Rattle.std.proofs.lemmas.Bool.{false≢true, true≢false}
use Rattle.std.proofs.lemmas.List.Elements.{All-cons, All-head, All-nil, All-tail}
use Rattle.std.specs.List.{list_any}
use Rattle.std.specs.Option.{option_map}
use Rattle.std.specs.Ordering.{is_eq, match_ordering, nat_cmp}
use Rattle.std.specs.Prelude.{◌&&◌, ◌++◌, ◌||◌, All, None, Option, Some, find, is_some}
use Rattle.std.specs.declared.cmp.Ordering.TheVariants.{Equal, Greater, Less}
use Rattle.s38_commits.proofs.MapLaws.{nat_itself, nat_same, same_unit, other_unit}
use Rattle.s38_commits.proofs.JoinLaws.{empty_unit}
use Rattle.s38_commits.specs.Changes.{has_change, is_of_entry}
use Rattle.s38_commits.specs.Unit.{CommitUnit, noted}
use Rattle.s38_commits.specs.Units.{AreDisjoint, BlocksRise, UnitMap, changes_entry, changes_of, ended, owner, unit_of, with_change, with_change_joined, with_empty_unit, with_unit_changed}
use Rattle.s38_commits.specs.declared.change.UnitChange.{UnitChange}
use Rattle.s38_laws_units.proofs.UnitLaws.{Both, IsFoundIn, all_found, each_found, put_in, unit_ended, unit_put_in}

some_none : {A : Type 0} (x : A) → Some x ≡ None → ⊥
some_none x h = cc

-- ---- a unit that is begun by a change

greater_off : (a b : ℕ) → nat_cmp a b ≡ Greater → (b == a) ≡ false
greater_off a b p = grind (arith, nat_tests)

-- a unit that was put in and becomes another one is put in as that one
changed_put_in : (units : UnitMap) (block : ℕ) (f : CommitUnit → CommitUnit) (unit : CommitUnit) → unit_of units block ≡ None → with_unit_changed (put_in units block unit) block f ≡ put_in units block (f unit)
changed_put_in [] block f unit none = ap (λ b. cond b ((block, f unit) ∷ []) ((block, unit) ∷ [])) (nat_itself block)
changed_put_in (e ∷ es) block f unit none =
    let rest = changed_put_in es block f unit in
    elim (nat_cmp block e.0) as (λ o. nat_cmp block e.0 ≡ o → cond (is_eq o) (Some e.1) (unit_of es block) ≡ None
    → with_unit_changed (match_ordering o ((block, unit) ∷ e ∷ es) ((e.0, unit) ∷ es) (e ∷ put_in es block unit)) block f ≡ match_ordering o ((block, f unit) ∷ e ∷ es) ((e.0, f unit) ∷ es) (e ∷ put_in es block (f unit))) [
      | Less ↦ λ is q. ap (λ b. cond b ((block, f unit) ∷ e ∷ es) ((block, unit) ∷ with_unit_changed (e ∷ es) block f)) (nat_itself block)
      | Equal ↦ λ is q. absurd (some_none e.1 q)
      | Greater ↦ λ is q. ap (λ b. cond b ((e.0, f e.1) ∷ put_in es block unit) (e ∷ with_unit_changed (put_in es block unit) block f)) (greater_off block e.0 is) ∙ ap (λ (us : UnitMap). e ∷ us) (rest q)
    ] refl none

-- the unit that a change begins
abbrev pub with_first : ℕ → ℕ → UnitChange → CommitUnit
with_first process number change = noted change (empty_unit process number)

pub joined_new : (units : UnitMap) (block process number : ℕ) (change : UnitChange) → unit_of units block ≡ None → with_change_joined units block process number change ≡ put_in units block (with_first process number change)
joined_new units block process number change none =
    ap (λ (r : Option CommitUnit). with_change (cond (is_some r) units (with_empty_unit units block process number)) block change) none
    ∙ changed_put_in units block (noted change) (empty_unit process number) none

pub joined_more : (units : UnitMap) (block process number : ℕ) (change : UnitChange) (unit : CommitUnit) → unit_of units block ≡ Some unit → with_change_joined units block process number change ≡ with_unit_changed units block (noted change)
joined_more units block process number change unit found =
    ap (λ (r : Option CommitUnit). with_change (cond (is_some r) units (with_empty_unit units block process number)) block change) found

-- ---- which unit a block has then

-- of these units that of one block is this one, and the others are as they were
abbrev pub HasNow : UnitMap → UnitMap → ℕ → CommitUnit → Type 0
HasNow units new block unit = (k : ℕ) → unit_of new k ≡ cond (block == k) (Some unit) (unit_of units k)

pub new_has : (units : UnitMap) (block process number : ℕ) (change : UnitChange) → unit_of units block ≡ None → HasNow units (with_change_joined units block process number change) block (with_first process number change)
new_has units block process number change none k =
    ap (λ us. unit_of us k) (joined_new units block process number change none) ∙ unit_put_in units block (with_first process number change) k none

pub more_has : (units : UnitMap) (block process number : ℕ) (change : UnitChange) (unit : CommitUnit) → unit_of units block ≡ Some unit → HasNow units (with_change_joined units block process number change) block (noted change unit)
more_has units block process number change unit found k =
    ap (λ us. unit_of us k) (joined_more units block process number change unit found)
    ∙ elim (block == k) as (λ b. (block == k) ≡ b → unit_of (with_unit_changed units block (noted change)) k ≡ cond b (Some (noted change unit)) (unit_of units k)) [
      | true ↦ λ is. ap (unit_of (with_unit_changed units block (noted change))) (sym (nat_same block k is)) ∙ same_unit block (noted change) units ∙ here (unit_of units block) found
      | false ↦ λ is. other_unit block k (noted change) units (turned block k is)
    ] refl
  where
    turned : (a b : ℕ) → (a == b) ≡ false → (b == a) ≡ false
    turned a b h = grind (arith, nat_tests)

    here : (r : Option CommitUnit) → r ≡ Some unit → option_map (noted change) r ≡ Some (noted change unit)
    here r h = ap (option_map (noted change)) h

-- ---- entries that one unit at most changes

any_last : {A : Type 0} (test : A → Bool) (xs : List A) (x : A) → list_any test (xs ++ x ∷ []) ≡ true → (list_any test xs ≡ true) ⊎ (test x ≡ true)
any_last test [] x h = by (test x) h
  where
    by : (b : Bool) → (b || false) ≡ true → (false ≡ true) ⊎ (b ≡ true)
    by true h = inr refl
    by false h = cc
any_last test (y ∷ ys) x h = by (any_last test ys x) (test y) h
  where
    by : (list_any test (ys ++ x ∷ []) ≡ true → (list_any test ys ≡ true) ⊎ (test x ≡ true)) → (b : Bool) → (b || list_any test (ys ++ x ∷ [])) ≡ true → ((b || list_any test ys) ≡ true) ⊎ (test x ≡ true)
    by rest true h = inl refl
    by rest false h = rest h

of_parts : (space at : ℕ) (change : UnitChange) → is_of_entry space at change ≡ true → (change.space.0 ≡ space) × (change.at ≡ at)
of_parts space at change h = by (change.space.0 == space) refl h
  where
    by : (b : Bool) → (change.space.0 == space) ≡ b → (b && (change.at == at)) ≡ true → (change.space.0 ≡ space) × (change.at ≡ at)
    by true is h = (nat_same change.space.0 space is, nat_same change.at at h)
    by false is h = cc

-- no other block's unit has a change of the entry
abbrev pub IsFree : UnitMap → ℕ → ℕ → ℕ → Type 0
IsFree units block space at = (other : ℕ) → changes_entry (unit_of units other) space at ≡ true → other ≡ block

-- the unit of the block has one change more, and one whose entry is free for it
pub apart_more : (units new : UnitMap) (block : ℕ) (unit : CommitUnit) (change : UnitChange) → HasNow units new block (noted change unit) → changes_of (unit_of units block) ≡ unit.changes
    → IsFree units block change.space.0 change.at → AreDisjoint units → AreDisjoint new
apart_more units new block unit change has same free apart one other space at first second = both (old one first) (old other second)
  where
    -- an entry that is changed now was changed before, or is that of the change
    old : (k : ℕ) → changes_entry (unit_of new k) space at ≡ true → (changes_entry (unit_of units k) space at ≡ true) ⊎ ((k ≡ block) × (is_of_entry space at change ≡ true))
    old k h = by (block == k) refl (sym (ap (λ r. changes_entry r space at) (has k)) ∙ h)
      where
        before : (r : Option CommitUnit) → changes_of r ≡ unit.changes → has_change space at unit.changes ≡ true → changes_entry r space at ≡ true
        before None e h = absurd (false≢true (ap (has_change space at) e ∙ h))
        before (Some u) e h = ap (has_change space at) e ∙ h

        split : (has_change space at unit.changes ≡ true) ⊎ (is_of_entry space at change ≡ true) → k ≡ block → (changes_entry (unit_of units k) space at ≡ true) ⊎ ((k ≡ block) × (is_of_entry space at change ≡ true))
        split (inl h) is = inl (ap (λ n. changes_entry (unit_of units n) space at) is ∙ before (unit_of units block) same h)
        split (inr h) is = inr (is, h)

        by : (b : Bool) → (block == k) ≡ b → changes_entry (cond b (Some (noted change unit)) (unit_of units k)) space at ≡ true → (changes_entry (unit_of units k) space at ≡ true) ⊎ ((k ≡ block) × (is_of_entry space at change ≡ true))
        by true is h = split (any_last (is_of_entry space at) unit.changes change h) (sym (nat_same block k is))
        by false is h = inl h

    mine : (k : ℕ) → is_of_entry space at change ≡ true → changes_entry (unit_of units k) space at ≡ true → k ≡ block
    mine k is h =
        let parts = of_parts space at change is in
        free k (subst (λ (n : ℕ). changes_entry (unit_of units k) n change.at ≡ true) (sym parts.0) (subst (λ (n : ℕ). changes_entry (unit_of units k) space n ≡ true) (sym parts.1) h))

    both : (changes_entry (unit_of units one) space at ≡ true) ⊎ ((one ≡ block) × (is_of_entry space at change ≡ true))
        → (changes_entry (unit_of units other) space at ≡ true) ⊎ ((other ≡ block) × (is_of_entry space at change ≡ true)) → one ≡ other
    both (inl a) (inl b) = apart one other space at a b
    both (inl a) (inr b) = mine one b.1 a ∙ sym b.0
    both (inr a) (inl b) = a.0 ∙ sym (mine other a.1 b)
    both (inr a) (inr b) = a.0 ∙ sym b.0

-- a unit less
pub apart_ended : (units : UnitMap) (block : ℕ) → BlocksRise units → AreDisjoint units → AreDisjoint (ended units block)
apart_ended units block rising apart one other space at first second = apart one other space at (old one first) (old other second)
  where
    old : (k : ℕ) → changes_entry (unit_of (ended units block) k) space at ≡ true → changes_entry (unit_of units k) space at ≡ true
    old k h = by (block == k) (sym (ap (λ r. changes_entry r space at) (unit_ended units block k rising)) ∙ h)
      where
        by : (b : Bool) → changes_entry (cond b None (unit_of units k)) space at ≡ true → changes_entry (unit_of units k) space at ≡ true
        by true h = absurd (false≢true h)
        by false h = h

-- ---- who has changed an entry

pub found_is : (P : Both → Type 0) (test : Both → Bool) (es : UnitMap) (e : Both) → All P es → find test es ≡ Some e → P e × (test e ≡ true)
found_is P test [] e all h = cc
found_is P test (x ∷ xs) e all h = by (found_is P test xs e (All-tail P x xs all)) (test x) refl h
  where
    by : (find test xs ≡ Some e → P e × (test e ≡ true)) → (b : Bool) → test x ≡ b → cond b (Some x) (find test xs) ≡ Some e → P e × (test e ≡ true)
    by rest true is h = let same : x ≡ e = cc in (subst P same (All-head P x xs all), subst (λ (y : Both). test y ≡ true) same is)
    by rest false is h = rest h

abbrev HasNot : ℕ → ℕ → Both → Type 0
HasNot space at e = has_change space at e.1.changes ≡ false

all_off : (space at : ℕ) (es : UnitMap) → owner es space at ≡ None → All (HasNot space at) es
all_off space at [] none = All-nil (HasNot space at)
all_off space at (e ∷ es) none = by (all_off space at es) (has_change space at e.1.changes) refl none
  where
    by : (owner es space at ≡ None → All (HasNot space at) es) → (b : Bool) → has_change space at e.1.changes ≡ b → cond b (Some e) (owner es space at) ≡ None → All (HasNot space at) (e ∷ es)
    by rest true is h = absurd (some_none e h)
    by rest false is h = All-cons (HasNot space at) e es is (rest h)

pub none_is : (space at k : ℕ) (es : UnitMap) → owner es space at ≡ None → changes_entry (unit_of es k) space at ≡ true → ⊥
none_is space at k es none h = by (unit_of es k) refl h
  where
    by : (r : Option CommitUnit) → unit_of es k ≡ r → changes_entry r space at ≡ true → ⊥
    by None is h = false≢true h
    by (Some unit) is h = true≢false (sym h ∙ all_found (HasNot space at) es k unit (all_off space at es none) is)

-- an entry that no unit changed, or that of the block, is free for it
pub free_none : (units : UnitMap) (block space at : ℕ) → owner units space at ≡ None → IsFree units block space at
free_none units block space at none other h = absurd (none_is space at other units none h)

pub free_own : (units : UnitMap) (e : Both) (space at : ℕ) → BlocksRise units → AreDisjoint units → owner units space at ≡ Some e → IsFree units e.0 space at
free_own units e space at rising apart found other h =
    let own = found_is (IsFoundIn units) (λ x. has_change space at x.1.changes) units e (each_found units rising) found in
    apart other e.0 space at h (ap (λ r. changes_entry r space at) own.0 ∙ own.1)
