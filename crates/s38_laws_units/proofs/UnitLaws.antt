-- The map from commit blocks to units: what holds of all units, how many pass a test, and which is that of a block,
-- where a unit is put in, becomes another one, or ends.
use Rattle.std.proofs.Common.{◌+◌, ◌==◌, ◌∙◌, ◌∷◌, ◌≡◌, Bool, List, [], ap, arith, cond, false, length, refl, subst, sym, true, ℕ}
use Rattle.std.proofs.lemmas.Bool.Decides.{nat_tests}
use Rattle.std.proofs.lemmas.List.Elements.{All-cons, All-head, All-nil, All-tail}
use Rattle.std.proofs.lemmas.Map.Keys.{sorted_head, sorted_tail}
use Rattle.std.specs.BTreeMap.{insert_entry}
use Rattle.std.specs.List.{AllByRecursion}
use Rattle.std.specs.List.Sorted.{IsStrictlySortedBy}
use Rattle.std.specs.Map.{keys_of}
use Rattle.std.specs.Ordering.{is_eq, match_ordering, nat_cmp}
use Rattle.std.specs.Prelude.{All, None, Option, Some, filter}
use Rattle.std.specs.declared.cmp.Ordering.TheVariants.{Equal, Greater, Less}
use Rattle.s38_commits.proofs.MapLaws.{at_key, keys_changed, nat_itself, nat_same}
use Rattle.s38_commits.specs.Unit.{CommitUnit}
use Rattle.s38_commits.specs.Units.{BlocksRise, UnitMap, ended, unit_of, with_unit_changed}

-- a unit is put in at its block
abbrev pub put_in : UnitMap → ℕ → CommitUnit → UnitMap
put_in units block unit = insert_entry nat_cmp units block unit

-- a unit beside its block
abbrev pub Both : Type 0
Both = ℕ × CommitUnit

-- the first entry of units and whether it is that of a block
unit_first : (block : ℕ) (e : Both) (es : UnitMap) → unit_of (e ∷ es) block ≡ cond (e.0 == block) (Some e.1) (unit_of es block)
unit_first block e es = ap (λ b. cond b (Some e.1) (unit_of es block)) (at_key block e.0)

ended_first : (block : ℕ) (e : Both) (es : UnitMap) → ended (e ∷ es) block ≡ cond (e.0 == block) es (e ∷ ended es block)
ended_first block e es = ap (λ b. cond b es (e ∷ ended es block)) (at_key block e.0)

some_none : {A : Type 0} (x : A) → Some x ≡ None → ⊥
some_none x h = cc

some_same : {A : Type 0} (x y : A) → Some x ≡ Some y → x ≡ y
some_same x y h = cc

same_both : (e : Both) (block : ℕ) (unit : CommitUnit) → e.0 ≡ block → e.1 ≡ unit → e ≡ (block, unit)
same_both e block unit a b = ap (λ n. (n, e.1)) a ∙ ap (λ u. (block, u)) b

-- ---- what holds of all units

module _ (P : Both → Type 0) where
  pub all_found : (units : UnitMap) (block : ℕ) (unit : CommitUnit) → All P units → unit_of units block ≡ Some unit → P (block, unit)
  all_found [] block unit all h = cc
  all_found (e ∷ es) block unit all h =
      let rest = all_found es block unit (All-tail P e es all) in
      let head : P e = All-head P e es all in
      elim (e.0 == block) as (λ b. (e.0 == block) ≡ b → cond b (Some e.1) (unit_of es block) ≡ Some unit → P (block, unit)) [
        | true ↦ λ is q. subst (λ (x : Both). P x) (same_both e block unit (nat_same e.0 block is) (some_same e.1 unit q)) head
        | false ↦ λ is q. rest q
      ] refl (sym (unit_first block e es) ∙ h)

  pub all_ended : (units : UnitMap) (block : ℕ) → All P units → All P (ended units block)
  all_ended [] block all = all
  all_ended (e ∷ es) block all =
      let rest = All-cons P e (ended es block) (All-head P e es all) (all_ended es block (All-tail P e es all)) in
      subst (All P) (sym (ended_first block e es)) (elim (e.0 == block) as (λ b. All P (cond b es (e ∷ ended es block))) [ true ↦ All-tail P e es all | false ↦ rest ])

  pub all_put_in : (units : UnitMap) (block : ℕ) (unit : CommitUnit) → All P units → P (block, unit) → unit_of units block ≡ None → All P (put_in units block unit)
  all_put_in [] block unit all new none = All-cons P (block, unit) [] new (All-nil P)
  all_put_in (e ∷ es) block unit all new none =
      let head : P e = All-head P e es all in
      let rest = all_put_in es block unit (All-tail P e es all) new in
      elim (nat_cmp block e.0) as (λ o. cond (is_eq o) (Some e.1) (unit_of es block) ≡ None → All P (match_ordering o ((block, unit) ∷ e ∷ es) ((e.0, unit) ∷ es) (e ∷ put_in es block unit))) [
        | Less ↦ λ q. All-cons P (block, unit) (e ∷ es) new all
        | Equal ↦ λ q. absurd (some_none e.1 q)
        | Greater ↦ λ q. All-cons P e (put_in es block unit) head (rest q)
      ] none

  pub all_changed : (units : UnitMap) (block : ℕ) (f : CommitUnit → CommitUnit) (unit : CommitUnit) → All P units → unit_of units block ≡ Some unit → P (block, f unit) → All P (with_unit_changed units block f)
  all_changed [] block f unit all found new = all
  all_changed (e ∷ es) block f unit all found new =
      let head : P e = All-head P e es all in
      let rest = all_changed es block f unit (All-tail P e es all) in
      elim (e.0 == block) as (λ b. (e.0 == block) ≡ b → cond b (Some e.1) (unit_of es block) ≡ Some unit → All P (cond b ((e.0, f e.1) ∷ es) (e ∷ with_unit_changed es block f))) [
        | true ↦ λ is q. All-cons P (e.0, f e.1) es (subst (λ (u : CommitUnit). P (e.0, f u)) (sym (some_same e.1 unit q)) (subst (λ (n : ℕ). P (n, f unit)) (sym (nat_same e.0 block is)) new)) (All-tail P e es all)
        | false ↦ λ is q. All-cons P e (with_unit_changed es block f) head (rest q new)
      ] refl (sym (unit_first block e es) ∙ found)

-- ---- how many pass a test

abbrev pub one_if : Bool → ℕ
one_if b = cond b 1 0

module _ (test : Both → Bool) where
  abbrev pub count : UnitMap → ℕ
  count units = length (filter test units)

  counted : (b : Bool) (e : Both) (es : UnitMap) → length (cond b (e ∷ es) es) ≡ length es + one_if b
  counted true e es = omega arith
  counted false e es = omega arith

  pub count_first : (e : Both) (es : UnitMap) → count (e ∷ es) ≡ count es + one_if (test e)
  count_first e es = counted (test e) e (filter test es)

  pub count_put_in : (units : UnitMap) (block : ℕ) (unit : CommitUnit) → unit_of units block ≡ None → count (put_in units block unit) ≡ count units + one_if (test (block, unit))
  count_put_in [] block unit none = count_first (block, unit) []
  count_put_in (e ∷ es) block unit none =
      let rest = count_put_in es block unit in
      elim (nat_cmp block e.0) as (λ o. cond (is_eq o) (Some e.1) (unit_of es block) ≡ None
      → count (match_ordering o ((block, unit) ∷ e ∷ es) ((e.0, unit) ∷ es) (e ∷ put_in es block unit)) ≡ count (e ∷ es) + one_if (test (block, unit))) [
        | Less ↦ λ q. count_first (block, unit) (e ∷ es)
        | Equal ↦ λ q. absurd (some_none e.1 q)
        | Greater ↦ λ q. omega (arith, count_first e (put_in es block unit), count_first e es, rest q)
      ] none

  pub count_changed : (units : UnitMap) (block : ℕ) (f : CommitUnit → CommitUnit) → ((n : ℕ) (u v : CommitUnit) → test (n, u) ≡ test (n, v)) → count (with_unit_changed units block f) ≡ count units
  count_changed [] block f same = refl
  count_changed (e ∷ es) block f same =
      let rest = count_changed es block f same in
      elim (e.0 == block) as (λ b. count (cond b ((e.0, f e.1) ∷ es) (e ∷ with_unit_changed es block f)) ≡ count (e ∷ es)) [
        | true ↦ count_first (e.0, f e.1) es ∙ ap (λ b. count es + one_if b) (same e.0 (f e.1) e.1) ∙ sym (count_first e es)
        | false ↦ omega (arith, count_first e (with_unit_changed es block f), count_first e es, rest)
      ]

  pub count_ended : (units : UnitMap) (block : ℕ) (unit : CommitUnit) → unit_of units block ≡ Some unit → count (ended units block) + one_if (test (block, unit)) ≡ count units
  count_ended [] block unit found = cc
  count_ended (e ∷ es) block unit found =
      let rest = count_ended es block unit in
      ap (λ us. count us + one_if (test (block, unit))) (ended_first block e es)
      ∙ elim (e.0 == block) as (λ b. (e.0 == block) ≡ b → cond b (Some e.1) (unit_of es block) ≡ Some unit → count (cond b es (e ∷ ended es block)) + one_if (test (block, unit)) ≡ count (e ∷ es)) [
        | true ↦ λ is q. ap (λ x. count es + one_if (test x)) (sym (same_both e block unit (nat_same e.0 block is) (some_same e.1 unit q))) ∙ sym (count_first e es)
        | false ↦ λ is q. omega (arith, count_first e (ended es block), count_first e es, rest q)
      ] refl (sym (unit_first block e es) ∙ found)

-- ---- the blocks rise

abbrev Below : ℕ → UnitMap → Type 0
Below k units = AllByRecursion (λ q. nat_cmp k q ≡ Less) (keys_of units)

less_then : (a b c : ℕ) → nat_cmp a b ≡ Less → nat_cmp b c ≡ Less → nat_cmp a c ≡ Less
less_then a b c p q = grind (arith, nat_tests)

greater_back : (a b : ℕ) → nat_cmp a b ≡ Greater → nat_cmp b a ≡ Less
greater_back a b p = grind (arith, nat_tests)

less_off : (a b : ℕ) → nat_cmp a b ≡ Less → (b == a) ≡ false
less_off a b p = grind (arith, nat_tests)

off : (a b : ℕ) → nat_cmp a b ≡ Less → (a == b) ≡ false
off a b p = grind (arith, nat_tests)

below_lower : (a b : ℕ) (units : UnitMap) → nat_cmp a b ≡ Less → Below b units → Below a units
below_lower a b [] low below = tt
below_lower a b (e ∷ es) low below = (less_then a b e.0 low below.0, below_lower a b es low below.1)

below_put_in : (k : ℕ) (units : UnitMap) (block : ℕ) (unit : CommitUnit) → nat_cmp k block ≡ Less → Below k units → Below k (put_in units block unit)
below_put_in k [] block unit low below = (low, tt)
below_put_in k (e ∷ es) block unit low below =
    let rest = below_put_in k es block unit low below.1 in
    elim (nat_cmp block e.0) as (λ o. Below k (match_ordering o ((block, unit) ∷ e ∷ es) ((e.0, unit) ∷ es) (e ∷ put_in es block unit))) [
      | Less ↦ (low, below)
      | Equal ↦ (below.0, below.1)
      | Greater ↦ (below.0, rest)
    ]

below_ended : (k : ℕ) (units : UnitMap) (block : ℕ) → Below k units → Below k (ended units block)
below_ended k [] block below = tt
below_ended k (e ∷ es) block below =
    let rest = below_ended k es block below.1 in
    subst (Below k) (sym (ended_first block e es)) (elim (e.0 == block) as (λ b. Below k (cond b es (e ∷ ended es block))) [ true ↦ below.1 | false ↦ (below.0, rest) ])

head_of : (e : Both) (es : UnitMap) → BlocksRise (e ∷ es) → Below e.0 es
head_of e es rising = sorted_head nat_cmp e.0 (keys_of es) rising

pub tail_of : (e : Both) (es : UnitMap) → BlocksRise (e ∷ es) → BlocksRise es
tail_of e es rising = sorted_tail nat_cmp e.0 (keys_of es) rising

rising_first : (e : Both) (es : UnitMap) → Below e.0 es → BlocksRise es → BlocksRise (e ∷ es)
unfolding IsStrictlySortedBy
rising_first e es below rising = (below, rising)

pub rising_none : BlocksRise []
unfolding IsStrictlySortedBy
rising_none = tt

pub rising_put_in : (units : UnitMap) (block : ℕ) (unit : CommitUnit) → BlocksRise units → unit_of units block ≡ None → BlocksRise (put_in units block unit)
rising_put_in [] block unit rising none = rising_first (block, unit) [] tt rising
rising_put_in (e ∷ es) block unit rising none =
    let rest = rising_put_in es block unit (tail_of e es rising) in
    elim (nat_cmp block e.0) as (λ o. nat_cmp block e.0 ≡ o → cond (is_eq o) (Some e.1) (unit_of es block) ≡ None
    → BlocksRise (match_ordering o ((block, unit) ∷ e ∷ es) ((e.0, unit) ∷ es) (e ∷ put_in es block unit))) [
      | Less ↦ λ is q. rising_first (block, unit) (e ∷ es) (is, below_lower block e.0 es is (head_of e es rising)) rising
      | Equal ↦ λ is q. absurd (some_none e.1 q)
      | Greater ↦ λ is q. rising_first e (put_in es block unit) (below_put_in e.0 es block unit (greater_back block e.0 is) (head_of e es rising)) (rest q)
    ] refl none

pub rising_changed : (units : UnitMap) (block : ℕ) (f : CommitUnit → CommitUnit) → BlocksRise units → BlocksRise (with_unit_changed units block f)
rising_changed units block f rising = subst (λ (ks : List ℕ). IsStrictlySortedBy nat_cmp ks) (sym (keys_changed block f units)) rising

pub rising_ended : (units : UnitMap) (block : ℕ) → BlocksRise units → BlocksRise (ended units block)
rising_ended [] block rising = rising
rising_ended (e ∷ es) block rising =
    let rest = rising_first e (ended es block) (below_ended e.0 es block (head_of e es rising)) (rising_ended es block (tail_of e es rising)) in
    subst (λ (us : UnitMap). BlocksRise us) (sym (ended_first block e es))
    (elim (e.0 == block) as (λ b. BlocksRise (cond b es (e ∷ ended es block))) [ true ↦ tail_of e es rising | false ↦ rest ])

-- ---- which unit a block has

-- two tests that don't both hold, asked in either order
swapped : {A : Type 0} (a b : Bool) → (a ≡ true → b ≡ true → ⊥) → (x y z : A) → cond b y (cond a x z) ≡ cond a x (cond b y z)
swapped true true never x y z = absurd (never refl refl)
swapped true false never x y z = refl
swapped false true never x y z = refl
swapped false false never x y z = refl

pub unit_put_in : (units : UnitMap) (block : ℕ) (unit : CommitUnit) (k : ℕ) → unit_of units block ≡ None → unit_of (put_in units block unit) k ≡ cond (block == k) (Some unit) (unit_of units k)
unit_put_in [] block unit k none = unit_first k (block, unit) []
unit_put_in (e ∷ es) block unit k none =
    let rest = unit_put_in es block unit k in
    elim (nat_cmp block e.0) as (λ o. nat_cmp block e.0 ≡ o → cond (is_eq o) (Some e.1) (unit_of es block) ≡ None
    → unit_of (match_ordering o ((block, unit) ∷ e ∷ es) ((e.0, unit) ∷ es) (e ∷ put_in es block unit)) k ≡ cond (block == k) (Some unit) (unit_of (e ∷ es) k)) [
      | Less ↦ λ is q. unit_first k (block, unit) (e ∷ es)
      | Equal ↦ λ is q. absurd (some_none e.1 q)
      | Greater ↦ λ is q. unit_first k e (put_in es block unit) ∙ ap (λ r. cond (e.0 == k) (Some e.1) r) (rest q)
          ∙ swapped (block == k) (e.0 == k) (λ a b. apart block e.0 k is a b) (Some unit) (Some e.1) (unit_of es k) ∙ ap (λ r. cond (block == k) (Some unit) r) (sym (unit_first k e es))
    ] refl none
  where
    apart : (a b k : ℕ) → nat_cmp a b ≡ Greater → (a == k) ≡ true → (b == k) ≡ true → ⊥
    apart a b k is p q = grind (arith, nat_tests)

unit_below : (units : UnitMap) (k : ℕ) → Below k units → unit_of units k ≡ None
unit_below [] k below = refl
unit_below (e ∷ es) k below = unit_first k e es ∙ ap (λ b. cond b (Some e.1) (unit_of es k)) (less_off k e.0 below.0) ∙ unit_below es k below.1

pub unit_ended : (units : UnitMap) (block k : ℕ) → BlocksRise units → unit_of (ended units block) k ≡ cond (block == k) None (unit_of units k)
unit_ended [] block k rising = elim (block == k) as (λ b. ◌≡◌ {A = Option CommitUnit} None (cond b None None)) [ true ↦ refl | false ↦ refl ]
unit_ended (e ∷ es) block k rising =
    let rest = unit_ended es block k (tail_of e es rising) in
    let none = unit_below es e.0 (head_of e es rising) in
    ap (λ us. unit_of us k) (ended_first block e es)
    ∙ elim (e.0 == block) as (λ b. (e.0 == block) ≡ b → unit_of (cond b es (e ∷ ended es block)) k ≡ cond (block == k) None (cond (e.0 == k) (Some e.1) (unit_of es k))) [
      | true ↦ λ is.
          let same : e.0 ≡ block = nat_same e.0 block is in
          elim (e.0 == k) as (λ c. (e.0 == k) ≡ c → unit_of es k ≡ cond c None (cond c (Some e.1) (unit_of es k))) [
            | true ↦ λ on. subst (λ (n : ℕ). unit_of es n ≡ None) (nat_same e.0 k on) none
            | false ↦ λ off. refl
          ] refl ∙ ap (λ (n : ℕ). cond (n == k) None (cond (e.0 == k) (Some e.1) (unit_of es k))) same
      | false ↦ λ is. unit_first k e (ended es block) ∙ ap (λ r. cond (e.0 == k) (Some e.1) r) rest ∙ swapped (block == k) (e.0 == k) (λ a b. apart e.0 block k is a b) None (Some e.1) (unit_of es k)
    ] refl
    ∙ ap (λ r. cond (block == k) None r) (sym (unit_first k e es))
  where
    apart : (a b k : ℕ) → (a == b) ≡ false → (b == k) ≡ true → (a == k) ≡ true → ⊥
    apart a b k is p q = grind (arith, nat_tests)

-- ---- units that are found by their blocks

abbrev pub IsFoundIn : UnitMap → Both → Type 0
IsFoundIn units e = unit_of units e.0 ≡ Some e.1

stand_behind : (units es : UnitMap) (first : Both) → Below first.0 es → All (IsFoundIn units) es → All (IsFoundIn (first ∷ units)) es
stand_behind units [] first below all = All-nil (IsFoundIn (first ∷ units))
stand_behind units (e ∷ es) first below all =
    All-cons (IsFoundIn (first ∷ units)) e es (unit_first e.0 first units ∙ ap (λ b. cond b (Some first.1) (unit_of units e.0)) (off first.0 e.0 below.0) ∙ All-head (IsFoundIn units) e es all)
    (stand_behind units es first below.1 (All-tail (IsFoundIn units) e es all))

pub each_found : (units : UnitMap) → BlocksRise units → All (IsFoundIn units) units
each_found [] rising = All-nil (IsFoundIn [])
each_found (e ∷ es) rising =
    All-cons (IsFoundIn (e ∷ es)) e es (unit_first e.0 e es ∙ ap (λ b. cond b (Some e.1) (unit_of es e.0)) (nat_itself e.0))
    (stand_behind es es e (head_of e es rising) (each_found es (tail_of e es rising)))

-- those of later blocks are still found when a unit ends
pub found_ended : (units es : UnitMap) (first : Both) → BlocksRise units → BlocksRise (first ∷ es) → All (IsFoundIn units) es → All (IsFoundIn (ended units first.0)) es
found_ended units es first rising order all = by es (head_of first es order) all
  where
    by : (es : UnitMap) → Below first.0 es → All (IsFoundIn units) es → All (IsFoundIn (ended units first.0)) es
    by [] below all = All-nil (IsFoundIn (ended units first.0))
    by (e ∷ es) below all =
        All-cons (IsFoundIn (ended units first.0)) e es
        (unit_ended units first.0 e.0 rising ∙ ap (λ b. cond b None (unit_of units e.0)) (off first.0 e.0 below.0) ∙ All-head (IsFoundIn units) e es all)
        (by es below.1 (All-tail (IsFoundIn units) e es all))
