-- The map from commit blocks to units, where the unit of a block becomes another one.
use Rattle.std.proofs.Common.{◌≡◌, ℕ, ◌-◌, ◌==◌, true, false, cond, List, [], ◌∷◌, ◌++◌, length, take, refl, sym, ◌∙◌, ap, arith}
use Rattle.std.proofs.Math.Seq.{take-append_seam}
use Rattle.std.proofs.lemmas.Bool.Decides.{nat_tests}
use Rattle.std.proofs.lemmas.List.{length-append}
use Rattle.std.proofs.lemmas.Map.Steps.{set_value_same}
use Rattle.std.specs.Prelude.{Option, Some, None}
use Rattle.std.specs.Option.{option_and_then, option_map}
use Rattle.std.specs.Ordering.{nat_cmp}
use Rattle.std.specs.Map.{keys_of, set_value}
use Rattle.std.specs.BTreeMap.{is_at}
use Rattle.s38_commits.specs.Changes.{note_refusal}
use Rattle.s38_commits.specs.Unit.{CommitUnit, noted, without_newest}
use Rattle.s38_commits.specs.Units.{UnitMap, refusal_in, unit_of, with_change, with_unit_changed}
use Rattle.s38_commits.specs.declared.change.UnitChange.{UnitChange}

pub nat_same : (a b : ℕ) → (a == b) ≡ true → a ≡ b
nat_same a b h = grind (arith, nat_tests)

pub nat_itself : (a : ℕ) → (a == a) ≡ true
nat_itself a = grind (arith, nat_tests)

pub at_key : (n k : ℕ) → is_at (nat_cmp n) k ≡ (k == n)
at_key n k = grind (arith, nat_tests)

some_none : {A : Type 0} (x : A) → Some x ≡ None → ⊥
some_none x h = cc

-- ---- what is written through the unit of a block

unit_found : (n : ℕ) (f : CommitUnit → CommitUnit) (u : CommitUnit) (es : UnitMap) → unit_of es n ≡ Some u → set_value (is_at (nat_cmp n)) es (f u) ≡ with_unit_changed es n f
unit_found n f u [] h = cc
unit_found n f u (e ∷ es) h =
    let rest = unit_found n f u es in
    let at : is_at (nat_cmp n) e.0 ≡ (e.0 == n) = at_key n e.0 in
    let found : cond (e.0 == n) (Some e.1) (unit_of es n) ≡ Some u = rw at at h in
    rw at
    (elim (e.0 == n) as (λ b. cond b (Some e.1) (unit_of es n) ≡ Some u → cond b ((e.0, f u) ∷ es) (e ∷ set_value (is_at (nat_cmp n)) es (f u)) ≡ cond b ((e.0, f e.1) ∷ es) (e ∷ with_unit_changed es n f)) [
      | true ↦ λ (q : Some e.1 ≡ Some u). let same : e.1 ≡ u = cc in ap (λ (x : CommitUnit). (e.0, f x) ∷ es) (sym same)
      | false ↦ λ q. ap (λ (fs : UnitMap). e ∷ fs) (rest q)
    ] found)

unit_absent : (n : ℕ) (f : CommitUnit → CommitUnit) (es : UnitMap) → unit_of es n ≡ None → with_unit_changed es n f ≡ es
unit_absent n f [] h = refl
unit_absent n f (e ∷ es) h =
    let rest = unit_absent n f es in
    let at : is_at (nat_cmp n) e.0 ≡ (e.0 == n) = at_key n e.0 in
    let found : cond (e.0 == n) (Some e.1) (unit_of es n) ≡ None = rw at at h in
    elim (e.0 == n) as (λ b. cond b (Some e.1) (unit_of es n) ≡ None → cond b ((e.0, f e.1) ∷ es) (e ∷ with_unit_changed es n f) ≡ e ∷ es) [
      | true ↦ λ q. absurd (some_none e.1 q)
      | false ↦ λ q. ap (λ (fs : UnitMap). e ∷ fs) (rest q)
    ] found

-- a unit that is written back after it was changed
pub unit_written : (n : ℕ) (f : CommitUnit → CommitUnit) (u x : CommitUnit) (es new : UnitMap) → Some u ≡ unit_of es n → new ≡ set_value (is_at (nat_cmp n)) es x → x ≡ f u → new ≡ with_unit_changed es n f
unit_written n f u x es new found written same =
    written ∙ ap (λ (y : CommitUnit). set_value (is_at (nat_cmp n)) es y) same ∙ unit_found n f u es (sym found)

-- a unit that is written back as it was
pub unit_unchanged : (n : ℕ) (u x : CommitUnit) (es new : UnitMap) → Some u ≡ unit_of es n → new ≡ set_value (is_at (nat_cmp n)) es x → x ≡ u → new ≡ es
unit_unchanged n u x es new found written same =
    written ∙ ap (λ (y : CommitUnit). set_value (is_at (nat_cmp n)) es y) same ∙ set_value_same (is_at (nat_cmp n)) es u (sym found)

-- there is none that could be changed
pub unit_missing : (n : ℕ) (f : CommitUnit → CommitUnit) (es new : UnitMap) → None ≡ unit_of es n → new ≡ es → new ≡ with_unit_changed es n f
unit_missing n f es new none same = same ∙ sym (unit_absent n f es (sym none))

-- ---- what is there then

pub keys_changed : (n : ℕ) (f : CommitUnit → CommitUnit) (es : UnitMap) → keys_of (with_unit_changed es n f) ≡ keys_of es
keys_changed n f [] = refl
keys_changed n f (e ∷ es) =
    let rest = keys_changed n f es in
    elim (e.0 == n) as (λ b. keys_of (cond b ((e.0, f e.1) ∷ es) (e ∷ with_unit_changed es n f)) ≡ e.0 ∷ keys_of es) [
      | true ↦ refl
      | false ↦ ap (λ (ks : List ℕ). e.0 ∷ ks) rest
    ]

pub same_unit : (n : ℕ) (f : CommitUnit → CommitUnit) (es : UnitMap) → unit_of (with_unit_changed es n f) n ≡ option_map f (unit_of es n)
same_unit n f [] = refl
same_unit n f (e ∷ es) =
    let rest = same_unit n f es in
    let at : is_at (nat_cmp n) e.0 ≡ (e.0 == n) = at_key n e.0 in
    rw at
    (elim (e.0 == n) as (λ b. e.0 == n ≡ b → unit_of (cond b ((e.0, f e.1) ∷ es) (e ∷ with_unit_changed es n f)) n ≡ option_map f (cond b (Some e.1) (unit_of es n))) [
      | true ↦ λ is. rw (at ∙ is) refl
      | false ↦ λ is. rw (at ∙ is) rest
    ] refl)

pub other_unit : (n k : ℕ) (f : CommitUnit → CommitUnit) (es : UnitMap) → (k == n) ≡ false → unit_of (with_unit_changed es n f) k ≡ unit_of es k
other_unit n k f [] off = refl
other_unit n k f (e ∷ es) off =
    let rest = other_unit n k f es off in
    elim (e.0 == n) as (λ b. (e.0 == n) ≡ b → unit_of (cond b ((e.0, f e.1) ∷ es) (e ∷ with_unit_changed es n f)) k ≡ unit_of (e ∷ es) k) [
      | true ↦ λ is.
          let apart : is_at (nat_cmp k) e.0 ≡ false = apart_key e.0 n k is off in
          rw apart refl
      | false ↦ λ is. ap (λ r. cond (is_at (nat_cmp k) e.0) (Some e.1) r) rest
    ] refl
  where
    apart_key : (m n k : ℕ) → (m == n) ≡ true → (k == n) ≡ false → is_at (nat_cmp k) m ≡ false
    apart_key m n k same off = grind (arith, nat_tests)

-- ---- the newest change is taken back

one_less : (xs : List UnitChange) (change : UnitChange) → take (length (xs ++ change ∷ []) - 1) (xs ++ change ∷ []) ≡ xs
one_less xs change =
    let len : length (xs ++ change ∷ []) - 1 ≡ length xs = omega (arith, length-append xs (change ∷ [])) in
    ap (λ n. take n (xs ++ change ∷ [])) len ∙ take-append_seam xs (change ∷ [])

newest_gone : (change : UnitChange) (u : CommitUnit) → without_newest (noted change u) ≡ u
newest_gone change u = ap (λ (xs : List UnitChange). record u { changes = xs }) (one_less u.changes change)

pub taken_back : (n : ℕ) (change : UnitChange) (es : UnitMap) → with_unit_changed (with_change es n change) n without_newest ≡ es
taken_back n change [] = refl
taken_back n change (e ∷ es) =
    let rest = taken_back n change es in
    elim (e.0 == n) as (λ b. (e.0 == n) ≡ b → with_unit_changed (cond b ((e.0, noted change e.1) ∷ es) (e ∷ with_change es n change)) n without_newest ≡ e ∷ es) [
      | true ↦ λ is. rw is (ap (λ (u : CommitUnit). (e.0, u) ∷ es) (newest_gone change e.1))
      | false ↦ λ is. rw is (ap (λ (fs : UnitMap). e ∷ fs) rest)
    ] refl

-- a change that was noted and taken back again
pub back_again : (units noted_in last : UnitMap) (n : ℕ) (change : UnitChange) → noted_in ≡ with_change units n change → last ≡ with_unit_changed noted_in n without_newest → last ≡ units
back_again units noted_in last n change more less =
    less ∙ ap (λ (us : UnitMap). with_unit_changed us n without_newest) more ∙ taken_back n change units

-- ---- what is refused

pub refusal_known : (units seen : UnitMap) (block : ℕ) (change copy : UnitChange) → units ≡ seen → copy ≡ change → refusal_in seen block change ≡ None →
    (u : CommitUnit) → unit_of units block ≡ Some u → note_refusal u.changes copy ≡ None
refusal_known units seen block change copy same is none u found =
    ap (note_refusal u.changes) is
    ∙ sym (ap (λ (o : Option CommitUnit). option_and_then (λ u. note_refusal u.changes change) o) found)
    ∙ ap (λ (us : UnitMap). refusal_in us block change) same
    ∙ none
