-- Units stay right where an object is destroyed: what they name is not, since other objects that say so are there, or the
-- units themselves.
use Rattle.std.proofs.Common.{◌*◌, ◌==◌, ◌∙◌, ◌∷◌, ◌≡◌, ◌≤◌, Bool, List, [], ap, arith, cond, false, length, refl, subst, sym, true, ℕ}
use Rattle.std.proofs.lemmas.Bool.Decides.{nat_tests}
use Rattle.std.proofs.lemmas.Bool.{and_parts, cond_both, false≢true, true≢false}
use Rattle.std.proofs.lemmas.List.Elements.{All-cons, All-head, All-nil}
use Rattle.std.specs.List.{list_any}
use Rattle.std.specs.Option.{unwrap_or}
use Rattle.std.specs.Prelude.{◌||◌, All, None, Option, Some, is_some}
use Rattle.s38_base.specs.Ids.{same_kind}
use Rattle.s38_base.specs.declared.id.Kind.TheVariants as kinds
use Rattle.s38_base.specs.declared.id.Kind.{Kind}
use Rattle.s38_commits.proofs.MapLaws.{nat_same}
use Rattle.s38_commits.specs.Changes.{is_in}
use Rattle.s38_commits.specs.Units.{UnitMap, is_space_changed, is_unit_in, unit_of}
use Rattle.s38_commits.specs.declared.change.UnitChange.{UnitChange}
use Rattle.s38_journals.specs.Journals.{JournalList}
use Rattle.s38_rules.specs.families.Creation.{destroyed, is_of_kind}
use Rattle.s38_rules.specs.state.Held.{Held, kind_of, object, object_in, without}
use Rattle.s38_rules.specs.state.Journaling.{block_port, data_port, data_port_in, is_journal, is_that_number, journal_for, journal_for_block, journal_named, open_units, unit_goes_to}
use Rattle.s38_rules.specs.families.Ports.{is_attached, is_data_of, is_port_to, leads_to, names_port, port_is_used}
use Rattle.s38_rules.specs.state.Parts.{Part, block_of, block_part, data_of, data_part, journal_of, journal_part, part_at, part_in, port_of, port_part}
use Rattle.s38_rules.specs.state.PartsAt.{journal_at, no_journal}
use Rattle.s38_rules.specs.declared.object.Body.TheVariants as bodies
use Rattle.s38_rules.specs.declared.object.Body.{Body}
use Rattle.s38_rules.specs.declared.object.Object.{Object}
use Rattle.s38_laws_units.proofs.HeldLaws.{Follows, IsOther, destroyed_carries, other_gone, part_without, without_unused}
use Rattle.s38_laws_units.proofs.KeptLaws.{LastsAt, Spares, all_by, all_then, grows_by, lasts_by, stays_by, journal_number, right_carried, right_kept}
use Rattle.s38_laws_units.proofs.UnitLaws.{Both, IsFoundIn, count_first, each_found, one_if}
use Rattle.s38_laws_units.specs.Right.{AreRight, IsChangeOf, IsData, IsLogged, IsUnit}

-- an object, where it is there, is of a kind
abbrev pub IsKind : Kind → Option Object → Type 0
IsKind kind None = Unit {0}
IsKind kind (Some x) = same_kind kind (kind_of x.body) ≡ true

kind_by : (kind : Kind) (x : Option Object) → is_of_kind kind x ≡ true → IsKind kind x
kind_by kind None is = tt
kind_by kind (Some x) is = is

-- what is destroyed is of the kind that is said, and what is not stays
gone_right : (h : Held) (units : UnitMap) (kind : Kind) (n : ℕ) → AreRight h units → (IsKind kind (object h n) → AreRight (without h n) units) → AreRight (destroyed h kind n) units
gone_right h units kind n right gone =
    cond_both (is_of_kind kind (object h n)) (without h n) h (λ (k : Held). AreRight k units) (λ is. gone (kind_by kind (object h n) is)) (λ other. right)

-- ---- objects of other kinds

abbrev pub IsPlainKind : Kind → Type 0
IsPlainKind kind = (same_kind kind kinds.DataSpace ≡ false) × (same_kind kind kinds.Port ≡ false) × (same_kind kind kinds.Journal ≡ false) × (same_kind kind kinds.Block ≡ false)

plain_body : (kind : Kind) (b : Body) → IsPlainKind kind → same_kind kind (kind_of b) ≡ true → IsOther b
plain_body kind (bodies.DataSpace x) plain is = absurd (true≢false (sym is ∙ plain.0))
plain_body kind (bodies.Port x) plain is = absurd (true≢false (sym is ∙ plain.1))
plain_body kind (bodies.Journal x) plain is = absurd (true≢false (sym is ∙ plain.2))
plain_body kind (bodies.Block x) plain is = absurd (true≢false (sym is ∙ plain.3))
plain_body kind _ plain is = record { block = refl; port = refl; journal = refl; space = refl }

nothing_gone : Follows None None
nothing_gone = record { block = tt; port = tt; journal = tt; space = tt; table = λ t. t }

plain_gone : (kind : Kind) (x : Option Object) → IsPlainKind kind → IsKind kind x → Follows x None
plain_gone kind None plain is = nothing_gone
plain_gone kind (Some x) plain is = other_gone x (plain_body kind x.body plain is)

pub right_gone : (h : Held) (units : UnitMap) (kind : Kind) (n : ℕ) → AreRight h units → IsPlainKind kind → AreRight (destroyed h kind n) units
right_gone h units kind n right plain =
    gone_right h units kind n right (λ is. right_carried h _ units right (destroyed_carries h n (plain_gone kind (object h n) plain is)))

-- ---- an object of the four kinds

-- of a number that is not destroyed, or where there is nothing of the kind
away : {T : Type 0} (p : Part T) (h : Held) (n m : ℕ) → (n ≡ m → part_at p h m ≡ None) → part_at p (without h n) m ≡ part_at p h m
away p h n m none = part_without p h n m ∙ elim (n == m) as (λ b. (n == m) ≡ b → cond b None (part_at p h m) ≡ part_at p h m) [
  | true ↦ λ e. sym (none (nat_same n m e))
  | false ↦ λ e. refl
] refl

-- no change of a unit is of a data space
abbrev pub IsOffSpace : Held → ℕ → UnitChange → Type 0
IsOffSpace h n change = n ≡ change.space.0 → part_at data_part h change.space.0 ≡ None

-- a unit does not name the number
pub record IsUnnamed (h : Held) (n : ℕ) (e : Both) : Type 0 where
  pub block : n ≡ e.0 → part_at block_part h e.0 ≡ None
  pub port : n ≡ block_port h e.0 → part_at port_part h (block_port h e.0) ≡ None
  pub journal : n ≡ journal_number h e.0 → part_at journal_part h (journal_number h e.0) ≡ None
  pub changes : All (IsOffSpace h n) e.1.changes

unnamed_spares : (h : Held) (n : ℕ) (e : Both) → IsUnnamed h n e → Spares h (without h n) e
unnamed_spares h n e off = record {
  block = stays_by _ _ (away block_part h n e.0 off.block);
  port = stays_by _ _ (away port_part h n (block_port h e.0) off.port);
  journal = grows_by _ _ (away journal_part h n (journal_number h e.0) off.journal);
  changes = all_then (IsOffSpace h n) (IsOffSpace h n) (LastsAt h (without h n)) e.1.changes
      (λ c one two. lasts_by _ _ (away data_part h n c.space.0 one)) off.changes off.changes;
}

right_without : (h : Held) (n : ℕ) (units : UnitMap) → AreRight h units → All (IsUnnamed h n) units → open_units h units n ≡ 0 → AreRight (without h n) units
right_without h n units right off closed =
    right_kept h (without h n) units right (all_then (IsUnnamed h n) (IsUnnamed h n) (Spares h (without h n)) units (λ e one two. unnamed_spares h n e one) off off)
    (λ m. subst IsData (sym (part_without data_part h n m)) (cond_both (n == m) None (part_at data_part h m) IsData (λ q. tt) (λ q. right.tables m)))
    (λ m. subst (λ (r : Option JournalList). 41 * open_units h units m ≤ (unwrap_or r no_journal).spare) (sym (part_without journal_part h n m))
    (cond_both (n == m) None (part_at journal_part h m) (λ r. 41 * open_units h units m ≤ (unwrap_or r no_journal).spare)
    (λ q. subst (λ (i : ℕ). 41 * open_units h units i ≤ 0) (nat_same n m q) (subst (λ (c : ℕ). 41 * c ≤ 0) (sym closed) (omega arith))) (λ q. right.room m)))
    (without_unused h n right.unused)

-- where nothing is there
right_nothing : (h : Held) (units : UnitMap) (n : ℕ) → AreRight h units → object h n ≡ None → AreRight (without h n) units
right_nothing h units n right none = right_carried h _ units right (destroyed_carries h n (subst (λ r. Follows r None) (sym none) nothing_gone))

-- what is no journal space has no unit
unit_free : (h : Held) (units : UnitMap) (n : ℕ) → AreRight h units → part_at journal_part h n ≡ None → open_units h units n ≡ 0
unit_free h units n right none =
    let spare : (journal_at h n).spare ≡ 0 = ap (λ (r : Option JournalList). (unwrap_or r no_journal).spare) none in
    omega (arith, right.room n, spare)

part_of : {T : Type 0} (p : Part T) (h : Held) (n : ℕ) (x : Object) → object h n ≡ Some x → p.of x.body ≡ None → part_at p h n ≡ None
part_of p h n x found none = ap (part_in p) found ∙ none

-- what an object is not is not at its number, whatever is named by it
off_part : {T : Type 0} (p : Part T) (h : Held) (n m : ℕ) (x : Object) → object h n ≡ Some x → p.of x.body ≡ None → n ≡ m → part_at p h m ≡ None
off_part p h n m x found none same = subst (λ (i : ℕ). part_at p h i ≡ None) same (part_of p h n x found none)

off_spaces : (h : Held) (n : ℕ) (x : Object) (changes : List UnitChange) → object h n ≡ Some x → data_of x.body ≡ None → All (IsOffSpace h n) changes
off_spaces h n x changes found none = all_by (IsOffSpace h n) changes (λ c same. off_part data_part h n c.space.0 x found none same)

none_any : {A : Type 0} (test : A → Bool) (xs : List A) → list_any test xs ≡ false → All (λ x. test x ≡ false) xs
none_any test [] h = All-nil (λ x. test x ≡ false)
none_any test (x ∷ xs) h = All-cons (λ y. test y ≡ false) x xs (left (test x) (list_any test xs) h) (none_any test xs (right (test x) (list_any test xs) h))
  where
    left : (a b : Bool) → (a || b) ≡ false → a ≡ false
    left true b h = h
    left false b h = refl

    right : (a b : Bool) → (a || b) ≡ false → b ≡ false
    right true b h = cc
    right false b h = h

-- ---- a commit block

block_body : (b : Body) → same_kind kinds.Block (kind_of b) ≡ true → (port_of b ≡ None) × (journal_of b ≡ None) × (data_of b ≡ None)
block_body (bodies.Block x) is = (refl, refl, refl)
block_body _ is = cc

block_unnamed : (h : Held) (n : ℕ) (x : Object) (units : UnitMap) (e : Both) → object h n ≡ Some x → same_kind kinds.Block (kind_of x.body) ≡ true → is_some (unit_of units n) ≡ false
    → IsFoundIn units e → IsUnnamed h n e
block_unnamed h n x units e found is none stands =
    let other = block_body x.body is in
    record {
      block = λ same. absurd (true≢false (sym (ap is_some (ap (unit_of units) same ∙ stands)) ∙ none));
      port = off_part port_part h n (block_port h e.0) x found other.0;
      journal = off_part journal_part h n (journal_number h e.0) x found other.1;
      changes = off_spaces h n x e.1.changes found other.2;
    }

right_no_block : (h : Held) (units : UnitMap) (n : ℕ) (x : Option Object) → AreRight h units → object h n ≡ x → IsKind kinds.Block x → is_some (unit_of units n) ≡ false → AreRight (without h n) units
right_no_block h units n None right found is none = right_nothing h units n right found
right_no_block h units n (Some x) right found is none =
    right_without h n units right
    (all_then (IsFoundIn units) (IsFoundIn units) (IsUnnamed h n) units (λ e one two. block_unnamed h n x units e found is none one) (each_found units right.rising) (each_found units right.rising))
    (unit_free h units n right (part_of journal_part h n x found (block_body x.body is).1))

pub right_block_gone : (h : Held) (units : UnitMap) (n : ℕ) → AreRight h units → is_some (unit_of units n) ≡ false → AreRight (destroyed h kinds.Block n) units
right_block_gone h units n right none = gone_right h units kinds.Block n right (λ is. right_no_block h units n (object h n) right refl is none)

-- ---- a data space

space_body : (b : Body) → same_kind kinds.DataSpace (kind_of b) ≡ true → (block_of b ≡ None) × (port_of b ≡ None) × (journal_of b ≡ None)
space_body (bodies.DataSpace x) is = (refl, refl, refl)
space_body _ is = cc

space_off : (h : Held) (n : ℕ) (c : UnitChange) → is_in n c ≡ false → IsOffSpace h n c
space_off h n c off same = absurd (wrong n c.space.0 off same)
  where
    wrong : (n m : ℕ) → (m == n) ≡ false → n ≡ m → ⊥
    wrong n m off same = grind (arith, nat_tests)

space_unnamed : (h : Held) (n : ℕ) (x : Object) (e : Both) → object h n ≡ Some x → same_kind kinds.DataSpace (kind_of x.body) ≡ true → is_unit_in n e ≡ false → IsUnnamed h n e
space_unnamed h n x e found is none =
    let other = space_body x.body is in
    let off = none_any (is_in n) e.1.changes none in
    record {
      block = off_part block_part h n e.0 x found other.0;
      port = off_part port_part h n (block_port h e.0) x found other.1;
      journal = off_part journal_part h n (journal_number h e.0) x found other.2;
      changes = all_then (λ c. is_in n c ≡ false) (λ c. is_in n c ≡ false) (IsOffSpace h n) e.1.changes (λ c one two. space_off h n c one) off off;
    }

right_no_space : (h : Held) (units : UnitMap) (n : ℕ) (x : Option Object) → AreRight h units → object h n ≡ x → IsKind kinds.DataSpace x → is_space_changed units n ≡ false → AreRight (without h n) units
right_no_space h units n None right found is none = right_nothing h units n right found
right_no_space h units n (Some x) right found is none =
    let off = none_any (is_unit_in n) units none in
    right_without h n units right
    (all_then (λ e. is_unit_in n e ≡ false) (λ e. is_unit_in n e ≡ false) (IsUnnamed h n) units (λ e one two. space_unnamed h n x e found is one) off off)
    (unit_free h units n right (part_of journal_part h n x found (space_body x.body is).2))

pub right_space_gone : (h : Held) (units : UnitMap) (n : ℕ) → AreRight h units → is_space_changed units n ≡ false → AreRight (destroyed h kinds.DataSpace n) units
right_space_gone h units n right none = gone_right h units kinds.DataSpace n right (λ is. right_no_space h units n (object h n) right refl is none)

-- ---- a port

-- an object that is found passes no test that none passes
pub found_not : (test : Object → Bool) (n : ℕ) (os : List Object) (x : Object) → object_in os n ≡ Some x → list_any test os ≡ false → test x ≡ false
found_not test n [] x found none = cc
found_not test n (y ∷ ys) x found none = by (found_not test n ys x) (y.number.0 == n) (test y) refl found none
  where
    by : (object_in ys n ≡ Some x → list_any test ys ≡ false → test x ≡ false) → (b c : Bool) → test y ≡ c → cond b (Some y) (object_in ys n) ≡ Some x → (c || list_any test ys) ≡ false → test x ≡ false
    by rest true true is found none = cc
    by rest true false is found none = let same : y ≡ x = cc in subst (λ (z : Object). test z ≡ false) same is
    by rest false true is found none = cc
    by rest false false is found none = rest found none

port_body : (b : Body) → same_kind kinds.Port (kind_of b) ≡ true → (block_of b ≡ None) × (journal_of b ≡ None) × (data_of b ≡ None)
port_body (bodies.Port x) is = (refl, refl, refl)
port_body _ is = cc

-- a data space that is journaled to the port names it
names_it : (h : Held) (n space : ℕ) (change : UnitChange) (x : Option Object) → object h space ≡ x → port_is_used h n ≡ false → IsChangeOf change (part_in data_part x) → data_port_in (part_in data_part x) ≡ n → ⊥
names_it h n space change None found none of port = of
names_it h n space change (Some o) found none of port = by o.body (found_not (names_port n) space h.objects o found none) of port
  where
    differ : (a b : ℕ) → (a == b) ≡ false → a ≡ b → ⊥
    differ a b off same = grind (arith, nat_tests)

    by : (b : Body) → is_data_of n b ≡ false → IsChangeOf change (data_of b) → data_port_in (data_of b) ≡ n → ⊥
    by (bodies.DataSpace d) off of port = differ d.port.0 n off port
    by _ off of port = of

first_change : (h : Held) (port : ℕ) (n : ℕ) (changes : List UnitChange) → 1 ≤ length changes → All (IsLogged h port) changes → port_is_used h n ≡ false → n ≡ port → ⊥
first_change h port n [] some all none same = omega (arith, some)
first_change h port n (c ∷ cs) some all none same =
    let logged = All-head (IsLogged h port) c cs all in
    let to : data_port h c.space.0 ≡ port = nat_same (data_port h c.space.0) port (and_parts (data_port h c.space.0 == port) (is_some (journal_for h c.space.0)) logged.journaled).0 in
    names_it h n c.space.0 c (object h c.space.0) refl none logged.entry (to ∙ sym same)

port_unnamed : (h : Held) (n : ℕ) (x : Object) (e : Both) → object h n ≡ Some x → same_kind kinds.Port (kind_of x.body) ≡ true → port_is_used h n ≡ false → IsUnit h e → IsUnnamed h n e
port_unnamed h n x e found is none unit =
    let other = port_body x.body is in
    record {
      block = off_part block_part h n e.0 x found other.0;
      port = λ same. absurd (first_change h (block_port h e.0) n e.1.changes unit.some unit.changes none same);
      journal = off_part journal_part h n (journal_number h e.0) x found other.1;
      changes = off_spaces h n x e.1.changes found other.2;
    }

right_no_port : (h : Held) (units : UnitMap) (n : ℕ) (x : Option Object) → AreRight h units → object h n ≡ x → IsKind kinds.Port x → port_is_used h n ≡ false → AreRight (without h n) units
right_no_port h units n None right found is none = right_nothing h units n right found
right_no_port h units n (Some x) right found is none =
    right_without h n units right (all_then (IsUnit h) (IsUnit h) (IsUnnamed h n) units (λ e one two. port_unnamed h n x e found is none one) right.each right.each)
    (unit_free h units n right (part_of journal_part h n x found (port_body x.body is).1))

pub right_port_gone : (h : Held) (units : UnitMap) (n : ℕ) → AreRight h units → port_is_used h n ≡ false → AreRight (destroyed h kinds.Port n) units
right_port_gone h units n right none = gone_right h units kinds.Port n right (λ is. right_no_port h units n (object h n) right refl is none)

-- ---- a journal space

journal_body : (b : Body) → same_kind kinds.Journal (kind_of b) ≡ true → (block_of b ≡ None) × (port_of b ≡ None) × (data_of b ≡ None)
journal_body (bodies.Journal x) is = (refl, refl, refl)
journal_body _ is = cc

-- a port that names the journal space, which is there, leads to it
pub leads_not : (h : Held) (n port : ℕ) (x : Option Object) → object h port ≡ x → is_attached h n ≡ false → journal_named h (part_in port_part x) ≡ Some n → ⊥
leads_not h n port None found none leads = cc
leads_not h n port (Some o) found none leads = by o.body (found_not (leads_to n) port h.objects o found none) leads
  where
    differ : (a b : ℕ) → (a == b) ≡ false → a ≡ b → ⊥
    differ a b off same = grind (arith, nat_tests)

    there : (b : Bool) (m : ℕ) → cond b (Some m) None ≡ Some n → m ≡ n
    there true m e = cc
    there false m e = cc

    by : (b : Body) → is_port_to n b ≡ false → journal_named h (port_of b) ≡ Some n → ⊥
    by (bodies.Port port) off leads = differ port.journal.0 n off (there (is_journal h port.journal.0) port.journal.0 leads)
    by _ off leads = cc

not_number : (h : Held) (n block : ℕ) (r : Option ℕ) → journal_for_block h block ≡ r → is_attached h n ≡ false → is_that_number n r ≡ false
not_number h n block None is none = refl
not_number h n block (Some m) is none = elim (n == m) as (λ b. (n == m) ≡ b → b ≡ false) [
  | true ↦ λ e. absurd (leads_not h n (block_port h block) (object h (block_port h block)) refl none (is ∙ ap (λ (i : ℕ). Some i) (sym (nat_same n m e))))
  | false ↦ λ e. refl
] refl

not_to : (h : Held) (n block : ℕ) (r : Option ℕ) → journal_for_block h block ≡ r → is_some r ≡ true → is_attached h n ≡ false → n ≡ unwrap_or r 0 → ⊥
not_to h n block None is some none same = false≢true some
not_to h n block (Some m) is some none same = leads_not h n (block_port h block) (object h (block_port h block)) refl none (is ∙ ap (λ (i : ℕ). Some i) (sym same))

journal_unnamed : (h : Held) (n : ℕ) (x : Object) (e : Both) → object h n ≡ Some x → same_kind kinds.Journal (kind_of x.body) ≡ true → is_attached h n ≡ false → IsUnit h e → IsUnnamed h n e
journal_unnamed h n x e found is none unit =
    let other = journal_body x.body is in
    record {
      block = off_part block_part h n e.0 x found other.0;
      port = off_part port_part h n (block_port h e.0) x found other.1;
      journal = λ same. absurd (not_to h n e.0 (journal_for_block h e.0) refl unit.journal none same);
      changes = off_spaces h n x e.1.changes found other.2;
    }

none_open : (h : Held) (n : ℕ) (units : UnitMap) → is_attached h n ≡ false → open_units h units n ≡ 0
none_open h n [] none = refl
none_open h n (e ∷ es) none =
    let rest = none_open h n es none in
    let one : one_if (unit_goes_to h n e) ≡ 0 = ap one_if (not_number h n e.0 (journal_for_block h e.0) refl none) in
    omega (arith, count_first (unit_goes_to h n) e es, rest, one)

right_no_journal : (h : Held) (units : UnitMap) (n : ℕ) (x : Option Object) → AreRight h units → object h n ≡ x → IsKind kinds.Journal x → is_attached h n ≡ false → AreRight (without h n) units
right_no_journal h units n None right found is none = right_nothing h units n right found
right_no_journal h units n (Some x) right found is none =
    right_without h n units right (all_then (IsUnit h) (IsUnit h) (IsUnnamed h n) units (λ e one two. journal_unnamed h n x e found is none one) right.each right.each)
    (none_open h n units none)

pub right_journal_gone : (h : Held) (units : UnitMap) (n : ℕ) → AreRight h units → is_attached h n ≡ false → AreRight (destroyed h kinds.Journal n) units
right_journal_gone h units n right none = gone_right h units kinds.Journal n right (λ is. right_no_journal h units n (object h n) right refl is none)
