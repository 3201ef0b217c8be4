-- What is forced without the number of no object has the store keep the same.
use Rattle.std.proofs.Common.{◌≡◌, ◌∙◌, ℕ, zero, suc, ◌<◌, ◌==◌, Bool, true, false, cond, not, List, [], ◌∷◌, ◌++◌, refl, sym, ap, subst, arith}
use Rattle.std.proofs.lemmas.Bool.Decides.{nat_tests}
use Rattle.std.specs.List.{flat_map, list_any}
use Rattle.std.specs.Option.{option_map}
use Rattle.std.specs.Prelude.{◌||◌, None, Option, Some}
use Rattle.s38_durable_state.specs.Durable.{Durable, durable_after, followed_or_whole, kept, kept_by_force, whole_object}
use Rattle.s38_durable_state.specs.Following.{Follows, header_kept, image_header_in}
use Rattle.s38_image.specs.PartPlaces.{ceiling_key}
use Rattle.s38_image.specs.declared.stored.Stored.{Stored}
use Rattle.s38_laws_objects.specs.Outline.{is_forced, speaks_of}
use Rattle.s38_rules.specs.store.Forcing.{Ceiling, Forced, Header, Removed, Whole, is_whole}
use Rattle.s38_rules.specs.state.Held.{Held, object, object_in}
use Rattle.s38_rules.specs.state.State.{State}
use Rattle.s38_rules.specs.declared.object.Object.{Object}
use Rattle.s38_flush.specs.Stepping.{AreNumbers, IsDue, is_forced_ceiling}
use Rattle.s38_flush.specs.Numbers.{is_numbered, numbered}

-- a test that what goes does not pass
any_numbered : (test : Forced → Bool) → ((one : Forced) → is_numbered one ≡ false → test one ≡ false) → (all : List Forced) → list_any test (numbered all) ≡ list_any test all
any_numbered test none [] = refl
any_numbered test none (one ∷ all) = by (is_numbered one) refl (any_numbered test none all)
  where
    by : (b : Bool) → is_numbered one ≡ b → list_any test (numbered all) ≡ list_any test all → list_any test (cond b (one ∷ numbered all) (numbered all)) ≡ (test one || list_any test all)
    by true is rest = ap (λ b. test one || b) rest
    by false is rest = rest ∙ sym (ap (λ b. b || list_any test all) (none one is))

not_false : (b : Bool) → not b ≡ false → b ≡ true
not_false true h = refl
not_false false h = absurd (let e : true ≡ false = h in cc)

apart : (n m : ℕ) → (n == 0) ≡ false → (m == 0) ≡ true → (m == n) ≡ false
apart n m other none = grind (arith, nat_tests)

speaks_apart : (n : ℕ) → (n == 0) ≡ false → (one : Forced) → is_numbered one ≡ false → speaks_of n one ≡ false
speaks_apart n other Ceiling is = refl
speaks_apart n other (Header m) is = apart n m other (not_false (m == 0) is)
speaks_apart n other (Whole m) is = apart n m other (not_false (m == 0) is)
speaks_apart n other (Removed m) is = apart n m other (not_false (m == 0) is)

whole_apart : (n : ℕ) → (n == 0) ≡ false → (one : Forced) → is_numbered one ≡ false → is_whole n one ≡ false
whole_apart n other Ceiling is = refl
whole_apart n other (Header m) is = refl
whole_apart n other (Whole m) is = apart n m other (not_false (m == 0) is)
whole_apart n other (Removed m) is = refl

ceiling_apart : (one : Forced) → is_numbered one ≡ false → is_forced_ceiling one ≡ false
ceiling_apart Ceiling is = absurd (let e : true ≡ false = is in cc)
ceiling_apart (Header m) is = refl
ceiling_apart (Whole m) is = refl
ceiling_apart (Removed m) is = refl

-- 0 is not spoken of
none_numbered : (all : List Forced) → is_forced 0 (numbered all) ≡ false
none_numbered [] = refl
none_numbered (one ∷ all) = by (is_numbered one) refl (none_numbered all)
  where
    passed : (b : Bool) → not b ≡ true → b ≡ false
    passed true h = absurd (let e : false ≡ true = h in cc)
    passed false h = refl

    by : (b : Bool) → is_numbered one ≡ b → is_forced 0 (numbered all) ≡ false → is_forced 0 (cond b (one ∷ numbered all) (numbered all)) ≡ false
    by true is rest = ap (λ b. b || is_forced 0 (numbered all)) (passed (speaks_of 0 one) is) ∙ rest
    by false is rest = rest

pub other_forced : (n : ℕ) (all : List Forced) → (n == 0) ≡ false → is_forced n (numbered all) ≡ is_forced n all
other_forced n all other = any_numbered (speaks_of n) (speaks_apart n other) all

pub numbers_numbered : (all : List Forced) → ((n : ℕ) → is_forced n all ≡ true → n < ceiling_key) → AreNumbers (numbered all)
numbers_numbered all low zero is = absurd (let e : false ≡ true = sym (none_numbered all) ∙ is in cc)
numbers_numbered all low (suc n) is = let other : (suc n == 0) ≡ false = grind (arith, nat_tests) in (omega arith, low (suc n) (sym (other_forced (suc n) all other) ∙ is))

-- ---- what is kept

kept_numbered : (all : List Forced) (s : State) (old : List Stored) (o : Object) → (o.number.0 == 0) ≡ false → kept_by_force (numbered all) s old o ≡ kept_by_force all s old o
kept_numbered all s old o other =
    ap (λ b. cond o.on_disk (cond b (whole_object s o) (followed_or_whole s o (kept old o.number.0)) ∷ []) []) (any_numbered (is_whole o.number.0) (whole_apart o.number.0 other) all)

all_numbered : (all : List Forced) (s : State) (old : List Stored) (os : List Object) → object_in os 0 ≡ None → flat_map (kept_by_force (numbered all) s old) os ≡ flat_map (kept_by_force all s old) os
all_numbered all s old [] none = refl
all_numbered all s old (o ∷ os) none = by (o.number.0 == 0) refl none (all_numbered all s old os)
  where
    by : (b : Bool) → (o.number.0 == 0) ≡ b → cond b (Some o) (object_in os 0) ≡ None → (object_in os 0 ≡ None → flat_map (kept_by_force (numbered all) s old) os ≡ flat_map (kept_by_force all s old) os)
        → kept_by_force (numbered all) s old o ++ flat_map (kept_by_force (numbered all) s old) os ≡ kept_by_force all s old o ++ flat_map (kept_by_force all s old) os
    by true is none rest = absurd (let e : Some o ≡ None = none in cc)
    by false is none rest =
        ap (λ (xs : List Stored). xs ++ flat_map (kept_by_force (numbered all) s old) os) (kept_numbered all s old o is) ∙ ap (λ (xs : List Stored). kept_by_force all s old o ++ xs) (rest none)

pub durable_numbered : (all : List Forced) (d : Durable) (s : State) → object s.held 0 ≡ None → durable_after (numbered all) d s ≡ durable_after all d s
durable_numbered all d s none = ap (λ (xs : List Stored). record { ceiling = s.held.ceiling; objects = xs }) (all_numbered all s d.objects s.held.objects none)

-- nothing is kept under 0
no_zero : (h : Held) (d : Durable) → Follows h d → object h 0 ≡ None → kept d.objects 0 ≡ None
no_zero h d follows none = by (kept d.objects 0) (follows.headers 0 ∙ ap image_header_in none)
  where
    by : (r : Option Stored) → option_map header_kept r ≡ None → r ≡ None
    by None h = refl
    by (Some x) h = cc

pub due_numbered : (all : List Forced) (old new : Held) (d : Durable) (s : State) → s.held ≡ new → Follows old d → object old 0 ≡ None → Follows new (durable_after all d s) → object new 0 ≡ None → IsDue all d s → IsDue (numbered all) d s
due_numbered all old new d s is before none behind gone due = record {
  objects = λ n silent. ap (λ (x : Durable). kept x.objects n) (durable_numbered all d s (ap (λ (h : Held). object h 0) is ∙ gone)) ∙ by n (n == 0) refl silent;
  ceiling = λ not. due.ceiling (sym (any_numbered is_forced_ceiling ceiling_apart all) ∙ not);
}
  where
    by : (n : ℕ) (b : Bool) → (n == 0) ≡ b → is_forced n (numbered all) ≡ false → kept (durable_after all d s).objects n ≡ kept d.objects n
    by n true none_there silent =
        let at : n ≡ 0 = grind (arith, nat_tests) in
        subst (λ (k : ℕ). kept (durable_after all d s).objects k ≡ kept d.objects k) (sym at) (no_zero new (durable_after all d s) behind gone ∙ sym (no_zero old d before none))
    by n false other silent = due.objects n (sym (other_forced n all other) ∙ silent)
