-- Lists of which a test keeps some members: what is true of each, and that another test finds the same.
use Rattle.std.proofs.Common.{◌≡◌, ℕ, zero, suc, Bool, true, false, cond, List, [], ◌∷◌, map, filter, take, refl, ap}
use Rattle.std.specs.List.{AllByRecursion}

not_both : {A : Type 0} (b : Bool) → b ≡ true → b ≡ false → A
not_both true p q = absurd (cc)
not_both false p q = absurd (cc)

pub each_of : {A : Type 0} (P Q : A → Type 0) (xs : List A) → ((x : A) → P x → Q x) → AllByRecursion P xs → AllByRecursion Q xs
each_of P Q [] f h = tt
each_of P Q (x ∷ xs) f h = (f x h.0, each_of P Q xs f h.1)

pub each : {A : Type 0} (P : A → Type 0) (xs : List A) → ((x : A) → P x) → AllByRecursion P xs
each P [] f = tt
each P (x ∷ xs) f = (f x, each P xs f)

pub each_first : {A : Type 0} (P : A → Type 0) (n : ℕ) (xs : List A) → AllByRecursion P xs → AllByRecursion P (take n xs)
each_first P zero xs h = tt
each_first P (suc n) [] h = tt
each_first P (suc n) (x ∷ xs) h = (h.0, each_first P n xs h.1)

-- what passes a test
pub each_passed : {A : Type 0} (P : A → Type 0) (test : A → Bool) (xs : List A) → AllByRecursion (λ x. test x ≡ true → P x) xs → AllByRecursion P (filter test xs)
each_passed P test [] h = tt
each_passed P test (x ∷ xs) h =
    elim (test x) as (λ b. test x ≡ b → AllByRecursion P (cond b (x ∷ filter test xs) (filter test xs))) [
      | true ↦ λ e. (h.0 e, each_passed P test xs h.1)
      | false ↦ λ e. each_passed P test xs h.1
    ] refl

-- a test that what goes does not pass
pub passed_kept : {A : Type 0} (test keep : A → Bool) (xs : List A) → AllByRecursion (λ x. test x ≡ true → keep x ≡ true) xs → filter test (filter keep xs) ≡ filter test xs
passed_kept test keep [] h = refl
passed_kept {A} test keep (x ∷ xs) h =
    let rest = passed_kept test keep xs h.1 in
    elim (keep x) as (λ b. keep x ≡ b → filter test (cond b (x ∷ filter keep xs) (filter keep xs)) ≡ cond (test x) (x ∷ filter test xs) (filter test xs)) [
      | true ↦ λ k. ap (λ (l : List A). cond (test x) (x ∷ l) l) rest
      | false ↦ λ k. elim (test x) as (λ b. test x ≡ b → filter test (filter keep xs) ≡ cond b (x ∷ filter test xs) (filter test xs)) [
        | true ↦ λ t. not_both (keep x) (h.0 t) k
        | false ↦ λ t. rest
      ] refl
    ] refl

pub mapped_alike : {A B : Type 0} (f g : A → B) (xs : List A) → AllByRecursion (λ x. f x ≡ g x) xs → map f xs ≡ map g xs
mapped_alike f g [] h = refl
mapped_alike f g (x ∷ xs) h = λ i. h.0 i ∷ mapped_alike f g xs h.1 i
