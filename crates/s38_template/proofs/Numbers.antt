-- The number after BUDGET is what is printed of it, and is read so.
use Rattle.std.proofs.Common.{◌≡◌, ℕ, ◌<◌, ◌≤◌, ◌^◌, ◌-◌, true, false, not, ◌==◌, nat_lt, nat_le, List, length, get_or, slice_index, Some, sym, ap, ◌∙◌, refl, arith, inl, inr}
use Rattle.std.specs.Prelude.{decimal}
use Rattle.std.proofs.lemmas.Bool.{and_parts, and_from, or_cases, or_right, le-leb, leb-true, lt-ltb, ltb-true, eqb-true, eq-eqb, ne_eqb, not-true, not_from_false}
use Rattle.std.proofs.lemmas.Fmt.{decimal-digits_value, decimal_nonempty, digits_decimal, digits_value-decimal, first_decimal}
use Rattle.std.proofs.lemmas.Str.Parse.{FoldsDigits, IsDigitsTest, IsNumeralModel, numerals_by_fold}
use Rattle.std.proofs.lemmas.Option.{cond_some}
use Rattle.std.specs.List.{list_all}
use Rattle.std.specs.Option.{option_map}
use Rattle.s38_words.specs.DeclarationLine.{count_spelled}
use Rattle.s38_words.specs.Number.{are_digits, capped, is_numeral, is_whole_number, natural_of, value_after, value_of_digits}
use Rattle.s38_words.specs.Text.{is_digit}
use Rattle.s38_template.proofs.Options.{all_weaker, map_some}
use Rattle.s38_template.proofs.Texts.{is_free}

tells : IsDigitsTest (λ ds. are_digits ds ≡ true)
tells = record {
  empty = refl;
  parts = λ c cs e. (let k = and_parts (is_digit c) (are_digits cs) e in let m = and_parts (nat_le 48 c) (nat_le c 57) k.0 in ((leb-true 48 c m.0, leb-true c 57 m.1), k.1));
  more = λ c cs k e. and_from (is_digit c) (are_digits cs) (and_from (nat_le 48 c) (nat_le c 57) (le-leb 48 c k.0) (le-leb c 57 k.1)) e;
}

folds : FoldsDigits value_after
folds = record { empty = λ n. refl; more = λ n c cs k. refl }

own : IsNumeralModel (λ ds. are_digits ds ≡ true) (value_after 0)
own = numerals_by_fold (λ ds. are_digits ds ≡ true) tells value_after folds

digits_said : (text : List ℕ) (n : ℕ) → natural_of text ≡ Some n → n < 2 ^ 64 → text ≡ decimal n
unfolding natural_of
digits_said text n e small =
    let h = cond_some (is_whole_number text) (value_of_digits text) n e in
    let w = and_parts (is_numeral text) _ h.0 in
    let k = and_parts (nat_lt 0 (length text)) (are_digits text) w.0 in
    let lead : get_or text 0 0 ≡ 48 → length text ≡ 1 = λ z. elim (or_cases (length text == 1) (not (slice_index text 0 == 48)) w.1) [
      | inl t ↦ eqb-true (length text) 1 t
      | inr t ↦ absurd (let f = not-true (slice_index text 0 == 48) t in let y = eq-eqb (slice_index text 0) 48 z in let x = rw y at f in cc)
    ] in
    sym (decimal-digits_value own text k.1 (ltb-true 0 (length text) k.0) lead (omega (arith, h.1))) ∙ ap decimal h.1

held_small : (v n : ℕ) → capped (2 ^ 64 - 1) v ≡ n → n ≤ 10000000 → v ≡ n
held_small v n e h = omega arith

pub count_said : (text : List ℕ) (n : ℕ) → count_spelled text ≡ Some n → n ≤ 10000000 → text ≡ decimal n
count_said text n e h =
    map_some (capped (2 ^ 64 - 1)) (natural_of text) n e (λ v eq back. let s = held_small v n back h in digits_said text v eq (omega arith) ∙ ap decimal s)

whole_decimal : (n : ℕ) → 0 < n → n ≤ 10000000 → natural_of (decimal n) ≡ Some n
unfolding natural_of
whole_decimal n some h =
    let small : n < 2 ^ 64 = omega arith in
    let digits : are_digits (decimal n) ≡ true = digits_decimal own n small in
    let lead : (slice_index (decimal n) 0 == 48) ≡ false = ne_eqb (slice_index (decimal n) 0) 48 (λ z. omega (arith, first_decimal n some small)) in
    let numeral : is_numeral (decimal n) ≡ true = and_from (nat_lt 0 (length (decimal n))) (are_digits (decimal n)) (lt-ltb 0 (length (decimal n)) (decimal_nonempty n small)) digits in
    let whole : is_whole_number (decimal n) ≡ true = and_from (is_numeral (decimal n)) _ numeral (or_right (length (decimal n) == 1) (not (slice_index (decimal n) 0 == 48)) (not_from_false (slice_index (decimal n) 0 == 48) lead)) in
    rw whole (ap (λ v. Some v) (digits_value-decimal own n small))

held_same : (n : ℕ) → n ≤ 10000000 → capped (2 ^ 64 - 1) n ≡ n
held_same n h = omega arith

pub count_read : (n : ℕ) → 0 < n → n ≤ 10000000 → count_spelled (decimal n) ≡ Some n
count_read n some h = ap (option_map (capped (2 ^ 64 - 1))) (whole_decimal n some h) ∙ ap (λ v. Some v) (held_same n h)

free_digit : (c : ℕ) → is_digit c ≡ true → not (c == 32) ≡ true
free_digit c h = not_from_false (c == 32) (ne_eqb c 32 (λ e. omega (arith, leb-true 48 c (and_parts (nat_le 48 c) (nat_le c 57) h).0)))

pub digits_of_decimal : (n : ℕ) → n ≤ 10000000 → list_all is_digit (decimal n) ≡ true
digits_of_decimal n h = digits_decimal own n (omega arith)

pub free_decimal : (n : ℕ) → n ≤ 10000000 → is_free 32 (decimal n) ≡ true
free_decimal n h = all_weaker is_digit (λ c. not (c == 32)) free_digit (decimal n) (digits_of_decimal n h)
