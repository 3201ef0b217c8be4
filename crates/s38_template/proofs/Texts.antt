-- Parts of a text.
use Rattle.std.proofs.Common.{◌≡◌, ℕ, ◌+◌, ◌<◌, suc, Bool, true, false, not, ◌==◌, nat_le, List, [], ◌∷◌, ◌++◌, length, take, drop, slice_index, Option, Some, None, sym, ap, subst, ◌∙◌, refl, arith, add-one, inl, inr}
use Rattle.std.proofs.lemmas.Bool.{cases_Bool, cases_lt, eqb-true, eq-eqb, ne_eqb, lt-ltb, le-ltb, leb-true, and_parts, not-true, not_from_false}
use Rattle.std.proofs.lemmas.List.{append_assoc, length-append, length-take-le}
use Rattle.std.proofs.lemmas.Option.{same_Some}
use Rattle.std.proofs.Math.Bool.{and-true}
use Rattle.std.specs.List.{position_or_len, position, list_all, flat_map, slice_split}
use Rattle.std.specs.Option.{option_map, option_map_or}
use Rattle.s38_words.specs.Text.{after_byte, before, place_of}
use Rattle.s38_template.specs.Cut.{cut, onto_front}
use Rattle.s38_template.specs.Grammar.{is_odd, is_plain_byte, line_is_plain, with_feed}
use Rattle.s38_template.proofs.Options.{map_some, map_none, all_weaker}

-- ---- cut

-- the parts around a place
abbrev pub around : List ℕ → ℕ → List ℕ × List ℕ
around text at = (take at text, drop (at + 1) text)

around_more : (c : ℕ) (cs : List ℕ) (at : ℕ) → onto_front c (around cs at) ≡ around (c ∷ cs) (1 + at)
around_more c cs at = let e : 1 + at ≡ suc at = omega arith in rw e (simp add-one refl)

abbrev at_first : ℕ → List ℕ → ℕ
at_first sep cs = position_or_len (λ b. b == sep) cs

position_more : (sep c : ℕ) (cs : List ℕ) → (c == sep) ≡ false → position (λ b. b == sep) (c ∷ cs) ≡ option_map (λ at. 1 + at) (position (λ b. b == sep) cs)
position_more sep c cs e =
    rw e (elim (cases_lt (at_first sep cs) (length cs)) [
      | inl h ↦ rw (lt-ltb (1 + at_first sep cs) (suc (length cs)) (omega arith), lt-ltb (at_first sep cs) (length cs) h) refl
      | inr h ↦ rw (le-ltb (1 + at_first sep cs) (suc (length cs)) (omega arith), le-ltb (at_first sep cs) (length cs) h) refl
    ])

moved : (c : ℕ) (cs : List ℕ) (o : Option ℕ) → option_map (onto_front c) (option_map (around cs) o) ≡ option_map (around (c ∷ cs)) (option_map (λ at. 1 + at) o)
moved c cs None = refl
moved c cs (Some at) = ap (λ p. Some p) (around_more c cs at)

pub cut_position : (sep : ℕ) (text : List ℕ) → cut sep text ≡ option_map (around text) (position (λ b. b == sep) text)
cut_position sep [] = refl
cut_position sep (c ∷ cs) =
    elim (cases_Bool (c == sep)) [
      | inl e ↦ rw e (rw (lt-ltb 0 (suc (length cs)) (omega arith)) refl)
      | inr e ↦ rw (position_more sep c cs e) (rw e (rw (cut_position sep cs) (moved c cs (position (λ b. b == sep) cs))))
    ]

-- ---- the first line, by the first byte that is not plain

abbrev odd_at : List ℕ → ℕ
odd_at text = position_or_len is_odd text

-- the first line feed is there, after plain bytes
abbrev pub LineTo : List ℕ → ℕ → Type 0
LineTo text at = (cut 10 text ≡ Some (around text at)) × (list_all is_plain_byte (take at text) ≡ true)

no_feed : (c : ℕ) → is_plain_byte c ≡ true → (c == 10) ≡ false
no_feed c e = ne_eqb c 10 (λ z. omega (arith, leb-true 32 c (and_parts (nat_le 32 c) (nat_le c 126) e).0))

plain_more : (c : ℕ) (cs : List ℕ) (at : ℕ) → is_plain_byte c ≡ true → list_all is_plain_byte (take at cs) ≡ true → list_all is_plain_byte (take (1 + at) (c ∷ cs)) ≡ true
plain_more c cs at e h = let one : 1 + at ≡ suc at = omega arith in rw one (rw e h)

line_more : (c : ℕ) (cs : List ℕ) (at : ℕ) → is_plain_byte c ≡ true → LineTo cs at → LineTo (c ∷ cs) (1 + at)
line_more c cs at e line = (rw (no_feed c e) (rw line.0 (ap (λ p. Some p) (around_more c cs at))), plain_more c cs at e line.1)

odd_more : (c : ℕ) (cs : List ℕ) → is_plain_byte c ≡ true → odd_at (c ∷ cs) ≡ 1 + odd_at cs
odd_more c cs e = rw e refl

odd_first : (c : ℕ) (cs : List ℕ) → is_plain_byte c ≡ false → odd_at (c ∷ cs) ≡ 0
odd_first c cs e = rw e refl

index_more : (c : ℕ) (cs : List ℕ) (at : ℕ) → slice_index (c ∷ cs) (1 + at) ≡ slice_index cs at
index_more c cs at = let one : 1 + at ≡ suc at = omega arith in rw one refl

line_at : (text : List ℕ) → odd_at text < length text → slice_index text (odd_at text) ≡ 10 → LineTo text (odd_at text)
line_at [] small is = absurd (omega (arith, small))
line_at (c ∷ cs) small is =
    elim (cases_Bool (is_plain_byte c)) [
      | inl e ↦
          let odd = odd_more c cs e in
          let line = line_at cs (omega (arith, small, odd)) (sym (index_more c cs (odd_at cs)) ∙ ap (slice_index (c ∷ cs)) (sym odd) ∙ is) in
          subst (LineTo (c ∷ cs)) (sym odd) (line_more c cs (odd_at cs) e line)
      | inr e ↦
          let odd = odd_first c cs e in
          let first : c ≡ 10 = ap (slice_index (c ∷ cs)) (sym odd) ∙ is in
          subst (LineTo (c ∷ cs)) (sym odd) (rw (eq-eqb c 10 first) refl, refl)
    ]

odd_is : (text : List ℕ) (at : ℕ) → position is_odd text ≡ Some at → (odd_at text ≡ at) × (odd_at text < length text)
odd_is text at e =
    elim (cases_lt (odd_at text) (length text)) [
      | inl h ↦ (same_Some (odd_at text) at (rw (lt-ltb (odd_at text) (length text) h) at e), h)
      | inr h ↦ let bad = rw (le-ltb (odd_at text) (length text) h) at e in absurd cc
    ]

pub line_to : (text : List ℕ) (at : ℕ) → position is_odd text ≡ Some at → slice_index text at ≡ 10 → LineTo text at
line_to text at e is =
    let odd = odd_is text at e in
    subst (LineTo text) odd.0 (line_at text odd.1 (ap (slice_index text) odd.0 ∙ is))

pub plain_to : (text : List ℕ) (at : ℕ) → at < length text → list_all is_plain_byte (take at text) ≡ true → nat_le at 255 ≡ line_is_plain (take at text)
plain_to text at within all = rw (length-take-le at text (omega (arith, within)), all) (sym (and-true (nat_le at 255)))

-- what a cut gives is the text
pub cut_joins : (sep : ℕ) (text : List ℕ) (p : List ℕ × List ℕ) → cut sep text ≡ Some p → text ≡ p.0 ++ sep ∷ p.1
cut_joins sep [] p e = absurd cc
cut_joins sep (c ∷ cs) p e =
    let P : List ℕ × List ℕ → Type 0 = λ q. c ∷ cs ≡ q.0 ++ sep ∷ q.1 in
    elim (cases_Bool (c == sep)) [
      | inl t ↦ subst P (same_Some _ p (rw t at e)) (ap (λ b. b ∷ cs) (eqb-true c sep t))
      | inr f ↦ map_some (onto_front c) (cut sep cs) p (rw f at e) (λ q eq back. subst P back (ap (λ l. c ∷ l) (cut_joins sep cs q eq)))
    ]

-- no separator
abbrev pub is_free : ℕ → List ℕ → Bool
is_free sep text = list_all (λ c. not (c == sep)) text

pub cut_at : (sep : ℕ) (a b : List ℕ) → is_free sep a ≡ true → cut sep (a ++ sep ∷ b) ≡ Some (a, b)
cut_at sep [] b e = rw (eq-eqb sep sep refl) refl
cut_at sep (c ∷ a) b e =
    let parts = and_parts (not (c == sep)) (is_free sep a) e in
    rw (not-true (c == sep) parts.0) (rw (cut_at sep a b parts.1) refl)

pub cut_none : (sep : ℕ) (a : List ℕ) → is_free sep a ≡ true → cut sep a ≡ None
cut_none sep [] e = refl
cut_none sep (c ∷ a) e =
    let parts = and_parts (not (c == sep)) (is_free sep a) e in
    rw (not-true (c == sep) parts.0) (rw (cut_none sep a parts.1) refl)

pub rest_falls : (sep : ℕ) (text : List ℕ) (p : List ℕ × List ℕ) → cut sep text ≡ Some p → length p.1 < length text
rest_falls sep text p e = omega (arith, ap length (cut_joins sep text p e), length-append p.0 (sep ∷ p.1))

-- ---- the words before and after a separator

before_from : (text : List ℕ) (o : Option ℕ) (p : List ℕ × List ℕ) → option_map (around text) o ≡ Some p → option_map_or (λ k. take k text) o text ≡ p.0
before_from text None p e = absurd cc
before_from text (Some at) p e = ap (λ (q : List ℕ × List ℕ). q.0) (same_Some (around text at) p e)

pub before_cut : (sep : ℕ) (text : List ℕ) (p : List ℕ × List ℕ) → cut sep text ≡ Some p → before sep text ≡ p.0
before_cut sep text p e = before_from text (place_of sep text) p (sym (cut_position sep text) ∙ e)

-- ---- parts

pub split_at : (sep : ℕ) (text : List ℕ) (p : List ℕ × List ℕ) → cut sep text ≡ Some p → slice_split (λ c. c == sep) text ≡ p.0 ∷ slice_split (λ c. c == sep) p.1
split_at sep [] p e = absurd cc
split_at sep (c ∷ cs) p e =
    let P : List ℕ × List ℕ → Type 0 = λ q. slice_split (λ b. b == sep) (c ∷ cs) ≡ q.0 ∷ slice_split (λ b. b == sep) q.1 in
    elim (cases_Bool (c == sep)) [
      | inl t ↦ subst P (same_Some _ p (rw t at e)) (rw t refl)
      | inr f ↦ map_some (onto_front c) (cut sep cs) p (rw f at e) (λ q eq back. subst P back (rw f (rw (split_at sep cs q eq) refl)))
    ]

pub split_none : (sep : ℕ) (text : List ℕ) → cut sep text ≡ None → slice_split (λ c. c == sep) text ≡ text ∷ []
split_none sep [] e = refl
split_none sep (c ∷ cs) e =
    elim (cases_Bool (c == sep)) [
      | inl t ↦ absurd (let h = rw t at e in cc)
      | inr f ↦ rw f (rw (split_none sep cs (map_none (onto_front c) (cut sep cs) (rw f at e))) refl)
    ]

-- ---- lines

-- printed lines without a line feed are the parts before the last, which is empty
pub lines_split : (lines : List (List ℕ)) → list_all (is_free 10) lines ≡ true → slice_split (λ c. c == 10) (flat_map with_feed lines) ≡ lines ++ [] ∷ []
lines_split [] e = refl
lines_split (l ∷ ls) e =
    let parts = and_parts (is_free 10 l) (list_all (is_free 10) ls) e in
    let rest : List ℕ = flat_map with_feed ls in
    ap (slice_split (λ c. c == 10)) (append_assoc l (10 ∷ []) rest) ∙ split_at 10 (l ++ 10 ∷ rest) (l, rest) (cut_at 10 l rest parts.0) ∙ ap (λ more. l ∷ more) (lines_split ls parts.1)

free_byte : (c : ℕ) → is_plain_byte c ≡ true → not (c == 10) ≡ true
free_byte c h =
    let low = leb-true 32 c (and_parts (nat_le 32 c) (nat_le c 126) h).0 in
    not_from_false (c == 10) (ne_eqb c 10 (λ e. omega arith))

free_line : (line : List ℕ) → line_is_plain line ≡ true → is_free 10 line ≡ true
free_line line h = all_weaker is_plain_byte (λ c. not (c == 10)) free_byte line (and_parts (nat_le (length line) 255) (list_all is_plain_byte line) h).1

pub free_from_plain : (lines : List (List ℕ)) → list_all line_is_plain lines ≡ true → list_all (is_free 10) lines ≡ true
free_from_plain lines e = all_weaker line_is_plain (is_free 10) free_line lines e
