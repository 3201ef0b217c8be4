-- The order of names is that of their first bytes as one number, where these differ.
use Rattle.std.proofs.Common.{◌≡◌, ℕ, zero, suc, ◌+◌, ◌*◌, ◌<◌, ◌≤◌, true, ◌&&◌, nat_le, nat_lt, List, [], ◌∷◌, length, slice_index, refl, sym, ◌∙◌, ap, inl, inr, arith}
use Rattle.std.proofs.lemmas.Bool.{and_parts, cases_order, leb-true, or_cases}
use Rattle.std.specs.Cmp.{nat_cmp_is}
use Rattle.std.specs.Cmp.Lexicographic.{slice_cmp}
use Rattle.std.specs.Int.{w64, from_be_bytes}
use Rattle.std.specs.Ordering.{nat_cmp, ordering_then}
use Rattle.std.specs.declared.cmp.Ordering.TheVariants.{Less, Equal, Greater}
use Rattle.s38_base.specs.NameText.{are_name_bytes, front, is_name, is_name_byte, padded}

name_byte : (b : ℕ) → is_name_byte b ≡ true → (0 < b) × (b < 256)
name_byte b h =
    elim (or_cases (nat_le 65 b && nat_le b 90) (nat_le 48 b && nat_le b 57) h) [
      | inl letter ↦
          let parts = and_parts (nat_le 65 b) (nat_le b 90) letter in
          let low = leb-true 65 b parts.0 in
          let high = leb-true b 90 parts.1 in
          (omega (arith, low), omega (arith, high))
      | inr digit ↦
          let parts = and_parts (nat_le 48 b) (nat_le b 57) digit in
          let low = leb-true 48 b parts.0 in
          let high = leb-true b 57 parts.1 in
          (omega (arith, low), omega (arith, high))
    ]

positive : (b : ℕ) → is_name_byte b ≡ true → 0 < b
positive b h = (name_byte b h).0

below_256 : (b : ℕ) → is_name_byte b ≡ true → b < 256
below_256 b h = (name_byte b h).1

first_byte : (b : ℕ) (bs : List ℕ) → are_name_bytes (b ∷ bs) ≡ true → is_name_byte b ≡ true
first_byte b bs h = (and_parts (is_name_byte b) (are_name_bytes bs) h).0

more_bytes : (b : ℕ) (bs : List ℕ) → are_name_bytes (b ∷ bs) ≡ true → are_name_bytes bs ≡ true
more_bytes b bs h = (and_parts (is_name_byte b) (are_name_bytes bs) h).1

-- what is less before stays so
front_below : (n m k : ℕ) (xs ys : List ℕ) → are_name_bytes xs ≡ true → are_name_bytes ys ≡ true → m < k → front m n xs < front k n ys
front_below zero m k xs ys hx hy h = h
front_below (suc n) m k [] [] hx hy h = front_below n (m * 256) (k * 256) [] [] hx hy (omega arith)
front_below (suc n) m k [] (y ∷ ys) hx hy h = front_below n (m * 256) (k * 256 + y) [] ys hx (more_bytes y ys hy) (omega arith)
front_below (suc n) m k (x ∷ xs) [] hx hy h =
    let low = below_256 x (first_byte x xs hx) in
    front_below n (m * 256 + x) (k * 256) xs [] (more_bytes x xs hx) hy (omega arith)
front_below (suc n) m k (x ∷ xs) (y ∷ ys) hx hy h =
    let low = below_256 x (first_byte x xs hx) in
    front_below n (m * 256 + x) (k * 256 + y) xs ys (more_bytes x xs hx) (more_bytes y ys hy) (omega arith)

less : (x y : ℕ) → x < y → nat_cmp x y ≡ Less
less x y h = sym (nat_cmp_is x y Less h)

greater : (x y : ℕ) → y < x → nat_cmp x y ≡ Greater
greater x y h = sym (nat_cmp_is x y Greater h)

same : (x : ℕ) → nat_cmp x x ≡ Equal
same x = sym (nat_cmp_is x x Equal refl)

-- where the numbers differ they are ordered as the texts
front_orders : (n m : ℕ) (xs ys : List ℕ) → are_name_bytes xs ≡ true → are_name_bytes ys ≡ true → (front m n xs ≡ front m n ys → ⊥) → nat_cmp (front m n xs) (front m n ys) ≡ slice_cmp nat_cmp xs ys
front_orders zero m xs ys hx hy h = absurd (h refl)
front_orders (suc n) m [] [] hx hy h = absurd (h refl)
front_orders (suc n) m [] (y ∷ ys) hx hy h =
    let high = positive y (first_byte y ys hy) in
    less _ _ (front_below n (m * 256) (m * 256 + y) [] ys hx (more_bytes y ys hy) (omega arith))
front_orders (suc n) m (x ∷ xs) [] hx hy h =
    let high = positive x (first_byte x xs hx) in
    greater _ _ (front_below n (m * 256) (m * 256 + x) [] xs hy (more_bytes x xs hx) (omega arith))
front_orders (suc n) m (x ∷ xs) (y ∷ ys) hx hy h =
    let rest = slice_cmp nat_cmp xs ys in
    let hxs = more_bytes x xs hx in
    let hys = more_bytes y ys hy in
    elim (cases_order x y) [
      | inl is ↦
          ap (λ k. nat_cmp (front (m * 256 + x) n xs) (front (m * 256 + k) n ys)) (sym is)
          ∙ front_orders n (m * 256 + x) xs ys hxs hys (λ e. h (e ∙ ap (λ k. front (m * 256 + k) n ys) is))
          ∙ sym (ap (λ o. ordering_then o rest) (ap (λ k. nat_cmp x k) (sym is) ∙ same x))
      | inr apart ↦ elim apart [
        | inl below ↦
            less _ _ (front_below n (m * 256 + x) (m * 256 + y) xs ys hxs hys (omega arith))
            ∙ sym (ap (λ o. ordering_then o rest) (less x y below))
        | inr above ↦
            greater _ _ (front_below n (m * 256 + y) (m * 256 + x) ys xs hys hxs (omega arith))
            ∙ sym (ap (λ o. ordering_then o rest) (greater x y above))
      ]
    ]

-- where the numbers are one and no byte comes after, the texts are one
front_equal : (n m : ℕ) (xs ys : List ℕ) → are_name_bytes xs ≡ true → are_name_bytes ys ≡ true → length xs ≤ n → length ys ≤ n → front m n xs ≡ front m n ys → Equal ≡ slice_cmp nat_cmp xs ys
front_equal n m [] [] hx hy sx sy e = refl
front_equal zero m [] (y ∷ ys) hx hy sx sy e = absurd (omega (arith, sy))
front_equal zero m (x ∷ xs) ys hx hy sx sy e = absurd (omega (arith, sx))
front_equal (suc n) m [] (y ∷ ys) hx hy sx sy e =
    let high = positive y (first_byte y ys hy) in
    let far = front_below n (m * 256) (m * 256 + y) [] ys hx (more_bytes y ys hy) (omega arith) in
    absurd (omega (arith, e, far))
front_equal (suc n) m (x ∷ xs) [] hx hy sx sy e =
    let high = positive x (first_byte x xs hx) in
    let far = front_below n (m * 256) (m * 256 + x) [] xs hy (more_bytes x xs hx) (omega arith) in
    absurd (omega (arith, e, far))
front_equal (suc n) m (x ∷ xs) (y ∷ ys) hx hy sx sy e =
    let rest = slice_cmp nat_cmp xs ys in
    let hxs = more_bytes x xs hx in
    let hys = more_bytes y ys hy in
    elim (cases_order x y) [
      | inl is ↦
          front_equal n (m * 256 + x) xs ys hxs hys (omega (arith, sx)) (omega (arith, sy)) (e ∙ ap (λ k. front (m * 256 + k) n ys) (sym is))
          ∙ sym (ap (λ o. ordering_then o rest) (ap (λ k. nat_cmp x k) (sym is) ∙ same x))
      | inr apart ↦ elim apart [
        | inl below ↦
            let far = front_below n (m * 256 + x) (m * 256 + y) xs ys hxs hys (omega arith) in
            absurd (omega (arith, e, far))
        | inr above ↦
            let far = front_below n (m * 256 + y) (m * 256 + x) ys xs hys hxs (omega arith) in
            absurd (omega (arith, e, far))
      ]
    ]

-- ---- of two names

bytes_of : (text : List ℕ) → is_name text ≡ true → are_name_bytes text ≡ true
bytes_of text h =
    let p = and_parts (nat_lt 0 (length text)) (nat_le (length text) 30 && are_name_bytes text) h in
    (and_parts (nat_le (length text) 30) (are_name_bytes text) p.1).1

pub names_order : (x y : List ℕ) (m k : ℕ) → is_name x ≡ true → is_name y ≡ true → m ≡ front 0 8 x → k ≡ front 0 8 y → (m ≡ k → ⊥) → nat_cmp m k ≡ slice_cmp nat_cmp x y
names_order x y m k hx hy im ik h =
    ap (λ n. nat_cmp n k) im ∙ ap (λ n. nat_cmp (front 0 8 x) n) ik
    ∙ front_orders 8 0 x y (bytes_of x hx) (bytes_of y hy) (λ e. h (im ∙ e ∙ sym ik))

pub names_equal : (x y : List ℕ) (m k : ℕ) → is_name x ≡ true → is_name y ≡ true → m ≡ front 0 8 x → k ≡ front 0 8 y → m ≡ k → nat_le (length x) 8 ≡ true → nat_le (length y) 8 ≡ true → Equal ≡ slice_cmp nat_cmp x y
names_equal x y m k hx hy im ik e sx sy =
    front_equal 8 0 x y (bytes_of x hx) (bytes_of y hy) (leb-true (length x) 8 sx) (leb-true (length y) 8 sy) (sym im ∙ e ∙ ik)

-- ---- the number of a name's first eight bytes

pub head_is : (text : List ℕ) → from_be_bytes w64 (slice_index (padded text) 0 ∷ slice_index (padded text) 1 ∷ slice_index (padded text) 2 ∷ slice_index (padded text) 3 ∷ slice_index (padded text) 4 ∷ slice_index (padded text) 5 ∷ slice_index (padded text) 6 ∷ slice_index (padded text) 7 ∷ []) ≡ front 0 8 text
head_is [] = omega arith
head_is (a ∷ []) = omega arith
head_is (a ∷ b ∷ []) = omega arith
head_is (a ∷ b ∷ c ∷ []) = omega arith
head_is (a ∷ b ∷ c ∷ d ∷ []) = omega arith
head_is (a ∷ b ∷ c ∷ d ∷ e ∷ []) = omega arith
head_is (a ∷ b ∷ c ∷ d ∷ e ∷ f ∷ []) = omega arith
head_is (a ∷ b ∷ c ∷ d ∷ e ∷ f ∷ g ∷ []) = omega arith
head_is (a ∷ b ∷ c ∷ d ∷ e ∷ f ∷ g ∷ h ∷ more) = omega arith
