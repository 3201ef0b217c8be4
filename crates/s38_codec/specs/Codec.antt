-- Formats as pairs of a printer and a reader. A reader takes what it reads from the front.
use Rattle.std.specs.Prelude.{◌≡◌, ℕ, zero, suc, ◌<◌, Bool, true, false, ◌&&◌, ◌==◌, List, [], ◌∷◌, ◌++◌, length, take, drop, Option, Some, None, nat_lt, slice_index, if◌then◌else◌}
use Rattle.std.specs.Int.{Width, from_be_bytes, to_be_bytes, byte_len}

pub record Codec (T : Type 0) : Type 0 where
  pub print : T → List ℕ
  -- the value at the front, and the bytes after it
  pub read : List ℕ → Option (T × List ℕ)
  -- what can be printed
  pub fits : T → Bool

infixl 10 ◌>>=◌
abbrev pub ◌>>=◌ : {A B : Type 0} → Option A → (A → Option B) → Option B
None >>= f = None
(Some x) >>= f = f x

abbrev pub AreBytes : List ℕ → Type 0
AreBytes bytes = (i : ℕ) → slice_index bytes i < 256

-- what was read from the front of the bytes is printed there
pub record PrintsFront (T : Type 0) (c : Codec T) (bytes : List ℕ) (x : T) (rest : List ℕ) : Type 0 where
  pub parts : bytes ≡ c.print x ++ rest
  pub fits : c.fits x ≡ true

pub record IsCodec (T : Type 0) (c : Codec T) : Type 0 where
  pub again : (x : T) (rest : List ℕ) → c.fits x ≡ true → c.read (c.print x ++ rest) ≡ Some (x, rest)
  pub exact : (bytes : List ℕ) (x : T) (rest : List ℕ) → AreBytes bytes → c.read bytes ≡ Some (x, rest) → PrintsFront T c bytes x rest

-- ---- numbers and bytes

abbrev pub number : Width → ℕ → Codec ℕ
number w limit = record {
  print = λ n. to_be_bytes w n;
  read = λ bytes. if nat_lt (length bytes) (byte_len w) then None else Some (from_be_bytes w (take (byte_len w) bytes), drop (byte_len w) bytes);
  fits = λ n. nat_lt n limit;
}

abbrev pub byte_at : List ℕ → Option (ℕ × List ℕ)
byte_at [] = None
byte_at (b ∷ rest) = Some (b, rest)

abbrev pub byte : Codec ℕ
byte = record { print = λ n. n ∷ []; read = λ bytes. byte_at bytes; fits = λ n. nat_lt n 256 }

-- so many bytes
abbrev pub bytes : ℕ → Codec (List ℕ)
bytes n = record {
  print = λ xs. xs;
  read = λ xs. if nat_lt (length xs) n then None else Some (take n xs, drop n xs);
  fits = λ xs. length xs == n;
}

-- ---- formats of formats

-- one after the other; the format of the second may depend on the value of the first
abbrev pub dependent_pair : {A B : Type 0} → Codec A → (A → Codec B) → Codec (A × B)
dependent_pair a b = record {
  print = λ x. a.print x.0 ++ (b x.0).print x.1;
  read = λ xs. a.read xs >>= λ x. (b x.0).read x.1 >>= λ y. Some ((x.0, y.0), y.1);
  fits = λ x. a.fits x.0 && (b x.0).fits x.1;
}

-- only what passes a test
abbrev pub only : {A : Type 0} → (A → Bool) → Codec A → Codec A
only p c = record {
  print = c.print;
  read = λ xs. c.read xs >>= λ x. if p x.0 then Some x else None;
  fits = λ x. p x && c.fits x;
}

-- the same format of other values
abbrev pub seen : {A B : Type 0} → (A → B) → (B → A) → Codec A → Codec B
seen to back c = record {
  print = λ y. c.print (back y);
  read = λ xs. c.read xs >>= λ x. Some (to x.0, x.1);
  fits = λ y. c.fits (back y);
}

-- values of one format each, one after the other
unfoldable pub print_each : {A : Type 0} → List (Codec A) → List A → List ℕ
print_each [] xs = []
print_each (c ∷ cs) [] = []
print_each (c ∷ cs) (x ∷ xs) = c.print x ++ print_each cs xs

unfoldable pub read_each : {A : Type 0} → List (Codec A) → List ℕ → Option (List A × List ℕ)
read_each [] bs = Some ([], bs)
read_each (c ∷ cs) bs = c.read bs >>= λ x. read_each cs x.1 >>= λ y. Some (x.0 ∷ y.0, y.1)

unfoldable pub fits_each : {A : Type 0} → List (Codec A) → List A → Bool
fits_each [] [] = true
fits_each [] (x ∷ xs) = false
fits_each (c ∷ cs) [] = false
fits_each (c ∷ cs) (x ∷ xs) = c.fits x && fits_each cs xs

abbrev pub each : {A : Type 0} → List (Codec A) → Codec (List A)
each cs = record { print = λ xs. print_each cs xs; read = λ bs. read_each cs bs; fits = λ xs. fits_each cs xs }

-- so many of one format
unfoldable pub copies : {A : Type 0} → ℕ → A → List A
copies zero x = []
copies (suc n) x = x ∷ copies n x

abbrev pub times : {A : Type 0} → ℕ → Codec A → Codec (List A)
times n c = each (copies n c)

-- all of the bytes
abbrev pub whole : {A : Type 0} → Codec A → List ℕ → Option A
whole c xs = c.read xs >>= λ x. if length x.1 == 0 then Some x.0 else None

-- ---- one case of a type

-- what a value holds, where it is of the case; and the value that holds it
pub record Case (T B : Type 0) : Type 0 where
  pub of : B → Option T
  pub make : T → B

pub record IsCase (T B : Type 0) (p : Case T B) : Type 0 where
  pub got : (x : T) → p.of (p.make x) ≡ Some x
  pub back : (b : B) (x : T) → p.of b ≡ Some x → b ≡ p.make x

abbrev pub print_part : {T : Type 0} → Codec T → Option T → List ℕ
print_part c None = []
print_part c (Some x) = c.print x

abbrev pub fits_part : {T : Type 0} → Codec T → Option T → Bool
fits_part c None = false
fits_part c (Some x) = c.fits x

abbrev pub under : {T B : Type 0} → Case T B → Codec T → Codec B
under p c = record {
  print = λ b. print_part c (p.of b);
  read = λ xs. c.read xs >>= λ x. Some (p.make x.0, x.1);
  fits = λ b. fits_part c (p.of b);
}

abbrev pub byte_is_zero : ℕ → Bool
byte_is_zero b = b == 0
