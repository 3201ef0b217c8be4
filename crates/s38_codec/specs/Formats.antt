-- Formats that many images share: numbers of two, four and eight bytes, and lists and texts after their length.
use Rattle.std.specs.Prelude.{◌≡◌, ℕ, zero, suc, ◌+◌, ◌^◌, Bool, true, ◌&&◌, List, [], ◌∷◌, ◌++◌, length, Option, Some, None, nat_le}
use Rattle.std.specs.Int.{w16, w32, w64}
use Rattle.s38_codec.specs.Codec.{AreBytes, Case, Codec, byte, bytes, dependent_pair, number, only, seen, times, whole, ◌>>=◌}

abbrev pub u16 : Codec ℕ
u16 = number w16 (2 ^ 16)

abbrev pub u32 : Codec ℕ
u32 = number w32 (2 ^ 32)

abbrev pub u64 : Codec ℕ
u64 = number w64 (2 ^ 64)

-- ---- a length, and what has it

abbrev pub counted_by : {A : Type 0} → ℕ × List A → List A
counted_by x = x.1

abbrev pub with_count : {A : Type 0} → List A → ℕ × List A
with_count xs = (length xs, xs)

-- a number that says how long a list is, and its items
abbrev pub list_of : {A : Type 0} → Codec A → Codec (List A)
list_of c = seen counted_by with_count (dependent_pair u32 (λ n. times n c))

abbrev pub short_list : {A : Type 0} → Codec A → Codec (List A)
short_list c = seen counted_by with_count (dependent_pair u16 (λ n. times n c))

-- a number that says how many bytes there are, at most so many, and the bytes
abbrev pub text : ℕ → Codec (List ℕ)
text longest = seen counted_by with_count (dependent_pair (only (λ n. nat_le n longest) u16) bytes)

abbrev pub short_text : ℕ → Codec (List ℕ)
short_text longest = seen counted_by with_count (dependent_pair (only (λ n. nat_le n longest) byte) bytes)

-- ---- formats of all bytes

-- how a value is written, and which value all of some bytes are
pub record Spelling (T : Type 0) : Type 0 where
  pub print : T → List ℕ
  pub read : List ℕ → Option T

-- what fits is read again, and what is read is printed so
pub record IsSpelling (T : Type 0) (s : Spelling T) (Fits : T → Type 0) : Type 0 where
  pub again : (x : T) → Fits x → s.read (s.print x) ≡ Some x
  pub exact : (bytes : List ℕ) (x : T) → AreBytes bytes → s.read bytes ≡ Some x → (bytes ≡ s.print x) × Fits x

-- all bytes by a format, and nothing left
abbrev pub all_by : {T : Type 0} → Codec T → Spelling T
all_by c = record { print = c.print; read = λ bytes. whole c bytes }

-- one case of a type
abbrev pub print_by : {T : Type 0} → Spelling T → Option T → List ℕ
print_by s None = []
print_by s (Some x) = s.print x

abbrev pub case_by : {T B : Type 0} → Case T B → Spelling T → Spelling B
case_by p s = record {
  print = λ b. print_by s (p.of b);
  read = λ bytes. s.read bytes >>= λ x. Some (p.make x);
}

-- what a value of the case fits
abbrev pub FitsCase : {T : Type 0} → (T → Type 0) → Option T → Type 0
FitsCase Fits None = ⊥
FitsCase Fits (Some x) = Fits x

-- ---- values of formats by their place, as many as fill the bytes

unfoldable pub print_from : {A : Type 0} → (ℕ → Codec A) → ℕ → List A → List ℕ
print_from cs k [] = []
print_from cs k (x ∷ xs) = (cs k).print x ++ print_from cs (k + 1) xs

-- at most so many, from a place on
unfoldable pub read_from : {A : Type 0} → (ℕ → Codec A) → ℕ → ℕ → List ℕ → Option (List A)
read_from cs most k [] = Some []
read_from cs zero k (b ∷ bs) = None
read_from cs (suc most) k (b ∷ bs) = (cs k).read (b ∷ bs) >>= λ x. read_from cs most (k + 1) x.1 >>= λ xs. Some (x.0 ∷ xs)

unfoldable pub fits_from : {A : Type 0} → (ℕ → Codec A) → ℕ → List A → Bool
fits_from cs k [] = true
fits_from cs k (x ∷ xs) = (cs k).fits x && fits_from cs (k + 1) xs

-- each takes a byte at least
abbrev pub filled_by : {A : Type 0} → (ℕ → Codec A) → ℕ → Spelling (List A)
filled_by cs first = record { print = λ xs. print_from cs first xs; read = λ bs. read_from cs (length bs) first bs }
