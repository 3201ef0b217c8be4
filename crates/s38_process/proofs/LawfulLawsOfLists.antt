-- Lists of variables, of their shapes and of their places.
use Rattle.std.proofs.Common.{◌≡◌, ℕ, zero, suc, ◌+◌, ◌<◌, Bool, true, false, ◌&&◌, List, [], ◌∷◌, ◌++◌, length, take, get_or, refl, sym, ◌∙◌, ap, subst, arith, length-append}
use Rattle.std.proofs.lemmas.List.{length-drop, length-take}
use Rattle.std.proofs.lemmas.List.FromFn.{get_or-range_with_len, length-range_with_len}
use Rattle.std.proofs.lemmas.List.Elements.{All-get_or}
use Rattle.std.proofs.lemmas.Option.{get_or_from_slice_get, slice_get-get_or, slice_get-map, slice_get_within}
use Rattle.std.specs.Prelude.{Some, slice_get, slice_set, if◌then◌else◌}
use Rattle.std.specs.Option.{option_map}
use Rattle.std.specs.List.{All, range_with_len}
use Rattle.s38_base.specs.declared.op.Op.{Op}
use Rattle.s38_code.specs.declared.reply.Val.{Val}
use Rattle.s38_code.specs.declared.reply.Val.TheVariants.{Bytes}
use Rattle.s38_compute.specs.Computed.{copies_left, copies_right}
use Rattle.s38_local.specs.Law.{Shape, shape_of, shapes_of}
use Rattle.s38_local.specs.Law.Shape.{OfBytes}
use Rattle.s38_process.specs.Replies.{merged}
use Rattle.s38_strings.specs.Copies.{copied_left, copied_right}

-- ---- tests

pub both_true : (a b : Bool) → (a && b) ≡ true → (a ≡ true) × (b ≡ true)
both_true true b h = (refl, h)
both_true false b h = cc

-- ---- elements by their number

pub get_left : {A : Type 0} (xs ys : List A) (k : ℕ) (x : A) → slice_get xs k ≡ Some x → slice_get (xs ++ ys) k ≡ Some x
get_left [] ys k x h = cc
get_left (y ∷ xs) ys zero x h = h
get_left (y ∷ xs) ys (suc k) x h = get_left xs ys k x h

pub get_right : {A : Type 0} (xs ys : List A) (j k : ℕ) → j ≡ length xs + k → slice_get (xs ++ ys) j ≡ slice_get ys k
get_right [] ys j k e = let same : j ≡ k = omega arith in ap (slice_get ys) same
get_right (x ∷ xs) ys zero k e = absurd (omega arith)
get_right (x ∷ xs) ys (suc j) k e = get_right xs ys j k (omega arith)

pub get_within : {A : Type 0} (n : ℕ) (xs : List A) (k : ℕ) (x : A) → k < n → slice_get xs k ≡ Some x → slice_get (take n xs) k ≡ Some x
get_within zero xs k x few h = absurd (omega arith)
get_within (suc n) [] k x few h = h
get_within (suc n) (y ∷ xs) zero x few h = h
get_within (suc n) (y ∷ xs) (suc k) x few h = get_within n xs k x (omega arith) h

pub get_number : (n k : ℕ) → k < n → slice_get (range_with_len 0 n) k ≡ Some k
get_number n k few =
    let within : k < length (range_with_len 0 n) = omega (arith, length-range_with_len 0 n) in
    let is : get_or (range_with_len 0 n) k 0 ≡ k = get_or-range_with_len 0 n k 0 few ∙ omega arith in
    slice_get-get_or (range_with_len 0 n) k 0 within ∙ ap Some is

pub all_at : {A : Type 0} (P : A → Type 0) (xs : List A) (k : ℕ) (x : A) → slice_get xs k ≡ Some x → All P xs → P x
all_at P xs k x h all = subst P (get_or_from_slice_get xs k x x h) (All-get_or P xs k x (slice_get_within xs k x h) all)

pub take_again : {A : Type 0} (n : ℕ) (xs : List A) → take n (take n xs) ≡ take n xs
take_again zero xs = refl
take_again (suc n) [] = refl
take_again (suc n) (x ∷ xs) = ap (λ ys. x ∷ ys) (take_again n xs)

-- ---- shapes

pub shape_here : (xs : List Val) (k : ℕ) (x : Val) → slice_get xs k ≡ Some x → slice_get (shapes_of xs) k ≡ Some (shape_of x)
shape_here xs k x is = slice_get-map shape_of xs k ∙ ap (option_map shape_of) is

pub shape_there : (xs : List Val) (k : ℕ) (s : Shape) → slice_get (shapes_of xs) k ≡ Some s → (x : Val) × ((slice_get xs k ≡ Some x) × (shape_of x ≡ s))
shape_there [] k s is = cc
shape_there (x ∷ xs) zero s is = let same : shape_of x ≡ s = cc in (x, (refl, same))
shape_there (x ∷ xs) (suc k) s is = shape_there xs k s is

-- a variable that gets a value of its own shape
pub set_shape : (values : List Val) (place : ℕ) (w : Val) → ((old : Val) → slice_get values place ≡ Some old → shape_of w ≡ shape_of old)
    → shapes_of (slice_set values place w) ≡ shapes_of values
set_shape [] place w h = refl
set_shape (x ∷ xs) zero w h = ap (λ s. s ∷ shapes_of xs) (h x refl)
set_shape (x ∷ xs) (suc k) w h = ap (λ ss. shape_of x ∷ ss) (set_shape xs k w h)

left_length : (old new : List ℕ) → length (copied_left old new) ≡ length old
left_length old new = simp (length-append, length-take, length-drop) (omega arith)

right_length : (old new : List ℕ) → length (copied_right old new) ≡ length old
right_length old new = simp (length-append, length-take, length-drop) (omega arith)

merged_length : (left right : Bool) (old new : List ℕ)
    → length (if left then copied_left old new else (if right then copied_right old new else new)) ≡ (if left then length old else (if right then length old else length new))
merged_length true right old new = left_length old new
merged_length false true old new = right_length old new
merged_length false false old new = refl

-- what is left of a variable, by its shape alone
abbrev shape_behind : Op → Shape → Val → Shape
shape_behind op (OfBytes n) (Bytes new) = OfBytes (if copies_left op then n else (if copies_right op then n else length new))
shape_behind op s v = shape_of v

merged_is : (op : Op) (old v : Val) → shape_of (merged op (Some old) v) ≡ shape_behind op (shape_of old) v
merged_is op (Bytes old) (Bytes new) = ap OfBytes (merged_length (copies_left op) (copies_right op) old new)
merged_is op (Bytes old) v = refl
merged_is op old v = refl

pub merged_shape : (op : Op) (a b v : Val) → shape_of a ≡ shape_of b → shape_of (merged op (Some a) v) ≡ shape_of (merged op (Some b) v)
merged_shape op a b v same = merged_is op a v ∙ ap (λ s. shape_behind op s v) same ∙ sym (merged_is op b v)
