-- Pages of 512 bytes, one after another.
use Rattle.std.proofs.Common.{◌<◌, ℕ, zero, suc, List, [], ◌∷◌, ◌++◌, arith}
use Rattle.std.specs.Prelude.{slice_index}
use Rattle.s38_base.specs.declared.page.Change.{Change}
use Rattle.s38_codec.specs.Codec.{AreBytes}
use Rattle.s38_image.specs.Fitting.{AreFine, AreWhole}
use Rattle.s38_image.specs.Pages.{bytes_of_page, stream}
use Rattle.s38_restart.specs.Parts.{HasWholePage}

bytes_before : (x : ℕ) (xs : List ℕ) → x < 256 → AreBytes xs → AreBytes (x ∷ xs)
bytes_before x xs low h = λ i. by i
  where
    by : (i : ℕ) → slice_index (x ∷ xs) i < 256
    by zero = low
    by (suc i) = h i

bytes_append : (xs ys : List ℕ) → AreBytes xs → AreBytes ys → AreBytes (xs ++ ys)
bytes_append [] ys h k = k
bytes_append (x ∷ xs) ys h k = bytes_before x (xs ++ ys) (h 0) (bytes_append xs ys (λ i. h (suc i)) k)

bytes_rest : (xs ys : List ℕ) → AreBytes (xs ++ ys) → AreBytes ys
bytes_rest [] ys h = h
bytes_rest (x ∷ xs) ys h = bytes_rest xs ys (λ i. h (suc i))

no_bytes : AreBytes []
no_bytes i = omega arith

bytes_front : (xs ys : List ℕ) → AreBytes (xs ++ ys) → AreBytes xs
bytes_front [] ys h = no_bytes
bytes_front (x ∷ xs) ys h = bytes_before x xs (h 0) (bytes_front xs ys (λ i. h (suc i)))

stream_push : (xs : List Change) (c : Change) → AreBytes (stream xs) → AreBytes (bytes_of_page c.page) → AreBytes (stream (xs ++ c ∷ []))
stream_push [] c h k = bytes_append (bytes_of_page c.page) [] k h
stream_push (x ∷ xs) c h k =
    bytes_append (bytes_of_page x.page) (stream (xs ++ c ∷ [])) (bytes_front (bytes_of_page x.page) (stream xs) h) (stream_push xs c (bytes_rest (bytes_of_page x.page) (stream xs) h) k)

whole_push : (xs : List Change) (c : Change) → AreWhole xs → HasWholePage c → AreWhole (xs ++ c ∷ [])
unfolding AreWhole
whole_push [] c h fine = (fine.whole, tt)
whole_push (x ∷ xs) c h fine = (h.0, whole_push xs c h.1 fine)

pub fine_push : (xs : List Change) (c : Change) → AreFine xs → HasWholePage c → AreFine (xs ++ c ∷ [])
fine_push xs c h fine = record { whole = whole_push xs c h.whole fine; bytes = stream_push xs c h.bytes fine.bytes }

pub fine_none : AreFine []
unfolding AreWhole
fine_none = record { whole = tt; bytes = no_bytes }
