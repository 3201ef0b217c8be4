-- Pieces that are cut from bytes: which one is at a place, how many there are, and one more.
use Rattle.std.proofs.Common.{◌≡◌, ℕ, zero, suc, ◌+◌, ◌-◌, ◌*◌, ◌<◌, ◌≤◌, true, List, [], ◌∷◌, ◌++◌, append_assoc, length, take, drop, refl, sym, ◌∙◌, ap, arith, length-drop}
use Rattle.std.proofs.Math.Seq.{take-length, take-append_seam, drop-append_seam}
use Rattle.std.proofs.lemmas.List.Sums.{sum_by-cons}
use Rattle.std.proofs.lemmas.List.{drop_all, drop-drop, take-append-le, take-append-drop, drop-append-le, length-take}
use Rattle.std.specs.Prelude.{nat_le, Some, None, IsTrue, slice_get, slice_index, sum_by}
use Rattle.s38_journals.proofs.Tests.{both, first_of, second_of, le_tells, eq_tells, le_holds, eq_holds}
use Rattle.s38_journals.specs.Stored.{are_ends, joined, pieces_cut}

-- a start is within the bytes
starts_within : (ends : List ℕ) (start len : ℕ) → are_ends start ends len ≡ true → start ≤ len
starts_within [] start len e = let same = eq_tells start len e in omega arith
starts_within (end ∷ ends) start len e =
    let first = le_tells (start + 41) end (first_of (nat_le (start + 41) end) _ e) in
    let rest = starts_within ends end len (second_of (nat_le (start + 41) end) _ e) in
    omega arith

-- a piece starts where it ends or before, and ends within the bytes
pub record IsWithin (start end len : ℕ) : Type 0 where
  pub order : start ≤ end
  pub within : end ≤ len

pub place_within : (ends : List ℕ) (start len at : ℕ) → are_ends start ends len ≡ true → at < length ends → IsWithin (slice_index (start ∷ ends) at) (slice_index ends at) len
place_within [] start len at e in_list = absurd (omega arith)
place_within (end ∷ ends) start len zero e in_list =
    record {
      order = let first = le_tells (start + 41) end (first_of (nat_le (start + 41) end) _ e) in omega arith;
      within = starts_within ends end len (second_of (nat_le (start + 41) end) _ e);
    }
place_within (end ∷ ends) start len (suc k) e in_list =
    place_within ends end len k (second_of (nat_le (start + 41) end) _ e) (omega arith)

pub cut_at : (ends : List ℕ) (bytes : List ℕ) (start at : ℕ) → at < length ends → slice_get (pieces_cut start ends bytes) at ≡ Some (take (slice_index ends at - slice_index (start ∷ ends) at) (drop (slice_index (start ∷ ends) at) bytes))
cut_at [] bytes start at in_list = absurd (omega arith)
cut_at (end ∷ ends) bytes start zero in_list = refl
cut_at (end ∷ ends) bytes start (suc k) in_list = cut_at ends bytes end k (omega arith)

pub cut_past : (ends : List ℕ) (bytes : List ℕ) (start at : ℕ) → length ends ≤ at → slice_get (pieces_cut start ends bytes) at ≡ None
cut_past [] bytes start at past = refl
cut_past (end ∷ ends) bytes start zero past = absurd (omega arith)
cut_past (end ∷ ends) bytes start (suc k) past = cut_past ends bytes end k (omega arith)

pub cut_count : (ends bytes : List ℕ) (start : ℕ) → length (pieces_cut start ends bytes) ≡ length ends
cut_count [] bytes start = refl
cut_count (end ∷ ends) bytes start = ap suc (cut_count ends bytes end)

-- a piece has as many bytes as lie between its start and its end
piece_length : (bytes : List ℕ) (start end : ℕ) → start ≤ end → end ≤ length bytes → length (take (end - start) (drop start bytes)) ≡ end - start
piece_length bytes start end order within = omega (arith, length-take (end - start) (drop start bytes), length-drop start bytes)

pub cut_sum : (ends bytes : List ℕ) (start : ℕ) → are_ends start ends (length bytes) ≡ true → start + sum_by length (pieces_cut start ends bytes) ≡ length bytes
cut_sum [] bytes start e = let same = eq_tells start (length bytes) e in omega arith
cut_sum (end ∷ ends) bytes start e =
    let order = le_tells (start + 41) end (first_of (nat_le (start + 41) end) _ e) in
    let more = second_of (nat_le (start + 41) end) _ e in
    let within = starts_within ends end (length bytes) more in
    let rest = cut_sum ends bytes end more in
    let one = piece_length bytes start end (omega arith) within in
    let piece = take (end - start) (drop start bytes) in
    let all = sum_by-cons {X = List ℕ} length piece (pieces_cut end ends bytes) in
    omega arith

-- there are no more pieces than bytes
ends_count : (ends : List ℕ) (start len : ℕ) → are_ends start ends len ≡ true → start + 41 * length ends ≤ len
ends_count [] start len e = let same = eq_tells start len e in omega arith
ends_count (end ∷ ends) start len e =
    let first = le_tells (start + 41) end (first_of (nat_le (start + 41) end) _ e) in
    let rest = ends_count ends end len (second_of (nat_le (start + 41) end) _ e) in
    omega arith

pub kept_count : (ends : List ℕ) (len : ℕ) → IsTrue (are_ends 0 ends len) → 41 * length ends ≤ len
kept_count ends len e = let all = ends_count ends 0 len e in omega arith

pub kept_sum : (ends bytes : List ℕ) → IsTrue (are_ends 0 ends (length bytes)) → sum_by length (pieces_cut 0 ends bytes) ≡ length bytes
kept_sum ends bytes e = let all = cut_sum ends bytes 0 e in omega arith

-- the pieces are all bytes
cut_joined : (ends bytes : List ℕ) (start : ℕ) → are_ends start ends (length bytes) ≡ true → joined (pieces_cut start ends bytes) ≡ drop start bytes
cut_joined [] bytes start e = sym (drop_all start bytes (let same = eq_tells start (length bytes) e in omega arith))
cut_joined (end ∷ ends) bytes start e =
    let first = le_tells (start + 41) end (first_of (nat_le (start + 41) end) _ e) in
    let more : are_ends end ends (length bytes) ≡ true = second_of (nat_le (start + 41) end) _ e in
    let rest : drop (end - start) (drop start bytes) ≡ drop end bytes =
    drop-drop (end - start) start bytes ∙ ap (λ (n : ℕ). drop n bytes) (omega arith) in
    rw (cut_joined ends bytes end more, sym rest) (take-append-drop (end - start) (drop start bytes))

pub kept_joined : (ends bytes : List ℕ) → IsTrue (are_ends 0 ends (length bytes)) → joined (pieces_cut 0 ends bytes) ≡ bytes
kept_joined ends bytes e = cut_joined ends bytes 0 e

-- one more piece, after the bytes
pub ends_pushed : (ends : List ℕ) (start len more : ℕ) → 41 ≤ more → are_ends start ends len ≡ true → are_ends start (ends ++ (len + more) ∷ []) (len + more) ≡ true
ends_pushed [] start len more some e =
    let same = eq_tells start len e in
    both (nat_le (start + 41) (len + more)) _ (le_holds (start + 41) (len + more) (omega arith)) (eq_holds (len + more) (len + more) refl)
ends_pushed (end ∷ ends) start len more some e =
    both (nat_le (start + 41) end) _ (first_of (nat_le (start + 41) end) _ e) (ends_pushed ends end len more some (second_of (nat_le (start + 41) end) _ e))

last_piece : (bytes piece : List ℕ) (start end : ℕ) → start ≡ length bytes → end ≡ length bytes + length piece → take (end - start) (drop start (bytes ++ piece)) ≡ piece
last_piece bytes piece start end e f =
    let rest : end - start ≡ length piece = omega arith in
    rw (rest, e, drop-append_seam bytes piece) (take-length piece)

earlier_piece : (bytes piece : List ℕ) (start end : ℕ) → start ≤ end → end ≤ length bytes → take (end - start) (drop start (bytes ++ piece)) ≡ take (end - start) (drop start bytes)
earlier_piece bytes piece start end order within =
    let enough : start ≤ length bytes = omega arith in
    rw (drop-append-le start bytes piece enough)
    (take-append-le (end - start) (drop start bytes) piece (omega (arith, length-drop start bytes)))

cut_added : (ends bytes piece : List ℕ) (start end : ℕ) → are_ends start ends (length bytes) ≡ true → end ≡ length bytes + length piece → pieces_cut start (ends ++ end ∷ []) (bytes ++ piece) ≡ pieces_cut start ends bytes ++ piece ∷ []
cut_added [] bytes piece start end e f =
    ap (λ (p : List ℕ). p ∷ []) (last_piece bytes piece start end (eq_tells start (length bytes) e) f)
cut_added (first ∷ ends) bytes piece start end e f =
    let order = le_tells (start + 41) first (first_of (nat_le (start + 41) first) _ e) in
    let more = second_of (nat_le (start + 41) first) _ e in
    let within = starts_within ends first (length bytes) more in
    rw (earlier_piece bytes piece start first (let first_one = order in omega arith) within, cut_added ends bytes piece first end more f) refl

pub three_parts : (bytes head before after : List ℕ) → ((bytes ++ head) ++ before) ++ after ≡ bytes ++ (head ++ (before ++ after))
three_parts bytes head before after = simp append_assoc

-- bytes that were added, and those before them
pub front_of : (bytes more : List ℕ) (n : ℕ) → length bytes ≡ n → take n (bytes ++ more) ≡ bytes
front_of bytes more n e = rw (sym e) (take-append_seam bytes more)

pub back_of : (bytes more : List ℕ) (n : ℕ) → length bytes ≡ n → drop n (bytes ++ more) ≡ more
back_of bytes more n e = rw (sym e) (drop-append_seam bytes more)

-- bytes of which the part after a place is one more piece
pub cut_pushed : (ends bytes : List ℕ) (from : ℕ) → from ≤ length bytes → are_ends 0 ends from ≡ true → pieces_cut 0 (ends ++ length bytes ∷ []) bytes ≡ pieces_cut 0 ends (take from bytes) ++ drop from bytes ∷ []
cut_pushed ends bytes from within whole =
    let front : length (take from bytes) ≡ from = omega (arith, length-take from bytes) in
    let back : length bytes ≡ length (take from bytes) + length (drop from bytes) = omega (arith, length-drop from bytes) in
    let ends_front : are_ends 0 ends (length (take from bytes)) ≡ true = rw front whole in
    ap (λ (bs : List ℕ). pieces_cut 0 (ends ++ length bytes ∷ []) bs) (sym (take-append-drop from bytes))
    ∙ cut_added ends (take from bytes) (drop from bytes) 0 (length bytes) ends_front back

pub whole_pushed : (ends : List ℕ) (from len : ℕ) → from + 41 ≤ len → are_ends 0 ends from ≡ true → are_ends 0 (ends ++ len ∷ []) len ≡ true
whole_pushed ends from len within whole =
    let sum : from + (len - from) ≡ len = omega arith in
    rw sum at (ends_pushed ends 0 from (len - from) (omega arith) whole)
