-- The images of entries: one more, the one of a sequence, and how long all are.
use Rattle.std.proofs.Common.{◌≡◌, ℕ, zero, suc, ◌+◌, ◌-◌, ◌<◌, ◌≤◌, Bool, true, false, ◌&&◌, List, [], ◌∷◌, ◌++◌, length, map, drop, subst, refl, sym, ◌∙◌, ap, arith}
use Rattle.std.proofs.lemmas.List.{map-append}
use Rattle.std.proofs.lemmas.List.Sums.{sum_by-append, sum_by-cons}
use Rattle.std.specs.Prelude.{not, ◌||◌, ◌==◌, nat_le, Option, Some, None, option_map, slice_get, sum_by}
use Rattle.s38_journals.proofs.Tests.{both, first_of, second_of, le_tells, le_holds, eq_holds}
use Rattle.byteorder.specs.Endian.{big_number}
use Rattle.s38_journals.specs.Entries.{JournalRecord, entry_image, fits_head, is_end, journal_entry_len, may_be_at}
use Rattle.s38_journals.specs.Journals.{IsJournal, entries_len, entry_bytes_at, images, journal_entry_at, journal_image, may_all_be_from}
use Rattle.s38_journals.specs.Stored.{entry_of, joined}
use Rattle.s38_journals.proofs.EntryLaws.{before_len, entry_back, image_length}

pub images-append : (start : ℕ) (entries : List JournalRecord) (e : JournalRecord) → images start (entries ++ e ∷ []) ≡ images start entries ++ entry_image (start + length entries) e ∷ []
images-append start [] e = ap (λ (n : ℕ). entry_image n e ∷ []) (omega arith)
images-append start (first ∷ entries) e =
    let at : suc start + length entries ≡ start + suc (length entries) = omega arith in
    rw (images-append (suc start) entries e, at) refl

pub stand-append : (start : ℕ) (entries : List JournalRecord) (e : JournalRecord) → may_all_be_from start entries ≡ true → (may_be_at (start + length entries) e && fits_head e) ≡ true → may_all_be_from start (entries ++ e ∷ []) ≡ true
stand-append start [] e all one =
    let at : start + 0 ≡ start = omega arith in
    both (may_be_at start e && fits_head e) true (rw at at one) refl
stand-append start (first ∷ entries) e all one =
    let at : start + suc (length entries) ≡ suc start + length entries = omega arith in
    both (may_be_at start first && fits_head first) _ (first_of (may_be_at start first && fits_head first) _ all)
    (stand-append (suc start) entries e (second_of (may_be_at start first && fits_head first) _ all) (rw at at one))

pub slice_get-images : (start : ℕ) (entries : List JournalRecord) (k : ℕ) → slice_get (images start entries) k ≡ option_map (entry_image (start + k)) (slice_get entries k)
slice_get-images start [] k = refl
slice_get-images start (first ∷ entries) zero = ap (λ (n : ℕ). Some (entry_image n first)) (omega arith)
slice_get-images start (first ∷ entries) (suc k) =
    let at : suc start + k ≡ start + suc k = omega arith in
    slice_get-images (suc start) entries k ∙ ap (λ (n : ℕ). option_map (entry_image n) (slice_get entries k)) at

pub sum_by-images : (start : ℕ) (entries : List JournalRecord) → sum_by length (images start entries) ≡ entries_len entries
sum_by-images start [] = refl
sum_by-images start (first ∷ entries) =
    let rest = sum_by-images (suc start) entries in
    let one = image_length start first in
    let left = sum_by-cons {X = List ℕ} length (entry_image start first) (images (suc start) entries) in
    let right = sum_by-cons {X = JournalRecord} journal_entry_len first entries in
    omega arith

-- what is kept of a journal
pub kept_len : (pieces : List (List ℕ)) → pieces ≡ images 1 (map entry_of pieces) → entries_len (map entry_of pieces) ≡ sum_by length pieces
kept_len pieces e = sym (ap (λ (ps : List (List ℕ)). sum_by length ps) e ∙ sum_by-images 1 (map entry_of pieces))

pub found_bytes : (pieces : List (List ℕ)) (seq : ℕ) → pieces ≡ images 1 (map entry_of pieces) → 0 < seq → entry_bytes_at (map entry_of pieces) seq ≡ slice_get pieces (seq - 1)
found_bytes pieces zero e some = absurd (omega arith)
found_bytes pieces (suc k) e some =
    let same : suc k - 1 ≡ k = omega arith in
    let next : 1 + k ≡ suc k = omega arith in
    rw same (sym (ap (λ (ps : List (List ℕ)). slice_get ps k) e ∙ slice_get-images 1 (map entry_of pieces) k ∙ ap (λ (n : ℕ). option_map (entry_image n) (slice_get (map entry_of pieces) k)) next))

pub entries_pushed : (pieces : List (List ℕ)) (n : ℕ) (e : JournalRecord) → fits_head e ≡ true → length e.before ≤ 65535 → map entry_of (pieces ++ entry_image n e ∷ []) ≡ map entry_of pieces ++ e ∷ []
entries_pushed pieces n e fit before =
    map-append entry_of pieces (entry_image n e ∷ []) ∙ ap (λ (last : JournalRecord). map entry_of pieces ++ last ∷ []) (entry_back n e fit before)

names_none : (ends is_none : Bool) → (ends ≡ true → is_none ≡ true) → (not ends || is_none) ≡ true
names_none true is_none none = none refl
names_none false is_none none = refl

-- an entry that may be at a sequence
stands_at : (n : ℕ) (e : JournalRecord) → length e.before ≤ 65535 → length e.after ≤ 65535 → e.unit ≤ n → (is_end e.kind ≡ true → (e.object.0 ≡ 0) × (e.ordinal ≡ 0)) → may_be_at n e ≡ true
stands_at n e before after unit none =
    both _ _ (both _ _ (le_holds e.unit n unit) (names_none (is_end e.kind) _ (λ end. both _ _ (eq_holds e.object.0 0 (none end).0) (eq_holds e.ordinal 0 (none end).1))))
    (both _ _ (le_holds (length e.before) 65535 before) (le_holds (length e.after) 65535 after))

-- one more entry
pub journal_pushed : (unforced : ℕ) (pieces : List (List ℕ)) (n : ℕ) (e : JournalRecord) → fits_head e ≡ true → length e.before ≤ 65535 → length e.after ≤ 65535 → n ≡ length (map entry_of pieces) + 1 → e.unit ≤ n → (is_end e.kind ≡ true → (e.object.0 ≡ 0) × (e.ordinal ≡ 0)) → IsJournal unforced pieces → IsJournal (unforced + journal_entry_len e) (pieces ++ entry_image n e ∷ [])
journal_pushed unforced pieces n e fit before after at unit none held =
    let entries = map entry_of pieces in
    let more : map entry_of (pieces ++ entry_image n e ∷ []) ≡ entries ++ e ∷ [] = entries_pushed pieces n e fit before in
    let place : 1 + length entries ≡ n = omega arith in
    let here : (may_be_at (1 + length entries) e && fits_head e) ≡ true = rw place (both (may_be_at n e) _ (stands_at n e before after unit none) fit) in
    record {
      images = rw more (ap (λ (ps : List (List ℕ)). ps ++ entry_image n e ∷ []) held.images
          ∙ ap (λ (k : ℕ). images 1 entries ++ entry_image k e ∷ []) (sym place)
          ∙ sym (images-append 1 entries e));
      stand = rw more (stand-append 1 entries e held.stand here);
      within =
          let old = held.within in
          let all = sum_by-append {X = List ℕ} length pieces (entry_image n e ∷ []) in
          let one = sum_by-cons {X = List ℕ} length (entry_image n e) [] in
          let len = image_length n e in
          omega arith;
    }

pub images_joined : (start : ℕ) (entries : List JournalRecord) → joined (images start entries) ≡ journal_image start entries
images_joined start [] = refl
images_joined start (e ∷ entries) = ap (λ (bs : List ℕ). entry_image start e ++ bs) (images_joined (suc start) entries)

pub kept_image : (pieces : List (List ℕ)) → pieces ≡ images 1 (map entry_of pieces) → journal_image 1 (map entry_of pieces) ≡ joined pieces
kept_image pieces e = sym (ap (λ (ps : List (List ℕ)). joined ps) e ∙ images_joined 1 (map entry_of pieces))

-- an entry that was found is the one of that sequence
pub record IsFound (entries : List JournalRecord) (seq : ℕ) (bytes : List ℕ) : Type 0 where
  pub head : 41 ≤ length bytes
  pub before : 41 + big_number 2 (drop 37 bytes) ≤ length bytes
  pub says : journal_entry_at entries seq ≡ Some (entry_of bytes)

place_stands : (start : ℕ) (entries : List JournalRecord) (k : ℕ) (e : JournalRecord) → may_all_be_from start entries ≡ true → slice_get entries k ≡ Some e → (may_be_at (start + k) e && fits_head e) ≡ true
place_stands start [] k e all here = absurd (cc)
place_stands start (first ∷ entries) zero e all here =
    let same : first ≡ e = cc in
    let at : start + 0 ≡ start = omega arith in
    rw (at, sym same) (first_of (may_be_at start first && fits_head first) _ all)
place_stands start (first ∷ entries) (suc k) e all here =
    let at : suc start + k ≡ start + suc k = omega arith in
    rw at at (place_stands (suc start) entries k e (second_of (may_be_at start first && fits_head first) _ all) here)

short_before : (n : ℕ) (e : JournalRecord) → may_be_at n e ≡ true → length e.before ≤ 65535
short_before n e stands =
    le_tells (length e.before) 65535 (first_of (nat_le (length e.before) 65535) _
    (second_of (nat_le e.unit n && (not (is_end e.kind) || (e.object.0 == 0 && e.ordinal == 0))) _ stands))

found_here : (entries : List JournalRecord) (k : ℕ) (bytes : List ℕ) (o : Option JournalRecord) → may_all_be_from 1 entries ≡ true → slice_get entries k ≡ o → Some bytes ≡ option_map (entry_image (suc k)) o → IsFound entries (suc k) bytes
found_here entries k bytes None all here is = absurd (cc)
found_here entries k bytes (Some e) all here is =
    let same : entry_image (suc k) e ≡ bytes = cc in
    let stands = place_stands 1 entries k e all here in
    let before = short_before (1 + k) e (first_of (may_be_at (1 + k) e) (fits_head e) stands) in
    let fit = second_of (may_be_at (1 + k) e) (fits_head e) stands in
    let len = image_length (suc k) e in
    let end = before_len (suc k) e before in
    subst (λ (bs : List ℕ). IsFound entries (suc k) bs) same (record {
      head = omega arith;
      before = omega arith;
      says = here ∙ ap (λ (x : JournalRecord). Some x) (sym (entry_back (suc k) e fit before));
    })

pub found_entry : (entries : List JournalRecord) (seq : ℕ) (bytes : List ℕ) → may_all_be_from 1 entries ≡ true → Some bytes ≡ entry_bytes_at entries seq → IsFound entries seq bytes
found_entry entries zero bytes all is = absurd (cc)
found_entry entries (suc k) bytes all is = found_here entries k bytes (slice_get entries k) all refl is

none_here : (f : JournalRecord → List ℕ) (o : Option JournalRecord) → option_map f o ≡ None → o ≡ None
none_here f None is = refl
none_here f (Some e) is = absurd (cc)

pub none_found : (entries : List JournalRecord) (seq : ℕ) → entry_bytes_at entries seq ≡ None → journal_entry_at entries seq ≡ None
none_found entries zero is = refl
none_found entries (suc k) is = none_here (entry_image (suc k)) (slice_get entries k) is
