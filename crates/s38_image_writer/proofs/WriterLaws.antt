-- A stream that is put into pages one piece after another.
use Rattle.std.proofs.Common.{◌≡◌, ℕ, zero, suc, ◌+◌, ◌-◌, ◌*◌, ◌<◌, ◌≤◌, ◌==◌, false, List, [], ◌∷◌, ◌++◌, length, take, drop, sym, ap, ◌∙◌, arith, append_assoc}
use Rattle.std.proofs.lemmas.List.{append-nil, drop-append-le, drop_all, length-append, length-drop, nil_from_length, take-append-drop, take-append-le, take_all}
use Rattle.s38_base.specs.Limits.{page_bytes}
use Rattle.s38_base.specs.declared.page.Change.{Change}
use Rattle.s38_codec.specs.Codec.{copies}
use Rattle.s38_image.specs.Pages.{needed, numbered_pieces, page_pieces, page_put_at, stream, stream_parts, zero_filled}
use Rattle.s38_image_writer.proofs.CutLaws.{same_zeros}
use Rattle.s38_image_writer.specs.Writing.{Adds, IsCut, Written}
use Rattle.s38_image.proofs.PageLaws.{length_filled}
use Rattle.s38_image.proofs.StreamLaws.{stream_append}

cut_none : (number first : ℕ) (t : List ℕ) → length t ≡ page_bytes → numbered_pieces number first (page_pieces 1 t) [] ≡ page_put_at number (first + 0) t 0 ∷ []
unfolding page_pieces numbered_pieces
cut_none number first t long =
    let at : first ≡ first + 0 = omega arith in
    ap (λ (q : List ℕ). page_put_at number first q 0 ∷ []) (take_all page_bytes t (omega (arith, long))) ∙ ap (λ (m : ℕ). page_put_at number m t 0 ∷ []) at

-- one more page at the end of a stream
pub pages_more : (number first k : ℕ) (bytes t : List ℕ) → length bytes ≡ page_bytes * k → length t ≡ page_bytes → numbered_pieces number first (page_pieces (suc k) (bytes ++ t)) [] ≡ numbered_pieces number first (page_pieces k bytes) [] ++ page_put_at number (first + k) t 0 ∷ []
unfolding page_pieces numbered_pieces
pages_more number first zero bytes t size long =
    ap (λ (q : List ℕ). numbered_pieces number first (page_pieces 1 (q ++ t)) []) (nil_from_length bytes (omega arith)) ∙ cut_none number first t long
pages_more number first (suc k) bytes t size long =
    let front = take-append-le page_bytes bytes t (omega arith) in
    let back = drop-append-le page_bytes bytes t (omega arith) in
    let at : first + 1 + k ≡ first + suc k = omega arith in
    ap (λ (q : List ℕ). page_put_at number first q 0 ∷ numbered_pieces number (first + 1) (page_pieces (suc k) (drop page_bytes (bytes ++ t))) []) front
    ∙ ap (λ (q : List ℕ). page_put_at number first (take page_bytes bytes) 0 ∷ numbered_pieces number (first + 1) (page_pieces (suc k) q) []) back
    ∙ ap (λ (q : List Change). page_put_at number first (take page_bytes bytes) 0 ∷ q) (pages_more number (first + 1) k (drop page_bytes bytes) t (omega (arith, length-drop page_bytes bytes)) long)
    ∙ ap (λ (m : ℕ). page_put_at number first (take page_bytes bytes) 0 ∷ (numbered_pieces number (first + 1) (page_pieces k (drop page_bytes bytes)) [] ++ page_put_at number m t 0 ∷ [])) at

-- a page that is full needs no zeros
pub full_page : (bytes : List ℕ) → length bytes ≡ page_bytes → zero_filled page_bytes bytes ≡ bytes
unfolding copies
full_page bytes long =
    let none : page_bytes - length bytes ≡ 0 = omega arith in
    ap (λ (k : ℕ). bytes ++ copies k 0) none ∙ append-nil bytes

-- the parts of a stream with one more page
record Turned (number first part start : ℕ) (old new : List Change) (page : List ℕ) : Type 0 where
  pub full : length (stream (drop start new)) ≡ page_bytes * (length new - start)
  pub bytes : stream (drop start new) ≡ stream (drop start old) ++ page
  pub pages : drop start new ≡ numbered_pieces number first (page_pieces (length new - start) (stream (drop start new))) []
  pub before : take start new ≡ take start old

turned : (number first part room start capacity : ℕ) (old new : List Change) (tail page : List ℕ) → IsCut number first part room start capacity old tail → length page ≡ page_bytes → new ≡ old ++ page_put_at number part page 0 ∷ [] → Turned number first part start old new page
turned number first part room start capacity old new tail page is long more =
    let one = page_put_at number part page 0 in
    let k = length old - start in
    let back : drop start new ≡ drop start old ++ one ∷ [] = ap (λ (q : List Change). drop start q) more ∙ drop-append-le start old (one ∷ []) is.start in
    let front : take start new ≡ take start old = ap (λ (q : List Change). take start q) more ∙ take-append-le start old (one ∷ []) is.start in
    let bytes : stream (drop start new) ≡ stream (drop start old) ++ page = ap stream back ∙ stream_append (drop start old) (one ∷ []) ∙ ap (λ (t : List ℕ). stream (drop start old) ++ t) (append-nil page) in
    let count : length new ≡ length old + 1 = ap length more ∙ length-append old (one ∷ []) in
    let left : length new - start ≡ suc k = omega (arith, is.start) in
    let part_is : part ≡ first + k = omega (arith, is.start, is.part) in
    record {
      full = ap length bytes ∙ length-append (stream (drop start old)) page ∙ omega (arith, is.full, left, long);
      bytes = bytes;
      pages =
          back
          ∙ ap (λ (q : List Change). q ++ one ∷ []) is.pages
          ∙ ap (λ (m : ℕ). numbered_pieces number first (page_pieces k (stream (drop start old))) [] ++ page_put_at number m page 0 ∷ []) part_is
          ∙ sym (pages_more number first k (stream (drop start old)) page is.full long)
          ∙ ap (λ (m : ℕ). numbered_pieces number first (page_pieces m (stream (drop start old) ++ page)) []) (sym left)
          ∙ ap (λ (q : List ℕ). numbered_pieces number first (page_pieces (length new - start) q) []) (sym bytes);
      before = front;
    }

-- ---- the steps

pub begun : (number first len from most : ℕ) (parts : List Change) (tail : List ℕ) → from ≡ length parts → tail ≡ [] → length parts + needed len ≤ most → page_bytes * first + len ≤ 33554432 → IsCut number first first len from most parts tail
unfolding page_pieces numbered_pieces
begun number first len from most parts tail at none room near =
    let short : length tail ≡ 0 = ap length none in
    let left : length parts - from ≡ 0 = omega arith in
    let back : drop from parts ≡ [] = drop_all from parts (omega arith) in
    record {
      start = omega arith;
      part = omega arith;
      short = omega (arith, short);
      within = omega (arith, short, room);
      near = omega (arith, short, near);
      full = ap (λ (q : List Change). length (stream q)) back ∙ omega (arith, left);
      pages = back ∙ ap (λ (m : ℕ). numbered_pieces number first (page_pieces m (stream (drop from parts))) []) (sym left);
    }

abbrev turned_page : ℕ → ℕ → List ℕ → Change
turned_page number at page = page_put_at number at (zero_filled page_bytes page) 0

-- a full page has become one of the parts
pub turned_cut : (number first at len from most free : ℕ) (old new : List Change) (tail front cleared : List ℕ) → IsCut number first at len from most old tail → length front ≡ free → length tail + free ≡ page_bytes → free ≤ len
    → new ≡ old ++ turned_page number at (tail ++ front) ∷ [] → cleared ≡ [] → IsCut number first (at + 1) (len - free) from most new cleared
turned_cut number first at len from most free old new tail front cleared is long fills room more none =
    let size : length (tail ++ front) ≡ page_bytes = omega (arith, length-append tail front, long, fills) in
    let exact : new ≡ old ++ page_put_at number at (tail ++ front) 0 ∷ [] = more ∙ ap (λ (q : List ℕ). old ++ page_put_at number at q 0 ∷ []) (full_page (tail ++ front) size) in
    let t = turned number first at len from most old new tail (tail ++ front) is size exact in
    let count : length new ≡ length old + 1 = ap length more ∙ length-append old (turned_page number at (tail ++ front) ∷ []) in
    let short : length cleared ≡ 0 = ap length none in
    record {
      start = omega (arith, count, is.start);
      part = omega (arith, count, is.part);
      short = omega (arith, short);
      within = omega (arith, count, short, is.within, fills, room);
      near = omega (arith, short, is.near, fills, room);
      full = t.full;
      pages = t.pages;
    }

pub turned_bytes : (number first at len from most free : ℕ) (old new : List Change) (tail front rest cleared : List ℕ) → IsCut number first at len from most old tail → length front ≡ free → length tail + free ≡ page_bytes
    → new ≡ old ++ turned_page number at (tail ++ front) ∷ [] → cleared ≡ [] → (stream (drop from new) ++ cleared) ++ rest ≡ (stream (drop from old) ++ tail) ++ (front ++ rest)
turned_bytes number first at len from most free old new tail front rest cleared is long fills more none =
    let size : length (tail ++ front) ≡ page_bytes = omega (arith, length-append tail front, long, fills) in
    let exact : new ≡ old ++ page_put_at number at (tail ++ front) 0 ∷ [] = more ∙ ap (λ (q : List ℕ). old ++ page_put_at number at q 0 ∷ []) (full_page (tail ++ front) size) in
    let t = turned number first at len from most old new tail (tail ++ front) is size exact in
    let all : stream (drop from new) ++ cleared ≡ stream (drop from old) ++ (tail ++ front) =
    ap (λ (q : List ℕ). stream (drop from new) ++ q) none ∙ append-nil (stream (drop from new)) ∙ t.bytes in
    ap (λ (q : List ℕ). q ++ rest) (all ∙ sym (append_assoc (stream (drop from old)) tail front))
    ∙ append_assoc (stream (drop from old) ++ tail) front rest

-- ---- the end

-- a last page that is not full
pub finished_short : (number first at len from most : ℕ) (old new : List Change) (tail : List ℕ) → IsCut number first at len from most old tail → 0 < length tail
    → new ≡ old ++ turned_page number at tail ∷ [] → new ≡ take from old ++ stream_parts number first (stream (drop from old) ++ tail) []
finished_short number first at len from most old new tail is some more =
    let bytes = stream (drop from old) in
    let t = turned number first at len from most old new tail (zero_filled page_bytes tail) is (length_filled page_bytes tail (omega (arith, is.short))) more in
    let count : length new ≡ length old + 1 = ap length more ∙ length-append old (turned_page number at tail ∷ []) in
    let size : length (bytes ++ tail) ≡ page_bytes * (length old - from) + length tail = length-append bytes tail ∙ ap (λ (k : ℕ). k + length tail) is.full in
    let pages : length new - from ≡ needed (length (bytes ++ tail)) = omega (arith, count, size, is.start, is.short, some) in
    let zeros : page_bytes - length tail ≡ page_bytes * needed (length (bytes ++ tail)) - length (bytes ++ tail) = omega (arith, pages, count, size, is.start, is.short) in
    let whole : bytes ++ zero_filled page_bytes tail ≡ zero_filled (page_bytes * needed (length (bytes ++ tail))) (bytes ++ tail) =
    sym (append_assoc bytes tail (copies (page_bytes - length tail) 0))
    ∙ ap (λ (q : List ℕ). (bytes ++ tail) ++ q) (same_zeros (page_bytes - length tail) (page_bytes * needed (length (bytes ++ tail)) - length (bytes ++ tail)) zeros) in
    sym (take-append-drop from new)
    ∙ ap (λ (q : List Change). q ++ drop from new) t.before
    ∙ ap (λ (q : List Change). take from old ++ q) (t.pages
    ∙ ap (λ (q : List ℕ). numbered_pieces number first (page_pieces (length new - from) q) []) (t.bytes ∙ whole)
    ∙ ap (λ (m : ℕ). numbered_pieces number first (page_pieces m (zero_filled (page_bytes * needed (length (bytes ++ tail))) (bytes ++ tail))) []) pages)

-- no last page, or a full one
pub finished_full : (number first at len from most : ℕ) (old : List Change) (tail : List ℕ) → IsCut number first at len from most old tail → length tail ≡ 0
    → old ≡ take from old ++ stream_parts number first (stream (drop from old) ++ tail) []
unfolding copies
finished_full number first at len from most old tail is none =
    let bytes = stream (drop from old) in
    let nothing : tail ≡ [] = nil_from_length tail none in
    let all : bytes ++ tail ≡ bytes = ap (λ (q : List ℕ). bytes ++ q) nothing ∙ append-nil bytes in
    let pages : length old - from ≡ needed (length (bytes ++ tail)) = omega (arith, is.full, ap length all) in
    let zeros : page_bytes * needed (length (bytes ++ tail)) - length (bytes ++ tail) ≡ 0 = omega (arith, pages, is.full, ap length all) in
    let whole : bytes ≡ zero_filled (page_bytes * needed (length (bytes ++ tail))) (bytes ++ tail) =
    sym all ∙ sym (append-nil (bytes ++ tail)) ∙ ap (λ (q : List ℕ). (bytes ++ tail) ++ q) (sym (same_zeros (page_bytes * needed (length (bytes ++ tail)) - length (bytes ++ tail)) 0 zeros)) in
    sym (take-append-drop from old)
    ∙ ap (λ (q : List Change). take from old ++ q) (is.pages
    ∙ ap (λ (q : List ℕ). numbered_pieces number first (page_pieces (length old - from) q) []) whole
    ∙ ap (λ (m : ℕ). numbered_pieces number first (page_pieces m (zero_filled (page_bytes * needed (length (bytes ++ tail))) (bytes ++ tail))) []) pages)

pub some_length : {A : Type 0} (xs : List A) → (length xs == 0) ≡ false → 0 < length xs
some_length [] e = absurd cc
some_length (x ∷ xs) e = omega arith

pub split_whole : (n : ℕ) (xs front rest : List ℕ) → front ≡ take n xs → rest ≡ drop n xs → front ++ rest ≡ xs
split_whole n xs front rest f r = ap (λ (q : List ℕ). q ++ rest) f ∙ ap (λ (q : List ℕ). take n xs ++ q) r ∙ take-append-drop n xs

-- ---- pieces, one after another

pub adds_then : (a b c : Written) (n m : ℕ) (xs ys : List ℕ) → Adds a b n xs → Adds b c m ys → Adds a c (n + m) (xs ++ ys)
adds_then a b c n m xs ys one two =
    record {
      bytes = two.bytes ∙ ap (λ (t : List ℕ). t ++ ys) one.bytes ∙ append_assoc a.bytes xs ys;
      room = omega (arith, one.room, two.room);
      place = two.place ∙ one.place;
    }

-- the same bytes, and as many
pub adds_same : (a b : Written) (n m : ℕ) (xs ys : List ℕ) → Adds a b n xs → n ≡ m → xs ≡ ys → Adds a b m ys
adds_same a b n m xs ys one count is =
    record {
      bytes = one.bytes ∙ ap (λ (t : List ℕ). a.bytes ++ t) is;
      room = omega (arith, one.room, count);
      place = one.place;
    }
