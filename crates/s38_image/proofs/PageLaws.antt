-- Parts that are read are those that are printed.
use Rattle.std.proofs.Common.{◌≡◌, ℕ, zero, suc, ◌+◌, ◌-◌, ◌*◌, ◌≤◌, Bool, true, false, cond, eqb, List, [], ◌∷◌, ◌++◌, length, take, drop, Option, Some, None, refl, sym, ap, subst, ◌∙◌, arith}
use Rattle.std.specs.Prelude.{◌&&◌, is_some}
use Rattle.std.specs.List.{list_all}
use Rattle.std.proofs.lemmas.Bool.{eqb-true, eq-eqb}
use Rattle.std.proofs.lemmas.List.{length-append, length-take, length-drop, take_at, drop_at, take-append-drop, nil_from_length}
use Rattle.s38_image.specs.Fitting.{AreWhole}
use Rattle.s38_base.specs.Limits.{page_bytes}
use Rattle.s38_base.specs.declared.page.Change.{Change}
use Rattle.s38_base.specs.declared.page.Page.{Page}
use Rattle.s38_codec.specs.Codec.{AreBytes, byte_is_zero, copies, ◌>>=◌}
use Rattle.s38_codec.specs.Formats.{IsSpelling, Spelling}
use Rattle.s38_codec.proofs.CodecLaws.{AreBytes-take, bind_some, both_true, guard_some}
use Rattle.s38_codec.proofs.FormatLaws.{copies_zero, length_copies, zeros_are}
use Rattle.s38_image.specs.Pages.{are_pages, bytes_of_page, is_page, needed, numbered_pieces, page_pieces, page_put_at, print_parts, read_parts, same_list, stream, stream_of, tagged_right, tags_in, tags_of, unfilled, zero_filled}

pub same_lists : (xs ys : List ℕ) → same_list xs ys ≡ true → xs ≡ ys
unfolding same_list
same_lists [] [] h = refl
same_lists [] (y ∷ ys) h = absurd cc
same_lists (x ∷ xs) [] h = absurd cc
same_lists (x ∷ xs) (y ∷ ys) h =
    let f = both_true (eqb x y) (same_list xs ys) h in
    let e : x ≡ y = eqb-true _ _ f.0 in
    let rest = same_lists xs ys f.1 in
    cc

pub lists_same : (xs : List ℕ) → same_list xs xs ≡ true
unfolding same_list
lists_same [] = refl
lists_same (x ∷ xs) = rw (eq-eqb x x refl) (lists_same xs)

pub guard_then : {A : Type 0} (b : Bool) (o : Option A) (x : A) → cond b o None ≡ Some x → (b ≡ true) × (o ≡ Some x)
guard_then true o x e = (refl, e)
guard_then false o x e = absurd cc

some_page : (p : Option Page) → is_some p ≡ true → p ≡ Some (record { bytes = bytes_of_page p; tags = tags_of p })
some_page None h = absurd cc
some_page (Some page) h = refl

page_is : (object part : ℕ) (c : Change) → is_page object part c ≡ true → c ≡ page_put_at object part (bytes_of_page c.page) (tags_of c.page)
page_is object part c h =
    let f = both_true (eqb c.key.object object) (eqb c.key.part part && is_some c.page) h in
    let g = both_true (eqb c.key.part part) (is_some c.page) f.1 in
    let o = eqb-true _ _ f.0 in
    let n = eqb-true _ _ g.0 in
    let p = some_page c.page g.1 in
    λ i. record { key = record { object = o i; part = n i }; page = p i }

cons_is : (p q : Change) (ps qs : List Change) → p ≡ q → ps ≡ qs → p ∷ ps ≡ q ∷ qs
cons_is p q ps qs e f = cc

page_there : (object part : ℕ) (c : Change) → is_page object part c ≡ true → is_some c.page ≡ true
page_there object part c h = (both_true (eqb c.key.part part) (is_some c.page) (both_true (eqb c.key.object object) (eqb c.key.part part && is_some c.page) h).1).1

-- pages of these numbers are the pages of their stream
pub pages_are : (object : ℕ) (ps : List Change) (first count : ℕ) → AreWhole ps → are_pages object first count ps ≡ true → ps ≡ numbered_pieces object first (page_pieces count (stream ps)) (tags_in ps)
unfolding page_pieces numbered_pieces AreWhole are_pages
pages_are object [] first zero ok is = refl
pages_are object [] first (suc n) ok is = absurd cc
pages_are object (c ∷ ps) first zero ok is = absurd cc
pages_are object (c ∷ ps) first (suc n) ok is =
    let f = both_true (is_page object first c) (are_pages object (first + 1) n ps) is in
    let long = ok.0 (page_there object first c f.0) in
    let front : take page_bytes (bytes_of_page c.page ++ stream ps) ≡ bytes_of_page c.page = take_at (bytes_of_page c.page) (stream ps) page_bytes long in
    let back : drop page_bytes (bytes_of_page c.page ++ stream ps) ≡ stream ps = drop_at (bytes_of_page c.page) (stream ps) page_bytes long in
    let rest = pages_are object ps (first + 1) n ok.1 f.1 in
    rw (front, back) (cons_is c (page_put_at object first (bytes_of_page c.page) (tags_of c.page)) ps (numbered_pieces object (first + 1) (page_pieces n (stream ps)) (tags_in ps)) (page_is object first c f.0) rest)

pub stream_len : (object : ℕ) (ps : List Change) (first count : ℕ) → AreWhole ps → are_pages object first count ps ≡ true → length (stream ps) ≡ page_bytes * count
unfolding AreWhole are_pages
stream_len object [] first zero ok is = refl
stream_len object [] first (suc n) ok is = absurd cc
stream_len object (c ∷ ps) first zero ok is = absurd cc
stream_len object (c ∷ ps) first (suc n) ok is =
    let f = both_true (is_page object first c) (are_pages object (first + 1) n ps) is in
    omega (arith, ok.0 (page_there object first c f.0), stream_len object ps (first + 1) n ok.1 f.1, length-append (bytes_of_page c.page) (stream ps))

pub enough : (len : ℕ) → len ≤ page_bytes * needed len
enough len = omega arith

-- ---- what is read is printed

pub unfilled_is : (len n : ℕ) (xs bytes : List ℕ) → length xs ≡ n → len ≤ n → unfilled len xs ≡ Some bytes → (xs ≡ zero_filled n bytes) × (length bytes ≡ len)
unfilled_is len n xs bytes long le e =
    let g = guard_some (list_all byte_is_zero (drop len xs)) (take len xs) bytes e in
    let front : length (take len xs) ≡ len = omega (arith, length-take len xs) in
    let size : length bytes ≡ len = ap length (sym g.1) ∙ front in
    let rest : drop len xs ≡ copies (n - length bytes) 0 = zeros_are (drop len xs) g.0 ∙ ap (λ (k : ℕ). copies k 0) (omega (arith, length-drop len xs, size)) in
    (sym (take-append-drop len xs) ∙ ap (λ (t : List ℕ). t ++ drop len xs) g.1 ∙ ap (λ (t : List ℕ). bytes ++ t) rest, size)

-- the bytes of a stream are those of its pages
bytes_unfilled : (len : ℕ) (xs bytes : List ℕ) → AreBytes xs → unfilled len xs ≡ Some bytes → AreBytes bytes
bytes_unfilled len xs bytes fine e =
    let g = guard_some (list_all byte_is_zero (drop len xs)) (take len xs) bytes e in
    subst AreBytes g.1 (AreBytes-take len xs fine)

pub record Reads (A : Type 0) (object first : ℕ) (s : Spelling A) (tags_of : A → List ℕ) (Fits : A → Type 0) (len : ℕ) (ps : List Change) (x : A) : Type 0 where
  pub printed : ps ≡ print_parts object first s tags_of x
  pub fits : Fits x
  pub long : length (s.print x) ≡ len
  pub tagged : tags_of x ≡ tags_in ps

pub parts_exact : {A : Type 0} (object first : ℕ) (s : Spelling A) (tags_of : A → List ℕ) (Fits : A → Type 0) → IsSpelling A s Fits → (len : ℕ) (ps : List Change) (x : A) → AreWhole ps → AreBytes (stream ps) → read_parts object first s tags_of len ps ≡ Some x → Reads A object first s tags_of Fits len ps x
parts_exact {A} object first s tags_of Fits is len ps x ok fine e =
    let a = bind_some (stream_of object first len ps) (λ bytes. s.read bytes >>= λ x. tagged_right tags_of (tags_in ps) x) x e in
    let b = bind_some (s.read a.0) (λ x. tagged_right tags_of (tags_in ps) x) x a.2 in
    let t = guard_some (same_list (tags_of b.0) (tags_in ps)) b.0 x b.2 in
    let g = guard_then (are_pages object first (needed len) ps) (unfilled len (stream ps)) a.0 a.1 in
    let size = stream_len object ps first (needed len) ok g.0 in
    let u = unfilled_is len (page_bytes * needed len) (stream ps) a.0 size (enough len) g.1 in
    let m = is.exact a.0 b.0 (bytes_unfilled len (stream ps) a.0 fine g.1) b.1 in
    let long : length (s.print b.0) ≡ len = ap length (sym m.0) ∙ u.1 in
    let tags = same_lists _ _ t.0 in
    let whole_is : ps ≡ numbered_pieces object first (page_pieces (needed (length (s.print b.0))) (zero_filled (page_bytes * needed (length (s.print b.0))) (s.print b.0))) (tags_of b.0) =
    pages_are object ps first (needed len) ok g.0
    ∙ ap (λ (q : List ℕ). numbered_pieces object first (page_pieces (needed len) q) (tags_in ps)) u.0
    ∙ ap (λ (q : List ℕ). numbered_pieces object first (page_pieces (needed len) (zero_filled (page_bytes * needed len) q)) (tags_in ps)) m.0
    ∙ ap (λ (q : List ℕ). numbered_pieces object first (page_pieces (needed len) (zero_filled (page_bytes * needed len) (s.print b.0))) q) (sym tags)
    ∙ ap (λ (k : ℕ). numbered_pieces object first (page_pieces (needed k) (zero_filled (page_bytes * needed k) (s.print b.0))) (tags_of b.0)) (sym long) in
    subst (λ (y : A). Reads A object first s tags_of Fits len ps y) t.1 (record { printed = whole_is; fits = m.1; long = long; tagged = tags })

-- ---- what is printed is read

page_here : (object part : ℕ) (bytes : List ℕ) (tags : ℕ) → is_page object part (page_put_at object part bytes tags) ≡ true
page_here object part bytes tags = rw (eq-eqb object object refl, eq-eqb part part refl) refl

pub pages_numbered : (object first n : ℕ) (xs tags : List ℕ) → are_pages object first n (numbered_pieces object first (page_pieces n xs) tags) ≡ true
unfolding page_pieces numbered_pieces are_pages
pages_numbered object first zero xs tags = refl
pages_numbered object first (suc n) xs [] = rw (page_here object first (take page_bytes xs) 0) (pages_numbered object (first + 1) n (drop page_bytes xs) [])
pages_numbered object first (suc n) xs (t ∷ tags) = rw (page_here object first (take page_bytes xs) t) (pages_numbered object (first + 1) n (drop page_bytes xs) tags)

pub tags_numbered : (object first n : ℕ) (xs tags : List ℕ) → length tags ≡ n → tags_in (numbered_pieces object first (page_pieces n xs) tags) ≡ tags
unfolding page_pieces numbered_pieces
tags_numbered object first zero xs [] is = refl
tags_numbered object first zero xs (t ∷ tags) is = absurd (omega arith)
tags_numbered object first (suc n) xs [] is = absurd (omega arith)
tags_numbered object first (suc n) xs (t ∷ tags) is = ap (λ (u : List ℕ). t ∷ u) (tags_numbered object (first + 1) n (drop page_bytes xs) tags (omega arith))

stream_numbered : (object first n : ℕ) (xs tags : List ℕ) → length xs ≡ page_bytes * n → stream (numbered_pieces object first (page_pieces n xs) tags) ≡ xs
unfolding page_pieces numbered_pieces
stream_numbered object first zero xs tags is = sym (nil_from_length xs (omega arith))
stream_numbered object first (suc n) xs [] is =
    ap (λ (t : List ℕ). take page_bytes xs ++ t) (stream_numbered object (first + 1) n (drop page_bytes xs) [] (omega (arith, length-drop page_bytes xs))) ∙ take-append-drop page_bytes xs
stream_numbered object first (suc n) xs (t ∷ tags) is =
    ap (λ (u : List ℕ). take page_bytes xs ++ u) (stream_numbered object (first + 1) n (drop page_bytes xs) tags (omega (arith, length-drop page_bytes xs))) ∙ take-append-drop page_bytes xs

pub length_filled : (n : ℕ) (xs : List ℕ) → length xs ≤ n → length (zero_filled n xs) ≡ n
length_filled n xs le = omega (arith, length-append xs (copies (n - length xs) 0), length_copies {A = ℕ} (n - length xs) 0)

filled_back : (n : ℕ) (xs : List ℕ) → unfilled (length xs) (zero_filled n xs) ≡ Some xs
filled_back n xs =
    let back = drop_at xs (copies (n - length xs) 0) (length xs) refl in
    let front = take_at xs (copies (n - length xs) 0) (length xs) refl in
    rw (back, front, copies_zero (n - length xs)) refl

pub parts_again : {A : Type 0} (object first : ℕ) (s : Spelling A) (tags_of : A → List ℕ) (Fits : A → Type 0) → IsSpelling A s Fits → (x : A) → Fits x → length (tags_of x) ≡ needed (length (s.print x)) → read_parts object first s tags_of (length (s.print x)) (print_parts object first s tags_of x) ≡ Some x
parts_again {A} object first s tags_of Fits is x fits tags =
    let n = needed (length (s.print x)) in
    let whole = zero_filled (page_bytes * n) (s.print x) in
    let long : length whole ≡ page_bytes * n = length_filled (page_bytes * n) (s.print x) (enough (length (s.print x))) in
    rw (pages_numbered object first n whole (tags_of x), stream_numbered object first n whole (tags_of x) long, filled_back (page_bytes * n) (s.print x), is.again x fits, tags_numbered object first n whole (tags_of x) tags, lists_same (tags_of x)) refl
