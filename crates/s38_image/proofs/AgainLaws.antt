-- The parts of an object are read as that object.
use Rattle.std.proofs.Common.{◌≡◌, ℕ, zero, suc, ◌+◌, ◌*◌, ◌<◌, ◌≤◌, Bool, true, false, List, [], ◌∷◌, ◌++◌, length, map, take, drop, Some, refl, sym, ap, subst, ◌∙◌, arith}
use Rattle.std.specs.Prelude.{◌&&◌, ◌||◌, Ok}
use Rattle.std.specs.List.{range_with_len}
use Rattle.std.proofs.lemmas.Bool.{eqb-true, eq-eqb, lt-ltb, le-ltb}
use Rattle.std.proofs.lemmas.List.{length-append}
use Rattle.s38_image.specs.Fitting.{FitsBody, IsImage, header_codec, rows_codec}
use Rattle.s38_base.specs.Limits.{page_bytes}
use Rattle.s38_base.specs.NameText.{padded}
use Rattle.s38_base.specs.declared.id.Kind.{Kind}
use Rattle.s38_base.specs.declared.id.Kind.TheVariants as kinds
use Rattle.s38_base.specs.declared.page.Change.{Change}
use Rattle.s38_codec.specs.Codec.{byte, bytes, copies, dependent_pair, only, print_each}
use Rattle.s38_codec.specs.Formats.{IsSpelling, Spelling, u16, u32}
use Rattle.s38_codec.proofs.CodecLaws.{both_true}
use Rattle.s38_codec.proofs.FormatLaws.{length_copies}
use Rattle.s38_image.proofs.BodyLaws.{body_is}
use Rattle.s38_image.proofs.HeaderLaws.{at_most, header_is, rows_is}
use Rattle.s38_image.proofs.PageLaws.{parts_again, tags_numbered}
use Rattle.s38_image.proofs.SpaceLaws.{length_cells}
use Rattle.s38_image.specs.Bodies.{BodyImage, body, body_bytes, body_tags}
use Rattle.s38_image.specs.Headers.{header, header_fields, header_is_within, is_mark, kind, name, object_number_form, rights, row_form, rows}
use Rattle.s38_image.specs.Images.{after_leading, body_in, body_parts, first_missing, has_part, header_in_parts, header_parts, image_of, image_parts, leading, made, object_of_parts, rows_in_parts, rows_parts, stored_header, wanted_parts}
use Rattle.s38_image.specs.PartPlaces.{body_part, page_cells, row_bytes, rows_part}
use Rattle.s38_image.specs.Pages.{is_page, needed, no_tags, numbered_pieces, page_pieces, page_put_at, print_parts, read_parts, tags_in}
use Rattle.s38_image.specs.Spaces.{is_tagged, tag_numbers}
use Rattle.s38_image.specs.declared.header.Header.{Header}
use Rattle.s38_image.specs.declared.stored.Stored.{Stored}
use Rattle.s38_rules.specs.declared.object.Body.{Body}
use Rattle.s38_rules.specs.declared.object.Body.TheVariants as bodies
use Rattle.s38_rules.specs.declared.rows.PrivateRow.{PrivateRow}

-- ---- in three

-- all numbers are below a limit, or none is
AllBelow : ℕ → List Change → Type 0
AllBelow limit [] = Unit {0}
AllBelow limit (p ∷ ps) = (p.key.part < limit) × AllBelow limit ps

numbered_below : (n number first limit : ℕ) (xs tags : List ℕ) → first + n ≤ limit → AllBelow limit (numbered_pieces number first (page_pieces n xs) tags)
unfolding page_pieces numbered_pieces AllBelow
numbered_below zero number first limit xs tags le = tt
numbered_below (suc n) number first limit xs [] le = (omega arith, numbered_below n number (first + 1) limit (drop page_bytes xs) [] (omega arith))
numbered_below (suc n) number first limit xs (t ∷ tags) le = (omega arith, numbered_below n number (first + 1) limit (drop page_bytes xs) tags (omega arith))

leading_all : (limit : ℕ) (ps rest : List Change) → AllBelow limit ps → leading limit rest ≡ [] → leading limit (ps ++ rest) ≡ ps
unfolding AllBelow
leading_all limit [] rest below none = none
leading_all limit (p ∷ ps) rest below none = rw (lt-ltb p.key.part limit below.0) (ap (λ (q : List Change). p ∷ q) (leading_all limit ps rest below.1 none))

after_all : (limit : ℕ) (ps rest : List Change) → AllBelow limit ps → after_leading limit rest ≡ rest → after_leading limit (ps ++ rest) ≡ rest
unfolding AllBelow
after_all limit [] rest below none = none
after_all limit (p ∷ ps) rest below none = rw (lt-ltb p.key.part limit below.0) (after_all limit ps rest below.1 none)

-- parts that begin at a limit or above it
StartsAt : ℕ → List Change → Type 0
StartsAt limit [] = Unit {0}
StartsAt limit (p ∷ ps) = limit ≤ p.key.part

leading_none : (limit : ℕ) (ps : List Change) → StartsAt limit ps → leading limit ps ≡ []
unfolding StartsAt
leading_none limit [] h = refl
leading_none limit (p ∷ ps) h = rw (le-ltb p.key.part limit h) refl

after_none : (limit : ℕ) (ps : List Change) → StartsAt limit ps → after_leading limit ps ≡ ps
unfolding StartsAt
after_none limit [] h = refl
after_none limit (p ∷ ps) h = rw (le-ltb p.key.part limit h) refl

numbered_starts : (n number first : ℕ) (xs tags : List ℕ) → StartsAt first (numbered_pieces number first (page_pieces n xs) tags)
unfolding page_pieces numbered_pieces StartsAt
numbered_starts zero number first xs tags = tt
numbered_starts (suc n) number first xs [] = omega arith
numbered_starts (suc n) number first xs (t ∷ tags) = omega arith

starts_append : (limit first : ℕ) (ps rest : List Change) → StartsAt first ps → limit ≤ first → StartsAt limit rest → StartsAt limit (ps ++ rest)
unfolding StartsAt
starts_append limit first [] rest h le more = more
starts_append limit first (p ∷ ps) rest h le more = omega arith

starts_less : (limit first : ℕ) (ps : List Change) → StartsAt first ps → limit ≤ first → StartsAt limit ps
unfolding StartsAt
starts_less limit first [] h le = tt
starts_less limit first (p ∷ ps) h le = omega arith

-- ---- none is missing

or_true : (b : Bool) → (b || true) ≡ true
or_true true = refl
or_true false = refl

has_first : (a b c : Bool) → (a || b) ≡ true → (b ≡ true → c ≡ true) → (a || c) ≡ true
has_first true b c h f = refl
has_first false b c h f = f h

has_behind : (number : ℕ) (ps qs : List Change) (n : ℕ) → has_part number qs n ≡ true → has_part number (ps ++ qs) n ≡ true
has_behind number [] qs n h = h
has_behind number (p ∷ ps) qs n h = rw (has_behind number ps qs n h) (or_true (is_page number n p))

has_front : (number : ℕ) (ps qs : List Change) (n : ℕ) → has_part number ps n ≡ true → has_part number (ps ++ qs) n ≡ true
has_front number [] qs n h = absurd cc
has_front number (p ∷ ps) qs n h = has_first (is_page number n p) (has_part number ps n) (has_part number (ps ++ qs) n) h (λ e. has_front number ps qs n e)

-- some numbers are all there
HasAll : ℕ → List Change → List ℕ → Type 0
HasAll number ps [] = Unit {0}
HasAll number ps (n ∷ ns) = (has_part number ps n ≡ true) × HasAll number ps ns

none_missing : (number : ℕ) (ps : List Change) (ns : List ℕ) → HasAll number ps ns → first_missing number ps ns ≡ Ok []
unfolding HasAll
none_missing number ps [] h = refl
none_missing number ps (n ∷ ns) h = rw h.0 (none_missing number ps ns h.1)

has_all_append : (number : ℕ) (ps : List Change) (ns ms : List ℕ) → HasAll number ps ns → HasAll number ps ms → HasAll number ps (ns ++ ms)
unfolding HasAll
has_all_append number ps [] ms h k = k
has_all_append number ps (n ∷ ns) ms h k = (h.0, has_all_append number ps ns ms h.1 k)

has_all_more : (number : ℕ) (p : Change) (ps : List Change) (ns : List ℕ) → HasAll number ps ns → HasAll number (p ∷ ps) ns
unfolding HasAll
has_all_more number p ps [] h = tt
has_all_more number p ps (n ∷ ns) h = (rw h.0 (or_true (is_page number n p)), has_all_more number p ps ns h.1)

page_here : (number first : ℕ) (xs : List ℕ) (t : ℕ) (ps : List Change) → has_part number (page_put_at number first xs t ∷ ps) first ≡ true
page_here number first xs t ps = rw (eq-eqb number number refl, eq-eqb first first refl) refl

numbered_has : (n number first : ℕ) (xs tags : List ℕ) → HasAll number (numbered_pieces number first (page_pieces n xs) tags) (range_with_len first n)
unfolding page_pieces numbered_pieces HasAll
numbered_has zero number first xs tags = tt
numbered_has (suc n) number first xs [] = (
  page_here number first (take page_bytes xs) 0 (numbered_pieces number (first + 1) (page_pieces n (drop page_bytes xs)) []),
  has_all_more number (page_put_at number first (take page_bytes xs) 0) (numbered_pieces number (first + 1) (page_pieces n (drop page_bytes xs)) []) (range_with_len (first + 1) n) (numbered_has n number (first + 1) (drop page_bytes xs) []),
)
numbered_has (suc n) number first xs (t ∷ tags) = (
  page_here number first (take page_bytes xs) t (numbered_pieces number (first + 1) (page_pieces n (drop page_bytes xs)) tags),
  has_all_more number (page_put_at number first (take page_bytes xs) t) (numbered_pieces number (first + 1) (page_pieces n (drop page_bytes xs)) tags) (range_with_len (first + 1) n) (numbered_has n number (first + 1) (drop page_bytes xs) tags),
)

all_behind : (number : ℕ) (ps qs : List Change) (ns : List ℕ) → HasAll number qs ns → HasAll number (ps ++ qs) ns
unfolding HasAll
all_behind number ps qs [] h = tt
all_behind number ps qs (n ∷ ns) h = (has_behind number ps qs n h.0, all_behind number ps qs ns h.1)

all_front : (number : ℕ) (ps qs : List Change) (ns : List ℕ) → HasAll number ps ns → HasAll number (ps ++ qs) ns
unfolding HasAll
all_front number ps qs [] h = tt
all_front number ps qs (n ∷ ns) h = (has_front number ps qs n h.0, all_front number ps qs ns h.1)

-- ---- lengths

last_true : (a b : Bool) → (a && b) ≡ true → b ≡ true
last_true true b e = e
last_true false b e = absurd cc

name_long : (h : Header) → header_codec.fits h ≡ true → length (padded h.id.name) ≡ 30
name_long h fits =
    let x = header_fields h in
    let a = last_true ((only is_mark u32).fits x.0) _ fits in
    let b = last_true (kind.fits h.id.kind) _ a in
    let c = last_true (byte.fits h.id.sub) _ b in
    let d = both_true (name.fits h.id.name) _ c in
    let e = last_true _ ((dependent_pair u16 (λ _. bytes 30)).fits (length h.id.name, padded h.id.name)) d.0 in
    eqb-true _ _ (last_true (u16.fits (length h.id.name)) _ e)

-- what follows the name
abbrev later : Header → List ℕ
later h = object_number_form.print h.context ++ (object_number_form.print h.owner ++ (rights.print h.public ++ (0 ∷ (u32.print h.rows ++ (u32.print h.body ++ copies 448 0)))))

later_long : (h : Header) → length (later h) ≡ 474
later_long h = let z : length {A = ℕ} (copies 448 0) ≡ 448 = length_copies {A = ℕ} 448 0 in omega (arith, z)

pub header_long : (h : Header) → header_codec.fits h ≡ true → length (header.print h) ≡ 512
header_long h fits = omega (arith, length-append (padded h.id.name) (later h), name_long h fits, later_long h)

rows_bytes : (rs : List PrivateRow) → length (print_each (copies (length rs) row_form) rs) ≡ 9 * length rs
unfolding copies print_each
rows_bytes [] = refl
rows_bytes (r ∷ rs) = omega (arith, rows_bytes rs)

pub rows_bytes_long : (rs : List PrivateRow) → length ((rows (length rs)).print rs) ≡ row_bytes * length rs
rows_bytes_long rs = rows_bytes rs

tag_count : (n : ℕ) (fs : List Bool) → length (tag_numbers n fs) ≡ n
unfolding tag_numbers
tag_count zero fs = refl
tag_count (suc n) fs = ap suc (tag_count n (drop page_cells fs))

space_tags_long : (b : Body) (sequence : ℕ) → FitsBody kinds.Space (body_tags kinds.Space (record { body = b; sequence = sequence })) (record { body = b; sequence = sequence }) → length (body_tags kinds.Space (record { body = b; sequence = sequence })) ≡ needed (length (body_bytes kinds.Space (record { body = b; sequence = sequence })))
space_tags_long (bodies.Space cs) zero h =
    let count = tag_count (needed (16 * length cs)) (map is_tagged cs) in
    let len = length_cells _ cs h.cells in
    count ∙ ap needed (sym len)
space_tags_long (bodies.Space cs) (suc n) h = absurd h
space_tags_long _ zero h = absurd h
space_tags_long _ (suc n) h = absurd h

pub tags_long : (k : Kind) (i : BodyImage) → FitsBody k (body_tags k i) i → length (body_tags k i) ≡ needed (length (body_bytes k i))
tags_long kinds.Space i h = space_tags_long i.body i.sequence h
tags_long kinds.Context i h = length_copies {A = ℕ} (needed (length (body_bytes kinds.Context i))) 0
tags_long kinds.Program i h = length_copies {A = ℕ} (needed (length (body_bytes kinds.Program i))) 0
tags_long kinds.Profile i h = length_copies {A = ℕ} (needed (length (body_bytes kinds.Profile i))) 0
tags_long kinds.Queue i h = length_copies {A = ℕ} (needed (length (body_bytes kinds.Queue i))) 0
tags_long kinds.Index i h = length_copies {A = ℕ} (needed (length (body_bytes kinds.Index i))) 0
tags_long kinds.DataSpace i h = length_copies {A = ℕ} (needed (length (body_bytes kinds.DataSpace i))) 0
tags_long kinds.Cursor i h = length_copies {A = ℕ} (needed (length (body_bytes kinds.Cursor i))) 0
tags_long kinds.Port i h = length_copies {A = ℕ} (needed (length (body_bytes kinds.Port i))) 0
tags_long kinds.Journal i h = length_copies {A = ℕ} (needed (length (body_bytes kinds.Journal i))) 0
tags_long kinds.Block i h = length_copies {A = ℕ} (needed (length (body_bytes kinds.Block i))) 0

-- ---- an object

read_at : {A : Type 0} (number first : ℕ) (s : Spelling A) (tags_of : A → List ℕ) (Fits : A → Type 0) → IsSpelling A s Fits → (x : A) (len : ℕ) → Fits x → length (tags_of x) ≡ needed len → length (s.print x) ≡ len → read_parts number first s tags_of len (print_parts number first s tags_of x) ≡ Some x
read_at number first s tags_of Fits is x len fits tags long =
    ap (λ (k : ℕ). read_parts number first s tags_of k (print_parts number first s tags_of x)) (sym long) ∙ parts_again number first s tags_of Fits is x fits (tags ∙ ap needed (sym long))

stages : (limit number : ℕ) (ps front later middle last : List Change) (h : Header) (rs : List PrivateRow) (i : BodyImage) → leading rows_part ps ≡ front → after_leading rows_part ps ≡ later → leading body_part later ≡ middle → after_leading body_part later ≡ last
    → header_in_parts number front ≡ Some h → header_is_within limit h ≡ true → first_missing number ps (wanted_parts h) ≡ Ok []
    → rows_in_parts number h.rows middle ≡ Some rs → body_in number h.id.kind h.body last ≡ Some i → object_of_parts limit number ps ≡ Ok (made number h rs i)
unfolding object_of_parts
stages limit number ps front later middle last h rs i e1 e2 e3 e4 r0 r1 r2 r3 r4 = rw (e1, e2, r0, r1, r2, e3, e4, r3, r4) refl

stored_is : (s : Stored) → s.object.on_disk ≡ true → made s.object.number.0 (stored_header s) s.object.rows (image_of s) ≡ s
stored_is s e = let d = sym e in λ i. record { object = record s.object { on_disk = d i }; sequence = s.sequence }

print_body : (k : Kind) (tags : List ℕ) (number : ℕ) (i : BodyImage) → print_parts number body_part (body k []) (body_tags k) i ≡ print_parts number body_part (body k tags) (body_tags k) i
print_body kinds.Context tags number i = refl
print_body kinds.Program tags number i = refl
print_body kinds.Profile tags number i = refl
print_body kinds.Space tags number i = refl
print_body kinds.Queue tags number i = refl
print_body kinds.Index tags number i = refl
print_body kinds.DataSpace tags number i = refl
print_body kinds.Cursor tags number i = refl
print_body kinds.Port tags number i = refl
print_body kinds.Journal tags number i = refl
print_body kinds.Block tags number i = refl

long_body : (k : Kind) (tags : List ℕ) (i : BodyImage) → length ((body k tags).print i) ≡ length (body_bytes k i)
long_body kinds.Context tags i = refl
long_body kinds.Program tags i = refl
long_body kinds.Profile tags i = refl
long_body kinds.Space tags i = refl
long_body kinds.Queue tags i = refl
long_body kinds.Index tags i = refl
long_body kinds.DataSpace tags i = refl
long_body kinds.Cursor tags i = refl
long_body kinds.Port tags i = refl
long_body kinds.Journal tags i = refl
long_body kinds.Block tags i = refl

pub object_again : (limit : ℕ) (s : Stored) → IsImage limit s → object_of_parts limit s.object.number.0 (image_parts s) ≡ Ok s
object_again limit s m =
    let number = s.object.number.0 in
    let k = s.object.id.kind in
    let i = image_of s in
    let h = stored_header s in
    let rs = s.object.rows in
    let n = length rs in
    let tags = body_tags k i in
    let len = length (body_bytes k i) in
    let front = header_parts s in
    let middle = rows_parts s in
    let last = body_parts s in
    let header_len = header_long h m.header in
    let rows_len = rows_bytes_long rs in
    let few : n ≤ 4096 = at_most n 4096 (both_true _ _ m.within).0 in
    let front_below : AllBelow 1 front = numbered_below (needed (length (header.print h))) number 0 1 _ _ (omega (arith, header_len)) in
    let middle_below : AllBelow 128 middle = numbered_below (needed (length ((rows n).print rs))) number 1 128 _ _ (omega (arith, rows_len, few)) in
    let last_starts : StartsAt 128 last = numbered_starts (needed len) number 128 _ _ in
    let middle_starts : StartsAt 1 middle = numbered_starts (needed (length ((rows n).print rs))) number 1 _ _ in
    let later_starts : StartsAt 1 (middle ++ last) = starts_append 1 1 middle last middle_starts (omega arith) (starts_less 1 128 last last_starts (omega arith)) in
    let wants_rows : HasAll number middle (range_with_len 1 (needed (row_bytes * n))) = subst (λ (q : ℕ). HasAll number middle (range_with_len 1 (needed q))) rows_len (numbered_has (needed (length ((rows n).print rs))) number 1 _ _) in
    let wants_body : HasAll number last (range_with_len 128 (needed len)) = numbered_has (needed len) number 128 _ _ in
    let all : HasAll number (front ++ (middle ++ last)) (wanted_parts h) = has_all_append number _ (range_with_len 1 (needed (row_bytes * n))) (range_with_len 128 (needed len))
    (all_behind number front (middle ++ last) _ (all_front number middle last _ wants_rows)) (all_behind number front (middle ++ last) _ (all_behind number middle last _ wants_body)) in
    let found : tags_in last ≡ tags = tags_numbered number 128 (needed len) _ tags (tags_long k i m.body) in
    let read_rows : rows_in_parts number n middle ≡ Some rs = read_at number rows_part (rows n) (no_tags (rows n)) (λ r. (rows_codec n).fits r ≡ true) (rows_is n) rs (row_bytes * n) m.rows (length_copies {A = ℕ} (needed (length ((rows n).print rs))) 0 ∙ ap needed rows_len) rows_len in
    let read_header : header_in_parts number front ≡ Some h = read_at number 0 header (no_tags header) (λ g. header_codec.fits g ≡ true) header_is h 512 m.header (length_copies {A = ℕ} (needed (length (header.print h))) 0 ∙ ap needed header_len) header_len in
    let own : read_parts number body_part (body k tags) (body_tags k) len (print_parts number body_part (body k tags) (body_tags k) i) ≡ Some i =
    read_at number body_part (body k tags) (body_tags k) (FitsBody k tags) (body_is k tags) i len m.body (tags_long k i m.body) (long_body k tags i) in
    let read_body : body_in number k len last ≡ Some i =
    ap (λ (t : List ℕ). read_parts number body_part (body k t) (body_tags k) len last) found
    ∙ ap (λ (q : List Change). read_parts number body_part (body k tags) (body_tags k) len q) (print_body k tags number i)
    ∙ own in
    stages limit number (front ++ (middle ++ last)) front (middle ++ last) middle last h rs i
    (leading_all 1 front (middle ++ last) front_below (leading_none 1 (middle ++ last) later_starts)) (after_all 1 front (middle ++ last) front_below (after_none 1 (middle ++ last) later_starts))
    (leading_all 128 middle last middle_below (leading_none 128 last last_starts)) (after_all 128 middle last middle_below (after_none 128 last last_starts))
    read_header m.within (none_missing number (front ++ (middle ++ last)) (wanted_parts h) all) read_rows read_body
    ∙ ap (λ (t : Stored). Ok t) (stored_is s m.on_disk)
