-- The parts of an object in their pieces, and how many they are.
use Rattle.std.proofs.Common.{◌≡◌, ℕ, zero, suc, ◌+◌, ◌*◌, List, [], ◌∷◌, ◌++◌, length, Some, None, refl, sym, ap, subst, ◌∙◌, arith, append_assoc}
use Rattle.std.proofs.lemmas.List.{length-append}
use Rattle.std.specs.Prelude.{IsTrue}
use Rattle.std.specs.List.{flat_map}
use Rattle.s38_base.specs.NameText.{is_name}
use Rattle.s38_base.specs.declared.id.Kind.{Kind}
use Rattle.s38_base.specs.declared.page.Change.{Change}
use Rattle.s38_codec.specs.Codec.{copies}
use Rattle.s38_commits.specs.Units.{UnitMap}
use Rattle.s38_dataspaces.specs.Table.{DataTable}
use Rattle.s38_image.proofs.AgainLaws.{rows_bytes_long}
use Rattle.s38_image.proofs.PageLaws.{pages_numbered}
use Rattle.s38_image.proofs.StreamLaws.{pages_long}
use Rattle.s38_image.specs.Bodies.{body_bytes, tags_by}
use Rattle.s38_image.specs.Headers.{header, row_form, rows}
use Rattle.s38_image.specs.Images.{body_parts, header_parts, image_of, image_parts, rows_parts, stored_header}
use Rattle.s38_image.specs.Pages.{needed, numbered_pieces, page_pieces, page_put_at, stream_parts, zero_filled}
use Rattle.s38_image.specs.Settled.{committed_image}
use Rattle.s38_image.specs.Spaces.{space_tags}
use Rattle.s38_image.specs.declared.header.Header.{Header}
use Rattle.s38_image_writer.proofs.LengthLaws.{header_long}
use Rattle.s38_image_writer.proofs.PrintLaws.{times_print}
use Rattle.s38_image_writer.specs.Parts.{CanSettle, header_with, own_bytes, own_parts, part_count}
use Rattle.s38_image_writer.specs.Restoring.{AreRestorable}
use Rattle.s38_image_writer.specs.Writing.{Adds, Place, Written}
use Rattle.s38_memory.specs.Tagged.{bytes_in}
use Rattle.s38_memory.specs.declared.cell.Cell.{Cell}
use Rattle.s38_rules.specs.state.Held.{kind_of}
use Rattle.s38_rules.specs.state.Parts.{space_of}
use Rattle.s38_rules.specs.state.LawfulParts.{space_lawful}
use Rattle.s38_rules.specs.store.Room.{image_len, pages_begun, rows_pages}
use Rattle.s38_rules.specs.declared.object.Body.{Body}
use Rattle.s38_rules.specs.declared.object.Body.TheVariants as bodies
use Rattle.s38_rules.specs.declared.object.Object.{Object}

-- ---- a stream

-- where all tags are 0 none need be said
zero_tags : (number first k : ℕ) (pages : List (List ℕ)) → numbered_pieces number first pages (copies k 0) ≡ numbered_pieces number first pages []
unfolding numbered_pieces copies
zero_tags number first k [] = refl
zero_tags number first zero (xs ∷ pages) = refl
zero_tags number first (suc k) (xs ∷ pages) = ap (λ (t : List Change). page_put_at number first xs 0 ∷ t) (zero_tags number (first + 1) k pages)

untagged : (number first k : ℕ) (bytes : List ℕ) → stream_parts number first bytes (copies k 0) ≡ stream_parts number first bytes []
untagged number first k bytes = zero_tags number first k (page_pieces (needed (length bytes)) (zero_filled (512 * needed (length bytes)) bytes))

pub stream_long : (number first : ℕ) (bytes tags : List ℕ) → length (stream_parts number first bytes tags) ≡ needed (length bytes)
stream_long number first bytes tags =
    let n = needed (length bytes) in
    pages_long number first n _ (pages_numbered number first n (zero_filled (512 * n) bytes) tags)

-- what was put from the beginning of a stream on is its bytes
pub streamed : (w v : Written) (before : List Change) (number first capacity len count : ℕ) (xs : List ℕ) (whole : List Change)
    → w ≡ record { place = record { before = before; number = number; first = first; capacity = capacity }; bytes = []; room = len } → Adds w v count xs
    → whole ≡ v.place.before ++ stream_parts v.place.number v.place.first v.bytes [] → whole ≡ before ++ stream_parts number first xs []
streamed w v before number first capacity len count xs whole new adds is =
    is
    ∙ ap (λ (p : Place). p.before ++ stream_parts p.number p.first v.bytes []) (adds.place ∙ ap (λ (u : Written). u.place) new)
    ∙ ap (λ (bs : List ℕ). before ++ stream_parts number first bs []) (adds.bytes ∙ ap (λ (u : Written). u.bytes ++ xs) new)

-- how many parts there are after a stream
pub streamed_len : (number first len : ℕ) (xs : List ℕ) (before whole : List Change) → whole ≡ before ++ stream_parts number first xs [] → length xs ≡ len → length whole ≡ length before + needed len
streamed_len number first len xs before whole is long =
    ap length is ∙ length-append before (stream_parts number first xs []) ∙ ap (λ (n : ℕ). length before + n) (stream_long number first xs [] ∙ ap needed long)

-- ---- a body

-- the parts of a body without tags
own_untagged : (units : UnitMap) (number last : ℕ) (b : Body) → stream_parts number 128 (own_bytes units number last b) (copies (needed (length (own_bytes units number last b))) 0) ≡ stream_parts number 128 (own_bytes units number last b) []
own_untagged units number last b = untagged number 128 (needed (length (own_bytes units number last b))) (own_bytes units number last b)

pub own_stream : (units : UnitMap) (number last : ℕ) (b : Body) → space_of b ≡ None → own_parts units number last b ≡ stream_parts number 128 (own_bytes units number last b) []
own_stream units number last bodies.Context none = own_untagged units number last bodies.Context
own_stream units number last (bodies.Program p) none = own_untagged units number last (bodies.Program p)
own_stream units number last (bodies.Profile s limit) none = own_untagged units number last (bodies.Profile s limit)
own_stream units number last (bodies.Space cs) none = absurd cc
own_stream units number last (bodies.Queue q) none = own_untagged units number last (bodies.Queue q)
own_stream units number last (bodies.Index i) none = own_untagged units number last (bodies.Index i)
own_stream units number last (bodies.DataSpace d) none = own_untagged units number last (bodies.DataSpace d)
own_stream units number last (bodies.Cursor c) none = own_untagged units number last (bodies.Cursor c)
own_stream units number last (bodies.Port p) none = own_untagged units number last (bodies.Port p)
own_stream units number last (bodies.Journal j) none = own_untagged units number last (bodies.Journal j)
own_stream units number last (bodies.Block b) none = own_untagged units number last (bodies.Block b)

-- where nothing is uncommitted nothing need be taken back
none_to_settle : (number : ℕ) (t : DataTable) → AreRestorable [] number t
none_to_settle number t = λ k d lt. absurd (omega (arith, lt))

pub nothing_to_settle : (units : UnitMap) (number : ℕ) (b : Body) → units ≡ [] → CanSettle units number b
nothing_to_settle units number (bodies.DataSpace d) none = subst (λ (us : UnitMap). AreRestorable us number d.space) (sym none) (none_to_settle number d.space)
nothing_to_settle units number _ none = tt

-- ---- an object

-- the body of an object has so many bytes as its image
pub body_long : (units : UnitMap) (last : ℕ) (o : Object) → kind_of o.body ≡ o.id.kind → length (own_bytes units o.number.0 last o.body) ≡ image_len o.body → length (body_bytes o.id.kind (image_of (committed_image units last o))) ≡ image_len o.body
body_long units last o kind long = ap (λ (k : Kind). length (body_bytes k (image_of (committed_image units last o)))) (sym kind) ∙ long

-- the object has the header that says the length of its body
header_says : (units : UnitMap) (last : ℕ) (o : Object) → kind_of o.body ≡ o.id.kind → length (own_bytes units o.number.0 last o.body) ≡ image_len o.body → stored_header (committed_image units last o) ≡ header_with o (image_len o.body)
header_says units last o kind long = ap (λ (n : ℕ). header_with o n) (body_long units last o kind long)

header_pieces : (units : UnitMap) (last : ℕ) (o : Object) → kind_of o.body ≡ o.id.kind → length (own_bytes units o.number.0 last o.body) ≡ image_len o.body → header_parts (committed_image units last o) ≡ stream_parts o.number.0 0 (header.print (header_with o (image_len o.body))) []
header_pieces units last o kind long =
    untagged o.number.0 0 _ (header.print (stored_header (committed_image units last o)))
    ∙ ap (λ (h : Header). stream_parts o.number.0 0 (header.print h) []) (header_says units last o kind long)

rows_pieces : (units : UnitMap) (last : ℕ) (o : Object) → rows_parts (committed_image units last o) ≡ stream_parts o.number.0 1 (flat_map row_form.print o.rows) []
rows_pieces units last o =
    untagged o.number.0 1 _ ((rows (length o.rows)).print o.rows)
    ∙ ap (λ (bs : List ℕ). stream_parts o.number.0 1 bs []) (times_print row_form o.rows)

body_pieces : (units : UnitMap) (last : ℕ) (o : Object) → kind_of o.body ≡ o.id.kind → body_parts (committed_image units last o) ≡ own_parts units o.number.0 last o.body
body_pieces units last o kind =
    let i = image_of (committed_image units last o) in
    ap (λ (k : Kind). stream_parts o.number.0 128 (body_bytes k i) (tags_by k i.body (needed (length (body_bytes k i))))) (sym kind)

-- the pieces, one after another
pub all_pieces : (units : UnitMap) (last : ℕ) (o : Object) (first headed rowed whole : List Change) → kind_of o.body ≡ o.id.kind → length (own_bytes units o.number.0 last o.body) ≡ image_len o.body
    → headed ≡ first ++ stream_parts o.number.0 0 (header.print (header_with o (image_len o.body))) [] → rowed ≡ headed ++ stream_parts o.number.0 1 (flat_map row_form.print o.rows) []
    → whole ≡ rowed ++ own_parts units o.number.0 last o.body → whole ≡ first ++ image_parts (committed_image units last o)
all_pieces units last o first headed rowed whole kind long one two three =
    let s = committed_image units last o in
    let h : headed ≡ first ++ header_parts s = one ∙ ap (λ (t : List Change). first ++ t) (sym (header_pieces units last o kind long)) in
    let r : rowed ≡ headed ++ rows_parts s = two ∙ ap (λ (t : List Change). headed ++ t) (sym (rows_pieces units last o)) in
    let b : whole ≡ rowed ++ body_parts s = three ∙ ap (λ (t : List Change). rowed ++ t) (sym (body_pieces units last o kind)) in
    b
    ∙ ap (λ (t : List Change). t ++ body_parts s) (r ∙ ap (λ (t : List Change). t ++ rows_parts s) h)
    ∙ ap (λ (t : List Change). t ++ body_parts s) (append_assoc first (header_parts s) (rows_parts s))
    ∙ append_assoc first (header_parts s ++ rows_parts s) (body_parts s)
    ∙ ap (λ (t : List Change). first ++ t) (append_assoc (header_parts s) (rows_parts s) (body_parts s))

-- ---- how many parts there are

pub rows_long : (o : Object) → length (flat_map row_form.print o.rows) ≡ 9 * length o.rows
rows_long o = ap length (sym (times_print row_form o.rows)) ∙ rows_bytes_long o.rows

pub all_counted : (units : UnitMap) (last : ℕ) (o : Object) → kind_of o.body ≡ o.id.kind → length (own_bytes units o.number.0 last o.body) ≡ image_len o.body → IsTrue (is_name o.id.name) → length (image_parts (committed_image units last o)) ≡ part_count o
all_counted units last o kind long is =
    let s = committed_image units last o in
    let front = header_with o (image_len o.body) in
    let one : length (header_parts s) ≡ 1 =
    ap length (header_pieces units last o kind long) ∙ stream_long o.number.0 0 (header.print front) [] ∙ ap needed (header_long front is) in
    let two : length (rows_parts s) ≡ rows_pages o =
    ap length (rows_pieces units last o) ∙ stream_long o.number.0 1 (flat_map row_form.print o.rows) [] ∙ ap needed (rows_long o) in
    let three : length (body_parts s) ≡ pages_begun (image_len o.body) =
    ap length (body_pieces units last o kind) ∙ stream_long o.number.0 128 (own_bytes units o.number.0 last o.body) _ ∙ ap needed long in
    omega (arith, one, two, three, length-append (header_parts s) (rows_parts s ++ body_parts s), length-append (rows_parts s) (body_parts s))
