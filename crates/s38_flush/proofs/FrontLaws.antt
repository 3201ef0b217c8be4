-- The parts of an object before its body, and those of its body.
use Rattle.std.proofs.Common.{◌≡◌, ◌+◌, ◌*◌, ◌<◌, ◌≤◌, ◌∙◌, ◌∷◌, ◌++◌, [], List, None, Some, Option, ap, append_assoc, arith, cond, false, length, lit≤, refl, sym, take, ℕ}
use Rattle.std.proofs.lemmas.List.{take_all}
use Rattle.std.specs.List.{AllByRecursion, flat_map}
use Rattle.std.specs.Ordering.{eq_by_cmp}
use Rattle.s38_base.specs.declared.page.Change.{Change}
use Rattle.s38_base.specs.declared.page.Key.{Key}
use Rattle.s38_base.specs.declared.page.Page.{Page}
use Rattle.s38_codec.specs.Formats.{Spelling}
use Rattle.s38_page_diff.proofs.WalkLaws.{key_at, key_itself, not_above, not_below, part_below}
use Rattle.s38_page_diff.proofs.WantedLaws.{in_range}
use Rattle.s38_page_diff.specs.Differences.{IsWanted, wanted_at}
use Rattle.s38_checkpoint.proofs.PartLaws.{ArePart, both_parts, needed_most, stream_part, zero_tags}
use Rattle.s38_image.proofs.AgainLaws.{rows_bytes_long}
use Rattle.s38_image.specs.Bodies.{body_bytes}
use Rattle.s38_image.specs.Headers.{header, row_form, rows}
use Rattle.s38_image.specs.Images.{body_parts, header_parts, image_of, image_parts, rows_parts, stored_header}
use Rattle.s38_image.specs.Pages.{needed, no_tags, numbered_pieces, page_pieces, page_put_at, print_parts, stream_parts, zero_filled}
use Rattle.s38_image.specs.declared.header.Header.{Header}
use Rattle.s38_image.specs.declared.stored.Stored.{Stored}
use Rattle.s38_image_writer.proofs.PrintLaws.{times_print}
use Rattle.s38_image_writer.proofs.WriterLaws.{full_page}
use Rattle.s38_image_writer.specs.Parts.{header_with}
use Rattle.s38_page_diff.proofs.reconcile.SoFarLaws.{all_of}
use Rattle.s38_rules.specs.declared.object.Object.{Object}
use Rattle.s38_vault.specs.Keys.{key_cmp}
use Rattle.s38_flush.specs.Fronts.{front_parts, front_range}

-- a stream begins at its first part
pub stream_from : (object first : ℕ) (bytes tags : List ℕ) → ArePart object first (first + needed (length bytes)) (stream_parts object first bytes tags)
stream_from object first bytes tags = stream_part object first (first + needed (length bytes)) bytes tags (omega arith)

-- ---- before the body

pub front_are : (o : Object) (len : ℕ) → length (header.print (header_with o len)) ≡ 512 → length o.rows ≤ 4096 → ArePart o.number.0 0 128 (front_parts o len)
front_are o len long few =
    let n = o.number.0 in
    let one : 0 + needed (length (header.print (header_with o len))) ≤ 1 = omega (arith, needed_most (length (header.print (header_with o len))) 1 (omega (arith, long))) in
    let two : 1 + needed (length ((rows (length o.rows)).print o.rows)) ≤ 128 =
    omega (arith, needed_most (length ((rows (length o.rows)).print o.rows)) 127 (omega (arith, rows_bytes_long o.rows, few))) in
    both_parts n 0 1 128 _ _ (lit≤ tt) (lit≤ tt) (stream_part n 0 1 (header.print (header_with o len)) _ one) (stream_part n 1 128 ((rows (length o.rows)).print o.rows) _ two)

pub front_wanted : (o : Object) (len : ℕ) → length (header.print (header_with o len)) ≡ 512 → length o.rows ≤ 4096 → IsWanted (front_range o.number.0) (front_parts o len)
front_wanted o len long few =
    let all = front_are o len long few in
    record {
      rising = all.rising;
      in_range = all_of _ _ _ (λ c h. in_range (front_range o.number.0) c.key h.of_it (omega arith) h.before) all.each;
    }

-- ---- the body after

-- the parts of an object are those before its body, and its body
pub parts_split : (x : Stored) → image_parts x ≡ front_parts x.object (length (body_bytes x.object.id.kind (image_of x))) ++ body_parts x
parts_split x = sym (append_assoc (header_parts x) (rows_parts x) (body_parts x))

skipped : (cs ds : List Change) (q : Key) → AllByRecursion (λ c. eq_by_cmp key_cmp q c.key ≡ false) cs → wanted_at (cs ++ ds) q ≡ wanted_at ds q
skipped [] ds q off = refl
skipped (c ∷ cs) ds q off = ap (λ b. cond b c.page (wanted_at (cs ++ ds) q)) off.0 ∙ skipped cs ds q off.1

unwanted : (ds : List Change) (q : Key) → AllByRecursion (λ d. eq_by_cmp key_cmp q d.key ≡ false) ds → wanted_at ds q ≡ None
unwanted [] q off = refl
unwanted (d ∷ ds) q off = ap (λ b. cond b d.page (wanted_at ds q)) off.0 ∙ unwanted ds q off.1

ended : (cs ds : List Change) (q : Key) → AllByRecursion (λ d. eq_by_cmp key_cmp q d.key ≡ false) ds → wanted_at (cs ++ ds) q ≡ wanted_at cs q
ended [] ds q off = unwanted ds q off
ended (c ∷ cs) ds q off = ap (λ (o : Option Page). cond (eq_by_cmp key_cmp q c.key) c.page o) (ended cs ds q off)

-- a part before the body is wanted of those alone
pub wanted_before : (n from until p : ℕ) (cs ds : List Change) → ArePart n from until ds → p < from → wanted_at (cs ++ ds) (key_at n p) ≡ wanted_at cs (key_at n p)
wanted_before n from until p cs ds are low =
    ended cs ds (key_at n p) (all_of _ _ ds (λ d h. not_below (key_at n p) d.key (part_below (key_at n p) d.key (sym h.of_it) (omega (arith, low, h.from)))) are.each)

-- a part of the body of the body alone
pub wanted_after : (n from until p : ℕ) (cs ds : List Change) → ArePart n from until cs → until ≤ p → wanted_at (cs ++ ds) (key_at n p) ≡ wanted_at ds (key_at n p)
wanted_after n from until p cs ds are high =
    skipped cs ds (key_at n p) (all_of _ _ cs (λ c h. not_above c.key (key_at n p) (part_below c.key (key_at n p) h.of_it (omega (arith, high, h.before)))) are.each)

-- ---- the page of a header

-- tags that are all 0 need not be said
pub untagged : {A : Type 0} (number first : ℕ) (s : Spelling A) (x : A) → stream_parts number first (s.print x) [] ≡ print_parts number first s (no_tags s) x
untagged number first s x =
    let n = needed (length (s.print x)) in
    sym (zero_tags number first n (page_pieces n (zero_filled (512 * n) (s.print x))))

-- a stream of a page is that page
one_cut : (number : ℕ) (bytes : List ℕ) (size : ℕ) → length bytes ≡ 512 → size ≡ 512 → numbered_pieces number 0 (page_pieces (needed size) (zero_filled (512 * needed size) bytes)) [] ≡ page_put_at number 0 bytes 0 ∷ []
unfolding page_pieces numbered_pieces
one_cut number bytes size long is =
    ap (λ (k : ℕ). numbered_pieces number 0 (page_pieces (needed k) (zero_filled (512 * needed k) bytes)) []) is
    ∙ ap (λ (xs : List ℕ). page_put_at number 0 (take 512 xs) 0 ∷ []) (full_page bytes long)
    ∙ ap (λ (xs : List ℕ). page_put_at number 0 xs 0 ∷ []) (take_all 512 bytes (omega (arith, long)))

header_page : (n : ℕ) (h : Header) → length (header.print h) ≡ 512 → print_parts n 0 header (no_tags header) h ≡ page_put_at n 0 (header.print h) 0 ∷ []
header_page n h long = sym (untagged n 0 header h) ∙ one_cut n (header.print h) (length (header.print h)) long long

abbrev pub page_of_header : Header → Page
page_of_header h = record { bytes = header.print h; tags = 0 }

-- an object has its header as its first part
pub first_part : (x : Stored) → length (header.print (stored_header x)) ≡ 512 → wanted_at (image_parts x) (key_at x.object.number.0 0) ≡ Some (page_of_header (stored_header x))
first_part x long =
    let n = x.object.number.0 in
    ap (λ (cs : List Change). wanted_at (cs ++ (rows_parts x ++ body_parts x)) (key_at n 0)) (header_page n (stored_header x) long)
    ∙ ap (λ b. cond b (Some (page_of_header (stored_header x))) (wanted_at (rows_parts x ++ body_parts x) (key_at n 0))) (key_itself (key_at n 0))

-- ---- what was written

-- the header and the rows, one after the other
pub front_pieces : (o : Object) (len : ℕ) (first headed whole : List Change) → first ≡ [] → headed ≡ first ++ stream_parts o.number.0 0 (header.print (header_with o len)) []
    → whole ≡ headed ++ stream_parts o.number.0 1 (flat_map row_form.print o.rows) [] → whole ≡ front_parts o len
front_pieces o len first headed whole none one two =
    let n = o.number.0 in
    let a : headed ≡ print_parts n 0 header (no_tags header) (header_with o len) =
    one ∙ ap (λ (cs : List Change). cs ++ stream_parts n 0 (header.print (header_with o len)) []) none ∙ untagged n 0 header (header_with o len) in
    let b : stream_parts n 1 (flat_map row_form.print o.rows) [] ≡ print_parts n 1 (rows (length o.rows)) (no_tags (rows (length o.rows))) o.rows =
    ap (λ (bs : List ℕ). stream_parts n 1 bs []) (sym (times_print row_form o.rows)) ∙ untagged n 1 (rows (length o.rows)) o.rows in
    two ∙ (λ i. a i ++ b i)
