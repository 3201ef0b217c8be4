-- Which parts of an object are there, and how many are new.
use Rattle.std.proofs.Common.{◌≡◌, ◌+◌, ◌-◌, ◌^◌, ◌<◌, ◌≤◌, ◌∙◌, ◌++◌, Bool, List, ap, arith, cond, false, length, true, ℕ}
use Rattle.std.proofs.lemmas.Bool.{ltb-true}
use Rattle.std.proofs.lemmas.List.{length-append}
use Rattle.std.proofs.lemmas.List.Sums.{sum_by-append}
use Rattle.std.specs.Prelude.{◌&&◌, is_some}
use Rattle.s38_base.specs.declared.page.Change.{Change}
use Rattle.s38_codec.proofs.CodecLaws.{both_true}
use Rattle.s38_codec.specs.Codec.{byte, byte_is_zero, only}
use Rattle.s38_codec.specs.Formats.{u32}
use Rattle.s38_page_diff.proofs.WalkLaws.{key_at}
use Rattle.s38_page_diff.specs.Differences.{wanted_at}
use Rattle.s38_image.proofs.AgainLaws.{header_long, rows_bytes_long}
use Rattle.s38_image.specs.Bodies.{body_bytes, body_tags}
use Rattle.s38_image.specs.Fitting.{header_codec}
use Rattle.s38_image.specs.Headers.{header, is_mark, kind, mark, name, object_number_form, rights, rows}
use Rattle.s38_image.specs.Images.{body_parts, header_parts, image_of, image_parts, rows_parts, stored_header}
use Rattle.s38_image.specs.Pages.{needed, no_tags}
use Rattle.s38_image.specs.declared.header.Header.{Header}
use Rattle.s38_image.specs.declared.stored.Stored.{Stored}
use Rattle.s38_image_writer.proofs.PartLaws.{stream_long}
use Rattle.s38_rules.specs.store.Room.{image_len, pages_begun, rows_pages}
use Rattle.s38_vault.specs.Directory.{Keys, is_new, new_keys}
use Rattle.s38_flush.proofs.FrontLaws.{first_part, front_are, parts_split, stream_from, wanted_after, wanted_before}
use Rattle.s38_laws_flush.proofs.durable.StreamLaws.{HaveParts, stream_new, stream_there}
use Rattle.s38_flush.specs.Fronts.{front_parts}
use Rattle.s38_flush.specs.Stepping.{HasHeader}

-- ---- the length of a body that a header says

last_true : (a b : Bool) → (a && b) ≡ true → b ≡ true
last_true true b e = e
last_true false b e = absurd cc

pub body_small : (h : Header) → header_codec.fits h ≡ true → h.body < 2 ^ 32
body_small h fits =
    let a = last_true ((only is_mark u32).fits mark) _ fits in
    let b = last_true (kind.fits h.id.kind) _ a in
    let c = last_true (byte.fits h.id.sub) _ b in
    let d = last_true (name.fits h.id.name) _ c in
    let e = last_true (object_number_form.fits h.context) _ d in
    let f = last_true (object_number_form.fits h.owner) _ e in
    let g = last_true (rights.fits h.public) _ f in
    let i = last_true ((only byte_is_zero byte).fits 0) _ g in
    let j = last_true (u32.fits h.rows) _ i in
    ltb-true h.body (2 ^ 32) (both_true (u32.fits h.body) _ j).0

-- ---- the parts of an object

new-append : (keys : Keys) (cs ds : List Change) → new_keys keys (cs ++ ds) ≡ new_keys keys cs + new_keys keys ds
new-append keys cs ds = sum_by-append (λ c. cond (is_new keys c) 1 0) cs ds

module _ (x : Stored) (has : HasHeader x) where
  abbrev n : ℕ
  n = x.object.number.0

  head : length (header.print (stored_header x)) ≡ 512
  head = header_long (stored_header x) has.fits

  rowed : needed (length ((rows (length x.object.rows)).print x.object.rows)) ≡ rows_pages x.object
  rowed = ap needed (rows_bytes_long x.object.rows)

  bodied : needed (length (body_bytes x.object.id.kind (image_of x))) ≡ pages_begun (image_len x.object.body)
  bodied = ap needed has.long

  pub rows_low : rows_pages x.object ≤ 127
  rows_low = let few = has.rows in omega (arith, few)

  -- which are there
  pub header_there : is_some (wanted_at (image_parts x) (key_at n 0)) ≡ true
  header_there = ap is_some (first_part x head)

  pub rows_there : (p : ℕ) → 1 ≤ p → p < 1 + rows_pages x.object → is_some (wanted_at (image_parts x) (key_at n p)) ≡ true
  rows_there p from before =
      let low = rows_low in
      let near : p < 128 = omega (arith, low, before) in
      let behind = stream_from n 128 (body_bytes x.object.id.kind (image_of x)) (body_tags x.object.id.kind (image_of x)) in
      let front = stream_from n 0 (header.print (stored_header x)) (no_tags header (stored_header x)) in
      let past : 0 + needed (length (header.print (stored_header x))) ≤ p = omega (arith, ap needed head, from) in
      ap (λ (cs : List Change). is_some (wanted_at cs (key_at n p))) (parts_split x)
      ∙ ap is_some (wanted_before n 128 _ p (front_parts x.object (stored_header x).body) (body_parts x) behind near)
      ∙ ap is_some (wanted_after n 0 _ p (header_parts x) (rows_parts x) front past)
      ∙ stream_there n 1 ((rows (length x.object.rows)).print x.object.rows) _ p from (omega (arith, before, rowed))

  pub body_there : (p : ℕ) → 128 ≤ p → p < 128 + pages_begun (image_len x.object.body) → is_some (wanted_at (image_parts x) (key_at n p)) ≡ true
  body_there p from before =
      ap (λ (cs : List Change). is_some (wanted_at cs (key_at n p))) (parts_split x)
      ∙ ap is_some (wanted_after n 0 128 p (front_parts x.object (stored_header x).body) (body_parts x) (front_are x.object (stored_header x).body head has.rows) from)
      ∙ stream_there n 128 (body_bytes x.object.id.kind (image_of x)) _ p from (omega (arith, before, bodied))

  -- how many are new, where so many of the header, the rows and the body are there
  pub parts_new : (keys : Keys) (h r b : ℕ) → HaveParts keys n 0 h → HaveParts keys n 1 r → HaveParts keys n 128 b
      → new_keys keys (image_parts x) ≤ (1 - h) + ((rows_pages x.object - r) + (pages_begun (image_len x.object.body) - b))
  parts_new keys h r b one two three =
      let a = stream_new keys n 0 (header.print (stored_header x)) (no_tags header (stored_header x)) h one in
      let c = stream_new keys n 1 ((rows (length x.object.rows)).print x.object.rows) (no_tags (rows (length x.object.rows)) x.object.rows) r two in
      let d = stream_new keys n 128 (body_bytes x.object.id.kind (image_of x)) (body_tags x.object.id.kind (image_of x)) b three in
      let all = new-append keys (header_parts x) (rows_parts x ++ body_parts x) in
      let later = new-append keys (rows_parts x) (body_parts x) in
      omega (arith, a, c, d, ap needed head, rowed, bodied, all, later)

  -- how many they are
  pub parts_long : length (image_parts x) ≤ 1 + (rows_pages x.object + pages_begun (image_len x.object.body))
  parts_long =
      let a = stream_long n 0 (header.print (stored_header x)) (no_tags header (stored_header x)) in
      let c = stream_long n 1 ((rows (length x.object.rows)).print x.object.rows) (no_tags (rows (length x.object.rows)) x.object.rows) in
      let d = stream_long n 128 (body_bytes x.object.id.kind (image_of x)) (body_tags x.object.id.kind (image_of x)) in
      omega (arith, a, c, d, ap needed head, rowed, bodied, length-append (header_parts x) (rows_parts x ++ body_parts x), length-append (rows_parts x) (body_parts x))

  -- each is a part of 32 bits
  pub body_low : 128 + pages_begun (image_len x.object.body) ≤ 2 ^ 32
  body_low = let small = body_small (stored_header x) has.fits in omega (arith, small, has.long)
