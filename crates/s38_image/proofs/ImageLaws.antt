-- An object's parts are read as that object, and nothing else is.
use Rattle.std.proofs.Common.{◌≡◌, ℕ, ◌*◌, Bool, true, false, cond, ltb, List, [], ◌∷◌, ◌++◌, length, Option, Some, None, refl, sym, ap, subst, ◌∙◌}
use Rattle.std.specs.Prelude.{Result, Ok, Err}
use Rattle.std.proofs.lemmas.List.{take_at, drop_at}
use Rattle.s38_image.specs.Fitting.{AreFine, AreWhole, FitsBody, IsImage, header_codec, rows_codec}
use Rattle.s38_base.specs.Limits.{page_bytes}
use Rattle.s38_base.specs.declared.id.Kind.{Kind}
use Rattle.s38_base.specs.declared.id.Kind.TheVariants as kinds
use Rattle.s38_base.specs.declared.page.Change.{Change}
use Rattle.s38_codec.specs.Codec.{AreBytes}
use Rattle.s38_codec.proofs.CodecLaws.{AreBytes-drop, AreBytes-take}
use Rattle.s38_image.proofs.BodyLaws.{body_is}
use Rattle.s38_image.proofs.HeaderLaws.{header_is, rows_is, rows_long}
use Rattle.s38_image.proofs.StreamLaws.{stream_append}
use Rattle.s38_image.proofs.PageLaws.{parts_exact}
use Rattle.s38_image.specs.Bodies.{BodyImage, body, body_bytes, body_tags}
use Rattle.s38_image.specs.Headers.{header, header_is_within, rows}
use Rattle.s38_image.specs.Images.{after_leading, body_in, body_parts, first_missing, header_in_parts, header_parts, image_of, image_parts, leading, limited, made, object_of_parts, or_fault, rows_in_parts, rows_parts, stored_header, wanted_parts, with_all_pages, with_body, with_row_parts, ◌>>>◌}
use Rattle.s38_image.specs.PartPlaces.{body_part, row_bytes, rows_part}
use Rattle.s38_image.specs.Pages.{needed, no_tags, numbered_pieces, page_pieces, print_parts, stream, tags_in, zero_filled}
use Rattle.s38_image.specs.declared.header.Header.{Header}
use Rattle.s38_image.specs.declared.stored.Stored.{Stored}

-- ---- parts in three

parted_by : (limit : ℕ) (p : Change) (ps : List Change) (b : Bool) → ltb p.key.part limit ≡ b → ps ≡ leading limit ps ++ after_leading limit ps → p ∷ ps ≡ leading limit (p ∷ ps) ++ after_leading limit (p ∷ ps)
parted_by limit p ps true is rest = rw is (ap (λ (q : List Change). p ∷ q) rest)
parted_by limit p ps false is rest = rw is refl

pub parted : (limit : ℕ) (ps : List Change) → ps ≡ leading limit ps ++ after_leading limit ps
parted limit [] = refl
parted limit (p ∷ ps) = parted_by limit p ps _ refl (parted limit ps)

whole_leading_by : (limit : ℕ) (p : Change) (ps : List Change) (b : Bool) → ltb p.key.part limit ≡ b → AreWhole (p ∷ ps) → AreWhole (leading limit ps) × AreWhole (after_leading limit ps) → AreWhole (leading limit (p ∷ ps)) × AreWhole (after_leading limit (p ∷ ps))
unfolding AreWhole
whole_leading_by limit p ps true is ok rest = rw is ((ok.0, rest.0), rest.1)
whole_leading_by limit p ps false is ok rest = rw is (tt, ok)

whole_leading : (limit : ℕ) (ps : List Change) → AreWhole ps → AreWhole (leading limit ps) × AreWhole (after_leading limit ps)
unfolding AreWhole
whole_leading limit [] ok = (tt, tt)
whole_leading limit (p ∷ ps) ok = whole_leading_by limit p ps _ refl ok (whole_leading limit ps ok.1)

fine_leading : (limit : ℕ) (ps : List Change) → AreFine ps → AreFine (leading limit ps) × AreFine (after_leading limit ps)
fine_leading limit ps fine =
    let w = whole_leading limit ps fine.whole in
    let e : stream ps ≡ stream (leading limit ps) ++ stream (after_leading limit ps) = ap stream (parted limit ps) ∙ stream_append (leading limit ps) (after_leading limit ps) in
    let both = subst AreBytes e fine.bytes in (
      record { whole = w.0; bytes = subst AreBytes (take_at (stream (leading limit ps)) (stream (after_leading limit ps)) _ refl) (AreBytes-take (length (stream (leading limit ps))) _ both) },
      record { whole = w.1; bytes = subst AreBytes (drop_at (stream (leading limit ps)) (stream (after_leading limit ps)) _ refl) (AreBytes-drop (length (stream (leading limit ps))) _ both) },
    )

-- ---- what is read

pub then_ok : {A B : Type 0} (r : Result A ℕ) (f : A → Result B ℕ) (y : B) → (r >>> f) ≡ Ok y → (x : A) × (r ≡ Ok x) × (f x ≡ Ok y)
then_ok (Err p) f y e = absurd cc
then_ok (Ok x) f y e = (x, refl, e)

pub fault_ok : {A : Type 0} (part : ℕ) (o : Option A) (x : A) → or_fault part o ≡ Ok x → o ≡ Some x
fault_ok part None x e = absurd cc
fault_ok part (Some y) x e = cc

abbrev ok_header : Header → Result Header ℕ
ok_header h = Ok h

same_header : (g h : Header) → ok_header g ≡ ok_header h → g ≡ h
same_header g h e = cc

limited_by : (b : Bool) (g h : Header) → cond b (ok_header g) (Err 0) ≡ ok_header h → (b ≡ true) × (g ≡ h)
limited_by true g h e = (refl, same_header g h e)
limited_by false g h e = absurd cc

limited_ok : (limit : ℕ) (g h : Header) → limited limit g ≡ Ok h → (header_is_within limit g ≡ true) × (g ≡ h)
limited_ok limit g h e = limited_by (header_is_within limit g) g h e

joined : (a b c d : List Change) → a ≡ b → c ≡ d → a ++ c ≡ b ++ d
joined a b c d e f = cc

abbrev ok_stored : Stored → Result Stored ℕ
ok_stored s = Ok s

same_stored : {s t : Stored} → ok_stored s ≡ ok_stored t → s ≡ t
same_stored e = cc

-- what a body of a kind prints does not hang on its tags
pub print_same : (k : Kind) (tags : List ℕ) (i : BodyImage) → (body k tags).print i ≡ body_bytes k i
print_same kinds.Context tags i = refl
print_same kinds.Program tags i = refl
print_same kinds.Profile tags i = refl
print_same kinds.Space tags i = refl
print_same kinds.Queue tags i = refl
print_same kinds.Index tags i = refl
print_same kinds.DataSpace tags i = refl
print_same kinds.Cursor tags i = refl
print_same kinds.Port tags i = refl
print_same kinds.Journal tags i = refl
print_same kinds.Block tags i = refl

-- the last parts are those of the body
record HasBody (number : ℕ) (h : Header) (last : List Change) (i : BodyImage) : Type 0 where
  pub printed : last ≡ print_parts number body_part (body h.id.kind []) (body_tags h.id.kind) i
  pub fits : FitsBody h.id.kind (body_tags h.id.kind i) i
  pub long : length (body_bytes h.id.kind i) ≡ h.body

body_ok : (number : ℕ) (h : Header) (last : List Change) (i : BodyImage) → AreFine last → body_in number h.id.kind h.body last ≡ Some i → HasBody number h last i
body_ok number h last i fine e =
    let k = h.id.kind in
    let tags = tags_in last in
    let r = parts_exact number body_part (body k tags) (body_tags k) (FitsBody k tags) (body_is k tags) h.body last i fine.whole fine.bytes e in
    record {
      printed = r.printed ∙ ap (λ (bytes : List ℕ). numbered_pieces number body_part (page_pieces (needed (length bytes)) (zero_filled (page_bytes * needed (length bytes)) bytes)) (body_tags k i)) (print_same k tags i);
      fits = subst (λ (t : List ℕ). FitsBody k t i) (sym r.tagged) r.fits;
      long = ap length (sym (print_same k tags i)) ∙ r.long;
    }

-- the parts from 1 on are those of rows and body
record HasRows (number : ℕ) (h : Header) (middle last : List Change) (s : Stored) : Type 0 where
  pub made : s ≡ made number h s.object.rows (image_of s)
  pub printed : middle ≡ print_parts number rows_part (rows h.rows) (no_tags (rows h.rows)) s.object.rows
  pub fits : (rows_codec h.rows).fits s.object.rows ≡ true
  pub body : HasBody number h last (image_of s)

rows_ok : (number : ℕ) (h : Header) (middle last : List Change) (s : Stored) → AreFine middle → AreFine last → with_row_parts number h middle last ≡ Ok s → HasRows number h middle last s
rows_ok number h middle last s fine_middle fine_last e =
    let a = then_ok (or_fault rows_part (rows_in_parts number h.rows middle)) (λ rs. with_body number h rs last) s e in
    let b = then_ok (or_fault body_part (body_in number h.id.kind h.body last)) (λ i. Ok (made number h a.0 i)) s a.2 in
    let r = parts_exact number rows_part (rows h.rows) (no_tags (rows h.rows)) (λ rs. (rows_codec h.rows).fits rs ≡ true) (rows_is h.rows) (row_bytes * h.rows) middle a.0 fine_middle.whole fine_middle.bytes (fault_ok rows_part _ a.0 a.1) in
    let m = body_ok number h last b.0 fine_last (fault_ok body_part _ b.0 b.1) in
    let own : HasRows number h middle last (made number h a.0 b.0) = record { made = refl; printed = r.printed; fits = r.fits; body = m } in
    subst (HasRows number h middle last) (same_stored b.2) own

header_same : (number : ℕ) (h : Header) (s : Stored) → s ≡ made number h s.object.rows (image_of s) → length s.object.rows ≡ h.rows → length (body_bytes s.object.id.kind (image_of s)) ≡ h.body → stored_header s ≡ h
header_same number h s made_is count len =
    let id = ap (λ (t : Stored). t.object.id) made_is in
    let context = ap (λ (t : Stored). t.object.context) made_is in
    let owner = ap (λ (t : Stored). t.object.owner) made_is in
    let public = ap (λ (t : Stored). t.object.public) made_is in
    λ i. record { id = id i; context = context i; owner = owner i; public = public i; rows = count i; body = len i }

exact_by : (limit number : ℕ) (ps front middle last : List Change) (h : Header) (s : Stored) → ps ≡ front ++ after_leading rows_part ps → after_leading rows_part ps ≡ middle ++ last
    → front ≡ print_parts number 0 header (no_tags header) h → header_codec.fits h ≡ true → header_is_within limit h ≡ true → HasRows number h middle last s
    → (ps ≡ image_parts s) × (s.object.number.0 ≡ number) × IsImage limit s
exact_by limit number ps front middle last h s one two printed fits within m =
    let kind : s.object.id.kind ≡ h.id.kind = ap (λ (t : Stored). t.object.id.kind) m.made in
    let own : s.object.number.0 ≡ number = ap (λ (t : Stored). t.object.number.0) m.made in
    let count : length s.object.rows ≡ h.rows = rows_long h.rows s.object.rows m.fits in
    let len : length (body_bytes s.object.id.kind (image_of s)) ≡ h.body = ap (λ (k : Kind). length (body_bytes k (image_of s))) kind ∙ m.body.long in
    let same : stored_header s ≡ h = header_same number h s m.made count len in
    let front_is : front ≡ header_parts s = printed ∙ ap (λ (g : Header). print_parts number 0 header (no_tags header) g) (sym same) ∙ ap (λ (n : ℕ). print_parts n 0 header (no_tags header) (stored_header s)) (sym own) in
    let middle_is : middle ≡ rows_parts s = m.printed ∙ ap (λ (n : ℕ). print_parts number rows_part (rows n) (no_tags (rows n)) s.object.rows) (sym count) ∙ ap (λ (n : ℕ). print_parts n rows_part (rows (length s.object.rows)) (no_tags (rows (length s.object.rows))) s.object.rows) (sym own) in
    let last_is : last ≡ body_parts s = m.body.printed ∙ ap (λ (k : Kind). print_parts number body_part (body k []) (body_tags k) (image_of s)) (sym kind) ∙ ap (λ (n : ℕ). print_parts n body_part (body s.object.id.kind []) (body_tags s.object.id.kind) (image_of s)) (sym own) in (
      one ∙ joined front (header_parts s) (after_leading rows_part ps) (rows_parts s ++ body_parts s) front_is (two ∙ joined middle (rows_parts s) last (body_parts s) middle_is last_is),
      own,
      record {
        on_disk = ap (λ (t : Stored). t.object.on_disk) m.made;
        header = ap header_codec.fits same ∙ fits;
        within = ap (header_is_within limit) same ∙ within;
        rows = ap (λ (n : ℕ). (rows_codec n).fits s.object.rows) count ∙ m.fits;
        body = subst (λ (k : Kind). FitsBody k (body_tags k (image_of s)) (image_of s)) (sym kind) m.body.fits;
      },
    )

pub object_exact : (limit number : ℕ) (ps : List Change) (s : Stored) → AreFine ps → object_of_parts limit number ps ≡ Ok s → (ps ≡ image_parts s) × (s.object.number.0 ≡ number) × IsImage limit s
unfolding object_of_parts
object_exact limit number ps s fine e =
    let front = leading rows_part ps in
    let later = after_leading rows_part ps in
    let middle = leading body_part later in
    let last = after_leading body_part later in
    let c = then_ok (or_fault 0 (header_in_parts number front) >>> limited limit) (λ h. with_all_pages number ps h later) s e in
    let a = then_ok (or_fault 0 (header_in_parts number front)) (limited limit) c.0 c.1 in
    let l = limited_ok limit a.0 c.0 a.2 in
    let h = c.0 in
    let b = then_ok (first_missing number ps (wanted_parts h)) (λ _. with_row_parts number h middle last) s c.2 in
    let one = fine_leading rows_part ps fine in
    let two = fine_leading body_part later one.1 in
    let read : header_in_parts number front ≡ Some h = fault_ok 0 (header_in_parts number front) a.0 a.1 ∙ ap (λ (g : Header). Some g) l.1 in
    let r = parts_exact number 0 header (no_tags header) (λ g. header_codec.fits g ≡ true) header_is 512 front h one.0.whole one.0.bytes read in
    let m = rows_ok number h middle last s two.0 two.1 b.2 in
    exact_by limit number ps front middle last h s (parted rows_part ps) (parted body_part later) r.printed r.fits (subst (λ (g : Header). header_is_within limit g ≡ true) l.1 l.0) m
