-- How many parts of an object differ from those that are kept of it.
use Rattle.std.proofs.Common.{◌≡◌, ◌∙◌, ℕ, zero, suc, ◌+◌, ◌/◌, ◌<◌, ◌≤◌, ◌==◌, Bool, true, false, cond, List, [], ◌∷◌, ◌++◌, length, lit≤, refl, sym, ap, subst, arith}
use Rattle.std.proofs.lemmas.List.{append-nil}
use Rattle.std.proofs.lemmas.List.Sums.{sum_by-append, sum_by-cons}
use Rattle.std.specs.Prelude.{◌&&◌, None, Option, Some}
use Rattle.s38_base.specs.declared.id.Kind.TheVariants as kinds
use Rattle.s38_base.specs.declared.id.Kind.{Kind}
use Rattle.s38_base.specs.declared.page.Change.{Change}
use Rattle.s38_base.specs.declared.page.Key.{Key}
use Rattle.s38_base.specs.declared.page.Page.{Page}
use Rattle.s38_checkpoint.proofs.PartLaws.{ArePart, both_parts}
use Rattle.s38_codec.specs.Formats.{print_by}
use Rattle.s38_durable_state.specs.Represents.{parts_in}
use Rattle.s38_page_diff.proofs.WalkLaws.{key_at}
use Rattle.s38_page_diff.specs.Differences.{wanted_at}
use Rattle.s38_image.proofs.AgainLaws.{header_long}
use Rattle.s38_image.specs.Bodies.{body, body_bytes, body_tags}
use Rattle.s38_image.specs.Headers.{header, rows}
use Rattle.s38_image.specs.Images.{body_parts, header_parts, image_of, image_parts, rows_parts, stored_header}
use Rattle.s38_image.specs.Journals.{journal}
use Rattle.s38_image.specs.Pages.{needed, no_tags, print_parts, stream_parts}
use Rattle.s38_image.specs.declared.stored.Stored.{Stored}
use Rattle.s38_image_writer.proofs.LengthLaws.{journal_long}
use Rattle.s38_journals.specs.Entries.{JournalRecord, journal_entry_len}
use Rattle.s38_journals.specs.Journals.{JournalList, entries_len}
use Rattle.s38_rules.specs.store.Room.{image_len, pages_begun}
use Rattle.s38_rules.specs.declared.object.Body.TheVariants as bodies
use Rattle.s38_rules.specs.declared.object.Body.{Body}
use Rattle.s38_rules.specs.declared.rows.PrivateRow.{PrivateRow}
use Rattle.s38_flush.proofs.FrontLaws.{front_are, parts_split, stream_from, untagged, wanted_after, wanted_before}
use Rattle.s38_flush.specs.Fronts.{front_parts}
use Rattle.s38_flush.specs.Stepping.{HasHeader}
use Rattle.s38_laws_flush.specs.puts.Spaces.{IsSpace}
use Rattle.s38_laws_flush.proofs.puts.DifferLaws.{AreSame, differ, differ_before, differ_from, few_differ, pieces}
use Rattle.s38_laws_flush.proofs.puts.PrintLaws.{printed_more, printed_none}
use Rattle.s38_laws_flush.proofs.puts.TailLaws.{stream_longer}

-- ---- one object

module _ (x : Stored) (has : HasHeader x) where
  abbrev own : ℕ
  own = x.object.number.0

  abbrev bytes : List ℕ
  bytes = body_bytes x.object.id.kind (image_of x)

  long : needed (length bytes) ≡ pages_begun (image_len x.object.body)
  long = ap needed has.long

  front : ArePart own 0 128 (front_parts x.object (stored_header x).body)
  front = front_are x.object (stored_header x).body (header_long (stored_header x) has.fits) has.rows

  behind : ArePart own 128 (128 + needed (length bytes)) (body_parts x)
  behind = stream_from own 128 bytes (body_tags x.object.id.kind (image_of x))

  all : ArePart own 0 (128 + needed (length bytes)) (image_parts x)
  all = subst (ArePart own 0 (128 + needed (length bytes))) (sym (parts_split x)) (both_parts own 0 128 (128 + needed (length bytes)) _ _ (lit≤ tt) (omega arith) front behind)

  -- after its body it has no part
  pub none_after_body : (p : ℕ) → 128 + pages_begun (image_len x.object.body) ≤ p → wanted_at (image_parts x) (key_at own p) ≡ None
  none_after_body p past =
      ap (λ (cs : List Change). wanted_at cs (key_at own p)) (sym (append-nil (image_parts x)))
      ∙ wanted_after own 0 (128 + needed (length bytes)) p (image_parts x) [] all (omega (arith, past, long))

  -- the parts of its body
  pub body_page : (p : ℕ) → 128 ≤ p → wanted_at (image_parts x) (key_at own p) ≡ wanted_at (body_parts x) (key_at own p)
  body_page p from =
      ap (λ (cs : List Change). wanted_at cs (key_at own p)) (parts_split x) ∙ wanted_after own 0 128 p (front_parts x.object (stored_header x).body) (body_parts x) front from

  -- and those of its rows
  pub rows_page : (p : ℕ) → 1 ≤ p → p < 128 → wanted_at (image_parts x) (key_at own p) ≡ wanted_at (rows_parts x) (key_at own p)
  rows_page p from before =
      let head = stream_from own 0 (header.print (stored_header x)) (no_tags header (stored_header x)) in
      let one : needed (length (header.print (stored_header x))) ≡ 1 = ap needed (header_long (stored_header x) has.fits) in
      ap (λ (cs : List Change). wanted_at cs (key_at own p)) (parts_split x)
      ∙ wanted_before own 128 _ p (front_parts x.object (stored_header x).body) (body_parts x) behind before
      ∙ wanted_after own 0 (0 + needed (length (header.print (stored_header x)))) p (header_parts x) (rows_parts x) head (omega (arith, one, from))

-- the parts of the same rows
abbrev parts_of_rows : ℕ → List PrivateRow → List Change
parts_of_rows n rs = print_parts n 1 (rows (length rs)) (no_tags (rows (length rs))) rs

-- ---- a journal space

no_entries : (es : List JournalRecord) → 0 ≡ entries_len es → es ≡ []
no_entries [] e = refl
no_entries (x ∷ es) e = absurd (omega (arith, e, sum_by-cons journal_entry_len x es))

-- its bytes are those of its entries, where its header says how many there are
journal_bytes : (b : Body) (sequence : ℕ) (j : JournalList) → b ≡ bodies.Journal j → length (body_bytes kinds.Journal (record { body = b; sequence = sequence })) ≡ image_len b
    → body_bytes kinds.Journal (record { body = b; sequence = sequence }) ≡ journal.print j.entries
journal_bytes b sequence j is has =
    ap (λ (c : Body). body_bytes kinds.Journal (record { body = c; sequence = sequence })) is
    ∙ by sequence (sym (ap (λ (c : Body). length (body_bytes kinds.Journal (record { body = c; sequence = sequence }))) is) ∙ has ∙ ap image_len is)
  where
    none : length {A = ℕ} [] ≡ entries_len j.entries → [] ≡ journal.print j.entries
    none e = sym printed_none ∙ sym (ap journal.print (no_entries j.entries e))

    at : (c : Bool) → length (print_by journal (cond c (Some j.entries) None)) ≡ entries_len j.entries → print_by journal (cond c (Some j.entries) None) ≡ journal.print j.entries
    at true e = refl
    at false e = none e

    by : (k : ℕ) → length (body_bytes kinds.Journal (record { body = bodies.Journal j; sequence = k })) ≡ entries_len j.entries
        → body_bytes kinds.Journal (record { body = bodies.Journal j; sequence = k }) ≡ journal.print j.entries
    by zero e = at ((j.spare == 0) && (j.unforced == 0)) e
    by (suc k) e = none e

module _ (n : ℕ) (x : Stored) (es : List JournalRecord) (is : IsSpace n x es) where
  space_bytes : body_bytes kinds.Journal (image_of x) ≡ journal.print es
  space_bytes =
      journal_bytes x.object.body x.sequence is.journal is.body (sym (ap (λ (k : Kind). length (body_bytes k (image_of x))) is.kind) ∙ is.has.long) ∙ ap journal.print is.entries

  space_parts : body_parts x ≡ stream_parts n 128 (journal.print es) []
  space_parts =
      ap (λ (k : Kind). print_parts x.object.number.0 128 (body k []) (body_tags k) (image_of x)) is.kind
      ∙ sym (untagged x.object.number.0 128 (body kinds.Journal []) (image_of x))
      ∙ ap (λ (m : ℕ). stream_parts m 128 (body_bytes kinds.Journal (image_of x)) []) is.number
      ∙ ap (λ (bs : List ℕ). stream_parts n 128 bs []) space_bytes

  space_page : (p : ℕ) → 128 ≤ p → wanted_at (image_parts x) (key_at n p) ≡ wanted_at (stream_parts n 128 (journal.print es) []) (key_at n p)
  space_page p from =
      ap (λ (m : ℕ). wanted_at (image_parts x) (key_at m p)) (sym is.number) ∙ body_page x is.has p from ∙ ap (λ (m : ℕ). wanted_at (body_parts x) (key_at m p)) is.number
      ∙ ap (λ (cs : List Change). wanted_at cs (key_at n p)) space_parts

  space_none : (p : ℕ) → 128 + needed (length (journal.print es)) ≤ p → wanted_at (image_parts x) (key_at n p) ≡ None
  space_none p past =
      let size : image_len x.object.body ≡ length (journal.print es) = ap image_len is.body ∙ ap entries_len is.entries ∙ sym (journal_long es) in
      ap (λ (m : ℕ). wanted_at (image_parts x) (key_at m p)) (sym is.number) ∙ none_after_body x is.has p (omega (arith, past, ap needed size))

-- the pages that lie within the entries that were kept stay where more entries are
pub pages_stay : (n p : ℕ) (x y : Stored) (es rest : List JournalRecord) → IsSpace n x es → IsSpace n y (es ++ rest) → 128 ≤ p → p < 128 + entries_len es / 512
    → wanted_at (image_parts x) (key_at n p) ≡ wanted_at (image_parts y) (key_at n p)
pages_stay n p x y es rest was is from before =
    let more = printed_more es rest in
    let size = journal_long es in
    space_page n x es was p from ∙ stream_longer n 128 p (journal.print es) more.0 from (omega (arith, before, size))
    ∙ sym (ap (λ (bs : List ℕ). wanted_at (stream_parts n 128 bs []) (key_at n p)) more.1) ∙ sym (space_page n y (es ++ rest) is p from)

-- ---- two that are kept under a number

-- what is kept is of the number, with a header
abbrev pub IsOf : ℕ → Option Stored → Type 0
IsOf n None = Unit {0}
IsOf n (Some x) = (x.object.number.0 ≡ n) × HasHeader x

-- how many pages its body has
abbrev pub pages_in : Option Stored → ℕ
pages_in None = 0
pages_in (Some x) = pages_begun (image_len x.object.body)

-- the page that is kept
abbrev pub page_in : Option Stored → Key → Option Page
page_in r key = wanted_at (parts_in r) key

none_past : (n : ℕ) (r : Option Stored) (p : ℕ) → IsOf n r → 128 + pages_in r ≤ p → page_in r (key_at n p) ≡ None
none_past n None p is past = refl
none_past n (Some x) p is past = ap (λ (m : ℕ). wanted_at (image_parts x) (key_at m p)) (sym is.0) ∙ none_after_body x is.1 p past

-- no more parts differ than header, rows and body may have
pub all_few : (n end b : ℕ) (old new : Option Stored) → IsOf n old → IsOf n new → pages_in old ≤ b → pages_in new ≤ b → 128 + b ≤ end → differ (page_in old) (parts_in new) n 0 end ≤ 128 + b
all_few n end b old new was is some more low =
    let few = differ_before (page_in old) (parts_in new) n 0 (128 + b) end (omega arith) low same in
    omega (arith, few)
  where
    same : AreSame (page_in old) (parts_in new) n (128 + b) end
    same p from before = none_past n old p was (omega (arith, some, from)) ∙ sym (none_past n new p is (omega (arith, more, from)))

module _ (n end : ℕ) (x y : Stored) (es rest : List JournalRecord) (was : IsSpace n x es) (is : IsSpace n y (es ++ rest)) (low : 128 + needed (length (journal.print (es ++ rest))) ≤ end) where
  abbrev pages : Key → Option Page
  pages = page_in (Some x)

  abbrev wanted : List Change
  wanted = parts_in (Some y)

  abbrev first_pages : ℕ
  first_pages = length (journal.print es) / 512

  abbrev all_pages : ℕ
  all_pages = needed (length (journal.print (es ++ rest)))

  size : length (journal.print (es ++ rest)) ≡ length (journal.print es) + entries_len rest
  size =
      let one = journal_long es in
      let two = journal_long (es ++ rest) in
      let both = sum_by-append journal_entry_len es rest in
      omega (arith, one, two, both)

  -- the pages within what was kept are the same
  begin_same : AreSame pages wanted n 128 (128 + first_pages)
  begin_same p from before = let own = journal_long es in pages_stay n p x y es rest was is from (omega (arith, before, own))

  past_same : AreSame pages wanted n (128 + all_pages) end
  past_same p from before = space_none n x es was p (omega (arith, from, size)) ∙ sym (space_none n y (es ++ rest) is p from)

  tail_few : differ pages wanted n 128 end ≤ (entries_len rest + 1022) / 512
  tail_few =
      let within : first_pages ≤ all_pages = omega (arith, size) in
      let skipped = differ_from pages wanted n 128 (128 + first_pages) end (omega arith) (omega (arith, within, low)) begin_same in
      let few = differ_before pages wanted n (128 + first_pages) (128 + all_pages) end (omega (arith, within)) low past_same in
      omega (arith, skipped, few, size)

  -- where its entries are kept whole, no more parts differ than those before its body and the pages after what was kept
  pub space_few : differ pages wanted n 0 end ≤ 128 + (entries_len rest + 1022) / 512
  space_few =
      let both = pieces pages wanted n 0 128 end (omega arith) (omega (arith, low)) in
      let front_few = few_differ pages wanted n 0 128 in
      let rest_few = tail_few in
      omega (arith, both, front_few, rest_few)

  -- and with the same rows no more than its header and these pages
  pub same_few : y.object.rows ≡ x.object.rows → differ pages wanted n 0 end ≤ 1 + (entries_len rest + 1022) / 512
  same_few same =
      let both = pieces pages wanted n 0 128 end (omega arith) (omega (arith, low)) in
      let front_few = differ_before pages wanted n 0 1 128 (omega arith) (omega arith) rows_same in
      let rest_few = tail_few in
      omega (arith, both, front_few, rest_few)
    where
      rows_at : (z : Stored) → z.object.number.0 ≡ n → HasHeader z → (p : ℕ) → 1 ≤ p → p < 128 → wanted_at (image_parts z) (key_at n p) ≡ wanted_at (parts_of_rows n z.object.rows) (key_at n p)
      rows_at z number has p from before =
          ap (λ (m : ℕ). wanted_at (image_parts z) (key_at m p)) (sym number) ∙ rows_page z has p from before ∙ ap (λ (m : ℕ). wanted_at (parts_of_rows m z.object.rows) (key_at m p)) number

      rows_same : AreSame pages wanted n 1 128
      rows_same p from before =
          rows_at x was.number was.has p from before ∙ ap (λ (rs : List PrivateRow). wanted_at (parts_of_rows n rs) (key_at n p)) (sym same) ∙ sym (rows_at y is.number is.has p from before)

-- a journal space whose body need not persist
pub header_few : (n end : ℕ) (x y : Stored) (es : List JournalRecord) → IsSpace n x es → IsSpace n y es → 128 ≤ end → differ (page_in (Some x)) (parts_in (Some y)) n 0 end ≤ 128
header_few n end x y es was is low = differ_before (page_in (Some x)) (parts_in (Some y)) n 0 128 end (omega arith) low same
  where
    same : AreSame (page_in (Some x)) (parts_in (Some y)) n 128 end
    same p from before = space_page n x es was p from ∙ sym (space_page n y es is p from)
