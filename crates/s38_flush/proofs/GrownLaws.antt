-- What differs of a journal space that grew since it was kept: what lies before its body, and the pages from the one on in
-- which the bytes end that are kept.
use Rattle.std.proofs.Common.{◌≡◌, ◌==◌, ◌&&◌, Bool, ◌+◌, ◌-◌, ◌*◌, ◌<◌, ◌≤◌, ◌∙◌, ◌∷◌, ◌++◌, [], List, None, Option, Some, ap, append-nil, append_assoc, arith, cond, drop, false, length, lit≤, refl, subst, suc, sym, true, zero, ℕ}
use Rattle.std.proofs.lemmas.List.{length-append, length-drop}
use Rattle.std.proofs.lemmas.List.Sums.{sum_by-cons}
use Rattle.std.specs.FinMap.{get}
use Rattle.s38_base.specs.declared.id.Kind.{Kind}
use Rattle.s38_base.specs.declared.id.Kind.TheVariants as kinds
use Rattle.s38_base.specs.declared.id.ObjNum.{ObjNum}
use Rattle.s38_base.specs.declared.page.Change.{Change}
use Rattle.s38_base.specs.declared.page.Key.{Key}
use Rattle.s38_base.specs.declared.page.Page.{Page}
use Rattle.s38_codec.specs.Formats.{print_by}
use Rattle.s38_checkpoint.proofs.PartLaws.{ArePart, both_parts, stream_part, zero_tags}
use Rattle.s38_page_diff.proofs.DifferenceLaws.{same_differences, split}
use Rattle.s38_page_diff.proofs.LookLaws.{differences_rising, each_difference, nothing_differs}
use Rattle.s38_page_diff.proofs.WalkLaws.{key_at}
use Rattle.s38_page_diff.proofs.WantedLaws.{in_range, inside}
use Rattle.s38_page_diff.specs.Differences.{HavePages, IsWanted, differences, differences_from, wanted_at}
use Rattle.s38_page_diff.specs.declared.range.PartRange.{PartRange}
use Rattle.s38_durable_state.specs.Durable.{Durable, kept}
use Rattle.s38_durable_state.specs.Represents.{Represents, parts_end}
use Rattle.s38_image.proofs.AgainLaws.{header_long}
use Rattle.s38_image.specs.Bodies.{body_bytes}
use Rattle.s38_image.specs.PartPlaces.{ceiling_key}
use Rattle.s38_image.specs.Headers.{header}
use Rattle.s38_image.specs.Images.{body_parts, image_of, image_parts, stored_header}
use Rattle.s38_image.specs.Journals as journals
use Rattle.s38_image.specs.Pages.{needed, page_pieces, stream_parts, zero_filled}
use Rattle.s38_image.specs.Settled.{settled_journal}
use Rattle.s38_image.specs.declared.stored.Stored.{Stored}
use Rattle.s38_image_writer.proofs.PrintLaws.{journal_bytes, journal_length}
use Rattle.s38_image_writer.specs.Parts.{header_with}
use Rattle.s38_journals.specs.Entries.{JournalRecord, entry_image, journal_entry_len}
use Rattle.s38_journals.specs.Journals.{JournalList, entries_len, journal_image}
use Rattle.s38_page_diff.proofs.reconcile.SoFarLaws.{all_of}
use Rattle.s38_page_diff.specs.reconcile.Replacing.{range_of}
use Rattle.s38_rules.specs.store.Room.{image_len}
use Rattle.s38_rules.specs.declared.object.Body.TheVariants as bodies
use Rattle.s38_rules.specs.declared.object.Object.{Object}
use Rattle.s38_vault.specs.Content.{Content}
use Rattle.s38_vault.specs.Directory.{Keys}
use Rattle.s38_flush.proofs.FrontLaws.{front_are, parts_split, stream_from, wanted_after, wanted_before}
use Rattle.s38_flush.proofs.KeptLaws.{page_kept}
use Rattle.s38_flush.proofs.TailLaws.{none_after, page_stays, stream_after}
use Rattle.s38_flush.specs.Fronts.{AddsAt, front_parts, front_range}
use Rattle.s38_flush.specs.Growing.{IsBeginning, tail_parts, tail_range}
use Rattle.s38_flush.specs.Stepping.{HasHeader}

-- ---- pieces

-- the pages that so many bytes fill
pub full_pages : (k n : ℕ) → 512 * k ≤ n → k ≤ needed n
full_pages k n h = omega (arith, h)

more_pages : (a b : ℕ) → a ≤ b → needed a ≤ needed b
more_pages a b h = omega (arith, h)

-- and those after them
rest_pages : (k n : ℕ) → 512 * k ≤ n → k + needed (n - 512 * k) ≤ needed n
rest_pages k n h = omega (arith, h)

-- where so many parts from one on are there as they are wanted nothing of them differs
nothing_from : (pages : Key → Option Page) (wanted : List Change) (n part count : ℕ) → ((p : ℕ) → part ≤ p → p < part + count → pages (key_at n p) ≡ wanted_at wanted (key_at n p)) → differences_from pages wanted n part count ≡ []
nothing_from pages wanted n part count stands =
    let range : PartRange = record { object = n; first = part; end = part + count } in
    let many : count ≡ part + count - part = omega arith in
    ap (λ (k : ℕ). differences_from pages wanted n part k) many
    ∙ nothing_differs pages range wanted (λ key within.
    let here = inside range key within in
    let same : key_at n key.part ≡ key = ap (λ (k : ℕ). key_at k key.part) (sym here.object) in
    subst (λ (k : Key). pages k ≡ wanted_at wanted k) same (stands key.part here.from here.before))

-- ---- a stream after other parts that grew

abbrev range_to : ℕ → ℕ → PartRange
range_to n end = record { object = n; first = 0; end = end }

module _ (pages : Key → Option Page) (n k end : ℕ) (old more : List ℕ) (before front : List Change) where
  bytes : List ℕ
  bytes = old ++ more

  last : ℕ
  last = needed (length (old ++ more))

  whole : List Change
  whole = front ++ stream_parts n 128 (old ++ more) []

  tail : List Change
  tail = stream_parts n (128 + k) (drop (512 * k) (old ++ more)) []

  pub grown_differs : 512 * k ≤ length old → 128 + needed (length (old ++ more)) ≤ end → ArePart n 0 128 before → ArePart n 0 128 front
      → ((p : ℕ) → p < end → pages (key_at n p) ≡ wanted_at (before ++ stream_parts n 128 old []) (key_at n p))
      → differences pages (range_to n end) (front ++ stream_parts n 128 (old ++ more) [])
      ≡ differences pages (front_range n) front ++ differences pages (tail_range n k (length (old ++ more))) (stream_parts n (128 + k) (drop (512 * k) (old ++ more)) [])
  unfolding last bytes whole tail
  grown_differs long room was is stands =
      let size = length-append old more in
      let high : k ≤ last = full_pages k (length (old ++ more)) (omega (arith, long, size)) in
      let few : needed (length old) ≤ last = more_pages (length old) (length (old ++ more)) (omega (arith, size)) in
      let space : 128 + last ≤ end = room in
      let tail_count : last - k ≡ 128 + last - (128 + k) = omega (arith, high) in
      let left = end - 128 - last in
      let one = split pages whole n 128 (end - 128) 0 (end - 0) 128 (omega (arith, space)) refl in
      let two = split pages whole n k (end - 128 - k) 128 (end - 128) (128 + k) (omega (arith, space, high)) refl in
      let three = split pages whole n (last - k) left (128 + k) (end - 128 - k) (128 + last) (omega (arith, space, high)) (omega (arith, high)) in
      let head : differences_from pages whole n 0 128 ≡ differences_from pages front n 0 128 =
      same_differences pages pages whole front n 128 0 (λ p low high. refl)
      (λ p low high. wanted_before n 128 (128 + last) p front (stream_parts n 128 bytes []) (stream_from n 128 bytes []) (omega (arith, high))) in
      let kept : differences_from pages whole n 128 k ≡ [] =
      nothing_from pages whole n 128 k (λ p low below.
      let at : 128 + (p - 128) ≡ p = omega (arith, low) in
      let fills : 512 * suc (p - 128) ≤ length old = omega (arith, long, low, below) in
      let stays : wanted_at (stream_parts n 128 bytes []) (key_at n p) ≡ wanted_at (stream_parts n 128 old []) (key_at n p) =
      subst (λ (q : ℕ). wanted_at (stream_parts n 128 bytes []) (key_at n q) ≡ wanted_at (stream_parts n 128 old []) (key_at n q)) at (page_stays n 128 (p - 128) old more fills) in
      stands p (omega (arith, below, space, high))
      ∙ wanted_after n 0 128 p before (stream_parts n 128 old []) was low
      ∙ sym stays
      ∙ sym (wanted_after n 0 128 p front (stream_parts n 128 bytes []) is low)) in
      let grown : differences_from pages whole n (128 + k) (last - k) ≡ differences_from pages tail n (128 + k) (last - k) =
      same_differences pages pages whole tail n (last - k) (128 + k) (λ p low below. refl)
      (λ p low below. wanted_after n 0 128 p front (stream_parts n 128 bytes []) is (omega (arith, low)) ∙ stream_after n 128 k bytes p (omega (arith, long, size)) low) in
      let none : differences_from pages whole n (128 + last) left ≡ [] =
      nothing_from pages whole n (128 + last) left (λ p low below.
      stands p (omega (arith, below, space))
      ∙ wanted_after n 0 128 p before (stream_parts n 128 old []) was (omega (arith, low))
      ∙ none_after n 128 old p (omega (arith, low, few))
      ∙ sym (wanted_after n 0 128 p front (stream_parts n 128 bytes []) is (omega (arith, low)) ∙ none_after n 128 bytes p low)) in
      one
      ∙ ap (λ (cs : List Change). cs ++ differences_from pages whole n 128 (end - 128)) head
      ∙ ap (λ (cs : List Change). differences_from pages front n 0 128 ++ cs)
      (two
      ∙ ap (λ (cs : List Change). cs ++ differences_from pages whole n (128 + k) (end - 128 - k)) kept
      ∙ three
      ∙ (λ i. grown i ++ none i)
      ∙ append-nil (differences_from pages tail n (128 + k) (last - k))
      ∙ ap (λ (c : ℕ). differences_from pages tail n (128 + k) c) tail_count)

-- ---- the parts of a journal space

-- no entries have no bytes
empty_image : (es : List JournalRecord) → entries_len es ≡ 0 → journal_image 1 es ≡ []
empty_image [] none = refl
empty_image (e ∷ es) none = absurd (omega (arith, none, sum_by-cons journal_entry_len e es))

-- a body that has as many bytes as its entries is that of its entries
journal_bytes_of : (journal : JournalList) (sequence : ℕ) → length (body_bytes kinds.Journal (record { body = bodies.Journal journal; sequence = sequence })) ≡ entries_len journal.entries
    → body_bytes kinds.Journal (record { body = bodies.Journal journal; sequence = sequence }) ≡ journal_image 1 journal.entries
journal_bytes_of journal zero long = by ((journal.spare == 0) && (journal.unforced == 0)) long
  where
    by : (b : Bool) → length (print_by journals.journal (cond b (Some journal.entries) None)) ≡ entries_len journal.entries → print_by journals.journal (cond b (Some journal.entries) None) ≡ journal_image 1 journal.entries
    by true long = sym (journal_bytes journal.entries)
    by false long = sym (empty_image journal.entries (sym long))
journal_bytes_of journal (suc sequence) long = sym (empty_image journal.entries (sym long))

kept_bytes : (journal : JournalList) (x : Stored) → x.object.id.kind ≡ kinds.Journal → x.object.body ≡ bodies.Journal journal → (stored_header x).body ≡ image_len x.object.body
    → body_bytes x.object.id.kind (image_of x) ≡ journal_image 1 journal.entries
kept_bytes journal x kind body long =
    let shape : body_bytes x.object.id.kind (image_of x) ≡ body_bytes kinds.Journal (record { body = bodies.Journal journal; sequence = x.sequence }) =
    λ i. body_bytes (kind i) (record { body = body i; sequence = x.sequence }) in
    shape ∙ journal_bytes_of journal x.sequence (sym (ap length shape) ∙ long ∙ ap image_len body)

journal_parts : (n : ℕ) (bytes : List ℕ) (x : Stored) → x.object.number.0 ≡ n → x.object.id.kind ≡ kinds.Journal → body_bytes x.object.id.kind (image_of x) ≡ bytes → body_parts x ≡ stream_parts n 128 bytes []
journal_parts n bytes x number kind is = tags_gone x.object.id.kind kind ∙ (λ i. stream_parts (number i) 128 (is i) [])
  where
    tags_gone : (k : Kind) → k ≡ kinds.Journal → body_parts (record x { object = record x.object { id = record x.object.id { kind = k } } }) ≡ stream_parts x.object.number.0 128 (body_bytes k (image_of x)) []
    tags_gone kinds.Journal is =
        let many = needed (length (body_bytes kinds.Journal (image_of x))) in
        zero_tags x.object.number.0 128 many (page_pieces many (zero_filled (512 * many) (body_bytes kinds.Journal (image_of x))))
    tags_gone _ is = absurd cc

-- more entries have more bytes
record Longer (old new : List ℕ) : Type 0 where
  pub more : List ℕ
  pub is : new ≡ old ++ more

image_longer : (k : ℕ) (es more : List JournalRecord) → Longer (journal_image k es) (journal_image k (es ++ more))
image_longer k [] more = record { more = journal_image k more; is = refl }
image_longer k (e ∷ es) more =
    let rest = image_longer (suc k) es more in
    record {
      more = rest.more;
      is = ap (λ (bs : List ℕ). entry_image k e ++ bs) rest.is ∙ sym (append_assoc (entry_image k e) (journal_image (suc k) es) rest.more);
    }

-- ---- what is printed of its end

pub image_long : (es : List JournalRecord) → length (journal_image 1 es) ≡ entries_len es
image_long es = journal_length 1 es

pub tail_wanted : (n k : ℕ) (es : List JournalRecord) → 512 * k ≤ entries_len es → IsWanted (tail_range n k (entries_len es)) (tail_parts n k es)
tail_wanted n k es within =
    let bytes = drop (512 * k) (journal_image 1 es) in
    let left : length bytes ≡ entries_len es - 512 * k = length-drop (512 * k) (journal_image 1 es) ∙ ap (λ (l : ℕ). l - 512 * k) (image_long es) in
    let pages = rest_pages k (entries_len es) within in
    let fits : 128 + k + needed (length bytes) ≤ 128 + needed (entries_len es) = subst (λ (l : ℕ). 128 + k + needed l ≤ 128 + needed (entries_len es)) (sym left) (omega (arith, pages)) in
    let all = stream_part n (128 + k) (128 + needed (entries_len es)) bytes [] fits in
    record {
      rising = all.rising;
      in_range = all_of _ _ _ (λ c h. in_range (tail_range n k (entries_len es)) c.key h.of_it h.from h.before) all.each;
    }

-- differences are parts of their range
differences_are : (pages : Key → Option Page) (range : PartRange) (wanted : List Change) → ArePart range.object range.first range.end (differences pages range wanted)
differences_are pages range wanted = record {
  each =
      all_of _ _ (differences pages range wanted) (λ c h.
      let i = inside range c.key h.in_range in
      record { of_it = i.object; from = i.from; before = i.before }) (each_difference pages range wanted);
  rising = differences_rising pages range wanted;
}

-- changes before the body, and after them changes of its end
abbrev pub Reads : Keys → PartRange → List Change → List Change → List Change → Type 0
Reads keys range wanted old new = (pages : Key → Option Page) × (HavePages keys pages × (new ≡ old ++ differences pages range wanted))

pub both_added : (one two : Keys) (n k len : ℕ) (front tail old middle new : List Change) → Reads one (front_range n) front old middle → Reads two (tail_range n k len) tail middle new → AddsAt n old new
both_added one two n k len front tail old middle new first then =
    let a = differences first.0 (front_range n) front in
    let b = differences then.0 (tail_range n k len) tail in
    let before = differences_are first.0 (front_range n) front in
    let behind : ArePart n 128 (128 + needed len) b =
    record {
      each = all_of _ _ b (λ c h. record { of_it = h.of_it; from = omega (arith, h.from); before = h.before }) (differences_are then.0 (tail_range n k len) tail).each;
      rising = (differences_are then.0 (tail_range n k len) tail).rising;
    } in
    let all = both_parts n 0 128 (128 + needed len) a b (lit≤ tt) (omega arith) before behind in
    record {
      more = a ++ b;
      added = then.1.1 ∙ ap (λ (cs : List Change). cs ++ b) first.1.1 ∙ append_assoc old a b;
      own = all_of _ _ (a ++ b) (λ c h. h.of_it) all.each;
      rising = all.rising;
    }

-- ---- a journal space that is kept

module _ (m : Content) (d : Durable) (o : Object) (w x : Stored) (journal : JournalList) (len k : ℕ) where
  -- what differs of it where it is to be kept whole
  pub journal_differs : Represents m d → o.number.0 < ceiling_key → kept d.objects o.number.0 ≡ Some x → (stored_header x).body ≡ len → HasHeader x → x.object.number ≡ o.number
      → x.object.id.kind ≡ kinds.Journal → o.id.kind ≡ kinds.Journal → IsBeginning x journal → w.object ≡ record o { on_disk = true; body = bodies.Journal (settled_journal journal) } → w.sequence ≡ 0
      → length (header.print (header_with o (entries_len journal.entries))) ≡ 512 → length o.rows ≤ 4096 → entries_len journal.entries ≤ 16777216 → 512 * k ≤ len
      → differences (get m) (range_of o.number.0) (image_parts w)
      ≡ differences (get m) (front_range o.number.0) (front_parts o (entries_len journal.entries)) ++ differences (get m) (tail_range o.number.0 k (entries_len journal.entries)) (tail_parts o.number.0 k journal.entries)
  journal_differs stands low is said has number kept_kind kind begins whole none long rows short within =
      let n = o.number.0 in
      let es = begins.old.entries in
      let old = journal_image 1 es in
      let longer = image_longer 1 es begins.more in
      let own : x.object.number.0 ≡ n = ap (λ (i : ObjNum). i.0) number in
      let bytes : old ++ longer.more ≡ journal_image 1 journal.entries = sym longer.is ∙ ap (λ (all : List JournalRecord). journal_image 1 all) (sym begins.grown) in
      let size : length (old ++ longer.more) ≡ entries_len journal.entries = ap length bytes ∙ image_long journal.entries in
      let was_bytes : body_bytes x.object.id.kind (image_of x) ≡ old = kept_bytes begins.old x kept_kind begins.body has.long in
      let will_bytes : body_bytes w.object.id.kind (image_of w) ≡ journal_image 1 journal.entries =
      (λ i. body_bytes (whole i).id.kind (record { body = (whole i).body; sequence = none i }))
      ∙ ap (λ (c : Kind). body_bytes c (record { body = bodies.Journal (settled_journal journal); sequence = 0 })) kind
      ∙ sym (journal_bytes journal.entries) in
      let was : body_parts x ≡ stream_parts n 128 old [] = journal_parts n old x own kept_kind was_bytes in
      let will : body_parts w ≡ stream_parts n 128 (old ++ longer.more) [] =
      journal_parts n (old ++ longer.more) w (ap (λ (v : Object). v.number.0) whole) (ap (λ (v : Object). v.id.kind) whole ∙ kind) (will_bytes ∙ sym bytes) in
      let kept_len : length old ≡ len = sym (ap length was_bytes) ∙ said in
      let new_len : length (body_bytes w.object.id.kind (image_of w)) ≡ entries_len journal.entries = ap length will_bytes ∙ image_long journal.entries in
      let front : front_parts w.object (length (body_bytes w.object.id.kind (image_of w))) ≡ front_parts o (entries_len journal.entries) =
      λ i. front_parts (whole i) (new_len i) in
      let all : image_parts w ≡ front_parts o (entries_len journal.entries) ++ stream_parts n 128 (old ++ longer.more) [] =
      parts_split w ∙ (λ i. front i ++ will i) in
      let before : ArePart n 0 128 (front_parts x.object (stored_header x).body) =
      subst (λ (i : ObjNum). ArePart i.0 0 128 (front_parts x.object (stored_header x).body)) number (front_are x.object (stored_header x).body (header_long (stored_header x) has.fits) has.rows) in
      let after = front_are o (entries_len journal.entries) long rows in
      let apart = grown_differs (get m) n k parts_end old longer.more (front_parts x.object (stored_header x).body) (front_parts o (entries_len journal.entries)) (omega (arith, within, kept_len)) (omega (arith, size, short)) before after
      (λ p near.
      page_kept m d n p (Some x) stands low near is
      ∙ ap (λ (cs : List Change). wanted_at cs (key_at n p)) (parts_split x)
      ∙ ap (λ (cs : List Change). wanted_at (front_parts x.object (stored_header x).body ++ cs) (key_at n p)) was) in
      ap (λ (cs : List Change). differences (get m) (range_of n) cs) all
      ∙ apart
      ∙ (λ i. differences (get m) (front_range n) (front_parts o (entries_len journal.entries)) ++ differences (get m) (tail_range n k (size i)) (stream_parts n (128 + k) (drop (512 * k) (bytes i)) []))
