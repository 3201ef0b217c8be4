-- What the bytes of an entry say is the entry.
use Rattle.std.proofs.Common.{◌≡◌, ◌&&◌, true, ℕ, ◌<◌, ◌≤◌, ◌^◌, List, [], ◌++◌, length, take, drop, refl, sym, ◌-◌, ◌∙◌, ap, arith, length-append, length-drop}
use Rattle.std.proofs.Math.Seq.{take-length, take-append_seam, drop-append_seam}
use Rattle.std.specs.Prelude.{nat_lt}
use Rattle.s38_journals.proofs.Tests.{first_of, second_of, lt_tells}
use Rattle.byteorder.specs.Endian.{big_bytes, big_number}
use Rattle.byteorder.specs.Numbers.{big_number-reads_back}
use Rattle.s38_journals.specs.Entries.{JournalRecord, entry_image, entry_kind_code, fits_head, head, journal_entry_len}
use Rattle.s38_journals.specs.Stored.{entry_kind_of, entry_of}
use Rattle.s38_journals.specs.declared.entry.EntryKind.{EntryKind}
use Rattle.s38_journals.specs.declared.entry.EntryKind.TheVariants.{Insert, Update, Delete, Commit, Decommit}

-- the numbers of an entry fit their places
record Fits (e : JournalRecord) : Type 0 where
  unit : e.unit < 2 ^ 64
  process : e.process < 2 ^ 32
  object : e.object.0 < 2 ^ 64
  ordinal : e.ordinal < 2 ^ 32

fit_numbers : (e : JournalRecord) → fits_head e ≡ true → Fits e
fit_numbers e fit =
    let front = first_of (nat_lt e.unit (2 ^ 64) && nat_lt e.process (2 ^ 32)) _ fit in
    let back = second_of (nat_lt e.unit (2 ^ 64) && nat_lt e.process (2 ^ 32)) _ fit in
    record {
      unit = lt_tells e.unit (2 ^ 64) (first_of (nat_lt e.unit (2 ^ 64)) _ front);
      process = lt_tells e.process (2 ^ 32) (second_of (nat_lt e.unit (2 ^ 64)) _ front);
      object = lt_tells e.object.0 (2 ^ 64) (first_of (nat_lt e.object.0 (2 ^ 64)) _ back);
      ordinal = lt_tells e.ordinal (2 ^ 32) (second_of (nat_lt e.object.0 (2 ^ 64)) _ back);
    }

kind_back : (kind : EntryKind) → entry_kind_of (entry_kind_code kind) ≡ kind
kind_back Insert = refl
kind_back Update = refl
kind_back Delete = refl
kind_back Commit = refl
kind_back Decommit = refl

pub length-head : (n : ℕ) (e : JournalRecord) → length (head n e) ≡ 41
unfolding head
length-head n e = refl

pub image_length : (n : ℕ) (e : JournalRecord) → length (entry_image n e) ≡ journal_entry_len e
image_length n e = omega (arith, length-append (head n e) (e.before ++ e.after), length-append e.before e.after, length-head n e)

long_back : (x : ℕ) (rest : List ℕ) → x < 2 ^ 64 → big_number 8 (big_bytes 8 x ++ rest) ≡ x
long_back x rest h = big_number-reads_back 8 x rest h

word_back : (x : ℕ) (rest : List ℕ) → x < 2 ^ 32 → big_number 4 (big_bytes 4 x ++ rest) ≡ x
word_back x rest h = big_number-reads_back 4 x rest h

half_back : (x : ℕ) (rest : List ℕ) → x < 65536 → big_number 2 (big_bytes 2 x ++ rest) ≡ x
half_back x rest h = big_number-reads_back 2 x rest h

same_entry : (a b : JournalRecord) → a.unit ≡ b.unit → a.process ≡ b.process → a.kind ≡ b.kind → a.object.0 ≡ b.object.0 → a.ordinal ≡ b.ordinal → a.before ≡ b.before → a.after ≡ b.after → a ≡ b
same_entry a b unit process kind object ordinal before after = λ i. record {
  unit = unit i;
  process = process i;
  kind = kind i;
  object = record { 0 = object i };
  ordinal = ordinal i;
  before = before i;
  after = after i;
}

unit_back : (n : ℕ) (e : JournalRecord) → fits_head e ≡ true → (entry_of (entry_image n e)).unit ≡ e.unit
unfolding head entry_of
unit_back n e fit = long_back e.unit [] (fit_numbers e fit).unit

process_back : (n : ℕ) (e : JournalRecord) → fits_head e ≡ true → (entry_of (entry_image n e)).process ≡ e.process
unfolding head entry_of
process_back n e fit = word_back e.process [] (fit_numbers e fit).process

kind_is : (n : ℕ) (e : JournalRecord) → (entry_of (entry_image n e)).kind ≡ e.kind
unfolding head entry_of
kind_is n e = kind_back e.kind

object_back : (n : ℕ) (e : JournalRecord) → fits_head e ≡ true → (entry_of (entry_image n e)).object.0 ≡ e.object.0
unfolding head entry_of
object_back n e fit = long_back e.object.0 [] (fit_numbers e fit).object

ordinal_back : (n : ℕ) (e : JournalRecord) → fits_head e ≡ true → (entry_of (entry_image n e)).ordinal ≡ e.ordinal
unfolding head entry_of
ordinal_back n e fit = word_back e.ordinal [] (fit_numbers e fit).ordinal

before_back : (n : ℕ) (e : JournalRecord) → fits_head e ≡ true → length e.before ≤ 65535 → (entry_of (entry_image n e)).before ≡ e.before
unfolding head entry_of
before_back n e fit before =
    ap (λ (k : ℕ). take k (e.before ++ e.after)) (half_back (length e.before) [] (omega arith))
    ∙ take-append_seam e.before e.after

after_back : (n : ℕ) (e : JournalRecord) → fits_head e ≡ true → length e.before ≤ 65535 → (entry_of (entry_image n e)).after ≡ e.after
unfolding head entry_of
after_back n e fit before =
    ap (λ (k : ℕ). drop k (e.before ++ e.after)) (half_back (length e.before) [] (omega arith))
    ∙ drop-append_seam e.before e.after

pub entry_back : (n : ℕ) (e : JournalRecord) → fits_head e ≡ true → length e.before ≤ 65535 → entry_of (entry_image n e) ≡ e
entry_back n e fit before =
    same_entry (entry_of (entry_image n e)) e (unit_back n e fit) (process_back n e fit) (kind_is n e) (object_back n e fit) (ordinal_back n e fit) (before_back n e fit before) (after_back n e fit before)

-- where the data before end
pub before_len : (n : ℕ) (e : JournalRecord) → length e.before ≤ 65535 → big_number 2 (drop 37 (entry_image n e)) ≡ length e.before
unfolding head
before_len n e before = half_back (length e.before) [] (omega arith)

-- the part from a place on is all that lies there
pub all_after : (n : ℕ) (bytes : List ℕ) → take (length bytes - n) (drop n bytes) ≡ drop n bytes
all_after n bytes = rw (sym (length-drop n bytes)) (take-length (drop n bytes))
