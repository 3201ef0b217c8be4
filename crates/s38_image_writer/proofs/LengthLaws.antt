-- How many bytes bodies and headers have.
use Rattle.std.proofs.Common.{◌≡◌, ℕ, suc, ◌+◌, ◌-◌, ◌*◌, true, List, [], ◌∷◌, ◌++◌, length, drop, Some, None, refl, sym, ap, ◌∙◌, arith}
use Rattle.std.proofs.lemmas.Bool.{eqb-true}
use Rattle.std.proofs.lemmas.List.{length-append, length-drop}
use Rattle.std.proofs.lemmas.List.Sums.{sum_by-cons}
use Rattle.std.specs.Prelude.{◌==◌, IsTrue, if◌then◌else◌, nat_le, nat_lt, replicate, sum_by}
use Rattle.std.specs.List.{flat_map, list_all}
use Rattle.s38_base.specs.NameText.{are_name_bytes, is_name, padded}
use Rattle.s38_base.specs.declared.attr.Attr.{Attr}
use Rattle.s38_codec.proofs.CodecLaws.{both_true}
use Rattle.s38_codec.proofs.FormatLaws.{length_copies}
use Rattle.s38_codec.specs.Codec.{copies}
use Rattle.s38_codec.specs.Formats.{u16, u32}
use Rattle.s38_commits.specs.Units.{UnitMap}
use Rattle.s38_dataspaces.specs.Entries.{DataEntry}
use Rattle.s38_dataspaces.specs.Table as tables
use Rattle.s38_dataspaces.specs.Table.{DataTable, entry_len, is_entry_of}
use Rattle.s38_image.proofs.HeaderLaws.{at_most}
use Rattle.s38_image.specs.DataSpaces.{data_space}
use Rattle.s38_image.specs.Headers.{header, object_number_form, rights}
use Rattle.s38_image.specs.Indexes.{index}
use Rattle.s38_image.specs.Journals.{journal}
use Rattle.s38_image.specs.Queues.{queue}
use Rattle.s38_image.specs.Scalars.{attr}
use Rattle.s38_image.specs.Settled.{before_change, first_change, settled_entries, settled_entry}
use Rattle.s38_image.specs.declared.header.Header.{Header}
use Rattle.s38_image_writer.proofs.DataLaws.{data_bytes, first_restorable}
use Rattle.s38_image_writer.proofs.PrintLaws.{journal_bytes, journal_length, queue_bytes}
use Rattle.s38_image_writer.proofs.TextLaws.{index_bytes}
use Rattle.s38_image_writer.specs.Parts.{CanSettle, own_bytes}
use Rattle.s38_image_writer.specs.Printing.{index_entry_bytes, message_bytes, slot_bytes}
use Rattle.s38_image_writer.specs.Restoring.{AreRestorable, settled_data}
use Rattle.s38_indexes.specs.Entries as indexes
use Rattle.s38_journals.specs.Entries as journaled
use Rattle.s38_journals.specs.Journals.{entries_len}
use Rattle.s38_queues.specs.MessageQueue as queues
use Rattle.s38_queues.specs.declared.message.Message.{Message}
use Rattle.s38_rules.specs.store.Room.{image_len, line_size}
use Rattle.s38_rules.specs.declared.object.Body.{Body}
use Rattle.s38_rules.specs.declared.data_body.DataBody.{DataBody}
use Rattle.s38_template.specs.Grammar.{with_feed}
use Rattle.s38_template.specs.Printing.{printed_lines}

-- ---- bodies

-- a body has so many bytes as its image, with every uncommitted change taken back
abbrev pub IsLong : Body → Type 0
IsLong b = (units : UnitMap) (number last : ℕ) → CanSettle units number b → length (own_bytes units number last b) ≡ image_len b

pub text_long : (lines : List (List ℕ)) → length (printed_lines lines) ≡ sum_by line_size lines
text_long [] = refl
text_long (line ∷ lines) =
    omega (arith, length-append (with_feed line) (printed_lines lines), length-append line (10 ∷ []), sum_by-cons line_size line lines, text_long lines)

messages_long : (ms : List Message) → length (flat_map message_bytes ms) ≡ sum_by queues.message_size ms
unfolding message_bytes
messages_long [] = refl
messages_long (m ∷ ms) =
    omega (arith, length-append m.key (u16.print (length m.text) ++ m.text), length-append (m.key ++ (u16.print (length m.text) ++ m.text)) (flat_map message_bytes ms), sum_by-cons queues.message_size m ms, messages_long ms)

pub queue_long : (q : queues.MessageQueue) → length (queue.print q) ≡ queues.queue_image_size q.messages
queue_long q = ap length (queue_bytes q) ∙ omega (arith, messages_long q.messages)

entries_long : (entries : List indexes.IndexEntry) → length (flat_map index_entry_bytes entries) ≡ sum_by indexes.entry_size entries
entries_long [] = refl
entries_long (e ∷ entries) = omega (arith, length-append (index_entry_bytes e) (flat_map index_entry_bytes entries), sum_by-cons indexes.entry_size e entries, entries_long entries)

pub index_long : (i : indexes.EntryIndex) → length (index.print i) ≡ indexes.index_image_size i.entries
index_long i = ap length (index_bytes i) ∙ omega (arith, entries_long i.entries)

pub journal_long : (es : List journaled.JournalRecord) → length (journal.print es) ≡ entries_len es
journal_long es = ap length (sym (journal_bytes es)) ∙ journal_length 1 es

-- ---- a data space

attrs_long : (fields : List Attr) → length (flat_map attr.print fields) ≡ 3 * length fields
attrs_long [] = refl
attrs_long (a ∷ fields) = omega (arith, length-append (attr.print a) (flat_map attr.print fields), attrs_long fields)

slot_long : (fields : List Attr) (entry : DataEntry) → is_entry_of fields entry ≡ true → length (slot_bytes (entry_len fields) entry) ≡ 1 + entry_len fields
unfolding slot_bytes
slot_long fields None fits = omega (arith, length_copies {A = ℕ} (entry_len fields) 0)
slot_long fields (Some entry) fits = omega (arith, eqb-true (length entry) (entry_len fields) (both_true (length entry == entry_len fields) _ fits).0)

settled_fits : (units : UnitMap) (space at : ℕ) (t : DataTable) (entry : DataEntry) → AreRestorable units space t → is_entry_of t.fields entry ≡ true → is_entry_of t.fields (settled_entry units space at entry) ≡ true
settled_fits units space at t entry all fits =
    elim (first_change units space at) as (λ o. first_change units space at ≡ o → is_entry_of t.fields (before_change entry o) ≡ true) [
      | None ↦ λ is. fits
      | Some change ↦ λ is. first_restorable units space at t change all is
    ] refl

slots_long : (units : UnitMap) (space at : ℕ) (t : DataTable) (entries : List DataEntry) → AreRestorable units space t → list_all (is_entry_of t.fields) entries ≡ true
    → length (flat_map (slot_bytes (entry_len t.fields)) (settled_entries units space at entries)) ≡ length entries * (1 + entry_len t.fields)
slots_long units space at t [] all fit = omega arith
slots_long units space at t (e ∷ entries) all fit =
    let both = both_true (is_entry_of t.fields e) (list_all (is_entry_of t.fields) entries) fit in
    let here = slot_long t.fields (settled_entry units space at e) (settled_fits units space at t e all both.0) in
    let rest = slots_long units space (at + 1) t entries all both.1 in
    let more : (1 + entry_len t.fields) + length entries * (1 + entry_len t.fields) ≡ suc (length entries) * (1 + entry_len t.fields) = omega arith in
    length-append (slot_bytes (entry_len t.fields) (settled_entry units space at e)) (flat_map (slot_bytes (entry_len t.fields)) (settled_entries units space (at + 1) entries))
    ∙ ap (λ (n : ℕ). n + length (flat_map (slot_bytes (entry_len t.fields)) (settled_entries units space (at + 1) entries))) here
    ∙ ap (λ (n : ℕ). (1 + entry_len t.fields) + n) rest
    ∙ more

pub data_long : (units : UnitMap) (number last : ℕ) (d : DataBody) → AreRestorable units number d.space → list_all (is_entry_of d.space.fields) d.space.entries ≡ true
    → length (data_space.print (settled_data units number last d)) ≡ tables.data_space_image_size d.space.fields (length d.space.entries)
data_long units number last d all fit =
    let entries = settled_entries units number 1 d.space.entries in
    let slots = flat_map (slot_bytes (entry_len d.space.fields)) entries in
    let long = slots_long units number 1 d.space d.space.entries all fit in
    ap length (data_bytes d.port.0 (if d.port.0 == 0 then 0 else last) d.space.fields entries)
    ∙ omega (arith, length-append (flat_map attr.print d.space.fields) (u32.print (length entries) ++ slots), attrs_long d.space.fields, long)

-- ---- a header

padded_long : (text : List ℕ) → IsTrue (is_name text) → length (padded text) ≡ 30
padded_long text is =
    let all = both_true (nat_lt 0 (length text)) _ is in
    let short = at_most (length text) 30 (both_true (nat_le (length text) 30) (are_name_bytes text) all.1).0 in
    let rest : length (drop (length text) (replicate {A = ℕ} 30 0)) ≡ 30 - length text = length-drop (length text) (replicate 30 0) in
    omega (arith, short, rest, length-append text (drop (length text) (replicate 30 0)))

-- what follows the name
abbrev later : Header → List ℕ
later h = object_number_form.print h.context ++ (object_number_form.print h.owner ++ (rights.print h.public ++ (0 ∷ (u32.print h.rows ++ (u32.print h.body ++ copies 448 0)))))

later_long : (h : Header) → length (later h) ≡ 474
later_long h = let z : length {A = ℕ} (copies 448 0) ≡ 448 = length_copies {A = ℕ} 448 0 in omega (arith, z)

pub header_long : (h : Header) → IsTrue (is_name h.id.name) → length (header.print h) ≡ 512
header_long h is = omega (arith, length-append (padded h.id.name) (later h), padded_long h.id.name is, later_long h)
