-- What a store without a fault has of bodies keeps to their limits.
use Rattle.std.proofs.Common.{◌≡◌, ◌∙◌, ◌++◌, ℕ, zero, suc, ◌+◌, ◌*◌, ◌==◌, ◌≤◌, Bool, true, false, cond, List, [], ◌∷◌, ap, length, length-append, refl, sym, subst, take, arith}
use Rattle.std.proofs.lemmas.Bool.Decides.{nat_tests}
use Rattle.std.proofs.lemmas.List.Elements.{All-cons, All-head, All-nil, All-tail}
use Rattle.std.specs.declared.cmp.Ordering.TheVariants.{Less}
use Rattle.std.specs.List.{flat_map}
use Rattle.std.specs.Prelude.{◌&&◌, All, None, Option, Some, nat_le}
use Rattle.s38_base.specs.Limits.{body_limit, longest_message}
use Rattle.s38_base.specs.declared.attr.Attr.{Attr}
use Rattle.s38_base.specs.declared.id.Kind.TheVariants as kinds
use Rattle.s38_base.specs.declared.id.Kind.{Kind}
use Rattle.s38_base.specs.declared.words.Relation.TheVariants.{Lo}
use Rattle.s38_code.specs.declared.program.Program.{Program}
use Rattle.s38_codec.proofs.CodecLaws.{both_true}
use Rattle.s38_codec.proofs.FormatLaws.{length_copies}
use Rattle.s38_codec.specs.Codec.{byte, bytes, copies, fits_each, only}
use Rattle.s38_codec.specs.Formats.{FitsCase, all_by, fits_from, list_of, print_by, short_text, text, u16, u32}
use Rattle.s38_laws_units.specs.Right.{IsData, IsEntryOf, IsTable}
use Rattle.s38_dataspaces.specs.Entries as spaces
use Rattle.s38_dataspaces.specs.Table.{DataTable, data_space_image_size, entry_len}
use Rattle.s38_image.proofs.SpaceLaws.{length_cells}
use Rattle.s38_image.specs.Bodies.{body_bytes, data_in, entries_part, program_part, unsequenced}
use Rattle.s38_image.specs.DataSpaces.{DataParts, data_space}
use Rattle.s38_image.specs.Fitting.{FitsBody, FitsSpace}
use Rattle.s38_image.specs.Headers.{longest_body}
use Rattle.s38_image.specs.Indexes.{entries_rise, index, is_index}
use Rattle.s38_image.specs.Journals.{entry, journal}
use Rattle.s38_image.specs.Programs.{IsCreated}
use Rattle.s38_image.specs.Queues.{is_queue, message_form, queue, queue_head}
use Rattle.s38_image.specs.Scalars.{attr}
use Rattle.s38_image.specs.Spaces.{flags_in}
use Rattle.s38_image_writer.proofs.DataLaws.{data_bytes}
use Rattle.s38_image_writer.proofs.LengthLaws.{index_long, journal_long, queue_long, text_long}
use Rattle.s38_image_writer.specs.Printing.{slot_bytes}
use Rattle.s38_indexes.proofs.OrderLaws.{chained, is_less-Less}
use Rattle.s38_indexes.specs.Entries as entries
use Rattle.s38_indexes.specs.Entries.{AreShort, EntryIndex, IndexEntry, IsBelow, IsRising, is_in_relation}
use Rattle.s38_journals.specs.Entries as journaled
use Rattle.s38_journals.specs.Journals.{JournalList}
use Rattle.s38_memory.specs.Tagged.{bytes_in}
use Rattle.s38_memory.specs.declared.cell.Cell.{Cell}
use Rattle.s38_laws_images.specs.openings.Bodies.{IsBody, IsIndex, IsMessageOf, IsQueue, IsShortJournal, IsShortTable, IsSpace}
use Rattle.s38_queues.specs.MessageQueue.{MessageQueue, is_keyed, longest_key}
use Rattle.s38_queues.specs.declared.message.Message.{Message}
use Rattle.s38_rules.specs.state.Held.{kind_of}
use Rattle.s38_rules.specs.state.Parts.{data_of, index_part, queue_part, space_part}
use Rattle.s38_rules.specs.store.Room.{program_size}
use Rattle.s38_rules.specs.declared.data_body.DataBody.{DataBody}
use Rattle.s38_rules.specs.declared.object.Body.TheVariants as bodies
use Rattle.s38_rules.specs.declared.object.Body.{Body}

at_most : (a b : ℕ) → nat_le a b ≡ true → a ≤ b
at_most a b h = grind (arith, nat_tests)

same : (a b : ℕ) → (a == b) ≡ true → a ≡ b
same a b h = grind (arith, nat_tests)

-- ---- queues

message_fits : (q : MessageQueue) (m : Message) → (message_form q.key_len q.longest).fits m ≡ true → IsMessageOf q.key_len q.longest m
message_fits q m h =
    let f = both_true ((bytes q.key_len).fits m.key) ((text q.longest).fits m.text) h in
    let g = both_true ((only (λ n. nat_le n q.longest) u16).fits (length m.text)) ((bytes (length m.text)).fits m.text) f.1 in
    let l = both_true (nat_le (length m.text) q.longest) (u16.fits (length m.text)) g.0 in
    record { key = same (length m.key) q.key_len f.0; text = at_most (length m.text) q.longest l.0 }

messages_fit : (q : MessageQueue) (n : ℕ) (ms : List Message) → fits_each (copies n (message_form q.key_len q.longest)) ms ≡ true → All (IsMessageOf q.key_len q.longest) ms
unfolding fits_each copies
messages_fit q zero [] h = All-nil (IsMessageOf q.key_len q.longest)
messages_fit q zero (m ∷ ms) h = absurd cc
messages_fit q (suc n) [] h = absurd cc
messages_fit q (suc n) (m ∷ ms) h =
    let f = both_true ((message_form q.key_len q.longest).fits m) (fits_each (copies n (message_form q.key_len q.longest)) ms) h in
    All-cons (IsMessageOf q.key_len q.longest) m ms (message_fits q m f.0) (messages_fit q n ms f.1)

key_fits : (keyed : Bool) (key_len : ℕ) → cond keyed (nat_le 1 key_len && nat_le key_len longest_key) (key_len == 0) ≡ true → key_len ≤ longest_key
key_fits true key_len h = at_most key_len longest_key (both_true (nat_le 1 key_len) (nat_le key_len longest_key) h).1
key_fits false key_len h = none (same key_len 0 h)
  where
    none : key_len ≡ 0 → key_len ≤ longest_key
    none is = omega (arith, is)

queue_fits : (q : MessageQueue) → queue.fits q ≡ true → length (queue.print q) ≤ body_limit → IsQueue body_limit q
queue_fits q h long =
    let f = both_true (queue_head.fits (q.order, (q.key_len, q.longest))) ((list_of (message_form q.key_len q.longest)).fits q.messages) h in
    let head = both_true (is_queue q.order q.key_len q.longest) _ f.0 in
    let lengths = both_true (nat_le 1 q.longest && nat_le q.longest longest_message) _ head.0 in
    let longest = both_true (nat_le 1 q.longest) (nat_le q.longest longest_message) lengths.0 in
    let all = both_true (u32.fits (length q.messages)) (fits_each (copies (length q.messages) (message_form q.key_len q.longest)) q.messages) f.1 in
    record {
      key = key_fits (is_keyed q.order) q.key_len lengths.1;
      some = at_most 1 q.longest longest.0;
      most = at_most q.longest longest_message longest.1;
      messages = messages_fit q (length q.messages) q.messages all.1;
      image = subst (λ (n : ℕ). n ≤ body_limit) (queue_long q) long;
    }

-- ---- indexes

entries_fit : (longest n : ℕ) (es : List IndexEntry) → fits_each (copies n (short_text longest)) es ≡ true → AreShort longest es
unfolding fits_each copies
entries_fit longest zero [] h = tt
entries_fit longest zero (e ∷ es) h = absurd cc
entries_fit longest (suc n) [] h = absurd cc
entries_fit longest (suc n) (e ∷ es) h =
    let f = both_true ((short_text longest).fits e) (fits_each (copies n (short_text longest)) es) h in
    let g = both_true ((only (λ k. nat_le k longest) byte).fits (length e)) ((bytes (length e)).fits e) f.0 in
    let l = both_true (nat_le (length e) longest) (byte.fits (length e)) g.0 in
    (at_most (length e) longest l.0, entries_fit longest n es f.1)

below_lower : (a b : IndexEntry) (es : List IndexEntry) → entries.order a b ≡ Less → IsBelow b es → IsBelow a es
below_lower a b [] less below = tt
below_lower a b (e ∷ es) less below = (chained a b e less below.0, below_lower a b es less below.1)

rise : (es : List IndexEntry) → entries_rise es ≡ true → IsRising es
rise [] h = tt
rise (e ∷ []) h = (tt, tt)
rise (e ∷ f ∷ es) h =
    let both = both_true (is_in_relation Lo f e) (entries_rise (f ∷ es)) h in
    let rest = rise (f ∷ es) both.1 in
    let less = is_less-Less (entries.order e f) both.0 in
    ((less, below_lower e f es less rest.0), rest)

index_fits : (i : EntryIndex) → index.fits i ≡ true → length (index.print i) ≤ body_limit → IsIndex body_limit i
index_fits i h long =
    let f = both_true ((only is_index byte).fits i.longest) ((only entries_rise (list_of (short_text i.longest))).fits i.entries) h in
    let head = both_true (is_index i.longest) (byte.fits i.longest) f.0 in
    let longest = both_true (nat_le 1 i.longest) (nat_le i.longest 120) head.0 in
    let rest = both_true (entries_rise i.entries) ((list_of (short_text i.longest)).fits i.entries) f.1 in
    let all = both_true (u32.fits (length i.entries)) (fits_each (copies (length i.entries) (short_text i.longest)) i.entries) rest.1 in
    record {
      some = at_most 1 i.longest longest.0;
      most = at_most i.longest 120 longest.1;
      short = entries_fit i.longest (length i.entries) i.entries all.1;
      rising = rise i.entries rest.0;
      image = subst (λ (n : ℕ). n ≤ body_limit) (index_long i) long;
    }

-- ---- spaces

space_fits : (tags : List ℕ) (cs : List Cell) → FitsSpace tags cs → length (bytes_in cs) ≤ body_limit → IsSpace body_limit cs
space_fits tags cs h long =
    let f = both_true (nat_le 1 (length cs)) (nat_le (length cs) 1048576) h.some in
    record { some = at_most 1 (length cs) f.0; image = subst (λ (n : ℕ). n ≤ body_limit) (length_cells (take (length cs) (flags_in tags)) cs h.cells) long }

-- ---- data spaces

attrs_long : (fields : List Attr) → length (flat_map attr.print fields) ≡ 3 * length fields
attrs_long [] = refl
attrs_long (a ∷ fields) = omega (arith, length-append (attr.print a) (flat_map attr.print fields), attrs_long fields)

slot_long : (fields : List Attr) (entry : spaces.DataEntry) → IsEntryOf fields entry → length (slot_bytes (entry_len fields) entry) ≡ 1 + entry_len fields
unfolding slot_bytes
slot_long fields None of = omega (arith, length_copies {A = ℕ} (entry_len fields) 0)
slot_long fields (Some entry) of = omega (arith, same (length entry) (entry_len fields) (both_true (length entry == entry_len fields) _ of).0)

slots_long : (fields : List Attr) (entries : List spaces.DataEntry) → All (IsEntryOf fields) entries → length (flat_map (slot_bytes (entry_len fields)) entries) ≡ length entries * (1 + entry_len fields)
slots_long fields [] all = omega arith
slots_long fields (e ∷ entries) all =
    let here = slot_long fields e (All-head (IsEntryOf fields) e entries all) in
    let rest = slots_long fields entries (All-tail (IsEntryOf fields) e entries all) in
    let more : (1 + entry_len fields) + length entries * (1 + entry_len fields) ≡ suc (length entries) * (1 + entry_len fields) = omega arith in
    length-append (slot_bytes (entry_len fields) e) (flat_map (slot_bytes (entry_len fields)) entries)
    ∙ ap (λ (n : ℕ). n + length (flat_map (slot_bytes (entry_len fields)) entries)) here
    ∙ ap (λ (n : ℕ). (1 + entry_len fields) + n) rest
    ∙ more

data_long : (port sequence : ℕ) (table : DataTable) → IsTable table → length (data_space.print (port, (sequence, (table.fields, table.entries)))) ≡ data_space_image_size table.fields (length table.entries)
data_long port sequence table is =
    let slots = flat_map (slot_bytes (entry_len table.fields)) table.entries in
    ap length (data_bytes port sequence table.fields table.entries)
    ∙ omega (arith, length-append (flat_map attr.print table.fields) (u32.print (length table.entries) ++ slots), attrs_long table.fields, slots_long table.fields table.entries is.entries)

-- ---- bodies

-- what a body of this kind prints is not too long
abbrev IsShort : Kind → Body → ℕ → Type 0
IsShort k b sequence = length (body_bytes k (record { body = b; sequence = sequence })) ≤ longest_body body_limit k

program_body : (p : Program) (sequence : ℕ) → FitsCase IsCreated (unsequenced program_part sequence (bodies.Program p)) → IsShort kinds.Program (bodies.Program p) sequence → program_size p ≤ body_limit
program_body p zero h long = subst (λ (n : ℕ). n ≤ body_limit) (text_long p.template) long
program_body p (suc n) h long = absurd h

queue_body : (q : MessageQueue) (sequence : ℕ) → FitsCase (λ x. queue.fits x ≡ true) (unsequenced queue_part sequence (bodies.Queue q)) → IsShort kinds.Queue (bodies.Queue q) sequence → IsQueue body_limit q
queue_body q zero h long = queue_fits q h long
queue_body q (suc n) h long = absurd h

index_body : (i : EntryIndex) (sequence : ℕ) → FitsCase (λ x. index.fits x ≡ true) (unsequenced index_part sequence (bodies.Index i)) → IsShort kinds.Index (bodies.Index i) sequence → IsIndex body_limit i
index_body i zero h long = index_fits i h long
index_body i (suc n) h long = absurd h

space_body : (cs : List Cell) (tags : List ℕ) (sequence : ℕ) → FitsCase (FitsSpace tags) (unsequenced space_part sequence (bodies.Space cs)) → IsShort kinds.Space (bodies.Space cs) sequence → IsSpace body_limit cs
space_body cs tags zero h long = space_fits tags cs h long
space_body cs tags (suc n) h long = absurd h

abbrev printed_data : Option DataParts → List ℕ
printed_data x = print_by (all_by data_space) x

data_body : (d : DataBody) (sequence : ℕ) → FitsCase (λ x. data_space.fits x ≡ true) (data_in sequence (bodies.DataSpace d)) → IsShort kinds.DataSpace (bodies.DataSpace d) sequence → IsTable d.space → IsShortTable body_limit d.space
data_body d sequence h long is = by (d.space.spare == 0) h long
  where
    by : (b : Bool) → FitsCase (λ x. data_space.fits x ≡ true) (cond b (Some (d.port.0, (sequence, (d.space.fields, d.space.entries)))) None)
        → length (printed_data (cond b (Some (d.port.0, (sequence, (d.space.fields, d.space.entries)))) None)) ≤ body_limit → IsShortTable body_limit d.space
    by true is_in_relation short = subst (λ (n : ℕ). n ≤ body_limit) (data_long d.port.0 sequence d.space is) short
    by false is_in_relation short = absurd is_in_relation

abbrev printed_entries : Option (List journaled.JournalRecord) → List ℕ
printed_entries x = print_by journal x

journal_body : (j : JournalList) (sequence : ℕ) → FitsCase (λ x. fits_from entry 1 x ≡ true) (unsequenced entries_part sequence (bodies.Journal j)) → IsShort kinds.Journal (bodies.Journal j) sequence → IsShortJournal j
journal_body j zero h long = by ((j.spare == 0) && (j.unforced == 0)) refl h long
  where
    by : (b : Bool) → ((j.spare == 0) && (j.unforced == 0)) ≡ b → FitsCase (λ x. fits_from entry 1 x ≡ true) (cond b (Some j.entries) None)
        → length (printed_entries (cond b (Some j.entries) None)) ≤ 16777216 → IsShortJournal j
    by true is is_in_relation short = omega (arith, same j.spare 0 (both_true (j.spare == 0) (j.unforced == 0) is).0, subst (λ (n : ℕ). n ≤ 16777216) (journal_long j.entries) short)
    by false is is_in_relation short = absurd is_in_relation
journal_body j (suc n) h long = absurd h

-- the same body by the kind that it is of
abbrev FitsAs : Body → List ℕ → ℕ → Kind → Type 0
FitsAs b tags sequence k = FitsBody k tags (record { body = b; sequence = sequence })

pub body_fits : (k : Kind) (tags : List ℕ) (b : Body) (sequence : ℕ) → kind_of b ≡ k → FitsBody k tags (record { body = b; sequence = sequence })
    → length (body_bytes k (record { body = b; sequence = sequence })) ≤ longest_body body_limit k → IsData (data_of b) → IsBody body_limit b
body_fits k tags (bodies.Program p) sequence kind h long of =
    program_body p sequence (subst (FitsAs (bodies.Program p) tags sequence) (sym kind) h) (subst (λ (v : Kind). IsShort v (bodies.Program p) sequence) (sym kind) long)
body_fits k tags (bodies.Queue q) sequence kind h long of =
    queue_body q sequence (subst (FitsAs (bodies.Queue q) tags sequence) (sym kind) h) (subst (λ (v : Kind). IsShort v (bodies.Queue q) sequence) (sym kind) long)
body_fits k tags (bodies.Index i) sequence kind h long of =
    index_body i sequence (subst (FitsAs (bodies.Index i) tags sequence) (sym kind) h) (subst (λ (v : Kind). IsShort v (bodies.Index i) sequence) (sym kind) long)
body_fits k tags (bodies.Space cs) sequence kind h long of =
    space_body cs tags sequence (subst (FitsAs (bodies.Space cs) tags sequence) (sym kind) h) (subst (λ (v : Kind). IsShort v (bodies.Space cs) sequence) (sym kind) long)
body_fits k tags (bodies.DataSpace d) sequence kind h long of =
    data_body d sequence (subst (FitsAs (bodies.DataSpace d) tags sequence) (sym kind) h) (subst (λ (v : Kind). IsShort v (bodies.DataSpace d) sequence) (sym kind) long) of
body_fits k tags (bodies.Journal j) sequence kind h long of =
    journal_body j sequence (subst (FitsAs (bodies.Journal j) tags sequence) (sym kind) h) (subst (λ (v : Kind). IsShort v (bodies.Journal j) sequence) (sym kind) long)
body_fits k tags _ sequence kind h long of = tt
