-- The bodies of the eleven kinds are read as they are printed.
use Rattle.std.proofs.Common.{◌≡◌, ℕ, zero, suc, ◌<◌, ◌≤◌, Bool, true, false, cond, eqb, List, [], ◌∷◌, length, Option, Some, None, refl, sym, ap, ◌∙◌, arith}
use Rattle.std.specs.Prelude.{◌&&◌, nat_le, nat_lt, Result, Ok, Err}
use Rattle.std.proofs.lemmas.Bool.{eqb-true}
use Rattle.std.proofs.lemmas.Bool.Decides.{nat_tests}
use Rattle.s38_image.specs.Fitting.{FitsBody, FitsSpace}
use Rattle.s38_base.specs.declared.attr.Attr.{Attr}
use Rattle.s38_base.specs.declared.id.Kind.{Kind}
use Rattle.s38_base.specs.declared.id.Kind.TheVariants as kinds
use Rattle.s38_base.specs.declared.rights.Special.{Special}
use Rattle.s38_code.specs.declared.program.CreateFault.{CreateFault}
use Rattle.s38_code.specs.declared.program.Program.{Program}
use Rattle.s38_codec.specs.Codec.{AreBytes, Codec, IsCase, IsCodec, byte, bytes, copies, dependent_pair, only, ◌>>=◌}
use Rattle.s38_codec.specs.Formats.{IsSpelling, all_by, fits_from, list_of, short_text, text, u16, u32, u64}
use Rattle.s38_codec.proofs.CodecLaws.{bind_some, both_true, byte_is, bytes_is, dependent_pair_is, guard_some, only_is, seen_is}
use Rattle.s38_codec.proofs.FormatLaws.{AreLong, all_by_is, case_by_is, filled_by_is, list_of_is, short_list_is, short_text_is, text_is, u16_is, u32_is, u64_is, zeros_are}
use Rattle.s38_create.specs.Created.{created_by, no_template, program_created, program_of_parts as made_program, program_with_rows, with_code}
use Rattle.s38_create.specs.Instruction.{result_and_then}
use Rattle.s38_words.specs.declared.program_lines.Head.{Head}
use Rattle.s38_code.specs.declared.program.Instruction.{Instruction}
use Rattle.s38_code.specs.declared.program.Row.{Row}
use Rattle.s38_dataspaces.specs.Entries.{DataEntry}
use Rattle.s38_dataspaces.specs.Table.{are_fields, entry_len}
use Rattle.s38_image.proofs.HeaderLaws.{at_most, object_is}
use Rattle.s38_image.proofs.PageLaws.{lists_same, same_lists}
use Rattle.s38_image.proofs.ScalarLaws.{attr_is}
use Rattle.s38_image.proofs.SpaceLaws.{space_is}
use Rattle.s38_image.specs.Bodies.{BodyImage, block, block_by, block_number, body, context_of, context_part, cursor, cursor_by, cursor_parts, data_image_part, data_in, entries_in, entries_part, held_without_sequence, is_special_byte, no_bytes, nothing_of, port, port_by, port_number, profile_form, program_of_body, program_part, special, special_bits, special_by, unsequenced}
use Rattle.s38_image.specs.DataSpaces.{DataParts, data_space, is_sequence, is_slot, slot, slot_by, slot_parts}
use Rattle.s38_image.specs.Headers.{object_number_form}
use Rattle.s38_image.specs.Indexes.{entries_rise, index, index_by, index_parts, is_index}
use Rattle.s38_image.specs.Journals.{EntryFields, entry, entry_by, entry_fields, entry_format, entry_kind, is_entry, is_entry_kind, journal}
use Rattle.s38_image.specs.Pages.{same_list}
use Rattle.s38_image.specs.Programs.{IsCreated, is_printed, program_form, program_of, template_spelled_in}
use Rattle.s38_image.specs.Spaces.{space_form}
use Rattle.s38_image.specs.Queues.{QueueHead, is_queue_head, message_by, message_form, message_parts, order_by, order_form, order_number, queue, queue_by, queue_head, queue_parts}
use Rattle.s38_indexes.specs.Entries.{EntryIndex}
use Rattle.s38_journals.specs.Entries as journaled
use Rattle.s38_journals.specs.Entries.{entry_kind_code, journal_entry_len as bytes_of_entry, may_be_at}
use Rattle.s38_journals.specs.Stored.{entry_kind_of}
use Rattle.s38_journals.specs.declared.entry.EntryKind.{EntryKind}
use Rattle.s38_journals.specs.declared.entry.EntryKind.TheVariants as ends
use Rattle.s38_queues.specs.MessageQueue.{MessageQueue}
use Rattle.s38_queues.specs.declared.message.Message.{Message}
use Rattle.s38_queues.specs.declared.message.Order.{Order}
use Rattle.s38_queues.specs.declared.message.Order.TheVariants as orders
use Rattle.s38_rules.specs.state.LawfulParts as lawful_parts
use Rattle.s38_rules.specs.state.Parts as parts
use Rattle.s38_rules.specs.declared.block.Block.{Block}
use Rattle.s38_journals.specs.Journals.{JournalList}
use Rattle.s38_rules.specs.declared.cursor.Cursor.{Cursor}
use Rattle.s38_rules.specs.declared.data_body.DataBody.{DataBody}
use Rattle.s38_rules.specs.declared.object.Body.{Body}
use Rattle.s38_rules.specs.declared.object.Body.TheVariants as bodies
use Rattle.s38_rules.specs.declared.port.Port.{Port}
use Rattle.s38_template.specs.Printing.{printed_lines}
use Rattle.s38_template.specs.Reading.{read_of}

-- ---- queues

below : (a b : ℕ) → nat_lt a b ≡ true → a < b
below a b h = grind (arith, nat_tests)

order_there : (o : Order) → order_by (order_number o) ≡ o
order_there orders.Fifo = refl
order_there orders.Lifo = refl
order_there orders.Keyed = refl

order_here : (n : ℕ) → nat_lt n 3 ≡ true → order_number (order_by n) ≡ n
order_here zero h = refl
order_here (suc zero) h = refl
order_here (suc (suc zero)) h = refl
order_here (suc (suc (suc n))) h = absurd (omega (arith, below (suc (suc (suc n))) 3 h))

order_is : IsCodec Order order_form
order_is = seen_is order_by order_number _ (record { there = order_there; here = λ x h. order_here x (both_true (nat_lt x 3) _ h).0 }) (only_is (λ n. nat_lt n 3) byte byte_is)

message_is : (key_len longest : ℕ) → IsCodec Message (message_form key_len longest)
message_is key_len longest = seen_is message_by message_parts (dependent_pair (bytes key_len) (λ _. text longest)) (record { there = λ y. refl; here = λ x h. refl }) (dependent_pair_is (bytes key_len) (λ _. text longest) (bytes_is key_len) (λ _. text_is longest))

pub queue_head_is : IsCodec QueueHead queue_head
queue_head_is = only_is is_queue_head _ (dependent_pair_is order_form _ order_is (λ _. dependent_pair_is byte _ byte_is (λ _. u16_is)))

pub queue_is : IsCodec MessageQueue queue
queue_is =
    seen_is queue_by queue_parts (dependent_pair queue_head (λ h. list_of (message_form h.1.0 h.1.1))) (record { there = λ y. refl; here = λ x h. refl })
    (dependent_pair_is queue_head (λ h. list_of (message_form h.1.0 h.1.1)) queue_head_is (λ h. list_of_is _ (message_is h.1.0 h.1.1)))

-- ---- indexes

pub index_codec_is : IsCodec EntryIndex index
index_codec_is =
    seen_is index_by index_parts _ (record { there = λ y. refl; here = λ x h. refl })
    (dependent_pair_is (only is_index byte) (λ longest. only entries_rise (list_of (short_text longest))) (only_is is_index byte byte_is) (λ longest. only_is entries_rise _ (list_of_is _ (short_text_is longest))))

-- ---- data spaces

slot_there : (width : ℕ) (o : DataEntry) → slot_by (slot_parts width o) ≡ o
slot_there width None = refl
slot_there width (Some e) = refl

slot_here : (fields : List Attr) (width flag : ℕ) (e : List ℕ) → is_slot fields (flag, e) ≡ true → length e ≡ width → slot_parts width (slot_by (flag, e)) ≡ (flag, e)
slot_here fields width zero e h len = let z = zeros_are e h in let w : copies width 0 ≡ e = ap (λ (k : ℕ). copies k 0) (sym len) ∙ sym z in ap (λ (t : List ℕ). (0, t)) w
slot_here fields width (suc zero) e h len = refl
slot_here fields width (suc (suc n)) e h len = absurd cc

slot_is : (fields : List Attr) → IsCodec DataEntry (slot fields)
slot_is fields =
    seen_is slot_by (slot_parts (entry_len fields)) _
    (record {
      there = slot_there (entry_len fields);
      here = λ x h. let b = both_true (is_slot fields x) _ h in let c = both_true _ _ b.1 in slot_here fields (entry_len fields) x.0 x.1 b.0 (eqb-true _ _ c.1);
    })
    (only_is (is_slot fields) _ (dependent_pair_is byte (λ _. bytes (entry_len fields)) byte_is (λ _. bytes_is (entry_len fields))))

abbrev slots : List Attr → Codec (List DataEntry)
slots fields = list_of (slot fields)

pub data_space_is : IsCodec DataParts data_space
data_space_is =
    dependent_pair_is u64 _ u64_is (λ port. dependent_pair_is _ _ (only_is (is_sequence port) u64 u64_is) (λ _. dependent_pair_is _ slots (only_is are_fields _ (short_list_is _ attr_is)) (λ fields. list_of_is _ (slot_is fields))))

-- ---- journal spaces

kind_there : (k : EntryKind) → entry_kind_of (entry_kind_code k) ≡ k
kind_there ends.Insert = refl
kind_there ends.Update = refl
kind_there ends.Delete = refl
kind_there ends.Commit = refl
kind_there ends.Decommit = refl

kind_here : (n : ℕ) → is_entry_kind n ≡ true → entry_kind_code (entry_kind_of n) ≡ n
kind_here zero h = absurd cc
kind_here (suc zero) h = refl
kind_here (suc (suc zero)) h = refl
kind_here (suc (suc (suc zero))) h = refl
kind_here (suc (suc (suc (suc zero)))) h = refl
kind_here (suc (suc (suc (suc (suc zero))))) h = refl
kind_here (suc (suc (suc (suc (suc (suc n)))))) h =
    let f = both_true (nat_le 1 (suc (suc (suc (suc (suc (suc n))))))) (nat_le (suc (suc (suc (suc (suc (suc n)))))) 5) h in
    let le = at_most (suc (suc (suc (suc (suc (suc n)))))) 5 f.1 in
    absurd (omega arith)

entry_kind_is : IsCodec EntryKind entry_kind
entry_kind_is = seen_is entry_kind_of entry_kind_code _ (record { there = kind_there; here = λ x h. kind_here x (both_true (is_entry_kind x) _ h).0 }) (only_is is_entry_kind byte byte_is)

abbrev two_texts : ℕ → ℕ → Codec (List ℕ × List ℕ)
two_texts before after = dependent_pair (bytes before) (λ _. bytes after)

entry_format_is : IsCodec EntryFields entry_format
entry_format_is =
    dependent_pair_is u32 _ u32_is (λ _. dependent_pair_is u64 _ u64_is (λ _. dependent_pair_is u64 _ u64_is (λ _. dependent_pair_is u32 _ u32_is (λ _. dependent_pair_is entry_kind _ entry_kind_is (λ _. dependent_pair_is object_number_form _ object_is (λ _. dependent_pair_is u32 _ u32_is (λ _.
    dependent_pair_is u16 _ u16_is (λ before. dependent_pair_is u16 (λ after. two_texts before after) u16_is (λ after. dependent_pair_is (bytes before) (λ _. bytes after) (bytes_is before) (λ _. bytes_is after))))))))))

-- the fields that an entry does not keep are as it writes them
record SaysLengths (sequence : ℕ) (x : EntryFields) : Type 0 where
  len : x.0 ≡ bytes_of_entry (entry_by x)
  place : x.1.0 ≡ sequence
  before : x.1.1.1.1.1.1.1.0 ≡ length x.1.1.1.1.1.1.1.1.1.0
  after : x.1.1.1.1.1.1.1.1.0 ≡ length x.1.1.1.1.1.1.1.1.1.1

fields_same : (sequence : ℕ) (x : EntryFields) → SaysLengths sequence x → entry_fields sequence (entry_by x) ≡ x
fields_same sequence (len, (place, (unit, (process, (k, (o, (ordinal, (n, (m, (before, after)))))))))) s =
    let a = sym s.len in
    let b = sym s.place in
    let c = sym s.before in
    let d = sym s.after in
    λ i. (a i, (b i, (unit, (process, (k, (o, (ordinal, (c i, (d i, (before, after))))))))))

last_true : (a b : Bool) → (a && b) ≡ true → b ≡ true
last_true true b e = e
last_true false b e = absurd cc

says_lengths : (sequence : ℕ) (x : EntryFields) → (is_entry sequence x && entry_format.fits x) ≡ true → SaysLengths sequence x
says_lengths sequence (len, (place, (unit, (process, (k, (o, (ordinal, (n, (m, (before, after)))))))))) h =
    let x : EntryFields = (len, (place, (unit, (process, (k, (o, (ordinal, (n, (m, (before, after)))))))))) in
    let t = both_true (is_entry sequence x) (entry_format.fits x) h in
    let e = both_true (eqb len (bytes_of_entry (entry_by x)) && eqb place sequence) (may_be_at sequence (entry_by x)) t.0 in
    let l = both_true (eqb len (bytes_of_entry (entry_by x))) (eqb place sequence) e.0 in
    let a = last_true (u32.fits len) _ t.1 in
    let b = last_true (u64.fits place) _ a in
    let c = last_true (u64.fits unit) _ b in
    let d = last_true (u32.fits process) _ c in
    let f = last_true (entry_kind.fits k) _ d in
    let g = last_true (object_number_form.fits o) _ f in
    let i = last_true (u32.fits ordinal) _ g in
    let j = last_true (u16.fits n) _ i in
    let q = last_true (u16.fits m) _ j in
    let r = both_true (eqb (length before) n) (eqb (length after) m) q in
    record { len = eqb-true _ _ l.0; place = eqb-true _ _ l.1; before = sym (eqb-true _ _ r.0); after = sym (eqb-true _ _ r.1) }

pub entry_is : (sequence : ℕ) → IsCodec journaled.JournalRecord (entry sequence)
entry_is sequence = seen_is entry_by (entry_fields sequence) _ (record { there = λ y. refl; here = λ x h. fields_same sequence x (says_lengths sequence x h) }) (only_is (is_entry sequence) entry_format entry_format_is)

pub entry_long : (sequence : ℕ) (e : journaled.JournalRecord) → 1 ≤ length ((entry sequence).print e)
entry_long sequence e = omega arith

pub entries_are : AreLong journaled.JournalRecord entry
entries_are = record { each = entry_is; some = entry_long }

pub journal_is : IsSpelling (List journaled.JournalRecord) journal (λ es. fits_from entry 1 es ≡ true)
journal_is = filled_by_is entry entries_are 1

-- ---- programs

printed_same : (text : List ℕ) (template found : List (List ℕ)) → is_printed text template ≡ Some found → (printed_lines template ≡ text) × (template ≡ found)
printed_same text template found e =
    let g = guard_some (same_list (printed_lines template) text) template found e in
    (same_lists (printed_lines template) text g.0, g.1)

program_made : (r : Result Program CreateFault) (p : Program) → program_of r ≡ Some p → r ≡ Ok p
program_made (Err fault) p e = absurd cc
program_made (Ok q) p e = cc

program_again : (p : Program) → IsCreated p → program_form.read (printed_lines p.template) ≡ Some p
program_again p is = rw (is.template, lists_same (printed_lines p.template), is.created) refl

-- a program that is created has the template of which it is created
abbrev ok_program : Program → Result Program CreateFault
ok_program p = Ok p

same_program : (p q : Program) → ok_program p ≡ ok_program q → p ≡ q
same_program p q e = cc

template_coded : (lines : List (List ℕ)) (head : Head) (rows : List Row) (r : Result (List Instruction) CreateFault) (p : Program) → with_code lines head rows r ≡ Ok p → p.template ≡ lines
template_coded lines head rows (Err fault) p e = absurd cc
template_coded lines head rows (Ok code) p e = ap (λ (q : Program). q.template) (sym (same_program (made_program lines head rows code) p e))

template_rows : (lines : List (List ℕ)) (head : Head) (code : List (List ℕ)) (r : Result (List Row) CreateFault) (p : Program) → result_and_then (program_with_rows lines head code) r ≡ Ok p → p.template ≡ lines
template_rows lines head code (Err fault) p e = absurd cc
template_rows lines head code (Ok rows) p e = template_coded lines head rows _ p e

template_small : (lines : List (List ℕ)) (b : Bool) (head : Head) (code : List (List ℕ)) (r : Result (List Row) CreateFault) (p : Program) → cond b (result_and_then (program_with_rows lines head code) r) no_template ≡ Ok p → p.template ≡ lines
template_small lines true head code r p e = template_rows lines head code r p e
template_small lines false head code r p e = absurd cc

template_by : (lines : List (List ℕ)) (h : Option Head) (p : Program) → created_by lines h ≡ Ok p → p.template ≡ lines
template_by lines None p e = absurd cc
template_by lines (Some head) p e = template_small lines _ head _ _ p e

template_if : (lines : List (List ℕ)) (b : Bool) (h : Option Head) (p : Program) → cond b (created_by lines h) no_template ≡ Ok p → p.template ≡ lines
template_if lines true h p e = template_by lines h p e
template_if lines false h p e = absurd cc

pub created_template : (lines : List (List ℕ)) (p : Program) → program_created lines ≡ Ok p → p.template ≡ lines
unfolding program_created
created_template lines p e = template_if lines _ _ p e

program_exact : (text : List ℕ) (p : Program) → AreBytes text → program_form.read text ≡ Some p → (text ≡ printed_lines p.template) × IsCreated p
program_exact text p fine e =
    let u = bind_some (template_spelled_in (read_of text)) (λ template. is_printed text template >>= λ template. program_of (program_created template)) p e in
    let v = bind_some (is_printed text u.0) (λ template. program_of (program_created template)) p u.2 in
    let s = printed_same text u.0 v.0 v.1 in
    let made = program_made (program_created v.0) p v.2 in
    let own : p.template ≡ u.0 = created_template v.0 p made ∙ sym s.1 in
    let printed : printed_lines p.template ≡ text = ap (λ (t : List (List ℕ)). printed_lines t) own ∙ s.0 in (
      sym printed,
      record {
        template = ap (λ (t : List ℕ). template_spelled_in (read_of t)) printed ∙ u.1 ∙ ap (λ (t : List (List ℕ)). Some t) (sym own);
        created = ap program_created (created_template v.0 p made) ∙ made;
      },
    )

pub program_is : IsSpelling Program program_form IsCreated
program_is = record { again = program_again; exact = program_exact }

-- ---- the kinds

abbrev held : Body → ℕ → BodyImage
held b sequence = record { body = b; sequence = sequence }

held_got : {T : Type 0} (p : parts.Part T) → lawful_parts.IsPart T p → (x : T) → (held_without_sequence p).of ((held_without_sequence p).make x) ≡ Some x
held_got p is x = is.got x

held_back_by : {T : Type 0} (p : parts.Part T) → lawful_parts.IsPart T p → (b : Body) (sequence : ℕ) (x : T) → unsequenced p sequence b ≡ Some x → (held b sequence) ≡ (held_without_sequence p).make x
held_back_by p is b zero x e = ap (λ (c : Body). held c 0) (is.back b x e)
held_back_by p is b (suc n) x e = absurd cc

pub held_is : {T : Type 0} (p : parts.Part T) → lawful_parts.IsPart T p → IsCase T BodyImage (held_without_sequence p)
held_is p is = record { got = held_got p is; back = λ i x e. held_back_by p is i.body i.sequence x e }

context_back : (b : Body) (x : Unit {0}) → context_of b ≡ Some x → b ≡ bodies.Context
context_back bodies.Context x e = refl
context_back _ x e = absurd cc

context_is_part : lawful_parts.IsPart (Unit {0}) context_part
context_is_part = record { got = λ x. refl; back = context_back }

program_back : (b : Body) (x : Program) → program_of_body b ≡ Some x → b ≡ bodies.Program x
program_back (bodies.Program p) x e = cc
program_back _ x e = absurd cc

program_is_part : lawful_parts.IsPart Program program_part
program_is_part = record { got = λ x. refl; back = program_back }

entries_same : (j : JournalList) (es : List journaled.JournalRecord) → j.spare ≡ 0 → j.unforced ≡ 0 → j.entries ≡ es → j ≡ record { spare = 0; unforced = 0; entries = es }
entries_same j es a b c = λ i. record { spare = a i; unforced = b i; entries = c i }

entries_back : (b : Body) (x : List journaled.JournalRecord) → entries_in b ≡ Some x → b ≡ entries_part.make x
entries_back (bodies.Journal j) x e =
    let g = guard_some (eqb j.spare 0 && eqb j.unforced 0) j.entries x e in
    let f = both_true (eqb j.spare 0) (eqb j.unforced 0) g.0 in
    ap (λ (k : JournalList). bodies.Journal k) (entries_same j x (eqb-true j.spare 0 f.0) (eqb-true j.unforced 0 f.1) g.1)
entries_back _ x e = absurd cc

entries_is_part : lawful_parts.IsPart (List journaled.JournalRecord) entries_part
entries_is_part = record { got = λ x. refl; back = entries_back }

data_same : (d : DataBody) (sequence : ℕ) → d.space.spare ≡ 0 → held (bodies.DataSpace d) sequence ≡ data_image_part.make (d.port.0, (sequence, (d.space.fields, d.space.entries)))
data_same d sequence a = λ i. record { body = bodies.DataSpace (record { space = record { fields = d.space.fields; spare = a i; entries = d.space.entries }; port = d.port }); sequence = sequence }

abbrev data_parts : DataBody → ℕ → DataParts
data_parts d sequence = (d.port.0, (sequence, (d.space.fields, d.space.entries)))

data_back_by : (b : Body) (sequence : ℕ) (x : DataParts) → data_in sequence b ≡ Some x → held b sequence ≡ data_image_part.make x
data_back_by (bodies.DataSpace d) sequence x e =
    let g = guard_some (eqb d.space.spare 0) (data_parts d sequence) x e in
    data_same d sequence (eqb-true d.space.spare 0 g.0) ∙ ap (λ (y : DataParts). data_image_part.make y) g.1
data_back_by _ sequence x e = absurd cc

data_is_part : IsCase DataParts BodyImage data_image_part
data_is_part = record { got = λ x. refl; back = λ i x e. data_back_by i.body i.sequence x e }

nothing_exact : (bs : List ℕ) (x : Unit {0}) → AreBytes bs → nothing_of bs ≡ Some x → (bs ≡ []) × Unit {0}
nothing_exact [] x fine e = (refl, tt)
nothing_exact (b ∷ bs) x fine e = absurd cc

nothing_is : IsSpelling (Unit {0}) no_bytes (λ x. Unit {0})
nothing_is = record { again = λ x h. refl; exact = nothing_exact }

special_is : IsCodec Special special
special_is = seen_is special_by special_bits _ (record { there = λ y. refl; here = λ x h. refl }) (only_is is_special_byte byte byte_is)

profile_is : IsCodec (Special × ℕ) profile_form
profile_is = dependent_pair_is special _ special_is (λ _. u32_is)

cursor_is : IsCodec Cursor cursor
cursor_is = seen_is cursor_by cursor_parts _ (record { there = λ y. refl; here = λ x h. refl }) (dependent_pair_is object_number_form _ object_is (λ _. dependent_pair_is object_number_form _ object_is (λ _. u32_is)))

port_is : IsCodec Port port
port_is = seen_is port_by port_number _ (record { there = λ y. refl; here = λ x h. refl }) object_is

block_is : IsCodec Block block
block_is = seen_is block_by block_number _ (record { there = λ y. refl; here = λ x h. refl }) object_is

pub body_is : (k : Kind) (tags : List ℕ) → IsSpelling BodyImage (body k tags) (FitsBody k tags)
body_is kinds.Context tags = case_by_is (held_without_sequence context_part) no_bytes (λ x. Unit {0}) (held_is context_part context_is_part) nothing_is
body_is kinds.Program tags = case_by_is (held_without_sequence program_part) program_form IsCreated (held_is program_part program_is_part) program_is
body_is kinds.Profile tags = case_by_is (held_without_sequence parts.profile_part) (all_by profile_form) (λ x. profile_form.fits x ≡ true) (held_is parts.profile_part lawful_parts.profile_lawful) (all_by_is profile_form profile_is)
body_is kinds.Space tags = case_by_is (held_without_sequence parts.space_part) (space_form tags) (FitsSpace tags) (held_is parts.space_part lawful_parts.space_lawful) (space_is tags)
body_is kinds.Queue tags = case_by_is (held_without_sequence parts.queue_part) (all_by queue) (λ x. queue.fits x ≡ true) (held_is parts.queue_part lawful_parts.queue_lawful) (all_by_is queue queue_is)
body_is kinds.Index tags = case_by_is (held_without_sequence parts.index_part) (all_by index) (λ x. index.fits x ≡ true) (held_is parts.index_part lawful_parts.index_lawful) (all_by_is index index_codec_is)
body_is kinds.DataSpace tags = case_by_is data_image_part (all_by data_space) (λ x. data_space.fits x ≡ true) data_is_part (all_by_is data_space data_space_is)
body_is kinds.Cursor tags = case_by_is (held_without_sequence parts.cursor_part) (all_by cursor) (λ x. cursor.fits x ≡ true) (held_is parts.cursor_part lawful_parts.cursor_lawful) (all_by_is cursor cursor_is)
body_is kinds.Port tags = case_by_is (held_without_sequence parts.port_part) (all_by port) (λ x. port.fits x ≡ true) (held_is parts.port_part lawful_parts.port_lawful) (all_by_is port port_is)
body_is kinds.Journal tags = case_by_is (held_without_sequence entries_part) journal (λ x. fits_from entry 1 x ≡ true) (held_is entries_part entries_is_part) journal_is
body_is kinds.Block tags = case_by_is (held_without_sequence parts.block_part) (all_by block) (λ x. block.fits x ≡ true) (held_is parts.block_part lawful_parts.block_lawful) (all_by_is block block_is)
