-- Pieces that are printed one after another.
use Rattle.std.proofs.Common.{◌≡◌, ℕ, suc, ◌+◌, List, [], ◌∷◌, length, ◌++◌, arith, refl, sym, ap, ◌∙◌, append_assoc}
use Rattle.std.specs.List.{flat_map}
use Rattle.s38_codec.specs.Codec.{Codec, copies, print_each}
use Rattle.s38_codec.specs.Formats.{print_from, u16, u32}
use Rattle.s38_image.specs.Journals.{entry, journal}
use Rattle.s38_image.specs.Queues.{message_form, order_number, queue}
use Rattle.std.specs.Prelude.{sum_by}
use Rattle.std.proofs.lemmas.List.{length-append}
use Rattle.std.proofs.lemmas.List.Sums.{sum_by-cons}
use Rattle.s38_journals.specs.Entries.{JournalRecord, entry_image, head, journal_entry_len}
use Rattle.s38_journals.specs.Journals.{entries_len, journal_image}
use Rattle.s38_queues.specs.MessageQueue.{MessageQueue, message_size}
use Rattle.s38_queues.specs.declared.message.Message.{Message}
use Rattle.s38_image.specs.Headers.{header, mark}
use Rattle.s38_image_writer.specs.Printing.{id_bytes, lengths_of, message_bytes, name_bytes, places_of}
use Rattle.s38_image.specs.declared.header.Header.{Header}

-- a header in its pieces
pub header_bytes : (h : Header) → header.print h ≡ u32.print mark ++ (id_bytes h.id ++ places_of h)
unfolding name_bytes id_bytes lengths_of places_of
header_bytes h = refl

-- so many values of one format
pub times_print : {A : Type 0} (c : Codec A) (xs : List A) → print_each (copies (length xs) c) xs ≡ flat_map c.print xs
unfolding print_each copies
times_print c [] = refl
times_print c (x ∷ xs) = ap (λ (t : List ℕ). c.print x ++ t) (times_print c xs)

pub message_printed : (key_len longest : ℕ) (ms : List Message) → flat_map (message_form key_len longest).print ms ≡ flat_map message_bytes ms
unfolding message_bytes
message_printed key_len longest [] = refl
message_printed key_len longest (m ∷ ms) = ap (λ (t : List ℕ). message_bytes m ++ t) (message_printed key_len longest ms)

-- a queue in its pieces
pub queue_bytes : (q : MessageQueue) → queue.print q ≡ order_number q.order ∷ q.key_len ∷ (u16.print q.longest ++ (u32.print (length q.messages) ++ flat_map message_bytes q.messages))
queue_bytes q =
    ap (λ (t : List ℕ). order_number q.order ∷ q.key_len ∷ (u16.print q.longest ++ (u32.print (length q.messages) ++ t)))
    (times_print (message_form q.key_len q.longest) q.messages ∙ message_printed q.key_len q.longest q.messages)

next_is : (k : ℕ) (es : List JournalRecord) → print_from entry (k + 1) es ≡ print_from entry (suc k) es
next_is k es = ap (λ (n : ℕ). print_from entry n es) (omega arith)

image_printed : (k : ℕ) (e : JournalRecord) → (entry k).print e ≡ entry_image k e
unfolding head
image_printed k e = refl

entries_print : (k : ℕ) (es : List JournalRecord) → print_from entry k es ≡ journal_image k es
unfolding print_from
entries_print k [] = refl
entries_print k (e ∷ es) =
    ap (λ (t : List ℕ). t ++ print_from entry (k + 1) es) (image_printed k e)
    ∙ ap (λ (t : List ℕ). entry_image k e ++ t) (next_is k es ∙ entries_print (suc k) es)

pub journal_bytes : (es : List JournalRecord) → journal_image 1 es ≡ journal.print es
journal_bytes es = sym (entries_print 1 es)

entry_length : (k : ℕ) (e : JournalRecord) → length (entry_image k e) ≡ journal_entry_len e
unfolding head
entry_length k e = omega (arith, length-append e.before e.after)

pub journal_length : (k : ℕ) (es : List JournalRecord) → length (journal_image k es) ≡ entries_len es
journal_length k [] = refl
journal_length k (e ∷ es) = omega (arith, entry_length k e, journal_length (suc k) es, length-append (entry_image k e) (journal_image (suc k) es), sum_by-cons journal_entry_len e es)

-- ---- a message, and those after it

pub message_put : (old new : List ℕ) (messages more : List Message) (m : Message) → messages ≡ m ∷ more → new ≡ old ++ message_bytes m → new ++ flat_map message_bytes more ≡ old ++ flat_map message_bytes messages
message_put old new messages more m is one =
    ap (λ (t : List ℕ). t ++ flat_map message_bytes more) one
    ∙ append_assoc old (message_bytes m) (flat_map message_bytes more)
    ∙ ap (λ (q : List Message). old ++ flat_map message_bytes q) (sym is)

pub message_left : (messages more : List Message) (m : Message) → messages ≡ m ∷ more → sum_by message_size messages ≡ message_size m + sum_by message_size more
message_left messages more m is = ap (λ (q : List Message). sum_by message_size q) is ∙ sum_by-cons message_size m more
