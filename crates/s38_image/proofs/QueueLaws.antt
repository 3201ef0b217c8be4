-- A queue is its head and its messages.
use Rattle.std.proofs.Common.{◌≡◌, ℕ, ◌+◌, ◌++◌, cond, eqb, Bool, true, false, List, length, Option, Some, None, refl, sym, ap, arith}
use Rattle.std.proofs.lemmas.List.{length-append}
use Rattle.std.specs.Prelude.{IfOk, Result, Ok, Err}
use Rattle.s38_codec.proofs.CodecLaws.{AreBytes-after, bytes_is, wide16, wide32}
use Rattle.s38_codec.proofs.FormatLaws.{text_is, u32_is}
use Rattle.s38_codec.specs.Codec.{AreBytes, bytes, times, whole, ◌>>=◌}
use Rattle.s38_codec.specs.Formats.{text as text_format, u16, u32}
use Rattle.s38_codec.specs.Reading.{Gives}
use Rattle.s38_codec.specs.declared.fault.ReadFault.{ReadFault}
use Rattle.s38_codec.specs.declared.fault.ReadFault.TheVariants as faults
use Rattle.s38_image.specs.Queues.{QueueHead, message_form, queue, queue_by, queue_head}
use Rattle.s38_image.proofs.BodyLaws.{queue_head_is}
use Rattle.s38_queues.specs.MessageQueue.{MessageQueue, message as with_key, message_size}
use Rattle.s38_queues.specs.declared.message.Message.{Message}

some_by : (h : QueueHead) (ms : List Message) (b : Bool) → cond b (Some (queue_by (h, ms))) None ≡ (cond b (Some ms) None >>= λ ms. Some (queue_by (h, ms)))
some_by h ms true = refl
some_by h ms false = refl

queue_by_messages : (bytes first second : List ℕ) (h : QueueHead) (n : ℕ) → queue_head.read bytes ≡ Some (h, first) → u32.read first ≡ Some (n, second)
    → (o : Option (List Message × List ℕ)) → (times n (message_form h.1.0 h.1.1)).read second ≡ o → whole queue bytes ≡ (whole (times n (message_form h.1.0 h.1.1)) second >>= λ ms. Some (queue_by (h, ms)))
queue_by_messages bytes first second h n one two None e = rw (one, two, e) refl
queue_by_messages bytes first second h n one two (Some x) e = rw (one, two, e) (some_by h x.0 (eqb (length x.1) 0))

pub queue_whole : (bytes first second : List ℕ) (h : QueueHead) (n : ℕ) → queue_head.read bytes ≡ Some (h, first) → u32.read first ≡ Some (n, second)
    → whole queue bytes ≡ (whole (times n (message_form h.1.0 h.1.1)) second >>= λ ms. Some (queue_by (h, ms)))
queue_whole bytes first second h n one two = queue_by_messages bytes first second h n one two _ refl

same_queue : (q : MessageQueue) (h : QueueHead) → q.order ≡ h.0 → q.key_len ≡ h.1.0 → q.longest ≡ h.1.1 → queue_by (h, q.messages) ≡ q
same_queue q h a b c = let x = sym a in let y = sym b in let z = sym c in λ i. record { order = x i; key_len = y i; longest = z i; messages = q.messages }

pub gives_queue : (result : Result MessageQueue ReadFault) (o : Option (List Message)) (h : QueueHead) → Gives (λ q. q.messages) result o → IfOk result (λ q. q.order ≡ h.0) → IfOk result (λ q. q.key_len ≡ h.1.0) → IfOk result (λ q. q.longest ≡ h.1.1)
    → Gives (λ q. q) result (o >>= λ ms. Some (queue_by (h, ms)))
gives_queue (Ok q) o h read a b c = rw read (ap (λ (p : MessageQueue). Some p) (same_queue q h a b c))
gives_queue (Err faults.NoMemory) o h read a b c = tt
gives_queue (Err faults.BadForm) o h read a b c = rw read refl

-- a message that is read takes the bytes of its image
pub message_len : (key_len longest : ℕ) (from key rest text after : List ℕ) → AreBytes from → (bytes key_len).read from ≡ Some (key, rest) → (text_format longest).read rest ≡ Some (text, after)
    → length from ≡ message_size (with_key key text) + length after
message_len key_len longest from key rest text after fine one two =
    let front = ((bytes_is key_len).exact from key rest fine one).parts in
    let good = AreBytes-after key rest from front fine in
    let back = ((text_is longest).exact rest text after good two).parts in
    omega (arith, ap length front, length-append key rest, ap length back, length-append (u16.print (length text) ++ text) after, length-append (u16.print (length text)) text, wide16.len (length text))

-- what comes before the messages takes eight bytes
pub head_len : (bytes first second : List ℕ) (h : QueueHead) (n : ℕ) → AreBytes bytes → queue_head.read bytes ≡ Some (h, first) → u32.read first ≡ Some (n, second) → length bytes ≡ 8 + length second
head_len bytes first second h n fine one two =
    let front = (queue_head_is.exact bytes h first fine one).parts in
    let good = AreBytes-after (queue_head.print h) first bytes front fine in
    omega (
      arith,
      ap length front,
      length-append (queue_head.print h) first,
      wide16.len h.1.1,
      ap length (u32_is.exact first n second good two).parts,
      length-append (u32.print n) second,
      wide32.len n,
    )
