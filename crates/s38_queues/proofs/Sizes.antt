-- The image of a queue loses the bytes of a message that is taken.
use Rattle.std.proofs.Common.{◌≡◌, ℕ, ◌+◌, List, Some, arith, sym, ◌∙◌, ap}
use Rattle.std.specs.Prelude.{Option, None, IfSome, slice_get}
use Rattle.std.specs.List.{remove}
use Rattle.std.proofs.lemmas.List.Sums.{sum_by-remove}
use Rattle.std.proofs.lemmas.Option.{get_or_from_slice_get, slice_get_within}
use Rattle.s38_queues.specs.declared.message.Message.{Message}
use Rattle.s38_queues.specs.MessageQueue.{message_at, message_size, queue_image_size}
use Rattle.s38_queues.specs.Places.{without_at}

image_size-remove : (ms : List Message) (i : ℕ) (m : Message) → slice_get ms i ≡ Some m → queue_image_size (remove ms i) + message_size m ≡ queue_image_size ms
image_size-remove ms i m e =
    let read = ap message_size (get_or_from_slice_get ms i m m e) in
    let rest = sum_by-remove message_size ms i m (slice_get_within ms i m e) in
    omega arith

-- what is left of a queue whose message was taken, if there was one
pub size_left : (ms left : List Message) (found : Option ℕ) (taken : Option Message) → taken ≡ message_at ms found → left ≡ without_at ms found →
    IfSome taken (λ m. queue_image_size left + message_size m ≡ queue_image_size ms)
size_left ms left found None e rest = tt
size_left ms left None (Some m) e rest = absurd (cc)
size_left ms left (Some at) (Some m) e rest =
    ap (λ xs. queue_image_size xs + message_size m) rest ∙ image_size-remove ms at m (sym e)
