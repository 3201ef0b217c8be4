-- What bodies keep to beside their limits, so that they are read again.
use Rattle.std.specs.Prelude.{◌≡◌, ◌&&◌, ◌==◌, ℕ, Bool, true, if◌then◌else◌, nat_le}
use Rattle.s38_image.specs.Bodies.{is_special_byte}
use Rattle.s38_image.specs.Programs.{IsCreated}
use Rattle.s38_queues.specs.MessageQueue.{is_keyed, longest_key}
use Rattle.s38_queues.specs.declared.message.Order.{Order}
use Rattle.s38_rules.specs.declared.object.Body.{Body}
use Rattle.s38_rules.specs.declared.object.Body.TheVariants as bodies
use Rattle.s38_rules.specs.declared.object.Object.{Object}

-- keys have 1 to 120 bytes where they order the queue, and else none
abbrev pub has_keys : Order → ℕ → Bool
has_keys order key_len = if is_keyed order then nat_le 1 key_len && nat_le key_len longest_key else key_len == 0

-- a program is the one that is created of its template, a profile has no special authority but the two that there are, and
-- the keys of a queue suit its order
abbrev pub HasForm : Body → Type 0
HasForm (bodies.Program p) = IsCreated p
HasForm (bodies.Profile special pages) = is_special_byte special.0 ≡ true
HasForm (bodies.Queue q) = has_keys q.order q.key_len ≡ true
HasForm _ = Unit {0}

abbrev pub HoldsForm : Object → Type 0
HoldsForm o = HasForm o.body
