-- Which bodies are no longer than a body may be.
use Rattle.std.specs.Prelude.{◌≡◌, ◌≤◌, ℕ, None, Some}
use Rattle.s38_base.specs.Limits.{body_limit}
use Rattle.s38_durable_state.specs.Durable.{Durable, kept}
use Rattle.s38_image.specs.declared.stored.Stored.{Stored}
use Rattle.s38_rules.specs.state.Parts.{journal_of}
use Rattle.s38_rules.specs.store.Room.{image_len}

-- no image of a body but that of a journal space has more bytes than a body may have
abbrev pub BodiesAreShort : Durable → Type 0
BodiesAreShort d = (n : ℕ) (x : Stored) → kept d.objects n ≡ Some x → journal_of x.object.body ≡ None → image_len x.object.body ≤ body_limit
