-- What is kept whole of an object in a state is read again.
use Rattle.std.proofs.Common.{arith, length, refl, ℕ, ◌<◌, ◌^◌, ◌≡◌, ◌≤◌}
use Rattle.std.specs.Option.{unwrap_or}
use Rattle.std.specs.Prelude.{All, None, Option, Some}
use Rattle.s38_base.specs.Limits.{body_limit}
use Rattle.s38_durable_state.specs.Durable.{last_sequence_in, whole_object}
use Rattle.s38_image.specs.Fitting.{IsImage}
use Rattle.s38_image_writer.specs.Parts.{CanSettle}
use Rattle.s38_journals.specs.Entries.{JournalRecord, journal_entry_len}
use Rattle.s38_laws_images.specs.openings.Bodies.{HoldsBody, IsBody}
use Rattle.s38_laws_images.proofs.readable.FoundLaws.{found_all}
use Rattle.s38_laws_images.proofs.readable.ListLaws.{length_sum}
use Rattle.s38_laws_images.specs.readable.Readable.{IsReadable}
use Rattle.s38_rules.specs.state.Held.{Held, object}
use Rattle.s38_rules.specs.state.Journaling.{journal_for}
use Rattle.s38_rules.specs.state.Parts.{journal_of, journal_part, part_in}
use Rattle.s38_rules.specs.state.PartsAt.{no_journal}
use Rattle.s38_rules.specs.state.State.{State}
use Rattle.s38_rules.specs.declared.object.Body.TheVariants as bodies
use Rattle.s38_rules.specs.declared.object.Body.{Body}
use Rattle.s38_rules.specs.declared.object.Object.{Object}

some_bytes : (e : JournalRecord) → 1 ≤ journal_entry_len e
some_bytes e = omega arith

body_few : (b : Body) → IsBody body_limit b → length (unwrap_or (journal_of b) no_journal).entries < 2 ^ 64
body_few (bodies.Journal j) is = omega (arith, length_sum journal_entry_len some_bytes j.entries, is)
body_few _ is = omega arith

object_few : (o : Option Object) → ((x : Object) → o ≡ Some x → HoldsBody body_limit x) → length (unwrap_or (part_in journal_part o) no_journal).entries < 2 ^ 64
object_few None holds = omega arith
object_few (Some o) holds = body_few o.body (holds o refl)

-- a journal space has fewer entries than sequences have numbers
last_small : (h : Held) (journal : Option ℕ) → All (HoldsBody body_limit) h.objects → last_sequence_in h journal < 2 ^ 64
last_small h None all = omega arith
last_small h (Some n) all = object_few (object h n) (λ o found. found_all (HoldsBody body_limit) h.objects n o all found)

pub whole_again : (s : State) (o : Object) → All (HoldsBody body_limit) s.held.objects → CanSettle s.units o.number.0 o.body → IsReadable o → IsImage body_limit (whole_object s o)
whole_again s o all settles again = again s.units (last_sequence_in s.held (journal_for s.held o.number.0)) (last_small s.held (journal_for s.held o.number.0) all) settles
