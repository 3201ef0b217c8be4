-- What readers meet on their way: pieces of formats, and tests between one value and the next.
use Rattle.std.specs.Prelude.{ℕ, Bool, true, ◌&&◌, ◌==◌, List, [], ◌∷◌, Option, Some, None, length, map, if◌then◌else◌}
use Rattle.s38_base.specs.declared.words.Relation.TheVariants.{Lo}
use Rattle.s38_codec.specs.Codec.{Codec, byte, byte_is_zero, dependent_pair, ◌>>=◌}
use Rattle.s38_codec.specs.Formats.{Spelling}
use Rattle.s38_base.specs.declared.page.Change.{Change}
use Rattle.s38_image.specs.Bodies.{BodyImage}
use Rattle.s38_image.specs.Pages.{same_list, tagged_right, tags_in}
use Rattle.s38_image.specs.Spaces.{is_tagged, tag_numbers}
use Rattle.s38_rules.specs.declared.object.Body.{Body}
use Rattle.s38_rules.specs.declared.object.Body.TheVariants as bodies
use Rattle.s38_base.specs.declared.id.Kind.{Kind}
use Rattle.s38_base.specs.declared.id.Kind.TheVariants as kinds
use Rattle.std.specs.List.{list_all}
use Rattle.s38_dataspaces.specs.Entries as slots
use Rattle.s38_image.specs.DataSpaces.{DataParts}
use Rattle.s38_indexes.specs.Entries.{IndexEntry, is_in_relation}
use Rattle.s38_journals.specs.Entries as journaled
use Rattle.s38_journals.specs.Entries.{journal_entry_len, may_be_at}
use Rattle.s38_journals.specs.Journals.{JournalList}
use Rattle.s38_rules.specs.declared.data_body.DataBody.{DataBody}

abbrev pub three_bytes : Codec (ℕ × (ℕ × ℕ))
three_bytes = dependent_pair byte (λ _. dependent_pair byte (λ _. byte))

-- ---- an index

abbrev pub last_of : List IndexEntry → Option IndexEntry
last_of [] = None
last_of (entry ∷ []) = Some entry
last_of (entry ∷ next ∷ entries) = last_of (next ∷ entries)

-- an entry comes after the one before it, if there is one
abbrev pub is_after : Option IndexEntry → IndexEntry → Bool
is_after None entry = true
is_after (Some previous) entry = is_in_relation Lo entry previous

-- ---- a journal space

-- an entry that may have a sequence, after what is said of its length and its sequence
abbrev pub has_entry : ℕ → ℕ → ℕ → journaled.JournalRecord → Bool
has_entry sequence len said e = ((len == journal_entry_len e) && (said == sequence)) && may_be_at sequence e

-- a journal whose entries are all forced, and which has no room that was taken before
abbrev pub journal_of : List journaled.JournalRecord → JournalList
journal_of entries = record { spare = 0; unforced = 0; entries = entries }

-- ---- a data space

-- an entry, or None where it is deleted
abbrev pub slot_value : Bool → List ℕ → slots.DataEntry
slot_value stands entry = if stands then Some entry else None

abbrev pub data_parts : DataBody → ℕ → DataParts
data_parts d sequence = (d.port.0, (sequence, (d.space.fields, d.space.entries)))

-- ---- a value in some parts

-- the value that all bytes of some parts hold, where the parts have its tags
abbrev pub read_tagged : {A : Type 0} → Spelling A → (A → List ℕ) → List Change → List ℕ → Option A
read_tagged s tags_of parts bytes = s.read bytes >>= λ x. tagged_right tags_of (tags_in parts) x

-- ---- a body

abbrev pub body_image : Body → ℕ → BodyImage
body_image b sequence = record { body = b; sequence = sequence }

-- the tags of a body's pages: of a space those of its cells, else none
abbrev pub has_tags : Kind → Body → List ℕ → Bool
has_tags kinds.Space (bodies.Space cells) tags = same_list (tag_numbers (length tags) (map is_tagged cells)) tags
has_tags _ _ tags = list_all byte_is_zero tags
