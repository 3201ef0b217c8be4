-- Faults that show only beside the other objects of a store, and the first fault of all.
use Rattle.std.specs.Prelude.{ℕ, ◌+◌, Bool, false, ◌&&◌, ◌||◌, ◌==◌, not, List, [], ◌∷◌, length, Option, Some, None, Result, Ok, Err, find, nat_lt, nat_le, if◌then◌else◌}
use Rattle.std.specs.List.{list_all, list_any}
use Rattle.std.specs.Option.{option_and_then, option_map}
use Rattle.s38_base.specs.Ids.{same_id, same_kind}
use Rattle.s38_base.specs.Limits.{ceiling_step, last_number, machine_context}
use Rattle.s38_base.specs.declared.id.Kind.{Kind}
use Rattle.s38_base.specs.declared.id.Kind.TheVariants as kinds
use Rattle.s38_base.specs.declared.page.Change.{Change}
use Rattle.s38_codec.specs.Codec.{byte_is_zero, bytes, copies, dependent_pair, only, seen}
use Rattle.s38_codec.specs.Formats.{Spelling, all_by, u32, u64}
use Rattle.s38_image.specs.Images.{header_in_parts, leading, object_of_parts}
use Rattle.s38_image.specs.PartPlaces.{body_part, ceiling_key, rows_part}
use Rattle.s38_image.specs.Pages.{no_tags, read_parts}
use Rattle.s38_image.specs.declared.header.Header.{Header}
use Rattle.s38_image.specs.declared.stored.Stored.{Stored}
use Rattle.s38_rules.specs.state.Parts.{journal_of, port_of}
use Rattle.s38_rules.specs.families.Profiles.{officer}
use Rattle.s38_rules.specs.declared.object.Body.{Body}
use Rattle.s38_rules.specs.declared.object.Body.TheVariants as bodies
use Rattle.s38_rules.specs.declared.port.Port.{Port}

-- ---- the ceiling

-- the letters S38C
abbrev pub ceiling_mark : ℕ
ceiling_mark = 0x53333843

abbrev pub is_ceiling_mark : ℕ → Bool
is_ceiling_mark n = n == ceiling_mark

abbrev pub is_ceiling : ℕ → Bool
is_ceiling n = nat_le n (last_number + ceiling_step)

abbrev pub ceiling_by : ℕ × (ℕ × (ℕ × List ℕ)) → ℕ
ceiling_by x = x.1.1.0

abbrev pub ceiling_fields : ℕ → ℕ × (ℕ × (ℕ × List ℕ))
ceiling_fields n = (ceiling_mark, (0, (n, copies 496 0)))

-- the mark, a zero number and the ceiling; the rest of the page is zero
abbrev pub ceiling_page : Spelling ℕ
ceiling_page =
    all_by (seen ceiling_by ceiling_fields
    (dependent_pair (only is_ceiling_mark u32) (λ _. dependent_pair (only byte_is_zero u32) (λ _. dependent_pair (only is_ceiling u64) (λ _. only (λ xs. list_all byte_is_zero xs) (bytes 496))))))

-- ---- the objects of a store

-- a number with a header page, and the parts that the store has of it, in rising order
pub record Group : Type 0 where
  pub number : ℕ
  pub parts : List Change

-- its header, where it keeps to the form
abbrev pub header_at : Group → Option Header
header_at g = header_in_parts g.number (leading rows_part g.parts)

abbrev pub group_has_number : ℕ → Group → Bool
group_has_number n g = g.number == n

-- the group of a number, none where no header page is there
abbrev pub group : List Group → ℕ → Option Group
group gs n = find (group_has_number n) gs

-- the header of a number, where it is on disk and keeps to the form
abbrev pub header_of_group : List Group → ℕ → Option Header
header_of_group gs n = option_and_then header_at (group gs n)

abbrev pub header_is_of_kind : Kind → Option Header → Bool
header_is_of_kind k None = false
header_is_of_kind k (Some h) = same_kind h.id.kind k

-- what is no object of this kind, though it is on disk
abbrev pub header_is_of_other_kind : Kind → Option Header → Bool
header_is_of_other_kind k None = false
header_is_of_other_kind k (Some h) = not (same_kind h.id.kind k)

-- ---- faults of headers

abbrev pub group_is_on_disk : List Group → ℕ → Bool
group_is_on_disk gs n = list_any (group_has_number n) gs

abbrev pub has_same : Header → Option Header → Bool
has_same h None = false
has_same h (Some other) = (other.context.0 == h.context.0) && same_id other.id h.id

-- a lower object has the same identification in the same context
abbrev pub is_same_in : ℕ → Header → Group → Bool
is_same_in number h g = nat_lt g.number number && has_same h (header_at g)

abbrev pub is_twice : List Group → ℕ → Header → Bool
is_twice gs number h = group_is_on_disk gs h.context.0 && list_any (is_same_in number h) gs

-- contexts and profiles are in the machine context
abbrev pub is_outside : Header → Bool
is_outside h = (same_kind h.id.kind kinds.Context || same_kind h.id.kind kinds.Profile) && not (h.context.0 == machine_context)

-- the context is above the ceiling, or an object of another kind
abbrev pub is_no_context : List Group → ℕ → Header → Bool
is_no_context gs ceiling h = nat_lt ceiling h.context.0 || header_is_of_other_kind kinds.Context (header_of_group gs h.context.0)

abbrev pub is_bad_header : List Group → ℕ → ℕ → Header → Bool
is_bad_header gs ceiling number h =
    (nat_lt ceiling number || not (header_is_of_kind kinds.Profile (header_of_group gs h.owner.0)))
    || (is_twice gs number h || (is_outside h || is_no_context gs ceiling h))

-- ---- faults of bodies

abbrev pub sound_by : List Group → ℕ → ℕ → Group → Option Header → Result Stored ℕ → Option Stored
sound_by gs limit ceiling g None read = None
sound_by gs limit ceiling g (Some h) (Err part) = None
sound_by gs limit ceiling g (Some h) (Ok s) = if is_bad_header gs ceiling g.number h then None else Some s

-- what a group holds, where its header and its own parts have no fault
abbrev pub sound : List Group → ℕ → ℕ → Group → Option Stored
sound gs limit ceiling g = sound_by gs limit ceiling g (header_at g) (object_of_parts limit g.number g.parts)

-- the same of a number
abbrev pub sound_at : List Group → ℕ → ℕ → ℕ → Option Stored
sound_at gs limit ceiling n = option_and_then (sound gs limit ceiling) (group gs n)

abbrev pub port_named : Stored → Option Port
port_named s = port_of s.object.body

abbrev pub last_in : Stored → Option ℕ
last_in s = option_map (λ j. length j.entries) (journal_of s.object.body)

-- the last sequence of the journal space that a port names, where both are there, of their kinds and without fault
abbrev pub last_of_port : List Group → ℕ → ℕ → ℕ → Option ℕ
last_of_port gs limit ceiling port =
    option_and_then last_in (option_and_then (λ p. sound_at gs limit ceiling p.journal.0) (option_and_then port_named (sound_at gs limit ceiling port)))

abbrev pub is_past : ℕ → Option ℕ → Bool
is_past sequence None = false
is_past sequence (Some last) = nat_lt last sequence

-- a data space whose port is above the ceiling, or whose sequence is past the journal space's last; a port whose journal
-- space is above the ceiling
abbrev pub is_bad_body : List Group → ℕ → ℕ → ℕ → Body → Bool
is_bad_body gs limit ceiling sequence (bodies.DataSpace d) = nat_lt ceiling d.port.0 || is_past sequence (last_of_port gs limit ceiling d.port.0)
is_bad_body gs limit ceiling sequence (bodies.Port p) = nat_lt ceiling p.journal.0
is_bad_body gs limit ceiling sequence _ = false

-- ---- the first fault

abbrev pub fault_after : List Group → ℕ → ℕ → Result Stored ℕ → Option ℕ
fault_after gs limit ceiling (Err part) = Some part
fault_after gs limit ceiling (Ok s) = if is_bad_body gs limit ceiling s.sequence s.object.body then Some body_part else None

abbrev pub fault_by : List Group → ℕ → ℕ → Group → Option Header → Option ℕ
fault_by gs limit ceiling g None = Some 0
fault_by gs limit ceiling g (Some h) = if is_bad_header gs ceiling g.number h then Some 0 else fault_after gs limit ceiling (object_of_parts limit g.number g.parts)

-- the first part of an object at fault: header, missing page, rows, body
abbrev pub fault_of : List Group → ℕ → ℕ → Group → Option ℕ
fault_of gs limit ceiling g = fault_by gs limit ceiling g (header_at g)

abbrev pub or_next : ℕ → Option ℕ → Option (ℕ × ℕ) → Option (ℕ × ℕ)
or_next number None next = next
or_next number (Some part) next = Some (number, part)

-- the least object with a fault, and its first part at fault
abbrev pub first_fault_of : List Group → ℕ → ℕ → List Group → Option (ℕ × ℕ)
first_fault_of gs limit ceiling [] = None
first_fault_of gs limit ceiling (g ∷ rest) = or_next g.number (fault_of gs limit ceiling g) (first_fault_of gs limit ceiling rest)

-- the first user is there: its header page, and no header of an object of another kind in its place
abbrev pub has_first_user : List Group → Bool
has_first_user gs = group_is_on_disk gs officer && not (header_is_of_other_kind kinds.Profile (header_of_group gs officer))

-- the machine context and the first user come before all
abbrev pub first_under : List Group → ℕ → ℕ → Option (ℕ × ℕ)
first_under gs limit ceiling =
    if not (group_is_on_disk gs machine_context) then Some (machine_context, 0)
    else (if not (has_first_user gs) then Some (officer, 0) else first_fault_of gs limit ceiling gs)

abbrev pub first_fault_by : List Group → ℕ → Option ℕ → Option (ℕ × ℕ)
first_fault_by gs limit None = Some (ceiling_key, 0)
first_fault_by gs limit (Some n) = first_under gs limit n

-- the ceiling of the store's parts of that number, from part 0 alone
abbrev pub ceiling_in : List Change → Option ℕ
ceiling_in parts = read_parts ceiling_key 0 ceiling_page (no_tags ceiling_page) 512 (leading rows_part parts)

-- the first fault of a store: its object and its part; none where the store can be restarted
unfoldable pub store_fault : ℕ → List Change → List Group → Option (ℕ × ℕ)
store_fault limit ceiling_parts gs = first_fault_by gs limit (ceiling_in ceiling_parts)
