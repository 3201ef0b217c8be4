-- What each group holds by itself, where its header is looked at beside the others.
use Rattle.std.specs.Prelude.{ℕ, Bool, false, ◌==◌, List, [], ◌∷◌, Option, Some, None, Result, Ok, Err, filter_map, nat_lt, if◌then◌else◌}
use Rattle.std.specs.BTreeSet.{BTreeSet, contains}
use Rattle.std.specs.List.{list_any}
use Rattle.s38_image.specs.Faults.{Group, header_at, is_bad_body, is_bad_header, is_same_in, sound}
use Rattle.s38_image.specs.Images.{object_of_parts}
use Rattle.s38_image.specs.PartPlaces.{body_part}
use Rattle.s38_image.specs.declared.header.Header.{Header}
use Rattle.s38_image.specs.declared.stored.Stored.{Stored}
use Rattle.s38_rules.specs.declared.object.Object.{Object}
use Rattle.s38_objects.specs.NameOrder.{key, name_cmp}
use Rattle.s38_objects.specs.declared.name_key.NameKey.{NameKey}

-- ---- identifications

abbrev pub is_entered : BTreeSet NameKey → Option Header → Bool
is_entered names None = false
is_entered names (Some h) = contains name_cmp names (key h.context.0 h.id)

abbrev pub repeats_in : List Group → ℕ → Option Header → Bool
repeats_in gs n None = false
repeats_in gs n (Some h) = list_any (is_same_in n h) gs

-- a lower group has its identification in its context
abbrev pub is_repeated : List Group → Group → Bool
is_repeated gs g = repeats_in gs g.number (header_at g)

-- ---- what is read

abbrev pub outcome_by : List Group → ℕ → ℕ → Option Header → Result Stored ℕ → Result Stored ℕ
outcome_by gs ceiling n None read = Err 0
outcome_by gs ceiling n (Some h) read = if is_bad_header gs ceiling n h then Err 0 else read

-- the object of a group, or its first part at fault, where its body is not looked at beside the others
abbrev pub outcome : List Group → ℕ → ℕ → Group → Result Stored ℕ
outcome gs limit ceiling g = outcome_by gs ceiling g.number (header_at g) (object_of_parts limit g.number g.parts)

-- all objects of some groups that have no fault by themselves, in the order of the groups
abbrev pub all_sound : List Group → ℕ → ℕ → List Stored
all_sound gs limit ceiling = filter_map (sound gs limit ceiling) gs

abbrev pub stored_number : Stored → ℕ
stored_number s = s.object.number.0

abbrev pub is_object : ℕ → Stored → Bool
is_object n s = stored_number s == n

abbrev pub object_in_stored : Stored → Object
object_in_stored s = s.object

-- ---- faults

abbrev pub fault_in : ℕ → Result Stored ℕ → Option (ℕ × ℕ)
fault_in n (Ok s) = None
fault_in n (Err part) = Some (n, part)

-- the number of a group and its first part at fault, where its body is not looked at beside the others
abbrev pub fault_alone : List Group → ℕ → ℕ → Group → Option (ℕ × ℕ)
fault_alone gs limit ceiling g = fault_in g.number (outcome gs limit ceiling g)

-- all these faults of some groups, in the order of the groups
abbrev pub all_faults : List Group → ℕ → ℕ → List (ℕ × ℕ)
all_faults gs limit ceiling = filter_map (fault_alone gs limit ceiling) gs

-- the first object whose body has a fault beside the others, with the first part of its body
abbrev pub first_beside : List Group → ℕ → ℕ → List Stored → Option (ℕ × ℕ)
first_beside gs limit ceiling [] = None
first_beside gs limit ceiling (s ∷ ss) = if is_bad_body gs limit ceiling s.sequence s.object.body then Some (stored_number s, body_part) else first_beside gs limit ceiling ss

-- of two faults that of the lower number, and the second where both have one number
abbrev pub lower : Option (ℕ × ℕ) → Option (ℕ × ℕ) → Option (ℕ × ℕ)
lower None second = second
lower (Some one) None = Some one
lower (Some one) (Some other) = if nat_lt one.0 other.0 then Some one else Some other

-- groups that were read, with the longest body and the ceiling of numbers
pub record Reading : Type 0 where
  pub groups : List Group
  pub limit : ℕ
  pub ceiling : ℕ
