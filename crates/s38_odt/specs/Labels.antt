-- The lines of a program's code: its labels, and their places.
use Rattle.std.specs.Prelude.{◌≡◌, ℕ, ◌+◌, Bool, true, false, not, List, [], ◌∷◌, Option, Some, None, is_some, if◌then◌else◌}
use Rattle.std.specs.List.{count_by}
use Rattle.std.specs.Option.{option_map_or}
use Rattle.std.specs.Ordering.{nat_cmp}
use Rattle.std.specs.Str.{bytes_eq}
use Rattle.std.specs.Cmp.Lexicographic.{slice_cmp}
use Rattle.std.specs.BTreeMap.{BTreeMap, get}
use Rattle.s38_words.specs.ProgramLine.{label_spelled}

-- ---- labels

abbrev pub is_label : List ℕ → Bool
is_label line = is_some (label_spelled line)

-- the line is the label of this name
abbrev pub is_labelled : List ℕ → List ℕ → Bool
is_labelled name line = option_map_or (λ label. bytes_eq label name) (label_spelled line) false

-- the place after a line: labels are not counted
abbrev pub place_after : ℕ → List ℕ → ℕ
place_after at line = if is_label line then at else at + 1

-- the place of the first label of this name, where the code begins at a place
abbrev pub label_from : ℕ → List (List ℕ) → List ℕ → Option ℕ
label_from at [] name = None
label_from at (line ∷ lines) name = if is_labelled name line then Some at else label_from (place_after at line) lines name

-- the place of a label: the number of the instruction before which it is, from 0 on
unfoldable pub label_in : List (List ℕ) → List ℕ → Option ℕ
label_in code name = label_from 0 code name

abbrev pub is_instruction_line : List ℕ → Bool
is_instruction_line line = not (is_label line)

-- how many instructions the code has: labels are not counted
abbrev pub instruction_count : List (List ℕ) → ℕ
instruction_count code = count_by is_instruction_line code

-- ---- a map from labels to places, beside the code of which it speaks

-- a map in which this name is entered, unless one of that name was there
abbrev pub with_label : Option ℕ → Bool → ℕ → Option ℕ
with_label (Some old) is_name n = Some old
with_label None true n = Some n
with_label None false n = None

pub record EntersNew (old new : BTreeMap (List ℕ) ℕ) (name : List ℕ) (n : ℕ) : Type 0 where
  pub each : (q : List ℕ) → get (slice_cmp nat_cmp) new q ≡ with_label (get (slice_cmp nat_cmp) old q) (bytes_eq name q) n

-- the map gives the place of each label
pub record HasLabels (code : List (List ℕ)) (labels : BTreeMap (List ℕ) ℕ) : Type 0 where
  pub place : (name : List ℕ) → get (slice_cmp nat_cmp) labels name ≡ label_in code name
