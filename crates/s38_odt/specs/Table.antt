-- The declarations of a program: each line is checked against the rows before it.
use Rattle.std.specs.Prelude.{ℕ, ◌+◌, ◌==◌, Bool, true, false, ◌&&◌, List, [], ◌∷◌, ◌++◌, length, slice_get, Option, Some, None, is_some, Result, Ok, Err, if◌then◌else◌}
use Rattle.std.specs.List.{count_by, position_from}
use Rattle.std.specs.Option.{option_and_then}
use Rattle.std.specs.Str.{bytes_eq}
use Rattle.s38_base.specs.NameText.{is_name}
use Rattle.s38_base.specs.Exceptions as exceptions
use Rattle.s38_base.specs.Attributes.{is_bounded, is_pointer_attr}
use Rattle.s38_base.specs.declared.attr.Attr.{Attr}
use Rattle.s38_words.specs.DeclarationLine.{declaration_of, initial_of, is_in_range}
use Rattle.s38_code.specs.declared.program.CreateFault.{CreateFault}
use Rattle.s38_code.specs.declared.program.CreateFault.TheVariants.{Bad}
use Rattle.s38_code.specs.declared.program.Form.{Form}
use Rattle.s38_code.specs.declared.program.Form.TheVariants.{Local, Parm, Based, Handler}
use Rattle.s38_code.specs.declared.program.Row.{Row}
use Rattle.s38_words.specs.declared.declarations.DeclarationLine.{DeclarationLine}
use Rattle.s38_words.specs.declared.declarations.Declares.{Declares}
use Rattle.s38_words.specs.declared.declarations.Declares.TheVariants.{Variable, Parameter, BasedItem, Description}
use Rattle.s38_odt.specs.First.{initial_bytes}
use Rattle.s38_odt.specs.Labels.{label_in}

-- ---- names

-- the place of a name among rows, from 0 on
unfoldable pub place_in : List Row → List ℕ → Option ℕ
place_in rows name = position_from (λ row. bytes_eq row.name name) 0 rows

-- the number of the item that a word names
abbrev pub item_of : List Row → List ℕ → Option ℕ
item_of rows word = if is_name word then place_in rows word else None

-- ---- bases

-- a variable or a parameter that holds a pointer
abbrev pub is_base_form : Form → Bool
is_base_form (Local attr first) = is_pointer_attr attr
is_base_form (Parm k attr) = is_pointer_attr attr
is_base_form (Based base offset attr) = false
is_base_form (Handler code at) = false

abbrev pub is_base_row : Option Row → Bool
is_base_row None = false
is_base_row (Some row) = is_base_form row.form

abbrev pub base_at : List Row → ℕ → Option ℕ
base_at rows k = if is_base_row (slice_get rows k) then Some k else None

-- the number of the base that a name is
abbrev pub base_in : List Row → List ℕ → Option ℕ
base_in rows name = option_and_then (base_at rows) (place_in rows name)

-- ---- parameters

abbrev pub is_parameter : Form → Bool
is_parameter (Local attr first) = false
is_parameter (Parm k attr) = true
is_parameter (Based base offset attr) = false
is_parameter (Handler code at) = false

-- how many of these rows are parameters
abbrev pub parameter_count : List Row → ℕ
parameter_count rows = count_by (λ row. is_parameter row.form) rows

-- ---- one declaration

-- its attribute keeps its bounds, and its numbers their ranges
abbrev pub attribute_bounded : Declares → Bool
attribute_bounded (Variable attr) = is_bounded attr
attribute_bounded (Parameter k attr) = is_bounded attr
attribute_bounded (BasedItem base offset attr) = is_bounded attr
attribute_bounded (Description code label) = true

abbrev pub is_bounded_line : Declares → Bool
is_bounded_line declares = is_in_range declares && attribute_bounded declares

abbrev pub variable_form : Attr → Option (List ℕ) → Result Form ℕ
variable_form attr None = Err exceptions.declaration_invalid
variable_form attr (Some first) = Ok (Local attr first)

-- parameters are numbered from 1 on in the order of their declarations
abbrev pub parameter_form : List Row → ℕ → Attr → Result Form ℕ
parameter_form rows k attr = if k == parameter_count rows + 1 then Ok (Parm k attr) else Err exceptions.name_invalid

abbrev pub based_form : ℕ → Attr → Option ℕ → Result Form ℕ
based_form offset attr None = Err exceptions.name_invalid
based_form offset attr (Some base) = Ok (Based base offset attr)

-- the code of the exception that is taken, and the place at which control goes on
abbrev pub handler_form : Option ℕ → Option ℕ → Result Form ℕ
handler_form taken None = Err exceptions.name_invalid
handler_form taken (Some at) = Ok (Handler taken at)

-- what a bounded line makes of its name, before these lines of code
unfoldable pub form_of : List (List ℕ) → List Row → Option (List ℕ) → Declares → Result Form ℕ
form_of code rows literal (Variable attr) = variable_form attr (initial_bytes attr literal)
form_of code rows literal (Parameter k attr) = parameter_form rows k attr
form_of code rows literal (BasedItem base offset attr) = based_form offset attr (base_in rows base)
form_of code rows literal (Description taken label) = handler_form taken (label_in code label)

abbrev pub checked_form : List (List ℕ) → List Row → Option (List ℕ) → Declares → Result Form ℕ
checked_form code rows literal declares = if is_bounded_line declares then form_of code rows literal declares else Err exceptions.declaration_invalid

-- the row, if its name is new
abbrev pub new_row : List Row → List ℕ → Result Form ℕ → Result Row ℕ
new_row rows name (Err cause) = Err cause
new_row rows name (Ok form) = if is_some (place_in rows name) then Err exceptions.name_invalid else Ok (record { name = name; form = form })

abbrev pub row_from : List (List ℕ) → List Row → Option (List ℕ) → Option DeclarationLine → Result Row ℕ
row_from code rows literal None = Err exceptions.declaration_invalid
row_from code rows literal (Some line) = new_row rows line.name (checked_form code rows literal line.declares)

-- the row that a line makes after these rows and before these lines of code, or the cause for which it is refused
unfoldable pub row_made : List (List ℕ) → List Row → List ℕ → Result Row ℕ
row_made code rows line = row_from code rows (initial_of line) (declaration_of line)

-- ---- all declarations

abbrev pub row_refused : List Row → ℕ → CreateFault
row_refused rows cause = Bad cause (length rows + 1)

-- the rows so far and one more, or the fault with the number of its declaration
abbrev pub more_rows : List Row → Result Row ℕ → Result (List Row) CreateFault
more_rows rows (Err cause) = Err (row_refused rows cause)
more_rows rows (Ok row) = Ok (rows ++ row ∷ [])

abbrev pub and_then : Result (List Row) CreateFault → (List Row → Result (List Row) CreateFault) → Result (List Row) CreateFault
and_then (Err fault) next = Err fault
and_then (Ok rows) next = next rows

-- the rows so far and those of further lines, up to the first bad one
abbrev pub rows_from : List (List ℕ) → List Row → List (List ℕ) → Result (List Row) CreateFault
rows_from code rows [] = Ok rows
rows_from code rows (line ∷ lines) = and_then (more_rows rows (row_made code rows line)) (λ more. rows_from code more lines)

-- the rows of all declarations before these lines of code, or the first bad one
unfoldable pub rows_of : List (List ℕ) → List (List ℕ) → Result (List Row) CreateFault
rows_of code lines = rows_from code [] lines
