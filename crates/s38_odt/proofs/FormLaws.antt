-- The rows that are made are formed.
use Rattle.std.proofs.Common.{◌≡◌, ◌≤◌, ◌<◌, ◌+◌, ◌-◌, ◌/◌, ℕ, ℤ, pos, true, leb, List, [], ◌∷◌, ◌++◌, length, length-append, get_or, take, Option, Some, None, Result, Ok, Err, refl, sym, ◌∙◌, ap, subst, ⊎_elim, arith}
use Rattle.std.specs.Prelude.{◌==◌, slice_get, replicate}
use Rattle.std.specs.Option.{is_some}
use Rattle.std.proofs.lemmas.Bool.{cases_lt}
use Rattle.std.proofs.lemmas.Bool.Decides.{nat_tests}
use Rattle.std.proofs.lemmas.List.{get_or_append_left, length-replicate, take-append-le}
use Rattle.std.proofs.lemmas.List.FromFn.{length-map-range_with_len}
use Rattle.std.proofs.lemmas.Option.{get_or_from_slice_get, slice_get-get_or, slice_get_within}
use Rattle.std.proofs.Math.Seq.{get_or-append_seam, take-append_seam}
use Rattle.s38_base.specs.Exceptions as exceptions
use Rattle.s38_base.specs.Scalar.{bits_of, digit_at, fits, packed_byte, scalar_image, zoned_byte}
use Rattle.s38_base.specs.Attributes.{is_bounded}
use Rattle.s38_base.specs.declared.attr.Attr.{Attr}
use Rattle.s38_base.specs.declared.attr.Attr.TheVariants.{Packed, Zoned, Binary, Chars, Pointer}
use Rattle.s38_words.specs.DeclarationLine.{declaration_of, initial_of}
use Rattle.s38_words.specs.Literal.{text_of}
use Rattle.s38_words.specs.Number.{number_spelled}
use Rattle.s38_code.specs.declared.program.CreateFault.{CreateFault}
use Rattle.s38_code.specs.declared.program.Form.{Form}
use Rattle.s38_code.specs.declared.program.Form.TheVariants.{Local, Parm, Based, Handler}
use Rattle.s38_code.specs.declared.program.Row.{Row}
use Rattle.s38_words.specs.declared.declarations.DeclarationLine.{DeclarationLine}
use Rattle.s38_words.specs.declared.declarations.Declares.{Declares}
use Rattle.s38_words.specs.declared.declarations.Declares.TheVariants.{Variable, Parameter, BasedItem, Description}
use Rattle.s38_words.specs.declared.numbers.Numeral.{Numeral}
use Rattle.s38_odt.specs.First.{blank_filled, blank_of, either_held, initial_bytes, is_exact, number_held, text_held, units_held, units_in}
use Rattle.s38_odt.specs.Formed.{AreFormed, IsForm, first_length}
use Rattle.s38_odt.specs.Labels.{instruction_count, label_in}
use Rattle.s38_odt.specs.Table.{and_then, base_at, base_in, based_form, checked_form, form_of, handler_form, is_base_row, is_bounded_line, more_rows, new_row, parameter_count, parameter_form, place_in, row_from, row_made, row_refused, rows_from, variable_form}
use Rattle.s38_odt.proofs.LabelLemmas.{label_in-bound}
use Rattle.s38_odt.proofs.Parts.{and_then-some, if-ok, if-some, unless-ok}

-- ---- first bytes

units_held-length : (attr : Attr) (z : ℤ) (first : List ℕ) → units_held attr z ≡ Some first → length first ≡ first_length attr
unfolding fits scalar_image
units_held-length (Packed digits fraction) z first h =
    let made = (if-some (fits (Packed digits fraction) z) (Some (scalar_image (Packed digits fraction) z)) first h).1 in
    let same : scalar_image (Packed digits fraction) z ≡ first = cc in
    ap length (sym same) ∙ length-map-range_with_len (packed_byte (digits / 2) z) 0 (digits / 2 + 1)
units_held-length (Zoned digits fraction) z first h =
    let made = (if-some (fits (Zoned digits fraction) z) (Some (scalar_image (Zoned digits fraction) z)) first h).1 in
    let same : scalar_image (Zoned digits fraction) z ≡ first = cc in
    ap length (sym same) ∙ length-map-range_with_len (zoned_byte digits z) 0 digits
units_held-length (Binary size) z first h =
    let made = (if-some (fits (Binary size) z) (Some (scalar_image (Binary size) z)) first h).1 in
    let same : scalar_image (Binary size) z ≡ first = cc in
    ap length (sym same) ∙ length-map-range_with_len (λ k. digit_at 256 (bits_of size z) (size - 1 - k)) 0 size
units_held-length (Chars len) z first h = absurd (let e : None ≡ Some first = h in cc)
units_held-length Pointer z first h = absurd (let e : None ≡ Some first = h in cc)

number_held-length : (attr : Attr) (n : Numeral) (first : List ℕ) → number_held attr n ≡ Some first → length first ≡ first_length attr
unfolding number_held
number_held-length attr n first h =
    units_held-length attr (units_in attr n) first (if-some (is_exact attr n) (units_held attr (units_in attr n)) first h).1

filled-length : (len : ℕ) (bytes : List ℕ) → length bytes ≤ len → length (blank_filled len bytes) ≡ len
filled-length len bytes h =
    let tail : List ℕ = replicate (len - length bytes) 64 in
    let pad : length tail ≡ len - length bytes = length-replicate {A = ℕ} (len - length bytes) 64 in
    omega (arith, length-append bytes tail, pad)

text_held-length : (attr : Attr) (bytes first : List ℕ) → text_held attr bytes ≡ Some first → length first ≡ first_length attr
text_held-length (Packed digits fraction) bytes first h = absurd (let e : None ≡ Some first = h in cc)
text_held-length (Zoned digits fraction) bytes first h = absurd (let e : None ≡ Some first = h in cc)
text_held-length (Binary size) bytes first h = absurd (let e : None ≡ Some first = h in cc)
text_held-length (Chars len) bytes first h =
    let made = if-some (leb (length bytes) len) (Some (blank_filled len bytes)) first h in
    let test : leb (length bytes) len ≡ true = made.0 in
    let few : length bytes ≤ len = grind (arith, nat_tests) in
    let taken = made.1 in
    let same : blank_filled len bytes ≡ first = cc in
    ap length (sym same) ∙ filled-length len bytes few
text_held-length Pointer bytes first h = absurd (let e : None ≡ Some first = h in cc)

blank_of-length : (attr : Attr) (first : List ℕ) → blank_of attr ≡ Some first → length first ≡ first_length attr
blank_of-length (Packed digits fraction) first h = units_held-length (Packed digits fraction) (pos 0) first h
blank_of-length (Zoned digits fraction) first h = units_held-length (Zoned digits fraction) (pos 0) first h
blank_of-length (Binary size) first h = units_held-length (Binary size) (pos 0) first h
blank_of-length (Chars len) first h = let same : replicate len 64 ≡ first = cc in ap length (sym same) ∙ length-replicate len 64
blank_of-length Pointer first h = let same : [] ≡ first = cc in ap length (sym same)

either_held-length : (attr : Attr) (n : Option Numeral) (text : Option (List ℕ)) (first : List ℕ) → either_held attr n text ≡ Some first → length first ≡ first_length attr
either_held-length attr (Some n) text first h = number_held-length attr n first h
either_held-length attr None text first h = let held = and_then-some (text_held attr) text first h in text_held-length attr held.0 first held.2

first_of-length : (attr : Attr) (literal : Option (List ℕ)) (first : List ℕ) → initial_bytes attr literal ≡ Some first → length first ≡ first_length attr
first_of-length attr None first h = blank_of-length attr first h
first_of-length attr (Some literal) first h = either_held-length attr (number_spelled literal) (text_of literal) first h

-- ---- forms

variable_form-formed : (count : ℕ) (rows : List Row) (attr : Attr) (begun : Option (List ℕ)) (form : Form) → is_bounded attr ≡ true →
    ((first : List ℕ) → begun ≡ Some first → length first ≡ first_length attr) → variable_form attr begun ≡ Ok form → IsForm count rows form
variable_form-formed count rows attr None form bounded long h = absurd (let e : Err exceptions.declaration_invalid ≡ Ok form = h in cc)
variable_form-formed count rows attr (Some first) form bounded long h =
    let same : Local attr first ≡ form = cc in
    let P : Form → Type 0 = λ f. IsForm count rows f in
    subst P same (record { bounded = bounded; begun = long first refl })

parameter_form-formed : (count : ℕ) (rows : List Row) (k : ℕ) (attr : Attr) (form : Form) → is_bounded attr ≡ true → k ≤ 16 →
    parameter_form rows k attr ≡ Ok form → IsForm count rows form
parameter_form-formed count rows k attr form bounded few h =
    let made = if-ok (k == parameter_count rows + 1) (Ok (Parm k attr)) exceptions.name_invalid form h in
    let test : (k == parameter_count rows + 1) ≡ true = made.0 in
    let next : k ≡ parameter_count rows + 1 = grind (arith, nat_tests) in
    let taken = made.1 in
    let same : Parm k attr ≡ form = cc in
    let P : Form → Type 0 = λ f. IsForm count rows f in
    subst P same (record { bounded = bounded; few = few; next = next })

based_form-formed : (count : ℕ) (rows : List Row) (offset : ℕ) (attr : Attr) (base : Option ℕ) (form : Form) → is_bounded attr ≡ true → offset ≤ 16777216 →
    ((k : ℕ) → base ≡ Some k → is_base_row (slice_get rows k) ≡ true) → based_form offset attr base ≡ Ok form → IsForm count rows form
based_form-formed count rows offset attr None form bounded near is h = absurd (let e : Err exceptions.name_invalid ≡ Ok form = h in cc)
based_form-formed count rows offset attr (Some k) form bounded near is h =
    let same : Based k offset attr ≡ form = cc in
    let P : Form → Type 0 = λ f. IsForm count rows f in
    subst P same (record { bounded = bounded; near = near; declared = is k refl })

handler_form-formed : (count : ℕ) (rows : List Row) (taken place : Option ℕ) (form : Form) →
    ((at : ℕ) → place ≡ Some at → at ≤ count) → handler_form taken place ≡ Ok form → IsForm count rows form
handler_form-formed count rows taken None form within h = absurd (let e : Err exceptions.name_invalid ≡ Ok form = h in cc)
handler_form-formed count rows taken (Some at) form within h =
    let same : Handler taken at ≡ form = cc in
    let P : Form → Type 0 = λ f. IsForm count rows f in
    subst P same (within at refl)

base_in-is : (rows : List Row) (name : List ℕ) (k : ℕ) → base_in rows name ≡ Some k → is_base_row (slice_get rows k) ≡ true
base_in-is rows name k h =
    let at = and_then-some (base_at rows) (place_in rows name) k h in
    let made = if-some (is_base_row (slice_get rows at.0)) (Some at.0) k at.2 in
    let taken = made.1 in
    let same : at.0 ≡ k = cc in
    let P : ℕ → Type 0 = λ n. is_base_row (slice_get rows n) ≡ true in
    subst P same made.0

form_of-formed : (code : List (List ℕ)) (rows : List Row) (literal : Option (List ℕ)) (declares : Declares) (form : Form) →
    is_bounded_line declares ≡ true → form_of code rows literal declares ≡ Ok form → IsForm (instruction_count code) rows form
unfolding form_of
form_of-formed code rows literal (Variable attr) form bounded h =
    variable_form-formed (instruction_count code) rows attr (initial_bytes attr literal) form bounded (λ first e. first_of-length attr literal first e) h
form_of-formed code rows literal (Parameter k attr) form bounded h =
    let few : k ≤ 16 = grind (arith, nat_tests) in
    let attr_bounded : is_bounded attr ≡ true = grind arith in
    parameter_form-formed (instruction_count code) rows k attr form attr_bounded few h
form_of-formed code rows literal (BasedItem base offset attr) form bounded h =
    let near : offset ≤ 16777216 = grind (arith, nat_tests) in
    let attr_bounded : is_bounded attr ≡ true = grind arith in
    based_form-formed (instruction_count code) rows offset attr (base_in rows base) form attr_bounded near (λ k e. base_in-is rows base k e) h
form_of-formed code rows literal (Description taken label) form bounded h =
    handler_form-formed (instruction_count code) rows taken (label_in code label) form (λ at e. label_in-bound code label at e) h

-- ---- rows

new_row-formed : (count : ℕ) (rows : List Row) (name : List ℕ) (made : Result Form ℕ) (row : Row) →
    ((form : Form) → made ≡ Ok form → IsForm count rows form) → new_row rows name made ≡ Ok row → IsForm count rows row.form
new_row-formed count rows name (Err cause) row formed h = absurd (let e : Err cause ≡ Ok row = h in cc)
new_row-formed count rows name (Ok form) row formed h =
    let parts = unless-ok (is_some (place_in rows name)) (Ok (record { name = name; form = form })) exceptions.name_invalid row h in
    let taken = parts.1 in
    let same : record { name = name; form = form } ≡ row = cc in
    let P : Row → Type 0 = λ r. IsForm count rows r.form in
    subst P same (formed form refl)

row_from-formed : (code : List (List ℕ)) (rows : List Row) (literal : Option (List ℕ)) (line : Option DeclarationLine) (row : Row) →
    row_from code rows literal line ≡ Ok row → IsForm (instruction_count code) rows row.form
row_from-formed code rows literal None row h = absurd (let e : Err exceptions.declaration_invalid ≡ Ok row = h in cc)
row_from-formed code rows literal (Some line) row h =
    new_row-formed (instruction_count code) rows line.name (checked_form code rows literal line.declares) row
    (λ form e. let checked = if-ok (is_bounded_line line.declares) (form_of code rows literal line.declares) exceptions.declaration_invalid form e in
    form_of-formed code rows literal line.declares form checked.0 checked.1) h

row_of-formed : (code : List (List ℕ)) (rows : List Row) (line : List ℕ) (row : Row) → row_made code rows line ≡ Ok row → IsForm (instruction_count code) rows row.form
unfolding row_made
row_of-formed code rows line row h = row_from-formed code rows (initial_of line) (declaration_of line) row h

AreFormed-none : (count : ℕ) → AreFormed count []
AreFormed-none count = record { each = λ k row h. absurd (let within : k < 0 = slice_get_within [] k row h in omega arith) }

AreFormed-push : (count : ℕ) (rows : List Row) (row : Row) → AreFormed count rows → IsForm count rows row.form → AreFormed count (rows ++ row ∷ [])
AreFormed-push count rows row formed one = record {
  each = λ k r h.
      let within : k < length (rows ++ row ∷ []) = slice_get_within (rows ++ row ∷ []) k r h in
      let read : get_or (rows ++ row ∷ []) k r ≡ r = get_or_from_slice_get (rows ++ row ∷ []) k r r h in
      let P : List Row → Type 0 = λ front. IsForm count front r.form in
      ⊎_elim
      (λ below.
      let old : get_or rows k r ≡ r = sym (get_or_append_left rows (row ∷ []) r k below) ∙ read in
      let found : slice_get rows k ≡ Some r = slice_get-get_or rows k r below ∙ ap (λ x. Some x) old in
      subst P (sym (take-append-le k rows (row ∷ []) (omega arith))) (formed.each k r found))
      (λ above.
      let last : length rows ≡ k = omega (arith, length-append rows (row ∷ [])) in
      let same : row ≡ r = sym (get_or-append_seam rows row [] r) ∙ (ap (λ n. get_or (rows ++ row ∷ []) n r) last ∙ read) in
      let front : rows ≡ take k (rows ++ row ∷ []) = sym (take-append_seam rows (row ∷ [])) ∙ ap (λ n. take n (rows ++ row ∷ [])) last in
      let Q : Row → Type 0 = λ x. IsForm count rows x.form in
      subst P front (subst Q same one))
      (cases_lt k (length rows));
}

more_rows-ok : (rows : List Row) (made : Result Row ℕ) (next : List Row → Result (List Row) CreateFault) (out : List Row) →
    and_then (more_rows rows made) next ≡ Ok out → (row : Row) × (made ≡ Ok row) × (next (rows ++ row ∷ []) ≡ Ok out)
more_rows-ok rows (Err cause) next out h = absurd (let e : Err (row_refused rows cause) ≡ Ok out = h in cc)
more_rows-ok rows (Ok row) next out h = (row, refl, h)

-- the rows of all lines are formed, and each line makes one
pub rows_from-formed : (code : List (List ℕ)) (rows : List Row) (lines : List (List ℕ)) (out : List Row) →
    AreFormed (instruction_count code) rows → rows_from code rows lines ≡ Ok out →
    AreFormed (instruction_count code) out × (length out ≡ length rows + length lines)
rows_from-formed code rows [] out formed h =
    let same : rows ≡ out = cc in
    let P : List Row → Type 0 = λ xs. AreFormed (instruction_count code) xs in
    (subst P same formed, omega (arith, ap length same))
rows_from-formed code rows (line ∷ lines) out formed h =
    let step = more_rows-ok rows (row_made code rows line) (λ more. rows_from code more lines) out h in
    let pushed = AreFormed-push (instruction_count code) rows step.0 formed (row_of-formed code rows line step.0 step.1) in
    let rest = rows_from-formed code (rows ++ step.0 ∷ []) lines out pushed step.2 in
    (rest.0, omega (arith, rest.1, length-append rows (step.0 ∷ [])))

pub rows_of-formed : (code lines : List (List ℕ)) (out : List Row) → rows_from code [] lines ≡ Ok out →
    AreFormed (instruction_count code) out × (length out ≡ length lines)
rows_of-formed code lines out h =
    let all = rows_from-formed code [] lines out (AreFormed-none (instruction_count code)) h in
    (all.0, omega (arith, all.1))
