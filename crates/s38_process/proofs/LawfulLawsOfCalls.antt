-- How invocations begin: each variable holds what its declaration says, and each parameter lies where its argument does.
use Rattle.std.proofs.Common.{◌≡◌, ℕ, zero, suc, ◌+◌, ◌-◌, ◌*◌, ◌^◌, ◌<◌, ◌≤◌, true, List, [], ◌∷◌, ◌++◌, length, take, pos, refl, sym, ◌∙◌, ap, subst, arith, length-append}
use Rattle.std.proofs.lemmas.Bool.{and_from}
use Rattle.std.proofs.lemmas.Bool.Decides.{nat_tests}
use Rattle.std.proofs.lemmas.List.{length-map, length-replicate, length-take-le, map-append, take-append-le, take-map}
use Rattle.std.proofs.lemmas.List.Elements.{All-nil}
use Rattle.std.proofs.lemmas.List.FromFn.{length-map-range_with_len}
use Rattle.std.proofs.lemmas.List.Sums.{sum_by-cons}
use Rattle.std.proofs.lemmas.Option.{slice_get_within}
use Rattle.std.proofs.Math.Nat.{one-le-pow}
use Rattle.std.proofs.Math.Seq.{take-append_seam}
use Rattle.std.specs.Prelude.{Option, Some, None, IsTrue, slice_get, nat_lt, unwrap_or, ◌==◌, ◌||◌, ◌/◌, if◌then◌else◌}
use Rattle.std.specs.List.{list_all, range_with_len}
use Rattle.s38_base.specs.declared.attr.Attr.{Attr}
use Rattle.s38_base.specs.declared.attr.Attr.TheVariants.{Packed, Zoned, Binary, Chars, Pointer}
use Rattle.s38_base.specs.Scalar.{bits_of, digit_at, fits, packed_byte, scalar_image, zoned_byte}
use Rattle.s38_base.specs.Attributes.{are_digit_counts, is_bounded, length_of}
use Rattle.s38_code.specs.declared.made.CreateResult.{CreateResult}
use Rattle.s38_code.specs.declared.made.CreateResult.TheVariants.{Created}
use Rattle.s38_code.specs.declared.program.Arg.{Arg}
use Rattle.s38_code.specs.declared.program.Arg.TheVariants.{Item}
use Rattle.s38_code.specs.declared.program.Form.{Form}
use Rattle.s38_code.specs.declared.program.Form.TheVariants.{Local, Parm, Based, Handler}
use Rattle.s38_code.specs.declared.program.Program.{Program}
use Rattle.s38_code.specs.declared.program.Row.{Row}
use Rattle.s38_code.specs.declared.reply.Val.{Val}
use Rattle.s38_local.specs.Law.{HasShape, Shape, shape_at, shape_for, shape_of, shapes_of}
use Rattle.s38_local.specs.Law.Shape.{OfBytes}
use Rattle.s38_local.specs.Variables.{item_place}
use Rattle.s38_odt.specs.First.{units_held}
use Rattle.s38_odt.specs.Formed.{IsForm, IsVariable}
use Rattle.s38_odt.specs.Suited.{AreSuited}
use Rattle.s38_odt.specs.Suits.{form_suits, item_suits}
use Rattle.s38_odt.specs.Table.{is_parameter, parameter_count}
use Rattle.s38_process.specs.declared.invocation.Invocation.{Invocation}
use Rattle.s38_process.specs.Invocations.{Stack, after_call, argument_places, arguments_in, blank_bytes, blank_values, exchanged, first_frame, first_stack, first_value, first_values, home_for, homes_from, initial_value, instruction_of, instructions_in, invoked, lent, places_for, popped, popped_to, program_rows_in, with_blank_value, with_call}
use Rattle.s38_process.specs.Lawful.{AreLawfulFrom, IsLawfulInvocation, IsLawfulStack, IsLent, IsPassed, SuitsCall}
use Rattle.s38_process.proofs.LawfulLawsOfLists.{get_left, get_right, get_within, get_number, both_true, take_again}

-- ---- where names lie

home_at : (base : ℕ) (places : List ℕ) (own : ℕ) (rows : List Row) (k j : ℕ) (row : Row) → slice_get rows k ≡ Some row → j ≡ own + k
    → slice_get (homes_from base places own rows) k ≡ Some (home_for base places j row.form)
home_at base places own [] k j row h e = cc
home_at base places own (r ∷ rows) zero j row h e =
    let same : r ≡ row = cc in
    let here : own ≡ j = omega arith in
    ap (λ (r : Row). Some (home_for base places own r.form)) same ∙ ap (λ j. Some (home_for base places j row.form)) here
home_at base places own (r ∷ rows) (suc k) j row h e = home_at base places (own + 1) rows k j row h (omega arith)

lent_there : (base place own : ℕ) → place < base → lent base (Some place) own ≡ place
lent_there base place own below = let test : nat_lt place base ≡ true = grind (arith, nat_tests) in rw test refl

parameter_home : (base : ℕ) (places : List ℕ) (own k place : ℕ) (attr : Attr) → slice_get places (k - 1) ≡ Some place → place < base → home_for base places own (Parm k attr) ≡ place
parameter_home base places own k place attr is below = ap (λ o. lent base o own) is ∙ lent_there base place own below

-- ---- what variables begin with

first_at : (rows : List Row) (k : ℕ) (row : Row) → slice_get rows k ≡ Some row → slice_get (shapes_of (first_values rows)) k ≡ Some (shape_of (first_value row.form))
first_at [] k row h = cc
first_at (r ∷ rows) zero row h = let same : r ≡ row = cc in ap (λ (r : Row). Some (shape_of (first_value r.form))) same
first_at (r ∷ rows) (suc k) row h = first_at rows k row h

first_shape : (attr : Attr) (first : List ℕ) → IsVariable attr first → shape_of (initial_value attr first) ≡ shape_for attr
first_shape (Packed digits fraction) first v = ap OfBytes v.begun
first_shape (Zoned digits fraction) first v = ap OfBytes v.begun
first_shape (Binary size) first v = ap OfBytes v.begun
first_shape (Chars len) first v = ap OfBytes v.begun
first_shape Pointer first v = refl

-- ---- an invocation that begins after these variables

held_by : (before firsts : List Shape) (base : ℕ) (places : List ℕ) (count : ℕ) (rows : List Row) (k : ℕ) (form : Form) → base ≡ length before → IsForm count rows form → IsPassed before places form
    → slice_get firsts k ≡ Some (shape_of (first_value form)) → HasShape form (shape_at (before ++ firsts) (Some (home_for base places (base + k) form)))
held_by before firsts base places count rows k (Local attr first) begins formed passed there =
    get_right before firsts (base + k) k (omega arith) ∙ there ∙ ap Some (first_shape attr first formed)
held_by before firsts base places count rows k (Parm n attr) begins formed passed there =
    let below : passed.0 < base = omega (arith, slice_get_within before passed.0 (shape_for attr) passed.1.1) in
    ap (slice_get (before ++ firsts)) (parameter_home base places (base + k) n passed.0 attr passed.1.0 below)
    ∙ get_left before firsts passed.0 (shape_for attr) passed.1.1
held_by before firsts base places count rows k (Based own offset attr) begins formed passed there = tt
held_by before firsts base places count rows k (Handler code at) begins formed passed there = tt

lent_by : (before : List Shape) (base : ℕ) (places : List ℕ) (own : ℕ) (form : Form) → base ≡ length before → IsPassed before places form → IsLent base form (Some (home_for base places own form))
lent_by before base places own (Local attr first) begins passed = tt
lent_by before base places own (Parm n attr) begins passed =
    let below : passed.0 < base = omega (arith, slice_get_within before passed.0 (shape_for attr) passed.1.1) in
    (passed.0, (ap Some (parameter_home base places own n passed.0 attr passed.1.0 below), below))
lent_by before base places own (Based at offset attr) begins passed = tt
lent_by before base places own (Handler code at) begins passed = tt

-- its arguments are its parameters
abbrev ArePassed : List Shape → List ℕ → List Row → Type 0
ArePassed before places rows = (k : ℕ) (row : Row) → slice_get rows k ≡ Some row → IsPassed before places row.form

begins_well : (made : CreateResult) (before : List Shape) (base : ℕ) (places : List ℕ) → AreSuited (program_rows_in made) (instructions_in made) → base ≡ length before → ArePassed before places (program_rows_in made)
    → IsLawfulInvocation (before ++ shapes_of (first_values (program_rows_in made))) (record { made = made; frame = first_frame (program_rows_in made) base places })
begins_well made before base places suited begins passed =
    let rows = program_rows_in made in
    let firsts = shapes_of (first_values rows) in
    record {
      program = suited;
      within = record { at = omega arith; returns = All-nil (λ at. at ≤ length (instructions_in made)) };
      held = record {
        each = λ k row is.
            rw (home_at base places base rows k (base + k) row is refl)
            (held_by before firsts base places (length (instructions_in made)) (take k rows) k row.form begins (suited.formed.each k row is) (passed k row is) (first_at rows k row is));
      };
      lent = λ k row is. rw (home_at base places base rows k (base + k) row is refl) (lent_by before base places (base + k) row.form begins (passed k row is));
      base = omega (arith, length-append before firsts);
    }

-- ---- a call

pub invocation_well : (shapes : List Shape) (top : Invocation) (callers : List Invocation) → AreLawfulFrom shapes top callers → IsLawfulInvocation shapes top
invocation_well shapes top [] stand = stand
invocation_well shapes top (caller ∷ more) stand = stand.0

-- the newest invocation is at another place
pub lawful_at_frame : (shapes : List Shape) (top again : Invocation) (callers : List Invocation) → AreLawfulFrom shapes top callers → again.frame.base ≡ top.frame.base → IsLawfulInvocation shapes again → AreLawfulFrom shapes again callers
lawful_at_frame shapes top again [] stand same well = well
lawful_at_frame shapes top again (caller ∷ more) stand same well = (well, rw same stand.1)

behind_well : (shapes : List Shape) (caller : Invocation) → caller.frame.at < length (instructions_in caller.made) → IsLawfulInvocation shapes caller → IsLawfulInvocation shapes (after_call caller)
behind_well shapes caller inside well = record {
  program = well.program;
  within = record { at = omega arith; returns = well.within.returns };
  held = well.held;
  lent = well.lent;
  base = well.base;
}

pub entered_lawful : (s : Stack) (program : Program) → IsLawfulStack s → s.top.frame.at < length (instructions_in s.top.made) → SuitsCall s (arguments_in (instruction_of s.top)) program → IsLawfulStack (with_call s program)
entered_lawful s program stand inside suits =
    let base = length s.values in
    let shapes = shapes_of s.values in
    let count : base ≡ length shapes = sym (length-map s.values shape_of) in
    let well = begins_well (Created program) shapes base (places_for s.top base) suits.suited count suits.passed in
    let caller = lawful_at_frame shapes s.top (after_call s.top) s.callers stand refl (behind_well shapes s.top inside (invocation_well shapes s.top s.callers stand)) in
    let before : take base (shapes ++ shapes_of (first_values program.rows)) ≡ shapes =
    ap (λ n. take n (shapes ++ shapes_of (first_values program.rows))) count ∙ take-append_seam shapes (shapes_of (first_values program.rows)) in
    rw (map-append shape_of s.values (first_values program.rows)) (well, rw before caller)

-- ---- a transfer

abbrev AreLent : ℕ → List Row → List ℕ → Type 0
AreLent base rows homes = (k : ℕ) (row : Row) → slice_get rows k ≡ Some row → IsLent base row.form (slice_get homes k)

-- an argument that lies the same wherever else it would lie, and below the base
abbrev IsBelow : List ℕ → ℕ → ℕ → Arg → Type 0
IsBelow homes base far arg = (unwrap_or (item_place homes (Some arg)) far ≡ unwrap_or (item_place homes (Some arg)) base) × (unwrap_or (item_place homes (Some arg)) base < base)

-- a parameter lies below the base, so that it is found whatever else lies nowhere
parameter_below : (homes : List ℕ) (base far i : ℕ) (form : Form) → IsLent base form (slice_get homes i) → is_parameter form ≡ true → IsBelow homes base far (Item i)
parameter_below homes base far i (Parm k attr) lies suits = (ap (λ o. unwrap_or o far) lies.1.0 ∙ sym (ap (λ o. unwrap_or o base) lies.1.0), rw lies.1.0 lies.1.1)
parameter_below homes base far i (Local attr first) lies suits = cc
parameter_below homes base far i (Based at offset attr) lies suits = cc
parameter_below homes base far i (Handler code at) lies suits = cc

item_below : (rows : List Row) (homes : List ℕ) (base far i : ℕ) (o : Option Row) → AreLent base rows homes → slice_get rows i ≡ o → form_suits is_parameter o ≡ true → IsBelow homes base far (Item i)
item_below rows homes base far i None lent is suits = cc
item_below rows homes base far i (Some row) lent is suits = parameter_below homes base far i row.form (lent i row is) suits

argument_below : (rows : List Row) (homes : List ℕ) (base far : ℕ) (arg : Arg) → AreLent base rows homes → item_suits is_parameter rows arg ≡ true → IsBelow homes base far arg
argument_below rows homes base far (Item i) lent suits = item_below rows homes base far i (slice_get rows i) lent refl suits
argument_below rows homes base far arg lent suits = cc

passed_on : (rows : List Row) (homes : List ℕ) (base far : ℕ) → AreLent base rows homes
    → (arguments : List Arg) (j place : ℕ) → list_all (item_suits is_parameter rows) arguments ≡ true → slice_get (argument_places homes far arguments) j ≡ Some place
    → (slice_get (argument_places homes base arguments) j ≡ Some place) × (place < base)
passed_on rows homes base far lent [] j place suits is = cc
passed_on rows homes base far lent (arg ∷ more) zero place suits is =
    let there = argument_below rows homes base far arg lent (both_true (item_suits is_parameter rows arg) (list_all (item_suits is_parameter rows) more) suits).0 in
    let same : unwrap_or (item_place homes (Some arg)) far ≡ place = cc in
    let here : unwrap_or (item_place homes (Some arg)) base ≡ place = cc in
    (ap Some here, subst (λ n. n < base) here there.1)
passed_on rows homes base far lent (arg ∷ more) (suc j) place suits is = passed_on rows homes base far lent more j place (both_true (item_suits is_parameter rows arg) (list_all (item_suits is_parameter rows) more) suits).1 is

passed_below : (rows : List Row) (homes : List ℕ) (base far : ℕ) (shapes : List Shape) → AreLent base rows homes
    → (arguments : List Arg) → list_all (item_suits is_parameter rows) arguments ≡ true
    → (form : Form) → IsPassed shapes (argument_places homes far arguments) form → IsPassed (take base shapes) (argument_places homes base arguments) form
passed_below rows homes base far shapes lent arguments suits (Parm k attr) passed =
    let on = passed_on rows homes base far lent arguments (k - 1) passed.0 suits passed.1.0 in
    (passed.0, (on.0, get_within base shapes passed.0 (shape_for attr) on.1 passed.1.1))
passed_below rows homes base far shapes lent arguments suits (Local attr first) passed = tt
passed_below rows homes base far shapes lent arguments suits (Based at offset attr) passed = tt
passed_below rows homes base far shapes lent arguments suits (Handler code at) passed = tt

-- an invocation in place of another
stands_instead : (shapes firsts : List Shape) (top again : Invocation) (callers : List Invocation) → AreLawfulFrom shapes top callers → again.frame.base ≡ top.frame.base → top.frame.base ≤ length shapes
    → IsLawfulInvocation (take top.frame.base shapes ++ firsts) again → AreLawfulFrom (take top.frame.base shapes ++ firsts) again callers
stands_instead shapes firsts top again [] stand same base well = well
stands_instead shapes firsts top again (caller ∷ more) stand same base well =
    let n = top.frame.base in
    let few : n ≤ length (take n shapes) = omega (arith, length-take-le n shapes base) in
    let before : take n (take n shapes ++ firsts) ≡ take n shapes = take-append-le n (take n shapes) firsts few ∙ take_again n shapes in
    (well, rw (same, before) stand.1)

-- the arguments of a transfer are parameters, which lie where the callers' variables are
pub exchanged_lawful : (s : Stack) (program : Program) → IsLawfulStack s → list_all (item_suits is_parameter (program_rows_in s.top.made)) (arguments_in (instruction_of s.top)) ≡ true
    → SuitsCall s (arguments_in (instruction_of s.top)) program → IsLawfulStack (exchanged s program)
exchanged_lawful s program stand parameters suits =
    let base = s.top.frame.base in
    let shapes = shapes_of s.values in
    let firsts = shapes_of (first_values program.rows) in
    let old = invocation_well shapes s.top s.callers stand in
    let count : base ≡ length (take base shapes) = sym (length-take-le base shapes old.base) in
    let passed = λ (k : ℕ) (row : Row) (is : slice_get program.rows k ≡ Some row).
    passed_below (program_rows_in s.top.made) s.top.frame.homes base (length s.values) shapes old.lent (arguments_in (instruction_of s.top)) parameters row.form (suits.passed k row is) in
    let well = begins_well (Created program) (take base shapes) base (places_for s.top base) suits.suited count passed in
    let made : shapes_of (take base s.values ++ first_values program.rows) ≡ take base shapes ++ firsts =
    map-append shape_of (take base s.values) (first_values program.rows) ∙ ap (λ xs. xs ++ firsts) (sym (take-map shape_of base s.values)) in
    rw made (stands_instead shapes firsts s.top (invoked program base (places_for s.top base)) s.callers stand refl old.base well)

-- ---- an end

popped_to_lawful : (s : Stack) (callers : List Invocation) → AreLawfulFrom (shapes_of s.values) s.top callers → IsLawfulStack s → IsLawfulStack (popped_to s callers)
popped_to_lawful s [] stand all = all
popped_to_lawful s (caller ∷ more) stand all = rw (← take-map shape_of s.top.frame.base s.values) stand.1

pub popped_lawful : (s : Stack) → IsLawfulStack s → IsLawfulStack (popped s)
popped_lawful s stand = popped_to_lawful s s.callers stand stand

-- ---- the first invocation of a job

some_power : (base n : ℕ) → 0 < base → nat_lt 0 (base ^ n) ≡ true
some_power base n some = let least : 1 ≤ base ^ n = one-le-pow n base some in grind (arith, nat_tests)

held_length : (attr : Attr) → fits attr (pos 0) ≡ true → length (scalar_image attr (pos 0)) ≡ length_of attr → length (unwrap_or (units_held attr (pos 0)) []) ≡ length_of attr
held_length attr fit is = rw fit is

-- a variable without a literal
blank_shape : (attr : Attr) → IsTrue (is_bounded attr) → shape_of (initial_value attr (blank_bytes attr)) ≡ shape_for attr
unfolding fits scalar_image
blank_shape (Packed digits fraction) bounded =
    ap OfBytes (held_length (Packed digits fraction) (and_from (are_digit_counts digits fraction) (nat_lt 0 (10 ^ digits)) bounded (some_power 10 digits (omega arith))) (length-map-range_with_len (packed_byte (digits / 2) (pos 0)) 0 (digits / 2 + 1)))
blank_shape (Zoned digits fraction) bounded =
    ap OfBytes (held_length (Zoned digits fraction) (and_from (are_digit_counts digits fraction) (nat_lt 0 (10 ^ digits)) bounded (some_power 10 digits (omega arith))) (length-map-range_with_len (zoned_byte digits (pos 0)) 0 digits))
blank_shape (Binary size) bounded =
    ap OfBytes (held_length (Binary size) (and_from ((size == 2) || (size == 4)) (nat_lt 0 (2 ^ (8 * size - 1))) bounded (some_power 2 (8 * size - 1) (omega arith))) (length-map-range_with_len (λ k. digit_at 256 (bits_of size (pos 0)) (size - 1 - k)) 0 size))
blank_shape (Chars len) bounded = ap OfBytes (length-replicate len 64)
blank_shape Pointer bounded = refl

behind_blank : (form : Form) (more : List Val) (c : ℕ) (shape : Shape) → slice_get (shapes_of more) c ≡ Some shape → slice_get (shapes_of (with_blank_value form more)) ((if is_parameter form then 1 else 0) + c) ≡ Some shape
behind_blank (Parm k attr) more c shape h = let next : 1 + c ≡ suc c = omega arith in rw next h
behind_blank (Local attr first) more c shape h = let same : 0 + c ≡ c = omega arith in rw same h
behind_blank (Based at offset attr) more c shape h = let same : 0 + c ≡ c = omega arith in rw same h
behind_blank (Handler code at) more c shape h = let same : 0 + c ≡ c = omega arith in rw same h

blank_at : (rows : List Row) (k : ℕ) (row : Row) (n : ℕ) (attr : Attr) → slice_get rows k ≡ Some row → row.form ≡ Parm n attr → IsTrue (is_bounded attr)
    → slice_get (shapes_of (blank_values rows)) (parameter_count (take k rows)) ≡ Some (shape_for attr)
blank_at [] k row n attr h is bounded = cc
blank_at (r ∷ rows) zero row n attr h is bounded =
    let same : r ≡ row = cc in
    let form : r.form ≡ Parm n attr = ap (λ (r : Row). r.form) same ∙ is in
    rw form (ap Some (blank_shape attr bounded))
blank_at (r ∷ rows) (suc k) row n attr h is bounded =
    rw (sum_by-cons (λ (row : Row). if is_parameter row.form then 1 else 0) r (take k rows))
    (behind_blank r.form (blank_values rows) (parameter_count (take k rows)) (shape_for attr) (blank_at rows k row n attr h is bounded))

given_by : (rows : List Row) (count k : ℕ) (row : Row) (form : Form) → slice_get rows k ≡ Some row → row.form ≡ form → IsForm count (take k rows) form
    → IsPassed (shapes_of (blank_values rows)) (range_with_len 0 (length (blank_values rows))) form
given_by rows count k row (Parm n attr) h is numbered =
    let place = parameter_count (take k rows) in
    let there = blank_at rows k row n attr h is numbered.bounded in
    let few : place < length (blank_values rows) = omega (arith, slice_get_within (shapes_of (blank_values rows)) place (shape_for attr) there, length-map (blank_values rows) shape_of) in
    let number : n - 1 ≡ place = omega (arith, numbered.next) in
    (place, (ap (slice_get (range_with_len 0 (length (blank_values rows)))) number ∙ get_number (length (blank_values rows)) place few, there))
given_by rows count k row (Local attr first) h is formed = tt
given_by rows count k row (Based at offset attr) h is formed = tt
given_by rows count k row (Handler code at) h is formed = tt

pub first_lawful : (made : CreateResult) → AreSuited (program_rows_in made) (instructions_in made) → IsLawfulStack (first_stack made)
first_lawful made suited =
    let rows = program_rows_in made in
    let given = blank_values rows in
    let count : length given ≡ length (shapes_of given) = sym (length-map given shape_of) in
    let passed = λ (k : ℕ) (row : Row) (is : slice_get rows k ≡ Some row). given_by rows (length (instructions_in made)) k row row.form is refl (suited.formed.each k row is) in
    rw (map-append shape_of given (first_values rows)) (begins_well made (shapes_of given) (length given) (range_with_len 0 (length given)) suited count passed)
