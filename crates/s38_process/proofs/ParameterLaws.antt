-- A parameter is the item that the caller passes.
use Rattle.std.proofs.Common.{◌≡◌, ◌<◌, ℕ, zero, suc, ◌+◌, ◌-◌, true, List, [], ◌∷◌, ◌++◌, length, take, refl, sym, ◌∙◌, ap, arith, nat_lt}
use Rattle.std.proofs.lemmas.Bool.Decides.{nat_tests}
use Rattle.std.proofs.lemmas.Option.{slice_get-map}
use Rattle.std.proofs.Math.Seq.{take-append_seam}
use Rattle.std.specs.Prelude.{Option, Some, unwrap_or, slice_get, slice_set}
use Rattle.std.specs.Option.{option_map}
use Rattle.s38_code.specs.declared.program.Arg.{Arg}
use Rattle.s38_code.specs.declared.program.Arg.TheVariants as args
use Rattle.s38_code.specs.declared.program.Form.{Form}
use Rattle.s38_code.specs.declared.program.Program.{Program}
use Rattle.s38_code.specs.declared.program.Row.{Row}
use Rattle.s38_code.specs.declared.reply.Val.{Val}
use Rattle.s38_local.specs.Variables.{item_place, value_at, value_put_at}
use Rattle.s38_process.specs.Invocations.{IsPassedFor, Stack, after_call, argument_places, arguments_in, first_values, home_for, homes_from, instruction_of, lent, places_for, popped, read_at, with_call, written_at}

home_at : (base : ℕ) (places : List ℕ) (own : ℕ) (rows : List Row) (k : ℕ) (row : Row) → slice_get rows k ≡ Some row → slice_get (homes_from base places own rows) k ≡ Some (home_for base places (own + k) row.form)
home_at base places own [] k row h = cc
home_at base places own (x ∷ rows) zero row h =
    let e : x ≡ row = cc in
    ap (λ (r : Row). Some (home_for base places own r.form)) e ∙ ap (λ n. Some (home_for base places n row.form)) (omega arith)
home_at base places own (x ∷ rows) (suc k) row h =
    home_at base places (own + 1) rows k row h ∙ ap (λ n. Some (home_for base places n row.form)) (omega arith)

lent_below : (base place own : ℕ) → place < base → lent base (Some place) own ≡ place
lent_below base place own below = let test : nat_lt place base ≡ true = grind (arith, nat_tests) in rw test refl

passed_place : (homes : List ℕ) (base : ℕ) (given : List Arg) (k item place : ℕ) → slice_get given k ≡ Some (args.Item item) → slice_get homes item ≡ Some place → slice_get (argument_places homes base given) k ≡ Some place
passed_place homes base given k item place h lies =
    slice_get-map (λ argument. unwrap_or (item_place homes (Some argument)) base) given k
    ∙ ap (option_map (λ argument. unwrap_or (item_place homes (Some argument)) base)) h
    ∙ ap (λ o. Some (unwrap_or o base)) lies

-- a parameter lies where the item lies that the caller passes
pub parameter_home : (s : Stack) (program : Program) (row place : ℕ) → IsPassedFor s program row place → slice_get (with_call s program).top.frame.homes row ≡ Some place
parameter_home s program row place is =
    let base = length s.values in
    let places = places_for s.top base in
    home_at base places base program.rows row is.name is.declared
    ∙ ap (λ (f : Form). Some (home_for base places (base + row) f)) is.parameter
    ∙ ap (λ (o : Option ℕ). Some (lent base o (base + row))) (passed_place s.top.frame.homes base (arguments_in (instruction_of s.top)) (is.number - 1) is.item place is.passed is.lies)
    ∙ ap Some (lent_below base place (base + row) is.there)

get_left : {A : Type 0} (xs ys : List A) (i : ℕ) → i < length xs → slice_get (xs ++ ys) i ≡ slice_get xs i
get_left [] ys i h = absurd (omega arith)
get_left (x ∷ xs) ys zero h = refl
get_left (x ∷ xs) ys (suc i) h = get_left xs ys i (omega arith)

set_left : {A : Type 0} (xs ys : List A) (i : ℕ) (v : A) → i < length xs → slice_set (xs ++ ys) i v ≡ slice_set xs i v ++ ys
set_left [] ys i v h = absurd (omega arith)
set_left (x ∷ xs) ys zero v h = refl
set_left (x ∷ xs) ys (suc i) v h = ap (λ zs. x ∷ zs) (set_left xs ys i v (omega arith))

set_length : {A : Type 0} (xs : List A) (i : ℕ) (v : A) → length (slice_set xs i v) ≡ length xs
set_length [] i v = refl
set_length (x ∷ xs) zero v = refl
set_length (x ∷ xs) (suc i) v = ap suc (set_length xs i v)

-- what is read at the parameter is at the caller's item
pub reads_the_argument : (s : Stack) (program : Program) (row place : ℕ) → IsPassedFor s program row place → read_at (with_call s program) row ≡ slice_get s.values place
reads_the_argument s program row place is =
    ap (value_at (s.values ++ first_values program.rows)) (parameter_home s program row place is)
    ∙ get_left s.values (first_values program.rows) place is.there

cut_back : (xs ys : List Val) (n : ℕ) → length xs ≡ n → take n (xs ++ ys) ≡ xs
cut_back xs ys n is = ap (λ k. take k (xs ++ ys)) (sym is) ∙ take-append_seam xs ys

-- what is written to the parameter is at the caller's item once the program has returned
pub writes_the_argument : (s : Stack) (program : Program) (row place : ℕ) (v : Val) → IsPassedFor s program row place
    → popped (written_at (with_call s program) row v) ≡ record { values = slice_set s.values place v; top = after_call s.top; callers = s.callers }
writes_the_argument s program row place v is =
    let more = first_values program.rows in
    let put : value_put_at (s.values ++ more) (slice_get (with_call s program).top.frame.homes row) v ≡ slice_set s.values place v ++ more =
    ap (λ o. value_put_at (s.values ++ more) o v) (parameter_home s program row place is) ∙ set_left s.values more place v is.there in
    ap (λ (values : List Val). record { values = values; top = after_call s.top; callers = s.callers })
    (ap (take (length s.values)) put ∙ cut_back (slice_set s.values place v) more (length s.values) (set_length s.values place v))
