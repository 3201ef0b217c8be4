-- A program that is called suits the call: each of its parameters gets an argument that holds what it declares.
use Rattle.std.proofs.Common.{◌+◌, ◌-◌, ◌==◌, ◌∙◌, ◌∷◌, ◌≡◌, Bool, List, [], ap, arith, cond, false, length, refl, subst, suc, sym, take, true, zero, ℕ}
use Rattle.std.proofs.lemmas.Bool.Decides.{nat_tests}
use Rattle.std.proofs.lemmas.Bool.{and_parts}
use Rattle.std.proofs.lemmas.List.Sums.{sum_by-cons}
use Rattle.std.proofs.lemmas.Option.{same_Some, slice_get-map}
use Rattle.std.specs.List.{list_all}
use Rattle.std.specs.Option.{option_map}
use Rattle.std.specs.Prelude.{None, Option, Some, slice_get, unwrap_or}
use Rattle.s38_base.specs.Attributes.{same_attr}
use Rattle.s38_base.specs.declared.attr.Attr.TheVariants as attrs
use Rattle.s38_base.specs.declared.attr.Attr.{Attr}
use Rattle.s38_code.specs.declared.class.Class.TheVariants.{Argument}
use Rattle.s38_code.specs.declared.class.Class.{Class}
use Rattle.s38_code.specs.declared.operand.Operand.{Operand}
use Rattle.s38_code.specs.declared.program.Arg.TheVariants as args
use Rattle.s38_code.specs.declared.program.Arg.{Arg}
use Rattle.s38_code.specs.declared.program.Form.TheVariants as forms
use Rattle.s38_code.specs.declared.program.Form.{Form}
use Rattle.s38_code.specs.declared.program.Program.{Program}
use Rattle.s38_code.specs.declared.program.Row.{Row}
use Rattle.s38_code.specs.declared.reply.Val.{Val}
use Rattle.s38_local.specs.Law.{HasShape, HavePlaces, Shape, shape_at, shape_for, shapes_of}
use Rattle.s38_local.specs.Variables.{form_in, item_place, value_of_item}
use Rattle.s38_odt.specs.Formed.{AreFormed, IsForm}
use Rattle.s38_odt.specs.Suits.{all_suit, form_suits, item_suits, suits}
use Rattle.s38_odt.specs.OperandAttributes.{can_be_passed}
use Rattle.s38_odt.specs.Table.{is_parameter, parameter_count}
use Rattle.s38_process.specs.Invocations.{argument_places}
use Rattle.s38_process.specs.Lawful.{IsPassed}
use Rattle.s38_requests.specs.Requests.{item_by, operand_of, operand_source, operands_of}
use Rattle.s38_rules.specs.families.Calls.{are_arguments, is_argument, parameters_in, with_parameter}

-- ---- parameters, in order

-- the attribute of the parameter at a row comes after those of the parameters before it
parameter_at : (rows : List Row) (m k : ℕ) (row : Row) (attr : Attr) → slice_get rows m ≡ Some row → row.form ≡ forms.Parm k attr → slice_get (parameters_in rows) (parameter_count (take m rows)) ≡ Some attr
parameter_at [] m k row attr there is = cc
parameter_at (r ∷ rows) zero k row attr there is =
    let same : r ≡ row = same_Some r row there in
    ap (λ (f : Form). slice_get (with_parameter f (parameters_in rows)) 0) (ap (λ (x : Row). x.form) same ∙ is)
parameter_at (r ∷ rows) (suc m) k row attr there is =
    ap (slice_get (parameters_in (r ∷ rows))) (sum_by-cons (λ (x : Row). cond (is_parameter x.form) 1 0) r (take m rows)) ∙ by r.form (parameter_at rows m k row attr there is)
  where
    n : ℕ
    n = parameter_count (take m rows)

    by : (f : Form) → slice_get (parameters_in rows) n ≡ Some attr → slice_get (with_parameter f (parameters_in rows)) (cond (is_parameter f) 1 0 + n) ≡ Some attr
    by (forms.Parm j other) rest = let next : 1 + n ≡ suc n = omega arith in ap (slice_get (other ∷ parameters_in rows)) next ∙ rest
    by (forms.Local other first) rest = let same : 0 + n ≡ n = omega arith in ap (slice_get (parameters_in rows)) same ∙ rest
    by (forms.Based base offset other) rest = let same : 0 + n ≡ n = omega arith in ap (slice_get (parameters_in rows)) same ∙ rest
    by (forms.Handler code at) rest = let same : 0 + n ≡ n = omega arith in ap (slice_get (parameters_in rows)) same ∙ rest

-- ---- arguments

argument_at : (attributes : List Attr) (ops : List Operand) (n : ℕ) (attr : Attr) → are_arguments attributes ops ≡ true → slice_get attributes n ≡ Some attr
    → (x : Operand) × ((slice_get ops n ≡ Some x) × (is_argument attr x ≡ true))
argument_at [] ops n attr are is = cc
argument_at (a ∷ attributes) [] n attr are is = cc
argument_at (a ∷ attributes) (x ∷ ops) zero attr are is =
    let same : a ≡ attr = same_Some a attr is in
    (x, (refl, subst (λ b. is_argument b x ≡ true) same (and_parts (is_argument a x) (are_arguments attributes ops) are).0))
argument_at (a ∷ attributes) (x ∷ ops) (suc n) attr are is = argument_at attributes ops n attr (and_parts (is_argument a x) (are_arguments attributes ops) are).1 is

abbrev is_for_argument : Class → Bool
is_for_argument Argument = true
is_for_argument _ = false

-- the operand at a place is of the argument there
record IsGiven (rows : List Row) (homes : List ℕ) (values : List Val) (given : List Arg) (n : ℕ) (x : Operand) : Type 0 where
  arg : Arg
  there : slice_get given n ≡ Some arg
  operand : operand_of rows homes values Argument arg ≡ x
  suits : item_suits can_be_passed rows arg ≡ true

class_is : (c : Class) → is_for_argument c ≡ true → c ≡ Argument
class_is Argument h = refl
class_is _ h = cc

given_at : (rows : List Row) (homes : List ℕ) (values : List Val) (cs : List Class) (given : List Arg) (n : ℕ) (x : Operand) → list_all is_for_argument cs ≡ true → all_suit rows cs given ≡ true
    → slice_get (operands_of rows homes values cs given) n ≡ Some x → IsGiven rows homes values given n x
unfolding suits
given_at rows homes values [] given n x all suited is = cc
given_at rows homes values (c ∷ cs) [] n x all suited is = cc
given_at rows homes values (c ∷ cs) (a ∷ rest) zero x all suited is =
    let one : c ≡ Argument = class_is c (and_parts (is_for_argument c) (list_all is_for_argument cs) all).0 in
    record {
      arg = a;
      there = refl;
      operand = ap (λ d. operand_of rows homes values d a) (sym one) ∙ same_Some (operand_of rows homes values c a) x is;
      suits = subst (λ d. suits rows d a ≡ true) one (and_parts (suits rows c a) (all_suit rows cs rest) suited).0;
    }
given_at rows homes values (c ∷ cs) (a ∷ rest) (suc n) x all suited is =
    let more = given_at rows homes values cs rest n x (and_parts (is_for_argument c) (list_all is_for_argument cs) all).1 (and_parts (suits rows c a) (all_suit rows cs rest) suited).1 is in
    record { arg = more.arg; there = more.there; operand = more.operand; suits = more.suits }

-- ---- attributes

same_shape : (a b : Attr) → same_attr a b ≡ true → shape_for a ≡ shape_for b
same_shape (attrs.Packed digits fraction) (attrs.Packed others behind) is =
    let same : digits ≡ others = grind (arith, nat_tests, (and_parts (digits == others) (fraction == behind) is).0) in ap (λ n. shape_for (attrs.Packed n 0)) same
same_shape (attrs.Zoned digits fraction) (attrs.Zoned others behind) is =
    let same : digits ≡ others = grind (arith, nat_tests, (and_parts (digits == others) (fraction == behind) is).0) in ap (λ n. shape_for (attrs.Zoned n 0)) same
same_shape (attrs.Binary size) (attrs.Binary other) is = let same : size ≡ other = grind (arith, nat_tests) in ap (λ n. shape_for (attrs.Binary n)) same
same_shape (attrs.Chars len) (attrs.Chars other) is = let same : len ≡ other = grind (arith, nat_tests) in ap (λ n. shape_for (attrs.Chars n)) same
same_shape attrs.Pointer attrs.Pointer is = refl
same_shape _ _ is = cc

-- an argument of an attribute is a variable of that attribute
source_shape : (attr own : Attr) (v : Option Val) → is_argument attr (operand_source own v) ≡ true → shape_for attr ≡ shape_for own
source_shape attr attrs.Pointer v is = same_shape attr attrs.Pointer is
source_shape attr (attrs.Packed digits fraction) v is = same_shape attr (attrs.Packed digits fraction) is
source_shape attr (attrs.Zoned digits fraction) v is = same_shape attr (attrs.Zoned digits fraction) is
source_shape attr (attrs.Binary size) v is = same_shape attr (attrs.Binary size) is
source_shape attr (attrs.Chars len) v is = same_shape attr (attrs.Chars len) is

-- ---- an argument lies where its variable does

-- the place of a variable that holds what an attribute says
record LiesAt (homes : List ℕ) (shapes : List Shape) (arg : Arg) (attr : Attr) : Type 0 where
  at : ℕ
  lies : item_place homes (Some arg) ≡ Some at
  holds : slice_get shapes at ≡ Some (shape_for attr)

lies_by : (homes : List ℕ) (shapes : List Shape) (arg : Arg) (attr : Attr) (o : Option ℕ) → item_place homes (Some arg) ≡ o → shape_at shapes o ≡ Some (shape_for attr) → LiesAt homes shapes arg attr
lies_by homes shapes arg attr None is holds = cc
lies_by homes shapes arg attr (Some at) is holds = record { at = at; lies = is; holds = holds }

passed_by : (rows : List Row) (homes : List ℕ) (values : List Val) (j : ℕ) (form : Form) (attr : Attr) → can_be_passed form ≡ true → is_argument attr (item_by homes values false j (Some form)) ≡ true
    → HasShape form (shape_at (shapes_of values) (slice_get homes j)) → shape_at (shapes_of values) (slice_get homes j) ≡ Some (shape_for attr)
passed_by rows homes values j (forms.Local own first) attr can is holds = holds ∙ ap Some (sym (source_shape attr own (value_of_item homes values j) is))
passed_by rows homes values j (forms.Parm k own) attr can is holds = holds ∙ ap Some (sym (source_shape attr own (value_of_item homes values j) is))
passed_by rows homes values j (forms.Based base offset own) attr can is holds = cc
passed_by rows homes values j (forms.Handler code at) attr can is holds = cc

item_lies : (rows : List Row) (homes : List ℕ) (values : List Val) (j : ℕ) (o : Option Row) (attr : Attr) → HavePlaces rows homes (shapes_of values) → slice_get rows j ≡ o → form_suits can_be_passed o ≡ true
    → is_argument attr (item_by homes values false j (form_in o)) ≡ true → LiesAt homes (shapes_of values) (args.Item j) attr
item_lies rows homes values j None attr held there can is = cc
item_lies rows homes values j (Some row) attr held there can is =
    lies_by homes (shapes_of values) (args.Item j) attr (slice_get homes j) refl (passed_by rows homes values j row.form attr can is (held.each j row there))

argument_lies : (rows : List Row) (homes : List ℕ) (values : List Val) (arg : Arg) (attr : Attr) → HavePlaces rows homes (shapes_of values) → item_suits can_be_passed rows arg ≡ true
    → is_argument attr (operand_of rows homes values Argument arg) ≡ true → LiesAt homes (shapes_of values) arg attr
argument_lies rows homes values (args.Item j) attr held can is = item_lies rows homes values j (slice_get rows j) attr held refl can is
argument_lies rows homes values _ attr held can is = cc

-- ---- parameters are passed

passed_form : (rows : List Row) (homes : List ℕ) (values : List Val) (cs : List Class) (given : List Arg) (called : List Row) (m : ℕ) (row : Row) (base : ℕ) (form : Form) → row.form ≡ form
    → HavePlaces rows homes (shapes_of values) → list_all is_for_argument cs ≡ true → all_suit rows cs given ≡ true → are_arguments (parameters_in called) (operands_of rows homes values cs given) ≡ true
    → slice_get called m ≡ Some row → (count : ℕ) → IsForm count (take m called) form → IsPassed (shapes_of values) (argument_places homes base given) form
passed_form rows homes values cs given called m row base (forms.Parm k attr) is held all suited are there count formed =
    let n = parameter_count (take m called) in
    let one = argument_at (parameters_in called) (operands_of rows homes values cs given) n attr are (parameter_at called m k row attr there is) in
    let arg = given_at rows homes values cs given n one.0 all suited one.1.0 in
    let lies = argument_lies rows homes values arg.arg attr held arg.suits (subst (λ x. is_argument attr x ≡ true) (sym arg.operand) one.1.1) in
    let index : k - 1 ≡ n = omega (arith, formed.next) in
    let f : Arg → ℕ = λ a. unwrap_or (item_place homes (Some a)) base in
    let at : slice_get (argument_places homes base given) (k - 1) ≡ Some lies.at =
    ap (slice_get (argument_places homes base given)) index ∙ slice_get-map f given n ∙ ap (option_map f) arg.there ∙ ap (λ o. Some (unwrap_or o base)) lies.lies in
    (lies.at, (at, lies.holds))
passed_form rows homes values cs given called m row base (forms.Local attr first) is held all suited are there count formed = tt
passed_form rows homes values cs given called m row base (forms.Based own offset attr) is held all suited are there count formed = tt
passed_form rows homes values cs given called m row base (forms.Handler code at) is held all suited are there count formed = tt

-- of a program whose declarations are well formed
pub arguments_pass : (rows : List Row) (homes : List ℕ) (values : List Val) (cs : List Class) (given : List Arg) (program : Program) (base : ℕ) → HavePlaces rows homes (shapes_of values)
    → list_all is_for_argument cs ≡ true → all_suit rows cs given ≡ true → are_arguments (parameters_in program.rows) (operands_of rows homes values cs given) ≡ true → AreFormed (length program.code) program.rows
    → (m : ℕ) (row : Row) → slice_get program.rows m ≡ Some row → IsPassed (shapes_of values) (argument_places homes base given) row.form
arguments_pass rows homes values cs given program base held all suited are formed m row there =
    passed_form rows homes values cs given program.rows m row base row.form refl held all suited are there (length program.code) (formed.each m row there)
