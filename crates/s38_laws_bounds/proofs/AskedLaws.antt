-- An instruction that creation lets into a program asks with operands that suit the table of operations.
use Rattle.std.proofs.Common.{◌==◌, ◌∷◌, ◌≡◌, ◌∙◌, Bool, List, [], ap, arith, false, refl, subst, sym, true, ℕ}
use Rattle.std.proofs.lemmas.Bool.Decides.{nat_tests}
use Rattle.std.proofs.lemmas.Bool.{and_from, and_parts}
use Rattle.std.specs.Option.{option_and_then}
use Rattle.std.specs.Prelude.{◌%◌, None, Option, Some, is_some, not, slice_get}
use Rattle.s38_base.specs.Attributes.{is_bounded, is_pointer_attr, length_of}
use Rattle.s38_base.specs.declared.attr.Attr.TheVariants as attrs
use Rattle.s38_base.specs.declared.attr.Attr.{Attr}
use Rattle.s38_base.specs.declared.op.Op.TheVariants.{And, Cpybwp, Not, Or, Testau, Xor}
use Rattle.s38_base.specs.declared.op.Op.{Op}
use Rattle.s38_code.specs.Operations.{classes, operand_rule}
use Rattle.s38_code.specs.declared.class.Class.TheVariants.{Argument, BytesReceiver, BytesSource, CellsReceiver, CellsSource, Constant, Keyword, NumberReceiver, PointerReceiver, PointerSource}
use Rattle.s38_code.specs.declared.class.Class.{Class}
use Rattle.s38_code.specs.declared.class.Constant.TheVariants.{Attribute}
use Rattle.s38_code.specs.declared.class.Keyword.TheVariants.{Rights}
use Rattle.s38_code.specs.declared.program.Arg.TheVariants as args
use Rattle.s38_code.specs.declared.program.Arg.{Arg}
use Rattle.s38_code.specs.declared.program.Form.TheVariants as forms
use Rattle.s38_code.specs.declared.program.Form.{Form}
use Rattle.s38_code.specs.declared.program.Instruction.{Instruction}
use Rattle.s38_code.specs.declared.program.Row.{Row}
use Rattle.s38_code.specs.declared.reply.Val.{Val}
use Rattle.s38_code.specs.declared.rule.OperandRule.TheVariants.{EqualLengths, ShortBinary}
use Rattle.s38_local.specs.Variables.{form_in, value_of_item}
use Rattle.s38_odt.specs.OperandRules.{attr_length, has_length, is_short_binary, keeps_rule as odt_keeps_rule}
use Rattle.s38_odt.specs.Suited.{IsSuited}
use Rattle.s38_odt.specs.Suits.{all_suit as odt_all_suit, class_is_argument, constant_suits, form_suits, item_suits, suits as odt_suits}
use Rattle.s38_odt.specs.OperandAttributes.{are_bytes, are_cells, form_attr, has_cells, is_attr_of_pointer, is_numeric_attr, operand_attr}
use Rattle.s38_requests.specs.Requests.{item_by, item_operand, operand_of, operand_source, operands_of, request_of}
use Rattle.s38_laws_bounds.specs.Suited.{SuitsTable, all_suit, attr_of, fills_cells, has_cells_of, has_two_bytes, keeps_rule, same_length, suits}

-- ---- an item as an operand has the attribute that it declares

source_attr : (attr : Attr) (v : Option Val) → attr_of (operand_source attr v) ≡ attr
source_attr attrs.Pointer v = refl
source_attr attr v = refl

variable_attr : (receiver : Bool) (attr : Attr) (v : Option Val) → attr_of (item_operand receiver attr v) ≡ attr
variable_attr true attr v = refl
variable_attr false attr v = source_attr attr v

some_same : (a b : Attr) → Some a ≡ Some b → a ≡ b
some_same a b h = cc

form_same : (homes : List ℕ) (values : List Val) (receiver : Bool) (i : ℕ) (form : Form) (attr : Attr) → form_attr form ≡ Some attr → attr_of (item_by homes values receiver i (Some form)) ≡ attr
form_same homes values receiver i (forms.Local own first) attr is = variable_attr receiver own (value_of_item homes values i) ∙ some_same own attr is
form_same homes values receiver i (forms.Parm k own) attr is = variable_attr receiver own (value_of_item homes values i) ∙ some_same own attr is
form_same homes values receiver i (forms.Based base offset own) attr is = some_same own attr is
form_same homes values receiver i (forms.Handler code at) attr is = cc

item_same : (homes : List ℕ) (values : List Val) (receiver : Bool) (i : ℕ) (row : Option Row) (attr : Attr) → option_and_then (λ (x : Row). form_attr x.form) row ≡ Some attr
    → attr_of (item_by homes values receiver i (form_in row)) ≡ attr
item_same homes values receiver i None attr is = cc
item_same homes values receiver i (Some row) attr is = form_same homes values receiver i row.form attr is

attr_same : (rows : List Row) (homes : List ℕ) (values : List Val) (class : Class) (arg : Arg) (attr : Attr) → operand_attr rows arg ≡ Some attr → attr_of (operand_of rows homes values class arg) ≡ attr
attr_same rows homes values class (args.Item i) attr is = item_same homes values _ i (slice_get rows i) attr is
attr_same rows homes values class (args.Literal own bytes) attr is = some_same own attr is
attr_same rows homes values class _ attr is = cc

-- ---- classes

pointer_suits : (rows : List Row) (homes : List ℕ) (values : List Val) (arg : Arg) (x : Option Attr) → operand_attr rows arg ≡ x → is_attr_of_pointer x ≡ true
    → is_pointer_attr (attr_of (operand_of rows homes values PointerReceiver arg)) ≡ true
pointer_suits rows homes values arg None is pointer = cc
pointer_suits rows homes values arg (Some attr) is pointer = subst (λ (a : Attr). is_pointer_attr a ≡ true) (sym (attr_same rows homes values PointerReceiver arg attr is)) pointer

scalar_suits : (rows : List Row) (homes : List ℕ) (values : List Val) (arg : Arg) → constant_suits Attribute arg ≡ true → not (is_pointer_attr (attr_of (operand_of rows homes values (Constant Attribute) arg))) ≡ true
unfolding constant_suits
scalar_suits rows homes values (args.Attrs (attr ∷ [])) is = (and_parts (is_bounded attr) (not (is_pointer_attr attr)) is).1
scalar_suits rows homes values (args.Attrs []) is = cc
scalar_suits rows homes values (args.Attrs (attr ∷ more ∷ rest)) is = cc
scalar_suits rows homes values _ is = cc

even_length : (attr : Attr) → are_cells attr ≡ true → (length_of attr % 16 == 0) ≡ true
even_length (attrs.Chars len) is = is
even_length attrs.Pointer is = refl
even_length _ is = cc

cell_length : (attr : Attr) → is_pointer_attr attr ≡ true → (length_of attr % 16 == 0) ≡ true
cell_length attrs.Pointer is = refl
cell_length _ is = cc

-- what gets cells has whole cells
receiver_fills : (homes : List ℕ) (values : List Val) (i : ℕ) (row : Option Row) → form_suits has_cells row ≡ true → fills_cells (item_by homes values true i (form_in row)) ≡ true
receiver_fills homes values i None is = cc
receiver_fills homes values i (Some row) is = by row.form is
  where
    by : (form : Form) → has_cells form ≡ true → fills_cells (item_by homes values true i (Some form)) ≡ true
    by (forms.Local attr first) is = cell_length attr is
    by (forms.Parm k attr) is = cell_length attr is
    by (forms.Based base offset attr) is = even_length attr is
    by (forms.Handler code at) is = cc

pointer_source : (attr : Attr) (v : Option Val) → is_pointer_attr attr ≡ true → has_cells_of (operand_source attr v) ≡ true
pointer_source attrs.Pointer v is = refl
pointer_source _ v is = cc

source_has : (homes : List ℕ) (values : List Val) (i : ℕ) (row : Option Row) → form_suits has_cells row ≡ true → has_cells_of (item_by homes values false i (form_in row)) ≡ true
source_has homes values i None is = cc
source_has homes values i (Some row) is = by row.form is
  where
    by : (form : Form) → has_cells form ≡ true → has_cells_of (item_by homes values false i (Some form)) ≡ true
    by (forms.Local attr first) is = pointer_source attr (value_of_item homes values i) is
    by (forms.Parm k attr) is = pointer_source attr (value_of_item homes values i) is
    by (forms.Based base offset attr) is = refl
    by (forms.Handler code at) is = cc

one_suits : (rows : List Row) (homes : List ℕ) (values : List Val) (class : Class) (arg : Arg) → odt_suits rows class arg ≡ true → suits class (operand_of rows homes values class arg) ≡ true
unfolding odt_suits
one_suits rows homes values PointerReceiver (args.Item i) is = pointer_suits rows homes values (args.Item i) _ refl is
one_suits rows homes values PointerReceiver _ is = cc
one_suits rows homes values CellsReceiver (args.Item i) is = receiver_fills homes values i (slice_get rows i) is
one_suits rows homes values CellsReceiver _ is = cc
one_suits rows homes values CellsSource (args.Item i) is = source_has homes values i (slice_get rows i) is
one_suits rows homes values CellsSource _ is = cc
one_suits rows homes values (Constant Attribute) arg is = scalar_suits rows homes values arg is
one_suits rows homes values _ arg is = refl

all_suits : (rows : List Row) (homes : List ℕ) (values : List Val) (more : List Class) (given : List Arg) → odt_all_suit rows more given ≡ true
    → all_suit more (operands_of rows homes values more given) ≡ true
all_suits rows homes values [] given is = refl
all_suits rows homes values (class ∷ more) [] is = refl
all_suits rows homes values (class ∷ more) (arg ∷ rest) is =
    let both = and_parts (odt_suits rows class arg) (odt_all_suit rows more rest) is in
    and_from (suits class (operand_of rows homes values class arg)) (all_suit more (operands_of rows homes values more rest)) (one_suits rows homes values class arg both.0)
    (all_suits rows homes values more rest both.1)

-- ---- rules of lengths

-- the operand declares an attribute
abbrev declares : Class → Bool
declares NumberReceiver = true
declares BytesReceiver = true
declares BytesSource = true
declares CellsReceiver = true
declares CellsSource = true
declares _ = false

form_declares : (form : Form) → has_cells form ≡ true → is_some (form_attr form) ≡ true
form_declares (forms.Handler code at) is = cc
form_declares _ is = refl

cells_declare : (row : Option Row) → form_suits has_cells row ≡ true → is_some (option_and_then (λ (x : Row). form_attr x.form) row) ≡ true
cells_declare None is = cc
cells_declare (Some row) is = form_declares row.form is

cells_are_declared : (rows : List Row) (arg : Arg) → item_suits has_cells rows arg ≡ true → is_some (operand_attr rows arg) ≡ true
cells_are_declared rows (args.Item i) is = cells_declare (slice_get rows i) is
cells_are_declared rows _ is = cc

number_declared : (x : Option Attr) → is_numeric_attr x ≡ true → is_some x ≡ true
number_declared None is = cc
number_declared (Some attr) is = refl

bytes_declared : (x : Option Attr) → are_bytes x ≡ true → is_some x ≡ true
bytes_declared None is = cc
bytes_declared (Some attr) is = refl

declared : (rows : List Row) (class : Class) (arg : Arg) → declares class ≡ true → odt_suits rows class arg ≡ true → is_some (operand_attr rows arg) ≡ true
unfolding odt_suits
declared rows NumberReceiver (args.Item i) tells is = number_declared (operand_attr rows (args.Item i)) is
declared rows NumberReceiver _ tells is = cc
declared rows BytesReceiver (args.Item i) tells is = bytes_declared (operand_attr rows (args.Item i)) is
declared rows BytesReceiver _ tells is = cc
declared rows BytesSource arg tells is = bytes_declared (operand_attr rows arg) is
declared rows CellsReceiver arg tells is = cells_are_declared rows arg is
declared rows CellsSource arg tells is = cells_are_declared rows arg is
declared rows _ arg tells is = cc

length_by : (rows : List Row) (homes : List ℕ) (values : List Val) (class : Class) (arg : Arg) (x : Option Attr) → operand_attr rows arg ≡ x → is_some x ≡ true
    → length_of (attr_of (operand_of rows homes values class arg)) ≡ attr_length x
length_by rows homes values class arg None is some = cc
length_by rows homes values class arg (Some attr) is some = ap length_of (attr_same rows homes values class arg attr is)

length_same : (rows : List Row) (homes : List ℕ) (values : List Val) (class : Class) (arg : Arg) → declares class ≡ true → odt_suits rows class arg ≡ true
    → length_of (attr_of (operand_of rows homes values class arg)) ≡ attr_length (operand_attr rows arg)
length_same rows homes values class arg tells is = length_by rows homes values class arg (operand_attr rows arg) refl (declared rows class arg tells is)

declares_operand : (class : Class) → declares class ≡ true → class_is_argument class ≡ true → ⊥
declares_operand Argument tells is = cc
declares_operand _ tells is = cc

two_same : (rows : List Row) (homes : List ℕ) (values : List Val) (one two : Class) (more : List Class) (given : List Arg) → declares one ≡ true → declares two ≡ true
    → odt_all_suit rows (one ∷ two ∷ more) given ≡ true → odt_keeps_rule rows EqualLengths given ≡ true → same_length (operands_of rows homes values (one ∷ two ∷ more) given) ≡ true
unfolding odt_keeps_rule
two_same rows homes values one two more [] first second suited ruled = absurd (declares_operand one first suited)
two_same rows homes values one two more (a ∷ []) first second suited ruled = absurd (declares_operand two second (and_parts (odt_suits rows one a) _ suited).1)
two_same rows homes values one two more (a ∷ b ∷ rest) first second suited ruled =
    let head = and_parts (odt_suits rows one a) _ suited in
    let next = and_parts (odt_suits rows two b) _ head.1 in
    let here = length_same rows homes values one a first head.0 in
    let there = length_same rows homes values two b second next.0 in
    let lengths = and_parts (has_length rows (attr_length (operand_attr rows a)) a) _ ruled in
    let same = (and_parts (has_length rows (attr_length (operand_attr rows a)) b) _ lengths.1).0 in
    grind (arith, nat_tests, here, there, same)

short_by : (x : Option Attr) → is_short_binary x ≡ true → (attr_length x == 2) ≡ true
short_by (Some (attrs.Binary size)) is = is
short_by _ is = cc

two_bytes : (rows : List Row) (homes : List ℕ) (values : List Val) (more : List Class) (given : List Arg) → odt_all_suit rows (NumberReceiver ∷ more) given ≡ true
    → odt_keeps_rule rows ShortBinary given ≡ true → has_two_bytes (operands_of rows homes values (NumberReceiver ∷ more) given) ≡ true
unfolding odt_keeps_rule
two_bytes rows homes values more [] suited ruled = cc
two_bytes rows homes values more (a ∷ rest) suited ruled =
    let here = length_same rows homes values NumberReceiver a refl (and_parts (odt_suits rows NumberReceiver a) _ suited).0 in
    subst (λ n. (n == 2) ≡ true) (sym here) (short_by (operand_attr rows a) ruled)

rule_suits : (rows : List Row) (homes : List ℕ) (values : List Val) (op : Op) (given : List Arg) → odt_all_suit rows (classes op) given ≡ true
    → odt_keeps_rule rows (operand_rule op) given ≡ true → keeps_rule (operand_rule op) (operands_of rows homes values (classes op) given) ≡ true
unfolding classes operand_rule
rule_suits rows homes values And given suited ruled = two_same rows homes values BytesReceiver BytesSource (BytesSource ∷ []) given refl refl suited ruled
rule_suits rows homes values Or given suited ruled = two_same rows homes values BytesReceiver BytesSource (BytesSource ∷ []) given refl refl suited ruled
rule_suits rows homes values Xor given suited ruled = two_same rows homes values BytesReceiver BytesSource (BytesSource ∷ []) given refl refl suited ruled
rule_suits rows homes values Not given suited ruled = two_same rows homes values BytesReceiver BytesSource [] given refl refl suited ruled
rule_suits rows homes values Cpybwp given suited ruled = two_same rows homes values CellsReceiver CellsSource [] given refl refl suited ruled
rule_suits rows homes values Testau given suited ruled = two_bytes rows homes values (PointerSource ∷ Keyword Rights ∷ []) given suited ruled
rule_suits rows homes values _ given suited ruled = refl

pub checked_suits : (rows : List Row) (count : ℕ) (homes : List ℕ) (values : List Val) (i : Instruction) → IsSuited rows count i → SuitsTable (request_of rows homes values i)
unfolding request_of
checked_suits rows count homes values i suited =
    record { classes = all_suits rows homes values (classes i.op) i.args suited.classes; ruled = rule_suits rows homes values i.op i.args suited.classes suited.ruled }
