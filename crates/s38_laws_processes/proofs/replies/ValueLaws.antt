-- A value that comes back suits the variable that gets it.
use Rattle.std.proofs.Common.{◌∙◌, ◌∷◌, ◌≡◌, Bool, List, [], ap, arith, cond, false, refl, subst, sym, true, ℕ}
use Rattle.std.proofs.lemmas.Bool.Decides.{nat_tests}
use Rattle.std.proofs.lemmas.Bool.{and_parts}
use Rattle.std.specs.Prelude.{IfSome, None, Option, Some, not, slice_get}
use Rattle.s38_base.specs.Attributes.{is_numeric, is_pointer_attr, length_of}
use Rattle.s38_base.specs.declared.attr.Attr.TheVariants as attrs
use Rattle.s38_base.specs.declared.attr.Attr.{Attr}
use Rattle.s38_base.specs.declared.op.Op.{Op}
use Rattle.s38_base.specs.declared.pointer.Pointer.{Pointer}
use Rattle.s38_code.specs.Operations.{classes, operand_rule}
use Rattle.s38_code.specs.declared.class.Class.TheVariants.{BytesReceiver, CellsReceiver, NumberReceiver, PointerReceiver}
use Rattle.s38_code.specs.declared.class.Class.{Class}
use Rattle.s38_code.specs.declared.operand.Operand.TheVariants as operands
use Rattle.s38_code.specs.declared.operand.Operand.{Operand}
use Rattle.s38_code.specs.declared.program.Arg.TheVariants as args
use Rattle.s38_code.specs.declared.program.Arg.{Arg}
use Rattle.s38_code.specs.declared.program.Form.TheVariants as forms
use Rattle.s38_code.specs.declared.program.Form.{Form}
use Rattle.s38_code.specs.declared.program.Row.{Row}
use Rattle.s38_code.specs.declared.reply.Val.TheVariants as vals
use Rattle.s38_code.specs.declared.reply.Val.{Val}
use Rattle.s38_code.specs.declared.rule.OperandRule.TheVariants.{ShortBinary}
use Rattle.s38_code.specs.declared.rule.OperandRule.{OperandRule}
use Rattle.s38_local.specs.Law.{HavePlaces, shape_at, shape_for, shapes_of}
use Rattle.s38_local.specs.Variables.{form_in, is_based}
use Rattle.s38_odt.specs.OperandRules.{is_short_binary, keeps_rule}
use Rattle.s38_odt.specs.Suits.{all_suit, form_suits, item_suits, suits}
use Rattle.s38_odt.specs.OperandAttributes.{are_bytes, form_attr, has_cells, is_attr_of_pointer, is_numeric_attr, item_attr}
use Rattle.s38_process.specs.Lawful.{SuitValues, SuitsPlace}
use Rattle.s38_requests.specs.Requests.{item_by, operand_of, operands_of}
use Rattle.s38_rules.specs.families.Computing.{receiver_at}
use Rattle.s38_rules.specs.ask.Operands.{place}
use Rattle.s38_rules.specs.state.State.{State}
use Rattle.s38_laws_processes.proofs.replies.FillLaws.{Fills, IsLocal, asks_two, first_gets_bytes, first_gets_number, first_gets_pointer, goes_back}
use Rattle.s38_laws_processes.proofs.replies.NoValueLaws.{nothing_suits, back_suits}
use Rattle.s38_laws_processes.proofs.replies.ShapeLaws.{bytes_place, pointer_place}
use Rattle.s38_laws_processes.proofs.replies.ReceiverLaws.{Back, IsItem, first_suits, item_is}

-- ---- by the class of the first operand

not_true : {b : Bool} → b ≡ true → b ≡ false → ⊥
not_true h n = cc

-- bytes go to what takes no pointer
bytes_go : (op : Op) (ops : List Operand) (values : List Val) (o : Option ℕ) (attr : Attr) (x : Val) → first_gets_pointer (classes op) ≡ false → goes_back op ≡ false → is_pointer_attr attr ≡ false
    → shape_at (shapes_of values) o ≡ Some (shape_for attr) → IsLocal op ops attr → Fills op ops x → SuitsPlace op values o x
bytes_go op ops values o attr (vals.Bytes bytes) none forth scalar holds local fills = bytes_place op values o attr bytes scalar holds (fills.1 attr local)
bytes_go op ops values o attr (vals.Ptr p) none forth scalar holds local fills = absurd (not_true fills.0 none)
bytes_go op ops values o attr (vals.Branch taken) none forth scalar holds local fills = absurd (not_true fills.0 forth)
bytes_go op ops values o attr (vals.Code program) none forth scalar holds local fills = absurd (not_true fills.0 forth)

-- and a pointer to what takes no bytes
pointer_goes : (op : Op) (ops : List Operand) (values : List Val) (o : Option ℕ) (attr : Attr) (x : Val) → first_gets_bytes (classes op) ≡ false → goes_back op ≡ false → is_pointer_attr attr ≡ true
    → shape_at (shapes_of values) o ≡ Some (shape_for attr) → Fills op ops x → SuitsPlace op values o x
pointer_goes op ops values o attr (vals.Bytes bytes) none forth pointer holds fills = absurd (not_true fills.0 none)
pointer_goes op ops values o attr (vals.Ptr p) none forth pointer holds fills = pointer_place op values o attr p pointer holds
pointer_goes op ops values o attr (vals.Branch taken) none forth pointer holds fills = absurd (not_true fills.0 forth)
pointer_goes op ops values o attr (vals.Code program) none forth pointer holds fills = absurd (not_true fills.0 forth)

given_fills : (op : Op) (ops : List Operand) (v : Option Val) (x : Val) → v ≡ Some x → IfSome v (Fills op ops) → Fills op ops x
given_fills op ops v x is fills = subst (λ y. IfSome y (Fills op ops)) is fills

short_length : (attr : Attr) → is_short_binary (Some attr) ≡ true → length_of attr ≡ 2
short_length (attrs.Binary size) short = grind (arith, nat_tests)
short_length (attrs.Packed digits fraction) short = cc
short_length (attrs.Zoned digits fraction) short = cc
short_length (attrs.Chars len) short = cc
short_length attrs.Pointer short = cc

rule_two : (rows : List Row) (rule : OperandRule) (arg : Arg) (rest : List Arg) → asks_two rule ≡ true → keeps_rule rows rule (arg ∷ rest) ≡ true → keeps_rule rows ShortBinary (arg ∷ rest) ≡ true
rule_two rows ShortBinary arg rest asks ruled = ruled
rule_two rows _ arg rest asks ruled = cc

short_by : (rows : List Row) (arg : Arg) (rest : List Arg) (attr : Attr) → item_attr rows arg ≡ Some attr → keeps_rule rows ShortBinary (arg ∷ rest) ≡ true → length_of attr ≡ 2
unfolding keeps_rule
short_by rows (args.Item j) rest attr is ruled = short_length attr (subst (λ x. is_short_binary x ≡ true) is ruled)
short_by rows _ rest attr is ruled = cc

number_of : (o : Option Attr) → is_numeric_attr o ≡ true → (attr : Attr) × ((o ≡ Some attr) × (is_numeric attr ≡ true))
number_of None is = cc
number_of (Some attr) is = (attr, (refl, is))

scalar_of : (o : Option Attr) → are_bytes o ≡ true → (attr : Attr) × ((o ≡ Some attr) × (is_pointer_attr attr ≡ false))
scalar_of None is = cc
scalar_of (Some attr) is = (attr, (refl, by (is_pointer_attr attr) is))
  where
    by : (b : Bool) → not b ≡ true → b ≡ false
    by true h = cc
    by false h = refl

pointer_of : (o : Option Attr) → is_attr_of_pointer o ≡ true → (attr : Attr) × ((o ≡ Some attr) × (is_pointer_attr attr ≡ true))
pointer_of None is = cc
pointer_of (Some attr) is = (attr, (refl, is))

numeric_scalar : (attr : Attr) → is_numeric attr ≡ true → is_pointer_attr attr ≡ false
numeric_scalar attrs.Pointer is = cc
numeric_scalar _ is = refl

-- ---- cells go to a pointer, where it is a variable

-- an item of a form with cells: a pointer, or an item in a space
pub record IsCells (rows : List Row) (arg : Arg) : Type 0 where
  pub item : ℕ
  pub row : Row
  pub is : arg ≡ args.Item item
  pub declared : slice_get rows item ≡ Some row
  pub cells : has_cells row.form ≡ true

cells_by : (rows : List Row) (j : ℕ) (o : Option Row) → slice_get rows j ≡ o → form_suits has_cells o ≡ true → IsCells rows (args.Item j)
cells_by rows j None there is = cc
cells_by rows j (Some row) there is = record { item = j; row = row; is = refl; declared = there; cells = is }

cells_of : (rows : List Row) (arg : Arg) → item_suits has_cells rows arg ≡ true → IsCells rows arg
cells_of rows (args.Item j) is = cells_by rows j (slice_get rows j) refl is
cells_of rows _ is = cc

cells_attr : (form : Form) → has_cells form ≡ true → (attr : Attr) × ((form_attr form ≡ Some attr) × ((is_based (Some form) ≡ false) → is_pointer_attr attr ≡ true))
cells_attr (forms.Local attr first) is = (attr, (refl, λ own. is))
cells_attr (forms.Parm k attr) is = (attr, (refl, λ own. is))
cells_attr (forms.Based base offset attr) is = (attr, (refl, λ own. cc))
cells_attr (forms.Handler code at) is = cc

-- who takes a variable is no item in a space
own_by : (homes : List ℕ) (values : List Val) (j : ℕ) (form : Form) (attr : Attr) → item_by homes values true j (Some form) ≡ operands.Receiver attr → is_based (Some form) ≡ false
own_by homes values j (forms.Local own first) attr is = refl
own_by homes values j (forms.Parm k own) attr is = refl
own_by homes values j (forms.Based base offset own) attr is = cc
own_by homes values j (forms.Handler code at) attr is = refl

-- ---- all classes

-- nothing is given where the first operand gets nothing
none_given : (op : Op) (ops : List Operand) (v : Option Val) → first_gets_bytes (classes op) ≡ false → first_gets_pointer (classes op) ≡ false → goes_back op ≡ false → IfSome v (Fills op ops) → v ≡ None
none_given op ops None bytes pointer forth fills = refl
none_given op ops (Some (vals.Bytes new)) bytes pointer forth fills = absurd (not_true fills.0 bytes)
none_given op ops (Some (vals.Ptr p)) bytes pointer forth fills = absurd (not_true fills.0 pointer)
none_given op ops (Some (vals.Branch taken)) bytes pointer forth fills = absurd (not_true fills.0 forth)
none_given op ops (Some (vals.Code program)) bytes pointer forth fills = absurd (not_true fills.0 forth)

-- of an instruction of these classes what is given suits its receiver
abbrev SuitsGiven : Op → List Class → Type 0
SuitsGiven op cs = (rows : List Row) (homes : List ℕ) (values : List Val) (given : List Arg) (s : State) (shift : ℕ) (v : Option Val) → classes op ≡ cs → goes_back op ≡ false
    → all_suit rows cs given ≡ true → keeps_rule rows (operand_rule op) given ≡ true → HavePlaces rows homes (shapes_of values) → IfSome v (Fills op (operands_of rows homes values cs given))
    → SuitValues op rows homes values cs given (Back s shift (place (operands_of rows homes values cs given) 1) v)

nobody_gets : (op : Op) (cs : List Class) → first_gets_bytes cs ≡ false → first_gets_pointer cs ≡ false → SuitsGiven op cs
nobody_gets op cs bytes pointer rows homes values given s shift v is forth suited ruled held fills =
    let none = none_given op (operands_of rows homes values cs given) v (ap first_gets_bytes is ∙ bytes) (ap first_gets_pointer is ∙ pointer) forth fills in
    subst (λ x. SuitValues op rows homes values cs given (Back s shift (place (operands_of rows homes values cs given) 1) x)) (sym none) (nothing_suits op rows homes values cs given)

number_gets : (op : Op) (more : List Class) → SuitsGiven op (NumberReceiver ∷ more)
unfolding suits
number_gets op more rows homes values [] s shift v is forth suited ruled held fills = cc
number_gets op more rows homes values (arg ∷ rest) s shift v is forth suited ruled held fills =
    let ops = operands_of rows homes values (NumberReceiver ∷ more) (arg ∷ rest) in
    let number = number_of (item_attr rows arg) (and_parts (is_numeric_attr (item_attr rows arg)) (all_suit rows more rest) suited).0 in
    let attr = number.0 in
    first_suits op rows homes values NumberReceiver more arg rest attr s shift v refl held (item_is rows arg attr number.1.0)
    (λ x given o operand holds.
    let local : IsLocal op ops attr = record {
      at = ap Some operand;
      number = λ _. number.1.1;
      short = λ two. short_by rows arg rest attr number.1.0 (rule_two rows (operand_rule op) arg rest two ruled);
    } in
    bytes_go op ops values o attr x (ap first_gets_pointer is) forth (numeric_scalar attr number.1.1) holds local (given_fills op ops v x given fills))

bytes_get : (op : Op) (more : List Class) → SuitsGiven op (BytesReceiver ∷ more)
unfolding suits
bytes_get op more rows homes values [] s shift v is forth suited ruled held fills = cc
bytes_get op more rows homes values (arg ∷ rest) s shift v is forth suited ruled held fills =
    let ops = operands_of rows homes values (BytesReceiver ∷ more) (arg ∷ rest) in
    let scalar = scalar_of (item_attr rows arg) (and_parts (are_bytes (item_attr rows arg)) (all_suit rows more rest) suited).0 in
    let attr = scalar.0 in
    first_suits op rows homes values BytesReceiver more arg rest attr s shift v refl held (item_is rows arg attr scalar.1.0)
    (λ x given o operand holds.
    let local : IsLocal op ops attr = record {
      at = ap Some operand;
      number = λ gets. absurd (not_true gets (ap first_gets_number is));
      short = λ two. short_by rows arg rest attr scalar.1.0 (rule_two rows (operand_rule op) arg rest two ruled);
    } in
    bytes_go op ops values o attr x (ap first_gets_pointer is) forth scalar.1.1 holds local (given_fills op ops v x given fills))

pointer_gets : (op : Op) (more : List Class) → SuitsGiven op (PointerReceiver ∷ more)
unfolding suits
pointer_gets op more rows homes values [] s shift v is forth suited ruled held fills = cc
pointer_gets op more rows homes values (arg ∷ rest) s shift v is forth suited ruled held fills =
    let ops = operands_of rows homes values (PointerReceiver ∷ more) (arg ∷ rest) in
    let pointer = pointer_of (item_attr rows arg) (and_parts (is_attr_of_pointer (item_attr rows arg)) (all_suit rows more rest) suited).0 in
    let attr = pointer.0 in
    first_suits op rows homes values PointerReceiver more arg rest attr s shift v refl held (item_is rows arg attr pointer.1.0)
    (λ x given o operand holds. pointer_goes op ops values o attr x (ap first_gets_bytes is) forth pointer.1.1 holds (given_fills op ops v x given fills))

cells_get : (op : Op) (more : List Class) → SuitsGiven op (CellsReceiver ∷ more)
unfolding suits
cells_get op more rows homes values [] s shift v is forth suited ruled held fills = cc
cells_get op more rows homes values (arg ∷ rest) s shift v is forth suited ruled held fills =
    let ops = operands_of rows homes values (CellsReceiver ∷ more) (arg ∷ rest) in
    let cells = cells_of rows arg (and_parts (item_suits has_cells rows arg) (all_suit rows more rest) suited).0 in
    let form = cells_attr cells.row.form cells.cells in
    let attr = form.0 in
    let it : IsItem rows arg attr = record { item = cells.item; row = cells.row; is = cells.is; declared = cells.declared; declares = form.1.0 } in
    first_suits op rows homes values CellsReceiver more arg rest attr s shift v refl held it
    (λ x given o operand holds.
    let there : item_by homes values true cells.item (Some cells.row.form) ≡ operands.Receiver attr =
    sym (ap (operand_of rows homes values CellsReceiver) cells.is ∙ ap (λ y. item_by homes values true cells.item (form_in y)) cells.declared) ∙ operand in
    pointer_goes op ops values o attr x (ap first_gets_bytes is) forth (form.1.1 (own_by homes values cells.item cells.row.form attr there)) holds (given_fills op ops v x given fills))

class_suits : (op : Op) (cs : List Class) → SuitsGiven op cs
class_suits op [] = nobody_gets op [] refl refl
class_suits op (NumberReceiver ∷ more) = number_gets op more
class_suits op (BytesReceiver ∷ more) = bytes_get op more
class_suits op (PointerReceiver ∷ more) = pointer_gets op more
class_suits op (CellsReceiver ∷ more) = cells_get op more
class_suits op (c ∷ more) = nobody_gets op (c ∷ more) refl refl

forth_receiver : (op : Op) (ops : List Operand) → goes_back op ≡ false → receiver_at op ops ≡ place ops 1
forth_receiver op ops forth = ap (λ b. cond b None (place ops 1)) forth

-- what an instruction gives suits its receiver
pub given_suits : (op : Op) (rows : List Row) (homes : List ℕ) (values : List Val) (given : List Arg) (s : State) (shift : ℕ) (v : Option Val) → all_suit rows (classes op) given ≡ true
    → keeps_rule rows (operand_rule op) given ≡ true → HavePlaces rows homes (shapes_of values) → IfSome v (Fills op (operands_of rows homes values (classes op) given))
    → SuitValues op rows homes values (classes op) given (Back s shift (receiver_at op (operands_of rows homes values (classes op) given)) v)
given_suits op rows homes values given s shift v suited ruled held fills = by (goes_back op) refl
  where
    ops : List Operand
    ops = operands_of rows homes values (classes op) given

    by : (b : Bool) → goes_back op ≡ b → SuitValues op rows homes values (classes op) given (Back s shift (receiver_at op ops) v)
    by true back = back_suits op rows homes values given (Back s shift (receiver_at op ops) v) back
    by false forth = subst (λ r. SuitValues op rows homes values (classes op) given (Back s shift r v)) (sym (forth_receiver op ops forth))
        (class_suits op (classes op) rows homes values given s shift v refl forth suited ruled held fills)
