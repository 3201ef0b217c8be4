-- Operands that suit the rows of numbers are numbers.
use Rattle.std.proofs.Common.{◌≡◌, ◌&&◌, ◌||◌, true, false, List, [], ◌∷◌, Option, Some, None, refl}
use Rattle.std.specs.Option.{unwrap_or}
use Rattle.s38_base.specs.Attributes.{is_numeric}
use Rattle.s38_base.specs.declared.attr.Attr.{Attr}
use Rattle.s38_base.specs.declared.attr.Attr.TheVariants.{Pointer}
use Rattle.s38_base.specs.declared.op.Op.{Op}
use Rattle.s38_base.specs.declared.op.Op.TheVariants.{Addn, Subn, Mult, Div, Rem, Neg, Cpynv, Scale, Cmpnvb}
use Rattle.s38_code.specs.Operations.{classes}
use Rattle.s38_code.specs.declared.class.Class.{Class}
use Rattle.s38_code.specs.declared.class.Class.TheVariants.{NumberSource, NumberReceiver, Constant, Keyword}
use Rattle.s38_code.specs.declared.class.Constant.TheVariants.{Label, Power}
use Rattle.s38_code.specs.declared.class.Keyword.TheVariants.{Comparison}
use Rattle.s38_code.specs.declared.program.Arg.{Arg}
use Rattle.s38_code.specs.declared.program.Arg.TheVariants.{Item}
use Rattle.s38_code.specs.declared.program.Row.{Row}
use Rattle.s38_odt.specs.Suits.{all_suit, suits}
use Rattle.s38_odt.specs.OperandAttributes.{is_numeric_attr, item_attr, operand_attr}
use Rattle.s38_odt.specs.OperandRules.{argument_number_at, operands_fit}
use Rattle.s38_decimal.specs.Need.{has_one, has_second}
use Rattle.s38_create.proofs.Parts.{and-both}

number-numeric : (o : Option Attr) → is_numeric_attr o ≡ true → is_numeric (unwrap_or o Pointer) ≡ true
number-numeric None h = absurd (let e : false ≡ true = h in cc)
number-numeric (Some attr) h = h

item-operand : (rows : List Row) (arg : Arg) → is_numeric_attr (item_attr rows arg) ≡ true → is_numeric_attr (operand_attr rows arg) ≡ true
item-operand rows (Item item) h = h
item-operand rows arg h = absurd (let e : false ≡ true = h in cc)

-- a receiver and a source
pub received-numbers : (rows : List Row) (more : List Class) (args : List Arg) → all_suit rows (NumberReceiver ∷ NumberSource ∷ more) args ≡ true →
    (is_numeric (argument_number_at rows args 0) ≡ true) × (is_numeric (argument_number_at rows args 1) ≡ true)
unfolding suits
received-numbers rows more [] h = absurd (let e : false ≡ true = h in cc)
received-numbers rows more (a ∷ []) h = absurd (let e : false ≡ true = (and-both (is_numeric_attr (item_attr rows a)) false h).1 in cc)
received-numbers rows more (a ∷ b ∷ rest) h =
    let first = and-both (is_numeric_attr (item_attr rows a)) (is_numeric_attr (operand_attr rows b) && all_suit rows more rest) h in
    let second = and-both (is_numeric_attr (operand_attr rows b)) (all_suit rows more rest) first.1 in
    (number-numeric (operand_attr rows a) (item-operand rows a first.0), number-numeric (operand_attr rows b) second.0)

-- and a second source
pub third-number : (rows : List Row) (args : List Arg) → all_suit rows (NumberReceiver ∷ NumberSource ∷ NumberSource ∷ []) args ≡ true →
    is_numeric (argument_number_at rows args 2) ≡ true
unfolding suits
third-number rows [] h = absurd (let e : false ≡ true = h in cc)
third-number rows (a ∷ []) h = absurd (let e : false ≡ true = (and-both (is_numeric_attr (item_attr rows a)) false h).1 in cc)
third-number rows (a ∷ b ∷ []) h =
    let first = and-both (is_numeric_attr (item_attr rows a)) (is_numeric_attr (operand_attr rows b) && false) h in
    absurd (let e : false ≡ true = (and-both (is_numeric_attr (operand_attr rows b)) false first.1).1 in cc)
third-number rows (a ∷ b ∷ d ∷ rest) h =
    let first = and-both (is_numeric_attr (item_attr rows a)) (is_numeric_attr (operand_attr rows b) && (is_numeric_attr (operand_attr rows d) && all_suit rows [] rest)) h in
    let second = and-both (is_numeric_attr (operand_attr rows b)) (is_numeric_attr (operand_attr rows d) && all_suit rows [] rest) first.1 in
    let third = and-both (is_numeric_attr (operand_attr rows d)) (all_suit rows [] rest) second.1 in
    number-numeric (operand_attr rows d) third.0

-- two sources
pub compared-numbers : (rows : List Row) (more : List Class) (args : List Arg) → all_suit rows (NumberSource ∷ NumberSource ∷ more) args ≡ true →
    (is_numeric (argument_number_at rows args 0) ≡ true) × (is_numeric (argument_number_at rows args 1) ≡ true)
unfolding suits
compared-numbers rows more [] h = absurd (let e : false ≡ true = h in cc)
compared-numbers rows more (a ∷ []) h = absurd (let e : false ≡ true = (and-both (is_numeric_attr (operand_attr rows a)) false h).1 in cc)
compared-numbers rows more (a ∷ b ∷ rest) h =
    let first = and-both (is_numeric_attr (operand_attr rows a)) (is_numeric_attr (operand_attr rows b) && all_suit rows more rest) h in
    let second = and-both (is_numeric_attr (operand_attr rows b)) (all_suit rows more rest) first.1 in
    (number-numeric (operand_attr rows a) first.0, number-numeric (operand_attr rows b) second.0)

fits-all_suit : (rows : List Row) (op : Op) (args : List Arg) → operands_fit rows op args ≡ true → all_suit rows (classes op) args ≡ true
unfolding operands_fit
fits-all_suit rows op args h = (and-both (all_suit rows (classes op) args) _ h).0

-- the first two operands of an instruction that computes are numbers
pub first-numbers : (rows : List Row) (op : Op) (args : List Arg) → (has_one op || has_second op) ≡ true → operands_fit rows op args ≡ true →
    (is_numeric (argument_number_at rows args 0) ≡ true) × (is_numeric (argument_number_at rows args 1) ≡ true)
unfolding classes
first-numbers rows Addn args computes h = received-numbers rows (NumberSource ∷ []) args (fits-all_suit rows Addn args h)
first-numbers rows Subn args computes h = received-numbers rows (NumberSource ∷ []) args (fits-all_suit rows Subn args h)
first-numbers rows Mult args computes h = received-numbers rows (NumberSource ∷ []) args (fits-all_suit rows Mult args h)
first-numbers rows Div args computes h = received-numbers rows (NumberSource ∷ []) args (fits-all_suit rows Div args h)
first-numbers rows Rem args computes h = received-numbers rows (NumberSource ∷ []) args (fits-all_suit rows Rem args h)
first-numbers rows Neg args computes h = received-numbers rows [] args (fits-all_suit rows Neg args h)
first-numbers rows Cpynv args computes h = received-numbers rows [] args (fits-all_suit rows Cpynv args h)
first-numbers rows Scale args computes h = received-numbers rows (Constant Power ∷ []) args (fits-all_suit rows Scale args h)
first-numbers rows Cmpnvb args computes h = compared-numbers rows (Keyword Comparison ∷ Constant Label ∷ []) args (fits-all_suit rows Cmpnvb args h)
first-numbers rows op args computes h = absurd (let e : false ≡ true = computes in cc)

-- so is the third where the instruction has two sources beside its receiver
pub second-source : (rows : List Row) (op : Op) (args : List Arg) → has_second op ≡ true → (op ≡ Cmpnvb → ⊥) → operands_fit rows op args ≡ true →
    is_numeric (argument_number_at rows args 2) ≡ true
unfolding classes
second-source rows Addn args two other h = third-number rows args (fits-all_suit rows Addn args h)
second-source rows Subn args two other h = third-number rows args (fits-all_suit rows Subn args h)
second-source rows Mult args two other h = third-number rows args (fits-all_suit rows Mult args h)
second-source rows Div args two other h = third-number rows args (fits-all_suit rows Div args h)
second-source rows Rem args two other h = third-number rows args (fits-all_suit rows Rem args h)
second-source rows Cmpnvb args two other h = absurd (other refl)
second-source rows op args two other h = absurd (let e : false ≡ true = two in cc)
