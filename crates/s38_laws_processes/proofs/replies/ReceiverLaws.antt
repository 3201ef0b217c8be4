-- The operand that gets a value, and what an instruction gives to its first operand.
use Rattle.std.proofs.Common.{◌∙◌, ◌∷◌, ◌≡◌, ◌⊎◌, List, [], ap, false, inl, inr, refl, subst, sym, true, ℕ}
use Rattle.std.proofs.lemmas.Option.{same_Some}
use Rattle.std.specs.Option.{option_and_then}
use Rattle.std.specs.Prelude.{◌&&◌, None, Option, Some, not, slice_get}
use Rattle.s38_base.specs.declared.attr.Attr.{Attr}
use Rattle.s38_base.specs.declared.op.Op.{Op}
use Rattle.s38_base.specs.declared.pointer.Pointer.{Pointer}
use Rattle.s38_code.specs.declared.class.Class.{Class}
use Rattle.s38_code.specs.declared.operand.Operand.TheVariants as operands
use Rattle.s38_code.specs.declared.operand.Operand.{Operand}
use Rattle.s38_code.specs.declared.program.Arg.TheVariants as args
use Rattle.s38_code.specs.declared.program.Arg.{Arg}
use Rattle.s38_code.specs.declared.program.Form.TheVariants as forms
use Rattle.s38_code.specs.declared.program.Form.{Form}
use Rattle.s38_code.specs.declared.program.Row.{Row}
use Rattle.s38_code.specs.declared.reply.Val.{Val}
use Rattle.s38_local.specs.Law.{HasShape, HavePlaces, Shape, shape_at, shape_for, shapes_of}
use Rattle.s38_local.specs.Variables.{form_in, is_based, item_place, value_of_item, value_pointer}
use Rattle.s38_odt.specs.Suits.{suits}
use Rattle.s38_odt.specs.OperandAttributes.{form_attr, item_attr}
use Rattle.s38_process.specs.Lawful.{SuitValues, SuitsPlace}
use Rattle.s38_process.specs.Replies.{takes_value}
use Rattle.s38_requests.specs.Requests.{is_receiver, item_by, operand_of}
use Rattle.s38_rules.specs.ask.Receivers.{delivered}
use Rattle.s38_rules.specs.state.State.{State}
use Rattle.s38_laws_processes.proofs.replies.NoValueLaws.{nothing_suits, taken_by}

-- an item that is declared with an attribute
pub record IsItem (rows : List Row) (a : Arg) (attr : Attr) : Type 0 where
  pub item : ℕ
  pub row : Row
  pub is : a ≡ args.Item item
  pub declared : slice_get rows item ≡ Some row
  pub declares : form_attr row.form ≡ Some attr

item_by_row : (rows : List Row) (j : ℕ) (attr : Attr) (o : Option Row) → slice_get rows j ≡ o → option_and_then (λ (x : Row). form_attr x.form) o ≡ Some attr → IsItem rows (args.Item j) attr
item_by_row rows j attr None there is = cc
item_by_row rows j attr (Some row) there is = record { item = j; row = row; is = refl; declared = there; declares = is }

pub item_is : (rows : List Row) (a : Arg) (attr : Attr) → item_attr rows a ≡ Some attr → IsItem rows a attr
item_is rows (args.Item j) attr is = item_by_row rows j attr (slice_get rows j) refl is
item_is rows _ attr is = cc

-- it lies in a space, or is a variable that holds what it declares
pub record IsVariable (homes : List ℕ) (values : List Val) (j : ℕ) (form : Form) (attr : Attr) : Type 0 where
  pub own : is_based (Some form) ≡ false
  pub operand : item_by homes values true j (Some form) ≡ operands.Receiver attr
  pub holds : (shape : Option Shape) → HasShape form shape → shape ≡ Some (shape_for attr)

pub record IsInSpace (homes : List ℕ) (values : List Val) (j : ℕ) (form : Form) (attr : Attr) : Type 0 where
  pub base : Option Pointer
  pub offset : ℕ
  pub operand : item_by homes values true j (Some form) ≡ operands.InSpace base offset attr

pub variable_or_space : (homes : List ℕ) (values : List Val) (j : ℕ) (form : Form) (attr : Attr) → form_attr form ≡ Some attr → IsVariable homes values j form attr ⊎ IsInSpace homes values j form attr
variable_or_space homes values j (forms.Local own first) attr is =
    let same : own ≡ attr = same_Some own attr is in
    inl (record { own = refl; operand = ap operands.Receiver same; holds = λ shape h. h ∙ ap (λ a. Some (shape_for a)) same })
variable_or_space homes values j (forms.Parm k own) attr is =
    let same : own ≡ attr = same_Some own attr is in
    inl (record { own = refl; operand = ap operands.Receiver same; holds = λ shape h. h ∙ ap (λ a. Some (shape_for a)) same })
variable_or_space homes values j (forms.Based base offset own) attr is =
    let same : own ≡ attr = same_Some own attr is in
    let there = value_pointer (value_of_item homes values base) in
    inr (record { base = there; offset = offset; operand = ap (λ a. operands.InSpace there offset a) same })
variable_or_space homes values j (forms.Handler code at) attr is = cc

-- the values that come back of one that is given
abbrev pub Back : State → ℕ → Option Operand → Option Val → List Val
Back s shift receiver v = (delivered s shift receiver v).values

in_space_back : (s : State) (shift : ℕ) (base : Option Pointer) (offset : ℕ) (attr : Attr) (v : Option Val) → Back s shift (Some (operands.InSpace base offset attr)) v ≡ []
in_space_back s shift base offset attr None = refl
in_space_back s shift base offset attr (Some v) = refl

-- what suits one value, and none, suits what comes back
back_by : (P : List Val → Type 0) (s : State) (shift : ℕ) (receiver : Option Operand) (v : Option Val) → P [] → ((x : Val) → v ≡ Some x → P (x ∷ [])) → P (Back s shift receiver v)
back_by P s shift receiver None none one = none
back_by P s shift (Some (operands.InSpace base offset attr)) (Some x) none one = none
back_by P s shift _ (Some x) none one = one x refl

-- an item that gets a value: where it is a variable, what suits its place suits it
pub first_suits : (op : Op) (rows : List Row) (homes : List ℕ) (values : List Val) (class : Class) (more : List Class) (arg : Arg) (rest : List Arg) (attr : Attr) (s : State) (shift : ℕ) (v : Option Val)
    → is_receiver class ≡ true → HavePlaces rows homes (shapes_of values) → IsItem rows arg attr
    → ((x : Val) → v ≡ Some x → (o : Option ℕ) → operand_of rows homes values class arg ≡ operands.Receiver attr → shape_at (shapes_of values) o ≡ Some (shape_for attr) → SuitsPlace op values o x)
    → SuitValues op rows homes values (class ∷ more) (arg ∷ rest) (Back s shift (Some (operand_of rows homes values class arg)) v)
first_suits op rows homes values class more arg rest attr s shift v gets held it suits =
    elim (variable_or_space homes values it.item it.row.form attr it.declares) as (λ _. P (Back s shift (Some (operand_of rows homes values class arg)) v)) [
      | inl variable ↦ back_by P s shift (Some (operand_of rows homes values class arg)) v none (λ x is.
          let at : item_place homes (Some arg) ≡ slice_get homes it.item = ap (λ a. item_place homes (Some a)) it.is in
          let shape = variable.holds (shape_at (shapes_of values) (slice_get homes it.item)) (held.each it.item it.row it.declared) in
          let goes = subst (λ o. SuitsPlace op values o x) (sym at) (suits x is (slice_get homes it.item) (operand ∙ variable.operand) shape) in
          let takes : takes_value rows class arg ≡ true =
          ap (λ a. takes_value rows class a) it.is ∙ ap (λ b. b && not (is_based (form_in (slice_get rows it.item)))) gets ∙ ap (λ o. not (is_based (form_in o))) it.declared ∙ ap not variable.own in
          taken_by (takes_value rows class arg) _ _ takes (goes, nothing_suits op rows homes values more rest))
      | inr space ↦
          let back : Back s shift (Some (operand_of rows homes values class arg)) v ≡ [] =
          ap (λ x. Back s shift (Some x) v) (operand ∙ space.operand) ∙ in_space_back s shift space.base space.offset attr v in
          subst P (sym back) none
    ]
  where
    P : List Val → Type 0
    P vs = SuitValues op rows homes values (class ∷ more) (arg ∷ rest) vs

    none : P []
    none = nothing_suits op rows homes values (class ∷ more) (arg ∷ rest)

    operand : operand_of rows homes values class arg ≡ item_by homes values true it.item (Some it.row.form)
    operand =
        ap (operand_of rows homes values class) it.is ∙ ap (λ b. item_by homes values b it.item (form_in (slice_get rows it.item))) gets
        ∙ ap (λ o. item_by homes values true it.item (form_in o)) it.declared
