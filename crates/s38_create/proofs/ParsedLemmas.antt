-- What words say: literals have the bytes of their attribute, and jumps stay in the code.
use Rattle.std.proofs.Common.{inl, inr, ◌≡◌, ◌+◌, ◌/◌, ◌&&◌, ℕ, Bool, true, List, [], ◌∷◌, ◌++◌, length, Option, Some, None, refl, ◌∙◌, ap, subst, arith, eq-eqb, le-leb}
use Rattle.std.specs.List.{list_all}
use Rattle.std.specs.Bool.{nat_le}
use Rattle.std.specs.Option.{option_map, option_or}
use Rattle.std.proofs.lemmas.List.Folds.{list_all-append}
use Rattle.std.proofs.lemmas.List.FromFn.{length-map-range_with_len}
use Rattle.s38_base.specs.Scalar.{packed_byte, scalar_image}
use Rattle.s38_base.specs.declared.attr.Attr.TheVariants.{Chars}
use Rattle.s38_words.specs.Literal.{number_literal, packed_number, text_from, text_literal, text_of}
use Rattle.s38_words.specs.Number.{number_spelled}
use Rattle.s38_code.specs.declared.class.Class.{Class}
use Rattle.s38_code.specs.declared.class.Class.TheVariants.{NumberSource, NumberReceiver, BytesSource, BytesOrNone, BytesReceiver, PointerSource, PointerReceiver, CellsSource, CellsReceiver, Context, ContextOrList, PointerOrNone, UserOrPublic, Handler, Argument, Constant, Keyword}
use Rattle.s38_code.specs.declared.class.Constant.{Constant as ConstantClass}
use Rattle.s38_code.specs.declared.class.Constant.TheVariants as constants
use Rattle.s38_code.specs.declared.class.Keyword.{Keyword as KeywordClass}
use Rattle.s38_code.specs.declared.class.Keyword.TheVariants as keywords
use Rattle.s38_code.specs.declared.program.Arg.{Arg}
use Rattle.s38_code.specs.declared.program.Arg.TheVariants as args
use Rattle.s38_code.specs.declared.program.Row.{Row}
use Rattle.s38_words.specs.Attribute.{attr_spelled, attrs_of}
use Rattle.s38_words.specs.Name.{declared_name, exception_code_of, id_spelled}
use Rattle.s38_words.specs.Number.{natural_of, whole_spelled}
use Rattle.s38_words.specs.Row.{lock_state_of, order_spelled, pointer_kind_of, relation_spelled, rights_spelled, seek_spelled, specials_of, switch_of, wait_of}
use Rattle.s38_words.specs.Text.{after_byte, before, is_word}
use Rattle.std.specs.Prelude.{codes}
use Rattle.s38_odt.specs.Table.{place_in}
use Rattle.s38_odt.proofs.LabelLemmas.{label_in-bound}
use Rattle.s38_create.proofs.Parts.{if-some, and_then-some, map-some, or-some}
use Rattle.s38_odt.specs.Labels.{instruction_count, label_in}
use Rattle.s38_create.specs.Parsed.{arg_of, parsed_argument, parsed_bytes, parsed_constant, parsed_from, parsed_item, parsed_keyword, parsed_label, parsed_number, parsed_operand, parsed_star, parsed_word, power_bounded, size_arg}
use Rattle.s38_odt.specs.Suited.{is_filled, lands_in}
use Rattle.s38_odt.specs.Suits.{class_is_argument}
use Rattle.s38_create.specs.declared.parsed.ParsedOperand.{ParsedOperand}
use Rattle.s38_create.specs.declared.parsed.ParsedOperand.TheVariants as parsed_as

-- an operand that keeps both rules, in code of so many instructions
pub record IsGood (count : ℕ) (arg : Arg) : Type 0 where
  pub filled : is_filled arg ≡ true
  pub lands : lands_in count arg ≡ true

abbrev Good : ℕ → Option ParsedOperand → Type 0
Good count o = (operand : ParsedOperand) → o ≡ Some operand → IsGood count (arg_of operand)

-- what is mapped to good operands is good
map-good : {A : Type 0} (count : ℕ) (f : A → ParsedOperand) (o : Option A) → ((x : A) → o ≡ Some x → IsGood count (arg_of (f x))) → Good count (option_map f o)
map-good count f o each operand h =
    let made = map-some f o operand h in
    let P : ParsedOperand → Type 0 = λ s. IsGood count (arg_of s) in
    subst P made.2 (each made.0 made.1)

or-good : (count : ℕ) (o p : Option ParsedOperand) → Good count o → Good count p → Good count (option_or o p)
or-good count o p first second operand h =
    elim (or-some o p operand h) as (λ _. IsGood count (arg_of operand)) [ inl e ↦ first operand e | inr e ↦ second operand e ]

item-good : (count : ℕ) (rows : List Row) (word : List ℕ) → Good count (parsed_item rows word)
item-good count rows word =
    map-good count (λ name. parsed_as.Item (place_in rows name)) (declared_name word)
    (λ name _. elim (place_in rows name) as (λ o. IsGood count (arg_of (parsed_as.Item o))) [
      | None ↦ record { filled = refl; lands = refl }
      | Some item ↦ record { filled = refl; lands = refl }
    ])

jump-good : (code : List (List ℕ)) (name : List ℕ) (o : Option ℕ) → label_in code name ≡ o → IsGood (instruction_count code) (arg_of (parsed_as.Label o))
jump-good code name None is = record { filled = refl; lands = le-leb 0 (instruction_count code) (omega arith) }
jump-good code name (Some at) is = record { filled = refl; lands = le-leb at (instruction_count code) (label_in-bound code name at is) }

label-good : (code : List (List ℕ)) (word : List ℕ) → Good (instruction_count code) (parsed_label code word)
label-good code word =
    map-good (instruction_count code) (λ name. parsed_as.Label (label_in code name)) (declared_name word) (λ name _. jump-good code name (label_in code name) refl)

star-good : (count : ℕ) (star : List ℕ) (arg : Arg) (word : List ℕ) → IsGood count arg → Good count (parsed_star star arg word)
star-good count star arg word good operand h =
    let parts = if-some (is_word star word) (Some (parsed_as.Given arg)) operand h in
    let same : parsed_as.Given arg ≡ operand = cc in
    let P : ParsedOperand → Type 0 = λ s. IsGood count (arg_of s) in
    subst P same good

-- ---- literals

packed-good : (count : ℕ) (text : List ℕ) (arg : Arg) → number_literal text ≡ Some arg → IsGood count arg
unfolding number_literal scalar_image
packed-good count text arg h =
    let made = map-some packed_number (number_spelled text) arg h in
    let P : Arg → Type 0 = λ a. IsGood count a in
    subst P made.2 (record {
      filled = eq-eqb _ _ (length-map-range_with_len (packed_byte (made.0.digits / 2) made.0.units) 0 (made.0.digits / 2 + 1));
      lands = refl;
    })

text-good : (count : ℕ) (text : List ℕ) (arg : Arg) → text_literal text ≡ Some arg → IsGood count arg
unfolding text_literal
text-good count text arg h =
    let made = and_then-some text_from (text_of text) arg h in
    let parts = if-some (nat_le (length made.0) 255) (Some (args.Literal (Chars (length made.0)) made.0)) arg made.2 in
    let same : args.Literal (Chars (length made.0)) made.0 ≡ arg = (let e = parts.1 in cc) in
    let P : Arg → Type 0 = λ a. IsGood count a in
    subst P same (record { filled = eq-eqb (length made.0) (length made.0) refl; lands = refl })

given-good : (count : ℕ) (o : Option Arg) → ((arg : Arg) → o ≡ Some arg → IsGood count arg) → Good count (parsed_argument o)
given-good count o each = map-good count (λ arg. parsed_as.Given arg) o each

number-good : (count : ℕ) (rows : List Row) (word : List ℕ) → Good count (parsed_number rows word)
number-good count rows word =
    or-good count (parsed_item rows word) (parsed_argument (number_literal word)) (item-good count rows word) (given-good count (number_literal word) (packed-good count word))

bytes-good : (count : ℕ) (rows : List Row) (word : List ℕ) → Good count (parsed_bytes rows word)
bytes-good count rows word =
    or-good count (parsed_item rows word) (parsed_argument (text_literal word)) (item-good count rows word) (given-good count (text_literal word) (text-good count word))

-- ---- words

word-good : (count : ℕ) (o : Option ℕ) → Good count (parsed_word o)
word-good count o = map-good count (λ n. parsed_as.Given (args.Word n)) o (λ n _. record { filled = refl; lands = refl })

star-or-good : (count : ℕ) (rows : List Row) (star : List ℕ) (arg : Arg) (word : List ℕ) → IsGood count arg → Good count (option_or (parsed_star star arg word) (parsed_item rows word))
star-or-good count rows star arg word good =
    or-good count (parsed_star star arg word) (parsed_item rows word) (star-good count star arg word good) (item-good count rows word)

-- ---- by class

constant-good : (code : List (List ℕ)) (constant : ConstantClass) (word : List ℕ) → Good (instruction_count code) (parsed_constant code constant word)
unfolding parsed_constant
constant-good code constants.Identification word = map-good (instruction_count code) (λ id. parsed_as.Given (args.Ident id)) (id_spelled word) (λ id _. record { filled = refl; lands = refl })
constant-good code constants.Label word = label-good code word
constant-good code constants.Whole word = map-good (instruction_count code) (λ n. parsed_as.Given (size_arg n)) (natural_of word) (λ n _. record { filled = refl; lands = refl })
constant-good code constants.Power word = map-good (instruction_count code) (λ z. parsed_as.Given (args.Whole (power_bounded z))) (whole_spelled word) (λ z _. record { filled = refl; lands = refl })
constant-good code constants.Attribute word = map-good (instruction_count code) (λ attr. parsed_as.Given (args.Attrs (attr ∷ []))) (attr_spelled word) (λ attr _. record { filled = refl; lands = refl })
constant-good code constants.Attributes word = map-good (instruction_count code) (λ attrs. parsed_as.Given (args.Attrs attrs)) (attrs_of word) (λ attrs _. record { filled = refl; lands = refl })
constant-good code constants.ExceptionCode word = word-good (instruction_count code) (exception_code_of word)
constant-good code constants.TemplateName word = map-good (instruction_count code) (λ name. parsed_as.Given (args.Text name)) (declared_name word) (λ name _. record { filled = refl; lands = refl })
constant-good code constants.JobName word = map-good (instruction_count code) (λ name. parsed_as.Given (args.Text name)) (declared_name word) (λ name _. record { filled = refl; lands = refl })

keyword-good : (count : ℕ) (keyword : KeywordClass) (word : List ℕ) → Good count (parsed_keyword keyword word)
unfolding parsed_keyword
keyword-good count keywords.Rights word = word-good count (rights_spelled word)
keyword-good count keywords.Specials word = word-good count (specials_of word)
keyword-good count keywords.LockState word = word-good count (lock_state_of word)
keyword-good count keywords.Wait word = word-good count (wait_of word)
keyword-good count keywords.Relation word = word-good count (relation_spelled word)
keyword-good count keywords.Comparison word = word-good count (relation_spelled word)
keyword-good count keywords.Order word = word-good count (order_spelled word)
keyword-good count keywords.Seek word = word-good count (seek_spelled word)
keyword-good count keywords.PointerKind word = word-good count (pointer_kind_of word)
keyword-good count keywords.Switch word = word-good count (switch_of word)

pub parsed_operand-good : (rows : List Row) (code : List (List ℕ)) (class : Class) (word : List ℕ) → Good (instruction_count code) (parsed_operand rows code class word)
unfolding parsed_operand
parsed_operand-good rows code NumberSource word = number-good (instruction_count code) rows word
parsed_operand-good rows code NumberReceiver word = item-good (instruction_count code) rows word
parsed_operand-good rows code BytesSource word = bytes-good (instruction_count code) rows word
parsed_operand-good rows code BytesOrNone word =
    or-good (instruction_count code) (parsed_star (codes "*NONE") args.Nothing word) (parsed_bytes rows word)
    (star-good (instruction_count code) (codes "*NONE") args.Nothing word (record { filled = refl; lands = refl })) (bytes-good (instruction_count code) rows word)
parsed_operand-good rows code BytesReceiver word = item-good (instruction_count code) rows word
parsed_operand-good rows code PointerSource word = item-good (instruction_count code) rows word
parsed_operand-good rows code PointerReceiver word = item-good (instruction_count code) rows word
parsed_operand-good rows code CellsSource word = item-good (instruction_count code) rows word
parsed_operand-good rows code CellsReceiver word = item-good (instruction_count code) rows word
parsed_operand-good rows code Context word = star-or-good (instruction_count code) rows (codes "*MACHINE") args.MachineContext word (record { filled = refl; lands = refl })
parsed_operand-good rows code ContextOrList word =
    or-good (instruction_count code) (parsed_star (codes "*LIST") args.ContextList word) (option_or (parsed_star (codes "*MACHINE") args.MachineContext word) (parsed_item rows word))
    (star-good (instruction_count code) (codes "*LIST") args.ContextList word (record { filled = refl; lands = refl }))
    (star-or-good (instruction_count code) rows (codes "*MACHINE") args.MachineContext word (record { filled = refl; lands = refl }))
parsed_operand-good rows code PointerOrNone word = star-or-good (instruction_count code) rows (codes "*NONE") args.Nothing word (record { filled = refl; lands = refl })
parsed_operand-good rows code UserOrPublic word = star-or-good (instruction_count code) rows (codes "*PUBLIC") args.Nothing word (record { filled = refl; lands = refl })
parsed_operand-good rows code Handler word = item-good (instruction_count code) rows word
parsed_operand-good rows code Argument word = item-good (instruction_count code) rows word
parsed_operand-good rows code (Constant constant) word = constant-good code constant word
parsed_operand-good rows code (Keyword keyword) word = keyword-good (instruction_count code) keyword word

-- ---- by row

-- a test that all words pass
all-one : (p : ParsedOperand → Bool) (parsed : List ParsedOperand) (operand : ParsedOperand) → list_all p parsed ≡ true → p operand ≡ true → list_all p (parsed ++ operand ∷ []) ≡ true
all-one p parsed operand all one =
    list_all-append p parsed (operand ∷ []) ∙ (ap (λ b. b && (p operand && true)) all ∙ ap (λ b. b && true) one)

parsed_from-step : (p : ParsedOperand → Bool) (rows : List Row) (code : List (List ℕ)) (parsed : List ParsedOperand) (class : Class) (later : List Class) (text : List ℕ) (out : List ParsedOperand) →
    ((operand : ParsedOperand) → parsed_operand rows code class (before 44 text) ≡ Some operand → p operand ≡ true) →
    ((parsed : List ParsedOperand) (text : Option (List ℕ)) → list_all p parsed ≡ true → parsed_from rows code parsed later text ≡ Some out → list_all p out ≡ true) →
    list_all p parsed ≡ true → parsed_from rows code parsed (class ∷ later) (Some text) ≡ Some out → list_all p out ≡ true
parsed_from-step p rows code parsed class later text out each more all h =
    let made = and_then-some (λ operand. parsed_from rows code (parsed ++ operand ∷ []) later (after_byte 44 text)) (parsed_operand rows code class (before 44 text)) out h in
    more (parsed ++ made.0 ∷ []) (after_byte 44 text) (all-one p parsed made.0 all (each made.0 made.1)) made.2

pub parsed_from-all : (p : ParsedOperand → Bool) (rows : List Row) (code : List (List ℕ)) (parsed : List ParsedOperand) (later : List Class) (text : Option (List ℕ)) (out : List ParsedOperand) →
    ((class : Class) (word : List ℕ) (operand : ParsedOperand) → parsed_operand rows code class word ≡ Some operand → p operand ≡ true) →
    list_all p parsed ≡ true → parsed_from rows code parsed later text ≡ Some out → list_all p out ≡ true
parsed_from-all p rows code parsed [] None out each all h =
    let same : parsed ≡ out = cc in
    let P : List ParsedOperand → Type 0 = λ xs. list_all p xs ≡ true in
    subst P same all
parsed_from-all p rows code parsed [] (Some text) out each all h = absurd (let e : None ≡ Some out = h in cc)
parsed_from-all p rows code parsed (class ∷ later) None out each all h =
    let parts = if-some (class_is_argument class) (Some parsed) out h in
    let same : parsed ≡ out = (let e = parts.1 in cc) in
    let P : List ParsedOperand → Type 0 = λ xs. list_all p xs ≡ true in
    subst P same all
parsed_from-all p rows code parsed (class ∷ later) (Some text) out each all h =
    parsed_from-step p rows code parsed class later text out (each class (before 44 text))
    (λ parsed text all h. parsed_from-all p rows code parsed later text out each all h) all h
