-- An operand of its class is a declared name or a literal.
use Rattle.std.proofs.Common.{◌≡◌, ℕ, true, List, [], ◌∷◌, Option, refl}
use Rattle.std.specs.Prelude.{Some, None, slice_get}
use Rattle.std.specs.List.{All}
use Rattle.std.proofs.lemmas.Bool.{and_parts, false≢true}
use Rattle.std.proofs.lemmas.List.Elements.{All-cons, All-nil}
use Rattle.s38_code.specs.declared.class.Class.{Class}
use Rattle.s38_code.specs.declared.class.Class.TheVariants.{Constant, Keyword}
use Rattle.s38_code.specs.declared.class.Constant.{Constant as ConstantClass}
use Rattle.s38_code.specs.declared.class.Constant.TheVariants as constants
use Rattle.s38_code.specs.declared.class.Keyword.{Keyword as KeywordClass}
use Rattle.s38_code.specs.declared.class.Keyword.TheVariants as keywords
use Rattle.s38_code.specs.declared.program.Arg.{Arg}
use Rattle.s38_code.specs.declared.program.Arg.TheVariants as args
use Rattle.s38_code.specs.declared.program.Row.{Row}
use Rattle.s38_local.specs.Law.{ArgumentIsMet, HavePlaces, Shape}
use Rattle.s38_odt.specs.Suits.{all_suit, constant_suits, keyword_suits, suits}

no_constant : (constant : ConstantClass) (k : ℕ) → constant_suits constant (args.Item k) ≡ true → ⊥
unfolding constant_suits
no_constant constants.Label k h = false≢true h
no_constant _ k h = false≢true h

no_keyword : (keyword : KeywordClass) (k : ℕ) → keyword_suits keyword (args.Item k) ≡ true → ⊥
unfolding keyword_suits
no_keyword keywords.Comparison k h = false≢true h
no_keyword _ k h = false≢true h

-- an item that is not declared is of no class
not_declared : (rows : List Row) (class : Class) (k : ℕ) → slice_get rows k ≡ None → suits rows class (args.Item k) ≡ true → ⊥
unfolding suits
not_declared rows (Constant constant) k none h = no_constant constant k h
not_declared rows (Keyword keyword) k none h = no_keyword keyword k h
not_declared rows _ k none h = false≢true (rw none at h)

declared_by : (rows : List Row) (k : ℕ) (o : Option Row) → slice_get rows k ≡ o → (o ≡ None → ⊥) → (row : Row) × (slice_get rows k ≡ Some row)
declared_by rows k None is here = absurd (here refl)
declared_by rows k (Some row) is here = (row, is)

one_met : (rows : List Row) (homes : List ℕ) (shapes : List Shape) (class : Class) (arg : Arg) → HavePlaces rows homes shapes → suits rows class arg ≡ true → ArgumentIsMet rows homes shapes arg
one_met rows homes shapes class (args.Item k) held h =
    let there = declared_by rows k (slice_get rows k) refl (λ none. not_declared rows class k none h) in
    (there.0, (there.1, held.each k there.0 there.1))
one_met rows homes shapes class _ held h = tt

pub all_met : (rows : List Row) (homes : List ℕ) (shapes : List Shape) (classes : List Class) (given : List Arg) → HavePlaces rows homes shapes → all_suit rows classes given ≡ true → All (ArgumentIsMet rows homes shapes) given
all_met rows homes shapes [] [] held h = All-nil (ArgumentIsMet rows homes shapes)
all_met rows homes shapes [] (arg ∷ given) held h = absurd (false≢true h)
all_met rows homes shapes (class ∷ classes) [] held h = All-nil (ArgumentIsMet rows homes shapes)
all_met rows homes shapes (class ∷ classes) (arg ∷ given) held h =
    let both = and_parts (suits rows class arg) (all_suit rows classes given) h in
    All-cons (ArgumentIsMet rows homes shapes) arg given (one_met rows homes shapes class arg held both.0) (all_met rows homes shapes classes given held both.1)
