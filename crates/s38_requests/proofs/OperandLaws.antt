-- The operands of a request, once each argument has been looked at.
use Rattle.std.proofs.Common.{◌≡◌, ◌≤◌, ◌==◌, ℕ, Bool, IsTrue, ◌++◌, List, [], ◌∷◌, drop, length, refl, sym, ◌∙◌, ap, arith}
use Rattle.std.proofs.lemmas.Bool.Decides.{nat_tests}
use Rattle.std.proofs.Math.ListN.{drop_of_length-le}
use Rattle.std.proofs.lemmas.List.{append-nil}
use Rattle.s38_code.specs.declared.program.Arg.{Arg}
use Rattle.s38_code.specs.declared.program.Row.{Row}
use Rattle.s38_code.specs.declared.class.Class.{Class}
use Rattle.s38_code.specs.declared.operand.Operand.{Operand}
use Rattle.s38_code.specs.declared.reply.Val.{Val}
use Rattle.s38_requests.specs.Requests.{operands_of}

none_left : (rows : List Row) (homes : List ℕ) (values : List Val) (more : List Class) → operands_of rows homes values more [] ≡ []
none_left rows homes values [] = refl
none_left rows homes values (class ∷ more) = refl

-- after the last argument nothing is asked for
pub none_after : (rows : List Row) (homes : List ℕ) (values : List Val) (more : List Class) (given : List Arg) (k : ℕ) → length given ≤ k → operands_of rows homes values more (drop k given) ≡ []
none_after rows homes values more given k past = ap (operands_of rows homes values more) (drop_of_length-le given past) ∙ none_left rows homes values more

-- so all operands are made there
pub all_made : (rows : List Row) (homes : List ℕ) (values : List Val) (more : List Class) (given : List Arg) (k : ℕ) (made all : List Operand) → length given ≤ k → made ++ operands_of rows homes values more (drop k given) ≡ all → made ≡ all
all_made rows homes values more given k made all past h =
    sym (append-nil made) ∙ sym (ap (λ o. made ++ o) (none_after rows homes values more given k past)) ∙ h

-- a list is empty where its length is told to be none
pub none_there : (xs : List Operand) (told : Bool) → told ≡ (length xs == 0) → IsTrue told → xs ≡ []
none_there [] told test is = refl
none_there (x ∷ xs) told test is = absurd (grind (arith, nat_tests))
