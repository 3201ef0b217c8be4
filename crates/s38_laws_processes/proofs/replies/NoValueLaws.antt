-- A reply without a value suits, and so does one that no variable gets.
use Rattle.std.proofs.Common.{◌∷◌, ◌≡◌, Bool, List, [], false, refl, true, ℕ}
use Rattle.std.proofs.lemmas.Bool.{and_parts}
use Rattle.std.specs.List.{list_all}
use Rattle.std.specs.Prelude.{◌&&◌, not, slice_get}
use Rattle.s38_base.specs.declared.op.Op.TheVariants.{Callx, Cmpblab, Cmpnvb, Cmpptrt, Xctl}
use Rattle.s38_base.specs.declared.op.Op.{Op}
use Rattle.s38_code.specs.Operations.{classes}
use Rattle.s38_code.specs.declared.class.Class.{Class}
use Rattle.s38_code.specs.declared.program.Arg.TheVariants as args
use Rattle.s38_code.specs.declared.program.Arg.{Arg}
use Rattle.s38_code.specs.declared.program.Row.{Row}
use Rattle.s38_code.specs.declared.reply.Val.{Val}
use Rattle.s38_local.specs.Variables.{form_in, is_based}
use Rattle.s38_process.specs.Lawful.{Either, SuitValues}
use Rattle.s38_process.specs.Replies.{takes_value}
use Rattle.s38_requests.specs.Requests.{is_receiver}
use Rattle.s38_laws_processes.proofs.replies.FillLaws.{goes_back}

pub nothing_suits : (op : Op) (rows : List Row) (homes : List ℕ) (values : List Val) (cs : List Class) (given : List Arg) → SuitValues op rows homes values cs given []
nothing_suits op rows homes values [] given = tt
nothing_suits op rows homes values (c ∷ more) [] = tt
nothing_suits op rows homes values (c ∷ more) (a ∷ rest) = tt

-- no operand of these classes gets a value
abbrev no_receivers : List Class → Bool
no_receivers cs = list_all (λ c. not (is_receiver c)) cs

takes_none : (rows : List Row) (c : Class) (a : Arg) → not (is_receiver c) ≡ true → takes_value rows c a ≡ false
takes_none rows c (args.Item i) none = by (is_receiver c) none
  where
    by : (b : Bool) → not b ≡ true → (b && not (is_based (form_in (slice_get rows i)))) ≡ false
    by true none = cc
    by false none = refl
takes_none rows c a none = by (is_receiver c) none
  where
    by : (b : Bool) → not b ≡ true → b ≡ false
    by true none = cc
    by false none = refl

passed_by : (b : Bool) (P Q : Type 0) → b ≡ false → Q → Either b P Q
passed_by true P Q none h = cc
passed_by false P Q none h = h

pub taken_by : (b : Bool) (P Q : Type 0) → b ≡ true → P → Either b P Q
taken_by true P Q takes h = h
taken_by false P Q takes h = cc

nobody_suits : (op : Op) (rows : List Row) (homes : List ℕ) (values : List Val) (cs : List Class) (given : List Arg) (vs : List Val) → no_receivers cs ≡ true → SuitValues op rows homes values cs given vs
nobody_suits op rows homes values [] given vs none = tt
nobody_suits op rows homes values (c ∷ more) [] vs none = tt
nobody_suits op rows homes values (c ∷ more) (a ∷ rest) [] none = tt
nobody_suits op rows homes values (c ∷ more) (a ∷ rest) (v ∷ vs) none =
    let both = and_parts (not (is_receiver c)) (no_receivers more) none in
    passed_by (takes_value rows c a) _ _ (takes_none rows c a both.0) (nobody_suits op rows homes values more rest (v ∷ vs) both.1)

back_takes_none : (op : Op) → goes_back op ≡ true → no_receivers (classes op) ≡ true
unfolding classes
back_takes_none Cmpnvb back = refl
back_takes_none Cmpblab back = refl
back_takes_none Cmpptrt back = refl
back_takes_none Callx back = refl
back_takes_none Xctl back = refl
back_takes_none _ back = cc

-- what comes back with the reply of a comparison or a call goes nowhere
pub back_suits : (op : Op) (rows : List Row) (homes : List ℕ) (values : List Val) (given : List Arg) (vs : List Val) → goes_back op ≡ true → SuitValues op rows homes values (classes op) given vs
back_suits op rows homes values given vs back = nobody_suits op rows homes values (classes op) given vs (back_takes_none op back)
