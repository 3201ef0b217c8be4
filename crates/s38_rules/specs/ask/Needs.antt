-- What an instruction needs of its operands: kinds of pointer and object, authority, and what it does to the object.
use Rattle.std.specs.Prelude.{ℕ, List, [], ◌∷◌, Option, Some, None}
use Rattle.s38_base.specs.declared.exception.Exception.{Exception}
use Rattle.s38_base.specs.declared.words.Category.{Category}
use Rattle.s38_base.specs.declared.words.Category.TheVariants.{Change}
use Rattle.s38_base.specs.Signals.{first}
use Rattle.s38_rules.specs.declared.need.Claim.{Claim}
use Rattle.s38_rules.specs.declared.need.Claim.TheVariants.{Available}
use Rattle.s38_rules.specs.declared.need.Need.{Need}
use Rattle.s38_rules.specs.declared.need.Named.{Named}
use Rattle.s38_rules.specs.declared.need.Named.TheVariants.{Written, Implied}
use Rattle.s38_rules.specs.declared.need.PointerKind.{PointerKind}
use Rattle.s38_rules.specs.declared.need.PointerKind.TheVariants as pointer_kinds
use Rattle.s38_rules.specs.declared.need.Sought.{Sought}
use Rattle.s38_rules.specs.declared.need.Sought.TheVariants.{Any}

abbrev pub claimed : Claim → ℕ → Named → PointerKind → Sought → ℕ → Option Category → List Need
claimed claim place named pointer sought rights category =
    record { place = place; named = named; pointer = pointer; sought = sought; rights = record { 0 = rights }; claim = claim; category = category } ∷ []

abbrev pub need : ℕ → Named → PointerKind → Sought → ℕ → Option Category → List Need
need place named pointer sought rights category = claimed Available place named pointer sought rights category

-- rights on the object of a system pointer, which is read, changed or controlled
abbrev pub on_object : ℕ → Sought → ℕ → Option Category → List Need
on_object place sought rights category = need place Written pointer_kinds.System sought rights category

-- rights on the object of a number that no operand names
abbrev pub on_implied : ℕ → Sought → ℕ → Option Category → List Need
on_implied n sought rights category = need 0 (Implied (record { 0 = n })) pointer_kinds.System sought rights category

-- an object that is given away, or authority over it
abbrev pub governed : Claim → ℕ → ℕ → List Need
governed claim place rights = claimed claim place Written pointer_kinds.System Any rights (Some Change)

-- the first failure of a rule that is asked for each need in order
abbrev pub first_of : (Need → Option Exception) → List Need → Option Exception
first_of rule [] = None
first_of rule (need ∷ more) = first (rule need) (first_of rule more)
