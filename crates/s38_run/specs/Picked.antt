-- Who goes next: of the processes that are ready, the one that a number chooses.
use Rattle.std.specs.Prelude.{◌≡◌, ◌%◌, ℕ, List, [], ◌∷◌, Option, Some, length, slice_get}
use Rattle.s38_code.specs.declared.entry.Entry.{Entry}
use Rattle.s38_rules.specs.state.State.{State, ready_list}
use Rattle.s38_rules.specs.step.Step.{step}

-- of n that are ready a pick chooses the one at its place modulo n
abbrev pub chosen : State → ℕ → Option ℕ
chosen s pick = slice_get (ready_list s) (pick % length (ready_list s))

-- from s, each entry is made by the process that its pick chooses
abbrev pub Picked : List ℕ → State → List Entry → Type 0
Picked (q ∷ qs) s (e ∷ es) = (chosen s q ≡ Some e.process) × Picked qs (step s e.process e.event).state es
Picked [] s [] = Unit {0}
Picked (q ∷ qs) s [] = ⊥
Picked [] s (e ∷ es) = ⊥
