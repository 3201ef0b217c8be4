-- Who takes an exception, by what the newest invocation says.
use Rattle.std.proofs.Common.{◌≡◌, ℕ, true, false, List, [], ◌∷◌, refl, ap}
use Rattle.std.specs.Prelude.{Some, None}
use Rattle.s38_process.specs.declared.invocation.Invocation.{Invocation}
use Rattle.s38_process.specs.Exceptions.{label_by, offered, offered_from, takes}
use Rattle.s38_process.specs.Invocations.{Stack, popped, popped_to}
use Rattle.s38_process.specs.LocalRun.{is_none}

by_callers : (code : ℕ) (s : Stack) (callers : List Invocation) (at : ℕ) → s.callers ≡ callers → label_by s.top code ≡ Some at
    → offered_from code s.values s.top callers ≡ record { stack = record s { top = takes s.top code at }; taken = true }
by_callers code s [] at is says = rw says (ap (λ (cs : List Invocation). record { stack = record { values = s.values; top = takes s.top code at; callers = cs }; taken = true }) (is_sym s [] is))
  where
    is_sym : (s : Stack) (cs : List Invocation) → s.callers ≡ cs → cs ≡ s.callers
    is_sym s cs h = cc
by_callers code s (c ∷ cs) at is says = rw says (ap (λ (x : List Invocation). record { stack = record { values = s.values; top = takes s.top code at; callers = x }; taken = true }) (is_sym s (c ∷ cs) is))
  where
    is_sym : (s : Stack) (cs : List Invocation) → s.callers ≡ cs → cs ≡ s.callers
    is_sym s cs h = cc

-- the newest invocation takes it
pub offered_here : (code at : ℕ) (s : Stack) → label_by s.top code ≡ Some at → offered code s ≡ record { stack = record s { top = takes s.top code at }; taken = true }
offered_here code at s says = by_callers code s s.callers at refl says

-- nobody is left
last_by : (code : ℕ) (s : Stack) (callers : List Invocation) → s.callers ≡ callers → is_none callers ≡ true → label_by s.top code ≡ None
    → offered_from code s.values s.top callers ≡ record { stack = popped_to s callers; taken = false }
last_by code s [] is none says = rw says (ap (λ (x : List Invocation). record { stack = record { values = s.values; top = s.top; callers = x }; taken = false }) (back is))
  where
    back : s.callers ≡ [] → [] ≡ s.callers
    back h = cc
last_by code s (c ∷ cs) is none says = cc

pub offered_last : (code : ℕ) (s : Stack) → is_none s.callers ≡ true → label_by s.top code ≡ None → offered code s ≡ record { stack = popped s; taken = false }
offered_last code s none says = last_by code s s.callers refl none says

-- it is offered to the caller
next_by : (code : ℕ) (s : Stack) (callers : List Invocation) → is_none callers ≡ false → label_by s.top code ≡ None
    → offered_from code s.values s.top callers ≡ offered code (popped_to s callers)
next_by code s [] more says = cc
next_by code s (c ∷ cs) more says = rw says refl

pub offered_next : (code : ℕ) (s : Stack) → is_none s.callers ≡ false → label_by s.top code ≡ None → offered code s ≡ offered code (popped s)
offered_next code s more says = next_by code s s.callers more says
