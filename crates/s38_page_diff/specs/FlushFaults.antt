-- Which faults a call answers, and what follows from one.
use Rattle.std.specs.Prelude.{◌≡◌, ℕ, ◌<◌}
use Rattle.s38_page_diff.specs.declared.fault.FlushFault.{FlushFault}
use Rattle.s38_page_diff.specs.declared.fault.FlushFault.TheVariants.{BadHeader, Failed, Full, NoMemory}

-- a store is full where more new parts are needed than are free
abbrev pub IsFullFor : ℕ → ℕ → FlushFault → Type 0
IsFullFor wanted room (Full needed free) = (needed ≡ wanted) × ((free ≡ room) × (free < needed))
IsFullFor wanted room _ = Unit {0}

-- where it is full, this is so
abbrev pub IfFull : Type 0 → FlushFault → Type 0
IfFull P (Full needed free) = P
IfFull P _ = Unit {0}

-- where the header of an object is bad, this is so
abbrev pub IfBad : Type 0 → FlushFault → Type 0
IfBad P (BadHeader object) = P
IfBad P _ = Unit {0}

-- the same of a fault at which no put was tried
abbrev pub IsUnread : Type 0 → FlushFault → Type 0
IsUnread P (BadHeader object) = P
IsUnread P (Full needed free) = ⊥
IsUnread P Failed = Unit {0}
IsUnread P NoMemory = Unit {0}
