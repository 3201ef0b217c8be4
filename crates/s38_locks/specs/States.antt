-- The five lock states: their order, which go together, and what each blocks.
use Rattle.std.specs.Prelude.{ℕ, Bool, true, false}
use Rattle.s38_base.specs.declared.words.Category.{Category}
use Rattle.s38_base.specs.declared.words.Category.TheVariants.{Change, Control}
use Rattle.s38_base.specs.declared.words.LockState.{LockState}
use Rattle.s38_base.specs.declared.words.LockState.TheVariants.{Lsrd, Lsro, Lsup, Lear, Lenr}

-- the place of a state in the order of states
abbrev pub rank : LockState → ℕ
rank Lsrd = 0
rank Lsro = 1
rank Lsup = 2
rank Lear = 3
rank Lenr = 4

-- whether two processes may hold these states of one object: LENR goes with none, LSRD with all others, LSRO and
-- LSUP each with itself
abbrev pub are_compatible : LockState → LockState → Bool
are_compatible Lenr other = false
are_compatible one Lenr = false
are_compatible Lsrd other = true
are_compatible one Lsrd = true
are_compatible Lsro Lsro = true
are_compatible Lsup Lsup = true
are_compatible one other = false

-- what a lock keeps other processes from: LENR from reading, LSRO, LEAR and LENR from changing, each from control
abbrev pub blocks : LockState → Category → Bool
blocks Lenr category = true
blocks one Control = true
blocks Lsro Change = true
blocks Lear Change = true
blocks one category = false
