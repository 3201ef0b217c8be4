-- States along lists of calls.
use Rattle.std.proofs.Common.{◌≡◌, List, [], ◌∷◌, ◌++◌, refl}
use Rattle.s38_disk.specs.declared.block.Call.{Call}
use Rattle.s38_disk.specs.Blocks.{DiskState, after_calls, stepped}

pub after-append : (s : DiskState) (xs ys : List Call) → after_calls s (xs ++ ys) ≡ after_calls (after_calls s xs) ys
after-append s [] ys = refl
after-append s (x ∷ xs) ys = after-append (stepped s x) xs ys

pub after-push : (s : DiskState) (xs : List Call) (c : Call) → after_calls s (xs ++ c ∷ []) ≡ stepped (after_calls s xs) c
after-push s xs c = after-append s xs (c ∷ [])
