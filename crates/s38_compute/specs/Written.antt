-- How a computation ends: what it signals, and what its receiver holds then.
use Rattle.std.specs.Prelude.{ℕ, List, Option, Some, None, Result, Ok, Err}
use Rattle.s38_base.specs.declared.exception.Exception.{Exception}

abbrev pub failed : {A : Type 0} → Result A Exception → Option Exception
failed (Ok given) = None
failed (Err x) = Some x

abbrev pub bytes_after : List ℕ → Result (List ℕ) Exception → List ℕ
bytes_after into (Ok bytes) = bytes
bytes_after into (Err x) = into
