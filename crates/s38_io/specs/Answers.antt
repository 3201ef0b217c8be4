-- What the answer of a call of the system comes to.
use Rattle.std.specs.Prelude.{◌==◌, ℕ, Bool, true, false, Result, Ok, Err, if◌then◌else◌}
use Rattle.std.specs.IoError.{error_kind}
use Rattle.std.specs.declared.io.Error.{Error}
use Rattle.std.specs.declared.io.ErrorKind.{ErrorKind}
use Rattle.std.specs.declared.io.ErrorKind.TheVariants.{Interrupted}
use Rattle.s38_io.specs.declared.answer.Answer.{Answer}
use Rattle.s38_io.specs.declared.answer.Answer.TheVariants.{Took, Again, Fault}

abbrev pub is_interrupted : ErrorKind → Bool
is_interrupted Interrupted = true
is_interrupted _ = false

-- a call that was interrupted is made again; every other error is a fault
abbrev pub of_error : Error → Answer
of_error error = if is_interrupted (error_kind error) then Again else Fault

-- a read: so many bytes came, none at the end
abbrev pub of_read : Result ℕ Error → Answer
of_read (Ok count) = Took count
of_read (Err error) = of_error error

-- a write of a piece that is not empty: so many bytes went, and none is a fault
abbrev pub of_write : Result ℕ Error → Answer
of_write (Ok count) = if count == 0 then Fault else Took count
of_write (Err error) = of_error error

-- a flush or a sync: every error is a fault
abbrev pub of_flush : {T : Type 0} → Result T Error → Answer
of_flush (Ok _) = Took 0
of_flush (Err error) = Fault
