-- The log of a history: for each job its line, and then the lines of its entries.
use Rattle.std.specs.Prelude.{ℕ, Bool, ◌==◌, List, [], ◌∷◌, ◌++◌, filter, codes, decimal}
use Rattle.std.specs.List.{flat_map, enumerate_from}
use Rattle.s38_code.specs.Operations.{mnemonic}
use Rattle.s38_code.specs.declared.deck.Job.{Job}
use Rattle.s38_code.specs.declared.entry.Entry.{Entry}
use Rattle.s38_code.specs.declared.event.Event.{Event}
use Rattle.s38_code.specs.declared.event.Event.TheVariants.{Start, Act, Finish}
use Rattle.s38_code.specs.declared.reply.Reply.{Reply}
use Rattle.s38_code.specs.declared.reply.Reply.TheVariants.{Done, Signal, MustWait}
use Rattle.s38_code.specs.declared.reply.Val.{Val}
use Rattle.s38_joblog.specs.Words.{cause_text, exception_text, value_text}

abbrev pub event_name : Event → List ℕ
event_name Start = codes "START"
event_name (Act depth request) = mnemonic request.op
event_name (Finish cause) = codes "FINISH"

-- an end says its cause, and all else says OK and its values
abbrev pub done_text : Event → List Val → List ℕ
done_text Start values = codes "OK" ++ flat_map value_text values
done_text (Act depth request) values = codes "OK" ++ flat_map value_text values
done_text (Finish cause) values = cause_text cause

abbrev pub result_text : Event → Reply → List ℕ
result_text event (Done values) = done_text event values
result_text event (Signal exception) = exception_text exception
result_text event MustWait = codes "WAIT"

-- the position, the name and the result, parted by blanks
unfoldable pub entry_line : ℕ → Entry → List ℕ
entry_line position e =
    decimal position ++ (codes " " ++ (event_name e.event ++ (codes " " ++ (result_text e.event e.reply ++ 10 ∷ []))))

unfoldable pub job_head_line : ℕ → Job → List ℕ
job_head_line number job = codes "JOB " ++ (decimal number ++ (codes " " ++ (job.name ++ (codes " USER " ++ (job.user ++ 10 ∷ [])))))

abbrev pub is_of_job : ℕ → ℕ × Entry → Bool
is_of_job number placed = placed.1.process == number

abbrev pub placed_line : ℕ × Entry → List ℕ
placed_line placed = entry_line placed.0 placed.1

-- the lines of a process; positions in the whole history count from 1
unfoldable pub lines_of : ℕ → List Entry → List ℕ
lines_of number history = flat_map placed_line (filter (is_of_job number) (enumerate_from 1 history))

abbrev pub job_log_text : List Entry → ℕ × Job → List ℕ
job_log_text history numbered = job_head_line numbered.0 numbered.1 ++ lines_of numbered.0 history

-- jobs are numbered from 1
unfoldable pub log_text : List Entry → List Job → List ℕ
log_text history jobs = flat_map (job_log_text history) (enumerate_from 1 jobs)

-- the last line of a run
abbrev pub last_line : ℕ → List ℕ
last_line count = codes "DONE " ++ (decimal count ++ 10 ∷ [])

-- the line of a text that is no deck: its first bad line, and the code
abbrev pub bad_line : ℕ → ℕ → List ℕ
bad_line line code = codes "BAD DECK " ++ (decimal line ++ (codes " " ++ (decimal code ++ 10 ∷ [])))
