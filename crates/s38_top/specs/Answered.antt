-- What each outcome is answered with: a status, a text, and a history with a mark for each of its entries.
use Rattle.std.specs.Prelude.{ℕ, List, [], ◌++◌, length, codes}
use Rattle.s38_code.specs.declared.deck.Deck.{Deck}
use Rattle.s38_code.specs.declared.entry.Entry.{Entry}
use Rattle.s38_code.specs.declared.made.CheckedTemplate.{CheckedTemplate}
use Rattle.s38_demo.specs.Total.{demo_text}
use Rattle.s38_joblog.specs.Check.{check_text}
use Rattle.s38_joblog.specs.Log.{bad_line, last_line, log_text}
use Rattle.s38_listing.specs.Listing.{list_text}
use Rattle.s38_rules.specs.state.Held.{Held}
use Rattle.s38_store_file.specs.declared.fault.StoreRefusal.{StoreRefusal}
use Rattle.s38_store_file.specs.declared.fault.StoreRefusal.TheVariants as refusals
use Rattle.s38_top.specs.declared.outcome.Outcome.{Outcome}
use Rattle.s38_top.specs.declared.outcome.RunEnd.{RunEnd}
use Rattle.s38_top.specs.declared.outcome.RunEnd.TheVariants.{Kept, Failed, Full, Stopped}
use Rattle.s38_top.specs.declared.outcome.Whole.{Whole}
use Rattle.s38_top.specs.declared.outcome.Outcome.TheVariants.{BadWords, BadDeck, DeckFault, NoMemory, Ran, Checked, Demonstrated, Installed, Listed, Refused, DiskFault}
use Rattle.s38_top.specs.Lines.{bad_store_line, disk_fault_line, full_line, line}

-- how many bytes of a deck are taken at most
abbrev pub most : ℕ
most = 4194560

-- the last line of a run over a store: DONE with the length of the history, or why what it left is not kept
abbrev pub run_end_line : ℕ → RunEnd → List ℕ
run_end_line count Kept = last_line count
run_end_line count Failed = disk_fault_line
run_end_line count (Full needed free) = full_line needed free
run_end_line count Stopped = disk_fault_line

abbrev pub end_status : RunEnd → ℕ
end_status Kept = 0
end_status Failed = 4
end_status (Full needed free) = 8
end_status Stopped = 4

-- the log of the run, and the last line
abbrev pub run_text : Deck → List Entry → RunEnd → List ℕ
run_text deck history end = log_text history deck.jobs ++ run_end_line (length history) end

-- a line for each template, and the line DONE with their number
abbrev pub checked_text : List CheckedTemplate → List ℕ
checked_text templates = check_text templates ++ last_line (length templates)

-- a line for each object, and the line DONE with their number
abbrev pub listed_text : Held → List ℕ
listed_text h = list_text h.objects ++ last_line (length h.objects)

-- a status, the text that is written, the history, and a mark for each of its entries
pub record Answer : Type 0 where
  pub status : ℕ
  pub text : List ℕ
  pub history : List Entry
  pub marks : List ℕ

-- where no job ran
abbrev pub without_run : ℕ → List ℕ → Answer
without_run status text = record { status = status; text = text; history = []; marks = [] }

-- where each job ran to its end
abbrev pub of_run : ℕ → List ℕ → Whole → Answer
of_run status text whole = record { status = status; text = text; history = whole.history.items; marks = whole.marks.items }

-- what each outcome is answered with
abbrev pub answer_of : Outcome → Answer
answer_of BadWords = without_run 1 (line (codes "BAD WORDS"))
answer_of (BadDeck number code) = without_run 2 (bad_line number code)
answer_of (Refused bad) = without_run 3 (bad_store_line bad)
answer_of DiskFault = without_run 4 disk_fault_line
answer_of DeckFault = without_run 5 (line (codes "DECK FAULT"))
answer_of NoMemory = without_run 7 (line (codes "NO MEMORY"))
answer_of (Ran turns whole end) = of_run (end_status end) (run_text whole.deck whole.history.items end) whole
answer_of (Checked checked) = without_run 0 (checked_text checked.templates)
answer_of (Demonstrated size whole) = of_run 0 (demo_text size whole.history.items) whole
answer_of Installed = without_run 0 (last_line 0)
answer_of (Listed objects) = without_run 0 (listed_text objects)

abbrev pub status_of : Outcome → ℕ
status_of o = (answer_of o).status

abbrev pub outcome_text : Outcome → List ℕ
outcome_text o = (answer_of o).text

abbrev pub history_of : Outcome → List Entry
history_of o = (answer_of o).history

abbrev pub marks_of : Outcome → List ℕ
marks_of o = (answer_of o).marks

-- what a store that is refused comes to
abbrev pub refused : StoreRefusal → Outcome
refused (refusals.Bad bad) = Refused bad
refused refusals.Failed = DiskFault
refused refusals.NoMemory = NoMemory
