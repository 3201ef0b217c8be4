-- Which command the words are.
use Rattle.std.specs.Prelude.{◌≤◌, ℕ, Bool, true, false, ◌&&◌, List, Option, Some, None, codes, nat_le, not, if◌then◌else◌}
use Rattle.std.specs.Str.{bytes_eq}
use Rattle.s38_words.specs.Number.{natural_of}
use Rattle.s38_command.specs.Said.{WordsSaid, said_of}
use Rattle.s38_command.specs.declared.command.Command.{Command}
use Rattle.s38_command.specs.declared.command.Command.TheVariants.{Jobs, Check, Demo, Install, List as Listing}
use Rattle.s38_command.specs.declared.turns.Turns.{Turns}
use Rattle.s38_command.specs.declared.turns.Turns.TheVariants.{Serial, Workers}

abbrev pub greatest_pick : ℕ
greatest_pick = 4294967295

-- how many workers there are if nothing is said of them, and how many there may be
abbrev pub usual_workers : ℕ
usual_workers = 4

abbrev pub most_workers : ℕ
most_workers = 64

-- a single word
abbrev pub bare_by : List ℕ → Option Command
bare_by word =
    if bytes_eq word (codes "check") then Some Check
    else (if bytes_eq word (codes "install") then Some Install
    else (if bytes_eq word (codes "list") then Some Listing else None))

-- a number of at most 32 bits
abbrev pub pick_of : Option ℕ → Option Command
pick_of None = None
pick_of (Some n) = if nat_le n greatest_pick then Some (Jobs (Serial n)) else None

-- a number of workers, 1 to 64
abbrev pub workers_of : Option ℕ → Option Command
workers_of None = None
workers_of (Some n) = if nat_le n most_workers && nat_le 1 n then Some (Jobs (Workers n)) else None

abbrev pub most_postings : ℕ
most_postings = 200

-- a number of postings, 1 to 200
abbrev pub demo_of : Option ℕ → Option Command
demo_of None = None
demo_of (Some n) = if nat_le n most_postings && nat_le 1 n then Some (Demo n) else None

-- a number is decimal digits without a leading zero
abbrev pub serial_by : Option (List ℕ) → Option Command
serial_by None = Some (Jobs (Serial 0))
serial_by (Some number) = pick_of (natural_of number)

abbrev pub run_by : Option (List ℕ) → Option Command
run_by None = Some (Jobs (Workers usual_workers))
run_by (Some number) = workers_of (natural_of number)

abbrev pub demo_by : Option (List ℕ) → Option Command
demo_by None = None
demo_by (Some number) = demo_of (natural_of number)

-- where the others are missing
abbrev pub without_others : Option (List ℕ) → Option (List ℕ) → Option Command → Option Command
without_others None None command = command
without_others None (Some word) command = None
without_others (Some word) other command = None

-- `serial` has a pick or none, `run` a number of workers or none, `demo` one further word, and the others have nothing more
abbrev pub command_by : List ℕ → WordsSaid → Option Command
command_by word said =
    if bytes_eq word (codes "serial") then without_others said.rest said.workers (serial_by said.pick)
    else (if bytes_eq word (codes "run") then without_others said.rest said.pick (run_by said.workers)
    else (if bytes_eq word (codes "demo") then without_others said.pick said.workers (demo_by said.rest)
    else without_others said.rest said.pick (without_others said.workers None (bare_by word))))

abbrev pub command_from : WordsSaid → Option (List ℕ) → Option Command
command_from said None = None
command_from said (Some word) = command_by word said

abbrev pub command_in : Option WordsSaid → Option Command
command_in None = None
command_in (Some said) = command_from said said.command

-- `install`, `list`, `serial`, `serial --pick n`, `run`, `run --workers n`, `check`, `demo n`, as the simple command reads
-- the words
abbrev pub command_of : List (List ℕ) → Option Command
command_of words = command_in (said_of words)

-- the command reads a deck
abbrev pub reads_deck : Command → Bool
reads_deck (Jobs turns) = true
reads_deck Check = true
reads_deck (Demo size) = false
reads_deck Install = false
reads_deck Listing = false

-- ---- threads

-- the command starts threads
abbrev pub takes_threads : Command → Bool
takes_threads (Jobs (Serial pick)) = false
takes_threads (Jobs (Workers count)) = true
takes_threads Check = false
takes_threads (Demo size) = false
takes_threads Install = false
takes_threads Listing = false

abbrev pub asks_threads : Option Command → Bool
asks_threads None = false
asks_threads (Some command) = takes_threads command

abbrev pub same_side : Bool → Bool → Bool
same_side true b = b
same_side false b = not b

-- the command of a call that starts threads, or of one that starts none
abbrev pub served_by : Bool → Option Command → Option Command
served_by threads None = None
served_by threads (Some command) = if same_side threads (takes_threads command) then Some command else None

-- which command the words are to a call that starts threads, or to one that starts none
abbrev pub command_on : Bool → List (List ℕ) → Option Command
command_on threads words = served_by threads (command_of words)

-- the turns of a call that starts threads, or of one that starts none
abbrev pub AreTurnsOn : Bool → Turns → Type 0
AreTurnsOn true (Workers count) = 1 ≤ count
AreTurnsOn true (Serial pick) = ⊥
AreTurnsOn false (Workers count) = ⊥
AreTurnsOn false (Serial pick) = Unit {0}

-- ---- the store

-- the command looks at the store
abbrev pub looks_at_store : Command → Bool
looks_at_store (Jobs turns) = true
looks_at_store Check = false
looks_at_store (Demo size) = false
looks_at_store Install = true
looks_at_store Listing = true

abbrev pub asks_store : Option Command → Bool
asks_store None = false
asks_store (Some command) = looks_at_store command
