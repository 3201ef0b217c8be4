-- What the words of a command line say: what a simple command makes of them that has two positionals, `command` and `rest`,
-- and two options, `--pick` and `--workers`, each with one value. An option's value may follow `=`, options may be
-- anywhere, and `--` ends them.
use Rattle.std.specs.Prelude.{ℕ, true, List, [], ◌∷◌, Option, Some, None, codes}
use Rattle.clap.specs.Faults.{fault_of}
use Rattle.clap.specs.Kinds.{Kinds}
use Rattle.clap.specs.Simple.{App, matches_of, new_app, new_rule, on_top, with_rule}
use Rattle.clap.specs.Walk.{Row, Rule, first_of}

-- what was given for each
pub record WordsSaid : Type 0 where
  pub command : Option (List ℕ)
  pub rest : Option (List ℕ)
  pub pick : Option (List ℕ)
  pub workers : Option (List ℕ)

-- an option with a value
abbrev pub option_rule : List ℕ → Rule
option_rule id = record (new_rule id) { long = Some id }

-- the words are all for the program, whose name is not among them
abbrev pub command_line : App
command_line =
    with_rule (with_rule (with_rule (with_rule
    (on_top (λ s. record s { no_binary_name = true }) (new_app (codes "s38")))
    (new_rule (codes "command"))) (new_rule (codes "rest"))) (option_rule (codes "pick"))) (option_rule (codes "workers"))

abbrev pub said_in : List Row → WordsSaid
said_in rows = record {
  command = first_of (codes "command") rows;
  rest = first_of (codes "rest") rows;
  pick = first_of (codes "pick") rows;
  workers = first_of (codes "workers") rows;
}

-- nothing where the simple command refuses the words
abbrev pub said_by : Kinds → List Row → Option WordsSaid
said_by [] rows = Some (said_in rows)
said_by (kind ∷ kinds) rows = None

unfoldable pub said_of : List (List ℕ) → Option WordsSaid
said_of words = said_by (fault_of command_line words) (matches_of command_line words)
