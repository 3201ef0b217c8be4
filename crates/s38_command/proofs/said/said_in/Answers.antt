use Rattle.std.proofs.Common.{◌≡◌, ℕ, List, ◌∙◌, codes}
use Rattle.std.specs.Prelude.{Option}
use Rattle.clap.specs.Matches.{found_of}
use Rattle.clap.specs.Walk.{Row, first_of, rows_of}
use Rattle.clap.proofs.WalkLemmas.{first_value-rows}
use Rattle.s38_command.specs.Said.{WordsSaid, said_in}
use Rattle.s38_command.proofs.said.said_in.Goals as goal

same : (command rest pick workers : Option (List ℕ)) (rows : List Row) → command ≡ first_of (codes "command") rows → rest ≡ first_of (codes "rest") rows
    → pick ≡ first_of (codes "pick") rows → workers ≡ first_of (codes "workers") rows
    → (let said : WordsSaid = record { command = command; rest = rest; pick = pick; workers = workers } in said) ≡ said_in rows
same command rest pick workers rows a b c d = λ i. record { command = a i; rest = b i; pick = c i; workers = d i }

pub returns : goal.returns
returns c =
    let f = found_of c.args.matches.now in
    same _ _ _ _ (rows_of f)
    (c.get_str.ensures ∙ first_value-rows f (codes "command"))
    (c.get_str-2.ensures ∙ first_value-rows f (codes "rest"))
    (c.get_str-3.ensures ∙ first_value-rows f (codes "pick"))
    (c.get_str-4.ensures ∙ first_value-rows f (codes "workers"))
