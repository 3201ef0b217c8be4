-- How a deck is printed: without comments, and with a job's budget only where it is another than 1,000,000.
use Rattle.std.specs.Prelude.{ℕ, Bool, List, [], ◌++◌, map, codes, ◌==◌, if◌then◌else◌}
use Rattle.std.specs.List.{flat_map}
use Rattle.s38_code.specs.declared.deck.Deck.{Deck}
use Rattle.s38_code.specs.declared.deck.Job.{Job}
use Rattle.s38_template.specs.Grammar.{budget_part, deck_lines, job_text, stage_lines, with_feed}
use Rattle.s38_template.specs.Lines.{job_word, stage_line}

-- lines, each with its line feed
abbrev pub printed_lines : List (List ℕ) → List ℕ
printed_lines lines = flat_map with_feed lines

abbrev pub printed_budget : ℕ → List ℕ
printed_budget budget = if budget == 1000000 then [] else budget_part budget

abbrev pub printed_who : Job → List ℕ
printed_who job = job_word ++ (job.name ++ (codes " USER " ++ (job.user ++ (codes " RUN " ++ job.template))))

abbrev pub job_line : Job → List ℕ
job_line job = job_text (printed_budget job.budget) job

-- jobs after a stage of this number
abbrev pub printed_jobs : ℕ → List Job → List ℕ
printed_jobs before jobs = printed_lines (stage_lines before (map job_line jobs) jobs)

-- the line of a stage, where a job is not of the stage before it
abbrev pub stage_part : Bool → List ℕ
stage_part same = if same then [] else with_feed stage_line

abbrev pub printed : Deck → List ℕ
printed deck = printed_lines (deck_lines deck (map job_line deck.jobs))
