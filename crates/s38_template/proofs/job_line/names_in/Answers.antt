use Rattle.std.proofs.Common.{◌≡◌, sym, ◌∙◌, IfOk, Ok, Err, Result, List, ℕ, Option}
use Rattle.s38_base.specs.declared.fault.NoMemory.{NoMemory}
use Rattle.s38_template.proofs.Texts.{rest_falls}
use Rattle.s38_template.proofs.Words.{names_turn, names_fail, names_end}
use Rattle.s38_template.proofs.job_line.names_in.Goals as goal

pub returns-in-Ok-None : goal.returns-in-Ok-None
returns-in-Ok-None c =
    sym (sym c.loop-name.invariant ∙ names_fail c.loop-name.names c.loop-name.rest.now (c.in-Some.name.now, c.in-Some.more.now) (sym c.in-Some.ensures) (sym c.in-Ok-None.ensures ∙ c.in-Ok-None.field-0-is))

pub loop-name-smaller : goal.loop-name-smaller
loop-name-smaller c = rest_falls 32 c.loop-name.rest.now (c.in-Some.name.now, c.in-Some.more.now) (sym c.in-Some.ensures)

pub loop-name-preserved : goal.loop-name-preserved
loop-name-preserved c =
    sym (names_turn c.loop-name.names c.loop-name.rest.now (c.in-Some.name.now, c.in-Some.more.now) c.in-Ok-Some.longer (sym c.in-Some.ensures) (sym c.in-Ok-Some.ensures ∙ c.in-Ok-Some.field-0-is)) ∙ c.loop-name.invariant

last : (r : Result (Option (List (List ℕ))) NoMemory) (read all : Option (List (List ℕ))) → IfOk r (λ more. more ≡ read) → read ≡ all → IfOk r (λ names. names ≡ all)
last (Ok more) read all h e = h ∙ e
last (Err fault) read all h e = tt

pub returns : goal.returns
returns c =
    last c.with_name-2.result _ _ c.with_name-2.ensures (sym (names_end c.loop-name.names c.loop-name.rest.now (sym c.in_default.ensures)) ∙ c.loop-name.invariant)
