-- How far a job has come after one event.
use Rattle.std.proofs.Common.{◌≡◌, ℕ, List, [], ◌∷◌, ◌++◌, refl, sym, ap, ◌∙◌, subst}
use Rattle.std.specs.Prelude.{Option, Some, None, Result, Ok, Err}
use Rattle.s38_code.specs.declared.entry.Entry.{Entry}
use Rattle.s38_code.specs.declared.made.CreateResult.{CreateResult}
use Rattle.s38_code.specs.declared.step.StepFault.{StepFault}
use Rattle.s38_code.specs.declared.step.StepFault.TheVariants as faults
use Rattle.s38_process.specs.Process.{ProcessState, fresh}
use Rattle.s38_process.specs.AfterReply.{RanFrom, absorbed, process_after}
use Rattle.s38_turn.specs.declared.item.Item.{Item}
use Rattle.s38_turn.specs.Items.{entries_in}
use Rattle.s38_workers.specs.declared.hearer.Heard.{Heard}
use Rattle.s38_workers.specs.declared.hearer.Hearer.{Hearer}
use Rattle.s38_workers.specs.declared.runner.Progress.{Progress}
use Rattle.s38_workers.specs.declared.runner.Progress.TheVariants.{Running}
use Rattle.s38_workers.specs.Asking.{IsAsTold, NotedFrom, Went}
use Rattle.s38_workers.specs.Going.{IsByProgramSoFar, IsSoFar, Moved, progress_after}
use Rattle.s38_workers.proofs.NoteLaws.{entries_append, noted_append}

-- ---- the entries of a process

ran_append : (d : ProcessState) (es more : List Entry) → RanFrom d es → RanFrom (process_after d es) more → RanFrom d (es ++ more)
ran_append d [] more ran next = next
ran_append d (e ∷ es) more ran next = (ran.0, ran_append (absorbed d e.reply) es more ran.1 next)

behind_append : (d : ProcessState) (es more : List Entry) → process_after d (es ++ more) ≡ process_after (process_after d es) more
behind_append d [] more = refl
behind_append d (e ∷ es) more = behind_append (absorbed d e.reply) es more

-- ---- one event

so_far_told : (Halted : Type 0) (there d : ProcessState) (hearer : Hearer) (answer : Result (Option Heard) StepFault) → IsAsTold Halted there answer hearer.process → IsSoFar Halted there (progress_after answer (Running hearer)) d
so_far_told Halted there d hearer (Ok (Some heard)) s = s
so_far_told Halted there d hearer (Ok None) s = s
so_far_told Halted there d hearer (Err faults.Stopped) s = s
so_far_told Halted there d hearer (Err faults.NoMemory) s = s

stands_on : (Halted : Type 0) (made : CreateResult) (budget : ℕ) (h h' : Hearer) (answer : Result (Option Heard) StepFault) (xs xs' : List Item) → Went Halted h.process xs answer h'.process xs' → IsByProgramSoFar Halted made budget xs (Running h)
    → IsByProgramSoFar Halted made budget xs' (progress_after answer (Running h'))
stands_on Halted made budget h h' answer xs xs' w s =
    let first = fresh made budget in
    let es = entries_in xs in
    let more = entries_in w.added in
    let now : entries_in xs' ≡ es ++ more = ap entries_in w.now ∙ entries_append xs w.added in
    record {
      by_program = subst (RanFrom first) (sym now) (ran_append first es more s.by_program (subst (λ x. RanFrom x more) s.so_far w.by_program));
      noted = subst (NotedFrom first) (sym w.now) (noted_append first xs w.added s.noted (subst (λ x. NotedFrom x w.added) s.so_far w.noted));
      so_far = subst (λ there. IsSoFar Halted there (progress_after answer (Running h')) first) (ap (λ x. process_after x more) s.so_far ∙ (sym (behind_append first es more) ∙ ap (process_after first) (sym now)))
          (so_far_told Halted (process_after h.process more) first h' answer w.stands);
    }

pub moved : (Halted : Type 0) (h h' : Hearer) (answer : Result (Option Heard) StepFault) (xs xs' : List Item) (old new : Progress) → old ≡ Running h → new ≡ progress_after answer (Running h') → Went Halted h.process xs answer h'.process xs'
    → Moved Halted old xs new xs'
moved Halted h h' answer xs xs' old new was is w = record {
  stands = λ made budget s. subst (IsByProgramSoFar Halted made budget xs') (sym is) (stands_on Halted made budget h h' answer xs xs' w (subst (IsByProgramSoFar Halted made budget xs) was s));
}
