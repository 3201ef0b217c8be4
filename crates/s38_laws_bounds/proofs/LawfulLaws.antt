-- What a lawful process asks suits the table of operations.
use Rattle.std.proofs.Common.{◌∷◌, ◌≡◌, List, [], length, subst, suc, zero, ℕ}
use Rattle.std.proofs.lemmas.Bool.{cond_both}
use Rattle.std.proofs.lemmas.List.Elements.{All-head, All-tail}
use Rattle.std.specs.Prelude.{All, IfSome, None, Option, Some, nat_le, slice_get}
use Rattle.s38_code.specs.declared.event.EndCause.TheVariants as causes
use Rattle.s38_code.specs.declared.event.Event.TheVariants.{Act, Finish}
use Rattle.s38_code.specs.declared.event.Event.{Event}
use Rattle.s38_code.specs.declared.event.Request.{Request}
use Rattle.s38_code.specs.declared.program.Instruction.{Instruction}
use Rattle.s38_local.specs.Law.{Shape}
use Rattle.s38_odt.specs.Suited.{AreSuited, IsSuited}
use Rattle.s38_process.specs.Invocations.{Stack, instruction_of, instructions_in, program_rows_in}
use Rattle.s38_process.specs.Lawful.{AreLawfulFrom, IsLawful}
use Rattle.s38_process.specs.Process.{ProcessState, act_of, acts, asks, event_of, is_return, returns}
use Rattle.s38_process.specs.declared.invocation.Invocation.{Invocation}
use Rattle.s38_process.specs.declared.status.Status.TheVariants.{Running}
use Rattle.s38_process.specs.declared.status.Status.{Status}
use Rattle.s38_laws_bounds.proofs.AskedLaws.{checked_suits}
use Rattle.s38_laws_bounds.specs.Suited.{SuitsTable}

-- the operands of an event that has some
abbrev SuitsIn : Event → Type 0
SuitsIn (Act depth request) = SuitsTable request
SuitsIn _ = Unit {0}

abbrev IsOf : Invocation → Instruction → Type 0
IsOf top i = IsSuited (program_rows_in top.made) (length (instructions_in top.made)) i

instruction_at : {X : Type 0} (P : X → Type 0) (xs : List X) (k : ℕ) → All P xs → IfSome (slice_get xs k) P
instruction_at P [] k all = tt
instruction_at P (x ∷ xs) zero all = All-head P x xs all
instruction_at P (x ∷ xs) (suc k) all = instruction_at P xs k (All-tail P x xs all)

-- the newest invocation is of a checked program
checked_top : (shapes : List Shape) (top : Invocation) (callers : List Invocation) → AreLawfulFrom shapes top callers → AreSuited (program_rows_in top.made) (instructions_in top.made)
checked_top shapes top [] stands = stands.program
checked_top shapes top (caller ∷ more) stands = stands.0.program

act_suits : (s : Stack) (i : Instruction) → IsOf s.top i → SuitsIn (act_of s i)
act_suits s i suited = checked_suits (program_rows_in s.top.made) (length (instructions_in s.top.made)) s.top.frame.homes s.values i suited

acts_suit : (q : ProcessState) (o : Option Instruction) → IfSome o (IsOf q.stack.top) → SuitsIn (acts q o)
acts_suit q None of = tt
acts_suit q (Some i) of = cond_both (is_return i.op) (returns q) (act_of q.stack i) SuitsIn (λ back. tt) (λ on. act_suits q.stack i of)

asked_suits : (q : ProcessState) (status : Status) → IsLawful q → IfSome (asks q status) SuitsIn
asked_suits q Running lawful =
    let top = q.stack.top in
    let each = (checked_top _ top q.stack.callers lawful).each in
    cond_both (nat_le q.budget q.done) (Finish causes.Budget) (acts q (instruction_of top)) SuitsIn (λ spent. tt)
    (λ left. acts_suit q (instruction_of top) (instruction_at (IsOf top) (instructions_in top.made) top.frame.at each))
asked_suits q _ lawful = tt

pub lawful_suits : (q : ProcessState) (d : ℕ) (r : Request) → IsLawful q → event_of q ≡ Some (Act d r) → SuitsTable r
unfolding event_of
lawful_suits q d r lawful is = subst (λ x. IfSome x SuitsIn) is (asked_suits q q.status lawful)
