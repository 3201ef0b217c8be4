-- The local run of a process: it ends within the budget, and a settled process has none before it.
use Rattle.std.proofs.Common.{◌≡◌, ℕ, zero, suc, ◌+◌, ◌-◌, ◌<◌, ◌≤◌, ◌⊎◌, inl, inr, Bool, true, false, cond, refl, sym, ◌∙◌, ap, arith, nat_le}
use Rattle.std.proofs.lemmas.Bool.Decides.{nat_tests}
use Rattle.std.specs.Prelude.{Option, Some, None}
use Rattle.s38_code.specs.declared.event.EndCause.{EndCause}
use Rattle.s38_code.specs.declared.event.Event.{Event}
use Rattle.s38_code.specs.declared.event.Event.TheVariants.{Start, Act, Finish}
use Rattle.s38_code.specs.declared.made.CreateResult.{CreateResult}
use Rattle.s38_code.specs.declared.reply.Reply.{Reply}
use Rattle.s38_code.specs.declared.reply.Reply.TheVariants.{MustWait}
use Rattle.s38_local.specs.declared.local_end.LocalEnd.{LocalEnd}
use Rattle.s38_local.specs.declared.local_end.LocalEnd.TheVariants.{Next, Jump, Return, Signal}
use Rattle.s38_process.specs.declared.status.Status.{Status}
use Rattle.s38_process.specs.declared.status.Status.TheVariants.{Fresh, Running, Ending, Ended}
use Rattle.s38_local.specs.Frames.{Went}
use Rattle.s38_process.specs.Exceptions.{offered}
use Rattle.s38_process.specs.Invocations.{Stack, instruction_of}
use Rattle.s38_process.specs.Process.{ProcessState, after_offer, event_of, fresh, with_frame}
use Rattle.s38_process.specs.AfterReply.{absorbed, after_asked}
use Rattle.s38_process.specs.LocalRun.{after_local, after_local_run, alone, alone_by, alone_there, local_step, local_steps, ran}

-- it stays where it is, or is running and comes to its end
abbrev pub Moves : Status → Status → Type 0
Moves s t = (t ≡ s) ⊎ ((s ≡ Running) × ((c : EndCause) × (t ≡ Ending c)))

-- the same process, after local instructions
pub record IsLater (d e : ProcessState) : Type 0 where
  pub budget : e.budget ≡ d.budget
  pub done : d.done ≤ e.done
  pub within : d.done ≤ d.budget → e.done ≤ e.budget
  pub status : Moves d.status e.status

-- after one of them
pub record IsNext (d e : ProcessState) : Type 0 where
  pub budget : e.budget ≡ d.budget
  pub done : e.done ≡ d.done + 1
  pub room : d.done < d.budget
  pub status : Moves d.status e.status

-- ---- when a process goes on alone

room_by : (b c : Bool) (d : ProcessState) → nat_le d.budget d.done ≡ b → cond b false c ≡ true → d.done < d.budget
room_by true c d test h = cc
room_by false c d test h = grind (arith, nat_tests)

alone_running : (d : ProcessState) (s : Status) → alone_by d s ≡ true → (s ≡ Running) × (d.done < d.budget)
alone_running d Fresh h = cc
alone_running d Running h = (refl, room_by (nat_le d.budget d.done) (alone_there d.stack (instruction_of d.stack.top)) d refl h)
alone_running d (Ending c) h = cc
alone_running d Ended h = cc

spent_by : (d : ProcessState) (s : Status) → d.budget ≤ d.done → alone_by d s ≡ false
spent_by d Fresh spent = refl
spent_by d Running spent = let test : nat_le d.budget d.done ≡ true = grind (arith, nat_tests) in rw test refl
spent_by d (Ending c) spent = refl
spent_by d Ended spent = refl

-- ---- one step

offer_is_next : (d e : ProcessState) (code : ℕ) (b : Bool) (s : Stack) → e.budget ≡ d.budget → e.done ≡ d.done → e.status ≡ d.status → d.status ≡ Running → d.done < d.budget → IsNext d (after_offer e code (record { stack = s; taken = b }))
offer_is_next d e code false s budget done status running room = record { budget = budget; done = ap (λ n. n + 1) done; room = room; status = inr (running, (_, refl)) }
offer_is_next d e code true s budget done status running room = record { budget = budget; done = ap (λ n. n + 1) done; room = room; status = inl status }

after_is_next : (d : ProcessState) (went : Went) (e : LocalEnd) → d.status ≡ Running → d.done < d.budget → IsNext d (after_local d went e)
after_is_next d went Next running room = record { budget = refl; done = refl; room = room; status = inl refl }
after_is_next d went (Jump at) running room = record { budget = refl; done = refl; room = room; status = inl refl }
after_is_next d went Return running room = record { budget = refl; done = refl; room = room; status = inl refl }
after_is_next d went (Signal x) running room =
    let e = record d { stack = with_frame d.stack went.values went.frame } in
    let o = offered x.id e.stack in
    offer_is_next d e x.id o.taken o.stack refl refl refl running room

-- a local instruction counts
pub step_next : (d : ProcessState) → alone d ≡ true → IsNext d (local_step d)
unfolding local_step
step_next d h =
    let at = alone_running d d.status h in
    let went = ran d.stack in
    rw h (after_is_next d went went.end at.0 at.1)

-- without one the process stays
pub step_still : (d : ProcessState) → alone d ≡ false → local_step d ≡ d
unfolding local_step
step_still d h = rw h refl

-- ---- many steps

pub steps_still : (n : ℕ) (d : ProcessState) → alone d ≡ false → local_steps n d ≡ d
unfolding local_steps
steps_still zero d h = refl
steps_still (suc n) d h = ap (local_steps n) (step_still d h) ∙ steps_still n d h

pub settled_still : (d : ProcessState) → alone d ≡ false → after_local_run d ≡ d
unfolding after_local_run
settled_still d h = steps_still (d.budget - d.done) d h

one_more : (k : ℕ) (d : ProcessState) → k ≡ d.budget - d.done → d.done < d.budget → k ≡ suc (d.budget - (d.done + 1))
one_more k d h room = omega arith

steps_more : (k : ℕ) (d : ProcessState) → local_steps (suc k) d ≡ local_steps k (local_step d)
unfolding local_steps
steps_more k d = refl

settled_by : (b : Bool) (d : ProcessState) → alone d ≡ b → after_local_run (local_step d) ≡ after_local_run d
unfolding after_local_run
settled_by false d h = ap after_local_run (step_still d h)
settled_by true d h =
    let next = step_next d h in
    let left : d.budget - d.done ≡ suc ((local_step d).budget - (local_step d).done) = omega (arith, next.budget, next.done, next.room) in
    sym (ap (λ k. local_steps k d) left ∙ steps_more ((local_step d).budget - (local_step d).done) d)

-- a step leads to the same rest
pub settled_step : (d : ProcessState) → after_local_run (local_step d) ≡ after_local_run d
settled_step d = settled_by (alone d) d refl

rests_by : (n : ℕ) (d : ProcessState) (b : Bool) → alone d ≡ b → d.budget - d.done ≤ n → alone (local_steps n d) ≡ false
unfolding local_steps
rests_by zero d b h enough = spent_by d d.status (omega arith)
rests_by (suc n) d false h enough = ap alone (steps_still (suc n) d h) ∙ h
rests_by (suc n) d true h enough =
    let next = step_next d h in
    rests_by n (local_step d) (alone (local_step d)) refl (omega (arith, next.budget, next.done))

-- a settled process has no local instruction before it
pub settled_rests : (d : ProcessState) → alone (after_local_run d) ≡ false
unfolding after_local_run
settled_rests d = rests_by (d.budget - d.done) d (alone d) refl (omega arith)

pub settled_again : (d : ProcessState) → after_local_run (after_local_run d) ≡ after_local_run d
settled_again d = settled_still (after_local_run d) (settled_rests d)

-- so is what has not started
pub fresh_settled : (made : CreateResult) (budget : ℕ) → after_local_run (fresh made budget) ≡ fresh made budget
fresh_settled made budget = settled_still (fresh made budget) refl

end_waits : (d : ProcessState) (o : Option Event) → after_asked d o MustWait ≡ d
end_waits d None = refl
end_waits d (Some Start) = refl
end_waits d (Some (Act depth request)) = refl
end_waits d (Some (Finish cause)) = refl

-- a settled process that has to wait stays
pub absorbed_waits : (d : ProcessState) → after_local_run d ≡ d → absorbed d MustWait ≡ d
unfolding absorbed
absorbed_waits d rests = ap after_local_run (end_waits d (event_of d)) ∙ rests

-- ---- what stays meanwhile

pub later_same : (d : ProcessState) → IsLater d d
later_same d = record { budget = refl; done = omega arith; within = λ h. h; status = inl refl }

moves_on : (s t u : Status) → Moves s t → Moves t u → Moves s u
moves_on s t u a b = elim b as (λ _. Moves s u) [
  | inl same ↦ elim a as (λ _. Moves s u) [
    | inl before ↦ inl (same ∙ before)
    | inr before ↦ inr (before.0, (before.1.0, same ∙ before.1.1))
  ]
  | inr ends ↦ elim a as (λ _. Moves s u) [
    | inl before ↦ inr (sym before ∙ ends.0, ends.1)
    | inr before ↦ absurd (apart before.1.0 (sym before.1.1 ∙ ends.0))
  ]
]
  where
    apart : (c : EndCause) → Ending c ≡ Running → ⊥
    apart c h = cc

later_on : (d e f : ProcessState) → IsNext d e → IsLater e f → IsLater d f
later_on d e f a b = record {
  budget = b.budget ∙ a.budget;
  done = omega (arith, a.done, b.done);
  within = λ h. b.within (omega (arith, a.done, a.room, a.budget));
  status = moves_on d.status e.status f.status a.status b.status;
}

steps_later : (n : ℕ) (d : ProcessState) (b : Bool) → alone d ≡ b → IsLater d (local_steps n d)
unfolding local_steps
steps_later zero d b h = later_same d
steps_later (suc n) d false h = rw (steps_still (suc n) d h) (later_same d)
steps_later (suc n) d true h = later_on d (local_step d) (local_steps n (local_step d)) (step_next d h) (steps_later n (local_step d) (alone (local_step d)) refl)

-- local instructions do not change the budget, and count
pub settled_later : (d : ProcessState) → IsLater d (after_local_run d)
unfolding after_local_run
settled_later d = steps_later (d.budget - d.done) d (alone d) refl
