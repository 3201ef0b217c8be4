-- What a process can ask, and how its reply brings it nearer to its end.
use Rattle.std.proofs.Common.{◌≡◌, ◌≢◌, ℕ, ◌+◌, ◌-◌, ◌<◌, ◌≤◌, ◌⊎◌, Bool, true, false, cond, List, [], ◌∷◌, ◌++◌, inl, inr, refl, sym, ◌∙◌, ap, subst, arith, nat_le}
use Rattle.std.proofs.lemmas.Bool.Decides.{nat_tests}
use Rattle.std.specs.Prelude.{Option, Some, None}
use Rattle.s38_code.specs.declared.event.EndCause.{EndCause}
use Rattle.s38_code.specs.declared.event.EndCause.TheVariants as causes
use Rattle.s38_code.specs.declared.event.Event.{Event}
use Rattle.s38_code.specs.declared.event.Event.TheVariants.{Start, Act, Finish}
use Rattle.s38_code.specs.declared.event.Request.{Request}
use Rattle.s38_code.specs.declared.entry.Entry.{Entry}
use Rattle.s38_code.specs.declared.made.CreateResult.{CreateResult}
use Rattle.s38_code.specs.declared.made.CreateResult.TheVariants.{Created, Refused}
use Rattle.s38_code.specs.declared.program.Instruction.{Instruction}
use Rattle.s38_code.specs.declared.reply.Reply.{Reply}
use Rattle.s38_code.specs.declared.reply.Reply.TheVariants.{Done, Signal, MustWait}
use Rattle.s38_process.specs.declared.status.Status.{Status}
use Rattle.s38_process.specs.declared.status.Status.TheVariants.{Fresh, Running, Ending, Ended}
use Rattle.s38_process.specs.Exceptions.{offered}
use Rattle.s38_process.specs.Invocations.{Stack, instruction_of}
use Rattle.s38_process.specs.Process.{ProcessState, act_of, acts, after_offer, after_signal, asks, event_of, is_return, returns, signal_status}
use Rattle.s38_process.specs.AfterReply.{RanFrom, absorbed, after_act, after_asked, after_end, after_event, after_start, begun_by, ends_by_finish, is_finish, process_after}
use Rattle.s38_process.specs.LocalRun.{after_local_run, alone_by}
use Rattle.s38_process.proofs.Alone.{IsLater, Moves, settled_later, settled_still}
use Rattle.s38_run.specs.Running.{left, left_by}

-- a fresh process asks to start
abbrev pub Starts : ProcessState → Event → Type 0
Starts d e = (d.status ≡ Fresh) × (e ≡ Start)

-- or a process asks for its end
abbrev pub Ends : ProcessState → Event → Type 0
Ends d e = (0 < left d) × ((c : EndCause) × (e ≡ Finish c))

-- or a running one asks for an instruction
abbrev pub Acts : ProcessState → Event → Type 0
Acts d e = (d.status ≡ Running) × (d.done < d.budget) × ((n : ℕ) × ((q : Request) × (e ≡ Act n q)))

abbrev pub Asks : ProcessState → Event → Type 0
Asks d e = Starts d e ⊎ (Ends d e ⊎ Acts d e)

left_running : (d : ProcessState) → d.status ≡ Running → left d ≡ d.budget - d.done + 2
left_running d h = ap (left_by d) h

of_act : (d : ProcessState) (b : Bool) (i : Instruction) (e : Event) → d.status ≡ Running → d.done < d.budget → cond b (returns d) (act_of d.stack i) ≡ e → Asks d e
of_act d true i e running room h = inr (inl (rw (left_running d running) (omega arith), (_, sym h)))
of_act d false i e running room h = inr (inr (running, room, (_, (_, sym h))))

of_next : (d : ProcessState) (i : Option Instruction) (e : Event) → d.status ≡ Running → d.done < d.budget → acts d i ≡ e → Asks d e
of_next d None e running room h = inr (inl (rw (left_running d running) (omega arith), (_, sym h)))
of_next d (Some i) e running room h = of_act d (is_return i.op) i e running room h

of_runs : (d : ProcessState) (b : Bool) (e : Event) → nat_le d.budget d.done ≡ b → d.status ≡ Running → cond b (Finish causes.Budget) (acts d (instruction_of d.stack.top)) ≡ e → Asks d e
of_runs d true e test running h = inr (inl (rw (left_running d running) (omega arith), (causes.Budget, sym h)))
of_runs d false e test running h = of_next d _ e running (grind (arith, nat_tests)) h

some_is : {A : Type 0} (a b : A) → Some a ≡ Some b → a ≡ b
some_is a b h = cc

of_status : (d : ProcessState) (s : Status) (e : Event) → d.status ≡ s → asks d s ≡ Some e → Asks d e
of_status d Fresh e is h = inl (is, sym (some_is _ _ h))
of_status d Running e is h = of_runs d (nat_le d.budget d.done) e refl is (some_is _ _ h)
of_status d (Ending c) e is h =
    let n : left d ≡ 1 = ap (left_by d) is in
    inr (inl (rw n (omega arith), (c, sym (some_is _ _ h))))
of_status d Ended e is h = cc

-- what a process asks
pub asking : (d : ProcessState) (e : Event) → event_of d ≡ Some e → Asks d e
unfolding event_of
asking d e h = of_status d d.status e refl h

-- how it goes on is by what it asked
pub absorbed_by : (d : ProcessState) (e : Event) (r : Reply) → event_of d ≡ Some e → absorbed d r ≡ after_local_run (after_event d e r)
unfolding absorbed
absorbed_by d e r h = ap (λ o. after_local_run (after_asked d o r)) h

left_at : (d : ProcessState) (s : Status) → d.status ≡ s → left d ≡ left_by d s
left_at d s h = ap (left_by d) h

end_falls : (d : ProcessState) (r : Reply) → r ≢ MustWait → 0 < left d → left (after_end d r) < left d
end_falls d (Done vs) w h = h
end_falls d (Signal x) w h = h
end_falls d MustWait w h = absurd (w refl)

offer_falls : (d : ProcessState) (code : ℕ) (s : Stack) (taken : Bool) → d.status ≡ Running → d.done < d.budget → left (after_offer d code (record { stack = s; taken = taken })) < left d
offer_falls d code s false running room = rw (left_running d running) (omega arith)
offer_falls d code s true running room = rw running (omega arith)

signal_falls : (d : ProcessState) (code : ℕ) → d.status ≡ Running → d.done < d.budget → left (after_signal d code) < left d
signal_falls d code running room = offer_falls d code (offered code d.stack).stack (offered code d.stack).taken running room

act_falls : (d : ProcessState) (r : Reply) → r ≢ MustWait → d.status ≡ Running → d.done < d.budget → left (after_act d r) < left d
act_falls d (Done vs) w running room = rw running (omega arith)
act_falls d (Signal x) w running room = signal_falls d x.id running room
act_falls d MustWait w running room = absurd (w refl)

-- also where its template was refused
begun_left : (d : ProcessState) (made : CreateResult) → left (record d { status = begun_by made }) < d.budget + 3
begun_left d (Created program) = omega arith
begun_left d (Refused id number) = omega arith

start_falls : (d : ProcessState) (r : Reply) → r ≢ MustWait → d.status ≡ Fresh → left (after_start d r) < left d
start_falls d (Done vs) w is = let n : left d ≡ d.budget + 3 = left_at d Fresh is in rw n (begun_left d d.stack.top.made)
start_falls d (Signal x) w is = let n : left d ≡ d.budget + 3 = left_at d Fresh is in rw n (omega arith)
start_falls d MustWait w is = absurd (w refl)

falls_by : (d : ProcessState) (e : Event) (r : Reply) → r ≢ MustWait → Asks d e → left (after_event d e r) < left d
falls_by d e r w asks = elim asks as (λ _. left (after_event d e r) < left d) [
  | inl h ↦ subst (λ (x : Event). left (after_event d x r) < left d) (sym h.1) (start_falls d r w h.0)
  | inr more ↦ elim more as (λ _. left (after_event d e r) < left d) [
    | inl h ↦ subst (λ (x : Event). left (after_event d x r) < left d) (sym h.1.1) (end_falls d r w h.0)
    | inr h ↦ subst (λ (x : Event). left (after_event d x r) < left d) (sym h.2.1.1) (act_falls d r w h.0 h.1)
  ]
]

same_left : (d e : ProcessState) (s : Status) → d.status ≡ s → e.status ≡ s → e.budget ≡ d.budget → d.done ≤ e.done → left e ≤ left d
same_left d e Fresh a b budget done = rw (left_at d Fresh a) (rw (left_at e Fresh b) (omega (arith, budget)))
same_left d e Running a b budget done = rw (left_at d Running a) (rw (left_at e Running b) (omega (arith, budget, done)))
same_left d e (Ending c) a b budget done = rw (left_at d (Ending c) a) (rw (left_at e (Ending c) b) (omega arith))
same_left d e Ended a b budget done = rw (left_at d Ended a) (rw (left_at e Ended b) (omega arith))

later_left : (d e : ProcessState) → IsLater d e → left e ≤ left d
later_left d e h = elim h.status as (λ _. left e ≤ left d) [
  | inl same ↦ same_left d e d.status refl same h.budget h.done
  | inr ends ↦ rw (left_running d ends.0) (rw (left_at e (Ending ends.1.0) ends.1.1) (omega arith))
]

-- local instructions bring a process no further from its end
pub settled_left : (d : ProcessState) → left (after_local_run d) ≤ left d
settled_left d = later_left d (after_local_run d) (settled_later d)

-- each reply but MustWait brings it nearer
pub falls : (d : ProcessState) (e : Event) (r : Reply) → event_of d ≡ Some e → r ≢ MustWait → left (absorbed d r) < left d
falls d e r h w =
    let nearer : left (after_local_run (after_event d e r)) < left d = omega (arith, falls_by d e r w (asking d e h), settled_left (after_event d e r)) in
    subst (λ (x : ProcessState). left x < left d) (sym (absorbed_by d e r h)) nearer

-- and MustWait leaves it where it was
waits_still : (d : ProcessState) (e : Event) → after_event d e MustWait ≡ d
waits_still d Start = refl
waits_still d (Act depth request) = refl
waits_still d (Finish cause) = refl

pub waits_left : (d : ProcessState) (e : Event) → event_of d ≡ Some e → left (absorbed d MustWait) ≤ left d
waits_left d e h =
    subst (λ (x : ProcessState). left x ≤ left d) (sym (absorbed_by d e MustWait h ∙ ap after_local_run (waits_still d e))) (settled_left d)

-- a process that is fresh after its local run was so before, and one that has ended too
was_fresh : (d : ProcessState) → (after_local_run d).status ≡ Fresh → d.status ≡ Fresh
was_fresh d = before_fresh d.status (after_local_run d).status (settled_later d).status
  where
    apart : (c : EndCause) → Ending c ≡ Fresh → ⊥
    apart c g = cc

    before_fresh : (s t : Status) → Moves s t → t ≡ Fresh → s ≡ Fresh
    before_fresh s t moves is = elim moves as (λ _. s ≡ Fresh) [ inl same ↦ sym same ∙ is | inr ends ↦ absurd (apart ends.1.0 (sym ends.1.1 ∙ is)) ]

was_ended : (d : ProcessState) → (after_local_run d).status ≡ Ended → d.status ≡ Ended
was_ended d = before_ended d.status (after_local_run d).status (settled_later d).status
  where
    apart : (c : EndCause) → Ending c ≡ Ended → ⊥
    apart c g = cc

    before_ended : (s t : Status) → Moves s t → t ≡ Ended → s ≡ Ended
    before_ended s t moves is = elim moves as (λ _. s ≡ Ended) [ inl same ↦ sym same ∙ is | inr ends ↦ absurd (apart ends.1.0 (sym ends.1.1 ∙ is)) ]

-- no process is fresh again
begun_leaves : (made : CreateResult) → begun_by made ≢ Fresh
begun_leaves (Created program) = λ h. cc
begun_leaves (Refused id number) = λ h. cc

start_leaves : (d : ProcessState) (r : Reply) → r ≢ MustWait → (after_start d r).status ≢ Fresh
start_leaves d (Done vs) w = begun_leaves d.stack.top.made
start_leaves d (Signal x) w = λ h. cc
start_leaves d MustWait w = absurd (w refl)

end_leaves : (d : ProcessState) (r : Reply) → r ≢ MustWait → (after_end d r).status ≢ Fresh
end_leaves d (Done vs) w = λ h. cc
end_leaves d (Signal x) w = λ h. cc
end_leaves d MustWait w = absurd (w refl)

offer_leaves : (d : ProcessState) (code : ℕ) (taken : Bool) → d.status ≡ Running → signal_status d code taken ≢ Fresh
offer_leaves d code false running = λ h. cc
offer_leaves d code true running = λ h. cc

signal_leaves : (d : ProcessState) (code : ℕ) → d.status ≡ Running → (after_signal d code).status ≢ Fresh
signal_leaves d code running = offer_leaves d code (offered code d.stack).taken running

act_leaves : (d : ProcessState) (r : Reply) → r ≢ MustWait → d.status ≡ Running → (after_act d r).status ≢ Fresh
act_leaves d (Done vs) w running = λ h. cc
act_leaves d (Signal x) w running = signal_leaves d x.id running
act_leaves d MustWait w running = absurd (w refl)

leaves_by : (d : ProcessState) (e : Event) (r : Reply) → r ≢ MustWait → Asks d e → (after_event d e r).status ≢ Fresh
leaves_by d e r w asks = elim asks as (λ _. (after_event d e r).status ≢ Fresh) [
  | inl h ↦ subst (λ (x : Event). (after_event d x r).status ≢ Fresh) (sym h.1) (start_leaves d r w)
  | inr more ↦ elim more as (λ _. (after_event d e r).status ≢ Fresh) [
    | inl h ↦ subst (λ (x : Event). (after_event d x r).status ≢ Fresh) (sym h.1.1) (end_leaves d r w)
    | inr h ↦ subst (λ (x : Event). (after_event d x r).status ≢ Fresh) (sym h.2.1.1) (act_leaves d r w h.0)
  ]
]

pub leaves : (d : ProcessState) (e : Event) (r : Reply) → event_of d ≡ Some e → r ≢ MustWait → (absorbed d r).status ≢ Fresh
leaves d e r h w = subst (λ (x : ProcessState). x.status ≢ Fresh) (sym (absorbed_by d e r h)) (λ g. leaves_by d e r w (asking d e h) (was_fresh (after_event d e r) g))

-- a process ends only by asking for its end
begun_goes : (made : CreateResult) → begun_by made ≢ Ended
begun_goes (Created program) = λ h. cc
begun_goes (Refused id number) = λ h. cc

start_goes : (d : ProcessState) (r : Reply) → d.status ≡ Fresh → (after_start d r).status ≢ Ended
start_goes d (Done vs) is = begun_goes d.stack.top.made
start_goes d (Signal x) is = λ h. cc
start_goes d MustWait is = λ h. cc

offer_goes : (d : ProcessState) (code : ℕ) (taken : Bool) → d.status ≡ Running → signal_status d code taken ≢ Ended
offer_goes d code false running = λ h. cc
offer_goes d code true running = λ h. cc

signal_goes : (d : ProcessState) (code : ℕ) → d.status ≡ Running → (after_signal d code).status ≢ Ended
signal_goes d code running = offer_goes d code (offered code d.stack).taken running

act_goes : (d : ProcessState) (r : Reply) → d.status ≡ Running → (after_act d r).status ≢ Ended
act_goes d (Done vs) is = λ h. cc
act_goes d (Signal x) is = signal_goes d x.id is
act_goes d MustWait is = λ h. cc

ended_by : (d : ProcessState) (e : Event) (r : Reply) → Asks d e → (after_event d e r).status ≡ Ended → is_finish e ≡ true
ended_by d e r asks = elim asks as (λ _. (after_event d e r).status ≡ Ended → is_finish e ≡ true) [
  | inl h ↦ subst (λ (x : Event). (after_event d x r).status ≡ Ended → is_finish x ≡ true) (sym h.1) (λ g. absurd (start_goes d r h.0 g))
  | inr more ↦ elim more as (λ _. (after_event d e r).status ≡ Ended → is_finish e ≡ true) [
    | inl h ↦ subst (λ (x : Event). (after_event d x r).status ≡ Ended → is_finish x ≡ true) (sym h.1.1) (λ g. refl)
    | inr h ↦ subst (λ (x : Event). (after_event d x r).status ≡ Ended → is_finish x ≡ true) (sym h.2.1.1) (λ g. absurd (act_goes d r h.0 g))
  ]
]

pub ends_asking : (d : ProcessState) (e : Event) (r : Reply) → event_of d ≡ Some e → (absorbed d r).status ≡ Ended → is_finish e ≡ true
ends_asking d e r h g = ended_by d e r (asking d e h) (was_ended (after_event d e r) (subst (λ (x : ProcessState). x.status ≡ Ended) (absorbed_by d e r h) g))

-- and asking for its end, it ends
end_is : (d : ProcessState) (r : Reply) → r ≢ MustWait → (after_end d r).status ≡ Ended
end_is d (Done vs) w = refl
end_is d (Signal x) w = refl
end_is d MustWait w = absurd (w refl)

ended_stays : (d : ProcessState) → d.status ≡ Ended → (after_local_run d).status ≡ Ended
ended_stays d h = ap (λ (x : ProcessState). x.status) (settled_still d (ap (alone_by d) h)) ∙ h

finish_by : (d : ProcessState) (e : Event) (r : Reply) → r ≢ MustWait → is_finish e ≡ true → (after_event d e r).status ≡ Ended
finish_by d Start r w f = cc
finish_by d (Act depth request) r w f = cc
finish_by d (Finish cause) r w f = end_is d r w

pub finish_ends : (d : ProcessState) (e : Event) (r : Reply) → event_of d ≡ Some e → r ≢ MustWait → is_finish e ≡ true → (absorbed d r).status ≡ Ended
finish_ends d e r h w f = subst (λ (x : ProcessState). x.status ≡ Ended) (sym (absorbed_by d e r h)) (ended_stays (after_event d e r) (finish_by d e r w f))

-- one that asks has not ended
pub asks_open : (d : ProcessState) (e : Event) → event_of d ≡ Some e → d.status ≢ Ended
unfolding event_of
asks_open d e h g = none_some (sym (ap (asks d) g) ∙ h)
  where
    none_some : None ≡ Some e → ⊥
    none_some k = cc

start_asked : (d : ProcessState) (e : Event) → e ≡ Start → Asks d e → d.status ≡ Fresh
start_asked d e s asks = elim asks as (λ _. d.status ≡ Fresh) [
  | inl h ↦ h.0
  | inr more ↦ elim more as (λ _. d.status ≡ Fresh) [ inl h ↦ absurd (no_end h.1.0 (sym s ∙ h.1.1)) | inr h ↦ absurd (no_act h.2.0 h.2.1.0 (sym s ∙ h.2.1.1)) ]
]
  where
    no_end : (c : EndCause) → Start ≡ Finish c → ⊥
    no_end c g = cc

    no_act : (n : ℕ) (q : Request) → Start ≡ Act n q → ⊥
    no_act n q g = cc

-- only a fresh process asks to start
pub starts_fresh : (d : ProcessState) → event_of d ≡ Some Start → d.status ≡ Fresh
starts_fresh d h = start_asked d Start refl (asking d Start h)

none_ended : (d : ProcessState) (s : Status) → d.status ≡ s → asks d s ≡ None → s ≡ Ended
none_ended d Fresh h g = cc
none_ended d Running h g = cc
none_ended d (Ending c) h g = cc
none_ended d Ended h g = refl

-- only an ended one asks nothing
pub none_asked : (d : ProcessState) → event_of d ≡ None → d.status ≡ Ended
unfolding event_of
none_asked d h = none_ended d d.status refl h

-- ---- entries of one process

pub ran_more : (d : ProcessState) (es : List Entry) (e : Entry) → RanFrom d es → event_of (process_after d es) ≡ Some e.event → RanFrom d (es ++ e ∷ [])
ran_more d [] e h g = (g, tt)
ran_more d (x ∷ es) e h g = (h.0, ran_more (absorbed d x.reply) es e h.1 g)

pub more_after : (d : ProcessState) (es : List Entry) (e : Entry) → process_after d (es ++ e ∷ []) ≡ absorbed (process_after d es) e.reply
more_after d [] e = refl
more_after d (x ∷ es) e = more_after (absorbed d x.reply) es e

pub ends_more : (es : List Entry) (e : Entry) → ends_by_finish (es ++ e ∷ []) ≡ is_finish e.event
ends_more [] e = refl
ends_more (x ∷ []) e = refl
ends_more (x ∷ y ∷ es) e = ends_more (y ∷ es) e
