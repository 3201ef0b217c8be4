-- What a process asks and is told, and how its items go on.
use Rattle.std.proofs.Common.{◌≡◌, ℕ, ◌==◌, Bool, true, false, List, [], ◌∷◌, ◌++◌, refl, sym, ap, ◌∙◌, subst, inl, inr, if◌then◌else◌, append-nil, eq-eqb}
use Rattle.std.specs.Prelude.{Option, Some, None, OnOk, Result, Ok, Err, ⊤}
use Rattle.s38_base.specs.declared.fault.NoMemory.{NoMemory}
use Rattle.s38_code.specs.declared.event.Event.{Event}
use Rattle.s38_code.specs.declared.reply.Reply.{Reply}
use Rattle.s38_code.specs.declared.reply.Reply.TheVariants.{MustWait}
use Rattle.s38_code.specs.declared.step.StepFault.{StepFault}
use Rattle.s38_code.specs.declared.step.StepFault.TheVariants as faults
use Rattle.s38_process.specs.declared.status.Status.TheVariants.{Ended}
use Rattle.s38_process.specs.Process.{ProcessState, event_of}
use Rattle.s38_process.specs.AfterReply.{RanFrom, absorbed, process_after}
use Rattle.s38_turn.specs.declared.item.Item.{Item}
use Rattle.s38_turn.specs.declared.item.Item.TheVariants.{Stopped}
use Rattle.s38_turn.specs.declared.view.ProcessList.{ProcessList}
use Rattle.s38_turn.specs.Calls.{Called, IsTold}
use Rattle.s38_turn.specs.Items.{IsAdded, entries_in, has_stop}
use Rattle.s38_turn.specs.Lists.{has, lengthened, list_of}
use Rattle.s38_turn.specs.Seats.{SeatView}
use Rattle.s38_turn.proofs.ListLaws.{long_list}
use Rattle.s38_workers.specs.declared.hearer.Heard.{Heard}
use Rattle.s38_workers.specs.declared.hearer.Hearer.{Hearer}
use Rattle.s38_workers.specs.Hearing.{Hears}
use Rattle.s38_workers.specs.Asking.{NotedFrom, WasStopped, Went, told}

-- ---- the items of a list that grows

own_added : (p : ℕ) (added : List Item) → (if p == p then added else []) ≡ added
own_added p added = ap (λ b. if b then added else []) (eq-eqb p p refl)

items_long : (p : ℕ) (added : List Item) (old new : List ProcessList) → has p old ≡ true → new ≡ lengthened p added old → list_of p new ≡ list_of p old ++ added
items_long p added old new h is = ap (list_of p) is ∙ (long_list p p added old h ∙ ap (λ z. list_of p old ++ z) (own_added p added))

-- ---- one call

-- nothing was added
none_went : (Halted : Type 0) (d d' : ProcessState) (answer : Result (Option Heard) StepFault) (xs xs' : List Item) → Went Halted d xs answer d' (xs ++ []) → xs' ≡ xs → Went Halted d xs answer d' xs'
none_went Halted d d' answer xs xs' w is = subst (Went Halted d xs answer d') (append-nil xs ∙ sym is) w

pub over : (Halted : Type 0) (d d' : ProcessState) (xs xs' : List Item) → d.status ≡ Ended → xs' ≡ xs → Went Halted d xs (Ok None) d' xs'
over Halted d d' xs xs' ended is = none_went Halted d d' (Ok None) xs xs' (record { added = []; by_program = tt; noted = tt; now = refl; stands = ended }) is

module _ (Halted : Type 0) (p : ℕ) (event : Event) (old : List Item) (d : ProcessState) (asks : event_of d ≡ Some event) (xs xs' : List Item) where
  -- a reply came
  went_ok : (reply : Reply) (added : List Item) (d' : ProcessState) (heard : Result Heard NoMemory) (done : ⊤) → xs' ≡ xs ++ added → IsAdded old p event (Ok reply) added
      → OnOk heard (d' ≡ absorbed d reply) → (reply ≡ MustWait → d' ≡ d) → Went Halted d xs (told (Ok done) heard) d' xs'
  went_ok reply added d' (Ok heard) done now (inl e) goes waits = record {
    added = added;
    by_program = subst (λ zs. RanFrom d (entries_in zs)) (sym e) (asks, tt);
    noted = subst (NotedFrom d) (sym e) tt;
    now = now;
    stands = goes ∙ sym (ap (λ zs. process_after d (entries_in zs)) e);
  }
  went_ok reply added d' (Ok heard) done now (inr w) goes waits = record {
    added = added;
    by_program = subst (λ zs. RanFrom d (entries_in zs)) (sym w.1) tt;
    noted = subst (NotedFrom d) (sym w.1) tt;
    now = now;
    stands = waits w.0 ∙ sym (ap (λ zs. process_after d (entries_in zs)) w.1);
  }
  went_ok reply added d' (Err fault) done now (inl e) goes waits = record {
    added = added;
    by_program = subst (λ zs. RanFrom d (entries_in zs)) (sym e) (asks, tt);
    noted = subst (NotedFrom d) (sym e) tt;
    now = now;
    stands = tt;
  }
  went_ok reply added d' (Err fault) done now (inr w) goes waits = record {
    added = added;
    by_program = subst (λ zs. RanFrom d (entries_in zs)) (sym w.1) tt;
    noted = subst (NotedFrom d) (sym w.1) tt;
    now = now;
    stands = tt;
  }

  no_entry : (added : List Item) (b : Bool) → added ≡ (if b then [] else Stopped p event ∷ []) → entries_in added ≡ []
  no_entry added true e = ap entries_in e
  no_entry added false e = ap entries_in e

  -- the call that is noted is what it asks
  one_note : (added : List Item) (b : Bool) → added ≡ (if b then [] else Stopped p event ∷ []) → NotedFrom d added
  one_note added true e = subst (NotedFrom d) (sym e) tt
  one_note added false e = subst (NotedFrom d) (sym e) (asks, tt)

  -- a fault came
  went_err : (fault : StepFault) (added : List Item) (d' : ProcessState) (heard : Result Heard NoMemory) → xs' ≡ xs ++ added → IsAdded old p event (Err fault) added → (fault ≡ faults.Stopped → Halted)
      → Went Halted d xs (told (Err fault) heard) d' xs'
  went_err faults.Stopped added d' heard now is halts = record {
    added = added;
    by_program = subst (RanFrom d) (sym (no_entry added (has_stop old) is)) tt;
    noted = one_note added (has_stop old) is;
    now = now;
    stands = halts refl;
  }
  went_err faults.NoMemory added d' heard now is halts = record {
    added = added;
    by_program = subst (λ zs. RanFrom d (entries_in zs)) (sym is) tt;
    noted = subst (NotedFrom d) (sym is) tt;
    now = now;
    stands = tt;
  }

  pub went_by : (call : Result ⊤ StepFault) (h h' : Hearer) (answer : Result Reply StepFault) (added : List Item) → h.process ≡ d → xs' ≡ xs ++ added → IsAdded old p event answer added → IsTold Hears h call h' answer
      → (answer ≡ Err faults.Stopped → Halted) → Went Halted d xs (told call h'.heard) h'.process xs'
  went_by (Ok done) h h' answer added same now is (reply, replied, hears) halts =
      went_ok reply added h'.process h'.heard done now (subst (λ a. IsAdded old p event a added) replied is)
      (subst (λ x. OnOk h'.heard (h'.process ≡ absorbed x reply)) same hears.goes_on) (λ w. hears.waits w ∙ same)
  went_by (Err fault) h h' answer added same now is t halts =
      went_err fault added h'.process h'.heard now (subst (λ a. IsAdded old p event a added) t.0 is) (λ e. halts (t.0 ∙ ap (λ f. Err f) e))

-- a call of the turn
pub went : {M O : Type 0} (sound : M → Type 0) (origin : M → O) (all : M → List Item) (steps : M → ℕ → Event → Result Reply StepFault → M → Type 0) (first : M) (p : ℕ) (event : Event)
    (call : Result ⊤ StepFault) (d : ProcessState) (h h' : Hearer) (s s' : SeatView M) → Called sound origin all steps first p event (IsTold Hears h call h') s s' → h.process ≡ d → event_of d ≡ Some event → has p s.lists ≡ true
    → Went (WasStopped sound origin steps first) d (list_of p s.lists) (told call h'.heard) h'.process (list_of p s'.lists)
went sound origin all steps first p event call d h h' s s' c same asks own =
    went_by (WasStopped sound origin steps first) p event (all c.before) d asks (list_of p s.lists) (list_of p s'.lists) call h h' c.step.answer c.step.added same
    (items_long p c.step.added s.lists s'.lists own c.lists) c.step.is_added c.step.told
    (λ e. record { before = c.before; after = c.after; process = p; event = event; like_first = c.like_first; stepped = subst (λ a. steps c.before p event a c.after) e c.step.stepped })
