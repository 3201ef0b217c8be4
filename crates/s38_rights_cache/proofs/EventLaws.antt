-- After each event that the rules permit, with the counts, frame numbers and places that follow it, places are right.
use Rattle.std.proofs.Common.{◌≡◌, ◌<◌, ℕ, ◌-◌, ◌&&◌, Bool, true, false, cond, List, length, refl, ap, ◌∙◌, subst, arith}
use Rattle.std.proofs.lemmas.List.{length-set}
use Rattle.std.specs.Prelude.{Option, Some, None, is_some, slice_get, slice_set}
use Rattle.s38_base.specs.Faults.{counted}
use Rattle.s38_base.specs.Ids.{same_kind}
use Rattle.s38_base.specs.declared.id.Kind.TheVariants as kinds
use Rattle.s38_base.specs.declared.id.Kind.{Kind}
use Rattle.s38_code.specs.Operations.{family_of}
use Rattle.s38_code.specs.declared.event.Event.{Event}
use Rattle.s38_code.specs.declared.event.Event.TheVariants.{Start, Act, Finish}
use Rattle.s38_code.specs.declared.event.Request.{Request}
use Rattle.s38_rules.proofs.Laws.{all_decommitted_keeps}
use Rattle.s38_rules.proofs.RoomLaws.{permitted_by_rules}
use Rattle.s38_rules.proofs.StoreLaws.{stored_beside, stored_holds}
use Rattle.s38_rules.proofs.VerdictLaws.{permitted_none}
use Rattle.s38_rules.specs.families.Changes.{CellsPut, Changes, Committed, Decommitted, Ensured, Entered, Framed, Gone, Journaled, Locked, Made, Moved, Named, OnAccess, OnCursor, OnIndex, OnQueue, Profiled, Resized, Stays, Then, done}
use Rattle.s38_rules.specs.families.Computing.{receiver_at, shift_at}
use Rattle.s38_rules.specs.families.Creation.{destroyed}
use Rattle.s38_rules.specs.step.Effect.{effect, effect_of, end_at}
use Rattle.s38_rules.specs.state.Invocations.{stack_in, stack_of}
use Rattle.s38_rules.specs.families.Rows.{row}
use Rattle.s38_rules.specs.state.State.{State, process_entry, started_in}
use Rattle.s38_rules.specs.step.Step.{awake, awake_verdict}
use Rattle.s38_rules.specs.store.Storing.{stored}
use Rattle.s38_rules.specs.step.Verdict.{refused_by, ruled_verdict, start_verdict}
use Rattle.s38_rules.specs.declared.creating.Creating.{Creating}
use Rattle.s38_rules.specs.declared.object.Body.{Body}
use Rattle.s38_rules.specs.declared.process.ProcessEntry.{ProcessEntry}
use Rattle.s38_journals.specs.Journals as journals
use Rattle.s38_rules.specs.declared.process.Started.{Started}
use Rattle.s38_rules.specs.declared.verdict.Verdict.TheVariants.{Permit}
use Rattle.s38_rights_cache.specs.Following.{world_after_change, world_after_event, world_after_start}
use Rattle.s38_rights_cache.specs.Places.{IsSteady, is_live_in}
use Rattle.s38_rights_cache.specs.Worlds.{WorldState}
use Rattle.s38_rights_cache.proofs.ChangeLaws.{following_steady, framed_steady, quiet_steady, raised_steady, same_steady}
use Rattle.s38_rights_cache.proofs.FitLaws.{IsFit, row_fit}
use Rattle.s38_rights_cache.proofs.KeepLaws.{KeepsEntries}
use Rattle.s38_rights_cache.proofs.ListLaws.{by_place, get_set_other, get_set_same, get_within}
use Rattle.s38_rights_cache.proofs.SameLaws.{Same, all_decommitted_same, delivered_processes, delivered_same, journal_same, same_held, same_then}
use Rattle.s38_rights_cache.proofs.WordLaws.{created_following, destroyed_following, destroyed_next, destroyed_owned, profiled_owned, same_following, standing_owned}
use Rattle.s38_rights_cache.proofs.StartLaws.{user_given, start_met, start_steady}

-- ---- each word of change

made_steady : (w : WorldState) (p owner : ℕ) (made : Creating) (body : Option Body) → owner < w.state.held.next → IsSteady w → IsSteady (world_after_change w p (Made owner made body) (done w.state p (Made owner made body)))
made_steady w p owner made None low steady = same_steady w w.state steady (same_held w.state.held) refl
made_steady w p owner made (Some body) low steady =
    following_steady w (done w.state p (Made owner made (Some body))) steady (created_following w.state owner made body low steady.given.objects steady.given.users) (λ q live. refl) refl

gone_steady : (w : WorldState) (p : ℕ) (kind : Kind) (n : ℕ) (b : Bool) → same_kind kind kinds.Program ≡ b → IsFit w.state p (Gone kind n) → IsSteady w
    → IsSteady (record w { state = record w.state { held = destroyed w.state.held kind n }; authority = cond b (counted w.authority) w.authority })
gone_steady w p kind n true is fit steady =
    raised_steady w (record w.state { held = destroyed w.state.held kind n }) steady (destroyed_owned w.state.held kind n steady.given.objects)
    (omega (arith, destroyed_next w.state.held kind n)) refl
gone_steady w p kind n false is fit steady =
    following_steady w (record w.state { held = destroyed w.state.held kind n }) steady (destroyed_following w.state kind n is fit steady.given.objects) (λ q live. refl) refl

change_steady : (w : WorldState) (p : ℕ) (x : Changes) → IsFit w.state p x → IsSteady w → IsSteady (world_after_change w p x (done w.state p x))
change_steady w p (OnAccess n f) fit steady = raised_steady w (done w.state p (OnAccess n f)) steady (standing_owned w.state.held n f fit steady.given.objects) (omega arith) refl
change_steady w p (Profiled n special limit) fit steady =
    raised_steady w (done w.state p (Profiled n special limit)) steady (profiled_owned w.state.held n special limit steady.given.objects) (omega arith) refl
change_steady w p (Made owner made body) fit steady = made_steady w p owner made body fit steady
change_steady w p (Gone kind n) fit steady = gone_steady w p kind n (same_kind kind kinds.Program) refl fit steady
change_steady w p (Framed f) fit steady = framed_steady w p f fit steady
change_steady w p (Then a b) fit steady = quiet_steady w p (Then a b) (rw (fit.0, fit.1) refl) steady
change_steady w p Stays fit steady = quiet_steady w p Stays refl steady
change_steady w p (OnQueue n f) fit steady = quiet_steady w p (OnQueue n f) refl steady
change_steady w p (OnIndex n f) fit steady = quiet_steady w p (OnIndex n f) refl steady
change_steady w p (OnCursor n f) fit steady = quiet_steady w p (OnCursor n f) refl steady
change_steady w p (Resized n bytes) fit steady = quiet_steady w p (Resized n bytes) refl steady
change_steady w p (CellsPut operand cells) fit steady = quiet_steady w p (CellsPut operand cells) refl steady
change_steady w p (Entered block change f) fit steady = quiet_steady w p (Entered block change f) refl steady
change_steady w p (Journaled n port) fit steady = quiet_steady w p (Journaled n port) refl steady
change_steady w p (Named n id) fit steady = quiet_steady w p (Named n id) refl steady
change_steady w p (Moved n context) fit steady = quiet_steady w p (Moved n context) refl steady
change_steady w p (Ensured n) fit steady = quiet_steady w p (Ensured n) refl steady
change_steady w p (Locked n held) fit steady = quiet_steady w p (Locked n held) refl steady
change_steady w p (Committed block) fit steady = quiet_steady w p (Committed block) refl steady
change_steady w p (Decommitted block) fit steady = quiet_steady w p (Decommitted block) refl steady

-- ---- an instruction

-- a later state by which nothing changes on which rights rest
later_steady : (w : WorldState) (p : ℕ) (x : Changes) (s t : State) → Same s.held t.held → t.processes ≡ s.processes → IsSteady (world_after_change w p x s) → IsSteady (world_after_change w p x t)
later_steady w p x s t same processes steady =
    let stack : stack_of t p ≡ stack_of s p = ap (λ (xs : List ProcessEntry). stack_in (started_in (slice_get xs (p - 1)))) processes in
    rw stack (same_steady (world_after_change w p x s) t steady same processes)

act_refused : (s : State) (p d : ℕ) (t : Request) → awake_verdict s p (Act d t) ≡ Permit → refused_by (row t.op) s p d t ≡ None
unfolding ruled_verdict
act_refused s p d t may = permitted_none s p t _ (permitted_by_rules s p (Act d t) may)

act_steady : (w : WorldState) (p d : ℕ) (t : Request) → awake_verdict w.state p (Act d t) ≡ Permit → IsSteady w
    → IsSteady (world_after_change w p ((row t.op).changes w.state p d t) (effect (row t.op) w.state p d t).state)
unfolding effect
act_steady w p d t may steady =
    let x = (row t.op).changes w.state p d t in
    let fit = row_fit (family_of t.op) t.op w.state p d t steady.given.objects (act_refused w.state p d t may) in
    later_steady w p x (done w.state p x) _
    (delivered_same (done w.state p x) (shift_at w.state.held t.op t.operands) (receiver_at t.op t.operands) ((row t.op).gives w.state p d t))
    (delivered_processes (done w.state p x) (shift_at w.state.held t.op t.operands) (receiver_at t.op t.operands) ((row t.op).gives w.state p d t))
    (change_steady w p x fit steady)

-- ---- an end

end_stands : (s t : State) (p : ℕ) (x : ProcessEntry) → process_entry s p ≡ Some x → t.processes ≡ slice_set s.processes (p - 1) (record x { ended = true }) → KeepsEntries s t
end_stands s t p x is set q live = by_place (process_entry t q ≡ process_entry s q) (q - 1) (p - 1)
    (λ same.
    let entry : process_entry t q ≡ Some (record x { ended = true }) =
    ap (λ (xs : List ProcessEntry). slice_get xs (q - 1)) set ∙ ap (λ (k : ℕ). slice_get (slice_set s.processes (p - 1) (record x { ended = true })) k) same
    ∙ get_set_same s.processes (p - 1) (record x { ended = true }) (get_within s.processes (p - 1) x is) in
    absurd (no_end x.started (subst (λ (y : Option ProcessEntry). is_live_in y ≡ true) entry live)))
    (λ away. ap (λ (xs : List ProcessEntry). slice_get xs (q - 1)) set ∙ get_set_other s.processes (p - 1) (q - 1) (record x { ended = true }) away)
  where
    no_end : (p : Option Started) → (is_some p && false) ≡ true → ⊥
    no_end None live = cc
    no_end (Some p) live = cc

end_steady : (w : WorldState) (p : ℕ) (y : Option ProcessEntry) → process_entry w.state p ≡ y → IsSteady w → IsSteady (record w { state = end_at w.state p y })
end_steady w p None is steady = steady
end_steady w p (Some x) is steady =
    let left = all_decommitted_keeps w.state.units w.state p in
    let set : (end_at w.state p (Some x)).processes ≡ slice_set w.state.processes (p - 1) (record x { ended = true }) = ap (λ (xs : List ProcessEntry). slice_set xs (p - 1) (record x { ended = true })) left in
    following_steady w (end_at w.state p (Some x)) steady (same_following w.state (end_at w.state p (Some x)).held (all_decommitted_same w.state.units w.state p) steady.given.objects)
    (end_stands w.state (end_at w.state p (Some x)) p x is set) (ap length set ∙ length-set w.state.processes (p - 1) (record x { ended = true }))

-- ---- each event

effect_steady : (w : WorldState) (p : ℕ) (e : Event) → awake_verdict w.state p e ≡ Permit → IsSteady w → IsSteady (world_after_event w p e (effect_of w.state p e).state)
unfolding world_after_event effect_of ruled_verdict
effect_steady w p Start may steady =
    start_steady w p (process_entry w.state p) refl
    (λ x is. user_given w.state.held steady.given.objects x (start_met w.state p x (subst (λ (y : Option ProcessEntry). start_verdict w.state p y ≡ Permit) is (permitted_by_rules w.state p Start may)))) steady
effect_steady w p (Act d t) may steady = act_steady w p d t may steady
effect_steady w p (Finish cause) may steady = end_steady w p (process_entry w.state p) refl steady

stored_same : (s : State) (p : ℕ) (e : Event) (t : State) → Same t.held (stored s p e t).held
stored_same s p e t = stored_holds (Same t.held) (λ h n same. same_then t.held h _ same (journal_same h n journals.forced)) s p e t (same_held t.held)

kept_behind : (w : WorldState) (p : ℕ) (e : Event) (s t : State) → Same s.held t.held → t.processes ≡ s.processes → IsSteady (world_after_event w p e s) → IsSteady (world_after_event w p e t)
unfolding world_after_event
kept_behind w p Start s t same processes steady = same_steady (world_after_start w p s) t steady same processes
kept_behind w p (Act d r) s t same processes steady = later_steady w p ((row r.op).changes w.state p d r) s t same processes steady
kept_behind w p (Finish cause) s t same processes steady = same_steady (record w { state = s }) t steady same processes

-- after an event that took effect, was stored, and let all who wait go on
pub event_steady : (w : WorldState) (p : ℕ) (e : Event) → awake_verdict w.state p e ≡ Permit → IsSteady w → IsSteady (world_after_event w p e (awake (stored w.state p e (effect_of w.state p e).state)))
event_steady w p e may steady =
    let t = (effect_of w.state p e).state in
    kept_behind w p e t (awake (stored w.state p e t)) (stored_same w.state p e t) (stored_beside w.state p e t).processes (effect_steady w p e may steady)
