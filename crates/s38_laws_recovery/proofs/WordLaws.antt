-- Links go on after each word of change, after each event and after each step.
use Rattle.std.proofs.Common.{◌≡◌, ◌≤◌, ℕ, true, false, [], None, length, refl, sym, ap, subst}
use Rattle.s38_base.specs.Limits.{body_limit}
use Rattle.s38_code.specs.Operations.{family_of}
use Rattle.s38_code.specs.declared.event.Event.TheVariants.{Act, Finish, Start}
use Rattle.s38_code.specs.declared.event.Event.{Event}
use Rattle.s38_code.specs.declared.event.Request.{Request}
use Rattle.s38_laws_units.proofs.HeldLaws.{cursor_other, index_other, profile_other, queue_other}
use Rattle.s38_laws_units.specs.Right.{IsRight, IsUnused}
use Rattle.s38_commits.specs.Units.{unit_of}
use Rattle.s38_laws_commits.proofs.GoingLaws.{JournalsTo, cells_still, renamed_still, space_still}
use Rattle.s38_laws_commits.proofs.LinkLaws.{still_header, still_journal, still_other}
use Rattle.s38_laws_commits.proofs.TellLaws.{MayTell}
use Rattle.s38_laws_commits.proofs.RowTellLaws.{row_tells}
use Rattle.s38_journals.specs.Journals as journals
use Rattle.s38_laws_flush.proofs.durable.GoesLaws.{May, done_goes}
use Rattle.s38_laws_flush.proofs.durable.MayLaws.{row_may}
use Rattle.s38_laws_flush.proofs.durable.SameLaws.{cells_same, change_same, journal_same, part_same, renamed_same, same_itself, space_same}
use Rattle.s38_laws_flush.proofs.durable.StepLaws.{IsDone, takes_effect}
use Rattle.s38_laws_flush.specs.durable.Kept.{AreNumbered}
use Rattle.s38_laws_commits.proofs.LinkLaws.{still_same}
use Rattle.s38_memory.specs.Tagged.{resized}
use Rattle.s38_rules.proofs.RoomLaws.{permitted_by_rules}
use Rattle.s38_rules.proofs.StoreLaws.{stored_holds}
use Rattle.s38_rules.proofs.VerdictLaws.{permitted_none}
use Rattle.s38_rules.specs.families.Changes.{CellsPut, Changes, Committed, Decommitted, Ensured, Entered, Framed, Gone, Journaled, Locked, Made, Moved, Named, OnAccess, OnCursor, OnIndex, OnQueue, Profiled, Resized, Stays, Then, done}
use Rattle.s38_rules.specs.families.Computing.{receiver_at, shift_at}
use Rattle.s38_rules.specs.step.Effect.{effect, effect_of}
use Rattle.s38_rules.specs.store.Forcing.{commit_forces, followed, forced_by, must_persist, overdue}
use Rattle.s38_rules.specs.state.Held.{Held, change, kind_of}
use Rattle.s38_rules.specs.state.Journaling.{data_port, journal_for}
use Rattle.s38_rules.specs.state.Parts.{cursor_part, index_part, profile_part, queue_part}
use Rattle.s38_rules.specs.state.LawfulParts.{cursor_lawful, index_lawful, profile_lawful, queue_lawful}
use Rattle.s38_rules.specs.families.Rows.{row}
use Rattle.s38_rules.specs.state.Access.{access_of, with_access}
use Rattle.s38_rules.specs.state.State.{State, process_entry}
use Rattle.s38_rules.specs.step.Step.{awake_verdict, step}
use Rattle.s38_rules.specs.step.Verdict.{refused_by, ruled_verdict}
use Rattle.s38_rules.specs.declared.object.Object.{Object}
use Rattle.s38_rules.specs.declared.verdict.Verdict.TheVariants.{Permit}
use Rattle.s38_laws_recovery.specs.Restartable.{AreReady}
use Rattle.s38_laws_recovery.proofs.LinkLaws.{Links, Quiet, links_quiet, links_then, quiet_links}
use Rattle.s38_laws_recovery.proofs.NewLaws.{ensured_links, gone_links, journaled_links, made_by_links}
use Rattle.s38_laws_recovery.proofs.QuietLaws.{commit_whole, committed_quiet, decommitted_quiet, delivered_quiet, entered_quiet, finish_quiet, followed_whole, overdue_whole, restacked_quiet, start_quiet, still_quiet}
use Rattle.s38_laws_recovery.proofs.RowLaws.{MayLink, row_links}

-- ---- words

-- nothing is forced
nothing_whole : (h k : Held) → Quiet h k → AreReady h → Links [] h k
nothing_whole h k quiet ready = quiet_links [] h k quiet (λ n is. absurd (let e : false ≡ true = is in cc)) ready

-- what follows is forced
header_links : (h k : Held) (m : ℕ) → Quiet h k → AreReady h → Links (followed h m) h k
header_links h k m quiet ready = quiet_links (followed h m) h k quiet (λ n is. absurd (followed_whole h m n is)) ready

header_quiet : (h : Held) (m : ℕ) (f : Object → Object) → ((x : Object) → (f x).number ≡ x.number) → ((x : Object) → (f x).body ≡ x.body) → ((x : Object) → (f x).on_disk ≡ x.on_disk) → Quiet h (change h m f)
header_quiet h m f number body disk = still_quiet h (change h m f) (change_same h m f number (λ x. ap kind_of (body x)) disk) (still_header h m f number body disk)

unused_of : (h : Held) → AreNumbered h → IsUnused h
unused_of h are = record { none = are.none; next = are.first }

journaled_by : (Z : Type 0) (s : State) (p n port m : ℕ) → AreReady s.held → AreNumbered s.held → JournalsTo s.held n port m
    → Links (forced_by s p (Then (Journaled n port) (Ensured m))) s.held (done s p (Then (Journaled n port) (Ensured m))).held
journaled_by Z s p n port m ready are tell =
    subst (λ (k : ℕ). JournalsTo s.held n port k → Links (forced_by s p (Then (Journaled n port) (Ensured k))) s.held (done s p (Then (Journaled n port) (Ensured k))).held) tell.same
    (λ own. journaled_links s.held n port s.units own (unused_of s.held are) ready) tell

pub done_links : (Z : Type 0) (x : Changes) (s : State) (p : ℕ) → AreReady s.held → AreNumbered s.held → May Z s p x → MayTell s p x → MayLink s p x → Links (forced_by s p x) s.held (done s p x).held
done_links Z Stays s p ready are may tell link = nothing_whole s.held _ (still_quiet s.held s.held (same_itself s.held) (still_same s.held)) ready
done_links Z (OnQueue n f) s p ready are may tell link = nothing_whole s.held _ (still_quiet s.held _ (part_same queue_part queue_lawful _ (λ x. refl) s.held n f) (still_other queue_part queue_lawful queue_other s.held n f)) ready
done_links Z (OnIndex n f) s p ready are may tell link = nothing_whole s.held _ (still_quiet s.held _ (part_same index_part index_lawful _ (λ x. refl) s.held n f) (still_other index_part index_lawful index_other s.held n f)) ready
done_links Z (OnCursor n f) s p ready are may tell link = nothing_whole s.held _ (still_quiet s.held _ (part_same cursor_part cursor_lawful _ (λ x. refl) s.held n f) (still_other cursor_part cursor_lawful cursor_other s.held n f)) ready
done_links Z (Resized n bytes) s p ready are may tell link = nothing_whole s.held _ (still_quiet s.held _ (space_same s.held n (resized bytes)) (space_still s.held n (resized bytes))) ready
done_links Z (CellsPut operand piece) s p ready are may tell link = nothing_whole s.held _ (still_quiet s.held _ (cells_same s.held operand piece) (cells_still s.held operand piece)) ready
done_links Z (Entered block change f) s p ready are may tell link =
    quiet_links (overdue (done s p (Entered block change f)).held (journal_for s.held change.space.0)) s.held _ (entered_quiet s p block change f)
    (λ n is. overdue_whole s.held (done s p (Entered block change f)).held (data_port s.held change.space.0) n is) ready
done_links Z (Journaled n port) s p ready are may tell link = absurd tell
done_links Z (OnAccess n f) s p ready are may tell link = header_links s.held _ n (header_quiet s.held n (λ x. with_access (f (access_of x)) x) (λ x. refl) (λ x. refl) (λ x. refl)) ready
done_links Z (Profiled n special limit) s p ready are may tell link =
    header_links s.held _ n (still_quiet s.held _ (part_same profile_part profile_lawful _ (λ x. refl) s.held n (λ _. (special, limit))) (still_other profile_part profile_lawful profile_other s.held n (λ _. (special, limit)))) ready
done_links Z (Named n id) s p ready are may tell link = header_links s.held _ n (still_quiet s.held _ (renamed_same s.held n id) (renamed_still s.held n id)) ready
done_links Z (Moved n context) s p ready are may tell link = header_links s.held _ n (header_quiet s.held n (λ x. record x { context = context }) (λ x. refl) (λ x. refl) (λ x. refl)) ready
done_links Z (Ensured n) s p ready are may tell link = ensured_links s.held n ready
done_links Z (Made owner made body) s p ready are may tell link = made_by_links s.held owner made body ready (unused_of s.held are) tell link
done_links Z (Gone kind n) s p ready are may tell link = gone_links s.held kind n ready (unused_of s.held are) link
done_links Z (Framed f) s p ready are may tell link = nothing_whole s.held _ (restacked_quiet f s p (process_entry s p)) ready
done_links Z (Locked n held) s p ready are may tell link = nothing_whole s.held _ (still_quiet s.held s.held (same_itself s.held) (still_same s.held)) ready
done_links Z (Committed block) s p ready are may tell link =
    quiet_links (commit_forces s.held block (unit_of s.units block)) s.held _ (committed_quiet s p block (unit_of s.units block)) (λ n is. commit_whole s.held block n (unit_of s.units block) is) ready
done_links Z (Decommitted block) s p ready are may tell link = nothing_whole s.held _ (decommitted_quiet s p block (unit_of s.units block)) ready
done_links Z (Then (Journaled n port) (Ensured m)) s p ready are may tell link = journaled_by Z s p n port m ready are tell
done_links Z (Then a b) s p ready are may tell link =
    let one = done_goes Z a s p are may.0 in
    let first = done_links Z a s p ready are may.0 tell.0 link.0 in
    links_then (forced_by s p a) (forced_by (done s p a) p b) s.held (done s p a).held (done (done s p a) p b).held one (done_goes Z b (done s p a) p one.numbered may.1) first
    (done_links Z b (done s p a) p first.ready one.numbered may.1 tell.1 link.1)

-- ---- an event

act_links : (s : State) (p d : ℕ) (t : Request) → AreReady s.held → AreNumbered s.held → IsRight s → s.limit ≤ body_limit → refused_by (row t.op) s p d t ≡ None
    → Links (must_persist s p (Act d t)) s.held (effect (row t.op) s p d t).state.held
unfolding effect must_persist
act_links s p d t ready are right limit met =
    let x = (row t.op).changes s p d t in
    links_quiet (forced_by s p x) s.held (done s p x).held _
    (done_links (1 ≤ length t.operands) x s p ready are (row_may (family_of t.op) t.op s p d t are met) (row_tells (family_of t.op) t.op s p d t right limit met) (row_links (family_of t.op) t.op s p d t are met))
    (delivered_quiet (done s p x) (shift_at s.held t.op t.operands) (receiver_at t.op t.operands) ((row t.op).gives s p d t))

event_links : (s : State) (p : ℕ) (e : Event) → AreReady s.held → AreNumbered s.held → IsRight s → s.limit ≤ body_limit → awake_verdict s p e ≡ Permit → Links (must_persist s p e) s.held (effect_of s p e).state.held
unfolding effect_of ruled_verdict must_persist
event_links s p Start ready are right limit may = nothing_whole s.held _ (start_quiet s p (process_entry s p)) ready
event_links s p (Act d t) ready are right limit may = act_links s p d t ready are right limit (permitted_none s p t (refused_by (row t.op) s p d t) (permitted_by_rules s p (Act d t) may))
event_links s p (Finish cause) ready are right limit may = nothing_whole s.held _ (finish_quiet s p (process_entry s p)) ready

-- ---- a step

pub step_links : (s : State) (p : ℕ) (e : Event) → AreReady s.held → AreNumbered s.held → IsRight s → s.limit ≤ body_limit → IsDone (step s p e).reply → Links (must_persist s p e) s.held (step s p e).state.held
step_links s p e ready are right limit is =
    let takes = takes_effect s p e is in
    subst (λ (k : Held). Links (must_persist s p e) s.held k) (sym takes.held)
    (stored_holds (λ (k : Held). Links (must_persist s p e) s.held k)
    (λ h n so_far. links_quiet (must_persist s p e) s.held h _ so_far (still_quiet h _ (journal_same h n journals.forced) (still_journal h n journals.forced (λ j. refl))))
    s p e (effect_of s p e).state (event_links s p e ready are right limit takes.permit))
