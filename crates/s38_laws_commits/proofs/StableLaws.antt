-- An entry that no unit holds stays as it is, as long as nothing changes it or destroys its data space.
use Rattle.std.proofs.Common.{◌≡◌, ◌∙◌, ◌≤◌, ℕ, ◌+◌, ◌==◌, Bool, true, false, cond, [], ◌∷◌, refl, sym, ap, subst}
use Rattle.std.proofs.lemmas.Bool.{cond_both}
use Rattle.std.proofs.lemmas.List.Elements.{All-head, All-tail}
use Rattle.std.specs.Prelude.{All, None, Option, Some}
use Rattle.s38_base.specs.Limits.{body_limit}
use Rattle.s38_base.specs.Pointers.{start_of, target_of}
use Rattle.s38_code.specs.Operations.{family_of}
use Rattle.s38_code.specs.declared.event.Event.TheVariants.{Act, Finish, Start}
use Rattle.s38_code.specs.declared.event.Event.{Event}
use Rattle.s38_code.specs.declared.operand.Operand.TheVariants as operands
use Rattle.s38_code.specs.declared.operand.Operand.{Operand}
use Rattle.s38_code.specs.declared.reply.Val.{Val}
use Rattle.s38_commits.specs.Changes.{has_change}
use Rattle.s38_commits.specs.Unit.{CommitUnit}
use Rattle.s38_commits.specs.Units.{BlocksRise, UnitMap, changes_entry, ended, unit_of}
use Rattle.s38_dataspaces.specs.Entries as spaces
use Rattle.s38_dataspaces.specs.Entries.{entry_at}
use Rattle.s38_dataspaces.specs.Table.{DataTable}
use Rattle.s38_durable_state.specs.Durable.{Durable}
use Rattle.s38_journals.specs.Journals as journals
use Rattle.s38_journals.specs.declared.entry.EntryKind.TheVariants.{Commit, Decommit}
use Rattle.s38_memory.specs.Tagged.{resized}
use Rattle.s38_rules.proofs.RoomLaws.{permitted_by_rules}
use Rattle.s38_rules.proofs.StoreLaws.{stored_beside, stored_holds}
use Rattle.s38_rules.proofs.VerdictLaws.{permitted_none}
use Rattle.s38_rules.specs.families.Changes.{CellsPut, Changes, Committed, Decommitted, Ensured, Entered, Framed, Gone, Journaled, Locked, Made, Moved, Named, OnAccess, OnCursor, OnIndex, OnQueue, Profiled, Resized, Stays, Then, done}
use Rattle.s38_rules.specs.families.Computing.{receiver_at, shift_at}
use Rattle.s38_rules.specs.step.Effect.{effect, effect_of, end_at, start_at}
use Rattle.s38_rules.specs.store.Forcing.{forced_by, must_persist}
use Rattle.s38_rules.specs.state.Held.{Held}
use Rattle.s38_rules.specs.ask.Receivers.{deliver, delivered}
use Rattle.s38_rules.specs.state.Parts.{cursor_part, index_part, profile_part, queue_part}
use Rattle.s38_rules.specs.state.PartsAt.{on_journal}
use Rattle.s38_rules.specs.state.LawfulParts.{cursor_lawful, index_lawful, profile_lawful, queue_lawful}
use Rattle.s38_rules.specs.families.Rows.{row}
use Rattle.s38_rules.specs.state.Access.{access_of, with_access}
use Rattle.s38_rules.specs.state.State.{State, process_entry}
use Rattle.s38_rules.specs.step.Step.{awake_verdict}
use Rattle.s38_rules.specs.store.Storing.{stored}
use Rattle.s38_rules.specs.families.Units.{all_decommitted, all_undone, committed, decommitted, end_entry, end_written, journal_with_entry}
use Rattle.s38_rules.specs.step.Verdict.{refused_by, ruled_verdict}
use Rattle.s38_rules.specs.declared.process.ProcessEntry.{ProcessEntry}
use Rattle.s38_rules.specs.declared.verdict.Verdict.TheVariants.{Permit}
use Rattle.s38_laws_units.specs.Right.{IsRight}
use Rattle.s38_laws_commits.proofs.ActLaws.{value_still}
use Rattle.s38_laws_commits.proofs.CountLaws.{or_left, or_right}
use Rattle.s38_laws_commits.proofs.EndedLaws.{back_written, committed_written, table_journal, taken_back}
use Rattle.s38_laws_commits.proofs.GoingLaws.{Covers, IsGoing, JournalsTo, cells_still, ensured_quiet, renamed_still, space_still}
use Rattle.s38_laws_units.proofs.HeldLaws.{cursor_other, index_other, profile_other, queue_other}
use Rattle.s38_laws_commits.proofs.LinkLaws.{keeps_for, still_header, still_journal, still_other}
use Rattle.s38_laws_units.proofs.RowLaws.{May, row_may}
use Rattle.s38_laws_commits.proofs.TellLaws.{MayTell, covers_first, covers_second, done_going}
use Rattle.s38_laws_commits.proofs.RowTellLaws.{row_tells}
use Rattle.s38_laws_units.proofs.UnitLaws.{IsFoundIn, each_found, found_ended, tail_of, unit_ended}
use Rattle.s38_laws_commits.proofs.WordLaws.{decommit_going, ending_of}
use Rattle.s38_laws_commits.specs.Told.{IsUntouched}
use Rattle.s38_laws_commits.specs.Touched.{touched_by, touches}
use Rattle.s38_laws_commits.proofs.StableObjectLaws.{HoldsCommitted, entered_stands, gone_stands, journaled_stands, made_stands, quiet_holds, restacked_stands, still_stands}

-- ---- a unit ends

module _ (n at journal : ℕ) (x : spaces.DataEntry) where
  ended_settled_too : (units : UnitMap) (block : ℕ) → BlocksRise units → IsUntouched units n at → IsUntouched (ended units block) n at
  ended_settled_too units block rising settled k = ap (λ r. changes_entry r n at) (unit_ended units block k rising) ∙ by (block == k)
    where
      by : (b : Bool) → changes_entry (cond b None (unit_of units k)) n at ≡ false
      by true = refl
      by false = settled k

  committed_stands : (s : State) (p block : ℕ) (unit : Option CommitUnit) → IsRight s → unit_of s.units block ≡ unit → HoldsCommitted s.held s.units n at journal x → HoldsCommitted (committed s p block unit).held (committed s p block unit).units n at journal x
  committed_stands s p block None right found stands = stands
  committed_stands s p block (Some unit) right found stands =
      let it = ending_of s block unit right found in
      let k = on_journal s.held it.0 (journal_with_entry (end_entry Commit p unit)) in
      subst (λ (r : Option ℕ). HoldsCommitted (end_written s.held r (end_entry Commit p unit)) (ended s.units block) n at journal x) (sym it.1.leads) (record {
        settled = ended_settled_too s.units block right.rising stands.settled;
        now = ap (λ (y : DataTable). entry_at y.entries at) (table_journal s.held it.0 n (journal_with_entry (end_entry Commit p unit))) ∙ stands.now;
        to = keeps_for s.held k (committed_written s.held s.units block it.0 unit it.1 p).keeps n ∙ stands.to;
      })

  pub decommitted_holds : (s : State) (p block : ℕ) (unit : Option CommitUnit) → IsRight s → unit_of s.units block ≡ unit → HoldsCommitted s.held s.units n at journal x
      → HoldsCommitted (decommitted s p block unit).held (decommitted s p block unit).units n at journal x
  decommitted_holds s p block None right found stands = stands
  decommitted_holds s p block (Some unit) right found stands =
      let it = ending_of s block unit right found in
      let k = on_journal (all_undone s.held unit.changes) it.0 (journal_with_entry (end_entry Decommit p unit)) in
      let off : has_change n at unit.changes ≡ false = sym (ap (λ r. changes_entry r n at) found) ∙ stands.settled block in
      subst (λ (r : Option ℕ). HoldsCommitted (end_written (all_undone s.held unit.changes) r (end_entry Decommit p unit)) (ended s.units block) n at journal x) (sym it.1.leads) (record {
        settled = ended_settled_too s.units block right.rising stands.settled;
        now = (taken_back s.held s.units block it.0 unit it.1 p).others n at off ∙ stands.now;
        to = keeps_for s.held k (back_written s.held s.units block it.0 unit it.1 p).keeps n ∙ stands.to;
      })

  all_stands : (units : UnitMap) (s : State) (p : ℕ) (d : Durable) (anew : ℕ → Bool) → BlocksRise units → All (IsFoundIn s.units) units → IsGoing s.held s.units d anew → HoldsCommitted s.held s.units n at journal x
      → HoldsCommitted (all_decommitted s p units).held (all_decommitted s p units).units n at journal x
  unfolding all_decommitted
  all_stands [] s p d anew rising stand going stands = stands
  all_stands (e ∷ es) s p d anew rising stand going stands =
      let taken = decommitted s p e.0 (Some e.1) in
      let head = All-head (IsFoundIn s.units) e es stand in
      let rest = All-tail (IsFoundIn s.units) e es stand in
      cond_both (e.1.process == p) taken s (λ (t : State). HoldsCommitted (all_decommitted t p es).held (all_decommitted t p es).units n at journal x)
      (λ own. all_stands es taken p d anew (tail_of e es rising) (found_ended s.units es e going.right.rising rising rest) (decommit_going s p e.0 (Some e.1) d anew head going)
      (decommitted_holds s p e.0 (Some e.1) going.right head stands))
      (λ other. all_stands es s p d anew (tail_of e es rising) rest going stands)

  -- ---- all words

  pub done_holds : (y : Changes) (s : State) (p : ℕ) (d : Durable) (anew : ℕ → Bool) → May s p y → MayTell s p y → Covers anew (forced_by s p y) → IsGoing s.held s.units d anew → touches n at y ≡ false
      → HoldsCommitted s.held s.units n at journal x → HoldsCommitted (done s p y).held (done s p y).units n at journal x
  done_holds Stays s p d anew may tell cover going off stands = stands
  done_holds (OnQueue m f) s p d anew may tell cover going off stands = still_stands n at journal x s.held _ s.units (still_other queue_part queue_lawful queue_other s.held m f) stands
  done_holds (OnIndex m f) s p d anew may tell cover going off stands = still_stands n at journal x s.held _ s.units (still_other index_part index_lawful index_other s.held m f) stands
  done_holds (OnCursor m f) s p d anew may tell cover going off stands = still_stands n at journal x s.held _ s.units (still_other cursor_part cursor_lawful cursor_other s.held m f) stands
  done_holds (Resized m bytes) s p d anew may tell cover going off stands = still_stands n at journal x s.held _ s.units (space_still s.held m (resized bytes)) stands
  done_holds (CellsPut operand piece) s p d anew may tell cover going off stands = still_stands n at journal x s.held _ s.units (cells_still s.held operand piece) stands
  done_holds (Entered block change f) s p d anew may tell cover going off stands = entered_stands n at journal x s p block change f d anew tell going off stands
  done_holds (Journaled m port) s p d anew may tell cover going off stands = absurd tell
  done_holds (OnAccess m f) s p d anew may tell cover going off stands =
      still_stands n at journal x s.held _ s.units (still_header s.held m (λ y. with_access (f (access_of y)) y) (λ y. refl) (λ y. refl) (λ y. refl)) stands
  done_holds (Profiled m special limit) s p d anew may tell cover going off stands =
      still_stands n at journal x s.held _ s.units (still_other profile_part profile_lawful profile_other s.held m (λ _. (special, limit))) stands
  done_holds (Named m id) s p d anew may tell cover going off stands = still_stands n at journal x s.held _ s.units (renamed_still s.held m id) stands
  done_holds (Moved m context) s p d anew may tell cover going off stands = still_stands n at journal x s.held _ s.units (still_header s.held m (λ y. record y { context = context }) (λ y. refl) (λ y. refl) (λ y. refl)) stands
  done_holds (Ensured m) s p d anew may tell cover going off stands = quiet_holds n at journal x s.held _ s.units (ensured_quiet s.held m) stands
  done_holds (Made owner made None) s p d anew may tell cover going off stands = stands
  done_holds (Made owner made (Some body)) s p d anew may tell cover going off stands = made_stands n at journal x s.held owner made body s.units d anew tell going stands
  done_holds (Gone kind m) s p d anew may tell cover going off stands = gone_stands n at journal x s kind m may going.right off stands
  done_holds (Framed f) s p d anew may tell cover going off stands = restacked_stands n at journal x f s p (process_entry s p) stands
  done_holds (Locked m held) s p d anew may tell cover going off stands = stands
  done_holds (Committed block) s p d anew may tell cover going off stands = committed_stands s p block _ going.right refl stands
  done_holds (Decommitted block) s p d anew may tell cover going off stands = decommitted_holds s p block _ going.right refl stands
  done_holds (Then (Journaled m port) (Ensured i)) s p d anew may tell cover going off stands =
      subst (λ (k : ℕ). JournalsTo s.held m port k → HoldsCommitted (done s p (Then (Journaled m port) (Ensured k))).held (done s p (Then (Journaled m port) (Ensured k))).units n at journal x) tell.same
      (λ journals. journaled_stands n at journal x s p m port journals stands) tell
  done_holds (Then a b) s p d anew may tell cover going off stands =
      done_holds b (done s p a) p d anew may.1 tell.1 (covers_second anew (forced_by s p a) (forced_by (done s p a) p b) cover)
      (done_going a s p d anew may.0 tell.0 (covers_first anew (forced_by s p a) (forced_by (done s p a) p b) cover) going) (or_right (touches n at a) (touches n at b) off)
      (done_holds a s p d anew may.0 tell.0 (covers_first anew (forced_by s p a) (forced_by (done s p a) p b) cover) going (or_left (touches n at a) (touches n at b) off) stands)

  -- ---- an event

  deliver_stands : (s : State) (shift : ℕ) (receiver : Option Operand) (v : Val) → HoldsCommitted s.held s.units n at journal x → HoldsCommitted (deliver s shift receiver v).state.held (deliver s shift receiver v).state.units n at journal x
  deliver_stands s shift (Some (operands.InSpace base offset attr)) v stands = still_stands n at journal x s.held _ s.units (value_still s.held (target_of base) (start_of base offset + shift) v) stands
  deliver_stands s shift _ v stands = stands

  pub delivered_holds : (s : State) (shift : ℕ) (receiver : Option Operand) (v : Option Val) → HoldsCommitted s.held s.units n at journal x
      → HoldsCommitted (delivered s shift receiver v).state.held (delivered s shift receiver v).state.units n at journal x
  delivered_holds s shift receiver None stands = stands
  delivered_holds s shift receiver (Some v) stands = deliver_stands s shift receiver v stands

  start_stands : (s : State) (p : ℕ) (y : Option ProcessEntry) → HoldsCommitted s.held s.units n at journal x → HoldsCommitted (start_at s p y).held (start_at s p y).units n at journal x
  start_stands s p None stands = stands
  start_stands s p (Some y) stands = stands

  finish_stands : (s : State) (p : ℕ) (y : Option ProcessEntry) (d : Durable) (anew : ℕ → Bool) → IsGoing s.held s.units d anew → HoldsCommitted s.held s.units n at journal x → HoldsCommitted (end_at s p y).held (end_at s p y).units n at journal x
  finish_stands s p None d anew going stands = stands
  finish_stands s p (Some y) d anew going stands = all_stands s.units s p d anew going.right.rising (each_found s.units going.right.rising) going stands

  pub event_holds : (s : State) (p : ℕ) (e : Event) (d : Durable) (anew : ℕ → Bool) → s.limit ≤ body_limit → awake_verdict s p e ≡ Permit → Covers anew (must_persist s p e) → IsGoing s.held s.units d anew → touched_by n at s p e ≡ false
      → HoldsCommitted s.held s.units n at journal x → HoldsCommitted (effect_of s p e).state.held (effect_of s p e).state.units n at journal x
  unfolding effect_of effect ruled_verdict must_persist
  event_holds s p Start d anew limit may cover going off stands = start_stands s p (process_entry s p) stands
  event_holds s p (Act depth t) d anew limit may cover going off stands =
      let y = (row t.op).changes s p depth t in
      let met = permitted_none s p t (refused_by (row t.op) s p depth t) (permitted_by_rules s p (Act depth t) may) in
      delivered_holds (done s p y) (shift_at s.held t.op t.operands) (receiver_at t.op t.operands) ((row t.op).gives s p depth t)
      (done_holds y s p d anew (row_may (family_of t.op) t.op s p depth t going.right met) (row_tells (family_of t.op) t.op s p depth t going.right limit met) cover going off stands)
  event_holds s p (Finish cause) d anew limit may cover going off stands = finish_stands s p (process_entry s p) d anew going stands

  pub kept_holds : (s : State) (p : ℕ) (e : Event) (t : State) → HoldsCommitted t.held t.units n at journal x → HoldsCommitted (stored s p e t).held (stored s p e t).units n at journal x
  kept_holds s p e t stands =
      subst (λ (units : UnitMap). HoldsCommitted (stored s p e t).held units n at journal x) (sym (stored_beside s p e t).units)
      (stored_holds (λ (h : Held). HoldsCommitted h t.units n at journal x) (λ h i so_far. still_stands n at journal x h _ t.units (still_journal h i journals.forced (λ j. refl)) so_far) s p e t stands)
