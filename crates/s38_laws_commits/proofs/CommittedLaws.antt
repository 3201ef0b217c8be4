-- Step by step a state and what is durable of it stay as a machine leaves them; and what a unit committed is found by the
-- restart of each longer history.
use Rattle.std.proofs.Common.{◌≡◌, ◌≤◌, ◌∙◌, ◌==◌, ◌++◌, ◌∷◌, Bool, true, false, cond, List, [], ap, refl, sym, subst, ℕ}
use Rattle.std.specs.List.{list_any}
use Rattle.std.specs.Prelude.{None, Option, Some, is_some}
use Rattle.s38_base.specs.Limits.{body_limit}
use Rattle.s38_code.specs.declared.entry.Entry.{Entry}
use Rattle.s38_code.specs.declared.event.Event.TheVariants.{Act}
use Rattle.s38_code.specs.declared.event.Event.{Event}
use Rattle.s38_code.specs.declared.event.Request.{Request}
use Rattle.s38_code.specs.declared.reply.Reply.TheVariants.{Done, MustWait, Signal}
use Rattle.s38_code.specs.declared.reply.Reply.{Reply}
use Rattle.s38_commits.proofs.MapLaws.{nat_itself}
use Rattle.s38_commits.specs.Changes.{has_change}
use Rattle.s38_commits.specs.Unit.{CommitUnit}
use Rattle.s38_commits.specs.Units.{UnitMap, changes_entry, ended, unit_of}
use Rattle.s38_dataspaces.specs.Entries as spaces
use Rattle.s38_dataspaces.specs.Entries.{entry_at}
use Rattle.s38_dataspaces.specs.Table.{DataTable}
use Rattle.s38_durable_state.specs.Durable.{Durable, after_reply, durable, durable_after}
use Rattle.s38_journals.specs.declared.entry.EntryKind.TheVariants.{Commit}
use Rattle.s38_laws_objects.proofs.EventLaws.{effect_beside, step_well}
use Rattle.s38_laws_objects.specs.Well.{AreWell}
use Rattle.s38_rules.proofs.StoreLaws.{stored_beside}
use Rattle.s38_rules.specs.families.Changes.{Changes, Committed, done}
use Rattle.s38_rules.specs.families.Computing.{receiver_at, shift_at}
use Rattle.s38_rules.specs.step.Effect.{effect, effect_of}
use Rattle.s38_rules.specs.store.Forcing.{commit_forces, forced_by, is_whole, must_persist, whole_if}
use Rattle.s38_rules.specs.state.Held.{Held}
use Rattle.s38_rules.specs.state.Journaling.{journal_for, journal_for_block}
use Rattle.s38_rules.specs.step.Legal.{IsEntry, Leads}
use Rattle.s38_rules.specs.state.PartsAt.{on_journal}
use Rattle.s38_rules.specs.families.Rows.{row}
use Rattle.s38_rules.specs.state.State.{State, waits}
use Rattle.s38_rules.specs.step.Step.{awake_verdict, by_verdict, by_waiting, step}
use Rattle.s38_rules.specs.families.Units.{committed, end_entry, end_written, journal_with_entry}
use Rattle.s38_rules.specs.declared.verdict.Verdict.TheVariants.{Permit, Refuse, Wait}
use Rattle.s38_rules.specs.declared.verdict.Verdict.{Verdict}
use Rattle.s38_laws_units.specs.Right.{AreRight, IsRight}
use Rattle.s38_laws_commits.proofs.ActLaws.{step_going}
use Rattle.s38_laws_commits.proofs.EndedLaws.{committed_written, table_journal}
use Rattle.s38_laws_commits.proofs.FoundLaws.{found_next, found_whole}
use Rattle.s38_laws_commits.proofs.GoingLaws.{IsGoing, first_whole, never}
use Rattle.s38_laws_commits.proofs.LinkLaws.{keeps_for}
use Rattle.s38_laws_commits.proofs.RenewLaws.{renewed}
use Rattle.s38_laws_commits.proofs.StableLaws.{delivered_holds, event_holds, kept_holds}
use Rattle.s38_laws_commits.proofs.StableObjectLaws.{HoldsCommitted}
use Rattle.s38_laws_units.proofs.UnitLaws.{unit_ended}
use Rattle.s38_laws_commits.proofs.WordLaws.{ending_of}
use Rattle.s38_laws_commits.proofs.OwnedLaws.{IsOwned, owned}
use Rattle.s38_laws_commits.specs.Found.{AreSound, Commits, entry_now, found_entry}
use Rattle.s38_laws_commits.specs.Imaged.{AreImaged}
use Rattle.s38_laws_commits.specs.Linked.{AreLinked}
use Rattle.s38_laws_commits.specs.Told.{AreTold}
use Rattle.s38_laws_commits.specs.Touched.{LeavesAlone, touched, touched_by}

-- ---- a step

-- with what must persist
going_of : (s : State) (d : Durable) (anew : ℕ → Bool) → AreSound s d → IsGoing s.held s.units d anew
going_of s d anew sound = record {
  right = sound.right;
  linked = sound.linked;
  told = sound.told;
  kept = record { port = λ n p _ is on. sound.kept.port n p refl is on; journal = λ n _ is on. sound.kept.journal n refl is on; space = λ n journal _ to. sound.kept.space n journal refl to };
}

abbrev anew_by : State → Entry → ℕ → Bool
anew_by s e n = list_any (is_whole n) (must_persist s e.process e.event)

behind : (s : State) (d : Durable) (e : Entry) → AreSound s d → IsGoing (step s e.process e.event).state.held (step s e.process e.event).state.units d (anew_by s e)
behind s d e sound = step_going s e.process e.event d (anew_by s e) sound.limit (λ n is. is) (going_of s d (anew_by s e) sound)

-- the limit of a body stays
verdict_limit : (s : State) (p : ℕ) (e : Event) (v : Verdict) → (by_verdict s p e v).state.limit ≡ s.limit
verdict_limit s p e Permit = (stored_beside s p e (effect_of s p e).state).limit ∙ (effect_beside s p e).limit
verdict_limit s p e Wait = refl
verdict_limit s p e (Refuse x) = refl

step_limit : (s : State) (p : ℕ) (e : Event) → (step s p e).state.limit ≡ s.limit
unfolding step
step_limit s p e = by (waits s p)
  where
    by : (b : Bool) → (by_waiting b s p e).state.limit ≡ s.limit
    by true = refl
    by false = verdict_limit s p e (awake_verdict s p e)

limit_behind : (s : State) (p : ℕ) (e : Event) → s.limit ≤ body_limit → (step s p e).state.limit ≤ body_limit
limit_behind s p e limit = subst (λ (n : ℕ). n ≤ body_limit) (sym (step_limit s p e)) limit

done_sound : (s : State) (d : Durable) (e : Entry) → AreSound s d → AreSound (step s e.process e.event).state (durable_after (must_persist s e.process e.event) d (step s e.process e.event).state)
done_sound s d e sound =
    let going = behind s d e sound in
    record {
      limit = limit_behind s e.process e.event sound.limit;
      right = going.right;
      well = step_well s e.process e.event sound.well;
      linked = going.linked;
      told = going.told;
      kept = renewed (must_persist s e.process e.event) d (step s e.process e.event).state going.linked.rising going.right going.linked going.told going.kept;
    }

-- what does not take effect changes nothing of it
abbrev pub IsDone : Reply → Type 0
IsDone (Done values) = Unit {0}
IsDone _ = ⊥

record Stayed (s t : State) : Type 0 where
  pub held : t.held ≡ s.held
  pub units : t.units ≡ s.units

unmoved_by : (s : State) (p : ℕ) (e : Event) (v : Verdict) → (IsDone (by_verdict s p e v).reply → ⊥) → Stayed s (by_verdict s p e v).state
unmoved_by s p e Permit not = absurd (not tt)
unmoved_by s p e Wait not = record { held = refl; units = refl }
unmoved_by s p e (Refuse x) not = record { held = refl; units = refl }

unmoved : (s : State) (p : ℕ) (e : Event) → (IsDone (step s p e).reply → ⊥) → Stayed s (step s p e).state
unfolding step
unmoved s p e = by (waits s p)
  where
    by : (b : Bool) → (IsDone (by_waiting b s p e).reply → ⊥) → Stayed s (by_waiting b s p e).state
    by true not = record { held = refl; units = refl }
    by false not = unmoved_by s p e (awake_verdict s p e) not

stayed_sound : (s t : State) (d : Durable) → Stayed s t → t.limit ≤ body_limit → AreWell t → AreSound s d → AreSound t d
stayed_sound s t d stayed limit well sound = record {
  limit = limit;
  right = subst (λ (h : Held). AreRight h t.units) (sym stayed.held) (subst (λ (u : UnitMap). AreRight s.held u) (sym stayed.units) sound.right);
  well = well;
  linked = subst (λ (h : Held). AreLinked h) (sym stayed.held) sound.linked;
  told = subst (λ (h : Held). AreTold h t.units) (sym stayed.held) (subst (λ (u : UnitMap). AreTold s.held u) (sym stayed.units) sound.told);
  kept = subst (λ (h : Held). AreImaged h t.units d (λ n. false)) (sym stayed.held) (subst (λ (u : UnitMap). AreImaged s.held u d (λ n. false)) (sym stayed.units) sound.kept);
}

pub step_sound : (s : State) (d : Durable) (e : Entry) (before : List Entry) → IsEntry s before e → AreSound s d → AreSound (step s e.process e.event).state (after_reply d s e e.reply)
step_sound s d e before entry sound = by e.reply entry.reply
  where
    by : (r : Reply) → (step s e.process e.event).reply ≡ r → AreSound (step s e.process e.event).state (after_reply d s e r)
    by (Done values) is = done_sound s d e sound
    by (Signal x) is = stayed_sound s (step s e.process e.event).state d (unmoved s e.process e.event (λ done. subst (λ (r : Reply). IsDone r) is done)) (limit_behind s e.process e.event sound.limit) (step_well s e.process e.event sound.well) sound
    by MustWait is = stayed_sound s (step s e.process e.event).state d (unmoved s e.process e.event (λ done. subst (λ (r : Reply). IsDone r) is done)) (limit_behind s e.process e.event sound.limit) (step_well s e.process e.event sound.well) sound

pub history_sound : (s : State) (d : Durable) (before history : List Entry) (end : State) → AreSound s d → Leads s before history end → AreSound end (durable d s history)
history_sound s d before [] end sound leads = subst (λ (t : State). AreSound t d) leads sound
history_sound s d before (e ∷ es) end sound leads =
    history_sound (step s e.process e.event).state (after_reply d s e e.reply) (before ++ e ∷ []) es end (step_sound s d e before leads.0 sound) leads.1

-- ---- what an entry of a data space holds stays

module _ (n at journal : ℕ) (x : spaces.DataEntry) where
  -- it stays after a step that does not touch it
  verdict_stands : (s : State) (p : ℕ) (e : Event) (v : Verdict) (d : Durable) → AreSound s d → awake_verdict s p e ≡ v → touched_by n at s p e ≡ false → HoldsCommitted s.held s.units n at journal x
      → HoldsCommitted (by_verdict s p e v).state.held (by_verdict s p e v).state.units n at journal x
  verdict_stands s p e Permit d sound is off stands =
      let anew : ℕ → Bool = λ m. list_any (is_whole m) (must_persist s p e) in
      kept_holds n at journal x s p e (effect_of s p e).state (event_holds n at journal x s p e d anew sound.limit is (λ m i. i) (going_of s d anew sound) off stands)
  verdict_stands s p e Wait d sound is off stands = stands
  verdict_stands s p e (Refuse y) d sound is off stands = stands

  step_stands : (s : State) (p : ℕ) (e : Event) (d : Durable) → AreSound s d → touched_by n at s p e ≡ false → HoldsCommitted s.held s.units n at journal x → HoldsCommitted (step s p e).state.held (step s p e).state.units n at journal x
  unfolding step
  step_stands s p e d sound off stands = by (waits s p)
    where
      by : (b : Bool) → HoldsCommitted (by_waiting b s p e).state.held (by_waiting b s p e).state.units n at journal x
      by true = stands
      by false = verdict_stands s p e (awake_verdict s p e) d sound refl off stands

  stayed_stands : (s t : State) → Stayed s t → HoldsCommitted s.held s.units n at journal x → HoldsCommitted t.held t.units n at journal x
  stayed_stands s t stayed stands = subst (λ (h : Held). HoldsCommitted h t.units n at journal x) (sym stayed.held) (subst (λ (u : UnitMap). HoldsCommitted s.held u n at journal x) (sym stayed.units) stands)

  -- and it is found
  record IsStable (s : State) (d : Durable) : Type 0 where
    pub sound : AreSound s d
    pub stands : HoldsCommitted s.held s.units n at journal x
    pub found : found_entry d n at ≡ x

  entry_stable : (s : State) (d : Durable) (e : Entry) (before : List Entry) → IsEntry s before e → touched n at s e e.reply ≡ false → IsStable s d → IsStable (step s e.process e.event).state (after_reply d s e e.reply)
  entry_stable s d e before entry off stable = by e.reply entry.reply off (step_sound s d e before entry stable.sound)
    where
      by : (r : Reply) → (step s e.process e.event).reply ≡ r → touched n at s e r ≡ false → AreSound (step s e.process e.event).state (after_reply d s e r) → IsStable (step s e.process e.event).state (after_reply d s e r)
      by (Done values) is off sound =
          let t = (step s e.process e.event).state in
          let going = behind s d e stable.sound in
          let stands = step_stands s e.process e.event d stable.sound off stable.stands in
          record {
            sound = sound;
            stands = stands;
            found = found_next (must_persist s e.process e.event) d t going.linked.rising going.right going.linked going.told going.kept n at journal x stands s.held s.units stable.sound.kept stable.sound.linked stable.stands.to stable.found;
          }
      by (Signal y) is off sound = record {
        sound = sound;
        stands = stayed_stands s (step s e.process e.event).state (unmoved s e.process e.event (λ done. subst (λ (r : Reply). IsDone r) is done)) stable.stands;
        found = stable.found;
      }
      by MustWait is off sound = record {
        sound = sound;
        stands = stayed_stands s (step s e.process e.event).state (unmoved s e.process e.event (λ done. subst (λ (r : Reply). IsDone r) is done)) stable.stands;
        found = stable.found;
      }

  history_stable : (s : State) (d : Durable) (before history : List Entry) (end : State) → Leads s before history end → LeavesAlone n at s history → IsStable s d → found_entry (durable d s history) n at ≡ x
  history_stable s d before [] end leads alone stable = stable.found
  history_stable s d before (e ∷ es) end leads alone stable =
      history_stable (step s e.process e.event).state (after_reply d s e e.reply) (before ++ e ∷ []) es end leads.1 alone.1 (entry_stable s d e before leads.0 alone.0 stable)

-- ---- the step that commits

-- what a unit has changed stays after its end, and no unit holds the entry any more
commit_stands : (s : State) (p block n at journal : ℕ) (unit : CommitUnit) → IsRight s → unit_of s.units block ≡ Some unit → has_change n at unit.changes ≡ true → journal_for s.held n ≡ Some journal
    → HoldsCommitted (committed s p block (unit_of s.units block)).held (committed s p block (unit_of s.units block)).units n at journal (entry_now s n at)
commit_stands s p block n at journal unit right found_entry has to =
    let it = ending_of s block unit right found_entry in
    let k = on_journal s.held it.0 (journal_with_entry (end_entry Commit p unit)) in
    subst (λ (r : Option CommitUnit). HoldsCommitted (committed s p block r).held (committed s p block r).units n at journal (entry_now s n at)) (sym found_entry)
    (subst (λ (r : Option ℕ). HoldsCommitted (end_written s.held r (end_entry Commit p unit)) (ended s.units block) n at journal (entry_now s n at)) (sym it.1.leads) (record {
      settled = λ other. ap (λ r. changes_entry r n at) (unit_ended s.units block other right.rising) ∙ free other (block == other) refl;
      now = ap (λ (t : DataTable). entry_at t.entries at) (table_journal s.held it.0 n (journal_with_entry (end_entry Commit p unit)));
      to = keeps_for s.held k (committed_written s.held s.units block it.0 unit it.1 p).keeps n ∙ to;
    }))
  where
    free : (other : ℕ) (b : Bool) → (block == other) ≡ b → changes_entry (cond b None (unit_of s.units other)) n at ≡ false
    free other true is = refl
    free other false off = by (changes_entry (unit_of s.units other) n at) refl
      where
        by : (c : Bool) → changes_entry (unit_of s.units other) n at ≡ c → c ≡ false
        by false none = refl
        by true some =
            let own : changes_entry (unit_of s.units block) n at ≡ true = ap (λ r. changes_entry r n at) found_entry ∙ has in
            let same : block ≡ other = right.apart block other n at own some in
            never (block == other) (ap (λ (m : ℕ). block == m) (sym same) ∙ nat_itself block) off

-- what stays through the words of change stays when the value is delivered and when the store is updated
commits_by : (s : State) (p depth : ℕ) (request : Request) (n at journal : ℕ) (x : spaces.DataEntry) (y : Changes) → (row request.op).changes s p depth request ≡ y
    → HoldsCommitted (done s p y).held (done s p y).units n at journal x → HoldsCommitted (effect_of s p (Act depth request)).state.held (effect_of s p (Act depth request)).state.units n at journal x
unfolding effect_of effect
commits_by s p depth request n at journal x y is stands =
    delivered_holds n at journal x (done s p ((row request.op).changes s p depth request)) (shift_at s.held request.op request.operands) (receiver_at request.op request.operands) ((row request.op).gives s p depth request)
    (subst (λ (z : Changes). HoldsCommitted (done s p z).held (done s p z).units n at journal x) (sym is) stands)

verdict_commits : (s : State) (p depth : ℕ) (request : Request) (v : Verdict) (n at journal : ℕ) (x : spaces.DataEntry) → IsDone (by_verdict s p (Act depth request) v).reply
    → HoldsCommitted (effect_of s p (Act depth request)).state.held (effect_of s p (Act depth request)).state.units n at journal x
    → HoldsCommitted (by_verdict s p (Act depth request) v).state.held (by_verdict s p (Act depth request) v).state.units n at journal x
verdict_commits s p depth request Permit n at journal x is stands = kept_holds n at journal x s p (Act depth request) (effect_of s p (Act depth request)).state stands
verdict_commits s p depth request Wait n at journal x is stands = absurd is
verdict_commits s p depth request (Refuse y) n at journal x is stands = absurd is

step_commits : (s : State) (p depth : ℕ) (request : Request) (n at journal : ℕ) (x : spaces.DataEntry) → IsDone (step s p (Act depth request)).reply
    → HoldsCommitted (effect_of s p (Act depth request)).state.held (effect_of s p (Act depth request)).state.units n at journal x
    → HoldsCommitted (step s p (Act depth request)).state.held (step s p (Act depth request)).state.units n at journal x
unfolding step
step_commits s p depth request n at journal x is stands = by (waits s p) is
  where
    by : (b : Bool) → IsDone (by_waiting b s p (Act depth request)).reply → HoldsCommitted (by_waiting b s p (Act depth request)).state.held (by_waiting b s p (Act depth request)).state.units n at journal x
    by true is = absurd is
    by false is = verdict_commits s p depth request (awake_verdict s p (Act depth request)) n at journal x is stands

-- its journal space is kept whole
commit_whole : (s : State) (p depth : ℕ) (request : Request) (block journal : ℕ) (unit : CommitUnit) → (row request.op).changes s p depth request ≡ Committed block → unit_of s.units block ≡ Some unit
    → journal_for_block s.held block ≡ Some journal → list_any (is_whole journal) (must_persist s p (Act depth request)) ≡ true
unfolding must_persist
commit_whole s p depth request block journal unit changes found_entry to =
    ap (λ (y : Changes). list_any (is_whole journal) (forced_by s p y)) changes ∙ ap (λ r. list_any (is_whole journal) (commit_forces s.held block r)) found_entry
    ∙ ap (λ r. list_any (is_whole journal) (whole_if r)) to ∙ first_whole journal []

-- ---- what a unit committed is found by each later restart

commit_stable : (s : State) (d : Durable) (e : Entry) (before : List Entry) (unit : CommitUnit) (n at journal : ℕ) → AreSound s d → IsEntry s before e → (c : Commits s e unit) → has_change n at unit.changes ≡ true
    → journal_for s.held n ≡ Some journal → journal_for_block s.held c.block ≡ Some journal → IsStable n at journal (entry_now s n at) (step s e.process e.event).state (after_reply d s e e.reply)
commit_stable s d e before unit n at journal sound entry c has to leads =
    let p = e.process in
    let act = Act c.depth c.request in
    let t = (step s p e.event).state in
    let reply : (step s p act).reply ≡ Done c.values = ap (λ (ev : Event). (step s p ev).reply) (sym c.event) ∙ entry.reply ∙ c.reply in
    let done_is : IsDone (step s p act).reply = subst (λ (r : Reply). IsDone r) (sym reply) tt in
    let stood = step_commits s p c.depth c.request n at journal (entry_now s n at) done_is
    (commits_by s p c.depth c.request n at journal (entry_now s n at) (Committed c.block) c.changes (commit_stands s p c.block n at journal unit sound.right c.found has to)) in
    let stands : HoldsCommitted t.held t.units n at journal (entry_now s n at) = subst (λ (ev : Event). HoldsCommitted (step s p ev).state.held (step s p ev).state.units n at journal (entry_now s n at)) (sym c.event) stood in
    let going = behind s d e sound in
    let whole : list_any (is_whole journal) (must_persist s p e.event) ≡ true = ap (λ (ev : Event). list_any (is_whole journal) (must_persist s p ev)) c.event ∙ commit_whole s p c.depth c.request c.block journal unit c.changes c.found leads in
    record {
      sound = step_sound s d e before entry sound;
      stands = stands;
      found = subst (λ (r : Reply). found_entry (after_reply d s e r) n at ≡ entry_now s n at) (sym c.reply)
          (found_whole (must_persist s p e.event) d t going.linked.rising going.right going.linked going.told going.kept n at journal (entry_now s n at) stands whole);
    }

pub committed_stays : (s : State) (d : Durable) (before : List Entry) (e : Entry) (more : List Entry) (end : State) (unit : CommitUnit) (n at : ℕ) → AreSound s d → Leads s before (e ∷ more) end → Commits s e unit
    → has_change n at unit.changes ≡ true → LeavesAlone n at (step s e.process e.event).state more → found_entry (durable d s (e ∷ more)) n at ≡ entry_now s n at
committed_stays s d before e more end unit n at sound leads c has alone = by (journal_for s.held n) refl own.journaled
  where
    own : IsOwned s.held c.block n at
    own = owned s.held s.units c.block n at unit sound.right c.found has

    by : (r : Option ℕ) → journal_for s.held n ≡ r → is_some r ≡ true → found_entry (durable d s (e ∷ more)) n at ≡ entry_now s n at
    by None is some = absurd (let y : false ≡ true = some in cc)
    by (Some journal) is some =
        history_stable n at journal (entry_now s n at) (step s e.process e.event).state (after_reply d s e e.reply) (before ++ e ∷ []) more end leads.1 alone
        (commit_stable s d e before unit n at journal sound leads.0 c has is (own.leads ∙ is))
