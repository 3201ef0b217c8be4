-- From a store that was opened to what a run over it comes to.
use Rattle.std.proofs.Common.{◌≡◌, ◌∙◌, ℕ, ◌+◌, ◌≤◌, List, [], ◌∷◌, ap, refl, sym, subst, arith}
use Rattle.std.specs.Prelude.{Err, IfErr, Ok, OnOk, Option, Result, Some, slice_get}
use Rattle.s38_base.specs.Faults.{Rose}
use Rattle.s38_base.specs.declared.fault.NoMemory.{NoMemory as Fault}
use Rattle.s38_page_diff.specs.declared.fault.FlushFault.{FlushFault}
use Rattle.s38_page_diff.specs.declared.fault.FlushFault.TheVariants as closes
use Rattle.s38_code.specs.declared.deck.Deck.{Deck}
use Rattle.s38_code.specs.declared.deck.Job.{Job}
use Rattle.s38_code.specs.declared.entry.Entry.{Entry}
use Rattle.s38_code.specs.declared.made.CreateResult.{CreateResult}
use Rattle.s38_durable_state.specs.Durable.{durable}
use Rattle.s38_code.specs.History.{entries_of}
use Rattle.s38_disk.specs.Blocks.{DiskState as Blocks}
use Rattle.s38_disk.specs.Disk.{DiskView, IsAt, moment_of}
use Rattle.s38_objects.specs.Lawful.{IsObjectMap}
use Rattle.s38_laws_images.specs.openings.Closing.{CanClose}
use Rattle.s38_laws_images.specs.openings.Opening.{IsOpening}
use Rattle.s38_laws_images.proofs.openings.CloseLaws.{end_closes}
use Rattle.s38_laws_flush.specs.durable.Beginning.{cleaned, durable_in}
use Rattle.s38_pages.specs.Vaults.{PageStore, page_holds, page_view}
use Rattle.s38_pages.specs.Watched.{WatchedStore}
use Rattle.s38_rules.specs.state.Held.{Held}
use Rattle.s38_rules.specs.step.Legal.{AreMoments, Leads, Run}
use Rattle.s38_rules.specs.store.Room.{Room}
use Rattle.s38_rules.specs.state.State.{State}
use Rattle.s38_durable_machine.specs.Seen.{StoredView}
use Rattle.s38_store_file.specs.Refusals.{IsRefusal}
use Rattle.s38_store_file.specs.Stores.{AllFit, IsFullOf, Keeps, Restarts}
use Rattle.s38_store_file.specs.declared.fault.StoreRefusal.{StoreRefusal}
use Rattle.s38_store_file.specs.declared.fault.StoreRefusal.TheVariants as refusals
use Rattle.s38_template.specs.Grammar.{Spells}
use Rattle.s38_command.specs.declared.command.Command.{Command}
use Rattle.s38_command.specs.declared.command.Command.TheVariants.{Jobs}
use Rattle.s38_top.specs.declared.outcome.Outcome.{Outcome}
use Rattle.s38_top.specs.declared.outcome.Outcome.TheVariants.{BadWords, BadDeck, DeckFault, NoMemory, Ran, Checked, Demonstrated, Installed, Listed, Refused, DiskFault}
use Rattle.s38_top.specs.declared.outcome.RunEnd.{RunEnd}
use Rattle.s38_top.specs.declared.outcome.RunEnd.TheVariants as ends
use Rattle.s38_top.specs.declared.outcome.Whole.{Whole}
use Rattle.s38_command.specs.declared.turns.Turns.{Turns}
use Rattle.s38_top.specs.Decks.{AreStoreMarks, IsFrontOfJob, IsRunOfJob, checked_of, made_in_order, opened_machine}
use Rattle.s38_top.specs.Ends.{CameFrom, IsDecided, IsReadFrom, IsReady, IsRunEnded, IsRunFinished, IsRunStopped, end_of}
use Rattle.s38_top.specs.Causes.{CameToEnd, CameToRun, CameToStop, OfText}
use Rattle.s38_top.specs.Answered.{refused}
use Rattle.s38_top.specs.Outside.{outside}
use Rattle.s38_top.proofs.CauseLaws.{source_holds, text_comes}
use Rattle.s38_top.specs.Runs.{EndsWith, LeavesAfter, LeavesBy, all_durable_of}
use Rattle.s38_top.specs.Stored.{vault_of}
use Rattle.s38_vault.specs.Content.{Content}

-- what a store that was kept leaves
pub leaves_of : (v : PageStore) (new : DiskView) (e : State) (r : Result (Unit {0}) FlushFault) (end : RunEnd) → Some end ≡ end_of r
    → OnOk r ((m : Content) → page_holds v m → (t : Blocks) → IsAt new.past t → Keeps new.size t.now (all_durable_of e))
    → OnOk r ((m : Content) → page_holds v m → AllFit new.size m (all_durable_of e) e.held)
    → ((needed free : ℕ) → r ≡ Err (closes.Full needed free) → (m : Content) → page_holds v m → (t : Blocks) → IsAt new.past t → IsFullOf new.size m (all_durable_of e) e.held t.now needed free)
    → IfErr r (λ fault. fault ≡ closes.Failed → Rose v.start new.faults)
    → LeavesBy v new e end
leaves_of v new e (Ok done) end is kept fits full failed = subst (LeavesBy v new e) (kept_is end is) (λ m holds t told. (fits m holds, kept m holds t told))
  where
    kept_is : (x : RunEnd) → Some x ≡ Some ends.Kept → ends.Kept ≡ x
    kept_is x g = cc
leaves_of v new e (Err (closes.Full needed free)) end is kept fits full failed = subst (LeavesBy v new e) (full_is end is) (full needed free refl)
  where
    full_is : (x : RunEnd) → Some x ≡ Some (ends.Full needed free) → ends.Full needed free ≡ x
    full_is x g = cc
leaves_of v new e (Err closes.Failed) end is kept fits full failed = subst (LeavesBy v new e) (failed_is end is) (failed refl)
  where
    failed_is : (x : RunEnd) → Some x ≡ Some ends.Failed → ends.Failed ≡ x
    failed_is x g = cc
leaves_of v new e (Err closes.NoMemory) end is kept fits full failed = cc
leaves_of v new e (Err (closes.BadHeader object)) end is kept fits full failed = cc

-- a run that was kept, or is not, was made to its end
pub kept_end : (r : Result (Unit {0}) FlushFault) (end : RunEnd) → Some end ≡ end_of r → end ≡ ends.Stopped → ⊥
kept_end (Ok done) end is stopped = cc
kept_end (Err (closes.Full needed free)) end is stopped = cc
kept_end (Err closes.Failed) end is stopped = cc
kept_end (Err closes.NoMemory) end is stopped = cc
kept_end (Err (closes.BadHeader object)) end is stopped = cc

-- the same of a state that is told otherwise
pub leaves_at : {e e' : State} → e ≡ e' → (v : PageStore) (new : DiskView) (r : Result (Unit {0}) FlushFault) (end : RunEnd) → Some end ≡ end_of r
    → OnOk r ((m : Content) → page_holds v m → (t : Blocks) → IsAt new.past t → Keeps new.size t.now (all_durable_of e))
    → OnOk r ((m : Content) → page_holds v m → AllFit new.size m (all_durable_of e) e.held)
    → ((needed free : ℕ) → r ≡ Err (closes.Full needed free) → (m : Content) → page_holds v m → (t : Blocks) → IsAt new.past t → IsFullOf new.size m (all_durable_of e) e.held t.now needed free)
    → IfErr r (λ fault. fault ≡ closes.Failed → Rose v.start new.faults)
    → LeavesBy v new e' end
leaves_at {e} same v new r end is kept fits full failed = subst (λ s. LeavesBy v new s end) same (leaves_of v new e r end is kept fits full failed)

-- ---- what a run over the store of a disk comes to

-- what a vault was left with, its disk was left with
ends_behind : (old new : DiskView) (deck : Deck) (made : List CreateResult) (x : StoredView WatchedStore) (es : List Entry) (e : State) (end : RunEnd) → IsReady old deck made x → LeavesAfter (vault_of x) x.machine.origin new es e end
    → EndsWith old new (λ m. durable (durable_in m) x.machine.origin es) e end
ends_behind old new deck made x es e ends.Kept ready behind =
    λ s t at is. let was = ready.content s at in let one = ready.holds s at was.0 was.1 in record { content = was.0; stands = was.1; kept = behind (cleaned was.0) (durable_in was.0) one.0 one.1 t is }
ends_behind old new deck made x es e ends.Failed ready behind = subst (λ n. Rose n new.faults) ready.faultless.start behind
ends_behind old new deck made x es e (ends.Full needed free) ready behind =
    λ s t at is. let was = ready.content s at in let one = ready.holds s at was.0 was.1 in record { content = was.0; stands = was.1; full = behind (cleaned was.0) (durable_in was.0) one.0 one.1 t is }
ends_behind old new deck made x es e ends.Stopped ready behind = subst (λ n. Rose n new.faults) ready.faultless.start behind

marks_from : (first later last : ℕ) (marks : List ℕ) (history : List Entry) → first ≤ later → AreStoreMarks later last marks history → AreStoreMarks first last marks history
marks_from first later last marks history le are = record { count = are.count; moments = from marks are.moments }
  where
    from : (ms : List ℕ) → AreMoments later ms last → AreMoments first ms last
    from [] all = omega (arith, le, all)
    from (m ∷ ms) all = let low = all.0 in (omega (arith, le, low), all.1)

module _ (turns : Turns) (old new : DiskView) (deck : Deck) (made : List CreateResult) (x : StoredView WatchedStore) (ready : IsReady old deck made x) where
  abbrev s : State
  s = x.machine.origin

  came_end : (whole : Whole) (end : RunEnd) → IsRunFinished turns deck (vault_of x) s new whole end → CameToEnd turns old new whole end
  came_end whole end behind = record {
    ran = record {
      held = s.held;
      room = ready.room;
      begins = ready.begins;
      run = record {
        state = behind.run.state;
        legal = subst (λ (r : Option Room). Leads (opened_machine r s.held whole.deck) [] whole.history.items behind.run.state) ready.has (subst (λ (d : Deck). Leads (opened_machine s.room s.held d) [] whole.history.items behind.run.state) (sym behind.deck_is) behind.run.legal);
        order = subst (λ (r : Option Room). made_in_order turns (opened_machine r s.held whole.deck) whole.history.items) ready.has (subst (λ (d : Deck). made_in_order turns (opened_machine s.room s.held d) whole.history.items) (sym behind.deck_is) behind.run.order);
        each = subst (λ (d : Deck). (k : ℕ) (job : Job) → slice_get d.jobs k ≡ Some job → IsRunOfJob d job (entries_of (k + 1) whole.history.items)) (sym behind.deck_is) behind.run.each;
      };
    };
    marks = marks_from (moment_of old.past) (page_view (vault_of x)).moment (moment_of new.past) whole.marks.items whole.history.items ready.goes.later behind.marks;
    ends =
        subst (λ (u : State). EndsWith old new (λ m. durable (durable_in m) u whole.history.items) behind.run.state end)
        (ap (λ (m : Run). m.origin) ready.begun.machine ∙ ap (λ (r : Option Room). opened_machine r s.held deck) ready.has ∙ ap (λ (d : Deck). opened_machine (Some ready.room) s.held d) (sym behind.deck_is))
        (ends_behind old new deck made x whole.history.items behind.run.state end ready behind.behind);
  }

  came_stop : (whole : Whole) → IsRunStopped turns deck (vault_of x) s new whole → CameToStop turns old new whole
  came_stop whole stopped = record {
    ran = record {
      held = s.held;
      room = ready.room;
      begins = ready.begins;
      run = record {
        state = stopped.run.state;
        legal = subst (λ (r : Option Room). Leads (opened_machine r s.held whole.deck) [] whole.history.items stopped.run.state) ready.has (subst (λ (d : Deck). Leads (opened_machine s.room s.held d) [] whole.history.items stopped.run.state) (sym stopped.deck_is) stopped.run.legal);
        order = subst (λ (r : Option Room). made_in_order turns (opened_machine r s.held whole.deck) whole.history.items) ready.has (subst (λ (d : Deck). made_in_order turns (opened_machine s.room s.held d) whole.history.items) (sym stopped.deck_is) stopped.run.order);
        each = subst (λ (d : Deck). (k : ℕ) (job : Job) → slice_get d.jobs k ≡ Some job → IsFrontOfJob d job (entries_of (k + 1) whole.history.items)) (sym stopped.deck_is) stopped.run.each;
      };
    };
    marks = marks_from (moment_of old.past) (page_view (vault_of x)).moment (moment_of new.past) whole.marks.items whole.history.items ready.goes.later stopped.marks;
    failed = subst (λ (n : ℕ). Rose n new.faults) ready.faultless.start stopped.failed;
  }

  came_run : (whole : Whole) (end : RunEnd) → IsRunEnded turns deck (vault_of x) s new whole end → CameToRun turns old new whole end
  came_run whole ends.Kept ended = came_end whole ends.Kept ended
  came_run whole ends.Failed ended = came_end whole ends.Failed ended
  came_run whole (ends.Full needed free) ended = came_end whole (ends.Full needed free) ended
  came_run whole ends.Stopped ended = came_stop whole ended

  deck_of_run : (whole : Whole) (end : RunEnd) → IsRunEnded turns deck (vault_of x) s new whole end → whole.deck ≡ deck
  deck_of_run whole ends.Kept ended = ended.deck_is
  deck_of_run whole ends.Failed ended = ended.deck_is
  deck_of_run whole (ends.Full needed free) ended = ended.deck_is
  deck_of_run whole ends.Stopped ended = ended.deck_is

  -- what a run over the store of a disk comes to
  opened_ends : (text : List ℕ) (o : Outcome) → Spells text deck → CameFrom turns deck (vault_of x) s new o → OfText (Jobs turns) text old new o
  opened_ends text (Ran y whole end) spelled came =
      subst (λ m. OfText (Jobs turns) text old new (Ran m whole end)) (sym came.0)
      (refl, (subst (λ d. Spells text d) (sym (deck_of_run whole end came.1)) spelled, came_run whole end came.1))
  opened_ends text NoMemory spelled came = tt
  opened_ends text BadWords spelled came = absurd came
  opened_ends text (BadDeck line code) spelled came = absurd came
  opened_ends text DeckFault spelled came = absurd came
  opened_ends text (Refused bad) spelled came = absurd came
  opened_ends text DiskFault spelled came = absurd came
  opened_ends text (Checked checked) spelled came = absurd came
  opened_ends text (Demonstrated size ran) spelled came = absurd came
  opened_ends text Installed spelled came = absurd came
  opened_ends text (Listed objects) spelled came = absurd came

  -- what a run that was prepared comes to has its cause
  pub ready_decided : (asked : Option Command) (left left' : Option (List ℕ)) (taken taken' : ℕ) (o : Outcome) → asked ≡ Some (Jobs turns) → IsReadFrom left left' deck → CameFrom turns deck (vault_of x) s new o
      → IsDecided asked left left' taken taken' old new o
  ready_decided asked left left' taken taken' o is reads came written written' put put' =
      let text : List ℕ = reads.0 in
      source_holds asked (outside left taken written put old) (outside left' taken' written' put' new) (Jobs turns) o is refl
      (text_comes (Jobs turns) left left' taken taken' old new text o reads.1.0 (opened_ends text o reads.1.1 came))
