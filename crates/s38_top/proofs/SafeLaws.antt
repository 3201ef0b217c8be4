-- What a crash leaves of a store while a call goes on.
use Rattle.std.proofs.Common.{◌≡◌, ◌∙◌, inl, inr, ℕ, ◌≤◌, List, [], ap, sym, subst}
use Rattle.std.specs.Prelude.{IfErr, Option, Result, Some, None, Ok, Err}
use Rattle.s38_checkpoint.specs.Closing.{closing}
use Rattle.s38_code.specs.declared.deck.Deck.{Deck}
use Rattle.s38_code.specs.declared.entry.Entry.{Entry}
use Rattle.s38_code.specs.declared.made.CreateResult.{CreateResult}
use Rattle.s38_command.specs.declared.command.Command.{Command}
use Rattle.s38_command.specs.declared.command.Command.TheVariants.{Jobs, Check, Demo, Install, List as Listing}
use Rattle.s38_command.specs.declared.turns.Turns.{Turns}
use Rattle.s38_disk.specs.Blocks.{DiskState as Blocks}
use Rattle.s38_disk.specs.Disk.{DiskView, IsAt}
use Rattle.s38_disk.specs.declared.block.Block.{Block}
use Rattle.s38_durable_state.specs.Durable.{durable}
use Rattle.s38_laws_flush.specs.durable.Beginning.{cleaned, durable_in}
use Rattle.s38_pages.specs.Mounts.{fewest}
use Rattle.s38_pages.specs.Vaults.{PageStore, page_view}
use Rattle.s38_pages.specs.Watched.{WatchedStore}
use Rattle.s38_rules.specs.step.Legal.{Leads, Run}
use Rattle.s38_rules.specs.store.Room.{Room}
use Rattle.s38_rules.specs.state.State.{State}
use Rattle.s38_durable_machine.specs.Seen.{StoredView}
use Rattle.s38_store_file.proofs.CrashLaws.{during_none, goes_then}
use Rattle.s38_store_file.specs.Crashes.{DuringCall, IsBetween, IsPartlyCleaned, KeepsRestarting}
use Rattle.s38_store_file.specs.Stores.{Restarts}
use Rattle.s38_top.specs.Crash.{Between, IsHistoryWithPendingCall, IsSafe, MadeRun, RecoversToCheckpointPrefix, RecoversToPrefix}
use Rattle.s38_top.specs.Decks.{IsRunTo, made_in_order, opened_machine}
use Rattle.s38_top.specs.Ends.{IsReady, IsSafeOf, LeftOver}
use Rattle.s38_top.specs.Runs.{RanTo, all_durable_of}
use Rattle.s38_top.specs.Stored.{vault_of}
use Rattle.s38_top.specs.declared.outcome.Outcome.{Outcome}
use Rattle.s38_top.specs.declared.outcome.Outcome.TheVariants.{NoMemory}
use Rattle.s38_top.specs.Answered.{history_of, marks_of}
use Rattle.s38_vault.specs.Content.{Content}

-- ---- a disk that is left alone

pub keeps_none : (d : DiskView) → KeepsRestarting d d
keeps_none d = record { content = λ s at rest m stands. during_none d _; objects = λ s at rest h is. during_none d _ }

pub safe_still : (asked : Option Command) (d : DiskView) (wanting : Type 0) (history : List Entry) (marks : List ℕ) → IsSafe asked d d wanting history marks
safe_still None d wanting history marks = keeps_none d
safe_still (Some (Jobs turns)) d wanting history marks = inl (keeps_none d)
safe_still (Some Check) d wanting history marks = keeps_none d
safe_still (Some (Demo size)) d wanting history marks = keeps_none d
safe_still (Some Install) d wanting history marks = λ s at rest. during_none d _
safe_still (Some Listing) d wanting history marks = keeps_none d

pub safe_none : (asked : Option Command) (d : DiskView) (o : Outcome) → IsSafeOf asked d d o
safe_none asked d o = safe_still asked d (o ≡ NoMemory) (history_of o) (marks_of o)

-- the disk is given back as it is
pub keeps_given : (old v new : DiskView) → new ≡ v → KeepsRestarting old v → KeepsRestarting old new
keeps_given old v new is keeps = subst (λ (d : DiskView). KeepsRestarting old d) (sym is) keeps

pub safe_of : (asked : Option Command) (command : Command) (old new : DiskView) (o : Outcome) → asked ≡ Some command → IsSafeOf (Some command) old new o → IsSafeOf asked old new o
safe_of asked command old new o is safe = subst (λ (a : Option Command). IsSafeOf a old new o) (sym is) safe

-- where no run was prepared
pub unprepared_safe : {R E : Type 0} (r : Result R E) (new : E → DiskView) (of : E → Outcome) (asked : Option Command) (turns : Turns) (old : DiskView) → asked ≡ Some (Jobs turns)
    → IfErr r (λ d. KeepsRestarting old (new d)) → IfErr r (λ d. IsSafeOf asked old (new d) (of d))
unprepared_safe (Ok x) new of asked turns old is keeps = tt
unprepared_safe (Err d) new of asked turns old is keeps = safe_of asked (Jobs turns) old (new d) (of d) is (inl keeps)

-- ---- what a run left is kept

pub kept_at : {e e' : State} → e ≡ e' → (v new : DiskView) (m : Content) → DuringCall v new (IsBetween new.size m (closing e.units e.held) e.held) → DuringCall v new (IsBetween new.size m (all_durable_of e') e'.held)
kept_at same v new m during = subst (λ s. DuringCall v new (IsBetween new.size m (all_durable_of s) s.held)) same during

-- ---- after the opening

module _ (turns : Turns) (old new : DiskView) (deck : Deck) (made : List CreateResult) (x : StoredView WatchedStore) (o : Outcome) (ready : IsReady old deck made x)
    (left : LeftOver turns deck (vault_of x) x.machine.origin new o) where
  abbrev v : PageStore
  v = vault_of x

  abbrev s : State
  s = x.machine.origin

  -- the state with which the run began
  state_is : s ≡ opened_machine (Some ready.room) s.held deck
  state_is = origin_opened ∙ ap (λ (r : Option Room). opened_machine r s.held deck) ready.has
    where
      origin_opened : s ≡ opened_machine s.room s.held deck
      origin_opened = ap (λ (m : Run). m.origin) ready.begun.machine

  abbrev ran : RanTo turns old deck left.entries
  ran = record {
    held = s.held;
    room = ready.room;
    begins = ready.begins;
    run = record {
      state = left.run.state;
      legal = subst (λ (r : Option Room). Leads (opened_machine r s.held deck) [] left.entries left.run.state) ready.has left.run.legal;
      order = subst (λ (r : Option Room). made_in_order turns (opened_machine r s.held deck) left.entries) ready.has left.run.order;
      each = left.run.each;
    };
  }

  -- the disk is large enough for a store, as it was
  large_still : (f : Blocks) → IsAt old.past f → fewest ≤ new.size
  large_still f at = subst (λ (n : ℕ). fewest ≤ n) (sym (goes_then ready.goes left.goes).size) (ready.begins.restarts f at).large

  run_made : MadeRun turns old new left.entries left.marks
  run_made = record {
    deck = deck;
    ran = ran;
    planned = left.planned;
    plans = subst (λ (u : State). IsHistoryWithPendingCall u left.entries left.planned) state_is left.plans;
    first = (page_view v).moment;
    last = left.last;
    goes = goes_then ready.goes left.goes;
    began = ready.goes.later;
    marked = left.marked;
    ended = left.ended;
    opening = λ f at rest m stands t g low high image.
        let during = ready.during.content f at rest m stands in
        subst (λ (n : ℕ). IsPartlyCleaned n m g) (sym left.goes.size) (during.each t g low high ((left.goes.before t g high).1 image));
    reopening = λ f at rest t g low high image.
        let during = ready.during.objects f at rest s.held (ready.begins.restarts f at) in
        subst (λ (n : ℕ). Restarts n g s.held) (sym left.goes.size) (during.each t g low high ((left.goes.before t g high).1 image));
    running = λ f at rest m stands t g low high image.
        let one = ready.holds f at m stands in
        subst (λ (u : State). RecoversToPrefix new.size (durable_in m) u left.planned left.marks t g) state_is
        (left.running (cleaned m) (durable_in m) one.0 one.1 (large_still f at) t g low high image);
    closing = λ f at rest m stands t g low high image.
        let one = ready.holds f at m stands in
        subst (λ (u : State). RecoversToCheckpointPrefix new.size (durable (durable_in m) u left.entries) left.run.state g) state_is (left.closing (cleaned m) (durable_in m) one.0 one.1 (large_still f at) t g low high image);
  }

  next_run : (o ≡ NoMemory → ⊥) → IsRunTo (Some ready.room) s.held (made_in_order turns) deck left.planned
  next_run not = subst (λ (r : Option Room). IsRunTo r s.held (made_in_order turns) deck left.planned) ready.has (left.next not)

  pub run_safe : (asked : Option Command) → asked ≡ Some (Jobs turns) → IsSafeOf asked old new o
  unfolding run_made
  run_safe asked is = safe_of asked (Jobs turns) old new o is (inr (record { entries = left.entries; marks_made = left.marks; made = run_made; reported = left.reported; next = next_run }))
