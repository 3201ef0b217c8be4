-- Machines over the store of a disk: with what they begin, what a run asks of them, and what it came to.
use Rattle.std.proofs.Common.{◌≡◌, ◌∙◌, ℕ, ◌+◌, ◌-◌, ◌<◌, ◌≤◌, List, [], ◌∷◌, length, map, refl, sym, ap, subst, arith}
use Rattle.std.proofs.lemmas.List.Elements.{All-cons, All-head, All-nil, All-tail}
use Rattle.std.proofs.lemmas.Option.{slice_get_within}
use Rattle.std.specs.Prelude.{◌^◌, All, None, Option, Some, slice_get}
use Rattle.s38_redo_log.specs.Store.{RecoversTo}
use Rattle.s38_code.specs.declared.deck.Deck.{Deck}
use Rattle.s38_code.specs.declared.deck.Job.{Job}
use Rattle.s38_code.specs.declared.entry.Entry.{Entry}
use Rattle.s38_code.specs.declared.event.Event.{Event}
use Rattle.s38_code.specs.declared.made.CheckedTemplate.{CheckedTemplate}
use Rattle.s38_code.specs.declared.made.CreateResult.{CreateResult}
use Rattle.s38_command.specs.declared.turns.Turns.{Turns}
use Rattle.s38_create.specs.Checked.{made_of}
use Rattle.s38_disk.specs.Blocks.{DiskState as Blocks}
use Rattle.s38_disk.specs.Disk.{DiskView, IsAt}
use Rattle.s38_laws_flush.proofs.puts.BeginLaws.{begins_trail}
use Rattle.s38_laws_flush.proofs.puts.StepLaws.{images_short}
use Rattle.s38_laws_flush.specs.puts.Trails.{IsTrailOf}
use Rattle.s38_laws_flush.proofs.durable.BeginLaws.{begins_kept, opening_numbered}
use Rattle.s38_laws_flush.proofs.durable.ImageLaws.{image_header}
use Rattle.s38_laws_flush.proofs.durable.FaultlessLaws.{cleaned_represents, read_images}
use Rattle.s38_laws_flush.specs.durable.Beginning.{cleaned, durable_in}
use Rattle.s38_laws_flush.specs.durable.Kept.{IsKeptOf}
use Rattle.s38_machine.specs.Stored.{FitsStore, stored_state_of}
use Rattle.s38_laws_images.proofs.openings.BeginLaws.{opening_right, opening_well}
use Rattle.s38_laws_images.specs.openings.Opening.{IsOpening}
use Rattle.s38_pages.specs.Index.{home_count}
use Rattle.s38_pages.specs.Mounts.{layout_of}
use Rattle.s38_pages.specs.Vaults.{PageStore, page_holds, page_view}
use Rattle.s38_pages.specs.Watched.{WatchedStore, watched_view}
use Rattle.s38_laws_images.proofs.readable.TemplateLaws.{templates_made}
use Rattle.s38_laws_images.specs.readable.Forms.{HoldsForm}
use Rattle.s38_laws_images.specs.readable.Templates.{AreMade, IsMade}
use Rattle.s38_laws_recovery.proofs.BeginLaws.{begins_restartable}
use Rattle.s38_laws_recovery.specs.Restartable.{IsRestartable}
use Rattle.s38_space_rules.specs.Following.{Fits}
use Rattle.s38_rules.specs.state.Held.{Held}
use Rattle.s38_rules.specs.step.Legal.{IsProcess, Run, begun}
use Rattle.s38_rules.specs.store.Room.{Room}
use Rattle.s38_rules.specs.state.State.{State}
use Rattle.s38_run.proofs.JobLaws.{is_begun, process_begun}
use Rattle.s38_run.specs.Whole.{AllByProgram, AllRan, IsBegun}
use Rattle.s38_run.specs.declared.run_end.RunEnd.{RunEnd}
use Rattle.s38_run.specs.declared.run_end.RunEnd.TheVariants.{Complete, NoMemory, Stopped as Halted}
use Rattle.s38_laws_state.proofs.StepLaws.{opening_in_order}
use Rattle.s38_durable_machine.specs.Seen.{StoredBeginning, StoredView, answered_by, beginning_of, run_of, stopped_by, stopped_of}
use Rattle.s38_durable_machine.specs.Sound.{CanBeStored, EndsWithVault, IsOf}
use Rattle.s38_durable_machine.specs.declared.ending.Ending.{Ending}
use Rattle.s38_durable_machine.specs.declared.ending.Ending.TheVariants.{Going, Stopped, Wanting}
use Rattle.s38_store_file.specs.Crashes.{GoesOn, KeepsRestarting}
use Rattle.s38_store_file.specs.Opened.{HoldsCleaned, IsFaultless, IsOpenedOn}
use Rattle.s38_store_file.specs.Stores.{Restarts}
use Rattle.s38_template.specs.Grammar.{Spells}
use Rattle.s38_vault.specs.Content.{Content}
use Rattle.s38_vault.specs.Vaults.{VaultView}
use Rattle.s38_top.proofs.WholeRunLaws.{there_is}
use Rattle.s38_top.specs.Decks.{checked_of, checked_template, made_for, made_in_order, opened_machine}
use Rattle.s38_top.specs.Ends.{IsReady}
use Rattle.s38_top.specs.Stored.{IsBegunOver, IsSoundOn, WentOver, end_over, vault_of, watch_of}

-- ---- the beginning

-- what creation makes of the templates of a deck is read again
each_made : (xs : List (List (List ℕ))) → All (λ t. IsMade (made_of t)) xs → AreMade (map checked_template xs)
each_made [] all = All-nil (λ t. IsMade t.made)
each_made (x ∷ xs) all =
    All-cons (λ t. IsMade t.made) (checked_template x) (map checked_template xs) (All-head (λ t. IsMade (made_of t)) x xs all) (each_made xs (All-tail (λ t. IsMade (made_of t)) x xs all))

pub checked_made : (text : List ℕ) (deck : Deck) → Spells text deck → AreMade (checked_of deck)
checked_made text deck spells = each_made deck.templates (templates_made text deck spells)

-- over a store a machine may begin with the objects to which it is restarted
pub can_start : (room : Room) (h : Held) (ts : List CheckedTemplate) (js : List Job) → IsOpening h → All HoldsForm h.objects → AreMade ts → CanBeStored (stored_state_of (Some room) h ts js)
can_start room h ts js is forms made = record {
  room = refl;
  well = opening_well (Some room) h ts js is;
  right = opening_right (Some room) h ts js is;
  numbered = opening_numbered h is;
  ordered = opening_in_order (Some room) h ts js is;
  forms = record { objects = forms; templates = made };
}

pub fits_start : (room : Room) (h : Held) (ts : List CheckedTemplate) (js : List Job) → IsOpening h → Fits room.extents h → FitsStore (stored_state_of (Some room) h ts js)
fits_start room h ts js is fits = (fits, opening_well (Some room) h ts js is)

module _ (deck : Deck) (made : List CreateResult) (x : StoredView WatchedStore) (v : PageStore) (w : WatchedStore) (room : Room) (h : Held) (ts : List CheckedTemplate) (js : List Job)
    (watched : w ≡ watch_of v) (machine : x.machine ≡ begun (watched_view w).moment (stored_state_of (Some room) h ts js)) (vaults : (x.vault ≡ w) × (x.first ≡ w)) (jobs : js ≡ deck.jobs) (checked : ts ≡ checked_of deck) where
  -- it has begun over the vault, with the objects and the room
  pub begun_vault : vault_of x ≡ v
  begun_vault = ap (λ (y : WatchedStore). y.now) (vaults.1 ∙ watched)

  pub begun_held : x.machine.origin.held ≡ h
  begun_held = ap (λ (m : Run). m.origin.held) machine

  pub begun_room : x.machine.origin.room ≡ Some room
  begun_room = ap (λ (m : Run). m.origin.room) machine

  machine_is : x.machine ≡ begun (page_view (vault_of x)).moment (opened_machine x.machine.origin.room x.machine.origin.held deck)
  machine_is =
      machine
      ∙ ap (λ (xs : List CheckedTemplate). begun (watched_view w).moment (stored_state_of (Some room) h xs js)) checked
      ∙ ap (λ (xs : List Job). begun (watched_view w).moment (stored_state_of (Some room) h (checked_of deck) xs)) jobs
      ∙ ap (λ (y : WatchedStore). begun (page_view y.now).moment (opened_machine (Some room) h deck)) (sym vaults.1)
      ∙ ap (λ (r : Option Room). begun (page_view (vault_of x)).moment (opened_machine r h deck)) (sym begun_room)
      ∙ ap (λ (k : Held). begun (page_view (vault_of x)).moment (opened_machine x.machine.origin.room k deck)) (sym begun_held)

  pub begun_over : x.ending ≡ Going → IsSoundOn x → IsOpening h → (page_view v).faults ≡ v.start → length deck.jobs ≤ 256 → length made ≡ length deck.jobs
      → ((k : ℕ) (job : Job) (one : CreateResult) → slice_get deck.jobs k ≡ Some job → slice_get made k ≡ Some one → made_for deck job ≡ Some one) → IsBegunOver deck made x
  begun_over going sound opening faultless few count each = record {
    machine = machine_is;
    vault = vaults.0 ∙ sym vaults.1;
    watch = vaults.1 ∙ watched ∙ ap watch_of (sym begun_vault);
    going = going;
    sound = sound;
    opening = subst IsOpening (sym begun_held) opening;
    faultless = subst (λ (p : PageStore). (page_view p).faults ≡ p.start) (sym begun_vault) faultless;
    few = few;
    count = count;
    each = each;
  }

-- ---- the store that was opened

module _ (old : DiskView) (deck : Deck) (made : List CreateResult) (x : StoredView WatchedStore) (v : PageStore) (h : Held) (room : Room)
    (begins : IsBegunOver deck made x) (vault : vault_of x ≡ v) (held : x.machine.origin.held ≡ h) (has : x.machine.origin.room ≡ Some room) where
  origin_is : x.machine.origin ≡ opened_machine (Some room) h deck
  origin_is =
      ap (λ (m : Run). m.origin) begins.machine
      ∙ ap (λ (r : Option Room). opened_machine r x.machine.origin.held deck) has
      ∙ ap (λ (k : Held). opened_machine (Some room) k deck) held

  module _ (opening : IsOpening h) (restarts : (s : Blocks) → IsAt old.past s → Restarts old.size s.now h) (on : IsOpenedOn old v h room) (holds : HoldsCleaned old v) (faultless : IsFaultless old v)
      (parts : room.parts + 1 ≡ (page_view v).shape.parts) (placed : v.layout ≡ layout_of old.size) (goes : GoesOn old v.disk) (during : KeepsRestarting old v.disk) where
    held_then : (s : Blocks) → IsAt old.past s → (m : Content) → RecoversTo (layout_of old.size) s.now m → page_holds (vault_of x) (cleaned m) × IsOf (cleaned m) (durable_in m) x.machine.origin
    held_then s at m stands =
        let one = on s at m stands in
        let images = read_images m one.parts one.objects.sound in
        let kept : IsKeptOf x.machine.origin (durable_in m) =
        subst (λ (u : State). IsKeptOf u (durable_in m)) (sym origin_is)
        (begins_kept m h one.parts one.objects.sound one.objects.is opening (checked_of deck) deck.jobs (Some room) one.extents)
        in (
          subst (λ (p : PageStore). page_holds p (cleaned m)) (sym vault) one.holds,
          record {
            stands = cleaned_represents m one.parts one.objects.sound;
            headers = λ n y there. image_header y (images n y there);
            short = images_short x.machine.origin (durable_in m) kept images;
            kept = kept;
            images = images;
            restartable =
                subst (λ (u : State). IsRestartable u (durable_in m)) (sym origin_is)
                (begins_restartable m one.parts one.objects.sound (subst IsOpening one.objects.is opening) h (checked_of deck) deck.jobs (Some room) one.objects.is);
            trail =
                subst (λ (u : State). IsTrailOf u (durable_in m)) (sym origin_is)
                (begins_trail m h one.parts one.objects.sound one.objects.is (checked_of deck) deck.jobs room);
          },
        )

    pub ready_of : IsReady old deck made x
    ready_of = record {
      begun = begins;
      room = room;
      has = has;
      begins = record {
        opening = begins.opening;
        restarts = λ s at. subst (λ (k : Held). Restarts old.size s.now k) (sym held) (restarts s at);
        has = λ s at.
            let was = holds s at in
            record {
              content = was.0;
              stands = was.1.0;
              parts = subst (λ l. room.parts + 1 ≡ home_count l) placed parts;
              counts = (on s at was.0 was.1.0).extents;
            };
      };
      holds = held_then;
      content = λ s at. let was = holds s at in (was.0, was.1.0);
      faultless = subst (λ (p : PageStore). IsFaultless old p) (sym vault) faultless;
      goes = subst (λ (p : PageStore). GoesOn old p.disk) (sym vault) goes;
      during = subst (λ (p : PageStore). KeepsRestarting old p.disk) (sym vault) during;
    }

-- ---- what a run asks of a machine that has begun

module _ (deck : Deck) (made : List CreateResult) (x : StoredView WatchedStore) (begins : IsBegunOver deck made x) (js : List Job) (jobs : js ≡ deck.jobs) where
  run_is : run_of x ≡ begun (page_view (vault_of x)).moment (opened_machine x.machine.origin.room x.machine.origin.held deck)
  run_is = ap (λ (k : Ending). answered_by k x.machine) begins.going ∙ begins.machine

  begun_by : (m : Run) → m ≡ begun (page_view (vault_of x)).moment (opened_machine x.machine.origin.room x.machine.origin.held deck) → IsBegun js m
  begun_by m is =
      subst (λ (xs : List Job). IsBegun xs m) (sym jobs)
      (subst (IsBegun deck.jobs) (sym is)
      (is_begun x.machine.origin.room x.machine.origin.held (checked_of deck) deck.jobs (begun (page_view (vault_of x)).moment (opened_machine x.machine.origin.room x.machine.origin.held deck)) refl))

  pub run_begun : IsBegun js (run_of x)
  run_begun = begun_by (run_of x) run_is

  pub run_empty : (run_of x).history ≡ []
  run_empty = ap (λ (m : Run). m.history) run_is

  pub none_stopped : stopped_of x ≡ None
  none_stopped = ap (λ (k : Ending). stopped_by k x.machine.history) begins.going

  pub may_ask : (p : ℕ) (e : Event) (entries : List Entry) → 0 < p → p ≤ length js → IsProcess x.machine.origin p
  may_ask p e entries pos le = process_begun js x.machine (begun_by x.machine begins.machine) p pos le

  pub few_jobs : length js < 2 ^ 32 - 1
  few_jobs = let count = ap length jobs in let few = begins.few in omega (arith, count, few)

  pub as_many : (ms : List CreateResult) → ms ≡ made → length ms ≡ length js
  as_many ms same = ap length same ∙ begins.count ∙ sym (ap length jobs)

  -- ---- what it came to

  module _ (turns : Turns) (y : StoredView WatchedStore) (end : RunEnd) (from : beginning_of y ≡ beginning_of x) (ms : List CreateResult) (same : ms ≡ made) where
    origin_same : y.machine.origin ≡ x.machine.origin
    origin_same = ap (λ (b : StoredBeginning WatchedStore). b.state) from

    first_same : y.first ≡ x.first
    first_same = ap (λ (b : StoredBeginning WatchedStore). b.vault) from

    vault_same : vault_of y ≡ vault_of x
    vault_same = ap (λ (w : WatchedStore). w.now) first_same

    made_is : (k : ℕ) (job : Job) (one : CreateResult) → slice_get js k ≡ Some job → slice_get ms k ≡ Some one → made_for deck job ≡ Some one
    made_is k job one at there = begins.each k job one (subst (λ (xs : List Job). slice_get xs k ≡ Some job) jobs at) (subst (λ (xs : List CreateResult). slice_get xs k ≡ Some one) same there)

    made_there : (k : ℕ) (job : Job) → slice_get deck.jobs k ≡ Some job → (slice_get js k ≡ Some job) × ((one : CreateResult) × (slice_get ms k ≡ Some one))
    made_there k job at =
        let here : slice_get js k ≡ Some job = subst (λ (xs : List Job). slice_get xs k ≡ Some job) (sym jobs) at in
        let count = as_many ms same in
        let within = slice_get_within js k job here in
        (here, there_is ms k (omega (arith, count, within)))

    pub went_over : IsSoundOn y → made_in_order turns y.machine.origin (run_of y).history → AllByProgram ms js (run_of y).history → (end ≡ Complete → (y.ending ≡ Going) × AllRan ms js (run_of y).history)
        → (end ≡ Halted → y.ending ≡ Stopped) → (end ≡ Halted → made_in_order turns y.machine.origin y.machine.history × AllByProgram ms js y.machine.history) → WentOver turns deck y end
    went_over sound order by_program complete stopped on = record {
      sound = sound;
      watch = first_same ∙ begins.watch ∙ ap watch_of (sym vault_same);
      origin = subst (λ (s : State). s ≡ opened_machine s.room s.held deck) (sym origin_same) (ap (λ (m : Run). m.origin) begins.machine);
      opening = subst (λ (s : State). IsOpening s.held) (sym origin_same) begins.opening;
      faultless = subst (λ (p : PageStore). (page_view p).faults ≡ p.start) (sym vault_same) begins.faultless;
      order = order;
      each = λ k job at.
          let one = made_there k job at in
          record { made = one.1.0; is = made_is k job one.1.0 one.0 one.1.1; ran = by_program.each k job one.1.0 one.0 one.1.1 };
      going = λ is. (complete is).0;
      whole = λ is k job at. let one = made_there k job at in ((complete is).1.each k job one.1.0 one.0 one.1.1).whole;
      stopped = stopped;
      order_on = λ is. (on is).0;
      each_on = λ is k job at.
          let one = made_there k job at in
          record { made = one.1.0; is = made_is k job one.1.0 one.0 one.1.1; ran = (on is).1.each k job one.1.0 one.0 one.1.1 };
    }

-- ---- ends

-- the entry of a call that was answered Stopped is there
pub some_entry : (k : Ending) (m : Run) (first now : VaultView) → EndsWithVault k m first now → k ≡ Stopped → 1 ≤ length m.history
some_entry Going m first now end is = cc
some_entry Stopped m first now end is = end.1
some_entry Wanting m first now end is = cc

-- where a call was answered Stopped the machine has stopped
pub halted_stopped : (k : Ending) (history : List Entry) (call : ℕ × Event) → stopped_by k history ≡ Some call → k ≡ Stopped
halted_stopped Going history call is = cc
halted_stopped Stopped history call is = refl
halted_stopped Wanting history call is = cc

-- the beginning of what was answered is that of the machine
pub same_origin : (k : Ending) (m : Run) → (answered_by k m).origin ≡ m.origin
same_origin Going m = refl
same_origin Stopped m = refl
same_origin Wanting m = refl

-- of a run on threads
pub over_complete : (k : Ending) (end : RunEnd) → end_over k end ≡ Complete → (k ≡ Going) × (end ≡ Complete)
over_complete Going Complete is = (refl, refl)
over_complete Going Halted is = cc
over_complete Going NoMemory is = cc
over_complete Stopped end is = cc
over_complete Wanting end is = cc

pub over_stopped : (k : Ending) (end : RunEnd) → end_over k end ≡ Halted → k ≡ Stopped
over_stopped Going Complete is = cc
over_stopped Going Halted is = cc
over_stopped Going NoMemory is = cc
over_stopped Stopped end is = refl
over_stopped Wanting end is = cc
