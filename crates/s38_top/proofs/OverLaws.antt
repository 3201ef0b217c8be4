-- What a run over the store of a disk came to, and what a crash leaves of it.
use Rattle.std.proofs.Common.{◌≡◌, ◌∙◌, ℕ, ◌-◌, ◌<◌, ◌≤◌, List, [], refl, sym, ap, subst, arith}
use Rattle.std.proofs.lemmas.List.Elements.{All-weaker}
use Rattle.std.specs.Prelude.{All}
use Rattle.s38_base.specs.Faults.{Rose}
use Rattle.s38_redo_log.specs.Store.{RecoversTo}
use Rattle.s38_redo_log.specs.declared.layout.Layout.{Layout}
use Rattle.s38_base.specs.Limits.{body_limit}
use Rattle.s38_laws_checkpoint.specs.puts.Ending.{IsClosedTo, IsEnding as IsEndingOf, IsShort}
use Rattle.s38_laws_checkpoint.proofs.prefix.HomeLaws.{store_parts}
use Rattle.s38_laws_checkpoint.proofs.prefix.NamedLaws.{store_names}
use Rattle.s38_code.specs.declared.deck.Deck.{Deck}
use Rattle.s38_code.specs.declared.entry.Entry.{Entry}
use Rattle.s38_command.specs.declared.turns.Turns.{Turns}
use Rattle.s38_disk.proofs.Times.{moments_of}
use Rattle.s38_disk.specs.Disk.{DiskView, IsCrashImageAt, moment_of}
use Rattle.s38_disk.specs.declared.block.Block.{Block}
use Rattle.s38_durable_state.specs.Durable.{Durable, durable}
use Rattle.s38_durable_state.specs.Represents.{Represents as IsOfDurable}
use Rattle.s38_laws_flush.specs.durable.Kept.{AreImages}
use Rattle.s38_laws_images.specs.openings.Bodies.{HoldsBody}
use Rattle.s38_pages.specs.Mounts.{fewest, layout_of}
use Rattle.s38_pages.specs.Vaults.{PageStore, page_holds, page_leaves, page_view}
use Rattle.s38_pages.specs.Watched.{WatchedStore, watched_view}
use Rattle.s38_laws_flush.proofs.puts.ShortLaws.{body_short}
use Rattle.s38_laws_recovery.proofs.CrashLaws.{last_images}
use Rattle.s38_rules.specs.state.State.{State}
use Rattle.s38_run.specs.declared.run_end.RunEnd.{RunEnd as Halt}
use Rattle.s38_run.specs.declared.run_end.RunEnd.TheVariants as halts
use Rattle.s38_durable_machine.specs.Seen.{StoredView, run_of}
use Rattle.s38_durable_machine.specs.Sound.{IsOf}
use Rattle.s38_durable_machine.specs.declared.ending.Ending.TheVariants.{Stopped}
use Rattle.s38_flush.specs.Stepping.{HaveHeaders}
use Rattle.s38_store_file.proofs.CrashLaws.{goes_by, goes_then}
use Rattle.s38_store_file.specs.Crashes.{DuringCall, GoesOn, IsBetween}
use Rattle.s38_store_file.specs.Stores.{AllFit, IsFullOf, Keeps}
use Rattle.s38_top.proofs.AgainLaws.{closed_again, left_again}
use Rattle.s38_top.specs.Closing.{ClosingLaws, RestartLaws}
use Rattle.s38_top.specs.Crash.{RecoversToCheckpointPrefix, RecoversToPrefix}
use Rattle.s38_top.specs.Decks.{AreStoreMarks, IsRunOf, IsRunTo, made_in_order}
use Rattle.s38_top.specs.Ends.{CameFrom, IsEnd, IsRunEnded, IsRunFinished, LeftOver}
use Rattle.s38_top.specs.Answered.{history_of, marks_of}
use Rattle.s38_top.specs.Runs.{LeavesAfter, LeavesBy, all_durable_of}
use Rattle.s38_top.specs.declared.outcome.RunEnd.{RunEnd}
use Rattle.s38_top.specs.declared.outcome.RunEnd.TheVariants as ends
use Rattle.s38_top.specs.Stored.{WentOver, vault_of}
use Rattle.s38_top.specs.declared.outcome.Outcome.{Outcome}
use Rattle.s38_top.specs.declared.outcome.Outcome.TheVariants.{BadWords, BadDeck, DeckFault, NoMemory, Ran, Checked, Demonstrated, Installed, Listed, Refused, DiskFault}
use Rattle.s38_top.specs.declared.outcome.Whole.{Whole}
use Rattle.s38_vault.specs.Content.{Content}
use Rattle.s38_top.proofs.WentOverLaws.{WasGiven, seen, most_is, moment_is, run_to, plans, marked, entries_all, state_is, held_then, run_whole, marked_on}
use Rattle.s38_rules.specs.step.Histories.{state_after}

-- ---- over a disk

module _ (turns : Turns) (deck : Deck) (x : StoredView WatchedStore) (end : Halt) (went : WentOver turns deck x end)
    (r : PageStore) (at : WasGiven x r) where
  abbrev v : PageStore
  v = vault_of x

  abbrev s : State
  s = x.machine.origin

  abbrev entries : List Entry
  entries = (run_of x).history

  abbrev marks : List ℕ
  marks = (run_of x).marks

  is : r ≡ x.vault.now
  is = at.is

  -- the run up to its end
  abbrev behind : State
  behind = state_after s entries

  module _ (new : DiskView) (placed : r.layout ≡ layout_of new.size) where
    -- each image of a moment of the run represents what the vault leaves then
    image_of : (m : Content) → page_holds v m → (t : ℕ) (g : ℕ → Block) → moment_of v.disk.past < t → t ≤ moment_of r.disk.past → IsCrashImageAt r.disk.past t g
        → (n : Content) × (page_leaves x.vault.now t n × RecoversTo (layout_of new.size) g n)
    image_of m holds t g low high left =
        let whole = (moments_of (seen turns deck x end went r at).moves holds.1.0 holds.1.1 t left.0 low high left.1.0).each g left.1.1 in
        let stands = subst (λ (l : Layout). RecoversTo l g whole.0) (sym (seen turns deck x end went r at).layout) whole.1 in
        let leaves : page_leaves r t whole.0 = (left.0, left.1.0, (g, left.1.1, stands)) in
        (whole.0, (subst (λ (p : PageStore). page_leaves p t whole.0) is leaves, subst (λ (l : Layout). RecoversTo l g whole.0) placed stands))

    -- while it was made
    left_running : RestartLaws → (m : Content) (d : Durable) → page_holds v m → IsOf m d s → fewest ≤ new.size
        → (t : ℕ) (g : ℕ → Block) → moment_of v.disk.past < t → t ≤ moment_of r.disk.past → IsCrashImageAt r.disk.past t g → RecoversToPrefix new.size d s x.machine.history marks t g
    left_running laws m d holds of large t g low high left =
        let one = image_of m holds t g low high left in
        let kept = went.sound.kept m d holds of in
        let from : (watched_view x.first).moment ≤ t = omega (arith, low) in
        let until : t ≤ (watched_view x.vault).moment = let here = moment_is turns deck x end went r at in omega (arith, here, high) in
        record {
          content = one.0;
          stands = one.1.1;
          kept = kept.crash (most_is turns deck x end went r at) t one.0 from until one.1.0;
          restarts = λ bytes.
              left_again laws new.size g one.0 large one.1.1 d s x.machine.history x.machine.state marks t went.sound.sound.legal of.kept of.trail of.restartable
              (kept.restarts (most_is turns deck x end went r at) t one.0 from until one.1.0 (store_parts (layout_of new.size) g one.0 one.1.1 bytes));
        }

    -- what is known as it ends
    ending_of : ClosingLaws → (m : Content) (d : Durable) → page_holds v m → IsOf m d s → HaveHeaders (all_durable_of x.machine.state) → HaveHeaders (durable d s x.machine.history) → IsEndingOf x.machine.state (durable d s x.machine.history)
    ending_of laws m d holds of then_headers headers =
        let ordered = went.sound.state.ordered in
        let kept = went.sound.kept m d holds of in
        record {
          kept = laws.kept s [] x.machine.history x.machine.state d went.sound.sound.legal of.kept;
          trail = laws.trail s [] x.machine.history x.machine.state d went.sound.sound.legal of.kept of.trail;
          headers = headers;
          then_headers = then_headers;
          short = kept.short;
          then_short =
              laws.short x.machine.state
              (All-weaker (HoldsBody body_limit) IsShort (λ o holds_body. body_short o.body holds_body) x.machine.state.held.objects
              (subst (λ (limit : ℕ). All (HoldsBody limit) x.machine.state.held.objects) ordered.limit ordered.bodies));
        }

    module _ (again : RestartLaws) (o : Outcome) (reported : (o ≡ NoMemory → ⊥) → (history_of o ≡ entries) × (marks_of o ≡ marks))
        (next : (o ≡ NoMemory → ⊥) → IsRunTo s.room s.held (made_in_order turns) deck x.machine.history) where
      -- nothing was kept after it
      pub left_off : new ≡ r.disk → LeftOver turns deck v s new o
      left_off same = record {
        entries = entries;
        marks = marks;
        planned = x.machine.history;
        plans = plans turns deck x end went r at;
        run = run_to turns deck x end went r at;
        last = moment_of r.disk.past;
        goes = subst (λ (d : DiskView). GoesOn v.disk d) (sym same) (goes_by (seen turns deck x end went r at).moves);
        marked = marked turns deck x end went r at;
        ended = let here = ap (λ (d : DiskView). moment_of d.past) same in omega (arith, here);
        running = λ m d holds of large t g low high left. left_running again m d holds of large t g low high (subst (λ (d : DiskView). IsCrashImageAt d.past t g) same left);
        closing = λ m d holds of large t g low high left. absurd (let here = ap (λ (d : DiskView). moment_of d.past) same in omega (arith, here, low, high));
        reported = reported;
        next = next;
      }

      -- what it left was kept
      module _ (laws : ClosingLaws) (complete : end ≡ halts.Complete) (headers : HaveHeaders (all_durable_of x.machine.state)) (images : AreImages (all_durable_of x.machine.state)) (goes : GoesOn r.disk new) (during : (m : Content) → page_holds r m → DuringCall r.disk new (IsBetween new.size m (all_durable_of x.machine.state) x.machine.state.held)) where
        -- during the checkpoint, from what was durable at the end of the run
        closed_at : (m : Content) (d : Durable) → page_holds v m → IsOf m d s → fewest ≤ new.size → (t : ℕ) (g : ℕ → Block) → moment_of r.disk.past < t → t ≤ moment_of new.past → IsCrashImageAt new.past t g
            → RecoversToCheckpointPrefix new.size (durable d s x.machine.history) x.machine.state g
        closed_at m d holds of large t g low high left =
            let there = held_then turns deck x end went r at complete m d holds of in
            let here : page_holds r there.content = subst (λ (p : PageStore). page_holds p there.content) (sym is) there.held in
            let between = (during there.content here).each t g low high left in
            let stands : IsOfDurable there.content (durable d s x.machine.history) = subst (λ (es : List Entry). IsOfDurable there.content (durable d s es)) (entries_all turns deck x end went r at complete) there.stands in
            let ending = ending_of laws m d holds of headers (subst (λ (es : List Entry). HaveHeaders (durable d s es)) (entries_all turns deck x end went r at complete) there.headers) in
            let to : IsClosedTo x.machine.state (durable d s x.machine.history) between.content =
            laws.left x.machine.state (durable d s x.machine.history) there.content between.content ending stands (store_names (layout_of new.size) g between.content between.stands) between.left in
            record {
              content = between.content;
              stands = between.stands;
              closed = to;
              restarts = λ bytes.
                  closed_again again new.size g between.content large between.stands x.machine.state (durable d s x.machine.history) to ending.kept ending.trail went.sound.state.ordered
                  (again.restartable s [] x.machine.history x.machine.state d went.sound.sound.legal of.kept of.trail of.restartable) (last_images d s x.machine.history (went.sound.kept m d holds of).images) images
                  (store_parts (layout_of new.size) g between.content between.stands bytes);
            }

        closing : (m : Content) (d : Durable) → page_holds v m → IsOf m d s → fewest ≤ new.size → (t : ℕ) (g : ℕ → Block) → moment_of r.disk.past < t → t ≤ moment_of new.past → IsCrashImageAt new.past t g
            → RecoversToCheckpointPrefix new.size (durable d s entries) behind g
        closing m d holds of large t g low high left =
            subst (λ (es : List Entry). RecoversToCheckpointPrefix new.size (durable d s es) behind g) (sym (entries_all turns deck x end went r at complete))
            (subst (λ (e : State). RecoversToCheckpointPrefix new.size (durable d s x.machine.history) e g) (sym (state_is turns deck x end went r at complete)) (closed_at m d holds of large t g low high left))

        pub left_kept : LeftOver turns deck v s new o
        unfolding run_to
        left_kept = record {
          entries = entries;
          marks = marks;
          planned = x.machine.history;
          plans = plans turns deck x end went r at;
          run = run_to turns deck x end went r at;
          last = moment_of r.disk.past;
          goes = goes_then (goes_by (seen turns deck x end went r at).moves) goes;
          marked = marked turns deck x end went r at;
          ended = goes.later;
          running = λ m d holds of large t g low high left. left_running again m d holds of large t g low high ((goes.before t g high).1 left);
          closing = closing;
          reported = reported;
          next = next;
        }

    -- what a vault held as the run ended, by what it held as the run began
    pub behind_by : end ≡ halts.Complete → (e : RunEnd) → (e ≡ ends.Stopped → ⊥) → LeavesBy r new x.machine.state e → LeavesAfter v s new entries behind e
    behind_by complete ends.Kept not by = λ m d holds of t told.
        let there = held_then turns deck x end went r at complete m d holds of in
        let here = by there.content (subst (λ (p : PageStore). page_holds p there.content) (sym is) there.held) t told in
        record {
          begun = there.content;
          stands = there.stands;
          fits = subst (λ (e : State). AllFit new.size there.content (all_durable_of e) e.held) (sym (state_is turns deck x end went r at complete)) here.0;
          keeps = subst (λ (e : State). Keeps new.size t.now (all_durable_of e)) (sym (state_is turns deck x end went r at complete)) here.1;
        }
    behind_by complete ends.Failed not by = subst (λ (n : ℕ). Rose n new.faults) (seen turns deck x end went r at).start by
    behind_by complete (ends.Full needed free) not by = λ m d holds of t told.
        let there = held_then turns deck x end went r at complete m d holds of in
        record {
          begun = there.content;
          stands = there.stands;
          full = subst (λ (e : State). IsFullOf new.size there.content (all_durable_of e) e.held t.now needed free) (sym (state_is turns deck x end went r at complete)) (by there.content (subst (λ (p : PageStore). page_holds p there.content) (sym is) there.held) t told);
        }
    behind_by complete ends.Stopped not by = absurd (not refl)

    -- ---- what is told of it

    module _ (whole : Whole) (deck_is : whole.deck ≡ deck) (history_is : whole.history.items ≡ entries) (marks_is : whole.marks.items ≡ marks) where
      marks_told : (last : ℕ) → moment_of r.disk.past ≤ last → AreStoreMarks (page_view v).moment last whole.marks.items whole.history.items
      marks_told last le =
          subst (λ (ms : List ℕ). AreStoreMarks (page_view v).moment last ms whole.history.items) (sym marks_is)
          (subst (λ (es : List Entry). AreStoreMarks (page_view v).moment last marks es) (sym history_is) (marked_on turns deck x end went r at last le))

      -- it was kept
      module _ (complete : end ≡ halts.Complete) (state_told : whole.state ≡ x.machine.state) (goes : GoesOn r.disk new) where
        run_behind : (e : RunEnd) → (e ≡ ends.Stopped → ⊥) → LeavesBy r new whole.state e → IsRunFinished turns deck v s new whole e
        unfolding run_to run_whole
        run_behind e not by =
            let behind_run : (run : IsRunOf s.room s.held (made_in_order turns) deck whole.history.items) × LeavesAfter v s new whole.history.items run.state e =
            subst (λ (es : List Entry). (run : IsRunOf s.room s.held (made_in_order turns) deck es) × LeavesAfter v s new es run.state e) (sym history_is)
            (run_whole turns deck x end went r at complete, behind_by complete e not (subst (λ (t : State). LeavesBy r new t e) state_told by)) in
            record { deck_is = deck_is; run = behind_run.0; marks = marks_told (moment_of new.past) goes.later; behind = behind_run.1 }

        run_ended : (e : RunEnd) → (e ≡ ends.Stopped → ⊥) → LeavesBy r new whole.state e → IsRunEnded turns deck v s new whole e
        run_ended ends.Kept not by = run_behind ends.Kept not by
        run_ended ends.Failed not by = run_behind ends.Failed not by
        run_ended (ends.Full needed free) not by = run_behind (ends.Full needed free) not by
        run_ended ends.Stopped not by = absurd (not refl)

        pub came_kept : (o : Outcome) → IsEnd turns whole r new o → CameFrom turns deck v s new o
        came_kept (Ran y ran e) is_end = (is_end.0, subst (λ (w : Whole). IsRunEnded turns deck v s new w e) (sym is_end.1.0) (run_ended e is_end.1.1.0 is_end.1.1.1))
        came_kept NoMemory is_end = tt
        came_kept BadWords is_end = absurd is_end
        came_kept (BadDeck line code) is_end = absurd is_end
        came_kept DeckFault is_end = absurd is_end
        came_kept (Refused bad) is_end = absurd is_end
        came_kept DiskFault is_end = absurd is_end
        came_kept (Checked checked) is_end = absurd is_end
        came_kept (Demonstrated size ran) is_end = absurd is_end
        came_kept Installed is_end = absurd is_end
        came_kept (Listed objects) is_end = absurd is_end

        pub reported_kept : (o : Outcome) → IsEnd turns whole r new o → (o ≡ NoMemory → ⊥) → (history_of o ≡ entries) × (marks_of o ≡ marks)
        reported_kept (Ran y ran e) is_end not = (ap (λ (w : Whole). w.history.items) is_end.1.0 ∙ history_is, ap (λ (w : Whole). w.marks.items) is_end.1.0 ∙ marks_is)
        reported_kept NoMemory is_end not = absurd (not refl)
        reported_kept BadWords is_end not = absurd is_end
        reported_kept (BadDeck line code) is_end not = absurd is_end
        reported_kept DeckFault is_end not = absurd is_end
        reported_kept (Refused bad) is_end not = absurd is_end
        reported_kept DiskFault is_end not = absurd is_end
        reported_kept (Checked checked) is_end not = absurd is_end
        reported_kept (Demonstrated size ran) is_end not = absurd is_end
        reported_kept Installed is_end not = absurd is_end
        reported_kept (Listed objects) is_end not = absurd is_end

      -- the disk broke it off
      pub came_stopped : (o : Outcome) → o ≡ Ran turns whole ends.Stopped → moment_of r.disk.past ≤ moment_of new.past → Rose r.start new.faults → CameFrom turns deck v s new o
      came_stopped o told later rose =
          subst (CameFrom turns deck v s new) (sym told) (
            refl,
            record {
              deck_is = deck_is;
              run = subst (λ (es : List Entry). IsRunTo s.room s.held (made_in_order turns) deck es) (sym history_is) (run_to turns deck x end went r at);
              marks = marks_told (moment_of new.past) later;
              failed = subst (λ (n : ℕ). Rose n new.faults) (seen turns deck x end went r at).start rose;
            },
          )

      pub reported_stopped : (o : Outcome) → o ≡ Ran turns whole ends.Stopped → (history_of o ≡ entries) × (marks_of o ≡ marks)
      reported_stopped o told = (ap history_of told ∙ history_is, ap marks_of told ∙ marks_is)
