-- What a machine that ran a deck over the store of a disk came to: its run, its marks, and its count of faults.
use Rattle.std.proofs.Common.{◌≡◌, ◌∙◌, ℕ, ◌+◌, ◌-◌, ◌≤◌, List, [], ◌∷◌, ◌++◌, length, take, refl, sym, ap, subst, arith, zero, suc}
use Rattle.std.proofs.lemmas.List.{length-take, take_all, take_min}
use Rattle.std.specs.Prelude.{min}
use Rattle.s38_base.specs.Faults.{Rose}
use Rattle.s38_code.specs.declared.deck.Deck.{Deck}
use Rattle.s38_code.specs.declared.entry.Entry.{Entry}
use Rattle.s38_command.specs.declared.turns.Turns.{Turns}
use Rattle.s38_disk.specs.Disk.{moment_of}
use Rattle.s38_durable_state.specs.Durable.{Durable, durable}
use Rattle.s38_laws_flush.proofs.durable.KeepLaws.{led_to}
use Rattle.s38_pages.proofs.Watching.{same_first}
use Rattle.s38_pages.specs.Vaults.{PageStore, page_holds, page_view}
use Rattle.s38_pages.specs.Watched.{IsWatched, WatchedStore, watched_view}
use Rattle.s38_rules.specs.step.Legal.{AreMoments, Leads, Run}
use Rattle.s38_rules.specs.state.State.{State}
use Rattle.s38_rules.specs.step.Step.{step}
use Rattle.s38_run.specs.declared.run_end.RunEnd.{RunEnd as Halt}
use Rattle.s38_run.specs.declared.run_end.RunEnd.TheVariants as halts
use Rattle.s38_durable_machine.specs.Seen.{StoredView, answered_by, run_of, without_last}
use Rattle.s38_durable_machine.specs.Sound.{EndsWithVault, HoldsOf, HoldsWhile, IsOf}
use Rattle.s38_durable_machine.specs.declared.ending.Ending.{Ending}
use Rattle.s38_durable_machine.specs.declared.ending.Ending.TheVariants.{Going, Stopped, Wanting}
use Rattle.s38_top.specs.Crash.{IsHistoryWithPendingCall}
use Rattle.s38_objects.specs.Lawful.{IsObjectMap}
use Rattle.s38_laws_images.proofs.openings.CloseLaws.{end_closes}
use Rattle.s38_laws_images.specs.openings.Closing.{CanClose}
use Rattle.s38_top.specs.Decks.{AreStoreMarks, IsRunOf, IsRunTo, checked_of, made_in_order}
use Rattle.s38_top.specs.Stored.{WentOver, vault_of, watched_holds}
use Rattle.s38_vault.specs.Content.{Content}
use Rattle.s38_vault.specs.Vaults.{AreLimits, VaultShape, most_changes}
use Rattle.s38_rules.specs.step.Histories.{state_after}

pub leads_front : (s : State) (before es : List Entry) (t : State) (n : ℕ) → Leads s before es t → Leads s before (take n es) (state_after s (take n es))
leads_front s before es t zero leads = refl
leads_front s before [] t (suc n) leads = refl
leads_front s before (e ∷ es) t (suc n) leads = (leads.0, leads_front (step s e.process e.event).state (before ++ e ∷ []) es t n leads.1)

pub moments_front : (first : ℕ) (marks : List ℕ) (last n : ℕ) → AreMoments first marks last → AreMoments first (take n marks) last
moments_front first marks last zero are = from first marks are
  where
    from : (low : ℕ) (ms : List ℕ) → AreMoments low ms last → low ≤ last
    from low [] all = all
    from low (m ∷ ms) all = let rest = from m ms all.1 in let le = all.0 in omega (arith, rest, le)
moments_front first [] last (suc n) are = are
moments_front first (m ∷ marks) last (suc n) are = (are.0, moments_front m marks last n are.1)

pub moments_on : (first : ℕ) (marks : List ℕ) (now later : ℕ) → AreMoments first marks now → now ≤ later → AreMoments first marks later
moments_on first [] now later are le = omega (arith, are, le)
moments_on first (m ∷ marks) now later are le = (are.0, moments_on m marks now later are.1 le)

-- of a machine that goes on all was answered, and of another all but the last
pub answered_leads : (k : Ending) (m : Run) → Leads m.origin [] m.history m.state → Leads m.origin [] (answered_by k m).history (state_after m.origin (answered_by k m).history)
answered_leads Going m leads = subst (λ (t : State). Leads m.origin [] m.history t) (sym (led_to m.origin [] m.history m.state leads)) leads
answered_leads Stopped m leads = leads_front m.origin [] m.history m.state (length m.history - 1) leads
answered_leads Wanting m leads = leads_front m.origin [] m.history m.state (length m.history - 1) leads

pub answered_moments : (k : Ending) (m : Run) → AreMoments m.first m.marks m.moment → AreMoments m.first (answered_by k m).marks m.moment
answered_moments Going m are = are
answered_moments Stopped m are = moments_front m.first m.marks m.moment (length m.marks - 1) are
answered_moments Wanting m are = moments_front m.first m.marks m.moment (length m.marks - 1) are

pub fewer : {A B : Type 0} (xs : List A) (ys : List B) → length xs ≡ length ys → length (without_last xs) ≡ length (without_last ys)
fewer xs ys same = length-take (length xs - 1) xs ∙ ap (λ (n : ℕ). min (n - 1) n) same ∙ sym (length-take (length ys - 1) ys)

pub answered_count : (k : Ending) (m : Run) → length m.marks ≡ length m.history → length (answered_by k m).marks ≡ length (answered_by k m).history
answered_count Going m same = same
answered_count Stopped m same = fewer m.marks m.history same
answered_count Wanting m same = fewer m.marks m.history same

-- what was answered is the front of what was planned
pub all_but_last : (h : List Entry) → take (length (without_last h)) h ≡ without_last h
all_but_last h = ap (λ (n : ℕ). take n h) (length-take (length h - 1) h) ∙ take_min (length h - 1) h

pub answered_begins : (k : Ending) (m : Run) → take (length (answered_by k m).history) m.history ≡ (answered_by k m).history
answered_begins Going m = take_all (length m.history) m.history (omega arith)
answered_begins Stopped m = all_but_last m.history
answered_begins Wanting m = all_but_last m.history

pub one_less : (h : List Entry) → length h ≤ length (without_last h) + 1
one_less h = let count = length-take (length h - 1) h in omega (arith, count)

pub answered_most : (k : Ending) (m : Run) → length m.history ≤ length (answered_by k m).history + 1
answered_most Going m = omega arith
answered_most Stopped m = one_less m.history
answered_most Wanting m = one_less m.history

-- the page vault that a machine gives back as it ends
pub record WasGiven (x : StoredView WatchedStore) (r : PageStore) : Type 0 where
  pub is : r ≡ x.vault.now
  pub watched : IsWatched x.vault.first r
  pub most : (watched_view x.vault).shape.most ≡ most_changes

pub given_back : (x : StoredView WatchedStore) (w : WatchedStore) (r : PageStore) → w ≡ x.vault → r ≡ w.now → IsWatched w.first r → AreLimits (watched_view w).shape → WasGiven x r
given_back x w r same is watched limits = record {
  is = is ∙ ap (λ (y : WatchedStore). y.now) same;
  watched = subst (λ (y : WatchedStore). IsWatched y.first r) same watched;
  most = subst (λ (y : WatchedStore). (watched_view y).shape.most ≡ most_changes) same limits.0;
}

module _ (turns : Turns) (deck : Deck) (x : StoredView WatchedStore) (end : Halt) (went : WentOver turns deck x end)
    (r : PageStore) (at : WasGiven x r) where
  abbrev v : PageStore
  v = vault_of x

  abbrev pub s : State
  s = x.machine.origin

  abbrev entries : List Entry
  entries = (run_of x).history

  abbrev pub marks : List ℕ
  marks = (run_of x).marks

  pub is : r ≡ x.vault.now
  is = at.is

  first_is : x.vault.first ≡ v
  first_is = same_first x.first x.vault went.sound.shape ∙ ap (λ (w : WatchedStore). w.first) went.watch

  pub seen : IsWatched v r
  seen = subst (λ (p : PageStore). IsWatched p r) first_is at.watched

  pub most_is : (watched_view x.first).shape.most ≡ most_changes
  most_is = ap (λ (shape : VaultShape). shape.most) (sym went.sound.shape) ∙ at.most

  pub moment_is : moment_of r.disk.past ≡ (watched_view x.vault).moment
  moment_is = ap (λ (p : PageStore). moment_of p.disk.past) is

  -- the run up to its end
  abbrev behind : State
  behind = state_after s entries

  unfoldable pub run_to : IsRunTo s.room s.held (made_in_order turns) deck entries
  run_to = record {
    state = behind;
    legal = subst (λ (o : State). Leads o [] entries behind) went.origin (answered_leads x.ending x.machine went.sound.sound.legal);
    order = subst (λ (o : State). made_in_order turns o entries) went.origin went.order;
    each = went.each;
  }

  -- where the machine has stopped, the entries with that of the call that failed are of such a run as well
  pub run_on : end ≡ halts.Stopped → IsRunTo s.room s.held (made_in_order turns) deck x.machine.history
  run_on halted = record {
    state = x.machine.state;
    legal = subst (λ (o : State). Leads o [] x.machine.history x.machine.state) went.origin went.sound.sound.legal;
    order = subst (λ (o : State). made_in_order turns o x.machine.history) went.origin (went.order_on halted);
    each = went.each_on halted;
  }

  pub plans : IsHistoryWithPendingCall s entries x.machine.history
  plans = record {
    begins = answered_begins x.ending x.machine;
    most = answered_most x.ending x.machine;
    legal = subst (λ (t : State). Leads s [] x.machine.history t) (sym (led_to s [] x.machine.history x.machine.state went.sound.sound.legal)) went.sound.sound.legal;
  }

  pub marked : AreStoreMarks (page_view v).moment (moment_of r.disk.past) marks entries
  marked =
      let low = went.sound.first in
      let here = moment_is in
      let high = went.sound.moment in
      record {
        count = answered_count x.ending x.machine went.sound.sound.stored.marked;
        moments =
            subst (λ (n : ℕ). AreMoments n marks (moment_of r.disk.past)) low
            (moments_on x.machine.first marks x.machine.moment (moment_of r.disk.past) (answered_moments x.ending x.machine went.sound.sound.stored.stamped) (omega (arith, here, high)));
      }

  -- where each job ran to its end
  pub entries_all : end ≡ halts.Complete → entries ≡ x.machine.history
  entries_all complete = ap (λ (k : Ending). (answered_by k x.machine).history) (went.going complete)

  pub run_all : end ≡ halts.Complete → IsRunTo s.room s.held (made_in_order turns) deck x.machine.history
  run_all complete = subst (λ (es : List Entry). IsRunTo s.room s.held (made_in_order turns) deck es) (entries_all complete) run_to

  pub state_is : end ≡ halts.Complete → behind ≡ x.machine.state
  state_is complete = ap (λ (es : List Entry). state_after s es) (entries_all complete) ∙ led_to s [] x.machine.history x.machine.state went.sound.sound.legal

  pub held_then : end ≡ halts.Complete → (m : Content) (d : Durable) → page_holds v m → IsOf m d s → HoldsOf watched_holds x.vault (durable d s entries)
  held_then complete m d holds of =
      subst (λ (es : List Entry). HoldsOf watched_holds x.vault (durable d s es)) (sym (entries_all complete))
      (subst (λ (k : Ending). HoldsWhile watched_holds k x.vault (durable d s x.machine.history)) (went.going complete) (went.sound.kept m d holds of).now)

  -- its checkpoint can be written
  pub closes : IsObjectMap x.machine.state.held → CanClose x.machine.state
  closes lawful =
      end_closes s.room s.held (checked_of deck) deck.jobs x.machine.history x.machine.state went.opening
      (subst (λ (o : State). Leads o [] x.machine.history x.machine.state) went.origin went.sound.sound.legal) lawful

  -- ---- what it came to

  -- each job ran whole
  unfoldable pub run_whole : end ≡ halts.Complete → IsRunOf s.room s.held (made_in_order turns) deck entries
  run_whole complete = record {
    state = run_to.state;
    legal = run_to.legal;
    order = run_to.order;
    each = λ k job there. let one = run_to.each k job there in record { made = one.made; is = one.is; ran = record { by_program = one.ran; whole = went.whole complete k job there } };
  }

  pub marked_on : (last : ℕ) → moment_of r.disk.past ≤ last → AreStoreMarks (page_view v).moment last marks entries
  marked_on last le = record { count = marked.count; moments = moments_on (page_view v).moment marks (moment_of r.disk.past) last marked.moments le }

  -- ---- the count of faults

  pub going_faultless : x.ending ≡ Going → (page_view r).faults ≡ r.start
  going_faultless going =
      let e : EndsWithVault Going x.machine (watched_view x.first) (watched_view x.vault) = subst (λ (k : Ending). EndsWithVault k x.machine (watched_view x.first) (watched_view x.vault)) going went.sound.ending in
      ap (λ (p : PageStore). (page_view p).faults) is ∙ e.1 ∙ went.faultless ∙ sym seen.start

  pub stopped_rose : x.ending ≡ Stopped → Rose r.start (page_view r).faults
  stopped_rose stopped =
      let e : EndsWithVault Stopped x.machine (watched_view x.first) (watched_view x.vault) = subst (λ (k : Ending). EndsWithVault k x.machine (watched_view x.first) (watched_view x.vault)) stopped went.sound.ending in
      subst (λ (n : ℕ). Rose n (page_view r).faults) (went.faultless ∙ sym seen.start) (subst (λ (n : ℕ). Rose (page_view v).faults n) (ap (λ (p : PageStore). (page_view p).faults) (sym is)) e.0)
