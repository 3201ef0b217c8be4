-- A machine over a vault has it put few parts at a COMMIT of a unit.
use Rattle.std.proofs.Common.{◌≡◌, ◌∙◌, ℕ, ◌+◌, ◌/◌, ◌≤◌, List, [], ◌∷◌, ◌++◌, length, refl, sym, ap, subst, arith}
use Rattle.std.specs.FinMap.{get}
use Rattle.std.specs.Prelude.{Some, Result, OnOk}
use Rattle.s38_base.specs.Limits.{page_bytes}
use Rattle.s38_base.specs.declared.page.Change.{Change}
use Rattle.s38_code.specs.declared.asked.Asked.{Asked}
use Rattle.s38_code.specs.declared.entry.Entry.{Entry}
use Rattle.s38_code.specs.declared.event.Event.{Event}
use Rattle.s38_code.specs.declared.step.StepFault.{StepFault}
use Rattle.s38_commits.specs.Unit.{CommitUnit}
use Rattle.s38_laws_commits.specs.Found.{Commits}
use Rattle.s38_durable_state.specs.Durable.{Durable, durable, durable_after}
use Rattle.s38_durable_state.specs.Represents.{Represents, pages_put_at}
use Rattle.s38_laws_flush.proofs.durable.KeepLaws as kept_laws
use Rattle.s38_laws_flush.proofs.durable.KeepLaws.{numbered_same}
use Rattle.s38_laws_flush.proofs.durable.StepLaws.{IsDone}
use Rattle.s38_laws_flush.specs.durable.Kept.{IsKeptOf}
use Rattle.s38_machine.specs.Stored.{kept_anew}
use Rattle.s38_laws_flush.specs.puts.OnePut.{BodiesAreShort}
use Rattle.s38_laws_flush.specs.puts.Trails.{IsTrailOf}
use Rattle.s38_rules.specs.step.Effect.{effect_of}
use Rattle.s38_rules.specs.store.Forcing.{Forced, must_persist}
use Rattle.s38_rules.specs.state.Journaling.{journal_for_block}
use Rattle.s38_rules.specs.step.Legal.{IsEntry, IsProcess, Run, after}
use Rattle.s38_rules.specs.state.PartsAt.{journal_at}
use Rattle.s38_rules.specs.state.State.{State}
use Rattle.s38_rules.specs.step.Step.{step}
use Rattle.s38_flush.specs.Numbers.{numbered, numbers}
use Rattle.s38_flush.specs.Stepping.{HaveHeaders, ceiling_changes, object_changes, put_forced}
use Rattle.s38_vault.specs.Content.{Content, changed}
use Rattle.s38_vault.specs.Vaults.{VaultView}
use Rattle.s38_durable_machine.specs.Commits.{CommitsFew, PutsAtMost, commit_parts, next_entry}
use Rattle.s38_durable_machine.specs.Keeping.{IsFlushed, IsKeptAfter, KeepsStep, answer_by}
use Rattle.s38_durable_machine.specs.Seen.{StoredView, answered_by, run_of}
use Rattle.s38_durable_machine.specs.Sound.{HoldsOf, IsKeptFrom, IsOf, IsSoundOver}
use Rattle.s38_durable_machine.specs.declared.ending.Ending.{Ending}
use Rattle.s38_durable_machine.specs.declared.ending.Ending.TheVariants.{Going, Stopped, Wanting}
use Rattle.s38_durable_machine.proofs.SoundLaws.{after_entered, enters_done}
use Rattle.s38_durable_machine.proofs.DurableStepLaws.{done_is, held, is_old, kept_now, precedes, short_new, short_old, trails_old}
use Rattle.s38_durable_machine.proofs.SettledLaws.{takes}
use Rattle.s38_durable_machine.proofs.StateLaws.{is_done, kept_done}

-- what the law says of a COMMIT that takes effect, of a unit
pub record CommitLaws : Type 0 where
  pub few : (s : State) (before : List Entry) (e : Entry) (unit : CommitUnit) (n : ℕ) (d : Durable) (m : Content) → IsEntry s before e → (commits : Commits s e unit) → journal_for_block s.held commits.block ≡ Some n
      → IsKeptOf s d → IsTrailOf s d → HaveHeaders d → HaveHeaders (durable_after (must_persist s e.process e.event) d (step s e.process e.event).state)
      → BodiesAreShort d → BodiesAreShort (durable_after (must_persist s e.process e.event) d (step s e.process e.event).state) → Represents m d
      → length (object_changes (numbered (must_persist s e.process e.event)) (get m) (durable_after (must_persist s e.process e.event) d (step s e.process e.event).state))
      ≤ (journal_at (effect_of s e.process e.event).state.held n).unforced / page_bytes + 3
  pub ceiling : (s : State) (before : List Entry) (e : Entry) (unit : CommitUnit) (n : ℕ) (d : Durable) (m : Content) → IsEntry s before e → (commits : Commits s e unit) → journal_for_block s.held commits.block ≡ Some n
      → IsKeptOf s d → ceiling_changes (numbered (must_persist s e.process e.event)) (get m) (durable_after (must_persist s e.process e.event) d (step s e.process e.event).state) ≡ []

-- where the ceiling does not differ, the objects alone are put
put_alone : (all : List Forced) (m : Content) (d : Durable) → ceiling_changes all (get m) d ≡ [] → put_forced all m d ≡ changed m (object_changes all (get m) d)
put_alone all m d none = ap (λ (cs : List Change). pages_put_at (numbers all) (changed m cs) d) none

module _ {V : Type 0} (view : V → VaultView) (holds : V → Content → Type 0) (leaves : V → ℕ → Content → Type 0) (laws : kept_laws.DurableLaws) (commit_laws : CommitLaws)
    (x : StoredView V) (p : ℕ) (e : Event) (is : IsSoundOver view holds leaves x) (going : x.ending ≡ Going) (may : IsProcess x.machine.origin p) where
  abbrev m : Run
  m = x.machine

  abbrev s : State
  s = m.state

  abbrev t : State
  t = (step s p e).state

  abbrev one : Entry
  one = next_entry m p e

  -- what is said of a COMMIT, of a run
  abbrev FewOf : Run → V → Type 0
  FewOf r v = (c n : Content) (d : Durable) (unit : CommitUnit) (journal : ℕ) → holds x.first c → IsOf c d m.origin → holds x.vault n
      → (commits : Commits r.state (next_entry r p e) unit) → journal_for_block r.state.held commits.block ≡ Some journal → PutsAtMost holds (commit_parts r.state p e journal) n v

  run_is : run_of x ≡ m
  run_is = ap (λ (k : Ending). answered_by k m) going

  commits_few : (y : StoredView V) → FewOf m y.vault → CommitsFew holds x y p e
  commits_few y few = record { few = subst (λ (r : Run). FewOf r y.vault) (sym run_is) few }

  -- ---- where nothing was put

  quiet_few : FewOf m x.vault
  quiet_few = λ c n d unit journal held_first of held_now commits to. record { changes = []; few = omega arith; held = held_now }

  -- ---- where the step was kept

  module _ (does : IsDone (step s p e).reply) (v : V) (keeps : KeepsStep view holds leaves x.vault v t.held t.units (numbered (must_persist s p e)) Going) where
    may_now : IsProcess s p
    may_now = record { first = may.first; last = rw is.sound.kept may.last }

    is_entry : IsEntry s m.history one
    is_entry = record { process = may_now; entered = enters_done s p e does; reply = refl; seq = refl }

    module _ (c : Content) (d : Durable) (of : IsOf c d m.origin) (kept : IsKeptFrom view holds leaves x d) where
      abbrev old : Durable
      old = durable d m.origin m.history

      abbrev new : Durable
      new = durable_after (must_persist s p e) old t

      kept_old : IsKeptOf s old
      kept_old = is_old view holds leaves laws x p e is going may c d of kept

      abbrev here : HoldsOf holds x.vault old
      here = held view holds leaves laws x p e is going may c d of kept

      new_is : durable d m.origin (m.history ++ one ∷ []) ≡ new
      new_is = done_is view holds leaves laws x p e is going may c d of kept does

      headers_new : HaveHeaders new
      headers_new = subst (λ (y : Durable). HaveHeaders y) new_is (kept_now view holds leaves laws x p e is going may c d of kept does v Going keeps refl).headers

      put_new : holds v (put_forced (numbered (must_persist s p e)) here.content new)
      put_new =
          subst (λ (y : Durable). holds v (put_forced (numbered (must_persist s p e)) here.content y)) (numbered_same laws s p e old kept_old does)
          (keeps.put refl here.content old t here.held (precedes view holds leaves laws x p e is going may c d of kept does v Going keeps))

      put_few : (unit : CommitUnit) (journal : ℕ) (commits : Commits s one unit) → journal_for_block s.held commits.block ≡ Some journal → PutsAtMost holds (commit_parts s p e journal) here.content v
      put_few unit journal commits to = record {
        changes = object_changes (numbered (must_persist s p e)) (get here.content) new;
        few = commit_laws.few s m.history one unit journal old here.content is_entry commits to kept_old (trails_old view holds leaves laws x p e is going may c d of kept) here.headers headers_new
            (short_old view holds leaves laws x p e is going may c d of kept) (subst (λ (y : Durable). BodiesAreShort y) new_is (short_new view holds leaves laws x p e is going may c d of kept)) here.stands;
        held = subst (λ (n : Content). holds v n) (put_alone (numbered (must_persist s p e)) here.content new (commit_laws.ceiling s m.history one unit journal old here.content is_entry commits to kept_old)) put_new;
      }

    kept_few : FewOf m v
    kept_few = λ c n d unit journal held_first of held_now commits to.
        let kept = is.kept c d held_first of in
        subst (λ (k : Content). PutsAtMost holds (commit_parts s p e journal) k v) (keeps.one (here c d of kept).content n (here c d of kept).held held_now) (put_few c d of kept unit journal commits to)

  -- ---- both

  abbrev stepped : StoredView V
  stepped = record { machine = after m m.moment p e; vault = x.vault; first = x.first; ending = x.ending }

  few_by : (y : StoredView V) (k : Ending) (asked : Asked) → IsDone (step s p e).reply → KeepsStep view holds leaves x.vault y.vault t.held t.units (numbered (must_persist s p e)) k → OnOk (answer_by k asked) (CommitsFew holds x y p e)
  few_by y Going asked does keeps = commits_few y (kept_few does y.vault keeps)
  few_by y Stopped asked does keeps = tt
  few_by y Wanting asked does keeps = tt

  few_kept : (y : StoredView V) (all : List Forced) (asked : Asked) (answer : Result Asked StepFault) → IsDone (step s p e).reply → all ≡ kept_anew s p e → IsKeptAfter view holds leaves stepped y all asked answer → OnOk answer (CommitsFew holds x y p e)
  few_kept y all asked answer does same kept =
      let anew : all ≡ must_persist s p e = same ∙ kept_done s p e is.state.room does in
      let state : stepped.machine.state ≡ t = ap (λ (r : Run). r.state) (after_entered m m.moment p e (enters_done s p e does)) in
      subst (λ (r : Result Asked StepFault). OnOk r (CommitsFew holds x y p e)) (sym kept.answered)
      (few_by y y.ending asked does
      (subst (λ (fs : List Forced). KeepsStep view holds leaves x.vault y.vault t.held t.units (numbered fs) y.ending) anew
      (subst (λ (u : State). KeepsStep view holds leaves x.vault y.vault u.held u.units (numbered all) y.ending) state kept.keeps)))

  pub few_settled : (y : StoredView V) (all : List Forced) (asked : Asked) (answer : Result Asked StepFault) → all ≡ kept_anew s p e → IsFlushed view holds leaves stepped y all asked answer → OnOk answer (CommitsFew holds x y p e)
  few_settled y [] asked answer same settled =
      subst (λ (r : Result Asked StepFault). OnOk r (CommitsFew holds x y p e)) (sym settled.1)
      (commits_few y (subst (λ (v : V). FewOf m v) (sym (ap (λ (z : StoredView V). z.vault) settled.0)) quiet_few))
  few_settled y (first ∷ more) asked answer same settled = few_kept y (first ∷ more) asked answer (takes view holds leaves laws x p e is going may asked first more same (is_done (step s p e).reply)) same settled
