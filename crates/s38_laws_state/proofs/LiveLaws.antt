-- Step by step a process that has ended leaves nothing.
use Rattle.std.proofs.Common.{◌-◌, ◌<◌, ◌==◌, ◌∙◌, ◌∷◌, ◌≡◌, ◌≢◌, ◌&&◌, ◌||◌, ◌⊎◌, Bool, List, [], ap, arith, cond, false, inl, inr, not, refl, subst, sym, true, ℕ}
use Rattle.std.proofs.lemmas.Bool.{cond_both}
use Rattle.std.proofs.lemmas.Bool.Decides.{nat_tests}
use Rattle.std.proofs.lemmas.List.Elements.{All-cons, All-head, All-nil, All-tail, All-weaker}
use Rattle.std.specs.Prelude.{All, None, Option, Some, is_some}
use Rattle.s38_code.specs.Operations.{family_of}
use Rattle.s38_code.specs.declared.event.Event.TheVariants.{Act, Finish, Start}
use Rattle.s38_code.specs.declared.event.Event.{Event}
use Rattle.s38_code.specs.declared.event.Request.{Request}
use Rattle.s38_code.specs.declared.operand.Operand.TheVariants as operands
use Rattle.s38_code.specs.declared.operand.Operand.{Operand}
use Rattle.s38_code.specs.declared.reply.Val.{Val}
use Rattle.s38_laws_units.proofs.UnitLaws.{IsFoundIn, all_ended, each_found, rising_ended}
use Rattle.s38_commits.proofs.MapLaws.{at_key}
use Rattle.s38_commits.specs.Unit.{CommitUnit}
use Rattle.s38_commits.specs.Units.{BlocksRise, UnitMap, ended, unit_of, with_change_joined}
use Rattle.s38_commits.specs.declared.change.UnitChange.{UnitChange}
use Rattle.s38_locks.specs.Locks.{Lock}
use Rattle.s38_rules.proofs.RoomLaws.{permitted_by_rules, waits_by_rules}
use Rattle.s38_rules.proofs.StoreLaws.{stored_beside}
use Rattle.s38_rules.proofs.VerdictLaws.{permitted_none}
use Rattle.s38_rules.specs.families.Changes.{Changes, Committed, Decommitted, Entered, Framed, Locked, Then, done}
use Rattle.s38_rules.specs.families.Changing.{logged, logged_in, next_sequence, number_for}
use Rattle.s38_rules.specs.families.Computing.{receiver_at, shift_at}
use Rattle.s38_rules.specs.step.Effect.{effect, effect_of, end_at, start_at}
use Rattle.s38_rules.specs.state.Held.{Held}
use Rattle.s38_rules.specs.state.Invocations.{restack_at}
use Rattle.s38_rules.specs.state.Journaling.{journal_for}
use Rattle.s38_rules.specs.families.Locking.{is_going_in}
use Rattle.s38_rules.specs.ask.Receivers.{delivered}
use Rattle.s38_rules.specs.state.PartsAt.{journal_at}
use Rattle.s38_rules.specs.families.Rows.{row}
use Rattle.s38_rules.specs.state.State.{State, is_early, process_entry, waits}
use Rattle.s38_rules.specs.step.Step.{awake_verdict, by_verdict, by_waiting, step}
use Rattle.s38_rules.specs.store.Storing.{stored}
use Rattle.s38_rules.specs.families.Units.{all_decommitted, committed, decommitted}
use Rattle.s38_rules.specs.step.Verdict.{of_failure, refused_by, ruled_verdict, start_failure, start_verdict}
use Rattle.s38_rules.specs.declared.process.ProcessEntry.{ProcessEntry}
use Rattle.s38_rules.specs.declared.verdict.Verdict.TheVariants.{Permit, Refuse, Wait}
use Rattle.s38_rules.specs.declared.verdict.Verdict.{Verdict}
use Rattle.s38_laws_state.proofs.RowLaws.{AllAlive, May, in_family, locks_alive, row_may}
use Rattle.s38_laws_state.proofs.StatusLaws.{Spares, effect_alive}
use Rattle.s38_laws_state.proofs.OwnerLaws.{IsOfAnother, OfUnit, ended_other, joined_owned, joined_rising}
use Rattle.s38_laws_state.proofs.TableLaws.{OfEntry, released_held, with_entries}
use Rattle.s38_laws_state.specs.Live.{ComesFrom, IsAlive, IsLive, MayWait, is_open_in, is_pending_in}

-- ---- locks and units, and who of these processes they are of

-- locks and units are of processes for which something holds, and each block has one unit at most
pub record AreOf (P : ℕ → Type 0) (s : State) : Type 0 where
  pub locks : All (OfEntry (λ lock. P lock.0)) s.locks
  pub units : All (OfUnit P) s.units
  pub rising : BlocksRise s.units

pub weaker_of : (P Q : ℕ → Type 0) (s : State) → ((q : ℕ) → P q → Q q) → AreOf P s → AreOf Q s
weaker_of P Q s next of = record {
  locks = All-weaker (OfEntry (λ lock. P lock.0)) (OfEntry (λ lock. Q lock.0)) (λ e held. All-weaker (λ lock. P lock.0) (λ lock. Q lock.0) (λ lock own. next lock.0 own) e.1 held) s.locks of.locks;
  units = All-weaker (OfUnit P) (OfUnit Q) (λ e own. next e.1.process own) s.units of.units;
  rising = of.rising;
}

-- where neither locks nor units change
same_of : (P : ℕ → Type 0) (s t : State) → t.locks ≡ s.locks → t.units ≡ s.units → AreOf P s → AreOf P t
same_of P s t locks units of = record {
  locks = subst (λ (l : List (ℕ × List Lock)). All (OfEntry (λ lock. P lock.0)) l) (sym locks) of.locks;
  units = subst (λ (us : UnitMap). All (OfUnit P) us) (sym units) of.units;
  rising = subst BlocksRise (sym units) of.rising;
}

module _ (P : ℕ → Type 0) where
  ended_of : (s : State) (block : ℕ) (h : Held) → AreOf P s → AreOf P (record s { held = h; units = ended s.units block })
  ended_of s block h of = record { locks = of.locks; units = all_ended (OfUnit P) s.units block of.units; rising = rising_ended s.units block of.rising }

  committed_of : (s : State) (p block : ℕ) (unit : Option CommitUnit) → AreOf P s → AreOf P (committed s p block unit)
  committed_of s p block None of = of
  committed_of s p block (Some unit) of = ended_of s block _ of

  decommitted_of : (s : State) (p block : ℕ) (unit : Option CommitUnit) → AreOf P s → AreOf P (decommitted s p block unit)
  decommitted_of s p block None of = of
  decommitted_of s p block (Some unit) of = ended_of s block _ of

  behind_of : (s : State) (h : Held) (p block number : ℕ) (change : UnitChange) (b : Bool) → P p → AreOf P s
      → AreOf P (record s { held = h; units = cond b s.units (with_change_joined s.units block p number change) })
  behind_of s h p block number change true own of = record { locks = of.locks; units = of.units; rising = of.rising }
  behind_of s h p block number change false own of = record {
    locks = of.locks;
    units = joined_owned P s.units block p number change own of.units;
    rising = joined_rising s.units block p number change of.rising;
  }

  logged_of : (s : State) (p block : ℕ) (change : UnitChange) (journal : Option ℕ) → P p → AreOf P s → AreOf P (logged_in s p block change journal)
  logged_of s p block change None own of = of
  logged_of s p block change (Some journal) own of =
      behind_of s _ p block (number_for s.units block (next_sequence (journal_at s.held journal))) change (block == 0) own of

  entered_of : (s : State) (p block : ℕ) (change : UnitChange) (h : Held) → P p → AreOf P s → AreOf P (record (logged s p block change) { held = h })
  unfolding logged
  entered_of s p block change h own of =
      let of' = logged_of s p block change (journal_for s.held change.space.0) own of in
      record { locks = of'.locks; units = of'.units; rising = of'.rising }

  restacked_of : (f : _) (s : State) (p : ℕ) (x : Option ProcessEntry) → AreOf P s → AreOf P (restack_at f s p x)
  restacked_of f s p None of = of
  restacked_of f s p (Some x) of = record { locks = of.locks; units = of.units; rising = of.rising }

  held_of : (s : State) (h : Held) → AreOf P s → AreOf P (record s { held = h })
  held_of s h of = record { locks = of.locks; units = of.units; rising = of.rising }

  -- one case for each word of change
  pub done_of : (x : Changes) (s : State) (p : ℕ) → P p → AreOf P s → May (λ n held. All (λ lock. P lock.0) held) s p x → AreOf P (done s p x)
  done_of (Entered block change f) s p own of may = entered_of s p block change _ own of
  done_of (Framed f) s p own of may = restacked_of f s p (process_entry s p) of
  done_of (Locked n held) s p own of may = record { locks = with_entries (OfEntry (λ lock. P lock.0)) n held s.locks (λ some. may) of.locks; units = of.units; rising = of.rising }
  done_of (Committed block) s p own of may = committed_of s p block (unit_of s.units block) of
  done_of (Decommitted block) s p own of may = decommitted_of s p block (unit_of s.units block) of
  done_of (Then a b) s p own of may = done_of b (done s p a) p own (done_of a s p own of may.0) may.1
  done_of _ s p own of may = record { locks = of.locks; units = of.units; rising = of.rising }

  delivered_of : (s : State) (shift : ℕ) (receiver : Option Operand) (v : Option Val) → AreOf P s → AreOf P (delivered s shift receiver v).state
  delivered_of s shift receiver None of = of
  delivered_of s shift (Some (operands.InSpace base offset attr)) (Some v) of = record { locks = of.locks; units = of.units; rising = of.rising }
  delivered_of s shift _ (Some v) of = of

  pub act_of : (s : State) (p d : ℕ) (t : Request) → P p → AreOf P s → May (λ n held. All (λ lock. P lock.0) held) s p ((row t.op).changes s p d t) → AreOf P (effect (row t.op) s p d t).state
  unfolding effect
  act_of s p d t own of may =
      delivered_of (done s p ((row t.op).changes s p d t)) (shift_at s.held t.op t.operands) (receiver_at t.op t.operands) ((row t.op).gives s p d t)
      (done_of ((row t.op).changes s p d t) s p own of may)

  all_decommitted_of : (units : UnitMap) (s : State) (p : ℕ) → AreOf P s → AreOf P (all_decommitted s p units)
  unfolding all_decommitted
  all_decommitted_of [] s p of = of
  all_decommitted_of (e ∷ es) s p of =
      let taken = decommitted s p e.0 (Some e.1) in
      cond_both (e.1.process == p) taken s (λ (t : State). AreOf P (all_decommitted t p es))
      (λ own. all_decommitted_of es taken p (decommitted_of s p e.0 (Some e.1) of))
      (λ other. all_decommitted_of es s p of)

-- ---- the end of a process leaves no unit of it

all_both : {A : Type 0} (P Q R : A → Type 0) → ((x : A) → P x → Q x → R x) → (xs : List A) → All P xs → All Q xs → All R xs
all_both P Q R next [] p q = All-nil R
all_both P Q R next (x ∷ xs) p q = All-cons R x xs (next x (All-head P x xs p) (All-head Q x xs q)) (all_both P Q R next xs (All-tail P x xs p) (All-tail Q x xs q))

-- a unit is of another process
abbrev IsOthers : ℕ → ℕ × CommitUnit → Type 0
IsOthers p e = (e.1.process == p) ≡ false

-- it is of another process, or is still to be taken back
abbrev IsLeft : UnitMap → ℕ → ℕ × CommitUnit → Type 0
IsLeft units p e = IsOthers p e ⊎ (unit_of units e.0 ≡ Some e.1)

left_behind : (p : ℕ) (e : ℕ × CommitUnit) (es : UnitMap) (x : ℕ × CommitUnit) → ((e.0 == x.0) ≡ true → x.1 ≡ e.1 → IsOthers p x) → IsLeft (e ∷ es) p x → IsLeft es p x
left_behind p e es x same (inl other) = inl other
left_behind p e es x same (inr found) = by (e.0 == x.0) refl (sym (ap (λ b. cond b (Some e.1) (unit_of es x.0)) (at_key x.0 e.0)) ∙ found)
  where
    by : (b : Bool) → (e.0 == x.0) ≡ b → cond b (Some e.1) (unit_of es x.0) ≡ Some x.1 → IsLeft es p x
    by true is h = inl (same is (some_same x.1 e.1 (sym h)))
      where
        some_same : (a b : CommitUnit) → Some a ≡ Some b → a ≡ b
        some_same a b g = cc
    by false is h = inr h

turned : (a b : ℕ) → (a == b) ≡ false → (b == a) ≡ true → ⊥
turned a b h g = grind (arith, nat_tests)

all_taken : (units : UnitMap) (s : State) (p : ℕ) → BlocksRise s.units → All (IsLeft units p) s.units → All (IsOthers p) (all_decommitted s p units).units
unfolding all_decommitted
all_taken [] s p rising left = All-weaker (IsLeft [] p) (IsOthers p) others s.units left
  where
    others : (x : ℕ × CommitUnit) → IsLeft [] p x → IsOthers p x
    others x (inl other) = other
    others x (inr found) = absurd (none_some found)
      where
        none_some : None ≡ Some x.1 → ⊥
        none_some g = cc
all_taken (e ∷ es) s p rising left =
    let taken = decommitted s p e.0 (Some e.1) in
    cond_both (e.1.process == p) taken s (λ (t : State). All (IsOthers p) (all_decommitted t p es).units)
    (λ own. all_taken es taken p (rising_ended s.units e.0 rising)
    (all_both (IsLeft (e ∷ es) p) (IsOfAnother e.0) (IsLeft es p) (λ x still another. left_behind p e es x (λ is same. absurd (turned x.0 e.0 another is)) still)
    (ended s.units e.0) (all_ended (IsLeft (e ∷ es) p) s.units e.0 left) (ended_other s.units e.0 rising)))
    (λ other. all_taken es s p rising
    (All-weaker (IsLeft (e ∷ es) p) (IsLeft es p) (λ x still. left_behind p e es x (λ is same. subst (λ (u : CommitUnit). (u.process == p) ≡ false) (sym same) other) still) s.units left))

-- such processes, but the one that ended
abbrev AllBut : (ℕ → Type 0) → ℕ → ℕ → Type 0
AllBut P p q = P q × ((q == p) ≡ false)

end_of : (P : ℕ → Type 0) (s : State) (p : ℕ) (x : ProcessEntry) → AreOf P s → AreOf (AllBut P p) (end_at s p (Some x))
end_of P s p x of =
    let taken = all_decommitted_of P s.units s p of in
    record {
      locks = released_held (λ lock. P lock.0) (λ lock. AllBut P p lock.0) p (λ lock own other. (own, other)) (all_decommitted s p s.units).locks taken.locks;
      units = all_both (OfUnit P) (IsOthers p) (OfUnit (AllBut P p)) (λ e own other. (own, other)) (all_decommitted s p s.units).units taken.units
          (all_taken s.units s p of.rising (All-weaker (IsFoundIn s.units) (IsLeft s.units p) (λ e stands. inr stands) s.units (each_found s.units of.rising)));
      rising = taken.rising;
    }

-- ---- a step

-- locks and units are of processes that are alive, and those that wait may wait
pub record Lives (s : State) : Type 0 where
  pub of : AreOf (IsAlive s.processes) s
  pub waiting : All (MayWait s.processes) s.waiting

pub lives_from : (s : State) → IsLive s → BlocksRise s.units → Lives s
lives_from s live rising = record { of = record { locks = live.locks; units = live.units; rising = rising }; waiting = live.waiting }

pub is_live : (s : State) → Lives s → IsLive s
is_live s lives = record { locks = lives.of.locks; units = lives.of.units; waiting = lives.waiting }

-- what is alive is so after the effect, and so locks and units are
alive_behind : (s : State) (p : ℕ) (e : Event) (t : State) (P : ℕ → Type 0) → t ≡ (effect_of s p e).state → ((q : ℕ) → P q → IsAlive s.processes q × Spares p (q - 1) e) → AreOf P t → AreOf (IsAlive t.processes) t
alive_behind s p e t P is spared of =
    weaker_of P (IsAlive t.processes) t (λ q own. subst (λ (u : State). IsAlive u.processes q) (sym is) (effect_alive s p e q (spared q own).1 (spared q own).0)) of

places_apart : (p q : ℕ) → 0 < p → 0 < q → (q == p) ≡ false → q - 1 ≢ p - 1
places_apart p q one two apart same = absurd (grind (arith, nat_tests))

end_lives : (s : State) (p : ℕ) (e : Event) (x : Option ProcessEntry) → 0 < p → end_at s p x ≡ (effect_of s p e).state → ((j : ℕ) → j ≢ p - 1 → Spares p j e) → process_entry s p ≡ x
    → AreOf (IsAlive s.processes) s → AreOf (IsAlive (end_at s p x).processes) (end_at s p x)
end_lives s p e None first is spares there of = of
end_lives s p e (Some x) first is spares there of =
    alive_behind s p e (end_at s p (Some x)) (AllBut (IsAlive s.processes) p) is (λ q own. (own.0, spares (q - 1) (places_apart p q first own.0.first own.1))) (end_of (IsAlive s.processes) s p x of)

start_lives : (s : State) (p : ℕ) (e : Event) (x : Option ProcessEntry) → start_at s p x ≡ (effect_of s p e).state → ((j : ℕ) → Spares p j e)
    → AreOf (IsAlive s.processes) s → AreOf (IsAlive (start_at s p x).processes) (start_at s p x)
start_lives s p e None is spares of = of
start_lives s p e (Some x) is spares of =
    alive_behind s p e (start_at s p (Some x)) (IsAlive s.processes) is (λ q own. (own, spares (q - 1))) (record { locks = of.locks; units = of.units; rising = of.rising })

effect_lives : (s : State) (p : ℕ) (e : Event) → 0 < p → ComesFrom s.processes p e → Lives s → awake_verdict s p e ≡ Permit → AreOf (IsAlive (effect_of s p e).state.processes) (effect_of s p e).state
unfolding effect_of ruled_verdict
effect_lives s p Start first comes lives may = start_lives s p Start (process_entry s p) refl (λ j. tt) lives.of
effect_lives s p (Act d t) first comes lives may =
    let none = permitted_none s p t (refused_by (row t.op) s p d t) (permitted_by_rules s p (Act d t) may) in
    alive_behind s p (Act d t) (effect_of s p (Act d t)).state (IsAlive s.processes) refl (λ q own. (own, tt))
    (act_of (IsAlive s.processes) s p d t comes lives.of (row_may (AllAlive s.processes) (family_of t.op) t.op s p d t (λ is. locks_alive t.op s p d t (is_live s lives) comes (in_family (family_of t.op) t.op s p d t is none))))
effect_lives s p (Finish cause) first comes lives may = end_lives s p (Finish cause) (process_entry s p) first refl (λ j away. away) refl lives.of

-- ---- who waits

both_true : (a b : Bool) → a ≡ true → b ≡ true → (a && b) ≡ true
both_true true b h g = g
both_true false b h g = cc

or_second : (a b : Bool) → b ≡ true → (a || b) ≡ true
or_second true b h = refl
or_second false b h = h

or_first : (a b : Bool) → a ≡ true → (a || b) ≡ true
or_first true b h = refl
or_first false b h = cc

-- a start waits for an earlier stage
start_early : (s : State) (p : ℕ) (o : Option ProcessEntry) → start_verdict s p o ≡ Wait → is_open_in o ≡ true → is_pending_in s.processes o ≡ true
start_early s p None waits going = cc
start_early s p (Some x) waits going = both_true (not x.ended) _ going (or_second (is_some x.started) _ (by (is_early s.processes x.job.stage) waits))
  where
    no_wait : (o : Option _) → of_failure o ≡ Wait → ⊥
    no_wait None h = cc
    no_wait (Some y) h = cc

    by : (b : Bool) → cond b Wait (of_failure (start_failure s.held x.job)) ≡ Wait → b ≡ true
    by true h = refl
    by false h = absurd (no_wait (start_failure s.held x.job) h)

alive_stands : (xs : List ProcessEntry) (o : Option ProcessEntry) → is_going_in o ≡ true → is_pending_in xs o ≡ true
alive_stands xs None h = cc
alive_stands xs (Some x) h = by (is_some x.started) (not x.ended) h
  where
    by : (a b : Bool) → (a && b) ≡ true → (b && (a || is_early xs x.job.stage)) ≡ true
    by true true h = refl
    by true false h = cc
    by false b h = cc

ruled_waits : (s : State) (p : ℕ) (e : Event) → 0 < p → ComesFrom s.processes p e → ruled_verdict s p e ≡ Wait → MayWait s.processes p
unfolding ruled_verdict
ruled_waits s p Start first comes waits = record { first = first; standing = start_early s p (process_entry s p) waits comes }
ruled_waits s p (Act d t) first comes waits = record { first = first; standing = alive_stands s.processes (process_entry s p) comes.going }
ruled_waits s p (Finish cause) first comes waits = cc

verdict_lives : (s : State) (p : ℕ) (e : Event) (v : Verdict) → 0 < p → ComesFrom s.processes p e → Lives s → awake_verdict s p e ≡ v → Lives (by_verdict s p e v).state
verdict_lives s p e Permit first comes lives is =
    let t = (effect_of s p e).state in
    let beside = stored_beside s p e t in
    let of = same_of (IsAlive t.processes) t (stored s p e t) beside.locks beside.units (effect_lives s p e first comes lives is) in
    let all = subst (λ (xs : List ProcessEntry). AreOf (IsAlive xs) (stored s p e t)) (sym beside.processes) of in
    record { of = record { locks = all.locks; units = all.units; rising = all.rising }; waiting = All-nil (MayWait (stored s p e t).processes) }
verdict_lives s p e Wait first comes lives is = record {
  of = record { locks = lives.of.locks; units = lives.of.units; rising = lives.of.rising };
  waiting = All-cons (MayWait s.processes) p s.waiting (ruled_waits s p e first comes (waits_by_rules s p e is)) lives.waiting;
}
verdict_lives s p e (Refuse x) first comes lives is = lives

pub step_lives : (s : State) (p : ℕ) (e : Event) → 0 < p → ComesFrom s.processes p e → Lives s → Lives (step s p e).state
unfolding step
step_lives s p e first comes lives = by (waits s p)
  where
    by : (b : Bool) → Lives (by_waiting b s p e).state
    by true = lives
    by false = verdict_lives s p e (awake_verdict s p e) first comes lives refl

pub live_step : (s : State) (p : ℕ) (e : Event) → IsLive s → BlocksRise s.units → 0 < p → ComesFrom s.processes p e → IsLive (step s p e).state
live_step s p e live rising first comes = is_live (step s p e).state (step_lives s p e first comes (lives_from s live rising))
