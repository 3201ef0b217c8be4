-- Few bytes of a journal space are unforced after an event, and after a step.
use Rattle.std.proofs.Common.{◌≡◌, ◌∙◌, ℕ, ◌+◌, ◌*◌, ◌<◌, ◌≤◌, Bool, true, false, [], refl, sym, ap, subst, arith}
use Rattle.std.specs.List.{list_any}
use Rattle.std.specs.Prelude.{None, Option, Some, is_some}
use Rattle.s38_base.specs.Pointers.{start_of, target_of}
use Rattle.s38_code.specs.Operations.{family_of}
use Rattle.s38_code.specs.declared.event.Event.TheVariants.{Act, Finish, Start}
use Rattle.s38_code.specs.declared.event.Event.{Event}
use Rattle.s38_code.specs.declared.operand.Operand.TheVariants as operands
use Rattle.s38_code.specs.declared.operand.Operand.{Operand}
use Rattle.s38_code.specs.declared.reply.Val.{Val}
use Rattle.s38_laws_units.proofs.RowLaws.{done_right, row_may, value_carries}
use Rattle.s38_laws_units.proofs.UnitLaws.{each_found}
use Rattle.s38_laws_units.specs.Right.{IsRight}
use Rattle.s38_commits.specs.Units.{UnitMap}
use Rattle.s38_journals.specs.Journals.{JournalList}
use Rattle.s38_laws_flush.proofs.durable.GoesThenLaws.{object_given}
use Rattle.s38_laws_flush.proofs.durable.StepLaws.{IsDone, TakesEffect, step_goes, stored_same, takes_effect}
use Rattle.s38_laws_flush.specs.durable.Kept.{AreNumbered}
use Rattle.s38_rules.proofs.RoomLaws.{permitted_by_rules}
use Rattle.s38_rules.proofs.StoreLaws.{stored_beside}
use Rattle.s38_rules.proofs.VerdictLaws.{permitted_none}
use Rattle.s38_rules.specs.families.Changes.{done}
use Rattle.s38_rules.specs.families.Computing.{receiver_at, shift_at}
use Rattle.s38_rules.specs.step.Effect.{effect, effect_of, end_at, start_at}
use Rattle.s38_rules.specs.store.Forcing.{is_whole, must_persist}
use Rattle.s38_rules.specs.state.Held.{Held, disk_in, is_on_disk, object}
use Rattle.s38_rules.specs.state.Journaling.{open_units}
use Rattle.s38_rules.specs.ask.Receivers.{delivered}
use Rattle.s38_rules.specs.state.Parts.{journal_part, part_at}
use Rattle.s38_rules.specs.state.PartsAt.{journal_at}
use Rattle.s38_rules.specs.families.Rows.{row}
use Rattle.s38_rules.specs.state.State.{State, process_entry}
use Rattle.s38_rules.specs.step.Step.{awake_verdict, step}
use Rattle.s38_rules.specs.store.Storing.{stored}
use Rattle.s38_rules.specs.step.Verdict.{refused_by, ruled_verdict}
use Rattle.s38_rules.specs.declared.object.Object.{Object}
use Rattle.s38_rules.specs.declared.process.ProcessEntry.{ProcessEntry}
use Rattle.s38_rules.specs.declared.verdict.Verdict.TheVariants.{Permit}
use Rattle.s38_laws_flush.specs.puts.Fresh.{AreFresh}
use Rattle.s38_laws_flush.specs.puts.Unforced.{AreLow, most_trailing}
use Rattle.s38_laws_flush.proofs.puts.FreshLaws.{LeadToDisk, event_fresh, then_fresh}
use Rattle.s38_laws_flush.proofs.puts.LongerLaws.{value_longer}
use Rattle.s38_laws_flush.proofs.puts.LowLaws.{Covers, done_low}
use Rattle.s38_laws_flush.proofs.puts.LowUnitLaws.{AreLowBut, all_low, carried_low}
use Rattle.s38_laws_flush.proofs.puts.JournalPartsLaws.{SameEntries}
use Rattle.s38_laws_flush.proofs.puts.RowLaws.{row_open}
use Rattle.s38_laws_flush.proofs.puts.ShapeLaws.{unforced_in}
use Rattle.s38_laws_flush.proofs.puts.TrailLaws.{stored_other}
use Rattle.s38_laws_flush.proofs.puts.StoredEntryLaws.{stored_zero, stored_entries, stored_open}

module _ (P : ℕ → Type 0) (anew : ℕ → Bool) where
  value_low : (s : State) (shift : ℕ) (receiver : Option Operand) (v : Option Val) → IsRight s → AreLowBut P anew s.held s.units
      → AreLowBut P anew (delivered s shift receiver v).state.held (delivered s shift receiver v).state.units
  value_low s shift receiver None right low = low
  value_low s shift (Some (operands.InSpace base offset attr)) (Some v) right low =
      carried_low P anew s.held _ s.units right (value_carries s.held (target_of base) (start_of base offset + shift) v) (value_longer s.held (target_of base) (start_of base offset + shift) v) low
  value_low s shift _ (Some v) right low = low

  start_low : (s : State) (p : ℕ) (x : Option ProcessEntry) → AreLowBut P anew s.held s.units → AreLowBut P anew (start_at s p x).held (start_at s p x).units
  start_low s p None low = low
  start_low s p (Some x) low = low

  finish_low : (s : State) (p : ℕ) (x : Option ProcessEntry) → IsRight s → AreLowBut P anew s.held s.units → AreLowBut P anew (end_at s p x).held (end_at s p x).units
  finish_low s p None right low = low
  finish_low s p (Some x) right low = all_low P anew s.units s p right.rising right.rising (each_found s.units right.rising) low

  event_low : (s : State) (p : ℕ) (e : Event) → IsRight s → awake_verdict s p e ≡ Permit → Covers anew (must_persist s p e) → AreLowBut P anew s.held s.units
      → AreLowBut P anew (effect_of s p e).state.held (effect_of s p e).state.units
  unfolding effect_of effect ruled_verdict must_persist
  event_low s p Start right may cover low = start_low s p (process_entry s p) low
  event_low s p (Act d t) right may cover low =
      let x = (row t.op).changes s p d t in
      let met = permitted_none s p t (refused_by (row t.op) s p d t) (permitted_by_rules s p (Act d t) may) in
      let meets = row_may (family_of t.op) t.op s p d t right met in
      value_low (done s p x) (shift_at s.held t.op t.operands) (receiver_at t.op t.operands) ((row t.op).gives s p d t) (done_right x s p right meets)
      (done_low P anew x s p right meets (row_open (family_of t.op) t.op s p d t met) cover low)
  event_low s p (Finish cause) right may cover low = finish_low s p (process_entry s p) right low

disk_given : (h : Held) (n : ℕ) → AreNumbered h → is_on_disk h n ≡ true → n < h.next
disk_given h n are on = by (object h n) refl on
  where
    by : (x : Option Object) → object h n ≡ x → disk_in x ≡ true → n < h.next
    by None is on = absurd (let e : false ≡ true = on in cc)
    by (Some o) is on = object_given h n o are is

module _ (s : State) (p : ℕ) (e : Event) (right : IsRight s) (numbered_are : AreNumbered s.held) (some : is_some s.room ≡ true) (low : AreLow s.held s.units) (does : IsDone (step s p e).reply) where
  abbrev pub t : State
  t = (step s p e).state

  abbrev pub between : State
  between = (effect_of s p e).state

  abbrev pub behind : State
  behind = stored s p e between

  abbrev anew : ℕ → Bool
  anew n = list_any (is_whole n) (must_persist s p e)

  abbrev WasOnDisk : ℕ → Type 0
  WasOnDisk n = is_on_disk s.held n ≡ true

  pub takes : TakesEffect s t p e
  takes = takes_effect s p e does

  but : AreLowBut WasOnDisk anew between.held between.units
  but = event_low WasOnDisk anew s p e right takes.permit (λ n is. is) (record {
    given = λ n on. disk_given s.held n numbered_are on;
    opened = low.opened;
    bytes = λ n on old. low.bytes n on;
  })

  behind_low : ((n : ℕ) → anew n ≡ false → is_on_disk behind.held n ≡ true → is_on_disk s.held n ≡ true) → AreLow behind.held between.units
  behind_low disk = record {
    opened = λ n. let one = but.opened n in let two = stored_open s p e between n in omega (arith, one, two);
    bytes = λ n on. by n on (anew n) refl;
  }
    where
      by : (n : ℕ) → is_on_disk behind.held n ≡ true → (b : Bool) → anew n ≡ b → (journal_at behind.held n).unforced + 41 * open_units behind.held between.units n ≤ most_trailing
      by n on true is =
          let none = stored_zero s p e between n some is in
          let one = but.opened n in
          let two = stored_open s p e between n in
          omega (arith, none, one, two)
      by n on false is =
          let same = ap unforced_in (stored_other s p e between n is) in
          let one = but.bytes n (disk n is on) is in
          let two = stored_open s p e between n in
          omega (arith, same, one, two)

  pub step_low : AreLow t.held t.units
  step_low =
      let goes_on = step_goes s p e numbered_are does in
      let held : AreLow t.held between.units =
      subst (λ (h : Held). AreLow h between.units) (sym takes.held) (behind_low (λ n old on. goes_on.disk n old (ap (λ (h : Held). is_on_disk h n) takes.held ∙ on))) in
      subst (λ (us : UnitMap). AreLow t.held us) (sym (takes.units ∙ (stored_beside s p e between).units)) held

pub done_fresh : (s : State) (p : ℕ) (e : Event) → IsRight s → LeadToDisk s.held → AreFresh s.held → IsDone (step s p e).reply → AreFresh (step s p e).state.held
done_fresh s p e right lead fresh does n j is off =
    entries (part_at journal_part effected.held n) refl
    (subst (SameEntries (part_at journal_part effected.held n)) (sym (ap (λ (h : Held). part_at journal_part h n) takes_it.held) ∙ is) (stored_entries s p e effected n))
  where
    effected : State
    effected = (effect_of s p e).state

    takes_it : TakesEffect s (step s p e).state p e
    takes_it = takes_effect s p e does

    was_off : is_on_disk effected.held n ≡ false
    was_off = sym ((stored_same s p e effected).disk n) ∙ sym (ap (λ (h : Held). is_on_disk h n) takes_it.held) ∙ off

    entries : (r : Option JournalList) → part_at journal_part effected.held n ≡ r → SameEntries r (Some j) → j.entries ≡ []
    entries None seen h = absurd h
    entries (Some k) seen h = h ∙ then_fresh s.held effected.held (event_fresh s p e right takes_it.permit lead fresh) n k seen was_off
