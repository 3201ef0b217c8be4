-- Once the store is updated, journal spaces have the same entries and rows, and what was forced has none unforced.
use Rattle.std.proofs.Common.{◌≡◌, ◌∙◌, ℕ, ◌≤◌, ◌==◌, Bool, true, false, cond, List, [], ◌∷◌, refl, sym, ap, subst, arith}
use Rattle.std.specs.List.{list_any}
use Rattle.std.specs.Option.{option_map}
use Rattle.std.specs.Prelude.{◌||◌, None, Option, Some, is_some}
use Rattle.s38_code.specs.declared.event.Event.{Event}
use Rattle.s38_laws_units.proofs.HeldLaws.{part_over}
use Rattle.s38_journals.specs.Journals as journals
use Rattle.s38_journals.specs.Journals.{JournalList}
use Rattle.s38_laws_flush.proofs.durable.SameLaws.{seen_same}
use Rattle.s38_rules.proofs.StoreLaws.{stored_holds}
use Rattle.s38_rules.specs.store.Forcing.{Ceiling, Forced, Header as HeaderOf, Removed, Whole, is_whole, must_persist}
use Rattle.s38_rules.specs.state.Held.{Held}
use Rattle.s38_rules.specs.state.Journaling.{open_units}
use Rattle.s38_rules.specs.state.Parts.{journal_part, over_object, part_at}
use Rattle.s38_rules.specs.state.PartsAt.{journal_at, on_journal}
use Rattle.s38_rules.specs.state.LawfulParts.{journal_lawful}
use Rattle.s38_rules.specs.store.Room.{Room}
use Rattle.s38_rules.specs.state.State.{State}
use Rattle.s38_rules.specs.store.Storing.{all_kept, stored, stored_in}
use Rattle.s38_laws_flush.proofs.puts.LowUnitLaws.{few_open, journal_leads, same_leads}
use Rattle.s38_laws_flush.proofs.puts.JournalPartsLaws.{SameEntries}
use Rattle.s38_laws_flush.proofs.puts.ShapeLaws.{rows_at, rows_in, unforced_in}

zero_stays : (h : Held) (m n : ℕ) → (journal_at h n).unforced ≡ 0 → (journal_at (on_journal h m journals.forced) n).unforced ≡ 0
zero_stays h m n none = ap unforced_in (part_over journal_part journal_lawful h m n journals.forced) ∙ by (m == n) (part_at journal_part h n) none
  where
    by : (b : Bool) (x : Option JournalList) → unforced_in x ≡ 0 → unforced_in (cond b (option_map journals.forced x) x) ≡ 0
    by true None e = refl
    by true (Some j) e = refl
    by false x e = e

zero_kept : (all : List Forced) (h : Held) (n : ℕ) → (journal_at h n).unforced ≡ 0 → (journal_at (all_kept h all) n).unforced ≡ 0
unfolding all_kept
zero_kept [] h n none = none
zero_kept (Ceiling ∷ more) h n none = zero_kept more h n none
zero_kept (HeaderOf m ∷ more) h n none = zero_kept more h n none
zero_kept (Whole m ∷ more) h n none = zero_kept more (on_journal h m journals.forced) n (zero_stays h m n none)
zero_kept (Removed m ∷ more) h n none = zero_kept more h n none

kept_zero : (all : List Forced) (h : Held) (n : ℕ) → list_any (is_whole n) all ≡ true → (journal_at (all_kept h all) n).unforced ≡ 0
unfolding all_kept
kept_zero [] h n anew = cc
kept_zero (Ceiling ∷ more) h n anew = kept_zero more h n anew
kept_zero (HeaderOf m ∷ more) h n anew = kept_zero more h n anew
kept_zero (Removed m ∷ more) h n anew = kept_zero more h n anew
kept_zero (Whole m ∷ more) h n anew = by (m == n) refl anew (kept_zero more (on_journal h m journals.forced) n)
  where
    none : (x : Option JournalList) → unforced_in (option_map journals.forced x) ≡ 0
    none None = refl
    none (Some j) = refl

    by : (b : Bool) → (m == n) ≡ b → (b || list_any (is_whole n) more) ≡ true → (list_any (is_whole n) more ≡ true → (journal_at (all_kept (on_journal h m journals.forced) more) n).unforced ≡ 0)
        → (journal_at (all_kept (on_journal h m journals.forced) more) n).unforced ≡ 0
    by true is anew rest =
        zero_kept more (on_journal h m journals.forced) n
        (ap unforced_in (part_over journal_part journal_lawful h m n journals.forced) ∙ ap (λ b. unforced_in (cond b (option_map journals.forced (part_at journal_part h n)) (part_at journal_part h n))) is ∙ none (part_at journal_part h n))
    by false off anew rest = rest anew

stored_in_zero : (o : Option Room) (all : List Forced) (t : State) (n : ℕ) → is_some o ≡ true → list_any (is_whole n) all ≡ true → (journal_at (stored_in o all t).held n).unforced ≡ 0
stored_in_zero None all t n some anew = absurd (let e : false ≡ true = some in cc)
stored_in_zero (Some room) all t n some anew = kept_zero all t.held n anew

pub stored_zero : (s : State) (p : ℕ) (e : Event) (t : State) (n : ℕ) → is_some s.room ≡ true → list_any (is_whole n) (must_persist s p e) ≡ true → (journal_at (stored s p e t).held n).unforced ≡ 0
unfolding stored
stored_zero s p e t n some anew = stored_in_zero s.room (must_persist s p e) t n some anew

entries_forced : (h : Held) (m n : ℕ) → SameEntries (part_at journal_part h n) (part_at journal_part (on_journal h m journals.forced) n)
entries_forced h m n = subst (SameEntries (part_at journal_part h n)) (sym (part_over journal_part journal_lawful h m n journals.forced)) (by (m == n) (part_at journal_part h n))
  where
    by : (b : Bool) (x : Option JournalList) → SameEntries x (cond b (option_map journals.forced x) x)
    by true None = tt
    by true (Some j) = refl
    by false None = tt
    by false (Some j) = refl

entries_then : (x y z : Option JournalList) → SameEntries x y → SameEntries y z → SameEntries x z
entries_then None None None a b = tt
entries_then None None (Some z) a b = b
entries_then None (Some y) z a b = absurd a
entries_then (Some x) None z a b = absurd a
entries_then (Some x) (Some y) None a b = b
entries_then (Some x) (Some y) (Some z) a b = b ∙ a

entries_same : (x : Option JournalList) → SameEntries x x
entries_same None = tt
entries_same (Some j) = refl

pub stored_entries : (s : State) (p : ℕ) (e : Event) (t : State) (n : ℕ) → SameEntries (part_at journal_part t.held n) (part_at journal_part (stored s p e t).held n)
stored_entries s p e t n =
    stored_holds (λ (h : Held). SameEntries (part_at journal_part t.held n) (part_at journal_part h n))
    (λ h m so_far. entries_then (part_at journal_part t.held n) (part_at journal_part h n) _ so_far (entries_forced h m n)) s p e t (entries_same (part_at journal_part t.held n))

pub stored_rows : (s : State) (p : ℕ) (e : Event) (t : State) (n : ℕ) → rows_at (stored s p e t).held n ≡ rows_at t.held n
stored_rows s p e t n =
    stored_holds (λ (h : Held). rows_at h n ≡ rows_at t.held n) (λ h m so_far. seen_same rows_in h m n (over_object journal_part journals.forced) (λ x. refl) (λ x. refl) ∙ so_far) s p e t refl

pub stored_open : (s : State) (p : ℕ) (e : Event) (t : State) (n : ℕ) → open_units (stored s p e t).held t.units n ≤ open_units t.held t.units n
stored_open s p e t n =
    stored_holds (λ (h : Held). open_units h t.units n ≤ open_units t.held t.units n)
    (λ h m so_far. let few = few_open h (on_journal h m journals.forced) t.units n (same_leads h (on_journal h m journals.forced) (journal_leads h m journals.forced)) in omega (arith, few, so_far)) s p e t (omega arith)
