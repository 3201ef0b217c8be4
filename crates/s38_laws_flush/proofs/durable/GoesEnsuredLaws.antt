-- Numbers, kinds, the ceiling and what is on disk go on where an object is ensured; all that is forced was given.
use Rattle.std.proofs.Common.{◌≡◌, ◌∙◌, ◌⊎◌, ℕ, ◌<◌, ◌==◌, Bool, true, false, cond, not, inl, inr, List, [], ◌∷◌, map, refl, sym, ap, subst, arith}
use Rattle.std.specs.List.Sorted.{IsStrictlyIncreasing}
use Rattle.std.specs.Option.{option_map}
use Rattle.std.specs.Prelude.{◌&&◌, ◌||◌, All, None, Option, Some, is_some, nat_lt}
use Rattle.s38_base.specs.declared.id.Kind.{Kind}
use Rattle.s38_commits.proofs.MapLaws.{nat_same}
use Rattle.s38_commits.specs.Unit.{CommitUnit}
use Rattle.s38_durable_state.specs.Following.{object_number}
use Rattle.s38_laws_objects.specs.Outline.{is_forced}
use Rattle.s38_rules.proofs.ChargeLaws.{object_changed}
use Rattle.s38_rules.specs.families.Creation.{is_of_kind}
use Rattle.s38_rules.specs.store.Forcing.{Header, Removed, Whole, commit_forces, followed, forced_removal, overdue, whole_if}
use Rattle.s38_rules.specs.state.Held.{Held, change, disk_in, is_on_disk, kept_on_disk, object}
use Rattle.s38_rules.specs.state.Journaling.{block_port, data_port, is_journal, journal_for, journal_named, journal_of_port}
use Rattle.s38_rules.specs.state.Parts.{journal_part, part_at, part_in, port_part}
use Rattle.s38_rules.specs.state.PartsAt.{journal_at}
use Rattle.s38_rules.specs.declared.object.Object.{Object}
use Rattle.s38_rules.specs.declared.port.Port.{Port}
use Rattle.s38_laws_flush.specs.durable.Kept.{AreNumbered}
use Rattle.s38_laws_flush.proofs.durable.SameLaws.{change_numbers, kind_at, kind_in, seen_same}
use Rattle.s38_laws_flush.proofs.durable.GoesThenLaws.{Goes, both_false, either_true, object_given}

-- what is so of each object that is there
module _ (h : Held) (P : ℕ → Type 0) (there : (n : ℕ) (o : Object) → object h n ≡ Some o → P n) where
  disk_meets : (n : ℕ) → is_on_disk h n ≡ true → P n
  disk_meets n on = by (object h n) refl on
    where
      by : (x : Option Object) → object h n ≡ x → disk_in x ≡ true → P n
      by None is on = absurd (let e : false ≡ true = on in cc)
      by (Some o) is on = there n o is

  journal_meets : (n : ℕ) → is_journal h n ≡ true → P n
  journal_meets n is = by (object h n) refl is
    where
      by : (x : Option Object) → object h n ≡ x → is_some (part_in journal_part x) ≡ true → P n
      by None found is = absurd (let e : false ≡ true = is in cc)
      by (Some o) found is = there n o found

  pub port_journal_meets : (port journal : ℕ) → journal_of_port h port ≡ Some journal → P journal
  port_journal_meets port journal to = by (part_at port_part h port) to
    where
      named : (b : Bool) (n : ℕ) → is_journal h n ≡ b → cond b (Some n) None ≡ Some journal → P journal
      named true n found e = let same : n ≡ journal = cc in subst P same (journal_meets n found)
      named false n found e = cc

      by : (x : Option Port) → journal_named h x ≡ Some journal → P journal
      by None to = cc
      by (Some p) to = named (is_journal h p.journal.0) p.journal.0 refl to

  -- ---- what is forced

  pub one_meets : (n m : ℕ) → ((m == n) || false) ≡ true → P m → P n
  one_meets n m is holds = by (m == n) refl is
    where
      by : (b : Bool) → (m == n) ≡ b → (b || false) ≡ true → P n
      by true same is = subst P (nat_same m n same) holds
      by false other is = cc

  pub followed_meets : (m n : ℕ) → is_forced n (followed h m) ≡ true → P n
  followed_meets m n is = by (is_on_disk h m) refl is
    where
      by : (b : Bool) → is_on_disk h m ≡ b → is_forced n (cond b (Header m ∷ []) []) ≡ true → P n
      by true on is = one_meets n m is (disk_meets m on)
      by false off is = cc

  pub removed_meets : (kind : Kind) (m n : ℕ) → is_forced n (forced_removal h kind m) ≡ true → P n
  removed_meets kind m n is = by (is_of_kind kind (object h m)) (is_on_disk h m) refl is
    where
      by : (a b : Bool) → is_on_disk h m ≡ b → is_forced n (cond (a && b) (Removed m ∷ []) []) ≡ true → P n
      by true true on is = one_meets n m is (disk_meets m on)
      by true false on is = cc
      by false true on is = cc
      by false false on is = cc

  pub whole_meets : (port n : ℕ) → is_forced n (whole_if (journal_of_port h port)) ≡ true → P n
  whole_meets port n is = by (journal_of_port h port) refl is
    where
      by : (r : Option ℕ) → journal_of_port h port ≡ r → is_forced n (whole_if r) ≡ true → P n
      by None to is = cc
      by (Some m) to is = one_meets n m is (port_journal_meets port m to)

  pub overdue_meets : (k : Held) (port n : ℕ) → is_forced n (overdue k (journal_of_port h port)) ≡ true → P n
  overdue_meets k port n is = by (journal_of_port h port) refl is
    where
      due : (m : ℕ) (b : Bool) → journal_of_port h port ≡ Some m → is_forced n (cond b (Whole m ∷ []) []) ≡ true → P n
      due m true to is = one_meets n m is (port_journal_meets port m to)
      due m false to is = cc

      by : (r : Option ℕ) → journal_of_port h port ≡ r → is_forced n (overdue k r) ≡ true → P n
      by None to is = cc
      by (Some m) to is = due m (nat_lt 32768 (journal_at k m).unforced) to is

  pub commit_meets : (block n : ℕ) (r : Option CommitUnit) → is_forced n (commit_forces h block r) ≡ true → P n
  commit_meets block n None is = cc
  commit_meets block n (Some unit) is = whole_meets (block_port h block) n is

-- what is there was given
abbrev pub given_by : (h : Held) → AreNumbered h → (n : ℕ) (o : Object) → object h n ≡ Some o → n < h.next
given_by h are = λ n o found. object_given h n o are found

abbrev pub IsGiven : Held → ℕ → Type 0
IsGiven h n = n < h.next

pub one_forced : (n m next : ℕ) → ((m == n) || false) ≡ true → m < next → n < next
one_forced n m next is less = by (m == n) refl is
  where
    by : (b : Bool) → (m == n) ≡ b → (b || false) ≡ true → n < next
    by true same is = subst (λ (k : ℕ). k < next) (nat_same m n same) less
    by false other is = cc

pub followed_given : (h : Held) (m n : ℕ) → AreNumbered h → is_forced n (followed h m) ≡ true → n < h.next
followed_given h m n are is = followed_meets h (IsGiven h) (given_by h are) m n is

pub removed_given : (h : Held) (kind : Kind) (m n : ℕ) → AreNumbered h → is_forced n (forced_removal h kind m) ≡ true → n < h.next
removed_given h kind m n are is = removed_meets h (IsGiven h) (given_by h are) kind m n is

pub ensured_goes : (h : Held) (m : ℕ) → AreNumbered h → m < h.next → Goes (Whole m ∷ whole_if (journal_for h m)) h (change h m kept_on_disk)
ensured_goes h m are given = record {
  numbered = record {
    rising = subst (λ (ns : List ℕ). IsStrictlyIncreasing ns) (sym numbers) are.rising;
    given = subst (λ (ns : List ℕ). All (λ n. n < h.next) ns) (sym numbers) are.given;
    none = no_object (object (change h m kept_on_disk) 0) (kinds 0 ∙ ap kind_in are.none);
    first = are.first;
    within = are.within;
    low = are.low;
  };
  next = omega arith;
  kinds = λ n less. inr (kinds n);
  disk = λ n not on. by n (m == n) refl (both_false _ _ not).0 on;
  ceiling = λ not. refl;
  forced = λ n is. either n (either_true _ _ is);
}
  where
    numbers : map object_number (change h m kept_on_disk).objects ≡ map object_number h.objects
    numbers = change_numbers h m kept_on_disk (λ x. refl)

    kinds : (n : ℕ) → kind_at (change h m kept_on_disk) n ≡ kind_at h n
    kinds n = seen_same kind_in h m n kept_on_disk (λ x. refl) (λ x. refl)

    no_object : (x : Option Object) → kind_in x ≡ None → x ≡ None
    no_object None e = refl
    no_object (Some o) e = cc

    by : (n : ℕ) (b : Bool) → (m == n) ≡ b → b ≡ false → is_on_disk (change h m kept_on_disk) n ≡ true → is_on_disk h n ≡ true
    by n true is off on = cc
    by n false is off on = sym (ap disk_in (object_changed m n kept_on_disk h.objects (λ x. refl)) ∙ ap (λ b. disk_in (cond b (option_map kept_on_disk (object h n)) (object h n))) is) ∙ on

    own : (n : ℕ) (b : Bool) → (m == n) ≡ b → b ≡ true → n < h.next
    own n true is e = subst (λ (k : ℕ). k < h.next) (nat_same m n is) given
    own n false is e = cc

    either : (n : ℕ) → ((m == n) ≡ true) ⊎ (is_forced n (whole_if (journal_for h m)) ≡ true) → n < h.next
    either n (inl e) = own n (m == n) refl e
    either n (inr e) = whole_meets h (IsGiven h) (given_by h are) (data_port h m) n e
