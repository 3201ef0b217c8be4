-- Few bytes stay unforced and few units open where objects stay or are destroyed, and where units end.
use Rattle.std.proofs.Common.{◌≡◌, ◌∙◌, ℕ, ◌+◌, ◌*◌, ◌<◌, ◌≤◌, ◌==◌, Bool, true, false, cond, List, [], ◌∷◌, refl, sym, ap, arith}
use Rattle.std.proofs.lemmas.Bool.{cond_both}
use Rattle.std.proofs.lemmas.List.Elements.{All-head, All-tail}
use Rattle.std.specs.Option.{option_map}
use Rattle.std.specs.Prelude.{All, None, Option, Some, is_some}
use Rattle.s38_base.specs.declared.id.Kind.{Kind}
use Rattle.s38_commits.proofs.MapLaws.{nat_itself, nat_same}
use Rattle.s38_commits.specs.Unit.{CommitUnit}
use Rattle.s38_commits.specs.Units.{BlocksRise, UnitMap, ended, unit_of}
use Rattle.s38_commits.specs.declared.change.UnitChange.{UnitChange}
use Rattle.s38_journals.specs.Entries.{JournalRecord, journal_entry_len}
use Rattle.s38_journals.specs.Journals.{JournalList, appended, can_write}
use Rattle.s38_journals.specs.declared.entry.EntryKind.TheVariants.{Commit, Decommit}
use Rattle.s38_rules.specs.families.Changing.{most_units}
use Rattle.s38_rules.specs.families.Creation.{destroyed, is_of_kind}
use Rattle.s38_rules.specs.state.Held.{Held, object, without}
use Rattle.s38_rules.specs.state.Journaling.{block_port, block_port_in, is_journal, is_that_number, journal_for_block, journal_named, journal_of_port, open_units, unit_goes_to}
use Rattle.s38_rules.specs.state.Parts.{block_part, data_part, journal_part, part_at, part_in, port_part}
use Rattle.s38_rules.specs.state.PartsAt.{journal_at, on_data, on_journal, over_table}
use Rattle.s38_rules.specs.state.LawfulParts.{journal_lawful}
use Rattle.s38_rules.specs.state.State.{State}
use Rattle.s38_rules.specs.families.Units.{all_decommitted, all_undone, committed, decommitted, end_entry, end_written, journal_with_entry, put_back}
use Rattle.s38_rules.specs.declared.block.Block.{Block}
use Rattle.s38_rules.specs.declared.data_body.DataBody.{DataBody}
use Rattle.s38_rules.specs.declared.port.Port.{Port}
use Rattle.s38_laws_units.proofs.EndLaws.{block_by_data, block_by_journal, journal_by_data, port_by_data, port_by_journal}
use Rattle.s38_laws_units.proofs.HeldLaws.{Carries, part_over, part_without, Stays as Remains}
use Rattle.s38_laws_units.proofs.KeptLaws.{LastsAt, Spares, all_by, journal_number, open_kept, stays_grow, stays_last}
use Rattle.s38_laws_units.proofs.UnitLaws.{Both, IsFoundIn, count_ended, count_first, found_ended, one_if, rising_ended, tail_of}
use Rattle.s38_laws_units.specs.Right.{AreRight}
use Rattle.s38_laws_flush.specs.puts.Lengthening.{AreLonger, Lengthens}
use Rattle.s38_laws_flush.specs.puts.Unforced.{most_trailing}
use Rattle.s38_laws_flush.proofs.puts.ShapeLaws.{unforced_in}

-- the unit of each block goes where it went, or nowhere
abbrev pub Leads : Held → Held → Type 0
Leads h k = (block n : ℕ) → journal_for_block k block ≡ Some n → journal_for_block h block ≡ Some n

-- so no more are open in a journal space
pub few_open : (h k : Held) (units : UnitMap) (n : ℕ) → Leads h k → open_units k units n ≤ open_units h units n
few_open h k [] n leads = omega arith
few_open h k (e ∷ es) n leads =
    let rest = few_open h k es n leads in
    let one = here (journal_for_block k e.0) refl in
    omega (arith, count_first (unit_goes_to k n) e es, count_first (unit_goes_to h n) e es, rest, one)
  where
    own : (r : Option ℕ) → r ≡ Some n → one_if (is_that_number n r) ≡ 1
    own r is = ap (λ (x : Option ℕ). one_if (is_that_number n x)) is ∙ ap one_if (nat_itself n)

    most : (b : Bool) → one_if b ≤ 1
    most true = omega arith
    most false = omega arith

    here : (r : Option ℕ) → journal_for_block k e.0 ≡ r → one_if (is_that_number n r) ≤ one_if (unit_goes_to h n e)
    here None is = omega arith
    here (Some m) is = by (n == m) refl
      where
        by : (b : Bool) → (n == m) ≡ b → one_if b ≤ one_if (is_that_number n (journal_for_block h e.0))
        by true same =
            let to : journal_for_block k e.0 ≡ Some n = is ∙ ap (λ (i : ℕ). Some i) (sym (nat_same n m same)) in
            let full = own (journal_for_block h e.0) (leads e.0 n to) in
            omega (arith, full)
        by false other = omega arith

-- where blocks, ports and journal spaces stay
leads_by : (h k : Held) → ((n : ℕ) → part_at block_part k n ≡ part_at block_part h n) → ((n : ℕ) → part_at port_part k n ≡ part_at port_part h n) → ((n : ℕ) → is_journal k n ≡ is_journal h n)
    → (block : ℕ) → journal_for_block k block ≡ journal_for_block h block
leads_by h k blocks ports journals block = ap (λ (x : Option Block). journal_of_port k (block_port_in x)) (blocks block) ∙ ap (journal_named k) (ports (block_port h block)) ∙ by (part_at port_part h (block_port h block))
  where
    by : (x : Option Port) → journal_named k x ≡ journal_named h x
    by None = refl
    by (Some p) = ap (λ b. cond b (Some p.journal.0) None) (journals p.journal.0)

pub data_leads : (h : Held) (n : ℕ) (f : DataBody → DataBody) (block : ℕ) → journal_for_block (on_data h n f) block ≡ journal_for_block h block
data_leads h n f block = leads_by h (on_data h n f) (λ m. block_by_data h n m f) (λ m. port_by_data h n m f) (λ m. ap is_some (journal_by_data h n m f)) block

pub journal_leads : (h : Held) (n : ℕ) (f : JournalList → JournalList) (block : ℕ) → journal_for_block (on_journal h n f) block ≡ journal_for_block h block
journal_leads h n f block = leads_by h (on_journal h n f) (λ m. block_by_journal h n m f) (λ m. port_by_journal h n m f) (λ m. ap is_some (part_over journal_part journal_lawful h n m f) ∙ there (n == m) (part_at journal_part h m)) block
  where
    there : (b : Bool) (x : Option JournalList) → is_some (cond b (option_map f x) x) ≡ is_some x
    there true None = refl
    there true (Some j) = refl
    there false x = refl

pub undone_leads : (changes : List UnitChange) (h : Held) (block : ℕ) → journal_for_block (all_undone h changes) block ≡ journal_for_block h block
unfolding all_undone
undone_leads [] h block = refl
undone_leads (change ∷ newer) h block = data_leads (all_undone h newer) change.space.0 (over_table (put_back change)) block ∙ undone_leads newer h block

pub same_leads : (h k : Held) → ((block : ℕ) → journal_for_block k block ≡ journal_for_block h block) → Leads h k
same_leads h k same block n to = sym (same block) ∙ to

-- a journal space is another one
journal_bytes_at : (h : Held) (n m : ℕ) (f : JournalList → JournalList) → (journal_at (on_journal h n f) m).unforced ≡ unforced_in (cond (n == m) (option_map f (part_at journal_part h m)) (part_at journal_part h m))
journal_bytes_at h n m f = ap unforced_in (part_over journal_part journal_lawful h n m f)

pub other_bytes : (h : Held) (n m : ℕ) (f : JournalList → JournalList) → (n == m) ≡ false → (journal_at (on_journal h n f) m).unforced ≡ (journal_at h m).unforced
other_bytes h n m f off = journal_bytes_at h n m f ∙ ap (λ b. unforced_in (cond b (option_map f (part_at journal_part h m)) (part_at journal_part h m))) off

-- of some numbers that were given
module _ (P : ℕ → Type 0) (anew : ℕ → Bool) where
  pub record AreLowBut (h : Held) (units : UnitMap) : Type 0 where
    pub given : (n : ℕ) → P n → n < h.next
    pub opened : (n : ℕ) → open_units h units n ≤ most_units
    pub bytes : (n : ℕ) → P n → anew n ≡ false → (journal_at h n).unforced + 41 * open_units h units n ≤ most_trailing

  -- no more units are open, and no more bytes are unforced
  record StaysLow (h k : Held) (units : UnitMap) : Type 0 where
    pub next : h.next ≤ k.next
    pub opened : (n : ℕ) → open_units k units n ≤ open_units h units n
    pub bytes : (n : ℕ) → n < h.next → (journal_at k n).unforced ≤ (journal_at h n).unforced

  low_stays : (h k : Held) (units : UnitMap) → StaysLow h k units → AreLowBut h units → AreLowBut k units
  low_stays h k units stays low = record {
    given = λ n is. let one = low.given n is in let two = stays.next in omega (arith, one, two);
    opened = λ n. let one = low.opened n in let two = stays.opened n in omega (arith, one, two);
    bytes = λ n is old.
        let one = low.bytes n is old in
        let two = stays.opened n in
        let three = stays.bytes n (low.given n is) in
        omega (arith, one, two, three);
  }

  -- ---- what units name stays

  spared : (h k : Held) → Carries h k → (e : Both) → Spares h k e
  spared h k carries e = record {
    block = (carries.each e.0).block;
    port = (carries.each (block_port h e.0)).port;
    journal = stays_grow (part_at journal_part h (journal_number h e.0)) (part_at journal_part k (journal_number h e.0)) (carries.each (journal_number h e.0)).journal;
    changes = all_by (LastsAt h k) e.1.changes (λ c. stays_last (part_at data_part h c.space.0) (part_at data_part k c.space.0) (carries.each c.space.0).space);
  }

  pub carried_low : (h k : Held) (units : UnitMap) → AreRight h units → Carries h k → AreLonger h k → AreLowBut h units → AreLowBut k units
  carried_low h k units right carries longer low = low_stays h k units (record {
    next = longer.next;
    opened = λ n. let same = open_kept h k units n right.each (all_by (Spares h k) units (spared h k carries)) in omega (arith, same);
    bytes = λ n less. by (part_at journal_part h n) (part_at journal_part k n) (carries.each n).journal (longer.each n less);
  }) low
    where
      by : (x y : Option JournalList) → Remains x y → Lengthens x y → unforced_in y ≤ unforced_in x
      by None None stays lengthens = omega arith
      by None (Some y) stays lengthens = absurd lengthens
      by (Some x) y stays lengthens = let same = ap unforced_in stays in omega (arith, same)

  -- where each unit goes where it went, or nowhere, and journal spaces stay or are there no more
  led_low : (h k : Held) (units : UnitMap) → h.next ≤ k.next → Leads h k → ((n : ℕ) → (journal_at k n).unforced ≤ (journal_at h n).unforced) → AreLowBut h units → AreLowBut k units
  led_low h k units next leads bytes low = low_stays h k units (record { next = next; opened = λ n. few_open h k units n leads; bytes = λ n less. bytes n }) low

  pub data_low : (h : Held) (units : UnitMap) (n : ℕ) (f : DataBody → DataBody) → AreLowBut h units → AreLowBut (on_data h n f) units
  data_low h units n f low =
      led_low h (on_data h n f) units (omega arith) (same_leads h (on_data h n f) (data_leads h n f)) (λ m. let same = ap unforced_in (journal_by_data h n m f) in omega (arith, same)) low

  -- ---- an object is destroyed

  pub gone_low : (h : Held) (units : UnitMap) (kind : Kind) (n : ℕ) → object h 0 ≡ None → AreLowBut h units → AreLowBut (destroyed h kind n) units
  gone_low h units kind n none low = by (is_of_kind kind (object h n))
    where
      less : Held
      less = without h n

      port_old : (port : ℕ) (p : Port) → part_at port_part less port ≡ Some p → part_at port_part h port ≡ Some p
      port_old port p is = at (n == port) (part_at port_part h port) (sym (part_without port_part h n port) ∙ is)
        where
          at : (b : Bool) (x : Option Port) → cond b None x ≡ Some p → x ≡ Some p
          at true x e = cc
          at false x e = e

      journal_old : (m : ℕ) → is_journal less m ≡ true → is_journal h m ≡ true
      journal_old m is = at (n == m) (part_at journal_part h m) (sym (ap is_some (part_without journal_part h n m)) ∙ is)
        where
          at : (b : Bool) (x : Option JournalList) → is_some (cond b None x) ≡ true → is_some x ≡ true
          at true x e = let f : false ≡ true = e in cc
          at false x e = e

      named_old : (x : Option Port) (m : ℕ) → journal_named less x ≡ Some m → journal_named h x ≡ Some m
      named_old None m to = to
      named_old (Some p) m to = at (is_journal less p.journal.0) refl to
        where
          at : (b : Bool) → is_journal less p.journal.0 ≡ b → cond b (Some p.journal.0) None ≡ Some m → cond (is_journal h p.journal.0) (Some p.journal.0) None ≡ Some m
          at true is e = ap (λ b. cond b (Some p.journal.0) None) (journal_old p.journal.0 is) ∙ e
          at false is e = cc

      behind_old : (port m : ℕ) → journal_of_port less port ≡ Some m → journal_of_port h port ≡ Some m
      behind_old port m to = at (part_at port_part less port) refl to
        where
          at : (x : Option Port) → part_at port_part less port ≡ x → journal_named less x ≡ Some m → journal_of_port h port ≡ Some m
          at None is e = cc
          at (Some p) is e = ap (journal_named h) (port_old port p is) ∙ named_old (Some p) m e

      zero_none : (m : ℕ) → journal_of_port h 0 ≡ Some m → ⊥
      zero_none m to = let e : None ≡ Some m = sym (ap (λ r. journal_named h (part_in port_part r)) none) ∙ to in cc

      leads : Leads h less
      leads block m to = at (n == block) (part_without block_part h n block) (behind_old (block_port less block) m to)
        where
          at : (b : Bool) → part_at block_part less block ≡ cond b None (part_at block_part h block) → journal_of_port h (block_port less block) ≡ Some m → journal_for_block h block ≡ Some m
          at true is old = absurd (zero_none m (ap (λ (x : Option Block). journal_of_port h (block_port_in x)) (sym is) ∙ old))
          at false is old = ap (λ (x : Option Block). journal_of_port h (block_port_in x)) (sym is) ∙ old

      bytes : (m : ℕ) → (journal_at less m).unforced ≤ (journal_at h m).unforced
      bytes m = at (n == m) (part_at journal_part h m) (ap unforced_in (part_without journal_part h n m))
        where
          at : (b : Bool) (x : Option JournalList) → (journal_at less m).unforced ≡ unforced_in (cond b None x) → (journal_at less m).unforced ≤ unforced_in x
          at true x e = omega (arith, e)
          at false x e = omega (arith, e)

      by : (b : Bool) → AreLowBut (cond b less h) units
      by true = led_low h less units (omega arith) leads bytes low
      by false = low

  -- ---- a unit ends

  -- one less is open in its journal space
  ended_open : (h : Held) (units : UnitMap) (block : ℕ) (unit : CommitUnit) (n : ℕ) → unit_of units block ≡ Some unit → open_units h (ended units block) n + one_if (unit_goes_to h n (block, unit)) ≡ open_units h units n
  ended_open h units block unit n found = count_ended (unit_goes_to h n) units block unit found

  ended_low : (h : Held) (units : UnitMap) (block : ℕ) (unit : CommitUnit) → unit_of units block ≡ Some unit → AreLowBut h units → AreLowBut h (ended units block)
  ended_low h units block unit found low = record {
    given = low.given;
    opened = λ n. let one = low.opened n in let two = ended_open h units block unit n found in omega (arith, one, two);
    bytes = λ n is old. let one = low.bytes n is old in let two = ended_open h units block unit n found in omega (arith, one, two);
  }

  written_bytes : (entry : JournalRecord) (x : Option JournalList) → unforced_in (option_map (journal_with_entry entry) x) ≤ unforced_in x + journal_entry_len entry
  written_bytes entry None = omega arith
  written_bytes entry (Some j) = by (can_write j entry)
    where
      by : (b : Bool) → (cond b (appended j entry) j).unforced ≤ j.unforced + journal_entry_len entry
      by true = omega arith
      by false = omega arith

  -- its end is written, of which no byte counts twice: it was counted as the end of an open unit
  module _ (h : Held) (units : UnitMap) (block : ℕ) (unit : CommitUnit) (journal : ℕ) (entry : JournalRecord) (found : unit_of units block ≡ Some unit) (leads : journal_for_block h block ≡ Some journal) (long : journal_entry_len entry ≡ 41) where
    abbrev behind_end : Held
    behind_end = on_journal h journal (journal_with_entry entry)

    end_open : (n : ℕ) → open_units behind_end (ended units block) n ≤ open_units h (ended units block) n
    end_open n = few_open h behind_end (ended units block) n (same_leads h behind_end (journal_leads h journal (journal_with_entry entry)))

    end_bytes : (n : ℕ) → (b : Bool) → (journal == n) ≡ b → (journal_at behind_end n).unforced ≤ (journal_at h n).unforced + 41 * one_if (unit_goes_to h n (block, unit))
    end_bytes n true is =
        let same : journal ≡ n = nat_same journal n is in
        let goes : one_if (unit_goes_to h n (block, unit)) ≡ 1 = ap (λ (r : Option ℕ). one_if (is_that_number n r)) (leads ∙ ap (λ (i : ℕ). Some i) same) ∙ ap one_if (nat_itself n) in
        let at = journal_bytes_at h journal n (journal_with_entry entry) ∙ ap (λ b. unforced_in (cond b (option_map (journal_with_entry entry) (part_at journal_part h n)) (part_at journal_part h n))) is in
        let few = written_bytes entry (part_at journal_part h n) in
        omega (arith, goes, at, few, long)
    end_bytes n false off = let same = other_bytes h journal n (journal_with_entry entry) off in omega (arith, same)

    end_low : AreLowBut h units → AreLowBut behind_end (ended units block)
    end_low low = record {
      given = low.given;
      opened = λ n. let one = low.opened n in let two = ended_open h units block unit n found in let three = end_open n in omega (arith, one, two, three);
      bytes = λ n is old.
          let one = low.bytes n is old in
          let two = ended_open h units block unit n found in
          let three = end_open n in
          let four = end_bytes n (journal == n) refl in
          omega (arith, one, two, three, four);
    }

  end_written_low : (h : Held) (units : UnitMap) (block : ℕ) (unit : CommitUnit) (r : Option ℕ) (entry : JournalRecord) → unit_of units block ≡ Some unit → journal_for_block h block ≡ r → journal_entry_len entry ≡ 41
      → AreLowBut h units → AreLowBut (end_written h r entry) (ended units block)
  end_written_low h units block unit None entry found leads long low = ended_low h units block unit found low
  end_written_low h units block unit (Some journal) entry found leads long low = end_low h units block unit journal entry found leads long low

  undone_low : (changes : List UnitChange) (h : Held) (units : UnitMap) → AreLowBut h units → AreLowBut (all_undone h changes) units
  unfolding all_undone
  undone_low [] h units low = low
  undone_low (change ∷ newer) h units low = data_low (all_undone h newer) units change.space.0 (over_table (put_back change)) (undone_low newer h units low)

  pub committed_low : (s : State) (p block : ℕ) (unit : Option CommitUnit) → unit_of s.units block ≡ unit → AreLowBut s.held s.units → AreLowBut (committed s p block unit).held (committed s p block unit).units
  committed_low s p block None found low = low
  committed_low s p block (Some unit) found low = end_written_low s.held s.units block unit (journal_for_block s.held block) (end_entry Commit p unit) found refl refl low

  pub decommitted_low : (s : State) (p block : ℕ) (unit : Option CommitUnit) → unit_of s.units block ≡ unit → AreLowBut s.held s.units → AreLowBut (decommitted s p block unit).held (decommitted s p block unit).units
  decommitted_low s p block None found low = low
  decommitted_low s p block (Some unit) found low =
      end_written_low (all_undone s.held unit.changes) s.units block unit (journal_for_block s.held block) (end_entry Decommit p unit) found (undone_leads unit.changes s.held block) refl
      (undone_low unit.changes s.held s.units low)

  pub all_low : (units : UnitMap) (s : State) (p : ℕ) → BlocksRise s.units → BlocksRise units → All (IsFoundIn s.units) units → AreLowBut s.held s.units → AreLowBut (all_decommitted s p units).held (all_decommitted s p units).units
  unfolding all_decommitted
  all_low [] s p own rising stand low = low
  all_low (e ∷ es) s p own rising stand low =
      let taken = decommitted s p e.0 (Some e.1) in
      let done_with = decommitted_low s p e.0 (Some e.1) (All-head (IsFoundIn s.units) e es stand) low in
      let rest = All-tail (IsFoundIn s.units) e es stand in
      cond_both (e.1.process == p) taken s (λ (t : State). AreLowBut (all_decommitted t p es).held (all_decommitted t p es).units)
      (λ mine. all_low es taken p (rising_ended s.units e.0 own) (tail_of e es rising) (found_ended s.units es e own rising rest) done_with)
      (λ other. all_low es s p own (tail_of e es rising) rest low)
