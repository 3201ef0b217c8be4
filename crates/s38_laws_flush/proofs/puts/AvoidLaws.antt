-- An entry is written in a journal space on disk, and all other journal spaces stay.
use Rattle.std.proofs.Common.{◌≡◌, ◌∙◌, ℕ, ◌==◌, Bool, true, false, cond, List, [], ◌∷◌, refl, sym, ap, subst}
use Rattle.std.proofs.lemmas.Bool.{cond_both}
use Rattle.std.proofs.lemmas.List.Elements.{All-cons, All-head, All-nil, All-tail}
use Rattle.std.specs.Option.{option_map}
use Rattle.std.specs.Prelude.{All, None, Option, Some}
use Rattle.s38_commits.proofs.MapLaws.{nat_same}
use Rattle.s38_commits.specs.Unit.{CommitUnit}
use Rattle.s38_commits.specs.Units.{UnitMap}
use Rattle.s38_commits.specs.declared.change.UnitChange.{UnitChange}
use Rattle.s38_journals.specs.Entries.{JournalRecord}
use Rattle.s38_journals.specs.Journals.{JournalList}
use Rattle.s38_journals.specs.declared.entry.EntryKind.TheVariants.{Commit, Decommit}
use Rattle.s38_rules.specs.state.Held.{Held, change, disk_in, is_on_disk}
use Rattle.s38_rules.specs.state.Journaling.{journal_for_block}
use Rattle.s38_rules.specs.state.Parts.{data_part, journal_part, over_object, part_at}
use Rattle.s38_rules.specs.state.PartsAt.{on_data, on_journal, over_table}
use Rattle.s38_rules.specs.state.LawfulParts.{data_lawful, journal_lawful}
use Rattle.s38_rules.specs.state.State.{State}
use Rattle.s38_rules.specs.families.Units.{all_decommitted, all_undone, committed, decommitted, end_entry, end_written, journal_with_entry, put_back}
use Rattle.s38_laws_units.proofs.HeldLaws.{part_over}
use Rattle.s38_laws_units.proofs.UnitLaws.{Both}
use Rattle.s38_laws_flush.proofs.durable.SameLaws.{seen_same}
use Rattle.s38_laws_flush.proofs.puts.LowUnitLaws.{journal_leads, undone_leads}
use Rattle.s38_laws_flush.proofs.puts.ShapeLaws.{other_beside}

-- beside numbers of some journal spaces all stays
module _ (P : ℕ → Type 0) where
  pub record Besides (h k : Held) : Type 0 where
    pub spaces : (n : ℕ) → P n → part_at journal_part k n ≡ part_at journal_part h n
    pub disk : (n : ℕ) → is_on_disk k n ≡ is_on_disk h n

  pub besides_same : (h : Held) → Besides h h
  besides_same h = record { spaces = λ n is. refl; disk = λ n. refl }

  pub besides_then : (h j k : Held) → Besides h j → Besides j k → Besides h k
  besides_then h j k a b = record { spaces = λ n is. b.spaces n is ∙ a.spaces n is; disk = λ n. b.disk n ∙ a.disk n }

  pub data_besides : (h : Held) (n : ℕ) (f : _) → Besides h (on_data h n f)
  data_besides h n f = let same = other_beside data_part data_lawful (λ x. refl) h n f in record { spaces = λ m is. same.journals m; disk = λ m. same.disk m }

  pub journal_besides : (h : Held) (n : ℕ) (f : JournalList → JournalList) → (P n → ⊥) → Besides h (on_journal h n f)
  journal_besides h n f not = record {
    spaces = λ m is. part_over journal_part journal_lawful h n m f ∙ ap (λ b. cond b (option_map f (part_at journal_part h m)) (part_at journal_part h m)) (other m is (n == m) refl);
    disk = λ m. seen_same disk_in h n m (over_object journal_part f) (λ x. refl) (λ x. refl);
  }
    where
      other : (m : ℕ) → P m → (b : Bool) → (n == m) ≡ b → b ≡ false
      other m is true same = absurd (not (subst P (sym (nat_same n m same)) is))
      other m is false off = refl

  end_besides : (h : Held) (r : Option ℕ) (entry : JournalRecord) → ((journal : ℕ) → r ≡ Some journal → P journal → ⊥) → Besides h (end_written h r entry)
  end_besides h None entry not = besides_same h
  end_besides h (Some journal) entry not = journal_besides h journal (journal_with_entry entry) (not journal refl)

  undone_besides : (changes : List UnitChange) (h : Held) → Besides h (all_undone h changes)
  unfolding all_undone
  undone_besides [] h = besides_same h
  undone_besides (change ∷ newer) h = besides_then h (all_undone h newer) _ (undone_besides newer h) (data_besides (all_undone h newer) change.space.0 (over_table (put_back change)))

  -- the unit of a block goes to no such journal space
  abbrev pub Avoids : Held → Both → Type 0
  Avoids h e = (journal : ℕ) → journal_for_block h e.0 ≡ Some journal → P journal → ⊥

  pub committed_besides : (s : State) (p block : ℕ) (unit : Option CommitUnit) → ((u : CommitUnit) → unit ≡ Some u → Avoids s.held (block, u)) → Besides s.held (committed s p block unit).held
  committed_besides s p block None avoids = besides_same s.held
  committed_besides s p block (Some unit) avoids = end_besides s.held (journal_for_block s.held block) (end_entry Commit p unit) (avoids unit refl)

  pub decommitted_besides : (s : State) (p block : ℕ) (unit : Option CommitUnit) → ((u : CommitUnit) → unit ≡ Some u → Avoids s.held (block, u)) → Besides s.held (decommitted s p block unit).held
  decommitted_besides s p block None avoids = besides_same s.held
  decommitted_besides s p block (Some unit) avoids =
      besides_then s.held (all_undone s.held unit.changes) _ (undone_besides unit.changes s.held)
      (end_besides (all_undone s.held unit.changes) (journal_for_block s.held block) (end_entry Decommit p unit) (avoids unit refl))

  decommitted_leads : (s : State) (p block : ℕ) (unit : Option CommitUnit) (b : ℕ) → journal_for_block (decommitted s p block unit).held b ≡ journal_for_block s.held b
  decommitted_leads s p block None b = refl
  decommitted_leads s p block (Some unit) b = by (journal_for_block s.held block) ∙ undone_leads unit.changes s.held b
    where
      by : (r : Option ℕ) → journal_for_block (end_written (all_undone s.held unit.changes) r (end_entry Decommit p unit)) b ≡ journal_for_block (all_undone s.held unit.changes) b
      by None = refl
      by (Some journal) = journal_leads (all_undone s.held unit.changes) journal (journal_with_entry (end_entry Decommit p unit)) b

  avoids_on : (h k : Held) (es : UnitMap) → ((b : ℕ) → journal_for_block k b ≡ journal_for_block h b) → All (Avoids h) es → All (Avoids k) es
  avoids_on h k [] leads all = All-nil (Avoids k)
  avoids_on h k (e ∷ es) leads all =
      All-cons (Avoids k) e es (λ journal to is. All-head (Avoids h) e es all journal (sym (leads e.0) ∙ to) is) (avoids_on h k es leads (All-tail (Avoids h) e es all))

  some_same : (u v : CommitUnit) → Some u ≡ Some v → u ≡ v
  some_same u v e = cc

  pub all_besides : (units : UnitMap) (s : State) (p : ℕ) → All (Avoids s.held) units → Besides s.held (all_decommitted s p units).held
  unfolding all_decommitted
  all_besides [] s p avoid = besides_same s.held
  all_besides (e ∷ es) s p avoid =
      let taken = decommitted s p e.0 (Some e.1) in
      let one : Avoids s.held e = All-head (Avoids s.held) e es avoid in
      let here = decommitted_besides s p e.0 (Some e.1) (λ u is. one) in
      let rest = All-tail (Avoids s.held) e es avoid in
      cond_both (e.1.process == p) taken s (λ (t : State). Besides s.held (all_decommitted t p es).held)
      (λ mine. besides_then s.held taken.held _ here (all_besides es taken p (avoids_on s.held taken.held es (decommitted_leads s p e.0 (Some e.1)) rest)))
      (λ other. all_besides es s p rest)
