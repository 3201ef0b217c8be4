-- What journal spaces tell, and what is kept, where what they speak of stays, and where an entry is written.
use Rattle.std.proofs.Common.{◌≡◌, ◌∙◌, ◌⊎◌, ◌<◌, ℕ, ◌==◌, Bool, true, false, inl, inr, List, [], ◌∷◌, ◌++◌, length, refl, sym, ap, subst}
use Rattle.std.specs.Prelude.{Some}
use Rattle.s38_commits.proofs.MapLaws.{nat_same}
use Rattle.s38_commits.specs.Changes.{has_change}
use Rattle.s38_commits.specs.Unit.{CommitUnit}
use Rattle.s38_commits.specs.Units.{UnitMap, unit_of}
use Rattle.s38_dataspaces.specs.Entries.{entry_at}
use Rattle.s38_dataspaces.specs.Table.{DataTable}
use Rattle.s38_durable_state.specs.Durable.{Durable}
use Rattle.s38_journals.specs.Entries.{JournalRecord}
use Rattle.s38_rules.specs.state.Held.{Held, is_on_disk}
use Rattle.s38_rules.specs.state.Journaling.{data_port, is_journal, journal_for, journal_for_block}
use Rattle.s38_rules.specs.state.Parts.{part_at, port_part}
use Rattle.s38_rules.specs.state.PartsAt.{table_at, table_in}
use Rattle.s38_rules.specs.declared.port.Port.{Port}
use Rattle.s38_laws_commits.proofs.LinkLaws.{Keeps, Quiet, keeps_block, keeps_for}
use Rattle.s38_laws_commits.proofs.ToldLaws.{told_kept}
use Rattle.s38_laws_commits.specs.Counting.{has_unit}
use Rattle.s38_laws_commits.specs.Imaged.{AreImaged, IsFrontKept}
use Rattle.s38_laws_commits.specs.Told.{AreTold, IsSmall, IsTableImage, IsTold, entries_at}

-- ---- what they speak of stays

-- the unit of each block goes where it went, to the same entries, and what it has changed stays
pub record StaysTold (h k : Held) (units : UnitMap) : Type 0 where
  pub entries : (journal : ℕ) → (entries_at k journal ≡ entries_at h journal) ⊎ (entries_at k journal ≡ [])
  pub leads : (block journal : ℕ) (unit : CommitUnit) → unit_of units block ≡ Some unit → journal_for_block k block ≡ Some journal → journal_for_block h block ≡ Some journal
  pub same : (block journal : ℕ) (unit : CommitUnit) → unit_of units block ≡ Some unit → journal_for_block k block ≡ Some journal → entries_at k journal ≡ entries_at h journal
  pub tables : (block n at : ℕ) (unit : CommitUnit) → unit_of units block ≡ Some unit → has_change n at unit.changes ≡ true → table_at k n ≡ table_at h n
  pub small : (n : ℕ) → IsSmall (table_at h n) → IsSmall (table_at k n)

pub told_stays : (h k : Held) (units : UnitMap) → StaysTold h k units → AreTold h units → AreTold k units
told_stays h k units stays told = record {
  fresh = λ journal u. fresh journal u (stays.entries journal);
  each = λ block journal unit found to.
      subst (λ (es : List JournalRecord). IsTold es (table_at k) unit) (sym (stays.same block journal unit found to))
      (told_kept (entries_at h journal) (table_at h) (table_at k) unit (told.each block journal unit found (stays.leads block journal unit found to))
      (λ n at has. let same = stays.tables block n at unit found has in (ap (λ (t : DataTable). t.fields) same, ap (λ (t : DataTable). entry_at t.entries at) same)));
  differ = λ one other journal u v a b p q. told.differ one other journal u v a b (stays.leads one journal u a p) (stays.leads other journal v b q);
  small = λ n. stays.small n (told.small n);
}
  where
    fresh : (journal u : ℕ) → (entries_at k journal ≡ entries_at h journal) ⊎ (entries_at k journal ≡ []) → length (entries_at k journal) < u → has_unit u (entries_at k journal) ≡ false
    fresh journal u (inl same) = subst (λ (es : List JournalRecord). length es < u → has_unit u es ≡ false) (sym same) (told.fresh journal u)
    fresh journal u (inr none) = subst (λ (es : List JournalRecord). length es < u → has_unit u es ≡ false) (sym none) (λ _. refl)

-- what is on disk was on disk before, where it need not persist at once
abbrev pub Fewer : (ℕ → Bool) → Held → Held → Type 0
Fewer anew h k = (n : ℕ) → anew n ≡ false → is_on_disk k n ≡ true → is_on_disk h n ≡ true

pub record StaysKept (h k : Held) (anew : ℕ → Bool) : Type 0 where
  pub fewer : Fewer anew h k
  pub port : (n : ℕ) (p : Port) → part_at port_part k n ≡ Some p → is_on_disk k n ≡ true → part_at port_part h n ≡ Some p
  pub journal : (n : ℕ) → is_journal k n ≡ true → is_on_disk k n ≡ true → is_journal h n ≡ true
  pub entries : (n : ℕ) → is_journal k n ≡ true → is_on_disk k n ≡ true → entries_at k n ≡ entries_at h n
  pub leads : (n journal : ℕ) → anew n ≡ false → journal_for k n ≡ Some journal → journal_for h n ≡ Some journal
  pub same : (n journal : ℕ) → anew n ≡ false → journal_for k n ≡ Some journal → entries_at k journal ≡ entries_at h journal
  pub table : (n journal : ℕ) → anew n ≡ false → journal_for k n ≡ Some journal → table_at k n ≡ table_at h n
  pub to : (n journal : ℕ) → anew n ≡ false → journal_for k n ≡ Some journal → data_port k n ≡ data_port h n

pub kept_stays : (h k : Held) (units : UnitMap) (d : Durable) (anew : ℕ → Bool) → StaysKept h k anew → AreImaged h units d anew → AreImaged k units d anew
kept_stays h k units d anew stays are = record {
  port = λ n p old is on. are.port n p old (stays.port n p is on) (stays.fewer n old on);
  journal = λ n old is on. subst (λ (es : List JournalRecord). IsFrontKept d n es) (sym (stays.entries n is on)) (are.journal n old (stays.journal n is on) (stays.fewer n old on));
  space = λ n journal old to.
      let x = are.space n journal old (stays.leads n journal old to) in
      record {
        stored = x.stored;
        held = x.held;
        found = x.found;
        body = x.body;
        port = x.port ∙ sym (stays.to n journal old to);
        image = subst (λ (es : List JournalRecord). IsTableImage units es (table_at k n) n x.stored.sequence x.held.space) (sym (stays.same n journal old to))
            (subst (λ (t : DataTable). IsTableImage units (entries_at h journal) t n x.stored.sequence x.held.space) (sym (stays.table n journal old to)) x.image);
      };
}

-- ---- nothing is written

pub quiet_told : (h k : Held) (units : UnitMap) → Quiet h k → AreTold h units → AreTold k units
quiet_told h k units quiet told = told_stays h k units (record {
  entries = λ journal. inl (quiet.entries journal);
  leads = λ block journal unit found to. sym (keeps_block h k quiet.keeps block) ∙ to;
  same = λ block journal unit found to. quiet.entries journal;
  tables = λ block n at unit found has. ap table_in (quiet.tables n);
  small = λ n small. subst (λ x. IsSmall (table_in x)) (sym (quiet.tables n)) small;
}) told

pub quiet_kept : (h k : Held) (units : UnitMap) (d : Durable) (anew : ℕ → Bool) → Quiet h k → Fewer anew h k → AreImaged h units d anew → AreImaged k units d anew
quiet_kept h k units d anew quiet fewer are = kept_stays h k units d anew (record {
  fewer = fewer;
  port = λ n p is on. sym (quiet.keeps.port n) ∙ is;
  journal = λ n is on. sym (quiet.keeps.journal n) ∙ is;
  entries = λ n is on. quiet.entries n;
  leads = λ n journal old to. sym (keeps_for h k quiet.keeps n) ∙ to;
  same = λ n journal old to. quiet.entries journal;
  table = λ n journal old to. ap table_in (quiet.tables n);
  to = λ n journal old to. quiet.keeps.to n;
}) are

-- ---- an entry is written in a journal space

pub record IsWritten (h k : Held) (journal : ℕ) (e : JournalRecord) : Type 0 where
  pub keeps : Keeps h k
  pub here : entries_at k journal ≡ entries_at h journal ++ e ∷ []
  pub others : (n : ℕ) → (journal == n) ≡ false → entries_at k n ≡ entries_at h n

-- what is kept of a journal space is the front of a longer one
front_longer : (d : Durable) (n : ℕ) (es : List JournalRecord) (e : JournalRecord) → IsFrontKept d n es → IsFrontKept d n (es ++ e ∷ [])
front_longer d n es e front = record {
  stored = front.stored;
  journal = front.journal;
  rest = front.rest ++ e ∷ [];
  found = front.found;
  body = front.body;
  all = ap (λ (xs : List JournalRecord). xs ++ e ∷ []) front.all ∙ assoc front.journal.entries front.rest (e ∷ []);
}
  where
    assoc : (xs ys zs : List JournalRecord) → (xs ++ ys) ++ zs ≡ xs ++ (ys ++ zs)
    assoc [] ys zs = refl
    assoc (x ∷ xs) ys zs = ap (λ (l : List JournalRecord). x ∷ l) (assoc xs ys zs)

pub written_kept : (h k : Held) (units new : UnitMap) (d : Durable) (anew : ℕ → Bool) (journal : ℕ) (e : JournalRecord) → IsWritten h k journal e → Fewer anew h k
    → ((n image : ℕ) (i : DataTable) → journal_for h n ≡ Some journal → IsTableImage units (entries_at h journal) (table_at h n) n image i → IsTableImage new (entries_at h journal ++ e ∷ []) (table_at k n) n image i)
    → ((n other image : ℕ) (i : DataTable) → journal_for h n ≡ Some other → (journal == other) ≡ false → IsTableImage units (entries_at h other) (table_at h n) n image i → IsTableImage new (entries_at h other) (table_at k n) n image i)
    → AreImaged h units d anew → AreImaged k new d anew
written_kept h k units new d anew journal e written fewer own others are = record {
  port = λ n p old is on. are.port n p old (sym (written.keeps.port n) ∙ is) (fewer n old on);
  journal = λ n old is on. front n (journal == n) refl (are.journal n old (sym (written.keeps.journal n) ∙ is) (fewer n old on));
  space = λ n to old leads.
      let before = sym (keeps_for h k written.keeps n) ∙ leads in
      let x = are.space n to old before in
      record {
        stored = x.stored;
        held = x.held;
        found = x.found;
        body = x.body;
        port = x.port ∙ sym (written.keeps.to n);
        image = led n to x.stored.sequence x.held.space before (journal == to) refl x.image;
      };
}
  where
    front : (n : ℕ) (b : Bool) → (journal == n) ≡ b → IsFrontKept d n (entries_at h n) → IsFrontKept d n (entries_at k n)
    front n true is old =
        let same : journal ≡ n = nat_same journal n is in
        let here : entries_at k n ≡ entries_at h n ++ e ∷ [] = subst (λ (m : ℕ). entries_at k m ≡ entries_at h m ++ e ∷ []) same written.here in
        subst (λ (es : List JournalRecord). IsFrontKept d n es) (sym here) (front_longer d n (entries_at h n) e old)
    front n false off old = subst (λ (es : List JournalRecord). IsFrontKept d n es) (sym (written.others n off)) old

    led : (n to q : ℕ) (i : DataTable) → journal_for h n ≡ Some to → (b : Bool) → (journal == to) ≡ b → IsTableImage units (entries_at h to) (table_at h n) n q i → IsTableImage new (entries_at k to) (table_at k n) n q i
    led n to q i leads true is old =
        let same : journal ≡ to = nat_same journal to is in
        subst (λ (m : ℕ). journal_for h n ≡ Some m → IsTableImage units (entries_at h m) (table_at h n) n q i → IsTableImage new (entries_at k m) (table_at k n) n q i) same
        (λ leads old. subst (λ (es : List JournalRecord). IsTableImage new es (table_at k n) n q i) (sym written.here) (own n q i leads old)) leads old
    led n to q i leads false off old = subst (λ (es : List JournalRecord). IsTableImage new es (table_at k n) n q i) (sym (written.others to off)) (others n to q i leads off old)
