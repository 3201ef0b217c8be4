-- What a step forces: of one object at most, or a data space that is ensured and its journal space.
use Rattle.std.proofs.Common.{◌≡◌, ◌∙◌, ◌⊎◌, ℕ, ◌+◌, ◌<◌, ◌≤◌, ◌==◌, Bool, true, false, cond, not, inl, inr, List, [], ◌∷◌, ◌++◌, length, refl, sym, ap, subst, arith}
use Rattle.std.proofs.lemmas.Bool.{and_parts}
use Rattle.std.proofs.lemmas.Bool.Decides.{nat_tests}
use Rattle.std.proofs.lemmas.List.{append-nil}
use Rattle.std.specs.List.{list_any}
use Rattle.std.specs.Option.{option_map, unwrap_or}
use Rattle.std.specs.Prelude.{◌&&◌, ◌||◌, None, Option, Some, is_some, nat_le, nat_lt}
use Rattle.s38_base.specs.Pointers.{target_of}
use Rattle.s38_base.specs.declared.id.Kind.{Kind}
use Rattle.s38_code.specs.Operations.{family_of}
use Rattle.s38_code.specs.declared.event.Event.TheVariants.{Act, Finish, Start}
use Rattle.s38_code.specs.declared.event.Event.{Event}
use Rattle.s38_code.specs.declared.event.Request.{Request}
use Rattle.s38_code.specs.declared.operand.Operand.TheVariants as operands
use Rattle.s38_code.specs.declared.operand.Operand.{Operand}
use Rattle.s38_code.specs.declared.reply.Val.TheVariants as vals
use Rattle.s38_code.specs.declared.reply.Val.{Val}
use Rattle.s38_commits.specs.Changes.{journal_bytes}
use Rattle.s38_commits.specs.Unit.{CommitUnit}
use Rattle.s38_commits.specs.Units.{unit_of}
use Rattle.s38_commits.specs.declared.change.UnitChange.{UnitChange}
use Rattle.s38_dataspaces.specs.Table.{DataTable}
use Rattle.s38_journals.specs.Entries.{JournalRecord, is_end, journal_entry_len, may_be_at}
use Rattle.s38_journals.specs.Journals.{JournalList, appended, can_write, journal_with, journal_with_room}
use Rattle.s38_journals.specs.declared.entry.EntryKind.TheVariants.{Commit}
use Rattle.s38_memory.specs.declared.cell.Cell.{Cell}
use Rattle.s38_rules.proofs.ChargeLaws.{object_changed}
use Rattle.s38_rules.proofs.PartLaws.{over_same, part_apart}
use Rattle.s38_rules.proofs.RoomLaws.{permitted_by_rules}
use Rattle.s38_rules.proofs.VerdictLaws.{permitted_none}
use Rattle.s38_rules.specs.state.Cells.{with_bytes, with_pointer}
use Rattle.s38_rules.specs.families.Changes.{Changes, Committed, Ensured, Entered, Gone, Journaled, Made, Moved, Named, OnAccess, OnCursor, Profiled, Then, done, made_by, through_port}
use Rattle.s38_rules.specs.families.Changing.{change_entry, logged, logged_in, next_sequence, number_for, with_change_logged}
use Rattle.s38_rules.specs.families.Computing.{receiver_at, shift_at}
use Rattle.s38_rules.specs.families.Creation.{is_of_kind}
use Rattle.s38_rules.specs.step.Effect.{effect, effect_of}
use Rattle.s38_rules.specs.store.Forcing.{Ceiling, Forced, Header, Removed, Whole, commit_forces, creation_forces, followed, forced_by, forced_removal, is_whole, must_persist, whole_if}
use Rattle.s38_rules.specs.state.Held.{Held, change, disk_in, ensured, is_on_disk, kept_on_disk, object}
use Rattle.s38_rules.specs.state.Journaling.{block_port, data_port, is_journal, journal_for, journal_for_block, journal_named, journal_of_port, open_after}
use Rattle.s38_rules.specs.ask.Receivers.{delivered, put_value}
use Rattle.s38_rules.specs.state.Parts.{Part, cursor_part, data_part, journal_of, journal_part, over_object, over_part, part_at, part_in, port_part, space_part}
use Rattle.s38_rules.specs.state.PartsAt.{journal_at, no_journal, on_data, on_journal, on_space, over_table}
use Rattle.s38_rules.specs.state.LawfulParts.{IsPart, cursor_lawful, data_lawful, journal_lawful, space_lawful}
use Rattle.s38_rules.specs.families.Rows.{row}
use Rattle.s38_rules.specs.state.State.{State}
use Rattle.s38_rules.specs.step.Step.{awake_verdict}
use Rattle.s38_rules.specs.families.Units.{committed, end_entry, end_written, journal_with_entry}
use Rattle.s38_rules.specs.step.Verdict.{refused_by, ruled_verdict}
use Rattle.s38_rules.specs.declared.data_body.DataBody.{DataBody}
use Rattle.s38_rules.specs.declared.object.Object.{Object}
use Rattle.s38_rules.specs.declared.port.Port.{Port}
use Rattle.s38_rules.specs.declared.rows.PrivateRow.{PrivateRow}
use Rattle.s38_rules.specs.declared.verdict.Verdict.TheVariants.{Permit}
use Rattle.s38_laws_units.proofs.HeldLaws.{part_over}
use Rattle.s38_laws_flush.proofs.durable.SameLaws.{seen_same}
use Rattle.s38_laws_flush.proofs.puts.PlainLaws.{IsOneForced, none_forced, single, single_if, beside_ceiling, overdue_one, IsPlain, row_plain}

-- ---- what a step leads from, and to

-- the private rows of an object, if there is one
abbrev pub rows_in : Option Object → List PrivateRow
rows_in None = []
rows_in (Some o) = o.rows

abbrev pub rows_at : Held → ℕ → List PrivateRow
rows_at h n = rows_in (object h n)

-- the greatest entry of a journal space, in bytes
abbrev pub longest_entry : ℕ
longest_entry = 131111

abbrev pub unforced_in : Option JournalList → ℕ
unforced_in x = (unwrap_or x no_journal).unforced

-- all that is forced is of one object, and a journal space that was there and is forced whole became longer by an entry at most
pub record ForcesOne (h k : Held) (all : List Forced) : Type 0 where
  pub one : IsOneForced all
  pub grows : (n : ℕ) → n < h.next → list_any (is_whole n) all ≡ true → unforced_in (part_at journal_part k n) ≤ unforced_in (part_at journal_part h n) + longest_entry

-- a data space is forced whole, and with it its journal space, which stays as it is, with its rows
pub record ForcesBoth (h k : Held) (all : List Forced) : Type 0 where
  pub space : ℕ
  pub journal : ℕ
  pub is : all ≡ Whole space ∷ Whole journal ∷ []
  pub there : is_some (part_at journal_part h journal) ≡ true
  pub disk : (n : ℕ) → (space == n) ≡ false → is_on_disk k n ≡ is_on_disk h n
  pub journals : (n : ℕ) → part_at journal_part k n ≡ part_at journal_part h n
  pub rows : (n : ℕ) → rows_at k n ≡ rows_at h n

abbrev pub ForcesFew : Held → Held → List Forced → Type 0
ForcesFew h k all = ForcesOne h k all ⊎ ForcesBoth h k all

-- ---- an object is another one

part_rows : {T : Type 0} (p : Part T) (h : Held) (n m : ℕ) (f : T → T) → rows_at (over_part p h n f) m ≡ rows_at h m
part_rows p h n m f = seen_same rows_in h n m (over_object p f) (λ x. refl) (λ x. refl)

other_journal : {T : Type 0} (p : Part T) → IsPart T p → ((x : T) → journal_of (p.make x) ≡ None) → (h : Held) (n m : ℕ) (f : T → T) → part_at journal_part (over_part p h n f) m ≡ part_at journal_part h m
other_journal p lawful other h n m f = part_apart journal_part p f (λ b. over_same p lawful journal_of None other f b (p.of b) refl) h n m

pub data_journal : (h : Held) (n m : ℕ) (f : DataBody → DataBody) → part_at journal_part (on_data h n f) m ≡ part_at journal_part h m
data_journal h n m f = other_journal data_part data_lawful (λ x. refl) h n m f

-- journal spaces, rows, and what is on disk stay
pub record SameBeside (h k : Held) : Type 0 where
  pub journals : (n : ℕ) → part_at journal_part k n ≡ part_at journal_part h n
  pub rows : (n : ℕ) → rows_at k n ≡ rows_at h n
  pub disk : (n : ℕ) → is_on_disk k n ≡ is_on_disk h n

pub same_beside : (h : Held) → SameBeside h h
same_beside h = record { journals = λ n. refl; rows = λ n. refl; disk = λ n. refl }

-- what an object of another kind holds is something else
pub other_beside : {T : Type 0} (p : Part T) → IsPart T p → ((x : T) → journal_of (p.make x) ≡ None) → (h : Held) (n : ℕ) (f : T → T) → SameBeside h (over_part p h n f)
other_beside p lawful other h n f = record {
  journals = λ m. other_journal p lawful other h n m f;
  rows = λ m. part_rows p h n m f;
  disk = λ m. seen_same disk_in h n m (over_object p f) (λ x. refl) (λ x. refl);
}

-- ---- how much longer

pub true_le : (a b : ℕ) → nat_le a b ≡ true → a ≤ b
true_le a b e = grind (arith, nat_tests)

entry_short : (k : ℕ) (e : JournalRecord) → may_be_at k e ≡ true → journal_entry_len e ≤ longest_entry
entry_short k e may =
    let two = and_parts (nat_le e.unit k && (not (is_end e.kind) || ((e.object.0 == 0) && (e.ordinal == 0)))) (nat_le (length e.before) 65535 && nat_le (length e.after) 65535) may in
    let lens = and_parts (nat_le (length e.before) 65535) (nat_le (length e.after) 65535) two.1 in
    omega (arith, true_le (length e.before) 65535 lens.0, true_le (length e.after) 65535 lens.1)

written_few : (entry : JournalRecord) (j : JournalList) → (journal_with j entry).unforced ≤ j.unforced + longest_entry
written_few entry j = by (can_write j entry) refl
  where
    by : (b : Bool) → can_write j entry ≡ b → (cond b (appended j entry) j).unforced ≤ j.unforced + longest_entry
    by true can =
        let parts = and_parts (may_be_at (length j.entries + 1) entry) (nat_le (journal_entry_len entry) j.spare) can in
        let short = entry_short (length j.entries + 1) entry parts.0 in
        omega (arith, short)
    by false not = omega arith

grown : (h : Held) (n m : ℕ) (f : JournalList → JournalList) → ((j : JournalList) → (f j).unforced ≤ j.unforced + longest_entry)
    → unforced_in (part_at journal_part (on_journal h n f) m) ≤ unforced_in (part_at journal_part h m) + longest_entry
grown h n m f few = subst (λ (x : Option JournalList). unforced_in x ≤ unforced_in (part_at journal_part h m) + longest_entry) (sym (part_over journal_part journal_lawful h n m f)) (by (n == m) (part_at journal_part h m))
  where
    by : (b : Bool) (x : Option JournalList) → unforced_in (cond b (option_map f x) x) ≤ unforced_in x + longest_entry
    by true None = omega arith
    by true (Some j) = few j
    by false x = omega arith

-- ---- what forces nothing whole

not_whole : (n : ℕ) (b : Bool) (x : Forced) → is_whole n x ≡ false → list_any (is_whole n) (cond b (x ∷ []) []) ≡ true → ⊥
not_whole n true x off is = let e : false ≡ true = sym (ap (λ c. c || false) off) ∙ is in cc
not_whole n false x off is = let e : false ≡ true = is in cc

none_one : (h k : Held) → ForcesOne h k []
none_one h k = record { one = none_forced; grows = λ n less is. absurd (let e : false ≡ true = is in cc) }

followed_one : (h k : Held) (m : ℕ) → ForcesOne h k (followed h m)
followed_one h k m = record { one = single_if (is_on_disk h m) (Header m); grows = λ n less is. absurd (not_whole n (is_on_disk h m) (Header m) refl is) }

gone_one : (h k : Held) (kind : Kind) (m : ℕ) → ForcesOne h k (forced_removal h kind m)
gone_one h k kind m =
    record { one = single_if (is_of_kind kind (object h m) && is_on_disk h m) (Removed m); grows = λ n less is. absurd (not_whole n (is_of_kind kind (object h m) && is_on_disk h m) (Removed m) refl is) }

-- what is made was not there before
made_one : (h k : Held) → ForcesOne h k (creation_forces h k)
made_one h k = record {
  one = beside_ceiling (nat_lt h.ceiling k.ceiling) _ (single_if (is_on_disk k h.next) (Whole h.next));
  grows = λ n less is. absurd (by n less (nat_lt h.ceiling k.ceiling) (is_on_disk k h.next) is);
}
  where
    other : (n : ℕ) → n < h.next → (h.next == n) ≡ false
    other n less = grind (arith, nat_tests, less)

    by : (n : ℕ) → n < h.next → (a b : Bool) → list_any (is_whole n) (cond a (Ceiling ∷ []) [] ++ cond b (Whole h.next ∷ []) []) ≡ true → ⊥
    by n less true b is = not_whole n b (Whole h.next) (other n less) is
    by n less false b is = not_whole n b (Whole h.next) (other n less) is

-- ---- an entry is another one, and a unit that stays

entered_one : (s : State) (p block : ℕ) (change : UnitChange) (f : DataTable → DataTable) → ForcesOne s.held (done s p (Entered block change f)).held (forced_by s p (Entered block change f))
unfolding logged
entered_one s p block change f = record {
  one = overdue_one (done s p (Entered block change f)).held (journal_for s.held change.space.0);
  grows = λ n less is. by n (journal_for s.held change.space.0);
}
  where
    by : (n : ℕ) (r : Option ℕ) → unforced_in (part_at journal_part (on_data (logged_in s p block change r).held change.space.0 (over_table f)) n) ≤ unforced_in (part_at journal_part s.held n) + longest_entry
    by n None = let same = ap unforced_in (data_journal s.held change.space.0 n (over_table f)) in omega (arith, same)
    by n (Some journal) =
        let bytes = journal_bytes change in
        let units = open_after s.held s.units journal block in
        let entry : JournalRecord = change_entry (number_for s.units block (next_sequence (journal_at s.held journal))) p change in
        let to : JournalList → JournalList = with_change_logged bytes units entry in
        let same = ap unforced_in (data_journal (on_journal s.held journal to) change.space.0 n (over_table f)) in
        let few = grown s.held journal n to (λ j. written_few entry (journal_with_room j bytes units)) in
        omega (arith, same, few)

committed_one : (s : State) (p block : ℕ) (unit : Option CommitUnit) → ForcesOne s.held (committed s p block unit).held (commit_forces s.held block unit)
committed_one s p block None = none_one s.held s.held
committed_one s p block (Some unit) = by (journal_for_block s.held block)
  where
    by : (r : Option ℕ) → ForcesOne s.held (end_written s.held r (end_entry Commit p unit)) (whole_if r)
    by None = none_one s.held s.held
    by (Some journal) = record {
      one = single (Whole journal);
      grows = λ n less is. grown s.held journal n (journal_with_entry (end_entry Commit p unit)) (λ j. written_few (end_entry Commit p unit) j);
    }

-- ---- an object is ensured

-- the journal space of a port is a journal space
behind_is : (h : Held) (port journal : ℕ) → journal_of_port h port ≡ Some journal → is_journal h journal ≡ true
behind_is h port journal to = by (part_at port_part h port) to
  where
    there : (b : Bool) (n : ℕ) → is_journal h n ≡ b → cond b (Some n) None ≡ Some journal → is_journal h journal ≡ true
    there true n at e = let same : n ≡ journal = cc in subst (λ (m : ℕ). is_journal h m ≡ true) same at
    there false n at e = cc

    by : (x : Option Port) → journal_named h x ≡ Some journal → is_journal h journal ≡ true
    by None to = cc
    by (Some p) to = there (is_journal h p.journal.0) p.journal.0 refl to

-- from objects that differ from these at most in the port of a data space
ensured_few : (h j : Held) (n : ℕ) → SameBeside h j → ForcesFew h (ensured j n) (Whole n ∷ whole_if (journal_for j n))
ensured_few h j n same = by (journal_for j n) refl
  where
    still : (m : ℕ) → part_at journal_part (ensured j n) m ≡ part_at journal_part h m
    still m = seen_same (part_in journal_part) j n m kept_on_disk (λ x. refl) (λ x. refl) ∙ same.journals m

    beside : (m : ℕ) → (n == m) ≡ false → is_on_disk (ensured j n) m ≡ is_on_disk j m
    beside m off = ap disk_in (object_changed n m kept_on_disk j.objects (λ x. refl)) ∙ ap (λ b. disk_in (cond b (option_map kept_on_disk (object j m)) (object j m))) off

    by : (r : Option ℕ) → journal_for j n ≡ r → ForcesFew h (ensured j n) (Whole n ∷ whole_if r)
    by None to = inl (record { one = single (Whole n); grows = λ m less is. let kept = ap unforced_in (still m) in omega (arith, kept) })
    by (Some journal) to = inr (record {
      space = n;
      journal = journal;
      is = refl;
      there = sym (ap is_some (same.journals journal)) ∙ behind_is j (data_port j n) journal to;
      disk = λ m off. beside m off ∙ same.disk m;
      journals = still;
      rows = λ m. seen_same rows_in j n m kept_on_disk (λ x. refl) (λ x. refl) ∙ same.rows m;
    })

-- ---- each word of change

pub done_few : (x : Changes) (s : State) (p : ℕ) → IsPlain s x → ForcesFew s.held (done s p x).held (forced_by s p x)
done_few (Entered block change f) s p plain = inl (entered_one s p block change f)
done_few (OnAccess n f) s p plain = inl (followed_one s.held (done s p (OnAccess n f)).held n)
done_few (Profiled n special limit) s p plain = inl (followed_one s.held (done s p (Profiled n special limit)).held n)
done_few (Named n id) s p plain = inl (followed_one s.held (done s p (Named n id)).held n)
done_few (Moved n context) s p plain = inl (followed_one s.held (done s p (Moved n context)).held n)
done_few (Ensured n) s p plain = ensured_few s.held s.held n (same_beside s.held)
done_few (Made owner made body) s p plain = inl (made_one s.held (made_by s.held owner made body))
done_few (Gone kind n) s p plain = inl (gone_one s.held (done s p (Gone kind n)).held kind n)
done_few (Committed block) s p plain = inl (committed_one s p block (unit_of s.units block))
done_few (Then (Entered block change f) (OnCursor n g)) s p plain = inl (record {
  one = subst IsOneForced (sym (append-nil (forced_by s p (Entered block change f)))) one.one;
  grows = λ m less is.
      let few = one.grows m less (subst (λ (all : List Forced). list_any (is_whole m) all ≡ true) (append-nil (forced_by s p (Entered block change f))) is) in
      let same = ap unforced_in (other_journal cursor_part cursor_lawful (λ x. refl) (done s p (Entered block change f)).held n m g) in
      omega (arith, few, same);
})
  where
    one : ForcesOne s.held (done s p (Entered block change f)).held (forced_by s p (Entered block change f))
    one = entered_one s p block change f
done_few (Then (Journaled n port) (Ensured m)) s p plain =
    ensured_few s.held (on_data s.held n (through_port port)) m (other_beside data_part data_lawful (λ x. refl) s.held n (through_port port))
done_few (Then a b) s p plain = absurd plain
done_few x s p plain = inl (none_one s.held (done s p x).held)

-- ---- an event

pub space_beside : (h : Held) (n : ℕ) (f : List Cell → List Cell) → SameBeside h (on_space h n f)
space_beside h n f = other_beside space_part space_lawful (λ x. refl) h n f

value_beside : (h : Held) (n at : ℕ) (v : Val) → SameBeside h (put_value h n at v)
value_beside h n at (vals.Bytes bytes) = space_beside h n (with_bytes at bytes)
value_beside h n at (vals.Ptr p) = space_beside h n (with_pointer at p)
value_beside h n at _ = same_beside h

pub delivered_beside : (s : State) (shift : ℕ) (receiver : Option Operand) (v : Option Val) → SameBeside s.held (delivered s shift receiver v).state.held
delivered_beside s shift receiver None = same_beside s.held
delivered_beside s shift (Some (operands.InSpace base offset attr)) (Some v) = value_beside s.held (target_of base) _ v
delivered_beside s shift _ (Some v) = same_beside s.held

few_beside : (h j k : Held) (all : List Forced) → SameBeside j k → ForcesFew h j all → ForcesFew h k all
few_beside h j k all same (inl one) = inl (record { one = one.one; grows = λ n less is. let few = one.grows n less is in let still = ap unforced_in (same.journals n) in omega (arith, few, still) })
few_beside h j k all same (inr both) =
    inr (record { space = both.space; journal = both.journal; is = both.is; there = both.there; disk = λ n off. same.disk n ∙ both.disk n off; journals = λ n. same.journals n ∙ both.journals n; rows = λ n. same.rows n ∙ both.rows n })

pub event_few : (s : State) (p : ℕ) (e : Event) → awake_verdict s p e ≡ Permit → ForcesFew s.held (effect_of s p e).state.held (must_persist s p e)
unfolding effect_of effect must_persist ruled_verdict
event_few s p Start may = inl (none_one s.held _)
event_few s p (Act d t) may =
    let x = (row t.op).changes s p d t in
    let met = permitted_none s p t (refused_by (row t.op) s p d t) (permitted_by_rules s p (Act d t) may) in
    few_beside s.held (done s p x).held _ (forced_by s p x) (delivered_beside (done s p x) (shift_at s.held t.op t.operands) (receiver_at t.op t.operands) ((row t.op).gives s p d t))
    (done_few x s p (row_plain (family_of t.op) t.op s p d t met))
event_few s p (Finish cause) may = inl (none_one s.held _)

-- ---- a COMMIT

-- the journal space of its unit alone is forced, whole, and rows and what is on disk stay
pub record CommitsWhole (h k : Held) (all : List Forced) (n : ℕ) : Type 0 where
  pub only : all ≡ Whole n ∷ []
  pub there : is_journal h n ≡ true
  pub rows : (m : ℕ) → rows_at k m ≡ rows_at h m
  pub disk : (m : ℕ) → is_on_disk k m ≡ is_on_disk h m

pub commit_alone : (s : State) (p d : ℕ) (t : Request) (block n : ℕ) (unit : CommitUnit) → (row t.op).changes s p d t ≡ Committed block → unit_of s.units block ≡ Some unit → journal_for_block s.held block ≡ Some n
    → CommitsWhole s.held (effect_of s p (Act d t)).state.held (must_persist s p (Act d t)) n
unfolding effect_of effect must_persist
commit_alone s p d t block n unit changes found to =
    let x = (row t.op).changes s p d t in
    let ends = journal_with_entry (end_entry Commit p unit) in
    let left : (done s p x).held ≡ on_journal s.held n ends =
    ap (λ (y : Changes). (done s p y).held) changes ∙ ap (λ (u : Option CommitUnit). (committed s p block u).held) found ∙ ap (λ (r : Option ℕ). end_written s.held r (end_entry Commit p unit)) to in
    let beside = delivered_beside (done s p x) (shift_at s.held t.op t.operands) (receiver_at t.op t.operands) ((row t.op).gives s p d t) in
    record {
      only = ap (forced_by s p) changes ∙ ap (commit_forces s.held block) found ∙ ap whole_if to;
      there = behind_is s.held (block_port s.held block) n to;
      rows = λ m. beside.rows m ∙ ap (λ (h : Held). rows_at h m) left ∙ part_rows journal_part s.held n m ends;
      disk = λ m. beside.disk m ∙ ap (λ (h : Held). is_on_disk h m) left ∙ seen_same disk_in s.held n m (over_object journal_part ends) (λ o. refl) (λ o. refl);
    }
