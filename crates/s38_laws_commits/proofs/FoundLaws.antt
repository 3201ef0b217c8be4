-- What a restart finds of an entry that no unit has changed.
use Rattle.std.proofs.Common.{◌≡◌, ◌∙◌, ◌≤◌, ℕ, ◌==◌, Bool, true, false, cond, List, [], ◌∷◌, length, map, refl, sym, ap, subst, arith}
use Rattle.std.proofs.lemmas.List.{length-append}
use Rattle.std.specs.List.{list_any}
use Rattle.std.specs.Option.{option_map, unwrap_or}
use Rattle.std.specs.Prelude.{None, Option, Some, is_some}
use Rattle.s38_base.specs.declared.attr.Attr.{Attr}
use Rattle.s38_commits.proofs.MapLaws.{nat_same}
use Rattle.s38_commits.specs.Unit.{CommitUnit}
use Rattle.s38_commits.specs.Units.{UnitMap, unit_of}
use Rattle.s38_commits.specs.declared.change.UnitChange.{UnitChange}
use Rattle.s38_dataspaces.specs.Entries as spaces
use Rattle.s38_dataspaces.specs.Entries.{entry_at}
use Rattle.s38_dataspaces.specs.Table.{DataTable}
use Rattle.s38_durable_state.specs.Durable.{Durable, durable_after, kept, last_sequence_in, whole_object, with_header_and_rows as kept_followed}
use Rattle.s38_durable_state.specs.Following.{NumbersRise}
use Rattle.s38_restart.specs.catalog.Readings.{object_in_stored}
use Rattle.s38_image.specs.Settled.{settled_body, settled_sequence}
use Rattle.s38_image.specs.declared.stored.Stored.{Stored}
use Rattle.s38_journals.specs.Entries.{JournalRecord}
use Rattle.s38_journals.specs.Journals.{JournalList}
use Rattle.s38_restart.specs.Redo.{journal_replayed}
use Rattle.s38_restart.specs.Restarted.{data_followed, data_space_followed, imaged, table_followed}
use Rattle.s38_rules.proofs.ChargeLaws.{found_number}
use Rattle.s38_rules.specs.store.Forcing.{Forced, is_whole}
use Rattle.s38_rules.specs.state.Held.{Held, disk_in, is_on_disk, object, object_in}
use Rattle.s38_rules.specs.state.Journaling.{data_port, is_journal, journal_for, journal_named, journal_of_port}
use Rattle.s38_rules.specs.state.Parts.{data_of, data_part, journal_of, journal_part, over_body, part_at, part_in, port_of, port_part}
use Rattle.s38_rules.specs.state.PartsAt.{journal_at, no_journal, table_at, table_in}
use Rattle.s38_rules.specs.state.LawfulParts.{data_lawful, journal_lawful}
use Rattle.s38_rules.specs.state.State.{State}
use Rattle.s38_rules.specs.declared.data_body.DataBody.{DataBody}
use Rattle.s38_rules.specs.declared.object.Body.TheVariants as bodies
use Rattle.s38_rules.specs.declared.object.Body.{Body}
use Rattle.s38_rules.specs.declared.object.Object.{Object}
use Rattle.s38_rules.specs.declared.port.Port.{Port}
use Rattle.s38_laws_units.specs.Right.{AreRight}
use Rattle.s38_laws_units.proofs.LoggingLaws.{journaled_there}
use Rattle.s38_laws_commits.proofs.CountLaws.{settled_redone}
use Rattle.s38_laws_commits.proofs.LinkLaws.{port_journal_there}
use Rattle.s38_laws_commits.proofs.OrdinalLaws.{restart_at}
use Rattle.s38_laws_commits.proofs.RenewLaws.{data_body_after, journal_body_after, new_kept, old_kept, renewed, some_port}
use Rattle.s38_laws_commits.proofs.StableObjectLaws.{HoldsCommitted}
use Rattle.s38_laws_commits.proofs.ToldLaws.{first_has}
use Rattle.s38_laws_commits.proofs.OwnedLaws.{owned}
use Rattle.s38_laws_commits.specs.Found.{AreSound, IsJournalKept, found_entry, restart_of}
use Rattle.s38_laws_commits.specs.Imaged.{AreImaged, IsFrontKept, IsImageKept}
use Rattle.s38_laws_commits.specs.Linked.{AreLinked}
use Rattle.s38_laws_commits.specs.Ordinals.{redone_at}
use Rattle.s38_laws_commits.specs.Told.{AreTold, IsSmall, entries_at, first_in}

-- ---- the object of a number, kept and followed

kept_object : (ss : List Stored) (n : ℕ) → object (imaged ss) n ≡ option_map object_in_stored (kept ss n)
kept_object [] n = refl
kept_object (s ∷ ss) n = by (s.object.number.0 == n) (kept_object ss n)
  where
    by : (b : Bool) → object (imaged ss) n ≡ option_map object_in_stored (kept ss n) → cond b (Some s.object) (object (imaged ss) n) ≡ option_map object_in_stored (cond b (Some s) (kept ss n))
    by true rest = refl
    by false rest = rest

pub followed_object : (h : Held) (ss : List Stored) (n : ℕ) → object_in (map (data_space_followed h) ss) n ≡ option_map (data_space_followed h) (kept ss n)
followed_object h [] n = refl
followed_object h (s ∷ ss) n = by (s.object.number.0 == n) (followed_object h ss n)
  where
    by : (b : Bool) → object_in (map (data_space_followed h) ss) n ≡ option_map (data_space_followed h) (kept ss n) → cond b (Some (data_space_followed h s)) (object_in (map (data_space_followed h) ss) n) ≡ option_map (data_space_followed h) (cond b (Some s) (kept ss n))
    by true rest = refl
    by false rest = rest

kept_number : (n : ℕ) (xs : List Stored) (x : Stored) → kept xs n ≡ Some x → x.object.number.0 ≡ n
kept_number n [] x h = cc
kept_number n (y ∷ xs) x h = by (kept_number n xs x) (y.object.number.0 == n) refl h
  where
    by : (kept xs n ≡ Some x → x.object.number.0 ≡ n) → (b : Bool) → (y.object.number.0 == n) ≡ b → cond b (Some y) (kept xs n) ≡ Some x → x.object.number.0 ≡ n
    by rest true is h = let same : y ≡ x = cc in subst (λ (z : Stored). z.object.number.0 ≡ n) same (nat_same y.object.number.0 n is)
    by rest false is h = rest h

-- ---- what a restart makes of a data space

-- a data space, its port and its journal space are kept
pub record IsChain (d : Durable) (n : ℕ) (x : Stored) (held : DataBody) (j : JournalList) : Type 0 where
  pub port : Port
  pub at_port : Stored
  pub at_journal : Stored
  pub found : kept d.objects n ≡ Some x
  pub body : data_of x.object.body ≡ Some held
  pub port_found : kept d.objects held.port.0 ≡ Some at_port
  pub port_body : port_of at_port.object.body ≡ Some port
  pub journal_found : kept d.objects port.journal.0 ≡ Some at_journal
  pub journal_body : journal_of at_journal.object.body ≡ Some j
  pub small : IsSmall held.space

pub table_by : (d : Durable) (n : ℕ) (x : Stored) (held : DataBody) (j : JournalList) → IsChain d n x held j → table_at (restart_of d) n ≡ journal_replayed n x.sequence j.entries held.space
table_by d n x held j chain =
    ap (λ r. table_in (part_in data_part r)) (followed_object h d.objects n ∙ ap (option_map (data_space_followed h)) chain.found)
    ∙ ap (λ (b : Body). table_in (data_of (over_body data_part (data_followed h x.object.number.0 x.sequence) b))) back
    ∙ ap (λ r. table_followed x.object.number.0 x.sequence r held.space) behind
    ∙ ap (λ (m : ℕ). journal_replayed m x.sequence j.entries held.space) (kept_number n d.objects x chain.found)
  where
    h : Held
    h = imaged d.objects

    port_is : part_at port_part h held.port.0 ≡ Some chain.port
    port_is = ap (part_in port_part) (kept_object d.objects held.port.0) ∙ ap (λ r. part_in port_part (option_map object_in_stored r)) chain.port_found ∙ chain.port_body

    journal_is : part_at journal_part h chain.port.journal.0 ≡ Some j
    journal_is = ap (part_in journal_part) (kept_object d.objects chain.port.journal.0) ∙ ap (λ r. part_in journal_part (option_map object_in_stored r)) chain.journal_found ∙ chain.journal_body

    leads : journal_of_port h held.port.0 ≡ Some chain.port.journal.0
    leads = ap (journal_named h) port_is ∙ ap (λ r. cond (is_some r) (Some chain.port.journal.0) None) journal_is

    behind : option_map (journal_at h) (journal_of_port h held.port.0) ≡ Some j
    behind = ap (option_map (journal_at h)) leads ∙ ap (λ r. Some (unwrap_or r no_journal)) journal_is

    back : x.object.body ≡ bodies.DataSpace held
    back = data_lawful.back x.object.body held chain.body

pub found_by : (d : Durable) (n at : ℕ) (x : Stored) (held : DataBody) (j : JournalList) → IsChain d n x held j → found_entry d n at ≡ redone_at held.space.fields n x.sequence j.entries at (entry_at held.space.entries at)
found_by d n at x held j chain = ap (λ (t : DataTable). entry_at t.entries at) (table_by d n x held j chain) ∙ restart_at n x.sequence at j.entries held.space chain.small

-- so it is of each journaled data space
pub chain_of : (h : Held) (units : UnitMap) (d : Durable) (n journal : ℕ) → AreImaged h units d (λ m. false) → AreLinked h → journal_for h n ≡ Some journal
    → (i : IsImageKept h units d n journal) × ((f : IsFrontKept d journal (entries_at h journal)) × IsChain d n i.stored i.held f.journal)
chain_of h units d n journal are linked to = (i, (f, by (part_at port_part h (data_port h n)) refl to))
  where
    i : IsImageKept h units d n journal
    i = are.space n journal refl to

    f : IsFrontKept d journal (entries_at h journal)
    f = are.journal journal refl (port_journal_there h (data_port h n) journal to) (linked.journal_disk n journal to)

    named : (b : Bool) (m : ℕ) → cond b (Some m) None ≡ Some journal → m ≡ journal
    named true m e = cc
    named false m e = cc

    by : (r : Option Port) → part_at port_part h (data_port h n) ≡ r → journal_named h r ≡ Some journal → IsChain d n i.stored i.held f.journal
    by None is leads = absurd (let e : None ≡ Some journal = leads in cc)
    by (Some p) is leads =
        let port = are.port (data_port h n) p refl is (linked.port_disk n journal to) in
        record {
          port = p;
          at_port = port.stored;
          at_journal = f.stored;
          found = i.found;
          body = i.body;
          port_found = ap (kept d.objects) i.port ∙ port.found;
          port_body = port.body;
          journal_found = ap (kept d.objects) (named (is_journal h p.journal.0) p.journal.0 leads) ∙ f.found;
          journal_body = f.body;
          small = i.image.small;
        }

same_stored : (x y : Stored) → Some x ≡ Some y → x ≡ y
same_stored x y e = cc

same_data : (x y : DataBody) → Some x ≡ Some y → x ≡ y
same_data x y e = cc

same_journal : (x y : JournalList) → Some x ≡ Some y → x ≡ y
same_journal x y e = cc

-- ---- after a step

module _ (all : List Forced) (d : Durable) (s : State) (rising : NumbersRise s.held) (right : AreRight s.held s.units) (linked : AreLinked s.held) (told : AreTold s.held s.units)
    (are : AreImaged s.held s.units d (λ n. list_any (is_whole n) all)) (n at journal : ℕ) (x : spaces.DataEntry) (stands : HoldsCommitted s.held s.units n at journal x) where
  abbrev next : Durable
  next = durable_after all d s

  abbrev es : List JournalRecord
  es = entries_at s.held journal

  now : AreImaged s.held s.units next (λ m. false)
  now = renewed all d s rising right linked told are

  parts : (i : IsImageKept s.held s.units next n journal) × ((f : IsFrontKept next journal es) × IsChain next n i.stored i.held f.journal)
  parts = chain_of s.held s.units next n journal now linked stands.to

  abbrev i : IsImageKept s.held s.units next n journal
  i = parts.0

  abbrev f : IsFrontKept next journal es
  f = parts.1.0

  here : found_entry next n at ≡ redone_at i.held.space.fields n i.stored.sequence f.journal.entries at (entry_at i.held.space.entries at)
  here = found_by next n at i.stored i.held f.journal parts.1.1

  -- over all entries of the journal space it is what the entry holds now
  over_all : redone_at i.held.space.fields n i.stored.sequence es at (entry_at i.held.space.entries at) ≡ x
  over_all = ap (λ (fs : List Attr). redone_at fs n i.stored.sequence es at (entry_at i.held.space.entries at)) i.image.fields ∙ i.image.free at stands.settled ∙ stands.now

  object_of : (m : ℕ) → is_on_disk s.held m ≡ true → (o : Object) × ((object s.held m ≡ Some o) × (o.on_disk ≡ true))
  object_of m on = by (object s.held m) refl on
    where
      by : (r : Option Object) → object s.held m ≡ r → disk_in r ≡ true → (o : Object) × ((object s.held m ≡ Some o) × (o.on_disk ≡ true))
      by None found_entry on = absurd (let e : false ≡ true = on in cc)
      by (Some o) found_entry on = (o, (found_entry, on))

  abbrev space_object : (o : Object) × ((object s.held n ≡ Some o) × (o.on_disk ≡ true))
  space_object = object_of n (linked.disk n journal stands.to)

  abbrev journal_object : (o : Object) × ((object s.held journal ≡ Some o) × (o.on_disk ≡ true))
  journal_object = object_of journal (linked.journal_disk n journal stands.to)

  body_of_journal : (r : Option JournalList) → journal_of journal_object.0.body ≡ r → is_some r ≡ true → (j : JournalList) × (journal_of journal_object.0.body ≡ Some j)
  body_of_journal None is some = absurd (let e : false ≡ true = some in cc)
  body_of_journal (Some j) is some = (j, is)

  is_a_journal : is_some (journal_of journal_object.0.body) ≡ true
  is_a_journal = sym (ap (λ r. is_some (part_in journal_part r)) journal_object.1.0) ∙ port_journal_there s.held (data_port s.held n) journal stands.to

  journal_body : (j : JournalList) × (journal_of journal_object.0.body ≡ Some j)
  journal_body = body_of_journal (journal_of journal_object.0.body) refl is_a_journal

  entries_are : es ≡ journal_body.0.entries
  entries_are = ap (λ r. (unwrap_or (part_in journal_part r) no_journal).entries) journal_object.1.0 ∙ ap (λ r. (unwrap_or r no_journal).entries) journal_body.1

  body_of_data : (r : Option DataBody) → data_of space_object.0.body ≡ r → is_some r ≡ true → (y : DataBody) × (data_of space_object.0.body ≡ Some y)
  body_of_data None is some = absurd (let e : false ≡ true = some in cc)
  body_of_data (Some y) is some = (y, is)

  data_body : (y : DataBody) × (data_of space_object.0.body ≡ Some y)
  data_body = body_of_data (data_of space_object.0.body) refl (sym (ap (λ r. is_some (part_in data_part r)) space_object.1.0) ∙ journaled_there s.held n journal right.unused stands.to)

  -- the journal space is kept whole
  pub found_whole : list_any (is_whole journal) all ≡ true → found_entry next n at ≡ x
  found_whole new = here ∙ ap (λ (xs : List JournalRecord). redone_at i.held.space.fields n i.stored.sequence xs at (entry_at i.held.space.entries at)) entries ∙ over_all
    where
      stored : f.stored ≡ whole_object s journal_object.0
      stored = same_stored f.stored (whole_object s journal_object.0) (sym f.found ∙ new_kept all d s rising journal journal_object.0 journal_object.1.0 journal_object.1.1 new)

      list : Some f.journal ≡ Some (record journal_body.0 { spare = 0; unforced = 0 })
      list = sym f.body ∙ ap (λ (y : Stored). journal_of y.object.body) stored
          ∙ ap (λ (b : Body). journal_of (settled_body s.units journal_object.0.number.0 b)) (journal_lawful.back journal_object.0.body journal_body.0 journal_body.1)

      entries : f.journal.entries ≡ es
      entries = ap (λ (j : JournalList). j.entries) (same_journal f.journal (record journal_body.0 { spare = 0; unforced = 0 }) list) ∙ sym entries_are

  -- the current data space is kept whole
  found_image : list_any (is_whole n) all ≡ true → found_entry next n at ≡ x
  found_image new = here ∙ settled_redone i.stored.sequence i.held.space.fields n at f.journal.entries (entry_at i.held.space.entries at) (omega (arith, count, front)) ∙ image
    where
      stored : i.stored ≡ whole_object s space_object.0
      stored = same_stored i.stored (whole_object s space_object.0) (sym i.found ∙ new_kept all d s rising n space_object.0 space_object.1.0 space_object.1.1 new)

      back : space_object.0.body ≡ bodies.DataSpace data_body.0
      back = data_lawful.back space_object.0.body data_body.0 data_body.1

      count : i.stored.sequence ≡ length es
      count =
          ap (λ (y : Stored). y.sequence) stored
          ∙ ap (λ (b : Body). settled_sequence (last_sequence_in s.held (journal_for s.held space_object.0.number.0)) b) back
          ∙ ap (λ b. cond b 0 (last_sequence_in s.held (journal_for s.held space_object.0.number.0))) (some_port all d s rising right linked told n journal data_body.0 (ap (part_in data_part) space_object.1.0 ∙ data_body.1) stands.to)
          ∙ ap (λ (m : ℕ). last_sequence_in s.held (journal_for s.held m)) (found_number n space_object.0 s.held.objects space_object.1.0) ∙ ap (last_sequence_in s.held) stands.to

      front : length f.journal.entries ≤ length es
      front = let all_is = ap length f.all in let both = length-append f.journal.entries f.rest in omega (arith, all_is, both)

      image : entry_at i.held.space.entries at ≡ x
      image = sym (settled_redone i.stored.sequence i.held.space.fields n at es (entry_at i.held.space.entries at) (omega (arith, count))) ∙ over_all

  -- neither must persist, and what a restart found before it finds again
  found_old : (h0 : Held) (units0 : UnitMap) → AreImaged h0 units0 d (λ m. false) → AreLinked h0 → journal_for h0 n ≡ Some journal → list_any (is_whole n) all ≡ false → list_any (is_whole journal) all ≡ false
      → found_entry d n at ≡ x → found_entry next n at ≡ x
  found_old h0 units0 before linked0 to0 old_n old_journal was = here
      ∙ ap (λ (y : Stored). redone_at i.held.space.fields n y.sequence f.journal.entries at (entry_at i.held.space.entries at)) stored
      ∙ ap (λ (y : DataBody). redone_at y.space.fields n i0.stored.sequence f.journal.entries at (entry_at y.space.entries at)) held
      ∙ ap (λ (y : JournalList). redone_at i0.held.space.fields n i0.stored.sequence y.entries at (entry_at i0.held.space.entries at)) list
      ∙ sym (found_by d n at i0.stored i0.held f0.journal parts0.1.1) ∙ was
    where
      parts0 : (i : IsImageKept h0 units0 d n journal) × ((f : IsFrontKept d journal (entries_at h0 journal)) × IsChain d n i.stored i.held f.journal)
      parts0 = chain_of h0 units0 d n journal before linked0 to0

      i0 : IsImageKept h0 units0 d n journal
      i0 = parts0.0

      f0 : IsFrontKept d journal (entries_at h0 journal)
      f0 = parts0.1.0

      stored : i.stored ≡ kept_followed space_object.0 i0.stored
      stored = same_stored i.stored (kept_followed space_object.0 i0.stored) (sym i.found ∙ old_kept all d s rising n space_object.0 i0.stored space_object.1.0 space_object.1.1 old_n i0.found)

      held : i.held ≡ i0.held
      held = same_data i.held i0.held
          (sym i.body ∙ ap (λ (y : Stored). data_of y.object.body) stored ∙ ap data_of (data_body_after space_object.0.body i0.stored.object.body data_body.0 data_body.1) ∙ i0.body)

      front : f.stored ≡ kept_followed journal_object.0 f0.stored
      front = same_stored f.stored (kept_followed journal_object.0 f0.stored)
          (sym f.found ∙ old_kept all d s rising journal journal_object.0 f0.stored journal_object.1.0 journal_object.1.1 old_journal f0.found)

      list : f.journal ≡ f0.journal
      list = same_journal f.journal f0.journal
          (sym f.body ∙ ap (λ (y : Stored). journal_of y.object.body) front ∙ ap journal_of (journal_body_after journal_object.0.body f0.stored.object.body journal_body.0 journal_body.1) ∙ f0.body)

  -- in any case
  pub found_next : (h0 : Held) (units0 : UnitMap) → AreImaged h0 units0 d (λ m. false) → AreLinked h0 → journal_for h0 n ≡ Some journal → found_entry d n at ≡ x → found_entry next n at ≡ x
  found_next h0 units0 before linked0 to0 was = by (list_any (is_whole journal) all) refl (list_any (is_whole n) all) refl
    where
      by : (b : Bool) → list_any (is_whole journal) all ≡ b → (c : Bool) → list_any (is_whole n) all ≡ c → found_entry next n at ≡ x
      by true p c q = found_whole p
      by false p true q = found_image q
      by false p false q = found_old h0 units0 before linked0 to0 q p was

-- ---- what a unit has changed

-- it is found as it was before, where all entries of the journal space are kept
pub uncommitted_found : (s : State) (d : Durable) (n at block : ℕ) (unit : CommitUnit) (c : UnitChange) → AreSound s d → unit_of s.units block ≡ Some unit → first_in n at unit.changes ≡ Some c → IsJournalKept s d n
    → found_entry d n at ≡ c.before
uncommitted_found s d n at block unit c sound has first all_kept = by (journal_for s.held n) refl (owned s.held s.units block n at unit sound.right has (first_has n at unit.changes c first)).journaled
  where
    by : (r : Option ℕ) → journal_for s.held n ≡ r → is_some r ≡ true → found_entry d n at ≡ c.before
    by None is some = absurd (let e : false ≡ true = some in cc)
    by (Some journal) is some =
        let parts = chain_of s.held s.units d n journal sound.kept sound.linked is in
        let i = parts.0 in
        let f = parts.1.0 in
        found_by d n at i.stored i.held f.journal parts.1.1
        ∙ ap (λ (xs : List JournalRecord). redone_at i.held.space.fields n i.stored.sequence xs at (entry_at i.held.space.entries at)) (all_kept journal f.stored f.journal is f.found f.body)
        ∙ ap (λ (fs : List Attr). redone_at fs n i.stored.sequence (entries_at s.held journal) at (entry_at i.held.space.entries at)) i.image.fields
        ∙ i.image.before at block unit c has first
