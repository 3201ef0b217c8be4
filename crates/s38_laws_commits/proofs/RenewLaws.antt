-- What a step must persist goes on as the rest does.
use Rattle.std.proofs.Common.{◌==◌, ◌∙◌, ◌∷◌, ◌≡◌, ◌++◌, ◌+◌, ◌≤◌, Bool, List, [], ap, arith, cond, false, length, map, refl, subst, suc, sym, true, zero, ℕ}
use Rattle.std.proofs.lemmas.Bool.Decides.{nat_tests}
use Rattle.std.proofs.lemmas.Map.Keys.{sorted_from_strictly_increasing, sorted_head, sorted_tail}
use Rattle.std.specs.List.{AllByRecursion, flat_map, list_any}
use Rattle.std.specs.List.Sorted.{IsStrictlySortedBy}
use Rattle.std.specs.Option.{option_flatten, option_map, unwrap_or}
use Rattle.std.specs.Ordering.{nat_cmp}
use Rattle.std.specs.Prelude.{None, Option, Some, is_some, slice_get}
use Rattle.std.specs.declared.cmp.Ordering.TheVariants.{Less}
use Rattle.s38_base.specs.Limits.{body_limit}
use Rattle.s38_base.specs.declared.id.ObjNum.{ObjNum}
use Rattle.s38_commits.proofs.MapLaws.{nat_same}
use Rattle.s38_commits.specs.Changes.{has_change}
use Rattle.s38_commits.specs.Unit.{CommitUnit}
use Rattle.s38_commits.specs.Units.{BlocksRise, UnitMap, changes_entry, owner, unit_of}
use Rattle.s38_commits.specs.declared.change.UnitChange.{UnitChange}
use Rattle.s38_dataspaces.specs.Entries as spaces
use Rattle.s38_dataspaces.specs.Entries.{entry_at}
use Rattle.s38_dataspaces.specs.Table.{data_space_image_size}
use Rattle.s38_durable_state.specs.Durable.{Durable, body_after, durable_after, followed_or_whole, is_of_number, kept, kept_after, kept_by_force, last_sequence_in, whole_object, with_header_and_rows}
use Rattle.s38_durable_state.specs.Following.{NumbersRise, object_number}
use Rattle.s38_image.specs.Settled.{before_change, oldest_change_of, settled_body, settled_entries, settled_entry, settled_sequence, settled_table}
use Rattle.s38_image.specs.declared.stored.Stored.{Stored}
use Rattle.s38_journals.specs.Entries.{JournalRecord}
use Rattle.s38_journals.specs.Journals.{JournalList}
use Rattle.s38_rules.proofs.ChargeLaws.{found_number}
use Rattle.s38_rules.specs.store.Forcing.{Forced, is_whole}
use Rattle.s38_rules.specs.state.Held.{Held, disk_in, has_number, object, object_in}
use Rattle.s38_rules.specs.state.Journaling.{data_port_in, journal_for, journal_named, journal_of_port}
use Rattle.s38_rules.specs.state.Parts.{data_of, data_part, journal_of, journal_part, part_at, part_in, port_of, port_part}
use Rattle.s38_rules.specs.state.PartsAt.{no_journal, table_at, table_in}
use Rattle.s38_rules.specs.state.LawfulParts.{data_lawful, journal_lawful}
use Rattle.s38_rules.specs.state.State.{State}
use Rattle.s38_rules.specs.declared.data_body.DataBody.{DataBody}
use Rattle.s38_rules.specs.declared.object.Body.TheVariants as bodies
use Rattle.s38_rules.specs.declared.object.Body.{Body}
use Rattle.s38_rules.specs.declared.object.Object.{Object}
use Rattle.s38_rules.specs.declared.port.Port.{Port}
use Rattle.s38_laws_units.specs.Right.{AreRight}
use Rattle.s38_laws_units.proofs.LoggingLaws.{journaled_there}
use Rattle.s38_laws_commits.proofs.GoingLaws.{never}
use Rattle.s38_laws_commits.proofs.ImageLaws.{IsTaken, image_taken}
use Rattle.s38_laws_units.proofs.JoinLaws.{found_is, none_is}
use Rattle.s38_laws_commits.proofs.ToldLaws.{first_has}
use Rattle.s38_laws_units.proofs.UnitLaws.{Both, IsFoundIn, each_found}
use Rattle.s38_laws_commits.proofs.OwnedLaws.{IsOwned, owned}
use Rattle.s38_laws_commits.specs.Imaged.{AreImaged, IsFrontKept, IsImageKept, IsPortKept}
use Rattle.s38_laws_commits.specs.Linked.{AreLinked}
use Rattle.s38_laws_commits.specs.Told.{AreTold, IsSmall, IsTableImage, IsUntouched, entries_at, first_in}

-- ---- what is kept under a number after a step

-- what is kept of an object has its number
number_kept : (all : List Forced) (s : State) (old : Option Stored) (o : Object) → (kept_after all s old o).object.number ≡ o.number
number_kept all s old o = by (list_any (is_whole o.number.0) all) old
  where
    by : (b : Bool) (x : Option Stored) → (cond b (whole_object s o) (followed_or_whole s o x)).object.number ≡ o.number
    by true x = refl
    by false None = refl
    by false (Some x) = refl

-- what is kept of the object that a number leads to
abbrev pub kept_one : List Forced → State → List Stored → Option Object → Option Stored
kept_one all s old None = None
kept_one all s old (Some o) = cond o.on_disk (Some (kept_after all s (kept old o.number.0) o)) None

-- a number below all is that of none
none_below : (n : ℕ) (os : List Object) → AllByRecursion (λ k. nat_cmp n k ≡ Less) (map object_number os) → object_in os n ≡ None
none_below n [] above = refl
none_below n (o ∷ os) above =
    let here : nat_cmp n o.number.0 ≡ Less = above.0 in
    let off : (o.number.0 == n) ≡ false = grind (arith, nat_tests) in
    rw off (none_below n os above.1)

first_kept : (all : List Forced) (s : State) (old : List Stored) (o : Object) (os : List Object) (n : ℕ) → (has_number n o ≡ true → object_in os n ≡ None)
    → kept (flat_map (kept_by_force all s old) os) n ≡ kept_one all s old (object_in os n) → kept (kept_by_force all s old o ++ flat_map (kept_by_force all s old) os) n ≡ kept_one all s old (object_in (o ∷ os) n)
first_kept all s old o os n none rest = by o.on_disk refl (has_number n o) refl
  where
    x : Stored
    x = kept_after all s (kept old o.number.0) o

    same : is_of_number n x ≡ has_number n o
    same = ap (λ (k : ObjNum). k.0 == n) (number_kept all s (kept old o.number.0) o)

    by : (disk : Bool) → o.on_disk ≡ disk → (b : Bool) → has_number n o ≡ b → kept (cond disk (x ∷ []) [] ++ flat_map (kept_by_force all s old) os) n ≡ kept_one all s old (cond b (Some o) (object_in os n))
    by true on true is = rw (same, is, on) refl
    by true on false is = rw (same, is) rest
    by false off true is = rest ∙ ap (kept_one all s old) (none is) ∙ rw off refl
    by false off false is = rest

pub all_kept : (all : List Forced) (s : State) (old : List Stored) (os : List Object) (n : ℕ) → IsStrictlySortedBy nat_cmp (map object_number os)
    → kept (flat_map (kept_by_force all s old) os) n ≡ kept_one all s old (object_in os n)
all_kept all s old [] n rising = refl
all_kept all s old (o ∷ os) n rising =
    let above = sorted_head nat_cmp o.number.0 (map object_number os) rising in
    let rest = all_kept all s old os n (sorted_tail nat_cmp o.number.0 (map object_number os) rising) in
    first_kept all s old o os n (λ is. let here : o.number.0 ≡ n = grind (arith, nat_tests) in subst (λ (k : ℕ). object_in os k ≡ None) here (none_below o.number.0 os above)) rest

-- what is kept under a number after a step
pub kept_after_step : (all : List Forced) (d : Durable) (s : State) (n : ℕ) → NumbersRise s.held → kept (durable_after all d s).objects n ≡ kept_one all s d.objects (object s.held n)
kept_after_step all d s n rising = all_kept all s d.objects s.held.objects n (sorted_from_strictly_increasing (map object_number s.held.objects) rising)

-- ---- a table with every uncommitted change taken back

settled_get : (units : UnitMap) (n from : ℕ) (es : List spaces.DataEntry) (k : ℕ) → slice_get (settled_entries units n from es) k ≡ option_map (settled_entry units n (from + k)) (slice_get es k)
settled_get units n from [] k = refl
settled_get units n from (e ∷ es) zero = ap (λ (m : ℕ). Some (settled_entry units n m e)) (omega arith)
settled_get units n from (e ∷ es) (suc k) = settled_get units n (from + 1) es k ∙ ap (λ (m : ℕ). option_map (settled_entry units n m) (slice_get es k)) (omega arith)

settled_count : (units : UnitMap) (n from : ℕ) (es : List spaces.DataEntry) → length (settled_entries units n from es) ≡ length es
settled_count units n from [] = refl
settled_count units n from (e ∷ es) = ap (λ (m : ℕ). suc m) (settled_count units n (from + 1) es)

-- of an entry that is there
settled_there : (units : UnitMap) (n at : ℕ) (es : List spaces.DataEntry) → 1 ≤ at → at ≤ length es → entry_at (settled_entries units n 1 es) at ≡ settled_entry units n at (entry_at es at)
settled_there units n zero es first last = absurd (omega (arith, first))
settled_there units n (suc k) es first last =
    ap option_flatten (settled_get units n 1 es k) ∙ by (slice_get es k) refl ∙ ap (λ (m : ℕ). settled_entry units n m (option_flatten (slice_get es k))) (omega arith)
  where
    none_past : (xs : List spaces.DataEntry) (i : ℕ) → slice_get xs i ≡ None → length xs ≤ i
    none_past [] i e = omega arith
    none_past (x ∷ xs) zero e = absurd (let y : Some x ≡ None = e in cc)
    none_past (x ∷ xs) (suc i) e = let h = none_past xs i e in omega (arith, h)

    by : (r : Option spaces.DataEntry) → slice_get es k ≡ r → option_flatten (option_map (settled_entry units n (1 + k)) r) ≡ settled_entry units n (1 + k) (option_flatten r)
    by None is = absurd (let past = none_past es k is in omega (arith, past, last))
    by (Some e) is = refl

-- of one that no unit has changed
owner_none : (units : UnitMap) (n at : ℕ) → BlocksRise units → IsUntouched units n at → owner units n at ≡ None
owner_none units n at rising settled = by (owner units n at) refl
  where
    by : (r : Option Both) → owner units n at ≡ r → r ≡ None
    by None is = refl
    by (Some e) is =
        let own = found_is (IsFoundIn units) (λ x. has_change n at x.1.changes) units e (each_found units rising) is in
        never (changes_entry (unit_of units e.0) n at) (ap (λ r. changes_entry r n at) own.0 ∙ own.1) (settled e.0)

settled_free : (units : UnitMap) (n at : ℕ) (es : List spaces.DataEntry) → BlocksRise units → IsUntouched units n at → entry_at (settled_entries units n 1 es) at ≡ entry_at es at
settled_free units n zero es rising settled = refl
settled_free units n (suc k) es rising settled = ap option_flatten (settled_get units n 1 es k) ∙ by (slice_get es k)
  where
    same : (e : spaces.DataEntry) → settled_entry units n (1 + k) e ≡ e
    same e =
        let next : 1 + k ≡ suc k = omega arith in
        ap (λ (m : ℕ). settled_entry units n m e) next ∙ ap (λ r. before_change e (oldest_change_of n (suc k) r)) (owner_none units n (suc k) rising settled)

    by : (r : Option spaces.DataEntry) → option_flatten (option_map (settled_entry units n (1 + k)) r) ≡ option_flatten r
    by None = refl
    by (Some e) = same e

-- and of one that a unit has changed
settled_held : (h : Held) (units : UnitMap) (n at block : ℕ) (unit : CommitUnit) (c : UnitChange) → AreRight h units → unit_of units block ≡ Some unit → first_in n at unit.changes ≡ Some c
    → entry_at (settled_entries units n 1 (table_at h n).entries) at ≡ c.before
settled_held h units n at block unit c right found first =
    settled_there units n at (table_at h n).entries own.first own.last ∙ ap (before_change (entry_at (table_at h n).entries at)) (by (owner units n at) refl)
  where
    own : IsOwned h block n at
    own = owned h units block n at unit right found (first_has n at unit.changes c first)

    some : changes_entry (unit_of units block) n at ≡ true
    some = ap (λ r. changes_entry r n at) found ∙ first_has n at unit.changes c first

    by : (r : Option Both) → owner units n at ≡ r → oldest_change_of n at (owner units n at) ≡ Some c
    by None is = absurd (none_is n at block units is some)
    by (Some e) is =
        let mine = found_is (IsFoundIn units) (λ x. has_change n at x.1.changes) units e (each_found units right.rising) is in
        let same : e.0 ≡ block = right.apart e.0 block n at (ap (λ r. changes_entry r n at) mine.0 ∙ mine.1) some in
        let both : Some e.1 ≡ Some unit = sym mine.0 ∙ ap (unit_of units) same ∙ found in
        let one : e.1 ≡ unit = cc in
        ap (oldest_change_of n at) is ∙ ap (λ (u : CommitUnit). first_in n at u.changes) one ∙ first

-- ---- what a step must persist

port_settled : (units : UnitMap) (n : ℕ) (b : Body) → port_of (settled_body units n b) ≡ port_of b
port_settled units n (bodies.DataSpace d) = refl
port_settled units n (bodies.Journal j) = refl
port_settled units n _ = refl

port_behind : (b old : Body) (p : Port) → port_of b ≡ Some p → body_after b old ≡ old
port_behind (bodies.Profile special limit) old p is = absurd (let e : None ≡ Some p = is in cc)
port_behind _ old p is = refl

pub journal_body_after : (b old : Body) (j : JournalList) → journal_of b ≡ Some j → body_after b old ≡ old
journal_body_after (bodies.Profile special limit) old j is = absurd (let e : None ≡ Some j = is in cc)
journal_body_after _ old j is = refl

pub data_body_after : (b old : Body) (x : DataBody) → data_of b ≡ Some x → body_after b old ≡ old
data_body_after (bodies.Profile special limit) old x is = absurd (let e : None ≡ Some x = is in cc)
data_body_after _ old x is = refl

append_none : (xs : List JournalRecord) → xs ≡ xs ++ []
append_none [] = refl
append_none (x ∷ xs) = ap (λ (l : List JournalRecord). x ∷ l) (append_none xs)

module _ (all : List Forced) (d : Durable) (s : State) (rising : NumbersRise s.held) where
  abbrev next : Durable
  next = durable_after all d s

  abbrev anew : ℕ → Bool
  anew n = list_any (is_whole n) all

  -- what is kept of an object on disk
  kept_now : (n : ℕ) (o : Object) → object s.held n ≡ Some o → o.on_disk ≡ true → kept next.objects n ≡ Some (cond (anew n) (whole_object s o) (followed_or_whole s o (kept d.objects n)))
  kept_now n o found on =
      let number : o.number.0 ≡ n = found_number n o s.held.objects found in
      kept_after_step all d s n rising ∙ ap (kept_one all s d.objects) found ∙ ap (λ b. cond b (Some (kept_after all s (kept d.objects o.number.0) o)) None) on
      ∙ ap (λ (m : ℕ). Some (cond (anew m) (whole_object s o) (followed_or_whole s o (kept d.objects m)))) number

  pub old_kept : (n : ℕ) (o : Object) (x : Stored) → object s.held n ≡ Some o → o.on_disk ≡ true → anew n ≡ false → kept d.objects n ≡ Some x → kept next.objects n ≡ Some (with_header_and_rows o x)
  old_kept n o x found on old is = kept_now n o found on ∙ ap (λ b. Some (cond b (whole_object s o) (followed_or_whole s o (kept d.objects n)))) old ∙ ap (λ r. Some (followed_or_whole s o r)) is

  pub new_kept : (n : ℕ) (o : Object) → object s.held n ≡ Some o → o.on_disk ≡ true → anew n ≡ true → kept next.objects n ≡ Some (whole_object s o)
  new_kept n o found on new = kept_now n o found on ∙ ap (λ b. Some (cond b (whole_object s o) (followed_or_whole s o (kept d.objects n)))) new

  -- what is no more is not kept
  pub gone_kept : (n : ℕ) → object s.held n ≡ None → kept next.objects n ≡ None
  gone_kept n found = kept_after_step all d s n rising ∙ ap (kept_one all s d.objects) found

module _ (all : List Forced) (d : Durable) (s : State) (rising : NumbersRise s.held) (right : AreRight s.held s.units) (linked : AreLinked s.held) (told : AreTold s.held s.units) where
  abbrev later : Durable
  later = durable_after all d s

  abbrev renews : ℕ → Bool
  renews n = list_any (is_whole n) all

  port_next : (n : ℕ) (p : Port) (r : Option Object) → object s.held n ≡ r → part_in port_part r ≡ Some p → disk_in r ≡ true → (b : Bool) → renews n ≡ b → (renews n ≡ false → IsPortKept d n p) → IsPortKept later n p
  port_next n p None found is on b new old = absurd (let e : None ≡ Some p = is in cc)
  port_next n p (Some o) found is on true new old = record { stored = whole_object s o; found = new_kept all d s rising n o found on new; body = port_settled s.units o.number.0 o.body ∙ is }
  port_next n p (Some o) found is on false new old =
      let x = old new in
      record { stored = with_header_and_rows o x.stored; found = old_kept all d s rising n o x.stored found on new x.found; body = ap port_of (port_behind o.body x.stored.object.body p is) ∙ x.body }

  journal_next : (n : ℕ) (r : Option Object) → object s.held n ≡ r → is_some (part_in journal_part r) ≡ true → disk_in r ≡ true → (b : Bool) → renews n ≡ b
      → (renews n ≡ false → IsFrontKept d n (unwrap_or (part_in journal_part r) no_journal).entries) → IsFrontKept later n (unwrap_or (part_in journal_part r) no_journal).entries
  journal_next n None found is on b new old = absurd (let e : false ≡ true = is in cc)
  journal_next n (Some o) found is on b new old = by (journal_of o.body) refl is b new old
    where
      by : (j : Option JournalList) → journal_of o.body ≡ j → is_some j ≡ true → (b : Bool) → renews n ≡ b → (renews n ≡ false → IsFrontKept d n (unwrap_or j no_journal).entries) → IsFrontKept later n (unwrap_or j no_journal).entries
      by None own some b new old = absurd (let e : false ≡ true = some in cc)
      by (Some j) own some true new old =
          let body : o.body ≡ bodies.Journal j = journal_lawful.back o.body j own in
          record {
            stored = whole_object s o;
            journal = record j { spare = 0; unforced = 0 };
            rest = [];
            found = new_kept all d s rising n o found on new;
            body = ap (λ (b : Body). journal_of (settled_body s.units o.number.0 b)) body;
            all = append_none j.entries;
          }
      by (Some j) own some false new old =
          let x = old new in
          record {
            stored = with_header_and_rows o x.stored;
            journal = x.journal;
            rest = x.rest;
            found = old_kept all d s rising n o x.stored found on new x.found;
            body = ap journal_of (journal_body_after o.body x.stored.object.body j own) ∙ x.body;
            all = x.all;
          }

  -- the image of the current data space
  taken : (n : ℕ) (x : DataBody) → part_at data_part s.held n ≡ Some x → IsTaken s.units (table_at s.held n) n (settled_table s.units n x.space)
  taken n x is = record {
    fields = ap (λ r. (table_in r).fields) (sym is);
    small = subst (λ (c : ℕ). data_space_image_size x.space.fields c ≤ body_limit) (sym (settled_count s.units n 1 x.space.entries)) (subst (λ r. IsSmall (table_in r)) is (told.small n));
    free = λ at settled. settled_free s.units n at x.space.entries right.rising settled ∙ ap (λ r. entry_at (table_in r).entries at) (sym is);
    held = λ at block unit c found first. ap (λ r. entry_at (settled_entries s.units n 1 (table_in r).entries) at) (sym is) ∙ settled_held s.held s.units n at block unit c right found first;
  }

  pub some_port : (n journal : ℕ) (x : DataBody) → part_at data_part s.held n ≡ Some x → journal_for s.held n ≡ Some journal → (x.port.0 == 0) ≡ false
  some_port n journal x is to = by (x.port.0 == 0) refl
    where
      leads : journal_of_port s.held x.port.0 ≡ Some journal
      leads = ap (λ r. journal_of_port s.held (data_port_in r)) (sym is) ∙ to

      by : (b : Bool) → (x.port.0 == 0) ≡ b → b ≡ false
      by false off = refl
      by true zero_is =
          let nothing : journal_of_port s.held 0 ≡ None = ap (λ r. journal_named s.held (part_in port_part r)) right.unused.none in
          absurd (let e : None ≡ Some journal = sym nothing ∙ ap (journal_of_port s.held) (sym (nat_same x.port.0 0 zero_is)) ∙ leads in cc)

  space_next : (n journal : ℕ) (r : Option Object) → object s.held n ≡ r → is_some (part_in data_part r) ≡ true → disk_in r ≡ true → journal_for s.held n ≡ Some journal → (b : Bool) → renews n ≡ b
      → (renews n ≡ false → IsImageKept s.held s.units d n journal) → IsImageKept s.held s.units later n journal
  space_next n journal None found is on to b new old = absurd (let e : false ≡ true = is in cc)
  space_next n journal (Some o) found is on to b new old = by (data_of o.body) refl is b new old
    where
      number : o.number.0 ≡ n
      number = found_number n o s.held.objects found

      by : (r : Option DataBody) → data_of o.body ≡ r → is_some r ≡ true → (b : Bool) → renews n ≡ b → (renews n ≡ false → IsImageKept s.held s.units d n journal) → IsImageKept s.held s.units later n journal
      by None own some b new old = absurd (let e : false ≡ true = some in cc)
      by (Some x) own some true new old =
          let body : o.body ≡ bodies.DataSpace x = data_lawful.back o.body x own in
          let at : part_at data_part s.held n ≡ Some x = ap (part_in data_part) found ∙ own in
          let count : (whole_object s o).sequence ≡ length (entries_at s.held journal) =
          ap (λ (b : Body). settled_sequence (last_sequence_in s.held (journal_for s.held o.number.0)) b) body
          ∙ ap (λ b. cond b 0 (last_sequence_in s.held (journal_for s.held o.number.0))) (some_port n journal x at to)
          ∙ ap (λ (m : ℕ). last_sequence_in s.held (journal_for s.held m)) number ∙ ap (last_sequence_in s.held) to in
          record {
            stored = whole_object s o;
            held = record x { space = settled_table s.units n x.space };
            found = new_kept all d s rising n o found on new;
            body = ap (λ (b : Body). data_of (settled_body s.units o.number.0 b)) body ∙ ap (λ (m : ℕ). Some (record x { space = settled_table s.units m x.space })) number;
            port = ap data_port_in (sym at);
            image = subst (λ (c : ℕ). IsTableImage s.units (entries_at s.held journal) (table_at s.held n) n c (settled_table s.units n x.space)) (sym count)
                (image_taken s.units (entries_at s.held journal) (table_at s.held) n (settled_table s.units n x.space) (taken n x at)
                (λ block unit i c has first. told.each block journal unit has ((owned s.held s.units block n i unit right has (first_has n i unit.changes c first)).leads ∙ to)));
          }
      by (Some x) own some false new old =
          let y = old new in
          record {
            stored = with_header_and_rows o y.stored;
            held = y.held;
            found = old_kept all d s rising n o y.stored found on new y.found;
            body = ap data_of (data_body_after o.body y.stored.object.body x own) ∙ y.body;
            port = y.port;
            image = y.image;
          }

  pub renewed : AreImaged s.held s.units d renews → AreImaged s.held s.units later (λ n. false)
  renewed are = record {
    port = λ n p _ is on. port_next n p (object s.held n) refl is on (renews n) refl (λ old. are.port n p old is on);
    journal = λ n _ is on. journal_next n (object s.held n) refl is on (renews n) refl (λ old. are.journal n old is on);
    space = λ n journal _ to. space_next n journal (object s.held n) refl (journaled_there s.held n journal right.unused to) (linked.disk n journal to) to (renews n) refl (λ old. are.space n journal old to);
  }
