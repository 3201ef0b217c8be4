-- An entry that no unit holds stays where another one changes, and where objects are made or destroyed.
use Rattle.std.proofs.Common.{◌≡◌, ◌∙◌, ℕ, ◌==◌, Bool, true, false, cond, List, refl, sym, ap, subst, arith}
use Rattle.std.proofs.lemmas.Bool.Decides.{nat_tests}
use Rattle.std.specs.Prelude.{◌||◌, None, Option, Some, is_some}
use Rattle.s38_base.specs.Ids.{same_kind}
use Rattle.s38_base.specs.declared.id.Id.{Id}
use Rattle.s38_base.specs.declared.id.Kind.TheVariants as kinds
use Rattle.s38_base.specs.declared.id.Kind.{Kind}
use Rattle.s38_base.specs.declared.id.ObjNum.{ObjNum}
use Rattle.s38_commits.proofs.JoinLaws.{empty_unit}
use Rattle.s38_commits.proofs.MapLaws.{nat_same}
use Rattle.s38_commits.specs.Changes.{has_change, is_of_entry}
use Rattle.s38_commits.specs.Unit.{CommitUnit, noted}
use Rattle.s38_commits.specs.Units.{UnitMap, changes_entry, changes_of, unit_of, with_change_joined}
use Rattle.s38_commits.specs.declared.change.UnitChange.{UnitChange}
use Rattle.s38_dataspaces.specs.Entries as spaces
use Rattle.s38_dataspaces.specs.Entries.{entry_at}
use Rattle.s38_dataspaces.specs.Table.{DataTable}
use Rattle.s38_durable_state.specs.Durable.{Durable}
use Rattle.s38_journals.specs.Journals as journals
use Rattle.s38_rules.specs.families.Changes.{Ensured, Journaled, Then, done}
use Rattle.s38_rules.specs.families.Changing.{logged, logged_in, next_sequence, number_for, units_after}
use Rattle.s38_rules.specs.families.Creation.{created, creation_changes, destroyed, is_of_kind, new_object}
use Rattle.s38_rules.specs.state.Held.{Held, kind_of, object, without}
use Rattle.s38_rules.specs.state.Invocations.{restack_at}
use Rattle.s38_rules.specs.state.Journaling.{data_port, data_port_in, is_journal, journal_for, journal_named, journal_of_port}
use Rattle.s38_rules.specs.families.Ports.{is_data_of, names_port, port_is_used}
use Rattle.s38_rules.specs.state.Parts.{data_of, data_part, journal_of, journal_part, part_at, part_in, port_of, port_part}
use Rattle.s38_rules.specs.state.PartsAt.{journal_at, on_table, table_at, table_in}
use Rattle.s38_rules.specs.state.State.{State}
use Rattle.s38_rules.specs.declared.creating.Creating.{Creating}
use Rattle.s38_rules.specs.declared.object.Body.TheVariants as bodies
use Rattle.s38_rules.specs.declared.object.Body.{Body}
use Rattle.s38_rules.specs.declared.object.Object.{Object}
use Rattle.s38_rules.specs.declared.port.Port.{Port}
use Rattle.s38_rules.specs.declared.process.ProcessEntry.{ProcessEntry}
use Rattle.s38_laws_units.specs.Right.{IsRight}
use Rattle.s38_laws_units.proofs.LoggingLaws.{journaled_there}
use Rattle.s38_laws_commits.proofs.CountLaws.{any_more}
use Rattle.s38_laws_units.proofs.DestroyLaws.{found_not, leads_not}
use Rattle.s38_laws_commits.proofs.EnteredLaws.{TellsEntry, entered_keeps, entry_made, other_table}
use Rattle.s38_laws_commits.proofs.GoingLaws.{IsGoing, JournalsTo, for_off, never, to_table}
use Rattle.s38_laws_units.proofs.HeldLaws.{part_without}
use Rattle.s38_laws_units.proofs.JoinLaws.{HasNow, more_has, new_has}
use Rattle.s38_laws_commits.proofs.LinkLaws.{Quiet, Still, keeps_for, keeps_table, port_journal_there}
use Rattle.s38_laws_commits.proofs.NewLaws.{made_for, made_part, there_given}
use Rattle.s38_laws_units.proofs.RowLaws.{IsUnnamedBy}
use Rattle.s38_laws_commits.proofs.MadeWordLaws.{IsNewBody, new_of}
use Rattle.s38_laws_commits.specs.Told.{IsUntouched}

-- no unit has changed the entry; it holds this; and its data space is journaled in this journal space
pub record HoldsCommitted (h : Held) (units : UnitMap) (n at journal : ℕ) (x : spaces.DataEntry) : Type 0 where
  pub settled : IsUntouched units n at
  pub now : entry_at (table_at h n).entries at ≡ x
  pub to : journal_for h n ≡ Some journal

module _ (n at journal : ℕ) (x : spaces.DataEntry) where
  -- ---- where tables, links and units stay

  pub quiet_holds : (h k : Held) (units : UnitMap) → Quiet h k → HoldsCommitted h units n at journal x → HoldsCommitted k units n at journal x
  quiet_holds h k units quiet stands = record {
    settled = stands.settled;
    now = ap (λ r. entry_at (table_in r).entries at) (quiet.tables n) ∙ stands.now;
    to = keeps_for h k quiet.keeps n ∙ stands.to;
  }

  pub still_stands : (h k : Held) (units : UnitMap) → Still h k → HoldsCommitted h units n at journal x → HoldsCommitted k units n at journal x
  still_stands h k units still stands = quiet_holds h k units still.quiet stands

  pub restacked_stands : (f : List ObjNum → List ObjNum) (s : State) (p : ℕ) (y : Option ProcessEntry) → HoldsCommitted s.held s.units n at journal x → HoldsCommitted (restack_at f s p y).held (restack_at f s p y).units n at journal x
  restacked_stands f s p None stands = stands
  restacked_stands f s p (Some y) stands = stands

  -- ---- an entry is another one

  joined_settled : (units new : UnitMap) (block : ℕ) (unit : CommitUnit) (change : UnitChange) → HasNow units new block (noted change unit) → changes_of (unit_of units block) ≡ unit.changes → is_of_entry n at change ≡ false → IsUntouched units n at → IsUntouched new n at
  joined_settled units new block unit change has same off settled k = ap (λ r. changes_entry r n at) (has k) ∙ by (block == k)
    where
      own : (r : Option CommitUnit) → changes_of r ≡ unit.changes → changes_entry r n at ≡ false → has_change n at unit.changes ≡ false
      own None e none = sym (ap (has_change n at) e)
      own (Some u) e none = sym (ap (has_change n at) e) ∙ none

      by : (b : Bool) → changes_entry (cond b (Some (noted change unit)) (unit_of units k)) n at ≡ false
      by true = any_more (is_of_entry n at) unit.changes change ∙ ap (λ (b : Bool). b || is_of_entry n at change) (own (unit_of units block) same (settled block)) ∙ off
      by false = settled k

  behind_settled : (units : UnitMap) (p block number : ℕ) (change : UnitChange) → is_of_entry n at change ≡ false → IsUntouched units n at → IsUntouched (units_after units p block number change) n at
  behind_settled units p block number change off settled = by (block == 0)
    where
      in_unit : (r : Option CommitUnit) → unit_of units block ≡ r → IsUntouched (with_change_joined units block p number change) n at
      in_unit None found = joined_settled units (with_change_joined units block p number change) block (empty_unit p number) change (new_has units block p number change found) (ap changes_of found) off settled
      in_unit (Some unit) found = joined_settled units (with_change_joined units block p number change) block unit change (more_has units block p number change unit found) (ap changes_of found) off settled

      by : (b : Bool) → IsUntouched (cond b units (with_change_joined units block p number change)) n at
      by true = settled
      by false = in_unit (unit_of units block) refl

  pub entered_stands : (s : State) (p block : ℕ) (change : UnitChange) (t : DataTable → DataTable) (d : Durable) (anew : ℕ → Bool) → TellsEntry s block change t → IsGoing s.held s.units d anew → is_of_entry n at change ≡ false
      → HoldsCommitted s.held s.units n at journal x → HoldsCommitted (on_table (logged s p block change).held change.space.0 t) (logged s p block change).units n at journal x
  unfolding logged
  entered_stands s p block change t d anew tells going off stands = by (journal_for s.held change.space.0) refl
    where
      by : (r : Option ℕ) → journal_for s.held change.space.0 ≡ r → HoldsCommitted (on_table (logged_in s p block change r).held change.space.0 t) (logged_in s p block change r).units n at journal x
      by None is = record {
        settled = stands.settled;
        now = ap (λ (y : DataTable). entry_at y.entries at) (other_table s block change t going.right tells is n (apart (change.space.0 == n) refl)) ∙ stands.now;
        to = keeps_for s.held (on_table s.held change.space.0 t) (keeps_table s.held change.space.0 t) n ∙ stands.to;
      }
        where
          apart : (b : Bool) → (change.space.0 == n) ≡ b → b ≡ false
          apart false e = refl
          apart true e = absurd (let y : None ≡ Some journal = sym is ∙ ap (journal_for s.held) (nat_same change.space.0 n e) ∙ stands.to in cc)
      by (Some to) is = record {
        settled = behind_settled s.units p block (number_for s.units block (next_sequence (journal_at s.held to))) change off stands.settled;
        now = (entry_made s p block to change t going.right going.told tells is).others n at off ∙ stands.now;
        to = keeps_for s.held _ (entered_keeps s p block to change t going.right going.told tells is) n ∙ stands.to;
      }

  -- ---- objects are journaled, made and destroyed

  pub journaled_stands : (s : State) (p m port : ℕ) → JournalsTo s.held m port m → HoldsCommitted s.held s.units n at journal x
      → HoldsCommitted (done s p (Then (Journaled m port) (Ensured m))).held (done s p (Then (Journaled m port) (Ensured m))).units n at journal x
  journaled_stands s p m port journals stands = record {
    settled = stands.settled;
    now = ap (λ (y : DataTable). entry_at y.entries at) (to_table s.held m port s.units journals n) ∙ stands.now;
    to = for_off s.held m port s.units journals n (apart (m == n) refl) ∙ stands.to;
  }
    where
      apart : (b : Bool) → (m == n) ≡ b → b ≡ false
      apart false e = refl
      apart true e =
          let some : is_some (journal_for s.held m) ≡ true = ap (λ (i : ℕ). is_some (journal_for s.held i)) (nat_same m n e) ∙ ap is_some stands.to in
          never (is_some (journal_for s.held m)) some journals.none

  -- what is there was given
  given_here : (h : Held) (units : UnitMap) (d : Durable) (anew : ℕ → Bool) → IsGoing h units d anew → journal_for h n ≡ Some journal → (h.next == n) ≡ false
  given_here h units d anew going to = by (object h n) refl (journaled_there h n journal going.right.unused to)
    where
      by : (r : Option Object) → object h n ≡ r → is_some (part_in data_part r) ≡ true → (h.next == n) ≡ false
      by None found there = absurd (let e : false ≡ true = there in cc)
      by (Some o) found there = let less = there_given h.objects h.next n o going.linked.given found in grind (arith, nat_tests, less)

  pub made_stands : (h : Held) (owner : ℕ) (made : Creating) (body : Body) (units : UnitMap) (d : Durable) (anew : ℕ → Bool) → IsNewBody body → IsGoing h units d anew → HoldsCommitted h units n at journal x
      → HoldsCommitted (creation_changes h owner made body) units n at journal x
  unfolding creation_changes
  made_stands h owner made body units d anew new going stands = by made.id
    where
      by : (id : Option Id) → HoldsCommitted (created h owner made body id) units n at journal x
      by None = stands
      by (Some id) =
          let y = new_object h owner made id body in
          let off = given_here h units d anew going stands.to in
          record {
            settled = stands.settled;
            now = ap (λ r. entry_at (table_in r).entries at) (made_part h y going.linked going.right.unused refl (new_of body new) data_part n ∙ ap (λ b. cond b (data_of body) (part_at data_part h n)) off) ∙ stands.now;
            to = made_for h y going.linked going.right.unused refl (new_of body new) n ∙ ap (λ b. cond b None (journal_for h n)) off ∙ stands.to;
          }

  -- of the kind of a body
  port_kind : (kind : Kind) (b : Body) (p : Port) → same_kind kind (kind_of b) ≡ true → port_of b ≡ Some p → kind ≡ kinds.Port
  port_kind kinds.Port b p is of = refl
  port_kind _ (bodies.Port q) p is of = absurd (let e : false ≡ true = is in cc)
  port_kind kind _ p is of = absurd (let e : None ≡ Some p = of in cc)

  journal_kind : (kind : Kind) (b : Body) → same_kind kind (kind_of b) ≡ true → is_some (journal_of b) ≡ true → kind ≡ kinds.Journal
  journal_kind kinds.Journal b is of = refl
  journal_kind _ (bodies.Journal j) is of = absurd (let e : false ≡ true = is in cc)
  journal_kind kind _ is of = absurd (let e : false ≡ true = of in cc)

  differ : (a b : ℕ) → (a == b) ≡ false → a ≡ b → ⊥
  differ a b off same = grind (arith, nat_tests)

  -- what is destroyed is neither its port nor its journal space
  module _ (s : State) (kind : Kind) (m : ℕ) (may : IsUnnamedBy s kind m) (right : IsRight s) (is_kind : is_of_kind kind (object s.held m) ≡ true) (off : (m == n) ≡ false) (to : journal_for s.held n ≡ Some journal) where
    abbrev h : Held
    h = s.held

    abbrev less : Held
    less = without s.held m

    used_not : port_is_used h m ≡ false → m ≡ data_port h n → ⊥
    used_not none same = by (object h n) refl (journaled_there h n journal right.unused to)
      where
        body : (b : Body) → is_data_of m b ≡ false → is_some (data_of b) ≡ true → m ≡ data_port_in (data_of b) → ⊥
        body (bodies.DataSpace y) e some f = differ y.port.0 m e (sym f)
        body _ e some f = let x : false ≡ true = some in cc

        by : (r : Option Object) → object h n ≡ r → is_some (part_in data_part r) ≡ true → ⊥
        by None found there = let e : false ≡ true = there in cc
        by (Some o) found there = body o.body (found_not (names_port m) n h.objects o found none) there (same ∙ ap (λ r. data_port_in (part_in data_part r)) found)

    port_off : (m == data_port h n) ≡ false
    port_off = by (m == data_port h n) refl
      where
        kind_port : (r : Option Object) → object h m ≡ r → is_of_kind kind r ≡ true → (q : Port) → part_in port_part r ≡ Some q → kind ≡ kinds.Port
        kind_port None found is q of = absurd (let e : None ≡ Some q = of in cc)
        kind_port (Some o) found is q of = port_kind kind o.body q is of

        there : (r : Option Port) → part_at port_part h (data_port h n) ≡ r → journal_named h r ≡ Some journal → m ≡ data_port h n → ⊥
        there None is leads same = let e : None ≡ Some journal = leads in cc
        there (Some q) is leads same =
            let own : kind ≡ kinds.Port = kind_port (object h m) refl is_kind q (ap (part_at port_part h) same ∙ is) in
            used_not (subst (λ (k : Kind). IsUnnamedBy s k m) own may) same

        by : (b : Bool) → (m == data_port h n) ≡ b → b ≡ false
        by false e = refl
        by true e = absurd (there (part_at port_part h (data_port h n)) refl to (nat_same m (data_port h n) e))

    journal_off : (m == journal) ≡ false
    journal_off = by (m == journal) refl
      where
        kind_journal : (r : Option Object) → object h m ≡ r → is_of_kind kind r ≡ true → is_some (part_in journal_part r) ≡ true → kind ≡ kinds.Journal
        kind_journal None found is of = absurd (let e : false ≡ true = of in cc)
        kind_journal (Some o) found is of = journal_kind kind o.body is of

        wrong : m ≡ journal → ⊥
        wrong same =
            let own : kind ≡ kinds.Journal = kind_journal (object h m) refl is_kind (ap (λ (i : ℕ). is_some (part_at journal_part h i)) same ∙ port_journal_there h (data_port h n) journal to) in
            leads_not h m (data_port h n) (object h (data_port h n)) refl (subst (λ (k : Kind). IsUnnamedBy s k m) own may) (to ∙ ap (λ (i : ℕ). Some i) (sym same))

        by : (b : Bool) → (m == journal) ≡ b → b ≡ false
        by false e = refl
        by true e = absurd (wrong (nat_same m journal e))

    without_stands : HoldsCommitted s.held s.units n at journal x → HoldsCommitted less s.units n at journal x
    without_stands stands = record {
      settled = stands.settled;
      now = ap (λ r. entry_at (table_in r).entries at) (data_same) ∙ stands.now;
      to = ap (λ r. journal_of_port less (data_port_in r)) data_same ∙ ap (journal_named less) port_same ∙ still (part_at port_part h (data_port h n)) to;
    }
      where
        data_same : part_at data_part less n ≡ part_at data_part h n
        data_same = part_without data_part h m n ∙ ap (λ b. cond b None (part_at data_part h n)) off

        port_same : part_at port_part less (data_port h n) ≡ part_at port_part h (data_port h n)
        port_same = part_without port_part h m (data_port h n) ∙ ap (λ b. cond b None (part_at port_part h (data_port h n))) port_off

        journal_same : is_journal less journal ≡ is_journal h journal
        journal_same = ap is_some (part_without journal_part h m journal ∙ ap (λ b. cond b None (part_at journal_part h journal)) journal_off)

        at_number : (b : Bool) (i : ℕ) → is_journal h i ≡ b → cond b (Some i) None ≡ Some journal → cond (is_journal less i) (Some i) None ≡ Some journal
        at_number false i is e = absurd (let y : None ≡ Some journal = e in cc)
        at_number true i is e =
            let same : i ≡ journal = cc in
            ap (λ (b : Bool). cond b (Some i) None) (ap (is_journal less) same ∙ journal_same ∙ ap (is_journal h) (sym same) ∙ is) ∙ e

        still : (r : Option Port) → journal_named h r ≡ Some journal → journal_named less r ≡ Some journal
        still None e = absurd (let y : None ≡ Some journal = e in cc)
        still (Some q) e = at_number (is_journal h q.journal.0) q.journal.0 refl e

  pub gone_stands : (s : State) (kind : Kind) (m : ℕ) → IsUnnamedBy s kind m → IsRight s → (m == n) ≡ false → HoldsCommitted s.held s.units n at journal x → HoldsCommitted (destroyed s.held kind m) s.units n at journal x
  gone_stands s kind m may right off stands = by (is_of_kind kind (object s.held m)) refl
    where
      by : (b : Bool) → is_of_kind kind (object s.held m) ≡ b → HoldsCommitted (cond b (without s.held m) s.held) s.units n at journal x
      by true is = without_stands s kind m may right is off stands.to stands
      by false is = stands
