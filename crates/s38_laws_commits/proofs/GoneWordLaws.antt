-- The word of change that destroys an object: what is kept goes on with it.
use Rattle.std.proofs.Common.{◌≡◌, ◌∙◌, ◌⊎◌, ℕ, ◌==◌, Bool, true, false, cond, inl, inr, List, [], ◌∷◌, refl, sym, ap, subst}
use Rattle.std.proofs.lemmas.List.Elements.{All-cons, All-nil}
use Rattle.std.specs.List.{list_any}
use Rattle.std.specs.Option.{unwrap_or}
use Rattle.std.specs.Prelude.{◌&&◌, ◌||◌, All, None, Option, Some, is_some}
use Rattle.s38_base.specs.Ids.{same_kind}
use Rattle.s38_base.specs.declared.id.Kind.TheVariants as kinds
use Rattle.s38_base.specs.declared.id.Kind.{Kind}
use Rattle.s38_commits.proofs.MapLaws.{nat_same}
use Rattle.s38_commits.specs.Changes.{has_change, has_change_in}
use Rattle.s38_commits.specs.Unit.{CommitUnit}
use Rattle.s38_commits.specs.Units.{UnitMap, is_space_changed, is_unit_in, unit_of}
use Rattle.s38_commits.specs.declared.change.UnitChange.{UnitChange}
use Rattle.s38_durable_state.specs.Durable.{Durable}
use Rattle.s38_journals.specs.Journals.{JournalList}
use Rattle.s38_rules.proofs.ChargeLaws.{object_without}
use Rattle.s38_rules.specs.families.Creation.{destroyed, is_of_kind}
use Rattle.s38_rules.specs.state.Held.{Held, disk_in, is_on_disk, kind_of, object, without}
use Rattle.s38_rules.specs.state.Journaling.{block_port_in, data_port_in, is_journal, journal_for_block, journal_named, journal_of_port}
use Rattle.s38_rules.specs.state.Parts.{block_part, data_of, data_part, journal_part, part_at, part_in, port_part}
use Rattle.s38_rules.specs.state.PartsAt.{no_journal, table_at, table_in}
use Rattle.s38_rules.specs.declared.block.Block.{Block}
use Rattle.s38_rules.specs.declared.data_body.DataBody.{DataBody}
use Rattle.s38_rules.specs.declared.object.Body.TheVariants as bodies
use Rattle.s38_rules.specs.declared.object.Body.{Body}
use Rattle.s38_rules.specs.declared.object.Object.{Object}
use Rattle.s38_laws_units.specs.Right.{AreRight}
use Rattle.s38_laws_commits.proofs.GoingLaws.{IsGoing, never}
use Rattle.s38_laws_units.proofs.HeldLaws.{part_without}
use Rattle.s38_laws_commits.proofs.MoveLaws.{kept_stays, told_stays}
use Rattle.s38_laws_commits.proofs.NewLaws.{gone_for, gone_part, gone_port_journal, linked_gone}
use Rattle.s38_laws_units.proofs.UnitLaws.{all_found}
use Rattle.s38_laws_commits.proofs.OwnedLaws.{owned}
use Rattle.s38_laws_commits.specs.Imaged.{AreImaged}
use Rattle.s38_laws_commits.specs.Told.{AreTold, IsSmall, entries_at}
use Rattle.s38_laws_commits.proofs.MadeWordLaws.{none_small}

-- of a data space that is destroyed no unit has changed an entry
abbrev pub IsFreeOf : UnitMap → Kind → ℕ → Type 0
IsFreeOf units kinds.DataSpace n = is_space_changed units n ≡ false
IsFreeOf units _ n = Unit {0}

none_each : {A : Type 0} (test : A → Bool) (xs : List A) → list_any test xs ≡ false → All (λ x. test x ≡ false) xs
none_each test [] none = All-nil (λ x. test x ≡ false)
none_each test (x ∷ xs) none = All-cons (λ y. test y ≡ false) x xs (left (test x) none) (none_each test xs (right (test x) none))
  where
    left : (b : Bool) → (b || list_any test xs) ≡ false → b ≡ false
    left true h = cc
    left false h = refl

    right : (b : Bool) → (b || list_any test xs) ≡ false → list_any test xs ≡ false
    right true h = cc
    right false h = h

in_space : (n at : ℕ) (cs : List UnitChange) → has_change n at cs ≡ true → has_change_in n cs ≡ true
in_space n at [] has = has
in_space n at (c ∷ cs) has = by (c.space.0 == n) (c.at == at) (in_space n at cs) has
  where
    by : (a b : Bool) → (has_change n at cs ≡ true → has_change_in n cs ≡ true) → ((a && b) || has_change n at cs) ≡ true → (a || has_change_in n cs) ≡ true
    by true b rest has = refl
    by false b rest has = rest has

no_change : (units : UnitMap) (n at block : ℕ) (unit : CommitUnit) → is_space_changed units n ≡ false → unit_of units block ≡ Some unit → has_change n at unit.changes ≡ true → ⊥
no_change units n at block unit none found has =
    let off : is_unit_in n (block, unit) ≡ false = all_found (λ e. is_unit_in n e ≡ false) units block unit (none_each (is_unit_in n) units none) found in
    never (has_change_in n unit.changes) (in_space n at unit.changes has) off

space_kind : (units : UnitMap) (kind : Kind) (n at block : ℕ) (unit : CommitUnit) (b : Body) → IsFreeOf units kind n → same_kind kind (kind_of b) ≡ true → is_some (data_of b) ≡ true
    → unit_of units block ≡ Some unit → has_change n at unit.changes ≡ true → ⊥
space_kind units kinds.DataSpace n at block unit (bodies.DataSpace d) free is data_is found has = no_change units n at block unit free found has
space_kind units _ n at block unit (bodies.DataSpace d) free is data_is found has = let e : false ≡ true = is in cc
space_kind units kind n at block unit _ free is data_is found has = let e : false ≡ true = data_is in cc

module _ (h : Held) (kind : Kind) (n : ℕ) (units : UnitMap) (free : IsFreeOf units kind n) (right : AreRight h units) (is_kind : is_of_kind kind (object h n) ≡ true) where
  abbrev pub less : Held
  less = without h n

  gone_entries : (m : ℕ) (b : Bool) → (n == m) ≡ b → entries_at less m ≡ (unwrap_or (cond b None (part_at journal_part h m)) no_journal).entries
  gone_entries m b is = ap (λ (r : Option JournalList). (unwrap_or r no_journal).entries) (part_without journal_part h n m ∙ ap (λ c. cond c None (part_at journal_part h m)) is)

  entries_or : (m : ℕ) → (entries_at less m ≡ entries_at h m) ⊎ (entries_at less m ≡ [])
  entries_or m = by (n == m) refl
    where
      by : (b : Bool) → (n == m) ≡ b → (entries_at less m ≡ entries_at h m) ⊎ (entries_at less m ≡ [])
      by true is = inr (gone_entries m true is)
      by false is = inl (gone_entries m false is)

  pub gone_table : (m : ℕ) → (n == m) ≡ false → table_at less m ≡ table_at h m
  gone_table m off = ap table_in (part_without data_part h n m ∙ ap (λ c. cond c None (part_at data_part h m)) off)

  -- the unit of a block goes where it went, to a journal space that is still there
  block_old : (block journal : ℕ) → journal_for_block less block ≡ Some journal → ((n == journal) ≡ false) × (journal_for_block h block ≡ Some journal)
  block_old block journal to = by (part_at block_part less block) refl to
    where
      by : (r : Option Block) → part_at block_part less block ≡ r → journal_of_port less (block_port_in r) ≡ Some journal → ((n == journal) ≡ false) × (journal_for_block h block ≡ Some journal)
      by None is to =
          absurd (let old = gone_port_journal h n 0 journal to in let e : None ≡ Some journal = sym (ap (λ r. journal_named h (part_in port_part r)) right.unused.none) ∙ old.2 in cc)
      by (Some b) is to =
          let old = gone_port_journal h n b.port.0 journal to in
          (old.1, ap (λ (r : Option Block). journal_of_port h (block_port_in r)) (gone_part h n block_part block b is).1 ∙ old.2)

  changed_off : (block m at : ℕ) (unit : CommitUnit) → unit_of units block ≡ Some unit → has_change m at unit.changes ≡ true → (n == m) ≡ false
  changed_off block m at unit found has = by (n == m) refl
    where
      by : (b : Bool) → (n == m) ≡ b → b ≡ false
      by false is = refl
      by true is = absurd (here (object h n) refl is_kind (subst (λ (i : ℕ). is_some (part_at data_part h i) ≡ true) (sym same) (owned h units block m at unit right found has).there))
        where
          same : n ≡ m
          same = nat_same n m is

          here : (r : Option Object) → object h n ≡ r → is_of_kind kind r ≡ true → is_some (part_in data_part r) ≡ true → ⊥
          here None found_none kind_is data_is = let e : false ≡ true = data_is in cc
          here (Some o) found_some kind_is data_is =
              space_kind units kind n at block unit o.body free kind_is data_is found (subst (λ (i : ℕ). has_change i at unit.changes ≡ true) (sym same) has)

  gone_told : AreTold h units → AreTold less units
  gone_told told = told_stays h less units (record {
    entries = entries_or;
    leads = λ block journal unit found to. (block_old block journal to).1;
    same = λ block journal unit found to. gone_entries journal false (block_old block journal to).0;
    tables = λ block m at unit found has. gone_table m (changed_off block m at unit found has);
    small = λ m small. subst (λ r. IsSmall (table_in r)) (sym (part_without data_part h n m)) (by (n == m) (part_at data_part h m) small);
  }) told
    where
      by : (b : Bool) (r : Option DataBody) → IsSmall (table_in r) → IsSmall (table_in (cond b None r))
      by true r small = none_small
      by false r small = small

  gone_kept : (d : Durable) (anew : ℕ → Bool) → AreImaged h units d anew → AreImaged less units d anew
  gone_kept d anew are = kept_stays h less units d anew (record {
    fewer = λ m old on. disk_old m on;
    port = λ m p at on. (gone_part h n port_part m p at).1;
    journal = λ m at on. (journal_old m (part_at journal_part less m) refl at).1;
    entries = λ m at on. gone_entries m false (journal_old m (part_at journal_part less m) refl at).0;
    leads = λ m journal old to. (gone_for h n right.unused m journal to).3;
    same = λ m journal old to. gone_entries journal false (gone_for h n right.unused m journal to).2;
    table = λ m journal old to. gone_table m (gone_for h n right.unused m journal to).0;
    to = λ m journal old to. ap data_port_in (part_without data_part h n m ∙ ap (λ c. cond c None (part_at data_part h m)) (gone_for h n right.unused m journal to).0);
  }) are
    where
      disk_old : (m : ℕ) → is_on_disk less m ≡ true → is_on_disk h m ≡ true
      disk_old m on = by (n == m) (object h m) (sym (ap disk_in (object_without n m h.objects)) ∙ on)
        where
          by : (b : Bool) (r : Option Object) → disk_in (cond b None r) ≡ true → disk_in r ≡ true
          by true r on = absurd (let e : false ≡ true = on in cc)
          by false r on = on

      journal_old : (m : ℕ) (r : Option JournalList) → part_at journal_part less m ≡ r → is_some r ≡ true → ((n == m) ≡ false) × (is_journal h m ≡ true)
      journal_old m None is some = absurd (let e : false ≡ true = some in cc)
      journal_old m (Some j) is some = let old = gone_part h n journal_part m j is in (old.0, ap is_some old.1)

pub gone_going : (h : Held) (kind : Kind) (n : ℕ) (units : UnitMap) (d : Durable) (anew : ℕ → Bool) → IsFreeOf units kind n → AreRight (destroyed h kind n) units → IsGoing h units d anew → IsGoing (destroyed h kind n) units d anew
gone_going h kind n units d anew free right going = by (is_of_kind kind (object h n)) refl right
  where
    by : (b : Bool) → is_of_kind kind (object h n) ≡ b → AreRight (cond b (without h n) h) units → IsGoing (cond b (without h n) h) units d anew
    by true is right = record {
      right = right;
      linked = linked_gone h n going.linked going.right.unused;
      told = gone_told h kind n units free going.right is going.told;
      kept = gone_kept h kind n units free going.right is d anew going.kept;
    }
    by false is right = going
