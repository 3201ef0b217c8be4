-- The word of change that makes an object: what is kept goes on with it.
use Rattle.std.proofs.Common.{◌≡◌, ◌∙◌, ◌⊎◌, ◌<◌, ℕ, ◌==◌, Bool, true, false, cond, inl, inr, [], ◌∷◌, ◌++◌, refl, sym, ap, subst, arith}
use Rattle.std.specs.List.{list_any}
use Rattle.std.specs.Option.{unwrap_or}
use Rattle.std.specs.Prelude.{None, Option, Some, is_some, nat_lt}
use Rattle.s38_base.specs.declared.id.Id.{Id}
use Rattle.s38_commits.proofs.MapLaws.{nat_same}
use Rattle.s38_commits.specs.Unit.{CommitUnit}
use Rattle.s38_commits.specs.Units.{UnitMap, unit_of}
use Rattle.s38_durable_state.specs.Durable.{Durable}
use Rattle.s38_journals.specs.Journals.{JournalList}
use Rattle.s38_rules.specs.ask.Authority.{is_profile}
use Rattle.s38_rules.specs.families.Creation.{created, creation_changes, new_object}
use Rattle.s38_rules.specs.store.Forcing.{Ceiling, Whole, creation_forces, is_whole}
use Rattle.s38_rules.specs.state.Held.{Held, disk_in, is_on_disk, object, with_object}
use Rattle.s38_rules.specs.state.Journaling.{block_port, data_port, data_port_in, is_journal, journal_for, journal_for_block}
use Rattle.s38_rules.specs.state.Parts.{data_of, data_part, journal_of, journal_part, part_at, part_in, port_of, port_part}
use Rattle.s38_rules.specs.state.PartsAt.{no_journal, no_table, table_at, table_in}
use Rattle.s38_rules.specs.declared.creating.Creating.{Creating}
use Rattle.s38_rules.specs.declared.object.Body.TheVariants as bodies
use Rattle.s38_rules.specs.declared.object.Body.{Body}
use Rattle.s38_rules.specs.declared.object.Object.{Object}
use Rattle.s38_rules.specs.declared.port.Port.{Port}
use Rattle.s38_laws_units.specs.Right.{AreRight, IsUnit}
use Rattle.s38_laws_commits.proofs.GoingLaws.{Covers, IsGoing, first_whole, never}
use Rattle.s38_laws_commits.proofs.LinkLaws.{port_journal_there}
use Rattle.s38_laws_commits.proofs.MoveLaws.{kept_stays, told_stays}
use Rattle.s38_laws_commits.proofs.NewLaws.{IsNew, linked_made, made_block, made_journaled, made_object, made_old, made_part, there_given}
use Rattle.s38_laws_units.proofs.UnitLaws.{all_found}
use Rattle.s38_laws_commits.proofs.OwnedLaws.{owned}
use Rattle.s38_laws_commits.specs.Imaged.{AreImaged}
use Rattle.s38_laws_commits.specs.Linked.{AreLinked}
use Rattle.s38_laws_commits.specs.Told.{AreTold, IsSmall, entries_at}

-- a new body has no port and no entry
abbrev pub IsNewBody : Body → Type 0
IsNewBody (bodies.DataSpace d) = (d.port.0 ≡ 0) × IsSmall d.space
IsNewBody (bodies.Journal j) = j.entries ≡ []
IsNewBody _ = Unit {0}

pub none_small : IsSmall no_table
none_small = omega arith

pub new_of : (b : Body) → IsNewBody b → IsNew b
new_of (bodies.DataSpace d) is = record { port = is.0; entries = refl; small = is.1 }
new_of (bodies.Journal j) is = record { port = refl; entries = is; small = none_small }
new_of _ is = record { port = refl; entries = refl; small = none_small }

no_port_of : (b : Body) (p : Port) → is_profile b ≡ true → port_of b ≡ Some p → ⊥
no_port_of (bodies.Port q) p is of = let e : false ≡ true = is in cc
no_port_of _ p is of = let e : None ≡ Some p = of in cc

no_journal_of : (b : Body) → is_profile b ≡ true → is_some (journal_of b) ≡ true → ⊥
no_journal_of (bodies.Journal j) is of = let e : false ≡ true = is in cc
no_journal_of _ is of = let e : false ≡ true = of in cc

module _ (h : Held) (x : Object) (units : UnitMap) (linked : AreLinked h) (right : AreRight h units) (number : x.number.0 ≡ h.next) (new : IsNew x.body) where
  abbrev pub more : Held
  more = with_object h x

  -- what is there was given
  journal_low : (n : ℕ) → is_journal h n ≡ true → n < h.next
  journal_low n is = by (object h n) refl is
    where
      by : (r : Option Object) → object h n ≡ r → is_some (part_in journal_part r) ≡ true → n < h.next
      by None found is = absurd (let e : false ≡ true = is in cc)
      by (Some o) found is = there_given h.objects h.next n o linked.given found

  data_low : (n : ℕ) → is_some (part_at data_part h n) ≡ true → n < h.next
  data_low n is = by (object h n) refl is
    where
      by : (r : Option Object) → object h n ≡ r → is_some (part_in data_part r) ≡ true → n < h.next
      by None found is = absurd (let e : false ≡ true = is in cc)
      by (Some o) found is = there_given h.objects h.next n o linked.given found

  entries_old : (n : ℕ) → n < h.next → entries_at more n ≡ entries_at h n
  entries_old n less = ap (λ (r : Option JournalList). (unwrap_or r no_journal).entries) (made_old h x linked right.unused number new journal_part n less)

  table_old : (n : ℕ) → n < h.next → table_at more n ≡ table_at h n
  table_old n less = ap table_in (made_old h x linked right.unused number new data_part n less)

  made_entries : (n : ℕ) → (entries_at more n ≡ entries_at h n) ⊎ (entries_at more n ≡ [])
  made_entries n = by (h.next == n) refl
    where
      part : (b : Bool) → (h.next == n) ≡ b → entries_at more n ≡ (unwrap_or (cond b (journal_of x.body) (part_at journal_part h n)) no_journal).entries
      part b is = ap (λ (r : Option JournalList). (unwrap_or r no_journal).entries) (made_part h x linked right.unused number new journal_part n ∙ ap (λ c. cond c (journal_of x.body) (part_at journal_part h n)) is)

      by : (b : Bool) → (h.next == n) ≡ b → (entries_at more n ≡ entries_at h n) ⊎ (entries_at more n ≡ [])
      by true is = inr (part true is ∙ new.entries)
      by false is = inl (part false is)

  made_small : (n : ℕ) → IsSmall (table_at h n) → IsSmall (table_at more n)
  made_small n small = subst (λ r. IsSmall (table_in r)) (sym (made_part h x linked right.unused number new data_part n)) (by (h.next == n))
    where
      by : (b : Bool) → IsSmall (table_in (cond b (data_of x.body) (part_at data_part h n)))
      by true = new.small
      by false = small

  -- the unit of a block goes where it went
  made_leads : (block journal : ℕ) (unit : CommitUnit) → unit_of units block ≡ Some unit → journal_for_block more block ≡ Some journal → journal_for_block h block ≡ Some journal
  made_leads block journal unit found to = by (journal_for_block h block) refl all.journal
    where
      all : IsUnit h (block, unit)
      all = all_found (IsUnit h) units block unit right.each found

      by : (r : Option ℕ) → journal_for_block h block ≡ r → is_some r ≡ true → journal_for_block h block ≡ Some journal
      by None is some = absurd (let e : false ≡ true = some in cc)
      by (Some old) is some = is ∙ sym (made_block h x linked right.unused number new block old all.block is) ∙ to

  pub made_told : AreTold h units → AreTold more units
  made_told told = told_stays h more units (record {
    entries = made_entries;
    leads = made_leads;
    same = λ block journal unit found to. entries_old journal (journal_low journal (port_journal_there h (block_port h block) journal (made_leads block journal unit found to)));
    tables = λ block n at unit found has. table_old n (data_low n (owned h units block n at unit right found has).there);
    small = made_small;
  }) told

  module _ (d : Durable) (anew : ℕ → Bool) (disk : x.on_disk ≡ is_profile x.body) (cover : is_on_disk more h.next ≡ true → anew h.next ≡ true) where
    made_disk : (n : ℕ) (b : Bool) → (h.next == n) ≡ b → is_on_disk more n ≡ cond b x.on_disk (is_on_disk h n)
    made_disk n b is = ap disk_in (made_object h x linked right.unused number new n) ∙ ap (λ c. disk_in (cond c (Some x) (object h n))) is ∙ by b
      where
        by : (c : Bool) → disk_in (cond c (Some x) (object h n)) ≡ cond c x.on_disk (is_on_disk h n)
        by true = refl
        by false = refl

    profile_here : (n : ℕ) → (h.next == n) ≡ true → is_on_disk more n ≡ true → is_profile x.body ≡ true
    profile_here n is on = sym disk ∙ sym (made_disk n true is) ∙ on

    port_there : (n : ℕ) (p : Port) (b : Bool) → (h.next == n) ≡ b → part_at port_part more n ≡ Some p → is_on_disk more n ≡ true → part_at port_part h n ≡ Some p
    port_there n p true is at on =
        absurd (no_port_of x.body p (profile_here n is on) (sym (made_part h x linked right.unused number new port_part n ∙ ap (λ c. cond c (port_of x.body) (part_at port_part h n)) is) ∙ at))
    port_there n p false is at on = sym (made_part h x linked right.unused number new port_part n ∙ ap (λ c. cond c (port_of x.body) (part_at port_part h n)) is) ∙ at

    journal_there : (n : ℕ) (b : Bool) → (h.next == n) ≡ b → is_journal more n ≡ true → is_on_disk more n ≡ true → is_journal h n ≡ true
    journal_there n true is at on =
        absurd (no_journal_of x.body (profile_here n is on) (sym (ap is_some (made_part h x linked right.unused number new journal_part n) ∙ ap (λ c. is_some (cond c (journal_of x.body) (part_at journal_part h n))) is) ∙ at))
    journal_there n false is at on = sym (ap is_some (made_part h x linked right.unused number new journal_part n) ∙ ap (λ c. is_some (cond c (journal_of x.body) (part_at journal_part h n))) is) ∙ at

    fewer : (n : ℕ) → anew n ≡ false → (b : Bool) → (h.next == n) ≡ b → is_on_disk more n ≡ true → is_on_disk h n ≡ true
    fewer n old true is on =
        let same : h.next ≡ n = nat_same h.next n is in
        never (anew n) (subst (λ (m : ℕ). is_on_disk more m ≡ true → anew m ≡ true) same cover on) old
    fewer n old false is on = sym (made_disk n false is) ∙ on

    pub made_kept : AreImaged h units d anew → AreImaged more units d anew
    made_kept are = kept_stays h more units d anew (record {
      fewer = λ n old on. fewer n old (h.next == n) refl on;
      port = λ n p at on. port_there n p (h.next == n) refl at on;
      journal = λ n at on. journal_there n (h.next == n) refl at on;
      entries = λ n at on. entries_old n (journal_low n (journal_there n (h.next == n) refl at on));
      leads = λ n journal old to. (made_journaled h x linked right.unused number new n journal to).1;
      same = λ n journal old to. entries_old journal (journal_low journal (port_journal_there h (data_port h n) journal (made_journaled h x linked right.unused number new n journal to).1));
      table = λ n journal old to. ap table_in (data_same n journal to);
      to = λ n journal old to. ap data_port_in (data_same n journal to);
    }) are
      where
        data_same : (n journal : ℕ) → journal_for more n ≡ Some journal → part_at data_part more n ≡ part_at data_part h n
        data_same n journal to =
            made_part h x linked right.unused number new data_part n ∙ ap (λ c. cond c (data_of x.body) (part_at data_part h n)) (made_journaled h x linked right.unused number new n journal to).0

pub made_going : (h : Held) (owner : ℕ) (made : Creating) (body : Body) (units : UnitMap) (d : Durable) (anew : ℕ → Bool) → IsNewBody body → AreRight (creation_changes h owner made body) units
    → Covers anew (creation_forces h (creation_changes h owner made body)) → IsGoing h units d anew → IsGoing (creation_changes h owner made body) units d anew
unfolding creation_changes
made_going h owner made body units d anew new right cover going = by made.id right cover
  where
    covered : (k : Held) → Covers anew (creation_forces h k) → is_on_disk k h.next ≡ true → anew h.next ≡ true
    covered k cover on = cover h.next (ceiling (nat_lt h.ceiling k.ceiling))
      where
        here : list_any (is_whole h.next) (cond (is_on_disk k h.next) (Whole h.next ∷ []) []) ≡ true
        here = ap (λ (b : Bool). list_any (is_whole h.next) (cond b (Whole h.next ∷ []) [])) on ∙ first_whole h.next []

        ceiling : (b : Bool) → list_any (is_whole h.next) (cond b (Ceiling ∷ []) [] ++ cond (is_on_disk k h.next) (Whole h.next ∷ []) []) ≡ true
        ceiling true = here
        ceiling false = here

    by : (id : Option Id) → AreRight (created h owner made body id) units → Covers anew (creation_forces h (created h owner made body id)) → IsGoing (created h owner made body id) units d anew
    by None right cover = going
    by (Some id) right cover =
        let x = new_object h owner made id body in
        let n = new_of body new in
        record {
          right = right;
          linked = linked_made h x going.linked going.right.unused refl n;
          told = made_told h x units going.linked going.right refl n going.told;
          kept = made_kept h x units going.linked going.right refl n d anew refl (covered (with_object h x) cover) going.kept;
        }
