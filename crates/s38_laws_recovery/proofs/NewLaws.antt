-- Links, where an object is made, destroyed or ensured, and where a data space is journaled.
use Rattle.std.proofs.Common.{◌≡◌, ◌∙◌, ◌<◌, ◌≤◌, ◌==◌, ◌+◌, ℕ, Bool, true, false, cond, inl, inr, [], ◌∷◌, ◌++◌, Option, Some, None, refl, sym, ap, subst, arith}
use Rattle.std.proofs.lemmas.Bool.Decides.{nat_tests}
use Rattle.std.specs.List.{list_any}
use Rattle.std.specs.Option.{option_map}
use Rattle.std.specs.Prelude.{◌⊎◌, ◌||◌, nat_lt}
use Rattle.s38_base.specs.Ids.{same_kind}
use Rattle.s38_base.specs.Limits.{machine_context}
use Rattle.s38_base.specs.declared.id.Id.{Id}
use Rattle.s38_base.specs.declared.id.Kind.TheVariants as kinds
use Rattle.s38_base.specs.declared.id.Kind.{Kind}
use Rattle.s38_laws_units.proofs.EndLaws.{port_by_data}
use Rattle.s38_laws_units.proofs.HeldLaws.{part_over}
use Rattle.s38_laws_units.specs.Right.{IsUnused}
use Rattle.s38_commits.proofs.MapLaws.{nat_itself, nat_same}
use Rattle.s38_commits.specs.Units.{UnitMap}
use Rattle.s38_laws_commits.proofs.GoingLaws.{JournalsTo, ensured_quiet, journaled_linked}
use Rattle.s38_laws_commits.proofs.LinkLaws.{disk_same, keeps_for}
use Rattle.s38_laws_commits.proofs.NewLaws.{IsNew, gone_disk, gone_part, linked_gone, linked_made, made_object, made_old, made_part, there_given}
use Rattle.s38_laws_commits.proofs.TellLaws.{NewIn}
use Rattle.s38_laws_commits.proofs.MadeWordLaws.{new_of}
use Rattle.s38_laws_flush.proofs.durable.GoesThenLaws.{any_either}
use Rattle.s38_laws_flush.proofs.durable.SameLaws.{kind_at, kind_in, part_same, seen_same}
use Rattle.s38_rules.proofs.ChargeLaws.{object_without}
use Rattle.s38_rules.specs.ask.Authority.{is_profile}
use Rattle.s38_rules.specs.families.Changes.{made_by, through_port}
use Rattle.s38_rules.specs.families.Creation.{created, creation_changes, destroyed, is_of_kind, new_object}
use Rattle.s38_rules.specs.store.Forcing.{Ceiling, Whole, creation_forces, forced_removal, is_whole, whole_if}
use Rattle.s38_rules.specs.state.Held.{Held, disk_in, ensured, is_on_disk, kept_on_disk, kind_of, object, with_object, without}
use Rattle.s38_rules.specs.state.Journaling.{data_port, data_port_in, journal_for, journal_named, journal_of_port}
use Rattle.s38_rules.specs.state.Parts.{data_of, data_part, over_object, part_at, part_in, port_of, port_part}
use Rattle.s38_rules.specs.state.PartsAt.{on_data}
use Rattle.s38_rules.specs.state.LawfulParts.{data_lawful}
use Rattle.s38_rules.specs.families.Profiles.{officer}
use Rattle.s38_rules.specs.declared.creating.Creating.{Creating}
use Rattle.s38_rules.specs.declared.data_body.DataBody.{DataBody}
use Rattle.s38_rules.specs.declared.object.Body.TheVariants as bodies
use Rattle.s38_rules.specs.declared.object.Body.{Body}
use Rattle.s38_rules.specs.declared.object.Object.{Object}
use Rattle.s38_rules.specs.declared.port.Port.{Port}
use Rattle.s38_laws_state.proofs.HeadLaws.{one_kind}
use Rattle.s38_laws_recovery.specs.Restartable.{AreReady}
use Rattle.s38_laws_recovery.proofs.KindLaws.{apart_kinds, data_at_kind, it_of_kind, journal_at_kind, kind_of_it}
use Rattle.s38_laws_recovery.proofs.LinkLaws.{Links, Quiet, named_in, ready_quiet}
use Rattle.s38_laws_recovery.proofs.QuietLaws.{removed_whole, whole_port_journal}

either_true : (a b : Bool) → (a || b) ≡ true → (a ≡ true) ⊎ (b ≡ true)
either_true true b h = inl refl
either_true false b h = inr h

or_false : (a b : Bool) → (a || b) ≡ false → a ≡ false
or_false true b h = absurd (let e : true ≡ false = h in cc)
or_false false b h = refl

-- ---- an object is ensured

pub ensured_links_quiet : (h : Held) (n : ℕ) → Quiet h (ensured h n)
ensured_links_quiet h n = record { keeps = (ensured_quiet h n).keeps; kinds = λ m. seen_same kind_in h n m kept_on_disk (λ x. refl) (λ x. refl); ceiling = refl }

-- with a data space its journal space is kept whole
with_journal : (n j : ℕ) (r : Option ℕ) → r ≡ Some j → list_any (is_whole j) (Whole n ∷ whole_if r) ≡ true
with_journal n j None is = absurd (let e : None ≡ Some j = is in cc)
with_journal n j (Some i) is = later (n == j) (ap (λ b. b || false) (ap (λ (k : ℕ). k == j) (one i j is) ∙ nat_itself j))
  where
    one : (a b : ℕ) → Some a ≡ Some b → a ≡ b
    one a b e = cc

    later : (a : Bool) {b : Bool} → b ≡ true → (a || b) ≡ true
    later true e = refl
    later false e = e

ensured_whole : (h k : Held) (n : ℕ) → Quiet h k → (m : ℕ) (b : DataBody) (j : ℕ) → list_any (is_whole m) (Whole n ∷ whole_if (journal_for h n)) ≡ true → part_at data_part k m ≡ Some b
    → journal_of_port k b.port.0 ≡ Some j → list_any (is_whole j) (Whole n ∷ whole_if (journal_for h n)) ≡ true
ensured_whole h k n quiet m b j whole is to = by (either_true (n == m) (list_any (is_whole m) (whole_if (journal_for h n))) whole)
  where
    by : ((n == m) ≡ true) ⊎ (list_any (is_whole m) (whole_if (journal_for h n)) ≡ true) → list_any (is_whole j) (Whole n ∷ whole_if (journal_for h n)) ≡ true
    by (inl same) =
        let at : m ≡ n = sym (nat_same n m same) in
        with_journal n j (journal_for h n) (sym (keeps_for h k quiet.keeps n) ∙ ap (λ (i : ℕ). journal_for k i) (sym at) ∙ ap (journal_of_port k) (named_in k m b is) ∙ to)
    by (inr other) = absurd (apart_kinds h m (sym (quiet.kinds m) ∙ data_at_kind k m b is) (journal_at_kind h m (whole_port_journal h (data_port h n) m other)))

pub ensured_links : (h : Held) (n : ℕ) → AreReady h → Links (Whole n ∷ whole_if (journal_for h n)) h (ensured h n)
ensured_links h n ready =
    let quiet = ensured_links_quiet h n in
    record {
      port = λ m p less is. sym (quiet.keeps.port m) ∙ is;
      space = λ m b less not is. sym (quiet.keeps.to m) ∙ named_in (ensured h n) m b is;
      whole = λ m b j whole is to. ensured_whole h (ensured h n) n quiet m b j whole is to;
      ceiling = omega arith;
      ready = ready_quiet h (ensured h n) quiet ready;
    }

-- ---- a data space is journaled

module _ (h : Held) (n port : ℕ) (units : UnitMap) (journals : JournalsTo h n port n) (unused : IsUnused h) (ready : AreReady h) where
  abbrev through : Held
  through = on_data h n (through_port port)

  abbrev joined : Held
  joined = ensured through n

  joined_quiet : Quiet through joined
  joined_quiet = ensured_links_quiet through n

  ports_same : (m : ℕ) → part_at port_part joined m ≡ part_at port_part h m
  ports_same m = joined_quiet.keeps.port m ∙ port_by_data h n m (through_port port)

  kinds_same : (m : ℕ) → kind_at joined m ≡ kind_at h m
  kinds_same m = joined_quiet.kinds m ∙ (part_same data_part data_lawful _ (λ x. refl) h n (through_port port)).kinds m

  disk_on : (m : ℕ) → is_on_disk h m ≡ true → is_on_disk joined m ≡ true
  disk_on m on = joined_quiet.keeps.disk m (disk_same h n m (over_object data_part (through_port port)) (λ x. refl) (λ x. refl) ∙ on)

  space_off : (m : ℕ) (b : DataBody) → (n == m) ≡ false → part_at data_part joined m ≡ Some b → data_port h m ≡ b.port.0
  space_off m b off is =
      named_in h m b (sym (ap (λ c. cond c (option_map (through_port port) (part_at data_part h m)) (part_at data_part h m)) off) ∙ sym (part_over data_part data_lawful h n m (through_port port))
      ∙ sym ((ensured_quiet through n).tables m) ∙ is)

  back : (kind : Kind) (m : ℕ) → is_of_kind kind (object joined m) ≡ true → is_of_kind kind (object h m) ≡ true
  back kind m is = it_of_kind kind h m (sym (kinds_same m) ∙ kind_of_it kind joined m is)

  forth : (kind : Kind) (m : ℕ) → is_of_kind kind (object h m) ≡ true → is_of_kind kind (object joined m) ≡ true
  forth kind m is = it_of_kind kind joined m (kinds_same m ∙ kind_of_it kind h m is)

  pub journaled_links : Links ([] ++ (Whole n ∷ whole_if (journal_for through n))) h joined
  journaled_links = record {
    port = λ m p less is. sym (ports_same m) ∙ is;
    space = λ m b less not is. space_off m b (or_false (n == m) _ not) is;
    whole = λ m b j whole is to. ensured_whole through joined n joined_quiet m b j whole is to;
    ceiling = omega arith;
    ready = record {
      users = λ m is. disk_on m (ready.users m (back kinds.Profile m is));
      machine = forth kinds.Context machine_context ready.machine;
      machine_disk = disk_on machine_context ready.machine_disk;
      first_user = forth kinds.Profile officer ready.first_user;
      linked = journaled_linked h n port units journals ready.linked unused;
      ports = λ m p is. ready.ports m p (sym (ports_same m) ∙ is);
    };
  }

-- ---- an object is made

module _ (h : Held) (x : Object) (ready : AreReady h) (unused : IsUnused h) (number : x.number.0 ≡ h.next) (new : IsNew x.body) (user : is_of_kind kinds.Profile (Some x) ≡ true → x.on_disk ≡ true)
    (names : (p : Port) → port_of x.body ≡ Some p → p.journal.0 < h.next) where
  abbrev more : Held
  more = with_object h x

  at : (m : ℕ) → object more m ≡ cond (h.next == m) (Some x) (object h m)
  at m = made_object h x ready.linked unused number new m

  given_there : (kind : Kind) (m : ℕ) → is_of_kind kind (object h m) ≡ true → m < h.next
  given_there kind m is = by (object h m) refl is
    where
      by : (r : Option Object) → object h m ≡ r → is_of_kind kind r ≡ true → m < h.next
      by None found is = absurd (let e : false ≡ true = is in cc)
      by (Some o) found is = there_given h.objects h.next m o ready.linked.given found

  away : (m : ℕ) → m < h.next → (h.next == m) ≡ false
  away m less = grind (arith, nat_tests, less)

  old : (m : ℕ) → m < h.next → object more m ≡ object h m
  old m less = at m ∙ ap (λ b. cond b (Some x) (object h m)) (away m less)

  users_on : (m : ℕ) → is_of_kind kinds.Profile (object more m) ≡ true → is_on_disk more m ≡ true
  users_on m is = by (h.next == m) (at m) (sym (ap (is_of_kind kinds.Profile) (at m)) ∙ is)
    where
      by : (b : Bool) → object more m ≡ cond b (Some x) (object h m) → is_of_kind kinds.Profile (cond b (Some x) (object h m)) ≡ true → is_on_disk more m ≡ true
      by true found is = ap disk_in found ∙ user is
      by false found is = ap disk_in found ∙ ready.users m is

  ports_given : (m : ℕ) (p : Port) → part_at port_part more m ≡ Some p → p.journal.0 < h.next + 1
  ports_given m p is = by (h.next == m) (sym (made_part h x ready.linked unused number new port_part m) ∙ is)
    where
      by : (b : Bool) → cond b (port_of x.body) (part_at port_part h m) ≡ Some p → p.journal.0 < h.next + 1
      by true is = let less = names p is in omega (arith, less)
      by false is = let less = ready.ports m p is in omega (arith, less)

  nothing_behind : journal_of_port more 0 ≡ None
  nothing_behind = ap (journal_named more) (made_old h x ready.linked unused number new port_part 0 unused.next ∙ ap (part_in port_part) unused.none)

  -- what is kept whole names no port
  made_whole : (m : ℕ) (b : DataBody) (j : ℕ) → list_any (is_whole m) (creation_forces h more) ≡ true → part_at data_part more m ≡ Some b → journal_of_port more b.port.0 ≡ Some j → ⊥
  made_whole m b j whole is to = by (any_either (is_whole m) (cond (nat_lt h.ceiling more.ceiling) (Ceiling ∷ []) []) (cond (is_on_disk more h.next) (Whole h.next ∷ []) []) whole)
    where
      raised : (c : Bool) → list_any (is_whole m) (cond c (Ceiling ∷ []) []) ≡ true → ⊥
      raised true e = let f : false ≡ true = e in cc
      raised false e = let f : false ≡ true = e in cc

      own : (c : Bool) → (h.next == m) ≡ c → (c || false) ≡ true → ⊥
      own false other e = let f : false ≡ true = e in cc
      own true same e =
          let own_body : data_of x.body ≡ Some b = sym (made_part h x ready.linked unused number new data_part m ∙ ap (λ c. cond c (data_of x.body) (part_at data_part h m)) same) ∙ is in
          let none : b.port.0 ≡ 0 = sym (ap data_port_in own_body) ∙ new.port in
          let e : None ≡ Some j = sym (ap (journal_of_port more) none ∙ nothing_behind) ∙ to in
          cc

      kept : (c : Bool) → list_any (is_whole m) (cond c (Whole h.next ∷ []) []) ≡ true → ⊥
      kept true e = own (h.next == m) refl e
      kept false e = let f : false ≡ true = e in cc

      by : (list_any (is_whole m) (cond (nat_lt h.ceiling more.ceiling) (Ceiling ∷ []) []) ≡ true) ⊎ (list_any (is_whole m) (cond (is_on_disk more h.next) (Whole h.next ∷ []) []) ≡ true) → ⊥
      by (inl e) = raised (nat_lt h.ceiling more.ceiling) e
      by (inr e) = kept (is_on_disk more h.next) e

  ceiling_up : h.ceiling ≤ more.ceiling
  ceiling_up = by (nat_lt h.ceiling h.next)
    where
      by : (b : Bool) → h.ceiling ≤ cond b (h.ceiling + 64) h.ceiling
      by true = omega arith
      by false = omega arith

  pub made_links : Links (creation_forces h more) h more
  made_links = record {
    port = λ m p less is. sym (made_old h x ready.linked unused number new port_part m less) ∙ is;
    space = λ m b less not is. named_in h m b (sym (made_old h x ready.linked unused number new data_part m less) ∙ is);
    whole = λ m b j whole is to. absurd (made_whole m b j whole is to);
    ceiling = ceiling_up;
    ready = record {
      users = users_on;
      machine = ap (is_of_kind kinds.Context) (old machine_context (given_there kinds.Context machine_context ready.machine)) ∙ ready.machine;
      machine_disk = ap disk_in (old machine_context (given_there kinds.Context machine_context ready.machine)) ∙ ready.machine_disk;
      first_user = ap (is_of_kind kinds.Profile) (old officer (given_there kinds.Profile officer ready.first_user)) ∙ ready.first_user;
      linked = linked_made h x ready.linked unused number new;
      ports = ports_given;
    };
  }

-- a body that is new names a journal space that was given
abbrev pub NamesGiven : Held → Option Body → Type 0
NamesGiven h None = Unit {0}
NamesGiven h (Some (bodies.Port p)) = p.journal.0 < h.next
NamesGiven h (Some _) = Unit {0}

names_port : (h : Held) (b : Body) → NamesGiven h (Some b) → (p : Port) → port_of b ≡ Some p → p.journal.0 < h.next
names_port h (bodies.Port q) names p is = let same : q ≡ p = cc in subst (λ (r : Port). r.journal.0 < h.next) same names
names_port h _ names p is = absurd (let e : None ≡ Some p = is in cc)

profile_is : (b : Body) → same_kind kinds.Profile (kind_of b) ≡ true → is_profile b ≡ true
profile_is (bodies.Profile special limit) is = refl
profile_is _ is = absurd (let e : false ≡ true = is in cc)

-- nothing is made
pub none_links : (h : Held) → IsUnused h → AreReady h → Links (creation_forces h h) h h
none_links h unused ready = record {
  port = λ m p less is. is;
  space = λ m b less not is. named_in h m b is;
  whole = λ m b j whole is to. absurd (none m b whole is);
  ceiling = omega arith;
  ready = ready;
}
  where
    next_none : object h h.next ≡ None
    next_none = by (object h h.next) refl
      where
        by : (r : Option Object) → object h h.next ≡ r → r ≡ None
        by None is = refl
        by (Some o) is = absurd (let less = there_given h.objects h.next h.next o ready.linked.given is in omega (arith, less))

    raised : (m : ℕ) (c : Bool) → list_any (is_whole m) (cond c (Ceiling ∷ []) []) ≡ true → ⊥
    raised m true e = let f : false ≡ true = e in cc
    raised m false e = let f : false ≡ true = e in cc

    none : (m : ℕ) (b : DataBody) → list_any (is_whole m) (creation_forces h h) ≡ true → part_at data_part h m ≡ Some b → ⊥
    none m b whole is = by (any_either (is_whole m) (cond (nat_lt h.ceiling h.ceiling) (Ceiling ∷ []) []) (cond (is_on_disk h h.next) (Whole h.next ∷ []) []) whole)
      where
        by : (list_any (is_whole m) (cond (nat_lt h.ceiling h.ceiling) (Ceiling ∷ []) []) ≡ true) ⊎ (list_any (is_whole m) (cond (is_on_disk h h.next) (Whole h.next ∷ []) []) ≡ true) → ⊥
        by (inl e) = raised m (nat_lt h.ceiling h.ceiling) e
        by (inr e) = let f : false ≡ true = sym (ap (λ r. list_any (is_whole m) (cond (disk_in r) (Whole h.next ∷ []) [])) next_none) ∙ e in cc

pub made_by_links : (h : Held) (owner : ℕ) (made : Creating) (body : Option Body) → AreReady h → IsUnused h → NewIn body → NamesGiven h body
    → Links (creation_forces h (made_by h owner made body)) h (made_by h owner made body)
unfolding creation_changes
made_by_links h owner made None ready unused new names = none_links h unused ready
made_by_links h owner made (Some body) ready unused new names = by made.id
  where
    by : (id : Option Id) → Links (creation_forces h (created h owner made body id)) h (created h owner made body id)
    by None = none_links h unused ready
    by (Some id) = made_links h (new_object h owner made id body) ready unused refl (new_of body new) (profile_is body) (names_port h body names)

-- ---- an object is destroyed

-- neither the machine context nor the security officer is
pub record IsSpared (kind : Kind) (n : ℕ) : Type 0 where
  pub context : kind ≡ kinds.Context → (n == machine_context) ≡ false
  pub profile : kind ≡ kinds.Profile → (n == officer) ≡ false

module _ (h : Held) (n : ℕ) (ready : AreReady h) (unused : IsUnused h) (machine : (n == machine_context) ≡ false) (first : (n == officer) ≡ false) where
  abbrev less : Held
  less = without h n

  left : (m : ℕ) → (n == m) ≡ false → object less m ≡ object h m
  left m off = object_without n m h.objects ∙ ap (λ b. cond b None (object h m)) off

  users_left : (m : ℕ) → is_of_kind kinds.Profile (object less m) ≡ true → is_on_disk less m ≡ true
  users_left m is = by (n == m) (object_without n m h.objects) (sym (ap (is_of_kind kinds.Profile) (object_without n m h.objects)) ∙ is)
    where
      by : (b : Bool) → object less m ≡ cond b None (object h m) → is_of_kind kinds.Profile (cond b None (object h m)) ≡ true → is_on_disk less m ≡ true
      by true found is = absurd (let e : false ≡ true = is in cc)
      by false found is = ap disk_in found ∙ ready.users m is

  ready_left : AreReady less
  ready_left = record {
    users = users_left;
    machine = ap (is_of_kind kinds.Context) (left machine_context machine) ∙ ready.machine;
    machine_disk = gone_disk h n machine_context machine ready.machine_disk;
    first_user = ap (is_of_kind kinds.Profile) (left officer first) ∙ ready.first_user;
    linked = linked_gone h n ready.linked unused;
    ports = λ m p is. ready.ports m p (gone_part h n port_part m p is).1;
  }

pub gone_links : (h : Held) (kind : Kind) (n : ℕ) → AreReady h → IsUnused h → IsSpared kind n → Links (forced_removal h kind n) h (destroyed h kind n)
gone_links h kind n ready unused spared = by (is_of_kind kind (object h n)) refl
  where
    other : (m : ℕ) (k : Kind) → is_of_kind kind (object h n) ≡ true → is_of_kind k (object h m) ≡ true → (kind ≡ k → (n == m) ≡ false) → (b : Bool) → (n == m) ≡ b → b ≡ false
    other m k of there free true is =
        let same : kind ≡ k = one_kind k kind (object h n) (subst (λ (i : ℕ). is_of_kind k (object h i) ≡ true) (sym (nat_same n m is)) there) of in
        let e : true ≡ false = sym is ∙ free same in
        cc
    other m k of there free false is = refl

    by : (b : Bool) → is_of_kind kind (object h n) ≡ b → Links (forced_removal h kind n) h (cond b (without h n) h)
    by true of = record {
      port = λ m p less is. (gone_part h n port_part m p is).1;
      space = λ m b less not is. named_in h m b (gone_part h n data_part m b is).1;
      whole = λ m b j whole is to. absurd (removed_whole h kind n m whole);
      ceiling = omega arith;
      ready = ready_left h n ready unused (other machine_context kinds.Context of ready.machine spared.context (n == machine_context) refl) (other officer kinds.Profile of ready.first_user spared.profile (n == officer) refl);
    }
    by false of = record {
      port = λ m p less is. is;
      space = λ m b less not is. named_in h m b is;
      whole = λ m b j whole is to. absurd (removed_whole h kind n m whole);
      ceiling = omega arith;
      ready = ready;
    }
