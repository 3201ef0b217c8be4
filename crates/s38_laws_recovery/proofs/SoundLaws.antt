-- What a store without a fault says of each object that it holds.
use Rattle.std.proofs.Common.{◌≡◌, ◌∙◌, ◌≤◌, ◌==◌, ℕ, Bool, true, false, cond, not, List, [], ◌∷◌, Option, Some, None, length, refl, sym, ap, subst, arith}
use Rattle.std.proofs.lemmas.Bool.Decides.{nat_tests}
use Rattle.std.specs.List.{AllByRecursion}
use Rattle.std.specs.Option.{option_and_then, option_map, unwrap_or}
use Rattle.std.specs.Prelude.{◌&&◌, ◌||◌, Ok, filter_map, is_some, nat_lt}
use Rattle.s38_base.specs.Ids.{same_kind}
use Rattle.s38_base.specs.Limits.{body_limit}
use Rattle.s38_base.specs.declared.id.Id.{Id}
use Rattle.s38_base.specs.declared.id.Kind.TheVariants as kinds
use Rattle.s38_durable_state.specs.Durable.{Durable, kept}
use Rattle.s38_restart.proofs.catalog.LawfulLaws.{IsWhole, all_whole}
use Rattle.s38_restart.proofs.catalog.LookupLaws.{some_group}
use Rattle.s38_restart.specs.catalog.Groups.{groups, parts_of_number}
use Rattle.s38_restart.specs.catalog.Stores.{first_fault}
use Rattle.s38_image.specs.Faults.{Group, ceiling_in, fault_after, fault_by, fault_of, first_fault_by, first_fault_of, first_under, group, group_is_on_disk, has_first_user, header_at, header_is_of_other_kind, header_of_group, is_bad_body, is_past, last_in, last_of_port, or_next, port_named, sound, sound_at, store_fault}
use Rattle.s38_image.specs.PartPlaces.{ceiling_key}
use Rattle.s38_image.specs.Images.{object_of_parts}
use Rattle.s38_image.specs.declared.stored.Stored.{Stored}
use Rattle.s38_journals.specs.Journals.{JournalList}
use Rattle.s38_laws_flush.specs.durable.Beginning.{durable_in}
use Rattle.s38_restart.proofs.StoredLaws.{none_of, read_by}
use Rattle.s38_restart.specs.Parts.{all_parts}
use Rattle.s38_rules.specs.state.Parts.{data_of, journal_of, port_of}
use Rattle.s38_rules.specs.families.Profiles.{officer}
use Rattle.s38_rules.specs.declared.data_body.DataBody.{DataBody}
use Rattle.s38_rules.specs.declared.object.Body.TheVariants as bodies
use Rattle.s38_rules.specs.declared.object.Body.{Body}
use Rattle.s38_rules.specs.declared.port.Port.{Port}
use Rattle.s38_vault.specs.Content.{Content}
use Rattle.s38_laws_recovery.specs.Restarting.{is_kind_kept, journal_kept, port_journal_kept}
use Rattle.s38_laws_recovery.proofs.HeldLaws.{one_stored}

first_none : (n : ℕ) (o : Option ℕ) (next : Option (ℕ × ℕ)) → or_next n o next ≡ None → (o ≡ None) × (next ≡ None)
first_none n None next h = (refl, h)
first_none n (Some part) next h = absurd (let e : Some (n, part) ≡ None = h in cc)

or_both : (a b : Bool) → (a || b) ≡ false → (a ≡ false) × (b ≡ false)
or_both true b h = absurd (let e : true ≡ false = h in cc)
or_both false b h = (refl, h)

at_most : (a b : ℕ) → nat_lt b a ≡ false → a ≤ b
at_most a b h = grind (arith, nat_tests)

unless_none : (b : Bool) (part : ℕ) → cond b (Some part) None ≡ None → b ≡ false
unless_none true part h = absurd (let e : Some part ≡ None = h in cc)
unless_none false part h = refl

-- ---- the first user

and_both : (a b : Bool) → (a && b) ≡ true → (a ≡ true) × (b ≡ true)
and_both true b h = (refl, h)
and_both false b h = absurd (let e : false ≡ true = h in cc)

not_false : (b : Bool) → not b ≡ false → b ≡ true
not_false true h = refl
not_false false h = absurd (let e : true ≡ false = h in cc)

not_true : (b : Bool) → not b ≡ true → b ≡ false
not_true true h = absurd (let e : false ≡ true = h in cc)
not_true false h = refl

user_under : (gs : List Group) (limit ceiling : ℕ) → first_under gs limit ceiling ≡ None → has_first_user gs ≡ true
user_under gs limit ceiling h = by (group_is_on_disk gs 1) (has_first_user gs) h
  where
    by : (a b : Bool) → cond (not a) (Some (1, 0)) (cond (not b) (Some (2, 0)) (first_fault_of gs limit ceiling gs)) ≡ None → b ≡ true
    by true true h = refl
    by true false h = absurd cc
    by false b h = absurd cc

user_by : (gs : List Group) (limit : ℕ) (ceiling : Option ℕ) → first_fault_by gs limit ceiling ≡ None → has_first_user gs ≡ true
user_by gs limit None h = absurd cc
user_by gs limit (Some n) h = user_under gs limit n h

module _ (all : List Group) (limit ceiling : ℕ) where
  -- the body of a group that is at no fault is none beside the others
  body_sound : (g : Group) (w : IsWhole all limit ceiling g) → fault_of all limit ceiling g ≡ None → is_bad_body all limit ceiling w.stored.sequence w.stored.object.body ≡ false
  body_sound g w none =
      let read : object_of_parts limit g.number g.parts ≡ Ok w.stored = read_by all limit ceiling g.number g (header_at g) (object_of_parts limit g.number g.parts) w.stored w.sound_is in
      let told : fault_of all limit ceiling g ≡ cond (is_bad_body all limit ceiling w.stored.sequence w.stored.object.body) (Some 128) None =
      ap (fault_by all limit ceiling g) w.header_is
      ∙ ap (λ b. cond b (Some 0) (fault_after all limit ceiling (object_of_parts limit g.number g.parts))) w.good
      ∙ ap (fault_after all limit ceiling) read in
      unless_none (is_bad_body all limit ceiling w.stored.sequence w.stored.object.body) 128 (sym told ∙ none)

  first_read : (g : Group) (gs : List Group) (w : IsWhole all limit ceiling g) → filter_map (sound all limit ceiling) (g ∷ gs) ≡ w.stored ∷ filter_map (sound all limit ceiling) gs
  first_read g gs w = rw w.sound_is refl

  first_kept : (n : ℕ) (g : Group) (gs : List Group) (w : IsWhole all limit ceiling g) → kept (filter_map (sound all limit ceiling) (g ∷ gs)) n ≡ cond (g.number == n) (Some w.stored) (kept (filter_map (sound all limit ceiling) gs) n)
  first_kept n g gs w =
      ap (λ (xs : List Stored). kept xs n) (first_read g gs w) ∙ ap (λ (k : ℕ). cond (k == n) (Some w.stored) (kept (filter_map (sound all limit ceiling) gs) n)) w.object.number

  pub bodies_sound : (gs : List Group) → AllByRecursion (IsWhole all limit ceiling) gs → first_fault_of all limit ceiling gs ≡ None → (n : ℕ) (x : Stored) → kept (filter_map (sound all limit ceiling) gs) n ≡ Some x
      → is_bad_body all limit ceiling x.sequence x.object.body ≡ false
  bodies_sound [] ws none n x at = absurd (let e : None ≡ Some x = at in cc)
  bodies_sound (g ∷ gs) ws none n x at =
      let both = first_none g.number (fault_of all limit ceiling g) (first_fault_of all limit ceiling gs) none in
      by (bodies_sound gs ws.1 both.1 n x) (body_sound g ws.0 both.0) (g.number == n) (sym (first_kept n g gs ws.0) ∙ at)
    where
      by : (kept (filter_map (sound all limit ceiling) gs) n ≡ Some x → is_bad_body all limit ceiling x.sequence x.object.body ≡ false)
          → is_bad_body all limit ceiling ws.0.stored.sequence ws.0.stored.object.body ≡ false → (b : Bool) → cond b (Some ws.0.stored) (kept (filter_map (sound all limit ceiling) gs) n) ≡ Some x
          → is_bad_body all limit ceiling x.sequence x.object.body ≡ false
      by rest own true e = subst (λ (y : Stored). is_bad_body all limit ceiling y.sequence y.object.body ≡ false) (one_stored ws.0.stored x e) own
      by rest own false e = rest e

  -- what is looked for among the groups is kept
  pub sound_kept : (gs : List Group) → AllByRecursion (IsWhole all limit ceiling) gs → (n : ℕ) → option_and_then (sound all limit ceiling) (group gs n) ≡ kept (filter_map (sound all limit ceiling) gs) n
  sound_kept [] ws n = refl
  sound_kept (g ∷ gs) ws n = by (g.number == n) (sound_kept gs ws.1 n) ∙ sym (first_kept n g gs ws.0)
    where
      by : (b : Bool) → option_and_then (sound all limit ceiling) (group gs n) ≡ kept (filter_map (sound all limit ceiling) gs) n
          → option_and_then (sound all limit ceiling) (cond b (Some g) (group gs n)) ≡ cond b (Some ws.0.stored) (kept (filter_map (sound all limit ceiling) gs) n)
      by true rest = ws.0.sound_is
      by false rest = rest

  -- what is no object of another kind than a profile is read as a profile
  pub profile_kept : (gs : List Group) → AllByRecursion (IsWhole all limit ceiling) gs → (n : ℕ) → is_some (group gs n) ≡ true → header_is_of_other_kind kinds.Profile (option_and_then header_at (group gs n)) ≡ false
      → is_kind_kept kinds.Profile (kept (filter_map (sound all limit ceiling) gs) n) ≡ true
  profile_kept [] ws n some kind = absurd (let e : false ≡ true = some in cc)
  profile_kept (g ∷ gs) ws n some kind = ap (is_kind_kept kinds.Profile) (first_kept n g gs ws.0) ∙ by (g.number == n) (profile_kept gs ws.1 n) some kind
    where
      own : header_is_of_other_kind kinds.Profile (header_at g) ≡ false → is_kind_kept kinds.Profile (Some ws.0.stored) ≡ true
      own told =
          ap (λ (i : Id). same_kind i.kind kinds.Profile) ws.0.object.id
          ∙ not_false (same_kind ws.0.head.id.kind kinds.Profile) (sym (ap (header_is_of_other_kind kinds.Profile) ws.0.header_is) ∙ told)

      by : (b : Bool) → (is_some (group gs n) ≡ true → header_is_of_other_kind kinds.Profile (option_and_then header_at (group gs n)) ≡ false → is_kind_kept kinds.Profile (kept (filter_map (sound all limit ceiling) gs) n) ≡ true)
          → is_some (cond b (Some g) (group gs n)) ≡ true → header_is_of_other_kind kinds.Profile (option_and_then header_at (cond b (Some g) (group gs n))) ≡ false
          → is_kind_kept kinds.Profile (cond b (Some ws.0.stored) (kept (filter_map (sound all limit ceiling) gs) n)) ≡ true
      by true rest some kind = own kind
      by false rest some kind = rest some kind

-- ---- what is read of a content without a fault

module _ (m : Content) (fault : first_fault body_limit (all_parts m) ≡ None) where
  abbrev d : Durable
  d = durable_in m

  abbrev gs : List Group
  gs = groups (all_parts m)

  none : first_fault_of gs body_limit d.ceiling gs ≡ None
  none =
      let found = none_of body_limit (all_parts m) fault in
      subst (λ (n : ℕ). first_fault_of gs body_limit n gs ≡ None) (sym (ap (λ (o : Option ℕ). unwrap_or o 0) found.is)) found.none

  whole : AllByRecursion (IsWhole gs body_limit d.ceiling) gs
  whole = all_whole gs body_limit d.ceiling gs none

  sound_body : (n : ℕ) (x : Stored) → kept d.objects n ≡ Some x → is_bad_body gs body_limit d.ceiling x.sequence x.object.body ≡ false
  sound_body n x at = bodies_sound gs body_limit d.ceiling gs whole none n x at

  sound_found : (n : ℕ) → sound_at gs body_limit d.ceiling n ≡ kept d.objects n
  sound_found n = sound_kept gs body_limit d.ceiling gs whole n

  -- the security officer is read as a user
  has_user : has_first_user gs ≡ true
  unfolding store_fault
  has_user = user_by gs body_limit (ceiling_in (parts_of_number ceiling_key (all_parts m))) fault

  pub user_there : is_kind_kept kinds.Profile (kept d.objects officer) ≡ true
  user_there =
      let both = and_both (group_is_on_disk gs 2) (not (header_is_of_other_kind kinds.Profile (header_of_group gs 2))) has_user in
      profile_kept gs body_limit d.ceiling gs whole 2 (some_group 2 gs ∙ both.0) (not_true (header_is_of_other_kind kinds.Profile (header_of_group gs 2)) both.1)

  -- the numbers that it names were given
  pub port_given : (n : ℕ) (x : Stored) (b : DataBody) → kept d.objects n ≡ Some x → data_of x.object.body ≡ Some b → b.port.0 ≤ d.ceiling
  port_given n x b at own = by x.object.body own (sound_body n x at)
    where
      by : (c : Body) → data_of c ≡ Some b → is_bad_body gs body_limit d.ceiling x.sequence c ≡ false → b.port.0 ≤ d.ceiling
      by (bodies.DataSpace held) own good =
          let same : held ≡ b = cc in
          at_most b.port.0 d.ceiling (subst (λ (y : DataBody). nat_lt d.ceiling y.port.0 ≡ false) same (or_both (nat_lt d.ceiling held.port.0) (is_past x.sequence (last_of_port gs body_limit d.ceiling held.port.0)) good).0)
      by _ own good = absurd (let e : None ≡ Some b = own in cc)

  pub journal_given : (n : ℕ) (x : Stored) (p : Port) → kept d.objects n ≡ Some x → port_of x.object.body ≡ Some p → p.journal.0 ≤ d.ceiling
  journal_given n x p at own = by x.object.body own (sound_body n x at)
    where
      by : (c : Body) → port_of c ≡ Some p → is_bad_body gs body_limit d.ceiling x.sequence c ≡ false → p.journal.0 ≤ d.ceiling
      by (bodies.Port q) own good =
          let same : q ≡ p = cc in
          at_most p.journal.0 d.ceiling (subst (λ (y : Port). nat_lt d.ceiling y.journal.0 ≡ false) same good)
      by _ own good = absurd (let e : None ≡ Some p = own in cc)

  -- ---- entries

  last_is : (port : ℕ) (j : JournalList) → port_journal_kept d port ≡ Some j → last_of_port gs body_limit d.ceiling port ≡ Some (length j.entries)
  last_is port j to =
      ap (λ (r : Option Stored). option_and_then last_in (option_and_then (λ p. sound_at gs body_limit d.ceiling p.journal.0) (option_and_then port_named r))) (sound_found port)
      ∙ by (kept d.objects port) to
    where
      ended : (r : Option Stored) → option_and_then (λ (y : Stored). journal_of y.object.body) r ≡ Some j → option_and_then last_in r ≡ Some (length j.entries)
      ended None e = absurd (let g : None ≡ Some j = e in cc)
      ended (Some y) e = ap (λ (v : Option JournalList). option_map (λ i. length i.entries) v) e

      named : (r : Option Port) → option_and_then (λ p. journal_kept d p.journal.0) r ≡ Some j → option_and_then last_in (option_and_then (λ p. sound_at gs body_limit d.ceiling p.journal.0) r) ≡ Some (length j.entries)
      named None e = absurd (let g : None ≡ Some j = e in cc)
      named (Some p) e = ap (option_and_then last_in) (sound_found p.journal.0) ∙ ended (kept d.objects p.journal.0) e

      by : (r : Option Stored) → option_and_then (λ p. journal_kept d p.journal.0) (option_and_then (λ (x : Stored). port_of x.object.body) r) ≡ Some j
          → option_and_then last_in (option_and_then (λ p. sound_at gs body_limit d.ceiling p.journal.0) (option_and_then port_named r)) ≡ Some (length j.entries)
      by None e = absurd (let g : None ≡ Some j = e in cc)
      by (Some x) e = named (port_of x.object.body) e

  pub counted_in : (n : ℕ) (x : Stored) (b : DataBody) (j : JournalList) → kept d.objects n ≡ Some x → data_of x.object.body ≡ Some b → port_journal_kept d b.port.0 ≡ Some j → x.sequence ≤ length j.entries
  counted_in n x b j at own to = by x.object.body own (sound_body n x at)
    where
      by : (c : Body) → data_of c ≡ Some b → is_bad_body gs body_limit d.ceiling x.sequence c ≡ false → x.sequence ≤ length j.entries
      by (bodies.DataSpace held) own good =
          let same : held ≡ b = cc in
          let past : is_past x.sequence (last_of_port gs body_limit d.ceiling b.port.0) ≡ false =
          subst (λ (y : DataBody). is_past x.sequence (last_of_port gs body_limit d.ceiling y.port.0) ≡ false) same (or_both (nat_lt d.ceiling held.port.0) (is_past x.sequence (last_of_port gs body_limit d.ceiling held.port.0)) good).1 in
          at_most x.sequence (length j.entries) (sym (ap (is_past x.sequence) (last_is b.port.0 j to)) ∙ past)
      by _ own good = absurd (let e : None ≡ Some b = own in cc)
