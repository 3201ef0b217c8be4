-- The orphan pages, and the objects that a store holds once each data space is followed.
use Rattle.std.proofs.Common.{◌≡◌, ℕ, ◌+◌, ◌<◌, ◌≤◌, All, Bool, true, false, cond, List, [], ◌∷◌, map, take, inl, inr, refl, sym, ap, subst, ◌∙◌}
use Rattle.std.proofs.lemmas.List.Elements.{All-cons, All-head, All-nil, All-tail}
use Rattle.std.specs.Prelude.{◌⊎◌, Option, Some, None, find, filter, is_some}
use Rattle.std.specs.List.{AllByRecursion}
use Rattle.std.specs.List.Sorted.{IsStrictlyIncreasing}
use Rattle.s38_base.specs.declared.id.Id.{Id}
use Rattle.s38_base.specs.declared.page.Change.{Change}
use Rattle.s38_restart.specs.catalog.Groups.{groups, is_stray, part_taken, removals}
use Rattle.s38_restart.specs.catalog.Readings.{object_in_stored}
use Rattle.s38_restart.specs.catalog.Stores.{FormObjectMap}
use Rattle.s38_image.specs.declared.stored.Stored.{Stored}
use Rattle.s38_objects.specs.Lawful.{AreApart, IsObjectMap, number_of}
use Rattle.s38_rules.specs.declared.object.Object.{Object}
use Rattle.s38_rules.specs.state.Held.{Held, found_in, has_number, is_named, is_there}
use Rattle.s38_vault.specs.Content.{AreRising, Content, HaveObjects, changed}
use Rattle.s38_vault.specs.Keys.{IsBefore}
use Rattle.s38_vault.proofs.DirectoryLaws.{rising_all, rising_rest}
use Rattle.s38_restart.specs.Faults.{NamesFault, NamesFirst}
use Rattle.s38_restart.specs.declared.fault.RestartFault.{RestartFault}
use Rattle.s38_restart.specs.declared.fault.RestartFault.TheVariants as faults
use Rattle.s38_restart.specs.Removing.{AreRemovals}
use Rattle.s38_restart.specs.Restarted.{all_followed, data_space_followed, imaged, number_in_stored, with_followed}

-- ---- the parts that are taken away

taken_away : (p : Change → Bool) (xs : List Change) → AreRemovals (map part_taken (filter p xs))
taken_away p [] = tt
taken_away p (x ∷ xs) =
    let rest = taken_away p xs in
    elim (p x) as (λ b. AreRemovals (map part_taken (cond b (x ∷ filter p xs) (filter p xs)))) [
      | true ↦ (refl, rest)
      | false ↦ rest
    ]

have_taken : (p : Change → Bool) (xs : List Change) → HaveObjects xs → HaveObjects (map part_taken (filter p xs))
have_taken p [] h = tt
have_taken p (x ∷ xs) h =
    let rest = have_taken p xs h.1 in
    elim (p x) as (λ b. HaveObjects (map part_taken (cond b (x ∷ filter p xs) (filter p xs)))) [
      | true ↦ (h.0, rest)
      | false ↦ rest
    ]

below_taken : (c : Change) (p : Change → Bool) (xs : List Change) → AllByRecursion (λ d. IsBefore c.key d.key) xs → AllByRecursion (λ d. IsBefore c.key d.key) (map part_taken (filter p xs))
below_taken c p [] h = tt
below_taken c p (x ∷ xs) h =
    let rest = below_taken c p xs h.1 in
    elim (p x) as (λ b. AllByRecursion (λ d. IsBefore c.key d.key) (map part_taken (cond b (x ∷ filter p xs) (filter p xs)))) [
      | true ↦ (h.0, rest)
      | false ↦ rest
    ]

rising_before : (c : Change) (xs : List Change) → AllByRecursion (λ d. IsBefore c.key d.key) xs → AreRising xs → AreRising (c ∷ xs)
rising_before c [] h r = tt
rising_before c (x ∷ xs) h r = (h.0, r)

rising_taken : (p : Change → Bool) (xs : List Change) → AreRising xs → AreRising (map part_taken (filter p xs))
rising_taken p [] h = tt
rising_taken p (x ∷ xs) h =
    let rest = rising_taken p xs (rising_rest x xs h) in
    let below = below_taken (part_taken x) p xs (rising_all x xs h) in
    elim (p x) as (λ b. AreRising (map part_taken (cond b (x ∷ filter p xs) (filter p xs)))) [
      | true ↦ rising_before (part_taken x) (map part_taken (filter p xs)) below rest
      | false ↦ rest
    ]

pub removals_are : (parts : List Change) → AreRemovals (removals parts)
removals_are parts = taken_away (is_stray (groups parts)) parts

pub removals_rise : (parts : List Change) → AreRising parts → AreRising (removals parts)
removals_rise parts h = rising_taken (is_stray (groups parts)) parts h

pub removals_have : (parts : List Change) → HaveObjects parts → HaveObjects (removals parts)
removals_have parts h = have_taken (is_stray (groups parts)) parts h

-- ---- what is followed keeps its number, its context and its identification

module _ (h : Held) where
  some_found : (p : Object → Bool) → ((s : Stored) → p (data_space_followed h s) ≡ p s.object) → (ss : List Stored) → is_some (find p (map (data_space_followed h) ss)) ≡ is_some (find p (map object_in_stored ss))
  some_found p same [] = refl
  some_found p same (s ∷ ss) =
      let rest = some_found p same ss in
      rw (same s) (elim (p s.object) as (λ b. is_some (cond b (Some (data_space_followed h s)) (find p (map (data_space_followed h) ss))) ≡ is_some (cond b (Some s.object) (find p (map object_in_stored ss)))) [
        | true ↦ refl
        | false ↦ rest
      ])

  none_of : (o : Option Object) → is_some o ≡ false → o ≡ None
  none_of None e = refl
  none_of (Some x) e = absurd cc

  none_found : (context : ℕ) (id : Id) (ss : List Stored) → found_in (map object_in_stored ss) context id ≡ None → found_in (map (data_space_followed h) ss) context id ≡ None
  none_found context id ss e = none_of (found_in (map (data_space_followed h) ss) context id) (some_found (is_named context id) (λ s. refl) ss ∙ ap (λ (o : Option Object). is_some o) e)

  apart : (here there : ℕ → Bool) → ((n : ℕ) → here n ≡ there n) → (ss : List Stored) → AreApart there (map object_in_stored ss) → AreApart here (map (data_space_followed h) ss)
  apart here there same [] a = tt
  apart here there same (s ∷ ss) a = ((λ e. none_found s.object.context.0 s.object.id ss (a.0 (sym (same s.object.context.0) ∙ e))), apart here there same ss a.1)

  numbers : (ss : List Stored) → map number_of (map (data_space_followed h) ss) ≡ map number_of (map object_in_stored ss)
  numbers [] = refl
  numbers (s ∷ ss) = ap (λ (ns : List ℕ). s.object.number.0 ∷ ns) (numbers ss)

  all_too : (P : Object → Type 0) → ((s : Stored) → P s.object → P (data_space_followed h s)) → (ss : List Stored) → All P (map object_in_stored ss) → All P (map (data_space_followed h) ss)
  all_too P keeps [] a = All-nil P
  all_too P keeps (s ∷ ss) a =
      All-cons P (data_space_followed h s) (map (data_space_followed h) ss) (keeps s (All-head P s.object (map object_in_stored ss) a)) (all_too P keeps ss (All-tail P s.object (map object_in_stored ss) a))

pub followed_lawful : (c : ℕ) (ss : List Stored) → FormObjectMap c ss → IsObjectMap (record { objects = all_followed ss; next = c + 1; ceiling = c })
followed_lawful c ss a =
    let h = imaged ss in
    record {
      rising = subst (λ (ns : List ℕ). IsStrictlyIncreasing ns) (sym (numbers h ss)) a.lawful.rising;
      given = all_too h (λ o. number_of o < c + 1) (λ s l. l) ss a.lawful.given;
      apart = apart h (is_there (record { objects = all_followed ss; next = c + 1; ceiling = c })) (is_there (record { objects = map object_in_stored ss; next = c + 1; ceiling = c }))
          (λ n. some_found h (has_number n) (λ s. refl) ss) ss a.lawful.apart;
    }

pub followed_placed : (c : ℕ) (ss : List Stored) → FormObjectMap c ss → All (λ o. o.context.0 < c + 1) (all_followed ss)
followed_placed c ss a = all_too (imaged ss) (λ o. o.context.0 < c + 1) (λ s l. l) ss a.placed

-- ---- numbers and objects of a list

pub stored_numbers : (ss : List Stored) → map number_in_stored ss ≡ map number_of (map object_in_stored ss)
stored_numbers [] = refl
stored_numbers (s ∷ ss) = ap (λ (ns : List ℕ). s.object.number.0 ∷ ns) (stored_numbers ss)

pub followed_objects : (h : Held) (ss : List Stored) → map object_in_stored (map (with_followed h) ss) ≡ map (data_space_followed h) ss
followed_objects h [] = refl
followed_objects h (s ∷ ss) = ap (λ (os : List Object). data_space_followed h s ∷ os) (followed_objects h ss)

-- ---- faults of the vault and of memory

pub names_first : (first : Option (ℕ × ℕ)) (fault : RestartFault) → (fault ≡ faults.Failed) ⊎ (fault ≡ faults.NoMemory) → NamesFirst first fault
names_first first fault (inl e) = subst (λ (f : RestartFault). NamesFirst first f) (sym e) tt
names_first first fault (inr e) = subst (λ (f : RestartFault). NamesFirst first f) (sym e) tt

pub names_fault : (limit : ℕ) (fault : RestartFault) → (fault ≡ faults.Failed) ⊎ (fault ≡ faults.NoMemory) → NamesFault limit fault
names_fault limit fault (inl e) = subst (λ (f : RestartFault). NamesFault limit f) (sym e) tt
names_fault limit fault (inr e) = subst (λ (f : RestartFault). NamesFault limit f) (sym e) tt

-- ---- what a crash on the way leaves

pub during_as : (Leaves : ℕ → Content → Type 0) (was now later : ℕ) (m : Content) (xs ys : List Change) → now ≡ was → xs ≡ ys →
    ((t : ℕ) (n : Content) → now < t → t ≤ later → Leaves t n → (count : ℕ) × (n ≡ changed m (take count xs))) →
    (t : ℕ) (n : Content) → was < t → t ≤ later → Leaves t n → (count : ℕ) × (n ≡ changed m (take count ys))
during_as Leaves was now later m xs ys moment same step t n after upto left =
    let got = step t n (subst (λ (k : ℕ). k < t) (sym moment) after) upto left in
    (got.0, got.1 ∙ ap (λ (l : List Change). changed m (take got.0 l)) same)
