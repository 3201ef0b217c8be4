-- In a store without a fault ports and data spaces name what was given, and all objects are on disk: a run begins linked.
use Rattle.std.proofs.Common.{◌≡◌, ◌∙◌, ℕ, ◌+◌, ◌<◌, Bool, true, false, cond, List, [], ◌∷◌, refl, sym, ap, subst, arith}
use Rattle.std.specs.List.{AllByRecursion}
use Rattle.std.specs.Option.{option_map, unwrap_or}
use Rattle.std.specs.Prelude.{Err, None, Ok, Option, Result, Some, filter_map, is_some, nat_lt}
use Rattle.s38_base.specs.Limits.{body_limit}
use Rattle.s38_base.specs.declared.id.ObjNum.{ObjNum}
use Rattle.s38_laws_commits.proofs.LinkLaws.{port_journal_there}
use Rattle.s38_laws_commits.specs.Linked.{AreLinked}
use Rattle.s38_durable_state.specs.Durable.{is_of_number, kept}
use Rattle.s38_restart.specs.catalog.Groups.{groups}
use Rattle.s38_restart.specs.catalog.Stores.{ceiling_of, first_fault, objects_stored_in}
use Rattle.s38_image.specs.Faults.{Group, fault_after, fault_by, fault_of, first_fault_of, header_at, is_bad_body, is_bad_header, is_past, last_of_port, or_next, sound, sound_by}
use Rattle.s38_image.specs.Images.{object_of_parts}
use Rattle.s38_image.specs.declared.header.Header.{Header}
use Rattle.s38_image.specs.declared.stored.Stored.{Stored}
use Rattle.s38_laws_flush.proofs.durable.BeginLaws.{followed_in, opening_numbered}
use Rattle.s38_laws_flush.proofs.durable.FaultlessLaws.{read_images}
use Rattle.s38_laws_flush.specs.durable.Kept.{AreNumbered}
use Rattle.s38_laws_images.proofs.openings.RestartLaws.{restarts}
use Rattle.s38_restart.proofs.StoredLaws.{at_most, none_of, or_left}
use Rattle.s38_restart.specs.Parts.{AreParts, all_parts}
use Rattle.s38_restart.specs.Restarted.{data_followed, data_space_followed, imaged, restarted}
use Rattle.s38_rules.specs.state.Held.{Held, disk_in, is_on_disk, object}
use Rattle.s38_rules.specs.state.Journaling.{data_port, data_port_in, is_journal, journal_for, journal_named, journal_of_port}
use Rattle.s38_rules.specs.families.Ports.{port_journal, port_journal_in}
use Rattle.s38_rules.specs.state.Parts.{data_of, data_part, journal_part, over_body, part_in, port_of, port_part}
use Rattle.s38_rules.specs.declared.data_body.DataBody.{DataBody}
use Rattle.s38_rules.specs.declared.object.Body.TheVariants as bodies
use Rattle.s38_rules.specs.declared.object.Body.{Body}
use Rattle.s38_rules.specs.declared.object.Object.{Object}
use Rattle.s38_vault.specs.Content.{Content}

-- ---- bodies without a fault

module _ (all : List Group) (limit ceiling : ℕ) where
  abbrev IsGood : Stored → Type 0
  IsGood s = is_bad_body all limit ceiling s.sequence s.object.body ≡ false

  first_none : (n : ℕ) (o : Option ℕ) (next : Option (ℕ × ℕ)) → or_next n o next ≡ None → (o ≡ None) × (next ≡ None)
  first_none n None next h = (refl, h)
  first_none n (Some part) next h = absurd cc

  read_good : (g : Group) (o : Option Header) (r : Result Stored ℕ) (s : Stored) → object_of_parts limit g.number g.parts ≡ r → fault_by all limit ceiling g o ≡ None → sound_by all limit ceiling g o r ≡ Some s → IsGood s
  read_good g None r s read none is = absurd cc
  read_good g (Some h) (Err part) s read none is = absurd cc
  read_good g (Some h) (Ok t) s read none is = by (is_bad_header all ceiling g.number h) none is
    where
      same : (a b : Stored) → Some a ≡ Some b → a ≡ b
      same a b e = cc

      good : (b : Bool) → cond {A = Option ℕ} b (Some 128) None ≡ None → b ≡ false
      good true e = absurd cc
      good false e = refl

      by : (b : Bool) → cond {A = Option ℕ} b (Some 0) (fault_after all limit ceiling (object_of_parts limit g.number g.parts)) ≡ None → cond b None (Some t) ≡ Some s → IsGood s
      by true none is = absurd cc
      by false none is = subst IsGood (same t s is) (good (is_bad_body all limit ceiling t.sequence t.object.body) (sym (ap (fault_after all limit ceiling) read) ∙ none))

  all_good : (gs : List Group) → first_fault_of all limit ceiling gs ≡ None → AllByRecursion IsGood (filter_map (sound all limit ceiling) gs)
  all_good [] none = tt
  all_good (g ∷ gs) none =
      let both = first_none g.number (fault_of all limit ceiling g) (first_fault_of all limit ceiling gs) none in
      by both.0 (all_good gs both.1) (sound all limit ceiling g) refl
    where
      by : fault_of all limit ceiling g ≡ None → AllByRecursion IsGood (filter_map (sound all limit ceiling) gs) → (r : Option Stored) → sound all limit ceiling g ≡ r → AllByRecursion IsGood (filter_map (sound all limit ceiling) (g ∷ gs))
      by fault rest None is = rw is rest
      by fault rest (Some s) is = rw is (read_good g (header_at g) (object_of_parts limit g.number g.parts) s refl fault is, rest)

kept_each : (P : Stored → Type 0) (xs : List Stored) (n : ℕ) (x : Stored) → AllByRecursion P xs → kept xs n ≡ Some x → P x
kept_each P [] n x all found = cc
kept_each P (y ∷ ys) n x all found = by (kept_each P ys n x all.1) (is_of_number n y) found
  where
    same : (a b : Stored) → Some a ≡ Some b → a ≡ b
    same a b e = cc

    by : (kept ys n ≡ Some x → P x) → (b : Bool) → cond b (Some y) (kept ys n) ≡ Some x → P x
    by rest true e = subst P (same y x e) all.0
    by rest false e = rest e

-- ---- what is named

-- a data space keeps its port, and a port the journal space that it names
port_stays : (f : DataBody → DataBody) → ((d : DataBody) → (f d).port ≡ d.port) → (b : Body) → data_port_in (data_of (over_body data_part f b)) ≡ data_port_in (data_of b)
port_stays f same (bodies.DataSpace d) = ap (λ (p : ObjNum). p.0) (same d)
port_stays f same _ = refl

named_stays : (f : DataBody → DataBody) (b : Body) → port_journal_in (port_of (over_body data_part f b)) ≡ port_journal_in (port_of b)
named_stays f (bodies.DataSpace d) = refl
named_stays f _ = refl

module _ (all : List Group) (limit ceiling sequence : ℕ) where
  port_low : (b : Body) → is_bad_body all limit ceiling sequence b ≡ false → data_port_in (data_of b) < ceiling + 1
  port_low (bodies.DataSpace d) good = at_most ceiling d.port.0 (or_left (nat_lt ceiling d.port.0) (is_past sequence (last_of_port all limit ceiling d.port.0)) good)
  port_low _ good = omega arith

  named_low : (b : Body) → is_bad_body all limit ceiling sequence b ≡ false → port_journal_in (port_of b) < ceiling + 1
  named_low (bodies.Port p) good = at_most ceiling p.journal.0 good
  named_low _ good = omega arith

-- ---- the beginning

module _ (m : Content) (are : AreParts (all_parts m)) (fault : first_fault body_limit (all_parts m) ≡ None) where
  abbrev h : Held
  h = restarted body_limit (all_parts m)

  abbrev xs : List Stored
  xs = objects_stored_in body_limit (all_parts m)

  abbrev top : ℕ
  top = ceiling_of (all_parts m)

  abbrev gs : List Group
  gs = groups (all_parts m)

  numbered : AreNumbered h
  numbered = opening_numbered h (restarts body_limit (all_parts m) (omega arith) are fault)

  good : (n : ℕ) (x : Stored) → kept xs n ≡ Some x → is_bad_body gs body_limit top x.sequence x.object.body ≡ false
  good n x found =
      let none_is = none_of body_limit (all_parts m) fault in
      let at : top ≡ none_is.at = ap (λ (o : Option ℕ). unwrap_or o 0) none_is.is in
      let none : first_fault_of gs body_limit top gs ≡ None = subst (λ (k : ℕ). first_fault_of gs body_limit k gs ≡ None) (sym at) none_is.none in
      kept_each (λ s. is_bad_body gs body_limit top s.sequence s.object.body ≡ false) xs n x (all_good gs body_limit top gs none) found

  found_is : (n : ℕ) → object h n ≡ option_map (data_space_followed (imaged xs)) (kept xs n)
  found_is n = followed_in (imaged xs) xs n

  ports_low : (n : ℕ) → data_port h n < h.next
  ports_low n = subst (λ (r : Option Object). data_port_in (part_in data_part r) < h.next) (sym (found_is n)) (by (kept xs n) refl)
    where
      by : (r : Option Stored) → kept xs n ≡ r → data_port_in (part_in data_part (option_map (data_space_followed (imaged xs)) r)) < h.next
      by None found = omega arith
      by (Some x) found =
          let same = port_stays (data_followed (imaged xs) x.object.number.0 x.sequence) (λ d. refl) x.object.body in
          let low = port_low gs body_limit top x.sequence x.object.body (good n x found) in
          subst (λ (k : ℕ). k < h.next) (sym same) low

  names_low : (n : ℕ) → port_journal h n < h.next
  names_low n = subst (λ (r : Option Object). port_journal_in (part_in port_part r) < h.next) (sym (found_is n)) (by (kept xs n) refl)
    where
      by : (r : Option Stored) → kept xs n ≡ r → port_journal_in (part_in port_part (option_map (data_space_followed (imaged xs)) r)) < h.next
      by None found = omega arith
      by (Some x) found =
          let same = named_stays (data_followed (imaged xs) x.object.number.0 x.sequence) x.object.body in
          let low = named_low gs body_limit top x.sequence x.object.body (good n x found) in
          subst (λ (k : ℕ). k < h.next) (sym same) low

  -- what is there is on disk
  there_on_disk : (n : ℕ) → is_some (object h n) ≡ true → is_on_disk h n ≡ true
  there_on_disk n there = ap disk_in (found_is n) ∙ by (kept xs n) refl (sym (ap is_some (found_is n)) ∙ there)
    where
      by : (r : Option Stored) → kept xs n ≡ r → is_some (option_map (data_space_followed (imaged xs)) r) ≡ true → disk_in (option_map (data_space_followed (imaged xs)) r) ≡ true
      by None found there = absurd (let e : false ≡ true = there in cc)
      by (Some x) found there = (read_images m are fault n x found).on_disk

  space_there : (n journal : ℕ) → journal_for h n ≡ Some journal → is_some (object h n) ≡ true
  space_there n journal to = by (object h n) to
    where
      nothing : journal_of_port h 0 ≡ None
      nothing = ap (λ r. journal_named h (part_in port_part r)) numbered.none

      by : (r : Option Object) → journal_of_port h (data_port_in (part_in data_part r)) ≡ Some journal → is_some r ≡ true
      by None to = absurd (let e : None ≡ Some journal = sym nothing ∙ to in cc)
      by (Some o) to = refl

  port_there : (port journal : ℕ) → journal_of_port h port ≡ Some journal → is_some (object h port) ≡ true
  port_there port journal to = by (object h port) to
    where
      by : (r : Option Object) → journal_named h (part_in port_part r) ≡ Some journal → is_some r ≡ true
      by None to = cc
      by (Some o) to = refl

  journal_there : (journal : ℕ) → is_journal h journal ≡ true → is_some (object h journal) ≡ true
  journal_there journal is = by (object h journal) is
    where
      by : (r : Option Object) → is_some (part_in journal_part r) ≡ true → is_some r ≡ true
      by None is = absurd (let e : false ≡ true = is in cc)
      by (Some o) is = refl

  pub restarted_linked : AreLinked h
  restarted_linked = record {
    rising = numbered.rising;
    given = numbered.given;
    port = ports_low;
    journal = λ n. names_low (data_port h n);
    disk = λ n journal to. there_on_disk n (space_there n journal to);
    port_disk = λ n journal to. there_on_disk (data_port h n) (port_there (data_port h n) journal to);
    journal_disk = λ n journal to. there_on_disk journal (journal_there journal (port_journal_there h (data_port h n) journal to));
  }
