-- Objects that are kept and fit one another have no fault.
use Rattle.std.proofs.Common.{◌≡◌, ◌∙◌, ◌<◌, ◌≤◌, ◌==◌, ℕ, Bool, true, false, cond, not, List, [], ◌∷◌, Option, Some, None, map, length, refl, sym, ap, arith}
use Rattle.std.proofs.lemmas.Bool.Decides.{nat_tests}
use Rattle.std.specs.List.{AllByRecursion, list_any}
use Rattle.std.specs.Option.{option_and_then, option_map}
use Rattle.std.specs.Prelude.{◌&&◌, ◌||◌, Ok, Result, filter_map, is_some, nat_lt}
use Rattle.s38_base.specs.Ids.{same_id, same_kind}
use Rattle.s38_base.specs.Limits.{body_limit, machine_context}
use Rattle.s38_base.specs.declared.id.Id.{Id}
use Rattle.s38_base.specs.declared.id.Kind.TheVariants as kinds
use Rattle.s38_base.specs.declared.id.Kind.{Kind}
use Rattle.s38_base.specs.declared.id.ObjNum.{ObjNum}
use Rattle.s38_base.specs.declared.page.Change.{Change}
use Rattle.s38_durable_state.specs.Durable.{Durable, kept}
use Rattle.s38_image.proofs.AgainLaws.{object_again}
use Rattle.s38_image.proofs.ImageLaws.{fault_ok, then_ok}
use Rattle.s38_image.specs.Faults.{Group, fault_after, fault_by, fault_of, first_fault_of, group, group_is_on_disk, has_same, header_at, header_is_of_kind, header_is_of_other_kind, header_of_group, is_bad_body, is_bad_header, is_no_context, is_outside, is_past, is_same_in, is_twice, last_in, last_of_port, or_next, port_named, sound, sound_at, sound_by}
use Rattle.s38_image.specs.Fitting.{IsImage}
use Rattle.s38_image.specs.Images.{after_leading, header_in_parts, image_parts, leading, limited, object_of_parts, or_fault, with_all_pages, ◌>>>◌}
use Rattle.s38_image.specs.PartPlaces.{rows_part}
use Rattle.s38_image.specs.declared.header.Header.{Header}
use Rattle.s38_image.specs.declared.stored.Stored.{Stored}
use Rattle.s38_journals.specs.Journals.{JournalList}
use Rattle.s38_restart.proofs.StoredLaws.{object_made}
use Rattle.s38_rules.specs.state.Parts.{data_of, journal_of, port_of}
use Rattle.s38_rules.specs.declared.object.Body.TheVariants as bodies
use Rattle.s38_rules.specs.declared.object.Body.{Body}
use Rattle.s38_rules.specs.declared.port.Port.{Port}
use Rattle.s38_flush.proofs.KeptLaws.{kept_number}
use Rattle.s38_laws_recovery.specs.Restarting.{CanRestart, FitsAmong, is_home_kind, is_kind_kept, is_kind_or_none, journal_kept, port_journal_kept}
use Rattle.s38_laws_recovery.proofs.GroupLaws.{group_of_stored, groups_kept}
use Rattle.s38_laws_recovery.proofs.NumberLaws.{IsKeptIn, number_same}

-- ---- tests

neither : (a b : Bool) → a ≡ false → b ≡ false → (a || b) ≡ false
neither a b h k = rw (h, k) refl

is_false : (b : Bool) → (b ≡ true → ⊥) → b ≡ false
is_false true h = absurd (h refl)
is_false false h = refl

and_both : (a b : Bool) → (a && b) ≡ true → (a ≡ true) × (b ≡ true)
and_both true b h = (refl, h)
and_both false b h = absurd (let e : false ≡ true = h in cc)

at_most : (a b : ℕ) → a ≤ b → nat_lt b a ≡ false
at_most a b h = grind (arith, nat_tests)

below : (a b : ℕ) → nat_lt a b ≡ true → a < b
below a b h = grind (arith, nat_tests)

-- ---- the header that is read of an object

record IsHeaded (x : Stored) : Type 0 where
  pub head : Header
  pub found : header_at (group_of_stored x) ≡ Some head
  pub id : head.id ≡ x.object.id
  pub context : head.context ≡ x.object.context
  pub owner : head.owner ≡ x.object.owner

has_header : (limit n : ℕ) (parts : List Change) (s : Stored) → object_of_parts limit n parts ≡ Ok s → (h : Header) × (header_in_parts n (leading rows_part parts) ≡ Some h)
unfolding object_of_parts
has_header limit n parts s read =
    let later = after_leading rows_part parts in
    let a = then_ok (or_fault 0 (header_in_parts n (leading rows_part parts)) >>> limited limit) (λ x. with_all_pages n parts x later) s read in
    let b = then_ok (or_fault 0 (header_in_parts n (leading rows_part parts))) (limited limit) a.0 a.1 in
    (b.0, fault_ok 0 (header_in_parts n (leading rows_part parts)) b.0 b.1)

headed : (x : Stored) → IsImage body_limit x → IsHeaded x
headed x image =
    let n = x.object.number.0 in
    let read = object_again body_limit x image in
    let h = has_header body_limit n (image_parts x) x read in
    let made_is = object_made body_limit n (image_parts x) h.0 x h.1 read in
    record {
      head = h.0;
      found = h.1;
      id = sym (ap (λ (t : Stored). t.object.id) made_is.is);
      context = sym (ap (λ (t : Stored). t.object.context) made_is.is);
      owner = sym (ap (λ (t : Stored). t.object.owner) made_is.is);
    }

-- ---- what is found under a number

group_found : (n : ℕ) (xs : List Stored) → group (map group_of_stored xs) n ≡ option_map group_of_stored (kept xs n)
group_found n [] = refl
group_found n (x ∷ xs) = by (x.object.number.0 == n) (group_found n xs)
  where
    by : (b : Bool) → group (map group_of_stored xs) n ≡ option_map group_of_stored (kept xs n)
        → cond b (Some (group_of_stored x)) (group (map group_of_stored xs) n) ≡ option_map group_of_stored (cond b (Some x) (kept xs n))
    by true rest = refl
    by false rest = rest

pub disk_found : (n : ℕ) (xs : List Stored) → group_is_on_disk (map group_of_stored xs) n ≡ is_some (kept xs n)
disk_found n [] = refl
disk_found n (x ∷ xs) = by (x.object.number.0 == n) (disk_found n xs)
  where
    by : (b : Bool) → group_is_on_disk (map group_of_stored xs) n ≡ is_some (kept xs n) → (b || group_is_on_disk (map group_of_stored xs) n) ≡ is_some (cond b (Some x) (kept xs n))
    by true rest = refl
    by false rest = rest

module _ (d : Durable) (can : CanRestart d) where
  abbrev all : List Group
  all = groups_kept d

  none_headed : (n : ℕ) → kept d.objects n ≡ None → header_of_group all n ≡ None
  none_headed n is = ap (option_and_then header_at) (group_found n d.objects ∙ ap (option_map group_of_stored) is)

  header_found : (n : ℕ) (y : Stored) → kept d.objects n ≡ Some y → (h : IsHeaded y) → header_of_group all n ≡ Some h.head
  header_found n y is h = ap (option_and_then header_at) (group_found n d.objects ∙ ap (option_map group_of_stored) is) ∙ h.found

  -- ---- a header

  -- whether what is kept under a number is of a kind
  kind_found : (kind : Kind) (n : ℕ) → is_kind_kept kind (kept d.objects n) ≡ true → header_is_of_kind kind (header_of_group all n) ≡ true
  kind_found kind n = by (kept d.objects n) refl
    where
      by : (r : Option Stored) → kept d.objects n ≡ r → is_kind_kept kind r ≡ true → header_is_of_kind kind (header_of_group all n) ≡ true
      by None is h = absurd (let e : false ≡ true = h in cc)
      by (Some y) is h =
          let own = headed y (can.images n y is) in
          ap (header_is_of_kind kind) (header_found n y is own) ∙ ap (λ (i : Id). same_kind i.kind kind) own.id ∙ h

  pub other_found : (kind : Kind) (n : ℕ) → is_kind_or_none kind (kept d.objects n) ≡ true → header_is_of_other_kind kind (header_of_group all n) ≡ false
  other_found kind n = by (kept d.objects n) refl
    where
      by : (r : Option Stored) → kept d.objects n ≡ r → is_kind_or_none kind r ≡ true → header_is_of_other_kind kind (header_of_group all n) ≡ false
      by None is h = ap (header_is_of_other_kind kind) (none_headed n is)
      by (Some y) is h =
          let own = headed y (can.images n y is) in
          ap (header_is_of_other_kind kind) (header_found n y is own) ∙ ap (λ (i : Id). not (same_kind i.kind kind)) own.id ∙ ap not h

  module _ (n : ℕ) (x : Stored) (at : kept d.objects n ≡ Some x) (h : IsHeaded x) where
    fits : FitsAmong d n x
    fits = can.each n x at

    owner_is : header_is_of_kind kinds.Profile (header_of_group all h.head.owner.0) ≡ true
    owner_is = ap (λ (o : ObjNum). header_is_of_kind kinds.Profile (header_of_group all o.0)) h.owner ∙ kind_found kinds.Profile x.object.owner.0 fits.owner

    -- no lower object has its identification
    alike : (y : Stored) → IsKeptIn d.objects y → group_is_on_disk all h.head.context.0 ≡ true → is_same_in n h.head (group_of_stored y) ≡ true → ⊥
    alike y kept_y disk is =
        let own = headed y (can.images y.object.number.0 y kept_y) in
        let two = and_both (nat_lt y.object.number.0 n) (has_same h.head (header_at (group_of_stored y))) is in
        let same : has_same h.head (Some own.head) ≡ true = sym (ap (has_same h.head) own.found) ∙ two.1 in
        let both = and_both (own.head.context.0 == h.head.context.0) (same_id own.head.id h.head.id) same in
        let context : own.head.context.0 ≡ h.head.context.0 = number_same own.head.context.0 h.head.context.0 both.0 in
        let kept_context : is_some (kept d.objects x.object.context.0) ≡ true = sym (disk_found x.object.context.0 d.objects) ∙ sym (ap (λ (c : ObjNum). group_is_on_disk all c.0) h.context) ∙ disk in
        let one : y.object.number.0 ≡ n = fits.apart y.object.number.0 y kept_y (record {
          kept = kept_context;
          context = sym (ap (λ (c : ObjNum). c.0) own.context) ∙ context ∙ ap (λ (c : ObjNum). c.0) h.context;
          id = sym (ap (λ (i : Id). same_id i x.object.id) own.id) ∙ sym (ap (λ (i : Id). same_id own.head.id i) h.id) ∙ both.1;
        }) in
        let less = below y.object.number.0 n two.0 in
        omega (arith, one, less)

    none_alike : (ys : List Stored) → AllByRecursion (IsKeptIn d.objects) ys → group_is_on_disk all h.head.context.0 ≡ true → list_any (is_same_in n h.head) (map group_of_stored ys) ≡ false
    none_alike [] each disk = refl
    none_alike (y ∷ ys) each disk =
        neither (is_same_in n h.head (group_of_stored y)) (list_any (is_same_in n h.head) (map group_of_stored ys)) (is_false _ (alike y each.0 disk)) (none_alike ys each.1 disk)

    not_twice : AllByRecursion (IsKeptIn d.objects) d.objects → is_twice all n h.head ≡ false
    not_twice each = by (group_is_on_disk all h.head.context.0) refl
      where
        by : (b : Bool) → group_is_on_disk all h.head.context.0 ≡ b → (b && list_any (is_same_in n h.head) all) ≡ false
        by true disk = none_alike d.objects each disk
        by false disk = refl

    not_outside : is_outside h.head ≡ false
    not_outside =
        ap (λ (i : Id). (same_kind i.kind kinds.Context || same_kind i.kind kinds.Profile) && not (h.head.context.0 == machine_context)) h.id
        ∙ ap (λ (c : ObjNum). is_home_kind x && not (c.0 == machine_context)) h.context ∙ by (is_home_kind x) refl
      where
        by : (b : Bool) → is_home_kind x ≡ b → (b && not (x.object.context.0 == machine_context)) ≡ false
        by true is = ap (λ (c : ℕ). not (c == machine_context)) (fits.home is)
        by false is = refl

    has_context : is_no_context all d.ceiling h.head ≡ false
    has_context =
        neither (nat_lt d.ceiling h.head.context.0) (header_is_of_other_kind kinds.Context (header_of_group all h.head.context.0))
        (ap (λ (c : ObjNum). nat_lt d.ceiling c.0) h.context ∙ at_most x.object.context.0 d.ceiling fits.placed)
        (ap (λ (c : ObjNum). header_is_of_other_kind kinds.Context (header_of_group all c.0)) h.context ∙ other_found kinds.Context x.object.context.0 fits.context)

    good_header : AllByRecursion (IsKeptIn d.objects) d.objects → is_bad_header all d.ceiling n h.head ≡ false
    good_header each =
        neither (nat_lt d.ceiling n || not (header_is_of_kind kinds.Profile (header_of_group all h.head.owner.0))) (is_twice all n h.head || (is_outside h.head || is_no_context all d.ceiling h.head))
        (neither (nat_lt d.ceiling n) (not (header_is_of_kind kinds.Profile (header_of_group all h.head.owner.0))) (at_most n d.ceiling fits.given) (ap not owner_is))
        (neither (is_twice all n h.head) (is_outside h.head || is_no_context all d.ceiling h.head) (not_twice each) (neither (is_outside h.head) (is_no_context all d.ceiling h.head) not_outside has_context))

  module _ (each : AllByRecursion (IsKeptIn d.objects) d.objects) where
    -- ---- an object is read

    sound_is : (n : ℕ) (x : Stored) → kept d.objects n ≡ Some x → sound all body_limit d.ceiling (group_of_stored x) ≡ Some x
    sound_is n x at =
        let h = headed x (can.images n x at) in
        let own : x.object.number.0 ≡ n = kept_number n d.objects x at in
        let here : kept d.objects x.object.number.0 ≡ Some x = ap (kept d.objects) own ∙ at in
        ap (λ (o : Option Header). sound_by all body_limit d.ceiling (group_of_stored x) o (object_of_parts body_limit x.object.number.0 (image_parts x))) h.found
        ∙ ap (λ (r : Result Stored ℕ). sound_by all body_limit d.ceiling (group_of_stored x) (Some h.head) r) (object_again body_limit x (can.images n x at))
        ∙ ap (λ b. cond b None (Some x)) (good_header x.object.number.0 x here h each)

    sound_found : (n : ℕ) → sound_at all body_limit d.ceiling n ≡ kept d.objects n
    sound_found n = ap (option_and_then (sound all body_limit d.ceiling)) (group_found n d.objects) ∙ by (kept d.objects n) refl
      where
        by : (r : Option Stored) → kept d.objects n ≡ r → option_and_then (sound all body_limit d.ceiling) (option_map group_of_stored r) ≡ r
        by None is = refl
        by (Some x) is = sound_is n x is

    -- ---- a body

    -- the last sequence of the journal space of a port
    last_is : (port : ℕ) → last_of_port all body_limit d.ceiling port ≡ option_map (λ j. length j.entries) (port_journal_kept d port)
    last_is port =
        ap (λ (r : Option Stored). option_and_then last_in (option_and_then (λ p. sound_at all body_limit d.ceiling p.journal.0) (option_and_then port_named r))) (sound_found port)
        ∙ by (kept d.objects port)
      where
        counted : (r : Option Stored) → option_and_then last_in r ≡ option_map (λ (j : JournalList). length j.entries) (option_and_then (λ (x : Stored). journal_of x.object.body) r)
        counted None = refl
        counted (Some x) = refl

        named : (r : Option Port) → option_and_then last_in (option_and_then (λ p. sound_at all body_limit d.ceiling p.journal.0) r) ≡ option_map (λ (j : JournalList). length j.entries) (option_and_then (λ p. journal_kept d p.journal.0) r)
        named None = refl
        named (Some p) = ap (option_and_then last_in) (sound_found p.journal.0) ∙ counted (kept d.objects p.journal.0)

        by : (r : Option Stored) → option_and_then last_in (option_and_then (λ p. sound_at all body_limit d.ceiling p.journal.0) (option_and_then port_named r))
            ≡ option_map (λ (j : JournalList). length j.entries) (option_and_then (λ p. journal_kept d p.journal.0) (option_and_then (λ (x : Stored). port_of x.object.body) r))
        by None = refl
        by (Some x) = named (port_of x.object.body)

    not_past : (sequence port : ℕ) → ((journal : JournalList) → port_journal_kept d port ≡ Some journal → sequence ≤ length journal.entries) → is_past sequence (last_of_port all body_limit d.ceiling port) ≡ false
    not_past sequence port few = ap (is_past sequence) (last_is port) ∙ by (port_journal_kept d port) refl
      where
        by : (r : Option JournalList) → port_journal_kept d port ≡ r → is_past sequence (option_map (λ j. length j.entries) r) ≡ false
        by None is = refl
        by (Some journal) is = at_most sequence (length journal.entries) (few journal is)

    good_by : (n : ℕ) (x : Stored) → kept d.objects n ≡ Some x → (b : Body) → x.object.body ≡ b → is_bad_body all body_limit d.ceiling x.sequence b ≡ false
    good_by n x at (bodies.DataSpace held) is =
        let fits = can.each n x at in
        let own : data_of x.object.body ≡ Some held = ap data_of is in
        neither (nat_lt d.ceiling held.port.0) (is_past x.sequence (last_of_port all body_limit d.ceiling held.port.0)) (at_most held.port.0 d.ceiling (fits.port held own))
        (not_past x.sequence held.port.0 (λ journal found. fits.counted held journal own found))
    good_by n x at (bodies.Port p) is = at_most p.journal.0 d.ceiling ((can.each n x at).journal p (ap port_of is))
    good_by n x at _ is = refl

    -- ---- no fault

    no_fault : (n : ℕ) (x : Stored) → kept d.objects n ≡ Some x → fault_of all body_limit d.ceiling (group_of_stored x) ≡ None
    no_fault n x at =
        let h = headed x (can.images n x at) in
        let own : x.object.number.0 ≡ n = kept_number n d.objects x at in
        let here : kept d.objects x.object.number.0 ≡ Some x = ap (kept d.objects) own ∙ at in
        ap (fault_by all body_limit d.ceiling (group_of_stored x)) h.found
        ∙ ap (λ b. cond b (Some 0) (fault_after all body_limit d.ceiling (object_of_parts body_limit x.object.number.0 (image_parts x)))) (good_header x.object.number.0 x here h each)
        ∙ ap (fault_after all body_limit d.ceiling) (object_again body_limit x (can.images n x at))
        ∙ ap (λ b. cond b (Some 128) None) (good_by n x at x.object.body refl)

    pub none_first : (xs : List Stored) → AllByRecursion (IsKeptIn d.objects) xs → first_fault_of all body_limit d.ceiling (map group_of_stored xs) ≡ None
    none_first [] kept_in = refl
    none_first (x ∷ xs) kept_in =
        ap (λ (r : Option ℕ). or_next x.object.number.0 r (first_fault_of all body_limit d.ceiling (map group_of_stored xs))) (no_fault x.object.number.0 x kept_in.0)
        ∙ none_first xs kept_in.1

    pub all_read : (xs : List Stored) → AllByRecursion (IsKeptIn d.objects) xs → filter_map (sound all body_limit d.ceiling) (map group_of_stored xs) ≡ xs
    all_read [] kept_in = refl
    all_read (x ∷ xs) kept_in = rw (sound_is x.object.number.0 x kept_in.0) (ap (λ (ys : List Stored). x ∷ ys) (all_read xs kept_in.1))
