-- What a restart reads of a content without a fault can restart, and a run that begins with it keeps it so.
use Rattle.std.proofs.Common.{◌≡◌, ◌∙◌, ◌<◌, ℕ, true, false, List, [], ◌∷◌, Option, Some, None, map, refl, sym, ap, subst, arith}
use Rattle.std.specs.List.Sorted.{IsStrictlyIncreasing}
use Rattle.std.specs.Option.{option_map}
use Rattle.std.specs.Prelude.{is_some}
use Rattle.s38_base.specs.Ids.{same_kind}
use Rattle.s38_base.specs.Limits.{body_limit, machine_context}
use Rattle.s38_base.specs.declared.id.Kind.TheVariants as kinds
use Rattle.s38_base.specs.declared.id.Kind.{Kind}
use Rattle.s38_code.specs.declared.deck.Job.{Job}
use Rattle.s38_code.specs.declared.made.CheckedTemplate.{CheckedTemplate}
use Rattle.s38_laws_commits.proofs.FoundLaws.{followed_object}
use Rattle.s38_laws_commits.proofs.LinkLaws.{port_journal_there}
use Rattle.s38_durable_state.specs.Durable.{Durable, kept}
use Rattle.s38_durable_state.specs.Following.{object_number}
use Rattle.s38_restart.specs.catalog.Stores.{first_fault}
use Rattle.s38_image.specs.Fitting.{IsImage}
use Rattle.s38_image.specs.declared.stored.Stored.{Stored}
use Rattle.s38_image_writer.proofs.KindLaws.{read_printable}
use Rattle.s38_laws_flush.proofs.durable.BeginLaws.{begins_kept, opening_numbered}
use Rattle.s38_laws_flush.proofs.durable.FaultlessLaws.{read_images}
use Rattle.s38_laws_flush.specs.durable.Beginning.{durable_in, origin_of}
use Rattle.s38_laws_images.specs.openings.Opening.{IsOpening}
use Rattle.s38_restart.specs.Parts.{AreParts, all_parts}
use Rattle.s38_restart.specs.Restarted.{data_space_followed, imaged, number_in_stored, restarted}
use Rattle.s38_rules.specs.families.Creation.{is_of_kind}
use Rattle.s38_rules.specs.state.Held.{Held, disk_in, is_on_disk, kind_of, object}
use Rattle.s38_rules.specs.state.Journaling.{data_port, data_port_in, journal_for, journal_named, journal_of_port}
use Rattle.s38_rules.specs.families.Ports.{port_journal, port_journal_in}
use Rattle.s38_rules.specs.state.Parts.{data_of, data_part, journal_part, over_body, part_at, part_in, port_of, port_part}
use Rattle.s38_rules.specs.families.Profiles.{officer}
use Rattle.s38_rules.specs.store.Room.{Room}
use Rattle.s38_rules.specs.declared.data_body.DataBody.{DataBody}
use Rattle.s38_rules.specs.declared.object.Body.TheVariants as bodies
use Rattle.s38_rules.specs.declared.object.Body.{Body}
use Rattle.s38_rules.specs.declared.object.Object.{Object}
use Rattle.s38_rules.specs.declared.port.Port.{Port}
use Rattle.s38_vault.specs.Content.{Content}
use Rattle.s38_laws_recovery.specs.Restartable.{AreKeptLinks, AreReady, IsRestartable}
use Rattle.s38_laws_recovery.specs.Restarting.{CanRestart, is_kind_kept}
use Rattle.s38_laws_recovery.proofs.CanLaws.{can_restart}
use Rattle.s38_laws_recovery.proofs.SoundLaws.{counted_in, journal_given, port_given, user_there}

-- ---- what follows a journal space

port_stays : (f : DataBody → DataBody) (b : Body) → port_of (over_body data_part f b) ≡ port_of b
port_stays f (bodies.DataSpace d) = refl
port_stays f _ = refl

kind_stays : (f : DataBody → DataBody) (b : Body) → kind_of (over_body data_part f b) ≡ kind_of b
kind_stays f (bodies.DataSpace d) = refl
kind_stays f _ = refl

-- it names the same port
named_stays : (f : DataBody → DataBody) (b : Body) → ((x : DataBody) → (f x).port ≡ x.port) → data_port_in (data_of (over_body data_part f b)) ≡ data_port_in (data_of b)
named_stays f (bodies.DataSpace d) same = ap (λ p. p.0) (same d)
named_stays f _ same = refl

module _ (m : Content) (are : AreParts (all_parts m)) (fault : first_fault body_limit (all_parts m) ≡ None) (is : IsOpening (restarted body_limit (all_parts m))) where
  abbrev d : Durable
  d = durable_in m

  abbrev h : Held
  h = restarted body_limit (all_parts m)

  abbrev as_read : Stored → Object
  as_read = data_space_followed (imaged d.objects)

  images : (n : ℕ) (x : Stored) → kept d.objects n ≡ Some x → IsImage body_limit x
  images n x at = read_images m are fault n x at

  found : (n : ℕ) → object h n ≡ option_map as_read (kept d.objects n)
  found n = followed_object (imaged d.objects) d.objects n

  -- what is there was read
  read_of : (n : ℕ) (o : Object) → object h n ≡ Some o → (x : Stored) × ((kept d.objects n ≡ Some x) × (o ≡ as_read x))
  read_of n o at = by (kept d.objects n) refl (sym (found n) ∙ at)
    where
      by : (r : Option Stored) → kept d.objects n ≡ r → option_map as_read r ≡ Some o → (x : Stored) × ((kept d.objects n ≡ Some x) × (o ≡ as_read x))
      by None is_kept e = absurd (let g : None ≡ Some o = e in cc)
      by (Some x) is_kept e = (x, (is_kept, same e))
        where
          same : Some (as_read x) ≡ Some o → o ≡ as_read x
          same g = cc

  -- and is on disk
  on_there : (n : ℕ) (o : Object) → object h n ≡ Some o → is_on_disk h n ≡ true
  on_there n o at =
      let x = read_of n o at in
      ap disk_in at ∙ ap (λ (y : Object). y.on_disk) x.1.1 ∙ (images n x.0 x.1.0).on_disk

  on_disk : (n : ℕ) → is_some (object h n) ≡ true → is_on_disk h n ≡ true
  on_disk n there = by (object h n) refl there
    where
      by : (r : Option Object) → object h n ≡ r → is_some r ≡ true → is_on_disk h n ≡ true
      by None at some = absurd (let e : false ≡ true = some in cc)
      by (Some o) at some = on_there n o at

  kind_there : (kind : Kind) (n : ℕ) → is_of_kind kind (object h n) ≡ true → is_on_disk h n ≡ true
  kind_there kind n is_kind = on_disk n (by (object h n) is_kind)
    where
      by : (r : Option Object) → is_of_kind kind r ≡ true → is_some r ≡ true
      by None e = absurd (let g : false ≡ true = e in cc)
      by (Some o) e = refl

  first_user : is_of_kind kinds.Profile (object h officer) ≡ true
  first_user = by (kept d.objects officer) refl (user_there m fault)
    where
      by : (r : Option Stored) → kept d.objects officer ≡ r → is_kind_kept kinds.Profile r ≡ true → is_of_kind kinds.Profile (object h officer) ≡ true
      by None is_kept e = absurd (let g : false ≡ true = e in cc)
      by (Some x) is_kept e =
          ap (is_of_kind kinds.Profile) (found officer ∙ ap (option_map as_read) is_kept)
          ∙ ap (same_kind kinds.Profile) (kind_stays _ x.object.body ∙ (read_printable body_limit x (omega arith) (images officer x is_kept)).kind) ∙ turned x.object.id.kind e
        where
          turned : (k : Kind) → same_kind k kinds.Profile ≡ true → same_kind kinds.Profile k ≡ true
          turned kinds.Profile g = refl
          turned _ g = absurd (let f : false ≡ true = g in cc)

  -- ---- links

  -- what a number holds was read
  port_read : (n : ℕ) (x : Stored) → kept d.objects n ≡ Some x → part_at port_part h n ≡ port_of x.object.body
  port_read n x is_kept = ap (part_in port_part) (found n ∙ ap (option_map as_read) is_kept) ∙ port_stays _ x.object.body

  space_read : (n : ℕ) (x : Stored) → kept d.objects n ≡ Some x → data_port h n ≡ data_port_in (data_of x.object.body)
  space_read n x is_kept = ap (λ (r : Option Object). data_port_in (part_in data_part r)) (found n ∙ ap (option_map as_read) is_kept) ∙ named_stays _ x.object.body (λ b. refl)

  read_links : AreKeptLinks h d
  read_links = record {
    port = λ n x p at own. port_read n x at ∙ own;
    space = λ n x b at own. space_read n x at ∙ ap data_port_in own;
  }

  ports_given : (n : ℕ) (p : Port) → part_at port_part h n ≡ Some p → p.journal.0 < h.next
  ports_given n p at = by (kept d.objects n) refl
    where
      by : (r : Option Stored) → kept d.objects n ≡ r → p.journal.0 < h.next
      by None is_kept = absurd (let e : None ≡ Some p = sym (ap (part_in port_part) (found n ∙ ap (option_map as_read) is_kept)) ∙ at in cc)
      by (Some x) is_kept = let low = journal_given m fault n x p is_kept (sym (port_read n x is_kept) ∙ at) in omega (arith, low)

  space_given : (n : ℕ) → data_port h n < h.next
  space_given n = by (kept d.objects n) refl
    where
      low : (x : Stored) → kept d.objects n ≡ Some x → (r : Option DataBody) → data_of x.object.body ≡ r → data_port_in r < h.next
      low x is_kept None own = omega arith
      low x is_kept (Some b) own = let less = port_given m fault n x b is_kept own in omega (arith, less)

      by : (r : Option Stored) → kept d.objects n ≡ r → data_port h n < h.next
      by None is_kept = let zero_is : data_port h n ≡ 0 = ap (λ (r : Option Object). data_port_in (part_in data_part r)) (found n ∙ ap (option_map as_read) is_kept) in omega (arith, zero_is)
      by (Some x) is_kept = subst (λ (k : ℕ). k < h.next) (sym (space_read n x is_kept)) (low x is_kept (data_of x.object.body) refl)

  named_given : (port : ℕ) → port_journal h port < h.next
  named_given port = by (part_at port_part h port) refl
    where
      by : (r : Option Port) → part_at port_part h port ≡ r → port_journal_in r < h.next
      by None at = omega arith
      by (Some p) at = ports_given port p at

  -- a data space that is journaled is there, and so are its port and its journal space
  port_there : (port journal : ℕ) → journal_of_port h port ≡ Some journal → is_on_disk h port ≡ true
  port_there port journal to = by (object h port) refl
    where
      by : (r : Option Object) → object h port ≡ r → is_on_disk h port ≡ true
      by None at = absurd (let e : None ≡ Some journal = sym (ap (λ r. journal_named h (part_in port_part r)) at) ∙ to in cc)
      by (Some o) at = on_there port o at

  space_there : (n journal : ℕ) → journal_for h n ≡ Some journal → is_on_disk h n ≡ true
  space_there n journal to = by (object h n) refl
    where
      nothing : journal_of_port h 0 ≡ None
      nothing = ap (λ r. journal_named h (part_in port_part r)) (opening_numbered h is).none

      by : (r : Option Object) → object h n ≡ r → is_on_disk h n ≡ true
      by None at = absurd (let e : None ≡ Some journal = sym (ap (λ r. journal_of_port h (data_port_in (part_in data_part r))) at ∙ nothing) ∙ to in cc)
      by (Some o) at = on_there n o at

  journal_on : (port journal : ℕ) → journal_of_port h port ≡ Some journal → is_on_disk h journal ≡ true
  journal_on port journal to = by (object h journal) refl (port_journal_there h port journal to)
    where
      by : (r : Option Object) → object h journal ≡ r → is_some (part_in journal_part (object h journal)) ≡ true → is_on_disk h journal ≡ true
      by None at some = absurd (let e : false ≡ true = sym (ap (λ r. is_some (part_in journal_part r)) at) ∙ some in cc)
      by (Some o) at some = on_there journal o at

  read_ready : AreReady h
  read_ready = record {
    users = λ n is_user. kind_there kinds.Profile n is_user;
    machine = is.fit.machine;
    machine_disk = kind_there kinds.Context machine_context is.fit.machine;
    first_user = first_user;
    linked = record {
      rising = (opening_numbered h is).rising;
      given = (opening_numbered h is).given;
      port = space_given;
      journal = λ n. named_given (data_port h n);
      disk = space_there;
      port_disk = λ n journal to. port_there (data_port h n) journal to;
      journal_disk = λ n journal to. journal_on (data_port h n) journal to;
    };
    ports = ports_given;
  }

  -- ---- numbers

  numbers : (xs : List Stored) → map object_number (map as_read xs) ≡ map number_in_stored xs
  numbers [] = refl
  numbers (x ∷ xs) = ap (λ (ns : List ℕ). number_in_stored x ∷ ns) (numbers xs)

  read_rising : IsStrictlyIncreasing (map number_in_stored d.objects)
  read_rising = subst (λ (ns : List ℕ). IsStrictlyIncreasing ns) (numbers d.objects) (opening_numbered h is).rising

  -- ---- a run begins

  pub begins_restartable : (k : Held) (templates : List CheckedTemplate) (jobs : List Job) (room : Option Room) → k ≡ h → IsRestartable (origin_of k templates jobs room) d
  begins_restartable k templates jobs room same = record {
    limit = omega arith;
    ready = subst AreReady (sym same) read_ready;
    rising = read_rising;
    links = subst (λ (j : Held). AreKeptLinks j d) (sym same) read_links;
    counted = λ n x b j at own to. counted_in m fault n x b j at own to;
  }

  pub begins_can : CanRestart d
  begins_can =
      can_restart (origin_of h [] [] None) d (begins_kept m h are fault refl is [] [] None tt) is.lawful is.numbered is.fit images (begins_restartable h [] [] None refl)
