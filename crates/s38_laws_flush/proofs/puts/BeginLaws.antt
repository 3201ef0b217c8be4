-- A run over a store begins with journal spaces that are kept whole, and what can be read again is short.
use Rattle.std.proofs.Common.{◌≡◌, ◌∙◌, ℕ, ◌≤◌, ◌==◌, zero, suc, Bool, true, false, cond, List, [], map, refl, sym, ap, subst, arith}
use Rattle.std.proofs.lemmas.Bool.{and_parts, eqb-true}
use Rattle.std.specs.Option.{option_map, unwrap_or}
use Rattle.std.specs.Prelude.{◌&&◌, None, Option, Some, nat_le}
use Rattle.s38_base.specs.Limits.{body_limit, most_rows}
use Rattle.s38_base.specs.declared.id.Kind.TheVariants as kinds
use Rattle.s38_base.specs.declared.id.Kind.{Kind}
use Rattle.s38_code.specs.declared.deck.Job.{Job}
use Rattle.s38_code.specs.declared.made.CheckedTemplate.{CheckedTemplate}
use Rattle.s38_codec.specs.Formats.{FitsCase, fits_from}
use Rattle.s38_laws_commits.specs.Linked.{AreLinked}
use Rattle.s38_commits.specs.Units.{UnitMap}
use Rattle.s38_durable_state.specs.Durable.{Durable, kept}
use Rattle.s38_restart.specs.catalog.Stores.{first_fault}
use Rattle.s38_image.specs.Bodies.{body_tags}
use Rattle.s38_image.specs.Fitting.{FitsBody, IsImage}
use Rattle.s38_image.specs.Headers.{longest_body}
use Rattle.s38_image.specs.Images.{image_of, stored_header}
use Rattle.s38_image.specs.Journals.{entry}
use Rattle.s38_image.specs.declared.stored.Stored.{Stored}
use Rattle.s38_image_writer.proofs.KindLaws.{read_printable}
use Rattle.s38_journals.specs.Journals.{JournalList}
use Rattle.s38_laws_flush.proofs.durable.BeginLaws.{followed_in}
use Rattle.s38_laws_flush.proofs.durable.ImageLaws.{image_header}
use Rattle.s38_laws_flush.proofs.durable.FaultlessLaws.{read_images}
use Rattle.s38_laws_flush.specs.durable.Beginning.{durable_in, origin_of}
use Rattle.s38_restart.specs.Parts.{AreParts, all_parts}
use Rattle.s38_restart.specs.Restarted.{data_followed, data_space_followed, imaged, restarted}
use Rattle.s38_rules.specs.state.Held.{Held, disk_in, is_on_disk, kind_of, object_in}
use Rattle.s38_rules.specs.state.Parts.{data_part, journal_of, journal_part, over_body, part_at, part_in}
use Rattle.s38_rules.specs.state.PartsAt.{journal_at, no_journal}
use Rattle.s38_rules.specs.state.LawfulParts.{journal_lawful}
use Rattle.s38_rules.specs.store.Room.{Room, image_len}
use Rattle.s38_rules.specs.declared.data_body.DataBody.{DataBody}
use Rattle.s38_rules.specs.declared.object.Body.TheVariants as bodies
use Rattle.s38_rules.specs.declared.object.Body.{Body}
use Rattle.s38_vault.specs.Content.{Content}
use Rattle.s38_laws_flush.specs.puts.Fresh.{AreFresh}
use Rattle.s38_laws_flush.specs.puts.Trails.{AreTrailing, IsTrailOf, IsTrailing}
use Rattle.s38_laws_flush.specs.puts.Unforced.{AreLow}
use Rattle.s38_laws_flush.proofs.puts.LongerLaws.{append_none}
use Rattle.s38_laws_flush.proofs.puts.NamedLaws.{restarted_linked}
use Rattle.s38_laws_flush.proofs.puts.ShapeLaws.{true_le}

-- ---- what can be read again

-- a journal space that can be read again has no byte that is unforced
journal_forced : (tags : List ℕ) (b : Body) (sequence : ℕ) (i : JournalList) → b ≡ bodies.Journal i → FitsBody kinds.Journal tags (record { body = b; sequence = sequence }) → i.unforced ≡ 0
journal_forced tags b sequence i is fits = by sequence (subst (λ (c : Body). FitsBody kinds.Journal tags (record { body = c; sequence = sequence })) is fits)
  where
    at : (c : Bool) → ((i.spare == 0) && (i.unforced == 0)) ≡ c → FitsCase (λ x. fits_from entry 1 x ≡ true) (cond c (Some i.entries) None) → i.unforced ≡ 0
    at true none fit = eqb-true i.unforced 0 (and_parts (i.spare == 0) (i.unforced == 0) none).1
    at false some fit = absurd fit

    by : (k : ℕ) → FitsBody kinds.Journal tags (record { body = bodies.Journal i; sequence = k }) → i.unforced ≡ 0
    by zero fit = at ((i.spare == 0) && (i.unforced == 0)) refl fit
    by (suc k) fit = absurd fit

image_forced : (x : Stored) (i : JournalList) → IsImage body_limit x → kind_of x.object.body ≡ x.object.id.kind → journal_of x.object.body ≡ Some i → i.unforced ≡ 0
image_forced x i image kind is =
    let body : x.object.body ≡ bodies.Journal i = journal_lawful.back x.object.body i is in
    let own : x.object.id.kind ≡ kinds.Journal = sym kind ∙ ap kind_of body in
    journal_forced (body_tags x.object.id.kind (image_of x)) x.object.body x.sequence i body
    (subst (λ (k : Kind). FitsBody k (body_tags x.object.id.kind (image_of x)) (image_of x)) own image.body)

-- the longest body of another kind
other_longest : (b : Body) → journal_of b ≡ None → longest_body body_limit (kind_of b) ≡ body_limit
other_longest (bodies.Journal j) none = absurd (let e : Some j ≡ None = none in cc)
other_longest _ none = refl

pub image_short : (x : Stored) → IsImage body_limit x → kind_of x.object.body ≡ x.object.id.kind → journal_of x.object.body ≡ None → image_len x.object.body ≤ body_limit
image_short x image kind none =
    let within = and_parts (nat_le (stored_header x).rows most_rows) (nat_le (stored_header x).body (longest_body body_limit x.object.id.kind)) image.within in
    let most : longest_body body_limit x.object.id.kind ≡ body_limit = ap (longest_body body_limit) (sym kind) ∙ other_longest x.object.body none in
    let low = true_le (stored_header x).body (longest_body body_limit x.object.id.kind) within.1 in
    let long = (image_header x image).long in
    omega (arith, most, low, long)

-- ---- the beginning

journal_stays : (f : DataBody → DataBody) (b : Body) → journal_of (over_body data_part f b) ≡ journal_of b
journal_stays f (bodies.DataSpace d) = refl
journal_stays f _ = refl

module _ (m : Content) (h : Held) (are : AreParts (all_parts m)) (fault : first_fault body_limit (all_parts m) ≡ None) (of : h ≡ restarted body_limit (all_parts m)) where
  abbrev d : Durable
  d = durable_in m

  image : (n : ℕ) (x : Stored) → kept d.objects n ≡ Some x → IsImage body_limit x
  image = read_images m are fault

  -- what there is of journal spaces is what is kept
  abbrev journal_kept : Option Stored → Option JournalList
  journal_kept None = None
  journal_kept (Some x) = journal_of x.object.body

  journal_seen : (n : ℕ) → part_at journal_part h n ≡ journal_kept (kept d.objects n)
  journal_seen n =
      ap (λ (k : Held). part_at journal_part k n) of ∙ ap (part_in journal_part) (followed_in (imaged d.objects) d.objects n) ∙ by (kept d.objects n)
    where
      by : (r : Option Stored) → part_in journal_part (option_map (data_space_followed (imaged d.objects)) r) ≡ journal_kept r
      by None = refl
      by (Some x) = journal_stays (data_followed (imaged d.objects) x.object.number.0 x.sequence) x.object.body

  begins_trailing : AreTrailing h d
  begins_trailing n x i found is =
      let seen : part_at journal_part h n ≡ Some i = journal_seen n ∙ ap journal_kept found ∙ is in
      subst (λ (r : Option JournalList). IsTrailing i.entries (unwrap_or r no_journal)) (sym seen) (record { rest = []; entries = append_none i.entries; bytes = omega arith })

  all_forced : (n : ℕ) → (journal_at h n).unforced ≡ 0
  all_forced n = ap (λ (r : Option JournalList). (unwrap_or r no_journal).unforced) (journal_seen n) ∙ by (kept d.objects n) refl
    where
      at : (x : Stored) → kept d.objects n ≡ Some x → (r : Option JournalList) → journal_of x.object.body ≡ r → (unwrap_or r no_journal).unforced ≡ 0
      at x found None is = refl
      at x found (Some i) is = image_forced x i (image n x found) (read_printable body_limit x (omega arith) (image n x found)).kind is

      by : (r : Option Stored) → kept d.objects n ≡ r → (unwrap_or (journal_kept r) no_journal).unforced ≡ 0
      by None found = refl
      by (Some x) found = at x found (journal_of x.object.body) refl

  begins_low : (units : UnitMap) → units ≡ [] → AreLow h units
  begins_low units none = subst (λ (us : UnitMap). AreLow h us) (sym none) (record { opened = λ n. omega arith; bytes = λ n on. let zero_is = all_forced n in omega (arith, zero_is) })

  -- each journal space is on disk
  begins_fresh : AreFresh h
  begins_fresh n j is off = by (kept d.objects n) refl
    where
      seen : (r : Option Stored) → object_in (map (data_space_followed (imaged d.objects)) d.objects) n ≡ option_map (data_space_followed (imaged d.objects)) r → is_on_disk h n ≡ disk_in (option_map (data_space_followed (imaged d.objects)) r)
      seen r at = ap (λ (k : Held). is_on_disk k n) of ∙ ap disk_in at

      by : (r : Option Stored) → kept d.objects n ≡ r → j.entries ≡ []
      by None found = absurd (let e : None ≡ Some j = sym (journal_seen n ∙ ap journal_kept found) ∙ is in cc)
      by (Some x) found =
          let on : is_on_disk h n ≡ true =
          seen (Some x) (followed_in (imaged d.objects) d.objects n ∙ ap (option_map (data_space_followed (imaged d.objects))) found) ∙ (image n x found).on_disk in
          absurd (let e : true ≡ false = sym on ∙ off in cc)

  pub begins_trail : (templates : List CheckedTemplate) (jobs : List Job) (room : Room) → IsTrailOf (origin_of h templates jobs (Some room)) d
  begins_trail templates jobs room = record {
    stored = refl;
    trailing = begins_trailing;
    low = begins_low [] refl;
    fresh = begins_fresh;
    linked = subst AreLinked (sym of) (restarted_linked m are fault);
  }
