-- How many parts of one object a close puts.
use Rattle.std.proofs.Common.{◌≡◌, ◌∙◌, ℕ, ◌+◌, ◌≤◌, Bool, true, false, ◌++◌, length, lit≤, refl, sym, ap, subst, arith}
use Rattle.std.specs.Option.{option_map, unwrap_or}
use Rattle.std.specs.Prelude.{All, None, Option, Some}
use Rattle.s38_base.specs.Limits.{body_limit}
use Rattle.s38_base.specs.declared.id.Kind.TheVariants as kinds
use Rattle.s38_laws_checkpoint.proofs.prefix.MarkLaws.{whole_found}
use Rattle.s38_checkpoint.specs.Closing.{closing}
use Rattle.s38_commits.specs.Units.{UnitMap}
use Rattle.s38_durable_state.specs.Durable.{Durable, kept, whole_object}
use Rattle.s38_durable_state.specs.Following.{Header, header_kept, image_header_of}
use Rattle.s38_durable_state.specs.Represents.{parts_end, parts_in}
use Rattle.s38_image.specs.Journals.{journal}
use Rattle.s38_image.specs.Pages.{needed}
use Rattle.s38_image.specs.Settled.{settled_body, settled_journal}
use Rattle.s38_image.specs.declared.stored.Stored.{Stored}
use Rattle.s38_image_writer.proofs.LengthLaws.{journal_long}
use Rattle.s38_journals.specs.Journals.{JournalList, entries_len}
use Rattle.s38_laws_flush.proofs.durable.FoundLaws.{found_all, kept_there, there_kept}
use Rattle.s38_laws_flush.proofs.durable.SizeLaws.{body_low}
use Rattle.s38_laws_objects.specs.Well.{IsWell}
use Rattle.s38_laws_flush.proofs.puts.DifferLaws.{differ}
use Rattle.s38_laws_flush.proofs.puts.ObjectLaws.{IsOf, all_few, page_in, pages_in, same_few}
use Rattle.s38_laws_flush.proofs.puts.TrailLaws.{journal_kind}
use Rattle.s38_laws_flush.specs.puts.OnePut.{BodiesAreShort}
use Rattle.s38_laws_flush.specs.puts.Spaces.{IsSpace}
use Rattle.s38_laws_flush.specs.puts.Trails.{IsTrailing}
use Rattle.s38_laws_flush.specs.puts.Unforced.{most_trailing}
use Rattle.s38_rules.specs.state.Held.{disk_in, kind_of, object}
use Rattle.s38_rules.specs.state.Parts.{journal_of, journal_part, part_in}
use Rattle.s38_rules.specs.state.PartsAt.{journal_at, no_journal}
use Rattle.s38_rules.specs.state.LawfulParts.{journal_lawful}
use Rattle.s38_rules.specs.store.Room.{image_len, pages_begun}
use Rattle.s38_rules.specs.state.State.{State}
use Rattle.s38_rules.specs.store.Storable.{IsStorable}
use Rattle.s38_rules.specs.declared.object.Body.TheVariants as bodies
use Rattle.s38_rules.specs.declared.object.Body.{Body}
use Rattle.s38_rules.specs.declared.object.Object.{Object}
use Rattle.s38_flush.proofs.KeptLaws.{kept_number, settled_len}
use Rattle.s38_laws_checkpoint.specs.puts.Ending.{IsEnding, IsShort}

-- ---- bodies

-- a body has no more than these pages
page_limit : (len : ℕ) → len ≤ body_limit → pages_begun len ≤ 2048
page_limit len few = omega (arith, few)

journal_is : (b : Body) (j : JournalList) → journal_of b ≡ Some j → kind_of b ≡ kinds.Journal
journal_is b j is = ap kind_of (journal_lawful.back b j is)

not_journal : (a b : Body) → kind_of b ≡ kind_of a → journal_of a ≡ None → journal_of b ≡ None
not_journal a b same none = by (journal_of b) refl
  where
    by : (r : Option JournalList) → journal_of b ≡ r → r ≡ None
    by None is = refl
    by (Some j) is = absurd (let own = journal_kind a b j same is in let e : None ≡ Some own.0 = sym none ∙ own.1 in cc)

settled_kind : (units : UnitMap) (n : ℕ) (b : Body) → kind_of (settled_body units n b) ≡ kind_of b
settled_kind units n (bodies.DataSpace d) = refl
settled_kind units n (bodies.Journal j) = refl
settled_kind units n _ = refl

-- what is kept whole is as long as the object
pub closing_short : (s : State) → All IsShort s.held.objects → BodiesAreShort (closing s.units s.held)
closing_short s short n x at none = by (object s.held n) refl (sym (whole_found s.units s.held s.held.objects n) ∙ at)
  where
    same : (a b : Stored) → Some a ≡ Some b → a ≡ b
    same a b e = cc

    by : (y : Option Object) → object s.held n ≡ y → option_map (whole_object s) y ≡ Some x → image_len x.object.body ≤ body_limit
    by None found e = absurd (let h : None ≡ Some x = e in cc)
    by (Some o) found e =
        let is = same (whole_object s o) x e in
        let body = ap (λ (z : Stored). z.object.body) is in
        let plain = not_journal (settled_body s.units o.number.0 o.body) o.body (sym (settled_kind s.units o.number.0 o.body)) (ap journal_of body ∙ none) in
        let few = found_all IsShort s.held.objects n o short found plain in
        let len = settled_len s.units o.number.0 o.body in
        let own = ap image_len body in
        omega (arith, few, len, own)

-- ---- one object

module _ (s : State) (d : Durable) (ends : IsEnding s d) where
  abbrev new : Durable
  new = closing s.units s.held

  abbrev Small : ℕ → Option Stored → Option Stored → ℕ → Type 0
  Small n old behind most = differ (page_in old) (parts_in behind) n 0 parts_end ≤ most

  old_of : (n : ℕ) (r : Option Stored) → kept d.objects n ≡ r → IsOf n r
  old_of n None is = tt
  old_of n (Some x) is = (kept_number n d.objects x is, ends.headers n x is)

  new_of : (n : ℕ) (r : Option Stored) → kept new.objects n ≡ r → IsOf n r
  new_of n None is = tt
  new_of n (Some x) is = (kept_number n new.objects x is, ends.then_headers n x is)

  -- header, rows and body, whatever they were
  others_few : (n : ℕ) (old behind : Option Stored) → kept d.objects n ≡ old → kept new.objects n ≡ behind → pages_in old ≤ 2048 → pages_in behind ≤ 2048 → Small n old behind 2176
  others_few n old behind was is some more =
      let few = all_few n parts_end 2048 old behind (old_of n old was) (new_of n behind is) some more (lit≤ tt) in
      omega (arith, few)

  module _ (n : ℕ) (o : Object) (found : object s.held n ≡ Some o) where
    storable : IsStorable o
    storable = (found_all IsWell s.held.objects n o ends.kept.well.objects found).storable

    -- what is kept of it
    now : kept new.objects n ≡ Some (whole_object s o)
    now = whole_found s.units s.held s.held.objects n ∙ ap (option_map (whole_object s)) found

    -- ---- what was kept of it

    module _ (x : Stored) (was : kept d.objects n ≡ Some x) where
      same_header : header_kept x ≡ image_header_of o
      same_header =
          let there = there_kept s.held d n x ends.kept.follows was in
          let same : there.object ≡ o = one there.object o (sym there.found ∙ found) in
          there.header ∙ ap image_header_of same
        where
          one : (a b : Object) → Some a ≡ Some b → a ≡ b
          one a b e = cc

      same_rows : o.rows ≡ x.object.rows
      same_rows = ap (λ (h : Header). h.standing.rows) (sym same_header)

      same_kind : kind_of x.object.body ≡ kind_of o.body
      same_kind = ends.kept.bodies n x was ∙ ap (λ (h : Header). h.id.kind) same_header ∙ sym storable.kind

      was_on_disk : o.on_disk ≡ true
      was_on_disk =
          let there = there_kept s.held d n x ends.kept.follows was in
          let same : o ≡ there.object = one o there.object (sym found ∙ there.found) in
          ap (λ (a : Object). a.on_disk) same ∙ there.disk
        where
          one : (a b : Object) → Some a ≡ Some b → a ≡ b
          one a b e = cc

      -- ---- a journal space

      module _ (j : JournalList) (body : journal_of o.body ≡ Some j) where
        front : (i : JournalList) × (journal_of x.object.body ≡ Some i)
        front = journal_kind x.object.body o.body j (sym same_kind) body

        here : journal_at s.held n ≡ j
        here = ap (λ (y : Option Object). unwrap_or (part_in journal_part y) no_journal) found ∙ ap (λ (r : Option JournalList). unwrap_or r no_journal) body

        trails : IsTrailing front.0.entries j
        trails = subst (IsTrailing front.0.entries) here (ends.trail.trailing n x front.0 was front.1)

        few_unforced : j.unforced ≤ most_trailing
        few_unforced =
            let low = ends.trail.low.bytes n (ap disk_in found ∙ was_on_disk) in
            omega (arith, low, ap (λ (i : JournalList). i.unforced) here)

        old_space : IsSpace n x front.0.entries
        old_space = record {
          number = kept_number n d.objects x was;
          has = ends.headers n x was;
          kind = sym (ends.kept.bodies n x was) ∙ journal_is x.object.body front.0 front.1;
          journal = front.0;
          body = journal_lawful.back x.object.body front.0 front.1;
          entries = refl;
        }

        whole_body : settled_body s.units o.number.0 o.body ≡ bodies.Journal (settled_journal j)
        whole_body = ap (settled_body s.units o.number.0) (journal_lawful.back o.body j body)

        new_space : IsSpace n (whole_object s o) (front.0.entries ++ trails.rest)
        new_space = record {
          number = kept_number n new.objects (whole_object s o) now;
          has = ends.then_headers n (whole_object s o) now;
          kind = sym storable.kind ∙ journal_is o.body j body;
          journal = settled_journal j;
          body = whole_body;
          entries = trails.entries;
        }

        room : 128 + needed (length (journal.print (front.0.entries ++ trails.rest))) ≤ parts_end
        room =
            let size : image_len (whole_object s o).object.body ≡ length (journal.print (front.0.entries ++ trails.rest)) =
            ap image_len whole_body ∙ ap entries_len trails.entries ∙ sym (journal_long (front.0.entries ++ trails.rest)) in
            let most = body_low (whole_object s o) (ends.then_headers n (whole_object s o) now) in
            omega (arith, most, ap needed size)

        space_few : Small n (Some x) (Some (whole_object s o)) 107
        space_few =
            let few = same_few n parts_end x (whole_object s o) front.0.entries trails.rest old_space new_space room same_rows in
            let rest = trails.bytes in
            let low = few_unforced in
            omega (arith, few, rest, low)

      kept_few : Small n (Some x) (Some (whole_object s o)) 2176
      kept_few = by (journal_of o.body) refl
        where
          by : (r : Option JournalList) → journal_of o.body ≡ r → Small n (Some x) (Some (whole_object s o)) 2176
          by (Some j) body = let few = space_few j body in omega (arith, few)
          by None body =
              others_few n (Some x) (Some (whole_object s o)) was now
              (page_limit (image_len x.object.body) (ends.short n x was (not_journal o.body x.object.body same_kind body)))
              (page_limit (image_len (whole_object s o).object.body) (ends.then_short n (whole_object s o) now (not_journal o.body (whole_object s o).object.body (settled_kind s.units o.number.0 o.body) body)))

    -- ---- nothing was kept of it

    new_few : kept d.objects n ≡ None → Small n None (Some (whole_object s o)) 2176
    new_few none = others_few n None (Some (whole_object s o)) none now (omega arith) (page_limit (image_len (whole_object s o).object.body) (by (journal_of o.body) refl))
      where
        off : (b : Bool) → o.on_disk ≡ b → b ≡ false
        off false e = refl
        off true on = absurd (let x = kept_there s.held d n o ends.kept.follows found on in let e : None ≡ Some x.0 = sym none ∙ x.1 in cc)

        no_bytes : (j : JournalList) → journal_of o.body ≡ Some j → image_len (whole_object s o).object.body ≡ 0
        no_bytes j body =
            ap (λ (b : Body). image_len (settled_body s.units o.number.0 b)) (journal_lawful.back o.body j body)
            ∙ ap entries_len (ends.trail.fresh n j (ap (part_in journal_part) found ∙ body) (ap disk_in found ∙ off o.on_disk refl))

        by : (r : Option JournalList) → journal_of o.body ≡ r → image_len (whole_object s o).object.body ≤ body_limit
        by (Some j) body = let none = no_bytes j body in omega (arith, none)
        by None body = ends.then_short n (whole_object s o) now (not_journal o.body (whole_object s o).object.body (settled_kind s.units o.number.0 o.body) body)

  -- ---- each number

  -- how many parts differ of a number
  abbrev pub cost : ℕ → ℕ
  cost n = differ (page_in (kept d.objects n)) (parts_in (kept new.objects n)) n 0 parts_end

  costs : (n : ℕ) (old behind : Option Stored) (most : ℕ) → kept d.objects n ≡ old → kept new.objects n ≡ behind → Small n old behind most → cost n ≤ most
  costs n old behind most was is few =
      subst (λ (r : Option Stored). Small n r (kept new.objects n) most) (sym was) (subst (λ (r : Option Stored). Small n old r most) (sym is) few)

  pub object_cost : (n : ℕ) (o : Object) → object s.held n ≡ Some o → cost n ≤ 2176
  object_cost n o found = by (kept d.objects n) refl
    where
      by : (r : Option Stored) → kept d.objects n ≡ r → cost n ≤ 2176
      by None none = costs n None (Some (whole_object s o)) 2176 none (now n o found) (new_few n o found none)
      by (Some x) was = costs n (Some x) (Some (whole_object s o)) 2176 was (now n o found) (kept_few n o found x was)

  pub space_cost : (n : ℕ) (o : Object) (j : JournalList) → object s.held n ≡ Some o → journal_of o.body ≡ Some j → o.on_disk ≡ true → cost n ≤ 107
  space_cost n o j found body on =
      let x = kept_there s.held d n o ends.kept.follows found on in
      costs n (Some x.0) (Some (whole_object s o)) 107 x.1 (now n o found) (space_few n o found x.0 x.1 j body)
