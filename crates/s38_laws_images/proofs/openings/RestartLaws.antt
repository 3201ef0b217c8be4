-- A store without a fault is restarted to an opening.
use Rattle.std.proofs.Common.{◌≡◌, ℕ, ◌+◌, ◌<◌, ◌≤◌, Bool, true, false, cond, not, List, [], ◌∷◌, map, refl, sym, ap, subst, ◌∙◌, arith}
use Rattle.std.proofs.lemmas.List.Elements.{All-from_recursion, All-weaker, recursion_from_All}
use Rattle.std.specs.Prelude.{Option, Some, None, All, length, nat_le}
use Rattle.std.specs.List.{AllByRecursion}
use Rattle.std.specs.Option.{option_map, unwrap_or}
use Rattle.s38_base.specs.Limits.{body_limit, ceiling_step, last_number, most_rows}
use Rattle.s38_base.specs.declared.id.Kind.TheVariants as kinds
use Rattle.s38_base.specs.declared.id.Kind.{Kind}
use Rattle.s38_base.specs.declared.page.Change.{Change}
use Rattle.s38_codec.proofs.CodecLaws.{both_true}
use Rattle.s38_codec.specs.Codec.{byte_is_zero, only}
use Rattle.s38_codec.specs.Formats.{u32, u64}
use Rattle.s38_laws_units.specs.Right.{IsData, IsTable}
use Rattle.s38_dataspaces.specs.Table.{DataTable}
use Rattle.s38_restart.proofs.catalog.CeilingLaws.{ceiling_codec, ceiling_is}
use Rattle.s38_restart.proofs.catalog.LawfulLaws.{IsWhole, all_whole, are_lawful}
use Rattle.s38_restart.proofs.catalog.RunLaws.{groups_rise, in_order}
use Rattle.s38_restart.specs.catalog.Groups.{groups, parts_of_number}
use Rattle.s38_restart.specs.catalog.Readings.{object_in_stored}
use Rattle.s38_restart.specs.catalog.Stores.{ceiling_of, first_fault, objects_stored_in}
use Rattle.s38_image.proofs.HeaderLaws.{at_most}
use Rattle.s38_image.proofs.PageLaws.{parts_exact}
use Rattle.s38_image.specs.Bodies.{body_bytes, body_tags}
use Rattle.s38_image.specs.Faults.{Group, ceiling_in, ceiling_mark, ceiling_page, first_fault_by, first_fault_of, first_under, group_is_on_disk, has_first_user, is_ceiling, is_ceiling_mark, store_fault}
use Rattle.s38_image.specs.PartPlaces.{ceiling_key, rows_part}
use Rattle.s38_image.specs.Fitting.{AreFine}
use Rattle.s38_image.specs.Headers.{header_is_within, longest_body}
use Rattle.s38_image.specs.Images.{image_of, leading, stored_header}
use Rattle.s38_image.specs.Pages.{no_tags}
use Rattle.s38_image.specs.declared.stored.Stored.{Stored}
use Rattle.s38_image_writer.proofs.KindLaws.{read_printable}
use Rattle.s38_journals.specs.Journals.{JournalList}
use Rattle.s38_laws_objects.specs.Well.{IsWell}
use Rattle.s38_laws_images.proofs.openings.BodyLaws.{body_fits}
use Rattle.s38_laws_images.proofs.openings.FitLaws.{programs_fit, rows_fit, table_fits}
use Rattle.s38_laws_images.proofs.openings.HeadLaws.{SameHead, lawful_same}
use Rattle.s38_laws_images.proofs.openings.PlacedLaws.{all_placed, header_there, is_there_said, machine_there, said}
use Rattle.s38_laws_images.proofs.openings.RedoLaws.{redone_short, redone_table}
use Rattle.s38_laws_images.specs.openings.Bodies.{HoldsBody, IsBody, IsShortTable}
use Rattle.s38_laws_images.specs.openings.Fitting.{FitTogether, IsPlaced}
use Rattle.s38_laws_images.specs.openings.Opening.{HoldsTable, IsNumbered, IsOpening}
use Rattle.s38_laws_processes.specs.owners.Beginnings.{HoldsChecked}
use Rattle.s38_restart.proofs.StoredLaws.{IsGiven, IsKept, all_kept, fine_leading, fine_parts, groups_given, none_of, one_kept}
use Rattle.s38_restart.specs.Parts.{AreParts}
use Rattle.s38_restart.specs.Restarted.{data_followed, data_space_followed, imaged, restarted, table_followed}
use Rattle.s38_rules.specs.state.Held.{Held, kind_of}
use Rattle.s38_rules.specs.state.Journaling.{journal_of_port}
use Rattle.s38_rules.specs.state.Parts.{data_of, data_part, over_body}
use Rattle.s38_rules.specs.state.PartsAt.{journal_at}
use Rattle.s38_rules.specs.families.Calls.{code_of}
use Rattle.s38_rules.specs.store.Storable.{HasShortText}
use Rattle.s38_rules.specs.declared.object.Body.{Body}
use Rattle.s38_rules.specs.declared.object.Body.TheVariants as bodies
use Rattle.s38_rules.specs.declared.object.Object.{Object}

-- ---- one object, followed by its journal space

-- a body of the same kind, with a table where there was one, and with no longer text
record StaysSo (old new : Body) : Type 0 where
  pub kind : kind_of new ≡ kind_of old
  pub text : HasShortText old → HasShortText new
  pub table : IsData (data_of old) → IsData (data_of new)
  pub code : code_of new ≡ code_of old
  pub body : IsBody body_limit old → IsBody body_limit new

behind_table : (number image : ℕ) (journal : Option JournalList) (t : DataTable) → IsTable t → IsTable (table_followed number image journal t)
behind_table number image None t is = is
behind_table number image (Some journal) t is = redone_table number image journal.entries t is

behind_short : (number image : ℕ) (journal : Option JournalList) (t : DataTable) → IsShortTable body_limit t → IsShortTable body_limit (table_followed number image journal t)
behind_short number image None t is = is
behind_short number image (Some journal) t is = redone_short number image journal.entries t is

body_stays : (h : Held) (number image : ℕ) (b : Body) → StaysSo b (over_body data_part (data_followed h number image) b)
body_stays h number image (bodies.DataSpace d) =
    let journal = option_map (journal_at h) (journal_of_port h d.port.0) in
    record { kind = refl; text = λ t. t; table = λ is. behind_table number image journal d.space is; code = refl; body = λ is. behind_short number image journal d.space is }
body_stays h number image _ = record { kind = refl; text = λ t. t; table = λ is. is; code = refl; body = λ is. is }

same_head : (h : Held) (s : Stored) → SameHead (data_space_followed h s) (object_in_stored s)
same_head h s = record { number = refl; id = refl; context = refl }

-- what is true of an object that was kept, once it is followed
record IsOpened (next : ℕ) (o : Object) : Type 0 where
  pub well : IsWell o
  pub table : HoldsTable o
  pub programs : HoldsChecked o
  pub body : HoldsBody body_limit o
  pub number : IsNumbered o
  pub owner : o.owner.0 < next

-- what its header says of the length of its body
short_body : (limit : ℕ) (s : Stored) → limit ≤ body_limit → header_is_within limit (stored_header s) ≡ true → length (body_bytes s.object.id.kind (image_of s)) ≤ longest_body body_limit s.object.id.kind
short_body limit s small within =
    let h = stored_header s in
    let le = at_most h.body (longest_body limit h.id.kind) (both_true (nat_le h.rows most_rows) (nat_le h.body (longest_body limit h.id.kind)) within).1 in
    omega (arith, le, longer limit h.id.kind small)
  where
    longer : (limit : ℕ) (k : Kind) → limit ≤ body_limit → longest_body limit k ≤ longest_body body_limit k
    longer limit kinds.Journal small = omega arith
    longer limit _ small = small

opened : (h : Held) (limit ceiling : ℕ) (s : Stored) → limit ≤ body_limit → IsKept limit ceiling s → IsOpened (ceiling + 1) (data_space_followed h s)
opened h limit ceiling s small is =
    let storable = read_printable limit s (omega (arith, small)) is.image in
    let stays = body_stays h s.object.number.0 s.sequence s.object.body in
    let tags = body_tags s.object.id.kind (image_of s) in
    let table = table_fits s.object.id.kind tags s.object.body s.sequence storable.kind is.image.body in
    record {
      well = record {
        storable = record { kind = stays.kind ∙ storable.kind; rows = storable.rows; text = stays.text storable.text };
        rows = rows_fit _ s.object.rows is.image.rows;
      };
      table = stays.table table;
      programs = λ program code. programs_fit s.object.id.kind tags s.object.body s.sequence storable.kind is.image.body program (sym stays.code ∙ code);
      body = stays.body (body_fits s.object.id.kind tags s.object.body s.sequence storable.kind is.image.body (short_body limit s small is.image.within) table);
      number = is.number;
      owner = is.owner;
    }

all_opened : (h : Held) (limit ceiling : ℕ) (ss : List Stored) → limit ≤ body_limit → AllByRecursion (IsKept limit ceiling) ss → AllByRecursion (IsOpened (ceiling + 1)) (map (data_space_followed h) ss)
all_opened h limit ceiling [] small all = tt
all_opened h limit ceiling (s ∷ ss) small all = (opened h limit ceiling s small all.0, all_opened h limit ceiling ss small all.1)

placed_same : (h : Held) (next : ℕ) (ss : List Stored) → AllByRecursion (λ o. o.context.0 < next) (map object_in_stored ss) → AllByRecursion (λ o. o.context.0 < next) (map (data_space_followed h) ss)
placed_same h next [] all = tt
placed_same h next (s ∷ ss) all = (all.0, placed_same h next ss all.1)

each : {P Q : Object → Type 0} → ((o : Object) → P o → Q o) → (os : List Object) → AllByRecursion P os → All Q os
each {P} {Q} next os all = All-weaker P Q next os (All-from_recursion P os all)

-- ---- the ceiling

-- what is read as the ceiling is not too high
low_ceiling : (parts : List Change) (n : ℕ) → AreFine parts → ceiling_in (parts_of_number ceiling_key parts) ≡ Some n → n ≤ last_number + ceiling_step
low_ceiling parts n fine e =
    let ps = leading rows_part (parts_of_number ceiling_key parts) in
    let front = fine_leading rows_part (parts_of_number ceiling_key parts) (fine_parts ceiling_key parts fine) in
    let r = parts_exact ceiling_key 0 ceiling_page (no_tags ceiling_page) (λ m. ceiling_codec.fits m ≡ true) ceiling_is 512 ps n front.whole front.bytes e in
    let a = both_true ((only is_ceiling_mark u32).fits ceiling_mark) _ r.fits in
    let b = both_true ((only byte_is_zero u32).fits 0) _ a.1 in
    let c = both_true ((only is_ceiling u64).fits n) _ b.1 in
    at_most n (last_number + ceiling_step) (both_true (is_ceiling n) (u64.fits n) c.0).0

-- ---- the machine context is there

on_disk_one : (gs : List Group) (limit ceiling : ℕ) → first_under gs limit ceiling ≡ None → group_is_on_disk gs 1 ≡ true
on_disk_one gs limit ceiling h = by (group_is_on_disk gs 1) h
  where
    by : (a : Bool) → cond (not a) (Some (1, 0)) (cond (not (has_first_user gs)) (Some (2, 0)) (first_fault_of gs limit ceiling gs)) ≡ None → a ≡ true
    by true h = refl
    by false h = absurd cc

has_one : (gs : List Group) (limit : ℕ) (ceiling : Option ℕ) → first_fault_by gs limit ceiling ≡ None → group_is_on_disk gs 1 ≡ true
has_one gs limit None h = absurd cc
has_one gs limit (Some n) h = on_disk_one gs limit n h

one_there : (limit : ℕ) (parts : List Change) → first_fault limit parts ≡ None → group_is_on_disk (groups parts) 1 ≡ true
unfolding store_fault
one_there limit parts none = has_one (groups parts) limit (ceiling_in (parts_of_number ceiling_key parts)) none

-- ---- objects that fit one another

fit_together : (limit : ℕ) (parts : List Change) → limit ≤ body_limit → AllByRecursion (IsWhole (groups parts) limit (ceiling_of parts)) (groups parts) → AllByRecursion IsGiven (groups parts) → group_is_on_disk (groups parts) 1 ≡ true
    → FitTogether (restarted limit parts)
fit_together limit parts small whole given one =
    let gs = groups parts in
    let ceiling = ceiling_of parts in
    let h = imaged (objects_stored_in limit parts) in
    let held = restarted limit parts in
    let kind : (g : Group) (w : IsWhole gs limit ceiling g) → IsGiven g → kind_of (data_space_followed h w.stored).body ≡ (data_space_followed h w.stored).id.kind =
    λ g w is. (opened h limit ceiling w.stored small (one_kept gs limit ceiling whole g w is)).well.storable.kind in
    let there = said gs limit ceiling h kind gs whole given in
    let placed = all_placed gs limit ceiling h held refl kind there gs whole given in
    record {
      placed = All-from_recursion (IsPlaced held) held.objects placed;
      machine = machine_there held placed (is_there_said _ _ (there 1) (header_there gs limit ceiling 1 gs whole one));
      below = omega arith;
    }

-- ---- the whole store

pub restarts : (limit : ℕ) (parts : List Change) → limit ≤ body_limit → AreParts parts → first_fault limit parts ≡ None → IsOpening (restarted limit parts)
restarts limit parts small are fault =
    let gs = groups parts in
    let found = none_of limit parts fault in
    let ceiling = ceiling_of parts in
    let at : ceiling ≡ found.at = ap (λ (o : Option ℕ). unwrap_or o 0) found.is in
    let none : first_fault_of gs limit ceiling gs ≡ None = subst (λ (n : ℕ). first_fault_of gs limit n gs ≡ None) (sym at) found.none in
    let lawful = are_lawful gs limit ceiling none (groups_rise parts (in_order parts are.rising)) in
    let kept = all_kept gs limit ceiling (all_whole gs limit ceiling gs none) (groups_given parts are.fine are.objects) in
    let ss = objects_stored_in limit parts in
    let h = imaged ss in
    let all = all_opened h limit ceiling ss small kept in
    let os = map (data_space_followed h) ss in
    record {
      well = each (λ o is. is.well) os all;
      tables = each (λ o is. is.table) os all;
      programs = each (λ o is. is.programs) os all;
      bodies = each (λ o is. is.body) os all;
      lawful = lawful_same (data_space_followed h) object_in_stored (same_head h) (ceiling + 1) ceiling ss lawful.lawful;
      numbered = each (λ o is. is.number) os all;
      next = omega arith;
      owned = each (λ o is. is.owner) os all;
      placed = All-from_recursion (λ o. o.context.0 < ceiling + 1) os (placed_same h (ceiling + 1) ss (recursion_from_All (λ o. o.context.0 < ceiling + 1) (map object_in_stored ss) lawful.placed));
      fit = fit_together limit parts small (all_whole gs limit ceiling gs none) (groups_given parts are.fine are.objects) (one_there limit parts fault);
      ceiling = subst (λ (n : ℕ). n ≤ last_number + ceiling_step) (sym at) (low_ceiling parts found.at are.fine found.is);
      within = omega arith;
    }
