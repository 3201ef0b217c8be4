use Rattle.std.proofs.Common.{◌∙◌, Global, Vec, ◌≤◌, ℕ, ◌++◌, ◌-◌, List, ap, append_assoc, arith, refl, subst, sym}
use Rattle.std.specs.Prelude.{Option}
use Rattle.s38_base.specs.declared.page.Change.{Change}
use Rattle.s38_checkpoint.proofs.FoundLaws.{found_among}
use Rattle.s38_checkpoint.proofs.NextLaws.{adds_none, adds_some, among_all, among_from, among_parts, at_moved, next_above, next_among, next_gap, none_more}
use Rattle.s38_checkpoint.specs.Closing.{closing}
use Rattle.s38_checkpoint.specs.Ensuring.{journal_ahead}
use Rattle.s38_checkpoint.specs.Waiting.{AddsNumber}
use Rattle.s38_durable_state.specs.Durable.{whole_stored}
use Rattle.s38_image.specs.PartPlaces.{ceiling_key}
use Rattle.s38_image.specs.Images.{image_parts}
use Rattle.s38_durable_state.specs.Represents.{parts_at}
use Rattle.s38_page_diff.specs.Differences.{IsWanted, differences}
use Rattle.s38_image_writer.specs.Parts.{CanSettle}
use Rattle.s38_page_diff.proofs.reconcile.KeyLaws.{fine_next}
use Rattle.s38_page_diff.proofs.reconcile.SoFarLaws.{passed, stays_keys}
use Rattle.s38_page_diff.specs.reconcile.Replacing.{range_of}
use Rattle.s38_page_diff.specs.reconcile.Walking.{AreAt, AreSoFar}
use Rattle.s38_rules.specs.store.Storable.{IsStorable}
use Rattle.s38_checkpoint.proofs.next.add_next.Goals.{in-Some+in_ok-add_object-2, in_default}
use Rattle.s38_checkpoint.proofs.next.add_next.Goals as goal

pub overflow_sub-object : goal.overflow_sub-object
overflow_sub-object g c = among_from c.args.units.now c.args.objects.now c.all-all.ensures.lawful (omega (arith, c.next_number-next.ensures)) c.requires.numbers c.args.object.now (next_among c.args.units.now c.args.objects.now c.all-all.ensures.lawful (omega (arith, c.next_number-next.ensures)) c.requires.numbers c.requires.there.1.1)

pub add_strangers-requires : goal.add_strangers-requires
add_strangers-requires g c = omega (arith, next_above c.args.units.now c.args.objects.now c.all-all.ensures.lawful (omega (arith, c.next_number-next.ensures)) c.requires.numbers c.requires.there.1.1)

pub add_object-requires-clause-object : goal.add_object-requires-clause-object
add_object-requires-clause-object g c = among_all IsStorable c.args.objects.now.objects c.args.object.now (next_among c.args.units.now c.args.objects.now c.all-all.ensures.lawful (omega (arith, c.next_number-next.ensures)) c.requires.numbers c.requires.there.1.1) c.requires.storable

pub add_object-requires-clause-units : goal.add_object-requires-clause-units
add_object-requires-clause-units g c = among_all (λ x. CanSettle c.args.units.now x.number.0 x.body) c.args.objects.now.objects c.args.object.now (next_among c.args.units.now c.args.objects.now c.all-all.ensures.lawful (omega (arith, c.next_number-next.ensures)) c.requires.numbers c.requires.there.1.1) c.requires.settles

pub add_object-requires-clause-number : goal.add_object-requires-clause-number
add_object-requires-clause-number g c = among_from c.args.units.now c.args.objects.now c.all-all.ensures.lawful (omega (arith, c.next_number-next.ensures)) c.requires.numbers c.args.object.now (next_among c.args.units.now c.args.objects.now c.all-all.ensures.lawful (omega (arith, c.next_number-next.ensures)) c.requires.numbers c.requires.there.1.1)

pub add_object-requires-in-Some-clause-object : goal.add_object-requires-in-Some-clause-object
add_object-requires-in-Some-clause-object g c =
    let o = c.in-Some.journal.now in
    among_all IsStorable c.args.objects.now.objects o (found_among o.number.0 c.args.objects.now.objects o c.in-Some.ensures.there) c.requires.storable

pub returns-clause-adds : goal.returns-clause-adds
returns-clause-adds g c =
    let V = g.V.Vault in
    let held = c.args.objects.now in
    let units = c.args.units.now in
    let wants = parts_at (closing units held) in
    let old = c.args.vault.now in
    let keys = (V.view old).keys in
    let lawful = c.all-all.ensures.lawful in
    let small : held.next ≤ ceiling_key = omega (arith, c.next_number-next.ensures) in
    let n = c.args.object.now.number.0 in
    let next = c.requires.there.1.1 in
    let at = next_among units held lawful small c.requires.numbers next in
    let from = among_from units held lawful small c.requires.numbers c.args.object.now at in
    let here = among_parts units held lawful small c.requires.numbers c.args.object.now at in
    let mid = c.add_strangers.new.into.items in
    let between = c.add_object.new.into.items in
    let more = c.match-journal_ahead.into.items in
    let so_far : AreSoFar keys (V.holds old) wants n between =
    passed keys keys (V.holds old) (V.holds old) wants c.args.done (n - 1) n c.args.into.now.items mid between refl (λ m h. h) (λ m h. h) (omega (arith, from))
    (c.in_ok-add_strangers.ensures.so_far wants (λ k above below. next_gap units held lawful small c.requires.numbers next k above (omega (arith, below, from))))
    (subst (λ (ws : List Change). IsWanted (range_of n) ws) (sym here) c.in_ok-add_object.ensures.wanted)
    (subst (λ (ws : List Change). AreAt keys (V.holds old) n ws mid between) (sym here) c.in_ok-add_object.ensures.at) c.requires.so_far in
    let found : Option ℕ → Type 0 = λ journal. AddsNumber keys (V.holds old) wants journal n between more in
    elim c.match-journal_ahead.branch [
      | in-Some+in_ok-add_object-2 w ↦
          let o = w.in-Some.journal.now in
          let among = found_among o.number.0 held.objects o w.in-Some.ensures.there in
          let stays = c.add_object.ensures.stays in
          let j = o.number.0 in
          let parts = image_parts (whole_stored units held o) in
          let new = w.add_object-in-Some.new.into.items in
          let is = among_parts units held lawful small c.requires.numbers o among in
          let same = ap (λ (v : Vec Change Global). v.items) w.into-is in
          let added = at_moved keys (V.view c.add_object.new.vault).keys (V.holds old) (V.holds c.add_object.new.vault) j parts between new
          (stays_keys old c.add_object.new.vault stays) (λ m. (stays.held m).0) w.in_ok-add_object-2.ensures.at in
          record {
            between = between;
            so_far = so_far;
            behind = adds_some keys (V.holds old) wants n between more (journal_ahead held n) j (sym w.in-Some.ensures.number) w.in-Some.ensures.above
                (subst (λ (ws : List Change). IsWanted (range_of j) ws) (sym is) w.in_ok-add_object-2.ensures.wanted)
                (subst (λ (ws : List Change). AreAt keys (V.holds old) j ws between more) (sym is) (subst (λ (cs : List Change). AreAt keys (V.holds old) j parts between cs) (sym same) added));
            none = λ no. none_more between (differences added.pages (range_of j) parts) more c.len-before.result c.len.result (same ∙ added.read) (omega (arith, c.len-before.ensures, c.add_object.new.into.ok.0)) (omega (arith, c.len.ensures, c.match-journal_ahead.into.ok.0)) no;
          }
      | in_default w ↦
          let same = ap (λ (v : Vec Change Global). v.items) w.into-is in
          record {
            between = between;
            so_far = so_far;
            behind = adds_none keys (V.holds old) wants n between more (journal_ahead held n) (sym w.in_default.ensures.number) same;
            none = λ no. same;
          }
    ]

pub returns-clause-kept : goal.returns-clause-kept
returns-clause-kept g c =
    let items = c.args.into.now.items in
    let strangers = c.in_ok-add_strangers.ensures.kept in
    let own = c.in_ok-add_object.ensures.at in
    let parts = image_parts (whole_stored c.args.units.now c.args.objects.now c.args.object.now) in
    let object = differences own.pages (range_of c.args.object.now.number.0) parts in
    let both = own.read ∙ ap (λ (cs : List Change). cs ++ object) strangers.1 ∙ append_assoc items strangers.0 object in
    elim c.match-journal_ahead.branch [
      | in-Some+in_ok-add_object-2 w ↦
          let o = w.in-Some.journal.now in
          let added = w.in_ok-add_object-2.ensures.at in
          let journal = differences added.pages (range_of o.number.0) (image_parts (whole_stored c.args.units.now c.args.objects.now o)) in (
            (strangers.0 ++ object) ++ journal,
            ap (λ (v : Vec Change Global). v.items) w.into-is ∙ added.read ∙ ap (λ (cs : List Change). cs ++ journal) both ∙ append_assoc items (strangers.0 ++ object) journal,
          )
      | in_default w ↦ (strangers.0 ++ object, ap (λ (v : Vec Change Global). v.items) w.into-is ∙ both)
    ]

pub returns-clause-fine : goal.returns-clause-fine
returns-clause-fine g c = λ was.
    let n = c.args.object.now.number.0 in
    let from = among_from c.args.units.now c.args.objects.now c.all-all.ensures.lawful (omega (arith, c.next_number-next.ensures)) c.requires.numbers c.args.object.now (next_among c.args.units.now c.args.objects.now c.all-all.ensures.lawful (omega (arith, c.next_number-next.ensures)) c.requires.numbers c.requires.there.1.1) in
    fine_next (g.V.Vault.view c.args.vault.now).keys (n - 1) n from (omega arith) (c.in_ok-add_strangers.ensures.fine was)

pub returns-clause-low : goal.returns-clause-low
returns-clause-low g c = next_above c.args.units.now c.args.objects.now c.all-all.ensures.lawful (omega (arith, c.next_number-next.ensures)) c.requires.numbers c.requires.there.1.1

pub returns-clause-gap : goal.returns-clause-gap
returns-clause-gap g c = next_gap c.args.units.now c.args.objects.now c.all-all.ensures.lawful (omega (arith, c.next_number-next.ensures)) c.requires.numbers c.requires.there.1.1
