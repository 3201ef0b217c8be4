-- Spaces and data spaces keep to their limits.
use Rattle.s38_base.specs.Exceptions as exceptions
use Rattle.s38_base.specs.declared.attr.Attr.TheVariants as attrs
use Rattle.s38_base.specs.declared.attr.Attr.{Attr}
use Rattle.s38_base.specs.declared.op.Op.TheVariants.{Crtds, Crts, Deldsen, Insdsen, Mods, Updsen}
use Rattle.s38_base.specs.declared.op.Op.{Op}
use Rattle.s38_changes.proofs.CellLaws.{resized_length}
use Rattle.s38_code.specs.declared.event.Request.{Request}
use Rattle.s38_code.specs.declared.operand.Operand.{Operand}
use Rattle.s38_commits.specs.Changes.{journal_bytes}
use Rattle.s38_commits.specs.declared.change.UnitChange.{UnitChange}
use Rattle.s38_dataspaces.specs.Entries as spaces
use Rattle.s38_dataspaces.specs.Table.{DataTable, are_fields, data_space_image_size, is_field}
use Rattle.s38_memory.specs.Tagged.{resized}
use Rattle.s38_memory.specs.declared.cell.Cell.{Cell}
use Rattle.s38_laws_images.specs.openings.Bodies.{IsShortTable, IsSpace}
use Rattle.s38_rules.proofs.RuleLaws.{fails_none, first_none, not_false}
use Rattle.s38_rules.proofs.VerdictLaws.{rule_met}
use Rattle.s38_rules.specs.families.Changing.{journal_rule}
use Rattle.s38_rules.specs.families.Creation.{creation_fails}
use Rattle.s38_rules.specs.families.DataSpaces.{attributes_of, data_spaces_row, new_data_space, proper_fields}
use Rattle.s38_rules.specs.families.EntryChanges.{change_at, current_fails, deldsen, entry_room_rule, insdsen, insdsen_fails, insertion, insertion_limits, updsen, updsen_fails, with_changed, with_inserted}
use Rattle.s38_rules.specs.families.Cursors.{cursor_named, table_of}
use Rattle.s38_rules.specs.state.Held.{change}
use Rattle.s38_rules.specs.ask.Operands.{bytes_at, count_at, place}
use Rattle.s38_rules.specs.state.Parts.{data_part}
use Rattle.s38_rules.specs.state.PartsAt.{over_table, table_in}
use Rattle.s38_rules.specs.families.Spaces.{crts, crts_fails, is_space_length, length_at, length_rule, mods, mods_fails, spaces_row}
use Rattle.s38_rules.specs.state.State.{State}
use Rattle.s38_rules.specs.step.Verdict.{refused_by}
use Rattle.s38_rules.specs.declared.data_body.DataBody.{DataBody}
use Rattle.s38_laws_state.proofs.BodyLaws.{HasRoom, KeepsPart, MayEnter}
use Rattle.std.proofs.Common.{Bool, List, [], arith, cond, false, length, length-append, length-set, refl, subst, sym, true, ℕ, ◌*◌, ◌+◌, ◌-◌, ◌/◌, ◌∙◌, ◌∷◌, ◌≡◌, ◌≤◌}
use Rattle.std.proofs.lemmas.Bool.Decides.{nat_tests}
use Rattle.std.proofs.lemmas.Bool.{and_parts, cond_both, true≢false}
use Rattle.std.specs.List.{list_all}
use Rattle.std.specs.Prelude.{None, Option, Some, is_some, nat_le, ◌||◌}
use Rattle.s38_laws_state.proofs.BodyLimitLaws.{IsLimit, MayRow, under}

resized_so : (limit n : ℕ) (cells : List Cell) → is_space_length limit n ≡ true → IsSpace limit (resized n cells)
resized_so limit n cells is =
    let parts = and_parts (nat_le 16 n) _ is in
    let one = and_parts (nat_le n limit) _ parts.1 in
    record { some = some n (length (resized n cells)) (resized_length n cells) parts.0; image = image n (length (resized n cells)) limit (resized_length n cells) one.0 }
  where
    some : (n k : ℕ) → k ≡ n / 16 → nat_le 16 n ≡ true → 1 ≤ k
    some n k is h = grind (arith, nat_tests, is)

    image : (n k limit : ℕ) → k ≡ n / 16 → nat_le n limit ≡ true → 16 * k ≤ limit
    image n k limit is h = grind (arith, nat_tests, is)

length_so : (s : State) (ops : List Operand) (k : ℕ) (cells : List Cell) → length_rule s ops k ≡ None → IsSpace s.limit (resized (length_at s ops k) cells)
length_so s ops k cells met =
    let n = count_at s.held ops k in
    let fits = not_false _ (fails_none _ exceptions.length_invalid k (first_none _ _ met).1) in
    cond_both (is_space_length s.limit n) n 0 (λ (len : ℕ). IsSpace s.limit (resized len cells))
    (λ is. resized_so s.limit n cells is) (λ not. absurd (true≢false (sym fits ∙ not)))

crts_may : MayRow crts
unfolding crts_fails creation_fails
crts_may s p d t small e = length_so s t.operands 5 [] (first_none _ _ (first_none _ _ (rule_met crts s p d t e)).1).0

mods_may : MayRow mods
unfolding mods_fails
mods_may s p d t small e = λ cells. length_so s t.operands 2 cells (first_none _ _ (rule_met mods s p d t e)).0

pub spaces_may : (op : Op) → MayRow (spaces_row op)
unfolding spaces_row
spaces_may Crts = crts_may
spaces_may Mods = mods_may
spaces_may _ = λ s p d t small e. tt

few_fields : (attributes : List Attr) → length (proper_fields attributes) ≤ 256
few_fields attributes = by (are_fields attributes) refl
  where
    by : (b : Bool) → are_fields attributes ≡ b → length (cond b attributes (attrs.Chars 1 ∷ [])) ≤ 256
    by true is =
        let parts = and_parts (list_all is_field attributes) _ is in
        let some = and_parts (nat_le 1 (length attributes)) _ parts.1 in
        within (length attributes) (and_parts (nat_le (length attributes) 256) _ some.1).0
      where
        within : (n : ℕ) → nat_le n 256 ≡ true → n ≤ 256
        within n h = grind (arith, nat_tests)
    by false is = omega arith

new_table_so : (limit : ℕ) (ops : List Operand) → IsLimit limit → IsShortTable limit (new_data_space ops).space
new_table_so limit ops is = omega (arith, is, few_fields (attributes_of (place ops 5)))

-- the rules of a change see to the room in its journal space
room_met : (s : State) (block : ℕ) (change : UnitChange) (journal : Option ℕ) → journal_rule s block (journal_bytes change) journal ≡ None → HasRoom s.limit s block change journal
room_met s block change None met = tt
room_met s block change (Some journal) met =
    none _ (or_left _ _ (fails_none _ exceptions.limit_exceeded 0 met))
  where
    or_left : (a b : Bool) → (a || b) ≡ false → a ≡ false
    or_left true b h = cc
    or_left false b h = refl

    none : {E : Type 0} (o : Option E) → is_some o ≡ false → o ≡ None
    none None h = refl
    none (Some x) h = cc

inserted_so : (s : State) (ops : List Operand) → entry_room_rule s.limit (table_of s.held ops 1) ≡ None → KeepsPart s.limit data_part s.held (cursor_named s.held ops 1).space.0 (over_table (with_inserted (bytes_at s.held ops 2)))
inserted_so s ops met d at is = by (subst (λ (r : Option DataBody). entry_room_rule s.limit (table_in r) ≡ None) at met)
  where
    by : entry_room_rule s.limit d.space ≡ None → IsShortTable s.limit (with_inserted (bytes_at s.held ops 2) d.space)
    by met =
        let short = under s.limit (data_space_image_size d.space.fields (length d.space.entries + 1)) (fails_none _ exceptions.limit_exceeded 0 met) in
        subst (λ (n : ℕ). data_space_image_size d.space.fields n ≤ s.limit) (sym (length-append d.space.entries (Some (bytes_at s.held ops 2) ∷ []))) (omega (arith, short))

insdsen_may : (s : State) (p d : ℕ) (t : Request) → IsLimit s.limit → refused_by insdsen s p d t ≡ None
    → MayEnter s.limit s (cursor_named s.held t.operands 1).block.0 (insertion s.held t.operands) (with_inserted (bytes_at s.held t.operands 2))
unfolding insdsen_fails
insdsen_may s p d t small e =
    let ops = t.operands in
    let limits = first_none (entry_room_rule s.limit (table_of s.held ops 1)) _ (first_none _ (insertion_limits s ops) (first_none _ _ (rule_met insdsen s p d t e)).1).1 in
    (room_met s (cursor_named s.held ops 1).block.0 (insertion s.held ops) _ limits.1, inserted_so s ops limits.0)

changed_so : (limit at : ℕ) (entry : spaces.DataEntry) (t : DataTable) → IsShortTable limit t → IsShortTable limit (with_changed at entry t)
changed_so limit at entry t is = subst (λ (n : ℕ). data_space_image_size t.fields n ≤ limit) (sym (length-set t.entries (at - 1) entry)) is

current_may : (s : State) (p : ℕ) (ops : List Operand) (entry : spaces.DataEntry) → current_fails s p ops entry ≡ None
    → MayEnter s.limit s (cursor_named s.held ops 1).block.0 (change_at s.held ops entry) (with_changed (cursor_named s.held ops 1).position entry)
unfolding current_fails
current_may s p ops entry met =
    let rule = first_none _ _ (first_none _ _ met).1 in
    (room_met s (cursor_named s.held ops 1).block.0 (change_at s.held ops entry) _ rule.1, λ d at is. changed_so s.limit (cursor_named s.held ops 1).position entry d.space is)

updsen_may : MayRow updsen
unfolding updsen_fails
updsen_may s p d t small e = current_may s p t.operands (Some (bytes_at s.held t.operands 2)) (first_none _ _ (rule_met updsen s p d t e)).1

deldsen_may : MayRow deldsen
deldsen_may s p d t small e = current_may s p t.operands None (rule_met deldsen s p d t e)

pub data_spaces_may : (op : Op) → MayRow (data_spaces_row op)
unfolding data_spaces_row
data_spaces_may Crtds = λ s p d t small e. new_table_so s.limit t.operands small
data_spaces_may Insdsen = λ s p d t small e. (insdsen_may s p d t small e, tt)
data_spaces_may Updsen = updsen_may
data_spaces_may Deldsen = deldsen_may
data_spaces_may _ = λ s p d t small e. tt
