-- INSDSEN, UPDSEN and DELDSEN are written in words of change that meet what a journal space tells.
use Rattle.std.proofs.Common.{◌≡◌, ◌∙◌, ◌≤◌, ℕ, zero, suc, ◌+◌, ◌-◌, ◌==◌, Bool, true, false, cond, List, [], ◌∷◌, ◌++◌, length, refl, sym, ap, subst, arith}
use Rattle.std.proofs.lemmas.Bool.Decides.{nat_tests}
use Rattle.std.proofs.lemmas.List.{length-append, length-set}
use Rattle.std.proofs.lemmas.Option.{slice_get_past}
use Rattle.std.specs.Option.{option_flatten, option_map}
use Rattle.std.specs.Prelude.{◌&&◌, None, Option, Some, is_none, is_some, nat_le, nat_lt, slice_get}
use Rattle.s38_base.specs.Limits.{body_limit}
use Rattle.s38_base.specs.declared.attr.Attr.{Attr}
use Rattle.s38_code.specs.declared.event.Request.{Request}
use Rattle.s38_code.specs.declared.operand.Operand.{Operand}
use Rattle.s38_dataspaces.specs.Entries as spaces
use Rattle.s38_dataspaces.specs.Entries.{entry_at}
use Rattle.s38_dataspaces.specs.Table.{data_space_image_size, is_entry_of}
use Rattle.s38_rules.proofs.RuleLaws.{fails_none, first_none, not_false}
use Rattle.s38_rules.proofs.VerdictLaws.{rule_met}
use Rattle.s38_rules.specs.families.Changing.{bytes_or_none, kind_between}
use Rattle.s38_rules.specs.families.EntryChanges.{change_at, change_rules, current_fails, deldsen, entry_room_rule, entry_rule, insdsen, insdsen_fails, insertion, insertion_limits, next_ordinal, updsen, updsen_fails, with_changed, with_inserted}
use Rattle.s38_rules.specs.families.Cursors.{cursor_named, position_rule, table_of}
use Rattle.s38_rules.specs.state.Held.{Held}
use Rattle.s38_rules.specs.families.Instruction.{Instruction}
use Rattle.s38_rules.specs.ask.Operands.{bytes_at}
use Rattle.s38_rules.specs.state.Parts.{data_part, part_at}
use Rattle.s38_rules.specs.state.PartsAt.{over_table, table_in}
use Rattle.s38_rules.specs.state.State.{State}
use Rattle.s38_rules.specs.step.Verdict.{refused_by}
use Rattle.s38_rules.specs.declared.data_body.DataBody.{DataBody}
use Rattle.s38_laws_units.specs.Right.{IsRight}
use Rattle.s38_laws_commits.proofs.EnteredLaws.{TellsEntry}
use Rattle.s38_laws_units.proofs.EntryLaws.{MayEnter, deldsen_may, insdsen_may, updsen_may}
use Rattle.s38_laws_commits.proofs.OrdinalRestoreLaws.{put_other, put_same}
use Rattle.s38_laws_commits.specs.Ordinals.{change_redone_at, may_have_ordinal}
use Rattle.s38_laws_commits.specs.Told.{IsSmall}
use Rattle.s38_laws_commits.proofs.TellLaws.{MayTell}

past_last : (xs : List spaces.DataEntry) → entry_at xs (length xs + 1) ≡ None
past_last xs =
    let next : length xs + 1 ≡ suc (length xs) = omega arith in
    ap (entry_at xs) next ∙ ap option_flatten (slice_get_past xs (length xs) (omega arith))

at_last : (xs : List spaces.DataEntry) (y : spaces.DataEntry) → entry_at (xs ++ y ∷ []) (length xs + 1) ≡ y
at_last xs y =
    let next : length xs + 1 ≡ suc (length xs) = omega arith in
    ap (entry_at (xs ++ y ∷ [])) next ∙ ap option_flatten (found xs)
  where
    found : (xs : List spaces.DataEntry) → slice_get (xs ++ y ∷ []) (length xs) ≡ Some y
    found [] = refl
    found (x ∷ xs) = found xs

beside_last : (xs : List spaces.DataEntry) (y : spaces.DataEntry) (i : ℕ) → ((length xs + 1) == i) ≡ false → entry_at (xs ++ y ∷ []) i ≡ entry_at xs i
beside_last xs y zero off = refl
beside_last xs y (suc i) off = ap option_flatten (same xs i next)
  where
    next : (length xs == i) ≡ false
    next = grind (arith, nat_tests, off)

    same : (zs : List spaces.DataEntry) (k : ℕ) → (length zs == k) ≡ false → slice_get (zs ++ y ∷ []) k ≡ slice_get zs k
    same [] zero off = cc
    same [] (suc k) off = refl
    same (z ∷ zs) zero off = refl
    same (z ∷ zs) (suc k) off = let less : (length zs == k) ≡ false = grind (arith, nat_tests, off) in same zs k less

le_tells : (a b : ℕ) → nat_lt b a ≡ false → a ≤ b
le_tells a b e = grind (arith, nat_tests)

le_holds : (a b : ℕ) → a ≤ b → nat_le a b ≡ true
le_holds a b e = grind (arith, nat_tests)

none_small : IsSmall (table_in None)
none_small = omega arith

-- one entry more has its place
inserted_small : (bytes : List ℕ) (x : Option DataBody) → data_space_image_size (table_in x).fields (length (table_in x).entries + 1) ≤ body_limit → IsSmall (table_in (option_map (over_table (with_inserted bytes)) x))
inserted_small bytes None fits = none_small
inserted_small bytes (Some d) fits =
    let count : length (d.space.entries ++ Some bytes ∷ []) ≡ length d.space.entries + 1 = length-append d.space.entries (Some bytes ∷ []) in
    subst (λ (n : ℕ). data_space_image_size d.space.fields n ≤ body_limit) (sym count) fits

inserted_after : (bytes : List ℕ) (x : Option DataBody) → is_some x ≡ true → entry_at (table_in (option_map (over_table (with_inserted bytes)) x)).entries (next_ordinal (table_in x)) ≡ Some bytes
inserted_after bytes None there = absurd (let e : false ≡ true = there in cc)
inserted_after bytes (Some d) there = at_last d.space.entries (Some bytes)

inserted_others : (bytes : List ℕ) (x : Option DataBody) (i : ℕ) → (next_ordinal (table_in x) == i) ≡ false
    → entry_at (table_in (option_map (over_table (with_inserted bytes)) x)).entries i ≡ entry_at (table_in x).entries i
inserted_others bytes None i off = refl
inserted_others bytes (Some d) i off = beside_last d.space.entries (Some bytes) i off

-- the journal makes the same of it
inserted_redone : (fields : List Attr) (at : ℕ) (bytes : List ℕ) → 1 ≤ at → data_space_image_size fields at ≤ body_limit → is_entry_of fields (Some bytes) ≡ true
    → change_redone_at (kind_between None (Some bytes)) fields at (bytes_or_none (Some bytes)) None ≡ Some bytes
inserted_redone fields at bytes first fits entry = ap (λ (b : Bool). cond b (Some bytes) None) may
  where
    may : may_have_ordinal fields at bytes ≡ true
    may = ap (λ (b : Bool). (b && nat_le (data_space_image_size fields at) body_limit) && is_entry_of fields (Some bytes)) (le_holds 1 at first)
        ∙ ap (λ (b : Bool). (true && b) && is_entry_of fields (Some bytes)) (le_holds (data_space_image_size fields at) body_limit fits) ∙ entry

entry_of : (fields : List Attr) (h : Held) (ops : List Operand) → entry_rule fields h ops ≡ None → is_entry_of fields (Some (bytes_at h ops 2)) ≡ true
entry_of fields h ops rule =
    let both = first_none _ _ rule in
    joined _ _ (not_false _ (fails_none _ _ _ both.0)) (not_false _ (fails_none _ _ _ both.1))
  where
    joined : (a b : Bool) → a ≡ true → b ≡ true → (a && b) ≡ true
    joined true true p q = refl
    joined true false p q = cc
    joined false b p q = cc

-- where no rule refuses an instruction, its changes meet what they must
abbrev pub TellRow : Instruction → Type 0
TellRow i = (s : State) (p d : ℕ) (t : Request) → IsRight s → s.limit ≤ body_limit → refused_by i s p d t ≡ None → MayTell s p (i.changes s p d t)

pub insdsen_tells : (s : State) (p d : ℕ) (t : Request) → IsRight s → s.limit ≤ body_limit → refused_by insdsen s p d t ≡ None
    → TellsEntry s (cursor_named s.held t.operands 1).block.0 (insertion s.held t.operands) (with_inserted (bytes_at s.held t.operands 2))
unfolding insdsen_fails
insdsen_tells s p d t right limit e =
    let ops = t.operands in
    let cursor = cursor_named s.held ops 1 in
    let x = part_at data_part s.held cursor.space.0 in
    let bytes = bytes_at s.held ops 2 in
    let at = next_ordinal (table_of s.held ops 1) in
    let rule = first_none (entry_rule (table_of s.held ops 1).fields s.held ops) _ (rule_met insdsen s p d t e) in
    let limits = (first_none (change_rules s p cursor at) (insertion_limits s ops) rule.1).1 in
    let room = (first_none (entry_room_rule s.limit (table_of s.held ops 1)) _ limits).0 in
    let least : data_space_image_size (table_of s.held ops 1).fields (length (table_of s.held ops 1).entries + 1) ≤ s.limit = le_tells _ s.limit (fails_none _ _ _ room) in
    let fits : data_space_image_size (table_of s.held ops 1).fields (length (table_of s.held ops 1).entries + 1) ≤ body_limit = omega (arith, least, limit) in
    record {
      may = insdsen_may s p d t right e;
      small = λ _. inserted_small bytes x fits;
      before = λ _. past_last (table_in x).entries;
      after = inserted_after bytes x;
      others = inserted_others bytes x;
      redone = λ _. inserted_redone (table_in x).fields at bytes (omega arith) fits (entry_of (table_in x).fields s.held ops rule.0);
    }

changed_small : (at : ℕ) (entry : spaces.DataEntry) (x : Option DataBody) → IsSmall (table_in x) → IsSmall (table_in (option_map (over_table (with_changed at entry)) x))
changed_small at entry None small = none_small
changed_small at entry (Some d) small = subst (λ (n : ℕ). data_space_image_size d.space.fields n ≤ body_limit) (sym (length-set d.space.entries (at - 1) entry)) small

changed_after : (at : ℕ) (entry : spaces.DataEntry) (x : Option DataBody) → 1 ≤ at → at ≤ length (table_in x).entries → entry_at (table_in (option_map (over_table (with_changed at entry)) x)).entries at ≡ entry
changed_after at entry None first last = absurd (omega (arith, first, last))
changed_after at entry (Some d) first last = put_same d.space.entries at entry first last

changed_others : (at : ℕ) (entry : spaces.DataEntry) (x : Option DataBody) (i : ℕ) → 1 ≤ at → (at == i) ≡ false → entry_at (table_in (option_map (over_table (with_changed at entry)) x)).entries i ≡ entry_at (table_in x).entries i
changed_others at entry None i first off = refl
changed_others at entry (Some d) i first off = put_other d.space.entries at i entry first off

changed_redone : (fields : List Attr) (at : ℕ) (old entry : spaces.DataEntry) → is_none old ≡ false → is_entry_of fields entry ≡ true → change_redone_at (kind_between old entry) fields at (bytes_or_none entry) old ≡ entry
changed_redone fields at None entry stands is = absurd (let e : true ≡ false = stands in cc)
changed_redone fields at (Some bytes) None stands is = refl
changed_redone fields at (Some bytes) (Some others) stands is = ap (λ (b : Bool). cond b (Some others) (Some bytes)) is

-- an entry that is there has an ordinal of the data space
stands_within : (entries : List spaces.DataEntry) (at : ℕ) → is_none (entry_at entries at) ≡ false → (1 ≤ at) × (at ≤ length entries)
stands_within entries zero stands = absurd (let e : true ≡ false = stands in cc)
stands_within entries (suc k) stands = (omega arith, by entries k stands)
  where
    by : (entries : List spaces.DataEntry) (k : ℕ) → is_none (option_flatten (slice_get entries k)) ≡ false → suc k ≤ length entries
    by [] k stands = absurd (let e : true ≡ false = stands in cc)
    by (e ∷ es) zero stands = omega arith
    by (e ∷ es) (suc k) stands = omega (arith, by es k stands)

current_tells : (s : State) (p : ℕ) (ops : List Operand) (entry : spaces.DataEntry) → is_entry_of (table_of s.held ops 1).fields entry ≡ true → current_fails s p ops entry ≡ None
    → MayEnter s (cursor_named s.held ops 1).block.0 (change_at s.held ops entry) (with_changed (cursor_named s.held ops 1).position entry)
    → TellsEntry s (cursor_named s.held ops 1).block.0 (change_at s.held ops entry) (with_changed (cursor_named s.held ops 1).position entry)
unfolding current_fails
current_tells s p ops entry is e may =
    let cursor = cursor_named s.held ops 1 in
    let x = part_at data_part s.held cursor.space.0 in
    let stands = fails_none _ _ _ (first_none (position_rule s.held ops 1) _ e).0 in
    let within = stands_within (table_in x).entries cursor.position stands in
    record {
      may = may;
      small = changed_small cursor.position entry x;
      before = λ _. refl;
      after = λ _. changed_after cursor.position entry x within.0 within.1;
      others = λ i off. changed_others cursor.position entry x i within.0 off;
      redone = λ _. changed_redone (table_in x).fields cursor.position (entry_at (table_in x).entries cursor.position) entry stands is;
    }

pub updsen_tells : (s : State) (p d : ℕ) (t : Request) → IsRight s → s.limit ≤ body_limit → refused_by updsen s p d t ≡ None
    → TellsEntry s (cursor_named s.held t.operands 1).block.0 (change_at s.held t.operands (Some (bytes_at s.held t.operands 2))) (with_changed (cursor_named s.held t.operands 1).position (Some (bytes_at s.held t.operands 2)))
unfolding updsen_fails
updsen_tells s p d t right limit e =
    let rule = first_none (entry_rule (table_of s.held t.operands 1).fields s.held t.operands) _ (rule_met updsen s p d t e) in
    current_tells s p t.operands (Some (bytes_at s.held t.operands 2)) (entry_of (table_of s.held t.operands 1).fields s.held t.operands rule.0) rule.1 (updsen_may s p d t right e)

pub deldsen_tells : (s : State) (p d : ℕ) (t : Request) → IsRight s → s.limit ≤ body_limit → refused_by deldsen s p d t ≡ None
    → TellsEntry s (cursor_named s.held t.operands 1).block.0 (change_at s.held t.operands None) (with_changed (cursor_named s.held t.operands 1).position None)
deldsen_tells s p d t right limit e = current_tells s p t.operands None refl (rule_met deldsen s p d t e) (deldsen_may s p d t right e)
