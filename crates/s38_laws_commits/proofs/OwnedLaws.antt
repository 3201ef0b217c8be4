-- Each unit goes to the journal space of what it has changed, and what that tells after one more entry.
use Rattle.std.proofs.Common.{◌≡◌, ◌∙◌, ◌<◌, ◌≤◌, ℕ, ◌+◌, ◌==◌, Bool, true, false, List, [], ◌∷◌, ◌++◌, length, refl, sym, ap, subst, arith}
use Rattle.std.proofs.lemmas.Bool.Decides.{nat_tests}
use Rattle.std.proofs.lemmas.Bool.{and_parts}
use Rattle.std.proofs.lemmas.List.Elements.{All-head, All-tail}
use Rattle.std.proofs.lemmas.List.{length-append}
use Rattle.std.specs.Option.{unwrap_or}
use Rattle.std.specs.Prelude.{◌||◌, All, None, Option, Some, is_some}
use Rattle.s38_commits.proofs.MapLaws.{nat_same}
use Rattle.s38_commits.specs.Changes.{has_change, is_of_entry}
use Rattle.s38_commits.specs.Unit.{CommitUnit}
use Rattle.s38_commits.specs.Units.{UnitMap, unit_of}
use Rattle.s38_commits.specs.declared.change.UnitChange.{UnitChange}
use Rattle.s38_journals.specs.Entries.{JournalRecord}
use Rattle.s38_rules.specs.state.Held.{Held}
use Rattle.s38_rules.specs.state.Journaling.{block_port, data_port, journal_for, journal_for_block, journal_of_port}
use Rattle.s38_rules.specs.state.Parts.{block_part, data_part, part_at, part_in}
use Rattle.s38_rules.specs.state.PartsAt.{journal_at, table_at, table_in}
use Rattle.s38_rules.specs.declared.data_body.DataBody.{DataBody}
use Rattle.s38_laws_units.specs.Right.{AreRight, IsChangeOf, IsLogged, IsUnit}
use Rattle.s38_laws_commits.proofs.CountLaws.{unit_more}
use Rattle.s38_laws_commits.proofs.LinkLaws.{keeps_block}
use Rattle.s38_laws_commits.proofs.MoveLaws.{IsWritten}
use Rattle.s38_laws_commits.proofs.ToldLaws.{is_parts}
use Rattle.s38_laws_units.proofs.UnitLaws.{all_found}
use Rattle.s38_laws_commits.specs.Counting.{has_unit}
use Rattle.s38_laws_commits.specs.Told.{AreTold, IsSmall, IsTold, entries_at}

-- some change of the list is of the entry
all_has : (P : UnitChange → Type 0) (n at : ℕ) (cs : List UnitChange) → All P cs → has_change n at cs ≡ true → (c : UnitChange) × (P c × (is_of_entry n at c ≡ true))
all_has P n at [] all has = absurd (let e : false ≡ true = has in cc)
all_has P n at (c ∷ cs) all has = by (all_has P n at cs (All-tail P c cs all)) (is_of_entry n at c) refl has
  where
    by : (has_change n at cs ≡ true → (c : UnitChange) × (P c × (is_of_entry n at c ≡ true))) → (b : Bool) → is_of_entry n at c ≡ b → (b || has_change n at cs) ≡ true → (d : UnitChange) × (P d × (is_of_entry n at d ≡ true))
    by rest true is has = (c, (All-head P c cs all, is))
    by rest false off has = rest has

-- a unit goes to the journal space of each data space of which it has changed an entry
pub record IsOwned (h : Held) (block n at : ℕ) : Type 0 where
  pub leads : journal_for_block h block ≡ journal_for h n
  pub journaled : is_some (journal_for h n) ≡ true
  pub there : is_some (part_at data_part h n) ≡ true
  -- the entry is one of its ordinals
  pub first : 1 ≤ at
  pub last : at ≤ length (table_at h n).entries

pub owned : (h : Held) (units : UnitMap) (block n at : ℕ) (unit : CommitUnit) → AreRight h units → unit_of units block ≡ Some unit → has_change n at unit.changes ≡ true → IsOwned h block n at
owned h units block n at unit right found has =
    let all : IsUnit h (block, unit) = all_found (IsUnit h) units block unit right.each found in
    let one = all_has (IsLogged h (block_port h block)) n at unit.changes all.changes has in
    let logged : IsLogged h (block_port h block) one.0 = one.1.0 in
    let names = is_parts n at one.0 one.1.1 in
    let parts = and_parts (data_port h one.0.space.0 == block_port h block) (is_some (journal_for h one.0.space.0)) logged.journaled in
    let to : data_port h one.0.space.0 ≡ block_port h block = nat_same _ _ parts.0 in
    subst (λ (m : ℕ). IsOwned h block m at) names.0 (subst (λ (i : ℕ). IsOwned h block one.0.space.0 i) names.1 (record {
      leads = ap (journal_of_port h) (sym to);
      journaled = parts.1;
      there = some one.0 (part_at data_part h one.0.space.0) logged.entry;
      first = low one.0 (part_at data_part h one.0.space.0) logged.entry;
      last = high one.0 (part_at data_part h one.0.space.0) logged.entry;
    }))
  where
    some : (c : UnitChange) (x : Option DataBody) → IsChangeOf c x → is_some x ≡ true
    some c None of = absurd of
    some c (Some d) of = refl

    low : (c : UnitChange) (x : Option DataBody) → IsChangeOf c x → 1 ≤ c.at
    low c None of = absurd of
    low c (Some d) of = of.first

    high : (c : UnitChange) (x : Option DataBody) → IsChangeOf c x → c.at ≤ length (table_in x).entries
    high c None of = absurd of
    high c (Some d) of = of.last

-- block 0 has no unit
pub no_unit : (h : Held) (units : UnitMap) (unit : CommitUnit) → AreRight h units → unit_of units 0 ≡ Some unit → ⊥
no_unit h units unit right found =
    let all : IsUnit h (0, unit) = all_found (IsUnit h) units 0 unit right.each found in
    let none : is_some (part_at block_part h 0) ≡ false = ap (λ r. is_some (part_in block_part r)) right.unused.none in
    let e : false ≡ true = sym none ∙ all.block in
    cc

-- the number of a unit is not 0
pub some_number : (h : Held) (units : UnitMap) (block : ℕ) (unit : CommitUnit) → AreRight h units → unit_of units block ≡ Some unit → (unit.number == 0) ≡ false
some_number h units block unit right found =
    let all : IsUnit h (block, unit) = all_found (IsUnit h) units block unit right.each found in
    let first = all.first in
    grind (arith, nat_tests, first)

-- and at most the count of the entries
pub low_number : (h : Held) (units : UnitMap) (block journal : ℕ) (unit : CommitUnit) → AreRight h units → unit_of units block ≡ Some unit → journal_for_block h block ≡ Some journal → unit.number ≤ length (entries_at h journal)
low_number h units block journal unit right found to =
    let all : IsUnit h (block, unit) = all_found (IsUnit h) units block unit right.each found in
    subst (λ (r : Option ℕ). unit.number ≤ length (journal_at h (unwrap_or r 0)).entries) to all.last

pub told_written : (h k : Held) (units new : UnitMap) (journal : ℕ) (e : JournalRecord) → IsWritten h k journal e → AreTold h units → e.unit ≤ length (entries_at h journal) + 1
    → ((block : ℕ) (unit : CommitUnit) → unit_of new block ≡ Some unit → journal_for_block h block ≡ Some journal → IsTold (entries_at h journal ++ e ∷ []) (table_at k) unit)
    → ((block other : ℕ) (unit : CommitUnit) → unit_of new block ≡ Some unit → journal_for_block h block ≡ Some other → (journal == other) ≡ false → IsTold (entries_at h other) (table_at k) unit)
    → ((one other to : ℕ) (u v : CommitUnit) → unit_of new one ≡ Some u → unit_of new other ≡ Some v → journal_for_block h one ≡ Some to → journal_for_block h other ≡ Some to → u.number ≡ v.number → one ≡ other)
    → ((n : ℕ) → IsSmall (table_at k n)) → AreTold k new
told_written h k units new journal e written told low own others differ small = record {
  fresh = λ to u. fresh to u (journal == to) refl;
  each = λ block to unit found leads. each block to unit found (sym (keeps_block h k written.keeps block) ∙ leads) (journal == to) refl;
  differ = λ one other to u v a b p q. differ one other to u v a b (sym (keeps_block h k written.keeps one) ∙ p) (sym (keeps_block h k written.keeps other) ∙ q);
  small = small;
}
  where
    Fresh : ℕ → ℕ → Type 0
    Fresh to u = length (entries_at k to) < u → has_unit u (entries_at k to) ≡ false

    fresh_here : (u : ℕ) → Fresh journal u
    fresh_here u = subst (λ (es : List JournalRecord). length es < u → has_unit u es ≡ false) (sym written.here)
        (λ less. unit_more u (entries_at h journal) e (told.fresh journal u (omega (arith, less, length-append (entries_at h journal) (e ∷ [])))) (other less))
      where
        other : length (entries_at h journal ++ e ∷ []) < u → (e.unit == u) ≡ false
        other less = let count = length-append (entries_at h journal) (e ∷ []) in let up : e.unit < u = omega (arith, less, count, low) in grind (arith, nat_tests, up)

    fresh : (to u : ℕ) (b : Bool) → (journal == to) ≡ b → Fresh to u
    fresh to u true is = subst (λ (m : ℕ). Fresh m u) (nat_same journal to is) (fresh_here u)
    fresh to u false off = subst (λ (es : List JournalRecord). length es < u → has_unit u es ≡ false) (sym (written.others to off)) (told.fresh to u)

    each : (block to : ℕ) (unit : CommitUnit) → unit_of new block ≡ Some unit → journal_for_block h block ≡ Some to → (b : Bool) → (journal == to) ≡ b → IsTold (entries_at k to) (table_at k) unit
    each block to unit found leads true is =
        let same = nat_same journal to is in
        subst (λ (m : ℕ). IsTold (entries_at k m) (table_at k) unit) same
        (subst (λ (es : List JournalRecord). IsTold es (table_at k) unit) (sym written.here) (own block unit found (leads ∙ ap (λ (m : ℕ). Some m) (sym same))))
    each block to unit found leads false off = subst (λ (es : List JournalRecord). IsTold es (table_at k) unit) (sym (written.others to off)) (others block to unit found leads off)
