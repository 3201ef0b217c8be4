-- Few bytes of a journal space stay unforced, and few units are open in it: one case for each word of change.
use Rattle.std.proofs.Common.{◌≡◌, ◌∙◌, ◌⊎◌, ℕ, ◌+◌, ◌*◌, ◌<◌, ◌≤◌, ◌==◌, Bool, true, false, cond, inl, inr, List, [], ◌∷◌, ◌++◌, refl, sym, ap, subst, arith}
use Rattle.std.proofs.lemmas.Bool.{and_parts}
use Rattle.std.proofs.lemmas.Bool.Decides.{nat_tests}
use Rattle.std.specs.List.{list_any}
use Rattle.std.specs.Prelude.{◌&&◌, ◌||◌, None, Option, Some, is_none, is_some, nat_le, nat_lt, not}
use Rattle.s38_base.specs.Pointers.{start_of, target_of}
use Rattle.s38_base.specs.declared.id.Id.{Id}
use Rattle.s38_base.specs.declared.id.ObjNum.{ObjNum}
use Rattle.s38_code.specs.declared.operand.Operand.TheVariants as operands
use Rattle.s38_code.specs.declared.operand.Operand.{Operand}
use Rattle.s38_commits.proofs.MapLaws.{nat_itself, nat_same}
use Rattle.s38_commits.specs.Changes.{journal_bytes}
use Rattle.s38_commits.specs.Unit.{CommitUnit, noted}
use Rattle.s38_commits.specs.Units.{UnitMap, unit_of, with_change_joined}
use Rattle.s38_commits.specs.declared.change.UnitChange.{UnitChange}
use Rattle.s38_dataspaces.specs.Table.{DataTable}
use Rattle.s38_journals.specs.Journals.{JournalList}
use Rattle.s38_memory.specs.Tagged.{resized}
use Rattle.s38_memory.specs.declared.cell.Cell.{Cell}
use Rattle.s38_rules.specs.state.Cells.{with_cells}
use Rattle.s38_rules.specs.families.Changes.{CellsPut, Changes, Committed, Decommitted, Ensured, Entered, Framed, Gone, Journaled, Locked, Made, Moved, Named, OnAccess, OnCursor, OnIndex, OnQueue, Profiled, Resized, Stays, Then, done, made_by, renamed_by, through_port}
use Rattle.s38_rules.specs.families.Changing.{are_units_full, change_entry, logged, logged_in, most_units, next_sequence, number_for, units_after, with_change_logged}
use Rattle.s38_rules.specs.store.Forcing.{Forced, Whole, forced_by, is_whole, most_unforced, overdue}
use Rattle.s38_rules.specs.state.Held.{Held, kept_on_disk}
use Rattle.s38_rules.specs.state.Invocations.{restack_at}
use Rattle.s38_rules.specs.state.Journaling.{begins_unit, block_port, data_port, is_that_number, journal_for, journal_for_block, journal_of_port, open_after, open_units, unit_goes_to}
use Rattle.s38_rules.specs.ask.Operands.{cells_put}
use Rattle.s38_rules.specs.state.Parts.{cursor_part, index_part, profile_part, queue_part, space_part}
use Rattle.s38_rules.specs.state.PartsAt.{journal_at, on_journal, on_space, on_table, over_table}
use Rattle.s38_rules.specs.state.LawfulParts.{cursor_lawful, index_lawful, profile_lawful, queue_lawful, space_lawful}
use Rattle.s38_rules.specs.state.Access.{access_of, with_access}
use Rattle.s38_rules.specs.state.State.{State, process_entry}
use Rattle.s38_rules.specs.declared.creating.Creating.{Creating}
use Rattle.s38_rules.specs.declared.object.Body.{Body}
use Rattle.s38_rules.specs.declared.process.ProcessEntry.{ProcessEntry}
use Rattle.s38_laws_units.proofs.ChangeRuleLaws.{IsBlock}
use Rattle.s38_laws_units.proofs.EndLaws.{journal_by_data}
use Rattle.s38_laws_units.proofs.HeldLaws.{Carries, carries_same, creation_carries, cursor_other, header_carries, index_other, other_carries, profile_other, queue_other, space_other}
use Rattle.s38_laws_units.proofs.JoinLaws.{joined_more, joined_new, with_first}
use Rattle.s38_laws_units.proofs.RowLaws.{May, data_in, done_right}
use Rattle.s38_laws_units.proofs.UnitLaws.{count_changed, count_put_in, one_if}
use Rattle.s38_laws_units.specs.Right.{IsData, IsRight}
use Rattle.s38_laws_flush.specs.puts.Unforced.{most_trailing}
use Rattle.s38_laws_flush.proofs.puts.LongerLaws.{done_longer}
use Rattle.s38_laws_flush.proofs.puts.RowLaws.{MayOpen}
use Rattle.s38_laws_flush.proofs.puts.ShapeLaws.{unforced_in}
use Rattle.s38_laws_flush.proofs.puts.LowUnitLaws.{few_open, data_leads, journal_leads, same_leads, other_bytes, AreLowBut, carried_low, data_low, gone_low, committed_low, decommitted_low}

-- ---- on the way

-- what is forced whole must persist
abbrev pub Covers : (ℕ → Bool) → List Forced → Type 0
Covers anew all = (n : ℕ) → list_any (is_whole n) all ≡ true → anew n ≡ true

any_first : (n : ℕ) (xs ys : List Forced) → list_any (is_whole n) xs ≡ true → list_any (is_whole n) (xs ++ ys) ≡ true
any_first n [] ys is = cc
any_first n (x ∷ xs) ys is = by (is_whole n x) is (any_first n xs ys)
  where
    by : (b : Bool) → (b || list_any (is_whole n) xs) ≡ true → (list_any (is_whole n) xs ≡ true → list_any (is_whole n) (xs ++ ys) ≡ true) → (b || list_any (is_whole n) (xs ++ ys)) ≡ true
    by true is rest = refl
    by false is rest = rest is

any_last : (n : ℕ) (xs ys : List Forced) → list_any (is_whole n) ys ≡ true → list_any (is_whole n) (xs ++ ys) ≡ true
any_last n [] ys is = is
any_last n (x ∷ xs) ys is = by (is_whole n x) (any_last n xs ys is)
  where
    by : (b : Bool) → list_any (is_whole n) (xs ++ ys) ≡ true → (b || list_any (is_whole n) (xs ++ ys)) ≡ true
    by true rest = refl
    by false rest = rest

whole_first : (n : ℕ) (more : List Forced) → list_any (is_whole n) (Whole n ∷ more) ≡ true
whole_first n more = ap (λ (b : Bool). b || list_any (is_whole n) more) (nat_itself n)

-- ---- an entry is another one

module _ (P : ℕ → Type 0) (anew : ℕ → Bool) where
  module _ (s : State) (p block journal : ℕ) (change : UnitChange) (f : DataTable → DataTable) (leads : journal_for s.held change.space.0 ≡ Some journal)
      (free : are_units_full s.held s.units journal block ≡ false) (ruled : (block == 0) ≡ false → IsBlock s.held block change.space.0) where
    abbrev number : ℕ
    number = number_for s.units block (next_sequence (journal_at s.held journal))

    abbrev to_journal : JournalList → JournalList
    to_journal = with_change_logged (journal_bytes change) (open_after s.held s.units journal block) (change_entry number p change)

    abbrev now : Held
    now = on_table (on_journal s.held journal to_journal) change.space.0 f

    abbrev new : UnitMap
    new = units_after s.units p block number change

    now_leads : (b : ℕ) → journal_for_block now b ≡ journal_for_block s.held b
    now_leads b = data_leads (on_journal s.held journal to_journal) change.space.0 (over_table f) b ∙ journal_leads s.held journal to_journal b

    now_open : (units : UnitMap) (n : ℕ) → open_units now units n ≤ open_units s.held units n
    now_open units n = few_open s.held now units n (same_leads s.held now now_leads)

    -- the unit of its block goes to the journal space
    own_leads : IsBlock s.held block change.space.0 → journal_for_block s.held block ≡ Some journal
    own_leads is =
        let to : data_port s.held change.space.0 ≡ block_port s.held block = nat_same _ _ (and_parts (data_port s.held change.space.0 == block_port s.held block) (is_some (journal_for s.held change.space.0)) is.journaled).0 in
        ap (journal_of_port s.held) (sym to) ∙ leads

    -- how many are open in a journal space, where one more may have begun in that of the change
    abbrev MoreOpen : UnitMap → Type 0
    MoreOpen units = (n : ℕ) → (open_units s.held units n ≤ open_units s.held s.units n) ⊎ ((journal ≡ n) × (open_units s.held units n ≤ most_units))

    begun_open : unit_of s.units block ≡ None → (block == 0) ≡ false → MoreOpen (with_change_joined s.units block p number change)
    begun_open none some n =
        let unit = with_first p number change in
        let same : open_units s.held (with_change_joined s.units block p number change) n ≡ open_units s.held s.units n + one_if (unit_goes_to s.held n (block, unit)) =
        ap (λ (us : UnitMap). open_units s.held us n) (joined_new s.units block p number change none) ∙ count_put_in (unit_goes_to s.held n) s.units block unit none in
        by same (n == journal) refl
      where
        begins : begins_unit s.units block ≡ true
        begins = both (not (block == 0)) (is_none (unit_of s.units block)) (ap not some) (ap is_none none)
          where
            both : (a b : Bool) → a ≡ true → b ≡ true → (a && b) ≡ true
            both true b x y = y
            both false b x y = let e : false ≡ true = x in cc

        full : nat_le most_units (open_units s.held s.units journal) ≡ false
        full = ap (λ b. b && nat_le most_units (open_units s.held s.units journal)) (sym begins) ∙ free

        room : open_units s.held s.units journal < most_units
        room = grind (arith, nat_tests, full)

        goes : is_that_number n (journal_for_block s.held block) ≡ (n == journal)
        goes = ap (is_that_number n) (own_leads (ruled some))

        by : open_units s.held (with_change_joined s.units block p number change) n ≡ open_units s.held s.units n + one_if (is_that_number n (journal_for_block s.held block)) → (b : Bool) → (n == journal) ≡ b
            → (open_units s.held (with_change_joined s.units block p number change) n ≤ open_units s.held s.units n) ⊎ ((journal ≡ n) × (open_units s.held (with_change_joined s.units block p number change) n ≤ most_units))
        by same true is =
            let here : n ≡ journal = nat_same n journal is in
            let one : one_if (is_that_number n (journal_for_block s.held block)) ≡ 1 = ap one_if (goes ∙ is) in
            let few : open_units s.held s.units n < most_units = subst (λ (m : ℕ). open_units s.held s.units m < most_units) (sym here) room in
            inr (sym here, omega (arith, same, one, few))
        by same false off =
            let none_is : one_if (is_that_number n (journal_for_block s.held block)) ≡ 0 = ap one_if (goes ∙ off) in
            inl (omega (arith, same, none_is))

    more_open : (unit : CommitUnit) → unit_of s.units block ≡ Some unit → MoreOpen (with_change_joined s.units block p number change)
    more_open unit found n =
        let same : open_units s.held (with_change_joined s.units block p number change) n ≡ open_units s.held s.units n =
        ap (λ (us : UnitMap). open_units s.held us n) (joined_more s.units block p number change unit found) ∙ count_changed (unit_goes_to s.held n) s.units block (noted change) (λ m u v. refl) in
        inl (omega (arith, same))

    units_open : MoreOpen new
    units_open = by (block == 0) refl
      where
        with_block : (r : Option CommitUnit) → unit_of s.units block ≡ r → (block == 0) ≡ false → MoreOpen (with_change_joined s.units block p number change)
        with_block None found some = begun_open found some
        with_block (Some unit) found some = more_open unit found

        by : (b : Bool) → (block == 0) ≡ b → MoreOpen (cond b s.units (with_change_joined s.units block p number change))
        by true none = λ n. inl (omega arith)
        by false some = with_block (unit_of s.units block) refl some

    -- what is unforced of another journal space
    now_bytes : (n : ℕ) → (journal == n) ≡ false → (journal_at now n).unforced ≡ (journal_at s.held n).unforced
    now_bytes n off = ap unforced_in (journal_by_data (on_journal s.held journal to_journal) change.space.0 n (over_table f)) ∙ other_bytes s.held journal n to_journal off

    logged_low : ((n : ℕ) → journal ≡ n → anew n ≡ false → (journal_at now n).unforced ≤ most_unforced) → AreLowBut P anew s.held s.units → AreLowBut P anew now new
    logged_low due low = record {
      given = low.given;
      opened = λ n. opened n (units_open n);
      bytes = λ n is old. counted n is old (journal == n) refl (units_open n);
    }
      where
        opened : (n : ℕ) → (open_units s.held new n ≤ open_units s.held s.units n) ⊎ ((journal ≡ n) × (open_units s.held new n ≤ most_units)) → open_units now new n ≤ most_units
        opened n (inl few) = let one = low.opened n in let two = now_open new n in omega (arith, one, two, few)
        opened n (inr few) = let two = now_open new n in let three = few.1 in omega (arith, two, three)

        counted : (n : ℕ) → P n → anew n ≡ false → (b : Bool) → (journal == n) ≡ b → (open_units s.held new n ≤ open_units s.held s.units n) ⊎ ((journal ≡ n) × (open_units s.held new n ≤ most_units))
            → (journal_at now n).unforced + 41 * open_units now new n ≤ most_trailing
        counted n is old true same few = let one = due n (nat_same journal n same) old in let two = opened n few in omega (arith, one, two)
        counted n is old false off (inl few) = let one = low.bytes n is old in let two = now_open new n in let three = now_bytes n off in omega (arith, one, two, three, few)
        counted n is old false off (inr few) = absurd (let e : true ≡ false = sym (nat_itself n) ∙ ap (λ (m : ℕ). m == n) (sym few.0) ∙ off in cc)

  -- after the change of an entry that is logged in a journal space, or in none
  abbrev Behind : State → ℕ → ℕ → UnitChange → (DataTable → DataTable) → Option ℕ → Held
  Behind s p block change f r = on_table (logged_in s p block change r).held change.space.0 f

  entered_low : (s : State) (p block : ℕ) (change : UnitChange) (f : DataTable → DataTable) → MayOpen s p (Entered block change f) → ((block == 0) ≡ false → IsBlock s.held block change.space.0)
      → Covers anew (forced_by s p (Entered block change f)) → AreLowBut P anew s.held s.units → AreLowBut P anew (done s p (Entered block change f)).held (done s p (Entered block change f)).units
  unfolding logged
  entered_low s p block change f finds ruled cover low = by (journal_for s.held change.space.0) refl cover
    where
      due : (journal n : ℕ) → Covers anew (overdue (Behind s p block change f (Some journal)) (Some journal)) → journal ≡ n → anew n ≡ false → (b : Bool)
          → nat_lt most_unforced (journal_at (Behind s p block change f (Some journal)) journal).unforced ≡ b → (journal_at (Behind s p block change f (Some journal)) n).unforced ≤ most_unforced
      due journal n cover same old true over =
          let whole_is : list_any (is_whole journal) (overdue (Behind s p block change f (Some journal)) (Some journal)) ≡ true = ap (λ b. list_any (is_whole journal) (cond b (Whole journal ∷ []) [])) over ∙ whole_first journal [] in
          absurd (let e : true ≡ false = sym (cover journal whole_is) ∙ ap anew same ∙ old in cc)
      due journal n cover same old false under =
          let few : (journal_at (Behind s p block change f (Some journal)) journal).unforced ≤ most_unforced = grind (arith, nat_tests, under) in
          subst (λ (m : ℕ). (journal_at (Behind s p block change f (Some journal)) m).unforced ≤ most_unforced) same few

      by : (r : Option ℕ) → journal_for s.held change.space.0 ≡ r → Covers anew (overdue (Behind s p block change f r) r) → AreLowBut P anew (Behind s p block change f r) (logged_in s p block change r).units
      by None is cover = data_low P anew s.held s.units change.space.0 (over_table f) low
      by (Some journal) is cover =
          logged_low s p block journal change f is (finds journal is) ruled
          (λ n same old. due journal n cover same old (nat_lt most_unforced (journal_at (Behind s p block change f (Some journal)) journal).unforced) refl) low

  -- ---- each word of change

  space_carries : (h : Held) (n : ℕ) (g : List Cell → List Cell) → Carries h (on_space h n g)
  space_carries h n g = other_carries space_part space_lawful space_other h n g

  cells_carry : (h : Held) (operand : Option Operand) (piece : List Cell) → Carries h (cells_put h operand piece)
  cells_carry h (Some (operands.InSpace base offset attr)) piece = space_carries h (target_of base) (with_cells (start_of base offset) piece)
  cells_carry h _ piece = carries_same h

  renamed_carries : (h : Held) (n : ℕ) (id : Option Id) → Carries h (renamed_by h n id)
  renamed_carries h n None = carries_same h
  renamed_carries h n (Some id) = header_carries h n (λ x. record x { id = id }) (λ x. refl) (λ x. refl)

  made_carries : (h : Held) (owner : ℕ) (made : Creating) (body : Option Body) → IsData (data_in body) → Carries h (made_by h owner made body)
  made_carries h owner made None of = carries_same h
  made_carries h owner made (Some body) of = creation_carries h owner made body of

  restacked_low : (g : List ObjNum → List ObjNum) (s : State) (p : ℕ) (x : Option ProcessEntry) → AreLowBut P anew s.held s.units → AreLowBut P anew (restack_at g s p x).held (restack_at g s p x).units
  restacked_low g s p None low = low
  restacked_low g s p (Some x) low = low

  quiet_low : (x : Changes) (s : State) (p : ℕ) → IsRight s → (done s p x).units ≡ s.units → Carries s.held (done s p x).held → AreLowBut P anew s.held s.units → AreLowBut P anew (done s p x).held (done s p x).units
  quiet_low x s p right same carries low =
      subst (λ (us : UnitMap). AreLowBut P anew (done s p x).held us) (sym same) (carried_low P anew s.held (done s p x).held s.units right carries (done_longer x s p) low)

  pub done_low : (x : Changes) (s : State) (p : ℕ) → IsRight s → May s p x → MayOpen s p x → Covers anew (forced_by s p x) → AreLowBut P anew s.held s.units → AreLowBut P anew (done s p x).held (done s p x).units
  done_low Stays s p right may finds cover low = low
  done_low (OnQueue n g) s p right may finds cover low = quiet_low (OnQueue n g) s p right refl (other_carries queue_part queue_lawful queue_other s.held n g) low
  done_low (OnIndex n g) s p right may finds cover low = quiet_low (OnIndex n g) s p right refl (other_carries index_part index_lawful index_other s.held n g) low
  done_low (OnCursor n g) s p right may finds cover low = quiet_low (OnCursor n g) s p right refl (other_carries cursor_part cursor_lawful cursor_other s.held n g) low
  done_low (Resized n bytes) s p right may finds cover low = quiet_low (Resized n bytes) s p right refl (space_carries s.held n (resized bytes)) low
  done_low (CellsPut operand piece) s p right may finds cover low = quiet_low (CellsPut operand piece) s p right refl (cells_carry s.held operand piece) low
  done_low (Entered block change g) s p right may finds cover low = entered_low s p block change g finds may.ruled cover low
  done_low (Journaled n port) s p right may finds cover low = data_low P anew s.held s.units n (through_port port) low
  done_low (OnAccess n g) s p right may finds cover low = quiet_low (OnAccess n g) s p right refl (header_carries s.held n (λ x. with_access (g (access_of x)) x) (λ x. refl) (λ x. refl)) low
  done_low (Profiled n special limit) s p right may finds cover low = quiet_low (Profiled n special limit) s p right refl (other_carries profile_part profile_lawful profile_other s.held n (λ _. (special, limit))) low
  done_low (Named n id) s p right may finds cover low = quiet_low (Named n id) s p right refl (renamed_carries s.held n id) low
  done_low (Moved n context) s p right may finds cover low = quiet_low (Moved n context) s p right refl (header_carries s.held n (λ x. record x { context = context }) (λ x. refl) (λ x. refl)) low
  done_low (Ensured n) s p right may finds cover low = quiet_low (Ensured n) s p right refl (header_carries s.held n kept_on_disk (λ x. refl) (λ x. refl)) low
  done_low (Made owner made body) s p right may finds cover low = quiet_low (Made owner made body) s p right refl (made_carries s.held owner made body may) low
  done_low (Gone kind n) s p right may finds cover low = gone_low P anew s.held s.units kind n right.unused.none low
  done_low (Framed g) s p right may finds cover low = restacked_low g s p (process_entry s p) low
  done_low (Locked n held) s p right may finds cover low = low
  done_low (Committed block) s p right may finds cover low = committed_low P anew s p block (unit_of s.units block) refl low
  done_low (Decommitted block) s p right may finds cover low = decommitted_low P anew s p block (unit_of s.units block) refl low
  done_low (Then a b) s p right may finds cover low =
      done_low b (done s p a) p (done_right a s p right may.0) may.1 finds.1 (λ n is. cover n (any_last n (forced_by s p a) (forced_by (done s p a) p b) is))
      (done_low a s p right may.0 finds.0 (λ n is. cover n (any_first n (forced_by s p a) (forced_by (done s p a) p b) is)) low)
