-- How the numbers of objects, their kinds, the ceiling and what is on disk go on where something is changed, and which
-- numbers are forced: one case for each word of change.
use Rattle.std.proofs.Common.{◌≡◌, ◌∙◌, ◌⊎◌, ℕ, ◌<◌, ◌≤◌, ◌==◌, Bool, true, false, cond, inl, inr, [], ◌∷◌, refl, sym, ap, arith}
use Rattle.std.proofs.lemmas.Bool.Decides.{nat_tests}
use Rattle.std.specs.Prelude.{◌||◌, None, Some, nat_lt}
use Rattle.s38_base.specs.Limits.{last_number}
use Rattle.s38_commits.proofs.MapLaws.{nat_itself, nat_same}
use Rattle.s38_commits.specs.Units.{unit_of}
use Rattle.s38_memory.specs.Tagged.{resized}
use Rattle.s38_laws_objects.specs.Outline.{is_forced, speaks_of}
use Rattle.s38_rules.specs.families.Changes.{CellsPut, Changes, Committed, Decommitted, Ensured, Entered, Framed, Gone, Journaled, Locked, Made, Moved, Named, OnAccess, OnCursor, OnIndex, OnQueue, Profiled, Resized, Stays, Then, done, made_by, through_port}
use Rattle.s38_rules.specs.families.Changing.{logged}
use Rattle.s38_rules.specs.store.Forcing.{Ceiling, Whole, followed, forced_by, whole_if}
use Rattle.s38_rules.specs.state.Held.{Held, change, is_on_disk, kind_of, object}
use Rattle.s38_rules.specs.state.Journaling.{data_port, journal_for}
use Rattle.s38_rules.specs.state.Parts.{cursor_part, data_part, index_part, profile_part, queue_part}
use Rattle.s38_rules.specs.state.PartsAt.{over_table}
use Rattle.s38_rules.specs.state.LawfulParts.{cursor_lawful, data_lawful, index_lawful, profile_lawful, queue_lawful}
use Rattle.s38_rules.specs.state.Access.{access_of, with_access}
use Rattle.s38_rules.specs.state.State.{State, process_entry}
use Rattle.s38_rules.specs.declared.object.Object.{Object}
use Rattle.s38_laws_flush.specs.durable.Kept.{AreNumbered}
use Rattle.s38_laws_flush.proofs.durable.SameLaws.{cells_same, change_same, committed_same, decommitted_same, logged_same, part_same, renamed_same, restacked_same, same_itself, same_then, space_same}
use Rattle.s38_laws_flush.proofs.durable.GoesThenLaws.{Goes, same_goes, quiet_goes, either_true, any_either, goes_then}
use Rattle.s38_laws_flush.proofs.durable.GoesEnsuredLaws.{IsGiven, commit_meets, ensured_goes, followed_given, followed_meets, given_by, overdue_meets, removed_meets, whole_meets}
use Rattle.s38_laws_flush.proofs.durable.GoesMadeLaws.{ceiling_silent, made_by_goes, gone_goes}

-- ---- each word of change

-- an object is made only while a number is left; what is ensured was given, and is an object where the request has operands
abbrev pub May : Type 0 → State → ℕ → Changes → Type 0
May Z s p (Made owner made body) = s.held.next ≤ last_number
May Z s p (Ensured n) = (n < s.held.next) × (Z → 1 ≤ n)
May Z s p (Then a b) = May Z s p a × May Z (done s p a) p b
May Z s p _ = Unit {0}

header_goes : (h : Held) (m : ℕ) (f : Object → Object) → AreNumbered h → ((x : Object) → (f x).number ≡ x.number) → ((x : Object) → (f x).body ≡ x.body) → ((x : Object) → (f x).on_disk ≡ x.on_disk) → Goes (followed h m) h (change h m f)
header_goes h m f are number body disk =
    same_goes (followed h m) h (change h m f) are (change_same h m f number (λ x. ap kind_of (body x)) disk) (λ n is. followed_given h m n are is)

pub done_goes : (Z : Type 0) (x : Changes) (s : State) (p : ℕ) → AreNumbered s.held → May Z s p x → Goes (forced_by s p x) s.held (done s p x).held
done_goes Z Stays s p are may = quiet_goes s.held _ are (same_itself s.held)
done_goes Z (OnQueue n f) s p are may = quiet_goes s.held _ are (part_same queue_part queue_lawful _ (λ x. refl) s.held n f)
done_goes Z (OnIndex n f) s p are may = quiet_goes s.held _ are (part_same index_part index_lawful _ (λ x. refl) s.held n f)
done_goes Z (OnCursor n f) s p are may = quiet_goes s.held _ are (part_same cursor_part cursor_lawful _ (λ x. refl) s.held n f)
done_goes Z (Resized n bytes) s p are may = quiet_goes s.held _ are (space_same s.held n (resized bytes))
done_goes Z (CellsPut operand piece) s p are may = quiet_goes s.held _ are (cells_same s.held operand piece)
done_goes Z (Entered block change f) s p are may =
    same_goes _ s.held _ are
    (same_then s.held (logged s p block change).held _ (logged_same s p block change) (part_same data_part data_lawful _ (λ x. refl) (logged s p block change).held change.space.0 (over_table f)))
    (λ n is. overdue_meets s.held (IsGiven s.held) (given_by s.held are) (done s p (Entered block change f)).held (data_port s.held change.space.0) n is)
done_goes Z (Journaled n port) s p are may = quiet_goes s.held _ are (part_same data_part data_lawful _ (λ x. refl) s.held n (through_port port))
done_goes Z (OnAccess n f) s p are may = header_goes s.held n (λ o. with_access (f (access_of o)) o) are (λ x. refl) (λ x. refl) (λ x. refl)
done_goes Z (Profiled n special limit) s p are may =
    same_goes (followed s.held n) s.held _ are (part_same profile_part profile_lawful _ (λ x. refl) s.held n (λ _. (special, limit))) (λ m is. followed_given s.held n m are is)
done_goes Z (Named n id) s p are may = same_goes (followed s.held n) s.held _ are (renamed_same s.held n id) (λ m is. followed_given s.held n m are is)
done_goes Z (Moved n context) s p are may = header_goes s.held n (λ o. record o { context = context }) are (λ x. refl) (λ x. refl) (λ x. refl)
done_goes Z (Ensured n) s p are may = ensured_goes s.held n are may.0
done_goes Z (Made owner made body) s p are may = made_by_goes s.held owner made body are may
done_goes Z (Gone kind n) s p are may = gone_goes s.held kind n are
done_goes Z (Framed f) s p are may = quiet_goes s.held _ are (restacked_same f s p (process_entry s p))
done_goes Z (Locked n held) s p are may = quiet_goes s.held _ are (same_itself s.held)
done_goes Z (Committed block) s p are may =
    same_goes _ s.held _ are (committed_same s p block (unit_of s.units block)) (λ n is. commit_meets s.held (IsGiven s.held) (given_by s.held are) block n (unit_of s.units block) is)
done_goes Z (Decommitted block) s p are may = quiet_goes s.held _ are (decommitted_same s p block (unit_of s.units block))
done_goes Z (Then a b) s p are may =
    let first = done_goes Z a s p are may.0 in
    goes_then (forced_by s p a) (forced_by (done s p a) p b) s.held (done s p a).held (done (done s p a) p b).held first (done_goes Z b (done s p a) p first.numbered may.1)

-- ---- the number of no object

not_zero : (h : Held) → AreNumbered h → (n : ℕ) (o : Object) → object h n ≡ Some o → (n == 0) ≡ false
not_zero h are n o found = by (n == 0) refl
  where
    by : (b : Bool) → (n == 0) ≡ b → b ≡ false
    by true is = absurd (let e : None ≡ Some o = sym are.none ∙ ap (object h) (sym (nat_same n 0 is)) ∙ found in cc)
    by false is = refl

never_zero : (0 == 0) ≡ false → ⊥
never_zero h = let e : true ≡ false = sym (nat_itself 0) ∙ h in cc

first_zero : (m : ℕ) → 1 ≤ m → ((m == 0) || false) ≡ true → ⊥
first_zero m one is =
    let off : (m == 0) ≡ false = grind (arith, nat_tests, one) in
    let e : false ≡ true = sym (ap (λ b. b || false) off) ∙ is in
    cc

-- it is forced nowhere, where the request has operands
pub zero_unforced : (Z : Type 0) (x : Changes) (s : State) (p : ℕ) → AreNumbered s.held → May Z s p x → Z → is_forced 0 (forced_by s p x) ≡ true → ⊥
zero_unforced Z (Entered block change f) s p are may z is =
    never_zero (overdue_meets s.held (λ n. (n == 0) ≡ false) (not_zero s.held are) (done s p (Entered block change f)).held (data_port s.held change.space.0) 0 is)
zero_unforced Z (OnAccess n f) s p are may z is = never_zero (followed_meets s.held (λ n. (n == 0) ≡ false) (not_zero s.held are) n 0 is)
zero_unforced Z (Profiled n special limit) s p are may z is = never_zero (followed_meets s.held (λ n. (n == 0) ≡ false) (not_zero s.held are) n 0 is)
zero_unforced Z (Named n id) s p are may z is = never_zero (followed_meets s.held (λ n. (n == 0) ≡ false) (not_zero s.held are) n 0 is)
zero_unforced Z (Moved n context) s p are may z is = never_zero (followed_meets s.held (λ n. (n == 0) ≡ false) (not_zero s.held are) n 0 is)
zero_unforced Z (Ensured n) s p are may z is = by (either_true (n == 0) (is_forced 0 (whole_if (journal_for s.held n))) is)
  where
    by : ((n == 0) ≡ true) ⊎ (is_forced 0 (whole_if (journal_for s.held n)) ≡ true) → ⊥
    by (inl e) = first_zero n (may.1 z) (ap (λ b. b || false) e)
    by (inr e) = never_zero (whole_meets s.held (λ k. (k == 0) ≡ false) (not_zero s.held are) (data_port s.held n) 0 e)
zero_unforced Z (Made owner made body) s p are may z is =
    by (any_either (speaks_of 0) (cond (nat_lt s.held.ceiling (made_by s.held owner made body).ceiling) (Ceiling ∷ []) []) (cond (is_on_disk (made_by s.held owner made body) s.held.next) (Whole s.held.next ∷ []) []) is)
  where
    whole : (b : Bool) → is_forced 0 (cond b (Whole s.held.next ∷ []) []) ≡ true → ⊥
    whole true e = first_zero s.held.next are.first e
    whole false e = let f : false ≡ true = e in cc

    by : (is_forced 0 (cond (nat_lt s.held.ceiling (made_by s.held owner made body).ceiling) (Ceiling ∷ []) []) ≡ true)
        ⊎ (is_forced 0 (cond (is_on_disk (made_by s.held owner made body) s.held.next) (Whole s.held.next ∷ []) []) ≡ true) → ⊥
    by (inl e) = let f : false ≡ true = ceiling_silent 0 (nat_lt s.held.ceiling (made_by s.held owner made body).ceiling) e in cc
    by (inr e) = whole (is_on_disk (made_by s.held owner made body) s.held.next) e
zero_unforced Z (Gone kind n) s p are may z is = never_zero (removed_meets s.held (λ k. (k == 0) ≡ false) (not_zero s.held are) kind n 0 is)
zero_unforced Z (Committed block) s p are may z is = never_zero (commit_meets s.held (λ k. (k == 0) ≡ false) (not_zero s.held are) block 0 (unit_of s.units block) is)
zero_unforced Z (Then a b) s p are may z is =
    let first = done_goes Z a s p are may.0 in
    both (any_either (speaks_of 0) (forced_by s p a) (forced_by (done s p a) p b) is) (zero_unforced Z a s p are may.0 z) (zero_unforced Z b (done s p a) p first.numbered may.1 z)
  where
    both : (is_forced 0 (forced_by s p a) ≡ true) ⊎ (is_forced 0 (forced_by (done s p a) p b) ≡ true) → (is_forced 0 (forced_by s p a) ≡ true → ⊥) → (is_forced 0 (forced_by (done s p a) p b) ≡ true → ⊥) → ⊥
    both (inl e) f g = f e
    both (inr e) f g = g e
zero_unforced Z _ s p are may z is = let e : false ≡ true = is in cc
