-- All words of change: what is kept goes on with them, where the rows meet what the words must.
use Rattle.std.proofs.Common.{◌≡◌, ◌∙◌, ℕ, ◌+◌, Bool, true, false, List, [], ◌∷◌, ◌++◌, refl, ap, subst}
use Rattle.std.specs.List.{list_any}
use Rattle.std.specs.Prelude.{◌||◌, None, Option, Some}
use Rattle.s38_base.specs.declared.id.ObjNum.{ObjNum}
use Rattle.s38_durable_state.specs.Durable.{Durable}
use Rattle.s38_memory.specs.Tagged.{resized}
use Rattle.s38_rules.specs.families.Changes.{CellsPut, Changes, Committed, Decommitted, Ensured, Entered, Framed, Gone, Journaled, Locked, Made, Moved, Named, OnAccess, OnCursor, OnIndex, OnQueue, Profiled, Resized, Stays, Then, done}
use Rattle.s38_rules.specs.store.Forcing.{Forced, forced_by, is_whole, whole_if}
use Rattle.s38_rules.specs.state.Invocations.{restack_at}
use Rattle.s38_rules.specs.state.Journaling.{journal_for}
use Rattle.s38_rules.specs.state.Parts.{cursor_part, index_part, profile_part, queue_part}
use Rattle.s38_rules.specs.state.LawfulParts.{cursor_lawful, index_lawful, profile_lawful, queue_lawful}
use Rattle.s38_rules.specs.state.Access.{access_of, with_access}
use Rattle.s38_rules.specs.state.State.{State, process_entry}
use Rattle.s38_rules.specs.declared.object.Body.{Body}
use Rattle.s38_rules.specs.declared.process.ProcessEntry.{ProcessEntry}
use Rattle.s38_laws_units.specs.Right.{IsRight}
use Rattle.s38_laws_commits.proofs.EnteredLaws.{TellsEntry}
use Rattle.s38_laws_commits.proofs.GoingLaws.{Covers, IsGoing, JournalsTo, cells_still, ensured_going, first_whole, journaled_kept, journaled_linked, journaled_told, renamed_still, space_still, still_going}
use Rattle.s38_laws_units.proofs.HeldLaws.{cursor_other, index_other, profile_other, queue_other}
use Rattle.s38_laws_commits.proofs.LinkLaws.{still_header, still_other}
use Rattle.s38_laws_units.proofs.RowLaws.{May, done_right}
use Rattle.s38_laws_commits.proofs.WordLaws.{commit_going, decommit_going, entered_going}
use Rattle.s38_laws_commits.proofs.GoneWordLaws.{IsFreeOf, gone_going}
use Rattle.s38_laws_commits.proofs.MadeWordLaws.{IsNewBody, made_going}

-- ---- all words

abbrev pub NewIn : Option Body → Type 0
NewIn None = Unit {0}
NewIn (Some body) = IsNewBody body

-- what a change must meet besides
abbrev pub MayTell : State → ℕ → Changes → Type 0
MayTell s p (Entered block change f) = TellsEntry s block change f
MayTell s p (Journaled n port) = ⊥
MayTell s p (Made owner made body) = NewIn body
MayTell s p (Gone kind n) = IsFreeOf s.units kind n
MayTell s p (Then (Journaled n port) (Ensured m)) = JournalsTo s.held n port m
MayTell s p (Then a b) = MayTell s p a × MayTell (done s p a) p b
MayTell s p _ = Unit {0}

any_both : {A : Type 0} (test : A → Bool) (xs ys : List A) → list_any test (xs ++ ys) ≡ (list_any test xs || list_any test ys)
any_both test [] ys = refl
any_both test (x ∷ xs) ys = ap (λ (b : Bool). test x || b) (any_both test xs ys) ∙ by (test x)
  where
    by : (b : Bool) → (b || (list_any test xs || list_any test ys)) ≡ ((b || list_any test xs) || list_any test ys)
    by true = refl
    by false = refl

pub covers_first : (anew : ℕ → Bool) (xs ys : List Forced) → Covers anew (xs ++ ys) → Covers anew xs
covers_first anew xs ys cover n is = cover n (any_both (is_whole n) xs ys ∙ ap (λ (b : Bool). b || list_any (is_whole n) ys) is)

pub covers_second : (anew : ℕ → Bool) (xs ys : List Forced) → Covers anew (xs ++ ys) → Covers anew ys
covers_second anew xs ys cover n is = cover n (any_both (is_whole n) xs ys ∙ ap (λ (b : Bool). list_any (is_whole n) xs || b) is ∙ either (list_any (is_whole n) xs))
  where
    either : (b : Bool) → (b || true) ≡ true
    either true = refl
    either false = refl

restacked_going : (f : List ObjNum → List ObjNum) (s : State) (p : ℕ) (x : Option ProcessEntry) (d : Durable) (anew : ℕ → Bool) → IsGoing s.held s.units d anew → IsGoing (restack_at f s p x).held (restack_at f s p x).units d anew
restacked_going f s p None d anew going = going
restacked_going f s p (Some x) d anew going = going

journaled_going : (s : State) (p n port : ℕ) (d : Durable) (anew : ℕ → Bool) → JournalsTo s.held n port n → anew n ≡ true → IsRight (done s p (Then (Journaled n port) (Ensured n))) → IsGoing s.held s.units d anew
    → IsGoing (done s p (Then (Journaled n port) (Ensured n))).held (done s p (Then (Journaled n port) (Ensured n))).units d anew
journaled_going s p n port d anew journals new right going = record {
  right = right;
  linked = journaled_linked s.held n port s.units journals going.linked going.right.unused;
  told = journaled_told s.held n port s.units journals going.told;
  kept = journaled_kept s.held n port s.units journals d anew new going.kept;
}

pub done_going : (x : Changes) (s : State) (p : ℕ) (d : Durable) (anew : ℕ → Bool) → May s p x → MayTell s p x → Covers anew (forced_by s p x) → IsGoing s.held s.units d anew
    → IsGoing (done s p x).held (done s p x).units d anew
done_going Stays s p d anew may tell cover going = going
done_going (OnQueue n f) s p d anew may tell cover going = still_going s.held _ s.units d anew (still_other queue_part queue_lawful queue_other s.held n f) (done_right (OnQueue n f) s p going.right may) going
done_going (OnIndex n f) s p d anew may tell cover going = still_going s.held _ s.units d anew (still_other index_part index_lawful index_other s.held n f) (done_right (OnIndex n f) s p going.right may) going
done_going (OnCursor n f) s p d anew may tell cover going = still_going s.held _ s.units d anew (still_other cursor_part cursor_lawful cursor_other s.held n f) (done_right (OnCursor n f) s p going.right may) going
done_going (Resized n bytes) s p d anew may tell cover going = still_going s.held _ s.units d anew (space_still s.held n (resized bytes)) (done_right (Resized n bytes) s p going.right may) going
done_going (CellsPut operand piece) s p d anew may tell cover going = still_going s.held _ s.units d anew (cells_still s.held operand piece) (done_right (CellsPut operand piece) s p going.right may) going
done_going (Entered block change f) s p d anew may tell cover going = entered_going s p block change f d anew tell (done_right (Entered block change f) s p going.right may) going
done_going (Journaled n port) s p d anew may tell cover going = absurd tell
done_going (OnAccess n f) s p d anew may tell cover going =
    still_going s.held _ s.units d anew (still_header s.held n (λ x. with_access (f (access_of x)) x) (λ x. refl) (λ x. refl) (λ x. refl)) (done_right (OnAccess n f) s p going.right may) going
done_going (Profiled n special limit) s p d anew may tell cover going =
    still_going s.held _ s.units d anew (still_other profile_part profile_lawful profile_other s.held n (λ _. (special, limit))) (done_right (Profiled n special limit) s p going.right may) going
done_going (Named n id) s p d anew may tell cover going = still_going s.held _ s.units d anew (renamed_still s.held n id) (done_right (Named n id) s p going.right may) going
done_going (Moved n context) s p d anew may tell cover going =
    still_going s.held _ s.units d anew (still_header s.held n (λ x. record x { context = context }) (λ x. refl) (λ x. refl) (λ x. refl)) (done_right (Moved n context) s p going.right may) going
done_going (Ensured n) s p d anew may tell cover going = ensured_going s.held n s.units d anew (cover n (first_whole n (whole_if (journal_for s.held n)))) (done_right (Ensured n) s p going.right may) going
done_going (Made owner made None) s p d anew may tell cover going = going
done_going (Made owner made (Some body)) s p d anew may tell cover going = made_going s.held owner made body s.units d anew tell (done_right (Made owner made (Some body)) s p going.right may) cover going
done_going (Gone kind n) s p d anew may tell cover going = gone_going s.held kind n s.units d anew tell (done_right (Gone kind n) s p going.right may) going
done_going (Framed f) s p d anew may tell cover going = restacked_going f s p (process_entry s p) d anew going
done_going (Locked n held) s p d anew may tell cover going = going
done_going (Committed block) s p d anew may tell cover going = commit_going s p block _ d anew refl going
done_going (Decommitted block) s p d anew may tell cover going = decommit_going s p block _ d anew refl going
done_going (Then (Journaled n port) (Ensured m)) s p d anew may tell cover going =
    journaled_by m tell.same tell may cover
  where
    journaled_by : (i : ℕ) → n ≡ i → JournalsTo s.held n port i → May s p (Then (Journaled n port) (Ensured i)) → Covers anew (forced_by s p (Then (Journaled n port) (Ensured i)))
        → IsGoing (done s p (Then (Journaled n port) (Ensured i))).held (done s p (Then (Journaled n port) (Ensured i))).units d anew
    journaled_by i same = subst (λ (k : ℕ). JournalsTo s.held n port k → May s p (Then (Journaled n port) (Ensured k)) → Covers anew (forced_by s p (Then (Journaled n port) (Ensured k)))
        → IsGoing (done s p (Then (Journaled n port) (Ensured k))).held (done s p (Then (Journaled n port) (Ensured k))).units d anew) same
        (λ journals may cover. journaled_going s p n port d anew journals (cover n (first_whole n (whole_if (journal_for (done s p (Journaled n port)).held n)))) (done_right (Then (Journaled n port) (Ensured n)) s p going.right may) going)
done_going (Then a b) s p d anew may tell cover going =
    done_going b (done s p a) p d anew may.1 tell.1 (covers_second anew (forced_by s p a) (forced_by (done s p a) p b) cover)
    (done_going a s p d anew may.0 tell.0 (covers_first anew (forced_by s p a) (forced_by (done s p a) p b) cover) going)
