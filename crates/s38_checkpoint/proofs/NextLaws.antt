-- The next object, and its parts.
use Rattle.std.proofs.Common.{◌≡◌, ℕ, suc, ◌<◌, ◌≤◌, ◌<◌, List, [], ◌∷◌, ◌++◌, ◌+◌, false, length, length-append, append-nil, sym, ◌∙◌, ap, subst, arith}
use Rattle.std.proofs.lemmas.Bool.Decides.{nat_tests}
use Rattle.std.specs.Prelude.{All, None, Option, Some, nat_lt}
use Rattle.s38_checkpoint.specs.Closing.{closing}
use Rattle.s38_checkpoint.specs.Waiting.{AddsNumber, IsNext}
use Rattle.s38_checkpoint.proofs.FoundLaws.{IsAmong}
use Rattle.s38_checkpoint.proofs.PassLaws.{AreSorted, at_place, below_next, last_below, nothing_between, sorted_by, whole_at}
use Rattle.s38_commits.specs.Units.{UnitMap}
use Rattle.s38_durable_state.specs.Durable.{whole_stored}
use Rattle.s38_durable_state.specs.Represents.{parts_at}
use Rattle.s38_image.specs.PartPlaces.{ceiling_key}
use Rattle.s38_image.specs.Images.{image_parts}
use Rattle.s38_base.specs.declared.page.Change.{Change}
use Rattle.s38_page_diff.specs.Differences.{IsWanted}
use Rattle.s38_page_diff.specs.reconcile.Replacing.{range_of}
use Rattle.s38_page_diff.specs.reconcile.Walking.{AreAt}
use Rattle.s38_objects.specs.Lawful.{IsObjectMap, number_of}
use Rattle.s38_rules.specs.state.Held.{Held}
use Rattle.s38_rules.specs.declared.object.Object.{Object}
use Rattle.s38_vault.specs.Content.{Content}
use Rattle.s38_vault.specs.Directory.{Keys}

-- of an object among others
module _ (units : UnitMap) (h : Held) (lawful : IsObjectMap h) (small : h.next ≤ ceiling_key) (numbers : All (λ o. 1 ≤ o.number.0) h.objects) where
  pub among_low : (o : Object) → IsAmong h.objects o → o.number.0 < ceiling_key
  among_low o at = omega (arith, at_place (λ x. number_of x < h.next) h.objects at.before at.behind o lawful.given at.all, small)

  pub among_from : (o : Object) → IsAmong h.objects o → 1 ≤ o.number.0
  among_from o at = at_place (λ x. 1 ≤ x.number.0) h.objects at.before at.behind o numbers at.all

  pub among_parts : (o : Object) → IsAmong h.objects o → parts_at (closing units h) o.number.0 ≡ image_parts (whole_stored units h o)
  among_parts o at = whole_at units h at.before at.behind o at.all (subst AreSorted at.all (sorted_by h.objects lawful.rising)) (among_low o at)

  module _ {gone rest : List Object} {o : Object} {done : ℕ} (next : IsNext h gone rest o done) where
    pub next_among : IsAmong h.objects o
    next_among = record { before = gone; behind = rest; all = next.all }

    pub next_above : done < o.number.0
    next_above =
        let below = below_next gone rest o (subst AreSorted next.all (sorted_by h.objects lawful.rising)) in
        omega (arith, next.last, last_below gone o.number.0 (among_from o next_among) below)

    pub next_gap : (k : ℕ) → done < k → k < o.number.0 → parts_at (closing units h) k ≡ []
    next_gap k above below =
        nothing_between units h gone rest o done k next.all (subst AreSorted next.all (sorted_by h.objects lawful.rising)) next.last (among_low o next_among) above below

-- what is true of all is true of one among them
pub among_all : (P : Object → Type 0) (os : List Object) (o : Object) → IsAmong os o → All P os → P o
among_all P os o at all = at_place P os at.before at.behind o all at.all

-- the same changes of a vault that is as it was
pub at_moved : (keys more : Keys) (holds now : Content → Type 0) (n : ℕ) (wanted old new : List Change) → more ≡ keys → ((m : Content) → holds m → now m) → AreAt more now n wanted old new → AreAt keys holds n wanted old new
at_moved keys more holds now n wanted old new same to at =
    subst (λ (ks : Keys). AreAt ks holds n wanted old new) same (record { told = λ m h. at.told m (to m h); pages = at.pages; have = at.have; read = at.read })

-- ---- the journal space that is kept with it

module _ (keys : Keys) (holds : Content → Type 0) (wants : ℕ → List Change) (n : ℕ) (between new : List Change) where
  pub adds_none : (journal : Option ℕ) → journal ≡ None → new ≡ between → AddsNumber keys holds wants journal n between new
  adds_none journal none same = subst (λ (j : Option ℕ). AddsNumber keys holds wants j n between new) (sym none) same

  pub adds_some : (journal : Option ℕ) (j : ℕ) → journal ≡ Some j → n < j → IsWanted (range_of j) (wants j) → AreAt keys holds j (wants j) between new → AddsNumber keys holds wants journal n between new
  adds_some journal j some less is at = subst (λ (j : Option ℕ). AddsNumber keys holds wants j n between new) (sym some) (less, (is, at))

nothing_more : (between rest new : List Change) → new ≡ between ++ rest → nat_lt (length between) (length new) ≡ false → new ≡ between
nothing_more between [] new is none = is ∙ append-nil between
nothing_more between (c ∷ rest) new is none = absurd (more (length between) (length rest) (length new) (ap length is ∙ length-append between (c ∷ rest)) none)
  where
    more : (a b d : ℕ) → d ≡ a + suc b → nat_lt a d ≡ false → ⊥
    more a b d is none = grind (arith, nat_tests)

-- where no more is there, nothing was added
pub none_more : (between rest new : List Change) (before now : ℕ) → new ≡ between ++ rest → before ≡ length between → now ≡ length new → nat_lt before now ≡ false → new ≡ between
none_more between rest new before now is first last none = nothing_more between rest new is ((λ i. nat_lt (sym first i) (sym last i)) ∙ none)
