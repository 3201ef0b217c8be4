-- Views under their numbers, and what stays of them where one changes.
use Rattle.std.proofs.Common.{◌≡◌, ◌≢◌, ◌⊎◌, ℕ, zero, suc, ◌<◌, ◌==◌, Bool, true, false, List, [], ◌∷◌, ◌++◌, length, refl, sym, ap, ◌∙◌, subst, inl, inr, ⊎_elim, arith, Option, if◌then◌else◌, eq-eqb, ne_eqb, true≢false, slice_set}
use mathlib.Core.Option.{some, none, some-injective, some-ne-none}
use mathlib.Core.Option as maybe
use native.Mathlib.Decide.{ℕ_discrete}
use mathlib.Core.Logic.{dite}
use lib.ListN.{get_elem?}
use Rattle.atomic_table.proofs.Lists.{at_set, set_here, set_else, at_longer}
use Rattle.s38_turn.specs.declared.item.Item.{Item}
use Rattle.s38_turn.specs.declared.view.Place.{Place}
use Rattle.s38_turn.specs.declared.view.Place.TheVariants.{Idle, Waits, Acts}
use Rattle.s38_turn.specs.declared.view.View.{View}
use Rattle.s38_turn.specs.Rule.{IsAway, IsHome, IsPlaced, IsThere, has_ticket, is_acting}

-- ---- numbers by numbers

-- f, but y at x
abbrev pub at : ℕ → ℕ → (ℕ → ℕ) → ℕ → ℕ
at x y f n = if n == x then y else f n

pub at_here : (x y : ℕ) (f : ℕ → ℕ) → at x y f x ≡ y
at_here x y f = ap (λ b. if b then y else f x) (eq-eqb x x refl)

pub at_else : (x y : ℕ) (f : ℕ → ℕ) (n : ℕ) → n ≢ x → at x y f n ≡ f n
at_else x y f n ne = ap (λ b. if b then y else f n) (ne_eqb n x ne)

-- f, but y for x
abbrev pub for : ℕ → ℕ → (ℕ → ℕ) → ℕ → ℕ
for x y f n = if f n == x then y else f n

pub for_here : (x y : ℕ) (f : ℕ → ℕ) (n : ℕ) → f n ≡ x → for x y f n ≡ y
for_here x y f n e = ap (λ b. if b then y else f n) (eq-eqb (f n) x e)

pub for_else : (x y : ℕ) (f : ℕ → ℕ) (n : ℕ) → f n ≢ x → for x y f n ≡ f n
for_else x y f n ne = ap (λ b. if b then y else f n) (ne_eqb (f n) x ne)

-- ---- places

abbrev is_wait : Place → Type 0
is_wait Idle = ⊥
is_wait (Waits t) = Unit {0}
is_wait (Acts t) = ⊥

pub idle_ne_waits : (t : ℕ) → Waits t ≡ Idle → ⊥
idle_ne_waits t e = subst is_wait e tt

-- who is idle has no ticket
pub idle_has_none : (t : ℕ) (p : Place) → p ≡ Idle → has_ticket t p ≡ true → ⊥
idle_has_none t p idle h = true≢false (sym h ∙ ap (has_ticket t) idle)

-- who acts has the ticket that is served
pub acts_own : (drawer : ℕ → ℕ) (served next : ℕ) (log : List Item) (id : ℕ) (seen : List Item) (p : Place) → is_acting p ≡ true → IsPlaced drawer served next log id seen p → drawer served ≡ id
acts_own drawer served next log id seen Idle a h = absurd (true≢false (sym a))
acts_own drawer served next log id seen (Waits t) a h = absurd (true≢false (sym a))
acts_own drawer served next log id seen (Acts t) a h = ap drawer (sym h.1) ∙ h.0

-- who has not the ticket that is served does not act
pub quiet : (drawer : ℕ → ℕ) (served next : ℕ) (log : List Item) (me id : ℕ) (seen : List Item) (p : Place) → IsPlaced drawer served next log id seen p → id ≢ me → drawer served ≡ me → (b : Bool) → is_acting p ≡ b → is_acting p ≡ false
quiet drawer served next log me id seen p h other own true is = absurd (other (sym (acts_own drawer served next log id seen p is h) ∙ own))
quiet drawer served next log me id seen p h other own false is = is

-- ---- lists under numbers

module _ {A : Type 0} where
  pub at_end : (l : List A) (a b : A) (j : ℕ) → get_elem? (l ++ a ∷ []) j ≡ some b → (get_elem? l j ≡ some b) ⊎ ((j ≡ length l) × (a ≡ b))
  at_end [] a b zero e = inr (refl, some-injective a b e)
  at_end [] a b (suc j) e = absurd (some-ne-none b (sym e))
  at_end (x ∷ xs) a b zero e = inl e
  at_end (x ∷ xs) a b (suc j) e = ⊎_elim (λ t. inl t) (λ t. inr (ap suc t.0, t.1)) (at_end xs a b j e)

  pub in_list : (l : List A) (a : A) (j : ℕ) → get_elem? l j ≡ some a → j < length l
  in_list [] a j e = absurd (some-ne-none a (sym e))
  in_list (x ∷ xs) a zero e = omega arith
  in_list (x ∷ xs) a (suc j) e = let more = in_list xs a j e in omega arith

-- ---- views

module _ {M : Type 0} where
  pub each_set : (P : ℕ → View M → Type 0) (views : List (View M)) (id : ℕ) (w : View M) → P id w → ((j : ℕ) (v : View M) → j ≢ id → get_elem? views j ≡ some v → P j v)
      → (j : ℕ) (v : View M) → get_elem? (slice_set views id w) j ≡ some v → P j v
  each_set P views id w mine others j v e = ⊎_elim (λ (t : (j ≡ id) × (w ≡ v)). subst (λ (x : ℕ × View M). P x.0 x.1) (λ i. (sym t.0 i, t.1 i)) mine)
      (λ (t : (j ≢ id) × (get_elem? views j ≡ some v)). others j v t.0 t.1) (at_set views id j w v e)

  pub each_end : (P : ℕ → View M → Type 0) (views : List (View M)) (w : View M) → P (length views) w → ((j : ℕ) (v : View M) → get_elem? views j ≡ some v → P j v)
      → (j : ℕ) (v : View M) → get_elem? (views ++ w ∷ []) j ≡ some v → P j v
  each_end P views w mine others j v e = ⊎_elim (λ (t : get_elem? views j ≡ some v). others j v t)
      (λ (t : (j ≡ length views) × (w ≡ v)). subst (λ (x : ℕ × View M). P x.0 x.1) (λ i. (sym t.0 i, t.1 i)) mine) (at_end views w v j e)

  pub one_view : (views : List (View M)) (i j : ℕ) (v w : View M) → i ≡ j → get_elem? views i ≡ some v → get_elem? views j ≡ some w → v ≡ w
  one_view views i j v w e a b = some-injective v w (sym a ∙ (ap (get_elem? views) e ∙ b))

  -- what some view is, some view still is, where one view changes and is it still
  pub there_set : (Is : View M → Type 0) (views : List (View M)) (id : ℕ) (v w : View M) (j : ℕ) → get_elem? views id ≡ some v → (Is v → Is w) → IsThere views j Is → IsThere (slice_set views id w) j Is
  there_set Is views id v w j here still h = dite (ℕ_discrete j id)
      (λ (e : j ≡ id). (w, ap (get_elem? (slice_set views id w)) e ∙ set_here views id w (in_list views v id here), still (subst Is (one_view views j id h.0 v e h.1 here) h.2)))
      (λ (ne : j ≢ id). (h.0, set_else views id j w ne ∙ h.1, h.2))

  pub there_end : (Is : View M → Type 0) (views : List (View M)) (w : View M) (j : ℕ) → IsThere views j Is → IsThere (views ++ w ∷ []) j Is
  there_end Is views w j h = (h.0, at_longer views (w ∷ []) j h.0 h.1, h.2)

  -- no idle view becomes the one with a ticket
  pub ticket_set : (views : List (View M)) (id : ℕ) (v w : View M) (t j : ℕ) → get_elem? views id ≡ some v → v.place ≡ Idle → IsThere views j (λ u. has_ticket t u.place ≡ true) → IsThere (slice_set views id w) j (λ u. has_ticket t u.place ≡ true)
  ticket_set views id v w t j here idle h = there_set (λ u. has_ticket t u.place ≡ true) views id v w j here (λ is. absurd (idle_has_none t v.place idle is)) h

  abbrev pub Slot : (M → Type 0) → (M → List Item) → List Item → List (View M) → List (maybe.Option (Option M)) → Type 0
  Slot good all log views homes = IsHome good all log views homes ⊎ IsAway views homes

  -- the slot is as it was where a view that does not act changes
  pub slot_set : (good : M → Type 0) (all : M → List Item) (log : List Item) (views : List (View M)) (homes : List (maybe.Option (Option M))) (id : ℕ) (v w : View M) → get_elem? views id ≡ some v → is_acting v.place ≡ false → is_acting w.place ≡ false
      → Slot good all log views homes → Slot good all log (slice_set views id w) homes
  slot_set good all log views homes id v w here idle idle' (inl h) = inl (h.0, h.1, h.2, h.3, each_set (λ j u. is_acting u.place ≡ false) views id w idle' (λ j u ne e. h.4 j u e))
  slot_set good all log views homes id v w here idle idle' (inr h) = inr (h.0, h.1, there_set (λ u. is_acting u.place ≡ true) views id v w h.1 here (λ is. absurd (true≢false (sym is ∙ idle))) h.2)

  pub slot_end : (good : M → Type 0) (all : M → List Item) (log : List Item) (views : List (View M)) (homes : List (maybe.Option (Option M))) (w : View M) → is_acting w.place ≡ false → Slot good all log views homes → Slot good all log (views ++ w ∷ []) homes
  slot_end good all log views homes w idle (inl h) = inl (h.0, h.1, h.2, h.3, each_end (λ j u. is_acting u.place ≡ false) views w idle (λ j u e. h.4 j u e))
  slot_end good all log views homes w idle (inr h) = inr (h.0, h.1, there_end (λ u. is_acting u.place ≡ true) views w h.1 h.2)
