-- The rule holds at the beginning, and what it says at the end.
use Rattle.std.proofs.Common.{◌≡◌, ℕ, Bool, true, false, List, [], ◌∷◌, refl, sym, ap, ◌∙◌, subst, inl, ⊎_elim, arith, Option, Some, true≢false}
use mathlib.Core.Option.{some, none, some-ne-none}
use mathlib.Core.Option as maybe
use lib.ListN.{get_elem?}
use Rattle.atomic_table.specs.Table.{State, Final, Seen, opening}
use Rattle.s38_turn.specs.declared.item.Item.{Item}
use Rattle.s38_turn.specs.declared.view.Place.TheVariants.{Idle}
use Rattle.s38_turn.specs.declared.view.View.{View}
use Rattle.s38_turn.specs.Calls.{Ended}
use Rattle.s38_turn.specs.Items.{Begins, items_by}
use Rattle.s38_turn.specs.Lists.{HasAll, has, list_of}
use Rattle.s38_turn.specs.Plays.{first_view}
use Rattle.s38_turn.specs.Rule.{IsAway, IsHome, IsKept, IsOneOf, IsView, is_acting}
use Rattle.s38_turn.proofs.ListLaws.{empty_all, empty_has, empty_own, no_list, own_list}
use Rattle.s38_turn.proofs.ViewLaws.{each_end, one_view}

module _ (M : Type 0) (first : M) (people : ℕ) (good : M → Type 0) (all : M → List Item) where
  abbrev Rule : State (Option M) (View M) → Type 0
  Rule = IsKept first people good all

  pub starts : good first → all first ≡ [] → Rule (opening (0 ∷ 0 ∷ []) (Some first ∷ []) (first_view first people))
  starts fine none_yet = record {
    log = [];
    next = 0;
    served = 0;
    owner = λ _. 0;
    drawer = λ _. 0;
    words = refl;
    behind = omega arith;
    each = each_end (λ j u. IsView first people (λ _. 0) (λ _. 0) 0 0 [] j u) [] (first_view first people)
        record { first = inl refl; seen = ([], refl); people_are = λ p h. empty_has people p h; owner_is = λ p h. refl; own = empty_own people; busy = inl refl; place = tt }
        (λ j u e. absurd (some-ne-none u (sym e)));
    tickets = λ t le lt. absurd (omega (arith, lt));
    processes = λ p h. (first_view first people, refl, empty_all people p h.0 h.1);
    others = λ p h. refl;
    slot = inl (first, refl, fine, none_yet, each_end (λ j u. is_acting u.place ≡ false) [] (first_view first people) refl (λ j u e. absurd (some-ne-none u (sym e))));
  }

  -- the machine that comes back to a view, in the slot
  pub record InSlot (v : View M) (xs : List (Option M)) : Type 0 where
    pub machine : M
    pub is : get_elem? xs 0 ≡ some (Some machine)
    pub ended : Ended good all v.seen v.lists machine

  -- of each process the history has what its list has
  own_by : (owner drawer : ℕ → ℕ) (served next : ℕ) (log : List Item) (id : ℕ) (v : View M) → IsView first people owner drawer served next log id v → ((p : ℕ) → (IsOneOf people p → ⊥) → items_by p log ≡ []) → HasAll people v.lists
      → (p : ℕ) (b : Bool) → has p v.lists ≡ b → items_by p log ≡ list_of p v.lists
  own_by owner drawer served next log id v h others every p true is = own_list p log v.lists h.own is
  own_by owner drawer served next log id v h others every p false is = others p (λ one. true≢false (sym (every p one.0 one.1) ∙ is)) ∙ sym (no_list p v.lists is)

  -- nobody acts where one idle view has all processes
  none_acts : (id : ℕ) (v : View M) (s : State (Option M) (View M)) (kept : Rule s) → get_elem? s.views id ≡ some v → v.place ≡ Idle → HasAll people v.lists → IsAway s.views s.homes → ⊥
  none_acts id v s kept here idle every h =
      let mine = kept.each id v here in
      let theirs = kept.each h.1 h.2.0 h.2.1 in
      ⊎_elim (λ (e : h.2.0.place ≡ Idle). true≢false (sym h.2.2 ∙ ap is_acting e))
      (λ (b : (p : ℕ) × (has p h.2.0.lists ≡ true)).
      let same_id : h.1 ≡ id = sym (theirs.owner_is b.0 b.1) ∙ mine.owner_is b.0 (every b.0 (theirs.people_are b.0 b.1).0 (theirs.people_are b.0 b.1).1) in
      true≢false (sym h.2.2 ∙ (ap (λ (u : View M). is_acting u.place) (one_view s.views h.1 id h.2.0 v same_id h.2.1 here) ∙ ap is_acting idle)))
      theirs.busy

  at_home : (id : ℕ) (v : View M) (s : State (Option M) (View M)) (kept : Rule s) → get_elem? s.views id ≡ some v → HasAll people v.lists → (h : IsHome good all kept.log s.views s.homes) → Ended good all v.seen v.lists h.0
  at_home id v s kept here every h = let mine = kept.each id v here in record {
    good_is = h.2;
    more = subst (λ (z : List Item). Begins v.seen z) (sym h.3) mine.seen;
    own = λ p. ap (items_by p) h.3 ∙ own_by kept.owner kept.drawer kept.served kept.next kept.log id v mine kept.others every p (has p v.lists) refl;
  }

  pub closes : (id : ℕ) (v : View M) (ws : List ℕ) (xs : List (Option M)) → v.place ≡ Idle → HasAll people v.lists → Final (Seen Rule id v) ws xs → InSlot v xs
  closes id v ws xs idle every f =
      let s = f.0 in let kept = f.1.0 in let here = f.1.1 in
      ⊎_elim (λ (h : IsHome good all kept.log s.views s.homes). record {
        machine = h.0;
        is = f.4 0 (Some h.0) (subst (λ (hs : List (maybe.Option (Option M))). get_elem? hs 0 ≡ some (some (Some h.0))) (sym h.1) refl);
        ended = at_home id v s kept here every h;
      })
      (λ (h : IsAway s.views s.homes). absurd (none_acts id v s kept here idle every h))
      kept.slot
