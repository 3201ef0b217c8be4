-- Giving the turn on keeps the rule.
use Rattle.std.proofs.Common.{◌≡◌, ◌≢◌, ◌⊎◌, ℕ, ◌+◌, ◌≤◌, ◌==◌, Bool, true, false, List, [], ◌∷◌, refl, sym, ap, ◌∙◌, subst, inl, inr, arith, Option, Some, true≢false, slice_set}
use mathlib.Core.Option.{some, none}
use mathlib.Core.Option as maybe
use lib.ListN.{get_elem?}
use Rattle.std.proofs.lemmas.Bool.Decides.{nat_tests}
use Rattle.atomic_table.specs.Table.{State, step, gives, homes_after, rest, stepped, Allows}
use Rattle.s38_turn.specs.declared.item.Item.{Item}
use Rattle.s38_turn.specs.declared.view.Place.{Place}
use Rattle.s38_turn.specs.declared.view.Place.TheVariants.{Idle, Waits, Acts}
use Rattle.s38_turn.specs.declared.view.View.{View}
use Rattle.s38_turn.specs.Calls.{Grew}
use Rattle.s38_turn.specs.Lists.{has}
use Rattle.s38_turn.specs.Plays.{Mine, Served, in_hand, knowing}
use Rattle.s38_turn.specs.Rule.{IsAway, IsHome, IsKept, IsOneOf, IsPlaced, IsView, has_ticket, is_acting}
use Rattle.s38_turn.proofs.ListLaws.{begins_all, grew_begins, grew_same, in_has, in_same, own_again}
use Rattle.s38_turn.proofs.ViewLaws.{each_set, quiet, there_set}

-- another view has served its ticket
serve_place : (drawer : ℕ → ℕ) (served next me : ℕ) (log log' : List Item) (id : ℕ) (seen : List Item) (p : Place) → drawer served ≡ me → id ≢ me → IsPlaced drawer served next log id seen p → IsPlaced drawer (served + 1) next log' id seen p
serve_place drawer served next me log log' id seen Idle own other h = tt
serve_place drawer served next me log log' id seen (Waits t) own other h =
    let le = h.1 in let apart : t ≢ served = (λ e. other (sym h.0 ∙ (ap drawer e ∙ own))) in (h.0, omega (arith, le, apart), h.2)
serve_place drawer served next me log log' id seen (Acts t) own other h = absurd (other (sym h.0 ∙ (ap drawer h.1 ∙ own)))

-- who is not in a view has no list there
not_true : (b : Bool) → (b ≡ true → ⊥) → b ≡ false
not_true true h = absurd (h refl)
not_true false h = refl

-- the ticket that was served is no later one
served_before : (served t : ℕ) (p : Place) → p ≡ Acts served → served + 1 ≤ t → has_ticket t p ≡ true → ⊥
served_before served t p acts le h = let e : (served == t) ≡ true = sym (ap (has_ticket t) acts) ∙ h in let is : served ≡ t = grind (arith, nat_tests) in omega (arith, le, is)

module _ (M : Type 0) (first : M) (people : ℕ) (good : M → Type 0) (all : M → List Item) where
  abbrev Rule : State (Option M) (View M) → Type 0
  Rule = IsKept first people good all

  -- the view that has served
  knows_view : (owner drawer : ℕ → ℕ) (served next : ℕ) (log new : List Item) (id : ℕ) (v : View M) → IsView first people owner drawer served next log id v → v.first ≡ Some first
      → IsView first people owner drawer (served + 1) next new id (knowing new v)
  knows_view owner drawer served next log new id v h first_is = record {
    first = inl first_is;
    seen = begins_all new;
    people_are = λ q hq. h.people_are q (sym (in_has q new v.lists) ∙ hq);
    owner_is = λ q hq. h.owner_is q (sym (in_has q new v.lists) ∙ hq);
    own = own_again new v.lists;
    busy = inl refl;
    place = tt;
  }

  -- the others, of whose processes nothing is added
  other_view : (owner drawer : ℕ → ℕ) (served next : ℕ) (log new : List Item) (me p id : ℕ) (v : View M) → IsView first people owner drawer served next log id v → Grew p log new → owner p ≡ me → id ≢ me → drawer served ≡ me
      → IsView first people owner drawer (served + 1) next new id v
  other_view owner drawer served next log new me p id v h grew own other mine = record {
    first = h.first;
    seen = grew_begins p log new v.seen grew h.seen;
    people_are = h.people_are;
    owner_is = h.owner_is;
    own = in_same p log new v.lists grew (not_true (has p v.lists) (λ hp. other (sym (h.owner_is p hp) ∙ own))) ∙ h.own;
    busy = h.busy;
    place = serve_place drawer served next me log new id v.seen v.place mine other h.place;
  }

  -- who acts is in the way of a machine at home
  away : (log : List Item) (id : ℕ) (v : View M) (s : State (Option M) (View M)) → get_elem? s.views id ≡ some v → is_acting v.place ≡ true → IsHome good all log s.views s.homes ⊎ IsAway s.views s.homes → s.homes ≡ none ∷ []
  away log id v s here acts (inl h) = absurd (true≢false (sym acts ∙ h.4 id v here))
  away log id v s here acts (inr h) = h.0

  -- the slot is given back
  given : (id p : ℕ) (v : View M) (s : State (Option M) (View M)) (kept : Rule s) (m : M) → get_elem? s.views id ≡ some v → v.first ≡ Some first → v.place ≡ Acts kept.served → has p v.lists ≡ true → good m → Grew p v.seen (all m)
      → Rule (stepped s 1 (kept.served + 1) id ((0, Some m) ∷ []) (knowing (all m) v) gives)
  given id p v s kept m here first_is acts has_p fine grew_seen =
      let mine = kept.each id v here in
      let stands : IsPlaced kept.drawer kept.served kept.next kept.log id v.seen (Acts kept.served) = subst (λ (z : Place). IsPlaced kept.drawer kept.served kept.next kept.log id v.seen z) acts mine.place in
      let grew : Grew p kept.log (all m) = subst (λ (z : List Item). Grew p z (all m)) (sym stands.3) grew_seen in
      let w : View M = knowing (all m) v in
      let lt = stands.2 in
      record {
        log = all m;
        next = kept.next;
        served = kept.served + 1;
        owner = kept.owner;
        drawer = kept.drawer;
        words = ap (λ (ws : List ℕ). slice_set ws 1 (kept.served + 1)) kept.words;
        behind = omega (arith, lt);
        each = each_set (λ j u. IsView first people kept.owner kept.drawer (kept.served + 1) kept.next (all m) j u) s.views id w
            (knows_view kept.owner kept.drawer kept.served kept.next kept.log (all m) id v mine first_is)
            (λ j u ne e. other_view kept.owner kept.drawer kept.served kept.next kept.log (all m) id p j u (kept.each j u e) grew (mine.owner_is p has_p) ne stands.0);
        tickets = λ t le lt. there_set (λ u. has_ticket t u.place ≡ true) s.views id v w (kept.drawer t) here (λ is. absurd (served_before kept.served t v.place acts le is)) (kept.tickets t (omega (arith, le)) lt);
        processes = λ q h. there_set (λ u. has q u.lists ≡ true) s.views id v w (kept.owner q) here (λ is. in_has q (all m) v.lists ∙ is) (kept.processes q h);
        others = λ q h. grew_same p q kept.log (all m) (λ e. h (subst (IsOneOf people) (sym e) (mine.people_are p has_p))) grew ∙ kept.others q h;
        slot = inl (
          m,
          ap (λ (hs : List (maybe.Option (Option M))). homes_after hs ((0, Some m) ∷ []) gives) (away kept.log id v s here (ap is_acting acts) kept.slot),
          fine,
          refl,
          each_set (λ j u. is_acting u.place ≡ false) s.views id w refl
              (λ j u ne e. quiet kept.drawer kept.served kept.next kept.log id j u.seen u.place (kept.each j u e).place ne stands.0 (is_acting u.place) refl),
        );
      }

  pub serves : (slots id : ℕ) (mine : Mine M) (ticket p : ℕ) (m : M) → mine.0.first ≡ Some first → mine.0.place ≡ Acts ticket → mine.1 ≡ (0, Some m) ∷ [] → has p mine.0.lists ≡ true → good m → Grew p mine.0.seen (all m)
      → Allows Rule slots id mine 1 (λ _. ticket + 1) (λ _. Served all (step slots 1 (ticket + 1) 0 none) mine (ticket + 1))
  serves slots id mine ticket p m first_is acts hand has_p fine grew s kept long here small =
      let stands : IsPlaced kept.drawer kept.served kept.next kept.log id mine.0.seen (Acts ticket) = subst (λ (z : Place). IsPlaced kept.drawer kept.served kept.next kept.log id mine.0.seen z) acts (kept.each id mine.0 here).place in (
        knowing (all m) mine.0,
        gives,
        tt,
        subst (λ (x : ℕ × List (ℕ × Option M)). Rule (stepped s 1 (x.0 + 1) id x.1 (knowing (all m) mine.0) gives)) (λ k. (sym stands.1 k, sym hand k))
            (given id p mine.0 s kept m here first_is (acts ∙ ap (λ (n : ℕ). Acts n) stands.1) has_p fine grew),
        λ k. (knowing (in_hand all (sym hand k)) mine.0, rest (hand k)),
      )
