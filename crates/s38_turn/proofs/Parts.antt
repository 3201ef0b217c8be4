-- Seats that part, and seats that become one, keep the rule.
use Rattle.std.proofs.Common.{◌≡◌, ◌≢◌, ℕ, true, List, [], ◌∷◌, ◌++◌, length, refl, sym, ap, ◌∙◌, subst, inl, inr, ⊎_elim, Option, Some, true≢false, slice_set}
use mathlib.Core.Option.{some}
use native.Mathlib.Decide.{ℕ_discrete}
use mathlib.Core.Logic.{dite}
use lib.ListN.{get_elem?}
use Rattle.atomic_table.specs.Table.{State, Splits, Joins}
use Rattle.atomic_table.proofs.Lists.{at_last, set_else, set_here}
use Rattle.s38_turn.specs.declared.item.Item.{Item}
use Rattle.s38_turn.specs.declared.view.Place.TheVariants.{Idle}
use Rattle.s38_turn.specs.declared.view.View.{View}
use Rattle.s38_turn.specs.Lists.{has, list_with, only, without}
use Rattle.s38_turn.specs.Plays.{left_with, parted, spent, united}
use Rattle.s38_turn.specs.Rule.{IsKept, IsOneOf, IsThere, IsView, has_ticket, is_acting}
use Rattle.s38_turn.proofs.ListLaws.{has_either, has_first, has_left, has_second, has_still, in_append, in_without, longer_begins, only_has, only_one, own_list}
use Rattle.s38_turn.proofs.ViewLaws.{at, at_else, at_here, each_end, each_set, for, for_else, for_here, in_list, one_view, slot_end, slot_set, there_end, there_set, ticket_set}

module _ (M : Type 0) (first : M) (people : ℕ) (good : M → Type 0) (all : M → List Item) where
  abbrev Rule : State (Option M) (View M) → Type 0
  Rule = IsKept first people good all

  -- ---- split

  left_view : (owner drawer : ℕ → ℕ) (served next : ℕ) (log : List Item) (id p n : ℕ) (v : View M) → IsView first people owner drawer served next log id v → v.first ≡ Some first → v.place ≡ Idle
      → IsView first people (at p n owner) drawer served next log id (left_with p v)
  left_view owner drawer served next log id p n v h first_is idle = record {
    first = inl first_is;
    seen = h.seen;
    people_are = λ q hq. h.people_are q (has_left q p v.lists hq).1;
    owner_is = λ q hq. let t = has_left q p v.lists hq in at_else p n owner q t.0 ∙ h.owner_is q t.1;
    own = in_without log p v.lists ∙ ap (without p) h.own;
    busy = inl idle;
    place = h.place;
  }

  new_view : (owner drawer : ℕ → ℕ) (served next : ℕ) (log : List Item) (id p n : ℕ) (v : View M) → IsView first people owner drawer served next log id v → v.first ≡ Some first → has p v.lists ≡ true
      → IsView first people (at p n owner) drawer served next log n (parted p v)
  new_view owner drawer served next log id p n v h first_is has_p = record {
    first = inl first_is;
    seen = h.seen;
    people_are = λ q hq. subst (IsOneOf people) (sym (only_has q p v.lists hq)) (h.people_are p has_p);
    owner_is = λ q hq. ap (at p n owner) (only_has q p v.lists hq) ∙ at_here p n owner;
    own = ap (λ (z : List Item). list_with p z ∷ []) (own_list p log v.lists h.own has_p);
    busy = inl refl;
    place = tt;
  }

  third_view : (owner drawer : ℕ → ℕ) (served next : ℕ) (log : List Item) (me p n id : ℕ) (v : View M) → IsView first people owner drawer served next log id v → owner p ≡ me → id ≢ me
      → IsView first people (at p n owner) drawer served next log id v
  third_view owner drawer served next log me p n id v h mine other = record {
    first = h.first;
    seen = h.seen;
    people_are = h.people_are;
    owner_is = λ q hq. at_else p n owner q (λ e. other (sym (h.owner_is q hq) ∙ (ap owner e ∙ mine))) ∙ h.owner_is q hq;
    own = h.own;
    busy = h.busy;
    place = h.place;
  }

  -- each process is still in a view
  split_process : (views : List (View M)) (owner : ℕ → ℕ) (id p : ℕ) (v : View M) → get_elem? views id ≡ some v → (q : ℕ) → IsThere views (owner q) (λ u. has q u.lists ≡ true)
      → IsThere (slice_set views id (left_with p v) ++ parted p v ∷ []) (at p (length (slice_set views id (left_with p v))) owner q) (λ u. has q u.lists ≡ true)
  split_process views owner id p v here q there =
      let most : List (View M) = slice_set views id (left_with p v) in
      let Is : View M → Type 0 = (λ u. has q u.lists ≡ true) in
      dite (ℕ_discrete q p)
      (λ (e : q ≡ p). (parted p v, ap (get_elem? (most ++ parted p v ∷ [])) (ap (at p (length most) owner) e ∙ at_here p (length most) owner) ∙ at_last most (parted p v) (length most) refl, ap (λ (z : ℕ). has z (only p v.lists)) e ∙ only_one p v.lists))
      (λ (ne : q ≢ p). subst (λ (j : ℕ). IsThere (most ++ parted p v ∷ []) j Is) (sym (at_else p (length most) owner q ne))
      (there_end Is most (parted p v) (owner q) (there_set Is views id v (left_with p v) (owner q) here (λ is. has_still q p v.lists ne is) there)))

  pub splits : (id : ℕ) (v : View M) (p : ℕ) → v.first ≡ Some first → v.place ≡ Idle → has p v.lists ≡ true → Splits Rule id v (left_with p v) (parted p v)
  splits id v p first_is idle has_p s kept here =
      let mine = kept.each id v here in
      let most : List (View M) = slice_set s.views id (left_with p v) in
      let n : ℕ = length most in
      let own_p : kept.owner p ≡ id = mine.owner_is p has_p in
      record {
        log = kept.log;
        next = kept.next;
        served = kept.served;
        owner = at p n kept.owner;
        drawer = kept.drawer;
        words = kept.words;
        behind = kept.behind;
        each = each_end (λ j u. IsView first people (at p n kept.owner) kept.drawer kept.served kept.next kept.log j u) most (parted p v)
            (new_view kept.owner kept.drawer kept.served kept.next kept.log id p n v mine first_is has_p)
            (each_set (λ j u. IsView first people (at p n kept.owner) kept.drawer kept.served kept.next kept.log j u) s.views id (left_with p v)
            (left_view kept.owner kept.drawer kept.served kept.next kept.log id p n v mine first_is idle)
            (λ j u ne e. third_view kept.owner kept.drawer kept.served kept.next kept.log id p n j u (kept.each j u e) own_p ne));
        tickets = λ t le lt. there_end (λ u. has_ticket t u.place ≡ true) most (parted p v) (kept.drawer t) (ticket_set s.views id v (left_with p v) t (kept.drawer t) here idle (kept.tickets t le lt));
        processes = λ q h. split_process s.views kept.owner id p v here q (kept.processes q h);
        others = kept.others;
        slot = slot_end good all kept.log most s.homes (parted p v) refl (slot_set good all kept.log s.views s.homes id v (left_with p v) here (ap is_acting idle) (ap is_acting idle) kept.slot);
      }

  -- ---- join

  united_view : (owner drawer : ℕ → ℕ) (served next : ℕ) (log : List Item) (id other : ℕ) (v w : View M) → IsView first people owner drawer served next log id v → IsView first people owner drawer served next log other w → v.first ≡ Some first
      → other ≢ id → IsView first people (for other id owner) drawer served next log id (united v w)
  united_view owner drawer served next log id other v w h k first_is apart = record {
    first = inl first_is;
    seen = longer_begins v.seen w.seen log h.seen k.seen;
    people_are = λ q hq. ⊎_elim (λ a. h.people_are q a) (λ b. k.people_are q b) (has_either q v.lists w.lists hq);
    owner_is = λ q hq. ⊎_elim (λ a. for_else other id owner q (λ e. apart (sym e ∙ h.owner_is q a)) ∙ h.owner_is q a) (λ b. for_here other id owner q (k.owner_is q b)) (has_either q v.lists w.lists hq);
    own = in_append log v.lists w.lists ∙ (λ i. h.own i ++ k.own i);
    busy = inl refl;
    place = tt;
  }

  spent_view : (owner drawer : ℕ → ℕ) (served next : ℕ) (log : List Item) (id : ℕ) → IsView first people owner drawer served next log id spent
  spent_view owner drawer served next log id = record {
    first = inr record { first = refl; place = refl; seen = refl; lists = refl };
    seen = (log, refl);
    people_are = λ q hq. absurd (true≢false (sym hq));
    owner_is = λ q hq. absurd (true≢false (sym hq));
    own = refl;
    busy = inl refl;
    place = tt;
  }

  joined_view : (owner drawer : ℕ → ℕ) (served next : ℕ) (log : List Item) (me other id : ℕ) (v : View M) → IsView first people owner drawer served next log id v → id ≢ other
      → IsView first people (for other me owner) drawer served next log id v
  joined_view owner drawer served next log me other id v h apart = record {
    first = h.first;
    seen = h.seen;
    people_are = h.people_are;
    owner_is = λ q hq. for_else other me owner q (λ e. apart (sym (h.owner_is q hq) ∙ e)) ∙ h.owner_is q hq;
    own = h.own;
    busy = h.busy;
    place = h.place;
  }

  -- each process is still in a view
  joined_process : (views : List (View M)) (owner : ℕ → ℕ) (id other : ℕ) (v w : View M) → get_elem? views id ≡ some v → get_elem? views other ≡ some w → other ≢ id → (q : ℕ) → IsThere views (owner q) (λ u. has q u.lists ≡ true)
      → IsThere (slice_set (slice_set views id (united v w)) other spent) (for other id owner q) (λ u. has q u.lists ≡ true)
  joined_process views owner id other v w here there apart q at_q =
      let most : List (View M) = slice_set views id (united v w) in
      let Is : View M → Type 0 = (λ u. has q u.lists ≡ true) in
      dite (ℕ_discrete (owner q) other)
      (λ (e : owner q ≡ other). let theirs : has q w.lists ≡ true = subst Is (one_view views (owner q) other at_q.0 w e at_q.1 there) at_q.2 in
      (united v w, ap (get_elem? (slice_set most other spent)) (for_here other id owner q e) ∙ (set_else most other id spent (λ same. apart (sym same)) ∙ set_here views id (united v w) (in_list views v id here)), has_second q v.lists w.lists theirs))
      (λ (ne : owner q ≢ other). let now = there_set Is views id v (united v w) (owner q) here (λ is. has_first q v.lists w.lists is) at_q in
      (now.0, ap (get_elem? (slice_set most other spent)) (for_else other id owner q ne) ∙ (set_else most other (owner q) spent ne ∙ now.1), now.2))

  pub joins : (id : ℕ) (v : View M) (other : ℕ) (w : View M) → v.first ≡ Some first → v.place ≡ Idle → w.place ≡ Idle → Joins Rule id v other w (united v w) spent
  joins id v other w first_is idle idle' s kept here apart there' =
      let mine = kept.each id v here in
      let most : List (View M) = slice_set s.views id (united v w) in
      let there : get_elem? s.views other ≡ some w = sym (set_else s.views id other (united v w) apart) ∙ there' in
      let theirs = kept.each other w there in
      let to : ℕ → ℕ = for other id kept.owner in
      record {
        log = kept.log;
        next = kept.next;
        served = kept.served;
        owner = to;
        drawer = kept.drawer;
        words = kept.words;
        behind = kept.behind;
        each = each_set (λ j u. IsView first people to kept.drawer kept.served kept.next kept.log j u) most other spent
            (spent_view to kept.drawer kept.served kept.next kept.log other)
            (λ j u ne e. each_set (λ j u. (j ≢ other) → IsView first people to kept.drawer kept.served kept.next kept.log j u) s.views id (united v w)
            (λ _. united_view kept.owner kept.drawer kept.served kept.next kept.log id other v w mine theirs first_is apart)
            (λ j u ne e apart'. joined_view kept.owner kept.drawer kept.served kept.next kept.log id other j u (kept.each j u e) apart') j u e ne);
        tickets = λ t le lt. ticket_set most other w spent t (kept.drawer t) there' idle' (ticket_set s.views id v (united v w) t (kept.drawer t) here idle (kept.tickets t le lt));
        processes = λ q h. joined_process s.views kept.owner id other v w here there apart q (kept.processes q h);
        others = kept.others;
        slot = slot_set good all kept.log most s.homes other w spent there' (ap is_acting idle') refl (slot_set good all kept.log s.views s.homes id v (united v w) here (ap is_acting idle) refl kept.slot);
      }
