-- Drawing a ticket keeps the rule.
use Rattle.std.proofs.Common.{◌≡◌, ◌≢◌, ℕ, ◌+◌, ◌<◌, ◌≤◌, ◌==◌, Bool, true, false, List, refl, sym, ap, ◌∙◌, subst, inl, inr, ⊎_elim, arith, Option, true≢false, slice_index, slice_set, eq-eqb}
use mathlib.Core.Option.{some, none}
use native.Mathlib.Decide.{ℕ_discrete}
use mathlib.Core.Logic.{dite}
use lib.ListN.{get_elem?}
use lib.Seq.{set-get_or}
use prog.Atomic.{either}
use Rattle.std.proofs.lemmas.Bool.Decides.{nat_tests}
use Rattle.atomic_table.specs.Table.{State, step, Act, keeps, stepped, Valid, carried_after, Allows}
use Rattle.atomic_table.proofs.Lists.{set_again, set_here}
use Rattle.s38_turn.specs.declared.item.Item.{Item}
use Rattle.s38_turn.specs.declared.view.Place.{Place}
use Rattle.s38_turn.specs.declared.view.Place.TheVariants.{Idle, Waits, Acts}
use Rattle.s38_turn.specs.declared.view.View.{View}
use Rattle.s38_turn.specs.Lists.{has}
use Rattle.s38_turn.specs.Plays.{Mine, Drew, DrewIf, placed}
use Rattle.s38_turn.specs.Rule.{IsKept, IsPlaced, IsSpent, IsThere, IsView, has_ticket, is_acting}
use Rattle.s38_turn.proofs.ViewLaws.{at, at_here, at_else, each_set, in_list, slot_set, there_set, ticket_set}

-- a further ticket is drawn
draw_place : (drawer : ℕ → ℕ) (served next me : ℕ) (log : List Item) (id : ℕ) (seen : List Item) (p : Place) → IsPlaced drawer served next log id seen p → IsPlaced (at next me drawer) served (next + 1) log id seen p
draw_place drawer served next me log id seen Idle h = tt
draw_place drawer served next me log id seen (Waits t) h = let lt = h.2 in (at_else next me drawer t (λ e. omega (arith, e)) ∙ h.0, h.1, omega arith)
draw_place drawer served next me log id seen (Acts t) h = let lt = h.2 in let is = h.1 in (at_else next me drawer t (λ e. omega (arith, e)) ∙ h.0, h.1, omega arith, h.3)

module _ (M : Type 0) (first : M) (people : ℕ) (good : M → Type 0) (all : M → List Item) where
  abbrev Rule : State (Option M) (View M) → Type 0
  Rule = IsKept first people good all

  draw_view : (owner drawer : ℕ → ℕ) (served next me : ℕ) (log : List Item) (id : ℕ) (v : View M) → IsView first people owner drawer served next log id v → IsView first people owner (at next me drawer) served (next + 1) log id v
  draw_view owner drawer served next me log id v h = record {
    first = h.first;
    seen = h.seen;
    people_are = h.people_are;
    owner_is = h.owner_is;
    own = h.own;
    busy = h.busy;
    place = draw_place drawer served next me log id v.seen v.place h.place;
  }

  -- the view that has drawn
  drew_view : (owner drawer : ℕ → ℕ) (served next : ℕ) (log : List Item) (id p : ℕ) (v : View M) → IsView first people owner drawer served next log id v → has p v.lists ≡ true → served ≤ next
      → IsView first people owner (at next id drawer) served (next + 1) log id (placed (Waits next) v)
  drew_view owner drawer served next log id p v h has_p le = record {
    first = ⊎_elim (λ e. inl e) (λ (gone : IsSpent v). absurd (true≢false (sym has_p ∙ ap (has p) gone.lists))) h.first;
    seen = h.seen;
    people_are = h.people_are;
    owner_is = h.owner_is;
    own = h.own;
    busy = inr (p, has_p);
    place = (at_here next id drawer, le, omega arith);
  }

  -- each ticket that is out is in a view
  drew_ticket : (views : List (View M)) (drawer : ℕ → ℕ) (served next id : ℕ) (v : View M) → get_elem? views id ≡ some v → v.place ≡ Idle → ((t : ℕ) → served ≤ t → t < next → IsThere views (drawer t) (λ u. has_ticket t u.place ≡ true))
      → (t : ℕ) → served ≤ t → t < next + 1 → IsThere (slice_set views id (placed (Waits next) v)) (at next id drawer t) (λ u. has_ticket t u.place ≡ true)
  drew_ticket views drawer served next id v here idle out t le lt =
      let w : View M = placed (Waits next) v in
      dite (ℕ_discrete t next)
      (λ (e : t ≡ next). subst (λ (n : ℕ). IsThere (slice_set views id w) (at next id drawer n) (λ u. has_ticket n u.place ≡ true)) (sym e)
      (w, ap (get_elem? (slice_set views id w)) (at_here next id drawer) ∙ set_here views id w (in_list views v id here), eq-eqb next next refl))
      (λ (ne : t ≢ next). subst (λ (j : ℕ). IsThere (slice_set views id w) j (λ u. has_ticket t u.place ≡ true)) (sym (at_else next id drawer t ne))
      (ticket_set views id v w t (drawer t) here idle (out t le (omega (arith, lt, ne)))))

  drawn : (id : ℕ) (v : View M) (p : ℕ) (s : State (Option M) (View M)) (kept : Rule s) → get_elem? s.views id ≡ some v → v.place ≡ Idle → has p v.lists ≡ true
      → Rule record { words = slice_set s.words 0 (kept.next + 1); homes = s.homes; views = slice_set s.views id (placed (Waits kept.next) v) }
  drawn id v p s kept here idle has_p =
      let w : View M = placed (Waits kept.next) v in
      let le = kept.behind in record {
        log = kept.log;
        next = kept.next + 1;
        served = kept.served;
        owner = kept.owner;
        drawer = at kept.next id kept.drawer;
        words = ap (λ (ws : List ℕ). slice_set ws 0 (kept.next + 1)) kept.words;
        behind = omega (arith, le);
        each = each_set (λ j u. IsView first people kept.owner (at kept.next id kept.drawer) kept.served (kept.next + 1) kept.log j u) s.views id w
            (drew_view kept.owner kept.drawer kept.served kept.next kept.log id p v (kept.each id v here) has_p kept.behind)
            (λ j u ne e. draw_view kept.owner kept.drawer kept.served kept.next id kept.log j u (kept.each j u e));
        tickets = drew_ticket s.views kept.drawer kept.served kept.next id v here idle kept.tickets;
        processes = λ q h. there_set (λ u. has q u.lists ≡ true) s.views id v w (kept.owner q) here (λ is. is) (kept.processes q h);
        others = kept.others;
        slot = slot_set good all kept.log s.views s.homes id v w here (ap is_acting idle) refl kept.slot;
      }

  -- a step that changes nothing
  pub same : (id : ℕ) (v : View M) (s : State (Option M) (View M)) (i : ℕ) → Rule s → get_elem? s.views id ≡ some v
      → Rule record { words = slice_set s.words i (slice_index s.words i); homes = s.homes; views = slice_set s.views id v }
  same id v s i kept here = subst (λ (x : List ℕ × List (View M)). Rule record { words = x.0; homes = s.homes; views = x.1 }) (λ k. (sym (set-get_or s.words i 0) k, sym (set_again s.views id v here) k)) kept

  -- what the step owes for one way that the words compare
  abbrev Owes : (id : ℕ) (mine : Mine M) (old : ℕ) (s : State (Option M) (View M)) → Bool → Type 0
  Owes id mine old s b = (w : View M) × (a : Act (Option M)) × Valid s.homes mine.1 a
      × Rule (stepped s 0 (either b (old + 1) (slice_index s.words 0)) id mine.1 w a) × DrewIf b old mine (w, carried_after mine.1 a)

  draws_by : (id : ℕ) (mine : Mine M) (old p : ℕ) → mine.0.place ≡ Idle → has p mine.0.lists ≡ true → (s : State (Option M) (View M)) → Rule s → get_elem? s.views id ≡ some mine.0
      → (b : Bool) → (slice_index s.words 0 == old) ≡ b → Owes id mine old s b
  draws_by id mine old p idle has_p s kept here true is =
      let found : kept.next ≡ old = ap (λ (ws : List ℕ). slice_index ws 0) (sym kept.words) ∙ grind (arith, nat_tests) in
      subst (λ (n : ℕ). Owes id mine n s true) found (placed (Waits kept.next) mine.0, keeps, tt, drawn id mine.0 p s kept here idle has_p, refl)
  draws_by id mine old p idle has_p s kept here false is = (mine.0, keeps, tt, same id mine.0 s 0 kept here, refl)

  pub draws : (slots id : ℕ) (mine : Mine M) (old p : ℕ) → mine.0.place ≡ Idle → has p mine.0.lists ≡ true
      → Allows Rule slots id mine 0 (λ n. either (n == old) (old + 1) n) (Drew (step slots 0 old (old + 1) none) mine)
  draws slots id mine old p idle has_p s kept long here small = draws_by id mine old p idle has_p s kept here (slice_index s.words 0 == old) refl
