-- Looking at the ticket that is served, and taking the turn, keeps the rule.
use Rattle.std.proofs.Common.{◌≡◌, ℕ, ◌==◌, Bool, true, false, List, [], ◌∷◌, append-nil, refl, sym, ap, ◌∙◌, subst, inl, inr, ⊎_elim, arith, Option, Some, true≢false, slice_index, slice_set}
use mathlib.Core.Option.{some, none}
use mathlib.Core.Option as maybe
use lib.ListN.{get_elem?}
use lib.Seq.{set-get_or}
use Rattle.std.proofs.lemmas.Bool.Decides.{nat_tests}
use Rattle.atomic_table.specs.Table.{State, step, Act, keeps, takes, stepped, Valid, carried_after, Allows}
use Rattle.atomic_table.proofs.Lists.{set_here}
use Rattle.s38_turn.specs.declared.item.Item.{Item}
use Rattle.s38_turn.specs.declared.view.Place.{Place}
use Rattle.s38_turn.specs.declared.view.Place.TheVariants.{Idle, Waits}
use Rattle.s38_turn.specs.declared.view.View.{View}
use Rattle.s38_turn.specs.Items.{Begins}
use Rattle.s38_turn.specs.Lists.{has, lists_in}
use Rattle.s38_turn.specs.Plays.{IsLikeFirst, Looked, LookedIf, Mine, acting, is_turn}
use Rattle.s38_turn.specs.Rule.{IsAway, IsHome, IsKept, IsPlaced, IsView, has_ticket, is_acting}
use Rattle.s38_turn.proofs.Draws.{same}
use Rattle.s38_turn.proofs.ViewLaws.{acts_own, each_set, idle_ne_waits, in_list, one_view, there_set}

module _ (M : Type 0) (first : M) (people : ℕ) (like : M → M → Type 0) (all : M → List Item) where
  abbrev Rule : State (Option M) (View M) → Type 0
  Rule = IsKept first people (like first) all

  like_of : (f : Option M) (m : M) → f ≡ Some first → like first m → IsLikeFirst like f m
  like_of f m e h = subst (λ (f : Option M). IsLikeFirst like f m) (sym e) h

  -- a view that has the turn
  acts_view : (owner drawer : ℕ → ℕ) (served next : ℕ) (log : List Item) (id : ℕ) (v : View M) → IsView first people owner drawer served next log id v → v.first ≡ Some first → v.place ≡ Waits served
      → IsView first people owner drawer served next log id (acting served log v)
  acts_view owner drawer served next log id v h first_is waits =
      let stands : IsPlaced drawer served next log id v.seen (Waits served) = subst (λ (p : Place). IsPlaced drawer served next log id v.seen p) waits h.place in record {
        first = inl first_is;
        seen = ([], sym (append-nil log));
        people_are = h.people_are;
        owner_is = h.owner_is;
        own = h.own;
        busy = ⊎_elim (λ (e : v.place ≡ Idle). absurd (idle_ne_waits served (sym waits ∙ e))) (λ b. inr b) h.busy;
        place = (stands.0, refl, stands.2, refl);
      }

  -- the slot is taken
  entered : (id : ℕ) (v : View M) (s : State (Option M) (View M)) (kept : Rule s) (m : M) → s.homes ≡ some (Some m) ∷ [] → get_elem? s.views id ≡ some v → v.first ≡ Some first → v.place ≡ Waits kept.served
      → Rule (stepped s 1 (slice_index s.words 1) id [] (acting kept.served kept.log v) (takes 0 (Some m)))
  entered id v s kept m home here first_is waits =
      let w : View M = acting kept.served kept.log v in record {
        log = kept.log;
        next = kept.next;
        served = kept.served;
        owner = kept.owner;
        drawer = kept.drawer;
        words = set-get_or s.words 1 0 ∙ kept.words;
        behind = kept.behind;
        each = each_set (λ j u. IsView first people kept.owner kept.drawer kept.served kept.next kept.log j u) s.views id w
            (acts_view kept.owner kept.drawer kept.served kept.next kept.log id v (kept.each id v here) first_is waits)
            (λ j u ne e. kept.each j u e);
        tickets = λ t le lt. there_set (λ u. has_ticket t u.place ≡ true) s.views id v w (kept.drawer t) here (λ is. ap (has_ticket t) (sym waits) ∙ is) (kept.tickets t le lt);
        processes = λ q h. there_set (λ u. has q u.lists ≡ true) s.views id v w (kept.owner q) here (λ is. is) (kept.processes q h);
        others = kept.others;
        slot = inr (ap (λ (hs : List (maybe.Option (Option M))). slice_set hs 0 none) home, id, (w, set_here s.views id w (in_list s.views v id here), refl));
      }

  -- what the step owes for one way that the numbers compare
  abbrev Owes : (id : ℕ) (mine : Mine M) (s : State (Option M) (View M)) → Bool → ℕ → Type 0
  Owes id mine s b found = (w : View M) × (a : Act (Option M)) × Valid s.homes mine.1 a × Rule (stepped s 1 (slice_index s.words 1) id mine.1 w a) × LookedIf like all b found mine (w, carried_after mine.1 a)

  took : (id : ℕ) (v : View M) (s : State (Option M) (View M)) (kept : Rule s) → get_elem? s.views id ≡ some v → v.first ≡ Some first → v.place ≡ Waits kept.served → Owes id (v, []) s true kept.served
  took id v s kept here first_is waits =
      let mine = kept.each id v here in
      let stands : IsPlaced kept.drawer kept.served kept.next kept.log id v.seen (Waits kept.served) = subst (λ (p : Place). IsPlaced kept.drawer kept.served kept.next kept.log id v.seen p) waits mine.place in
      ⊎_elim (λ (h : IsHome (like first) all kept.log s.views s.homes).
      let m : M = h.0 in (
        acting kept.served kept.log v,
        takes 0 (Some m),
        subst (λ (hs : List (maybe.Option (Option M))). get_elem? hs 0 ≡ some (some (Some m))) (sym h.1) refl,
        entered id v s kept m h.1 here first_is waits,
        record {
          machine = m;
          is = ap (λ (log : List Item). (acting kept.served log v, (0, Some m) ∷ [])) (sym h.3);
          like_first = like_of v.first m first_is h.2;
          more = subst (λ (z : List Item). Begins v.seen z) (sym h.3) mine.seen;
          own = ap (λ (z : List Item). lists_in z v.lists) h.3 ∙ mine.own;
        },
      ))
      (λ (h : IsAway s.views s.homes).
      let theirs = kept.each h.1 h.2.0 h.2.1 in
      let id_is : h.1 ≡ id = sym (acts_own kept.drawer kept.served kept.next kept.log h.1 h.2.0.seen h.2.0.place h.2.2 theirs.place) ∙ stands.0 in
      absurd (true≢false (sym h.2.2 ∙ ap (λ (u : View M). is_acting u.place) (one_view s.views h.1 id h.2.0 v id_is h.2.1 here) ∙ ap is_acting waits)))
      kept.slot

  looks_by : (id : ℕ) (mine : Mine M) (ticket : ℕ) (s : State (Option M) (View M)) → Rule s → get_elem? s.views id ≡ some mine.0 → mine.0.first ≡ Some first → mine.0.place ≡ Waits ticket → mine.1 ≡ []
      → (b : Bool) → (slice_index s.words 1 == ticket) ≡ b → Owes id mine s b (slice_index s.words 1)
  looks_by id mine ticket s kept here first_is waits hand true is =
      let served_is : kept.served ≡ slice_index s.words 1 = ap (λ (ws : List ℕ). slice_index ws 1) (sym kept.words) in
      let found : slice_index s.words 1 ≡ ticket = grind (arith, nat_tests) in
      subst (λ (x : List (ℕ × Option M) × ℕ). Owes id (mine.0, x.0) s true x.1) (λ k. (sym hand k, served_is k)) (took id mine.0 s kept here first_is (waits ∙ ap (λ (n : ℕ). Waits n) (sym (served_is ∙ found))))
  looks_by id mine ticket s kept here first_is waits hand false is = (mine.0, keeps, tt, same M first people (like first) all id mine.0 s 1 kept here, refl)

  pub looks : (slots id : ℕ) (mine : Mine M) (ticket : ℕ) → mine.0.first ≡ Some first → mine.0.place ≡ Waits ticket → mine.1 ≡ []
      → Allows Rule slots id mine 1 (λ n. n) (Looked like all (step slots 1 0 0 none) mine)
  looks slots id mine ticket first_is waits hand s kept long here small =
      subst (λ (p : Place). Owes id mine s (is_turn (slice_index s.words 1) p) (slice_index s.words 1)) (sym waits)
      (looks_by id mine ticket s kept here first_is waits hand (slice_index s.words 1 == ticket) refl)
