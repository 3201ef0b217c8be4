-- A call, by its steps: a ticket is drawn, the turn is taken, the machine acts, and the turn is given on.
use Rattle.std.proofs.Common.{◌≡◌, ℕ, true, List, [], ◌∷◌, sym, ap, ◌∙◌, subst, Option, Some, None, Result}
use Rattle.atomic_table.specs.Seated.{TableId}
use Rattle.atomic_table.specs.declared.shared.Seat as table
use Rattle.s38_code.specs.declared.entry.Entry.{Entry}
use Rattle.s38_code.specs.declared.event.Event.{Event}
use Rattle.s38_code.specs.declared.reply.Reply.{Reply}
use Rattle.s38_code.specs.declared.step.StepFault.{StepFault}
use Rattle.s38_code.specs.History.{entries_of}
use Rattle.s38_turn.specs.declared.item.Item.{Item}
use Rattle.s38_turn.specs.declared.view.Place.TheVariants.{Acts}
use Rattle.s38_turn.specs.declared.view.ProcessList.{ProcessList}
use Rattle.s38_turn.specs.declared.view.View.{View}
use Rattle.s38_turn.specs.Calls.{Acted, Called, Grew, IsAt, IsLike, Knows}
use Rattle.s38_turn.specs.Items.{Begins, entries_in, items_of}
use Rattle.s38_turn.specs.Lists.{has, list_of, lists_in}
use Rattle.s38_turn.specs.Plays.{IsLikeFirst, Mine, Took, in_hand, knowing}
use Rattle.s38_turn.specs.Seats.{seat_view}
use Rattle.s38_turn.proofs.HistoryLaws.{entries_are, grew, lists_grew, own_entries}
use Rattle.s38_turn.proofs.ListLaws.{own_list}

abbrev machine_or : {M : Type 0} → M → List (ℕ × Option M) → M
machine_or m [] = m
machine_or m ((k, None) ∷ more) = m
machine_or m ((k, Some n) ∷ more) = n

module _ (M O : Type 0) (sound : M → Type 0) (origin : M → O) (history : M → List Entry) (stopped : M → Option (ℕ × Event)) (steps : M → ℕ → Event → Result Reply StepFault → M → Type 0)
    (z : TableId) (first : M) (p ticket : ℕ) (event : Event) (s0 s1 s2 : table.Seat (Option M) (View M)) (knows : Knows s0 s1) (first_is : s1.me.0.first ≡ Some first)
    (took : Took (IsLike sound origin) (items_of history stopped) ticket s1.me s2.me) where
  abbrev all : M → List Item
  all = items_of history stopped

  like : IsLike sound origin first took.machine
  like = subst (λ f. IsLikeFirst (IsLike sound origin) f took.machine) first_is took.like_first

  own : lists_in (all took.machine) s0.me.0.lists ≡ s0.me.0.lists
  own = subst (λ (ls : List ProcessList). lists_in (all took.machine) ls ≡ ls) knows.1 took.own

  -- its entries are those of its list
  pub entries_own : has p s0.me.0.lists ≡ true → entries_of p (history took.machine) ≡ entries_in (list_of p s0.me.0.lists)
  entries_own has_p = ap (entries_of p) (sym (entries_are (history took.machine) (stopped took.machine)))
      ∙ (sym (own_entries p (all took.machine)) ∙ ap entries_in (own_list p (all took.machine) s0.me.0.lists own has_p))

  pub may : (may_ask : O → ℕ → Event → List Entry → Type 0) → has p s0.me.0.lists ≡ true → may_ask (origin first) p event (entries_in (list_of p s0.me.0.lists)) → may_ask (origin took.machine) p event (entries_of p (history took.machine))
  may may_ask has_p h = subst (λ (x : O × List Entry). may_ask x.0 p event x.1) (λ k. (sym like.1 k, sym (entries_own has_p) k)) h

  pub fine : sound took.machine
  fine = like.0

  pub hand : s2.me.1 ≡ (0, Some took.machine) ∷ []
  hand = ap (λ (x : Mine M). x.1) took.is

  module _ (Told : Result Reply StepFault → Type 0) (s3 : table.Seat (Option M) (View M)) (acted : Acted sound origin (items_of history stopped) steps p event Told s2 s3) where
    found : acted.before ≡ took.machine
    found = ap (machine_or took.machine) (sym acted.held ∙ hand)

    like_before : IsLike sound origin first acted.before
    like_before = subst (IsLike sound origin first) (sym found) like

    own_before : lists_in (all acted.before) s0.me.0.lists ≡ s0.me.0.lists
    own_before = ap (λ (m : M). lists_in (all m) s0.me.0.lists) found ∙ own

    view_is : s3.me.0 ≡ s2.me.0
    view_is = ap (λ (x : Mine M). x.0) acted.holds

    seen_is : s3.me.0.seen ≡ all acted.before
    seen_is = ap (λ (v : View M). v.seen) view_is ∙ (ap (λ (x : Mine M). x.0.seen) took.is ∙ ap all (sym found))

    lists_are : s3.me.0.lists ≡ s0.me.0.lists
    lists_are = ap (λ (v : View M). v.lists) view_is ∙ (ap (λ (x : Mine M). x.0.lists) took.is ∙ knows.1)

    -- what is owed where the turn is given on
    pub ready : s2.table_id ≡ z → IsAt z first (Acts ticket) ((0, Some acted.after) ∷ []) s3 × IsLike sound origin first acted.after × Grew p s3.me.0.seen (all acted.after)
    ready table = (
      (acted.same.0 ∙ table, ap (λ (v : View M). v.first) view_is ∙ (ap (λ (x : Mine M). x.0.first) took.is ∙ first_is), ap (λ (v : View M). v.place) view_is ∙ ap (λ (x : Mine M). x.0.place) took.is, ap (λ (x : Mine M). x.1) acted.holds),
      (acted.step.sound_is, acted.step.origin_is ∙ like_before.1),
      subst (λ (xs : List Item). Grew p xs (all acted.after)) (sym seen_is) (grew p event acted.step.answer (all acted.before) (all acted.after) acted.step.added acted.step.is_added acted.step.now),
    )

    pub called : (s4 : table.Seat (Option M) (View M)) → s4.me ≡ (knowing (in_hand (items_of history stopped) s3.me.1) s3.me.0, []) → Called sound origin (items_of history stopped) steps first p event Told (seat_view s0) (seat_view s4)
    called s4 served =
        let hand' : in_hand all s3.me.1 ≡ all acted.after = ap (λ (x : Mine M). in_hand all x.1) acted.holds in record {
          before = acted.before;
          after = acted.after;
          like_first = like_before;
          more = subst (λ (x : List Item × M). Begins x.0 (all x.1)) (λ k. (knows.2 k, sym found k)) took.more;
          own = own_before;
          step = acted.step;
          seen = ap (λ (x : Mine M). x.0.seen) served ∙ hand';
          lists = ap (λ (x : Mine M). x.0.lists) served ∙ ((λ k. lists_in (hand' k) (lists_are k))
              ∙ lists_grew p event acted.step.answer (all acted.before) (all acted.after) acted.step.added s0.me.0.lists acted.step.is_added acted.step.now own_before);
        }
