-- What waits after the last object, and what is left where it is not put.
use Rattle.std.proofs.Common.{◌≡◌, ◌≢◌, ◌⊎◌, ℕ, ◌+◌, ◌<◌, ◌≤◌, Bool, true, false, List, [], ◌++◌, inl, inr, length, refl, sym, ◌∙◌, ap, subst, arith, append-nil}
use Rattle.std.proofs.lemmas.Bool.Decides.{nat_tests}
use Rattle.std.specs.Prelude.{None, nat_le}
use Rattle.std.specs.FinMap.{contains_key, get, len}
use Rattle.s38_base.specs.declared.page.Change.{Change}
use Rattle.s38_base.specs.declared.page.Key.{Key}
use Rattle.s38_checkpoint.specs.Closing.{closing_changes, content_of, parts_of_all}
use Rattle.s38_checkpoint.specs.Ensuring.{FirstFit, Fits, IsLeft, IsReached}
use Rattle.s38_checkpoint.specs.Waiting.{IsStoppedBy, Waits}
use Rattle.s38_checkpoint.proofs.CloseLaws.{AreClosing, content_closed}
use Rattle.s38_checkpoint.proofs.FitLaws.{all_parts, fits_by, room_after, same_front}
use Rattle.s38_checkpoint.proofs.WaitLaws.{new_next, rest_next}
use Rattle.s38_durable_state.specs.Durable.{Durable}
use Rattle.s38_durable_state.specs.Represents.{parts_at}
use Rattle.s38_page_diff.specs.FlushFaults.{IfBad, IsFullFor}
use Rattle.s38_page_diff.specs.Puts.{IsAfterPuts}
use Rattle.s38_page_diff.proofs.LookLaws.{one_put}
use Rattle.s38_image.specs.PartPlaces.{ceiling_key}
use Rattle.s38_page_diff.specs.reconcile.Replacing.{changes_to, each_to}
use Rattle.s38_page_diff.specs.reconcile.Walking.{AreSoFar, IsKnown}
use Rattle.s38_page_diff.specs.declared.fault.FlushFault.{FlushFault}
use Rattle.s38_page_diff.specs.declared.fault.FlushFault.TheVariants as faults
use Rattle.s38_page_diff.proofs.reconcile.PlacedLaws.{HasWanted, changed-append, made_in}
use Rattle.s38_rules.specs.state.Held.{Held}
use Rattle.s38_vault.specs.Content.{AreRising, Content, changed}
use Rattle.s38_vault.specs.Directory.{Keys, keys_of, new_keys}

at_most : (a b : ℕ) → nat_le a b ≡ true → a ≤ b
at_most a b e = grind (arith, nat_tests)

beyond : (a b : ℕ) → nat_le a b ≡ false → b < a
beyond a b e = grind (arith, nat_tests)

module _ (d : Durable) (h : Held) (done : ℕ) (keys : Keys) (holds : Content → Type 0) (front all : List Change) (was : AreSoFar keys holds (parts_at d) done front) (so_far : AreSoFar keys holds (parts_at d) ceiling_key all)
    (low : done < ceiling_key) (gap : (k : ℕ) → done < k → k < ceiling_key → parts_at d k ≡ []) where
  own_is : (n : Content) → holds n → (own : List Change) → all ≡ front ++ own → own ≡ changes_to (get (changed n front)) (parts_at d) ceiling_key ++ []
  own_is n held own kept = rest_next d n done ceiling_key None front own all all (omega (arith, low)) tt (was.told n held) (so_far.told n held) (sym (append-nil all)) kept

  module _ (most : ℕ) (m : Content) (n : Content) (held : holds n) (w : Waits most m d h h.objects n front) (whole : changed n all ≡ content_of d) where
    reached : IsReached m d h (changed n front)
    reached = record { gone = h.objects; rest = []; all = sym (append-nil h.objects); behind = w.next }

    -- where one put takes them
    few_left : (made own : List Change) → all ≡ made ++ own → IsReached m d h (changed n made) → length own ≤ most → (x : Content) → IsAfterPuts most (changed n made) own x → IsLeft most m d h x
    few_left made own parted before few x after = elim (one_put most (changed n made) own x few after) [
      | inl is ↦ inl (subst (IsReached m d h) (sym is) before)
      | inr is ↦ inr (inl (is ∙ sym (changed-append n made own) ∙ ap (changed n) (sym parted) ∙ whole))
    ]

    -- a crash leaves this while the rest is put
    pub rest_left : (made own more : List Change) → all ≡ made ++ own → all ≡ front ++ more → ((made ≡ []) × (length own ≤ most)) ⊎ (length made ≡ length front) → (x : Content) → IsAfterPuts most (changed n made) own x → IsLeft most m d h x
    rest_left made own more parted kept (inl few) x after = few_left made own parted (subst (λ (cs : List Change). IsReached m d h (changed n cs)) (sym few.0) w.held) few.1 x after
    rest_left made own more parted kept (inr long) x after = by (nat_le (length own) most) refl
      where
        same : made ≡ front
        same = same_front made front own more (sym parted ∙ kept) long

        before : IsReached m d h (changed n made)
        before = subst (λ (cs : List Change). IsReached m d h (changed n cs)) (sym same) reached

        is : own ≡ closing_changes (get (changed n front)) d
        is = own_is n held own (parted ∙ ap (λ (cs : List Change). cs ++ own) same) ∙ append-nil (closing_changes (get (changed n front)) d)

        by : (b : Bool) → nat_le (length own) most ≡ b → IsLeft most m d h x
        by true e = few_left made own parted before (at_most (length own) most e) x after
        by false e =
            inr (inr (record {
              gone = h.objects;
              rest = [];
              all = sym (append-nil h.objects);
              before = changed n front;
              behind = w.next;
              many = subst (λ (cs : List Change). most < length cs) is (beyond (length own) most e);
              puts = subst (λ (cs : List Change). IsAfterPuts most (changed n front) cs x) is (subst (λ (cs : List Change). IsAfterPuts most (changed n cs) own x) same after);
            }))

    -- what was put before the rest is that after the last object, or nothing was
    pub rest_reached : (made own more : List Change) → all ≡ made ++ own → all ≡ front ++ more → ((made ≡ []) × (length own ≤ most)) ⊎ (length made ≡ length front) → IsReached m d h (changed n made)
    rest_reached made own more parted kept (inl few) = subst (λ (cs : List Change). IsReached m d h (changed n cs)) (sym few.0) w.held
    rest_reached made own more parted kept (inr long) = subst (λ (cs : List Change). IsReached m d h (changed n cs)) (sym (same_front made front own more (sym parted ∙ kept) long)) reached

    -- a store that is full
    pub rest_full : (parts : ℕ) → FirstFit parts m d h (length h.objects) → (own : List Change) → all ≡ front ++ own → (now : Content → Type 0) (more : Keys) (room : ℕ) (fault : FlushFault) → IsFullFor (new_keys more own) room fault → IfBad ⊥ fault
        → ((needed free : ℕ) → fault ≡ faults.Full needed free → now (changed n front)) → ((needed free : ℕ) → fault ≡ faults.Full needed free → (x : Content) → now x → more ≡ keys_of x)
        → ((needed free : ℕ) → fault ≡ faults.Full needed free → room + len more ≡ parts)
        → (fault ≢ faults.Failed → now n ⊎ now (changed n front)) → IsStoppedBy now parts m d h fault
    rest_full parts fit own kept now more room (faults.Full needed free) right bad front_held same sum some =
        let n2 = changed n front in
        let here = front_held needed free refl in
        let has = subst (λ (cs : List Change). HasWanted (changed n cs) (parts_at d) done) (sym (was.told n held)) (made_in n (parts_at d) done) in
        let counted = new_next d n2 done ceiling_key None (omega arith) tt (so_far.wanted ceiling_key (omega arith) (omega arith)) has gap in (
          n2,
          (
            here,
            record {
              gone = h.objects;
              rest = [];
              all = sym (append-nil h.objects);
              fit = fit;
              behind = w.next;
              wanted = right.0 ∙ (λ i. new_keys (same needed free refl n2 here i) (own_is n held own kept i)) ∙ counted ∙ ap (new_keys (keys_of n2)) (append-nil (parts_at d ceiling_key));
              there = all_parts n2 more room free parts (same needed free refl n2 here) (sum needed free refl) right.1.0;
              short = right.1.1;
            },
          ),
        )
    rest_full parts fit own kept now more room (faults.BadHeader object) right bad front_held same sum some = absurd bad
    rest_full parts fit own kept now more room faults.NoMemory right bad front_held same sum some = elim (some (λ e. cc)) [
      | inl before ↦ (n, (before, w.held))
      | inr after ↦ (changed n front, (after, reached))
    ]
    rest_full parts fit own kept now more room faults.Failed right bad front_held same sum some = tt

    -- where there is room for what waits, the ceiling fits
    pub rest_fits : (own : List Change) → all ≡ front ++ own → (made later : List Change) (most : ℕ) → all ≡ made ++ later → ((made ≡ []) × (length later ≤ most)) ⊎ (length made ≡ length front)
        → (now : Keys) (free parts : ℕ) → now ≡ keys_of (changed n made) → free + len now ≡ parts → new_keys now later ≤ free → Fits parts m d h h.objects []
    rest_fits own kept made later most parted place now free parts same sum room =
        let n2 = changed n front in
        let has = subst (λ (cs : List Change). HasWanted (changed n cs) (parts_at d) done) (sym (was.told n held)) (made_in n (parts_at d) done) in
        let counted = new_next d n2 done ceiling_key None (omega arith) tt (so_far.wanted ceiling_key (omega arith) (omega arith)) has gap in
        let is = ap (new_keys (keys_of n2)) (own_is n held own kept) ∙ counted ∙ ap (new_keys (keys_of n2)) (append-nil (parts_at d ceiling_key)) in
        fits_by parts m d h h.objects [] n2 (new_keys (keys_of n2) own) w.next is
        (room_after n front own made later most now free parts (subst AreRising kept so_far.rising) (sym kept ∙ parted) place same sum room)

-- all makes the content
pub all_made : (d : Durable) (keys : Keys) (holds : Content → Type 0) (all : List Change) → AreSoFar keys holds (parts_at d) ceiling_key all → each_to (parts_at d) ceiling_key ≡ parts_of_all d → ((key : Key) → contains_key keys key ≡ true → IsKnown ceiling_key key)
    → (n : Content) → holds n → changed n all ≡ content_of d
all_made d keys holds all so_far whole known n held =
    let closed : AreClosing keys holds d all = record { so_far = so_far; whole = whole; known = known } in
    content_closed closed n held
