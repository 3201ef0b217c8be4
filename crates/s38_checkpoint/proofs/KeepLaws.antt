-- The next object is kept: what waits after it, and what is left where it is not kept.
use Rattle.std.proofs.Common.{◌≡◌, ◌≢◌, ◌⊎◌, ◌↔◌, ℕ, ◌+◌, ◌<◌, ◌≤◌, Bool, false, List, [], ◌∷◌, ◌++◌, inl, inr, length, refl, sym, ◌∙◌, ap, subst, arith}
use Rattle.std.proofs.Math.Seq.{drop-append_seam, take-append_seam}
use Rattle.std.specs.Prelude.{drop, take}
use Rattle.std.specs.FinMap.{get, len}
use Rattle.std.specs.List.{AllByRecursion}
use Rattle.s38_base.specs.declared.page.Change.{Change}
use Rattle.s38_checkpoint.specs.Ensuring.{FirstFit, Fits, IsAfter, IsReached, changes_of_number, journal_ahead}
use Rattle.s38_checkpoint.specs.Waiting.{AddsNext, IsNext, IsStoppedBy, Waits}
use Rattle.s38_checkpoint.proofs.FitLaws.{fits_by, room_after}
use Rattle.s38_checkpoint.proofs.WaitLaws.{AreWantedAt, IsAbove, above_by, fine_next_changes, full_next, has_next, new_next, rest_next, rising_by, told_by, waits_next, wanted_by}
use Rattle.s38_durable_state.specs.Durable.{Durable}
use Rattle.s38_durable_state.specs.Represents.{parts_at}
use Rattle.s38_page_diff.specs.FlushFaults.{IfBad, IsFullFor, IsUnread}
use Rattle.s38_page_diff.specs.declared.fault.FlushFault.{FlushFault}
use Rattle.s38_page_diff.specs.declared.fault.FlushFault.TheVariants as faults
use Rattle.s38_page_diff.specs.reconcile.Placing.{IsPlaced}
use Rattle.s38_page_diff.specs.reconcile.Walking.{AreFineTo, AreSoFar, IsKeyInRange}
use Rattle.s38_page_diff.proofs.reconcile.PlacedLaws.{HasWanted, all_before, fine_put, made_in, so_far_done, so_far_put}
use Rattle.s38_page_diff.proofs.reconcile.SoFarLaws.{so_far_begun}
use Rattle.s38_rules.specs.state.Held.{Held}
use Rattle.s38_rules.specs.declared.object.Object.{Object}
use Rattle.s38_vault.specs.Content.{AreRising, Content, changed}
use Rattle.s38_vault.specs.Directory.{Keys, keys_of, new_keys}

-- ---- faults

pub stopped_unread : (holds : Content → Type 0) (parts : ℕ) (m : Content) (d : Durable) (h : Held) (n : Content) (fault : FlushFault) → IsUnread ⊥ fault → holds n → IsReached m d h n → IsStoppedBy holds parts m d h fault
stopped_unread holds parts m d h n (faults.Full needed free) unread held reached = absurd unread
stopped_unread holds parts m d h n (faults.BadHeader object) unread held reached = unread
stopped_unread holds parts m d h n faults.Failed unread held reached = tt
stopped_unread holds parts m d h n faults.NoMemory unread held reached = (n, (held, reached))

-- where there is room, only memory was refused
pub stopped_put : (holds : Content → Type 0) (parts : ℕ) (m : Content) (d : Durable) (h : Held) (n : Content) (wanted free : ℕ) → wanted ≤ free → (fault : FlushFault) → IsFullFor wanted free fault → IfBad ⊥ fault → (fault ≢ faults.Failed → holds n) → IsReached m d h n → IsStoppedBy holds parts m d h fault
stopped_put holds parts m d h n wanted free fits (faults.Full needed there) right bad held reached = absurd (omega (arith, right.0, right.1.0, right.1.1, fits))
stopped_put holds parts m d h n wanted free fits (faults.BadHeader object) right bad held reached = bad
stopped_put holds parts m d h n wanted free fits faults.NoMemory right bad held reached = (n, (held (λ e. cc), reached))
stopped_put holds parts m d h n wanted free fits faults.Failed right bad held reached = tt

-- ---- the changes of the next object

pub mark_front : (front all rest : List Change) (mark : ℕ) → all ≡ front ++ rest → mark ≡ length front → take mark all ≡ front
mark_front front all rest mark kept is = (λ i. take (is i) (kept i)) ∙ take-append_seam front rest

pub mark_rest : (front all rest : List Change) (mark : ℕ) → all ≡ front ++ rest → mark ≡ length front → drop mark all ≡ rest
mark_rest front all rest mark kept is = (λ i. drop (is i) (kept i)) ∙ drop-append_seam front rest

pub place_moved : (made own front : List Change) (most more mark : ℕ) → most ≡ more → mark ≡ length front → ((made ≡ []) × (length own ≤ most)) ⊎ (length made ≡ mark) → ((made ≡ []) × (length own ≤ more)) ⊎ (length made ≡ length front)
place_moved made own front most more mark same is (inl few) = inl (few.0, omega (arith, few.1, same))
place_moved made own front most more mark same is (inr long) = inr (long ∙ is)

module _ (d : Durable) (h : Held) (o : Object) (done : ℕ) (keys : Keys) (holds : Content → Type 0) (front all : List Change) (ahead : Bool) (was : AreSoFar keys holds (parts_at d) done front)
    (adds : AddsNext keys holds (parts_at d) o.number.0 (journal_ahead h o.number.0) ahead all) (low : done < o.number.0) (gap : (k : ℕ) → done < k → k < o.number.0 → parts_at d k ≡ []) where
  above : IsAbove o.number.0 (journal_ahead h o.number.0)
  above = above_by d keys holds o.number.0 adds.between all (journal_ahead h o.number.0) adds.behind

  wanted : AreWantedAt d (journal_ahead h o.number.0)
  wanted = wanted_by d keys holds o.number.0 adds.between all (journal_ahead h o.number.0) adds.behind

  told : (n : Content) → holds n → all ≡ adds.between ++ changes_of_number (get n) d (journal_ahead h o.number.0)
  told n held = told_by d keys holds o.number.0 adds.between all (journal_ahead h o.number.0) adds.behind n held

  -- they are those of the content that is held, and with them it has all that is wanted up to the object
  pub whole_has : (n : Content) → holds n → HasWanted (changed n all) (parts_at d) o.number.0
  whole_has n held = has_next d n o.number.0 (journal_ahead h o.number.0) adds.between all above (adds.so_far.told n held) (told n held)

  pub whole_fine : (n : Content) → holds n → AllByRecursion (λ c. IsKeyInRange c.key) all
  whole_fine n held =
      let is = told n held ∙ ap (λ (cs : List Change). cs ++ changes_of_number (get n) d (journal_ahead h o.number.0)) (adds.so_far.told n held) in
      subst (λ (cs : List Change). AllByRecursion (λ c. IsKeyInRange c.key) cs) (sym is) (fine_next_changes d (get n) o.number.0 (journal_ahead h o.number.0) above)

  -- what waits after it
  pub placed_waits : (most : ℕ) (m : Content) (gone rest : List Object) → IsNext h gone rest o done → (n : Content) → holds n → Waits most m d h gone n front → (made own more : List Change) → all ≡ made ++ own → all ≡ front ++ more
      → {put mark : ℕ} → put ≡ most → mark ≡ length front → ((made ≡ []) × (length own ≤ put)) ⊎ (length made ≡ mark) → Waits most m d h (gone ++ o ∷ []) (changed n made) own
  placed_waits most m gone rest next n held w made own more parted kept {put} {mark} same is place =
      waits_next most m d h gone rest o done next low n front adds.between all w (was.told n held) (adds.so_far.told n held) above (told n held) made own more parted kept (place_moved made own front put most mark same is place)

  -- a store that is full
  pub placed_full : (parts : ℕ) (m : Content) (gone rest : List Object) → IsNext h gone rest o done → FirstFit parts m d h (length gone) → (n : Content) → holds n → IsAfter m d h gone (changed n front) → (own : List Change) → all ≡ front ++ own
      → (now : Content → Type 0) (more : Keys) (room : ℕ) (fault : FlushFault) → IsFullFor (new_keys more own) room fault → IfBad ⊥ fault
      → ((needed free : ℕ) → fault ≡ faults.Full needed free → now (changed n front)) → ((needed free : ℕ) → fault ≡ faults.Full needed free → (x : Content) → now x → more ≡ keys_of x)
      → ((needed free : ℕ) → fault ≡ faults.Full needed free → room + len more ≡ parts)
      → (fault ≢ faults.Failed → now n ⊎ now (changed n front)) → IsReached m d h n → IsReached m d h (changed n front) → IsStoppedBy now parts m d h fault
  placed_full parts m gone rest next fit n held behind own kept now more room (faults.Full needed free) right bad front_held same sum some reached reached' =
      let n2 = changed n front in
      let here = front_held needed free refl in
      let has = subst (λ (cs : List Change). HasWanted (changed n cs) (parts_at d) done) (sym (was.told n held)) (made_in n (parts_at d) done) in
      let rest_is = rest_next d n done o.number.0 (journal_ahead h o.number.0) front own adds.between all (omega (arith, low)) above (was.told n held) (adds.so_far.told n held) (told n held) kept in
      let counted = new_next d n2 done o.number.0 (journal_ahead h o.number.0) (omega (arith, low)) wanted (adds.so_far.wanted o.number.0 (omega (arith, low)) (omega arith)) has gap in
      (n2, (here, full_next parts m d h gone rest o done next fit n2 (journal_ahead h o.number.0) own more room needed free behind refl rest_is counted (same needed free refl n2 here) (sum needed free refl) right))
  placed_full parts m gone rest next fit n held behind own kept now more room (faults.BadHeader object) right bad front_held same sum some reached reached' = absurd bad
  placed_full parts m gone rest next fit n held behind own kept now more room faults.NoMemory right bad front_held same sum some reached reached' = elim (some (λ e. cc)) [
    | inl before ↦ (n, (before, reached))
    | inr after ↦ (changed n front, (after, reached'))
  ]
  placed_full parts m gone rest next fit n held behind own kept now more room faults.Failed right bad front_held same sum some reached reached' = tt

  -- where there is room for what waits, the object fits
  pub placed_fits : (m : Content) (gone rest : List Object) → IsNext h gone rest o done → (n : Content) → holds n → IsAfter m d h gone (changed n front) → (own : List Change) → all ≡ front ++ own
      → (made later : List Change) (most : ℕ) → all ≡ made ++ later → {put mark : ℕ} → put ≡ most → mark ≡ length front → ((made ≡ []) × (length later ≤ put)) ⊎ (length made ≡ mark)
      → (now : Keys) (free parts : ℕ) → now ≡ keys_of (changed n made) → free + len now ≡ parts → new_keys now later ≤ free → Fits parts m d h gone (o ∷ rest)
  placed_fits m gone rest next n held behind own kept made later most parted {put} {mark} moved is place now free parts same sum room =
      let n2 = changed n front in
      let journal = journal_ahead h o.number.0 in
      let has = subst (λ (cs : List Change). HasWanted (changed n cs) (parts_at d) done) (sym (was.told n held)) (made_in n (parts_at d) done) in
      let rest_is = rest_next d n done o.number.0 journal front own adds.between all (omega (arith, low)) above (was.told n held) (adds.so_far.told n held) (told n held) kept in
      let counted = new_next d n2 done o.number.0 journal (omega (arith, low)) wanted (adds.so_far.wanted o.number.0 (omega (arith, low)) (omega arith)) has gap in
      let rising = subst AreRising kept (rising_by d keys holds o.number.0 adds.between all journal adds.behind adds.so_far.rising adds.so_far.upto) in
      fits_by parts m d h gone (o ∷ rest) n2 (new_keys (keys_of n2) own) behind (ap (new_keys (keys_of n2)) rest_is ∙ counted)
      (room_after n front own made later most now free parts rising (sym kept ∙ parted) (place_moved made later front put most mark moved is place) same sum room)

  -- where none was added of a journal space, what waits are all changes up to the object
  pub placed_so_far : {V : Type 0} (now : V → Content → Type 0) (old mid : V) (most mark : ℕ) (own more : List Change) (keys' : Keys) → ahead ≡ false → all ≡ front ++ more → mark ≡ length front → ((m : Content) → now old m → holds m)
      → ((n : Content) → now mid n → keys' ≡ keys_of n) → (at : IsPlaced now old mid most mark all own) → AreSoFar keys' (now mid) (parts_at d) o.number.0 own
  placed_so_far now old mid most mark own more keys' none kept is back same at = elim at.place [
    | inl few ↦
        let made : (n : Content) → now mid n → (m : Content) × (holds m × (n ≡ changed m [])) = λ n held. let was_held = at.told n held in (was_held.0, (back was_held.0 was_held.1.0, was_held.1.1 ∙ ap (changed was_held.0) few.0)) in
        so_far_put keys keys' holds (now mid) (parts_at d) 0 o.number.0 [] own (omega arith) same made (so_far_begun keys holds (parts_at d) [] refl was.keys_held)
        (subst (λ (cs : List Change). AreSoFar keys holds (parts_at d) o.number.0 cs) (sym (adds.none none) ∙ at.parted ∙ ap (λ (cs : List Change). cs ++ own) few.0) adds.so_far)
    | inr long ↦
        let front_is : at.front ≡ front = sym (take-append_seam at.front own) ∙ (λ i. take (long i) (sym at.parted i)) ∙ mark_front front all more mark kept is in
        let made : (n : Content) → now mid n → (m : Content) × (holds m × (n ≡ changed m front)) = λ n held. let was_held = at.told n held in (was_held.0, (back was_held.0 was_held.1.0, was_held.1.1 ∙ ap (changed was_held.0) front_is)) in
        so_far_put keys keys' holds (now mid) (parts_at d) done o.number.0 front own (omega (arith, low)) same made was
        (subst (λ (cs : List Change). AreSoFar keys holds (parts_at d) o.number.0 cs) (sym (adds.none none) ∙ at.parted ∙ ap (λ (cs : List Change). cs ++ own) front_is) adds.so_far)
  ]

  -- and where all is put none waits
  pub all_so_far : (now : Content → Type 0) (keys' : Keys) → ((n : Content) → now n → keys' ≡ keys_of n) → ((n : Content) → now n → (m : Content) × (holds m × (n ≡ changed m all))) → AreSoFar keys' now (parts_at d) o.number.0 []
  all_so_far now keys' same made =
      so_far_done keys keys' holds now (parts_at d) o.number.0 adds.between same
      (λ n held. let was_held = made n held in subst (λ (x : Content). HasWanted x (parts_at d) o.number.0) (sym was_held.1.1) (whole_has was_held.0 was_held.1.0)) adds.so_far

  -- keys stay fine where the first of them, or all, were made
  pub made_fine : (fine : AreFineTo keys o.number.0) → (n : Content) → holds n → (made own : List Change) → all ≡ made ++ own → (x : Content) → x ≡ changed n made → (keys' : Keys) → keys' ≡ keys_of x → AreFineTo keys' o.number.0
  made_fine fine n held made own parted x is keys' same =
      let of_n : AreFineTo (keys_of n) o.number.0 = subst (λ (ks : Keys). AreFineTo ks o.number.0) (was.keys_held n held) fine in
      let whole = subst (λ (cs : List Change). AllByRecursion (λ c. IsKeyInRange c.key) cs) parted (whole_fine n held) in
      subst (λ (ks : Keys). AreFineTo ks o.number.0) (sym (same ∙ ap (λ (y : Content). keys_of y) is))
      (fine_put n made o.number.0 (all_before (λ c. IsKeyInRange c.key) made own whole) of_n)
