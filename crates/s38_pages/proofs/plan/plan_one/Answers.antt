use Rattle.std.proofs.Common.{◌≡◌, List, Bool, true, not, Some, None, slice_set, ◌∙◌, ap, subst, sym, arith}
use Rattle.std.specs.FinMap.{get}
use Rattle.s38_base.specs.declared.page.Change.{Change}
use Rattle.s38_redo_log.specs.declared.layout.Slot.{Slot}
use Rattle.s38_redo_log.specs.declared.layout.Layout.{Layout}
use Rattle.s38_pages.specs.Index.{Homes, Index, Planned, Tallied, marked}
use Rattle.s38_pages.proofs.Marking.{more_marked, set_there}
use Rattle.s38_pages.proofs.Planning.{planned_over, planned_new, planned_gone, planned_none, used_block, with_itself}
use Rattle.s38_pages.proofs.Tallies.{get_inserted, get_removed, new_here, tallied_over, tallied_new, tallied_gone, tallied_none}
use Rattle.s38_pages.proofs.plan.plan_one.Goals as goal

-- along the equations of the calls
moved : (lay : Layout) (old m n : Index) (used later : List Bool) (es fs : List Slot) (cs : List Change) → n ≡ m → later ≡ used → fs ≡ es → Planned lay old m (marked used) es cs → Planned lay old n (marked later) fs cs
moved lay old m n used later es fs cs e u f p = subst (λ x. Planned lay old x (marked later) fs cs) (sym e) (subst (λ x. Planned lay old m (marked x) fs cs) (sym u) (subst (λ x. Planned lay old m (marked used) x cs) (sym f) p))

counted : (old m n : Homes) (was used later : List Bool) (es fs : List Slot) (cs : List Change) → n ≡ m → later ≡ used → fs ≡ es → Tallied old m was used es cs → Tallied old n was later fs cs
counted old m n was used later es fs cs e u f t = subst (λ x. Tallied old x was later fs cs) (sym e) (subst (λ x. Tallied old m was x fs cs) (sym u) (subst (λ x. Tallied old m was used x cs) (sym f) t))

pub take_lowest-home-requires : goal.take_lowest-home-requires
take_lowest-home-requires c = c.requires.free (new_here c.args.homes.now.values c.args.change.now c.in-Some-None.page c.in-Some-None.is-0 (sym c.get.ensures ∙ c.in-Some-None.is-1))

same : {A : Type 0} (x : A) → x ≡ x
same x = λ i. x

pub returns-in-Some-Some-clause-planned : goal.returns-in-Some-Some-clause-planned
returns-in-Some-Some-clause-planned c lay old cs free p new =
    let change = c.args.change.now in
    let at : get c.args.homes.now.values change.key ≡ Some c.in-Some-Some.home = sym c.get.ensures ∙ c.in-Some-Some.is-1 in
    let slot : Slot = record { home = c.in-Some-Some.home; block = c.block_of-block.result } in
    let in_use = used_block slot.block change.key c.block_of-block.ensures.key (λ e. omega (arith, e, c.requires.object)) in
    let used = c.args.marks.now in
    moved lay old _ _ _ _ _ _ _ (sym (with_itself (get c.args.homes.now.values) change.key slot.home at)) (same used) c.push_reserved.ensures.items
    (planned_over lay old (get c.args.homes.now.values) (marked used) _ cs p change new c.in-Some-Some.page slot (marked used) c.in-Some-Some.is-0 at
    (p.index.used_there change.key slot.home at) (λ i u. u) in_use c.block_of-block.ensures.key c.block_of-block.ensures.page)

pub returns-in-Some-Some-clause-tallied : goal.returns-in-Some-Some-clause-tallied
returns-in-Some-Some-clause-tallied c old was cs t new =
    let change = c.args.change.now in
    let at : get c.args.homes.now.values change.key ≡ Some c.in-Some-Some.home = sym c.get.ensures ∙ c.in-Some-Some.is-1 in
    let slot : Slot = record { home = c.in-Some-Some.home; block = c.block_of-block.result } in
    let in_use = used_block slot.block change.key c.block_of-block.ensures.key (λ e. omega (arith, e, c.requires.object)) in
    counted old _ _ was _ _ _ _ _ (same _) (same _) c.push_reserved.ensures.items
    (tallied_over old c.args.homes.now.values was c.args.marks.now _ cs t change new c.in-Some-Some.page slot.home slot c.in-Some-Some.is-0 at (ap not in_use))

pub returns-in-Some-None-clause-planned : goal.returns-in-Some-None-clause-planned
returns-in-Some-None-clause-planned c lay old cs free p new =
    let change = c.args.change.now in
    let at : get c.args.homes.now.values change.key ≡ None = sym c.get.ensures ∙ c.in-Some-None.is-1 in
    let h = c.take_lowest-home.result in
    let slot : Slot = record { home = h; block = c.block_of-block-in-Some-None.result } in
    let in_use = used_block slot.block change.key c.block_of-block-in-Some-None.ensures.key (λ e. omega (arith, e, c.requires.object)) in
    let used = c.args.marks.now in
    let within = c.take_lowest-home.ensures.within in
    moved lay old _ _ _ _ _ _ _ (ap get c.insert.ensures.values ∙ get_inserted c.args.homes.now.values change.key h) c.take_lowest-home.ensures.marks c.push_reserved-in-Some-None.ensures.items
    (planned_new lay old (get c.args.homes.now.values) (marked used) _ cs p change new c.in-Some-None.page slot (marked (slice_set used h true)) c.in-Some-None.is-0 at
    (free h within c.take_lowest-home.ensures.free) c.take_lowest-home.ensures.free (set_there used h true within) (λ i u. more_marked used h i within u)
    in_use c.block_of-block-in-Some-None.ensures.key c.block_of-block-in-Some-None.ensures.page)

pub returns-in-Some-None-clause-tallied : goal.returns-in-Some-None-clause-tallied
returns-in-Some-None-clause-tallied c old was cs t new =
    let change = c.args.change.now in
    let at : get c.args.homes.now.values change.key ≡ None = sym c.get.ensures ∙ c.in-Some-None.is-1 in
    let h = c.take_lowest-home.result in
    let slot : Slot = record { home = h; block = c.block_of-block-in-Some-None.result } in
    let in_use = used_block slot.block change.key c.block_of-block-in-Some-None.ensures.key (λ e. omega (arith, e, c.requires.object)) in
    counted old _ _ was _ _ _ _ _ c.insert.ensures.values c.take_lowest-home.ensures.marks c.push_reserved-in-Some-None.ensures.items
    (tallied_new old c.args.homes.now.values was c.args.marks.now _ cs t change new c.in-Some-None.page h slot c.in-Some-None.is-0 at c.take_lowest-home.ensures.within c.take_lowest-home.ensures.free (ap not in_use))

pub returns-in-None-Some-clause-planned : goal.returns-in-None-Some-clause-planned
returns-in-None-Some-clause-planned c lay old cs free p new =
    let change = c.args.change.now in
    let at : get c.args.homes.now.values change.key ≡ Some c.in-None-Some.home = sym c.get.ensures ∙ c.in-None-Some.is-1 in
    let slot : Slot = record { home = c.in-None-Some.home; block = c.zero_block-block.result } in
    moved lay old _ _ _ _ _ _ _ (ap get c.remove.ensures.values ∙ get_removed c.args.homes.now.values change.key) (same _) c.push_reserved-in-None-Some.ensures.items
    (planned_gone lay old (get c.args.homes.now.values) (marked c.args.marks.now) _ cs p change new slot c.in-None-Some.is-0 at c.zero_block-block.ensures.free)

pub returns-in-None-Some-clause-tallied : goal.returns-in-None-Some-clause-tallied
returns-in-None-Some-clause-tallied c old was cs t new =
    let change = c.args.change.now in
    let at : get c.args.homes.now.values change.key ≡ Some c.in-None-Some.home = sym c.get.ensures ∙ c.in-None-Some.is-1 in
    let slot : Slot = record { home = c.in-None-Some.home; block = c.zero_block-block.result } in
    counted old _ _ was _ _ _ _ _ c.remove.ensures.values (same _) c.push_reserved-in-None-Some.ensures.items
    (tallied_gone old c.args.homes.now.values was c.args.marks.now _ cs t change new slot.home slot c.in-None-Some.is-0 at (ap not c.zero_block-block.ensures.free))

pub returns-in-None-None-clause-planned : goal.returns-in-None-None-clause-planned
returns-in-None-None-clause-planned c lay old cs free p new =
    planned_none lay old (get c.args.homes.now.values) (marked c.args.marks.now) _ cs p c.args.change.now new c.in-None-None.is-0 (sym c.get.ensures ∙ c.in-None-None.is-1)

pub returns-in-None-None-clause-tallied : goal.returns-in-None-None-clause-tallied
returns-in-None-None-clause-tallied c old was cs t new =
    tallied_none old c.args.homes.now.values was c.args.marks.now _ cs t c.args.change.now new c.in-None-None.is-0 (sym c.get.ensures ∙ c.in-None-None.is-1)
