use Rattle.s38_page_diff.proofs.reconcile.putting.put_changes.Goals as goal

pub returns-clause-told : goal.returns-clause-told
returns-clause-told g c = λ n h.
    let was = c.in_ok-put_all.ensures.told n h in
    (was.0, ((c.make_room.ensures.holds was.0).1 was.1.0, was.1.1))
