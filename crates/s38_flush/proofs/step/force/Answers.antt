use Rattle.std.proofs.Common.{◌≡◌, ◌+◌, ◌<◌, ◌≤◌, ◌∙◌, List, ap, arith, subst, sym, ℕ}
use Rattle.std.specs.FinMap.{get}
use Rattle.s38_base.specs.declared.page.Change.{Change}
use Rattle.s38_durable_state.specs.Durable.{Durable, durable_after}
use Rattle.s38_page_diff.proofs.FaultLaws.{handed, if_full, never_bad_put, unread_bad, unread_full, unread_less}
use Rattle.s38_page_diff.proofs.reconcile.SoFarLaws.{stays_on}
use Rattle.s38_rules.specs.state.State.{State}
use Rattle.s38_vault.specs.Content.{Content, changed}
use Rattle.s38_vault.specs.Directory.{Keys, new_keys}
use Rattle.s38_vault.specs.Vaults.{VaultView}
use Rattle.s38_flush.proofs.ForceLaws.{AreForced, during_known, full_known, headers_after, once_known, put_known, represents_known}
use Rattle.s38_space_map.specs.Forcings.{all_forced}
use Rattle.s38_page_diff.specs.FlushFaults.{IfBad, IfFull, IsFullFor}
use Rattle.s38_flush.specs.Leftovers.{first_changes, later_changes}
use Rattle.s38_flush.specs.Putting.{AreTurns, IsBetweenPuts}
use Rattle.s38_flush.specs.Stepping.{HaveHeaders, IsDue, Precedes, ceiling_changes, object_changes}
use Rattle.s38_page_diff.specs.declared.fault.FlushFault.{FlushFault}
use Rattle.s38_flush.proofs.step.force.Goals as goal

pub turns_of-requires-clause-rising : goal.turns_of-requires-clause-rising
turns_of-requires-clause-rising g c = c.in_ok-add_objects.ensures.rising

pub turns_of-requires-clause-objects : goal.turns_of-requires-clause-objects
turns_of-requires-clause-objects g c = c.in_ok-add_objects.ensures.objects

pub put_each-requires-clause-turns : goal.put_each-requires-clause-turns
put_each-requires-clause-turns g c =
    subst (λ (cs : List Change). AreTurns cs c.deref-3.result.now) (sym c.deref-2.ensures.value)
    (subst (λ (cs : List Change). AreTurns c.in_ok-turns.turns.first.items cs) (sym c.deref-3.ensures.value) c.in_ok-turns.ensures.turns)

pub returns-in_err-add_objects-clause-full : goal.returns-in_err-add_objects-clause-full
returns-in_err-add_objects-clause-full g c =
    let V = g.V.Vault in
    let old = c.args.vault.now in
    let h = c.args.objects.now in
    let us = c.args.units.now in
    let all = all_forced c.args.all.now in
    let fault = c.in_err-add_objects.field-0.0 in
    handed (λ (e : FlushFault). (m : Content) (d : Durable) (s : State) → V.holds old m → Precedes h us m d s
    → IsFullFor (new_keys (V.view old).keys (ceiling_changes all (get m) (durable_after all d s)) + new_keys (V.view old).keys (object_changes all (get m) (durable_after all d s))) (V.view old).free e)
    c.from_residual.result fault c.from_residual.ensures.1
    (λ m d s held p. unread_full _ _ _ fault c.in_err-add_objects.ensures.bad)

pub returns-in_err-add_objects-clause-bad : goal.returns-in_err-add_objects-clause-bad
returns-in_err-add_objects-clause-bad g c =
    let V = g.V.Vault in
    let old = c.args.vault.now in
    let h = c.args.objects.now in
    let us = c.args.units.now in
    let all = all_forced c.args.all.now in
    let fault = c.in_err-add_objects.field-0.0 in
    handed (λ (e : FlushFault). IfBad ((m : Content) (d : Durable) (s : State) → V.holds old m → Precedes h us m d s → ⊥) e)
    c.from_residual.result fault c.from_residual.ensures.1 (unread_bad _ _ (λ bad. bad) fault c.in_err-add_objects.ensures.bad)

pub returns-in_err-add_ceiling-clause-full : goal.returns-in_err-add_ceiling-clause-full
returns-in_err-add_ceiling-clause-full g c =
    let V = g.V.Vault in
    let old = c.args.vault.now in
    let h = c.args.objects.now in
    let us = c.args.units.now in
    let all = all_forced c.args.all.now in
    let fault = c.in_err-add_ceiling.field-0.0 in
    handed (λ (e : FlushFault). (m : Content) (d : Durable) (s : State) → V.holds old m → Precedes h us m d s
    → IsFullFor (new_keys (V.view old).keys (ceiling_changes all (get m) (durable_after all d s)) + new_keys (V.view old).keys (object_changes all (get m) (durable_after all d s))) (V.view old).free e)
    c.from_residual-in_err-add_ceiling.result fault c.from_residual-in_err-add_ceiling.ensures.1
    (λ m d s held p. unread_full _ _ _ fault c.in_err-add_ceiling.ensures.bad)

pub returns-in_err-add_ceiling-clause-bad : goal.returns-in_err-add_ceiling-clause-bad
returns-in_err-add_ceiling-clause-bad g c =
    let V = g.V.Vault in
    let old = c.args.vault.now in
    let h = c.args.objects.now in
    let us = c.args.units.now in
    let all = all_forced c.args.all.now in
    let fault = c.in_err-add_ceiling.field-0.0 in
    handed (λ (e : FlushFault). IfBad ((m : Content) (d : Durable) (s : State) → V.holds old m → Precedes h us m d s → ⊥) e)
    c.from_residual-in_err-add_ceiling.result fault c.from_residual-in_err-add_ceiling.ensures.1 (unread_bad _ _ (λ bad. absurd bad) fault c.in_err-add_ceiling.ensures.bad)

pub returns-in_err-put_each-clause-full : goal.returns-in_err-put_each-clause-full
returns-in_err-put_each-clause-full g c =
    let V = g.V.Vault in
    let old = c.args.vault.now in
    let h = c.args.objects.now in
    let us = c.args.units.now in
    let all = all_forced c.args.all.now in
    let ceiling = c.deref.result.now in
    let others = c.add_objects.new.into.items in
    let first = c.deref-2.result.now in
    let later = c.deref-3.result.now in
    let known : AreForced (V.holds old) all h us ceiling others = record {
      first = λ m d s held p. c.deref.ensures.value ∙ c.in_ok-add_ceiling.ensures.told m d s ((c.add_objects.ensures.stays.held m).0 held) p.held;
      last = λ m d s held p. c.in_ok-add_objects.ensures.told m d s held p;
    } in
    let stays = stays_on old c.add_objects.new.vault c.add_ceiling.new.vault c.add_objects.ensures.stays c.add_ceiling.ensures.stays in
    let fault = c.in_err-put_each.field-0.0 in
    let sum : (keys : Keys) → new_keys keys first + new_keys keys later ≡ new_keys keys others =
    λ keys. (λ i. new_keys keys (c.deref-2.ensures.value i) + new_keys keys (c.deref-3.ensures.value i)) ∙ c.in_ok-turns.ensures.keys keys in
    handed (λ (e : FlushFault). (m : Content) (d : Durable) (s : State) → V.holds old m → Precedes h us m d s
    → IsFullFor (new_keys (V.view old).keys (ceiling_changes all (get m) (durable_after all d s)) + new_keys (V.view old).keys (object_changes all (get m) (durable_after all d s))) (V.view old).free e)
    c.from_residual-in_err-put_each.result fault c.from_residual-in_err-put_each.ensures.1
    (λ m d s held p. full_known c.requires.numbers known (V.view old) (V.view c.add_ceiling.new.vault) fault first later m d s held p stays.same sum c.in_err-put_each.ensures.full)

pub returns-in_err-put_each-clause-during : goal.returns-in_err-put_each-clause-during
returns-in_err-put_each-clause-during g c = λ m d s held p t n low high left.
    let V = g.V.Vault in
    let old = c.args.vault.now in
    let h = c.args.objects.now in
    let us = c.args.units.now in
    let all = all_forced c.args.all.now in
    let ceiling = c.deref.result.now in
    let others = c.add_objects.new.into.items in
    let first = c.deref-2.result.now in
    let later = c.deref-3.result.now in
    let known : AreForced (V.holds old) all h us ceiling others = record {
      first = λ m d s held p. c.deref.ensures.value ∙ c.in_ok-add_ceiling.ensures.told m d s ((c.add_objects.ensures.stays.held m).0 held) p.held;
      last = λ m d s held p. c.in_ok-add_objects.ensures.told m d s held p;
    } in
    let stays = stays_on old c.add_objects.new.vault c.add_ceiling.new.vault c.add_objects.ensures.stays c.add_ceiling.ensures.stays in
    let begun = subst (λ (v : VaultView). v.moment < t) (sym stays.same) low in
    let between = subst (λ (v : VaultView). IsBetweenPuts v.shape.most m ceiling first later n) stays.same (c.put_each.ensures.during m ((stays.held m).0 held) t n begun high left) in
    let front = c.deref-2.ensures.value ∙ c.in_ok-turns.ensures.first all d s p.held ∙ ap (λ (k : ℕ). first_changes k (durable_after all d s) others) c.most-most.ensures.most in
    let back = c.deref-3.ensures.value ∙ c.in_ok-turns.ensures.later all d s p.held ∙ ap (λ (k : ℕ). later_changes k (durable_after all d s) others) c.most-most.ensures.most in
    during_known c.requires.numbers known (V.view old).shape.most m n d s first later held p front back between

pub returns-in_err-put_each-clause-once : goal.returns-in_err-put_each-clause-once
returns-in_err-put_each-clause-once g c = λ m d s held p due small t n low high left.
    let V = g.V.Vault in
    let old = c.args.vault.now in
    let h = c.args.objects.now in
    let us = c.args.units.now in
    let all = all_forced c.args.all.now in
    let ceiling = c.deref.result.now in
    let others = c.add_objects.new.into.items in
    let first = c.deref-2.result.now in
    let later = c.deref-3.result.now in
    let known : AreForced (V.holds old) all h us ceiling others = record {
      first = λ m d s held p. c.deref.ensures.value ∙ c.in_ok-add_ceiling.ensures.told m d s ((c.add_objects.ensures.stays.held m).0 held) p.held;
      last = λ m d s held p. c.in_ok-add_objects.ensures.told m d s held p;
    } in
    let stays = stays_on old c.add_objects.new.vault c.add_ceiling.new.vault c.add_objects.ensures.stays c.add_ceiling.ensures.stays in
    let begun = subst (λ (v : VaultView). v.moment < t) (sym stays.same) low in
    let between = subst (λ (v : VaultView). IsBetweenPuts v.shape.most m ceiling first later n) stays.same (c.put_each.ensures.during m ((stays.held m).0 held) t n begun high left) in
    let most : 1 ≤ (V.view old).shape.most = omega (arith, c.most-most.ensures.limits.0) in
    let front = c.deref-2.ensures.value ∙ c.in_ok-turns.ensures.first all d s p.held ∙ ap (λ (k : ℕ). first_changes k (durable_after all d s) others) c.most-most.ensures.most in
    let back = c.deref-3.ensures.value ∙ c.in_ok-turns.ensures.later all d s p.held ∙ ap (λ (k : ℕ). later_changes k (durable_after all d s) others) c.most-most.ensures.most in
    once_known c.requires.numbers known (V.view old).shape.most m n d s first later held p due front back most small between

pub returns-clause-during : goal.returns-clause-during
returns-clause-during g c = λ m d s held p t n low high left.
    let V = g.V.Vault in
    let old = c.args.vault.now in
    let h = c.args.objects.now in
    let us = c.args.units.now in
    let all = all_forced c.args.all.now in
    let ceiling = c.deref.result.now in
    let others = c.add_objects.new.into.items in
    let first = c.deref-2.result.now in
    let later = c.deref-3.result.now in
    let known : AreForced (V.holds old) all h us ceiling others = record {
      first = λ m d s held p. c.deref.ensures.value ∙ c.in_ok-add_ceiling.ensures.told m d s ((c.add_objects.ensures.stays.held m).0 held) p.held;
      last = λ m d s held p. c.in_ok-add_objects.ensures.told m d s held p;
    } in
    let stays = stays_on old c.add_objects.new.vault c.add_ceiling.new.vault c.add_objects.ensures.stays c.add_ceiling.ensures.stays in
    let begun = subst (λ (v : VaultView). v.moment < t) (sym stays.same) low in
    let between = subst (λ (v : VaultView). IsBetweenPuts v.shape.most m ceiling first later n) stays.same (c.put_each.ensures.during m ((stays.held m).0 held) t n begun high left) in
    let front = c.deref-2.ensures.value ∙ c.in_ok-turns.ensures.first all d s p.held ∙ ap (λ (k : ℕ). first_changes k (durable_after all d s) others) c.most-most.ensures.most in
    let back = c.deref-3.ensures.value ∙ c.in_ok-turns.ensures.later all d s p.held ∙ ap (λ (k : ℕ). later_changes k (durable_after all d s) others) c.most-most.ensures.most in
    during_known c.requires.numbers known (V.view old).shape.most m n d s first later held p front back between

pub returns-clause-once : goal.returns-clause-once
returns-clause-once g c = λ m d s held p due small t n low high left.
    let V = g.V.Vault in
    let old = c.args.vault.now in
    let h = c.args.objects.now in
    let us = c.args.units.now in
    let all = all_forced c.args.all.now in
    let ceiling = c.deref.result.now in
    let others = c.add_objects.new.into.items in
    let first = c.deref-2.result.now in
    let later = c.deref-3.result.now in
    let known : AreForced (V.holds old) all h us ceiling others = record {
      first = λ m d s held p. c.deref.ensures.value ∙ c.in_ok-add_ceiling.ensures.told m d s ((c.add_objects.ensures.stays.held m).0 held) p.held;
      last = λ m d s held p. c.in_ok-add_objects.ensures.told m d s held p;
    } in
    let stays = stays_on old c.add_objects.new.vault c.add_ceiling.new.vault c.add_objects.ensures.stays c.add_ceiling.ensures.stays in
    let begun = subst (λ (v : VaultView). v.moment < t) (sym stays.same) low in
    let between = subst (λ (v : VaultView). IsBetweenPuts v.shape.most m ceiling first later n) stays.same (c.put_each.ensures.during m ((stays.held m).0 held) t n begun high left) in
    let most : 1 ≤ (V.view old).shape.most = omega (arith, c.most-most.ensures.limits.0) in
    let front = c.deref-2.ensures.value ∙ c.in_ok-turns.ensures.first all d s p.held ∙ ap (λ (k : ℕ). first_changes k (durable_after all d s) others) c.most-most.ensures.most in
    let back = c.deref-3.ensures.value ∙ c.in_ok-turns.ensures.later all d s p.held ∙ ap (λ (k : ℕ). later_changes k (durable_after all d s) others) c.most-most.ensures.most in
    once_known c.requires.numbers known (V.view old).shape.most m n d s first later held p due front back most small between

pub returns-clause-holds : goal.returns-clause-holds
returns-clause-holds g c = λ m d s held p.
    let V = g.V.Vault in
    let old = c.args.vault.now in
    let h = c.args.objects.now in
    let us = c.args.units.now in
    let all = all_forced c.args.all.now in
    let ceiling = c.deref.result.now in
    let others = c.add_objects.new.into.items in
    let first = c.deref-2.result.now in
    let later = c.deref-3.result.now in
    let known : AreForced (V.holds old) all h us ceiling others = record {
      first = λ m d s held p. c.deref.ensures.value ∙ c.in_ok-add_ceiling.ensures.told m d s ((c.add_objects.ensures.stays.held m).0 held) p.held;
      last = λ m d s held p. c.in_ok-add_objects.ensures.told m d s held p;
    } in
    let stays = stays_on old c.add_objects.new.vault c.add_ceiling.new.vault c.add_objects.ensures.stays c.add_ceiling.ensures.stays in
    let whole : (k : Content) → changed (changed k first) later ≡ changed k others =
    λ k. (λ i. changed (changed k (c.deref-2.ensures.value i)) (c.deref-3.ensures.value i)) ∙ c.in_ok-turns.ensures.same k in
    subst (λ (n : Content). V.holds c.put_each.new.vault n) (whole (changed m ceiling) ∙ put_known c.requires.numbers known m d s held p) (c.in_ok-put_each.ensures.holds m ((stays.held m).0 held))

pub returns-clause-told : goal.returns-clause-told
returns-clause-told g c = λ n left.
    let was = c.in_ok-put_each.ensures.told n left in
    (was.0, (c.add_objects.ensures.stays.held was.0).1 ((c.add_ceiling.ensures.stays.held was.0).1 was.1.0))

pub returns-clause-stands : goal.returns-clause-stands
returns-clause-stands g c = λ m n d s held left p due.
    let V = g.V.Vault in
    let old = c.args.vault.now in
    let h = c.args.objects.now in
    let us = c.args.units.now in
    let all = all_forced c.args.all.now in
    let ceiling = c.deref.result.now in
    let others = c.add_objects.new.into.items in
    let first = c.deref-2.result.now in
    let later = c.deref-3.result.now in
    let known : AreForced (V.holds old) all h us ceiling others = record {
      first = λ m d s held p. c.deref.ensures.value ∙ c.in_ok-add_ceiling.ensures.told m d s ((c.add_objects.ensures.stays.held m).0 held) p.held;
      last = λ m d s held p. c.in_ok-add_objects.ensures.told m d s held p;
    } in
    let stays = stays_on old c.add_objects.new.vault c.add_ceiling.new.vault c.add_objects.ensures.stays c.add_ceiling.ensures.stays in
    let whole : (k : Content) → changed (changed k first) later ≡ changed k others =
    λ k. (λ i. changed (changed k (c.deref-2.ensures.value i)) (c.deref-3.ensures.value i)) ∙ c.in_ok-turns.ensures.same k in
    let was = c.in_ok-put_each.ensures.told n left in
    let same = c.moment-moment.ensures.one was.0 m ((stays.held was.0).1 was.1.0) held in
    represents_known c.requires.numbers known m n d s held p due (was.1.1 ∙ whole (changed was.0 ceiling) ∙ ap (λ (k : Content). changed (changed k ceiling) others) same)

pub returns-clause-headers : goal.returns-clause-headers
returns-clause-headers g c = λ m d s held p due. headers_after (all_forced c.args.all.now) d s p.headers due (c.in_ok-add_objects.ensures.headers m d s held p)

pub returns-clause-after : goal.returns-clause-after
returns-clause-after g c = λ m n d s held p left.
    let V = g.V.Vault in
    let old = c.args.vault.now in
    let h = c.args.objects.now in
    let us = c.args.units.now in
    let all = all_forced c.args.all.now in
    let ceiling = c.deref.result.now in
    let others = c.add_objects.new.into.items in
    let first = c.deref-2.result.now in
    let later = c.deref-3.result.now in
    let known : AreForced (V.holds old) all h us ceiling others = record {
      first = λ m d s held p. c.deref.ensures.value ∙ c.in_ok-add_ceiling.ensures.told m d s ((c.add_objects.ensures.stays.held m).0 held) p.held;
      last = λ m d s held p. c.in_ok-add_objects.ensures.told m d s held p;
    } in
    let stays = stays_on old c.add_objects.new.vault c.add_ceiling.new.vault c.add_objects.ensures.stays c.add_ceiling.ensures.stays in
    let whole : (k : Content) → changed (changed k first) later ≡ changed k others =
    λ k. (λ i. changed (changed k (c.deref-2.ensures.value i)) (c.deref-3.ensures.value i)) ∙ c.in_ok-turns.ensures.same k in
    c.in_ok-put_each.ensures.after m n ((stays.held m).0 held) left ∙ whole (changed m ceiling) ∙ put_known c.requires.numbers known m d s held p

pub returns-in_err-put_each-clause-bad : goal.returns-in_err-put_each-clause-bad
returns-in_err-put_each-clause-bad g c =
    let V = g.V.Vault in
    let old = c.args.vault.now in
    let h = c.args.objects.now in
    let us = c.args.units.now in
    let fault = c.in_err-put_each.field-0.0 in
    handed (λ (e : FlushFault). IfBad ((m : Content) (d : Durable) (s : State) → V.holds old m → Precedes h us m d s → ⊥) e)
    c.from_residual-in_err-put_each.result fault c.from_residual-in_err-put_each.ensures.1 (never_bad_put _ fault c.in_err-put_each.ensures.bad)

pub returns-in_err-add_objects-clause-full_headers : goal.returns-in_err-add_objects-clause-full_headers
returns-in_err-add_objects-clause-full_headers g c =
    let V = g.V.Vault in
    let all = all_forced c.args.all.now in
    let fault = c.in_err-add_objects.field-0.0 in
    handed (λ (e : FlushFault). IfFull ((m : Content) (d : Durable) (s : State) → V.holds c.args.vault.now m → Precedes c.args.objects.now c.args.units.now m d s → IsDue all d s → HaveHeaders (durable_after all d s)) e)
    c.from_residual.result fault c.from_residual.ensures.1 (unread_less _ _ fault c.in_err-add_objects.ensures.bad)

pub returns-in_err-add_ceiling-clause-full_headers : goal.returns-in_err-add_ceiling-clause-full_headers
returns-in_err-add_ceiling-clause-full_headers g c =
    let V = g.V.Vault in
    let all = all_forced c.args.all.now in
    let fault = c.in_err-add_ceiling.field-0.0 in
    handed (λ (e : FlushFault). IfFull ((m : Content) (d : Durable) (s : State) → V.holds c.args.vault.now m → Precedes c.args.objects.now c.args.units.now m d s → IsDue all d s → HaveHeaders (durable_after all d s)) e)
    c.from_residual-in_err-add_ceiling.result fault c.from_residual-in_err-add_ceiling.ensures.1 (unread_less _ _ fault c.in_err-add_ceiling.ensures.bad)

pub returns-in_err-put_each-clause-full_headers : goal.returns-in_err-put_each-clause-full_headers
returns-in_err-put_each-clause-full_headers g c =
    let V = g.V.Vault in
    let all = all_forced c.args.all.now in
    let fault = c.in_err-put_each.field-0.0 in
    handed (λ (e : FlushFault). IfFull ((m : Content) (d : Durable) (s : State) → V.holds c.args.vault.now m → Precedes c.args.objects.now c.args.units.now m d s → IsDue all d s → HaveHeaders (durable_after all d s)) e)
    c.from_residual-in_err-put_each.result fault c.from_residual-in_err-put_each.ensures.1
    (if_full _ fault (λ m d s held p due. headers_after all d s p.headers due (c.in_ok-add_objects.ensures.headers m d s held p)))

pub returns-in_err-add_objects-clause-moved : goal.returns-in_err-add_objects-clause-moved
returns-in_err-add_objects-clause-moved g c = λ m d s held p due more.
    let V = g.V.Vault in
    let same : (V.view c.add_objects.new.vault).moment ≡ (V.view c.args.vault.now).moment = ap (λ (v : VaultView). v.moment) c.add_objects.ensures.stays.same in
    absurd (omega (arith, same, more))

pub returns-in_err-add_ceiling-clause-moved : goal.returns-in_err-add_ceiling-clause-moved
returns-in_err-add_ceiling-clause-moved g c = λ m d s held p due more.
    let V = g.V.Vault in
    let stays = stays_on c.args.vault.now c.add_objects.new.vault c.add_ceiling.new.vault c.add_objects.ensures.stays c.add_ceiling.ensures.stays in
    let same : (V.view c.add_ceiling.new.vault).moment ≡ (V.view c.args.vault.now).moment = ap (λ (v : VaultView). v.moment) stays.same in
    absurd (omega (arith, same, more))

pub returns-in_err-turns-clause-moved : goal.returns-in_err-turns-clause-moved
returns-in_err-turns-clause-moved g c = λ m d s held p due more.
    let V = g.V.Vault in
    let stays = stays_on c.args.vault.now c.add_objects.new.vault c.add_ceiling.new.vault c.add_objects.ensures.stays c.add_ceiling.ensures.stays in
    let same : (V.view c.add_ceiling.new.vault).moment ≡ (V.view c.args.vault.now).moment = ap (λ (v : VaultView). v.moment) stays.same in
    absurd (omega (arith, same, more))

pub returns-in_err-put_each-clause-moved : goal.returns-in_err-put_each-clause-moved
returns-in_err-put_each-clause-moved g c = λ m d s held p due more. headers_after (all_forced c.args.all.now) d s p.headers due (c.in_ok-add_objects.ensures.headers m d s held p)

pub returns-clause-moved : goal.returns-clause-moved
returns-clause-moved g c = λ m d s held p due more. headers_after (all_forced c.args.all.now) d s p.headers due (c.in_ok-add_objects.ensures.headers m d s held p)
