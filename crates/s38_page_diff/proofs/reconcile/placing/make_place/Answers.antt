use Rattle.std.proofs.Common.{[], ◌≤◌, inl, length, refl, subst, sym, take, ◌∙◌}
use Rattle.std.proofs.lemmas.List.{take-append-drop}
use Rattle.s38_base.specs.declared.page.Change.{Change}
use Rattle.std.specs.Prelude.{List, drop}
use Rattle.s38_page_diff.proofs.reconcile.PlacedLaws.{rising_before}
use Rattle.s38_vault.specs.Content.{AreRising}
use Rattle.s38_page_diff.proofs.reconcile.placing.make_place.Goals as goal

pub returns-then-is_one_put-clause-placed : goal.returns-then-is_one_put-clause-placed
returns-then-is_one_put-clause-placed g c = record {
  front = [];
  parted = refl;
  made = λ m h. h;
  told = λ n h. (n, (h, refl));
  place = inl (refl, subst (λ (cs : List Change). length cs ≤ (g.V.Vault.view c.args.vault.now).shape.most) c.deref.ensures.value (c.if-is_one_put.ensures.few refl));
}

pub put_changes-requires-clause-rising : goal.put_changes-requires-clause-rising
put_changes-requires-clause-rising g c =
    let all = c.args.changes.now.items in
    let front = take c.args.mark all in
    subst AreRising (sym (c.deref-2.ensures.value ∙ c.in_ok-rest.ensures.front))
    (rising_before front (drop c.args.mark all) (subst AreRising (sym (take-append-drop c.args.mark all)) c.requires.rising))
