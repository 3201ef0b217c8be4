use Rattle.std.proofs.Common.{◌≡◌, ◌∙◌, ◌++◌, ◌-◌, List, ap, append_assoc, arith, refl, subst, sym}
use Rattle.s38_base.specs.declared.page.Change.{Change}
use Rattle.s38_checkpoint.specs.Closing.{closing}
use Rattle.s38_durable_state.specs.Represents.{ceiling_parts, parts_at}
use Rattle.s38_page_diff.specs.Differences.{IsWanted, differences}
use Rattle.s38_image.specs.PartPlaces.{ceiling_key}
use Rattle.s38_page_diff.proofs.reconcile.KeyLaws.{all_known, fine_next, no_next}
use Rattle.s38_page_diff.proofs.reconcile.SoFarLaws.{passed, stays_keys, wanted_whole}
use Rattle.s38_page_diff.specs.reconcile.Replacing.{range_of, short_range}
use Rattle.s38_page_diff.specs.reconcile.Walking.{AreAt}
use Rattle.std.specs.FinMap.{contains_key}
use Rattle.s38_vault.specs.Directory.{Keys}
use Rattle.s38_checkpoint.proofs.PassLaws.{no_parts}
use Rattle.s38_checkpoint.proofs.differences.add_rest.Goals as goal

pub returns-clause-so_far : goal.returns-clause-so_far
returns-clause-so_far g c = λ units none was.
    let V = g.V.Vault in
    let held = c.args.objects.now in
    let wants = parts_at (closing units held) in
    let old = c.args.vault.now in
    let keys = (V.view old).keys in
    let parts = c.deref.result.now in
    let is : wants ceiling_key ≡ parts = sym (c.deref.ensures.value ∙ c.in_ok-parts.ensures.parts ∙ ap ceiling_parts c.ceiling.ensures) in
    passed keys keys (V.holds old) (V.holds old) wants c.args.done (ceiling_key - 1) ceiling_key c.args.into.now.items c.add_strangers.new.into.items c.add_wanted.new.into.items
    refl (λ m h. h) (λ m h. h) refl
    (c.in_ok-add_strangers.ensures.so_far wants (λ k above below. no_parts units held k (omega (arith, below)) (none k above)))
    (subst (λ (ws : List Change). IsWanted (range_of ceiling_key) ws) (sym is) (wanted_whole ceiling_key parts (subst (λ (ws : List Change). IsWanted (short_range ceiling_key) ws) (sym c.deref.ensures.value) c.in_ok-parts.ensures.wanted)))
    (subst (λ (ws : List Change). AreAt keys (V.holds old) ceiling_key ws c.add_strangers.new.into.items c.add_wanted.new.into.items) (sym is) c.in_ok-add_wanted.ensures.at) was

pub returns-clause-kept : goal.returns-clause-kept
returns-clause-kept g c =
    let items = c.args.into.now.items in
    let strangers = c.in_ok-add_strangers.ensures.kept in
    let own = c.in_ok-add_wanted.ensures.at in
    let ceiling = differences own.pages (range_of ceiling_key) c.deref.result.now in
    (strangers.0 ++ ceiling, own.read ∙ ap (λ (cs : List Change). cs ++ ceiling) strangers.1 ∙ append_assoc items strangers.0 ceiling)

pub returns-clause-known : goal.returns-clause-known
returns-clause-known g c = λ fine.
    let V = g.V.Vault in
    let keys = (V.view c.args.vault.now).keys in
    let after = stays_keys c.args.vault.now c.add_wanted.new.vault c.add_wanted.ensures.stays in
    let next = c.next_number-behind in
    let none = no_next next.result ceiling_key next.ensures.behind next.ensures.within in
    all_known keys ceiling_key
    (λ key behind. ap (λ (ks : Keys). contains_key ks key) (sym after) ∙ next.ensures.rest (omega arith) none key behind)
    (fine_next keys (ceiling_key - 1) ceiling_key (omega arith) (omega arith) (c.in_ok-add_strangers.ensures.fine fine))
