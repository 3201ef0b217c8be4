use Rattle.std.proofs.Common.{◌≡◌, ◌∙◌, ◌-◌, ◌<◌, ◌≤◌, ◌∷◌, [], List, Some, None, ap, arith, length, refl, subst, suc, sym}
use Rattle.std.specs.Prelude.{slice_get}
use Rattle.std.specs.FinMap.{keys}
use Rattle.std.proofs.lemmas.List.{length-append}
use Rattle.s38_base.specs.declared.page.Key.{Key}
use Rattle.s38_restart.specs.Parts.{key_before}
use Rattle.s38_vault.specs.Directory.{next_key}
use Rattle.s38_vault.specs.Vaults.{VaultView}
use Rattle.s38_restart.proofs.FineLaws.{fine_none, fine_push}
use Rattle.s38_restart.proofs.PartLaws.{have_push, keys_all, keys_on, next_is, object_of, parts_all, parts_on, same_keys, same_view, within}
use Rattle.std.specs.List.Sorted.{IsStrictlySortedBy}
use Rattle.s38_restart.proofs.RemoveLaws.{keys_in_order, rising_parts}
use Rattle.s38_vault.specs.Keys.{key_cmp}
use Rattle.s38_restart.proofs.reading.read_parts.Goals as goal

pub loop-key-init : goal.loop-key-init
loop-key-init g c = record {
  before = rw c.new-parts.ensures.items refl;
  few = rw c.new-parts.ensures.items (omega arith);
  parts = λ m h. rw c.new-parts.ensures.items refl;
  keys = rw c.new-parts.ensures.items refl;
  objects = rw c.new-parts.ensures.items tt;
  fine = rw c.new-parts.ensures.items fine_none;
  view = refl;
  holds = λ m. ((λ h. h), (λ h. h));
  past = λ t m low. ((λ h. h), (λ h. h));
}

pub loop-key-smaller : goal.loop-key-smaller
loop-key-smaller g c =
    let view = g.V.Vault.view c.args.vault.now in
    let old = c.loop-key.parts.items in
    let new = c.push.new.self.items in
    let next : next_key view.keys c.loop-key.before ≡ Some c.in-Some.key =
    ap (λ (v : VaultView). next_key v.keys c.loop-key.before) (sym c.loop-key.invariant.view) ∙ sym c.next_key.ensures.next ∙ c.in-Some.is in
    let there = sym (next_is view.keys (length old) c.loop-key.before c.loop-key.invariant.before c.loop-key.invariant.few) ∙ next in
    let smaller : length (keys view.keys) - length new < length (keys view.keys) - length old =
    omega (arith, within (keys view.keys) (length old) c.in-Some.key there, ap length c.in_ok-push.ensures.items, length-append old (c.in_ok-part.part ∷ [])) in
    smaller

pub loop-key-preserved : goal.loop-key-preserved
loop-key-preserved g c =
    let view = g.V.Vault.view c.args.vault.now in
    let old = c.loop-key.parts.items in
    let new = c.push.new.self.items in
    let was = c.loop-key.invariant in
    let next : next_key view.keys c.loop-key.before ≡ Some c.in-Some.key =
    ap (λ (v : VaultView). next_key v.keys c.loop-key.before) (sym was.view) ∙ sym c.next_key.ensures.next ∙ c.in-Some.is in
    let there : slice_get (keys view.keys) (length old) ≡ Some c.in-Some.key =
    sym (next_is view.keys (length old) c.loop-key.before was.before was.few) ∙ next in
    let count : length new ≡ suc (length old) =
    omega (arith, ap length c.in_ok-push.ensures.items, length-append old (c.in_ok-part.part ∷ [])) in
    record {
      before = sym there ∙ ap (key_before (keys view.keys)) (sym count);
      few = omega (arith, within (keys view.keys) (length old) c.in-Some.key there, count);
      parts = λ m h.
          parts_on m old new c.in-Some.key c.in_ok-part.part (was.parts m h)
          (subst (λ (ks : List Key). slice_get ks (length old) ≡ Some c.in-Some.key) (same_keys m view.keys (c.free-free.ensures.keys m h)) there)
          (c.in_ok-part.ensures.part m ((was.holds m).0 h)) c.in_ok-push.ensures.items;
      keys = keys_on (keys view.keys) old new c.in-Some.key c.in_ok-part.part was.keys there c.in_ok-part.ensures.key c.in_ok-push.ensures.items;
      objects = rw c.in_ok-push.ensures.items (have_push old c.in_ok-part.part was.objects (subst (λ (k : Key). 1 ≤ k.object) (sym c.in_ok-part.ensures.key) (object_of c.next_key.result c.in-Some.key c.in-Some.is c.next_key.ensures.object)));
      fine = rw c.in_ok-push.ensures.items (fine_push old c.in_ok-part.part was.fine c.in_ok-part.ensures.fine);
      view = same_view (g.V.Vault.view c.loop-key.vault) (g.V.Vault.view c.read_part.new.vault) c.read_part.ensures.stays c.in_ok-part.ensures.count ∙ was.view;
      holds = λ m. ((λ h. (c.read_part.ensures.holds m).0 ((was.holds m).0 h)), (λ h. (was.holds m).1 ((c.read_part.ensures.holds m).1 h)));
      past = λ t m low.
          let early = subst (λ (v : VaultView). t ≤ v.moment) (sym was.view) low in
          ((λ h. (c.read_part.ensures.past t m early).0 ((was.past t m low).0 h)), (λ h. (was.past t m low).1 ((c.read_part.ensures.past t m early).1 h)));
    }

pub returns-clause-parts : goal.returns-clause-parts
returns-clause-parts g c =
    let view = g.V.Vault.view c.args.vault.now in
    let parts = c.loop-key.parts.items in
    let was = c.loop-key.invariant in
    let next : next_key view.keys c.loop-key.before ≡ None =
    ap (λ (v : VaultView). next_key v.keys c.loop-key.before) (sym was.view) ∙ sym c.next_key.ensures.next ∙ c.in_default.is in
    let none : slice_get (keys view.keys) (length parts) ≡ None =
    sym (next_is view.keys (length parts) c.loop-key.before was.before was.few) ∙ next in
    λ m h. parts_all m parts (was.parts m h) (subst (λ (ks : List Key). slice_get ks (length parts) ≡ None) (same_keys m view.keys (c.free-free.ensures.keys m h)) none)

pub returns-clause-order : goal.returns-clause-order
returns-clause-order g c =
    let view = g.V.Vault.view c.args.vault.now in
    let parts = c.loop-key.parts.items in
    let was = c.loop-key.invariant in
    let next : next_key view.keys c.loop-key.before ≡ None =
    ap (λ (v : VaultView). next_key v.keys c.loop-key.before) (sym was.view) ∙ sym c.next_key.ensures.next ∙ c.in_default.is in
    let none : slice_get (keys view.keys) (length parts) ≡ None =
    sym (next_is view.keys (length parts) c.loop-key.before was.before was.few) ∙ next in
    rising_parts parts (subst (λ (ks : List Key). IsStrictlySortedBy key_cmp ks) (sym (keys_all (keys view.keys) parts was.keys none)) (keys_in_order view.keys))
