-- One home more is noted, whatever it holds.
use Rattle.std.proofs.Common.{◌≡◌, ℕ, ◌+◌, ◌<◌, ◌≤◌, Bool, true, false, cond, slice_set, List, [], ◌∷◌, length, Option, Some, None, sym, ◌∙◌, ap, subst, arith, ⊎_elim}
use Rattle.std.specs.Prelude.{is_some}
use Rattle.std.proofs.Math.ListN.{length-set}
use Rattle.std.proofs.lemmas.Bool.{cases_eq}
use Rattle.std.specs.Ordering.{eq_by_cmp}
use Rattle.std.specs.FinMap.{get, insert, len, len-insert}
use Rattle.s38_base.specs.declared.page.Key.{Key}
use Rattle.s38_base.specs.declared.page.Page.{Page}
use Rattle.s38_vault.specs.Directory.{NameObjects, keys_of}
use Rattle.s38_vault.specs.Keys.{key_cmp, key_cmp_total}
use Rattle.s38_vault.proofs.DirectoryLaws.{named_after}
use Rattle.s38_redo_log.specs.declared.layout.Layout.{Layout}
use Rattle.s38_redo_log.specs.Store.{is_home}
use Rattle.s38_pages.specs.Index.{Homes, marked, with_home}
use Rattle.s38_pages.specs.Scan.{IsScannedTo}
use Rattle.s38_pages.proofs.Contents.{key_cases, some_same, with_here, with_other}
use Rattle.s38_pages.proofs.Marking.{more_marked, set_other, set_there, unmarked_set}
use Rattle.s38_pages.proofs.Tallies.{get_inserted, keys_of-insert}

pub keeps_skip : (lay : Layout) (homes : Homes) (used : List Bool) (h : ℕ) → IsScannedTo lay homes used h → IsScannedTo lay homes used (h + 1)
keeps_skip lay homes used h k = record {
  index = k.index;
  below = λ q i at. let lt = k.below q i at in omega arith;
  free = k.free;
  above = λ i le home. k.above i (omega arith) home;
  size = k.size;
  objects = k.objects;
  parts = k.parts;
}

pub keeps_new : (lay : Layout) (homes : Homes) (used : List Bool) (h : ℕ) (key : Key) → IsScannedTo lay homes used h → is_home lay h ≡ true → h < length used → get homes key ≡ None → 1 ≤ key.object
    → IsScannedTo lay (insert homes key h) (slice_set used h true) (h + 1)
keeps_new lay homes used h key k home within none object = record {
  index = record {
    home = λ q i at. ⊎_elim (λ e. ap (is_home lay) (here q i e at) ∙ home) (λ other. k.index.home q i (there q i other at)) (key_cases q key);
    used_there = λ q i at. ⊎_elim (λ e. ap (marked (slice_set used h true)) (here q i e at) ∙ set_there used h true within) (λ other. more_marked used h i within (k.index.used_there q i (there q i other at))) (key_cases q key);
    apart = λ q r i at_q at_r. ⊎_elim
        (λ e. ⊎_elim (λ f. e ∙ sym f) (λ other. let lt = k.below r i (there r i other at_r) in let same = here q i e at_q in absurd (omega (arith, lt, same))) (key_cases r key))
        (λ other. ⊎_elim (λ f. let lt = k.below q i (there q i other at_q) in let same = here r i f at_r in absurd (omega (arith, lt, same))) (λ both. k.index.apart q r i (there q i other at_q) (there r i both at_r)) (key_cases r key))
        (key_cases q key);
  };
  below = λ q i at. ⊎_elim (λ e. let same = here q i e at in omega (arith, same)) (λ other. let lt = k.below q i (there q i other at) in omega (arith, lt)) (key_cases q key);
  free = λ i lt not_marked. k.free i (omega (arith, lt, length-set used h true)) (was i not_marked);
  above = λ i le is. set_other used h i true (λ e. omega (arith, e, le)) ∙ k.above i (omega (arith, le)) is;
  size = length-set used h true ∙ k.size;
  objects = subst NameObjects (sym (keys_of-insert homes key h)) (named_after (keys_of homes) (record { key = key; page = Some any } ∷ []) k.objects (object, tt));
  parts =
      let one = unmarked_set used h within (k.above h (omega arith) home) in
      let more : len (insert homes key h) ≡ len homes + 1 = len-insert key_cmp_total homes key h ∙ ap (λ b. cond b (len homes) (len homes + 1)) (ap is_some none) in
      omega (arith, one, more, k.parts);
}
  where
    any : Page
    any = record { bytes = []; tags = 0 }

    indexed : get (insert homes key h) ≡ with_home (get homes) key (Some h)
    indexed = get_inserted homes key h

    here : (q : Key) (i : ℕ) → q ≡ key → get (insert homes key h) q ≡ Some i → i ≡ h
    here q i e at = some_same i h (sym at ∙ ap (λ (ix : Key → Option ℕ). ix q) indexed ∙ with_here (get homes) key (Some h) q e)

    there : (q : Key) (i : ℕ) → eq_by_cmp key_cmp q key ≡ false → get (insert homes key h) q ≡ Some i → get homes q ≡ Some i
    there q i other at = sym (with_other (get homes) key (Some h) q other) ∙ sym (ap (λ (ix : Key → Option ℕ). ix q) indexed) ∙ at

    was : (i : ℕ) → marked (slice_set used h true) i ≡ false → marked used i ≡ false
    was i e = ⊎_elim (λ same. absurd (true_false (sym (set_there used h true within) ∙ ap (marked (slice_set used h true)) (sym same) ∙ e))) (λ other. sym (set_other used h i true other) ∙ e) (cases_eq i h)
      where
        true_false : true ≡ false → ⊥
        true_false x = cc

-- along equations
pub keeps_moved : (lay : Layout) (m n : Homes) (used later : List Bool) (h : ℕ) → n ≡ m → later ≡ used → IsScannedTo lay m used h → IsScannedTo lay n later h
keeps_moved lay m n used later h e u k = subst (λ x. IsScannedTo lay x later h) (sym e) (subst (λ x. IsScannedTo lay m x h) (sym u) k)
