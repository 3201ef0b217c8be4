-- Changes of the ceiling, and changes of the objects.
use Rattle.std.proofs.Common.{◌≡◌, ◌+◌, ◌<◌, ◌≤◌, ◌∙◌, ◌∷◌, [], Bool, List, arith, cond, false, length, not, refl, sym, true, ℕ}
use Rattle.std.proofs.lemmas.List.Sums.{sum_by-cons}
use Rattle.std.specs.FinMap.{contains_key}
use Rattle.std.specs.List.{AllByRecursion}
use Rattle.std.specs.Ordering.{eq_by_cmp}
use Rattle.std.specs.Prelude.{◌&&◌, Option, is_some}
use Rattle.s38_base.specs.declared.page.Change.{Change}
use Rattle.s38_base.specs.declared.page.Page.{Page}
use Rattle.s38_base.specs.declared.page.Key.{Key}
use Rattle.s38_page_diff.proofs.WalkLaws.{not_below, object_below}
use Rattle.s38_page_diff.proofs.reconcile.SoFarLaws.{all_of}
use Rattle.s38_vault.proofs.DirectoryLaws.{contains-other}
use Rattle.s38_vault.specs.Content.{HaveObjects}
use Rattle.s38_vault.specs.Directory.{Keys, changed_keys, is_new, new_keys, with_key}
use Rattle.s38_vault.specs.Keys.{key_cmp}

-- no more keys are new than there are changes
pub new_few : (ks : Keys) (cs : List Change) → new_keys ks cs ≤ length cs
new_few ks [] = omega arith
new_few ks (c ∷ cs) = by (is_new ks c) (sum_by-cons (λ d. cond (is_new ks d) 1 0) c cs) (new_few ks cs)
  where
    by : (b : Bool) → new_keys ks (c ∷ cs) ≡ cond b 1 0 + new_keys ks cs → new_keys ks cs ≤ length cs → new_keys ks (c ∷ cs) ≤ length (c ∷ cs)
    by true sum rest = omega (arith, sum, rest)
    by false sum rest = omega (arith, sum, rest)

-- which other keys are new does not hang on a key
pub new_others : (ks : Keys) (k : Key) (o : Option Page) (cs : List Change) → AllByRecursion (λ c. eq_by_cmp key_cmp c.key k ≡ false) cs → new_keys (with_key ks k o) cs ≡ new_keys ks cs
new_others ks k o [] h = refl
new_others ks k o (d ∷ cs) h =
    let same : contains_key (with_key ks k o) d.key ≡ contains_key ks d.key = contains-other ks k d.key o h.0 in
    sum_by-cons (λ c. cond (is_new (with_key ks k o) c) 1 0) d cs
    ∙ (λ i. cond (is_some d.page && not (same i)) 1 0 + new_others ks k o cs h.1 i)
    ∙ sym (sum_by-cons (λ c. cond (is_new ks c) 1 0) d cs)

-- which keys below a number are new does not hang on a key of it
new_beside : (ks : Keys) (k : Key) (o : Option Page) (cs : List Change) → AllByRecursion (λ c. c.key.object < k.object) cs → new_keys (with_key ks k o) cs ≡ new_keys ks cs
new_beside ks k o cs h = new_others ks k o cs (all_of _ _ cs (λ d low. not_below d.key k (object_below d.key k low)) h)

-- nor on changes of it
pub new_beside_all : (n : ℕ) (ks : Keys) (made cs : List Change) → AllByRecursion (λ c. c.key.object ≡ n) made → AllByRecursion (λ c. c.key.object < n) cs → new_keys (changed_keys ks made) cs ≡ new_keys ks cs
new_beside_all n ks [] cs own low = refl
new_beside_all n ks (c ∷ made) cs own low =
    new_beside_all n (with_key ks c.key c.page) made cs own.1 low
    ∙ new_beside ks c.key c.page cs (all_of _ _ cs (λ d less. omega (arith, less, own.0)) low)
