use Rattle.std.proofs.Common.{◌≡◌, ℕ, List, ◌∷◌, ap, arith, length, map, subst, sym, ◌∙◌}
use Rattle.std.proofs.lemmas.Map.Iter.{rest_all, rest_more}
use Rattle.std.specs.Map.Iter.{deref_pair}
use Rattle.std.specs.FinMap.{find, get}
use Rattle.std.specs.List.Sorted.{IsStrictlySortedBy}
use Rattle.s38_base.specs.declared.page.Key.{Key}
use Rattle.s38_vault.specs.Keys.{key_cmp}
use Rattle.s38_pages.specs.Index.{Homes}
use Rattle.s38_pages.proofs.Trees.{either, filled_end, filled_more, filled_start, length_tree, rising_rest}
use Rattle.s38_pages.proofs.scan.fill.Goals as goal

pub loop-key-init : goal.loop-key-init
loop-key-init c =
    let tree = c.args.found.now in
    let all = c.into_iter-key-iterator.ensures.into_iter_gives ∙ c.iter-key-items.ensures.rest in
    let count = length_tree tree c.iter-key-items.ensures.ordered in
    let left = ap length all in
    record {
      rising = subst (λ (es : List (Key × ℕ)). IsStrictlySortedBy key_cmp (map (λ e. e.0) es)) (sym all) c.iter-key-items.ensures.ordered;
      room = omega (arith, count, left, c.requires.room);
      told = λ q. ap (λ (es : List (Key × ℕ)). either (find key_cmp q es) (get c.args.homes.now.values q)) all ∙ filled_start c.args.homes.now.values c.requires.empty tree.entries q;
    }

pub loop-key-preserved : goal.loop-key-preserved
loop-key-preserved c =
    let homes = c.loop-key.homes.values in
    let rest = c.next.new.self in
    let one : Key × ℕ = (c.in-Some.key.now, c.in-Some.home.now) in
    let left : c.loop-key.key-iterator ≡ one ∷ rest = rest_more deref_pair _ _ _ (c.in-Some.key, c.in-Some.home) c.in-Some.is c.next.ensures.steps in
    let rising = subst (λ (es : List (Key × ℕ)). IsStrictlySortedBy key_cmp (map (λ e. e.0) es)) left c.loop-key.invariant.rising in
    let count = ap length left in
    record {
      rising = rising_rest one rest rising;
      room = omega (arith, count, c.insert.ensures.spare, c.loop-key.invariant.room);
      told = λ q.
          ap (λ (m : Homes). either (find key_cmp q rest) (get m q)) c.insert.ensures.values ∙ filled_more homes one rest rising q
          ∙ ap (λ (es : List (Key × ℕ)). either (find key_cmp q es) (get homes q)) (sym left) ∙ c.loop-key.invariant.told q;
    }

pub returns : goal.returns
returns c =
    let homes = c.loop-key.homes.values in
    let none = rest_all deref_pair _ _ _ c.in-None.is c.next.ensures.steps in
    filled_end homes c.args.found.now (λ q. ap (λ (es : List (Key × ℕ)). either (find key_cmp q es) (get homes q)) (sym none) ∙ c.loop-key.invariant.told q)
