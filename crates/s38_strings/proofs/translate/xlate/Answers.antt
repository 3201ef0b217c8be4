use Rattle.std.proofs.Common.{◌≡◌, ℕ, ◌<◌, ◌≤◌, List, length, get_or, map, min, rules, arith}
use Rattle.std.proofs.lemmas.List.{places, ext_get_or, get_or-map, length-map}
use Rattle.s38_strings.specs.Copies.{copied_left}
use Rattle.s38_strings.specs.Translate.{translated}
use Rattle.s38_strings.proofs.translate.xlate.Goals as goal

-- the first n bytes are f of the copied ones, and the rest is as it was
mapped : (f : ℕ → ℕ) (old new from : List ℕ) (n : ℕ) → length new ≡ length old → n ≡ min (length old) (length from) → ((k : ℕ) → k < n → get_or new k 0 ≡ f (get_or from k 0)) → ((k : ℕ) → n ≤ k → get_or new k 0 ≡ get_or old k 0) → new ≡ copied_left old (map f from)
mapped f old new from n long is front back =
    ext_get_or 0 _ _ (grind (arith, places, length-map {A = ℕ} {B = ℕ})) (λ k h. grind (arith, places, get_or-map f from k 0 0, length-map from f, front k, back k))

pub returns : goal.returns
returns c = mapped (translated c.args.place.now c.args.by.now) c.args.into.now c.loop-k.into c.args.from.now c.loop-k.k (search rules) (search rules) (search rules) (search rules)
