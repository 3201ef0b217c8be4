-- What a search over the parts of a word says of all of them.
use Rattle.std.proofs.Common.{◌≡◌, ◌<◌, ℕ, Bool, true, false, List, length, sym}
use Rattle.std.specs.Bool.{MatchBool}
use Rattle.std.specs.List.{AllWithin, HoldsAt, list_all}
use Rattle.std.proofs.lemmas.List.Elements.{All-from_all_within}
use Rattle.std.proofs.lemmas.List.Folds.{list_all_at}
use Rattle.std.proofs.lemmas.List.Sums.{list_all-from_AllPass}

pub list_all-tests : {X : Type 0} (p : X → Bool) (xs : List X) (d : X) (r : Bool) →
    MatchBool r (AllWithin (λ x. p x ≡ true) xs 0 (length xs)) ((k : ℕ) × (k < length xs) × HoldsAt (λ x. p x ≡ false) xs k) → r ≡ list_all p xs
list_all-tests p xs d true h = sym (list_all-from_AllPass p xs (All-from_all_within (λ x. p x ≡ true) xs h))
list_all-tests p xs d false h = sym (list_all_at p xs h.0 d h.1 (h.2 d))
