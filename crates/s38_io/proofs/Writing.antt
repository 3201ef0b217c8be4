-- How the parts of a piece that a writer takes join.
use Rattle.std.proofs.Common.{◌≡◌, ℕ, ◌+◌, List, take, drop, Option, Some, None, sym, ap, ◌∙◌, subst, refl, append-nil}
use Rattle.std.proofs.lemmas.List.{drop-drop}
use lib.Seq.{take-add}
use Rattle.std.proofs.KnownBytes.{Appends-trans}
use Rattle.std.specs.Io.KnownBytes.{Appends}
use Rattle.s38_io.specs.Sink.{Written}

-- nothing was added yet
pub Written-none : (a : Option (List ℕ)) (piece : List ℕ) → Written a a piece piece
Written-none None piece = record { count = 0; added = tt; to_come = refl }
Written-none (Some xs) piece = record { count = 0; added = sym (append-nil xs); to_come = refl }

-- n bytes more
pub Written-more : (a b c : Option (List ℕ)) (piece rest : List ℕ) (n : ℕ) → Written a b piece rest → Appends b c (take n rest) → Written a c piece (drop n rest)
Written-more a b c piece rest n so_far more =
    let next : Appends b c (take n (drop so_far.count piece)) = subst (λ (l : List ℕ). Appends b c (take n l)) so_far.to_come more in
    record {
      count = so_far.count + n;
      added = subst (Appends a c) (sym (take-add so_far.count n piece)) (Appends-trans a b c _ _ so_far.added next);
      to_come = ap (drop n) so_far.to_come ∙ drop-drop n so_far.count piece;
    }
