-- What begins with a text is at least as long.
use Rattle.std.proofs.Common.{◌≡◌, ◌≤◌, ℕ, true, List, length, drop, nat_eq, ap, refl, arith}
use Rattle.std.proofs.lemmas.Bool.Decides.{Decides-eqb}
use Rattle.std.proofs.lemmas.List.{length-append}
use Rattle.std.proofs.lemmas.Slice.Eq.{starts_is}
use Rattle.std.specs.List.{starts_with}

pub starts_long : (text front : List ℕ) → starts_with nat_eq text front ≡ true → length front ≤ length text
starts_long text front h =
    let joined = (starts_is Decides-eqb text front (starts_with nat_eq text front) refl).0 h in
    omega (arith, ap length joined, length-append front (drop (length front) text))
