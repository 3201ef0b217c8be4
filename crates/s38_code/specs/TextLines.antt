-- The lines that a text holds without anything between them, each with so many of its bytes.
use Rattle.std.specs.Prelude.{◌≡◌, ℕ, List, [], ◌∷◌, take, drop, length, sum}

abbrev pub lines_of : List ℕ → List ℕ → List (List ℕ)
lines_of text [] = []
lines_of text (size ∷ sizes) = take size text ∷ lines_of (drop size text) sizes

-- the lines are all of the text
pub record AreAll (text sizes : List ℕ) : Type 0 where
  pub sum : sum sizes ≡ length text
