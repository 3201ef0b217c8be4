-- Parts of a text.
use Rattle.std.specs.Prelude.{ℕ, List, [], ◌∷◌, Option, Some, None, ◌==◌, if◌then◌else◌}
use Rattle.std.specs.Option.{option_map}

abbrev pub onto_front : ℕ → List ℕ × List ℕ → List ℕ × List ℕ
onto_front c parts = (c ∷ parts.0, parts.1)

-- the text before the first separator, and the text after it
abbrev pub cut : ℕ → List ℕ → Option (List ℕ × List ℕ)
cut separator [] = None
cut separator (c ∷ cs) = if c == separator then Some ([], cs) else option_map (onto_front c) (cut separator cs)
