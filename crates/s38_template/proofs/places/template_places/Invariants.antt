use Rattle.std.proofs.Common.{◌≡◌, ℕ, List, take}
use Rattle.std.specs.BTreeMap.{get}
use Rattle.std.specs.Cmp.Lexicographic.{slice_cmp}
use Rattle.std.specs.Ordering.{nat_cmp}
use Rattle.s38_template.specs.Grammar.{template_names}
use Rattle.s38_template.specs.Places.{template_place}
use Rattle.s38_template.proofs.places.template_places.Given as goal

abbrev pub invariant-loop-at : goal.invariant-loop-at
invariant-loop-at l = (q : List ℕ) → get (slice_cmp nat_cmp) l.places q ≡ template_place (template_names (take l.at l.fn.deck.templates)) q
