-- The images of keys are those of the entries.
use Rattle.std.proofs.Common.{◌≡◌, List, map}
use Rattle.std.specs.List.{flat_map}
use Rattle.std.proofs.lemmas.List.Folds.{flat_map-map}
use Rattle.s38_base.specs.declared.id.ObjNum.{ObjNum}
use Rattle.s38_rules.specs.declared.listed.Listed.{Listed}
use Rattle.s38_rules.specs.families.ContextLists.{name_image}

pub names_written : (names : List (Listed × ObjNum)) → flat_map name_image (map (λ x. x.0) names) ≡ flat_map (λ (x : Listed × ObjNum). name_image x.0) names
names_written names = flat_map-map name_image (λ x. x.0) names
