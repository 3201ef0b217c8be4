-- What is kept already does not change when it is kept once more.
use Rattle.std.proofs.Common.{◌≡◌, ◌%◌, ◌∙◌, ℕ, List, Option, None, Some, ap, sym, slice_set}
use Rattle.std.proofs.lemmas.List.{set-get_or}
use Rattle.s38_code.specs.declared.operand.Operand.{Operand}
use Rattle.s38_requests.specs.Recent.{latest, places, with_latest}

pub kept_already : (kept : List (Option (List Operand))) (at : ℕ) (operands : List Operand) → latest kept at ≡ Some operands → with_latest kept at operands ≡ kept
kept_already kept at operands is = ap (slice_set kept (at % places)) (sym is) ∙ set-get_or kept (at % places) None
