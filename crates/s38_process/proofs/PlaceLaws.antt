-- A variable that is taken out and put back.
use Rattle.std.proofs.Common.{◌≡◌, ℕ, ◌<◌, List, length, get_or, refl, sym, ◌∙◌, ap}
use Rattle.std.proofs.lemmas.List.{set-set}
use Rattle.std.proofs.lemmas.Option.{slice_get_read}
use Rattle.std.specs.Prelude.{Some, slice_get, slice_set}
use Rattle.s38_base.specs.declared.op.Op.{Op}
use Rattle.s38_code.specs.declared.reply.Val.{Val}
use Rattle.s38_process.specs.Replies.{merged}

-- what came is merged with the value that was taken out
pub merged_back : (op : Op) (xs : List Val) (i : ℕ) (out r w v x : Val) → i < length xs → r ≡ get_or xs i r → v ≡ get_or xs i r → w ≡ merged op (Some v) x → slice_set (slice_set xs i out) i w ≡ slice_set xs i (merged op (slice_get xs i) x)
merged_back op xs i out r w v x within r_is v_is is =
    let there : slice_get xs i ≡ Some v = slice_get_read xs (length xs) i r refl within r_is ∙ ap Some (r_is ∙ sym v_is) in
    set-set xs i out w ∙ ap (slice_set xs i) (is ∙ sym (ap (λ o. merged op o x) there))
