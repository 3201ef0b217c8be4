-- Hexadecimal characters are looked for piece by piece.
use Rattle.std.proofs.Common.{◌≡◌, ℕ, ◌+◌, ◌-◌, ◌≤◌, Bool, true, false, ◌&&◌, List, take, drop, sym, ap, ◌∙◌, arith}
use Rattle.std.proofs.Math.Seq.{take-add}
use Rattle.std.proofs.lemmas.List.{drop-drop}
use Rattle.std.proofs.lemmas.List.Folds.{list_all-append}
use Rattle.std.specs.List.{list_all}
use Rattle.s38_strings.specs.Hex.{is_hex}

hex_by_chunk : (bytes : List ℕ) (at n len : ℕ) → n ≤ len
    → (list_all is_hex (take n (drop at bytes)) && list_all is_hex (take (len - n) (drop (at + n) bytes))) ≡ list_all is_hex (take len (drop at bytes))
hex_by_chunk bytes at n len most =
    let long : n + (len - n) ≡ len = omega arith in
    ap (λ rest. list_all is_hex (take n (drop at bytes)) && list_all is_hex (take (len - n) rest)) (sym (drop-drop n at bytes))
    ∙ sym (list_all-append is_hex (take n (drop at bytes)) (take (len - n) (drop n (drop at bytes))))
    ∙ ap (list_all is_hex) (sym (take-add n (len - n) (drop at bytes)))
    ∙ ap (λ k. list_all is_hex (take k (drop at bytes))) long

-- all are hexadecimal where the first n are, and the others
pub hex_further : (bytes : List ℕ) (at n len : ℕ) (here rest : Bool) → n ≤ len → here ≡ true
    → here ≡ list_all is_hex (take n (drop at bytes)) → rest ≡ list_all is_hex (take (len - n) (drop (at + n) bytes))
    → rest ≡ list_all is_hex (take len (drop at bytes))
hex_further bytes at n len here rest most good is more =
    more ∙ ap (λ b. b && list_all is_hex (take (len - n) (drop (at + n) bytes))) (sym good ∙ is) ∙ hex_by_chunk bytes at n len most

pub hex_fails : (bytes : List ℕ) (at n len : ℕ) (here : Bool) → n ≤ len → here ≡ false
    → here ≡ list_all is_hex (take n (drop at bytes)) → here ≡ list_all is_hex (take len (drop at bytes))
hex_fails bytes at n len here most bad is =
    bad ∙ ap (λ b. b && list_all is_hex (take (len - n) (drop (at + n) bytes))) (sym bad ∙ is) ∙ hex_by_chunk bytes at n len most
