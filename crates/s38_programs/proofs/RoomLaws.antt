-- Lines don't fit into a room exactly where they are longer than it.
use Rattle.std.proofs.Common.{◌≡◌, ℕ, ◌+◌, ◌-◌, Bool, true, false, cond, List, [], ◌∷◌, refl, sym, ◌∙◌, arith, nat_le, nat_lt}
use Rattle.std.proofs.lemmas.Bool.Decides.{nat_tests}
use Rattle.std.proofs.lemmas.List.Sums.{sum_by-cons}
use Rattle.std.specs.Prelude.{Some, None, is_none, sum_by}
use Rattle.s38_rules.specs.store.Room.{line_size}
use Rattle.s38_programs.specs.Rooms.{room_after}

none_after : (lines : List (List ℕ)) → is_none (room_after None lines) ≡ true
none_after [] = refl
none_after (line ∷ lines) = none_after lines

room_by : (b : Bool) (line : List ℕ) (lines : List (List ℕ)) (room : ℕ) → nat_le (line_size line) room ≡ b
    → is_none (room_after (Some (room - line_size line)) lines) ≡ nat_lt (room - line_size line) (sum_by line_size lines)
    → is_none (room_after (cond b (Some (room - line_size line)) None) lines) ≡ nat_lt room (line_size line + sum_by line_size lines)
room_by true line lines room h rest =
    let same : nat_lt (room - line_size line) (sum_by line_size lines) ≡ nat_lt room (line_size line + sum_by line_size lines) = grind (arith, nat_tests) in
    rest ∙ same
room_by false line lines room h rest =
    let more : nat_lt room (line_size line + sum_by line_size lines) ≡ true = grind (arith, nat_tests) in
    none_after lines ∙ sym more

pub no_room : (lines : List (List ℕ)) (room : ℕ) → is_none (room_after (Some room) lines) ≡ nat_lt room (sum_by line_size lines)
no_room [] room = let test : nat_lt room 0 ≡ false = grind (arith, nat_tests) in sym test
no_room (line ∷ lines) room =
    rw (sum_by-cons line_size line lines) (room_by (nat_le (line_size line) room) line lines room refl (no_room lines (room - line_size line)))
