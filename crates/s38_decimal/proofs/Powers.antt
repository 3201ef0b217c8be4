-- Powers of ten as bounds.
use Rattle.std.proofs.Common.{◌≡◌, ℕ, ◌+◌, ◌-◌, ◌*◌, ◌/◌, ◌^◌, ◌<◌, ◌≤◌, arith}
use Rattle.std.proofs.Math.Nat.{pow-le-pow_right}
use Rattle.std.proofs.lemmas.Grind.{pow_more}

-- a power of ten is at most a greater one
pub tens_le : (i j : ℕ) → i ≤ j → 10 ^ i ≤ 10 ^ j
tens_le i j h = pow-le-pow_right {n = 10} (omega arith) h

-- a digit more
pub digit_more : (k number digit : ℕ) → number < 10 ^ k → digit < 10 → number * 10 + digit < 10 ^ (k + 1)
digit_more k number digit small d = omega (arith, pow_more 10 k)

-- n digits are enough for it
pub room_for_digit : (n k number digit : ℕ) → number < 10 ^ k → k < n → digit < 10 → number * 10 + digit < 10 ^ n
room_for_digit n k number digit small below d = omega (arith, digit_more k number digit small d, tens_le (k + 1) n (omega arith))

-- numbers of up to 38 digits are far from what 127 bits hold
pub below_half : (n digits : ℕ) → n < 10 ^ digits → digits ≤ 38 → n < 2 ^ 127
below_half n digits small few = omega (arith, tens_le digits 38 few)

-- a packed number's bytes have room for its digits
pub packed_room : (n digits len : ℕ) → n < 10 ^ digits → len ≡ digits / 2 + 1 → n < 10 ^ (2 * len - 1)
packed_room n digits len small is = omega (arith, tens_le digits (2 * len - 1) (omega arith))
