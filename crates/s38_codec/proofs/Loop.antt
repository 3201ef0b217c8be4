-- Reading values of one format one after the other, as a loop does: for every format.
use Rattle.std.proofs.Common.{◌≡◌, ℕ, suc, ◌-◌, ◌+◌, ◌≤◌, ◌<◌, cond, eqb, List, [], ◌∷◌, ◌++◌, length, Option, Some, None, refl, sym, ap, ◌∙◌, append_assoc, arith}
use Rattle.std.proofs.lemmas.List.{append-nil}
use Rattle.s38_codec.specs.declared.fault.ReadFault.{ReadFault}
use Rattle.s38_codec.specs.declared.fault.ReadFault.TheVariants as faults
use Rattle.s38_codec.specs.Codec.{Codec, copies, read_each, times, whole, ◌>>=◌}
use Rattle.s38_codec.specs.Reading.{Fails}

-- what was read before, and what is still read
abbrev pub with_front : {A : Type 0} → List A → Option (List A × List ℕ) → Option (List A × List ℕ)
with_front front read = read >>= λ x. Some (front ++ x.0, x.1)

regroup : {A : Type 0} (front : List A) (n : A) (read : Option (List A × List ℕ)) → with_front front (read >>= λ x. Some (n ∷ x.0, x.1)) ≡ with_front (front ++ n ∷ []) read
regroup front n (Some x) = ap (λ ns. Some (ns, x.1)) (simp append_assoc)
regroup front n None = refl

pub goes_on : {A : Type 0} (c : Codec A) (front : List A) (count i : ℕ) (bytes : List ℕ) (n : A) (after : List ℕ) (total : Option (List A × List ℕ)) → i < count → c.read bytes ≡ Some (n, after)
    → with_front front ((times (count - i) c).read bytes) ≡ total → with_front (front ++ n ∷ []) ((times (count - (i + 1)) c).read after) ≡ total
unfolding read_each copies
goes_on c front count i bytes n after total lt h so_far =
    let k : count - i ≡ suc (count - (i + 1)) = omega arith in
    let one : with_front front ((times (count - i) c).read bytes) ≡ with_front (front ++ n ∷ []) ((times (count - (i + 1)) c).read after) = rw (k, h) (regroup front n ((times (count - (i + 1)) c).read after)) in
    sym one ∙ so_far

pub ends : {A : Type 0} (c : Codec A) (e : ReadFault) (front : List A) (count i : ℕ) (bytes : List ℕ) (total : Option (List A × List ℕ)) → i < count → Fails e (c.read bytes)
    → with_front front ((times (count - i) c).read bytes) ≡ total → Fails e total
unfolding read_each copies
ends c faults.NoMemory front count i bytes total lt h so_far = tt
ends c faults.BadForm front count i bytes total lt h so_far =
    let k : count - i ≡ suc (count - (i + 1)) = omega arith in
    let one : with_front front ((times (count - i) c).read bytes) ≡ None = rw (k, h) refl in
    sym so_far ∙ one

pub is_done : {A : Type 0} (c : Codec A) (front : List A) (count i : ℕ) (bytes : List ℕ) (total : Option (List A × List ℕ)) → count ≤ i → with_front front ((times (count - i) c).read bytes) ≡ total → total ≡ Some (front, bytes)
unfolding read_each copies
is_done c front count i bytes total le so_far =
    let k : count - i ≡ 0 = omega arith in
    let one : with_front front ((times (count - i) c).read bytes) ≡ Some (front, bytes) = rw k (ap (λ ns. Some (ns, bytes)) (append-nil front)) in
    sym so_far ∙ one

pub begins : {A : Type 0} (read : Option (List A × List ℕ)) → with_front [] read ≡ read
begins None = refl
begins (Some x) = refl

-- ---- all bytes by so many values

pub whole_done : {A : Type 0} (c : Codec A) (front : List A) (count i : ℕ) (rest from : List ℕ) → count ≤ i → with_front front ((times (count - i) c).read rest) ≡ (times count c).read from
    → whole (times count c) from ≡ cond (eqb (length rest) 0) (Some front) None
whole_done c front count i rest from le so_far =
    let total = is_done c front count i rest ((times count c).read from) le so_far in
    rw total refl

fails_whole : {A : Type 0} (e : ReadFault) (o : Option (List A × List ℕ)) → Fails e o → Fails e (o >>= λ x. cond (eqb (length x.1) 0) (Some x.0) None)
fails_whole faults.NoMemory o h = tt
fails_whole faults.BadForm o h = rw h refl

pub whole_ends : {A : Type 0} (c : Codec A) (e : ReadFault) (front : List A) (count i : ℕ) (rest from : List ℕ) → i < count → Fails e (c.read rest)
    → with_front front ((times (count - i) c).read rest) ≡ (times count c).read from → Fails e (whole (times count c) from)
whole_ends c e front count i rest from lt h so_far = fails_whole e ((times count c).read from) (ends c e front count i rest ((times count c).read from) lt h so_far)
