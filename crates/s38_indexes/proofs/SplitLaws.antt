-- A full leaf becomes two with the same entries, and an entry has its place in one of them.
use Rattle.std.proofs.Common.{◌≡◌, ℕ, ◌+◌, ◌<◌, true, false, cond, List, [], ◌∷◌, ◌++◌, length, length-append, get_or, take, drop, suc, refl, sym, ◌∙◌, ap, arith, add-one, append_assoc, set, subst}
use Rattle.std.proofs.lemmas.List.{drop-set-lt, length-take-le, take_more_set}
use Rattle.std.specs.Prelude.{if◌then◌else◌, insert}
use Rattle.s38_indexes.specs.Entries.{IndexEntry, index_with_entry}
use Rattle.s38_indexes.specs.Leaves.{IsPlaceFor, IsSplit, joined, most, reaches, with_leaf}
use Rattle.s38_indexes.proofs.LeafLaws.{past, within, joined-around, joined-with_leaf, joined-opened}

seam : (b : List (List IndexEntry)) (l d : List IndexEntry) (r : List (List IndexEntry)) → get_or (b ++ l ∷ r) (length b) d ≡ l
seam [] l d r = refl
seam (c ∷ b) l d r = seam b l d r

with_leaf-seam : (b : List (List IndexEntry)) (l x : List IndexEntry) (r : List (List IndexEntry)) → with_leaf (b ++ l ∷ r) (length b) x ≡ b ++ x ∷ r
with_leaf-seam [] l x r = refl
with_leaf-seam (c ∷ b) l x r = ap (λ (ls : List (List IndexEntry)). c ∷ ls) (with_leaf-seam b l x r)

inside_seam : (b : List (List IndexEntry)) (l : List IndexEntry) (r : List (List IndexEntry)) → length b < length (b ++ l ∷ r)
inside_seam [] l r = omega arith
inside_seam (c ∷ b) l r = let rest = inside_seam b l r in omega arith

pub split_leaves : (old mid new : List (List IndexEntry)) (i : ℕ) (lower upper : List IndexEntry) → i < length old → mid ≡ set old i lower → new ≡ insert mid (i + 1) upper → new ≡ take i old ++ lower ∷ upper ∷ drop (suc i) old
split_leaves old mid new i lower upper low put is =
    is
    ∙ ap (λ (ls : List (List IndexEntry)). insert ls (i + 1) upper) put
    ∙ ap (λ (ls : List (List IndexEntry)). ls ++ upper ∷ drop (i + 1) (set old i lower)) (take_more_set old i lower low)
    ∙ ap (λ (ls : List (List IndexEntry)). (take i old ++ lower ∷ []) ++ upper ∷ ls) (drop-set-lt (i + 1) old i lower (omega arith) ∙ ap (λ k. drop k old) (add-one i))
    ∙ append_assoc (take i old) (lower ∷ []) (upper ∷ drop (suc i) old)

pub same_entries : (old new : List (List IndexEntry)) (i : ℕ) → i < length old → IsSplit old new i → joined new ≡ joined old
same_entries old new i low h =
    let b = take i old in
    let r = drop (suc i) old in
    ap joined h.leaves ∙ joined-around b h.lower (h.upper ∷ r)
    ∙ ap (λ xs. joined b ++ xs) (sym (append_assoc h.lower h.upper (joined r)) ∙ ap (λ xs. xs ++ joined r) h.whole)
    ∙ sym (joined-opened old i low)

-- what the place tells of the entries
goes : (key : IndexEntry) (old : List (List IndexEntry)) (i : ℕ) → IsPlaceFor key old i → index_with_entry key (joined old) ≡ joined (take i old) ++ (index_with_entry key (get_or old i []) ++ joined (drop (suc i) old))
goes key old i h = sym h.joins ∙ joined-with_leaf old i (index_with_entry key (get_or old i []))

lower_half : (key : IndexEntry) (old new : List (List IndexEntry)) (i : ℕ) → IsPlaceFor key old i → IsSplit old new i → reaches key (get_or new i []) ≡ true → IsPlaceFor key new i × (length (get_or new i []) < most)
lower_half key old new i h s reached =
    let b = take i old in
    let r = drop (suc i) old in
    let low = h.inside in
    let n : length b ≡ i = length-take-le i old (omega arith) in
    let at : get_or new i [] ≡ s.lower = ap (λ ls. get_or ls i []) s.leaves ∙ ap (λ k. get_or (b ++ s.lower ∷ s.upper ∷ r) k []) (sym n) ∙ seam b s.lower [] (s.upper ∷ r) in
    let changed : with_leaf new i (index_with_entry key s.lower) ≡ b ++ index_with_entry key s.lower ∷ s.upper ∷ r =
    ap (λ ls. with_leaf ls i (index_with_entry key s.lower)) s.leaves ∙ ap (λ k. with_leaf (b ++ s.lower ∷ s.upper ∷ r) k (index_with_entry key s.lower)) (sym n) ∙ with_leaf-seam b s.lower (index_with_entry key s.lower) (s.upper ∷ r) in
    let whole : index_with_entry key s.lower ++ s.upper ≡ index_with_entry key (get_or old i []) =
    sym (within key s.lower s.upper (ap (reaches key) (sym at) ∙ reached)) ∙ ap (index_with_entry key) s.whole in
    let ins : length b < length (b ++ s.lower ∷ s.upper ∷ r) = inside_seam b s.lower (s.upper ∷ r) in
    let long : length new ≡ length (b ++ s.lower ∷ s.upper ∷ r) = ap length s.leaves in (
      record {
        inside = omega arith;
        joins =
            ap (λ l. joined (with_leaf new i (index_with_entry key l))) at
            ∙ ap joined changed
            ∙ joined-around b (index_with_entry key s.lower) (s.upper ∷ r)
            ∙ ap (λ xs. joined b ++ xs) (sym (append_assoc (index_with_entry key s.lower) s.upper (joined r)) ∙ ap (λ xs. xs ++ joined r) whole)
            ∙ sym (goes key old i h)
            ∙ ap (index_with_entry key) (sym (same_entries old new i low s));
      },
      subst (λ l. length l < most) (sym at) s.lower_room,
    )

upper_half : (key : IndexEntry) (old new : List (List IndexEntry)) (i : ℕ) → IsPlaceFor key old i → IsSplit old new i → reaches key (get_or new i []) ≡ false → IsPlaceFor key new (i + 1) × (length (get_or new (i + 1) []) < most)
upper_half key old new i h s missed =
    let b = take i old in
    let r = drop (suc i) old in
    let c = b ++ s.lower ∷ [] in
    let low = h.inside in
    let n : length b ≡ i = length-take-le i old (omega arith) in
    let m : length c ≡ i + 1 = omega (arith, length-append b (s.lower ∷ [])) in
    let is : new ≡ c ++ s.upper ∷ r = s.leaves ∙ sym (append_assoc b (s.lower ∷ []) (s.upper ∷ r)) in
    let at_lower : get_or new i [] ≡ s.lower = ap (λ ls. get_or ls i []) s.leaves ∙ ap (λ k. get_or (b ++ s.lower ∷ s.upper ∷ r) k []) (sym n) ∙ seam b s.lower [] (s.upper ∷ r) in
    let at : get_or new (i + 1) [] ≡ s.upper = ap (λ ls. get_or ls (i + 1) []) is ∙ ap (λ k. get_or (c ++ s.upper ∷ r) k []) (sym m) ∙ seam c s.upper [] r in
    let changed : with_leaf new (i + 1) (index_with_entry key s.upper) ≡ b ++ s.lower ∷ index_with_entry key s.upper ∷ r =
    ap (λ ls. with_leaf ls (i + 1) (index_with_entry key s.upper)) is ∙ ap (λ k. with_leaf (c ++ s.upper ∷ r) k (index_with_entry key s.upper)) (sym m) ∙ with_leaf-seam c s.upper (index_with_entry key s.upper) r ∙ append_assoc b (s.lower ∷ []) (index_with_entry key s.upper ∷ r) in
    let whole : s.lower ++ index_with_entry key s.upper ≡ index_with_entry key (get_or old i []) =
    sym (past key s.lower s.upper (ap (reaches key) (sym at_lower) ∙ missed)) ∙ ap (index_with_entry key) s.whole in
    let ins : length c < length (c ++ s.upper ∷ r) = inside_seam c s.upper r in
    let long : length new ≡ length (c ++ s.upper ∷ r) = ap length is in (
      record {
        inside = omega arith;
        joins =
            ap (λ l. joined (with_leaf new (i + 1) (index_with_entry key l))) at
            ∙ ap joined changed
            ∙ joined-around b s.lower (index_with_entry key s.upper ∷ r)
            ∙ ap (λ xs. joined b ++ xs) (sym (append_assoc s.lower (index_with_entry key s.upper) (joined r)) ∙ ap (λ xs. xs ++ joined r) whole)
            ∙ sym (goes key old i h)
            ∙ ap (index_with_entry key) (sym (same_entries old new i low s));
      },
      subst (λ l. length l < most) (sym at) s.upper_room,
    )

pub either_half : (key : IndexEntry) (old new : List (List IndexEntry)) (i k : ℕ) → IsPlaceFor key old i → IsSplit old new i → k ≡ (if reaches key (get_or new i []) then i else i + 1) → IsPlaceFor key new k × (length (get_or new k []) < most)
either_half key old new i k h s e =
    let P : ℕ → Type 0 = λ n. IsPlaceFor key new n × (length (get_or new n []) < most) in
    subst P (sym e) (elim (reaches key (get_or new i [])) as (λ b. reaches key (get_or new i []) ≡ b → P (cond b i (i + 1))) [
      | true ↦ λ is. lower_half key old new i h s is
      | false ↦ λ is. upper_half key old new i h s is
    ] refl)
