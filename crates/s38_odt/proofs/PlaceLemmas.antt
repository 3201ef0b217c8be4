-- One more row: the place of a name then, and the map that says it.
use Rattle.std.proofs.Common.{◌≡◌, ℕ, ◌+◌, Bool, true, false, cond, List, [], ◌∷◌, ◌++◌, length, Option, Some, None, refl, sym, ◌∙◌, ap, arith}
use Rattle.std.specs.Map.{lookup}
use Rattle.std.specs.List.{position_from}
use Rattle.std.proofs.lemmas.Slice.Eq.{bytes_eq-Decides}
use Rattle.std.specs.Ordering.{nat_cmp}
use Rattle.std.specs.Str.{bytes_eq}
use Rattle.std.specs.Cmp.Lexicographic.{slice_cmp}
use Rattle.std.specs.BTreeMap.{BTreeMap, get, is_at, Updates}
use Rattle.std.proofs.lemmas.Map.Text.{is_eq-slice_cmp}
use Rattle.s38_code.specs.declared.program.Row.{Row}
use Rattle.s38_odt.specs.Table.{place_in}
use Rattle.s38_odt.specs.Places.{IsTied}

-- what the first place is, of what comes before and of one more element
abbrev or_at : Option ℕ → Bool → ℕ → Option ℕ
or_at (Some k) b n = Some k
or_at None b n = cond b (Some n) None

-- the first place in a list with one more at its end
position_from-push : {X : Type 0} (p : X → Bool) (i : ℕ) (xs : List X) (y : X) →
    position_from p i (xs ++ y ∷ []) ≡ or_at (position_from p i xs) (p y) (i + length xs)
position_from-push p i [] y = grind (arith)
position_from-push p i (x ∷ xs) y =
    elim (p x) as (λ b. cond b (Some i) (position_from p (i + 1) (xs ++ y ∷ [])) ≡ or_at (cond b (Some i) (position_from p (i + 1) xs)) (p y) (i + length (x ∷ xs)))
    [ true ↦ refl | false ↦ position_from-push p (i + 1) xs y ∙ ap (λ n. or_at (position_from p (i + 1) xs) (p y) n) (omega arith) ]

place_in-push : (rows : List Row) (row : Row) (name : List ℕ) →
    place_in (rows ++ row ∷ []) name ≡ or_at (place_in rows name) (bytes_eq row.name name) (length rows)
unfolding place_in
place_in-push rows row name = position_from-push (λ r. bytes_eq r.name name) 0 rows row ∙ ap (λ n. or_at (place_in rows name) (bytes_eq row.name name) n) (omega arith)

or_at-new : (o : Option ℕ) (b : Bool) (n : ℕ) → (b ≡ true → o ≡ None) → cond b (Some n) o ≡ or_at o b n
or_at-new None b n h = refl
or_at-new (Some k) true n h = let e : Some k ≡ None = h refl in cc
or_at-new (Some k) false n h = refl

-- a name that is new goes in with the number of its row
pub IsTied-push : (m n : BTreeMap (List ℕ) ℕ) (rows : List Row) (row : Row) →
    IsTied m rows → place_in rows row.name ≡ None → Updates (slice_cmp nat_cmp) m n row.name (Some (length rows)) → IsTied n (rows ++ row ∷ [])
IsTied-push m n rows row tied absent updates = record {
  place = λ q.
      let at_new : bytes_eq row.name q ≡ true → place_in rows q ≡ None =
      λ e. ap (λ name. place_in rows name) (sym ((bytes_eq-Decides row.name q).0 e)) ∙ absent in
      updates.0 q
      ∙ (ap (λ b. cond b (Some (length rows)) (get (slice_cmp nat_cmp) m q)) (is_eq-slice_cmp row.name q)
      ∙ (ap (λ o. cond (bytes_eq row.name q) (Some (length rows)) o) (tied.place q)
      ∙ (or_at-new (place_in rows q) (bytes_eq row.name q) (length rows) at_new
      ∙ sym (place_in-push rows row q))));
}

-- no name is in no rows
pub IsTied-none : (m : BTreeMap (List ℕ) ℕ) → m.entries ≡ [] → IsTied m []
unfolding place_in
IsTied-none m e = record { place = λ q. ap (λ es. lookup (is_at (slice_cmp nat_cmp q)) es) e }
