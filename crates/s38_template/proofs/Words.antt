-- Names that are parted by blanks, and words that pass a test.
use Rattle.std.proofs.Common.{◌≡◌, ◌<◌, ℕ, length, Bool, true, false, cond, List, [], ◌∷◌, ◌++◌, Option, Some, None, sym, ap, ◌∙◌, refl, inl, inr}
use Rattle.std.proofs.lemmas.Bool.{cases_Bool}
use Rattle.std.proofs.lemmas.List.{append_assoc}
use Rattle.std.proofs.lemmas.Option.{same_Some}
use Rattle.std.proofs.lemmas.List.Elements.{All-from_all_within}
use Rattle.std.proofs.lemmas.List.Folds.{list_all_at}
use Rattle.std.proofs.lemmas.List.Sums.{list_all-from_AllPass}
use Rattle.std.specs.Bool.{MatchBool}
use Rattle.std.specs.List.{AllWithin, HoldsAt, list_all, slice_split}
use Rattle.std.specs.Option.{option_map}
use Rattle.s38_base.specs.NameText.{is_name}
use Rattle.s38_template.specs.Cut.{cut}
use Rattle.s38_template.specs.Lines.{is_blank, names_in}
use Rattle.s38_template.proofs.Texts.{split_at, split_none}
use Rattle.s38_words.specs.Name.{object_name}

-- what is read of names that are there already and of a text
abbrev pub more_names : List (List ℕ) → Option (List (List ℕ)) → Option (List (List ℕ))
more_names names read = option_map (λ more. names ++ more) read

pub names_end : (names : List (List ℕ)) (text : List ℕ) → cut 32 text ≡ None → more_names names (names_in text) ≡ option_map (λ name. names ++ name ∷ []) (object_name text)
names_end names text e =
    rw (split_none 32 text e) (elim (cases_Bool (is_name text)) [ inl t ↦ rw t refl | inr f ↦ rw f refl ])

joined_names : (names more : List (List ℕ)) (name : List ℕ) (new : List (List ℕ)) (b : Bool) → names ++ name ∷ [] ≡ new → more_names names (cond b (Some (name ∷ more)) None) ≡ more_names new (cond b (Some more) None)
joined_names names more name new false e = refl
joined_names names more name new true e = ap (λ l. Some l) (sym (append_assoc names (name ∷ []) more) ∙ ap (λ l. l ++ more) e)

pub names_turn : (names : List (List ℕ)) (text : List ℕ) (p : List ℕ × List ℕ) (new : List (List ℕ)) → cut 32 text ≡ Some p → option_map (λ name. names ++ name ∷ []) (object_name p.0) ≡ Some new → more_names names (names_in text) ≡ more_names new (names_in p.1)
names_turn names text p new e h =
    rw (split_at 32 text p e) (elim (cases_Bool (is_name p.0)) [
      | inl t ↦ rw t (joined_names names (slice_split is_blank p.1) p.0 new (list_all is_name (slice_split is_blank p.1)) (same_Some _ new (rw t at h)))
      | inr f ↦ absurd (let g = rw f at h in cc)
    ])

pub names_fail : (names : List (List ℕ)) (text : List ℕ) (p : List ℕ × List ℕ) → cut 32 text ≡ Some p → option_map (λ name. names ++ name ∷ []) (object_name p.0) ≡ None → more_names names (names_in text) ≡ None
names_fail names text p e h =
    rw (split_at 32 text p e) (elim (cases_Bool (is_name p.0)) [ inl t ↦ absurd (let g = rw t at h in cc) | inr f ↦ rw f refl ])

-- what a search over words says of all of them
pub all_tests : {X : Type 0} (p : X → Bool) (xs : List X) (d : X) (r : Bool) →
    MatchBool r (AllWithin (λ x. p x ≡ true) xs 0 (length xs)) ((k : ℕ) × (k < length xs) × HoldsAt (λ x. p x ≡ false) xs k) → r ≡ list_all p xs
all_tests p xs d true h = sym (list_all-from_AllPass p xs (All-from_all_within (λ x. p x ≡ true) xs h))
all_tests p xs d false h = sym (list_all_at p xs h.0 d h.1 (h.2 d))
