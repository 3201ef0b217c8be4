-- The places of the templates of a deck, as a map tells them.
use Rattle.std.proofs.Common.{◌≡◌, ℕ, ◌+◌, ◌<◌, suc, zero, Bool, true, false, cond, List, [], ◌∷◌, ◌++◌, length, take, get_or, Option, Some, None, is_some, sym, ap, subst, ◌∙◌, refl, arith, inl, inr, add-zero, zero-add}
use Rattle.std.proofs.lemmas.Bool.{cases_Bool, and_parts, and_from, and_right}
use Rattle.std.proofs.lemmas.List.{take_more, map_push, length-map, length-take-le}
use Rattle.std.proofs.lemmas.Option.{same_Some, cond_some, slice_get-map}
use Rattle.std.proofs.lemmas.Slice.Eq.{bytes_eq-Decides}
use Rattle.std.specs.BTreeMap.{BTreeMap, Updates, get}
use Rattle.std.specs.Cmp.Lexicographic.{slice_cmp, texts_ties}
use Rattle.std.specs.List.{list_all, slice_get}
use Rattle.std.specs.Option.{option_and_then}
use Rattle.std.specs.Ordering.{nat_cmp}
use Rattle.std.specs.Str.{bytes_eq}
use Rattle.s38_base.specs.NameText.{is_name}
use Rattle.s38_code.specs.declared.deck.Deck.{Deck}
use Rattle.s38_code.specs.declared.deck.Job.{Job}
use Rattle.s38_template.specs.Grammar.{Spells, has, is_job, name_of, template_names}
use Rattle.s38_template.specs.Places.{HasTemplate, held, is_called, place_from, placed, template_place}
use Rattle.s38_template.proofs.Options.{map_some}
use Rattle.s38_words.specs.Name.{begins_with_letter, is_declared_name, object_name}

-- ---- one name more in a map

abbrev told : BTreeMap (List ℕ) ℕ → List ℕ → Option ℕ
told places q = get (slice_cmp nat_cmp) places q

held_other : (o : Option ℕ) (at : ℕ) (name q : List ℕ) → bytes_eq name q ≡ false → o ≡ held o at name q
held_other None at name q h = rw h refl
held_other (Some k) at name q h = refl

held_new : (o : Option ℕ) (at : ℕ) (name q : List ℕ) → is_some o ≡ false → bytes_eq name q ≡ true → Some at ≡ held o at name q
held_new None at name q n h = rw h refl
held_new (Some k) at name q n h = absurd cc

pub new_place : (old new : BTreeMap (List ℕ) ℕ) (at : ℕ) (name : List ℕ) → is_some (told old name) ≡ false → Updates (slice_cmp nat_cmp) old new name (Some at) → (q : List ℕ) → told new q ≡ held (told old q) at name q
new_place old new at name h u q =
    let P : List ℕ → Type 0 = λ m. is_some (told old m) ≡ false in
    u.0 q ∙ ap (λ b. cond b (Some at) (told old q)) (sym (texts_ties name q)) ∙ elim (cases_Bool (bytes_eq name q)) [
      | inl y ↦ ap (λ b. cond b (Some at) (told old q)) y ∙ held_new (told old q) at name q (subst P ((bytes_eq-Decides name q).0 y) h) y
      | inr n ↦ ap (λ b. cond b (Some at) (told old q)) n ∙ held_other (told old q) at name q n
    ]

-- ---- one template more

place_more : (names : List (List ℕ)) (at : ℕ) (text q : List ℕ) → place_from at (names ++ text ∷ []) q ≡ placed (place_from at names q) (at + length names) text q
place_more [] at text q = rw (add-zero at) refl
place_more (first ∷ names) at text q =
    let e : at + suc (length names) ≡ at + 1 + length names = omega arith in
    elim (cases_Bool (is_called first q)) [
      | inl y ↦ rw y refl
      | inr n ↦ rw n (place_more names (at + 1) text q ∙ ap (λ k. placed (place_from (at + 1) names q) k text q) (sym e))
    ]

pub templates_more : (ts : List (List (List ℕ))) (at : ℕ) (t : List (List ℕ)) (o : Option ℕ) (q : List ℕ) → at < length ts → t ≡ get_or ts at t → o ≡ template_place (template_names (take at ts)) q → placed o at (name_of t) q ≡ template_place (template_names (take (at + 1) ts)) q
templates_more ts at t o q l e h =
    let front : List (List (List ℕ)) = take at ts in
    let n : 0 + length (template_names front) ≡ at = omega (arith, length-map front name_of, length-take-le at ts (omega arith)) in
    let more : take (at + 1) ts ≡ front ++ t ∷ [] = take_more ts at t l ∙ ap (λ x. front ++ x ∷ []) (sym e) in
    ap (λ p. placed p at (name_of t) q) h
    ∙ ap (λ k. placed (template_place (template_names front) q) k (name_of t) q) (sym n)
    ∙ sym (place_more (template_names front) 0 (name_of t) q)
    ∙ ap (λ l. template_place l q) (sym (map_push name_of front t))
    ∙ ap (λ l. template_place (template_names l) q) (sym more)

-- the same, where a slice of the templates is walked
pub walked_more : (xs ts : List (List (List ℕ))) (at : ℕ) (t : List (List ℕ)) (o : Option ℕ) (q : List ℕ) → xs ≡ ts → at < length xs → t ≡ get_or xs at t → o ≡ template_place (template_names (take at ts)) q → placed o at (name_of t) q ≡ template_place (template_names (take (at + 1) ts)) q
walked_more xs ts at t o q e l g h =
    let P : List (List (List ℕ)) → Type 0 = λ y. at < length y in
    templates_more ts at t o q (subst P e l) (g ∙ ap (λ y. get_or y at t) e) h

-- ---- each job has its template

all_at : {X : Type 0} (p : X → Bool) (xs : List X) (k : ℕ) (x : X) → list_all p xs ≡ true → slice_get xs k ≡ Some x → p x ≡ true
all_at p [] k x h e = absurd cc
all_at {X} p (y ∷ ys) zero x h e =
    let P : X → Type 0 = λ z. p z ≡ true in
    subst P (same_Some y x e) (and_parts (p y) (list_all p ys) h).0
all_at p (y ∷ ys) (suc k) x h e = all_at p ys k x (and_parts (p y) (list_all p ys) h).1 e

record IsPlaced (names : List (List ℕ)) (at : ℕ) (q : List ℕ) (k : ℕ) : Type 0 where
  pub place : place_from at names q ≡ Some (at + k)
  pub there : slice_get names k ≡ Some q

is_placed_there : (names : List (List ℕ)) (at : ℕ) (q : List ℕ) → is_name q ≡ true → has names q ≡ true → (k : ℕ) × IsPlaced names at q k
is_placed_there [] at q n h = absurd cc
is_placed_there (first ∷ names) at q n h =
    elim (cases_Bool (bytes_eq first q)) [
      | inl y ↦
          let same : first ≡ q = (bytes_eq-Decides first q).0 y in
          let P : List ℕ → Type 0 = λ m. is_name m ≡ true in
          let called : is_called first q ≡ true = and_from (is_name first) (bytes_eq first q) (subst P (sym same) n) y in
          (0, record { place = rw called (ap (λ k. Some k) (sym (add-zero at))); there = ap (λ m. Some m) same })
      | inr other_name ↦
          let r = is_placed_there names (at + 1) q n (rw other_name at h) in
          let other : is_called first q ≡ false = and_right (is_name first) (bytes_eq first q) other_name in
          let e : at + 1 + r.0 ≡ at + suc r.0 = omega arith in
          (suc r.0, record { place = rw other (r.1.place ∙ ap (λ k. Some k) e); there = r.1.there })
    ]

found_at : (deck : Deck) (job : Job) → is_name job.template ≡ true → has (template_names deck.templates) job.template ≡ true → HasTemplate deck job
found_at deck job n h =
    let r = is_placed_there (template_names deck.templates) 0 job.template n h in
    map_some name_of (slice_get deck.templates r.0) job.template (sym (slice_get-map name_of deck.templates r.0) ∙ r.1.there) (λ lines e called.
    let at : template_place (template_names deck.templates) job.template ≡ Some r.0 = r.1.place ∙ ap (λ k. Some k) (zero-add r.0) in
    record { lines = lines; there = ap (option_and_then (slice_get deck.templates)) at ∙ e; called = called })

job_template_name : (job : Job) → is_job job ≡ true → is_name job.template ≡ true
job_template_name job h =
    let p = and_parts (is_declared_name job.name) _ h in
    let q = and_parts (is_name job.user) _ p.1 in
    (and_parts (begins_with_letter job.template) (is_name job.template) (and_parts (is_declared_name job.template) _ q.1).0).1

pub job_has_template : (text : List ℕ) (deck : Deck) → Spells text deck → (k : ℕ) (job : Job) → slice_get deck.jobs k ≡ Some job → HasTemplate deck job
job_has_template text deck s k job e =
    found_at deck job (job_template_name job (all_at is_job deck.jobs k job s.jobs.each e)) (all_at (λ j. has (template_names deck.templates) j.template) deck.jobs k job s.jobs.found e)
