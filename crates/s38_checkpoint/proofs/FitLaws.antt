-- What is there after the first objects is one content, and where there is room for what waits the next object fits.
use Rattle.std.proofs.Common.{◌≡◌, ◌⊎◌, ℕ, ◌+◌, ◌<◌, ◌≤◌, ◌^◌, Bool, true, false, cond, not, List, [], ◌∷◌, ◌++◌, inl, inr, length, length-append, refl, sym, ◌∙◌, ap, subst, arith, append-nil}
use Rattle.std.proofs.lemmas.Bool.{cases_lt}
use Rattle.std.proofs.lemmas.List.{append_cancel_left}
use Rattle.std.proofs.lemmas.List.Sums.{sum_by-cons}
use Rattle.std.proofs.Math.Seq.{take-append_seam}
use Rattle.std.specs.Prelude.{◌&&◌, Option, is_some, take}
use Rattle.std.specs.FinMap.{get, len, same_map}
use Rattle.std.specs.List.{AllByRecursion}
use Rattle.std.specs.Ordering.{eq_by_cmp}
use Rattle.s38_base.specs.declared.page.Change.{Change}
use Rattle.s38_base.specs.declared.page.Key.{Key}
use Rattle.s38_base.specs.declared.page.Page.{Page}
use Rattle.s38_checkpoint.specs.Ensuring.{EachFits, FirstFit, Fits, IsAfter, new_parts_of_objects}
use Rattle.s38_durable_state.specs.Durable.{Durable}
use Rattle.s38_page_diff.proofs.WalkLaws.{not_above, one_key}
use Rattle.s38_page_diff.specs.reconcile.Walking.{IsKeyInRange}
use Rattle.s38_page_diff.proofs.reconcile.ContentLaws.{changed_at, get-changed}
use Rattle.s38_page_diff.proofs.reconcile.PlacedLaws.{all_after, rising_before}
use Rattle.s38_page_diff.proofs.reconcile.SoFarLaws.{new-append}
use Rattle.s38_rules.specs.state.Held.{Held}
use Rattle.s38_rules.specs.declared.object.Object.{Object}
use Rattle.s38_vault.specs.Content.{AreRising, Content, changed}
use Rattle.s38_vault.specs.Directory.{Keys, changed_keys, is_new, keys_of, new_keys, with_key}
use Rattle.s38_vault.specs.Keys.{IsBefore, key_cmp, key_cmp_total}
use Rattle.s38_vault.proofs.DirectoryLaws.{contains-other, keys_of-changed, len-changed_keys, len-keys_of, rising_all, rising_rest}
use Rattle.s38_vault.proofs.KeyedLaws.{key_cmp-IsAntisymmetric}

-- ---- lists with the same front

pub same_front : {A : Type 0} (front front' rest rest' : List A) → front ++ rest ≡ front' ++ rest' → length front ≡ length front' → front ≡ front'
same_front front front' rest rest' whole long =
    sym (take-append_seam front rest) ∙ (λ i. take (long i) (whole i)) ∙ take-append_seam front' rest'

pub same_rest : {A : Type 0} (front front' rest rest' : List A) → front ++ rest ≡ front' ++ rest' → front ≡ front' → rest ≡ rest'
same_rest {A} front front' rest rest' whole same = append_cancel_left front rest rest' (whole ∙ ap (λ (l : List A). l ++ rest') (sym same))

-- ---- keys that are of no part

-- changes of parts leave them
kept_at : (cs : List Change) (q : Key) (old : Option Page) → AllByRecursion (λ c. IsKeyInRange c.key) cs → (IsKeyInRange q → ⊥) → changed_at cs q old ≡ old
unfolding changed_at
kept_at [] q old fine not = refl
kept_at (c ∷ cs) q old fine not = by (eq_by_cmp key_cmp q c.key) refl (kept_at cs q old fine.1 not)
  where
    by : (b : Bool) → eq_by_cmp key_cmp q c.key ≡ b → changed_at cs q old ≡ old → changed_at cs q (cond b c.page old) ≡ old
    by true same rest = absurd (not (subst IsKeyInRange (sym (one_key q c.key same)) fine.0))
    by false other rest = rest

pub others_stay : (m : Content) (cs : List Change) (q : Key) → AllByRecursion (λ c. IsKeyInRange c.key) cs → (IsKeyInRange q → ⊥) → get (changed m cs) q ≡ get m q
others_stay m cs q fine not = get-changed m cs q ∙ kept_at cs q (get m q) fine not

-- ---- one content is after

module _ (m : Content) (d : Durable) (h : Held) (os : List Object) (n x : Content) (a : IsAfter m d h os n) (b : IsAfter m d h os x) where
  same_page : (key : Key) → get n key ≡ get x key
  same_page key = elim (cases_lt key.object 1) [
    | inl none ↦ apart (λ is. omega (arith, is.from, none))
    | inr from ↦ elim (cases_lt key.part (2 ^ 32)) [
      | inl part ↦ a.each key from part ∙ sym (b.each key from part)
      | inr far ↦ apart (λ is. no_less key.part (2 ^ 32) is.part far)
    ]
  ]
    where
      apart : (IsKeyInRange key → ⊥) → get n key ≡ get x key
      apart not = a.others key not ∙ sym (b.others key not)

      no_less : (i j : ℕ) → i < j → j ≤ i → ⊥
      no_less i j less more = omega arith

  pub one_after : n ≡ x
  one_after = same_map key_cmp_total key_cmp-IsAntisymmetric n x same_page

-- ---- new keys after changes of keys before

new_later : (ks : Keys) (k : Key) (o : Option Page) (cs : List Change) → AllByRecursion (λ d. IsBefore k d.key) cs → new_keys (with_key ks k o) cs ≡ new_keys ks cs
new_later ks k o [] h = refl
new_later ks k o (d ∷ cs) h =
    let same = contains-other ks k d.key o (not_above k d.key h.0) in
    sum_by-cons (λ c. cond (is_new (with_key ks k o) c) 1 0) d cs
    ∙ (λ i. cond (is_some d.page && not (same i)) 1 0 + new_later ks k o cs h.1 i)
    ∙ sym (sum_by-cons (λ c. cond (is_new ks c) 1 0) d cs)

new_after : (ks : Keys) (made rest : List Change) → AreRising (made ++ rest) → new_keys (changed_keys ks made) rest ≡ new_keys ks rest
new_after ks [] rest rising = refl
new_after ks (c ∷ made) rest rising =
    new_after (with_key ks c.key c.page) made rest (rising_rest c (made ++ rest) rising)
    ∙ new_later ks c.key c.page rest (all_after (λ d. IsBefore c.key d.key) made rest (rising_all c (made ++ rest) rising))

-- ---- room

-- the free parts and those that are held are all parts
pub all_parts : (n : Content) (keys : Keys) (room free parts : ℕ) → keys ≡ keys_of n → room + len keys ≡ parts → free ≡ room → free + len n ≡ parts
all_parts n keys room free parts same sum is = (λ i. is i + sym (ap (λ (ks : Keys). len ks) same ∙ len-keys_of n) i) ∙ sum

-- where there is room for all changes there is room for the last of them after the first
room_for_all : (n : Content) (front own : List Change) (free parts : ℕ) → AreRising (front ++ own) → free + len (keys_of n) ≡ parts → new_keys (keys_of n) (front ++ own) ≤ free
    → len (changed n front) + new_keys (keys_of (changed n front)) own ≤ parts
room_for_all n front own free parts rising sum room =
    let keys = keys_of-changed n front in
    let long = sym (len-keys_of (changed n front)) ∙ ap (λ (ks : Keys). len ks) keys in
    let more = len-changed_keys (keys_of n) front (rising_before front own rising) in
    let new = ap (λ (ks : Keys). new_keys ks own) keys ∙ new_after (keys_of n) front own rising in
    let both = new-append (keys_of n) front own in
    omega (arith, sum, room, long, more, new, both)

-- none of the changes was put, or those of the front were: the others fit after the front
pub room_after : (n : Content) (front own made later : List Change) (most : ℕ) (keys : Keys) (free parts : ℕ) → AreRising (front ++ own) → front ++ own ≡ made ++ later → ((made ≡ []) × (length later ≤ most)) ⊎ (length made ≡ length front)
    → keys ≡ keys_of (changed n made) → free + len keys ≡ parts → new_keys keys later ≤ free → len (changed n front) + new_keys (keys_of (changed n front)) own ≤ parts
room_after n front own made later most keys free parts rising whole (inl few) held sum room =
    let same : keys ≡ keys_of n = held ∙ ap (λ (cs : List Change). keys_of (changed n cs)) few.0 in
    let all : later ≡ front ++ own = sym (whole ∙ ap (λ (cs : List Change). cs ++ later) few.0) in
    room_for_all n front own free parts rising (ap (λ (ks : Keys). free + len ks) (sym same) ∙ sum) (subst (λ (v : ℕ). v ≤ free) (λ i. new_keys (same i) (all i)) room)
room_after n front own made later most keys free parts rising whole (inr long) held sum room =
    let same : made ≡ front = same_front made front later own (sym whole) long in
    let rest : later ≡ own = same_rest made front later own (sym whole) same in
    let now : keys ≡ keys_of (changed n front) = held ∙ ap (λ (cs : List Change). keys_of (changed n cs)) same in
    let fits : new_keys (keys_of (changed n front)) own ≤ free = subst (λ (v : ℕ). v ≤ free) (λ i. new_keys (now i) (rest i)) room in
    let parts_held = all_parts (changed n front) keys free free parts now sum refl in
    omega (arith, fits, parts_held)

-- ---- each fits in its turn

module _ (parts : ℕ) (m : Content) (d : Durable) (h : Held) where
  -- what fits after one content that is after fits
  pub fits_by : (gone rest : List Object) (n : Content) (needed : ℕ) → IsAfter m d h gone n → needed ≡ new_parts_of_objects h d n rest → len n + needed ≤ parts → Fits parts m d h gone rest
  fits_by gone rest n needed behind is fits x other =
      subst (λ (y : Content). len y + new_parts_of_objects h d y rest ≤ parts) (one_after m d h gone n x behind other)
      (subst (λ (v : ℕ). len n + v ≤ parts) is fits)

  -- the same objects are gone
  at_front : (gone rest front back : List Object) → h.objects ≡ gone ++ rest → h.objects ≡ front ++ back → length front ≡ length gone → Fits parts m d h gone rest → Fits parts m d h front back
  at_front gone rest front back all whole long fits =
      let same : front ≡ gone = same_front front gone back rest (sym whole ∙ all) long in
      let left : back ≡ rest = same_rest front gone back rest (sym whole ∙ all) same in
      subst (λ (l : List Object). Fits parts m d h l back) (sym same) (subst (λ (l : List Object). Fits parts m d h gone l) (sym left) fits)

  -- one more fits
  pub first_more : (gone rest : List Object) (o : Object) → h.objects ≡ gone ++ o ∷ rest → FirstFit parts m d h (length gone) → Fits parts m d h gone (o ∷ rest) → FirstFit parts m d h (length (gone ++ o ∷ []))
  first_more gone rest o all was fits front back whole low = elim (cases_lt (length front) (length gone)) [
    | inl below ↦ was front back whole below
    | inr above ↦
        let long : length front ≡ length gone = omega (arith, low, above, length-append gone (o ∷ [])) in
        at_front gone (o ∷ rest) front back all whole long fits
  ]

  -- and at last the ceiling
  pub each_fits : FirstFit parts m d h (length h.objects) → Fits parts m d h h.objects [] → EachFits parts m d h
  each_fits first last front back whole = elim (cases_lt (length front) (length h.objects)) [
    | inl below ↦ first front back whole below
    | inr above ↦
        let long : length front ≡ length h.objects = omega (arith, above, ap (λ (l : List Object). length l) whole, length-append front back) in
        at_front h.objects [] front back (sym (append-nil h.objects)) whole long last
  ]
