-- Changes that are made one put after another.
use Rattle.std.proofs.Common.{◌≡◌, ◌⊎◌, ℕ, zero, suc, ◌+◌, ◌*◌, ◌<◌, ◌≤◌, min, cond, not, List, [], ◌∷◌, ◌++◌, inl, inr, length, take, refl, sym, ◌∙◌, ap, subst, arith, append_assoc, append-nil, length-append}
use Rattle.std.proofs.Math.Nat.{suc-mul}
use Rattle.std.proofs.lemmas.Bool.{cases_lt}
use Rattle.std.proofs.lemmas.List.Sums.{sum_by-append, sum_by-cons}
use Rattle.std.specs.Prelude.{◌↔◌, ◌&&◌, Option, is_none, is_some}
use Rattle.std.specs.FinMap.{contains_key}
use Rattle.std.specs.List.{AllByRecursion}
use Rattle.s38_base.specs.Faults.{Rose}
use Rattle.s38_base.specs.declared.page.Change.{Change}
use Rattle.s38_base.specs.declared.page.Key.{Key}
use Rattle.s38_base.specs.declared.page.Page.{Page}
use Rattle.s38_page_diff.specs.Puts.{IsAfterPuts}
use Rattle.s38_vault.specs.Content.{AreRising, Content, HaveObjects, changed, with_value}
use Rattle.s38_vault.specs.Directory.{Keys, changed_keys, gone_keys, is_gone, is_new, new_keys, with_key}
use Rattle.s38_vault.specs.Keys.{IsBefore}
use Rattle.s38_vault.specs.Vaults.{VaultView}
use Rattle.s38_vault.proofs.DirectoryLaws.{contains-other, rising_all, rising_rest}
use Rattle.s38_page_diff.proofs.WalkLaws.{not_above}

-- ---- some changes, and those after them

pub changed-append : (m : Content) (made rest : List Change) → changed m (made ++ rest) ≡ changed (changed m made) rest
changed-append m [] rest = refl
changed-append m (c ∷ made) rest = changed-append (with_value m c.key c.page) made rest

pub changed_keys-append : (ks : Keys) (made rest : List Change) → changed_keys ks (made ++ rest) ≡ changed_keys (changed_keys ks made) rest
changed_keys-append ks [] rest = refl
changed_keys-append ks (c ∷ made) rest = changed_keys-append (with_key ks c.key c.page) made rest

all_first : (P : Change → Type 0) (made rest : List Change) → AllByRecursion P (made ++ rest) → AllByRecursion P made
all_first P [] rest h = tt
all_first P (c ∷ made) rest h = (h.0, all_first P made rest h.1)

all_last : (P : Change → Type 0) (made rest : List Change) → AllByRecursion P (made ++ rest) → AllByRecursion P rest
all_last P [] rest h = h
all_last P (c ∷ made) rest h = all_last P made rest h.1

pub rising_first : (made rest : List Change) → AreRising (made ++ rest) → AreRising made
rising_first [] rest h = tt
rising_first (c ∷ []) rest h = tt
rising_first (c ∷ d ∷ made) rest h = (h.0, rising_first (d ∷ made) rest h.1)

pub rising_last : (made rest : List Change) → AreRising (made ++ rest) → AreRising rest
rising_last [] rest h = h
rising_last (c ∷ made) rest h = rising_last made rest (rising_rest c (made ++ rest) h)

-- ---- which keys are new and which are gone does not hang on changes of keys before

later_same : (ks : Keys) (k : Key) (o : Option Page) (d : Change) → IsBefore k d.key → contains_key (with_key ks k o) d.key ≡ contains_key ks d.key
later_same ks k o d before = contains-other ks k d.key o (not_above k d.key before)

new_later : (ks : Keys) (k : Key) (o : Option Page) (cs : List Change) → AllByRecursion (λ d. IsBefore k d.key) cs → new_keys (with_key ks k o) cs ≡ new_keys ks cs
new_later ks k o [] h = refl
new_later ks k o (d ∷ cs) h =
    let same = later_same ks k o d h.0 in
    sum_by-cons (λ c. cond (is_new (with_key ks k o) c) 1 0) d cs
    ∙ (λ i. cond (is_some d.page && not (same i)) 1 0 + new_later ks k o cs h.1 i)
    ∙ sym (sum_by-cons (λ c. cond (is_new ks c) 1 0) d cs)

gone_later : (ks : Keys) (k : Key) (o : Option Page) (cs : List Change) → AllByRecursion (λ d. IsBefore k d.key) cs → gone_keys (with_key ks k o) cs ≡ gone_keys ks cs
gone_later ks k o [] h = refl
gone_later ks k o (d ∷ cs) h =
    let same = later_same ks k o d h.0 in
    sum_by-cons (λ c. cond (is_gone (with_key ks k o) c) 1 0) d cs
    ∙ (λ i. cond (is_none d.page && same i) 1 0 + gone_later ks k o cs h.1 i)
    ∙ sym (sum_by-cons (λ c. cond (is_gone ks c) 1 0) d cs)

new_after : (ks : Keys) (made rest : List Change) → AreRising (made ++ rest) → new_keys (changed_keys ks made) rest ≡ new_keys ks rest
new_after ks [] rest rising = refl
new_after ks (c ∷ made) rest rising =
    let behind = all_last (λ d. IsBefore c.key d.key) made rest (rising_all c (made ++ rest) rising) in
    new_after (with_key ks c.key c.page) made rest (rising_rest c (made ++ rest) rising) ∙ new_later ks c.key c.page rest behind

gone_after : (ks : Keys) (made rest : List Change) → AreRising (made ++ rest) → gone_keys (changed_keys ks made) rest ≡ gone_keys ks rest
gone_after ks [] rest rising = refl
gone_after ks (c ∷ made) rest rising =
    let behind = all_last (λ d. IsBefore c.key d.key) made rest (rising_all c (made ++ rest) rising) in
    gone_after (with_key ks c.key c.page) made rest (rising_rest c (made ++ rest) rising) ∙ gone_later ks c.key c.page rest behind

new-append : (ks : Keys) (made rest : List Change) → new_keys ks (made ++ rest) ≡ new_keys ks made + new_keys ks rest
new-append ks made rest = sum_by-append (λ c. cond (is_new ks c) 1 0) made rest

gone-append : (ks : Keys) (made rest : List Change) → gone_keys ks (made ++ rest) ≡ gone_keys ks made + gone_keys ks rest
gone-append ks made rest = sum_by-append (λ c. cond (is_gone ks c) 1 0) made rest

-- ---- the first changes

pub first_ones : (made rest : List Change) (n : ℕ) → length made ≡ min n (length made + length rest) → take n (made ++ rest) ≡ made
first_ones [] [] zero h = refl
first_ones [] [] (suc n) h = refl
first_ones [] (r ∷ rest) zero h = refl
first_ones [] (r ∷ rest) (suc n) h = absurd (omega arith)
first_ones (c ∷ made) rest zero h = absurd (omega arith)
first_ones (c ∷ made) rest (suc n) h = ap (λ (cs : List Change). c ∷ cs) (first_ones made rest n (omega arith))

-- ---- puts so far

-- a vault is as it was before, with some changes made, and others to be made
pub record PutSoFar (V : Type 0) (view : V → VaultView) (holds : V → Content → Type 0) (leaves : V → ℕ → Content → Type 0) (old now : V) (changes rest : List Change) : Type 0 where
  pub made : List Change
  pub puts : ℕ
  pub pieces : made ++ rest ≡ changes
  pub whole : length made ≡ min (puts * (view old).shape.most) (length made + length rest)
  pub held : (m : Content) → holds old m → holds now (changed m made)
  pub told : (n : Content) → holds now n → (m : Content) × (holds old m × (n ≡ changed m made))
  pub keys : (view now).keys ≡ changed_keys (view old).keys made
  pub free : (view now).free + new_keys (view old).keys made ≡ (view old).free + gone_keys (view old).keys made
  pub none : length made ≡ 0 → now ≡ old
  pub past : (t : ℕ) (m : Content) → t ≤ (view old).moment → leaves old t m ↔ leaves now t m
  pub during : (m : Content) → holds old m → (t : ℕ) (n : Content) → (view old).moment < t → t ≤ (view now).moment → leaves now t n → IsAfterPuts (view old).shape.most m changes n
  pub later : (view old).moment ≤ (view now).moment
  pub rises : 1 ≤ length made → Rose (view old).moment (view now).moment
  pub spare : (view old).spare ≤ (view now).spare + length made
  pub shape : (view now).shape ≡ (view old).shape
  pub count : (view now).faults ≡ (view old).faults

-- one put was made, or tried
pub record PutTried (V : Type 0) (view : V → VaultView) (holds : V → Content → Type 0) (leaves : V → ℕ → Content → Type 0) (old now : V) (changes : List Change) : Type 0 where
  pub past : (t : ℕ) (m : Content) → t ≤ (view old).moment → leaves old t m ↔ leaves now t m
  pub during : (m : Content) → holds old m → (t : ℕ) (n : Content) → (view old).moment < t → t ≤ (view now).moment → leaves now t n → (n ≡ m) ⊎ (n ≡ changed m changes)
  pub later : (view old).moment ≤ (view now).moment
  pub spare : (view old).spare ≤ (view now).spare + length changes
  pub shape : (view now).shape ≡ (view old).shape

pub record PutMade (V : Type 0) (view : V → VaultView) (holds : V → Content → Type 0) (leaves : V → ℕ → Content → Type 0) (old now : V) (changes : List Change) : Type 0 where
  pub held : (m : Content) → holds old m → holds now (changed m changes)
  pub told : (n : Content) → holds now n → (m : Content) × (holds old m × (n ≡ changed m changes))
  pub keys : (view now).keys ≡ changed_keys (view old).keys changes
  pub free : (view now).free + new_keys (view old).keys changes ≡ (view old).free + gone_keys (view old).keys changes
  pub rises : Rose (view old).moment (view now).moment
  pub count : (view now).faults ≡ (view old).faults

rose_more : (old now new : ℕ) → old ≤ now → Rose now new → Rose old new
rose_more old now new low rose = omega arith

-- so many puts more
one_whole : (puts most made chunk rest : ℕ) → made ≡ min (puts * most) (made + (chunk + rest)) → chunk ≡ min most (chunk + rest) → made + chunk ≡ min (suc puts * most) ((made + chunk) + rest)
one_whole puts most made chunk rest whole size = rw (suc-mul puts most) (by (puts * most) whole)
  where
    by : (reach : ℕ) → made ≡ min reach (made + (chunk + rest)) → made + chunk ≡ min (reach + most) ((made + chunk) + rest)
    by reach so_far = omega arith

module _ {V : Type 0} {view : V → VaultView} {holds : V → Content → Type 0} {leaves : V → ℕ → Content → Type 0} where
  pub put_begun : (old : V) (changes : List Change) → PutSoFar V view holds leaves old old changes changes
  put_begun old changes = record {
    made = [];
    puts = 0;
    pieces = refl;
    whole = omega arith;
    held = λ m h. h;
    told = λ n h. (n, (h, refl));
    keys = refl;
    free = refl;
    none = λ h. refl;
    past = λ t m low. ((λ h. h), (λ h. h));
    during = λ m h t n after until left. absurd (omega arith);
    later = omega arith;
    rises = λ some. absurd (omega arith);
    spare = omega arith;
    shape = refl;
    count = refl;
  }

  -- the first changes, after so many puts
  first_made : (old now : V) (changes rest : List Change) → (was : PutSoFar V view holds leaves old now changes rest) → was.made ≡ take (was.puts * (view old).shape.most) changes
  first_made old now changes rest was =
      sym (first_ones was.made rest (was.puts * (view old).shape.most) was.whole)
      ∙ ap (take (was.puts * (view old).shape.most)) was.pieces

  -- what a crash leaves from the first put on, one put more being tried
  pub tried_during : (old now new : V) (changes chunk rest : List Change) → (was : PutSoFar V view holds leaves old now changes (chunk ++ rest)) → length chunk ≡ min (view old).shape.most (length (chunk ++ rest))
      → PutTried V view holds leaves now new chunk
      → (m : Content) → holds old m → (t : ℕ) (n : Content) → (view old).moment < t → t ≤ (view new).moment → leaves new t n → IsAfterPuts (view old).shape.most m changes n
  tried_during old now new changes chunk rest was size tried m h t n after until left =
      let most = (view old).shape.most in
      let whole : length (was.made ++ chunk) ≡ min (suc was.puts * most) (length (was.made ++ chunk) + length rest) =
      rw (length-append was.made chunk) (one_whole was.puts most (length was.made) (length chunk) (length rest) (rw (length-append chunk rest) at was.whole) (rw (length-append chunk rest) at size)) in
      let more : was.made ++ chunk ≡ take (suc was.puts * most) changes =
      sym (first_ones (was.made ++ chunk) rest (suc was.puts * most) whole) ∙ ap (take (suc was.puts * most)) (append_assoc was.made chunk rest ∙ was.pieces) in
      elim (cases_lt (view now).moment t) [
        | inl behind ↦
            elim (tried.during (changed m was.made) (was.held m h) t n behind until left) [
              | inl before ↦ (was.puts, before ∙ ap (changed m) (first_made old now changes (chunk ++ rest) was))
              | inr made ↦ (suc was.puts, made ∙ sym (changed-append m was.made chunk) ∙ ap (changed m) more)
            ]
        | inr early ↦ was.during m h t n after early ((tried.past t n early).1 left)
      ]

  pub tried_past : (old now new : V) (changes chunk rest : List Change) → (was : PutSoFar V view holds leaves old now changes rest) → PutTried V view holds leaves now new chunk
      → (t : ℕ) (m : Content) → t ≤ (view old).moment → leaves old t m ↔ leaves new t m
  tried_past old now new changes chunk rest was tried t m low =
      let early : t ≤ (view now).moment = omega (arith, was.later) in
      ((λ h. (tried.past t m early).0 ((was.past t m low).0 h)), (λ h. (was.past t m low).1 ((tried.past t m early).1 h)))

  -- one put more
  pub put_on : (old now new : V) (changes chunk rest : List Change) → (was : PutSoFar V view holds leaves old now changes (chunk ++ rest)) → AreRising changes → 1 ≤ length chunk
      → length chunk ≡ min (view old).shape.most (length (chunk ++ rest)) → PutTried V view holds leaves now new chunk → PutMade V view holds leaves now new chunk → PutSoFar V view holds leaves old new changes rest
  put_on old now new changes chunk rest was rising some size tried one =
      let most = (view old).shape.most in
      let made = was.made in
      let first = (view old).keys in
      let sum = length-append made chunk in
      let all : AreRising (made ++ (chunk ++ rest)) = subst AreRising (sym was.pieces) rising in
      let both : AreRising (made ++ chunk) = rising_first (made ++ chunk) rest (subst AreRising (sym (append_assoc made chunk rest)) all) in
      let new_chunk : new_keys (view now).keys chunk ≡ new_keys first chunk = ap (λ (ks : Keys). new_keys ks chunk) was.keys ∙ new_after first made chunk both in
      let gone_chunk : gone_keys (view now).keys chunk ≡ gone_keys first chunk = ap (λ (ks : Keys). gone_keys ks chunk) was.keys ∙ gone_after first made chunk both in
      record {
        made = made ++ chunk;
        puts = suc was.puts;
        pieces = append_assoc made chunk rest ∙ was.pieces;
        whole = rw sum (one_whole was.puts most (length made) (length chunk) (length rest) (rw (length-append chunk rest) at was.whole) (rw (length-append chunk rest) at size));
        held = λ m h. subst (holds new) (sym (changed-append m made chunk)) (one.held (changed m made) (was.held m h));
        told = λ n h.
            let last = one.told n h in
            let before = was.told last.0 last.1.0 in
            (before.0, (before.1.0, last.1.1 ∙ ap (λ (c : Content). changed c chunk) before.1.1 ∙ sym (changed-append before.0 made chunk)));
        keys = one.keys ∙ ap (λ (ks : Keys). changed_keys ks chunk) was.keys ∙ sym (changed_keys-append first made chunk);
        free = omega (arith, was.free, one.free, new_chunk, gone_chunk, new-append first made chunk, gone-append first made chunk);
        none = λ h. absurd (omega arith);
        past = tried_past old now new changes chunk (chunk ++ rest) was tried;
        during = tried_during old now new changes chunk rest was size tried;
        later = omega (arith, was.later, tried.later);
        rises = λ more. rose_more (view old).moment (view now).moment (view new).moment was.later one.rises;
        spare = omega (arith, was.spare, tried.spare, sum);
        shape = tried.shape ∙ was.shape;
        count = one.count ∙ was.count;
      }

  -- what the next put needs
  pub next_rising : (old now : V) (changes chunk rest : List Change) → (was : PutSoFar V view holds leaves old now changes (chunk ++ rest)) → AreRising changes → AreRising chunk
  next_rising old now changes chunk rest was rising =
      rising_first chunk rest (rising_last was.made (chunk ++ rest) (subst AreRising (sym was.pieces) rising))

  pub next_room : (old now : V) (changes chunk rest : List Change) → (was : PutSoFar V view holds leaves old now changes (chunk ++ rest)) → AreRising changes → new_keys (view old).keys changes ≤ (view old).free → new_keys (view now).keys chunk ≤ (view now).free
  next_room old now changes chunk rest was rising room =
      let made = was.made in
      let first = (view old).keys in
      let all : AreRising (made ++ (chunk ++ rest)) = subst AreRising (sym was.pieces) rising in
      let both : AreRising (made ++ chunk) = rising_first (made ++ chunk) rest (subst AreRising (sym (append_assoc made chunk rest)) all) in
      let new_chunk : new_keys (view now).keys chunk ≡ new_keys first chunk = ap (λ (ks : Keys). new_keys ks chunk) was.keys ∙ new_after first made chunk both in
      let whole = ap (new_keys first) was.pieces in
      omega (arith, was.free, new_chunk, whole, new-append first made (chunk ++ rest), new-append first chunk rest)

  -- nothing is left to be made
  pub all_made : (old now : V) (changes rest : List Change) → (was : PutSoFar V view holds leaves old now changes rest) → length rest ≡ 0 → was.made ≡ changes
  all_made old now changes rest was none = by rest none was.pieces
    where
      by : (rest : List Change) → length rest ≡ 0 → was.made ++ rest ≡ changes → was.made ≡ changes
      by [] none pieces = sym (append-nil was.made) ∙ pieces
      by (r ∷ rest) none pieces = absurd (omega arith)
