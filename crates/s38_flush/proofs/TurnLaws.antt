-- Changes in two turns.
use Rattle.std.proofs.Common.{◌==◌, ◌≡◌, ◌+◌, ◌∙◌, ◌∷◌, [], Bool, List, None, Option, Some, ap, arith, cond, false, filter, length, not, refl, subst, suc, sym, take, true, zero, ℕ}
use Rattle.std.proofs.lemmas.List.Sums.{sum_by-cons}
use Rattle.std.specs.FinMap.{get, same_map}
use Rattle.std.specs.List.{AllByRecursion}
use Rattle.std.specs.Ordering.{eq_by_cmp}
use Rattle.std.specs.Prelude.{◌||◌, Err, IfOk, Ok, Result, is_some, nat_le}
use Rattle.s38_base.specs.declared.page.Change.{Change}
use Rattle.s38_base.specs.declared.page.Key.{Key}
use Rattle.s38_base.specs.declared.page.Page.{Page}
use Rattle.s38_durable_state.specs.Durable.{Durable, durable_after, kept, kept_after}
use Rattle.s38_durable_state.specs.Following as Follows
use Rattle.s38_page_diff.proofs.WalkLaws.{one_key}
use Rattle.s38_image.specs.PartPlaces.{ceiling_key}
use Rattle.s38_image.specs.declared.stored.Stored.{Stored}
use Rattle.s38_page_diff.proofs.reconcile.ContentLaws.{changed_at, get-changed}
use Rattle.s38_page_diff.proofs.reconcile.SoFarLaws.{all_of}
use Rattle.s38_rules.specs.store.Forcing.{Forced}
use Rattle.s38_rules.specs.state.Held.{Held, object}
use Rattle.s38_rules.specs.state.State.{State}
use Rattle.s38_rules.specs.declared.object.Object.{Object}
use Rattle.s38_vault.proofs.DirectoryLaws.{rising_all, rising_rest}
use Rattle.s38_vault.proofs.KeyedLaws.{key_cmp-IsAntisymmetric}
use Rattle.s38_vault.specs.Content.{AreRising, Content, changed}
use Rattle.s38_vault.specs.Directory.{Keys, changed_keys, is_new, new_keys, with_key}
use Rattle.s38_vault.specs.Keys.{IsBefore, key_cmp, key_cmp_total}
use Rattle.s38_flush.proofs.AfterLaws.{apart_below, kept_after_step, kept_one}
use Rattle.s38_flush.proofs.BothLaws.{new_others}
use Rattle.s38_flush.specs.Leftovers.{belongs_in, first_changes, is_left_in, later_changes}
use Rattle.s38_flush.specs.Putting.{AreTurns, belongs_to, is_of_none, is_of_one, is_on_disk_in}
use Rattle.s38_flush.specs.Stepping.{IsNumber}

-- ---- results

pub if_ok : {T E : Type 0} (r : Result T E) (P Q : T → Type 0) → IfOk r P → ((t : T) → P t → Q t) → IfOk r Q
if_ok (Ok t) P Q h f = f t h
if_ok (Err e) P Q h f = tt

pub if_both : {T E : Type 0} (r : Result T E) (P Q R : T → Type 0) → IfOk r P → IfOk r Q → ((t : T) → P t → Q t → R t) → IfOk r R
if_both (Ok t) P Q R g h f = f t g h
if_both (Err e) P Q R g h f = tt

-- ---- some of the changes

pub all_kept : (P : Change → Type 0) (test : Change → Bool) (cs : List Change) → AllByRecursion P cs → AllByRecursion P (filter test cs)
all_kept P test [] h = tt
all_kept P test (c ∷ cs) h = by (test c) (all_kept P test cs h.1)
  where
    by : (b : Bool) → AllByRecursion P (filter test cs) → AllByRecursion P (cond b (c ∷ filter test cs) (filter test cs))
    by true rest = (h.0, rest)
    by false rest = rest

pub all_taken : (P : Change → Type 0) (n : ℕ) (cs : List Change) → AllByRecursion P cs → AllByRecursion P (take n cs)
all_taken P n [] h = by n
  where
    by : (n : ℕ) → AllByRecursion P (take n [])
    by zero = tt
    by (suc n) = tt
all_taken P zero (c ∷ cs) h = tt
all_taken P (suc n) (c ∷ cs) h = (h.0, all_taken P n cs h.1)

pub all_pass : (test : Change → Bool) (cs : List Change) → AllByRecursion (λ c. test c ≡ true) (filter test cs)
all_pass test [] = tt
all_pass test (c ∷ cs) = by (test c) refl (all_pass test cs)
  where
    by : (b : Bool) → test c ≡ b → AllByRecursion (λ d. test d ≡ true) (filter test cs) → AllByRecursion (λ d. test d ≡ true) (cond b (c ∷ filter test cs) (filter test cs))
    by true is rest = (is, rest)
    by false is rest = rest

-- tests that agree at each of them pass the same ones
pub same_kept : (f g : Change → Bool) (cs : List Change) → AllByRecursion (λ c. f c ≡ g c) cs → filter f cs ≡ filter g cs
same_kept f g [] h = refl
same_kept f g (c ∷ cs) h = λ i. cond (h.0 i) (c ∷ same_kept f g cs h.1 i) (same_kept f g cs h.1 i)

rising_before : (c : Change) (cs : List Change) → AllByRecursion (λ d. IsBefore c.key d.key) cs → AreRising cs → AreRising (c ∷ cs)
rising_before c [] above rising = tt
rising_before c (d ∷ cs) above rising = (above.0, rising)

pub rising_kept : (test : Change → Bool) (cs : List Change) → AreRising cs → AreRising (filter test cs)
rising_kept test [] rising = tt
rising_kept test (c ∷ cs) rising = by (test c) (rising_kept test cs (rising_rest c cs rising))
  where
    by : (b : Bool) → AreRising (filter test cs) → AreRising (cond b (c ∷ filter test cs) (filter test cs))
    by true rest = rising_before c (filter test cs) (all_kept _ test cs (rising_all c cs rising)) rest
    by false rest = rest

-- ---- keys that a test tells apart

differ : (b : Bool) → b ≡ not b → ⊥
differ true e = cc
differ false e = cc

pub keys_apart : (test : Key → Bool) (b : Bool) (q k : Key) → test q ≡ b → test k ≡ not b → eq_by_cmp key_cmp q k ≡ false
keys_apart test b q k here there = by (eq_by_cmp key_cmp q k) refl
  where
    by : (e : Bool) → eq_by_cmp key_cmp q k ≡ e → e ≡ false
    by true same = absurd (differ b (sym here ∙ ap test (one_key q k same) ∙ there))
    by false same = refl

-- changes of keys that do not pass leave one that does, and the other way round
pub beside : (test : Key → Bool) (b : Bool) (cs : List Change) (q : Key) (old : Option Page) → test q ≡ b → AllByRecursion (λ c. test c.key ≡ not b) cs → changed_at cs q old ≡ old
unfolding changed_at
beside test b [] q old here apart = refl
beside test b (c ∷ cs) q old here apart = ap (λ e. changed_at cs q (cond e c.page old)) (keys_apart test b q c.key here apart.0) ∙ beside test b cs q old here apart.1

-- at a key that passes the others make no difference
pub passing : (test : Key → Bool) (cs : List Change) (q : Key) (old : Option Page) → test q ≡ true → changed_at (filter (λ c. test c.key) cs) q old ≡ changed_at cs q old
unfolding changed_at
passing test [] q old here = refl
passing test (c ∷ cs) q old here = by (test c.key) refl (λ o. passing test cs q o here)
  where
    ones : List Change
    ones = filter (λ d. test d.key) cs

    by : (b : Bool) → test c.key ≡ b → ((o : Option Page) → changed_at ones q o ≡ changed_at cs q o) → changed_at (cond b (c ∷ ones) ones) q old ≡ changed_at cs q (cond (eq_by_cmp key_cmp q c.key) c.page old)
    by true is rest = rest (cond (eq_by_cmp key_cmp q c.key) c.page old)
    by false is rest = rest old ∙ ap (λ e. changed_at cs q (cond e c.page old)) (sym (keys_apart test true q c.key here is))

-- ---- a content after both turns

not_true : (b : Bool) → not b ≡ true → b ≡ false
not_true true e = absurd cc
not_true false e = refl

module _ (test : Key → Bool) (cs : List Change) where
  abbrev ones : List Change
  ones = filter (λ c. test c.key) cs

  abbrev others : List Change
  others = filter (λ c. not (test c.key)) cs

  pub ones_pass : AllByRecursion (λ c. test c.key ≡ true) ones
  ones_pass = all_pass (λ c. test c.key) cs

  pub others_fail : AllByRecursion (λ c. test c.key ≡ false) others
  others_fail = all_of _ _ others (λ c is. not_true (test c.key) is) (all_pass (λ c. not (test c.key)) cs)

  at_key : (q : Key) (old : Option Page) (b : Bool) → test q ≡ b → changed_at others q (changed_at ones q old) ≡ changed_at cs q old
  at_key q old true is = beside test true others q (changed_at ones q old) is others_fail ∙ passing test cs q old is
  at_key q old false is = ap (changed_at others q) (beside test false ones q old is ones_pass) ∙ passing (λ k. not (test k)) cs q old (ap not is)

  -- it is the one after all changes
  pub in_turn : (m : Content) → changed (changed m ones) others ≡ changed m cs
  in_turn m =
      same_map key_cmp_total key_cmp-IsAntisymmetric _ _ (λ q.
      get-changed (changed m ones) others q ∙ ap (changed_at others q) (get-changed m ones q) ∙ at_key q (get m q) (test q) refl ∙ sym (get-changed m cs q))

-- ---- keys that are new

pub new_both : (test : Change → Bool) (ks : Keys) (cs : List Change) → new_keys ks (filter test cs) + new_keys ks (filter (λ c. not (test c)) cs) ≡ new_keys ks cs
new_both test ks [] = refl
new_both test ks (c ∷ cs) = by (test c) (new_both test ks cs) (sum_by-cons new c cs) (sum_by-cons new c (filter test cs)) (sum_by-cons new c (filter (λ d. not (test d)) cs))
  where
    new : Change → ℕ
    new d = cond (is_new ks d) 1 0

    by : (b : Bool) → new_keys ks (filter test cs) + new_keys ks (filter (λ d. not (test d)) cs) ≡ new_keys ks cs
        → new_keys ks (c ∷ cs) ≡ new c + new_keys ks cs
        → new_keys ks (c ∷ filter test cs) ≡ new c + new_keys ks (filter test cs)
        → new_keys ks (c ∷ filter (λ d. not (test d)) cs) ≡ new c + new_keys ks (filter (λ d. not (test d)) cs)
        → new_keys ks (cond b (c ∷ filter test cs) (filter test cs)) + new_keys ks (cond (not b) (c ∷ filter (λ d. not (test d)) cs) (filter (λ d. not (test d)) cs)) ≡ new_keys ks (c ∷ cs)
    by true rest whole one other = omega (arith, rest, whole, one)
    by false rest whole one other = omega (arith, rest, whole, other)

-- of the later ones the same are new after the first
pub new_apart : (test : Key → Bool) (ks : Keys) (first later : List Change) → AllByRecursion (λ c. test c.key ≡ true) first → AllByRecursion (λ c. test c.key ≡ false) later → new_keys (changed_keys ks first) later ≡ new_keys ks later
new_apart test ks [] later pass fail = refl
new_apart test ks (c ∷ first) later pass fail =
    new_apart test (with_key ks c.key c.page) first later pass.1 fail
    ∙ new_others ks c.key c.page later (all_of _ _ later (λ d is. keys_apart test false d.key c.key is pass.0) fail)

-- ---- the turns of a step

all_true : (cs : List Change) → AllByRecursion (λ c. true ≡ true) cs
all_true [] = tt
all_true (c ∷ cs) = (refl, all_true cs)

-- all come first
pub turns_whole : (cs : List Change) → AreRising cs → AllByRecursion (λ c. IsNumber c.key.object) cs → AreTurns cs []
turns_whole cs rising objects = record {
  first_rising = rising;
  later_rising = tt;
  first_objects = objects;
  later_objects = tt;
  test = λ key. true;
  passes = all_true cs;
  fails = tt;
}

module _ (h : Held) (cs first later : List Change) where
  pub turns_split : AreRising cs → AllByRecursion (λ c. IsNumber c.key.object) cs → first ≡ filter (is_of_one h) cs → later ≡ filter (is_of_none h) cs → AreTurns first later
  turns_split rising objects one two =
      subst (λ (ones : List Change). AreTurns ones later) (sym one) (subst (λ (others : List Change). AreTurns (filter (is_of_one h) cs) others) (sym two) (record {
        first_rising = rising_kept (is_of_one h) cs rising;
        later_rising = rising_kept (is_of_none h) cs rising;
        first_objects = all_kept _ (is_of_one h) cs objects;
        later_objects = all_kept _ (is_of_none h) cs objects;
        test = belongs_to h;
        passes = ones_pass (belongs_to h) cs;
        fails = others_fail (belongs_to h) cs;
      }))

  pub same_split : (m : Content) → first ≡ filter (is_of_one h) cs → later ≡ filter (is_of_none h) cs → changed (changed m first) later ≡ changed m cs
  same_split m one two = (λ i. changed (changed m (one i)) (two i)) ∙ in_turn (belongs_to h) cs m

  pub new_split : (ks : Keys) → first ≡ filter (is_of_one h) cs → later ≡ filter (is_of_none h) cs → new_keys ks first + new_keys ks later ≡ new_keys ks cs
  new_split ks one two = (λ i. new_keys ks (one i) + new_keys ks (two i)) ∙ new_both (is_of_one h) ks cs

-- ---- after a step

some_kept : (all : List Forced) (s : State) (old : List Stored) (o : Option Object) → is_on_disk_in o ≡ is_some (kept_one all s old o)
some_kept all s old None = refl
some_kept all s old (Some o) = by o.on_disk
  where
    by : (b : Bool) → b ≡ is_some (cond b (Some (kept_after all s (kept old o.number.0) o)) None)
    by true = refl
    by false = refl

-- what belongs to an object that is there belongs to what is kept
belongs_behind : (all : List Forced) (d : Durable) (s : State) → Follows.NumbersRise s.held → (c : Change) → IsNumber c.key.object → is_of_one s.held c ≡ belongs_in (durable_after all d s) c
belongs_behind all d s rising c number =
    let n = c.key.object in
    let apart : false ≡ (n == ceiling_key) = sym (apart_below n number.1) in
    let is : is_on_disk_in (object s.held n) ≡ is_some (kept (durable_after all d s).objects n) = some_kept all s d.objects (object s.held n) ∙ sym (ap is_some (kept_after_step all d s n rising)) in
    λ i. (c.key.part == 0) || (apart i || is i)

belongs_to_step : (all : List Forced) (d : Durable) (s : State) (h : Held) → s.held ≡ h → Follows.NumbersRise h → (c : Change) → IsNumber c.key.object → is_of_one h c ≡ belongs_in (durable_after all d s) c
belongs_to_step all d s h held rising c number =
    ap (λ (k : Held). is_of_one k c) (sym held) ∙ belongs_behind all d s (subst Follows.NumbersRise (sym held) rising) c number

module _ (all : List Forced) (d : Durable) (s : State) (h : Held) (held : s.held ≡ h) (rising : Follows.NumbersRise h) (most : ℕ) (cs : List Change) (objects : AllByRecursion (λ c. IsNumber c.key.object) cs) where
  same : AllByRecursion (λ c. is_of_one h c ≡ belongs_in (durable_after all d s) c) cs
  same = all_of _ _ cs (λ c number. belongs_to_step all d s h held rising c number) objects

  pub first_split : nat_le (length cs) most ≡ false → filter (is_of_one h) cs ≡ first_changes most (durable_after all d s) cs
  first_split many = same_kept _ _ cs same ∙ sym (ap (λ b. cond b cs (filter (belongs_in (durable_after all d s)) cs)) many)

  pub later_split : nat_le (length cs) most ≡ false → filter (is_of_none h) cs ≡ later_changes most (durable_after all d s) cs
  later_split many =
      same_kept _ _ cs (all_of _ _ cs (λ c is. ap not is) same)
      ∙ sym (ap (λ b. cond b [] (filter (is_left_in (durable_after all d s)) cs)) many)

pub first_whole : (most : ℕ) (d : Durable) (cs : List Change) → nat_le (length cs) most ≡ true → cs ≡ first_changes most d cs
first_whole most d cs few = sym (ap (λ b. cond b cs (filter (belongs_in d) cs)) few)
