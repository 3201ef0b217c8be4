-- The least key of the messages that fit, and the oldest message of a key.
use Rattle.std.proofs.Common.{◌≡◌, ℕ, suc, ◌+◌, ◌<◌, ◌≤◌, Bool, true, false, cond, not, List, [], ◌∷◌, length, refl, sym, ◌∙◌, ap, subst, arith}
use Rattle.std.proofs.lemmas.Bool.Decides.{nat_tests}
use Rattle.std.proofs.lemmas.Map.{lookup-none}
use Rattle.std.proofs.lemmas.Map.Entries.{lookup_from_place, none_below_head}
use Rattle.std.proofs.lemmas.Map.Keys.{IsDistinct-from_sorted, sorted_tail}
use Rattle.std.proofs.lemmas.Map.Lookups.{exact_bytes}
use Rattle.std.proofs.lemmas.Cmp.{nat_cmp_total}
use Rattle.std.specs.Prelude.{Option, Some, None, slice_get}
use Rattle.std.specs.BTreeMap.{is_at}
use Rattle.std.specs.Cmp.{eq_by_cmp_equiv}
use Rattle.std.specs.Cmp.Lexicographic.{nat_list_cmp_total}
use Rattle.std.specs.List.{AllByRecursion, position_or_len, remove}
use Rattle.std.specs.List.Sorted.{IsStrictlySortedBy}
use Rattle.std.specs.Map.{keys_of, lookup, remove_entry, values_of}
use Rattle.std.specs.Ordering.{is_eq, nat_cmp, ordering_reverse}
use Rattle.std.specs.declared.cmp.Ordering.TheVariants.{Less, Equal, Greater}
use Rattle.s38_base.specs.Relations.{is_greater}
use Rattle.s38_queues.specs.MessageQueue.{least_key, lesser}
use Rattle.s38_queues.specs.declared.message.Message.{Message}
use Rattle.s38_queues.proofs.PlaceLaws.{key_cmp}

abbrev pub at : ℕ → ℕ → Bool
at arrival = is_at (nat_cmp arrival)

all_from_places : {X : Type 0} (P : X → Type 0) (xs : List X) → ((i : ℕ) (x : X) → slice_get xs i ≡ Some x → P x) → AllByRecursion P xs
all_from_places P [] h = tt
all_from_places P (x ∷ xs) h = (h 0 x refl, all_from_places P xs (λ i y e. h (suc i) y e))

-- what holds of each message that is found by its arrival holds of each entry
pub each_entry : (P : ℕ × Message → Type 0) (es : List (ℕ × Message)) → IsStrictlySortedBy nat_cmp (keys_of es) →
    ((arrival : ℕ) (m : Message) → lookup (at arrival) es ≡ Some m → P (arrival, m)) → AllByRecursion P es
each_entry P es sorted h = all_from_places P es (λ i x e. h x.0 x.1
    (lookup_from_place (eq_by_cmp_equiv nat_cmp_total) es i x.0 x.1 (IsDistinct-from_sorted nat_cmp (keys_of es) sorted) e))

abbrev NotAfter : List ℕ → Option (List ℕ) → Type 0
NotAfter key None = Unit {0}
NotAfter key (Some other) = is_greater (key_cmp key other) ≡ false

lesser_not_behind : (key other : List ℕ) (rest : Option (List ℕ)) → is_greater (key_cmp key other) ≡ false → NotAfter key rest → is_greater (key_cmp key (lesser other rest)) ≡ false
lesser_not_behind key other None h r = h
lesser_not_behind key other (Some more) h r =
    elim (is_greater (key_cmp other more)) as (λ b. is_greater (key_cmp key (cond b more other)) ≡ false) [ true ↦ r | false ↦ h ]

lesser_stays : (key : List ℕ) (rest : Option (List ℕ)) → NotAfter key rest → lesser key rest ≡ key
lesser_stays key None h = refl
lesser_stays key (Some other) h = ap (λ b. cond b other key) h

-- a key that comes after none of the keys of the messages that fit
abbrev pub IsLow : (Message → Bool) → List ℕ → List (ℕ × Message) → Type 0
IsLow f key es = AllByRecursion (λ x. f x.1 ≡ true → is_greater (key_cmp key x.1.key) ≡ false) es

low_not_behind : (f : Message → Bool) (key : List ℕ) (es : List (ℕ × Message)) → IsLow f key es → NotAfter key (least_key f (values_of es))
low_not_behind f key [] h = tt
low_not_behind f key (e ∷ es) h =
    let rest = low_not_behind f key es h.1 in
    elim (f e.1) as (λ b. f e.1 ≡ b → NotAfter key (cond b (Some (lesser e.1.key (least_key f (values_of es)))) (least_key f (values_of es)))) [
      | true ↦ λ on. lesser_not_behind key e.1.key (least_key f (values_of es)) (h.0 on) rest
      | false ↦ λ off. rest
    ] refl

lesser_of_two : (key other : List ℕ) → is_greater (key_cmp key other) ≡ false → lesser other (Some key) ≡ key
lesser_of_two key other h =
    elim (key_cmp other key) as (λ r. key_cmp other key ≡ r → cond (is_greater r) key other ≡ key) [
      | Less ↦ λ e.
          let turned : key_cmp key other ≡ Greater = nat_list_cmp_total.antisymm key other ∙ ap ordering_reverse e in
          let wrong : is_greater Greater ≡ false = ap is_greater (sym turned) ∙ h in
          absurd (cc)
      | Equal ↦ λ e. exact_bytes other key e
      | Greater ↦ λ e. refl
    ] refl

some_of : {X : Type 0} (b : Bool) (x y : X) (r : Option X) → b ≡ true → cond b (Some x) r ≡ Some y → x ≡ y
some_of true x y r b h = cc
some_of false x y r b h = absurd (cc)

pub rest_of : {X : Type 0} (b : Bool) (x : X) (y r : Option X) → b ≡ false → cond b (Some x) r ≡ y → r ≡ y
rest_of true x y r b h = absurd (cc)
rest_of false x y r b h = h

pub least_found : (f : Message → Bool) (arrival : ℕ) (m : Message) (es : List (ℕ × Message)) → lookup (at arrival) es ≡ Some m → f m ≡ true → IsLow f m.key es →
    least_key f (values_of es) ≡ Some m.key
least_found f arrival m [] here on low = absurd (cc)
least_found f arrival m (e ∷ es) here on low =
    elim (at arrival e.0) as (λ b. at arrival e.0 ≡ b → least_key f (values_of (e ∷ es)) ≡ Some m.key) [
      | true ↦ λ q.
          let same : e.1 ≡ m = some_of (at arrival e.0) e.1 m (lookup (at arrival) es) q here in
          let fitting : f e.1 ≡ true = ap f same ∙ on in
          let kept : lesser m.key (least_key f (values_of es)) ≡ m.key = lesser_stays m.key (least_key f (values_of es)) (low_not_behind f m.key es low.1) in
          ap (λ b. cond b (Some (lesser e.1.key (least_key f (values_of es)))) (least_key f (values_of es))) fitting
          ∙ ap (λ (x : Message). Some (lesser x.key (least_key f (values_of es)))) same
          ∙ ap Some kept
      | false ↦ λ q.
          let there : lookup (at arrival) es ≡ Some m = rest_of (at arrival e.0) e.1 (Some m) (lookup (at arrival) es) q here in
          let rest : least_key f (values_of es) ≡ Some m.key = least_found f arrival m es there on low.1 in
          elim (f e.1) as (λ b. f e.1 ≡ b → cond b (Some (lesser e.1.key (least_key f (values_of es)))) (least_key f (values_of es)) ≡ Some m.key) [
            | true ↦ λ fitting. ap (λ r. Some (lesser e.1.key r)) rest ∙ ap Some (lesser_of_two m.key e.1.key (low.0 fitting))
            | false ↦ λ _. rest
          ] refl
    ] refl

pub least_none : (f : Message → Bool) (es : List (ℕ × Message)) → AllByRecursion (λ x. f x.1 ≡ false) es → least_key f (values_of es) ≡ None
least_none f [] h = refl
least_none f (e ∷ es) h = ap (λ b. cond b (Some (lesser e.1.key (least_key f (values_of es)))) (least_key f (values_of es))) h.0 ∙ least_none f es h.1

one_more : (n : ℕ) → 1 + n ≡ suc n
one_more n = omega arith

get_next : {X : Type 0} (x : X) (xs : List X) (n : ℕ) → slice_get (x ∷ xs) (1 + n) ≡ slice_get xs n
get_next x xs n = ap (slice_get (x ∷ xs)) (one_more n)

remove_next : {X : Type 0} (x : X) (xs : List X) (n : ℕ) → remove (x ∷ xs) (1 + n) ≡ x ∷ remove xs n
remove_next x xs n = ap (remove (x ∷ xs)) (one_more n)

-- the message of an arrival, where it is the oldest that passes a test
pub record IsOldestAt (test : Message → Bool) (arrival : ℕ) (m : Message) (es : List (ℕ × Message)) : Type 0 where
  pub within : position_or_len test (values_of es) < length (values_of es)
  pub message : slice_get (values_of es) (position_or_len test (values_of es)) ≡ Some m
  pub rest : remove (values_of es) (position_or_len test (values_of es)) ≡ values_of (remove_entry (at arrival) es)

abbrev pub IsOldest : (Message → Bool) → ℕ → List (ℕ × Message) → Type 0
IsOldest test arrival es = AllByRecursion (λ x. test x.1 ≡ true → arrival ≤ x.0) es

less_than : (a b : ℕ) → a ≤ b → is_eq (nat_cmp a b) ≡ false → nat_cmp a b ≡ Less
less_than a b h e = grind (arith, nat_tests)

earlier_fails : (test : Message → Bool) (arrival : ℕ) (m : Message) (e : ℕ × Message) (es : List (ℕ × Message)) → IsStrictlySortedBy nat_cmp (keys_of (e ∷ es)) →
    lookup (at arrival) (e ∷ es) ≡ Some m → at arrival e.0 ≡ false → (test e.1 ≡ true → arrival ≤ e.0) → test e.1 ≡ false
earlier_fails test arrival m e es sorted here q old =
    elim (test e.1) as (λ b. test e.1 ≡ b → b ≡ false) [
      | true ↦ λ on.
          let low : nat_cmp arrival e.0 ≡ Less = less_than arrival e.0 (old on) q in
          let none : lookup (at arrival) (e ∷ es) ≡ None = lookup-none (at arrival) (e ∷ es) (none_below_head nat_cmp_total arrival e es sorted low) in
          let wrong : Some m ≡ None = sym here ∙ none in
          absurd (cc)
      | false ↦ λ off. refl
    ] refl

at_first : (test : Message → Bool) (arrival : ℕ) (e : ℕ × Message) (es : List (ℕ × Message)) → at arrival e.0 ≡ true → test e.1 ≡ true → IsOldestAt test arrival e.1 (e ∷ es)
at_first test arrival e es q on =
    let none : position_or_len test (values_of (e ∷ es)) ≡ 0 = ap (λ b. cond (not b) (1 + position_or_len test (values_of es)) 0) on in
    let gone : remove_entry (at arrival) (e ∷ es) ≡ es = ap (λ b. cond b es (e ∷ remove_entry (at arrival) es)) q in
    record {
      within = rw none (omega arith);
      message = rw none refl;
      rest = ap (remove (values_of (e ∷ es))) none ∙ sym (ap values_of gone);
    }

at_later : (test : Message → Bool) (arrival : ℕ) (m : Message) (e : ℕ × Message) (es : List (ℕ × Message)) → at arrival e.0 ≡ false → test e.1 ≡ false → IsOldestAt test arrival m es → IsOldestAt test arrival m (e ∷ es)
at_later test arrival m e es q off h =
    let next : position_or_len test (values_of (e ∷ es)) ≡ 1 + position_or_len test (values_of es) = ap (λ b. cond (not b) (1 + position_or_len test (values_of es)) 0) off in
    let kept : remove_entry (at arrival) (e ∷ es) ≡ e ∷ remove_entry (at arrival) es = ap (λ b. cond b es (e ∷ remove_entry (at arrival) es)) q in
    let more = h.within in
    record {
      within = rw next (omega arith);
      message = ap (slice_get (values_of (e ∷ es))) next ∙ get_next e.1 (values_of es) (position_or_len test (values_of es)) ∙ h.message;
      rest = ap (remove (values_of (e ∷ es))) next ∙ remove_next e.1 (values_of es) (position_or_len test (values_of es)) ∙ ap (λ ms. e.1 ∷ ms) h.rest ∙ sym (ap values_of kept);
    }

pub oldest_found : (test : Message → Bool) (arrival : ℕ) (m : Message) (es : List (ℕ × Message)) → IsStrictlySortedBy nat_cmp (keys_of es) →
    lookup (at arrival) es ≡ Some m → test m ≡ true → IsOldest test arrival es → IsOldestAt test arrival m es
oldest_found test arrival m [] sorted here on old = absurd (cc)
oldest_found test arrival m (e ∷ es) sorted here on old =
    elim (at arrival e.0) as (λ b. at arrival e.0 ≡ b → IsOldestAt test arrival m (e ∷ es)) [
      | true ↦ λ q.
          let same : e.1 ≡ m = some_of (at arrival e.0) e.1 m (lookup (at arrival) es) q here in
          subst (λ (x : Message). IsOldestAt test arrival x (e ∷ es)) same (at_first test arrival e es q (ap test same ∙ on))
      | false ↦ λ q.
          let there : lookup (at arrival) es ≡ Some m = rest_of (at arrival e.0) e.1 (Some m) (lookup (at arrival) es) q here in
          at_later test arrival m e es q (earlier_fails test arrival m e es sorted here q old.0)
          (oldest_found test arrival m es (sorted_tail nat_cmp e.0 (keys_of es) sorted) there on old.1)
    ] refl
