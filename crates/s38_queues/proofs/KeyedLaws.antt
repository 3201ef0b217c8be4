-- The first place in the order of keys leads to the message that is first by key.
use Rattle.std.proofs.Common.{◌≡◌, ℕ, ◌+◌, ◌<◌, ◌≤◌, Bool, true, false, cond, not, List, [], ◌∷◌, ◌++◌, length, refl, sym, ◌∙◌, ap, subst, arith}
use Rattle.std.proofs.lemmas.Bool.Decides.{nat_tests}
use Rattle.std.proofs.lemmas.Map.Keys.{le_from_not_gt}
use Rattle.std.proofs.lemmas.Map.Lookups.{exact_bytes}
use Rattle.std.proofs.lemmas.Bool.{lt-ltb, ltb-false, ltb-true}
use Rattle.std.specs.Prelude.{Option, Some, None, nat_lt, slice_get}
use Rattle.std.specs.BTreeMap.{BTreeMap, IsOrdered, get, insert_entry, is_at, values}
use Rattle.std.specs.BTreeSet.{BTreeSet}
use Rattle.std.specs.Cmp.{tied_itself}
use Rattle.std.specs.Cmp.Lexicographic.{nat_list_cmp_total}
use Rattle.std.specs.List.{position_or_len, remove}
use Rattle.std.specs.Map.{lookup, remove_entry, values_of}
use Rattle.std.specs.Ordering.{is_eq, is_gt, match_ordering, nat_cmp, ordering_then}
use Rattle.std.specs.declared.cmp.Ordering.{Ordering}
use Rattle.std.specs.declared.cmp.Ordering.TheVariants.{Less, Equal, Greater}
use Rattle.s38_base.specs.Relations.{holds, is_equal, is_greater}
use Rattle.s38_base.specs.declared.words.Relation.{Relation}
use Rattle.s38_base.specs.declared.words.Relation.TheVariants.{Eq}
use Rattle.s38_queues.specs.MessageQueue.{first_by_key, key_is_in_relation, message_at, oldest_of_key}
use Rattle.s38_queues.specs.declared.message.Message.{Message}
use Rattle.s38_queues.specs.declared.place.Place.{Place}
use Rattle.s38_queues.specs.Places.{ArePlaced, IsFirstOf, found_by_key, has, is_of_key, place_cmp, place_fits, without_at}
use Rattle.s38_queues.proofs.PlaceLaws.{key_cmp, key_first, not_true, place}
use Rattle.s38_queues.proofs.LeastKeyLaws.{IsLow, IsOldest, at, each_entry, least_found, least_none, oldest_found, rest_of}

-- ---- the message that is first by key

is_equal_at : (r : Ordering) → is_equal r ≡ true → r ≡ Equal
is_equal_at Less h = absurd (cc)
is_equal_at Equal h = refl
is_equal_at Greater h = absurd (cc)

-- a message is there, and has the key
pub record Holds (key : List ℕ) (o : Option Message) : Type 0 where
  pub message : Message
  pub there : o ≡ Some message
  pub key_is : message.key ≡ key

holds_from : (key : List ℕ) (o : Option Message) → is_of_key key o ≡ true → Holds key o
holds_from key None h = absurd (cc)
holds_from key (Some m) h = record { message = m; there = refl; key_is = exact_bytes m.key key (is_equal_at (key_cmp m.key key) h) }

pub holds_at : (next : ℕ) (messages : BTreeMap ℕ Message) (places : BTreeSet Place) (p : Place) → ArePlaced next messages places → has places p ≡ true →
    Holds p.key (get nat_cmp messages p.arrival)
holds_at next messages places p placed there = holds_from p.key (get nat_cmp messages p.arrival) (sym (placed.placed p) ∙ there)

itself : (key : List ℕ) → is_equal (key_cmp key key) ≡ true
itself key = ap is_equal (tied_itself nat_list_cmp_total key)

-- each message has its place
has_its_place : (next : ℕ) (messages : BTreeMap ℕ Message) (places : BTreeSet Place) (arrival : ℕ) (m : Message) → ArePlaced next messages places →
    get nat_cmp messages arrival ≡ Some m → has places (place m.key arrival) ≡ true
has_its_place next messages places arrival m placed there = placed.placed (place m.key arrival) ∙ ap (is_of_key m.key) there ∙ itself m.key

gt_is_greater : (r : Ordering) → is_gt r ≡ is_greater r
gt_is_greater Less = refl
gt_is_greater Equal = refl
gt_is_greater Greater = refl

second_decides : (a b : Ordering) → a ≡ Equal → not (is_gt (ordering_then a b)) ≡ true → is_gt b ≡ false
second_decides Less b e h = absurd (cc)
second_decides Equal b e h = not_true (is_gt b) h
second_decides Greater b e h = absurd (cc)

not_greater : (a b : ℕ) → is_gt (nat_cmp a b) ≡ false → a ≤ b
not_greater a b h = le_from_not_gt a b h

-- of what the place that is first leads to
pub record Leads (f : Message → Bool) (messages : BTreeMap ℕ Message) (p : Place) (m : Message) (n : ℕ) : Type 0 where
  pub there : get nat_cmp messages p.arrival ≡ Some m
  pub first : first_by_key f (values messages) ≡ Some n
  pub message : slice_get (values messages) n ≡ Some m
  pub rest : remove (values messages) n ≡ values_of (remove_entry (is_at (nat_cmp p.arrival)) messages.entries)

within_place : (n len : ℕ) → n < len → cond (nat_lt n len) (Some n) None ≡ Some n
within_place n len h = ap (λ b. cond b (Some n) None) (lt-ltb n len h)

pub first_leads : (next : ℕ) (messages : BTreeMap ℕ Message) (places : BTreeSet Place) (relation : Relation) (key : List ℕ) (p : Place) → ArePlaced next messages places →
    IsFirstOf (place_fits relation key) places (Some p) → (m : Message) × (n : ℕ) × Leads (key_is_in_relation relation key) messages p m n
first_leads next messages places relation key p placed first =
    let es = messages.entries in
    let held = holds_at next messages places p placed first.0 in
    let m = held.message in
    let on : key_is_in_relation relation key m ≡ true = ap (λ k. holds relation (key_cmp k key)) held.key_is ∙ first.1 in
    let low : IsLow (key_is_in_relation relation key) m.key es = each_entry (λ x. key_is_in_relation relation key x.1 ≡ true → is_greater (key_cmp m.key x.1.key) ≡ false) es placed.ordered
    (λ a x there fitting.
    let ahead = first.2 (place x.key a) (has_its_place next messages places a x placed there) fitting in
    ap (λ k. is_greater (key_cmp k x.key)) held.key_is ∙ sym (gt_is_greater (key_cmp p.key x.key)) ∙ key_first p (place x.key a) ahead) in
    let old : IsOldest (key_is_in_relation Eq m.key) p.arrival es = each_entry (λ x. key_is_in_relation Eq m.key x.1 ≡ true → p.arrival ≤ x.0) es placed.ordered
    (λ a x there alike.
    let same : x.key ≡ m.key = exact_bytes x.key m.key (is_equal_at (key_cmp x.key m.key) alike) in
    let fitting : key_is_in_relation relation key x ≡ true = ap (λ k. holds relation (key_cmp k key)) same ∙ on in
    let ahead = first.2 (place x.key a) (has_its_place next messages places a x placed there) fitting in
    let tied : key_cmp p.key x.key ≡ Equal = ap (key_cmp p.key) (same ∙ held.key_is) ∙ tied_itself nat_list_cmp_total p.key in
    not_greater p.arrival a (second_decides (key_cmp p.key x.key) (nat_cmp p.arrival a) tied ahead)) in
    let stands_there = oldest_found (key_is_in_relation Eq m.key) p.arrival m es placed.ordered held.there (itself m.key) old in (
      m,
      position_or_len (key_is_in_relation Eq m.key) (values_of es),
      record {
        there = held.there;
        first = ap (λ k. oldest_of_key k (values_of es)) (least_found (key_is_in_relation relation key) p.arrival m es held.there on low)
            ∙ within_place (position_or_len (key_is_in_relation Eq m.key) (values_of es)) (length (values_of es)) stands_there.within;
        message = stands_there.message;
        rest = stands_there.rest;
      },
    )

pub none_leads : (next : ℕ) (messages : BTreeMap ℕ Message) (places : BTreeSet Place) (relation : Relation) (key : List ℕ) → ArePlaced next messages places →
    IsFirstOf (place_fits relation key) places None → first_by_key (key_is_in_relation relation key) (values messages) ≡ None
none_leads next messages places relation key placed none =
    let off = each_entry (λ x. key_is_in_relation relation key x.1 ≡ false) messages.entries placed.ordered
    (λ a x there. none (place x.key a) (has_its_place next messages places a x placed there)) in
    ap (λ k. oldest_of_key k (values messages)) (least_none (key_is_in_relation relation key) messages.entries off)

-- what the first place tells of the messages in order of arrival
pub record Found (found : Option ℕ) (ms : List Message) (messages : BTreeMap ℕ Message) (p : Place) : Type 0 where
  pub message : message_at ms found ≡ get nat_cmp messages p.arrival
  pub rest : without_at ms found ≡ values_of (remove_entry (is_at (nat_cmp p.arrival)) messages.entries)

found_from : (f : Message → Bool) (messages : BTreeMap ℕ Message) (p : Place) (m : Message) (n : ℕ) → Leads f messages p m n →
    Found (first_by_key f (values messages)) (values messages) messages p
found_from f messages p m n h = record {
  message = ap (message_at (values messages)) h.first ∙ h.message ∙ sym h.there;
  rest = ap (without_at (values messages)) h.first ∙ h.rest;
}

pub found_first : (next : ℕ) (messages : BTreeMap ℕ Message) (places : BTreeSet Place) (relation : Relation) (key : List ℕ) (p : Place) (ms : List Message) → ArePlaced next messages places →
    IsFirstOf (place_fits relation key) places (Some p) → values messages ≡ ms → Found (found_by_key relation key ms) ms messages p
found_first next messages places relation key p ms placed first e =
    let led = first_leads next messages places relation key p placed first in
    subst (λ (xs : List Message). Found (found_by_key relation key xs) xs messages p) e (found_from (key_is_in_relation relation key) messages p led.0 led.1 led.2)

pub nothing_found : (next : ℕ) (messages : BTreeMap ℕ Message) (places : BTreeSet Place) (relation : Relation) (key : List ℕ) (ms : List Message) → ArePlaced next messages places →
    IsFirstOf (place_fits relation key) places None → values messages ≡ ms → found_by_key relation key ms ≡ None
nothing_found next messages places relation key ms placed none e =
    subst (λ (xs : List Message). found_by_key relation key xs ≡ None) e (none_leads next messages places relation key placed none)

-- ---- one message more

of_choice : (b : Bool) (key : List ℕ) (m : Option Message) (o : Option Message) → is_of_key key (cond b m o) ≡ cond b (is_of_key key m) (is_of_key key o)
of_choice true key m o = refl
of_choice false key m o = refl

same_number : (a b : ℕ) → is_eq (nat_cmp a b) ≡ true → a ≡ b
same_number a b h = grind (arith, nat_tests)

key_before : (next arrival : ℕ) → arrival < next → nat_cmp next arrival ≡ Greater
key_before next arrival h = grind (arith, nat_tests)

number_itself : (a : ℕ) → is_eq (nat_cmp a a) ≡ true
number_itself a = grind (arith, nat_tests)

nothing_here : {X : Type 0} (b : Bool) (x : X) (r : Option X) → cond b (Some x) r ≡ None → b ≡ false
nothing_here true x r h = absurd (cc)
nothing_here false x r h = refl

head_before : (next : ℕ) (e : ℕ × Message) (es : List (ℕ × Message)) → ((a : ℕ) → next ≤ a → lookup (at a) (e ∷ es) ≡ None) → e.0 < next
head_before next e es h =
    elim (nat_lt e.0 next) as (λ b. nat_lt e.0 next ≡ b → e.0 < next) [
      | true ↦ λ q. ltb-true e.0 next q
      | false ↦ λ q.
          let off : at e.0 e.0 ≡ false = nothing_here (at e.0 e.0) e.1 (lookup (at e.0) es) (h e.0 (ltb-false e.0 next q)) in
          let on : at e.0 e.0 ≡ true = number_itself e.0 in
          absurd (cc)
    ] refl

-- what arrives after all others is last
pub entered_last : (next : ℕ) (m : Message) (es : List (ℕ × Message)) → ((a : ℕ) → next ≤ a → lookup (at a) es ≡ None) →
    values_of (insert_entry nat_cmp es next m) ≡ values_of es ++ m ∷ []
entered_last next m [] h = refl
entered_last next m (e ∷ es) h =
    let behind : nat_cmp next e.0 ≡ Greater = key_before next e.0 (head_before next e es h) in
    let rest = entered_last next m es (λ a l. rest_of (at a e.0) e.1 None (lookup (at a) es) (nothing_here (at a e.0) e.1 (lookup (at a) es) (h a l)) (h a l)) in
    ap (λ r. values_of (match_ordering r ((next, m) ∷ e ∷ es) ((e.0, m) ∷ es) (e ∷ insert_entry nat_cmp es next m))) behind
    ∙ ap (λ ms. e.1 ∷ ms) rest

-- ---- one message less

gone : (k n : Ordering) (old : Bool) → (is_eq n ≡ true → old ≡ is_equal k) → cond (is_eq (ordering_then k n)) false old ≡ cond (is_eq n) false old
gone Less Less old h = refl
gone Less Equal old h = h refl
gone Less Greater old h = refl
gone Equal Less old h = refl
gone Equal Equal old h = refl
gone Equal Greater old h = refl
gone Greater Less old h = refl
gone Greater Equal old h = h refl
gone Greater Greater old h = refl

none_either : (b : Bool) (o : Option Message) → o ≡ None → cond b None o ≡ None
none_either true o h = refl
none_either false o h = h

pub placed_less : (next : ℕ) (messages fewer : BTreeMap ℕ Message) (places narrower : BTreeSet Place) (p : Place) (m : Message) → ArePlaced next messages places →
    get nat_cmp messages p.arrival ≡ Some m → m.key ≡ p.key →
    ((q : Place) → has narrower q ≡ cond (is_at (place_cmp p) q) false (has places q)) →
    ((a : ℕ) → get nat_cmp fewer a ≡ cond (is_at (nat_cmp p.arrival) a) None (get nat_cmp messages a)) →
    IsOrdered nat_cmp fewer → ArePlaced next fewer narrower
placed_less next messages fewer places narrower p m placed there key n g ordered = record {
  placed = λ q.
      let here = λ (e : is_eq (nat_cmp p.arrival q.arrival) ≡ true).
      let same : p.arrival ≡ q.arrival = same_number p.arrival q.arrival e in
      let read : get nat_cmp messages q.arrival ≡ Some m = subst (λ (a : ℕ). get nat_cmp messages a ≡ Some m) same there in
      ap (is_of_key q.key) read ∙ ap (λ k. is_equal (key_cmp k q.key)) key in
      n q
      ∙ ap (λ b. cond (is_at (place_cmp p) q) false b) (placed.placed q)
      ∙ gone (key_cmp p.key q.key) (nat_cmp p.arrival q.arrival) (is_of_key q.key (get nat_cmp messages q.arrival)) here
      ∙ sym (ap (is_of_key q.key) (g q.arrival) ∙ of_choice (is_eq (nat_cmp p.arrival q.arrival)) q.key None (get nat_cmp messages q.arrival));
  behind = λ a h. g a ∙ none_either (is_at (nat_cmp p.arrival) a) (get nat_cmp messages a) (placed.behind a h);
  ordered = ordered;
}
