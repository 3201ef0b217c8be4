-- What stays of commit blocks, ports, journal spaces and data spaces where an object is changed, made or destroyed.
use Rattle.std.proofs.Common.{◌==◌, ◌∙◌, ◌∷◌, ◌≡◌, ◌≤◌, Bool, List, [], ap, arith, cond, false, refl, subst, sym, true, ℕ}
use Rattle.std.proofs.lemmas.Bool.Decides.{nat_tests}
use Rattle.std.proofs.lemmas.Bool.{cond_both}
use Rattle.std.proofs.lemmas.List.Folds.{find-append}
use Rattle.std.specs.Option.{option_map, option_or}
use Rattle.std.specs.Prelude.{None, Option, Some}
use Rattle.s38_base.specs.declared.id.Id.{Id}
use Rattle.s38_commits.proofs.MapLaws.{nat_same}
use Rattle.s38_rules.proofs.ChargeLaws.{KeepsNumber, object_changed, object_without}
use Rattle.s38_rules.specs.families.Creation.{created, creation_changes, new_object}
use Rattle.s38_rules.specs.state.Held.{Held, change, has_number, object, with_object, without}
use Rattle.s38_rules.specs.state.Parts.{Part, block_of, block_part, data_of, data_part, journal_of, journal_part, over, over_object, over_part, part_at, part_in, port_of, port_part}
use Rattle.s38_rules.specs.state.LawfulParts.{IsPart}
use Rattle.s38_rules.specs.declared.creating.Creating.{Creating}
use Rattle.s38_base.specs.declared.rights.Special.{Special}
use Rattle.s38_indexes.specs.Entries.{EntryIndex}
use Rattle.s38_memory.specs.declared.cell.Cell.{Cell}
use Rattle.s38_queues.specs.MessageQueue.{MessageQueue}
use Rattle.s38_rules.specs.declared.cursor.Cursor.{Cursor}
use Rattle.s38_rules.specs.declared.object.Body.TheVariants as bodies
use Rattle.s38_rules.specs.declared.object.Body.{Body}
use Rattle.s38_rules.specs.declared.object.Object.{Object}
use Rattle.s38_laws_units.specs.Right.{IsData, IsUnused}

-- ---- parts that stay

-- what was there stays as it was
abbrev pub Stays : {T : Type 0} → Option T → Option T → Type 0
Stays None y = Unit {0}
Stays (Some x) y = y ≡ Some x

-- in the place of an object, or of none, there is another one: of the four kinds what was there stays, and a data
-- space is as it should be
pub record Follows (x y : Option Object) : Type 0 where
  pub block : Stays (part_in block_part x) (part_in block_part y)
  pub port : Stays (part_in port_part x) (part_in port_part y)
  pub journal : Stays (part_in journal_part x) (part_in journal_part y)
  pub space : Stays (part_in data_part x) (part_in data_part y)
  pub table : IsData (part_in data_part x) → IsData (part_in data_part y)

-- so it is of every number, and 0 stays unused
pub record Carries (h k : Held) : Type 0 where
  pub each : (n : ℕ) → Follows (object h n) (object k n)
  pub unused : IsUnused h → IsUnused k

stays_same : {T : Type 0} (x : Option T) → Stays x x
stays_same None = tt
stays_same (Some x) = refl

follows_same : (x : Option Object) → Follows x x
follows_same x = record {
  block = stays_same (part_in block_part x);
  port = stays_same (part_in port_part x);
  journal = stays_same (part_in journal_part x);
  space = stays_same (part_in data_part x);
  table = λ t. t;
}

pub carries_same : (h : Held) → Carries h h
carries_same h = record { each = λ n. follows_same (object h n); unused = λ u. u }

-- ---- bodies of the other kinds

-- a body is of none of the four kinds
pub record IsOther (b : Body) : Type 0 where
  pub block : block_of b ≡ None
  pub port : port_of b ≡ None
  pub journal : journal_of b ≡ None
  pub space : data_of b ≡ None

pub cursor_other : (x : Cursor) → IsOther (bodies.Cursor x)
cursor_other x = record { block = refl; port = refl; journal = refl; space = refl }

pub index_other : (x : EntryIndex) → IsOther (bodies.Index x)
index_other x = record { block = refl; port = refl; journal = refl; space = refl }

pub profile_other : (x : Special × ℕ) → IsOther (bodies.Profile x.0 x.1)
profile_other x = record { block = refl; port = refl; journal = refl; space = refl }

pub queue_other : (x : MessageQueue) → IsOther (bodies.Queue x)
queue_other x = record { block = refl; port = refl; journal = refl; space = refl }

pub space_other : (x : List Cell) → IsOther (bodies.Space x)
space_other x = record { block = refl; port = refl; journal = refl; space = refl }

none_stays : {T : Type 0} (x y : Option T) → x ≡ None → Stays x y
none_stays {T} x y none = subst (λ (r : Option T). Stays r y) (sym none) tt

-- an object of another kind is gone, or another one of such a kind is in its place
pub other_gone : (x : Object) → IsOther x.body → Follows (Some x) None
other_gone x other = record {
  block = none_stays (block_of x.body) None other.block;
  port = none_stays (port_of x.body) None other.port;
  journal = none_stays (journal_of x.body) None other.journal;
  space = none_stays (data_of x.body) None other.space;
  table = λ t. tt;
}

other_follows : (x y : Object) → IsOther x.body → IsOther y.body → Follows (Some x) (Some y)
other_follows x y other too = record {
  block = none_stays (block_of x.body) (block_of y.body) other.block;
  port = none_stays (port_of x.body) (port_of y.body) other.port;
  journal = none_stays (journal_of x.body) (journal_of y.body) other.journal;
  space = none_stays (data_of x.body) (data_of y.body) other.space;
  table = λ t. subst IsData (sym too.space) tt;
}

-- ---- an object is changed

mapped_follows : (f : Object → Object) (x : Option Object) → ((y : Object) → Follows (Some y) (Some (f y))) → Follows x (option_map f x)
mapped_follows f None each = follows_same None
mapped_follows f (Some y) each = each y

mapped_none : (f : Object → Object) (b : Bool) (x : Option Object) → x ≡ None → cond b (option_map f x) x ≡ None
mapped_none f b None e = elim b as (λ c. cond c (option_map f None) None ≡ None) [ true ↦ refl | false ↦ refl ]
mapped_none f b (Some x) e = cc

pub change_unused : (h : Held) (n : ℕ) (f : Object → Object) → KeepsNumber f → IsUnused h → IsUnused (change h n f)
change_unused h n f number u = record { none = object_changed n 0 f h.objects number ∙ mapped_none f (n == 0) (object h 0) u.none; next = u.next }

pub over_unused : {T : Type 0} (p : Part T) (h : Held) (n : ℕ) (f : T → T) → IsUnused h → IsUnused (over_part p h n f)
over_unused p h n f u = change_unused h n (over_object p f) (λ x. refl) u

pub change_carries : (h : Held) (n : ℕ) (f : Object → Object) → KeepsNumber f → ((x : Object) → Follows (Some x) (Some (f x))) → Carries h (change h n f)
change_carries h n f number each = record {
  each = λ m. subst (Follows (object h m)) (sym (object_changed n m f h.objects number))
      (cond_both (n == m) (option_map f (object h m)) (object h m) (Follows (object h m)) (λ e. mapped_follows f (object h m) each) (λ e. follows_same (object h m)));
  unused = change_unused h n f number;
}

-- its body stays
pub header_carries : (h : Held) (n : ℕ) (f : Object → Object) → KeepsNumber f → ((x : Object) → (f x).body ≡ x.body) → Carries h (change h n f)
header_carries h n f number body = change_carries h n f number (λ x. same_body x (f x) (body x))
  where
    same_body : (x y : Object) → y.body ≡ x.body → Follows (Some x) (Some y)
    same_body x y e = record {
      block = subst (λ (b : Body). Stays (block_of x.body) (block_of b)) (sym e) (stays_same (block_of x.body));
      port = subst (λ (b : Body). Stays (port_of x.body) (port_of b)) (sym e) (stays_same (port_of x.body));
      journal = subst (λ (b : Body). Stays (journal_of x.body) (journal_of b)) (sym e) (stays_same (journal_of x.body));
      space = subst (λ (b : Body). Stays (data_of x.body) (data_of b)) (sym e) (stays_same (data_of x.body));
      table = λ t. subst (λ (b : Body). IsData (data_of b)) (sym e) t;
    }

-- what an object of another kind holds is something else
pub other_carries : {T : Type 0} (p : Part T) → IsPart T p → ((x : T) → IsOther (p.make x)) → (h : Held) (n : ℕ) (f : T → T) → Carries h (over_part p h n f)
other_carries {T} p lawful other h n f = change_carries h n (over_object p f) (λ x. refl) (λ x. by x (p.of x.body) refl)
  where
    by : (x : Object) (r : Option T) → p.of x.body ≡ r → Follows (Some x) (Some (record x { body = over p f x.body r }))
    by x None e = follows_same (Some x)
    by x (Some y) e = other_follows x (record x { body = p.make (f y) }) (subst IsOther (sym (lawful.back x.body y e)) (other y)) (other (f y))

-- ---- an object is made

-- after the others an object is found by its own number alone
added_carries : (h : Held) (x : Object) → x.number.0 ≡ h.next → IsData (data_of x.body) → Carries h (with_object h x)
added_carries h x number new = record {
  each = λ n. subst (Follows (object h n)) (sym (find-append (has_number n) h.objects (x ∷ []))) (by n (object h n));
  unused = λ u. record {
    none = find-append (has_number 0) h.objects (x ∷ []) ∙ ap (λ r. option_or r (cond (x.number.0 == 0) (Some x) None)) u.none ∙ ap (λ b. cond b (Some x) None) (above x.number.0 h.next number u.next);
    next = omega (arith, u.next);
  };
}
  where
    above : (a b : ℕ) → a ≡ b → 1 ≤ b → (a == 0) ≡ false
    above a b e f = grind (arith, nat_tests)

    made : Follows None (Some x)
    made = record { block = tt; port = tt; journal = tt; space = tt; table = λ t. new }

    by : (n : ℕ) (y : Option Object) → Follows y (option_or y (cond (x.number.0 == n) (Some x) None))
    by n None = cond_both (x.number.0 == n) (Some x) None (Follows None) (λ q. made) (λ q. follows_same None)
    by n (Some y) = follows_same (Some y)

pub creation_carries : (h : Held) (owner : ℕ) (made : Creating) (body : Body) → IsData (data_of body) → Carries h (creation_changes h owner made body)
unfolding creation_changes
creation_carries h owner made body new = by made.id
  where
    by : (id : Option Id) → Carries h (created h owner made body id)
    by None = carries_same h
    by (Some id) = added_carries h (new_object h owner made id body) refl new

-- ---- an object is destroyed

-- the parts of another number stay
pub part_without : {T : Type 0} (p : Part T) (h : Held) (n m : ℕ) → part_at p (without h n) m ≡ cond (n == m) None (part_at p h m)
part_without p h n m = ap (part_in p) (object_without n m h.objects) ∙ by (n == m)
  where
    by : (b : Bool) → part_in p (cond b None (object h m)) ≡ cond b None (part_in p (object h m))
    by true = refl
    by false = refl

pub without_unused : (h : Held) (n : ℕ) → IsUnused h → IsUnused (without h n)
without_unused h n u = record { none = object_without n 0 h.objects ∙ cond_both (n == 0) None (object h 0) (λ r. r ≡ None) (λ q. refl) (λ q. u.none); next = u.next }

-- an object that is not there, or is of another kind
pub destroyed_carries : (h : Held) (n : ℕ) → Follows (object h n) None → Carries h (without h n)
destroyed_carries h n gone = record {
  each = λ m. subst (Follows (object h m)) (sym (object_without n m h.objects)) (cond_both (n == m) None (object h m) (Follows (object h m))
      (λ e. subst (λ i. Follows (object h i) None) (nat_same n m e) gone) (λ e. follows_same (object h m)));
  unused = without_unused h n;
}

-- ---- what one kind holds is changed

-- what is there then
pub part_over : {T : Type 0} (p : Part T) → IsPart T p → (h : Held) (n m : ℕ) (f : T → T) → part_at p (over_part p h n f) m ≡ cond (n == m) (option_map f (part_at p h m)) (part_at p h m)
part_over {T} p lawful h n m f = ap (part_in p) (object_changed n m (over_object p f) h.objects (λ o. refl)) ∙ by (n == m) (object h m)
  where
    body : (b : Body) (r : Option T) → p.of b ≡ r → p.of (over p f b r) ≡ option_map f r
    body b None e = e
    body b (Some x) e = lawful.got (f x)

    by : (c : Bool) (x : Option Object) → part_in p (cond c (option_map (over_object p f) x) x) ≡ cond c (option_map f (part_in p x)) (part_in p x)
    by true None = refl
    by true (Some o) = body o.body (p.of o.body) refl
    by false x = refl
