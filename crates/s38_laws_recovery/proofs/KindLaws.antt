-- The kind of an object, and what it holds.
use Rattle.std.proofs.Common.{◌≡◌, ◌∙◌, ◌<◌, ◌==◌, ℕ, true, false, inl, inr, List, Option, Some, None, refl, sym, ap, arith}
use Rattle.std.proofs.lemmas.Bool.Decides.{nat_tests}
use Rattle.std.specs.Prelude.{is_some}
use Rattle.s38_base.specs.Ids.{kind_code, same_kind}
use Rattle.s38_base.specs.declared.id.Kind.TheVariants as kinds
use Rattle.s38_base.specs.declared.id.Kind.{Kind}
use Rattle.s38_laws_flush.proofs.durable.GoesThenLaws.{Goes, Left}
use Rattle.s38_laws_flush.proofs.durable.SameLaws.{kind_at, kind_in}
use Rattle.s38_rules.specs.families.Creation.{is_of_kind}
use Rattle.s38_rules.specs.store.Forcing.{Forced}
use Rattle.s38_rules.specs.state.Held.{Held, kind_of, object}
use Rattle.s38_rules.specs.state.Journaling.{is_journal}
use Rattle.s38_rules.specs.state.Parts.{data_of, data_part, journal_of, journal_part, part_at, part_in, port_of, port_part}
use Rattle.s38_rules.specs.declared.data_body.DataBody.{DataBody}
use Rattle.s38_rules.specs.declared.object.Body.TheVariants as bodies
use Rattle.s38_rules.specs.declared.object.Body.{Body}
use Rattle.s38_rules.specs.declared.object.Object.{Object}
use Rattle.s38_rules.specs.declared.port.Port.{Port}
use Rattle.s38_journals.specs.Journals.{JournalList}
use Rattle.s38_laws_state.proofs.HeadLaws.{same_kinds}

-- ---- of a kind

pub kind_itself : (k : Kind) → same_kind k k ≡ true
kind_itself k = by (kind_code k)
  where
    by : (n : ℕ) → (n == n) ≡ true
    by n = grind (arith, nat_tests)

pub kind_of_it : (k : Kind) (h : Held) (n : ℕ) → is_of_kind k (object h n) ≡ true → kind_at h n ≡ Some k
kind_of_it k h n is = by (object h n) is
  where
    by : (r : Option Object) → is_of_kind k r ≡ true → kind_in r ≡ Some k
    by None is = absurd (let e : false ≡ true = is in cc)
    by (Some o) is = ap (λ (c : Kind). Some c) (same_kinds k (kind_of o.body) is)

pub it_of_kind : (k : Kind) (h : Held) (n : ℕ) → kind_at h n ≡ Some k → is_of_kind k (object h n) ≡ true
it_of_kind k h n is = by (object h n) is
  where
    one : (a b : Kind) → Some a ≡ Some b → a ≡ b
    one a b e = cc

    by : (r : Option Object) → kind_in r ≡ Some k → is_of_kind k r ≡ true
    by None is = absurd (let e : None ≡ Some k = is in cc)
    by (Some o) is = ap (same_kind k) (one (kind_of o.body) k is) ∙ kind_itself k

-- what is of a kind was, if its number was given before
pub kind_back : (all : List Forced) (h k : Held) (n : ℕ) (kind : Kind) → Goes all h k → n < h.next → kind_at k n ≡ Some kind → kind_at h n ≡ Some kind
kind_back all h k n kind goes less is = by (goes.kinds n less)
  where
    by : Left (kind_at h n) (kind_at k n) → kind_at h n ≡ Some kind
    by (inl e) = absurd (let g : None ≡ Some kind = sym e ∙ is in cc)
    by (inr e) = sym e ∙ is

-- ---- what it holds

body_data : (b : Body) (x : DataBody) → data_of b ≡ Some x → kind_of b ≡ kinds.DataSpace
body_data (bodies.DataSpace d) x is = refl
body_data _ x is = cc

pub data_body : (b : Body) → kind_of b ≡ kinds.DataSpace → (x : DataBody) × (data_of b ≡ Some x)
data_body (bodies.DataSpace d) is = (d, refl)
data_body _ is = absurd cc

body_port : (b : Body) (x : Port) → port_of b ≡ Some x → kind_of b ≡ kinds.Port
body_port (bodies.Port p) x is = refl
body_port _ x is = cc

pub port_body : (b : Body) → kind_of b ≡ kinds.Port → (x : Port) × (port_of b ≡ Some x)
port_body (bodies.Port p) is = (p, refl)
port_body _ is = absurd cc

body_journal : (b : Body) (x : JournalList) → journal_of b ≡ Some x → kind_of b ≡ kinds.Journal
body_journal (bodies.Journal j) x is = refl
body_journal _ x is = cc

pub journal_body : (b : Body) → kind_of b ≡ kinds.Journal → (x : JournalList) × (b ≡ bodies.Journal x)
journal_body (bodies.Journal j) is = (j, refl)
journal_body _ is = absurd cc

pub data_kind : (b : Body) (x : DataBody) → data_of b ≡ Some x → kind_of b ≡ kinds.DataSpace
data_kind b x is = body_data b x is

pub port_kind : (b : Body) (x : Port) → port_of b ≡ Some x → kind_of b ≡ kinds.Port
port_kind b x is = body_port b x is

pub journal_kind : (b : Body) (x : JournalList) → journal_of b ≡ Some x → kind_of b ≡ kinds.Journal
journal_kind b x is = body_journal b x is

-- ---- of a number

some_kind : (r : Option Object) (k : Kind) → kind_in r ≡ Some k → (o : Object) × ((r ≡ Some o) × (kind_of o.body ≡ k))
some_kind None k is = absurd (let e : None ≡ Some k = is in cc)
some_kind (Some o) k is = (o, (refl, one (kind_of o.body) k is))
  where
    one : (a b : Kind) → Some a ≡ Some b → a ≡ b
    one a b e = cc

pub data_at_kind : (h : Held) (n : ℕ) (b : DataBody) → part_at data_part h n ≡ Some b → kind_at h n ≡ Some kinds.DataSpace
data_at_kind h n b is = by (object h n) is
  where
    by : (r : Option Object) → part_in data_part r ≡ Some b → kind_in r ≡ Some kinds.DataSpace
    by None is = absurd (let e : None ≡ Some b = is in cc)
    by (Some o) is = ap (λ (c : Kind). Some c) (body_data o.body b is)

pub kind_data_at : (h : Held) (n : ℕ) → kind_at h n ≡ Some kinds.DataSpace → (b : DataBody) × (part_at data_part h n ≡ Some b)
kind_data_at h n is =
    let o = some_kind (object h n) kinds.DataSpace is in
    let b = data_body o.0.body o.1.1 in
    (b.0, ap (part_in data_part) o.1.0 ∙ b.1)

pub journal_at_kind : (h : Held) (n : ℕ) → is_journal h n ≡ true → kind_at h n ≡ Some kinds.Journal
journal_at_kind h n is = by (object h n) is
  where
    own : (b : Body) (r : Option JournalList) → journal_of b ≡ r → is_some r ≡ true → kind_of b ≡ kinds.Journal
    own b None is some = absurd (let e : false ≡ true = some in cc)
    own b (Some j) is some = body_journal b j is

    by : (r : Option Object) → is_some (part_in journal_part r) ≡ true → kind_in r ≡ Some kinds.Journal
    by None is = absurd (let e : false ≡ true = is in cc)
    by (Some o) is = ap (λ (c : Kind). Some c) (own o.body (journal_of o.body) refl is)

pub kind_journal_at : (h : Held) (n : ℕ) → kind_at h n ≡ Some kinds.Journal → is_journal h n ≡ true
kind_journal_at h n is =
    let o = some_kind (object h n) kinds.Journal is in
    let j = journal_body o.0.body o.1.1 in
    ap (λ (r : Option Object). is_some (part_in journal_part r)) o.1.0 ∙ ap (λ (b : Body). is_some (journal_of b)) j.1

-- no data space is a journal space
pub apart_kinds : (h : Held) (n : ℕ) → kind_at h n ≡ Some kinds.DataSpace → kind_at h n ≡ Some kinds.Journal → ⊥
apart_kinds h n one two = let e : Some kinds.DataSpace ≡ Some kinds.Journal = sym one ∙ two in cc
