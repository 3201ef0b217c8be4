-- What links say of what is kept goes on after a step that takes effect.
use Rattle.std.proofs.Common.{◌≡◌, ◌∙◌, ◌⊎◌, ◌<◌, ◌≤◌, ◌==◌, ◌+◌, ℕ, Bool, true, false, cond, inl, inr, List, Option, Some, None, length, refl, sym, ap, subst, arith}
use Rattle.std.proofs.lemmas.List.{length-append}
use Rattle.std.specs.List.{list_any}
use Rattle.std.specs.Option.{option_and_then, unwrap_or}
use Rattle.std.specs.Prelude.{is_some}
use Rattle.s38_base.specs.declared.id.Kind.TheVariants as kinds
use Rattle.s38_base.specs.declared.id.Kind.{Kind}
use Rattle.s38_commits.specs.Units.{UnitMap}
use Rattle.s38_laws_commits.proofs.RenewLaws.{data_body_after, journal_body_after}
use Rattle.s38_durable_state.specs.Durable.{Durable, body_after, durable_after, kept, last_sequence_in}
use Rattle.s38_image.specs.Settled.{settled_body, settled_sequence}
use Rattle.s38_image.specs.declared.stored.Stored.{Stored}
use Rattle.s38_journals.specs.Journals.{JournalList}
use Rattle.s38_laws_flush.proofs.durable.GoesThenLaws.{Goes, object_given}
use Rattle.s38_laws_flush.proofs.durable.SameLaws.{kind_at, kind_in}
use Rattle.s38_laws_flush.specs.durable.Kept.{IsKeptOf}
use Rattle.s38_rules.proofs.ChargeLaws.{found_number}
use Rattle.s38_rules.specs.store.Forcing.{Forced, is_whole}
use Rattle.s38_rules.specs.state.Held.{is_on_disk, kind_of}
use Rattle.s38_rules.specs.state.Journaling.{data_port, data_port_in, is_journal, journal_for, journal_named, journal_of_port}
use Rattle.s38_rules.specs.state.Parts.{data_of, data_part, journal_of, journal_part, part_at, part_in, port_of, port_part}
use Rattle.s38_rules.specs.state.PartsAt.{journal_at, no_journal}
use Rattle.s38_rules.specs.state.State.{State}
use Rattle.s38_rules.specs.declared.data_body.DataBody.{DataBody}
use Rattle.s38_rules.specs.declared.object.Body.TheVariants as bodies
use Rattle.s38_rules.specs.declared.object.Body.{Body}
use Rattle.s38_rules.specs.declared.object.Object.{Object}
use Rattle.s38_rules.specs.declared.port.Port.{Port}
use Rattle.s38_flush.specs.Growing.{AreBeginnings}
use Rattle.s38_laws_recovery.specs.Restartable.{AreCounted, AreKeptLinks, IsRestartable}
use Rattle.s38_laws_recovery.specs.Restarting.{journal_kept, port_journal_kept, port_kept}
use Rattle.s38_laws_recovery.proofs.KeptAfterLaws.{IsAnew, IsAsItWas, in_place, kept_either, kept_kind, on_kept}
use Rattle.s38_laws_recovery.proofs.KindLaws.{data_body, data_kind, journal_body, journal_kind, kind_back, journal_at_kind, port_body, port_kind}
use Rattle.s38_laws_recovery.proofs.LinkLaws.{Links, named_in, port_journal_back}

-- ---- bodies

pub port_settled : (units : UnitMap) (n : ℕ) (b : Body) → port_of (settled_body units n b) ≡ port_of b
port_settled units n (bodies.DataSpace d) = refl
port_settled units n (bodies.Journal j) = refl
port_settled units n _ = refl

-- an image of a data space is of one that names the same port
pub space_settled : (units : UnitMap) (n : ℕ) (b : Body) (x : DataBody) → data_of (settled_body units n b) ≡ Some x → (y : DataBody) × ((data_of b ≡ Some y) × (y.port.0 ≡ x.port.0))
space_settled units n (bodies.DataSpace d) x is = (d, (refl, ap port_in is))
  where
    port_in : Option DataBody → ℕ
    port_in r = data_port_in r
space_settled units n (bodies.Journal j) x is = absurd (let e : None ≡ Some x = is in cc)
space_settled units n _ x is = absurd (let e : None ≡ Some x = is in cc)

port_behind_body : (b old : Body) (p : Port) → port_of b ≡ Some p → body_after b old ≡ old
port_behind_body (bodies.Profile special limit) old p is = absurd (let e : None ≡ Some p = is in cc)
port_behind_body _ old p is = refl

-- it counts in no more than the last entry
pub sequence_most : (last : ℕ) (b : Body) → settled_sequence last b ≤ last
sequence_most last (bodies.DataSpace d) = by (d.port.0 == 0)
  where
    by : (c : Bool) → cond c 0 last ≤ last
    by true = omega arith
    by false = omega arith
sequence_most last _ = omega arith

pub one_stored : (x y : Stored) → Some x ≡ Some y → x ≡ y
one_stored x y e = cc

one_journal : (i j : JournalList) → Some i ≡ Some j → i ≡ j
one_journal i j e = cc

-- ---- the journal space of a port, where both are kept

pub record IsChain (d : Durable) (q : ℕ) (j : JournalList) : Type 0 where
  pub port : Port
  pub first : Stored
  pub port_at : kept d.objects q ≡ Some first
  pub port_is : port_of first.object.body ≡ Some port
  pub last : Stored
  pub journal_at : kept d.objects port.journal.0 ≡ Some last
  pub journal_is : journal_of last.object.body ≡ Some j

pub chain_of : (d : Durable) (q : ℕ) (j : JournalList) → port_journal_kept d q ≡ Some j → IsChain d q j
chain_of d q j is = by (kept d.objects q) refl is
  where
    ended : (x : Stored) (p : Port) → kept d.objects q ≡ Some x → port_of x.object.body ≡ Some p → (r : Option Stored) → kept d.objects p.journal.0 ≡ r → option_and_then (λ y. journal_of y.object.body) r ≡ Some j → IsChain d q j
    ended x p at own None found e = absurd (let g : None ≡ Some j = e in cc)
    ended x p at own (Some y) found e = record { port = p; first = x; port_at = at; port_is = own; last = y; journal_at = found; journal_is = e }

    named : (x : Stored) → kept d.objects q ≡ Some x → (r : Option Port) → port_of x.object.body ≡ r → option_and_then (λ p. journal_kept d p.journal.0) r ≡ Some j → IsChain d q j
    named x at None own e = absurd (let g : None ≡ Some j = e in cc)
    named x at (Some p) own e = ended x p at own (kept d.objects p.journal.0) refl e

    by : (r : Option Stored) → kept d.objects q ≡ r → option_and_then (λ p. journal_kept d p.journal.0) (option_and_then (λ x. port_of x.object.body) r) ≡ Some j → IsChain d q j
    by None at e = absurd (let g : None ≡ Some j = e in cc)
    by (Some x) at e = named x at (port_of x.object.body) refl e

pub chain_to : (d : Durable) (q : ℕ) (j : JournalList) → IsChain d q j → port_journal_kept d q ≡ Some j
chain_to d q j c =
    let port : port_kept d q ≡ Some c.port = ap (option_and_then (λ x. port_of x.object.body)) c.port_at ∙ c.port_is in
    let journal : journal_kept d c.port.journal.0 ≡ Some j = ap (option_and_then (λ x. journal_of x.object.body)) c.journal_at ∙ c.journal_is in
    ap (option_and_then (λ p. journal_kept d p.journal.0)) port ∙ journal

-- ---- after a step

module _ (s t : State) (d : Durable) (all : List Forced) (is : IsKeptOf s d) (now : IsKeptOf t (durable_after all d t)) (goes : Goes all s.held t.held) (links : Links all s.held t.held)
    (before : IsRestartable s d) (begun : AreBeginnings t.held d) where
  abbrev new : Durable
  new = durable_after all d t

  either : (n : ℕ) (x : Stored) → kept new.objects n ≡ Some x → IsAnew all t n x ⊎ IsAsItWas all t d n x
  either = kept_either s t d all is now.numbered.rising goes

  given : (n : ℕ) (x : Stored) → kept d.objects n ≡ Some x → n < s.held.next
  given n x at = let place = in_place s.held d n x is.follows at in object_given s.held n place.one is.numbered place.at

  -- ---- ports

  port_now : (n : ℕ) (x : Stored) (p : Port) → kept new.objects n ≡ Some x → port_of x.object.body ≡ Some p → part_at port_part t.held n ≡ Some p
  port_now n x p at own = by (either n x at)
    where
      by : IsAnew all t n x ⊎ IsAsItWas all t d n x → part_at port_part t.held n ≡ Some p
      by (inl a) = ap (part_in port_part) a.at ∙ sym (port_settled t.units a.one.number.0 a.one.body) ∙ sym (ap (λ (y : Stored). port_of y.object.body) a.same) ∙ own
      by (inr w) =
          let kind : kind_of w.one.body ≡ kinds.Port = sym (kept_kind t new n x w.one now at w.at) ∙ port_kind x.object.body p own in
          let q = port_body w.one.body kind in
          let there : part_at port_part t.held n ≡ Some q.0 = ap (part_in port_part) w.at ∙ q.1 in
          let old : part_at port_part s.held n ≡ Some q.0 = links.port n q.0 (given n w.old w.was) there in
          let same : port_of w.old.object.body ≡ Some p = sym (ap port_of (port_behind_body w.one.body w.old.object.body q.0 q.1)) ∙ sym (ap (λ (y : Stored). port_of y.object.body) w.same) ∙ own in
          there ∙ sym old ∙ before.links.port n w.old p w.was same

  -- ---- data spaces

  -- an image that stays is of a data space that names its port
  space_was : (n : ℕ) (x : Stored) (b : DataBody) → kept new.objects n ≡ Some x → data_of x.object.body ≡ Some b → (w : IsAsItWas all t d n x) → data_of w.old.object.body ≡ Some b
  space_was n x b at own w =
      let kind : kind_of w.one.body ≡ kinds.DataSpace = sym (kept_kind t new n x w.one now at w.at) ∙ data_kind x.object.body b own in
      let y = data_body w.one.body kind in
      sym (ap data_of (data_body_after w.one.body w.old.object.body y.0 y.1)) ∙ sym (ap (λ (z : Stored). data_of z.object.body) w.same) ∙ own

  space_now : (n : ℕ) (x : Stored) (b : DataBody) → kept new.objects n ≡ Some x → data_of x.object.body ≡ Some b → data_port t.held n ≡ b.port.0
  space_now n x b at own = by (either n x at)
    where
      by : IsAnew all t n x ⊎ IsAsItWas all t d n x → data_port t.held n ≡ b.port.0
      by (inl a) =
          let y = space_settled t.units a.one.number.0 a.one.body b (sym (ap (λ (z : Stored). data_of z.object.body) a.same) ∙ own) in
          named_in t.held n y.0 (ap (part_in data_part) a.at ∙ y.1.0) ∙ y.1.1
      by (inr w) =
          let kind : kind_of w.one.body ≡ kinds.DataSpace = sym (kept_kind t new n x w.one now at w.at) ∙ data_kind x.object.body b own in
          let y = data_body w.one.body kind in
          let there : part_at data_part t.held n ≡ Some y.0 = ap (part_in data_part) w.at ∙ y.1 in
          named_in t.held n y.0 there ∙ sym (links.space n y.0 (given n w.old w.was) w.unforced there) ∙ before.links.space n w.old b w.was (space_was n x b at own w)

  pub links_now : AreKeptLinks t.held new
  links_now = record { port = port_now; space = space_now }

  -- ---- entries

  -- of a journal space that is written whole all is kept
  journal_anew : (i : ℕ) (z : Stored) (j : JournalList) → kept new.objects i ≡ Some z → journal_of z.object.body ≡ Some j → (a : IsAnew all t i z) → (y : JournalList) × ((a.one.body ≡ bodies.Journal y) × (j.entries ≡ y.entries))
  journal_anew i z j at own a =
      let kind : kind_of a.one.body ≡ kinds.Journal = sym (kept_kind t new i z a.one now at a.at) ∙ journal_kind z.object.body j own in
      let y = journal_body a.one.body kind in
      let settled : Some j ≡ journal_of (settled_body t.units a.one.number.0 (bodies.Journal y.0)) = sym own ∙ ap (λ (x : Stored). journal_of x.object.body) a.same ∙ ap (λ (b : Body). journal_of (settled_body t.units a.one.number.0 b)) y.1 in
      (y.0, (y.1, ap (λ (r : Option JournalList). (unwrap_or r no_journal).entries) settled))

  -- and no entry that was kept is kept no more
  entries_stay : (i : ℕ) (y z : Stored) (old j : JournalList) → kept d.objects i ≡ Some y → journal_of y.object.body ≡ Some old → kept new.objects i ≡ Some z → journal_of z.object.body ≡ Some j → length old.entries ≤ length j.entries
  entries_stay i y z old j was before_is at own = by (either i z at)
    where
      longer : (b : Body) (front : JournalList) → b ≡ bodies.Journal front → journal_of b ≡ Some old → front ≡ old
      longer b front is e = one_journal front old (sym (ap journal_of is) ∙ e)

      by : IsAnew all t i z ⊎ IsAsItWas all t d i z → length old.entries ≤ length j.entries
      by (inl a) =
          let x = journal_anew i z j at own a in
          let front = begun i a.one y x.0 a.at was x.1.0 in
          let same : front.old ≡ old = longer y.object.body front.old front.body before_is in
          let long : length x.0.entries ≡ length front.old.entries + length front.more = ap length front.grown ∙ length-append front.old.entries front.more in
          let one : length j.entries ≡ length x.0.entries = ap length x.1.1 in
          let two : length front.old.entries ≡ length old.entries = ap (λ (k : JournalList). length k.entries) same in
          omega (arith, long, one, two)
      by (inr w) =
          let kind : kind_of w.one.body ≡ kinds.Journal = sym (kept_kind t new i z w.one now at w.at) ∙ journal_kind z.object.body j own in
          let x = journal_body w.one.body kind in
          let stays : body_after w.one.body w.old.object.body ≡ w.old.object.body = journal_body_after w.one.body w.old.object.body x.0 (ap journal_of x.1) in
          let kept_is : journal_of w.old.object.body ≡ Some j = sym (ap journal_of stays) ∙ sym (ap (λ (v : Stored). journal_of v.object.body) w.same) ∙ own in
          let same : w.old ≡ y = one_stored w.old y (sym w.was ∙ was) in
          let one : j ≡ old = one_journal j old (sym kept_is ∙ ap (λ (v : Stored). journal_of v.object.body) same ∙ before_is) in
          let long : length j.entries ≡ length old.entries = ap (λ (k : JournalList). length k.entries) one in
          omega (arith, long)

  module _ (n : ℕ) (x : Stored) (b : DataBody) (j : JournalList) (at : kept new.objects n ≡ Some x) (own : data_of x.object.body ≡ Some b) (chain : IsChain new b.port.0 j) where
    abbrev i : ℕ
    i = chain.port.journal.0

    port_there : part_at port_part t.held b.port.0 ≡ Some chain.port
    port_there = port_now b.port.0 chain.first chain.port chain.port_at chain.port_is

    journal_there : is_journal t.held i ≡ true
    journal_there =
        let place = in_place t.held new i chain.last now.follows chain.journal_at in
        let kind : kind_of place.one.body ≡ kinds.Journal = sym (kept_kind t new i chain.last place.one now chain.journal_at place.at) ∙ journal_kind chain.last.object.body j chain.journal_is in
        let y = journal_body place.one.body kind in
        ap (λ (r : Option Object). is_some (part_in journal_part r)) place.at ∙ ap (λ (c : Body). is_some (journal_of c)) y.1

    behind : journal_of_port t.held b.port.0 ≡ Some i
    behind = ap (journal_named t.held) port_there ∙ ap (λ c. cond c (Some i) None) journal_there

    -- ---- an image that is written whole

    counted_anew : (a : IsAnew all t n x) → x.sequence ≤ length j.entries
    counted_anew a =
        let y = space_settled t.units a.one.number.0 a.one.body b (sym (ap (λ (z : Stored). data_of z.object.body) a.same) ∙ own) in
        let there : part_at data_part t.held n ≡ Some y.0 = ap (part_in data_part) a.at ∙ y.1.0 in
        let forced : list_any (is_whole i) all ≡ true = links.whole n y.0 i a.forced there (ap (journal_of_port t.held) y.1.1 ∙ behind) in
        let number : a.one.number.0 ≡ n = found_number n a.one t.held.objects a.at in
        let to : journal_for t.held a.one.number.0 ≡ Some i = ap (journal_for t.held) number ∙ ap (journal_of_port t.held) (space_now n x b at own) ∙ behind in
        let most : x.sequence ≤ last_sequence_in t.held (journal_for t.held a.one.number.0) = subst (λ (z : Stored). z.sequence ≤ last_sequence_in t.held (journal_for t.held a.one.number.0)) (sym a.same) (sequence_most (last_sequence_in t.held (journal_for t.held a.one.number.0)) a.one.body) in
        by forced (either i chain.last chain.journal_at) (subst (λ (r : Option ℕ). x.sequence ≤ last_sequence_in t.held r) to most)
      where
        by : list_any (is_whole i) all ≡ true → IsAnew all t i chain.last ⊎ IsAsItWas all t d i chain.last → x.sequence ≤ length (journal_at t.held i).entries → x.sequence ≤ length j.entries
        by forced (inl z) few =
            let y = journal_anew i chain.last j chain.journal_at chain.journal_is z in
            let same : length (journal_at t.held i).entries ≡ length y.0.entries = ap (λ (r : Option Object). length (unwrap_or (part_in journal_part r) no_journal).entries) z.at ∙ ap (λ (c : Body). length (unwrap_or (journal_of c) no_journal).entries) y.1.0 in
            let long : length j.entries ≡ length y.0.entries = ap length y.1.1 in
            omega (arith, few, same, long)
        by forced (inr w) few = absurd (let e : true ≡ false = sym forced ∙ w.unforced in cc)

    -- ---- an image that stays

    counted_was : (w : IsAsItWas all t d n x) → x.sequence ≤ length j.entries
    counted_was w =
        let was_own = space_was n x b at own w in
        let named : data_port s.held n ≡ b.port.0 = before.links.space n w.old b w.was was_own in
        let low : b.port.0 < s.held.next = let less = before.ready.linked.port n in omega (arith, less, named) in
        let to : journal_of_port s.held b.port.0 ≡ Some i = port_journal_back all s.held t.held goes before.ready links.port b.port.0 i low behind in
        let for_it : journal_for s.held n ≡ Some i = ap (journal_of_port s.held) named ∙ to in
        let port_on : is_on_disk s.held b.port.0 ≡ true = subst (λ (q : ℕ). is_on_disk s.held q ≡ true) named (before.ready.linked.port_disk n i for_it) in
        let port_was = on_kept s.held d b.port.0 is.follows port_on in
        let journal_was = on_kept s.held d i is.follows (before.ready.linked.journal_disk n i for_it) in
        let old_port = links.port b.port.0 chain.port low port_there in
        by w was_own port_was (kept_port port_was old_port) journal_was (kept_journal journal_was (kind_back all s.held t.held i kinds.Journal goes (before.ready.ports b.port.0 chain.port old_port) (journal_at_kind t.held i journal_there)))
      where
        one_object : (o q : Object) → Some o ≡ Some q → o ≡ q
        one_object o q e = cc

        kept_port : (y : (v : Stored) × (kept d.objects b.port.0 ≡ Some v)) → part_at port_part s.held b.port.0 ≡ Some chain.port → port_of y.0.object.body ≡ Some chain.port
        kept_port y there =
            let place = in_place s.held d b.port.0 y.0 is.follows y.1 in
            let own_port : port_of place.one.body ≡ Some chain.port = sym (ap (part_in port_part) place.at) ∙ there in
            let kind : kind_of y.0.object.body ≡ kinds.Port = kept_kind s d b.port.0 y.0 place.one is y.1 place.at ∙ port_kind place.one.body chain.port own_port in
            let p = port_body y.0.object.body kind in
            p.1 ∙ sym (before.links.port b.port.0 y.0 p.0 y.1 p.1) ∙ there

        kept_journal : (y : (v : Stored) × (kept d.objects i ≡ Some v)) → kind_at s.held i ≡ Some kinds.Journal → (k : JournalList) × (journal_of y.0.object.body ≡ Some k)
        kept_journal y there =
            let place = in_place s.held d i y.0 is.follows y.1 in
            let kind : kind_of y.0.object.body ≡ kinds.Journal = kept_kind s d i y.0 place.one is y.1 place.at ∙ one_kind (kind_of place.one.body) kinds.Journal (sym (ap kind_in place.at) ∙ there) in
            let k = journal_body y.0.object.body kind in
            (k.0, ap journal_of k.1)
          where
            one_kind : (a c : Kind) → Some a ≡ Some c → a ≡ c
            one_kind a c e = cc

        by : (w : IsAsItWas all t d n x) → data_of w.old.object.body ≡ Some b → (y : (v : Stored) × (kept d.objects b.port.0 ≡ Some v)) → port_of y.0.object.body ≡ Some chain.port
            → (z : (v : Stored) × (kept d.objects i ≡ Some v)) → (k : JournalList) × (journal_of z.0.object.body ≡ Some k) → x.sequence ≤ length j.entries
        by w was_own y port_is z k =
            let few : w.old.sequence ≤ length k.0.entries = before.counted n w.old b k.0 w.was was_own (chain_to d b.port.0 k.0 (record { port = chain.port; first = y.0; port_at = y.1; port_is = port_is; last = z.0; journal_at = z.1; journal_is = k.1 })) in
            let more = entries_stay i z.0 chain.last k.0 j z.1 k.1 chain.journal_at chain.journal_is in
            let same : x.sequence ≡ w.old.sequence = ap (λ (v : Stored). v.sequence) w.same in
            omega (arith, few, more, same)

  pub counted_now : AreCounted new
  counted_now n x b j at own to =
      let chain = chain_of new b.port.0 j to in
      by chain (either n x at)
    where
      by : IsChain new b.port.0 j → IsAnew all t n x ⊎ IsAsItWas all t d n x → x.sequence ≤ length j.entries
      by chain (inl a) = counted_anew n x b j at own chain a
      by chain (inr w) = counted_was n x b j at own chain w
