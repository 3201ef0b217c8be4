-- What is durable can restart where some objects were ensured at the end of a run, and the others are kept as they were.
use Rattle.std.proofs.Common.{◌≡◌, ◌∙◌, ◌≤◌, ◌==◌, ◌+◌, ℕ, Bool, true, false, cond, List, [], ◌∷◌, ◌++◌, Option, Some, None, map, length, refl, sym, ap, subst, arith}
use Rattle.std.proofs.lemmas.Bool.Decides.{nat_tests}
use Rattle.std.proofs.lemmas.List.{length-append}
use Rattle.std.proofs.lemmas.Map.Keys.{IsStrictlyIncreasing-from_sorted, sorted_from_strictly_increasing, sorted_head, sorted_tail}
use Rattle.std.specs.List.{flat_map}
use Rattle.std.specs.List.Sorted.{IsStrictlyIncreasing, IsStrictlySortedBy}
use Rattle.std.specs.Option.{unwrap_or}
use Rattle.std.specs.Ordering.{nat_cmp}
use Rattle.std.specs.Prelude.{is_some}
use Rattle.std.specs.declared.cmp.Ordering.TheVariants.{Less}
use Rattle.s38_base.specs.Limits.{machine_context}
use Rattle.s38_base.specs.declared.id.Kind.TheVariants as kinds
use Rattle.s38_commits.specs.Units.{UnitMap}
use Rattle.s38_durable_state.specs.Durable.{Durable, is_of_number, kept, last_sequence_in, whole_stored}
use Rattle.s38_durable_state.specs.Following.{Header, header_kept, object_number}
use Rattle.s38_image.specs.Settled.{settled_body}
use Rattle.s38_image.specs.declared.stored.Stored.{Stored}
use Rattle.s38_journals.specs.Journals.{JournalList}
use Rattle.s38_laws_flush.proofs.durable.FoundLaws.{found_all}
use Rattle.s38_laws_flush.specs.durable.Kept.{AreImages, IsKeptOf}
use Rattle.s38_laws_objects.specs.Well.{IsWell}
use Rattle.s38_laws_flush.specs.puts.Trails.{IsTrailOf}
use Rattle.s38_restart.specs.Restarted.{number_in_stored}
use Rattle.s38_rules.proofs.ChargeLaws.{found_number}
use Rattle.s38_rules.specs.state.Held.{Held, has_number, is_on_disk, kind_of, object, object_in}
use Rattle.s38_rules.specs.state.Journaling.{data_port, is_journal, journal_for, journal_named, journal_of_port}
use Rattle.s38_rules.specs.state.Parts.{data_of, data_part, journal_of, journal_part, part_at, part_in, port_of, port_part}
use Rattle.s38_rules.specs.state.PartsAt.{journal_at, no_journal}
use Rattle.s38_rules.specs.state.State.{State}
use Rattle.s38_rules.specs.declared.data_body.DataBody.{DataBody}
use Rattle.s38_rules.specs.declared.object.Body.TheVariants as bodies
use Rattle.s38_rules.specs.declared.object.Body.{Body}
use Rattle.s38_rules.specs.declared.object.Object.{Object}
use Rattle.s38_rules.specs.declared.port.Port.{Port}
use Rattle.s38_laws_state.specs.Order.{AreInOrder}
use Rattle.s38_flush.proofs.KeptLaws.{kept_number}
use Rattle.s38_laws_recovery.specs.Ending.{IsWithJournals, kept_if_any, mixed, mixed_of}
use Rattle.s38_laws_recovery.specs.Restartable.{AreCounted, IsRestartable}
use Rattle.s38_laws_recovery.specs.Restarting.{CanRestart}
use Rattle.s38_laws_recovery.proofs.KeptAfterLaws.{in_place, kept_kind, on_kept}
use Rattle.s38_laws_recovery.proofs.CanLaws.{IsFoundAs, Mirrors, can_by}
use Rattle.s38_laws_recovery.proofs.HeldLaws.{IsChain, chain_of, chain_to, one_stored, port_settled, sequence_most, space_settled}
use Rattle.s38_laws_recovery.proofs.KindLaws.{journal_body, journal_kind, port_body, port_kind}
use Rattle.s38_laws_recovery.proofs.LinkLaws.{named_in}
use Rattle.s38_laws_recovery.proofs.NumberLaws.{Above, itself}

-- ---- what is kept under a number

-- of each object nothing is kept, or what has its number
data IsOneOf (n : ℕ) : List Stored → Type 0 where
  none : IsOneOf n []
  one : (x : Stored) → x.object.number.0 ≡ n → IsOneOf n (x ∷ [])

none_below : (n : ℕ) (os : List Object) → Above n (map object_number os) → object_in os n ≡ None
none_below n [] above = refl
none_below n (o ∷ os) above =
    let here : nat_cmp n o.number.0 ≡ Less = above.0 in
    let off : (o.number.0 == n) ≡ false = grind (arith, nat_tests) in
    rw off (none_below n os above.1)

module _ (ensured : ℕ → Bool) (units : UnitMap) (h : Held) (old : List Stored) where
  abbrev f : Object → List Stored
  f = mixed_of ensured units h old

  own : (o : Object) → IsOneOf o.number.0 (f o)
  own o = by (ensured o.number.0) (kept old o.number.0) refl
    where
      by : (b : Bool) (r : Option Stored) → kept old o.number.0 ≡ r → IsOneOf o.number.0 (cond b (whole_stored units h o ∷ []) (kept_if_any r))
      by true r is = one (whole_stored units h o) refl
      by false None is = none
      by false (Some x) is = one x (kept_number o.number.0 old x is)

  -- what an object that is there leads to
  abbrev pub mixed_at : Option Object → Option Stored
  mixed_at None = None
  mixed_at (Some o) = cond (ensured o.number.0) (Some (whole_stored units h o)) (kept old o.number.0)

  alone : (o : Object) → kept (f o) o.number.0 ≡ mixed_at (Some o)
  alone o = by (ensured o.number.0) (kept old o.number.0) refl
    where
      by : (b : Bool) (r : Option Stored) → kept old o.number.0 ≡ r → kept (cond b (whole_stored units h o ∷ []) (kept_if_any r)) o.number.0 ≡ cond b (Some (whole_stored units h o)) r
      by true r is = ap (λ b. cond b (Some (whole_stored units h o)) None) (itself o.number.0)
      by false None is = refl
      by false (Some x) is = ap (λ b. cond b (Some x) None) (ap (λ (k : ℕ). k == o.number.0) (kept_number o.number.0 old x is) ∙ itself o.number.0)

  -- of another number nothing is found there
  passed : (k n : ℕ) (xs ys : List Stored) → IsOneOf k xs → (k == n) ≡ false → kept (xs ++ ys) n ≡ kept ys n
  passed k n [] ys none off = refl
  passed k n (x ∷ []) ys (one y same) off = ap (λ b. cond b (Some x) (kept ys n)) (ap (λ (i : ℕ). i == n) same ∙ off)
  passed k n (x ∷ (y ∷ xs)) ys is off = elim is [ ]

  first : (k n : ℕ) (xs ys : List Stored) → IsOneOf k xs → kept ys n ≡ None → kept (xs ++ ys) n ≡ kept xs n
  first k n [] ys none nothing = nothing
  first k n (x ∷ []) ys (one y same) nothing = ap (λ (r : Option Stored). cond (is_of_number n x) (Some x) r) nothing
  first k n (x ∷ (y ∷ xs)) ys is nothing = elim is [ ]

  all_mixed : (os : List Object) (n : ℕ) → IsStrictlySortedBy nat_cmp (map object_number os) → kept (flat_map f os) n ≡ mixed_at (object_in os n)
  all_mixed [] n order = refl
  all_mixed (o ∷ os) n order =
      by (has_number n o) refl (all_mixed os n (sorted_tail nat_cmp o.number.0 (map object_number os) order))
    where
      by : (b : Bool) → (o.number.0 == n) ≡ b → kept (flat_map f os) n ≡ mixed_at (object_in os n) → kept (f o ++ flat_map f os) n ≡ mixed_at (cond b (Some o) (object_in os n))
      by true is rest =
          let at : o.number.0 ≡ n = grind (arith, nat_tests) in
          let nothing : object_in os n ≡ None = subst (λ (k : ℕ). object_in os k ≡ None) at (none_below o.number.0 os (sorted_head nat_cmp o.number.0 (map object_number os) order)) in
          first o.number.0 n (f o) (flat_map f os) (own o) (rest ∙ ap mixed_at nothing) ∙ ap (kept (f o)) (sym at) ∙ alone o
      by false off rest = passed o.number.0 n (f o) (flat_map f os) (own o) off ∙ rest

  above_mixed : (n : ℕ) (os : List Object) → Above n (map object_number os) → Above n (map number_in_stored (flat_map f os))
  above_mixed n [] above = tt
  above_mixed n (o ∷ os) above = by (f o) (own o) (above_mixed n os above.1)
    where
      by : (xs : List Stored) → IsOneOf o.number.0 xs → Above n (map number_in_stored (flat_map f os)) → Above n (map number_in_stored (xs ++ flat_map f os))
      by [] none rest = rest
      by (x ∷ []) (one y same) rest = (ap (nat_cmp n) same ∙ above.0, rest)
      by (x ∷ (y ∷ xs)) is rest = elim is [ ]

  sorted_mixed : (os : List Object) → IsStrictlySortedBy nat_cmp (map object_number os) → IsStrictlySortedBy nat_cmp (map number_in_stored (flat_map f os))
  unfolding IsStrictlySortedBy
  sorted_mixed [] order = tt
  sorted_mixed (o ∷ os) order =
      by (f o) (own o) (above_mixed o.number.0 os (sorted_head nat_cmp o.number.0 (map object_number os) order)) (sorted_mixed os (sorted_tail nat_cmp o.number.0 (map object_number os) order))
    where
      by : (xs : List Stored) → IsOneOf o.number.0 xs → Above o.number.0 (map number_in_stored (flat_map f os)) → IsStrictlySortedBy nat_cmp (map number_in_stored (flat_map f os)) → IsStrictlySortedBy nat_cmp (map number_in_stored (xs ++ flat_map f os))
      by [] none above rest = rest
      by (x ∷ []) (one y same) above rest = (subst (λ (k : ℕ). Above k (map number_in_stored (flat_map f os))) (sym same) above, rest)
      by (x ∷ (y ∷ xs)) is above rest = elim is [ ]

-- ---- it goes with the objects

kind_settled : (units : UnitMap) (n : ℕ) (b : Body) → kind_of (settled_body units n b) ≡ kind_of b
kind_settled units n (bodies.DataSpace d) = refl
kind_settled units n (bodies.Journal j) = refl
kind_settled units n _ = refl

-- an object that is kept in its current state, or as it was
data IsKeptAs (ensured : ℕ → Bool) (units : UnitMap) (h : Held) (d : Durable) (n : ℕ) (x : Stored) (o : Object) : Type 0 where
  anew : ensured n ≡ true → x ≡ whole_stored units h o → IsKeptAs ensured units h d n x o
  before : ensured n ≡ false → kept d.objects n ≡ Some x → IsKeptAs ensured units h d n x o

module _ (s : State) (d : Durable) (is : IsKeptOf s d) (trail : IsTrailOf s d) (ready : IsRestartable s d) (ensured : ℕ → Bool) (with_journals : IsWithJournals ensured s.held) where
  abbrev h : Held
  h = s.held

  abbrev new : Durable
  new = mixed ensured s.units h d

  pub found : (n : ℕ) → kept new.objects n ≡ mixed_at ensured s.units h d.objects (object h n)
  found n = all_mixed ensured s.units h d.objects h.objects n (sorted_from_strictly_increasing (map object_number h.objects) is.numbered.rising)

  -- what is kept is of an object that is there
  there : (n : ℕ) (x : Stored) → kept new.objects n ≡ Some x → (o : Object) × ((object h n ≡ Some o) × IsKeptAs ensured s.units h d n x o)
  there n x at = by (object h n) refl (sym (found n) ∙ at)
    where
      how : (o : Object) (b : Bool) → ensured n ≡ b → cond b (Some (whole_stored s.units h o)) (kept d.objects n) ≡ Some x → IsKeptAs ensured s.units h d n x o
      how o true on e = anew on (sym (one_stored (whole_stored s.units h o) x e))
      how o false off e = before off e

      by : (r : Option Object) → object h n ≡ r → mixed_at ensured s.units h d.objects r ≡ Some x → (o : Object) × ((object h n ≡ Some o) × IsKeptAs ensured s.units h d n x o)
      by None at e = absurd (let g : None ≡ Some x = e in cc)
      by (Some o) at e =
          let number : o.number.0 ≡ n = found_number n o h.objects at in
          (o, (at, how o (ensured n) refl (subst (λ (k : ℕ). cond (ensured k) (Some (whole_stored s.units h o)) (kept d.objects k) ≡ Some x) number e)))

  -- what was kept is kept
  still : (n : ℕ) → is_some (kept d.objects n) ≡ true → is_some (kept new.objects n) ≡ true
  still n some = by (kept d.objects n) refl some
    where
      kept_by : (b : Bool) (o : Object) (x : Stored) → is_some (cond b (Some (whole_stored s.units h o)) (Some x)) ≡ true
      kept_by true o x = refl
      kept_by false o x = refl

      by : (r : Option Stored) → kept d.objects n ≡ r → is_some r ≡ true → is_some (kept new.objects n) ≡ true
      by None at some = absurd (let e : false ≡ true = some in cc)
      by (Some x) at some =
          let place = in_place h d n x is.follows at in
          let number : place.one.number.0 ≡ n = found_number n place.one h.objects place.at in
          ap is_some (found n ∙ ap (mixed_at ensured s.units h d.objects) place.at)
          ∙ ap (λ (k : ℕ). is_some (cond (ensured k) (Some (whole_stored s.units h place.one)) (kept d.objects k))) number
          ∙ ap (λ (r : Option Stored). is_some (cond (ensured n) (Some (whole_stored s.units h place.one)) r)) at ∙ kept_by (ensured n) place.one x

  placed : (n : ℕ) (x : Stored) → kept new.objects n ≡ Some x → IsFoundAs h n x
  placed n x at = by (there n x at)
    where
      by : (o : Object) × ((object h n ≡ Some o) × IsKeptAs ensured s.units h d n x o) → IsFoundAs h n x
      by (o, (found_at, anew on same)) = record { one = o; at = found_at; header = ap header_kept same }
      by (o, (found_at, before off was)) = let place = in_place h d n x is.follows was in record { one = place.one; at = place.at; header = place.header }

  kind_of_new : (n : ℕ) (x : Stored) → kept new.objects n ≡ Some x → kind_of x.object.body ≡ x.object.id.kind
  kind_of_new n x at = by (there n x at)
    where
      by : (o : Object) × ((object h n ≡ Some o) × IsKeptAs ensured s.units h d n x o) → kind_of x.object.body ≡ x.object.id.kind
      by (o, (found_at, anew on same)) =
          subst (λ (y : Stored). kind_of y.object.body ≡ y.object.id.kind) (sym same)
          (kind_settled s.units o.number.0 o.body ∙ (found_all IsWell h.objects n o is.well.objects found_at).storable.kind)
      by (o, (found_at, before off was)) = is.bodies n x was

  said_kind : (n : ℕ) (x : Stored) (o : Object) → kept new.objects n ≡ Some x → object h n ≡ Some o → x.object.id.kind ≡ kind_of o.body
  said_kind n x o at found_at =
      let place = placed n x at in
      let one : place.one ≡ o = same place.one o (sym place.at ∙ found_at) in
      ap (λ (v : Header). v.id.kind) place.header ∙ ap (λ (y : Object). y.id.kind) one ∙ sym (found_all IsWell h.objects n o is.well.objects found_at).storable.kind
    where
      same : (a b : Object) → Some a ≡ Some b → a ≡ b
      same a b e = cc

  port_mixed : (n : ℕ) (x : Stored) (p : Port) → kept new.objects n ≡ Some x → port_of x.object.body ≡ Some p → part_at port_part h n ≡ Some p
  port_mixed n x p at of = by (there n x at)
    where
      by : (o : Object) × ((object h n ≡ Some o) × IsKeptAs ensured s.units h d n x o) → part_at port_part h n ≡ Some p
      by (o, (found_at, anew on same)) = ap (part_in port_part) found_at ∙ sym (port_settled s.units o.number.0 o.body) ∙ sym (ap (λ (y : Stored). port_of y.object.body) same) ∙ of
      by (o, (found_at, before off was)) = ready.links.port n x p was of

  space_mixed : (n : ℕ) (x : Stored) (b : DataBody) → kept new.objects n ≡ Some x → data_of x.object.body ≡ Some b → data_port h n ≡ b.port.0
  space_mixed n x b at of = by (there n x at)
    where
      by : (o : Object) × ((object h n ≡ Some o) × IsKeptAs ensured s.units h d n x o) → data_port h n ≡ b.port.0
      by (o, (found_at, anew on same)) =
          let y = space_settled s.units o.number.0 o.body b (sym (ap (λ (z : Stored). data_of z.object.body) same) ∙ of) in
          named_in h n y.0 (ap (part_in data_part) found_at ∙ y.1.0) ∙ y.1.1
      by (o, (found_at, before off was)) = ready.links.space n x b was of

  -- ---- entries

  -- a journal space that is kept has all its entries, or those that were kept
  journal_whole : (i : ℕ) (z : Stored) (j : JournalList) → kept new.objects i ≡ Some z → journal_of z.object.body ≡ Some j → ensured i ≡ true → length (journal_at h i).entries ≡ length j.entries
  journal_whole i z j at of on = by (there i z at)
    where
      by : (o : Object) × ((object h i ≡ Some o) × IsKeptAs ensured s.units h d i z o) → length (journal_at h i).entries ≡ length j.entries
      by (o, (found_at, anew on same)) =
          let kind : kind_of o.body ≡ kinds.Journal = sym (said_kind i z o at found_at) ∙ sym (kind_of_new i z at) ∙ journal_kind z.object.body j of in
          let y = journal_body o.body kind in
          let settled : journal_of (settled_body s.units o.number.0 (bodies.Journal y.0)) ≡ Some j = sym (ap (λ (b : Body). journal_of (settled_body s.units o.number.0 b)) y.1) ∙ sym (ap (λ (x : Stored). journal_of x.object.body) same) ∙ of in
          ap (λ (r : Option Object). length (unwrap_or (part_in journal_part r) no_journal).entries) found_at ∙ ap (λ (b : Body). length (unwrap_or (journal_of b) no_journal).entries) y.1
          ∙ ap (λ (r : Option JournalList). length (unwrap_or r no_journal).entries) settled
      by (o, (found_at, before off was)) = absurd (let e : true ≡ false = sym on ∙ off in cc)

  journal_long : (i : ℕ) (y z : Stored) (front j : JournalList) → kept d.objects i ≡ Some y → journal_of y.object.body ≡ Some front → kept new.objects i ≡ Some z → journal_of z.object.body ≡ Some j → length front.entries ≤ length j.entries
  journal_long i y z front j was is_front at of = by (ensured i) refl (there i z at)
    where
      one : (a b : JournalList) → Some a ≡ Some b → a ≡ b
      one a b e = cc

      by : (c : Bool) → ensured i ≡ c → (o : Object) × ((object h i ≡ Some o) × IsKeptAs ensured s.units h d i z o) → length front.entries ≤ length j.entries
      by true on w =
          let trailing = trail.trailing i y front was is_front in
          let long : length (journal_at h i).entries ≡ length front.entries + length trailing.rest = ap length trailing.entries ∙ length-append front.entries trailing.rest in
          let whole = journal_whole i z j at of on in
          omega (arith, long, whole)
      by false off (o, (found_at, anew on same)) = absurd (let e : true ≡ false = sym on ∙ off in cc)
      by false off (o, (found_at, before other kept_is)) =
          let same : y ≡ z = one_stored y z (sym was ∙ kept_is) in
          let long : length front.entries ≡ length j.entries = ap (λ (k : JournalList). length k.entries) (one front j (sym is_front ∙ ap (λ (v : Stored). journal_of v.object.body) same ∙ of)) in
          omega (arith, long)

  module _ (n : ℕ) (x : Stored) (b : DataBody) (j : JournalList) (at : kept new.objects n ≡ Some x) (of : data_of x.object.body ≡ Some b) (chain : IsChain new b.port.0 j) where
    abbrev i : ℕ
    i = chain.port.journal.0

    journal_there : is_journal h i ≡ true
    journal_there =
        let place = placed i chain.last chain.journal_at in
        let kind : kind_of place.one.body ≡ kinds.Journal = sym (said_kind i chain.last place.one chain.journal_at place.at) ∙ sym (kind_of_new i chain.last chain.journal_at) ∙ journal_kind chain.last.object.body j chain.journal_is in
        let y = journal_body place.one.body kind in
        ap (λ (r : Option Object). is_some (part_in journal_part r)) place.at ∙ ap (λ (c : Body). is_some (journal_of c)) y.1

    port_there : part_at port_part h b.port.0 ≡ Some chain.port
    port_there = port_mixed b.port.0 chain.first chain.port chain.port_at chain.port_is

    leads : journal_for h n ≡ Some i
    leads = ap (journal_of_port h) (space_mixed n x b at of) ∙ ap (journal_named h) port_there ∙ ap (λ c. cond c (Some i) None) journal_there

    counted_as : (o : Object) × ((object h n ≡ Some o) × IsKeptAs ensured s.units h d n x o) → x.sequence ≤ length j.entries
    counted_as (o, (found_at, anew on same)) =
        let to : journal_for h o.number.0 ≡ Some i = ap (journal_for h) (found_number n o h.objects found_at) ∙ leads in
        let most : x.sequence ≤ last_sequence_in h (journal_for h o.number.0) = subst (λ (z : Stored). z.sequence ≤ last_sequence_in h (journal_for h o.number.0)) (sym same) (sequence_most (last_sequence_in h (journal_for h o.number.0)) o.body) in
        let few : x.sequence ≤ length (journal_at h i).entries = subst (λ (r : Option ℕ). x.sequence ≤ last_sequence_in h r) to most in
        let whole = journal_whole i chain.last j chain.journal_at chain.journal_is (with_journals n i on leads) in
        omega (arith, few, whole)
    counted_as (o, (found_at, before off was)) =
        let named : data_port h n ≡ b.port.0 = ready.links.space n x b was of in
        let port_on : is_on_disk h b.port.0 ≡ true = subst (λ (q : ℕ). is_on_disk h q ≡ true) named (ready.ready.linked.port_disk n i leads) in
        let y = on_kept h d b.port.0 is.follows port_on in
        let z = on_kept h d i is.follows (ready.ready.linked.journal_disk n i leads) in
        let k = kept_journal z in
        let few : x.sequence ≤ length k.0.entries = ready.counted n x b k.0 was of (chain_to d b.port.0 k.0 (record { port = chain.port; first = y.0; port_at = y.1; port_is = kept_port y; last = z.0; journal_at = z.1; journal_is = k.1 })) in
        let more = journal_long i z.0 chain.last k.0 j z.1 k.1 chain.journal_at chain.journal_is in
        omega (arith, few, more)
      where
        kept_port : (y : (v : Stored) × (kept d.objects b.port.0 ≡ Some v)) → port_of y.0.object.body ≡ Some chain.port
        kept_port y =
            let place = in_place h d b.port.0 y.0 is.follows y.1 in
            let own_port : port_of place.one.body ≡ Some chain.port = sym (ap (part_in port_part) place.at) ∙ port_there in
            let p = port_body y.0.object.body (kept_kind s d b.port.0 y.0 place.one is y.1 place.at ∙ port_kind place.one.body chain.port own_port) in
            p.1 ∙ sym (ready.links.port b.port.0 y.0 p.0 y.1 p.1) ∙ port_there

        kept_journal : (z : (v : Stored) × (kept d.objects i ≡ Some v)) → (k : JournalList) × (journal_of z.0.object.body ≡ Some k)
        kept_journal z =
            let place = in_place h d i z.0 is.follows z.1 in
            let last = placed i chain.last chain.journal_at in
            let kind : kind_of place.one.body ≡ kinds.Journal = sym (said_kind i chain.last place.one chain.journal_at place.at) ∙ sym (kind_of_new i chain.last chain.journal_at) ∙ journal_kind chain.last.object.body j chain.journal_is in
            let k = journal_body z.0.object.body (kept_kind s d i z.0 place.one is z.1 place.at ∙ kind) in
            (k.0, ap journal_of k.1)

  counted_mixed : AreCounted new
  counted_mixed n x b j at of to = counted_as n x b j at of (chain_of new b.port.0 j to) (there n x at)

  pub mixed_rises : IsStrictlyIncreasing (map number_in_stored new.objects)
  mixed_rises = IsStrictlyIncreasing-from_sorted (map number_in_stored new.objects) (sorted_mixed ensured s.units h d.objects h.objects (sorted_from_strictly_increasing (map object_number h.objects) is.numbered.rising))

  mirrors : Mirrors h new
  mirrors = record {
    place = placed;
    kind = said_kind;
    users = λ n user. still n (ap is_some (on_kept h d n is.follows (ready.ready.users n user)).1);
    machine = still machine_context (ap is_some (on_kept h d machine_context is.follows ready.ready.machine_disk).1);
    links = record { port = port_mixed; space = space_mixed };
    counted = counted_mixed;
    rising = mixed_rises;
    ceiling = refl;
  }

  pub mixed_can : AreInOrder s → AreImages new → CanRestart new
  mixed_can order images = can_by h new is.numbered order.lawful order.numbered order.fit ready.ready images mirrors
