use Rattle.std.proofs.Common.{◌≡◌, ◌∙◌, ap, arith, inl, inr, subst}
use Rattle.std.proofs.lemmas.Bool.{cases_lt}
use Rattle.s38_page_diff.specs.Puts.{IsAfterPuts}
use Rattle.s38_image.specs.PartPlaces.{ceiling_key}
use Rattle.s38_page_diff.proofs.reconcile.SoFarLaws.{all_of}
use Rattle.s38_vault.specs.Content.{Content, changed}
use Rattle.s38_vault.specs.Directory.{Keys, new_keys}
use Rattle.s38_vault.specs.Vaults.{VaultShape, VaultView}
use Rattle.s38_flush.proofs.BothLaws.{new_beside_all}
use Rattle.s38_flush.proofs.TurnLaws.{new_apart}
use Rattle.s38_flush.proofs.putting.put_each.Goals as goal

pub make_room-requires-clause-first : goal.make_room-requires-clause-first
make_room-requires-clause-first g c = all_of _ _ _ (λ x is. is.0) c.requires.turns.first_objects

pub make_room-requires-clause-later : goal.make_room-requires-clause-later
make_room-requires-clause-later g c = all_of _ _ _ (λ x is. is.0) c.requires.turns.later_objects

pub put_all-requires-2-clause-objects : goal.put_all-requires-2-clause-objects
put_all-requires-2-clause-objects g c = all_of _ _ _ (λ x is. is.0) c.requires.turns.first_objects

pub put_all-requires-3-clause-objects : goal.put_all-requires-3-clause-objects
put_all-requires-3-clause-objects g c = all_of _ _ _ (λ x is. is.0) c.requires.turns.later_objects

pub put_all-requires-2-clause-room : goal.put_all-requires-2-clause-room
put_all-requires-2-clause-room g c =
    let V = g.V.Vault in
    let old = V.view c.args.vault.now in
    let mid = V.view c.make_room.new.vault in
    let now = V.view c.put_all.new.vault in
    let ceiling = c.args.ceiling.now in
    let first = c.args.first.now in
    let same = c.make_room.ensures.stays in
    let keys : mid.keys ≡ old.keys = ap (λ (v : VaultView). v.keys) same in
    let free : mid.free ≡ old.free = ap (λ (v : VaultView). v.free) same in
    let beside : new_keys now.keys first ≡ new_keys mid.keys first =
    ap (λ (ks : Keys). new_keys ks first) c.in_ok-put_all.ensures.keys ∙ new_beside_all ceiling_key mid.keys ceiling first c.requires.ceiling_own (all_of _ _ first (λ x is. is.1) c.requires.turns.first_objects) in
    let one : new_keys mid.keys ceiling ≡ new_keys old.keys ceiling = ap (λ (ks : Keys). new_keys ks ceiling) keys in
    let two : new_keys mid.keys first ≡ new_keys old.keys first = ap (λ (ks : Keys). new_keys ks first) keys in
    omega (arith, beside, one, two, free, c.in_ok-put_all.ensures.free, c.in_ok-make_room.ensures.room)

pub put_all-requires-3-clause-room : goal.put_all-requires-3-clause-room
put_all-requires-3-clause-room g c =
    let V = g.V.Vault in
    let old = V.view c.args.vault.now in
    let mid = V.view c.make_room.new.vault in
    let next = V.view c.put_all.new.vault in
    let now = V.view c.put_all-2.new.vault in
    let ceiling = c.args.ceiling.now in
    let first = c.args.first.now in
    let later = c.args.later.now in
    let turns = c.requires.turns in
    let same = c.make_room.ensures.stays in
    let keys : mid.keys ≡ old.keys = ap (λ (v : VaultView). v.keys) same in
    let free : mid.free ≡ old.free = ap (λ (v : VaultView). v.free) same in
    let beside : new_keys next.keys first ≡ new_keys mid.keys first =
    ap (λ (ks : Keys). new_keys ks first) c.in_ok-put_all.ensures.keys ∙ new_beside_all ceiling_key mid.keys ceiling first c.requires.ceiling_own (all_of _ _ first (λ x is. is.1) turns.first_objects) in
    let apart : new_keys now.keys later ≡ new_keys mid.keys later =
    ap (λ (ks : Keys). new_keys ks later) c.in_ok-put_all-2.ensures.keys ∙ new_apart turns.test next.keys first later turns.passes turns.fails
    ∙ ap (λ (ks : Keys). new_keys ks later) c.in_ok-put_all.ensures.keys ∙ new_beside_all ceiling_key mid.keys ceiling later c.requires.ceiling_own (all_of _ _ later (λ x is. is.1) turns.later_objects) in
    let one : new_keys mid.keys ceiling ≡ new_keys old.keys ceiling = ap (λ (ks : Keys). new_keys ks ceiling) keys in
    let two : new_keys mid.keys first ≡ new_keys old.keys first = ap (λ (ks : Keys). new_keys ks first) keys in
    let three : new_keys mid.keys later ≡ new_keys old.keys later = ap (λ (ks : Keys). new_keys ks later) keys in
    omega (arith, beside, apart, one, two, three, free, c.in_ok-put_all.ensures.free, c.in_ok-put_all-2.ensures.free, c.in_ok-make_room.ensures.room)

pub returns-clause-told : goal.returns-clause-told
returns-clause-told g c = λ n h.
    let last = c.in_ok-put_all-3.ensures.told n h in
    let middle = c.in_ok-put_all-2.ensures.told last.0 last.1.0 in
    let first = c.in_ok-put_all.ensures.told middle.0 middle.1.0 in
    (first.0, ((c.make_room.ensures.holds first.0).1 first.1.0, last.1.1 ∙ ap (λ (m : Content). changed m c.args.later.now) (middle.1.1 ∙ ap (λ (m : Content). changed m c.args.first.now) first.1.1)))

pub returns-clause-during : goal.returns-clause-during
returns-clause-during g c = λ m held t n low high left.
    let V = g.V.Vault in
    let old = V.view c.args.vault.now in
    let one = changed m c.args.ceiling.now in
    let two = changed one c.args.first.now in
    let begun = (c.make_room.ensures.holds m).0 held in
    let going = c.in_ok-put_all.ensures.holds m begun in
    let ending = c.in_ok-put_all-2.ensures.holds one going in
    let same = c.make_room.ensures.stays in
    let moment : (V.view c.make_room.new.vault).moment ≡ old.moment = ap (λ (v : VaultView). v.moment) same in
    let shape : (V.view c.make_room.new.vault).shape ≡ old.shape = ap (λ (v : VaultView). v.shape) same in
    elim (cases_lt (V.view c.put_all-2.new.vault).moment t) [
      | inl last ↦ inr (inr (subst (λ (s : VaultShape). IsAfterPuts s.most two c.args.later.now n) (c.put_all-2.ensures.shape ∙ c.put_all.ensures.shape ∙ shape) (c.put_all-3.ensures.during two ending t n last high left)))
      | inr before ↦
          let earlier = (c.put_all-3.ensures.past t n before).1 left in
          elim (cases_lt (V.view c.put_all.new.vault).moment t) [
            | inl middle ↦ inr (inl (subst (λ (s : VaultShape). IsAfterPuts s.most one c.args.first.now n) (c.put_all.ensures.shape ∙ shape) (c.put_all-2.ensures.during one going t n middle before earlier)))
            | inr first ↦ inl (subst (λ (s : VaultShape). IsAfterPuts s.most m c.args.ceiling.now n) shape (c.put_all.ensures.during m begun t n (omega (arith, low, moment)) first ((c.put_all-2.ensures.past t n first).1 earlier)))
          ]
    ]
