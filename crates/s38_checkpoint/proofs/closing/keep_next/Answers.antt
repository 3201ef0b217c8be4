use Rattle.std.proofs.Common.{Global, Vec, ◌≡◌, ◌∙◌, ◌<◌, ◌≤◌, ◌++◌, ◌∷◌, ℕ, List, [], ap, append-nil, append_assoc, arith, inl, inr, length, refl, subst, sym, take}
use Rattle.std.specs.Prelude.{Err}
use Rattle.s38_base.specs.declared.page.Change.{Change}
use Rattle.s38_checkpoint.specs.Closing.{closing}
use Rattle.s38_checkpoint.specs.Ensuring.{IsLeft, journal_ahead}
use Rattle.s38_checkpoint.specs.Waiting.{Waits}
use Rattle.s38_checkpoint.proofs.CallLaws.{front_left, made_both, others_left}
use Rattle.s38_checkpoint.proofs.KeepLaws.{all_so_far, made_fine, mark_front, mark_rest, placed_fits, placed_full, placed_so_far, placed_waits, stopped_put, stopped_unread}
use Rattle.s38_checkpoint.proofs.WaitLaws.{objects_by, rising_by, waits_put}
use Rattle.s38_durable_state.specs.Represents.{parts_at}
use Rattle.s38_page_diff.proofs.FaultLaws.{handed, unread_bad}
use Rattle.s38_page_diff.specs.FlushFaults.{IfBad, IsFullFor}
use Rattle.s38_page_diff.specs.reconcile.Walking.{AreSoFar}
use Rattle.s38_page_diff.proofs.reconcile.PlacedLaws.{all_after, rising_after}
use Rattle.s38_vault.specs.Content.{AreRising, Content, HaveObjects, changed}
use Rattle.s38_vault.specs.Directory.{keys_of, new_keys}
use Rattle.s38_vault.specs.Vaults.{VaultShape, VaultView}
use Rattle.s38_checkpoint.proofs.closing.keep_next.Goals.{then-ahead+in_ok-put_changes, else-ahead}
use Rattle.s38_checkpoint.proofs.closing.keep_next.Goals as goal

pub returns-in_err-ahead-clause-stopped : goal.returns-in_err-ahead-clause-stopped
returns-in_err-ahead-clause-stopped g c =
    let V = g.V.Vault in
    let fault = c.in_err-ahead.field-0.0 in
    let h = c.args.objects.now in
    let d = closing c.args.units.now h in
    handed _ c.from_residual.result fault c.from_residual.ensures.1 (λ m n gone rest next held w fit.
    stopped_unread (V.holds c.add_next.new.vault) (V.view c.args.vault.now).shape.parts m d h n fault c.in_err-ahead.ensures.bad ((c.add_next.ensures.stays.held n).0 held) w.held)

pub returns-in_err-ahead-clause-bad : goal.returns-in_err-ahead-clause-bad
returns-in_err-ahead-clause-bad g c = handed (IfBad ⊥) c.from_residual.result c.in_err-ahead.field-0.0 c.from_residual.ensures.1 (unread_bad ⊥ ⊥ (λ bad. bad) c.in_err-ahead.field-0.0 c.in_err-ahead.ensures.bad)

pub make_place-requires-clause-rising : goal.make_place-requires-clause-rising
make_place-requires-clause-rising g c =
    let V = g.V.Vault in
    let old = c.args.vault.now in
    let d = closing c.args.units.now c.args.objects.now in
    let n = c.args.object.now.number.0 in
    let adds = c.in_ok-ahead.ensures.adds in
    rising_by d (V.view old).keys (V.holds old) n adds.between c.add_next.new.into.items (journal_ahead c.args.objects.now n) adds.behind adds.so_far.rising adds.so_far.upto

pub make_place-requires-clause-objects : goal.make_place-requires-clause-objects
make_place-requires-clause-objects g c =
    let V = g.V.Vault in
    let old = c.args.vault.now in
    let d = closing c.args.units.now c.args.objects.now in
    let n = c.args.object.now.number.0 in
    let adds = c.in_ok-ahead.ensures.adds in
    objects_by d (V.view old).keys (V.holds old) n adds.between c.add_next.new.into.items (journal_ahead c.args.objects.now n) adds.behind adds.so_far.objects

pub returns-in_err-make_place-clause-stopped : goal.returns-in_err-make_place-clause-stopped
returns-in_err-make_place-clause-stopped g c =
    let V = g.V.Vault in
    let old = c.args.vault.now in
    let mid = c.make_place.new.vault in
    let h = c.args.objects.now in
    let d = closing c.args.units.now h in
    let o = c.args.object.now in
    let front = c.args.changes.now.items in
    let all = c.add_next.new.into.items in
    let adds = c.in_ok-ahead.ensures.adds in
    let kept = c.in_ok-ahead.ensures.kept in
    let mark : c.len-mark.result ≡ length front = omega (arith, c.len-mark.ensures, c.args.changes.now.ok.0) in
    let front_is = mark_front front all kept.0 c.len-mark.result kept.1 mark in
    let rest_is = mark_rest front all kept.0 c.len-mark.result kept.1 mark in
    let fault = c.in_err-make_place.field-0.0 in
    let made = c.in_err-make_place.ensures in
    handed _ c.from_residual-in_err-make_place.result fault c.from_residual-in_err-make_place.ensures.1 (λ m n gone rest next held w fit.
    let read_held = (c.add_next.ensures.stays.held n).0 held in
    let there : V.holds mid (changed n (take c.len-mark.result all)) → V.holds mid (changed n front) = subst (λ (cs : List Change). V.holds mid (changed n cs)) front_is in
    let parts = ap (λ (s : VaultShape). s.parts) c.make_place.ensures.shape ∙ ap (λ (v : VaultView). v.shape.parts) c.add_next.ensures.stays.same in
    placed_full d h o c.args.done (V.view old).keys (V.holds old) front all c.in_ok-ahead.ahead c.requires.so_far adds c.in_ok-ahead.ensures.low c.in_ok-ahead.ensures.gap (V.view old).shape.parts m gone rest next fit n held w.next kept.0 kept.1
    (V.holds mid) (V.view mid).keys (V.view mid).free fault (subst (λ (cs : List Change). IsFullFor (new_keys (V.view mid).keys cs) (V.view mid).free fault) rest_is made.full) made.bad
    (λ needed free is. there (c.make_place.ensures.front needed free (c.in_err-make_place.was ∙ ap Err is) n read_held))
    (λ needed free is. (c.make_place.ensures.full_counted needed free (c.in_err-make_place.was ∙ ap Err is)).keys)
    (λ needed free is. (c.make_place.ensures.full_counted needed free (c.in_err-make_place.was ∙ ap Err is)).sum ∙ parts)
    (λ not. elim (made.stopped not n read_held) [ inl before ↦ inl before | inr after ↦ inr (there after) ])
    w.held (record { gone = gone; rest = o ∷ rest; all = next.all; behind = w.next }))

pub returns-in_err-make_place-clause-during : goal.returns-in_err-make_place-clause-during
returns-in_err-make_place-clause-during g c m n gone rest next held w =
    let V = g.V.Vault in
    let old = c.args.vault.now in
    let h = c.args.objects.now in
    let d = closing c.args.units.now h in
    let front = c.args.changes.now.items in
    let all = c.add_next.new.into.items in
    let kept = c.in_ok-ahead.ensures.kept in
    let mark : c.len-mark.result ≡ length front = omega (arith, c.len-mark.ensures, c.args.changes.now.ok.0) in
    let stays = c.add_next.ensures.stays in
    front_left V.view V.holds V.leaves old c.add_next.new.vault c.make_place.new.vault stays (IsLeft (V.view old).shape.most m d h) (V.view old).shape.most n front (take c.len-mark.result all)
    (mark_front front all kept.0 c.len-mark.result kept.1 mark) refl w.left (c.make_place.ensures.during n ((stays.held n).0 held))

pub put_changes-requires-clause-rising : goal.put_changes-requires-clause-rising
put_changes-requires-clause-rising g c =
    let V = g.V.Vault in
    let old = c.args.vault.now in
    let d = closing c.args.units.now c.args.objects.now in
    let n = c.args.object.now.number.0 in
    let adds = c.in_ok-ahead.ensures.adds in
    let at = c.in_ok-make_place.ensures.placed in
    subst AreRising (sym c.deref.ensures.value) (rising_after at.front c.make_place.new.changes.items (subst AreRising at.parted
    (rising_by d (V.view old).keys (V.holds old) n adds.between c.add_next.new.into.items (journal_ahead c.args.objects.now n) adds.behind adds.so_far.rising adds.so_far.upto)))

pub put_changes-requires-clause-objects : goal.put_changes-requires-clause-objects
put_changes-requires-clause-objects g c =
    let V = g.V.Vault in
    let old = c.args.vault.now in
    let d = closing c.args.units.now c.args.objects.now in
    let n = c.args.object.now.number.0 in
    let adds = c.in_ok-ahead.ensures.adds in
    let at = c.in_ok-make_place.ensures.placed in
    subst HaveObjects (sym c.deref.ensures.value) (all_after (λ x. 1 ≤ x.key.object) at.front c.make_place.new.changes.items (subst HaveObjects at.parted
    (objects_by d (V.view old).keys (V.holds old) n adds.between c.add_next.new.into.items (journal_ahead c.args.objects.now n) adds.behind adds.so_far.objects)))

pub returns-in_err-put_changes-clause-stopped : goal.returns-in_err-put_changes-clause-stopped
returns-in_err-put_changes-clause-stopped g c =
    let V = g.V.Vault in
    let old = c.args.vault.now in
    let mid = c.make_place.new.vault in
    let h = c.args.objects.now in
    let d = closing c.args.units.now h in
    let front = c.args.changes.now.items in
    let all = c.add_next.new.into.items in
    let own = c.make_place.new.changes.items in
    let adds = c.in_ok-ahead.ensures.adds in
    let kept = c.in_ok-ahead.ensures.kept in
    let stays = c.add_next.ensures.stays in
    let at = c.in_ok-make_place.ensures.placed in
    let mark : c.len-mark.result ≡ length front = omega (arith, c.len-mark.ensures, c.args.changes.now.ok.0) in
    let fault = c.in_err-put_changes.field-0.0 in
    handed _ c.from_residual-in_err-put_changes.result fault c.from_residual-in_err-put_changes.ensures.1 (λ m n gone rest next held w fit.
    let waits = placed_waits d h c.args.object.now c.args.done (V.view old).keys (V.holds old) front all c.in_ok-ahead.ahead c.requires.so_far adds c.in_ok-ahead.ensures.low c.in_ok-ahead.ensures.gap (V.view old).shape.most m gone rest next n held w at.front own kept.0 at.parted kept.1 (ap (λ (v : VaultView). v.shape.most) stays.same) mark at.place in
    stopped_put (V.holds c.put_changes.new.vault) (V.view old).shape.parts m d h (changed n at.front) (new_keys (V.view mid).keys own) (V.view mid).free c.in_ok-make_place.ensures.room fault
    (subst (λ (cs : List Change). IsFullFor (new_keys (V.view mid).keys cs) (V.view mid).free fault) c.deref.ensures.value c.in_err-put_changes.ensures.full) c.in_err-put_changes.ensures.bad
    (λ not. (c.in_err-put_changes.ensures.refused_holds not (changed n at.front)).0 (at.made n ((stays.held n).0 held))) waits.held)

pub returns-in_err-put_changes-clause-during : goal.returns-in_err-put_changes-clause-during
returns-in_err-put_changes-clause-during g c m n gone rest next held w0 =
    let V = g.V.Vault in
    let old = c.args.vault.now in
    let h = c.args.objects.now in
    let d = closing c.args.units.now h in
    let front = c.args.changes.now.items in
    let all = c.add_next.new.into.items in
    let own = c.make_place.new.changes.items in
    let adds = c.in_ok-ahead.ensures.adds in
    let kept = c.in_ok-ahead.ensures.kept in
    let stays = c.add_next.ensures.stays in
    let at = c.in_ok-make_place.ensures.placed in
    let mark : c.len-mark.result ≡ length front = omega (arith, c.len-mark.ensures, c.args.changes.now.ok.0) in
    let waits = placed_waits d h c.args.object.now c.args.done (V.view old).keys (V.holds old) front all c.in_ok-ahead.ahead c.requires.so_far adds c.in_ok-ahead.ensures.low c.in_ok-ahead.ensures.gap (V.view old).shape.most m gone rest next n held w0 at.front own kept.0 at.parted kept.1 (ap (λ (v : VaultView). v.shape.most) stays.same) mark at.place in
    let first =
    front_left V.view V.holds V.leaves old c.add_next.new.vault c.make_place.new.vault stays (IsLeft (V.view old).shape.most m d h) (V.view old).shape.most n front (take c.len-mark.result all)
    (mark_front front all kept.0 c.len-mark.result kept.1 mark) refl w0.left (c.make_place.ensures.during n ((stays.held n).0 held)) in
    let shape = ap (λ (s : VaultShape). s.most) c.make_place.ensures.shape ∙ ap (λ (v : VaultView). v.shape.most) stays.same in
    others_left V.view V.leaves c.make_place.new.vault c.put_changes.new.vault (IsLeft (V.view old).shape.most m d h) (V.view old).shape.most (V.view old).moment (changed n at.front) own c.deref.result.now first c.deref.ensures.value shape waits.left
    c.put_changes.ensures.past (c.put_changes.ensures.during (changed n at.front) (at.made n ((stays.held n).0 held)))

pub returns-clause-so_far : goal.returns-clause-so_far
returns-clause-so_far g c =
    let V = g.V.Vault in
    let old = c.args.vault.now in
    let read = c.add_next.new.vault in
    let mid = c.make_place.new.vault in
    let h = c.args.objects.now in
    let d = closing c.args.units.now h in
    let o = c.args.object.now in
    let front = c.args.changes.now.items in
    let all = c.add_next.new.into.items in
    let own = c.make_place.new.changes.items in
    let adds = c.in_ok-ahead.ensures.adds in
    let kept = c.in_ok-ahead.ensures.kept in
    let stays = c.add_next.ensures.stays in
    let at = c.in_ok-make_place.ensures.placed in
    let mark : c.len-mark.result ≡ length front = omega (arith, c.len-mark.ensures, c.args.changes.now.ok.0) in
    let now = c.if-ahead.vault in
    elim c.if-ahead.branch [
      | then-ahead+in_ok-put_changes w ↦
          let made : (x : Content) → V.holds now x → (n : Content) × (V.holds old n × (x ≡ changed n all)) =
          λ x held.
          let last = w.in_ok-put_changes.ensures.told x (subst (λ (v : g.row.V.Denot). V.holds v x) w.vault-is held) in
          let first = at.told last.0 last.1.0 in
          (first.0, ((stays.held first.0).1 first.1.0, made_both first.0 x last.0 at.front own all w.deref.result.now at.parted w.deref.ensures.value first.1.1 last.1.1)) in
          subst (λ (cs : List Change). AreSoFar (V.view now).keys (V.holds now) (parts_at d) o.number.0 cs) (sym (ap (λ (v : Vec Change Global). v.items) w.changes-is ∙ w.clear.ensures.items))
          (all_so_far d h o c.args.done (V.view old).keys (V.holds old) front all c.in_ok-ahead.ahead c.requires.so_far adds c.in_ok-ahead.ensures.low c.in_ok-ahead.ensures.gap (V.holds now) (V.view now).keys c.free-free.ensures.keys made)
      | else-ahead w ↦
          let same : (n : Content) → V.holds mid n → (V.view mid).keys ≡ keys_of n = subst (λ (v : g.row.V.Denot). (n : Content) → V.holds v n → (V.view v).keys ≡ keys_of n) w.vault-is c.free-free.ensures.keys in
          subst (λ (cs : List Change). AreSoFar (V.view now).keys (V.holds now) (parts_at d) o.number.0 cs) (sym (ap (λ (v : Vec Change Global). v.items) w.changes-is))
          (subst (λ (v : g.row.V.Denot). AreSoFar (V.view v).keys (V.holds v) (parts_at d) o.number.0 own) (sym w.vault-is)
          (placed_so_far d h o c.args.done (V.view old).keys (V.holds old) front all c.in_ok-ahead.ahead c.requires.so_far adds c.in_ok-ahead.ensures.low c.in_ok-ahead.ensures.gap V.holds read mid (V.view read).shape.most c.len-mark.result own kept.0 (V.view mid).keys
          w.if-ahead.false kept.1 mark (λ m. (stays.held m).1) same at))
    ]

pub returns-clause-fine : goal.returns-clause-fine
returns-clause-fine g c = λ was x held.
    let V = g.V.Vault in
    let old = c.args.vault.now in
    let h = c.args.objects.now in
    let d = closing c.args.units.now h in
    let o = c.args.object.now in
    let front = c.args.changes.now.items in
    let all = c.add_next.new.into.items in
    let own = c.make_place.new.changes.items in
    let adds = c.in_ok-ahead.ensures.adds in
    let stays = c.add_next.ensures.stays in
    let at = c.in_ok-make_place.ensures.placed in
    let now = c.if-ahead.vault in
    let same = c.free-free.ensures.keys x held in
    elim c.if-ahead.branch [
      | then-ahead+in_ok-put_changes w ↦
          let last = w.in_ok-put_changes.ensures.told x (subst (λ (v : g.row.V.Denot). V.holds v x) w.vault-is held) in
          let first = at.told last.0 last.1.0 in
          let begun = (stays.held first.0).1 first.1.0 in
          made_fine d h o c.args.done (V.view old).keys (V.holds old) front all c.in_ok-ahead.ahead c.requires.so_far adds c.in_ok-ahead.ensures.low c.in_ok-ahead.ensures.gap (c.in_ok-ahead.ensures.fine (was first.0 begun)) first.0 begun all [] (sym (append-nil all)) x
          (made_both first.0 x last.0 at.front own all w.deref.result.now at.parted w.deref.ensures.value first.1.1 last.1.1) (V.view now).keys same
      | else-ahead w ↦
          let first = at.told x (subst (λ (v : g.row.V.Denot). V.holds v x) w.vault-is held) in
          let begun = (stays.held first.0).1 first.1.0 in
          made_fine d h o c.args.done (V.view old).keys (V.holds old) front all c.in_ok-ahead.ahead c.requires.so_far adds c.in_ok-ahead.ensures.low c.in_ok-ahead.ensures.gap (c.in_ok-ahead.ensures.fine (was first.0 begun)) first.0 begun at.front own at.parted x first.1.1 (V.view now).keys same
    ]

pub returns-clause-waits : goal.returns-clause-waits
returns-clause-waits g c m n gone rest next held w0 =
    let V = g.V.Vault in
    let old = c.args.vault.now in
    let h = c.args.objects.now in
    let d = closing c.args.units.now h in
    let o = c.args.object.now in
    let front = c.args.changes.now.items in
    let all = c.add_next.new.into.items in
    let own = c.make_place.new.changes.items in
    let adds = c.in_ok-ahead.ensures.adds in
    let kept = c.in_ok-ahead.ensures.kept in
    let stays = c.add_next.ensures.stays in
    let at = c.in_ok-make_place.ensures.placed in
    let mark : c.len-mark.result ≡ length front = omega (arith, c.len-mark.ensures, c.args.changes.now.ok.0) in
    let waits = placed_waits d h o c.args.done (V.view old).keys (V.holds old) front all c.in_ok-ahead.ahead c.requires.so_far adds c.in_ok-ahead.ensures.low c.in_ok-ahead.ensures.gap (V.view old).shape.most m gone rest next n held w0 at.front own kept.0 at.parted kept.1 (ap (λ (v : VaultView). v.shape.most) stays.same) mark at.place in
    let now = c.if-ahead.vault in
    let shape = ap (λ (s : VaultShape). s.most) c.make_place.ensures.shape ∙ ap (λ (v : VaultView). v.shape.most) stays.same in
    let there = at.made n ((stays.held n).0 held) in
    elim c.if-ahead.branch [
      | then-ahead+in_ok-put_changes w ↦
          let new = w.put_changes.new.vault in
          let x = changed (changed n at.front) own in
          let most : (V.view now).shape.most ≡ (V.view old).shape.most = ap (λ (v : g.row.V.Denot). (V.view v).shape.most) w.vault-is ∙ ap (λ (s : VaultShape). s.most) w.put_changes.ensures.shape ∙ shape in
          let none : c.if-ahead.changes.items ≡ [] = ap (λ (v : Vec Change Global). v.items) w.changes-is ∙ w.clear.ensures.items in (
            x,
            (
              subst (λ (v : g.row.V.Denot). V.holds v x) (sym w.vault-is) (subst (λ (cs : List Change). V.holds new (changed (changed n at.front) cs)) w.deref.ensures.value (w.in_ok-put_changes.ensures.holds (changed n at.front) there)),
              subst (λ (k : ℕ). Waits k m d h (gone ++ o ∷ []) x c.if-ahead.changes.items) (sym most) (subst (λ (cs : List Change). Waits (V.view old).shape.most m d h (gone ++ o ∷ []) x cs) (sym none)
                  (waits_put (V.view old).shape.most m d h (gone ++ o ∷ []) rest (changed n at.front) own (next.all ∙ sym (append_assoc gone (o ∷ []) rest)) waits)),
            ),
          )
      | else-ahead w ↦
          let x = changed n at.front in
          let most : (V.view now).shape.most ≡ (V.view old).shape.most = ap (λ (v : g.row.V.Denot). (V.view v).shape.most) w.vault-is ∙ shape in
          let same : c.if-ahead.changes.items ≡ own = ap (λ (v : Vec Change Global). v.items) w.changes-is in (
            x,
            (
              subst (λ (v : g.row.V.Denot). V.holds v x) (sym w.vault-is) there,
              subst (λ (k : ℕ). Waits k m d h (gone ++ o ∷ []) x c.if-ahead.changes.items) (sym most) (subst (λ (cs : List Change). Waits (V.view old).shape.most m d h (gone ++ o ∷ []) x cs) (sym same) waits),
            ),
          )
    ]

pub returns-clause-fits : goal.returns-clause-fits
returns-clause-fits g c m n gone rest next held w0 =
    let V = g.V.Vault in
    let old = c.args.vault.now in
    let mid = c.make_place.new.vault in
    let h = c.args.objects.now in
    let d = closing c.args.units.now h in
    let front = c.args.changes.now.items in
    let all = c.add_next.new.into.items in
    let adds = c.in_ok-ahead.ensures.adds in
    let kept = c.in_ok-ahead.ensures.kept in
    let stays = c.add_next.ensures.stays in
    let at = c.in_ok-make_place.ensures.placed in
    let mark : c.len-mark.result ≡ length front = omega (arith, c.len-mark.ensures, c.args.changes.now.ok.0) in
    let there = at.made n ((stays.held n).0 held) in
    let parts : (V.view mid).shape.parts ≡ (V.view old).shape.parts = ap (λ (s : VaultShape). s.parts) c.make_place.ensures.shape ∙ ap (λ (v : VaultView). v.shape.parts) stays.same in
    placed_fits d h c.args.object.now c.args.done (V.view old).keys (V.holds old) front all c.in_ok-ahead.ahead c.requires.so_far adds c.in_ok-ahead.ensures.low c.in_ok-ahead.ensures.gap m gone rest next n held w0.next kept.0 kept.1
    at.front c.make_place.new.changes.items (V.view old).shape.most at.parted (ap (λ (v : VaultView). v.shape.most) stays.same) mark at.place (V.view mid).keys (V.view mid).free (V.view old).shape.parts (c.in_ok-make_place.ensures.counted.keys (changed n at.front) there) (c.in_ok-make_place.ensures.counted.sum ∙ parts) c.in_ok-make_place.ensures.room

pub returns-clause-during : goal.returns-clause-during
returns-clause-during g c m n gone rest next held w0 =
    let V = g.V.Vault in
    let old = c.args.vault.now in
    let h = c.args.objects.now in
    let d = closing c.args.units.now h in
    let front = c.args.changes.now.items in
    let all = c.add_next.new.into.items in
    let own = c.make_place.new.changes.items in
    let adds = c.in_ok-ahead.ensures.adds in
    let kept = c.in_ok-ahead.ensures.kept in
    let stays = c.add_next.ensures.stays in
    let at = c.in_ok-make_place.ensures.placed in
    let mark : c.len-mark.result ≡ length front = omega (arith, c.len-mark.ensures, c.args.changes.now.ok.0) in
    let waits = placed_waits d h c.args.object.now c.args.done (V.view old).keys (V.holds old) front all c.in_ok-ahead.ahead c.requires.so_far adds c.in_ok-ahead.ensures.low c.in_ok-ahead.ensures.gap (V.view old).shape.most m gone rest next n held w0 at.front own kept.0 at.parted kept.1 (ap (λ (v : VaultView). v.shape.most) stays.same) mark at.place in
    let first =
    front_left V.view V.holds V.leaves old c.add_next.new.vault c.make_place.new.vault stays (IsLeft (V.view old).shape.most m d h) (V.view old).shape.most n front (take c.len-mark.result all)
    (mark_front front all kept.0 c.len-mark.result kept.1 mark) refl w0.left (c.make_place.ensures.during n ((stays.held n).0 held)) in
    let shape = ap (λ (s : VaultShape). s.most) c.make_place.ensures.shape ∙ ap (λ (v : VaultView). v.shape.most) stays.same in
    let there = at.made n ((stays.held n).0 held) in
    elim c.if-ahead.branch [
      | then-ahead+in_ok-put_changes w ↦
          subst (λ (v : g.row.V.Denot). (t : ℕ) (x : Content) → (V.view old).moment < t → t ≤ (V.view v).moment → V.leaves v t x → IsLeft (V.view old).shape.most m d h x) (sym w.vault-is)
          (others_left V.view V.leaves c.make_place.new.vault w.put_changes.new.vault (IsLeft (V.view old).shape.most m d h) (V.view old).shape.most (V.view old).moment (changed n at.front) own w.deref.result.now first w.deref.ensures.value shape waits.left
          w.put_changes.ensures.past (w.put_changes.ensures.during (changed n at.front) there))
      | else-ahead w ↦
          subst (λ (v : g.row.V.Denot). (t : ℕ) (x : Content) → (V.view old).moment < t → t ≤ (V.view v).moment → V.leaves v t x → IsLeft (V.view old).shape.most m d h x) (sym w.vault-is) first
    ]
