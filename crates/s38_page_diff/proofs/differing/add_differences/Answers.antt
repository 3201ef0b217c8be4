use Rattle.std.proofs.Common.{◌≡◌, ◌≤◌, ◌+◌, ◌++◌, [], ◌∷◌, ℕ, List, add-one, ap, arith, drop, get_or, refl, subst, sym, ◌∙◌}
use Rattle.std.proofs.Math.Seq.{drop-cons}
use Rattle.std.proofs.lemmas.List.{drop_all}
use Rattle.std.specs.Prelude.{Err, Ok, true, false, IsErrAnd, IsErrOf, Option, Result, None, is_some}
use Rattle.std.specs.FinMap.{contains_key, get}
use Rattle.s38_base.specs.declared.page.Change.{Change}
use Rattle.s38_base.specs.declared.page.Key.{Key}
use Rattle.s38_base.specs.declared.page.Page.{Page}
use Rattle.s38_page_diff.specs.Differences.{HavePages, IsWanted, change_between, differences}
use Rattle.s38_page_diff.specs.declared.fault.FlushFault.{FlushFault}
use Rattle.s38_vault.specs.Vaults.{VaultView}
use Rattle.s38_page_diff.proofs.WantedLaws.{ReadSoFar, all_left, change_left, next_wanted, removals_left, pages_held, read_begun, read_ended, read_on, same_view, wanted_added, wanted_rest}
use Rattle.s38_page_diff.proofs.differing.add_differences.Goals as goal

pub loop-want-init : goal.loop-want-init
loop-want-init g c = record {
  object = refl;
  end = refl;
  wanted = c.requires.wanted;
  capacity = omega arith;
  told = λ m h. refl;
  read = read_begun (g.V.Vault.view c.args.vault.now).keys c.args.range c.args.wanted.now c.args.into.now.items;
  view = refl;
  holds = λ m. ((λ h. h), (λ h. h));
  past = λ t m low. ((λ h. h), (λ h. h));
}

pub loop-want-preserved : goal.loop-want-preserved
loop-want-preserved g c =
    let old = g.V.Vault.view c.args.vault.now in
    let was = c.loop-want.invariant in
    let left = c.loop-want.left in
    let range = c.args.range in
    let wanted = c.args.wanted.now in
    let before = c.args.into.now.items in
    let items = c.loop-want.into.items in
    let between = c.add_removals.new.into.items in
    let new = c.add_if_other.new.into.items in
    let i = c.loop-want.want-index in
    let w = get_or wanted i (record { key = record { object = 0; part = 0 }; page = None }) in
    let ws = drop (i + 1) wanted in
    let is : drop i wanted ≡ w ∷ ws =
    drop-cons wanted i (record { key = record { object = 0; part = 0 }; page = None }) (omega arith)
    ∙ ap (λ (n : ℕ). w ∷ drop n wanted) (sym (add-one i)) in
    let here : IsWanted left (w ∷ ws) = subst (IsWanted left) is was.wanted in
    let removals : (pages : Key → Option Page) → HavePages old.keys pages → between ≡ items ++ differences pages (record left { end = w.key.part }) [] =
    λ pages have. c.in_ok-add_removals.ensures.ok pages (subst (λ (v : VaultView). HavePages v.keys pages) (sym was.view) have) in
    let page = c.in_ok-add_if_other.ensures.read.0 in
    let there : is_some page ≡ contains_key old.keys w.key =
    subst (λ (v : VaultView). is_some page ≡ contains_key v.keys w.key) was.view c.in_ok-add_if_other.ensures.read.1.0 in
    record {
      object = was.object;
      end = was.end;
      wanted = wanted_rest left w ws here;
      capacity = omega (arith, was.capacity, c.add_removals.ensures.capacity, c.add_if_other.ensures.capacity);
      told = λ m h.
          wanted_added items between new _ _ _ _ _ (removals (get m) (pages_held old.keys m (c.free-free.ensures.keys m h)))
          (c.in_ok-add_if_other.ensures.told m ((was.holds m).0 h)) (next_wanted (get m) left w ws here)
          (subst (λ (rest : List Change). items ++ differences (get m) left rest ≡ before ++ differences (get m) range wanted) is (was.told m h));
      read =
          read_on old.keys left range w ws wanted items between new before page
          (subst (λ (rest : List Change). ReadSoFar old.keys left range rest wanted items before) is was.read) here there removals
          c.in_ok-add_if_other.ensures.read.1.1;
      view =
          same_view (g.V.Vault.view c.loop-want.vault) (g.V.Vault.view c.add_if_other.new.vault) c.add_if_other.ensures.stays
          c.in_ok-add_if_other.ensures.count ∙ was.view;
      holds = λ m. ((λ h. (c.add_if_other.ensures.holds m).0 ((was.holds m).0 h)), (λ h. (was.holds m).1 ((c.add_if_other.ensures.holds m).1 h)));
      past = λ t m low.
          let early = subst (λ (v : VaultView). t ≤ v.moment) (sym was.view) low in
          ((λ h. (c.add_if_other.ensures.past t m early).0 ((was.past t m low).0 h)), (λ h. (was.past t m low).1 ((c.add_if_other.ensures.past t m early).1 h)));
    }

pub returns-clause-told : goal.returns-clause-told
returns-clause-told g c = λ m h.
    let old = g.V.Vault.view c.args.vault.now in
    let was = c.loop-want.invariant in
    let left = c.loop-want.left in
    let wanted = c.args.wanted.now in
    let items = c.loop-want.into.items in
    let total = c.args.into.now.items ++ differences (get m) c.args.range wanted in
    let none : drop c.loop-want.want-index wanted ≡ [] = drop_all c.loop-want.want-index wanted (omega arith) in
    let have = subst (λ (v : VaultView). HavePages v.keys (get m)) (sym was.view) (pages_held old.keys m (c.free-free.ensures.keys m h)) in
    let last : c.add_removals-2.new.into.items ≡ items ++ differences (get m) left [] = c.in_ok-add_removals-2.ensures.ok (get m) have in
    ◌∙◌ {A = List Change} last (subst (λ (rest : List Change). items ++ differences (get m) left rest ≡ total) none (was.told m h))

pub returns-clause-read : goal.returns-clause-read
returns-clause-read g c =
    let old = g.V.Vault.view c.args.vault.now in
    let was = c.loop-want.invariant in
    let left = c.loop-want.left in
    let wanted = c.args.wanted.now in
    let items = c.loop-want.into.items in
    let before = c.args.into.now.items in
    let none : drop c.loop-want.want-index wanted ≡ [] = drop_all c.loop-want.want-index wanted (omega arith) in
    read_ended old.keys left c.args.range wanted items c.add_removals-2.new.into.items before
    (subst (λ (rest : List Change). ReadSoFar old.keys left c.args.range rest wanted items before) none was.read)
    (λ pages have. c.in_ok-add_removals-2.ensures.ok pages (subst (λ (v : VaultView). HavePages v.keys pages) (sym was.view) have))

-- the error that is handed on is the one that came
same_error : (r : Result (Unit {0}) FlushFault) (x e : FlushFault) → IsErrAnd r (λ y. y ≡ x) → IsErrOf r e → IsErrOf {T = Unit {0}} (Err x) e
same_error (Ok done) x e one two = absurd one
same_error (Err y) x e one two = cc

pub returns-in_err-add_removals-clause-reserved : goal.returns-in_err-add_removals-clause-reserved
returns-in_err-add_removals-clause-reserved g c = λ fits refused.
    let old = g.V.Vault.view c.args.vault.now in
    let was = c.loop-want.invariant in
    let left = c.loop-want.left in
    let range = c.args.range in
    let wanted = c.args.wanted.now in
    let before = c.args.into.now.items in
    let items = c.loop-want.into.items in
    let i = c.loop-want.want-index in
    let w = get_or wanted i (record { key = record { object = 0; part = 0 }; page = None }) in
    let ws = drop (i + 1) wanted in
    let is : drop i wanted ≡ w ∷ ws =
    drop-cons wanted i (record { key = record { object = 0; part = 0 }; page = None }) (omega arith)
    ∙ ap (λ (n : ℕ). w ∷ drop n wanted) (sym (add-one i)) in
    let here : IsWanted left (w ∷ ws) = subst (IsWanted left) is was.wanted in
    let read : ReadSoFar old.keys left range (w ∷ ws) wanted items before =
    subst (λ (rest : List Change). ReadSoFar old.keys left range rest wanted items before) is was.read in
    let room =
    removals_left items (differences read.pages (record left { end = w.key.part }) []) (change_between w.key (read.pages w.key) w.page)
    (differences read.pages (record left { first = w.key.part + 1 }) ws) (differences read.pages left (w ∷ ws)) before (differences read.pages range wanted)
    (next_wanted read.pages left w ws here) (read.so_far read.pages read.have (λ p low. refl)) in
    let wrong : false ≡ true = c.in_err-add_removals.ensures.reserved read.pages (subst (λ (v : VaultView). HavePages v.keys read.pages) (sym was.view) read.have)
    (omega (arith, room, fits read.pages read.have, was.capacity, c.loop-want.into.ok, c.args.into.now.ok)) in
    cc

pub returns-in_err-add_if_other-clause-reserved : goal.returns-in_err-add_if_other-clause-reserved
returns-in_err-add_if_other-clause-reserved g c = λ fits refused.
    let old = g.V.Vault.view c.args.vault.now in
    let was = c.loop-want.invariant in
    let left = c.loop-want.left in
    let range = c.args.range in
    let wanted = c.args.wanted.now in
    let before = c.args.into.now.items in
    let items = c.loop-want.into.items in
    let between = c.add_removals.new.into.items in
    let i = c.loop-want.want-index in
    let w = get_or wanted i (record { key = record { object = 0; part = 0 }; page = None }) in
    let ws = drop (i + 1) wanted in
    let is : drop i wanted ≡ w ∷ ws =
    drop-cons wanted i (record { key = record { object = 0; part = 0 }; page = None }) (omega arith)
    ∙ ap (λ (n : ℕ). w ∷ drop n wanted) (sym (add-one i)) in
    let here : IsWanted left (w ∷ ws) = subst (IsWanted left) is was.wanted in
    let removals : (pages : Key → Option Page) → HavePages old.keys pages → between ≡ items ++ differences pages (record left { end = w.key.part }) [] =
    λ pages have. c.in_ok-add_removals.ensures.ok pages (subst (λ (v : VaultView). HavePages v.keys pages) (sym was.view) have) in
    let full = c.in_err-add_if_other.ensures.full (same_error _ _ _ c.from_residual-in_err-add_if_other.ensures.1 refused) in
    let page = full.0 in
    let there : is_some page ≡ contains_key old.keys w.key =
    subst (λ (v : VaultView). is_some page ≡ contains_key v.keys w.key) was.view full.1.0 in
    let read =
    read_on old.keys left range w ws wanted items between (between ++ change_between w.key page w.page) before page
    (subst (λ (rest : List Change). ReadSoFar old.keys left range rest wanted items before) is was.read) here there removals refl in
    let room =
    change_left between (differences read.pages (record left { first = w.key.part + 1 }) ws) before (differences read.pages range wanted) w.key page w.page
    full.1.1.0 (read.so_far read.pages read.have (λ p low. refl)) in
    omega (arith, room, fits read.pages read.have, was.capacity, c.add_removals.ensures.capacity, full.1.1.1, c.add_removals.new.into.ok, c.args.into.now.ok)

pub returns-in_err-add_removals-2-clause-reserved : goal.returns-in_err-add_removals-2-clause-reserved
returns-in_err-add_removals-2-clause-reserved g c = λ fits refused.
    let old = g.V.Vault.view c.args.vault.now in
    let was = c.loop-want.invariant in
    let left = c.loop-want.left in
    let range = c.args.range in
    let wanted = c.args.wanted.now in
    let before = c.args.into.now.items in
    let items = c.loop-want.into.items in
    let none : drop c.loop-want.want-index wanted ≡ [] = drop_all c.loop-want.want-index wanted (omega arith) in
    let read : ReadSoFar old.keys left range [] wanted items before =
    subst (λ (rest : List Change). ReadSoFar old.keys left range rest wanted items before) none was.read in
    let room =
    all_left items (differences read.pages left []) before (differences read.pages range wanted) (read.so_far read.pages read.have (λ p low. refl)) in
    let wrong : false ≡ true = c.in_err-add_removals-2.ensures.reserved read.pages (subst (λ (v : VaultView). HavePages v.keys read.pages) (sym was.view) read.have)
    (omega (arith, room, fits read.pages read.have, was.capacity, c.loop-want.into.ok, c.args.into.now.ok)) in
    cc
