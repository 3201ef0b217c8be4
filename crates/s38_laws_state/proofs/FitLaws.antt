-- Objects fit one another where one of them becomes another one, is made, or is gone.
use Rattle.std.proofs.Common.{◌+◌, ◌++◌, ◌<◌, ◌≤◌, ◌==◌, ◌∙◌, ◌∷◌, ◌≡◌, ◌≢◌, ◌||◌, Bool, List, [], ap, arith, cond, false, refl, subst, sym, true, ℕ}
use Rattle.std.proofs.lemmas.Bool.Decides.{nat_tests}
use Rattle.std.specs.Option.{option_map}
use Rattle.std.specs.Prelude.{None, Option, Some, is_some, nat_lt}
use Rattle.s38_base.specs.Ids.{same_kind}
use Rattle.s38_base.specs.Limits.{ceiling_step, machine_context}
use Rattle.s38_base.specs.declared.id.Kind.TheVariants as kinds
use Rattle.s38_base.specs.declared.id.Kind.{Kind}
use Rattle.s38_base.specs.declared.id.ObjNum.{ObjNum}
use Rattle.s38_rules.proofs.ChargeLaws.{KeepsNumber, change_absent, object_above, object_changed, object_last, object_without}
use Rattle.s38_rules.specs.families.Contexts.{is_at_home}
use Rattle.s38_rules.specs.families.Creation.{is_of_kind}
use Rattle.s38_rules.specs.state.Held.{Held, change, is_named, is_there, kind_of, object, with_object, without}
use Rattle.s38_rules.specs.declared.object.Object.{Object}
use Rattle.s38_laws_images.specs.openings.Fitting.{IsPlaced, IsUser, is_context_or_gone}
use Rattle.s38_laws_state.proofs.RiseLaws.{Rise, rise_changed, rise_last, rise_without, rise_given}
use Rattle.s38_laws_state.proofs.FitTogetherLaws.{AreTold, Fits, some_same, some_none, no_name_back, placed_same}

-- ---- an object becomes another one

module _ (U : ℕ → Type 0) (h : Held) (n : ℕ) (f : Object → Object) (x : Object) (found : object h n ≡ Some x) (keeps : KeepsNumber f) (kind : kind_of (f x).body ≡ kind_of x.body) where
  new_at : (m : ℕ) → object (change h n f) m ≡ cond (n == m) (option_map f (object h m)) (object h m)
  new_at m = object_changed n m f h.objects keeps

  same_number : (m : ℕ) → (n == m) ≡ true → n ≡ m
  same_number m h = grind (arith, nat_tests)

  -- another one in its place
  here : (m : ℕ) → (n == m) ≡ true → object (change h n f) m ≡ Some (f x)
  here m own =
      new_at m ∙ ap (λ b. cond b (option_map f (object h m)) (object h m)) own ∙ ap (option_map f) (subst (λ (k : ℕ). object h k ≡ Some x) (same_number m own) found)

  elsewhere : (m : ℕ) → (n == m) ≡ false → object (change h n f) m ≡ object h m
  elsewhere m other = new_at m ∙ ap (λ b. cond b (option_map f (object h m)) (object h m)) other

  -- what is told of each kind stays
  told_same : (g : Option Object → Bool) → g (Some (f x)) ≡ g (Some x) → (m : ℕ) → g (object (change h n f) m) ≡ g (object h m)
  told_same g same m = by (n == m) refl
    where
      by : (b : Bool) → (n == m) ≡ b → g (object (change h n f) m) ≡ g (object h m)
      by true own = ap g (here m own) ∙ same ∙ sym (ap g (subst (λ (k : ℕ). object h k ≡ Some x) (same_number m own) found))
      by false other = ap g (elsewhere m other)

  pub change_fits : IsPlaced h (f x) → (is_there h (f x).context.0 ≡ true → (m : ℕ) (y : Object) → object h m ≡ Some y → n ≢ m → is_named (f x).context.0 (f x).id y ≡ false) → Fits U h → Fits U (change h n f)
  change_fits placed free fits = record {
    rise = rise_changed h.next n f h.objects keeps fits.rise;
    unused = unused_by (n == 0) refl;
    next = fits.next;
    below = fits.below;
    told = told;
    each = each;
    machine = kinds_same kinds.Context machine_context ∙ fits.machine;
    users = λ u used. kinds_same kinds.Profile u ∙ fits.users u used;
  }
    where
      kinds_same : (k : Kind) (m : ℕ) → is_of_kind k (object (change h n f) m) ≡ is_of_kind k (object h m)
      kinds_same k m = told_same (is_of_kind k) (ap (same_kind k) kind) m

      unused_by : (b : Bool) → (n == 0) ≡ b → object (change h n f) 0 ≡ None
      unused_by true own = absurd (some_none x (sym (subst (λ (k : ℕ). object h k ≡ Some x) (same_number 0 own) found) ∙ fits.unused))
      unused_by false other = elsewhere 0 other ∙ fits.unused

      moved : (o : Object) → IsPlaced h o → IsPlaced (change h n f) o
      moved o was = placed_same h (change h n f) o refl (kinds_same kinds.Profile o.owner.0 ∙ was.owner) (told_same is_context_or_gone (ap (same_kind kinds.Context) kind) o.context.0 ∙ was.context) was

      each : (m : ℕ) (o : Object) → object (change h n f) m ≡ Some o → IsPlaced (change h n f) o
      each m o at = by (n == m) refl
        where
          by : (b : Bool) → (n == m) ≡ b → IsPlaced (change h n f) o
          by true own = subst (IsPlaced (change h n f)) (some_same (f x) o (sym (here m own) ∙ at)) (moved (f x) placed)
          by false other = moved o (fits.each m o (sym (elsewhere m other) ∙ at))

      there_same : (m : ℕ) → is_there (change h n f) m ≡ true → is_there h m ≡ true
      there_same m there = sym (told_same is_some refl m) ∙ there

      apart : (a b : ℕ) → (n == a) ≡ true → (n == b) ≡ true → a ≢ b → ⊥
      apart a b p q away = away (sym (same_number a p) ∙ same_number b q)

      off : (m : ℕ) → (n == m) ≡ false → n ≢ m
      off m h same = absurd (grind (arith, nat_tests))

      told : AreTold (change h n f)
      told a b y z at to away there = by (n == a) refl (n == b) refl
        where
          by : (p : Bool) → (n == a) ≡ p → (q : Bool) → (n == b) ≡ q → is_named y.context.0 y.id z ≡ false
          by true p true q = absurd (apart a b p q away)
          by true p false q =
              let same = some_same (f x) y (sym (here a p) ∙ at) in
              subst (λ (o : Object). is_named o.context.0 o.id z ≡ false) same
              (free (there_same (f x).context.0 (subst (λ (o : Object). is_there (change h n f) o.context.0 ≡ true) (sym same) there)) b z (sym (elsewhere b q) ∙ to) (off b q))
          by false p true q =
              let same = some_same (f x) z (sym (here b q) ∙ to) in
              subst (λ (o : Object). is_named y.context.0 y.id o ≡ false) same
              (no_name_back (f x) y (λ context. free (subst (λ (c : ℕ). is_there h c ≡ true) (sym context) (there_same y.context.0 there)) a y (sym (elsewhere a p) ∙ at) (off a p)))
          by false p false q = fits.told a b y z (sym (elsewhere a p) ∙ at) (sym (elsewhere b q) ∙ to) away (there_same y.context.0 there)

-- an object that is found by its number and name as before, has the owner that it had, and is of its kind
pub record KeepsHead (f : Object → Object) : Type 0 where
  pub number : KeepsNumber f
  pub context : (o : Object) → (f o).context ≡ o.context
  pub id : (o : Object) → (f o).id ≡ o.id
  pub owner : (o : Object) → (f o).owner ≡ o.owner
  pub kind : (o : Object) → kind_of (f o).body ≡ kind_of o.body

pub head_fits : (U : ℕ → Type 0) (h : Held) (n : ℕ) (f : Object → Object) → KeepsHead f → Fits U h → Fits U (change h n f)
head_fits U h n f keeps fits = by (object h n) refl
  where
    home_same : (x : Object) → is_at_home (Some (f x)) ≡ is_at_home (Some x)
    home_same x = ap (λ (k : Kind). same_kind kinds.Context k || same_kind kinds.Profile k) (keeps.kind x)

    by : (o : Option Object) → object h n ≡ o → Fits U (change h n f)
    by None none = subst (λ (os : List Object). Fits U (record h { objects = os })) (sym (change_absent n f h.objects none)) fits
    by (Some x) found =
        let was = fits.each n x found in
        change_fits U h n f x found keeps.number (keeps.kind x)
        (record {
          owner = subst (λ (u : ObjNum). IsUser h u.0) (sym (keeps.owner x)) was.owner;
          context = subst (λ (c : ObjNum). is_context_or_gone (object h c.0) ≡ true) (sym (keeps.context x)) was.context;
          given = subst (λ (c : ObjNum). c.0 < h.next) (sym (keeps.context x)) was.given;
          home = λ at. subst (λ (c : ObjNum). c.0 ≡ machine_context) (sym (keeps.context x)) (was.home (sym (home_same x) ∙ at));
        })
        (λ there m y at away.
        subst (λ (c : ObjNum). is_named c.0 (f x).id y ≡ false) (sym (keeps.context x))
        (subst (λ i. is_named x.context.0 i y ≡ false) (sym (keeps.id x))
        (fits.told n m x y found at away (subst (λ (c : ObjNum). is_there h c.0 ≡ true) (keeps.context x) there)))) fits

-- ---- an object is made

module _ (U : ℕ → Type 0) (h : Held) (o : Object) (number : o.number.0 ≡ h.next) where
  pub made_fits : IsPlaced h o → (is_there h o.context.0 ≡ true → (m : ℕ) (y : Object) → object h m ≡ Some y → is_named o.context.0 o.id y ≡ false) → Fits U h → Fits U (with_object h o)
  made_fits placed free fits = record {
    rise = subst (λ (n : ℕ). Rise (n + 1) (h.objects ++ o ∷ [])) number (rise_last o h.objects (subst (λ (n : ℕ). Rise n h.objects) (sym number) fits.rise));
    unused = unused_by (h.next == 0) refl;
    next = omega (arith, fits.next);
    below = raised (nat_lt h.ceiling h.next) refl;
    told = told;
    each = each;
    machine = kept kinds.Context machine_context fits.machine;
    users = λ u used. kept kinds.Profile u (fits.users u used);
  }
    where
      new : Held
      new = with_object h o

      -- the ceiling rises before a number above it is given
      raised : (b : Bool) → nat_lt h.ceiling h.next ≡ b → h.next + 1 ≤ cond b (h.ceiling + ceiling_step) h.ceiling + 1
      raised true less = omega (arith, fits.below)
      raised false more = under h.ceiling h.next more
        where
          under : (ceiling next : ℕ) → nat_lt ceiling next ≡ false → next + 1 ≤ ceiling + 1
          under ceiling next off = grind (arith, nat_tests)

      none_there : object h h.next ≡ None
      none_there = object_above h.next h.next h.objects (rise_given h.next h.objects fits.rise) (omega arith)

      new_at : (m : ℕ) → object new m ≡ cond (h.next == m) (Some o) (object h m)
      new_at m =
          object_last m o h.objects (subst (λ (n : ℕ). object h n ≡ None) (sym number) none_there) ∙ ap (λ (n : ℕ). cond (n == m) (Some o) (object h m)) number

      here : (m : ℕ) → (h.next == m) ≡ true → object new m ≡ Some o
      here m own = new_at m ∙ ap (λ b. cond b (Some o) (object h m)) own

      elsewhere : (m : ℕ) → (h.next == m) ≡ false → object new m ≡ object h m
      elsewhere m other = new_at m ∙ ap (λ b. cond b (Some o) (object h m)) other

      same_number : (m : ℕ) → (h.next == m) ≡ true → h.next ≡ m
      same_number m h = grind (arith, nat_tests)

      lower : (m : ℕ) → m < h.next → (h.next == m) ≡ false
      lower m low = grind (arith, nat_tests, low)

      unused_by : (b : Bool) → (h.next == 0) ≡ b → object new 0 ≡ None
      unused_by true own = absurd (by h.next (same_number 0 own) fits.next)
        where
          by : (n : ℕ) → n ≡ 0 → 1 ≤ n → ⊥
          by n is some = omega (arith, is, some)
      unused_by false other = elsewhere 0 other ∙ fits.unused

      kept : (k : Kind) (m : ℕ) → is_of_kind k (object h m) ≡ true → is_of_kind k (object new m) ≡ true
      kept k m is = by (h.next == m) refl
        where
          false_true : false ≡ true → ⊥
          false_true g = cc

          by : (b : Bool) → (h.next == m) ≡ b → is_of_kind k (object new m) ≡ true
          by true own = absurd (false_true (sym (ap (is_of_kind k) (subst (λ (n : ℕ). object h n ≡ None) (same_number m own) none_there)) ∙ is))
          by false other = ap (is_of_kind k) (elsewhere m other) ∙ is

      moved : (x : Object) → IsPlaced h x → IsPlaced new x
      moved x was = record {
        owner = kept kinds.Profile x.owner.0 was.owner;
        context = ap is_context_or_gone (elsewhere x.context.0 (lower x.context.0 was.given)) ∙ was.context;
        given = omega (arith, was.given);
        home = was.home;
      }

      -- what is placed as it should be says a context that was there, if it is there now
      there_before : (x : Object) → IsPlaced h x → is_there new x.context.0 ≡ true → is_there h x.context.0 ≡ true
      there_before x was there = sym (ap is_some (elsewhere x.context.0 (lower x.context.0 was.given))) ∙ there

      each : (m : ℕ) (x : Object) → object new m ≡ Some x → IsPlaced new x
      each m x at = by (h.next == m) refl
        where
          by : (b : Bool) → (h.next == m) ≡ b → IsPlaced new x
          by true own = subst (IsPlaced new) (some_same o x (sym (here m own) ∙ at)) (moved o placed)
          by false other = moved x (fits.each m x (sym (elsewhere m other) ∙ at))

      told : AreTold new
      told a b y z at to away there = by (h.next == a) refl (h.next == b) refl
        where
          by : (p : Bool) → (h.next == a) ≡ p → (q : Bool) → (h.next == b) ≡ q → is_named y.context.0 y.id z ≡ false
          by true p true q = absurd (away (sym (same_number a p) ∙ same_number b q))
          by true p false q =
              let same = some_same o y (sym (here a p) ∙ at) in
              subst (λ (x : Object). is_named x.context.0 x.id z ≡ false) same
              (free (there_before o placed (subst (λ (x : Object). is_there new x.context.0 ≡ true) (sym same) there)) b z (sym (elsewhere b q) ∙ to))
          by false p true q =
              let same = some_same o z (sym (here b q) ∙ to) in
              let found = sym (elsewhere a p) ∙ at in
              let was = there_before y (fits.each a y found) there in
              subst (λ (x : Object). is_named y.context.0 y.id x ≡ false) same
              (no_name_back o y (λ context. free (subst (λ (c : ℕ). is_there h c ≡ true) (sym context) was) a y found))
          by false p false q =
              let found = sym (elsewhere a p) ∙ at in
              fits.told a b y z found (sym (elsewhere b q) ∙ to) away (there_before y (fits.each a y found) there)

-- ---- an object is gone

module _ (U : ℕ → Type 0) (h : Held) (n : ℕ) where
  pub gone_fits : n ≢ machine_context → ((m : ℕ) (y : Object) → object h m ≡ Some y → y.owner.0 ≡ n → m ≡ n) → (U n → ⊥) → Fits U h → Fits U (without h n)
  gone_fits machine owners unused fits = record {
    rise = rise_without h.next n h.objects fits.rise;
    unused = gone_or 0 fits.unused;
    next = fits.next;
    below = fits.below;
    told = told;
    each = each;
    machine = ap (is_of_kind kinds.Context) (elsewhere machine_context (off machine_context machine)) ∙ fits.machine;
    users = λ u used. ap (is_of_kind kinds.Profile) (elsewhere u (off u (λ same. unused (subst U (sym same) used)))) ∙ fits.users u used;
  }
    where
      new : Held
      new = without h n

      new_at : (m : ℕ) → object new m ≡ cond (n == m) None (object h m)
      new_at m = object_without n m h.objects

      elsewhere : (m : ℕ) → (n == m) ≡ false → object new m ≡ object h m
      elsewhere m other = new_at m ∙ ap (λ b. cond b None (object h m)) other

      off : (m : ℕ) → n ≢ m → (n == m) ≡ false
      off m away = by (n == m) refl
        where
          by : (b : Bool) → (n == m) ≡ b → b ≡ false
          by true same = absurd (away (grind (arith, nat_tests)))
          by false other = refl

      gone_or : (m : ℕ) → object h m ≡ None → object new m ≡ None
      gone_or m none = new_at m ∙ by (n == m) (object h m) none
        where
          by : (b : Bool) (r : Option Object) → r ≡ None → cond b None r ≡ None
          by true r e = refl
          by false r e = e

      -- what is found was found, and is not the one that is gone
      was_found : (m : ℕ) (x : Object) → object new m ≡ Some x → (object h m ≡ Some x) × (n ≢ m)
      was_found m x at = by (n == m) refl
        where
          by : (b : Bool) → (n == m) ≡ b → (object h m ≡ Some x) × (n ≢ m)
          by true same = absurd (some_none x (sym at ∙ new_at m ∙ ap (λ b. cond b None (object h m)) same))
          by false other = (sym (elsewhere m other) ∙ at, λ same. absurd (grind (arith, nat_tests)))

      context_still : (m : ℕ) → is_context_or_gone (object h m) ≡ true → is_context_or_gone (object new m) ≡ true
      context_still m is = ap is_context_or_gone (new_at m) ∙ by (n == m)
        where
          by : (b : Bool) → is_context_or_gone (cond b None (object h m)) ≡ true
          by true = refl
          by false = is

      each : (m : ℕ) (x : Object) → object new m ≡ Some x → IsPlaced new x
      each m x at =
          let found = was_found m x at in
          let was = fits.each m x found.0 in
          record {
            owner = ap (is_of_kind kinds.Profile) (elsewhere x.owner.0 (off x.owner.0 (λ same. found.1 (sym (owners m x found.0 (sym same)))))) ∙ was.owner;
            context = context_still x.context.0 was.context;
            given = was.given;
            home = was.home;
          }

      there_before : (m : ℕ) → is_there new m ≡ true → is_there h m ≡ true
      there_before m there = by (n == m) (object h m) (sym (ap is_some (new_at m)) ∙ there)
        where
          by : (b : Bool) (r : Option Object) → is_some (cond b None r) ≡ true → is_some r ≡ true
          by true r e = cc
          by false r e = e

      told : AreTold new
      told a b y z at to away there = fits.told a b y z (was_found a y at).0 (was_found b z to).0 away (there_before y.context.0 there)
