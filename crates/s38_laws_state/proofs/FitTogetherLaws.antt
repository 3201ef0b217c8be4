-- Objects that fit one another, found by their numbers.
use Rattle.std.proofs.Common.{◌+◌, ◌<◌, ◌≤◌, ◌≡◌, ◌≢◌, Bool, false, refl, subst, sym, true, ℕ}
use Rattle.std.specs.Prelude.{None, Some}
use Rattle.s38_base.specs.Limits.{machine_context}
use Rattle.s38_base.specs.declared.id.Kind.TheVariants as kinds
use Rattle.s38_objects.proofs.NameLaws.{in_that_context, named_other_way}
use Rattle.s38_rules.specs.families.Creation.{is_of_kind}
use Rattle.s38_rules.specs.state.Held.{Held, is_named, is_there, object}
use Rattle.s38_rules.specs.declared.object.Object.{Object}
use Rattle.s38_laws_images.specs.openings.Fitting.{IsPlaced, IsUser, is_context_or_gone}
use Rattle.s38_laws_state.proofs.RiseLaws.{Rise}

-- no two objects of a context that is there have one identification
abbrev pub AreTold : Held → Type 0
AreTold h = (n m : ℕ) (x y : Object) → object h n ≡ Some x → object h m ≡ Some y → n ≢ m → is_there h x.context.0 ≡ true → is_named x.context.0 x.id y ≡ false

-- objects fit one another, and these users are there
pub record Fits (U : ℕ → Type 0) (h : Held) : Type 0 where
  pub rise : Rise h.next h.objects
  pub unused : object h 0 ≡ None
  pub next : 1 ≤ h.next
  pub below : h.next ≤ h.ceiling + 1
  pub told : AreTold h
  pub each : (n : ℕ) (o : Object) → object h n ≡ Some o → IsPlaced h o
  pub machine : is_of_kind kinds.Context (object h machine_context) ≡ true
  pub users : (u : ℕ) → U u → IsUser h u

-- the same with other users, who are there
pub other_users : (U V : ℕ → Type 0) (h : Held) → ((u : ℕ) → V u → IsUser h u) → Fits U h → Fits V h
other_users U V h there fits = record {
  rise = fits.rise;
  unused = fits.unused;
  next = fits.next;
  below = fits.below;
  told = fits.told;
  each = fits.each;
  machine = fits.machine;
  users = there;
}

pub some_same : (x y : Object) → Some x ≡ Some y → x ≡ y
some_same x y h = cc

pub some_none : (x : Object) → Some x ≡ None → ⊥
some_none x h = cc

pub true_false : (b : Bool) → b ≡ true → b ≡ false → ⊥
true_false b h g = cc

-- where an object has no name of another one, the other has none of its own
pub no_name_back : (o x : Object) → (o.context.0 ≡ x.context.0 → is_named o.context.0 o.id x ≡ false) → is_named x.context.0 x.id o ≡ false
no_name_back o x free = by (is_named x.context.0 x.id o) refl
  where
    by : (b : Bool) → is_named x.context.0 x.id o ≡ b → b ≡ false
    by true is = absurd (true_false (is_named o.context.0 o.id x) (named_other_way o x is) (free (in_that_context o x.context.0 x.id is)))
    by false is = refl

pub placed_same : (h k : Held) (o : Object) → k.next ≡ h.next → is_of_kind kinds.Profile (object k o.owner.0) ≡ true → is_context_or_gone (object k o.context.0) ≡ true → IsPlaced h o → IsPlaced k o
placed_same h k o next owner context placed = record { owner = owner; context = context; given = subst (λ (n : ℕ). o.context.0 < n) (sym next) placed.given; home = placed.home }
