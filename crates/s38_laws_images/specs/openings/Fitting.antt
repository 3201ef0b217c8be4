-- When the objects of a machine fit one another: each has an owner that is a user who is there, and is in a context or
-- in none; and no number above the ceiling was given.
use Rattle.std.specs.Prelude.{◌≡◌, ◌+◌, ◌<◌, ◌≤◌, ℕ, Bool, true, All, IsTrue, Option, Some, None}
use Rattle.s38_base.specs.Ids.{same_kind}
use Rattle.s38_base.specs.Limits.{machine_context}
use Rattle.s38_base.specs.declared.id.Kind.TheVariants as kinds
use Rattle.s38_rules.specs.families.Contexts.{is_at_home}
use Rattle.s38_rules.specs.families.Creation.{is_of_kind}
use Rattle.s38_rules.specs.state.Held.{Held, kind_of, object}
use Rattle.s38_rules.specs.declared.object.Object.{Object}

-- the number is that of a user's profile that is there
abbrev pub IsUser : Held → ℕ → Type 0
IsUser h n = IsTrue (is_of_kind kinds.Profile (object h n))

-- an object is a context, if it is there
abbrev pub is_context_or_gone : Option Object → Bool
is_context_or_gone None = true
is_context_or_gone (Some o) = same_kind kinds.Context (kind_of o.body)

pub record IsPlaced (h : Held) (o : Object) : Type 0 where
  -- its owner is a user who is there
  pub owner : IsUser h o.owner.0
  -- what it says to be its context is one, or is gone, or none
  pub context : IsTrue (is_context_or_gone (object h o.context.0))
  pub given : o.context.0 < h.next
  -- contexts and profiles are in the machine context
  pub home : IsTrue (is_at_home (Some o)) → o.context.0 ≡ machine_context

pub record FitTogether (h : Held) : Type 0 where
  pub placed : All (IsPlaced h) h.objects
  -- the machine context is there
  pub machine : IsTrue (is_of_kind kinds.Context (object h machine_context))
  -- no number above the ceiling was given
  pub below : h.next ≤ h.ceiling + 1
