-- User profiles: made, changed and destroyed. Each needs the special authority over profiles.
use Rattle.std.specs.Prelude.{ℕ, ◌==◌, Bool, false, not, ◌&&◌, ◌||◌, ◌+◌, List, min, Option, Some, None, bit_and}
use Rattle.std.specs.List.{list_any}
use Rattle.s38_base.specs.declared.exception.Exception.{Exception}
use Rattle.s38_base.specs.declared.id.Kind.TheVariants as kinds
use Rattle.s38_base.specs.declared.op.Op.{Op}
use Rattle.s38_base.specs.declared.op.Op.TheVariants.{Crtup, Modup, Desup}
use Rattle.s38_base.specs.declared.rights.Special.{Special}
use Rattle.s38_base.specs.declared.words.Category.TheVariants.{Change}
use Rattle.s38_base.specs.Exceptions as exceptions
use Rattle.s38_base.specs.RightNames as rights
use Rattle.s38_base.specs.Signals.{fails}
use Rattle.s38_code.specs.declared.operand.Operand.{Operand}
use Rattle.s38_rules.specs.declared.creating.Creating.{Creating}
use Rattle.s38_rules.specs.declared.need.Need.{Need}
use Rattle.s38_rules.specs.declared.need.Sought.TheVariants.{Of}
use Rattle.s38_rules.specs.declared.object.Body.{Body}
use Rattle.s38_rules.specs.declared.object.Body.TheVariants as bodies
use Rattle.s38_rules.specs.declared.object.Object.{Object}
use Rattle.s38_rules.specs.declared.process.ProcessEntry.{ProcessEntry}
use Rattle.s38_rules.specs.declared.process.Started.{Started}
use Rattle.s38_rules.specs.ask.Authority.{is_profile}
use Rattle.s38_rules.specs.families.Changes.{Changes, Gone, Made, Profiled}
use Rattle.s38_rules.specs.families.Creation.{creation_fails, creation_gives, destruction_needs, machine_needs, of_machine}
use Rattle.s38_rules.specs.state.Held.{Held, object}
use Rattle.s38_rules.specs.families.Instruction.{Instruction, inert}
use Rattle.s38_rules.specs.ask.Needs.{on_object}
use Rattle.s38_rules.specs.ask.Operands.{target, whole_at, word_at}
use Rattle.s38_rules.specs.state.State.{State}
use Rattle.s38_rules.specs.ask.Users.{user_of}

-- ---- what is said of a user

-- the security officer
abbrev pub officer : ℕ
officer = 2

-- a word of special authorities: its two bits
abbrev pub specials_at : List Operand → ℕ → Special
specials_at ops k = record { 0 = bit_and (word_at ops k) (rights.allobj + rights.profile) }

-- how many pages a user may own
abbrev pub limit_at : List Operand → ℕ → ℕ
limit_at ops k = min (whole_at ops k) 4294967295

-- ---- CRTUP

abbrev pub new_profile : Held → List Operand → Creating
new_profile h ops = of_machine kinds.Profile rights.no_rights h ops

abbrev pub profile_body : List Operand → Body
profile_body ops = bodies.Profile (specials_at ops 3) (limit_at ops 4)

unfoldable pub crtup_fails : State → ℕ → List Operand → Option Exception
crtup_fails s p ops = creation_fails s.held (user_of s p) (new_profile s.held ops) None

abbrev pub crtup_changes : State → ℕ → List Operand → Changes
crtup_changes s p ops = Made (user_of s p) (new_profile s.held ops) (Some (profile_body ops))

abbrev pub crtup : Instruction
crtup = record inert {
  needs = λ s p d r. machine_needs;
  special = λ s p d r. rights.profile;
  fails = λ s p d r. crtup_fails s p r.operands;
  gives = λ s p d r. Some (creation_gives s.held (new_profile s.held r.operands));
  changes = λ s p d r. crtup_changes s p r.operands;
}

-- ---- MODUP

-- the profile is changed, and no right on it is asked
unfoldable pub modup_needs : List Need
modup_needs = on_object 1 (Of kinds.Profile) rights.no_rights (Some Change)

-- the security officer stays as it is
unfoldable pub modup_fails : Held → List Operand → Option Exception
modup_fails h ops = fails (target h ops 1 == officer) exceptions.object_in_use 1

-- both special authorities and limit
abbrev pub modup_changes : Held → List Operand → Changes
modup_changes h ops = Profiled (target h ops 1) (specials_at ops 2) (limit_at ops 3)

abbrev pub modup : Instruction
modup = record inert {
  needs = λ s p d r. modup_needs;
  special = λ s p d r. rights.profile;
  fails = λ s p d r. modup_fails s.held r.operands;
  changes = λ s p d r. modup_changes s.held r.operands;
}

-- ---- DESUP

abbrev pub owns : ℕ → Object → Bool
owns user o = o.owner.0 == user

abbrev pub is_profile_in : Option Object → Bool
is_profile_in None = false
is_profile_in (Some o) = is_profile o.body

-- it is a user, and owns an object
abbrev pub is_owner : Held → ℕ → Bool
is_owner h user = is_profile_in (object h user) && list_any (owns user) h.objects

abbrev pub is_user : ℕ → Option Started → Bool
is_user user None = false
is_user user (Some p) = p.user.0 == user

-- it has started for the user, and not ended
abbrev pub is_live : ℕ → ProcessEntry → Bool
is_live user x = not x.ended && is_user user x.started

-- the security officer stays, and so does a user that owns an object or has a live process
abbrev pub is_needed : State → ℕ → Bool
is_needed s user = (user == officer) || (is_owner s.held user || list_any (is_live user) s.processes)

unfoldable pub desup_fails : State → List Operand → Option Exception
desup_fails s ops = fails (is_needed s (target s.held ops 1)) exceptions.object_in_use 1

abbrev pub desup : Instruction
desup = record inert {
  needs = λ s p d r. destruction_needs kinds.Profile;
  special = λ s p d r. rights.profile;
  fails = λ s p d r. desup_fails s r.operands;
  changes = λ s p d r. Gone kinds.Profile (target s.held r.operands 1);
}

-- ---- the family

unfoldable pub profiles_row : Op → Instruction
profiles_row Crtup = crtup
profiles_row Modup = modup
profiles_row Desup = desup
profiles_row _ = inert
