-- When a row keeps objects fitting one another, over the users of processes; who may pay is a user.
use Rattle.std.proofs.Common.{◌≤◌, ◌≡◌, List, arith, false, refl, true, ℕ}
use Rattle.std.proofs.lemmas.Bool.Decides.{nat_tests}
use Rattle.std.specs.Prelude.{None, Option, Some, nat_lt, slice_get}
use Rattle.s38_base.specs.Exceptions as exceptions
use Rattle.s38_base.specs.Ids.{same_kind}
use Rattle.s38_base.specs.declared.id.Kind.TheVariants as kinds
use Rattle.s38_code.specs.declared.event.Request.{Request}
use Rattle.s38_code.specs.declared.program.Program.{Program}
use Rattle.s38_rules.proofs.RuleLaws.{fails_none}
use Rattle.s38_rules.specs.families.Creation.{is_of_kind, limit_in, pages_rule}
use Rattle.s38_rules.specs.state.Headers.{limit_of}
use Rattle.s38_rules.specs.state.Held.{Held, kind_of, object}
use Rattle.s38_rules.specs.families.Instruction.{Instruction}
use Rattle.s38_rules.specs.state.State.{State}
use Rattle.s38_rules.specs.step.Verdict.{refused_by}
use Rattle.s38_rules.specs.declared.object.Body.TheVariants as bodies
use Rattle.s38_rules.specs.declared.object.Body.{Body}
use Rattle.s38_rules.specs.declared.object.Object.{Object}
use Rattle.s38_rules.specs.declared.process.ProcessEntry.{ProcessEntry}
use Rattle.s38_rules.specs.declared.process.Started.{Started}
use Rattle.s38_laws_images.specs.openings.Fitting.{IsUser}
use Rattle.s38_laws_state.proofs.FitLaws.{head_fits}
use Rattle.s38_laws_state.proofs.FitTogetherLaws.{Fits}
use Rattle.s38_laws_state.proofs.WordLaws.{May}

-- a process that has started for the user, and has not ended
pub record IsUsed (processes : List ProcessEntry) (user : ℕ) : Type 0 where
  pub at : ℕ
  pub process : ProcessEntry
  pub started : Started
  pub there : slice_get processes at ≡ Some process
  pub of : process.started ≡ Some started
  pub going : process.ended ≡ false
  pub is : started.user.0 ≡ user

-- objects fit one another, and so do the users of a state's processes
abbrev pub FitsIn : State → Held → Type 0
FitsIn s h = Fits (IsUsed s.processes) h

-- where no rule refuses an instruction, the objects still fit one another
abbrev pub MayRow : Instruction → Type 0
MayRow i = (s : State) (p d : ℕ) (t : Request) → FitsIn s s.held → refused_by i s p d t ≡ None → May (FitsIn s) (head_fits (IsUsed s.processes)) s p (i.changes s p d t)

one_page : (x : Option Object) → 1 ≤ limit_in x → is_of_kind kinds.Profile x ≡ true
one_page None h = absurd (omega (arith, h))
one_page (Some o) h = by o.body h
  where
    none : 1 ≤ 0 → ⊥
    none g = omega (arith, g)

    by : (b : Body) → 1 ≤ limit_of b → same_kind kinds.Profile (kind_of b) ≡ true
    by (bodies.Profile special limit) g = refl
    by bodies.Context g = absurd (none g)
    by (bodies.Program x) g = absurd (none g)
    by (bodies.Space x) g = absurd (none g)
    by (bodies.Queue x) g = absurd (none g)
    by (bodies.Index x) g = absurd (none g)
    by (bodies.DataSpace x) g = absurd (none g)
    by (bodies.Cursor x) g = absurd (none g)
    by (bodies.Port x) g = absurd (none g)
    by (bodies.Journal x) g = absurd (none g)
    by (bodies.Block x) g = absurd (none g)

pub pays : (h : Held) (user pages operand : ℕ) → 1 ≤ pages → pages_rule h user pages operand ≡ None → IsUser h user
pays h user pages operand some met = one_page (object h user) (enough (limit_in (object h user)) pages some (fails_none _ exceptions.pages_exceeded operand met))
  where
    enough : (limit pages : ℕ) → 1 ≤ pages → nat_lt limit pages ≡ false → 1 ≤ limit
    enough limit pages one low = grind (arith, nat_tests, one, low)
