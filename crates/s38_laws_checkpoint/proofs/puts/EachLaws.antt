-- What is true of each object that is kept whole is true of what is kept.
use Rattle.std.proofs.Common.{◌≡◌, ◌∙◌, List, [], ◌∷◌, ◌++◌, refl, sym, subst}
use Rattle.std.proofs.lemmas.List.Elements.{All-from_recursion}
use Rattle.std.specs.List.{AllByRecursion}
use Rattle.std.specs.Option.{option_map}
use Rattle.std.specs.Prelude.{None, Option, Some}
use Rattle.s38_laws_checkpoint.proofs.prefix.MarkLaws.{whole_found}
use Rattle.s38_checkpoint.specs.Closing.{closing}
use Rattle.s38_commits.specs.Units.{UnitMap}
use Rattle.s38_durable_state.specs.Durable.{whole_stored}
use Rattle.s38_image.specs.declared.stored.Stored.{Stored}
use Rattle.s38_laws_flush.proofs.durable.FoundLaws.{found_all}
use Rattle.s38_rules.specs.state.Held.{Held, object}
use Rattle.s38_rules.specs.declared.object.Object.{Object}
use Rattle.s38_flush.specs.Stepping.{HasHeader, HaveHeaders}

pub each_more : (P : Object → Type 0) (os : List Object) (o : Object) → AllByRecursion P os → P o → AllByRecursion P (os ++ o ∷ [])
each_more P [] o each more = (more, tt)
each_more P (x ∷ os) o each more = (each.0, each_more P os o each.1 more)

pub all_have : (units : UnitMap) (h : Held) → AllByRecursion (λ o. HasHeader (whole_stored units h o)) h.objects → HaveHeaders (closing units h)
all_have units h each n x at = by (object h n) refl (sym (whole_found units h h.objects n) ∙ at)
  where
    same : (a b : Stored) → Some a ≡ Some b → a ≡ b
    same a b e = cc

    by : (y : Option Object) → object h n ≡ y → option_map (whole_stored units h) y ≡ Some x → HasHeader x
    by None found e = absurd (let i : None ≡ Some x = e in cc)
    by (Some o) found e =
        subst HasHeader (same (whole_stored units h o) x e)
        (found_all (λ a. HasHeader (whole_stored units h a)) h.objects n o (All-from_recursion (λ a. HasHeader (whole_stored units h a)) h.objects each) found)
