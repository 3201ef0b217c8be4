use Rattle.std.proofs.Common.{ap}
use Rattle.s38_rules.specs.state.Parts.{over_object, profile_part}
use Rattle.s38_objects.proofs.NumberLaws.{object_missing, object_written}
use Rattle.s38_objects.proofs.numbered.set_profile.Goals as goal

pub returns-in-Some : goal.returns-in-Some
returns-in-Some c =
    let o = c.in-Some.object.now in
    let x = record o { body = c.set_profile.new.body } in
    object_written c.args.number (over_object profile_part (λ _. (c.args.special, c.args.limit))) o x c.args.objects.now.entries _ c.in-Some.ensures.value (c.get_mut.follows.holds x).0 (ap (λ b. record o { body = b }) c.set_profile.ensures)

pub returns-in_default : goal.returns-in_default
returns-in_default c =
    object_missing c.args.number (over_object profile_part (λ _. (c.args.special, c.args.limit))) c.args.objects.now.entries _ c.in_default.ensures.value (ap (λ m. m.entries) c.get_mut.follows.holds-at-none)
