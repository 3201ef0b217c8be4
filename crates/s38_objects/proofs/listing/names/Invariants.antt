use Rattle.std.proofs.Common.{◌≡◌, [], filter}
use Rattle.std.specs.BTreeMap.{values}
use Rattle.s38_rules.specs.families.ContextLists.{with_listed}
use Rattle.s38_rules.specs.state.Held.{is_in_context}
use Rattle.s38_objects.proofs.listing.names.Given as goal

-- what is in the list, with the objects that are left, is the whole list
abbrev pub invariant-loop-object : goal.invariant-loop-object
invariant-loop-object l = with_listed l.names.entries (filter (is_in_context l.context.0) l.object-iterator) ≡ with_listed [] (filter (is_in_context l.context.0) (values l.objects))
