use Rattle.std.proofs.Common.{◌≡◌, [], drop}
use Rattle.std.specs.Option.{option_map}
use Rattle.s38_create.specs.Parsed.{parsed_from}
use Rattle.s38_create.specs.Said.{said_from, said_of}
use Rattle.s38_create.proofs.operands.said_operands.Given as goal

abbrev pub invariant-loop-class : goal.invariant-loop-class
invariant-loop-class l =
    option_map said_of (parsed_from l.scope.table l.scope.code [] l.classes (option_map (λ t. t.now) l.initial.rest))
    ≡ said_from l.scope.table l.scope.code l.said (drop l.class-index l.classes) (option_map (λ t. t.now) l.rest)
