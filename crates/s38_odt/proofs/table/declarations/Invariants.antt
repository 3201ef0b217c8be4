use Rattle.std.proofs.Common.{◌≡◌, [], length}
use Rattle.s38_odt.specs.Table.{rows_from}
use Rattle.s38_odt.specs.Places.{IsTied}
use Rattle.s38_odt.proofs.table.declarations.Given as goal

abbrev pub invariant-loop-line : goal.invariant-loop-line
invariant-loop-line l = record {
  count : length l.declared.rows.items ≡ length l.yielded;
  tied : IsTied l.declared.places l.declared.rows.items;
  rest : rows_from l.code [] l.lines ≡ rows_from l.code l.declared.rows.items l.line-iterator;
}
