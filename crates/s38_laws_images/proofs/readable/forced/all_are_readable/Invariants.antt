use Rattle.std.specs.Prelude.{All}
use Rattle.s38_laws_images.specs.readable.Readable.{IsAgain, IsFit}
use Rattle.s38_laws_images.proofs.readable.forced.all_are_readable.Given as goal

-- those that are left are fit, and where they are read again, all are
abbrev pub invariant-loop-object : goal.invariant-loop-object
invariant-loop-object l = All IsFit l.object-iterator × (All IsAgain l.object-iterator → All IsAgain l.objects.objects)
