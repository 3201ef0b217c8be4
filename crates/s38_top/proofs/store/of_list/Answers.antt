use Rattle.std.proofs.Common.{refl}
use Rattle.s38_top.proofs.SafeLaws.{keeps_given}
use Rattle.s38_top.proofs.store.of_list.Goals as goal

pub returns-in-Ok-clause-comes : goal.returns-in-Ok-clause-comes
returns-in-Ok-clause-comes g c = (
  refl,
  record {
    objects_are = c.in-Ok.ensures.restarts;
    cleaned = λ s t at is.
        let was = c.in-Ok.ensures.holds s at in
        record { content = was.0; before = was.1.0; after = c.release.ensures.stands _ was.1.1 t is };
  },
)

pub returns-in-Ok-clause-safe : goal.returns-in-Ok-clause-safe
returns-in-Ok-clause-safe g c = keeps_given (g.D.Disk.view c.args.disk) c.in-Ok.field-0.vault.disk (g.D.Disk.view c.release.result) c.release.ensures.disk c.in-Ok.ensures.during
