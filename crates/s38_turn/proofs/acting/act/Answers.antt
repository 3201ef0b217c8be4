use Rattle.std.proofs.Common.{◌∷◌, Some, ◌∙◌, sym, ap, refl}
use Rattle.atomic_table.specs.Table.{rest}
use Rattle.s38_turn.proofs.acting.act.Goals as goal

pub slot_mut-requires : goal.slot_mut-requires
slot_mut-requires g c = let m = c.requires.machine in (c.requires.table, (Some m.0, m.1 ∙ ap (λ xs. (0, Some m.0) ∷ rest xs) (sym m.1)))

pub returns : goal.returns
returns g c =
    let m = c.requires.machine in
    record {
      before = c.in-Some.machine;
      after = c.ask.new.machine;
      held = c.slot_mut.ensures.value ∙ (λ k. (0, c.in-Some.is k) ∷ rest (m.1 k));
      same = (refl, refl);
      holds = λ k. (c.args.seat.now.me.0, (0, Some c.ask.new.machine) ∷ rest (m.1 k));
      step = c.ask.ensures;
    }
