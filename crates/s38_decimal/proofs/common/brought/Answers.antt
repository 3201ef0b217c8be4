use Rattle.std.proofs.Common.{◌-◌, ◌∙◌, refl, arith}
use Rattle.std.specs.Int.{w128}
use Rattle.std.proofs.lemmas.Int.{to_z-of_z}
use Rattle.s38_base.specs.Attributes.{digits_of, fraction_of}
use Rattle.s38_decimal.specs.Need.{longer_fraction}
use Rattle.s38_decimal.proofs.Attributes.{IsOf-small}
use Rattle.s38_decimal.proofs.Rooms.{raised_le, top_room}
use Rattle.s38_decimal.proofs.SumLaws.{raised_is}
use Rattle.s38_decimal.proofs.common.brought.Goals as goal

pub raised-requires : goal.raised-requires
raised-requires c =
    let most = longer_fraction c.args.own c.args.other in
    record {
      few = omega (arith, c.longer_fraction-most.ensures, c.requires.room);
      room = top_room c.args.x c.args.x c.longer_fraction-most.result c.fraction-behind.result most (fraction_of c.args.own) refl c.longer_fraction-most.ensures c.fraction-behind.ensures
          (raised_le _ (digits_of c.args.own) (most - fraction_of c.args.own) 38 c.requires.number.digits c.requires.room);
    }

pub returns : goal.returns
returns c =
    to_z-of_z w128 c.raised.result (record { sfits = c.raised.type_inv })
    ∙ raised_is c.raised.result c.args.x c.longer_fraction-most.result c.fraction-behind.result (longer_fraction c.args.own c.args.other) (fraction_of c.args.own) c.raised.ensures
    (IsOf-small c.args.own c.args.x c.requires.number) c.longer_fraction-most.ensures c.fraction-behind.ensures
