use Rattle.s38_pages.proofs.Giving.{given_more, given_start, home_within}
use Rattle.s38_pages.proofs.plan.give_back.Goals as goal

pub loop-slot-init : goal.loop-slot-init
loop-slot-init c = record { given = given_start c.args.marks.now }

pub give_back_one-requires : goal.give_back_one-requires
give_back_one-requires c =
    home_within c.args.marks.now c.loop-slot.marks c.args.slots.now c.loop-slot.slot-index _ c.loop-slot-test.true c.requires.marked c.loop-slot.invariant.given

pub loop-slot-preserved : goal.loop-slot-preserved
loop-slot-preserved c = record {
  given =
      given_more c.args.marks.now c.loop-slot.marks c.give_back_one.new.marks c.args.slots.now c.loop-slot.slot-index _ c.loop-slot-test.true c.requires.apart c.requires.marked
      c.loop-slot.invariant.given c.give_back_one.ensures.freed c.give_back_one.ensures.kept;
}
