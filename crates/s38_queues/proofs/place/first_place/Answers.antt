use Rattle.std.proofs.Common.{sym, ◌∙◌, subst}
use Rattle.s38_queues.specs.Places.{IsFirstOf, is_from, place_fits}
use Rattle.s38_queues.proofs.PlaceLaws.{none_fits, pass_above, pass_none, pass_same, place, this_fits}
use Rattle.s38_queues.proofs.place.first_place.Goals as goal

pub returns-in_err-same : goal.returns-in_err-same
returns-in_err-same c =
    let places = c.args.places.now in
    let relation = c.args.relation in
    let key = c.args.key.now in
    let start = c.new-start.result in
    let same = pass_same places relation key start c.in_ok-below.below c.place_fits.result c.new-start.ensures c.in_ok-below.ensures c.place_fits.ensures c.if-place_fits.false in
    subst (IsFirstOf (place_fits relation key) places) (sym c.from_residual-in_err-same.ensures) (none_fits places relation key (is_from (place start 0)) same c.in_err-same.ensures)

pub returns-then-place_fits-2 : goal.returns-then-place_fits-2
returns-then-place_fits-2 c =
    let places = c.args.places.now in
    let relation = c.args.relation in
    let key = c.args.key.now in
    let start = c.new-start.result in
    let same = pass_same places relation key start c.in_ok-below.below c.place_fits.result c.new-start.ensures c.in_ok-below.ensures c.place_fits.ensures c.if-place_fits.false in
    this_fits places relation key (is_from (place start 0)) c.in_ok-same.same same c.in_ok-same.ensures (sym c.place_fits-2.ensures ∙ c.if-place_fits-2.true)

pub returns-in_err-above : goal.returns-in_err-above
returns-in_err-above c =
    let places = c.args.places.now in
    let relation = c.args.relation in
    let key = c.args.key.now in
    let start = c.new-start.result in
    let same = pass_same places relation key start c.in_ok-below.below c.place_fits.result c.new-start.ensures c.in_ok-below.ensures c.place_fits.ensures c.if-place_fits.false in
    let above = pass_above places relation key start c.args.next c.in_ok-same.same c.place_fits-2.result c.new-start.ensures c.requires.before same c.in_ok-same.ensures c.place_fits-2.ensures c.if-place_fits-2.false in
    subst (IsFirstOf (place_fits relation key) places) (sym c.from_residual-in_err-above.ensures) (none_fits places relation key (is_from (place start c.args.next)) above c.in_err-above.ensures)

pub returns-then-place_fits-3 : goal.returns-then-place_fits-3
returns-then-place_fits-3 c =
    let places = c.args.places.now in
    let relation = c.args.relation in
    let key = c.args.key.now in
    let start = c.new-start.result in
    let same = pass_same places relation key start c.in_ok-below.below c.place_fits.result c.new-start.ensures c.in_ok-below.ensures c.place_fits.ensures c.if-place_fits.false in
    let above = pass_above places relation key start c.args.next c.in_ok-same.same c.place_fits-2.result c.new-start.ensures c.requires.before same c.in_ok-same.ensures c.place_fits-2.ensures c.if-place_fits-2.false in
    this_fits places relation key (is_from (place start c.args.next)) c.in_ok-above.above above c.in_ok-above.ensures (sym c.place_fits-3.ensures ∙ c.if-place_fits-3.true)

pub returns-else-place_fits-3 : goal.returns-else-place_fits-3
returns-else-place_fits-3 c =
    let places = c.args.places.now in
    let relation = c.args.relation in
    let key = c.args.key.now in
    let start = c.new-start.result in
    let same = pass_same places relation key start c.in_ok-below.below c.place_fits.result c.new-start.ensures c.in_ok-below.ensures c.place_fits.ensures c.if-place_fits.false in
    let above = pass_above places relation key start c.args.next c.in_ok-same.same c.place_fits-2.result c.new-start.ensures c.requires.before same c.in_ok-same.ensures c.place_fits-2.ensures c.if-place_fits-2.false in
    pass_none places relation key start c.args.next c.in_ok-above.above c.place_fits-3.result c.new-start.ensures c.requires.before above c.in_ok-above.ensures c.place_fits-3.ensures c.if-place_fits-3.false
