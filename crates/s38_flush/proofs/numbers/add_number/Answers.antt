use Rattle.std.proofs.Common.{◌∙◌, ◌++◌, ◌∷◌, ◌≡◌, ◌<◌, ◌≤◌, [], List, ℕ, ap, arith, drop, get_or, length, take}
use Rattle.s38_flush.proofs.NumberLaws.{place_before, place_last, place_on, place_there}
use Rattle.s38_flush.proofs.numbers.add_number.Goals as goal

pub returns-in_ok-insert : goal.returns-in_ok-insert
returns-in_ok-insert c =
    let old = c.args.into.now.items in
    let at = c.loop-at.at in
    let x = c.index-other.result.now in
    let items : c.loop-at.into.items ≡ old = ap (λ v. v.items) c.loop-at.invariant.same in
    let is : x ≡ get_or old at x = c.index-other.ensures ∙ ap (λ (ns : List ℕ). get_or ns at x) items in
    let within : at < length old = omega (arith, c.loop-at-test.true, c.len-at-end.ensures, c.args.into.now.ok.0) in
    c.in_ok-insert.ensures.items ∙ ap (λ (ns : List ℕ). take at ns ++ c.args.number ∷ drop at ns) items
    ∙ place_before c.args.number at x old _ within is c.if-number-other-2.true c.loop-at.invariant.place

pub returns-else-number-other-2 : goal.returns-else-number-other-2
returns-else-number-other-2 c =
    let old = c.args.into.now.items in
    let at = c.loop-at.at in
    let x = c.index-other.result.now in
    let items : c.loop-at.into.items ≡ old = ap (λ v. v.items) c.loop-at.invariant.same in
    let is : x ≡ get_or old at x = c.index-other.ensures ∙ ap (λ (ns : List ℕ). get_or ns at x) items in
    let within : at < length old = omega (arith, c.loop-at-test.true, c.len-at-end.ensures, c.args.into.now.ok.0) in
    let same : c.args.number ≡ x = omega (arith, c.if-number-other.true, c.if-number-other-2.false) in
    items ∙ place_there c.args.number at x old _ within is same c.loop-at.invariant.place

pub loop-at-preserved : goal.loop-at-preserved
loop-at-preserved c =
    let old = c.args.into.now.items in
    let at = c.loop-at.at in
    let x = c.index-other.result.now in
    let items : c.loop-at.into.items ≡ old = ap (λ v. v.items) c.loop-at.invariant.same in
    let is : x ≡ get_or old at x = c.index-other.ensures ∙ ap (λ (ns : List ℕ). get_or ns at x) items in
    let within : at < length old = omega (arith, c.loop-at-test.true, c.len-at-end.ensures, c.args.into.now.ok.0) in
    record {
      same = c.loop-at.invariant.same;
      place = place_on c.args.number at x old _ within is c.if-number-other.false c.loop-at.invariant.place;
    }

pub returns : goal.returns
returns c =
    let old = c.args.into.now.items in
    let at = c.loop-at.at in
    let items : c.loop-at.into.items ≡ old = ap (λ v. v.items) c.loop-at.invariant.same in
    let end : length old ≤ at = omega (arith, c.loop-at-test.false, c.len-at-end.ensures, c.args.into.now.ok.0) in
    c.in_ok-push.ensures.items ∙ ap (λ (ns : List ℕ). ns ++ c.args.number ∷ []) items
    ∙ place_last c.args.number at old _ end c.loop-at.invariant.place
