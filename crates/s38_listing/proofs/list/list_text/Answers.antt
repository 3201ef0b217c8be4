use Rattle.std.proofs.Common.{◌≡◌, ◌++◌, ◌∷◌, [], ◌∙◌, List, ap, arith, map, rules, sym}
use Rattle.std.proofs.lemmas.Grind.{common_steps, flat_map-append}
use Rattle.std.specs.List.{flat_map}
use Rattle.std.specs.Map.Iter.{deref}
use Rattle.s38_objects.proofs.KeptLaws.{all_gone, one_more}
use Rattle.s38_listing.specs.Listing.{list_line}
use Rattle.s38_listing.proofs.list.list_text.Goals as goal

pub loop-object-preserved : goal.loop-object-preserved
loop-object-preserved c =
    let o = c.in-Some.object.now in
    let gone = map deref c.loop-object.yielded in
    let last : flat_map list_line (o ∷ []) ≡ list_line o = grind (arith, common_steps) in
    let more = ap (flat_map list_line) (one_more c.loop-object.yielded c.in-Some.object) ∙ flat_map-append list_line gone (o ∷ []) ∙ ap (λ t. flat_map list_line gone ++ t) last in
    c.in_ok-add_line.ensures ∙ ap (λ t. t ++ list_line o) c.loop-object.invariant ∙ sym more

pub returns : goal.returns
returns c =
    let all = all_gone c.args.objects.now.objects c.loop-object.yielded c.into_iter-object-iterator.result c.loop-object.object-iterator c.next.new.self c.next.result (search rules) c.loop-object.yielded_by c.in-None.is c.next.ensures.steps in
    c.into_bytes.ensures ∙ c.loop-object.invariant ∙ ap (flat_map list_line) all
