use Rattle.std.proofs.Common.{◌≡◌, Bool, List, [], ◌∷◌, ◌++◌, get_or, map, take, ap, subst, sym, ◌∙◌}
use Rattle.std.specs.Prelude.{◌||◌, Option}
use Rattle.std.specs.List.{list_any}
use Rattle.std.specs.List.Sorted.{IsStrictlyIncreasing}
use Rattle.s38_image.specs.Faults.{Group, has_same, header_at}
use Rattle.s38_image.specs.declared.header.Header.{Header}
use Rattle.s38_restart.specs.catalog.Readings.{is_repeated}
use Rattle.s38_restart.specs.catalog.Runs.{number_of}
use Rattle.s38_restart.proofs.catalog.ReadLaws.{has_head, heads_more, map_more, repeat_is}
use Rattle.s38_restart.proofs.catalog.repeats.repeats.Goals as goal

pub loop-group-preserved : goal.loop-group-preserved
loop-group-preserved c =
    let was = c.loop-group.invariant in
    let gs = c.as_slice-group-items.result.now in
    let i = c.loop-group.group-index in
    let g = c.group-item.result in
    let rising = subst (λ (l : List Group). IsStrictlyIncreasing (map number_of l)) (sym c.as_slice-group-items.ensures.groups) c.as_slice-group-items.ensures.rising in
    let b : c.in_ok-is_there.is_there ≡ is_repeated gs g = repeat_is gs i g c.loop-group.names c.header.result c.in_ok-is_there.is_there c.loop-group-test.true rising c.group-item.is was.names c.header.ensures c.in_ok-is_there.ensures.there in
    let one : c.in_ok-is_there.is_there ≡ is_repeated c.args.groups.now (get_or gs i g) = b ∙ ap (λ (l : List Group). is_repeated l g) c.as_slice-group-items.ensures.groups ∙ ap (is_repeated c.args.groups.now) c.group-item.is in
    record {
      names = λ h.
          c.in_ok-is_there.ensures.names h
          ∙ ap (λ (b : Bool). has_same h c.header.result || b) (was.names h)
          ∙ ap (λ (o : Option Header). has_same h o || list_any (has_head h) (take i gs)) (c.header.ensures ∙ ap header_at c.group-item.is)
          ∙ sym (heads_more h gs i g c.loop-group-test.true);
      repeats =
          c.in_ok-push.ensures.items ∙ ap (λ (l : List Bool). l ++ c.in_ok-is_there.is_there ∷ []) was.repeats
          ∙ ap (λ (x : Bool). map (is_repeated c.args.groups.now) (take i gs) ++ x ∷ []) one ∙ map_more (is_repeated c.args.groups.now) gs i g c.loop-group-test.true;
      groups = was.groups;
    }
