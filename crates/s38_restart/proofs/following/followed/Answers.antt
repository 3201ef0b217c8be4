use Rattle.std.proofs.Common.{List, ap, drop, length, map, ◌∙◌}
use Rattle.std.proofs.lemmas.List.{take_at}
use Rattle.std.proofs.lemmas.Result.{IfOk-weaker}
use Rattle.s38_restart.specs.catalog.Readings.{object_in_stored}
use Rattle.s38_image.specs.declared.stored.Stored.{Stored}
use Rattle.s38_restart.specs.Restarted.{all_followed, imaged}
use Rattle.s38_restart.proofs.RestartLaws.{followed_objects}
use Rattle.s38_restart.proofs.following.followed.Goals as goal

pub returns : goal.returns
returns c =
    let ss = c.deref_mut.result.now in
    let now = c.follow_all.new.stored in
    let same = take_at now (drop (length now) c.args.stored.items) c.args.stored.len (c.follow_all.auto.stored ∙ c.deref_mut.ensures.len) in
    IfOk-weaker c.objects_of.result _ _
    (λ objects made. made ∙ ap (map object_in_stored) (same ∙ c.in_ok-follow_all.ensures) ∙ followed_objects (imaged ss) ss ∙ ap (λ (l : List Stored). all_followed l) c.deref_mut.ensures.value)
    c.objects_of.ensures
