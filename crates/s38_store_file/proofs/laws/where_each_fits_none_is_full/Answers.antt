use Rattle.std.proofs.Common.{◌≡◌, ◌+◌, ◌<◌, ◌≤◌, ℕ, arith}
use Rattle.s38_store_file.proofs.laws.where_each_fits_none_is_full.Goals as goal

pub returns : goal.returns
returns c size needed free m d h f fits full =
    let at = full.full in
    let room = fits at.gone at.rest at.all full.content at.behind in
    omega (arith, room, at.wanted, at.there, at.short)
