-- Visits change nothing of what is kept of users.
use Rattle.std.proofs.Common.{◌≡◌, ◌≤◌, ℕ, zero, suc, ◌+◌, refl, min, arith}
use Rattle.s38_base.specs.Faults.{counted}
use Rattle.s38_profiles.specs.ProfileMaps.{ProfileMaps}
use Rattle.s38_rules.specs.state.Held.{Held}
use Rattle.s38_rules.specs.state.Kept.{Mirrors}
use Rattle.s38_rights_cache.specs.Numbers.{last_count}
use Rattle.s38_rights_cache.specs.Places.{visited}

pub mirrors_visited : (n : ℕ) (maps : ProfileMaps) (h : Held) → Mirrors maps h → Mirrors (visited n maps) h
mirrors_visited zero maps h m = m
mirrors_visited (suc n) maps h m = mirrors_visited n (record maps { visits = counted maps.visits }) h (record { rows = m.rows; users = m.users; unowned = m.unowned })

-- one visit, and then others
pub visited_then : (n : ℕ) (maps : ProfileMaps) → visited n (visited 1 maps) ≡ visited (suc n) maps
visited_then n maps = refl

-- how many they are then
pub visits_are : (n : ℕ) (maps : ProfileMaps) → maps.visits ≤ last_count → (visited n maps).visits ≡ min (maps.visits + n) last_count
visits_are zero maps low = omega (arith, low)
visits_are (suc n) maps low =
    let next = visits_are n (record maps { visits = counted maps.visits }) (omega arith) in
    omega (arith, low, next)
