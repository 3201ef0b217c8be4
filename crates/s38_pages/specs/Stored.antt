-- How a vault over a disk is stored as a tree of numbers, so that no two vaults that differ are stored alike.
use Rattle.std.specs.Prelude.{◌≡◌, ◌⊎◌, ℕ, Bool, List, refl}
use mathlib.Core.Logic.{inl, inr}
use Rattle.std.specs.Coded.{Coded, code_by, coded×, coded⊎, coded_bool, coded_list, coded_ℕ}
use Rattle.s38_disk.specs.declared.block.Block.{Block}
use Rattle.s38_disk.specs.declared.block.Call.{Call}
use Rattle.s38_disk.specs.declared.block.Call.TheVariants.{Wrote, Synced}
use Rattle.s38_disk.specs.Disk.{DiskView, Past, Told, Untold}
use Rattle.s38_redo_log.specs.declared.layout.Layout.{Layout}
use Rattle.s38_pages.specs.Index.{Homes}
use Rattle.s38_pages.specs.Vaults.{PageStore, homes_code}

-- ---- a disk

abbrev pub block_code : Coded Block
block_code = code_by (List ℕ) (coded_list coded_ℕ) (λ b. b.bytes) (λ bytes. record { bytes = bytes }) (λ _. refl)

abbrev pub call_cases : Call → (ℕ × Block) ⊎ Bool
call_cases (Wrote at block) = inl (at, block)
call_cases (Synced good) = inr good

abbrev pub of_call_cases : (ℕ × Block) ⊎ Bool → Call
of_call_cases (inl p) = Wrote p.0 p.1
of_call_cases (inr good) = Synced good

pub same_call : (c : Call) → of_call_cases (call_cases c) ≡ c
same_call (Wrote at block) = refl
same_call (Synced good) = refl

abbrev pub call_code : Coded Call
call_code = code_by ((ℕ × Block) ⊎ Bool) (coded⊎ (coded× coded_ℕ block_code) coded_bool) call_cases of_call_cases same_call

abbrev pub past_cases : Past → (List Block × List Call) ⊎ ℕ
past_cases (Told first calls) = inl (first, calls)
past_cases (Untold count) = inr count

abbrev pub of_past_cases : (List Block × List Call) ⊎ ℕ → Past
of_past_cases (inl p) = Told p.0 p.1
of_past_cases (inr count) = Untold count

pub same_past : (p : Past) → of_past_cases (past_cases p) ≡ p
same_past (Told first calls) = refl
same_past (Untold count) = refl

abbrev pub past_code : Coded Past
past_code =
    code_by ((List Block × List Call) ⊎ ℕ) (coded⊎ (coded× (coded_list block_code) (coded_list call_code)) coded_ℕ)
    past_cases of_past_cases same_past

abbrev pub disk_code : Coded DiskView
disk_code =
    code_by (ℕ × (Past × ℕ)) (coded× coded_ℕ (coded× past_code coded_ℕ)) (λ d. (d.size, (d.past, d.faults)))
    (λ p. record { size = p.0; past = p.1.0; faults = p.1.1 }) (λ _. refl)

-- ---- a vault

abbrev pub layout_code : Coded Layout
layout_code =
    code_by (ℕ × (ℕ × (ℕ × ℕ))) (coded× coded_ℕ (coded× coded_ℕ (coded× coded_ℕ coded_ℕ)))
    (λ l. (l.first, (l.hole, (l.size, l.most)))) (λ p. record { first = p.0; hole = p.1.0; size = p.1.1.0; most = p.1.1.1 }) (λ _. refl)

abbrev pub store_code : Coded PageStore
store_code =
    code_by (DiskView × (Layout × (Homes × (ℕ × (Bool × (ℕ × ℕ))))))
    (coded× disk_code (coded× layout_code (coded× homes_code (coded× coded_ℕ (coded× coded_bool (coded× coded_ℕ coded_ℕ))))))
    (λ v. (v.disk, (v.layout, (v.homes, (v.spare, (v.good, (v.refused, v.start)))))))
    (λ p. record { disk = p.0; layout = p.1.0; homes = p.1.1.0; spare = p.1.1.1.0; good = p.1.1.1.1.0; refused = p.1.1.1.1.1.0; start = p.1.1.1.1.1.1 })
    (λ _. refl)
