-- What was written to a home is what is read of it.
use Rattle.std.proofs.Common.{◌≡◌, ◌<◌, ◌≤◌, ◌^◌, ◌++◌, List, ℕ, take, length, refl, sym, ◌∙◌, ap, arith}
use Rattle.std.proofs.lemmas.List.{take_all}
use Rattle.std.proofs.lemmas.Nat.{from_be_bytes-to_be_bytes_4, from_be_bytes-to_be_bytes_8}
use Rattle.s38_disk.specs.declared.block.Block.{Block}
use Rattle.s38_base.specs.declared.page.Key.{Key}
use Rattle.s38_base.specs.declared.page.Page.{Page}
use Rattle.s38_redo_log.specs.Coding.{home_block, key_in, page_in}

pub home_key : (key : Key) (page : Page) → key.object < 2 ^ 64 → key.part < 2 ^ 32 → key_in (home_block key page) ≡ key
unfolding home_block key_in
home_key key page object part = λ i. record { object = from_be_bytes-to_be_bytes_8 key.object object i; part = from_be_bytes-to_be_bytes_4 key.part part i }

pub home_page : (key : Key) (page : Page) → length page.bytes ≡ 512 → page.tags < 2 ^ 32 → page_in (home_block key page) ≡ page
unfolding home_block page_in
home_page key page size tags =
    let all : take 512 page.bytes ≡ page.bytes = take_all 512 page.bytes (omega arith) in
    λ i. record { bytes = all i; tags = from_be_bytes-to_be_bytes_4 page.tags tags i }
