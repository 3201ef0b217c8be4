-- A stream that was read has as many pages as it needs.
use Rattle.std.proofs.Common.{◌≡◌, ℕ, ◌*◌, true, List, length, Option, Some, sym, ap, ◌∙◌}
use Rattle.std.specs.Prelude.{IfOk, Result, Ok, Err}
use Rattle.s38_base.specs.Limits.{page_bytes}
use Rattle.s38_base.specs.declared.page.Change.{Change}
use Rattle.s38_codec.specs.Reading.{Gives}
use Rattle.s38_codec.specs.declared.fault.ReadFault.{ReadFault}
use Rattle.s38_image.proofs.PageLaws.{enough, stream_len, unfilled_is}
use Rattle.s38_image.proofs.StreamLaws.{pages_long}
use Rattle.s38_image.specs.Fitting.{AreWhole}
use Rattle.s38_image.specs.Pages.{are_pages, needed, stream, unfilled}

abbrev pub some_bytes : List ℕ → Option (List ℕ)
some_bytes bytes = Some bytes

same_bytes : (xs ys : List ℕ) → some_bytes xs ≡ some_bytes ys → xs ≡ ys
same_bytes xs ys e = cc

-- a stream that was read has the length that was asked
pub stream_length : {V : Type 0} (items : V → List ℕ) (number first len : ℕ) (ps : List Change) (bytes : List ℕ) (r : Result V ReadFault) → are_pages number first (needed len) ps ≡ true → AreWhole ps → some_bytes (stream ps) ≡ some_bytes bytes → Gives items r (unfilled len bytes)
    → IfOk r (λ v. length (items v) ≡ len)
stream_length items number first len ps bytes (Ok v) pages whole same read =
    let size : length bytes ≡ page_bytes * needed len = ap (λ (t : List ℕ). length t) (sym (same_bytes (stream ps) bytes same)) ∙ stream_len number ps first (needed len) whole pages in
    (unfilled_is len (page_bytes * needed len) bytes (items v) size (enough len) read).1
stream_length items number first len ps bytes (Err fault) pages whole same read = tt

pub stream_pages : {V : Type 0} (items : V → List ℕ) (number first len : ℕ) (ps : List Change) (r : Result V ReadFault) → are_pages number first (needed len) ps ≡ true → IfOk r (λ v. length (items v) ≡ len)
    → IfOk r (λ v. needed (length (items v)) ≡ length ps)
stream_pages items number first len ps (Ok v) pages long = ap needed long ∙ sym (pages_long number first (needed len) ps pages)
stream_pages items number first len ps (Err fault) pages long = tt
