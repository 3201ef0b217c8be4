use Rattle.std.proofs.Common.{◌≡◌, ◌+◌, ◌-◌, ◌*◌, ◌++◌, All, length}
use Rattle.std.specs.Prelude.{vec_capacity, vec_len}
use Rattle.s38_image_writer.proofs.CutLaws.{cut_pages}
use Rattle.s38_image.specs.Pages.{needed}
use Rattle.s38_memory.specs.Cell.{IsCell}
use Rattle.s38_memory.specs.Tagged.{bytes_in}
use Rattle.s38_image_writer.proofs.pages.push_cells.Given as goal

abbrev pub invariant-loop-k : goal.invariant-loop-k
invariant-loop-k l =
    record {
      parts : l.into.items ++ cut_pages l.number (l.first + l.k) (needed (16 * length l.cells) - l.k) (bytes_in l.rest) l.rest
          ≡ l.initial.into.items ++ cut_pages l.number l.first (needed (16 * length l.cells)) (bytes_in l.cells) l.cells;
      cells : All IsCell l.rest;
      len : vec_len l.into ≡ vec_len l.initial.into + l.k;
      kept : vec_capacity l.into ≡ vec_capacity l.initial.into;
    }
