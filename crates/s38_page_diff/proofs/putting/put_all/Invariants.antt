use Rattle.std.proofs.Common.{◌≡◌}
use Rattle.std.specs.Slice.Iter.{chunks_rest, chunks_size}
use Rattle.s38_page_diff.proofs.PutLaws.{PutSoFar}
use Rattle.s38_page_diff.proofs.putting.put_all.Given as goal

-- the changes of the chunks so far are made
abbrev pub invariant-loop-chunk : goal.invariant-loop-chunk
invariant-loop-chunk g l = record {
  can : (goal.iterator-loop-chunk g).can_next l.chunk-iterator;
  finite : (goal.iterator-loop-chunk g).is_finite l.chunk-iterator;
  size : chunks_size l.chunk-iterator ≡ (g.V.Vault.view l.initial.vault).shape.most;
  so_far : PutSoFar g.row.V.Denot g.V.Vault.view g.V.Vault.holds g.V.Vault.leaves l.initial.vault l.vault l.fn.changes (chunks_rest l.chunk-iterator);
}
