use Rattle.std.proofs.Common.{◌≡◌, ◌++◌, ap, arith, length, min, subst, sym, ◌∙◌}
use Rattle.std.specs.Slice.Iter.{chunks_rest, chunks_size}
use Rattle.s38_vault.specs.Content.{changed}
use Rattle.s38_page_diff.proofs.PutLaws.{PutSoFar, all_made, next_rising, next_room, put_begun, put_on, tried_during}
use Rattle.s38_page_diff.proofs.putting.put_all.Goals as goal

pub loop-chunk-init : goal.loop-chunk-init
loop-chunk-init g c =
    let begun = c.into_iter-chunk-iterator.ensures.into_iter_gives in
    let size : chunks_size c.into_iter-chunk-iterator.result ≡ (g.V.Vault.view c.args.vault.now).shape.most =
    ap chunks_size begun ∙ c.chunks-chunk-items.ensures.size ∙ c.most.ensures.most in
    record {
      can = omega (arith, size, c.most.ensures.limits.0);
      finite = tt;
      size = size;
      so_far =
          subst (PutSoFar g.row.V.Denot g.V.Vault.view g.V.Vault.holds g.V.Vault.leaves c.args.vault.now c.args.vault.now c.args.changes.now)
          (sym (ap chunks_rest begun ∙ c.chunks-chunk-items.ensures.rest)) (put_begun c.args.vault.now c.args.changes.now);
    }

pub put_some-requires-clause-rising : goal.put_some-requires-clause-rising
put_some-requires-clause-rising g c =
    let steps = c.in-Some.ensures.steps in
    next_rising c.args.vault.now c.loop-chunk.vault c.args.changes.now c.in-Some.chunk.now (chunks_rest c.next.new.self)
    (subst (PutSoFar g.row.V.Denot g.V.Vault.view g.V.Vault.holds g.V.Vault.leaves c.args.vault.now c.loop-chunk.vault c.args.changes.now) steps.1.0 c.loop-chunk.invariant.so_far)
    c.requires.rising

pub put_some-requires-clause-room : goal.put_some-requires-clause-room
put_some-requires-clause-room g c =
    let steps = c.in-Some.ensures.steps in
    next_room c.args.vault.now c.loop-chunk.vault c.args.changes.now c.in-Some.chunk.now (chunks_rest c.next.new.self)
    (subst (PutSoFar g.row.V.Denot g.V.Vault.view g.V.Vault.holds g.V.Vault.leaves c.args.vault.now c.loop-chunk.vault c.args.changes.now) steps.1.0 c.loop-chunk.invariant.so_far)
    c.requires.rising c.requires.room

pub loop-chunk-preserved : goal.loop-chunk-preserved
loop-chunk-preserved g c =
    let old = c.args.vault.now in
    let now = c.loop-chunk.vault in
    let new = c.put_some.new.vault in
    let most = (g.V.Vault.view old).shape.most in
    let chunk = c.in-Some.chunk.now in
    let rest = chunks_rest c.next.new.self in
    let steps = c.in-Some.ensures.steps in
    let next : chunks_size c.next.new.self ≡ most = steps.0 ∙ c.loop-chunk.invariant.size in
    let size : length chunk ≡ min most (length (chunk ++ rest)) =
    steps.1.1 ∙ (λ i. min (c.loop-chunk.invariant.size i) (length (steps.1.0 i))) in
    record {
      can = omega (arith, next, c.most.ensures.limits.0);
      finite = tt;
      size = next;
      so_far =
          put_on old now new c.args.changes.now chunk rest
          (subst (PutSoFar g.row.V.Denot g.V.Vault.view g.V.Vault.holds g.V.Vault.leaves old now c.args.changes.now) steps.1.0 c.loop-chunk.invariant.so_far)
          c.requires.rising (omega (arith, steps.1.1, steps.1.2, c.loop-chunk.invariant.size, c.most.ensures.limits.0)) size
          (record {
            past = c.put_some.ensures.past;
            during = c.put_some.ensures.during;
            later = c.put_some.ensures.later;
            spare = c.put_some.ensures.spare;
            shape = c.put_some.ensures.shape;
          })
          (record {
            held = c.in_ok-put_some.ensures.holds;
            told = c.in_ok-put_some.ensures.told;
            keys = c.in_ok-put_some.ensures.keys;
            free = c.in_ok-put_some.ensures.free;
            rises = c.in_ok-put_some.ensures.rises;
            count = c.in_ok-put_some.ensures.count;
          });
    }

pub returns-in_err-put_some-clause-during : goal.returns-in_err-put_some-clause-during
returns-in_err-put_some-clause-during g c =
    let old = c.args.vault.now in
    let now = c.loop-chunk.vault in
    let chunk = c.in-Some.chunk.now in
    let rest = chunks_rest c.next.new.self in
    let steps = c.in-Some.ensures.steps in
    tried_during old now c.put_some.new.vault c.args.changes.now chunk rest
    (subst (PutSoFar g.row.V.Denot g.V.Vault.view g.V.Vault.holds g.V.Vault.leaves old now c.args.changes.now) steps.1.0 c.loop-chunk.invariant.so_far)
    (steps.1.1 ∙ (λ i. min (c.loop-chunk.invariant.size i) (length (steps.1.0 i))))
    (record {
      past = c.put_some.ensures.past;
      during = c.put_some.ensures.during;
      later = c.put_some.ensures.later;
      spare = c.put_some.ensures.spare;
      shape = c.put_some.ensures.shape;
    })

pub returns-clause-told : goal.returns-clause-told
returns-clause-told g c = λ n h.
    let was = c.loop-chunk.invariant.so_far in
    let all = all_made c.args.vault.now c.loop-chunk.vault c.args.changes.now (chunks_rest c.loop-chunk.chunk-iterator) was c.in-None.ensures.steps.1.0 in
    let before = was.told n h in
    (before.0, (before.1.0, before.1.1 ∙ ap (changed before.0) all))
