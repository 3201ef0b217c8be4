use Rattle.std.proofs.Common.{◌<◌, ◌&&◌, ◌∙◌, true, not, ap, inr, length, refl, subst, sym, arith}
use Rattle.std.proofs.Math.ListN.{length-set}
use Rattle.std.proofs.lemmas.Bool.{and_parts, both_ways}
use Rattle.std.proofs.lemmas.List.{take_all}
use Rattle.s38_disk.specs.Disk.{IsAt}
use Rattle.s38_redo_log.specs.Store.{AreHomes, is_home, log_count, log_of, targets}
use Rattle.s38_redo_log.proofs.CommitLemmas.{home_below}
use Rattle.s38_pages.specs.Index.{marked}
use Rattle.s38_pages.proofs.Entries.{homes-last, log_length, log_more, seen_more}
use Rattle.s38_pages.proofs.Finishing.{not_true}
use Rattle.s38_pages.proofs.Planning.{homes-push, longer}
use Rattle.s38_pages.proofs.log_reading.read_slots.Goals as goal

pub returns-then-not-is_unseen_home-clause-damaged : goal.returns-then-not-is_unseen_home-clause-damaged
returns-then-not-is_unseen_home-clause-damaged g c s is count =
    let i = c.loop-k.invariant in
    let lay = c.args.layout.now in
    let slots = c.loop-k.slots.items in
    let slot = c.in_ok-slot.slot in
    let entry = c.in_ok-slot.ensures.gives s (subst (λ p. IsAt p s) (sym i.past) is) count in
    let lt : c.loop-k.k < log_count s.now = omega (arith, c.loop-k-test.true, count) in
    let so_far = i.read s is count in
    let more = log_more s.now c.loop-k.k slots slot lt so_far entry in
    inr (
      omega (arith, count, c.requires.some),
      omega (arith, count, c.requires.most),
      (
        c.loop-k.k,
        lt,
        subst (AreHomes lay) so_far i.homes,
        λ all.
            let last = homes-last lay slots slot (subst (AreHomes lay) more all) in
            let unseen = ap (λ xs. marked xs slot.home) c.deref.ensures.value ∙ i.seen slot.home ∙ last.1 in
            both_ways _ (sym c.is_unseen_home.ensures ∙ c.if-not-is_unseen_home.true) (λ j. last.0 j && not (unseen j)),
        refl,
      ),
    )

pub loop-k-preserved : goal.loop-k-preserved
loop-k-preserved g c =
    let i = c.loop-k.invariant in
    let lay = c.args.layout.now in
    let slots = c.loop-k.slots.items in
    let slot = c.in_ok-slot.slot in
    let pushed = c.push_reserved.ensures.items in
    let both = and_parts (is_home lay slot.home) (not (marked c.deref.result.now slot.home)) (sym c.is_unseen_home.ensures ∙ c.if-not-is_unseen_home.false) in
    let unseen = sym (i.seen slot.home) ∙ sym (ap (λ xs. marked xs slot.home) c.deref.ensures.value) ∙ not_true _ both.1 in
    let below = home_below lay slot.home both.0 in
    record {
      past = c.read_entry.ensures.past ∙ i.past;
      size = c.read_entry.ensures.size ∙ i.size;
      faults = c.in_ok-slot.ensures.count ∙ i.faults;
      len = let l = ap length pushed in let n = longer slots slot in omega (arith, l, n, i.len);
      capacity = omega (arith, c.push_reserved.ensures.capacity, i.capacity);
      homes = subst (AreHomes lay) (sym pushed) (homes-push lay slots slot i.homes unseen both.0);
      seen = λ h. seen_more c.loop-k.seen.items slots slot (omega (arith, below, i.seen_len)) i.seen h ∙ ap (λ es. targets es h) (sym pushed);
      seen_len = length-set c.loop-k.seen.items slot.home true ∙ i.seen_len;
      read = λ s is count.
          let entry = c.in_ok-slot.ensures.gives s (subst (λ p. IsAt p s) (sym i.past) is) count in
          let lt : c.loop-k.k < log_count s.now = omega (arith, c.loop-k-test.true, count) in
          pushed ∙ sym (log_more s.now c.loop-k.k slots slot lt (i.read s is count) entry);
    }

pub returns-clause-gives : goal.returns-clause-gives
returns-clause-gives g c s is count =
    let all = log_length s.now in
    sym (c.loop-k.invariant.read s is count ∙ take_all c.loop-k.k (log_of s.now) (omega (arith, all, count, c.loop-k-test.false)))
