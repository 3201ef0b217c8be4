use Rattle.std.proofs.Common.{◌+◌, ◌∙◌, ap, refl, subst, sym, arith}
use Rattle.std.specs.FinMap.{get, get-empty}
use Rattle.s38_disk.specs.Disk.{IsAt}
use Rattle.s38_vault.specs.Keys.{key_cmp}
use Rattle.s38_pages.specs.Index.{Homes}
use Rattle.s38_pages.specs.Scan.{Scanned, homes_of}
use Rattle.s38_pages.proofs.Keeping.{keeps_skip}
use Rattle.s38_pages.proofs.Scanning.{home_is, hole_is, low_no_home, scanned_noted, scanned_skip, scanned_start, twins_noted}
use Rattle.s38_pages.proofs.scan.read_homes.Goals as goal
use Rattle.s38_pages.proofs.scan.read_homes.Goals.{then-at-layout+in_ok-read+in_ok-twin+in_default, else-at-layout}

pub loop-at-init : goal.loop-at-init
loop-at-init g c =
    let lay = c.args.layout.now in
    record {
      past = refl;
      size = refl;
      faults = refl;
      keeps = c.requires.keeps;
      scanned = λ s is. scanned_start lay s.now (get (homes_of c.args.homes.now)) (λ k. ap (λ (m : Homes). get m k) c.requires.empty ∙ get-empty key_cmp k) (low_no_home lay);
    }

pub returns-in-Some-clause-gives : goal.returns-in-Some-clause-gives
returns-in-Some-clause-gives g c s is =
    let i = c.loop-at.invariant in
    let block = c.in_ok-read.ensures.gives s (subst (λ p. IsAt p s) (sym i.past) is) in
    twins_noted c.args.layout.now s.now _ c.loop-at.at (i.scanned s is) _ c.in-Some.twin block (home_is c.args.layout.now c.loop-at.at (omega arith) (omega arith) c.if-at-layout.true) (sym c.in_ok-twin.ensures.twin ∙ c.in-Some.is)

pub loop-at-preserved : goal.loop-at-preserved
loop-at-preserved g c = elim c.if-at-layout.branch [
  | then-at-layout+in_ok-read+in_ok-twin+in_default w ↦ rw (w.disk-is, w.homes-is, w.marks-is) (
      let i = c.loop-at.invariant in
      let home = home_is c.args.layout.now c.loop-at.at (omega arith) (omega arith) w.if-at-layout.true in
      record {
        past = w.read.ensures.past ∙ i.past;
        size = w.read.ensures.size ∙ i.size;
        faults = w.in_ok-read.ensures.count ∙ i.faults;
        keeps = w.in_ok-twin.ensures.keeps c.args.layout.now i.keeps home;
        scanned = λ s is.
            let block = w.in_ok-read.ensures.gives s (subst (λ p. IsAt p s) (sym i.past) is) in
            subst (λ x. Scanned c.args.layout.now s.now x (c.loop-at.at + 1)) (sym w.in_ok-twin.ensures.index)
            (scanned_noted c.args.layout.now s.now _ c.loop-at.at (i.scanned s is) _ block home (sym w.in_ok-twin.ensures.twin ∙ w.in_default.is));
      })
  | else-at-layout w ↦ rw (w.disk-is, w.homes-is, w.marks-is) (
      let i = c.loop-at.invariant in record {
        past = i.past;
        size = i.size;
        faults = i.faults;
        keeps = keeps_skip c.args.layout.now _ _ c.loop-at.at i.keeps;
        scanned = λ s is. scanned_skip c.args.layout.now s.now _ c.loop-at.at (i.scanned s is) (λ home used. hole_is c.args.layout.now c.loop-at.at w.if-at-layout.false home);
      })
]
