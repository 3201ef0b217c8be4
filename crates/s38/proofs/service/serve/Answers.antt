use Rattle.std.proofs.Common.{◌≡◌, ℕ, inl, inr, List, [], Option, Some, None, IfSome, refl, arith}
use Rattle.std.specs.Option.{IsSome}
use Rattle.s38_code.specs.declared.entry.Entry.{Entry}
use Rattle.s38_disk.specs.Disk.{DiskView}
use Rattle.s38_top.specs.declared.outcome.Outcome.TheVariants as outcomes
use Rattle.s38_command.specs.Commands.{command_of}
use Rattle.s38_top.specs.Outcome.{IsExplained, IsWrittenOut}
use Rattle.s38_top.specs.Outside.{Outside, outside}
use Rattle.s38_top.proofs.SafeLaws.{safe_still}
use Rattle.s38.specs.CommandLine.{EndsSomehow}
use Rattle.s38.proofs.service.serve.Goals as goal

-- want of memory is an end of any words
no_memory : (words : List (List ℕ)) (old : Outside) (written : Option (List ℕ)) (put status : ℕ) → IsWrittenOut old.written written old.put put status outcomes.NoMemory
    → EndsSomehow words old old.left old.taken written put status
no_memory words old written put status told = record {
  history = [];
  marks = [];
  disk = old.disk;
  answered = record {
    ends = record { outcome = outcomes.NoMemory; holds = tt; tells = told; kept = refl; marked = refl };
    serves = λ is. absurd (other status (seven told) is);
    good = λ good. inr (inl (seven told));
    safe = safe_still (command_of words) old.disk (status ≡ 7) [] [];
  };
}
  where
    seven : IsWrittenOut old.written written old.put put status outcomes.NoMemory → status ≡ 7
    seven (inl t) = t.0
    seven (inr t) = t.0

    other : (n : ℕ) → n ≡ 7 → n ≡ 0 → ⊥
    other n is zero = omega (arith, is, zero)

-- what a call with a disk comes to
answered_of : {D : Type 0} (view : D → DiskView) (words : List (List ℕ)) (disk : Option D) (old : Outside) (left : Option (List ℕ)) (taken : ℕ) (written : Option (List ℕ)) (put status : ℕ) (history : List Entry) (marks : List ℕ) → IsSome disk
    → IfSome disk (λ new. IsExplained (command_of words) old (outside left taken written put (view new)) status history marks) → EndsSomehow words old left taken written put status
answered_of view words None old left taken written put status history marks there answered = cc
answered_of view words (Some d) old left taken written put status history marks there answered = record { history = history; marks = marks; disk = view d; answered = answered }

pub returns-in-Err : goal.returns-in-Err
returns-in-Err g c =
    no_memory _ (outside (g.I.Source.left c.args.deck.now) (g.I.Source.faults c.args.deck.now) (g.O.Sink.written c.args.out.now) (g.O.Sink.faults c.args.out.now) (g.D.Disk.view c.args.disk)) _ _ _ c.refuse.ensures

pub returns-in-Ok : goal.returns-in-Ok
returns-in-Ok g c =
    answered_of g.D.Disk.view _ c.serve_texts-report.result.disk
    (outside (g.I.Source.left c.args.deck.now) (g.I.Source.faults c.args.deck.now) (g.O.Sink.written c.args.out.now) (g.O.Sink.faults c.args.out.now) (g.D.Disk.view c.args.disk)) _ _ _ _ _ _ _
    c.serve_texts-report.ensures.back c.serve_texts-report.ensures.answered
