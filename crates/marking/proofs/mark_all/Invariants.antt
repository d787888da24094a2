-- The events that are left lead on from what is marked.
use Rattle.marking.specs.Marking.{begun}
use Rattle.marking.proofs.WalkLaws.{LeftFrom}
use Rattle.marking.proofs.mark_all.Given as goal

abbrev pub invariant-loop-i : goal.invariant-loop-i
invariant-loop-i g l = LeftFrom (g.J.Journal.events l.journal) (begun l.fn.file l.fn.workers l.fn.mem) l.i l.p l.mem
