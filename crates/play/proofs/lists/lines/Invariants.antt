-- What the loop of `play::lists::lines` keeps from turn to turn.
use Prim.Native.Nat.{◌≤◌}
use Rattle.play.specs.Inner.{word_lines, Shown}
use Rattle.play.proofs.lists.lines.Given as goal

abbrev pub invariant-loop-i : goal.invariant-loop-i
invariant-loop-i l = (l.i ≤ l.c) × Shown l.i l.initial.out l.at (word_lines l.first l.words l.i) l.out l.end
