use Rattle.std.proofs.Common.{◌≡◌, take}
use Rattle.table.specs.Model.{entries}
use Rattle.samples.specs.Lines.{filled}
use Rattle.samples.proofs.lines.table_of.Given as goal

abbrev pub invariant-loop-line : goal.invariant-loop-line
invariant-loop-line l = entries l.table ≡ filled (take l.line-index l.lines)
