use Rattle.std.proofs.Common.{◌≡◌, ◌++◌, flat_map, take}
use Rattle.dot_writer.specs.Picture.{legend_line}
use Rattle.dot_writer.proofs.boxes.push_legend.Given as goal

abbrev pub invariant-loop-told : goal.invariant-loop-told
invariant-loop-told l = l.line.items ≡ l.fn.line.items ++ flat_map legend_line (take l.told-index l.legend)
