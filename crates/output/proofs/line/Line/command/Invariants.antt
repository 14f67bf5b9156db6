use Rattle.std.proofs.Common.{◌≡◌, ◌+◌, ◌*◌, ◌≤◌, [], ◌∷◌, ◌++◌, length}
use Rattle.std.specs.List.{flat_map}
use Rattle.output.proofs.Spacing.{field}
use Rattle.output.proofs.line.Line.command.Given as goal

abbrev pub invariant-loop-number : goal.invariant-loop-number
invariant-loop-number l = record {
  text : flat_map field l.number-iterator.iter.rest.now ++ l.self ≡ flat_map field l.numbers ++ (10 ∷ []);
  few : length l.self + 12 * length l.number-iterator.iter.rest.now ≤ 12 * length l.numbers + 1;
}
