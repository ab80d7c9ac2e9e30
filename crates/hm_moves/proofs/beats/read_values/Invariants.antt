use Rattle.std.proofs.Common.{◌≡◌, length, map, take}
use Rattle.hm_regs.specs.Place.{value_at}
use Rattle.hm_moves.proofs.beats.read_values.Given as goal

abbrev pub invariant-loop-p : goal.invariant-loop-p
invariant-loop-p l = record {
  value : l.xs.items ≡ map (λ p. value_at p l.r) (take l.p-index l.list);
  size : length l.xs.items ≡ l.p-index;
}
