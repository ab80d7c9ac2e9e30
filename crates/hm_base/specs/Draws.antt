-- NUMBERS THAT ARE DRAWN, each from the one before.
use Rattle.std.specs.Prelude.{ℕ, zero, suc, ◌+◌, ◌*◌, ◌%◌, ◌^◌}

-- the draw behind a draw
abbrev pub draw : ℕ → ℕ
draw x = (1664525 * x + 1013904223) % 2 ^ 32

-- what stands after n draws
abbrev pub drawn : ℕ → ℕ → ℕ
drawn zero x = x
drawn (suc n) x = drawn n (draw x)
