-- Where two overlapped instructions may stand at the end of a tick, and the number that an entry keeps of it.
use Rattle.std.specs.Prelude.{ℕ, Bool, ◌&&◌, ◌||◌, ◌==◌, nat_lt, cond, Option, Some, None}
use Rattle.hm_window.specs.declared.rule.Window.{Window}

-- a tick may end here: the older alone has beats, or it has three and the younger has one
abbrev pub may_end : ℕ → ℕ → Bool
may_end a b = (b == 0 && nat_lt a 4) || (a == 3 && b == 1)

-- the position of an ECI value (DDI0553, "ECI")
abbrev pub window_of : ℕ → Option Window
window_of eci =
    cond (eci == 0) (Some (record { a = 0; b = 0 }))
    (cond (eci == 1) (Some (record { a = 1; b = 0 }))
    (cond (eci == 2) (Some (record { a = 2; b = 0 }))
    (cond (eci == 4) (Some (record { a = 3; b = 0 }))
    (cond (eci == 5) (Some (record { a = 3; b = 1 }))
    None))))
