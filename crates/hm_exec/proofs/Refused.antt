-- The test of the code is that of the definition.
use Rattle.std.proofs.Common.{◌≡◌, ℕ, Bool, cond, List, Some, None, refl, ap, sym, ◌∙◌}
use Rattle.std.specs.Prelude.{not, ◌&&◌, ◌||◌, nat_eq, nat_lt}
use Rattle.hm_base.specs.declared.FaultKind.TheVariants.{InvState}
use Rattle.hm_base.specs.declared.Place.TheVariants.{Ltp}
use Rattle.hm_beat.proofs.Footprint.{at_is}
use Rattle.hm_isa.specs.declared.Vector.{Vector}
use Rattle.hm_mem.specs.Memory.{Memory}
use Rattle.hm_regs.specs.Place.{value_at}
use Rattle.hm_regs.specs.declared.Regs.{Regs}
use Rattle.hm_rows.specs.Rows.{refuse, writes_lr}
use Rattle.hm_state.specs.State.{state_of}

pub refused_is : (v : Vector) (r : Regs) (m : Memory) (output : List ℕ) (q : Bool)
    → q ≡ (not (nat_eq r.it 0) || (writes_lr v && nat_lt (value_at Ltp r) 4 && r.fpca))
    → cond q (Some (record { kind = InvState; addr = r.pc })) None ≡ refuse v (state_of r m output)
unfolding state_of
refused_is v r m output q e =
    ap (λ (y : Bool). cond y (Some (record { kind = InvState; addr = r.pc })) None) e
    ∙ ap (λ (n : ℕ). cond (not (nat_eq r.it 0) || (writes_lr v && nat_lt n 4 && r.fpca)) (Some (record { kind = InvState; addr = r.pc })) None)
    (sym (at_is Ltp r m output tt refl))
