use Rattle.std.proofs.Common.{◌≡◌, ℕ, suc, arith, ap, sym, ◌∙◌, subst, []}
use Rattle.hm_codes.specs.Listing.{IsListing}
use Rattle.hm_exec.specs.Families.{row_of}
use Rattle.hm_cpu.proofs.Keeping.{same_flash}
use Rattle.hm_cpu.proofs.Steps.{beat_stays}
use Rattle.hm_cpu.proofs.Trials.{goes_further, goes_stops, stored}
use Rattle.hm_mem.specs.Memory.{memory_of}
use Rattle.hm_run.specs.Program.{vector_of}
use Rattle.hm_cpu.proofs.trial.goes.Goals as goal

pub follows-requires-clause-room : goal.follows-requires-clause-room
follows-requires-clause-room c =
    let stays = beat_stays (row_of c.args.v.now) 2 c.args.regs.now c.beat.new.regs (memory_of c.args.mem.now) (memory_of c.beat.new.mem) []
    (c.in-Ok.ensures.value []) in
    omega (arith, stays, c.requires.room)

pub returns-in-Ok-clause-value : goal.returns-in-Ok-clause-value
returns-in-Ok-clause-value c listing output n steps is row =
    let r = c.args.regs.now in
    let t = c.beat.new.regs in
    let m = memory_of c.args.mem.now in
    let p = memory_of c.beat.new.mem in
    let kept = c.in-Ok.ensures.kept in
    let stays : t.pc ≡ r.pc = beat_stays (row_of c.args.v.now) 2 r t m p output (c.in-Ok.ensures.value output) in
    goes_further listing (row_of c.args.v.now) r m output n steps t p c.follows.result row (c.in-Ok.ensures.value output) kept.around
    (c.follows.ensures.value listing output n (suc steps) (subst (λ (f : ℕ → ℕ). IsListing f listing) (sym (same_flash m p kept)) is)
    (ap (λ (k : ℕ). vector_of (listing k)) stays ∙ row))

pub returns-in-Ok-clause-same : goal.returns-in-Ok-clause-same
returns-in-Ok-clause-same c =
    stored (row_of c.args.v.now) c.args.regs.now (memory_of c.args.mem.now) [] c.beat.new.regs (memory_of c.beat.new.mem) (c.in-Ok.ensures.value [])
    c.in-Ok.ensures.kept

pub returns-in-Err-clause-value : goal.returns-in-Err-clause-value
returns-in-Err-clause-value c listing output n steps is row =
    goes_stops listing (row_of c.args.v.now) c.args.regs.now (memory_of c.args.mem.now) output n steps _ row (c.in-Err.ensures.value output)
