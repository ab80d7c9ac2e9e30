-- What an instruction leaves: the exception number, the IT byte and the stack of a handler at each end; and how long what it stores is.
use Rattle.std.specs.Prelude.{◌≡◌, ◌≢◌, ℕ, ◌%◌, ◌<◌, List}
use Rattle.hm_mem.specs.Devices.{IsLen}
use Rattle.hm_regs.specs.declared.Regs.{Regs}
use Rattle.hm_thumb.specs.Does.{Does, Ends, Faults, Loads, Stores}
use Rattle.hm_thumb.specs.declared.Way.{Way}
use Rattle.hm_thumb.specs.declared.Way.TheVariants as way

-- a byte; that of an IT block that is not over has a bit among its lowest four, and else it is 0
abbrev pub IsBlockByte : ℕ → Type 0
IsBlockByte it = (it < 256) × (it % 16 ≡ 0 → it ≡ 0)

-- from the registers r to q: the exception number stays, and the IT byte too, but where the instruction opens a block:
-- then the new one is a byte, and has a bit among its lowest four. In a handler it stays which stack a thread uses
abbrev pub KeepsBlock : Way → Regs → Regs → Type 0
KeepsBlock way.Opens r q = (q.ipsr ≡ r.ipsr) × (q.it < 256) × (q.it % 16 ≢ 0) × (r.ipsr ≢ 0 → q.spsel ≡ r.spsel)
KeepsBlock w r q = (q.ipsr ≡ r.ipsr) × (q.it ≡ r.it) × (r.ipsr ≢ 0 → q.spsel ≡ r.spsel)

-- so it is at every end of a program of accesses, whatever numbers it loads; and each number that it stores has one, two or four bytes
abbrev pub EndsKeep : Regs → Does → Type 0
EndsKeep r (Ends w q) = KeepsBlock w r q
EndsKeep r (Faults kind a) = Unit {0}
EndsKeep r (Loads how len n a f) = (xs : List ℕ) → EndsKeep r (f xs)
EndsKeep r (Stores how len a xs d) = IsLen len × EndsKeep r d
