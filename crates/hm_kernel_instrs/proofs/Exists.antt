-- Each item of an array text's code that is in its ranges has an instruction.
use Rattle.std.proofs.Common.{ℕ, ◌+◌, ◌<◌, cond, refl, arith}
use Rattle.hm_isa.specs.declared.Branch.TheVariants as branch
use Rattle.hm_isa.specs.declared.Instr.{Instr}
use Rattle.hm_isa.specs.declared.Instr.TheVariants as instr
use Rattle.hm_isa.specs.declared.Scalar.TheVariants as scalar
use Rattle.hm_isa.specs.declared.Vector.TheVariants as vector
use Rattle.hm_isa.specs.declared.data.HalfName.TheVariants as half
use Rattle.hm_isa.specs.declared.jumps.LoopEnd.{LoopEnd}
use Rattle.hm_isa.specs.declared.jumps.LoopEndName.TheVariants as loop_end
use Rattle.hm_isa.specs.declared.jumps.T23.TheVariants as t23
use Rattle.hm_isa.specs.declared.jumps.Wlstp.{Wlstp}
use Rattle.hm_isa.specs.declared.memory.V24.{V24}
use Rattle.hm_isa.specs.declared.narrow.ByteName.TheVariants as byte
use Rattle.hm_isa.specs.declared.narrow.S6.{S6}
use Rattle.hm_isa.specs.declared.vectors.AddName.TheVariants as add
use Rattle.hm_isa.specs.declared.vectors.BitwiseName.TheVariants as bitwise
use Rattle.hm_isa.specs.declared.vectors.SignedName.TheVariants as signed
use Rattle.hm_code_bytes.proofs.Made.{field, some_add, some_bitwise, some_breakpoint, some_byte, some_duplicate, some_half, some_signed}
use Rattle.hm_kernel_lang.specs.declared.text.ElementType.{ElementType}
use Rattle.hm_kernel_lang.specs.declared.text.ElementType.TheVariants.{U8}
use Rattle.hm_kernel_lang.specs.declared.text.Op.{Op}
use Rattle.hm_kernel_lang.specs.declared.text.Op.TheVariants as op
use Rattle.hm_kernel_lang.specs.Language.{is_signed}
use Rattle.hm_kernel_lang.specs.declared.machine.Item.{Item}
use Rattle.hm_kernel_lang.specs.declared.machine.Item.TheVariants.{Plain, Begin, Again, Stop}
use Rattle.hm_kernel_lang.specs.declared.machine.Kind.{Kind}
use Rattle.hm_kernel_lang.specs.declared.machine.Kind.TheVariants.{Clear, Low, High, LowLength, HighLength, Offset, Splat, Load, Store, Do, Further}
use Rattle.hm_kernel_lang.specs.Machine.{size_code}
use Rattle.hm_kernel_instrs.specs.Ranges.{ItemFits, KindFits}
use Rattle.hm_kernel_instrs.specs.Instructions.{IsItem, IsKind, IsMoveRow, IsOperation, element_name}
use Rattle.hm_kernel_instrs.proofs.Made.{again_made, begin_made, move_made, sum_made}

size_fits : (t : ElementType) → size_code t < 3
size_fits t = grind arith

sign_fits : (t : ElementType) → cond (is_signed t) 0 1 < 2
sign_fits t = grind arith

some_sum : (i : Instr) × IsKind U8 Offset i
some_sum =
    let sum : S6 = record { d = field 5 (omega arith); m = field 4 (omega arith); not_both_pc = refl } in
    (instr.Scalar (scalar.S6 sum), sum_made sum 5 4 refl refl)

some_move : (t : ElementType) (load q : ℕ) → load < 2 → q < 8 → (i : Instr) × IsMoveRow t load q 5 i
some_move t load q m l =
    let row : V24
    = record {
      p = field 1 (omega arith);
      a = field 1 (omega arith);
      w = field 0 (omega arith);
      l = field load m;
      n = field 5 (omega arith);
      d = field q l;
      z = field (size_code t) (size_fits t);
      i = field 0 (omega arith);
      rule = refl;
    } in
    (instr.Vector (vector.V24 row), move_made row t load q 5 refl refl refl refl refl refl refl refl)

some_operation : (t : ElementType) (o : Op) (q : ℕ) → q + 1 < 8 → (i : Instr) × IsOperation t o q i
some_operation t op.Add q l = some_add (size_code t) add.Add q q (q + 1) (size_fits t) (omega arith) (omega arith) l
some_operation t op.Sub q l = some_add (size_code t) add.Sub q q (q + 1) (size_fits t) (omega arith) (omega arith) l
some_operation t op.Mul q l = some_add (size_code t) add.Mul q q (q + 1) (size_fits t) (omega arith) (omega arith) l
some_operation t op.Min q l =
    some_signed (cond (is_signed t) 0 1) (size_code t) signed.Min q q (q + 1) (sign_fits t) (size_fits t) (omega arith) (omega arith) l
some_operation t op.Max q l =
    some_signed (cond (is_signed t) 0 1) (size_code t) signed.Max q q (q + 1) (sign_fits t) (size_fits t) (omega arith) (omega arith) l
some_operation t op.And q l = some_bitwise bitwise.And q q (q + 1) (omega arith) (omega arith) l
some_operation t op.Or q l = some_bitwise bitwise.Orr q q (q + 1) (omega arith) (omega arith) l
some_operation t op.Xor q l = some_bitwise bitwise.Eor q q (q + 1) (omega arith) (omega arith) l

some_kind : (t : ElementType) (k : Kind) → KindFits k → (i : Instr) × IsKind t k i
some_kind t Clear h = some_byte byte.Mov 4 0 (omega arith) (omega arith)
some_kind t (Low n) h = some_half half.Movw 5 n (omega arith) h
some_kind t (High n) h = some_half half.Movt 5 n (omega arith) h
some_kind t (LowLength n) h = some_half half.Movw 6 n (omega arith) h
some_kind t (HighLength n) h = some_half half.Movt 6 n (omega arith) h
some_kind t Offset h = some_sum
some_kind t (Splat q) h = some_duplicate (element_name t) q 5 h (omega arith)
some_kind t (Load q) h = some_move t 1 q (omega arith) h
some_kind t (Store q) h = some_move t 0 q (omega arith) h
some_kind t (Do o q) h = some_operation t o q h
some_kind t Further h = some_byte byte.Add 4 16 (omega arith) (omega arith)

some_begin : (t : ElementType) (h : ℕ) → h < 2048 → (i : Instr) × IsItem t (Begin h) i
some_begin t h l =
    let fits = size_fits t in
    let row : Wlstp = record {
      z = field (size_code t) (omega (arith, fits));
      n = field 6 (omega arith);
      v = field h l;
      not_sp = (λ e. omega arith);
      not_pc = (λ e. omega arith);
    } in
    (instr.Branch (branch.T23 (t23.Wlstp row)), begin_made row t h refl refl refl)

some_again : (t : ElementType) (h : ℕ) → h < 2048 → (i : Instr) × IsItem t (Again h) i
some_again t h l =
    let row : LoopEnd = record { name = loop_end.Letp; v = field h l } in
    (instr.Branch (branch.T23 (t23.End row)), again_made row h refl refl)

-- an item in its ranges has one
pub some_item : (t : ElementType) (x : Item) → ItemFits x → (i : Instr) × IsItem t x i
some_item t (Plain k) h = some_kind t k h
some_item t (Begin h) l = some_begin t h l
some_item t (Again h) l = some_again t h l
some_item t Stop h = some_breakpoint 0 (omega arith)
