-- REGISTERS THAT CHANGED, each with its new value.
use Rattle.std.specs.Prelude.{ℕ, zero, suc, ◌+◌, Bool, ◌&&◌, nat_eq, if◌then◌else◌, List, [], ◌++◌, codes, slice_index}
use Rattle.std.proofs.Math.Bool.{beq}
use Rattle.std.specs.Fmt.{decimal}
use Rattle.hm_regs.specs.declared.Regs.{Regs}
use Rattle.hm_run.specs.Report.{word_text}
use Rattle.hm_text_base.specs.Texts.{separator, binary_digit, hex2, hex8}
use Rattle.hm_trace.specs.declared.changes.Word.{Word}
use Rattle.hm_trace.specs.declared.changes.Word.TheVariants.{Core, Vector, Sp, Other, Lr, Fpscr, Vpr}

-- the name of a word
abbrev pub word_name : Word → List ℕ
word_name (Core n) = codes "r" ++ decimal n
word_name (Vector k) = word_text k []
word_name Sp = codes "sp"
word_name Other = codes "other"
word_name Lr = codes "lr"
word_name Fpscr = codes "fpscr"
word_name Vpr = codes "vpr"

-- a word under its name, where it changed
abbrev pub word_change : Word → ℕ → ℕ → List ℕ
word_change word old new = if nat_eq old new then [] else separator ++ word_name word ++ separator ++ hex8 new

-- a truth value under its name, where it changed
abbrev pub bit_change : List ℕ → Bool → Bool → List ℕ
bit_change name old new = if beq old new then [] else separator ++ name ++ separator ++ binary_digit new

-- the texts of so many numbers from k on, one behind another
unfoldable pub texts_from : (ℕ → List ℕ) → ℕ → ℕ → List ℕ
texts_from text k zero = []
texts_from text k (suc n) = text k ++ texts_from text (k + 1) n

-- those of r0 to r12 that changed
abbrev pub core_changes : List ℕ → List ℕ → List ℕ
core_changes old new = texts_from (λ k. word_change (Core k) (slice_index old k) (slice_index new k)) 0 13

-- the words of vector registers that changed
abbrev pub vector_changes : List ℕ → List ℕ → List ℕ
vector_changes old new = texts_from (λ k. word_change (Vector k) (slice_index old k) (slice_index new k)) 0 32

-- whether N, Z, C, V and Q are the same
unfoldable pub same_flags : Regs → Regs → Bool
same_flags old new = beq old.n new.n && beq old.z new.z && beq old.c new.c && beq old.v new.v && beq old.q new.q

-- N, Z, C, V and Q
unfoldable pub flags_text : Regs → List ℕ
flags_text g = binary_digit g.n ++ (binary_digit g.z ++ (binary_digit g.c ++ (binary_digit g.v ++ binary_digit g.q)))

-- the same, where one of them changed
abbrev pub flags_change : Regs → Regs → List ℕ
flags_change old new = if same_flags old new then [] else codes " flags " ++ flags_text new

-- a byte under its name, where it changed
abbrev pub byte_change : List ℕ → ℕ → ℕ → List ℕ
byte_change name old new = if nat_eq old new then [] else separator ++ name ++ separator ++ hex2 new

-- the stack pointer in use and the other one, and the link register
unfoldable pub pointer_changes : Regs → Regs → List ℕ
pointer_changes old new = word_change Sp old.sp new.sp ++ (word_change Other old.other new.other ++ word_change Lr old.lr new.lr)

-- the flags, the IT byte, FPSCR and VPR
unfoldable pub status_changes : Regs → Regs → List ℕ
status_changes old new =
    flags_change old new ++ (byte_change (codes "it") old.it new.it ++ (word_change Fpscr old.fpscr new.fpscr ++ word_change Vpr old.vpr new.vpr))

-- whether there is a context, PRIMASK, whether thread mode uses the process stack, and BASEPRI
unfoldable pub control_changes : Regs → Regs → List ℕ
control_changes old new =
    bit_change (codes "fpca") old.fpca new.fpca ++ (bit_change (codes "primask") old.primask new.primask
    ++ (bit_change (codes "spsel") old.spsel new.spsel ++ byte_change (codes "basepri") old.basepri new.basepri))

-- ALL THAT CHANGED but pc and the number of the exception
unfoldable pub changes : Regs → Regs → List ℕ
changes old new =
    core_changes old.r new.r ++ (pointer_changes old new ++ (status_changes old new ++ (control_changes old new ++ vector_changes old.qw new.qw)))
