-- Which steps leave steps of their instruction behind them, and what all steps that are left do.
use Rattle.std.proofs.Common.{◌≡◌, ℕ, suc, ◌+◌, ◌<◌, ◌≤◌, arith, ap, refl, sym, ◌∙◌, subst, not, IsTrue, Option, Result, Ok, Err}
use Rattle.hm_base.specs.declared.Fault.{Fault}
use Rattle.hm_codes.specs.Listing.{IsListing, Listing, Stands}
use Rattle.hm_run_laws.specs.Nested.{NestedStep, step, steps, to_end}
use Rattle.hm_isa.specs.declared.Instr.{Instr}
use Rattle.hm_isa.specs.declared.Instr.TheVariants as instr
use Rattle.hm_isa.specs.declared.Vector.{Vector}
use Rattle.hm_cpu.proofs.Keeping.{listed_still, moved_flash, moves_then}
use Rattle.hm_cpu.proofs.OneStep.{one_step}
use Rattle.hm_cpu.proofs.Nestings.{lifted, none_active, sound_under, step_stays, thread_steps}
use Rattle.hm_recent.proofs.Rows.{listed_here}
use Rattle.hm_cpu.specs.Cpus.{CountsOne, IsPosition, IsSoundUnder, IsThread, IsUnder, LeavesTheRest, KeepsFlash, config_of, nested_of, reached, stepped}
use Rattle.hm_cpu.specs.declared.cpu.Cpu.{Cpu}
use Rattle.hm_cpu.specs.declared.step_ends.LetterEnd.{LetterEnd}
use Rattle.hm_mem.specs.Memory.{flash_at, memory_of}
use Rattle.hm_order.specs.Beats.{then}
use Rattle.hm_order.specs.Machine.{older}
use Rattle.hm_order.specs.InFlight.{Older}
use Rattle.hm_run.proofs.Steps.{no_row}
use Rattle.hm_run.specs.Program.{core, steps_left, vector_in, vector_of}
use Rattle.hm_run.specs.declared.Cause.{Cause}
use Rattle.hm_sched.specs.Schedule.{Sched}
use Rattle.hm_state.specs.State.{state_of}
use Rattle.hm_thumb.specs.Families.{is_vector_row}

-- a beat before the last
pub beats_go_on : (v : Vector) (old new : Cpu) → (old.window.a < 3 → (new.regs.pc ≡ old.regs.pc) × (new.window.a ≡ old.window.a + 1))
    → new.acts ≡ old.acts → LeavesTheRest (instr.Vector v) old new
beats_go_on v old new stays acts = λ more.
    let here = stays (omega (arith, more)) in
    (here.0, omega (arith, more, here.1), acts)

-- what stands at the program counter stands there still
pub stands_still : {x y : Cpu} → KeepsFlash x y → y.regs.pc ≡ x.regs.pc → (i : Instr) → Stands (flash_at (memory_of x.mem)) x.regs.pc i
    → Stands (flash_at (memory_of y.mem)) y.regs.pc i
stands_still {x} {y} moves same i stands =
    subst (λ (f : ℕ → ℕ). Stands f y.regs.pc i) (sym (moved_flash moves))
    (subst (λ (a : ℕ). Stands (flash_at (memory_of x.mem)) a i) (sym same) stands)

-- the steps that an instruction has left do it to its end
pub whole_left : (i : Instr) (x : Cpu) → Stands (flash_at (memory_of x.mem)) x.regs.pc i → (listing : Listing) (s : Sched)
    → IsListing (flash_at (memory_of x.mem)) listing → (left : ℕ) → left ≡ steps_left (vector_in i) x.window.a
    → steps listing s left (nested_of x) ≡ to_end listing s (nested_of x)
unfolding state_of
whole_left i x stands listing s is left e =
    ap (λ (k : ℕ). steps listing s k (nested_of x)) e
    ∙ sym (ap (λ (r : Result Instr Fault). steps listing s (steps_left (vector_of r) x.window.a) (nested_of x))
    (listed_here listing (flash_at (memory_of x.mem)) x.regs.pc (Ok i) is stands))

-- A STEP of the older, by what it answered and where it left the machine
abbrev pub IsStep : Result Unit LetterEnd → Cpu → Cpu → Type 0
IsStep r y z = (listing : Listing) (s : Sched) → IsListing (flash_at (memory_of y.mem)) listing → IsSoundUnder s y
    → stepped r z ≡ step listing s Older (nested_of y)

-- one of the thread
pub thread_goes : (i : Instr) (y z : Cpu) (r : Result Unit Cause) → IsThread y → Stands (flash_at (memory_of y.mem)) y.regs.pc i
    → z.acts ≡ y.acts
    → ((listing : Listing) → listing y.regs.pc ≡ Ok i → reached r z ≡ older (core listing (memory_of y.mem).around) (config_of y)) → IsStep (lifted r) y z
thread_goes i y z r none stands same value listing s is sound =
    thread_steps listing s y (sound_under s y sound) z r (none_active y none) same
    (value listing (listed_here listing (flash_at (memory_of y.mem)) y.regs.pc (Ok i) is stands))

-- one of a handler
pub handler_goes : (i : Instr) (y z : Cpu) (r : Result Unit LetterEnd) → Stands (flash_at (memory_of y.mem)) y.regs.pc i
    → ((listing : Listing) (s : Sched) → listing y.regs.pc ≡ Ok i → IsUnder s y → stepped r z ≡ step listing s Older (nested_of y)) → IsStep r y z
handler_goes i y z r stands value listing s is sound =
    value listing s (listed_here listing (flash_at (memory_of y.mem)) y.regs.pc (Ok i) is stands) (sound_under s y sound)

-- one that does an instruction to its end, since that has no beats
pub at_once : (i : Instr) (x z : Cpu) (r : Result Unit LetterEnd) → IsTrue (not (is_vector_row i)) → Stands (flash_at (memory_of x.mem)) x.regs.pc i
    → IsStep r x z → (listing : Listing) (s : Sched) → IsListing (flash_at (memory_of x.mem)) listing → IsSoundUnder s x
    → stepped r z ≡ to_end listing s (nested_of x)
at_once i x z r other stands goes listing s is sound =
    goes listing s is sound ∙ one_step listing s (nested_of x)
    ∙ whole_left i x stands listing s is 1 (sym (ap (λ (o : Option Vector). steps_left o x.window.a) (no_row i other)))

-- THE WAY OF AN INSTRUCTION to its end: it stood at x, and so many of its steps are left at y
pub record HasLeft (i : Instr) (n : ℕ) (x y : Cpu) : Type 0 where
  pub value : (listing : Listing) (s : Sched) → IsListing (flash_at (memory_of x.mem)) listing → IsSoundUnder s x
      → steps listing s n (nested_of y) ≡ to_end listing s (nested_of x)
  pub sound : (s : Sched) → IsSoundUnder s x → IsSoundUnder s y
  pub moves : KeepsFlash x y
  pub position : IsPosition y
  pub retired : y.retired + n ≤ x.retired + 4
  pub counted : y.older_steps + n ≤ x.older_steps + 4
  pub stands : 0 < n → Stands (flash_at (memory_of y.mem)) y.regs.pc i
  pub left : 0 < n → steps_left (vector_in i) y.window.a ≡ n

few_left : (o : Option Vector) (a : ℕ) → steps_left o a ≤ 4
few_left o a = grind arith

-- all that it has left
pub all_left : (i : Instr) (x : Cpu) (n : ℕ) → n ≡ steps_left (vector_in i) x.window.a → Stands (flash_at (memory_of x.mem)) x.regs.pc i → IsPosition x
    → HasLeft i n x x
all_left i x n e stands position =
    let few : steps_left (vector_in i) x.window.a ≤ 4 = few_left (vector_in i) x.window.a in record {
      value = λ listing s is sound. whole_left i x stands listing s is n e;
      sound = λ s sound. sound;
      moves = record { flash = refl; places = refl; room = refl };
      position = position;
      retired = omega (arith, few, e);
      counted = omega (arith, few, e);
      stands = λ some. stands;
      left = λ some. sym e;
    }

module _ (i : Instr) (n m : ℕ) (x y z : Cpu) (next : n ≡ m + 1) (h : HasLeft i n x y) where
  was_left : steps_left (vector_in i) y.window.a ≡ n
  was_left = h.left (omega (arith, next))

  more_left : 0 < m → 1 < steps_left (vector_in i) y.window.a
  more_left some = omega (arith, next, was_left)

  -- what a step more answers, and the steps behind it
  answered : (r : Result Unit LetterEnd) → IsStep r y z → (listing : Listing) (s : Sched) → IsListing (flash_at (memory_of x.mem)) listing → IsSoundUnder s x
      → then (stepped r z) (steps listing s m) ≡ to_end listing s (nested_of x)
  answered r goes listing s is sound =
      let more : n ≡ suc m = omega (arith, next) in
      ap (λ (q : NestedStep). then q (steps listing s m)) (goes listing s (listed_still h.moves listing is) (h.sound s sound))
      ∙ sym (ap (λ (k : ℕ). steps listing s k (nested_of y)) more)
      ∙ h.value listing s is sound

  -- one that does not go on
  pub ends_there : (e : LetterEnd) → IsStep (Err e) y z → (listing : Listing) (s : Sched) → IsListing (flash_at (memory_of x.mem)) listing → IsSoundUnder s x
      → stepped (Err e) z ≡ to_end listing s (nested_of x)
  ends_there e goes = answered (Err e) goes

  -- one that goes on
  pub one_less : IsStep (Ok tt) y z → LeavesTheRest i y z → KeepsFlash y z → IsPosition z → CountsOne y z → HasLeft i m x z
  one_less goes stays moves position count = record {
    value = answered (Ok tt) goes;
    sound = λ s sound. step_stays s Older y z (Ok tt) goes (h.sound s sound);
    moves = moves_then h.moves moves;
    position = position;
    retired = omega (arith, next, count.0, h.retired);
    counted = omega (arith, next, count.1, h.counted);
    stands = λ some. stands_still moves (stays (more_left some)).0 i (h.stands (omega (arith, next)));
    left = λ some. omega (arith, next, was_left, (stays (more_left some)).1);
  }

-- none is left
pub all_done : (i : Instr) (n : ℕ) (x y : Cpu) → HasLeft i n x y → n ≡ 0 → (listing : Listing) (s : Sched) → IsListing (flash_at (memory_of x.mem)) listing
    → IsSoundUnder s x → stepped (Ok tt) y ≡ to_end listing s (nested_of x)
all_done i n x y h none listing s is sound = sym (ap (λ (k : ℕ). steps listing s k (nested_of y)) none) ∙ h.value listing s is sound
