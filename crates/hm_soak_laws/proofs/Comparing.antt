-- Registers, compared field by field.
use Rattle.std.proofs.Common.{◌≡◌, ℕ, Bool, ◌&&◌, List, ap, nat_eq}
use Rattle.std.specs.Bool.{Decides, beq}
use Rattle.std.specs.Cmp.{booleans_Decides}
use Rattle.std.specs.Str.{bytes_eq}
use Rattle.std.proofs.lemmas.Bool.Decides.{Decides-and, Decides-eqb, Decides-like}
use Rattle.std.proofs.lemmas.Slice.Eq.{bytes_eq-Decides}
use Rattle.hm_regs.specs.declared.Regs.{Regs}

-- a test of parts of registers: it decides that these are the same, as they are where the registers are
pub record Compared (x y : Regs) : Type 1 where
  pub test : Bool
  pub Same : Type 0
  pub decides : Decides test Same
  pub same : x ≡ y → Same

abbrev pub by : {A : Type 0} (test : A → A → Bool) → ((u v : A) → Decides (test u v) (u ≡ v)) → (Regs → A) → (x y : Regs) → Compared x y
by test decides f x y = record { test = test (f x) (f y); Same = f x ≡ f y; decides = decides (f x) (f y); same = λ e. ap f e }

abbrev pub flag : (Regs → Bool) → (x y : Regs) → Compared x y
flag = by beq booleans_Decides

abbrev pub compared_number : (Regs → ℕ) → (x y : Regs) → Compared x y
compared_number = by nat_eq Decides-eqb

abbrev pub words : (Regs → List ℕ) → (x y : Regs) → Compared x y
words = by bytes_eq bytes_eq-Decides

-- one test and then another
abbrev pub both : {x y : Regs} → Compared x y → Compared x y → Compared x y
both h k = record { test = h.test && k.test; Same = h.Same × k.Same; decides = Decides-and h.test k.test h.decides k.decides; same = λ e. (h.same e, k.same e) }

-- the fields in their order, as `==` of the struct tests them
abbrev pub compared : (x y : Regs) → Compared x y
compared x y =
    both (words (λ g. g.r) x y)
    (both (compared_number (λ g. g.sp) x y)
    (both (compared_number (λ g. g.other) x y)
    (both (compared_number (λ g. g.lr) x y)
    (both (compared_number (λ g. g.pc) x y)
    (both (flag (λ g. g.n) x y)
    (both (flag (λ g. g.z) x y)
    (both (flag (λ g. g.c) x y)
    (both (flag (λ g. g.v) x y)
    (both (flag (λ g. g.q) x y)
    (both (compared_number (λ g. g.it) x y)
    (both (compared_number (λ g. g.fpscr) x y)
    (both (compared_number (λ g. g.vpr) x y)
    (both (words (λ g. g.qw) x y)
    (both (flag (λ g. g.fpca) x y)
    (both (flag (λ g. g.primask) x y)
    (both (flag (λ g. g.spsel) x y)
    (both (compared_number (λ g. g.basepri) x y) (compared_number (λ g. g.ipsr) x y))))))))))))))))))

abbrev pub same_regs : Regs → Regs → Bool
same_regs x y = (compared x y).test

pub same_regs_decides : (x y : Regs) → Decides (same_regs x y) (x ≡ y)
same_regs_decides x y =
    Decides-like
    _
    (λ h i.
    record {
      r = h.0 i;
      sp = h.1.0 i;
      other = h.1.1.0 i;
      lr = h.1.1.1.0 i;
      pc = h.1.1.1.1.0 i;
      n = h.1.1.1.1.1.0 i;
      z = h.1.1.1.1.1.1.0 i;
      c = h.1.1.1.1.1.1.1.0 i;
      v = h.1.1.1.1.1.1.1.1.0 i;
      q = h.1.1.1.1.1.1.1.1.1.0 i;
      it = h.1.1.1.1.1.1.1.1.1.1.0 i;
      fpscr = h.1.1.1.1.1.1.1.1.1.1.1.0 i;
      vpr = h.1.1.1.1.1.1.1.1.1.1.1.1.0 i;
      qw = h.1.1.1.1.1.1.1.1.1.1.1.1.1.0 i;
      fpca = h.1.1.1.1.1.1.1.1.1.1.1.1.1.1.0 i;
      primask = h.1.1.1.1.1.1.1.1.1.1.1.1.1.1.1.0 i;
      spsel = h.1.1.1.1.1.1.1.1.1.1.1.1.1.1.1.1.0 i;
      basepri = h.1.1.1.1.1.1.1.1.1.1.1.1.1.1.1.1.1.0 i;
      ipsr = h.1.1.1.1.1.1.1.1.1.1.1.1.1.1.1.1.1.1 i;
    })
    (compared x y).same
    (compared x y).decides
