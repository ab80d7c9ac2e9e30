-- What the code does on any machine that has the rows.
use Rattle.std.specs.Prelude.{◌≡◌, ℕ, zero, suc, ◌+◌, ◌*◌, ◌%◌, ◌<◌, ◌≤◌, ◌⊎◌, List, [], ◌∷◌, Result, Ok, Err}
use Rattle.hm_kernel_lang.specs.declared.text.ElementType.{ElementType}
use Rattle.hm_kernel_lang.specs.declared.text.Expr.{Expr}
use Rattle.hm_kernel_lang.specs.declared.text.Expr.TheVariants.{Name, Number, Apply'}
use Rattle.hm_kernel_lang.specs.declared.text.Line.{Line}
use Rattle.hm_kernel_lang.specs.Language.{Bytes, bytes, modulus, need}
use Rattle.hm_kernel_lang.specs.declared.machine.Item.{Item}
use Rattle.hm_kernel_lang.specs.declared.machine.Item.TheVariants.{Plain, Begin, Again, Stop}
use Rattle.hm_kernel_lang.specs.declared.machine.Kind.{Kind}
use Rattle.hm_kernel_lang.specs.Machine.{View, Can, again, begun, exec, item_halves, size_code}

-- ANY MACHINE
-- what follows on a step that goes on
abbrev pub and_then : {S E : Type 0} → (S → Result S E) → Result S E → Result S E
and_then f (Ok s) = f s
and_then f (Err e) = Err e

-- n steps, or the first that does not go on
abbrev pub goes : {S E : Type 0} → (S → Result S E) → ℕ → S → Result S E
goes next zero s = Ok s
goes next (suc n) s = and_then (goes next n) (next s)

-- n steps lead to a state that shows this
pub record Reaches {S E : Type 0} (next : S → Result S E) (Shows : View → S → Type 0) (n : ℕ) (s : S) (v : View) : Type 0 where
  pub to : S
  pub comes : goes next n s ≡ Ok to
  pub shows : Shows v to

-- THE ROWS: each instruction, where it stands and may be done, does to the machine what it does to what the machine shows
pub record Rows {S E : Type 0} (t : ElementType) (next : S → Result S E) (Shows : View → S → Type 0) (Stands : ℕ → Item → Type 0) : Type 0 where
  pub plain : (k : Kind) (v : View) (s : S) → Shows v s → Stands v.pc (Plain k) → Can t k v → Reaches next Shows 1 s (exec t k v)
  pub begin : (h : ℕ) (v : View) (s : S) → Shows v s → Stands v.pc (Begin h) → Reaches next Shows 1 s (begun t h v)
  pub again : (h : ℕ) (v : View) (s : S) → Shows v s → Stands v.pc (Again h) → v.size ≡ size_code t → Reaches next Shows 1 s (again t h v)

-- items stand one behind another
abbrev pub CodeStands : (ℕ → Item → Type 0) → ℕ → List Item → Type 0
CodeStands Stands a [] = Unit {0}
CodeStands Stands a (i ∷ is) = Stands a i × CodeStands Stands (a + 2 * item_halves i) is

-- LINES that are fine
-- n elements stand in SRAM from an address on, each aligned
pub record IsPlaced (t : ElementType) (n a : ℕ) : Type 0 where
  pub aligned : a % bytes t ≡ 0
  pub low : 0x20000000 ≤ a
  pub high : a + bytes t * n ≤ 0x20040000

-- two arrays are one, or share no byte
abbrev pub AreApart : ElementType → ℕ → ℕ → ℕ → Type 0
AreApart t n a b = (a ≡ b) ⊎ ((a + bytes t * n ≤ b) ⊎ (b + bytes t * n ≤ a))

-- each name of an expression is of an array that is placed and apart from the one that is set, and each number is one of the type
abbrev pub IsFine : ElementType → (ℕ → ℕ) → ℕ → ℕ → Expr → Type 0
IsFine t at n a (Name i) = IsPlaced t n (at i) × AreApart t n (at i) a
IsFine t at n a (Number k) = k < modulus t
IsFine t at n a (Apply' o p l q r) = IsFine t at n a l × IsFine t at n a r

-- a line is fine: its arrays are placed and apart, its numbers are of the type, and eight registers do for it
pub record IsLine (t : ElementType) (at : ℕ → ℕ) (n : ℕ) (l : Line) : Type 0 where
  pub target : IsPlaced t n (at l.array)
  pub names : IsFine t at n (at l.array) l.expr
  pub shallow : need l.expr ≤ 8

-- each of these lines is fine
abbrev pub AreLines : ElementType → (ℕ → ℕ) → ℕ → List Line → Type 0
AreLines t at n [] = Unit {0}
AreLines t at n (l ∷ ls) = IsLine t at n l × AreLines t at n ls

-- THE CODE OF LINES leads in its number of steps to the instruction that ends it, and memory is what the lines make of it
pub record Ends {S E : Type 0} (next : S → Result S E) (Shows : View → S → Type 0) (Stands : ℕ → Item → Type 0) (n : ℕ) (s : S) (m : Bytes) : Type 0 where
  pub view : View
  pub reaches : Reaches next Shows n s view
  pub stop : Stands view.pc Stop
  pub memory : view.byte ≡ m
