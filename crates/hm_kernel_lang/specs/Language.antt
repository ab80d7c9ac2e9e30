-- The language: what a text means, and how many steps its code takes.
use Rattle.std.specs.Prelude.{ℕ, zero, suc, ◌+◌, ◌-◌, ◌*◌, ◌/◌, ◌%◌, ◌^◌, Bool, true, false, cond, ◌&&◌, nat_le, nat_lt, max}
use Rattle.std.specs.Prelude.{List, [], ◌∷◌, length, slice_index, bit_and, bit_or, bit_xor}
use Rattle.hm_kernel_lang.specs.declared.text.ElementType.{ElementType}
use Rattle.hm_kernel_lang.specs.declared.text.ElementType.TheVariants.{U8, S8, U16, S16, U32, S32}
use Rattle.hm_kernel_lang.specs.declared.text.Op.{Op}
use Rattle.hm_kernel_lang.specs.declared.text.Op.TheVariants as op
use Rattle.hm_kernel_lang.specs.declared.text.Array.{Array}
use Rattle.hm_kernel_lang.specs.declared.text.Line.{Line}
use Rattle.hm_kernel_lang.specs.declared.text.Text.{Text}
use Rattle.hm_kernel_lang.specs.declared.text.Expr.{Expr}
use Rattle.hm_kernel_lang.specs.declared.text.Expr.TheVariants.{Name, Number, Apply'}

-- TYPES OF ELEMENTS
-- how many bytes an element has
abbrev pub bytes : ElementType → ℕ
bytes U8 = 1
bytes S8 = 1
bytes U16 = 2
bytes S16 = 2
bytes U32 = 4
bytes S32 = 4

-- how many elements a vector register has
abbrev pub lanes : ElementType → ℕ
lanes U8 = 16
lanes S8 = 16
lanes U16 = 8
lanes S16 = 8
lanes U32 = 4
lanes S32 = 4

-- how many numbers an element holds
abbrev pub modulus : ElementType → ℕ
modulus U8 = 2 ^ 8
modulus S8 = 2 ^ 8
modulus U16 = 2 ^ 16
modulus S16 = 2 ^ 16
modulus U32 = 2 ^ 32
modulus S32 = 2 ^ 32

-- whether the numbers of a type have a sign
abbrev pub is_signed : ElementType → Bool
is_signed U8 = false
is_signed S8 = true
is_signed U16 = false
is_signed S16 = true
is_signed U32 = false
is_signed S32 = true

-- MEMORY: a byte at each address
abbrev pub Bytes : Type 0
Bytes = ℕ → ℕ

-- the little-endian number of n bytes from an address on
abbrev pub little : ℕ → Bytes → ℕ → ℕ
little zero m a = 0
little (suc n) m a = m a + 256 * little n m (a + 1)

-- byte k of a number, of which byte 0 is the lowest
abbrev pub byte_of : ℕ → ℕ → ℕ
byte_of x k = x / 2 ^ (8 * k) % 256

-- n bytes from an address on take those of a number
abbrev pub with_number : ℕ → ℕ → ℕ → Bytes → Bytes
with_number n a x m b = cond (nat_le a b && nat_lt b (a + n)) (byte_of x (b - a)) (m b)

-- n elements from an address on take the values of a function
abbrev pub replaced : ElementType → ℕ → ℕ → (ℕ → ℕ) → Bytes → Bytes
replaced t a zero f m = m
replaced t a (suc n) f m = with_number (bytes t) (a + bytes t * n) (f n) (replaced t a n f m)

-- VALUES
-- where numbers have a sign, the half of them that is above all others comes before them
abbrev pub ordered : ElementType → ℕ → ℕ
ordered t x = cond (is_signed t) ((x + modulus t / 2) % modulus t) x

-- whether a number is less than another, with the sign that the type has
abbrev pub is_less : ElementType → ℕ → ℕ → Bool
is_less t x y = nat_lt (ordered t x) (ordered t y)

-- the value of an operation on two elements of a type, a sum, difference or product modulo what an element holds
abbrev pub op_value : ElementType → Op → ℕ → ℕ → ℕ
op_value t op.Add x y = (x + y) % modulus t
op_value t op.Sub x y = (x + (modulus t - y)) % modulus t
op_value t op.Mul x y = x * y % modulus t
op_value t op.Min x y = cond (is_less t y x) y x
op_value t op.Max x y = cond (is_less t x y) y x
op_value t op.And x y = bit_and x y
op_value t op.Or x y = bit_or x y
op_value t op.Xor x y = bit_xor x y

-- the value of an expression at element j, where arrays stand at these addresses in a memory
abbrev pub value : ElementType → (ℕ → ℕ) → Expr → ℕ → Bytes → ℕ
value t at (Name i) j m = little (bytes t) m (at i + bytes t * j)
value t at (Number n) j m = n
value t at (Apply' o p l q r) j m = op_value t o (value t at l j m) (value t at r j m)

-- TEXTS
-- where array i stands
abbrev pub address : List Array → ℕ → ℕ
address [] i = 0
address (a ∷ more) zero = a.addr
address (a ∷ more) (suc i) = address more i

-- MEANING
-- zeros with the values that arrays are given
abbrev pub given : ElementType → List Array → Bytes
given t [] = λ a. 0
given t (a ∷ more) = replaced t a.addr (length a.values.items) (λ j. slice_index a.values.items j) (given t more)

-- the memory before the first line of a text
abbrev pub first_memory : Text → Bytes
first_memory x = given x.element x.arrays.items

-- a line replaces each element of its array by the value in the memory before the line
abbrev pub after_line : ElementType → (ℕ → ℕ) → ℕ → Line → Bytes → Bytes
after_line t at n l m = replaced t (at l.array) n (λ j. value t at l.expr j m) m

-- the memory after these lines, one after another
abbrev pub after_lines : ElementType → (ℕ → ℕ) → ℕ → List Line → Bytes → Bytes
after_lines t at n [] m = m
after_lines t at n (l ∷ ls) m = after_lines t at n ls (after_line t at n l m)

-- what a text means: the memory after all its lines
abbrev pub meaning : Text → Bytes
meaning x = after_lines x.element (address x.arrays.items) x.count x.lines.items (first_memory x)

-- STEPS
-- how many times an expression names an array
abbrev pub names : Expr → ℕ
names (Name i) = 1
names (Number n) = 0
names (Apply' o p l q r) = names l + names r

-- how many numbers an expression has
abbrev pub numbers : Expr → ℕ
numbers (Name i) = 0
numbers (Number n) = 1
numbers (Apply' o p l q r) = numbers l + numbers r

-- how many operations an expression has
abbrev pub operations : Expr → ℕ
operations (Name i) = 0
operations (Number n) = 0
operations (Apply' o p l q r) = operations l + operations r + 1

-- how many registers an expression needs
abbrev pub need : Expr → ℕ
need (Name i) = 1
need (Number n) = 1
need (Apply' o p l q r) = max (need l) (1 + need r)

-- as many rounds of the loop as vectors of 128 bits hold n elements
abbrev pub rounds : ElementType → ℕ → ℕ
rounds t n = (n * (8 * bytes t) + 127) / 128

-- how many instructions the code of a line does, with n elements
abbrev pub line_steps : ElementType → ℕ → Expr → ℕ
line_steps t n e = 4 + rounds t n * (4 * names e + 3 * numbers e + operations e + 6)

-- how many instructions the code of these lines does, with n elements
abbrev pub lines_steps : ElementType → ℕ → List Line → ℕ
lines_steps t n [] = 0
lines_steps t n (l ∷ ls) = line_steps t n l.expr + lines_steps t n ls

-- how many instructions the code of a text does, the one that ends it counted
abbrev pub steps : Text → ℕ
steps x = lines_steps x.element x.count x.lines.items + 1
