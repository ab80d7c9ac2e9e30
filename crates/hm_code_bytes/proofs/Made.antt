-- Instructions that are made of their fields are the rows that they are meant to be; and each row whose fields hold what they should is an instruction.
use Rattle.std.proofs.Common.{◌≡◌, ℕ, ◌/◌, ◌%◌, ◌<◌, List, [], ◌∷◌, ◌++◌, refl, arith}
use Rattle.std.specs.List.{AllByRecursion, AllZip}
use Rattle.std.specs.Prelude.{IsTrue}
use Rattle.std.proofs.lemmas.Bool.Decides.{nat_tests}
use Rattle.hm_isa.specs.declared.Instr.{Instr}
use Rattle.hm_isa.specs.declared.Instr.TheVariants as instr
use Rattle.hm_isa.specs.declared.Scalar.TheVariants as scalar
use Rattle.hm_isa.specs.declared.Vector.TheVariants as vector
use Rattle.hm_isa.specs.declared.data.T4.{T4}
use Rattle.hm_isa.specs.declared.data.HalfName.{HalfName}
use Rattle.hm_isa.specs.declared.fields.Below.{Below}
use Rattle.hm_isa.specs.declared.narrow.S4.{S4}
use Rattle.hm_isa.specs.declared.narrow.S18.{S18}
use Rattle.hm_isa.specs.declared.narrow.ByteName.{ByteName}
use Rattle.hm_isa.specs.declared.vectors.AddName.{AddName}
use Rattle.hm_isa.specs.declared.vectors.BitwiseName.{BitwiseName}
use Rattle.hm_isa.specs.declared.vectors.Element.{Element}
use Rattle.hm_isa.specs.declared.vectors.SignedName.{SignedName}
use Rattle.hm_isa.specs.declared.vectors.V1.{V1}
use Rattle.hm_isa.specs.declared.vectors.V2.{V2}
use Rattle.hm_isa.specs.declared.vectors.V3.{V3}
use Rattle.hm_isa.specs.declared.vectors.V18.{V18}
use Rattle.hm_isa.specs.Rules.{is_general}
use Rattle.hm_code_bytes.specs.Instructions.{IsAddRow, IsBitwiseRow, IsBreakpointRow, IsByteRow, IsDuplicateRow, IsHalfRow, IsSignedRow}

-- MADE OF THEIR FIELDS
pub byte_made : (row : S4) (name : ByteName) (d x : ℕ) → row.name ≡ name → row.d.value ≡ d → row.i.value ≡ x → IsByteRow name d x (instr.Scalar (scalar.S4 row))
byte_made row name d x n e f = record { row = row; is = refl; name_is = n; d_is = e; x_is = f }

pub half_made : (row : T4) (name : HalfName) (d x : ℕ) → row.name ≡ name → row.d.value ≡ d → row.i4.value ≡ x / 4096 → row.i.value ≡ x / 2048 % 2
    → row.i3.value ≡ x / 256 % 8 → row.i8.value ≡ x % 256
    → IsHalfRow name d x (instr.Scalar (scalar.T4 row))
half_made row name d x n e f g h k = record { row = row; is = refl; name_is = n; d_is = e; x_is = omega arith }

pub breakpoint_made : (row : S18) (x : ℕ) → row.i.value ≡ x → IsBreakpointRow x (instr.Scalar (scalar.S18 row))
breakpoint_made row x e = record { row = row; is = refl; x_is = e }

pub duplicate_made : (row : V18) (size : Element) (d t : ℕ) → row.size ≡ size → row.d.value ≡ d → row.t.value ≡ t
    → IsDuplicateRow size d t (instr.Vector (vector.V18 row))
duplicate_made row size d t e f g = record { row = row; is = refl; size_is = e; d_is = f; t_is = g }

pub add_made : (row : V1) (z : ℕ) (name : AddName) (d n m : ℕ) → row.z.value ≡ z → row.name ≡ name → row.n.value ≡ n → row.d.value ≡ d → row.m.value ≡ m
    → IsAddRow z name d n m (instr.Vector (vector.V1 row))
add_made row z name d n m s e f g h = record { row = row; is = refl; name_is = e; z_is = s; d_is = g; n_is = f; m_is = h }

pub bitwise_made : (row : V2) (name : BitwiseName) (d n m : ℕ) → row.name ≡ name → row.n.value ≡ n → row.d.value ≡ d → row.m.value ≡ m
    → IsBitwiseRow name d n m (instr.Vector (vector.V2 row))
bitwise_made row name d n m e f g h = record { row = row; is = refl; name_is = e; d_is = g; n_is = f; m_is = h }

pub signed_made : (row : V3) (u z : ℕ) (name : SignedName) (d n m : ℕ) → row.u.value ≡ u → row.z.value ≡ z → row.name ≡ name → row.n.value ≡ n
    → row.d.value ≡ d → row.m.value ≡ m
    → IsSignedRow u z name d n m (instr.Vector (vector.V3 row))
signed_made row u z name d n m s t e f g h = record { row = row; is = refl; name_is = e; u_is = s; z_is = t; d_is = g; n_is = f; m_is = h }

-- ROWS whose numbers are in their ranges are there
abbrev pub field : {limit : ℕ} (n : ℕ) → n < limit → Below limit
field n h = record { value = n; in_range = h }

general : (d : ℕ) → d < 13 → IsTrue (is_general d)
general d h = grind (arith, nat_tests)

pub some_byte : (name : ByteName) (d x : ℕ) → d < 8 → x < 256 → (i : Instr) × IsByteRow name d x i
some_byte name d x h k =
    let row : S4 = record { name = name; d = field d h; i = field x k } in
    (instr.Scalar (scalar.S4 row), byte_made row name d x refl refl refl)

pub some_half : (name : HalfName) (d x : ℕ) → d < 13 → x < 65536 → (i : Instr) × IsHalfRow name d x i
some_half name d x h k =
    let row : T4 = record {
      name = name;
      d = field d (omega arith);
      i4 = field (x / 4096) (omega arith);
      i = field (x / 2048 % 2) (omega arith);
      i3 = field (x / 256 % 8) (omega arith);
      i8 = field (x % 256) (omega arith);
      rules = general d h;
    } in
    (instr.Scalar (scalar.T4 row), half_made row name d x refl refl refl refl refl refl)

pub some_breakpoint : (x : ℕ) → x < 256 → (i : Instr) × IsBreakpointRow x i
some_breakpoint x h =
    let row : S18 = record { i = field x h } in
    (instr.Scalar (scalar.S18 row), breakpoint_made row x refl)

pub some_duplicate : (size : Element) (d t : ℕ) → d < 8 → t < 13 → (i : Instr) × IsDuplicateRow size d t i
some_duplicate size d t h k =
    let row : V18 = record { size = size; d = field d h; t = field t (omega arith); not_sp = λ e. omega arith; not_pc = λ e. omega arith } in
    (instr.Vector (vector.V18 row), duplicate_made row size d t refl refl refl)

pub some_add : (z : ℕ) (name : AddName) (d n m : ℕ) → z < 3 → d < 8 → n < 8 → m < 8 → (i : Instr) × IsAddRow z name d n m i
some_add z name d n m s a b c =
    let row : V1 = record { name = name; z = field z s; n = field n b; d = field d a; m = field m c } in
    (instr.Vector (vector.V1 row), add_made row z name d n m refl refl refl refl refl)

pub some_bitwise : (name : BitwiseName) (d n m : ℕ) → d < 8 → n < 8 → m < 8 → (i : Instr) × IsBitwiseRow name d n m i
some_bitwise name d n m a b c =
    let row : V2 = record { name = name; n = field n b; d = field d a; m = field m c } in
    (instr.Vector (vector.V2 row), bitwise_made row name d n m refl refl refl refl)

pub some_signed : (u z : ℕ) (name : SignedName) (d n m : ℕ) → u < 2 → z < 3 → d < 8 → n < 8 → m < 8 → (i : Instr) × IsSignedRow u z name d n m i
some_signed u z name d n m s t a b c =
    let row : V3 = record { name = name; u = field u s; z = field z t; n = field n b; d = field d a; m = field m c } in
    (instr.Vector (vector.V3 row), signed_made row u z name d n m refl refl refl refl refl refl)

-- ITEMS of any kind, where R says which instruction one is
pub some_items : {X : Type 0} (Fits : X → Type 0) (R : X → Instr → Type 0) → ((x : X) → Fits x → (i : Instr) × R x i) → (xs : List X)
    → AllByRecursion Fits xs → (is : List Instr) × AllZip R xs is
some_items Fits R some [] h = ([], tt)
some_items Fits R some (x ∷ xs) h =
    let one = some x h.0 in
    let others = some_items Fits R some xs h.1 in
    (one.0 ∷ others.0, (one.1, others.1))

pub fit_append : {X : Type 0} (Fits : X → Type 0) (xs ys : List X) → AllByRecursion Fits xs → AllByRecursion Fits ys → AllByRecursion Fits (xs ++ ys)
fit_append Fits [] ys h k = k
fit_append Fits (x ∷ xs) ys h k = (h.0, fit_append Fits xs ys h.1 k)

pub items_append : {X : Type 0} (R : X → Instr → Type 0) (xs ys : List X) (is js : List Instr) → AllZip R xs is → AllZip R ys js
    → AllZip R (xs ++ ys) (is ++ js)
items_append R [] ys [] js h k = k
items_append R [] ys (i ∷ is) js h k = absurd h
items_append R (x ∷ xs) ys [] js h k = absurd h
items_append R (x ∷ xs) ys (i ∷ is) js h k = (h.0, items_append R xs ys is js h.1 k)
