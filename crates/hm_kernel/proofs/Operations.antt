-- Operations on elements, and numbers in each of them.
use Rattle.std.proofs.Common.{◌≡◌, ℕ, zero, suc, ◌+◌, ◌-◌, ◌*◌, ◌/◌, ◌%◌, ◌^◌, ◌<◌, ◌≤◌, true, false, cond, ◌&&◌, ltb, nat_eq, get_or, length, List, [], ◌∷◌}
use Rattle.std.proofs.Common.{replicate, refl, sym, ap, ◌∙◌, subst, arith}
use Rattle.std.specs.Prelude.{ℤ, pos, ◌+ℤ◌, ◌-ℤ◌, unsigned_abs, Ok}
use Rattle.std.proofs.lemmas.Int.{ints}
use Rattle.std.proofs.lemmas.List.{length-replicate}
use Rattle.std.proofs.lemmas.Int.{int_rem_euclid_is}
use Rattle.hm_base.specs.declared.Place.TheVariants.{R}
use Rattle.hm_beat.specs.Rows.{predicate_at, register_at}
use Rattle.hm_codes.specs.Listing.{Listing}
use Rattle.hm_forms_elements.specs.declared.lanes.Lanes.{Lanes}
use Rattle.hm_lane_fns.specs.Registers.{in_each_lane, operand_register}
use Rattle.hm_forms_elements.specs.Registers.{lanes_result, lanes_saturated, lanes_whole}
use Rattle.hm_isa.specs.declared.Instr.{Instr}
use Rattle.hm_isa.specs.declared.Instr.TheVariants as instr
use Rattle.hm_isa.specs.declared.Vector.TheVariants as vector
use Rattle.hm_isa.specs.declared.vectors.AddName.{AddName}
use Rattle.hm_isa.specs.declared.vectors.AddName.TheVariants as add
use Rattle.hm_lane.specs.declared.lanes.Size.{Size}
use Rattle.hm_lane.specs.declared.lanes.Size.TheVariants.{Byte as OneByte, Half, Word}
use Rattle.hm_lane.specs.Lanes as list
use Rattle.hm_lane.specs.Lanes.{unlanes}
use Rattle.hm_lane.proofs.LaneLists.{lanes-unlanes}
use Rattle.hm_lane_fns.specs.LaneFns.{lane_of, lane_value, saturates}
use Rattle.hm_lane_fns.specs.declared.functions.LaneFn.TheVariants as fn
use Rattle.hm_lane_fns.specs.declared.words.Operand.TheVariants as by
use Rattle.hm_lane_fns.specs.Words.{any_both, element_size, lanewise3, size_of, tripled}
use Rattle.hm_rows.specs.Rows.{add_fn}
use Rattle.hm_run.specs.Program as program
use Rattle.hm_state.specs.State.{State, at}
use Rattle.hm_kernel_lang.specs.declared.text.ElementType.{ElementType}
use Rattle.hm_kernel_lang.specs.declared.text.ElementType.TheVariants.{U8, S8, U16, S16, U32, S32}
use Rattle.hm_kernel_lang.specs.declared.text.Op.TheVariants as op
use Rattle.hm_kernel_lang.specs.Language.{lanes, modulus, op_value}
use Rattle.hm_kernel_lang.specs.declared.machine.Item.TheVariants.{Plain}
use Rattle.hm_kernel_lang.specs.declared.machine.Kind.TheVariants.{Splat, Do}
use Rattle.hm_kernel_lang.specs.Machine.{View, exec, merged, size_code}
use Rattle.hm_kernel_lang.specs.Correct.{Reaches}
use Rattle.hm_kernel.specs.Shows.{Shows, element_at, size_of_type}
use Rattle.hm_code_bytes.specs.Instructions.{IsAddRow}
use Rattle.hm_kernel_instrs.specs.Instructions.{element_name}
use Rattle.hm_kernel.specs.Standing.{Stands}
use Rattle.hm_kernel.proofs.Merging.{AllBytes, length_lanes}
use Rattle.hm_kernel.proofs.CoreSteps.{reached}
use Rattle.hm_order.proofs.Results.{decide}
use Rattle.hm_kernel.proofs.Vectors.{after_merge, bytes_unlanes, comes_to, get_tripled, in_loop, lane_below, size_is, tripled_below}

abbrev AllBelow : ℕ → List ℕ → Type 0
AllBelow n [] = Unit {0}
AllBelow n (x ∷ xs) = (x < n) × AllBelow n xs

length_tripled : (g : ℕ → ℕ → ℕ → ℕ) (n : ℕ) (cs xs ys : List ℕ) → length cs ≡ n → length xs ≡ n → length ys ≡ n → length (tripled g cs xs ys) ≡ n
length_tripled g zero [] xs ys h i k = refl
length_tripled g (suc n) (c ∷ cs) (x ∷ xs) (y ∷ ys) h i k = ap suc (length_tripled g n cs xs ys (omega arith) (omega arith) (omega arith))
length_tripled g n cs xs ys h i k = absurd (omega arith)

length_ones : (l : List ℕ) → length (unlanes OneByte l) ≡ length l
length_ones [] = refl
length_ones (x ∷ l) = ap suc (length_ones l)

length_pairs : (l : List ℕ) → length (unlanes Half l) ≡ 2 * length l
length_pairs [] = refl
length_pairs (x ∷ l) = let e = length_pairs l in omega arith

length_fours : (l : List ℕ) → length (unlanes Word l) ≡ 4 * length l
length_fours [] = refl
length_fours (x ∷ l) = let e = length_fours l in omega arith

pub length_unlanes : (t : ElementType) (l : List ℕ) → length l ≡ lanes t → length (unlanes (size_of_type t) l) ≡ 16
length_unlanes U8 l h = length_ones l ∙ h
length_unlanes S8 l h = length_ones l ∙ h
length_unlanes U16 l h = let e = length_pairs l in omega arith
length_unlanes S16 l h = let e = length_pairs l in omega arith
length_unlanes U32 l h = let e = length_fours l in omega arith
length_unlanes S32 l h = let e = length_fours l in omega arith

-- A ROW OF LANES, where what its function gives of each element is known
module _ (t : ElementType) (l : Lanes) (v : View) (s : State) (h : Shows t v s) (size : v.size ≡ size_code t) (z_is : l.z ≡ size_of_type t)
    (q n : ℕ) (d_is : l.d.value ≡ q) (n_is : l.n.value ≡ n) (room : q < 8) (room_n : n < 8)
    (ys : List ℕ) (y_is : operand_register l.z l.by s ≡ ys) (y_count : length (list.lanes (size_of_type t) ys) ≡ lanes t)
    (f : ℕ → ℕ) (is : (e : ℕ) → e < lanes t
    → lane_of l.f l.unsigned (size_of_type t) (v.lane q e) (v.lane n e) (get_or (list.lanes (size_of_type t) ys) e 0) ≡ f e) where
  abbrev g : ℕ → ℕ → ℕ → ℕ
  g = lane_of l.f l.unsigned (size_of_type t)

  abbrev given : List ℕ
  given = tripled g (list.lanes (size_of_type t) (register_at q s)) (list.lanes (size_of_type t) (register_at n s)) (list.lanes (size_of_type t) ys)

  result_is : lanes_result l s ≡ unlanes (size_of_type t) given
  result_is = λ j. lanewise3 (z_is j) (lane_of l.f l.unsigned (z_is j)) (register_at (d_is j) s) (register_at (n_is j) s) (y_is j)

  many : length given ≡ lanes t
  many = length_tripled g (lanes t) _ _ _ (length_lanes t (register_at q s) refl) (length_lanes t (register_at n s) refl) y_count

  element_is : (e : ℕ) → e < lanes t → get_or (list.lanes (size_of_type t) (unlanes (size_of_type t) given)) e 0 ≡ f e
  element_is e k =
      ap (λ (x : List ℕ). get_or x e 0)
      (lanes-unlanes (size_of_type t) given
      (tripled_below (list.modulus (size_of_type t)) g (λ c a b. lane_below l.f l.unsigned (size_of_type t) c a b) _ _ _))
      ∙ get_tripled g (lanes t) _ _ _ e k (length_lanes t (register_at q s) refl) (length_lanes t (register_at n s) refl) y_count
      ∙ (λ j. g (h.lane q e room k j) (h.lane n e room_n k j) (get_or (list.lanes (size_of_type t) ys) e 0))
      ∙ is e k

  pub lane_row : Shows t (record v { pc = v.pc + 4; lane = merged q f v }) (lanes_whole l s)
  lane_row = after_merge t v s h size l.d.value q d_is room (lanes_result l s)
      (ap length result_is ∙ length_unlanes t given many)
      (subst AllBytes (sym result_is) (bytes_unlanes (size_of_type t) given))
      f (λ e k. ap (λ (x : List ℕ). get_or (list.lanes (size_of_type t) x) e 0) result_is ∙ element_is e k)
      (saturates l.f && any_both (predicate_at s) (lanes_saturated l s))

-- SUMS AND DIFFERENCES are those of numbers without a sign
pub record IsNumber (z : Size) (x : ℕ) : Type 0 where
  pub times : ℕ
  pub few : times ≤ 1
  pub is : lane_value false z x +ℤ pos (times * list.modulus z) ≡ pos x

pub as_number : (z : Size) (x : ℕ) → IsNumber z x
as_number OneByte x = decide (ltb x (2 ^ 7))
    (λ e. record {
      times = 0;
      few = omega arith;
      is = (λ j. cond (e j) (pos x) (pos x -ℤ pos (2 ^ 8)) +ℤ pos 0)
          ∙ (let g : pos x +ℤ pos 0 ≡ pos x = omega (arith, ints) in g);
    })
    (λ e. record {
      times = 1;
      few = omega arith;
      is = (λ j. cond (e j) (pos x) (pos x -ℤ pos (2 ^ 8)) +ℤ pos (2 ^ 8))
          ∙ (let g : (pos x -ℤ pos (2 ^ 8)) +ℤ pos (2 ^ 8) ≡ pos x = omega (arith, ints) in g);
    })
as_number Half x = decide (ltb x (2 ^ 15))
    (λ e. record {
      times = 0;
      few = omega arith;
      is = (λ j. cond (e j) (pos x) (pos x -ℤ pos (2 ^ 16)) +ℤ pos 0)
          ∙ (let g : pos x +ℤ pos 0 ≡ pos x = omega (arith, ints) in g);
    })
    (λ e. record {
      times = 1;
      few = omega arith;
      is = (λ j. cond (e j) (pos x) (pos x -ℤ pos (2 ^ 16)) +ℤ pos (2 ^ 16))
          ∙ (let g : (pos x -ℤ pos (2 ^ 16)) +ℤ pos (2 ^ 16) ≡ pos x = omega (arith, ints) in g);
    })
as_number Word x = decide (ltb x (2 ^ 31))
    (λ e. record {
      times = 0;
      few = omega arith;
      is = (λ j. cond (e j) (pos x) (pos x -ℤ pos (2 ^ 32)) +ℤ pos 0)
          ∙ (let g : pos x +ℤ pos 0 ≡ pos x = omega (arith, ints) in g);
    })
    (λ e. record {
      times = 1;
      few = omega arith;
      is = (λ j. cond (e j) (pos x) (pos x -ℤ pos (2 ^ 32)) +ℤ pos (2 ^ 32))
          ∙ (let g : (pos x -ℤ pos (2 ^ 32)) +ℤ pos (2 ^ 32) ≡ pos x = omega (arith, ints) in g);
    })

sum_numbers : (x y : ℤ) (m k l a b : ℕ) → x +ℤ pos (k * m) ≡ pos a → y +ℤ pos (l * m) ≡ pos b → (x +ℤ y) +ℤ pos ((k + l) * m) ≡ pos (a + b)
sum_numbers x y m k l a b h i = let e : (k + l) * m ≡ k * m + l * m = grind arith in omega (arith, ints)

pub some_modulus : (z : Size) → 0 < list.modulus z
some_modulus z = grind arith

pub add_is : (z : Size) (c a b : ℕ) → lane_of fn.Add false z c a b ≡ (a + b) % list.modulus z
add_is z c a b =
    let x = as_number z a in
    let y = as_number z b in
    ap unsigned_abs (int_rem_euclid_is (lane_value false z a +ℤ lane_value false z b) (pos (list.modulus z)) (list.modulus z) (x.times + y.times) (a + b)
    (some_modulus z) refl (sum_numbers (lane_value false z a) (lane_value false z b) (list.modulus z) x.times y.times a b x.is y.is))

pub modulus_is : (t : ElementType) → list.modulus (size_of_type t) ≡ modulus t
modulus_is t = grind arith

-- DIFFERENCES
diff_numbers : (x y : ℤ) (m k l a b : ℕ) → l ≤ 1 → b < m → x +ℤ pos (k * m) ≡ pos a → y +ℤ pos (l * m) ≡ pos b
    → (x -ℤ y) +ℤ pos ((k + (1 - l)) * m) ≡ pos (a + (m - b))
diff_numbers x y m k zero a b few fits h i =
    let e : (k + 1) * m ≡ k * m + m = grind arith in
    let f : (x -ℤ y) +ℤ pos ((k + 1) * m) ≡ pos (a + (m - b)) = omega (arith, ints) in f
diff_numbers x y m k (suc zero) a b few fits h i =
    let e : (k + 0) * m ≡ k * m = grind arith in
    let g : 1 * m ≡ m = omega arith in
    let f : (x -ℤ y) +ℤ pos ((k + 0) * m) ≡ pos (a + (m - b)) = omega (arith, ints) in f
diff_numbers x y m k (suc (suc l)) a b few fits h i = absurd (omega arith)

pub sub_is : (z : Size) (c a b : ℕ) → b < list.modulus z → lane_of fn.Sub false z c a b ≡ (a + (list.modulus z - b)) % list.modulus z
sub_is z c a b fits =
    let x = as_number z a in
    let y = as_number z b in
    ap unsigned_abs (int_rem_euclid_is (lane_value false z a -ℤ lane_value false z b) (pos (list.modulus z)) (list.modulus z) (x.times + (1 - y.times))
    (a + (list.modulus z - b)) (some_modulus z) refl
    (diff_numbers (lane_value false z a) (lane_value false z b) (list.modulus z) x.times y.times a b y.few fits x.is y.is))

-- ELEMENTS FIT
all_get : (n : ℕ) (xs : List ℕ) (e : ℕ) → 0 < n → AllBelow n xs → get_or xs e 0 < n
all_get n [] e h a = h
all_get n (x ∷ xs) zero h a = a.0
all_get n (x ∷ xs) (suc e) h a = all_get n xs e h a.1

one_fits : (s : State) (q : ℕ) → AllBelow (2 ^ 8) (list.lanes OneByte (register_at q s))
one_fits s q = grind arith

half_fits : (s : State) (q : ℕ) → AllBelow (2 ^ 16) (list.lanes Half (register_at q s))
half_fits s q = grind arith

word_fits : (s : State) (q : ℕ) → AllBelow (2 ^ 32) (list.lanes Word (register_at q s))
word_fits s q = grind arith

pub element_fits : (t : ElementType) (q e : ℕ) (s : State) → element_at t q e s < modulus t
element_fits U8 q e s = all_get (2 ^ 8) (list.lanes OneByte (register_at q s)) e (omega arith) (one_fits s q)
element_fits S8 q e s = all_get (2 ^ 8) (list.lanes OneByte (register_at q s)) e (omega arith) (one_fits s q)
element_fits U16 q e s = all_get (2 ^ 16) (list.lanes Half (register_at q s)) e (omega arith) (half_fits s q)
element_fits S16 q e s = all_get (2 ^ 16) (list.lanes Half (register_at q s)) e (omega arith) (half_fits s q)
element_fits U32 q e s = all_get (2 ^ 32) (list.lanes Word (register_at q s)) e (omega arith) (word_fits s q)
element_fits S32 q e s = all_get (2 ^ 32) (list.lanes Word (register_at q s)) e (omega arith) (word_fits s q)

pub lane_fits : (t : ElementType) (v : View) (s : State) → Shows t v s → (q e : ℕ) → q < 8 → e < lanes t → v.lane q e < modulus t
lane_fits t v s h q e room k = subst (λ (x : ℕ). x < modulus t) (h.lane q e room k) (element_fits t q e s)

-- A NUMBER IN EACH ELEMENT
get_repeated : (n x e : ℕ) → e < n → get_or (replicate n x) e 0 ≡ x
get_repeated zero x e h = absurd (omega arith)
get_repeated (suc n) x zero h = refl
get_repeated (suc n) x (suc e) h = get_repeated n x e (omega arith)

ones_repeated : (n x : ℕ) → list.lanes OneByte (unlanes OneByte (replicate n x)) ≡ replicate n (x % 2 ^ 8)
ones_repeated zero x = refl
ones_repeated (suc n) x = ap (λ (l : List ℕ). x % 2 ^ 8 ∷ l) (ones_repeated n x)

pairs_repeated : (n x : ℕ) → list.lanes Half (unlanes Half (replicate n x)) ≡ replicate n (x % 2 ^ 16)
pairs_repeated zero x = refl
pairs_repeated (suc n) x =
    let e : x % 256 + 256 * (x / 256 % 256) ≡ x % 2 ^ 16 = omega arith in
    λ j. e j ∷ pairs_repeated n x j

fours_repeated : (n x : ℕ) → list.lanes Word (unlanes Word (replicate n x)) ≡ replicate n (x % 2 ^ 32)
fours_repeated zero x = refl
fours_repeated (suc n) x =
    let e : x % 256 + 256 * (x / 256 % 256) + 65536 * (x / 65536 % 256) + 16777216 * (x / 16777216 % 256) ≡ x % 2 ^ 32 = omega arith in
    λ j. e j ∷ fours_repeated n x j

splat_lanes : (t : ElementType) (x : ℕ) → list.lanes (size_of_type t) (in_each_lane (size_of_type t) x) ≡ replicate (lanes t) (x % modulus t)
splat_lanes U8 x = ones_repeated 16 x
splat_lanes S8 x = ones_repeated 16 x
splat_lanes U16 x = pairs_repeated 8 x
splat_lanes S16 x = pairs_repeated 8 x
splat_lanes U32 x = fours_repeated 4 x
splat_lanes S32 x = fours_repeated 4 x

dup_is : (t : ElementType) (c a x : ℕ) → lane_of fn.Dup true (size_of_type t) c a (x % modulus t) ≡ x % modulus t
dup_is t c a x = grind arith

name_size : (t : ElementType) → element_size (element_name t) ≡ size_of_type t
name_size t = grind arith

module _ (t : ElementType) (listing : Listing) where
  -- an addition, a subtraction or a product
  pub add_row : (name : AddName) (q : ℕ) (v : View) (s : State) → Shows t v s → (i : Instr) → listing v.pc ≡ Ok i
      → IsAddRow (size_code t) name q q (q + 1) i → q + 1 < 8 → v.size ≡ size_code t → (f : ℕ → ℕ)
      → ((e : ℕ) → e < lanes t → lane_of (add_fn name) false (size_of_type t) (v.lane q e) (v.lane q e) (v.lane (q + 1) e) ≡ f e)
      → Reaches (program.alone listing) (Shows t) 1 s (record v { pc = v.pc + 4; lane = merged q f v })
  add_row name q v s shows i here k room size f is =
      let r = k.row in
      let l : Lanes = record { f = add_fn r.name; unsigned = false; z = size_of r.z.value; d = r.d; n = r.n; by = by.Vector r.m } in
      let w = record v { pc = v.pc + 4; lane = merged q f v } in
      reached t listing (instr.Vector (vector.V1 r)) w s (lanes_whole l s) (ap listing shows.pc ∙ here ∙ ap Ok k.is)
      (comes_to (vector.V1 r) s (lanes_whole l s) (in_loop t v s shows size) shows.block refl refl)
      (lane_row t l v s shows size (ap size_of k.z_is ∙ size_is t) q q k.d_is k.n_is (omega arith) (omega arith) (register_at (q + 1) s)
      (ap (λ (x : ℕ). register_at x s) k.m_is) (length_lanes t (register_at (q + 1) s) refl)
      f (λ e m. (λ j. lane_of (add_fn (k.name_is j)) false (size_of_type t) (v.lane q e) (v.lane q e) (shows.lane (q + 1) e room m j)) ∙ is e m))

  pub addition : (q : ℕ) (v : View) (s : State) → Shows t v s → Stands t listing v.pc (Plain (Do op.Add q)) → (q + 1 < 8) × (v.size ≡ size_code t)
      → Reaches (program.alone listing) (Shows t) 1 s (exec t (Do op.Add q) v)
  addition q v s shows stands can =
      add_row add.Add q v s shows stands.instr stands.here stands.is can.0 can.1 (λ e. op_value t op.Add (v.lane q e) (v.lane (q + 1) e))
      (λ e m. add_is (size_of_type t) (v.lane q e) (v.lane q e) (v.lane (q + 1) e) ∙ ap (λ (x : ℕ). (v.lane q e + v.lane (q + 1) e) % x) (modulus_is t))

  pub subtraction : (q : ℕ) (v : View) (s : State) → Shows t v s → Stands t listing v.pc (Plain (Do op.Sub q)) → (q + 1 < 8) × (v.size ≡ size_code t)
      → Reaches (program.alone listing) (Shows t) 1 s (exec t (Do op.Sub q) v)
  subtraction q v s shows stands can =
      add_row add.Sub q v s shows stands.instr stands.here stands.is can.0 can.1 (λ e. op_value t op.Sub (v.lane q e) (v.lane (q + 1) e))
      (λ e m. sub_is (size_of_type t) (v.lane q e) (v.lane q e) (v.lane (q + 1) e)
      (subst (λ (x : ℕ). v.lane (q + 1) e < x) (sym (modulus_is t)) (lane_fits t v s shows (q + 1) e can.0 m))
      ∙ ap (λ (x : ℕ). (v.lane q e + (x - v.lane (q + 1) e)) % x) (modulus_is t))

  pub splat : (q : ℕ) (v : View) (s : State) → Shows t v s → Stands t listing v.pc (Plain (Splat q)) → (q < 8) × (v.size ≡ size_code t)
      → Reaches (program.alone listing) (Shows t) 1 s (exec t (Splat q) v)
  splat q v s shows stands can =
      let k = stands.is in
      let r = k.row in
      let z = size_of_type t in
      let f = λ (e : ℕ). v.scratch % modulus t in
      let l : Lanes = record { f = fn.Dup; unsigned = true; z = element_size r.size; d = r.d; n = r.d; by = by.Scalar r.t } in
      let w = record v { pc = v.pc + 4; lane = merged q f v } in
      let z_is : element_size r.size ≡ z = ap element_size k.size_is ∙ name_size t in
      let ys = in_each_lane z v.scratch in
      let y_is : operand_register l.z l.by s ≡ ys = (λ j. in_each_lane (z_is j) (cond (nat_eq (k.t_is j) 15) 0 (at (R (k.t_is j)) s)))
      ∙ ap (in_each_lane z) shows.scratch in
      let spread = splat_lanes t v.scratch in
      reached t listing (instr.Vector (vector.V18 r)) w s (lanes_whole l s) (ap listing shows.pc ∙ stands.here ∙ ap Ok k.is)
      (comes_to (vector.V18 r) s (lanes_whole l s) (in_loop t v s shows can.1) shows.block refl refl)
      (lane_row t l v s shows can.1 z_is q q k.d_is k.d_is can.0 can.0 ys y_is (ap length spread ∙ length-replicate (lanes t) (v.scratch % modulus t))
      f (λ e m. ap (lane_of fn.Dup true z (v.lane q e) (v.lane q e))
      (ap (λ (x : List ℕ). get_or x e 0) spread ∙ get_repeated (lanes t) (v.scratch % modulus t) e m) ∙ dup_is t (v.lane q e) (v.lane q e) v.scratch))
