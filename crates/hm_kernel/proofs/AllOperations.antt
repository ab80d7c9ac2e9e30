-- The eight operations.
use Rattle.std.proofs.Common.{◌≡◌, ℕ, ◌+◌, ◌*◌, ◌%◌, ◌^◌, ◌<◌, false, cond, ◌&&◌, nat_eq, get_or, length, List, refl, sym, ap, ◌∙◌, subst, arith, bit_and}
use Rattle.std.proofs.Common.{bit_or, bit_xor}
use Rattle.std.specs.Prelude.{Ok}
use Rattle.hm_beat.specs.Rows.{predicate_at, register_at}
use Rattle.hm_codes.specs.Listing.{Listing}
use Rattle.hm_forms_elements.specs.declared.lanes.Lanes.{Lanes}
use Rattle.hm_forms_elements.specs.Registers.{lanes_result, lanes_saturated, lanes_whole}
use Rattle.hm_isa.specs.declared.Instr.{Instr}
use Rattle.hm_isa.specs.declared.Instr.TheVariants as instr
use Rattle.hm_isa.specs.declared.Vector.TheVariants as vector
use Rattle.hm_isa.specs.declared.vectors.AddName.TheVariants as add
use Rattle.hm_isa.specs.declared.vectors.BitwiseName.{BitwiseName}
use Rattle.hm_isa.specs.declared.vectors.BitwiseName.TheVariants as bitwise
use Rattle.hm_isa.specs.declared.vectors.SignedName.{SignedName}
use Rattle.hm_isa.specs.declared.vectors.SignedName.TheVariants as signed
use Rattle.hm_lane.specs.declared.lanes.Size.TheVariants.{Word}
use Rattle.hm_lane.specs.Lanes as list
use Rattle.hm_lane_fns.specs.LaneFns.{lane_of, saturates}
use Rattle.hm_lane_fns.specs.declared.words.Operand.TheVariants as by
use Rattle.hm_lane_fns.specs.Words.{any_both, lanewise3, size_of}
use Rattle.hm_rows.specs.Rows.{bitwise_fn, signed_fn}
use Rattle.hm_run.specs.Program as program
use Rattle.hm_state.specs.State.{State}
use Rattle.hm_kernel_lang.specs.declared.text.ElementType.{ElementType}
use Rattle.hm_kernel_lang.specs.declared.text.Op.{Op}
use Rattle.hm_kernel_lang.specs.declared.text.Op.TheVariants as op
use Rattle.hm_kernel_lang.specs.Language.{is_signed, lanes, op_value}
use Rattle.hm_kernel_lang.specs.declared.machine.Item.TheVariants.{Plain}
use Rattle.hm_kernel_lang.specs.declared.machine.Kind.TheVariants.{Do}
use Rattle.hm_kernel_lang.specs.Machine.{View, exec, merged, size_code}
use Rattle.hm_kernel_lang.specs.Correct.{Reaches}
use Rattle.hm_kernel.specs.Shows.{Shows, size_of_type}
use Rattle.hm_code_bytes.specs.Instructions.{IsBitwiseRow, IsSignedRow}
use Rattle.hm_kernel.specs.Standing.{Stands}
use Rattle.hm_kernel.proofs.Bests.{max_is, min_is, mul_is, unsigned_of}
use Rattle.hm_kernel.proofs.Bitwise.{IsBitwise, and_is, both, both_lanes, bytes_both, or_is, result_both, xor_is}
use Rattle.hm_kernel.proofs.Merging.{AllBytes, length_lanes}
use Rattle.hm_kernel.proofs.Operations.{add_row, addition, lane_fits, lane_row, modulus_is, subtraction}
use Rattle.hm_kernel.proofs.CoreSteps.{reached}
use Rattle.hm_kernel.proofs.Vectors.{after_merge, comes_to, in_loop, size_is}

sign_bit : (t : ElementType) → nat_eq (cond (is_signed t) 0 1) 1 ≡ unsigned_of t
sign_bit t = grind arith

module _ (t : ElementType) (listing : Listing) where
  -- the lesser or the greater
  signed_row : (name : SignedName) (q : ℕ) (v : View) (s : State) → Shows t v s → (i : Instr) → listing v.pc ≡ Ok i
      → IsSignedRow (cond (is_signed t) 0 1) (size_code t) name q q (q + 1) i → q + 1 < 8 → v.size ≡ size_code t → (f : ℕ → ℕ)
      → ((e : ℕ) → e < lanes t → lane_of (signed_fn name) (unsigned_of t) (size_of_type t) (v.lane q e) (v.lane q e) (v.lane (q + 1) e) ≡ f e)
      → Reaches (program.alone listing) (Shows t) 1 s (record v { pc = v.pc + 4; lane = merged q f v })
  signed_row name q v s shows i here k room size f is =
      let r = k.row in
      let l : Lanes = record { f = signed_fn r.name; unsigned = nat_eq r.u.value 1; z = size_of r.z.value; d = r.d; n = r.n; by = by.Vector r.m } in
      let w = record v { pc = v.pc + 4; lane = merged q f v } in
      let u_is : nat_eq r.u.value 1 ≡ unsigned_of t = ap (λ (x : ℕ). nat_eq x 1) k.u_is ∙ sign_bit t in
      reached t listing (instr.Vector (vector.V3 r)) w s (lanes_whole l s) (ap listing shows.pc ∙ here ∙ ap Ok k.is)
      (comes_to (vector.V3 r) s (lanes_whole l s) (in_loop t v s shows size) shows.block refl refl)
      (lane_row t l v s shows size (ap size_of k.z_is ∙ size_is t) q q k.d_is k.n_is (omega arith) (omega arith) (register_at (q + 1) s)
      (ap (λ (x : ℕ). register_at x s) k.m_is) (length_lanes t (register_at (q + 1) s) refl)
      f (λ e m. (λ j. lane_of (signed_fn (k.name_is j)) (u_is j) (size_of_type t) (v.lane q e) (v.lane q e) (shows.lane (q + 1) e room m j)) ∙ is e m))

  -- bits
  bit_row : (name : BitwiseName) (f : ℕ → ℕ → ℕ) → IsBitwise f → ((c a b : ℕ) → lane_of (bitwise_fn name) false Word c a b ≡ f a b % 2 ^ 32)
      → (q : ℕ) (v : View) (s : State) → Shows t v s → (i : Instr) → listing v.pc ≡ Ok i
      → IsBitwiseRow name q q (q + 1) i → q + 1 < 8 → v.size ≡ size_code t
      → Reaches (program.alone listing) (Shows t) 1 s (record v { pc = v.pc + 4; lane = merged q (λ e. f (v.lane q e) (v.lane (q + 1) e)) v })
  bit_row name f bits word_is q v s shows i here k room size =
      let r = k.row in
      let l : Lanes = record { f = bitwise_fn r.name; unsigned = false; z = Word; d = r.d; n = r.n; by = by.Vector r.m } in
      let g = λ (e : ℕ). f (v.lane q e) (v.lane (q + 1) e) in
      let w = record v { pc = v.pc + 4; lane = merged q g v } in
      let room_q : q < 8 = omega arith in
      let is : lanes_result l s ≡ both f bits q (q + 1) s =
      (λ j. lanewise3 Word (lane_of (bitwise_fn (k.name_is j)) false Word) (register_at (k.d_is j) s) (register_at (k.n_is j) s) (register_at (k.m_is j) s))
      ∙ ap (λ (h : ℕ → ℕ → ℕ → ℕ). lanewise3 Word h (register_at q s) (register_at q s) (register_at (q + 1) s)) (λ j. λ c a b. word_is c a b j)
      ∙ result_both f bits q (q + 1) s in
      reached t listing (instr.Vector (vector.V2 r)) w s (lanes_whole l s) (ap listing shows.pc ∙ here ∙ ap Ok k.is)
      (comes_to (vector.V2 r) s (lanes_whole l s) (in_loop t v s shows size) shows.block refl refl)
      (after_merge t v s shows size r.d.value q k.d_is room_q (lanes_result l s) (ap length is) (subst AllBytes (sym is) (bytes_both f bits q (q + 1) s)) g
      (λ e m. ap (λ (x : List ℕ). get_or (list.lanes (size_of_type t) x) e 0) is ∙ both_lanes f bits t q (q + 1) e s m
      ∙ (λ j. f (shows.lane q e room_q m j) (shows.lane (q + 1) e room m j)))
      (saturates l.f && any_both (predicate_at s) (lanes_saturated l s)))

  pub operation : (o : Op) (q : ℕ) (v : View) (s : State) → Shows t v s → Stands t listing v.pc (Plain (Do o q)) → (q + 1 < 8) × (v.size ≡ size_code t)
      → Reaches (program.alone listing) (Shows t) 1 s (exec t (Do o q) v)
  operation op.Add q v s h st can = addition t listing q v s h st can
  operation op.Sub q v s h st can = subtraction t listing q v s h st can
  operation op.Mul q v s h st can =
      let z = size_of_type t in
      let room_q : q < 8 = let k = can.0 in omega arith in
      add_row t listing add.Mul q v s h st.instr st.here st.is can.0 can.1 (λ e. op_value t op.Mul (v.lane q e) (v.lane (q + 1) e))
      (λ e m. mul_is z (v.lane q e) (v.lane q e) (v.lane (q + 1) e) (subst (λ (x : ℕ). v.lane q e < x) (sym (modulus_is t)) (lane_fits t v s h q e room_q m))
      (subst (λ (x : ℕ). v.lane (q + 1) e < x) (sym (modulus_is t)) (lane_fits t v s h (q + 1) e can.0 m))
      ∙ ap (λ (x : ℕ). v.lane q e * v.lane (q + 1) e % x) (modulus_is t))
  operation op.Min q v s h st can =
      let room_q : q < 8 = let k = can.0 in omega arith in
      signed_row signed.Min q v s h st.instr st.here st.is can.0 can.1 (λ e. op_value t op.Min (v.lane q e) (v.lane (q + 1) e))
      (λ e m. min_is t (v.lane q e) (v.lane q e) (v.lane (q + 1) e) (lane_fits t v s h q e room_q m) (lane_fits t v s h (q + 1) e can.0 m))
  operation op.Max q v s h st can =
      let room_q : q < 8 = let k = can.0 in omega arith in
      signed_row signed.Max q v s h st.instr st.here st.is can.0 can.1 (λ e. op_value t op.Max (v.lane q e) (v.lane (q + 1) e))
      (λ e m. max_is t (v.lane q e) (v.lane q e) (v.lane (q + 1) e) (lane_fits t v s h q e room_q m) (lane_fits t v s h (q + 1) e can.0 m))
  operation op.And q v s h st can = bit_row bitwise.And bit_and and_is (λ c a b. refl) q v s h st.instr st.here st.is can.0 can.1
  operation op.Or q v s h st can = bit_row bitwise.Orr bit_or or_is (λ c a b. refl) q v s h st.instr st.here st.is can.0 can.1
  operation op.Xor q v s h st can = bit_row bitwise.Eor bit_xor xor_is (λ c a b. refl) q v s h st.instr st.here st.is can.0 can.1
