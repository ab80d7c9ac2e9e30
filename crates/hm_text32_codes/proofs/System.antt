-- Special registers, barriers, lanes, tables of branches and loops: their texts give their mnemonics and their operands.
use Rattle.std.proofs.Common.{◌≡◌, ℕ, ◌+◌, ◌-◌, ◌<◌, Bool, true, false, cond, List, [], ◌∷◌, ◌++◌, None, refl, arith}
use Rattle.std.specs.Prelude.{codes, nat_eq}
use Rattle.std.proofs.lemmas.Bool.{agree_below_at}
use Rattle.hm_isa.specs.declared.wide.T15.{T15}
use Rattle.hm_isa.specs.declared.jumps.Dls.{Dls}
use Rattle.hm_isa.specs.declared.jumps.Dlstp.{Dlstp}
use Rattle.hm_isa.specs.declared.jumps.T17.{T17}
use Rattle.hm_isa.specs.declared.jumps.T23.TheVariants as t23
use Rattle.hm_isa.specs.declared.jumps.TableName.{TableName}
use Rattle.hm_isa.specs.declared.jumps.TableName.TheVariants as table
use Rattle.hm_isa.specs.declared.system.Barrier.{Barrier}
use Rattle.hm_isa.specs.declared.system.LaneMoveName.{LaneMoveName}
use Rattle.hm_isa.specs.declared.system.LaneMoveName.TheVariants as lane
use Rattle.hm_isa.specs.declared.system.Mrs.{Mrs}
use Rattle.hm_isa.specs.declared.system.Msr.{Msr}
use Rattle.hm_isa.specs.declared.system.ReadName.{ReadName}
use Rattle.hm_isa.specs.declared.system.SystemMoveName.{SystemMoveName}
use Rattle.hm_isa.specs.declared.system.SystemMoveName.TheVariants as move
use Rattle.hm_isa.specs.declared.system.T18.TheVariants as t18
use Rattle.hm_isa.specs.declared.system.T19.TheVariants as t19
use Rattle.hm_isa.specs.declared.system.T21.{T21}
use Rattle.hm_isa.specs.declared.system.T22.{T22}
use Rattle.hm_isa.specs.declared.system.WrittenName.{WrittenName}
use Rattle.hm_isa.specs.declared.widths.WideRow.TheVariants as rows
use Rattle.hm_tokens.specs.Names.{double_name, register_in, register_name}
use Rattle.hm_tokens.specs.Ranges.{singles}
use Rattle.hm_tokens.specs.Tokens.{word, close_brace, minus_mark, open_brace}
use Rattle.hm_text_rows.specs.Operands.{bit_in, bits_of, braced, is_vector_name}
use Rattle.hm_text_rows.proofs.Words.{◌▹◌, at_below, below_holds, below_is, is_name, is_mnemonic}
use Rattle.hm_text_rows.proofs.Printed.{short_close, short_close_brace, short_comma, short_hash, short_minus, short_number}
use Rattle.hm_text_rows.proofs.Printed.{short_open, short_open_brace}
use Rattle.hm_text32_rows.specs.Mnemonics.{barrier_mnemonic, read_name, table_mnemonic, wide, written_name}
use Rattle.hm_text32_rows.specs.Rows.{barrier_tokens, lane_tokens, system_tokens, table_tokens}
use Rattle.hm_text32_codes.specs.Asked.{given, lane_operands, none_given, system_mnemonic, system_operands, table_operands}
use Rattle.hm_text32_codes.specs.Asked.{written_number}
use Rattle.hm_text32_codes.specs.Operands.{special_number, wide_word_value}
use Rattle.hm_text32_codes.proofs.Asked.{RowReads}
use Rattle.hm_text32_codes.proofs.Inverses.{some_doubles}
use Rattle.hm_text32_codes.proofs.Forms.{Operand, Reads, a_register, a_vector, bare, min_small, no_suffix}
use Rattle.hm_text32_codes.proofs.Forms.{reads, reads_as, reads_constant, short}
use Rattle.hm_text32_codes.proofs.Forms.{reads_none, reads_two, suffix_element, suffix_wide, suffix_words}

-- T15
a_double : (n : ℕ) → n < 16 → Operand (double_name n) n false
unfolding wide_word_value is_vector_name
a_double n lt = record {
  value = below_is (λ k. wide_word_value (double_name k)) (λ k. k) 16 n refl lt;
  vector = agree_below_at (λ k. is_vector_name (double_name k)) (λ k. false) 16 n refl lt;
  is = below_holds (λ k. is_name (double_name k)) 16 n refl lt;
}

reads_doubles : (s w x : List ℕ) (c : Bool) (m n : ℕ) → is_mnemonic s ≡ true → Operand w m false → Operand x n c → register_in w ≡ None
    → register_in x ≡ None
    → Reads (word (s ++ []) ∷ open_brace ∷ word w ∷ minus_mark ∷ word x ∷ close_brace ∷ []) s (given m n 0 0 0)
unfolding singles bit_in bits_of braced
reads_doubles s w x c m n mnemonic p o hw hx =
    reads_as s [] _ _ mnemonic refl (short_open_brace ▹ short p ▹ short_minus ▹ short o ▹ short_close_brace ▹ tt) refl (omega arith) (rw (hw, hx) refl)
    (rw (no_suffix.size, p.vector, p.value, o.value, hw, hx) refl)

no_register : (n : ℕ) → n < 16 → register_in (double_name n) ≡ None
no_register n lt =
    at_below (λ k. register_in (double_name k) ≡ None) 16 n
    (refl ▹ refl ▹ refl ▹ refl ▹ refl ▹ refl ▹ refl ▹ refl ▹ refl ▹ refl ▹ refl ▹ refl ▹ refl ▹ refl ▹ refl ▹ refl ▹ tt)
    lt

pub row_t15 : (i : T15) → RowReads (rows.T15 i)
row_t15 i =
    let v = i.v.value in
    let k = i.k.value in
    let p = some_doubles i in
    bare _ _ _
    (reads_doubles _ _ _ _ _ _ (grind arith) (a_double v i.v.in_range) (a_double (v + k - 1) (omega (arith, p.0, p.1))) (no_register v i.v.in_range)
    (no_register (v + k - 1) (omega (arith, p.0, p.1))))

-- T17
lsl : Operand (codes "lsl") 0 false
unfolding wide_word_value is_vector_name
lsl = record { value = refl; vector = refl; is = refl }

table_reads : (name : TableName) (n m : ℕ) → n < 16 → m < 16 → Reads (table_tokens name n m) (table_mnemonic name) (table_operands name n m)
unfolding bits_of braced
table_reads table.Tbb n m hn hm =
    let p = a_register n hn in
    let o = a_register m hm in
    reads (codes "tbb") [] _ _ refl refl (short_open ▹ short p ▹ short_comma ▹ short o ▹ short_close ▹ tt) refl (omega arith) refl
    (rw (no_suffix.size, p.vector, p.value, o.value) refl)
table_reads table.Tbh n m hn hm =
    let p = a_register n hn in
    let o = a_register m hm in
    reads (codes "tbh") [] _ _ refl refl
    (short_open ▹ short p ▹ short_comma ▹ short o ▹ short_comma ▹ short lsl ▹ short_hash ▹ short_number 1 (omega arith)
    ▹ short_close ▹ tt)
    refl (omega arith) refl (rw (no_suffix.size, p.vector, p.value, o.value, lsl.value) refl)

pub row_t17 : (i : T17) → RowReads (rows.T17 i)
row_t17 i = table_reads i.name i.n.value i.m.value i.n.in_range i.m.in_range

-- T18
a_read : (name : ReadName) → Operand (read_name name) (special_number name) false
unfolding wide_word_value is_vector_name
a_read name = grind arith

a_written : (name : WrittenName) → Operand (written_name name) (written_number name) false
unfolding wide_word_value is_vector_name
a_written name = grind arith

pub row_read : (i : Mrs) → RowReads (rows.T18 (t18.Read i))
row_read i = reads_two (codes "mrs") _ _ _ _ _ _ _ _ refl no_suffix (a_register i.d.value i.d.in_range) (a_read i.name)

pub row_write : (i : Msr) → RowReads (rows.T18 (t18.Write i))
row_write i = reads_two (codes "msr") _ _ _ _ _ _ _ _ refl no_suffix (a_written i.name) (a_register i.n.value i.n.in_range)

-- T19
pub row_nop : Reads (barrier_tokens t19.Nop) (codes "nop") none_given
row_nop = reads_none (codes "nop") wide 0 refl suffix_wide

pub row_barrier : (i : Barrier) → RowReads (rows.T19 (t19.Barrier i))
row_barrier i =
    bare _ _ _
    (reads_constant (barrier_mnemonic i.name) [] 0 i.o.value (grind arith) no_suffix (let lt = i.o.in_range in omega arith))

-- the other spelling
pub other_barrier_reads : (i : Barrier) → Reads (word (barrier_mnemonic i.name) ∷ []) (barrier_mnemonic i.name) none_given
other_barrier_reads i =
    bare _ _ _ (reads_none (barrier_mnemonic i.name) [] 0 (grind arith) no_suffix)

-- T21
abbrev flag_name : ℕ → List ℕ
flag_name t = cond (nat_eq t 15) (codes "apsr_nzcv") (register_name t)

a_flag : (t : ℕ) → t < 16 → Operand (flag_name t) t false
unfolding wide_word_value is_vector_name
a_flag t lt = record {
  value = below_is (λ j. wide_word_value (flag_name j)) (λ j. j) 16 t refl lt;
  vector = agree_below_at (λ j. is_vector_name (flag_name j)) (λ j. false) 16 t refl lt;
  is = below_holds (λ j. is_name (flag_name j)) 16 t refl lt;
}

fpscr : Operand (codes "fpscr") 1 false
unfolding wide_word_value is_vector_name
fpscr = record { value = refl; vector = refl; is = refl }

vpr : Operand (codes "vpr") 12 false
unfolding wide_word_value is_vector_name
vpr = record { value = refl; vector = refl; is = refl }

p0 : Operand (codes "p0") 13 false
unfolding wide_word_value is_vector_name
p0 = record { value = refl; vector = refl; is = refl }

system_reads : (name : SystemMoveName) (t : ℕ) → t < 16 → Reads (system_tokens name t) (system_mnemonic name) (system_operands name t)
system_reads move.ReadFpscr t lt = reads_two (codes "vmrs") [] _ _ _ _ _ _ _ refl no_suffix (a_flag t lt) fpscr
system_reads move.ReadVpr t lt = reads_two (codes "vmrs") [] _ _ _ _ _ _ _ refl no_suffix (a_register t lt) vpr
system_reads move.ReadP0 t lt = reads_two (codes "vmrs") [] _ _ _ _ _ _ _ refl no_suffix (a_register t lt) p0
system_reads move.WriteFpscr t lt = reads_two (codes "vmsr") [] _ _ _ _ _ _ _ refl no_suffix fpscr (a_register t lt)
system_reads move.WriteVpr t lt = reads_two (codes "vmsr") [] _ _ _ _ _ _ _ refl no_suffix vpr (a_register t lt)
system_reads move.WriteP0 t lt = reads_two (codes "vmsr") [] _ _ _ _ _ _ _ refl no_suffix p0 (a_register t lt)

pub row_t21 : (i : T21) → RowReads (rows.T21 i)
row_t21 i = system_reads i.name i.t.value i.t.in_range

-- T22
lane_reads : (name : LaneMoveName) (d x t : ℕ) → d < 8 → x < 4 → t < 16 → Reads (lane_tokens name d x t) (codes "vmov") (lane_operands name d x t)
unfolding bits_of braced
lane_reads lane.ToLane d x t hd hx ht =
    let p = a_vector d hd in
    let o = a_register t ht in
    reads (codes "vmov") (codes ".32") _ _ refl refl
    (short p ▹ short_open ▹ short_number x (omega arith) ▹ short_close ▹ short_comma ▹ short o ▹ tt) refl (omega arith) refl
    (rw (suffix_words.size, p.vector, p.value, o.value, min_small x (omega arith)) refl)
lane_reads lane.FromLane d x t hd hx ht =
    let p = a_vector d hd in
    let o = a_register t ht in
    reads (codes "vmov") (codes ".32") _ _ refl refl
    (short o ▹ short_comma ▹ short p ▹ short_open ▹ short_number x (omega arith) ▹ short_close ▹ tt) refl (omega arith) refl
    (rw (suffix_words.size, o.vector, p.value, o.value, min_small x (omega arith)) refl)

pub row_t22 : (i : T22) → RowReads (rows.T22 i)
row_t22 i = lane_reads i.name i.q.value i.x.value i.t.value i.q.in_range i.x.in_range i.t.in_range

-- T23
lr_small : 14 < 16
lr_small = omega arith

pub row_dls : (i : Dls) → RowReads (rows.T23 (t23.Dls i))
row_dls i = reads_two (codes "dls") _ _ _ _ _ _ _ _ refl no_suffix (a_register 14 lr_small) (a_register i.n.value i.n.in_range)

pub row_dlstp : (i : Dlstp) → RowReads (rows.T23 (t23.Dlstp i))
row_dlstp i =
    reads_two (codes "dlstp") _ _ _ _ _ _ _ _ refl (suffix_element i.z.value i.z.in_range) (a_register 14 lr_small) (a_register i.n.value i.n.in_range)

pub row_lctp : Reads (word (codes "lctp") ∷ []) (codes "lctp") none_given
row_lctp = reads_none (codes "lctp") [] 0 refl no_suffix
