-- The code of a text does what it means.
use Rattle.std.proofs.Common.{◌≡◌, ℕ, zero, suc, ◌+◌, ◌-◌, ◌*◌, ◌^◌, ◌<◌, ◌≤◌, get_or, length, List, [], ◌∷◌, refl, sym, ap, ◌∙◌, arith, ⊎_elim}
use Rattle.std.specs.Prelude.{Result, Ok, Err, slice_index}
use Rattle.hm_base.specs.Image.{Segment, flash_byte, sram_start}
use Rattle.hm_codes.specs.Listing as codes
use Rattle.hm_codes.specs.Listing.{IsListing, Listing}
use Rattle.hm_codes.proofs.Unique.{fetched_one}
use Rattle.hm_isa.specs.declared.Instr.{Instr}
use Rattle.hm_lane.specs.Lanes as list
use Rattle.hm_run.specs.declared.Reason.{Reason}
use Rattle.hm_run.specs.declared.Reason.TheVariants.{Break}
use Rattle.hm_run.specs.Headline.{HaltsInOrder}
use Rattle.std.proofs.lemmas.Bool.{cases_lt}
use Rattle.hm_run.specs.InOrder.{Halted, Running, after, in_order, one_more}
use Rattle.hm_run.specs.Program as program
use Rattle.hm_run.specs.Stops.{WholeStop}
use Rattle.hm_beat.specs.Rows.{register_at}
use Rattle.hm_state.specs.Start.{start, start_under}
use Rattle.hm_state.specs.State.{Byte, State}
use Rattle.hm_kernel_lang.specs.declared.text.ElementType.{ElementType}
use Rattle.hm_kernel_lang.specs.declared.text.ElementType.TheVariants.{U8, S8, U16, S16, U32, S32}
use Rattle.hm_kernel_lang.specs.declared.text.Array.{Array}
use Rattle.hm_kernel_lang.specs.declared.text.Text.{Text}
use Rattle.hm_kernel_lang.specs.Language.{Bytes, address, first_memory, given, lines_steps, steps}
use Rattle.hm_kernel_lang.specs.declared.machine.Item.{Item}
use Rattle.hm_kernel_lang.specs.declared.machine.Item.TheVariants.{Plain}
use Rattle.hm_kernel_lang.specs.declared.machine.Kind.{Kind}
use Rattle.hm_kernel_lang.specs.declared.machine.Kind.TheVariants.{Clear, Low, High, LowLength, HighLength, Offset, Splat, Load, Store, Do, Further}
use Rattle.hm_kernel_lang.specs.Machine.{Can, View, exec, item_halves}
use Rattle.hm_kernel_lang.specs.Code.{code}
use Rattle.hm_kernel_lang.specs.Correct.{CodeStands, Reaches, Rows, and_then, goes}
use Rattle.hm_kernel_lang.proofs.Lines.{lines_end}
use Rattle.hm_kernel.specs.Standing.{Stands}
use Rattle.hm_kernel.specs.Shows.{Shows, size_of_type}
use Rattle.hm_kernel_code.specs.Images.{IsImageOf, StandsIn}
use Rattle.hm_kernel_lang.specs.Texts.{IsText}
use Rattle.hm_kernel_lang.proofs.Texts.{lines_fine}
use Rattle.hm_kernel.specs.Theorem.{Computes, IsFileOf}
use Rattle.hm_kernel.proofs.CoreSteps.{clear, further, high, high_length, low, low_length, offset}
use Rattle.hm_kernel.proofs.LoopSteps.{back, begin, stop}
use Rattle.hm_kernel.proofs.Moves.{load}
use Rattle.hm_kernel.proofs.Stores.{replaced_fits, store}
use Rattle.hm_kernel.proofs.AllOperations.{operation}
use Rattle.hm_kernel.proofs.Operations.{splat}

-- THE ROWS
plain_row : (t : ElementType) (listing : Listing) (k : Kind) (v : View) (s : State) → Shows t v s → Stands t listing v.pc (Plain k) → Can t k v
    → Reaches (program.alone listing) (Shows t) 1 s (exec t k v)
plain_row t listing Clear v s h st can = clear t listing v s h st
plain_row t listing (Low n) v s h st can = low t listing n v s h st
plain_row t listing (High n) v s h st can = high t listing n v s h st
plain_row t listing (LowLength n) v s h st can = low_length t listing n v s h st
plain_row t listing (HighLength n) v s h st can = high_length t listing n v s h st
plain_row t listing Offset v s h st can = offset t listing v s h st
plain_row t listing (Splat q) v s h st can = splat t listing q v s h st can
plain_row t listing (Load q) v s h st can = load t listing q v s h st can
plain_row t listing (Store q) v s h st can = store t listing q v s h st can
plain_row t listing (Do o q) v s h st can = operation t listing o q v s h st can
plain_row t listing Further v s h st can = further t listing v s h st

pub rows_of : (t : ElementType) (listing : Listing) → Rows t (program.alone listing) (Shows t) (Stands t listing)
rows_of t listing = record {
  plain = plain_row t listing;
  begin = λ h v s shows st. begin t listing h v s shows st;
  again = λ h v s shows st size. back t listing h v s shows st size;
}

-- WHAT STANDS in flash stands in its listing
listed_here : (flash : ℕ → ℕ) (listing : Listing) → IsListing flash listing → (a : ℕ) (i : Instr) → codes.Stands flash a i → listing a ≡ Ok i
listed_here flash listing is a i here = fetched_one flash a (listing a) (Ok i) (is.at a) here

code_listed : (t : ElementType) (flash : ℕ → ℕ) (listing : Listing) → IsListing flash listing → (a : ℕ) (is : List Item) → CodeStands (StandsIn t flash) a is
    → CodeStands (Stands t listing) a is
code_listed t flash listing lists a [] h = tt
code_listed t flash listing lists a (x ∷ xs) h =
    let s = h.0 in (
      record { instr = s.instr; here = listed_here flash listing lists a s.instr s.here; is = s.is; fits = s.fits; reach = s.reach },
      code_listed t flash listing lists (a + 2 * item_halves x) xs h.1,
    )

-- THE START
abbrev AllZero : List ℕ → Type 0
AllZero [] = Unit {0}
AllZero (x ∷ xs) = (x ≡ 0) × AllZero xs

get_zero : (xs : List ℕ) (e : ℕ) → AllZero xs → get_or xs e 0 ≡ 0
get_zero [] e h = refl
get_zero (x ∷ xs) zero h = h.0
get_zero (x ∷ xs) (suc e) h = get_zero xs e h.1

abbrev first_view : Text → View
first_view x = record { pc = 8; offset = 0; scratch = 0; length = 0; left = 0xffffffff; size = 4; lane = λ q e. 0; byte = first_memory x }

given_fits : (t : ElementType) (xs : List Array) (a : ℕ) → given t xs a < 256
given_fits t [] a = omega arith
given_fits t (x ∷ xs) a = replaced_fits t x.addr (length x.values.items) (λ j. slice_index x.values.items j) (given t xs) a (given_fits t xs a)

first_lane : (t : ElementType) (image : List Segment) (q e : ℕ) → get_or (list.lanes (size_of_type t) (register_at q (start image))) e 0 ≡ 0
unfolding start_under
first_lane U8 image q e = get_zero (list.lanes (size_of_type U8) (register_at q (start image))) e
    (refl, (refl, (refl, (refl, (refl, (refl, (refl, (refl, (refl, (refl, (refl, (refl, (refl, (refl, (refl, (refl, tt))))))))))))))))
first_lane S8 image q e = get_zero (list.lanes (size_of_type S8) (register_at q (start image))) e
    (refl, (refl, (refl, (refl, (refl, (refl, (refl, (refl, (refl, (refl, (refl, (refl, (refl, (refl, (refl, (refl, tt))))))))))))))))
first_lane U16 image q e = get_zero (list.lanes (size_of_type U16) (register_at q (start image))) e
    (refl, (refl, (refl, (refl, (refl, (refl, (refl, (refl, tt))))))))
first_lane S16 image q e = get_zero (list.lanes (size_of_type S16) (register_at q (start image))) e
    (refl, (refl, (refl, (refl, (refl, (refl, (refl, (refl, tt))))))))
first_lane U32 image q e = get_zero (list.lanes (size_of_type U32) (register_at q (start image))) e (refl, (refl, (refl, (refl, tt))))
first_lane S32 image q e = get_zero (list.lanes (size_of_type S32) (register_at q (start image))) e (refl, (refl, (refl, (refl, tt))))

starts : (x : Text) (image : List Segment) → IsImageOf x image → Shows x.element (first_view x) (start image)
unfolding start_under
starts x image is = record {
  pc = let e = is.pc in omega arith;
  offset = refl;
  scratch = refl;
  length = refl;
  left = refl;
  size = refl;
  size_fits = omega arith;
  mask01 = refl;
  mask23 = refl;
  slice = λ b h. omega arith;
  low = omega arith;
  block = refl;
  context = λ e. refl;
  lane = λ q e h k. first_lane x.element image q e;
  byte = is.sram;
  fits = λ a h k. given_fits x.element x.arrays.items a;
}

-- STEPS are instructions in order
module _ (listing : Listing) (image : List Segment) where
  one_step : (n m : ℕ) (s u : State) → in_order listing image m ≡ Running s
      → ((t : State) → in_order listing image (suc m) ≡ Running t → goes (program.alone listing) n t ≡ Ok u → in_order listing image (n + suc m) ≡ Running u)
      → (r : Result State WholeStop) → program.alone listing s ≡ r → and_then (goes (program.alone listing) n) r ≡ Ok u
      → in_order listing image (suc n + m) ≡ Running u
  one_step n m s u h rest (Ok t) is f =
      let next : in_order listing image (suc m) ≡ Running t = ap (one_more listing m) h ∙ ap (after m s) is in
      (let z : suc n + m ≡ n + suc m = omega arith in ap (in_order listing image) z) ∙ rest t next f
  one_step n m s u h rest (Err w) is f = absurd cc

  running : (n m : ℕ) (s u : State) → in_order listing image m ≡ Running s → goes (program.alone listing) n s ≡ Ok u
      → in_order listing image (n + m) ≡ Running u
  running zero m s u h e = (let z : 0 + m ≡ m = omega arith in ap (in_order listing image) z) ∙ h ∙ ap Running (let q : s ≡ u = cc in q)
  running (suc n) m s u h e = one_step n m s u h (λ t next f. running n (suc m) t u next f) (program.alone listing s) refl e

pub computes : (x : Text) (image : List Segment) (listing : Listing) → IsText x → IsImageOf x image → IsListing (flash_byte image) listing
    → Computes x image listing
unfolding start_under
computes x image listing fine is lists =
    let t = x.element in
    let s0 = start image in
    let v0 = first_view x in
    let shows = starts x image is in
    let stands = code_listed t (flash_byte image) listing lists 8 (code x) is.code in
    let fits : x.count < 2 ^ 32 = let c = fine.count in omega arith in
    let d = lines_end t (program.alone listing) (Shows t) (Stands t listing) (rows_of t listing) (address x.arrays.items) x.count fits x.lines.items
    (lines_fine x fine) v0 s0 shows stands in
    let n = lines_steps t x.count x.lines.items in
    let u = d.reaches.to in
    let same : n + 0 ≡ n = omega arith in
    let there : in_order listing image n ≡ Running u = sym (ap (in_order listing image) same) ∙ running listing image n 0 s0 u refl d.reaches.comes in
    let ends = stop t listing d.view u d.reaches.shows d.stop in
    let one : n + 1 ≡ suc n = omega arith in
    let last : in_order listing image (suc n) ≡ Halted (Break 0) (n + 1) u = ap (one_more listing n) there ∙ ap (after n u) ends in
    record {
      state = u;
      halts = ap (in_order listing image) one ∙ last;
      begins = shows.byte;
      memory = λ a h k. d.reaches.shows.byte a h k ∙ ap (λ (m : Bytes). m a) d.memory;
    }

-- AN END of the instructions in order stays, and is one
halted_later : (listing : Listing) (image : List Segment) (r : Reason) (n : ℕ) (s : State) (k : ℕ) → in_order listing image n ≡ Halted r n s
    → in_order listing image (k + n) ≡ Halted r n s
halted_later listing image r n s zero h = (let z : 0 + n ≡ n = omega arith in ap (in_order listing image) z) ∙ h
halted_later listing image r n s (suc k) h = (let z : suc k + n ≡ suc (k + n) = omega arith in ap (in_order listing image) z)
    ∙ ap (one_more listing (k + n)) (halted_later listing image r n s k h)

halted_by : (listing : Listing) (image : List Segment) (r : Reason) (n m : ℕ) (s : State) → n ≤ m → in_order listing image n ≡ Halted r n s
    → in_order listing image m ≡ Halted r n s
halted_by listing image r n m s le h = (let z : m ≡ m - n + n = omega arith in ap (in_order listing image) z) ∙ halted_later listing image r n s (m - n) h

record SameEnd (r q : Reason) (n m : ℕ) (s u : State) : Type 0 where
  reason : r ≡ q
  count : n ≡ m
  state : s ≡ u

same_of : (r q : Reason) (n m : ℕ) (s u : State) → Halted r n s ≡ Halted q m u → SameEnd r q n m s u
same_of r q n m s u e = record { reason = cc; count = cc; state = cc }

one_end : (listing : Listing) (image : List Segment) (r q : Reason) (n m : ℕ) (s u : State) → in_order listing image n ≡ Halted r n s
    → in_order listing image m ≡ Halted q m u → SameEnd r q n m s u
one_end listing image r q n m s u h k = ⊎_elim
    (λ lt. same_of r q n m s u (sym (halted_by listing image r n m s (omega arith) h) ∙ k))
    (λ le. same_of r q n m s u (sym h ∙ halted_by listing image q m n u le k))
    (cases_lt n m)

pub file_of : (x : Text) (image : List Segment) (listing : Listing) (report file : List ℕ) (reason : Reason) (n : ℕ) → IsText x → IsImageOf x image
    → IsListing (flash_byte image) listing
    → HaltsInOrder listing image report file reason n → IsFileOf x file reason n
file_of x image listing report file reason n fine is lists h =
    let c = computes x image listing fine is lists in
    let e = one_end listing image reason (Break 0) n (steps x) h.state c.state h.halts c.halts in
    record {
      reason_is = e.reason;
      count = e.count;
      bytes = λ j k t. h.bytes j k t ∙ ap (λ (s : State). (s.cell (Byte (sram_start + j))).n) e.state ∙ c.memory (sram_start + j) (omega arith) (omega arith);
    }
