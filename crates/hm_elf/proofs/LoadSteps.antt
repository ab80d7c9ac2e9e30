-- Steps of the code that reads what program headers load.
use Rattle.std.proofs.Common.{◌≡◌, ℕ, suc, ◌+◌, ◌-◌, ◌*◌, ◌<◌, ◌≤◌, true, false, List, ◌∷◌, drop, length, Result, Ok, Err, refl, sym, ap, subst, ◌∙◌, arith}
use Rattle.std.proofs.Common.{◌⊎◌, inl, inr}
use Rattle.std.proofs.lemmas.Bool.{le-leb, lt-leb}
use Rattle.std.proofs.lemmas.List.{drop-drop}
use Rattle.hm_base.specs.Image.{Segment, segment, IsPlaced, IsApart}
use Rattle.hm_base.specs.Results.{FailsImage, GivesImage}
use Rattle.hm_base.specs.declared.errors.ImageErr.{ImageErr}
use Rattle.hm_base.specs.declared.errors.ImageErr.TheVariants as refusals
use Rattle.hm_text_base.specs.Reading.{◌>>=◌}
use Rattle.hm_elf.specs.declared.reading.ProgramHeader.{ProgramHeader}
use Rattle.hm_elf.proofs.Placing.{refused}
use Rattle.hm_elf.specs.Elf.{header_at, headers_in, loads, loaded}
use Rattle.hm_elf.specs.ReadImage.{place_in, load_in, loads_in}

-- a refusal fails so
pub Fails-same : (e : ImageErr) (read : Result (List Segment) ImageErr) → read ≡ Err e → FailsImage e read
Fails-same refusals.OutOfMemory read is = tt
Fails-same e read is = is

pub Fails-with : (e : ImageErr) (read read' : Result (List Segment) ImageErr) → ((d : ImageErr) → read ≡ Err d → read' ≡ Err d) → FailsImage e read
    → FailsImage e read'
Fails-with refusals.OutOfMemory read read' f h = tt
Fails-with e read read' f h = f e h

pub skipped : (bytes : List ℕ) (k : ℕ) (h : ProgramHeader) (image : List Segment) → loads h ≡ false → load_in bytes k h image ≡ Ok image
unfolding load_in
skipped bytes k h image e = rw e refl

pub past_end : (bytes : List ℕ) (k : ℕ) (h : ProgramHeader) (image : List Segment) → loads h ≡ true → length bytes < h.offset + h.file_size
    → load_in bytes k h image ≡ Err (refusals.Truncated (length bytes))
unfolding load_in
past_end bytes k h image e l = rw (e, lt-leb (h.offset + h.file_size) (length bytes) l) refl

pub no_room : (bytes : List ℕ) (k : ℕ) (h : ProgramHeader) (image : List Segment) → loads h ≡ true → h.offset + h.file_size ≤ length bytes
    → h.memory_size < h.file_size → load_in bytes k h image ≡ Err (refusals.Segment k)
unfolding load_in
no_room bytes k h image e l r = rw (e, le-leb (h.offset + h.file_size) (length bytes) l, lt-leb h.file_size h.memory_size r) refl

pub to_place : (bytes : List ℕ) (k : ℕ) (h : ProgramHeader) (image : List Segment) → loads h ≡ true → h.offset + h.file_size ≤ length bytes
    → h.file_size ≤ h.memory_size → load_in bytes k h image ≡ place_in k (loaded bytes h) image
unfolding load_in
to_place bytes k h image e l r = rw (e, le-leb (h.offset + h.file_size) (length bytes) l, le-leb h.file_size h.memory_size r) refl

-- ---- the loop

-- the program headers from the k-th on
abbrev pub left : ℕ → ℕ → List ℕ → List ProgramHeader
left k count table = headers_in (count - k) (drop (32 * k) table)

next_header : (k count : ℕ) (table : List ℕ) → k < count → left k count table ≡ header_at (drop (32 * k) table) ∷ left (k + 1) count table
next_header k count table l =
    let n : count - k ≡ suc (count - (k + 1)) = omega arith in
    let at : 32 * k + 32 ≡ 32 * (k + 1) = omega arith in
    let rest : drop 32 (drop (32 * k) table) ≡ drop (32 * (k + 1)) table = drop-drop 32 (32 * k) table ∙ ap (λ (x : ℕ). drop x table) at in
    ap (λ (x : ℕ). headers_in x (drop (32 * k) table)) n ∙ ap (λ (x : List ℕ). header_at (drop (32 * k) table) ∷ headers_in (count - (k + 1)) x) rest

loads_next : (bytes : List ℕ) (k count : ℕ) (table : List ℕ) (image : List Segment) (h : ProgramHeader) → k < count → h ≡ header_at (drop (32 * k) table)
    → loads_in bytes k (left k count table) image ≡ (load_in bytes k h image >>= λ m. loads_in bytes (k + 1) (left (k + 1) count table) m)
unfolding loads_in
loads_next bytes k count table image h l is =
    ap (λ (hs : List ProgramHeader). loads_in bytes k hs image) (next_header k count table l)
    ∙ ap (λ (x : ProgramHeader). load_in bytes k x image >>= λ m. loads_in bytes (k + 1) (left (k + 1) count table) m) (sym is)

pub goes_on : (bytes : List ℕ) (k count : ℕ) (table : List ℕ) (image more : List Segment) (read : Result (List Segment) ImageErr) (h : ProgramHeader)
    → k < count → h ≡ header_at (drop (32 * k) table) → load_in bytes k h image ≡ Ok more → loads_in bytes k (left k count table) image ≡ read
    → loads_in bytes (k + 1) (left (k + 1) count table) more ≡ read
goes_on bytes k count table image more read h l is e so_far =
    sym (loads_next bytes k count table image h l is
    ∙ ap (λ (r : Result (List Segment) ImageErr). r >>= λ m. loads_in bytes (k + 1) (left (k + 1) count table) m) e) ∙ so_far

pub ends : (bytes : List ℕ) (k count : ℕ) (table : List ℕ) (image : List Segment) (read : Result (List Segment) ImageErr) (e : ImageErr) (h : ProgramHeader)
    → k < count → h ≡ header_at (drop (32 * k) table) → loads_in bytes k (left k count table) image ≡ read → FailsImage e (load_in bytes k h image)
    → FailsImage e read
ends bytes k count table image read e h l is so_far fails =
    let next : Result (List Segment) ImageErr → Result (List Segment) ImageErr = λ r. r >>= λ m. loads_in bytes (k + 1) (left (k + 1) count table) m in
    Fails-with e (load_in bytes k h image) read (λ d stop. sym so_far ∙ loads_next bytes k count table image h l is ∙ ap next stop) fails

pub is_done : (bytes : List ℕ) (k count : ℕ) (table : List ℕ) (image : List Segment) (read : Result (List Segment) ImageErr)
    → count ≤ k → loads_in bytes k (left k count table) image ≡ read → read ≡ Ok image
unfolding loads_in
is_done bytes k count table image read l so_far =
    let none : count - k ≡ 0 = omega arith in
    sym so_far ∙ ap (λ (n : ℕ). loads_in bytes k (headers_in n (drop (32 * k) table)) image) none

-- ---- a segment read by the code

pub seen_at : (bytes : List ℕ) (k : ℕ) (h : ProgramHeader) (image : List Segment) (items : List ℕ) (result : Result (List Segment) ImageErr)
    → load_in bytes k h image ≡ place_in k (loaded bytes h) image → segment h.address items ≡ loaded bytes h
    → GivesImage result (place_in k (segment h.address items) image) → GivesImage result (load_in bytes k h image)
seen_at bytes k h image items result is same g =
    subst (λ (r : Result (List Segment) ImageErr). GivesImage result r) (ap (λ (s : Segment). place_in k s image) same ∙ sym is) g

-- what `add` answers
abbrev stopped : ImageErr → Result (Unit {0}) ImageErr
stopped e = Err e

pub refused_by : (k : ℕ) (s : Segment) (image : List Segment) (e : ImageErr) (index : ℕ) → e ≡ refusals.Segment index
    → (e ≡ refusals.Segment (length image)) ⊎ (e ≡ refusals.OutOfMemory)
    → (stopped e ≡ stopped (refusals.Segment (length image)) → ¬ (IsPlaced s × IsApart s image))
    → place_in k s image ≡ Err (refusals.Segment k)
refused_by k s image e index is (inl same) no_fit = refused k s image (no_fit (ap stopped same))
refused_by k s image e index is (inr memory) no_fit = absurd cc
