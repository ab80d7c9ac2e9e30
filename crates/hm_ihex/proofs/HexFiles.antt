-- What is read is just what the form of a file says.
use Rattle.std.proofs.Common.{◌≡◌, ◌⊎◌, ℕ, ◌+◌, ◌-◌, leb, List, [], ◌∷◌, ◌++◌, append_assoc, append-nil, Option, Some, None, Result, Ok, Err, IfOk, refl, sym}
use Rattle.std.proofs.Common.{ap, subst, ◌∙◌, inl, inr, arith}
use Rattle.std.specs.List.{AllByRecursion}
use Rattle.std.proofs.lemmas.Bool.{cases_Bool}
use Rattle.std.proofs.lemmas.List.Elements.{All-cons, All-head, All-nil, All-push, All-tail}
use Rattle.hm_base.specs.Image.{Before, IsApart, IsPlaced, Segment, segment, sram_start}
use Rattle.hm_base.specs.Results.{GivesImage}
use Rattle.hm_base.specs.declared.errors.ImageErr.{ImageErr}
use Rattle.hm_text_base.specs.Reading.{◌>>=◌}
use Rattle.hm_text_base.specs.Spans.{lines_of}
use Rattle.hm_ihex.specs.Cells.{Cells, image_of, with_data}
use Rattle.hm_ihex.specs.Files.{Reading, all_lines, behind_data, by_record, ended_by, first_reading, hex_in, lines_in}
use Rattle.hm_ihex.specs.HexFile.{AreApart, AreRecordLines, EndsOnce, IsHexFile, IsRecordLine, data_behind, data_of}
use Rattle.hm_ihex.specs.Records.{Record, data_at, end, line_in, new_base, start}
use Rattle.hm_ihex.proofs.Filled.{put_none}
use Rattle.hm_ihex.proofs.RecordForms.{line_read, line_told}
use Rattle.hm_ihex.proofs.LineForms.{lines_read, lines_told, records_low}
use Rattle.hm_ihex.proofs.Longest.{IsRunsOf, all_both, image_runs, joined_parted, one_image}
use Rattle.hm_ihex.specs.Written.{joined}
use Rattle.hm_ihex.proofs.Steps.{step}
use Rattle.hm_ihex.proofs.Holding.{Holds, bytes_same, first_holds, image_apart, same_bytes, step_read, step_told}

-- ---- segments that are apart

abbrev Apart : Segment → Segment → Type 0
Apart s t = Before s t ⊎ Before t s

swapped : (s t : Segment) → Apart s t → Apart t s
swapped s t (inl before) = inr before
swapped s t (inr behind) = inl behind

-- one behind the others
apart_push : (s : Segment) (ss : List Segment) → AreApart ss → IsApart s ss → AreApart (ss ++ s ∷ [])
apart_push s [] h apart = (All-nil (Apart s), tt)
apart_push s (t ∷ ts) h apart = (All-push (Apart t) ts s h.0 (swapped s t (All-head (Apart s) t ts apart)), apart_push s ts h.1 (All-tail (Apart s) t ts apart))

apart_one : (t s : Segment) (xs ys : List Segment) → IsApart t (xs ++ s ∷ ys) → Apart t s
apart_one t s [] ys h = All-head (Apart t) s ys h
apart_one t s (x ∷ xs) ys h = apart_one t s xs ys (All-tail (Apart t) x (xs ++ s ∷ ys) h)

apart_front : (s : Segment) (xs ys : List Segment) → AreApart (xs ++ s ∷ ys) → IsApart s xs
apart_front s [] ys h = All-nil (Apart s)
apart_front s (x ∷ xs) ys h = All-cons (Apart s) x xs (swapped x s (apart_one x s xs ys h.0)) (apart_front s xs ys h.1)

-- ---- no data

no_data : (a : ℕ) (m : Cells) → with_data a [] m ≡ Some m
no_data a m = elim (cases_Bool (leb sram_start a)) [
  | inl e ↦ rw (e, put_none (a - sram_start) m.sram) refl
  | inr e ↦ rw (e, put_none a m.flash) refl
]

-- ---- lines of records are read

-- cells that hold all data, and the image of them, which is what comes of the lines
record Read (k : ℕ) (r : Reading) (ls : List (List ℕ)) (all : List Segment) : Type 0 where
  cells : Cells
  is : lines_in k r ls ≡ Ok (image_of cells)
  holds : Holds cells all

abbrev based : Reading → ℕ → Reading
based r base = record { base = base; cells = r.cells; count = r.count }

abbrev more_data : Reading → Cells → Reading
more_data r cells = record { base = r.base; cells = cells; count = r.count + 1 }

nothing_else : (ls : List (List ℕ)) → AreRecordLines ls [] → ls ≡ []
nothing_else [] h = refl
nothing_else (l ∷ ls) h = absurd h

by_line : (k : ℕ) (r : Reading) (l : List ℕ) (ls : List (List ℕ)) (said : Record) → IsRecordLine l said
    → lines_in k r (l ∷ ls) ≡ by_record k r ls (λ q. lines_in (k + 1) q ls) (Some said)
by_line k r l ls said h = step k r l ls ∙ ap (by_record k r ls (λ q. lines_in (k + 1) q ls)) (line_read l said h)

read_on : (k : ℕ) (r q : Reading) (l : List ℕ) (ls : List (List ℕ)) (all : List Segment) → lines_in k r (l ∷ ls) ≡ lines_in (k + 1) q ls
    → Read (k + 1) q ls all → Read k r (l ∷ ls) all
read_on k r q l ls all e read = record { cells = read.cells; is = e ∙ read.is; holds = read.holds }

by_data : (k : ℕ) (r : Reading) (l : List ℕ) (ls : List (List ℕ)) (offset : ℕ) (bytes : List ℕ) (next : Cells) → IsRecordLine l (data_at offset bytes)
    → with_data (r.base + offset) bytes r.cells ≡ Some next
    → lines_in k r (l ∷ ls) ≡ lines_in (k + 1) (more_data r next) ls
by_data k r l ls offset bytes next h put = by_line k r l ls (data_at offset bytes) h
    ∙ ap (λ (o : Option Cells). behind_data r o >>= (λ q. lines_in (k + 1) q ls)) put

reads : (k : ℕ) (r : Reading) (done : List Segment) (ls : List (List ℕ)) (rs : List Record) → AreRecordLines ls rs → EndsOnce rs → Holds r.cells done
    → AllByRecursion IsPlaced done → AllByRecursion IsPlaced (data_behind r.base rs)
    → AreApart (done ++ data_behind r.base rs) → Read k r ls (done ++ data_behind r.base rs)
reads k r done [] [] lines ended holds all placed apart = absurd ended
reads k r done [] (said ∷ rs) lines ended holds all placed apart = absurd lines
reads k r done (l ∷ ls) [] lines ended holds all placed apart = absurd ended
reads k r done (l ∷ ls) (end ∷ rs) lines ended holds all placed apart =
    let none = nothing_else ls (subst (AreRecordLines ls) ended lines.1) in
    let nothing : done ++ data_behind r.base rs ≡ done = ap (λ (x : List Record). done ++ data_behind r.base x) ended ∙ append-nil done in
    record { cells = r.cells; is = by_line k r l ls end lines.0 ∙ ap (ended_by k r.cells) none; holds = subst (Holds r.cells) (sym nothing) holds }
reads k r done (l ∷ ls) (new_base base ∷ rs) lines ended holds all placed apart =
    read_on k r (based r base) l ls (done ++ data_behind base rs) (by_line k r l ls (new_base base) lines.0)
    (reads (k + 1) (based r base) done ls rs lines.1 ended holds all placed apart)
reads k r done (l ∷ ls) (start ∷ rs) lines ended holds all placed apart =
    read_on k r r l ls (done ++ data_behind r.base rs) (by_line k r l ls start lines.0) (reads (k + 1) r done ls rs lines.1 ended holds all placed apart)
reads k r done (l ∷ ls) (data_at offset [] ∷ rs) lines ended holds all placed apart =
    read_on k r (more_data r r.cells) l ls (done ++ data_behind r.base rs) (by_data k r l ls offset [] r.cells lines.0 (no_data (r.base + offset) r.cells))
    (reads (k + 1) (more_data r r.cells) done ls rs lines.1 ended holds all placed apart)
reads k r done (l ∷ ls) (data_at offset (b ∷ bs) ∷ rs) lines ended holds all placed apart =
    let s = segment (r.base + offset) (b ∷ bs) in
    let rest = data_behind r.base rs in
    let put = step_read r.cells done s holds all placed.0 (apart_front s done rest apart) in
    let next = more_data r put.0 in
    let regroup : (done ++ s ∷ []) ++ rest ≡ done ++ s ∷ rest = append_assoc done (s ∷ []) rest in
    subst (Read k r (l ∷ ls)) regroup
    (read_on k r next l ls ((done ++ s ∷ []) ++ rest) (by_data k r l ls offset (b ∷ bs) put.0 lines.0 put.1)
    (reads (k + 1) next (done ++ s ∷ []) ls rs lines.1 ended put.2 (all_both IsPlaced done (s ∷ []) all (placed.0, tt)) placed.1
    (subst AreApart (sym regroup) apart)))

-- a file of the form is read as its image
pub hex_only : (bytes : List ℕ) (image : List Segment) → IsHexFile bytes image → hex_in bytes ≡ Ok image
hex_only bytes image h =
    let lines = lines_read h.lines bytes (records_low h.lines h.records h.each_record) h.text in
    let read = reads 1 first_reading [] h.lines h.records h.each_record h.ended first_holds tt h.placed h.once in
    let runs = image_runs read.cells (data_of h.records) h.placed read.holds in
    ap (lines_in 1 first_reading) lines ∙ read.is
    ∙ ap (λ (i : List Segment). Ok i)
    (one_image (image_of read.cells) image runs.sound h.sound runs.longest h.longest
    (λ a. runs.same a ∙ sym (same_bytes image (data_of h.records) (image_apart image h.sound) h.once h.same a)))

-- ---- and what is read is of the form

record IsTold (base : ℕ) (ls : List (List ℕ)) (done image : List Segment) : Type 0 where
  records : List Record
  cells : Cells
  each_record : AreRecordLines ls records
  ended : EndsOnce records
  placed : AllByRecursion IsPlaced (done ++ data_behind base records)
  once : AreApart (done ++ data_behind base records)
  is : image_of cells ≡ image
  holds : Holds cells (done ++ data_behind base records)

abbrev Tells : List (List ℕ) → Type 0
Tells ls = (k : ℕ) (r : Reading) (done image : List Segment) → Holds r.cells done → AllByRecursion IsPlaced done → AreApart done → lines_in k r ls ≡ Ok image
    → IsTold r.base ls done image

abbrev image_or : List Segment → Result (List Segment) ImageErr → List Segment
image_or other (Ok image) = image
image_or other (Err e) = other

told_end : (k : ℕ) (r : Reading) (l : List ℕ) (ls : List (List ℕ)) (done image : List Segment) → IsRecordLine l end → Holds r.cells done
    → AllByRecursion IsPlaced done → AreApart done → ended_by k r.cells ls ≡ Ok image → IsTold r.base (l ∷ ls) done image
told_end k r l [] done image line holds all apart e =
    let nothing : done ≡ done ++ [] = sym (append-nil done) in
    record {
      records = end ∷ [];
      cells = r.cells;
      each_record = (line, tt);
      ended = refl;
      is = ap (image_or []) e;
      placed = subst (AllByRecursion IsPlaced) nothing all;
      once = subst AreApart nothing apart;
      holds = subst (Holds r.cells) nothing holds;
    }
told_end k r l (m ∷ ls) done image line holds all apart e = absurd cc

-- one record more in front, which gives no byte
told_more : (base next : ℕ) (said : Record) (l : List ℕ) (ls : List (List ℕ)) (done image : List Segment) → IsRecordLine l said
    → ((rs : List Record) → EndsOnce rs → EndsOnce (said ∷ rs)) → ((rs : List Record) → data_behind next rs ≡ data_behind base (said ∷ rs))
    → IsTold next ls done image → IsTold base (l ∷ ls) done image
told_more base next said l ls done image line ends same t =
    let all : done ++ data_behind next t.records ≡ done ++ data_behind base (said ∷ t.records) = ap (λ (x : List Segment). done ++ x) (same t.records) in
    record {
      records = said ∷ t.records;
      cells = t.cells;
      each_record = (line, t.each_record);
      ended = ends t.records t.ended;
      is = t.is;
      placed = subst (AllByRecursion IsPlaced) all t.placed;
      once = subst AreApart all t.once;
      holds = subst (Holds t.cells) all t.holds;
    }

-- and one that does
told_data : (base offset b : ℕ) (bs l : List ℕ) (ls : List (List ℕ)) (done image : List Segment) → IsRecordLine l (data_at offset (b ∷ bs))
    → IsTold base ls (done ++ segment (base + offset) (b ∷ bs) ∷ []) image → IsTold base (l ∷ ls) done image
told_data base offset b bs l ls done image line t =
    let s = segment (base + offset) (b ∷ bs) in
    let all : (done ++ segment (base + offset) (b ∷ bs) ∷ []) ++ data_behind base t.records
    ≡ done ++ segment (base + offset) (b ∷ bs) ∷ data_behind base t.records = append_assoc done (s ∷ []) (data_behind base t.records) in
    record {
      records = data_at offset (b ∷ bs) ∷ t.records;
      cells = t.cells;
      each_record = (line, t.each_record);
      ended = t.ended;
      is = t.is;
      placed = subst (AllByRecursion IsPlaced) all t.placed;
      once = subst AreApart all t.once;
      holds = subst (Holds t.cells) all t.holds;
    }

put_on : (k : ℕ) (r : Reading) (l : List ℕ) (ls : List (List ℕ)) (offset : ℕ) (bytes : List ℕ) (done image : List Segment) (put : Option Cells)
    → with_data (r.base + offset) bytes r.cells ≡ put → Tells ls → IsRecordLine l (data_at offset bytes) → Holds r.cells done
    → AllByRecursion IsPlaced done → AreApart done → (behind_data r put >>= (λ q. lines_in (k + 1) q ls)) ≡ Ok image → IsTold r.base (l ∷ ls) done image
put_on k r l ls offset bytes done image None was tells line holds all apart e = absurd cc
put_on k r l ls offset [] done image (Some next) was tells line holds all apart e =
    let same : r.cells ≡ next = cells_same r.cells next (sym (no_data (r.base + offset) r.cells) ∙ was) in
    told_more r.base r.base (data_at offset []) l ls done image line (λ rs h. h) (λ rs. refl)
    (tells (k + 1) (more_data r next) done image (subst (λ (c : Cells). Holds c done) same holds) all apart e)
  where
    cells_same : (c d : Cells) → Some c ≡ Some d → c ≡ d
    cells_same c d e = cc
put_on k r l ls offset (b ∷ bs) done image (Some next) was tells line holds all apart e =
    let s = segment (r.base + offset) (b ∷ bs) in
    let added = step_told r.cells next done s holds all (omega arith) was in
    told_data r.base offset b bs l ls done image line
    (tells (k + 1) (more_data r next) (done ++ s ∷ []) image added.holds (all_both IsPlaced done (s ∷ []) all (added.placed, tt))
    (apart_push s done apart added.apart) e)

by_said : (k : ℕ) (r : Reading) (l : List ℕ) (ls : List (List ℕ)) (done image : List Segment) (said : Option Record) → line_in l ≡ said → Tells ls
    → Holds r.cells done → AllByRecursion IsPlaced done → AreApart done
    → by_record k r ls (λ q. lines_in (k + 1) q ls) said ≡ Ok image → IsTold r.base (l ∷ ls) done image
by_said k r l ls done image None is tells holds all apart e = absurd cc
by_said k r l ls done image (Some end) is tells holds all apart e = told_end k r l ls done image (line_told l end is) holds all apart e
by_said k r l ls done image (Some (new_base base)) is tells holds all apart e =
    told_more r.base base (new_base base) l ls done image (line_told l (new_base base) is) (λ rs h. h) (λ rs. refl)
    (tells (k + 1) (based r base) done image holds all apart e)
by_said k r l ls done image (Some start) is tells holds all apart e =
    told_more r.base r.base start l ls done image (line_told l start is) (λ rs h. h) (λ rs. refl) (tells (k + 1) r done image holds all apart e)
by_said k r l ls done image (Some (data_at offset bytes)) is tells holds all apart e =
    put_on k r l ls offset bytes done image (with_data (r.base + offset) bytes r.cells) refl tells (line_told l (data_at offset bytes) is) holds all apart e

tells : (ls : List (List ℕ)) → Tells ls
unfolding lines_in
tells [] k r done image holds all apart e = absurd cc
tells (l ∷ ls) k r done image holds all apart e = by_said k r l ls done image (line_in l) refl (tells ls) holds all apart (sym (step k r l ls) ∙ e)

-- bytes that are read as an image are a file of it
pub hex_found : (bytes : List ℕ) (image : List Segment) → hex_in bytes ≡ Ok image → IsHexFile bytes image
hex_found bytes image e =
    let t = tells (all_lines (lines_of bytes)) 1 first_reading [] image first_holds tt tt e in
    let runs = subst (IsRunsOf (data_of t.records)) t.is (image_runs t.cells (data_of t.records) t.placed t.holds) in
    record {
      lines = all_lines (lines_of bytes);
      records = t.records;
      text = lines_told bytes;
      each_record = t.each_record;
      ended = t.ended;
      placed = t.placed;
      once = t.once;
      sound = runs.sound;
      longest = runs.longest;
      same = bytes_same image (data_of t.records) (image_apart image runs.sound) t.once runs.same;
    }

-- what is read is of the longest runs
pub hex_longest : (bytes : List ℕ) (image : List Segment) → hex_in bytes ≡ Ok image → joined image ≡ image
hex_longest bytes image e = let h = hex_found bytes image e in joined_parted image h.longest

-- and so is what a function that reads them returned
pub is_found : (bytes : List ℕ) (result : Result (List Segment) ImageErr) → GivesImage result (hex_in bytes) → IfOk result (λ image. IsHexFile bytes image)
is_found bytes (Ok image) gives = hex_found bytes image gives
is_found bytes (Err e) gives = tt
