-- What is read of bytes is the image that they hold, and an image that they hold is read.
use Rattle.std.proofs.Common.{◌≡◌, ◌⊎◌, ℕ, ◌+◌, ◌*◌, ◌≤◌, Bool, true, false, leb, eqb, cond, ◌||◌, List, [], ◌∷◌, length, map, drop, Option, Some, None, Result}
use Rattle.std.proofs.Common.{Ok, Err, inl, inr, refl, sym, ap, subst, ◌∙◌}
use Rattle.std.specs.Prelude.{IfOk}
use Rattle.std.specs.List.{AllByRecursion}
use Rattle.std.proofs.lemmas.Bool.{leb-true, le-leb, eqb-true, eq-eqb, or_cases, or_left, or_right, cond-true, cases_Bool}
use Rattle.hm_base.specs.Image.{Segment, with_segment, flash_size, flat, IsPlaced, IsApart, IsImage}
use Rattle.hm_base.specs.Results.{GivesImage, unless}
use Rattle.hm_base.specs.declared.errors.ImageErr.{ImageErr}
use Rattle.hm_base.proofs.Images.{IsImage-with_segment}
use Rattle.hm_base.proofs.Results.{unless_ok}
use Rattle.hm_text_base.specs.Reading.{◌>>=◌}
use Rattle.hm_text_base.proofs.Steps.{bind_ok, ok_is}
use Rattle.hm_elf.specs.declared.reading.ProgramHeader.{ProgramHeader}
use Rattle.hm_elf.specs.Elf.{half, word, begins_as_elf, header_size, entry_size, most_headers, class_of, order_of, kind_of, machine_of, table_start}
use Rattle.hm_elf.specs.Elf.{entry_size_of, header_count, IsHeader, headers_in, headers_of, loads, loading, loaded, IsLoaded, with_segments, IsElf, IsFlat}
use Rattle.hm_elf.specs.Elf.{IsImageFile}
use Rattle.hm_elf.specs.ReadImage.{first_failing, flat_checks, flat_in, header_checks, size_checks, place_in, load_in, loads_in, elf_in, image_in}
use Rattle.hm_elf.proofs.Placing.{placed, placed_found, image_parts, IsImage-before}
use Rattle.hm_elf.proofs.LoadSteps.{skipped, to_place}

-- ---- checks

passing : (b : Bool) (d : ImageErr) (o : Option ImageErr) → cond b o (Some d) ≡ None → (b ≡ true) × (o ≡ None)
passing true d o e = (refl, e)
passing false d o e = absurd cc

passed : (b : Bool) (d : ImageErr) (o : Option ImageErr) → b ≡ true → o ≡ None → cond b o (Some d) ≡ None
passed b d o e f = rw e f

-- ---- the file header

pub header_found : (bytes : List ℕ) → first_failing (header_checks bytes) ≡ None → IsHeader bytes
header_found bytes e =
    let a = passing (leb header_size (length bytes)) _ _ e in
    let b = passing (eqb (class_of bytes) 1) _ _ a.1 in
    let c = passing (eqb (order_of bytes) 1) _ _ b.1 in
    let d = passing (eqb (kind_of bytes) 2) _ _ c.1 in
    let f = passing (eqb (machine_of bytes) 40) _ _ d.1 in
    let g = passing (eqb (header_count bytes) 0 || eqb (entry_size_of bytes) entry_size) _ _ f.1 in
    let h = passing (leb (header_count bytes) most_headers) _ _ g.1 in
    let i = passing (leb (table_start bytes + entry_size * header_count bytes) (length bytes)) _ _ h.1 in
    record {
      whole = leb-true _ _ a.0;
      class = eqb-true _ _ b.0;
      order = eqb-true _ _ c.0;
      kind = eqb-true _ _ d.0;
      machine = eqb-true _ _ f.0;
      entries = elim (or_cases (eqb (header_count bytes) 0) (eqb (entry_size_of bytes) entry_size) g.0) [
        | inl none ↦ inl (eqb-true _ _ none)
        | inr same ↦ inr (eqb-true _ _ same)
      ];
      few = leb-true _ _ h.0;
      table = leb-true _ _ i.0;
    }

entries_again : (bytes : List ℕ) → (header_count bytes ≡ 0) ⊎ (entry_size_of bytes ≡ entry_size)
    → (eqb (header_count bytes) 0 || eqb (entry_size_of bytes) entry_size) ≡ true
entries_again bytes (inl none) = or_left _ _ (eq-eqb _ _ none)
entries_again bytes (inr same) = or_right _ _ (eq-eqb _ _ same)

pub header_again : (bytes : List ℕ) → IsHeader bytes → first_failing (header_checks bytes) ≡ None
header_again bytes h =
    passed (leb header_size (length bytes)) _ _ (le-leb _ _ h.whole)
    (passed (eqb (class_of bytes) 1) _ _ (eq-eqb _ _ h.class)
    (passed (eqb (order_of bytes) 1) _ _ (eq-eqb _ _ h.order)
    (passed (eqb (kind_of bytes) 2) _ _ (eq-eqb _ _ h.kind)
    (passed (eqb (machine_of bytes) 40) _ _ (eq-eqb _ _ h.machine)
    (passed (eqb (header_count bytes) 0 || eqb (entry_size_of bytes) entry_size) _ _ (entries_again bytes h.entries)
    (passed (leb (header_count bytes) most_headers) _ _ (le-leb _ _ h.few)
    (passed (leb (table_start bytes + entry_size * header_count bytes) (length bytes)) _ _ (le-leb _ _ h.table) refl)))))))

pub header_refused : (bytes : List ℕ) (e : ImageErr) → first_failing (header_checks bytes) ≡ Some e → elf_in bytes ≡ Err e
unfolding elf_in
header_refused bytes e is = ap (λ (o : Option ImageErr). unless o (loads_in bytes 0 (headers_of bytes) [])) is

pub header_passed : (bytes : List ℕ) (count start : ℕ) → first_failing (header_checks bytes) ≡ None → count ≡ half bytes 44 → start ≡ word bytes 28
    → elf_in bytes ≡ loads_in bytes 0 (headers_in count (drop start bytes)) []
unfolding elf_in
header_passed bytes count start is c s =
    ap (λ (o : Option ImageErr). unless o (loads_in bytes 0 (headers_of bytes) [])) is
    ∙ ap (λ (n : ℕ). loads_in bytes 0 (headers_in n (drop (word bytes 28) bytes)) []) (sym c)
    ∙ ap (λ (n : ℕ). loads_in bytes 0 (headers_in count (drop n bytes)) []) (sym s)

-- ---- one program header

load_true : (bytes : List ℕ) (k : ℕ) (h : ProgramHeader) (image : List Segment) → loads h ≡ true
    → load_in bytes k h image ≡ unless (first_failing (size_checks bytes k h)) (place_in k (loaded bytes h) image)
unfolding load_in
load_true bytes k h image e = cond-true (loads h) (unless (first_failing (size_checks bytes k h)) (place_in k (loaded bytes h) image)) (Ok image) e

record Loaded (bytes : List ℕ) (h : ProgramHeader) (image more : List Segment) : Type 0 where
  pub inside : h.offset + h.file_size ≤ length bytes
  pub room : h.file_size ≤ h.memory_size
  pub is_placed : IsPlaced (loaded bytes h)
  pub is_apart : IsApart (loaded bytes h) image
  pub is_put : more ≡ with_segment (loaded bytes h) image

load_found : (bytes : List ℕ) (k : ℕ) (h : ProgramHeader) (image more : List Segment) → loads h ≡ true → load_in bytes k h image ≡ Ok more
    → Loaded bytes h image more
load_found bytes k h image more t e =
    let u = unless_ok (first_failing (size_checks bytes k h)) (place_in k (loaded bytes h) image) more (sym (load_true bytes k h image t) ∙ e) in
    let a = passing (leb (h.offset + h.file_size) (length bytes)) _ _ u.0 in
    let b = passing (leb h.file_size h.memory_size) _ _ a.1 in
    let p = placed_found k (loaded bytes h) image more u.1 in
    record { inside = leb-true _ _ a.0; room = leb-true _ _ b.0; is_placed = p.0.0; is_apart = p.0.1; is_put = p.1 }

-- ---- all program headers

-- program headers that all load bytes take an image to another
record Loads (bytes : List ℕ) (hs : List ProgramHeader) (image final : List Segment) : Type 0 where
  pub each_loaded : AllByRecursion (IsLoaded bytes) hs
  pub segments : final ≡ with_segments image (map (loaded bytes) hs)
  pub sound : IsImage final

loads_found : (bytes : List ℕ) (k : ℕ) (hs : List ProgramHeader) (image final : List Segment) → IsImage image → loads_in bytes k hs image ≡ Ok final
    → Loads bytes (loading hs) image final
unfolding loads_in
loads_found bytes k [] image final i e =
    let same : image ≡ final = ok_is image final e in
    record { each_loaded = tt; segments = sym same; sound = subst IsImage same i }
loads_found bytes k (h ∷ hs) image final i e =
    let b = bind_ok (load_in bytes k h image) (λ m. loads_in bytes (k + 1) hs m) final e in
    elim (cases_Bool (loads h)) [
      | inl t ↦ (
          let f = load_found bytes k h image b.0 t b.1 in
          let more : IsImage b.0 = subst IsImage (sym f.is_put) (IsImage-with_segment (loaded bytes h) image f.is_placed f.is_apart i) in
          let r = loads_found bytes (k + 1) hs b.0 final more b.2 in
          let first : IsLoaded bytes h = (f.inside, f.room) in
          let whole : Loads bytes (h ∷ loading hs) image final = record {
            each_loaded = (first, r.each_loaded);
            segments = r.segments ∙ ap (λ (x : List Segment). with_segments x (map (loaded bytes) (loading hs))) f.is_put;
            sound = r.sound;
          } in
          subst (λ (x : Bool). Loads bytes (cond x (h ∷ loading hs) (loading hs)) image final) (sym t) whole)
      | inr n ↦ (
          let same : b.0 ≡ image = ok_is b.0 image (sym b.1 ∙ skipped bytes k h image n) in
          let rest : loads_in bytes (k + 1) hs image ≡ Ok final = subst (λ (x : List Segment). loads_in bytes (k + 1) hs x ≡ Ok final) same b.2 in
          subst (λ (x : Bool). Loads bytes (cond x (h ∷ loading hs) (loading hs)) image final) (sym n) (loads_found bytes (k + 1) hs image final i rest))
    ]

then_loads : (bytes : List ℕ) (k : ℕ) (h : ProgramHeader) (hs : List ProgramHeader) (image more : List Segment) → load_in bytes k h image ≡ Ok more
    → loads_in bytes k (h ∷ hs) image ≡ loads_in bytes (k + 1) hs more
unfolding loads_in
then_loads bytes k h hs image more e = ap (λ (r : Result (List Segment) ImageErr). r >>= λ m. loads_in bytes (k + 1) hs m) e

loads_again : (bytes : List ℕ) (k : ℕ) (hs : List ProgramHeader) (image : List Segment) → AllByRecursion (IsLoaded bytes) (loading hs)
    → IsImage (with_segments image (map (loaded bytes) (loading hs)))
    → loads_in bytes k hs image ≡ Ok (with_segments image (map (loaded bytes) (loading hs)))
unfolding loads_in
loads_again bytes k [] image a i = refl
loads_again bytes k (h ∷ hs) image a i = go (loads h) refl a i (loads_again bytes (k + 1) hs)
  where
    go : (x : Bool) → loads h ≡ x → AllByRecursion (IsLoaded bytes) (cond x (h ∷ loading hs) (loading hs))
        → IsImage (with_segments image (map (loaded bytes) (cond x (h ∷ loading hs) (loading hs))))
        → ((more : List Segment) → AllByRecursion (IsLoaded bytes) (loading hs) → IsImage (with_segments more (map (loaded bytes) (loading hs)))
        → loads_in bytes (k + 1) hs more ≡ Ok (with_segments more (map (loaded bytes) (loading hs))))
        → loads_in bytes k (h ∷ hs) image ≡ Ok (with_segments image (map (loaded bytes) (cond x (h ∷ loading hs) (loading hs))))
    go true t a i r =
        let more = with_segment (loaded bytes h) image in
        let p = image_parts (loaded bytes h) image (IsImage-before more (map (loaded bytes) (loading hs)) i) in
        let one : load_in bytes k h image ≡ Ok more = to_place bytes k h image t a.0.0 a.0.1 ∙ placed k (loaded bytes h) image (p.is_placed, p.is_apart) in
        then_loads bytes k h hs image more one ∙ r more a.1 i
    go false n a i r = then_loads bytes k h hs image image (skipped bytes k h image n) ∙ r image a i

-- ---- files

elf_found : (bytes : List ℕ) (image : List Segment) → elf_in bytes ≡ Ok image → IsElf bytes image
unfolding elf_in
elf_found bytes image e =
    let u = unless_ok (first_failing (header_checks bytes)) (loads_in bytes 0 (headers_of bytes) []) image e in
    let l = loads_found bytes 0 (headers_of bytes) [] image tt u.1 in
    record { header = header_found bytes u.0; each_loaded = l.each_loaded; segments = l.segments; sound = l.sound }

elf_again : (bytes : List ℕ) (image : List Segment) → IsElf bytes image → elf_in bytes ≡ Ok image
unfolding elf_in
elf_again bytes image f =
    let all = loads_again bytes 0 (headers_of bytes) [] f.each_loaded (subst IsImage f.segments f.sound) in
    ap (λ (o : Option ImageErr). unless o (loads_in bytes 0 (headers_of bytes) [])) (header_again bytes f.header) ∙ all
    ∙ ap (λ (x : List Segment). Ok x) (sym f.segments)

flat_found : (bytes : List ℕ) (image : List Segment) → flat_in bytes ≡ Ok image → IsFlat bytes image
unfolding flat_in
flat_found bytes image e =
    let u = unless_ok (first_failing (flat_checks bytes)) (Ok (flat bytes)) image e in
    let a = passing (leb 8 (length bytes)) _ _ u.0 in
    let b = passing (leb (length bytes) flash_size) _ _ a.1 in
    record { long = leb-true _ _ a.0; short = leb-true _ _ b.0; is_flat = sym (ok_is (flat bytes) image u.1) }

flat_again : (bytes : List ℕ) (image : List Segment) → IsFlat bytes image → flat_in bytes ≡ Ok image
unfolding flat_in
flat_again bytes image f = rw (le-leb 8 (length bytes) f.long, le-leb (length bytes) flash_size f.short) (ap (λ (x : List Segment). Ok x) (sym f.is_flat))

pub image_found : (bytes : List ℕ) (image : List Segment) → image_in bytes ≡ Ok image → IsImageFile bytes image
unfolding image_in
image_found bytes image e = go (begins_as_elf bytes) refl e
  where
    go : (x : Bool) → begins_as_elf bytes ≡ x → cond x (elf_in bytes) (flat_in bytes) ≡ Ok image → IsImageFile bytes image
    go true t e = inl (t, elf_found bytes image e)
    go false n e = inr (n, flat_found bytes image e)

pub image_again : (bytes : List ℕ) (image : List Segment) → IsImageFile bytes image → image_in bytes ≡ Ok image
unfolding image_in
image_again bytes image (inl f) = ap (λ (x : Bool). cond x (elf_in bytes) (flat_in bytes)) f.0 ∙ elf_again bytes image f.1
image_again bytes image (inr f) = ap (λ (x : Bool). cond x (elf_in bytes) (flat_in bytes)) f.0 ∙ flat_again bytes image f.1

pub is_found : (bytes : List ℕ) (r : Result (List Segment) ImageErr) → GivesImage r (image_in bytes) → IfOk r (λ image. IsImageFile bytes image)
is_found bytes (Ok image) g = image_found bytes image g
is_found bytes (Err e) g = tt
