-- The image of a text: its arrays' values as segments, each put among those that are there.
use Rattle.std.specs.Prelude.{◌<◌, List, [], ◌∷◌, length, nat_eq, slice_index, if◌then◌else◌, All}
use Rattle.hm_base.specs.Image.{IsApart, IsPlaced, Segment, segment, with_segment}
use Rattle.hm_kernel_lang.specs.declared.text.ElementType.{ElementType}
use Rattle.hm_kernel_lang.specs.declared.text.Array.{Array}
use Rattle.hm_kernel_lang.specs.Values.{element_bytes}

-- the segment of an array: the bytes of its values, from its address on
abbrev pub array_segment : ElementType → Array → Segment
array_segment t x = segment x.addr (element_bytes t (length x.values.items) (λ j. slice_index x.values.items j))

-- an array without values gives no segment
abbrev pub with_array : ElementType → Array → List Segment → List Segment
with_array t x image = if nat_eq (length x.values.items) 0 then image else with_segment (array_segment t x) image

-- an image with the segments of arrays, of which the last is put in first
abbrev pub with_arrays : ElementType → List Array → List Segment → List Segment
with_arrays t [] image = image
with_arrays t (x ∷ xs) image = with_array t x (with_arrays t xs image)

-- each overlaps none of those that are there
abbrev pub AllApart : ElementType → List Array → List Segment → Type 0
AllApart t [] image = Unit {0}
AllApart t (x ∷ xs) image = IsApart (array_segment t x) (with_arrays t xs image) × AllApart t xs image

-- each that has values lies whole in SRAM
abbrev pub AllPlaced : ElementType → List Array → Type 0
AllPlaced t xs = All (λ x. 0 < length x.values.items → IsPlaced (array_segment t x)) xs
