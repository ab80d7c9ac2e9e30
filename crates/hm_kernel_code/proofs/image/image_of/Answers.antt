use Rattle.std.proofs.Common.{◌≡◌, ◌≤◌, ℕ, List, length, subst, sym, ap, ◌∙◌}
use Rattle.hm_base.specs.Image.{Segment, flash_size, flat}
use Rattle.hm_kernel_lang.specs.declared.machine.Item.{Item}
use Rattle.hm_kernel_lang.specs.declared.text.Array.{Array}
use Rattle.hm_kernel_lang.specs.declared.text.Text.{Text}
use Rattle.hm_kernel_lang.specs.Code.{code}
use Rattle.hm_kernel_code.specs.Images.{HasItems}
use Rattle.hm_kernel_instrs.specs.Ranges.{ItemsFit}
use Rattle.hm_kernel_code.specs.Segments.{AllApart, AllPlaced, with_arrays}
use Rattle.hm_kernel_code.proofs.Apart.{all_placed}
use Rattle.hm_kernel_code.proofs.Exists.{code_fits}
use Rattle.hm_kernel_code.proofs.Whole.{fits_flash, text_apart}
use Rattle.hm_kernel_code.proofs.image.image_of.Goals as goal

abbrev has_code : (x : Text) (ys zs : List Item) (bytes : List ℕ) → HasItems x.element zs bytes → zs ≡ ys → ys ≡ code x → HasItems x.element (code x) bytes
has_code x ys zs bytes has same is = subst (λ (xs : List Item). HasItems x.element xs bytes) (same ∙ is) has

pub flash_bytes-requires : goal.flash_bytes-requires
flash_bytes-requires c = record {
  fit = subst ItemsFit (sym (c.deref.ensures.value ∙ c.in_ok-items.ensures.items)) (code_fits c.args.text.now c.requires.text);
}

pub flat_image-requires-clause-few : goal.flat_image-requires-clause-few
flat_image-requires-clause-few c =
    let x = c.args.text.now in
    let has = has_code x _ _ _ c.in_ok-bytes.ensures.bytes c.deref.ensures.value c.in_ok-items.ensures.items in
    subst (λ (bs : List ℕ). length bs ≤ flash_size) (sym has.is) (fits_flash x has.instrs c.requires.text has.kinds).1

pub add_arrays-requires-clause-placed : goal.add_arrays-requires-clause-placed
add_arrays-requires-clause-placed c =
    let x = c.args.text.now in
    subst (AllPlaced x.element) (sym c.deref-2.ensures.value) (all_placed x.element x.count x.arrays.items c.requires.text.arrays)

pub add_arrays-requires-clause-apart : goal.add_arrays-requires-clause-apart
add_arrays-requires-clause-apart c =
    let x = c.args.text.now in
    let has = has_code x _ _ _ c.in_ok-bytes.ensures.bytes c.deref.ensures.value c.in_ok-items.ensures.items in
    subst (λ (xs : List Array). AllApart x.element xs c.in_ok-image.image) (sym c.deref-2.ensures.value)
    (subst (AllApart x.element x.arrays.items) (sym (c.in_ok-image.ensures.value ∙ ap flat has.is)) (text_apart x has.instrs c.requires.text has.kinds))
