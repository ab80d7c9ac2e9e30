-- The bytes of flash, item by item.
use Rattle.std.proofs.Common.{◌≡◌, ℕ, ◌+◌, ◌<◌, List, [], ◌∷◌, ◌++◌, length, take, sym, ap, ◌∙◌, subst, append-nil, suc, zero, arith}
use Rattle.std.specs.Prelude.{slice_index_or}
use Rattle.std.proofs.lemmas.List.{take_more}
use Rattle.hm_isa.specs.Code.{halfwords}
use Rattle.hm_isa.specs.declared.Instr.{Instr}
use Rattle.hm_kernel_lang.specs.declared.machine.Item.{Item}
use Rattle.hm_kernel_lang.specs.declared.text.ElementType.{ElementType}
use Rattle.hm_code_bytes.specs.Bytes.{all_halves, half_bytes, word_bytes}
use Rattle.hm_code_bytes.proofs.Bytes.{all_append, halves_append}
use Rattle.hm_code_bytes.proofs.Made.{items_append}
use Rattle.hm_kernel_code.specs.Images.{HasItems}
use Rattle.hm_kernel_instrs.specs.Instructions.{AreItems, IsItem}
use Rattle.hm_kernel_instrs.specs.Ranges.{ItemFits, ItemsFit}

-- an item of those that are in their ranges
pub fit_at : (xs : List Item) (k : ℕ) (x : Item) → k < length xs → x ≡ slice_index_or xs k x → ItemsFit xs → ItemFits x
fit_at [] k x h is all = absurd (omega arith)
fit_at (y ∷ ys) zero x h is all = subst ItemFits (sym is) all.0
fit_at (y ∷ ys) (suc k) x h is all = fit_at ys k x (omega arith) is all.1

-- one item more
pub item_next : (t : ElementType) (xs : List Item) (k : ℕ) (x : Item) (i : Instr) (a b : List ℕ) → k < length xs → x ≡ slice_index_or xs k x
    → HasItems t (take k xs) a → IsItem t x i → b ≡ a ++ half_bytes (halfwords i) → HasItems t (take (k + 1) xs) b
item_next t xs k x i a b l is h item e =
    let more : take (k + 1) xs ≡ take k xs ++ (x ∷ []) = take_more xs k x l ∙ ap (λ (y : Item). take k xs ++ (y ∷ [])) (sym is) in
    let codes : half_bytes (all_halves (h.instrs ++ (i ∷ []))) ≡ half_bytes (all_halves h.instrs) ++ half_bytes (halfwords i) =
    ap half_bytes (all_append h.instrs (i ∷ []) ∙ ap (λ (hs : List ℕ). all_halves h.instrs ++ hs) (append-nil (halfwords i)))
    ∙ halves_append (all_halves h.instrs) (halfwords i) in
    record {
      instrs = h.instrs ++ (i ∷ []);
      kinds = subst (λ (ys : List Item). AreItems t ys (h.instrs ++ (i ∷ []))) (sym more)
          (items_append (IsItem t) (take k xs) (x ∷ []) h.instrs (i ∷ []) h.kinds (item, tt));
      is = e ∙ ap (λ (bs : List ℕ). bs ++ half_bytes (halfwords i)) h.is
          ∙ ap (λ (bs : List ℕ). word_bytes 0x20040000 ++ (word_bytes 9 ++ bs)) (sym codes);
    }
