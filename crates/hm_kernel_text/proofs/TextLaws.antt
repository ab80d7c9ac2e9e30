-- A text that is read may be compiled.
use Rattle.std.proofs.Common.{ℕ, List, [], ◌∷◌, ◌++◌, length, map, Result, Ok, Err, subst, arith, inl}
use Rattle.std.proofs.Common.{inr, append_assoc}
use Rattle.std.specs.Prelude.{All, AllPairs, IfOk}
use Rattle.std.specs.List.{AllByRecursion}
use Rattle.std.proofs.lemmas.List.Elements.{All-nil, All-cons, All-from_recursion}
use Rattle.std.proofs.lemmas.List.Kept.{AllPairs-cons}
use Rattle.hm_kernel_lang.specs.declared.text.ElementType.{ElementType}
use Rattle.hm_kernel_lang.specs.declared.text.Array.{Array}
use Rattle.hm_kernel_lang.specs.declared.text.Text.{Text}
use Rattle.hm_kernel_lang.specs.Texts.{IsArray, IsSet, IsText, ShareNone}
use Rattle.hm_kernel_text.specs.declared.errors.KernelErr.{KernelErr}
use Rattle.hm_kernel_text.specs.Written.{WrittenArray, Written, IsApart, AreArrays, IsWritten, IsKernel}
use Rattle.hm_kernel_text.specs.Held.{array_written, written}
use Rattle.hm_kernel_text.specs.ReadFile.{Gives, kernel_in}
use Rattle.hm_kernel_text.proofs.FileSteps.{length-arrays, length-sets}
use Rattle.hm_kernel_text.proofs.FoundFile.{kernel_found}
use Rattle.hm_kernel_text.proofs.AgainFile.{kernel_again}

-- what all of a list have, has one in its middle
pub picked : (P : WrittenArray → Type 0) (front : List WrittenArray) (a : WrittenArray) (rest : List WrittenArray)
    → AllByRecursion P (front ++ a ∷ rest) → P a
picked P [] a rest all = all.0
picked P (b ∷ front) a rest all = picked P front a rest all.1

other_shares_none : (t : ElementType) (n : ℕ) (a b : Array) → IsApart t n b.addr (array_written a) → ShareNone t n a b
other_shares_none t n a b (inl le) = inr le
other_shares_none t n a b (inr le) = inl le

-- each array shares no byte with one before it
apart_behind : (t : ElementType) (n : ℕ) (front : List WrittenArray) (a : Array) (rest : List WrittenArray) (xs : List Array)
    → AreArrays t n (front ++ array_written a ∷ rest) (map array_written xs) → All (ShareNone t n a) xs
apart_behind t n front a rest [] are = All-nil (ShareNone t n a)
apart_behind t n front a rest (b ∷ xs) are =
    let one = other_shares_none t n a b (picked (IsApart t n b.addr) front (array_written a) rest are.0.apart) in
    let grown = append_assoc front (array_written a ∷ rest) (array_written b ∷ []) in
    All-cons (ShareNone t n a) b xs one
    (apart_behind t n front a (rest ++ array_written b ∷ []) xs (subst (λ (x : List WrittenArray). AreArrays t n x (map array_written xs)) grown are.1))

pairs_apart : (t : ElementType) (n : ℕ) (front : List WrittenArray) (xs : List Array) → AreArrays t n front (map array_written xs)
    → AllPairs (ShareNone t n) xs
pairs_apart t n front [] are = λ i j d lt le. absurd (omega (arith, le))
pairs_apart t n front (a ∷ xs) are =
    AllPairs-cons (ShareNone t n) a xs (apart_behind t n front a [] xs are.1) (pairs_apart t n (front ++ array_written a ∷ []) xs are.1)

each_array : (t : ElementType) (n : ℕ) (front : List WrittenArray) (xs : List Array) → AreArrays t n front (map array_written xs)
    → All (IsArray t n) xs
each_array t n front [] are = All-nil (IsArray t n)
each_array t n front (a ∷ xs) are =
    All-cons (IsArray t n) a xs (record { placed = are.0.placed; few = are.0.few; small = All-from_recursion _ a.values.items are.0.small })
    (each_array t n (front ++ array_written a ∷ []) xs are.1)

pub text_sound : (x : Text) → IsWritten (written x) → All (IsSet x.element (length x.arrays.items)) x.lines.items → IsText x
text_sound x fits sets =
    let arrays = length-arrays x.arrays.items in
    let lines = length-sets x.arrays.items x.lines.items in
    record {
      count = fits.count;
      some_arrays = omega (arith, arrays, fits.some_arrays);
      few_arrays = omega (arith, arrays, fits.few_arrays);
      some_lines = omega (arith, lines, fits.some_sets);
      few_lines = omega (arith, lines, fits.few_sets);
      arrays = each_array x.element x.count [] x.arrays.items fits.arrays;
      apart = pairs_apart x.element x.count [] x.arrays.items fits.arrays;
      lines = sets;
    }

-- what the code returns
pub is_found : (text : List ℕ) (r : Result Text KernelErr) → Gives written r (kernel_in text) → IfOk r (λ x. IsKernel text (written x))
is_found text (Ok x) e = kernel_found text (written x) e
is_found text (Err e) h = tt

pub is_sound : (text : List ℕ) (r : Result Text KernelErr) → Gives written r (kernel_in text)
    → IfOk r (λ x. All (IsSet x.element (length x.arrays.items)) x.lines.items) → IfOk r IsText
is_sound text (Ok x) e sets = text_sound x (kernel_found text (written x) e).fits sets
is_sound text (Err e) h sets = tt

pub is_only : (text : List ℕ) (r : Result Text KernelErr) (w : Written) → IsKernel text w → Gives written r (kernel_in text) → Gives written r (Ok w)
is_only text r w is given = subst (λ (x : Result Written KernelErr). Gives written r x) (kernel_again text w is) given
