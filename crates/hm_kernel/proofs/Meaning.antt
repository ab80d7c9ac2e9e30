-- Bytes say one meaning: texts that are written alike have arrays alike, and lines that set the same.
use Rattle.std.proofs.Common.{◌≡◌, ◌≢◌, ℕ, zero, suc, ◌+◌, ◌*◌, ◌<◌, List, [], ◌∷◌, ◌++◌, length, map, refl, subst, sym, ap, ◌∙◌, arith}
use Rattle.std.specs.Prelude.{All, decimal, slice_index}
use Rattle.std.proofs.lemmas.Fmt.{decimal_injective}
use Rattle.std.proofs.lemmas.List.{append_assoc, length-map}
use Rattle.std.proofs.lemmas.List.Elements.{All-head, All-tail}
use Rattle.hm_kernel.proofs.One.{AllNames, all_names, is_number, one_written}
use Rattle.hm_kernel_lang.specs.declared.text.Array.{Array}
use Rattle.hm_kernel_lang.specs.declared.text.ElementType.{ElementType}
use Rattle.hm_kernel_lang.specs.declared.text.Expr.{Expr}
use Rattle.hm_kernel_lang.specs.declared.text.Expr.TheVariants.{Name, Number, Apply'}
use Rattle.hm_kernel_lang.specs.declared.text.Line.{Line}
use Rattle.hm_kernel_lang.specs.declared.text.Op.{Op}
use Rattle.hm_kernel_lang.specs.declared.text.Text.{Text}
use Rattle.hm_kernel_lang.specs.Language.{Bytes, address, after_line, after_lines, bytes, given, little, meaning, op_value, replaced, value}
use Rattle.hm_kernel_lang.specs.Texts.{IsOver, IsSet, IsText}
use Rattle.hm_kernel_lang.proofs.Numbers.{number_fits}
use Rattle.hm_kernel_text.specs.Held.{array_written, expr_written, name_at, set_written, written}
use Rattle.hm_kernel_text.specs.Trees.{Tree, apply, word}
use Rattle.hm_kernel_text.specs.Words.{is_name}
use Rattle.hm_kernel_text.specs.Written.{AreArrays, HasOtherName, IsKernel, Written, WrittenArray, WrittenSet}
use Rattle.hm_kernel_text.proofs.TextLaws.{picked}

-- the name of written array i
abbrev written_name : List WrittenArray → ℕ → List ℕ
written_name [] i = []
written_name (a ∷ more) zero = a.name
written_name (a ∷ more) (suc i) = written_name more i

-- where written array i stands
abbrev written_address : List WrittenArray → ℕ → ℕ
written_address [] i = 0
written_address (a ∷ more) zero = a.addr
written_address (a ∷ more) (suc i) = written_address more i

-- zeros with the values that written arrays are given
abbrev written_given : ElementType → List WrittenArray → Bytes
written_given t [] = λ a. 0
written_given t (a ∷ more) = replaced t a.addr (length a.values) (λ j. slice_index a.values j) (written_given t more)

-- arrays have the names that are written
names_written : (xs : List Array) (i : ℕ) → name_at xs i ≡ written_name (map array_written xs) i
names_written [] i = refl
names_written (a ∷ xs) zero = refl
names_written (a ∷ xs) (suc i) = names_written xs i

-- arrays stand where it is written
addresses_written : (xs : List Array) (i : ℕ) → address xs i ≡ written_address (map array_written xs) i
addresses_written [] i = refl
addresses_written (a ∷ xs) zero = refl
addresses_written (a ∷ xs) (suc i) = addresses_written xs i

-- arrays are given the values that are written
given_written : (t : ElementType) (xs : List Array) → given t xs ≡ written_given t (map array_written xs)
given_written t [] = refl
given_written t (a ∷ xs) = ap (λ (m : Bytes). replaced t a.addr (length a.values.items) (λ j. slice_index a.values.items j) m) (given_written t xs)

-- an array behind another has another name
other_name : (t : ElementType) (n : ℕ) (before : List WrittenArray) (b : WrittenArray) (after ws : List WrittenArray) → AreArrays t n (before ++ b ∷ after) ws
    → (k : ℕ) → k < length ws → b.name ≢ written_name ws k
other_name t n before b after [] h k l = absurd (omega arith)
other_name t n before b after (c ∷ ws) h zero l = picked (HasOtherName c.name) before b after h.0.other
other_name t n before b after (c ∷ ws) h (suc k) l =
    let h' = subst (λ (bs : List WrittenArray). AreArrays t n bs ws) (append_assoc before (b ∷ after) (c ∷ [])) h.1 in
    other_name t n before b (after ++ c ∷ []) ws h' k (omega arith)

-- arrays of one name are one
one_place : (t : ElementType) (n : ℕ) (before ws : List WrittenArray) → AreArrays t n before ws
    → (i k : ℕ) → i < length ws → k < length ws → written_name ws i ≡ written_name ws k → i ≡ k
one_place t n before [] h i k li lk e = absurd (omega arith)
one_place t n before (a ∷ ws) h zero zero li lk e = refl
one_place t n before (a ∷ ws) h zero (suc k) li lk e = absurd (other_name t n before a [] ws h.1 k (omega arith) e)
one_place t n before (a ∷ ws) h (suc i) zero li lk e = absurd (other_name t n before a [] ws h.1 i (omega arith) (sym e))
one_place t n before (a ∷ ws) h (suc i) (suc k) li lk e =
    ap suc (one_place t n (before ++ a ∷ []) ws h.1 i k (omega arith) (omega arith) e)

-- equal trees have equal words
same_word : (v w : List ℕ) → word v ≡ word w → v ≡ w
same_word v w e = cc

-- equal trees have one operation
same_op : (o q : Op) (l r m s : Tree) → apply o l r ≡ apply q m s → o ≡ q
same_op o q l r m s e = cc

-- equal trees have equal left sides
same_left : (o q : Op) (l r m s : Tree) → apply o l r ≡ apply q m s → l ≡ m
same_left o q l r m s e = cc

-- equal trees have equal right sides
same_right : (o q : Op) (l r m s : Tree) → apply o l r ≡ apply q m s → r ≡ s
same_right o q l r m s e = cc

-- equal lists begin alike
same_head : (a b : WrittenSet) (ps qs : List WrittenSet) → a ∷ ps ≡ b ∷ qs → a ≡ b
same_head a b ps qs e = cc

-- equal lists go on alike
same_tail : (a b : WrittenSet) (ps qs : List WrittenSet) → a ∷ ps ≡ b ∷ qs → ps ≡ qs
same_tail a b ps qs e = cc

-- digits fix the number of a type
same_number : (t : ElementType) (k c i j : ℕ) → IsOver t i (Number k) → IsOver t j (Number c) → decimal k ≡ decimal c → k ≡ c
same_number t k c i j hk hc e =
    let bk = number_fits t k hk in
    let bc = number_fits t c hc in
    decimal_injective k c (omega arith) (omega arith) e

-- two lists of arrays that are written alike
module _ (t : ElementType) (n : ℕ) (xs ys : List Array) (same : map array_written xs ≡ map array_written ys) (are : AreArrays t n [] (map array_written xs))
  where
    -- each array has one address in both
    same_address : (i : ℕ) → address xs i ≡ address ys i
    same_address i = addresses_written xs i ∙ ap (λ (ws : List WrittenArray). written_address ws i) same ∙ sym (addresses_written ys i)

    -- both are given the same memory
    same_given : given t xs ≡ given t ys
    same_given = given_written t xs ∙ ap (written_given t) same ∙ sym (given_written t ys)

    -- both have as many arrays
    same_length : length xs ≡ length ys
    same_length = sym (length-map xs array_written) ∙ ap length same ∙ length-map ys array_written

    -- the names of the first are names
    named_left : AllNames xs
    named_left = all_names t n [] xs are

    -- the names of the other are names
    named_right : AllNames ys
    named_right = all_names t n [] ys (subst (AreArrays t n []) same are)

    -- arrays of one name have one address
    same_place : (i k : ℕ) → i < length xs → k < length ys → name_at xs i ≡ name_at ys k → address xs i ≡ address ys k
    same_place i k li lk e =
        let long = length-map xs array_written in
        let longs = same_length in
        let names = sym (names_written xs i) ∙ e ∙ names_written ys k ∙ ap (λ (ws : List WrittenArray). written_name ws k) (sym same) in
        let place : i ≡ k = one_place t n [] (map array_written xs) are i k (omega arith) (omega arith) names in
        same_address i ∙ ap (address ys) place

    -- expressions that are written alike have one value
    same_value : (e f : Expr) → IsOver t (length xs) e → IsOver t (length ys) f → expr_written xs e ≡ expr_written ys f
        → (j : ℕ) (m : Bytes) → value t (address xs) e j m ≡ value t (address ys) f j m
    same_value (Name i) (Name k) he hf w j m =
        let place = same_place i k he hf (same_word (name_at xs i) (name_at ys k) w) in
        ap (λ (a : ℕ). little (bytes t) m (a + bytes t * j)) place
    same_value (Name i) (Number c) he hf w j m =
        let words = ap is_name (same_word (name_at xs i) (decimal c) w) in
        let name = named_left i he in
        let none = is_number t ys named_right c hf in
        absurd cc
    same_value (Number c) (Name k) he hf w j m =
        let words = ap is_name (same_word (decimal c) (name_at ys k) w) in
        let name = named_right k hf in
        let none = is_number t xs named_left c he in
        absurd cc
    same_value (Number k) (Number c) he hf w j m = same_number t k c (length xs) (length ys) he hf (same_word (decimal k) (decimal c) w)
    same_value (Apply' o p l q r) (Apply' o' p' l' q' r') he hf w j m =
        let el = expr_written xs l in
        let er = expr_written xs r in
        let fl = expr_written ys l' in
        let fr = expr_written ys r' in
        let op = same_op o o' el er fl fr w in
        let left = same_value l l' he.0 hf.0 (same_left o o' el er fl fr w) j m in
        let right = same_value r r' he.1 hf.1 (same_right o o' el er fl fr w) j m in
        λ d. op_value t (op d) (left d) (right d)
    same_value (Name i) (Apply' o p l q r) he hf w j m = absurd cc
    same_value (Number k) (Apply' o p l q r) he hf w j m = absurd cc
    same_value (Apply' o p l q r) (Name i) he hf w j m = absurd cc
    same_value (Apply' o p l q r) (Number k) he hf w j m = absurd cc

    -- a line does what another does that is written alike
    same_line : (l k : Line) → IsSet t (length xs) l → IsSet t (length ys) k → set_written xs l ≡ set_written ys k
        → (m : Bytes) → after_line t (address xs) n l m ≡ after_line t (address ys) n k m
    same_line l k hl hk w m =
        let name = ap (λ (s : WrittenSet). s.name) w in
        let expr = ap (λ (s : WrittenSet). s.expr) w in
        let place = same_place l.array k.array hl.target hk.target name in
        let values = same_value l.expr k.expr hl.over hk.over expr in
        λ d. replaced t (place d) n (λ j. values j m d) m

    -- lines that are written alike do the same
    same_lines : (ls ks : List Line) → All (IsSet t (length xs)) ls → All (IsSet t (length ys)) ks → map (set_written xs) ls ≡ map (set_written ys) ks
        → (m : Bytes) → after_lines t (address xs) n ls m ≡ after_lines t (address ys) n ks m
    same_lines [] [] hl hk w m = refl
    same_lines [] (k ∷ ks) hl hk w m = absurd cc
    same_lines (l ∷ ls) [] hl hk w m = absurd cc
    same_lines (l ∷ ls) (k ∷ ks) hl hk w m =
        let a = set_written xs l in
        let b = set_written ys k in
        let ps = map (set_written xs) ls in
        let qs = map (set_written ys) ks in
        let first = same_line l k (All-head (IsSet t (length xs)) l ls hl) (All-head (IsSet t (length ys)) k ks hk) (same_head a b ps qs w) m in
        let m' = after_line t (address ys) n k m in
        ap (after_lines t (address xs) n ls) first
        ∙ same_lines ls ks (All-tail (IsSet t (length xs)) l ls hl) (All-tail (IsSet t (length ys)) k ks hk) (same_tail a b ps qs w) m'

-- texts that are written alike mean the same
same_meaning : (bytes : List ℕ) (x y : Text) → IsText x → IsText y → IsKernel bytes (written x) → written x ≡ written y → meaning x ≡ meaning y
same_meaning bytes x y tx ty is w =
    let xs = x.arrays.items in
    let ys = y.arrays.items in
    let t = x.element in
    let n = x.count in
    let element : x.element ≡ y.element = ap (λ (v : Written). v.element) w in
    let count : x.count ≡ y.count = ap (λ (v : Written). v.count) w in
    let arrays : map array_written xs ≡ map array_written ys = ap (λ (v : Written). v.arrays) w in
    let sets : map (set_written xs) x.lines.items ≡ map (set_written ys) y.lines.items = ap (λ (v : Written). v.sets) w in
    let lines = subst (λ (e : ElementType). All (IsSet e (length ys)) y.lines.items) (sym element) ty.lines in
    ap (after_lines t (address xs) n x.lines.items) (same_given t n xs ys arrays is.fits.arrays)
    ∙ same_lines t n xs ys arrays is.fits.arrays x.lines.items y.lines.items tx.lines lines sets (given t ys)
    ∙ (λ d. after_lines (element d) (address ys) (count d) y.lines.items (given (element d) ys))

-- the texts that the same bytes say mean the same
pub one_meaning : (bytes : List ℕ) (x y : Text) → IsText x → IsText y → IsKernel bytes (written x) → IsKernel bytes (written y) → meaning x ≡ meaning y
one_meaning bytes x y a b h k = same_meaning bytes x y a b h (one_written bytes (written x) (written y) h k)
