-- Reading token by token may end exactly where the tokens are operands.
use Rattle.std.proofs.Common.{◌≡◌, Bool, true, false, List, [], ◌∷◌, ◌++◌, Option, Some, None, refl, sym, ap, subst, ◌∙◌, append_assoc}
use Rattle.std.proofs.lemmas.Bool.{false≢true}
use Rattle.hm_tokens.specs.declared.marks.Mark.TheVariants.{Comma, Hash, OpenBracket, CloseBracket, OpenBrace, CloseBrace, Bang, Minus, Plus}
use Rattle.hm_line.specs.declared.form.Depth.{Depth}
use Rattle.hm_line.specs.declared.form.Depth.TheVariants.{Outside, Inside}
use Rattle.hm_line.specs.declared.form.Operands.{Operands}
use Rattle.hm_line.specs.declared.form.Operands.TheVariants as ops
use Rattle.hm_line.specs.Kinds.{Kind, word, number, mark}
use Rattle.hm_line.specs.Forms.{Plain, single, written_back, shift, lane, immediate, literal, sum, Item, one, range, Operand, simple, address, list, optional}
use Rattle.hm_line.specs.Forms.{plain, item, operand, behind_commas}
use Rattle.hm_line.specs.Steps.{first_operand, behind_operand, behind_word, behind_hash, behind_address, behind_item, behind_item_word, operand_step}
use Rattle.hm_line.specs.Steps.{is_operand_end}

abbrev pub after : {A : Type 0} → Option A → (A → Bool) → Bool
after None holds = false
after (Some x) holds = holds x

-- these may follow, and then the end
abbrev pub takes : Operands → List Kind → Bool
takes s [] = is_operand_end s
takes s (k ∷ ks) = after (operand_step s k) (λ next. takes next ks)

-- ---- what may follow, by the form

abbrev MoreOutside : List Kind → Type 0
MoreOutside ks = (os : List Operand) × (ks ≡ behind_commas operand os)

abbrev AfterAddress : List Kind → Type 0
AfterAddress ks = (back : Bool) × (os : List Operand) × (ks ≡ optional back (mark Bang) ++ behind_commas operand os)

abbrev More : Depth → List Kind → Type 0
More Outside ks = MoreOutside ks
More Inside ks = (ps : List Plain) × (rest : List Kind) × (ks ≡ behind_commas plain ps ++ mark CloseBracket ∷ rest) × AfterAddress rest

abbrev FromPlain : Depth → List Kind → Type 0
FromPlain d ks = (p : Plain) × (rest : List Kind) × (ks ≡ plain p ++ rest) × More d rest

abbrev pub FromOperand : Depth → List Kind → Type 0
FromOperand Outside ks = (x : Operand) × (rest : List Kind) × (ks ≡ operand x ++ rest) × MoreOutside rest
FromOperand Inside ks = FromPlain Inside ks

abbrev MoreItems : List Kind → Type 0
MoreItems ks = (is : List Item) × (rest : List Kind) × (ks ≡ behind_commas item is ++ mark CloseBrace ∷ rest) × MoreOutside rest

abbrev FromItem : List Kind → Type 0
FromItem ks = (i : Item) × (rest : List Kind) × (ks ≡ item i ++ rest) × MoreItems rest

abbrev Follows : Operands → List Kind → Type 0
Follows (ops.Operand d) ks = FromOperand d ks
Follows (ops.Word d) ks = FromPlain d (word ∷ ks)
Follows (ops.Hash d) ks = FromPlain d (mark Hash ∷ ks)
Follows (ops.Number d) ks = (rest : List Kind) × (ks ≡ number ∷ rest) × More d rest
Follows (ops.LaneNumber d) ks = (rest : List Kind) × (ks ≡ number ∷ mark CloseBracket ∷ rest) × More d rest
Follows (ops.LaneEnd d) ks = (rest : List Kind) × (ks ≡ mark CloseBracket ∷ rest) × More d rest
Follows (ops.Done d) ks = More d ks
Follows ops.Address ks = AfterAddress ks
Follows ops.List ks = FromItem ks
Follows ops.ListWord ks = FromItem (word ∷ ks)
Follows ops.ListTo ks = (rest : List Kind) × (ks ≡ word ∷ rest) × MoreItems rest
Follows ops.ListDone ks = MoreItems ks

-- ---- what is taken is of the form

abbrev Sound : List Kind → Type 0
Sound ks = (s : Operands) → takes s ks ≡ true → Follows s ks

as_operand : (d : Depth) (ks : List Kind) → FromPlain d ks → FromOperand d ks
as_operand Outside ks f = (simple f.0, f.1, f.2, f.3)
as_operand Inside ks f = f

joined : {A : Type 0} (tokens : A → List Kind) (x : A) (xs : List A) (ks rest behind : List Kind) → ks ≡ tokens x ++ rest
    → rest ≡ behind_commas tokens xs ++ behind → mark Comma ∷ ks ≡ behind_commas tokens (x ∷ xs) ++ behind
joined tokens x xs ks rest behind e f =
    ap (λ (r : List Kind). mark Comma ∷ r) (e ∙ ap (λ (r : List Kind). tokens x ++ r) f ∙ sym (append_assoc (tokens x) (behind_commas tokens xs) behind))

comma : (d : Depth) (ks : List Kind) → FromOperand d ks → More d (mark Comma ∷ ks)
comma Outside ks f = (f.0 ∷ f.3.0, ap (λ (r : List Kind). mark Comma ∷ r) (f.2 ∙ ap (λ (r : List Kind). operand f.0 ++ r) f.3.1))
comma Inside ks f = (f.0 ∷ f.3.0, f.3.1, joined plain f.0 f.3.0 ks f.1 (mark CloseBracket ∷ f.3.1) f.2 f.3.2, f.3.3)

operand_behind : (d : Depth) (k : Kind) (ks : List Kind) → Sound ks → after (behind_operand d k) (λ n. takes n ks) ≡ true → More d (k ∷ ks)
operand_behind d (mark Comma) ks h e = comma d ks (h (ops.Operand d) e)
operand_behind Inside (mark CloseBracket) ks h e = ([], ks, refl, h ops.Address e)
operand_behind d k ks h e = absurd (false≢true e)

word_behind : (d : Depth) (k : Kind) (ks : List Kind) → Sound ks → after (behind_word d k) (λ n. takes n ks) ≡ true → FromPlain d (word ∷ k ∷ ks)
word_behind d (mark Bang) ks h e = (written_back, ks, refl, h (ops.Done d) e)
word_behind d (mark Hash) ks h e = let r = h (ops.Number d) e in (shift, r.0, ap (λ (x : List Kind). word ∷ mark Hash ∷ x) r.1, r.2)
word_behind d (mark Plus) ks h e = let r = h (ops.Number d) e in (sum, r.0, ap (λ (x : List Kind). word ∷ mark Plus ∷ x) r.1, r.2)
word_behind d (mark OpenBracket) ks h e = let r = h (ops.LaneNumber d) e in (lane, r.0, ap (λ (x : List Kind). word ∷ mark OpenBracket ∷ x) r.1, r.2)
word_behind d k ks h e = (single, k ∷ ks, refl, operand_behind d k ks h e)

hash_behind : (d : Depth) (k : Kind) (ks : List Kind) → Sound ks → after (behind_hash d k) (λ n. takes n ks) ≡ true → FromPlain d (mark Hash ∷ k ∷ ks)
hash_behind d number ks h e = (immediate false, ks, refl, h (ops.Done d) e)
hash_behind d (mark Minus) ks h e = let r = h (ops.Number d) e in (immediate true, r.0, ap (λ (x : List Kind). mark Hash ∷ mark Minus ∷ x) r.1, r.2)
hash_behind d k ks h e = absurd (false≢true e)

address_behind : (k : Kind) (ks : List Kind) → Sound ks → after (behind_address k) (λ n. takes n ks) ≡ true → AfterAddress (k ∷ ks)
address_behind (mark Bang) ks h e = let m = h (ops.Done Outside) e in (true, m.0, ap (λ (x : List Kind). mark Bang ∷ x) m.1)
address_behind k ks h e = let m = operand_behind Outside k ks h e in (false, m.0, m.1)

item_behind : (k : Kind) (ks : List Kind) → Sound ks → after (behind_item k) (λ n. takes n ks) ≡ true → MoreItems (k ∷ ks)
item_behind (mark Comma) ks h e = let f = h ops.List e in (f.0 ∷ f.3.0, f.3.1, joined item f.0 f.3.0 ks f.1 (mark CloseBrace ∷ f.3.1) f.2 f.3.2, f.3.3)
item_behind (mark CloseBrace) ks h e = ([], ks, refl, h (ops.Done Outside) e)
item_behind k ks h e = absurd (false≢true e)

item_word_behind : (k : Kind) (ks : List Kind) → Sound ks → after (behind_item_word k) (λ n. takes n ks) ≡ true → FromItem (word ∷ k ∷ ks)
item_word_behind (mark Minus) ks h e = let r = h ops.ListTo e in (range, r.0, ap (λ (x : List Kind). word ∷ mark Minus ∷ x) r.1, r.2)
item_word_behind k ks h e = (one, k ∷ ks, refl, item_behind k ks h e)

around : (first last : Kind) (a b c d ks rest behind : List Kind) → ks ≡ a ++ rest → rest ≡ b ++ last ∷ behind → behind ≡ c ++ d
    → first ∷ ks ≡ (first ∷ (a ++ (b ++ last ∷ c))) ++ d
around first last a b c d ks rest behind e f g =
    ap (λ (x : List Kind). first ∷ x)
    (e ∙ ap (λ (x : List Kind). a ++ x) (f ∙ ap (λ (x : List Kind). b ++ last ∷ x) g ∙ sym (append_assoc b (last ∷ c) d))
    ∙ sym (append_assoc a (b ++ last ∷ c) d))

address_made : (ks : List Kind) → FromPlain Inside ks → FromOperand Outside (mark OpenBracket ∷ ks)
address_made ks f = (
  address f.0 f.3.0 f.3.3.0,
  behind_commas operand f.3.3.1,
  around (mark OpenBracket) (mark CloseBracket) (plain f.0) (behind_commas plain f.3.0) (optional f.3.3.0 (mark Bang)) (behind_commas operand f.3.3.1) ks f.1
      f.3.1 f.2 f.3.2 f.3.3.2,
  (f.3.3.1, refl),
)

list_made : (ks : List Kind) → FromItem ks → FromOperand Outside (mark OpenBrace ∷ ks)
list_made ks f = (
  list f.0 f.3.0,
  f.3.1,
  around (mark OpenBrace) (mark CloseBrace) (item f.0) (behind_commas item f.3.0) [] f.3.1 ks f.1 f.3.1 f.2 f.3.2 refl,
  f.3.3,
)

first : (d : Depth) (k : Kind) (ks : List Kind) → Sound ks → after (first_operand d k) (λ n. takes n ks) ≡ true → FromOperand d (k ∷ ks)
first d word ks h e = as_operand d (word ∷ ks) (h (ops.Word d) e)
first d number ks h e = as_operand d (number ∷ ks) (literal false, ks, refl, h (ops.Done d) e)
first d (mark Hash) ks h e = as_operand d (mark Hash ∷ ks) (h (ops.Hash d) e)
first d (mark Minus) ks h e = let r = h (ops.Number d) e in as_operand d (mark Minus ∷ ks) (literal true, r.0, ap (λ (x : List Kind). mark Minus ∷ x) r.1, r.2)
first Outside (mark OpenBracket) ks h e = address_made ks (h (ops.Operand Inside) e)
first Outside (mark OpenBrace) ks h e = list_made ks (h ops.List e)
first d k ks h e = absurd (false≢true e)

stepped : (s : Operands) (k : Kind) (ks : List Kind) → Sound ks → after (operand_step s k) (λ n. takes n ks) ≡ true → Follows s (k ∷ ks)
stepped (ops.Operand d) k ks h e = first d k ks h e
stepped (ops.Word d) k ks h e = word_behind d k ks h e
stepped (ops.Hash d) k ks h e = hash_behind d k ks h e
stepped (ops.Number d) number ks h e = (ks, refl, h (ops.Done d) e)
stepped (ops.LaneNumber d) number ks h e = let r = h (ops.LaneEnd d) e in (r.0, ap (λ (x : List Kind). number ∷ x) r.1, r.2)
stepped (ops.LaneEnd d) (mark CloseBracket) ks h e = (ks, refl, h (ops.Done d) e)
stepped (ops.Done d) k ks h e = operand_behind d k ks h e
stepped ops.Address k ks h e = address_behind k ks h e
stepped ops.List word ks h e = h ops.ListWord e
stepped ops.ListWord k ks h e = item_word_behind k ks h e
stepped ops.ListTo word ks h e = (ks, refl, h ops.ListDone e)
stepped ops.ListDone k ks h e = item_behind k ks h e
stepped s k ks h e = absurd (false≢true e)

ended : (s : Operands) → is_operand_end s ≡ true → Follows s []
ended (ops.Word Outside) e = (single, [], refl, ([], refl))
ended (ops.Done Outside) e = ([], refl)
ended ops.Address e = (false, [], refl)
ended s e = absurd (false≢true e)

taken : (ks : List Kind) (s : Operands) → takes s ks ≡ true → Follows s ks
taken [] s e = ended s e
taken (k ∷ ks) s e = stepped s k ks (λ t f. taken ks t f) e

pub operands_taken : (ks : List Kind) → takes (ops.Operand Outside) ks ≡ true
    → (x : Operand) × (os : List Operand) × (ks ≡ operand x ++ behind_commas operand os)
operands_taken ks e = let f = taken ks (ops.Operand Outside) e in (f.0, f.3.0, f.2 ∙ ap (λ (r : List Kind). operand f.0 ++ r) f.3.1)

-- ---- what is of the form is taken

word_done : (d : Depth) (ks : List Kind) → takes (ops.Done d) ks ≡ true → takes (ops.Word d) ks ≡ true
word_done Outside [] e = refl
word_done Inside [] e = absurd (false≢true e)
word_done d (mark Bang ∷ ks) e = absurd (false≢true e)
word_done d (mark Hash ∷ ks) e = absurd (false≢true e)
word_done d (mark Plus ∷ ks) e = absurd (false≢true e)
word_done d (mark OpenBracket ∷ ks) e = absurd (false≢true e)
word_done d (k ∷ ks) e = e

address_done : (ks : List Kind) → takes (ops.Done Outside) ks ≡ true → takes ops.Address ks ≡ true
address_done [] e = refl
address_done (mark Bang ∷ ks) e = absurd (false≢true e)
address_done (k ∷ ks) e = e

item_done : (ks : List Kind) → takes ops.ListDone ks ≡ true → takes ops.ListWord ks ≡ true
item_done [] e = absurd (false≢true e)
item_done (mark Minus ∷ ks) e = absurd (false≢true e)
item_done (k ∷ ks) e = e

plain_read : (p : Plain) (d : Depth) (rest : List Kind) → takes (ops.Done d) rest ≡ true → takes (ops.Operand d) (plain p ++ rest) ≡ true
plain_read single d rest e = word_done d rest e
plain_read written_back d rest e = e
plain_read shift d rest e = e
plain_read lane d rest e = e
plain_read (immediate true) d rest e = e
plain_read (immediate false) d rest e = e
plain_read (literal true) d rest e = e
plain_read (literal false) d rest e = e
plain_read sum d rest e = e

plains_read : (ps : List Plain) (rest : List Kind) → takes ops.Address rest ≡ true
    → takes (ops.Done Inside) (behind_commas plain ps ++ mark CloseBracket ∷ rest) ≡ true
plains_read [] rest e = e
plains_read (p ∷ ps) rest e =
    subst (λ (x : List Kind). takes (ops.Operand Inside) x ≡ true) (sym (append_assoc (plain p) (behind_commas plain ps) (mark CloseBracket ∷ rest)))
    (plain_read p Inside (behind_commas plain ps ++ mark CloseBracket ∷ rest) (plains_read ps rest e))

item_read : (i : Item) (rest : List Kind) → takes ops.ListDone rest ≡ true → takes ops.List (item i ++ rest) ≡ true
item_read one rest e = item_done rest e
item_read range rest e = e

items_read : (is : List Item) (rest : List Kind) → takes (ops.Done Outside) rest ≡ true
    → takes ops.ListDone (behind_commas item is ++ mark CloseBrace ∷ rest) ≡ true
items_read [] rest e = e
items_read (i ∷ is) rest e =
    subst (λ (x : List Kind). takes ops.List x ≡ true) (sym (append_assoc (item i) (behind_commas item is) (mark CloseBrace ∷ rest)))
    (item_read i (behind_commas item is ++ mark CloseBrace ∷ rest) (items_read is rest e))

opened : (last : Kind) (a b c d : List Kind) → (a ++ (b ++ last ∷ c)) ++ d ≡ a ++ (b ++ last ∷ (c ++ d))
opened last a b c d = append_assoc a (b ++ last ∷ c) d ∙ ap (λ (x : List Kind). a ++ x) (append_assoc b (last ∷ c) d)

back_read : (back : Bool) (rest : List Kind) → takes (ops.Done Outside) rest ≡ true → takes ops.Address (optional back (mark Bang) ++ rest) ≡ true
back_read true rest e = e
back_read false rest e = address_done rest e

operand_read : (x : Operand) (rest : List Kind) → takes (ops.Done Outside) rest ≡ true → takes (ops.Operand Outside) (operand x ++ rest) ≡ true
operand_read (simple p) rest e = plain_read p Outside rest e
operand_read (address p ps back) rest e =
    subst (λ (x : List Kind). takes (ops.Operand Inside) x ≡ true)
    (sym (opened (mark CloseBracket) (plain p) (behind_commas plain ps) (optional back (mark Bang)) rest))
    (plain_read p Inside (behind_commas plain ps ++ mark CloseBracket ∷ (optional back (mark Bang) ++ rest))
    (plains_read ps (optional back (mark Bang) ++ rest) (back_read back rest e)))
operand_read (list i is) rest e =
    subst (λ (x : List Kind). takes ops.List x ≡ true) (sym (opened (mark CloseBrace) (item i) (behind_commas item is) [] rest))
    (item_read i (behind_commas item is ++ mark CloseBrace ∷ rest) (items_read is rest e))

more_read : (os : List Operand) → takes (ops.Done Outside) (behind_commas operand os) ≡ true
more_read [] = refl
more_read (x ∷ os) = operand_read x (behind_commas operand os) (more_read os)

pub operands_read : (x : Operand) (os : List Operand) → takes (ops.Operand Outside) (operand x ++ behind_commas operand os) ≡ true
operands_read x os = operand_read x (behind_commas operand os) (more_read os)

-- ---- more tokens always make operands

abbrev closing : Depth → List Kind
closing Outside = []
closing Inside = mark CloseBracket ∷ []

closed : (d : Depth) → takes (ops.Done d) (closing d) ≡ true
closed Outside = refl
closed Inside = refl

abbrev pub completion : Operands → List Kind
completion (ops.Operand d) = number ∷ closing d
completion (ops.Word d) = closing d
completion (ops.Hash d) = number ∷ closing d
completion (ops.Number d) = number ∷ closing d
completion (ops.LaneNumber d) = number ∷ mark CloseBracket ∷ closing d
completion (ops.LaneEnd d) = mark CloseBracket ∷ closing d
completion (ops.Done d) = closing d
completion ops.Address = []
completion ops.List = word ∷ mark CloseBrace ∷ []
completion ops.ListWord = mark CloseBrace ∷ []
completion ops.ListTo = word ∷ mark CloseBrace ∷ []
completion ops.ListDone = mark CloseBrace ∷ []

pub completed : (s : Operands) → takes s (completion s) ≡ true
completed (ops.Operand d) = closed d
completed (ops.Word d) = word_done d (closing d) (closed d)
completed (ops.Hash d) = closed d
completed (ops.Number d) = closed d
completed (ops.LaneNumber d) = closed d
completed (ops.LaneEnd d) = closed d
completed (ops.Done d) = closed d
completed ops.Address = refl
completed ops.List = refl
completed ops.ListWord = refl
completed ops.ListTo = refl
completed ops.ListDone = refl
