-- The loop of a line, by induction over its rounds; and all lines.
use Rattle.std.proofs.Common.{◌≡◌, ℕ, zero, suc, ◌+◌, ◌-◌, ◌*◌, ◌/◌, ◌%◌, ◌^◌, ◌<◌, ◌≤◌, Bool, true, false, cond, nat_eq, min, List, [], ◌∷◌, ◌++◌}
use Rattle.std.proofs.Common.{length, map, refl, sym, ap, ◌∙◌, subst, ⊎_elim, arith, length-append, Result}
use Rattle.std.proofs.lemmas.Bool.{cases_lt, le-leb, lt-leb}
use Rattle.std.proofs.lemmas.Bool.Decides.{nat_tests}
use Rattle.std.proofs.Math.Nat.{suc-mul}
use Rattle.hm_kernel_lang.specs.declared.text.ElementType.{ElementType}
use Rattle.hm_kernel_lang.specs.declared.text.Line.{Line}
use Rattle.hm_kernel_lang.specs.Language.{Bytes, after_line, after_lines, bytes, lanes, line_steps, lines_steps, names, need, numbers, operations, replaced}
use Rattle.hm_kernel_lang.specs.Language.{rounds, value}
use Rattle.hm_kernel_lang.specs.declared.machine.Item.{Item}
use Rattle.hm_kernel_lang.specs.declared.machine.Item.TheVariants.{Plain, Begin, Again}
use Rattle.hm_kernel_lang.specs.declared.machine.Kind.TheVariants.{Low, High, Offset}
use Rattle.hm_kernel_lang.specs.Machine.{View, again, begun, exec, size_code}
use Rattle.hm_kernel_lang.specs.Code.{body_code, end_code, expr_code, halves_of, head_code, line_code, lines_code}
use Rattle.hm_kernel_lang.specs.Correct.{AreLines, CodeStands, Ends, IsLine, Reaches, Rows}
use Rattle.hm_kernel_lang.proofs.Numbers.{high_half, inside, last_round, low_half, next_vector, no_round, one_round, two_halves}
use Rattle.hm_kernel_lang.proofs.Expressions.{Cans, IsReady, addressed, cans_append, evaluated, execs, execs_append, is_within, placed_high, ready_still}
use Rattle.hm_kernel_lang.proofs.Replacing.{replaced_on, replaced_same, value_outside}
use Rattle.hm_kernel_lang.proofs.Values.{no_bytes}
use Rattle.hm_kernel_lang.proofs.Straight.{expr_length, items_halves, joined, pc_execs, plain_halves, so_many, stands_back, stands_front, straight}

eq_true : (a : ℕ) → a ≡ 0 → nat_eq a 0 ≡ true
eq_true a h = grind (arith, nat_tests)

eq_false : (a : ℕ) → 0 < a → nat_eq a 0 ≡ false
eq_false a h = grind (arith, nat_tests)

some_round : (t : ElementType) (r : ℕ) → 0 < r → 0 ≡ rounds t r → ⊥
some_round t r h e = ⊎_elim (λ lt. let g = one_round t r lt in absurd (omega arith)) (λ le. let g = last_round t r h le in absurd (omega arith))
    (cases_lt (lanes t) r)

-- ONE ROUND
module _ (t : ElementType) (at : ℕ → ℕ) (n : ℕ) (l : Line) (fine : IsLine t at n l) (m : Bytes) where
  -- the values that the line gives
  abbrev f : ℕ → ℕ
  f i = value t at l.expr i m

  -- at the start of the body the elements below j are replaced
  pub record AtRound (j : ℕ) (v : View) : Type 0 where
    pub size : v.size ≡ size_code t
    pub offset : v.offset ≡ bytes t * j
    pub left : j + v.left ≡ n
    pub some : 0 < v.left
    pub byte : v.byte ≡ replaced t (at l.array) j f m

  -- and at its end those of a vector more
  pub record RoundDone (j : ℕ) (v w : View) : Type 0 where
    pub cans : Cans t (body_code at l) v
    pub size : w.size ≡ size_code t
    pub offset : w.offset ≡ bytes t * (j + lanes t)
    pub left : w.left ≡ v.left
    pub byte : w.byte ≡ replaced t (at l.array) (j + min v.left (lanes t)) f m

  stored : (j : ℕ) (v x : View) → AtRound j v → x.left ≡ v.left → x.byte ≡ v.byte → ((k : ℕ) → k < v.left → x.lane 0 k ≡ value t at l.expr (j + k) v.byte)
      → (y : ℕ) → y ≡ at l.array + bytes t * j
      → replaced t y (min x.left (lanes t)) (x.lane 0) x.byte ≡ replaced t (at l.array) (j + min v.left (lanes t)) f m
  stored j v x round left byte is y there =
      let a = at l.array in
      let c = min v.left (lanes t) in
      let b = a + bytes t * j in
      let whole = round.left in
      ap (λ (z : ℕ). replaced t z (min x.left (lanes t)) (x.lane 0) x.byte) there
      ∙ ap (λ (z : ℕ). replaced t b (min z (lanes t)) (x.lane 0) x.byte) left
      ∙ ap (replaced t b c (x.lane 0)) (byte ∙ round.byte)
      ∙ replaced_same t b c (x.lane 0) (λ e. f (j + e)) (replaced t a j f m)
      (λ e h. is e (omega arith) ∙ ap (value t at l.expr (j + e)) round.byte
      ∙ value_outside t at n a j (j + e) f m l.expr fine.names (omega arith) (omega arith))
      ∙ replaced_on t a j c f m

  ready_at : (j : ℕ) (v : View) → AtRound j v → IsReady t n j v
  ready_at j v round = record { size = round.size; offset = round.offset; inside = let whole = round.left in omega arith }

  further : (j o : ℕ) (v : View) → IsReady t n j v → o ≡ bytes t * j → (o + 16) % 2 ^ 32 ≡ bytes t * (j + lanes t)
  further j o v ready e =
      let top = inside t (at l.array) j (min v.left (lanes t)) n 0x20040000 ready.inside fine.target.high in
      let small : o + 16 < 2 ^ 32 = omega arith in
      let same : (o + 16) % 2 ^ 32 ≡ o + 16 = omega arith in
      same ∙ ap (λ (x : ℕ). x + 16) e ∙ next_vector t j

  pub round_done : (j : ℕ) (v : View) → AtRound j v → RoundDone j v (execs t (body_code at l) v)
  round_done j v round =
      let a = at l.array in
      let ready = ready_at j v round in
      let shallow : 0 + need l.expr ≤ 8 = let h = fine.shallow in omega arith in
      let e = evaluated t at n a j l.expr 0 v ready fine.names shallow in
      let x = execs t (expr_code at l.expr 0) v in
      let ready_x = ready_still t at n a j v x 0 e.leaves ready in
      let y = exec t Offset (exec t (High (a / 2 ^ 16)) (exec t (Low (a % 2 ^ 16)) x)) in
      let there : y.scratch ≡ a + bytes t * j = addressed t n j a x ready_x fine.target in
      let is : execs t (body_code at l) v ≡ execs t (end_code a) x = execs_append t (expr_code at l.expr 0) (end_code a) v in
      record {
        cans = cans_append t (expr_code at l.expr 0) (end_code a) v e.cans
            ((
              low_half a,
              (
                placed_high t n a fine.target,
                (tt, ((omega arith, ready_x.size, is_within t n j a x y ready_x fine.target there refl), (tt, tt))),
              ),
            ));
        size = ap (λ (w : View). w.size) is ∙ ready_x.size;
        offset = ap (λ (w : View). w.offset) is ∙ further j x.offset x ready_x ready_x.offset;
        left = ap (λ (w : View). w.left) is ∙ e.leaves.left;
        byte = ap (λ (w : View). w.byte) is ∙ stored j v x round e.leaves.left e.leaves.byte e.is y.scratch there;
      }

  -- THE LOOP
  module _ {S E : Type 0} (next : S → Result S E) (Shows : View → S → Type 0) (Stands : ℕ → Item → Type 0) (rows : Rows t next Shows Stands) where
    abbrev h : ℕ
    h = halves_of (body_code at l) + 2

    abbrev long : ℕ
    long = length (body_code at l) + 1

    -- so many steps lead behind the loop that begins at p, and the line is done
    pub record Looped (p k : ℕ) (s : S) : Type 0 where
      pub view : View
      pub reaches : Reaches next Shows k s view
      pub pc : view.pc ≡ p + 2 * h
      pub byte : view.byte ≡ replaced t (at l.array) n f m

    module _ (p : ℕ) (stands : CodeStands Stands p (map Plain (body_code at l) ++ Again h ∷ [])) where
      -- the body and the branch behind it
      around : (j : ℕ) (v : View) (s : S) → v.pc ≡ p → AtRound j v → Shows v s → Reaches next Shows long s (again t h (execs t (body_code at l) v))
      around j v s pc round shows =
          let b = body_code at l in
          let w = execs t b v in
          let d = round_done j v round in
          let r = straight next Shows t Stands rows b v s shows
          (subst (λ (x : ℕ). CodeStands Stands x (map Plain b)) (sym pc) (stands_front Stands p (map Plain b) (Again h ∷ []) stands)) d.cans in
          let here : p + 2 * items_halves (map Plain b) ≡ w.pc = omega (arith, plain_halves b, pc_execs t b v) in
          let there = subst (λ (x : ℕ). Stands x (Again h)) here (stands_back Stands p (map Plain b) (Again h ∷ []) stands).0 in
          joined next Shows (length b) 1 s w (again t h w) r (rows.again h w r.to r.shows there d.size)

      after_last : (k j : ℕ) (v : View) (s : S) → v.pc ≡ p → AtRound j v → suc k ≡ rounds t v.left → Shows v s → v.left ≤ lanes t
          → Looped p (suc k * long) s
      after_last k j v s pc round is shows le =
          let b = body_code at l in
          let w = execs t b v in
          let d = round_done j v round in
          let leaves : again t h w ≡ record w { pc = w.pc + 4; size = 4 } =
          ap (λ (u : Bool). cond u (record w { pc = w.pc + 4; size = 4 }) (record w { pc = w.pc + 4 - 2 * h; left = w.left - lanes t }))
          (le-leb w.left (lanes t) (let same = d.left in omega arith)) in
          let one : suc k ≡ 1 = is ∙ last_round t v.left round.some le in
          let many : long ≡ suc k * long = sym (ap (λ (x : ℕ). x * long) one ∙ (let q : 1 * long ≡ long = omega arith in q)) in
          let all : j + min v.left (lanes t) ≡ n = let whole = round.left in omega arith in
          record {
            view = record w { pc = w.pc + 4; size = 4 };
            reaches = so_many next Shows long (suc k * long) s _ many (subst (λ (x : View). Reaches next Shows long s x) leaves (around j v s pc round shows));
            pc = omega (arith, pc_execs t b v);
            byte = d.byte ∙ ap (λ (x : ℕ). replaced t (at l.array) x f m) all;
          }

      before_last : (k j : ℕ) (v : View) (s : S) → v.pc ≡ p → AtRound j v → suc k ≡ rounds t v.left → Shows v s → lanes t < v.left
          → ((w : View) (u : S) → w.pc ≡ p → AtRound (j + lanes t) w → k ≡ rounds t w.left → Shows w u → Looped p (k * long) u)
          → Looped p (suc k * long) s
      before_last k j v s pc round is shows lt rest =
          let b = body_code at l in
          let w = execs t b v in
          let d = round_done j v round in
          let x = record w { pc = w.pc + 4 - 2 * h; left = w.left - lanes t } in
          let leaves : again t h w ≡ x =
          ap (λ (u : Bool). cond u (record w { pc = w.pc + 4; size = 4 }) x) (lt-leb w.left (lanes t) (let same = d.left in omega arith)) in
          let r = subst (λ (y : View). Reaches next Shows long s y) leaves (around j v s pc round shows) in
          let whole = round.left in
          let same = d.left in
          let full : j + min v.left (lanes t) ≡ j + lanes t = omega arith in
          let fewer : k ≡ rounds t (w.left - lanes t) = let e : suc k ≡ suc (rounds t (v.left - lanes t)) = is ∙ one_round t v.left lt in
          (let g : k ≡ rounds t (v.left - lanes t) = omega arith in g ∙ ap (λ (y : ℕ). rounds t (y - lanes t)) (sym d.left)) in
          let q = rest x r.to (omega (arith, pc_execs t b v))
          (record {
            size = d.size;
            offset = d.offset;
            left = omega arith;
            some = omega arith;
            byte = d.byte
                ∙ ap (λ (y : ℕ). replaced t (at l.array) y f m) full;
          }) fewer r.shows in
          let many : long + k * long ≡ suc k * long = omega (arith, suc-mul k long) in
          record {
            view = q.view;
            reaches = so_many next Shows (long + k * long) (suc k * long) s q.view many (joined next Shows long (k * long) s x q.view r q.reaches);
            pc = q.pc;
            byte = q.byte;
          }

      pub looped : (k j : ℕ) (v : View) (s : S) → v.pc ≡ p → AtRound j v → k ≡ rounds t v.left → Shows v s → Looped p (k * long) s
      looped zero j v s pc round is shows = absurd (some_round t v.left round.some is)
      looped (suc k) j v s pc round is shows =
          ⊎_elim (λ lt. before_last k j v s pc round is shows lt (λ w u pc_w round_w is_w shows_w. looped k (j + lanes t) w u pc_w round_w is_w shows_w))
          (λ le. after_last k j v s pc round is shows le) (cases_lt (lanes t) v.left)

-- A LINE: its head, the entry of its loop, and its rounds
pub items_append : (is js : List Item) → items_halves (is ++ js) ≡ items_halves is + items_halves js
items_append [] js = omega arith
items_append (i ∷ is) js = omega (arith, items_append is js)

-- how many steps a round takes
round_length : (at : ℕ → ℕ) (l : Line) → length (body_code at l) + 1 ≡ 4 * names l.expr + 3 * numbers l.expr + operations l.expr + 6
round_length at l = omega (arith, expr_length at l.expr 0, length-append (expr_code at l.expr 0) (end_code (at l.array)))

line_halves : (at : ℕ → ℕ) (n : ℕ) (l : Line) → items_halves (line_code at n l) ≡ 7 + (halves_of (body_code at l) + 2)
line_halves at n l = omega (arith, items_append (map Plain (body_code at l)) (Again (halves_of (body_code at l) + 2) ∷ []), plain_halves (body_code at l))

module _ {S E : Type 0} (t : ElementType) (next : S → Result S E) (Shows : View → S → Type 0) (Stands : ℕ → Item → Type 0) (rows : Rows t next Shows Stands)
    (at : ℕ → ℕ) (n : ℕ) (fits : n < 2 ^ 32) where
  -- a line's steps lead behind it, and it is done
  pub record LineDone (l : Line) (p k : ℕ) (s : S) (m : Bytes) : Type 0 where
    pub view : View
    pub reaches : Reaches next Shows k s view
    pub pc : view.pc ≡ p + 2 * items_halves (line_code at n l)
    pub byte : view.byte ≡ after_line t at n l m

  module _ (l : Line) (fine : IsLine t at n l) where
    abbrev behind_head : List Item
    behind_head = let h = halves_of (body_code at l) + 2 in Begin h ∷ (map Plain (body_code at l) ++ Again h ∷ [])

    -- behind the head
    abbrev headed : View → View
    headed v = execs t (head_code n) v

    entered : (v : View) (s : S) → Shows v s → CodeStands Stands v.pc (line_code at n l)
        → Reaches next Shows 4 s (begun t (halves_of (body_code at l) + 2) (headed v))
    entered v s shows stands =
        let r = straight next Shows t Stands rows (head_code n) v s shows (stands_front Stands v.pc (map Plain (head_code n)) behind_head stands)
        (tt, (low_half n, (high_half n fits, tt))) in
        let here : v.pc + 2 * 5 ≡ (headed v).pc = omega arith in
        joined next Shows 3 1 s (headed v) _ r
        (rows.begin (halves_of (body_code at l) + 2) (headed v) r.to r.shows
        (subst (λ (x : ℕ). Stands x (Begin (halves_of (body_code at l) + 2))) here
        (stands_back Stands v.pc (map Plain (head_code n)) behind_head stands).0))

    -- nothing to do
    empty : (v : View) (s : S) → Shows v s → CodeStands Stands v.pc (line_code at n l) → n ≡ 0 → LineDone l v.pc (line_steps t n l.expr) s v.byte
    empty v s shows stands none =
        let hv = headed v in
        let h = halves_of (body_code at l) + 2 in
        let w = record hv { pc = hv.pc + 4 + 2 * h } in
        let leaves : begun t h hv ≡ w =
        ap (λ (u : Bool). cond u w (record hv { pc = hv.pc + 4; left = hv.length; size = size_code t })) (eq_true hv.length (two_halves n ∙ none)) in
        let no_rounds : rounds t n ≡ 0 = ap (rounds t) none ∙ no_round t in
        let many : 4 ≡ line_steps t n l.expr =
        sym (ap (λ (x : ℕ). 4 + x * (4 * names l.expr + 3 * numbers l.expr + operations l.expr + 6)) no_rounds
        ∙ (let z : 4 + 0 * (4 * names l.expr + 3 * numbers l.expr + operations l.expr + 6) ≡ 4 = omega arith in z)) in
        record {
          view = w;
          reaches = so_many next Shows 4 (line_steps t n l.expr) s w many (subst (λ (x : View). Reaches next Shows 4 s x) leaves (entered v s shows stands));
          pc = omega (arith, line_halves at n l);
          byte = sym (ap (λ (x : ℕ). replaced t (at l.array) x (λ i. value t at l.expr i v.byte) v.byte) none);
        }

    full : (v : View) (s : S) → Shows v s → CodeStands Stands v.pc (line_code at n l) → 0 < n → LineDone l v.pc (line_steps t n l.expr) s v.byte
    full v s shows stands some =
        let hv = headed v in
        let h = halves_of (body_code at l) + 2 in
        let w = record hv { pc = hv.pc + 4; left = hv.length; size = size_code t } in
        let is = two_halves n in
        let leaves : begun t h hv ≡ w = ap (λ (u : Bool). cond u (record hv { pc = hv.pc + 4 + 2 * h }) w) (eq_false hv.length (omega arith)) in
        let r = subst (λ (x : View). Reaches next Shows 4 s x) leaves (entered v s shows stands) in
        let p = v.pc + 2 * 5 + 2 * 2 in
        let inner = (stands_back Stands v.pc (map Plain (head_code n)) behind_head stands).1 in
        let q = looped t at n l fine v.byte next Shows Stands rows p inner (rounds t n) 0 w r.to (omega arith)
        (record { size = refl; offset = sym (no_bytes t); left = omega arith; some = omega arith; byte = refl }) (ap (rounds t) (sym is)) r.shows in
        let step = round_length at l in
        let many : 4 + rounds t n * (length (body_code at l) + 1) ≡ line_steps t n l.expr = ap (λ (x : ℕ). 4 + rounds t n * x) step in
        record {
          view = q.view;
          reaches = so_many next Shows (4 + rounds t n * (length (body_code at l) + 1)) (line_steps t n l.expr) s q.view many
              (joined next Shows 4 (rounds t n * (length (body_code at l) + 1)) s w q.view r q.reaches);
          pc = q.pc ∙ (let z : p + 2 * h ≡ v.pc + 2 * items_halves (line_code at n l) = omega (arith, line_halves at n l) in z);
          byte = q.byte;
        }

    pub line_done : (v : View) (s : S) → Shows v s → CodeStands Stands v.pc (line_code at n l) → LineDone l v.pc (line_steps t n l.expr) s v.byte
    line_done v s shows stands = ⊎_elim (λ lt. full v s shows stands lt) (λ le. empty v s shows stands (omega arith)) (cases_lt 0 n)

  -- ALL LINES
  pub lines_end : (ls : List Line) → AreLines t at n ls → (v : View) (s : S) → Shows v s → CodeStands Stands v.pc (lines_code at n ls)
      → Ends next Shows Stands (lines_steps t n ls) s (after_lines t at n ls v.byte)
  lines_end [] fine v s shows stands = record { view = v; reaches = record { to = s; comes = refl; shows = shows }; stop = stands.0; memory = refl }
  lines_end (l ∷ ls) fine v s shows stands =
      let d = line_done l fine.0 v s shows (stands_front Stands v.pc (line_code at n l) (lines_code at n ls) stands) in
      let r = d.reaches in
      let q = lines_end ls fine.1 d.view r.to r.shows
      (subst (λ (x : ℕ). CodeStands Stands x (lines_code at n ls)) (sym d.pc) (stands_back Stands v.pc (line_code at n l) (lines_code at n ls) stands)) in
      record {
        view = q.view;
        reaches = joined next Shows (line_steps t n l.expr) (lines_steps t n ls) s d.view q.view r q.reaches;
        stop = q.stop;
        memory = q.memory ∙ ap (after_lines t at n ls) d.byte;
      }
