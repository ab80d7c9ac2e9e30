-- The values of a list that are left, as the second pass reads it.
use Rattle.std.proofs.Common.{◌≡◌, ℕ, suc, ◌+◌, ◌*◌, List, [], ◌∷◌, ◌++◌, Some, None, length, refl, sym, ap, subst, append_assoc, ◌∙◌, arith}
use Rattle.std.proofs.lemmas.List.{append-nil, length-append}
use Rattle.hm_line.specs.Columns.{IsOperand}
use Rattle.hm_line.specs.Texts.{column}
use Rattle.hm_line.specs.declared.errors.AsmKind.TheVariants as kinds
use Rattle.hm_tokens.specs.Tokens.{skip, word, comma}
use Rattle.hm_source.specs.declared.values.DatumSize.{DatumSize}
use Rattle.hm_source.specs.declared.values.Values.{Values}
use Rattle.hm_source.specs.Directives.{Directed, Datum, align, bytes_each, datum_tokens, list_name, list_tokens, org, space, values}
use Rattle.hm_source.specs.Places.{HasPlace, HasRoom}
use Rattle.hm_line.specs.Fronts.{AreFront}
use Rattle.hm_source.specs.Shown.{AreListed, ShowsValues}
use Rattle.hm_source.specs.Statements.{directive}
use Rattle.hm_source.proofs.Fronts.{ends_before, front_of_all}
use Rattle.hm_source.proofs.Listed.{EndsAt}
use Rattle.hm_source.proofs.Rooms.{room_behind, room_front}
use Rattle.hm_asm.specs.Making.{Made, place_of, with_bytes}
use Rattle.hm_asm.specs.Ready.{IsReadyList}
use Rattle.hm_asm.specs.SecondPass.{AreValues, IsFirstMissing, IsListRefused, Naming, low_bytes, number_of}
use Rattle.hm_asm.proofs.Given.{low_length}
use Rattle.hm_asm.proofs.Operands.{first_operand, next_operand}

-- values that are left, of those that a text lists: they have room; the next one is an operand of the text; what they give, behind what
-- was added, is what all give; and the first of them that is missing is the first of all
pub record Left (text : List ℕ) (labels : Naming) (size : DatumSize) (rest : List ℕ) (old now : Made) (all : List Datum) : Type 0 where
  pub done : ℕ
  pub d : Datum
  pub ds : List Datum
  pub listed : AreListed size rest d ds
  pub operand : IsOperand text done rest
  pub room : HasRoom (place_of now) (bytes_each size * length (d ∷ ds))
  pub given : (bs : List ℕ) → AreValues labels size (d ∷ ds) bs → (cs : List ℕ) × AreValues labels size all cs × (with_bytes now bs ≡ with_bytes old cs)
  pub missing : (n : ℕ) → IsFirstMissing labels size (d ∷ ds) n → IsFirstMissing labels size all (done + n)

-- all are left at first
pub left_all : (text : List ℕ) (labels : Naming) (size : DatumSize) (list : List ℕ) (old : Made) (d : Datum) (ds : List Datum)
    → AreFront text (word (list_name size) ∷ []) list → AreListed size list d ds
    → HasRoom (place_of old) (bytes_each size * length (d ∷ ds)) → Left text labels size list old old (d ∷ ds)
left_all text labels size list old d ds front listed room = record {
  done = 0;
  d = d;
  ds = ds;
  listed = listed;
  operand = first_operand text list (word (list_name size)) front;
  room = room;
  given = λ bs are. (bs, are, refl);
  missing = λ n is. let count : n ≡ 0 + n = omega arith in subst (λ (k : ℕ). IsFirstMissing labels size (d ∷ ds) k) count is;
}

-- no comma behind the first value: no others follow
pub left_alone : (size : DatumSize) (rest mid : List ℕ) (d : Datum) (ds : List Datum) → EndsAt rest mid → ((more : List ℕ) → AreFront mid (comma ∷ []) more → ⊥)
    → AreListed size rest d ds → ds ≡ []
left_alone size rest mid d [] only none listed = refl
left_alone size rest mid d (e ∷ es) only none listed =
    let f = front_of_all rest (datum_tokens d) (comma ∷ list_tokens e es) listed.0 in
    let separator : AreFront f.0 (comma ∷ []) f.2.0 = (f.2.0, f.2.1, refl) in
    let same : mid ≡ f.0 = only d f.0 f.1 (ends_before f.0 f.2.0 separator) in
    absurd (none f.2.0 (subst (λ (x : List ℕ). AreFront x (comma ∷ []) f.2.0) (sym same) separator))

module _ (text : List ℕ) (labels : Naming) (size : DatumSize) (rest : List ℕ) (old now : Made) (all : List Datum) (l : Left text labels size rest old now all)
  where
    -- the first one has room
    pub room_one : HasRoom (place_of now) (bytes_each size)
    room_one =
        let count : bytes_each size * length (l.d ∷ l.ds) ≡ bytes_each size + bytes_each size * length l.ds = omega arith in
        room_front (place_of now) (bytes_each size) (bytes_each size * length l.ds) (subst (λ (n : ℕ). HasRoom (place_of now) n) count l.room)

    -- it has no number
    pub none_left : (first : Datum) (others : List Datum) → all ≡ first ∷ others → number_of labels size l.d ≡ None
        → IsListRefused kinds.Missing labels text (values size first others) (column text (skip rest))
    none_left first others e none =
        let count : l.done + 0 ≡ l.done = omega arith in (
          l.done,
          subst (λ (xs : List Datum). IsFirstMissing labels size xs l.done) e (subst (λ (k : ℕ). IsFirstMissing labels size all k) count (l.missing 0 none)),
          (rest, l.operand, refl),
        )

    -- its bytes are added
    module _ (n : ℕ) (is : number_of labels size l.d ≡ Some n) (next : Made) (added : next ≡ with_bytes now (low_bytes (bytes_each size) n)) where
      low : List ℕ
      low = low_bytes (bytes_each size) n

      -- and no others follow
      pub last_left : l.ds ≡ [] → (cs : List ℕ) × AreValues labels size all cs × (next ≡ with_bytes old cs)
      unfolding low
      last_left none =
          let given = l.given (low ++ []) (subst (λ (xs : List Datum). AreValues labels size (l.d ∷ xs) (low ++ [])) (sym none) (n, [], is, refl, refl)) in
          (given.0, given.1, added ∙ ap (λ (x : List ℕ). with_bytes now x) (sym (append-nil low)) ∙ given.2)

      -- and others follow
      pub next_left : (mid more : List ℕ) (e : Datum) (es : List Datum) → AreFront rest (datum_tokens l.d) mid → AreFront mid (comma ∷ []) more
          → AreListed size more e es → l.ds ≡ e ∷ es → Left text labels size more old next all
      unfolding low
      next_left mid more e es front separator listed are = record {
        done = l.done + 1;
        d = e;
        ds = es;
        listed = listed;
        operand = next_operand text rest mid more l.done l.d l.operand front separator;
        room = behind;
        given = λ bs have. ahead bs have;
        missing = λ k none. let count : l.done + suc k ≡ l.done + 1 + k = omega arith in
            subst (λ (j : ℕ). IsFirstMissing labels size all j) count (l.missing (suc k) (later k none));
      }
        where
          behind : HasRoom (place_of next) (bytes_each size * length (e ∷ es))
          behind =
              let many : length l.ds ≡ length (e ∷ es) = ap length are in
              let count : bytes_each size * length (l.d ∷ l.ds) ≡ bytes_each size + bytes_each size * length (e ∷ es) =
              ap (λ (x : ℕ). bytes_each size * suc x) many ∙ omega arith in
              let place : place_of now + bytes_each size ≡ place_of next =
              (let sum = length-append now.bytes low in let one = low_length size n in omega (arith, sum, one)) ∙ ap place_of (sym added) in
              subst (λ (a : ℕ). HasRoom a (bytes_each size * length (e ∷ es))) place
              (room_behind (place_of now) (bytes_each size) (bytes_each size * length (e ∷ es)) (subst (λ (x : ℕ). HasRoom (place_of now) x) count l.room))

          ahead : (bs : List ℕ) → AreValues labels size (e ∷ es) bs → (cs : List ℕ) × AreValues labels size all cs × (with_bytes next bs ≡ with_bytes old cs)
          ahead bs have =
              let given = l.given (low ++ bs) (subst (λ (xs : List Datum). AreValues labels size (l.d ∷ xs) (low ++ bs)) (sym are) (n, bs, is, have, refl)) in (
                given.0,
                given.1,
                ap (λ (m : Made). with_bytes m bs) added ∙ ap (λ (x : List ℕ). record now { bytes = x }) (append_assoc now.bytes low bs)
                    ∙ given.2,
              )

          later : (k : ℕ) → IsFirstMissing labels size (e ∷ es) k → IsFirstMissing labels size (l.d ∷ l.ds) (suc k)
          later k none = (n, is, subst (λ (xs : List Datum). IsFirstMissing labels size xs k) (sym are) none)

-- THE LIST of a text
-- what a directive with values asks for
pub record Shown (text : List ℕ) (v : Values) (asked : Directed) : Type 0 where
  pub d : Datum
  pub ds : List Datum
  pub asks : asked ≡ values v.size d ds
  pub shows : ShowsValues text v (values v.size d ds)

pub shown_list : (text : List ℕ) (v : Values) (asked : Directed) → ShowsValues text v asked → Shown text v asked
shown_list text v (org b) shows = absurd shows
shown_list text v (align n) shows = absurd shows
shown_list text v (space n) shows = absurd shows
shown_list text v (values s d ds) shows = record {
  d = d;
  ds = ds;
  asks = ap (λ (x : DatumSize). values x d ds) (sym shows.0);
  shows = subst (λ (x : DatumSize). ShowsValues text v (values x d ds)) (sym shows.0) shows;
}

pub ready_list : (text : List ℕ) (v : Values) (a : ℕ) (ready : IsReadyList text v a) → Shown text v ready.0
ready_list text v a ready = shown_list text v ready.0 ready.1

same_count : (text : List ℕ) (v : Values) (a : ℕ) (s : DatumSize) (d e : Datum) (ds es : List Datum) → ShowsValues text v (values s d ds)
    → ShowsValues text v (values s e es) → HasRoom a (bytes_each s * length (d ∷ ds)) → HasRoom a (bytes_each s * length (e ∷ es))
same_count text v a s d e ds es shows also room =
    let count : length (d ∷ ds) ≡ length (e ∷ es) = sym shows.1 ∙ also.1 in
    subst (λ (n : ℕ). HasRoom a (bytes_each s * n)) count room

pub ready_room : (text : List ℕ) (v : Values) (a : ℕ) (d : Datum) (ds : List Datum) → IsReadyList text v a → ShowsValues text v (values v.size d ds)
    → HasRoom a (bytes_each v.size * length (d ∷ ds))
ready_room text v a d ds ready shows =
    let list = ready_list text v a ready in
    let place : HasPlace (directive (values v.size list.d list.ds)) a = subst (λ (x : Directed). HasPlace (directive x) a) list.asks ready.2 in
    same_count text v a v.size list.d d list.ds ds list.shows shows place
