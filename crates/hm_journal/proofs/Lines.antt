-- THE LINES OF A REPORT up to the system's: none of them is the system's, so this one is the first, and it alone is left out.
use Rattle.std.proofs.Common.{◌≡◌, ℕ, zero, suc, Bool, true, false, nat_eq, List, [], ◌∷◌, ◌++◌, codes, decimal, length, Option, ap, refl, sym, ◌∙◌}
use Rattle.std.proofs.Common.{append_assoc, arith, slice_index}
use Rattle.std.proofs.lemmas.Bool.{and_parts}
use Rattle.std.proofs.lemmas.List.{append-nil}
use Rattle.std.proofs.lemmas.Bool.Decides.{nat_tests}
use Rattle.hm_regs.specs.Stacks.{main_of, process_of}
use Rattle.hm_regs.specs.declared.Regs.{Regs}
use Rattle.hm_report_lines.proofs.Ascii.{outcome_keeps}
use Rattle.hm_report_lines.proofs.Bytes.{AreAll, adds, appended, bit_plain, decimal_plain, hex2_plain, hex8_plain, is_plain, is_shown}
use Rattle.hm_run.specs.Report.{bit_line, flags_line, low_lines, mode_line, outcome_line, outcome_text, output_lines, pointer_lines, position_line}
use Rattle.hm_run.specs.Report.{register_lines, report_of, state_lines, system_line, vector_line, vector_lines, word_line}
use Rattle.hm_run.specs.Timed.{Timed}
use Rattle.hm_run.specs.declared.Outcome.{Outcome}
use Rattle.hm_state.specs.State.{regs_of}
use Rattle.hm_text_base.specs.Texts.{separator, binary_digit, hex2, hex8}
use Rattle.hm_journal.specs.Formats.{behind_line, without, without_system}
use Rattle.hm_journal.specs.Runs.{IsWithoutLine}

-- a text that stays: from where a line begins or from within one, up to where one begins or to within one
abbrev Stays : Bool → Bool → List ℕ → Type 0
Stays from to xs = (rest : List ℕ) → without from (xs ++ rest) ≡ xs ++ without to rest

chain : (from mid to : Bool) (xs ys : List ℕ) → Stays from mid xs → Stays mid to ys → Stays from to (xs ++ ys)
chain from mid to xs ys first second rest =
    ap (without from) (append_assoc xs ys rest) ∙ first (ys ++ rest) ∙ ap (λ l. xs ++ l) (second rest) ∙ sym (append_assoc xs ys (without to rest))

no_end : (x : ℕ) → is_shown x ≡ true → nat_eq x 10 ≡ false
no_end x shown = grind (arith, nat_tests, shown)

-- a part of a line
plain_stays : (xs : List ℕ) → is_plain xs ≡ true → Stays false false xs
plain_stays [] plain rest = refl
plain_stays (x ∷ xs) plain rest =
    let parts = and_parts (is_shown x) (is_plain xs) plain in
    rw (no_end x parts.0) (ap (λ l. x ∷ l) (plain_stays xs parts.1 rest))

-- a line that is begun, with more parts of it, and with its end
parts_stay : (out : List ℕ) (parts : List (List ℕ)) → Stays true false out → AreAll is_shown parts → Stays true false (appended out parts)
parts_stay out [] begun all = begun
parts_stay out (part ∷ parts) begun all = parts_stay (out ++ part) parts (chain true false false out part begun (plain_stays part all.0)) all.1

ended : (out : List ℕ) → Stays true false out → Stays true true (out ++ codes "\n")
ended out begun = chain true false true out (codes "\n") begun (λ rest. refl)

-- a line behind whole lines: its first word, its other parts and its end
line_stays : (out name : List ℕ) (parts : List (List ℕ)) → Stays true true out → Stays true false name → AreAll is_shown parts
    → Stays true true (appended (out ++ name) parts ++ codes "\n")
line_stays out name parts h begins all = ended (appended (out ++ name) parts) (parts_stay (out ++ name) parts (chain true true false out name h begins) all)

-- THE LINES
outcome_stays : (o : Option Outcome) → Stays true true (outcome_line o)
outcome_stays o =
    ended (outcome_text o (codes "outcome "))
    (outcome_keeps (Stays true false) (λ out part begun plain. chain true false false out part begun (plain_stays part plain)) o (codes "outcome ")
    (λ rest. refl))

mode_stays : (depth ipsr : ℕ) (out : List ℕ) → Stays true true out → Stays true true (mode_line depth ipsr out)
mode_stays zero ipsr out h = chain true true true out (codes "mode thread\n") h (λ rest. refl)
mode_stays (suc k) ipsr out h =
    line_stays out (codes "mode handler ") (decimal ipsr ∷ codes " depth " ∷ decimal (suc k) ∷ []) h (λ rest. refl)
    (decimal_plain ipsr, (refl, (decimal_plain (suc k), tt)))

low_stay : (k : ℕ) (r out : List ℕ) → Stays true true out → Stays true true (low_lines k r out)
low_stay zero r out h = h
low_stay (suc k) r out h =
    line_stays (low_lines k r out) (codes "r") (decimal k ∷ separator ∷ hex8 (slice_index r k) ∷ []) (low_stay k r out h) (λ rest. refl)
    (decimal_plain k, (refl, (hex8_plain (slice_index r k), tt)))

word_stays : (name : List ℕ) (x : ℕ) (out : List ℕ) → Stays true false name → Stays true true out → Stays true true (word_line name x out)
word_stays name x out begins h = line_stays out name (separator ∷ hex8 x ∷ []) h begins (refl, (hex8_plain x, tt))

flag_stays : (name : List ℕ) (b : Bool) (out : List ℕ) → Stays true false name → Stays true true out → Stays true true (bit_line name b out)
flag_stays name b out begins h = line_stays out name (separator ∷ binary_digit b ∷ []) h begins (refl, (bit_plain b, tt))

pointers_stay : (g : Regs) (out : List ℕ) → Stays true true out → Stays true true (pointer_lines g out)
pointers_stay g out h =
    let sp = word_line (codes "sp") g.sp out in
    let lr = word_line (codes "lr") g.lr sp in
    word_stays (codes "pc") g.pc lr (λ rest. refl) (word_stays (codes "lr") g.lr sp (λ rest. refl) (word_stays (codes "sp") g.sp out (λ rest. refl) h))

position_stays : (a b : ℕ) (out : List ℕ) → Stays true true out → Stays true true (position_line a b out)
position_stays a b out h = line_stays out (codes "position ") (decimal a ∷ separator ∷ decimal b ∷ []) h (λ rest. refl)
    (decimal_plain a, (refl, (decimal_plain b, tt)))

flags_stay : (g : Regs) (out : List ℕ) → Stays true true out → Stays true true (flags_line g out)
flags_stay g out h =
    line_stays out (codes "flags ") (binary_digit g.n ∷ binary_digit g.z ∷ binary_digit g.c ∷ binary_digit g.v ∷ binary_digit g.q ∷ []) h (λ rest. refl)
    (bit_plain g.n, (bit_plain g.z, (bit_plain g.c, (bit_plain g.v, (bit_plain g.q, tt)))))

states_stay : (g : Regs) (out : List ℕ) → Stays true true out → Stays true true (state_lines g out)
states_stay g out h =
    let it = out ++ codes "it " ++ hex2 g.it ++ codes "\n" in
    let fpscr = word_line (codes "fpscr") g.fpscr it in
    let vpr = word_line (codes "vpr") g.vpr fpscr in
    let fpca = bit_line (codes "fpca") g.fpca vpr in
    flag_stays (codes "primask") g.primask fpca (λ rest. refl) (flag_stays (codes "fpca") g.fpca vpr (λ rest. refl)
    (word_stays (codes "vpr") g.vpr fpscr (λ rest. refl) (word_stays (codes "fpscr") g.fpscr it (λ rest. refl)
    (line_stays out (codes "it ") (hex2 g.it ∷ []) h (λ rest. refl) (hex2_plain g.it, tt)))))

-- what stands before the system's line
before_lines : Option Outcome → ℕ → Regs → ℕ → ℕ → List ℕ
before_lines o depth g a b = state_lines g (flags_line g (position_line a b (pointer_lines g (low_lines 13 g.r (mode_line depth g.ipsr (outcome_line o))))))

before_stays : (o : Option Outcome) (depth : ℕ) (g : Regs) (a b : ℕ) → Stays true true (before_lines o depth g a b)
unfolding before_lines
before_stays o depth g a b =
    let mode = mode_line depth g.ipsr (outcome_line o) in
    let low = low_lines 13 g.r mode in
    let pointers = pointer_lines g low in
    let position = position_line a b pointers in
    let flags = flags_line g position in
    states_stay g flags (flags_stay g position
    (position_stays a b pointers (pointers_stay g low (low_stay 13 g.r mode (mode_stays depth g.ipsr (outcome_line o) (outcome_stays o))))))

-- BEHIND IT
behind_plain : (xs rest : List ℕ) → is_plain xs ≡ true → behind_line (xs ++ 10 ∷ rest) ≡ rest
behind_plain [] rest plain = refl
behind_plain (x ∷ xs) rest plain = let parts = and_parts (is_shown x) (is_plain xs) plain in rw (no_end x parts.0) (behind_plain xs rest parts.1)

-- the system's line but for its end
system_text : Regs → List ℕ
system_text g = codes "system " ++ hex8 (main_of g) ++ separator ++ hex8 (process_of g) ++ separator ++ binary_digit g.spsel ++ separator ++ hex2 g.basepri

system_plain : (g : Regs) → is_plain (system_text g) ≡ true
unfolding system_text
system_plain g =
    adds is_shown (codes "system ") (hex8 (main_of g) ∷ separator ∷ hex8 (process_of g) ∷ separator ∷ binary_digit g.spsel ∷ separator ∷ hex2 g.basepri ∷ [])
    refl
    (hex8_plain (main_of g), (refl, (hex8_plain (process_of g), (refl, (bit_plain g.spsel, (refl, (hex2_plain g.basepri, tt)))))))

-- that line is the first of the system in a text that begins with it
begins_here : (g : Regs) (rest : List ℕ) → without true (system_line g [] ++ rest) ≡ behind_line (system_line g [] ++ rest)
begins_here g rest = refl

left_out : (g : Regs) (rest : List ℕ) → without true (system_line g [] ++ rest) ≡ rest
unfolding system_text
left_out g rest = begins_here g rest ∙ ap behind_line (append_assoc (system_text g) (codes "\n") rest) ∙ behind_plain (system_text g) rest (system_plain g)

-- a line stands behind the text before it
system_behind : (g : Regs) (out : List ℕ) → system_line g out ≡ out ++ system_line g []
system_behind g out = simp append_assoc

vector_behind : (k : ℕ) (qw out : List ℕ) → vector_line k qw out ≡ out ++ vector_line k qw []
vector_behind k qw out = simp append_assoc

vectors_behind : (k : ℕ) (qw out : List ℕ) → vector_lines k qw out ≡ out ++ vector_lines k qw []
vectors_behind zero qw out = sym (append-nil out)
vectors_behind (suc k) qw out =
    ap (vector_line k qw) (vectors_behind k qw out) ∙ vector_behind k qw (out ++ vector_lines k qw [])
    ∙ append_assoc out (vector_lines k qw []) (vector_line k qw [])
    ∙ ap (λ l. out ++ l) (sym (vector_behind k qw (vector_lines k qw [])))

output_behind : (bytes out : List ℕ) → output_lines bytes out ≡ out ++ output_lines bytes []
output_behind bytes out = simp append_assoc

-- A REPORT IN THREE PARTS
parts_of : (o : Option Outcome) (depth : ℕ) (g : Regs) (a b : ℕ) (output : List ℕ)
    → report_of o depth g a b output ≡ before_lines o depth g a b ++ (system_line g [] ++ (vector_lines 8 g.qw [] ++ output_lines output []))
unfolding report_of register_lines before_lines
parts_of o depth g a b output =
    let before = before_lines o depth g a b in
    let vectors = vector_lines 8 g.qw [] in
    output_behind output (vector_lines 8 g.qw (system_line g before))
    ∙ ap (λ l. l ++ output_lines output []) (vectors_behind 8 g.qw (system_line g before) ∙ ap (λ l. l ++ vectors) (system_behind g before))
    ∙ append_assoc (before ++ system_line g []) vectors (output_lines output [])
    ∙ append_assoc before (system_line g []) (vectors ++ output_lines output [])

pub without_line : (x : Timed) → IsWithoutLine x
without_line x =
    let g = regs_of x.config.state in
    let depth = length x.acts in
    let output = x.config.state.rest.output in
    let before = before_lines x.outcome depth g x.config.a x.config.b in
    let behind = vector_lines 8 g.qw [] ++ output_lines output [] in
    let parts = parts_of x.outcome depth g x.config.a x.config.b output in
    record {
      before = before;
      behind = behind;
      whole = parts ∙ sym (append_assoc before (system_line g []) behind);
      rest = ap without_system parts ∙ before_stays x.outcome depth g x.config.a x.config.b (system_line g [] ++ behind)
          ∙ ap (λ l. before ++ l) (left_out g behind);
    }
