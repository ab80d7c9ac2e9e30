-- Whole instructions in order, and a machine that overlaps the beats of two.
use Rattle.std.specs.Prelude.{false, ◌≡◌, ℕ, zero, suc, ◌+◌, ◌<◌, ◌≤◌, Bool, true, cond, ◌==◌, ◌⊎◌, Option, Some, None, Result, Ok, Err}
use Rattle.hm_order.specs.Beats.{Beats, BeatLaws, Apart, Same, Live, Alike, AlikeAs, StopsBy, then, beats}

-- beats done of the older and the younger instruction, instructions that are done, steps of an older one, and the state
pub record Config (S : Type 0) : Type 0 where
  pub a : ℕ
  pub b : ℕ
  pub n : ℕ
  pub steps : ℕ
  pub state : S

-- before the first instruction
abbrev pub at_start : {S : Type 0} → S → Config S
at_start s = record { a = 0; b = 0; n = 0; steps = 0; state = s }

-- why a run ends, and where: a stop of an instruction, or a rule of overlap that a younger step broke
pub data End (S E B : Type 0) : Type 0 where
  Stopped : Config S → E → End S E B
  Broken : Config S → B → End S E B

-- A program on such states. E says why the machine stops, W why a whole instruction does, and B names a rule.
pub record Core (S I C V E W B : Type 0) : Type 0 where
  pub rows : Beats S I C V E
  -- the vector row at an address
  pub code : ℕ → Option I
  -- begins a row: makes the context, and refuses a row that is not valid here
  pub start : I → S → Result S E
  -- the state with the context that the instruction at the program counter makes before anything of it may stop; the
  -- same state where it makes none
  pub made : S → S
  -- a row at once, with the program counter behind it
  pub whole : I → S → Result S W
  -- the instruction at the program counter, where it is no vector row: in the machine, and by itself
  pub other : S → Result S E
  pub alone : S → Result S W
  -- a stop of a whole instruction, as the machine stops
  pub stop_of : W → E
  pub jump : ℕ → S → S
  -- The first rule that a younger step breaks here, with the rows at the program counter and 4 behind it. None where
  -- the step may go.
  pub rule : Option I → Option I → Config S → Option B
  -- the rule that a younger beat breaks by such a stop
  pub fault_rule : E → Option B
  -- whether the value of a cell is one that a handler or an entry wrote
  pub marked : C → V → Bool

module _ {S I C V E W B : Type 0} (M : Core S I C V E W B) where
  -- no cell holds what a handler or an entry wrote
  abbrev pub Clean : S → Type 0
  Clean s = (c : C) → M.marked c (M.rows.view.get s c) ≡ false

  -- IN ORDER
  -- one instruction done whole: a vector row, or what is done alone where none stands
  abbrev pub next_of : Option I → S → Result S W
  next_of (Some i) s = M.whole i s
  next_of None s = M.alone s

  -- the instruction at the program counter
  abbrev pub next : S → Result S W
  next s = next_of (M.code (M.rows.view.pc s)) s

  -- n instructions in order
  abbrev pub seq : ℕ → S → Result S W
  seq zero s = Ok s
  seq (suc n) s = then (seq n s) next

  -- OVERLAPPED
  -- after a beats of the older: behind it, once it has four
  abbrev pub settle : ℕ → ℕ → ℕ → ℕ → S → Config S
  settle a b n steps s = cond (a == 4) (record { a = b; b = 0; n = suc n; steps = steps; state = M.jump (M.rows.view.pc s + 4) s })
      (record { a = a; b = b; n = n; steps = steps; state = s })

  -- before beat 0 a row is begun; before a later one nothing is done
  abbrev pub begin : I → ℕ → S → Result S E
  begin i zero s = M.start i s
  begin i (suc a) s = Ok s

  -- what stays of a step of the older that stops: the position before it, with the context that is made before beat 0
  abbrev pub begun : Config S → Config S
  begun c = record c { state = cond (c.a == 0) (M.made c.state) c.state }

  -- what the older came to: the position behind it, or why it stopped
  abbrev pub done : Config S → Result S E → (S → Config S) → Result (Config S) (End S E B)
  done c (Ok t) f = Ok (f t)
  done c (Err e) f = Err (Stopped (begun c) e)

  -- a step of the older: the next beat of a vector row, or the whole of what is none
  abbrev pub older_of : Option I → Config S → Result (Config S) (End S E B)
  older_of (Some i) c = done c (then (begin i c.a c.state) ((M.rows.act i c.a).run)) (settle (suc c.a) c.b c.n (suc c.steps))
  older_of None c = done c (M.other c.state) (λ t. record { a = 0; b = 0; n = suc c.n; steps = suc c.steps; state = t })

  -- a step of the older instruction: its next beat, or the whole of one that is no vector row
  abbrev pub older : Config S → Result (Config S) (End S E B)
  older c = older_of (M.code (M.rows.view.pc c.state)) c

  -- the end of a younger beat that stops: the rule that it breaks, if there is one
  abbrev pub fault_end : Option B → Config S → E → End S E B
  fault_end (Some b) c e = Broken c b
  fault_end None c e = Stopped c e

  -- what a beat of the younger came to: one beat more of it is done, or why it does not go on
  abbrev pub did : Config S → Result S E → Result (Config S) (End S E B)
  did c (Ok t) = Ok (record { a = c.a; b = suc c.b; n = c.n; steps = c.steps; state = t })
  did c (Err e) = Err (fault_end (M.fault_rule e) c e)

  -- what the younger does under the rule that it breaks, if there is one; the law of lawful steps excludes the last line
  abbrev pub younger_of : Option B → Option I → Config S → Result (Config S) (End S E B)
  younger_of (Some b) o c = Err (Broken c b)
  younger_of None (Some j) c = did c ((M.rows.act j c.b).run c.state)
  younger_of None None c = Ok c

  -- a step of the younger instruction: its next beat, where no rule forbids it
  abbrev pub younger : Config S → Result (Config S) (End S E B)
  younger c = younger_of (M.rule (M.code (M.rows.view.pc c.state)) (M.code (M.rows.view.pc c.state + 4)) c) (M.code (M.rows.view.pc c.state + 4)) c

  -- an interrupt from its entry to its return, which leaves this state
  abbrev pub interrupted : Config S → S → Config S
  interrupted c t = record { a = c.a; b = c.b; n = c.n; steps = c.steps; state = t }

  -- It restores the program counter, and what it leaves changed is dead.
  abbrev pub Restores : S → S → Type 0
  Restores s t = Live M.rows.view t s × (M.rows.view.pc t ≡ M.rows.view.pc s)

  -- n instructions in order end in a state that agrees with s where s is not dead
  pub record InOrder (first : S) (n : ℕ) (s : S) : Type 0 where
    pub state : S
    pub runs : seq n first ≡ Ok state
    pub live : Live M.rows.view s state
    pub pc : M.rows.view.pc s ≡ M.rows.view.pc state

  -- the next instruction after n in order stops so
  pub record StopsInOrder (first : S) (n : ℕ) (w : W) : Type 0 where
    pub state : S
    pub runs : seq n first ≡ Ok state
    pub stop : next state ≡ Err w

  -- A younger step may go: there are two rows, the older has at least two beats and the younger at most one, it may run
  -- here, and its next beat meets none of the beats that the older has left.
  pub record Lawful (o p : Option I) (c : Config S) : Type 0 where
    pub older : I
    pub younger : I
    pub here : o ≡ Some older
    pub there : p ≡ Some younger
    pub late : 2 ≤ c.a
    pub few : c.b < 2
    pub ready : M.rows.ready younger c.state ≡ true
    pub apart : (k : ℕ) → c.a ≤ k → k < 4 → Apart (M.rows.act older k) (M.rows.act younger c.b) c.state

  -- What is asked of the program.
  pub record CoreLaws : Type 0 where
    pub rows : BeatLaws M.rows
    -- four beats are the whole, in a state without taint
    pub whole : (i : I) (s : S) → Clean s → AlikeAs M.stop_of (Same M.rows.view) (then (M.start i s) (beats M.rows i 0 4)) (M.whole i s)
    pub whole_pc : (i : I) (s t : S) → M.whole i s ≡ Ok t → M.rows.view.pc t ≡ M.rows.view.pc s + 4
    pub clean : (s t : S) → Clean s → next s ≡ Ok t → Clean t
    pub start_ready : (i : I) (s t : S) → M.start i s ≡ Ok t → M.rows.ready i t ≡ true
    pub start_pc : (i : I) (s t : S) → M.start i s ≡ Ok t → M.rows.view.pc t ≡ M.rows.view.pc s
    pub made_pc : (s : S) → M.rows.view.pc (M.made s) ≡ M.rows.view.pc s
    pub started : (i : I) (s : S) → M.rows.ready i s ≡ true → M.start i s ≡ Ok s
    -- at one program counter a row begins alike, whatever the dead cells hold
    pub start_live : (i : I) (s t : S) → Live M.rows.view s t → M.rows.view.pc s ≡ M.rows.view.pc t → Alike (Live M.rows.view) (M.start i s) (M.start i t)
    pub jump_pc : (p : ℕ) (s : S) → M.rows.view.pc (M.jump p s) ≡ p
    pub jump_same : (p : ℕ) (s : S) → Same M.rows.view (M.jump p s) s
    -- from a state with dead cells an instruction that is no vector row stops as tainted, or does what it does alone
    pub other_live : (s t : S) → Live M.rows.view s t → M.rows.view.pc s ≡ M.rows.view.pc t → M.code (M.rows.view.pc t) ≡ None → Clean t
        → StopsBy M.rows.tainted (M.other s) ⊎ AlikeAs M.stop_of (λ u v. Live M.rows.view u v × (M.rows.view.pc u ≡ M.rows.view.pc v)) (M.other s) (M.alone t)
    -- a whole instruction reads no dead cell
    pub untainted : (w : W) → M.rows.tainted (M.stop_of w) ≡ false
    -- what the rules let through
    pub lawful : (o p : Option I) (c : Config S) → M.rule o p c ≡ None → Lawful o p c
    pub faults : (e : E) → M.fault_rule e ≡ None → M.rows.tainted e ≡ true
