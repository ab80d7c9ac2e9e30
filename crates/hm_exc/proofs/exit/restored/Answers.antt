use Rattle.std.proofs.Common.{◌≡◌, ℕ, ◌+◌, ◌*◌, ◌/◌, ◌%◌, ◌^◌, ◌<◌, arith, ap, ◌∙◌}
use Rattle.std.specs.Prelude.{if◌then◌else◌}
use Rattle.hm_exc.specs.Entry.{window_in}
use Rattle.hm_exc.specs.Frame.{is_between, xpsr}
use Rattle.hm_exc.proofs.Psr.{psr-n, psr-z, psr-c, psr-v, psr-q, psr-aligned, psr-number, psr-block}
use Rattle.hm_exc.proofs.Stacked.{flag_back}
use Rattle.hm_exc.proofs.Words.{word-lr, word-pc, word-psr}
use Rattle.hm_exc.proofs.exit.restored.Goals as goal

pub stack_above-requires-clause-aligned : goal.stack_above-requires-clause-aligned
stack_above-requires-clause-aligned c =
    let x = c.args.x.now in
    let w = window_in x in
    let it : x.regs.it < 256 = omega arith in
    ap (λ (p : ℕ). p / 2 ^ 9 % 2) (c.requires.psr ∙ word-psr x.regs w) ∙ psr-aligned x.regs w c.requires.fits.enters it

pub returns : goal.returns
returns c =
    let x = c.args.x.now in
    let w = window_in x in
    let it : x.regs.it < 256 = omega arith in
    let k = c.requires.fits.enters in
    let p : c.args.psr ≡ xpsr x.regs w = c.requires.psr ∙ word-psr x.regs w in
    let at = c.requires.position in
    let lr = c.stacked.ensures.value ∙ word-lr x.regs w in
    let pc = c.stacked-2.ensures.value ∙ word-pc x.regs w in
    let n = flag_back c.is_set.result c.args.psr (xpsr x.regs w) 31 x.regs.n c.is_set.ensures.value p (psr-n x.regs w k it) in
    let z = flag_back c.is_set-2.result c.args.psr (xpsr x.regs w) 30 x.regs.z c.is_set-2.ensures.value p (psr-z x.regs w k it) in
    let y = flag_back c.is_set-3.result c.args.psr (xpsr x.regs w) 29 x.regs.c c.is_set-3.ensures.value p (psr-c x.regs w k it) in
    let v = flag_back c.is_set-4.result c.args.psr (xpsr x.regs w) 28 x.regs.v c.is_set-4.ensures.value p (psr-v x.regs w k it) in
    let q = flag_back c.is_set-5.result c.args.psr (xpsr x.regs w) 27 x.regs.q c.is_set-5.ensures.value p (psr-q x.regs w k it) in
    let block = c.psr_block.ensures.value ∙ (λ i. if is_between (at i) then p i / 2 ^ 25 % 4 + 4 * (p i / 2 ^ 10 % 64) else 0) ∙ psr-block x.regs w k it in
    let number = ap (λ (u : ℕ). u % 512) p ∙ psr-number x.regs w k it in
    record {
      value = λ i. record {
        r = c.core_registers.ensures.value i;
        sp = c.stack_above.ensures.value i;
        other = c.other_pointer.ensures.value i;
        lr = lr i;
        pc = pc i;
        n = n i;
        z = z i;
        c = y i;
        v = v i;
        q = q i;
        it = block i;
        fpscr = c.fpscr.ensures.value i;
        vpr = c.vpr.ensures.value i;
        qw = c.vectors.ensures.value i;
        fpca = c.requires.fits.form i;
        primask = c.requires.same.1.primask i;
        spsel = c.requires.selected i;
        basepri = c.requires.same.1.basepri i;
        ipsr = number i;
      };
    }

pub core_registers-requires-clause-frame : goal.core_registers-requires-clause-frame
core_registers-requires-clause-frame c = c.requires.same.1.frame

pub stacked-requires-clause-frame : goal.stacked-requires-clause-frame
stacked-requires-clause-frame c = c.requires.same.1.frame

pub stacked-requires-2-clause-frame : goal.stacked-requires-2-clause-frame
stacked-requires-2-clause-frame c = c.requires.same.1.frame

pub fpscr-requires-clause-frame : goal.fpscr-requires-clause-frame
fpscr-requires-clause-frame c = c.requires.same.1.frame

pub vpr-requires-clause-frame : goal.vpr-requires-clause-frame
vpr-requires-clause-frame c = c.requires.same.1.frame

pub vectors-requires-clause-frame : goal.vectors-requires-clause-frame
vectors-requires-clause-frame c = c.requires.same.1.frame
