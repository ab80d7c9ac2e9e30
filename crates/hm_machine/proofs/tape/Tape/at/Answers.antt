use Rattle.std.proofs.Common.{◌≡◌, ℕ, List, ap, arith, map, refl, sym, ◌∙◌, subst}
use Rattle.hm_run_laws.proofs.Outputs.{begins_same}
use Rattle.hm_machine.proofs.Reels.{first_still, kept_still, lie_first, lie_still, shows_first}
use Rattle.hm_machine.specs.Shown.{Shown, Shows, fixed_of}
use Rattle.hm_machine.specs.Taped.{Taped}
use Rattle.hm_machine.specs.Tapes.{AreApart, AreKept, first_of, machine_at}
use Rattle.hm_machine.proofs.tape.Tape.at.Goals as goal

pub bring-requires-clause-kept : goal.bring-requires-clause-kept
bring-requires-clause-kept c =
    let w = c.self.inside in
    subst (λ (o : List ℕ). AreKept (fixed_of w.machine) o w.kept.items) (sym c.deref.ensures.value) c.self.invariant.kept

pub invariant_of-self-2 : goal.invariant_of-self-2
invariant_of-self-2 c =
    let w = c.self.inside in
    let m = c.bring.new.machine in
    let o = w.output.items in
    let f = fixed_of w.machine in
    let same = c.bring.ensures.fixed in
    let held = c.self.invariant in
    let lent = subst (λ (x : List ℕ). AreApart (first_of w.kept.items o w.machine) (fixed_of w.machine) x w.apart w.kept.items) (sym c.deref.ensures.value)
    held.lie in
    let first = first_still f (fixed_of m) o o same (begins_same o) w.kept.items w.machine m refl refl held.some held.kept in
    record {
      apart = held.apart;
      most = held.most;
      some = held.some;
      kept = kept_still f (fixed_of m) o o same (begins_same o) w.kept.items held.kept;
      lie = lie_first _ _ (fixed_of m) o w.apart w.kept.items first
          (lie_still f (fixed_of m) o o same (begins_same o) _ w.apart w.kept.items held.kept held.lie);
      shows = shows_first _ _ c.args.tick m first (c.bring.ensures.shows _ lent held.shows);
    }

pub returns : goal.returns
returns c =
    let w = c.self.inside in
    let m = c.bring.new.machine in
    let o = w.output.items in
    let held = c.self.invariant in
    let lent = subst (λ (x : List ℕ). AreApart (first_of w.kept.items o w.machine) (fixed_of w.machine) x w.apart w.kept.items) (sym c.deref.ensures.value)
    held.lie in
    let first = first_still (fixed_of w.machine) (fixed_of m) o o c.bring.ensures.fixed (begins_same o) w.kept.items w.machine m refl refl held.some
    held.kept in
    let last : w.last ≡ c.args.self.now.last = ap (λ (v : Taped). v.last) c.self.view_is in
    let begun = c.if-tick-self.false in (
      (
        refl,
        λ _. tt,
        (λ j. record { start = first j; last = w.last; checkpoints = map (machine_at (c.bring.ensures.fixed j) o) w.kept.items; apart = w.apart })
            ∙ c.self.view_is,
      ),
      record {
        stays = tt;
        shows = λ image s tapes.
            c.bring.ensures.shows _ lent held.shows image s
            (subst (λ (v : Shown). Shows image s 0 v) (sym (ap (λ (v : Taped). v.start) c.self.view_is)) tapes.start);
        begun = omega (arith, last, begun);
        past = tt;
      },
    )
