use Rattle.std.proofs.Common.{rules, refl, ◌≡◌, ◌⊎◌, inl, inr, ℤ, pos, ◌≤ℤ◌, ◌<ℤ◌, ◌+ℤ◌, ◌-ℤ◌, FitsSigned, w64, to_z, of_z, true, false, arith}
use Rattle.std.proofs.Common.{subst, sym, ap, ◌∙◌}
use Rattle.std.specs.Prelude.{nat_abs}
use Rattle.std.proofs.lemmas.Int.{ints, to_z-of_z}
use Rattle.hm_lane.specs.declared.lanes.Size.{Size}
use Rattle.hm_lane_fns.specs.declared.functions.LaneFn.{LaneFn}
use Rattle.hm_lane_fns.specs.declared.functions.LaneFn.TheVariants as fn
use Rattle.hm_lane_fns.specs.LaneFns.{StandsFor, exact, halved, lane_value, shifted, shifted_rounded, shift_count, shifts}
use Rattle.hm_lane_fns.proofs.Shifts.{by_count}
use Rattle.hm_lane_fns.proofs.functions.exact_value.Goals as goal

-- the sum of two numbers of lanes and 1 is passed on as it is
sum_passed : (x y : ℤ) → (pos 0 -ℤ pos 2147483648) ≤ℤ x → (pos 0 -ℤ pos 2147483648) ≤ℤ y → x <ℤ pos 4294967296 → y <ℤ pos 4294967296
    → to_z w64 (of_z w64 (to_z w64 (of_z w64 (to_z w64 (of_z w64 x) +ℤ to_z w64 (of_z w64 y))) +ℤ pos 1)) ≡ x +ℤ y +ℤ pos 1
sum_passed x y h k l m = omega (arith, ints)

-- and so is the difference of two
difference_passed : (x y : ℤ) → (pos 0 -ℤ pos 2147483648) ≤ℤ x → (pos 0 -ℤ pos 2147483648) ≤ℤ y → x <ℤ pos 4294967296 → y <ℤ pos 4294967296
    → to_z w64 (of_z w64 (to_z w64 (of_z w64 x) -ℤ to_z w64 (of_z w64 y))) ≡ x -ℤ y
difference_passed x y h k l m = omega (arith, ints)

pub returns-in-Abd-clause-value : goal.returns-in-Abd-clause-value
returns-in-Abd-clause-value c =
    let fits : FitsSigned w64 c.abs.result = search rules in
    let difference = difference_passed c.args.a c.args.b c.requires.a_low c.requires.b_low c.requires.a_high c.requires.b_high in
    rw c.in-Abd.is (λ s. to_z-of_z w64 c.abs.result fits ∙ c.abs.ensures.value ∙ ap (λ v. pos (nat_abs v)) difference)

pub returns-in-Rhadd-clause-value : goal.returns-in-Rhadd-clause-value
returns-in-Rhadd-clause-value c =
    let fits : FitsSigned w64 c.halved-in-Rhadd.result = search rules in
    let sum = sum_passed c.args.a c.args.b c.requires.a_low c.requires.b_low c.requires.a_high c.requires.b_high in
    rw c.in-Rhadd.is (λ s. to_z-of_z w64 c.halved-in-Rhadd.result fits ∙ c.halved-in-Rhadd.ensures ∙ ap halved sum)

pub returns-in-Hsub-clause-value : goal.returns-in-Hsub-clause-value
returns-in-Hsub-clause-value c =
    let fits : FitsSigned w64 c.halved-in-Hsub.result = search rules in
    let difference = difference_passed c.args.a c.args.b c.requires.a_low c.requires.b_low c.requires.a_high c.requires.b_high in
    rw c.in-Hsub.is (λ s. to_z-of_z w64 c.halved-in-Hsub.result fits ∙ c.halved-in-Hsub.ensures ∙ ap halved difference)

-- one of two functions that do not shift does not shift
one_of : (f g h : LaneFn) → f ≡ g ⊎ f ≡ h → shifts g ≡ false → shifts h ≡ false → shifts f ≡ false
one_of f g h (inl e) k l = ap shifts e ∙ k
one_of f g h (inr e) k l = ap shifts e ∙ l

pub returns-in-Add-clause-stand_in : goal.returns-in-Add-clause-stand_in
returns-in-Add-clause-stand_in c = λ u s.
    let none : shifts c.args.f ≡ false = one_of c.args.f fn.Add fn.Qadd c.in-Add.is refl refl in
    absurd (cc)

pub returns-in-Sub-clause-stand_in : goal.returns-in-Sub-clause-stand_in
returns-in-Sub-clause-stand_in c = λ u s.
    let none : shifts c.args.f ≡ false = one_of c.args.f fn.Sub fn.Qsub c.in-Sub.is refl refl in
    absurd (cc)

-- the shifts that round down
shifts_down : (f : LaneFn) (z : Size) (c a b : ℤ) → f ≡ fn.Shl ⊎ f ≡ fn.Qshl ⊎ f ≡ fn.Qshlu → shifted a (shift_count b) ≡ exact f z c a b
shifts_down f z c a b (inl e) = sym (λ j. exact (e j) z c a b)
shifts_down f z c a b (inr (inl e)) = sym (λ j. exact (e j) z c a b)
shifts_down f z c a b (inr (inr e)) = sym (λ j. exact (e j) z c a b)

-- and those that round to the nearest
shifts_nearest : (f : LaneFn) (z : Size) (c a b : ℤ) → f ≡ fn.Rshl ⊎ f ≡ fn.Qrshl → shifted_rounded a (shift_count b) ≡ exact f z c a b
shifts_nearest f z c a b (inl e) = sym (λ j. exact (e j) z c a b)
shifts_nearest f z c a b (inr e) = sym (λ j. exact (e j) z c a b)

pub returns-in-Shl-clause-stand_in : goal.returns-in-Shl-clause-stand_in
returns-in-Shl-clause-stand_in c =
    let count : FitsSigned w64 c.shift_count.result = search rules in
    let fits : FitsSigned w64 c.shifted.result = search rules in
    λ u s. subst (λ v. StandsFor u c.args.z (to_z w64 (of_z w64 c.shifted.result)) v)
    (shifts_down c.args.f c.args.z (lane_value c.args.u c.args.z c.args.o) c.args.a c.args.b c.in-Shl.is)
    (by_count shifted u c.args.z c.shifted.result c.args.a c.args.b c.shift_count.result fits c.ranges.a c.ranges.b count c.shift_count.ensures.value
    (c.shifted.ensures u c.args.z))

pub returns-in-Rshl-clause-stand_in : goal.returns-in-Rshl-clause-stand_in
returns-in-Rshl-clause-stand_in c =
    let count : FitsSigned w64 c.shift_count-in-Rshl.result = search rules in
    let fits : FitsSigned w64 c.shifted_rounded.result = search rules in
    λ u s. subst (λ v. StandsFor u c.args.z (to_z w64 (of_z w64 c.shifted_rounded.result)) v)
    (shifts_nearest c.args.f c.args.z (lane_value c.args.u c.args.z c.args.o) c.args.a c.args.b c.in-Rshl.is)
    (by_count shifted_rounded u c.args.z c.shifted_rounded.result c.args.a c.args.b c.shift_count-in-Rshl.result fits c.ranges.a c.ranges.b count
    c.shift_count-in-Rshl.ensures.value (c.shifted_rounded.ensures u c.args.z))

-- a function that is none of these, and does not shift, makes no number
not_made : (f : LaneFn) (z : Size) (c a b : ℤ) → shifts f ≡ false
    → (f ≡ fn.Add → ⊥) → (f ≡ fn.Sub → ⊥) → (f ≡ fn.Mul → ⊥) → (f ≡ fn.Max → ⊥) → (f ≡ fn.Min → ⊥) → (f ≡ fn.Abd → ⊥) → (f ≡ fn.Hadd → ⊥)
    → (f ≡ fn.Rhadd → ⊥) → (f ≡ fn.Hsub → ⊥) → (f ≡ fn.Qadd → ⊥) → (f ≡ fn.Qsub → ⊥) → (f ≡ fn.Qdmulh → ⊥) → (f ≡ fn.Qrdmulh → ⊥) → (f ≡ fn.Mla → ⊥)
    → (f ≡ fn.Mlas → ⊥) → (f ≡ fn.High → ⊥) → (f ≡ fn.RoundHigh → ⊥) → (f ≡ fn.Abs → ⊥) → (f ≡ fn.Neg → ⊥) → (f ≡ fn.Qabs → ⊥) → (f ≡ fn.Qneg → ⊥)
    → (f ≡ fn.Dup → ⊥)
    → pos 0 ≡ exact f z c a b
not_made f z c a b h n0 n1 n2 n3 n4 n5 n6 n7 n8 n9 n10 n11 n12 n13 n14 n15 n16 n17 n18 n19 n20 n21 = grind arith

pub returns-in_default-clause-value : goal.returns-in_default-clause-value
returns-in_default-clause-value c = λ s.
    let n = c.in_default in
    not_made c.args.f c.args.z (lane_value c.args.u c.args.z c.args.o) c.args.a c.args.b s
    n.not-Add n.not-Sub n.not-Mul n.not-Max n.not-Min n.not-Abd n.not-Hadd n.not-Rhadd n.not-Hsub n.not-Qadd n.not-Qsub n.not-Qdmulh n.not-Qrdmulh
    n.not-Mla n.not-Mlas n.not-High n.not-RoundHigh n.not-Abs n.not-Neg n.not-Qabs n.not-Qneg n.not-Dup

-- and one that is none of these does not shift
not_shifted : (f : LaneFn) → (f ≡ fn.Shl → ⊥) → (f ≡ fn.Rshl → ⊥) → (f ≡ fn.Qshl → ⊥) → (f ≡ fn.Qshlu → ⊥) → (f ≡ fn.Qrshl → ⊥) → shifts f ≡ true → ⊥
not_shifted f a b c d e h = grind arith

pub returns-in_default-clause-stand_in : goal.returns-in_default-clause-stand_in
returns-in_default-clause-stand_in c = λ u s.
    let n = c.in_default in absurd (not_shifted c.args.f n.not-Shl n.not-Rshl n.not-Qshl n.not-Qshlu n.not-Qrshl s)
