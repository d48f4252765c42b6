-- The walks over a mask visit each of its fourteen edges once: as many as it has ones, at most fourteen. Assumes nothing.
use Rattle.std.proofs.Common.{◌≡◌, ℕ, zero, suc, ◌^◌, ◌<◌, ◌≤◌, List, sym, ◌∙◌, arith}
use lib.Bits.{mask_lt}
use lib.Count.{ones_in}
use Rattle.laws.specs.Lists.{total}
use Rattle.laws.proofs.Digits.{ones_le, ones_low, ones_zero}
use Rattle.topology.specs.Walk.{fourteen, Walked, first, walks_in, walks, visits}
use Rattle.topology.proofs.Walk.{ones_some, first_end_lem, first-visits, rest-less}

-- the visits of some walks
abbrev pub taken : List Walked → ℕ
taken ws = total (λ w. w.visits) ws

in_ones : (n m : ℕ) → m < 2 ^ 14 → ones_in 14 m ≤ n → taken (walks_in n m) ≡ ones_in 14 m
unfolding total walks_in
in_ones zero zero h l = sym (ones_zero 14)
in_ones zero (suc m) h l = absurd (omega (arith, ones_some (suc m) (omega arith) h))
in_ones (suc n) zero h l = sym (ones_zero 14)
in_ones (suc n) (suc m) h l =
    let some : 0 < suc m = omega arith in
    omega (arith, first-visits (suc m) some h, in_ones n (first (suc m)).rest (first_end_lem (suc m) some h).rem_short (omega (arith, rest-less (suc m) some h)))

pub visits_ones : (m : ℕ) → visits m ≡ ones_in 14 m
unfolding visits walks
visits_ones m = in_ones 14 (fourteen m) (mask_lt m 14) (ones_le 14 (fourteen m)) ∙ ones_low 14 m

pub visits-most : (m : ℕ) → visits m ≤ 14
visits-most m = omega (arith, visits_ones m, ones_le 14 m)
