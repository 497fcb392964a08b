use Rattle.std.proofs.Common.{◌≡◌, ℕ, ◌+◌, ◌≤◌, max, arith, refl, inl, inr}
use Rattle.std.specs.Prelude.{◌⊎◌}
use Rattle.std.proofs.lemmas.Bool.{cases_lt}
use Rattle.otp_roll.specs.Rows.{AreRowsApart, IsOutside}
use Rattle.otp_roll.proofs.laws.a_triple_has_three_rows.Goals as goal

outside-below : (i r s : ℕ) → r + 3 ≤ s → IsOutside i r ⊎ IsOutside i s
outside-below i r s below = elim (cases_lt i s) [ inl before ↦ inr (inl before) | inr from ↦ inl (inr (omega arith)) ]

outside-apart : (r s : ℕ) → AreRowsApart r s → (i : ℕ) → IsOutside i r ⊎ IsOutside i s
outside-apart r s (inl below) i = outside-below i r s below
outside-apart r s (inr above) i = elim (outside-below i s r above) [ inl one ↦ inr one | inr other ↦ inl other ]

apart-from : (r s i : ℕ) → i ≡ max r s → IsOutside i r ⊎ IsOutside i s → AreRowsApart r s
apart-from r s i is (inl (inl below)) = absurd (omega arith)
apart-from r s i is (inl (inr past)) = inl (omega arith)
apart-from r s i is (inr (inl below)) = absurd (omega arith)
apart-from r s i is (inr (inr past)) = inr (omega arith)

pub returns-clause-apart : goal.returns-clause-apart
returns-clause-apart c = λ r s. (outside-apart r s, λ none. apart-from r s (max r s) refl (none (max r s)))
