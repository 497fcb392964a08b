use Rattle.std.proofs.Common.{◌≡◌, ◌⊎◌, ℕ, ◌==◌, ◌||◌, true, arith}
use Rattle.std.proofs.lemmas.Bool.Decides.{nat_tests}
use Rattle.text_lines.proofs.laws.commands_that_are_answered_with_bytes.Goals as goal

to-words : (id : ℕ) → (id == 0x84 || (id == 0x8b || id == 0x8c)) ≡ true → (id ≡ 0x84) ⊎ (id ≡ 0x8b) ⊎ (id ≡ 0x8c)
to-words id e = grind (arith, nat_tests)

from-words : (id : ℕ) → (id ≡ 0x84) ⊎ (id ≡ 0x8b) ⊎ (id ≡ 0x8c) → (id == 0x84 || (id == 0x8b || id == 0x8c)) ≡ true
from-words id is = grind (arith, nat_tests)

pub returns : goal.returns
returns c = λ id. (to-words id, from-words id)
