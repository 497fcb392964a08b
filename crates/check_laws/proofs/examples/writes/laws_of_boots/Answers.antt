use Rattle.std.proofs.Common.{◌≡◌, ◌≢◌, [], ◌∷◌}
use Rattle.std.proofs.lemmas.List.Elements.{All-from_recursion}
use Rattle.check_laws.specs.OwnLaws.{BootMade, IsBootKept}
use Rattle.check_laws.proofs.WriteLawLemmas.{any-here, any-there}
use Rattle.check_laws.proofs.examples.writes.laws_of_boots.Goals as goal

pub returns-clause-none : goal.returns-clause-none
returns-clause-none c = λ cpu. All-from_recursion (λ (b : BootMade). b.done ≡ []) [] tt

pub returns-clause-idle : goal.returns-clause-idle
returns-clause-idle c = λ cpu b none. All-from_recursion (λ (b : BootMade). b.done ≡ []) (b ∷ []) (none, tt)

pub returns-clause-kept : goal.returns-clause-kept
returns-clause-kept c = λ cpu idle b none some kept. (
  any-there (λ (b : BootMade). b.done ≢ []) idle (b ∷ []) (any-here (λ (b : BootMade). b.done ≢ []) b [] some),
  All-from_recursion (λ (b : BootMade). b.done ≢ [] → IsBootKept cpu b) (idle ∷ b ∷ [])
      (λ does. absurd (does none), (λ does. kept, tt)),
)

pub returns-clause-open : goal.returns-clause-open
returns-clause-open c = λ cpu first b one some lacks.
    any-there (λ (b : BootMade). (b.done ≢ []) × (IsBootKept cpu b → ⊥)) first (b ∷ [])
    (any-here (λ (b : BootMade). (b.done ≢ []) × (IsBootKept cpu b → ⊥)) b [] (some, lacks))
