-- The composition of histories: what an object answers call by call, it answers as one list of calls.
use Rattle.std.proofs.Common.{◌≡◌, List, [], ◌∷◌, ◌++◌, sym, subst, append_assoc}
use Rattle.std.proofs.lemmas.List.{append-nil}
use Rattle.pico_board.specs.Files.{StoreState, Access, ServesAll}
use Rattle.pico_board.specs.Puts.{SinkState, Put, TakesAll}
use Rattle.pico_board.specs.Histories.{Extends}

module _ {S X : Type 0} (history : S → List X → Type 0) where
  -- no call
  pub Extends-none : (old new : S) → new ≡ old → Extends history old [] new
  Extends-none old new same h held =
      subst (λ s. history s (h ++ [])) (sym same) (subst (history old) (sym (append-nil h)) held)

  -- a call, and then others
  pub Extends-more : (old mid new : S) (x : X) (xs : List X) → Extends history old (x ∷ []) mid
      → Extends history mid xs new → Extends history old (x ∷ xs) new
  Extends-more old mid new x xs first rest h held =
      subst (history new) (append_assoc h (x ∷ []) xs) (rest (h ++ x ∷ []) (first h held))

-- a store that answers these calls goes on with them
pub ServesAll-extends : {S : Type 0} (state : S → StoreState) (history : S → List Access → Type 0) (old new : S)
    (calls : List Access)
    → ServesAll state history old calls new → Extends history old calls new
ServesAll-extends state history old new [] same = Extends-none history old new same
ServesAll-extends state history old new (call ∷ calls) (mid, first, rest) =
    Extends-more history old mid new call calls first.recorded (ServesAll-extends state history mid new calls rest)

-- a sink that takes these puts goes on with them
pub TakesAll-extends : {K : Type 0} (state : K → SinkState) (history : K → List Put → Type 0) (old new : K)
    (puts : List Put)
    → TakesAll state history old puts new → Extends history old puts new
TakesAll-extends state history old new [] same = Extends-none history old new same
TakesAll-extends state history old new (put ∷ puts) (mid, first, rest) =
    Extends-more history old mid new put puts first.recorded (TakesAll-extends state history mid new puts rest)
