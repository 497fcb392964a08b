-- What an info command asks for, by the first of its checks that fails.
use Rattle.std.proofs.Common.{◌≡◌, ◌≢◌, ℕ, Bool, true, false, List, [], ◌∷◌, Ok, Err, Some, None, refl, sym, ap}
use Rattle.std.specs.Prelude.{Option, is_some}
use Rattle.picoboot_cmd.specs.Checks.{Check, check, first_failing}
use Rattle.picoboot_cmd.specs.declared.kinds.TheConstants.{COMMAND_LENGTH, INVALID_ARGUMENT, TRANSFER_LENGTH}
use Rattle.info_reply.specs.declared.ask.Ask.{Ask}
use Rattle.info_reply.specs.Asks.{asked_or}

-- the status of the three checks of a command, and of others behind them
abbrev pub chain : Bool → Bool → Option Ask → List Check → ℕ
chain a b o rest =
    first_failing
    (check COMMAND_LENGTH a ∷ check TRANSFER_LENGTH b ∷ check INVALID_ARGUMENT (is_some o) ∷ rest)

pub refused : (a b : Bool) (o : Option Ask) (f : Option Ask → List Check) (status : ℕ)
    → asked_or o (chain a b o []) ≡ Err status → chain a b o (f o) ≡ status
refused true true None f status e = cc
refused true true (Some ask) f status e = cc
refused true false None f status e = cc
refused true false (Some ask) f status e = cc
refused false b None f status e = cc
refused false b (Some ask) f status e = cc

pub asks : (a b : Bool) (o : Option Ask) (f : Option Ask → List Check) (ask : Ask)
    → asked_or o (chain a b o []) ≡ Ok ask → chain a b o (f o) ≡ first_failing (f (Some ask))
asks true true None f ask e = cc
asks true true (Some other) f ask e =
    let same : other ≡ ask = cc in ap (λ x. first_failing (f (Some x))) same
asks true false None f ask e = cc
asks true false (Some other) f ask e = cc
asks false b None f ask e = cc
asks false b (Some other) f ask e = cc

pub ok-parts : (a b : Bool) (o : Option Ask) (ask : Ask) → asked_or o (chain a b o []) ≡ Ok ask
    → (chain a b o [] ≡ 0) × (o ≡ Some ask)
ok-parts true true None ask e = cc
ok-parts true true (Some other) ask e = let same : other ≡ ask = cc in (refl, ap Some same)
ok-parts true false None ask e = cc
ok-parts true false (Some other) ask e = cc
ok-parts false b None ask e = cc
ok-parts false b (Some other) ask e = cc

pub ok-from : (a b : Bool) (o : Option Ask) (ask : Ask) → (chain a b o [] ≡ 0) × (o ≡ Some ask)
    → asked_or o (chain a b o []) ≡ Ok ask
ok-from true true None ask parts = absurd (let e = parts.0 in cc)
ok-from true true (Some other) ask parts = let e = parts.1 in cc
ok-from true false o ask parts = absurd (let e = parts.0 in cc)
ok-from false b o ask parts = absurd (let e = parts.0 in cc)

pub err-parts : (a b : Bool) (o : Option Ask) (status : ℕ) → asked_or o (chain a b o []) ≡ Err status
    → (status ≢ 0) × (chain a b o [] ≡ status)
err-parts a b o status e = (λ none. some a b o status e none, refused a b o (λ x. []) status e)
  where
    some : (a b : Bool) (o : Option Ask) (status : ℕ) → asked_or o (chain a b o []) ≡ Err status → status ≡ 0 → ⊥
    some true true None status e none = cc
    some true true (Some ask) status e none = cc
    some true false None status e none = cc
    some true false (Some ask) status e none = cc
    some false b None status e none = cc
    some false b (Some ask) status e none = cc

pub err-from : (a b : Bool) (o : Option Ask) (status : ℕ) → status ≢ 0 → chain a b o [] ≡ status
    → asked_or o (chain a b o []) ≡ Err status
err-from true true None status ne e = ap Err e
err-from true true (Some ask) status ne e = absurd (ne (sym e))
err-from true false None status ne e = ap Err e
err-from true false (Some ask) status ne e = ap Err e
err-from false b None status ne e = ap Err e
err-from false b (Some ask) status ne e = ap Err e
