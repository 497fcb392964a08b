-- Calls one after another keep what each of them keeps, and a sector that is lent and given back disturbs no other.
use Rattle.std.proofs.Common.{◌≡◌, ℕ, true, false, List, refl, ◌∙◌, ap, subst}
use Rattle.std.specs.Prelude.{Some, slice_get, slice_set}
use Rattle.sector_pool.specs.Pool.{Pool, erased, leased, pool_with_sector, returned}
use Rattle.sector_pool.specs.Keeping.{KeepsOut, KeepsOutBut}
use Rattle.sector_pool.proofs.PlaceLemmas.{slice_get-set_other, set_back, is_other}

pub KeepsOut-refl : (pool : Pool) → KeepsOut pool pool
KeepsOut-refl pool = record { same = refl; kept = λ j was_out. refl }

pub KeepsOut-trans : {a b c : Pool} → KeepsOut a b → KeepsOut b c → KeepsOut a c
KeepsOut-trans first then = record {
  same = then.same ∙ first.same;
  kept = λ j was_out. then.kept j (ap (λ out. slice_get out j) first.same ∙ was_out) ∙ first.kept j was_out;
}

pub KeepsOutBut-refl : (k : ℕ) (pool : Pool) → KeepsOutBut k pool pool
KeepsOutBut-refl k pool = record { same = refl; kept = λ j other was_out. refl }

pub KeepsOutBut-trans : {k : ℕ} {a b c : Pool} → KeepsOutBut k a b → KeepsOutBut k b c → KeepsOutBut k a c
KeepsOutBut-trans first then = record {
  same = then.same ∙ first.same;
  kept = λ j other was_out. then.kept j other (ap (λ out. slice_get out j) first.same ∙ was_out)
      ∙ first.kept j other was_out;
}

-- what keeps every sector that is out keeps all but one of them
pub KeepsOutBut-KeepsOut : (k : ℕ) {a b : Pool} → KeepsOut a b → KeepsOutBut k a b
KeepsOutBut-KeepsOut k keeps = record { same = keeps.same; kept = λ j other was_out. keeps.kept j was_out }

-- a write to sector k
pub KeepsOutBut-written : (pool : Pool) (k : ℕ) (bytes : List ℕ) → KeepsOutBut k pool (pool_with_sector pool k bytes)
KeepsOutBut-written pool k bytes = record {
  same = refl;
  kept = λ j other was_out. slice_get-set_other pool.sectors k j bytes other;
}

-- a free sector that is lent, written while it is out, and given back
pub KeepsOut-lent : (old new : Pool) (k : ℕ) → slice_get old.out k ≡ Some false → KeepsOutBut k (leased old k) new
    → KeepsOut old (returned new k)
KeepsOut-lent old new k was_free keeps = record {
  same = ap (λ out. slice_set out k false) keeps.same ∙ set_back old.out k false true was_free;
  kept = λ j was_out. let other = is_other old.out j k was_out was_free in
      keeps.kept j other (slice_get-set_other old.out k j true other ∙ was_out)
      ∙ slice_get-set_other old.sectors k j erased other;
}

-- what was out is out, in the words of the calls' clauses, for a caller that leases, works on what it was lent and
-- gives it back
pub KeepsOut-call : (old lent used new : Pool) (k : ℕ) → slice_get old.out k ≡ Some false → lent ≡ leased old k
    → KeepsOutBut k lent used → new ≡ returned used k → KeepsOut old new
KeepsOut-call old lent used new k was_free is_lent keeps is_returned =
    rw is_returned (KeepsOut-lent old used k was_free (subst (λ pool. KeepsOutBut k pool used) is_lent keeps))
