-- What a caller that holds a lease over several calls hands over: it leases, gives back, or writes through what it has.
use Rattle.std.proofs.Common.{◌≡◌, ◌≢◌, ◌⊎◌, ℕ, Bool, true, false, nat_eq, Option, None, Some, arith, refl, sym, ◌∙◌, ap, subst, inl, inr}
use Rattle.std.specs.Prelude.{slice_get}
use Rattle.std.proofs.lemmas.Bool.Decides.{Decides-eqb, nat_tests}
use Rattle.sector_pool.specs.Pool.{Pool, erased, leased, returned}
use Rattle.sector_pool.specs.Keeping.{KeepsOut, KeepsOutBut, HandsOver}
use Rattle.sector_pool.proofs.PlaceLemmas.{slice_get-set_same, slice_get-set_other}

-- a lease has this number or not
pub is_lease : (lease : Option ℕ) (k : ℕ) → (lease ≡ Some k) ⊎ (lease ≢ Some k)
is_lease None k = inr (λ same. cc same)
is_lease (Some j) k = by (nat_eq j k) refl
  where
    by : (b : Bool) → nat_eq j k ≡ b → (Some j ≡ Some k) ⊎ (Some j ≢ Some k)
    by true is = inl (ap Some ((Decides-eqb j k).0 is))
    by false is = inr (λ same. let equal : j ≡ k = cc same in grind (arith, nat_tests, is, equal))

-- no lease is held before or after
pub HandsOver-none : {old new : Pool} → KeepsOut old new → HandsOver None None old new
HandsOver-none keeps = record {
  mine = λ k has. cc has;
  fresh = λ k has other. cc has;
  back = λ k had other. cc had;
  others = λ j had has. ap (λ out. slice_get out j) keeps.same;
  kept = λ j had has was_out. keeps.kept j was_out;
}

-- a lease that is kept
pub HandsOver-same : {old new : Pool} (k : ℕ) → slice_get old.out k ≡ Some true → KeepsOutBut k old new
    → HandsOver (Some k) (Some k) old new
HandsOver-same {old} {new} k was_out keeps = record {
  mine = λ j has. let same : k ≡ j = cc has in
      subst (λ i. slice_get new.out i ≡ Some true) same (ap (λ out. slice_get out k) keeps.same ∙ was_out);
  fresh = λ j has other. absurd (other has);
  back = λ j had other. absurd (other had);
  others = λ j had has. ap (λ out. slice_get out j) keeps.same;
  kept = λ j had has is_out. keeps.kept j (λ same. had (ap Some (sym same))) is_out;
}

-- a lease that is taken
pub HandsOver-leased : (old : Pool) (k : ℕ) → slice_get old.out k ≡ Some false
    → HandsOver None (Some k) old (leased old k)
HandsOver-leased old k was_free = record {
  mine = λ j has. let same : k ≡ j = cc has in
      subst (λ i. slice_get (leased old k).out i ≡ Some true) same (slice_get-set_same old.out k false true was_free);
  fresh = λ j has other. let same : k ≡ j = cc has in subst (λ i. slice_get old.out i ≡ Some false) same was_free;
  back = λ j had other. cc had;
  others = λ j had has. slice_get-set_other old.out k j true (λ same. has (ap Some (sym same)));
  kept = λ j had has is_out. slice_get-set_other old.sectors k j erased (λ same. has (ap Some (sym same)));
}

-- a lease that is given back
pub HandsOver-returned : (old : Pool) (k : ℕ) → slice_get old.out k ≡ Some true
    → HandsOver (Some k) None old (returned old k)
HandsOver-returned old k was_out = record {
  mine = λ j has. cc has;
  fresh = λ j has other. cc has;
  back = λ j had other. let same : k ≡ j = cc had in
      subst (λ i. slice_get (returned old k).out i ≡ Some false) same (slice_get-set_same old.out k true false was_out);
  others = λ j had has. slice_get-set_other old.out k j false (λ same. had (ap Some (sym same)));
  kept = λ j had has is_out. refl;
}

-- one call after another
pub HandsOver-trans : {a b c : Option ℕ} {p q r : Pool} → HandsOver a b p q → HandsOver b c q r → HandsOver a c p r
HandsOver-trans {a} {b} {c} {p} {q} {r} first second = record {
  mine = second.mine;
  fresh = λ k has other. elim (is_lease b k) [
    | inl between ↦ first.fresh k between other
    | inr between ↦ sym (first.others k other between) ∙ second.fresh k has between
  ];
  back = λ k had other. elim (is_lease b k) [
    | inl between ↦ second.back k between other
    | inr between ↦ second.others k between other ∙ first.back k had between
  ];
  others = λ j had has. elim (is_lease b j) [
    | inl between ↦ second.back j between has ∙ sym (first.fresh j between had)
    | inr between ↦ second.others j between has ∙ first.others j had between
  ];
  kept = λ j had has was_out. elim (is_lease b j) [
    | inl between ↦ absurd (let free = first.fresh j between had in cc (free, was_out))
    | inr between ↦ second.kept j between has (first.others j had between ∙ was_out) ∙ first.kept j had between was_out
  ];
}
