-- Each rule in words holds exactly where its answer is none.
use Rattle.std.proofs.Common.{◌≡◌, ◌≢◌, ◌⊎◌, ℕ, suc, zero, pos, negsuc, ℤ, ◌≤◌, Bool, true, false, ◌&&◌, not, nat_lt, if◌then◌else◌, IfSome, List, [], ◌∷◌, Option, Some, None, refl, sym, ◌∙◌, ap, subst, inl, inr, nat_le, arith}
use Rattle.std.specs.Prelude.{bytes_eq}
use Rattle.std.specs.Option.{option_map, option_or, is_some, option_map_or}
use Rattle.std.proofs.lemmas.Bool.{and_parts, ltb-false, ltb-true, lt-ltb}
use Rattle.std.proofs.lemmas.Slice.Eq.{bytes_eq-Decides}
use Rattle.pico_board.specs.declared.boot.Cpu.{Cpu}
use Rattle.block_codec.specs.declared.definition.Def.{Def}
use Rattle.block_codec.specs.declared.items.Item.{Item}
use Rattle.block_codec.specs.Blocks.{BlockView, block_size}
use Rattle.image_def.specs.Flags.{flags_of, is_trial}
use Rattle.image_def.specs.Suits.{does_suit, has_image_type, image_flags_of, image_type_of, suits_flags}
use Rattle.load_map.specs.declared.load.Load.{Load}
use Rattle.load_map.specs.Covered.{covered_digest}
use Rattle.otp_roll.specs.Rows.{count}
use Rattle.otp_roll.specs.Flags.{rollback_required}
use Rattle.image_check.specs.declared.why.Why.{Why}
use Rattle.image_check.specs.declared.why.Why.TheVariants.{Trial, RollbackRequired, Below, Digest, Delta}
use Rattle.image_check.specs.declared.examining.Defined.{Defined}
use Rattle.image_check.specs.Rules.{below_fault, delta_fault, digest_fault, required_fault, rollback_fault, trial_fault}
use Rattle.image_check.specs.Valid.{HasItsDigest, ListsRequiredRows, MayBeTried, ReachesItsRows}
use Rattle.image_check.specs.WhyNot.{IsBelow}

-- a block that suits has an IMAGE_TYPE item
pub suits-type : (cpu : Cpu) (b : BlockView) → does_suit cpu b ≡ true → has_image_type b ≡ true
suits-type cpu b h =
    typed (image_type_of b) ((and_parts (nat_le (block_size b) 384)
    (option_map_or (suits_flags cpu) (image_flags_of b) false) h).1)
  where
    typed : (o : Option Item) → option_map_or (suits_flags cpu) (option_map flags_of o) false ≡ true → is_some o ≡ true
    typed None e = cc
    typed (Some item) e = refl

-- the trial rule
pub trial-none : (allowed : Bool) (def : Def) → MayBeTried allowed def → trial_fault allowed def ≡ None
trial-none allowed def may = go (is_trial def.flags) allowed may
  where
    go : (t a : Bool) → (t ≡ true → a ≡ true) → (if t && not a then Some Trial else None) ≡ None
    go false a m = refl
    go true true m = refl
    go true false m = let e = m refl in cc

pub trial-some : (allowed : Bool) (def : Def) → (MayBeTried allowed def → ⊥) → trial_fault allowed def ≡ Some Trial
trial-some allowed def never = go (is_trial def.flags) allowed never
  where
    go : (t a : Bool) → ((t ≡ true → a ≡ true) → ⊥) → (if t && not a then Some Trial else None) ≡ Some Trial
    go false a n = absurd (n (λ e. cc))
    go true true n = absurd (n (λ e. refl))
    go true false n = refl

pub trial-says : (allowed : Bool) (def : Def)
    → ((trial_fault allowed def ≡ None) × MayBeTried allowed def)
    ⊎ ((trial_fault allowed def ≡ Some Trial) × (MayBeTried allowed def → ⊥))
trial-says allowed def = go (is_trial def.flags) allowed
  where
    go : (t a : Bool)
        → (((if t && not a then Some Trial else None) ≡ None) × (t ≡ true → a ≡ true))
        ⊎ (((if t && not a then Some Trial else None) ≡ Some Trial) × ((t ≡ true → a ≡ true) → ⊥))
    go false a = inl (refl, λ e. cc)
    go true true = inl (refl, λ e. refl)
    go true false = inr (refl, λ m. let e = m refl in cc)

-- the first half of the rollback rule
pub listed-none : (otp : List ℕ) (def : Def) → ListsRequiredRows otp def
    → required_fault (rollback_required otp) def.rows.items ≡ None
listed-none otp def lists = go (rollback_required otp) def.rows.items lists
  where
    go : (required : Bool) (rows : List ℕ) → (required ≡ true → rows ≢ []) → required_fault required rows ≡ None
    go true [] l = absurd (l refl refl)
    go true (r ∷ rows) l = refl
    go false [] l = refl
    go false (r ∷ rows) l = refl

pub listed-some : (otp : List ℕ) (def : Def) → (ListsRequiredRows otp def → ⊥)
    → required_fault (rollback_required otp) def.rows.items ≡ Some RollbackRequired
listed-some otp def never = go (rollback_required otp) def.rows.items never
  where
    go : (required : Bool) (rows : List ℕ) → ((required ≡ true → rows ≢ []) → ⊥)
        → required_fault required rows ≡ Some RollbackRequired
    go true [] n = refl
    go true (r ∷ rows) n = absurd (n (λ e f. cc))
    go false rows n = absurd (n (λ e. cc))

-- the second half of the rollback rule
pub reached-none : (otp : List ℕ) (def : Def) → ReachesItsRows otp def
    → below_fault def.rollback (count otp def.rows.items) ≡ None
reached-none otp def reaches = go def.rollback (count otp def.rows.items) reaches
  where
    go : (version : Option ℕ) (raised : ℕ) → IfSome version (λ v. raised ≤ v) → below_fault version raised ≡ None
    go None raised r = refl
    go (Some v) raised r = decide (nat_lt v raised) refl
      where
        decide : (t : Bool) → nat_lt v raised ≡ t → (if t then Some (Below v raised) else None) ≡ None
        decide true is = let lt = ltb-true v raised is in absurd (omega (arith, lt, r))
        decide false is = refl

pub below-some : (otp : List ℕ) (image : Defined) (version raised : ℕ) → IsBelow otp image version raised
    → below_fault image.def.rollback (count otp image.def.rows.items) ≡ Some (Below version raised)
below-some otp image version raised is =
    ap (λ (v : Option ℕ). below_fault v (count otp image.def.rows.items)) is.version_is
    ∙ ap (below_fault (Some version)) (sym is.raised_is)
    ∙ (let e = lt-ltb version raised is.below in rw e refl)

-- what the rollback rule answers, in its words
abbrev pub SaysRolled : List ℕ → Defined → Option Why → Type 0
SaysRolled otp image None = ListsRequiredRows otp image.def × ReachesItsRows otp image.def
SaysRolled otp image (Some y) =
    ((y ≡ RollbackRequired) × (ListsRequiredRows otp image.def → ⊥))
    ⊎ (ListsRequiredRows otp image.def
    × ((version : ℕ) × (raised : ℕ) × (y ≡ Below version raised) × IsBelow otp image version raised))

pub rolled-says : (otp : List ℕ) (image : Defined) → SaysRolled otp image (rollback_fault otp image.def)
rolled-says otp image = go (rollback_required otp) refl image.def.rows.items refl
  where
    lists : (rows : List ℕ) → image.def.rows.items ≡ rows → (rows ≡ [] → ⊥) → ListsRequiredRows otp image.def
    lists rows is some required empty = some (sym is ∙ empty)

    reach : (lists : ListsRequiredRows otp image.def) (version : Option ℕ) → image.def.rollback ≡ version
        → SaysRolled otp image (below_fault version (count otp image.def.rows.items))
    reach lists None is =
        (lists, subst (λ (v : Option ℕ). IfSome v (λ n. count otp image.def.rows.items ≤ n)) (sym is) tt)
    reach lists (Some v) is = decide (nat_lt v (count otp image.def.rows.items)) refl
      where
        decide : (t : Bool) → nat_lt v (count otp image.def.rows.items) ≡ t
            → SaysRolled otp image (if t then Some (Below v (count otp image.def.rows.items)) else None)
        decide true lt =
            inr (
              lists,
              (
                v,
                count otp image.def.rows.items,
                refl,
                record {
                  version_is = is;
                  raised_is = refl;
                  below = ltb-true v (count otp image.def.rows.items) lt;
                },
              ),
            )
        decide false le = (
          lists,
          subst (λ (o : Option ℕ). IfSome o (λ n. count otp image.def.rows.items ≤ n)) (sym is)
              (ltb-false v (count otp image.def.rows.items) le),
        )

    go : (required : Bool) → rollback_required otp ≡ required → (rows : List ℕ) → image.def.rows.items ≡ rows
        → SaysRolled otp image (option_or (required_fault required rows)
        (below_fault image.def.rollback (count otp image.def.rows.items)))
    go true required [] is = inl (refl, λ lists. lists required is)
    go true required (r ∷ rows) is = reach (lists (r ∷ rows) is (λ e. cc)) image.def.rollback refl
    go false required [] is = reach (λ e. let f : true ≡ false = sym e ∙ required in cc) image.def.rollback refl
    go false required (r ∷ rows) is = reach (λ e. let f : true ≡ false = sym e ∙ required in cc) image.def.rollback refl

-- the digest rule
pub digest-says : (bytes : List ℕ) (image : Defined) (loads : List Load) (value : Option (List ℕ))
    → image.def.digest ≡ value
    → ((digest_fault bytes image.block image.def loads value ≡ None) × HasItsDigest bytes image loads)
    ⊎ ((digest_fault bytes image.block image.def loads value ≡ Some Digest) × (HasItsDigest bytes image loads → ⊥))
digest-says bytes image loads None is =
    inl (
      refl,
      subst (λ (v : Option (List ℕ)). IfSome v (λ d. d ≡ covered_digest bytes image.block image.def loads))
          (sym is) tt,
    )
digest-says bytes image loads (Some value) is = go (bytes_eq value digest) refl
  where
    digest : List ℕ
    digest = covered_digest bytes image.block image.def loads

    has : HasItsDigest bytes image loads → value ≡ digest
    has h = subst (λ (v : Option (List ℕ)). IfSome v (λ d. d ≡ digest)) is h

    go : (t : Bool) → bytes_eq value digest ≡ t
        → (((if t then None else Some Digest) ≡ None) × HasItsDigest bytes image loads)
        ⊎ (((if t then None else Some Digest) ≡ Some Digest) × (HasItsDigest bytes image loads → ⊥))
    go true same =
        inl (
          refl,
          subst (λ (v : Option (List ℕ)). IfSome v (λ d. d ≡ digest)) (sym is)
              ((bytes_eq-Decides value digest).0 same),
        )
    go false other = inr (refl, λ h. let t = (bytes_eq-Decides value digest).1 (has h) in cc)

-- the delta rule
pub delta-says : (delta : ℤ) → ((delta_fault delta ≡ None) × (delta ≡ pos 0))
    ⊎ ((delta_fault delta ≡ Some Delta) × (delta ≢ pos 0))
delta-says (pos zero) = inl (refl, refl)
delta-says (pos (suc n)) = inr (refl, λ e. cc)
delta-says (negsuc n) = inr (refl, λ e. cc)
