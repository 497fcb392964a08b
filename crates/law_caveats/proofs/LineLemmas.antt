-- What a line `may-start` of the list says: it stands among the lines of that name alone.
use Rattle.std.proofs.Common.{◌≡◌, ◌⊎◌, ℕ, zero, suc, true, List, [], ◌∷◌, ◌++◌, map, Option, Some, None, Result, Err, refl, sym, ap, ◌∙◌, subst, inl, inr, arith}
use Rattle.std.specs.Prelude.{Contains}
use Rattle.std.proofs.lemmas.List.Elements.{Contains-append_cases}
use Rattle.pico_board.specs.declared.boot.Cpu.{Cpu}
use Rattle.pico_board.specs.declared.boot.BootKind.{BootKind}
use Rattle.pico_board.specs.declared.window.Window.{Window}
use Rattle.pico_board.specs.Content.{Content}
use Rattle.image_def.specs.declared.started.Started.{Started}
use Rattle.image_check.specs.declared.why.Why.{Why}
use Rattle.image_check.specs.declared.why.Why.TheVariants.{NoBlock, Loop, NoDefinition, NotForProcessor, Items, Trial, RollbackRequired, Below, Map, Entry, Digest, Delta}
use Rattle.part_table.specs.declared.partition.Partition.{Partition}
use Rattle.part_table.specs.declared.table.Table.{Table}
use Rattle.boot_rules.specs.declared.decision.Decision.{Decision}
use Rattle.boot_reasons.specs.declared.reasons.Reasons.{Reasons}
use Rattle.boot_reasons.specs.Reasons.{table_of_reasons}
use Rattle.boot_reasons.specs.declared.looks.UnitReport.{UnitReport}
use Rattle.slot_caveats.specs.declared.caveat.Caveat.{Caveat}
use Rattle.slot_caveats.specs.declared.caveat.Caveat.TheVariants.{MayStart, OtherProcessor}
use Rattle.slot_caveats.specs.Listing.{AreBoth, AreOfEach, IsOfOne, IsWhere}
use Rattle.slot_caveats.specs.TableRules.{AreOfParts, AreUnread, IsTableTie}
use Rattle.boot_caveats.specs.ImageCaveats.{is_doubtful, looked_windows}
use Rattle.boot_caveats.specs.ImageRules.{AreItemOrders, AreLateFirsts, AreMayStarts, AreOwnedImages, IsDoubtful, IsMayStart, IsRollback, IsSecondMayStart, StartsUnread}
use Rattle.boot_caveats.specs.ProcessorCaveats.{LookedMember, looked_members, updated_in}
use Rattle.boot_caveats.specs.ProcessorRules.{AreOtherProcessors}
use Rattle.boot_caveats.specs.Rules.{AreBoardCaveats, AreCaveats, AreChoiceCaveats, AreLastCaveats, AreWindowCaveats}
use Rattle.boot_caveats.specs.Unread.{is_rollback}
use Rattle.boot_caveats.proofs.ImageCaveatLemmas.{says-doubt}
use Rattle.boot_caveats.proofs.UnreadLemmas.{rolled-decides}

-- ---- lists without such a line

abbrev IsLine : Caveat → Type 0
IsLine caveat = (w : Window) × (why : Why) × (caveat ≡ MayStart w why)

abbrev Lacks : List Caveat → Type 0
Lacks list = (caveat : Caveat) → IsLine caveat → Contains list caveat → ⊥

-- each list of a condition lacks such a line
record Never (P : List Caveat → Type 0) : Type 0 where
  lacks : (list : List Caveat) → P list → Lacks list

none-lacks : Lacks []
none-lacks caveat line is = absurd (omega (arith, is.1))

one-lacks : (x : Caveat) → (IsLine x → ⊥) → Lacks (x ∷ [])
one-lacks x other caveat line (zero, lt, e) = other (line.0, line.1, e ∙ line.2)
one-lacks x other caveat line (suc k, lt, e) = absurd (omega (arith, lt))

both-lack : (xs ys : List Caveat) → Lacks xs → Lacks ys → Lacks (xs ++ ys)
both-lack xs ys p q caveat line is = elim (Contains-append_cases xs ys caveat is) [
  | inl a ↦ p caveat line a
  | inr b ↦ q caveat line b
]

as-list : (xs ys : List Caveat) → xs ≡ ys → Lacks ys → Lacks xs
as-list xs ys e lacks = subst (λ (l : List Caveat). Lacks l) (sym e) lacks

both-never : {P Q : List Caveat → Type 0} → Never P → Never Q → Never (AreBoth P Q)
both-never p q = record {
  lacks = λ list is. as-list list (is.0 ++ is.1) is.4
      (both-lack is.0 is.1 (p.lacks is.0 is.2) (q.lacks is.1 is.3));
}

where-never : (P : Type 0) (x : Caveat) → (IsLine x → ⊥) → Never (IsWhere P x)
where-never P x other = record {
  lacks = λ list is. elim is [
    | inl this ↦ as-list list (x ∷ []) this.1 (one-lacks x other)
    | inr none ↦ as-list list [] none.1 none-lacks
  ];
}

of-one-never : {X : Type 0} (P : X → Type 0) (told : X → Caveat) → ((x : X) → IsLine (told x) → ⊥)
    → Never (IsOfOne P told)
of-one-never P told other = record {
  lacks = λ list is. elim is [
    | inl one ↦ as-list list (told one.0 ∷ []) one.2 (one-lacks (told one.0) (other one.0))
    | inr none ↦ as-list list [] none.1 none-lacks
  ];
}

each-never : {X : Type 0} (P : X → List Caveat → Type 0) → ((x : X) → Never (P x)) → (xs : List X)
    → Never (AreOfEach P xs)
each-never P never [] = record { lacks = λ list is. as-list list [] is none-lacks }
each-never P never (x ∷ xs) = both-never (never x) (each-never P never xs)

parts-never : (table : Option Table) (P : List Partition → ℕ → List Caveat → Type 0)
    → ((parts : List Partition) (i : ℕ) → Never (P parts i)) → Never (AreOfParts table P)
parts-never table P never = record {
  lacks = λ list is. elim is [
    | inl some ↦ (each-never (P some.0.parts.items) (never some.0.parts.items) _).lacks list some.2
    | inr none ↦ as-list list [] none.1 none-lacks
  ];
}

-- ---- all other lines

board-never : (c : Content) (r : Reasons) → Never (AreBoardCaveats c r)
board-never c r =
    both-never
    (both-never (where-never _ _ (λ e. cc))
    (both-never (where-never _ _ (λ e. cc))
    (both-never (where-never _ _ (λ e. cc))
    (both-never (where-never _ _ (λ e. cc)) (where-never _ _ (λ e. cc))))))
    (both-never (of-one-never _ _ (λ i e. cc))
    (both-never (of-one-never _ _ (λ i e. cc))
    (both-never (where-never _ _ (λ e. cc)) (of-one-never _ _ (λ place e. cc)))))

processors-lack : (ws : List Window) → Lacks (map OtherProcessor ws)
processors-lack [] = none-lacks
processors-lack (w ∷ ws) =
    both-lack (OtherProcessor w ∷ []) (map OtherProcessor ws) (one-lacks (OtherProcessor w) (λ e. cc))
    (processors-lack ws)

processors-never : (c : Content) (cpu : Cpu) (kind : BootKind) (d : Decision) (members : List LookedMember)
    → Never (AreOtherProcessors c cpu kind d members)
processors-never c cpu kind d members = record {
  lacks = λ list is. as-list list (map OtherProcessor is.0 ++ is.1) is.4
      (both-lack (map OtherProcessor is.0) is.1 (processors-lack is.0)
      ((of-one-never _ _ (λ w e. cc)).lacks is.1 is.3));
}

choice-never : (c : Content) (cpu : Cpu) (kind : BootKind) (r : Reasons) → Never (AreChoiceCaveats c cpu kind r)
choice-never c cpu kind r =
    both-never
    (processors-never c cpu kind r.decision (looked_members r.looks.items (updated_in c cpu kind)))
    (both-never (both-never (where-never _ _ (λ e. cc)) (where-never _ _ (λ e. cc)))
    (both-never (of-one-never _ _ (λ pair e. cc))
    (both-never (of-one-never _ _ (λ base e. cc))
    (both-never (of-one-never _ _ (λ part e. cc))
    (both-never (of-one-never _ _ (λ w e. cc))
    (both-never (of-one-never _ _ (λ w e. cc)) (of-one-never _ _ (λ row e. cc))))))))

late-never : (c : Content) (d : Decision) (size : ℕ) (looks : List UnitReport) → Never (AreLateFirsts c d size looks)
late-never c d size looks = record {
  lacks = λ list is. elim is [
    | inl some ↦ (each-never _ (λ w. where-never _ _ (λ e. cc)) some.1.0).lacks list some.1.2
    | inr none ↦ as-list list [] none.1 none-lacks
  ];
}

last-never : (c : Content) (cpu : Cpu) (kind : BootKind) (r : Reasons) → Never (AreLastCaveats c cpu kind r)
last-never c cpu kind r =
    both-never
    (both-never (both-never (where-never _ _ (λ e. cc)) (where-never _ _ (λ e. cc)))
    (both-never (both-never (of-one-never _ _ (λ at e. cc)) (of-one-never _ _ (λ at e. cc)))
    (both-never (of-one-never _ _ (λ fault e. cc))
    (both-never (of-one-never _ _ (λ fault e. cc))
    (both-never (where-never _ _ (λ e. cc)) (where-never _ _ (λ e. cc)))))))
    (both-never (both-never (where-never _ _ (λ e. cc)) (where-never _ _ (λ e. cc)))
    (both-never
    (both-never (each-never _ (λ w. of-one-never _ _ (λ at e. cc)) (looked_windows r.looks.items))
    (both-never (each-never _ (λ w. where-never _ _ (λ e. cc)) (looked_windows r.looks.items))
    (each-never _ (λ w. where-never _ _ (λ e. cc)) (looked_windows r.looks.items))))
    (both-never (parts-never (table_of_reasons r) _ (λ parts i. where-never _ _ (λ e. cc)))
    (both-never (parts-never (table_of_reasons r) _ (λ parts i. where-never _ _ (λ e. cc)))
    (of-one-never _ _ (λ base e. cc))))))

-- ---- what such a line says

-- a member that is looked at, in its report
abbrev pub FailsIn : UnitReport → Window → Why → Type 0
FailsIn look w why = ((look.unit.a ≡ w) × (look.first ≡ Err why))
    ⊎ ((look.unit.b ≡ Some w) × (look.second ≡ Some (Err why)))

abbrev pub IsReported : List UnitReport → Window → Why → Type 0
IsReported looks w why = (look : UnitReport) × Contains looks look × FailsIn look w why

pub behind-one : (look : UnitReport) (looks : List UnitReport) (w : Window) (why : Why) → IsReported looks w why
    → IsReported (look ∷ looks) w why
behind-one look looks w why is = (is.0, (suc is.1.0, omega (arith, is.1.1), is.1.2), is.2)

clash : (y : Why) → is_doubtful y ≡ true → is_rollback y ≡ true → ⊥
clash NoBlock d r = cc
clash (Loop fault) d r = cc
clash NoDefinition d r = cc
clash NotForProcessor d r = cc
clash (Items fault) d r = cc
clash Trial d r = cc
clash RollbackRequired d r = cc
clash (Below version count) d r = cc
clash (Map fault) d r = cc
clash (Entry fault) d r = cc
clash Digest d r = cc
clash Delta d r = cc

module _ (c : Content) (cpu : Cpu) (kind : BootKind) where
  -- a member without an image that counts, and in whose window a boot without the rule starts
  abbrev IsTold : Window → Result Started Why → Window → Why → Type 0
  IsTold v image w why = (v ≡ w) × (image ≡ Err why) × StartsUnread c cpu kind w

  member-line : (v : Window) (image : Result Started Why) (list : List Caveat) → IsMayStart c cpu kind v image list
      → (w : Window) (why : Why) → IsRollback why → Contains list (MayStart w why) → IsTold v image w why
  member-line v image list (inr none) w why rule at =
      absurd (none-lacks (MayStart w why) (w, why, refl)
      (subst (λ (l : List Caveat). Contains l (MayStart w why)) none.1 at))
  member-line v image list (inl one) w why rule at =
      go (subst (λ (l : List Caveat). Contains l (MayStart w why)) one.2 at)
    where
      apart : (y : Why) → y ≡ why → IsDoubtful y → ⊥
      apart y e doubt = clash y (says-doubt y doubt) ((rolled-decides y).1 (subst IsRollback (sym e) rule))

      go : Contains (MayStart v one.0 ∷ []) (MayStart w why) → IsTold v image w why
      go (suc k, lt, e) = absurd (omega (arith, lt))
      go (zero, lt, e) =
          let window : v ≡ w = cc in let fault : one.0 ≡ why = cc in (
            window,
            one.1.0 ∙ ap Err fault,
            elim one.1.1 [
              | inl doubt ↦ absurd (apart one.0 fault doubt)
              | inr starts ↦ subst (StartsUnread c cpu kind) window starts.1
            ],
          )

  second-line : (b : Option Window) (second : Option (Result Started Why)) (list : List Caveat)
      → IsSecondMayStart c cpu kind b second list → (w : Window) (why : Why) → IsRollback why
      → Contains list (MayStart w why)
      → ((b ≡ Some w) × (second ≡ Some (Err why))) × StartsUnread c cpu kind w
  second-line None second list is w why rule at =
      absurd (as-list list [] is none-lacks (MayStart w why) (w, why, refl) at)
  second-line (Some v) None list is w why rule at =
      absurd (as-list list [] is none-lacks (MayStart w why) (w, why, refl) at)
  second-line (Some v) (Some image) list is w why rule at =
      let told = member-line v image list is w why rule at in ((ap Some told.0, ap Some told.1), told.2)

  looks-line : (looks : List UnitReport) (list : List Caveat) → AreMayStarts c cpu kind looks list
      → (w : Window) (why : Why) → IsRollback why → Contains list (MayStart w why)
      → IsReported looks w why × StartsUnread c cpu kind w
  looks-line [] list is w why rule at =
      absurd (as-list list [] is none-lacks (MayStart w why) (w, why, refl) at)
  looks-line (look ∷ looks) list is w why rule at =
      elim (Contains-append_cases is.0 is.1 (MayStart w why)
      (subst (λ (l : List Caveat). Contains l (MayStart w why)) is.4 at)) [
        | inl here ↦ elim (Contains-append_cases is.2.0 is.2.1 (MayStart w why)
            (subst (λ (l : List Caveat). Contains l (MayStart w why)) is.2.4 here)) [
              | inl first ↦
                  let told = member-line look.unit.a look.first is.2.0 is.2.2 w why rule first in
                  ((look, (0, omega arith, refl), inl (told.0, told.1)), told.2)
              | inr second ↦
                  let told = second-line look.unit.b look.second is.2.1 is.2.3 w why rule second in
                  ((look, (0, omega arith, refl), inr told.0), told.1)
            ]
        | inr later ↦
            let told = looks-line looks is.1 is.3 w why rule later in (behind-one look looks w why told.0, told.1)
      ]

  -- such a line stands among those of the members that are looked at
  window-line : (r : Reasons) (list : List Caveat) → AreWindowCaveats c cpu kind r list → (w : Window) (why : Why)
      → IsRollback why → Contains list (MayStart w why)
      → IsReported r.looks.items w why × StartsUnread c cpu kind w
  window-line r list is w why rule at =
      elim (Contains-append_cases is.0 is.1 (MayStart w why)
      (subst (λ (l : List Caveat). Contains l (MayStart w why)) is.4 at)) [
        | inl late ↦ absurd ((late-never c r.decision r.size r.looks.items).lacks is.0 is.2 (MayStart w why)
            (w, why, refl) late)
        | inr more ↦ go is.1 is.3 more
      ]
    where
      behind : Never (AreBoth (AreOwnedImages c cpu (table_of_reasons r))
          (AreBoth (AreUnread (table_of_reasons r)) (IsTableTie r.first r.second)))
      behind =
          both-never (parts-never (table_of_reasons r) _ (λ parts i. where-never _ _ (λ e. cc)))
          (both-never
          (both-never (of-one-never _ _ (λ bits e. cc))
          (parts-never (table_of_reasons r) _ (λ parts i. where-never _ _ (λ e. cc))))
          (where-never _ _ (λ e. cc)))

      starts : (l : List Caveat) → AreBoth (AreMayStarts c cpu kind r.looks.items)
          (AreBoth (AreOwnedImages c cpu (table_of_reasons r))
          (AreBoth (AreUnread (table_of_reasons r)) (IsTableTie r.first r.second))) l
          → Contains l (MayStart w why) → IsReported r.looks.items w why × StartsUnread c cpu kind w
      starts l are there =
          elim (Contains-append_cases are.0 are.1 (MayStart w why)
          (subst (λ (l : List Caveat). Contains l (MayStart w why)) are.4 there)) [
            | inl here ↦ looks-line r.looks.items are.0 are.2 w why rule here
            | inr later ↦ absurd (behind.lacks are.1 are.3 (MayStart w why) (w, why, refl) later)
          ]

      go : (l : List Caveat) → AreBoth (AreItemOrders c cpu r.looks.items)
          (AreBoth (AreMayStarts c cpu kind r.looks.items)
          (AreBoth (AreOwnedImages c cpu (table_of_reasons r))
          (AreBoth (AreUnread (table_of_reasons r)) (IsTableTie r.first r.second)))) l
          → Contains l (MayStart w why) → IsReported r.looks.items w why × StartsUnread c cpu kind w
      go l are there =
          elim (Contains-append_cases are.0 are.1 (MayStart w why)
          (subst (λ (l : List Caveat). Contains l (MayStart w why)) are.4 there)) [
            | inl order ↦ absurd ((each-never _ (λ v. where-never _ _ (λ e. cc)) (looked_windows r.looks.items)).lacks
                are.0 are.2 (MayStart w why) (w, why, refl) order)
            | inr later ↦ starts are.1 are.3 later
          ]

  pub listed-line : (list : List Caveat) (are : AreCaveats c cpu kind list) (w : Window) (why : Why) → IsRollback why
      → Contains list (MayStart w why)
      → IsReported are.reasons.looks.items w why × StartsUnread c cpu kind w
  listed-line list are w why rule at =
      elim (Contains-append_cases are.listed.0 are.listed.1 (MayStart w why)
      (subst (λ (l : List Caveat). Contains l (MayStart w why)) are.listed.4 at)) [
        | inl board ↦ absurd ((board-never c are.reasons).lacks are.listed.0 are.listed.2 (MayStart w why)
            (w, why, refl) board)
        | inr more ↦ behind are.listed.1 are.listed.3 more
      ]
    where
      windows : (l : List Caveat) → AreBoth (AreWindowCaveats c cpu kind are.reasons)
          (AreLastCaveats c cpu kind are.reasons) l → Contains l (MayStart w why)
          → IsReported are.reasons.looks.items w why × StartsUnread c cpu kind w
      windows l is there =
          elim (Contains-append_cases is.0 is.1 (MayStart w why)
          (subst (λ (l : List Caveat). Contains l (MayStart w why)) is.4 there)) [
            | inl here ↦ window-line are.reasons is.0 is.2 w why rule here
            | inr last ↦ absurd ((last-never c cpu kind are.reasons).lacks is.1 is.3 (MayStart w why)
                (w, why, refl) last)
          ]

      behind : (l : List Caveat) → AreBoth (AreChoiceCaveats c cpu kind are.reasons)
          (AreBoth (AreWindowCaveats c cpu kind are.reasons) (AreLastCaveats c cpu kind are.reasons)) l
          → Contains l (MayStart w why) → IsReported are.reasons.looks.items w why × StartsUnread c cpu kind w
      behind l is there =
          elim (Contains-append_cases is.0 is.1 (MayStart w why)
          (subst (λ (l : List Caveat). Contains l (MayStart w why)) is.4 there)) [
            | inl choice ↦ absurd ((choice-never c cpu kind are.reasons).lacks is.0 is.2 (MayStart w why)
                (w, why, refl) choice)
            | inr later ↦ windows is.1 is.3 later
          ]
