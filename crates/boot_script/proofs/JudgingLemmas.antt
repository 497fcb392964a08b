-- What the first records of bytes come to: they are a script, or there is one first reason why they are none.
use Rattle.std.proofs.Common.{ℕ, ◌≡◌, zero, suc, ◌+◌, ◌-◌, ◌<◌, ◌≤◌, Bool, true, false, cond, nat_lt, Result, Ok, Err, Option, Some, None, List, [], ◌∷◌, length, refl, sym, ◌∙◌, ap, subst, arith}
use Rattle.std.proofs.lemmas.Bool.{ltb-true, ltb-false, lt-ltb, le-ltb}
use Rattle.boot_script.specs.declared.event.ScriptFault.{ScriptFault}
use Rattle.boot_script.specs.declared.event.ScriptError.{ScriptError}
use Rattle.boot_script.specs.declared.event.ScriptError.TheVariants.{TooLarge, Record, TooMany}
use Rattle.boot_script.specs.declared.limits.TheConstants.{SCRIPT_LIMIT, RECORD_LIMIT}
use Rattle.boot_script.specs.Events.{EventView, End}
use Rattle.boot_script.specs.Reading.{event_at}
use Rattle.boot_script.specs.Scripts.{is_end}
use Rattle.boot_script.specs.Judging.{AreRecords, IsEnded, IsUnread, IsEndless, IsScript, IsScriptError, record_error, first_error, script_error}
use Rattle.boot_script.proofs.FollowingLemmas.{end-is}

-- the error of what was read, where it is no end
others-error : (r : Result (EventView × ℕ) ScriptFault) (e : EventView) (next : ℕ) (others : ℕ → Option ScriptError)
    → r ≡ Ok (e, next) → is_end e ≡ false → record_error r others ≡ others next
others-error r e next others is more =
    ap (λ x. record_error x others) is ∙ ap (λ t. cond t None (others next)) more

error-more : (most : ℕ) (bytes : List ℕ) (at : ℕ) (e : EventView) (next : ℕ) → event_at bytes at ≡ Ok (e, next)
    → is_end e ≡ false → first_error (suc most) bytes at ≡ first_error most bytes next
unfolding first_error
error-more most bytes at e next is more = others-error (event_at bytes at) e next (first_error most bytes) is more

error-end : (most : ℕ) (bytes : List ℕ) (at next : ℕ) → event_at bytes at ≡ Ok (End, next)
    → first_error (suc most) bytes at ≡ None
unfolding first_error
error-end most bytes at next is = ap (λ x. record_error x (first_error most bytes)) is

error-here : (most : ℕ) (bytes : List ℕ) (at : ℕ) (fault : ScriptFault) → event_at bytes at ≡ Err fault
    → first_error (suc most) bytes at ≡ Some (Record fault)
unfolding first_error
error-here most bytes at fault is = ap (λ x. record_error x (first_error most bytes)) is

error-past : (bytes : List ℕ) (at : ℕ) → first_error 0 bytes at ≡ Some TooMany
unfolding first_error
error-past bytes at = refl

-- what the first records come to
data Judged (most : ℕ) (bytes : List ℕ) (at : ℕ) : Option ScriptError → Type 0 where
  ended : IsEnded most bytes at → Judged most bytes at None
  unread : (fault : ScriptFault) → IsUnread most bytes at fault → Judged most bytes at (Some (Record fault))
  endless : IsEndless most bytes at → Judged most bytes at (Some TooMany)

judged-more : (most : ℕ) (bytes : List ℕ) (at : ℕ) (e : EventView) (next : ℕ) (o : Option ScriptError)
    → event_at bytes at ≡ Ok (e, next) → is_end e ≡ false → Judged most bytes next o → Judged (suc most) bytes at o
judged-more most bytes at e next _ is more (ended s) = ended (record {
  happened = e ∷ s.happened;
  last = s.last;
  next = s.next;
  few = omega (arith, s.few);
  before = (next, is, more, s.before);
  ends = s.ends;
})
judged-more most bytes at e next _ is more (unread fault s) = unread fault (record {
  happened = e ∷ s.happened;
  last = s.last;
  few = omega (arith, s.few);
  before = (next, is, more, s.before);
  wrong = s.wrong;
})
judged-more most bytes at e next _ is more (endless s) = endless (record {
  happened = e ∷ s.happened;
  last = s.last;
  many = ap suc s.many;
  before = (next, is, more, s.before);
})

judged-end : (most : ℕ) (bytes : List ℕ) (at next : ℕ) (e : EventView) → e ≡ End → event_at bytes at ≡ Ok (e, next)
    → Judged (suc most) bytes at None
judged-end most bytes at next e last is = ended (record {
  happened = [];
  last = at;
  next = next;
  few = omega arith;
  before = refl;
  ends = is ∙ ap (λ x. Ok (x, next)) last;
})

judged-read : (most : ℕ) (bytes : List ℕ) (at : ℕ) (e : EventView) (next : ℕ) (b : Bool)
    → event_at bytes at ≡ Ok (e, next)
    → is_end e ≡ b → Judged most bytes next (first_error most bytes next)
    → Judged (suc most) bytes at (cond b None (first_error most bytes next))
judged-read most bytes at e next true is last others = judged-end most bytes at next e (end-is e last) is
judged-read most bytes at e next false is more others =
    judged-more most bytes at e next (first_error most bytes next) is more others

judged-one : (most : ℕ) (bytes : List ℕ) (at : ℕ) (r : Result (EventView × ℕ) ScriptFault) → event_at bytes at ≡ r
    → ((next : ℕ) → Judged most bytes next (first_error most bytes next))
    → Judged (suc most) bytes at (record_error r (first_error most bytes))
judged-one most bytes at (Err fault) is others = unread fault (record {
  happened = [];
  last = at;
  few = omega arith;
  before = refl;
  wrong = is;
})
judged-one most bytes at (Ok p) is others = judged-read most bytes at p.0 p.1 (is_end p.0) is refl (others p.1)

judged-records : (most : ℕ) (bytes : List ℕ) (at : ℕ) → Judged most bytes at (first_error most bytes at)
unfolding first_error
judged-records zero bytes at = endless (record { happened = []; last = at; many = refl; before = refl })
judged-records (suc most) bytes at =
    judged-one most bytes at (event_at bytes at) refl (λ next. judged-records most bytes next)

-- records without an error have an end
judged-none : (most : ℕ) (bytes : List ℕ) (at : ℕ) (o : Option ScriptError) → Judged most bytes at o → o ≡ None
    → IsEnded most bytes at
judged-none most bytes at _ (ended s) e = s
judged-none most bytes at _ (unread fault s) e = cc
judged-none most bytes at _ (endless s) e = cc

-- an error is one that the rules name
judged-some : (bytes : List ℕ) (o : Option ScriptError) (error : ScriptError) → length bytes ≤ SCRIPT_LIMIT
    → Judged RECORD_LIMIT bytes 0 o → o ≡ Some error → IsScriptError bytes error
judged-some bytes _ TooLarge short (ended s) e = cc
judged-some bytes _ TooMany short (ended s) e = cc
judged-some bytes _ (Record f) short (ended s) e = cc
judged-some bytes _ TooLarge short (unread fault s) e = cc
judged-some bytes _ TooMany short (unread fault s) e = cc
judged-some bytes _ (Record f) short (unread fault s) e =
    let same : fault ≡ f = cc in (short, subst (λ x. IsUnread RECORD_LIMIT bytes 0 x) same s)
judged-some bytes _ TooLarge short (endless s) e = cc
judged-some bytes _ TooMany short (endless s) e = (short, s)
judged-some bytes _ (Record f) short (endless s) e = cc

-- the records before an offset have no error
records-before : (most : ℕ) (bytes : List ℕ) (at : ℕ) (es : List EventView) (last : ℕ) (more : ℕ)
    → length es + more ≡ most → AreRecords bytes at es last
    → first_error most bytes at ≡ first_error more bytes last
records-before most bytes at [] last more is same =
    let e : most ≡ more = omega (arith, is) in
    ap (λ n. first_error n bytes at) e ∙ ap (first_error more bytes) (sym same)
records-before zero bytes at (e ∷ es) last more is (next, reads, inside, before) = absurd (omega (arith, is))
records-before (suc most) bytes at (e ∷ es) last more is (next, reads, inside, before) =
    error-more most bytes at e next reads inside
    ∙ records-before most bytes next es last more (omega (arith, is)) before

-- so many records are left
left-of : (most n : ℕ) → n < most → (k : ℕ) × (n + suc k ≡ most)
left-of zero n lt = absurd (omega (arith, lt))
left-of (suc most) zero lt = (most, omega arith)
left-of (suc most) (suc n) lt = let r = left-of most n (omega (arith, lt)) in (r.0, omega (arith, r.1))

ended-none : (most : ℕ) (bytes : List ℕ) (at : ℕ) → IsEnded most bytes at → first_error most bytes at ≡ None
ended-none most bytes at s =
    let r = left-of most (length s.happened) s.few in
    records-before most bytes at s.happened s.last (suc r.0) r.1 s.before ∙ error-end r.0 bytes s.last s.next s.ends

unread-some : (most : ℕ) (bytes : List ℕ) (at : ℕ) (fault : ScriptFault) → IsUnread most bytes at fault
    → first_error most bytes at ≡ Some (Record fault)
unread-some most bytes at fault s =
    let r = left-of most (length s.happened) s.few in
    records-before most bytes at s.happened s.last (suc r.0) r.1 s.before ∙ error-here r.0 bytes s.last fault s.wrong

endless-some : (most : ℕ) (bytes : List ℕ) (at : ℕ) → IsEndless most bytes at
    → first_error most bytes at ≡ Some TooMany
endless-some most bytes at s =
    records-before most bytes at s.happened s.last 0 (omega (arith, s.many)) s.before ∙ error-past bytes s.last

-- of bytes that are not too many
pub error-short : (bytes : List ℕ) → length bytes ≤ SCRIPT_LIMIT
    → script_error bytes ≡ first_error RECORD_LIMIT bytes 0
error-short bytes short =
    ap (λ t. cond t (Some TooLarge) (first_error RECORD_LIMIT bytes 0)) (le-ltb SCRIPT_LIMIT (length bytes) short)

pub error-large : (bytes : List ℕ) → SCRIPT_LIMIT < length bytes → script_error bytes ≡ Some TooLarge
error-large bytes long =
    ap (λ t. cond t (Some TooLarge) (first_error RECORD_LIMIT bytes 0)) (lt-ltb SCRIPT_LIMIT (length bytes) long)

-- bytes without an error are a script
pub script-formed : (bytes : List ℕ) → script_error bytes ≡ None → IsScript bytes
script-formed bytes is = go (nat_lt SCRIPT_LIMIT (length bytes)) refl is
  where
    go : (t : Bool) → nat_lt SCRIPT_LIMIT (length bytes) ≡ t
        → cond t (Some TooLarge) (first_error RECORD_LIMIT bytes 0) ≡ None → IsScript bytes
    go true long e = cc
    go false short e = record {
      short = ltb-false SCRIPT_LIMIT (length bytes) short;
      ended = judged-none RECORD_LIMIT bytes 0 (first_error RECORD_LIMIT bytes 0)
          (judged-records RECORD_LIMIT bytes 0) e;
    }

pub script-exact : (bytes : List ℕ) → IsScript bytes → script_error bytes ≡ None
script-exact bytes is = error-short bytes is.short ∙ ended-none RECORD_LIMIT bytes 0 is.ended

too-large : (bytes : List ℕ) (error : ScriptError) → SCRIPT_LIMIT < length bytes → Some TooLarge ≡ Some error
    → IsScriptError bytes error
too-large bytes TooLarge long e = long
too-large bytes (Record fault) long e = cc
too-large bytes TooMany long e = cc

-- an error is the one that the rules name
pub error-told : (bytes : List ℕ) (error : ScriptError) → script_error bytes ≡ Some error → IsScriptError bytes error
error-told bytes error is = go (nat_lt SCRIPT_LIMIT (length bytes)) refl is
  where
    go : (t : Bool) → nat_lt SCRIPT_LIMIT (length bytes) ≡ t
        → cond t (Some TooLarge) (first_error RECORD_LIMIT bytes 0) ≡ Some error → IsScriptError bytes error
    go true long e = too-large bytes error (ltb-true SCRIPT_LIMIT (length bytes) long) e
    go false short e =
        judged-some bytes (first_error RECORD_LIMIT bytes 0) error (ltb-false SCRIPT_LIMIT (length bytes) short)
        (judged-records RECORD_LIMIT bytes 0) e

pub error-exact : (bytes : List ℕ) (error : ScriptError) → IsScriptError bytes error → script_error bytes ≡ Some error
error-exact bytes TooLarge long = error-large bytes long
error-exact bytes (Record fault) (short, s) = error-short bytes short ∙ unread-some RECORD_LIMIT bytes 0 fault s
error-exact bytes TooMany (short, s) = error-short bytes short ∙ endless-some RECORD_LIMIT bytes 0 s

-- so many records may still be read, of which this is the first
one-left : (most n : ℕ) → n < most → most - n ≡ suc (most - (n + 1))
one-left most n lt = omega (arith, lt)

pub left-more : (most n : ℕ) (bytes : List ℕ) (at : ℕ) (e : EventView) (next : ℕ) → n < most
    → event_at bytes at ≡ Ok (e, next) → is_end e ≡ false
    → first_error (most - n) bytes at ≡ first_error (most - (n + 1)) bytes next
left-more most n bytes at e next lt is more =
    ap (λ k. first_error k bytes at) (one-left most n lt) ∙ error-more (most - (n + 1)) bytes at e next is more

left-end : (most n : ℕ) (bytes : List ℕ) (at next : ℕ) → n < most → event_at bytes at ≡ Ok (End, next)
    → first_error (most - n) bytes at ≡ None
left-end most n bytes at next lt is =
    ap (λ k. first_error k bytes at) (one-left most n lt) ∙ error-end (most - (n + 1)) bytes at next is

pub left-last : (most n : ℕ) (bytes : List ℕ) (at : ℕ) (e : EventView) (next : ℕ) → n < most
    → event_at bytes at ≡ Ok (e, next) → is_end e ≡ true → first_error (most - n) bytes at ≡ None
left-last most n bytes at e next lt is last =
    left-end most n bytes at next lt (is ∙ ap (λ x. Ok (x, next)) (end-is e last))

pub left-here : (most n : ℕ) (bytes : List ℕ) (at : ℕ) (fault : ScriptFault) → n < most
    → event_at bytes at ≡ Err fault → first_error (most - n) bytes at ≡ Some (Record fault)
left-here most n bytes at fault lt is =
    ap (λ k. first_error k bytes at) (one-left most n lt) ∙ error-here (most - (n + 1)) bytes at fault is

pub left-none : (most n : ℕ) (bytes : List ℕ) (at : ℕ) → most ≤ n → first_error (most - n) bytes at ≡ Some TooMany
left-none most n bytes at le =
    let none : most - n ≡ 0 = omega (arith, le) in
    ap (λ k. first_error k bytes at) none ∙ error-past bytes at
