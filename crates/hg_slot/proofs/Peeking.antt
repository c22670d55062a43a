-- What a reader of one record finds on a page that may be damaged.
use Rattle.std.specs.Prelude.{◌≡◌, ◌≢◌, ℕ, ◌+◌, ◌-◌, ◌<◌, ◌≤◌, ◌==◌, ◌&&◌, ◌||◌, nat_lt, not, Bool, true, false, List, take, drop, slice_index, None, Some, Err, if◌then◌else◌}
use Rattle.std.proofs.Common.{◌∙◌, ap, refl, arith, lt-ltb, eq-eqb, ne_eqb}
use Rattle.std.proofs.lemmas.Bool.{le-ltb}
use Rattle.hg_base.specs.declared.Check.{Check}
use Rattle.hg_base.specs.declared.Check.TheVariants.{Kind, Size, Frame, Link, Level, Order, RowBytes}
use Rattle.hg_slot.specs.Slotted.{slots, offset, size, record_at, HasGap, IsSlotted}
use Rattle.hg_slot.specs.Changing.{HeadChecked, InsertChecked, IsWrong, reaches_past, fault_at}
use Rattle.hg_slot.proofs.Slots.{shown-empty, shown-here, shown-out}
use Rattle.hg_slot.proofs.Finding.{inside}

pub many : (page : List ℕ) → 128 < slots page → IsSlotted page → ⊥
many page h s = absurd (omega (arith, s.few))

pub too_long : (page : List ℕ) (k from n : ℕ) → k < slots page → from ≡ offset page k → n ≡ size page k → 4096 < from + n → IsSlotted page → ⊥
too_long page k from n h e f l s = absurd (omega (arith, inside page k s h))

pub peeked : (page : List ℕ) (k from n : ℕ) → k < slots page → from ≡ offset page k → n ≡ size page k → (from ≡ 0 → ⊥)
    → record_at page k ≡ Some (take (from + n - from) (drop from page))
peeked page k from n h e f d =
    let g : from + n - from ≡ n = omega arith in
    let s = shown-here page k h (omega arith) in rw (g, e, f) s

-- ---- what is wrong

pub fault-kind : (page : List ℕ) (k : ℕ) → slice_index page 0 ≢ 83 → fault_at page k ≡ Some Kind
unfolding fault_at
fault-kind page k h =
    ap (λ t. if t then (if nat_lt 128 (slots page) || reaches_past page k then Some Size else None) else Some Kind)
    (ne_eqb (slice_index page 0) 83 h)

right_kind : (page : List ℕ) (k : ℕ) → slice_index page 0 ≡ 83 → fault_at page k ≡ (if nat_lt 128 (slots page) || reaches_past page k then Some Size else None)
unfolding fault_at
right_kind page k h =
    ap (λ t. if t then (if nat_lt 128 (slots page) || reaches_past page k then Some Size else None) else Some Kind)
    (eq-eqb (slice_index page 0) 83 h)

pub fault-many : (page : List ℕ) (k : ℕ) → slice_index page 0 ≡ 83 → 128 < slots page → fault_at page k ≡ Some Size
fault-many page k h m =
    right_kind page k h ∙ ap (λ t. if t || reaches_past page k then Some Size else None) (lt-ltb 128 (slots page) m)

-- at most 128 slots: the slot's entry decides
few : (page : List ℕ) (k : ℕ) → slice_index page 0 ≡ 83 → slots page ≤ 128 → fault_at page k ≡ (if reaches_past page k then Some Size else None)
few page k h m =
    right_kind page k h ∙ ap (λ t. if t || reaches_past page k then Some Size else None) (le-ltb 128 (slots page) m)

all_three : (s t u : Bool) → s ≡ true → t ≡ false → u ≡ true → (s && not t && u) ≡ true
all_three s t u p q r = ap (λ x. x && not t && u) p ∙ ap (λ x. not x && u) q ∙ r

second_fails : (s t u : Bool) → t ≡ true → (s && not t && u) ≡ false
second_fails true t u q = ap (λ x. not x && u) q
second_fails false t u q = refl

third_fails : (s t u : Bool) → u ≡ false → (s && not t && u) ≡ false
third_fails true true u r = refl
third_fails true false u r = r
third_fails false t u r = refl

pub fault-past : (page : List ℕ) (k from n : ℕ) → slice_index page 0 ≡ 83 → slots page ≤ 128 → k < slots page
    → from ≡ offset page k → n ≡ size page k → (from ≡ 0 → ⊥) → 4096 < from + n → fault_at page k ≡ Some Size
fault-past page k from n h m l e f d p =
    few page k h m
    ∙ ap (λ t. if t then Some Size else None)
    (all_three (nat_lt k (slots page)) (offset page k == 0) (nat_lt 4096 (offset page k + size page k))
    (lt-ltb k (slots page) l) (ne_eqb (offset page k) 0 (λ z. d (e ∙ z))) (lt-ltb 4096 (offset page k + size page k) (omega arith)))

pub fault-no_slot : (page : List ℕ) (k : ℕ) → slice_index page 0 ≡ 83 → slots page ≤ 128 → slots page ≤ k → fault_at page k ≡ None
fault-no_slot page k h m l =
    few page k h m
    ∙ ap (λ t. if t && not (offset page k == 0) && nat_lt 4096 (offset page k + size page k) then Some Size else None) (le-ltb k (slots page) l)

pub fault-empty : (page : List ℕ) (k : ℕ) → slice_index page 0 ≡ 83 → slots page ≤ 128 → offset page k ≡ 0 → fault_at page k ≡ None
fault-empty page k h m z =
    few page k h m
    ∙ ap (λ t. if t then Some Size else None)
    (second_fails (nat_lt k (slots page)) (offset page k == 0) (nat_lt 4096 (offset page k + size page k)) (eq-eqb (offset page k) 0 z))

pub fault-inside : (page : List ℕ) (k from n : ℕ) → slice_index page 0 ≡ 83 → slots page ≤ 128
    → from ≡ offset page k → n ≡ size page k → from + n ≤ 4096 → fault_at page k ≡ None
fault-inside page k from n h m e f p =
    few page k h m
    ∙ ap (λ t. if t then Some Size else None)
    (third_fails (nat_lt k (slots page)) (offset page k == 0) (nat_lt 4096 (offset page k + size page k))
    (le-ltb 4096 (offset page k + size page k) (omega arith)))

pub ruleset peeking = (many, too_long, peeked, shown-out, shown-empty, fault-kind, fault-many, fault-past, fault-no_slot, fault-empty, fault-inside)

-- ---- what a look at the head, or at all, says of an insertion

pub head_refused : (T : Type 0) (page : List ℕ) (n : ℕ) (e : Check) → HeadChecked page (Err e) → InsertChecked {T = T} page n (Err e)
head_refused T page n Kind h = h
head_refused T page n Size h = (h.0, (λ u g. h.1 u.head), λ s. h.1 (record { few = s.few; behind = s.behind; ends = s.ends }))
head_refused T page n Frame h = h
head_refused T page n Link h = h
head_refused T page n Level h = h
head_refused T page n Order h = h
head_refused T page n RowBytes h = h

pub whole_refused : (T : Type 0) (page : List ℕ) (n : ℕ) (e : Check) → (HasGap page n → ⊥) → IsWrong page e → InsertChecked {T = T} page n (Err e)
whole_refused T page n Kind none h = h
whole_refused T page n Size none h = (h.0, (λ u g. none g), h.1)
whole_refused T page n Frame none h = h
whole_refused T page n Link none h = h
whole_refused T page n Level none h = h
whole_refused T page n Order none h = h
whole_refused T page n RowBytes none h = h

-- a slotted page is never refused, and a refused one is none
pub never_refused : (T : Type 0) (page : List ℕ) (n : ℕ) (e : Check) → IsSlotted page → InsertChecked {T = T} page n (Err e) → ⊥
never_refused T page n Kind s h = h s.kind
never_refused T page n Size s h = h.2 s
never_refused T page n Frame s h = h
never_refused T page n Link s h = h
never_refused T page n Level s h = h
never_refused T page n Order s h = h
never_refused T page n RowBytes s h = h

pub wrong_of : (T : Type 0) (page : List ℕ) (n : ℕ) (e : Check) → InsertChecked {T = T} page n (Err e) → IsWrong page e
wrong_of T page n Kind h = h
wrong_of T page n Size h = (h.0, h.2)
wrong_of T page n Frame h = h
wrong_of T page n Link h = h
wrong_of T page n Level h = h
wrong_of T page n Order h = h
wrong_of T page n RowBytes h = h
