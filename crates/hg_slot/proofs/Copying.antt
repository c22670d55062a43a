-- A record copied into a page that is built.
use Rattle.std.specs.Prelude.{◌≡◌, ℕ, ◌+◌, ◌<◌, ◌≤◌, List, length, Some}
use Rattle.std.proofs.Common.{sym, ◌∙◌, ap, arith, inl, inr}
use Rattle.std.proofs.lemmas.Bool.{cases_eq}
use Rattle.hg_slot.specs.Slotted.{slots, lowest, record_at, length_of, used, IsSlotted, IsUsable, IsRecord}
use Rattle.hg_slot.specs.Changing.{Rebuilds, Lands, slots_end}
use Rattle.hg_slot.proofs.Slots.{shown-out}
use Rattle.hg_slot.proofs.Finding.{lengths-next, length-shown}
use Rattle.hg_slot.proofs.Closing.{up_to}
use Rattle.hg_slot.proofs.Placing.{Landed, landed_on, shown_after, usable_of}

pub copy_room : (a b : List ℕ) (k from n : ℕ) → IsSlotted a → used a ≤ 4096 → Rebuilds a b k → IsRecord a k from n → slots_end b k + (n + 0) ≤ lowest b
copy_room a b k from n s u r e =
    let h = e.is_slot in let size = e.size_is in let count = r.count in let low = r.low in
    let up = up_to a k h in let long = length-shown a k s h in omega arith

pub copy_usable : (a b : List ℕ) (k : ℕ) → Rebuilds a b k → IsUsable b
copy_usable a b k r = usable_of b r.slotted

pub copy_few : (a b : List ℕ) (k : ℕ) → IsSlotted a → k < slots a → k < 128
copy_few a b k s h = let few = s.few in omega arith

pub copied_full : (a b d x : List ℕ) (k : ℕ) → IsSlotted a → k < slots a → used a ≤ 4096 → Rebuilds a b k → Lands b d k x → record_at a k ≡ Some x → Rebuilds a d (k + 1)
copied_full a b d x k s h u r l e =
    let few = s.few in let count = r.count in let low = r.low in let up = up_to a k h in
    let n : length_of (record_at a k) ≡ length x = ap length_of e in
    let room : slots_end b k + length x ≤ lowest b = omega arith in
    let p : Landed b d k = landed_on b d x k r.slotted (shown-out b k (omega arith)) (omega arith) (omega arith) room l in
    record {
      clean = p.clean r.clean;
      slotted = p.slotted;
      count = let c = l.count in omega arith;
      same = λ j g. elim (cases_eq j k) [
        | inl i ↦ ap (record_at d) i ∙ shown_after b d x k room l ∙ sym e ∙ ap (record_at a) (sym i)
        | inr m ↦ p.others j m ∙ r.same j (omega arith)
      ];
      low = let f = l.low in omega (arith, lengths-next a k);
    }

pub ruleset copying = (copy_usable, copy_few)
