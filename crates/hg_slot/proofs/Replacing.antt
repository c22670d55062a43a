-- What a page shows once the bytes of a record are other ones, as many.
use Rattle.std.specs.Prelude.{◌≡◌, ℕ, ◌+◌, ◌-◌, ◌≤◌, zero, suc, List, [], ◌∷◌, ◌++◌, length, take, drop, Some}
use Rattle.std.proofs.Common.{◌∙◌, ap, refl, arith, length-take, length-drop}
use borrow.Rule.Slice.PartMut.{put_mid}
use Rattle.hg_slot.specs.Slotted.{offset, size, IsSlotted, IsRecord}
use Rattle.hg_slot.specs.Changing.{Overwrites, Replaces, with_record}
use Rattle.hg_slot.specs.Writing.{WritesBytes}
use Rattle.hg_slot.proofs.Numbers.{writes_bytes}
use Rattle.hg_slot.proofs.Overwriting.{overwritten}

nothing-left : (r : List ℕ) (n : ℕ) → length r ≤ n → drop n r ≡ []
nothing-left [] zero h = refl
nothing-left [] (suc n) h = refl
nothing-left (x ∷ r) zero h = absurd (omega arith)
nothing-left (x ∷ r) (suc n) h = nothing-left r n (omega arith)

behind-nothing : (w : List ℕ) → w ++ [] ≡ w
behind-nothing [] = refl
behind-nothing (x ∷ w) = ap (λ l. x ∷ l) (behind-nothing w)

-- all of a list replaced
all-put : (r w : List ℕ) → length r ≡ length w → put_mid 0 (length w) r w ≡ w
all-put r w e = ap (λ l. w ++ l) (nothing-left r (length w) (omega arith)) ∙ behind-nothing w

pub replaced : (a w : List ℕ) (i from n : ℕ) → IsSlotted a → IsRecord a i from n → length w ≡ n → Replaces a (with_record a i w) i w
replaced a w i from n s r e =
    let f = r.from_is in
    let g = r.size_is in
    let whole = s.whole in
    let b : WritesBytes a (with_record a i w) (offset a i) w = writes_bytes a w (offset a i) (size a i) (omega arith) (omega arith) in
    let p : from + 0 ≡ offset a i = omega arith in
    let o : Overwrites a (with_record a i w) i 0 w = overwritten a (with_record a i w) w i from n 0 s r (omega arith) (rw p b) in
    let d : length (drop from a) ≡ length a - from = length-drop from a in
    let l : length (take n (drop from a)) ≡ length w = length-take n (drop from a) ∙ omega arith in
    record {
      clean = o.clean;
      slotted = o.slotted;
      here = o.here (take n (drop from a)) r.shown ∙ ap Some (all-put (take n (drop from a)) w l);
      others = o.others;
      count = o.count;
      lowest = o.lowest;
    }
