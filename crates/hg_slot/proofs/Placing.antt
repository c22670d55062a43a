-- A record put right below the place that the head names, whatever the slots say; and what it does to a
-- slotted page.
use Rattle.std.specs.Prelude.{◌≡◌, ◌≢◌, ℕ, ◌+◌, ◌*◌, ◌<◌, ◌≤◌, ◌⊎◌, max, List, length, take, drop, slice_index, Some, None, ◌++◌}
use Rattle.std.specs.Int.{w16, from_le_bytes}
use Rattle.std.proofs.Common.{sym, ◌∙◌, ap, subst, refl, arith, inl, inr, length-append}
use Rattle.std.proofs.lemmas.Bool.{cases_lt}
use Rattle.hg_base.specs.Parts.{parts}
use Rattle.hg_slot.specs.Slotted.{number, slots, lowest, offset, size, record_at, HasExactLowest, HasGap, Fits, IsOf, IsClean, IsSlotted, IsUsable}
use Rattle.hg_slot.specs.Writing.{Written, WritesNumber, WritesSlot, WritesBytes}
use Rattle.hg_slot.specs.Changing.{KeepsOthers, Lands, IsPut, IsFullFor, IsFirstEmpty, MakesRoom, slots_end}
use Rattle.hg_slot.proofs.Numbers.{number-before, number-behind}
use Rattle.hg_slot.proofs.Clean.{byte-of, slot_beside, outside, clean_after, empty-size}
use Rattle.hg_slot.proofs.Slots.{shown-here, shown-out, shows-none, Changes, others-kept, slotted-after}
use Rattle.hg_slot.proofs.Steps.{stands, stands-of}
use Rattle.hg_slot.proofs.Closing.{fits_few, fits_room}
use Rattle.hg_slot.proofs.Counting.{gap_fits}

pub usable_of : (page : List ℕ) → IsSlotted page → IsUsable page
usable_of page s = record { whole = s.whole; kind = s.kind; head = record { few = s.few; behind = s.behind; ends = s.ends } }

-- a part beside a write
kept : (a b : List ℕ) (at n m k : ℕ) → Written a b at n → (m + k ≤ at) ⊎ (at + n ≤ m) → take k (drop m b) ≡ take k (drop m a)
kept a b at n m k w (inl h) = w.before m k h
kept a b at n m k w (inr h) = w.behind m k h

by_two : (m n : ℕ) → (m + n ≤ 2) ⊎ (6 ≤ m) → (m + n ≤ 2) ⊎ (2 + 2 ≤ m)
by_two m n (inl h) = inl h
by_two m n (inr h) = inr (omega arith)

by_four : (m n : ℕ) → (m + n ≤ 2) ⊎ (6 ≤ m) → (m + n ≤ 4) ⊎ (4 + 2 ≤ m)
by_four m n (inl h) = inl (omega arith)
by_four m n (inr h) = inr h

by_slot : (m n i : ℕ) → (m + n ≤ 16 + 4 * i) ⊎ (20 + 4 * i ≤ m) → (m + n ≤ 16 + 4 * i) ⊎ (16 + 4 * i + 4 ≤ m)
by_slot m n i (inl h) = inl h
by_slot m n i (inr h) = inr (omega arith)

by_part : (m n low high from k : ℕ) → low ≤ from → from + k ≤ high → (m + n ≤ low) ⊎ (high ≤ m) → (m + n ≤ from) ⊎ (from + k ≤ m)
by_part m n low high from k l h (inl g) = inl (omega arith)
by_part m n low high from k l h (inr g) = inr (omega arith)

pub landed : (a b c d e g f r : List ℕ) (i at count n : ℕ) → at + (length f + length r) ≡ lowest a → slots_end a i ≤ at → count ≡ max (slots a) (i + 1)
    → n ≡ length f + length r → WritesBytes a b at f → WritesBytes b c (at + length f) r → WritesSlot c d i at n → WritesNumber d e 2 count → WritesNumber e g 4 at
    → Lands a g i (f ++ r)
landed a b c d e g f r i at count n low room k size v w t u x =
    let long : length (f ++ r) ≡ length f + length r = length-append f r in
    let from : lowest g ≡ at = x.here in
    let to_c : (m q : ℕ) → at ≤ m → take q (drop m g) ≡ take q (drop m c) = λ m q h.
    x.only.behind m q (omega arith) ∙ u.only.behind m q (omega arith) ∙ t.only.behind m q (omega arith) in
    record {
      same_length = x.only.same_length ∙ u.only.same_length ∙ t.only.same_length ∙ w.only.same_length ∙ v.only.same_length;
      count = number-before e g 4 2 2 x.only (omega arith) ∙ u.here ∙ k;
      low = omega arith;
      begins = number-behind e g 4 2 (16 + 4 * i) x.only (omega arith) ∙ number-behind d e 2 2 (16 + 4 * i) u.only (omega arith) ∙ t.offset ∙ sym from;
      long = number-behind e g 4 2 (18 + 4 * i) x.only (omega arith) ∙ number-behind d e 2 2 (18 + 4 * i) u.only (omega arith) ∙ t.size ∙ size ∙ sym long;
      here = ap (λ p. take (length (f ++ r)) (drop p g)) from
          ∙ ap (λ q. take q (drop at g)) long
          ∙ parts g at (length f) (length r)
          ∙ ap (λ l. l ++ take (length r) (drop (at + length f) g)) (to_c at (length f) (omega arith) ∙ w.only.before at (length f) (omega arith) ∙ v.here)
          ∙ ap (λ l. f ++ l) (to_c (at + length f) (length r) (omega arith) ∙ w.here);
      beside = λ m q h s p.
          let p' : (m + q ≤ at) ⊎ (lowest a ≤ m) = subst (λ y. (m + q ≤ y) ⊎ (lowest a ≤ m)) from p in
          kept e g 4 2 m q x.only (by_four m q h)
          ∙ kept d e 2 2 m q u.only (by_two m q h)
          ∙ kept c d (16 + 4 * i) 4 m q t.only (by_slot m q i s)
          ∙ kept b c (at + length f) (length r) m q w.only (by_part m q at (lowest a) (at + length f) (length r) (omega arith) (omega arith) p')
          ∙ kept a b at (length f) m q v.only (by_part m q at (lowest a) at (length f) (omega arith) (omega arith) p');
    }

-- what is known of it
number-part : (a b : List ℕ) (m : ℕ) → take 2 (drop m b) ≡ take 2 (drop m a) → number b m ≡ number a m
unfolding number
number-part a b m e = ap (from_le_bytes w16) e

byte-part : (a b : List ℕ) (x : ℕ) → take 1 (drop x b) ≡ take 1 (drop x a) → slice_index b x ≡ slice_index a x
byte-part a b x e = sym (byte-of b x) ∙ ap (λ l. slice_index l 0) e ∙ byte-of a x

pub usable_after : (a d x : List ℕ) (i : ℕ) → IsUsable a → i < 128 → slots_end a i + length x ≤ lowest a → Lands a d i x → IsUsable d
usable_after a d x i u h room l =
    let whole = u.whole in let few = u.head.few in let ends = u.head.ends in let low = l.low in let count = l.count in
    record {
      whole = l.same_length ∙ u.whole;
      kind = byte-part a d 0 (l.beside 0 1 (inl (omega arith)) (inl (omega arith)) (inl (omega arith))) ∙ u.kind;
      head = record { few = omega arith; behind = omega arith; ends = omega arith };
    }

pub shown_after : (a d x : List ℕ) (i : ℕ) → slots_end a i + length x ≤ lowest a → Lands a d i x → record_at d i ≡ Some x
shown_after a d x i room l =
    let low = l.low in let count = l.count in let begins = l.begins in
    shown-here d i (omega arith) (omega arith)
    ∙ ap Some (ap (λ n. take n (drop (offset d i) d)) l.long ∙ ap (λ m. take (length x) (drop m d)) begins ∙ l.here)

-- what it does to a slotted page
pub record Landed (a d : List ℕ) (i : ℕ) : Type 0 where
  pub slotted : IsSlotted d
  pub clean : IsClean a → IsClean d
  pub others : KeepsOthers a d i
  pub exact : HasExactLowest d

by_head : (x : ℕ) → (x ≡ 1) ⊎ (6 ≤ x) → (x + 1 ≤ 2) ⊎ (6 ≤ x)
by_head x (inl e) = inl (omega arith)
by_head x (inr h) = inr h

next_by : (x n m : ℕ) → (x < n) ⊎ (m ≤ x) → (x + 1 ≤ n) ⊎ (m ≤ x)
next_by x n m (inl h) = inl (omega arith)
next_by x n m (inr h) = inr h

pub landed_on : (a d x : List ℕ) (i : ℕ) → IsSlotted a → record_at a i ≡ None → i ≤ slots a → i < 128 → slots_end a i + length x ≤ lowest a → Lands a d i x → Landed a d i
landed_on a d x i s none near h room l =
    let whole = s.whole in let ends = s.ends in let few = s.few in let behind = s.behind in
    let low = l.low in let count = l.count in let begins = l.begins in let long = l.long in
    let num : (m : ℕ) → (6 ≤ m) → (m + 2 ≤ 16 + 4 * i) ⊎ (20 + 4 * i ≤ m) → m + 2 ≤ lowest d → number d m ≡ number a m = λ m p q t.
    number-part a d m (l.beside m 2 (inr p) q (inl t)) in
    let side : (k j : ℕ) → k ≢ i → j ≤ 2 → (16 + 4 * k + j + 2 ≤ 16 + 4 * i) ⊎ (20 + 4 * i ≤ 16 + 4 * k + j) = λ k j n b. elim (cases_lt k i) [
      | inl g ↦ inl (omega arith)
      | inr g ↦ inr (omega arith)
    ] in
    let off : (k : ℕ) → k < slots a → k ≢ i → offset d k ≡ offset a k = λ k g n.
    (let q : (16 + 4 * k + 2 ≤ 16 + 4 * i) ⊎ (20 + 4 * i ≤ 16 + 4 * k) = (let e : 16 + 4 * k + 0 ≡ 16 + 4 * k = omega arith in subst (λ y. (y + 2 ≤ 16 + 4 * i) ⊎ (20 + 4 * i ≤ y)) e (side k 0 n (omega arith))) in
    num (16 + 4 * k) (omega arith) q (omega arith)) in
    let siz : (k : ℕ) → k < slots a → k ≢ i → size d k ≡ size a k = λ k g n.
    (let q : (18 + 4 * k + 2 ≤ 16 + 4 * i) ⊎ (20 + 4 * i ≤ 18 + 4 * k) = (let e : 16 + 4 * k + 2 ≡ 18 + 4 * k = omega arith in subst (λ y. (y + 2 ≤ 16 + 4 * i) ⊎ (20 + 4 * i ≤ y)) e (side k 2 n (omega arith))) in
    num (18 + 4 * k) (omega arith) q (omega arith)) in
    let empty_here : (y : ℕ) → i < slots a → IsOf a i y → ⊥ = λ y g o.
    (let z : offset a i ≡ 0 = shows-none a i g none in let e = empty-size a i s g z in let f = o.from in let t = o.to in absurd (omega arith)) in
    let t : Changes a d i = record {
      same_length = l.same_length;
      kind = byte-part a d 0 (l.beside 0 1 (inl (omega arith)) (inl (omega arith)) (inl (omega arith)));
      grown = omega arith;
      one_more = λ k g n. omega arith;
      lower = omega arith;
      same_offset = off;
      same_size = siz;
      same_body = λ k g n p.
          let st = stands a k s g p in
          ap (λ q. take q (drop (offset d k) d)) (siz k g n) ∙ ap (λ m. take (size a k) (drop m d)) (off k g n)
          ∙ l.beside (offset a k) (size a k) (inr (omega arith)) (inr (omega arith)) (inr st);
    } in
    record {
      clean = clean_after a d i s t (λ y q. inr (
        byte-part a d y (l.beside y 1 (by_head y q.no_head)
            (elim (slot_beside a d i y (omega arith) q.no_slot) [ inl g ↦ inl (omega arith) | inr g ↦ inr (omega arith) ])
            (elim (outside d i y (omega arith) (lowest d) (length x) begins long q.no_record) [ inl g ↦ inl (omega arith) | inr g ↦ inr (omega arith) ])),
        empty_here y,
      ));
      slotted = slotted-after a d i s t (omega arith) (omega arith) (inr (omega arith, omega arith))
          (λ k y g n o q. let st = stands-of a k y s g o in let to = q.to in absurd (omega arith));
      others = others-kept a d i t;
      exact = inr (record { slot = i; is_slot = omega arith; full = omega arith; here = begins });
    }

-- a new slot in the gap
pub appended : (a d f r : List ℕ) (i : ℕ) → IsUsable a → i ≡ slots a → HasGap a (length f + length r) → Lands a d i (f ++ r) → IsPut a d i (f ++ r)
appended a d f r i u e g l =
    let few = g.few in let room = g.room in
    let long : length (f ++ r) ≡ length f + length r = length-append f r in
    let fits : slots_end a i + length (f ++ r) ≤ lowest a = omega arith in
    let here = shown_after a d (f ++ r) i fits l in
    let none : record_at a i ≡ None = shown-out a i (omega arith) in
    let gap : HasGap a (length (f ++ r)) = record { few = few; room = omega arith } in
    record {
      usable = usable_after a d (f ++ r) i u (omega arith) fits l;
      here = here;
      new_slot = λ h. e;
      in_place = λ h. l;
      inserted = λ s.
          let p : Landed a d i = landed_on a d (f ++ r) i s none (omega arith) (omega arith) fits l in
          record {
            slotted = p.slotted;
            clean = p.clean;
            was_empty = none;
            first = λ n. absurd (n gap);
            here = here;
            others = p.others;
            count = l.count;
            lowest = p.exact;
          };
      fits = λ s. gap_fits a (length (f ++ r)) s gap;
    }

-- where there is no gap
pub put_there : (a b d f r : List ℕ) (i need : ℕ) → IsSlotted a → (HasGap a (length f + length r) → ⊥) → IsFirstEmpty a i → Fits a (length f + length r)
    → need ≡ slots_end a i + (length f + length r) → MakesRoom a b need → Lands b d i (f ++ r) → IsPut a d i (f ++ r)
put_there a b d f r i need s never first fit e m l =
    let long : length (f ++ r) ≡ length f + length r = length-append f r in
    let count = m.count in let room = m.room in let near = first.is_near in
    let few : max (slots a) (i + 1) ≤ 128 = fits_few a i (length f + length r) s first fit in
    let fits : slots_end b i + length (f ++ r) ≤ lowest b = omega arith in
    let here = shown_after b d (f ++ r) i fits l in
    let p : Landed b d i = landed_on b d (f ++ r) i m.slotted (m.all i ∙ first.empty) (omega arith) (omega arith) fits l in
    record {
      usable = usable_after b d (f ++ r) i (usable_of b m.slotted) (omega arith) fits l;
      here = here;
      new_slot = λ g. absurd (never (subst (HasGap a) long g));
      in_place = λ h. subst (λ z. Lands z d i (f ++ r)) (m.same (omega arith)) l;
      inserted = λ z. record {
        slotted = p.slotted;
        clean = λ c. p.clean (m.clean c);
        was_empty = first.empty;
        first = λ n. first.first;
        here = here;
        others = λ k n. p.others k n ∙ m.all k;
        count = l.count ∙ ap (λ n. max n (i + 1)) count;
        lowest = p.exact;
      };
      fits = λ z. subst (Fits a) (sym long) fit;
    }

pub full_there : (a : List ℕ) (n : ℕ) → IsSlotted a → (Fits a n → ⊥) → IsFullFor a a n
full_there a n s f = record { same = refl; slotted = s; full = f }

pub usable_made : (a b : List ℕ) (need : ℕ) → MakesRoom a b need → IsUsable b
usable_made a b need m = usable_of b m.slotted

pub near_made : (a b : List ℕ) (i need : ℕ) → IsFirstEmpty a i → MakesRoom a b need → i ≤ slots b
near_made a b i need f m = let near = f.is_near in let count = m.count in omega arith

pub few_made : (a : List ℕ) (i n : ℕ) → IsSlotted a → IsFirstEmpty a i → Fits a n → i < 128
few_made a i n s f fit = let few = fits_few a i n s f fit in omega arith

pub room_made_for : (a b : List ℕ) (i n need : ℕ) → need ≡ slots_end a i + n → MakesRoom a b need → slots_end b i + n ≤ lowest b
room_made_for a b i n need e m = let count = m.count in let room = m.room in omega arith

pub ruleset putting = (usable_of, appended, put_there, full_there, usable_made, near_made, few_made, room_made_for, fits_few, fits_room)
