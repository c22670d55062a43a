-- What each call keeps of what a space keeps, and the answers of the calls that change nothing.
use Rattle.std.proofs.Common.{◌≡◌, ℕ, ◌+◌, ◌-◌, ◌/◌, ◌<◌, ◌≤◌, ◌^◌, max, Bool, true, false, List, length, Some, None, refl, sym, ◌∙◌, ap, subst, arith}
use Rattle.std.specs.Prelude.{◌&&◌, not, nat_lt, if◌then◌else◌, slice_index, []}
use Rattle.hg_space.specs.Bits.{is_set, has_bits, Puts, IsFirstSet, HasNoBits, SameWords}
use Rattle.hg_space.specs.Summary.{level_start, PutsUp}
use Rattle.hg_space.specs.PageMap.{IsSound, IsLowestFree, used_count, count_below, unused_pages, with_page, without_page}
use Rattle.hg_space.specs.PageLaws.{count_below-le, count_below-with, count_below-without, count_below-same, count_below-unused, maps_agree}
use Rattle.hg_space.specs.Shown.{Kept, IsKept, reached, is_used, next_of, pages_of}
use Rattle.hg_space.specs.ShownLaws.{nat_lt-true, nat_lt-false, used-within, pages_of_sound}
use Rattle.hg_space.proofs.Steps.{refreed, relinked, used-relinked, retaken, grown, grown-bits, grown-same, root-has, released, taken, lowest-free, page-below}
use Rattle.hg_space.proofs.FreeLemmas.{not-set, none-summary, same-summary}

-- a used page was taken
pub page-within : (s seen : Kept) (n : ℕ) → s ≡ seen → (pages_of seen).used n ≡ true → n < reached s
unfolding pages_of
page-within s seen n e used = used-within s n (ap (λ x. is_used x n) e ∙ used)

pub limit-seen : (s seen : Kept) → s ≡ seen → s.limit ≡ (pages_of seen).limit
unfolding pages_of
limit-seen s seen e = ap (λ x. x.limit) e

pub sound-seen : (s seen : Kept) → s ≡ seen → reached s ≤ s.limit → IsSound (pages_of seen)
sound-seen s seen e within = let P : Kept → Type 0 = λ x. IsSound (pages_of x) in subst P e (pages_of_sound s within)

-- there is room for a page's bit
pub page-room : (s : Kept) (above used page : ℕ) → IsKept s above used → page < reached s → (s.first + page) / 64 < length s.free
page-room s above used page kept l = omega (arith, kept.room)

pub page-low : (s : Kept) (above used page : ℕ) → IsKept s above used → page < reached s → (s.first + page) / 64 ≤ s.first
page-low s above used page kept l = omega (arith, kept.within, kept.enough)

-- a page in use counts
pub count-positive : (s seen : Kept) (used page : ℕ) → s ≡ seen → (pages_of seen).used page ≡ true → reached s ≤ s.limit → used ≡ used_count (pages_of s) → 1 ≤ used
unfolding pages_of
count-positive s seen used page e is_used_page within count =
    let l : page < s.limit = omega (arith, page-within s seen page e is_used_page) in
    let here : (pages_of s).used page ≡ true = ap (λ x. (pages_of x).used page) e ∙ is_used_page in
    omega (arith, count, count_below-without (pages_of s) s.limit page l here)

-- the answers of `is_used`
pub used-answer : (s seen : Kept) (ws : List ℕ) (n : ℕ) (b : Bool) → s ≡ seen → ws ≡ s.free → n < reached s → b ≡ is_set ws (s.first + n)
    → not b ≡ (pages_of seen).used n
unfolding pages_of
used-answer s seen ws n b e same l is =
    ap not (is ∙ ap (λ x. is_set x (s.first + n)) same)
    ∙ ap (λ t. t && not (is_set s.free (s.first + n))) (sym (nat_lt-true n (reached s) l))
    ∙ ap (λ x. is_used x n) e

pub unused-answer : (s seen : Kept) (n : ℕ) → s ≡ seen → reached s ≤ n → nat_lt n (reached s) ≡ (pages_of seen).used n
unfolding pages_of
unused-answer s seen n e l =
    nat_lt-false n (reached s) l
    ∙ ap (λ t. t && not (is_set s.free (s.first + n))) (sym (nat_lt-false n (reached s) l))
    ∙ ap (λ x. is_used x n) e

-- the answers of `next`
pub linked-answer : (s seen : Kept) (ws : List ℕ) (n x : ℕ) (b : Bool) → s ≡ seen → ws ≡ s.linked → (pages_of seen).used n ≡ true
    → b ≡ is_set ws n → b ≡ true → x ≡ slice_index s.links n → Some x ≡ (pages_of seen).next n
unfolding pages_of
linked-answer s seen ws n x b e same used is yes_linked value =
    let here : is_used s n ≡ true = ap (λ k. is_used k n) e ∙ used in
    let linked : is_set s.linked n ≡ true = ap (λ k. is_set k n) (sym same) ∙ sym is ∙ yes_linked in
    ap Some value
    ∙ ap (λ t. if t then Some (slice_index s.links n) else None) (sym linked)
    ∙ ap (λ u. if u && is_set s.linked n then Some (slice_index s.links n) else None) (sym here)
    ∙ ap (λ k. next_of k n) e

pub unlinked-answer : (s seen : Kept) (ws : List ℕ) (n : ℕ) (b : Bool) → s ≡ seen → ws ≡ s.linked → (pages_of seen).used n ≡ true
    → b ≡ is_set ws n → b ≡ false → None ≡ (pages_of seen).next n
unfolding pages_of
unlinked-answer s seen ws n b e same used is not_linked =
    let here : is_used s n ≡ true = ap (λ k. is_used k n) e ∙ used in
    let linked : is_set s.linked n ≡ false = ap (λ k. is_set k n) (sym same) ∙ sym is ∙ not_linked in
    ap (λ t. if t then Some (slice_index s.links n) else None) (sym linked)
    ∙ ap (λ u. if u && is_set s.linked n then Some (slice_index s.links n) else None) (sym here)
    ∙ ap (λ k. next_of k n) e

-- A call wrote w where the list d stood that the space keeps, and f stands there now.
pub carried-up : (old d w f : List ℕ) (bit : ℕ) (b : Bool) → d ≡ old → f ≡ w → PutsUp d bit b w → PutsUp old bit b f
carried-up old d w f bit b from to up =
    let P : List ℕ → Type 0 = λ x. PutsUp x bit b f in
    let Q : List ℕ → Type 0 = λ x. PutsUp d bit b x in
    subst P from (subst Q (sym to) up)

pub carried-to : (old d w f : List ℕ) (bit n : ℕ) (b : Bool) → d ≡ old → f ≡ w → n ≡ bit → PutsUp d bit b w → PutsUp old n b f
carried-to old d w f bit n b from to place up =
    let P : ℕ → Type 0 = λ x. PutsUp old x b f in
    subst P (sym place) (carried-up old d w f bit b from to up)

pub carried : (old d w f : List ℕ) (bit : ℕ) (b : Bool) → d ≡ old → f ≡ w → Puts d bit b w → Puts old bit b f
carried old d w f bit b from to put =
    let P : List ℕ → Type 0 = λ x. Puts x bit b f in
    let Q : List ℕ → Type 0 = λ x. Puts d bit b x in
    subst P from (subst Q (sym to) put)

pub kept-released : (s : Kept) (free : List ℕ) (above used page : ℕ) → IsKept s above used → (pages_of s).used page ≡ true → page < reached s
    → PutsUp s.free (s.first + page) true free → length free ≡ length s.free → IsKept (refreed s free) above (used - 1)
unfolding pages_of
kept-released s free above used page kept in_use l up same = record {
  start = kept.start;
  few = kept.few;
  enough = kept.enough;
  within = kept.within;
  room = same ∙ kept.room;
  summary = up.summary s.first (λ i less _. kept.summary i less) (λ less. absurd (omega arith));
  behind = λ n from. up.others (s.first + n) (omega (arith, page-low s above used page kept l)) (omega arith) ∙ kept.behind n from;
  linked_room = kept.linked_room;
  count =
      let low = page-low s above used page kept l in
      let fewer : count_below (without_page (pages_of s) page) s.limit + 1 ≡ used_count (pages_of s) = count_below-without (pages_of s) s.limit page (omega (arith, kept.within)) in_use in
      let less : used - 1 ≡ count_below (without_page (pages_of s) page) s.limit = omega (arith, kept.count, fewer) in
      less ∙ ap (λ m. count_below m s.limit) (sym (released s free page l low up));
}

pub kept-relinked : (s : Kept) (linked links : List ℕ) (above used : ℕ) → IsKept s above used
    → length linked ≡ length s.linked → length links ≡ length s.links → IsKept (relinked s linked links) above used
unfolding pages_of
kept-relinked s linked links above used kept same same_links = record {
  start = kept.start;
  few = kept.few;
  enough = kept.enough;
  within = omega (arith, same_links, kept.within);
  room = kept.room ∙ ap (λ n. (s.first + n) / 64 + 1) (sym same_links);
  summary = kept.summary;
  behind = λ n from. kept.behind n (omega arith);
  linked_room = same ∙ kept.linked_room ∙ ap (λ n. n / 64 + 1) (sym same_links);
  count =
      kept.count
      ∙ count_below-same (pages_of s) (pages_of (relinked s linked links)) s.limit (λ k l. sym (used-relinked s linked links same_links k));
}

-- a page more has a bit
pub kept-grown : (s : Kept) (wider free linked links : List ℕ) (above used : ℕ) → IsKept s above used → reached s < s.limit
    → SameWords s.free wider → PutsUp wider (s.first + reached s) true free → length free ≡ max (length s.free) ((s.first + reached s + 1) / 64 + 1)
    → SameWords s.linked linked → length linked ≡ max (length s.linked) ((reached s + 1) / 64 + 1)
    → length links ≡ reached s + 1 → SameWords s.links links → IsKept (grown s free linked links) above used
kept-grown s wider free linked links above used kept more same up room same_linked linked_room next same_links =
    let low : (s.first + reached s) / 64 ≤ s.first = omega (arith, kept.enough) in
    record {
      start = kept.start;
      few = kept.few;
      enough = kept.enough;
      within = omega (arith, next);
      room = let place : s.first + reached s + 1 ≡ s.first + (reached s + 1) = omega arith in
          omega (arith, room, kept.room, next, place);
      summary = up.summary s.first (λ i l _. same-summary s.free wider s.first same kept.summary i l) (λ l. absurd (omega arith));
      behind = λ n from. grown-bits s wider free low same up n (omega (arith, next)) ∙ kept.behind n (omega (arith, next));
      linked_room = omega (arith, linked_room, kept.linked_room, next);
      count = kept.count ∙ ap used_count (sym (grown-same s wider free linked links low same up same_linked next same_links));
    }

pub grown-root : (s : Kept) (wider free : List ℕ) (above used : ℕ) → IsKept s above used → reached s < s.limit
    → SameWords s.free wider → PutsUp wider (s.first + reached s) true free → has_bits free 0 ≡ true
grown-root s wider free above used kept more same up =
    root-has free s.first (s.first + reached s)
    (up.summary s.first (λ i l _. same-summary s.free wider s.first same kept.summary i l) (λ l. absurd (omega arith)))
    (omega (arith, kept.enough)) up.here

pub kept-taken : (s : Kept) (free linked : List ℕ) (above used page : ℕ) → IsKept s above used → (pages_of s).used page ≡ false → page < reached s
    → PutsUp s.free (s.first + page) false free → Puts s.linked page false linked → length free ≡ length s.free → length linked ≡ length s.linked
    → IsKept (retaken s free linked) above (used + 1)
unfolding pages_of
kept-taken s free linked above used page kept free_page l up put same same_linked = record {
  start = kept.start;
  few = kept.few;
  enough = kept.enough;
  within = kept.within;
  room = same ∙ kept.room;
  summary = up.summary s.first (λ i less _. kept.summary i less) (λ less. absurd (omega arith));
  behind = λ n from. up.others (s.first + n) (omega (arith, page-low s above used page kept l)) (omega arith) ∙ kept.behind n from;
  linked_room = same_linked ∙ kept.linked_room;
  count =
      let low = page-low s above used page kept l in
      ap (λ k. k + 1) kept.count
      ∙ sym (count_below-with (pages_of s) s.limit page (omega (arith, kept.within)) free_page)
      ∙ ap (λ m. count_below m s.limit) (sym (taken s free linked page l low up put));
}

-- one more page fits into the count
pub count-more : (s : Kept) (above used page : ℕ) → IsKept s above used → (pages_of s).used page ≡ false → page < s.limit → used + 1 ≤ s.limit
unfolding pages_of
count-more s above used page kept free_page l =
    omega (arith, kept.count, count_below-with (pages_of s) s.limit page l free_page, count_below-le (with_page (pages_of s) page) s.limit)

-- The first bit that is set is that of the lowest free page.
pub record IsFound (s : Kept) (bit page : ℕ) : Type 0 where
  pub place : s.first + page ≡ bit
  pub inside : page < reached s
  pub below : page < s.limit
  pub lowest : IsLowestFree (pages_of s) page

pub found : (s : Kept) (d : List ℕ) (above used bit : ℕ) → IsKept s above used → d ≡ s.free → IsFirstSet d (level_start above) bit → IsFound s bit (bit - s.first)
found s d above used bit kept from first =
    let P : List ℕ → Type 0 = λ x. IsFirstSet x (level_start above) bit in
    let Q : ℕ → Type 0 = λ x. IsFirstSet s.free x bit in
    let here : IsFirstSet s.free s.first bit = subst Q (sym kept.start) (subst P from first) in
    let place : s.first + (bit - s.first) ≡ bit = omega (arith, here.from) in
    let R : ℕ → Type 0 = λ x. IsFirstSet s.free s.first x in
    let there : IsFirstSet s.free s.first (s.first + (bit - s.first)) = subst R (sym place) here in
    let inside : bit - s.first < reached s = page-below s (bit - s.first) kept.behind there.here in
    record {
      place = place;
      inside = inside;
      below = omega (arith, kept.within);
      lowest = lowest-free s (bit - s.first) inside kept.within there;
    }

pub is_used-of : (s seen : Kept) (n : ℕ) → s ≡ seen → (pages_of seen).used n ≡ true → is_used s n ≡ true
unfolding pages_of
is_used-of s seen n e used = ap (λ x. is_used x n) e ∙ used

-- A space in which no page was ever taken.
pub none-used : (s : Kept) → s.links ≡ [] → (n : ℕ) → is_used s n ≡ false
none-used s none n = ap (λ t. t && not (is_set s.free (s.first + n))) (nat_lt-false n (reached s) (let e : reached s ≡ 0 = ap length none in omega arith))

pub made-unused : (s : Kept) → s.links ≡ [] → pages_of s ≡ unused_pages s.limit
unfolding pages_of
made-unused s none =
    maps_agree (pages_of s) (unused_pages s.limit) refl (none-used s none)
    (λ n. ap (λ u. if u && is_set s.linked n then Some (slice_index s.links n) else None) (none-used s none n))

pub kept-made : (s : Kept) (above : ℕ) → s.first ≡ level_start above → s.first < 2 ^ 34 → (s.first + s.limit) / 64 ≤ s.first
    → length s.free ≡ s.first / 64 + 1 → HasNoBits s.free → length s.linked ≡ 1 → s.links ≡ [] → IsKept s above 0
unfolding pages_of
kept-made s above start few enough room none linked_room taken_none =
    let e : reached s ≡ 0 = ap length taken_none in
    record {
      start = start;
      few = few;
      enough = enough;
      within = omega (arith, e);
      room = room ∙ omega (arith, e);
      summary = none-summary s.free s.first none;
      behind = λ n from. not-set s.free (s.first + n) (none ((s.first + n) / 64));
      linked_room = linked_room ∙ omega (arith, e);
      count = sym (count_below-unused (pages_of s) s.limit (none-used s taken_none));
    }
