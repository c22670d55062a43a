-- What each call makes of the map that a space shows.
use Rattle.std.proofs.Common.{◌≡◌, ◌≢◌, ℕ, zero, suc, ◌+◌, ◌-◌, ◌/◌, ◌%◌, ◌<◌, ◌≤◌, ◌==◌, Bool, true, false, List, length, Some, None, refl, sym, ◌∙◌, ap, inl, inr, arith, get_or-set_same, get_or-set_other}
use Rattle.std.proofs.Math.ListN.{length-set}
use Rattle.std.proofs.lemmas.List.{get_or-append_right}
use Rattle.std.specs.Prelude.{◌&&◌, not, nat_lt, Option, if◌then◌else◌, slice_index, slice_set, [], ◌∷◌, ◌++◌}
use Rattle.std.proofs.lemmas.Bool.{false≢true}
use Rattle.std.proofs.lemmas.Bool.Decides.{eqb_tells, leb_tells, nat_tests}
use Rattle.std.proofs.Math.ListN.{get_or-eq_default, get_or-append}
use Rattle.std.specs.Int.{bit_at}
use Rattle.hg_base.specs.Space.{at}
use Rattle.hg_space.specs.Bits.{is_set, has_bits, Puts, IsFirstSet, SameWords}
use Rattle.hg_space.specs.Summary.{IsSummary, PutsUp}
use Rattle.hg_space.specs.PageMap.{IsFull, IsLowestFree, with_page, without_page, with_next}
use Rattle.hg_space.specs.PageLaws.{maps_agree, at-here, at-other}
use Rattle.hg_space.specs.Shown.{Kept, reached, is_used, next_of, pages_of}
use Rattle.hg_space.specs.ShownLaws.{nat_lt-true, nat_lt-false}
use Rattle.hg_space.proofs.FreeLemmas.{not-set}

not-not : (b : Bool) → not (not b) ≡ b
not-not true = refl
not-not false = refl

and-false : (b : Bool) → (b && false) ≡ false
and-false true = refl
and-false false = refl

abbrev next_as : Bool → Bool → ℕ → Option ℕ
next_as u l x = if u && l then Some x else None

next-not_linked : (u : Bool) (x : ℕ) → next_as u false x ≡ None
next-not_linked true x = refl
next-not_linked false x = refl

-- s with another list of free bits
abbrev pub refreed : Kept → List ℕ → Kept
refreed s free = record { limit = s.limit; free = free; first = s.first; linked = s.linked; links = s.links }

-- one page's bit among the free ones is written
used-put : (s : Kept) (free : List ℕ) (page : ℕ) (b : Bool) → page < reached s → (s.first + page) / 64 ≤ s.first
    → PutsUp s.free (s.first + page) (not b) free → (n : ℕ) → is_used (refreed s free) n ≡ at (is_used s) page b n
used-put s free page b l low up n = elim (eqb_tells n page) [
  | inl w ↦
      ap (is_used (refreed s free)) w.1
      ∙ ap (λ t. t && not (is_set free (s.first + page))) (nat_lt-true page (reached s) l)
      ∙ ap not up.here ∙ not-not b
      ∙ sym (at-here (is_used s) page b) ∙ ap (at (is_used s) page b) (sym w.1)
  | inr w ↦
      ap (λ t. nat_lt n (reached s) && not t) (up.others (s.first + n) (omega arith) (let ne : n ≢ page = w.1 in omega arith))
      ∙ sym (at-other (is_used s) page b n w.1)
]

-- a page is given back
pub released : (s : Kept) (free : List ℕ) (page : ℕ) → page < reached s → (s.first + page) / 64 ≤ s.first
    → PutsUp s.free (s.first + page) true free → pages_of (refreed s free) ≡ without_page (pages_of s) page
unfolding pages_of
released s free page l low up =
    let used = used-put s free page false l low up in
    maps_agree (pages_of (refreed s free)) (without_page (pages_of s) page) refl used
    (λ n. elim (eqb_tells n page) [
      | inl w ↦
          ap (λ u. next_as u (is_set s.linked n) (slice_index s.links n)) (used n ∙ ap (at (is_used s) page false) w.1 ∙ at-here (is_used s) page false)
          ∙ sym (at-here (next_of s) page None) ∙ ap (at (next_of s) page None) (sym w.1)
      | inr w ↦
          ap (λ u. next_as u (is_set s.linked n) (slice_index s.links n)) (used n ∙ at-other (is_used s) page false n w.1)
          ∙ sym (at-other (next_of s) page None n w.1)
    ])

abbrev pub relinked : Kept → List ℕ → List ℕ → Kept
relinked s linked links = record { limit = s.limit; free = s.free; first = s.first; linked = linked; links = links }

-- which pages are used does not rest on their successors
pub used-relinked : (s : Kept) (linked links : List ℕ) → length links ≡ length s.links → (n : ℕ) → is_used (relinked s linked links) n ≡ is_used s n
used-relinked s linked links same n = ap (λ k. nat_lt n k && not (is_set s.free (s.first + n))) same

-- a page has no successor any more
pub unlinked : (s : Kept) (linked : List ℕ) (page : ℕ) → Puts s.linked page false linked
    → pages_of (relinked s linked s.links) ≡ with_next (pages_of s) page None
unfolding pages_of
unlinked s linked page put =
    maps_agree (pages_of (relinked s linked s.links)) (with_next (pages_of s) page None) refl (λ n. refl)
    (λ n. elim (eqb_tells n page) [
      | inl w ↦
          ap (λ t. next_as (is_used s n) t (slice_index s.links n)) (ap (is_set linked) w.1 ∙ put.here)
          ∙ next-not_linked (is_used s n) (slice_index s.links n)
          ∙ sym (at-here (next_of s) page None) ∙ ap (at (next_of s) page None) (sym w.1)
      | inr w ↦
          ap (λ t. next_as (is_used s n) t (slice_index s.links n)) (put.others n w.1)
          ∙ sym (at-other (next_of s) page None n w.1)
    ])

-- a used page has a successor
pub linked-to : (s : Kept) (linked : List ℕ) (page to : ℕ) → is_used s page ≡ true → page < length s.links → Puts s.linked page true linked
    → pages_of (relinked s linked (slice_set s.links page to)) ≡ with_next (pages_of s) page (Some to)
unfolding pages_of
linked-to s linked page to used room put =
    let links : List ℕ = slice_set s.links page to in
    let same : (n : ℕ) → is_used (relinked s linked links) n ≡ is_used s n = used-relinked s linked links (length-set s.links page to) in
    maps_agree (pages_of (relinked s linked links)) (with_next (pages_of s) page (Some to)) refl same
    (λ n. ap (λ u. next_as u (is_set linked n) (slice_index links n)) (same n) ∙ elim (eqb_tells n page) [
      | inl w ↦
          ap (λ k. next_as (is_used s k) (is_set linked k) (slice_index links k)) w.1
          ∙ ap (λ u. next_as u (is_set linked page) (slice_index links page)) used
          ∙ ap (λ t. next_as true t (slice_index links page)) put.here
          ∙ ap Some (get_or-set_same s.links page to 0 room)
          ∙ sym (at-here (next_of s) page (Some to)) ∙ ap (at (next_of s) page (Some to)) (sym w.1)
      | inr w ↦
          ap (λ t. next_as (is_used s n) t (slice_index links n)) (put.others n w.1)
          ∙ ap (λ x. next_as (is_used s n) (is_set s.linked n) x) (get_or-set_other s.links page n to 0 w.1)
          ∙ sym (at-other (next_of s) page (Some to) n w.1)
    ])

abbrev pub retaken : Kept → List ℕ → List ℕ → Kept
retaken s free linked = record { limit = s.limit; free = free; first = s.first; linked = linked; links = s.links }

-- a page is used, with no successor
pub taken : (s : Kept) (free linked : List ℕ) (page : ℕ) → page < reached s → (s.first + page) / 64 ≤ s.first
    → PutsUp s.free (s.first + page) false free → Puts s.linked page false linked
    → pages_of (retaken s free linked) ≡ with_page (pages_of s) page
unfolding pages_of
taken s free linked page l low up put =
    let used = used-put s free page true l low up in
    maps_agree (pages_of (retaken s free linked)) (with_page (pages_of s) page) refl used
    (λ n. elim (eqb_tells n page) [
      | inl w ↦
          ap (λ t. next_as (is_used (refreed s free) n) t (slice_index s.links n)) (ap (is_set linked) w.1 ∙ put.here)
          ∙ next-not_linked (is_used (refreed s free) n) (slice_index s.links n)
          ∙ sym (at-here (next_of s) page None) ∙ ap (at (next_of s) page None) (sym w.1)
      | inr w ↦
          ap (λ t. next_as (is_used (refreed s free) n) t (slice_index s.links n)) (put.others n w.1)
          ∙ ap (λ u. next_as u (is_set s.linked n) (slice_index s.links n)) (used n ∙ at-other (is_used s) page true n w.1)
          ∙ sym (at-other (next_of s) page None n w.1)
    ])

-- the first page that is free
pub page-below : (s : Kept) (page : ℕ) → ((n : ℕ) → reached s ≤ n → is_set s.free (s.first + n) ≡ false) → is_set s.free (s.first + page) ≡ true → page < reached s
page-below s page behind set = elim (leb_tells (reached s) page) [
  | inl r ↦ absurd (false≢true (sym (behind page r.1) ∙ set))
  | inr r ↦ r.1
]

pub lowest-free : (s : Kept) (page : ℕ) → page < reached s → reached s ≤ s.limit → IsFirstSet s.free s.first (s.first + page) → IsLowestFree (pages_of s) page
unfolding pages_of
lowest-free s page l within first = record {
  below = omega arith;
  free = ap (λ t. nat_lt page (reached s) && not t) first.here ∙ and-false (nat_lt page (reached s));
  lower = λ k less.
      ap (λ t. t && not (is_set s.free (s.first + k))) (nat_lt-true k (reached s) (omega arith))
      ∙ ap not (first.lower (s.first + k) (omega arith) (omega arith));
}

zero-of : (x : ℕ) → not (x == 0) ≡ false → x ≡ 0
zero-of x h = elim (eqb_tells x 0) [ inl w ↦ w.1 | inr w ↦ absurd (false≢true (sym h ∙ ap not w.0)) ]

-- where the first word has no bit, no word of the summary and none that it speaks of has one
zero-words : (ws : List ℕ) (end : ℕ) → IsSummary ws end → slice_index ws 0 ≡ 0 → (fuel w : ℕ) → w ≤ fuel → w ≤ end → slice_index ws w ≡ 0
zero-words ws end summary root zero w le within = let e : w ≡ 0 = omega arith in ap (slice_index ws) e ∙ root
zero-words ws end summary root (suc fuel) w le within = elim (eqb_tells w 0) [
  | inl r ↦ ap (slice_index ws) r.1 ∙ root
  | inr r ↦
      let ne : w ≢ 0 = r.1 in
      let i : ℕ = w - 1 in
      let back : i + 1 ≡ w = omega arith in
      let above : slice_index ws (i / 64) ≡ 0 = zero-words ws end summary root fuel (i / 64) (omega arith) (omega arith) in
      ap (slice_index ws) (sym back) ∙ zero-of (slice_index ws (i + 1)) (sym (summary i (omega arith)) ∙ not-set ws i above)
]

-- a page without a bit that was ever taken is used
pub all-full : (s : Kept) → IsSummary s.free s.first → length s.free ≤ s.first + 1 → slice_index s.free 0 ≡ 0 → reached s ≡ s.limit → IsFull (pages_of s)
unfolding pages_of
all-full s summary enough root all n l =
    let w : ℕ = (s.first + n) / 64 in
    let zero_word : slice_index s.free w ≡ 0 = elim (leb_tells w s.first) [
      | inl r ↦ zero-words s.free s.first summary root w w (omega arith) r.1
      | inr r ↦ get_or-eq_default s.free 0 (let above : s.first < w = r.1 in omega arith)
    ] in
    ap (λ t. t && not (is_set s.free (s.first + n))) (nat_lt-true n (reached s) (omega arith)) ∙ ap not (not-set s.free (s.first + n) zero_word)

zero-at : (w : ℕ) → slice_index (0 ∷ []) w ≡ 0
zero-at zero = refl
zero-at (suc w) = refl

-- a zero more at the end is no other word
pub zero-behind : (ws : List ℕ) → SameWords ws (ws ++ 0 ∷ [])
zero-behind ws w = elim (leb_tells (length ws) w) [
  | inl r ↦
      let h : length ws ≤ w = r.1 in
      get_or-append_right ws (0 ∷ []) (length ws) w 0 refl h ∙ zero-at (w - length ws) ∙ sym (get_or-eq_default ws 0 h)
  | inr r ↦ get_or-append ws (0 ∷ []) 0 w r.1
]

same-bits : (old new : List ℕ) → SameWords old new → (i : ℕ) → is_set new i ≡ is_set old i
same-bits old new same i = ap (λ x. bit_at x (i % 64) == 1) (same (i / 64))

-- the lowest page that was never taken is one of the free pages that have a bit
abbrev pub grown : Kept → List ℕ → List ℕ → List ℕ → Kept
grown s free linked links = record { limit = s.limit; free = free; first = s.first; linked = linked; links = links }

below-next : (n page : ℕ) → n ≢ page → nat_lt n (page + 1) ≡ nat_lt n page
below-next n page h = grind (arith, nat_tests)

pub grown-bits : (s : Kept) (wider free : List ℕ) → (s.first + reached s) / 64 ≤ s.first → SameWords s.free wider
    → PutsUp wider (s.first + reached s) true free → (n : ℕ) → n ≢ reached s → is_set free (s.first + n) ≡ is_set s.free (s.first + n)
grown-bits s wider free low same up n ne =
    up.others (s.first + n) (omega arith) (omega arith) ∙ same-bits s.free wider same (s.first + n)

used-grown : (s : Kept) (wider free linked links : List ℕ) → (s.first + reached s) / 64 ≤ s.first → SameWords s.free wider
    → PutsUp wider (s.first + reached s) true free → length links ≡ reached s + 1 → (n : ℕ) → is_used (grown s free linked links) n ≡ is_used s n
used-grown s wider free linked links low same up next n =
    ap (λ k. nat_lt n k && not (is_set free (s.first + n))) next
    ∙ elim (eqb_tells n (reached s)) [
      | inl w ↦
          ap (λ t. nat_lt n (reached s + 1) && not t) (ap (λ k. is_set free (s.first + k)) w.1 ∙ up.here)
          ∙ and-false (nat_lt n (reached s + 1))
          ∙ sym (ap (λ t. t && not (is_set s.free (s.first + n))) (nat_lt-false n (reached s) (let e : n ≡ reached s = w.1 in omega arith)))
      | inr w ↦
          ap (λ t. t && not (is_set free (s.first + n))) (below-next n (reached s) w.1)
          ∙ ap (λ t. nat_lt n (reached s) && not t) (grown-bits s wider free low same up n w.1)
    ]

pub grown-same : (s : Kept) (wider free linked links : List ℕ) → (s.first + reached s) / 64 ≤ s.first → SameWords s.free wider
    → PutsUp wider (s.first + reached s) true free → SameWords s.linked linked → length links ≡ reached s + 1 → SameWords s.links links
    → pages_of (grown s free linked links) ≡ pages_of s
unfolding pages_of
grown-same s wider free linked links low same up same_linked next same_links =
    let used = used-grown s wider free linked links low same up next in
    maps_agree (pages_of (grown s free linked links)) (pages_of s) refl used
    (λ n.
    ap (λ u. next_as u (is_set linked n) (slice_index links n)) (used n)
    ∙ ap (λ t. next_as (is_used s n) t (slice_index links n)) (same-bits s.linked linked same_linked n)
    ∙ ap (λ x. next_as (is_used s n) (is_set s.linked n) x) (same_links n))

-- where a page has a bit, the first word has one
pub root-has : (ws : List ℕ) (end i : ℕ) → IsSummary ws end → i / 64 ≤ end → is_set ws i ≡ true → has_bits ws 0 ≡ true
root-has ws end i summary low set = elim (eqb_tells (slice_index ws 0) 0) [
  | inl w ↦ absurd (false≢true (sym (not-set ws i (zero-words ws end summary w.1 (i / 64) (i / 64) (omega arith) low)) ∙ set))
  | inr w ↦ ap not w.0
]
