-- What is wrong with bytes is one thing, and nothing is wrong with right ones.
use Rattle.std.specs.Prelude.{◌≡◌, ◌≢◌, ℕ, ◌+◌, ◌<◌, ◌≤◌, ◌⊎◌, ◌↔◌, List, length, drop, slice_index, true, false, Result, Ok, Err, IsOk}
use Rattle.std.specs.List.{concat}
use Rattle.std.proofs.Common.{inl, inr, sym, ◌∙◌, ap, subst, refl, arith}
use Rattle.std.proofs.lemmas.Bool.{cases_order, false≢true}
use Rattle.hg_base.specs.declared.Check.{Check}
use Rattle.hg_base.specs.declared.Check.TheVariants.{Kind, Size, Frame, Link, Level, Order, RowBytes}
use Rattle.hg_reloc.specs.Blocks.{number, kind, size_for, end, IsKind, HasLength, HasObjects}
use Rattle.hg_reloc.specs.Checks.{HasHead, LieTo, HasOddKind, HasOddSize, IsWrong, IsRight, AreLinked, Verified}
use Rattle.hg_reloc.proofs.Rewriting.{number-front, kind-front}
use Rattle.hg_reloc.proofs.Finding.{grid_of}
use Rattle.hg_reloc.proofs.Unique.{ComesAt, comes, same_objects}

lie_all : (page : List ℕ) (bs : List (List ℕ)) → HasObjects page bs → LieTo page bs (end page)
lie_all page bs h = record { each = h.each; reach = h.ends; objects = h.objects }

head_of : (page : List ℕ) (bs : List (List ℕ)) → HasObjects page bs → HasHead page
head_of page bs h = record { whole = h.whole; low = omega (arith, h.ends); high = h.fits; grid = let g = grid_of bs h.each in omega (arith, h.ends) }

kind_of_right : (k n : ℕ) → HasLength k n → IsKind k
kind_of_right k n h = elim h [ inl r ↦ inl r.0 | inr d ↦ inr d.0 ]

-- where objects go on, one is there
record IsOn (page : List ℕ) (at to : ℕ) : Type 0 where
  right : HasLength (kind (drop at page)) (number (drop at page))
  before : at + size_for (number (drop at page)) ≤ to

is_on : (page : List ℕ) (bs cs : List (List ℕ)) (at to : ℕ) → LieTo page bs at → LieTo page cs to → at < to → IsOn page at to
is_on page bs cs at to l m h =
    let c : ComesAt (drop at page) (length (concat bs)) (length (concat cs)) =
    comes bs cs (drop at page) (drop to page) l.each m.each (sym l.objects ∙ m.objects) (omega (arith, l.reach, m.reach)) in
    let n : number c.block ≡ number (drop at page) = sym (ap number c.here ∙ number-front c.block c.rest (omega (arith, c.is.size))) in
    let k : kind c.block ≡ kind (drop at page) = sym (ap kind c.here ∙ kind-front c.block c.rest (omega (arith, c.is.size))) in
    record {
      right = subst (λ q. HasLength q (number (drop at page))) k (subst (HasLength (kind c.block)) n c.is.right);
      before = let s = c.is.size ∙ ap size_for n in omega (arith, c.inside, l.reach, m.reach);
    }

odd_kind_none : (page : List ℕ) (bs : List (List ℕ)) → HasOddKind page → HasObjects page bs → ⊥
odd_kind_none page bs o h =
    let i : IsOn page o.at (end page) = is_on page o.blocks bs o.at (end page) o.lie (lie_all page bs h) o.before in
    o.odd (kind_of_right (kind (drop o.at page)) (number (drop o.at page)) i.right)

odd_size_none : (page : List ℕ) (bs : List (List ℕ)) → HasOddSize page → HasObjects page bs → ⊥
odd_size_none page bs o h =
    let i : IsOn page o.at (end page) = is_on page o.blocks bs o.at (end page) o.lie (lie_all page bs h) o.before in
    o.odd (record { right = i.right; before = i.before })

odd_kind_size : (page : List ℕ) → HasOddKind page → HasOddSize page → ⊥
odd_kind_size page a b = elim (cases_order a.at b.at) [
  | inl e ↦ a.odd (subst (λ q. IsKind (kind (drop q page))) (sym e) b.known)
  | inr (inl l) ↦ let i : IsOn page a.at b.at = is_on page a.blocks b.blocks a.at b.at a.lie b.lie l in
      a.odd (kind_of_right (kind (drop a.at page)) (number (drop a.at page)) i.right)
  | inr (inr l) ↦ let i : IsOn page b.at a.at = is_on page b.blocks a.blocks b.at a.at b.lie a.lie l in
      b.odd (record { right = i.right; before = omega (arith, i.before, a.before) })
]

kind_none : (page : List ℕ) (bs : List (List ℕ)) → (slice_index page 0 ≢ 72) ⊎ ((slice_index page 0 ≡ 72) × HasOddKind page) → HasObjects page bs → ⊥
kind_none page bs w h = elim w [ inl n ↦ n h.kind | inr o ↦ odd_kind_none page bs o.1 h ]

size_none : (page : List ℕ) (bs : List (List ℕ)) → ¬ (HasHead page) ⊎ HasOddSize page → HasObjects page bs → ⊥
size_none page bs w h = elim w [ inl n ↦ n (head_of page bs h) | inr o ↦ odd_size_none page bs o h ]

kind_size : (page : List ℕ) → (slice_index page 0 ≢ 72) ⊎ ((slice_index page 0 ≡ 72) × HasOddKind page) → (slice_index page 0 ≡ 72) × (¬ (HasHead page) ⊎ HasOddSize page) → ⊥
kind_size page k s = elim k [
  | inl n ↦ n s.0
  | inr o ↦ elim s.1 [ inl n ↦ n o.1.head | inr z ↦ odd_kind_size page o.1 z ]
]

pub wrong_one : (page : List ℕ) (max : ℕ) (a b : Check) → IsWrong page max a → IsWrong page max b → a ≡ b
wrong_one page max Kind Kind h k = refl
wrong_one page max Kind Size h k = absurd (kind_size page h k)
wrong_one page max Kind Frame h k = absurd (kind_none page k.blocks h k.has)
wrong_one page max Kind Link h k = absurd (kind_none page k.blocks h k.has)
wrong_one page max Kind Level h k = absurd k
wrong_one page max Kind Order h k = absurd k
wrong_one page max Kind RowBytes h k = absurd k
wrong_one page max Size Kind h k = absurd (kind_size page k h)
wrong_one page max Size Size h k = refl
wrong_one page max Size Frame h k = absurd (size_none page k.blocks h.1 k.has)
wrong_one page max Size Link h k = absurd (size_none page k.blocks h.1 k.has)
wrong_one page max Size Level h k = absurd k
wrong_one page max Size Order h k = absurd k
wrong_one page max Size RowBytes h k = absurd k
wrong_one page max Frame Kind h k = absurd (kind_none page h.blocks k h.has)
wrong_one page max Frame Size h k = absurd (size_none page h.blocks k.1 h.has)
wrong_one page max Frame Frame h k = refl
wrong_one page max Frame Link h k = absurd (omega (arith, h.above, k.below))
wrong_one page max Frame Level h k = absurd k
wrong_one page max Frame Order h k = absurd k
wrong_one page max Frame RowBytes h k = absurd k
wrong_one page max Link Kind h k = absurd (kind_none page h.blocks k h.has)
wrong_one page max Link Size h k = absurd (size_none page h.blocks k.1 h.has)
wrong_one page max Link Frame h k = absurd (omega (arith, h.below, k.above))
wrong_one page max Link Link h k = refl
wrong_one page max Link Level h k = absurd k
wrong_one page max Link Order h k = absurd k
wrong_one page max Link RowBytes h k = absurd k
wrong_one page max Level b h k = absurd h
wrong_one page max Order b h k = absurd h
wrong_one page max RowBytes b h k = absurd h

pub right_none : (page : List ℕ) (max : ℕ) (b : Check) → IsRight page max → IsWrong page max b → ⊥
right_none page max Kind r w = kind_none page r.blocks w r.has
right_none page max Size r w = size_none page r.blocks w.1 r.has
right_none page max Frame r w = absurd (omega (arith, r.below, w.above))
right_none page max Link r w = w.odd (subst (AreLinked page max) (same_objects page r.blocks w.blocks r.has w.has) r.linked)
right_none page max Level r w = w
right_none page max Order r w = w
right_none page max RowBytes r w = w

-- so the answer is exact
pub exact_right : (page : List ℕ) (max : ℕ) (r : Result (Unit {0}) Check) → Verified page max r → IsOk r ↔ IsRight page max
exact_right page max (Ok u) v = (λ _. v, λ _. refl)
exact_right page max (Err c) v = (λ e. absurd (let n : false ≡ true = e in false≢true n), λ r. absurd (right_none page max c r v))

same_check : (c d : Check) → ◌≡◌ {A = Result (Unit {0}) Check} (Err c) (Err d) → c ≡ d
same_check c d e = cc

pub exact_wrong : (page : List ℕ) (max : ℕ) (r : Result (Unit {0}) Check) → Verified page max r → (c : Check) → (r ≡ Err c) ↔ IsWrong page max c
exact_wrong page max (Ok u) v c = (λ e. absurd (let n : ◌≡◌ {A = Result (Unit {0}) Check} (Ok u) (Err c) = e in cc), λ w. absurd (right_none page max c v w))
exact_wrong page max (Err d) v c = (λ e. subst (IsWrong page max) (same_check d c e) v, λ w. ap Err (wrong_one page max d c v w))

pub ruleset exact = (exact_right, exact_wrong)
