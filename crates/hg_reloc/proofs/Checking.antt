-- A walk over the objects of a page.
use Rattle.std.specs.Prelude.{◌≡◌, ◌≢◌, ℕ, ◌+◌, ◌*◌, ◌/◌, ◌%◌, ◌<◌, ◌≤◌, ◌==◌, ◌||◌, Bool, true, false, List, [], ◌∷◌, ◌++◌, length, take, drop, replicate, slice_index, slice_index_or, slice_set, Ok}
use Rattle.std.specs.Int.{w16, from_le_bytes}
use Rattle.std.specs.List.{AllByRecursion, concat}
use Rattle.std.proofs.Common.{inl, inr, sym, ◌∙◌, ap, subst, refl, arith, length-append, length-take, length-drop, append_assoc, append-nil}
use Rattle.std.proofs.lemmas.Bool.{cases_eq, eq-eqb, ne_eqb}
use Rattle.std.proofs.lemmas.List.{take-append-drop, drop-drop, length-set, get_or-set_same, get_or-set_other, get_or-replicate, length-replicate}
use Rattle.hg_base.specs.Lines.{has_page}
use Rattle.hg_base.specs.declared.Check.{Check}
use Rattle.hg_base.specs.declared.Check.TheVariants.{Kind, Size, Frame, Link, Level, Order, RowBytes}
use Rattle.hg_reloc.specs.Blocks.{number, kind, size_for, end, HasLength, IsBlock}
use Rattle.hg_reloc.specs.Checks.{Marks, starts, HasHead, LieTo, HasRoom, HasOdd, IsOddAt, AreMarked, LookedAt}
use Rattle.hg_reloc.proofs.Finding.{read_number, bytes_at, is_block, kind_here, grid_of, concat_one}

-- what is read
pub end_at : (page : List ℕ) → from_le_bytes w16 (take 2 (drop 2 page)) ≡ end page
end_at page = read_number (drop 2 page)

pub kind_there : (page : List ℕ) (at : ℕ) → slice_index page (at + 2) ≡ kind (drop at page)
kind_there page at = sym (kind_here page at)

pub ruleset reading = (end_at, read_number, kind_there)

pub has_page-last : (xs : List ℕ) (x y : ℕ) → has_page (xs ++ x ∷ []) y ≡ (has_page xs y || (x == y))
has_page-last [] x y = elim (x == y) as (λ b. (b || false) ≡ b) [ true ↦ refl | false ↦ refl ]
has_page-last (z ∷ xs) x y = elim (z == y) as (λ b. (b || has_page (xs ++ x ∷ []) y) ≡ ((b || has_page xs y) || (x == y))) [ true ↦ refl | false ↦ has_page-last xs x y ]

or-true : (b : Bool) → (b || true) ≡ true
or-true true = refl
or-true false = refl

or-false : (b : Bool) → (b || false) ≡ b
or-false true = refl
or-false false = refl

pub none_marked : Marks (replicate 256 false) []
none_marked = record { long = length-replicate 256 false; is = λ k h. get_or-replicate 256 k false false h }

pub one_marked : (marks : List Bool) (places : List ℕ) (at : ℕ) → Marks marks places → at < 4096 → at % 16 ≡ 0 → Marks (slice_set marks (at / 16) true) (places ++ at ∷ [])
one_marked marks places at m h g = record {
  long = length-set marks (at / 16) true ∙ m.long;
  is = λ k l. elim (cases_eq k (at / 16)) [
    | inl e ↦ let s : at ≡ 16 * k = omega arith in
        ap (λ q. slice_index_or (slice_set marks (at / 16) true) q false) e ∙ get_or-set_same marks (at / 16) true false (omega (arith, m.long))
        ∙ sym (has_page-last places at (16 * k) ∙ ap (λ b. has_page places (16 * k) || b) (eq-eqb at (16 * k) s) ∙ or-true (has_page places (16 * k)))
    | inr n ↦ let s : at ≢ 16 * k = (λ e. n (omega arith)) in
        get_or-set_other marks (at / 16) k true false n ∙ m.is k l
        ∙ sym (has_page-last places at (16 * k) ∙ ap (λ b. has_page places (16 * k) || b) (ne_eqb at (16 * k) s) ∙ or-false (has_page places (16 * k)))
  ];
}

starts-last : (at : ℕ) (bs : List (List ℕ)) (b : List ℕ) → starts at (bs ++ b ∷ []) ≡ starts at bs ++ (at + length (concat bs)) ∷ []
starts-last at [] b = ap (λ n. n ∷ []) (omega arith)
starts-last at (c ∷ bs) b =
    ap (λ l. at ∷ l) (starts-last (at + length c) bs b ∙ ap (λ n. starts (at + length c) bs ++ n ∷ []) (omega (arith, length-append c (concat bs))))

-- The objects before `at` are marked.
pub record IsWalking (page : List ℕ) (marks : List Bool) (at stop : ℕ) : Type 0 where
  pub blocks : List (List ℕ)
  pub lie : LieTo page blocks at
  pub marked : Marks marks (starts 64 blocks)
  pub inside : at ≤ stop
  pub stops : stop ≡ end page

all_one : (bs : List (List ℕ)) (b : List ℕ) → AllByRecursion IsBlock bs → IsBlock b → AllByRecursion IsBlock (bs ++ b ∷ [])
all_one [] b a i = (i, tt)
all_one (c ∷ bs) b a i = (a.0, all_one bs b a.1 i)

pub walk_start : (page : List ℕ) (stop : ℕ) → HasHead page → stop ≡ end page → IsWalking page (replicate 256 false) 64 stop
walk_start page stop h e = record {
  blocks = [];
  lie = record { each = tt; reach = refl; objects = refl };
  marked = none_marked;
  inside = omega (arith, h.low);
  stops = e;
}

pub walk_grid : (page : List ℕ) (marks : List Bool) (at stop : ℕ) → IsWalking page marks at stop → at % 16 ≡ 0
walk_grid page marks at stop w = let g = grid_of w.blocks w.lie.each in omega (arith, w.lie.reach)

pub walk_on : (page : List ℕ) (marks : List Bool) (at stop behind : ℕ) → HasHead page → IsWalking page marks at stop → at < stop → LookedAt page at (Ok behind)
    → IsWalking page (slice_set marks (at / 16) true) behind stop
walk_on page marks at stop behind h w l k =
    let room : HasRoom page at = k.0 in
    let b : List ℕ = bytes_at page at in
    let s : at + size_for (number (drop at page)) ≤ length page = omega (arith, room.before, h.high, h.whole) in
    let is : IsBlock b = is_block page at s (subst (λ q. HasLength q (number (drop at page))) (kind_here page at) room.right) in
    let long : length b ≡ size_for (number (drop at page)) = length-take (size_for (number (drop at page))) (drop at page) ∙ omega (arith, length-drop at page) in
    let next : behind ≡ at + length b = k.1 ∙ ap (λ q. at + q) (sym long) in
    let whole : concat (w.blocks ++ b ∷ []) ≡ concat w.blocks ++ b = concat_one w.blocks b [] ∙ ap (λ q. concat w.blocks ++ q) (append-nil b) in
    let rest : drop at page ≡ b ++ drop behind page =
    sym (take-append-drop (size_for (number (drop at page))) (drop at page))
    ∙ ap (λ q. b ++ q) (drop-drop (size_for (number (drop at page))) at page ∙ ap (λ q. drop q page) (sym k.1)) in
    record {
      blocks = w.blocks ++ b ∷ [];
      lie = record {
        each = all_one w.blocks b w.lie.each is;
        reach = omega (arith, w.lie.reach, ap length whole, length-append (concat w.blocks) b);
        objects = w.lie.objects ∙ ap (λ q. concat w.blocks ++ q) rest ∙ sym (append_assoc (concat w.blocks) b (drop behind page)) ∙ ap (λ q. q ++ drop behind page) (sym whole);
      };
      marked = subst (Marks (slice_set marks (at / 16) true)) (sym (starts-last 64 w.blocks b ∙ ap (λ n. starts 64 w.blocks ++ n ∷ []) (sym w.lie.reach)))
          (one_marked marks (starts 64 w.blocks) at w.marked (omega (arith, w.stops, h.high)) (walk_grid page marks at stop w));
      inside = omega (arith, room.before, w.stops);
      stops = w.stops;
    }

-- it goes on by some bytes
pub walk_grows : (page : List ℕ) (at behind : ℕ) → LookedAt page at (Ok behind) → at < behind
walk_grows page at behind k = omega (arith, k.1)

pub walk_odd : (page : List ℕ) (marks : List Bool) (at stop : ℕ) (check : Check) → HasHead page → IsWalking page marks at stop → at < stop → IsOddAt page at check → HasOdd page check
walk_odd page marks at stop Kind h w l k = record { head = h; blocks = w.blocks; at = at; lie = w.lie; before = omega (arith, w.stops); odd = k }
walk_odd page marks at stop Size h w l k = record { head = h; blocks = w.blocks; at = at; lie = w.lie; before = omega (arith, w.stops); known = k.0; odd = k.1 }
walk_odd page marks at stop Frame h w l k = k
walk_odd page marks at stop Link h w l k = k
walk_odd page marks at stop Level h w l k = k
walk_odd page marks at stop Order h w l k = k
walk_odd page marks at stop RowBytes h w l k = k

pub walk_end : (page : List ℕ) (marks : List Bool) (at stop : ℕ) → slice_index page 0 ≡ 72 → HasHead page → IsWalking page marks at stop → stop ≤ at → AreMarked page marks
walk_end page marks at stop kind h w l =
    let e : at ≡ end page = omega (arith, w.inside, w.stops) in
    record {
      blocks = w.blocks;
      has = record { whole = h.whole; kind = kind; each = w.lie.each; ends = sym e ∙ w.lie.reach; fits = h.high; objects = w.lie.objects ∙ ap (λ q. concat w.blocks ++ drop q page) e };
      marked = w.marked;
    }

pub ruleset walking = (end_at, walk_start, walk_grid, walk_on, walk_grows, walk_odd, walk_end)
