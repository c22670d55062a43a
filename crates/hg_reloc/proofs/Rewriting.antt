-- Moving the words of a page, one after the other.
use Rattle.std.specs.Prelude.{◌≡◌, ℕ, ◌+◌, ◌-◌, ◌*◌, ◌/◌, ◌<◌, ◌≤◌, ◌==◌, if◌then◌else◌, slice_index, zero, suc, List, [], ◌∷◌, ◌++◌, length, take, drop}
use Rattle.std.specs.List.{AllByRecursion, flat_map, concat}
use Rattle.std.specs.Int.{w16, w64, from_le_bytes, to_le_bytes}
use Rattle.std.proofs.Common.{inl, inr, sym, ◌∙◌, ap, refl, arith, length-append, length-take, length-drop, append_assoc, append-nil}
use Rattle.std.proofs.lemmas.Slice.{take-put_mid, drop-put_mid}
use Rattle.std.proofs.lemmas.List.{drop-drop, take-append-le, drop-append-le, get_or_append_left, get_or-drop, take_at, drop_at, take-append-drop}
use Rattle.std.proofs.Math.Seq.{take-add}
use borrow.Rule.Slice.PartMut.{put_mid}
use Rattle.hg_reloc.specs.Moves.{Moves, moved_word}
use Rattle.hg_reloc.specs.Blocks.{number, word, kind, size_for, word_count, moved_words, moved_block, moved_page, IsBlock, HasObjects, BeginsObject, MovesObject, IsMade, IsMoved, end}

-- one word more is moved, and the rest is still to come
pub step : (m : Moves) (xs ys : List ℕ) (at n : ℕ) → at + 8 ≤ length xs → ys ≡ put_mid at 8 xs (to_le_bytes w64 (moved_word m (word (drop at xs))))
    → take at xs ++ moved_words m (suc n) (drop at xs) ≡ take (at + 8) ys ++ moved_words m n (drop (at + 8) ys)
step m xs ys at n h e =
    let v : List ℕ = to_le_bytes w64 (moved_word m (word (drop at xs))) in
    let front : take (at + 8) ys ≡ take at xs ++ v = ap (take (at + 8)) e ∙ take-put_mid at 8 xs v (at + 8) refl (omega arith) in
    let rest : drop (at + 8) ys ≡ drop 8 (drop at xs) = ap (drop (at + 8)) e ∙ drop-put_mid at 8 xs v (at + 8) (omega arith) (omega arith) refl ∙ sym (drop-drop 8 at xs) in
    sym (append_assoc (take at xs) v (moved_words m n (drop 8 (drop at xs))))
    ∙ ap (λ l. l ++ moved_words m n (drop 8 (drop at xs))) (sym front)
    ∙ ap (λ l. take (at + 8) ys ++ moved_words m n l) (sym rest)

pub step_k : (m : Moves) (xs ys : List ℕ) (at k count v : ℕ) → k < count → at + 8 * count ≤ length xs → v ≡ moved_word m (from_le_bytes w64 (take 8 (drop (at + 8 * k) xs)))
    → ys ≡ put_mid (at + 8 * k) 8 xs (to_le_bytes w64 v)
    → take (at + 8 * k) xs ++ moved_words m (count - k) (drop (at + 8 * k) xs) ≡ take (at + 8 * (k + 1)) ys ++ moved_words m (count - (k + 1)) (drop (at + 8 * (k + 1)) ys)
unfolding word
step_k m xs ys at k count v h l w e =
    let n : count - k ≡ suc (count - (k + 1)) = omega arith in
    let a : at + 8 * k + 8 ≡ at + 8 * (k + 1) = omega arith in
    ap (λ q. take (at + 8 * k) xs ++ moved_words m q (drop (at + 8 * k) xs)) n
    ∙ step m xs ys (at + 8 * k) (count - (k + 1)) (omega arith) (e ∙ ap (λ q. put_mid (at + 8 * k) 8 xs (to_le_bytes w64 q)) w)
    ∙ ap (λ q. take q ys ++ moved_words m (count - (k + 1)) (drop q ys)) a

-- what stands behind the words is as before
pub moved_words-front : (m : Moves) (n : ℕ) (xs ys : List ℕ) → 8 * n ≤ length xs → moved_words m n (xs ++ ys) ≡ moved_words m n xs ++ ys
unfolding word
moved_words-front m zero xs ys h = refl
moved_words-front m (suc n) xs ys h =
    let t : take 8 (xs ++ ys) ≡ take 8 xs = take-append-le 8 xs ys (omega arith) in
    let d : drop 8 (xs ++ ys) ≡ drop 8 xs ++ ys = drop-append-le 8 xs ys (omega arith) in
    ap (λ l. to_le_bytes w64 (moved_word m (from_le_bytes w64 l)) ++ moved_words m n (drop 8 (xs ++ ys))) t
    ∙ ap (λ l. to_le_bytes w64 (moved_word m (word xs)) ++ moved_words m n l) d
    ∙ ap (λ l. to_le_bytes w64 (moved_word m (word xs)) ++ l) (moved_words-front m n (drop 8 xs) ys (omega (arith, length-drop 8 xs)))
    ∙ sym (append_assoc (to_le_bytes w64 (moved_word m (word xs))) (moved_words m n (drop 8 xs)) ys)

pub length-moved_words : (m : Moves) (n : ℕ) (xs : List ℕ) → 8 * n ≤ length xs → length (moved_words m n xs) ≡ length xs
length-moved_words m zero xs h = refl
length-moved_words m (suc n) xs h =
    length-append (to_le_bytes w64 (moved_word m (word xs))) (moved_words m n (drop 8 xs))
    ∙ omega (arith, length-moved_words m n (drop 8 xs) (omega (arith, length-drop 8 xs)), length-drop 8 xs)

-- One object: its head stays, its addresses are moved, and what stands before it and behind it is as before.
pub move_block : (m : Moves) (page b rest : List ℕ) (at count : ℕ) → drop at page ≡ b ++ rest → at ≤ length page → 8 + 8 * count ≤ length b
    → take (at + 8) page ++ moved_words m count (drop (at + 8) page) ≡ take at page ++ (take 8 b ++ moved_words m count (drop 8 b)) ++ rest
move_block m page b rest at count h l s =
    let front : take (at + 8) page ≡ take at page ++ take 8 b = take-add at 8 page ∙ ap (λ q. take at page ++ take 8 q) h ∙ ap (λ q. take at page ++ q) (take-append-le 8 b rest (omega arith)) in
    let behind : drop (at + 8) page ≡ drop 8 b ++ rest = sym (drop-drop 8 at page) ∙ ap (drop 8) h ∙ drop-append-le 8 b rest (omega arith) in
    ap (λ q. q ++ moved_words m count (drop (at + 8) page)) front
    ∙ ap (λ q. (take at page ++ take 8 b) ++ moved_words m count q) behind
    ∙ ap (λ q. (take at page ++ take 8 b) ++ q) (moved_words-front m count (drop 8 b) rest (omega (arith, length-drop 8 b)))
    ∙ sym (append_assoc (take at page ++ take 8 b) (moved_words m count (drop 8 b)) rest)
    ∙ ap (λ q. q ++ rest) (append_assoc (take at page) (take 8 b) (moved_words m count (drop 8 b)))

-- an object is long enough for its head and its addresses
pub number-front : (b rest : List ℕ) → 2 ≤ length b → number (b ++ rest) ≡ number b
unfolding number
number-front b rest h = ap (from_le_bytes w16) (take-append-le 2 b rest h)

pub kind-front : (b rest : List ℕ) → 3 ≤ length b → kind (b ++ rest) ≡ kind b
kind-front b rest h = get_or_append_left b rest 0 2 (omega arith)

pub words-fit : (b : List ℕ) → IsBlock b → 8 + 8 * word_count b ≤ length b
words-fit b i = elim i.right [
  | inl r ↦ rw (ap (λ k. 8 + 8 * (if k == 2 then 1 + number b / 8 else 1)) r.0) (omega (arith, i.size))
  | inr d ↦ rw (ap (λ k. 8 + 8 * (if k == 2 then 1 + number b / 8 else 1)) d.0) (let z = d.1 in omega (arith, i.size))
]

-- what the head of an object says, read where it begins
pub number_at : (page b rest : List ℕ) (at : ℕ) → IsBlock b → drop at page ≡ b ++ rest → from_le_bytes w16 (take 2 (drop at page)) ≡ number b
unfolding number
number_at page b rest at i h = ap (λ q. from_le_bytes w16 (take 2 q)) h ∙ number-front b rest (omega (arith, i.size))

pub kind_at : (page b rest : List ℕ) (at : ℕ) → IsBlock b → drop at page ≡ b ++ rest → slice_index page (at + 2) ≡ kind b
kind_at page b rest at i h = sym (get_or-drop at page 2 0) ∙ ap (λ q. slice_index q 2) h ∙ kind-front b rest (omega (arith, i.size))

pub length-moved_block : (m : Moves) (b : List ℕ) → IsBlock b → length (moved_block m b) ≡ length b
length-moved_block m b i =
    let w : 8 + 8 * word_count b ≤ length b = words-fit b i in
    length-append (take 8 b) (moved_words m (word_count b) (drop 8 b))
    ∙ omega (arith, length-take 8 b, length-drop 8 b, length-moved_words m (word_count b) (drop 8 b) (omega (arith, length-drop 8 b)))

abbrev pub count_for : ℕ → ℕ → ℕ
count_for k n = if k == 2 then 1 + n / 8 else 1

pub count_at : (page b rest : List ℕ) (at : ℕ) → IsBlock b → drop at page ≡ b ++ rest
    → count_for (slice_index page (at + 2)) (from_le_bytes w16 (take 2 (drop at page))) ≡ word_count b
count_at page b rest at i h = ap (λ k. count_for k (from_le_bytes w16 (take 2 (drop at page)))) (kind_at page b rest at i h) ∙ ap (count_for (kind b)) (number_at page b rest at i h)

pub object_inside : (page : List ℕ) (at count : ℕ) → BeginsObject page at → count ≡ count_for (slice_index page (at + 2)) (from_le_bytes w16 (take 2 (drop at page)))
    → at + 8 + 8 * count ≤ length page
object_inside page at count o c =
    let n : count ≡ word_count o.block = c ∙ count_at page o.block o.rest at o.is o.here in
    let l : length (drop at page) ≡ length o.block + length o.rest = ap length o.here ∙ length-append o.block o.rest in
    omega (arith, words-fit o.block o.is, o.is.size, length-drop at page)

pub object_moves : (m : Moves) (page new : List ℕ) (at count : ℕ) → count ≡ count_for (slice_index page (at + 2)) (from_le_bytes w16 (take 2 (drop at page)))
    → new ≡ take (at + 8) page ++ moved_words m count (drop (at + 8) page) → MovesObject m page new at (size_for (from_le_bytes w16 (take 2 (drop at page))))
object_moves m page new at count c e = record {
  each = λ b rest i h.
      let n : count ≡ word_count b = c ∙ count_at page b rest at i h in
      let l : length (drop at page) ≡ length b + length rest = ap length h ∙ length-append b rest in (
        ap size_for (number_at page b rest at i h) ∙ sym i.size,
        e ∙ ap (λ k. take (at + 8) page ++ moved_words m k (drop (at + 8) page)) n
            ∙ move_block m page b rest at (word_count b) h (omega (arith, i.size, length-drop at page)) (words-fit b i),
      );
}

pub ruleset moving_objects = (object_inside, object_moves)

-- The objects before `at` are moved, and those on the left are still to come.
pub record IsMoving (m : Moves) (old now : List ℕ) (at stop : ℕ) : Type 0 where
  pub blocks : List (List ℕ)
  pub has : HasObjects old blocks
  pub left : List (List ℕ)
  pub each : AllByRecursion IsBlock left
  pub here : drop at now ≡ concat left ++ drop (end old) old
  pub reach : at + length (concat left) ≡ stop
  pub stops : stop ≡ end old
  pub long : length now ≡ 4096
  pub done : moved_page m blocks old ≡ take at now ++ flat_map (moved_block m) left ++ drop (end old) old

pub start : (m : Moves) (old new : List ℕ) → IsMade old → new ≡ take 16 old ++ moved_words m 4 (drop 16 old) → IsMoving m old new 64 (from_le_bytes w16 (take 2 (drop 2 old)))
unfolding number
start m old new made e =
    let h : HasObjects old made.blocks = made.has in
    let xs : List ℕ = take 48 (drop 16 old) in
    let ys : List ℕ = drop 64 old in
    let cut : drop 16 old ≡ xs ++ ys = sym (take-append-drop 48 (drop 16 old)) ∙ ap (λ q. xs ++ q) (drop-drop 48 16 old) in
    let long : length xs ≡ 48 = omega (arith, length-take 48 (drop 16 old), length-drop 16 old, h.whole) in
    let all : new ≡ take 16 old ++ moved_words m 4 xs ++ ys =
    e ∙ ap (λ q. take 16 old ++ moved_words m 4 q) cut ∙ ap (λ q. take 16 old ++ q) (moved_words-front m 4 xs ys (omega arith))
    ∙ sym (append_assoc (take 16 old) (moved_words m 4 xs) ys) in
    let front : length (take 16 old ++ moved_words m 4 xs) ≡ 64 =
    omega (arith, length-append (take 16 old) (moved_words m 4 xs), length-take 16 old, h.whole, length-moved_words m 4 xs (omega arith)) in
    let taken : take 64 new ≡ take 16 old ++ moved_words m 4 xs = ap (take 64) all ∙ take_at (take 16 old ++ moved_words m 4 xs) ys 64 front in
    record {
      blocks = made.blocks;
      has = h;
      left = made.blocks;
      each = h.each;
      here = ap (drop 64) all ∙ drop_at (take 16 old ++ moved_words m 4 xs) ys 64 front ∙ h.objects;
      reach = sym h.ends;
      stops = refl;
      long = ap length all ∙ omega (arith, length-append (take 16 old ++ moved_words m 4 xs) ys, length-drop 64 old, h.whole);
      done = ap (λ q. q ++ flat_map (moved_block m) made.blocks ++ drop (end old) old) (sym taken);
    }

block_first : (b : List ℕ) (left : List (List ℕ)) (tail : List ℕ) → concat (b ∷ left) ++ tail ≡ b ++ (concat left ++ tail)
block_first b left tail = append_assoc b (concat left) tail

pub next : (m : Moves) (old now : List ℕ) (at stop : ℕ) → IsMoving m old now at stop → at < stop → BeginsObject now at
next m old now at stop i h = elim i.left as (λ l. AllByRecursion IsBlock l → drop at now ≡ concat l ++ drop (end old) old → at + length (concat l) ≡ stop → BeginsObject now at) [
  | [] ↦ λ a p r. absurd (omega arith)
  | b ∷ left ↦ λ a p r. record { block = b; rest = concat left ++ drop (end old) old; is = a.0; here = p ∙ block_first b left (drop (end old) old) }
] i.each i.here i.reach

-- one object more is moved
moves_on : (m : Moves) (old now new : List ℕ) (at stop size : ℕ) (blocks : List (List ℕ)) → HasObjects old blocks → (left : List (List ℕ))
    → AllByRecursion IsBlock left → drop at now ≡ concat left ++ drop (end old) old → at + length (concat left) ≡ stop → stop ≡ end old → length now ≡ 4096 → length new ≡ length now
    → moved_page m blocks old ≡ take at now ++ flat_map (moved_block m) left ++ drop (end old) old
    → at < stop → MovesObject m now new at size → IsMoving m old new (at + size) stop
moves_on m old now new at stop size blocks has [] a p r s l k d h o = absurd (omega arith)
moves_on m old now new at stop size blocks has (b ∷ left) a p r s l k d h o =
    let tail : List ℕ = drop (end old) old in
    let is : IsBlock b = a.0 in
    let moved = o.each b (concat left ++ tail) is (p ∙ block_first b left tail) in
    let whole : new ≡ take at now ++ moved_block m b ++ (concat left ++ tail) = moved.1 in
    let same : length (moved_block m b) ≡ length b = length-moved_block m b is in
    let size_is : size ≡ length b = moved.0 in
    let ends : length b + length (concat left) ≡ length (concat (b ∷ left)) = sym (length-append b (concat left)) in
    let fits : stop ≤ 4096 = omega (arith, has.fits) in
    let front : length (take at now ++ moved_block m b) ≡ at + size = omega (arith, length-append (take at now) (moved_block m b), length-take at now) in
    let taken : take (at + size) new ≡ take at now ++ moved_block m b = ap (take (at + size)) whole ∙ take_at (take at now ++ moved_block m b) (concat left ++ tail) (at + size) front in
    record {
      blocks = blocks;
      has = has;
      left = left;
      each = a.1;
      here = ap (drop (at + size)) whole ∙ drop_at (take at now ++ moved_block m b) (concat left ++ tail) (at + size) front;
      reach = omega arith;
      stops = s;
      long = k ∙ l;
      done = d ∙ ap (λ q. q ++ tail) (sym (append_assoc (take at now) (moved_block m b) (flat_map (moved_block m) left)))
          ∙ ap (λ q. q ++ flat_map (moved_block m) left ++ tail) (sym taken);
    }

pub on : (m : Moves) (old now new : List ℕ) (at stop size : ℕ) → IsMoving m old now at stop → at < stop → MovesObject m now new at size → length new ≡ length now → IsMoving m old new (at + size) stop
on m old now new at stop size i h o k = moves_on m old now new at stop size i.blocks i.has i.left i.each i.here i.reach i.stops i.long k i.done h o

-- an object has bytes, and all of them before the end
pub grows : (m : Moves) (old now new : List ℕ) (at stop size : ℕ) → IsMoving m old now at stop → at < stop → MovesObject m now new at size → length new ≡ length now
    → (0 < size) × (at + size ≤ stop) × (stop ≤ 4096)
grows m old now new at stop size i h o k =
    let b : BeginsObject now at = next m old now at stop i h in
    let s : size ≡ length b.block = (o.each b.block b.rest b.is b.here).0 in
    let j : IsMoving m old new (at + size) stop = on m old now new at stop size i h o k in
    (omega (arith, b.is.size), omega (arith, j.reach), omega (arith, i.stops, i.has.fits))

none_left : (left : List (List ℕ)) → AllByRecursion IsBlock left → length (concat left) ≡ 0 → left ≡ []
none_left [] a h = refl
none_left (b ∷ left) a h = absurd (let i : IsBlock b = a.0 in omega (arith, length-append b (concat left), i.size))

pub finish : (m : Moves) (old now : List ℕ) (at stop : ℕ) → IsMoving m old now at stop → stop ≤ at → IsMoved m old now
finish m old now at stop i h =
    let none : i.left ≡ [] = none_left i.left i.each (omega (arith, i.reach)) in
    record {
      blocks = i.blocks;
      has = i.has;
      moved = sym (take-append-drop at now) ∙ ap (λ q. take at now ++ q) (i.here ∙ ap (λ q. concat q ++ drop (end old) old) none)
          ∙ sym (i.done ∙ ap (λ q. take at now ++ flat_map (moved_block m) q ++ drop (end old) old) none ∙ ap (λ q. q ++ drop (end old) old) (append-nil (take at now)));
    }
