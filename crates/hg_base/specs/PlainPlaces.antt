-- Laws of words in a list, and of where the objects of a page begin.
use Rattle.std.specs.Prelude.{◌≡◌, ℕ, ◌+◌, ◌-◌, ◌*◌, ◌<◌, ◌≤◌, ◌==◌, zero, suc, true, false, List, [], ◌∷◌, ◌++◌, length, map, drop, slice_get, slice_index_or, Option, None, Some, IfSome, option_map, if◌then◌else◌}
use Rattle.std.proofs.Common.{sym, ◌∙◌, ap, refl, arith, zero-add}
use Rattle.std.proofs.lemmas.List.{length-map}
use Rattle.std.proofs.lemmas.Option.{none-some}
use Rattle.hg_base.specs.Content.{Object, object_size, offsets_from}
use Rattle.hg_base.specs.HeapContent.{place_in}
use Rattle.hg_base.specs.HeapLaws.{on_page}

pub map_compose : (m n : ℕ) (o : Option ℕ) → option_map (λ k. m + k) (option_map (λ k. n + k) o) ≡ option_map (λ k. (m + n) + k) o
map_compose m n None = refl
map_compose m n (Some k) = ap Some (omega arith)

pub map_one : (m : ℕ) (o : Option ℕ) → option_map (λ k. k + 1) (option_map (λ k. m + k) o) ≡ option_map (λ k. suc m + k) o
map_one m None = refl
map_one m (Some k) = ap Some (omega arith)

pub map_zero : (o : Option ℕ) → option_map (λ k. 0 + k) o ≡ o
map_zero None = refl
map_zero (Some k) = ap Some (zero-add k)

pub map_none : (o : Option ℕ) → option_map (λ k. k + 1) o ≡ None → o ≡ None
map_none None h = refl
map_none (Some n) h = absurd (none-some (n + 1) (sym h))

-- an address that is not in the first list is looked for in the second
pub place_in-past : (xs ys : List ℕ) (a : ℕ) → place_in xs a ≡ None → place_in (xs ++ ys) a ≡ option_map (λ k. length xs + k) (place_in ys a)
place_in-past [] ys a h = sym (map_zero (place_in ys a))
place_in-past (x ∷ xs) ys a h = elim (x == a) as (λ b. (if b then Some 0 else option_map (λ k. k + 1) (place_in xs a)) ≡ None
    → (if b then Some 0 else option_map (λ k. k + 1) (place_in (xs ++ ys) a)) ≡ option_map (λ k. length (x ∷ xs) + k) (place_in ys a)) [
      | true ↦ λ e. absurd (none-some 0 (sym e))
      | false ↦ λ e. ap (option_map (λ k. k + 1)) (place_in-past xs ys a (map_none (place_in xs a) e)) ∙ map_one (length xs) (place_in ys a)
    ] h

pub length-offsets : (at : ℕ) (xs : List Object) → length (offsets_from at xs) ≡ length xs
length-offsets at [] = refl
length-offsets at (x ∷ xs) = ap (λ n. suc n) (length-offsets (at + object_size x) xs)

pub length-on_page : (frame : ℕ) (page : List Object) → length (on_page frame page) ≡ length page
length-on_page frame page = length-map (offsets_from 64 page) (λ at. frame * 4096 + at) ∙ length-offsets 64 page

one_more : (n : ℕ) (o : Option ℕ) (m : ℕ) → ((k : ℕ) → o ≡ Some k → k < n) → option_map (λ k. k + 1) o ≡ Some m → m < suc n
one_more n None m f h = absurd (none-some m h)
one_more n (Some k) m f h = let s : ◌≡◌ {A = Option ℕ} (Some (k + 1)) (Some m) = h in let e : k + 1 ≡ m = cc in let l : k < n = f k refl in omega arith

-- a place in a list is below its length, and the word stands there
pub place_in-within : (xs : List ℕ) (a n : ℕ) → place_in xs a ≡ Some n → n < length xs
place_in-within [] a n h = absurd (none-some n h)
place_in-within (x ∷ xs) a n h = elim (x == a) as (λ b. (if b then Some 0 else option_map (λ k. k + 1) (place_in xs a)) ≡ Some n → n < suc (length xs)) [
  | true ↦ λ e. let s : ◌≡◌ {A = Option ℕ} (Some 0) (Some n) = e in let z : 0 ≡ n = cc in omega arith
  | false ↦ λ e. one_more (length xs) (place_in xs a) n (λ k p. place_in-within xs a k p) e
] h

pub drop-here : {X : Type 0} (xs : List X) (i : ℕ) (x : X) → slice_get xs i ≡ Some x → drop i xs ≡ x ∷ drop (i + 1) xs
drop-here [] i x h = absurd (none-some x h)
drop-here {X = X} (y ∷ xs) zero x h = let e : ◌≡◌ {A = Option X} (Some y) (Some x) = h in let same : y ≡ x = cc in ap (λ z. z ∷ xs) same
drop-here (y ∷ xs) (suc i) x h = drop-here xs i x h ∙ ap (λ n. x ∷ drop n (y ∷ xs)) (let e : suc (i + 1) ≡ suc i + 1 = omega arith in e)

-- what is found on a page is one of its objects
pub place_in-some : (base a at : ℕ) (page : List Object) (o : Option ℕ) (n : ℕ) → o ≡ place_in (map (λ offset. base + offset) (offsets_from at page)) a → length page ≤ n
    → IfSome o (λ index. index < n)
place_in-some base a at page None n h l = tt
place_in-some base a at page (Some index) n h l =
    let w : index < length (map (λ offset. base + offset) (offsets_from at page)) = place_in-within (map (λ offset. base + offset) (offsets_from at page)) a index (sym h) in
    let e : length (map (λ offset. base + offset) (offsets_from at page)) ≡ length page = length-map (offsets_from at page) (λ offset. base + offset) ∙ length-offsets at page in
    omega arith

-- Items by place.
pub get_or-in : (xs ys : List ℕ) (n : ℕ) → n < length xs → slice_index_or (xs ++ ys) n 0 ≡ slice_index_or xs n 0
get_or-in [] ys n h = absurd (omega arith)
get_or-in (x ∷ xs) ys zero h = refl
get_or-in (x ∷ xs) ys (suc n) h = get_or-in xs ys n (omega arith)

pub get_or-past : (xs ys : List ℕ) (n : ℕ) → length xs ≤ n → slice_index_or (xs ++ ys) n 0 ≡ slice_index_or ys (n - length xs) 0
get_or-past [] ys n h = ap (λ k. slice_index_or ys k 0) (let e : n ≡ n - 0 = omega arith in e)
get_or-past (x ∷ xs) ys zero h = absurd (omega arith)
get_or-past (x ∷ xs) ys (suc n) h = get_or-past xs ys n (omega arith) ∙ ap (λ k. slice_index_or ys k 0) (let e : n - length xs ≡ suc n - suc (length xs) = omega arith in e)

pub get_or-shifted : (base : ℕ) (xs : List ℕ) (n : ℕ) → n < length xs → slice_index_or (map (λ x. base + x) xs) n 0 ≡ base + slice_index_or xs n 0
get_or-shifted base [] n h = absurd (omega arith)
get_or-shifted base (x ∷ xs) zero h = refl
get_or-shifted base (x ∷ xs) (suc n) h = get_or-shifted base xs n (omega arith)
