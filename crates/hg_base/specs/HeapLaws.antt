-- Laws of a heap's objects by their addresses: what is placed next stands behind all others and moves
-- none of them, and a page more moves none either.
use Rattle.std.specs.Prelude.{◌≡◌, ℕ, ◌+◌, ◌*◌, ◌≤◌, ◌==◌, zero, suc, true, false, List, [], ◌∷◌, ◌++◌, length, map, sum_by, slice_get, Option, None, Some, option_map, option_and_then, if◌then◌else◌}
use Rattle.std.proofs.Common.{◌∙◌, sym, ap, refl, arith, append_assoc, append-nil, eq-eqb}
use Rattle.std.proofs.lemmas.List.{map-append}
use Rattle.std.proofs.lemmas.List.Sums.{sum_by-cons}
use Rattle.std.proofs.lemmas.Option.{none-some}
use Rattle.hg_base.specs.Content.{Object, placed, object_size, page_end, offsets_from, addresses_in}
use Rattle.hg_base.specs.HeapContent.{place_in, object_at, with_last, with_object, next_address}

offsets_from-last : (at : ℕ) (xs : List Object) (x : Object)
    → offsets_from at (xs ++ x ∷ []) ≡ offsets_from at xs ++ (at + sum_by object_size xs) ∷ []
offsets_from-last at [] x = ap (λ n. n ∷ []) (omega arith)
offsets_from-last at (y ∷ ys) x =
    ap (λ l. at ∷ l) (offsets_from-last (at + object_size y) ys x
    ∙ ap (λ n. offsets_from (at + object_size y) ys ++ n ∷ []) (omega (arith, sum_by-cons object_size y ys)))

-- the addresses of the objects of a page in this frame
abbrev pub on_page : ℕ → List Object → List ℕ
on_page frame page = map (λ at. frame * 4096 + at) (offsets_from 64 page)

on_page-last : (frame : ℕ) (page : List Object) (x : Object) → on_page frame (page ++ x ∷ []) ≡ on_page frame page ++ (frame * 4096 + page_end page) ∷ []
on_page-last frame page x =
    ap (map (λ at. frame * 4096 + at)) (offsets_from-last 64 page x)
    ∙ map-append (λ at. frame * 4096 + at) (offsets_from 64 page) ((64 + sum_by object_size page) ∷ [])

-- the object placed next has the next address, and the others keep theirs
pub addresses_in-last : (page : List Object) (pages : List (List Object)) (frames : List ℕ) (x : Object)
    → length (page ∷ pages) ≤ length frames
    → addresses_in (with_last (page ∷ pages) x) frames ≡ addresses_in (page ∷ pages) frames ++ next_address (page ∷ pages) frames ∷ []
addresses_in-last page pages [] x h = absurd (omega arith)
addresses_in-last page [] (f ∷ fs) x h =
    append-nil (on_page f (page ++ x ∷ [])) ∙ on_page-last f page x
    ∙ ap (λ l. l ++ (f * 4096 + page_end page) ∷ []) (sym (append-nil (on_page f page)))
addresses_in-last page (next ∷ pages) (f ∷ fs) x h =
    ap (λ l. on_page f page ++ l) (addresses_in-last next pages fs x (omega arith))
    ∙ sym (append_assoc (on_page f page) (addresses_in (next ∷ pages) fs) (next_address (next ∷ pages) fs ∷ []))

-- it is the last in order of placing
pub placed-last : (page : List Object) (pages : List (List Object)) (x : Object) (roots : List (Option ℕ))
    → placed (record { layout = with_last (page ∷ pages) x; roots = roots }) ≡ placed (record { layout = page ∷ pages; roots = roots }) ++ x ∷ []
placed-last page [] x roots = append-nil (page ++ x ∷ []) ∙ ap (λ l. l ++ x ∷ []) (sym (append-nil page))
placed-last page (next ∷ pages) x roots =
    ap (λ l. page ++ l) (placed-last next pages x roots)
    ∙ sym (append_assoc page (placed (record { layout = next ∷ pages; roots = roots })) (x ∷ []))

abbrev pub shifted : Option ℕ → Option ℕ
shifted o = option_map (λ n. n + 1) o

shifted-some : (o p : Option ℕ) (n : ℕ) → ((m : ℕ) → o ≡ Some m → p ≡ Some m) → shifted o ≡ Some n → shifted p ≡ Some n
shifted-some None p n same h = absurd (none-some n h)
shifted-some (Some m) p n same h = ap shifted (same m refl) ∙ h

shifted-none : (o : Option ℕ) → shifted o ≡ None → o ≡ None
shifted-none None h = refl
shifted-none (Some n) h = absurd (none-some (n + 1) (sym h))

-- an address that names an object names it also where more addresses stand behind
pub place_in-front : (xs ys : List ℕ) (a n : ℕ) → place_in xs a ≡ Some n → place_in (xs ++ ys) a ≡ Some n
place_in-front [] ys a n h = absurd (none-some n h)
place_in-front (x ∷ xs) ys a n h = elim (x == a) as (λ b. (if b then Some 0 else shifted (place_in xs a)) ≡ Some n → (if b then Some 0 else shifted (place_in (xs ++ ys) a)) ≡ Some n) [
  | true ↦ λ e. e
  | false ↦ λ e. shifted-some (place_in xs a) (place_in (xs ++ ys) a) n (λ m. place_in-front xs ys a m) e
] h

-- an address that stands behind others, and is none of them, names what it names there
pub place_in-behind : (xs : List ℕ) (a : ℕ) → place_in xs a ≡ None → place_in (xs ++ a ∷ []) a ≡ Some (length xs)
place_in-behind [] a h = ap (λ b. if b then Some 0 else None) (eq-eqb a a refl)
place_in-behind (x ∷ xs) a h = elim (x == a) as (λ b. (if b then Some 0 else shifted (place_in xs a)) ≡ None → (if b then Some 0 else shifted (place_in (xs ++ a ∷ []) a)) ≡ Some (length (x ∷ xs))) [
  | true ↦ λ e. absurd (none-some 0 (sym e))
  | false ↦ λ e. ap shifted (place_in-behind xs a (shifted-none (place_in xs a) e)) ∙ ap Some (omega arith)
] h

slice_get-front : {X : Type 0} (xs ys : List X) (n : ℕ) (x : X) → slice_get xs n ≡ Some x → slice_get (xs ++ ys) n ≡ Some x
slice_get-front [] ys n x h = absurd (none-some x h)
slice_get-front (y ∷ xs) ys zero x h = h
slice_get-front (y ∷ xs) ys (suc n) x h = slice_get-front xs ys n x h

abbrev pub at_place : List Object → Option ℕ → Option Object
at_place xs o = option_and_then (λ n. slice_get xs n) o

at_place-front : (xs ys : List Object) (p q : Option ℕ) (x : Object) → ((n : ℕ) → p ≡ Some n → q ≡ Some n) → at_place xs p ≡ Some x → at_place (xs ++ ys) q ≡ Some x
at_place-front xs ys None q x same h = absurd (none-some x h)
at_place-front xs ys (Some n) q x same h = ap (at_place (xs ++ ys)) (same n refl) ∙ slice_get-front xs ys n x h

-- A row or a directory that is placed leaves each object that stands there, under its address.
pub object_at-kept : (page : List Object) (pages : List (List Object)) (roots : List (Option ℕ)) (frames : List ℕ) (new x : Object) (a : ℕ)
    → length (page ∷ pages) ≤ length frames
    → object_at (record { layout = page ∷ pages; roots = roots }) frames a ≡ Some x
    → object_at (with_object (record { layout = page ∷ pages; roots = roots }) new) frames a ≡ Some x
object_at-kept page pages roots frames new x a h e =
    ap (λ xs. at_place xs (place_in (addresses_in (with_last (page ∷ pages) new) frames) a)) (placed-last page pages new roots)
    ∙ (ap (λ addresses. at_place (placed (record { layout = page ∷ pages; roots = roots }) ++ new ∷ []) (place_in addresses a)) (addresses_in-last page pages frames new h)
    ∙ at_place-front (placed (record { layout = page ∷ pages; roots = roots })) (new ∷ [])
    (place_in (addresses_in (page ∷ pages) frames) a)
    (place_in (addresses_in (page ∷ pages) frames ++ next_address (page ∷ pages) frames ∷ []) a)
    x (λ n. place_in-front (addresses_in (page ∷ pages) frames) (next_address (page ∷ pages) frames ∷ []) a n) e)
