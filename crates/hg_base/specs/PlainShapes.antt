-- A loan of a payload keeps what holds of objects, whatever bytes it leaves.
use Rattle.std.specs.Prelude.{◌≡◌, ℕ, ◌+◌, ◌*◌, ◌/◌, ◌<◌, ◌≤◌, zero, suc, List, [], ◌∷◌, ◌++◌, length, drop, sum_by, flat_map, slice_get, slice_set, Option, Some, ⊤}
use Rattle.std.proofs.Common.{sym, ap, subst, refl, arith, length-take, length-append, length-drop}
use Rattle.std.specs.List.{AllByRecursion}
use Rattle.std.proofs.lemmas.List.Sums.{sum_by-cons}
use Rattle.hg_base.specs.Content.{Object, row_object, directory, page_end, object_size}
use Rattle.hg_base.specs.HeapFacts.{LeadsBelow, IsObject, AreObjects, AreWellPlaced}
use Rattle.hg_base.specs.Lending.{refit}
use Rattle.hg_base.specs.PlainEntries.{spill, spill_at}

-- an object with a payload as long, and the same links
abbrev pub Shape : Object → Object → Type 0
Shape (row_object p l) (row_object q m) = (length q ≡ length p) × (m ≡ l)
Shape (row_object p l) (directory ms) = ⊥
Shape (directory ls) (row_object q m) = ⊥
Shape (directory ls) (directory ms) = ms ≡ ls

abbrev pub Shapes : List Object → List Object → Type 0
Shapes [] [] = ⊤
Shapes [] (y ∷ ys) = ⊥
Shapes (x ∷ xs) [] = ⊥
Shapes (x ∷ xs) (y ∷ ys) = Shape x y × Shapes xs ys

abbrev pub Layouts : List (List Object) → List (List Object) → Type 0
Layouts [] [] = ⊤
Layouts [] (y ∷ ys) = ⊥
Layouts (x ∷ xs) [] = ⊥
Layouts (x ∷ xs) (y ∷ ys) = Shapes x y × Layouts xs ys

same-shape : (x : Object) → Shape x x
same-shape (row_object p l) = (refl, refl)
same-shape (directory ls) = refl

pub same-shapes : (xs : List Object) → Shapes xs xs
same-shapes [] = tt
same-shapes (x ∷ xs) = (same-shape x, same-shapes xs)

pub same-layouts : (xs : List (List Object)) → Layouts xs xs
same-layouts [] = tt
same-layouts (x ∷ xs) = (same-shapes x, same-layouts xs)

refit-long : (b w : List ℕ) → length (refit b w) ≡ length b
refit-long b w = omega (arith, length-take (length b) (w ++ drop (length w) b), length-append w (drop (length w) b), length-drop (length w) b)

spill-shapes : (w : List ℕ) (xs : List Object) → Shapes xs (spill w xs)
spill-shapes w [] = tt
spill-shapes w (row_object p l ∷ xs) = ((refit-long p w, refl), spill-shapes (drop (length p) w) xs)
spill-shapes w (directory ls ∷ xs) = (refl, spill-shapes w xs)

pub spill_at-shapes : (w : List ℕ) (n : ℕ) (xs : List Object) → Shapes xs (spill_at w n xs)
spill_at-shapes w n [] = tt
spill_at-shapes w zero (x ∷ xs) = spill-shapes w (x ∷ xs)
spill_at-shapes w (suc n) (x ∷ xs) = (same-shape x, spill_at-shapes w n xs)

pub set-layouts : (layout : List (List Object)) (page : ℕ) (p q : List Object) → slice_get layout page ≡ Some p → Shapes p q → Layouts layout (slice_set layout page q)
set-layouts [] page p q e s = tt
set-layouts (x ∷ layout) zero p q e s =
    let i : ◌≡◌ {A = Option (List Object)} (Some x) (Some p) = e in let same : x ≡ p = cc in
    (subst (λ y. Shapes y q) (sym same) s, same-layouts layout)
set-layouts (x ∷ layout) (suc page) p q e s = (same-shapes x, set-layouts layout page p q e s)

shapes-append : (xs ys us vs : List Object) → Shapes xs us → Shapes ys vs → Shapes (xs ++ ys) (us ++ vs)
shapes-append [] ys [] vs h k = k
shapes-append [] ys (u ∷ us) vs h k = absurd h
shapes-append (x ∷ xs) ys [] vs h k = absurd h
shapes-append (x ∷ xs) ys (u ∷ us) vs h k = (h.0, shapes-append xs ys us vs h.1 k)

placed-shapes : (xs ys : List (List Object)) → Layouts xs ys → Shapes (flat_map (λ p. p) xs) (flat_map (λ p. p) ys)
placed-shapes [] [] h = tt
placed-shapes [] (y ∷ ys) h = absurd h
placed-shapes (x ∷ xs) [] h = absurd h
placed-shapes (x ∷ xs) (y ∷ ys) h = shapes-append x (flat_map (λ p. p) xs) y (flat_map (λ p. p) ys) h.0 (placed-shapes xs ys h.1)

shapes-many : (xs ys : List Object) → Shapes xs ys → length ys ≡ length xs
shapes-many [] [] h = refl
shapes-many [] (y ∷ ys) h = absurd h
shapes-many (x ∷ xs) [] h = absurd h
shapes-many (x ∷ xs) (y ∷ ys) h = ap (λ n. suc n) (shapes-many xs ys h.1)

shape-size : (x y : Object) → Shape x y → object_size y ≡ object_size x
shape-size (row_object p l) (row_object q m) h = ap (λ n. 16 + 16 * ((n + 15) / 16)) h.0
shape-size (row_object p l) (directory ms) h = absurd h
shape-size (directory ls) (row_object q m) h = absurd h
shape-size (directory ls) (directory ms) h = ap (λ z. object_size (directory z)) h

shapes-size : (xs ys : List Object) → Shapes xs ys → sum_by object_size ys ≡ sum_by object_size xs
shapes-size [] [] h = refl
shapes-size [] (y ∷ ys) h = absurd h
shapes-size (x ∷ xs) [] h = absurd h
shapes-size (x ∷ xs) (y ∷ ys) h = let a = shape-size x y h.0 in let b = shapes-size xs ys h.1 in omega (arith, sum_by-cons object_size x xs, sum_by-cons object_size y ys)

shape-object : (n c : ℕ) (x y : Object) → Shape x y → IsObject n c x → IsObject n c y
shape-object n c (row_object p l) (row_object q m) h k =
    let e = h.0 in ((let a : 0 < length p = k.0 in omega arith), (let a : length p ≤ 3920 = k.1 in omega arith), subst (λ z. LeadsBelow n z) (sym h.1) k.2)
shape-object n c (row_object p l) (directory ms) h k = absurd h
shape-object n c (directory ls) (row_object q m) h k = absurd h
shape-object n c (directory ls) (directory ms) h k = subst (λ z. AllByRecursion (LeadsBelow c) z) (sym h) k

shapes-objects : (n c : ℕ) (xs ys : List Object) → Shapes xs ys → AreObjects n c xs → AreObjects n c ys
shapes-objects n c [] [] h k = tt
shapes-objects n c [] (y ∷ ys) h k = absurd h
shapes-objects n c (x ∷ xs) [] h k = absurd h
shapes-objects n c (x ∷ xs) (y ∷ ys) h k = (shape-object n c x y h.0 k.0, shapes-objects (n + 1) c xs ys h.1 k.1)

layouts-fit : (xs ys : List (List Object)) → Layouts xs ys → AllByRecursion (λ p. page_end p ≤ 4096) xs → AllByRecursion (λ p. page_end p ≤ 4096) ys
layouts-fit [] [] h k = tt
layouts-fit [] (y ∷ ys) h k = absurd h
layouts-fit (x ∷ xs) [] h k = absurd h
layouts-fit (x ∷ xs) (y ∷ ys) h k = ((let s = shapes-size x y h.0 in let e = k.0 in omega arith), layouts-fit xs ys h.1 k.1)

pub well-shapes : (xs ys : List (List Object)) (roots : List (Option ℕ)) → Layouts xs ys → AreWellPlaced (record { layout = xs; roots = roots }) → AreWellPlaced (record { layout = ys; roots = roots })
well-shapes xs ys roots h w =
    let s = placed-shapes xs ys h in
    let n = shapes-many (flat_map (λ p. p) xs) (flat_map (λ p. p) ys) s in record {
      objects = subst (λ c. AreObjects 0 c (flat_map (λ p. p) ys)) (sym n) (shapes-objects 0 (length (flat_map (λ p. p) xs)) (flat_map (λ p. p) xs) (flat_map (λ p. p) ys) s w.objects);
      pages = layouts-fit xs ys h w.pages;
      four = w.four;
      roots = subst (λ c. AllByRecursion (LeadsBelow c) roots) (sym n) w.roots;
    }
