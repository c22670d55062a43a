-- Laws of chains: what is placed behind the objects of a heap changes no chain that was there, a row that
-- is placed stands in front of the chain to which it links, and another link of a directory changes none.
use Rattle.std.specs.Prelude.{◌≡◌, ℕ, ◌<◌, ◌==◌, zero, suc, true, false, List, [], ◌∷◌, ◌++◌, length, map, reverse, Option, None, Some, if◌then◌else◌}
use Rattle.std.proofs.Common.{sym, ◌∙◌, ap, refl, arith}
use Rattle.std.proofs.lemmas.Bool.{eq-eqb}
use Rattle.std.proofs.lemmas.Bool.Decides.{nat_tests}
use Rattle.std.proofs.lemmas.List.{map-append, length-map, reverse-append, length-reverse}
use Rattle.hg_base.specs.Content.{Object, row_object, directory}
use Rattle.hg_base.specs.HeapContent.{with_link, changed_on}
use Rattle.hg_base.specs.HeapFacts.{LeadsBelow}
use Rattle.hg_hash.specs.Buckets.{Row, row_of, reached, chain}

pub reached-nothing : (rows : List (Option Row)) → reached rows None ≡ []
reached-nothing [] = refl
reached-nothing (None ∷ rows) = refl
reached-nothing (Some row ∷ rows) = refl

-- the newest object is no part of a chain of earlier ones
pub reached-earlier : (x : Option Row) (earlier : List (Option Row)) (n : ℕ) → n < length earlier → reached (x ∷ earlier) (Some n) ≡ reached earlier (Some n)
reached-earlier None earlier n h =
    let e : (n == length earlier) ≡ false = grind (arith, nat_tests) in ap (λ b. if b then [] else reached earlier (Some n)) e
reached-earlier (Some row) earlier n h =
    let e : (n == length earlier) ≡ false = grind (arith, nat_tests) in ap (λ b. if b then row.payload ∷ reached earlier row.link else reached earlier (Some n)) e

-- the newest object alone, in front of the others
newest_first : (objects : List Object) (x : Object) → reverse (map row_of (objects ++ x ∷ [])) ≡ row_of x ∷ reverse (map row_of objects)
newest_first objects x = ap reverse (map-append row_of objects (x ∷ [])) ∙ reverse-append (map row_of objects) (row_of x ∷ [])

many_rows : (objects : List Object) → length (reverse (map row_of objects)) ≡ length objects
many_rows objects = length-reverse (map row_of objects) ∙ length-map objects row_of

-- what is placed behind the others changes no chain of theirs
pub chain-placed : (objects : List Object) (x : Object) (link : Option ℕ) → LeadsBelow (length objects) link → chain (objects ++ x ∷ []) link ≡ chain objects link
chain-placed objects x None h = reached-nothing (reverse (map row_of (objects ++ x ∷ []))) ∙ sym (reached-nothing (reverse (map row_of objects)))
chain-placed objects x (Some n) h =
    let many : length (reverse (map row_of objects)) ≡ length objects = many_rows objects in
    ap (λ rows. reached rows (Some n)) (newest_first objects x) ∙ reached-earlier (row_of x) (reverse (map row_of objects)) n (omega arith)

-- a row that is placed stands in front of the chain to which it links
pub chain-row : (objects : List Object) (payload : List ℕ) (link : Option ℕ)
    → chain (objects ++ row_object payload link ∷ []) (Some (length objects)) ≡ payload ∷ chain objects link
chain-row objects payload link =
    let rows : List (Option Row) = reverse (map row_of objects) in
    let e : (length objects == length rows) ≡ true = eq-eqb (length objects) (length rows) (sym (many_rows objects)) in
    ap (λ all. reached all (Some (length objects))) (newest_first objects (row_object payload link))
    ∙ ap (λ b. if b then payload ∷ reached rows link else reached rows (Some (length objects))) e

row_of-relinked : (k : ℕ) (to : Option ℕ) (x : Object) → row_of (with_link k to x) ≡ row_of x
row_of-relinked k to (row_object payload link) = refl
row_of-relinked k to (directory links) = refl

rows-relinked : (k : ℕ) (to : Option ℕ) (n : ℕ) (objects : List Object) → map row_of (changed_on (with_link k to) n objects) ≡ map row_of objects
rows-relinked k to n [] = refl
rows-relinked k to zero (x ∷ objects) = ap (λ r. r ∷ map row_of objects) (row_of-relinked k to x)
rows-relinked k to (suc n) (x ∷ objects) = ap (λ rows. row_of x ∷ rows) (rows-relinked k to n objects)

-- another link of a directory changes no chain
pub chain-relinked : (k : ℕ) (to : Option ℕ) (n : ℕ) (objects : List Object) (link : Option ℕ) → chain (changed_on (with_link k to) n objects) link ≡ chain objects link
chain-relinked k to n objects link = ap (λ rows. reached (reverse rows) link) (rows-relinked k to n objects)
