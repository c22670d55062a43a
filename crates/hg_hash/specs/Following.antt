-- A chain is walked along addresses: the row at an address is its newest, and the address that the row leads
-- to has the rest.
use Rattle.std.specs.Prelude.{◌≡◌, ℕ, ◌+◌, ◌<◌, ◌≤◌, ◌==◌, zero, suc, true, false, List, [], ◌∷◌, ◌++◌, length, map, reverse, slice_get, slice_index_or, Option, None, Some, option_map, option_and_then, if◌then◌else◌, ⊤}
use Rattle.std.proofs.Common.{sym, ◌∙◌, ap, subst, refl, arith}
use Rattle.std.proofs.Common.{inl, inr}
use Rattle.std.proofs.lemmas.Bool.Decides.{nat_tests, eqb_tells}
use Rattle.std.proofs.lemmas.List.{reverse-append}
use Rattle.std.proofs.lemmas.Option.{none-some, slice_get-map, slice_get_within}
use Rattle.hg_base.specs.Content.{Object, row_object, directory, Objects, placed, address_of, addresses_in}
use Rattle.hg_base.specs.HeapContent.{payload_of, row_link, place_in, named_by, object_at, link_of}
use Rattle.hg_base.specs.HeapFacts.{LeadsBelow, IsObject, AreObjects, AreWellPlaced}
use Rattle.hg_base.specs.HeapPage.{link_word}
use Rattle.hg_base.specs.HeapStates.{of_locked, payload_in, link_in}
use Rattle.hg_base.specs.Space.{Space}
use Rattle.hg_hash.specs.Buckets.{Row, row_of, reached, chain, chain_in, in_front}
use Rattle.hg_hash.specs.Chains.{reached-nothing, reached-earlier}
use Rattle.hg_hash.specs.Names.{AreNames, many-placed, nth-low, link_of-word}
use Rattle.hg_hash.specs.Tables.{Opened, found}

-- what is found at an address is the newest of some rows, if there is one
abbrev pub IsNewest : Option (List ℕ) → List (List ℕ) → Type 0
IsNewest x [] = ⊤
IsNewest x (payload ∷ rows) = x ≡ Some payload

-- the n-th of some objects, in order of placing, where they stand newest first
abbrev pub nth_row : List (Option Row) → ℕ → Option Row
nth_row [] n = None
nth_row (x ∷ earlier) n = if n == length earlier then x else nth_row earlier n

abbrev pub payload_in_row : Option Row → Option (List ℕ)
payload_in_row x = option_map (λ (r : Row). r.payload) x

newest_row : (rows : List (Option Row)) (n : ℕ) → IsNewest (payload_in_row (nth_row rows n)) (reached rows (Some n))
newest_row [] n = tt
newest_row (None ∷ earlier) n = elim (n == length earlier) as (λ b. IsNewest (payload_in_row (if b then None else nth_row earlier n)) (if b then [] else reached earlier (Some n))) [
  | true ↦ tt
  | false ↦ newest_row earlier n
]
newest_row (Some x ∷ earlier) n = elim (n == length earlier) as (λ b. IsNewest (payload_in_row (if b then Some x else nth_row earlier n)) (if b then x.payload ∷ reached earlier x.link else reached earlier (Some n))) [
  | true ↦ refl
  | false ↦ newest_row earlier n
]

length-last : (rows : List (Option Row)) (x : Option Row) → length (rows ++ x ∷ []) ≡ length rows + 1
length-last [] x = omega arith
length-last (y ∷ rows) x = let r = length-last rows x in omega arith

nth_row-first : (rows : List (Option Row)) (x : Option Row) → nth_row (rows ++ x ∷ []) 0 ≡ x
nth_row-first [] x = refl
nth_row-first (y ∷ rows) x =
    let l = length-last rows x in
    let t : (0 == length (rows ++ x ∷ [])) ≡ false = grind (arith, nat_tests) in
    ap (λ b. if b then y else nth_row (rows ++ x ∷ []) 0) t ∙ nth_row-first rows x

nth_row-next : (rows : List (Option Row)) (x : Option Row) (n : ℕ) → nth_row (rows ++ x ∷ []) (suc n) ≡ nth_row rows n
nth_row-next [] x n = let t : (suc n == 0) ≡ false = grind (arith, nat_tests) in ap (λ b. if b then x else None) t
nth_row-next (y ∷ rows) x n =
    let l = length-last rows x in
    let t : (suc n == length (rows ++ x ∷ [])) ≡ (n == length rows) = grind (arith, nat_tests) in
    ap (λ b. if b then y else nth_row (rows ++ x ∷ []) (suc n)) t ∙ ap (λ r. if n == length rows then y else r) (nth_row-next rows x n)

abbrev pub joined : Option (Option Row) → Option Row
joined None = None
joined (Some x) = x

nth_row-reverse : (rows : List (Option Row)) (n : ℕ) → nth_row (reverse rows) n ≡ joined (slice_get rows n)
nth_row-reverse [] n = refl
nth_row-reverse (x ∷ rows) zero = ap (λ r. nth_row r 0) (reverse-append (x ∷ []) rows) ∙ nth_row-first (reverse rows) x
nth_row-reverse (x ∷ rows) (suc n) = ap (λ r. nth_row r (suc n)) (reverse-append (x ∷ []) rows) ∙ nth_row-next (reverse rows) x n ∙ nth_row-reverse rows n

nth_of : (objects : List Object) (n : ℕ) → nth_row (reverse (map row_of objects)) n ≡ joined (option_map row_of (slice_get objects n))
nth_of objects n = nth_row-reverse (map row_of objects) n ∙ ap joined (slice_get-map row_of objects n)

payload_of-row : (x : Option Object) → payload_in_row (joined (option_map row_of x)) ≡ option_and_then payload_of x
payload_of-row None = refl
payload_of-row (Some (row_object payload link)) = refl
payload_of-row (Some (directory links)) = refl

-- the payload of the n-th object is the newest of the chain that leads to it
pub newest-chain : (objects : List Object) (n : ℕ) → IsNewest (option_and_then payload_of (slice_get objects n)) (chain objects (Some n))
newest-chain objects n =
    let e : payload_in_row (nth_row (reverse (map row_of objects)) n) ≡ option_and_then payload_of (slice_get objects n) = ap payload_in_row (nth_of objects n) ∙ payload_of-row (slice_get objects n) in
    subst (λ x. IsNewest x (chain objects (Some n))) e (newest_row (reverse (map row_of objects)) n)

-- a row leads to the rest of its chain
nth_row-below : (rows : List (Option Row)) (n : ℕ) (r : Row) → nth_row rows n ≡ Some r → n < length rows
nth_row-below [] n r e = absurd (none-some r e)
nth_row-below (x ∷ earlier) n r e = elim (eqb_tells n (length earlier)) [
  | inl h ↦ let k = h.1 in omega arith
  | inr h ↦ let f = nth_row-below earlier n r (sym (ap (λ b. if b then x else nth_row earlier n) h.0) ∙ e) in omega arith
]

reached-below : (x : Option Row) (earlier : List (Option Row)) (n : ℕ) (link : Option ℕ) → n ≤ length earlier → LeadsBelow n link → reached (x ∷ earlier) link ≡ reached earlier link
reached-below x earlier n None h l = reached-nothing (x ∷ earlier) ∙ sym (reached-nothing earlier)
reached-below x earlier n (Some m) h l = reached-earlier x earlier m (omega arith)

reached-row : (rows : List (Option Row)) (n : ℕ) (r : Row) → nth_row rows n ≡ Some r → LeadsBelow n r.link → reached rows (Some n) ≡ r.payload ∷ reached rows r.link
reached-row [] n r e l = absurd (none-some r e)
reached-row (None ∷ earlier) n r e l = elim (eqb_tells n (length earlier)) [
  | inl h ↦ let f : None ≡ Some r = sym (ap (λ b. if b then None else nth_row earlier n) h.0) ∙ e in absurd (none-some r f)
  | inr h ↦
      let f : nth_row earlier n ≡ Some r = sym (ap (λ b. if b then None else nth_row earlier n) h.0) ∙ e in
      let k = nth_row-below earlier n r f in
      ap (λ b. if b then [] else reached earlier (Some n)) h.0 ∙ reached-row earlier n r f l
      ∙ ap (λ rest. r.payload ∷ rest) (sym (reached-below None earlier n r.link (omega arith) l))
]
reached-row (Some x ∷ earlier) n r e l = elim (eqb_tells n (length earlier)) [
  | inl h ↦
      let f : ◌≡◌ {A = Option Row} (Some x) (Some r) = sym (ap (λ b. if b then Some x else nth_row earlier n) h.0) ∙ e in
      let g : x ≡ r = cc in
      let k = h.1 in
      ap (λ b. if b then x.payload ∷ reached earlier x.link else reached earlier (Some n)) h.0
      ∙ ap (λ (y : Row). y.payload ∷ reached earlier y.link) g
      ∙ ap (λ rest. r.payload ∷ rest) (sym (reached-below (Some x) earlier n r.link (omega arith) l))
  | inr h ↦
      let f : nth_row earlier n ≡ Some r = sym (ap (λ b. if b then Some x else nth_row earlier n) h.0) ∙ e in
      let k = nth_row-below earlier n r f in
      ap (λ b. if b then x.payload ∷ reached earlier x.link else reached earlier (Some n)) h.0 ∙ reached-row earlier n r f l
      ∙ ap (λ rest. r.payload ∷ rest) (sym (reached-below (Some x) earlier n r.link (omega arith) l))
]

pub chain-nth : (objects : List Object) (n : ℕ) (payload : List ℕ) (link : Option ℕ) → slice_get objects n ≡ Some (row_object payload link) → LeadsBelow n link
    → chain objects (Some n) ≡ payload ∷ chain objects link
chain-nth objects n payload link e l =
    reached-row (reverse (map row_of objects)) n (record { payload = payload; link = link }) (nth_of objects n ∙ ap (λ x. joined (option_map row_of x)) e) l

-- The same in a heap that is locked, in a space whose heaps are well formed.

next_place : (xs : List ℕ) (a n x : ℕ) (p : Option ℕ) → place_in xs a ≡ p → option_map (λ k. k + 1) p ≡ Some n
    → ((m : ℕ) → place_in xs a ≡ Some m → (m < length xs) × (slice_index_or xs m 0 ≡ a)) → (n < length (x ∷ xs)) × (slice_index_or (x ∷ xs) n 0 ≡ a)
next_place xs a n x None e f g = absurd (none-some n f)
next_place xs a n x (Some m) e f g =
    let h : m + 1 ≡ n = cc in
    let r = g m e in
    let l = r.0 in
    let k : n ≡ suc m = omega arith in
    (omega arith, ap (λ q. slice_index_or (x ∷ xs) q 0) k ∙ r.1)

-- what an address names has that address
pub place_in-get : (xs : List ℕ) (a n : ℕ) → place_in xs a ≡ Some n → (n < length xs) × (slice_index_or xs n 0 ≡ a)
place_in-get [] a n e = absurd (none-some n e)
place_in-get (x ∷ xs) a n e = elim (eqb_tells x a) [
  | inl h ↦
      let f : ◌≡◌ {A = Option ℕ} (Some 0) (Some n) = sym (ap (λ b. if b then Some 0 else option_map (λ k. k + 1) (place_in xs a)) h.0) ∙ e in
      let g : 0 ≡ n = cc in (omega arith, ap (λ k. slice_index_or (x ∷ xs) k 0) (sym g) ∙ h.1)
  | inr h ↦
      let f : option_map (λ k. k + 1) (place_in xs a) ≡ Some n = sym (ap (λ b. if b then Some 0 else option_map (λ k. k + 1) (place_in xs a)) h.0) ∙ e in
      next_place xs a n x (place_in xs a) refl f (λ m g. place_in-get xs a m g)
]

leads_up : (n count : ℕ) (link : Option ℕ) → n ≤ count → LeadsBelow n link → LeadsBelow count link
leads_up n count None h l = tt
leads_up n count (Some m) h l = omega arith

pub nth_object : (count n : ℕ) (objects : List Object) (k : ℕ) (x : Object) → AreObjects n count objects → slice_get objects k ≡ Some x → IsObject (n + k) count x
nth_object count n [] k x a e = absurd (none-some x e)
nth_object count n (y ∷ objects) zero x a e = let f : y ≡ x = cc in subst (λ q. IsObject q count x) (let z : n ≡ n + 0 = omega arith in z) (subst (IsObject n count) f a.0)
nth_object count n (y ∷ objects) (suc k) x a e = subst (λ q. IsObject q count x) (let z : n + 1 + k ≡ n + suc k = omega arith in z) (nth_object count (n + 1) objects k x a.1 e)

follow_row : (o : Objects) (frames : List ℕ) (a word n : ℕ) (payload : List ℕ) (link : Option ℕ) → AreWellPlaced o → AreNames o frames → named_by o frames a ≡ Some n → slice_get (placed o) n ≡ Some (row_object payload link)
    → word ≡ link_word (address_of o frames) link → chain (placed o) (link_of o frames a) ≡ payload ∷ chain (placed o) (link_of o frames word)
follow_row o frames a word n payload link w names e f t =
    let count : ℕ = length (placed o) in
    let below : n < count = slice_get_within (placed o) n (row_object payload link) f in
    let is : IsObject (0 + n) count (row_object payload link) = nth_object count 0 (placed o) n (row_object payload link) w.objects f in
    let leads : LeadsBelow n link = subst (λ q. LeadsBelow q link) (let z : 0 + n ≡ n = omega arith in z) is.2 in
    let g = place_in-get (addresses_in o.layout frames) a n e in
    let c = many-placed o.layout o.roots in
    let low = nth-low o.layout frames n names.same (omega arith) in
    let at = g.1 in
    let test : (a == 0) ≡ false = grind (arith, nat_tests) in
    ap (chain (placed o)) (ap (λ b. if b then None else named_by o frames a) test ∙ e)
    ∙ chain-nth (placed o) n payload link f leads
    ∙ ap (λ l. payload ∷ chain (placed o) l) (sym (ap (link_of o frames) t ∙ link_of-word o frames link names (leads_up n count link (omega arith) leads)))

follow_found : (o : Objects) (frames : List ℕ) (a word : ℕ) (payload : List ℕ) (p : Option ℕ) (x : Option Object) → AreWellPlaced o → AreNames o frames → named_by o frames a ≡ p → option_and_then (slice_get (placed o)) p ≡ x
    → option_and_then payload_of x ≡ Some payload → option_map (link_word (address_of o frames)) (option_and_then row_link x) ≡ Some word
    → chain (placed o) (link_of o frames a) ≡ payload ∷ chain (placed o) (link_of o frames word)
follow_found o frames a word payload p None w names e f g h = absurd (none-some payload g)
follow_found o frames a word payload p (Some (directory links)) w names e f g h = absurd (none-some payload g)
follow_found o frames a word payload None (Some (row_object bytes link)) w names e f g h = absurd (none-some (row_object bytes link) f)
follow_found o frames a word payload (Some n) (Some (row_object bytes link)) w names e f g h =
    let same : bytes ≡ payload = cc in
    let to : word ≡ link_word (address_of o frames) link = cc in
    follow_row o frames a word n bytes link w names e f to ∙ ap (λ q. q ∷ chain (placed o) (link_of o frames word)) same

-- The row at an address stands in front of what it leads to.
pub follow_gives_rest : (s : Space) (h : ℕ) (o : Opened s h) (a word : ℕ) (payload : List ℕ) → payload_in s h a ≡ Some payload → link_in s h a ≡ Some word
    → chain_in s h a ≡ in_front payload (chain_in s h word)
follow_gives_rest s h w a word payload p l =
    let o : Objects = w.objects in
    let st = found s h w in
    let e : option_and_then payload_of (object_at o w.frames a) ≡ Some payload =
    sym (ap (λ x. option_and_then payload_of (of_locked (λ o frames. object_at o frames a) x)) st) ∙ p in
    let f : option_map (link_word (address_of o w.frames)) (option_and_then row_link (object_at o w.frames a)) ≡ Some word =
    sym (ap (of_locked (λ o frames. option_map (link_word (address_of o frames)) (option_and_then row_link (object_at o frames a)))) st) ∙ l in
    ap (of_locked (λ o frames. Some (chain (placed o) (link_of o frames a)))) st
    ∙ ap Some (follow_found o w.frames a word payload (named_by o w.frames a) (object_at o w.frames a) w.well w.names refl refl e f)
    ∙ sym (ap (λ x. in_front payload (of_locked (λ o frames. Some (chain (placed o) (link_of o frames word))) x)) st)
