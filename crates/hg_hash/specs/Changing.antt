-- What a row that is placed, and the word of the directory that is then set to it, make of the objects of a
-- heap with buckets.
use Rattle.std.specs.Prelude.{◌≡◌, ◌≢◌, ℕ, ◌+◌, ◌-◌, ◌*◌, ◌/◌, ◌<◌, zero, suc, true, false, List, [], ◌∷◌, ◌++◌, length, map, slice_get, slice_set, slice_index_or, nat_lt, Option, None, Some, option_map, option_and_then, if◌then◌else◌}
use Rattle.std.proofs.Common.{sym, ◌∙◌, ap, refl, arith}
use Rattle.std.proofs.Common.{inl, inr}
use Rattle.std.proofs.lemmas.Bool.{lt-ltb, le-ltb, cases_lt}
use Rattle.std.proofs.lemmas.List.{get_or-set_same, get_or-set_other, length-set}
use Rattle.std.proofs.lemmas.Option.{none-some}
use Rattle.hg_base.specs.Content.{Object, row_object, directory, Objects, placed, object_size, offsets_from, addresses_in}
use Rattle.hg_base.specs.HeapContent.{with_link, changed_on, changed_in, with_last, with_object, next_address, links_of}
use Rattle.hg_base.specs.HeapFacts.{LeadsBelow}
use Rattle.hg_base.specs.HeapLaws.{addresses_in-last, placed-last}
use Rattle.hg_hash.specs.Buckets.{links_at, table, bucket, chain, in_front}
use Rattle.hg_hash.specs.Chains.{chain-placed, chain-row, chain-relinked}
use Rattle.hg_hash.specs.Tables.{Tabled, table_is, link_at}

-- One object more.

-- a page on which something stands
pub some_page : (layout : List (List Object)) (roots : List (Option ℕ)) (n : ℕ) (x : Object) → slice_get (placed (record { layout = layout; roots = roots })) n ≡ Some x → 0 < length layout
some_page [] roots n x e = absurd (none-some x e)
some_page (page ∷ pages) roots n x e = omega arith

placed-with_all : (layout : List (List Object)) (roots : List (Option ℕ)) (x : Object) → 0 < length layout
    → placed (record { layout = with_last layout x; roots = roots }) ≡ placed (record { layout = layout; roots = roots }) ++ x ∷ []
placed-with_all [] roots x h = absurd (omega arith)
placed-with_all (page ∷ pages) roots x h = placed-last page pages x roots

pub placed-with : (o : Objects) (x : Object) → 0 < length o.layout → placed (with_object o x) ≡ placed o ++ x ∷ []
placed-with o x h = placed-with_all o.layout o.roots x h

pub addresses-with : (layout : List (List Object)) (frames : List ℕ) (x : Object) → 0 < length layout → length layout ≡ length frames
    → addresses_in (with_last layout x) frames ≡ addresses_in layout frames ++ next_address layout frames ∷ []
addresses-with [] frames x h e = absurd (omega arith)
addresses-with (page ∷ pages) frames x h e = addresses_in-last page pages frames x (omega arith)

pub get-front : {X : Type 0} (xs ys : List X) (n : ℕ) (x : X) → slice_get xs n ≡ Some x → slice_get (xs ++ ys) n ≡ Some x
get-front [] ys n x h = absurd (none-some x h)
get-front (y ∷ xs) ys zero x h = h
get-front (y ∷ xs) ys (suc n) x h = get-front xs ys n x h

-- the directory is there as before
abbrev pub tabled-with : (o : Objects) (t : Tabled o.roots (placed o)) (x : Object) → Tabled o.roots (placed (with_object o x))
tabled-with o t x =
    let some : 0 < length o.layout = some_page o.layout o.roots t.dir (directory t.links) t.there in
    record {
      dir = t.dir;
      others = t.others;
      roots_are = t.roots_are;
      links = t.links;
      there = ap (λ xs. slice_get xs t.dir) (placed-with o x some) ∙ get-front (placed o) (x ∷ []) t.dir (directory t.links) t.there;
      many = t.many;
    }

-- Another link of the directory.

changed_on-front : (f : Object → Object) (n : ℕ) (xs ys : List Object) → n < length xs → changed_on f n (xs ++ ys) ≡ changed_on f n xs ++ ys
changed_on-front f n [] ys h = absurd (omega arith)
changed_on-front f zero (x ∷ xs) ys h = refl
changed_on-front f (suc n) (x ∷ xs) ys h = ap (λ q. x ∷ q) (changed_on-front f n xs ys (omega arith))

changed_on-behind : (f : Object → Object) (n k : ℕ) (xs ys : List Object) → n ≡ length xs + k → changed_on f n (xs ++ ys) ≡ xs ++ changed_on f k ys
changed_on-behind f n k [] ys e = ap (λ q. changed_on f q ys) (let z : n ≡ k = omega arith in z)
changed_on-behind f zero k (x ∷ xs) ys e = absurd (omega arith)
changed_on-behind f (suc n) k (x ∷ xs) ys e = ap (λ q. x ∷ q) (changed_on-behind f n k xs ys (omega arith))

placed-changed_all : (f : Object → Object) (n : ℕ) (layout : List (List Object)) (roots : List (Option ℕ))
    → placed (record { layout = changed_in f n layout; roots = roots }) ≡ changed_on f n (placed (record { layout = layout; roots = roots }))
placed-changed_all f n [] roots = refl
placed-changed_all f n (page ∷ pages) roots =
    let rest : List Object = placed (record { layout = pages; roots = roots }) in
    elim (cases_lt n (length page)) [
      | inl l ↦
          ap (λ b. placed (record { layout = if b then changed_on f n page ∷ pages else page ∷ changed_in f (n - length page) pages; roots = roots })) (lt-ltb n (length page) l)
          ∙ sym (changed_on-front f n page rest l)
      | inr l ↦
          let k : n ≡ length page + (n - length page) = omega arith in
          ap (λ b. placed (record { layout = if b then changed_on f n page ∷ pages else page ∷ changed_in f (n - length page) pages; roots = roots })) (le-ltb n (length page) l)
          ∙ ap (λ q. page ++ q) (placed-changed_all f (n - length page) pages roots)
          ∙ sym (changed_on-behind f n (n - length page) page rest k)
    ]

pub placed-changed : (f : Object → Object) (n : ℕ) (o : Objects) → placed (record o { layout = changed_in f n o.layout }) ≡ changed_on f n (placed o)
placed-changed f n o = placed-changed_all f n o.layout o.roots

get-changed : (f : Object → Object) (n : ℕ) (xs : List Object) (x : Object) → slice_get xs n ≡ Some x → slice_get (changed_on f n xs) n ≡ Some (f x)
get-changed f n [] x e = absurd (none-some x e)
get-changed f zero (y ∷ xs) x e = ap (option_map f) e
get-changed f (suc n) (y ∷ xs) x e = get-changed f n xs x e

-- a row is there as before
pub row-relinked : (k : ℕ) (to : Option ℕ) (d n : ℕ) (xs : List Object) (payload : List ℕ) (link : Option ℕ) → slice_get xs n ≡ Some (row_object payload link)
    → slice_get (changed_on (with_link k to) d xs) n ≡ Some (row_object payload link)
row-relinked k to d n [] payload link e = absurd (none-some (row_object payload link) e)
row-relinked k to zero zero (x ∷ xs) payload link e = ap (option_map (with_link k to)) e
row-relinked k to zero (suc n) (x ∷ xs) payload link e = e
row-relinked k to (suc d) zero (x ∷ xs) payload link e = e
row-relinked k to (suc d) (suc n) (x ∷ xs) payload link e = row-relinked k to d n xs payload link e

-- and every object has its address
size-relinked : (k : ℕ) (to : Option ℕ) (x : Object) → object_size (with_link k to x) ≡ object_size x
size-relinked k to (row_object payload link) = refl
size-relinked k to (directory links) = ap (λ n. 16 + 16 * ((8 * n + 15) / 16)) (length-set links k to)

offsets-relinked : (k : ℕ) (to : Option ℕ) (at n : ℕ) (page : List Object) → offsets_from at (changed_on (with_link k to) n page) ≡ offsets_from at page
offsets-relinked k to at n [] = refl
offsets-relinked k to at zero (x ∷ page) = ap (λ q. at ∷ offsets_from (at + q) page) (size-relinked k to x)
offsets-relinked k to at (suc n) (x ∷ page) = ap (λ q. at ∷ q) (offsets-relinked k to (at + object_size x) n page)

pub addresses-relinked : (k : ℕ) (to : Option ℕ) (n : ℕ) (layout : List (List Object)) (frames : List ℕ)
    → addresses_in (changed_in (with_link k to) n layout) frames ≡ addresses_in layout frames
addresses-relinked k to n [] frames = refl
addresses-relinked k to n (page ∷ pages) [] = elim (nat_lt n (length page)) as (λ b. addresses_in (if b then changed_on (with_link k to) n page ∷ pages else page ∷ changed_in (with_link k to) (n - length page) pages) [] ≡ []) [
  | true ↦ refl
  | false ↦ refl
]
addresses-relinked k to n (page ∷ pages) (f ∷ frames) =
    elim (nat_lt n (length page)) as (λ b. addresses_in (if b then changed_on (with_link k to) n page ∷ pages else page ∷ changed_in (with_link k to) (n - length page) pages) (f ∷ frames) ≡ addresses_in (page ∷ pages) (f ∷ frames)) [
      | true ↦ ap (λ q. map (λ x. f * 4096 + x) q ++ addresses_in pages frames) (offsets-relinked k to 64 n page)
      | false ↦ ap (λ q. map (λ x. f * 4096 + x) (offsets_from 64 page) ++ q) (addresses-relinked k to (n - length page) pages frames)
    ]

-- A row in front of a bucket: it is placed, linked to the bucket's newest row, and the bucket's link is set to
-- it.
abbrev pub relinked : Objects → ℕ → ℕ → Option ℕ → Objects
relinked o dir k to = record o { layout = changed_in (with_link k to) dir o.layout }

abbrev pub row_added : (o : Objects) → Tabled o.roots (placed o) → ℕ → List ℕ → Objects
row_added o t k payload = relinked (with_object o (row_object payload (link_at t.links k))) t.dir k (Some (length (placed o)))

pub placed-added : (o : Objects) (t : Tabled o.roots (placed o)) (k : ℕ) (payload : List ℕ)
    → placed (row_added o t k payload) ≡ changed_on (with_link k (Some (length (placed o)))) t.dir (placed o ++ row_object payload (link_at t.links k) ∷ [])
placed-added o t k payload =
    let x : Object = row_object payload (link_at t.links k) in
    let some : 0 < length o.layout = some_page o.layout o.roots t.dir (directory t.links) t.there in
    placed-changed (with_link k (Some (length (placed o)))) t.dir (with_object o x)
    ∙ ap (changed_on (with_link k (Some (length (placed o)))) t.dir) (placed-with o x some)

-- the buckets after it
pub table-added : (o : Objects) (t : Tabled o.roots (placed o)) (k : ℕ) (payload : List ℕ) → table (row_added o t k payload) ≡ Some (slice_set t.links k (Some (length (placed o))))
table-added o t k payload =
    let x : Object = row_object payload (link_at t.links k) in
    let f : Object → Object = with_link k (Some (length (placed o))) in
    ap (λ r. links_at r (placed (row_added o t k payload))) t.roots_are
    ∙ ap (λ xs. option_and_then links_of (slice_get xs t.dir)) (placed-added o t k payload)
    ∙ ap (option_and_then links_of) (get-changed f t.dir (placed o ++ x ∷ []) (directory t.links) (get-front (placed o) (x ∷ []) t.dir (directory t.links) t.there))

pub many-added : (o : Objects) (t : Tabled o.roots (placed o)) (k : ℕ) (payload : List ℕ) → option_map length (table (row_added o t k payload)) ≡ Some 256
many-added o t k payload = ap (option_map length) (table-added o t k payload) ∙ ap Some (length-set t.links k (Some (length (placed o))) ∙ t.many)

pub chain-added : (o : Objects) (t : Tabled o.roots (placed o)) (k : ℕ) (payload : List ℕ) (link : Option ℕ)
    → chain (placed (row_added o t k payload)) link ≡ chain (placed o ++ row_object payload (link_at t.links k) ∷ []) link
chain-added o t k payload link =
    ap (λ xs. chain xs link) (placed-added o t k payload)
    ∙ chain-relinked k (Some (length (placed o))) t.dir (placed o ++ row_object payload (link_at t.links k) ∷ []) link

-- the row stands in front of its bucket
pub bucket-added : (o : Objects) (t : Tabled o.roots (placed o)) (k : ℕ) (payload : List ℕ) → k < 256 → bucket (row_added o t k payload) k ≡ in_front payload (bucket o k)
bucket-added o t k payload h =
    let many = t.many in
    ap (option_map (λ links. chain (placed (row_added o t k payload)) (slice_index_or links k None))) (table-added o t k payload)
    ∙ ap (λ l. Some (chain (placed (row_added o t k payload)) l)) (get_or-set_same t.links k (Some (length (placed o))) None (omega arith))
    ∙ ap Some (chain-added o t k payload (Some (length (placed o))) ∙ chain-row (placed o) payload (link_at t.links k))
    ∙ sym (ap (λ x. in_front payload (option_map (λ links. chain (placed o) (slice_index_or links k None)) x)) (table_is o t))

-- and the others are as they were
pub bucket-other : (o : Objects) (t : Tabled o.roots (placed o)) (k j : ℕ) (payload : List ℕ) → j ≢ k → LeadsBelow (length (placed o)) (link_at t.links j)
    → bucket (row_added o t k payload) j ≡ bucket o j
bucket-other o t k j payload other below =
    ap (option_map (λ links. chain (placed (row_added o t k payload)) (slice_index_or links j None))) (table-added o t k payload)
    ∙ ap (λ l. Some (chain (placed (row_added o t k payload)) l)) (get_or-set_other t.links k j (Some (length (placed o))) None other)
    ∙ ap Some (chain-added o t k payload (link_at t.links j) ∙ chain-placed (placed o) (row_object payload (link_at t.links k)) (link_at t.links j) below)
    ∙ sym (ap (option_map (λ links. chain (placed o) (slice_index_or links j None))) (table_is o t))
