-- Laws of buckets whose links lead to rows alone: such a bucket has no row only where its link leads to nothing.
use Rattle.std.specs.Prelude.{◌≡◌, ◌≢◌, ℕ, ◌+◌, ◌<◌, Bool, true, false, List, [], ◌∷◌, ◌++◌, length, slice_get, slice_set, slice_index_or, Option, None, Some, is_some, option_map, option_and_then}
use Rattle.std.proofs.Common.{sym, ◌∙◌, ap, subst, refl, arith}
use Rattle.std.proofs.lemmas.List.{get_or-set_same, get_or-set_other}
use Rattle.std.proofs.lemmas.Option.{none-some}
use Rattle.hg_base.specs.Content.{Object, row_object, directory, Objects, placed}
use Rattle.hg_base.specs.HeapContent.{with_link, changed_on}
use Rattle.hg_base.specs.HeapFacts.{LeadsBelow, IsObject, AreWellPlaced}
use Rattle.hg_hash.specs.Buckets.{row_of, table, chain, leads_to_row, row_first}
use Rattle.hg_hash.specs.Changing.{get-front, row-relinked, row_added, placed-added, table-added}
use Rattle.hg_hash.specs.Following.{chain-nth, nth_object}
use Rattle.hg_hash.specs.Tables.{Tabled, table_is, link_at}

-- the row that such a link leads to
pub record RowAt (objects : List Object) (n : ℕ) : Type 0 where
  pub payload : List ℕ
  pub link : Option ℕ
  pub is : slice_get objects n ≡ Some (row_object payload link)

row_at_as : (objects : List Object) (n : ℕ) (x : Option Object) → slice_get objects n ≡ x → is_some (option_and_then row_of x) ≡ true → RowAt objects n
row_at_as objects n None e t = absurd (cc)
row_at_as objects n (Some (directory links)) e t = absurd (cc)
row_at_as objects n (Some (row_object payload link)) e t = record { payload = payload; link = link; is = e }

pub row_at : (objects : List Object) (n : ℕ) → leads_to_row objects (Some n) ≡ true → RowAt objects n
row_at objects n t = row_at_as objects n (slice_get objects n) refl t

get-last : (xs : List Object) (x : Object) → slice_get (xs ++ x ∷ []) (length xs) ≡ Some x
get-last [] x = refl
get-last (y ∷ xs) x = get-last xs x

-- a row that is there is there after a row was added
row_stays : (o : Objects) (t : Tabled o.roots (placed o)) (k : ℕ) (payload : List ℕ) (n : ℕ) (bytes : List ℕ) (link : Option ℕ)
    → slice_get (placed o ++ row_object payload (link_at t.links k) ∷ []) n ≡ Some (row_object bytes link) → leads_to_row (placed (row_added o t k payload)) (Some n) ≡ true
row_stays o t k payload n bytes link e =
    ap (λ xs. is_some (option_and_then row_of (slice_get xs n))) (placed-added o t k payload)
    ∙ ap (λ x. is_some (option_and_then row_of x)) (row-relinked k (Some (length (placed o))) t.dir n (placed o ++ row_object payload (link_at t.links k) ∷ []) bytes link e)

link_stays : (o : Objects) (t : Tabled o.roots (placed o)) (k : ℕ) (payload : List ℕ) (link : Option ℕ) → leads_to_row (placed o) link ≡ true → leads_to_row (placed (row_added o t k payload)) link ≡ true
link_stays o t k payload None e = refl
link_stays o t k payload (Some n) e =
    let r : RowAt (placed o) n = row_at (placed o) n e in
    row_stays o t k payload n r.payload r.link (get-front (placed o) (row_object payload (link_at t.links k) ∷ []) n (row_object r.payload r.link) r.is)

pub first-added : (o : Objects) (t : Tabled o.roots (placed o)) (k : ℕ) (payload : List ℕ) → k < 256 → row_first (row_added o t k payload) k ≡ Some true
first-added o t k payload h =
    let many = t.many in
    ap (option_map (λ links. leads_to_row (placed (row_added o t k payload)) (slice_index_or links k None))) (table-added o t k payload)
    ∙ ap (λ l. Some (leads_to_row (placed (row_added o t k payload)) l)) (get_or-set_same t.links k (Some (length (placed o))) None (omega arith))
    ∙ ap Some (row_stays o t k payload (length (placed o)) payload (link_at t.links k) (get-last (placed o) (row_object payload (link_at t.links k))))

pub first-other : (o : Objects) (t : Tabled o.roots (placed o)) (k j : ℕ) (payload : List ℕ) → j ≢ k → row_first o j ≡ Some true → row_first (row_added o t k payload) j ≡ Some true
first-other o t k j payload other e =
    let f : ◌≡◌ {A = Option Bool} (Some (leads_to_row (placed o) (link_at t.links j))) (Some true) =
    sym (ap (option_map (λ links. leads_to_row (placed o) (slice_index_or links j None))) (table_is o t)) ∙ e in
    let g : leads_to_row (placed o) (link_at t.links j) ≡ true = cc in
    ap (option_map (λ links. leads_to_row (placed (row_added o t k payload)) (slice_index_or links j None))) (table-added o t k payload)
    ∙ ap (λ l. Some (leads_to_row (placed (row_added o t k payload)) l)) (get_or-set_other t.links k j (Some (length (placed o))) None other)
    ∙ ap Some (link_stays o t k payload (link_at t.links j) g)

-- no row, no link
pub no_link : (o : Objects) (link : Option ℕ) → AreWellPlaced o → leads_to_row (placed o) link ≡ true → chain (placed o) link ≡ [] → link ≡ None
no_link o None w t e = refl
no_link o (Some n) w t e =
    let r : RowAt (placed o) n = row_at (placed o) n t in
    let is : IsObject (0 + n) (length (placed o)) (row_object r.payload r.link) = nth_object (length (placed o)) 0 (placed o) n (row_object r.payload r.link) w.objects r.is in
    let leads : LeadsBelow n r.link = subst (λ q. LeadsBelow q r.link) (let z : 0 + n ≡ n = omega arith in z) is.2 in
    let f : r.payload ∷ chain (placed o) r.link ≡ [] = sym (chain-nth (placed o) n r.payload r.link r.is leads) ∙ e in absurd (cc)
