-- Steps of the way along the entries of a page.
use Rattle.std.specs.Prelude.{◌≡◌, ℕ, ◌+◌, ◌-◌, ◌<◌, ◌≤◌, Bool, true, false, List, [], ◌∷◌, ◌++◌, length, take, drop, Some, None}
use Rattle.std.specs.declared.cmp.Ordering.TheVariants.{Less, Equal, Greater}
use Rattle.std.proofs.Common.{sym, ◌∙◌, ap, subst, refl, arith, append_assoc, length-append}
use Rattle.std.proofs.lemmas.Bool.{false≢true}
use Rattle.hg_btree.specs.Entries.{Entry, AllBy, Before, NotBehind, IsSame, order}
use Rattle.std.specs.Ordering.{is_gt}
use Rattle.hg_btree.specs.Nodes.{number, page_number, place_at, width, spelled, spelling, last_child, IsNode, Reads, Passed, IsSpot, IsThere, IsBehind, IsWay, IsFirst}
use Rattle.std.specs.declared.cmp.Ordering.{Ordering}
use Rattle.hg_btree.proofs.Orders.{greater_before, same_not_behind, same_back, before_not_behind}
use Rattle.hg_btree.proofs.Reading.{reads, end_is, spelling-none, spelling-more, spelling-append, length-spelled, all_append}

pub passed_none : (inner : Bool) (es : List Entry) (R : Entry → Type 0) → Passed inner es R 16
passed_none inner es R = record { done = []; todo = es; all = refl; place = let e = ap length (spelling-none inner) in omega arith; are = tt }

-- the entry where the way has come to
pub record Here (inner : Bool) (page : List ℕ) (es : List Entry) (R : Entry → Type 0) (at : ℕ) (p : Passed inner es R at) : Type 0 where
  pub x : Entry
  pub rest : List Entry
  pub is : p.todo ≡ x ∷ rest
  pub reading : Reads inner page at x

here_of : (inner : Bool) (page : List ℕ) (level link : ℕ) (done todo : List Entry) (at : ℕ) → IsNode inner page level link (done ++ todo)
    → at ≡ 16 + length (spelling inner done) → at < number page 4 → (x : Entry) × (rest : List Entry) × (todo ≡ x ∷ rest) × Reads inner page at x
here_of inner page level link done [] at h e l =
    absurd (let f = end_is inner page level link done [] at h e in let n = ap length (spelling-none inner) in omega arith)
here_of inner page level link done (x ∷ rest) at h e l = (x, rest, refl, reads inner page level link done x rest at h e)

pub here : (inner : Bool) (page : List ℕ) (level link : ℕ) (es : List Entry) (R : Entry → Type 0) (at : ℕ) → IsNode inner page level link es
    → (p : Passed inner es R at) → at < number page 4 → Here inner page es R at p
here inner page level link es R at h p l =
    let o = here_of inner page level link p.done p.todo at (subst (IsNode inner page level link) p.all h) p.place l in
    record { x = o.0; rest = o.1; is = o.2; reading = o.3 }

-- the comparison at a place is that of the entry there
pub order_here : (inner : Bool) (page : List ℕ) (at key_end : ℕ) (x t : Entry) → Reads inner page at x → key_end ≡ at + 10 + number page at
    → order (take (key_end - (at + 10)) (drop (at + 10) page)) (place_at page (at + 2)) t.key t.place ≡ order x.key x.place t.key t.place
order_here inner page at key_end x t r k =
    let n : key_end - (at + 10) ≡ length x.key = (let s = r.size in omega arith) in
    ap (λ m. order (take m (drop (at + 10) page)) (place_at page (at + 2)) t.key t.place) n
    ∙ ap (λ l. order l (place_at page (at + 2)) t.key t.place) r.key
    ∙ ap (λ q. order x.key q t.key t.place) r.place

-- an entry is whole
pub no_overrun : (inner : Bool) (page : List ℕ) (level link : ℕ) (es : List Entry) (R : Entry → Type 0) (at : ℕ) → IsNode inner page level link es
    → Passed inner es R at → at < number page 4 → at + 10 + number page at + width inner ≤ number page 4
no_overrun inner page level link es R at h p l =
    let o = here inner page level link es R at h p l in
    let r = o.reading in
    let s = r.size in
    let i = r.inside in
    omega arith

pub after_is : (inner : Bool) (page : List ℕ) (at after : ℕ) (x : Entry) → Reads inner page at x → after ≡ at + 10 + number page at + width inner
    → after ≡ at + length (spelled inner x)
after_is inner page at after x r a = let s = r.size in let n = length-spelled inner x in omega arith

-- one entry more was passed
pub passed_more : (inner : Bool) (es : List Entry) (R : Entry → Type 0) (at after : ℕ) (p : Passed inner es R at) (x : Entry) (rest : List Entry)
    → p.todo ≡ x ∷ rest → R x → after ≡ at + length (spelled inner x) → Passed inner es R after
passed_more inner es R at after p x rest e b a = record {
  done = p.done ++ x ∷ [];
  todo = rest;
  all = p.all ∙ ap (λ l. p.done ++ l) e ∙ sym (append_assoc p.done (x ∷ []) rest);
  place = let q = p.place in
      let s = ap length (spelling-append inner p.done (x ∷ [])) ∙ length-append (spelling inner p.done) (spelling inner (x ∷ [])) in
      let m = ap length (spelling-more inner x []) ∙ length-append (spelled inner x) (spelling inner []) in
      let z = ap length (spelling-none inner) in
      omega arith;
  are = all_append R p.done (x ∷ []) p.are (b, tt);
}

nothing_behind : (inner : Bool) (page : List ℕ) (level link : ℕ) (done todo : List Entry) (t : Entry) (at : ℕ) → IsNode inner page level link (done ++ todo)
    → at ≡ 16 + length (spelling inner done) → number page 4 ≤ at → IsBehind todo t
nothing_behind inner page level link done [] t at h e l = tt
nothing_behind inner page level link done (x ∷ rest) t at h e l =
    absurd (let r = (reads inner page level link done x rest at h e).inside in omega arith)

-- the way ends behind the last entry
pub spot_last : (inner : Bool) (page : List ℕ) (level link : ℕ) (es : List Entry) (t : Entry) (at : ℕ) → IsNode inner page level link es
    → Passed inner es (λ e. Before e t) at → number page 4 ≤ at → IsSpot inner es t at at false
spot_last inner page level link es t at h p l = record {
  passed = p;
  here = λ e. absurd (false≢true e);
  not_here = λ e. (refl, nothing_behind inner page level link p.done p.todo t at (subst (IsNode inner page level link) p.all h) p.place l);
}

-- the way ends at an entry
pub spot_there : (inner : Bool) (es : List Entry) (t : Entry) (at after : ℕ) (p : Passed inner es (λ e. Before e t) at) (x : Entry) (rest : List Entry)
    → p.todo ≡ x ∷ rest → IsSame x t → after ≡ at + length (spelled inner x) → IsSpot inner es t at after true
spot_there inner es t at after p x rest e s a = record {
  passed = p;
  here = λ _. subst (λ l. IsThere inner l t at after) (sym e) (s, a);
  not_here = λ f. absurd (false≢true (sym f));
}

pub spot_before : (inner : Bool) (es : List Entry) (t : Entry) (at : ℕ) (p : Passed inner es (λ e. Before e t) at) (x : Entry) (rest : List Entry)
    → p.todo ≡ x ∷ rest → Before t x → IsSpot inner es t at at false
spot_before inner es t at p x rest e b = record {
  passed = p;
  here = λ f. absurd (false≢true f);
  not_here = λ _. (refl, subst (λ l. IsBehind l t) (sym e) b);
}

-- the child whose entry ends where the way has come to
child_from : (page : List ℕ) (level link c : ℕ) (pre done todo : List Entry) (at : ℕ) → IsNode true page level link (pre ++ (done ++ todo))
    → page_number page (16 + length (spelling true pre) - 4) ≡ c → at ≡ 16 + length (spelling true (pre ++ done))
    → page_number page (at - 4) ≡ last_child c done
child_from page level link c pre [] todo at h e a =
    let s = ap length (spelling-append true pre []) ∙ length-append (spelling true pre) (spelling true []) in
    let z = ap length (spelling-none true) in
    let k : at - 4 ≡ 16 + length (spelling true pre) - 4 = omega arith in
    ap (page_number page) k ∙ e
child_from page level link c pre (x ∷ done) todo at h e a =
    let p : ℕ = 16 + length (spelling true pre) in
    let r = reads true page level link pre x (done ++ todo) p h refl in
    let s = ap length (spelling-append true pre (x ∷ [])) ∙ length-append (spelling true pre) (spelling true (x ∷ [])) in
    let m = ap length (spelling-more true x []) ∙ length-append (spelled true x) (spelling true []) in
    let z = ap length (spelling-none true) in
    let n = length-spelled true x in
    let k : 16 + length (spelling true (pre ++ x ∷ [])) - 4 ≡ p + 10 + length x.key = omega arith in
    child_from page level link x.child (pre ++ x ∷ []) done todo at
    (subst (IsNode true page level link) (sym (append_assoc pre (x ∷ []) (done ++ todo))) h)
    (ap (page_number page) k ∙ r.child refl)
    (a ∙ ap (λ l. 16 + length (spelling true l)) (sym (append_assoc pre (x ∷ []) done)))

pub child_read : (page : List ℕ) (level link : ℕ) (es : List Entry) (R : Entry → Type 0) (at : ℕ) → IsNode true page level link es
    → (p : Passed true es R at) → page_number page (at - 4) ≡ last_child link p.done
child_read page level link es R at h p =
    let z = ap length (spelling-none true) in
    let k : 16 + length (spelling true []) - 4 ≡ 12 = omega arith in
    child_from page level link link [] p.done p.todo at (subst (IsNode true page level link) p.all h)
    (ap (page_number page) k ∙ h.link_is) p.place

-- the way ends before an entry that is behind t
pub way_before : (page : List ℕ) (level link : ℕ) (es : List Entry) (t : Entry) (at child : ℕ) → IsNode true page level link es
    → (p : Passed true es (λ e. NotBehind e t) at) (x : Entry) (rest : List Entry) → p.todo ≡ x ∷ rest → Before t x → child ≡ page_number page (at - 4)
    → IsWay link es t at child
way_before page level link es t at child h p x rest e b c = record {
  passed = p;
  behind = subst (λ l. IsBehind l t) (sym e) b;
  child_is = c ∙ child_read page level link es (λ e. NotBehind e t) at h p;
}

-- or behind the last entry
pub way_last : (page : List ℕ) (level link : ℕ) (es : List Entry) (t : Entry) (at child : ℕ) → IsNode true page level link es
    → (p : Passed true es (λ e. NotBehind e t) at) → number page 4 ≤ at → child ≡ page_number page (at - 4) → IsWay link es t at child
way_last page level link es t at child h p l c = record {
  passed = p;
  behind = nothing_behind true page level link p.done p.todo t at (subst (IsNode true page level link) p.all h) p.place l;
  child_is = c ∙ child_read page level link es (λ e. NotBehind e t) at h p;
}

-- what stands where a spot is
first_rest : (inner : Bool) (todo : List Entry) (t x : Entry) (rest : List Entry) (at after : ℕ) (there : Bool) → todo ≡ x ∷ rest
    → (there ≡ true → IsThere inner todo t at after) → (there ≡ false → (after ≡ at) × IsBehind todo t) → NotBehind t x
first_rest inner todo t x rest at after true e h n =
    let s = subst (λ l. IsThere inner l t at after) e (h refl) in same_not_behind t x (same_back x t s.0)
first_rest inner todo t x rest at after false e h n =
    let s = subst (λ l. IsBehind l t) e ((n refl).1) in before_not_behind t x s

pub spot_first : (inner : Bool) (page : List ℕ) (level link : ℕ) (es : List Entry) (t : Entry) (at after end : ℕ) (there : Bool) (key : List ℕ) (place : ℕ)
    → IsNode inner page level link es → IsSpot inner es t at after there → at < number page 4
    → end ≡ at + 10 + number page at → key ≡ take (end - (at + 10)) (drop (at + 10) page) → place ≡ place_at page (at + 2) → IsFirst es t (Some place) key
spot_first inner page level link es t at after end there key place h s l e k p =
    let o = here inner page level link es (λ e. Before e t) at h s.passed l in
    let r = o.reading in
    let n : end - (at + 10) ≡ length o.x.key = (let z = r.size in omega arith) in
    record {
      before = s.passed.done;
      x = o.x;
      after = o.rest;
      all = s.passed.all ∙ ap (λ l. s.passed.done ++ l) o.is;
      below = s.passed.are;
      from = first_rest inner s.passed.todo t o.x o.rest at after there o.is s.here s.not_here;
      place_is = p ∙ r.place;
      key_is = k ∙ ap (λ m. take m (drop (at + 10) page)) n ∙ r.key;
    }

append-none : {A : Type 0} (x : List A) → x ++ [] ≡ x
append-none [] = refl
append-none (y ∷ x) = ap (λ r. y ∷ r) (append-none x)

all_done : (inner : Bool) (page : List ℕ) (level link : ℕ) (done todo : List Entry) (t : Entry) (at : ℕ) → IsNode inner page level link (done ++ todo)
    → at ≡ 16 + length (spelling inner done) → number page 4 ≤ at → AllBy (λ e. Before e t) done → AllBy (λ e. Before e t) (done ++ todo)
all_done inner page level link done [] t at h a l d = all_append (λ e. Before e t) done [] d tt
all_done inner page level link done (x ∷ rest) t at h a l d =
    absurd (let r = (reads inner page level link done x rest at h a).inside in omega arith)

pub spot_none : (inner : Bool) (page : List ℕ) (level link : ℕ) (es : List Entry) (t : Entry) (at after : ℕ) (there : Bool) (key : List ℕ)
    → IsNode inner page level link es → IsSpot inner es t at after there → number page 4 ≤ at → IsFirst es t None key
spot_none inner page level link es t at after there key h s l =
    subst (AllBy (λ e. Before e t)) (sym s.passed.all)
    (all_done inner page level link s.passed.done s.passed.todo t at (subst (IsNode inner page level link) s.passed.all h) s.passed.place l s.passed.are)

pub gt_greater : (inner : Bool) (x t : Entry) → is_gt (order x.key x.place t.key t.place) ≡ true → Before t x
gt_greater inner x t h = greater_before x t (only (order x.key x.place t.key t.place) h)
  where
    only : (o : Ordering) → is_gt o ≡ true → o ≡ Greater
    only Less e = absurd (false≢true e)
    only Equal e = absurd (false≢true e)
    only Greater e = refl
