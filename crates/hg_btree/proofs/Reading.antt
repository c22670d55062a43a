-- What is read of a page that holds entries.
use Rattle.std.specs.Prelude.{◌≡◌, ℕ, ◌+◌, ◌^◌, ◌<◌, ◌≤◌, Bool, true, false, List, [], ◌∷◌, ◌++◌, length, take, drop}
use Rattle.std.specs.Int.{w16, w32, w64, from_le_bytes, to_le_bytes}
use Rattle.std.proofs.Common.{sym, ◌∙◌, ap, subst, refl, arith, append_assoc, length-append}
use Rattle.std.proofs.lemmas.List.{take-take, take_at, drop_at, drop-take, drop-drop}
use Rattle.std.proofs.lemmas.Nat.{from_le_bytes-to_le_bytes_2, from_le_bytes-to_le_bytes_4, from_le_bytes-to_le_bytes_8}
use Rattle.hg_btree.specs.Entries.{Entry, AllBy}
use Rattle.hg_btree.specs.Nodes.{number, page_number, place_at, width, child_bytes, spelled, spelling, IsProper, IsNode, Reads}

-- a part of bytes that is u and then v begins with u
pub front : (b u v : List ℕ) (at n : ℕ) → take n (drop at b) ≡ u ++ v → length u + length v ≡ n → take (length u) (drop at b) ≡ u
front b u v at n e l =
    sym (take-take (length u) n (drop at b) (omega arith)) ∙ ap (take (length u)) e ∙ take_at u v (length u) refl

-- and ends with v
pub back : (b u v : List ℕ) (at n : ℕ) → take n (drop at b) ≡ u ++ v → length u + length v ≡ n → take (length v) (drop (at + length u) b) ≡ v
back b u v at n e l =
    ap (take (length v)) (sym (drop-drop (length u) at b))
    ∙ sym (drop-take (length u) (length v) (drop at b))
    ∙ ap (λ k. drop (length u) (take k (drop at b))) l
    ∙ ap (drop (length u)) e
    ∙ drop_at u v (length u) refl

pub spelling-none : (inner : Bool) → spelling inner [] ≡ []
unfolding spelling
spelling-none inner = refl

pub spelling-more : (inner : Bool) (e : Entry) (es : List Entry) → spelling inner (e ∷ es) ≡ spelled inner e ++ spelling inner es
unfolding spelling
spelling-more inner e es = refl

pub spelling-append : (inner : Bool) (a b : List Entry) → spelling inner (a ++ b) ≡ spelling inner a ++ spelling inner b
spelling-append inner [] b = ap (λ l. l ++ spelling inner b) (sym (spelling-none inner))
spelling-append inner (e ∷ a) b =
    spelling-more inner e (a ++ b)
    ∙ ap (λ l. spelled inner e ++ l) (spelling-append inner a b)
    ∙ sym (append_assoc (spelled inner e) (spelling inner a) (spelling inner b))
    ∙ ap (λ l. l ++ spelling inner b) (sym (spelling-more inner e a))

length-child_bytes : (inner : Bool) (child : ℕ) → length (child_bytes inner child) ≡ width inner
length-child_bytes true child = refl
length-child_bytes false child = refl

pub length-spelled : (inner : Bool) (e : Entry) → length (spelled inner e) ≡ 10 + length e.key + width inner
unfolding spelled
length-spelled inner e =
    let c = length-child_bytes inner e.child in
    let a = length-append e.key (child_bytes inner e.child) in
    let b = length-append (to_le_bytes w64 e.place) (e.key ++ child_bytes inner e.child) in
    let d = length-append (to_le_bytes w16 (length e.key)) (to_le_bytes w64 e.place ++ (e.key ++ child_bytes inner e.child)) in
    let p : length (to_le_bytes w16 (length e.key)) ≡ 2 = refl in
    let q : length (to_le_bytes w64 e.place) ≡ 8 = refl in
    omega arith

-- the bytes of a list of entries from a place on
pub rest_of : (inner : Bool) (page : List ℕ) (level link : ℕ) (done todo : List Entry) (at : ℕ) → IsNode inner page level link (done ++ todo)
    → at ≡ 16 + length (spelling inner done)
    → take (length (spelling inner todo)) (drop at page) ≡ spelling inner todo
rest_of inner page level link done todo at h e =
    let l : length (spelling inner done) + length (spelling inner todo) ≡ length (spelling inner (done ++ todo)) =
    sym (ap length (spelling-append inner done todo) ∙ length-append (spelling inner done) (spelling inner todo)) in
    rw e (back page (spelling inner done) (spelling inner todo) 16 (length (spelling inner (done ++ todo)))
    (h.text ∙ spelling-append inner done todo) l)

pub end_is : (inner : Bool) (page : List ℕ) (level link : ℕ) (done todo : List Entry) (at : ℕ) → IsNode inner page level link (done ++ todo)
    → at ≡ 16 + length (spelling inner done) → number page 4 ≡ at + length (spelling inner todo)
end_is inner page level link done todo at h e =
    let l = ap length (spelling-append inner done todo) ∙ length-append (spelling inner done) (spelling inner todo) in
    let f = h.free in omega arith

-- the parts of an entry from its bytes
read_child : (inner : Bool) (page : List ℕ) (at : ℕ) (child : ℕ) → child < 2 ^ 32 → take (width inner) (drop at page) ≡ child_bytes inner child
    → inner ≡ true → page_number page at ≡ child
unfolding page_number
read_child true page at child s e h = ap (from_le_bytes w32) e ∙ from_le_bytes-to_le_bytes_4 child s
read_child false page at child s e h = absurd (cc)

reads_parts : (inner : Bool) (page : List ℕ) (at : ℕ) (e : Entry) → IsProper e → take (length (spelled inner e)) (drop at page) ≡ spelled inner e
    → at + length (spelled inner e) ≤ number page 4 → Reads inner page at e
unfolding spelled number place_at
reads_parts inner page at e p h f =
    let n = length-spelled inner e in
    let c = length-child_bytes inner e.child in
    let la = length-append e.key (child_bytes inner e.child) in
    let lb = length-append (to_le_bytes w64 e.place) (e.key ++ child_bytes inner e.child) in
    let ld = length-append (to_le_bytes w16 (length e.key)) (to_le_bytes w64 e.place ++ (e.key ++ child_bytes inner e.child)) in
    let h1 : take (length (to_le_bytes w64 e.place ++ (e.key ++ child_bytes inner e.child))) (drop (at + 2) page) ≡ to_le_bytes w64 e.place ++ (e.key ++ child_bytes inner e.child) =
    back page (to_le_bytes w16 (length e.key)) (to_le_bytes w64 e.place ++ (e.key ++ child_bytes inner e.child)) at (length (spelled inner e)) h (sym ld) in
    let h2 : take (length (e.key ++ child_bytes inner e.child)) (drop (at + 2 + 8) page) ≡ e.key ++ child_bytes inner e.child =
    back page (to_le_bytes w64 e.place) (e.key ++ child_bytes inner e.child) (at + 2) (length (to_le_bytes w64 e.place ++ (e.key ++ child_bytes inner e.child))) h1 (sym lb) in
    let ten : at + 2 + 8 ≡ at + 10 = omega arith in
    let h3 : take (length (e.key ++ child_bytes inner e.child)) (drop (at + 10) page) ≡ e.key ++ child_bytes inner e.child =
    subst (λ k. take (length (e.key ++ child_bytes inner e.child)) (drop k page) ≡ e.key ++ child_bytes inner e.child) ten h2 in
    record {
      size = ap (from_le_bytes w16) (front page (to_le_bytes w16 (length e.key)) (to_le_bytes w64 e.place ++ (e.key ++ child_bytes inner e.child)) at (length (spelled inner e)) h (sym ld))
          ∙ from_le_bytes-to_le_bytes_2 (length e.key) (let k = p.key in omega arith);
      place = ap (from_le_bytes w64) (front page (to_le_bytes w64 e.place) (e.key ++ child_bytes inner e.child) (at + 2) (length (to_le_bytes w64 e.place ++ (e.key ++ child_bytes inner e.child))) h1 (sym lb))
          ∙ from_le_bytes-to_le_bytes_8 e.place p.place;
      key = front page e.key (child_bytes inner e.child) (at + 10) (length (e.key ++ child_bytes inner e.child)) h3 (sym la);
      child = read_child inner page (at + 10 + length e.key) e.child p.child
          (subst (λ k. take k (drop (at + 10 + length e.key) page) ≡ child_bytes inner e.child) c
          (back page e.key (child_bytes inner e.child) (at + 10) (length (e.key ++ child_bytes inner e.child)) h3 (sym la)));
      proper = p;
      inside = omega arith;
    }

pub all_behind : (P : Entry → Type 0) (a b : List Entry) → AllBy P (a ++ b) → AllBy P b
all_behind P [] b h = h
all_behind P (x ∷ a) b h = all_behind P a b h.1

pub all_front : (P : Entry → Type 0) (a b : List Entry) → AllBy P (a ++ b) → AllBy P a
all_front P [] b h = tt
all_front P (x ∷ a) b h = (h.0, all_front P a b h.1)

pub all_append : (P : Entry → Type 0) (a b : List Entry) → AllBy P a → AllBy P b → AllBy P (a ++ b)
all_append P [] b h g = g
all_append P (x ∷ a) b h g = (h.0, all_append P a b h.1 g)

-- what stands at the place of an entry of a page
pub reads : (inner : Bool) (page : List ℕ) (level link : ℕ) (done : List Entry) (x : Entry) (todo : List Entry) (at : ℕ)
    → IsNode inner page level link (done ++ x ∷ todo) → at ≡ 16 + length (spelling inner done) → Reads inner page at x
reads inner page level link done x todo at h e =
    let r = rest_of inner page level link done (x ∷ todo) at h e in
    let m = spelling-more inner x todo in
    let l = ap length m ∙ length-append (spelled inner x) (spelling inner todo) in
    reads_parts inner page at x ((all_behind IsProper done (x ∷ todo) h.proper).0)
    (front page (spelled inner x) (spelling inner todo) at (length (spelling inner (x ∷ todo))) (r ∙ m) (sym l))
    (let f = end_is inner page level link done (x ∷ todo) at h e in omega arith)
