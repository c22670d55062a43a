-- What the writes into a page do to its head and its entries.
use Rattle.std.specs.Prelude.{◌≡◌, ℕ, ◌+◌, ◌-◌, ◌^◌, ◌<◌, ◌≤◌, min, zero, suc, Bool, true, false, List, [], ◌∷◌, ◌++◌, length, take, drop, replicate, slice_index, slice_set, ◌⊎◌}
use Rattle.std.specs.Int.{w16, w32, w64, from_le_bytes, to_le_bytes}
use Rattle.std.proofs.Common.{sym, ◌∙◌, ap, subst, refl, arith, append_assoc, length-append, length-drop, inl, inr, get_or-set_other, get_or-set_same}
use Rattle.std.proofs.lemmas.List.{take_at, drop_at, drop-drop, drop_more, drop_all, take-append-drop}
use Rattle.std.proofs.lemmas.Nat.{from_le_bytes-to_le_bytes_2, from_le_bytes-to_le_bytes_4}
use Rattle.std.proofs.lemmas.Bool.{cases_lt}
use Rattle.std.proofs.lemmas.List.{length-set, length-replicate, drop-replicate, get_or-replicate, drop-take, take-take}
use Rattle.hg_base.specs.Parts.{below, above, within, parts, length-written}
use borrow.Rule.Slice.PartMut.{put_mid}
use lib.Seq.{paste}
use Rattle.hg_btree.specs.Entries.{Entry, AllBy}
use Rattle.hg_btree.specs.Nodes.{number, page_number, width, child_bytes, kind_of, link_at, unused_at, spelled, spelling, IsProper, IsUnused, IsNode}
use Rattle.hg_btree.specs.Writing.{KeepsHead, SetsHead}
use Rattle.hg_btree.proofs.Reading.{front, back, spelling-none, spelling-more, spelling-append, length-spelled, rest_of, end_is, all_front, all_behind, all_append}

pub keeps_then : (a b c : List ℕ) → KeepsHead a b → KeepsHead b c → KeepsHead a c
keeps_then a b c p q = record {
  same_length = q.same_length ∙ p.same_length;
  front = λ m k h. q.front m k h ∙ p.front m k h;
  back = λ m k h l. q.back m k h l ∙ p.back m k h l;
}

-- a write behind the head
pub keeps_head : (a x : List ℕ) (at n : ℕ) → 16 ≤ at → at + n ≤ length a → length x ≡ n → KeepsHead a (put_mid at n a x)
keeps_head a x at n f l e = record {
  same_length = length-written a x at n l e;
  front = λ m k h. below a x at n m k (omega arith) (omega arith);
  back = λ m k h g. below a x at n m k (omega arith) (omega arith);
}

number-here : (a : List ℕ) (at v : ℕ) → at + 2 ≤ length a → v < 2 ^ 16 → number (put_mid at 2 a (to_le_bytes w16 v)) at ≡ v
unfolding number
number-here a at v l s =
    ap (from_le_bytes w16) (within a (to_le_bytes w16 v) at 2 (omega arith) refl) ∙ from_le_bytes-to_le_bytes_2 v s

number-below : (a x : List ℕ) (at m : ℕ) → m + 2 ≤ at → at ≤ length a → number (put_mid at 2 a x) m ≡ number a m
unfolding number
number-below a x at m h l = ap (from_le_bytes w16) (below a x at 2 m 2 h l)

pub sets_head : (a : List ℕ) (count free : ℕ) → length a ≡ 4096 → count < 2 ^ 16 → free < 2 ^ 16
    → SetsHead a (put_mid 4 2 (put_mid 2 2 a (to_le_bytes w16 count)) (to_le_bytes w16 free)) count free
sets_head a count free l c f =
    let b : List ℕ = put_mid 2 2 a (to_le_bytes w16 count) in
    let lb : length b ≡ length a = length-written a (to_le_bytes w16 count) 2 2 (omega arith) refl in
    let body : (m k : ℕ) → 6 ≤ m → take k (drop m (put_mid 4 2 b (to_le_bytes w16 free))) ≡ take k (drop m a) =
    λ m k h. above b (to_le_bytes w16 free) 4 2 m k (omega arith) (omega arith) refl ∙ above a (to_le_bytes w16 count) 2 2 m k (omega arith) (omega arith) refl in
    record {
      head = record {
        same_length = length-written b (to_le_bytes w16 free) 4 2 (omega arith) refl ∙ lb;
        front = λ m k h. below b (to_le_bytes w16 free) 4 2 m k (omega arith) (omega arith) ∙ below a (to_le_bytes w16 count) 2 2 m k (omega arith) (omega arith);
        back = λ m k h g. body m k h;
      };
      count_is = number-below b (to_le_bytes w16 free) 4 2 (omega arith) (omega arith) ∙ number-here a 2 count (omega arith) c;
      free_is = number-here b 4 free (omega arith) f;
      body = body;
    }

-- nothing is written where there is nothing to write
pub put_none : (b : List ℕ) (at : ℕ) → b ≡ put_mid at 0 b []
put_none b at = sym (take-append-drop at b)

-- the next bytes of a list whose first ones are u
pub fill : (b u v x : List ℕ) (at k : ℕ) → b ≡ u ++ v → length u ≡ at → put_mid at k b x ≡ (u ++ x) ++ drop k v
fill b u v x at k e l =
    ap (λ c. put_mid at k c x) e
    ∙ ap (λ r. r ++ (x ++ drop k (drop at (u ++ v)))) (take_at u v at l)
    ∙ ap (λ r. u ++ (x ++ drop k r)) (drop_at u v at l)
    ∙ sym (append_assoc u x (drop k v))

length-child_bytes : (inner : Bool) (child : ℕ) → length (child_bytes inner child) ≡ width inner
length-child_bytes true child = refl
length-child_bytes false child = refl

-- an entry from its four parts
pub entry_written : (b key : List ℕ) (inner : Bool) (place child n : ℕ) → length b ≡ 10 + length key + width inner → n ≡ length key
    → put_mid (10 + length key) (width inner) (put_mid 10 n (put_mid 2 8 (put_mid 0 2 b (to_le_bytes w16 (length key))) (to_le_bytes w64 place)) key) (child_bytes inner child)
    ≡ spelled inner (record { key = key; place = place; child = child })
unfolding spelled
entry_written b key inner place child n l e =
    let s : List ℕ = to_le_bytes w16 (length key) in
    let p : List ℕ = to_le_bytes w64 place in
    let c : List ℕ = child_bytes inner child in
    let w1 : put_mid 0 2 b s ≡ s ++ drop 2 b = refl in
    let w2 : put_mid 2 8 (put_mid 0 2 b s) p ≡ (s ++ p) ++ drop 8 (drop 2 b) = fill (put_mid 0 2 b s) s (drop 2 b) p 2 8 w1 refl in
    let w3 : put_mid 10 n (put_mid 2 8 (put_mid 0 2 b s) p) key ≡ ((s ++ p) ++ key) ++ drop n (drop 8 (drop 2 b)) =
    fill (put_mid 2 8 (put_mid 0 2 b s) p) (s ++ p) (drop 8 (drop 2 b)) key 10 n w2 refl in
    let w4 : put_mid (10 + length key) (width inner) (put_mid 10 n (put_mid 2 8 (put_mid 0 2 b s) p) key) c ≡ (((s ++ p) ++ key) ++ c) ++ drop (width inner) (drop n (drop 8 (drop 2 b))) =
    fill (put_mid 10 n (put_mid 2 8 (put_mid 0 2 b s) p) key) ((s ++ p) ++ key) (drop n (drop 8 (drop 2 b))) c (10 + length key) (width inner) w3
    (let a1 = length-append (s ++ p) key in let a2 : length (s ++ p) ≡ 10 = refl in omega arith) in
    let none : drop (width inner) (drop n (drop 8 (drop 2 b))) ≡ [] =
    drop_all (width inner) (drop n (drop 8 (drop 2 b)))
    (let d1 = length-drop n (drop 8 (drop 2 b)) in let d2 = length-drop 8 (drop 2 b) in let d3 = length-drop 2 b in omega arith) in
    w4 ∙ ap (λ r. (((s ++ p) ++ key) ++ c) ++ r) none ∙ tidy s p key c
  where
    append-none : (x : List ℕ) → x ++ [] ≡ x
    append-none [] = refl
    append-none (y ∷ x) = ap (λ r. y ∷ r) (append-none x)

    tidy : (s p k c : List ℕ) → (((s ++ p) ++ k) ++ c) ++ [] ≡ s ++ (p ++ (k ++ c))
    tidy s p k c = append-none (((s ++ p) ++ k) ++ c) ∙ append_assoc (s ++ p) k c ∙ append_assoc s p (k ++ c)

-- a copy within a page is a write of the bytes that it copies
pub paste_put : (b s : List ℕ) (at n : ℕ) → paste b at s n ≡ put_mid at n b (take n s)
paste_put b s at n = append_assoc (take at b) (take n s) (drop (at + n) b) ∙ ap (λ r. take at b ++ (take n s ++ r)) (sym (drop-drop n at b))

-- the fields of a page that a changed head keeps
byte_of : (a : List ℕ) (k : ℕ) → k < length a → take 1 (drop k a) ≡ slice_index a k ∷ []
byte_of a k l = ap (take 1) (drop_more a k 0 l) ∙ one (slice_index a k) (drop (k + 1) a)
  where
    one : (x : ℕ) (r : List ℕ) → take 1 (x ∷ r) ≡ x ∷ []
    one x r = refl

pub byte-same : (a b : List ℕ) (k : ℕ) → k < length a → length b ≡ length a → take 1 (drop k b) ≡ take 1 (drop k a) → slice_index b k ≡ slice_index a k
byte-same a b k l e h =
    let f : slice_index b k ∷ [] ≡ slice_index a k ∷ [] = sym (byte_of b k (omega arith)) ∙ h ∙ byte_of a k l in cc

pub kind-kept : (a b : List ℕ) → length a ≡ 4096 → KeepsHead a b → slice_index b 0 ≡ slice_index a 0
kind-kept a b l h = byte-same a b 0 (omega arith) h.same_length (h.front 0 1 (omega arith))

pub level-kept : (a b : List ℕ) → length a ≡ 4096 → KeepsHead a b → slice_index b 1 ≡ slice_index a 1
level-kept a b l h = byte-same a b 1 (omega arith) h.same_length (h.front 1 1 (omega arith))

pub link-kept : (a b : List ℕ) (inner : Bool) → KeepsHead a b → page_number b (link_at inner) ≡ page_number a (link_at inner)
unfolding page_number
link-kept a b true h = ap (from_le_bytes w32) (h.back 12 4 (omega arith) (omega arith))
link-kept a b false h = ap (from_le_bytes w32) (h.back 8 4 (omega arith) (omega arith))

-- there are no more entries than bytes of them
pub count_few : (inner : Bool) (es : List Entry) → length es ≤ length (spelling inner es)
count_few inner [] = omega (arith, ap length (spelling-none inner))
count_few inner (e ∷ es) =
    let m = ap length (spelling-more inner e es) ∙ length-append (spelled inner e) (spelling inner es) in
    let s = length-spelled inner e in
    let r = count_few inner es in
    omega arith

-- ---- bytes without a meaning
pub zero_from : (b : List ℕ) (m : ℕ) → m < length b → take 1 (drop m b) ≡ 0 ∷ [] → slice_index b m ≡ 0
zero_from b m l e = let f : slice_index b m ∷ [] ≡ 0 ∷ [] = sym (byte_of b m l) ∙ e in cc

zero_there : (b : List ℕ) (m : ℕ) → m < length b → slice_index b m ≡ 0 → take 1 (drop m b) ≡ 0 ∷ []
zero_there b m l e = byte_of b m l ∙ ap (λ y. y ∷ []) e

-- at the end of a page
pub zero_end : (inner : Bool) (page : List ℕ) (level link : ℕ) (es : List Entry) (m : ℕ) → IsNode inner page level link es → number page 4 ≤ m → m < 4096 → take 1 (drop m page) ≡ 0 ∷ []
zero_end inner page level link es m h f t = zero_there page m (let w = h.whole in omega arith) (h.zeros m (inr (inr (let e = h.free in omega arith, t))))

pub byte-written : (b x : List ℕ) (at k m : ℕ) → at ≤ m → m < at + k → at ≤ length b → length x ≡ k → take 1 (drop m (put_mid at k b x)) ≡ take 1 (drop (m - at) x)
byte-written b x at k m f t l e =
    let there : at + (m - at) ≡ m = omega arith in
    ap (λ j. take 1 (drop j (put_mid at k b x))) (sym there)
    ∙ ap (take 1) (sym (drop-drop (m - at) at (put_mid at k b x)))
    ∙ sym (drop-take (m - at) 1 (drop at (put_mid at k b x)))
    ∙ ap (drop (m - at)) (sym (take-take (m - at + 1) k (drop at (put_mid at k b x)) (omega arith)) ∙ ap (take (m - at + 1)) (within b x at k l e))
    ∙ drop-take (m - at) 1 x

pub zero-written : (b : List ℕ) (at k m : ℕ) → at ≤ m → m < at + k → at ≤ length b → take 1 (drop m (put_mid at k b (replicate k 0))) ≡ 0 ∷ []
zero-written b at k m f t l =
    byte-written b (replicate k 0) at k m f t l (length-replicate k 0)
    ∙ ap (take {A = ℕ} 1) (drop-replicate (m - at) k 0) ∙ one (k - (m - at)) (omega arith)
  where
    one : (j : ℕ) → 0 < j → take {A = ℕ} 1 (replicate j 0) ≡ 0 ∷ []
    one zero h = absurd (omega arith)
    one (suc j) h = refl

-- in the head these stand behind the two numbers that are set, and away from the link
unused_head : (inner : Bool) (m : ℕ) → unused_at inner ≤ m → m < unused_at inner + 4 → (6 ≤ m) × (m + 1 ≤ 16)
unused_head true m f t = (omega arith, omega arith)
unused_head false m f t = (omega arith, omega arith)

pub unused_apart : (inner : Bool) (end m : ℕ) → 16 ≤ end → IsUnused inner end m → (6 ≤ m) × ((m + 1 ≤ link_at inner) ⊎ (link_at inner + 4 ≤ m))
unused_apart true end m h u = elim u [ inl g ↦ (omega arith, inl (omega arith)) | inr v ↦ elim v [ inl w ↦ (omega arith, inl (omega arith)) | inr e ↦ (omega arith, inr (omega arith)) ] ]
unused_apart false end m h u = elim u [ inl g ↦ (omega arith, inl (omega arith)) | inr v ↦ elim v [ inl w ↦ (omega arith, inr (omega arith)) | inr e ↦ (omega arith, inr (omega arith)) ] ]

pub unused_few : (inner : Bool) (end m : ℕ) → IsUnused inner end m → m < 4096
unused_few true end m u = elim u [ inl g ↦ omega arith | inr v ↦ elim v [ inl w ↦ omega arith | inr e ↦ e.1 ] ]
unused_few false end m u = elim u [ inl g ↦ omega arith | inr v ↦ elim v [ inl w ↦ omega arith | inr e ↦ e.1 ] ]

-- a page with a changed head and these entries
pub rebuilt : (inner : Bool) (a b : List ℕ) (level link : ℕ) (old new : List Entry) → IsNode inner a level link old → KeepsHead a b
    → number b 2 ≡ length new → number b 4 ≡ 16 + length (spelling inner new) → 16 + length (spelling inner new) ≤ 4096
    → take (length (spelling inner new)) (drop 16 b) ≡ spelling inner new → AllBy IsProper new
    → ((m : ℕ) → 16 + length (spelling inner new) ≤ m → m < 4096 → take 1 (drop m b) ≡ 0 ∷ [])
    → IsNode inner b level link new
rebuilt inner a b level link old new h k c f l t p z = record {
  whole = k.same_length ∙ h.whole;
  kind = kind-kept a b h.whole k ∙ h.kind;
  level_is = level-kept a b h.whole k ∙ h.level_is;
  count = c;
  link_is = link-kept a b inner k ∙ h.link_is;
  free = f;
  fits = l;
  text = t;
  proper = p;
  zeros = λ m u.
      let w = h.whole in
      let n = k.same_length in
      elim u [
        | inl g ↦ byte-same a b m (omega arith) k.same_length (k.back m 1 (omega arith) (omega arith)) ∙ h.zeros m (inl g)
        | inr v ↦ elim v [
          | inl g ↦ (let q = unused_head inner m g.0 g.1 in byte-same a b m (omega arith) k.same_length (k.back m 1 q.0 q.1) ∙ h.zeros m (inr (inl g)))
          | inr e ↦ zero_from b m (omega arith) (z m e.0 e.1)
        ]
      ];
}

-- an entry was put in: the bytes behind it were moved, it was written, and the head was set
pub inserted : (inner : Bool) (page moved wrote b : List ℕ) (level link : ℕ) (done todo : List Entry) (x : Entry) (at n end count : ℕ)
    → IsNode inner page level link (done ++ todo) → at ≡ 16 + length (spelling inner done) → IsProper x → n ≡ length (spelled inner x)
    → end ≡ number page 4 → end + n ≤ 4096
    → moved ≡ paste page (at + n) (drop at page) (end - at) → wrote ≡ put_mid at n moved (spelled inner x)
    → count ≡ min (number page 2 + 1) 65535 → SetsHead wrote b count (end + n)
    → IsNode inner b level link (done ++ x ∷ todo)
inserted inner page moved wrote b level link done todo x at n end count h a p ns e room m w cs s =
    let ld : length (spelling inner (done ++ todo)) ≡ length (spelling inner done) + length (spelling inner todo) =
    ap length (spelling-append inner done todo) ∙ length-append (spelling inner done) (spelling inner todo) in
    let end_at = end_is inner page level link done todo at h a in
    let lt : end - at ≡ length (spelling inner todo) = omega arith in
    let part : List ℕ = take (end - at) (drop at page) in
    let is_todo : part ≡ spelling inner todo = ap (λ k. take k (drop at page)) lt ∙ rest_of inner page level link done todo at h a in
    let whole = h.whole in
    let lp : length part ≡ end - at = ap length is_todo ∙ sym lt in
    let moved_is : moved ≡ put_mid (at + n) (end - at) page part = m ∙ paste_put page (drop at page) (at + n) (end - at) in
    let lm : length moved ≡ 4096 = ap length moved_is ∙ length-written page part (at + n) (end - at) (omega arith) lp ∙ whole in
    let km : KeepsHead page moved = subst (KeepsHead page) (sym moved_is) (keeps_head page part (at + n) (end - at) (omega arith) (omega arith) lp) in
    let kw : KeepsHead moved wrote = subst (KeepsHead moved) (sym w) (keeps_head moved (spelled inner x) at n (omega arith) (omega arith) (sym ns)) in
    let k : KeepsHead page b = keeps_then page wrote b (keeps_then page moved wrote km kw) s.head in
    let few = count_few inner (done ++ todo) in
    let fits = h.fits in
    let counted : length (done ++ x ∷ todo) ≡ length (done ++ todo) + 1 =
    (let l1 = length-append done (x ∷ todo) in let l2 = length-append done todo in omega arith) in
    let sp : spelling inner (done ++ x ∷ todo) ≡ spelling inner done ++ (spelled inner x ++ spelling inner todo) =
    spelling-append inner done (x ∷ todo) ∙ ap (λ r. spelling inner done ++ r) (spelling-more inner x todo) in
    let ls : length (spelling inner (done ++ x ∷ todo)) ≡ length (spelling inner done) + (n + length (spelling inner todo)) =
    ap length sp ∙ length-append (spelling inner done) (spelled inner x ++ spelling inner todo)
    ∙ ap (λ r. length (spelling inner done) + r) (length-append (spelled inner x) (spelling inner todo))
    ∙ ap (λ r. length (spelling inner done) + (r + length (spelling inner todo))) (sym ns) in
    let la : ℕ = length (spelling inner done) in
    let lb : ℕ = length (spelling inner todo) in
    let at_is : 16 + la ≡ at = sym a in
    let t1 : take la (drop 16 b) ≡ spelling inner done =
    s.body 16 la (omega arith)
    ∙ ap (λ r. take la (drop 16 r)) w ∙ below moved (spelled inner x) at n 16 la (omega arith) (omega arith)
    ∙ ap (λ r. take la (drop 16 r)) moved_is ∙ below page part (at + n) (end - at) 16 la (omega arith) (omega arith)
    ∙ front page (spelling inner done) (spelling inner todo) 16 (length (spelling inner (done ++ todo))) (h.text ∙ spelling-append inner done todo) (sym ld) in
    let t2 : take n (drop at b) ≡ spelled inner x =
    s.body at n (omega arith) ∙ ap (λ r. take n (drop at r)) w ∙ within moved (spelled inner x) at n (omega arith) (sym ns) in
    let t3 : take lb (drop (at + n) b) ≡ spelling inner todo =
    s.body (at + n) lb (omega arith)
    ∙ ap (λ r. take lb (drop (at + n) r)) w ∙ above moved (spelled inner x) at n (at + n) lb (omega arith) (omega arith) (sym ns)
    ∙ ap (λ r. take lb (drop (at + n) r)) moved_is
    ∙ ap (λ q. take q (drop (at + n) (put_mid (at + n) (end - at) page part))) (sym lt)
    ∙ within page part (at + n) (end - at) (omega arith) lp ∙ is_todo in
    let text : take (la + (n + lb)) (drop 16 b) ≡ spelling inner done ++ (spelled inner x ++ spelling inner todo) =
    parts b 16 la (n + lb)
    ∙ ap (λ r. r ++ take (n + lb) (drop (16 + la) b)) t1
    ∙ ap (λ r. spelling inner done ++ take (n + lb) (drop r b)) at_is
    ∙ ap (λ r. spelling inner done ++ r) (parts b at n lb ∙ ap (λ r. r ++ take lb (drop (at + n) b)) t2 ∙ ap (λ r. spelled inner x ++ r) t3) in
    rebuilt inner page b level link (done ++ todo) (done ++ x ∷ todo) h k
    (let c1 = s.count_is in let c2 = h.count in omega arith)
    (let f1 = s.free_is in let f2 = h.free in omega arith)
    (omega arith)
    (ap (λ q. take q (drop 16 b)) ls ∙ text ∙ sym sp)
    (all_append IsProper done (x ∷ todo) (all_front IsProper done todo h.proper) (p, all_behind IsProper done todo h.proper))
    (λ m f t.
    let f2 = h.free in
    s.body m 1 (omega arith)
    ∙ ap (λ r. take 1 (drop m r)) w ∙ above moved (spelled inner x) at n m 1 (omega arith) (omega arith) (sym ns)
    ∙ ap (λ r. take 1 (drop m r)) moved_is ∙ above page part (at + n) (end - at) m 1 (omega arith) (omega arith) lp
    ∙ zero_end inner page level link (done ++ todo) m h (omega arith) t)

-- an entry was taken away: the bytes behind it were moved, the end was cleared, and the head was set
pub removed : (inner : Bool) (page moved wrote b zeros : List ℕ) (level link : ℕ) (done : List Entry) (x : Entry) (todo : List Entry) (at after end count free k : ℕ)
    → IsNode inner page level link (done ++ x ∷ todo) → at ≡ 16 + length (spelling inner done) → after ≡ at + length (spelled inner x)
    → end ≡ number page 4
    → moved ≡ paste page at (drop after page) (end - after) → free ≡ end - (after - at) → k ≡ end - free → zeros ≡ replicate k 0 → wrote ≡ put_mid free k moved zeros
    → count ≡ number page 2 - 1 → SetsHead wrote b count free
    → IsNode inner b level link (done ++ todo)
removed inner page moved wrote b zeros level link done x todo at after end count free k h a f e m fr kz zs w cs s =
    let lz : length zeros ≡ k = ap length zs ∙ length-replicate k 0 in
    let ns = length-spelled inner x in
    let sp : spelling inner (done ++ x ∷ todo) ≡ spelling inner done ++ (spelled inner x ++ spelling inner todo) =
    spelling-append inner done (x ∷ todo) ∙ ap (λ r. spelling inner done ++ r) (spelling-more inner x todo) in
    let lx : length (spelling inner (x ∷ todo)) ≡ length (spelled inner x) + length (spelling inner todo) =
    ap length (spelling-more inner x todo) ∙ length-append (spelled inner x) (spelling inner todo) in
    let end_at = end_is inner page level link done (x ∷ todo) at h a in
    let la : ℕ = length (spelling inner done) in
    let lb : ℕ = length (spelling inner todo) in
    let lt : end - after ≡ lb = omega arith in
    let fits = h.fits in
    let ff = h.free in
    let whole = h.whole in
    let part : List ℕ = take (end - after) (drop after page) in
    let rest : take (length (spelling inner (x ∷ todo))) (drop at page) ≡ spelled inner x ++ spelling inner todo =
    rest_of inner page level link done (x ∷ todo) at h a ∙ spelling-more inner x todo in
    let is_todo : part ≡ spelling inner todo =
    ap (λ q. take q (drop after page)) lt ∙ ap (λ q. take lb (drop q page)) f
    ∙ back page (spelled inner x) (spelling inner todo) at (length (spelling inner (x ∷ todo))) rest (sym lx) in
    let lp : length part ≡ end - after = ap length is_todo ∙ sym lt in
    let moved_is : moved ≡ put_mid at (end - after) page part = m ∙ paste_put page (drop after page) at (end - after) in
    let lm : length moved ≡ 4096 = ap length moved_is ∙ length-written page part at (end - after) (omega arith) lp ∙ whole in
    let km : KeepsHead page moved = subst (KeepsHead page) (sym moved_is) (keeps_head page part at (end - after) (omega arith) (omega arith) lp) in
    let kw : KeepsHead moved wrote = subst (KeepsHead moved) (sym w) (keeps_head moved zeros free k (omega arith) (omega arith) lz) in
    let kk : KeepsHead page b = keeps_then page wrote b (keeps_then page moved wrote km kw) s.head in
    let ls : length (spelling inner (done ++ todo)) ≡ la + lb = ap length (spelling-append inner done todo) ∙ length-append (spelling inner done) (spelling inner todo) in
    let at_is : 16 + la ≡ at = sym a in
    let lwhole : length (spelling inner (done ++ x ∷ todo)) ≡ la + (length (spelled inner x) + lb) =
    ap length sp ∙ length-append (spelling inner done) (spelled inner x ++ spelling inner todo) ∙ ap (λ r. la + r) (length-append (spelled inner x) (spelling inner todo)) in
    let t1 : take la (drop 16 b) ≡ spelling inner done =
    s.body 16 la (omega arith)
    ∙ ap (λ r. take la (drop 16 r)) w ∙ below moved zeros free k 16 la (omega arith) (omega arith)
    ∙ ap (λ r. take la (drop 16 r)) moved_is ∙ below page part at (end - after) 16 la (omega arith) (omega arith)
    ∙ front page (spelling inner done) (spelled inner x ++ spelling inner todo) 16 (length (spelling inner (done ++ x ∷ todo))) (h.text ∙ sp)
    (let q = length-append (spelled inner x) (spelling inner todo) in omega arith) in
    let t2 : take lb (drop at b) ≡ spelling inner todo =
    s.body at lb (omega arith)
    ∙ ap (λ r. take lb (drop at r)) w ∙ below moved zeros free k at lb (omega arith) (omega arith)
    ∙ ap (λ r. take lb (drop at r)) moved_is
    ∙ ap (λ q. take q (drop at (put_mid at (end - after) page part))) (sym lt)
    ∙ within page part at (end - after) (omega arith) lp ∙ is_todo in
    let counted : length (done ++ x ∷ todo) ≡ length (done ++ todo) + 1 =
    (let l1 = length-append done (x ∷ todo) in let l2 = length-append done todo in omega arith) in
    let pr = all_behind IsProper done (x ∷ todo) h.proper in
    rebuilt inner page b level link (done ++ x ∷ todo) (done ++ todo) h kk
    (let c1 = s.count_is in let c2 = h.count in omega arith)
    (let f1 = s.free_is in omega arith)
    (omega arith)
    (ap (λ q. take q (drop 16 b)) ls ∙ parts b 16 la lb ∙ ap (λ r. r ++ take lb (drop (16 + la) b)) t1 ∙ ap (λ r. spelling inner done ++ take lb (drop r b)) at_is
    ∙ ap (λ r. spelling inner done ++ r) t2 ∙ sym (spelling-append inner done todo))
    (all_append IsProper done todo (all_front IsProper done (x ∷ todo) h.proper) pr.1)
    (λ j g t. s.body j 1 (omega arith) ∙ ap (λ r. take 1 (drop j r)) w
    ∙ elim (cases_lt j end) [
      | inl l ↦ ap (λ z. take 1 (drop j (put_mid free k moved z))) zs ∙ zero-written moved free k j (omega arith) (omega arith) (omega arith)
      | inr l ↦ above moved zeros free k j 1 (omega arith) (omega arith) lz
          ∙ ap (λ r. take 1 (drop j r)) moved_is ∙ above page part at (end - after) j 1 (omega arith) (omega arith) lp
          ∙ zero_end inner page level link (done ++ x ∷ todo) j h (omega arith) t
    ])

-- a page with no entries
pub started : (inner : Bool) (a b c d e : List ℕ) (kind level link la : ℕ) → a ≡ replicate 4096 0 → b ≡ slice_set a 0 kind → c ≡ slice_set b 1 level → kind ≡ kind_of inner
    → la ≡ link_at inner → link < 2 ^ 32 → d ≡ put_mid la 4 c (to_le_bytes w32 link) → SetsHead d e 0 16 → IsNode inner e level link []
unfolding page_number
started inner a b c d e kind level link la az be ce k li small de s =
    let l : length a ≡ 4096 = ap length az ∙ length-replicate {A = ℕ} 4096 0 in
    let lb : length b ≡ 4096 = ap length be ∙ length-set {A = ℕ} a 0 kind ∙ l in
    let lc : length c ≡ 4096 = ap length ce ∙ length-set {A = ℕ} b 1 level ∙ lb in
    let places : (la ≡ 12) ⊎ (la ≡ 8) = two inner la li in
    let from : 8 ≤ la = (elim places [ inl p ↦ omega arith | inr p ↦ omega arith ]) in
    let to : la ≤ 12 = (elim places [ inl p ↦ omega arith | inr p ↦ omega arith ]) in
    let ld : length d ≡ 4096 = ap length de ∙ length-written c (to_le_bytes w32 link) la 4 (omega arith) refl ∙ lc in
    let low : (j : ℕ) → j < 2 → slice_index d j ≡ slice_index c j =
    λ j h. byte-same c d j (omega arith) (ld ∙ sym lc) (ap (λ r. take 1 (drop j r)) de ∙ below c (to_le_bytes w32 link) la 4 j 1 (omega arith) (omega arith)) in
    let c0 : slice_index c 0 ≡ kind = ap (λ r. slice_index r 0) ce ∙ get_or-set_other b 1 0 level 0 (omega arith) ∙ ap (λ r. slice_index r 0) be ∙ get_or-set_same a 0 kind 0 (omega arith) in
    let c1 : slice_index c 1 ≡ level = ap (λ r. slice_index r 1) ce ∙ get_or-set_same b 1 level 0 (omega arith) in
    let none = ap length (spelling-none inner) in
    record {
      whole = s.head.same_length ∙ ld;
      kind = kind-kept d e ld s.head ∙ low 0 (omega arith) ∙ c0 ∙ k;
      level_is = level-kept d e ld s.head ∙ low 1 (omega arith) ∙ c1;
      count = s.count_is;
      link_is = ap (λ m. from_le_bytes w32 (take 4 (drop m e))) (sym li)
          ∙ ap (from_le_bytes w32) (s.head.back la 4 (omega arith) (omega arith) ∙ ap (λ r. take 4 (drop la r)) de ∙ within c (to_le_bytes w32 link) la 4 (omega arith) refl)
          ∙ from_le_bytes-to_le_bytes_4 link small;
      free = s.free_is ∙ (let z : 16 ≡ 16 + length (spelling inner []) = omega arith in z);
      fits = omega arith;
      text = ap (λ n. take n (drop 16 e)) none ∙ sym (spelling-none inner);
      proper = tt;
      zeros = λ m u.
          let q = unused_apart inner (16 + length (spelling inner [])) m (omega arith) u in
          let few : m < 4096 = unused_few inner (16 + length (spelling inner [])) m u in
          let le = s.head.same_length in
          let at_link : take 1 (drop m d) ≡ take 1 (drop m c) = ap (λ r. take 1 (drop m r)) de
          ∙ elim (q.1) [
            | inl f ↦ below c (to_le_bytes w32 link) la 4 m 1 (omega arith) (omega arith)
            | inr f ↦ above c (to_le_bytes w32 link) la 4 m 1 (omega arith) (omega arith) refl
          ] in
          byte-same c e m (omega arith) (le ∙ ld ∙ sym lc) (s.body m 1 (q.0) ∙ at_link)
          ∙ ap (λ r. slice_index r m) ce ∙ get_or-set_other b 1 m level 0 (omega arith) ∙ ap (λ r. slice_index r m) be ∙ get_or-set_other a 0 m kind 0 (omega arith)
          ∙ ap (λ r. slice_index r m) az ∙ get_or-replicate 4096 m 0 0 few;
    }
  where
    two : (inner : Bool) (la : ℕ) → la ≡ link_at inner → (la ≡ 12) ⊎ (la ≡ 8)
    two true la h = inl h
    two false la h = inr h
