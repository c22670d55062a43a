-- What the writes of a heap do to one of its pages: another root, another word of a directory, another
-- payload, one object more. `page` is a page of these objects, and the writes go where they stand.
use Rattle.std.specs.Prelude.{◌≡◌, ℕ, ◌+◌, ◌-◌, ◌*◌, ◌/◌, ◌<◌, ◌≤◌, ◌⊎◌, zero, suc, List, [], ◌∷◌, ◌++◌, length, take, drop, replicate, slice_set, Option, None}
use Rattle.std.specs.List.{flat_map, sum_by}
use Rattle.std.specs.Int.{w16, w32, to_le_bytes}
use Rattle.std.proofs.Common.{inl, inr, sym, ◌∙◌, ap, refl, arith, length-append, append_assoc, append-nil}
use Rattle.std.proofs.lemmas.List.{take_at, drop_at, take-append-drop, drop-drop, length-replicate, replicate-append-replicate}
use Rattle.std.proofs.lemmas.List.Concat.{flat_map-append}
use Rattle.std.proofs.lemmas.List.Sums.{sum_by-cons, sum_by-append}
use Rattle.std.proofs.Math.Seq.{take-add}
use borrow.Rule.Slice.PartMut.{put_mid}
use Rattle.hg_base.specs.Content.{Object, row_object, directory, object_size, page_end}
use Rattle.hg_base.specs.HeapPage.{link_bytes, object_bytes, roots_bytes, IsHeapPage}

-- the page of these objects, byte by byte
abbrev head : List Object → ℕ → List ℕ
head os frame = (72 ∷ 0 ∷ []) ++ (to_le_bytes w16 (page_end os) ++ to_le_bytes w32 frame)

abbrev rest : (ℕ → ℕ) → List Object → List ℕ
rest a os = flat_map (object_bytes a) os ++ replicate (4096 - page_end os) 0

abbrev spelled : (ℕ → ℕ) → List (Option ℕ) → List Object → ℕ → List ℕ
spelled a roots os frame = head os frame ++ (roots_bytes a roots ++ rest a os)

pub length-links : (a : ℕ → ℕ) (links : List (Option ℕ)) → length (flat_map (link_bytes a) links) ≡ 8 * length links
length-links a [] = refl
length-links a (l ∷ links) = length-append (link_bytes a l) (flat_map (link_bytes a) links) ∙ omega (arith, length-links a links)

pub length-object : (a : ℕ → ℕ) (o : Object) → length (object_bytes a o) ≡ object_size o
length-object a (row_object payload link) =
    length-append (to_le_bytes w16 (length payload) ++ 1 ∷ replicate 5 0 ++ link_bytes a link ++ payload) (replicate (object_size (row_object payload link) - 16 - length payload) 0)
    ∙ omega (arith, length-append (to_le_bytes w16 (length payload) ++ 1 ∷ replicate 5 0 ++ link_bytes a link) payload, length-replicate {A = ℕ} (object_size (row_object payload link) - 16 - length payload) 0)
length-object a (directory links) =
    length-append (to_le_bytes w16 (8 * length links) ++ 2 ∷ replicate 5 0 ++ link_bytes a None ++ flat_map (link_bytes a) links) (replicate (object_size (directory links) - 16 - 8 * length links) 0)
    ∙ omega (
      arith,
      length-append (to_le_bytes w16 (8 * length links) ++ 2 ∷ replicate 5 0 ++ link_bytes a None) (flat_map (link_bytes a) links),
      length-links a links,
      length-replicate {A = ℕ} (object_size (directory links) - 16 - 8 * length links) 0,
    )

pub length-objects : (a : ℕ → ℕ) (os : List Object) → length (flat_map (object_bytes a) os) ≡ sum_by object_size os
length-objects a [] = refl
length-objects a (o ∷ os) = length-append (object_bytes a o) (flat_map (object_bytes a) os) ∙ omega (arith, length-object a o, length-objects a os, sum_by-cons object_size o os)

length-roots : (a : ℕ → ℕ) (roots : List (Option ℕ)) → 8 * length roots ≤ 48 → length (roots_bytes a roots) ≡ 56
length-roots a roots h =
    length-append (replicate 8 0 ++ flat_map (link_bytes a) roots) (replicate (48 - 8 * length roots) 0)
    ∙ omega (arith, length-append (replicate 8 0) (flat_map (link_bytes a) roots), length-links a roots, length-replicate {A = ℕ} (48 - 8 * length roots) 0)

as_spelled : (a : ℕ → ℕ) (roots : List (Option ℕ)) (os : List Object) (f : ℕ) (page : List ℕ) → IsHeapPage a roots os f page → page ≡ spelled a roots os f
as_spelled a roots os f page h =
    let front : take 8 page ≡ head os f =
    take-add 2 6 page ∙ ap (λ q. take 2 page ++ q) (take-add 2 4 (drop 2 page) ∙ ap (λ q. take 2 (drop 2 page) ++ take 4 q) (drop-drop 2 2 page))
    ∙ ap (λ q. q ++ (take 2 (drop 2 page) ++ take 4 (drop 4 page))) h.kind
    ∙ ap (λ q. (72 ∷ 0 ∷ []) ++ (q ++ take 4 (drop 4 page))) h.end
    ∙ ap (λ q. (72 ∷ 0 ∷ []) ++ (to_le_bytes w16 (page_end os) ++ q)) h.stood_in in
    let behind : drop 8 page ≡ roots_bytes a roots ++ rest a os =
    sym (take-append-drop 56 (drop 8 page)) ∙ ap (λ q. q ++ drop 56 (drop 8 page)) h.first
    ∙ ap (λ q. roots_bytes a roots ++ q) (drop-drop 56 8 page ∙ h.placed) in
    sym (take-append-drop 8 page) ∙ ap (λ q. q ++ drop 8 page) front ∙ ap (λ q. head os f ++ q) behind

is_spelled : (a : ℕ → ℕ) (roots : List (Option ℕ)) (os : List Object) (f : ℕ) (page : List ℕ) → 8 * length roots ≤ 48 → page_end os ≤ 4096 → page ≡ spelled a roots os f → IsHeapPage a roots os f page
is_spelled a roots os f page r s e =
    let n : length (roots_bytes a roots) ≡ 56 = length-roots a roots r in
    record {
      size = ap length e ∙ length-append (head os f) (roots_bytes a roots ++ rest a os)
          ∙ omega (
            arith,
            length-append (roots_bytes a roots) (rest a os),
            length-append (flat_map (object_bytes a) os) (replicate (4096 - page_end os) 0),
            length-objects a os,
            length-replicate {A = ℕ} (4096 - page_end os) 0,
          );
      kind = ap (take 2) e;
      end = ap (λ q. take 2 (drop 2 q)) e;
      stood_in = ap (λ q. take 4 (drop 4 q)) e;
      first = ap (λ q. take 56 (drop 8 q)) e ∙ take_at (roots_bytes a roots) (rest a os) 56 n;
      fits = s;
      placed = ap (drop 64) e ∙ sym (drop-drop 56 8 (spelled a roots os f)) ∙ drop_at (roots_bytes a roots) (rest a os) 56 n;
    }

-- bytes written over a part of others
replaced : (page front old behind x : List ℕ) (at n : ℕ) → page ≡ front ++ (old ++ behind) → length front ≡ at → length old ≡ n → put_mid at n page x ≡ front ++ (x ++ behind)
replaced page front old behind x at n e f o =
    ap (λ q. put_mid at n q x) e
    ∙ ap (λ q. q ++ (x ++ drop n (drop at (front ++ (old ++ behind))))) (take_at front (old ++ behind) at f)
    ∙ ap (λ q. front ++ (x ++ drop n q)) (drop_at front (old ++ behind) at f)
    ∙ ap (λ q. front ++ (x ++ q)) (drop_at old behind n o)

-- One link among others.
pub record IsLinkAt (a : ℕ → ℕ) (links : List (Option ℕ)) (k : ℕ) (to : Option ℕ) : Type 0 where
  pub front : List ℕ
  pub old : List ℕ
  pub behind : List ℕ
  pub before : flat_map (link_bytes a) links ≡ front ++ (old ++ behind)
  pub after : flat_map (link_bytes a) (slice_set links k to) ≡ front ++ (link_bytes a to ++ behind)
  pub at : length front ≡ 8 * k
  pub eight : length old ≡ 8
  pub many : length (slice_set links k to) ≡ length links

link_at : (a : ℕ → ℕ) (links : List (Option ℕ)) (k : ℕ) (to : Option ℕ) → k < length links → IsLinkAt a links k to
link_at a [] k to h = absurd (omega arith)
link_at a (l ∷ links) zero to h = record {
  front = [];
  old = link_bytes a l;
  behind = flat_map (link_bytes a) links;
  before = refl;
  after = refl;
  at = omega arith;
  eight = refl;
  many = refl;
}
link_at a (l ∷ links) (suc k) to h =
    let r : IsLinkAt a links k to = link_at a links k to (omega arith) in
    record {
      front = link_bytes a l ++ r.front;
      old = r.old;
      behind = r.behind;
      before = ap (λ q. link_bytes a l ++ q) r.before ∙ sym (append_assoc (link_bytes a l) r.front (r.old ++ r.behind));
      after = ap (λ q. link_bytes a l ++ q) r.after ∙ sym (append_assoc (link_bytes a l) r.front (link_bytes a to ++ r.behind));
      at = length-append (link_bytes a l) r.front ∙ omega (arith, r.at);
      eight = r.eight;
      many = omega (arith, r.many);
    }

regroup_root : (h z t o d e q : List ℕ) → h ++ (((z ++ (t ++ (o ++ d))) ++ e) ++ q) ≡ (h ++ (z ++ t)) ++ (o ++ ((d ++ e) ++ q))
regroup_root h z t o d e q = simp append_assoc

-- another root
pub root_written : (a : ℕ → ℕ) (roots : List (Option ℕ)) (os : List Object) (f : ℕ) (page : List ℕ) (k : ℕ) (to : Option ℕ) → length roots ≡ 4 → k < 4
    → IsHeapPage a roots os f page → IsHeapPage a (slice_set roots k to) os f (put_mid (16 + 8 * k) 8 page (link_bytes a to))
root_written a roots os f page k to four h i =
    let l : IsLinkAt a roots k to = link_at a roots k to (omega arith) in
    let e : List ℕ = replicate (48 - 8 * length roots) 0 in
    let front : List ℕ = head os f ++ (replicate 8 0 ++ l.front) in
    let old : page ≡ front ++ (l.old ++ ((l.behind ++ e) ++ rest a os)) =
    as_spelled a roots os f page i ∙ ap (λ q. head os f ++ (((replicate 8 0 ++ q) ++ e) ++ rest a os)) l.before
    ∙ regroup_root (head os f) (replicate 8 0) l.front l.old l.behind e (rest a os) in
    let new : put_mid (16 + 8 * k) 8 page (link_bytes a to) ≡ front ++ (link_bytes a to ++ ((l.behind ++ e) ++ rest a os)) =
    replaced page front l.old ((l.behind ++ e) ++ rest a os) (link_bytes a to) (16 + 8 * k) 8 old
    (length-append (head os f) (replicate 8 0 ++ l.front) ∙ omega (arith, length-append (replicate 8 0) l.front, l.at)) l.eight in
    is_spelled a (slice_set roots k to) os f (put_mid (16 + 8 * k) 8 page (link_bytes a to)) (omega (arith, l.many)) i.fits
    (new ∙ sym (regroup_root (head os f) (replicate 8 0) l.front (link_bytes a to) l.behind e (rest a os))
    ∙ ap (λ q. head os f ++ (((replicate 8 0 ++ q) ++ e) ++ rest a os)) (sym l.after)
    ∙ ap (λ n. head os f ++ (((replicate 8 0 ++ flat_map (link_bytes a) (slice_set roots k to)) ++ replicate (48 - 8 * n) 0) ++ rest a os)) (sym l.many))

-- An object of a page changed in one part of its bytes; it keeps its size.
pub record IsPartOf (a : ℕ → ℕ) (o new : Object) (at n : ℕ) (x : List ℕ) : Type 0 where
  pub front : List ℕ
  pub old : List ℕ
  pub behind : List ℕ
  pub before : object_bytes a o ≡ front ++ (old ++ behind)
  pub after : object_bytes a new ≡ front ++ (x ++ behind)
  pub at_is : length front ≡ at
  pub long : length old ≡ n
  pub same : object_size new ≡ object_size o

regroup_object : (h r b f o d t z : List ℕ) → h ++ (r ++ ((b ++ ((f ++ (o ++ d)) ++ t)) ++ z)) ≡ (h ++ (r ++ (b ++ f))) ++ (o ++ ((d ++ t) ++ z))
regroup_object h r b f o d t z = simp append_assoc

same_end : (front behind : List Object) (o new : Object) → object_size new ≡ object_size o → page_end (front ++ new ∷ behind) ≡ page_end (front ++ o ∷ behind)
same_end front behind o new e =
    omega (arith, sum_by-append object_size front (o ∷ behind), sum_by-append object_size front (new ∷ behind), sum_by-cons object_size o behind, sum_by-cons object_size new behind)

pub object_written : (a : ℕ → ℕ) (roots : List (Option ℕ)) (front behind : List Object) (o new : Object) (f : ℕ) (page : List ℕ) (at n : ℕ) (x : List ℕ) → 8 * length roots ≤ 48
    → IsPartOf a o new at n x → IsHeapPage a roots (front ++ o ∷ behind) f page → IsHeapPage a roots (front ++ new ∷ behind) f (put_mid (page_end front + at) n page x)
object_written a roots front behind o new f page at n x four p i =
    let b : List ℕ = flat_map (object_bytes a) front in
    let t : List ℕ = flat_map (object_bytes a) behind in
    let z : List ℕ = replicate (4096 - page_end (front ++ o ∷ behind)) 0 in
    let h : List ℕ = head (front ++ o ∷ behind) f in
    let r : List ℕ = roots_bytes a roots in
    let e : page_end (front ++ new ∷ behind) ≡ page_end (front ++ o ∷ behind) = same_end front behind o new p.same in
    let old : page ≡ (h ++ (r ++ (b ++ p.front))) ++ (p.old ++ ((p.behind ++ t) ++ z)) =
    as_spelled a roots (front ++ o ∷ behind) f page i
    ∙ ap (λ q. h ++ (r ++ (q ++ z))) (flat_map-append (object_bytes a) front (o ∷ behind))
    ∙ ap (λ q. h ++ (r ++ ((b ++ (q ++ t)) ++ z))) p.before
    ∙ regroup_object h r b p.front p.old p.behind t z in
    let place : length (h ++ (r ++ (b ++ p.front))) ≡ page_end front + at =
    length-append h (r ++ (b ++ p.front))
    ∙ omega (arith, length-append r (b ++ p.front), length-append b p.front, length-roots a roots four, length-objects a front, p.at_is) in
    let written : put_mid (page_end front + at) n page x ≡ (h ++ (r ++ (b ++ p.front))) ++ (x ++ ((p.behind ++ t) ++ z)) =
    replaced page (h ++ (r ++ (b ++ p.front))) p.old ((p.behind ++ t) ++ z) x (page_end front + at) n old place p.long in
    is_spelled a roots (front ++ new ∷ behind) f (put_mid (page_end front + at) n page x) four (omega (arith, i.fits))
    (written ∙ sym (regroup_object h r b p.front x p.behind t z)
    ∙ ap (λ q. h ++ (r ++ ((b ++ (q ++ t)) ++ z))) (sym p.after)
    ∙ ap (λ q. h ++ (r ++ (q ++ z))) (sym (flat_map-append (object_bytes a) front (new ∷ behind)))
    ∙ ap (λ n. ((72 ∷ 0 ∷ []) ++ (to_le_bytes w16 n ++ to_le_bytes w32 f)) ++ (r ++ (flat_map (object_bytes a) (front ++ new ∷ behind) ++ replicate (4096 - n) 0))) (sym e))

-- another payload of a row, as long as the one before
pub payload_part : (a : ℕ → ℕ) (payload x : List ℕ) (link : Option ℕ) → length x ≡ length payload → IsPartOf a (row_object payload link) (row_object x link) 16 (length payload) x
payload_part a payload x link e =
    let h : List ℕ = to_le_bytes w16 (length payload) ++ 1 ∷ replicate 5 0 ++ link_bytes a link in
    let size : object_size (row_object x link) ≡ object_size (row_object payload link) = omega arith in
    record {
      front = h;
      old = payload;
      behind = replicate (object_size (row_object payload link) - 16 - length payload) 0;
      before = append_assoc h payload (replicate (object_size (row_object payload link) - 16 - length payload) 0);
      after = ap (λ n. to_le_bytes w16 n ++ 1 ∷ replicate 5 0 ++ link_bytes a link ++ x ++ replicate (16 + 16 * ((n + 15) / 16) - 16 - n) 0) e
          ∙ append_assoc h x (replicate (object_size (row_object payload link) - 16 - length payload) 0);
      at_is = refl;
      long = refl;
      same = size;
    }

pub payload_written : (a : ℕ → ℕ) (roots : List (Option ℕ)) (front behind : List Object) (payload x : List ℕ) (link : Option ℕ) (f : ℕ) (page : List ℕ) → 8 * length roots ≤ 48
    → length x ≡ length payload → IsHeapPage a roots (front ++ row_object payload link ∷ behind) f page
    → IsHeapPage a roots (front ++ row_object x link ∷ behind) f (put_mid (page_end front + 16) (length payload) page x)
payload_written a roots front behind payload x link f page four e i =
    object_written a roots front behind (row_object payload link) (row_object x link) f page 16 (length payload) x four (payload_part a payload x link e) i

-- another word of a directory
regroup_word : (h f o d p : List ℕ) → h ++ (f ++ (o ++ d)) ++ p ≡ (h ++ f) ++ (o ++ (d ++ p))
regroup_word h f o d p = simp append_assoc

pub word_part : (a : ℕ → ℕ) (links : List (Option ℕ)) (k : ℕ) (to : Option ℕ) → k < length links
    → IsPartOf a (directory links) (directory (slice_set links k to)) (16 + 8 * k) 8 (link_bytes a to)
word_part a links k to h =
    let l : IsLinkAt a links k to = link_at a links k to h in
    let front : List ℕ = to_le_bytes w16 (8 * length links) ++ 2 ∷ replicate 5 0 ++ link_bytes a None in
    let pad : List ℕ = replicate (object_size (directory links) - 16 - 8 * length links) 0 in
    record {
      front = front ++ l.front;
      old = l.old;
      behind = l.behind ++ pad;
      before = ap (λ q. front ++ q ++ pad) l.before ∙ regroup_word front l.front l.old l.behind pad;
      after = ap (λ n. to_le_bytes w16 (8 * n) ++ 2 ∷ replicate 5 0 ++ link_bytes a None ++ flat_map (link_bytes a) (slice_set links k to) ++ replicate (16 + 16 * ((8 * n + 15) / 16) - 16 - 8 * n) 0) l.many
          ∙ ap (λ q. front ++ q ++ pad) l.after ∙ regroup_word front l.front (link_bytes a to) l.behind pad;
      at_is = length-append front l.front ∙ omega (arith, l.at);
      long = l.eight;
      same = ap (λ n. 16 + 16 * ((8 * n + 15) / 16)) l.many;
    }

pub word_written : (a : ℕ → ℕ) (roots : List (Option ℕ)) (front behind : List Object) (links : List (Option ℕ)) (k : ℕ) (to : Option ℕ) (f : ℕ) (page : List ℕ) → 8 * length roots ≤ 48
    → k < length links → IsHeapPage a roots (front ++ directory links ∷ behind) f page
    → IsHeapPage a roots (front ++ directory (slice_set links k to) ∷ behind) f (put_mid (page_end front + (16 + 8 * k)) 8 page (link_bytes a to))
word_written a roots front behind links k to f page four h i =
    object_written a roots front behind (directory links) (directory (slice_set links k to)) f page (16 + 8 * k) 8 (link_bytes a to) four (word_part a links k to h) i

-- One object more: its bytes over zeros, and the new end.
regroup_place : (h r b s z : List ℕ) → h ++ (r ++ (b ++ (s ++ z))) ≡ (h ++ (r ++ b)) ++ (s ++ z)
regroup_place h r b s z = simp append_assoc

pub object_placed : (a : ℕ → ℕ) (roots : List (Option ℕ)) (os : List Object) (o : Object) (f : ℕ) (page : List ℕ) → 8 * length roots ≤ 48 → page_end os + object_size o ≤ 4096
    → IsHeapPage a roots os f page
    → IsHeapPage a roots (os ++ o ∷ []) f (put_mid 2 2 (put_mid (page_end os) (object_size o) page (object_bytes a o)) (to_le_bytes w16 (page_end os + object_size o)))
object_placed a roots os o f page four room i =
    let h : List ℕ = head os f in
    let r : List ℕ = roots_bytes a roots in
    let b : List ℕ = flat_map (object_bytes a) os in
    let s : List ℕ = replicate (object_size o) 0 in
    let z : List ℕ = replicate (4096 - (page_end os + object_size o)) 0 in
    let free : replicate (4096 - page_end os) 0 ≡ s ++ z =
    ap (λ n. replicate n 0) (let e : 4096 - page_end os ≡ object_size o + (4096 - (page_end os + object_size o)) = omega arith in e)
    ∙ sym (replicate-append-replicate (object_size o) (4096 - (page_end os + object_size o)) 0) in
    let old : page ≡ (h ++ (r ++ b)) ++ (s ++ z) = as_spelled a roots os f page i ∙ ap (λ q. h ++ (r ++ (b ++ q))) free ∙ regroup_place h r b s z in
    let place : length (h ++ (r ++ b)) ≡ page_end os = length-append h (r ++ b) ∙ omega (arith, length-append r b, length-roots a roots four, length-objects a os) in
    let put : put_mid (page_end os) (object_size o) page (object_bytes a o) ≡ (h ++ (r ++ b)) ++ (object_bytes a o ++ z) =
    replaced page (h ++ (r ++ b)) s z (object_bytes a o) (page_end os) (object_size o) old place (length-replicate (object_size o) 0) in
    let new_end : page_end (os ++ o ∷ []) ≡ page_end os + object_size o = omega (arith, sum_by-append object_size os (o ∷ []), sum_by-cons object_size o []) in
    let objects : flat_map (object_bytes a) (os ++ o ∷ []) ≡ b ++ object_bytes a o =
    flat_map-append (object_bytes a) os (o ∷ []) ∙ ap (λ q. b ++ q) (append-nil (object_bytes a o)) in
    let ended : put_mid 2 2 (put_mid (page_end os) (object_size o) page (object_bytes a o)) (to_le_bytes w16 (page_end os + object_size o))
    ≡ ((72 ∷ 0 ∷ []) ++ (to_le_bytes w16 (page_end os + object_size o) ++ to_le_bytes w32 f)) ++ ((r ++ b) ++ (object_bytes a o ++ z)) =
    ap (λ q. put_mid 2 2 q (to_le_bytes w16 (page_end os + object_size o))) (put ∙ append_assoc h (r ++ b) (object_bytes a o ++ z)) in
    is_spelled a roots (os ++ o ∷ []) f (put_mid 2 2 (put_mid (page_end os) (object_size o) page (object_bytes a o)) (to_le_bytes w16 (page_end os + object_size o))) four (omega arith)
    (ended
    ∙ ap (λ q. ((72 ∷ 0 ∷ []) ++ (to_le_bytes w16 (page_end os + object_size o) ++ to_le_bytes w32 f)) ++ q)
    (append_assoc r b (object_bytes a o ++ z) ∙ ap (λ q. r ++ q) (sym (append_assoc b (object_bytes a o) z)) ∙ ap (λ q. r ++ (q ++ z)) (sym objects))
    ∙ ap (λ n. ((72 ∷ 0 ∷ []) ++ (to_le_bytes w16 n ++ to_le_bytes w32 f)) ++ (r ++ (flat_map (object_bytes a) (os ++ o ∷ []) ++ replicate (4096 - n) 0))) (sym new_end))

-- A new page: zeros, but for its kind, its end and its frame. It has no object, and its roots, if it is
-- the first of its heap, lead to nothing.
zeros_cut : ◌≡◌ {A = List ℕ} (replicate {A = ℕ} 4096 0) (replicate {A = ℕ} 8 0 ++ replicate {A = ℕ} 4088 0)
zeros_cut = sym (replicate-append-replicate 8 4088 0)

empty_roots : (a : ℕ → ℕ) (roots : List (Option ℕ)) → (roots ≡ []) ⊎ (roots ≡ None ∷ None ∷ None ∷ None ∷ []) → roots_bytes a roots ≡ replicate 56 0
empty_roots a roots h = elim h [
  | inl e ↦ ap (λ q. roots_bytes a q) e
  | inr e ↦ ap (λ q. roots_bytes a q) e
]

few_roots : (roots : List (Option ℕ)) → (roots ≡ []) ⊎ (roots ≡ None ∷ None ∷ None ∷ None ∷ []) → 8 * length roots ≤ 48
few_roots roots h = elim h [ inl e ↦ omega (arith, ap length e) | inr e ↦ omega (arith, ap length e) ]

pub page_made : (a : ℕ → ℕ) (roots : List (Option ℕ)) (f : ℕ) (page : List ℕ) → (roots ≡ []) ⊎ (roots ≡ None ∷ None ∷ None ∷ None ∷ []) → page ≡ replicate 4096 0
    → IsHeapPage a roots [] f (put_mid 4 4 (put_mid 2 2 (slice_set page 0 72) (to_le_bytes w16 64)) (to_le_bytes w32 f))
page_made a roots f page h e =
    is_spelled a roots [] f (put_mid 4 4 (put_mid 2 2 (slice_set page 0 72) (to_le_bytes w16 64)) (to_le_bytes w32 f)) (few_roots roots h) (omega arith)
    (ap (λ q. put_mid 4 4 (put_mid 2 2 (slice_set q 0 72) (to_le_bytes w16 64)) (to_le_bytes w32 f)) (e ∙ zeros_cut)
    ∙ ap (λ q. head [] f ++ q) (sym (replicate-append-replicate 56 4032 0) ∙ ap (λ q. q ++ replicate 4032 0) (sym (empty_roots a roots h))))
