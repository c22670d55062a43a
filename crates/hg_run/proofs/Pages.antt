-- What is read of a page of a run, and what a write leaves there.
use Rattle.std.specs.Prelude.{◌≡◌, ℕ, ◌+◌, ◌-◌, ◌^◌, ◌<◌, ◌≤◌, true, false, nat_le, List, [], ◌∷◌, ◌++◌, length, take, drop, replicate, slice_index, slice_set}
use Rattle.std.specs.Int.{w16, from_le_bytes, to_le_bytes}
use Rattle.std.specs.List.{AllByRecursion}
use Rattle.std.proofs.Common.{sym, ◌∙◌, ap, refl, arith, append_assoc, length-append, get_or-set_same}
use Rattle.std.proofs.lemmas.List.{take-take, take_at, drop_at, drop-take, drop-drop, drop_more, drop-replicate, take-replicate, length-replicate, length-set}
use Rattle.std.proofs.lemmas.Nat.{from_le_bytes-to_le_bytes_2}
use Rattle.std.proofs.lemmas.Slice.{drop-put_mid}
use Rattle.std.proofs.lemmas.Bool.Decides.{nat_tests}
use Rattle.hg_base.specs.Parts.{below, above, within, parts, length-written, set-written}
use borrow.Rule.Slice.PartMut.{put_mid}
use Rattle.hg_run.specs.Format.{number, spelled, spelling, IsClean, IsProper, IsRunPage, IsPageAt}
use Rattle.hg_run.specs.Layout.{used, fits}

-- a part of bytes that is u and then v begins with u
front : (b u v : List ℕ) (at n : ℕ) → take n (drop at b) ≡ u ++ v → length u + length v ≡ n → take (length u) (drop at b) ≡ u
front b u v at n e l =
    sym (take-take (length u) n (drop at b) (omega arith)) ∙ ap (take (length u)) e ∙ take_at u v (length u) refl

-- and ends with v
back : (b u v : List ℕ) (at n : ℕ) → take n (drop at b) ≡ u ++ v → length u + length v ≡ n → take (length v) (drop (at + length u) b) ≡ v
back b u v at n e l =
    ap (take (length v)) (sym (drop-drop (length u) at b))
    ∙ sym (drop-take (length u) (length v) (drop at b))
    ∙ ap (λ k. drop (length u) (take k (drop at b))) l
    ∙ ap (drop (length u)) e
    ∙ drop_at u v (length u) refl

pub spelling-none : spelling [] ≡ []
unfolding spelling
spelling-none = refl

pub spelling-more : (r : List ℕ) (rs : List (List ℕ)) → spelling (r ∷ rs) ≡ spelled r ++ spelling rs
unfolding spelling
spelling-more r rs = refl

pub spelling-append : (a b : List (List ℕ)) → spelling (a ++ b) ≡ spelling a ++ spelling b
spelling-append [] b = ap (λ l. l ++ spelling b) (sym spelling-none)
spelling-append (r ∷ a) b =
    spelling-more r (a ++ b)
    ∙ ap (λ l. spelled r ++ l) (spelling-append a b)
    ∙ sym (append_assoc (spelled r) (spelling a) (spelling b))
    ∙ ap (λ l. l ++ spelling b) (sym (spelling-more r a))

append-none : (x : List ℕ) → x ++ [] ≡ x
append-none [] = refl
append-none (y ∷ x) = ap (λ r. y ∷ r) (append-none x)

pub spelling-one : (a : List (List ℕ)) (r : List ℕ) → spelling (a ++ r ∷ []) ≡ spelling a ++ (to_le_bytes w16 (length r) ++ r)
unfolding spelled
spelling-one a r =
    spelling-append a (r ∷ []) ∙ ap (λ l. spelling a ++ l) (spelling-more r [] ∙ ap (λ l. spelled r ++ l) spelling-none ∙ append-none (spelled r))

spelled_is : (r : List ℕ) → spelled r ≡ to_le_bytes w16 (length r) ++ r
unfolding spelled
spelled_is r = refl

pub length-spelled : (r : List ℕ) → length (spelled r) ≡ 2 + length r
unfolding spelled
length-spelled r =
    let a = length-append (to_le_bytes w16 (length r)) r in
    let p : length (to_le_bytes w16 (length r)) ≡ 2 = refl in
    omega arith

pub length-spelling : (rs : List (List ℕ)) → length (spelling rs) ≡ used rs
length-spelling [] = ap length spelling-none
length-spelling (r ∷ rs) =
    let a = ap length (spelling-more r rs) ∙ length-append (spelled r) (spelling rs) in
    let b = length-spelled r in
    let c = length-spelling rs in
    omega arith

pub length-spelling-one : (a : List (List ℕ)) (r : List ℕ) → length (spelling (a ++ r ∷ [])) ≡ length (spelling a) + (2 + length r)
length-spelling-one a r =
    let e = ap length (spelling-one a r) ∙ length-append (spelling a) (to_le_bytes w16 (length r) ++ r) in
    let f = length-append (to_le_bytes w16 (length r)) r in
    let p : length (to_le_bytes w16 (length r)) ≡ 2 = refl in
    omega arith

-- ---- what is written

number-here : (a : List ℕ) (at v : ℕ) → at + 2 ≤ length a → v < 2 ^ 16 → number (put_mid at 2 a (to_le_bytes w16 v)) at ≡ v
unfolding number
number-here a at v l s =
    ap (from_le_bytes w16) (within a (to_le_bytes w16 v) at 2 (omega arith) refl) ∙ from_le_bytes-to_le_bytes_2 v s

byte_of : (a : List ℕ) (k : ℕ) → k < length a → take 1 (drop k a) ≡ slice_index a k ∷ []
byte_of a k l = ap (take 1) (drop_more a k 0 l) ∙ one (slice_index a k) (drop (k + 1) a)
  where
    one : (x : ℕ) (r : List ℕ) → take 1 (x ∷ r) ≡ x ∷ []
    one x r = refl

byte-same : (a b : List ℕ) (k : ℕ) → k < length a → length b ≡ length a → take 1 (drop k b) ≡ take 1 (drop k a) → slice_index b k ≡ slice_index a k
byte-same a b k l e h =
    let f : slice_index b k ∷ [] ≡ slice_index a k ∷ [] = sym (byte_of b k (omega arith)) ∙ h ∙ byte_of a k l in cc

proper_more : (rs : List (List ℕ)) (r : List ℕ) → AllByRecursion IsProper rs → IsProper r → AllByRecursion IsProper (rs ++ r ∷ [])
proper_more [] r h p = (p, tt)
proper_more (x ∷ rs) r h p = (h.0, proper_more rs r h.1 p)

-- a record behind the others: its length, its bytes, and the new end
pub put_behind : (a b c d r : List ℕ) (rs : List (List ℕ)) (end after n : ℕ) → IsRunPage a rs → IsProper r → end ≡ number a 2 → after ≡ end + 2 + length r
    → after ≤ 4096 → n ≡ length r
    → b ≡ put_mid end 2 a (to_le_bytes w16 (length r)) → c ≡ put_mid (end + 2) n b r → d ≡ put_mid 2 2 c (to_le_bytes w16 after) → IsRunPage d (rs ++ r ∷ [])
put_behind a b c d r rs end after n h p ee ea room en be ce de =
    let w : List ℕ = to_le_bytes w16 (length r) in
    let v : List ℕ = to_le_bytes w16 after in
    let wl : length w ≡ 2 = refl in
    let free = h.free in
    let la = h.whole in
    let lb : length b ≡ 4096 = ap length be ∙ length-written a w end 2 (omega arith) refl ∙ la in
    let lc : length c ≡ 4096 = ap length ce ∙ length-written b r (end + 2) n (omega arith) (sym en) ∙ lb in
    let ld : length d ≡ 4096 = ap length de ∙ length-written c v 2 2 (omega arith) refl ∙ lc in
    let s : ℕ = length (spelling rs) in
    let es : 16 + s ≡ end = omega arith in
    let kb : take 1 (drop 0 b) ≡ take 1 (drop 0 a) = ap (λ l. take 1 (drop 0 l)) be ∙ below a w end 2 0 1 (omega arith) (omega arith) in
    let kc : take 1 (drop 0 c) ≡ take 1 (drop 0 b) = ap (λ l. take 1 (drop 0 l)) ce ∙ below b r (end + 2) n 0 1 (omega arith) (omega arith) in
    let kd : take 1 (drop 0 d) ≡ take 1 (drop 0 c) = ap (λ l. take 1 (drop 0 l)) de ∙ below c v 2 2 0 1 (omega arith) (omega arith) in
    let head : take s (drop 16 c) ≡ spelling rs =
    ap (λ l. take s (drop 16 l)) ce ∙ below b r (end + 2) n 16 s (omega arith) (omega arith)
    ∙ ap (λ l. take s (drop 16 l)) be ∙ below a w end 2 16 s (omega arith) (omega arith) ∙ h.text in
    let size : take 2 (drop end c) ≡ w =
    ap (λ l. take 2 (drop end l)) ce ∙ below b r (end + 2) n end 2 (omega arith) (omega arith)
    ∙ ap (λ l. take 2 (drop end l)) be ∙ within a w end 2 (omega arith) refl in
    let text : take (length r) (drop (end + 2) c) ≡ r =
    ap (λ k. take k (drop (end + 2) c)) (sym en) ∙ ap (λ l. take n (drop (end + 2) l)) ce ∙ within b r (end + 2) n (omega arith) (sym en) in
    let tail : take (2 + length r) (drop end c) ≡ w ++ r =
    parts c end 2 (length r) ∙ ap (λ l. l ++ take (length r) (drop (end + 2) c)) size ∙ ap (λ l. w ++ l) text in
    let long : length (spelling (rs ++ r ∷ [])) ≡ s + (2 + length r) = length-spelling-one rs r in
    let all : take (s + (2 + length r)) (drop 16 c) ≡ spelling rs ++ (w ++ r) =
    parts c 16 s (2 + length r) ∙ ap (λ l. l ++ take (2 + length r) (drop (16 + s) c)) head ∙ ap (λ k. spelling rs ++ take (2 + length r) (drop k c)) es
    ∙ ap (λ l. spelling rs ++ l) tail in
    record {
      whole = ld;
      kind = byte-same c d 0 (omega arith) (ld ∙ sym lc) kd ∙ byte-same b c 0 (omega arith) (lc ∙ sym lb) kc ∙ byte-same a b 0 (omega arith) (lb ∙ sym la) kb ∙ h.kind;
      free = ap (λ l. number l 2) de ∙ number-here c 2 after (omega arith) (omega arith) ∙ (let z : after ≡ 16 + length (spelling (rs ++ r ∷ [])) = omega arith in z);
      fits = omega arith;
      text = ap (λ k. take k (drop 16 d)) long
          ∙ ap (λ l. take (s + (2 + length r)) (drop 16 l)) de ∙ above c v 2 2 16 (s + (2 + length r)) (omega arith) (omega arith) refl
          ∙ all ∙ sym (spelling-one rs r);
      proper = proper_more rs r h.proper p;
    }

-- the bytes without a meaning stay zeros
pub put_clean : (a b c d r : List ℕ) (end after n : ℕ) → length a ≡ 4096 → IsClean a → end ≡ number a 2 → 16 ≤ end → after ≡ end + 2 + length r → after ≤ 4096 → n ≡ length r
    → b ≡ put_mid end 2 a (to_le_bytes w16 (length r)) → c ≡ put_mid (end + 2) n b r → d ≡ put_mid 2 2 c (to_le_bytes w16 after) → IsClean d
put_clean a b c d r end after n la h ee low ea room en be ce de =
    let w : List ℕ = to_le_bytes w16 (length r) in
    let v : List ℕ = to_le_bytes w16 after in
    let lb : length b ≡ 4096 = ap length be ∙ length-written a w end 2 (omega arith) refl ∙ la in
    let lc : length c ≡ 4096 = ap length ce ∙ length-written b r (end + 2) n (omega arith) (sym en) ∙ lb in
    let now : number d 2 ≡ after = ap (λ l. number l 2) de ∙ number-here c 2 after (omega arith) (omega arith) in
    let m : ℕ = 2 + length r in
    record {
      second = ap (λ l. take 1 (drop 1 l)) de ∙ below c v 2 2 1 1 (omega arith) (omega arith)
          ∙ ap (λ l. take 1 (drop 1 l)) ce ∙ below b r (end + 2) n 1 1 (omega arith) (omega arith)
          ∙ ap (λ l. take 1 (drop 1 l)) be ∙ below a w end 2 1 1 (omega arith) (omega arith) ∙ h.second;
      head = ap (λ l. take 12 (drop 4 l)) de ∙ above c v 2 2 4 12 (omega arith) (omega arith) refl
          ∙ ap (λ l. take 12 (drop 4 l)) ce ∙ below b r (end + 2) n 4 12 (omega arith) (omega arith)
          ∙ ap (λ l. take 12 (drop 4 l)) be ∙ below a w end 2 4 12 (omega arith) (omega arith) ∙ h.head;
      behind = ap (λ k. drop k d) now
          ∙ ap (drop after) de ∙ drop-put_mid 2 2 c v after (omega arith) (omega arith) refl
          ∙ ap (drop after) ce ∙ drop-put_mid (end + 2) n b r after (omega arith) (omega arith) (sym en)
          ∙ ap (drop after) be ∙ drop-put_mid end 2 a w after (omega arith) (omega arith) refl
          ∙ ap (λ k. drop k a) (let z : after ≡ end + m = omega arith in z) ∙ sym (drop-drop m end a)
          ∙ ap (λ k. drop m (drop k a)) ee ∙ ap (drop m) h.behind ∙ ap (λ k. drop m (replicate (4096 - k) 0)) (sym ee)
          ∙ drop-replicate m (4096 - end) 0
          ∙ ap (λ k. replicate k 0) (let z : 4096 - end - m ≡ 4096 - after = omega arith in z) ∙ ap (λ k. replicate (4096 - k) 0) (sym now);
    }

yes_le : (m n : ℕ) → m ≤ n → nat_le m n ≡ true
yes_le m n h = grind (arith, nat_tests)

no_le : (m n : ℕ) → n < m → nat_le m n ≡ false
no_le m n h = grind (arith, nat_tests)

pub fits_yes : (page : List ℕ) (rs : List (List ℕ)) (r : List ℕ) (end : ℕ) → IsRunPage page rs → end ≡ number page 2 → end + 2 + length r ≤ 4096 → fits rs r ≡ true
fits_yes page rs r end h e l = yes_le (used rs + (2 + length r)) 4080 (let u = length-spelling rs in let f = h.free in omega arith)

pub fits_no : (page : List ℕ) (rs : List (List ℕ)) (r : List ℕ) (end : ℕ) → IsRunPage page rs → end ≡ number page 2 → 4096 < end + 2 + length r → fits rs r ≡ false
fits_no page rs r end h e l = no_le (used rs + (2 + length r)) 4080 (let u = length-spelling rs in let f = h.free in omega arith)

-- a page with no record
pub started : (a b : List ℕ) → length a ≡ 4096 → b ≡ put_mid 2 2 (slice_set a 0 82) (to_le_bytes w16 16) → IsRunPage b []
started a b l e =
    let c : List ℕ = slice_set a 0 82 in
    let lc : length c ≡ 4096 = length-set {A = ℕ} a 0 82 ∙ l in
    let v : List ℕ = to_le_bytes w16 16 in
    let lb : length b ≡ 4096 = ap length e ∙ length-written c v 2 2 (omega arith) refl ∙ lc in
    let none = ap length spelling-none in
    record {
      whole = lb;
      kind = byte-same c b 0 (omega arith) (lb ∙ sym lc) (ap (λ m. take 1 (drop 0 m)) e ∙ below c v 2 2 0 1 (omega arith) (omega arith)) ∙ get_or-set_same a 0 82 0 (omega arith);
      free = ap (λ m. number m 2) e ∙ number-here c 2 16 (omega arith) (omega arith) ∙ (let z : 16 ≡ 16 + length (spelling []) = omega arith in z);
      fits = omega arith;
      text = ap (λ n. take n (drop 16 b)) none ∙ sym spelling-none;
      proper = tt;
    }

-- its other bytes are zeros
pub started_clean : (a b : List ℕ) → a ≡ replicate 4096 0 → b ≡ put_mid 2 2 (slice_set a 0 82) (to_le_bytes w16 16) → IsClean b
started_clean a b z e =
    let c : List ℕ = slice_set a 0 82 in
    let la : length a ≡ 4096 = ap length z ∙ length-replicate {A = ℕ} 4096 0 in
    let lc : length c ≡ 4096 = length-set {A = ℕ} a 0 82 ∙ la in
    let v : List ℕ = to_le_bytes w16 16 in
    let now : number b 2 ≡ 16 = ap (λ l. number l 2) e ∙ number-here c 2 16 (omega arith) (omega arith) in
    let s : c ≡ put_mid 0 1 a (82 ∷ []) = set-written a 0 82 (omega arith) in
    let zeros : (m n : ℕ) → m + n ≤ 4096 → take n (drop m a) ≡ replicate n 0 =
    λ m n l. ap (λ x. take n (drop m x)) z ∙ ap (take n) (drop-replicate m 4096 0) ∙ take-replicate n (4096 - m) 0 (omega arith) in
    record {
      second = ap (λ x. take 1 (drop 1 x)) e ∙ below c v 2 2 1 1 (omega arith) (omega arith)
          ∙ ap (λ x. take 1 (drop 1 x)) s ∙ above a (82 ∷ []) 0 1 1 1 (omega arith) (omega arith) refl ∙ zeros 1 1 (omega arith);
      head = ap (λ x. take 12 (drop 4 x)) e ∙ above c v 2 2 4 12 (omega arith) (omega arith) refl
          ∙ ap (λ x. take 12 (drop 4 x)) s ∙ above a (82 ∷ []) 0 1 4 12 (omega arith) (omega arith) refl ∙ zeros 4 12 (omega arith);
      behind = ap (λ k. drop k b) now ∙ ap (drop 16) e ∙ drop-put_mid 2 2 c v 16 (omega arith) (omega arith) refl
          ∙ ap (drop 16) s ∙ drop-put_mid 0 1 a (82 ∷ []) 16 (omega arith) (omega arith) refl
          ∙ ap (drop 16) z ∙ drop-replicate 16 4096 0 ∙ ap (λ k. replicate (4096 - k) 0) (sym now);
    }

-- ---- what is read

end_is : (page : List ℕ) (at : ℕ) (done todo : List (List ℕ)) → IsPageAt page at done todo → number page 2 ≡ at + length (spelling todo)
end_is page at done todo h =
    let l = ap length (spelling-append done todo) ∙ length-append (spelling done) (spelling todo) in
    let f = h.page_is.free in
    let p = h.place in
    omega arith

pub at_end : (page : List ℕ) (at : ℕ) (done todo : List (List ℕ)) → IsPageAt page at done todo → at ≡ number page 2 → todo ≡ []
at_end page at done [] h e = refl
at_end page at done (r ∷ todo) h e =
    absurd (let n = end_is page at done (r ∷ todo) h in let l = length-spelling (r ∷ todo) in omega arith)

pub before_end : (page : List ℕ) (at : ℕ) (done todo : List (List ℕ)) → IsPageAt page at done todo → number page 2 < at → ⊥
before_end page at done todo h e = let n = end_is page at done todo h in omega arith

-- what stands at the place of a record
pub record IsThere (page : List ℕ) (at : ℕ) (todo : List (List ℕ)) : Type 0 where
  pub r : List ℕ
  pub rest : List (List ℕ)
  pub next : todo ≡ r ∷ rest
  pub proper : IsProper r
  pub size : number page at ≡ length r
  pub text : take (length r) (drop (at + 2) page) ≡ r
  pub inside : number page 2 ≡ at + (2 + length r) + length (spelling rest)

proper_behind : (a b : List (List ℕ)) → AllByRecursion IsProper (a ++ b) → AllByRecursion IsProper b
proper_behind [] b h = h
proper_behind (x ∷ a) b h = proper_behind a b h.1

rest_of : (page : List ℕ) (at : ℕ) (done todo : List (List ℕ)) → IsPageAt page at done todo → take (length (spelling todo)) (drop at page) ≡ spelling todo
rest_of page at done todo h =
    let l : length (spelling done) + length (spelling todo) ≡ length (spelling (done ++ todo)) =
    sym (ap length (spelling-append done todo) ∙ length-append (spelling done) (spelling todo)) in
    rw h.place (back page (spelling done) (spelling todo) 16 (length (spelling (done ++ todo))) (h.page_is.text ∙ spelling-append done todo) l)

pub there : (page : List ℕ) (at : ℕ) (done todo : List (List ℕ)) → IsPageAt page at done todo → at < number page 2 → IsThere page at todo
unfolding number
there page at done [] h l = absurd (let n = end_is page at done [] h in let z = ap length spelling-none in omega arith)
there page at done (r ∷ rest) h l =
    let p : IsProper r = (proper_behind done (r ∷ rest) h.page_is.proper).0 in
    let w : List ℕ = to_le_bytes w16 (length r) in
    let m : spelling (r ∷ rest) ≡ spelled r ++ spelling rest = spelling-more r rest in
    let lm = ap length m ∙ length-append (spelled r) (spelling rest) in
    let ls = length-spelled r in
    let text : take (length (spelled r)) (drop at page) ≡ spelled r =
    front page (spelled r) (spelling rest) at (length (spelling (r ∷ rest))) (rest_of page at done (r ∷ rest) h ∙ m) (sym lm) in
    let two : take (length (spelled r)) (drop at page) ≡ w ++ r = text ∙ spelled_is r in
    let lw : length w + length r ≡ length (spelled r) = omega arith in
    record {
      r = r;
      rest = rest;
      next = refl;
      proper = p;
      size = ap (from_le_bytes w16) (front page w r at (length (spelled r)) two lw) ∙ from_le_bytes-to_le_bytes_2 (length r) (let k = p.few in omega arith);
      text = back page w r at (length (spelled r)) two lw;
      inside = let n = end_is page at done (r ∷ rest) h in omega arith;
    }

pub no_rest : (rest : List (List ℕ)) → length (spelling rest) ≡ 0 → rest ≡ []
no_rest [] e = refl
no_rest (r ∷ rest) e = absurd (let l = length-spelling (r ∷ rest) in omega arith)
