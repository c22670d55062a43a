-- What the parts of a page that is cut hold.
use Rattle.std.specs.Prelude.{◌≡◌, ℕ, ◌+◌, ◌-◌, ◌^◌, ◌<◌, ◌≤◌, nat_lt, Bool, true, false, List, [], ◌∷◌, ◌++◌, length, take, drop, replicate, ◌⊎◌}
use Rattle.std.specs.Int.{w16, w32, from_le_bytes, to_le_bytes}
use Rattle.std.proofs.Common.{sym, ◌∙◌, ap, subst, refl, arith, append_assoc, length-append, inl, inr}
use Rattle.std.proofs.lemmas.Bool.Decides.{nat_tests}
use Rattle.std.proofs.lemmas.Nat.{from_le_bytes-to_le_bytes_4}
use Rattle.hg_base.specs.Parts.{below, above, within, length-written}
use borrow.Rule.Slice.PartMut.{put_mid}
use Rattle.hg_btree.specs.declared.split.Halves.{Halves}
use Rattle.hg_btree.specs.Entries.{Entry, AllBy, Before, Ordered, NotBehind, IsSame}
use Rattle.hg_btree.specs.Nodes.{number, page_number, place_at, IsSpot, width, link_at, spelled, spelling, IsProper, IsNode, Reads, crowded_page}
use Rattle.hg_btree.specs.Writing.{KeepsHead, SetsHead}
use Rattle.hg_btree.specs.Cutting.{IsCut, Counted}
use Rattle.hg_btree.specs.Halving.{HalvesInner, HalvesLeaf, IsBoundIn}
use Rattle.hg_btree.proofs.Orders.{same_not_behind, same_back, before_then, then_before, not_behind_trans, before_not_behind}
use Rattle.hg_btree.proofs.Walking.{all_weaker, ordered_behind, none_behind}
use Rattle.hg_btree.proofs.Reading.{front, reads, spelling-none, spelling-more, spelling-append, length-spelled, rest_of, end_is, all_front, all_behind}
use Rattle.hg_btree.proofs.Writing.{keeps_then, keeps_head, byte-same, zero_end, zero-written, unused_apart, unused_few, rebuilt}
use Rattle.std.proofs.lemmas.Bool.{cases_lt}
use Rattle.std.proofs.lemmas.List.{length-replicate}

-- ---- the cut

pub width_few : (inner : Bool) → width inner ≤ 4
width_few true = omega arith
width_few false = omega arith

pub crowded_more : (page : List ℕ) → crowded_page page ≡ true → 4096 < number page 4 + 526
crowded_more page e = more (number page 4 + 526) e
  where
    more : (n : ℕ) → nat_lt 4096 n ≡ true → 4096 < n
    more n e = grind (arith, nat_tests)

pub crowded_not : (page : List ℕ) → number page 4 + 526 ≤ 4096 → crowded_page page ≡ false
crowded_not page e = not (number page 4 + 526) e
  where
    not : (n : ℕ) → n ≤ 4096 → nat_lt 4096 n ≡ false
    not n e = grind (arith, nat_tests)

pub crowded_less : (page : List ℕ) → crowded_page page ≡ false → number page 4 + 526 ≤ 4096
crowded_less page e = less (number page 4 + 526) e
  where
    less : (n : ℕ) → nat_lt 4096 n ≡ false → n ≤ 4096
    less n e = grind (arith, nat_tests)

pub counted_none : (inner : Bool) (es : List Entry) → Counted inner es 16 0
counted_none inner es = record { done = []; todo = es; all = refl; place = let e = ap length (spelling-none inner) in omega arith; count_is = refl }

-- the entry where the way has come to
pub next_of : (inner : Bool) (page : List ℕ) (level link : ℕ) (done todo : List Entry) (at : ℕ) → IsNode inner page level link (done ++ todo)
    → at ≡ 16 + length (spelling inner done) → at < number page 4 → (x : Entry) × (rest : List Entry) × (todo ≡ x ∷ rest) × Reads inner page at x
next_of inner page level link done [] at h e l =
    absurd (let f = end_is inner page level link done [] at h e in let n = ap length (spelling-none inner) in omega arith)
next_of inner page level link done (x ∷ rest) at h e l = (x, rest, refl, reads inner page level link done x rest at h e)

pub counted_more : (inner : Bool) (page : List ℕ) (level link : ℕ) (es : List Entry) (at after count : ℕ) → IsNode inner page level link es → Counted inner es at count
    → at < number page 4 → after ≡ at + 10 + number page at + width inner → Counted inner es after (count + 1)
counted_more inner page level link es at after count h c l a =
    let o = next_of inner page level link c.done c.todo at (subst (IsNode inner page level link) c.all h) c.place l in
    record {
      done = c.done ++ o.0 ∷ [];
      todo = o.1;
      all = c.all ∙ ap (λ k. c.done ++ k) o.2 ∙ sym (append_assoc c.done (o.0 ∷ []) o.1);
      place = let q = c.place in
          let s = ap length (spelling-append inner c.done (o.0 ∷ [])) ∙ length-append (spelling inner c.done) (spelling inner (o.0 ∷ [])) in
          let m = ap length (spelling-more inner o.0 []) ∙ length-append (spelled inner o.0) (spelling inner []) in
          let z = ap length (spelling-none inner) in
          let n = length-spelled inner o.0 in
          let r = o.3.size in
          omega arith;
      count_is = let n = length-append c.done (o.0 ∷ []) in let k = c.count_is in omega arith;
    }

pub cut_here : (inner : Bool) (page : List ℕ) (level link : ℕ) (es : List Entry) (at after count : ℕ) → IsNode inner page level link es → Counted inner es at count
    → at < number page 4 → after ≡ at + 10 + number page at + width inner → IsCut inner es at after count
cut_here inner page level link es at after count h c l a =
    let o = next_of inner page level link c.done c.todo at (subst (IsNode inner page level link) c.all h) c.place l in
    record {
      lower = c.done;
      middle = o.0;
      upper = o.1;
      all = c.all ∙ ap (λ k. c.done ++ k) o.2;
      at_is = c.place;
      after_is = let n = length-spelled inner o.0 in let r = o.3.size in omega arith;
      count_is = c.count_is;
    }

-- ---- the halves

some_in : (inner : Bool) (es : List Entry) → 0 < length (spelling inner es) → 0 < length es
some_in inner [] l = absurd (let z = ap length (spelling-none inner) in omega arith)
some_in inner (e ∷ es) l = omega arith

pub halves_inner : (page : List ℕ) (level link : ℕ) (es : List Entry) (h : Halves) (bound : List ℕ) → IsNode true page level link es → IsCut true es h.at h.from h.count
    → 16 < h.at → h.from < number page 4 → h.from ≡ h.at + 10 + number page h.at + 4 → h.more ≡ number page 2 - h.count - 1
    → bound ≡ take (h.from - 4 - (h.at + 10)) (drop (h.at + 10) page) → h.place ≡ place_at page (h.at + 2) → h.link ≡ page_number page (h.from - 4)
    → HalvesInner es h bound
halves_inner page level link es h bound n k lo hi f m be pe le =
    let n2 : IsNode true page level link (k.lower ++ k.middle ∷ k.upper) = subst (IsNode true page level link) k.all n in
    let r = reads true page level link k.lower k.middle k.upper h.at n2 k.at_is in
    let s = r.size in
    let up = end_is true page level link (k.lower ++ k.middle ∷ []) k.upper h.from (subst (IsNode true page level link) (sym (append_assoc k.lower (k.middle ∷ []) k.upper)) n2)
    (let a = k.at_is in let b = k.after_is in
    let c = ap length (spelling-append true k.lower (k.middle ∷ [])) ∙ length-append (spelling true k.lower) (spelling true (k.middle ∷ [])) in
    let d = ap length (spelling-more true k.middle []) ∙ length-append (spelled true k.middle) (spelling true []) in
    let z = ap length (spelling-none true) in omega arith) in
    let ln : h.from - 4 - (h.at + 10) ≡ length k.middle.key = omega arith in
    let at_child : h.from - 4 ≡ h.at + 10 + length k.middle.key = omega arith in
    record {
      lower = k.lower;
      middle = k.middle;
      upper = k.upper;
      all = k.all;
      some_lower = some_in true k.lower (let a = k.at_is in omega arith);
      some_upper = some_in true k.upper (omega arith);
      at_is = k.at_is;
      from_is = k.after_is;
      count_is = k.count_is;
      more_is = let c = n2.count in let d = length-append k.lower (k.middle ∷ k.upper) in let e = k.count_is in omega arith;
      key_is = be ∙ ap (λ q. take q (drop (h.at + 10) page)) ln ∙ r.key;
      place_is = pe ∙ r.place;
      link_is = le ∙ ap (page_number page) at_child ∙ r.child refl;
    }

middle_bound : (lower upper : List Entry) (m t : Entry) (key : List ℕ) (place : ℕ) → key ≡ m.key → place ≡ m.place
    → IsBoundIn (lower ++ m ∷ upper) lower (m ∷ upper) t (record { key = key; place = place; child = 0 })
middle_bound lower upper m t key place ke pe =
    let b : Entry = record { key = key; place = place; child = 0 } in
    let same : IsSame b m = record { key = ke; place = pe } in
    let bm : NotBehind b m = same_not_behind b m same in
    let mb : NotBehind m b = same_not_behind m b (same_back b m same) in
    record {
      below = λ o. all_weaker (λ e. Before e m) (λ e. Before e b) lower (λ e l. before_then e m b l mb) (front_before lower upper m o);
      above = λ o. (bm, all_weaker (Before m) (NotBehind b) upper (λ e l. not_behind_trans b m e bm (before_not_behind m e l)) ((ordered_behind Before lower (m ∷ upper) o).0));
      from = λ x a f. not_behind_trans x m b ((all_behind (NotBehind x) lower (m ∷ upper) a).0) mb;
      to = λ y a f. then_before b m y bm ((all_behind (λ e. Before e y) lower (m ∷ upper) a).0);
    }
  where
    front_before : (lower upper : List Entry) (m : Entry) → Ordered Before (lower ++ m ∷ upper) → AllBy (λ e. Before e m) lower
    front_before [] upper m o = tt
    front_before (x ∷ lower) upper m o = ((all_behind (Before x) lower (m ∷ upper) o.0).0, front_before lower upper m o.1)

pub halves_middle : (page : List ℕ) (link : ℕ) (es : List Entry) (t : Entry) (h : Halves) (after : ℕ) (bound : List ℕ) → IsNode false page 0 link es → IsCut false es h.at after h.count
    → after ≡ h.at + 10 + number page h.at + 0 → h.from ≡ h.at → h.more ≡ number page 2 - h.count
    → bound ≡ take (after - (h.at + 10)) (drop (h.at + 10) page) → h.place ≡ place_at page (h.at + 2) → h.link ≡ page_number page 8
    → HalvesLeaf link es t h bound
halves_middle page link es t h after bound n k f fe m be pe le =
    let n2 : IsNode false page 0 link (k.lower ++ k.middle ∷ k.upper) = subst (IsNode false page 0 link) k.all n in
    let r = reads false page 0 link k.lower k.middle k.upper h.at n2 k.at_is in
    let s = r.size in
    let ln : after - (h.at + 10) ≡ length k.middle.key = omega arith in
    record {
      lower = k.lower;
      upper = k.middle ∷ k.upper;
      all = k.all;
      at_is = k.at_is;
      from_is = fe;
      count_is = k.count_is;
      more_is = let c = n2.count in let d = length-append k.lower (k.middle ∷ k.upper) in let e = k.count_is in omega arith;
      link_is = le ∙ n.link_is;
      is_bound = let B : List Entry → Type 0 = λ l. IsBoundIn l k.lower (k.middle ∷ k.upper) t (record { key = bound; place = h.place; child = 0 }) in
          subst B (sym k.all) (middle_bound k.lower k.upper k.middle t bound h.place (be ∙ ap (λ q. take q (drop (h.at + 10) page)) ln ∙ r.key) (pe ∙ r.place));
    }

-- a leaf that is left full: t goes behind all
pub halves_last : (page : List ℕ) (link : ℕ) (es : List Entry) (t : Entry) (at after : ℕ) (there : Bool) (h : Halves) (bound : List ℕ) → IsNode false page 0 link es
    → (s : IsSpot false es t at after there) → number page 4 ≤ at → h.at ≡ number page 4 → h.from ≡ number page 4 → h.count ≡ number page 2 → h.more ≡ 0
    → h.link ≡ page_number page 8 → bound ≡ t.key → h.place ≡ t.place → HalvesLeaf link es t h bound
halves_last page link es t at after there h bound n s e ae fe ce me le ke pe =
    let none : s.passed.todo ≡ [] = empty s.passed.todo
    (let k = end_is false page 0 link s.passed.done s.passed.todo at (subst (IsNode false page 0 link) s.passed.all n) s.passed.place in omega arith) in
    let all : es ≡ s.passed.done = s.passed.all ∙ ap (λ l. s.passed.done ++ l) none ∙ none_behind s.passed.done in
    let b : Entry = record { key = bound; place = h.place; child = 0 } in
    let same : IsSame b t = record { key = ke; place = pe } in
    let bt : NotBehind b t = same_not_behind b t same in
    let tb : NotBehind t b = same_not_behind t b (same_back b t same) in
    record {
      lower = es;
      upper = [];
      all = sym (none_behind es);
      at_is = ae ∙ n.free;
      from_is = fe ∙ sym ae;
      count_is = ce ∙ n.count;
      more_is = me;
      link_is = le ∙ n.link_is;
      is_bound = record {
        below = λ o. all_weaker (λ e. Before e t) (λ e. Before e b) es (λ e l. before_then e t b l tb) (subst (AllBy (λ e. Before e t)) (sym all) s.passed.are);
        above = λ o. tt;
        from = λ x a f. not_behind_trans x t b f tb;
        to = λ y a f. then_before b t y bt f;
      };
    }
  where
    empty : (l : List Entry) → length (spelling false l) ≤ 0 → l ≡ []
    empty [] q = refl
    empty (x ∷ l) q = absurd (let m = ap length (spelling-more false x l) ∙ length-append (spelled false x) (spelling false l) in let n = length-spelled false x in omega arith)

-- ---- the parts

pub upper_taken : (inner : Bool) (source empty filled b : List ℕ) (sl sk level link from end free count k : ℕ) (done todo : List Entry)
    → IsNode inner source sl sk (done ++ todo) → from ≡ 16 + length (spelling inner done) → end ≡ number source 4 → free ≡ 16 + (end - from) → k ≡ free - 16
    → IsNode inner empty level link [] → filled ≡ put_mid 16 k empty (take (end - from) (drop from source))
    → count ≡ length todo → SetsHead filled b count free → IsNode inner b level link todo
upper_taken inner source empty filled b sl sk level link from end free count k done todo h f e fr ks n w c s =
    let ends = end_is inner source sl sk done todo from h f in
    let lt : end - from ≡ length (spelling inner todo) = omega arith in
    let part : List ℕ = take (end - from) (drop from source) in
    let is_todo : part ≡ spelling inner todo = ap (λ q. take q (drop from source)) lt ∙ rest_of inner source sl sk done todo from h f in
    let whole = n.whole in
    let fits = h.fits in
    let hf = h.free in
    let kf : k ≡ end - from = omega arith in
    let lp : length part ≡ k = ap length is_todo ∙ sym lt ∙ sym kf in
    let keeps : KeepsHead empty filled = subst (KeepsHead empty) (sym w) (keeps_head empty part 16 k (omega arith) (omega arith) lp) in
    let lb : ℕ = length (spelling inner todo) in
    rebuilt inner empty b level link [] todo n (keeps_then empty filled b keeps s.head)
    (s.count_is ∙ c)
    (let g = s.free_is in omega arith)
    (omega arith)
    (s.body 16 lb (omega arith) ∙ ap (λ r. take lb (drop 16 r)) w ∙ ap (λ q. take q (drop 16 (put_mid 16 k empty part))) (sym lt ∙ sym kf)
    ∙ within empty part 16 k (omega arith) lp ∙ is_todo)
    (all_behind IsProper done todo h.proper)
    (λ m f t. s.body m 1 (omega arith) ∙ ap (λ r. take 1 (drop m r)) w ∙ above empty part 16 k m 1 (omega arith) (omega arith) lp
    ∙ zero_end inner empty level link [] m n (let z = n.free in let e = ap length (spelling-none inner) in omega arith) t)

pub lower_kept : (inner : Bool) (page cleared b zeros : List ℕ) (level link at end count k : ℕ) (done todo : List Entry)
    → IsNode inner page level link (done ++ todo) → at ≡ 16 + length (spelling inner done) → end ≡ number page 4 → k ≡ end - at → zeros ≡ replicate k 0
    → cleared ≡ put_mid at k page zeros → count ≡ length done → SetsHead cleared b count at → IsNode inner b level link done
lower_kept inner page cleared b zeros level link at end count k done todo h a e ks zs w c s =
    let lz : length zeros ≡ k = ap length zs ∙ length-replicate k 0 in
    let ends = end_is inner page level link done todo at h a in
    let whole = h.whole in
    let fits = h.fits in
    let hf = h.free in
    let ld : length (spelling inner (done ++ todo)) ≡ length (spelling inner done) + length (spelling inner todo) =
    ap length (spelling-append inner done todo) ∙ length-append (spelling inner done) (spelling inner todo) in
    let keeps : KeepsHead page cleared = subst (KeepsHead page) (sym w) (keeps_head page zeros at k (omega arith) (omega arith) lz) in
    let la : ℕ = length (spelling inner done) in
    rebuilt inner page b level link (done ++ todo) done h (keeps_then page cleared b keeps s.head)
    (s.count_is ∙ c)
    (s.free_is ∙ a)
    (omega arith)
    (s.body 16 la (omega arith) ∙ ap (λ r. take la (drop 16 r)) w ∙ below page zeros at k 16 la (omega arith) (omega arith)
    ∙ front page (spelling inner done) (spelling inner todo) 16 (length (spelling inner (done ++ todo))) (h.text ∙ spelling-append inner done todo) (sym ld))
    (all_front IsProper done todo h.proper)
    (λ m f t. s.body m 1 (omega arith) ∙ ap (λ r. take 1 (drop m r)) w
    ∙ elim (cases_lt m end) [
      | inl l ↦ ap (λ z. take 1 (drop m (put_mid at k page z))) zs ∙ zero-written page at k m (omega arith) (omega arith) (omega arith)
      | inr l ↦ above page zeros at k m 1 (omega arith) (omega arith) lz ∙ zero_end inner page level link (done ++ todo) m h (omega arith) t
    ])

pub linked : (inner : Bool) (page : List ℕ) (level old link la : ℕ) (es : List Entry) → IsNode inner page level old es → la ≡ link_at inner → link < 2 ^ 32
    → IsNode inner (put_mid la 4 page (to_le_bytes w32 link)) level link es
unfolding page_number number
linked inner page level old link la es h li small =
    let places : (la ≡ 12) ⊎ (la ≡ 8) = two inner la li in
    let from : 8 ≤ la = (elim places [ inl p ↦ omega arith | inr p ↦ omega arith ]) in
    let to : la ≤ 12 = (elim places [ inl p ↦ omega arith | inr p ↦ omega arith ]) in
    let x : List ℕ = to_le_bytes w32 link in
    let whole = h.whole in
    let lw : length (put_mid la 4 page x) ≡ length page = length-written page x la 4 (omega arith) refl in
    record {
      whole = lw ∙ whole;
      kind = byte-same page (put_mid la 4 page x) 0 (omega arith) lw (below page x la 4 0 1 (omega arith) (omega arith)) ∙ h.kind;
      level_is = byte-same page (put_mid la 4 page x) 1 (omega arith) lw (below page x la 4 1 1 (omega arith) (omega arith)) ∙ h.level_is;
      count = ap (from_le_bytes w16) (below page x la 4 2 2 (omega arith) (omega arith)) ∙ h.count;
      link_is = ap (λ m. from_le_bytes w32 (take 4 (drop m (put_mid la 4 page x)))) (sym li) ∙ ap (from_le_bytes w32) (within page x la 4 (omega arith) refl)
          ∙ from_le_bytes-to_le_bytes_4 link small;
      free = ap (from_le_bytes w16) (below page x la 4 4 2 (omega arith) (omega arith)) ∙ h.free;
      fits = h.fits;
      text = above page x la 4 16 (length (spelling inner es)) (omega arith) (omega arith) refl ∙ h.text;
      proper = h.proper;
      zeros = λ m u.
          let q = unused_apart inner (16 + length (spelling inner es)) m (omega arith) u in
          let few : m < 4096 = unused_few inner (16 + length (spelling inner es)) m u in
          let same : take 1 (drop m (put_mid la 4 page x)) ≡ take 1 (drop m page) = elim (q.1) [
            | inl f ↦ below page x la 4 m 1 (omega arith) (omega arith)
            | inr f ↦ above page x la 4 m 1 (omega arith) (omega arith) refl
          ] in
          byte-same page (put_mid la 4 page x) m (omega arith) lw same ∙ h.zeros m u;
    }
  where
    two : (inner : Bool) (la : ℕ) → la ≡ link_at inner → (la ≡ 12) ⊎ (la ≡ 8)
    two true la e = inl e
    two false la e = inr e
