-- One page after the other: put back, and handed out.
use Rattle.std.specs.Prelude.{◌≡◌, ◌≢◌, ℕ, ◌+◌, ◌<◌, ◌≤◌, suc, Bool, false, true, List, [], ◌∷◌, ◌++◌, length, Option, None, Some, Result, Ok, Err, IfOk, IfSome, OnOk, if◌then◌else◌}
use Rattle.std.specs.List.{AllByRecursion}
use Rattle.std.proofs.Common.{◌∙◌, sym, ap, refl, subst, arith, length-append}
use Rattle.std.proofs.lemmas.Bool.Decides.{nat_tests}
use Rattle.hg_io.specs.declared.device.PageDevice.{Ghosts}
use Rattle.hg_base.specs.Causes.{HasCause, Later, MayBeFound, counts_after, fault_of}
use Rattle.hg_base.specs.declared.File.TheVariants.{Temp}
use Rattle.hg_base.specs.Lines.{AreApart}
use Rattle.hg_base.specs.Space.{Space, Counts, at, unpinned_bytes, with_counts, IsSame}
use Rattle.hg_base.specs.declared.pages.PageFault.{PageFault}
use Rattle.hg_base.specs.declared.pages.PageFault.TheVariants as fault
use Rattle.hg_raw.specs.Frames.{Frame, RegionId, ChainSeen, numbers, distinct, bytes_of, without}
use Rattle.hg_pool.specs.Lending.{handed_out, put_back, region_of, lent_of, KeepsOut, IsChainOf, IsHandedOut, OneMoreOut, bytes_in}
use Rattle.hg_pool.specs.Shown.{state_of, in_frame, frame_of, current_of, counts_of_pool, owed, Asked, CalledNone, SameFrames}
use Rattle.hg_pool.specs.declared.parts.Parts.{Parts}
use Rattle.hg_heap.specs.Resting.{temp_page, temp_key, page_behind, pages_from, walk, IsAtRest, Rests}
use Rattle.hg_heap.specs.Handing.{contents, has_key, out_of, all_back, HadBytes, IsOut, AreOut, TakesPage, HandsOut, PutsBack, Putting, Taking}
use Rattle.hg_heap.proofs.Outs.{out-more, all-restored, contents-join, had-more, out-kept, out-join, come-more}
use Rattle.hg_heap.proofs.Walking.{walk-next, from-last, length-from, all-walk, apart-front, all-front, not-passed}

found-here : (f : Frame) (fs : List Frame) (k : ℕ) → f.0 ≡ k → bytes_of (f ∷ fs) k ≡ f.1
found-here f fs k e = grind (arith, nat_tests)

left-here : (f : Frame) (fs : List Frame) (k : ℕ) → f.0 ≡ k → without (f ∷ fs) k ≡ fs
left-here f fs k e = grind (arith, nat_tests)

at-other : {X : Type 0} (f : ℕ → X) (n k : ℕ) (x : X) → n ≢ k → at f (temp_key k) x (temp_key n) ≡ f (temp_key n)
at-other f n k x h = grind (arith, nat_tests)

counts-back : (s : Space) (n : Counts) (pages : List ℕ) (bytes : List (List ℕ)) → all_back (with_counts s n) pages bytes ≡ with_counts (all_back s pages bytes) n
counts-back s n [] bytes = refl
counts-back s n (p ∷ pages) [] = refl
counts-back s n (p ∷ pages) (b ∷ bytes) = counts-back (put_back s (temp_key p) b) n pages bytes

pub rests-front : (s : Space) (next : ℕ → Option ℕ) (first count k : ℕ) → Rests s (pages_from next first count) → k ≤ count → Rests s (pages_from next first k)
rests-front s next first count k r l = record { apart = apart-front next first count k r.apart l; each = all-front (IsAtRest s) next first count k r.each l }

-- the cause of a fault stays where only counts and what is told are looked at
pub cause-moved : (a b y z : Space) (f : Option PageFault) → HasCause b y f → b.counts ≡ a.counts → b.told ≡ a.told → z.counts ≡ y.counts → HasCause a z f
cause-moved a b y z f h before told after = record {
  later = subst (λ n. Later n z.counts) before (subst (λ n. Later b.counts n) (sym after) h.later);
  counts = after ∙ h.counts ∙ ap (λ n. counts_after n f) before;
  damage = found f h.damage;
}
  where
    found : (f : Option PageFault) → IfSome f (λ k. MayBeFound b k) → IfSome f (λ k. MayBeFound a k)
    found None d = tt
    found (Some fault.MainFault) d = tt
    found (Some fault.TempFault) d = tt
    found (Some fault.MainFull) d = tt
    found (Some fault.TempFull) d = tt
    found (Some (fault.Damaged page check)) d = sym told ∙ d

module _ {M T : Type 0} where
  same-frames-then : (a b c : Parts M T) → SameFrames a b → SameFrames b c → SameFrames a c
  same-frames-then a b c h k = record {
    stay = λ q e. let x = h.stay q e in let y = k.stay q x.0 in (y.0, y.1 ∙ x.1);
    none_came = λ q e. k.none_came q (h.none_came q e);
    frames = λ g. k.frames g ∙ h.frames g;
  }

  -- the pages that were not put back are still out
  out-after : (m : Ghosts M) (t : Ghosts T) (b z : Parts M T) (pages : List ℕ) (fs : List Frame) (n : ℕ) (w : List ℕ) → AreOut m t b pages fs → AllByRecursion (λ y. y ≢ n) pages
      → state_of m t z ≡ put_back (state_of m t b) (temp_key n) w → SameFrames b z → AreOut m t z pages fs
  out-after m t b z [] [] n w h d e s = tt
  out-after m t b z [] (f ∷ fs) n w h d e s = absurd h
  out-after m t b z (k ∷ pages) [] n w h d e s = absurd h
  out-after m t b z (k ∷ pages) (f ∷ fs) n w h d e s =
      let r = s.stay (temp_page k) h.0.inside in (
        record {
          taken = ap (λ (v : Space). v.taken (temp_key k)) e ∙ h.0.taken;
          out = ap (λ (v : Space). v.of_heap (temp_key k)) e ∙ at-other (state_of m t b).of_heap k n false d.0 ∙ h.0.out;
          inside = r.0;
          frame = r.1 ∙ h.0.frame;
        },
        out-after m t b z pages fs n w h.1 d.1 e s,
      )

  -- the chain of the page that is put back, and what is left
  pub one-of : (m : Ghosts M) (t : Ghosts T) (b : Parts M T) (nr : ℕ) (pages : List ℕ) (c : ChainSeen) (one : ChainSeen) (fr : ℕ) → AreOut m t b (nr ∷ pages) c.frames → c.region ≡ region_of b
      → fr ≡ frame_of b (temp_page nr) → one ≡ record { region = c.region; frames = (fr, bytes_of c.frames fr) ∷ [] } → IsChainOf b (temp_page nr) one
  one-of m t b nr pages c one fr h r e o =
      record {
        region = ap (λ (k : ChainSeen). k.region) o ∙ r;
        just = ap (λ (k : ChainSeen). k.frames) o ∙ (λ i. (e i, bytes_of c.frames fr) ∷ [])
            ∙ ap (λ w. (frame_of b (temp_page nr), w) ∷ []) (sym (ap (λ (k : ChainSeen). bytes_of k.frames (frame_of b (temp_page nr))) o ∙ found-here (fr, bytes_of c.frames fr) [] (frame_of b (temp_page nr)) e));
      }

  last-of : (m : Ghosts M) (t : Ghosts T) (b : Parts M T) (nr : ℕ) (fs : List Frame) → AreOut m t b (nr ∷ []) fs → fs ≡ (frame_of b (temp_page nr), bytes_of fs (frame_of b (temp_page nr))) ∷ []
  last-of m t b nr [] h = absurd h
  last-of m t b nr (f ∷ []) h =
      let e : f.0 ≡ frame_of b (temp_page nr) = sym h.0.frame in
      λ i. (e i, sym (found-here f [] (frame_of b (temp_page nr)) e) i) ∷ []
  last-of m t b nr (f ∷ g ∷ fs) h = absurd h.1

  pub last-chain : (m : Ghosts M) (t : Ghosts T) (b : Parts M T) (nr : ℕ) (c : ChainSeen) → AreOut m t b (nr ∷ []) c.frames → c.region ≡ region_of b → IsChainOf b (temp_page nr) c
  last-chain m t b nr c h r = record { region = r; just = last-of m t b nr c.frames h }

  put-more : (m : Ghosts M) (t : Ghosts T) (a b z : Parts M T) (pages : List ℕ) (bytes : List (List ℕ)) (nr k : ℕ) (r : RegionId) (fs : List Frame)
      → Putting m t a b pages bytes nr (suc k) (record { region = r; frames = fs })
      → PutsBack m t b z (nr ∷ []) (bytes_of fs (frame_of b (temp_page nr)) ∷ [])
      → Putting m t a z pages bytes (page_behind (state_of m t a).next nr) k (record { region = r; frames = without fs (frame_of b (temp_page nr)) })
  put-more m t a b z pages bytes nr k r [] h p = absurd h.each
  put-more m t a b z pages bytes nr k r (f ∷ fs) h p =
      let e : f.0 ≡ frame_of b (temp_page nr) = sym h.each.0.frame in
      let w : bytes_of (f ∷ fs) (frame_of b (temp_page nr)) ≡ f.1 = found-here f fs (frame_of b (temp_page nr)) e in
      let s : state_of m t z ≡ put_back (state_of m t b) (temp_key nr) f.1 = p.state ∙ ap (put_back (state_of m t b) (temp_key nr)) w in
      let P : List Frame → Type 0 = λ xs. Putting m t a z pages bytes (page_behind (state_of m t a).next nr) k (record { region = r; frames = xs }) in
      subst P (sym (left-here f fs (frame_of b (temp_page nr)) e)) (record {
        apart = h.apart.1;
        each = out-after m t b z (pages_from (state_of m t a).next (page_behind (state_of m t a).next nr) k) fs nr f.1 h.each.1 h.apart.0 s p.frames;
        of_region = h.of_region ∙ sym p.region;
        next = ap (λ (v : Space). v.next) s ∙ h.next;
        state = ap (λ v. all_back v (pages_from (state_of m t a).next (page_behind (state_of m t a).next nr) k) (contents fs)) s ∙ h.state;
        frames = same-frames-then a b z h.frames p.frames;
        called = record { main = p.called.main ∙ h.called.main; temp = p.called.temp ∙ h.called.temp };
        counts = p.counts ∙ h.counts;
        region = p.region ∙ h.region;
        max = p.max ∙ h.max;
      })

  pub putting-more : (m : Ghosts M) (t : Ghosts T) (a b z : Parts M T) (pages : List ℕ) (bytes : List (List ℕ)) (nr k fr : ℕ) (c d one : ChainSeen)
      → Putting m t a b pages bytes nr (suc k) c → fr ≡ frame_of b (temp_page nr)
      → one ≡ record { region = c.region; frames = (fr, bytes_of c.frames fr) ∷ [] } → d ≡ record { region = c.region; frames = without c.frames fr }
      → PutsBack m t b z (nr ∷ []) (bytes_in b (temp_page nr) one ∷ []) → Putting m t a z pages bytes (page_behind (state_of m t z).next nr) k d
  putting-more m t a b z pages bytes nr k fr c d one h e o l p =
      let w : bytes_in b (temp_page nr) one ≡ bytes_of c.frames (frame_of b (temp_page nr)) =
      ap (λ (x : ChainSeen). bytes_of x.frames (frame_of b (temp_page nr))) o
      ∙ found-here (fr, bytes_of c.frames fr) [] (frame_of b (temp_page nr)) e ∙ ap (bytes_of c.frames) e in
      let r = put-more m t a b z pages bytes nr k c.region c.frames h (subst (λ x. PutsBack m t b z (nr ∷ []) (x ∷ [])) w p) in
      let P : ChainSeen → Type 0 = λ x. Putting m t a z pages bytes (page_behind (state_of m t z).next nr) k x in
      subst P (sym (l ∙ (λ i. record { region = c.region; frames = without c.frames (e i) })))
      (subst (λ n. Putting m t a z pages bytes (page_behind n nr) k (record { region = c.region; frames = without c.frames (frame_of b (temp_page nr)) })) (sym r.next) r)

  pub putting-ends : (m : Ghosts M) (t : Ghosts T) (a b z : Parts M T) (pages : List ℕ) (bytes : List (List ℕ)) (nr : ℕ) (c : ChainSeen)
      → Putting m t a b pages bytes nr 1 c → PutsBack m t b z (nr ∷ []) (bytes_in b (temp_page nr) c ∷ []) → PutsBack m t a z pages bytes
  putting-ends m t a b z pages bytes nr c h p =
      let r = put-more m t a b z pages bytes nr 0 c.region c.frames h p in
      record { state = none-left (state_of m t z) (contents (without c.frames (frame_of b (temp_page nr)))) ∙ r.state; frames = r.frames; called = r.called; counts = r.counts; region = r.region; max = r.max }
    where
      none-left : (s : Space) (bs : List (List ℕ)) → s ≡ all_back s [] bs
      none-left s bs = refl

  pub putting-out : (m : Ghosts M) (t : Ghosts T) (a b : Parts M T) (pages : List ℕ) (bytes : List (List ℕ)) (nr k : ℕ) (c : ChainSeen)
      → Putting m t a b pages bytes nr (suc k) c → (f : ℕ) × IsOut m t b nr f
  putting-out m t a b pages bytes nr k c h = first c.frames h.each
    where
      first : (fs : List Frame) → AreOut m t b (nr ∷ pages_from (state_of m t a).next (page_behind (state_of m t a).next nr) k) fs → (f : ℕ) × IsOut m t b nr f
      first [] e = absurd e
      first (f ∷ fs) e = (f.0, e.0)

  pub putting-starts : (m : Ghosts M) (t : Ghosts T) (a : Parts M T) (first k : ℕ) (c : ChainSeen) → AreApart (pages_from (state_of m t a).next first k)
      → AreOut m t a (pages_from (state_of m t a).next first k) c.frames → c.region ≡ region_of a
      → Putting m t a a (pages_from (state_of m t a).next first k) (contents c.frames) first k c
  putting-starts m t a first k c apart each r = record {
    apart = apart;
    each = each;
    of_region = r;
    next = refl;
    state = refl;
    frames = record { stay = λ q e. (e, refl); none_came = λ q e. e; frames = λ g. refl };
    called = record { main = refl; temp = refl };
    counts = refl;
    region = refl;
    max = refl;
  }

  -- Handed out.

  pub first-out : (m : Ghosts M) (t : Ghosts T) (a b : Parts M T) (n : ℕ) (c : ChainSeen) → IsAtRest (state_of m t a) n → TakesPage m t a b n c → Taking m t a b n n 1 c
  first-out m t a b n c rest h =
      let fr : c.frames ≡ (frame_of b (temp_page n), h.bytes) ∷ [] = ap (λ (k : ChainSeen). k.frames) h.chain in
      let nothing : out_of (state_of m t a) [] ≡ state_of m t a = refl in
      record {
        some = omega arith;
        last = refl;
        taken = rest.taken;
        hands = record {
          had = subst (λ fs. HadBytes (state_of m t a) (n ∷ []) (contents fs)) (sym fr) (h.was, tt);
          state = h.state ∙ out-more (state_of m t a) [] n;
          each = subst (λ fs. AreOut m t b (n ∷ []) fs) (sym fr)
              (record { taken = ap (λ (v : Space). v.taken (temp_key n)) h.state ∙ rest.taken; out = ap (λ (v : Space). v.of_heap (temp_key n)) h.state ∙ here (state_of m t a).of_heap (temp_key n); inside = h.inside; frame = refl }, tt);
          apart = ap (λ fs. distinct (numbers fs)) fr;
          of_region = ap (λ (k : ChainSeen). k.region) h.chain;
          region = h.stock.region;
          max = h.stock.max;
          lent = h.stock.lent;
          come = (b, h.comes, refl);
        };
      }
    where
      here : (f : ℕ → Bool) (k : ℕ) → at f k true k ≡ true
      here f k = grind (arith, nat_tests)

  -- the next page may be handed out
  pub next-rests : (m : Ghosts M) (t : Ghosts T) (a b : Parts M T) (first nr count total : ℕ) (c : ChainSeen) → Taking m t a b first nr count c
      → Rests (state_of m t a) (pages_from (state_of m t a).next first total) → count < total → IsAtRest (state_of m t b) (page_behind (state_of m t b).next nr)
  next-rests m t a b first nr count total c h r l =
      let next : ℕ → Option ℕ = (state_of m t a).next in
      let w : ℕ = walk next first count in
      let e : state_of m t b ≡ out_of (state_of m t a) (pages_from next first count) = h.hands.state in
      let n : page_behind (state_of m t b).next nr ≡ w = ap (λ (v : Space). page_behind v.next nr) e ∙ h.last in
      let i : IsAtRest (state_of m t a) w = all-walk (IsAtRest (state_of m t a)) next first total count r.each l in
      let d : has_key (pages_from next first count) (temp_key w) ≡ false = not-passed next first total count r.apart l in
      subst (IsAtRest (state_of m t b)) (sym n) (record {
        taken = ap (λ (v : Space). v.taken (temp_key w)) e ∙ i.taken;
        free = ap (λ (v : Space). v.pinned (temp_key w)) e ∙ i.free;
        home = ap (λ (v : Space). v.of_heap (temp_key w)) e ∙ ap (λ k. if k then true else (state_of m t a).of_heap (temp_key w)) d ∙ i.home;
      })

  pub next-room : (m : Ghosts M) (t : Ghosts T) (a b : Parts M T) (first nr count total : ℕ) (c : ChainSeen) → Taking m t a b first nr count c
      → lent_of a + total + 8 ≤ current_of a → count < total → lent_of b + 8 < current_of b
  next-room m t a b first nr count total c h r l =
      let e : current_of b ≡ current_of a = ap (λ (v : Space). v.heaps.current) h.hands.state in
      let k : lent_of b ≡ lent_of a + length (pages_from (state_of m t a).next first count) = h.hands.lent in
      omega (arith, e, k, length-from (state_of m t a).next first count)

  pub taking-more : (m : Ghosts M) (t : Ghosts T) (a b z : Parts M T) (first nr count total : ℕ) (c d one : ChainSeen) → Taking m t a b first nr count c
      → Rests (state_of m t a) (pages_from (state_of m t a).next first total) → count < total → TakesPage m t b z (page_behind (state_of m t b).next nr) one
      → d ≡ record { region = c.region; frames = c.frames ++ one.frames } → distinct (numbers d.frames) ≡ true
      → Taking m t a z first (page_behind (state_of m t b).next nr) (suc count) d
  taking-more m t a b z first nr count total c d one h r l k e apart =
      let next : ℕ → Option ℕ = (state_of m t a).next in
      let w : ℕ = walk next first count in
      let done : List ℕ = pages_from next first count in
      let n : page_behind (state_of m t b).next nr ≡ w = ap (λ (v : Space). page_behind v.next nr) h.hands.state ∙ h.last in
      let k2 : TakesPage m t b z w one = subst (λ x. TakesPage m t b z x one) n k in
      let i : IsAtRest (state_of m t a) w = all-walk (IsAtRest (state_of m t a)) next first total count r.each l in
      let dn : has_key done (temp_key w) ≡ false = not-passed next first total count r.apart l in
      let x : Frame = (frame_of z (temp_page w), k2.bytes) in
      let fr : d.frames ≡ c.frames ++ x ∷ [] = ap (λ (q : ChainSeen). q.frames) e ∙ ap (λ (q : ChainSeen). c.frames ++ q.frames) k2.chain in
      let was : (state_of m t a).bytes (temp_key w) ≡ unpinned_bytes (state_of m t a).told (Some k2.bytes) =
      sym (ap (λ (v : Space). v.bytes (temp_key w)) h.hands.state ∙ ap (λ q. if q then None else (state_of m t a).bytes (temp_key w)) dn)
      ∙ k2.was ∙ ap (λ (v : Space). unpinned_bytes v.told (Some k2.bytes)) h.hands.state in
      let st : state_of m t z ≡ out_of (state_of m t a) (done ++ w ∷ []) = k2.state ∙ ap (λ v. handed_out v (temp_key w)) h.hands.state ∙ out-more (state_of m t a) done w in
      let taken : (q : ℕ) → (state_of m t b).taken q ≡ true → (state_of m t z).taken q ≡ true = λ q e. ap (λ (v : Space). v.taken q) k2.state ∙ e in
      let out : (q : ℕ) → (state_of m t b).of_heap q ≡ true → (state_of m t z).of_heap q ≡ true = λ q e. ap (λ (v : Space). v.of_heap q) k2.state ∙ still (state_of m t b).of_heap (temp_key w) q e in
      let each : AreOut m t z (done ++ w ∷ []) (c.frames ++ x ∷ []) =
      out-join m t z done c.frames w x (out-kept m t b z done c.frames h.hands.each taken out k2.keeps)
      (record { taken = ap (λ (v : Space). v.taken (temp_key w)) st ∙ i.taken; out = ap (λ (v : Space). v.of_heap (temp_key w)) k2.state ∙ here (state_of m t b).of_heap (temp_key w); inside = k2.inside; frame = refl }) in
      let hands : HandsOut m t a z (done ++ w ∷ []) d = record {
        had = subst (λ fs. HadBytes (state_of m t a) (done ++ w ∷ []) (contents fs)) (sym fr)
            (subst (λ bs. HadBytes (state_of m t a) (done ++ w ∷ []) bs) (sym (contents-join c.frames (x ∷ []))) (had-more (state_of m t a) done (contents c.frames) w k2.bytes h.hands.had was));
        state = st;
        each = subst (λ fs. AreOut m t z (done ++ w ∷ []) fs) (sym fr) each;
        apart = apart;
        of_region = ap (λ (q : ChainSeen). q.region) e ∙ h.hands.of_region ∙ sym k2.stock.region;
        region = k2.stock.region ∙ h.hands.region;
        max = k2.stock.max ∙ h.hands.max;
        lent = k2.stock.lent ∙ (let q = h.hands.lent in omega (arith, q, length-append done (w ∷ [])));
        come = come-more m t a b z done w h.hands.come k2.comes;
      } in
      subst (λ y. Taking m t a z first y (suc count) d) (sym n) (record {
        some = omega arith;
        last = sym (walk-next next first count);
        taken = i.taken;
        hands = subst (λ ps. HandsOut m t a z ps d) (sym (from-last next first count)) hands;
      })
    where
      still : (f : ℕ → Bool) (k q : ℕ) → f q ≡ true → at f k true q ≡ true
      still f k q e = grind (arith, nat_tests)

      here : (f : ℕ → Bool) (k : ℕ) → at f k true k ≡ true
      here f k = grind (arith, nat_tests)

  -- what the pool says of a page that it hands out
  pub takes-of : (m : Ghosts M) (t : Ghosts T) (a b : Parts M T) (n : ℕ) (r : Result ChainSeen PageFault)
      → IfOk r (λ chain. IsHandedOut (state_of m t a) (state_of m t b) (temp_key n) (bytes_in b (temp_page n) chain)) → IfOk r (λ chain. IsChainOf b (temp_page n) chain)
      → OnOk r (in_frame b (temp_page n) ≡ true) → KeepsOut m t a b → OnOk r (OneMoreOut a b) → HasCause (state_of m t a) (state_of m t b) (fault_of r)
      → (in_frame a (temp_page n) ≡ true → CalledNone a b) → (in_frame a (temp_page n) ≡ true → counts_of_pool b ≡ counts_of_pool a)
      → OnOk r (in_frame a (temp_page n) ≡ false → Asked m t a b (owed a (frame_of b (temp_page n))) (Some Temp)) → IfOk r (TakesPage m t a b n)
  takes-of m t a b n (Err f) ok chain inside keeps stock cause called counts asked = tt
  takes-of m t a b n (Ok c) ok chain inside keeps stock cause called counts asked = record {
    bytes = bytes_in b (temp_page n) c;
    chain = λ i. record { region = chain.region i; frames = chain.just i };
    was = ok.was;
    state = ok.after ∙ (λ i. with_counts (handed_out (state_of m t a) (temp_key n)) ((sym (ap (λ (v : Space). v.counts) ok.after) ∙ cause.counts) i));
    inside = inside;
    keeps = keeps;
    stock = stock;
    comes = record { stays = λ e. (called e, counts e); read = asked };
  }

  -- Refused.

  -- pages that were handed out are put back with the bytes that they had: the space is as before
  pub back-same : (m : Ghosts M) (t : Ghosts T) (a y z : Parts M T) (pages : List ℕ) (bytes : List (List ℕ)) → Rests (state_of m t a) pages → HadBytes (state_of m t a) pages bytes
      → IsSame (out_of (state_of m t a) pages) (state_of m t y) → state_of m t z ≡ all_back (state_of m t y) pages bytes
      → state_of m t z ≡ with_counts (state_of m t a) (state_of m t y).counts
  back-same m t a y z pages bytes r h s e =
      e ∙ ap (λ v. all_back v pages bytes) s.after ∙ counts-back (out_of (state_of m t a) pages) s.counts pages bytes
      ∙ ap (λ v. with_counts v s.counts) (all-restored (state_of m t a) pages bytes r h)
      ∙ ap (λ (v : Space). with_counts (state_of m t a) v.counts) (sym s.after)
