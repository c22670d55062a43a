-- What a region's fields say of the frames at home.
use Rattle.std.proofs.Common.{◌≡◌, ℕ, ◌*◌, ◌<◌, ◌≤◌, ◌^◌, Bool, true, false, if◌then◌else◌, List, [], ◌∷◌, ◌++◌, length, replicate, get_or, slice_set, Option, None, Some, ◌||◌, is_some, refl, sym, ap, subst, ◌∙◌, arith, ltb-true, ltb-false}
use lib.Dec.{ltb}
use Rattle.std.proofs.Math.ListN.{get_or-eq_default}
use Rattle.std.proofs.lemmas.List.FromFn.{length-map-range_with_len}
use Rattle.std_alloc.specs.declared.vec.Vec.{Vec}
use Rattle.std.proofs.Common.{Global, take, drop}
use Rattle.std.proofs.Math.Seq.{take-append_seam}
use Rattle.std_alloc.specs.Vec.{with_items}
use denote.RawPtr.{Ptr, ◌+ₚ◌}
use Rattle.hg_raw.specs.declared.slots.Slots.{Slots}
use Rattle.hg_raw.specs.PageParts.{PagesSeen}
use Rattle.hg_raw.specs.declared.region.Region.TheInside.{Inside}
use Rattle.hg_raw.specs.declared.chain.Chain.TheInside.{Inside as Parts}
use Rattle.hg_raw.specs.RegionParts.{IsRegion, region_seen}
use Rattle.hg_raw.specs.ChainParts.{IsChain, chain_seen}
use Rattle.hg_raw.specs.Frames.{Frame, RegionId, RegionSeen, ChainSeen, numbers, is_in, distinct, apart, bytes_of, without, minus, is_home, home_bytes, bytes_or_none, taken, given_back, fresh_home}
use Rattle.hg_raw.specs.Links.{Sized, Below, home_of, at_home, flags, marked, zeros}
use Rattle.hg_raw.proofs.Lists.{by_bool, clash, numbers-without, sized-without, below-minus, distinct-minus, numbers-append, sized-append, below-append, distinct-append, below-at, in-append, bytes-append}
use Rattle.hg_raw.proofs.Homes.{home-at, home-taken, flags-minus, home-back, flags-back, zeros-numbers, zeros-sized, zeros-below, zeros-distinct, fresh, fresh-flags, length-flags, flag-at, length-marked, apart-out}
use Rattle.hg_raw.proofs.Chains.{word_numbers, words-sized}

some_if : {X : Type 0} (b : Bool) (x : X) → is_some (if b then Some x else None) ≡ b
some_if true x = refl
some_if false x = refl

none-outside : (fs : List Frame) (N n : ℕ) → N ≤ n → get_or (at_home fs N) n None ≡ None
none-outside fs N n le = get_or-eq_default (at_home fs N) None (subst (λ k. k ≤ n) (sym (length-map-range_with_len (home_of fs) 0 N)) le)

pub home-in : (r : Inside) (v : RegionSeen) → region_seen r ≡ v → (n : ℕ) → is_home v n ≡ true → (n < r.frames) × (is_in n (numbers r.pages.held) ≡ true)
home-in r v e n h =
    let h' : is_some (get_or (at_home r.pages.held r.frames) n None) ≡ true = subst (λ (v : RegionSeen). is_home v n ≡ true) (sym e) h in
    by_bool (ltb n r.frames)
    (λ t. let lt : n < r.frames = ltb-true n r.frames t in
    (lt, sym (some_if (is_in n (numbers r.pages.held)) (bytes_of r.pages.held n)) ∙ ap is_some (sym (home-at r.pages.held r.frames n lt)) ∙ h'))
    (λ t. clash (is_some (get_or (at_home r.pages.held r.frames) n None)) h' (ap is_some (none-outside r.pages.held r.frames n (ltb-false n r.frames t))))

pub is-home : (r : Inside) → IsRegion r → (v : RegionSeen) → region_seen r ≡ v → (n : ℕ) (d : Bool) → n < r.frames → get_or r.home.items n d ≡ is_home v n
is-home r is v e n d lt =
    ap (λ (hs : List Bool). get_or hs n d) is.home ∙ flag-at (numbers r.pages.held) r.frames n d lt ∙ sym (some_if (is_in n (numbers r.pages.held)) (bytes_of r.pages.held n)) ∙ ap is_some (sym (home-at r.pages.held r.frames n lt))
    ∙ ap (λ (v : RegionSeen). is_home v n) e

pub count-home : (r : Inside) → IsRegion r → length r.home.items ≡ r.frames
count-home r is = ap (λ (hs : List Bool). length hs) is.home ∙ length-flags (numbers r.pages.held) r.frames

bytes-if : (b : Bool) (x : List ℕ) → b ≡ true → bytes_or_none (if b then Some x else None) ≡ x
bytes-if true x h = refl
bytes-if false x h = clash false h refl

pub home-bytes : (r : Inside) (v : RegionSeen) → region_seen r ≡ v → (n : ℕ) → n < r.frames → is_in n (numbers r.pages.held) ≡ true → home_bytes v n ≡ bytes_of r.pages.held n
home-bytes r v e n lt h =
    ap (λ (v : RegionSeen). home_bytes v n) (sym e) ∙ ap bytes_or_none (home-at r.pages.held r.frames n lt) ∙ bytes-if (is_in n (numbers r.pages.held)) (bytes_of r.pages.held n) h

pub chain-taken : (r : Inside) (v : RegionSeen) → region_seen r ≡ v → (f : ℕ) → f < r.frames → is_in f (numbers r.pages.held) ≡ true → (ws ps : Slots) → ws.base ≡ r.words.base
    → ps ≡ record { base = r.pages.base; size = 4096; held = (f, bytes_of r.pages.held f) ∷ [] }
    → chain_seen (record { words = ws; pages = ps; frames = r.frames; first = f; last = f }) ≡ record { region = v.region; frames = (f, home_bytes v f) ∷ [] }
chain-taken r v e f lt h ws ps ew ep =
    (λ i. record { region = record { words = ew i; pages = (ep i).base; frames = r.frames }; frames = (ep i).held }) ∙
    (λ i. record { region = (e i).region; frames = (f, sym (home-bytes r v e f lt h) i) ∷ [] })

pub taken-is : (r : Inside) → IsRegion r → (f : ℕ) → f < r.frames → (e : Inside) → e.words ≡ record { base = r.words.base; size = r.words.size; held = without r.words.held f }
    → e.pages ≡ record { base = r.pages.base; frames = r.pages.frames; held = without r.pages.held f } → e.frames ≡ r.frames → e.home.items ≡ slice_set r.home.items f false → e.shell ≡ r.shell → IsRegion e
taken-is r is f lt e ew ep ef eh el =
    let ns : List ℕ = numbers r.pages.held in
    let wheld : e.words.held ≡ without r.words.held f = ap (λ (s : Slots). s.held) ew in
    let held : e.pages.held ≡ without r.pages.held f = ap (λ (s : PagesSeen). s.held) ep in
    let all : numbers e.pages.held ≡ minus ns f = ap numbers held ∙ numbers-without r.pages.held f in
    let wbase : e.words.base ≡ r.words.base = ap (λ (s : Slots). s.base) ew in
    let base : e.pages.base ≡ r.pages.base = ap (λ (s : PagesSeen). s.base) ep in
    record {
      word_size = ap (λ (s : Slots). s.size) ew ∙ is.word_size;
      page_count = ap (λ (s : PagesSeen). s.frames) ep ∙ is.page_count ∙ sym ef;
      words = ap numbers wheld ∙ numbers-without r.words.held f ∙ ap (λ (ms : List ℕ). minus ms f) is.words ∙ sym all;
      words_sized = subst (Sized 8) (sym wheld) (sized-without 8 r.words.held f is.words_sized);
      sized = subst (Sized 4096) (sym held) (sized-without 4096 r.pages.held f is.sized);
      below = subst (λ n. Below n (numbers e.pages.held)) (sym ef) (subst (Below r.frames) (sym all) (below-minus r.frames ns f is.below));
      few = subst (λ n. n < 2 ^ 32) (sym ef) is.few;
      distinct = ap distinct all ∙ distinct-minus ns f is.distinct;
      home = eh ∙ ap (λ (hs : List Bool). slice_set hs f false) is.home ∙ sym (flags-minus ns r.frames f lt is.distinct) ∙ (λ i. flags (sym all i) (sym ef i));
      shell = el ∙ is.shell ∙ (λ i. record { base = sym wbase i; frames = sym ef i });
      pages = base ∙ is.pages ∙ (λ i. sym wbase i +ₚ (8 * sym ef i));
    }

pub seen-taken : (r : Inside) → IsRegion r → (v : RegionSeen) → region_seen r ≡ v → (f : ℕ) → f < r.frames → (e : Inside) → e.words.base ≡ r.words.base
    → e.pages ≡ record { base = r.pages.base; frames = r.pages.frames; held = without r.pages.held f } → e.frames ≡ r.frames → region_seen e ≡ taken v f
seen-taken r is v ev f lt e ew ep ef =
    (λ i. record { region = record { words = ew i; pages = (ep i).base; frames = ef i }; home = at_home (ep i).held (ef i) }) ∙
    ap (λ (home : List (Option (List ℕ))). record { region = (region_seen r).region; home = home }) (home-taken r.pages.held r.frames f lt is.distinct) ∙ ap (λ (v : RegionSeen). taken v f) ev

-- ---- a chain given back
-- no page has two owners, since no word has
pub far-pages : (r : Inside) (c : Parts) → IsRegion r → IsChain c → apart (numbers r.words.held) (numbers c.words.held) ≡ true → apart (numbers r.pages.held) (numbers c.pages.held) ≡ true
far-pages r c is it far = (λ i. apart (sym is.words i) (sym (word_numbers c it) i)) ∙ far

pub back-is : (r : Inside) (c : Parts) → IsRegion r → IsChain c → (chain_seen c).region ≡ (region_seen r).region → apart (numbers r.pages.held) (numbers c.pages.held) ≡ true
    → (e : Inside) → e.words ≡ record { base = r.words.base; size = r.words.size; held = r.words.held ++ c.words.held } → e.pages ≡ record { base = r.pages.base; frames = r.pages.frames; held = r.pages.held ++ c.pages.held }
    → e.frames ≡ r.frames → e.home.items ≡ marked r.home.items (numbers c.pages.held) → e.shell ≡ r.shell → IsRegion e
back-is r c is it same_region far e ew ep ef eh el =
    let ns : List ℕ = numbers r.pages.held in let ms : List ℕ = numbers c.pages.held in
    let wheld : e.words.held ≡ r.words.held ++ c.words.held = ap (λ (s : Slots). s.held) ew in
    let held : e.pages.held ≡ r.pages.held ++ c.pages.held = ap (λ (s : PagesSeen). s.held) ep in
    let all : numbers e.pages.held ≡ ns ++ ms = ap numbers held ∙ numbers-append r.pages.held c.pages.held in
    let wbase : e.words.base ≡ r.words.base = ap (λ (s : Slots). s.base) ew in
    let base : e.pages.base ≡ r.pages.base = ap (λ (s : PagesSeen). s.base) ep in
    let small : Below r.frames ms = subst (λ n. Below n ms) (ap (λ (i : RegionId). i.frames) same_region) it.below in
    record {
      word_size = ap (λ (s : Slots). s.size) ew ∙ is.word_size;
      page_count = ap (λ (s : PagesSeen). s.frames) ep ∙ is.page_count ∙ sym ef;
      words = ap numbers wheld ∙ numbers-append r.words.held c.words.held ∙ (λ i. is.words i ++ word_numbers c it i) ∙ sym all;
      words_sized = subst (Sized 8) (sym wheld) (sized-append 8 r.words.held c.words.held is.words_sized (words-sized c it));
      sized = subst (Sized 4096) (sym held) (sized-append 4096 r.pages.held c.pages.held is.sized it.sized);
      below = subst (λ n. Below n (numbers e.pages.held)) (sym ef) (subst (Below r.frames) (sym all) (below-append r.frames ns ms is.below small));
      few = subst (λ n. n < 2 ^ 32) (sym ef) is.few;
      distinct = ap distinct all ∙ distinct-append ns ms is.distinct it.distinct far;
      home = eh ∙ ap (λ (hs : List Bool). marked hs ms) is.home ∙ sym (flags-back ns ms r.frames small) ∙ (λ i. flags (sym all i) (sym ef i));
      shell = el ∙ is.shell ∙ (λ i. record { base = sym wbase i; frames = sym ef i });
      pages = base ∙ is.pages ∙ (λ i. sym wbase i +ₚ (8 * sym ef i));
    }

pub seen-back : (r : Inside) (c : Parts) → IsChain c → (v : RegionSeen) (w : ChainSeen) → region_seen r ≡ v → chain_seen c ≡ w → (chain_seen c).region ≡ (region_seen r).region → apart (numbers r.pages.held) (numbers c.pages.held) ≡ true
    → (e : Inside) → e.words.base ≡ r.words.base → e.pages ≡ record { base = r.pages.base; frames = r.pages.frames; held = r.pages.held ++ c.pages.held } → e.frames ≡ r.frames → region_seen e ≡ given_back v w.frames
seen-back r c it v w ev ew' same_region far e ew ep ef =
    let small : Below r.frames (numbers c.pages.held) = subst (λ n. Below n (numbers c.pages.held)) (ap (λ (i : RegionId). i.frames) same_region) it.below in
    (λ i. record { region = record { words = ew i; pages = (ep i).base; frames = ef i }; home = at_home (ep i).held (ef i) }) ∙
    ap (λ (home : List (Option (List ℕ))). record { region = (region_seen r).region; home = home }) (home-back r.pages.held c.pages.held r.frames small it.distinct far) ∙ (λ i. given_back (ev i) (ew' i).frames)

-- ---- a new region
pub new-is : (e : Inside) → (p : Ptr) → e.words ≡ record { base = p; size = 8; held = zeros 8 e.frames } → e.pages ≡ record { base = p +ₚ (8 * e.frames); frames = e.frames; held = zeros 4096 e.frames } → e.frames < 2 ^ 32
    → e.home.items ≡ replicate e.frames true → e.shell ≡ record { base = p; frames = e.frames } → IsRegion e
new-is e p ew ep few eh es =
    let wheld : e.words.held ≡ zeros 8 e.frames = ap (λ (s : Slots). s.held) ew in
    let held : e.pages.held ≡ zeros 4096 e.frames = ap (λ (s : PagesSeen). s.held) ep in
    let wbase : e.words.base ≡ p = ap (λ (s : Slots). s.base) ew in
    record {
      word_size = ap (λ (s : Slots). s.size) ew;
      page_count = ap (λ (s : PagesSeen). s.frames) ep;
      words = ap numbers wheld ∙ zeros-numbers 8 4096 e.frames ∙ sym (ap numbers held);
      words_sized = subst (Sized 8) (sym wheld) (zeros-sized 8 e.frames);
      sized = subst (Sized 4096) (sym held) (zeros-sized 4096 e.frames);
      below = subst (λ (fs : List Frame). Below e.frames (numbers fs)) (sym held) (zeros-below 4096 e.frames);
      few = few;
      distinct = ap (λ (fs : List Frame). distinct (numbers fs)) held ∙ zeros-distinct 4096 e.frames;
      home = eh ∙ sym (fresh-flags e.frames) ∙ ap (λ (fs : List Frame). flags (numbers fs) e.frames) (sym held);
      shell = es ∙ ap (λ (q : Ptr). record { base = q; frames = e.frames }) (sym wbase);
      pages = ap (λ (s : PagesSeen). s.base) ep ∙ ap (λ (q : Ptr). q +ₚ (8 * e.frames)) (sym wbase);
    }

pub new-home : (ps : PagesSeen) (q : Ptr) (n : ℕ) → ps ≡ record { base = q; frames = n; held = zeros 4096 n } → at_home ps.held n ≡ fresh_home n
new-home ps q n e = ap (λ (s : PagesSeen). at_home s.held n) e ∙ fresh n

pub not-home : (r : Inside) (v : RegionSeen) → region_seen r ≡ v → (n : ℕ) → r.frames ≤ n → is_home v n ≡ false
not-home r v e n le = subst (λ (v : RegionSeen). is_home v n ≡ false) e (ap is_some (none-outside r.pages.held r.frames n le))

-- a slice of all the items, written
pub refitted : (v : Vec Bool Global) (ws : List Bool) (ns : List ℕ) → ws ≡ marked v.items ns → (with_items v ws).items ≡ marked v.items ns
refitted v ws ns e =
    let l : length ws ≡ v.len = ap (λ (hs : List Bool). length hs) e ∙ length-marked v.items ns ∙ sym v.ok.0 in
    subst (λ (n : ℕ). take n (ws ++ drop (length ws) v.items) ≡ ws) l (take-append_seam ws (drop (length ws) v.items)) ∙ e

absurd_lt : (n m : ℕ) → n < m → m ≤ n → ⊥
absurd_lt n m a b = omega (arith, a, b)

pub not-below : (r : Inside) (v : RegionSeen) → region_seen r ≡ v → (n : ℕ) → r.frames ≤ n → ltb n r.frames ≡ is_home v n
not-below r v e n le = by_bool (ltb n r.frames) (λ t. absurd (absurd_lt n r.frames (ltb-true n r.frames t) le)) (λ t. t ∙ sym (not-home r v e n le))

pub within : (r : Inside) → IsRegion r → (n : ℕ) → n < r.frames → n < r.home.len
within r is n lt = subst (λ k. n < k) (sym (r.home.ok.0 ∙ count-home r is)) lt

pub was-out : (r : Inside) (c : Parts) (v : RegionSeen) (w : ChainSeen) → region_seen r ≡ v → chain_seen c ≡ w → apart (numbers r.pages.held) (numbers c.pages.held) ≡ true → (n : ℕ) → is_in n (numbers w.frames) ≡ true → is_home v n ≡ false
was-out r c v w ev ew far n h =
    let out : is_in n (numbers r.pages.held) ≡ false = apart-out (numbers r.pages.held) (numbers c.pages.held) n far (subst (λ (w : ChainSeen). is_in n (numbers w.frames) ≡ true) (sym ew) h) in
    by_bool (is_home v n) (λ t. clash (is_in n (numbers r.pages.held)) (home-in r v ev n t).1 out) (λ t. t)

pub length-home : (r : Inside) (v : RegionSeen) → region_seen r ≡ v → length v.home ≡ v.region.frames
length-home r v e = subst (λ (v : RegionSeen). length v.home ≡ v.region.frames) e (length-map-range_with_len (home_of r.pages.held) 0 r.frames)

-- ---- what a caller sees of frames that come home
below-out : (N : ℕ) (ns : List ℕ) (k : ℕ) → Below N ns → N ≤ k → is_in k ns ≡ false
below-out N ns k b le = by_bool (is_in k ns) (λ t. absurd (absurd_lt k N (below-at N ns k b t) le)) (λ t. t)

home-is : (r : Inside) → IsRegion r → (v : RegionSeen) → region_seen r ≡ v → (k : ℕ) → is_home v k ≡ is_in k (numbers r.pages.held)
home-is r is v e k =
    by_bool (ltb k r.frames)
    (λ t. sym (is-home r is v e k false (ltb-true k r.frames t)) ∙ ap (λ (hs : List Bool). get_or hs k false) is.home ∙ flag-at (numbers r.pages.held) r.frames k false (ltb-true k r.frames t))
    (λ t. let le : r.frames ≤ k = ltb-false k r.frames t in not-home r v e k le ∙ sym (below-out r.frames (numbers r.pages.held) k is.below le))

pub back-home : (r : Inside) (c : Parts) → IsRegion r → (v : RegionSeen) (w : ChainSeen) → region_seen r ≡ v → chain_seen c ≡ w → (e : Inside) → IsRegion e → e.pages ≡ record { base = r.pages.base; frames = r.pages.frames; held = r.pages.held ++ c.pages.held }
    → (k : ℕ) → is_home (region_seen e) k ≡ (is_home v k || is_in k (numbers w.frames))
back-home r c is v w ev ew e it ep k =
    home-is e it (region_seen e) refl k ∙ ap (λ (s : PagesSeen). is_in k (numbers s.held)) ep ∙ ap (is_in k) (numbers-append r.pages.held c.pages.held) ∙ in-append k (numbers r.pages.held) (numbers c.pages.held)
    ∙ (λ i. sym (home-is r is v ev k) i || is_in k (numbers (ew i).frames))

pub back-bytes : (r : Inside) (c : Parts) (w : ChainSeen) → chain_seen c ≡ w → apart (numbers r.pages.held) (numbers c.pages.held) ≡ true → (e : Inside) → IsRegion e → e.pages ≡ record { base = r.pages.base; frames = r.pages.frames; held = r.pages.held ++ c.pages.held }
    → (k : ℕ) → is_in k (numbers w.frames) ≡ true → home_bytes (region_seen e) k ≡ bytes_of w.frames k
back-bytes r c w ew far e it ep k h =
    let h' : is_in k (numbers c.pages.held) ≡ true = subst (λ (w : ChainSeen). is_in k (numbers w.frames) ≡ true) (sym ew) h in
    let out : is_in k (numbers r.pages.held) ≡ false = apart-out (numbers r.pages.held) (numbers c.pages.held) k far h' in
    let in_ : is_in k (numbers e.pages.held) ≡ true = ap (λ (s : PagesSeen). is_in k (numbers s.held)) ep ∙ ap (is_in k) (numbers-append r.pages.held c.pages.held) ∙ in-append k (numbers r.pages.held) (numbers c.pages.held) ∙ (λ i. out i || h' i) in
    home-bytes e (region_seen e) refl k (below-at e.frames (numbers e.pages.held) k it.below in_) in_ ∙ ap (λ (s : PagesSeen). bytes_of s.held k) ep ∙ bytes-append r.pages.held c.pages.held k ∙ ap (λ t. if t then bytes_of r.pages.held k else bytes_of c.pages.held k) out
    ∙ ap (λ (w : ChainSeen). bytes_of w.frames k) ew
