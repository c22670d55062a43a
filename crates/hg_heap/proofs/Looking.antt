-- The pages of a heap read and rewritten, one after the other.
use Rattle.std.specs.Prelude.{◌≡◌, ◌≢◌, ℕ, ◌<◌, ◌≤◌, ◌==◌, ◌||◌, not, suc, Bool, true, false, List, [], ◌∷◌, ◌++◌, None}
use Rattle.std.specs.List.{AllByRecursion}
use Rattle.std.proofs.Common.{◌∙◌, sym, ap, subst, refl, inl, inr, arith, append-nil}
use Rattle.std.proofs.lemmas.Bool.Decides.{nat_tests}
use Rattle.hg_io.specs.declared.device.PageDevice.{Ghosts}
use Rattle.hg_base.specs.HeapStates.{IsHeapCheck}
use Rattle.hg_base.specs.Lines.{has_page}
use Rattle.hg_base.specs.declared.Check.{Check}
use Rattle.hg_base.specs.declared.Check.TheVariants.{Kind, Size, Frame as FrameCheck, Link, Level, Order, RowBytes}
use Rattle.hg_base.specs.declared.pages.PageFault.{PageFault}
use Rattle.hg_base.specs.declared.pages.PageFault.TheVariants as fault
use Rattle.hg_raw.specs.Frames.{Frame, ChainSeen, numbers, is_in, distinct, bytes_of, with_bytes}
use Rattle.hg_pool.specs.Shown.{state_of, frame_of, max_of}
use Rattle.hg_pool.specs.declared.parts.Parts.{Parts}
use Rattle.hg_reloc.specs.Blocks.{frame, IsMade}
use Rattle.hg_reloc.specs.Checks.{IsWrong, right_made}
use Rattle.hg_reloc.specs.Moves.{Moves, entry, leads_to}
use Rattle.hg_reloc.specs.StandingLaws.{IsRewritten, IsRelocated, AreRewritten, AreRelocated}
use Rattle.hg_heap.specs.Resting.{temp_page, page_behind, pages_from}
use Rattle.hg_heap.specs.Handing.{contents, IsOut, AreOut}
use Rattle.hg_heap.specs.Relocating.{AreMapped, FindsIn, IsDamageOf, NothingStands, NoObjectsFit, Reading, Moving, ReadsPage, has_named, all_stay}
use Rattle.hg_heap.proofs.Frames.{numbers-join, is-there, not-before, bytes-there, written-behind}
use Rattle.hg_heap.proofs.Mapping.{mapped-more, named-more, leads-more, moved-more, unfit-stands, twice-stands}
use Rattle.hg_heap.proofs.Outs.{contents-join}

all-join : (P : ℕ → Type 0) (xs : List ℕ) (x : ℕ) → AllByRecursion P xs → P x → AllByRecursion P (xs ++ x ∷ [])
all-join P [] x h p = (p, tt)
all-join P (y ∷ xs) x h p = (h.0, all-join P xs x h.1 p)

has-front : (x : ℕ) (xs : List ℕ) (n : ℕ) → has_page xs n ≡ true → has_page (x ∷ xs) n ≡ true
has-front x xs n h = or-right (x == n) (has_page xs n) h
  where
    or-right : (a b : Bool) → b ≡ true → (a || b) ≡ true
    or-right true b e = refl
    or-right false b e = e

has-first : (x : ℕ) (xs : List ℕ) → has_page (x ∷ xs) x ≡ true
has-first x xs = grind (arith, nat_tests)

heap-check : (page : List ℕ) (max : ℕ) (c : Check) → IsWrong page max c → IsHeapCheck c
heap-check page max Kind w = tt
heap-check page max Size w = tt
heap-check page max FrameCheck w = tt
heap-check page max Link w = tt
heap-check page max Level w = absurd w
heap-check page max Order w = absurd w
heap-check page max RowBytes w = absurd w

twice : (front : List Frame) (moves : Moves) (g : ℕ) → ((k : ℕ) → has_named front k ≡ false → entry moves.entries k ≡ None) → entry moves.entries g ≢ None → has_named front g ≡ true
twice front moves g named n = by (has_named front g) refl
  where
    by : (b : Bool) → has_named front g ≡ b → has_named front g ≡ true
    by true e = e
    by false e = absurd (n (named g e))

same-numbers : (c now : List Frame) (front done back : List Frame) → c ≡ front ++ back → now ≡ done ++ back → numbers done ≡ numbers front → numbers now ≡ numbers c
same-numbers c now front done back was is same =
    ap numbers is ∙ numbers-join done back ∙ ap (λ l. l ++ numbers back) same ∙ sym (ap numbers was ∙ numbers-join front back)

rewritten-join : (m : Moves) (fs : List ℕ) (os ns : List (List ℕ)) (f : ℕ) (o n : List ℕ) → AreRewritten m fs os ns → IsRewritten m f o n → AreRewritten m (fs ++ f ∷ []) (os ++ o ∷ []) (ns ++ n ∷ [])
rewritten-join m [] [] [] f o n h k = (k, tt)
rewritten-join m [] [] (y ∷ ns) f o n h k = absurd h
rewritten-join m [] (x ∷ os) ns f o n h k = absurd h
rewritten-join m (g ∷ fs) [] ns f o n h k = absurd h
rewritten-join m (g ∷ fs) (x ∷ os) [] f o n h k = absurd h
rewritten-join m (g ∷ fs) (x ∷ os) (y ∷ ns) f o n h k = (h.0, rewritten-join m fs os ns f o n h.1 k)

relocated-join : (m : Moves) (fs : List ℕ) (os ns : List (List ℕ)) (f : ℕ) (o n : List ℕ) → AreRelocated m fs os ns → IsRelocated m f o n → AreRelocated m (fs ++ f ∷ []) (os ++ o ∷ []) (ns ++ n ∷ [])
relocated-join m [] [] [] f o n h k = (k, tt)
relocated-join m [] [] (y ∷ ns) f o n h k = absurd h
relocated-join m [] (x ∷ os) ns f o n h k = absurd h
relocated-join m (g ∷ fs) [] ns f o n h k = absurd h
relocated-join m (g ∷ fs) (x ∷ os) [] f o n h k = absurd h
relocated-join m (g ∷ fs) (x ∷ os) (y ∷ ns) f o n h k = (h.0, relocated-join m fs os ns f o n h.1 k)

pub record MovedAll (c now : ChainSeen) (moves : Moves) : Type 0 where
  pub region : now.region ≡ c.region
  pub same : numbers now.frames ≡ numbers c.frames
  pub rewritten : AreRewritten moves (numbers c.frames) (contents c.frames) (contents now.frames)
  pub relocated : AreRelocated moves (numbers c.frames) (contents c.frames) (contents now.frames)

module _ {M T : Type 0} where
  -- the page that is looked at
  record AtPage (m : Ghosts M) (t : Ghosts T) (p : Parts M T) (frames front back : List Frame) (nr : ℕ) (ns : List ℕ) : Type 0 where
    pub here : Frame
    pub behind : List Frame
    pub split : frames ≡ front ++ here ∷ behind
    pub starts : back ≡ here ∷ behind
    pub is_out : IsOut m t p nr here.0
    pub rest : AreOut m t p ns behind

  at-page : (m : Ghosts M) (t : Ghosts T) (p : Parts M T) (frames front back : List Frame) (nr : ℕ) (ns : List ℕ) → frames ≡ front ++ back → AreOut m t p (nr ∷ ns) back
      → AtPage m t p frames front back nr ns
  at-page m t p frames front [] nr ns s h = absurd h
  at-page m t p frames front (x ∷ xs) nr ns s h = record { here = x; behind = xs; split = s; starts = refl; is_out = h.0; rest = h.1 }

  none-behind : (m : Ghosts M) (t : Ghosts T) (p : Parts M T) (back : List Frame) → AreOut m t p [] back → back ≡ []
  none-behind m t p [] h = refl
  none-behind m t p (x ∷ xs) h = absurd h

  reading-at : (m : Ghosts M) (t : Ghosts T) (p : Parts M T) (pages : List ℕ) (c : ChainSeen) (moves : Moves) (max nr k : ℕ) (moved : Bool)
      (r : Reading m t p pages c moves max nr (suc k) moved) → AtPage m t p c.frames r.front r.back nr (pages_from (state_of m t p).next (page_behind (state_of m t p).next nr) k)
  reading-at m t p pages c moves max nr k moved r = at-page m t p c.frames r.front r.back nr (pages_from (state_of m t p).next (page_behind (state_of m t p).next nr) k) r.split r.out

  pub reading-out : (m : Ghosts M) (t : Ghosts T) (p : Parts M T) (pages : List ℕ) (c : ChainSeen) (moves : Moves) (max nr k : ℕ) (moved : Bool)
      → Reading m t p pages c moves max nr (suc k) moved → (f : ℕ) × IsOut m t p nr f
  reading-out m t p pages c moves max nr k moved r = let w = reading-at m t p pages c moves max nr k moved r in (w.here.0, w.is_out)

  pub reading-has : (m : Ghosts M) (t : Ghosts T) (p : Parts M T) (pages : List ℕ) (c : ChainSeen) (moves : Moves) (max nr k fr : ℕ) (moved : Bool)
      → Reading m t p pages c moves max nr (suc k) moved → fr ≡ frame_of p (temp_page nr) → is_in fr (numbers c.frames) ≡ true
  reading-has m t p pages c moves max nr k fr moved r e =
      let w = reading-at m t p pages c moves max nr k moved r in
      ap (λ n. is_in n (numbers c.frames)) (e ∙ w.is_out.frame) ∙ ap (λ l. is_in w.here.0 (numbers l)) w.split ∙ is-there r.front w.behind w.here

  pub reading-new : (m : Ghosts M) (t : Ghosts T) (p : Parts M T) (pages : List ℕ) (c : ChainSeen) (moves : Moves) (max nr k fr : ℕ) (moved : Bool)
      → Reading m t p pages c moves max nr (suc k) moved → distinct (numbers c.frames) ≡ true → fr ≡ frame_of p (temp_page nr) → leads_to moves.entries fr ≡ false
  reading-new m t p pages c moves max nr k fr moved r d e =
      let w = reading-at m t p pages c moves max nr k moved r in
      r.leads fr ∙ ap (λ n. is_in n (numbers r.front)) (e ∙ w.is_out.frame)
      ∙ not-before r.front w.behind w.here (sym (ap (λ l. distinct (numbers l)) w.split) ∙ d)

  pub reading-more : (m : Ghosts M) (t : Ghosts T) (p : Parts M T) (pages : List ℕ) (c : ChainSeen) (moves after : Moves) (max nr k fr : ℕ) (moved more : Bool) (page : List ℕ)
      → Reading m t p pages c moves max nr (suc k) moved → distinct (numbers c.frames) ≡ true → fr ≡ frame_of p (temp_page nr) → fr < max_of p → max_of p ≤ 65536
      → page ≡ bytes_of c.frames fr → ReadsPage moves after page fr → more ≡ not (frame page == fr)
      → Reading m t p pages c after max (page_behind (state_of m t p).next nr) k (moved || more)
  reading-more m t p pages c moves after max nr k fr moved more page r d e below few b read mv =
      let w = reading-at m t p pages c moves max nr k moved r in
      let x : Frame = w.here in
      let f : fr ≡ x.0 = e ∙ w.is_out.frame in
      let bytes : page ≡ x.1 = b ∙ ap (bytes_of c.frames) f ∙ ap (λ l. bytes_of l x.0) w.split ∙ bytes-there r.front w.behind x (sym (ap (λ l. distinct (numbers l)) w.split) ∙ d) in
      let read2 : ReadsPage moves after x.1 x.0 = subst (λ n. ReadsPage moves after x.1 n) f (subst (λ q. ReadsPage moves after q fr) bytes read) in
      let n : numbers (r.front ++ x ∷ []) ≡ numbers r.front ++ x.0 ∷ [] = numbers-join r.front (x ∷ []) in
      record {
        front = r.front ++ x ∷ [];
        back = w.behind;
        split = w.split ∙ append_assoc_back r.front x w.behind;
        out = w.rest;
        among = λ q h. r.among q (has-front nr (pages_from (state_of m t p).next (page_behind (state_of m t p).next nr) k) q h);
        mapped = mapped-more moves after r.front x read2 r.mapped;
        named = named-more moves after r.front x read2 r.named;
        leads = λ g. leads-more moves after (numbers r.front) x.1 x.0 read2 r.leads g ∙ ap (is_in g) (sym n);
        moved = ap (λ q. moved || q) (mv ∙ (λ i. not (frame (bytes i) == f i))) ∙ moved-more r.front x moved r.moved;
        below = subst (AllByRecursion (λ q. q < max_of p)) (sym n) (all-join (λ q. q < max_of p) (numbers r.front) x.0 r.below (subst (λ q. q < max_of p) f below));
        small = subst (AllByRecursion (λ q. q < 65536)) (sym n) (all-join (λ q. q < 65536) (numbers r.front) x.0 r.small (subst (λ q. q < 65536) f (omega arith)));
        max = read.max ∙ r.max;
      }
    where
      append_assoc_back : (xs : List Frame) (x : Frame) (ys : List Frame) → xs ++ x ∷ ys ≡ (xs ++ x ∷ []) ++ ys
      append_assoc_back [] x ys = refl
      append_assoc_back (z ∷ xs) x ys = ap (λ l. z ∷ l) (append_assoc_back xs x ys)

  pub reading-starts : (m : Ghosts M) (t : Ghosts T) (p : Parts M T) (first count : ℕ) (c : ChainSeen) (moves : Moves) (max : ℕ)
      → AreOut m t p (pages_from (state_of m t p).next first count) c.frames → moves ≡ record { max = max; entries = [] }
      → Reading m t p (pages_from (state_of m t p).next first count) c moves max first count false
  reading-starts m t p first count c moves max h e = record {
    front = [];
    back = c.frames;
    split = refl;
    out = h;
    among = λ n q. q;
    mapped = tt;
    named = λ g q. ap (λ (k : Moves). entry k.entries g) e;
    leads = λ g. ap (λ (k : Moves). leads_to k.entries g) e;
    moved = refl;
    below = tt;
    small = tt;
    max = ap (λ (k : Moves). k.max) e;
  }

  pub record ReadAll (p : Parts M T) (c : ChainSeen) (moves : Moves) (top : ℕ) (flag : Bool) : Type 0 where
    pub mapped : AreMapped moves c.frames
    pub moved : flag ≡ not (all_stay c.frames)
    pub below : AllByRecursion (λ f. f < max_of p) (numbers c.frames)
    pub small : AllByRecursion (λ f. f < 65536) (numbers c.frames)
    pub max : moves.max ≡ top

  pub reading-ends : (m : Ghosts M) (t : Ghosts T) (p : Parts M T) (pages : List ℕ) (c : ChainSeen) (moves : Moves) (max nr : ℕ) (moved : Bool)
      → Reading m t p pages c moves max nr 0 moved → ReadAll p c moves max moved
  reading-ends m t p pages c moves max nr moved r =
      let e : r.front ≡ c.frames = sym (r.split ∙ ap (λ l. r.front ++ l) (none-behind m t p r.back r.out) ∙ append-nil r.front) in
      record {
        mapped = subst (AreMapped moves) e r.mapped;
        moved = r.moved ∙ ap (λ l. not (all_stay l)) e;
        below = subst (λ l. AllByRecursion (λ f. f < max_of p) (numbers l)) e r.below;
        small = subst (λ l. AllByRecursion (λ f. f < 65536) (numbers l)) e r.small;
        max = r.max;
      }

  -- Damage.

  pub reading-damage : (m : Ghosts M) (t : Ghosts T) (p : Parts M T) (pages : List ℕ) (c : ChainSeen) (moves : Moves) (max nr k fr : ℕ) (moved : Bool) (page : List ℕ) (f : PageFault)
      → Reading m t p pages c moves max nr (suc k) moved → FindsIn moves page nr f → IsDamageOf pages f
  reading-damage m t p pages c moves max nr k fr moved page fault.MainFault r d = absurd d
  reading-damage m t p pages c moves max nr k fr moved page fault.TempFault r d = absurd d
  reading-damage m t p pages c moves max nr k fr moved page fault.MainFull r d = absurd d
  reading-damage m t p pages c moves max nr k fr moved page fault.TempFull r d = absurd d
  reading-damage m t p pages c moves max nr k fr moved page (fault.Damaged q check) r d = (
    (nr, d.0, r.among nr (has-first nr (pages_from (state_of m t p).next (page_behind (state_of m t p).next nr) k))),
    elim d.1 [
      | inl w ↦ heap-check page moves.max check w.0
      | inr w ↦ subst IsHeapCheck (sym w.0) tt
    ],
  )

  pub reading-wrong : (m : Ghosts M) (t : Ghosts T) (p : Parts M T) (pages : List ℕ) (c : ChainSeen) (moves : Moves) (max nr k fr : ℕ) (moved : Bool) (page : List ℕ) (f : PageFault)
      → Reading m t p pages c moves max nr (suc k) moved → distinct (numbers c.frames) ≡ true → fr ≡ frame_of p (temp_page nr) → max ≤ 65536 → page ≡ bytes_of c.frames fr
      → FindsIn moves page nr f → NothingStands max (contents c.frames)
  reading-wrong m t p pages c moves max nr k fr moved page fault.MainFault r d e few b h = absurd h
  reading-wrong m t p pages c moves max nr k fr moved page fault.TempFault r d e few b h = absurd h
  reading-wrong m t p pages c moves max nr k fr moved page fault.MainFull r d e few b h = absurd h
  reading-wrong m t p pages c moves max nr k fr moved page fault.TempFull r d e few b h = absurd h
  reading-wrong m t p pages c moves max nr k fr moved page (fault.Damaged q check) r d e few b h =
      let w = reading-at m t p pages c moves max nr k moved r in
      let x : Frame = w.here in
      let f : fr ≡ x.0 = e ∙ w.is_out.frame in
      let bytes : page ≡ x.1 = b ∙ ap (bytes_of c.frames) f ∙ ap (λ l. bytes_of l x.0) w.split ∙ bytes-there r.front w.behind x (sym (ap (λ l. distinct (numbers l)) w.split) ∙ d) in
      subst (λ l. NothingStands max (contents l)) (sym w.split) (elim h.1 [
        | inl u ↦ unfit-stands max r.front w.behind x (omega arith) (subst (λ q. NoObjectsFit q x.1) r.max (subst (NoObjectsFit moves.max) bytes u.1))
        | inr u ↦ twice-stands max r.front w.behind x (twice r.front moves (frame x.1) r.named (subst (λ q. entry moves.entries (frame q) ≢ None) bytes u.1))
      ])

  -- Rewriting.

  pub moving-starts : (m : Ghosts M) (t : Ghosts T) (p : Parts M T) (first count : ℕ) (c : ChainSeen) (moves : Moves)
      → AreOut m t p (pages_from (state_of m t p).next first count) c.frames → AreMapped moves c.frames → Moving m t p c c moves first count
  moving-starts m t p first count c moves h k = record {
    front = [];
    done = [];
    back = c.frames;
    was = refl;
    is = refl;
    same = refl;
    out = h;
    mapped = k;
    rewritten = tt;
    relocated = tt;
    region = refl;
  }

  moving-at : (m : Ghosts M) (t : Ghosts T) (p : Parts M T) (c now : ChainSeen) (moves : Moves) (nr k : ℕ) (r : Moving m t p c now moves nr (suc k))
      → AtPage m t p now.frames r.done r.back nr (pages_from (state_of m t p).next (page_behind (state_of m t p).next nr) k)
  moving-at m t p c now moves nr k r = at-page m t p now.frames r.done r.back nr (pages_from (state_of m t p).next (page_behind (state_of m t p).next nr) k) r.is r.out

  pub moving-out : (m : Ghosts M) (t : Ghosts T) (p : Parts M T) (c now : ChainSeen) (moves : Moves) (nr k : ℕ) → Moving m t p c now moves nr (suc k) → (f : ℕ) × IsOut m t p nr f
  moving-out m t p c now moves nr k r = let w = moving-at m t p c now moves nr k r in (w.here.0, w.is_out)

  pub moving-has : (m : Ghosts M) (t : Ghosts T) (p : Parts M T) (c now : ChainSeen) (moves : Moves) (nr k fr : ℕ) → Moving m t p c now moves nr (suc k)
      → fr ≡ frame_of p (temp_page nr) → is_in fr (numbers now.frames) ≡ true
  moving-has m t p c now moves nr k fr r e =
      let w = moving-at m t p c now moves nr k r in
      ap (λ n. is_in n (numbers now.frames)) (e ∙ w.is_out.frame) ∙ ap (λ l. is_in w.here.0 (numbers l)) w.split ∙ is-there r.done w.behind w.here

  distinct-now : (m : Ghosts M) (t : Ghosts T) (p : Parts M T) (c now : ChainSeen) (moves : Moves) (nr k : ℕ) → (r : Moving m t p c now moves nr k)
      → distinct (numbers c.frames) ≡ true → distinct (numbers now.frames) ≡ true
  distinct-now m t p c now moves nr k r d = ap distinct (same-numbers c.frames now.frames r.front r.done r.back r.was r.is r.same) ∙ d

  pub moving-bytes : (m : Ghosts M) (t : Ghosts T) (p : Parts M T) (c now : ChainSeen) (moves : Moves) (nr k fr : ℕ) → Moving m t p c now moves nr (suc k)
      → distinct (numbers c.frames) ≡ true → fr ≡ frame_of p (temp_page nr) → IsMade (bytes_of now.frames fr)
  moving-bytes m t p c now moves nr k fr r d e =
      let w = moving-at m t p c now moves nr k r in
      let x : Frame = w.here in
      let b : bytes_of now.frames fr ≡ x.1 = ap (bytes_of now.frames) (e ∙ w.is_out.frame) ∙ ap (λ l. bytes_of l x.0) w.split
      ∙ bytes-there r.done w.behind x (sym (ap (λ l. distinct (numbers l)) w.split) ∙ distinct-now m t p c now moves nr (suc k) r d) in
      let q : AreMapped moves (x ∷ w.behind) = subst (AreMapped moves) w.starts r.mapped in
      subst IsMade (sym b) (right_made x.1 moves.max q.1)

  pub moving-more : (m : Ghosts M) (t : Ghosts T) (p : Parts M T) (c now after : ChainSeen) (moves : Moves) (nr k fr : ℕ) (page : List ℕ) → Moving m t p c now moves nr (suc k)
      → distinct (numbers c.frames) ≡ true → fr ≡ frame_of p (temp_page nr) → after ≡ record now { frames = with_bytes now.frames fr page }
      → IsRewritten moves fr (bytes_of now.frames fr) page → IsRelocated moves fr (bytes_of now.frames fr) page
      → Moving m t p c after moves (page_behind (state_of m t p).next nr) k
  moving-more m t p c now after moves nr k fr page r d e l written relocated =
      let w = moving-at m t p c now moves nr k r in
      let x : Frame = w.here in
      let f : fr ≡ x.0 = e ∙ w.is_out.frame in
      let dn : distinct (numbers (r.done ++ x ∷ w.behind)) ≡ true = sym (ap (λ l. distinct (numbers l)) w.split) ∙ distinct-now m t p c now moves nr (suc k) r d in
      let b : bytes_of now.frames fr ≡ x.1 = ap (bytes_of now.frames) f ∙ ap (λ l. bytes_of l x.0) w.split ∙ bytes-there r.done w.behind x dn in
      let q : AreMapped moves (x ∷ w.behind) = subst (AreMapped moves) w.starts r.mapped in
      let z : Frame = (x.0, page) in
      let nf : numbers (r.front ++ x ∷ []) ≡ numbers r.front ++ x.0 ∷ [] = numbers-join r.front (x ∷ []) in
      let nd : numbers (r.done ++ z ∷ []) ≡ numbers r.done ++ x.0 ∷ [] = numbers-join r.done (z ∷ []) in
      let co : contents (r.front ++ x ∷ []) ≡ contents r.front ++ x.1 ∷ [] = contents-join r.front (x ∷ []) in
      let cn : contents (r.done ++ z ∷ []) ≡ contents r.done ++ page ∷ [] = contents-join r.done (z ∷ []) in
      let w1 : IsRewritten moves x.0 x.1 page = subst (λ n. IsRewritten moves n x.1 page) f (subst (λ o. IsRewritten moves fr o page) b written) in
      let w2 : IsRelocated moves x.0 x.1 page = subst (λ n. IsRelocated moves n x.1 page) f (subst (λ o. IsRelocated moves fr o page) b relocated) in
      record {
        front = r.front ++ x ∷ [];
        done = r.done ++ z ∷ [];
        back = w.behind;
        was = r.was ∙ ap (λ l. r.front ++ l) w.starts ∙ one_by_one r.front x w.behind;
        is = ap (λ (g : ChainSeen). g.frames) l ∙ ap (λ n. with_bytes now.frames n page) f ∙ ap (λ l. with_bytes l x.0 page) w.split
            ∙ written-behind r.done w.behind x page (not-before r.done w.behind x dn) ∙ one_by_one r.done z w.behind;
        same = nd ∙ ap (λ l. l ++ x.0 ∷ []) r.same ∙ sym nf;
        out = w.rest;
        mapped = q.2;
        rewritten = subst (λ l. AreRewritten moves l (contents (r.front ++ x ∷ [])) (contents (r.done ++ z ∷ []))) (sym nf)
            (subst (λ l. AreRewritten moves (numbers r.front ++ x.0 ∷ []) l (contents (r.done ++ z ∷ []))) (sym co)
            (subst (λ l. AreRewritten moves (numbers r.front ++ x.0 ∷ []) (contents r.front ++ x.1 ∷ []) l) (sym cn)
            (rewritten-join moves (numbers r.front) (contents r.front) (contents r.done) x.0 x.1 page r.rewritten w1)));
        relocated = subst (λ l. AreRelocated moves l (contents (r.front ++ x ∷ [])) (contents (r.done ++ z ∷ []))) (sym nf)
            (subst (λ l. AreRelocated moves (numbers r.front ++ x.0 ∷ []) l (contents (r.done ++ z ∷ []))) (sym co)
            (subst (λ l. AreRelocated moves (numbers r.front ++ x.0 ∷ []) (contents r.front ++ x.1 ∷ []) l) (sym cn)
            (relocated-join moves (numbers r.front) (contents r.front) (contents r.done) x.0 x.1 page r.relocated w2)));
        region = ap (λ (g : ChainSeen). g.region) l ∙ r.region;
      }
    where
      one_by_one : (xs : List Frame) (x : Frame) (ys : List Frame) → xs ++ x ∷ ys ≡ (xs ++ x ∷ []) ++ ys
      one_by_one [] x ys = refl
      one_by_one (z ∷ xs) x ys = ap (λ l. z ∷ l) (one_by_one xs x ys)

  pub moving-ends : (m : Ghosts M) (t : Ghosts T) (p : Parts M T) (c now : ChainSeen) (moves : Moves) (nr : ℕ) → Moving m t p c now moves nr 0 → MovedAll c now moves
  moving-ends m t p c now moves nr r =
      let none : r.back ≡ [] = none-behind m t p r.back r.out in
      let e : r.front ≡ c.frames = sym (r.was ∙ ap (λ l. r.front ++ l) none ∙ append-nil r.front) in
      let d : r.done ≡ now.frames = sym (r.is ∙ ap (λ l. r.done ++ l) none ∙ append-nil r.done) in
      record {
        region = r.region;
        same = sym (ap numbers d) ∙ r.same ∙ ap numbers e;
        rewritten = (subst (λ l. AreRewritten moves (numbers c.frames) (contents c.frames) (contents l)) d (subst (λ l. AreRewritten moves (numbers l) (contents l) (contents r.done)) e r.rewritten));
        relocated = (subst (λ l. AreRelocated moves (numbers c.frames) (contents c.frames) (contents l)) d (subst (λ l. AreRelocated moves (numbers l) (contents l) (contents r.done)) e r.relocated));
      }
