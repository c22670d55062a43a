-- Whether an object stands at a place of a page.
use Rattle.std.specs.Prelude.{◌≡◌, ℕ, ◌+◌, ◌-◌, ◌%◌, ◌≤◌, List, [], ◌∷◌, ◌++◌, length, take, drop, slice_index, None, Some}
use Rattle.std.specs.List.{AllByRecursion, concat}
use Rattle.std.specs.Int.{w16, w64, from_le_bytes}
use Rattle.std.proofs.Common.{sym, ◌∙◌, ap, subst, refl, arith, length-append, length-take, length-drop, append_assoc}
use Rattle.std.proofs.lemmas.List.{take-append-drop, take-take, drop-take, drop-drop, take_at, drop_at, get_or-drop}
use Rattle.hg_reloc.specs.Blocks.{number, word, kind, size_for, end, IsBlock, HasLength, HasObjects}
use Rattle.hg_reloc.specs.Found.{StandsAt, IsThere, Shows, Finds, IsNext, IsAmong, FindsAmong, GoesOn}
use Rattle.hg_reloc.specs.declared.object.Object.{Object}
use Rattle.hg_reloc.proofs.Rewriting.{number-front, kind-front}

-- the bytes of the object at a place, as long as its head says
abbrev pub bytes_at : List ℕ → ℕ → List ℕ
bytes_at page at = take (size_for (number (drop at page))) (drop at page)

-- a front of some bytes that is long enough says what they say
number-of : (xs : List ℕ) (n : ℕ) → 2 ≤ n → n ≤ length xs → number xs ≡ number (take n xs)
number-of xs n h l = ap number (sym (take-append-drop n xs)) ∙ number-front (take n xs) (drop n xs) (omega (arith, length-take n xs))

kind-of : (xs : List ℕ) (n : ℕ) → 3 ≤ n → n ≤ length xs → kind xs ≡ kind (take n xs)
kind-of xs n h l = ap kind (sym (take-append-drop n xs)) ∙ kind-front (take n xs) (drop n xs) (omega (arith, length-take n xs))

-- an object that stands there is just these bytes
pub same_bytes : (page b : List ℕ) (at : ℕ) → length b ≤ length (drop at page) → IsBlock b → take (length b) (drop at page) ≡ b → number (drop at page) ≡ number b
same_bytes page b at l i h = number-of (drop at page) (length b) (omega (arith, i.size)) l ∙ ap number h

pub same_kind : (page b : List ℕ) (at : ℕ) → length b ≤ length (drop at page) → IsBlock b → take (length b) (drop at page) ≡ b → kind (drop at page) ≡ kind b
same_kind page b at l i h = kind-of (drop at page) (length b) (omega (arith, i.size)) l ∙ ap kind h

pub kind_here : (page : List ℕ) (at : ℕ) → kind (drop at page) ≡ slice_index page (at + 2)
kind_here page at = get_or-drop at page 2 0

-- What is there.
pub is_block : (page : List ℕ) (at : ℕ) → at + size_for (number (drop at page)) ≤ length page → HasLength (slice_index page (at + 2)) (number (drop at page)) → IsBlock (bytes_at page at)
is_block page at l h =
    let s : ℕ = size_for (number (drop at page)) in
    let fits : s ≤ length (drop at page) = omega (arith, length-drop at page) in
    let n : number (drop at page) ≡ number (bytes_at page at) = number-of (drop at page) s (omega arith) fits in
    let k : slice_index page (at + 2) ≡ kind (bytes_at page at) = sym (kind_here page at) ∙ kind-of (drop at page) s (omega arith) fits in
    record {
      size = length-take s (drop at page) ∙ omega (arith, ap size_for n);
      right = subst (λ q. HasLength q (number (bytes_at page at))) k (subst (HasLength (slice_index page (at + 2))) n h);
    }

pub there : (page : List ℕ) (at stop n : ℕ) → n ≡ number (drop at page) → stop ≡ end page → length page ≡ 4096 → 64 ≤ at → at % 16 ≡ 0 → stop ≤ 4096
    → at + size_for n ≤ stop → HasLength (slice_index page (at + 2)) n → IsThere page at
there page at stop n e f w b g i l h =
    let s : at + size_for (number (drop at page)) ≤ stop = subst (λ q. at + size_for q ≤ stop) e l in
    let is : IsBlock (bytes_at page at) = is_block page at (omega arith) (subst (HasLength (slice_index page (at + 2))) e h) in
    let k : length (bytes_at page at) ≡ size_for (number (drop at page)) = length-take (size_for (number (drop at page))) (drop at page) ∙ omega (arith, length-drop at page) in
    record {
      block = bytes_at page at;
      stands = record {
        whole = w;
        behind = b;
        grid = g;
        is = is;
        here = ap (λ q. take q (drop at page)) k;
        before = omega arith;
        inside = omega arith;
      };
    }

-- what must be, where one is there
pub record AsThere (page : List ℕ) (at : ℕ) : Type 0 where
  pub whole : length page ≡ 4096
  pub behind : 64 ≤ at
  pub grid : at % 16 ≡ 0
  pub inside : end page ≤ 4096
  pub before : at + size_for (number (drop at page)) ≤ end page
  pub right : HasLength (slice_index page (at + 2)) (number (drop at page))

pub as_there : (page : List ℕ) (at : ℕ) → IsThere page at → AsThere page at
as_there page at t =
    let s : StandsAt page at t.block = t.stands in
    let l : length t.block ≤ length (drop at page) = omega (arith, length-drop at page, s.before, s.inside, s.whole) in
    let n : number t.block ≡ number (drop at page) = sym (same_bytes page t.block at l s.is s.here) in
    let k : kind t.block ≡ slice_index page (at + 2) = sym (same_kind page t.block at l s.is s.here) ∙ kind_here page at in
    record {
      whole = s.whole;
      behind = s.behind;
      grid = s.grid;
      inside = s.inside;
      before = subst (λ q. at + size_for q ≤ end page) n (subst (λ q. at + q ≤ end page) s.is.size s.before);
      right = subst (λ q. HasLength q (number (drop at page))) k (subst (HasLength (kind t.block)) n s.is.right);
    }

-- the numbers that the code reads
pub read_number : (xs : List ℕ) → from_le_bytes w16 (take 2 xs) ≡ number xs
unfolding number
read_number xs = refl

pub read_word : (xs : List ℕ) → from_le_bytes w64 (take 8 xs) ≡ word xs
unfolding word
read_word xs = refl

word-front : (xs : List ℕ) (n : ℕ) → 8 ≤ n → word xs ≡ word (take n xs)
unfolding word
word-front xs n h = ap (from_le_bytes w64) (sym (take-take 8 n xs h))

pub ruleset finding = (there, as_there, read_number)

-- What is told of it.
pub shown : (page b : List ℕ) (at : ℕ) (o : Object) → StandsAt page at b → o.kind ≡ slice_index page (at + 2) → o.payload_at ≡ at + 16
    → o.len ≡ from_le_bytes w16 (take 2 (drop at page)) → o.link.word ≡ from_le_bytes w64 (take 8 (drop (at + 8) page)) → Shows at b o
shown page b at o s k p n w =
    let l : length b ≤ length (drop at page) = omega (arith, length-drop at page, s.before, s.inside, s.whole) in
    let cut : drop 8 b ≡ take (length b - 8) (drop (at + 8) page) =
    ap (drop 8) (sym s.here ∙ ap (λ q. take q (drop at page)) (let q : length b ≡ 8 + (length b - 8) = omega (arith, s.is.size) in q))
    ∙ drop-take 8 (length b - 8) (drop at page) ∙ ap (take (length b - 8)) (drop-drop 8 at page) in
    record {
      kind = k ∙ sym (kind_here page at) ∙ same_kind page b at l s.is s.here;
      payload_at = p;
      len = n ∙ read_number (drop at page) ∙ same_bytes page b at l s.is s.here;
      link = w ∙ read_word (drop (at + 8) page) ∙ word-front (drop (at + 8) page) (length b - 8) (omega (arith, s.is.size)) ∙ ap word (sym cut);
    }

pub finds : (page : List ℕ) (at : ℕ) (o : Object) → IsThere page at → o.kind ≡ slice_index page (at + 2) → o.payload_at ≡ at + 16
    → o.len ≡ from_le_bytes w16 (take 2 (drop at page)) → o.link.word ≡ from_le_bytes w64 (take 8 (drop (at + 8) page)) → Finds page at o
finds page at o t k p n w = record { block = t.block; stands = t.stands; shows = shown page t.block at o t.stands k p n w }

-- objects have a multiple of 16 bytes
pub grid_of : (bs : List (List ℕ)) → AllByRecursion IsBlock bs → length (concat bs) % 16 ≡ 0
grid_of [] a = refl
grid_of (b ∷ bs) a = let i : IsBlock b = a.0 in omega (arith, length-append b (concat bs), i.size, grid_of bs a.1)

each_one : (before : List (List ℕ)) (b : List ℕ) (behind : List (List ℕ)) → AllByRecursion IsBlock (before ++ b ∷ behind)
    → AllByRecursion IsBlock before × IsBlock b × AllByRecursion IsBlock behind
each_one [] b behind a = (tt, a.0, a.1)
each_one (x ∷ before) b behind a = let r = each_one before b behind a.1 in ((a.0, r.0), r.1, r.2)

pub concat_one : (before : List (List ℕ)) (b : List ℕ) (behind : List (List ℕ)) → concat (before ++ b ∷ behind) ≡ concat before ++ (b ++ concat behind)
concat_one [] b behind = refl
concat_one (x ∷ before) b behind = ap (λ q. x ++ q) (concat_one before b behind) ∙ sym (append_assoc x (concat before) (b ++ concat behind))

-- an object of the page stands where it begins
pub among_here : (page : List ℕ) (before : List (List ℕ)) (b : List ℕ) (behind : List (List ℕ)) (at : ℕ) → IsAmong page before b behind at
    → drop at page ≡ b ++ (concat behind ++ drop (end page) page)
among_here page before b behind at m =
    let tail : List ℕ = drop (end page) page in
    ap (λ q. drop q page) m.begins ∙ sym (drop-drop (length (concat before)) 64 page) ∙ ap (drop (length (concat before))) m.has.objects
    ∙ ap (λ q. drop (length (concat before)) (q ++ tail)) (concat_one before b behind)
    ∙ ap (drop (length (concat before))) (append_assoc (concat before) (b ++ concat behind) tail)
    ∙ drop_at (concat before) (b ++ concat behind ++ tail) (length (concat before)) refl
    ∙ append_assoc b (concat behind) tail

among_ends : (page : List ℕ) (before : List (List ℕ)) (b : List ℕ) (behind : List (List ℕ)) (at : ℕ) → IsAmong page before b behind at
    → at + length b + length (concat behind) ≡ end page
among_ends page before b behind at m =
    omega (arith, m.begins, m.has.ends, ap length (concat_one before b behind), length-append (concat before) (b ++ concat behind), length-append b (concat behind))

pub among_stands : (page : List ℕ) (before : List (List ℕ)) (b : List ℕ) (behind : List (List ℕ)) (at : ℕ) → IsAmong page before b behind at → StandsAt page at b
among_stands page before b behind at m =
    let a = each_one before b behind m.has.each in
    record {
      whole = m.has.whole;
      behind = omega (arith, m.begins);
      grid = let g = grid_of before a.0 in omega (arith, m.begins);
      is = a.1;
      here = ap (take (length b)) (among_here page before b behind at m) ∙ take_at b (concat behind ++ drop (end page) page) (length b) refl;
      before = omega (arith, among_ends page before b behind at m);
      inside = m.has.fits;
    }

among_next : (page : List ℕ) (before : List (List ℕ)) (b c : List ℕ) (behind : List (List ℕ)) (at : ℕ) → IsAmong page before b (c ∷ behind) at → IsAmong page (before ++ b ∷ []) c behind (at + length b)
among_next page before b c behind at m = record {
  has = subst (HasObjects page) (sym (append_assoc before (b ∷ []) (c ∷ behind))) m.has;
  begins = omega (arith, m.begins, ap length (concat_one before b []), length-append (concat before) (b ++ []), length-append b []);
}

pub finds_among : (page : List ℕ) (at : ℕ) (o : Object) → o.kind ≡ slice_index page (at + 2) → o.payload_at ≡ at + 16
    → o.len ≡ from_le_bytes w16 (take 2 (drop at page)) → o.link.word ≡ from_le_bytes w64 (take 8 (drop (at + 8) page)) → FindsAmong page at (Some o)
finds_among page at o k p n w before b behind m = shown page b at o (among_stands page before b behind at m) k p n w

pub finds_none : (page : List ℕ) (at : ℕ) → ¬ (IsThere page at) → FindsAmong page at None
finds_none page at n before b behind m = n (record { block = b; stands = among_stands page before b behind at m })

-- the size of what stands there
pub size_there : (page b : List ℕ) (at : ℕ) → StandsAt page at b → length b ≡ size_for (number (drop at page))
size_there page b at s =
    let l : length b ≤ length (drop at page) = omega (arith, length-drop at page, s.before, s.inside, s.whole) in
    s.is.size ∙ ap size_for (sym (same_bytes page b at l s.is s.here))

pub goes_none : (page : List ℕ) (at : ℕ) → ¬ (IsThere page at) → GoesOn page at None
goes_none page at n before b behind m = absurd (n (record { block = b; stands = among_stands page before b behind at m }))

pub goes_last : (page : List ℕ) (at next : ℕ) → next ≡ at + size_for (number (drop at page)) → ¬ (IsThere page next) → GoesOn page at None
goes_last page at next e n before b [] m = refl
goes_last page at next e n before b (c ∷ behind) m =
    let s : length b ≡ size_for (number (drop at page)) = size_there page b at (among_stands page before b (c ∷ behind) at m) in
    let t : IsThere page (at + length b) = record { block = c; stands = among_stands page (before ++ b ∷ []) c behind (at + length b) (among_next page before b c behind at m) } in
    absurd (n (subst (IsThere page) (ap (λ q. at + q) s ∙ sym e) t))

pub goes_on : (page : List ℕ) (at next : ℕ) → next ≡ at + size_for (number (drop at page)) → IsThere page next → GoesOn page at (Some next)
goes_on page at next e t before b [] m =
    let s : length b ≡ size_for (number (drop at page)) = size_there page b at (among_stands page before b [] at m) in
    absurd (omega (arith, among_ends page before b [] at m, t.stands.before, t.stands.is.size))
goes_on page at next e t before b (c ∷ behind) m =
    let s : length b ≡ size_for (number (drop at page)) = size_there page b at (among_stands page before b (c ∷ behind) at m) in
    (e ∙ ap (λ q. at + q) (sym s), omega arith)

pub is_next : (page : List ℕ) (at next : ℕ) → IsThere page at → next ≡ at + size_for (number (drop at page)) → IsThere page next → IsNext page at next
is_next page at next t e u = record { block = t.block; stands = t.stands; behind = e ∙ ap (λ q. at + q) (sym (size_there page t.block at t.stands)); there = u }

pub not_next_none : (page : List ℕ) (at next : ℕ) → ¬ (IsThere page at) → ¬ (IsNext page at next)
not_next_none page at next n i = n (record { block = i.block; stands = i.stands })

pub not_next_last : (page : List ℕ) (at stop next : ℕ) → stop ≡ at + size_for (number (drop at page)) → ¬ (IsThere page stop) → ¬ (IsNext page at next)
not_next_last page at stop next e n i = n (subst (IsThere page) (i.behind ∙ ap (λ q. at + q) (size_there page i.block at i.stands) ∙ sym e) i.there)

pub ruleset telling = (as_there, finds, finds_among, finds_none, goes_none, goes_last, goes_on, is_next, not_next_none, not_next_last, read_number)
