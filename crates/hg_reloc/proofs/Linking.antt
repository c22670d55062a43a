-- Whether the addresses of a page fit.
use Rattle.std.specs.Prelude.{◌≡◌, ◌≢◌, ℕ, ◌+◌, ◌-◌, ◌*◌, ◌/◌, ◌%◌, ◌<◌, ◌≤◌, ◌↔◌, zero, suc, Bool, true, false, IsTrue, List, [], ◌∷◌, ◌++◌, length, take, drop, slice_index, slice_index_or}
use Rattle.std.specs.Int.{w16, w32, w64, from_le_bytes}
use Rattle.std.specs.List.{AllByRecursion, concat}
use Rattle.std.proofs.Common.{inl, inr, sym, ◌∙◌, ap, subst, refl, arith, length-append, length-drop, append_assoc}
use Rattle.std.proofs.lemmas.List.{drop-drop, take-append-le, drop-append-le, drop_all}
use Rattle.std.proofs.lemmas.Bool.{false≢true}
use Rattle.hg_base.specs.Lines.{has_page}
use Rattle.hg_reloc.specs.Blocks.{number, word, words, frame, frame_number, kind, size_for, end, IsBlock, HasObjects, BeginsObject}
use Rattle.hg_reloc.specs.Checks.{Marks, MayLead, IsLinked, AreLinkedFrom, AreMarked, LinksChecked, HasOddLink, IsRight, starts}
use Rattle.hg_reloc.proofs.Rewriting.{number_at, kind_at}

-- the mark of a place
pub mark_of : (marks : List Bool) (places : List ℕ) (x : ℕ) → Marks marks places → x < 4096 → x % 16 ≡ 0 → slice_index_or marks (x / 16) false ≡ has_page places x
mark_of marks places x m h g = m.is (x / 16) (omega arith) ∙ ap (has_page places) (let e : 16 * (x / 16) ≡ x = omega arith in e)

pub ruleset marking = (mark_of)

-- The words of a part, one after the other: those from the k-th on are still to be looked at.
abbrev pub AllFit : ℕ → ℕ → List ℕ → ℕ → List ℕ → Type 0
AllFit own max places n xs = AllByRecursion (MayLead own max places 4096) (words n xs)

abbrev pub Rest : ℕ → ℕ → List ℕ → List ℕ → ℕ → ℕ → ℕ → Type 0
Rest own max places page at count k = AllFit own max places (count - k) (drop (at + 8 * k) page) ↔ AllFit own max places count (drop at page)

pub rest_start : (own max : ℕ) (places page : List ℕ) (at count : ℕ) → Rest own max places page at count 0
rest_start own max places page at count =
    let n : count - 0 ≡ count = omega arith in
    let d : at + 8 * 0 ≡ at = omega arith in
    let same : AllFit own max places (count - 0) (drop (at + 8 * 0) page) ≡ AllFit own max places count (drop at page) =
    ap (λ q. AllFit own max places q (drop (at + 8 * 0) page)) n ∙ ap (λ q. AllFit own max places count (drop q page)) d in
    (λ h. subst (λ (T : Type 0). T) same h, λ h. subst (λ (T : Type 0). T) (sym same) h)

one_word : (own max : ℕ) (places page : List ℕ) (at count k : ℕ) → k < count
    → AllFit own max places (count - k) (drop (at + 8 * k) page) ≡ (MayLead own max places 4096 (word (drop (at + 8 * k) page)) × AllFit own max places (count - (k + 1)) (drop (at + 8 * (k + 1)) page))
one_word own max places page at count k h =
    let n : count - k ≡ suc (count - (k + 1)) = omega arith in
    let d : drop 8 (drop (at + 8 * k) page) ≡ drop (at + 8 * (k + 1)) page = drop-drop 8 (at + 8 * k) page ∙ ap (λ q. drop q page) (let e : at + 8 * k + 8 ≡ at + 8 * (k + 1) = omega arith in e) in
    ap (λ q. AllFit own max places q (drop (at + 8 * k) page)) n
    ∙ ap (λ q. (MayLead own max places 4096 (word (drop (at + 8 * k) page)) × AllFit own max places (count - (k + 1)) q)) d

word_is : (xs : List ℕ) → from_le_bytes w64 (take 8 xs) ≡ word xs
unfolding word
word_is xs = refl

pub rest_on : (own max : ℕ) (places page : List ℕ) (at count k w : ℕ) → k < count → w ≡ from_le_bytes w64 (take 8 (drop (at + 8 * k) page)) → MayLead own max places 4096 w
    → Rest own max places page at count k → Rest own max places page at count (k + 1)
rest_on own max places page at count k w h e fit r =
    let o = one_word own max places page at count k h in
    let f : MayLead own max places 4096 (word (drop (at + 8 * k) page)) = subst (MayLead own max places 4096) (e ∙ word_is (drop (at + 8 * k) page)) fit in
    (λ a. r.0 (subst (λ (T : Type 0). T) (sym o) (f, a)), λ a. (subst (λ (T : Type 0). T) o (r.1 a)).1)

pub rest_odd : (own max : ℕ) (places page : List ℕ) (at count k w : ℕ) → k < count → w ≡ from_le_bytes w64 (take 8 (drop (at + 8 * k) page)) → ¬ (MayLead own max places 4096 w)
    → Rest own max places page at count k → ¬ (AllFit own max places count (drop at page))
rest_odd own max places page at count k w h e fit r a =
    let o = one_word own max places page at count k h in
    fit (subst (MayLead own max places 4096) (sym (e ∙ word_is (drop (at + 8 * k) page))) (subst (λ (T : Type 0). T) o (r.1 a)).0)

pub rest_end : (own max : ℕ) (places page : List ℕ) (at count k : ℕ) → count ≤ k → Rest own max places page at count k → AllFit own max places count (drop at page)
rest_end own max places page at count k h r =
    let n : count - k ≡ 0 = omega arith in
    r.0 (subst (λ q. AllFit own max places q (drop (at + 8 * k) page)) (sym n) tt)

-- The addresses of one object.
words-front : (n : ℕ) (xs ys : List ℕ) → 8 * n ≤ length xs → words n (xs ++ ys) ≡ words n xs
unfolding word
words-front zero xs ys h = refl
words-front (suc n) xs ys h =
    ap (λ q. from_le_bytes w64 q ∷ words n (drop 8 (xs ++ ys))) (take-append-le 8 xs ys (omega arith))
    ∙ ap (λ q. word xs ∷ words n q) (drop-append-le 8 xs ys (omega arith))
    ∙ ap (λ q. word xs ∷ q) (words-front n (drop 8 xs) ys (omega (arith, length-drop 8 xs)))

word-front : (xs ys : List ℕ) → 8 ≤ length xs → word (xs ++ ys) ≡ word xs
unfolding word
word-front xs ys h = ap (from_le_bytes w64) (take-append-le 8 xs ys h)

behind_at : (page b rest : List ℕ) (at n : ℕ) → drop at page ≡ b ++ rest → n ≤ length b → drop (at + n) page ≡ drop n b ++ rest
behind_at page b rest at n h l = sym (drop-drop n at page) ∙ ap (drop n) h ∙ drop-append-le n b rest l

link_at : (page b rest : List ℕ) (at : ℕ) → IsBlock b → drop at page ≡ b ++ rest → from_le_bytes w64 (take 8 (drop (at + 8) page)) ≡ word (drop 8 b)
link_at page b rest at i h =
    word_is (drop (at + 8) page) ∙ ap word (behind_at page b rest at 8 h (omega (arith, i.size))) ∙ word-front (drop 8 b) rest (omega (arith, i.size, length-drop 8 b))

words_at : (page b rest : List ℕ) (at : ℕ) → IsBlock b → drop at page ≡ b ++ rest → number b % 8 ≡ 0 → words (number b / 8) (drop (at + 16) page) ≡ words (number b / 8) (drop 16 b)
words_at page b rest at i h e =
    ap (words (number b / 8)) (behind_at page b rest at 16 h (omega (arith, i.size)))
    ∙ words-front (number b / 8) (drop 16 b) rest (omega (arith, i.size, length-drop 16 b))

-- a row's link alone
pub row_links : (page : List ℕ) (at own max : ℕ) (marks : List Bool) (r : Bool) (link : ℕ) → link ≡ from_le_bytes w64 (take 8 (drop (at + 8) page)) → slice_index page (at + 2) ≡ 1
    → ((places : List ℕ) → Marks marks places → IsTrue r ↔ MayLead own max places at link) → LinksChecked page at own max marks r
row_links page at own max marks r link e k f = record {
  each = λ places b rest m i h.
      let one : kind b ≡ 1 = sym (kind_at page b rest at i h) ∙ k in
      let w : link ≡ word (drop 8 b) = e ∙ link_at page b rest at i h in (
        λ t. record {
          row = λ _. subst (MayLead own max places at) w ((f places m).0 t);
          no_link = λ two. absurd (omega (arith, one, two));
          directory = λ two. absurd (omega (arith, one, two));
        },
        λ l. (f places m).1 (subst (MayLead own max places at) (sym w) (l.row one)),
      );
}

two_of : (b : List ℕ) → IsBlock b → kind b ≢ 1 → (kind b ≡ 2) × (number b % 8 ≡ 0)
two_of b i n = elim i.right [ inl r ↦ absurd (n r.0) | inr d ↦ d ]

pub odd_link : (page : List ℕ) (at own max : ℕ) (marks : List Bool) (link : ℕ) → link ≡ from_le_bytes w64 (take 8 (drop (at + 8) page)) → slice_index page (at + 2) ≢ 1 → link ≢ 0
    → LinksChecked page at own max marks false
odd_link page at own max marks link e k n = record {
  each = λ places b rest m i h.
      let two = two_of b i (λ o. k (kind_at page b rest at i h ∙ o)) in
      (λ t. absurd (false≢true t), λ l. absurd (n (e ∙ link_at page b rest at i h ∙ l.no_link two.0)));
}

pub directory_links : (page : List ℕ) (at own max : ℕ) (marks : List Bool) (r : Bool) (link n : ℕ) → link ≡ from_le_bytes w64 (take 8 (drop (at + 8) page)) → slice_index page (at + 2) ≢ 1 → link ≡ 0
    → n ≡ from_le_bytes w16 (take 2 (drop at page))
    → ((places : List ℕ) → Marks marks places → IsTrue r ↔ AllFit own max places (n / 8) (drop (at + 16) page)) → LinksChecked page at own max marks r
directory_links page at own max marks r link n e k z c f = record {
  each = λ places b rest m i h.
      let two = two_of b i (λ o. k (kind_at page b rest at i h ∙ o)) in
      let nb : n ≡ number b = c ∙ number_at page b rest at i h in
      let ws : words (n / 8) (drop (at + 16) page) ≡ words (number b / 8) (drop 16 b) = ap (λ q. words (q / 8) (drop (at + 16) page)) nb ∙ words_at page b rest at i h two.1 in (
        λ t. record {
          row = λ one. absurd (k (kind_at page b rest at i h ∙ one));
          no_link = λ _. sym (e ∙ link_at page b rest at i h) ∙ z;
          directory = λ _. subst (AllByRecursion (MayLead own max places 4096)) ws ((f places m).0 t);
        },
        λ l. (f places m).1 (subst (AllByRecursion (MayLead own max places 4096)) (sym ws) (l.directory two.0)),
      );
}

-- its words are inside the page
pub words_inside : (page : List ℕ) (at n : ℕ) → BeginsObject page at → length page ≡ 4096 → slice_index page (at + 2) ≢ 1 → n ≡ from_le_bytes w16 (take 2 (drop at page)) → at + 16 + 8 * (n / 8) ≤ 4096
words_inside page at n o w k c =
    let nb : n ≡ number o.block = c ∙ number_at page o.block o.rest at o.is o.here in
    let l : length (drop at page) ≡ length o.block + length o.rest = ap length o.here ∙ length-append o.block o.rest in
    omega (arith, o.is.size, length-drop at page)

pub head_inside : (page : List ℕ) (at : ℕ) → BeginsObject page at → length page ≡ 4096 → at + 16 ≤ 4096
head_inside page at o w =
    let l : length (drop at page) ≡ length o.block + length o.rest = ap length o.here ∙ length-append o.block o.rest in
    omega (arith, o.is.size, length-drop at page)

pub ruleset linking = (row_links, odd_link, directory_links, words_inside, head_inside)

-- The objects before `at` are looked at, and those on the left are still to be.
pub record IsLinking (page : List ℕ) (own max : ℕ) (marks : List Bool) (at stop : ℕ) : Type 0 where
  pub blocks : List (List ℕ)
  pub has : HasObjects page blocks
  pub marked : Marks marks (starts 64 blocks)
  pub own_is : own ≡ frame page
  pub roots : AllFit own max (starts 64 blocks) 4 (drop 16 page)
  pub left : List (List ℕ)
  pub each : AllByRecursion IsBlock left
  pub here : drop at page ≡ concat left ++ drop (end page) page
  pub reach : at + length (concat left) ≡ stop
  pub stops : stop ≡ end page
  pub same : AreLinkedFrom own max (starts 64 blocks) at left ↔ AreLinkedFrom own max (starts 64 blocks) 64 blocks

pub link_start : (page : List ℕ) (own max : ℕ) (marks : List Bool) (stop : ℕ) (a : AreMarked page marks) → own ≡ frame page → AllFit own max (starts 64 a.blocks) 4 (drop 16 page)
    → stop ≡ end page → IsLinking page own max marks 64 stop
link_start page own max marks stop a o r s = record {
  blocks = a.blocks;
  has = a.has;
  marked = a.marked;
  own_is = o;
  roots = r;
  left = a.blocks;
  each = a.has.each;
  here = a.has.objects;
  reach = sym (s ∙ a.has.ends);
  stops = s;
  same = (λ l. l, λ l. l);
}

pub link_begins : (page : List ℕ) (own max : ℕ) (marks : List Bool) (at stop : ℕ) → IsLinking page own max marks at stop → at < stop → BeginsObject page at
link_begins page own max marks at stop i h = elim i.left as (λ l. AllByRecursion IsBlock l → drop at page ≡ concat l ++ drop (end page) page → at + length (concat l) ≡ stop → BeginsObject page at) [
  | [] ↦ λ a p r. absurd (omega arith)
  | b ∷ left ↦ λ a p r. record { block = b; rest = concat left ++ drop (end page) page; is = a.0; here = p ∙ append_assoc b (concat left) (drop (end page) page) }
] i.each i.here i.reach

-- what is left behind one object
pub record LinksOn (page : List ℕ) (own max : ℕ) (marks : List Bool) (at stop size : ℕ) : Type 0 where
  pub some : 0 < size
  pub inside : at + size ≤ 4096
  pub on : IsLinking page own max marks (at + size) stop

links_on : (page : List ℕ) (own max : ℕ) (marks : List Bool) (at stop : ℕ) (i : IsLinking page own max marks at stop) (left : List (List ℕ)) → AllByRecursion IsBlock left
    → drop at page ≡ concat left ++ drop (end page) page → at + length (concat left) ≡ stop
    → (AreLinkedFrom own max (starts 64 i.blocks) at left ↔ AreLinkedFrom own max (starts 64 i.blocks) 64 i.blocks)
    → at < stop → (n : ℕ) → n ≡ from_le_bytes w16 (take 2 (drop at page)) → LinksChecked page at own max marks true → LinksOn page own max marks at stop (size_for n)
links_on page own max marks at stop i [] a p r s h n c l = absurd (omega arith)
links_on page own max marks at stop i (b ∷ left) a p r s h n c l =
    let tail : List ℕ = drop (end page) page in
    let is : IsBlock b = a.0 in
    let q : drop at page ≡ b ++ (concat left ++ tail) = p ∙ append_assoc b (concat left) tail in
    let z : length b ≡ size_for n = is.size ∙ ap size_for (sym (c ∙ number_at page b (concat left ++ tail) at is q)) in
    let fit : IsLinked own max (starts 64 i.blocks) at b = (l.each (starts 64 i.blocks) b (concat left ++ tail) i.marked is q).0 refl in
    let k : length (b ++ concat left) ≡ length b + length (concat left) = length-append b (concat left) in
    record {
      some = omega arith;
      inside = omega (arith, i.stops, i.has.fits);
      on = subst (λ x. IsLinking page own max marks (at + x) stop) z (record {
        blocks = i.blocks;
        has = i.has;
        marked = i.marked;
        own_is = i.own_is;
        roots = i.roots;
        left = left;
        each = a.1;
        here = behind_at page b (concat left ++ tail) at (length b) q (omega arith) ∙ ap (λ x. x ++ (concat left ++ tail)) (drop_all (length b) b (omega arith));
        reach = omega arith;
        stops = i.stops;
        same = (λ x. s.0 (fit, x), λ x. (s.1 x).1);
      });
    }

pub link_on : (page : List ℕ) (own max : ℕ) (marks : List Bool) (at stop n : ℕ) → IsLinking page own max marks at stop → at < stop → n ≡ from_le_bytes w16 (take 2 (drop at page))
    → LinksChecked page at own max marks true → LinksOn page own max marks at stop (size_for n)
link_on page own max marks at stop n i h c l = links_on page own max marks at stop i i.left i.each i.here i.reach i.same h n c l

link-odd : (page : List ℕ) (own max : ℕ) (marks : List Bool) (at stop : ℕ) (i : IsLinking page own max marks at stop) (left : List (List ℕ)) → AllByRecursion IsBlock left
    → drop at page ≡ concat left ++ drop (end page) page → at + length (concat left) ≡ stop
    → at < stop → LinksChecked page at own max marks false → ¬ (AreLinkedFrom own max (starts 64 i.blocks) at left)
link-odd page own max marks at stop i [] a p r h l x = absurd (omega arith)
link-odd page own max marks at stop i (b ∷ left) a p r h l x =
    let tail : List ℕ = drop (end page) page in
    false≢true ((l.each (starts 64 i.blocks) b (concat left ++ tail) i.marked a.0 (p ∙ append_assoc b (concat left) tail)).1 x.0)

pub link_odd : (page : List ℕ) (own max : ℕ) (marks : List Bool) (at stop : ℕ) → own < max → IsLinking page own max marks at stop → at < stop → LinksChecked page at own max marks false → HasOddLink page max
link_odd page own max marks at stop b i h l = record {
  blocks = i.blocks;
  has = i.has;
  below = omega (arith, i.own_is);
  odd = λ a. link-odd page own max marks at stop i i.left i.each i.here i.reach h l
      (i.same.1 (subst (λ q. AreLinkedFrom q max (starts 64 i.blocks) 64 i.blocks) (sym i.own_is) a.objects));
}

pub roots_odd : (page : List ℕ) (own max : ℕ) (marks : List Bool) (a : AreMarked page marks) → own < max → own ≡ frame page → ¬ (AllFit own max (starts 64 a.blocks) 4 (drop 16 page)) → HasOddLink page max
roots_odd page own max marks a b o n = record {
  blocks = a.blocks;
  has = a.has;
  below = omega (arith, o);
  odd = λ l. n (subst (λ q. AllFit q max (starts 64 a.blocks) 4 (drop 16 page)) (sym o) l.roots);
}

nothing_left : (own max : ℕ) (places : List ℕ) (at : ℕ) (left : List (List ℕ)) → AllByRecursion IsBlock left → length (concat left) ≡ 0 → AreLinkedFrom own max places at left
nothing_left own max places at [] a h = tt
nothing_left own max places at (b ∷ left) a h = absurd (let i : IsBlock b = a.0 in omega (arith, length-append b (concat left), i.size))

pub link_end : (page : List ℕ) (own max : ℕ) (marks : List Bool) (at stop : ℕ) → own < max → IsLinking page own max marks at stop → stop ≤ at → IsRight page max
link_end page own max marks at stop b i h = record {
  blocks = i.blocks;
  has = i.has;
  below = omega (arith, i.own_is);
  linked = record {
    roots = subst (λ q. AllFit q max (starts 64 i.blocks) 4 (drop 16 page)) i.own_is i.roots;
    objects = subst (λ q. AreLinkedFrom q max (starts 64 i.blocks) 64 i.blocks) i.own_is
        (i.same.0 (nothing_left own max (starts 64 i.blocks) at i.left i.each (omega (arith, i.reach))));
  };
}

frame_is : (xs : List ℕ) → from_le_bytes w32 (take 4 xs) ≡ frame_number xs
unfolding frame_number
frame_is xs = refl

pub frame_at : (page : List ℕ) (own : ℕ) → own ≡ from_le_bytes w32 (take 4 (drop 4 page)) → own ≡ frame page
frame_at page own e = e ∙ frame_is (drop 4 page)
