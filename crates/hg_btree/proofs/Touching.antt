-- A page that was pinned, written and given back.
use Rattle.std.specs.Prelude.{◌≡◌, ◌≢◌, ℕ, Bool, true, false, List, Option, Some, None}
use Rattle.std.proofs.Common.{sym, ◌∙◌, ap, subst, refl, arith, inl, inr}
use Rattle.std.proofs.lemmas.Bool.{cases_eq}
use Rattle.std.proofs.lemmas.Bool.Decides.{nat_tests}
use Rattle.hg_base.specs.Space.{Space, Counts, NoPins, IsPinned, key, at, unpinned_bytes, with_pin, with_counts, with_bytes, without_pin}
use Rattle.hg_base.specs.Causes.{Later, HasCause}
use Rattle.hg_base.specs.Steadiness.{Mine, Steady}
use Rattle.hg_base.specs.declared.PageId.{PageId}
use Rattle.hg_btree.specs.Steps.{none_mine, page_mine}
use Rattle.hg_btree.specs.Leaf.{ChangesPage, LooksAt}

at-other : {X : Type 0} (f : ℕ → X) (p : ℕ) (x : X) (q : ℕ) → q ≢ p → at f p x q ≡ f q
at-other f p x q h = grind (arith, nat_tests)

pub at-here : {X : Type 0} (f : ℕ → X) (p : ℕ) (x : X) → at f p x p ≡ x
at-here f p x = grind (arith, nat_tests)

unpinned_at : (f : ℕ → Bool) (p q : ℕ) → f q ≡ false → at (at f p true) p false q ≡ false
unpinned_at f p q e = grind (arith, nat_tests)

some_list : (x y : List ℕ) → ◌≡◌ {A = Option (List ℕ)} (Some x) (Some y) → x ≡ y
some_list x y e = cc

-- the space behind it
abbrev behind : Space → ℕ → List ℕ → Counts → List ℕ → Space
behind a p held n new = without_pin (with_bytes (with_counts (with_pin a p held) n) p new) p

bytes_other : (a : Space) (p : ℕ) (held : List ℕ) (n : Counts) (new : List ℕ) (q : ℕ) → q ≢ p → (behind a p held n new).bytes q ≡ a.bytes q
bytes_other a p held n new q d =
    let f : ℕ → Option (List ℕ) = at a.bytes p (Some held) in
    let g : ℕ → Option (List ℕ) = at f p (Some new) in
    at-other g p (unpinned_bytes a.told (g p)) q d ∙ at-other f p (Some new) q d ∙ at-other a.bytes p (Some held) q d

bytes_here : (a : Space) (p : ℕ) (held : List ℕ) (n : Counts) (new : List ℕ) → (behind a p held n new).bytes p ≡ unpinned_bytes a.told (Some new)
bytes_here a p held n new =
    let f : ℕ → Option (List ℕ) = at a.bytes p (Some held) in
    let g : ℕ → Option (List ℕ) = at f p (Some new) in
    at-here g p (unpinned_bytes a.told (g p)) ∙ ap (unpinned_bytes a.told) (at-here f p (Some new))

steady_behind : (m : Mine) (a : Space) (p : ℕ) (held : List ℕ) (n : Counts) (new : List ℕ) → NoPins a → Later a.counts n
    → ((q : ℕ) → (m.pages q → ⊥) → (behind a p held n new).bytes q ≡ a.bytes q) → Steady m a (behind a p held n new)
steady_behind m a p held n new out l b = record {
  pins_before = out;
  pins_after = record { none_out = let z = out.none_out in omega arith; not_pinned = λ q. unpinned_at a.pinned p q (out.not_pinned q) };
  told = refl;
  limit = refl;
  device_limit = refl;
  taken = λ q x. refl;
  of_heap = λ q x. refl;
  pages = λ q x h. record { taken = refl; of_heap = refl; bytes = b q x; next = refl };
  heaps = λ q x. refl;
  current = refl;
  most = refl;
  caps = λ r. refl;
  peaks = λ r x. refl;
  counts = l;
}

-- where the page shows what it showed, nothing changed
bytes_all : (a : Space) (p : ℕ) (held : List ℕ) (n : Counts) (new : List ℕ) → a.bytes p ≡ unpinned_bytes a.told (Some new) → (q : ℕ)
    → (behind a p held n new).bytes q ≡ a.bytes q
bytes_all a p held n new e q = elim (cases_eq q p) [
  | inl s ↦ ap (behind a p held n new).bytes s ∙ bytes_here a p held n new ∙ sym e ∙ ap a.bytes (sym s)
  | inr d ↦ bytes_other a p held n new q d
]

hidden_same : (b : Bool) (x : Option (List ℕ)) (held new : List ℕ) → b ≡ false → x ≡ unpinned_bytes b (Some held) → x ≡ unpinned_bytes b (Some new)
hidden_same true x held new e h = absurd (let f : true ≡ false = e in cc)
hidden_same false x held new e h = h

shown_held : (b : Bool) (x : Option (List ℕ)) (held old : List ℕ) → x ≡ unpinned_bytes b (Some held) → x ≡ Some old → (held ≡ old) × (b ≡ true)
shown_held true x held old h e = (some_list held old (sym h ∙ e), refl)
shown_held false x held old h e = absurd (let f : ◌≡◌ {A = Option (List ℕ)} None (Some old) = sym h ∙ e in cc)

held_is : (a m : Space) (p : ℕ) (old : List ℕ) (i : IsPinned a m p) → m.bytes p ≡ Some old → i.held ≡ old
held_is a m p old i e =
    let f : m.bytes p ≡ Some i.held = ap (λ (s : Space). s.bytes p) i.after ∙ at-here a.bytes p (Some i.held) in
    some_list i.held old (sym f ∙ e)

pub pinned_here : (a m : Space) (p : ℕ) → IsPinned a m p → m.pinned p ≡ true
pinned_here a m p i = ap (λ (s : Space). s.pinned p) i.after ∙ at-here a.pinned p true

behind_is : (a m d : Space) (p : ℕ) (new : List ℕ) (i : IsPinned a m p) → d ≡ without_pin (with_bytes m p new) p → d ≡ behind a p i.held i.counts new
behind_is a m d p new i e = e ∙ ap (λ (s : Space). without_pin (with_bytes s p new) p) i.after

later_is : (a m : Space) (p : ℕ) (i : IsPinned a m p) → Later a.counts m.counts → Later a.counts i.counts
later_is a m p i l = let Q : Counts → Type 0 = λ n. Later a.counts n in subst Q (ap (λ (s : Space). s.counts) i.after) l

pub changed : (a m d : Space) (page : PageId) (old new : List ℕ) (P : List ℕ → List ℕ → Type 0) → NoPins a → (i : IsPinned a m (key page)) → m.bytes (key page) ≡ Some old
    → d ≡ without_pin (with_bytes m (key page) new) (key page) → Later a.counts m.counts → P old new → ChangesPage a d page P
changed a m d page old new P out i told e l h =
    let p : ℕ = key page in
    let n = later_is a m p i l in
    let o = held_is a m p old i told in
    let Q : Space → Type 0 = λ s. ChangesPage a s page P in
    subst Q (sym (behind_is a m d p new i e)) (record {
      steady = steady_behind (page_mine page) a p i.held i.counts new out n (λ q x. bytes_other a p i.held i.counts new q x);
      taken = refl;
      of_heap = refl;
      links = refl;
      hidden = λ f. steady_behind none_mine a p i.held i.counts new out n (λ q _. bytes_all a p i.held i.counts new (hidden_same a.told (a.bytes p) i.held new f i.was) q);
      others = λ q x. bytes_other a p i.held i.counts new q x;
      bytes = λ b t.
          let s = shown_held a.told (a.bytes p) i.held b i.was t in
          record {
            bytes = new;
            told = bytes_here a p i.held i.counts new ∙ ap (λ k. unpinned_bytes k (Some new)) s.1;
            are = let R : List ℕ → Type 0 = λ k. P k new in subst R (sym o ∙ s.0) h;
          };
    })

pub looked : (a m d : Space) (page : PageId) (old new : List ℕ) (P : List ℕ → Type 0) → NoPins a → (i : IsPinned a m (key page)) → m.bytes (key page) ≡ Some old
    → d ≡ without_pin (with_bytes m (key page) new) (key page) → Later a.counts m.counts → new ≡ old → P old → LooksAt a d page P
looked a m d page old new P out i told e l same h =
    let p : ℕ = key page in
    let n = later_is a m p i l in
    let o = held_is a m p old i told in
    let Q : Space → Type 0 = λ s. LooksAt a s page P in
    let was : a.bytes p ≡ unpinned_bytes a.told (Some new) = i.was ∙ ap (λ k. unpinned_bytes a.told (Some k)) (o ∙ sym same) in
    subst Q (sym (behind_is a m d p new i e)) (record {
      looks = record { steady = steady_behind none_mine a p i.held i.counts new out n (λ q _. bytes_all a p i.held i.counts new was q); taken = refl };
      is = λ b t. let s = shown_held a.told (a.bytes p) i.held b i.was t in subst P (sym o ∙ s.0) h;
    })

pub cause_behind : (a m d : Space) (p : ℕ) (new : List ℕ) → d ≡ without_pin (with_bytes m p new) p → HasCause a m None → HasCause a d None
cause_behind a m d p new e h = let Q : Space → Type 0 = λ s. HasCause a s None in subst Q (sym e) (record { later = h.later; counts = h.counts; damage = h.damage })

-- the bytes that a pin holds are those that were told
pub told_is : (a m : Space) (p : ℕ) (old bytes : List ℕ) → IsPinned a m p → m.bytes p ≡ Some old → a.bytes p ≡ Some bytes → bytes ≡ old
told_is a m p old bytes i e t = sym ((shown_held a.told (a.bytes p) i.held bytes i.was t).0) ∙ held_is a m p old i e
