-- Where the object stands that an address names: its page is the one in the frame of the address, and it
-- begins at the address's offset there.
use Rattle.std.specs.Prelude.{◌≡◌, ℕ, ◌+◌, ◌*◌, ◌⊎◌, List, [], ◌∷◌, ◌++◌, length, map, slice_get, Option, None, Some, option_map, if◌then◌else◌}
use Rattle.std.specs.List.{flat_map, sum_by}
use Rattle.std.proofs.Common.{inl, inr, sym, ◌∙◌, ap, refl, arith, length-append}
use Rattle.std.proofs.lemmas.Bool.Decides.{eqb_tells}
use Rattle.std.proofs.lemmas.List.Sums.{sum_by-cons}
use Rattle.std.proofs.lemmas.Option.{none-some}
use Rattle.hg_base.specs.Content.{Object, object_size, page_end, offsets_from, addresses_in}
use Rattle.hg_base.specs.HeapContent.{place_in}

-- The object named is the n-th of all: on the page that stands in this frame, behind those in front.
pub record Located (layout : List (List Object)) (fs : List ℕ) (address n : ℕ) : Type 0 where
  pub before : List (List Object)
  pub front : List Object
  pub object : Object
  pub behind : List Object
  pub after : List (List Object)
  pub frame : ℕ
  pub layout_is : layout ≡ before ++ (front ++ object ∷ behind) ∷ after
  pub place : n ≡ length (flat_map (λ page. page) before) + length front
  pub in_frame : slice_get fs (length before) ≡ Some frame
  pub address_is : address ≡ frame * 4096 + page_end front

record OnPage (os : List Object) (f at address n : ℕ) : Type 0 where
  front : List Object
  object : Object
  behind : List Object
  page_is : os ≡ front ++ object ∷ behind
  place : n ≡ length front
  address_is : address ≡ f * 4096 + (at + sum_by object_size front)

record Behind (os : List Object) (rest : List ℕ) (address n : ℕ) : Type 0 where
  more : ℕ
  place : n ≡ length os + more
  found : place_in rest address ≡ Some more

record OneLess (p : Option ℕ) (n : ℕ) : Type 0 where
  less : ℕ
  is : p ≡ Some less
  more : less + 1 ≡ n

some_one : (x y : ℕ) → ◌≡◌ {A = Option ℕ} (Some x) (Some y) → x ≡ y
some_one x y e = cc

one_less : (p : Option ℕ) (n : ℕ) → option_map (λ k. k + 1) p ≡ Some n → OneLess p n
one_less None n e = absurd (none-some n e)
one_less (Some k) n e = record { less = k; is = refl; more = some_one (k + 1) n e }

on_page_or_behind : (os : List Object) (f at : ℕ) (rest : List ℕ) (address n : ℕ) → place_in (map (λ x. f * 4096 + x) (offsets_from at os) ++ rest) address ≡ Some n
    → OnPage os f at address n ⊎ Behind os rest address n
on_page_or_behind [] f at rest address n e = inr (record { more = n; place = omega arith; found = e })
on_page_or_behind (o ∷ os) f at rest address n e =
    let p : Option ℕ = place_in (map (λ x. f * 4096 + x) (offsets_from (at + object_size o) os) ++ rest) address in
    elim (eqb_tells (f * 4096 + at) address) [
      | inl h ↦
          let z : n ≡ 0 = sym (some_one 0 n (sym (ap (λ b. if b then Some 0 else option_map (λ k. k + 1) p) h.0) ∙ e)) in
          inl (record { front = []; object = o; behind = os; page_is = refl; place = z; address_is = sym h.1 ∙ omega arith })
      | inr h ↦
          let l : OneLess p n = one_less p n (sym (ap (λ b. if b then Some 0 else option_map (λ k. k + 1) p) h.0) ∙ e) in
          elim (on_page_or_behind os f (at + object_size o) rest address l.less l.is) [
            | inl r ↦ inl (record {
              front = o ∷ r.front;
              object = r.object;
              behind = r.behind;
              page_is = ap (λ q. o ∷ q) r.page_is;
              place = omega (arith, l.more, r.place);
              address_is = r.address_is ∙ omega (arith, sum_by-cons object_size o r.front);
            })
            | inr r ↦ inr (record { more = r.more; place = omega (arith, l.more, r.place); found = r.found })
          ]
    ]

pub located : (layout : List (List Object)) (fs : List ℕ) (address n : ℕ) → place_in (addresses_in layout fs) address ≡ Some n → Located layout fs address n
located [] fs address n e = absurd (none-some n e)
located (os ∷ layout) [] address n e = absurd (none-some n e)
located (os ∷ layout) (f ∷ fs) address n e = elim (on_page_or_behind os f 64 (addresses_in layout fs) address n e) [
  | inl r ↦ record {
    before = [];
    front = r.front;
    object = r.object;
    behind = r.behind;
    after = layout;
    frame = f;
    layout_is = ap (λ q. q ∷ layout) r.page_is;
    place = r.place ∙ omega arith;
    in_frame = refl;
    address_is = r.address_is;
  }
  | inr r ↦
      let l : Located layout fs address r.more = located layout fs address r.more r.found in
      record {
        before = os ∷ l.before;
        front = l.front;
        object = l.object;
        behind = l.behind;
        after = l.after;
        frame = l.frame;
        layout_is = ap (λ q. os ∷ q) l.layout_is;
        place = omega (arith, r.place, l.place, length-append os (flat_map (λ page. page) l.before));
        in_frame = l.in_frame;
        address_is = l.address_is;
      }
]
