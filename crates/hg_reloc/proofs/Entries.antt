-- One entry more of a map.
use Rattle.std.specs.Prelude.{◌≡◌, ◌≢◌, ℕ, ◌+◌, ◌*◌, ◌/◌, ◌%◌, ◌<◌, ◌≤◌, ◌==◌, ◌||◌, true, false, List, [], ◌∷◌, ◌++◌, length, None, Some, if◌then◌else◌}
use Rattle.std.specs.List.{AllByRecursion}
use Rattle.std.proofs.Common.{sym, ◌∙◌, ap, refl, arith, length-append, inl, inr}
use Rattle.std.proofs.lemmas.List.{map-append}
use Rattle.std.proofs.lemmas.Bool.{false≢true, ne_eqb}
use Rattle.std.proofs.lemmas.Bool.Decides.{eqb_tells}
use Rattle.std.proofs.lemmas.Option.{none-some}
use Rattle.hg_base.specs.Lines.{AreApart}
use Rattle.hg_base.specs.LineLaws.{all_more}
use Rattle.hg_base.specs.TakenLaws.{AreDistinctPages, AreDistinctPages-few, taken_below-le}
use Rattle.hg_base.specs.declared.File.TheVariants.{Temp}
use Rattle.hg_reloc.specs.declared.map.Move.{Move}
use Rattle.hg_reloc.specs.Moves.{Moves, AreMoves, entry, leads_to, olds, news, moved_word}

distinct : (n : ℕ) (xs : List ℕ) → AllByRecursion (λ f. f < n) xs → AreApart xs → AreDistinctPages (λ q. true) Temp n xs
distinct n [] b a = tt
distinct n (x ∷ xs) b a = (b.0, refl, a.0, distinct n xs b.1 a.1)

-- no more numbers are below n, each once, than n
pub few : (n : ℕ) (xs : List ℕ) → AllByRecursion (λ f. f < n) xs → AreApart xs → length xs ≤ n
few n xs b a = omega (arith, AreDistinctPages-few (λ q. true) Temp n xs (distinct n xs b a), taken_below-le (λ q. true) Temp n)

length-olds : (ms : List Move) → length (olds ms) ≡ length ms
length-olds [] = refl
length-olds (m ∷ ms) = omega (arith, length-olds ms)

pub apart_more : (xs : List ℕ) (x : ℕ) → AreApart xs → AllByRecursion (λ y. y ≢ x) xs → AreApart (xs ++ x ∷ [])
apart_more [] x a h = (tt, tt)
apart_more (y ∷ ys) x a h = (all_more (λ z. z ≢ y) ys x a.0 (λ e. h.0 (sym e)), apart_more ys x a.1 h.1)

not_old : (ms : List Move) (f : ℕ) → entry ms f ≡ None → AllByRecursion (λ y. y ≢ f) (olds ms)
not_old [] f h = tt
not_old (m ∷ ms) f h = elim (eqb_tells m.old.0 f) [
  | inl e ↦ let t : (if m.old.0 == f then Some m.new.0 else entry ms f) ≡ Some m.new.0 = ap (λ b. if b then Some m.new.0 else entry ms f) e.0 in absurd (none-some m.new.0 (sym h ∙ t))
  | inr n ↦ (n.1, not_old ms f (sym (ap (λ b. if b then Some m.new.0 else entry ms f) n.0) ∙ h))
]

not_new : (ms : List Move) (f : ℕ) → leads_to ms f ≡ false → AllByRecursion (λ y. y ≢ f) (news ms)
not_new [] f h = tt
not_new (m ∷ ms) f h = elim (eqb_tells m.new.0 f) [
  | inl e ↦ absurd (false≢true (sym h ∙ ap (λ b. b || leads_to ms f) e.0))
  | inr n ↦ (n.1, not_new ms f (sym (ap (λ b. b || leads_to ms f) n.0) ∙ h))
]

entry-more : (ms : List Move) (m : Move) (f : ℕ) → entry ms m.old.0 ≡ None → entry (ms ++ m ∷ []) f ≡ (if m.old.0 == f then Some m.new.0 else entry ms f)
entry-more [] m f h = refl
entry-more (x ∷ ms) m f h = elim (eqb_tells x.old.0 m.old.0) [
  | inl e ↦ absurd (none-some x.new.0 (sym h ∙ ap (λ b. if b then Some x.new.0 else entry ms m.old.0) e.0))
  | inr n ↦
      let rest = entry-more ms m f (sym (ap (λ b. if b then Some x.new.0 else entry ms m.old.0) n.0) ∙ h) in
      elim (eqb_tells x.old.0 f) [
        | inl e ↦ let d : m.old.0 ≢ f = (λ q. n.1 (e.1 ∙ sym q)) in rw (e.0, ne_eqb m.old.0 f d) refl
        | inr k ↦ rw (k.0) rest
      ]
]

leads-more : (ms : List Move) (m : Move) (f : ℕ) → leads_to (ms ++ m ∷ []) f ≡ (if m.new.0 == f then true else leads_to ms f)
leads-more [] m f = elim (m.new.0 == f) as (λ b. (b || false) ≡ (if b then true else false)) [ true ↦ refl | false ↦ refl ]
leads-more (x ∷ ms) m f =
    let rest = leads-more ms m f in
    elim (x.new.0 == f) as (λ b. (b || leads_to (ms ++ m ∷ []) f) ≡ (if m.new.0 == f then true else (b || leads_to ms f))) [
      | true ↦ elim (m.new.0 == f) as (λ b. true ≡ (if b then true else true)) [ true ↦ refl | false ↦ refl ]
      | false ↦ rest
    ]

olds-more : (ms : List Move) (m : Move) → olds (ms ++ m ∷ []) ≡ olds ms ++ m.old.0 ∷ []
olds-more ms m = map-append (λ (x : Move). x.old.0) ms (m ∷ [])

news-more : (ms : List Move) (m : Move) → news (ms ++ m ∷ []) ≡ news ms ++ m.new.0 ∷ []
news-more ms m = map-append (λ (x : Move). x.new.0) ms (m ∷ [])

pub sound_more : (max : ℕ) (ms : List Move) (m : Move) → AreMoves (record { max = max; entries = ms }) → m.old.0 < max → m.new.0 < max → entry ms m.old.0 ≡ None → leads_to ms m.new.0 ≡ false
    → AreMoves (record { max = max; entries = ms ++ m ∷ [] })
sound_more max ms m a o n e l = record {
  from_below = rw (olds-more ms m) (all_more (λ f. f < max) (olds ms) m.old.0 a.from_below o);
  from_apart = rw (olds-more ms m) (apart_more (olds ms) m.old.0 a.from_apart (not_old ms m.old.0 e));
  to_below = rw (news-more ms m) (all_more (λ f. f < max) (news ms) m.new.0 a.to_below n);
  to_apart = rw (news-more ms m) (apart_more (news ms) m.new.0 a.to_apart (not_new ms m.new.0 l));
}

-- a map that has no entry for a frame below max has room for one
pub room : (max : ℕ) (ms : List Move) (f : ℕ) → AreMoves (record { max = max; entries = ms }) → f < max → entry ms f ≡ None → length ms < max
room max ms f a l e =
    let n = few max (olds ms ++ f ∷ []) (all_more (λ g. g < max) (olds ms) f a.from_below l) (apart_more (olds ms) f a.from_apart (not_old ms f e)) in
    omega (arith, n, length-olds ms, length-append (olds ms) (f ∷ []))

pub entry_more : (ms : List Move) (m : Move) (f : ℕ) → entry ms m.old.0 ≡ None → entry (ms ++ m ∷ []) f ≡ (if m.old.0 == f then Some m.new.0 else entry ms f)
entry_more ms m f h = entry-more ms m f h

pub leads_more : (ms : List Move) (m : Move) (f : ℕ) → leads_to (ms ++ m ∷ []) f ≡ (if m.new.0 == f then true else leads_to ms f)
leads_more ms m f = leads-more ms m f

none_below : (max : ℕ) → AreMoves (record { max = max; entries = [] })
none_below max = record { from_below = tt; from_apart = tt; to_below = tt; to_apart = tt }

pub ruleset more = (sound_more, room, entry_more, leads_more)

-- no entry is for a frame that is not below max
pub none_above : (max : ℕ) (ms : List Move) (f : ℕ) → AllByRecursion (λ g. g < max) (olds ms) → max ≤ f → entry ms f ≡ None
none_above max [] f a h = refl
none_above max (m ∷ ms) f a h =
    let d : m.old.0 ≢ f = (λ e. absurd (let l = a.0 in omega arith)) in
    rw (ne_eqb m.old.0 f d) (none_above max ms f a.1 h)

pub moved_above : (m : Moves) (w : ℕ) → AreMoves m → m.max ≤ w / 4096 → w ≡ moved_word m w
moved_above m w a h = elim (eqb_tells w 0) [
  | inl e ↦ rw (e.0) e.1
  | inr n ↦ rw (n.0, none_above m.max m.entries (w / 4096) a.from_below h) (omega arith)
]

pub moved_none : (m : Moves) (w : ℕ) → entry m.entries (w / 4096) ≡ None → w ≡ moved_word m w
moved_none m w h = elim (eqb_tells w 0) [
  | inl e ↦ rw (e.0) e.1
  | inr n ↦ rw (n.0, h) (omega arith)
]

pub moved_some : (m : Moves) (w g : ℕ) → w ≢ 0 → entry m.entries (w / 4096) ≡ Some g → g * 4096 + w % 4096 ≡ moved_word m w
moved_some m w g n h = rw (ne_eqb w 0 n, h) refl

pub moved_nil : (m : Moves) (w : ℕ) → w ≡ 0 → w ≡ moved_word m w
moved_nil m w h = rw h refl

pub ruleset moving = (moved_above, moved_none, moved_some, moved_nil)
