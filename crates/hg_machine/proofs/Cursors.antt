-- Cursors by their names: who stays open and wants rows when another one changes, leaves or is closed.
use Rattle.std.proofs.Common.{◌≡◌, ℕ, suc, zero, ◌+◌, ◌-◌, ◌<◌, ◌≤◌, Bool, true, false, List, [], ◌∷◌, ◌++◌, Option, Some, None, length, take, drop, refl, sym, ap, ◌∙◌, subst, arith}
use Rattle.std.specs.List.{AllByRecursion}
use Rattle.std.specs.Cmp.{IsEquivalence}
use Rattle.std.proofs.lemmas.Cmp.{nat_list_eq_equiv}
use Rattle.std.proofs.lemmas.Bool.{true≢false}
use Rattle.hg_machine.specs.Plain.Laws.{WantsRows}
use Rattle.hg_machine.specs.Plain.Replies.{CursorName}
use Rattle.hg_machine.specs.Plain.Rounds.{wants_more}
use Rattle.hg_machine.specs.Plain.State.{CursorState, same_cursor, cursor_named, cursor_set, without_cursor, without_name}

-- ---- lists of names

pub all_append : {X : Type 0} (P : X → Type 0) (xs ys : List X) → AllByRecursion P xs → AllByRecursion P ys → AllByRecursion P (xs ++ ys)
all_append P [] ys a b = b
all_append P (x ∷ xs) ys a b = (a.0, all_append P xs ys a.1 b)

pub all_one : {X : Type 0} (P : X → Type 0) (x : X) → P x → AllByRecursion P (x ∷ [])
all_one P x p = (p, tt)

pub all_take : {X : Type 0} (P : X → Type 0) (n : ℕ) (xs : List X) → AllByRecursion P xs → AllByRecursion P (take n xs)
all_take P zero xs a = tt
all_take P (suc n) [] a = tt
all_take P (suc n) (x ∷ xs) a = (a.0, all_take P n xs a.1)

pub all_drop : {X : Type 0} (P : X → Type 0) (n : ℕ) (xs : List X) → AllByRecursion P xs → AllByRecursion P (drop n xs)
all_drop P zero xs a = a
all_drop P (suc n) [] a = tt
all_drop P (suc n) (x ∷ xs) a = all_drop P n xs a.1

pub all_weaker : {X : Type 0} (P Q : X → Type 0) (xs : List X) → ((x : X) → P x → Q x) → AllByRecursion P xs → AllByRecursion Q xs
all_weaker P Q [] f a = tt
all_weaker P Q (x ∷ xs) f a = (f x a.0, all_weaker P Q xs f a.1)

-- ---- names

pub same_symm : (a b : CursorName) → same_cursor a b ≡ same_cursor b a
same_symm None None = refl
same_symm None (Some b) = refl
same_symm (Some a) None = refl
same_symm (Some a) (Some b) = nat_list_eq_equiv.symm a b

pub same_congr : (a b c : CursorName) → same_cursor a b ≡ true → same_cursor a c ≡ same_cursor b c
same_congr None None c e = refl
same_congr None (Some b) c e = cc
same_congr (Some a) None c e = cc
same_congr (Some a) (Some b) None e = refl
same_congr (Some a) (Some b) (Some c) e = nat_list_eq_equiv.congr a b c e

pub same_refl : (a : CursorName) → same_cursor a a ≡ true
same_refl None = refl
same_refl (Some a) = nat_list_eq_equiv.refl a

-- names that are left when one is taken out are other ones
pub others_stay : (P Q : CursorName → Type 0) (names : List CursorName) (name : CursorName)
    → ((n : CursorName) → P n → same_cursor name n ≡ false → Q n) → AllByRecursion P names → AllByRecursion Q (without_name names name)
others_stay P Q [] name f a = tt
others_stay P Q (n ∷ ns) name f a = go (same_cursor name n) refl (others_stay P Q ns name f a.1)
  where
    go : (b : Bool) → same_cursor name n ≡ b → AllByRecursion Q (without_name ns name) → AllByRecursion Q (without_name (n ∷ ns) name)
    go true e later = rw e later
    go false e later = rw e (f n a.0 e, later)

-- ---- who wants rows

wants_same : (cursors others : List CursorState) (name : CursorName) → cursor_named others name ≡ cursor_named cursors name → WantsRows cursors name → WantsRows others name
wants_same cursors others name e w = record { cursor = w.cursor; is_there = e ∙ w.is_there; wants = w.wants }

-- another cursor is closed
pub named_without : (cursors : List CursorState) (gone name : CursorName) → same_cursor gone name ≡ false → cursor_named (without_cursor cursors gone) name ≡ cursor_named cursors name
named_without [] gone name other = refl
named_without (c ∷ cs) gone name other = go (same_cursor gone c.name) refl (named_without cs gone name other)
  where
    under : (b : Bool) → same_cursor name c.name ≡ b → cursor_named (without_cursor cs gone) name ≡ cursor_named cs name
        → cursor_named (c ∷ without_cursor cs gone) name ≡ cursor_named (c ∷ cs) name
    under true f later = rw f refl
    under false f later = rw f later

    go : (b : Bool) → same_cursor gone c.name ≡ b → cursor_named (without_cursor cs gone) name ≡ cursor_named cs name
        → cursor_named (without_cursor (c ∷ cs) gone) name ≡ cursor_named (c ∷ cs) name
    go true e later =
        let differ : same_cursor name c.name ≡ false = same_symm name c.name ∙ (sym (same_congr gone c.name name e) ∙ other) in
        rw (e, differ) later
    go false e later = rw e (under (same_cursor name c.name) refl later)

pub wants_without : (cursors : List CursorState) (gone name : CursorName) → WantsRows cursors name → same_cursor gone name ≡ false → WantsRows (without_cursor cursors gone) name
wants_without cursors gone name w other = wants_same cursors (without_cursor cursors gone) name (named_without cursors gone name other) w

-- a cursor is in another state: it alone is
named_set_here : (c new : CursorState) (cs : List CursorState) (name n : CursorName) → same_cursor name c.name ≡ true → new.name ≡ c.name → same_cursor name n ≡ false
    → cursor_named (new ∷ cs) n ≡ cursor_named (c ∷ cs) n
named_set_here c new cs name n e same differ =
    let apart : same_cursor n c.name ≡ false = same_symm n c.name ∙ (sym (same_congr name c.name n e) ∙ differ) in
    let apart_new : same_cursor n new.name ≡ false = ap (λ m. same_cursor n m) same ∙ apart in
    rw (apart, apart_new) refl

pub named_set : (cursors : List CursorState) (name : CursorName) (old new : CursorState) → cursor_named cursors name ≡ Some old → new.name ≡ old.name
    → (n : CursorName) → same_cursor name n ≡ false → cursor_named (cursor_set cursors name new) n ≡ cursor_named cursors n
named_set [] name old new is same n differ = refl
named_set (c ∷ cs) name old new is same n differ = go (same_cursor name c.name) refl (λ later. named_set cs name old new later same n differ)
  where
    under : (b : Bool) → same_cursor n c.name ≡ b → cursor_named (cursor_set cs name new) n ≡ cursor_named cs n
        → cursor_named (c ∷ cursor_set cs name new) n ≡ cursor_named (c ∷ cs) n
    under true f later = rw f refl
    under false f later = rw f later

    go : (b : Bool) → same_cursor name c.name ≡ b → (cursor_named cs name ≡ Some old → cursor_named (cursor_set cs name new) n ≡ cursor_named cs n)
        → cursor_named (cursor_set (c ∷ cs) name new) n ≡ cursor_named (c ∷ cs) n
    go true e f =
        let at : Some c ≡ Some old = sym (rw e refl) ∙ is in
        let here : c ≡ old = cc in
        rw e (named_set_here c new cs name n e (same ∙ sym (ap (λ (x : CursorState). x.name) here)) differ)
    go false e f =
        let later : cursor_named cs name ≡ Some old = sym (rw e refl) ∙ is in
        rw e (under (same_cursor n c.name) refl (f later))

-- and it is in that state
pub named_set_itself : (cursors : List CursorState) (name : CursorName) (old new : CursorState) → cursor_named cursors name ≡ Some old → new.name ≡ old.name
    → cursor_named (cursor_set cursors name new) name ≡ Some new
named_set_itself [] name old new is same = absurd (some_is_not_none is)
  where
    some_is_not_none : None ≡ Some old → ⊥
    some_is_not_none e = cc
named_set_itself (c ∷ cs) name old new is same = go (same_cursor name c.name) refl (λ later. named_set_itself cs name old new later same)
  where
    go : (b : Bool) → same_cursor name c.name ≡ b → (cursor_named cs name ≡ Some old → cursor_named (cursor_set cs name new) name ≡ Some new)
        → cursor_named (cursor_set (c ∷ cs) name new) name ≡ Some new
    go true e f =
        let at : Some c ≡ Some old = sym (rw e refl) ∙ is in
        let here : c ≡ old = cc in
        let again : same_cursor name new.name ≡ true = ap (λ m. same_cursor name m) (same ∙ sym (ap (λ (x : CursorState). x.name) here)) ∙ e in
        rw (e, again) refl
    go false e f =
        let later : cursor_named cs name ≡ Some old = sym (rw e refl) ∙ is in
        rw (e, e) (f later)

-- equal names find the same cursor
pub named_congr : (cursors : List CursorState) (a b : CursorName) → same_cursor a b ≡ true → cursor_named cursors a ≡ cursor_named cursors b
named_congr [] a b e = refl
named_congr (c ∷ cs) a b e = go (same_cursor b c.name) refl (named_congr cs a b e)
  where
    go : (t : Bool) → same_cursor b c.name ≡ t → cursor_named cs a ≡ cursor_named cs b → cursor_named (c ∷ cs) a ≡ cursor_named (c ∷ cs) b
    go true f later = let g : same_cursor a c.name ≡ true = same_congr a b c.name e ∙ f in rw (f, g) refl
    go false f later = let g : same_cursor a c.name ≡ false = same_congr a b c.name e ∙ f in rw (f, g) later

-- whoever wants rows still does when a cursor is in another state in which it wants some
pub wants_set : (cursors : List CursorState) (name : CursorName) (old new : CursorState) → cursor_named cursors name ≡ Some old → new.name ≡ old.name
    → wants_more new.wanted ≡ true → (n : CursorName) → WantsRows cursors n → WantsRows (cursor_set cursors name new) n
wants_set cursors name old new is same wants n w = go (same_cursor name n) refl
  where
    go : (b : Bool) → same_cursor name n ≡ b → WantsRows (cursor_set cursors name new) n
    go true e = record {
      cursor = new;
      is_there = sym (named_congr (cursor_set cursors name new) name n e) ∙ named_set_itself cursors name old new is same;
      wants = wants;
    }
    go false e = wants_same cursors (cursor_set cursors name new) n (named_set cursors name old new is same n e) w

-- and so do the others in whatever state it is
pub wants_set_other : (cursors : List CursorState) (name : CursorName) (old new : CursorState) → cursor_named cursors name ≡ Some old → new.name ≡ old.name
    → (n : CursorName) → WantsRows cursors n → same_cursor name n ≡ false → WantsRows (cursor_set cursors name new) n
wants_set_other cursors name old new is same n w differ = wants_same cursors (cursor_set cursors name new) n (named_set cursors name old new is same n differ) w

-- a cursor more
pub named_more : (cursors more : List CursorState) (name : CursorName) (c : CursorState) → cursor_named cursors name ≡ Some c → cursor_named (cursors ++ more) name ≡ Some c
named_more [] more name c is = absurd (some_is_not_none is)
  where
    some_is_not_none : None ≡ Some c → ⊥
    some_is_not_none e = cc
named_more (x ∷ cs) more name c is = go (same_cursor name x.name) refl (λ later. named_more cs more name c later)
  where
    go : (b : Bool) → same_cursor name x.name ≡ b → (cursor_named cs name ≡ Some c → cursor_named (cs ++ more) name ≡ Some c)
        → cursor_named ((x ∷ cs) ++ more) name ≡ Some c
    go true e f = let at : Some x ≡ Some c = sym (rw e refl) ∙ is in rw e at
    go false e f = let later : cursor_named cs name ≡ Some c = sym (rw e refl) ∙ is in rw e (f later)

pub wants_more_open : (cursors more : List CursorState) (name : CursorName) → WantsRows cursors name → WantsRows (cursors ++ more) name
wants_more_open cursors more name w = record { cursor = w.cursor; is_there = named_more cursors more name w.cursor w.is_there; wants = w.wants }
